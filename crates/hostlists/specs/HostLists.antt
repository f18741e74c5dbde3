-- What a host-port list means, in the terms of document 01, "Control lines" and "Numbers the host sees", and of document 02, Item 10.
use Rattle.std.specs.Prelude.{ℕ, ◌+◌, ◌*◌, ◌-◌, ◌≤◌, ◌<◌, ◌≡◌, ◌⊎◌, List, [], ◌∷◌, ◌++◌, length, get_or, replicate}
use Rattle.answers.specs.Refusal.{number_in}
use Rattle.hostports.specs.HostPort.{host_port_at, refusal_number as host_port_number}
use Rattle.hostports.specs.HostPorts.{HostPortNumerals, host_port_text, address, port}
use Rattle.hostlists.specs.HostList.{parsed, trouble, hosts_of, fill_of, fill_after, count}

-- host-ports as they are written, one space between
unfoldable pub with_spaces : List HostPortNumerals → List ℕ
with_spaces [] = []
with_spaces (h ∷ []) = host_port_text h
with_spaces (h ∷ i ∷ hs) = host_port_text h ++ 32 ∷ with_spaces (i ∷ hs)

-- host-ports as they are written, a space after each, and a rest
unfoldable pub space_after_each : List HostPortNumerals → List ℕ → List ℕ
space_after_each [] rest = rest
space_after_each (h ∷ hs) rest = host_port_text h ++ 32 ∷ space_after_each hs rest

-- what a host-port becomes, and what each of a list does
abbrev pub value : HostPortNumerals → ℕ
value h = address h * 65536 + port h

unfoldable pub values : List HostPortNumerals → List ℕ
values [] = []
values (h ∷ hs) = value h ∷ values hs

-- a text that is a list: 1 to 64 host-ports, one space between
pub record ListText (text : List ℕ) : Type 0 where
  pub hosts : List HostPortNumerals
  pub one_or_more : 1 ≤ length hosts
  pub at_most_64 : length hosts ≤ 64
  pub says : text ≡ with_spaces hosts

-- a text with a space and a further byte after its 64th host-port
pub record LongerText (text : List ℕ) : Type 0 where
  pub hosts : List HostPortNumerals
  pub further : ℕ
  pub rest : List ℕ
  pub are_64 : length hosts ≡ 64
  pub says : text ≡ space_after_each hosts (further ∷ rest)

-- what a text is read as
pub record HostLists : Type 0 where
  -- a text that is a list has 1 to 64 host-ports
  pub one_to_64 : (text vs : List ℕ) → hosts_of text ≡ parsed vs → (1 ≤ length vs) × (length vs ≤ 64)
  -- a list is read as its host-ports, and nothing else is read as a list
  pub list_reads : (text : List ℕ) (l : ListText text) → hosts_of text ≡ parsed (values l.hosts)
  pub only_lists : (text vs : List ℕ) → hosts_of text ≡ parsed vs → (l : ListText text) × (vs ≡ values l.hosts)
  -- 42: after the 64th come a space and a further byte, and only there
  pub longer_42 : (text : List ℕ) → LongerText text → hosts_of text ≡ trouble 42
  pub only_longer : (text : List ℕ) → hosts_of text ≡ trouble 42 → LongerText text
  -- 41: every other text
  pub others_41 : (text : List ℕ) → (ListText text → ⊥) → (LongerText text → ⊥) → hosts_of text ≡ trouble 41
  -- in reading order: fewer than 64 host-ports with a space after each, and then what is none, is 41, whatever follows
  pub malformed_41 : (text : List ℕ) (hosts : List HostPortNumerals) (rest : List ℕ) → length hosts < 64 → text ≡ space_after_each hosts rest → host_port_number (host_port_at rest 0) ≡ 41
      → hosts_of text ≡ trouble 41
  pub no_other_trouble : (text : List ℕ) (k : ℕ) → hosts_of text ≡ trouble k → (k ≡ 41) ⊎ (k ≡ 42)
  -- a list has one text
  pub one_text : (s t vs : List ℕ) → hosts_of s ≡ parsed vs → hosts_of t ≡ parsed vs → s ≡ t

-- a list lent with fewer than 64 entries
abbrev pub TooShort : List ℕ → Type 0
TooShort list = length list < 64

-- what filling a lent list answers, and what it leaves there: 43 first, then what the text is
pub record Filling : Type 0 where
  -- 43: a list lent with fewer than 64 entries stays as it is
  pub number_43 : (text list : List ℕ) → TooShort list → (number_in (fill_of text list) ≡ 43) × (count (fill_of text list) ≡ 0) × (fill_after text list ≡ list)
  -- 41 and 42: the whole list is zero
  pub number_41 : (text list : List ℕ) → (TooShort list → ⊥) → (ListText text → ⊥) → (LongerText text → ⊥)
      → (number_in (fill_of text list) ≡ 41) × (count (fill_of text list) ≡ 0) × (fill_after text list ≡ replicate (length list) 0)
  pub number_42 : (text list : List ℕ) → (TooShort list → ⊥) → LongerText text
      → (number_in (fill_of text list) ≡ 42) × (count (fill_of text list) ≡ 0) × (fill_after text list ≡ replicate (length list) 0)
  -- else how many host-ports there are, and the list has them and then zeros
  pub number_0 : (text list : List ℕ) → (TooShort list → ⊥) → (l : ListText text)
      → (number_in (fill_of text list) ≡ 0)
      × (count (fill_of text list) ≡ length l.hosts)
      × (fill_after text list ≡ values l.hosts ++ replicate (length list - length l.hosts) 0)
  -- two texts that are not refused and leave the same entries are one text, whatever the lengths of the lent lists: past the end of a lent
  -- list an entry counts as 0, and no host-port is 0
  pub one_text : (s t list other : List ℕ) → number_in (fill_of s list) ≡ 0 → number_in (fill_of t other) ≡ 0
      → ((i : ℕ) → get_or (fill_after s list) i 0 ≡ get_or (fill_after t other) i 0) → s ≡ t
