-- What host-ports mean, in the terms of document 01, "Control lines", and of document 02, Item 10.
use Rattle.std.specs.Prelude.{ℕ, ◌+◌, ◌*◌, ◌-◌, ◌%◌, ◌^◌, ◌≤◌, ◌<◌, ◌≡◌, true, false, List, [], ◌∷◌, ◌++◌, length, get_or, take, drop}
use Rattle.octets.specs.Cases.{AllHold}
use Rattle.octets.specs.Decimal.{decimal_value}
use Rattle.texts.specs.Text.{is_digit, all}
use Rattle.hostports.specs.HostPort.{read_as, host_port_at, refusal_number, value_of, place_after}

-- a number of at most 255, written in 1 to 3 digits, without a leading zero, which a lone 0 is not
pub record Numeral : Type 0 where
  pub text : List ℕ
  pub value : ℕ
  pub digits : all is_digit text ≡ true
  pub one_or_more : 1 ≤ length text
  pub at_most_three : length text ≤ 3
  pub says : decimal_value text ≡ value
  pub small : value ≤ 255
  pub no_leading_zero_is : 2 ≤ length text → get_or text 0 0 ≡ 48 → ⊥

-- nothing, or first a byte that is no digit
abbrev pub StartsWithNoDigit : List ℕ → Type 0
StartsWithNoDigit [] = Unit {0}
StartsWithNoDigit (b ∷ bs) = is_digit b ≡ false

-- the six numbers of a host-port: four of address, two of port, and the last two not both 0
pub record HostPortNumerals : Type 0 where
  pub a : Numeral
  pub b : Numeral
  pub c : Numeral
  pub d : Numeral
  pub e : Numeral
  pub f : Numeral
  pub has_port : (e.value ≡ 0) × (f.value ≡ 0) → ⊥

-- six numbers, commas between
unfoldable pub host_port_text : HostPortNumerals → List ℕ
host_port_text h = h.a.text ++ 44 ∷ (h.b.text ++ 44 ∷ (h.c.text ++ 44 ∷ (h.d.text ++ 44 ∷ (h.e.text ++ 44 ∷ h.f.text))))

-- the address of the first four numbers, and the port of the last two
abbrev pub address : HostPortNumerals → ℕ
address h = ((h.a.value * 256 + h.b.value) * 256 + h.c.value) * 256 + h.d.value

abbrev pub port : HostPortNumerals → ℕ
port h = h.e.value * 256 + h.f.value

-- a host-port is written at a place of the text, and no digit follows it
pub record WrittenAt (text : List ℕ) (at : ℕ) (h : HostPortNumerals) : Type 0 where
  pub rest : List ℕ
  pub there : drop at text ≡ host_port_text h ++ rest
  pub no_digit : StartsWithNoDigit rest

-- runs of digits as they are written, a comma after each
unfoldable pub comma_after_each : List (List ℕ) → List ℕ
comma_after_each [] = []
comma_after_each (run ∷ runs) = run ++ 44 ∷ comma_after_each runs

pub record HostPorts : Type 0 where
  -- six numbers with commas between, the last two not both 0, at any place of a text, with nothing or a byte that is no digit after them,
  -- are a host-port: address * 65,536 + port, and the place after it
  pub written_reads : (text : List ℕ) (at : ℕ) (h : HostPortNumerals) → WrittenAt text at h → host_port_at text at ≡ read_as (address h * 65536 + port h) (at + length (host_port_text h))
  -- whatever reads as a host-port is written so
  pub reads_written : (text : List ℕ) (at v next : ℕ) → host_port_at text at ≡ read_as v next
      → (h : HostPortNumerals) × WrittenAt text at h × (v ≡ address h * 65536 + port h) × (next ≡ at + length (host_port_text h))
  -- the number is 0 where a host-port is written at the place, with its values
  pub number_0 : (text : List ℕ) (at : ℕ) (h : HostPortNumerals) → WrittenAt text at h
      → (refusal_number (host_port_at text at) ≡ 0) × (value_of (host_port_at text at) ≡ address h * 65536 + port h) × (place_after (host_port_at text at) ≡ at + length (host_port_text h))
  -- the number is 41 where none is, an empty one included, and the values are 0
  pub number_41 : (text : List ℕ) (at : ℕ) → ((h : HostPortNumerals) → WrittenAt text at h → ⊥)
      → (refusal_number (host_port_at text at) ≡ 41) × (value_of (host_port_at text at) ≡ 0) × (place_after (host_port_at text at) ≡ 0)
  -- whatever text it is read from, a host-port fits 48 bits
  pub fits_48_bits : (text : List ℕ) (at v next : ℕ) → host_port_at text at ≡ read_as v next → v < 2 ^ 48
  -- 41: a 0 and a further digit where one of the six begins, after up to five runs of digits, whatever they say and whatever follows
  pub no_leading_zero_is : (text : List ℕ) (at : ℕ) (before : List (List ℕ)) (d : ℕ) (rest : List ℕ) → AllHold (λ run. all is_digit run ≡ true) before → length before ≤ 5 → is_digit d ≡ true
      → drop at text ≡ comma_after_each before ++ (48 ∷ d ∷ rest) → refusal_number (host_port_at text at) ≡ 41
  -- 41: `0,0` where the last two of the six begin, after four runs of digits, whatever they say and whatever follows
  pub no_port_0 : (text : List ℕ) (at : ℕ) (before : List (List ℕ)) (rest : List ℕ) → AllHold (λ run. all is_digit run ≡ true) before → length before ≡ 4
      → drop at text ≡ comma_after_each before ++ (48 ∷ 44 ∷ 48 ∷ rest) → refusal_number (host_port_at text at) ≡ 41
  -- no host-port that is read has port 0
  pub port_not_0 : (text : List ℕ) (at v next : ℕ) → host_port_at text at ≡ read_as v next → 0 < v % 65536
  -- a host-port has one text: two texts that are a host-port each, of one value, are the same, whatever their lengths
  pub one_text : (s t : List ℕ) (v : ℕ) → host_port_at s 0 ≡ read_as v (length s) → host_port_at t 0 ≡ read_as v (length t) → s ≡ t
  -- and the bytes of two host-ports of one value are the same, at any places of any texts
  pub same_bytes : (s t : List ℕ) (a b v p q : ℕ) → host_port_at s a ≡ read_as v p → host_port_at t b ≡ read_as v q → take (p - a) (drop a s) ≡ take (q - b) (drop b t)
