-- Host-port lists (document 01, "Control lines"): 1 to 64 host-ports with one space between.
use Rattle.std.specs.Prelude.{ℕ, zero, suc, ◌+◌, ◌-◌, ◌≡◌, cond, Option, Some, None, Result, Ok, Err, List, [], ◌∷◌, ◌++◌, ltb, eqb, length, get_or, take, replicate}
use Rattle.hostports.specs.HostPort.{host_port_at}
use Rattle.hostports.specs.declared.host_port.Parsed.{Parsed}

-- the most host-ports of a list, and the fewest entries that may be lent
abbrev pub host_limit : ℕ
host_limit = 64

-- the byte between two host-ports
abbrev pub space : ℕ
space = 32

-- the numbers of a list that is too short, and of a text with more host-ports than 64
abbrev pub short_number : ℕ
short_number = 43

abbrev pub longer_number : ℕ
longer_number = 42

-- ---- the text

-- what a text says: host-ports, or the number of the first trouble in reading order
pub data ParsedList : Type 0 where
  parsed : List ℕ → ParsedList
  trouble : ℕ → ParsedList

unfoldable pub prepend : ℕ → ParsedList → ParsedList
prepend v (parsed vs) = parsed (v ∷ vs)
prepend v (trouble k) = trouble k

-- a host-port, and after a space what comes from there on; nothing else may follow it
unfoldable pub host_port_then : List ℕ → Option Parsed → (ℕ → ParsedList) → ParsedList
host_port_then text None on = trouble 41
host_port_then text (Some p) on =
    cond (eqb p.next (length text)) (parsed (p.value ∷ []))
    (cond (eqb (get_or text p.next 0) space) (prepend p.value (on (p.next + 1))) (trouble 41))

-- from a place on, where n more host-ports may come. Where none may, a space is before the place: the end of the text there is an empty
-- host-port (41), and any further byte is a 65th (42).
unfoldable pub list_at : ℕ → List ℕ → ℕ → ParsedList
list_at zero text at = cond (eqb at (length text)) (trouble 41) (trouble longer_number)
list_at (suc n) text at = host_port_then text (host_port_at text at) (list_at n text)

unfoldable pub hosts_of : List ℕ → ParsedList
hosts_of text = list_at host_limit text 0

-- ---- what filling a lent list answers, and what it leaves there

unfoldable pub answer_of : ParsedList → Result ℕ ℕ
answer_of (parsed vs) = Ok (length vs)
answer_of (trouble k) = Err k

-- the host-ports of a text; none where there is trouble
unfoldable pub host_ports : ParsedList → List ℕ
host_ports (parsed vs) = vs
host_ports (trouble k) = []

-- the n entries of a list: the host-ports, then zeros
unfoldable pub entries_of : ℕ → ParsedList → List ℕ
entries_of n (parsed vs) = vs ++ replicate (n - length vs) 0
entries_of n (trouble k) = replicate n 0

-- 43 first, where the list is too short; then the first trouble in the text
unfoldable pub fill_of : List ℕ → List ℕ → Result ℕ ℕ
fill_of text list = cond (ltb (length list) host_limit) (Err short_number) (answer_of (hosts_of text))

unfoldable pub fill_after : List ℕ → List ℕ → List ℕ
fill_after text list = cond (ltb (length list) host_limit) list (entries_of (length list) (hosts_of text))

-- what storing a text's host-ports answers, and that the list begins with them afterwards
pub record StoreResult (text : List ℕ) (answer : Result ℕ ℕ) (list : List ℕ) : Type 0 where
  pub answers : answer ≡ answer_of (hosts_of text)
  pub after : take (length (host_ports (hosts_of text))) list ≡ host_ports (hosts_of text)

-- how many host-ports there are, 0 where the text is refused
unfoldable pub count : Result ℕ ℕ → ℕ
count (Ok n) = n
count (Err k) = 0

-- how many host-ports the text itself has, 0 where it is no list
unfoldable pub host_count : List ℕ → ℕ
host_count text = count (answer_of (hosts_of text))
