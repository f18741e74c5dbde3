-- A host-port (document 01, "Control lines"; document 02, Item 10): six decimal numbers with commas between, without leading zeros, the port not 0.
use Rattle.std.specs.Prelude.{ℕ, zero, suc, ◌+◌, ◌*◌, ◌%◌, cond, ◌&&◌, Option, Some, None, List, leb, eqb, get_or, take, drop}
use Rattle.octets.specs.Decimal.{decimal_value, no_leading_zero}
use Rattle.texts.specs.Text.{is_digit, leading_count}
use Rattle.hostports.specs.declared.host_port.Parsed.{Parsed}

-- the byte between two numbers
abbrev pub comma : ℕ
comma = 44

-- the most digits of a number, and the highest number
abbrev pub digit_limit : ℕ
digit_limit = 3

abbrev pub value_limit : ℕ
value_limit = 255

-- what is well formed: its value, and the place after it
abbrev pub read_as : ℕ → ℕ → Option Parsed
read_as value next = Some (record { value = value; next = next })

-- one number at a place: 1 to 3 digits, the first not 0 where there are two or three, and at most 255 in value; with the place after it
unfoldable pub number_at : List ℕ → ℕ → Option Parsed
number_at text at =
    let k = leading_count is_digit (drop at text) in
    let digits = take k (drop at text) in
    cond (no_leading_zero digits && (leb k digit_limit && leb (decimal_value digits) value_limit)) (read_as (decimal_value digits) (at + k)) None

-- goes on with a number's value and the place after it; malformed where there is no number
unfoldable pub and_then : Option Parsed → (ℕ → ℕ → Option Parsed) → Option Parsed
and_then None on = None
and_then (Some n) on = on n.value n.next

-- n more numbers from the place `at` on, a comma before each; v is the value so far. Each number counts 256 times the next.
unfoldable pub more_at : ℕ → List ℕ → ℕ → ℕ → Option Parsed
more_at zero text v at = read_as v at
more_at (suc n) text v at =
    cond (eqb (get_or text at 0) comma) (and_then (number_at text (at + 1)) (λ w next. more_at n text (v * 256 + w) next)) None

-- the port of a host-port: what the last two numbers make
abbrev pub port_of : ℕ → ℕ
port_of v = v % 65536

-- port 0 is malformed
unfoldable pub refuse_port_zero : Option Parsed → Option Parsed
refuse_port_zero None = None
refuse_port_zero (Some p) = cond (eqb (port_of p.value) 0) None (Some p)

-- six numbers, which make address * 65,536 + port, the port not 0
unfoldable pub host_port_at : List ℕ → ℕ → Option Parsed
host_port_at text at = refuse_port_zero (and_then (number_at text at) (more_at 5 text))

-- document 01's number for each case, 0 where nothing is refused
unfoldable pub refusal_number : Option Parsed → ℕ
refusal_number (Some p) = 0
refusal_number None = 41

-- the values of each case: the host-port, and the place after it; 0 where there is none
unfoldable pub value_of : Option Parsed → ℕ
value_of (Some p) = p.value
value_of None = 0

unfoldable pub place_after : Option Parsed → ℕ
place_after (Some p) = p.next
place_after None = 0
