-- A number as a run of digits to a base: a byte is a digit to base 256, a decimal digit one to base 10.
-- Little: the least significant digit comes first. Big: the most significant digit comes first, which is the same run from its other end.
use Rattle.std.specs.Prelude.{ℕ, zero, suc, ◌+◌, ◌*◌, ◌/◌, ◌%◌, ◌<◌, List, [], ◌∷◌, reverse}

-- each of the digits is one to base B
abbrev pub AllBelow : ℕ → List ℕ → Type 0
AllBelow B [] = Unit {0}
AllBelow B (d ∷ ds) = (d < B) × AllBelow B ds

-- the number of a run of digits, least significant first
unfoldable pub from_little_endian : ℕ → List ℕ → ℕ
from_little_endian B [] = 0
from_little_endian B (d ∷ ds) = from_little_endian B ds * B + d

-- the number of a run of digits, most significant first
unfoldable pub from_big_endian : ℕ → List ℕ → ℕ
from_big_endian B ds = from_little_endian B (reverse ds)

-- the w low digits of n, least significant first
unfoldable pub to_little_endian : ℕ → ℕ → ℕ → List ℕ
to_little_endian B zero n = []
to_little_endian B (suc w) n = n % B ∷ to_little_endian B w (n / B)

-- the w low digits of n, most significant first
unfoldable pub to_big_endian : ℕ → ℕ → ℕ → List ℕ
to_big_endian B w n = reverse (to_little_endian B w n)
