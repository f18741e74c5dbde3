-- A run of numbers of eight bytes each, least significant byte first.
use Rattle.std.specs.Prelude.{ℕ, List, [], ◌∷◌, ◌++◌}
use Rattle.octets.specs.Digits.{to_little_endian}

-- the bytes of the numbers
unfoldable pub number_bytes : List ℕ → List ℕ
number_bytes [] = []
number_bytes (n ∷ ns) = to_little_endian 256 8 n ++ number_bytes ns
