-- The lines that are no screen lines: a word, one space, a number and LF (document 02, Item 4).
use Rattle.std.specs.Prelude.{ℕ, zero, suc, ◌-◌, List, [], ◌∷◌, ◌++◌}
use Rattle.octets.specs.Decimal.{decimal}
use Rattle.transfer.specs.Transfer.{World}
use Rattle.transfer.specs.Receive.{Answer, refused, took}
use Rattle.screen.specs.Screen.{line_feed, line_of}

-- ---- RECORD, REFUSED and LEFT

abbrev pub record_word : List ℕ
record_word = 82 ∷ 69 ∷ 67 ∷ 79 ∷ 82 ∷ 68 ∷ []

abbrev pub refused_word : List ℕ
refused_word = 82 ∷ 69 ∷ 70 ∷ 85 ∷ 83 ∷ 69 ∷ 68 ∷ []

abbrev pub left_word : List ℕ
left_word = 76 ∷ 69 ∷ 70 ∷ 84 ∷ []

abbrev pub space : List ℕ
space = 32 ∷ []

unfoldable pub number_line : List ℕ → ℕ → List ℕ
number_line word n = word ++ space ++ decimal n ++ line_feed

-- a malformed record, by its number
abbrev pub record_line : ℕ → List ℕ
record_line k = number_line record_word k

-- the bytes of a piece that remain; nothing where none does
unfoldable pub left_line : ℕ → List ℕ
left_line zero = []
left_line (suc r) = number_line left_word (suc r)

-- a piece of n bytes: what the call answered, and the world after it
unfoldable pub piece_text : Answer → World → ℕ → List ℕ
piece_text (refused k) w n = number_line refused_word k
piece_text (took t) w n = left_line (n - t) ++ line_of w
