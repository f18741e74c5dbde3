-- Bytes of a text by their kind.
use Rattle.std.specs.Prelude.{ℕ, suc, Bool, true, cond, ◌&&◌, ◌||◌, not, List, [], ◌∷◌, leb, eqb}
use Rattle.texts.specs.declared.text.ByteKind.{ByteKind}
use Rattle.texts.specs.declared.text.ByteKind.TheVariants.{Digit, Letter, Space, Printable, NotComma}

-- from low to high, both counted
abbrev pub between : ℕ → ℕ → ℕ → Bool
between low high b = leb low b && leb b high

-- 0 to 9
abbrev pub is_digit : ℕ → Bool
is_digit b = between 48 57 b

-- A to Z
abbrev pub is_capital : ℕ → Bool
is_capital b = between 65 90 b

-- a to z
abbrev pub is_small : ℕ → Bool
is_small b = between 97 122 b

abbrev pub is_letter : ℕ → Bool
is_letter b = is_capital b || is_small b

abbrev pub is_space : ℕ → Bool
is_space b = eqb b 32

abbrev pub is_printable : ℕ → Bool
is_printable b = between 32 126 b

abbrev pub is_not_comma : ℕ → Bool
is_not_comma b = not (eqb b 44)

abbrev pub is_of_kind : ByteKind → ℕ → Bool
is_of_kind Digit = is_digit
is_of_kind Letter = is_letter
is_of_kind Space = is_space
is_of_kind Printable = is_printable
is_of_kind NotComma = is_not_comma

-- every byte of the text is of the kind
unfoldable pub all : (ℕ → Bool) → List ℕ → Bool
all kind [] = true
all kind (b ∷ bs) = kind b && all kind bs

-- how many bytes of the kind the text begins with
unfoldable pub leading_count : (ℕ → Bool) → List ℕ → ℕ
leading_count kind [] = 0
leading_count kind (b ∷ bs) = cond (kind b) (suc (leading_count kind bs)) 0
