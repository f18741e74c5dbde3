-- One range as text, in both directions (document 01, "Control lines").
use Rattle.std.specs.Prelude.{ℕ, suc, ◌≤◌, ◌<◌, ◌≡◌, None, List, ◌∷◌, ◌++◌, length, get_or}
use Rattle.octets.specs.Decimal.{decimal_value}
use Rattle.rangelists.specs.RangeText.{places, range_of}

-- a number that a range may name: 1 to 20 digits, and at most 2 ^ 64 - 2
pub record Position (text : List ℕ) (value : ℕ) : Type 0 where
  pub shortest : 1 ≤ length text
  pub longest : length text ≤ 20
  pub digits : (i : ℕ) → i < length text → (48 ≤ get_or text i 0) × (get_or text i 0 ≤ 57)
  pub value_is : decimal_value text ≡ value
  pub most : value ≤ 18446744073709551614

-- two such numbers with a hyphen between them, the second no less than the first
pub record IsRange (text : List ℕ) (first last : ℕ) : Type 0 where
  pub before : List ℕ
  pub after : List ℕ
  pub hyphen : text ≡ before ++ (45 ∷ after)
  pub start : Position before first
  pub end : Position after last
  pub rising : first ≤ last

pub record OneRange : Type 0 where
  -- a range is read as its places, both ends counted
  pub range_reads : (text : List ℕ) (first last : ℕ) → IsRange text first last → range_of text ≡ places first (suc last)
  -- whatever is read as places is a range
  pub range_only : (text : List ℕ) (s e : ℕ) → range_of text ≡ places s e → (last : ℕ) × (e ≡ suc last) × IsRange text s last
  -- everything else is malformed
  pub else_malformed : (text : List ℕ) → ((first last : ℕ) → IsRange text first last → ⊥) → range_of text ≡ None
