-- Whether bytes are a saved ledger of a kind, case by case, for every kind (documents 01 and 02: 61, 62, 63).
use Rattle.std.specs.Prelude.{ℕ, ◌+◌, ◌*◌, ◌%◌, ◌≤◌, ◌<◌, ◌≡◌, ◌⊎◌, List, length, take, drop}
use Rattle.octets.specs.Digits.{from_little_endian}
use Rattle.ledger.specs.Pairs.{Pairs, none, pair, ObeyFrom}
use Rattle.savedrecords.specs.Kind.{head_length}
use Rattle.savedrecords.specs.Record.{saved_pairs, record_refusal}
use Rattle.savedrecords.specs.declared.kind.Kind.{Kind}

-- six bytes or more, of which the first four, least significant first, say how many follow them
pub record RightFrame (bytes : List ℕ) : Type 0 where
  pub least : 6 ≤ length bytes
  pub counted : 4 + from_little_endian 256 (take 4 bytes) ≡ length bytes

-- the next two bytes say the kind
abbrev pub IsKind : Kind → List ℕ → Type 0
IsKind kind bytes = from_little_endian 256 (take 2 (drop 4 bytes)) ≡ kind.number

-- then the file length, where the kind has one, and whole pairs by the ledger rule
pub record RightBody (kind : Kind) (bytes : List ℕ) : Type 0 where
  pub head : head_length kind ≤ length (drop 6 bytes)
  pub whole : length (drop (head_length kind) (drop 6 bytes)) % 16 ≡ 0
  pub ruled : ObeyFrom 0 (saved_pairs kind bytes)

-- the bytes are a record of this kind
pub record RightRecord (kind : Kind) (bytes : List ℕ) : Type 0 where
  pub frame : RightFrame bytes
  pub is_kind : IsKind kind bytes
  pub body : RightBody kind bytes

-- the number of the record, with its exact condition; the conditions carry the order
pub data RecordJudged (kind : Kind) (bytes : List ℕ) : ℕ → Type 0 where
  -- fewer than six bytes, or a length field that is wrong
  by_61 : (RightFrame bytes → ⊥) → RecordJudged kind bytes 61
  -- another kind than was asked for
  by_62 : RightFrame bytes → (IsKind kind bytes → ⊥) → RecordJudged kind bytes 62
  -- the file length or the pairs are not whole, or these break the ledger rule
  by_63 : RightFrame bytes → IsKind kind bytes → (RightBody kind bytes → ⊥) → RecordJudged kind bytes 63
  is_record : RightRecord kind bytes → RecordJudged kind bytes 0

-- an end is above f
abbrev pub Exceeds : ℕ → Pairs → Type 0
Exceeds f none = ⊥
Exceeds f (pair a b ps) = (f < b) ⊎ Exceeds f ps

pub record RecordCases (kind : Kind) (bytes : List ℕ) : Type 0 where
  -- the number has its case, and no other number has one
  pub judged_is : RecordJudged kind bytes (record_refusal kind bytes)
  pub judged_only : (k : ℕ) → RecordJudged kind bytes k → k ≡ record_refusal kind bytes
  -- a zero pair, the one with the number k, is 63
  pub zero_pair : (k : ℕ) → let part = drop (head_length kind) (drop 6 bytes) in
      RightFrame bytes → IsKind kind bytes → 16 * (k + 1) ≤ length part
      → from_little_endian 256 (take 8 (drop (16 * k) part)) ≡ 0 → from_little_endian 256 (take 8 (drop (16 * k + 8) part)) ≡ 0
      → record_refusal kind bytes ≡ 63
