-- What a conversion answers and leaves, case by case (document 02, Item 7: 61, 62, 63, 65, 55), from any kind to any kind, for a file of length f.
use Rattle.std.specs.Prelude.{ℕ, ◌+◌, ◌*◌, ◌≤◌, ◌<◌, ◌≡◌, List, length}
use Rattle.answers.specs.Refusal.{number_in}
use Rattle.answers.specs.Written.{Written, Refuses, Writes}
use Rattle.ledger.specs.Pairs.{size}
use Rattle.savedrecords.specs.Kind.{head_length}
use Rattle.savedrecords.specs.Record.{saved_pairs, record_of}
use Rattle.savedrecords.specs.RecordCases.{RightRecord, RecordJudged, Exceeds}
use Rattle.savedrecords.specs.declared.kind.Kind.{Kind}

-- how many bytes the record has that is written
abbrev pub length_as : Kind → Kind → List ℕ → ℕ
length_as from to bytes = 6 + (head_length to + 16 * size (saved_pairs from bytes))

-- the number of the refusal, with its exact condition; the conditions carry the order. None is on the number of pairs.
pub data ConversionJudged (from to : Kind) (f : ℕ) (bytes out : List ℕ) : ℕ → Type 0 where
  -- 61, 62 and 63, of the record itself
  by_record : (k : ℕ) → RecordJudged from bytes k → 0 < k → ConversionJudged from to f bytes out k
  -- an end above f
  by_65 : RightRecord from bytes → Exceeds f (saved_pairs from bytes) → ConversionJudged from to f bytes out 65
  -- fewer bytes are lent than the record has
  by_55 : RightRecord from bytes → (Exceeds f (saved_pairs from bytes) → ⊥) → length out < length_as from to bytes → ConversionJudged from to f bytes out 55
  is_converted : RightRecord from bytes → (Exceeds f (saved_pairs from bytes) → ⊥) → length_as from to bytes ≤ length out → ConversionJudged from to f bytes out 0

pub record ConversionCases (from to : Kind) (f : ℕ) (bytes out : List ℕ) (answer : Written) (after : List ℕ) : Type 0 where
  -- the number has its case, and no other number has one
  pub judged_is : ConversionJudged from to f bytes out (number_in answer)
  pub judged_only : (k : ℕ) → ConversionJudged from to f bytes out k → k ≡ number_in answer
  -- a refusal leaves the lent bytes as they are
  pub refuses : 0 < number_in answer → Refuses answer after out (number_in answer)
  pub converts : number_in answer ≡ 0 → Writes answer after out (record_of to f (saved_pairs from bytes)) (length_as from to bytes)
