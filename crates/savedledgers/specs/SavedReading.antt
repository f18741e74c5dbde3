-- What the readers of saved ledgers answer and leave, case by case (documents 01 and 02: 53, 61, 62, 63, 64, 65).
use Rattle.std.specs.Prelude.{ℕ, ◌/◌, ◌%◌, ◌≤◌, ◌<◌, ◌≡◌, true, Ok, List, length, drop}
use Rattle.answers.specs.Refusal.{number_in}
use Rattle.ledger.specs.Pairs.{Pairs}
use Rattle.ledger.specs.Ledger.{laid_out}
use Rattle.savedrecords.specs.Kind.{kind_one, kind_two, head_length}
use Rattle.savedrecords.specs.Record.{file_length_of, saved_pairs}
use Rattle.savedrecords.specs.RecordCases.{RightRecord, RecordJudged, Exceeds}
use Rattle.savedrecords.specs.declared.kind.Kind.{Kind}
use Rattle.savedledgers.specs.Saved.{read_refusal, read_after, read_saved, read_sized, loaded_for_length}

-- the length of a ledger that is not refused
pub record RightLength (ledger : List ℕ) : Type 0 where
  pub even : length ledger % 2 ≡ 0
  pub most : length ledger ≤ 8192

-- there are more pairs than the ledger has
abbrev pub TooMany : Kind → List ℕ → List ℕ → Type 0
TooMany kind bytes ledger = length ledger / 2 < length (drop (head_length kind) (drop 6 bytes)) / 16

-- an end is above the file length, in a kind that has one
abbrev pub Beyond : Kind → List ℕ → Type 0
Beyond kind bytes = (kind.sized ≡ true) × Exceeds (file_length_of bytes) (saved_pairs kind bytes)

-- the number of the refusal, with its exact condition; the conditions carry the order
pub data ReadingJudged (kind : Kind) (bytes ledger : List ℕ) : ℕ → Type 0 where
  -- the ledger's length is odd or above 8,192
  by_53 : (RightLength ledger → ⊥) → ReadingJudged kind bytes ledger 53
  -- 61, 62 and 63, of the record itself
  by_record : (k : ℕ) → RightLength ledger → RecordJudged kind bytes k → 0 < k → ReadingJudged kind bytes ledger k
  by_64 : RightLength ledger → RightRecord kind bytes → TooMany kind bytes ledger → ReadingJudged kind bytes ledger 64
  by_65 : RightLength ledger → RightRecord kind bytes → (TooMany kind bytes ledger → ⊥) → Beyond kind bytes → ReadingJudged kind bytes ledger 65
  is_read : RightLength ledger → RightRecord kind bytes → (TooMany kind bytes ledger → ⊥) → (Beyond kind bytes → ⊥) → ReadingJudged kind bytes ledger 0

-- the bytes are read: the ledger holds these pairs, and zeros after them
pub record Reads (kind : Kind) (bytes ledger : List ℕ) (ps : Pairs) : Type 0 where
  pub number : read_refusal kind bytes ledger ≡ 0
  pub after : read_after kind bytes ledger ≡ laid_out (length ledger / 2) ps

pub record SavedReading (kind : Kind) (bytes ledger : List ℕ) : Type 0 where
  -- the number has its case, and no other number has one
  pub judged_is : ReadingJudged kind bytes ledger (read_refusal kind bytes ledger)
  pub judged_only : (k : ℕ) → ReadingJudged kind bytes ledger k → k ≡ read_refusal kind bytes ledger
  -- a refusal leaves the ledger as it is
  pub unchanged : 0 < read_refusal kind bytes ledger → read_after kind bytes ledger ≡ ledger
  pub reads : read_refusal kind bytes ledger ≡ 0 → Reads kind bytes ledger (saved_pairs kind bytes)

-- what is answered: the number, and of kind 2 the file length
pub record SavedAnswers (bytes ledger : List ℕ) : Type 0 where
  pub one_number : number_in (read_saved bytes ledger) ≡ read_refusal kind_one bytes ledger
  pub one_read : read_refusal kind_one bytes ledger ≡ 0 → read_saved bytes ledger ≡ Ok tt
  pub two_number : number_in (read_sized bytes ledger) ≡ read_refusal kind_two bytes ledger
  pub two_read : read_refusal kind_two bytes ledger ≡ 0 → (read_sized bytes ledger ≡ Ok (file_length_of bytes)) × (loaded_for_length (read_sized bytes ledger) ≡ file_length_of bytes)
  pub two_refused : 0 < read_refusal kind_two bytes ledger → loaded_for_length (read_sized bytes ledger) ≡ 0
