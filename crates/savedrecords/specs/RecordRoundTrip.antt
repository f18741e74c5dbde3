-- A record of any kind, there and back.
use Rattle.std.specs.Prelude.{ℕ, ◌+◌, ◌*◌, ◌≤◌, ◌≡◌, true, List}
use Rattle.octets.specs.Digits.{AllBelow}
use Rattle.ledger.specs.Pairs.{Pairs, size, ObeyFrom, ends_at_most}
use Rattle.savedrecords.specs.Kind.{head_length}
use Rattle.savedrecords.specs.Record.{file_length_of, saved_pairs, record_refusal, record_of}
use Rattle.savedrecords.specs.declared.kind.Kind.{Kind}

pub record RecordRoundTrip : Type 0 where
  -- what is written is a record of that kind, and says the same pairs, where all numbers fit their bytes
  pub reads_what_was_written : (kind : Kind) (f : ℕ) (ps : Pairs) → kind.number ≤ 65535 → 2 + (head_length kind + 16 * size ps) ≤ 4294967295
      → ObeyFrom 0 ps → ends_at_most 18446744073709551615 ps ≡ true
      → (record_refusal kind (record_of kind f ps) ≡ 0) × (saved_pairs kind (record_of kind f ps) ≡ ps)
  -- and the same file length, where the kind has one
  pub reads_the_length : (kind : Kind) (f : ℕ) (ps : Pairs) → kind.sized ≡ true → f ≤ 18446744073709551615
      → file_length_of (record_of kind f ps) ≡ f
  -- whatever bytes are a record of that kind, what they say is written as these bytes again
  pub writes_what_was_read : (kind : Kind) (bytes : List ℕ) → AllBelow 256 bytes → record_refusal kind bytes ≡ 0
      → record_of kind (file_length_of bytes) (saved_pairs kind bytes) ≡ bytes
