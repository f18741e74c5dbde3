-- The two kinds, and the bytes of a record: what is written, and what is read.
use Rattle.std.specs.Prelude.{ℕ, suc, ◌+◌, ◌*◌, ◌-◌, ◌/◌, ◌≡◌, ◌↔◌, true, List, [], ◌++◌, length, take, drop}
use Rattle.octets.specs.Digits.{from_little_endian, to_little_endian}
use Rattle.ledger.specs.Pairs.{Pairs, none, pair, size, ObeyFrom, obey_from}
use Rattle.savedrecords.specs.Kind.{kind_one, kind_two, head_length}
use Rattle.savedrecords.specs.Record.{pairs_in, pair_bytes, file_length_of, saved_pairs, record_of}
use Rattle.savedrecords.specs.declared.kind.Kind.{Kind}
use Rattle.savedrecords.specs.declared.kind.SecondNumber.{SecondNumber}
use Rattle.savedrecords.specs.declared.kind.SecondNumber.TheVariants.{End, Length}

pub record RecordBytes : Type 0 where
  -- kind 1: no file length, start and end of each pair
  pub kind_1 : (kind_one.number ≡ 1) × (head_length kind_one ≡ 0) × (kind_one.second ≡ End)
  -- kind 2: the file length, eight bytes, then start and length of each pair
  pub kind_2 : (kind_two.number ≡ 2) × (head_length kind_two ≡ 8) × (kind_two.second ≡ Length)
  -- written, each number least significant byte first: how many bytes follow the first four, the kind, the file length and the pairs
  pub all_bytes : (kind : Kind) (f : ℕ) (ps : Pairs)
      → record_of kind f ps
      ≡ to_little_endian 256 4 (2 + (head_length kind + 16 * size ps))
      ++ (to_little_endian 256 2 kind.number ++ (to_little_endian 256 (head_length kind) f ++ pair_bytes kind.second ps))
  pub no_pair : (second : SecondNumber) → pair_bytes second none ≡ []
  pub next_end : (a b : ℕ) (ps : Pairs) → pair_bytes End (pair a b ps) ≡ to_little_endian 256 8 a ++ (to_little_endian 256 8 b ++ pair_bytes End ps)
  pub next_length : (a b : ℕ) (ps : Pairs) → pair_bytes Length (pair a b ps) ≡ to_little_endian 256 8 a ++ (to_little_endian 256 8 (b - a) ++ pair_bytes Length ps)
  -- read: the file length from the seventh byte on, and the pairs after it
  pub file_length : (bytes : List ℕ) → file_length_of bytes ≡ from_little_endian 256 (take 8 (drop 6 bytes))
  pub all_pairs : (kind : Kind) (bytes : List ℕ) → let part = drop (head_length kind) (drop 6 bytes) in
      saved_pairs kind bytes ≡ pairs_in kind.second (length part / 16) part
  pub none_read : (second : SecondNumber) (bytes : List ℕ) → pairs_in second 0 bytes ≡ none
  pub end_read : (n : ℕ) (bytes : List ℕ)
      → pairs_in End (suc n) bytes ≡ pair (from_little_endian 256 (take 8 bytes)) (from_little_endian 256 (take 8 (drop 8 bytes))) (pairs_in End n (drop 16 bytes))
  -- ends of kind 2 are whole numbers
  pub length_read : (n : ℕ) (bytes : List ℕ) → let a = from_little_endian 256 (take 8 bytes) in
      pairs_in Length (suc n) bytes ≡ pair a (a + from_little_endian 256 (take 8 (drop 8 bytes))) (pairs_in Length n (drop 16 bytes))
  -- the order that is tested is the ledger rule
  pub order_is_rule : (ps : Pairs) → (obey_from 0 ps ≡ true) ↔ ObeyFrom 0 ps
