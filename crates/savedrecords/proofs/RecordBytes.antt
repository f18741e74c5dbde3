-- `RecordBytes` holds.
use Prim.Native.Nat.{ℕ, ◌+◌, ◌*◌}
use mathlib.Core.Path.{◌≡◌, refl}
use mathlib.Core.List.{◌++◌}
use lib.ListN.{length, length-append}
use Rattle.octets.specs.Digits.{to_little_endian}
use Rattle.octets.proofs.Digits.{length-to_little}
use Rattle.frames.specs.Frame.{framed}
use Rattle.ledger.specs.Pairs.{Pairs, size}
use Rattle.ledger.proofs.PairsObey.{ruled-obey_from, obey_from-ruled}
use Rattle.savedrecords.specs.Kind.{head_length}
use Rattle.savedrecords.specs.Record.{pairs_in, pair_bytes, file_length_of, record_of}
use Rattle.savedrecords.specs.RecordBytes.{RecordBytes}
use Rattle.savedrecords.specs.declared.kind.Kind.{Kind}
use Rattle.savedrecords.proofs.RecordPairs.{length-pair_bytes}

-- how long the body is
pub length-body : (kind : Kind) (f : ℕ) (ps : Pairs) → length (to_little_endian 256 (head_length kind) f ++ pair_bytes kind.second ps) ≡ head_length kind + 16 * size ps
length-body kind f ps =
    rw (length-append (to_little_endian 256 (head_length kind) f) (pair_bytes kind.second ps), length-to_little 256 (head_length kind) f, length-pair_bytes kind.second ps)

pub record-bytes : RecordBytes
unfolding record_of framed pair_bytes pairs_in file_length_of
record-bytes =
    record {
      kind_1 = (refl, refl, refl);
      kind_2 = (refl, refl, refl);
      all_bytes = λ kind f ps. rw (length-body kind f ps);
      no_pair = λ second. refl;
      next_end = λ a b ps. refl;
      next_length = λ a b ps. refl;
      file_length = λ bytes. refl;
      all_pairs = λ kind bytes. refl;
      none_read = λ second bytes. refl;
      end_read = λ n bytes. refl;
      length_read = λ n bytes. refl;
      order_is_rule = λ ps. (obey_from-ruled 0 ps, ruled-obey_from 0 ps);
    }
