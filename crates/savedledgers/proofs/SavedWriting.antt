-- The bytes of a ledger's pairs, and what the writer of a saved ledger answers and leaves, case by case: `SavedWriting` and `SavedBytes` hold.
use Prim.Native.Nat.{ℕ, suc, ◌+◌, ◌*◌, ◌-◌, ◌≤◌, ◌<◌}
use mathlib.Core.Path.{◌≡◌, refl, sym, ◌∙◌}
use mathlib.Core.Bool.{Bool, true, false, cond}
use mathlib.Core.List.{List, [], ◌∷◌, ◌++◌, append_assoc}
use native.Mathlib.Omega.{arith}
use borrow.Rule.Slice.PartMut.{put_mid}
use lib.Dec.{eqb}
use lib.ListN.{length, take, drop}
use lib.Seq.{take_at, drop_at, drop-drop}
use Rattle.std.specs.Prelude.{Ok}
use Rattle.answers.specs.Written.{room_refusal, Refuses}
use Rattle.answers.proofs.WrittenBy.{first_some, first-none, first-zero, room-short, room-enough, written, written-only, refuses, writes}
use Rattle.octets.specs.Digits.{to_little_endian}
use Rattle.frames.specs.Frame.{frame_length, frame_of}
use Rattle.frames.proofs.Framed.{framed_is, length-frame_of}
use Rattle.ledger.specs.Pairs.{Pairs, none, pair, size}
use Rattle.ledger.specs.Ledger.{length_wrong, obeys, pairs_of, ledger_refusal}
use Rattle.ledger.proofs.LedgerSizes.{length-wrong}
use Rattle.ledger.proofs.PairsAsNumbers.{flat}
use Rattle.ledger.proofs.LedgerRefusal.{refusal-53, refusal-1, refusal-none, refusal-zero}
use Rattle.savedledgers.specs.Numbers.{number_bytes}
use Rattle.savedrecords.specs.Kind.{kind_one}
use Rattle.savedrecords.specs.Record.{pair_bytes, record_of}
use Rattle.savedrecords.specs.declared.kind.SecondNumber.TheVariants.{End}
use Rattle.savedrecords.proofs.RecordPairs.{length-pair_bytes}
use Rattle.savedrecords.proofs.RecordBytes.{record-bytes}
use Rattle.savedrecords.proofs.RecordRoundTrip.{length-record_of}
use Rattle.savedledgers.specs.Saved.{saved_of, write_saved_refusal, write_saved, write_saved_after}
use Rattle.savedledgers.specs.SavedWriting.{SavedWriting, SavedBytes}
use Rattle.savedledgers.proofs.SavedReading.{right-length}

-- ---- the bytes of the pairs

pub pair_bytes-flat : (ps : Pairs) → pair_bytes End ps ≡ number_bytes (flat ps)
unfolding flat pair_bytes number_bytes
pair_bytes-flat none = refl
pair_bytes-flat (pair a b ps) = rw (pair_bytes-flat ps)

-- the used pairs are the first entries of a ledger
pub flat-used : (l : List ℕ) → flat (pairs_of l) ≡ take (2 * size (pairs_of l)) l
unfolding flat pairs_of size
flat-used [] = refl
flat-used (a ∷ []) = refl
flat-used (a ∷ b ∷ rest) = go (eqb b 0) (flat-used rest)
  where
    go : (t : Bool) → flat (pairs_of rest) ≡ take (2 * size (pairs_of rest)) rest
        → let ps = cond t none (pair a b (pairs_of rest)) in flat ps ≡ take (2 * size ps) (a ∷ b ∷ rest)
    go true i = refl
    go false i =
        let q : 2 * suc (size (pairs_of rest)) ≡ suc (suc (2 * size (pairs_of rest))) = omega arith in
        rw (q, i)

pub saved_of-is : (ps : Pairs) → saved_of ps ≡ frame_of 1 (16 * size ps) ++ pair_bytes End ps
unfolding saved_of record_of to_little_endian
saved_of-is ps = framed_is 1 (pair_bytes End ps) ∙ rw (length-pair_bytes End ps)

pub length-saved_of : (ps : Pairs) → length (saved_of ps) ≡ 6 + 16 * size ps
unfolding saved_of
length-saved_of ps = omega (arith, length-record_of kind_one 0 ps)

-- ---- the number of a refusal

module _ (ledger out : List ℕ) where
  pub number-refused : (k : ℕ) → ledger_refusal ledger ≡ k → 0 < k → write_saved_refusal ledger out ≡ k
  unfolding write_saved_refusal
  number-refused k e h = first_some (ledger_refusal ledger) _ (omega arith) ∙ e

  module _ (accepted : ledger_refusal ledger ≡ 0) where
    only-room : write_saved_refusal ledger out ≡ room_refusal (6 + 16 * size (pairs_of ledger)) out
    unfolding write_saved_refusal
    only-room = first-none (ledger_refusal ledger) _ accepted ∙ rw (length-saved_of (pairs_of ledger))

    pub number-55 : length out < 6 + 16 * size (pairs_of ledger) → write_saved_refusal ledger out ≡ 55
    number-55 h = only-room ∙ room-short _ out h

    pub number_0 : 6 + 16 * size (pairs_of ledger) ≤ length out → write_saved_refusal ledger out ≡ 0
    number_0 h = only-room ∙ room-enough _ out h

-- ---- the answer and the lent bytes

pub writes-saved : (ledger out : List ℕ) → write_saved_refusal ledger out ≡ 0 → let saved = saved_of (pairs_of ledger) in
    (write_saved ledger out ≡ Ok (length saved)) × (write_saved_after ledger out ≡ saved ++ drop (length saved) out)
unfolding write_saved write_saved_after
writes-saved ledger out e =
    let w = written _ _ (saved_of (pairs_of ledger)) out e in
    (sym w.0, sym w.1)

-- what a writer that writes n bytes has tested, and the lent bytes after it
pub record Accepted (ledger out : List ℕ) (n : ℕ) : Type 0 where
  pub lengths : length_wrong ledger ≡ false
  pub ruled : obeys ledger ≡ true
  pub bytes : length (saved_of (pairs_of ledger)) ≡ n
  pub after : write_saved_after ledger out ≡ saved_of (pairs_of ledger) ++ drop (length (saved_of (pairs_of ledger))) out

pub accepted : (ledger out : List ℕ) (n : ℕ) → write_saved ledger out ≡ Ok n → Accepted ledger out n
unfolding write_saved write_saved_refusal
accepted ledger out n e =
    let w = written-only (write_saved_refusal ledger out) _ n e in
    let t = refusal-zero ledger (first-zero (ledger_refusal ledger) _ w.0).0 in
    record { lengths = t.0; ruled = t.1; bytes = w.1; after = (writes-saved ledger out w.0).1 }

-- ---- the bytes

-- o is the lent bytes after the frame, and zs the part of them that has the pairs
pub save-placed : (ledger out o zs : List ℕ) (used : ℕ) → used ≡ size (pairs_of ledger)
    → o ≡ frame_of 1 (16 * used) ++ drop frame_length out → zs ≡ number_bytes (take (2 * used) ledger)
    → let saved = saved_of (pairs_of ledger) in put_mid 6 (6 + 16 * used - 6) o zs ≡ saved ++ drop (length saved) out
save-placed ledger out o zs used u e z =
    let ps = pairs_of ledger in
    let q : 6 + 16 * used - 6 ≡ 16 * used = omega arith in
    let f = frame_of 1 (16 * used) in
    let n : length f ≡ 6 = length-frame_of 1 (16 * used) in
    let zs-is : zs ≡ pair_bytes End ps = z ∙ rw (u, ← flat-used ledger) (sym (pair_bytes-flat ps)) in
    rw (q, e, take_at f (drop 6 out) 6 n, drop_at f (drop 6 out) 6 n, drop-drop (16 * used) 6 out, length-saved_of ps, saved_of-is ps, zs-is, u)
    (sym (append_assoc (frame_of 1 (16 * size ps)) (pair_bytes End ps) (drop (6 + 16 * size ps) out)))

-- ---- the rows

module _ (ledger out : List ℕ) where
  refused : (k : ℕ) → write_saved_refusal ledger out ≡ k → 0 < k → Refuses (write_saved ledger out) (write_saved_after ledger out) out k
  unfolding write_saved write_saved_after
  refused k e h = refuses (write_saved_refusal ledger out) _ (saved_of (pairs_of ledger)) out k e h

  pub saved-writing : SavedWriting ledger out
  unfolding write_saved write_saved_after
  saved-writing =
      record {
        wrong_length = λ o. refused 53 (number-refused ledger out 53 (refusal-53 ledger (length-wrong ledger o)) (omega arith)) (omega arith);
        broken_rule = λ l o. refused 1 (number-refused ledger out 1 (refusal-1 ledger (right-length ledger l) o) (omega arith)) (omega arith);
        too_few_bytes = λ l o h. refused 55 (number-55 ledger out (refusal-none ledger (right-length ledger l) o) h) (omega arith);
        written = λ l o h.
            let n = length-saved_of (pairs_of ledger) in
            rw n (writes (write_saved_refusal ledger out) (6 + 16 * size (pairs_of ledger)) (saved_of (pairs_of ledger)) out
            (number_0 ledger out (refusal-none ledger (right-length ledger l) o) h) n);
      }

pub saved-bytes : SavedBytes
unfolding saved_of to_little_endian
saved-bytes =
    record {
      all_bytes = λ ps.
          let z : 2 + (0 + 16 * size ps) ≡ 2 + 16 * size ps = omega arith in
          rw z at (record-bytes.all_bytes kind_one 0 ps);
    }
