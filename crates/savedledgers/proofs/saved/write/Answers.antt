-- `saved::write`.
use Prim.Native.Nat.{◌+◌, ◌*◌, ◌≤◌}
use mathlib.Core.Path.{◌≡◌, sym, ap, ◌∙◌}
use mathlib.Core.List.{[]}
use native.Mathlib.Omega.{arith}
use lib.ListN.{length, length-take, length-drop}
use Rattle.std.specs.Prelude.{Ok}
use Rattle.answers.specs.Refusal.{number}
use Rattle.answers.proofs.Numbers.{above_0}
use Rattle.answers.proofs.WrittenBy.{refused, room-enough, written}
use Rattle.frames.proofs.Framed.{frame-written}
use Rattle.ledger.specs.Pairs.{size}
use Rattle.ledger.specs.Ledger.{pairs_of}
use Rattle.ledger.proofs.LedgerSizes.{length-fits}
use Rattle.ledger.proofs.LedgerLayout.{size-pairs_of}
use Rattle.ledger.proofs.LedgerRefusal.{refusal-zero}
use Rattle.savedledgers.specs.Saved.{saved_of, write_saved, write_saved_after}
use Rattle.savedledgers.proofs.SavedWriting.{number-refused, number-55, number_0, writes-saved, length-saved_of, save-placed}
use Rattle.savedledgers.proofs.saved.write.Goals as goal
use Rattle.savedledgers.proofs.saved.write.Goals.{After-used_pairs-used}

-- what the test of the ledger has shown: the used pairs are at most half the entries
used-is : (c : After-used_pairs-used) → let l = c.args.ledger.now in
    (c.used_pairs-used.result ≡ size (pairs_of l)) × (2 * c.used_pairs-used.result ≤ length l) × (length l ≤ 8192)
used-is c =
    let l = c.args.ledger.now in
    (c.used_pairs-used.ensures, omega (arith, c.used_pairs-used.ensures, size-pairs_of l), (length-fits l (refusal-zero l (sym c.in_ok-check.ensures)).0).1)

pub returns-in_err-check : goal.returns-in_err-check
unfolding write_saved write_saved_after
returns-in_err-check c =
    let x = c.args in
    let k = number c.in_err-check.field-0.0 in
    let h = above_0 c.in_err-check.field-0.0 in
    let n = length (saved_of (pairs_of x.ledger.now)) in
    let r = refused _ n (saved_of (pairs_of x.ledger.now)) x.out.now k (number-refused x.ledger.now x.out.now k (sym c.in_err-check.ensures) h) h in
    (grind (arith, r.0), r.1)

pub overflow_mul-n : goal.overflow_mul-n
overflow_mul-n c = omega (arith, used-is c)

pub overflow_add-end : goal.overflow_add-end
overflow_add-end c = omega (arith, used-is c)

pub returns-then-out-end : goal.returns-then-out-end
unfolding write_saved write_saved_after
returns-then-out-end c =
    let x = c.args in
    let n = number-55 x.ledger.now x.out.now (sym c.in_ok-check.ensures) (omega (arith, used-is (goal.at.returns-then-out-end c).After-used_pairs-used)) in
    refused _ _ (saved_of (pairs_of x.ledger.now)) x.out.now 55 n (omega arith)

pub overflow_cast-n : goal.overflow_cast-n
overflow_cast-n c = omega (arith, used-is (goal.at.overflow_cast-n c).After-used_pairs-used)

-- there is room for the frame
pub returns-in_err-write : goal.returns-in_err-write
returns-in_err-write c =
    let out = c.args.out.now in
    let wrote = (written _ 6 [] out (room-enough 6 out (omega arith))).0 in
    let e = c.in_err-write.ensures.0 ∙ sym wrote in
    absurd cc

pub slice_bounds-write_numbers-end : goal.slice_bounds-write_numbers-end
slice_bounds-write_numbers-end c = let u = used-is (goal.at.slice_bounds-write_numbers-end c).After-used_pairs-used in simp length-take (omega (arith, u))

pub write_numbers-requires : goal.write_numbers-requires
write_numbers-requires c = let u = used-is (goal.at.write_numbers-requires c).After-used_pairs-used in simp (length-take, length-drop) (omega (arith, u))

pub returns : goal.returns
returns c =
    let x = c.args in
    let n = number_0 x.ledger.now x.out.now (sym c.in_ok-check.ensures) (omega (arith, used-is (goal.at.returns c).After-used_pairs-used)) in
    let w = writes-saved x.ledger.now x.out.now n in
    let k = c.used_pairs-used.ensures in
    let s : length (saved_of (pairs_of x.ledger.now)) ≡ 6 + 16 * c.used_pairs-used.result = length-saved_of (pairs_of x.ledger.now) ∙ rw k in
    let o = c.write.ensures.1 ∙ frame-written 1 (16 * c.used_pairs-used.result) x.out.now (omega arith) in
    let p = save-placed x.ledger.now x.out.now _ _ c.used_pairs-used.result k o c.write_numbers.ensures in
    (sym (w.0 ∙ ap Ok s), p ∙ sym w.1)
