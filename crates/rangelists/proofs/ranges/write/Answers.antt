-- `ranges::write`.
use mathlib.Core.Path.{◌≡◌, refl, sym, ap, ◌∙◌}
use native.Mathlib.Omega.{arith}
use borrow.Author.Tests.{eqb-true, eqb-false}
use Rattle.std.proofs.lemmas.Result.{err_from_is_err_and}
use Rattle.answers.proofs.Numbers.{above_0}
use Rattle.answers.proofs.WrittenBy.{refused, written-first}
use lib.ListN.{length}
use lib.Seq.{sets}
use Rattle.ledger.specs.Pairs.{Pairs, size}
use Rattle.ledger.specs.Ledger.{ledger_refusal, pairs_of}
use Rattle.ledger.proofs.LedgerLayout.{size-pairs_of}
use Rattle.rangelists.proofs.UsedPairs.{size-pairs_in}
use Rattle.ledger.proofs.LedgerSizes.{length-fits}
use Rattle.ledger.proofs.LedgerRefusal.{refusal-zero}
use Rattle.rangelists.proofs.RangeWriting.{number-refused, number-54, number-55, number_0}
use Rattle.rangelists.specs.RangeText.{pairs_in, IsUsed, ranges_text, write_ranges, write_ranges_after}
use Rattle.rangelists.proofs.ranges.write.Goals as goal
use Rattle.rangelists.proofs.ranges.write.Goals.{In_ok-check, After-used_pairs-pairs, Else-is_empty, After-list_text_length-n}

-- the ledger was accepted
right : (c : In_ok-check) → ledger_refusal c.args.ledger.now ≡ 0
right c = sym (rw c.in_ok-check.was at c.check.ensures)

pub returns-in_err-check : goal.returns-in_err-check
unfolding write_ranges write_ranges_after
returns-in_err-check c =
    let x = c.args in
    let p = err_from_is_err_and c.from_residual.result c.from_residual.ensures.1 in
    let some = above_0 c.in_err-check.field-0.0 in
    let n = number-refused x.ledger.now x.out.now _ (sym (rw c.in_err-check.was at c.check.ensures)) some in
    rw (p.1, p.2) (refused _ _ (ranges_text (pairs_of x.ledger.now)) x.out.now _ n some)

-- the pairs that are used, as they are handed on
used : (c : After-used_pairs-pairs) → IsUsed c.used_pairs-pairs.result.now (pairs_in c.used_pairs-pairs.result.now)
used c = record { are = refl; ends = c.used_pairs-pairs.ensures.ends }

-- as many as the ledger's
size_is : (c : After-used_pairs-pairs) → size (pairs_of c.args.ledger.now) ≡ length c.used_pairs-pairs.result.now
size_is c = sym (ap size c.used_pairs-pairs.ensures.are) ∙ size-pairs_in c.used_pairs-pairs.result.now

-- the number of bytes of their ranges
n_is : (c : After-list_text_length-n) → c.list_text_length-n.result ≡ length (ranges_text (pairs_of c.args.ledger.now))
n_is c = c.list_text_length-n.ensures ∙ ap (λ (ps : Pairs). length (ranges_text ps)) c.used_pairs-pairs.ensures.are

-- there are some where the emptiness test fails
some : (c : Else-is_empty) → size (pairs_of c.args.ledger.now) ≡ 0 → ⊥
some c z =
    let e = sym (size_is (goal.at.Else-is_empty c).After-used_pairs-pairs) ∙ z in
    eqb-false (length c.used_pairs-pairs.result.now) 0 (sym c.is_empty.ensures ∙ c.if-is_empty.false) e

pub list_text_length-n-requires : goal.list_text_length-n-requires
list_text_length-n-requires c =
    let l = c.args.ledger.now in
    let h = goal.at.list_text_length-n-requires c in
    let few = (length-fits l (refusal-zero l (right h.In_ok-check)).0).1 in
    record {
      few = omega (arith, few, size_is h.After-used_pairs-pairs, size-pairs_of l);
      used = used h.After-used_pairs-pairs;
    }

pub returns-then-is_empty : goal.returns-then-is_empty
unfolding write_ranges write_ranges_after
returns-then-is_empty c =
    let x = c.args in
    let h = goal.at.returns-then-is_empty c in
    let z = size_is h.After-used_pairs-pairs ∙ eqb-true (length c.used_pairs-pairs.result.now) 0 (sym c.is_empty.ensures ∙ c.if-is_empty.true) in
    let n = number-54 x.ledger.now x.out.now (right h.In_ok-check) z in
    refused _ _ (ranges_text (pairs_of x.ledger.now)) x.out.now 54 n (omega arith)

pub returns-then-out-n : goal.returns-then-out-n
unfolding write_ranges write_ranges_after
returns-then-out-n c =
    let x = c.args in
    let l = n_is (goal.at.returns-then-out-n c).After-list_text_length-n in
    let z = some (goal.at.returns-then-out-n c).Else-is_empty in
    let n = number-55 x.ledger.now x.out.now (right (goal.at.returns-then-out-n c).In_ok-check) z (omega arith) in
    refused _ _ (ranges_text (pairs_of x.ledger.now)) x.out.now 55 n (omega arith)

pub put_list-requires : goal.put_list-requires
put_list-requires c =
    record {
      fits = omega (arith, c.list_text_length-n.ensures);
      used = used (goal.at.put_list-requires c).After-used_pairs-pairs;
    }

pub returns : goal.returns
unfolding write_ranges write_ranges_after
returns c =
    let x = c.args in
    let l = n_is (goal.at.returns c).After-list_text_length-n in
    let z = some (goal.at.returns c).Else-is_empty in
    let n = number_0 x.ledger.now x.out.now (right (goal.at.returns c).In_ok-check) z (omega arith) in
    let w = written-first _ _ (ranges_text (pairs_of x.ledger.now)) x.out.now n (omega arith) in
    (rw l w.0, c.put_list.ensures ∙ ap (λ (ps : Pairs). sets x.out.now 0 (ranges_text ps)) c.used_pairs-pairs.ensures.are ∙ w.1)
