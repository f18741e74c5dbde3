-- `ranges::list_text_length`: the bytes counted and those of the ranges that are left are all.
use Prim.Native.Nat.{◌+◌, ◌≤◌}
use mathlib.Core.Path.{ap, ◌∙◌}
use native.Mathlib.Omega.{arith}
use mathlib.Core.List.{[]}
use lib.ListN.{length, get_or, drop}
use Rattle.ledger.specs.Ledger.{pairs_of}
use Rattle.ledger.specs.Pairs.{size}
use Rattle.ledger.proofs.LedgerLayout.{size-pairs_of}
use Rattle.rangelists.specs.RangeText.{pairs_in}
use Rattle.rangelists.proofs.RangeText.{list_from, list_from-none, list_from-all, list-grows, comma-le}
use Rattle.rangelists.proofs.UsedPairs.{size-pairs_in, pairs_in-next, pairs_in-over}
use Rattle.rangelists.proofs.ranges.list_text_length.Goals as goal

pub loop-a-init : goal.loop-a-init
loop-a-init c = (omega arith, omega (arith, ap length (list_from-all (pairs_in c.args.pairs.now))))

pub after_comma-requires : goal.after_comma-requires
after_comma-requires c = omega (arith, c.requires.few)

pub range_text_length-requires : goal.range_text_length-requires
range_text_length-requires c = c.requires.used.ends c.loop-a.a-index c.loop-a-test.true

pub overflow_add-n : goal.overflow_add-n
overflow_add-n c = omega (arith, comma-le c.loop-a.n, c.requires.few)

pub loop-a-preserved : goal.loop-a-preserved
loop-a-preserved c =
    let ps = c.args.pairs.now in
    let i = c.loop-a.a-index in
    let p = pairs_in-next ps i c.loop-a-test.true in
    let g = list-grows c.loop-a.n (c.after_comma.result + c.range_text_length.result) (get_or (get_or ps i []) 0 0) (get_or (get_or ps i []) 1 0) (pairs_in (drop (i + 1) ps)) (omega arith) in
    (omega (arith, comma-le c.loop-a.n), g ∙ rw (← p) c.loop-a.invariant.1)

pub returns : goal.returns
returns c =
    let ps = c.args.pairs.now in
    omega (arith, c.loop-a.invariant.1, ap length (list_from-none c.loop-a.n _ (pairs_in-over ps c.loop-a.a-index (omega arith))))
