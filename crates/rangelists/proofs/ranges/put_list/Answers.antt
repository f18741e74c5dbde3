-- `ranges::put_list`: the first n bytes of the text are written, and the rest of it is the ranges that are left.
use Prim.Native.Nat.{ℕ, ◌+◌}
use mathlib.Core.Path.{◌≡◌, refl, sym, ap, ◌∙◌}
use mathlib.Core.List.{[]}
use native.Mathlib.Omega.{arith}
use lib.ListN.{length, get_or, drop}
use lib.Seq.{sets}
use Rattle.ledger.specs.Pairs.{pair}
use Rattle.rangelists.specs.RangeText.{pairs_in, separator_after, range_text, ranges_text}
use Rattle.rangelists.proofs.RangeText.{list_from, list_from-none, list_from-all, comma-fits, range-fits, list_left, list_put, next-all}
use Rattle.rangelists.proofs.UsedPairs.{pairs_in-next, pairs_in-over}
use Rattle.rangelists.proofs.ranges.put_list.Goals as goal
use Rattle.rangelists.proofs.ranges.put_list.Goals.{In-loop-a}

-- what is left of the text begins with the range at hand
left : (c : In-loop-a) → let ps = c.args.pairs.now in let i = c.loop-a.a-index in
    drop c.loop-a.n (ranges_text (pairs_in c.args.pairs.now))
    ≡ list_from c.loop-a.n (pair (get_or (get_or ps i []) 0 0) (get_or (get_or ps i []) 1 0) (pairs_in (drop (i + 1) ps)))
left c = c.loop-a.invariant.2 ∙ ap (list_from c.loop-a.n) (pairs_in-next c.args.pairs.now c.loop-a.a-index c.loop-a-test.true)

pub loop-a-init : goal.loop-a-init
loop-a-init c =
    (omega arith, c.requires.fits, sym (list_from-all (pairs_in c.args.pairs.now)), refl)

pub put_comma-from-requires : goal.put_comma-from-requires
put_comma-from-requires c =
    omega (arith, comma-fits (ranges_text (pairs_in c.args.pairs.now)) c.loop-a.n _ _ _ c.loop-a.invariant.0 (left (goal.at.put_comma-from-requires c).In-loop-a))

pub put_range-n-requires : goal.put_range-n-requires
put_range-n-requires c = (
  c.requires.used.ends c.loop-a.a-index c.loop-a-test.true,
  omega (arith, range-fits (ranges_text (pairs_in c.args.pairs.now)) c.loop-a.n _ _ _ c.loop-a.invariant.0 (left (goal.at.put_range-n-requires c).In-loop-a)),
)

pub loop-a-preserved : goal.loop-a-preserved
loop-a-preserved c =
    let text = ranges_text (pairs_in c.args.pairs.now) in
    let p = get_or c.args.pairs.now c.loop-a.a-index [] in
    let a = get_or p 0 0 in
    let b = get_or p 1 0 in
    let n = c.loop-a.n in
    let here = left (goal.at.loop-a-preserved c).In-loop-a in
    let m : c.put_range-n.result ≡ n + length (separator_after n) + length (range_text a b) = omega arith in (
      omega (arith, range-fits text n a b _ c.loop-a.invariant.0 here),
      omega arith,
      list_left text n a b _ c.loop-a.invariant.0 here _ m,
      list_put text n a b _ c.loop-a.invariant.0 here _ m c.args.out.now c.loop-a.out c.put_comma-from.new.out _ c.loop-a.invariant.3
          c.put_comma-from.ensures.1
          (c.put_range-n.ensures.1 ∙ ap (λ (z : ℕ). sets c.put_comma-from.new.out z (range_text a b)) c.put_comma-from.ensures.0),
    )

pub returns : goal.returns
returns c =
    let over = list_from-none c.loop-a.n _ (pairs_in-over c.args.pairs.now c.loop-a.a-index (omega arith)) in
    c.loop-a.invariant.3 ∙ next-all (ranges_text (pairs_in c.args.pairs.now)) c.args.out.now c.loop-a.n (c.loop-a.invariant.2 ∙ over)
