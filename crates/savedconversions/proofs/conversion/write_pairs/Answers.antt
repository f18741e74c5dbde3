-- `conversion::write_pairs`: what is written, with what is still to be written after it, is the whole.
use Prim.Native.Nat.{◌+◌, ◌*◌, ◌-◌, ◌/◌, ◌≤◌, ◌<◌}
use mathlib.Core.Path.{◌≡◌, sym, ap, ◌∙◌}
use mathlib.Core.List.{append-nil}
use native.Mathlib.Omega.{arith}
use borrow.Rule.Slice.PartMut.{mid_len}
use lib.ListN.{length, drop, length-drop}
use lib.Seq.{take-length}
use Rattle.savedrecords.specs.Record.{start_in, end_in, pairs_in, pair_bytes}
use Rattle.savedrecords.proofs.RecordPairs.{chunk_within, rest_after, pair_is, pair-at}
use Rattle.savedconversions.proofs.Pairs.{write-turn}
use Rattle.savedconversions.proofs.conversion.write_pairs.Goals as goal
use Rattle.savedconversions.proofs.conversion.write_pairs.Goals.{After-first-next}

-- the pair that is next: it has a number, starts there, and ends there
next-is : (c : After-first-next) → let x = c.args in
    let k = c.loop-k.k-iterator.count in
    let part = drop (16 * k) x.pairs.now in
    let next = c.first-next.result in
    (k < length x.pairs.now / 16) × (next.start ≡ start_in part) × ((next.start + next.length ≡ end_in x.from part) × (end_in x.from part ≤ 18446744073709551615))
next-is c =
    let x = c.args in
    let n = length x.pairs.now / 16 in
    let i = c.loop-k.invariant in
    let steps = c.in-Some.ensures.steps in
    let k = c.loop-k.k-iterator.count in
    let sixteen = steps.0.1.1 ∙ i.1 in
    let within = chunk_within x.from x.pairs.now _ _ _ k i.2 steps.0.1.0 sixteen in
    let e = pair_is x.from x.pairs.now _ _ _ k i.2 steps.0.1.0 sixteen _ _ c.first-next.ensures.0 c.first-next.ensures.1 in
    (within, e.0, pair-at x.from n k 18446744073709551615 _ _ x.pairs.now within c.requires.2 c.requires.3 e.0 e.1)

pub write_pair-requires : goal.write_pair-requires
write_pair-requires c =
    let k = c.loop-k.k-iterator.count in
    let e = next-is (goal.at.write_pair-requires c).After-first-next in
    rw c.in-Some.ensures.steps.1 (mid_len (16 * k) (16 * k + 16) c.loop-k.out (omega arith) ∙ omega arith, omega (arith, e.2))

pub loop-k-preserved : goal.loop-k-preserved
loop-k-preserved c =
    let x = c.args in
    let n = length x.pairs.now / 16 in
    let i = c.loop-k.invariant in
    let steps = c.in-Some.ensures.steps in
    let k = c.loop-k.k-iterator.count in
    let e = next-is (goal.at.loop-k-preserved c).After-first-next in
    rw (steps.2, steps.1) (
      omega arith,
      steps.0.0 ∙ i.1,
      rest_after x.from x.pairs.now _ _ _ k i.2 steps.0.1.0 (steps.0.1.1 ∙ i.1),
      rw (← steps.1) (omega arith),
      write-turn x.from x.to x.pairs.now c.loop-k.out _ n k _ _ e.0 (omega arith) e.1 e.2.0 c.write_pair.ensures ∙ i.4,
    )

pub returns : goal.returns
unfolding pairs_in pair_bytes
returns c =
    let x = c.args in
    let n = length x.pairs.now / 16 in
    let i = c.loop-k.invariant in
    let k = c.loop-k.k-iterator.count in
    let e : k ≡ n = omega (arith, c.in-None.ensures.steps.0.1.0, i.1, ap length i.2, length-drop (16 * k) x.pairs.now) in
    let z : n - n ≡ 0 = omega arith in
    let o : 16 * n ≡ length c.loop-k.out = omega arith in
    sym (append-nil c.loop-k.out) ∙ (rw (e, z, o, take-length c.loop-k.out) at i.4)
