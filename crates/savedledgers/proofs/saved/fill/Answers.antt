-- `saved::fill`: the entries that have their pairs, with the pairs still to come after them, are the whole.
use Prim.Native.Nat.{◌+◌, ◌*◌, ◌-◌, ◌/◌, ◌≤◌, ◌<◌}
use mathlib.Core.Path.{◌≡◌, sym, ap, ◌∙◌}
use mathlib.Core.List.{append-nil}
use native.Mathlib.Omega.{arith}
use lib.ListN.{length, drop, length-set, length-drop}
use lib.Seq.{take-length}
use Rattle.ledger.specs.Ledger.{laid_out}
use Rattle.savedrecords.specs.Record.{start_in, end_in, pairs_in}
use Rattle.savedrecords.proofs.RecordPairs.{chunk_within, rest_after, pair_is, pair-at}
use Rattle.savedledgers.proofs.Entries.{fill-turn}
use Rattle.savedledgers.proofs.saved.fill.Goals as goal
use Rattle.savedledgers.proofs.saved.fill.Goals.{After-first-next}

-- the pair that is next: it has a number, starts there, and ends there
next-is : (c : After-first-next) → let x = c.args in
    let k = c.loop-k.k-iterator.count in
    let part = drop (16 * k) x.pairs.now in
    let next = c.first-next.result in
    (k < length x.pairs.now / 16) × (next.start ≡ start_in part) × ((next.start + next.length ≡ end_in x.second part) × (end_in x.second part ≤ 18446744073709551615))
next-is c =
    let x = c.args in
    let n = length x.pairs.now / 16 in
    let i = c.loop-k.invariant in
    let steps = c.in-Some.ensures.steps in
    let k = c.loop-k.k-iterator.count in
    let sixteen = steps.0.1.1 ∙ i.1 in
    let within = chunk_within x.second x.pairs.now _ _ _ k i.2 steps.0.1.0 sixteen in
    let e = pair_is x.second x.pairs.now _ _ _ k i.2 steps.0.1.0 sixteen _ _ c.first-next.ensures.0 c.first-next.ensures.1 in
    (within, e.0, pair-at x.second n k 18446744073709551615 _ _ x.pairs.now within c.requires.1 c.requires.2 e.0 e.1)

pub overflow_add-entries : goal.overflow_add-entries
overflow_add-entries c = omega (arith, (next-is (goal.at.overflow_add-entries c).After-first-next).2)

pub loop-k-preserved : goal.loop-k-preserved
loop-k-preserved c =
    let x = c.args in
    let i = c.loop-k.invariant in
    let steps = c.in-Some.ensures.steps in
    let n = length x.pairs.now / 16 in
    let k = c.loop-k.k-iterator.count in
    let e = next-is (goal.at.loop-k-preserved c).After-first-next in
    rw (steps.2, steps.1) (
      omega arith,
      steps.0.0 ∙ i.1,
      rest_after x.second x.pairs.now _ _ _ k i.2 steps.0.1.0 (steps.0.1.1 ∙ i.1),
      simp length-set i.3,
      fill-turn x.second x.pairs.now c.loop-k.entries n k _ _ e.0 (omega arith) e.1 e.2.0 ∙ i.4,
    )

pub returns : goal.returns
unfolding laid_out pairs_in
returns c =
    let x = c.args in
    let i = c.loop-k.invariant in
    let n = length x.pairs.now / 16 in
    let steps = c.in-None.ensures.steps in
    let k = c.loop-k.k-iterator.count in
    let e : k ≡ n = omega (arith, steps.0.1.0, i.1, ap length i.2, length-drop (16 * k) x.pairs.now) in
    let z : n - n ≡ 0 = omega arith in
    let w : 2 * n ≡ length c.loop-k.entries = omega arith in
    let r : length x.entries.now / 2 ≡ n = omega arith in
    sym (append-nil c.loop-k.entries) ∙ (rw (e, z, w, take-length c.loop-k.entries) at i.4) ∙ rw r
