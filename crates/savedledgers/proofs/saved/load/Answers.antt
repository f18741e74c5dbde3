-- `saved::load`.
use Prim.Native.Nat.{◌*◌, ◌/◌, ◌≤◌}
use mathlib.Core.Path.{◌≡◌, sym, ◌∙◌}
use native.Mathlib.Omega.{arith}
use borrow.Author.Rules.{rules}
use lib.ListN.{length}
use lib.Seq.{length-take-le}
use Rattle.octets.proofs.Digits.{below_at}
use Rattle.ledger.specs.Ledger.{capacity}
use Rattle.ledger.proofs.LedgerSizes.{length-fits}
use Rattle.savedrecords.specs.Record.{pairs_in}
use Rattle.savedrecords.proofs.RecordPairs.{size-pairs_in}
use Rattle.savedrecords.proofs.RecordRefusal.{refusal-sound}
use Rattle.savedledgers.specs.Saved.{read_refusal}
use Rattle.savedledgers.proofs.Entries.{load-placed}
use Rattle.savedledgers.proofs.SavedReading.{Sound, number-sound, after_read, ends-fit-entries}
use Rattle.savedledgers.proofs.saved.load.Goals as goal
use Rattle.savedledgers.proofs.saved.load.Goals.{After-pair_part-pairs}

-- what the test on the way has shown
sound : (c : After-pair_part-pairs) → let x = c.args in Sound x.kind x.bytes.now x.ledger.now
sound c = let x = c.args in number-sound x.kind x.bytes.now x.ledger.now (sym c.in_ok-check.ensures)

-- there are entries for the pairs
room : (c : After-pair_part-pairs) → let x = c.args in
    (length c.pair_part-pairs.result.now / 16 ≤ capacity x.ledger.now) × (2 * (length c.pair_part-pairs.result.now / 16) ≤ length x.ledger.now)
room c =
    let h = rw (← c.pair_part-pairs.ensures) at (sound c).room in
    (h, omega (arith, h))

pub slice_bounds-fill-end : goal.slice_bounds-fill-end
slice_bounds-fill-end c = (room c).1

pub slice_bounds-fill-end-2 : goal.slice_bounds-fill-end-2
slice_bounds-fill-end-2 c = sym (length-take-le (2 * (length c.pair_part-pairs.result.now / 16)) c.args.ledger.now (room (goal.at.slice_bounds-fill-end-2 c).After-pair_part-pairs).1)

pub fill-requires : goal.fill-requires
fill-requires c =
    let x = c.args in
    let at = goal.at.fill-requires c in
    let s = sound at.After-pair_part-pairs in
    let below = below_at 256 x.bytes.now (λ i. omega (arith, c.type_inv.bytes i)) in
    let ends = ends-fit-entries x.kind x.bytes.now x.ledger.now below c.requires s in
    (length-take-le (2 * (length c.pair_part-pairs.result.now / 16)) x.ledger.now (room at.After-pair_part-pairs).1, rw c.pair_part-pairs.ensures (refusal-sound x.kind x.bytes.now s.right).ruled, rw c.pair_part-pairs.ensures ends)

pub slice_bounds-clear-count : goal.slice_bounds-clear-count
slice_bounds-clear-count c = let h = (room (goal.at.slice_bounds-clear-count c).After-pair_part-pairs).1 in search (rules, h)

pub slice_bounds-clear-start : goal.slice_bounds-clear-start
slice_bounds-clear-start c = let h = (room (goal.at.slice_bounds-clear-start c).After-pair_part-pairs).1 in search (rules, h)

pub returns : goal.returns
returns c =
    let x = c.args in
    let part = c.pair_part-pairs.result.now in
    let n = length part / 16 in
    let at = goal.at.returns c in
    let s = sound at.After-pair_part-pairs in
    let z : read_refusal x.kind x.bytes.now x.ledger.now ≡ 0 = sym c.in_ok-check.ensures in
    let even = (length-fits x.ledger.now s.lengths).0 in
    let placed = load-placed x.ledger.now _ _ (pairs_in x.kind.second n part) n even (room at.After-pair_part-pairs).0 (size-pairs_in x.kind.second n part) c.fill.ensures (search rules) in
    (sym z, placed ∙ rw c.pair_part-pairs.ensures (sym (after_read x.kind x.bytes.now x.ledger.now z)))
