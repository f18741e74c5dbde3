-- `claim::merge`.
use mathlib.Core.Path.{◌≡◌, sym, ◌∙◌}
use mathlib.Core.Bool.{true}
use mathlib.Core.List.{List}
use native.Mathlib.Omega.{arith}
use Prim.Native.Nat.{ℕ, ◌<◌, ◌≤◌}
use lib.ListN.{get_or}
use Rattle.ledger.specs.Pairs.{size, count_starting_by}
use Rattle.ledger.specs.Ledger.{obeys, pairs_of, largest}
use Rattle.ledger.proofs.LedgerSizes.{ends-fit}
use Rattle.ledger.proofs.PairsJoinSlot.{count_starting_by-le}
use Rattle.claims.proofs.JoinRoom.{at-is, past_is, size-joined}
use Rattle.claims.proofs.JoinInPlace.{used-is, own-joined, wide-joined}
use Rattle.claims.proofs.claim.merge.Goals as goal

-- in a ledger by the rule: the first unused pair is after the used ones
used : (l : List ℕ) (end past n : ℕ) → obeys l ≡ true → ((i : ℕ) → get_or l i 0 < 18446744073709551616) → past ≡ count_starting_by end (pairs_of l)
    → (obeys l ≡ true → past ≤ count_starting_by largest (pairs_of l) → n ≡ count_starting_by largest (pairs_of l)) → n ≡ size (pairs_of l)
used l end past n o fit p e =
    let u = used-is l o (ends-fit l fit) in
    e o (omega (arith, u, count_starting_by-le end (pairs_of l))) ∙ u

pub returns-else-slot : goal.returns-else-slot
returns-else-slot c o h q g =
    let x = c.args in
    let l = x.ledger.now in
    let a = at-is x.range.start x.range.end l x.slot q in
    let p = past_is x.range.start x.range.end l x.slot q in
    let u = used l x.range.end x.slot.past c.first_pair_after-used.result o (λ i. omega (arith, c.slice_known-1.given i)) p c.first_pair_after-used.ensures.2 in
    c.widen.ensures ∙ rw (a, p, u) (wide-joined l o x.range.start x.range.end h (λ z. c.if-slot.false (a ∙ z ∙ sym p)))

pub returns-then-slot : goal.returns-then-slot
returns-then-slot c o h q g =
    let x = c.args in
    let l = x.ledger.now in
    let a = at-is x.range.start x.range.end l x.slot q in
    let p = past_is x.range.start x.range.end l x.slot q in
    let u = used l x.range.end x.slot.past c.first_pair_after-used.result o (λ i. omega (arith, c.slice_known-1.given i)) p c.first_pair_after-used.ensures.2 in
    let m = sym a ∙ c.if-slot.true ∙ p in
    c.put_own.ensures (omega (arith, u, m, g, size-joined l o x.range.start x.range.end h, count_starting_by-le x.range.end (pairs_of l)))
    ∙ rw (a, u) (own-joined l o x.range.start x.range.end h m g)
