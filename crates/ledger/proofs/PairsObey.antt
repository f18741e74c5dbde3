-- The test of the ledger rule for pairs is the rule.
use Prim.Native.Nat.{ℕ, suc}
use mathlib.Core.Path.{◌≡◌, refl}
use mathlib.Core.Bool.{true, ◌&&◌, and-eq-true_iff}
use borrow.Author.Tests.{lt-ltb, le-leb, ltb-true, leb-true}
use lib.Dec.{leb, ltb}
use Rattle.ledger.specs.Pairs.{Pairs, none, pair, ObeyFrom, obey_from}

pub ruled-obey_from : (lo : ℕ) (ps : Pairs) → ObeyFrom lo ps → obey_from lo ps ≡ true
unfolding obey_from
ruled-obey_from lo none c = refl
ruled-obey_from lo (pair a b ps) c = rw (le-leb lo a c.0, lt-ltb a b c.1, ruled-obey_from (suc b) ps c.2)

pub obey_from-ruled : (lo : ℕ) (ps : Pairs) → obey_from lo ps ≡ true → ObeyFrom lo ps
unfolding obey_from
obey_from-ruled lo none h = tt
obey_from-ruled lo (pair a b ps) h =
    let p = (and-eq-true_iff (leb lo a) (ltb a b && obey_from (suc b) ps)).0 h in
    let q = (and-eq-true_iff (ltb a b) (obey_from (suc b) ps)).0 p.1 in
    (leb-true lo a p.0, ltb-true a b q.0, obey_from-ruled (suc b) ps q.1)
