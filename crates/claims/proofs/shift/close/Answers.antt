-- `shift::close`.
use Prim.Native.Nat.{◌+◌, ◌-◌}
use mathlib.Core.Path.{◌≡◌, refl, ap, ◌∙◌}
use native.Mathlib.Omega.{arith}
use lib.ListN.{length, take, drop, replicate, length-take, length-drop}
use lib.Seq.{paste}
use Rattle.claims.proofs.Shifts.{down-cleared}
use Rattle.claims.proofs.shift.close.Goals as goal

pub returns : goal.returns
returns c =
    let x = c.args in
    let l = x.ledger.now in
    let at = x.to + (x.end - x.from) in
    let k = x.end - at in
    let m : c.copy_within.new.self ≡ paste l x.to (drop x.from l) (x.end - x.from) = c.copy_within.ensures.after in
    let e : length (take k (drop at c.copy_within.new.self)) ≡ k = simp (length-take, length-drop, c.copy_within.ensures.len) (omega arith) in
    let z : c.clear.new.entries ≡ replicate k 0 = c.clear.ensures ∙ ap (λ n. replicate n 0) e in
    rw (z, m) (down-cleared l x.to x.from x.end k (omega arith) (omega arith) (omega arith) refl)
