-- `line::Line::copy_to`.
use native.Mathlib.Omega.{arith}
use lib.ListN.{length}
use mathlib.Core.Path.{◌≡◌, sym, ap, ◌∙◌}
use Rattle.std.specs.Prelude.{ℕ, Result, Ok}
use Rattle.answers.specs.Written.{room_refusal}
use Rattle.answers.proofs.WrittenBy.{room-short, room-enough, refused, written}
use Rattle.screen.proofs.Screen.{held-length}
use Rattle.screen.proofs.line.Line.copy_to.Goals as goal

pub returns-then-out-self : goal.returns-then-out-self
returns-then-out-self c =
    let x = c.args in
    refused _ _ x.self.now x.out.now 55 (room-short (length x.self.now) x.out.now (omega (arith, c.if-out-self.true, held-length c.self.inside.length c.self.inside.bytes x.self.now c.self.view_is c.self.told c.self.invariant))) (omega arith)

pub returns : goal.returns
returns c =
    let x = c.args in
    let s = c.self.inside in
    let l = held-length s.length s.bytes x.self.now c.self.view_is c.self.told c.self.invariant in
    let w = written (room_refusal (length x.self.now) x.out.now) (length x.self.now) x.self.now x.out.now (room-enough (length x.self.now) x.out.now (omega (arith, l, c.if-out-self.false))) in
    let e : c.copy_from_slice.new.self ≡ x.self.now = c.copy_from_slice.ensures.after ∙ c.self.view_is in
    (ap {B = Result ℕ ℕ} Ok (sym l) ∙ w.0, rw (e, ← l) w.1)
