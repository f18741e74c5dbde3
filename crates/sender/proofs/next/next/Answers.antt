-- `next::next`.
use mathlib.Core.Path.{◌≡◌, sym, ap, ◌∙◌}
use native.Mathlib.Omega.{arith}
use Rattle.std.specs.Prelude.{ℕ, Ok, Err}
use Rattle.answers.specs.Refusal.{number, numbered}
use Rattle.sender.specs.Sender.{next_call, next_of}
use Rattle.sender.proofs.Answered.{accepts, written_is, refused_is}
use Rattle.sender.proofs.next.next.Goals as goal

pub moved_on-sender-requires : goal.moved_on-sender-requires
moved_on-sender-requires c =
    let x = c.args in
    let k = next_call x.channel x.count x.size x.file.now x.out.now in
    let e : Ok c.in-Ok.field-0 ≡ next_of x.sender k = sym (ap (numbered {A = ℕ}) c.in-Ok.is) ∙ c.write_next-answer.ensures.0 in
    let a = accepts x.sender k (written_is x.sender k c.in-Ok.field-0 e).0 in
    omega (arith, a.channel, a.count, a.few)

pub returns-in-Ok : goal.returns-in-Ok
returns-in-Ok c =
    let x = c.args in
    let k = next_call x.channel x.count x.size x.file.now x.out.now in
    let e : Ok c.in-Ok.field-0 ≡ next_of x.sender k = sym (ap (numbered {A = ℕ}) c.in-Ok.is) ∙ c.write_next-answer.ensures.0 in
    (c.write_next-answer.ensures.0, c.moved_on-sender.ensures ∙ (written_is x.sender k c.in-Ok.field-0 e).1, c.write_next-answer.ensures.1)

pub returns-in-Err : goal.returns-in-Err
returns-in-Err c =
    let x = c.args in
    let k = next_call x.channel x.count x.size x.file.now x.out.now in
    let e : Err (number c.in-Err.field-0) ≡ next_of x.sender k = sym (ap (numbered {A = ℕ}) c.in-Err.is) ∙ c.write_next-answer.ensures.0 in
    (c.write_next-answer.ensures.0, refused_is x.sender k (number c.in-Err.field-0) e, c.write_next-answer.ensures.1)
