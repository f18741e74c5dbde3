-- `next::write_next`.
use Prim.Native.Nat.{ℕ}
use mathlib.Core.Path.{◌≡◌, refl, sym, ap, ◌∙◌}
use native.Mathlib.Omega.{arith}
use Rattle.std.specs.Prelude.{Result, Ok, ⊤}
use Rattle.std.proofs.lemmas.Grind.{common_steps}
use Rattle.answers.specs.Refusal.{refusal_number}
use Rattle.answers.specs.Written.{first_refusal, written_by, written_after}
use Rattle.answers.specs.declared.refusal.Refusal.{Refusal}
use Rattle.sender.specs.Sender.{next_call, call_refusal, next_refusal, next_of, next_after}
use Rattle.sender.proofs.Answered.{accepts, number-55, number_0, refuses, writes, length-outlined, outlined}
use Rattle.sender.proofs.next.write_next.Goals as goal

-- nothing is refused where the check says so
passed : (r : Result ⊤ Refusal) (u : ⊤) (n : ℕ) → refusal_number r ≡ n → r ≡ Ok u → n ≡ 0
passed r u n e o = sym e ∙ ap (refusal_number {A = ⊤}) o

pub returns-in_err-check : goal.returns-in_err-check
unfolding next_of next_after next_refusal first_refusal written_by written_after
returns-in_err-check c = let x = c.args in grind (arith, common_steps, c.check.ensures x.file.now x.out.now refl)

pub bounds-sender-channel : goal.bounds-sender-channel
bounds-sender-channel c =
    let x = c.args in
    let a = accepts x.sender.now (next_call x.channel x.count x.size x.file.now x.out.now) (passed _ _ _ (c.check.ensures x.file.now x.out.now refl) c.in_ok-check.was) in
    omega (arith, a.channel, a.count)

pub offset_bounds-sender-channel : goal.offset_bounds-sender-channel
offset_bounds-sender-channel c =
    let x = c.args in
    let a = accepts x.sender.now (next_call x.channel x.count x.size x.file.now x.out.now) (passed _ _ _ (c.check.ensures x.file.now x.out.now refl) c.in_ok-check.was) in
    omega (arith, a.channel, a.count)

pub invariant_of-plan : goal.invariant_of-plan
invariant_of-plan c =
    let x = c.args in
    let a = accepts x.sender.now (next_call x.channel x.count x.size x.file.now x.out.now) (passed _ _ _ (c.check.ensures x.file.now x.out.now refl) c.in_ok-check.was) in
    record { fits = omega (arith, a.channel, a.count, a.size) }

pub next_outline-o-requires : goal.next_outline-o-requires
next_outline-o-requires c =
    let x = c.args in
    let a = accepts x.sender.now (next_call x.channel x.count x.size x.file.now x.out.now) (passed _ _ _ (c.check.ensures x.file.now x.out.now refl) c.in_ok-check.was) in
    (a.channel, a.more)

pub returns-then-out-n : goal.returns-then-out-n
returns-then-out-n c =
    let x = c.args in
    let k = next_call x.channel x.count x.size x.file.now x.out.now in
    let o = c.next_outline-o.result in
    let z : call_refusal x.sender.now k ≡ 0 = passed _ _ _ (c.check.ensures x.file.now x.out.now refl) c.in_ok-check.was in
    let e = length-outlined x.sender.now k o.third o.length (c.next_outline-o.ensures.2 x.file.now refl).1 c.next_outline-o.ensures.1 in
    let r = refuses x.sender.now k 55 (number-55 x.sender.now k z (omega (arith, e, c.if-out-n.true))) (omega arith) in
    (r.0, r.2)

pub returns : goal.returns
returns c =
    let x = c.args in
    let k = next_call x.channel x.count x.size x.file.now x.out.now in
    let o = c.next_outline-o.result in
    let z : call_refusal x.sender.now k ≡ 0 = passed _ _ _ (c.check.ensures x.file.now x.out.now refl) c.in_ok-check.was in
    let y = c.next_outline-o.ensures.2 x.file.now refl in
    let e = length-outlined x.sender.now k o.third o.length y.1 c.next_outline-o.ensures.1 in
    let r = writes x.sender.now k (number_0 x.sender.now k z (omega (arith, e, c.if-out-n.false))) in
    (ap {B = Result ℕ ℕ} Ok e ∙ r.0, c.write.ensures ∙ outlined x.sender.now k _ o.third o.length y.0 y.1 e ∙ r.2)
