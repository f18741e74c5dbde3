-- `host_port::host_port_at`: the numbers read, and those that are to come after them, make the host-port.
use Prim.Native.Nat.{suc, ◌+◌, ◌-◌}
use mathlib.Core.Path.{◌≡◌, sym, ap, ◌∙◌}
use native.Mathlib.Omega.{arith}
use borrow.Author.Tests.{ltb-true, ltb-false}
use lib.ListN.{length, get_or, get_or-eq_default}
use Rattle.std.specs.Prelude.{Some}
use Rattle.std.proofs.lemmas.List.{get_or_default}
use Rattle.hostports.specs.HostPort.{comma, more_at, refuse_port_zero, host_port_at}
use Rattle.hostports.proofs.HostPort.{first-malformed, first-number, no_comma, more-malformed, one_more, more-done, still-malformed, port-zero, port-kept, room-left, grows}
use Rattle.hostports.proofs.HostPortsRead.{number_bound}
use Rattle.hostports.proofs.host_port.host_port_at.Goals as goal
use Rattle.hostports.proofs.host_port.host_port_at.Goals.{After-loop, In-loop, In_ok-get, Else-branch-ne-COMMA}

-- one of the numbers that are to come is the next
host-port : (c : In-loop) → let x = c.args in
    host_port_at x.text.now x.at ≡ refuse_port_zero (more_at (suc (6 - (c.loop.counter + 1))) x.text.now c.loop.read.value c.loop.read.next)
host-port c =
    let m : suc (6 - (c.loop.counter + 1)) ≡ 6 - c.loop.counter = omega arith in
    rw m (sym c.loop.invariant.2)

-- the byte that is got is that of the text
byte : (c : In_ok-get) → get_or c.args.text.now c.loop.read.next 0 ≡ c.in_ok-get.field-0.now
byte c =
    let h = c.in_ok-get.ensures.lookup in
    get_or_default c.args.text.now c.loop.read.next 0 c.in_ok-get.field-0.now (ltb-true c.loop.read.next (length c.args.text.now) (sym h.0)) ∙ sym h.1

comma-is : (c : Else-branch-ne-COMMA) → get_or c.args.text.now c.loop.read.next 0 ≡ comma
comma-is c = byte (goal.at.Else-branch-ne-COMMA c).In_ok-get ∙ c.if-branch-ne-COMMA.false

-- after the sixth number nothing more is read
six : (c : After-loop) → let x = c.args in
    host_port_at x.text.now x.at ≡ refuse_port_zero (Some c.loop.read)
six c =
    let z : 6 - c.loop.counter ≡ 0 = omega arith in
    sym c.loop.invariant.2 ∙ ap refuse_port_zero (rw z (more-done _ c.loop.read.value c.loop.read.next))

pub returns-in_err-read : goal.returns-in_err-read
returns-in_err-read c =
    let x = c.args in
    c.from_residual.ensures ∙ sym (first-malformed x.text.now x.at (sym c.number_at.ensures ∙ c.in_err-read.was))

pub loop-init : goal.loop-init
loop-init c =
    let x = c.args in
    let is = sym c.number_at.ensures ∙ c.in_ok-read.was in
    (omega arith, number_bound x.text.now x.at _ _ is, sym (first-number x.text.now x.at _ _ is))

pub returns-in_err-get : goal.returns-in_err-get
returns-in_err-get c =
    let s = c.args.text.now in
    let z = get_or-eq_default s 0 (ltb-false c.loop.read.next (length s) (sym c.in_err-get.ensures.lookup.0)) in
    c.from_residual-in_err-get.ensures ∙ sym (host-port (goal.at.returns-in_err-get c).In-loop ∙ still-malformed _ (no_comma _ s c.loop.read.value c.loop.read.next (λ e. omega (arith, z, e))))

pub returns-then-branch-ne-COMMA : goal.returns-then-branch-ne-COMMA
returns-then-branch-ne-COMMA c =
    sym (host-port (goal.at.returns-then-branch-ne-COMMA c).In-loop ∙ still-malformed _ (no_comma _ c.args.text.now c.loop.read.value c.loop.read.next (λ e. c.if-branch-ne-COMMA.true (sym (byte (goal.at.returns-then-branch-ne-COMMA c).In_ok-get) ∙ e))))

pub returns-in_err-number : goal.returns-in_err-number
returns-in_err-number c =
    c.from_residual-in_err-number.ensures
    ∙ sym (host-port (goal.at.returns-in_err-number c).In-loop ∙ still-malformed _ (more-malformed _ c.args.text.now c.loop.read.value c.loop.read.next (comma-is (goal.at.returns-in_err-number c).Else-branch-ne-COMMA) (sym c.number_at-in-loop.ensures ∙ c.in_err-number.was)))

pub overflow_mul-read : goal.overflow_mul-read
overflow_mul-read c =
    omega (arith, room-left c.loop.read.value c.loop.counter c.loop.invariant.1 (omega arith))

pub overflow_add-read-in-loop : goal.overflow_add-read-in-loop
overflow_add-read-in-loop c =
    let s = c.args.text.now in
    omega (arith, room-left c.loop.read.value c.loop.counter c.loop.invariant.1 (omega arith), number_bound s (c.loop.read.next + 1) _ _ (sym c.number_at-in-loop.ensures ∙ c.in_ok-number.was))

pub loop-preserved : goal.loop-preserved
loop-preserved c =
    let s = c.args.text.now in
    let is = sym c.number_at-in-loop.ensures ∙ c.in_ok-number.was in (
      omega arith,
      grows c.loop.read.value c.in_ok-number.number.value c.loop.counter c.loop.invariant.1 (number_bound s (c.loop.read.next + 1) _ _ is),
      sym (host-port (goal.at.loop-preserved c).In-loop ∙ ap refuse_port_zero (one_more (6 - (c.loop.counter + 1)) s c.loop.read.value c.loop.read.next _ _ (comma-is (goal.at.loop-preserved c).Else-branch-ne-COMMA) is)),
    )

pub returns-then-read-eq0 : goal.returns-then-read-eq0
returns-then-read-eq0 c = sym (six (goal.at.returns-then-read-eq0 c).After-loop ∙ port-zero _ _ c.if-read-eq0.true)

pub returns : goal.returns
returns c = sym (six (goal.at.returns c).After-loop ∙ port-kept _ _ c.if-read-eq0.false)
