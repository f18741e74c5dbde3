-- `list::store`: the host-ports stored, and what comes after them, are what the text says.
use Prim.Native.Nat.{suc, ◌+◌, ◌-◌}
use mathlib.Core.Path.{◌≡◌, refl, sym, ◌∙◌}
use native.Mathlib.Omega.{arith}
use lib.ListN.{take, length-set}
use Rattle.std.specs.Prelude.{Some, None}
use Rattle.std.proofs.lemmas.Result.{err_from_is_err_and}
use Rattle.answers.specs.declared.refusal.Refusal.TheVariants.{MalformedHostPort}
use Rattle.hostports.specs.HostPort.{host_port_at}
use Rattle.hostports.proofs.HostPortsRead.{host-port-place}
use Rattle.hostlists.specs.HostList.{host_limit, list_at, hosts_of}
use Rattle.hostlists.proofs.HostList.{list-malformed, list-ends, list-broken, list-goes-on, list-empty, list_full, following, following-more, stored-trouble, stored_last}
use Rattle.hostlists.proofs.list.store.Goals as goal
use Rattle.hostlists.proofs.list.store.Goals.{In-loop-n, In_ok-found}

-- there is room for one host-port or more
says : (c : In-loop-n) → let s = c.args.text.now in
    hosts_of s ≡ following (take c.loop-n.n c.loop-n.list) (list_at (suc (host_limit - (c.loop-n.n + 1))) s c.loop-n.at)
says c =
    let m : suc (host_limit - (c.loop-n.n + 1)) ≡ host_limit - c.loop-n.n = omega arith in
    rw m (sym c.loop-n.invariant.2)

-- the host-port that is read next
found : (c : In_ok-found) → host_port_at c.args.text.now c.loop-n.at ≡ Some c.in_ok-found.found
found c =
    let h = c.ok_or.ensures.ok_part in
    let w = c.in_ok-found.was in
    let e = c.read_at.ensures in
    grind arith

pub loop-n-init : goal.loop-n-init
unfolding following hosts_of
loop-n-init c = (omega arith, c.requires, refl)

pub returns-in_err-found : goal.returns-in_err-found
returns-in_err-found c =
    let s = c.args.text.now in
    let p = err_from_is_err_and c.from_residual.result c.from_residual.ensures.1 in
    let k : c.in_err-found.field-0.0 ≡ MalformedHostPort = grind arith in
    let e : host_port_at s c.loop-n.at ≡ None = grind arith in
    rw (p.1, p.2, k) (stored-trouble s c.loop-n.list _ _ 41 (says (goal.at.returns-in_err-found c).In-loop-n) (list-malformed _ s c.loop-n.at e))

pub returns-then-found-text : goal.returns-then-found-text
returns-then-found-text c =
    let s = c.args.text.now in
    stored_last s c.loop-n.list c.loop-n.n _ _ (omega arith) (says (goal.at.returns-then-found-text c).In-loop-n) (list-ends _ s c.loop-n.at _ _ (found (goal.at.returns-then-found-text c).In_ok-found) c.if-found-text.true)

-- the place after a host-port is in the text or at its end
pub bounds-text-found : goal.bounds-text-found
bounds-text-found c = omega (arith, host-port-place c.args.text.now c.loop-n.at _ _ (found (goal.at.bounds-text-found c).In_ok-found))

pub returns-then-text-found-ne-SPACE : goal.returns-then-text-found-ne-SPACE
returns-then-text-found-ne-SPACE c =
    let s = c.args.text.now in
    stored-trouble s _ _ _ 41 (says (goal.at.returns-then-text-found-ne-SPACE c).In-loop-n) (list-broken _ s c.loop-n.at _ _ (found (goal.at.returns-then-text-found-ne-SPACE c).In_ok-found) c.if-found-text.false c.if-text-found-ne-SPACE.true)

pub loop-n-preserved : goal.loop-n-preserved
loop-n-preserved c =
    let s = c.args.text.now in
    let e = list-goes-on (host_limit - (c.loop-n.n + 1)) s c.loop-n.at _ _ (found (goal.at.loop-n-preserved c).In_ok-found) c.if-found-text.false c.if-text-found-ne-SPACE.false in (
      omega arith,
      simp length-set c.loop-n.invariant.1,
      following-more c.loop-n.list c.loop-n.n _ _ (omega arith) ∙ sym (says (goal.at.loop-n-preserved c).In-loop-n ∙ rw e),
    )

pub returns-then-at-text : goal.returns-then-at-text
returns-then-at-text c =
    let s = c.args.text.now in
    stored-trouble s c.loop-n.list _ _ 41 (sym c.loop-n.invariant.2) (list-empty (host_limit - c.loop-n.n) s c.loop-n.at (omega arith) c.if-at-text.true)

pub returns-else-at-text : goal.returns-else-at-text
returns-else-at-text c =
    let s = c.args.text.now in
    stored-trouble s c.loop-n.list _ _ 42 (sym c.loop-n.invariant.2) (list_full (host_limit - c.loop-n.n) s c.loop-n.at (omega arith) c.if-at-text.false)
