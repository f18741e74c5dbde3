-- `header_run::hold_bytes`.
use Rattle.std.proofs.Common.{◌≡◌, length, refl, arith, rules}
use Rattle.copies.proofs.CopiedBytes.{stored-all}
use Rattle.channels.specs.HeldBytes.{with_held_bytes}
use Rattle.runs.proofs.header_run.hold_bytes.Goals as goal
use Rattle.runs.proofs.header_run.hold_bytes.Goals.{After-struct_known-2-1}

sixteen : (s : After-struct_known-2-1) → length s.args.x.bytes ≡ 16
sixteen s = search rules

pub returns : goal.returns
unfolding with_held_bytes
returns c h =
    let x = c.args in
    rw (c.store.ensures, stored-all x.x.held (length x.bytes.now) x.bytes.now x.x.bytes refl (omega (arith, h, sixteen c)))
