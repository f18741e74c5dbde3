-- `list::fill`.
use Prim.Native.Nat.{◌≤◌}
use mathlib.Core.Path.{ap, ◌∙◌}
use native.Mathlib.Omega.{arith}
use lib.ListN.{length}
use Rattle.hostlists.proofs.HostList.{cleared_from, cleared-part, fills-short, stored-fits, fills}
use Rattle.hostlists.proofs.list.fill.Goals as goal
use Rattle.hostlists.proofs.list.fill.Goals.{After-unwrap_or-stored}

fits : (c : After-unwrap_or-stored) → c.unwrap_or-stored.result ≤ length c.store-answer.new.list
fits c = omega (arith, stored-fits _ _ _ c.store-answer.ensures)

pub returns-then-list-lt-HOST_LIMIT : goal.returns-then-list-lt-HOST_LIMIT
returns-then-list-lt-HOST_LIMIT c = fills-short c.args.text.now c.args.list.now c.if-list-lt-HOST_LIMIT.true

pub offset_bounds-list-stored : goal.offset_bounds-list-stored
offset_bounds-list-stored c = omega (arith, fits c)

pub slice_bounds-clear-count : goal.slice_bounds-clear-count
slice_bounds-clear-count c = fits c

pub slice_bounds-clear-start : goal.slice_bounds-clear-start
slice_bounds-clear-start c = omega (arith, fits c)

pub returns : goal.returns
returns c =
    let x = c.args in
    let kept = c.store-answer.new.list in
    let f = fills x.text.now _ _ c.store-answer.ensures x.list.now c.if-list-lt-HOST_LIMIT.false c.store-answer.auto.list in
    (f.0, cleared-part kept c.clear.new.entries c.unwrap_or-stored.result c.clear.ensures ∙ ap (λ n. cleared_from n kept) c.unwrap_or-stored.ensures ∙ f.1)
