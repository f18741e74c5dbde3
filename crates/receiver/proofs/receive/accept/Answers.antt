-- `receive::accept`: its tests in their order.
use mathlib.Core.Path.{◌≡◌, sym, ◌∙◌}
use mathlib.Core.Bool.{true}
use Rattle.transfer.specs.Transfer.{used_of, ended_of, World, world, verdict_of}
use Rattle.transfer.specs.Receive.{is_guess}
use Rattle.transfer.specs.Fit.{fits}
use Rattle.receiver.proofs.Refusal.{none-found, found-fits, found-counts, guess_is, refused-1, refused-2, refused-3, empty-taken, refused-4, bytes-taken, empty_is, some_is}
use Rattle.receiver.proofs.receive.accept.Goals as goal
use Rattle.receiver.proofs.receive.accept.Goals.{After-is_guess, After-report_with_file, In-Some, else-not-is_empty-via-then-not-is_empty+else-t-channel-ge4, else-not-is_empty-via-else-not-is_empty}

abbrev given : After-report_with_file → World
given r = let x = r.args in world x.t.now x.file.now x.claimed.now x.doubtful.now

does-fit : (s : In-Some) → fits (given (goal.at.In-Some s).After-report_with_file) ≡ true
does-fit s =
    let x = s.args in
    found-fits x.t.now x.file.now x.claimed.now x.doubtful.now s.in-Some.found (sym s.in-Some.is ∙ s.report_with_file.ensures)

counts : (s : In-Some) → let x = s.args in (s.in-Some.found.used ≡ used_of x.t.now) × (s.in-Some.found.ended ≡ ended_of x.t.now)
counts s =
    let x = s.args in
    found-counts x.t.now x.file.now x.claimed.now x.doubtful.now s.in-Some.found (sym s.in-Some.is ∙ s.report_with_file.ensures)

is-guess-is : (g : After-is_guess) → is_guess (verdict_of (given (goal.at.After-is_guess g).After-report_with_file)) ≡ g.is_guess.result
is-guess-is g =
    guess_is (given (goal.at.After-is_guess g).After-report_with_file) g.in-Some.found.ended (counts (goal.at.After-is_guess g).In-Some).1 ∙ sym g.is_guess.ensures

pub returns-in_default-clause-number : goal.returns-in_default-clause-number
returns-in_default-clause-number c =
    let x = c.args in
    sym (refused-1 (given (goal.at.returns-in_default-clause-number c).After-report_with_file) x.channel x.piece.now
    (none-found x.t.now x.file.now x.claimed.now x.doubtful.now (sym c.in_default.is ∙ c.report_with_file.ensures)))

pub returns-then-channel-clause-number : goal.returns-then-channel-clause-number
returns-then-channel-clause-number c =
    sym (refused-2 (given (goal.at.returns-then-channel-clause-number c).After-report_with_file) c.args.channel c.args.piece.now (does-fit (goal.at.returns-then-channel-clause-number c).In-Some) c.if-channel.true)

pub returns-then-not-is_guess-clause-number : goal.returns-then-not-is_guess-clause-number
returns-then-not-is_guess-clause-number c =
    let g = goal.at.returns-then-not-is_guess-clause-number c in
    sym (refused-3 (given g.After-report_with_file) c.args.channel c.args.piece.now (does-fit g.In-Some) c.if-channel.false
    (is-guess-is g.After-is_guess ∙ c.if-not-is_guess.true))

pub returns-then-t-channel-ge4-clause-number : goal.returns-then-t-channel-ge4-clause-number
returns-then-t-channel-ge4-clause-number c =
    let g = goal.at.returns-then-t-channel-ge4-clause-number c in
    sym (refused-4 (given g.After-report_with_file) c.args.channel c.args.piece.now (does-fit g.In-Some) c.if-channel.false
    (is-guess-is g.After-is_guess ∙ c.if-not-is_guess.false) (some_is c.args.piece.now (sym c.is_empty.ensures ∙ c.if-not-is_empty.true)) c.if-t-channel-ge4.true)

pub returns-clause-number : goal.returns-clause-number
returns-clause-number c =
    let g = goal.at.returns-clause-number c in
    let f = does-fit g.In-Some in
    let e = is-guess-is g.After-is_guess ∙ c.if-not-is_guess.false in
    elim c.else-not-is_empty.branch [
      | else-not-is_empty-via-then-not-is_empty+else-t-channel-ge4 w ↦ sym (bytes-taken (given g.After-report_with_file) c.args.channel c.args.piece.now f c.if-channel.false e (some_is c.args.piece.now (sym c.is_empty.ensures ∙ w.if-not-is_empty.true)) w.if-t-channel-ge4.false)
      | else-not-is_empty-via-else-not-is_empty w ↦ sym (empty-taken (given g.After-report_with_file) c.args.channel c.args.piece.now f c.if-channel.false e (empty_is c.args.piece.now (sym c.is_empty.ensures ∙ w.if-not-is_empty.false)))
    ]

pub returns-clause-counts : goal.returns-clause-counts
returns-clause-counts c = counts (goal.at.returns-clause-counts c).In-Some
