-- `turn::start_turn`.
use Prim.Native.Nat.{ℕ, ◌*◌, ◌≤◌}
use mathlib.Core.Path.{◌≡◌, sym, ap, ◌∙◌, subst}
use mathlib.Core.List.{List, ◌++◌}
use native.Mathlib.Omega.{arith}
use borrow.Author.Rules.{rules}
use lib.ListN.{length, take, drop, replicate}
use lib.Seq.{length-take-le}
use Rattle.transfer.specs.Transfer.{World, world}
use Rattle.transfer.specs.Fit.{fits_without_file}
use Rattle.screen.specs.Screen.{line_for}
use Rattle.nights.specs.Night.{started_night}
use Rattle.recordings.specs.Kept.{WritesFront, replay_state}
use Rattle.recordings.proofs.Fronts.{fronts-back}
use Rattle.recordings.proofs.Turns.{FitsWithoutFile, number-after, started-is, started-fits, state-world, start-leads}
use Rattle.recordings.proofs.turn.start_turn.Goals as goal
use Rattle.recordings.proofs.turn.start_turn.Goals.{After-fill, After-start-started}

-- what the start left
abbrev left : After-start-started → World
left c = world c.start-started.result.receiver.transfer c.fill.new.self c.start-started.new.claimed c.start-started.new.doubtful

-- the fronts are as long as was asked
file-front : (c : After-fill) → length (take c.args.len c.args.file.now) ≡ c.args.len
file-front c = length-take-le c.args.len c.args.file.now (omega arith)

claimed-front : (c : After-fill) → length (take (2 * c.args.pairs) c.args.claimed.now) ≡ 2 * c.args.pairs
claimed-front c = length-take-le (2 * c.args.pairs) c.args.claimed.now (omega arith)

doubtful-front : (c : After-fill) → length (take (2 * c.args.pairs) c.args.doubtful.now) ≡ 2 * c.args.pairs
doubtful-front c = length-take-le (2 * c.args.pairs) c.args.doubtful.now (omega arith)

-- and as long as they came back
kept : (c : After-start-started) → let x = c.args in
    (length c.fill.new.self ≡ x.len) × (length c.start-started.new.claimed ≡ 2 * x.pairs) × (length c.start-started.new.doubtful ≡ 2 * x.pairs)
kept c =
    (c.fill.auto.self ∙ file-front (goal.at.After-start-started c).After-fill, c.start-started.auto.claimed ∙ claimed-front (goal.at.After-start-started c).After-fill, c.start-started.auto.doubtful ∙ doubtful-front (goal.at.After-start-started c).After-fill)

left_is : (c : After-start-started) → left c ≡ started_night c.args.len c.args.pairs
left_is c =
    let x = c.args in
    let e = c.start-started.ensures in
    started-is x.len x.pairs _ _ (take (2 * x.pairs) x.claimed.now) (take (2 * x.pairs) x.doubtful.now) _ _ c.requires.1 (claimed-front (goal.at.After-start-started c).After-fill) (doubtful-front (goal.at.After-start-started c).After-fill)
    e.1 (c.fill.ensures.after (λ y e. e) ∙ ap (λ n. replicate n 0) (file-front (goal.at.After-start-started c).After-fill)) e.2 e.3

-- lent again, the fronts of the ledgers are as they came back
fronts : {X : Type 0} (f : List ℕ → List ℕ → X) (c : After-start-started) → let x = c.args in
    f (take (2 * x.pairs) (c.start-started.new.claimed ++ drop (2 * x.pairs) x.claimed.now)) (take (2 * x.pairs) (c.start-started.new.doubtful ++ drop (2 * x.pairs) x.doubtful.now))
    ≡ f c.start-started.new.claimed c.start-started.new.doubtful
fronts f c = let x = c.args in fronts-back f _ _ x.claimed.now x.doubtful.now (2 * x.pairs) (kept c).1 (kept c).2

pub put_screen-written-requires : goal.put_screen-written-requires
put_screen-written-requires c =
    let f = subst FitsWithoutFile (sym (left_is (goal.at.put_screen-written-requires c).After-start-started)) (started-fits c.args.len c.args.pairs c.requires.1) in
    (fronts (fits_without_file c.start-started.result.receiver.transfer) (goal.at.put_screen-written-requires c).After-start-started ∙ f, omega arith)

pub returns : goal.returns
returns c =
    let x = c.args in
    let d = replay_state x.p x.file.now x.claimed.now x.doubtful.now in
    let k = kept (goal.at.returns c).After-start-started in
    start-leads d _ (left (goal.at.returns c).After-start-started) x.len x.pairs x.out.now _ _ _ _ (left_is (goal.at.returns c).After-start-started)
    (state-world d c.start-started.result.receiver c.saturating_add.result x.len (2 * x.pairs) _ _ _ (c.saturating_add.ensures ∙ number-after x.p.number (search rules)) k.0 k.1 k.2)
    (subst (λ (l : List ℕ). (length l ≤ 80) × WritesFront l x.out.now c.put_screen-written.result c.put_screen-written.new.out) (fronts (line_for c.start-started.result.receiver.transfer) (goal.at.returns c).After-start-started)
    c.put_screen-written.ensures)
