-- `turn::piece_turn`.
-- ---- what is lent
use Prim.Native.Nat.{ℕ, ◌*◌, ◌-◌, ◌≤◌}
use mathlib.Core.Path.{◌≡◌, ap, ◌∙◌, subst}
use mathlib.Core.List.{List, ◌++◌}
use native.Mathlib.Omega.{arith}
use borrow.Author.Rules.{rules}
use lib.ListN.{length, take, drop}
use lib.Seq.{length-take-le}
use Rattle.transfer.specs.Transfer.{World, world}
use Rattle.transfer.specs.Receive.{receive_of}
use Rattle.transfer.specs.Fit.{fits_without_file}
use Rattle.receiver.specs.Answers.{to_answer}
use Rattle.std.specs.Prelude.{Err}
use Rattle.answers.specs.Refusal.{numbered}
use Rattle.screen.specs.Screen.{line_for}
use Rattle.nights.specs.Lines.{left_line, piece_text}
use Rattle.recordings.specs.Kept.{ReplayState, replay_state, world_in}
use Rattle.recordings.specs.Steps.{WritesText}
use Rattle.recordings.proofs.Lines.{decimal-short}
use Rattle.recordings.proofs.Fronts.{length-after, fronts-back}
use Rattle.recordings.proofs.Turns.{FitsWithoutFile, call-took, number-after, state-world, world-lent, text-refused, text-taken, piece-leads}
use Rattle.recordings.proofs.turn.piece_turn.Goals as goal
use Rattle.recordings.proofs.turn.piece_turn.Goals.{in-Err, in-Ok, After-min-bytes, After-min-pairs, After-receive-received, In-Err, In-Ok, Joined-received}

abbrev given : After-min-bytes → ReplayState
given c = let x = c.args in replay_state x.p x.file.now x.claimed.now x.doubtful.now

file-front : (c : After-min-bytes) → length (take c.min-bytes.result c.args.file.now) ≡ c.min-bytes.result
file-front c = length-take-le c.min-bytes.result c.args.file.now (omega (arith, c.min-bytes.ensures))

few : (c : After-min-pairs) → c.min-pairs.result ≤ 256
few c = omega (arith, c.min-pairs.ensures)

claimed-front : (c : After-min-pairs) → length (take (2 * c.min-pairs.result) c.args.claimed.now) ≡ 2 * c.min-pairs.result
claimed-front c = length-take-le (2 * c.min-pairs.result) c.args.claimed.now (omega (arith, few c))

doubtful-front : (c : After-min-pairs) → length (take (2 * c.min-pairs.result) c.args.doubtful.now) ≡ 2 * c.min-pairs.result
doubtful-front c = length-take-le (2 * c.min-pairs.result) c.args.doubtful.now (omega (arith, few c))

abbrev left : After-receive-received → World
left c = world c.receive-received.result.receiver.transfer c.receive-received.new.file c.receive-received.new.claimed c.receive-received.new.doubtful

kept : (c : After-receive-received) → (length c.receive-received.new.file ≡ c.min-bytes.result)
    × (length c.receive-received.new.claimed ≡ 2 * c.min-pairs.result)
    × (length c.receive-received.new.doubtful ≡ 2 * c.min-pairs.result)
kept c =
    let k = c.receive-received.auto in
    (k.file ∙ file-front (goal.at.After-receive-received c).After-min-bytes, k.claimed ∙ claimed-front (goal.at.After-receive-received c).After-min-pairs, k.doubtful ∙ doubtful-front (goal.at.After-receive-received c).After-min-pairs)

left_is : (c : After-receive-received) → (to_answer (numbered c.receive-received.result.answer), left c) ≡ receive_of (world_in (given (goal.at.After-receive-received c).After-min-bytes)) c.args.channel c.args.piece.now
left_is c =
    let x = c.args in
    (rw c.from.ensures at c.receive-received.ensures.0)
    ∙ ap (λ w. receive_of w x.channel x.piece.now) (world-lent (given (goal.at.After-receive-received c).After-min-bytes) c.min-bytes.result c.min-pairs.result c.min-bytes.ensures c.min-pairs.ensures (search rules) (search rules) (search rules))

-- lent again, the fronts of the ledgers are as they came back
fronts : {X : Type 0} (f : List ℕ → List ℕ → X) (c : After-receive-received) → let x = c.args in
    let n = 2 * c.min-pairs.result in
    f (take n (c.receive-received.new.claimed ++ drop n x.claimed.now)) (take n (c.receive-received.new.doubtful ++ drop n x.doubtful.now))
    ≡ f c.receive-received.new.claimed c.receive-received.new.doubtful
fronts f c =
    let x = c.args in
    fronts-back f _ _ x.claimed.now x.doubtful.now (2 * c.min-pairs.result) (kept c).1 (kept c).2

took : (c : In-Ok) → FitsWithoutFile (left (goal.at.In-Ok c).After-receive-received) × (c.in-Ok.taken ≤ length c.args.piece.now)
took c =
    call-took _ (left (goal.at.In-Ok c).After-receive-received) _ _ _ (numbered c.receive-received.result.answer) (ap numbered c.in-Ok.is) c.receive-received.ensures.0

-- ---- the text

abbrev text : After-receive-received → List ℕ
text c = piece_text (to_answer (numbered c.receive-received.result.answer)) (left c) (length c.args.piece.now)

writes : (c : Joined-received) → WritesText (text (goal.at.Joined-received c).After-receive-received) c.args.out.now c.match-received.written c.match-received.out
writes c =
    let x = c.args in
    let r = c.receive-received in
    elim c.match-received.branch [
      | in-Err w ↦
          let e = w.put_number-written.ensures in
          let q : numbered r.result.answer ≡ Err w.from-in-Err-2.result = rw (w.from-in-Err-2.ensures, w.from-in-Err.ensures) (ap numbered w.in-Err.is) in
          text-refused (numbered r.result.answer) (left (goal.at.Joined-received c).After-receive-received) w.from-in-Err-2.result (length x.piece.now) c.match-received.written x.out.now c.match-received.out q (omega (arith, w.from-in-Err-2.ensures, w.from-in-Err.type_inv)) (w.written-is ∙ e.0, w.out-is ∙ e.1)
      | in-Ok w ↦
          let e = w.put_taken-written.ensures in
          text-taken (numbered r.result.answer) (left (goal.at.Joined-received c).After-receive-received) w.in-Ok.taken (length x.piece.now) c.match-received.written x.out.now c.match-received.out (ap numbered w.in-Ok.is)
          (subst (λ (l : List ℕ). WritesText (left_line (length x.piece.now - w.in-Ok.taken) ++ l) x.out.now c.match-received.written c.match-received.out) (fronts (line_for r.result.receiver.transfer) (goal.at.Joined-received c).After-receive-received)
          (e.0, (w.written-is ∙ e.1.0, w.out-is ∙ e.1.1)))
    ]

pub receive-received-requires : goal.receive-received-requires
receive-received-requires c = search rules

-- ---- what the call left

pub put_number-written-requires : goal.put_number-written-requires
put_number-written-requires c =
    omega (arith, decimal-short c.from-in-Err-2.result (omega (arith, c.from-in-Err.type_inv, c.from-in-Err-2.ensures)), c.requires.1)

pub overflow_sub-piece : goal.overflow_sub-piece
overflow_sub-piece c = (took (goal.at.overflow_sub-piece c).In-Ok).1

pub put_taken-written-requires : goal.put_taken-written-requires
put_taken-written-requires c =
    (fronts (fits_without_file c.receive-received.result.receiver.transfer) (goal.at.put_taken-written-requires c).After-receive-received ∙ (took (goal.at.put_taken-written-requires c).In-Ok).0, omega (arith, c.requires.0), omega (arith, c.requires.1))

pub shape_of-out : goal.shape_of-out
shape_of-out c =
    length-after (text (goal.at.shape_of-out c).After-receive-received) c.args.out.now _ _ (writes (goal.at.shape_of-out c).Joined-received) c.requires.1

pub returns : goal.returns
returns c =
    let x = c.args in
    let k = kept (goal.at.returns c).After-receive-received in
    piece-leads (given (goal.at.returns c).After-min-bytes) _ (left (goal.at.returns c).After-receive-received) (numbered c.receive-received.result.answer) x.channel x.piece.now x.out.now _ _ _ _ (left_is (goal.at.returns c).After-receive-received)
    (state-world (given (goal.at.returns c).After-min-bytes) c.receive-received.result.receiver c.saturating_add.result c.min-bytes.result (2 * c.min-pairs.result) _ _ _ (c.saturating_add.ensures ∙ number-after x.p.number (search rules)) k.0 k.1 k.2)
    (writes (goal.at.returns c).Joined-received)
