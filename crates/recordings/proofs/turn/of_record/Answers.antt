-- `turn::of_record`.
use Prim.Native.Nat.{◌-◌, ◌≤◌}
use mathlib.Core.Path.{◌≡◌, refl, ap, ◌∙◌}
use mathlib.Core.Bool.{true, false}
use native.Mathlib.Omega.{arith}
use borrow.Author.Rules.{rules}
use lib.ListN.{length, take, drop}
use Rattle.std.specs.Prelude.{Some, None}
use Rattle.nights.specs.Reading.{stops}
use Rattle.recordings.specs.Kept.{replay_state, library_turn}
use Rattle.octets.proofs.Rest.{rest_is}
use Rattle.nights.proofs.Requests.{starts-within}
use Rattle.recordings.proofs.Turns.{asked-start, asked-piece, asked-malformed, turn-piece, turn-malformed, leads-as}
use Rattle.recordings.proofs.turn.of_record.Goals as goal

pub start_turn-requires : goal.start_turn-requires
start_turn-requires c =
    let w = starts-within c.args.bytes.now _ _ (asked-start c.of_record.result c.args.bytes.now c.of_record.ensures _ _ (c.in_ok-len.was ∙ ap Some c.in-Start.is)) in
    (w.0, w.1, c.requires)

pub slice_bounds-piece-count : goal.slice_bounds-piece-count
slice_bounds-piece-count c = (asked-piece c.of_record.result c.args.bytes.now c.of_record.ensures _ (c.in_ok-len.was ∙ ap Some c.in-Piece.is)).0

pub slice_bounds-piece-start : goal.slice_bounds-piece-start
slice_bounds-piece-start c = (asked-piece c.of_record.result c.args.bytes.now c.of_record.ensures _ (c.in_ok-len.was ∙ ap Some c.in-Piece.is)).0

pub piece_turn-requires : goal.piece_turn-requires
piece_turn-requires c =
    let bytes = c.args.bytes.now in
    let q = asked-piece c.of_record.result bytes c.of_record.ensures _ (c.in_ok-len.was ∙ ap Some c.in-Piece.is) in
    let h : length (take (length bytes - 7) (drop 7 bytes)) ≤ 16384 = omega (arith, ap length (rest_is bytes 7), q.1) in
    (h, c.requires)

pub returns-in_err-len : goal.returns-in_err-len
returns-in_err-len c =
    let x = c.args in
    let d = replay_state x.p x.file.now x.claimed.now x.doubtful.now in
    let q = ap (library_turn d) (asked-malformed c.of_record.result x.bytes.now c.of_record.ensures c.in_err-len.was) ∙ turn-malformed d in
    let n : c.from_residual.result ≡ None = search rules in
    rw n (leads-as d _ stops None x.out.now x.file.now x.claimed.now x.doubtful.now x.out.now q (refl, refl))

pub returns-in-Piece : goal.returns-in-Piece
returns-in-Piece c =
    let x = c.args in
    let d = replay_state x.p x.file.now x.claimed.now x.doubtful.now in
    let a = asked-piece c.of_record.result x.bytes.now c.of_record.ensures _ (c.in_ok-len.was ∙ ap Some c.in-Piece.is) in
    let q = ap (library_turn d) a.2 ∙ turn-piece d c.in-Piece.channel (drop 7 x.bytes.now) true c.if-p.true in
    leads-as d _ _ _ x.out.now _ _ _ _ q (rw (rest_is x.bytes.now 7) at c.piece_turn.ensures)

pub returns-in-Piece-2 : goal.returns-in-Piece-2
returns-in-Piece-2 c =
    let x = c.args in
    let d = replay_state x.p x.file.now x.claimed.now x.doubtful.now in
    let a = asked-piece c.of_record.result x.bytes.now c.of_record.ensures _ (c.in_ok-len.was ∙ ap Some c.in-Piece-2.is) in
    let q = ap (library_turn d) a.2 ∙ turn-piece d c.in-Piece-2.field-0 (drop 7 x.bytes.now) false c.if-p.false in
    leads-as d _ stops None x.out.now x.file.now x.claimed.now x.doubtful.now x.out.now q (refl, refl)
