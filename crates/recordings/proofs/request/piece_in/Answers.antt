-- `request::piece_in`.
use mathlib.Core.Path.{sym}
use native.Mathlib.Omega.{arith}
use Rattle.nights.proofs.Requests.{piece_in-none, piece_in-long, piece_in-right}
use Rattle.recordings.proofs.request.piece_in.Goals as goal

pub returns-then-body-eq0 : goal.returns-then-body-eq0
returns-then-body-eq0 c = sym (piece_in-none c.args.body.now c.if-body-eq0.true)

pub returns-then-body-gt-PIECE_LIMIT : goal.returns-then-body-gt-PIECE_LIMIT
returns-then-body-gt-PIECE_LIMIT c = sym (piece_in-long c.args.body.now c.if-body-gt-PIECE_LIMIT.true)

pub returns : goal.returns
returns c =
    sym (piece_in-right c.args.body.now (omega arith) c.if-body-gt-PIECE_LIMIT.false)
