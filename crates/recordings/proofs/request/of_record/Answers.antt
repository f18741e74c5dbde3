-- `request::of_record`.
use Rattle.std.specs.Prelude.{◌≢◌}
use mathlib.Core.Path.{sym, ◌∙◌}
use native.Mathlib.Omega.{arith}
use Rattle.nights.proofs.Requests.{body-part, request-short, request-start, request-piece, request-other}
use Rattle.recordings.proofs.request.of_record.Goals as goal

pub returns-then-bytes-lt-FRAME_LENGTH : goal.returns-then-bytes-lt-FRAME_LENGTH
returns-then-bytes-lt-FRAME_LENGTH c = sym (request-short c.args.bytes.now c.if-bytes-lt-FRAME_LENGTH.true)

pub returns-in-16 : goal.returns-in-16
returns-in-16 c =
    let bytes = c.args.bytes.now in
    rw (body-part bytes) at c.start_in.ensures ∙ sym (request-start bytes c.if-bytes-lt-FRAME_LENGTH.false (sym c.kind.ensures ∙ c.in-16.is))

pub returns-in-17 : goal.returns-in-17
returns-in-17 c =
    let bytes = c.args.bytes.now in
    rw (body-part bytes) at c.piece_in.ensures ∙ sym (request-piece bytes c.if-bytes-lt-FRAME_LENGTH.false (sym c.kind.ensures ∙ c.in-17.is))

pub returns-in_default : goal.returns-in_default
returns-in_default c =
    let kind = c.kind.ensures in
    let a : c.kind.result ≢ 16 = omega arith in
    let b : c.kind.result ≢ 17 = omega arith in
    sym (request-other c.args.bytes.now c.if-bytes-lt-FRAME_LENGTH.false (λ n. a (kind ∙ n)) (λ n. b (kind ∙ n)))
