-- `finish::finish`.
use borrow.Author.Rules.{rules}
use Rattle.answers.specs.Written.{room_refusal}
use mathlib.Core.List.{[]}
use Prim.Native.Nat.{◌+◌, ◌≤◌, ◌<◌}
use lib.ListN.{length}
use Rattle.octets.specs.Decimal.{decimal}
use Rattle.octets.proofs.Decimals.{length-decimal}
use Rattle.nights.specs.Lines.{record_word, record_line}
use Rattle.recordings.specs.Kept.{WritesFront, finish_text}
use Rattle.recordings.proofs.Lines.{length-number_line, record-short, record-words}
use mathlib.Core.Logic.{inl, inr}
use Rattle.answers.proofs.WrittenBy.{room-short, room-enough, refused, written}
use Rattle.recordings.proofs.Refusal.{finish-none, finish-line}
use mathlib.Core.Path.{◌≡◌, sym, ◌∙◌}
use native.Mathlib.Omega.{arith}
use Rattle.recordings.proofs.finish.finish.Goals as goal
use Rattle.recordings.proofs.finish.finish.Goals.{After-length, then-session-via-then-session, then-session-via-else-session+then-session-eq0}

-- what is counted is the line's length, which is at most 28
digits : (c : After-length) → let n = c.args.session.progress.number in
    (length (record_line n) ≡ 7 + c.length.result + 1) × (length (decimal n) ≡ c.length.result) × (length (record_line n) ≤ 28)
digits c =
    let n = c.args.session.progress.number in
    let h : n < 18446744073709551616 = search rules in
    let d : length (decimal n) ≡ c.length.result = length-decimal n ∙ sym c.length.ensures in
    (omega (arith, length-number_line record_word n, d), d, record-short n (omega arith))

-- the text, where it has one
text : (c : After-length) → finish_text c.args.session ≡ record_line c.args.session.progress.number
text c =
    let s = c.args.session in
    finish-line s c.if-session.false (omega (arith, c.if-session-eq0.false))

pub returns-then-session : goal.returns-then-session
returns-then-session c =
    let a = c.args in
    let e : finish_text a.session ≡ [] =
    elim c.then-session.branch [
      | then-session-via-then-session w ↦ finish-none a.session (inl w.if-session.true)
      | then-session-via-else-session+then-session-eq0 w ↦ finish-none a.session (inr w.if-session-eq0.true)
    ] in
    rw e (written (room_refusal 0 a.out.now) 0 [] a.out.now (room-enough 0 a.out.now (omega arith)))

pub overflow_add-length : goal.overflow_add-length
overflow_add-length c =
    omega (arith, digits c)

pub overflow_add-length-2 : goal.overflow_add-length-2
overflow_add-length-2 c =
    omega (arith, digits c)

pub returns-then-out-length : goal.returns-then-out-length
returns-then-out-length c =
    let o = c.args.out.now in
    let n = c.args.session.progress.number in
    rw (text (goal.at.returns-then-out-length c).After-length) (refused (room_refusal (length (record_line n)) o) (length (record_line n)) (record_line n) o 55 (room-short (length (record_line n)) o (omega (arith, (digits (goal.at.returns-then-out-length c).After-length).0, c.if-out-length.true))) (omega arith))

pub put_number-requires : goal.put_number-requires
put_number-requires c =
    omega (arith, digits (goal.at.put_number-requires c).After-length, c.if-out-length.false)

pub returns : goal.returns
returns c =
    let o = c.args.out.now in
    let n = c.args.session.progress.number in
    let p : WritesFront (record_line n) o c.put_number.result c.put_number.new.out = rw (← record-words n) c.put_number.ensures in
    let w = written (room_refusal (length (record_line n)) o) (length (record_line n)) (record_line n) o (room-enough (length (record_line n)) o (omega (arith, (digits (goal.at.returns c).After-length).0, c.if-out-length.false))) in
    rw (text (goal.at.returns c).After-length) (rw p.0 w.0, p.1 ∙ w.1)
