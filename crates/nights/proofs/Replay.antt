-- `Replay` holds.
use Prim.Native.Nat.{ℕ, suc, ◌+◌, ◌*◌, ◌/◌, ◌≤◌}
use mathlib.Core.Path.{◌≡◌, refl, sym, ap, ◌∙◌, subst}
use mathlib.Core.Bool.{true, and-eq-true_iff}
use mathlib.Core.List.{List, [], ◌∷◌, ◌++◌, append-nil}
use native.Mathlib.Omega.{arith}
use lib.Dec.{eqb}
use lib.ListN.{length, replicate, length-replicate}
use lib.Seq.{take-length, drop-length}
use Rattle.answers.proofs.WrittenBy.{room-enough}
use Rattle.octets.specs.Digits.{to_little_endian}
use Rattle.frames.specs.Frame.{framed, first_record}
use Rattle.frames.specs.declared.frame.First.TheVariants.{Whole}
use Rattle.frames.proofs.FirstRecord.{first-cut}
use Rattle.transfer.specs.Transfer.{World, fresh}
use Rattle.transfer.specs.Receive.{Answer, refused, receive_of}
use Rattle.transfer.specs.Calls.{started_world}
use Rattle.transfer.specs.Fit.{fits_without_file, fits}
use Rattle.transfer.specs.Start.{Leaves}
use Rattle.transfer.proofs.Start.{start}
use Rattle.screen.specs.Screen.{line_feed, line_of, line_for, screen_refusal}
use Rattle.screen.proofs.Screen.{fit}
use Rattle.screen.proofs.ScreenRows.{screen-rows}
use Rattle.nights.specs.Request.{pair_limit, piece_limit, record_limit, request_of}
use Rattle.nights.specs.Lines.{record_line, refused_word, number_line, piece_text}
use Rattle.nights.specs.Reading.{Reading, waits, stops_at, printed_before, read}
use Rattle.nights.specs.Night.{transferring, Night, started_night, leads, answer_piece, turn_of, night, before_first, after, so_far, printed}
use Rattle.nights.specs.Replay.{start_record, piece_record, running_after, number_after, Open, Prints, Malformed, IsCut, Replay, StartWithin}
use Rattle.nights.proofs.Reading.{read_none, read-cut, read-prints, read-append}
use Rattle.nights.proofs.Lines.{piece_text-whole, piece_text-left, piece_text-refused}
use Rattle.nights.proofs.RequestWritten.{length-start_body, first-start_record, request-start_record, first-piece_record, request-piece_record}
use Rattle.nights.proofs.Night.{Reached, running-reached, reached-fits, reached-refuses, reached-stays}
use Rattle.nights.proofs.ReadingEnd.{end_line, end_line-some, end_text-line}
use Rattle.nights.proofs.ReplayMalformed.{first-is-cut, malformed-read}
use Rattle.nights.proofs.ReplayRecords.{all_records, all_bytes}

-- ---- by what the bytes lead to

module _ (bytes : List ℕ) (r : Reading Night) (e : after bytes ≡ r) where
  so_far-by : so_far bytes ≡ r.text
  unfolding so_far
  so_far-by = ap (λ x. x.text) e

  printed-by : (line : List ℕ) → end_line r.rest r.left.number ≡ line → printed bytes ≡ r.text ++ line
  unfolding printed
  printed-by line l = rw (so_far-by, e, end_text-line night r, l)

-- ---- behind whole records

module _ (bytes : List ℕ) (opened : Open bytes) where
  after_open : (more : List ℕ) → after (bytes ++ more) ≡ printed_before (so_far bytes) (read night (after bytes).left more)
  unfolding so_far
  after_open more = read-append night before_first bytes more ∙ rw (opened.0, opened.1)

  -- one more record that is whole and not malformed
  prints-record : (r text : List ℕ) (w : World) → first_record record_limit r ≡ Whole (length r)
      → turn_of (number_after bytes) (running_after bytes) (request_of r) ≡ leads (number_after bytes) text w → Prints bytes r text w
  unfolding leads
  prints-record r text w whole turn =
      let s = (after bytes).left in
      let v : Night = record { number = suc s.number; running = transferring w } in
      let one : read night s r ≡ printed_before text (waits v []) =
      read-prints night s r (length r) text v whole (rw (take-length r) turn) ∙ rw (drop-length r, read_none night v) in
      let e : after (bytes ++ r) ≡ printed_before (so_far bytes) (printed_before text (waits v [])) = after_open r ∙ ap (printed_before (so_far bytes)) one in
      record {
        goes_on = (ap (λ x. x.stopped) e, ap (λ x. x.rest) e);
        text_is = so_far-by (bytes ++ r) _ e ∙ ap (λ t. so_far bytes ++ t) (append-nil text);
        number_is = ap (λ x. x.left.number) e;
        running_is = ap (λ x. x.left.running) e;
      }

  printed-whole : printed bytes ≡ so_far bytes
  unfolding so_far
  printed-whole = printed-by bytes (after bytes) refl [] (rw opened.1) ∙ append-nil (so_far bytes)

  printed-malformed : (r more : List ℕ) → Malformed (running_after bytes) r
      → (so_far (bytes ++ (r ++ more)) ≡ so_far bytes ++ record_line (number_after bytes)) × (printed (bytes ++ (r ++ more)) ≡ so_far bytes ++ record_line (number_after bytes))
  printed-malformed r more m =
      let s = (after bytes).left in
      let e : after (bytes ++ (r ++ more)) ≡ printed_before (so_far bytes) (stops_at night s) = after_open (r ++ more) ∙ ap (printed_before (so_far bytes)) (malformed-read s r more m) in
      (so_far-by (bytes ++ (r ++ more)) _ e, printed-by (bytes ++ (r ++ more)) _ e [] refl ∙ append-nil _)

  printed-cut : (r : List ℕ) → IsCut r → (so_far (bytes ++ r) ≡ so_far bytes) × (printed (bytes ++ r) ≡ so_far bytes ++ record_line (number_after bytes))
  printed-cut r c =
      let s = (after bytes).left in
      let e : after (bytes ++ r) ≡ printed_before (so_far bytes) (waits s r) = after_open r ∙ ap (printed_before (so_far bytes)) (read-cut night s r (first-is-cut r c)) in
      let line = record_line (number_after bytes) in
      let nothing = append-nil (so_far bytes) in
      let some = (first-cut record_limit r (first-is-cut r c)).0 in
      (so_far-by (bytes ++ r) _ e ∙ nothing, printed-by (bytes ++ r) _ e line (end_line-some r (number_after bytes) some) ∙ ap (λ t. t ++ line) nothing)

-- ---- a start, and a piece

start_prints : (bytes : List ℕ) (F R : ℕ) → Open bytes → StartWithin F R → Prints bytes (start_record F R) (line_of (started_night F R)) (started_night F R)
start_prints bytes F R o h = prints-record bytes o (start_record F R) _ (started_night F R) (first-start_record F R) (unfold turn_of in rw (request-start_record F R h.0 h.1))

-- what the call answers, the text by it, and the world after it
piece_prints : (bytes piece text : List ℕ) (w v : World) (c : ℕ) (a : Answer) → Open bytes → running_after bytes ≡ transferring w → length piece ≤ piece_limit
    → receive_of w c piece ≡ (a, v) → piece_text a v (length piece) ≡ text → Prints bytes (piece_record c piece) text v
piece_prints bytes piece text w v c a o running few e t =
    prints-record bytes o (piece_record c piece) text v (first-piece_record c piece few) (unfold turn_of answer_piece in rw (request-piece_record c piece few, running, e, t))

-- ---- what has been reached

reached : (bytes : List ℕ) (w : World) → running_after bytes ≡ transferring w → Reached (transferring w)
reached bytes w e = rw e at (running-reached bytes)

-- a refused call leaves the world as it was
refused-stays : (bytes piece : List ℕ) (w v : World) (c k : ℕ) → running_after bytes ≡ transferring w → receive_of w c piece ≡ (refused k, v) → v ≡ w
refused-stays bytes piece w v c k running e = ap (λ a. a.1) (sym e) ∙ reached-stays w c piece k (reached bytes w running) (ap (λ a. a.0) e)

line_written : (bytes out : List ℕ) (w : World) → running_after bytes ≡ transferring w → 80 ≤ length out → screen_refusal w.t w.lent.claimed w.lent.doubtful out ≡ 0
unfolding fits
line_written bytes out w running h =
    let r = reached-fits w (reached bytes w running) in
    let f : fits_without_file w.t w.lent.claimed w.lent.doubtful ≡ true = ((and-eq-true_iff (eqb (length w.lent.file) w.t.len) _).0 r.0).1 in
    let l = screen-rows.longest w.t w.lent.claimed w.lent.doubtful (omega (arith, r.1)) f in
    fit w.t w.lent.claimed w.lent.doubtful out f ∙ room-enough (length (line_for w.t w.lent.claimed w.lent.doubtful)) out (omega (arith, l))

-- ---- a start

-- a start is accepted, and leaves zeros
start-leaves : (F R : ℕ) → R ≤ pair_limit → let ledger : List ℕ = replicate (2 * R) 0 in Leaves F ledger ledger 0 (fresh F R) ledger ledger
start-leaves F R h =
    let ledger : List ℕ = replicate (2 * R) 0 in
    let n : length ledger ≡ 2 * R = length-replicate (2 * R) 0 in
    let half : 2 * R / 2 ≡ R = omega arith in
    rw (n, half) at (start.accepted F ledger ledger (omega arith) (omega arith) refl)

start_zeroes : (F R : ℕ) → StartWithin F R
    → ((started_night F R).t ≡ fresh F R) × ((started_night F R).lent.file ≡ replicate F 0)
    × ((started_night F R).lent.claimed ≡ replicate (2 * R) 0) × ((started_night F R).lent.doubtful ≡ replicate (2 * R) 0)
unfolding started_night started_world
start_zeroes F R h = let s = start-leaves F R h.1 in (rw (length-replicate {A = ℕ} F 0) s.1, refl, s.2, s.3)

-- ---- the two kinds of record, written

start-front : (body : List ℕ) → to_little_endian 256 4 18 ++ (to_little_endian 256 2 16 ++ body) ≡ 18 ∷ 0 ∷ 0 ∷ 0 ∷ 16 ∷ 0 ∷ body
unfolding to_little_endian
start-front body = refl

piece-front : (body : List ℕ) → to_little_endian 256 2 17 ++ body ≡ 17 ∷ 0 ∷ body
unfolding to_little_endian
piece-front body = refl

start_record_is : (F R : ℕ) → start_record F R ≡ 18 ∷ 0 ∷ 0 ∷ 0 ∷ 16 ∷ 0 ∷ (to_little_endian 256 8 F ++ to_little_endian 256 8 R)
unfolding framed
start_record_is F R =
    let body = to_little_endian 256 8 F ++ to_little_endian 256 8 R in
    ap (λ n. to_little_endian 256 4 (2 + n) ++ (to_little_endian 256 2 16 ++ body)) (length-start_body F R) ∙ start-front body

piece_record_is : (c : ℕ) (piece : List ℕ) → piece_record c piece ≡ to_little_endian 256 4 (3 + length piece) ++ (17 ∷ 0 ∷ c ∷ piece)
unfolding framed
piece_record_is c piece =
    let n : 2 + length (c ∷ piece) ≡ 3 + length piece = omega arith in
    ap (λ m. to_little_endian 256 4 m ++ (to_little_endian 256 2 17 ++ (c ∷ piece))) n ∙ ap (λ k. to_little_endian 256 4 (3 + length piece) ++ k) (piece-front (c ∷ piece))

pub replay : Replay
unfolding number_line line_feed framed to_little_endian
replay =
    record {
      first =
          let e = read_none night before_first in
          (ap (λ x. x.left.number) e, ap (λ x. x.left.running) e, (ap (λ x. x.stopped) e, ap (λ x. x.rest) e), printed-by [] _ e [] refl);
      start_record_is = start_record_is;
      piece_record_is = piece_record_is;
      start_example = refl;
      start_prints = start_prints;
      piece_prints = λ bytes piece w v c o running h e. piece_prints bytes piece _ w v c _ o running h.1 e (piece_text-whole v (length piece));
      refused_prints = λ bytes piece w v c k o running h e.
          subst (Prints bytes (piece_record c piece) (number_line refused_word k)) (refused-stays bytes piece w v c k running e)
          (piece_prints bytes piece _ w v c _ o running h.1 e (piece_text-refused v (length piece) k));
      left_prints = λ bytes piece w v c n o running h e l. piece_prints bytes piece _ w v c _ o running h.1 e (piece_text-left v (length piece) n l);
      malformed_stops = λ bytes r more o m. printed-malformed bytes o r more m;
      cut_stops = λ bytes r o c. printed-cut bytes o r c;
      ends = printed-whole;
      all_records = all_records;
      all_bytes = all_bytes;
      start_zeroes = start_zeroes;
      record_line_is = λ k. refl;
      refused_line = λ k. refl;
      left_line_is = λ k. refl;
      start_accepted = λ F R h. (start-leaves F R h.1).0;
      refused_by = λ bytes piece w v c k running e. reached-refuses w c piece k (reached bytes w running) (ap (λ a. a.0) e);
      line_written = line_written;
    }
