-- What a record asks for that was written.
use Prim.Native.Nat.{ℕ, ◌+◌, ◌^◌, ◌≤◌, ◌<◌}
use mathlib.Core.Path.{◌≡◌, sym, ap, ◌∙◌}
use mathlib.Core.List.{List, [], ◌∷◌, ◌++◌, append-nil}
use native.Mathlib.Omega.{arith}
use lib.ListN.{length, length-append}
use lib.Seq.{take_at, drop_at, take_all}
use Rattle.octets.specs.Digits.{to_little_endian}
use Rattle.octets.proofs.Digits.{length-to_little, little_reads_back}
use Rattle.frames.specs.Frame.{frame_length, kind_of, framed, first_record}
use Rattle.frames.specs.declared.frame.First.TheVariants.{Whole}
use Rattle.frames.proofs.Framed.{length-framed, kind-framed, body-framed}
use Rattle.frames.proofs.FirstRecord.{first-framed}
use Rattle.nights.specs.Request.{file_limit, pair_limit, piece_limit, record_limit, start_length, starts, piece, file_length_in, pairs_in, start_in, piece_in, request_of}
use Rattle.nights.specs.Replay.{start_record, piece_record}
use Rattle.nights.proofs.Requests.{start_in-right, piece_in-right, request-start, request-piece}

module _ (kind : ℕ) (body : List ℕ) where
  framed-long : frame_length ≤ length (framed kind body)
  framed-long = omega (arith, length-framed kind body)

  framed-kind : kind < 2 ^ 16 → kind_of (framed kind body) ≡ kind
  framed-kind h = rw (append-nil (framed kind body)) at (kind-framed kind body [] h)

  framed-whole : kind < 2 ^ 16 → 2 + length body ≤ record_limit → first_record record_limit (framed kind body) ≡ Whole (length (framed kind body))
  framed-whole k h = ap (first_record record_limit) (sym (append-nil (framed kind body))) ∙ first-framed record_limit kind body [] k (omega arith) h ∙ ap Whole (sym (length-framed kind body))

module _ (F R : ℕ) where
  abbrev pub start_body : List ℕ
  start_body = to_little_endian 256 8 F ++ to_little_endian 256 8 R

  pub length-start_body : length start_body ≡ start_length
  length-start_body = length-append (to_little_endian 256 8 F) (to_little_endian 256 8 R) ∙ rw (length-to_little 256 8 F, length-to_little 256 8 R)

  pub first-start_record : first_record record_limit (start_record F R) ≡ Whole (length (start_record F R))
  first-start_record = framed-whole 16 start_body (omega arith) (omega (arith, length-start_body))

  file_length_in-start : F < 2 ^ 64 → file_length_in start_body ≡ F
  unfolding file_length_in
  file_length_in-start h = rw (take_at (to_little_endian 256 8 F) (to_little_endian 256 8 R) 8 (length-to_little 256 8 F)) (little_reads_back 256 8 F (omega arith) h)

  pairs_in-start : R < 2 ^ 64 → pairs_in start_body ≡ R
  unfolding pairs_in
  pairs_in-start h =
      rw (drop_at (to_little_endian 256 8 F) (to_little_endian 256 8 R) 8 (length-to_little 256 8 F), take_all 8 (to_little_endian 256 8 R) (omega (arith, length-to_little 256 8 R)))
      (little_reads_back 256 8 R (omega arith) h)

  pub request-start_record : F ≤ file_limit → R ≤ pair_limit → request_of (start_record F R) ≡ starts F R
  request-start_record f p =
      let file_is = file_length_in-start (omega arith) in
      let pairs-are = pairs_in-start (omega arith) in
      request-start (start_record F R) (framed-long 16 start_body) (framed-kind 16 start_body (omega arith)) ∙ ap start_in (body-framed 16 start_body)
      ∙ start_in-right start_body length-start_body (omega (arith, file_is)) (omega (arith, pairs-are)) ∙ rw (file_is, pairs-are)

module _ (c : ℕ) (bytes : List ℕ) (h : length bytes ≤ piece_limit) where
  pub first-piece_record : first_record record_limit (piece_record c bytes) ≡ Whole (length (piece_record c bytes))
  first-piece_record = framed-whole 17 (c ∷ bytes) (omega arith) (omega arith)

  pub request-piece_record : request_of (piece_record c bytes) ≡ piece c bytes
  request-piece_record =
      request-piece (piece_record c bytes) (framed-long 17 (c ∷ bytes)) (framed-kind 17 (c ∷ bytes) (omega arith)) ∙ ap piece_in (body-framed 17 (c ∷ bytes)) ∙ piece_in-right (c ∷ bytes) (omega arith) (omega arith)
