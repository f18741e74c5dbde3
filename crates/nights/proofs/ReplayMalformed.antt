-- A malformed record stops the reading, whatever is behind it; a cut one waits for more.
use Prim.Native.Nat.{ℕ, ◌≤◌, ◌<◌}
use mathlib.Core.Path.{◌≡◌, refl, ap, ◌∙◌}
use mathlib.Core.Logic.{◌⊎◌, inl, inr}
use mathlib.Core.Bool.{Bool, true, false, cond}
use mathlib.Core.List.{List, [], ◌∷◌, ◌++◌}
use native.Mathlib.Omega.{arith}
use native.Mathlib.Decide.{dec_le}
use lib.Dec.{leb}
use lib.ListN.{length, length-drop}
use lib.Seq.{take-append_seam}
use Rattle.frames.specs.Frame.{length_field, body_of, first_record}
use Rattle.frames.specs.declared.frame.First.TheVariants.{Cut, Whole}
use Rattle.frames.proofs.FirstRecord.{record_length-short, record_length-field, first_record-long, first_record-cut, first_record-whole, first-prefix-whole, first-prefix-long}
use Rattle.nights.specs.Request.{piece_limit, record_limit, piece, malformed, piece_in, request_of}
use Rattle.nights.specs.Reading.{stops, stops_at, read}
use Rattle.nights.specs.Night.{Running, none, Night, turn_of, night}
use Rattle.nights.specs.Replay.{IsWhole, Malformed, no_kind, other_kind, start_length_is, no_channel, long_file, many_pairs, long_piece, too_long, before_start, IsCut, cut_field, cut_record}
use Rattle.nights.proofs.Reading.{read-long, read-stops}
use Rattle.nights.proofs.Requests.{request-short, request-start, request-piece, request-other, start_in-length, start_in-file, start_in-pairs, piece_in-none}

-- ---- the record that bytes begin with

first-whole : (r : List ℕ) → IsWhole r → length_field r ≤ record_limit → first_record record_limit r ≡ Whole (length r)
first-whole r w h =
    let e = record_length-field r w.field in
    first_record-whole record_limit r (omega (arith, w.field)) (λ z. h) (omega (arith, e, w.counted)) ∙ ap Whole (omega (arith, e, w.counted))

pub first-is-cut : (r : List ℕ) → IsCut r → first_record record_limit r ≡ Cut
first-is-cut r (cut_field _ some h) = first_record-cut record_limit r some (λ f. absurd (omega arith)) (omega (arith, record_length-short r h))
first-is-cut r (cut_record _ f l h) = first_record-cut record_limit r (omega arith) (λ z. l) (omega (arith, record_length-field r f))

-- ---- what a malformed record asks for

-- it is whole and nothing of it is carried out, or its length field says too much
abbrev Stops : ℕ → Running → List ℕ → Type 0
Stops k s r = (IsWhole r × (turn_of k s (request_of r) ≡ stops)) ⊎ ((4 ≤ length r) × (record_limit < length_field r))

turn-malformed : (k : ℕ) (s : Running) (r : List ℕ) → request_of r ≡ malformed → turn_of k s (request_of r) ≡ stops
unfolding turn_of
turn-malformed k s r e = rw e

-- a kind 17 body, before any start
turn-none : (k : ℕ) (body : List ℕ) → turn_of k none (piece_in body) ≡ stops
unfolding turn_of piece_in
turn-none k [] = refl
turn-none k (c ∷ bytes) = go (leb (length bytes) piece_limit)
  where
    go : (x : Bool) → turn_of k none (cond x (piece c bytes) malformed) ≡ stops
    go true = refl
    go false = refl

malformed-turn : (k : ℕ) (s : Running) (r : List ℕ) → Malformed s r → Stops k s r
malformed-turn k s r (no_kind _ _ w h) = inl (w, turn-malformed k s r (request-short r (omega (arith, w.counted))))
malformed-turn k s r (other_kind _ _ w h n m) = inl (w, turn-malformed k s r (request-other r h n m))
malformed-turn k s r (start_length_is _ _ (w, h, e) n) = inl (w, turn-malformed k s r (request-start r h e ∙ start_in-length (body_of r) n))
malformed-turn k s r (no_channel _ _ (w, h, e) z) = inl (w, turn-malformed k s r (request-piece r h e ∙ piece_in-none (body_of r) z))
malformed-turn k s r (long_file _ _ (w, h, e) l f) = inl (w, turn-malformed k s r (request-start r h e ∙ start_in-file (body_of r) f))
malformed-turn k s r (many_pairs _ _ (w, h, e) l p) = inl (w, turn-malformed k s r (request-start r h e ∙ start_in-pairs (body_of r) p))
malformed-turn k s r (long_piece _ _ (w, h, e) l) = inr (w.field, omega (arith, length-drop 6 r, w.counted))
malformed-turn k s r (too_long _ _ h l) = inr (h, l)
malformed-turn k s r (before_start _ (w, h, e)) = inl (w, ap (turn_of k none) (request-piece r h e) ∙ turn-none k (body_of r))

-- ---- read

module _ (s : Night) (r more : List ℕ) where
  long-read : 4 ≤ length r → record_limit < length_field r → read night s (r ++ more) ≡ stops_at night s
  long-read h l = read-long night s (r ++ more) (first-prefix-long record_limit r more (first_record-long record_limit r h l))

  whole-read : IsWhole r → turn_of s.number s.running (request_of r) ≡ stops → read night s (r ++ more) ≡ stops_at night s
  whole-read w e = go (dec_le (length_field r) record_limit)
    where
      go : Dec (length_field r ≤ record_limit) → read night s (r ++ more) ≡ stops_at night s
      go (yes h) = read-stops night s (r ++ more) (length r) (first-prefix-whole record_limit r more (length r) (first-whole r w h)).0 (rw (take-append_seam r more) e)
      go (no h) = long-read w.field (omega arith)

  pub malformed-read : Malformed s.running r → read night s (r ++ more) ≡ stops_at night s
  malformed-read m = go (malformed-turn s.number s.running r m)
    where
      go : Stops s.number s.running r → read night s (r ++ more) ≡ stops_at night s
      go (inl (w, e)) = whole-read w e
      go (inr (h, l)) = long-read h l
