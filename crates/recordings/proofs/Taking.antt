-- Through a chunk, step by step: what was taken and written so far, and what the last step leaves.
use Prim.Native.Nat.{ℕ, ◌+◌, ◌*◌, ◌-◌, ◌≤◌, ◌<◌}
use mathlib.Core.Path.{◌≡◌, refl, sym, ap, ◌∙◌}
use mathlib.Core.Bool.{true, false}
use mathlib.Core.Logic.{◌⊎◌, inl, inr}
use mathlib.Core.List.{List, [], ◌++◌, append_assoc}
use native.Mathlib.Omega.{arith}
use native.Mathlib.Decide.{dec_le}
use borrow.Rule.Slice.PartMut.{put_mid}
use lib.ListN.{length, take, drop, length-append, length-drop, drop_of_length-le}
use lib.Seq.{drop-drop}
use Rattle.nights.specs.Reading.{Reading, printed_before}
use Rattle.recordings.specs.Kept.{WritesFront, ReplayState, Kept}
use Rattle.recordings.specs.Steps.{go_on, Holds, Steps, Reads}
use Rattle.octets.proofs.Rest.{rest_is}
use Rattle.recordings.proofs.Fronts.{front-append}

-- at bytes of the chunk are taken and w written; room is left for what the next step writes
pub record Taking (k : Kept) (chunk out : List ℕ) (m : Kept) (at w : ℕ) (after : List ℕ) : Type 0 where
  pub text : List ℕ
  pub writes : WritesFront text out w after
  pub within : at ≤ length chunk
  pub reading : go_on k chunk ≡ printed_before text (go_on m (drop at chunk))
  pub holds : Holds m
  pub room : m.session.stopped ≡ false → w ≤ 16 * at + 96
  pub room_held : m.session.stopped ≡ false → at < length chunk → 0 < m.session.held → w ≤ 16 * at

pub taking-none : (k : Kept) (chunk out : List ℕ) → Holds k → Taking k chunk out k 0 0 out
taking-none k chunk out h =
    record { text = []; writes = (refl, refl); within = omega arith; reading = refl; holds = h; room = λ b. omega arith; room_held = λ b l z. omega arith }

module _ (k : Kept) (chunk out : List ℕ) (m v : Kept) (at w taken n : ℕ) (after ys : List ℕ) (t : Taking k chunk out m at w after) (reads_on : m.session.stopped ≡ false)
    (s : Steps m v (take (length chunk - at) (drop at chunk)) (take (length after - w) (drop w after)) taken n ys) where
  rest : take (length chunk - at) (drop at chunk) ≡ drop at chunk
  rest = rest_is chunk at

  -- it takes no more than there is, and writes no more than a record prints
  pub step-within : (at + taken ≤ length chunk) × (n ≤ 96)
  step-within = (omega (arith, s.within, ap length rest, length-drop at chunk, t.within), omega (arith, s.writes.0, s.writes.1.0))

  step-reading : go_on m (drop at chunk) ≡ printed_before s.text (go_on v (drop (at + taken) chunk))
  step-reading = ap (go_on m) (sym rest) ∙ s.reading ∙ ap (λ x. printed_before s.text (go_on v x)) (ap (drop taken) rest ∙ drop-drop taken at chunk)

  many : m.session.held ≡ 0 → v.session.stopped ≡ false → (6 ≤ taken) ⊎ ((n ≡ 0) × (at + taken ≡ length chunk))
  many z b = go (s.printed_many z b)
    where
      go : (6 ≤ taken) ⊎ ((n ≡ 0) × (taken ≡ length (take (length chunk - at) (drop at chunk)))) → (6 ≤ taken) ⊎ ((n ≡ 0) × (at + taken ≡ length chunk))
      go (inl h) = inl h
      go (inr h) = inr (h.0, omega (arith, h.1, ap length rest, length-drop at chunk, t.within))

  module _ (more : at < length chunk) where
    room_after : v.session.stopped ≡ false → w + n ≤ 16 * (at + taken) + 96
    room_after b = go (dec_le m.session.held 0)
      where
        go : Dec (m.session.held ≤ 0) → w + n ≤ 16 * (at + taken) + 96
        go (no h) = omega (arith, t.room_held reads_on more (omega arith), step-within.1)
        go (yes h) = next (many (omega arith) b)
          where
            next : (6 ≤ taken) ⊎ ((n ≡ 0) × (at + taken ≡ length chunk)) → w + n ≤ 16 * (at + taken) + 96
            next (inl six) = omega (arith, six, t.room reads_on, step-within.1)
            next (inr all) = omega (arith, all.0, t.room reads_on)

    held_after : v.session.stopped ≡ false → at + taken < length chunk → 0 < v.session.held → w + n ≤ 16 * (at + taken)
    held_after b l z = go (dec_le m.session.held 0)
      where
        none : n ≡ 0
        none = s.printed_held z

        go : Dec (m.session.held ≤ 0) → w + n ≤ 16 * (at + taken)
        go (no h) = omega (arith, none, t.room_held reads_on more (omega arith))
        go (yes h) = next (many (omega arith) b)
          where
            next : (6 ≤ taken) ⊎ ((n ≡ 0) × (at + taken ≡ length chunk)) → w + n ≤ 16 * (at + taken)
            next (inl six) = omega (arith, six, none, t.room reads_on)
            next (inr all) = absurd (omega (arith, all.1, l))

    pub taking_step : Taking k chunk out v (at + taken) (w + n) (put_mid w (length after - w) after ys)
    taking_step =
        record {
          text = t.text ++ s.text;
          writes = front-append t.text s.text out after ys w n t.writes s.writes.1;
          within = step-within.0;
          reading = t.reading ∙ ap (printed_before t.text) step-reading ∙ printed-printed t.text s.text (go_on v (drop (at + taken) chunk));
          holds = s.holds;
          room = room_after;
          room_held = held_after;
        }
      where
        printed-printed : (a b : List ℕ) (r : Reading ReplayState) → printed_before a (printed_before b r) ≡ printed_before (a ++ b) r
        printed-printed a b r = rw (append_assoc a b r.text)

-- the lent bytes stay as many
pub taking-length : (k : Kept) (chunk out : List ℕ) (m : Kept) (at w : ℕ) (after : List ℕ) → Taking k chunk out m at w after → w ≤ length out → length after ≡ length out
taking-length k chunk out m at w after t h =
    ap length t.writes.1 ∙ length-append t.text (drop (length t.text) out) ∙ omega (arith, length-drop (length t.text) out, t.writes.0, h)

-- ---- at the end

module _ (k : Kept) (chunk out : List ℕ) (m : Kept) (at w : ℕ) (after : List ℕ) (t : Taking k chunk out m at w after) where
  pub taken-stopped : m.session.stopped ≡ true → Reads k m chunk out w after
  taken-stopped b = record { text = t.text; writes = t.writes; reading = t.reading ∙ ap (printed_before t.text) same; holds = t.holds }
    where
      same : go_on m (drop at chunk) ≡ go_on m []
      same = unfold go_on in rw b

  pub taken-all : length chunk ≤ at → Reads k m chunk out w after
  taken-all h =
      let e : drop at chunk ≡ [] = drop_of_length-le chunk h in
      record { text = t.text; writes = t.writes; reading = t.reading ∙ ap (λ x. printed_before t.text (go_on m x)) e; holds = t.holds }
