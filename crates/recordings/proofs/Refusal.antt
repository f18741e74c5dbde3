-- The number by which a chunk is refused, what it answers and leaves by that, and what the end of the input adds.
use Prim.Native.Nat.{ℕ, ◌+◌, ◌*◌, ◌≤◌, ◌<◌, min}
use mathlib.Core.Path.{◌≡◌, refl, sym, ap, ◌∙◌}
use mathlib.Core.Bool.{Bool, true, false, cond, and-false, false≢true}
use mathlib.Core.Logic.{◌⊎◌, inl, inr}
use mathlib.Core.List.{List, []}
use native.Mathlib.Omega.{arith}
use borrow.Author.Tests.{lt-ltb, le-ltb}
use lib.Dec.{ltb}
use lib.ListN.{length, take, length-take}
use Rattle.std.specs.Prelude.{⊤, Result, Ok, Err}
use Rattle.answers.specs.Refusal.{refusal_number}
use Rattle.answers.specs.declared.refusal.Refusal.{Refusal}
use Rattle.answers.specs.Written.{Written, room_refusal, written_by, written_after}
use Rattle.answers.proofs.WrittenBy.{room-zero, refused, written}
use Rattle.recordings.specs.declared.session.Session.{Session}
use Rattle.nights.specs.Lines.{record_line}
use Rattle.recordings.specs.Kept.{WritesFront, Kept, kept, is_unfinished, unfinished, feed, feed_room, feed_refusal, feed_text, feed_after, finish_text}
use Rattle.recordings.specs.Steps.{Holds}
use Rattle.recordings.proofs.Fronts.{take_same}
use Rattle.recordings.proofs.Chunk.{held_cut, Lengths}

module _ (s : Session) (held file claimed doubtful chunk out : List ℕ) (used : ℕ) (used-is : used ≡ min s.held (length held)) where
  -- the part that is looked at is what is held
  looked : take used held ≡ take s.held held
  looked = take_same used s.held held (omega (arith, used-is))

  by-test : (b : Bool) → is_unfinished (take used held) ≡ b → feed_refusal (kept s held file claimed doubtful) chunk out ≡ cond b (room_refusal (feed_room (length chunk)) out) 1
  unfolding feed_refusal unfinished
  by-test b e = ap (λ x. cond x (room_refusal (feed_room (length chunk)) out) 1) (ap is_unfinished (sym looked) ∙ e)

  pub refused-1 : is_unfinished (take used held) ≡ false → 1 ≡ feed_refusal (kept s held file claimed doubtful) chunk out
  refused-1 e = sym (by-test false e)

  module _ (ours : is_unfinished (take used held) ≡ true) where
    pub refused-55 : length out < 192 + 16 * length chunk → 55 ≡ feed_refusal (kept s held file claimed doubtful) chunk out
    unfolding room_refusal
    refused-55 h = sym (by-test true ours ∙ rw (lt-ltb (length out) (feed_room (length chunk)) h))

    pub refused_none : 192 + 16 * length chunk ≤ length out → 0 ≡ feed_refusal (kept s held file claimed doubtful) chunk out
    unfolding room_refusal
    refused_none h = sym (by-test true ours ∙ rw (le-ltb (length out) (feed_room (length chunk)) h))

-- what is not refused has the number 0
pub none_refused : (r : Result ⊤ Refusal) → ((x : Refusal) → r ≡ Err x → ⊥) → 0 ≡ refusal_number r
none_refused (Ok u) h = refl
none_refused (Err x) h = absurd (h x refl)

-- ---- what a chunk answers and leaves, by that number

-- the answer, the lent bytes, and what is kept
abbrev pub Answers : Kept → List ℕ → List ℕ → Written → List ℕ → Kept → Type 0
Answers k chunk out answer after m =
    (answer ≡ written_by (feed_refusal k chunk out) (length (feed_text k chunk))) × (after ≡ written_after (feed_refusal k chunk out) (feed_text k chunk) out) × (m ≡ feed_after k chunk out)

module _ (k : Kept) (chunk out : List ℕ) where
  pub feed-refused : (n : ℕ) → n ≡ feed_refusal k chunk out → 0 < n → Answers k chunk out (Err n) out k
  unfolding feed_after
  feed-refused n e h =
      let w = refused (feed_refusal k chunk out) (length (feed_text k chunk)) (feed_text k chunk) out n (sym e) h in
      (w.0, w.1, rw (← e, lt-ltb 0 n h))

  module _ (none : 0 ≡ feed_refusal k chunk out) where
    taken-after : feed_after k chunk out ≡ (feed k chunk).1
    unfolding feed_after
    taken-after = rw (← none)

    pub feed-taken : (n : ℕ) (after : List ℕ) (m : Kept) → WritesFront (feed_text k chunk) out n after → m ≡ (feed k chunk).1 → Answers k chunk out (Ok n) after m
    feed-taken n after m w e =
        let x = written (feed_refusal k chunk out) (length (feed_text k chunk)) (feed_text k chunk) out (sym none) in
        (rw w.0 x.0, w.1 ∙ x.1, e ∙ sym taken-after)

    pub feed-halted : k.session.stopped ≡ true → Answers k chunk out (Ok 0) out k
    unfolding feed feed_text
    feed-halted b =
        let f : feed k chunk ≡ ([], k) = rw b in
        let t : feed_text k chunk ≡ [] = ap (λ (x : List ℕ × Kept). x.0) f in
        feed-taken 0 out k (rw t (refl, refl)) (ap (λ (x : List ℕ × Kept). x.1) (sym f))

    -- what is held is a record's first bytes, and the lent bytes are enough
    pub feed-begins : k.session.stopped ≡ false → Lengths k.held k.file k.claimed k.doubtful → Holds k × (192 + 16 * length chunk ≤ length out)
    feed-begins b l = go (is_unfinished (unfinished k)) refl
      where
        by-case : (x : Bool) → is_unfinished (unfinished k) ≡ x → 0 ≡ cond x (room_refusal (feed_room (length chunk)) out) 1
        by-case x e = none ∙ (unfold feed_refusal in ap (λ y. cond y (room_refusal (feed_room (length chunk)) out) 1) e)

        go : (x : Bool) → is_unfinished (unfinished k) ≡ x → Holds k × (192 + 16 * length chunk ≤ length out)
        go false e = absurd (omega (arith, by-case false e))
        go true e =
            let n : length (unfinished k) ≡ min k.session.held (length k.held) = unfold unfinished in length-take k.session.held k.held in
            let h = (held_cut (unfinished k) e).0 in (
              record {
                ours = e;
                below = omega (arith, n, h, l.0);
                halts = λ y. absurd (false≢true (sym b ∙ y));
                held = l.0;
                file = l.1;
                claimed = l.2;
                doubtful = l.3;
              },
              room-zero (feed_room (length chunk)) out (sym (by-case true e)),
            )

-- ---- the end of the input

module _ (s : Session) where
  pub finish-none : (s.stopped ≡ true) ⊎ (s.held ≡ 0) → finish_text s ≡ []
  unfolding finish_text
  finish-none (inl e) = rw (e, and-false (ltb 0 s.held))
  finish-none (inr e) = rw e

  pub finish-line : s.stopped ≡ false → 0 < s.held → finish_text s ≡ record_line s.progress.number
  unfolding finish_text
  finish-line e h = rw (e, lt-ltb 0 s.held h)
