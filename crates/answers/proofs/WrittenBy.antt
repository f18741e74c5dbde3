-- What a writer answers and leaves, by the number of its refusal.
use Prim.Native.Nat.{ℕ, ◌≤◌, ◌<◌}
use mathlib.Core.Path.{◌≡◌, refl, sym, ap, ◌∙◌}
use mathlib.Core.List.{List, [], ◌++◌}
use native.Mathlib.Omega.{arith}
use native.Mathlib.Decide.{dec_lt}
use borrow.Author.Tests.{lt-ltb, le-ltb}
use lib.ListN.{length, drop}
use lib.Seq.{sets}
use Rattle.answers.specs.Refusal.{number_in}
use Rattle.answers.specs.Written.{written_bytes, first_refusal, room_refusal, written_by, written_after, Refuses, Writes}
use Rattle.std.specs.Prelude.{Ok, Err}
use Rattle.answers.proofs.WritesAt.{sets_first}

-- ---- the number

module _ (k m : ℕ) where
  pub first_some : 0 < k → first_refusal k m ≡ k
  unfolding first_refusal
  first_some h = rw (lt-ltb 0 k h)

  pub first-none : k ≡ 0 → first_refusal k m ≡ m
  unfolding first_refusal
  first-none e = rw e

  pub first-zero : first_refusal k m ≡ 0 → (k ≡ 0) × (m ≡ 0)
  first-zero z = go (dec_lt 0 k)
    where
      go : Dec (0 < k) → (k ≡ 0) × (m ≡ 0)
      go (yes h) = absurd (omega (arith, first_some h))
      go (no h) =
          let e : k ≡ 0 = omega arith in
          (e, sym (first-none e) ∙ z)

module _ (n : ℕ) (out : List ℕ) where
  pub room-short : length out < n → room_refusal n out ≡ 55
  unfolding room_refusal
  room-short h = rw (lt-ltb (length out) n h)

  pub room-enough : n ≤ length out → room_refusal n out ≡ 0
  unfolding room_refusal
  room-enough h = rw (le-ltb (length out) n h)

  pub room-zero : room_refusal n out ≡ 0 → n ≤ length out
  room-zero z = go (dec_lt (length out) n)
    where
      go : Dec (length out < n) → n ≤ length out
      go (yes h) = absurd (omega (arith, room-short h))
      go (no h) = omega arith

-- ---- the answer and the lent bytes, where the number is j

module _ (j n : ℕ) (text out : List ℕ) where
  pub refused : (k : ℕ) → j ≡ k → 0 < k → (Err k ≡ written_by j n) × (out ≡ written_after j text out)
  unfolding written_by written_after
  refused k e h = (rw (e, lt-ltb 0 k h), rw (e, lt-ltb 0 k h))

  pub written : j ≡ 0 → (Ok n ≡ written_by j n) × (text ++ drop (length text) out ≡ written_after j text out)
  unfolding written_by written_after
  written e = (rw e, rw e)

  -- where the text was written at the first place
  pub written-first : j ≡ 0 → length text ≤ length out → (Ok n ≡ written_by j n) × (sets out 0 text ≡ written_after j text out)
  written-first e h =
      let w = written e in
      (w.0, sets_first text out h ∙ w.1)

  pub refuses : (k : ℕ) → j ≡ k → 0 < k → Refuses (written_by j n) (written_after j text out) out k
  unfolding written_bytes
  refuses k e h =
      let w = refused k e h in
      record { number = sym (ap number_in w.0); bytes = sym (ap written_bytes w.0); unchanged = sym w.1 }

  pub writes : j ≡ 0 → length text ≡ n → Writes (written_by j n) (written_after j text out) out text n
  unfolding written_bytes
  writes e l =
      let w = written e in
      record { number = sym (ap number_in w.0); bytes = sym (ap written_bytes w.0); after_is = sym w.1 ∙ rw l }

-- nothing was refused where bytes were written
pub written-only : (j n m : ℕ) → written_by j n ≡ Ok m → (j ≡ 0) × (n ≡ m)
written-only j n m e = go (dec_lt 0 j)
  where
    go : Dec (0 < j) → (j ≡ 0) × (n ≡ m)
    go (yes h) =
        let r = (refused j n [] [] j refl h).0 in
        let z : ◌≡◌ {A = ℕ} 0 1 = cc in absurd (omega arith)
    go (no h) =
        let z : j ≡ 0 = omega arith in
        let w = (written j n [] [] z).0 in
        (z, cc)
