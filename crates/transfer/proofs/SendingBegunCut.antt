-- A first part of the bytes that are sent on a channel is cut into the first of the blocks that are sent.
use Prim.Native.Nat.{ℕ, zero, suc, ◌≤◌, ◌<◌}
use mathlib.Core.Path.{◌≡◌, refl, sym, ap, ◌∙◌}
use mathlib.Core.Bool.{true, false, ◌||◌, and-false, or-true, false≢true}
use mathlib.Core.List.{List, [], ◌∷◌, ◌++◌, append-nil}
use native.Mathlib.Omega.{arith}
use native.Mathlib.Decide.{dec_le}
use borrow.Author.Tests.{le-leb, lt-leb}
use lib.ListN.{length, take, drop, length-append, take-append-drop}
use lib.Seq.{take-append-le, take-append_seam, drop-append-le, drop-append_seam}
use Rattle.eblock.specs.Header.{header_length}
use Rattle.transfer.specs.Transfer.{sum}
use Rattle.transfer.specs.Header.{ends_channel}
use Rattle.transfer.specs.Block.{Block, block, size_of, is_whole, block_bytes, cut, cut_by, is_complete_end, has_ended}
use Rattle.transfer.specs.Sending.{WellFormedBlock, WellFormedBlocks, EndsAtLast}
use Rattle.transfer.proofs.BlockCounts.{append-nothing}
use Rattle.transfer.proofs.BlockCut.{cuts-block, cuts-short, cuts-part}

-- the last block has bit 8 and no other, where there are blocks
abbrev pub Ending : List Block → Type 0
Ending [] = Unit
Ending (x ∷ xs) = EndsAtLast (x ∷ xs)

pub ends-ending : (xs : List Block) → EndsAtLast xs → Ending xs
ends-ending [] e = tt
ends-ending (x ∷ xs) e = e

ending-rest : (x : Block) (xs : List Block) → Ending (x ∷ xs) → Ending xs
ending-rest x [] e = tt
ending-rest x (y ∷ xs) e = e.1

sent-whole : (F : ℕ) (x : Block) → WellFormedBlock F x → is_whole x ≡ true
unfolding is_whole
sent-whole F x s = le-leb (size_of x) (length x.body) (omega (arith, s.whole))

pub sent-ends : (F : ℕ) (xs : List Block) → WellFormedBlocks F xs → EndsAtLast xs → has_ended xs ≡ true
unfolding has_ended is_complete_end
sent-ends F [] s e = absurd e
sent-ends F (x ∷ []) s e = rw (e, sent-whole F x s.0)
sent-ends F (x ∷ y ∷ xs) s e = rw (sent-ends F (y ∷ xs) s.1 e.1) (or-true (is_complete_end x))

-- ---- the first of some blocks

-- as many of the blocks ys from the first on, by their headers
abbrev pub FirstOf : List Block → List Block → Type 0
FirstOf [] ys = Unit
FirstOf (x ∷ xs) [] = ⊥
FirstOf (x ∷ xs) (y ∷ ys) = (x.head ≡ y.head) × FirstOf xs ys

pub first-sum : (v : List ℕ → ℕ) (xs ys : List Block) → FirstOf xs ys → sum (λ (x : Block). v x.head) xs ≤ sum (λ (y : Block). v y.head) ys
unfolding sum
first-sum v [] ys f = omega arith
first-sum v (x ∷ xs) [] f = absurd f
first-sum v (x ∷ xs) (y ∷ ys) f = omega (arith, ap v f.0, first-sum v xs ys f.1)

-- ---- cutting

-- of the bytes of the blocks xs a first part is cut into `now`, and m are to come
pub record Part (xs now : List Block) (m : List ℕ) : Type 0 where
  pub first : FirstOf now xs
  pub ended_last : has_ended now ≡ true → m ≡ []
  pub whole : m ≡ [] → now ≡ xs

-- where one list begins at least as far as another
split-append : (a b c d : List ℕ) → a ++ b ≡ c ++ d → length c ≤ length a → (e : List ℕ) × (a ≡ c ++ e) × (e ++ b ≡ d)
split-append a b c d h k = (
  drop (length c) a,
  sym (take-append-drop (length c) a) ∙ ap (λ r. r ++ drop (length c) a) (sym (take-append-le (length c) a b k) ∙ ap (take (length c)) h ∙ take-append_seam c d),
  sym (drop-append-le (length c) a b k) ∙ ap (drop (length c)) h ∙ drop-append_seam c d,
)

module _ (F : ℕ) where
  -- k cuts are enough
  pub first_part : (xs : List Block) (bs m : List ℕ) (k : ℕ) → WellFormedBlocks F xs → Ending xs → bs ++ m ≡ block_bytes xs → length bs ≤ k → Part xs (cut_by k bs) m
  unfolding block_bytes has_ended
  first_part [] bs m k s z h q =
      let e : length bs ≡ 0 = omega (arith, ap length h, length-append bs m) in
      rw (cuts-short k bs (omega arith)).0 (record { first = tt; ended_last = λ e. absurd (false≢true e); whole = λ e. refl })
  first_part (x ∷ xs) bs m k s z h q = headed (dec_le header_length (length bs)) k q (λ e j. first_part xs e m j s.1 (ending-rest x xs z))
    where
      size : length x.body ≡ size_of x
      size = s.0.whole

      On : Type 0
      On = (e : List ℕ) (j : ℕ) → e ++ m ≡ block_bytes xs → length e ≤ j → Part xs (cut_by j e) m

      -- some of the payload
      some : (e : List ℕ) → length e < size_of x → e ++ m ≡ x.body ++ block_bytes xs → Part (x ∷ xs) (block x.head e ∷ []) m
      some e w g = record { first = (refl, tt); ended_last = λ r. absurd (false≢true (sym shut ∙ r)); whole = λ r. absurd (short r) }
        where
          short : m ≡ [] → ⊥
          short r = omega (arith, ap length g, length-append e m, length-append x.body (block_bytes xs), ap length r, size)

          shut : has_ended (block x.head e ∷ []) ≡ false
          shut = unfold is_complete_end is_whole in rw (lt-leb (size_of x) (length e) w, and-false (ends_channel x.head))

      -- the block and what is after it
      behind : (e : List ℕ) (j : ℕ) → e ++ m ≡ block_bytes xs → Part xs (cut_by j e) m → Part (x ∷ xs) (x ∷ cut_by j e) m
      behind e j g p = record { first = (refl, p.first); ended_last = last xs z g p.ended_last; whole = λ r. ap {B = List Block} (λ ys. x ∷ ys) (p.whole r) }
        where
          last : (ys : List Block) → Ending (x ∷ ys) → e ++ m ≡ block_bytes ys → (has_ended (cut_by j e) ≡ true → m ≡ []) → (is_complete_end x || has_ended (cut_by j e)) ≡ true → m ≡ []
          last [] y g i r = (append-nothing e m g).1
          last (y ∷ ys) u g i r = i (unfold is_complete_end in rw u.0 at r)

      headed : Dec (header_length ≤ length bs) → (k : ℕ) → length bs ≤ k → On → Part (x ∷ xs) (cut_by k bs) m
      headed (no w) k q on =
          rw (cuts-short k bs (omega arith)).0 (record { first = tt; ended_last = λ r. absurd (false≢true r); whole = λ r. absurd (short r) })
        where
          short : m ≡ [] → ⊥
          short r = omega (arith, ap length h, length-append bs m, length-append x.head (x.body ++ block_bytes xs), ap length r, s.0.seventeen)
      headed (yes w) k q on = bodied (split-append bs m x.head (x.body ++ block_bytes xs) h (omega (arith, s.0.seventeen)))
        where
          bodied : (e : List ℕ) × (bs ≡ x.head ++ e) × (e ++ m ≡ x.body ++ block_bytes xs) → Part (x ∷ xs) (cut_by k bs) m
          bodied v = filled (dec_le (size_of x) (length v.0)) k q
            where
              filled : Dec (size_of x ≤ length v.0) → (k : ℕ) → length bs ≤ k → Part (x ∷ xs) (cut_by k bs) m
              filled (no u) k q =
                  rw (ap (cut_by k) v.1 ∙ (cuts-part k x.head v.0 s.0.seventeen (omega arith) (omega (arith, ap length v.1))).0) (some v.0 (omega arith) v.2)
              filled (yes u) zero q = absurd (omega arith)
              filled (yes u) (suc j) q =
                  let r = split-append v.0 m x.body (block_bytes xs) v.2 (omega (arith, size)) in
                  let e : bs ≡ x.head ++ (x.body ++ r.0) = v.1 ∙ ap (λ a. x.head ++ a) r.1 in
                  rw (ap (cut_by (suc j)) e ∙ (cuts-block j x.head x.body r.0 (cut_by j r.0) _ s.0.seventeen size (refl, refl)).0)
                  (behind r.0 j r.2 (on r.0 j r.2 (omega (arith, ap length e, length-append x.head (x.body ++ r.0), length-append x.body r.0, s.0.seventeen))))

  -- all of them are cut into all blocks
  pub cut-flat : (xs : List Block) → WellFormedBlocks F xs → Ending xs → cut (block_bytes xs) ≡ xs
  cut-flat xs s z = (first_part xs (block_bytes xs) [] (length (block_bytes xs)) s z (append-nil (block_bytes xs)) (omega arith)).whole refl
