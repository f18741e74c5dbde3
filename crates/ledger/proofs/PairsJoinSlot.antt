-- A range joined to pairs, by the slot where it goes: the pairs below it stay, those from `at` up to `past` become one with it, and the rest follows.
use Prim.Native.Nat.{ℕ, zero, suc, ◌-◌, ◌≤◌, ◌<◌, min, max}
use mathlib.Core.Path.{◌≡◌, refl, sym, ap, ◌∙◌}
use mathlib.Core.Bool.{true, cond, and-eq-true_iff}
use native.Mathlib.Omega.{arith}
use native.Mathlib.Decide.{dec_lt, dec_le}
use borrow.Author.Tests.{lt-ltb, le-ltb, le-leb, lt-leb, leb-true}
use lib.Dec.{leb, ltb}
use Rattle.ledger.specs.Pairs.{Pairs, none, pair, size, ObeyFrom, join, ends_at_most, count_ending_below, count_starting_by}
use Rattle.ledger.proofs.PairsJoin.{Stands, before, behind, touching, stands, join-before, join-behind, join-touching}

-- ---- parts of pairs

-- all but the first k pairs
unfoldable pub rest : ℕ → Pairs → Pairs
rest zero ps = ps
rest (suc k) none = none
rest (suc k) (pair a b ps) = rest k ps

-- the first k pairs of ps, and qs after them
unfoldable pub splice : ℕ → Pairs → Pairs → Pairs
splice zero ps qs = qs
splice (suc k) none qs = qs
splice (suc k) (pair a b ps) qs = pair a b (splice k ps qs)

-- start and end of the pair with the number k, 0 where there is none
unfoldable pub start_at : ℕ → Pairs → ℕ
start_at k none = 0
start_at zero (pair a b ps) = a
start_at (suc k) (pair a b ps) = start_at k ps

unfoldable pub end_at : ℕ → Pairs → ℕ
end_at k none = 0
end_at zero (pair a b ps) = b
end_at (suc k) (pair a b ps) = end_at k ps

pub end_at-above : (lo k : ℕ) (ps : Pairs) → ObeyFrom (suc lo) ps → k < size ps → lo < end_at k ps
unfolding end_at size
end_at-above lo k none c h = absurd (omega arith)
end_at-above lo zero (pair a b ps) c h = omega (arith, c.0, c.1)
end_at-above lo (suc k) (pair a b ps) c h = omega (arith, c.0, c.1, end_at-above b k ps c.2 (omega arith))

-- ---- the two counts

pub count_starting_by-on : (e a b : ℕ) (ps : Pairs) → a ≤ e → count_starting_by e (pair a b ps) ≡ suc (count_starting_by e ps)
unfolding count_starting_by
count_starting_by-on e a b ps h = rw (le-leb a e h)

pub count_starting_by-stops : (e a b : ℕ) (ps : Pairs) → e < a → count_starting_by e (pair a b ps) ≡ 0
unfolding count_starting_by
count_starting_by-stops e a b ps h = rw (lt-leb a e h)

pub below_on : (s a b : ℕ) (ps : Pairs) → b < s → count_ending_below s (pair a b ps) ≡ suc (count_ending_below s ps)
unfolding count_ending_below
below_on s a b ps h = rw (lt-ltb b s h)

pub below-stops : (s a b : ℕ) (ps : Pairs) → s ≤ b → count_ending_below s (pair a b ps) ≡ 0
unfolding count_ending_below
below-stops s a b ps h = rw (le-ltb b s h)

pub count_starting_by-le : (e : ℕ) (ps : Pairs) → count_starting_by e ps ≤ size ps
unfolding size
count_starting_by-le e none = unfold count_starting_by in omega arith
count_starting_by-le e (pair a b ps) = go (dec_le a e) (count_starting_by-le e ps)
  where
    go : Dec (a ≤ e) → count_starting_by e ps ≤ size ps → count_starting_by e (pair a b ps) ≤ suc (size ps)
    go (yes h) i = omega (arith, count_starting_by-on e a b ps h)
    go (no h) i = omega (arith, count_starting_by-stops e a b ps (omega arith))

pub below-le : (s e lo : ℕ) (ps : Pairs) → s < e → ObeyFrom lo ps → count_ending_below s ps ≤ count_starting_by e ps
below-le s e lo none h c = unfold count_ending_below in omega arith
below-le s e lo (pair a b ps) h c = go (dec_lt b s) (below-le s e (suc b) ps h c.2)
  where
    go : Dec (b < s) → count_ending_below s ps ≤ count_starting_by e ps → count_ending_below s (pair a b ps) ≤ count_starting_by e (pair a b ps)
    go (yes k) i = omega (arith, below_on s a b ps k, count_starting_by-on e a b ps (omega (arith, c.1)))
    go (no k) i = omega (arith, below-stops s a b ps (omega arith))

-- an end that lies before the pairs changes nothing
count_starting_by-max : (e b : ℕ) (ps : Pairs) → ObeyFrom (suc b) ps → count_starting_by (max e b) ps ≡ count_starting_by e ps
count_starting_by-max e b none c = unfold count_starting_by in refl
count_starting_by-max e b (pair x y ps) c = go (dec_le x e) (count_starting_by-max (max e b) y ps c.2) (count_starting_by-max e y ps c.2)
  where
    go : Dec (x ≤ e) → count_starting_by (max (max e b) y) ps ≡ count_starting_by (max e b) ps → count_starting_by (max e y) ps ≡ count_starting_by e ps → count_starting_by (max e b) (pair x y ps) ≡ count_starting_by e (pair x y ps)
    go (yes h) i j =
        let q : max (max e b) y ≡ max e y = omega (arith, c.0, c.1) in
        count_starting_by-on (max e b) x y ps (omega arith) ∙ ap suc (sym i ∙ rw q j) ∙ sym (count_starting_by-on e x y ps h)
    go (no h) i j = count_starting_by-stops (max e b) x y ps (omega (arith, c.0)) ∙ sym (count_starting_by-stops e x y ps (omega arith))

-- ---- the joined pair

-- where it ends: at e, or at the end of the last of n pairs, whichever is later
abbrev pub reached : ℕ → ℕ → Pairs → ℕ
reached e zero ps = e
reached e (suc k) ps = max (end_at k ps) e

pub reached-some : (e k : ℕ) (ps : Pairs) → 0 < k → reached e k ps ≡ max (end_at (k - 1) ps) e
reached-some e zero ps h = absurd (omega arith)
reached-some e (suc k) ps h = let q : suc k - 1 ≡ k = omega arith in rw q

reached-step : (e a b k : ℕ) (ps : Pairs) → ObeyFrom (suc b) ps → k ≤ size ps → reached (max e b) k ps ≡ reached e (suc k) (pair a b ps)
unfolding end_at
reached-step e a b zero ps c h = omega arith
reached-step e a b (suc k) ps c h = omega (arith, end_at-above b k ps c (omega arith))

-- a range that reaches the place before the pairs takes in those that start by its end
absorb : (s e b : ℕ) (ps : Pairs) → s ≤ b → b ≤ e → s < e → ObeyFrom (suc b) ps → join s e ps ≡ pair s (reached e (count_starting_by e ps) ps) (rest (count_starting_by e ps) ps)
unfolding rest
absorb s e b none h g k c = unfold join count_starting_by in refl
absorb s e b (pair x y ps) h g k c = go (dec_le x e)
    (λ (q : s ≤ y) (r : y ≤ max e y) (t : s < max e y). absorb s (max e y) y ps q r t c.2)
  where
    go : Dec (x ≤ e) → (s ≤ y → y ≤ max e y → s < max e y → join s (max e y) ps ≡ pair s (reached (max e y) (count_starting_by (max e y) ps) ps) (rest (count_starting_by (max e y) ps) ps))
        → join s e (pair x y ps) ≡ pair s (reached e (count_starting_by e (pair x y ps)) (pair x y ps)) (rest (count_starting_by e (pair x y ps)) (pair x y ps))
    go (no q) i = rw (count_starting_by-stops e x y ps (omega arith)) (join-before s e x y ps (lt-ltb e x (omega arith)))
    go (yes q) i =
        let m : min s x ≡ s = omega (arith, c.0) in
        let j : join s e (pair x y ps) ≡ join s (max e y) ps =
        join-touching s e x y ps (le-ltb e x q) (le-ltb y s (omega (arith, c.0, c.1))) ∙ rw m in
        rw (count_starting_by-on e x y ps q, j, i (omega (arith, c.0, c.1)) (omega arith) (omega arith), count_starting_by-max e y ps c.2)
        (ap (λ z. pair s z (rest (count_starting_by e ps) ps)) (reached-step e x y (count_starting_by e ps) ps c.2 (count_starting_by-le e ps)))

-- where it starts: at s, or at the start of the first pair that it takes in, whichever is earlier
abbrev pub begun : ℕ → ℕ → ℕ → Pairs → ℕ
begun s at past ps = cond (ltb at past) (min (start_at at ps) s) s

abbrev pub ended : ℕ → ℕ → ℕ → Pairs → ℕ
ended e at past ps = cond (ltb at past) (reached e past ps) e

reached-on : (e a b k m : ℕ) (ps : Pairs) → k < m → reached e (suc m) (pair a b ps) ≡ reached e m ps
unfolding end_at
reached-on e a b k zero ps h = absurd (omega arith)
reached-on e a b k (suc m) ps h = refl

pub join_is : (s e lo : ℕ) (ps : Pairs) → s < e → ObeyFrom lo ps → let at = count_ending_below s ps in let past = count_starting_by e ps in
    join s e ps ≡ splice at ps (pair (begun s at past ps) (ended e at past ps) (rest past ps))
unfolding splice rest start_at
join_is s e lo none h c = unfold join count_ending_below count_starting_by in refl
join_is s e lo (pair a b ps) h c = go (stands s e a b) (join_is s e (suc b) ps h c.2)
  where
    whole : ℕ → ℕ → Pairs
    whole at past = splice at (pair a b ps) (pair (begun s at past (pair a b ps)) (ended e at past (pair a b ps)) (rest past (pair a b ps)))

    go : Stands s e a b
        → join s e ps ≡ splice (count_ending_below s ps) ps (pair (begun s (count_ending_below s ps) (count_starting_by e ps) ps) (ended e (count_ending_below s ps) (count_starting_by e ps) ps) (rest (count_starting_by e ps) ps))
        → join s e (pair a b ps) ≡ whole (count_ending_below s (pair a b ps)) (count_starting_by e (pair a b ps))
    go (before x y) i = rw (below-stops s a b ps (omega (arith, c.1)), count_starting_by-stops e a b ps x) (join-before s e a b ps y)
    go (behind x z y w) i = rw (below_on s a b ps z, count_starting_by-on e a b ps x, join-behind s e a b ps y w, i) (at_on (dec_lt (count_ending_below s ps) (count_starting_by e ps)))
      where
        at_on : Dec (count_ending_below s ps < count_starting_by e ps)
            → pair a b (splice (count_ending_below s ps) ps (pair (begun s (count_ending_below s ps) (count_starting_by e ps) ps) (ended e (count_ending_below s ps) (count_starting_by e ps) ps) (rest (count_starting_by e ps) ps)))
            ≡ whole (suc (count_ending_below s ps)) (suc (count_starting_by e ps))
        at_on (yes q) =
            rw (lt-ltb (count_ending_below s ps) (count_starting_by e ps) q, lt-ltb (suc (count_ending_below s ps)) (suc (count_starting_by e ps)) (omega arith), reached-on e a b (count_ending_below s ps) (count_starting_by e ps) ps q)
        at_on (no q) = rw (le-ltb (count_ending_below s ps) (count_starting_by e ps) (omega arith), le-ltb (suc (count_ending_below s ps)) (suc (count_starting_by e ps)) (omega arith))
    go (touching x z y w) i =
        let m : min s a ≡ min a s = omega arith in
        rw (
          below-stops s a b ps z,
          count_starting_by-on e a b ps x,
          join-touching s e a b ps y w,
          absorb (min s a) (max e b) b ps (omega arith) (omega arith) (omega (arith, c.1)) c.2,
          count_starting_by-max e b ps c.2,
          lt-ltb 0 (suc (count_starting_by e ps)) (omega arith),
          reached-step e a b (count_starting_by e ps) ps c.2 (count_starting_by-le e ps),
          m,
        )

-- ---- what a slot decides

pub end_at-used : (k lo : ℕ) (ps : Pairs) → ObeyFrom lo ps → k < size ps → 0 < end_at k ps
unfolding end_at size
end_at-used k lo none c h = absurd (omega arith)
end_at-used zero lo (pair a b ps) c h = omega (arith, c.1)
end_at-used (suc k) lo (pair a b ps) c h = end_at-used k (suc b) ps c.2 (omega arith)

pub end_at-unused : (k : ℕ) (ps : Pairs) → size ps ≤ k → end_at k ps ≡ 0
unfolding end_at size
end_at-unused k none h = refl
end_at-unused zero (pair a b ps) h = absurd (omega arith)
end_at-unused (suc k) (pair a b ps) h = end_at-unused k ps (omega arith)

-- every pair starts by an end that none is above
pub count_starting_by-all : (f lo : ℕ) (ps : Pairs) → ObeyFrom lo ps → ends_at_most f ps ≡ true → count_starting_by f ps ≡ size ps
unfolding size ends_at_most
count_starting_by-all f lo none c h = unfold count_starting_by in refl
count_starting_by-all f lo (pair a b ps) c h =
    let q = (and-eq-true_iff (leb b f) (ends_at_most f ps)).0 h in
    count_starting_by-on f a b ps (omega (arith, leb-true b f q.0, c.1)) ∙ ap suc (count_starting_by-all f (suc b) ps c.2 q.1)
