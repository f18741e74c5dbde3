-- What the text between two commas says, by what it begins with.
use Prim.Native.Nat.{ℕ, suc, ◌≤◌, ◌<◌}
use mathlib.Core.Path.{◌≡◌, refl, sym, ap}
use mathlib.Core.Bool.{Bool, true, false, cond, ◌&&◌, and-true, and-false, and-eq-true_iff}
use mathlib.Core.List.{List}
use native.Mathlib.Omega.{arith}
use borrow.Author.Tests.{le-leb, lt-leb, leb-true, eq-eqb, ne_eqb, eqb-true}
use lib.Dec.{leb, eqb}
use lib.ListN.{length, get_or, take, drop, get_or-eq_default}
use Rattle.std.proofs.lemmas.Option.{same_Some}
use Rattle.std.specs.Prelude.{Some, None}
use Rattle.octets.specs.Decimal.{decimal_value, read_of}
use Rattle.texts.specs.Text.{is_digit, all, leading_count}
use Rattle.octets.proofs.Reading.{digits-at, at-digits}
use Rattle.rangelists.specs.declared.ranges.Range.{Range}
use Rattle.rangelists.specs.RangeText.{places, last_limit, digit_limit, is_position, position_of, range_of}
use Rattle.rangelists.specs.OneRange.{Position}

-- ---- a number

pub position-long : (text : List ℕ) → digit_limit < length text → position_of text ≡ None
unfolding is_position position_of
position-long text h = rw (lt-leb (length text) digit_limit h, and-false (leb 1 (length text)))

pub position-read : (text : List ℕ) → length text ≤ digit_limit → position_of text ≡ read_of text last_limit
unfolding is_position position_of read_of
position-read text h = rw (le-leb (length text) digit_limit h, and-true (leb 1 (length text)))

pub position-none : (text : List ℕ) → position_of text ≡ None → is_position text ≡ false
unfolding position_of
position-none text h = go (is_position text) h
  where
    go : (t : Bool) → cond t (Some (decimal_value text)) None ≡ None → t ≡ false
    go true e = let z : ◌≡◌ {A = ℕ} 0 1 = cc in absurd (omega arith)
    go false e = refl

pub position-value : (text : List ℕ) (n : ℕ) → position_of text ≡ Some n → (is_position text ≡ true) × (decimal_value text ≡ n)
unfolding position_of
position-value text n h = go (is_position text) h
  where
    go : (t : Bool) → cond t (Some (decimal_value text)) None ≡ Some n → (t ≡ true) × (decimal_value text ≡ n)
    go true e = (refl, cc)
    go false e = let z : ◌≡◌ {A = ℕ} 0 1 = cc in absurd (omega arith)

-- taken apart, and put together
pub position-is : (text : List ℕ) → is_position text ≡ true → Position text (decimal_value text)
unfolding is_position
position-is text h =
    let p = (and-eq-true_iff (leb 1 (length text) && leb (length text) digit_limit) (all is_digit text && leb (decimal_value text) last_limit)).0 h in
    let l = (and-eq-true_iff (leb 1 (length text)) (leb (length text) digit_limit)).0 p.0 in
    let q = (and-eq-true_iff (all is_digit text) (leb (decimal_value text) last_limit)).0 p.1 in
    record {
      shortest = leb-true 1 (length text) l.0;
      longest = omega (arith, leb-true (length text) digit_limit l.1);
      digits = at-digits text q.0;
      value_is = refl;
      most = omega (arith, leb-true (decimal_value text) last_limit q.1);
    }

pub is-position : (text : List ℕ) (value : ℕ) → Position text value → is_position text ≡ true
unfolding is_position
is-position text value h =
    rw (
      le-leb 1 (length text) h.shortest,
      le-leb (length text) digit_limit (omega (arith, h.longest)),
      digits-at text h.digits,
      le-leb (decimal_value text) last_limit (omega (arith, h.value_is, h.most)),
    )

-- ---- a range

module _ (text : List ℕ) where
  pub range-no-hyphen : (get_or text (leading_count is_digit text) 0 ≡ 45 → ⊥) → range_of text ≡ None
  unfolding range_of
  range-no-hyphen n = rw (ne_eqb (get_or text (leading_count is_digit text) 0) 45 n, and-false (is_position (take (leading_count is_digit text) text)))

  pub range-short : length text ≤ leading_count is_digit text → range_of text ≡ None
  range-short h = range-no-hyphen (λ e. omega (arith, e, get_or-eq_default text 0 h))

  pub range-no-start : is_position (take (leading_count is_digit text) text) ≡ false → range_of text ≡ None
  unfolding range_of
  range-no-start e = rw e

  module _ (a : is_position (take (leading_count is_digit text) text) ≡ true) (h : get_or text (leading_count is_digit text) 0 ≡ 45) where
    pub range-no-end : is_position (drop (suc (leading_count is_digit text)) text) ≡ false → range_of text ≡ None
    unfolding range_of
    range-no-end e = rw (a, eq-eqb (get_or text (leading_count is_digit text) 0) 45 h, e)

    module _ (b : is_position (drop (suc (leading_count is_digit text)) text) ≡ true) where
      pub range-falling : decimal_value (drop (suc (leading_count is_digit text)) text) < decimal_value (take (leading_count is_digit text) text) → range_of text ≡ None
      unfolding range_of
      range-falling l =
          rw (a, eq-eqb (get_or text (leading_count is_digit text) 0) 45 h, b, lt-leb (decimal_value (take (leading_count is_digit text) text)) (decimal_value (drop (suc (leading_count is_digit text)) text)) l)

      pub range-places : decimal_value (take (leading_count is_digit text) text) ≤ decimal_value (drop (suc (leading_count is_digit text)) text)
          → range_of text ≡ places (decimal_value (take (leading_count is_digit text) text)) (suc (decimal_value (drop (suc (leading_count is_digit text)) text)))
      unfolding range_of
      range-places l =
          rw (a, eq-eqb (get_or text (leading_count is_digit text) 0) 45 h, b, le-leb (decimal_value (take (leading_count is_digit text) text)) (decimal_value (drop (suc (leading_count is_digit text)) text)) l)

-- ---- what was read as places

pub record Sound (text : List ℕ) (s e : ℕ) : Type 0 where
  pub start : is_position (take (leading_count is_digit text) text) ≡ true
  pub hyphen : get_or text (leading_count is_digit text) 0 ≡ 45
  pub end : is_position (drop (suc (leading_count is_digit text)) text) ≡ true
  pub rising : decimal_value (take (leading_count is_digit text) text) ≤ decimal_value (drop (suc (leading_count is_digit text)) text)
  pub start_is : decimal_value (take (leading_count is_digit text) text) ≡ s
  pub end_is : e ≡ suc (decimal_value (drop (suc (leading_count is_digit text)) text))

pub range-sound : (text : List ℕ) (s e : ℕ) → range_of text ≡ places s e → Sound text s e
unfolding range_of
range-sound text s e h = go (is_position a) (eqb (get_or text k 0) 45) (is_position b) (leb (decimal_value a) (decimal_value b)) refl refl refl refl h
  where
    k : ℕ
    k = leading_count is_digit text

    a : List ℕ
    a = take k text

    b : List ℕ
    b = drop (suc k) text

    go : (p q r t : Bool) → is_position a ≡ p → eqb (get_or text k 0) 45 ≡ q → is_position b ≡ r → leb (decimal_value a) (decimal_value b) ≡ t
        → cond (p && (q && (r && t))) (places (decimal_value a) (suc (decimal_value b))) None ≡ places s e → Sound text s e
    go true true true true p q r t x =
        let same = same_Some (record { start = decimal_value a; end = suc (decimal_value b) }) (record { start = s; end = e }) x in
        record { start = p; hyphen = eqb-true (get_or text k 0) 45 q; end = r; rising = leb-true (decimal_value a) (decimal_value b) t; start_is = ap (λ (r : Range). r.start) same; end_is = sym (ap (λ (r : Range). r.end) same) }
    go true true true false p q r t x = let z : ◌≡◌ {A = ℕ} 0 1 = cc in absurd (omega arith)
    go true true false t p q r t₂ x = let z : ◌≡◌ {A = ℕ} 0 1 = cc in absurd (omega arith)
    go true false r t p q r₂ t₂ x = let z : ◌≡◌ {A = ℕ} 0 1 = cc in absurd (omega arith)
    go false q r t p q₂ r₂ t₂ x = let z : ◌≡◌ {A = ℕ} 0 1 = cc in absurd (omega arith)

-- a range holds a place
pub range-some : (text : List ℕ) (s e : ℕ) → range_of text ≡ places s e → s < e
range-some text s e h =
    let r = range-sound text s e h in
    omega (arith, r.rising, r.start_is, r.end_is)
