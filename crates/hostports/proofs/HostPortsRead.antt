-- What reads as a host-port is written as one.
use Prim.Native.Nat.{ℕ, suc, ◌+◌, ◌*◌, ◌-◌, ◌%◌, ◌^◌, ◌≤◌, ◌<◌}
use Rattle.std.specs.Prelude.{Option, Some, None}
use mathlib.Core.Path.{◌≡◌, refl, sym, ap, ◌∙◌}
use mathlib.Core.Bool.{Bool, true, false, cond, ◌&&◌, and-eq-true_iff}
use mathlib.Core.List.{List, [], ◌∷◌, ◌++◌}
use native.Mathlib.Omega.{arith}
use native.Mathlib.Numerals.{add-one}
use borrow.Author.Tests.{ltb-true, ltb-false, leb-true, eqb-true, eqb-false}
use lib.Dec.{leb, ltb, eqb}
use lib.ListN.{length, get_or, drop, take-append-drop, length-append, length-drop, get_or-eq_default}
use lib.Seq.{drop-cons}
use Rattle.octets.specs.Decimal.{decimal_value, no_leading_zero}
use Rattle.octets.proofs.Decimals.{plain-some, plain-first}
use Rattle.texts.specs.Text.{is_digit, leading_count}
use Rattle.texts.proofs.Texts.{all-leading, leading-rest}
use Rattle.std.proofs.lemmas.Option.{same_Some}
use Rattle.hostports.specs.declared.host_port.Parsed.{Parsed}
use Rattle.hostports.specs.HostPort.{read_as, comma, digit_limit, value_limit, number_at, and_then, more_at, port_of, refuse_port_zero, host_port_at}
use Rattle.hostports.specs.HostPorts.{Numeral, StartsWithNoDigit, HostPortNumerals, host_port_text, address, port, WrittenAt}
use Rattle.hostports.proofs.HostPort.{digits_at, length_digits, more-done}
use Rattle.hostports.proofs.HostPortsWritten.{after, comma_then, after_more, written-rest, written-some, written-place}

-- after the digits that a text begins with there is no digit
none-leads : (rest : List ℕ) → leading_count is_digit rest ≡ 0 → StartsWithNoDigit rest
unfolding leading_count
none-leads [] h = tt
none-leads (b ∷ bs) h = go (is_digit b) refl h
  where
    go : (t : Bool) → is_digit b ≡ t → cond t (suc (leading_count is_digit bs)) 0 ≡ 0 → is_digit b ≡ false
    go true e h = absurd (omega arith)
    go false e h = e

run_stops : (text : List ℕ) → StartsWithNoDigit (drop (leading_count is_digit text) text)
run_stops text = none-leads (drop (leading_count is_digit text) text) (leading-rest is_digit text)

-- a number that is read is written there, with no digit after it
pub record NumeralAt (text : List ℕ) (at v next : ℕ) : Type 0 where
  pub a : Numeral
  pub rest : List ℕ
  pub there : drop at text ≡ a.text ++ rest
  pub no_digit : StartsWithNoDigit rest
  pub says : v ≡ a.value
  pub place : next ≡ at + length a.text

never : (v next : ℕ) → None ≡ read_as v next → ⊥
never v next e = let z : ◌≡◌ {A = ℕ} 0 1 = cc in omega arith

same-read : (v p w q : ℕ) → read_as v p ≡ read_as w q → (v ≡ w) × (p ≡ q)
same-read v p w q e =
    let s = same_Some (record { value = v; next = p }) (record { value = w; next = q }) e in
    (ap (λ (r : Parsed). r.value) s, ap (λ (r : Parsed). r.next) s)

pub number_read : (text : List ℕ) (at v next : ℕ) → number_at text at ≡ read_as v next → NumeralAt text at v next
unfolding number_at
number_read text at v next = go (no_leading_zero digits && (leb k digit_limit && leb n value_limit)) refl
  where
    k : ℕ
    k = leading_count is_digit (drop at text)

    digits : List ℕ
    digits = digits_at text at

    n : ℕ
    n = decimal_value digits

    go : (t : Bool) → no_leading_zero digits && (leb k digit_limit && leb n value_limit) ≡ t → cond t (read_as n (at + k)) None ≡ read_as v next → NumeralAt text at v next
    go false e h = absurd (let z : ◌≡◌ {A = ℕ} 0 1 = cc in omega arith)
    go true e h =
        let p = (and-eq-true_iff (no_leading_zero digits) (leb k digit_limit && leb n value_limit)).0 e in
        let q = (and-eq-true_iff (leb k digit_limit) (leb n value_limit)).0 p.1 in
        let three : k ≤ digit_limit = leb-true k digit_limit q.0 in
        let low : n ≤ value_limit = leb-true n value_limit q.1 in
        let same = same-read n (at + k) v next h in
        let size : length digits ≡ k = length_digits text at in
        record {
          a = record { text = digits; value = n; digits = all-leading is_digit (drop at text); one_or_more = plain-some digits p.0; at_most_three = omega arith; says = refl; small = omega arith; no_leading_zero_is = plain-first digits p.0 };
          rest = drop k (drop at text);
          there = sym (take-append-drop k (drop at text));
          no_digit = run_stops (drop at text);
          says = sym same.0;
          place = rw size (sym same.1);
        }

pub number_bound : (text : List ℕ) (at v next : ℕ) → number_at text at ≡ read_as v next → v < 256
number_bound text at v next e =
    let m = number_read text at v next e in
    omega (arith, m.says, m.a.small)

-- a comma and a number are written where a further number is read, and what comes after them is read on from there
record MoreAt (n : ℕ) (text : List ℕ) (v at w next : ℕ) : Type 0 where
  a : Numeral
  rest : List ℕ
  there : drop at text ≡ comma_then a rest
  no_digit : StartsWithNoDigit rest
  on : more_at n text (v * 256 + a.value) (at + 1 + length a.text) ≡ read_as w next

-- a byte that is not 0 is in the text
pub byte-there : (text : List ℕ) (at b : ℕ) → 1 ≤ b → get_or text at 0 ≡ b → drop at text ≡ b ∷ drop (at + 1) text
byte-there text at b h e = go (ltb at (length text)) refl
  where
    go : (t : Bool) → ltb at (length text) ≡ t → drop at text ≡ b ∷ drop (at + 1) text
    go true i =
        let inside : at < length text = ltb-true at (length text) i in
        rw (add-one at, drop-cons text at 0, e)
    go false o =
        let z : get_or text at 0 ≡ 0 = get_or-eq_default text 0 (ltb-false at (length text) o) in
        absurd (omega arith)

more-read : (n : ℕ) (text : List ℕ) (v at w next : ℕ) → more_at (suc n) text v at ≡ read_as w next → MoreAt n text v at w next
unfolding more_at and_then
more-read n text v at w next = go (eqb (get_or text at 0) comma) refl (number_at text (at + 1)) refl
  where
    go : (t : Bool) → eqb (get_or text at 0) comma ≡ t → (s : Option Parsed) → number_at text (at + 1) ≡ s → cond t (and_then s (λ u place. more_at n text (v * 256 + u) place)) None ≡ read_as w next → MoreAt n text v at w next
    go false c s e h = absurd (never w next h)
    go true c None e h = absurd (never w next h)
    go true c (Some p) e h =
        let m = number_read text (at + 1) p.value p.next e in
        record {
          a = m.a;
          rest = m.rest;
          there = byte-there text at 44 (omega arith) (eqb-true (get_or text at 0) comma c) ∙ ap (λ (l : List ℕ). 44 ∷ l) m.there;
          no_digit = m.no_digit;
          on = rw (← m.says, ← m.place) h;
        }

-- a value is named, so that what comes after it does not write it out
given : {A R : Type 0} → A → (A → R) → R
given x f = f x

-- what is read as a host-port is six numbers, and the port that they make is not 0
port-read : (s : Option Parsed) (v next : ℕ) → refuse_port_zero s ≡ read_as v next → (s ≡ read_as v next) × (0 < v % 65536)
unfolding refuse_port_zero
port-read None v next e = absurd (never v next e)
port-read (Some p) v next is = go (eqb (port_of p.value) 0) refl is
  where
    go : (t : Bool) → eqb (port_of p.value) 0 ≡ t → cond t None (Some p) ≡ read_as v next → (Some p ≡ read_as v next) × (0 < v % 65536)
    go true c e = absurd (never v next e)
    go false c e =
        let same = same-read p.value p.next v next e in
        (e, rw (← same.0) (omega (arith, eqb-false (port_of p.value) 0 c)))

pub port-not-zero : (text : List ℕ) (at v next : ℕ) → host_port_at text at ≡ read_as v next → 0 < v % 65536
unfolding host_port_at
port-not-zero text at v next e = (port-read (and_then (number_at text at) (more_at 5 text)) v next e).1

-- six numbers, commas between, are written where they are read
pub six-read : (text : List ℕ) (at v next : ℕ) → host_port_at text at ≡ read_as v next
    → (h : HostPortNumerals) × WrittenAt text at h × (v ≡ address h * 65536 + port h) × (next ≡ at + length (host_port_text h))
unfolding host_port_at and_then
six-read text at v next is = go (number_at text at) refl (port-read (and_then (number_at text at) (more_at 5 text)) v next is).0
  where
    go : (s : Option Parsed) → number_at text at ≡ s → and_then s (more_at 5 text) ≡ read_as v next
        → (h : HostPortNumerals) × WrittenAt text at h × (v ≡ address h * 65536 + port h) × (next ≡ at + length (host_port_text h))
    go None e g = absurd (never v next g)
    go (Some p) e g =
        given (number_read text at p.value p.next e) (λ m₀.
        given (more-read 4 text m₀.a.value (at + length m₀.a.text) v next (rw (← m₀.says, ← m₀.place) g)) (λ m₁.
        given (more-read 3 text _ _ v next m₁.on) (λ m₂.
        given (more-read 2 text _ _ v next m₂.on) (λ m₃.
        given (more-read 1 text _ _ v next m₃.on) (λ m₄.
        given (more-read 0 text _ _ v next m₄.on) (λ m₅.
        given (same-read _ _ v next (sym (more-done text _ _) ∙ m₅.on)) (λ end.
        given {A = (m₄.a.value ≡ 0) × (m₅.a.value ≡ 0) → ⊥} (λ z. omega (arith, port-not-zero text at v next is, end.0, z.0, z.1)) (λ some.
        let h : HostPortNumerals = record { a = m₀.a; b = m₁.a; c = m₂.a; d = m₃.a; e = m₄.a; f = m₅.a; has_port = some } in
        let p₁ = at + length h.a.text in
        let p₂ = p₁ + 1 + length h.b.text in
        let p₃ = p₂ + 1 + length h.c.text in
        let p₄ = p₃ + 1 + length h.d.text in
        let r₀ : m₀.rest ≡ comma_then h.b m₁.rest = sym (after text at h.a.text m₀.rest m₀.there) ∙ m₁.there in
        let r₁ : m₁.rest ≡ comma_then h.c m₂.rest = sym (after_more text p₁ h.b m₁.rest m₁.there) ∙ m₂.there in
        let r₂ : m₂.rest ≡ comma_then h.d m₃.rest = sym (after_more text p₂ h.c m₂.rest m₂.there) ∙ m₃.there in
        let r₃ : m₃.rest ≡ comma_then h.e m₄.rest = sym (after_more text p₃ h.d m₃.rest m₃.there) ∙ m₄.there in
        let r₄ : m₄.rest ≡ comma_then h.f m₅.rest = sym (after_more text p₄ h.e m₄.rest m₄.there) ∙ m₅.there in
        let there : drop at text ≡ host_port_text h ++ m₅.rest = m₀.there ∙ rw (r₀, r₁, r₂, r₃, r₄) (sym (written-rest h m₅.rest)) in
        (h, record { rest = m₅.rest; there = there; no_digit = m₅.no_digit }, omega (arith, end.0), sym end.1 ∙ written-place h at)))))))))

pub fits_48_bits : (text : List ℕ) (at v next : ℕ) → host_port_at text at ≡ read_as v next → v < 2 ^ 48
fits_48_bits text at v next e =
    let f = six-read text at v next e in
    let h = f.0 in
    omega (arith, f.2, h.a.small, h.b.small, h.c.small, h.d.small, h.e.small, h.f.small)

-- the place after a host-port is in the text or at its end
pub host-port-place : (text : List ℕ) (at v next : ℕ) → host_port_at text at ≡ read_as v next → next ≤ length text
host-port-place text at v next e =
    let f = six-read text at v next e in
    let all : length text - at ≡ length (host_port_text f.0) + length f.1.rest = sym (length-drop at text) ∙ ap length f.1.there ∙ length-append (host_port_text f.0) f.1.rest in
    omega (arith, f.3, written-some f.0)
