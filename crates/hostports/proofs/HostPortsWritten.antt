-- A host-port as it is written reads as its number.
use Prim.Native.Nat.{ℕ, suc, ◌+◌, ◌*◌, ◌%◌, ◌≤◌}
use mathlib.Core.Path.{◌≡◌, refl, sym, ap, ◌∙◌}
use mathlib.Core.Bool.{true}
use mathlib.Core.List.{List, [], ◌∷◌, ◌++◌, append_assoc}
use native.Mathlib.Omega.{arith}
use native.Mathlib.Nat.{add-zero}
use borrow.Author.Tests.{lt-ltb, le-leb}
use lib.ListN.{length, get_or, drop, length-append}
use lib.Seq.{take-append_seam, drop-append_seam, drop-drop, get_or-drop}
use Rattle.octets.specs.Decimal.{no_leading_zero}
use Rattle.octets.proofs.Decimals.{plain-unless}
use Rattle.texts.specs.Text.{is_digit, all, leading_count}
use Rattle.texts.proofs.Texts.{leading-append}
use Rattle.hostports.specs.HostPort.{read_as, digit_limit, value_limit, number_at, more_at, refuse_port_zero, host_port_at}
use Rattle.hostports.specs.HostPorts.{Numeral, StartsWithNoDigit, HostPortNumerals, host_port_text, address, port, WrittenAt}
use Rattle.hostports.proofs.HostPort.{first-number, one_more, more-done, port-kept}

run_none : (rest : List ℕ) → StartsWithNoDigit rest → leading_count is_digit rest ≡ 0
unfolding leading_count
run_none [] h = refl
run_none (b ∷ bs) h = rw h

pub run-all : (digits rest : List ℕ) → all is_digit digits ≡ true → StartsWithNoDigit rest → leading_count is_digit (digits ++ rest) ≡ length digits
run-all digits rest h g = omega (arith, leading-append is_digit digits rest h, run_none rest g)

-- a text with a part at a place has after that part what follows there
pub after : (text : List ℕ) (at : ℕ) (part rest : List ℕ) → drop at text ≡ part ++ rest → drop (at + length part) text ≡ rest
after text at part rest e = sym (drop-drop (length part) at text) ∙ rw e (drop-append_seam part rest)

-- a numeral's digits are a number without leading zeros
pub numeral-plain : (a : Numeral) → no_leading_zero a.text ≡ true
numeral-plain a = plain-unless a.text a.digits a.no_leading_zero_is ∙ lt-ltb 0 (length a.text) a.one_or_more

-- the byte at a place
pub byte-is : (text : List ℕ) (at b : ℕ) (rest : List ℕ) → drop at text ≡ b ∷ rest → get_or text at 0 ≡ b
byte-is text at b rest e = rw (← add-zero at, ← get_or-drop at text 0 0, e)

number-written : (text : List ℕ) (at : ℕ) (a : Numeral) (rest : List ℕ) → drop at text ≡ a.text ++ rest → StartsWithNoDigit rest → number_at text at ≡ read_as a.value (at + length a.text)
unfolding number_at
number-written text at a rest e g =
    rw (
      e,
      run-all a.text rest a.digits g,
      take-append_seam a.text rest,
      a.says,
      numeral-plain a,
      le-leb (length a.text) digit_limit a.at_most_three,
      le-leb a.value value_limit a.small,
    )

-- a comma and a further number
abbrev pub comma_then : Numeral → List ℕ → List ℕ
comma_then a rest = 44 ∷ (a.text ++ rest)

module _ (text : List ℕ) (at : ℕ) (a : Numeral) (rest : List ℕ) (e : drop at text ≡ comma_then a rest) where
  after-comma : drop (at + 1) text ≡ a.text ++ rest
  after-comma = after text at (44 ∷ []) (a.text ++ rest) e

  pub after_more : drop (at + 1 + length a.text) text ≡ rest
  after_more = after text (at + 1) a.text rest after-comma

  more-written : (n v : ℕ) → StartsWithNoDigit rest → more_at (suc n) text v at ≡ more_at n text (v * 256 + a.value) (at + 1 + length a.text)
  more-written n v g =
      one_more n text v at a.value (at + 1 + length a.text) (byte-is text at 44 (a.text ++ rest) e) (number-written text (at + 1) a rest after-comma g)

-- the first number, and the five after it
pub written-rest : (h : HostPortNumerals) (rest : List ℕ)
    → host_port_text h ++ rest ≡ h.a.text ++ comma_then h.b (comma_then h.c (comma_then h.d (comma_then h.e (comma_then h.f rest))))
unfolding host_port_text
written-rest h rest = simp append_assoc

pub written-some : (h : HostPortNumerals) → 1 ≤ length (host_port_text h)
unfolding host_port_text
written-some h = simp length-append (omega arith)

-- the place after six numbers
pub written-place : (h : HostPortNumerals) (at : ℕ)
    → at + length h.a.text + 1 + length h.b.text + 1 + length h.c.text + 1 + length h.d.text + 1 + length h.e.text + 1 + length h.f.text ≡ at + length (host_port_text h)
unfolding host_port_text
written-place h at = simp length-append (omega arith)

-- a port of two numbers below 256 is what is left of the host-port by 65,536, and it is not 0
port-is : (h : HostPortNumerals) → (address h * 65536 + port h) % 65536 ≡ port h
port-is h = omega (arith, h.e.small, h.f.small)

pub port-is-not-0 : (h : HostPortNumerals) → port h ≡ 0 → ⊥
port-is-not-0 h z = h.has_port (omega arith, omega arith)

-- six numbers are read one after the other
pub six-written : (text : List ℕ) (at : ℕ) (h : HostPortNumerals) → WrittenAt text at h → host_port_at text at ≡ read_as (address h * 65536 + port h) (at + length (host_port_text h))
six-written text at h w =
    let s₅ = comma_then h.f w.rest in
    let s₄ = comma_then h.e s₅ in
    let s₃ = comma_then h.d s₄ in
    let s₂ = comma_then h.c s₃ in
    let s₁ = comma_then h.b s₂ in
    let p₁ = at + length h.a.text in
    let p₂ = p₁ + 1 + length h.b.text in
    let p₃ = p₂ + 1 + length h.c.text in
    let p₄ = p₃ + 1 + length h.d.text in
    let p₅ = p₄ + 1 + length h.e.text in
    let d₀ : drop at text ≡ h.a.text ++ s₁ = w.there ∙ written-rest h w.rest in
    let d₁ : drop p₁ text ≡ s₁ = after text at h.a.text s₁ d₀ in
    let d₂ : drop p₂ text ≡ s₂ = after_more text p₁ h.b s₂ d₁ in
    let d₃ : drop p₃ text ≡ s₃ = after_more text p₂ h.c s₃ d₂ in
    let d₄ : drop p₄ text ≡ s₄ = after_more text p₃ h.d s₄ d₃ in
    let d₅ : drop p₅ text ≡ s₅ = after_more text p₄ h.e s₅ d₄ in
    let number : (address h * 256 + h.e.value) * 256 + h.f.value ≡ address h * 65536 + port h = omega arith in
    let more : more_at 5 text h.a.value p₁ ≡ read_as (address h * 65536 + port h) (at + length (host_port_text h)) =
    more-written text p₁ h.b s₂ d₁ 4 _ refl
    ∙ more-written text p₂ h.c s₃ d₂ 3 _ refl
    ∙ more-written text p₃ h.d s₄ d₃ 2 _ refl
    ∙ more-written text p₄ h.e s₅ d₄ 1 _ refl
    ∙ more-written text p₅ h.f w.rest d₅ 0 _ w.no_digit
    ∙ more-done text _ _
    ∙ rw (written-place h at, number)
    in
    first-number text at h.a.value p₁ (number-written text at h.a s₁ d₀ refl)
    ∙ ap refuse_port_zero more
    ∙ port-kept _ _ (λ z. port-is-not-0 h (sym (port-is h) ∙ z))
