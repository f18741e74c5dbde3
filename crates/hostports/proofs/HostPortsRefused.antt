-- A number with a leading zero is malformed, and so is port 0, whatever comes before and after.
use Prim.Native.Nat.{ℕ, suc, ◌+◌, ◌*◌, ◌-◌, ◌≤◌, ◌<◌}
use Rattle.std.specs.Prelude.{Option, Some, None}
use mathlib.Core.Path.{◌≡◌, refl, sym, ap, ◌∙◌}
use mathlib.Core.Bool.{true}
use mathlib.Core.List.{List, [], ◌∷◌, ◌++◌, append_assoc}
use native.Mathlib.Omega.{arith}
use native.Mathlib.Nat.{zero-add, suc-add}
use lib.ListN.{length, get_or, drop}
use Rattle.octets.specs.Cases.{AllHold}
use Rattle.octets.specs.Decimal.{decimal_value}
use Rattle.octets.proofs.Reading.{reading}
use Rattle.texts.specs.Text.{is_digit, all, leading_count}
use Rattle.hostports.specs.declared.host_port.Parsed.{Parsed}
use Rattle.hostports.specs.HostPort.{read_as, number_at, more_at, refuse_port_zero, host_port_at}
use Rattle.hostports.specs.HostPorts.{comma_after_each}
use Rattle.hostports.proofs.HostPort.{number-zero, first-is, numbers_from, from-none, from-number, comma-there, still-malformed, port-zero}
use Rattle.hostports.proofs.HostPortsWritten.{run-all, after, byte-is}
use Rattle.hostports.proofs.HostPortsRead.{number_read}

-- a run of digits with a comma after it: where it is a number, that number ends before the comma
skip-run : (n : ℕ) (text : List ℕ) (v at : ℕ) (run rest : List ℕ) → all is_digit run ≡ true → drop at text ≡ run ++ 44 ∷ rest
    → ((u : ℕ) → number_at text at ≡ read_as u (at + length run) → refuse_port_zero (numbers_from n text (v * 256 + u) (at + length run + 1)) ≡ None)
    → refuse_port_zero (numbers_from (suc n) text v at) ≡ None
skip-run n text v at run rest digits there on = go (number_at text at) refl
  where
    go : (s : Option Parsed) → number_at text at ≡ s → refuse_port_zero (numbers_from (suc n) text v at) ≡ None
    go None e = still-malformed _ (from-none (suc n) text v at e)
    go (Some p) e =
        let m = number_read text at p.value p.next e in
        let k : leading_count is_digit (drop at text) ≡ length run = rw there (run-all run (44 ∷ rest) digits refl) in
        let j : leading_count is_digit (drop at text) ≡ length m.a.text = rw m.there (run-all m.a.text m.rest m.a.digits m.no_digit) in
        let place : p.next ≡ at + length run = omega (arith, m.place) in
        let is : number_at text at ≡ read_as p.value (at + length run) = e ∙ ap (read_as p.value) place in
        ap refuse_port_zero (from-number (suc n) text v at p.value (at + length run) is ∙ comma-there n text (v * 256 + p.value) (at + length run) (byte-is text (at + length run) 44 rest (after text at run (44 ∷ rest) there))) ∙ on p.value is

-- so many runs, a comma after each, and what comes then
skip_runs : (runs : List (List ℕ)) (m : ℕ) (text : List ℕ) (v at : ℕ) (then : List ℕ) → AllHold (λ run. all is_digit run ≡ true) runs → drop at text ≡ comma_after_each runs ++ then
    → ((w place : ℕ) → drop place text ≡ then → refuse_port_zero (numbers_from m text w place) ≡ None)
    → refuse_port_zero (numbers_from (length runs + m) text v at) ≡ None
unfolding comma_after_each
skip_runs [] m text v at then digits there last = rw (zero-add m) (last v at there)
skip_runs (run ∷ runs) m text v at then digits there last =
    let here : drop at text ≡ run ++ 44 ∷ (comma_after_each runs ++ then) = there ∙ append_assoc run (44 ∷ comma_after_each runs) then in
    let on : drop (at + length run + 1) text ≡ comma_after_each runs ++ then =
    after text (at + length run) (44 ∷ []) (comma_after_each runs ++ then) (after text at run (44 ∷ (comma_after_each runs ++ then)) here)
    in
    rw (suc-add (length runs) m) (skip-run (length runs + m) text v at run (comma_after_each runs ++ then) digits.0 here (λ u e. skip_runs runs m text (v * 256 + u) (at + length run + 1) then digits.1 on last))

-- ---- a leading zero

zero-there : (text : List ℕ) (at d : ℕ) (rest : List ℕ) → is_digit d ≡ true → drop at text ≡ 48 ∷ d ∷ rest → number_at text at ≡ None
unfolding leading_count
zero-there text at d rest h e =
    let two : 1 < leading_count is_digit (drop at text) = rw (e, h) (omega arith) in
    number-zero text at two (rw e)

pub leading-zero-malformed : (text : List ℕ) (at : ℕ) (before : List (List ℕ)) (d : ℕ) (rest : List ℕ) → AllHold (λ run. all is_digit run ≡ true) before → length before ≤ 5 → is_digit d ≡ true
    → drop at text ≡ comma_after_each before ++ (48 ∷ d ∷ rest) → host_port_at text at ≡ None
leading-zero-malformed text at before d rest digits few h there =
    let m : length before + (5 - length before) ≡ 5 = omega arith in
    first-is text at
    ∙ rw (← m) (skip_runs before (5 - length before) text 0 at (48 ∷ d ∷ rest) digits there (λ v place e. still-malformed _ (from-none _ text v place (zero-there text place d rest h e))))

-- ---- port 0

zero-says : decimal_value (48 ∷ []) ≡ 0
zero-says = reading.digits_more [] 48 ∙ rw reading.digits_none

-- a numeral that begins with 0 is 0
zero-first : (text : List ℕ) → 1 ≤ length text → (2 ≤ length text → get_or text 0 0 ≡ 48 → ⊥) → get_or text 0 0 ≡ 48 → decimal_value text ≡ 0
zero-first [] one plain e = absurd (omega arith)
zero-first (b ∷ []) one plain e = rw e zero-says
zero-first (b ∷ c ∷ rest) one plain e = absurd (plain (omega arith) e)

-- a number that is read where a 0 is, is 0
zero-read : (text : List ℕ) (at u next : ℕ) (rest : List ℕ) → drop at text ≡ 48 ∷ rest → number_at text at ≡ read_as u next → u ≡ 0
zero-read text at u next rest there e =
    let m = number_read text at u next e in
    let a = m.a in
    m.says ∙ sym a.says ∙ zero-first a.text a.one_or_more a.no_leading_zero_is (first a.text m.rest a.one_or_more (sym m.there ∙ there))
  where
    first : (xs ys : List ℕ) → 1 ≤ length xs → xs ++ ys ≡ 48 ∷ rest → get_or xs 0 0 ≡ 48
    first [] ys one same = absurd (omega arith)
    first (x ∷ xs) ys one same = ap (λ (l : List ℕ). get_or l 0 0) same

-- the last of the six
last-zero : (text : List ℕ) (w at : ℕ) (rest : List ℕ) → drop at text ≡ 48 ∷ rest → refuse_port_zero (numbers_from 0 text (w * 256 + 0) at) ≡ None
unfolding more_at
last-zero text w at rest there = go (number_at text at) refl
  where
    go : (s : Option Parsed) → number_at text at ≡ s → refuse_port_zero (numbers_from 0 text (w * 256 + 0) at) ≡ None
    go None e = still-malformed _ (from-none 0 text (w * 256 + 0) at e)
    go (Some p) e = ap refuse_port_zero (from-number 0 text (w * 256 + 0) at p.value p.next e) ∙ port-zero _ p.next (omega (arith, zero-read text at p.value p.next rest there e))

last-two : (text : List ℕ) (v at : ℕ) (rest : List ℕ) → drop at text ≡ 48 ∷ 44 ∷ 48 ∷ rest → refuse_port_zero (numbers_from 1 text v at) ≡ None
unfolding all
last-two text v at rest there =
    skip-run 0 text v at (48 ∷ []) (48 ∷ rest) refl there (λ u e.
    let z = zero-read text at u _ (44 ∷ 48 ∷ rest) there e in
    rw z (last-zero text v (at + 1 + 1) rest (after text (at + 1) (44 ∷ []) (48 ∷ rest) (after text at (48 ∷ []) (44 ∷ 48 ∷ rest) there))))

pub port-zero-malformed : (text : List ℕ) (at : ℕ) (before : List (List ℕ)) (rest : List ℕ) → AllHold (λ run. all is_digit run ≡ true) before → length before ≡ 4
    → drop at text ≡ comma_after_each before ++ (48 ∷ 44 ∷ 48 ∷ rest) → host_port_at text at ≡ None
port-zero-malformed text at before rest digits four there =
    let m : length before + 1 ≡ 5 = omega arith in
    first-is text at ∙ rw (← m) (skip_runs before 1 text 0 at (48 ∷ 44 ∷ 48 ∷ rest) digits there (λ v place e. last-two text v place rest e))
