-- What reader and writer answer, case by case: the laws that callers use in place of the definitions' text.
use Prim.Native.Nat.{ℕ, ◌≤◌, ◌<◌}
use mathlib.Core.Path.{◌≡◌, ◌∙◌}
use mathlib.Core.Logic.{◌⊎◌, inl, inr}
use mathlib.Core.Bool.{true, false}
use mathlib.Core.List.{List}
use native.Mathlib.Omega.{arith}
use borrow.Author.Tests.{lt-ltb, le-ltb, eq-eqb, ne_eqb}
use lib.ListN.{length}
use Rattle.std.specs.Prelude.{Ok, Err}
use Rattle.answers.specs.Written.{first_refusal, room_refusal}
use Rattle.answers.proofs.WrittenBy.{first_some, first-none, first-zero, room-short, room-enough, room-zero, written-only}
use Rattle.eblock.specs.Descriptor.{has, eodc, fault_of}
use Rattle.eblock.specs.Header.{header_length, count_limit, descriptor_of, second_of, third_of, refusal_of, meant, read_of, write_refusal, write_of}
use Rattle.eblock.specs.declared.header.Header.TheVariants.{Data, Eodc}

-- ---- the judgement

pub refusal-fault : (d third : ℕ) → 0 < fault_of d → refusal_of d third ≡ fault_of d
unfolding refusal_of first_refusal
refusal-fault d third h = first_some (fault_of d) _ h

pub refusal-data : (d third : ℕ) → fault_of d ≡ 0 → has eodc d ≡ false → refusal_of d third ≡ 0
unfolding refusal_of first_refusal
refusal-data d third h e = rw (h, e)

pub refusal-15 : (d third : ℕ) → fault_of d ≡ 0 → has eodc d ≡ true → (third ≡ 0) ⊎ (count_limit < third) → refusal_of d third ≡ 15
unfolding refusal_of first_refusal
refusal-15 d third h e (inl z) = rw (h, e, eq-eqb third 0 z)
refusal-15 d third h e (inr l) = rw (h, e, ne_eqb third 0 (omega arith), lt-ltb count_limit third l)

pub refusal-count : (d third : ℕ) → fault_of d ≡ 0 → has eodc d ≡ true → 0 < third → third ≤ count_limit → refusal_of d third ≡ 0
unfolding refusal_of first_refusal
refusal-count d third h e z l = rw (h, e, ne_eqb third 0 (omega arith), le-ltb count_limit third l)

pub meant-count : (d second third : ℕ) → has eodc d ≡ true → meant d second third ≡ Eodc d third
meant-count d second third e = rw e

pub meant-data : (d second third : ℕ) → has eodc d ≡ false → meant d second third ≡ Data d second third
meant-data d second third e = rw e

-- ---- the reader

pub reads_21 : (h : List ℕ) → (length h ≡ header_length → ⊥) → read_of h ≡ Err 21
unfolding read_of
reads_21 h n = rw (ne_eqb (length h) header_length n)

pub reads-refused : (h : List ℕ) (k : ℕ) → length h ≡ header_length → refusal_of (descriptor_of h) (third_of h) ≡ k → 0 < k → read_of h ≡ Err k
unfolding read_of
reads-refused h k n e l = rw (eq-eqb (length h) header_length n, e, lt-ltb 0 k l)

pub reads-meant : (h : List ℕ) → length h ≡ header_length → refusal_of (descriptor_of h) (third_of h) ≡ 0 → read_of h ≡ Ok (meant (descriptor_of h) (second_of h) (third_of h))
unfolding read_of
reads-meant h n k = rw (eq-eqb (length h) header_length n, k)

-- ---- the writer's number

module _ (d third : ℕ) (out : List ℕ) where
  pub number-refused : (k : ℕ) → refusal_of d third ≡ k → 0 < k → write_refusal d third out ≡ k
  number-refused k e h = first_some (refusal_of d third) _ (omega arith) ∙ e

  pub number-55 : refusal_of d third ≡ 0 → length out < header_length → write_refusal d third out ≡ 55
  number-55 e h = first-none (refusal_of d third) _ e ∙ room-short header_length out h

  pub number_0 : refusal_of d third ≡ 0 → header_length ≤ length out → write_refusal d third out ≡ 0
  number_0 e h = first-none (refusal_of d third) _ e ∙ room-enough header_length out h

  -- the writer accepts exactly what is not refused, into 17 bytes or more
  pub accepts : write_of d third out ≡ Ok header_length → (refusal_of d third ≡ 0) × (header_length ≤ length out)
  unfolding write_of
  accepts e =
      let z = first-zero (refusal_of d third) (room_refusal header_length out) (written-only (write_refusal d third out) header_length header_length e).0 in
      (z.0, room-zero header_length out z.1)
