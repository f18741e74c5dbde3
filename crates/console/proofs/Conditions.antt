-- Each test of the table, and what it says of a text or of the state.
use Prim.Native.Nat.{ℕ}
use mathlib.Core.Path.{◌≡◌, refl, sym, ap, ◌∙◌}
use mathlib.Core.Logic.{⊎_elim, inl, inr}
use mathlib.Core.Bool.{Bool, true, false, ◌||◌, false≢true}
use mathlib.Core.List.{List, [], ◌∷◌}
use native.Mathlib.Omega.{arith}
use borrow.Author.Tests.{eqb-true, eqb-false, ltb-true, ltb-false}
use lib.Dec.{ltb, eqb}
use lib.ListN.{length, get_or}
use Rattle.hostlists.specs.HostList.{host_count}
use Rattle.hostlists.specs.HostLists.{ListText}
use Rattle.hostlists.proofs.HostCounts.{host-counts}
use Rattle.rangelists.specs.RangeText.{has_malformed}
use Rattle.rangelists.specs.MalformedRanges.{HasMalformed}
use Rattle.rangelists.proofs.MalformedRanges.{malformed-ranges}
use Rattle.console.specs.declared.state.Endpoint.{Endpoint}
use Rattle.console.specs.declared.state.Endpoint.TheVariants.{None, Listening, Connecting}
use Rattle.console.specs.Rows.{is_e, is_listening, is_connecting}
use Rattle.console.specs.Table.{IsE, IsHostPort}

-- the test says whether P holds
pub data Reflects (P : Type 0) : Bool → Type 0 where
  holds : P → Reflects P true
  fails : (P → ⊥) → Reflects P false

pub is_true : (P : Type 0) (b : Bool) → Reflects P b → P → b ≡ true
is_true P true t p = refl
is_true P false (fails n) p = absurd (n p)

pub is_false : (P : Type 0) (b : Bool) → Reflects P b → (P → ⊥) → b ≡ false
is_false P true (holds p) n = absurd (n p)
is_false P false t n = refl

both_ways : (P : Type 0) (b : Bool) → (b ≡ true → P) → (b ≡ false → P → ⊥) → Reflects P b
both_ways P true y n = holds (y refl)
both_ways P false y n = fails (n refl)

-- ---- the texts

pub tests-e : (text : List ℕ) → Reflects (IsE text) (is_e text)
tests-e [] = fails (⊎_elim (λ e. omega (arith, ap length e)) (λ e. omega (arith, ap length e)))
tests-e (b ∷ c ∷ bs) = fails (⊎_elim (λ e. omega (arith, ap length e)) (λ e. omega (arith, ap length e)))
tests-e (b ∷ []) = go (eqb b 69) (eqb b 101) refl refl
  where
    go : (x y : Bool) → eqb b 69 ≡ x → eqb b 101 ≡ y → Reflects (IsE (b ∷ [])) (x || y)
    go true y e f = holds (inl (ap (λ k. k ∷ []) (eqb-true b 69 e)))
    go false true e f = holds (inr (ap (λ k. k ∷ []) (eqb-true b 101 f)))
    go false false e f = fails (⊎_elim (λ q. eqb-false b 69 e (ap (λ k. get_or k 0 0) q)) (λ q. eqb-false b 101 f (ap (λ k. get_or k 0 0) q)))

pub tests-host-port : (text : List ℕ) → Reflects (IsHostPort text) (eqb (host_count text) 1)
tests-host-port text =
    both_ways (IsHostPort text) (eqb (host_count text) 1) (λ e. host-counts.only_one text (eqb-true (host_count text) 1 e))
    (λ e h. eqb-false (host_count text) 1 e (rw h.1 (host-counts.one h.0)))

pub tests-list : (text : List ℕ) → Reflects (ListText text) (ltb 0 (host_count text))
tests-list text =
    both_ways (ListText text) (ltb 0 (host_count text)) (λ e. host-counts.only_lists text (ltb-true 0 (host_count text) e))
    (λ e l. omega (arith, ltb-false 0 (host_count text) e, host-counts.list_counts text l, l.one_or_more))

pub tests-malformed : (text : List ℕ) → Reflects (HasMalformed text) (has_malformed text)
tests-malformed text =
    both_ways (HasMalformed text) (has_malformed text) (malformed-ranges.true_malformed text) (λ e m. false≢true (sym e ∙ malformed-ranges.malformed_true text m))

-- ---- the endpoint

pub tests-listening : (e : Endpoint) → Reflects (e ≡ Listening) (is_listening e)
tests-listening None = fails (λ q. false≢true (ap is_listening q))
tests-listening Listening = holds refl
tests-listening Connecting = fails (λ q. false≢true (ap is_listening q))

pub tests-connecting : (e : Endpoint) → Reflects (e ≡ Connecting) (is_connecting e)
tests-connecting None = fails (λ q. false≢true (ap is_connecting q))
tests-connecting Listening = fails (λ q. false≢true (ap is_connecting q))
tests-connecting Connecting = holds refl
