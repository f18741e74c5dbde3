-- The number of each case of an answer, the bytes it says were written, and what every writer leaves.
use Rattle.std.specs.Prelude.{ℕ, ◌≤◌, ◌<◌, ◌≡◌, ⊤, Ok, Err, List, length}
use Rattle.answers.specs.Refusal.{number, number_in}
use Rattle.answers.specs.declared.refusal.Refusal.{Refusal}
use Rattle.answers.specs.Written.{written_bytes, first_refusal, room_refusal, written_by, written_after, Refuses, Writes}

pub record Answers : Type 0 where
  -- two refusals have different numbers, and none has 0
  pub apart : (r s : Refusal) → number r ≡ number s → r ≡ s
  pub above_0 : (r : Refusal) → 0 < number r
  pub loaded : (u : ⊤) → number_in {A = ⊤} (Ok u) ≡ 0
  pub not_loaded : (k : ℕ) → number_in {A = ⊤} (Err k) ≡ k
  pub written : (n : ℕ) → (number_in {A = ℕ} (Ok n) ≡ 0) × (written_bytes (Ok n) ≡ n)
  pub not_written : (k : ℕ) → (number_in {A = ℕ} (Err k) ≡ k) × (written_bytes (Err k) ≡ 0)
  -- the test that comes first says the number
  pub first_refuses : (k m : ℕ) → 0 < k → first_refusal k m ≡ k
  pub next_refuses : (m : ℕ) → first_refusal 0 m ≡ m
  -- 55 where fewer than n bytes are lent
  pub too_few : (n : ℕ) (out : List ℕ) → length out < n → room_refusal n out ≡ 55
  pub enough : (n : ℕ) (out : List ℕ) → n ≤ length out → room_refusal n out ≡ 0
  -- by a number above 0 nothing is written; else the text, and the lent bytes after it are unchanged
  pub refused_by : (k n : ℕ) (text out : List ℕ) → 0 < k → Refuses (written_by k n) (written_after k text out) out k
  pub written_by_is : (text out : List ℕ) → Writes (written_by 0 (length text)) (written_after 0 text out) out text (length text)
