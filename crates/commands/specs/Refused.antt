-- Which command lines are refused, and by which number (document 01, "Numbers the host sees", 31 to 35). The premises carry the order of the numbers.
use Rattle.std.specs.Prelude.{ℕ, ◌≤◌, ◌<◌, ◌≡◌, ◌⊎◌, ◌≢◌, List, [], ◌∷◌, ◌++◌, length, get_or, replicate}
use Rattle.answers.specs.Refusal.{number_in}
use Rattle.commands.specs.Line.{read_of, argument_of, verb}
use Rattle.commands.specs.Accepted.{Printable, IsVerb, TakesNoArgument}

-- the text begins with the verb v; a space follows or nothing does, so the word is all the letters that the text begins with
pub record BeginsWithVerb (text word rest : List ℕ) (v : ℕ) : Type 0 where
  pub whole : text ≡ word ++ rest
  pub verb_is : IsVerb word v
  pub followed : (rest ≡ []) ⊎ (get_or rest 0 0 ≡ 32)

pub data RefusedBy (line : List ℕ) : ℕ → Type 0 where
  -- more than 2,048 bytes
  by_31 : 2048 < length line → RefusedBy line 31
  -- the last two bytes aren't CR LF
  by_32 : length line ≤ 2048 → ((text : List ℕ) → line ≢ text ++ (13 ∷ 10 ∷ [])) → RefusedBy line 32
  -- a byte before them is outside 32 to 126
  by_33 : (text : List ℕ) → length line ≤ 2048 → line ≡ text ++ (13 ∷ 10 ∷ []) → (i : ℕ) → i < length text → (get_or text i 0 < 32) ⊎ (126 < get_or text i 0)
      → RefusedBy line 33
  -- the text before them begins with no verb
  by_34 : (text : List ℕ) → length line ≤ 2048 → line ≡ text ++ (13 ∷ 10 ∷ []) → Printable text
      → ((word rest : List ℕ) (v : ℕ) → BeginsWithVerb text word rest v → ⊥) → RefusedBy line 34
  -- the argument is missing: nothing but spaces follows the verb
  by_35_missing : (text word : List ℕ) (v spaces : ℕ) → length line ≤ 2048 → line ≡ text ++ (13 ∷ 10 ∷ []) → Printable text
      → BeginsWithVerb text word (replicate spaces 32) v → (TakesNoArgument v → ⊥) → RefusedBy line 35
  -- something follows PASV or SPAS
  by_35_present : (text word rest : List ℕ) (v : ℕ) → length line ≤ 2048 → line ≡ text ++ (13 ∷ 10 ∷ []) → Printable text → BeginsWithVerb text word rest v
      → TakesNoArgument v → 0 < length rest → RefusedBy line 35

pub record Refusals : Type 0 where
  -- a line is refused by no number but its row's; with `AcceptedLines` every line has a row or is accepted
  pub refused_is : (line : List ℕ) → 0 < number_in (read_of line) → RefusedBy line (number_in (read_of line))
  -- and by the number of its row, with no verb and no part of it handed back
  pub refused_only : (line : List ℕ) (k : ℕ) → RefusedBy line k → (number_in (read_of line) ≡ k) × (verb (read_of line) ≡ 0) × (argument_of (read_of line) line ≡ [])
