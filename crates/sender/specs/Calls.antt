-- Lists of calls: each gets the sender as the last left it.
use Rattle.std.specs.Prelude.{ℕ, ◌≡◌, cond, List, [], ◌∷◌, ◌++◌, eqb, length, take}
use Rattle.answers.specs.Written.{written_bytes}
use Rattle.sender.specs.declared.state.Sender.{Sender}
use Rattle.sender.specs.Sender.{NextCall, next_of, next_after, sender_after}

unfoldable pub after_calls : Sender → List NextCall → Sender
after_calls s [] = s
after_calls s (k ∷ ks) = after_calls (sender_after s k) ks

-- what a call wrote on channel c: as many of the lent bytes as it answers, where it names that channel
unfoldable pub wrote_on : ℕ → Sender → NextCall → List ℕ
wrote_on c s k = cond (eqb k.channel c) (take (written_bytes (next_of s k)) (next_after s k)) []

-- what all calls of the list wrote on it
unfoldable pub written_on : ℕ → Sender → List NextCall → List ℕ
written_on c s [] = []
written_on c s (k ∷ ks) = wrote_on c s k ++ written_on c (sender_after s k) ks

-- the file is unchanged: a call that lends a file of that length lends this one. Any other is refused.
abbrev pub EachLends : List ℕ → List NextCall → Type 0
EachLends file [] = Unit {0}
EachLends file (k ∷ ks) = (length k.file ≡ length file → k.file ≡ file) × EachLends file ks
