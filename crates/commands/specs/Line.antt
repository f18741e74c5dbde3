-- A command line (document 01, "Control lines"; RFC 959, 5.3): letters of either case, one or more spaces, an argument, CR LF.
use Rattle.std.specs.Prelude.{ℕ, suc, ◌+◌, ◌-◌, Bool, true, false, cond, ◌&&◌, ◌||◌, not, Option, Some, None, Result, Ok, Err, List, [], ◌∷◌, map, leb, ltb, eqb, length, get_or, take, drop}
use Rattle.texts.specs.Text.{is_small, is_letter, is_space, is_printable, all, leading_count}
use Rattle.answers.specs.Refusal.{number}
use Rattle.answers.specs.declared.refusal.Refusal.{Refusal}
use Rattle.commands.specs.declared.line.Verb.{Verb}
use Rattle.commands.specs.declared.line.Verb.TheVariants.{Mode, Pasv, Port, Rest, Retr, Stor, Spas, Spor, Eret, Esto, Sbuf, Opts}
use Rattle.commands.specs.declared.line.Command.{Command}

-- the longest line, CR LF counted
abbrev pub line_limit : ℕ
line_limit = 2048

-- a letter in upper case
abbrev pub upper : ℕ → ℕ
upper b = cond (is_small b) (b - 32) b

-- ---- the verbs, in document 01's order

abbrev pub verbs : List (List ℕ)
verbs =
    (77 ∷ 79 ∷ 68 ∷ 69 ∷ [])
    ∷ (80 ∷ 65 ∷ 83 ∷ 86 ∷ [])
    ∷ (80 ∷ 79 ∷ 82 ∷ 84 ∷ [])
    ∷ (82 ∷ 69 ∷ 83 ∷ 84 ∷ [])
    ∷ (82 ∷ 69 ∷ 84 ∷ 82 ∷ [])
    ∷ (83 ∷ 84 ∷ 79 ∷ 82 ∷ [])
    ∷ (83 ∷ 80 ∷ 65 ∷ 83 ∷ [])
    ∷ (83 ∷ 80 ∷ 79 ∷ 82 ∷ [])
    ∷ (69 ∷ 82 ∷ 69 ∷ 84 ∷ [])
    ∷ (69 ∷ 83 ∷ 84 ∷ 79 ∷ [])
    ∷ (83 ∷ 66 ∷ 85 ∷ 70 ∷ [])
    ∷ (79 ∷ 80 ∷ 84 ∷ 83 ∷ [])
    ∷ []

-- a verb's place among them, from 1
abbrev pub number_of : Verb → ℕ
number_of Mode = 1
number_of Pasv = 2
number_of Port = 3
number_of Rest = 4
number_of Retr = 5
number_of Stor = 6
number_of Spas = 7
number_of Spor = 8
number_of Eret = 9
number_of Esto = 10
number_of Sbuf = 11
number_of Opts = 12

-- the number of a verb that was looked for, 0 where there is none
abbrev pub found_number : Option Verb → ℕ
found_number (Some v) = number_of v
found_number None = 0

-- PASV and SPAS, which take no argument
abbrev pub takes_no_argument : ℕ → Bool
takes_no_argument v = eqb v 2 || eqb v 7

-- two texts are the same
unfoldable pub equal_texts : List ℕ → List ℕ → Bool
equal_texts [] [] = true
equal_texts [] (y ∷ ys) = false
equal_texts (x ∷ xs) [] = false
equal_texts (x ∷ xs) (y ∷ ys) = eqb x y && equal_texts xs ys

-- the number of the word among the verbs, the first having the number n; 0 where it is not listed
unfoldable pub verb_number_from : ℕ → List (List ℕ) → List ℕ → ℕ
verb_number_from n [] word = 0
verb_number_from n (v ∷ vs) word = cond (equal_texts word v) n (verb_number_from (suc n) vs word)

unfoldable pub verb_number : List ℕ → ℕ
verb_number word = verb_number_from 1 verbs (map upper word)

-- the number of an argument that is missing, or not allowed
abbrev pub argument_number : ℕ
argument_number = 35

-- ---- the parts of a line

-- what is before CR LF
abbrev pub text_of : List ℕ → List ℕ
text_of line = take (length line - 2) line

unfoldable pub ends_in_cr_lf : List ℕ → Bool
ends_in_cr_lf line = leb 2 (length line) && (eqb (get_or line (length line - 2) 0) 13 && eqb (get_or line (length line - 1) 0) 10)

-- the verb is all the letters that the text begins with
unfoldable pub verb_of : List ℕ → ℕ
verb_of text = verb_number (take (leading_count is_letter text) text)

unfoldable pub after_verb : List ℕ → List ℕ
after_verb text = drop (leading_count is_letter text) text

-- the verb is listed, and a space follows it or nothing does
unfoldable pub has_verb : List ℕ → Bool
has_verb text = ltb 0 (verb_of text) && eqb (get_or (after_verb text) 0 32) 32

-- the place of the first byte after the verb that is no space
unfoldable pub argument_start : List ℕ → ℕ
argument_start text = leading_count is_letter text + leading_count is_space (after_verb text)

-- PASV and SPAS end the text; after another verb there is an argument
unfoldable pub argument_accepted : List ℕ → Bool
argument_accepted text = cond (takes_no_argument (verb_of text)) (eqb (length (after_verb text)) 0) (ltb (argument_start text) (length text))

-- what a line that is accepted says: the number of its verb, and the places of its argument in the line
pub data Said : Type 0 where
  Says : ℕ → ℕ → ℕ → Said

-- a reader's answer in numbers
abbrev pub said : Result Command Refusal → Result Said ℕ
said (Ok c) = Ok (Says (number_of c.verb) c.from c.to)
said (Err r) = Err (number r)

-- what a text of printable bytes says
unfoldable pub read_text_of : List ℕ → Result Said ℕ
read_text_of text =
    cond (not (has_verb text)) (Err 34)
    (cond (not (argument_accepted text)) (Err argument_number)
    (Ok (Says (verb_of text) (argument_start text) (length text))))

-- ---- the line's reading

-- the number by which it is refused, in this order; 0 where it is not
unfoldable pub refusal_of : List ℕ → ℕ
refusal_of line =
    cond (ltb line_limit (length line)) 31
    (cond (not (ends_in_cr_lf line)) 32
    (cond (not (all is_printable (text_of line))) 33
    (cond (not (has_verb (text_of line))) 34
    (cond (not (argument_accepted (text_of line))) argument_number 0))))

unfoldable pub read_of : List ℕ → Result Said ℕ
read_of line =
    cond (ltb 0 (refusal_of line)) (Err (refusal_of line))
    (Ok (Says (verb_of (text_of line)) (argument_start (text_of line)) (length (text_of line))))

-- the argument that an answer names: the line from the first place up to the second, and none where it is refused
unfoldable pub argument_of : Result Said ℕ → List ℕ → List ℕ
argument_of (Ok (Says v from to)) line = take (to - from) (drop from line)
argument_of (Err k) line = []

-- the verb that an answer names, 0 where the line is refused
unfoldable pub verb : Result Said ℕ → ℕ
verb (Ok (Says v from to)) = v
verb (Err k) = 0
