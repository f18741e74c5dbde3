-- A recording read record by record (document 02, Item 4): what is printed, and what is left of the bytes.
use Rattle.std.specs.Prelude.{ℕ, zero, suc, Bool, true, false, List, [], ◌∷◌, ◌++◌, length, take, drop}
use Rattle.frames.specs.Frame.{first_record}
use Rattle.frames.specs.declared.frame.First.TheVariants.{Nothing, Cut, TooLong, Whole}
use Rattle.nights.specs.Request.{record_limit}
use Rattle.nights.specs.Lines.{record_line}

-- parts of a recording in their order
unfoldable pub joined : List (List ℕ) → List ℕ
joined [] = []
joined (part ∷ parts) = part ++ joined parts

-- what a whole record leads to: a text, after which the reading goes on; or it is malformed, and nothing of it is carried out
pub data Turn {ℓ} (W : Type ℓ) : Type ℓ where
  prints : List ℕ → W → Turn W
  stops : Turn W

-- what was printed, what that left, whether a record was malformed, and the bytes of a record that is not whole
pub record Reading {ℓ} (W : Type ℓ) : Type ℓ where
  pub text : List ℕ
  pub left : W
  pub stopped : Bool
  pub rest : List ℕ

-- how records change W, and the number of the next one
pub record Reader {ℓ} (W : Type ℓ) : Type ℓ where
  pub turn : W → List ℕ → Turn W
  pub number : W → ℕ

abbrev pub waits {ℓ} : {W : Type ℓ} → W → List ℕ → Reading W
waits w rest = record { text = []; left = w; stopped = false; rest = rest }

-- a malformed record prints RECORD and its number, and nothing after it is read
abbrev pub stops_at {ℓ} : {W : Type ℓ} → Reader W → W → Reading W
stops_at f w = record { text = record_line (f.number w); left = w; stopped = true; rest = [] }

abbrev pub printed_before {ℓ} : {W : Type ℓ} → List ℕ → Reading W → Reading W
printed_before text r = record { text = text ++ r.text; left = r.left; stopped = r.stopped; rest = r.rest }

-- the first argument bounds the depth, and the length of the bytes is enough
unfoldable pub read_by {ℓ} : ℕ → {W : Type ℓ} → Reader W → W → List ℕ → Reading W
read_by zero f w bytes = waits w bytes
read_by (suc d) f w bytes =
    elim (first_record record_limit bytes) [
      | Nothing ↦ waits w []
      | Cut ↦ waits w bytes
      | TooLong ↦ stops_at f w
      | Whole n ↦ elim (f.turn w (take n bytes)) [ prints text v ↦ printed_before text (read_by d f v (drop n bytes)) | stops ↦ stops_at f w ]
    ]

unfoldable pub read {ℓ} : {W : Type ℓ} → Reader W → W → List ℕ → Reading W
read f w bytes = read_by (length bytes) f w bytes

-- what the end of the input adds: a record that is not whole is malformed
unfoldable pub end_text {ℓ} : {W : Type ℓ} → Reader W → Reading W → List ℕ
end_text f r = elim r.rest [ [] ↦ [] | b ∷ bs ↦ record_line (f.number r.left) ]
