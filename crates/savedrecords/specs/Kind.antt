-- The kinds of saved ledger (document 01, "Saved ledger, kind 1"; document 02, Item 7), as values of one description: the number that the frame has, whether
-- the file length comes before the pairs, and what the second number of a pair is.
--
--     length of all that follows   kind      file length            start     end, or length
--     4 bytes                      2 bytes   8 bytes, in kind 2     8 bytes   8 bytes            for each pair
use Rattle.std.specs.Prelude.{ℕ, ◌+◌, ◌-◌, true, false, cond}
use Rattle.savedrecords.specs.declared.kind.Kind.{Kind}
use Rattle.savedrecords.specs.declared.kind.SecondNumber.{SecondNumber}
use Rattle.savedrecords.specs.declared.kind.SecondNumber.TheVariants.{End, Length}

-- start and end of each pair
abbrev pub kind_one : Kind
kind_one = record { number = 1; sized = false; second = End }

-- the file length, then start and length of each pair
abbrev pub kind_two : Kind
kind_two = record { number = 2; sized = true; second = Length }

-- how many bytes come before the pairs
abbrev pub head_length : Kind → ℕ
head_length kind = cond kind.sized 8 0

-- where a pair ends whose numbers are a and s, in whole numbers
abbrev pub end_of : SecondNumber → ℕ → ℕ → ℕ
end_of End a s = s
end_of Length a s = a + s

-- the second number of a pair from a to e
abbrev pub second_of : SecondNumber → ℕ → ℕ → ℕ
second_of End a e = e
second_of Length a e = e - a
