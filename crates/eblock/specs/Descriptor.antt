-- The descriptor of an extended block (document 01, "The block"): which of its 256 values are accepted, and the fault of each other.
use Rattle.std.specs.Prelude.{ℕ, ◌/◌, ◌%◌, Bool, cond, ◌&&◌, ◌||◌, not, eqb}

-- the bit of that weight is set in d
unfoldable pub has : ℕ → ℕ → Bool
has bit d = eqb (d / bit % 2) 1

-- the six bits that have a meaning; 1 and 2 have none
abbrev pub end_of_record : ℕ
end_of_record = 128

-- EODC, the count of end markers
abbrev pub eodc : ℕ
eodc = 64

abbrev pub suspected : ℕ
suspected = 32

abbrev pub restart_marker : ℕ
restart_marker = 16

-- EOD, the end of data on this channel
abbrev pub end_of_data : ℕ
end_of_data = 8

abbrev pub sender_closes : ℕ
sender_closes = 4

-- the sender closes without having ended its data
abbrev pub closes_early : ℕ → Bool
closes_early d = has sender_closes d && not (has end_of_data d)

-- a count has no payload that could be suspected
abbrev pub suspects_count : ℕ → Bool
suspects_count d = has eodc d && has suspected d

-- the fault of a descriptor, 0 where it is accepted: a bit without a meaning, a bit that is not accepted, bits that contradict each other
unfoldable pub fault_of : ℕ → ℕ
fault_of d =
    cond (has 1 d || has 2 d) 11
    (cond (has end_of_record d || has restart_marker d) 12
    (cond (closes_early d || suspects_count d) 13 0))
