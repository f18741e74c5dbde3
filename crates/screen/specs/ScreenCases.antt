-- Worked cases of the screen line: document 01's example call by call, its broken line, one with a payload under way, and three with bit 32, of which one is document 02's, as one statement over a list of cases.
use Rattle.std.specs.Prelude.{ℕ, ◌-◌, ◌≡◌, Ok, Err, List, [], ◌∷◌, ◌++◌, length, replicate}
use Rattle.octets.specs.Cases.{AllHold}
use Rattle.eblock.specs.Header.{header_bytes}
use Rattle.transfer.specs.Calls.{Call, receive, started_world, after}
use Rattle.transfer.specs.Example.{plai, first_call, second_call, third_call}
use Rattle.screen.specs.Screen.{line_of, screen_of, screen_after}

-- from a file of so many bytes and ledgers of one pair, the calls leave this line
pub record Case : Type 0 where
  pub bytes : ℕ
  pub calls : List Call
  pub line : List ℕ

-- n lent bytes, filled so that unchanged ones show
abbrev pub filled : ℕ → List ℕ
filled n = replicate n 238

abbrev pub Holds : Case → Type 0
Holds k =
    let w = after (started_world (replicate k.bytes 0) (replicate 2 7) (replicate 2 7)) k.calls in
    let n = length k.line in
    (line_of w ≡ k.line)
    × (screen_of w.t w.lent.claimed w.lent.doubtful (filled 50) ≡ Ok n)
    × (screen_after w.t w.lent.claimed w.lent.doubtful (filled 50) ≡ k.line ++ filled (50 - n))
    -- one byte less than it has
    × (screen_of w.t w.lent.claimed w.lent.doubtful (filled (n - 1)) ≡ Err 55)

-- GUESS ended 0 of ? bytes 4
abbrev pub first_line : List ℕ
first_line = 71 ∷ 85 ∷ 69 ∷ 83 ∷ 83 ∷ 32 ∷ 101 ∷ 110 ∷ 100 ∷ 101 ∷ 100 ∷ 32 ∷ 48 ∷ 32 ∷ 111 ∷ 102 ∷ 32 ∷ 63 ∷ 32 ∷ 98 ∷ 121 ∷ 116 ∷ 101 ∷ 115 ∷ 32 ∷ 52 ∷ 10 ∷ []

-- GUESS ended 1 of ? bytes 8
abbrev pub second_line : List ℕ
second_line = 71 ∷ 85 ∷ 69 ∷ 83 ∷ 83 ∷ 32 ∷ 101 ∷ 110 ∷ 100 ∷ 101 ∷ 100 ∷ 32 ∷ 49 ∷ 32 ∷ 111 ∷ 102 ∷ 32 ∷ 63 ∷ 32 ∷ 98 ∷ 121 ∷ 116 ∷ 101 ∷ 115 ∷ 32 ∷ 56 ∷ 10 ∷ []

-- RESULT ended 2 of 2 bytes 8
abbrev pub third_line : List ℕ
third_line = 82 ∷ 69 ∷ 83 ∷ 85 ∷ 76 ∷ 84 ∷ 32 ∷ 101 ∷ 110 ∷ 100 ∷ 101 ∷ 100 ∷ 32 ∷ 50 ∷ 32 ∷ 111 ∷ 102 ∷ 32 ∷ 50 ∷ 32 ∷ 98 ∷ 121 ∷ 116 ∷ 101 ∷ 115 ∷ 32 ∷ 56 ∷ 10 ∷ []

-- BROKEN 17 on 1 bytes 4
abbrev pub broken_line : List ℕ
broken_line = 66 ∷ 82 ∷ 79 ∷ 75 ∷ 69 ∷ 78 ∷ 32 ∷ 49 ∷ 55 ∷ 32 ∷ 111 ∷ 110 ∷ 32 ∷ 49 ∷ 32 ∷ 98 ∷ 121 ∷ 116 ∷ 101 ∷ 115 ∷ 32 ∷ 52 ∷ 10 ∷ []

-- GUESS ended 0 of 2 bytes 2
abbrev pub under_way_line : List ℕ
under_way_line = 71 ∷ 85 ∷ 69 ∷ 83 ∷ 83 ∷ 32 ∷ 101 ∷ 110 ∷ 100 ∷ 101 ∷ 100 ∷ 32 ∷ 48 ∷ 32 ∷ 111 ∷ 102 ∷ 32 ∷ 50 ∷ 32 ∷ 98 ∷ 121 ∷ 116 ∷ 101 ∷ 115 ∷ 32 ∷ 50 ∷ 10 ∷ []

-- SUSPECT ended 1 of 1 bytes 4 doubtful 4
abbrev pub suspect_line : List ℕ
suspect_line = 83 ∷ 85 ∷ 83 ∷ 80 ∷ 69 ∷ 67 ∷ 84 ∷ 32 ∷ 101 ∷ 110 ∷ 100 ∷ 101 ∷ 100 ∷ 32 ∷ 49 ∷ 32 ∷ 111 ∷ 102 ∷ 32 ∷ 49 ∷ 32 ∷ 98 ∷ 121 ∷ 116 ∷ 101 ∷ 115 ∷ 32 ∷ 52 ∷ 32 ∷ 100 ∷ 111 ∷ 117 ∷ 98 ∷ 116 ∷ 102 ∷ 117 ∷ 108 ∷ 32 ∷ 52 ∷ 10 ∷ []

-- SUSPECT ended 3 of 3 bytes 90 doubtful 5
abbrev pub three_ended_line : List ℕ
three_ended_line = 83 ∷ 85 ∷ 83 ∷ 80 ∷ 69 ∷ 67 ∷ 84 ∷ 32 ∷ 101 ∷ 110 ∷ 100 ∷ 101 ∷ 100 ∷ 32 ∷ 51 ∷ 32 ∷ 111 ∷ 102 ∷ 32 ∷ 51 ∷ 32 ∷ 98 ∷ 121 ∷ 116 ∷ 101 ∷ 115 ∷ 32 ∷ 57 ∷ 48 ∷ 32 ∷ 100 ∷ 111 ∷ 117 ∷ 98 ∷ 116 ∷ 102 ∷ 117 ∷ 108 ∷ 32 ∷ 53 ∷ 10 ∷ []

-- GUESS ended 0 of ? bytes 1
abbrev pub doubt_under_way_line : List ℕ
doubt_under_way_line = 71 ∷ 85 ∷ 69 ∷ 83 ∷ 83 ∷ 32 ∷ 101 ∷ 110 ∷ 100 ∷ 101 ∷ 100 ∷ 32 ∷ 48 ∷ 32 ∷ 111 ∷ 102 ∷ 32 ∷ 63 ∷ 32 ∷ 98 ∷ 121 ∷ 116 ∷ 101 ∷ 115 ∷ 32 ∷ 49 ∷ 10 ∷ []

abbrev three_ended : List Call
three_ended =
    receive 0 (header_bytes 32 5 0 ++ replicate 5 9) ∷ receive 1 (header_bytes 8 85 5 ++ replicate 85 9) ∷ receive 2 (header_bytes 8 0 0) ∷ receive 0 (header_bytes 72 0 3) ∷ []

abbrev pub cases : List Case
cases =
    record { bytes = 8; calls = first_call ∷ []; line = first_line }
    ∷ record { bytes = 8; calls = first_call ∷ second_call ∷ []; line = second_line }
    ∷ record { bytes = 8; calls = first_call ∷ second_call ∷ third_call ∷ []; line = third_line }
    -- bytes 3 and 4 asked for on channel 1, of which 3 is claimed
    ∷ record { bytes = 8; calls = first_call ∷ receive 1 (header_bytes 0 2 3) ∷ []; line = broken_line }
    -- a count known, and two bytes of a payload of four
    ∷ record { bytes = 8; calls = receive 0 (header_bytes 64 0 2) ∷ receive 1 (header_bytes 0 4 0 ++ (112 ∷ 108 ∷ [])) ∷ []; line = under_way_line }
    -- 90 bytes on three channels, the first five with bit 32
    ∷ record { bytes = 90; calls = three_ended; line = three_ended_line }
    -- "plai" with bit 32, and the count; and one byte of it, where no doubt shows
    ∷ record { bytes = 8; calls = receive 0 (header_bytes 32 4 0 ++ plai) ∷ receive 0 (header_bytes 72 0 1) ∷ []; line = suspect_line }
    ∷ record { bytes = 8; calls = receive 0 (header_bytes 32 4 0 ++ (112 ∷ [])) ∷ []; line = doubt_under_way_line }
    ∷ []

abbrev pub ScreenCases : Type 0
ScreenCases = AllHold Holds cases
