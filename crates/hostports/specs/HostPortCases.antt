-- Worked cases of one host-port (document 02, Item 10), as one statement over a list of cases.
use Rattle.std.specs.Prelude.{ℕ, ◌+◌, ◌*◌, ◌≡◌, List, [], ◌∷◌, length}
use Rattle.octets.specs.Cases.{AllHold}
use Rattle.hostports.specs.HostPort.{read_as, host_port_at, refusal_number}

pub data Case : Type 0 where
  -- the text is a host-port with this address and this port
  accepted : List ℕ → ℕ → ℕ → Case
  -- the text is malformed
  refused : List ℕ → Case

abbrev pub Holds : Case → Type 0
Holds (accepted text address port) = host_port_at text 0 ≡ read_as (address * 65536 + port) (length text)
Holds (refused text) = refusal_number (host_port_at text 0) ≡ 41

abbrev pub cases : List Case
cases =
    -- 0,0,0,0,0,1
    accepted (48 ∷ 44 ∷ 48 ∷ 44 ∷ 48 ∷ 44 ∷ 48 ∷ 44 ∷ 48 ∷ 44 ∷ 49 ∷ []) 0 1
    -- 10,0,0,1,0,21
    ∷ accepted (49 ∷ 48 ∷ 44 ∷ 48 ∷ 44 ∷ 48 ∷ 44 ∷ 49 ∷ 44 ∷ 48 ∷ 44 ∷ 50 ∷ 49 ∷ []) 167772161 21
    -- 10,0,0,1,4,0
    ∷ accepted (49 ∷ 48 ∷ 44 ∷ 48 ∷ 44 ∷ 48 ∷ 44 ∷ 49 ∷ 44 ∷ 52 ∷ 44 ∷ 48 ∷ []) 167772161 1024
    -- 255,255,255,255,255,255
    ∷ accepted (50 ∷ 53 ∷ 53 ∷ 44 ∷ 50 ∷ 53 ∷ 53 ∷ 44 ∷ 50 ∷ 53 ∷ 53 ∷ 44 ∷ 50 ∷ 53 ∷ 53 ∷ 44 ∷ 50 ∷ 53 ∷ 53 ∷ 44 ∷ 50 ∷ 53 ∷ 53 ∷ []) 4294967295 65535
    -- 010,0,0,1,0,21
    ∷ refused (48 ∷ 49 ∷ 48 ∷ 44 ∷ 48 ∷ 44 ∷ 48 ∷ 44 ∷ 49 ∷ 44 ∷ 48 ∷ 44 ∷ 50 ∷ 49 ∷ [])
    -- 10,00,0,1,0,21
    ∷ refused (49 ∷ 48 ∷ 44 ∷ 48 ∷ 48 ∷ 44 ∷ 48 ∷ 44 ∷ 49 ∷ 44 ∷ 48 ∷ 44 ∷ 50 ∷ 49 ∷ [])
    -- 10,0,0,1,010,21
    ∷ refused (49 ∷ 48 ∷ 44 ∷ 48 ∷ 44 ∷ 48 ∷ 44 ∷ 49 ∷ 44 ∷ 48 ∷ 49 ∷ 48 ∷ 44 ∷ 50 ∷ 49 ∷ [])
    -- 10,0,0,1,0,00
    ∷ refused (49 ∷ 48 ∷ 44 ∷ 48 ∷ 44 ∷ 48 ∷ 44 ∷ 49 ∷ 44 ∷ 48 ∷ 44 ∷ 48 ∷ 48 ∷ [])
    -- 10,0,0,1,0,0
    ∷ refused (49 ∷ 48 ∷ 44 ∷ 48 ∷ 44 ∷ 48 ∷ 44 ∷ 49 ∷ 44 ∷ 48 ∷ 44 ∷ 48 ∷ [])
    ∷ []

abbrev pub HostPortCases : Type 0
HostPortCases = AllHold Holds cases
