-- FIT as propositions, a field for each phrase of it (document 01, "One transfer"); that every byte keeps it, and ends a channel only below the count.
use Rattle.std.specs.Prelude.{ℕ, ◌+◌, ◌*◌, ◌≤◌, ◌<◌, ◌≡◌, ◌↔◌, ◌⊎◌, ◌≢◌, true, cond, List, eqb, length, get_or}
use Rattle.ledger.specs.Ledgers.{Obeys}
use Rattle.transfer.specs.declared.state.Channel.{Channel}
use Rattle.transfer.specs.declared.state.Transfer.{Transfer}
use Rattle.transfer.specs.Channel.{ended, channel_at, state_at}
use Rattle.transfer.specs.Transfer.{sum, ended_of, used_of, World, world, is_doubted, doubt_of}
use Rattle.transfer.specs.Receive.{after_byte, take_byte, take_bytes}
use Rattle.transfer.specs.Calls.{Call, call_of}
use Rattle.transfer.specs.Fit.{fits_without_file, fits}

abbrev pub InHeader : Channel → Type 0
InHeader k = k.state ≡ 1

abbrev pub InPayload : Channel → Type 0
InPayload k = (k.state ≡ 2) ⊎ (k.state ≡ 3)

-- the place p is one of the bytes left of a payload
abbrev pub Awaits : Channel → ℕ → Type 0
Awaits k p = InPayload k × (k.next ≤ p) × (p < k.next + k.left)

-- n is unknown, or in 1 to 64 with used at most n
abbrev pub CountSays : Transfer → Type 0
CountSays t = (t.count ≡ 0) ⊎ ((0 < t.count) × (t.count ≤ 64) × (used_of t ≤ t.count))

-- the fault, if any, is 11 to 19 on a channel below 64
abbrev pub FaultSays : Transfer → Type 0
FaultSays t = ((t.fault ≡ 0) × (t.on ≡ 0)) ⊎ ((11 ≤ t.fault) × (t.fault ≤ 19) × (t.on < 64))

pub record Fit (w : World) : Type 0 where
  -- the file has F bytes
  pub file : length w.lent.file ≡ w.t.len
  -- the claimed ledger has 2R entries, R at most 4,096, and obeys its rule, with no end above F
  pub entries : length w.lent.claimed ≡ 2 * w.t.pairs
  pub pairs : w.t.pairs ≤ 4096
  pub rule : Obeys w.t.pairs w.lent.claimed
  pub ends : (i : ℕ) → get_or w.lent.claimed (2 * i + 1) 0 ≤ w.t.len
  -- the doubtful ledger is as long, obeys the ledger rule, and has no range that a claimed one does not enclose (document 02, Item 3)
  pub doubtful_entries : length w.lent.doubtful ≡ 2 * w.t.pairs
  pub doubtful_rule : Obeys w.t.pairs w.lent.doubtful
  pub doubtful_inside : (i : ℕ) → 0 < get_or w.lent.doubtful (2 * i + 1) 0
      → (j : ℕ) × (get_or w.lent.claimed (2 * j) 0 ≤ get_or w.lent.doubtful (2 * i) 0) × (get_or w.lent.doubtful (2 * i + 1) 0 ≤ get_or w.lent.claimed (2 * j + 1) 0)
  -- there are 64 channels with 16 held bytes each, and their states are those of the struct
  pub channels : length w.t.channels ≡ 64
  pub heads : length w.t.heads ≡ 1024
  pub states : (c : ℕ) → c < 64 → (channel_at w.t c).state ≤ 4
  -- each payload has 1 or more bytes left, inside one claimed range
  pub left : (c : ℕ) → c < 64 → InPayload (channel_at w.t c) → 0 < (channel_at w.t c).left
  pub inside : (c : ℕ) → c < 64 → InPayload (channel_at w.t c)
      → (i : ℕ) × (get_or w.lent.claimed (2 * i) 0 ≤ (channel_at w.t c).next) × ((channel_at w.t c).next + (channel_at w.t c).left ≤ get_or w.lent.claimed (2 * i + 1) 0)
  -- no two such rests share a byte
  pub apart : (c d p : ℕ) → c < d → d < 64 → Awaits (channel_at w.t c) p → Awaits (channel_at w.t d) p → ⊥
  -- no header holds more than 16 bytes
  pub held : (c : ℕ) → c < 64 → InHeader (channel_at w.t c) → (channel_at w.t c).held ≤ 16
  -- whatever isn't in use is 0: held bytes but in a header, and past those that are held; next place and bytes left but in a payload
  pub none_held : (c : ℕ) → c < 64 → (InHeader (channel_at w.t c) → ⊥) → (channel_at w.t c).held ≡ 0
  pub bytes_zero : (c i : ℕ) → c < 64 → (channel_at w.t c).held ≤ i → i < 16 → get_or w.t.heads (16 * c + i) 0 ≡ 0
  pub rest_zero : (c : ℕ) → c < 64 → (InPayload (channel_at w.t c) → ⊥) → ((channel_at w.t c).next ≡ 0) × ((channel_at w.t c).left ≡ 0)
  pub count : CountSays w.t
  pub fault : FaultSays w.t

-- a byte on channel c leads from w to v: where it ends the channel and a count n is known then, fewer than n have ended before it
abbrev pub EndsBelowCount : World → World → ℕ → Type 0
EndsBelowCount w v c = state_at w.t c ≢ ended → state_at v.t c ≡ ended → 0 < v.t.count → ended_of w.t < v.t.count

pub record Fitting : Type 0 where
  -- FIT without the file, which the screen line tests: with every file of F bytes they fit
  pub without_file : (t : Transfer) (claimed doubtful : List ℕ)
      → (fits_without_file t claimed doubtful ≡ true) ↔ ((file : List ℕ) → length file ≡ t.len → Fit (world t file claimed doubtful))
  pub says : (w : World) → (fits w ≡ true) ↔ Fit w
  -- a doubtful range is there exactly where doubtful bytes are
  pub doubted_is : (w : World) → Fit w → (is_doubted w ≡ true) ↔ (0 < doubt_of w)
  -- used are the channels not unused
  pub used_are : (w : World) → Fit w → used_of w.t ≡ sum (λ (k : Channel). cond (eqb k.state 0) 0 1) w.t.channels
  -- every byte on every channel keeps it, in any world that fits, and so does every call
  pub byte_keeps : (w : World) (c b : ℕ) → Fit w → c < 64 → Fit (after_byte (take_byte w c b))
  pub call_keeps : (w : World) (k : Call) → Fit w → Fit (call_of w k).1
  -- a byte that ends its channel finds fewer than n ended, in any world that fits, and so does every byte of a call, bs being those before it
  pub byte_ends : (w : World) (c b : ℕ) → Fit w → c < 64 → EndsBelowCount w (after_byte (take_byte w c b)) c
  pub call_ends : (w : World) (c b : ℕ) (bs : List ℕ) → Fit w → c < 64
      → let v = (take_bytes (λ u x. take_byte u c x) w bs 0).1 in EndsBelowCount v (after_byte (take_byte v c b)) c
  -- no call on a fitting transfer reaches a channel's end with n channels ended already (document 02, Item 8)
  pub never_too_many : (w : World) (c b : ℕ) (bs : List ℕ) → Fit w → c < 64
      → let v = (take_bytes (λ u x. take_byte u c x) w bs 0).1 in
      let n = (after_byte (take_byte v c b)).t.count in
      state_at v.t c ≢ ended → state_at (after_byte (take_byte v c b)).t c ≡ ended → 0 < n → ended_of v.t ≢ n
