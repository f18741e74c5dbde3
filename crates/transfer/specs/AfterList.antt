-- What holds after every list of receive calls: demand 3 but for its last sentence, a field for each sentence (document 01; document 02, Item 3).
use Rattle.std.specs.Prelude.{ℕ, ◌+◌, ◌*◌, ◌/◌, ◌%◌, ◌≤◌, ◌<◌, ◌≡◌, ◌↔◌, ◌⊎◌, true, List, [], ◌∷◌, ◌++◌, length, get_or, take, drop}
use Rattle.ledger.specs.Pairs.{Pairs, none, total, contains}
use Rattle.ledger.specs.Ledger.{capacity, obeys, laid_out, Contains}
use Rattle.transfer.specs.Channel.{state_at}
use Rattle.transfer.specs.Transfer.{sum, ended_of, World, guess, result, suspect, broken, verdict_of, stored_of, doubt_of, start_refusal}
use Rattle.transfer.specs.Receive.{Answer}
use Rattle.transfer.specs.Fit.{fits}
use Rattle.transfer.specs.Calls.{Call, fold_calls, started_world, answers_of, after}
use Rattle.transfer.specs.Block.{Block, place_of, size_of, claims_in, doubtful_in, with_payloads, bytes_in}
use Rattle.transfer.specs.Tally.{Tally, blocks_of, counts_of, known_count, ended_in, empty, stream_at, tally_call}
use Rattle.transfer.specs.StateFrom.{state_from}

-- the world w is what an accepted start leaves, with a file and ledgers of R pairs, the claimed one with these ranges: none, until a transfer can be
-- resumed
pub data StartedWith : World → List ℕ → ℕ → Pairs → Type 0 where
  fresh_start : (file claimed doubtful : List ℕ) → start_refusal claimed doubtful ≡ 0 → StartedWith (started_world file claimed doubtful) file (capacity claimed) none

-- the tally of the same list, and its answers
abbrev pub tally_of : ℕ → ℕ → Pairs → List Call → Tally
tally_of F R before ks = (fold_calls (tally_call F R before) empty ks).1

abbrev pub tally_answers : ℕ → ℕ → Pairs → List Call → List Answer
tally_answers F R before ks = (fold_calls (tally_call F R before) empty ks).0

-- the accepted blocks hold one count n, and exactly n channels have ended
abbrev pub Complete : Tally → Type 0
Complete t = (n : ℕ) × (counts_of t.streams ≡ n ∷ []) × (ended_in t.streams ≡ n)

-- one of the blocks has the payload byte v for the place p
abbrev pub HasByte : ℕ → ℕ → List Block → Type 0
HasByte p v [] = ⊥
HasByte p v (x ∷ xs) = ((i : ℕ) × (i < length x.body) × (p ≡ place_of x + i) × (v ≡ get_or x.body i 0)) ⊎ HasByte p v xs

-- each of the blocks is whole, and its payload is that part of the file
abbrev pub PayloadsInFile : List ℕ → List Block → Type 0
PayloadsInFile file [] = Unit
PayloadsInFile file (x ∷ xs) = (length x.body ≡ size_of x) × (take (size_of x) (drop (place_of x) file) ≡ x.body) × PayloadsInFile file xs

-- one of the blocks claims the place p, arrived or not
abbrev pub ClaimsPlace : ℕ → List Block → Type 0
ClaimsPlace p [] = ⊥
ClaimsPlace p (x ∷ xs) = ((place_of x ≤ p) × (p < place_of x + size_of x)) ⊎ ClaimsPlace p xs

-- a place is doubtful: one of the blocks with bit 32 claims it
abbrev pub HasDoubt : Tally → Type 0
HasDoubt t = (p : ℕ) × ClaimsPlace p (doubtful_in (blocks_of t.streams))

-- the ledger of R pairs with what these blocks claim and what was claimed before
pub record LedgerIs (R : ℕ) (before : Pairs) (ledger : List ℕ) (xs : List Block) : Type 0 where
  pub is : ledger ≡ laid_out R (claims_in xs before)
  -- it has 2R entries, obeys the rule and holds exactly the claimed places; no other does
  pub entries : length ledger ≡ 2 * R
  pub rule : obeys ledger ≡ true
  pub places : (p : ℕ) → Contains p ledger ↔ (ClaimsPlace p xs ⊎ (contains p before ≡ 1))
  pub only : (m : List ℕ) → length m ≡ 2 * R → obeys m ≡ true → ((p : ℕ) → Contains p m ↔ (ClaimsPlace p xs ⊎ (contains p before ≡ 1))) → m ≡ ledger

-- w is the world after the list, t its tally
pub record AfterList (R : ℕ) (before : Pairs) (file : List ℕ) (w : World) (t : Tally) : Type 0 where
  -- BROKEN exactly when a fault has come
  pub broken_is : (verdict_of w ≡ broken) ↔ (0 < t.fault)
  -- otherwise, exactly when one count n is known and n channels have ended: SUSPECT where a place is doubtful, RESULT where none is
  pub suspect_is : (verdict_of w ≡ suspect) ↔ ((t.fault ≡ 0) × Complete t × HasDoubt t)
  pub result_is : (verdict_of w ≡ result) ↔ ((t.fault ≡ 0) × Complete t × (HasDoubt t → ⊥))
  -- otherwise GUESS
  pub guess_is : (verdict_of w ≡ guess) ↔ ((t.fault ≡ 0) × (Complete t → ⊥))
  -- the file is the starting file with every payload byte taken at its place: each place that one names lies in the file and has it, any other has
  -- its starting byte, and the length stays
  pub file_taken : (p v : ℕ) → HasByte p v (blocks_of t.streams) → (p < length file) × (get_or w.lent.file p 0 ≡ v)
  pub file_rest : (p : ℕ) → ((v : ℕ) → HasByte p v (blocks_of t.streams) → ⊥) → get_or w.lent.file p 0 ≡ get_or file p 0
  pub file_length : length w.lent.file ≡ length file
  pub file_is : w.lent.file ≡ with_payloads (blocks_of t.streams) file
  -- the byte count is their number, and that of the bytes in the ranges held from the beginning, 0 until a transfer can be resumed
  pub bytes_are : stored_of w ≡ bytes_in (blocks_of t.streams) + total before
  -- the doubtful bytes are those of the payloads with bit 32, arrived or not
  pub doubt_is : doubt_of w ≡ sum size_of (doubtful_in (blocks_of t.streams))
  -- the fault's number and channel, the count, the number of channels that have ended and both ledgers are the tally's
  pub fault_is : (w.t.fault ≡ t.fault) × (w.t.on ≡ t.on)
  pub count_is : w.t.count ≡ known_count t.streams
  pub ended_is : ended_of w.t ≡ ended_in t.streams
  pub claimed_is : LedgerIs R before w.lent.claimed (blocks_of t.streams)
  pub doubtful_is : LedgerIs R none w.lent.doubtful (doubtful_in (blocks_of t.streams))
  -- each channel's state is that of its bytes; after a fault in its header nothing is held of that
  pub channels_are : (c : ℕ) → c < 64 → state_at w.t c ≡ state_from (stream_at t c)
  -- from RESULT or SUSPECT on every accepted payload is whole in the file
  pub payloads_in_file : Complete t → PayloadsInFile w.lent.file (blocks_of t.streams)
  -- transfer, file and ledgers fit
  pub fits_still : fits w ≡ true

pub record Unchanged (v w : World) : Type 0 where
  pub verdict : verdict_of w ≡ verdict_of v
  pub file : w.lent.file ≡ v.lent.file
  pub claimed : w.lent.claimed ≡ v.lent.claimed
  pub doubtful : w.lent.doubtful ≡ v.lent.doubtful
  pub bytes : stored_of w ≡ stored_of v
  pub doubt : doubt_of w ≡ doubt_of v

pub record EveryList : Type 0 where
  -- every file and any two ledgers of one length, even and up to 8,192 entries, begin
  pub begins : (file claimed doubtful : List ℕ) → length claimed % 2 ≡ 0 → length claimed ≤ 8192 → length doubtful ≡ length claimed
      → StartedWith (started_world file claimed doubtful) file (length claimed / 2) none
  pub answers_are : (w : World) (file : List ℕ) (R : ℕ) (before : Pairs) → StartedWith w file R before → (ks : List Call) → answers_of w ks ≡ tally_answers (length file) R before ks
  pub after_list : (w : World) (file : List ℕ) (R : ℕ) (before : Pairs) → StartedWith w file R before → (ks : List Call)
      → AfterList R before file (after w ks) (tally_of (length file) R before ks)
  -- stored bytes stay stored and counted: a payload byte taken at its place is there after any further calls
  pub kept : (w : World) (file : List ℕ) (R : ℕ) (before : Pairs) → StartedWith w file R before → (ks more : List Call) (p v : ℕ)
      → HasByte p v (blocks_of (tally_of (length file) R before ks).streams) → HasByte p v (blocks_of (tally_of (length file) R before (ks ++ more)).streams)
  pub counted : (w : World) (file : List ℕ) (R : ℕ) (before : Pairs) → StartedWith w file R before → (ks more : List Call)
      → stored_of (after w ks) ≤ stored_of (after w (ks ++ more))
  -- from RESULT or SUSPECT on no receive call changes verdict, file, a ledger or a byte count
  pub final : (w : World) (file : List ℕ) (R : ℕ) (before : Pairs) → StartedWith w file R before → (ks : List Call) → Complete (tally_of (length file) R before ks) → (more : List Call)
      → Unchanged (after w ks) (after w (ks ++ more))
