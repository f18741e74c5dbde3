-- Every arrival of every well-formed sending: the last sentence of demand 3, a field for each of its parts (document 01; document 02, Item 3).
use Rattle.std.specs.Prelude.{ℕ, suc, ◌+◌, ◌≤◌, ◌<◌, ◌≡◌, ◌↔◌, ◌⊎◌, List, ◌∷◌, ◌++◌, length, get_or}
use Rattle.ledger.specs.Pairs.{Pairs, size}
use Rattle.transfer.specs.Transfer.{World, guess, result, suspect, verdict_of}
use Rattle.transfer.specs.Receive.{took}
use Rattle.transfer.specs.Calls.{Call, receive, call_of, after}
use Rattle.transfer.specs.Block.{doubtful_in, with_payloads}
use Rattle.transfer.specs.AfterList.{StartedWith, HasByte, PayloadsInFile}
use Rattle.transfer.specs.Sending.{SentChannel, sent_blocks, non_empty_payloads, WellFormed, Arrival, total_piece_bytes}

-- every byte of every piece of the list is taken
abbrev pub AllTaken : World → List Call → Type 0
AllTaken w ks = (pre post : List Call) (c b : ℕ) (bs : List ℕ) → ks ≡ pre ++ (receive c (b ∷ bs) ∷ post) → (call_of (after w pre) (receive c (b ∷ bs))).0 ≡ took (suc (length bs))

pub record Arrives (w : World) (file : List ℕ) (s : List SentChannel) (ks : List Call) : Type 0 where
  pub all_taken : AllTaken w ks
  -- GUESS until the last byte is taken, then SUSPECT exactly when a payload that is not empty has bit 32, and RESULT exactly when none has,
  -- wherever the pieces are cut and empty pieces come
  pub shows_guess : (pre post : List Call) → ks ≡ pre ++ post → total_piece_bytes pre < total_piece_bytes ks → verdict_of (after w pre) ≡ guess
  pub shows_suspect : (pre post : List Call) → ks ≡ pre ++ post → total_piece_bytes pre ≡ total_piece_bytes ks
      → (verdict_of (after w pre) ≡ suspect) ↔ (0 < non_empty_payloads (doubtful_in (sent_blocks s)))
  pub shows_result : (pre post : List Call) → ks ≡ pre ++ post → total_piece_bytes pre ≡ total_piece_bytes ks
      → (verdict_of (after w pre) ≡ result) ↔ (non_empty_payloads (doubtful_in (sent_blocks s)) ≡ 0)
  -- one end file for all arrivals: the starting file with the payloads in place
  pub file_is : (after w ks).lent.file ≡ with_payloads (sent_blocks s) file
  -- place by place: each payload is in it, and any other place has its starting byte
  pub payloads_in_file : PayloadsInFile (after w ks).lent.file (sent_blocks s)
  pub rest_stays : (p : ℕ) → ((v : ℕ) → HasByte p v (sent_blocks s) → ⊥) → get_or (after w ks).lent.file p 0 ≡ get_or file p 0

pub record EveryArrival : Type 0 where
  pub arrives : (w : World) (file : List ℕ) (R : ℕ) (before : Pairs) → StartedWith w file R before → (s : List SentChannel) → WellFormed (length file) R before s → (ks : List Call) → Arrival s ks
      → Arrives w file s ks
  -- every sending has an arrival
  pub has_arrival : (s : List SentChannel) → (ks : List Call) × Arrival s ks
  -- no sending is left out: what is taken whole and ends with RESULT or SUSPECT is a well-formed sending, for ledgers with a pair for each payload
  -- that is not empty and for each range held before
  pub only_well_formed : (w : World) (file : List ℕ) (R : ℕ) (before : Pairs) → StartedWith w file R before → (ks : List Call) → AllTaken w ks
      → (verdict_of (after w ks) ≡ result) ⊎ (verdict_of (after w ks) ≡ suspect)
      → (s : List SentChannel) × Arrival s ks × ((r : ℕ) → non_empty_payloads (sent_blocks s) + size before ≤ r → WellFormed (length file) r before s)
