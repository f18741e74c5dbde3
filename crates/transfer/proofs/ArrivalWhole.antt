-- Every arrival of a well-formed sending is taken whole, shows GUESS until its last byte and then RESULT or SUSPECT, and leaves the file that was sent.
use Prim.Native.Nat.{ℕ, zero, suc, ◌≤◌, ◌<◌}
use mathlib.Core.Path.{◌≡◌, refl, sym, ap, ◌∙◌}
use mathlib.Core.Logic.{◌↔◌, inl, inr}
use mathlib.Core.Bool.{cond}
use mathlib.Core.List.{List, [], ◌∷◌, ◌++◌, append-nil}
use native.Mathlib.Omega.{arith}
use native.Mathlib.Decide.{dec_lt}
use borrow.Author.Tests.{lt-ltb, le-ltb}
use lib.Dec.{eqb}
use lib.ListN.{length, get_or}
use Rattle.ledger.specs.Pairs.{Pairs, size, ObeyFrom}
use Rattle.transfer.specs.Transfer.{World, Verdict, guess, result, suspect, broken, verdict_of}
use Rattle.transfer.specs.Receive.{took}
use Rattle.transfer.specs.Fit.{pair_limit}
use Rattle.transfer.specs.Calls.{Call, receive, call_of, after}
use Rattle.transfer.specs.Block.{Block, size_of, doubtful_in, with_payloads}
use Rattle.transfer.specs.Tally.{Tally, blocks_of, doubted, tally_verdict, empty}
use Rattle.transfer.specs.AfterList.{StartedWith, tally_of, HasByte}
use Rattle.transfer.specs.Sending.{SentChannel, WellFormedBlocks, WellFormedChannels, sent_blocks, non_empty_payloads, WellFormed, pieces_on, Arrival, total_piece_bytes}
use Rattle.transfer.specs.Arrivals.{Arrives}
use Rattle.transfer.proofs.TallyTransfer.{world_of}
use Rattle.transfer.proofs.TallyInvariant.{Invariant}
use Rattle.transfer.proofs.TallyCalls.{verdict-is, call}
use Rattle.transfer.proofs.BlockDoubts.{if_doubtful, sum-doubtful}
use Rattle.transfer.proofs.BlockPlaces.{by-payload, by-pair}
use Rattle.transfer.proofs.BlockPayloads.{length-with_payloads}
use Rattle.transfer.proofs.BlockBytesInFile.{has-with_payloads, none-with_payloads}
use Rattle.transfer.proofs.CompleteBlocks.{AllWhole, whole-stand}
use Rattle.transfer.proofs.TallyBegins.{begins}
use Rattle.transfer.proofs.TallyFromStart.{world-along}
use Rattle.transfer.proofs.SendingStreams.{streams_of, bytes-all, sum-sent}
use Rattle.transfer.proofs.SendingWellFormed.{Sendable, sendable, sent-bodies, with_payloads-sent}
use Rattle.transfer.proofs.ArrivalSteps.{Way, way-empty, last_word, guess-still, all_there, last_then, call-taken, run-taken}
use Rattle.transfer.proofs.SendingPieces.{offered-append, some-offered, none-offered}

-- ---- the last words differ

result-suspect : result ≡ suspect → ⊥
result-suspect e = let z : ◌≡◌ {A = ℕ} 0 1 = ap code e in omega (arith, z)
  where
    code : Verdict → ℕ
    code guess = 0
    code result = 0
    code suspect = 1
    code broken = 0

none_is : (n : ℕ) → (0 < n → ⊥) → n ≡ 0
none_is zero h = refl
none_is (suc n) h = absurd (h (omega arith))

-- ---- what is sent

pub sent-append : (F : ℕ) (a b : List Block) → WellFormedBlocks F a → WellFormedBlocks F b → WellFormedBlocks F (a ++ b)
sent-append F [] b h k = k
sent-append F (x ∷ a) b h k = (h.0, sent-append F a b h.1 k)

sent-all : (F : ℕ) (s : List SentChannel) → WellFormedChannels F s → WellFormedBlocks F (sent_blocks s)
unfolding sent_blocks
sent-all F [] l = tt
sent-all F (x ∷ s) l = sent-append F x.blocks (sent_blocks s) l.0.each (sent-all F s l.1)

sent-whole : (F : ℕ) (xs : List Block) → WellFormedBlocks F xs → AllWhole xs
sent-whole F [] s = tt
sent-whole F (x ∷ xs) s = (s.0.whole, sent-whole F xs s.1)

sent-inside : (F p v : ℕ) (xs : List Block) → WellFormedBlocks F xs → HasByte p v xs → p < F
sent-inside F p v [] s h = absurd h
sent-inside F p v (x ∷ xs) s (inl h) = omega (arith, h.1, h.2, s.0.whole, s.0.inside (omega (arith, h.1, s.0.whole)))
sent-inside F p v (x ∷ xs) s (inr h) = sent-inside F p v xs s.1 h

-- ---- an arrival

module _ (w : World) (file : List ℕ) (R : ℕ) (before : Pairs) (begun : StartedWith w file R before) (s : List SentChannel) (wf : WellFormed (length file) R before s) (ks : List Call) (arrival : Arrival s ks) where
  abbrev F : ℕ
  F = length file

  abbrev tally : List Call → Tally
  tally pre = tally_of F R before pre

  start : ObeyFrom 0 before × (R ≤ pair_limit) × Invariant F R before empty × (w ≡ world_of F R before file empty)
  start = begins w file R before begun

  sent : Sendable F R before (length s) (streams_of s)
  sent = sendable F R before s wf

  abbrev OnWay : List Call → List Call → Type 0
  OnWay pre post = Way F R before start.0 (length s) (streams_of s) sent (tally pre) post

  way : (pre post : List Call) → ks ≡ pre ++ post → OnWay pre post
  way pre post e =
      run-taken F R before start.0 (length s) (streams_of s) sent pre post empty
      (way-empty F R before start.0 (length s) (streams_of s) sent (pre ++ post) start.2
      (λ c. ap (pieces_on c) (sym e) ∙ arrival c ∙ sym (bytes-all F s wf.each wf.once c)))

  after_is : (pre : List Call) → after w pre ≡ world_of F R before file (tally pre)
  after_is pre = world-along w file R before begun pre

  taken-whole : (pre post : List Call) (c b : ℕ) (bs : List ℕ) → OnWay pre (receive c (b ∷ bs) ∷ post) → (call_of (after w pre) (receive c (b ∷ bs))).0 ≡ took (suc (length bs))
  taken-whole pre post c b bs o =
      ap (λ v. (call_of v (receive c (b ∷ bs))).0) (after_is pre)
      ∙ ap (λ a. a.0) (call F R before file start.0 refl start.1 (tally pre) (receive c (b ∷ bs)) o.kept).out
      ∙ ap (λ a. a.0) (call-taken F R before start.0 (length s) (streams_of s) sent (tally pre) c b bs post o).1

  shown : (pre post : List Call) → OnWay pre post → verdict_of (after w pre) ≡ tally_verdict (tally pre)
  shown pre post o = ap verdict_of (after_is pre) ∙ verdict-is F R before file (tally pre) o.kept

  shown-guess : (pre post : List Call) → OnWay pre post → 0 < total_piece_bytes post → verdict_of (after w pre) ≡ guess
  shown-guess pre post o h =
      let p = some-offered post h in
      shown pre post o ∙ guess-still F R before start.0 (length s) (streams_of s) sent (tally pre) post p.0 p.1 p.2.0 o p.2.1

  shown-last : (pre post : List Call) → OnWay pre post → total_piece_bytes post ≡ 0 → verdict_of (after w pre) ≡ last_word (streams_of s)
  shown-last pre post o h = shown pre post o ∙ last_then F R before start.0 (length s) (streams_of s) sent (tally pre) post o (none-offered post h)

  -- a doubtful range is there where a payload that is not empty has bit 32
  suspected-are : non_empty_payloads (doubtful_in (blocks_of (streams_of s))) ≡ non_empty_payloads (doubtful_in (sent_blocks s))
  suspected-are =
      let one : Block → ℕ = λ x. cond (eqb (size_of x) 0) 0 1 in
      sum-doubtful one (blocks_of (streams_of s)) ∙ sum-sent F (if_doubtful one) s wf.each wf.once ∙ sym (sum-doubtful one (sent_blocks s))

  doubted-where : (0 < size (doubted (streams_of s))) ↔ (0 < non_empty_payloads (doubtful_in (sent_blocks s)))
  doubted-where =
      let xs = doubtful_in (blocks_of (streams_of s)) in (
        (λ h. omega (arith, suspected-are, (by-payload xs).1 ((by-pair xs).0 h))),
        (λ h. (by-pair xs).1 ((by-payload xs).0 (omega (arith, suspected-are, h)))),
      )

  last-words : (pre post : List Call) → OnWay pre post → total_piece_bytes post ≡ 0
      → ((verdict_of (after w pre) ≡ suspect) ↔ (0 < non_empty_payloads (doubtful_in (sent_blocks s)))) × ((verdict_of (after w pre) ≡ result) ↔ (non_empty_payloads (doubtful_in (sent_blocks s)) ≡ 0))
  last-words pre post o h = go (dec_lt 0 (size (doubted (streams_of s))))
    where
      v : Verdict
      v = verdict_of (after w pre)

      N : ℕ
      N = non_empty_payloads (doubtful_in (sent_blocks s))

      go : Dec (0 < size (doubted (streams_of s))) → ((v ≡ suspect) ↔ (0 < N)) × ((v ≡ result) ↔ (N ≡ 0))
      go (yes y) =
          let e : v ≡ suspect = shown-last pre post o h ∙ ap (λ b. cond b suspect result) (lt-ltb 0 (size (doubted (streams_of s))) y) in
          let some : 0 < N = doubted-where.0 y in
          (((λ z. some), (λ z. e)), ((λ z. absurd (result-suspect (sym z ∙ e))), (λ z. absurd (omega (arith, some, z)))))
      go (no y) =
          let e : v ≡ result = shown-last pre post o h ∙ ap (λ b. cond b suspect result) (le-ltb 0 (size (doubted (streams_of s))) (omega arith)) in
          let some : 0 < N → ⊥ = λ z. y (doubted-where.1 z) in
          (((λ z. absurd (result-suspect (sym e ∙ z))), (λ z. absurd (some z))), ((λ z. none_is N some), (λ z. e)))

  -- ---- the file

  abbrev File : List ℕ
  File = (after w ks).lent.file

  file-sent : File ≡ with_payloads (sent_blocks s) file
  file-sent =
      ap (λ v. v.lent.file) (after_is ks)
      ∙ as-placed
      ∙ ap (λ ss. with_payloads (blocks_of ss) file) (all_there F R before start.0 (length s) (streams_of s) sent (tally ks) [] (way ks [] (sym (append-nil ks))) (λ c. unfold pieces_on in refl))
      ∙ with_payloads-sent F s file wf.each wf.once (λ q. omega (arith, wf.apart q))
    where
      as-placed : (world_of F R before file (tally ks)).lent.file ≡ with_payloads (blocks_of (tally ks).streams) file
      as-placed = unfold world_of in refl

  blocks : WellFormedBlocks F (sent_blocks s)
  blocks = sent-all F s wf.each

  at_place : (p v : ℕ) → HasByte p v (sent_blocks s) → (p < length File) × (get_or File p 0 ≡ v)
  at_place p v h =
      let below = sent-inside F p v (sent_blocks s) blocks h in (
        omega (arith, below, ap length file-sent, length-with_payloads (sent_blocks s) file),
        ap (λ f. get_or f p 0) file-sent ∙ has-with_payloads p v (sent_blocks s) file (sent-bodies F (sent_blocks s) blocks) (omega (arith, wf.apart p)) below h,
      )

  all-of-it : Arrives w file s ks
  all-of-it =
      record {
        all_taken = λ pre post c b bs e. taken-whole pre post c b bs (way pre (receive c (b ∷ bs) ∷ post) e);
        shows_guess = λ pre post e h. shown-guess pre post (way pre post e) (omega (arith, h, ap total_piece_bytes e, offered-append pre post));
        shows_suspect = λ pre post e h. (last-words pre post (way pre post e) (omega (arith, h, ap total_piece_bytes e, offered-append pre post))).0;
        shows_result = λ pre post e h. (last-words pre post (way pre post e) (omega (arith, h, ap total_piece_bytes e, offered-append pre post))).1;
        file_is = file-sent;
        payloads_in_file = whole-stand File (sent_blocks s) (sent-whole F (sent_blocks s) blocks) at_place;
        rest_stays = λ p h. ap (λ f. get_or f p 0) file-sent ∙ none-with_payloads p (sent_blocks s) file h;
      }

pub arrives : (w : World) (file : List ℕ) (R : ℕ) (before : Pairs) → StartedWith w file R before → (s : List SentChannel) → WellFormed (length file) R before s → (ks : List Call) → Arrival s ks
    → Arrives w file s ks
arrives = all-of-it
