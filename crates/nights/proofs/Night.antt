-- The next record's number; and that the running transfer is what a start and a list of calls leave, so that it fits, and a piece is refused by 2, 3
-- or 4 only.
use Prim.Native.Nat.{ℕ, suc, ◌+◌, ◌*◌, ◌/◌, ◌≤◌}
use mathlib.Core.Path.{◌≡◌, refl, sym, ap, ◌∙◌}
use mathlib.Core.Logic.{◌⊎◌}
use mathlib.Core.Bool.{true}
use mathlib.Core.List.{List, [], ◌∷◌, ◌++◌}
use native.Mathlib.Omega.{arith}
use native.Mathlib.Decide.{dec_le}
use lib.ListN.{length, take, replicate, length-take, length-drop, length-replicate}
use Rattle.ledger.specs.Pairs.{none as no_pairs}
use Rattle.transfer.specs.Transfer.{World}
use Rattle.transfer.specs.Receive.{refused, receive_of}
use Rattle.transfer.specs.Calls.{Call, receive, call_of, fold_calls}
use Rattle.transfer.specs.Calls.{after as after_calls}
use Rattle.transfer.specs.Fit.{fits}
use Rattle.transfer.specs.AfterList.{StartedWith}
use Rattle.transfer.proofs.Rows.{rows}
use Rattle.transfer.proofs.TallyTransfer.{world_of}
use Rattle.transfer.proofs.TallyFromStart.{world-along}
use Rattle.transfer.proofs.AfterList.{every_list}
use Rattle.transfer.proofs.EachCall.{each_call}
use Rattle.transfer.proofs.Fitting.{fitting}
use Rattle.nights.specs.Request.{file_limit, pair_limit, Request, starts, piece, malformed, request_of}
use Rattle.nights.specs.Reading.{Turn, prints, stops, Reading}
use Rattle.nights.specs.Night.{Running, none, transferring, Night, started_night, leads, answer_piece, turn_of, night, before_first, after}
use Rattle.nights.proofs.Reading.{Reads, reads_nothing, reads_cut, reads_long, reads_malformed, reads_on, read-reads}
use Rattle.nights.proofs.Requests.{request-short, Within, request-within}

-- ---- the number of the next record

-- the number after a record is one more
abbrev pub Next : ℕ → Turn Night → Type 0
Next k (prints text s) = s.number ≡ suc k
Next k stops = Unit

pub turn_of-next : (k : ℕ) (s : Running) (q : Request) → Next k (turn_of k s q)
unfolding turn_of leads answer_piece
turn_of-next k s (starts F R) = refl
turn_of-next k (transferring w) (piece c bytes) = refl
turn_of-next k none (piece c bytes) = tt
turn_of-next k none malformed = tt
turn_of-next k (transferring w) malformed = tt

turn_of-short : (k : ℕ) (s : Running) (bytes : List ℕ) → request_of bytes ≡ malformed → turn_of k s (request_of bytes) ≡ stops
unfolding turn_of
turn_of-short k none bytes e = rw e
turn_of-short k (transferring w) bytes e = rw e

-- one that is not malformed has six bytes or more
turn_of-six : (k : ℕ) (s : Running) (bytes text : List ℕ) (v : Night) → turn_of k s (request_of bytes) ≡ prints text v → 6 ≤ length bytes
turn_of-six k s bytes text v e = go (dec_le 6 (length bytes))
  where
    go : Dec (6 ≤ length bytes) → 6 ≤ length bytes
    go (yes h) = h
    go (no h) =
        let z : ◌≡◌ {A = ℕ} 0 1 = cc (e, turn_of-short k s bytes (request-short bytes (omega arith))) in
        absurd (omega (arith, z))

-- numbers only grow
pub reads-number : {s : Night} {bytes : List ℕ} {r : Reading Night} → Reads night s bytes r → s.number ≤ r.left.number
reads-number (reads_nothing s bytes q) = omega arith
reads-number (reads_cut s bytes q) = omega arith
reads-number (reads_long s bytes q) = omega arith
reads-number (reads_malformed s bytes n q e) = omega arith
reads-number (reads_on s v bytes text n r q e t) =
    let m : v.number ≡ suc s.number = rw e at (turn_of-next s.number s.running (request_of (take n bytes))) in
    omega (arith, m, reads-number t)

-- each takes six bytes
reads-few : {s : Night} {bytes : List ℕ} {r : Reading Night} → Reads night s bytes r → 6 * r.left.number ≤ 6 * s.number + length bytes
reads-few (reads_nothing s bytes q) = omega arith
reads-few (reads_cut s bytes q) = omega arith
reads-few (reads_long s bytes q) = omega arith
reads-few (reads_malformed s bytes n q e) = omega arith
reads-few (reads_on s v bytes text n r q e t) =
    let one = take n bytes in
    let m : v.number ≡ suc s.number = rw e at (turn_of-next s.number s.running (request_of one)) in
    omega (arith, m, reads-few t, turn_of-six s.number s.running one text v e, length-take n bytes, length-drop n bytes)

pub numbers-few : (bytes : List ℕ) → 6 * (after bytes).left.number ≤ length bytes
numbers-few bytes = omega (arith, reads-few (read-reads night before_first bytes))

-- ---- the transfer that is running

-- no start has come; or a start within the limits, and these calls after it
pub data Reached : Running → Type 0 where
  not_started : Reached none
  by_calls : (F R : ℕ) (ks : List Call) → F ≤ file_limit → R ≤ pair_limit → Reached (transferring (after_calls (started_night F R) ks))

-- ---- a record

start-reached : (F R : ℕ) → F ≤ file_limit → R ≤ pair_limit → Reached (transferring (started_night F R))
unfolding fold_calls
start-reached F R f p = by_calls F R [] f p

piece-reached : (w : World) (c : ℕ) (bytes : List ℕ) → Reached (transferring w) → Reached (transferring (receive_of w c bytes).1)
unfolding call_of
piece-reached w c bytes (by_calls F R ks f p) =
    rw (rows.one_more (started_night F R) ks (receive c bytes)).0 at (by_calls F R (ks ++ (receive c bytes ∷ [])) f p)

-- what a record leads to is reached
abbrev Leads : Turn Night → Type 0
Leads (prints text s) = Reached s.running
Leads stops = Unit {0}

turn-leads : (k : ℕ) (s : Running) (q : Request) → Reached s → Within q → Leads (turn_of k s q)
unfolding turn_of leads answer_piece
turn-leads k s (starts F R) r w = start-reached F R w.0 w.1
turn-leads k (transferring v) (piece c bytes) r w = piece-reached v c bytes r
turn-leads k none (piece c bytes) r w = tt
turn-leads k s malformed r w = tt

-- ---- a recording

reads-reached : {s : Night} {bytes : List ℕ} {r : Reading Night} → Reads night s bytes r → Reached s.running → Reached r.left.running
reads-reached (reads_nothing s bytes q) h = h
reads-reached (reads_cut s bytes q) h = h
reads-reached (reads_long s bytes q) h = h
reads-reached (reads_malformed s bytes n q e) h = h
reads-reached (reads_on s v bytes text n r q e t) h =
    let one = take n bytes in
    reads-reached t (rw e at (turn-leads s.number s.running (request_of one) h (request-within one)))

pub running-reached : (bytes : List ℕ) → Reached (after bytes).left.running
running-reached bytes = reads-reached (read-reads night before_first bytes) not_started

-- ---- a transfer that was reached

pub started_with : (F R : ℕ) → R ≤ pair_limit → StartedWith (started_night F R) (replicate F 0) (length (replicate {A = ℕ} (2 * R) 0) / 2) no_pairs
unfolding started_night
started_with F R p =
    let ledger : List ℕ = replicate (2 * R) 0 in
    let n : length ledger ≡ 2 * R = length-replicate (2 * R) 0 in
    every_list.begins (replicate F 0) ledger ledger (omega arith) (omega arith) refl

pub reached-fits : (w : World) → Reached (transferring w) → (fits w ≡ true) × (w.t.len ≤ file_limit)
reached-fits w (by_calls F R ks f p) =
    let a = every_list.after_list (started_night F R) (replicate F 0) _ no_pairs (started_with F R p) ks in
    (a.fits_still, omega (arith, ((fitting.says w).0 a.fits_still).file, a.file_length, length-replicate {A = ℕ} F 0))

pub reached-refuses : (w : World) (c : ℕ) (bytes : List ℕ) (k : ℕ) → Reached (transferring w) → (receive_of w c bytes).0 ≡ refused k → (k ≡ 2) ⊎ (k ≡ 3) ⊎ (k ≡ 4)
unfolding call_of
reached-refuses w c bytes k (by_calls F R ks f p) e = (each_call.refuses (started_night F R) (replicate F 0) _ no_pairs (started_with F R p) ks c bytes k e).0

-- a refused call leaves it as it was
pub reached-stays : (w : World) (c : ℕ) (bytes : List ℕ) (k : ℕ) → Reached (transferring w) → (receive_of w c bytes).0 ≡ refused k → (receive_of w c bytes).1 ≡ w
unfolding call_of
reached-stays w c bytes k (by_calls F R ks f p) e =
    let from = started_night F R in
    let file : List ℕ = replicate F 0 in
    let a = started_with F R p in
    sym (rows.one_more from ks (receive c bytes)).0 ∙ world-along from file _ no_pairs a (ks ++ (receive c bytes ∷ []))
    ∙ ap (world_of (length file) _ no_pairs file) (each_call.refuses from file _ no_pairs a ks c bytes k e).1 ∙ sym (world-along from file _ no_pairs a ks)
