-- The library's reader and the definition's agree: what a state keeps is the night, as long as its numbers are counted.
use Prim.Native.Nat.{ℕ, suc, ◌*◌, ◌≤◌}
use mathlib.Core.Path.{◌≡◌, refl, ap}
use mathlib.Core.Bool.{true, false}
use mathlib.Core.List.{List, [], ◌++◌}
use native.Mathlib.Omega.{arith}
use borrow.Author.Tests.{lt-ltb}
use lib.ListN.{length, take, drop, replicate, length-replicate}
use lib.Seq.{take_at}
use Rattle.ledger.specs.Ledger.{largest}
use Rattle.ledger.specs.Pairs.{none as no_pairs}
use Rattle.transfer.specs.Transfer.{World}
use Rattle.transfer.specs.Receive.{receive_of}
use Rattle.transfer.specs.Calls.{receive, call_of, fold_calls, started_world}
use Rattle.transfer.specs.Fitting.{Fit}
use Rattle.transfer.proofs.Fitting.{fitting}
use Rattle.transfer.proofs.AfterList.{every_list}
use Rattle.nights.specs.Request.{pair_limit, Request, starts, piece, malformed, request_of}
use Rattle.nights.specs.Lines.{record_line}
use Rattle.nights.specs.Reading.{Turn, prints, stops, Reading, waits, stops_at, printed_before, read}
use Rattle.nights.specs.Night.{Running, none, transferring, Night, started_night, leads, answer_piece, turn_of, night}
use Rattle.recordings.specs.Kept.{ReplayState, world_in, next_number, put_world, library_answer, library_turn, library}
use Rattle.nights.proofs.Requests.{Within, request-within}
use Rattle.nights.proofs.Night.{reads-number}
use Rattle.nights.proofs.Reading.{Reads, reads_nothing, reads_cut, reads_long, reads_malformed, reads_on, read-reads, read-nothing, read-cut, read-long, read-prints, read-stops}

-- ---- a world that fits is read back

pub fit-started : (F R : ℕ) → R ≤ pair_limit → Fit (started_night F R)
unfolding started_night fold_calls
fit-started F R h =
    let file : List ℕ = replicate F 0 in
    let l : List ℕ = replicate (2 * R) 0 in
    let n : length l ≡ 2 * R = length-replicate (2 * R) 0 in
    let b = every_list.begins file l l (rw n (omega arith)) (omega arith) refl in
    (fitting.says (started_world file l l)).0 (every_list.after_list (started_world file l l) file _ no_pairs b []).fits_still

pub world_in-put : (d : ReplayState) (w : World) → Fit w → world_in (put_world d w) ≡ w
unfolding put_world
world_in-put d w f =
    let n = 2 * w.t.pairs in
    rw (take_at w.lent.file _ w.t.len f.file, take_at w.lent.claimed _ n f.entries, take_at w.lent.doubtful _ n f.doubtful_entries)

-- ---- a state and a night agree

-- no start has come, or the transfer, file and ledgers are the night's, and fit
abbrev pub Runs : ReplayState → Running → Type 0
Runs d none = d.progress.started ≡ false
Runs d (transferring w) = (d.progress.started ≡ true) × (world_in d ≡ w) × Fit w

pub record Agree (d : ReplayState) (s : Night) : Type 0 where
  pub number_is : d.progress.number ≡ s.number
  pub running_is : Runs d s.running

-- and so does what a record leads to
abbrev AgreeTurn : Turn ReplayState → Turn Night → Type 0
AgreeTurn t (prints text s) = (d : ReplayState) × (t ≡ prints text d) × Agree d s
AgreeTurn t stops = t ≡ stops

-- the number after a record is counted
abbrev CountedTurn : Turn Night → Type 0
CountedTurn (prints text s) = s.number ≤ largest
CountedTurn stops = Unit

agree-put : (d : ReplayState) (w : World) (k : ℕ) → d.progress.number ≡ k → suc k ≤ largest → Fit w → Agree (put_world d w) (record { number = suc k; running = transferring w })
unfolding put_world next_number
agree-put d w k e h f = record { number_is = rw (e, lt-ltb k largest h); running_is = (refl, world_in-put d w f, f) }

agree-turn : (d : ReplayState) (k : ℕ) (s : Running) (q : Request) → Within q → d.progress.number ≡ k → Runs d s → CountedTurn (turn_of k s q) → AgreeTurn (library_turn d q) (turn_of k s q)
unfolding library_turn library_answer turn_of leads answer_piece
agree-turn d k s (starts F R) p e a h =
    let w = started_night F R in
    (put_world d w, refl, agree-put d w k e h (fit-started F R p.1))
agree-turn d k (transferring w) (piece c bytes) p e a h =
    let v = (receive_of w c bytes).1 in
    (put_world d v, rw (a.0, a.1), agree-put d v k e h (unfold call_of in fitting.call_keeps w (receive c bytes) a.2))
agree-turn d k none (piece c bytes) p e a h = rw a
agree-turn d k none malformed p e a h = refl
agree-turn d k (transferring w) malformed p e a h = refl

agree-record : (d : ReplayState) (s : Night) (bytes : List ℕ) → Agree d s → CountedTurn (night.turn s bytes) → AgreeTurn (library.turn d bytes) (night.turn s bytes)
agree-record d s bytes a h = agree-turn d s.number s.running (request_of bytes) (request-within bytes) a.number_is a.running_is h

-- ---- and so do their readings

pub record AgreeReading (a : Reading ReplayState) (b : Reading Night) : Type 0 where
  pub text_is : a.text ≡ b.text
  pub left_agree : Agree a.left b.left
  pub stopped_is : a.stopped ≡ b.stopped
  pub rest_is : a.rest ≡ b.rest

module _ (d : ReplayState) (s : Night) (a : Agree d s) where
  agree-waits : (rest : List ℕ) → AgreeReading (waits d rest) (waits s rest)
  agree-waits rest = record { text_is = refl; left_agree = a; stopped_is = refl; rest_is = refl }

  agree-stops : AgreeReading (stops_at library d) (stops_at night s)
  agree-stops = record { text_is = ap record_line a.number_is; left_agree = a; stopped_is = refl; rest_is = refl }

agree-before : (text : List ℕ) (x : Reading ReplayState) (y : Reading Night) → AgreeReading x y → AgreeReading (printed_before text x) (printed_before text y)
agree-before text x y i = record { text_is = ap (λ z. text ++ z) i.text_is; left_agree = i.left_agree; stopped_is = i.stopped_is; rest_is = i.rest_is }

agree-reads : {s : Night} {bytes : List ℕ} {r : Reading Night} → Reads night s bytes r → (d : ReplayState) → Agree d s → r.left.number ≤ largest → AgreeReading (read library d bytes) r
agree-reads (reads_nothing s bytes q) d a h = rw (read-nothing library d bytes q) (agree-waits d s a [])
agree-reads (reads_cut s bytes q) d a h = rw (read-cut library d bytes q) (agree-waits d s a bytes)
agree-reads (reads_long s bytes q) d a h = rw (read-long library d bytes q) (agree-stops d s a)
agree-reads (reads_malformed s bytes n q e) d a h =
    let t : library.turn d (take n bytes) ≡ stops = rw e at (agree-record d s (take n bytes) a (rw e tt)) in
    rw (read-stops library d bytes n q t) (agree-stops d s a)
agree-reads (reads_on s v bytes text n r q e t) d a h =
    let c : v.number ≤ largest = omega (arith, reads-number t) in
    let g : AgreeTurn (library.turn d (take n bytes)) (prints text v) = rw e at (agree-record d s (take n bytes) a (rw e c)) in
    rw (read-prints library d bytes n text g.0 q g.1) (agree-before text (read library g.0 (drop n bytes)) r (agree-reads t g.0 g.2 h))

-- from a state and a night that agree, as long as the numbers are counted
pub agree-read : (bytes : List ℕ) (d : ReplayState) (s : Night) → Agree d s → (read night s bytes).left.number ≤ largest → AgreeReading (read library d bytes) (read night s bytes)
agree-read bytes d s a h = agree-reads (read-reads night s bytes) d a h
