-- A record, the first record of some bytes, and a step through a chunk, as readings.
use Prim.Native.Nat.{ℕ, ◌+◌, ◌≤◌}
use mathlib.Core.Path.{◌≡◌, refl, sym, ap, ◌∙◌}
use mathlib.Core.Bool.{true, false}
use Rattle.std.specs.Prelude.{Some, None}
use mathlib.Core.Logic.{◌⊎◌, inl, inr}
use mathlib.Core.List.{List, [], ◌++◌}
use native.Mathlib.Omega.{arith}
use native.Mathlib.Decide.{dec_le}
use lib.ListN.{length, take, drop, length-take}
use lib.Seq.{take-append-le, drop-append-le}
use Rattle.frames.specs.Frame.{first_record}
use Rattle.frames.specs.declared.frame.First.TheVariants.{Nothing, Cut, TooLong, Whole}
use Rattle.frames.proofs.FirstRecord.{first-prefix-whole, first-prefix-long, first-nothing, first-whole}
use Rattle.nights.specs.Request.{record_limit, request_of}
use Rattle.nights.specs.Reading.{Turn, prints, stops, stops_at, printed_before, read}
use Rattle.recordings.specs.declared.turn.Turned.{Turned}
use Rattle.recordings.specs.declared.first.Looked.TheVariants.{Answered}
use Rattle.recordings.specs.Kept.{ReplayState, replay_state, is_unfinished, library, library_turn}
use Rattle.recordings.specs.Steps.{WritesText, Leads, Looks}
use Rattle.nights.proofs.Requests.{request-short}
use Rattle.nights.proofs.Reading.{read-prints, read-stops, read-long}
use Rattle.recordings.proofs.Unfinished.{unfinished-none, unfinished-cut}

-- ---- a record

-- one that is not malformed has six bytes or more
prints-six : (d v : ReplayState) (bytes text : List ℕ) → library_turn d (request_of bytes) ≡ prints text v → 6 ≤ length bytes
unfolding library_turn
prints-six d v bytes text e = go (dec_le 6 (length bytes))
  where
    go : Dec (6 ≤ length bytes) → 6 ≤ length bytes
    go (yes h) = h
    go (no h) =
        let r = request-short bytes (omega arith) in
        let s : library_turn d (request_of bytes) ≡ stops = rw r in
        let z : ◌≡◌ {A = ℕ} 0 1 = cc (s, e) in absurd (omega (arith, z))

-- what a turn that stopped was, and one that went on
module _ (x : Turn ReplayState) (d : ReplayState) (out file claimed doubtful after : List ℕ) where
  leads-stops : Leads x d out None file claimed doubtful after → (x ≡ stops) × (replay_state d.progress file claimed doubtful ≡ d) × (after ≡ out)
  leads-stops l = go x refl l
    where
      go : (y : Turn ReplayState) → x ≡ y → Leads y d out None file claimed doubtful after → (x ≡ stops) × (replay_state d.progress file claimed doubtful ≡ d) × (after ≡ out)
      go (prints text v) e l = absurd l
      go stops e l = (e, l.0, l.1)

  leads-prints : (t : Turned) → Leads x d out (Some t) file claimed doubtful after
      → (text : List ℕ) × (x ≡ prints text (replay_state t.progress file claimed doubtful)) × WritesText text out t.written after
  leads-prints t l = go x refl l
    where
      go : (y : Turn ReplayState) → x ≡ y → Leads y d out (Some t) file claimed doubtful after
          → (text : List ℕ) × (x ≡ prints text (replay_state t.progress file claimed doubtful)) × WritesText text out t.written after
      go (prints text v) e l = (text, e ∙ ap (prints text) (sym l.0), l.1)
      go stops e l = absurd l

-- ---- the first record of some bytes

-- they are none, or not whole
pub not-whole : (bytes : List ℕ) → (first_record record_limit bytes ≡ Nothing) ⊎ (first_record record_limit bytes ≡ Cut) → is_unfinished bytes ≡ true
not-whole bytes (inl q) = rw (first-nothing record_limit bytes q) unfinished-none
not-whole bytes (inr q) = unfinished-cut bytes q

pub is_whole : (bytes : List ℕ) → (first_record record_limit bytes ≡ TooLong) ⊎ ((n : ℕ) × (first_record record_limit bytes ≡ Whole n)) → is_unfinished bytes ≡ false
unfolding is_unfinished
is_whole bytes (inl q) = rw (q, is_unfinished)
is_whole bytes (inr q) = rw (q.1, is_unfinished)

module _ (d : ReplayState) (bytes : List ℕ) where
  pub long-stops : first_record record_limit bytes ≡ TooLong → (more : List ℕ) → read library d (bytes ++ more) ≡ stops_at library d
  long-stops q more = read-long library d (bytes ++ more) (first-prefix-long record_limit bytes more q)

  module _ (m : ℕ) (whole : first_record record_limit bytes ≡ Whole m) where
    -- the record is the same whatever follows
    take_same : (more : List ℕ) → take m (bytes ++ more) ≡ take m bytes
    take_same more = take-append-le m bytes more (first-prefix-whole record_limit bytes more m whole).1

    module _ (out file claimed doubtful after : List ℕ) where
      -- a record that stopped the reading
      pub answered-stops : Leads (library_turn d (request_of (take m bytes))) d out None file claimed doubtful after
          → (replay_state d.progress file claimed doubtful ≡ d) × (after ≡ out) × ((more : List ℕ) → read library d (bytes ++ more) ≡ stops_at library d)
      answered-stops l =
          let s = leads-stops (library_turn d (request_of (take m bytes))) d out file claimed doubtful after l in
          (s.1, s.2, λ more. read-stops library d (bytes ++ more) m (first-prefix-whole record_limit bytes more m whole).0 (rw (take_same more) s.0))

      -- and one after which it goes on
      pub answered-prints : (t : Turned) → Leads (library_turn d (request_of (take m bytes))) d out (Some t) file claimed doubtful after
          → Looks (Answered t.progress m t.written) d bytes out file claimed doubtful after
      answered-prints t l = (s.0, six, p.1, first-whole record_limit bytes m whole, s.2, reading)
        where
          e : ReplayState
          e = replay_state t.progress file claimed doubtful

          s : (text : List ℕ) × (library_turn d (request_of (take m bytes)) ≡ prints text e) × WritesText text out t.written after
          s = leads-prints (library_turn d (request_of (take m bytes))) d out file claimed doubtful after t l

          p : (first_record record_limit (bytes ++ []) ≡ Whole m) × (m ≤ length bytes) × (4 ≤ m) × (m ≤ 4 + record_limit)
          p = first-prefix-whole record_limit bytes [] m whole

          six : 6 ≤ m
          six = let h = prints-six d e (take m bytes) s.0 s.1 in omega (arith, length-take m bytes, p.1)

          reading : (more : List ℕ) → read library d (bytes ++ more) ≡ printed_before s.0 (read library e (drop m bytes ++ more))
          reading more =
              read-prints library d (bytes ++ more) m s.0 e (first-prefix-whole record_limit bytes more m whole).0 (rw (take_same more) s.1)
              ∙ rw (drop-append-le m bytes more p.1)
