-- What the screen line says, by the numbers that the code has: nothing is cut off the bytes of a transfer and ledgers that fit.
use Prim.Native.Nat.{ℕ, suc, ◌+◌, ◌*◌, ◌-◌, ◌≤◌, ◌<◌, min}
use mathlib.Core.Path.{◌≡◌}
use mathlib.Core.Bool.{true, false, cond, and-eq-true_iff}
use mathlib.Core.List.{List, []}
use native.Mathlib.Omega.{arith}
use native.Mathlib.Decide.{dec_lt}
use borrow.Author.Tests.{leb-true}
use lib.Dec.{leb, ltb}
use lib.ListN.{get_or, replicate}
use Rattle.ledger.specs.Pairs.{Pairs, none, pair, total, ObeyFrom, ends_at_most}
use Rattle.ledger.specs.Ledger.{largest, pairs_of, has_pair}
use Rattle.ledger.proofs.LedgerEntries.{ends_at}
use Rattle.transfer.specs.declared.state.Transfer.{Transfer}
use Rattle.transfer.specs.Transfer.{left_of, ended_of, World, world, guess, result, suspect, broken, all_ended, is_doubted, verdict_of, stored_of, doubt_of}
use Rattle.transfer.specs.Fit.{fits_without_file}
use Rattle.transfer.proofs.FitByChannel.{Together, ruled, together-fit}
use Rattle.verdicts.specs.declared.verdict.Verdict.{Verdict as Word}
use Rattle.verdicts.specs.Verdict.{to_verdict, count_reached}
use Rattle.verdicts.proofs.VerdictNames.{from-to}
use Rattle.runs.proofs.Runs.{fits-some}
use Rattle.std.specs.Prelude.{Ok, Err}
use Rattle.receiver.specs.Shown.{numbers_of, shown_of}

-- pairs by the rule with no end above f hold no more than f places
total-le : (f lo : ℕ) (ps : Pairs) → ObeyFrom lo ps → ends_at_most f ps ≡ true → total ps ≤ f - lo
unfolding total ends_at_most
total-le f lo none c h = omega arith
total-le f lo (pair a b ps) c h =
    let q = (and-eq-true_iff (leb b f) (ends_at_most f ps)).0 h in
    omega (arith, total-le f (suc b) ps c.2 q.1, leb-true b f q.0, c.0, c.1)

module _ (t : Transfer) (claimed doubtful : List ℕ) (f : fits_without_file t claimed doubtful ≡ true) where
  pub claimed-most : total (pairs_of claimed) ≤ t.len
  claimed-most = let g = fits-some t claimed doubtful f in omega (arith, total-le t.len 0 (pairs_of claimed) (ruled claimed g.rule) g.ends)

  -- a doubtful range ends where a claimed one does, or before
  pub doubtful-most : total (pairs_of doubtful) ≤ t.len
  doubtful-most = omega (arith, total-le t.len 0 (pairs_of doubtful) (ruled doubtful g.doubtful_rule) ((ends_at t.pairs doubtful g.doubtful_entries g.doubtful_rule t.len).1 ends))
    where
      w : World
      w = world t (replicate t.len 0) claimed doubtful

      g : Together w
      g = fits-some t claimed doubtful f

      ends : (i : ℕ) → get_or doubtful (2 * i + 1) 0 ≤ t.len
      ends i = go (dec_lt 0 (get_or doubtful (2 * i + 1) 0))
        where
          go : Dec (0 < get_or doubtful (2 * i + 1) 0) → get_or doubtful (2 * i + 1) 0 ≤ t.len
          go (no n) = omega arith
          go (yes y) = let j = (together-fit w g).doubtful_inside i y in omega (arith, j.2, (together-fit w g).ends j.0)

  module _ (short : t.len ≤ largest) where
    pub stored-whole : min largest (total (pairs_of claimed)) - min largest (left_of t) ≡ stored_of (world t [] claimed doubtful)
    unfolding stored_of
    stored-whole = omega (arith, claimed-most, short)

    pub doubt-whole : min largest (total (pairs_of doubtful)) ≡ doubt_of (world t [] claimed doubtful)
    unfolding doubt_of
    doubt-whole = omega (arith, doubtful-most, short)

  -- ---- the whole

  pub is-shown : (v : Word) (ended bytes doubt : ℕ) → to_verdict v ≡ verdict_of (world t [] claimed doubtful) → ended ≡ ended_of t → bytes ≡ stored_of (world t [] claimed doubtful) → doubt ≡ doubt_of (world t [] claimed doubtful)
      → Ok (record { verdict = v; ended = ended; count = t.count; fault = t.fault; on = t.on; bytes = bytes; doubtful = doubt }) ≡ shown_of t claimed doubtful
  unfolding shown_of numbers_of
  is-shown v ended bytes doubt p q r s = rw (from-to v (verdict_of (world t [] claimed doubtful)) p, q, r, s, f)

pub not_shown : (t : Transfer) (claimed doubtful : List ℕ) → fits_without_file t claimed doubtful ≡ false → Err 1 ≡ shown_of t claimed doubtful
unfolding shown_of
not_shown t claimed doubtful f = rw f

-- the verdict by the fault, the count and the channels that have ended
pub verdict-by : (t : Transfer) (file claimed doubtful : List ℕ) (ended : ℕ) → ended ≡ ended_of t
    → cond (ltb 0 t.fault) broken (cond (count_reached t.count (ended + 0)) (cond (has_pair doubtful) suspect result) guess) ≡ verdict_of (world t file claimed doubtful)
unfolding verdict_of all_ended is_doubted
verdict-by t file claimed doubtful ended e = let z : ended + 0 ≡ ended_of t = omega (arith, e) in rw z
