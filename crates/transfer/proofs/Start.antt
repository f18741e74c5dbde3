-- What start answers and leaves, and that every file begins with any two ledgers that it accepts.
use Prim.Native.Nat.{ℕ, ◌/◌, ◌%◌, ◌≤◌, ◌<◌}
use mathlib.Core.Path.{◌≡◌}
use mathlib.Core.Bool.{true, not, or-true}
use mathlib.Core.List.{List}
use native.Mathlib.Omega.{arith}
use borrow.Author.Tests.{lt-ltb, le-ltb, eq-eqb, ne_eqb}
use lib.Dec.{eqb}
use lib.ListN.{length, replicate}
use Rattle.ledger.specs.Pairs.{none}
use Rattle.ledger.specs.Ledger.{entry_limit, length_wrong}
use Rattle.transfer.specs.Transfer.{fresh, lengths_wrong, start_refusal, start_of, start_after}
use Rattle.transfer.specs.Calls.{started_world}
use Rattle.transfer.specs.AfterList.{StartedWith, fresh_start}
use Rattle.transfer.specs.Start.{Leaves, RefusedBy5, Start}

long-wrong : (claimed doubtful : List ℕ) → entry_limit < length claimed → lengths_wrong claimed doubtful ≡ true
unfolding lengths_wrong length_wrong
long-wrong claimed doubtful h = rw (lt-ltb entry_limit (length claimed) h, or-true (not (eqb (length claimed % 2) 0)))

accepted : (f : ℕ) (claimed doubtful : List ℕ) → length claimed % 2 ≡ 0 → length claimed ≤ 8192 → length doubtful ≡ length claimed
    → Leaves f claimed doubtful 0 (fresh f (length claimed / 2)) (replicate (length claimed) 0) (replicate (length doubtful) 0)
unfolding start_refusal start_of start_after lengths_wrong length_wrong
accepted f claimed doubtful e h g =
    let x = eq-eqb (length claimed % 2) 0 e in
    let y = le-ltb entry_limit (length claimed) h in
    let z = eq-eqb (length doubtful) (length claimed) g in
    (rw (x, y, z), rw (x, y, z), rw (x, y, z), rw (x, y, z))

wrong : (f : ℕ) (claimed doubtful : List ℕ) → lengths_wrong claimed doubtful ≡ true → RefusedBy5 f claimed doubtful
unfolding start_refusal start_of start_after
wrong f claimed doubtful x = (rw x, rw x, rw x, rw x)

pub start : Start
start =
    record {
      accepted = accepted;
      odd = λ f claimed doubtful e. wrong f claimed doubtful (unfold lengths_wrong length_wrong in rw (ne_eqb (length claimed % 2) 0 e));
      long = λ f claimed doubtful h. wrong f claimed doubtful (long-wrong claimed doubtful h);
      unequal = λ f claimed doubtful e. wrong f claimed doubtful (unfold lengths_wrong in rw (ne_eqb (length doubtful) (length claimed) e, or-true (length_wrong claimed)));
      last_accepted = λ f claimed doubtful e g.
          let n : length claimed / 2 ≡ 4096 = rw e in
          rw n at (accepted f claimed doubtful (rw e) (omega arith) (omega arith));
      first_refused = λ f claimed doubtful e. wrong f claimed doubtful (long-wrong claimed doubtful (omega arith));
      first_even_refused = λ f claimed doubtful e. wrong f claimed doubtful (long-wrong claimed doubtful (omega arith));
    }

pub every-start-begins : (file claimed doubtful : List ℕ) → length claimed % 2 ≡ 0 → length claimed ≤ 8192 → length doubtful ≡ length claimed
    → StartedWith (started_world file claimed doubtful) file (length claimed / 2) none
every-start-begins file claimed doubtful e h g = fresh_start file claimed doubtful (start.accepted (length file) claimed doubtful e h g).0
