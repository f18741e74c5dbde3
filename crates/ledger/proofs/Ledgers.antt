-- `Ledgers` holds.
use Prim.Native.Nat.{ℕ, ◌<◌}
use mathlib.Core.Path.{◌≡◌, ◌∙◌, sym}
use mathlib.Core.Logic.{◌↔◌}
use mathlib.Core.Bool.{true}
use mathlib.Core.List.{List}
use native.Mathlib.Omega.{arith}
use borrow.Author.Tests.{lt-ltb, ltb-true}
use Rattle.ledger.specs.Pairs.{size, total, join}
use Rattle.ledger.specs.Ledger.{obeys, pairs_of, has_pair}
use Rattle.ledger.specs.Ledgers.{Ledgers}
use Rattle.ledger.proofs.PairsJoin.{join-holds, join-ruled, join-size}
use Rattle.ledger.proofs.PairsUnique.{ruled-unique}
use Rattle.ledger.proofs.PairsOverlap.{shares-none, none-shares, held-inside, inside-held, total-held, join-total}
use Rattle.ledger.proofs.PairsNested.{nested-held, held-nested, size-total}
use Rattle.ledger.proofs.LedgerLayout.{rule-ruled}
use Rattle.ledger.proofs.LedgerSizes.{length-right, length-fits}
use Rattle.ledger.proofs.LedgerOdd
use Rattle.ledger.proofs.LedgerRule
use Rattle.ledger.proofs.LedgerEntries.{has-pair-size}

pair_bytes_is : (l : List ℕ) → obeys l ≡ true → (has_pair l ≡ true) ↔ (0 < total (pairs_of l))
unfolding obeys
pair_bytes_is l o =
    let t = size-total 0 (pairs_of l) (rule-ruled 0 l o) in
    (λ h. t.0 (ltb-true 0 (size (pairs_of l)) (sym (has-pair-size l) ∙ h)), λ h. has-pair-size l ∙ lt-ltb 0 (size (pairs_of l)) (t.1 h))

pub ledgers : Ledgers
ledgers =
    record {
      lengths = λ l. (length-fits l, λ h. length-right l h.0 h.1);
      test_is_rule = LedgerRule.test_is_rule;
      odd_breaks = LedgerOdd.odd_breaks;
      contains_places = LedgerRule.contains_places;
      only_one = LedgerRule.only_one;
      bytes_are_places = λ f ps c h. total-held f 0 ps c h;
      join_union = λ s e p ps h c. join-holds s e 0 p ps h c;
      join_obeys = λ s e ps h c. join-ruled s e 0 ps h (omega arith) c;
      join_needs = join-size;
      join_only = λ s e ps qs h c d u. ruled-unique 0 qs (join s e ps) d (join-ruled s e 0 ps h (omega arith) c) (λ p. u p ∙ sym (join-holds s e 0 p ps h c));
      join_adds = λ s e ps h c n. join-total s e 0 ps h (omega arith) c (λ p. shares-none s e p ps n);
      overlaps_place = λ s e ps h c. (λ n p. shares-none s e p ps n, none-shares s e 0 ps h c);
      inside_places = λ s e ps h c. (inside-held s e ps, held-inside s e 0 ps h c);
      nested_places = λ ds ps c d. (nested-held ds ps, held-nested 0 ds ps c d);
      pair_bytes_is = pair_bytes_is;
    }
