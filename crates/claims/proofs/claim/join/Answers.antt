-- `claim::join`.
use Prim.Native.Nat.{◌≤◌, ◌<◌}
use mathlib.Core.Path.{◌≡◌, refl, sym, ◌∙◌}
use mathlib.Core.Bool.{true}
use native.Mathlib.Omega.{arith}
use borrow.Author.Tests.{ltb-true, ltb-false}
use lib.Dec.{ltb}
use Rattle.ledger.specs.Pairs.{size, join}
use Rattle.ledger.specs.Ledger.{obeys, pairs_of, capacity}
use Rattle.claims.proofs.JudgedByPlace.{lacks-is}
use Rattle.claims.proofs.claim.join.Goals as goal
use Rattle.claims.proofs.claim.join.Goals.{After-full, Else-full, Then-full}

-- in a ledger by the rule: whether there is no pair for the range
lacks : (c : After-full) → let x = c.args in let l = x.ledger.now in
    obeys l ≡ true → x.start < x.end → c.full.result ≡ ltb (capacity l) (size (join x.start x.end (pairs_of l)))
lacks c o h =
    let x = c.args in
    c.full.ensures ∙ lacks-is x.ledger.now o x.start x.end h c.locate-found.result (c.locate-found.ensures.2 o h)

no_room : (c : Then-full) → let x = c.args in let l = x.ledger.now in
    obeys l ≡ true → x.start < x.end → capacity l < size (join x.start x.end (pairs_of l))
no_room c o h =
    let x = c.args in
    ltb-true (capacity x.ledger.now) (size (join x.start x.end (pairs_of x.ledger.now))) (sym (lacks (goal.at.Then-full c).After-full o h) ∙ c.if-full.true)

some-room : (c : Else-full) → let x = c.args in let l = x.ledger.now in
    obeys l ≡ true → x.start < x.end → size (join x.start x.end (pairs_of l)) ≤ capacity l
some-room c o h =
    let x = c.args in
    ltb-false (capacity x.ledger.now) (size (join x.start x.end (pairs_of x.ledger.now))) (sym (lacks (goal.at.Else-full c).After-full o h) ∙ c.if-full.false)

pub returns-then-full : goal.returns-then-full
returns-then-full c =
    record {
      done_where = λ o h. (λ e. absurd (cc), λ g. absurd (omega (arith, no_room c o h)));
      by_rule = λ o h e. absurd (cc);
      refused_by = λ k e. cc;
      unchanged = λ k e. refl;
      same_length = refl;
    }

pub returns : goal.returns
returns c =
    let x = c.args in
    record {
      done_where = λ o h. (λ e. some-room (goal.at.returns c).Else-full o h, λ g. refl);
      by_rule = λ o h e. c.merge.ensures o h (c.locate-found.ensures.2 o h) (some-room (goal.at.returns c).Else-full o h);
      refused_by = λ k e. absurd (cc);
      unchanged = λ k e. absurd (cc);
      same_length = c.merge.auto.ledger;
    }
