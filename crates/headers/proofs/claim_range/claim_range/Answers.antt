-- `claim_range::claim_range`.
use mathlib.Core.Path.{◌≡◌, ◌∙◌}
use mathlib.Core.Bool.{true, false}
use borrow.Author.Rules.{rules}
use Rattle.std.specs.Prelude.{Ok, Err}
use Rattle.answers.specs.Refusal.{numbered, number_in, refusal_number}
use Rattle.answers.proofs.Numbers.{above_0}
use Rattle.ledger.specs.Ledger.{pairs_of}
use Rattle.claims.specs.Claim.{judged}
use Rattle.headers.proofs.ClaimRange.{answer_is, claimed-refuses, claimed-alone, doubtful-refuses, claimed-in-both}
use Rattle.headers.proofs.claim_range.claim_range.Goals as goal

pub returns-in_err-slot : goal.returns-in_err-slot
returns-in_err-slot c R o n f =
    let x = c.args in
    let r = c.in_err-slot.field-0.0 in
    let j : c.judge.result ≡ Err r = search rules in
    let e : c.from_residual.result ≡ Err r = search rules in
    let k : refusal_number c.from_residual.result ≡ number_in (numbered c.judge.result) = rw (e, j) in
    claimed-refuses R x.start x.end c.requires x.claimed.now x.doubtful.now o n x.doubt (numbered c.judge.result) _ c.judge.ensures (rw e (above_0 r)) k

pub returns-in_err-other : goal.returns-in_err-other
returns-in_err-other c R o n f =
    let x = c.args in
    let s : c.judge.result ≡ Ok c.in_ok-slot.slot = search rules in
    let q : judged R x.start x.end (pairs_of x.claimed.now) ≡ Ok c.in_ok-slot.slot = answer_is R x.start x.end c.requires x.claimed.now o n (numbered c.judge.result) c.judge.ensures ∙ rw s in
    let r = c.in_err-other.field-0.0 in
    let j : c.judge-then-doubt.result ≡ Err r = search rules in
    let e : c.from_residual-in_err-other.result ≡ Err r = search rules in
    let k : refusal_number c.from_residual-in_err-other.result ≡ number_in (numbered c.judge-then-doubt.result) = rw (e, j) in
    let d : x.doubt ≡ true = c.if-doubt.true in
    rw d (doubtful-refuses R x.start x.end c.requires x.claimed.now x.doubtful.now o n f c.in_ok-slot.slot q (numbered c.judge-then-doubt.result) c.judge-then-doubt.ensures _ (rw e (above_0 r)) k)

pub returns-in_ok-other : goal.returns-in_ok-other
returns-in_ok-other c R o n f =
    let x = c.args in
    let s : c.judge.result ≡ Ok c.in_ok-slot.slot = search rules in
    let q : judged R x.start x.end (pairs_of x.claimed.now) ≡ Ok c.in_ok-slot.slot = answer_is R x.start x.end c.requires x.claimed.now o n (numbered c.judge.result) c.judge.ensures ∙ rw s in
    let d : x.doubt ≡ true = c.if-doubt.true in
    let j : c.judge-then-doubt.result ≡ Ok c.in_ok-other.other = search rules in
    rw d (claimed-in-both R x.start x.end c.requires x.claimed.now x.doubtful.now o n f c.in_ok-slot.slot q (numbered c.judge-then-doubt.result) c.judge-then-doubt.ensures c.in_ok-other.other _ _ (rw j) c.put.ensures c.put-then-doubt.ensures)

pub returns-else-doubt : goal.returns-else-doubt
returns-else-doubt c R o n f =
    let x = c.args in
    let s : c.judge.result ≡ Ok c.in_ok-slot.slot = search rules in
    let q : judged R x.start x.end (pairs_of x.claimed.now) ≡ Ok c.in_ok-slot.slot = answer_is R x.start x.end c.requires x.claimed.now o n (numbered c.judge.result) c.judge.ensures ∙ rw s in
    let d : x.doubt ≡ false = c.if-doubt.false in
    rw d (claimed-alone R x.start x.end c.requires x.claimed.now x.doubtful.now o n c.in_ok-slot.slot _ q c.put-else-doubt.ensures)
