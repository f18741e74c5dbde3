-- `count::ended`: a 1 for each that has ended, added; at most 64.
use native.Mathlib.Omega.{arith}
use borrow.Author.Rules.{rules}
use borrow.Author.Tests.{tests}
use Rattle.std.proofs.lemmas.Iterator.{YieldsList-from_slice, YieldsList-from_map}
use Rattle.std.proofs.lemmas.Iterator.Consumers.{sum_by_from_yields_List, fits_by_from_yields_list}
use Rattle.transfer.specs.Transfer.{one_if_ended, ended_of}
use Rattle.counts.proofs.Sum.{fold-adds, ended_all}
use Rattle.counts.proofs.count.ended.Goals as goal

pub sum-requires-clause-fits : goal.sum-requires-clause-fits
sum-requires-clause-fits c =
    let ks = c.args.t.channels in
    fits_by_from_yields_list one_if_ended ks c.map.result _
    (YieldsList-from_map _ one_if_ended (YieldsList-from_slice ks cc) c.map.ensures.closure (λ x r q k. search (rules, tests)))
    (omega (arith, fold-adds one_if_ended ks 0, ended_all ks))

pub returns : goal.returns
unfolding ended_of
returns c =
    let ks = c.args.t.channels in
    let e = sum_by_from_yields_List one_if_ended ks c.map.result _ c.sum.ensures.ran
    (YieldsList-from_map _ one_if_ended (YieldsList-from_slice ks cc) c.map.ensures.closure (λ x r q k. search (rules, tests))) in
    omega (arith, e, fold-adds one_if_ended ks 0)
