-- `totals::check_channels`: the channels passed, and those that are left, are all.
use mathlib.Core.Path.{◌≡◌}
use mathlib.Core.Logic.{inl, inr}
use mathlib.Core.Bool.{true, false}
use mathlib.Core.List.{◌∷◌, ◌++◌}
use native.Mathlib.Omega.{arith}
use borrow.Author.Rules.{rules}
use lib.ListN.{length}
use Rattle.std.proofs.lemmas.List.{nil_from_length}
use Rattle.std.specs.Iterator.Adapters.{zip_first, zip_second}
use Rattle.std.specs.Slice.Iter.{iter_rest, chunks_exact_rest}
use Rattle.ledger.specs.Ledger.{pairs_of}
use Rattle.transfer.specs.Channel.{held_limit}
use Rattle.transfer.specs.Fit.{channel_fits}
use Rattle.channelchecks.proofs.ChannelTotals.{zero-parts, fails, passes, passed-all}
use Rattle.channelchecks.proofs.totals.check_channels.Goals as goal

pub invariant_of-held : goal.invariant_of-held
invariant_of-held c =
    let s : chunks_exact_rest (zip_second c.loop-k.k-iterator) ≡ c.in-Some.bytes.now ++ chunks_exact_rest (zip_second c.next.new.self) = search rules in
    record { known = λ e. (zero-parts _ _ (rw s at (c.loop-k.invariant.2 e))).0 }

pub returns-then-not-channel_fits : goal.returns-then-not-channel_fits
returns-then-not-channel_fits c =
    let x = c.args in
    let k = c.in-Some.k.now in
    let held = c.in-Some.bytes.now in
    let a : iter_rest (zip_first c.loop-k.k-iterator) ≡ k ∷ iter_rest (zip_first c.next.new.self) = search rules in
    let s : chunks_exact_rest (zip_second c.loop-k.k-iterator) ≡ held ++ chunks_exact_rest (zip_second c.next.new.self) = search rules in
    let h : length held ≡ held_limit = search rules in
    let f : channel_fits (pairs_of x.ledger.entries.now) k.state k held ≡ false = search rules in
    fails (pairs_of x.ledger.entries.now) x.t k _ held _ _ c.loop-k.totals s h (rw a at c.loop-k.invariant.0) f

pub loop-k-preserved : goal.loop-k-preserved
loop-k-preserved c =
    let x = c.args in
    let k = c.in-Some.k.now in
    let held = c.in-Some.bytes.now in
    let a : iter_rest (zip_first c.loop-k.k-iterator) ≡ k ∷ iter_rest (zip_first c.next.new.self) = search rules in
    let s : chunks_exact_rest (zip_second c.loop-k.k-iterator) ≡ held ++ chunks_exact_rest (zip_second c.next.new.self) = search rules in
    let h : length held ≡ held_limit = search rules in
    let f : channel_fits (pairs_of x.ledger.entries.now) k.state k held ≡ true = search rules in (
      rw c.add.ensures (passes (pairs_of x.ledger.entries.now) x.t k _ held _ _ c.loop-k.totals s h (rw a at c.loop-k.invariant.0) f),
      search rules,
      λ e. (zero-parts _ _ (rw s at (c.loop-k.invariant.2 e))).1,
    )

pub returns : goal.returns
returns c =
    let v = c.loop-k.invariant in
    let n : length (iter_rest (zip_first c.loop-k.k-iterator)) ≡ 0 = elim c.in-None.ensures.steps [ inl u ↦ u.1.0 | inr u ↦ omega (arith, u.1.1.0, v.0.heads_length, v.1) ] in
    passed-all (pairs_of c.args.ledger.entries.now) c.args.t _ c.loop-k.totals (rw (nil_from_length _ n) at v.0)
