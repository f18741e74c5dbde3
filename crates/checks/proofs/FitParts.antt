-- FIT's parts, in the order in which they are tested.
use Prim.Native.Nat.{ℕ, ◌*◌}
use mathlib.Core.Path.{◌≡◌, refl, sym, ◌∙◌}
use mathlib.Core.Bool.{Bool, true, false, ◌&&◌, and-true, and-false}
use mathlib.Core.List.{List}
use borrow.Author.Tests.{eq-eqb, eqb-true}
use lib.Dec.{leb, eqb}
use lib.ListN.{length}
use Rattle.ledger.specs.Pairs.{ends_at_most}
use Rattle.ledger.specs.Ledger.{obeys, pairs_of}
use Rattle.transfer.specs.declared.state.Transfer.{Transfer}
use Rattle.transfer.specs.Channel.{channel_count, held_limit}
use Rattle.transfer.specs.Fit.{pair_limit, channels_fit, rests_apart, count_fits, fault_fits, claimed_fits}
use Rattle.transfer.proofs.FitChannels.{both}
use Rattle.channelchecks.specs.FitReport.{channels_fit_together, ledger_fits}

-- eight tests, the last moved to the front
moved : (a b o e k r n f : Bool) → (a && (b && (o && (e && (k && (r && (n && f))))))) ≡ ((a && b) && (f && (((o && e) && (k && r)) && n)))
moved false b o e k r n f = refl
moved true false o e k r n f = refl
moved true true false e k r n f = sym (and-false f)
moved true true true false k r n f = sym (and-false f)
moved true true true true false r n f = sym (and-false f)
moved true true true true true false n f = sym (and-false f)
moved true true true true true true false f = sym (and-false f)
moved true true true true true true true f = sym (and-true f)

-- the pairs, the fault, the channels with the ledger, and their count
pub fits-by-parts : (t : Transfer) (l : List ℕ) → length t.channels ≡ channel_count → length t.heads ≡ held_limit * channel_count
    → claimed_fits t l ≡ ((leb t.pairs pair_limit && eqb (length l) (2 * t.pairs)) && (fault_fits t && ((ledger_fits t l && channels_fit_together t l) && count_fits t)))
unfolding claimed_fits
fits-by-parts t l h g =
    rw (eq-eqb (length t.channels) channel_count h, eq-eqb (length t.heads) (held_limit * channel_count) g) (moved
    (leb t.pairs pair_limit)
    (eqb (length l) (2 * t.pairs))
    (obeys l)
    (ends_at_most t.len (pairs_of l))
    (channels_fit (pairs_of l) t.channels t.heads)
    (rests_apart t.channels)
    (count_fits t)
    (fault_fits t))

-- pairs and fault fit, so the channels decide, and then their count
pub count-last : (t : Transfer) (l : List ℕ) → length t.channels ≡ channel_count → length t.heads ≡ held_limit * channel_count
    → (leb t.pairs pair_limit && eqb (length l) (2 * t.pairs)) ≡ true → fault_fits t ≡ true → claimed_fits t l ≡ ((ledger_fits t l && channels_fit_together t l) && count_fits t)
count-last t l h g p f = fits-by-parts t l h g ∙ rw (p, f)

pub pairs-fail : (t : Transfer) (l : List ℕ) → (leb t.pairs pair_limit && eqb (length l) (2 * t.pairs)) ≡ false → claimed_fits t l ≡ false
unfolding claimed_fits
pairs-fail t l e = go (leb t.pairs pair_limit) (eqb (length l) (2 * t.pairs)) _ e
  where
    go : (a b r : Bool) → (a && b) ≡ false → (a && (b && r)) ≡ false
    go true b r e = rw e
    go false b r e = refl

-- a claimed ledger that fits has 2R entries and obeys its rule
pub claimed-ledger : (t : Transfer) (l : List ℕ) → claimed_fits t l ≡ true → (length l ≡ 2 * t.pairs) × (obeys l ≡ true)
unfolding claimed_fits
claimed-ledger t l h =
    let a = both (leb t.pairs pair_limit) _ h in
    let b = both (eqb (length l) (2 * t.pairs)) _ a.1 in
    (eqb-true (length l) (2 * t.pairs) b.0, (both (obeys l) _ b.1).0)
