-- FIT with its phrases about channels gathered, channel by channel and place by place; this and the record `Fit` give each other.
use Prim.Native.Nat.{ℕ, ◌+◌, ◌*◌, ◌≤◌, ◌<◌}
use mathlib.Core.Path.{◌≡◌}
use mathlib.Core.Bool.{true}
use mathlib.Core.List.{List}
use native.Mathlib.Omega.{arith}
use lib.ListN.{length, get_or}
use Rattle.ledger.specs.Pairs.{Pairs, contains, ObeyFrom, inside, all_inside, ends_at_most}
use Rattle.ledger.specs.Ledger.{obeys, pairs_of}
use Rattle.ledger.proofs.PairsPlaces.{in_range-in, in_range-le, Where, under, within, past, stand, holds-le}
use Rattle.ledger.proofs.PairsOverlap.{held-inside, inside-held}
use Rattle.ledger.proofs.LedgerLayout.{rule-ruled}
use Rattle.ledger.proofs.LedgerRule.{test_is_rule}
use Rattle.ledger.proofs.PairsNested.{nested-held, held-nested}
use Rattle.ledger.proofs.LedgerEntries.{inside-at, ends_at, nested-at}
use Rattle.transfer.specs.declared.state.Channel.{Channel}
use Rattle.transfer.specs.Channel.{channel_count, held_limit, blank, channel_at}
use Rattle.transfer.specs.Transfer.{sum, World}
use Rattle.transfer.specs.Fit.{pair_limit}
use Rattle.transfer.specs.Fitting.{InPayload, CountSays, FaultSays, Fit}
use Rattle.transfer.proofs.FitChannelKinds.{Stage, stage-of, state-known, some_left, held-within, none_held, rest_zero, in_payload, waits}
use Rattle.transfer.proofs.Sums.{one_of, two-of, sum-apart}

pub record Together (w : World) : Type 0 where
  pub file : length w.lent.file ≡ w.t.len
  pub entries : length w.lent.claimed ≡ 2 * w.t.pairs
  pub pairs : w.t.pairs ≤ pair_limit
  pub rule : obeys w.lent.claimed ≡ true
  pub ends : ends_at_most w.t.len (pairs_of w.lent.claimed) ≡ true
  pub doubtful_entries : length w.lent.doubtful ≡ 2 * w.t.pairs
  pub doubtful_rule : obeys w.lent.doubtful ≡ true
  -- every doubtful byte is claimed
  pub doubts : (p : ℕ) → contains p (pairs_of w.lent.doubtful) ≤ contains p (pairs_of w.lent.claimed)
  pub channels : length w.t.channels ≡ channel_count
  pub heads : length w.t.heads ≡ held_limit * channel_count
  pub stages : (c : ℕ) → c < channel_count → Stage (channel_at w.t c)
  pub bytes_zero : (c i : ℕ) → c < channel_count → (channel_at w.t c).held ≤ i → i < held_limit → get_or w.t.heads (held_limit * c + i) 0 ≡ 0
  -- every byte left is claimed, and is left of one payload only
  pub rests : (p : ℕ) → sum (waits p) w.t.channels ≤ contains p (pairs_of w.lent.claimed)
  pub count : CountSays w.t
  pub fault : FaultSays w.t

pub ruled : (l : List ℕ) → obeys l ≡ true → ObeyFrom 0 (pairs_of l)
unfolding obeys
ruled l o = rule-ruled 0 l o

-- what each doubtful range lying inside a claimed one says of places
module _ (w : World) (o : obeys w.lent.claimed ≡ true) (q : obeys w.lent.doubtful ≡ true) where
  pub doubts-nested : ((p : ℕ) → contains p (pairs_of w.lent.doubtful) ≤ contains p (pairs_of w.lent.claimed)) → all_inside (pairs_of w.lent.doubtful) (pairs_of w.lent.claimed) ≡ true
  doubts-nested f = held-nested 0 (pairs_of w.lent.doubtful) (pairs_of w.lent.claimed) (ruled w.lent.doubtful q) (ruled w.lent.claimed o) f

-- rests, one by one and two by two
pub rests-of : (ks : List Channel) (ps : Pairs) → ((c : ℕ) → c < length ks → Stage (get_or ks c blank))
    → ((c : ℕ) → c < length ks → InPayload (get_or ks c blank) → inside (get_or ks c blank).next ((get_or ks c blank).next + (get_or ks c blank).left) ps ≡ true)
    → ((c d p : ℕ) → c < d → d < length ks → waits p (get_or ks c blank) + waits p (get_or ks d blank) ≤ 1) → (p : ℕ) → sum (waits p) ks ≤ contains p ps
rests-of ks ps s i a p = sum-apart (waits p) blank (contains p ps) ks (holds-le p ps) each (λ c d u v. a c d p u v)
  where
    each : (c : ℕ) → c < length ks → waits p (get_or ks c blank) ≤ contains p ps
    each c h = go (stand k.next (k.next + k.left) p)
      where
        k : Channel
        k = get_or ks c blank

        go : Where k.next (k.next + k.left) p → waits p k ≤ contains p ps
        go (under x y) = omega arith
        go (within x y z) = omega (arith, inside-held k.next (k.next + k.left) ps (i c h (in_payload k (s c h) (omega arith))) p x y)
        go (past x y z) = omega arith

module _ (w : World) (f : Together w) (c : ℕ) (h : c < channel_count) where
  rest-here : (p : ℕ) → waits p (channel_at w.t c) ≤ contains p (pairs_of w.lent.claimed)
  rest-here p = omega (arith, f.rests p, one_of (waits p) blank w.t.channels c (omega (arith, f.channels)))

  pub rest-inside : InPayload (channel_at w.t c) → inside (channel_at w.t c).next ((channel_at w.t c).next + (channel_at w.t c).left) (pairs_of w.lent.claimed) ≡ true
  rest-inside y =
      let k = channel_at w.t c in
      held-inside k.next (k.next + k.left) 0 (pairs_of w.lent.claimed) (omega (arith, some_left k (f.stages c h) y)) (ruled w.lent.claimed f.rule)
      (λ p u v. omega (arith, rest-here p, in_range-in k.next (k.next + k.left) p u v, holds-le p (pairs_of w.lent.claimed)))

pub together-fit : (w : World) → Together w → Fit w
together-fit w f =
    record {
      file = f.file;
      entries = f.entries;
      pairs = f.pairs;
      rule = (test_is_rule w.t.pairs w.lent.claimed f.entries).0 f.rule;
      ends = (ends_at w.t.pairs w.lent.claimed f.entries f.rule w.t.len).0 f.ends;
      doubtful_entries = f.doubtful_entries;
      doubtful_rule = (test_is_rule w.t.pairs w.lent.doubtful f.doubtful_entries).0 f.doubtful_rule;
      doubtful_inside = (nested-at w.t.pairs w.lent.claimed w.lent.doubtful f.entries f.doubtful_entries f.rule f.doubtful_rule).0 (doubts-nested w f.rule f.doubtful_rule f.doubts);
      channels = f.channels;
      heads = f.heads;
      states = λ c h. state-known (channel_at w.t c) (f.stages c h);
      left = λ c h y. some_left (channel_at w.t c) (f.stages c h) y;
      inside = λ c h y. (inside-at w.t.pairs w.lent.claimed f.entries f.rule (channel_at w.t c).next ((channel_at w.t c).next + (channel_at w.t c).left)
          (omega (arith, some_left (channel_at w.t c) (f.stages c h) y))).0 (rest-inside w f c h y);
      apart = λ c d p g h x y.
          omega (
            arith,
            f.rests p,
            holds-le p (pairs_of w.lent.claimed),
            two-of (waits p) blank w.t.channels c d g (omega (arith, f.channels)),
            in_range-in (channel_at w.t c).next ((channel_at w.t c).next + (channel_at w.t c).left) p x.1 x.2,
            in_range-in (channel_at w.t d).next ((channel_at w.t d).next + (channel_at w.t d).left) p y.1 y.2,
          );
      held = λ c h y. held-within (channel_at w.t c) (f.stages c h);
      none_held = λ c h y. none_held (channel_at w.t c) (f.stages c h) y;
      bytes_zero = f.bytes_zero;
      rest_zero = λ c h y. rest_zero (channel_at w.t c) (f.stages c h) y;
      count = f.count;
      fault = f.fault;
    }

pub fit-together : (w : World) → Fit w → Together w
fit-together w f =
    record {
      file = f.file;
      entries = f.entries;
      pairs = f.pairs;
      rule = obeyed;
      ends = (ends_at w.t.pairs w.lent.claimed f.entries obeyed w.t.len).1 f.ends;
      doubtful_entries = f.doubtful_entries;
      doubtful_rule = obeyed-too;
      doubts = nested-held (pairs_of w.lent.doubtful) (pairs_of w.lent.claimed)
          ((nested-at w.t.pairs w.lent.claimed w.lent.doubtful f.entries f.doubtful_entries obeyed obeyed-too).1 f.doubtful_inside);
      channels = f.channels;
      heads = f.heads;
      stages = staged;
      bytes_zero = f.bytes_zero;
      rests = rests-of w.t.channels (pairs_of w.lent.claimed) (λ c h. staged c (omega (arith, f.channels)))
          (λ c h y. (inside-at w.t.pairs w.lent.claimed f.entries obeyed (channel_at w.t c).next ((channel_at w.t c).next + (channel_at w.t c).left)
          (omega (arith, f.left c (omega (arith, f.channels)) y))).1 (f.inside c (omega (arith, f.channels)) y)) (λ c d p g h. apart c d p g (omega (arith, f.channels)));
      count = f.count;
      fault = f.fault;
    }
  where
    obeyed : obeys w.lent.claimed ≡ true
    obeyed = (test_is_rule w.t.pairs w.lent.claimed f.entries).1 f.rule

    obeyed-too : obeys w.lent.doubtful ≡ true
    obeyed-too = (test_is_rule w.t.pairs w.lent.doubtful f.doubtful_entries).1 f.doubtful_rule

    staged : (c : ℕ) → c < channel_count → Stage (channel_at w.t c)
    staged c h = stage-of (channel_at w.t c) (f.states c h) (f.left c h) (f.held c h) (f.none_held c h) (f.rest_zero c h)

    apart : (c d p : ℕ) → c < d → d < channel_count → waits p (channel_at w.t c) + waits p (channel_at w.t d) ≤ 1
    apart c d p g h = go (stand j.next (j.next + j.left) p) (stand k.next (k.next + k.left) p)
      where
        j : Channel
        j = channel_at w.t c

        k : Channel
        k = channel_at w.t d

        go : Where j.next (j.next + j.left) p → Where k.next (k.next + k.left) p → waits p j + waits p k ≤ 1
        go (within x y z) (within u v q) =
            absurd (f.apart c d p g h (in_payload j (staged c (omega arith)) (omega arith), x, y) (in_payload k (staged d h) (omega arith), u, v))
        go (within x y z) (under u q) = omega arith
        go (within x y z) (past u v q) = omega arith
        go (under x y) q = omega (arith, in_range-le k.next (k.next + k.left) p)
        go (past x y z) q = omega (arith, in_range-le k.next (k.next + k.left) p)
