-- What keeps FIT: a channel's new state, a fault, a count, a stored byte, and a claim.
use Prim.Native.Nat.{ℕ, ◌+◌, ◌*◌, ◌-◌, ◌≤◌, ◌<◌, max}
use mathlib.Core.Path.{◌≡◌, refl, sym, ap, ◌∙◌}
use mathlib.Core.Logic.{inl, inr, ◌≢◌}
use mathlib.Core.Bool.{Bool, true, false, cond}
use mathlib.Core.List.{List, ◌++◌}
use native.Mathlib.Omega.{arith}
use native.Mathlib.Decide.{ℕ_discrete, dec_lt}
use lib.Dec.{eqb}
use lib.ListN.{length, get_or, set, take, drop, length-append, length-drop, length-set, get_or-append}
use lib.Seq.{length-take-le, get_or-append-add, get_or-set_same, get_or-set_other, get_or-take, get_or-drop}
use Rattle.ledger.specs.Pairs.{size, in_range, contains, ObeyFrom, join, ends_at_most}
use Rattle.ledger.specs.Ledger.{obeys, pairs_of}
use Rattle.ledger.proofs.PairsJoin.{join-holds, join-ruled, join-ends}
use Rattle.ledger.proofs.LedgerLayout.{length-laid_out, pairs_of-laid_out, rule-laid_out}
use Rattle.eblock.specs.Header.{count_limit}
use Rattle.transfer.specs.Channel.{channel_count, held_limit, blank, State, next_place, bytes_left, held_bytes, encode_state, channel_at, put_state, put_fault, put_count}
use Rattle.transfer.specs.Transfer.{sum, one_if_ended, one_if_active, ended_of, used_of, World, world, with_transfer}
use Rattle.transfer.specs.Receive.{with_range, claim_range}
use Rattle.transfer.specs.Fitting.{CountSays}
use Rattle.transfer.proofs.ChannelReadBack.{length-held_bytes}
use Rattle.transfer.proofs.Sums.{sum-set}
use Rattle.transfer.proofs.FitChannelKinds.{Stage, waits, state-known}
use Rattle.transfer.proofs.FitByChannel.{Together, ruled}
use Rattle.transfer.proofs.FitUsed.{one_if_used, used-one}
use Rattle.transfer.proofs.FitStates.{Steady, steady-stands, steady-stage, steady-zero}

-- ---- a part of a list written over

module _ (l m : List ℕ) (a n : ℕ) (e : length m ≡ n) (h : a + n ≤ length l) where
  abbrev written : List ℕ
  written = take a l ++ (m ++ drop (a + n) l)

  front : length (take a l) ≡ a
  front = length-take-le a l (omega arith)

  written-length : length written ≡ length l
  written-length = omega (arith, length-append (take a l) (m ++ drop (a + n) l), length-append m (drop (a + n) l), length-drop (a + n) l, front)

  behind-front : (i : ℕ) → get_or written (a + i) 0 ≡ get_or (m ++ drop (a + n) l) i 0
  behind-front i = ap (λ k. get_or written (k + i) 0) (sym front) ∙ get_or-append-add (take a l) (m ++ drop (a + n) l) i 0

  written-here : (i : ℕ) → i < n → get_or written (a + i) 0 ≡ get_or m i 0
  written-here i g = behind-front i ∙ get_or-append m (drop (a + n) l) 0 i (omega arith)

  written_below : (j : ℕ) → j < a → get_or written j 0 ≡ get_or l j 0
  written_below j g = get_or-append (take a l) (m ++ drop (a + n) l) 0 j (omega (arith, front)) ∙ get_or-take a l j 0 g

  written-above : (j : ℕ) → a + n ≤ j → get_or written j 0 ≡ get_or l j 0
  written-above j g =
      let i = j - (a + n) in
      let u : j ≡ a + (n + i) = omega arith in
      let v : a + n + i ≡ j = omega arith in
      ap (λ k. get_or written k 0) u ∙ behind-front (n + i) ∙ ap (λ k. get_or (m ++ drop (a + n) l) (k + i) 0) (sym e) ∙ get_or-append-add m (drop (a + n) l) i 0
      ∙ get_or-drop (a + n) l i 0 ∙ ap (λ k. get_or l k 0) v

-- ---- the transfer changed

-- the count allows that channel c is in use
abbrev pub Room : World → ℕ → Type 0
Room w c = 0 < w.t.count → used_of w.t < w.t.count + one_if_used (channel_at w.t c)

module _ (w : World) (f : Together w) (c : ℕ) (h : c < channel_count) where
  pub put_keeps : (x : State) → Steady x → Room w c
      → ((p : ℕ) → sum (waits p) w.t.channels + in_range (next_place x) (next_place x + bytes_left x) p ≤ contains p (pairs_of w.lent.claimed) + waits p (channel_at w.t c))
      → Together (with_transfer w (put_state w.t c x))
  unfolding put_state
  put_keeps x s room r =
      record {
        file = f.file;
        entries = f.entries;
        pairs = f.pairs;
        rule = f.rule;
        ends = f.ends;
        doubtful_entries = f.doubtful_entries;
        doubtful_rule = f.doubtful_rule;
        doubts = f.doubts;
        channels = length-set w.t.channels c (encode_state x) ∙ f.channels;
        heads = written-length w.t.heads (held_bytes x) (held_limit * c) held_limit bytes fit ∙ f.heads;
        stages = λ d g. staged d g (ℕ_discrete d c);
        bytes_zero = λ d i g u v. zeroed d i g u v (ℕ_discrete d c);
        rests = λ p. omega (arith, r p, sum-set (waits p) blank w.t.channels c (encode_state x) row, same_rest p);
        count = counted f.count;
        fault = f.fault;
      }
    where
      row : c < length w.t.channels
      row = omega (arith, f.channels)

      bytes : length (held_bytes x) ≡ held_limit
      bytes = length-held_bytes x (steady-stands x s)

      fit : held_limit * c + held_limit ≤ length w.t.heads
      fit = omega (arith, f.heads)

      same_rest : (p : ℕ) → waits p (encode_state x) ≡ in_range (next_place x) (next_place x + bytes_left x) p
      same_rest p = unfold encode_state in refl

      here : get_or (set w.t.channels c (encode_state x)) c blank ≡ encode_state x
      here = get_or-set_same w.t.channels c (encode_state x) blank row

      elsewhere : (d : ℕ) → d ≢ c → get_or (set w.t.channels c (encode_state x)) d blank ≡ channel_at w.t d
      elsewhere d n = get_or-set_other w.t.channels c d (encode_state x) blank n

      staged : (d : ℕ) → d < channel_count → Dec (d ≡ c) → Stage (get_or (set w.t.channels c (encode_state x)) d blank)
      staged d g (yes e) = rw (e, here) (steady-stage x s)
      staged d g (no n) = rw (elsewhere d n) (f.stages d g)

      zeroed : (d i : ℕ) → d < channel_count → (get_or (set w.t.channels c (encode_state x)) d blank).held ≤ i → i < held_limit → Dec (d ≡ c)
          → get_or (written w.t.heads (held_bytes x) (held_limit * c) held_limit bytes fit) (held_limit * d + i) 0 ≡ 0
      zeroed d i g u v (yes e) = rw e (written-here w.t.heads (held_bytes x) (held_limit * c) held_limit bytes fit i v ∙ steady-zero x i (unfold encode_state in rw (e, here) at u) v)
      zeroed d i g u v (no n) = same (dec_lt d c) ∙ f.bytes_zero d i g (rw (elsewhere d n) at u) v
        where
          same : Dec (d < c) → get_or (written w.t.heads (held_bytes x) (held_limit * c) held_limit bytes fit) (held_limit * d + i) 0 ≡ get_or w.t.heads (held_limit * d + i) 0
          same (yes y) = written_below w.t.heads (held_bytes x) (held_limit * c) held_limit bytes fit (held_limit * d + i) (omega arith)
          same (no y) = written-above w.t.heads (held_bytes x) (held_limit * c) held_limit bytes fit (held_limit * d + i) (omega arith)

      at_most_one : (b : Bool) → cond b 0 1 ≤ 1
      at_most_one true = omega arith
      at_most_one false = omega arith

      counted : CountSays w.t → CountSays (put_state w.t c x)
      counted (inl z) = inl z
      counted (inr q) =
          inr (
            q.0,
            q.1,
            (unfold used_of ended_of in
                omega (
                  arith,
                  room q.0,
                  sum-set one_if_ended blank w.t.channels c (encode_state x) row,
                  sum-set one_if_active blank w.t.channels c (encode_state x) row,
                  used-one (channel_at w.t c) (state-known (channel_at w.t c) (f.stages c h)),
                  used-one (encode_state x) (state-known (encode_state x) (steady-stage x s)),
                  at_most_one (eqb (encode_state x).state 0),
                )),
          )

  pub fault-keeps : (k : ℕ) → 11 ≤ k → k ≤ 19 → Together (with_transfer w (put_fault w.t k c))
  unfolding put_fault used_of ended_of
  fault-keeps k u v =
      record {
        file = f.file;
        entries = f.entries;
        pairs = f.pairs;
        rule = f.rule;
        ends = f.ends;
        doubtful_entries = f.doubtful_entries;
        doubtful_rule = f.doubtful_rule;
        doubts = f.doubts;
        channels = f.channels;
        heads = f.heads;
        stages = f.stages;
        bytes_zero = f.bytes_zero;
        rests = f.rests;
        count = f.count;
        fault = inr (u, v, h);
      }

module _ (w : World) (f : Together w) where
  pub count-keeps : (n : ℕ) → 0 < n → n ≤ count_limit → used_of w.t ≤ n → Together (with_transfer w (put_count w.t n))
  unfolding put_count used_of ended_of
  count-keeps n u v x =
      record {
        file = f.file;
        entries = f.entries;
        pairs = f.pairs;
        rule = f.rule;
        ends = f.ends;
        doubtful_entries = f.doubtful_entries;
        doubtful_rule = f.doubtful_rule;
        doubts = f.doubts;
        channels = f.channels;
        heads = f.heads;
        stages = f.stages;
        bytes_zero = f.bytes_zero;
        rests = f.rests;
        count = inr (u, v, x);
        fault = f.fault;
      }

  -- ---- file or ledgers changed

  lent-keeps : (file claimed doubtful : List ℕ) → length file ≡ length w.lent.file → length claimed ≡ 2 * w.t.pairs → obeys claimed ≡ true → ends_at_most w.t.len (pairs_of claimed) ≡ true
      → ((p : ℕ) → contains p (pairs_of w.lent.claimed) ≤ contains p (pairs_of claimed))
      → length doubtful ≡ 2 * w.t.pairs → obeys doubtful ≡ true → ((p : ℕ) → contains p (pairs_of doubtful) ≤ contains p (pairs_of claimed)) → Together (world w.t file claimed doubtful)
  lent-keeps file claimed doubtful l n o e m n' o' d =
      record {
        file = l ∙ f.file;
        entries = n;
        pairs = f.pairs;
        rule = o;
        ends = e;
        doubtful_entries = n';
        doubtful_rule = o';
        doubts = d;
        channels = f.channels;
        heads = f.heads;
        stages = f.stages;
        bytes_zero = f.bytes_zero;
        rests = λ p. omega (arith, f.rests p, m p);
        count = f.count;
        fault = f.fault;
      }

  pub store_keeps : (p b : ℕ) → Together (world w.t (set w.lent.file p b) w.lent.claimed w.lent.doubtful)
  store_keeps p b =
      lent-keeps (set w.lent.file p b) w.lent.claimed w.lent.doubtful (length-set w.lent.file p b) f.entries f.rule f.ends (λ p. omega arith) f.doubtful_entries f.doubtful_rule f.doubts

-- a range put into a ledger of R pairs that obeys the rule and has room for it
module _ (R : ℕ) (l : List ℕ) (o : obeys l ≡ true) (s e : ℕ) (g : s < e) (k : size (join s e (pairs_of l)) ≤ R) where
  joined-ruled : ObeyFrom 0 (join s e (pairs_of l))
  joined-ruled = join-ruled s e 0 (pairs_of l) g (omega arith) (ruled l o)

  with-pairs : pairs_of (with_range R s e l) ≡ join s e (pairs_of l)
  unfolding with_range
  with-pairs = pairs_of-laid_out R 0 (join s e (pairs_of l)) joined-ruled k

  pub with-holds : (p : ℕ) → contains p (pairs_of (with_range R s e l)) ≡ max (in_range s e p) (contains p (pairs_of l))
  with-holds p = ap (contains p) with-pairs ∙ join-holds s e 0 p (pairs_of l) g (ruled l o)

  with_entries : length (with_range R s e l) ≡ 2 * R
  unfolding with_range
  with_entries = length-laid_out R (join s e (pairs_of l))

  with-rule : obeys (with_range R s e l) ≡ true
  unfolding with_range obeys
  with-rule = rule-laid_out R 0 (join s e (pairs_of l)) joined-ruled

module _ (w : World) (f : Together w) (s e : ℕ) (g : s < e) (k : size (join s e (pairs_of w.lent.claimed)) ≤ w.t.pairs) (q : e ≤ w.t.len) where
  holds : (p : ℕ) → contains p (pairs_of (with_range w.t.pairs s e w.lent.claimed)) ≡ max (in_range s e p) (contains p (pairs_of w.lent.claimed))
  holds p = with-holds w.t.pairs w.lent.claimed f.rule s e g k p

  ends-kept : ends_at_most w.t.len (pairs_of (with_range w.t.pairs s e w.lent.claimed)) ≡ true
  ends-kept = rw (with-pairs w.t.pairs w.lent.claimed f.rule s e g k) (join-ends s e w.t.len (pairs_of w.lent.claimed) q f.ends)

  -- the claimed ledger with the range, and another doubtful one
  claimed-keeps : (doubtful : List ℕ) → length doubtful ≡ 2 * w.t.pairs → obeys doubtful ≡ true
      → ((p : ℕ) → contains p (pairs_of doubtful) ≤ contains p (pairs_of (with_range w.t.pairs s e w.lent.claimed)))
      → Together (world w.t w.lent.file (with_range w.t.pairs s e w.lent.claimed) doubtful)
  claimed-keeps doubtful n o d =
      lent-keeps w f w.lent.file (with_range w.t.pairs s e w.lent.claimed) doubtful refl (with_entries w.t.pairs w.lent.claimed f.rule s e g k) (with-rule w.t.pairs w.lent.claimed f.rule s e g k)
      ends-kept (λ p. omega (arith, holds p)) n o d

  pub claim-keeps : (doubt : Bool) → (doubt ≡ true → size (join s e (pairs_of w.lent.doubtful)) ≤ w.t.pairs) → Together (claim_range w s e doubt)
  unfolding claim_range
  claim-keeps false d = claimed-keeps w.lent.doubtful f.doubtful_entries f.doubtful_rule (λ p. omega (arith, f.doubts p, holds p))
  claim-keeps true d =
      let R = w.t.pairs in
      let l = w.lent.doubtful in
      claimed-keeps (with_range R s e l) (with_entries R l f.doubtful_rule s e g (d refl)) (with-rule R l f.doubtful_rule s e g (d refl))
      (λ p. omega (arith, with-holds R l f.doubtful_rule s e g (d refl) p, f.doubts p, holds p))
