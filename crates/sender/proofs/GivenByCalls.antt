-- From every sender that calls give, calls lead to every one that has no less on any channel: so the test holds of the senders that lists of calls
-- leave, and from each of them all endings can be sent.
use Prim.Native.Nat.{ℕ, zero, suc, ◌+◌, ◌-◌, ◌≤◌, ◌<◌}
use mathlib.Core.Path.{◌≡◌, refl, sym, ap, ◌∙◌, subst}
use mathlib.Core.Bool.{true}
use mathlib.Core.List.{List, [], ◌∷◌, ◌++◌}
use native.Mathlib.Omega.{arith}
use native.Mathlib.Decide.{dec_lt, ℕ_discrete}
use native.Mathlib.Nat.{zero-add, add-zero, add-suc, suc-add}
use lib.ListN.{get_or-eq_default, length, get_or, set, replicate, length-set, length-replicate}
use lib.Seq.{ext_get_or, get_or-set_same, get_or-set_other}
use borrow.Author.Tests.{le-ltb}
use Rattle.sender.specs.declared.state.Sender.{Sender}
use Rattle.sender.specs.Sender.{sender_of, given_on, begun, begin_refusal, begin_of, most_on, calls_can_give, NextCall, next_call, next_bytes, next_refusal, moved_on, sender_after}
use Rattle.sender.specs.Calls.{after_calls, EachLends}
use Rattle.sender.specs.Sends.{GivenByCalls, EndingsSent, CanEnd}
use Rattle.sender.proofs.BeginRange.{begins}
use Rattle.sender.proofs.AtMost.{most-below}
use Rattle.sender.proofs.Judged.{not-refused}
use Rattle.sender.proofs.Answered.{number_0, writes}
use Rattle.sender.proofs.SenderSteps.{Handed, test-holds, handed}
use Rattle.sender.proofs.SentCalls.{zeros, begin-is, handed-begin, handed-after, matches, answers-74}

-- ---- lists one after the other

pub after-append : (s : Sender) (ks more : List NextCall) → after_calls s (ks ++ more) ≡ after_calls (after_calls s ks) more
unfolding after_calls
after-append s [] more = refl
after-append s (k ∷ ks) more = after-append (sender_after s k) ks more

lends-append : (file : List ℕ) (ks more : List NextCall) → EachLends file ks → EachLends file more → EachLends file (ks ++ more)
lends-append file [] more h g = g
lends-append file (k ∷ ks) more h g = (h.0, lends-append file ks more h.1 g)

none-from-count : (len count size c : ℕ) → count ≤ c → most_on len count size c ≡ 0
unfolding most_on
none-from-count len count size c h = rw (le-ltb c count h)

module _ (file : List ℕ) (count size : ℕ) where
  -- the sender with these numbers
  abbrev with : List ℕ → Sender
  with g = sender_of (length file) count size g

  abbrev Good : List ℕ → Type 0
  Good g = Handed (length file) count size (with g)

  -- a list of calls that lend this file leads from the one to the other
  abbrev Leads : List ℕ → List ℕ → Type 0
  Leads g to = (ks : List NextCall) × EachLends file ks × (after_calls (with g) ks ≡ with to)

  stays : (g to : List ℕ) → g ≡ to → Leads g to
  unfolding after_calls
  stays g to e = ([], tt, ap with e)

  joined : (a b c : List ℕ) → Leads a b → Leads b c → Leads a c
  joined a b c (ks, l, e) (more, m, f) = (ks ++ more, lends-append file ks more l m, after-append (with a) ks more ∙ ap (λ s. after_calls s more) e ∙ f)

  -- one block more on a channel that can have it
  one_more : (g : List ℕ) (c : ℕ) → Good g → c < count → get_or g c 0 < most_on (length file) count size c → Leads g (set g c (get_or g c 0 + 1))
  unfolding after_calls moved_on next_bytes
  one_more g c h l m = (k ∷ [], ((λ e. refl), tt), sym (writes (with g) k accepted).1)
    where
      k : NextCall
      k = next_call c count size file (next_bytes (with g) (next_call c count size file []))

      accepted : next_refusal (with g) k ≡ 0
      accepted =
          number_0 (with g) k
          (not-refused (with g) k (matches file count size (with g) h c l k.out) l (omega (arith, m, most-below (length file) count size c l)))
          (omega arith)

  -- the numbers with another on one channel
  put : (g : List ℕ) (c v : ℕ) → Good g → c < 64 → v ≤ most_on (length file) count size c → Good (set g c v)
  put g c v h l m =
      record {
        len_is = refl;
        count_is = refl;
        size_is = refl;
        numbers = length-set g c v ∙ h.numbers;
        range = h.range;
        at_most = λ d. by d (ℕ_discrete d c);
      }
    where
      by : (d : ℕ) → Dec (d ≡ c) → get_or (set g c v) d 0 ≤ most_on (length file) count size d
      by d (yes e) = rw e (omega (arith, m, get_or-set_same g c v 0 (omega (arith, l, h.numbers))))
      by d (no n) = omega (arith, get_or-set_other g c d v 0 n, h.at_most d)

  -- n more on one channel
  more-on : (n : ℕ) (g to : List ℕ) (c : ℕ) → Good g → Good to → c < 64 → ((d : ℕ) → (d ≡ c → ⊥) → get_or g d 0 ≡ get_or to d 0) → get_or g c 0 + n ≡ get_or to c 0 → Leads g to
  more-on zero g to c h t l same e = stays g to (ext_get_or 0 g to (h.numbers ∙ sym t.numbers) (λ d m. by d (ℕ_discrete d c)))
    where
      by : (d : ℕ) → Dec (d ≡ c) → get_or g d 0 ≡ get_or to d 0
      by d (yes p) = rw p (omega (arith, e))
      by d (no p) = same d p
  more-on (suc n) g to c h t l same e = joined g next to (one_more g c h below room) (more-on n next to c (put g c _ h l (omega (arith, room))) t l others (omega (arith, here, e)))
    where
      next : List ℕ
      next = set g c (get_or g c 0 + 1)

      room : get_or g c 0 < most_on (length file) count size c
      room = omega (arith, e, t.at_most c)

      here : get_or next c 0 ≡ get_or g c 0 + 1
      here = get_or-set_same g c _ 0 (omega (arith, l, h.numbers))

      others : (d : ℕ) → (d ≡ c → ⊥) → get_or next d 0 ≡ get_or to d 0
      others d p = get_or-set_other g c d _ 0 p ∙ same d p

      below : c < count
      below = by (dec_lt c count)
        where
          by : Dec (c < count) → c < count
          by (yes q) = q
          by (no q) = absurd (omega (arith, room, none-from-count (length file) count size c (omega (arith, q))))

  -- no less on any channel, and the same from channel j on
  pub leads-from : (j : ℕ) (g to : List ℕ) → j ≤ 64 → Good g → Good to → ((c : ℕ) → get_or g c 0 ≤ get_or to c 0) → ((c : ℕ) → j ≤ c → get_or g c 0 ≡ get_or to c 0) → Leads g to
  leads-from zero g to l h t less same = stays g to (ext_get_or 0 g to (h.numbers ∙ sym t.numbers) (λ d m. same d (omega arith)))
  leads-from (suc j) g to l h t less same =
      joined g mid to
      (more-on (get_or to j 0 - get_or g j 0) g mid j h good (omega arith) (λ d n. sym (get_or-set_other g j d _ 0 n)) (omega (arith, less j, here)))
      (leads-from j mid to (omega arith) good t (λ c. less_by c (ℕ_discrete c j)) (λ c m. same_by c m (ℕ_discrete c j)))
    where
      mid : List ℕ
      mid = set g j (get_or to j 0)

      good : Good mid
      good = put g j _ h (omega arith) (t.at_most j)

      here : get_or mid j 0 ≡ get_or to j 0
      here = get_or-set_same g j _ 0 (omega (arith, h.numbers))

      less_by : (c : ℕ) → Dec (c ≡ j) → get_or mid c 0 ≤ get_or to c 0
      less_by c (yes e) = rw e (omega (arith, here))
      less_by c (no n) = omega (arith, get_or-set_other g j c (get_or to j 0) 0 n, less c)

      same_by : (c : ℕ) → j ≤ c → Dec (c ≡ j) → get_or mid c 0 ≡ get_or to c 0
      same_by c m (yes e) = rw e here
      same_by c m (no n) = get_or-set_other g j c (get_or to j 0) 0 n ∙ same c (omega (arith, n))

  pub leads : (g to : List ℕ) → Good g → Good to → ((c : ℕ) → get_or g c 0 ≤ get_or to c 0) → Leads g to
  leads g to h t less = leads-from 64 g to (omega arith) h t less (λ c l. past g h.numbers c l ∙ sym (past to t.numbers c l))
    where
      past : (l : List ℕ) → length l ≡ 64 → (c : ℕ) → 64 ≤ c → get_or l c 0 ≡ 0
      past l e c m = get_or-eq_default l 0 {n = c} (omega (arith, e))

-- ---- the test and the lists

-- for each file of its length, a list that lends no other leaves a sender for which the test holds
by_one_file : (s : Sender) → length s.given ≡ 64 → calls_can_give s ≡ true → (file : List ℕ) → length file ≡ s.len
    → (ks : List NextCall) × EachLends file ks × (after_calls (begin_of s.len s.count s.size) ks ≡ s)
unfolding begun
by_one_file s n e file f = (r.0, r.1, ap (λ b. after_calls b r.0) start ∙ r.2 ∙ whole)
  where
    h : Handed s.len s.count s.size s
    h = handed s n e

    accepted : begin_refusal s.count s.size ≡ 0
    accepted = begins s.count s.size h.range

    start : begin_of s.len s.count s.size ≡ sender_of (length file) s.count s.size (replicate 64 0)
    start = begin-is s.len s.count s.size accepted ∙ ap (λ m. sender_of m s.count s.size (replicate 64 0)) (sym f)

    whole : sender_of (length file) s.count s.size s.given ≡ s
    whole = ap (λ m. sender_of m s.count s.size s.given) f

    r : Leads file s.count s.size (replicate 64 0) s.given
    r =
        leads file s.count s.size (replicate 64 0) s.given
        (rw (← start, f) (handed-begin s.len s.count s.size accepted))
        (rw (whole, f) h)
        (λ c. omega (arith, zeros 64 c))

pub given_by_calls : GivenByCalls
given_by_calls =
    record {
      test_is = λ s n. (
        (λ e.
            let r = by_one_file s n e (replicate s.len 0) (length-replicate {A = ℕ} s.len 0) in
            (s.count, s.size, r.0, begins s.count s.size (handed s n e).range, r.2)),
        (λ (count, size, ks, e, is). subst (λ t. calls_can_give t ≡ true) is (test-holds s.len count size _ (handed-after s.len count size _ (handed-begin s.len count size e) ks))),
      );
      numbers = λ len count size e ks.
          let h = handed-after len count size _ (handed-begin len count size e) ks in
          (h.numbers, h.len_is, h.count_is, h.size_is);
      by_one_file = by_one_file;
    }

-- ---- all endings

-- the numbers f c up to f (c + n - 1)
unfoldable numbers_of : (ℕ → ℕ) → ℕ → ℕ → List ℕ
numbers_of f c zero = []
numbers_of f c (suc n) = f c ∷ numbers_of f (suc c) n

length-numbers : (f : ℕ → ℕ) (c n : ℕ) → length (numbers_of f c n) ≡ n
unfolding numbers_of
length-numbers f c zero = refl
length-numbers f c (suc n) = ap suc (length-numbers f (suc c) n)

numbers-at : (f : ℕ → ℕ) (c n d : ℕ) → d < n → get_or (numbers_of f c n) d 0 ≡ f (c + d)
unfolding numbers_of
numbers-at f c zero d h = absurd (omega arith)
numbers-at f c (suc n) zero h = rw (add-zero c)
numbers-at f c (suc n) (suc d) h = rw (add-suc c d) (rw (suc-add c d) at (numbers-at f (suc c) n d (omega arith)))

ends : (s : Sender) → length s.given ≡ 64 → calls_can_give s ≡ true → (file : List ℕ) → length file ≡ s.len → (ks : List NextCall) × EachLends file ks × EndingsSent (after_calls s ks) file
ends s n e file f = (r.0, r.1, subst (λ t. EndingsSent t file) (sym last) sent)
  where
    count : ℕ
    count = s.count

    size : ℕ
    size = s.size

    to : List ℕ
    to = numbers_of (most_on (length file) count size) 0 64

    h : Handed (length file) count size s
    h = rw f (handed s n e)

    at : (c : ℕ) → c < 64 → get_or to c 0 ≡ most_on (length file) count size c
    at c l = rw (zero-add c) at (numbers-at (most_on (length file) count size) 0 64 c l)

    good : Good file count size to
    good =
        record {
          len_is = refl;
          count_is = refl;
          size_is = refl;
          numbers = length-numbers (most_on (length file) count size) 0 64;
          range = h.range;
          at_most = λ c. by c (dec_lt c 64);
        }
      where
        by : (c : ℕ) → Dec (c < 64) → get_or to c 0 ≤ most_on (length file) count size c
        by c (yes l) = omega (arith, at c l)
        by c (no l) = omega (arith, get_or-eq_default to 0 {n = c} (omega (arith, l, length-numbers (most_on (length file) count size) 0 64)))

    less : (c : ℕ) → given_on s c ≤ get_or to c 0
    less c = by (dec_lt c 64)
      where
        by : Dec (c < 64) → given_on s c ≤ get_or to c 0
        by (yes l) = omega (arith, at c l, h.at_most c)
        by (no l) = omega (arith, get_or-eq_default s.given 0 {n = c} (omega (arith, l, n)))

    whole : with file count size s.given ≡ s
    whole = ap (λ m. sender_of m count size s.given) f

    r : Leads file count size s.given to
    r = leads file count size s.given to (rw whole h) good less

    last : after_calls s r.0 ≡ with file count size to
    last = ap (λ t. after_calls t r.0) (sym whole) ∙ r.2

    sent : EndingsSent (with file count size to) file
    sent c l =
        ([], answers-74 file count size (with file count size to) good c l (at c (omega (arith, l, h.range)) ∙ most-below (length file) count size c l) [])

pub can_end : CanEnd
can_end = record { ends = ends }
