-- `HostLists` and `Filling` hold.
use Prim.Native.Nat.{ℕ, ◌-◌, ◌≤◌, ◌<◌}
use mathlib.Core.Path.{◌≡◌, refl, sym, subst, ◌∙◌}
use mathlib.Core.Logic.{◌⊎◌, inl, inr, ⊎_elim}
use mathlib.Core.List.{List, [], ◌∷◌, ◌++◌}
use native.Mathlib.Omega.{arith}
use native.Mathlib.Decide.{dec_lt}
use borrow.Author.Tests.{lt-ltb, le-ltb}
use mathlib.Core.Bool.{false}
use lib.Dec.{ltb}
use lib.ListN.{length, get_or, replicate}
use Rattle.answers.specs.Refusal.{number_in}
use Rattle.hostports.specs.HostPort.{host_port_at, refusal_number as host_port_number}
use Rattle.hostports.specs.HostPorts.{HostPortNumerals}
use Rattle.hostlists.specs.HostList.{host_limit, ParsedList, parsed, trouble, hosts_of, answer_of, entries_of, fill_of, fill_after, count}
use Rattle.hostlists.specs.HostLists.{with_spaces, space_after_each, values, ListText, LongerText, TooShort, HostLists, Filling}
use Rattle.hostlists.proofs.HostListsRead.{reads-list, reads-longer, reads_malformed, ReadList, ReadLonger, Read, read-list}
use Rattle.hostlists.proofs.HostListsOnce.{same_text, same_entries, values-not-0}

-- ---- what a text is read as

read-hosts : (text : List ℕ) → Read host_limit text 0 (hosts_of text)
unfolding hosts_of
read-hosts text = read-list host_limit text 0 (omega arith)

reads : (text : List ℕ) (l : ListText text) → hosts_of text ≡ parsed (values l.hosts)
unfolding hosts_of
reads text l = go l.hosts l.one_or_more l.at_most_64 l.says
  where
    go : (hosts : List HostPortNumerals) → 1 ≤ length hosts → length hosts ≤ 64 → text ≡ with_spaces hosts → hosts_of text ≡ parsed (values hosts)
    go [] a b e = absurd (omega arith)
    go (h ∷ hs) a b e = reads-list host_limit text 0 h hs (omega arith) e

only : (text vs : List ℕ) → hosts_of text ≡ parsed vs → (l : ListText text) × (vs ≡ values l.hosts)
only text vs e =
    let r : ReadList host_limit text 0 vs = subst (Read host_limit text 0) e (read-hosts text) in
    (record { hosts = r.h ∷ r.hs; one_or_more = omega arith; at_most_64 = omega arith; says = r.there }, r.are_values)

longer : (text : List ℕ) → LongerText text → hosts_of text ≡ trouble 42
unfolding hosts_of
longer text l = reads-longer host_limit text 0 l.hosts l.further l.rest l.are_64 l.says

longer-text : (text : List ℕ) → ReadLonger host_limit text 0 → LongerText text
longer-text text r = record { hosts = r.hs; further = r.further; rest = r.rest; are_64 = r.are; says = r.there }

malformed : (text : List ℕ) (hosts : List HostPortNumerals) (rest : List ℕ) → length hosts < 64 → text ≡ space_after_each hosts rest → host_port_number (host_port_at rest 0) ≡ 41 → hosts_of text ≡ trouble 41
unfolding hosts_of
malformed text hosts rest few e h = reads_malformed host_limit text 0 hosts rest few e h

-- the two numbers of a trouble
which : (text : List ℕ) (k : ℕ) → hosts_of text ≡ trouble k → (k ≡ 41) ⊎ ((k ≡ 42) × LongerText text)
which text k e = go (subst (Read host_limit text 0) e (read-hosts text))
  where
    go : Read host_limit text 0 (trouble k) → (k ≡ 41) ⊎ ((k ≡ 42) × LongerText text)
    go (inl z) = inl z
    go (inr m) = inr (m.0, longer-text text m.1)

only-longer-text : (text : List ℕ) → hosts_of text ≡ trouble 42 → LongerText text
only-longer-text text e = go (which text 42 e)
  where
    go : (◌≡◌ {A = ℕ} 42 41) ⊎ ((◌≡◌ {A = ℕ} 42 42) × LongerText text) → LongerText text
    go (inl z) = absurd (omega arith)
    go (inr m) = m.1

others : (text : List ℕ) → (ListText text → ⊥) → (LongerText text → ⊥) → hosts_of text ≡ trouble 41
others text no-list no_longer = go (hosts_of text) refl
  where
    one : (k : ℕ) → (k ≡ 41) ⊎ ((k ≡ 42) × LongerText text) → trouble k ≡ trouble 41
    one k (inl z) = rw z
    one k (inr m) = absurd (no_longer m.1)

    go : (r : ParsedList) → hosts_of text ≡ r → r ≡ trouble 41
    go (parsed vs) e = absurd (no-list (only text vs e).0)
    go (trouble k) e = one k (which text k e)

length-values : (hs : List HostPortNumerals) → length (values hs) ≡ length hs
unfolding values
length-values [] = refl
length-values (h ∷ hs) = rw (length-values hs)

once : (s t vs : List ℕ) → hosts_of s ≡ parsed vs → hosts_of t ≡ parsed vs → s ≡ t
once s t vs d e =
    let p = only s vs d in
    let q = only t vs e in
    p.0.says ∙ same_text p.0.hosts q.0.hosts (sym p.1 ∙ q.1) ∙ sym q.0.says

pub host-lists : HostLists
host-lists =
    record {
      one_to_64 = λ text vs e. sized text vs (only text vs e);
      list_reads = reads;
      only_lists = only;
      longer_42 = longer;
      only_longer = only-longer-text;
      others_41 = others;
      malformed_41 = malformed;
      no_other_trouble = λ text k e. first (which text k e);
      one_text = once;
    }
  where
    sized : (text vs : List ℕ) → (l : ListText text) × (vs ≡ values l.hosts) → (1 ≤ length vs) × (length vs ≤ 64)
    sized text vs o = rw (o.1, length-values o.0.hosts) (o.0.one_or_more, o.0.at_most_64)

    first : {A : Type 0} {k : ℕ} → (k ≡ 41) ⊎ ((k ≡ 42) × A) → (k ≡ 41) ⊎ (k ≡ 42)
    first (inl z) = inl z
    first (inr m) = inr m.0

-- ---- what filling a lent list answers and leaves

short : (text list : List ℕ) → TooShort list → (number_in (fill_of text list) ≡ 43) × (count (fill_of text list) ≡ 0) × (fill_after text list ≡ list)
unfolding fill_of fill_after count
short text list h =
    let test = lt-ltb (length list) host_limit h in
    (rw test, rw test, rw test)

module _ (text list : List ℕ) (h : TooShort list → ⊥) where
  long-enough : ltb (length list) host_limit ≡ false
  long-enough = le-ltb (length list) host_limit (omega arith)

  refused : (k : ℕ) → hosts_of text ≡ trouble k → (number_in (fill_of text list) ≡ k) × (count (fill_of text list) ≡ 0) × (fill_after text list ≡ replicate (length list) 0)
  unfolding fill_of fill_after count answer_of entries_of
  refused k e = (rw (long-enough, e), rw (long-enough, e), rw (long-enough, e))

  accepted : (l : ListText text)
      → (number_in (fill_of text list) ≡ 0)
      × (count (fill_of text list) ≡ length l.hosts)
      × (fill_after text list ≡ values l.hosts ++ replicate (length list - length l.hosts) 0)
  unfolding fill_of fill_after count answer_of entries_of
  accepted l =
      let e = reads text l in
      let n = length-values l.hosts in
      (rw (long-enough, e), rw (long-enough, e) n, rw (long-enough, e, n))

-- a text that is not refused is a list, and the lent list has its host-ports and then zeros
filled : (text list : List ℕ) → number_in (fill_of text list) ≡ 0 → (l : ListText text) × (fill_after text list ≡ values l.hosts ++ replicate (length list - length l.hosts) 0)
filled text list h = go (dec_lt (length list) host_limit) (hosts_of text) refl
  where
    go : Dec (length list < host_limit) → (r : ParsedList) → hosts_of text ≡ r → (l : ListText text) × (fill_after text list ≡ values l.hosts ++ replicate (length list - length l.hosts) 0)
    go (yes s) r e = absurd (omega (arith, h, (short text list s).0))
    go (no s) (parsed vs) e =
        let l = (only text vs e).0 in
        (l, (accepted text list s l).2)
    go (no s) (trouble k) e = absurd (⊎_elim (λ z. omega (arith, z, h, (refused text list s k e).0)) (λ m. omega (arith, m.0, h, (refused text list s k e).0)) (which text k e))

filled-once : (s t list other : List ℕ) → number_in (fill_of s list) ≡ 0 → number_in (fill_of t other) ≡ 0 → ((i : ℕ) → get_or (fill_after s list) i 0 ≡ get_or (fill_after t other) i 0) → s ≡ t
filled-once s t list other d e same =
    let p = filled s list d in
    let q = filled t other e in
    let entries = same_entries _ _ _ _ (length list - length p.0.hosts) (length other - length q.0.hosts) p.1 q.1 (values-not-0 p.0.hosts) (values-not-0 q.0.hosts) same in
    p.0.says ∙ same_text p.0.hosts q.0.hosts entries ∙ sym q.0.says

pub filling : Filling
filling =
    record {
      number_43 = short;
      number_41 = λ text list h no-list no_longer. refused text list h 41 (others text no-list no_longer);
      number_42 = λ text list h l. refused text list h 42 (longer text l);
      number_0 = accepted;
      one_text = filled-once;
    }
