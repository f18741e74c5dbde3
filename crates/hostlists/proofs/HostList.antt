-- A list of host-ports: what each step of reading it says, and what a lent list holds meanwhile.
use Prim.Native.Nat.{ℕ, suc, ◌+◌, ◌-◌, ◌≤◌, ◌<◌}
use Rattle.std.specs.Prelude.{None, Result, Ok, Err}
use mathlib.Core.Path.{◌≡◌, refl, ap, ◌∙◌}
use mathlib.Core.List.{List, [], ◌∷◌, ◌++◌, append-nil}
use native.Mathlib.Omega.{arith}
use native.Mathlib.Nat.{sub-zero}
use native.Mathlib.Numerals.{add-one}
use borrow.Author.Tests.{lt-ltb, le-ltb, eq-eqb, ne_eqb}
use borrow.Rule.Slice.PartMut.{put_mid}
use lib.ListN.{length, get_or, set, take, drop, replicate, length-append, length-take, length-drop, drop_of_length-le}
use lib.Seq.{length-take-le, take-suc-set}
use Rattle.std.specs.Result.{result_unwrap_or}
use Rattle.answers.specs.Refusal.{numbered}
use Rattle.answers.specs.declared.refusal.Refusal.{Refusal}
use Rattle.hostports.specs.HostPort.{read_as, host_port_at}
use Rattle.hostlists.specs.HostList.{short_number, longer_number, host_limit, space, count, ParsedList, parsed, trouble, prepend, host_port_then, list_at, hosts_of, answer_of, host_ports, StoreResult, entries_of, fill_of, fill_after}

-- ---- a list with zeros from an entry on

abbrev pub cleared_from : ℕ → List ℕ → List ℕ
cleared_from from list = take from list ++ replicate (length list - from) 0

-- the part from an entry on, which came back as zeros
pub cleared-part : (list ys : List ℕ) (from : ℕ) → ys ≡ replicate (length (take (length list - from) (drop from list))) 0
    → put_mid from (length list - from) list ys ≡ cleared_from from list
cleared-part list ys from e =
    let h : length (drop from list) ≤ length list - from = simp length-drop (omega arith) in
    let n : length (take (length list - from) (drop from list)) ≡ length list - from = simp (length-take, length-drop) (omega arith) in
    rw (e, n, drop_of_length-le (drop from list) h, append-nil)

-- ---- one step of a list

pub list-malformed : (n : ℕ) (text : List ℕ) (at : ℕ) → host_port_at text at ≡ None → list_at (suc n) text at ≡ trouble 41
unfolding list_at host_port_then
list-malformed n text at e = rw e

module _ (n : ℕ) (text : List ℕ) (at v next : ℕ) (e : host_port_at text at ≡ read_as v next) where
  pub list-ends : next ≡ length text → list_at (suc n) text at ≡ parsed (v ∷ [])
  unfolding list_at host_port_then
  list-ends h = rw (e, eq-eqb next (length text) h)

  pub list-broken : (next ≡ length text → ⊥) → (get_or text next 0 ≡ space → ⊥) → list_at (suc n) text at ≡ trouble 41
  unfolding list_at host_port_then
  list-broken h g = rw (e, ne_eqb next (length text) h, ne_eqb (get_or text next 0) space g)

  pub list-goes-on : (next ≡ length text → ⊥) → get_or text next 0 ≡ space → list_at (suc n) text at ≡ prepend v (list_at n text (next + 1))
  unfolding list_at host_port_then
  list-goes-on h g = rw (e, ne_eqb next (length text) h, eq-eqb (get_or text next 0) space g)

pub list-empty : (n : ℕ) (text : List ℕ) (at : ℕ) → n ≡ 0 → at ≡ length text → list_at n text at ≡ trouble 41
unfolding list_at
list-empty n text at z e = rw (z, eq-eqb at (length text) e)

pub list_full : (n : ℕ) (text : List ℕ) (at : ℕ) → n ≡ 0 → (at ≡ length text → ⊥) → list_at n text at ≡ trouble longer_number
unfolding list_at
list_full n text at z e = rw (z, ne_eqb at (length text) e)

-- ---- the host-ports read so far, and what comes after them

unfoldable pub following : List ℕ → ParsedList → ParsedList
following [] r = r
following (v ∷ vs) r = prepend v (following vs r)

following-trouble : (vs : List ℕ) (k : ℕ) → following vs (trouble k) ≡ trouble k
unfolding following prepend
following-trouble [] k = refl
following-trouble (v ∷ vs) k = rw (following-trouble vs k)

following-parsed : (vs ws : List ℕ) → following vs (parsed ws) ≡ parsed (vs ++ ws)
unfolding following prepend
following-parsed [] ws = refl
following-parsed (v ∷ vs) ws = rw (following-parsed vs ws)

following-snoc : (vs : List ℕ) (v : ℕ) (r : ParsedList) → following (vs ++ (v ∷ [])) r ≡ following vs (prepend v r)
unfolding following
following-snoc [] v r = refl
following-snoc (u ∷ vs) v r = rw (following-snoc vs v r)

-- a host-port more is stored after those read
pub following-more : (list : List ℕ) (n v : ℕ) (r : ParsedList) → n < length list → following (take (n + 1) (set list n v)) r ≡ following (take n list) (prepend v r)
following-more list n v r h = rw (add-one n, take-suc-set list n v) (following-snoc (take n list) v r)

pub stored-trouble : (text list vs : List ℕ) (r : ParsedList) (k : ℕ) → hosts_of text ≡ following vs r → r ≡ trouble k → StoreResult text (Err k) list
unfolding answer_of host_ports
stored-trouble text list vs r k e h =
    let w : hosts_of text ≡ trouble k = e ∙ rw h (following-trouble vs k) in
    record { answers = rw w; after = rw w }

pub stored_last : (text list : List ℕ) (n v : ℕ) (r : ParsedList) → n < length list → hosts_of text ≡ following (take n list) r → r ≡ parsed (v ∷ []) → StoreResult text (Ok (n + 1)) (set list n v)
unfolding answer_of host_ports
stored_last text list n v r h e g =
    let m : take (n + 1) (set list n v) ≡ take n list ++ (v ∷ []) = rw (add-one n, take-suc-set list n v) in
    let w : hosts_of text ≡ parsed (take n list ++ (v ∷ [])) = e ∙ rw g (following-parsed (take n list) (v ∷ [])) in
    let k : length (take n list ++ (v ∷ [])) ≡ n + 1 = simp length-append (omega (arith, length-take-le n list (omega arith))) in
    record { answers = rw (w, k); after = rw (w, k) m }

-- ---- the lent list

count_is : (r : ParsedList) → count (answer_of r) ≡ length (host_ports r)
unfolding answer_of host_ports count
count_is (parsed vs) = refl
count_is (trouble k) = refl

entries-are : (n : ℕ) (r : ParsedList) → entries_of n r ≡ host_ports r ++ replicate (n - length (host_ports r)) 0
unfolding entries_of host_ports
entries-are n (parsed vs) = refl
entries-are n (trouble k) = rw (sub-zero n)

pub fills-short : (text list : List ℕ) → length list < host_limit → (Err short_number ≡ fill_of text list) × (list ≡ fill_after text list)
unfolding fill_of fill_after
fills-short text list h = (rw (lt-ltb (length list) host_limit h), rw (lt-ltb (length list) host_limit h))

module _ (text kept : List ℕ) (r : Result ℕ Refusal) (s : StoreResult text (numbered r) kept) where
  -- how many host-ports were stored, none where the text is refused
  stored : result_unwrap_or r 0 ≡ length (host_ports (hosts_of text))
  unfolding count
  stored = counted r ∙ ap count s.answers ∙ count_is (hosts_of text)
    where
      counted : (q : Result ℕ Refusal) → result_unwrap_or q 0 ≡ count (numbered q)
      counted (Ok n) = refl
      counted (Err k) = refl

  pub stored-fits : result_unwrap_or r 0 ≤ length kept
  stored-fits = omega (arith, stored, ap length s.after, length-take (length (host_ports (hosts_of text))) kept)

  -- the list cleared after them
  pub fills : (list : List ℕ) → host_limit ≤ length list → length kept ≡ length list
      → (numbered r ≡ fill_of text list) × (cleared_from (result_unwrap_or r 0) kept ≡ fill_after text list)
  unfolding fill_of fill_after
  fills list h e =
      (rw (le-ltb (length list) host_limit h) s.answers, rw (le-ltb (length list) host_limit h, entries-are (length list) (hosts_of text), e, stored, s.after))
