-- A text of host-ports with one space between reads as their list, and what reads as one is written so.
use Prim.Native.Nat.{ℕ, zero, suc, ◌+◌, ◌≤◌, ◌<◌}
use Rattle.std.specs.Prelude.{Option, Some, None}
use mathlib.Core.Path.{◌≡◌, refl, sym, ap, subst, ◌∙◌}
use mathlib.Core.Bool.{Bool, true, false, cond}
use mathlib.Core.Logic.{◌⊎◌, inl, inr}
use mathlib.Core.List.{List, [], ◌∷◌, ◌++◌, append-nil}
use native.Mathlib.Omega.{arith}
use borrow.Author.Tests.{eqb-true, eqb-false}
use lib.Dec.{eqb}
use lib.ListN.{length, get_or, drop, length-drop, drop_of_length-le}
use lib.Seq.{drop-cons}
use Rattle.hostports.specs.HostPort.{read_as, host_port_at, refusal_number as host_port_number}
use Rattle.hostports.specs.HostPorts.{HostPortNumerals, host_port_text, WrittenAt}
use Rattle.hostports.specs.declared.host_port.Parsed.{Parsed}
use Rattle.hostports.proofs.HostPorts.{host-ports}
use Rattle.hostports.proofs.HostPortsWritten.{after, byte-is, written-some}
use Rattle.hostports.proofs.HostPortsRead.{byte-there}
use Rattle.hostlists.specs.HostList.{space, ParsedList, parsed, trouble, prepend, host_port_then, list_at}
use Rattle.hostlists.specs.HostLists.{with_spaces, space_after_each, value, values}
use Rattle.hostlists.proofs.HostList.{list-malformed, list-ends, list-goes-on, list_full}

-- ---- a place of a text, and what is there

-- a text ends after a part that nothing follows
ends_there : (text : List ℕ) (at : ℕ) (part : List ℕ) → 1 ≤ length part → drop at text ≡ part → at + length part ≡ length text
ends_there text at part h e = omega (arith, length-drop at text, ap length e)

-- a place where a byte is comes before the end
place_inside : (text : List ℕ) (at b : ℕ) (rest : List ℕ) → drop at text ≡ b ∷ rest → at < length text
place_inside text at b rest e = omega (arith, length-drop at text, ap length e)

-- ---- from the host-ports to what is read

module _ (n : ℕ) (text : List ℕ) (at : ℕ) (h : HostPortNumerals) where
  -- the last host-port of a text
  last-reads : drop at text ≡ host_port_text h → list_at (suc n) text at ≡ parsed (value h ∷ [])
  last-reads e =
      let found = host-ports.written_reads text at h (record { rest = []; there = e ∙ sym (append-nil (host_port_text h)); no_digit = tt }) in
      list-ends n text at _ _ found (ends_there text at (host_port_text h) (written-some h) e)

  module _ (rest : List ℕ) (e : drop at text ≡ host_port_text h ++ 32 ∷ rest) where
    -- a space after a host-port, and what comes after the space
    space-there : drop (at + length (host_port_text h)) text ≡ 32 ∷ rest
    space-there = after text at (host_port_text h) (32 ∷ rest) e

    after-space : drop (at + length (host_port_text h) + 1) text ≡ rest
    after-space = after text (at + length (host_port_text h)) (32 ∷ []) rest space-there

    one-reads : list_at (suc n) text at ≡ prepend (value h) (list_at n text (at + length (host_port_text h) + 1))
    one-reads =
        let place = at + length (host_port_text h) in
        let found = host-ports.written_reads text at h (record { rest = 32 ∷ rest; there = e; no_digit = refl }) in
        let inside : place < length text = place_inside text place 32 rest space-there in
        list-goes-on n text at _ _ found (λ z. omega arith) (byte-is text place 32 rest space-there)

pub reads-list : (n : ℕ) (text : List ℕ) (at : ℕ) (h : HostPortNumerals) (hs : List HostPortNumerals) → length hs < n → drop at text ≡ with_spaces (h ∷ hs) → list_at n text at ≡ parsed (values (h ∷ hs))
unfolding with_spaces values prepend
reads-list zero text at h hs l e = absurd (omega arith)
reads-list (suc n) text at h [] l e = last-reads n text at h e
reads-list (suc n) text at h (i ∷ hs) l e = one-reads n text at h (with_spaces (i ∷ hs)) e ∙ rw (reads-list n text (at + length (host_port_text h) + 1) i hs (omega arith) (after-space n text at h (with_spaces (i ∷ hs)) e))

pub reads-longer : (n : ℕ) (text : List ℕ) (at : ℕ) (hs : List HostPortNumerals) (b : ℕ) (rest : List ℕ) → length hs ≡ n → drop at text ≡ space_after_each hs (b ∷ rest) → list_at n text at ≡ trouble 42
unfolding space_after_each prepend
reads-longer zero text at [] b rest l e = list_full 0 text at refl (λ z. omega (arith, place_inside text at b rest e))
reads-longer (suc n) text at [] b rest l e = absurd (omega arith)
reads-longer zero text at (h ∷ hs) b rest l e = absurd (omega arith)
reads-longer (suc n) text at (h ∷ hs) b rest l e =
    one-reads n text at h (space_after_each hs (b ∷ rest)) e
    ∙ rw (reads-longer n text (at + length (host_port_text h) + 1) hs b rest (omega arith) (after-space n text at h (space_after_each hs (b ∷ rest)) e))

-- whether a host-port is malformed depends on what the text has from its place on
malformed-there : (text : List ℕ) (at : ℕ) (rest : List ℕ) → drop at text ≡ rest → host_port_number (host_port_at rest 0) ≡ 41 → host_port_at text at ≡ None
unfolding host_port_number
malformed-there text at rest e h = malformed (host_port_at text at) (host-ports.number_41 text at none).0
  where
    none : (i : HostPortNumerals) → WrittenAt text at i → ⊥
    none i w =
        let z = (host-ports.number_0 rest 0 i (record { rest = w.rest; there = sym e ∙ w.there; no_digit = w.no_digit })).0 in
        omega (arith, z, h)

    malformed : (s : Option Parsed) → host_port_number s ≡ 41 → s ≡ None
    malformed None e = refl
    malformed (Some p) e = absurd (omega arith)

pub reads_malformed : (n : ℕ) (text : List ℕ) (at : ℕ) (hs : List HostPortNumerals) (rest : List ℕ) → length hs < n → drop at text ≡ space_after_each hs rest → host_port_number (host_port_at rest 0) ≡ 41
    → list_at n text at ≡ trouble 41
unfolding space_after_each prepend
reads_malformed zero text at hs rest l e h = absurd (omega arith)
reads_malformed (suc n) text at [] rest l e h = list-malformed n text at (malformed-there text at rest e h)
reads_malformed (suc n) text at (i ∷ hs) rest l e h =
    one-reads n text at i (space_after_each hs rest) e
    ∙ rw (reads_malformed n text (at + length (host_port_text i) + 1) hs rest (omega arith) (after-space n text at i (space_after_each hs rest) e) h)

-- ---- from what is read to the host-ports

-- what a text says from a place on, with room for n host-ports: host-ports that are written there, 41, or 42 after n host-ports
pub record ReadList (n : ℕ) (text : List ℕ) (at : ℕ) (vs : List ℕ) : Type 0 where
  pub h : HostPortNumerals
  pub hs : List HostPortNumerals
  pub room : length hs < n
  pub there : drop at text ≡ with_spaces (h ∷ hs)
  pub are_values : vs ≡ values (h ∷ hs)

pub record ReadLonger (n : ℕ) (text : List ℕ) (at : ℕ) : Type 0 where
  pub hs : List HostPortNumerals
  pub further : ℕ
  pub rest : List ℕ
  pub are : length hs ≡ n
  pub there : drop at text ≡ space_after_each hs (further ∷ rest)

abbrev pub Read : ℕ → List ℕ → ℕ → ParsedList → Type 0
Read n text at (parsed vs) = ReadList n text at vs
Read n text at (trouble k) = (k ≡ 41) ⊎ ((k ≡ 42) × ReadLonger n text at)

-- a host-port and a space come before
read-prepend : (n : ℕ) (text : List ℕ) (at next : ℕ) (h : HostPortNumerals) (r : ParsedList) → drop at text ≡ host_port_text h ++ 32 ∷ drop next text → Read n text next r → Read (suc n) text at (prepend (value h) r)
unfolding prepend with_spaces values space_after_each
read-prepend n text at next h (parsed vs) e m = record { h = h; hs = m.h ∷ m.hs; room = omega arith; there = e ∙ rw m.there; are_values = rw m.are_values }
read-prepend n text at next h (trouble k) e (inl z) = inl z
read-prepend n text at next h (trouble k) e (inr m) = inr (m.0, record { hs = h ∷ m.1.hs; further = m.1.further; rest = m.1.rest; are = omega arith; there = e ∙ rw m.1.there })

-- a host-port that is read, and what comes after it
read_found : (n : ℕ) (text : List ℕ) (at : ℕ) (h : HostPortNumerals) (on : ℕ → ParsedList) → WrittenAt text at h → ((place : ℕ) → place ≤ length text → Read n text place (on place))
    → Read (suc n) text at (host_port_then text (read_as (value h) (at + length (host_port_text h))) on)
unfolding host_port_then with_spaces values
read_found n text at h on w more = go (eqb next (length text)) refl (eqb (get_or text next 0) space) refl
  where
    next : ℕ
    next = at + length (host_port_text h)

    here : drop next text ≡ w.rest
    here = after text at (host_port_text h) w.rest w.there

    go : (t : Bool) → eqb next (length text) ≡ t → (u : Bool) → eqb (get_or text next 0) space ≡ u
        → Read (suc n) text at (cond t (parsed (value h ∷ [])) (cond u (prepend (value h) (on (next + 1))) (trouble 41)))
    go true p u q =
        let end : length text ≤ next = omega (arith, eqb-true next (length text) p) in
        let none : w.rest ≡ [] = sym here ∙ drop_of_length-le text end in
        record { h = h; hs = []; room = omega arith; there = w.there ∙ rw (none, append-nil); are_values = refl }
    go false p true q =
        let byte : drop next text ≡ 32 ∷ drop (next + 1) text = byte-there text next 32 (omega arith) (eqb-true (get_or text next 0) space q) in
        let inside : next < length text = place_inside text next 32 (drop (next + 1) text) byte in
        read-prepend n text at (next + 1) h (on (next + 1)) (w.there ∙ rw (← here, byte)) (more (next + 1) (omega arith))
    go false p false q = inl refl

same-host-port : {v w p q : ℕ} → v ≡ w → p ≡ q → read_as v p ≡ read_as w q
same-host-port e d = rw (e, d)

read-then : (n : ℕ) (text : List ℕ) (at : ℕ) (on : ℕ → ParsedList) (s : Option Parsed) → host_port_at text at ≡ s → ((place : ℕ) → place ≤ length text → Read n text place (on place))
    → Read (suc n) text at (host_port_then text s on)
unfolding host_port_then
read-then n text at on None e more = inl refl
read-then n text at on (Some p) e more =
    let f = host-ports.reads_written text at p.value p.next e in
    subst (λ (s : Option Parsed). Read (suc n) text at (host_port_then text s on)) (same-host-port (sym f.2) (sym f.3)) (read_found n text at f.0 on f.1 more)

pub read-list : (n : ℕ) (text : List ℕ) (at : ℕ) → at ≤ length text → Read n text at (list_at n text at)
unfolding list_at space_after_each
read-list zero text at i = go (eqb at (length text)) refl
  where
    go : (t : Bool) → eqb at (length text) ≡ t → Read 0 text at (cond t (trouble 41) (trouble 42))
    go true e = inl refl
    go false e =
        let inside : at < length text = omega (arith, eqb-false at (length text) e) in
        inr (refl, record { hs = []; further = get_or text at 0; rest = drop (suc at) text; are = refl; there = drop-cons text at 0 inside })
read-list (suc n) text at i = read-then n text at (list_at n text) (host_port_at text at) refl (read-list n text)
