-- Lines for the rows of the table, and texts for their arguments.
use Prim.Native.Nat.{ℕ, zero, suc, ◌≤◌, ◌<◌}
use mathlib.Core.Path.{◌≡◌, sym, ap, ◌∙◌}
use mathlib.Core.Logic.{◌⊎◌, ⊎_elim}
use mathlib.Core.Bool.{Bool, true, not, ◌&&◌, and-eq-true_iff, false≢true}
use mathlib.Core.List.{List, [], ◌∷◌, ◌++◌}
use native.Mathlib.Omega.{arith}
use borrow.Author.Tests.{leb-true, eqb-false, not-true}
use lib.Dec.{leb, eqb}
use lib.ListN.{length, get_or, length-append}
use Rattle.commands.specs.WrittenLines.{name_of, line_of, bare_line, Argument}
use Rattle.commands.specs.Refused.{RefusedBy, by_32}
use Rattle.commands.proofs.WrittenLines.{written-lines}
use Rattle.hostlists.specs.HostList.{host_count}
use Rattle.hostlists.specs.HostLists.{ListText}
use Rattle.hostlists.proofs.HostCounts.{host-counts}
use Rattle.rangelists.specs.MalformedRanges.{HasMalformed}
use Rattle.rangelists.proofs.MalformedRanges.{malformed-ranges}
use Rattle.console.specs.Rows.{MODE, PASV, SPAS}
use Rattle.console.specs.Table.{Command, IsE, IsHostPort}

-- ---- lines

-- every byte is one of 32 to 126
unfoldable pub visible : List ℕ → Bool
visible [] = true
visible (b ∷ bs) = leb 32 b && (leb b 126 && visible bs)

visible-at : (text : List ℕ) → visible text ≡ true → (i : ℕ) → i < length text → (32 ≤ get_or text i 0) × (get_or text i 0 ≤ 126)
unfolding visible
visible-at [] h i l = absurd (omega arith)
visible-at (b ∷ bs) h i l =
    let p = (and-eq-true_iff (leb 32 b) (leb b 126 && visible bs)).0 h in
    let q = (and-eq-true_iff (leb b 126) (visible bs)).0 p.1 in
    at i l (leb-true 32 b p.0, leb-true b 126 q.0) (visible-at bs q.1)
  where
    at : (i : ℕ) → i < suc (length bs) → (32 ≤ b) × (b ≤ 126) → ((i : ℕ) → i < length bs → (32 ≤ get_or bs i 0) × (get_or bs i 0 ≤ 126))
        → (32 ≤ get_or (b ∷ bs) i 0) × (get_or (b ∷ bs) i 0 ≤ 126)
    at zero l h p = h
    at (suc i) l h p = p i (omega arith)

pub bare-command : (v : ℕ) → (v ≡ PASV) ⊎ (v ≡ SPAS) → Command (bare_line v) v []
bare-command v h = (name_of v, 0, written-lines.without_argument v h)

-- one of the twelve verbs, and not PASV or SPAS
unfoldable pub takes_argument : ℕ → Bool
takes_argument v = (leb 1 v && leb v 12) && (not (eqb v PASV) && not (eqb v SPAS))

-- a text that can be an argument
unfoldable pub is_argument : List ℕ → Bool
is_argument text = (leb 1 (length text) && leb (length text) 2041) && (visible text && not (eqb (get_or text 0 0) 32))

argument : (text : List ℕ) → is_argument text ≡ true → Argument text
unfolding is_argument
argument text h =
    let p = (and-eq-true_iff (leb 1 (length text) && leb (length text) 2041) (visible text && not (eqb (get_or text 0 0) 32))).0 h in
    let q = (and-eq-true_iff (leb 1 (length text)) (leb (length text) 2041)).0 p.0 in
    let n = (and-eq-true_iff (visible text) (not (eqb (get_or text 0 0) 32))).0 p.1 in
    record {
      some = leb-true 1 (length text) q.0;
      few = leb-true (length text) 2041 q.1;
      printable = visible-at text n.0;
      first = eqb-false (get_or text 0 0) 32 (not-true _ n.1);
    }

pub command-of : (v : ℕ) (text : List ℕ) → takes_argument v ≡ true → is_argument text ≡ true → Command (line_of v text) v text
unfolding takes_argument
command-of v text h a =
    let p = (and-eq-true_iff (leb 1 v && leb v 12) (not (eqb v PASV) && not (eqb v SPAS))).0 h in
    let q = (and-eq-true_iff (leb 1 v) (leb v 12)).0 p.0 in
    let n = (and-eq-true_iff (not (eqb v PASV)) (not (eqb v SPAS))).0 p.1 in
    (name_of v, 1, written-lines.with_argument v text (leb-true 1 v q.0) (leb-true v 12 q.1) (eqb-false v PASV (not-true _ n.0)) (eqb-false v SPAS (not-true _ n.1)) (argument text a))

-- ---- texts: E, S, x, one host-port, two, a range

abbrev pub capital-e : List ℕ
capital-e = 69 ∷ []

abbrev pub capital-s : List ℕ
capital-s = 83 ∷ []

abbrev pub letter-x : List ℕ
letter-x = 120 ∷ []

abbrev pub host-port : List ℕ
host-port = 48 ∷ 44 ∷ 48 ∷ 44 ∷ 48 ∷ 44 ∷ 48 ∷ 44 ∷ 48 ∷ 44 ∷ 49 ∷ []

abbrev pub two-host-ports : List ℕ
two-host-ports = host-port ++ (32 ∷ host-port)

abbrev pub one-range : List ℕ
one-range = 48 ∷ 45 ∷ 48 ∷ []

-- ---- what they say

pub s-is-not-e : IsE capital-s → ⊥
s-is-not-e = ⊎_elim (λ e. omega (arith, ap (λ k. get_or k 0 0) e)) (λ e. omega (arith, ap (λ k. get_or k 0 0) e))

pub is-host-port : IsHostPort host-port
is-host-port = (host-counts.shortest_one.0, sym host-counts.shortest_one.1)

one-counts : host_count host-port ≡ 1
one-counts = ap host_count (sym host-counts.shortest_one.1) ∙ host-counts.one host-counts.shortest_one.0

pub is-list : ListText host-port
is-list = host-counts.only_lists host-port (omega (arith, one-counts))

pub two-are-not-one : IsHostPort two-host-ports → ⊥
two-are-not-one i =
    let h = host-counts.shortest_one in
    omega (arith, ap host_count i.1 ∙ host-counts.one i.0, ap (λ k. host_count (k ++ (32 ∷ k))) (sym h.1) ∙ host-counts.two h.0 h.0)

pub x-is-no-list : ListText letter-x → ⊥
x-is-no-list l = omega (arith, host-counts.shortest letter-x l)

pub range-is-well-formed : HasMalformed one-range → ⊥
range-is-well-formed m = false≢true (sym malformed-ranges.shortest.0 ∙ malformed-ranges.malformed_true one-range m)

pub x-is-malformed : HasMalformed letter-x
x-is-malformed = malformed-ranges.true_malformed letter-x malformed-ranges.no_digit.0

-- ---- lines that are refused

-- a line without bytes
pub empty-refused : RefusedBy [] 32
empty-refused = by_32 (omega arith) (λ text e. omega (arith, ap length e, length-append text (13 ∷ 10 ∷ [])))

-- MODE without an argument
pub bare-mode-refused : RefusedBy (bare_line MODE) 35
bare-mode-refused = written-lines.missing_argument MODE (omega arith) (omega arith) (λ e. omega arith) (λ e. omega arith)
