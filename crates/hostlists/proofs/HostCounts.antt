-- How many host-ports a text has: `HostCounts` holds.
use Prim.Native.Nat.{ℕ, ◌≤◌, ◌<◌}
use mathlib.Core.Path.{◌≡◌, refl, sym, ap, ◌∙◌}
use mathlib.Core.List.{List, [], ◌∷◌}
use native.Mathlib.Omega.{arith}
use borrow.Author.Tests.{le-ltb}
use lib.ListN.{length, replicate, length-append}
use Rattle.hostports.specs.HostPort.{read_as, host_port_at}
use Rattle.hostports.specs.HostPorts.{HostPortNumerals, host_port_text}
use Rattle.hostports.proofs.HostPortCases.{host-port-cases}
use Rattle.hostlists.specs.HostList.{host_limit, ParsedList, parsed, trouble, hosts_of, answer_of, fill_of, count, host_count}
use Rattle.hostlists.specs.HostLists.{with_spaces, ListText}
use Rattle.hostlists.specs.HostCounts.{HostCounts}
use Rattle.hostlists.proofs.HostList.{list-ends}
use Rattle.hostlists.proofs.HostLists.{host-lists, filling}

-- into 64 entries or more filling answers as many as the text has
filling-counts : (text list : List ℕ) → 64 ≤ length list → host_count text ≡ count (fill_of text list)
unfolding fill_of host_count
filling-counts text list h = rw (le-ltb (length list) host_limit h)

list_counts : (text : List ℕ) (l : ListText text) → host_count text ≡ length l.hosts
list_counts text l =
    let lent : List ℕ = replicate 64 0 in
    filling-counts text lent (omega arith) ∙ (filling.number_0 text lent (λ short. omega arith) l).1

-- host-ports with one space between
written-counts : (hosts : List HostPortNumerals) → 1 ≤ length hosts → length hosts ≤ 64 → host_count (with_spaces hosts) ≡ length hosts
written-counts hosts some few = list_counts (with_spaces hosts) (record { hosts = hosts; one_or_more = some; at_most_64 = few; says = refl })

only_lists : (text : List ℕ) → 0 < host_count text → ListText text
unfolding host_count count answer_of
only_lists text h = go (hosts_of text) refl h
  where
    go : (r : ParsedList) → hosts_of text ≡ r → 0 < count (answer_of r) → ListText text
    go (parsed vs) e h = (host-lists.only_lists text vs e).0
    go (trouble k) e h = absurd (omega arith)

only_one : (text : List ℕ) → host_count text ≡ 1 → (h : HostPortNumerals) × (text ≡ host_port_text h)
unfolding with_spaces
only_one text e =
    let l = only_lists text (omega arith) in
    go l.hosts l.says (sym (list_counts text l) ∙ e)
  where
    go : (hs : List HostPortNumerals) → text ≡ with_spaces hs → length hs ≡ 1 → (h : HostPortNumerals) × (text ≡ host_port_text h)
    go [] s n = absurd (omega arith)
    go (h ∷ []) s n = (h, s)
    go (h ∷ i ∷ hs) s n = absurd (omega arith)

-- ---- the shortest list

-- a host-port has six digits and five commas at least
eleven : (h : HostPortNumerals) → 11 ≤ length (host_port_text h)
unfolding host_port_text
eleven h = simp length-append (omega (arith, h.a.one_or_more, h.b.one_or_more, h.c.one_or_more, h.d.one_or_more, h.e.one_or_more, h.f.one_or_more))

shortest : (text : List ℕ) → ListText text → 11 ≤ length text
unfolding with_spaces
shortest text l = rw l.says (go l.hosts l.one_or_more)
  where
    go : (hs : List HostPortNumerals) → 1 ≤ length hs → 11 ≤ length (with_spaces hs)
    go [] n = absurd (omega arith)
    go (h ∷ []) n = eleven h
    go (h ∷ i ∷ hs) n = omega (arith, eleven h, length-append (host_port_text h) (32 ∷ with_spaces (i ∷ hs)))

-- a text that a host-port is read from, up to its end
whole : (text : List ℕ) (v : ℕ) → host_port_at text 0 ≡ read_as v (length text) → (h : HostPortNumerals) × (host_port_text h ≡ text)
unfolding host_count hosts_of count answer_of
whole text v e =
    let o = only_one text (rw (list-ends 63 text 0 v (length text) e refl)) in
    (o.0, sym o.1)

pub host-counts : HostCounts
unfolding count with_spaces
host-counts =
    record {
      filled = λ text list n h e. filling-counts text list h ∙ ap count e;
      refused = λ text list k h e. filling-counts text list h ∙ ap count e;
      list_counts = list_counts;
      only_lists = only_lists;
      one = λ h. written-counts (h ∷ []) (omega arith) (omega arith);
      only_one = only_one;
      two = λ h i. written-counts (h ∷ i ∷ []) (omega arith) (omega arith);
      shortest = shortest;
      -- the first worked case of a host-port
      shortest_one = whole _ 1 host-port-cases.0;
    }
