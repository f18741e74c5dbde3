-- Two host-ports of one value are written in the same bytes.
use Prim.Native.Nat.{ℕ, ◌+◌, ◌*◌, ◌-◌, ◌≤◌}
use mathlib.Core.Path.{◌≡◌, sym, ap, ◌∙◌}
use mathlib.Core.List.{List, ◌++◌}
use native.Mathlib.Omega.{arith}
use lib.ListN.{length, take, drop}
use lib.Seq.{take-append_seam}
use Rattle.octets.specs.Decimal.{decimal}
use Rattle.octets.proofs.Decimals.{decimal_writes_back}
use Rattle.hostports.specs.HostPort.{read_as, host_port_at}
use Rattle.hostports.specs.HostPorts.{Numeral, HostPortNumerals, host_port_text, address, port}
use Rattle.octets.proofs.Rest.{rest_is}
use Rattle.hostports.proofs.HostPortsWritten.{numeral-plain}
use Rattle.hostports.proofs.HostPortsRead.{six-read}

-- a numeral is its value in decimal
numeral-is : (a : Numeral) → a.text ≡ decimal a.value
numeral-is a = sym (decimal_writes_back a.text (numeral-plain a)) ∙ ap decimal a.says

same-numeral : (a b : Numeral) → a.value ≡ b.value → a.text ≡ b.text
same-numeral a b e = numeral-is a ∙ ap decimal e ∙ sym (numeral-is b)

-- the two parts of a number by 256
apart : (x y u w : ℕ) → y ≤ 255 → w ≤ 255 → x * 256 + y ≡ u * 256 + w → (x ≡ u) × (y ≡ w)
apart x y u w h g e = (omega arith, omega arith)

pub written_once : (h i : HostPortNumerals) → address h * 65536 + port h ≡ address i * 65536 + port i → host_port_text h ≡ host_port_text i
unfolding host_port_text
written_once h i same =
    let last = apart (address h * 256 + h.e.value) h.f.value (address i * 256 + i.e.value) i.f.value h.f.small i.f.small (omega (arith, same)) in
    let fifth = apart _ h.e.value _ i.e.value h.e.small i.e.small last.0 in
    let fourth = apart _ h.d.value _ i.d.value h.d.small i.d.small fifth.0 in
    let third = apart _ h.c.value _ i.c.value h.c.small i.c.small fourth.0 in
    let second = apart _ h.b.value _ i.b.value h.b.small i.b.small third.0 in
    rw (
      same-numeral h.a i.a second.0,
      same-numeral h.b i.b second.1,
      same-numeral h.c i.c third.1,
      same-numeral h.d i.d fourth.1,
      same-numeral h.e i.e fifth.1,
      same-numeral h.f i.f last.1,
    )

-- the bytes from the place of a host-port to the place after it
bytes_are : (text : List ℕ) (at next : ℕ) (part rest : List ℕ) → drop at text ≡ part ++ rest → next ≡ at + length part → take (next - at) (drop at text) ≡ part
bytes_are text at next part rest there e =
    let n : next - at ≡ length part = omega arith in
    rw (there, n) (take-append_seam part rest)

pub same_bytes : (s t : List ℕ) (a b v p q : ℕ) → host_port_at s a ≡ read_as v p → host_port_at t b ≡ read_as v q → take (p - a) (drop a s) ≡ take (q - b) (drop b t)
same_bytes s t a b v p q d e =
    let f = six-read s a v p d in
    let g = six-read t b v q e in
    bytes_are s a p _ _ f.1.there f.3 ∙ written_once f.0 g.0 (sym f.2 ∙ g.2) ∙ sym (bytes_are t b q _ _ g.1.there g.3)

pub one_text : (s t : List ℕ) (v : ℕ) → host_port_at s 0 ≡ read_as v (length s) → host_port_at t 0 ≡ read_as v (length t) → s ≡ t
one_text s t v d e = sym (rest_is s 0) ∙ same_bytes s t 0 0 v (length s) (length t) d e ∙ rest_is t 0
