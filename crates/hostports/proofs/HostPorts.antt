-- `HostPorts` holds.
use Prim.Native.Nat.{ℕ}
use Rattle.std.specs.Prelude.{Option, Some, None}
use mathlib.Core.Path.{◌≡◌, refl, ap}
use mathlib.Core.List.{List}
use Rattle.hostports.specs.declared.host_port.Parsed.{Parsed}
use Rattle.hostports.specs.HostPort.{read_as, host_port_at, refusal_number, value_of, place_after}
use Rattle.hostports.specs.HostPorts.{HostPortNumerals, WrittenAt, HostPorts}
use Rattle.hostports.proofs.HostPortsWritten.{six-written}
use Rattle.hostports.proofs.HostPortsRead.{six-read, port-not-zero, fits_48_bits}
use Rattle.hostports.proofs.HostPortsOnce.{same_bytes, one_text}
use Rattle.hostports.proofs.HostPortsRefused.{leading-zero-malformed, port-zero-malformed}

numbered-0 : (s : Option Parsed) (v next : ℕ) → s ≡ read_as v next → (refusal_number s ≡ 0) × (value_of s ≡ v) × (place_after s ≡ next)
unfolding refusal_number value_of place_after
numbered-0 s v next e = (rw e, rw e, rw e)

numbered-41 : (text : List ℕ) (at : ℕ) → ((h : HostPortNumerals) → WrittenAt text at h → ⊥)
    → (refusal_number (host_port_at text at) ≡ 41) × (value_of (host_port_at text at) ≡ 0) × (place_after (host_port_at text at) ≡ 0)
unfolding refusal_number value_of place_after
numbered-41 text at none = go (host_port_at text at) refl
  where
    go : (s : Option Parsed) → host_port_at text at ≡ s → (refusal_number s ≡ 41) × (value_of s ≡ 0) × (place_after s ≡ 0)
    go None e = (refl, refl, refl)
    go (Some p) e = let f = six-read text at p.value p.next e in absurd (none f.0 f.1)

pub host-ports : HostPorts
unfolding refusal_number
host-ports =
    record {
      written_reads = six-written;
      reads_written = six-read;
      number_0 = λ text at h w. numbered-0 (host_port_at text at) _ _ (six-written text at h w);
      number_41 = numbered-41;
      no_leading_zero_is = λ text at before d rest digits few h there. ap refusal_number (leading-zero-malformed text at before d rest digits few h there);
      no_port_0 = λ text at before rest digits four there. ap refusal_number (port-zero-malformed text at before rest digits four there);
      port_not_0 = port-not-zero;
      one_text = one_text;
      same_bytes = same_bytes;
      fits_48_bits = fits_48_bits;
    }
