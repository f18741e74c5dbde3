-- `saved::write_numbers`: what is written, with what is still to be written after it, is the whole.
use Prim.Native.Nat.{◌*◌, ◌≤◌}
use mathlib.Core.Path.{◌≡◌}
use mathlib.Core.List.{◌++◌}
use lib.ListN.{length, take, drop}
use Rattle.savedledgers.specs.Numbers.{number_bytes}
use Rattle.savedledgers.proofs.saved.write_numbers.Given as goal

abbrev pub invariant-loop-i : goal.invariant-loop-i
invariant-loop-i l =
    (l.i ≤ length l.numbers) × (length l.out ≡ length l.initial.out) × (take (8 * l.i) l.out ++ number_bytes (drop l.i l.numbers) ≡ number_bytes l.numbers)
