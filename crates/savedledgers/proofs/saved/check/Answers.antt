-- `saved::check`.
use Prim.Native.Nat.{◌/◌, ◌≤◌}
use mathlib.Core.Path.{◌≡◌, sym, ◌∙◌}
use mathlib.Core.Bool.{false}
use lib.ListN.{length}
use Rattle.ledger.specs.Pairs.{ends_at_most}
use Rattle.ledger.specs.Ledger.{length_wrong, capacity}
use Rattle.savedrecords.specs.Record.{pair_part, pair_length, file_length_of, saved_pairs, record_refusal}
use Rattle.savedledgers.proofs.SavedReading.{number-64, number-65, number-plain, number-sized, last_tells}
use Rattle.savedledgers.proofs.saved.check.Goals as goal
use Rattle.savedledgers.proofs.saved.check.Goals.{Else-ledger-pairs, In_ok-check, else-kind-via-then-kind+else-not-ends_by, else-kind-via-else-kind}

-- what the tests on the way have shown
first : (c : In_ok-check) → let x = c.args in (length_wrong x.ledger.now ≡ false) × (record_refusal x.kind x.bytes.now ≡ 0)
first c = (sym c.length_wrong.ensures ∙ c.if-length_wrong.false, sym c.in_ok-check.ensures)

room : (c : Else-ledger-pairs) → let x = c.args in length (pair_part x.kind x.bytes.now) / pair_length ≤ capacity x.ledger.now
room c = rw c.pair_part-pairs.ensures at c.if-ledger-pairs.false

pub returns-then-ledger-pairs : goal.returns-then-ledger-pairs
returns-then-ledger-pairs c =
    let x = c.args in
    let f = first (goal.at.returns-then-ledger-pairs c).In_ok-check in
    sym (number-64 x.kind x.bytes.now x.ledger.now f.0 f.1 (rw c.pair_part-pairs.ensures at c.if-ledger-pairs.true))

pub returns-then-not-ends_by : goal.returns-then-not-ends_by
returns-then-not-ends_by c =
    let x = c.args in
    let at = goal.at.returns-then-not-ends_by c in
    let f = first at.In_ok-check in
    let ends : ends_at_most (file_length_of x.bytes.now) (saved_pairs x.kind x.bytes.now) ≡ false =
    last_tells x.kind x.bytes.now (file_length_of x.bytes.now) f.1 ∙ (rw c.file_length.ensures at (sym c.ends_by.ensures)) ∙ c.if-not-ends_by.true in
    sym (number-65 x.kind x.bytes.now x.ledger.now f.0 f.1 (room at.Else-ledger-pairs) c.if-kind.true ends)

pub returns : goal.returns
returns c =
    let x = c.args in
    let at = goal.at.returns c in
    let f = first at.In_ok-check in
    let r = room at.Else-ledger-pairs in
    elim c.else-kind.branch [
      | else-kind-via-then-kind+else-not-ends_by w ↦
          sym (number-sized x.kind x.bytes.now x.ledger.now f.0 f.1 r w.if-kind.true (last_tells x.kind x.bytes.now (file_length_of x.bytes.now) f.1 ∙ (rw w.file_length.ensures at (sym w.ends_by.ensures)) ∙ w.if-not-ends_by.false))
      | else-kind-via-else-kind w ↦ sym (number-plain x.kind x.bytes.now x.ledger.now f.0 f.1 r w.if-kind.false)
    ]
