-- `conversion::convert`.
use Prim.Native.Nat.{◌+◌, ◌*◌, ◌-◌, ◌≤◌}
use mathlib.Core.Path.{◌≡◌, sym, ap, ◌∙◌}
use mathlib.Core.Bool.{true}
use native.Mathlib.Omega.{arith}
use borrow.Author.Rules.{rules}
use lib.ListN.{length}
use Rattle.octets.proofs.Digits.{below_at}
use Rattle.answers.specs.Refusal.{number}
use Rattle.answers.proofs.Numbers.{above_0}
use Rattle.ledger.specs.Pairs.{size, ends_at_most}
use Rattle.savedrecords.specs.Kind.{head_length}
use Rattle.savedrecords.specs.Record.{saved_pairs, record_refusal, record_of}
use Rattle.savedrecords.proofs.KindNumbers.{head_length-le}
use Rattle.savedrecords.proofs.RecordPairs.{ends_at_most-more}
use Rattle.savedrecords.proofs.RecordRefusal.{refusal-sound}
use Rattle.savedrecords.proofs.RecordRoundTrip.{length-record_of}
use Rattle.savedledgers.proofs.SavedReading.{last_tells}
use Rattle.savedconversions.proofs.ConversionNumber.{number-record, number-65, number-55, number_0, part_length, part-few, record-placed, converts-refused, converts-written}
use Rattle.savedconversions.proofs.conversion.convert.Goals as goal
use Rattle.savedconversions.proofs.conversion.convert.Goals.{After-ends_by, After-pair_part-pairs}

-- what the tests on the way have shown
ends_is : (c : After-ends_by) → let x = c.args in c.ends_by.result ≡ ends_at_most x.len (saved_pairs x.from x.bytes.now)
ends_is c = let x = c.args in c.ends_by.ensures ∙ sym (last_tells x.from x.bytes.now x.len (sym c.in_ok-check.ensures))

-- and of the pairs' bytes, which are few
record Tested (c : After-pair_part-pairs) : Type 0 where
  right : record_refusal c.args.from c.args.bytes.now ≡ 0
  ends : ends_at_most c.args.len (saved_pairs c.args.from c.args.bytes.now) ≡ true
  long : length c.pair_part-pairs.result.now ≡ 16 * size (saved_pairs c.args.from c.args.bytes.now)
  few : length c.pair_part-pairs.result.now ≤ 4294967285

tested : (c : After-pair_part-pairs) → Tested c
tested c =
    let x = c.args in
    let below = below_at 256 x.bytes.now (λ i. omega (arith, c.type_inv.bytes i)) in
    let r : record_refusal x.from x.bytes.now ≡ 0 = sym c.in_ok-check.ensures in
    let n = ap length c.pair_part-pairs.ensures in
    record {
      right = r;
      ends = sym (ends_is (goal.at.After-pair_part-pairs c).After-ends_by) ∙ c.if-not-ends_by.false;
      long = n ∙ part_length x.from x.bytes.now r;
      few = omega (arith, n, part-few x.from x.bytes.now below r);
    }

pub returns-in_err-check : goal.returns-in_err-check
returns-in_err-check c =
    let x = c.args in
    let k = number c.in_err-check.field-0.0 in
    let n = c.in_err-check.ensures in
    let h = above_0 c.in_err-check.field-0.0 in
    let r = converts-refused x.from x.to x.len x.bytes.now x.out.now k (number-record x.from x.to x.len x.bytes.now x.out.now (omega (arith, n, h)) ∙ sym n) h in
    (grind (arith, r.0), r.1)

pub returns-then-not-ends_by : goal.returns-then-not-ends_by
returns-then-not-ends_by c =
    let x = c.args in
    let no_end = sym (ends_is (goal.at.returns-then-not-ends_by c).After-ends_by) ∙ c.if-not-ends_by.true in
    converts-refused x.from x.to x.len x.bytes.now x.out.now 65 (number-65 x.from x.to x.len x.bytes.now x.out.now (sym c.in_ok-check.ensures) no_end) (omega arith)

pub overflow_add-end : goal.overflow_add-end
overflow_add-end c = omega (arith, (tested (goal.at.overflow_add-end c).After-pair_part-pairs).few, c.head_length-start.ensures, head_length-le c.args.to)

pub returns-then-out-end : goal.returns-then-out-end
returns-then-out-end c =
    let x = c.args in
    let t = tested (goal.at.returns-then-out-end c).After-pair_part-pairs in
    converts-refused x.from x.to x.len x.bytes.now x.out.now 55
    (number-55 x.from x.to x.len x.bytes.now x.out.now t.right t.ends (omega (arith, t.long, c.head_length-start.ensures))) (omega arith)

pub write_head-requires : goal.write_head-requires
write_head-requires c =
    (omega (arith, c.head_length-start.ensures), omega (arith, (tested (goal.at.write_head-requires c).After-pair_part-pairs).few, head_length-le c.args.to))

pub write_pairs-requires : goal.write_pairs-requires
write_pairs-requires c =
    let x = c.args in
    let t = tested (goal.at.write_pairs-requires c).After-pair_part-pairs in
    let s = refusal-sound x.from x.bytes.now t.right in
    let q = c.pair_part-pairs.ensures in (
      rw q s.parts,
      search rules,
      rw q s.ruled,
      rw q (ends_at_most-more x.len 18446744073709551615 0 (saved_pairs x.from x.bytes.now) s.ruled (omega arith) t.ends),
    )

pub returns : goal.returns
returns c =
    let x = c.args in
    let t = tested (goal.at.returns c).After-pair_part-pairs in
    let ps = saved_pairs x.from x.bytes.now in
    let n = length c.pair_part-pairs.result.now in
    let head = c.head_length-start.ensures in
    let pairs = rw c.pair_part-pairs.ensures at c.write_pairs.ensures in
    let q : 6 + head_length x.to + n - (6 + head_length x.to) ≡ n = omega arith in
    let a = converts-written x.from x.to x.len x.bytes.now x.out.now (number_0 x.from x.to x.len x.bytes.now x.out.now t.right t.ends (omega (arith, t.long, head))) in
    let long : 6 + head_length x.to + n ≡ length (record_of x.to x.len ps) = omega (arith, t.long, length-record_of x.to x.len ps) in
    (rw (head, long) a.0, rw (head, q) (record-placed x.to x.len ps x.out.now _ _ n t.long c.write_head.ensures pairs) ∙ a.1)
