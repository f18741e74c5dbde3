-- `header::write`.
use mathlib.Core.Path.{◌≡◌, ◌∙◌}
use native.Mathlib.Omega.{arith}
use lib.ListN.{length, set, take, drop, length-set, length-take, length-drop}
use borrow.Rule.Slice.PartMut.{put_mid}
use Rattle.octets.specs.Digits.{to_big_endian}
use Rattle.std.proofs.lemmas.Grind.{common_steps}
use Rattle.answers.specs.Written.{first_refusal, room_refusal, written_by, written_after}
use Rattle.answers.proofs.WrittenBy.{written}
use Rattle.eblock.specs.Header.{header_length, header_bytes, second_field, write_of, write_after}
use Rattle.eblock.proofs.HeaderAnswers.{number_0}
use Rattle.eblock.proofs.HeaderFields.{length-bytes_of}
use Rattle.eblock.proofs.HeaderStores.{placed}
use Rattle.eblock.proofs.header.write.Goals as goal

pub returns-in_err-accept : goal.returns-in_err-accept
unfolding write_of write_after first_refusal written_by written_after
returns-in_err-accept c = grind (arith, common_steps)

pub returns-then-out-lt-HEADER_LENGTH : goal.returns-then-out-lt-HEADER_LENGTH
unfolding write_of write_after first_refusal room_refusal written_by written_after
returns-then-out-lt-HEADER_LENGTH c = grind (arith, common_steps)

pub returns : goal.returns
unfolding write_of write_after
returns c =
    let x = c.args in
    let o₁ = set x.out.now 0 x.d in
    let n₁ : length (take 8 (drop 1 o₁)) ≡ 8 = simp (length-take, length-drop, length-set) (omega arith) in
    let o₂ = put_mid 1 8 o₁ c.write.new.out in
    let l₂ : length o₂ ≡ length o₁ = omega arith in
    let n₂ : length (take 8 (drop 9 o₂)) ≡ 8 = simp (length-take, length-drop) (omega (arith, l₂, length-set x.out.now 0 x.d)) in
    let ys : c.write.new.out ≡ to_big_endian 256 8 (second_field x.d x.length) = c.write.ensures ∙ rw (n₁, c.second_field-second.ensures) in
    let zs : c.write-2.new.out ≡ to_big_endian 256 8 x.third = c.write-2.ensures ∙ rw n₂ in
    let s = second_field x.d x.length in
    let h = written _ header_length (header_bytes x.d s x.third) x.out.now (number_0 x.d x.third x.out.now (omega arith) (omega arith)) in
    let l = length-bytes_of x.d s x.third in
    (h.0, placed x.d s x.third x.out.now _ _ (omega arith) ys zs ∙ rw l at h.1)
