-- `KindTwoCases` holds, by `KindTwo`.
use Prim.Native.Nat.{ℕ, zero, suc, ◌+◌, ◌*◌, ◌/◌, ◌≤◌, ◌<◌}
use mathlib.Core.Path.{◌≡◌, refl, sym, ap, ◌∙◌}
use mathlib.Core.Logic.{inl}
use mathlib.Core.Bool.{true}
use mathlib.Core.List.{List, [], ◌∷◌, ◌++◌}
use native.Mathlib.Omega.{arith}
use borrow.Author.Tests.{le-leb}
use lib.ListN.{length, take, replicate}
use Rattle.octets.specs.Digits.{AllBelow, from_little_endian, to_little_endian}
use Rattle.octets.proofs.Digits.{below-append, below-to_little}
use Rattle.answers.specs.Refusal.{number_in}
use Rattle.answers.specs.Written.{first_refusal, room_refusal, written_by, written_after}
use Rattle.std.specs.Prelude.{Ok}
use Rattle.frames.specs.Frame.{length_field, kind_of, framed}
use Rattle.ledger.specs.Pairs.{size, ObeyFrom, obey_from, ends_at_most}
use Rattle.ledger.specs.Ledger.{length_wrong, laid_out}
use Rattle.savedrecords.specs.Kind.{kind_one, kind_two}
use Rattle.savedrecords.specs.Record.{pairs_in, pair_bytes, frame_refusal, body_wrong, record_refusal, length_refusal, record_of}
use Rattle.savedrecords.specs.RecordCases.{RightRecord}
use Rattle.savedledgers.specs.Numbers.{number_bytes}
use Rattle.savedledgers.specs.Saved.{read_refusal, read_after, read_saved_after, read_sized_after}
use Rattle.savedledgers.specs.SavedReading.{RightLength}
use Rattle.savedconversions.specs.Conversion.{convert_refusal, convert, convert_after, to_two, to_one, to_one_after, to_two_after}
use Rattle.savedconversions.specs.ConversionCases.{by_65}
use Rattle.savedconversions.specs.KindTwo.{length_in}
use Rattle.savedconversions.specs.KindTwoCases.{framed_numbers, top, longest_one, longest_two, singles, KindTwoCases}
use Rattle.savedconversions.proofs.KindTwo.{kind-two}

below-numbers : (ns : List ℕ) → AllBelow 256 (number_bytes ns)
unfolding number_bytes
below-numbers [] = tt
below-numbers (n ∷ ns) = below-append 256 (to_little_endian 256 8 n) (number_bytes ns) (below-to_little 256 8 n (omega arith)) (below-numbers ns)

below-framed : (kind : ℕ) (ns : List ℕ) → AllBelow 256 (framed_numbers kind ns)
unfolding framed
below-framed kind ns =
    let body = number_bytes ns in
    below-append 256 (to_little_endian 256 4 (2 + length body)) (to_little_endian 256 2 kind ++ body) (below-to_little 256 4 (2 + length body) (omega arith))
    (below-append 256 (to_little_endian 256 2 kind) body (below-to_little 256 2 kind (omega arith)) (below-numbers ns))

-- the last end is 2^64
abbrev last : List ℕ
last = framed_numbers 2 (top ∷ top ∷ 1 ∷ [])

last-right : RightRecord kind_two last
unfolding framed number_bytes to_little_endian from_little_endian pairs_in
last-right =
    record {
      frame = record { least = omega arith; counted = refl };
      is_kind = refl;
      body = record { head = omega arith; whole = refl; ruled = (omega arith, omega arith, tt) };
    }

last-edge : (ledger out : List ℕ) → (RightLength ledger → 0 < length ledger / 2 → read_refusal kind_two last ledger ≡ 65) × (number_in (to_one last out) ≡ 65)
unfolding framed number_bytes to_little_endian from_little_endian
last-edge ledger out = kind-two.end_last last ledger out 0 (below-framed 2 (top ∷ top ∷ 1 ∷ [])) last-right refl (omega arith)

-- the bytes 0 to 89, of a file of 89
abbrev ninety : List ℕ
ninety = framed_numbers 1 (0 ∷ 90 ∷ [])

ninety-right : RightRecord kind_one ninety
unfolding framed number_bytes to_little_endian from_little_endian pairs_in
ninety-right =
    record {
      frame = record { least = omega arith; counted = refl };
      is_kind = refl;
      body = record { head = omega arith; whole = refl; ruled = (omega arith, omega arith, tt) };
    }

ninety-65 : (out : List ℕ) → number_in (to_two 89 ninety out) ≡ 65
unfolding framed number_bytes to_little_endian from_little_endian pairs_in
ninety-65 out = sym ((kind-two.to_2 89 ninety out).judged_only 65 (by_65 ninety-right (inl (omega arith))))

-- ---- the longest file

to_2 : to_two top longest_one (replicate 30 0xEE) ≡ Ok 30
unfolding convert written_by convert_refusal first_refusal room_refusal record_refusal frame_refusal body_wrong length_refusal length_field kind_of pairs_in obey_from ends_at_most record_of framed pair_bytes number_bytes to_little_endian from_little_endian
to_2 = refl

and_back : (to_one longest_two (replicate 22 0xEE) ≡ Ok 22) × (to_one_after longest_two (replicate 22 0xEE) ≡ longest_one)
unfolding framed number_bytes to_little_endian
and_back = kind-two.one_two_one top longest_one (replicate 30 0xEE) (replicate 22 0xEE) 30 (omega arith) (below-framed 1 (0 ∷ top ∷ [])) to_2 (omega arith)

and_again : let one = take 22 (to_one_after longest_two (replicate 22 0xEE)) in
    (to_two (length_in longest_two) one (replicate 30 0xEE) ≡ Ok 30) × (to_two_after (length_in longest_two) one (replicate 30 0xEE) ≡ longest_two)
unfolding convert_after written_after convert_refusal first_refusal room_refusal record_refusal frame_refusal body_wrong length_refusal length_field kind_of pairs_in obey_from ends_at_most record_of framed pair_bytes number_bytes to_little_endian from_little_endian
and_again = kind-two.two_one_two longest_two (replicate 22 0xEE) (replicate 30 0xEE) 22 (below-framed 2 (top ∷ 0 ∷ top ∷ [])) and_back.0 (omega arith)

one_read : read_saved_after longest_one (7 ∷ 7 ∷ []) ≡ 0 ∷ top ∷ []
unfolding read_after read_refusal length_wrong laid_out size convert_refusal first_refusal room_refusal record_refusal frame_refusal body_wrong length_refusal length_field kind_of pairs_in obey_from ends_at_most record_of framed pair_bytes number_bytes to_little_endian from_little_endian
one_read = refl

reads_it : (read_sized_after longest_two (7 ∷ 7 ∷ []) ≡ 0 ∷ top ∷ []) × (length_in longest_two ≡ top)
reads_it =
    let r = kind-two.reads_as_before top longest_one (replicate 30 0xEE) (7 ∷ 7 ∷ []) 30 (omega arith) (below-framed 1 (0 ∷ top ∷ [])) to_2 in
    (r.1 ∙ one_read, r.2)

-- ---- many pairs

size-singles : (n a : ℕ) → size (singles n a) ≡ n
unfolding singles size
size-singles zero a = refl
size-singles (suc n) a = ap suc (size-singles n (a + 2))

singles-obey : (n lo a : ℕ) → lo ≤ a → ObeyFrom lo (singles n a)
unfolding singles
singles-obey zero lo a h = tt
singles-obey (suc n) lo a h = (h, omega arith, singles-obey n (suc (a + 1)) (a + 2) (omega arith))

singles-end : (n a f : ℕ) → a + 2 * n ≤ f + 1 → ends_at_most f (singles n a) ≡ true
unfolding singles ends_at_most
singles-end zero a f h = refl
singles-end (suc n) a f h = rw (le-leb (a + 1) f (omega arith)) (singles-end n (a + 2) f (omega arith))

most_pairs : (out : List ℕ) → length out ≡ 4294967294 → to_two top (record_of kind_one 0 (singles 268435455 0)) out ≡ Ok 4294967294
most_pairs out h =
    let n = size-singles 268435455 0 in
    let whole = kind-two.any_size top (singles 268435455 0) out (omega (arith, n)) (singles-obey 268435455 0 0 (omega arith)) (omega arith)
    (singles-end 268435455 0 top (omega arith)) (omega (arith, n)) in
    whole ∙ rw n

pub kind-two-cases : KindTwoCases
unfolding framed number_bytes to_little_endian from_little_endian
kind-two-cases =
    let zero-1 = framed_numbers 1 (0 ∷ 0 ∷ []) in
    let zero-2 = framed_numbers 2 (100 ∷ 0 ∷ 0 ∷ []) in
    let followed = framed_numbers 2 (top ∷ top ∷ 1 ∷ 3 ∷ 4 ∷ []) in
    record {
      seven_bytes = kind-two.short (framed 2 (replicate 7 0)) (record { least = omega arith; counted = refl }) refl (omega arith);
      zero_pair_1 = kind-two.zero_pair kind_one zero-1 0 (record { least = omega arith; counted = refl }) refl (omega arith) refl refl;
      zero_pair_2 = kind-two.zero_pair kind_two zero-2 0 (record { least = omega arith; counted = refl }) refl (omega arith) refl refl;
      end_then_pair =
          kind-two.end_then_pair followed 0 (below-framed 2 (top ∷ top ∷ 1 ∷ 3 ∷ 4 ∷ [])) (record { least = omega arith; counted = refl }) refl (omega arith) (omega arith);
      end_last = (last-edge (7 ∷ 7 ∷ []) []).0 (record { even = refl; most = omega arith }) (omega arith);
      end_last_back = λ out. (last-edge [] out).1;
      reading_65 = kind-two.unchanged_reading last (7 ∷ 7 ∷ []) 65 (omega arith)
          (kind-two.reads_2_number last (7 ∷ 7 ∷ []) ∙ (last-edge (7 ∷ 7 ∷ []) []).0 (record { even = refl; most = omega arith }) (omega arith));
      back_65 = λ out. kind-two.unchanged_back last out 65 (omega arith) (last-edge [] out).1;
      to_2_65 = λ out. kind-two.unchanged_to_2 89 ninety out 65 (omega arith) (ninety-65 out);
      to_2 = to_2;
      and_back = and_back;
      and_again = and_again;
      reads_it = reads_it;
      old_refuses_it =
          kind-two.old_refuses_converted top longest_one (replicate 30 0xEE) (7 ∷ 7 ∷ []) 30 (omega arith) (below-framed 1 (0 ∷ top ∷ [])) to_2
          (record { even = refl; most = omega arith });
      most_pairs = most_pairs;
    }
