-- The reader's and the writer's answers, row by row: `ReadRows` and `WriteRows` hold.
use Prim.Native.Nat.{ℕ, ◌≤◌, ◌<◌}
use mathlib.Core.Path.{◌≡◌, refl, ap, ◌∙◌}
use mathlib.Core.Logic.{◌⊎◌, ◌≢◌}
use mathlib.Core.Bool.{Bool, true, false}
use mathlib.Core.List.{List, [], ◌∷◌, ◌++◌}
use native.Mathlib.Omega.{arith}
use lib.ListN.{length}
use Rattle.std.specs.Prelude.{Result, Ok, Err}
use Rattle.octets.specs.Digits.{to_big_endian}
use Rattle.answers.specs.Refusal.{number_in}
use Rattle.answers.specs.Written.{Refuses, Writes}
use Rattle.answers.proofs.WrittenBy.{refuses, writes}
use Rattle.eblock.specs.Descriptor.{has, fault_of}
use Rattle.eblock.specs.Header.{descriptor_of, second_of, third_of, header_bytes, refusal_of, read_of, second_field, write_refusal, write_of, write_after, values}
use Rattle.eblock.specs.HeaderRows.{Reads, ReadRows, WriteRows}
use Rattle.eblock.specs.declared.header.Header.{Header}
use Rattle.eblock.specs.declared.header.Header.TheVariants.{Data, Eodc}
use Rattle.eblock.proofs.HeaderAnswers as answers
use Rattle.eblock.proofs.HeaderFields.{length-bytes_of}

-- ---- the reader

module _ (h : List ℕ) where
  reads : (a : Result Header ℕ) → read_of h ≡ a → Reads h (number_in a) (values a)
  reads a e = record { number_is = ap number_in e; values_are = ap values e }

  reads_21 : length h ≢ 17 → Reads h 21 []
  unfolding values
  reads_21 n = reads (Err 21) (answers.reads_21 h n)

  module _ (n : length h ≡ 17) where
    reads_fault : 0 < fault_of (descriptor_of h) → Reads h (fault_of (descriptor_of h)) []
    unfolding values
    reads_fault f = reads (Err (fault_of (descriptor_of h))) (answers.reads-refused h _ n (answers.refusal-fault (descriptor_of h) (third_of h) f) f)

    module _ (f : fault_of (descriptor_of h) ≡ 0) where
      reads_15 : has 64 (descriptor_of h) ≡ true → (third_of h ≡ 0) ⊎ (64 < third_of h) → Reads h 15 []
      unfolding values
      reads_15 e o = reads (Err 15) (answers.reads-refused h 15 n (answers.refusal-15 (descriptor_of h) (third_of h) f e o) (omega arith))

      reads_count : has 64 (descriptor_of h) ≡ true → 0 < third_of h → third_of h ≤ 64
          → (read_of h ≡ Ok (Eodc (descriptor_of h) (third_of h))) × Reads h 0 (descriptor_of h ∷ third_of h ∷ [])
      unfolding values
      reads_count e z l =
          let r = answers.reads-meant h n (answers.refusal-count (descriptor_of h) (third_of h) f e z l) ∙ ap Ok (answers.meant-count (descriptor_of h) (second_of h) (third_of h) e) in
          (r, reads (Ok (Eodc (descriptor_of h) (third_of h))) r)

      reads_data : has 64 (descriptor_of h) ≡ false
          → (read_of h ≡ Ok (Data (descriptor_of h) (second_of h) (third_of h))) × Reads h 0 (descriptor_of h ∷ second_of h ∷ third_of h ∷ [])
      unfolding values
      reads_data e =
          let r = answers.reads-meant h n (answers.refusal-data (descriptor_of h) (third_of h) f e) ∙ ap Ok (answers.meant-data (descriptor_of h) (second_of h) (third_of h) e) in
          (r, reads (Ok (Data (descriptor_of h) (second_of h) (third_of h))) r)

pub read-rows : ReadRows
read-rows = record { reads_21 = reads_21; reads_fault = reads_fault; reads_15 = reads_15; reads_count = reads_count; reads_data = reads_data }

-- ---- the writer

module _ (d len third : ℕ) (out : List ℕ) where
  refused : (k : ℕ) → write_refusal d third out ≡ k → 0 < k → Refuses (write_of d third out) (write_after d len third out) out k
  unfolding write_of write_after
  refused k e h = refuses (write_refusal d third out) 17 (header_bytes d (second_field d len) third) out k e h

  written : (second : ℕ) → refusal_of d third ≡ 0 → second_field d len ≡ second → 17 ≤ length out
      → Writes (write_of d third out) (write_after d len third out) out (d ∷ (to_big_endian 256 8 second ++ to_big_endian 256 8 third)) 17
  unfolding write_of write_after header_bytes
  written second r s l =
      rw s (writes (write_refusal d third out) 17 (header_bytes d second third) out (answers.number_0 d third out r l) (length-bytes_of d second third))

  writes_fault : 0 < fault_of d → Refuses (write_of d third out) (write_after d len third out) out (fault_of d)
  writes_fault f = refused (fault_of d) (answers.number-refused d third out (fault_of d) (answers.refusal-fault d third f) f) f

  module _ (f : fault_of d ≡ 0) where
    writes_15 : has 64 d ≡ true → (third ≡ 0) ⊎ (64 < third) → Refuses (write_of d third out) (write_after d len third out) out 15
    writes_15 e o = refused 15 (answers.number-refused d third out 15 (answers.refusal-15 d third f e o) (omega arith)) (omega arith)

    writes_55 : (has 64 d ≡ true → (0 < third) × (third ≤ 64)) → length out < 17 → Refuses (write_of d third out) (write_after d len third out) out 55
    writes_55 n l = refused 55 (answers.number-55 d third out (go (has 64 d) refl) l) (omega arith)
      where
        go : (b : Bool) → has 64 d ≡ b → refusal_of d third ≡ 0
        go true e = answers.refusal-count d third f e (n e).0 (n e).1
        go false e = answers.refusal-data d third f e

    writes_count : has 64 d ≡ true → 0 < third → third ≤ 64 → 17 ≤ length out
        → Writes (write_of d third out) (write_after d len third out) out (d ∷ (to_big_endian 256 8 0 ++ to_big_endian 256 8 third)) 17
    unfolding second_field
    writes_count e z m l = written 0 (answers.refusal-count d third f e z m) (rw e) l

    writes_data : has 64 d ≡ false → 17 ≤ length out
        → Writes (write_of d third out) (write_after d len third out) out (d ∷ (to_big_endian 256 8 len ++ to_big_endian 256 8 third)) 17
    unfolding second_field
    writes_data e l = written len (answers.refusal-data d third f e) (rw e) l

pub write-rows : WriteRows
write-rows = record { writes_fault = writes_fault; writes_15 = writes_15; writes_55 = writes_55; writes_count = writes_count; writes_data = writes_data }
