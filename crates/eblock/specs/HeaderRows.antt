-- What the header reader and the header writer answer, row by row (document 01, "The block", "Numbers the host sees"): the number of each answer and
-- the values it carries. The premises carry the order of the numbers.
use Rattle.std.specs.Prelude.{ℕ, ◌≤◌, ◌<◌, ◌≡◌, ◌⊎◌, ◌≢◌, true, false, Ok, List, [], ◌∷◌, ◌++◌, length}
use Rattle.octets.specs.Digits.{to_big_endian}
use Rattle.answers.specs.Refusal.{number_in}
use Rattle.answers.specs.Written.{Refuses, Writes}
use Rattle.eblock.specs.Descriptor.{has, fault_of}
use Rattle.eblock.specs.Header.{descriptor_of, second_of, third_of, read_of, write_of, write_after, values}
use Rattle.eblock.specs.declared.header.Header.TheVariants.{Data, Eodc}

-- the reader's answer to these bytes
pub record Reads (h : List ℕ) (k : ℕ) (vs : List ℕ) : Type 0 where
  pub number_is : number_in (read_of h) ≡ k
  pub values_are : values (read_of h) ≡ vs

pub record ReadRows : Type 0 where
  -- 21: there are not 17 bytes
  pub reads_21 : (h : List ℕ) → length h ≢ 17 → Reads h 21 []
  -- 11, 12 or 13: the descriptor's fault
  pub reads_fault : (h : List ℕ) → length h ≡ 17 → 0 < fault_of (descriptor_of h) → Reads h (fault_of (descriptor_of h)) []
  -- 15: the number of end markers is not one of 1 to 64
  pub reads_15 : (h : List ℕ) → length h ≡ 17 → fault_of (descriptor_of h) ≡ 0 → has 64 (descriptor_of h) ≡ true → (third_of h ≡ 0) ⊎ (64 < third_of h)
      → Reads h 15 []
  -- else a number of end markers, whatever the second field holds
  pub reads_count : (h : List ℕ) → length h ≡ 17 → fault_of (descriptor_of h) ≡ 0 → has 64 (descriptor_of h) ≡ true → 0 < third_of h → third_of h ≤ 64
      → (read_of h ≡ Ok (Eodc (descriptor_of h) (third_of h))) × Reads h 0 (descriptor_of h ∷ third_of h ∷ [])
  -- without bit 64 data, whatever length and offset are
  pub reads_data : (h : List ℕ) → length h ≡ 17 → fault_of (descriptor_of h) ≡ 0 → has 64 (descriptor_of h) ≡ false
      → (read_of h ≡ Ok (Data (descriptor_of h) (second_of h) (third_of h))) × Reads h 0 (descriptor_of h ∷ second_of h ∷ third_of h ∷ [])

pub record WriteRows : Type 0 where
  -- 11, 12 or 13: the descriptor's fault
  pub writes_fault : (d len third : ℕ) (out : List ℕ) → 0 < fault_of d → Refuses (write_of d third out) (write_after d len third out) out (fault_of d)
  -- 15: the number of end markers is not one of 1 to 64
  pub writes_15 : (d len third : ℕ) (out : List ℕ) → fault_of d ≡ 0 → has 64 d ≡ true → (third ≡ 0) ⊎ (64 < third)
      → Refuses (write_of d third out) (write_after d len third out) out 15
  -- 55: fewer than 17 bytes are lent
  pub writes_55 : (d len third : ℕ) (out : List ℕ) → fault_of d ≡ 0 → (has 64 d ≡ true → (0 < third) × (third ≤ 64)) → length out < 17
      → Refuses (write_of d third out) (write_after d len third out) out 55
  -- else the 17 bytes, 0 in the second field with bit 64 and the length without it; the bytes after them are unchanged
  pub writes_count : (d len third : ℕ) (out : List ℕ) → fault_of d ≡ 0 → has 64 d ≡ true → 0 < third → third ≤ 64 → 17 ≤ length out
      → Writes (write_of d third out) (write_after d len third out) out (d ∷ (to_big_endian 256 8 0 ++ to_big_endian 256 8 third)) 17
  pub writes_data : (d len third : ℕ) (out : List ℕ) → fault_of d ≡ 0 → has 64 d ≡ false → 17 ≤ length out
      → Writes (write_of d third out) (write_after d len third out) out (d ∷ (to_big_endian 256 8 len ++ to_big_endian 256 8 third)) 17
