-- Reader and writer undo each other: `RoundTrip` holds.
use Prim.Native.Nat.{ℕ, ◌^◌, ◌≤◌, ◌<◌}
use mathlib.Core.Path.{◌≡◌, refl, sym, ap, ◌∙◌}
use mathlib.Core.Bool.{Bool, true, false}
use mathlib.Core.List.{List, ◌++◌}
use native.Mathlib.Omega.{arith}
use native.Mathlib.Decide.{dec_lt, ℕ_discrete}
use lib.ListN.{length, take, drop}
use lib.Seq.{take_at}
use Rattle.octets.specs.Digits.{AllBelow}
use Rattle.std.specs.Prelude.{Ok}
use Rattle.answers.proofs.WrittenBy.{written}
use Rattle.eblock.specs.Descriptor.{has, eodc}
use Rattle.eblock.specs.Header.{header_length, descriptor_of, second_of, third_of, header_bytes, refusal_of, meant, read_of, second_field, write_refusal, write_of, write_after}
use Rattle.eblock.specs.RoundTrip.{WritesBack, RoundTrip}
use Rattle.eblock.specs.declared.header.Header.{Header}
use Rattle.eblock.specs.declared.header.Header.TheVariants.{Data, Eodc}
use Rattle.eblock.proofs.HeaderAnswers.{reads_21, reads-refused, reads-meant, meant-count, meant-data, number_0, accepts}
use Rattle.eblock.proofs.HeaderFields.{length-bytes_of, second-reads-back, third-reads-back, bytes-of-fields}

-- ---- what was written

-- with EODC the second field is not part of what is meant
meant-second : (d len third : ℕ) → meant d (second_field d len) third ≡ meant d len third
unfolding second_field
meant-second d len third = go (has eodc d) refl
  where
    go : (b : Bool) → has eodc d ≡ b → meant d (second_field d len) third ≡ meant d len third
    go true e = meant-count d (second_field d len) third e ∙ sym (meant-count d len third e)
    go false e = rw e

second_lt : (d len : ℕ) → len < 2 ^ 64 → second_field d len < 2 ^ 64
unfolding second_field
second_lt d len h = go (has eodc d) refl
  where
    go : (b : Bool) → has eodc d ≡ b → second_field d len < 2 ^ 64
    go true e = rw e (omega arith)
    go false e = rw e h

-- the reader on the bytes of fields that are accepted
reads_bytes : (d second third : ℕ) → second < 2 ^ 64 → third < 2 ^ 64 → refusal_of d third ≡ 0 → read_of (header_bytes d second third) ≡ Ok (meant d second third)
unfolding header_bytes
reads_bytes d second third h g k =
    let b = header_bytes d second third in
    let t : third_of b ≡ third = third-reads-back d second third g in
    let s : second_of b ≡ second = second-reads-back d second third h in
    reads-meant b (length-bytes_of d second third) (ap (refusal_of d) t ∙ k) ∙ rw (s, t)

-- the lent bytes after a header that was written
stored : (d len third : ℕ) (out : List ℕ) → refusal_of d third ≡ 0 → header_length ≤ length out
    → (write_of d third out ≡ Ok header_length) × (write_after d len third out ≡ header_bytes d (second_field d len) third ++ drop header_length out)
unfolding write_of write_after
stored d len third out r l =
    let bytes = header_bytes d (second_field d len) third in
    let w = written (write_refusal d third out) header_length bytes out (number_0 d third out r l) in
    (sym w.0, sym w.1 ∙ rw (length-bytes_of d (second_field d len) third))

reads_written : (d len third : ℕ) (out : List ℕ) → len < 2 ^ 64 → third < 2 ^ 64 → write_of d third out ≡ Ok header_length
    → read_of (take header_length (write_after d len third out)) ≡ Ok (meant d len third)
reads_written d len third out h g e =
    let a = accepts d third out e in
    let s = second_field d len in
    rw ((stored d len third out a.0 a.1).1, take_at (header_bytes d s third) (drop header_length out) header_length (length-bytes_of d s third))
    (reads_bytes d s third (second_lt d len h) g a.0 ∙ ap Ok (meant-second d len third))

-- ---- what was read

-- bytes that are accepted are 17, refused by nothing
pub record Accepted (h : List ℕ) : Type 0 where
  pub long : length h ≡ header_length
  pub none : refusal_of (descriptor_of h) (third_of h) ≡ 0
  pub fields : read_of h ≡ Ok (meant (descriptor_of h) (second_of h) (third_of h))

accepted : (h : List ℕ) (a : Header) → read_of h ≡ Ok a → Accepted h
accepted h a e = go (ℕ_discrete (length h) header_length) (dec_lt 0 (refusal_of (descriptor_of h) (third_of h)))
  where
    go : Dec (length h ≡ header_length) → Dec (0 < refusal_of (descriptor_of h) (third_of h)) → Accepted h
    go (no l) r = cc (e, reads_21 h l)
    go (yes l) (yes r) = cc (e, reads-refused h _ l refl r)
    go (yes l) (no r) = record { long = l; none = omega arith; fields = reads-meant h l (omega arith) }

-- the writer on the fields of bytes that are accepted, with what it puts into the second field
rewrites : (h : List ℕ) → AllBelow 256 h → Accepted h → (len : ℕ) → second_field (descriptor_of h) len ≡ second_of h
    → (out : List ℕ) → header_length ≤ length out → WritesBack h (descriptor_of h) len (third_of h) out
rewrites h b a len s out g =
    let w = stored (descriptor_of h) len (third_of h) out a.none g in
    record { accepted = w.0; same = w.1 ∙ rw (s, bytes-of-fields h b a.long) }

read-data : (h : List ℕ) → AllBelow 256 h → (d len offset : ℕ) → read_of h ≡ Ok (Data d len offset) → (out : List ℕ) → header_length ≤ length out → WritesBack h d len offset out
unfolding second_field
read-data h b d len offset e out g =
    go (has eodc (descriptor_of h)) refl (accepted h (Data d len offset) e)
  where
    go : (c : Bool) → has eodc (descriptor_of h) ≡ c → Accepted h → WritesBack h d len offset out
    go true c a =
        let f = a.fields ∙ ap Ok (meant-count (descriptor_of h) (second_of h) (third_of h) c) in
        cc (f, e)
    go false c a =
        let f = a.fields ∙ ap Ok (meant-data (descriptor_of h) (second_of h) (third_of h) c) in
        let d₁ : descriptor_of h ≡ d = cc (f, e) in
        let l₁ : second_of h ≡ len = cc (f, e) in
        let o₁ : third_of h ≡ offset = cc (f, e) in
        rw (← d₁, ← l₁, ← o₁) (rewrites h b a (second_of h) (rw c) out g)

read_count : (h : List ℕ) → AllBelow 256 h → (d n : ℕ) → read_of h ≡ Ok (Eodc d n) → second_of h ≡ 0 → (len : ℕ) (out : List ℕ) → header_length ≤ length out → WritesBack h d len n out
unfolding second_field
read_count h b d n e u len out g =
    go (has eodc (descriptor_of h)) refl (accepted h (Eodc d n) e)
  where
    go : (c : Bool) → has eodc (descriptor_of h) ≡ c → Accepted h → WritesBack h d len n out
    go false c a =
        let f = a.fields ∙ ap Ok (meant-data (descriptor_of h) (second_of h) (third_of h) c) in
        cc (f, e)
    go true c a =
        let f = a.fields ∙ ap Ok (meant-count (descriptor_of h) (second_of h) (third_of h) c) in
        let d₁ : descriptor_of h ≡ d = cc (f, e) in
        let n₁ : third_of h ≡ n = cc (f, e) in
        rw (← d₁, ← n₁) (rewrites h b a len (rw (c, u)) out g)

pub round_trip : RoundTrip
round_trip = record { reads_what_was_written = reads_written; writes_what_was_read = read-data; writes_the_count_read = read_count }
