-- Every whole record is malformed or well-formed, and bytes begin with one, with a cut one or with one that is too long.
use Prim.Native.Nat.{ℕ, ◌+◌, ◌≤◌, ◌<◌}
use mathlib.Core.Path.{◌≡◌, refl, sym, ap, ◌∙◌, subst}
use mathlib.Core.Logic.{◌⊎◌, inl, inr}
use mathlib.Core.List.{List, [], ◌∷◌, ◌++◌}
use native.Mathlib.Omega.{arith}
use native.Mathlib.Decide.{dec_le, dec_lt, ℕ_discrete}
use lib.ListN.{length, take, drop, length-take, length-drop, take-append-drop}
use lib.Seq.{take_all}
use Rattle.octets.specs.Digits.{AllBelow, from_little_endian, to_little_endian}
use Rattle.octets.proofs.Digits.{below-take, below-drop, little_writes_back}
use Rattle.frames.specs.Frame.{length_field, kind_of, body_of, framed}
use Rattle.frames.proofs.Framed.{framed-same}
use Rattle.nights.specs.Request.{file_length_in, pairs_in}
use Rattle.nights.specs.Night.{Running, none, transferring}
use Rattle.nights.specs.Replay.{IsWhole, IsKind, Malformed, no_kind, other_kind, start_length_is, no_channel, long_file, many_pairs, long_piece, before_start, IsCut, cut_field, cut_record, WellFormed, is_start, is_piece}

-- ---- the bytes of a record whose kind and body are read

module _ (r : List ℕ) (bytes : AllBelow 256 r) where
  framed-body_of : (kind : ℕ) → IsKind kind r → framed kind (body_of r) ≡ r
  framed-body_of kind is = ap (λ k. framed k (body_of r)) (sym is.2) ∙ framed-same r bytes is.1 (omega (arith, is.0.counted))

  body_below : AllBelow 256 (body_of r)
  body_below = below-drop 256 6 r bytes

eight-same : (bytes : List ℕ) → AllBelow 256 bytes → length bytes ≡ 8 → to_little_endian 256 8 (from_little_endian 256 bytes) ≡ bytes
eight-same bytes b n = rw n at (little_writes_back 256 bytes b)

-- two numbers of eight bytes
numbers-same : (body : List ℕ) → AllBelow 256 body → length body ≡ 16 → to_little_endian 256 8 (file_length_in body) ++ to_little_endian 256 8 (pairs_in body) ≡ body
unfolding file_length_in pairs_in
numbers-same body b n =
    let all : take 8 (drop 8 body) ≡ drop 8 body = take_all 8 (drop 8 body) (omega (arith, length-drop 8 body)) in
    rw (all, eight-same (take 8 body) (below-take 256 8 body b) (simp length-take (omega arith)), eight-same (drop 8 body) (below-drop 256 8 body b) (simp length-drop (omega arith)))
    (take-append-drop 8 body)

-- ---- a start, and a piece

module _ (s : Running) (r : List ℕ) (bytes : AllBelow 256 r) where
  all-starts : IsKind 16 r → Malformed s r ⊎ WellFormed s r
  all-starts is = go (ℕ_discrete (length (drop 6 r)) 16) (dec_le (file_length_in (drop 6 r)) 32768) (dec_le (pairs_in (drop 6 r)) 256)
    where
      go : Dec (length (drop 6 r) ≡ 16) → Dec (file_length_in (drop 6 r) ≤ 32768) → Dec (pairs_in (drop 6 r) ≤ 256) → Malformed s r ⊎ WellFormed s r
      go (no n) d₁ d₂ = inl (start_length_is s r is n)
      go (yes e) (no f) d = inl (long_file s r is e (omega arith))
      go (yes e) (yes f) (no p) = inl (many_pairs s r is e (omega arith))
      go (yes e) (yes f) (yes p) =
          inr (subst (WellFormed s) (ap (framed 16) (numbers-same (drop 6 r) (body_below r bytes) e) ∙ framed-body_of r bytes 16 is) (is_start s (file_length_in (drop 6 r)) (pairs_in (drop 6 r)) (f, p)))

  all-pieces : IsKind 17 r → Malformed s r ⊎ WellFormed s r
  all-pieces is = go (drop 6 r) refl
    where
      running : (c : ℕ) (piece : List ℕ) (s : Running) → drop 6 r ≡ c ∷ piece → length piece ≤ 16384 → Malformed s r ⊎ WellFormed s r
      running c piece none e h = inl (before_start r is)
      running c piece (transferring w) e h =
          let below : AllBelow 256 (c ∷ piece) = rw e at (body_below r bytes) in
          inr (subst (WellFormed (transferring w)) (ap (framed 17) (sym e) ∙ framed-body_of r bytes 17 is) (is_piece w c piece (below.0, h)))

      go : (body : List ℕ) → drop 6 r ≡ body → Malformed s r ⊎ WellFormed s r
      go [] e = inl (no_channel s r is (ap length e))
      go (c ∷ piece) e = fits (dec_le (length piece) 16384)
        where
          fits : Dec (length piece ≤ 16384) → Malformed s r ⊎ WellFormed s r
          fits (yes h) = running c piece s e h
          fits (no h) = inl (long_piece s r is (omega (arith, ap length e)))

-- ---- all records

pub all_records : (s : Running) (r : List ℕ) → AllBelow 256 r → IsWhole r → Malformed s r ⊎ WellFormed s r
all_records s r bytes w = go (dec_lt (length_field r) 2) (ℕ_discrete (kind_of r) 16) (ℕ_discrete (kind_of r) 17)
  where
    go : Dec (length_field r < 2) → Dec (kind_of r ≡ 16) → Dec (kind_of r ≡ 17) → Malformed s r ⊎ WellFormed s r
    go (yes h) d₁ d₂ = inl (no_kind s r w h)
    go (no h) (yes e) d = all-starts s r bytes (w, omega (arith, w.counted), e)
    go (no h) (no n) (yes e) = all-pieces s r bytes (w, omega (arith, w.counted), e)
    go (no h) (no n) (no m) = inl (other_kind s r w (omega (arith, w.counted)) n m)

pub all_bytes : (r : List ℕ) → (length r ≡ 0) ⊎ IsCut r ⊎ ((4 ≤ length r) × (16387 < length_field r)) ⊎ ((4 ≤ length r) × (4 + length_field r ≤ length r) × (length_field r ≤ 16387))
all_bytes r = go (ℕ_discrete (length r) 0) (dec_le 4 (length r)) (dec_le (length_field r) 16387) (dec_le (4 + length_field r) (length r))
  where
    go : Dec (length r ≡ 0) → Dec (4 ≤ length r) → Dec (length_field r ≤ 16387) → Dec (4 + length_field r ≤ length r)
        → (length r ≡ 0) ⊎ IsCut r ⊎ ((4 ≤ length r) × (16387 < length_field r)) ⊎ ((4 ≤ length r) × (4 + length_field r ≤ length r) × (length_field r ≤ 16387))
    go (yes z) d₁ d₂ d₃ = inl z
    go (no z) (no f) d₂ d₃ = inr (inl (cut_field r (omega arith) (omega arith)))
    go (no z) (yes f) (no l) d = inr (inr (inl (f, omega arith)))
    go (no z) (yes f) (yes l) (no w) = inr (inl (cut_record r f l (omega arith)))
    go (no z) (yes f) (yes l) (yes w) = inr (inr (inr (f, w, l)))
