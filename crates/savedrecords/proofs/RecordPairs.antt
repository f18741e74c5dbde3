-- Pairs in bytes: how many, their order, the last end, and their bytes, there and back.
use Prim.Native.Nat.{ℕ, zero, suc, ◌+◌, ◌*◌, ◌-◌, ◌/◌, ◌%◌, ◌^◌, ◌≤◌, ◌<◌}
use mathlib.Core.Path.{◌≡◌, refl, sym, ap, ◌∙◌}
use mathlib.Core.Bool.{Bool, true, false, cond, ◌&&◌, ◌||◌, and-true, and-false, and-eq-true_iff}
use mathlib.Core.List.{List, [], ◌∷◌, ◌++◌, append_assoc}
use native.Mathlib.Omega.{arith}
use native.Mathlib.Decide.{dec_lt, dec_le}
use native.Mathlib.Nat.{pow-le-pow_right}
use borrow.Author.Tests.{le-leb, lt-leb, leb-true, lt-ltb, le-ltb, ne_eqb}
use lib.Dec.{leb, ltb, eqb}
use lib.ListN.{length, take, drop, length-append, length-take, length-drop, take-append-drop}
use lib.Seq.{drop-drop, take_at, drop_at, length-take-le, take-append-le, drop-append-le}
use Rattle.octets.specs.Digits.{AllBelow, from_little_endian, to_little_endian}
use Rattle.octets.proofs.Digits.{length-to_little, below-take, below-drop, from_little-lt, little_reads_back, little_writes_back}
use Rattle.ledger.specs.Pairs.{Pairs, none, pair, size, ObeyFrom, ends_at_most, obey_from}
use Rattle.ledger.specs.Ledger.{largest}
use Rattle.savedrecords.specs.Kind.{second_of}
use Rattle.savedrecords.specs.Record.{start_in, end_in, pairs_in, pair_bytes, may_follow, last_end}
use Rattle.savedrecords.specs.declared.kind.SecondNumber.{SecondNumber}
use Rattle.savedrecords.specs.declared.kind.SecondNumber.TheVariants.{End}
use Rattle.savedrecords.proofs.KindNumbers.{end_of-second_of, second_of-end_of, second_of-le}

-- ---- lengths

pub size-pairs_in : (second : SecondNumber) (n : ℕ) (bytes : List ℕ) → size (pairs_in second n bytes) ≡ n
unfolding size pairs_in
size-pairs_in second zero bytes = refl
size-pairs_in second (suc n) bytes = ap suc (size-pairs_in second n (drop 16 bytes))

pub length-pair_bytes : (second : SecondNumber) (ps : Pairs) → length (pair_bytes second ps) ≡ 16 * size ps
unfolding pair_bytes size
length-pair_bytes second none = refl
length-pair_bytes second (pair a b ps) =
    simp length-append (omega (arith, length-to_little 256 8 a, length-to_little 256 8 (second_of second a b), length-pair_bytes second ps))

-- ---- order

follows-empty : (start len a n : ℕ) → n ≡ 0 → may_follow start len a n ≡ false
follows-empty start len a n e = rw e (and-false (eqb len 0 || ltb (start + len) a))

-- the least place at which a pair may start after that one
abbrev pub lowest_after : ℕ → ℕ → ℕ
lowest_after start len = cond (eqb len 0) 0 (suc (start + len))

-- a pair is tested by its length, and the next one by where it ends
pub obey_from-pair : (start len a e n : ℕ) (ps : Pairs) → n ≡ e - a
    → obey_from (lowest_after start len) (pair a e ps) ≡ (may_follow start len a n && obey_from (lowest_after a n) ps)
unfolding obey_from
obey_from-pair start len a e n ps l = go (dec_lt a e)
  where
    lowest : (t : Bool) → leb (cond t 0 (suc (start + len))) a ≡ (t || ltb (start + len) a)
    lowest true = le-leb 0 a (omega arith)
    lowest false = refl

    go : Dec (a < e) → (leb (lowest_after start len) a && (ltb a e && obey_from (suc e) ps)) ≡ (may_follow start len a n && obey_from (lowest_after a n) ps)
    go (yes h) =
        let z : a + n ≡ e = omega arith in
        rw (lowest (eqb len 0), lt-ltb a e h, ne_eqb n 0 (omega arith), lt-ltb 0 n (omega arith), z, and-true (eqb len 0 || ltb (start + len) a))
    go (no h) = rw (follows-empty start len a n (omega arith), le-ltb a e (omega arith)) (and-false (leb (lowest_after start len) a))

-- the first sixteen bytes are a pair
module _ (second : SecondNumber) (bytes chunk rest : List ℕ) (same : bytes ≡ chunk ++ rest) (sixteen : length chunk ≡ 16) where
  pub start_first : start_in bytes ≡ start_in chunk
  start_first = rw (same, take-append-le 8 chunk rest (omega arith))

  number_first : from_little_endian 256 (take 8 (drop 8 bytes)) ≡ from_little_endian 256 (take 8 (drop 8 chunk))
  number_first =
      let l : 8 ≤ length (drop 8 chunk) = simp length-drop (omega arith) in
      rw (same, drop-append-le 8 chunk rest (omega arith), take-append-le 8 (drop 8 chunk) rest l)

  pub end_first : end_in second bytes ≡ end_in second chunk
  end_first = rw (start_first, number_first)

  pub pairs_first : pairs_in second (length bytes / 16) bytes ≡ pair (start_in chunk) (end_in second chunk) (pairs_in second (length rest / 16) rest)
  unfolding pairs_in
  pairs_first =
      let n : length bytes / 16 ≡ suc (length rest / 16) = rw same (omega (arith, length-append chunk rest)) in
      let d : drop 16 bytes ≡ rest = rw same (drop_at chunk rest 16 sixteen) in
      rw (n, start_first, number_first, d)

  -- and are looked at
  pub obey_first : (start len a n : ℕ) → a ≡ start_in chunk → n ≡ end_in second chunk - start_in chunk
      → obey_from (lowest_after start len) (pairs_in second (length bytes / 16) bytes) ≡ (may_follow start len a n && obey_from (lowest_after a n) (pairs_in second (length rest / 16) rest))
  obey_first start len a n s l =
      rw (pairs_first, s) (obey_from-pair start len (start_in chunk) (end_in second chunk) n (pairs_in second (length rest / 16) rest) l)

-- the next sixteen bytes of those that are left after the first k pairs
module _ (second : SecondNumber) (bytes left chunk rest : List ℕ) (k : ℕ) (left_is : left ≡ drop (16 * k) bytes) (same : left ≡ chunk ++ rest) (sixteen : length chunk ≡ 16) where
  pub chunk_within : k < length bytes / 16
  chunk_within = omega (arith, ap length left_is, ap length same, length-drop (16 * k) bytes, length-append chunk rest)

  pub rest_after : rest ≡ drop (16 * (k + 1)) bytes
  rest_after =
      let q : 16 * (k + 1) ≡ 16 * k + 16 = omega arith in
      rw (q, ← drop-drop 16 (16 * k) bytes, ← left_is, same, drop_at chunk rest 16 sixteen)

  -- they are the pair with the number k
  pub pair_is : (start len : ℕ) → start ≡ start_in chunk → len ≡ end_in second chunk - start_in chunk → let part = drop (16 * k) bytes in
      (start ≡ start_in part) × (len ≡ end_in second part - start_in part)
  pair_is start len s l =
      let starts : start_in (drop (16 * k) bytes) ≡ start_in chunk = rw (← left_is) (start_first second left chunk rest same sixteen) in
      let ends : end_in second (drop (16 * k) bytes) ≡ end_in second chunk = rw (← left_is) (end_first second left chunk rest same sixteen) in
      (s ∙ sym starts, omega (arith, l, starts, ends))

-- ---- the last end

pub last_end-pairs_in : (second : SecondNumber) (n : ℕ) (bytes : List ℕ) → last_end (pairs_in second (suc n) bytes) ≡ end_in second (drop (16 * n) bytes)
unfolding pairs_in last_end
last_end-pairs_in second zero bytes = refl
last_end-pairs_in second (suc n) bytes =
    let q : 16 * suc n ≡ 16 + 16 * n = omega arith in
    last_end-pairs_in second n (drop 16 bytes) ∙ rw (q, ← drop-drop (16 * n) 16 bytes)

-- the pairs of these bytes, the last of them before a rest of less than sixteen
pub last_end_back : (second : SecondNumber) (bytes front chunk after : List ℕ) → bytes ≡ (front ++ chunk) ++ after → length chunk ≡ 16 → length after ≡ length bytes % 16
    → last_end (pairs_in second (length bytes / 16) bytes) ≡ end_in second chunk
last_end_back second bytes front chunk after e h g =
    let l : length bytes ≡ length front + (length chunk + length after) = rw e (length-append (front ++ chunk) after ∙ rw (length-append front chunk) (omega arith)) in
    let n = length front / 16 in
    let m : length bytes / 16 ≡ suc n = omega arith in
    let f : length front ≡ 16 * n = omega arith in
    let same : drop (16 * n) bytes ≡ chunk ++ after = rw (e, append_assoc front chunk after) (drop_at front (chunk ++ after) (16 * n) f) in
    rw m (last_end-pairs_in second n bytes ∙ end_first second (drop (16 * n) bytes) chunk after same h)

-- ends by the rule rise, so that the last one tells
pub ends_at_most-last : (f lo : ℕ) (ps : Pairs) → ObeyFrom lo ps → ends_at_most f ps ≡ leb (last_end ps) f
unfolding ends_at_most last_end
ends_at_most-last f lo none o = sym (le-leb 0 f (omega arith))
ends_at_most-last f lo (pair a b none) o = and-true (leb b f)
ends_at_most-last f lo (pair a b (pair c d ps)) o = go (dec_le d f) (ends_at_most-last f (suc b) (pair c d ps) o.2)
  where
    go : Dec (d ≤ f) → ends_at_most f (pair c d ps) ≡ leb (last_end (pair c d ps)) f → (leb b f && ends_at_most f (pair c d ps)) ≡ leb (last_end (pair c d ps)) f
    go (yes h) i = rw (le-leb b f (omega (arith, o.2))) i
    go (no h) i = rw (lt-leb d f (omega arith)) (and-false (leb b f) ∙ (rw (lt-leb d f (omega arith)) at i))

-- so that a greater limit does too
pub ends_at_most-more : (f g lo : ℕ) (ps : Pairs) → ObeyFrom lo ps → f ≤ g → ends_at_most f ps ≡ true → ends_at_most g ps ≡ true
ends_at_most-more f g lo ps o h e =
    let l = leb-true (last_end ps) f (sym (ends_at_most-last f lo ps o) ∙ e) in
    ends_at_most-last g lo ps o ∙ le-leb (last_end ps) g (omega arith)

-- ---- one of the pairs

module _ (second : SecondNumber) where
  -- none by the rule is empty
  pub filled_at : (n k lo : ℕ) (bytes : List ℕ) → k < n → ObeyFrom lo (pairs_in second n bytes)
      → start_in (drop (16 * k) bytes) < end_in second (drop (16 * k) bytes)
  unfolding pairs_in
  filled_at zero k lo bytes h o = absurd (omega arith)
  filled_at (suc n) zero lo bytes h o = o.1
  filled_at (suc n) (suc k) lo bytes h o =
      let q : 16 * suc k ≡ 16 + 16 * k = omega arith in
      rw (q, ← drop-drop (16 * k) 16 bytes) (filled_at n k _ (drop 16 bytes) (omega arith) o.2)

  -- the next one starts above its end
  pub rises-at : (n k lo : ℕ) (bytes : List ℕ) → k + 1 < n → ObeyFrom lo (pairs_in second n bytes)
      → end_in second (drop (16 * k) bytes) < start_in (drop (16 * (k + 1)) bytes)
  unfolding pairs_in
  rises-at zero k lo bytes h o = absurd (omega arith)
  rises-at (suc zero) k lo bytes h o = absurd (omega arith)
  rises-at (suc (suc n)) zero lo bytes h o = o.2.0
  rises-at (suc (suc n)) (suc k) lo bytes h o =
      let q : 16 * suc k ≡ 16 + 16 * k = omega arith in
      let p : 16 * (suc k + 1) ≡ 16 + 16 * (k + 1) = omega arith in
      rw (q, p, ← drop-drop (16 * k) 16 bytes, ← drop-drop (16 * (k + 1)) 16 bytes) (rises-at (suc n) k _ (drop 16 bytes) (omega arith) o.2)

  both : (f n : ℕ) (bytes : List ℕ) → ends_at_most f (pairs_in second (suc n) bytes) ≡ true
      → (leb (end_in second bytes) f ≡ true) × (ends_at_most f (pairs_in second n (drop 16 bytes)) ≡ true)
  unfolding pairs_in ends_at_most
  both f n bytes e = (and-eq-true_iff (leb (end_in second bytes) f) (ends_at_most f (pairs_in second n (drop 16 bytes)))).0 e

  pub ends_at : (n k f : ℕ) (bytes : List ℕ) → k < n → ends_at_most f (pairs_in second n bytes) ≡ true → end_in second (drop (16 * k) bytes) ≤ f
  unfolding pairs_in ends_at_most
  ends_at zero k f bytes h e = absurd (omega arith)
  ends_at (suc n) zero f bytes h e = leb-true (end_in second bytes) f (both f n bytes e).0
  ends_at (suc n) (suc k) f bytes h e =
      let q : 16 * suc k ≡ 16 + 16 * k = omega arith in
      rw (q, ← drop-drop (16 * k) 16 bytes) (ends_at n k f (drop 16 bytes) (omega arith) (both f n bytes e).1)

  -- read as start and length it ends where it does, and at f or before where all do
  pub pair-at : (n k f start len : ℕ) (bytes : List ℕ) → k < n → ObeyFrom 0 (pairs_in second n bytes) → ends_at_most f (pairs_in second n bytes) ≡ true
      → let part = drop (16 * k) bytes in start ≡ start_in part → len ≡ end_in second part - start_in part
      → (start + len ≡ end_in second part) × (end_in second part ≤ f)
  pair-at n k f start len bytes h o e s l = (omega (arith, filled_at n k 0 bytes h o), ends_at n k f bytes h e)

-- ---- there and back

-- a number of 64 bits before other bytes
pub eight-back : (n : ℕ) (t : List ℕ) → n < 2 ^ 64 → from_little_endian 256 (take 8 (to_little_endian 256 8 n ++ t)) ≡ n
eight-back n t h = rw (take_at (to_little_endian 256 8 n) t 8 (length-to_little 256 8 n)) (little_reads_back 256 8 n (omega arith) h)

pub pairs_in-pair_bytes : (second : SecondNumber) (lo : ℕ) (ps : Pairs) → ObeyFrom lo ps → ends_at_most largest ps ≡ true
    → pairs_in second (size ps) (pair_bytes second ps) ≡ ps
unfolding pairs_in pair_bytes size ends_at_most
pairs_in-pair_bytes second lo none o h = refl
pairs_in-pair_bytes second lo (pair a b ps) o h =
    let q = (and-eq-true_iff (leb b largest) (ends_at_most largest ps)).0 h in
    let l = leb-true b largest q.0 in
    let x = to_little_endian 256 8 a in
    let s = second_of second a b in
    let y = to_little_endian 256 8 s in
    let t = y ++ pair_bytes second ps in
    let start : start_in (x ++ t) ≡ a = eight-back a t (omega (arith, o.1)) in
    let behind : drop 8 (x ++ t) ≡ t = drop_at x t 8 (length-to_little 256 8 a) in
    let number : from_little_endian 256 (take 8 t) ≡ s = eight-back s (pair_bytes second ps) (omega (arith, second_of-le second a b)) in
    let rest : drop 16 (x ++ t) ≡ pair_bytes second ps = sym (drop-drop 8 8 (x ++ t)) ∙ rw behind (drop_at y (pair_bytes second ps) 8 (length-to_little 256 8 s)) in
    rw (behind, number, start, rest, end_of-second_of second a b (omega (arith, o.1)), pairs_in-pair_bytes second (suc b) ps o.2 q.1)

-- eight bytes, read and written
pub eight-same : (bs : List ℕ) → AllBelow 256 bs → 8 ≤ length bs → to_little_endian 256 8 (from_little_endian 256 (take 8 bs)) ≡ take 8 bs
eight-same bs b h =
    let n : length (take 8 bs) ≡ 8 = length-take-le 8 bs h in
    rw n at (little_writes_back 256 (take 8 bs) (below-take 256 8 bs b))

-- eight bytes say a number of 64 bits, so the ends that are numbers of their own do
pub eight-lt : (bs : List ℕ) → AllBelow 256 bs → from_little_endian 256 (take 8 bs) < 2 ^ 64
eight-lt bs b =
    let eight = take 8 bs in
    let n : length eight ≤ 8 = simp length-take (omega arith) in
    omega (arith, from_little-lt 256 eight (below-take 256 8 bs b), pow-le-pow_right {n = 256} (omega arith) {i = length eight} {j = 8} n)

pub ends-fit : (n : ℕ) (bytes : List ℕ) → AllBelow 256 bytes → ends_at_most largest (pairs_in End n bytes) ≡ true
unfolding pairs_in ends_at_most
ends-fit zero bytes b = refl
ends-fit (suc n) bytes b =
    let e = eight-lt (drop 8 bytes) (below-drop 256 8 bytes b) in
    rw (le-leb (from_little_endian 256 (take 8 (drop 8 bytes))) largest (omega (arith, e))) (ends-fit n (drop 16 bytes) (below-drop 256 16 bytes b))

pub pair_bytes-pairs_in : (second : SecondNumber) (n : ℕ) (bytes : List ℕ) → AllBelow 256 bytes → length bytes ≡ 16 * n
    → pair_bytes second (pairs_in second n bytes) ≡ bytes
unfolding pairs_in pair_bytes
pair_bytes-pairs_in second zero [] b h = refl
pair_bytes-pairs_in second zero (x ∷ bytes) b h = absurd (omega arith)
pair_bytes-pairs_in second (suc n) bytes b h =
    let l : length (drop 8 bytes) ≡ length bytes - 8 = length-drop 8 bytes in
    let i = pair_bytes-pairs_in second n (drop 16 bytes) (below-drop 256 16 bytes b) (length-drop 16 bytes ∙ omega arith) in
    rw (
      second_of-end_of second (start_in bytes) (from_little_endian 256 (take 8 (drop 8 bytes))),
      eight-same bytes b (omega arith),
      eight-same (drop 8 bytes) (below-drop 256 8 bytes b) (omega arith),
      i,
      ← drop-drop 8 8 bytes,
      take-append-drop 8 (drop 8 bytes),
      take-append-drop 8 bytes,
    )
