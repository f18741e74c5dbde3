-- The laws of numbers as digits, over every base and every width: what was written reads back as the number, and what was read writes back as the digits.
use Prim.Native.Nat.{ℕ, zero, suc, ◌+◌, ◌*◌, ◌/◌, ◌%◌, ◌^◌, ◌≤◌, ◌<◌}
use mathlib.Core.Path.{◌≡◌, refl, sym, ap, ◌∙◌}
use mathlib.Core.List.{List, [], ◌∷◌, ◌++◌, reverse, reverse-cons, reverse-append, reverse-reverse}
use native.Mathlib.Omega.{arith}
use native.Mathlib.Nat.{pow-zero, pow-suc, mod-lt, div-add-mod', div-lt_iff_lt-mul, le_refl, le-mul_of_pos_right, mul-le-mul_right}
use lib.Arith.{digits_lt, digits_div, digits_mod, lt-one}
use lib.ListN.{length, get_or, take, drop, length-reverse}
use Rattle.octets.specs.Digits.{AllBelow, from_little_endian, from_big_endian, to_little_endian, to_big_endian}

-- ---- runs of digits

pub below-append : (B : ℕ) (xs ys : List ℕ) → AllBelow B xs → AllBelow B ys → AllBelow B (xs ++ ys)
below-append B [] ys hx hy = hy
below-append B (x ∷ xs) ys hx hy = (hx.0, below-append B xs ys hx.1 hy)

pub below-reverse : (B : ℕ) (xs : List ℕ) → AllBelow B xs → AllBelow B (reverse xs)
below-reverse B [] h = tt
below-reverse B (x ∷ xs) h = rw (reverse-cons x xs) (below-append B (reverse xs) (x ∷ []) (below-reverse B xs h.1) (h.0, tt))

pub below-take : (B n : ℕ) (xs : List ℕ) → AllBelow B xs → AllBelow B (take n xs)
below-take B zero xs h = tt
below-take B (suc n) [] h = tt
below-take B (suc n) (x ∷ xs) h = (h.0, below-take B n xs h.1)

pub below-drop : (B n : ℕ) (xs : List ℕ) → AllBelow B xs → AllBelow B (drop n xs)
below-drop B zero xs h = h
below-drop B (suc n) [] h = tt
below-drop B (suc n) (x ∷ xs) h = below-drop B n xs h.1

-- from what a lent slice says of its elements, place by place
pub below_at : (B : ℕ) (xs : List ℕ) → ((i : ℕ) → get_or xs i 0 < B) → AllBelow B xs
below_at B [] h = tt
below_at B (x ∷ xs) h = (h 0, below_at B xs (λ i. h (suc i)))

pub length-to_little : (B w n : ℕ) → length (to_little_endian B w n) ≡ w
unfolding to_little_endian
length-to_little B zero n = refl
length-to_little B (suc w) n = ap suc (length-to_little B w (n / B))

pub length-to_big : (B w n : ℕ) → length (to_big_endian B w n) ≡ w
unfolding to_big_endian
length-to_big B w n = length-reverse (to_little_endian B w n) ∙ length-to_little B w n

pub below-to_little : (B w n : ℕ) → 0 < B → AllBelow B (to_little_endian B w n)
unfolding to_little_endian
below-to_little B zero n h = tt
below-to_little B (suc w) n h = (mod-lt n h, below-to_little B w (n / B) h)

pub below-to_big : (B w n : ℕ) → 0 < B → AllBelow B (to_big_endian B w n)
unfolding to_big_endian
below-to_big B w n h = below-reverse B (to_little_endian B w n) (below-to_little B w n h)

-- ---- a digit more

pub from_little-cons : (B d : ℕ) (ds : List ℕ) → from_little_endian B (d ∷ ds) ≡ from_little_endian B ds * B + d
unfolding from_little_endian
from_little-cons B d ds = refl

pub from_big-snoc : (B d : ℕ) (ds : List ℕ) → from_big_endian B (ds ++ (d ∷ [])) ≡ from_big_endian B ds * B + d
unfolding from_big_endian from_little_endian
from_big-snoc B d ds = rw (reverse-append ds (d ∷ []))

pub to_big-suc : (B w n : ℕ) → to_big_endian B (suc w) n ≡ to_big_endian B w (n / B) ++ (n % B ∷ [])
unfolding to_big_endian to_little_endian
to_big-suc B w n = reverse-cons (n % B) (to_little_endian B w (n / B))

-- ---- bounds

pub from_little-lt : (B : ℕ) (ds : List ℕ) → AllBelow B ds → from_little_endian B ds < B ^ length ds
unfolding from_little_endian
from_little-lt B [] h = rw (pow-zero B) (omega arith)
from_little-lt B (d ∷ ds) h = rw (pow-suc B (length ds)) (digits_lt (from_little-lt B ds h.1) h.0)

pub from_big-lt : (B : ℕ) (ds : List ℕ) → AllBelow B ds → from_big_endian B ds < B ^ length ds
unfolding from_big_endian
from_big-lt B ds h = rw (length-reverse ds) at (from_little-lt B (reverse ds) (below-reverse B ds h))

from_little-grows : (B : ℕ) (xs ys : List ℕ) → 0 < B → from_little_endian B ys ≤ from_little_endian B (xs ++ ys)
unfolding from_little_endian
from_little-grows B [] ys h = le_refl (from_little_endian B ys)
from_little-grows B (x ∷ xs) ys h =
    omega (arith, from_little-grows B xs ys h, le-mul_of_pos_right (from_little_endian B (xs ++ ys)) h)

-- more digits never say a smaller number
pub from_big-grows : (B : ℕ) (xs ys : List ℕ) → 0 < B → from_big_endian B xs ≤ from_big_endian B (xs ++ ys)
unfolding from_big_endian
from_big-grows B xs ys h = rw (reverse-append xs ys) (from_little-grows B (reverse ys) (reverse xs) h)

from_little-last : (B d : ℕ) (ds : List ℕ) → 0 < d → B ^ length ds ≤ from_little_endian B (ds ++ (d ∷ []))
unfolding from_little_endian
from_little-last B d [] h = rw (pow-zero B) (omega arith)
from_little-last B d (x ∷ ds) h =
    rw (pow-suc B (length ds)) (omega (arith, mul-le-mul_right B (from_little-last B d ds h)))

-- a first digit above 0 counts as much as its place says
pub from_big-first : (B d : ℕ) (ds : List ℕ) → 0 < d → B ^ length ds ≤ from_big_endian B (d ∷ ds)
unfolding from_big_endian
from_big-first B d ds h = rw (reverse-cons d ds, ← length-reverse ds) (from_little-last B d (reverse ds) h)

-- ---- there and back

-- what was written, at any width that the number fits, reads back as the number
pub little_reads_back : (B w n : ℕ) → 0 < B → n < B ^ w → from_little_endian B (to_little_endian B w n) ≡ n
unfolding from_little_endian to_little_endian
little_reads_back B zero n hB h = sym (lt-one (rw (pow-zero B) at h))
little_reads_back B (suc w) n hB h =
    rw (little_reads_back B w (n / B) hB ((div-lt_iff_lt-mul hB).1 (rw (pow-suc B w) at h))) (div-add-mod' n B)

pub big_reads_back : (B w n : ℕ) → 0 < B → n < B ^ w → from_big_endian B (to_big_endian B w n) ≡ n
unfolding from_big_endian to_big_endian
big_reads_back B w n hB h = rw (reverse-reverse (to_little_endian B w n)) (little_reads_back B w n hB h)

-- what was read writes back, at the width that was read, as the same digits
pub little_writes_back : (B : ℕ) (ds : List ℕ) → AllBelow B ds → to_little_endian B (length ds) (from_little_endian B ds) ≡ ds
unfolding from_little_endian to_little_endian
little_writes_back B [] h = refl
little_writes_back B (d ∷ ds) h =
    rw (digits_mod (from_little_endian B ds) h.0, digits_div (from_little_endian B ds) h.0) (ap (λ (l : List ℕ). d ∷ l) (little_writes_back B ds h.1))

pub big_writes_back : (B : ℕ) (ds : List ℕ) → AllBelow B ds → to_big_endian B (length ds) (from_big_endian B ds) ≡ ds
unfolding from_big_endian to_big_endian
big_writes_back B ds h =
    rw (← length-reverse ds) (ap reverse (little_writes_back B (reverse ds) (below-reverse B ds h)) ∙ reverse-reverse ds)
