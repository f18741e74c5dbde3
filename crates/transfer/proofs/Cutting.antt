-- Cutting loses no byte, and cuts where a block ends.
use Prim.Native.Nat.{ℕ, zero, suc, ◌≤◌, ◌<◌}
use mathlib.Core.Path.{◌≡◌, refl, sym, ap, ◌∙◌, subst}
use mathlib.Core.List.{List, [], ◌∷◌, ◌++◌, append_assoc}
use native.Mathlib.Omega.{arith}
use native.Mathlib.Decide.{dec_lt}
use borrow.Author.Tests.{le-ltb}
use lib.ListN.{length, take, drop, length-append, take-append-drop, length-take, length-drop, drop_of_length-le}
use Rattle.eblock.specs.Header.{header_length}
use Rattle.transfer.specs.Header.{payload_length}
use Rattle.transfer.specs.Block.{Block, block, size_of, block_bytes, cut_by, partial_header_by}
use Rattle.transfer.specs.Cutting.{WholeButLast, Cutting}
use Rattle.transfer.proofs.BlockCut.{Cuts, cuts-short}

-- the first block's header and payload, and what is after it
abbrev head : List ℕ → List ℕ
head bs = take header_length bs

abbrev body : List ℕ → List ℕ
body bs = take (payload_length (head bs)) (drop header_length bs)

abbrev rest : List ℕ → List ℕ
rest bs = drop (payload_length (head bs)) (drop header_length bs)

cuts_first : (k : ℕ) (bs : List ℕ) → header_length ≤ length bs → Cuts (suc k) bs (block (head bs) (body bs) ∷ cut_by k (rest bs)) (partial_header_by k (rest bs))
unfolding cut_by partial_header_by
cuts_first k bs h = let far = le-ltb (length bs) header_length h in (rw far, rw far)

-- as many cuts as there are bytes are enough, and so they are for what is after the first block
fewer : (k : ℕ) (bs : List ℕ) → length bs ≤ suc k → header_length ≤ length bs → length (rest bs) ≤ k
fewer k bs q h = omega (arith, length-drop (payload_length (head bs)) (drop header_length bs), length-drop header_length bs)

split : (bs : List ℕ) → head bs ++ (body bs ++ rest bs) ≡ bs
split bs = ap (λ r. head bs ++ r) (take-append-drop (payload_length (head bs)) (drop header_length bs)) ∙ take-append-drop header_length bs

together : (k : ℕ) (bs : List ℕ) → block_bytes (cut_by k bs) ++ partial_header_by k bs ≡ bs
unfolding block_bytes
together zero bs = unfold cut_by partial_header_by in refl
together (suc k) bs = go (dec_lt (length bs) header_length) (together k (rest bs))
  where
    go : Dec (length bs < header_length) → block_bytes (cut_by k (rest bs)) ++ partial_header_by k (rest bs) ≡ rest bs → block_bytes (cut_by (suc k) bs) ++ partial_header_by (suc k) bs ≡ bs
    go (yes h) i = let c = cuts-short (suc k) bs (omega arith) in rw (c.0, c.1)
    go (no h) i =
        let c = cuts_first k bs (omega arith) in
        let xs = block_bytes (cut_by k (rest bs)) in
        rw (c.0, c.1)
        (append_assoc (head bs) (body bs ++ xs) (partial_header_by k (rest bs)) ∙ ap (λ r. head bs ++ r) (append_assoc (body bs) xs (partial_header_by k (rest bs)) ∙ ap (λ r. body bs ++ r) i) ∙ split bs)

-- where blocks are cut after it, a payload is whole
is_whole : (k : ℕ) (bs : List ℕ) (y : Block) (ys : List Block) → cut_by k (rest bs) ≡ y ∷ ys → length (body bs) ≡ payload_length (head bs)
is_whole k bs y ys e = go (dec_lt (payload_length (head bs)) (length (drop header_length bs)))
  where
    go : Dec (payload_length (head bs) < length (drop header_length bs)) → length (body bs) ≡ payload_length (head bs)
    go (yes h) = omega (arith, length-take (payload_length (head bs)) (drop header_length bs))
    go (no h) =
        let none = (cuts-short k [] (omega arith)).0 in
        let z : ◌≡◌ {A = ℕ} 0 (suc (length ys)) = ap length (sym none ∙ ap (cut_by k) (sym (drop_of_length-le (drop header_length bs) {i = payload_length (head bs)} (omega arith))) ∙ e) in
        absurd (omega (arith, z))

whole : (k : ℕ) (bs : List ℕ) → WholeButLast (cut_by k bs)
whole zero bs = unfold cut_by in tt
whole (suc k) bs = go (dec_lt (length bs) header_length) (whole k (rest bs))
  where
    seventeen : header_length ≤ length bs → length (head bs) ≡ header_length
    seventeen h = omega (arith, length-take header_length bs)

    on : (xs : List Block) → cut_by k (rest bs) ≡ xs → header_length ≤ length bs → WholeButLast xs → WholeButLast (block (head bs) (body bs) ∷ xs)
    on [] e h w = (seventeen h, omega (arith, length-take (payload_length (head bs)) (drop header_length bs)))
    on (y ∷ ys) e h w = (seventeen h, is_whole k bs y ys e, w)

    go : Dec (length bs < header_length) → WholeButLast (cut_by k (rest bs)) → WholeButLast (cut_by (suc k) bs)
    go (yes h) w = rw (cuts-short (suc k) bs (omega arith)).0 tt
    go (no h) w = rw (cuts_first k bs (omega arith)).0 (on (cut_by k (rest bs)) refl (omega arith) w)

begun : (k : ℕ) (bs : List ℕ) → length bs ≤ k → length (partial_header_by k bs) < header_length
begun zero bs q = unfold partial_header_by in omega arith
begun (suc k) bs q = go (dec_lt (length bs) header_length) (λ h. begun k (rest bs) (fewer k bs q h))
  where
    go : Dec (length bs < header_length) → (header_length ≤ length bs → length (partial_header_by k (rest bs)) < header_length) → length (partial_header_by (suc k) bs) < header_length
    go (yes h) i = rw (cuts-short (suc k) bs (omega arith)).1 h
    go (no h) i = rw (cuts_first k bs (omega arith)).1 (i (omega arith))

no_last : (front : List Block) (x : Block) → [] ≡ front ++ (x ∷ []) → ⊥
no_last front x e = let z : ◌≡◌ {A = ℕ} 0 (length (front ++ (x ∷ []))) = ap length e in omega (arith, z, length-append front (x ∷ []))

behind : (k : ℕ) (bs : List ℕ) (front : List Block) (x : Block) → length bs ≤ k → cut_by k bs ≡ front ++ (x ∷ []) → length x.body < size_of x → partial_header_by k bs ≡ []
behind zero bs front x q e l = absurd (no_last front x (sym (cuts-short zero bs (omega arith)).0 ∙ e))
behind (suc k) bs front x q e l = go (dec_lt (length bs) header_length) front e (λ f h d. behind k (rest bs) f x (fewer k bs q h) d l)
  where
    go : Dec (length bs < header_length) → (front : List Block) → cut_by (suc k) bs ≡ front ++ (x ∷ [])
        → ((f : List Block) → header_length ≤ length bs → cut_by k (rest bs) ≡ f ++ (x ∷ []) → partial_header_by k (rest bs) ≡ []) → partial_header_by (suc k) bs ≡ []
    go (yes h) front e i = absurd (no_last front x (sym (cuts-short (suc k) bs (omega arith)).0 ∙ e))
    go (no h) [] e i =
        let c = cuts_first k bs (omega arith) in
        let same : block (head bs) (body bs) ∷ cut_by k (rest bs) ≡ x ∷ [] = sym c.0 ∙ e in
        let x-is : block (head bs) (body bs) ≡ x = cc in
        let short : length (body bs) < payload_length (head bs) = subst (λ (y : Block). length y.body < size_of y) (sym x-is) l in
        c.1 ∙ ap (partial_header_by k) (drop_of_length-le (drop header_length bs) {i = payload_length (head bs)} (omega (arith, short, length-take (payload_length (head bs)) (drop header_length bs)))) ∙ (cuts-short k [] (omega arith)).1
    go (no h) (y ∷ f) e i =
        let c = cuts_first k bs (omega arith) in
        let same : block (head bs) (body bs) ∷ cut_by k (rest bs) ≡ y ∷ (f ++ (x ∷ [])) = sym c.0 ∙ e in
        let more : cut_by k (rest bs) ≡ f ++ (x ∷ []) = cc in
        c.1 ∙ i f (omega arith) more

pub cutting : Cutting
cutting =
    record {
      together = λ bs. together (length bs) bs;
      whole = λ bs. whole (length bs) bs;
      begun = λ bs. begun (length bs) bs (omega arith);
      nothing_begun = λ bs front x e l. behind (length bs) bs front x (omega arith) e l;
    }
