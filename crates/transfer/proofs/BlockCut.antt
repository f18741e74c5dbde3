-- A channel's bytes and how they are cut: whole blocks, then a header that is begun or a payload that is.
use Prim.Native.Nat.{ℕ, zero, suc, ◌≤◌}
use mathlib.Core.Path.{◌≡◌, refl, ◌∙◌}
use mathlib.Core.Bool.{false}
use mathlib.Core.List.{List, [], ◌∷◌, ◌++◌, append_assoc, append-nil}
use native.Mathlib.Omega.{arith}
use borrow.Author.Tests.{lt-ltb, le-ltb}
use lib.ListN.{length, length-append, drop_of_length-le}
use lib.Seq.{take_at, drop_at, take_all}
use Rattle.eblock.specs.Header.{header_length}
use Rattle.transfer.specs.Channel.{held_limit}
use Rattle.transfer.specs.Header.{ends_channel, payload_length}
use Rattle.transfer.specs.Block.{Block, block, size_of, block_bytes, cut_by, partial_header_by}
use Rattle.transfer.proofs.BlockPayloads.{Bodies}

pub block_bytes-append : (a b : List Block) → block_bytes (a ++ b) ≡ block_bytes a ++ block_bytes b
unfolding block_bytes
block_bytes-append [] b = refl
block_bytes-append (x ∷ a) b = rw (block_bytes-append a b, append_assoc x.head (x.body ++ block_bytes a) (block_bytes b), append_assoc x.body (block_bytes a) (block_bytes b))

-- whole blocks that don't end the channel
abbrev pub Done : List Block → Type 0
Done [] = Unit
Done (x ∷ xs) = (length x.head ≡ header_length) × (length x.body ≡ size_of x) × (ends_channel x.head ≡ false) × Done xs

pub done-append : (a b : List Block) → Done a → Done b → Done (a ++ b)
done-append [] b h k = k
done-append (x ∷ a) b h k = (h.0, h.1, h.2, done-append a b h.3 k)

pub bodies-done : (xs : List Block) → Done xs → Bodies xs
bodies-done [] d = tt
bodies-done (x ∷ xs) d = (omega (arith, d.1), bodies-done xs d.3)

-- ---- cutting

-- k cuts take bs to the blocks xs and the header begun r
abbrev pub Cuts : ℕ → List ℕ → List Block → List ℕ → Type 0
Cuts k bs xs r = (cut_by k bs ≡ xs) × (partial_header_by k bs ≡ r)

-- one whole block in front
pub cuts-block : (k : ℕ) (h p bs : List ℕ) (xs : List Block) (r : List ℕ) → length h ≡ header_length → length p ≡ payload_length h → Cuts k bs xs r
    → Cuts (suc k) (h ++ (p ++ bs)) (block h p ∷ xs) r
unfolding cut_by partial_header_by
cuts-block k h p bs xs r e f c =
    let far = le-ltb (length (h ++ (p ++ bs))) header_length (omega (arith, length-append h (p ++ bs))) in
    let behind = drop_at h (p ++ bs) header_length e in (
      rw (far, take_at h (p ++ bs) header_length e, behind, take_at p bs (payload_length h) f, drop_at p bs (payload_length h) f, c.0),
      rw (far, take_at h (p ++ bs) header_length e, behind, drop_at p bs (payload_length h) f, c.1),
    )

cuts-blocks : (done : List Block) (bs : List ℕ) (xs : List Block) (r : List ℕ) (k : ℕ) → Done done → length (block_bytes done ++ bs) ≤ k
    → ((j : ℕ) → length bs ≤ j → Cuts j bs xs r) → Cuts k (block_bytes done ++ bs) (done ++ xs) r
unfolding block_bytes
cuts-blocks [] bs xs r k d h f = f k h
cuts-blocks (x ∷ done) bs xs r zero d h f = absurd (omega (arith, d.0, length-append (x.head ++ (x.body ++ block_bytes done)) bs, length-append x.head (x.body ++ block_bytes done)))
cuts-blocks (x ∷ done) bs xs r (suc k) d h f =
    rw (append_assoc x.head (x.body ++ block_bytes done) bs, append_assoc x.body (block_bytes done) bs)
    (cuts-block k x.head x.body (block_bytes done ++ bs) (done ++ xs) r d.0 d.1 (cuts-blocks done bs xs r k d.3 less f))
  where
    less : length (block_bytes done ++ bs) ≤ k
    less =
        omega (arith, h, d.0, length-append (x.head ++ (x.body ++ block_bytes done)) bs, length-append x.head (x.body ++ block_bytes done), length-append x.body (block_bytes done), length-append (block_bytes done) bs)

-- fewer than 17 bytes are no block
pub cuts-short : (k : ℕ) (r : List ℕ) → length r ≤ held_limit → Cuts k r [] r
unfolding cut_by partial_header_by
cuts-short zero r h = (refl, refl)
cuts-short (suc k) r h = let near = lt-ltb (length r) header_length (omega arith) in (rw near, rw near)

-- a header and some of its payload
pub cuts-part : (k : ℕ) (h p : List ℕ) → length h ≡ header_length → length p ≤ payload_length h → length (h ++ p) ≤ k → Cuts k (h ++ p) (block h p ∷ []) []
unfolding cut_by partial_header_by
cuts-part zero h p e f g = absurd (omega (arith, length-append h p))
cuts-part (suc k) h p e f g =
    let far = le-ltb (length (h ++ p)) header_length (omega (arith, length-append h p)) in
    let end = cuts-short k [] (omega arith) in
    let last = drop_of_length-le p {i = payload_length h} f in (
      rw (far, take_at h p header_length e, drop_at h p header_length e, take_all (payload_length h) p f, last, end.0),
      rw (far, take_at h p header_length e, drop_at h p header_length e, last, end.1),
    )

-- ---- all of a channel's bytes

-- in a header
pub cuts-header : (done : List Block) (r : List ℕ) → Done done → length r ≤ held_limit → Cuts (length (block_bytes done ++ r)) (block_bytes done ++ r) done r
cuts-header done r d h =
    let c = cuts-blocks done r [] r (length (block_bytes done ++ r)) d (omega arith) (λ j q. cuts-short j r h) in
    (c.0 ∙ append-nil done, c.1)

-- in a payload, or just after one
pub cuts-payload : (done : List Block) (h p : List ℕ) → Done done → length h ≡ header_length → length p ≤ payload_length h
    → Cuts (length (block_bytes done ++ (h ++ p))) (block_bytes done ++ (h ++ p)) (done ++ (block h p ∷ [])) []
cuts-payload done h p d e f =
    cuts-blocks done (h ++ p) (block h p ∷ []) [] (length (block_bytes done ++ (h ++ p))) d (omega arith) (λ j q. cuts-part j h p e f q)
