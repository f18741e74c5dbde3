-- What a channel's bytes can look like, and what that says of its state and its accepted blocks.
use Prim.Native.Nat.{ℕ, ◌+◌, ◌-◌, ◌≤◌, ◌<◌}
use mathlib.Core.Path.{◌≡◌, refl, sym, ap, ◌∙◌, subst}
use mathlib.Core.Bool.{Bool, true, false, cond, and-false}
use mathlib.Core.List.{List, [], ◌∷◌, ◌++◌}
use native.Mathlib.Omega.{arith}
use borrow.Author.Tests.{lt-ltb, le-ltb, le-leb, lt-leb}
use lib.Dec.{eqb}
use lib.ListN.{length}
use Rattle.ledger.specs.Pairs.{in_range}
use Rattle.ledger.proofs.PairsPlaces.{in_range-in, Where, under, within, past, stand}
use Rattle.eblock.specs.Header.{header_length, third_of}
use Rattle.transfer.specs.Channel.{held_limit, State, unused, header, payload, ended, state_code, next_place, bytes_left}
use Rattle.transfer.specs.Transfer.{sum}
use Rattle.transfer.specs.Header.{ends_channel, payload_length}
use Rattle.transfer.specs.Receive.{is_non_empty, is_ended}
use Rattle.transfer.proofs.ChannelReadBack.{Stands}
use Rattle.transfer.specs.Block.{Block, block, size_of, is_whole, cut, cut_by, partial_header, is_complete_end, has_ended, bytes_in, block_bytes}
use Rattle.transfer.specs.Tally.{Stream, intact, faulted, taken, accepted, one_if}
use Rattle.transfer.proofs.BlockClaims.{sum-append, hit_by, cover}
use Rattle.transfer.proofs.BlockPayloads.{Bodies, bodies-append}
use Rattle.transfer.proofs.BlockCut.{Done, bodies-done, cuts-header, cuts-payload}
use Rattle.transfer.specs.StateFrom.{state_after_block, state_from}
use Rattle.transfer.proofs.StateFrom.{view_on-done, view_on-last, has_end-done, has_end-last}

pub data Shape (bs : List ℕ) : Type 0 where
  no_byte : bs ≡ [] → Shape bs
  in_header : (done : List Block) (r : List ℕ) → Done done → length r ≤ held_limit → is_non_empty bs ≡ true → bs ≡ block_bytes done ++ r → Shape bs
  in_payload : (done : List Block) (h p : List ℕ) → Done done → length h ≡ header_length → length p < payload_length h → is_non_empty bs ≡ true → bs ≡ block_bytes done ++ (h ++ p) → Shape bs
  at_end : (done : List Block) (h p : List ℕ) → Done done → length h ≡ header_length → length p ≡ payload_length h → ends_channel h ≡ true → is_non_empty bs ≡ true → bs ≡ block_bytes done ++ (h ++ p) → Shape bs

abbrev pub Proper : Stream → Type 0
Proper (intact bs) = Shape bs
Proper (faulted bs) = Done (accepted (faulted bs)) × (is_non_empty bs ≡ true)

-- the same of what is derived: its state x, its accepted blocks xs, and whether it took a byte
pub data Kind (x : State) (xs : List Block) (u : Bool) : Type 0 where
  untouched : x ≡ unused → xs ≡ [] → u ≡ false → Kind x xs u
  heading : (r : List ℕ) → x ≡ header r → Done xs → length r ≤ held_limit → u ≡ true → Kind x xs u
  filling : (done : List Block) (h p : List ℕ) → x ≡ payload (third_of h + length p) (payload_length h - length p) (ends_channel h) → xs ≡ done ++ (block h p ∷ []) → Done done → length p < payload_length h → u ≡ true → Kind x xs u
  finished : (done : List Block) (h p : List ℕ) → x ≡ ended → xs ≡ done ++ (block h p ∷ []) → Done done → length p ≡ payload_length h → ends_channel h ≡ true → u ≡ true → Kind x xs u

-- ---- the state

pub state_from-header : (bs : List ℕ) (done : List Block) (r : List ℕ) → Done done → length r ≤ held_limit → is_non_empty bs ≡ true → bs ≡ block_bytes done ++ r → state_from (intact bs) ≡ header r
unfolding state_from
state_from-header bs done r d h u e = rw (u, e, (cuts-header done r d h).0, (cuts-header done r d h).1) (view_on-done done r d)

pub state_from-payload : (bs : List ℕ) (done : List Block) (h p : List ℕ) → Done done → length h ≡ header_length → length p < payload_length h → is_non_empty bs ≡ true → bs ≡ block_bytes done ++ (h ++ p)
    → state_from (intact bs) ≡ payload (third_of h + length p) (payload_length h - length p) (ends_channel h)
unfolding state_from state_after_block
state_from-payload bs done h p d k q u e =
    rw (u, e, (cuts-payload done h p d k (omega arith)).0, view_on-last done (block h p) (partial_header (block_bytes done ++ (h ++ p))), lt-ltb (length p) (payload_length h) q)

pub state_from-end : (bs : List ℕ) (done : List Block) (h p : List ℕ) → Done done → length h ≡ header_length → length p ≡ payload_length h → ends_channel h ≡ true → is_non_empty bs ≡ true → bs ≡ block_bytes done ++ (h ++ p)
    → state_from (intact bs) ≡ ended
unfolding state_from state_after_block
state_from-end bs done h p d k q z u e =
    rw (u, e, (cuts-payload done h p d k (omega arith)).0, view_on-last done (block h p) (partial_header (block_bytes done ++ (h ++ p))), le-ltb (length p) (payload_length h) (omega arith), z)

pub kind : (s : Stream) → Proper s → Kind (state_from s) (accepted s) (is_non_empty (taken s))
unfolding accepted
kind (intact bs) (no_byte e) = untouched (rw e (unfold state_from in refl)) (rw e (unfold cut_by in refl)) (rw e)
kind (intact bs) (in_header done r d h u e) =
    heading r (state_from-header bs done r d h u e) (subst Done (sym (ap cut e ∙ (cuts-header done r d h).0)) d) h u
kind (intact bs) (in_payload done h p d k q u e) =
    filling done h p (state_from-payload bs done h p d k q u e) (ap cut e ∙ (cuts-payload done h p d k (omega arith)).0) d q u
kind (intact bs) (at_end done h p d k q z u e) =
    finished done h p (state_from-end bs done h p d k q z u e) (ap cut e ∙ (cuts-payload done h p d k (omega arith)).0) d q z u
kind (faulted bs) o = heading [] (unfold state_from in refl) o.0 (omega arith) o.1

-- ---- what it says

pub kind-stands : (x : State) (xs : List Block) (u : Bool) → Kind x xs u → Stands x
kind-stands x xs u (untouched e f g) = rw e tt
kind-stands x xs u (heading r e d h g) = rw e h
kind-stands x xs u (filling done h p e f d q g) = rw e tt
kind-stands x xs u (finished done h p e f d q z g) = rw e tt

-- used where a byte was taken
pub kind-used : (x : State) (xs : List Block) (u : Bool) → Kind x xs u → one_if u ≡ cond (eqb (state_code x) 0) 0 1
unfolding state_code
kind-used x xs u (untouched e f g) = rw (e, g)
kind-used x xs u (heading r e d h g) = rw (e, g)
kind-used x xs u (filling done h p e f d q g) = rw (e, g) (go (ends_channel h))
  where
    go : (t : Bool) → ◌≡◌ {A = ℕ} 1 (cond (eqb (state_code (payload (third_of h + length p) (payload_length h - length p) t)) 0) 0 1)
    go true = refl
    go false = refl
kind-used x xs u (finished done h p e f d q z g) = rw (e, g)

-- ended where a whole block with bit 8 was accepted
pub kind-ended : (x : State) (xs : List Block) (u : Bool) → Kind x xs u → has_ended xs ≡ is_ended x
unfolding has_ended
kind-ended x xs u (untouched e f g) = rw (e, f)
kind-ended x xs u (heading r e d h g) = rw e (has_end-done xs d)
kind-ended x xs u (filling done h p e f d q g) =
    rw (e, f, has_end-last done (block h p) d) (unfold is_complete_end is_whole in rw (lt-leb (payload_length h) (length p) q) (and-false (ends_channel h)))
kind-ended x xs u (finished done h p e f d q z g) =
    rw (e, f, has_end-last done (block h p) d) (unfold is_complete_end is_whole in rw (z, le-leb (payload_length h) (length p) (omega arith)))

pub kind-bodies : (x : State) (xs : List Block) (u : Bool) → Kind x xs u → Bodies xs
kind-bodies x xs u (untouched e f g) = rw f tt
kind-bodies x xs u (heading r e d h g) = bodies-done xs d
kind-bodies x xs u (filling done h p e f d q g) = rw f (bodies-append done (block h p ∷ []) (bodies-done done d) (omega arith, tt))
kind-bodies x xs u (finished done h p e f d q z g) = rw f (bodies-append done (block h p ∷ []) (bodies-done done d) (omega arith, tt))

done_full : (xs : List Block) → Done xs → bytes_in xs ≡ sum size_of xs
unfolding sum
done_full [] d = refl
done_full (x ∷ xs) d = omega (arith, d.1, done_full xs d.3)

-- with the last payload's bytes left, all bytes have come
pub kind-left : (x : State) (xs : List Block) (u : Bool) → Kind x xs u → bytes_left x + bytes_in xs ≡ sum size_of xs
unfolding bytes_left sum
kind-left x xs u (untouched e f g) = rw (e, f)
kind-left x xs u (heading r e d h g) = rw e (omega (arith, done_full xs d))
kind-left x xs u (filling done h p e f d q g) =
    rw (e, f) (omega (arith, done_full done d, sum-append (λ (y : Block). length y.body) done (block h p ∷ []), sum-append size_of done (block h p ∷ [])))
kind-left x xs u (finished done h p e f d q z g) =
    rw (e, f) (omega (arith, done_full done d, sum-append (λ (y : Block). length y.body) done (block h p ∷ []), sum-append size_of done (block h p ∷ [])))

pub in_range-nothing : (a b q : ℕ) → b ≤ a → in_range a b q ≡ 0
in_range-nothing a b q h = go (stand a b q)
  where
    go : Where a b q → in_range a b q ≡ 0
    go (under x y) = y
    go (within x y w) = absurd (omega arith)
    go (past x y w) = w

-- the places of the bytes left are claimed by its blocks
pub kind-rest : (x : State) (xs : List Block) (u : Bool) (q : ℕ) → Kind x xs u → in_range (next_place x) (next_place x + bytes_left x) q ≤ cover q xs
unfolding next_place bytes_left sum
kind-rest x xs u q (untouched e f g) = rw e (omega (arith, in_range-nothing 0 (0 + 0) q (omega arith)))
kind-rest x xs u q (heading r e d h g) = rw e (omega (arith, in_range-nothing 0 (0 + 0) q (omega arith)))
kind-rest x xs u q (filling done h p e f d k g) = rw (e, f) (go (stand (third_of h + length p) (third_of h + length p + (payload_length h - length p)) q))
  where
    go : Where (third_of h + length p) (third_of h + length p + (payload_length h - length p)) q → in_range (third_of h + length p) (third_of h + length p + (payload_length h - length p)) q ≤ cover q (done ++ (block h p ∷ []))
    go (under y z) = omega arith
    go (within y z w) = omega (arith, sum-append (hit_by q) done (block h p ∷ []), in_range-in (third_of h) (third_of h + payload_length h) q (omega arith) (omega arith))
    go (past y z w) = omega arith
kind-rest x xs u q (finished done h p e f d k z g) = rw e (omega (arith, in_range-nothing 0 (0 + 0) q (omega arith)))
