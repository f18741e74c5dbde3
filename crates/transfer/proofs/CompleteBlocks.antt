-- Where every used channel has ended, every accepted block is whole and in the file.
use Prim.Native.Nat.{ℕ, suc, ◌+◌, ◌≤◌, ◌<◌}
use mathlib.Core.Path.{◌≡◌, refl, sym, ap, ◌∙◌}
use mathlib.Core.Logic.{inl, inr}
use mathlib.Core.Bool.{Bool}
use mathlib.Core.List.{List, [], ◌∷◌, ◌++◌}
use native.Mathlib.Omega.{arith}
use lib.ListN.{length, get_or, take, drop}
use lib.Seq.{drop-cons}
use Rattle.transfer.specs.Channel.{State}
use Rattle.transfer.specs.Transfer.{sum}
use Rattle.transfer.specs.Receive.{is_non_empty, is_ended}
use Rattle.transfer.specs.Block.{Block, block, place_of, size_of}
use Rattle.transfer.specs.Tally.{Stream, taken, accepted, blocks_of, one_if, used_in, ended_in}
use Rattle.transfer.specs.AfterList.{HasByte, PayloadsInFile}
use Rattle.transfer.proofs.BlockCut.{Done}
use Rattle.transfer.specs.StateFrom.{state_from}
use Rattle.transfer.proofs.ChannelBytes.{Kind, untouched, heading, filling, finished, kind, kind-ended}
use Rattle.transfer.proofs.TallyStreams.{AllProper}
use Rattle.transfer.proofs.TallyInvariant.{ended-used, ended-le}

abbrev pub AllWhole : List Block → Type 0
AllWhole [] = Unit
AllWhole (x ∷ xs) = (length x.body ≡ size_of x) × AllWhole xs

whole-done : (xs : List Block) → Done xs → AllWhole xs
whole-done [] d = tt
whole-done (x ∷ xs) d = (d.1, whole-done xs d.3)

whole_append : (a b : List Block) → AllWhole a → AllWhole b → AllWhole (a ++ b)
whole_append [] b h k = k
whole_append (x ∷ a) b h k = (h.0, whole_append a b h.1 k)

kind-whole : (x : State) (xs : List Block) (u : Bool) → Kind x xs u → one_if u ≤ one_if (is_ended x) → AllWhole xs
kind-whole x xs u (untouched e f g) h = rw f tt
kind-whole x xs u (heading r e d k g) h = whole-done xs d
kind-whole x xs u (filling done y p e f d q g) h = absurd (omega (arith, rw (e, g) at h))
kind-whole x xs u (finished done y p e f d q z g) h = rw f (whole_append done (block y p ∷ []) (whole-done done d) (q, tt))

pub whole-all : (ss : List Stream) → AllProper ss → used_in ss ≤ ended_in ss → AllWhole (blocks_of ss)
unfolding blocks_of sum
whole-all [] a h = tt
whole-all (s ∷ ss) a h =
    let k = kind s a.0 in
    let e = ap one_if (kind-ended (state_from s) (accepted s) (is_non_empty (taken s)) k) in
    whole_append (accepted s) (blocks_of ss) (kind-whole (state_from s) (accepted s) (is_non_empty (taken s)) k (omega (arith, e, ended-le ss a.1, h)))
    (whole-all ss a.1 (omega (arith, h, ended-used s a.0)))

-- a list that has all of these bytes from a place on has them as a part
part : (file bs : List ℕ) (o : ℕ) → ((i : ℕ) → i < length bs → (o + i < length file) × (get_or file (o + i) 0 ≡ get_or bs i 0)) → take (length bs) (drop o file) ≡ bs
part file [] o h = refl
part file (b ∷ bs) o h =
    let e : o + 0 ≡ o = omega arith in
    let here = h 0 (omega arith) in
    rw (drop-cons file o 0 (omega (arith, here.0)))
    (ap {B = List ℕ} (λ v. v ∷ take (length bs) (drop (suc o) file)) (ap (λ q. get_or file q 0) (sym e) ∙ here.1)
    ∙ ap {B = List ℕ} (λ r. b ∷ r) (part file bs (suc o) (λ i k. let next = h (suc i) (omega arith) in let f : o + suc i ≡ suc o + i = omega arith in (omega (arith, next.0), ap (λ q. get_or file q 0) (sym f) ∙ next.1))))

pub whole-stand : (file : List ℕ) (xs : List Block) → AllWhole xs → ((p v : ℕ) → HasByte p v xs → (p < length file) × (get_or file p 0 ≡ v)) → PayloadsInFile file xs
whole-stand file [] w h = tt
whole-stand file (x ∷ xs) w h =
    (w.0, rw (sym w.0) (part file x.body (place_of x) (λ i k. h (place_of x + i) (get_or x.body i 0) (inl (i, k, refl, refl)))), whole-stand file xs w.1 (λ p v y. h p v (inr y)))
