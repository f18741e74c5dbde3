-- What is sent on each channel, and that a file as long as the one sent that holds every payload sent is equal to it.
use Prim.Native.Nat.{ℕ, zero, suc, ◌^◌, ◌<◌}
use mathlib.Core.Path.{◌≡◌, refl, sym, ap, ◌∙◌}
use mathlib.Core.Bool.{Bool, true, false, cond}
use mathlib.Core.List.{List, [], ◌∷◌, ◌++◌, append_assoc, append-nil}
use native.Mathlib.Omega.{arith}
use native.Mathlib.Decide.{dec_lt, ℕ_discrete}
use borrow.Author.Tests.{eq-eqb, ne_eqb, lt-ltb, le-ltb}
use lib.Dec.{ltb, eqb}
use lib.ListN.{length, get_or}
use lib.Seq.{ext_get_or}
use Rattle.transfer.specs.Block.{block_bytes}
use Rattle.transfer.specs.AfterList.{PayloadsInFile}
use Rattle.transfer.specs.Sending.{SentChannel, sent_blocks, sent_on}
use Rattle.sender.specs.Blocks.{channel_blocks, channels_below, sending}
use Rattle.sender.proofs.SentPlaces.{payload-byte, exactly_once}

-- one channel more
on-more : (c : ℕ) (s : List SentChannel) (x : SentChannel) → sent_on c (s ++ (x ∷ [])) ≡ sent_on c s ++ cond (eqb x.number c) (block_bytes x.blocks) []
unfolding sent_on
on-more c [] x = go (eqb x.number c)
  where
    go : (b : Bool) → cond b (block_bytes x.blocks ++ []) [] ≡ cond b (block_bytes x.blocks) []
    go true = append-nil (block_bytes x.blocks)
    go false = refl
on-more c (y ∷ s) x = go (eqb y.number c) (on-more c s x)
  where
    more : List ℕ
    more = cond (eqb x.number c) (block_bytes x.blocks) []

    go : (b : Bool) → sent_on c (s ++ (x ∷ [])) ≡ sent_on c s ++ more
        → cond b (block_bytes y.blocks ++ sent_on c (s ++ (x ∷ []))) (sent_on c (s ++ (x ∷ []))) ≡ cond b (block_bytes y.blocks ++ sent_on c s) (sent_on c s) ++ more
    go true i = ap (λ bs. block_bytes y.blocks ++ bs) i ∙ sym (append_assoc (block_bytes y.blocks) (sent_on c s) more)
    go false i = i

-- of the channels below n
on_below : (file : List ℕ) (count size c n : ℕ) → sent_on c (channels_below file count size n) ≡ cond (ltb c n) (block_bytes (channel_blocks file count size c)) []
unfolding sent_on channels_below
on_below file count size c zero = rw (le-ltb c 0 (omega arith))
on_below file count size c (suc n) =
    on-more c (channels_below file count size n) (record { number = n; blocks = channel_blocks file count size n }) ∙ rw (on_below file count size c n) (go (dec_lt c n) (ℕ_discrete n c))
  where
    bytes : ℕ → List ℕ
    bytes d = block_bytes (channel_blocks file count size d)

    go : Dec (c < n) → Dec (n ≡ c) → cond (ltb c n) (bytes c) [] ++ cond (eqb n c) (bytes n) [] ≡ cond (ltb c (suc n)) (bytes c) []
    go (yes h) (yes e) = absurd (omega arith)
    go (yes h) (no e) = rw (lt-ltb c n h, ne_eqb n c e, lt-ltb c (suc n) (omega arith)) (append-nil (bytes c))
    go (no h) (yes e) = rw (le-ltb c n (omega arith), eq-eqb n c e, lt-ltb c (suc n) (omega arith), e)
    go (no h) (no e) = rw (le-ltb c n (omega arith), ne_eqb n c e, le-ltb c (suc n) (omega arith))

-- each channel below the count carries its blocks, and no other anything
pub on-channel : (file : List ℕ) (count size c : ℕ) → sent_on c (sending file count size) ≡ cond (ltb c count) (block_bytes (channel_blocks file count size c)) []
on-channel file count size c = on_below file count size c count

-- place by place
pub equal-by-payloads : (file end : List ℕ) (count size : ℕ) → 0 < count → 0 < size → length file < 2 ^ 64 → length end ≡ length file
    → PayloadsInFile end (sent_blocks (sending file count size)) → end ≡ file
equal-by-payloads file end count size h z l e y =
    ext_get_or 0 end file e
    (λ p m. sym (payload-byte end (sent_blocks (sending file count size)) p (get_or file p 0) y ((exactly_once file count size h z l).with_byte p (omega arith))).1)
