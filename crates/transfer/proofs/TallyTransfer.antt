-- The transfer as a function of the tally: read channel by channel, written channel by channel, and counted.
use Prim.Native.Nat.{ℕ, zero, suc, ◌+◌, ◌*◌, ◌<◌}
use mathlib.Core.Path.{◌≡◌, refl, sym, ap, ◌∙◌}
use mathlib.Core.Bool.{true, false, cond}
use mathlib.Core.List.{List, [], ◌∷◌, ◌++◌, append_assoc, map}
use native.Mathlib.Omega.{arith}
use lib.Dec.{eqb}
use lib.ListN.{length, get_or, set, take, drop, length-append, get_or-map}
use lib.Seq.{drop_at, take-append-add, drop-append-add}
use Rattle.ledger.specs.Pairs.{Pairs}
use Rattle.ledger.specs.Ledger.{laid_out}
use Rattle.transfer.specs.declared.state.Channel.{Channel}
use Rattle.transfer.specs.declared.state.Transfer.{Transfer}
use Rattle.transfer.specs.Channel.{held_limit, blank, State, unused, header, payload, ended, state_code, held_length, next_place, bytes_left, held_bytes, encode_state, state_at, put_state, put_fault, put_count}
use Rattle.transfer.specs.Transfer.{sum, one_if_ended, one_if_active, ended_of, used_of, World, world}
use Rattle.transfer.specs.Receive.{is_non_empty, is_ended}
use Rattle.transfer.proofs.ChannelReadBack.{length-held_bytes, read_back}
use Rattle.transfer.specs.Block.{with_payloads}
use Rattle.transfer.specs.Tally.{Tally, Stream, intact, taken, accepted, blocks_of, known_count, claimed, doubted, one_if, used_in, ended_in, stream_at, with_stream, tally_with_fault}
use Rattle.transfer.specs.StateFrom.{state_from}
use Rattle.transfer.proofs.ChannelBytes.{Proper, kind, kind-stands, kind-used, kind-ended}
use Rattle.transfer.proofs.TallyStreams.{AllProper}

-- ---- the transfer, the file and the ledgers of a tally

unfoldable pub row_of : Stream → Channel
row_of s = encode_state (state_from s)

unfoldable pub heads_of : List Stream → List ℕ
heads_of [] = []
heads_of (s ∷ ss) = held_bytes (state_from s) ++ heads_of ss

unfoldable pub transfer_of : ℕ → ℕ → Tally → Transfer
transfer_of F R t =
    record { len = F; pairs = R; count = known_count t.streams; fault = t.fault; on = t.on; heads = heads_of t.streams; channels = map row_of t.streams }

unfoldable pub world_of : ℕ → ℕ → Pairs → List ℕ → Tally → World
world_of F R before file t = world (transfer_of F R t) (with_payloads (blocks_of t.streams) file) (laid_out R (claimed before t.streams)) (laid_out R (doubted t.streams))

-- ---- held bytes

-- each channel's take their 16 places
held-length : (s : Stream) → Proper s → length (held_bytes (state_from s)) ≡ held_limit
held-length s o = length-held_bytes (state_from s) (kind-stands (state_from s) (accepted s) (is_non_empty (taken s)) (kind s o))

pub length-heads_of : (ss : List Stream) → AllProper ss → length (heads_of ss) ≡ held_limit * length ss
unfolding heads_of
length-heads_of [] a = refl
length-heads_of (s ∷ ss) a = omega (arith, length-append (held_bytes (state_from s)) (heads_of ss), held-length s a.0, length-heads_of ss a.1)

-- after the first channel's
module _ (s : Stream) (ss : List Stream) (n : ℕ) (e : length (held_bytes (state_from s)) ≡ held_limit) where
  heads-front : take (held_limit + n) (held_bytes (state_from s) ++ heads_of ss) ≡ held_bytes (state_from s) ++ take n (heads_of ss)
  heads-front = ap (λ k. take (k + n) (held_bytes (state_from s) ++ heads_of ss)) (sym e) ∙ take-append-add (held_bytes (state_from s)) (heads_of ss) n

  heads-back : drop (held_limit + n) (held_bytes (state_from s) ++ heads_of ss) ≡ drop n (heads_of ss)
  heads-back = ap (λ k. drop (k + n) (held_bytes (state_from s) ++ heads_of ss)) (sym e) ∙ drop-append-add (held_bytes (state_from s)) (heads_of ss) n

heads-set : (ss : List Stream) (c : ℕ) (s : Stream) → AllProper ss → c < length ss
    → heads_of (set ss c s) ≡ take (held_limit * c) (heads_of ss) ++ (held_bytes (state_from s) ++ drop (held_limit * c + held_limit) (heads_of ss))
unfolding heads_of
heads-set [] c s a h = absurd (omega arith)
heads-set (x ∷ ss) zero s a h = ap {B = List ℕ} (λ r. held_bytes (state_from s) ++ r) (sym (drop_at (held_bytes (state_from x)) (heads_of ss) held_limit (held-length x a.0)))
heads-set (x ∷ ss) (suc c) s a h =
    let e = held-length x a.0 in
    let p : held_limit * suc c ≡ held_limit + held_limit * c = omega arith in
    let q : held_limit * suc c + held_limit ≡ held_limit + (held_limit * c + held_limit) = omega arith in
    let all = held_bytes (state_from x) ++ heads_of ss in
    let before : take (held_limit * suc c) all ≡ held_bytes (state_from x) ++ take (held_limit * c) (heads_of ss) = ap (λ n. take n all) p ∙ heads-front x ss (held_limit * c) e in
    let behind : drop (held_limit * suc c + held_limit) all ≡ drop (held_limit * c + held_limit) (heads_of ss) = ap (λ n. drop n all) q ∙ heads-back x ss (held_limit * c + held_limit) e in
    let middle = held_bytes (state_from s) ++ drop (held_limit * c + held_limit) (heads_of ss) in
    ap {B = List ℕ} (λ r. held_bytes (state_from x) ++ r) (heads-set ss c s a.1 (omega arith))
    ∙ sym (append_assoc (held_bytes (state_from x)) (take (held_limit * c) (heads_of ss)) middle)
    ∙ ap (λ r. r ++ middle) (sym before)
    ∙ ap (λ r. take (held_limit * suc c) all ++ (held_bytes (state_from s) ++ r)) (sym behind)

pub heads-drop : (ss : List Stream) (c : ℕ) → AllProper ss → c < length ss → drop (held_limit * c) (heads_of ss) ≡ held_bytes (state_from (get_or ss c (intact []))) ++ heads_of (drop (suc c) ss)
unfolding heads_of
heads-drop [] c a h = absurd (omega arith)
heads-drop (x ∷ ss) zero a h = refl
heads-drop (x ∷ ss) (suc c) a h =
    let p : held_limit * suc c ≡ held_limit + held_limit * c = omega arith in
    rw p (heads-back x ss (held_limit * c) (held-length x a.0) ∙ heads-drop ss c a.1 (omega arith))

-- ---- one channel

pub row_at : (ss : List Stream) (c : ℕ) → get_or (map row_of ss) c blank ≡ row_of (get_or ss c (intact []))
row_at ss c = ap (λ d. get_or (map row_of ss) c d) (sym no_row) ∙ get_or-map row_of ss c (intact [])
  where
    no_row : row_of (intact []) ≡ blank
    no_row = unfold row_of encode_state state_code held_length next_place bytes_left state_from in refl

pub state_is : (F R : ℕ) (t : Tally) (c : ℕ) → AllProper t.streams → c < length t.streams → state_at (transfer_of F R t) c ≡ state_from (stream_at t c)
unfolding state_at transfer_of
state_is F R t c a h = rw (row_at t.streams c, heads-drop t.streams c a h) (unfold row_of encode_state in read_back (state_from (stream_at t c)) (heads_of (drop (suc c) t.streams)))

rows-set : (ss : List Stream) (c : ℕ) (s : Stream) → map row_of (set ss c s) ≡ set (map row_of ss) c (row_of s)
rows-set [] c s = refl
rows-set (x ∷ ss) zero s = refl
rows-set (x ∷ ss) (suc c) s = ap {B = List Channel} (λ r. row_of x ∷ r) (rows-set ss c s)

-- a channel's state written where the count becomes n
pub put-count-is : (F R : ℕ) (t : Tally) (c : ℕ) (s : Stream) (n : ℕ) → AllProper t.streams → c < length t.streams → known_count (set t.streams c s) ≡ n
    → put_state (put_count (transfer_of F R t) n) c (state_from s) ≡ transfer_of F R (with_stream t c s)
unfolding put_state put_count transfer_of
put-count-is F R t c s n a h e = rw (e, heads-set t.streams c s a h, rows-set t.streams c s) (unfold row_of in refl)

-- and where it stays
pub put_is : (F R : ℕ) (t : Tally) (c : ℕ) (s : Stream) → AllProper t.streams → c < length t.streams → known_count (set t.streams c s) ≡ known_count t.streams
    → put_state (transfer_of F R t) c (state_from s) ≡ transfer_of F R (with_stream t c s)
put_is F R t c s a h e = same ∙ put-count-is F R t c s (known_count t.streams) a h e
  where
    same : put_state (transfer_of F R t) c (state_from s) ≡ put_state (put_count (transfer_of F R t) (known_count t.streams)) c (state_from s)
    same = unfold put_count transfer_of in refl

pub fault_is : (F R : ℕ) (t : Tally) (k c : ℕ) → put_fault (transfer_of F R t) k c ≡ transfer_of F R (tally_with_fault t k c)
unfolding put_fault transfer_of
fault_is F R t k c = refl

-- ---- counts

state-ended : (x : State) → one_if_ended (encode_state x) ≡ one_if (is_ended x)
unfolding encode_state state_code
state-ended unused = refl
state-ended (header h) = refl
state-ended (payload p n true) = refl
state-ended (payload p n false) = refl
state-ended ended = refl

state-used : (x : State) → one_if_ended (encode_state x) + one_if_active (encode_state x) ≡ cond (eqb (state_code x) 0) 0 1
unfolding encode_state state_code
state-used unused = refl
state-used (header h) = refl
state-used (payload p n true) = refl
state-used (payload p n false) = refl
state-used ended = refl

rows-ended : (ss : List Stream) → AllProper ss → sum one_if_ended (map row_of ss) ≡ ended_in ss
unfolding sum row_of
rows-ended [] a = refl
rows-ended (s ∷ ss) a =
    omega (arith, state-ended (state_from s), ap one_if (kind-ended (state_from s) (accepted s) (is_non_empty (taken s)) (kind s a.0)), rows-ended ss a.1)

rows-used : (ss : List Stream) → AllProper ss → sum one_if_ended (map row_of ss) + sum one_if_active (map row_of ss) ≡ used_in ss
unfolding sum row_of
rows-used [] a = refl
rows-used (s ∷ ss) a =
    omega (arith, state-used (state_from s), kind-used (state_from s) (accepted s) (is_non_empty (taken s)) (kind s a.0), rows-used ss a.1)

pub ended_is : (F R : ℕ) (t : Tally) → AllProper t.streams → ended_of (transfer_of F R t) ≡ ended_in t.streams
unfolding ended_of transfer_of
ended_is F R t a = rows-ended t.streams a

pub used-is : (F R : ℕ) (t : Tally) → AllProper t.streams → used_of (transfer_of F R t) ≡ used_in t.streams
unfolding used_of ended_of transfer_of
used-is F R t a = rows-used t.streams a
