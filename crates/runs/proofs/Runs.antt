-- `RunOf` for the runs of a header and of a payload, from what their leaves answer.
use Rattle.std.proofs.Common.{◌≡◌, ℕ, zero, suc, ◌+◌, ◌-◌, ◌*◌, ◌<◌, ◌≤◌, min, Bool, true, false, cond, ◌&&◌, eqb, List, [], ◌∷◌, ◌++◌, length, get_or, take, drop, replicate, sym, refl, ap, ◌∙◌, subst, inl, inr, true≢false, append_assoc, append-nil, add-one, arith, length-append, take-append-drop, length-take-le, take-suc, take_at, drop_at, eq-eqb}
use mathlib.Core.Bool.{and-eq-true_iff}
use lib.ListN.{length-replicate}
use lib.Seq.{sets, sets-eq, take-length, split_at}
use Rattle.ledger.specs.Ledger.{obeys}
use Rattle.transfer.specs.declared.state.Channel.{Channel}
use Rattle.transfer.specs.declared.state.Transfer.{Transfer}
use Rattle.transfer.specs.Channel.{channel_count, held_limit, header, payload, held_bytes, channel_at, state_at, put_state}
use Rattle.transfer.specs.Transfer.{used_of, World, world}
use Rattle.transfer.specs.Receive.{took, expect_payload, apply_header}
use Rattle.transfer.specs.Fit.{claimed_fits, doubtful_fits, fits_without_file, fits}
use Rattle.transfer.proofs.ChannelReadBack.{Has}
use Rattle.transfer.proofs.FitChannelKinds.{Stage, resting, collecting, storing, held-within, some_left}
use Rattle.transfer.proofs.FitByChannel.{Together, together-fit}
use Rattle.transfer.proofs.FitTests.{fits-together}
use Rattle.channels.specs.HeldBytes.{with_held_bytes_at, held_bytes_at}
use Rattle.channels.specs.NextState.{continues_or_stops}
use Rattle.verdicts.specs.Verdict.{count_reached}
use Rattle.channels.specs.declared.channel_state.ChannelState.{ChannelState}
use Rattle.channels.specs.declared.other_channels.OtherChannels.{OtherChannels}
use Rattle.channels.specs.ChannelState.{channel_of, HasChannel, write_back}
use Rattle.channels.specs.OtherChannels.{CountsOthers}
use Rattle.channels.proofs.WriteBack.{write-back-at, write-back-count-reached}
use Rattle.runs.specs.Runs.{TakesHeader, take_bytes_on, RunOf}
use Rattle.runs.proofs.StateNumbers.{in_payload, is-payload}
use Rattle.runs.proofs.FittingChannel.{held_now, held-length, filled_is}
use Rattle.runs.proofs.HeaderRuns.{held-run, whole_run}
use Rattle.runs.proofs.PayloadRuns.{stored-run}

-- ---- what FIT says where a run needs it

fits-with : (t : Transfer) (file claimed doubtful : List ℕ) → length file ≡ t.len → fits_without_file t claimed doubtful ≡ true → Together (world t file claimed doubtful)
fits-with t file claimed doubtful n e = fits-together (world t file claimed doubtful) (unfold fits in rw (eq-eqb (length file) t.len n) e)

-- any file of that length will do
pub fits-some : (t : Transfer) (claimed doubtful : List ℕ) → fits_without_file t claimed doubtful ≡ true → Together (world t (replicate t.len 0) claimed doubtful)
fits-some t claimed doubtful e = fits-with t (replicate t.len 0) claimed doubtful (length-replicate {A = ℕ} t.len 0) e

held-within-limit : (t : Transfer) (claimed doubtful : List ℕ) (c : ℕ) → c < channel_count → fits_without_file t claimed doubtful ≡ true → (channel_at t c).held ≤ held_limit
held-within-limit t claimed doubtful c h e = held-within (channel_at t c) ((fits-some t claimed doubtful e).stages c h)

pub ledgers-fit : (t : Transfer) (claimed doubtful : List ℕ) → fits_without_file t claimed doubtful ≡ true → (obeys claimed ≡ true) × (length claimed ≡ 2 * t.pairs) × (doubtful_fits t.pairs claimed doubtful ≡ true)
unfolding fits_without_file
ledgers-fit t claimed doubtful e =
    let f = fits-some t claimed doubtful e in
    (f.rule, f.entries, ((and-eq-true_iff (claimed_fits t claimed) (doubtful_fits t.pairs claimed doubtful)).0 e).1)

-- a rest lies in the file
pub rest-inside : (w : World) (c : ℕ) → c < channel_count → fits w ≡ true → 1 < (channel_at w.t c).state → (channel_at w.t c).state < 4
    → (channel_at w.t c).next + (channel_at w.t c).left ≤ length w.lent.file
rest-inside w c h e a b =
    let f = together-fit w (fits-together w e) in
    let i = f.inside c h (in_payload (channel_at w.t c).state a b) in
    omega (arith, i.2, f.ends i.0, f.file)

-- ---- the state of a channel that fits, by its number and the bytes left

pub storing-below : (k : Channel) → Stage k → 0 < k.left → k.state < 4
storing-below k (resting s a b d) l = absurd (omega (arith, d))
storing-below k (collecting s a b d) l = absurd (omega (arith, d))
storing-below k (storing (inl s) a b) l = omega (arith, s)
storing-below k (storing (inr s) a b) l = omega (arith, s)

pub ended-above : (k : Channel) → Stage k → 1 < k.state → k.left ≤ 0 → 4 ≤ k.state
ended-above k (resting (inl s) a b d) h l = absurd (omega (arith, s))
ended-above k (resting (inr s) a b d) h l = omega (arith, s)
ended-above k (collecting s a b d) h l = absurd (omega (arith, s))
ended-above k (storing s a b) h l = absurd (omega (arith, b))

pub takes-header : (state count used : ℕ) → (eqb state 0 && count_reached count used) ≡ false → state < 2 → TakesHeader state count used
takes-header zero count used e h = inl (refl, e)
takes-header (suc zero) count used e h = inr refl
takes-header (suc (suc s)) count used e h = absurd (omega arith)

-- ---- of a channel written back

pub held-at-most : (t : Transfer) (claimed doubtful : List ℕ) (c : ℕ) → HasChannel t c → (x : ChannelState) → fits_without_file (write_back t c x) claimed doubtful ≡ true → x.held ≤ held_limit
held-at-most t claimed doubtful c a x e = omega (arith, held-within-limit (write_back t c x) claimed doubtful c a.below e, ap (λ k. k.held) (write-back-at t c a x))

pub stage-of-channel : (t : Transfer) (c : ℕ) → HasChannel t c → (x : ChannelState) (file claimed doubtful : List ℕ) → fits (world (write_back t c x) file claimed doubtful) ≡ true → Stage (channel_of x)
stage-of-channel t c a x file claimed doubtful e = subst Stage (write-back-at t c a x) ((fits-together (world (write_back t c x) file claimed doubtful) e).stages c a.below)

pub write-back-takes : (t : Transfer) (c : ℕ) (o : OtherChannels) → CountsOthers t c o → (x : ChannelState) → TakesHeader x.state x.count o.used
    → TakesHeader (channel_at (write_back t c x) c).state (write_back t c x).count (used_of (write_back t c x))
write-back-takes t c o a x (inl (s, b)) = inl (ap (λ k. k.state) (write-back-at t c a.has x) ∙ s, write-back-count-reached t c o a x s ∙ b)
write-back-takes t c o a x (inr s) = inr (ap (λ k. k.state) (write-back-at t c a.has x) ∙ s)

-- ---- a header's bytes

-- all of the piece is held
pub held-run-of : (t : Transfer) (claimed doubtful : List ℕ) (c : ℕ) (piece : List ℕ) → c < channel_count → fits_without_file t claimed doubtful ≡ true → TakesHeader (channel_at t c).state t.count (used_of t) → 0 < length piece
    → (channel_at t c).held + length piece ≤ held_limit → (u : Transfer) → u ≡ with_held_bytes_at t c piece
    → (file : List ℕ) → length file ≡ t.len → RunOf c (world t file claimed doubtful) piece (world u file claimed doubtful) (length piece) true
held-run-of t claimed doubtful c [] h e s z l u q file n = absurd (omega arith)
held-run-of t claimed doubtful c (b ∷ bs) h e s z l u q file n =
    record {
      if_continues = λ o rest k.
          ap (λ x. take_bytes_on c (world t file claimed doubtful) (x ++ rest) k) (take-length (b ∷ bs))
          ∙ held-run (world t file claimed doubtful) (fits-with t file claimed doubtful n e) c h s b bs rest k l
          ∙ ap (λ x. take_bytes_on c (world x file claimed doubtful) rest (k + suc (length bs))) (sym q);
      if_stops = λ o. absurd (true≢false o);
    }

held16-put : (t : Transfer) (c : ℕ) (x : List ℕ) → Has t c → length x ≡ held_limit → held_bytes_at (put_state t c (header x)) c ≡ x
unfolding put_state held_bytes
held16-put t c x a l =
    let z : held_limit - length x ≡ 0 = omega arith in
    let front : length (take (held_limit * c) t.heads) ≡ held_limit * c = length-take-le (held_limit * c) t.heads (omega (arith, a.bytes)) in
    rw (drop_at (take (held_limit * c) t.heads) ((x ++ replicate (held_limit - length x) 0) ++ drop (held_limit * c + held_limit) t.heads) (held_limit * c) front, z, append-nil x)
    (take_at x (drop (held_limit * c + held_limit) t.heads) held_limit l)

-- 16 bytes are held, and the next makes it whole
pub judged-run-of : (t : Transfer) (claimed doubtful claimed' doubtful' : List ℕ) (c : ℕ) (piece : List ℕ) (n : ℕ) → c < channel_count → fits_without_file t claimed doubtful ≡ true → TakesHeader (channel_at t c).state t.count (used_of t)
    → (channel_at t c).held + n ≡ held_limit → n < length piece → (u : Transfer) → u ≡ with_held_bytes_at t c (take n piece) → (whole : List ℕ) → whole ≡ held_bytes_at u c ++ get_or piece n 0 ∷ []
    → (v : Transfer) (continues : Bool) → ((file : List ℕ) → continues_or_stops continues (world v file claimed' doubtful') ≡ apply_header (world u file claimed doubtful) c whole)
    → (file : List ℕ) → length file ≡ t.len → RunOf c (world t file claimed doubtful) piece (world v file claimed' doubtful') (n + 1) continues
judged-run-of t claimed doubtful claimed' doubtful' c piece n h e s l m u q whole r v continues j file i =
    record {
      if_continues = λ o rest k. ap (λ x. take_bytes_on c w x k) (taken-and rest) ∙ all rest k ∙ rw (o, next k);
      if_stops = λ o k. ap (λ x. take_bytes_on c w x k) (split_at piece n 0 m) ∙ all (drop (suc n) piece) k ∙ rw (o, next k);
    }
  where
    w : World
    w = world t file claimed doubtful

    f : Together (world t file claimed doubtful)
    f = fits-with t file claimed doubtful i e

    short : length (take n piece) ≡ n
    short = length-take-le n piece (omega arith)

    next : (k : ℕ) → k + suc (length (take n piece)) ≡ k + (n + 1)
    next k = omega (arith, short)

    taken-and : (rest : List ℕ) → take (n + 1) piece ++ rest ≡ take n piece ++ (get_or piece n 0 ∷ rest)
    taken-and rest = rw (add-one n, take-suc piece n 0 m) (append_assoc (take n piece) (get_or piece n 0 ∷ []) rest)

    held_is : u ≡ put_state t c (header (held_now (world t file claimed doubtful) f c h ++ take n piece))
    held_is = q ∙ filled_is (world t file claimed doubtful) f c h (take n piece) (omega (arith, short))

    head_is : whole ≡ (held_now (world t file claimed doubtful) f c h ++ take n piece) ++ get_or piece n 0 ∷ []
    head_is =
        r ∙ ap (λ x. x ++ get_or piece n 0 ∷ [])
        (ap (λ x. held_bytes_at x c) held_is
        ∙ held16-put t c (held_now (world t file claimed doubtful) f c h ++ take n piece) (record { row = omega (arith, f.channels); bytes = omega (arith, f.heads) })
        (omega (arith, short, held-length (world t file claimed doubtful) f c h, length-append (held_now (world t file claimed doubtful) f c h) (take n piece))))

    judged : continues_or_stops continues (world v file claimed' doubtful') ≡ apply_header (world (with_held_bytes_at t c (take n piece)) file claimed doubtful) c ((held_now (world t file claimed doubtful) f c h ++ take n piece) ++ get_or piece n 0 ∷ [])
    judged = j file ∙ ap (λ x. apply_header (world x file claimed doubtful) c whole) q ∙ ap (λ x. apply_header (world (with_held_bytes_at t c (take n piece)) file claimed doubtful) c x) head_is

    all : (rest : List ℕ) (k : ℕ) → take_bytes_on c w (take n piece ++ (get_or piece n 0 ∷ rest)) k
        ≡ cond continues (take_bytes_on c (world v file claimed' doubtful') rest (k + suc (length (take n piece)))) (took (k + suc (length (take n piece))), world v file claimed' doubtful')
    all = whole_run (world t file claimed doubtful) f c h s (take n piece) (get_or piece n 0) (world v file claimed' doubtful') continues (omega (arith, short)) judged

-- ---- a payload's bytes

pub stored-run-of : (t : Transfer) (file file' : List ℕ) (c : ℕ) (k : Channel) (i : channel_at t c ≡ k) (piece : List ℕ) (n : ℕ) → c < channel_count → 0 < length piece → 1 < k.state → k.state < 4
    → k.next + k.left ≤ length file → n ≡ min k.left (length piece)
    → file' ≡ take k.next file ++ (take n piece ++ drop (k.next + n) file)
    → (v : Transfer) (continues : Bool)
    → ((f l m : List ℕ) → continues_or_stops continues (world v f l m) ≡ expect_payload (world t f l m) c (k.next + n) (k.left - n) (eqb k.state 3))
    → (claimed doubtful : List ℕ) → fits (world t file claimed doubtful) ≡ true → RunOf c (world t file claimed doubtful) piece (world v file' claimed doubtful) n continues
stored-run-of t file file' c k i piece n h z a b m q d v continues o claimed doubtful e =
    record {
      if_continues = λ x rest j. all rest j ∙ rw (x, short);
      if_stops = λ x j. ap (λ y. take_bytes_on c (world t file claimed doubtful) y j) (sym (take-append-drop n piece)) ∙ all (drop n piece) j ∙ rw (x, short);
    }
  where
    f : Together (world t file claimed doubtful)
    f = fits-together (world t file claimed doubtful) e

    state : state_at t c ≡ payload k.next k.left (eqb k.state 3)
    state =
        subst (λ y. state_at t c ≡ payload y.next y.left (eqb y.state 3)) i
        (is-payload t c (subst (λ y. 1 < y.state) (sym i) a) (subst (λ y. y.state < 4) (sym i) b))

    left : 0 < k.left
    left = some_left k (subst Stage i (f.stages c h)) (in_payload k.state a b)

    short : length (take n piece) ≡ n
    short = length-take-le n piece (omega (arith, q))

    stored : file' ≡ sets file k.next (take n piece)
    stored = d ∙ sym (sets-eq (take n piece) file k.next (omega (arith, short, q, m)) ∙ rw short (append_assoc (take k.next file) (take n piece) (drop (k.next + n) file)))

    opened : continues_or_stops continues (world v file' claimed doubtful) ≡ expect_payload (world t (sets file k.next (take n piece)) claimed doubtful) c (k.next + length (take n piece)) (k.left - length (take n piece)) (eqb k.state 3)
    opened = rw short (o file' claimed doubtful ∙ ap (λ x. expect_payload (world t x claimed doubtful) c (k.next + n) (k.left - n) (eqb k.state 3)) stored)

    all : (rest : List ℕ) (j : ℕ) → take_bytes_on c (world t file claimed doubtful) (take n piece ++ rest) j
        ≡ cond continues (take_bytes_on c (world v file' claimed doubtful) rest (j + length (take n piece))) (took (j + length (take n piece)), world v file' claimed doubtful)
    all =
        stored-run (world t file claimed doubtful) f c h k.next k.left (eqb k.state 3) state (take n piece) (omega (arith, short, q, left, z)) (omega (arith, short, q))
        (world v file' claimed doubtful) continues opened
