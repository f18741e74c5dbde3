-- A channel of a world that fits: its state, read out and written back, changes nothing; and bytes held after its header's.
use Rattle.std.proofs.Common.{◌≡◌, ℕ, zero, suc, ◌+◌, ◌-◌, ◌*◌, ◌<◌, ◌≤◌, List, [], ◌∷◌, ◌++◌, length, get_or, take, drop, replicate, sym, refl, ap, ◌∙◌, inl, inr, append_assoc, arith, length-append, length-drop, take-append-drop, length-take-le, get_or-drop, get_or-take, take-take, drop-drop, take_at}
use lib.ListN.{length-replicate}
use lib.Seq.{drop-append-add, drop-append-le, set-get_or}
use Rattle.transfer.specs.declared.state.Channel.{Channel}
use Rattle.transfer.specs.Channel.{channel_count, held_limit, header, state_code, held_length, next_place, bytes_left, held_bytes, encode_state, decode_state, blank, channel_at, state_at, put_state}
use Rattle.transfer.specs.Transfer.{World}
use Rattle.transfer.proofs.FitChannelKinds.{Stage, resting, collecting, storing, held-within}
use Rattle.transfer.proofs.FitByChannel.{Together}
use Rattle.channels.specs.HeldBytes.{with_held_bytes_at}

all-zero : (l : List ℕ) → ((i : ℕ) → i < length l → get_or l i 0 ≡ 0) → l ≡ replicate (length l) 0
all-zero [] h = refl
all-zero (x ∷ l) h = rw (h 0 (omega arith), ← all-zero l (λ i k. h (suc i) (omega arith)))

-- ---- one channel's numbers and held bytes

same_numbers : (s h n l s' h' n' l' : ℕ) → s ≡ s' → h ≡ h' → n ≡ n' → l ≡ l'
    → ◌≡◌ {A = Channel} (record { state = s; held = h; next = n; left = l }) (record { state = s'; held = h'; next = n'; left = l' })
same_numbers s h n l s' h' n' l' a b c d = rw (a, b, c, d)

pub nothing-held : (h : List ℕ) → length h ≡ 0 → h ≡ []
nothing-held [] e = refl
nothing-held (x ∷ h) e = absurd (omega arith)

module _ (k : Channel) (h : List ℕ) (e : length h ≡ k.held) where
  numbers-back : Stage k → encode_state (decode_state k.state h k.next k.left) ≡ k
  unfolding encode_state decode_state state_code held_length next_place bytes_left
  numbers-back (resting (inl s) a b d) = rw s (same_numbers 0 0 0 0 0 k.held k.next k.left refl (sym a) (sym b) (sym d))
  numbers-back (resting (inr s) a b d) = rw s (same_numbers 4 0 0 0 4 k.held k.next k.left refl (sym a) (sym b) (sym d))
  numbers-back (collecting s a b d) = rw s (same_numbers 1 (length h) 0 0 1 k.held k.next k.left refl e (sym b) (sym d))
  numbers-back (storing (inl s) a b) = rw s (same_numbers 2 0 k.next k.left 2 k.held k.next k.left refl (sym a) refl refl)
  numbers-back (storing (inr s) a b) = rw s (same_numbers 3 0 k.next k.left 3 k.held k.next k.left refl (sym a) refl refl)

  bytes_back : Stage k → held_bytes (decode_state k.state h k.next k.left) ≡ h ++ replicate (held_limit - k.held) 0
  unfolding held_bytes decode_state
  bytes_back (resting (inl s) a b d) = rw (s, a, nothing-held h (omega arith))
  bytes_back (resting (inr s) a b d) = rw (s, a, nothing-held h (omega arith))
  bytes_back (collecting s a b d) = rw (s, ← e)
  bytes_back (storing (inl s) a b) = rw (s, a, nothing-held h (omega arith))
  bytes_back (storing (inr s) a b) = rw (s, a, nothing-held h (omega arith))

drop-zeros : (n m : ℕ) → ◌≡◌ {A = List ℕ} (drop n (replicate m 0)) (replicate (m - n) 0)
drop-zeros zero m = let e : m ≡ m - 0 = omega arith in ap (λ i. replicate i 0) e
drop-zeros (suc n) zero = let e : 0 ≡ 0 - suc n = omega arith in ap (λ i. replicate i 0) e
drop-zeros (suc n) (suc m) = (let e : m - n ≡ suc m - suc n = omega arith in drop-zeros n m ∙ ap (λ i. replicate i 0) e)

-- bytes written after h, over the first of those that follow it
written-part : (a h z b bs : List ℕ) (i j : ℕ) → length a ≡ i → length h ≡ j → length bs ≤ length z
    → take (i + j) (a ++ ((h ++ z) ++ b)) ++ (bs ++ drop (i + j + length bs) (a ++ ((h ++ z) ++ b))) ≡ a ++ (((h ++ bs) ++ drop (length bs) z) ++ b)
written-part a h z b bs i j p q l =
    let n : length (a ++ h) ≡ i + j = omega (arith, length-append a h) in
    let e : a ++ ((h ++ z) ++ b) ≡ (a ++ h) ++ (z ++ b) = ap (λ x. a ++ x) (append_assoc h z b) ∙ sym (append_assoc a h (z ++ b)) in
    let d : drop (i + j + length bs) ((a ++ h) ++ (z ++ b)) ≡ drop (length bs) z ++ b =
    ap (λ m. drop (m + length bs) ((a ++ h) ++ (z ++ b))) (sym n) ∙ drop-append-add (a ++ h) (z ++ b) (length bs) ∙ drop-append-le (length bs) z b l in
    rw (e, take_at (a ++ h) (z ++ b) (i + j) n, d)
    (append_assoc a h (bs ++ (drop (length bs) z ++ b)) ∙ ap (λ x. a ++ x) (sym (append_assoc h bs (drop (length bs) z ++ b)) ∙ sym (append_assoc (h ++ bs) (drop (length bs) z) b)))

-- ---- in the transfer

module _ (w : World) (f : Together w) (c : ℕ) (h : c < channel_count) where
  abbrev k : Channel
  k = channel_at w.t c

  abbrev pub held_now : List ℕ
  held_now = take k.held (drop (held_limit * c) w.t.heads)

  -- 16 bytes of each channel
  sixteen : held_limit ≤ length (drop (held_limit * c) w.t.heads)
  sixteen = omega (arith, length-drop (held_limit * c) w.t.heads, f.heads)

  pub held-length : length held_now ≡ k.held
  held-length = length-take-le k.held (drop (held_limit * c) w.t.heads) (omega (arith, sixteen, held-within k (f.stages c h)))

  -- those that are held, and zeros
  held-zeros : take held_limit (drop (held_limit * c) w.t.heads) ≡ held_now ++ replicate (held_limit - k.held) 0
  held-zeros =
      let x = drop (held_limit * c) w.t.heads in
      let l : length (take held_limit x) ≡ held_limit = length-take-le held_limit x sixteen in
      let rest-length : length (drop k.held (take held_limit x)) ≡ held_limit - k.held = omega (arith, length-drop k.held (take held_limit x), l) in
      sym (take-append-drop k.held (take held_limit x))
      ∙ ap (λ a. a ++ drop k.held (take held_limit x)) (take-take k.held held_limit x (held-within k (f.stages c h)))
      ∙ ap (λ a. held_now ++ a)
      (all-zero (drop k.held (take held_limit x))
      (λ i q. get_or-drop k.held (take held_limit x) i 0 ∙ get_or-take held_limit x (k.held + i) 0 (omega (arith, q, rest-length)) ∙ get_or-drop (held_limit * c) w.t.heads (k.held + i) 0
      ∙ f.bytes_zero c (k.held + i) h (omega arith) (omega (arith, q, rest-length)))
      ∙ ap (λ n. replicate n 0) rest-length)

  -- the held bytes of all channels, round these
  heads-are : w.t.heads ≡ take (held_limit * c) w.t.heads ++ ((held_now ++ replicate (held_limit - k.held) 0) ++ drop (held_limit * c + held_limit) w.t.heads)
  heads-are =
      let x = drop (held_limit * c) w.t.heads in
      sym (take-append-drop (held_limit * c) w.t.heads)
      ∙ ap (λ a. take (held_limit * c) w.t.heads ++ a) (sym (take-append-drop held_limit x) ∙ ap (λ a. a ++ drop held_limit x) held-zeros
      ∙ ap (λ a. (held_now ++ replicate (held_limit - k.held) 0) ++ a) (drop-drop held_limit (held_limit * c) w.t.heads))

  pub put_back : put_state w.t c (state_at w.t c) ≡ w.t
  unfolding put_state state_at
  put_back = rw (numbers-back k held_now held-length (f.stages c h), set-get_or w.t.channels c blank, bytes_back k held_now held-length (f.stages c h), ← heads-are)

  -- bytes put after the held ones of a header
  pub filled_is : (bs : List ℕ) → k.held + length bs ≤ held_limit → with_held_bytes_at w.t c bs ≡ put_state w.t c (header (held_now ++ bs))
  unfolding with_held_bytes_at put_state encode_state state_code held_length next_place bytes_left held_bytes
  filled_is bs l =
      let m : length (held_now ++ bs) ≡ k.held + length bs = omega (arith, length-append held_now bs, held-length) in
      let z : List ℕ = replicate (held_limit - k.held) 0 in
      let front : length (take (held_limit * c) w.t.heads) ≡ held_limit * c = length-take-le (held_limit * c) w.t.heads (omega (arith, f.heads)) in
      let rest : held_limit - k.held - length bs ≡ held_limit - length (held_now ++ bs) = omega (arith, m) in
      let e : take (held_limit * c + k.held) w.t.heads ++ (bs ++ drop (held_limit * c + k.held + length bs) w.t.heads)
      ≡ take (held_limit * c) w.t.heads ++ (((held_now ++ bs) ++ replicate (held_limit - length (held_now ++ bs)) 0) ++ drop (held_limit * c + held_limit) w.t.heads) =
      ap (λ x. take (held_limit * c + k.held) x ++ (bs ++ drop (held_limit * c + k.held + length bs) x)) heads-are
      ∙ written-part (take (held_limit * c) w.t.heads) held_now z (drop (held_limit * c + held_limit) w.t.heads) bs (held_limit * c) k.held front held-length
      (omega (arith, length-replicate {A = ℕ} (held_limit - k.held) 0))
      ∙ ap (λ x. take (held_limit * c) w.t.heads ++ (((held_now ++ bs) ++ x) ++ drop (held_limit * c + held_limit) w.t.heads)) (drop-zeros (length bs) (held_limit - k.held) ∙ ap (λ i. replicate i 0) rest) in
      rw (e, m)
