-- Bytes of a header taken at once: those that are held, and the 17th, at which it is judged.
use Rattle.std.proofs.Common.{◌≡◌, ℕ, suc, ◌+◌, ◌<◌, ◌≤◌, Bool, true, false, cond, List, [], ◌∷◌, ◌++◌, length, sym, ap, ◌∙◌, subst, inl, inr, append_assoc, append-nil, arith, length-append, le-ltb, lt-ltb}
use Rattle.transfer.specs.declared.state.Transfer.{Transfer}
use Rattle.transfer.specs.Channel.{channel_count, held_limit, header, channel_at, put_state}
use Rattle.transfer.specs.Transfer.{used_of, World, world}
use Rattle.transfer.specs.Receive.{continues, took, take_header_byte, apply_header, take_byte_in, take_byte}
use Rattle.transfer.proofs.ChannelReadBack.{Has, get-put, put-put}
use Rattle.transfer.proofs.ReceivePieces.{at, bytes-goes, bytes-stops}
use Rattle.transfer.proofs.FitChannelKinds.{none_held}
use Rattle.transfer.proofs.FitByChannel.{Together}
use Rattle.channels.specs.HeldBytes.{with_held_bytes_at}
use Rattle.channels.specs.NextState.{continues_or_stops}
use Rattle.verdicts.specs.Verdict.{count_reached}
use Rattle.runs.specs.Runs.{TakesHeader, take_bytes_on}
use Rattle.runs.proofs.StateNumbers.{is-unused, is-header}
use Rattle.runs.proofs.FittingChannel.{nothing-held, held_now, held-length, put_back, filled_is}

-- ---- in a header

module _ (t : Transfer) (file claimed doubtful : List ℕ) (c : ℕ) (a : Has t c) where
  header-byte : (h : List ℕ) (b : ℕ) → length h < held_limit → take_byte (at t file claimed doubtful c (header h)) c b ≡ continues (at t file claimed doubtful c (header (h ++ b ∷ [])))
  unfolding take_byte take_byte_in take_header_byte
  header-byte h b l =
      rw (get-put t c a (header h), lt-ltb (length h) held_limit l) (ap (λ x. continues (world x file claimed doubtful)) (put-put t c a (header h) (header (h ++ b ∷ [])) (omega arith)))

  pub header-run : (bs : List ℕ) (h qs : List ℕ) (k : ℕ) → length h + length bs ≤ held_limit
      → take_bytes_on c (at t file claimed doubtful c (header h)) (bs ++ qs) k ≡ take_bytes_on c (at t file claimed doubtful c (header (h ++ bs))) qs (k + length bs)
  header-run [] h qs k l = let e : k + 0 ≡ k = omega arith in rw (append-nil h, e)
  header-run (b ∷ bs) h qs k l =
      let e : suc k + length bs ≡ k + suc (length bs) = omega arith in
      bytes-goes (λ v x. take_byte v c x) (at t file claimed doubtful c (header h)) (at t file claimed doubtful c (header (h ++ b ∷ []))) b (bs ++ qs) k (header-byte h b (omega arith))
      ∙ header-run bs (h ++ b ∷ []) qs (suc k) (omega (arith, length-append h (b ∷ [])))
      ∙ rw (append_assoc h (b ∷ []) bs, e)

  pub seventeenth : (h : List ℕ) (b : ℕ) → length h ≡ held_limit → take_byte (at t file claimed doubtful c (header h)) c b ≡ apply_header (at t file claimed doubtful c (header h)) c (h ++ b ∷ [])
  unfolding take_byte take_byte_in take_header_byte
  seventeenth h b l = rw (get-put t c a (header h), le-ltb (length h) held_limit (omega arith))

-- ---- from a world that fits, on a channel that is unused or in a header

module _ (w : World) (f : Together w) (c : ℕ) (g : c < channel_count) where
  has : Has w.t c
  has = record { row = omega (arith, f.channels); bytes = omega (arith, f.heads) }

  abbrev pub world_with_held : List ℕ → World
  world_with_held bs = world (with_held_bytes_at w.t c bs) w.lent.file w.lent.claimed w.lent.doubtful

  filled_at : (bs : List ℕ) → (channel_at w.t c).held + length bs ≤ held_limit → at w.t w.lent.file w.lent.claimed w.lent.doubtful c (header (held_now w f c g ++ bs)) ≡ world_with_held bs
  filled_at bs l = ap (λ x. world x w.lent.file w.lent.claimed w.lent.doubtful) (sym (filled_is w f c g bs l))

  in_header : (channel_at w.t c).state ≡ 1 → w ≡ at w.t w.lent.file w.lent.claimed w.lent.doubtful c (header (held_now w f c g))
  in_header s = ap (λ x. world x w.lent.file w.lent.claimed w.lent.doubtful) (sym (put_back w f c g) ∙ ap (put_state w.t c) (is-header w.t c s))

  first_byte : (channel_at w.t c).state ≡ 0 → count_reached w.t.count (used_of w.t) ≡ false → (b : ℕ) → take_byte w c b ≡ continues (at w.t w.lent.file w.lent.claimed w.lent.doubtful c (header (b ∷ [])))
  unfolding take_byte take_byte_in take_header_byte
  first_byte s u b = rw (is-unused w.t c s, u)

  none-held-yet : (channel_at w.t c).state ≡ 0 → held_now w f c g ≡ []
  none-held-yet s = nothing-held (held_now w f c g) (held-length w f c g ∙ none_held (channel_at w.t c) (f.stages c g) (λ e. omega arith))

  -- bytes that are held
  pub held-run : TakesHeader (channel_at w.t c).state w.t.count (used_of w.t) → (b : ℕ) (bs qs : List ℕ) (k : ℕ) → (channel_at w.t c).held + suc (length bs) ≤ held_limit
      → take_bytes_on c w ((b ∷ bs) ++ qs) k ≡ take_bytes_on c (world_with_held (b ∷ bs)) qs (k + suc (length bs))
  held-run (inr s) b bs qs k l =
      ap (λ v. take_bytes_on c v ((b ∷ bs) ++ qs) k) (in_header s)
      ∙ header-run w.t w.lent.file w.lent.claimed w.lent.doubtful c has (b ∷ bs) (held_now w f c g) qs k (omega (arith, held-length w f c g))
      ∙ ap (λ v. take_bytes_on c v qs (k + suc (length bs))) (filled_at (b ∷ bs) l)
  held-run (inl s) b bs qs k l =
      let e : suc k + length bs ≡ k + suc (length bs) = omega arith in
      bytes-goes (λ v x. take_byte v c x) w (at w.t w.lent.file w.lent.claimed w.lent.doubtful c (header (b ∷ []))) b (bs ++ qs) k (first_byte s.0 s.1 b)
      ∙ header-run w.t w.lent.file w.lent.claimed w.lent.doubtful c has bs (b ∷ []) qs (suc k) (omega arith)
      ∙ ap (λ n. take_bytes_on c (at w.t w.lent.file w.lent.claimed w.lent.doubtful c (header (b ∷ bs))) qs n) e
      ∙ ap (λ v. take_bytes_on c v qs (k + suc (length bs))) (ap (λ h. at w.t w.lent.file w.lent.claimed w.lent.doubtful c (header (h ++ (b ∷ bs)))) (sym (none-held-yet s.0)) ∙ filled_at (b ∷ bs) l)

  -- 16 bytes are held, and one more comes
  sixteen-run : TakesHeader (channel_at w.t c).state w.t.count (used_of w.t) → (bs qs : List ℕ) (k : ℕ) → (channel_at w.t c).held + length bs ≡ held_limit → take_bytes_on c w (bs ++ qs) k ≡ take_bytes_on c (world_with_held bs) qs (k + length bs)
  sixteen-run s (b ∷ bs) qs k l = held-run s b bs qs k (omega arith)
  sixteen-run (inr s) [] qs k l =
      let e : k ≡ k + 0 = omega arith in
      ap (λ v. take_bytes_on c v qs k) (in_header s ∙ ap (λ h. at w.t w.lent.file w.lent.claimed w.lent.doubtful c (header h)) (sym (append-nil (held_now w f c g))) ∙ filled_at [] (omega arith))
      ∙ ap (λ n. take_bytes_on c (world_with_held []) qs n) e
  sixteen-run (inl s) [] qs k l = absurd (omega (arith, none_held (channel_at w.t c) (f.stages c g) (λ e. omega (arith, s.0, e))))

  pub whole_run : TakesHeader (channel_at w.t c).state w.t.count (used_of w.t) → (bs : List ℕ) (b : ℕ) (v : World) (more : Bool) → (channel_at w.t c).held + length bs ≡ held_limit
      → continues_or_stops more v ≡ apply_header (world_with_held bs) c ((held_now w f c g ++ bs) ++ b ∷ [])
      → (rest : List ℕ) (k : ℕ) → take_bytes_on c w (bs ++ (b ∷ rest)) k ≡ cond more (take_bytes_on c v rest (k + suc (length bs))) (took (k + suc (length bs)), v)
  whole_run s bs b v more l j rest k = sixteen-run s bs (b ∷ rest) k l ∙ go more j
    where
      judged : take_byte (world_with_held bs) c b ≡ apply_header (world_with_held bs) c ((held_now w f c g ++ bs) ++ b ∷ [])
      judged =
          subst (λ u. take_byte u c b ≡ apply_header u c ((held_now w f c g ++ bs) ++ b ∷ [])) (filled_at bs (omega arith))
          (seventeenth w.t w.lent.file w.lent.claimed w.lent.doubtful c has (held_now w f c g ++ bs) b (omega (arith, length-append (held_now w f c g) bs, held-length w f c g)))

      e : suc (k + length bs) ≡ k + suc (length bs)
      e = omega arith

      go : (more : Bool) → continues_or_stops more v ≡ apply_header (world_with_held bs) c ((held_now w f c g ++ bs) ++ b ∷ [])
          → take_bytes_on c (world_with_held bs) (b ∷ rest) (k + length bs) ≡ cond more (take_bytes_on c v rest (k + suc (length bs))) (took (k + suc (length bs)), v)
      go true j = bytes-goes (λ u x. take_byte u c x) (world_with_held bs) v b rest (k + length bs) (judged ∙ sym j) ∙ ap (λ n. take_bytes_on c v rest n) e
      go false j = bytes-stops (λ u x. take_byte u c x) (world_with_held bs) v b rest (k + length bs) (judged ∙ sym j) ∙ ap (λ n. (took n, v)) e
