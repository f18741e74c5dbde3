-- Bytes of a payload taken at once: one store, and the channel's next state.
use Rattle.std.proofs.Common.{◌≡◌, ℕ, zero, suc, ◌+◌, ◌-◌, ◌<◌, ◌≤◌, Bool, true, false, cond, List, [], ◌∷◌, ◌++◌, length, get_or, take, set, sym, refl, ap, ◌∙◌, append_assoc, arith, length-take-le, take_all, take-suc}
use native.Mathlib.Decide.{dec_lt}
use lib.Seq.{sets}
use Rattle.transfer.specs.declared.state.Transfer.{Transfer}
use Rattle.transfer.specs.Channel.{channel_count, State, header, payload, ended, state_at, put_state}
use Rattle.transfer.specs.Transfer.{World, world}
use Rattle.transfer.specs.Receive.{Outcome, continues, stops, not_taken, took, expect_payload, store_payload_byte, take_byte_in, take_byte}
use Rattle.transfer.proofs.ChannelReadBack.{Has, get-put, put-put}
use Rattle.transfer.proofs.BlockPayloads.{sets-snoc}
use Rattle.transfer.proofs.ReceivePieces.{at, payload-run, bytes-goes, bytes-stops}
use Rattle.transfer.proofs.FitByChannel.{Together}
use Rattle.channels.specs.NextState.{continues_or_stops}
use Rattle.runs.specs.Runs.{take_bytes_on}
use Rattle.runs.proofs.FittingChannel.{put_back}

-- ---- the end of a payload does not ask how much of it was left

module _ (t : Transfer) (file claimed doubtful : List ℕ) (c : ℕ) (a : Has t c) (p n p' n' : ℕ) (e : Bool) where
  abbrev now : State
  now = payload p n e

  abbrev was : State
  was = payload p' n' e

  again : (x : State) → put_state (put_state t c now) c x ≡ put_state (put_state t c was) c x
  again x = put-put t c a now x tt ∙ sym (put-put t c a was x tt)

  pub same-opens : (q : ℕ) (l : Bool) → expect_payload (at t file claimed doubtful c now) c q 0 l ≡ expect_payload (at t file claimed doubtful c was) c q 0 l
  unfolding expect_payload
  same-opens q true = ap (λ u. stops (world u file claimed doubtful)) (again ended)
  same-opens q false = ap (λ u. continues (world u file claimed doubtful)) (again (header []))

-- ---- from a world that fits, on a channel in a payload

module _ (w : World) (f : Together w) (c : ℕ) (g : c < channel_count) (p m : ℕ) (e : Bool) (s : state_at w.t c ≡ payload p m e) where
  has : Has w.t c
  has = record { row = omega (arith, f.channels); bytes = omega (arith, f.heads) }

  in_payload : w ≡ at w.t w.lent.file w.lent.claimed w.lent.doubtful c (payload p m e)
  in_payload = ap (λ x. world x w.lent.file w.lent.claimed w.lent.doubtful) (sym (put_back w f c g) ∙ ap (put_state w.t c) s)

  -- the last byte of the payload
  last_byte : (file : List ℕ) (q b : ℕ) → take_byte (at w.t file w.lent.claimed w.lent.doubtful c (payload q 1 e)) c b ≡ expect_payload (at w.t (set file q b) w.lent.claimed w.lent.doubtful c (payload q 1 e)) c (suc q) 0 e
  unfolding take_byte take_byte_in store_payload_byte
  last_byte file q b = rw (get-put w.t c has (payload q 1 e))

  -- bytes short of the payload's end
  part-run : (ps : List ℕ) → length ps < m → (v : World) (more : Bool) → continues_or_stops more v ≡ expect_payload (world w.t (sets w.lent.file p ps) w.lent.claimed w.lent.doubtful) c (p + length ps) (m - length ps) e
      → (rest : List ℕ) (k : ℕ) → take_bytes_on c w (ps ++ rest) k ≡ cond more (take_bytes_on c v rest (k + length ps)) (took (k + length ps), v)
  part-run ps l v more o rest k =
      ap (λ u. take_bytes_on c u (ps ++ rest) k) in_payload
      ∙ payload-run ps rest w.t w.lent.file w.lent.claimed w.lent.doubtful c p m k e has l
      ∙ go (m - length ps) (omega arith) more o
    where
      go : (r : ℕ) → 0 < r → (more : Bool) → continues_or_stops more v ≡ expect_payload (world w.t (sets w.lent.file p ps) w.lent.claimed w.lent.doubtful) c (p + length ps) r e
          → take_bytes_on c (at w.t (sets w.lent.file p ps) w.lent.claimed w.lent.doubtful c (payload (p + length ps) r e)) rest (k + length ps) ≡ cond more (take_bytes_on c v rest (k + length ps)) (took (k + length ps), v)
      go zero z more o = absurd (omega arith)
      go (suc r) z true o = ap (λ u. take_bytes_on c u rest (k + length ps)) (sym (same v (at w.t (sets w.lent.file p ps) w.lent.claimed w.lent.doubtful c (payload (p + length ps) (suc r) e)) (o ∙ (unfold expect_payload in refl))))
        where
          same : (x y : World) → continues x ≡ continues y → x ≡ y
          same x y q = cc
      go (suc r) z false o = absurd (differ v (at w.t (sets w.lent.file p ps) w.lent.claimed w.lent.doubtful c (payload (p + length ps) (suc r) e)) (o ∙ (unfold expect_payload in refl)))
        where
          code : Outcome World → ℕ
          code (continues x) = 0
          code (stops x) = 1
          code (not_taken x) = 2

          differ : (x y : World) → stops x ≡ continues y → ⊥
          differ x y q = let d : ◌≡◌ {A = ℕ} 1 0 = ap code q in omega (arith, d)

  -- all of them
  whole_run : (j : ℕ) → m ≡ suc j → (ps : List ℕ) → length ps ≡ m → (v : World) (more : Bool) → continues_or_stops more v ≡ expect_payload (world w.t (sets w.lent.file p ps) w.lent.claimed w.lent.doubtful) c (p + m) 0 e
      → (rest : List ℕ) (k : ℕ) → take_bytes_on c w (ps ++ rest) k ≡ cond more (take_bytes_on c v rest (k + m)) (took (k + m), v)
  whole_run j d ps l v more o rest k =
      ap (λ x. take_bytes_on c w x k) (ap (λ x. x ++ rest) ends_with ∙ append_assoc front (b ∷ []) rest)
      ∙ ap (λ u. take_bytes_on c u (front ++ (b ∷ rest)) k) in_payload
      ∙ payload-run front (b ∷ rest) w.t w.lent.file w.lent.claimed w.lent.doubtful c p m k e has (omega (arith, short))
      ∙ rw (short, one_left) (go more o)
    where
      front : List ℕ
      front = take j ps

      b : ℕ
      b = get_or ps j 0

      short : length (take j ps) ≡ j
      short = length-take-le j ps (omega (arith, l, d))

      ends_with : ps ≡ take j ps ++ (get_or ps j 0 ∷ [])
      ends_with = sym (take_all (suc j) ps (omega (arith, l, d))) ∙ take-suc ps j 0 (omega (arith, l, d))

      one_left : m - j ≡ 1
      one_left = omega (arith, d)

      next : suc (p + j) ≡ p + m
      next = omega (arith, d)

      stored : set (sets w.lent.file p (take j ps)) (p + j) (get_or ps j 0) ≡ sets w.lent.file p ps
      stored = ap (λ q. set (sets w.lent.file p (take j ps)) (p + q) (get_or ps j 0)) (sym short) ∙ sym (sets-snoc w.lent.file p (take j ps) (get_or ps j 0)) ∙ ap (sets w.lent.file p) (sym ends_with)

      last : take_byte (at w.t (sets w.lent.file p (take j ps)) w.lent.claimed w.lent.doubtful c (payload (p + j) 1 e)) c (get_or ps j 0) ≡ expect_payload (world w.t (sets w.lent.file p ps) w.lent.claimed w.lent.doubtful) c (p + m) 0 e
      last =
          last_byte (sets w.lent.file p (take j ps)) (p + j) (get_or ps j 0)
          ∙ ap (λ x. expect_payload (at w.t x w.lent.claimed w.lent.doubtful c (payload (p + j) 1 e)) c (suc (p + j)) 0 e) stored
          ∙ ap (λ q. expect_payload (at w.t (sets w.lent.file p ps) w.lent.claimed w.lent.doubtful c (payload (p + j) 1 e)) c q 0 e) next
          ∙ same-opens w.t (sets w.lent.file p ps) w.lent.claimed w.lent.doubtful c has (p + j) 1 p m e (p + m) e
          ∙ ap (λ x. expect_payload (world x (sets w.lent.file p ps) w.lent.claimed w.lent.doubtful) c (p + m) 0 e) (ap (put_state w.t c) (sym s) ∙ put_back w f c g)

      count : suc (k + j) ≡ k + m
      count = omega (arith, d)

      go : (more : Bool) → continues_or_stops more v ≡ expect_payload (world w.t (sets w.lent.file p ps) w.lent.claimed w.lent.doubtful) c (p + m) 0 e
          → take_bytes_on c (at w.t (sets w.lent.file p (take j ps)) w.lent.claimed w.lent.doubtful c (payload (p + j) 1 e)) (get_or ps j 0 ∷ rest) (k + j) ≡ cond more (take_bytes_on c v rest (k + m)) (took (k + m), v)
      go true o =
          bytes-goes (λ u x. take_byte u c x) (at w.t (sets w.lent.file p (take j ps)) w.lent.claimed w.lent.doubtful c (payload (p + j) 1 e)) v (get_or ps j 0) rest (k + j) (last ∙ sym o)
          ∙ ap (λ n. take_bytes_on c v rest n) count
      go false o =
          bytes-stops (λ u x. take_byte u c x) (at w.t (sets w.lent.file p (take j ps)) w.lent.claimed w.lent.doubtful c (payload (p + j) 1 e)) v (get_or ps j 0) rest (k + j) (last ∙ sym o)
          ∙ ap (λ n. (took n, v)) count

  pub stored-run : (ps : List ℕ) → 0 < length ps → length ps ≤ m → (v : World) (more : Bool)
      → continues_or_stops more v ≡ expect_payload (world w.t (sets w.lent.file p ps) w.lent.claimed w.lent.doubtful) c (p + length ps) (m - length ps) e
      → (rest : List ℕ) (k : ℕ) → take_bytes_on c w (ps ++ rest) k ≡ cond more (take_bytes_on c v rest (k + length ps)) (took (k + length ps), v)
  stored-run ps h l v more o rest k = go (dec_lt (length ps) m)
    where
      go : Dec (length ps < m) → take_bytes_on c w (ps ++ rest) k ≡ cond more (take_bytes_on c v rest (k + length ps)) (took (k + length ps), v)
      go (yes q) = part-run ps q v more o rest k
      go (no q) =
          let z : m - length ps ≡ 0 = omega arith in
          let n : length ps ≡ m = omega arith in
          rw n (whole_run (m - 1) (omega arith) ps n v more (o ∙ rw (z, n)) rest k)
