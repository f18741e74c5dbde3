-- One byte by its channel's state, and a header by what it asks for: the definition's cases as equations.
use Prim.Native.Nat.{ℕ, suc, ◌≤◌, ◌<◌}
use mathlib.Core.Path.{◌≡◌}
use mathlib.Core.Bool.{Bool, cond, ◌&&◌}
use mathlib.Core.List.{List, [], ◌∷◌, ◌++◌}
use native.Mathlib.Omega.{arith}
use borrow.Author.Tests.{lt-ltb, le-ltb}
use lib.Dec.{ltb, eqb}
use lib.ListN.{length}
use Rattle.ledger.specs.Ledger.{pairs_of}
use Rattle.transfer.specs.Channel.{held_limit, unused, header, payload, ended, state_at, put_state, put_fault}
use Rattle.transfer.specs.Transfer.{used_of, World, with_transfer}
use Rattle.transfer.specs.Header.{ends_channel, payload_length, claims, request_of, claim_fault}
use Rattle.transfer.specs.Receive.{continues, not_taken, stop_with_fault, expect_payload, claim_range, apply_request, apply_header, take_header_byte, store_payload_byte, take_byte_in, take_byte}

module _ (w : World) (c b : ℕ) where
  pub byte-unused : state_at w.t c ≡ unused
      → take_byte w c b
      ≡ cond (ltb 0 w.t.count && eqb (used_of w.t) w.t.count) (not_taken (with_transfer w (put_fault w.t 19 c))) (continues (with_transfer w (put_state w.t c (header (b ∷ [])))))
  unfolding take_byte take_byte_in take_header_byte
  byte-unused s = rw s

  pub byte-held : (h : List ℕ) → state_at w.t c ≡ header h → length h < held_limit → take_byte w c b ≡ continues (with_transfer w (put_state w.t c (header (h ++ (b ∷ [])))))
  unfolding take_byte take_byte_in take_header_byte
  byte-held h s l = rw (s, lt-ltb (length h) held_limit l)

  pub byte-judged : (h : List ℕ) → state_at w.t c ≡ header h → held_limit ≤ length h
      → take_byte w c b ≡ apply_request w c (h ++ (b ∷ [])) (request_of w.t.len w.t.count (used_of w.t) (h ++ (b ∷ [])))
  unfolding take_byte take_byte_in take_header_byte apply_header
  byte-judged h s l = rw (s, le-ltb (length h) held_limit l)

  pub byte-payload : (p n : ℕ) (e : Bool) → state_at w.t c ≡ payload p n e → take_byte w c b ≡ store_payload_byte w c p n e b
  unfolding take_byte take_byte_in
  byte-payload p n e s = rw s

  pub byte-ended : state_at w.t c ≡ ended → take_byte w c b ≡ not_taken w
  unfolding take_byte take_byte_in
  byte-ended s = rw s

module _ (w : World) (c : ℕ) (h : List ℕ) (s e : ℕ) (doubt : Bool) where
  pub claim-faulty : (k : ℕ) → claim_fault w.t.pairs (pairs_of w.lent.claimed) (pairs_of w.lent.doubtful) s e doubt ≡ suc k → apply_request w c h (claims s e doubt) ≡ stop_with_fault w c (suc k)
  unfolding apply_request
  claim-faulty k q = rw (q, lt-ltb 0 (suc k) (omega arith))

  pub claim-opens : claim_fault w.t.pairs (pairs_of w.lent.claimed) (pairs_of w.lent.doubtful) s e doubt ≡ 0
      → apply_request w c h (claims s e doubt) ≡ expect_payload (claim_range w s e doubt) c s (payload_length h) (ends_channel h)
  unfolding apply_request
  claim-opens q = rw q
