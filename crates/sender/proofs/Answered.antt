-- What a call answers and leaves, by its number.
use Prim.Native.Nat.{ℕ, ◌+◌, ◌-◌, ◌≤◌, ◌<◌}
use mathlib.Core.Path.{◌≡◌, refl, sym, ap, ◌∙◌}
use mathlib.Core.List.{List, ◌++◌, append_assoc}
use native.Mathlib.Omega.{arith}
use native.Mathlib.Decide.{dec_lt}
use lib.ListN.{length, take, drop, length-append, length-take, length-drop}
use borrow.Author.Tests.{lt-ltb}
use Rattle.std.specs.Prelude.{Ok, Err}
use Rattle.answers.proofs.WrittenBy.{first_some, first-none, first-zero, room-short, room-enough, refused, written, written-only}
use Rattle.answers.specs.Written.{room_refusal}
use Rattle.sender.specs.declared.state.Sender.{Sender}
use Rattle.sender.specs.Blocks.{block_count}
use Rattle.sender.specs.Sender.{given_on, most_on, NextCall, bytes_of, next_bytes, call_refusal, next_refusal, next_of, next_after, moved_on, sender_after}
use Rattle.sender.specs.SenderRows.{next_block}
use Rattle.sender.proofs.BlockNumbers.{count_most}
use Rattle.sender.proofs.ChannelShares.{share-most}
use Rattle.sender.proofs.AtMost.{most-below}
use Rattle.sender.proofs.Judged.{accepted}
use Rattle.sender.proofs.ChannelRun.{length-head}

-- what a call that is not refused by 71, 73 or 74 can count on
pub record Accepted (s : Sender) (k : NextCall) : Type 0 where
  pub channel : k.channel < k.count
  pub count : k.count ≤ 64
  pub size : 0 < k.size
  pub more : given_on s k.channel < most_on (length k.file) k.count k.size k.channel
  pub few : given_on s k.channel ≤ length k.file

pub accepts : (s : Sender) (k : NextCall) → call_refusal s k ≡ 0 → Accepted s k
accepts s k e =
    let a = accepted s k e in
    let r = a.0.range in
    let few = share-most (block_count (length k.file) k.size) k.count k.channel a.1 in
    record {
      channel = a.1;
      count = r.0.1;
      size = r.1.0;
      more = omega (arith, a.2, most-below (length k.file) k.count k.size k.channel a.1);
      few = omega (arith, a.2, few, count_most (length k.file) k.size r.1.0);
    }

module _ (s : Sender) (k : NextCall) where
  -- a header of 17 bytes, and the block's own
  pub length-next : length (next_bytes s k) ≡ 17 + length (next_block s k).body
  unfolding next_bytes bytes_of
  length-next = length-append (next_block s k).head (next_block s k).body ∙ ap (λ n. n + length (next_block s k).body) (length-head k.file k.count k.size k.channel (given_on s k.channel))

  -- ---- the number

  pub number-call : 0 < call_refusal s k → next_refusal s k ≡ call_refusal s k
  unfolding next_refusal
  number-call h = first_some (call_refusal s k) _ h

  pub number-55 : call_refusal s k ≡ 0 → length k.out < length (next_bytes s k) → next_refusal s k ≡ 55
  unfolding next_refusal
  number-55 e h = first-none (call_refusal s k) _ e ∙ room-short (length (next_bytes s k)) k.out h

  pub number_0 : call_refusal s k ≡ 0 → length (next_bytes s k) ≤ length k.out → next_refusal s k ≡ 0
  unfolding next_refusal
  number_0 e h = first-none (call_refusal s k) _ e ∙ room-enough (length (next_bytes s k)) k.out h

  -- ---- the answer, the lent bytes and the sender

  pub refuses : (j : ℕ) → next_refusal s k ≡ j → 0 < j → (Err j ≡ next_of s k) × (s ≡ sender_after s k) × (k.out ≡ next_after s k)
  unfolding next_of next_after sender_after
  refuses j e h =
      let r = refused (next_refusal s k) (length (next_bytes s k)) (next_bytes s k) k.out j e h in
      (r.0, rw (e, lt-ltb 0 j h), r.1)

  pub writes : next_refusal s k ≡ 0 → (Ok (length (next_bytes s k)) ≡ next_of s k) × (moved_on s k.channel ≡ sender_after s k) × (next_bytes s k ++ drop (length (next_bytes s k)) k.out ≡ next_after s k)
  unfolding next_of next_after sender_after
  writes e =
      let w = written (next_refusal s k) (length (next_bytes s k)) (next_bytes s k) k.out e in
      (w.0, rw e, w.1)

  -- the number and the sender by the answer
  pub written_is : (n : ℕ) → Ok n ≡ next_of s k → (call_refusal s k ≡ 0) × (moved_on s k.channel ≡ sender_after s k)
  unfolding next_of next_refusal
  written_is n e =
      let z = (written-only (next_refusal s k) (length (next_bytes s k)) n (sym e)).0 in
      ((first-zero (call_refusal s k) (room_refusal (length (next_bytes s k)) k.out) z).0, (writes z).1)

  pub refused_is : (j : ℕ) → Err j ≡ next_of s k → s ≡ sender_after s k
  refused_is j e = by (dec_lt 0 (next_refusal s k))
    where
      by : Dec (0 < next_refusal s k) → s ≡ sender_after s k
      by (yes h) = (refuses (next_refusal s k) refl h).1
      by (no n) =
          let z : next_refusal s k ≡ 0 = omega (arith, n) in
          let w = (writes z).0 in
          let a : ◌≡◌ {A = ℕ} 0 1 = cc in absurd (omega arith)

  -- ---- the next block by its outline

  pub length-outlined : (third n : ℕ) → take n (drop third k.file) ≡ (next_block s k).body → (0 < n → third + n ≤ length k.file) → 17 + n ≡ length (next_bytes s k)
  length-outlined third n e h = omega (arith, length-next, ap length e, length-take n (drop third k.file), length-drop third k.file, by (dec_lt 0 n))
    where
      by : Dec (0 < n) → n ≤ length k.file - third
      by (yes p) = omega (arith, h p)
      by (no p) = omega arith

  pub outlined : (head : List ℕ) (third n : ℕ) → head ≡ (next_block s k).head → take n (drop third k.file) ≡ (next_block s k).body → 17 + n ≡ length (next_bytes s k)
      → head ++ (take n (drop third k.file) ++ drop (17 + n) k.out) ≡ next_bytes s k ++ drop (length (next_bytes s k)) k.out
  unfolding next_bytes bytes_of
  outlined head third n e₁ e₂ e₃ = rw (← e₃, e₁, e₂) (sym (append_assoc (next_block s k).head (next_block s k).body (drop (17 + n) k.out)))
