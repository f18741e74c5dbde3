-- `plan::Plan::next_outline`.
use Prim.Native.Nat.{ℕ, ◌+◌, ◌*◌, ◌≤◌, ◌<◌}
use mathlib.Core.Path.{◌≡◌}
use native.Mathlib.Omega.{arith}
use Rattle.sender.specs.Blocks.{block_count, blocks_on}
use Rattle.sender.specs.Sender.{most_on}
use Rattle.sender.proofs.BlockNumbers.{count_most}
use Rattle.sender.proofs.ChannelShares.{share-below}
use Rattle.sender.proofs.AtMost.{most-below}
use Rattle.sender.proofs.Outlines.{data_is, data-accepted, first-ending, other-ending, count-accepted, eight-accepted}
use Rattle.sender.proofs.plan.Plan.next_outline.Goals as goal

-- the block has its number in the file where the channel has not been given all
there : (len count size c i m : ℕ) → c < count → m ≡ most_on len count size c → i + 1 < m → i * count + c < block_count len size
there len count size c i m h e k = share-below (block_count len size) count c i h (omega (arith, most-below len count size c h, e, k))

-- all of the channel's blocks are given
given : (len count size c i m : ℕ) → c < count → m ≡ most_on len count size c → m ≤ i + 1 → blocks_on (block_count len size) count c ≤ i
given len count size c i m h e k = omega (arith, most-below len count size c h, e, k)

pub overflow_add-i : goal.overflow_add-i
overflow_add-i c = omega (arith, c.most_on-most.ensures)

pub overflow_add-i-then-i-most : goal.overflow_add-i-then-i-most
overflow_add-i-then-i-most c =
    let x = c.args in
    omega (arith, there x.self.len x.self.count x.self.size x.c x.i c.most_on-most.result (omega arith) c.most_on-most.ensures c.if-i-most.true, count_most x.self.len x.self.size (omega arith))

pub overflow_mul-i : goal.overflow_mul-i
overflow_mul-i c = omega (arith, overflow_add-i-then-i-most c)

pub returns-then-i-most : goal.returns-then-i-most
returns-then-i-most c =
    let x = c.args in
    let o = c.data_outline.ensures in
    let few : x.i < blocks_on (block_count x.self.len x.self.size) x.self.count x.c = omega (arith, c.if-i-most.true, c.most_on-most.ensures, most-below x.self.len x.self.count x.self.size x.c (omega arith)) in
    (data-accepted _ _ o.0, (λ h. o.3), (λ file e. data_is file x.self.count x.self.size x.c x.i _ _ _ (rw e few) o.0 (rw e o.1) o.2))

pub returns-then-c-eq0 : goal.returns-then-c-eq0
returns-then-c-eq0 c =
    let x = c.args in
    (count-accepted x.self.count (omega arith) (omega arith), (λ h. absurd (omega (arith, h))), (λ file e. first-ending file x.self.count x.self.size x.c x.i (rw e (given x.self.len x.self.count x.self.size x.c x.i c.most_on-most.result (omega arith) c.most_on-most.ensures c.if-i-most.false)) c.if-c-eq0.true))

pub returns-else-c-eq0 : goal.returns-else-c-eq0
returns-else-c-eq0 c =
    let x = c.args in
    (eight-accepted, (λ h. absurd (omega (arith, h))), (λ file e. other-ending file x.self.count x.self.size x.c x.i (rw e (given x.self.len x.self.count x.self.size x.c x.i c.most_on-most.result (omega arith) c.most_on-most.ensures c.if-i-most.false)) c.if-c-eq0.false))

pub data_outline-requires : goal.data_outline-requires
data_outline-requires c =
    let x = c.args in
    there x.self.len x.self.count x.self.size x.c x.i c.most_on-most.result (omega arith) c.most_on-most.ensures c.if-i-most.true
