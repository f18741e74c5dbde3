-- `next::check`.
use Prim.Native.Nat.{ℕ, ◌+◌, ◌<◌}
use mathlib.Core.Path.{◌≡◌, sym, ◌∙◌}
use mathlib.Core.Bool.{Bool, false}
use mathlib.Core.List.{List, []}
use native.Mathlib.Omega.{arith}
use lib.ListN.{length, replicate, length-replicate}
use Rattle.sender.specs.declared.state.Sender.{Sender}
use Rattle.sender.specs.Blocks.{block_count, blocks_on}
use Rattle.sender.specs.Sender.{most_on, next_call, is_mismatched}
use Rattle.sender.specs.SenderRows.{InRange, Matches}
use Rattle.sender.proofs.AtMost.{most-below}
use Rattle.sender.proofs.Judged.{matching, refused-71, refused-73, refused-74, not-refused}
use Rattle.sender.proofs.next.check.Goals as goal

-- where the first test says no, the call is one on this sender, whatever file of that length is lent
module _ (s : Sender) (channel count size len : ℕ) (wrong : Bool) (e : (c : ℕ) (file out : List ℕ) → length file ≡ len → wrong ≡ is_mismatched s (next_call c count size file out)) (no : wrong ≡ false) where
  matches : (file out : List ℕ) → length file ≡ len → Matches s (next_call channel count size file out)
  matches file out l = matching s (next_call channel count size file out) (sym (e channel file out l) ∙ no)

  ranges : InRange count size
  ranges = (matches (replicate len 0) [] (length-replicate len 0)).range

-- the most that the channel is given, by the length of the file that is lent
most-for : (len count size channel m : ℕ) (file : List ℕ) → channel < count → m ≡ most_on len count size channel → length file ≡ len → m ≡ blocks_on (block_count (length file) size) count channel + 1
most-for len count size channel m file h e l = rw l (e ∙ most-below len count size channel h)

pub returns-then-is_mismatched : goal.returns-then-is_mismatched
returns-then-is_mismatched c =
    let x = c.args in
    λ file out e. sym (refused-71 x.s.now (next_call x.channel x.count x.size file out) (sym (c.is_mismatched.ensures x.channel file out e) ∙ c.if-is_mismatched.true))

pub returns-then-count-channel : goal.returns-then-count-channel
returns-then-count-channel c =
    let x = c.args in
    let o = matches x.s.now x.channel x.count x.size x.len c.is_mismatched.result c.is_mismatched.ensures c.if-is_mismatched.false in
    λ file out e. sym (refused-73 x.s.now _ (o file out e) c.if-count-channel.true)

pub invariant_of-plan : goal.invariant_of-plan
invariant_of-plan c =
    let x = c.args in
    let r = ranges x.s.now x.channel x.count x.size x.len c.is_mismatched.result c.is_mismatched.ensures c.if-is_mismatched.false in
    record { fits = omega (arith, r) }

pub bounds-s-channel : goal.bounds-s-channel
bounds-s-channel c =
    let x = c.args in
    let r = ranges x.s.now x.channel x.count x.size x.len c.is_mismatched.result c.is_mismatched.ensures c.if-is_mismatched.false in
    omega (arith, r)

pub returns-then-most_on-s : goal.returns-then-most_on-s
returns-then-most_on-s c =
    let x = c.args in
    let h = c.if-count-channel.false in
    let o = matches x.s.now x.channel x.count x.size x.len c.is_mismatched.result c.is_mismatched.ensures c.if-is_mismatched.false in
    λ file out e. sym (refused-74 x.s.now _ (o file out e) h (omega (arith, c.if-most_on-s.true, most-for x.len x.count x.size x.channel c.most_on.result file h c.most_on.ensures e)))

pub returns : goal.returns
returns c =
    let x = c.args in
    let h = c.if-count-channel.false in
    let o = matches x.s.now x.channel x.count x.size x.len c.is_mismatched.result c.is_mismatched.ensures c.if-is_mismatched.false in
    λ file out e. sym (not-refused x.s.now _ (o file out e) h (omega (arith, c.if-most_on-s.false, most-for x.len x.count x.size x.channel c.most_on.result file h c.most_on.ensures e)))
