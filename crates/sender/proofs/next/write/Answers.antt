-- `next::write`.
use Prim.Native.Nat.{◌+◌, ◌-◌, ◌≤◌}
use mathlib.Core.Path.{◌≡◌, sym, ◌∙◌}
use mathlib.Core.List.{[]}
use native.Mathlib.Omega.{arith}
use lib.ListN.{length, take, drop, length-drop}
use lib.Seq.{take_all}
use Rattle.answers.proofs.WrittenBy.{written}
use Rattle.eblock.specs.Header.{write_of}
use Rattle.eblock.proofs.HeaderAnswers.{number_0}
use Rattle.sender.proofs.BlockStores.{header-stored, block-stored}
use Rattle.sender.proofs.next.write.Goals as goal

-- there is room for the header, and its descriptor and third field are right
pub unwrap-requires : goal.unwrap-requires
unfolding write_of
unwrap-requires c =
    let o = c.args.o in
    let out = c.args.out.now in
    let e = c.write.ensures.0 ∙ sym (written _ 17 [] out (number_0 o.descriptor o.third out (omega arith) (omega arith))).0 in
    grind (arith, e)

pub returns-then-o-eq0 : goal.returns-then-o-eq0
returns-then-o-eq0 c =
    let x = c.args in
    let o = x.o in
    c.write.ensures.1 ∙ header-stored o.descriptor o.length o.third x.out.now (omega arith) (omega arith) ∙ rw c.if-o-eq0.true

pub slice_bounds-store-count : goal.slice_bounds-store-count
slice_bounds-store-count c =
    omega (arith, c.requires.1 (omega arith))

pub slice_bounds-store-start : goal.slice_bounds-store-start
slice_bounds-store-start c =
    omega (arith, c.requires.1 (omega arith))

pub returns : goal.returns
returns c =
    let x = c.args in
    let o = x.o in
    let inside : o.third + o.length ≤ length x.file.now = c.requires.1 (omega arith) in
    let whole : take (length x.file.now - o.third) (drop o.third x.file.now) ≡ drop o.third x.file.now = take_all (length x.file.now - o.third) (drop o.third x.file.now) (omega (arith, length-drop o.third x.file.now)) in
    c.store.ensures ∙ rw whole (block-stored o.descriptor o.length o.third x.out.now x.file.now _ (omega arith) inside (omega arith) c.write.ensures.1)
