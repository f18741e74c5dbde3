-- Chunk after chunk is one reading: what is not whole is held, and is read again before the next chunk.
use Prim.Native.Nat.{ℕ}
use mathlib.Core.Path.{◌≡◌, refl, sym, ap, ◌∙◌}
use mathlib.Core.Bool.{Bool, true, false, cond, ◌&&◌, not}
use mathlib.Core.List.{List, [], ◌∷◌, ◌++◌, append-nil, append_assoc}
use native.Mathlib.Omega.{arith}
use borrow.Author.Tests.{lt-ltb}
use lib.Dec.{ltb}
use lib.ListN.{length}
use lib.Seq.{take_at}
use Rattle.nights.specs.Lines.{record_line}
use Rattle.nights.specs.Reading.{joined, Reading, printed_before, read}
use Rattle.recordings.specs.Kept.{ReplayState, library, Kept, replay_state_of, unfinished, leaves, feed, finish_text}
use Rattle.recordings.specs.Chunks.{feeds, Begun}
use Rattle.nights.proofs.Reading.{read_none, followed, read-append}
use Rattle.recordings.proofs.Unfinished.{RestOf}
use Rattle.nights.proofs.ReadingEnd.{end_line}

-- what is kept is what a reading has left
pub record Holds (k : Kept) (r : Reading ReplayState) : Type 0 where
  pub state_is : replay_state_of k ≡ r.left
  pub rest_is : unfinished k ≡ r.rest
  pub held_is : k.session.held ≡ length r.rest
  pub stopped_is : k.session.stopped ≡ r.stopped

begun-holds : (k : Kept) → Begun k → Holds k (read library (replay_state_of k) [])
begun-holds k b =
    rw (read_none library (replay_state_of k)) (record { state_is = refl; rest_is = unfold unfinished in rw b.none_held; held_is = b.none_held; stopped_is = b.reads_on })

leaves-holds : (r : Reading ReplayState) → Holds (leaves r) r
unfolding leaves unfinished
leaves-holds r = record { state_is = refl; rest_is = take_at r.rest _ (length r.rest) refl; held_is = refl; stopped_is = refl }

-- what it leaves does not hang on what was printed before it
printed-holds : (text : List ℕ) (r : Reading ReplayState) → Holds (leaves r) (printed_before text r)
printed-holds text r = unfold leaves in leaves-holds (printed_before text r)

-- ---- one chunk

module _ (k : Kept) (c : List ℕ) where
  feed-stopped : k.session.stopped ≡ true → feed k c ≡ ([], k)
  unfolding feed
  feed-stopped e = rw e

  feed-reads : k.session.stopped ≡ false → let r = read library (replay_state_of k) (unfinished k ++ c) in feed k c ≡ (r.text, leaves r)
  unfolding feed
  feed-reads e = rw e

-- the text goes on from that of the reading r to that of s, and what is kept then is what s has left
abbrev GoesOn : Reading ReplayState → List ℕ × Kept → Reading ReplayState → Type 0
GoesOn r fed s = (r.text ++ fed.0 ≡ s.text) × Holds fed.1 s

feed-holds : (k : Kept) (c : List ℕ) (r : Reading ReplayState) → Holds k r → GoesOn r (feed k c) (followed library r c)
feed-holds k c r h = go r.stopped refl
  where
    go : (b : Bool) → r.stopped ≡ b → GoesOn r (feed k c) (followed library r c)
    go true e =
        let s : followed library r c ≡ r = ap (λ b. cond b r (printed_before r.text (read library r.left (r.rest ++ c)))) e in
        rw (feed-stopped k c (h.stopped_is ∙ e), s) (append-nil r.text, h)
    go false e = rw (feed-reads k c (h.stopped_is ∙ e), h.state_is, h.rest_is, e) (refl, printed-holds r.text (read library r.left (r.rest ++ c)))

-- ---- all chunks

feeds-hold : (d : ReplayState) (cs : List (List ℕ)) (k : Kept) (a : List ℕ) → Holds k (read library d a) → GoesOn (read library d a) (feeds k cs) (read library d (a ++ joined cs))
unfolding feeds joined
feeds-hold d [] k a h = rw (append-nil a) (append-nil (read library d a).text, h)
feeds-hold d (c ∷ cs) k a h =
    let f : GoesOn (read library d a) (feed k c) (read library d (a ++ c)) = rw (read-append library d a c) (feed-holds k c (read library d a) h) in
    let g = feeds-hold d cs (feed k c).1 (a ++ c) f.1 in
    let later = (feeds (feed k c).1 cs).0 in
    rw (← append_assoc a c (joined cs)) (sym (append_assoc (read library d a).text (feed k c).0 later) ∙ ap (λ t. t ++ later) f.0 ∙ g.0, g.1)

-- from the beginning on they are the reading of all bytes
pub feeds-read : (k : Kept) (cs : List (List ℕ)) → Begun k
    → ((feeds k cs).0 ≡ (read library (replay_state_of k) (joined cs)).text) × Holds (feeds k cs).1 (read library (replay_state_of k) (joined cs))
feeds-read k cs b =
    let g = feeds-hold (replay_state_of k) cs k [] (begun-holds k b) in
    (ap (λ (r : Reading ReplayState). r.text ++ (feeds k cs).0) (sym (read_none library (replay_state_of k))) ∙ g.0, g.1)

-- ---- the end of the input

held-end : (rest : List ℕ) (stopped : Bool) (n : ℕ) → (stopped ≡ true → rest ≡ []) → cond (ltb 0 (length rest) && not stopped) (record_line n) [] ≡ end_line rest n
held-end [] stopped n h = refl
held-end (b ∷ bs) true n h = let z : ◌≡◌ {A = ℕ} 0 1 = cc (h refl) in absurd (omega (arith, z))
held-end (b ∷ bs) false n h = rw (lt-ltb 0 (length (b ∷ bs)) (omega arith))

pub finish-holds : (k : Kept) (r : Reading ReplayState) → Holds k r → RestOf r → finish_text k.session ≡ end_line r.rest r.left.progress.number
unfolding finish_text
finish-holds k r h p =
    let e : k.session.progress.number ≡ r.left.progress.number = ap (λ (d : ReplayState). d.progress.number) h.state_is in
    rw (h.held_is, h.stopped_is, e) (held-end r.rest r.stopped r.left.progress.number p.2)
