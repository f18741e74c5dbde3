-- What a chunk leaves, once it is read to its end.
use Prim.Native.Nat.{ℕ, ◌-◌, ◌≤◌}
use mathlib.Core.Path.{◌≡◌, refl, sym, ap, ◌∙◌}
use mathlib.Core.Bool.{Bool, true, false, false≢true}
use mathlib.Core.List.{List, [], ◌++◌, append-nil}
use native.Mathlib.Omega.{arith}
use borrow.Rule.Slice.PartMut.{put_mid}
use lib.ListN.{length, take, drop, replicate, length-take, length-drop, drop_of_length-le}
use Rattle.frames.specs.Frame.{first_record}
use Rattle.frames.specs.declared.frame.First.{First}
use Rattle.frames.specs.declared.frame.First.TheVariants.{Nothing, Cut, TooLong, Whole}
use Rattle.frames.proofs.FirstRecord.{first-nothing}
use Rattle.recordings.specs.declared.session.Session.{Session}
use Rattle.nights.specs.Request.{record_limit}
use Rattle.nights.specs.Reading.{Reading, waits, printed_before, read}
use Rattle.recordings.specs.Kept.{ReplayState, Kept, kept, replay_state_of, held_limit, unfinished, is_unfinished, library, leaves, feed, feed_text}
use Rattle.recordings.specs.Steps.{halted, go_on, Holds, Reads}
use Rattle.nights.proofs.Reading.{read-nothing, read-cut}
use Rattle.octets.proofs.Rest.{rest_is}
use Rattle.recordings.proofs.Chunk.{none_held, go_on-reads, go_on-halted}

-- bytes that are not whole wait
read-unfinished : (d : ReplayState) (u : List ℕ) → is_unfinished u ≡ true → read library d u ≡ waits d u
unfolding is_unfinished
read-unfinished d u h = go (first_record record_limit u) refl
  where
    go : (x : First) → first_record record_limit u ≡ x → read library d u ≡ waits d u
    go Nothing q = read-nothing library d u q ∙ ap (waits d) (sym (first-nothing record_limit u q))
    go Cut q = read-cut library d u q
    go TooLong q = absurd (false≢true (rw (q, is_unfinished) at h))
    go (Whole n) q = absurd (false≢true (rw (q, is_unfinished) at h))

-- ---- what is kept then

-- what is held, and zeros after it
abbrev pub cleared : Kept → Kept
cleared m = kept m.session (unfinished m ++ replicate (held_limit - m.session.held) 0) m.file m.claimed m.doubtful

session-is : (s : Session) (h : ℕ) (b : Bool) → s.held ≡ h → s.stopped ≡ b → record { progress = s.progress; held = h; stopped = b } ≡ s
session-is s h b e f = ap (λ (x : ℕ). record { progress = s.progress; held = x; stopped = b }) (sym e) ∙ ap (λ (x : Bool). record { progress = s.progress; held = s.held; stopped = x }) (sym f)

-- a reading that was at an end, or waits, leaves what is kept
leaves_kept : (m : Kept) (r : Reading ReplayState) → r.left ≡ replay_state_of m → r.rest ≡ unfinished m → m.session.held ≡ length r.rest → m.session.stopped ≡ r.stopped → leaves r ≡ cleared m
unfolding leaves
leaves_kept m r l u h b =
    ap (λ (d : ReplayState). kept (record { progress = d.progress; held = length r.rest; stopped = r.stopped }) (r.rest ++ replicate (held_limit - length r.rest) 0) d.file d.claimed d.doubtful) l
    ∙ ap (λ (s : Session). kept s (r.rest ++ replicate (held_limit - length r.rest) 0) m.file m.claimed m.doubtful) (session-is m.session (length r.rest) r.stopped h b)
    ∙ ap (λ n. kept m.session (r.rest ++ replicate (held_limit - n) 0) m.file m.claimed m.doubtful) (sym h)
    ∙ ap (λ x. kept m.session (x ++ replicate (held_limit - m.session.held) 0) m.file m.claimed m.doubtful) u

module _ (k m : Kept) (chunk out : List ℕ) (n : ℕ) (after : List ℕ) (reads_on : k.session.stopped ≡ false) (t : Reads k m chunk out n after) where
  abbrev all : Reading ReplayState
  all = read library (replay_state_of k) (unfinished k ++ chunk)

  begins : all ≡ printed_before t.text (go_on m [])
  begins = sym (go_on-reads k chunk reads_on) ∙ t.reading

  ends : (b : Bool) → m.session.stopped ≡ b → (all.text ≡ t.text) × (leaves all ≡ cleared m)
  ends true b =
      let h = go_on-halted m [] b in
      let z = t.holds.halts b in
      let e : all ≡ printed_before t.text (halted (replay_state_of m)) = begins ∙ ap (printed_before t.text) h in (
        ap (λ (r : Reading ReplayState). r.text) e ∙ append-nil t.text,
        leaves_kept m all (ap (λ (r : Reading ReplayState). r.left) e) (ap (λ (r : Reading ReplayState). r.rest) e ∙ sym (none_held m z))
            (z ∙ ap (λ (r : Reading ReplayState). length r.rest) (sym e)) (b ∙ ap (λ (r : Reading ReplayState). r.stopped) (sym e)),
      )
  ends false b =
      let h = go_on-reads m [] b ∙ ap (read library (replay_state_of m)) (append-nil (unfinished m)) ∙ read-unfinished (replay_state_of m) (unfinished m) t.holds.ours in
      let l : length (unfinished m) ≡ m.session.held = unfold unfinished in omega (arith, length-take m.session.held m.held, t.holds.below, t.holds.held) in
      let e : all ≡ printed_before t.text (waits (replay_state_of m) (unfinished m)) = begins ∙ ap (printed_before t.text) h in (
        ap (λ (r : Reading ReplayState). r.text) e ∙ append-nil t.text,
        leaves_kept m all (ap (λ (r : Reading ReplayState). r.left) e) (ap (λ (r : Reading ReplayState). r.rest) e)
            (sym l ∙ ap (λ (r : Reading ReplayState). length r.rest) (sym e)) (b ∙ ap (λ (r : Reading ReplayState). r.stopped) (sym e)),
      )

  pub reads-feed : (feed_text k chunk ≡ t.text) × ((feed k chunk).1 ≡ cleared m)
  unfolding feed feed_text
  reads-feed =
      let f : feed k chunk ≡ (all.text, leaves all) = rw reads_on in
      let e = ends m.session.stopped refl in
      (ap (λ (x : List ℕ × Kept). x.0) f ∙ e.0, ap (λ (x : List ℕ × Kept). x.1) f ∙ e.1)

-- ---- zeros behind what is held

pub cleared-held : (m : Kept) → Holds m
    → let n = m.session.held in
    put_mid n (length m.held - n) m.held (replicate (length (take (length m.held - n) (drop n m.held))) 0) ≡ unfinished m ++ replicate (held_limit - n) 0
unfolding unfinished
cleared-held m h =
    let n = m.session.held in
    let z : length (take (length m.held - n) (drop n m.held)) ≡ held_limit - n = ap length (rest_is m.held n) ∙ omega (arith, length-drop n m.held, h.held) in
    let e : length (drop n m.held) ≤ length m.held - n = omega (arith, length-drop n m.held) in
    let zeros : List ℕ = replicate (held_limit - n) 0 in
    rw (z, drop_of_length-le (drop n m.held) e, append-nil zeros)
