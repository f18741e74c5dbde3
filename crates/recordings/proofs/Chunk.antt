-- A step through a chunk: what a look at its bytes, or at the held ones with some of it, makes of what is kept.
use Prim.Native.Nat.{ℕ, ◌+◌, ◌-◌, ◌≤◌, ◌<◌, min}
use mathlib.Core.Path.{◌≡◌, refl, sym, ap, ◌∙◌}
use mathlib.Core.Bool.{true, false, cond, true≢false, false≢true}
use mathlib.Core.Logic.{inl, inr}
use mathlib.Core.List.{List, [], ◌++◌, append-nil, append_assoc}
use native.Mathlib.Omega.{arith}
use native.Mathlib.Decide.{dec_le}
use lib.ListN.{length, take, drop, length-append, length-take, drop_of_length-le, take-append-drop}
use lib.Seq.{take_at}
use Rattle.frames.specs.Frame.{field_length, record_length, first_record}
use Rattle.frames.specs.declared.frame.First.{First}
use Rattle.frames.specs.declared.frame.First.TheVariants.{Nothing, Cut, TooLong, Whole}
use Rattle.frames.proofs.FirstRecord.{record_length-short, record_length-append, first-nothing, first-cut}
use Rattle.copies.specs.Copy.{stored}
use Rattle.copies.proofs.CopiedBytes.{stored-is-written, stored-all}
use Rattle.recordings.specs.declared.session.Progress.{Progress}
use Rattle.recordings.specs.declared.session.Session.{Session}
use Rattle.nights.specs.Request.{record_limit}
use Rattle.nights.specs.Lines.{record_line}
use Rattle.nights.specs.Reading.{printed_before, read}
use Rattle.recordings.specs.Kept.{Kept, kept, replay_state, replay_state_of, held_limit, unfinished, is_unfinished, library}
use Rattle.recordings.specs.declared.first.Looked.{Looked}
use Rattle.recordings.specs.declared.first.Looked.TheVariants.{Malformed, Unfinished, Answered}
use Rattle.recordings.specs.Steps.{Looks, halted, go_on, after_look, written_in, Holds, Steps}
use Rattle.recordings.proofs.Unfinished.{unfinished-none}

-- ---- what is held

-- it is a record's first bytes, or nothing
pub held_cut : (bytes : List ℕ) → is_unfinished bytes ≡ true
    → (length bytes < held_limit) × (0 < length bytes → (length bytes < record_length bytes) × (record_length bytes ≤ held_limit))
unfolding is_unfinished
held_cut bytes h = go (first_record record_limit bytes) refl
  where
    go : (x : First) → first_record record_limit bytes ≡ x
        → (length bytes < held_limit) × (0 < length bytes → (length bytes < record_length bytes) × (record_length bytes ≤ held_limit))
    go Nothing q =
        let e = ap length (first-nothing record_limit bytes q) in
        (omega (arith, e), λ z. absurd (omega (arith, e, z)))
    go Cut q = let c = first-cut record_limit bytes q in (omega (arith, c.1, c.2), λ z. (c.1, c.2))
    go TooLong q = absurd (false≢true (rw (q, is_unfinished) at h))
    go (Whole n) q = absurd (false≢true (rw (q, is_unfinished) at h))

-- a record that has begun lacks a byte or more
pub held-lacks : (s : Session) (h f c d : List ℕ) → Holds (kept s h f c d) → 0 < s.held
    → (length (take s.held h) ≡ s.held) × (s.held < record_length (take s.held h)) × (record_length (take s.held h) ≤ held_limit)
held-lacks s h f c d holds begun =
    let l : length (take s.held h) ≡ s.held = omega (arith, length-take s.held h, holds.below, holds.held) in
    let x = (held_cut (take s.held h) (unfold unfinished in holds.ours)).1 (omega (arith, l, begun)) in
    (l, omega (arith, x.0, l), x.1)

-- the lengths of what is lent
abbrev pub Lengths : List ℕ → List ℕ → List ℕ → List ℕ → Type 0
Lengths held file claimed doubtful = (length held ≡ held_limit) × (length file ≡ 32768) × (length claimed ≡ 512) × (length doubtful ≡ 512)

-- nothing is held
holds-none : (s : Session) (held file claimed doubtful : List ℕ) → s.held ≡ 0 → Lengths held file claimed doubtful → Holds (kept s held file claimed doubtful)
unfolding unfinished
holds-none s held file claimed doubtful z l =
    record { ours = rw z unfinished-none; below = omega (arith, z); halts = λ b. z; held = l.0; file = l.1; claimed = l.2; doubtful = l.3 }

-- ---- what is still to come

pub none_held : (k : Kept) → k.session.held ≡ 0 → unfinished k ≡ []
unfolding unfinished
none_held k z = rw z

module _ (k : Kept) (bytes : List ℕ) where
  pub go_on-reads : k.session.stopped ≡ false → go_on k bytes ≡ read library (replay_state_of k) (unfinished k ++ bytes)
  unfolding go_on
  go_on-reads e = ap (λ b. cond b (halted (replay_state_of k)) (read library (replay_state_of k) (unfinished k ++ bytes))) e

  go_on-none : k.session.stopped ≡ false → k.session.held ≡ 0 → go_on k bytes ≡ read library (replay_state_of k) bytes
  go_on-none e z = go_on-reads e ∙ ap (λ u. read library (replay_state_of k) (u ++ bytes)) (none_held k z)

  pub go_on-halted : k.session.stopped ≡ true → go_on k bytes ≡ halted (replay_state_of k)
  unfolding go_on
  go_on-halted e = ap (λ b. cond b (halted (replay_state_of k)) (read library (replay_state_of k) (unfinished k ++ bytes))) e

-- ---- from a look to a step

-- the look was at `bytes`, which are what was held and the beginning of the chunk; more is to come
module _ (s : Session) (h f c d chunk h' f' c' d' : List ℕ) (bytes more out after : List ℕ) (waiting taken : ℕ)
    (reads_on : s.stopped ≡ false) (same : take s.held h ++ chunk ≡ bytes ++ more) (l : Lengths h' f' c' d')
    (some : 0 < taken) (within : taken ≤ length chunk) where
  abbrev before : Kept
  before = kept s h f c d

  abbrev later : Looked → Kept
  later k = kept (after_look s.progress k waiting) h' f' c' d'

  begins : go_on before chunk ≡ read library (replay_state_of before) (bytes ++ more)
  begins = go_on-reads before chunk reads_on ∙ ap (read library (replay_state_of before)) (unfold unfinished in same)

  -- what a look that waits has to hold, and where one that goes on has to end
  pub look-steps : (k : Looked) → Looks k (replay_state_of before) bytes out f' c' d' after
      → (is_unfinished bytes ≡ true → (waiting ≡ length bytes) × (take waiting h' ≡ bytes) × (drop taken chunk ≡ more) × (s.held ≡ 0 → taken ≡ length chunk))
      → ((p : Progress) (used n : ℕ) → k ≡ Answered p used n → 6 ≤ used → used ≤ length bytes → used ≡ record_length bytes
      → (drop used bytes ++ more ≡ drop taken chunk) × (s.held ≡ 0 → 6 ≤ taken))
      → Steps before (later k) chunk out taken (written_in k) after
  look-steps (Malformed n) k w g =
      let e : go_on (later (Malformed n)) (drop taken chunk) ≡ halted (replay_state_of before) =
      go_on-halted (later (Malformed n)) (drop taken chunk) refl ∙ ap halted k.0 in
      record {
        text = record_line s.progress.number;
        writes = k.1;
        some = some;
        within = within;
        reading = begins ∙ k.2 more ∙ rw (e, append-nil (record_line s.progress.number));
        holds = holds-none (after_look s.progress (Malformed n) waiting) h' f' c' d' refl l;
        printed_held = λ z. absurd (omega (arith, z));
        printed_many = λ z r. absurd (true≢false r);
      }
  look-steps Unfinished k w g =
      let x = w k.0 in
      let e : go_on (later Unfinished) (drop taken chunk) ≡ read library (replay_state_of before) (bytes ++ more) =
      go_on-reads (later Unfinished) (drop taken chunk) refl ∙ (unfold unfinished in rw (x.1, x.2, k.1) refl) in
      record {
        text = [];
        writes = (omega arith, (refl, k.2));
        some = some;
        within = within;
        reading = begins ∙ sym e;
        holds =
            record {
              ours = unfold unfinished in rw x.1 k.0;
              below = omega (arith, x.0, (held_cut bytes k.0).0);
              halts = λ b. absurd (false≢true b);
              held = l.0;
              file = l.1;
              claimed = l.2;
              doubtful = l.3;
            };
        printed_held = λ z. refl;
        printed_many = λ z r. inr (refl, x.3 z);
      }
  look-steps (Answered p used n) k w g =
      let x = g p used n refl k.1 k.2 k.3 in
      let e : go_on (later (Answered p used n)) (drop taken chunk) ≡ read library (replay_state p f' c' d') (drop used bytes ++ more) =
      go_on-none (later (Answered p used n)) (drop taken chunk) refl refl ∙ ap (read library (replay_state p f' c' d')) (sym x.0) in
      record {
        text = k.0;
        writes = k.4;
        some = some;
        within = within;
        reading = begins ∙ k.5 more ∙ ap (printed_before k.0) (sym e);
        holds = holds-none (after_look s.progress (Answered p used n) waiting) h' f' c' d' refl l;
        printed_held = λ z. absurd (omega (arith, z));
        printed_many = λ z r. inl (x.1 z);
      }

-- ---- where nothing is held

-- a record of the chunk was answered
module _ (s : Session) (h f c d chunk : List ℕ) (out after : List ℕ) (reads_on : s.stopped ≡ false) (none : s.held ≡ 0) (some : 0 < length chunk) where
  abbrev same-chunk : take s.held h ++ chunk ≡ chunk ++ []
  same-chunk = rw (none, append-nil chunk)

  pub chunk-answered : (f' c' d' : List ℕ) → Lengths h f' c' d' → (p : Progress) (used n : ℕ) → Looks (Answered p used n) (replay_state s.progress f c d) chunk out f' c' d' after
      → Steps (kept s h f c d) (kept (after_look s.progress (Answered p used n) 0) h f' c' d') chunk out used n after
  chunk-answered f' c' d' l p used n k =
      look-steps s h f c d chunk h f' c' d' chunk [] out after 0 used reads_on same-chunk l (omega (arith, k.1)) k.2 (Answered p used n) k
      (λ q. absurd (omega (arith, no_cut q))) ends
    where
      -- a record that is whole is not unfinished
      no_cut : is_unfinished chunk ≡ true → used < used
      no_cut q = omega (arith, k.2, k.3, ((held_cut chunk q).1 some).0)

      ends : (q : Progress) (u m : ℕ) → Answered p used n ≡ Answered q u m → 6 ≤ u → u ≤ length chunk → u ≡ record_length chunk
          → (drop u chunk ++ [] ≡ drop used chunk) × (s.held ≡ 0 → 6 ≤ used)
      ends q u m e a b g =
          let same : used ≡ u = cc in
          (rw (append-nil (drop u chunk), same), λ y. omega (arith, same, a))

  -- all of it is held
  pub chunk-held : (h' f' c' d' : List ℕ) → Lengths h' f' c' d' → length h ≡ held_limit → h' ≡ stored 0 (length chunk) chunk h
      → (k : Looked) → ((p : Progress) (used n : ℕ) → k ≡ Answered p used n → ⊥)
      → Looks k (replay_state s.progress f c d) chunk out f' c' d' after
      → Steps (kept s h f c d) (kept (after_look s.progress k (length chunk)) h' f' c' d') chunk out (length chunk) (written_in k) after
  chunk-held h' f' c' d' l lh e k other looks =
      let most : length chunk ≤ length chunk = omega arith in
      look-steps s h f c d chunk h' f' c' d' chunk [] out after (length chunk) (length chunk) reads_on same-chunk l some (omega arith) k looks
      (λ q. (
        refl,
        rw (e, stored-all 0 (length chunk) chunk h refl (omega (arith, (held_cut chunk q).0, lh))) (take_at chunk _ (length chunk) refl),
        drop_of_length-le chunk most,
        λ z. refl,
      ))
      (λ p u m i. absurd (other p u m i))

-- ---- where a record has begun

pub held-step : (s : Session) (h f c d chunk h' f' c' d' out after : List ℕ) (m : ℕ) (looked : Looked) → s.stopped ≡ false → 0 < s.held
    → Holds (kept s h f c d) → 0 < length chunk → m ≡ min (record_length (take s.held h) - s.held) (length chunk) → h' ≡ stored s.held m chunk h → Lengths h' f' c' d'
    → Looks looked (replay_state s.progress f c d) (take (s.held + m) h') out f' c' d' after
    → Steps (kept s h f c d) (kept (after_look s.progress looked (s.held + m)) h' f' c' d') chunk out m (written_in looked) after
held-step s h f c d chunk h' f' c' d' out after m looked reads_on begun holds some e stored_is l k =
    look-steps s h f c d chunk h' f' c' d' (take (s.held + m) h') (drop m chunk) out after (s.held + m) m reads_on whole l
    (omega (arith, e, lacks)) (omega (arith, e)) looked k
    (λ q. (sym long, refl, refl, λ z. absurd (omega (arith, z, begun))))
    (λ p used n i a b g. (ap (λ x. x ++ drop m chunk) (drop_of_length-le (take (s.held + m) h') (all used a b g)), λ z. absurd (omega (arith, z, begun))))
  where
    u : List ℕ
    u = take s.held h

    lacks : (length u ≡ s.held) × (s.held < record_length u) × (record_length u ≤ held_limit)
    lacks = held-lacks s h f c d holds begun

    h-is : h' ≡ u ++ (take m chunk ++ drop (s.held + m) h)
    h-is = stored_is ∙ stored-is-written s.held m chunk h (omega (arith, e)) (omega (arith, e, lacks.1, lacks.2, holds.held))

    lm : length (take m chunk) ≡ m
    lm = omega (arith, length-take m chunk, e)

    bytes_are : take (s.held + m) h' ≡ u ++ take m chunk
    bytes_are =
        let w : length (u ++ take m chunk) ≡ s.held + m = length-append u (take m chunk) ∙ rw (lacks.0, lm) in
        rw (h-is, ← append_assoc u (take m chunk) (drop (s.held + m) h)) (take_at (u ++ take m chunk) (drop (s.held + m) h) (s.held + m) w)

    long : length (take (s.held + m) h') ≡ s.held + m
    long = rw bytes_are (length-append u (take m chunk) ∙ rw (lacks.0, lm))

    whole : take s.held h ++ chunk ≡ take (s.held + m) h' ++ drop m chunk
    whole = rw bytes_are (ap (λ x. u ++ x) (sym (take-append-drop m chunk)) ∙ sym (append_assoc u (take m chunk) (drop m chunk)))

    -- a record that was begun and is answered ends where the bytes that it lacked do
    all : (used : ℕ) → 6 ≤ used → used ≤ length (take (s.held + m) h') → used ≡ record_length (take (s.held + m) h') → length (take (s.held + m) h') ≤ used
    all used a b g = go (dec_le field_length (length u))
      where
        go : Dec (field_length ≤ length u) → length (take (s.held + m) h') ≤ used
        go (yes y) = omega (arith, long, g, ap record_length bytes_are, record_length-append u (take m chunk) y, e, lacks.1)
        go (no y) = absurd (omega (arith, a, b, long, e, record_length-short u (omega arith), lacks.0))
