-- A recording in chunks: whatever way it is cut, what is handed back is the printed text.
use Rattle.std.specs.Prelude.{ℕ, ◌+◌, ◌*◌, ◌≤◌, ◌<◌, ◌≡◌, false, List, [], ◌∷◌, ◌++◌, length}
use Rattle.answers.specs.Written.{room_refusal}
use Rattle.transfer.specs.Transfer.{World}
use Rattle.nights.specs.Reading.{joined}
use Rattle.nights.specs.Night.{transferring, after, so_far, printed}
use Rattle.recordings.specs.Kept.{world_in, first_session, Kept, kept, replay_state_of, feed, feed_refusal, finish_text}

-- each chunk meets what the last one left: all texts that are handed back, one after the other, and what is kept at the end
unfoldable pub feeds : Kept → List (List ℕ) → List ℕ × Kept
feeds k [] = ([], k)
feeds k (c ∷ cs) =
    let a = feed k c in
    let r = feeds a.1 cs in
    (a.0 ++ r.0, r.1)

-- nothing has been read
pub record Begun (k : Kept) : Type 0 where
  pub first : k.session.progress.number ≡ 0
  pub no_start : k.session.progress.started ≡ false
  pub none_held : k.session.held ≡ 0
  pub reads_on : k.session.stopped ≡ false

-- no number is above 2^64 - 1
abbrev pub Counted : List ℕ → Type 0
Counted bytes = (after bytes).left.number ≤ 18446744073709551615

pub record Chunks : Type 0 where
  -- what `begin` gives has read nothing, whatever is lent with it
  pub begins : (held file claimed doubtful : List ℕ) → Begun (kept first_session held file claimed doubtful)
  -- the numbers of every recording of fewer than 6 * 2^64 bytes are counted
  pub counted : (bytes : List ℕ) → length bytes < 110680464442257309696 → Counted bytes
  -- after every chunk, the text of the records that are whole so far
  pub after_chunk : (k : Kept) (cs : List (List ℕ)) → Begun k → Counted (joined cs) → (feeds k cs).0 ≡ so_far (joined cs)
  -- with what the end of the input adds, the text of the recording
  pub at_end : (k : Kept) (cs : List (List ℕ)) → Begun k → Counted (joined cs) → (feeds k cs).0 ++ finish_text (feeds k cs).1.session ≡ printed (joined cs)
  -- the transfer, file and ledgers that are kept are the definition's
  pub kept_is : (k : Kept) (cs : List (List ℕ)) (w : World) → Begun k → Counted (joined cs) → (after (joined cs)).left.running ≡ transferring w
      → world_in (replay_state_of (feeds k cs).1) ≡ w
  -- nothing more is read exactly where the definition has stopped
  pub stops_is : (k : Kept) (cs : List (List ℕ)) → Begun k → Counted (joined cs) → (feeds k cs).1.session.stopped ≡ (after (joined cs)).stopped
  -- what is held between chunks is shorter than the longest record that can be well-formed
  pub held_few : (k : Kept) (cs : List (List ℕ)) → Begun k → (feeds k cs).1.session.held < 4 + 16387
  -- a further chunk is refused only where fewer bytes are lent than 192 and 16 for each of its own
  pub refused_by : (k : Kept) (cs : List (List ℕ)) (chunk out : List ℕ) → Begun k → feed_refusal (feeds k cs).1 chunk out ≡ room_refusal (192 + 16 * length chunk) out
