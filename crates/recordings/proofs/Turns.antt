-- Turns: what the screen writes, what fits, and what a start and a piece lead to.
use Prim.Native.Nat.{ℕ, suc, min, ◌+◌, ◌*◌, ◌-◌, ◌/◌, ◌≤◌, ◌<◌}
use mathlib.Core.Path.{◌≡◌, refl, sym, ap, ◌∙◌, subst}
use mathlib.Core.Bool.{Bool, true, cond}
use mathlib.Core.List.{List, [], ◌∷◌, ◌++◌}
use native.Mathlib.Omega.{arith}
use native.Mathlib.Decide.{dec_lt}
use native.Mathlib.Nat.{zero-add}
use Rattle.std.specs.Prelude.{Option, Some, None, Result, Ok, Err}
use lib.ListN.{length, take, drop, replicate, length-replicate}
use Rattle.octets.specs.Decimal.{decimal}
use Rattle.std.specs.Result.{result_unwrap_or}
use Rattle.answers.specs.Refusal.{numbered}
use Rattle.answers.specs.declared.refusal.Refusal.{Refusal}
use Rattle.answers.specs.Written.{Written, written_bytes}
use borrow.Author.Tests.{lt-ltb, le-ltb}
use lib.Dec.{ltb}
use Rattle.ledger.specs.Pairs.{none}
use Rattle.ledger.specs.Ledger.{largest}
use Rattle.transfer.specs.declared.state.Transfer.{Transfer}
use Rattle.transfer.specs.Transfer.{World, world, is_doubted, verdict_of, stored_of, doubt_of, fresh, start_of, start_after}
use Rattle.transfer.specs.Receive.{Outcome, continues, stops, not_taken, Answer, refused, took, take_bytes, take_byte, refusal_of, receive_of}
use Rattle.transfer.specs.Fit.{fits_without_file, fits}
use Rattle.transfer.specs.Fitting.{Fit}
use Rattle.transfer.specs.Calls.{receive, call_of, fold_calls, started_world}
use Rattle.transfer.specs.Start.{Leaves}
use Rattle.transfer.proofs.FitTests.{fits-together, together-ledger}
use Rattle.transfer.proofs.Fitting.{fitting}
use Rattle.transfer.proofs.ReceivePieces.{bytes-none, bytes-goes, bytes-stops, bytes-leaves}
use Rattle.transfer.proofs.Start.{start}
use Rattle.transfer.proofs.AfterList.{every_list}
use Rattle.receiver.specs.declared.receive.Receiver.{Receiver}
use Rattle.receiver.specs.Answers.{to_answer}
use Rattle.receiver.proofs.Refusal.{is-refused, is-taken, not-refused}
use Rattle.screen.specs.Screen.{line_feed, line_of, line_for, screen_of, screen_after}
use Rattle.screen.proofs.ScreenRows.{screen-rows}
use Rattle.frames.specs.Frame.{body_of}
use Rattle.recordings.specs.declared.request.Asked.{Asked}
use Rattle.recordings.specs.declared.turn.Turned.{Turned}
use Rattle.recordings.specs.declared.request.Asked.TheVariants.{Start, Piece}
use Rattle.nights.specs.Request.{starts, piece, malformed, request_of}
use Rattle.recordings.specs.Asked.{asks}
use Rattle.nights.specs.Lines.{refused_word, left_line, piece_text}
use Rattle.nights.specs.Reading.{Turn, prints, stops as unread}
use Rattle.nights.specs.Night.{started_night}
use Rattle.recordings.specs.Kept.{WritesFront, ReplayState, replay_state, world_in, next_number, put_world, library_answer, library_turn}
use Rattle.recordings.specs.Steps.{WritesText, Leads}
use Rattle.recordings.proofs.Lines.{refused-words, length-number_line, decimal-short}
use Rattle.nights.proofs.Requests.{piece-within}
use Rattle.recordings.proofs.Fronts.{take_same}

-- ---- the screen line

-- it looks at no file
pub line-world : (w : World) → line_of w ≡ line_for w.t w.lent.claimed w.lent.doubtful
unfolding line_of verdict_of is_doubted stored_of doubt_of
line-world w = refl

-- of what fits it is written, and has no more than 80 bytes
pub screen-written : (t : Transfer) (claimed doubtful out after : List ℕ) (answer : Written) → t.len < 18446744073709551616 → fits_without_file t claimed doubtful ≡ true → 80 ≤ length out
    → (answer ≡ screen_of t claimed doubtful out) × (after ≡ screen_after t claimed doubtful out)
    → (length (line_for t claimed doubtful) ≤ 80) × WritesFront (line_for t claimed doubtful) out (written_bytes answer) after
screen-written t claimed doubtful out after answer s f h w =
    let m = screen-rows.longest t claimed doubtful (omega arith) f in
    let r = screen-rows.row_written t claimed doubtful out f (omega (arith, m)) in
    (m, (ap written_bytes w.0 ∙ r.bytes, w.1 ∙ r.after_is))

-- nothing where it was refused
pub written-or : (r : Result ℕ Refusal) → result_unwrap_or r 0 ≡ written_bytes (numbered r)
unfolding written_bytes
written-or (Ok n) = refl
written-or (Err k) = refl

-- ---- what fits

abbrev pub FitsWithoutFile : World → Type 0
FitsWithoutFile w = fits_without_file w.t w.lent.claimed w.lent.doubtful ≡ true

pub fits-without : (w : World) → fits w ≡ true → FitsWithoutFile w
fits-without w f = together-ledger w (fits-together w f)

-- ---- a start

-- with ledgers of R pairs
start-leaves : (F R : ℕ) (l m : List ℕ) → R ≤ 256 → length l ≡ 2 * R → length m ≡ 2 * R → Leaves F l m 0 (fresh F R) (replicate (2 * R) 0) (replicate (2 * R) 0)
start-leaves F R l m h a b =
    let r : length l / 2 ≡ R = omega arith in
    rw (r, a, b) at (start.accepted F l m (omega arith) (omega arith) (b ∙ sym a))

-- where it left these of two such ledgers
pub started-is : (F R : ℕ) (t : Transfer) (file l m l' m' : List ℕ) → R ≤ 256 → length l ≡ 2 * R → length m ≡ 2 * R
    → t ≡ start_of F l m → file ≡ replicate F 0 → l' ≡ start_after l m l → m' ≡ start_after l m m → world t file l' m' ≡ started_night F R
unfolding started_night started_world
started-is F R t file l m l' m' h a b e₀ e₁ e₂ e₃ =
    let z : List ℕ = replicate (2 * R) 0 in
    let n : length z ≡ 2 * R = length-replicate (2 * R) 0 in
    let f : length (replicate {A = ℕ} F 0) ≡ F = length-replicate F 0 in
    let s = start-leaves F R l m h a b in
    let r = start-leaves F R z z h n n in
    rw (e₀, e₁, e₂, e₃, f, s.1, s.2, s.3, r.1, r.2)

pub started-fits : (F R : ℕ) → R ≤ 256 → FitsWithoutFile (started_night F R)
unfolding started_night fold_calls
started-fits F R h =
    let f : List ℕ = replicate F 0 in
    let z : List ℕ = replicate (2 * R) 0 in
    let n : length z ≡ 2 * R = length-replicate (2 * R) 0 in
    let w = started_world f z z in
    fits-without w (every_list.after_list w f (length z / 2) none (every_list.begins f z z (omega (arith, n)) (omega (arith, n)) refl) []).fits_still

-- ---- a call

-- no more bytes than these
abbrev TookAtMost : ℕ → Answer → Type 0
TookAtMost m (refused k) = ⊥
TookAtMost m (took n) = n ≤ m

took-few : {W : Type 0} (f : W → ℕ → Outcome W) (bytes : List ℕ) (w : W) (k : ℕ) → TookAtMost (k + length bytes) (take_bytes f w bytes k).0
took-few f [] w k = rw (bytes-none f w k) (omega arith)
took-few {W} f (b ∷ bs) w k = go (f w b) refl (λ v. took-few f bs v (suc k))
  where
    go : (t : Outcome W) → f w b ≡ t → ((v : W) → TookAtMost (suc k + length bs) (take_bytes f v bs (suc k)).0) → TookAtMost (k + suc (length bs)) (take_bytes f w (b ∷ bs) k).0
    go (continues v) e i =
        let s : k + suc (length bs) ≡ suc k + length bs = omega arith in
        rw (bytes-goes f w v b bs k e, s) (i v)
    go (stops v) e i = rw (bytes-stops f w v b bs k e) (omega arith)
    go (not_taken v) e i = rw (bytes-leaves f w v b bs k e) (omega arith)

-- one that is not refused leaves a world that fits, and has taken no more bytes than there are
pub call-took : (w v : World) (c n : ℕ) (bytes : List ℕ) (answer : Written) → answer ≡ Ok n → (to_answer answer, v) ≡ receive_of w c bytes → FitsWithoutFile v × (n ≤ length bytes)
call-took w v c n bytes answer a e = (fits-without v fit, few)
  where
    taken : receive_of w c bytes ≡ (took n, v)
    taken = sym e ∙ rw a

    accepted : refusal_of w c bytes ≡ 0
    accepted = go (dec_lt 0 (refusal_of w c bytes))
      where
        go : Dec (0 < refusal_of w c bytes) → refusal_of w c bytes ≡ 0
        go (yes h) =
            let r : refused (refusal_of w c bytes) ≡ took n = ap (λ x. x.0) (is-refused w c bytes (refusal_of w c bytes) refl h ∙ taken) in
            let z : ◌≡◌ {A = ℕ} 0 1 = cc in absurd (omega arith)
        go (no h) = omega arith

    fit : fits v ≡ true
    fit =
        let k : Fit (receive_of w c bytes).1 = unfold call_of in fitting.call_keeps w (receive c bytes) ((fitting.says w).0 (not-refused w c bytes accepted).0) in
        (fitting.says v).1 (rw taken at k)

    few : n ≤ length bytes
    few =
        let go : Answer × World = take_bytes (λ u b. take_byte u c b) w bytes 0 in
        let m : 0 + length bytes ≡ length bytes = zero-add (length bytes) in
        let t : TookAtMost (length bytes) go.0 = rw m at (took-few (λ u b. take_byte u c b) bytes w 0) in
        rw (is-taken w c bytes accepted ∙ taken) at t

-- ---- the state

-- the number after a record's
pub number-after : (k : ℕ) → k < 18446744073709551616 → min (k + 1) (18446744073709551616 - 1) ≡ next_number k
unfolding next_number
number-after k h = go (dec_lt k largest)
  where
    go : Dec (k < largest) → min (k + 1) (18446744073709551616 - 1) ≡ cond (ltb k largest) (suc k) k
    go (yes l) = rw (lt-ltb k largest l) (omega arith)
    go (no l) = rw (le-ltb k largest (omega arith)) (omega arith)

-- with a world whose file and ledgers came back from the fronts that were lent
pub state-world : (d : ReplayState) (r : Receiver) (k a b : ℕ) (file claimed doubtful : List ℕ) → k ≡ next_number d.progress.number → length file ≡ a → length claimed ≡ b → length doubtful ≡ b
    → replay_state (record { receiver = r; number = k; started = true }) (file ++ drop a d.file) (claimed ++ drop b d.claimed) (doubtful ++ drop b d.doubtful)
    ≡ put_world d (world r.transfer file claimed doubtful)
unfolding put_world
state-world d r k a b file claimed doubtful e f g h = rw (e, f, g, h)

pub start-leads : (d : ReplayState) (t : Turned) (w : World) (F R : ℕ) (out file claimed doubtful after : List ℕ) → w ≡ started_night F R
    → replay_state t.progress file claimed doubtful ≡ put_world d w
    → (length (line_for w.t w.lent.claimed w.lent.doubtful) ≤ 80) × WritesFront (line_for w.t w.lent.claimed w.lent.doubtful) out t.written after
    → Leads (library_turn d (starts F R)) d out (Some t) file claimed doubtful after
unfolding library_turn
start-leads d t w F R out file claimed doubtful after s i l =
    subst (λ v. Leads (prints (line_of v) (put_world d v)) d out (Some t) file claimed doubtful after) s (i, rw (line-world w) (omega (arith, l.0), l.1))

-- ---- a piece

-- the world that is lent: all that the transfer is for, where there is as much
pub world-lent : (d : ReplayState) (a b : ℕ) → let t = d.progress.receiver.transfer in
    a ≡ min t.len 32768 → b ≡ min t.pairs 256 → length d.file ≡ 32768 → length d.claimed ≡ 512 → length d.doubtful ≡ 512
    → world t (take a d.file) (take (2 * b) d.claimed) (take (2 * b) d.doubtful) ≡ world_in d
world-lent d a b e f i g h =
    let t = d.progress.receiver.transfer in
    rw (take_same a t.len d.file (omega arith), take_same (2 * b) (2 * t.pairs) d.claimed (omega arith), take_same (2 * b) (2 * t.pairs) d.doubtful (omega arith))

module _ (answer : Written) (w : World) (k n m : ℕ) (out after : List ℕ) where
  pub text-refused : answer ≡ Err k → k < 256 → WritesFront ((82 ∷ 69 ∷ 70 ∷ 85 ∷ 83 ∷ 69 ∷ 68 ∷ 32 ∷ []) ++ decimal k ++ line_feed) out m after
      → WritesText (piece_text (to_answer answer) w n) out m after
  unfolding piece_text
  text-refused a h l = rw (a, ← refused-words k) (omega (arith, ap length (refused-words k), length-number_line refused_word k, decimal-short k (omega arith)), l)

  pub text-taken : answer ≡ Ok k → WritesText (left_line (n - k) ++ line_for w.t w.lent.claimed w.lent.doubtful) out m after
      → WritesText (piece_text (to_answer answer) w n) out m after
  unfolding piece_text
  text-taken a l = rw (a, line-world w) l

pub piece-leads : (d : ReplayState) (t : Turned) (w : World) (answer : Written) (c : ℕ) (bytes out file claimed doubtful after : List ℕ)
    → (to_answer answer, w) ≡ receive_of (world_in d) c bytes → replay_state t.progress file claimed doubtful ≡ put_world d w
    → WritesText (piece_text (to_answer answer) w (length bytes)) out t.written after
    → Leads (library_answer d (length bytes) (receive_of (world_in d) c bytes)) d out (Some t) file claimed doubtful after
unfolding library_answer
piece-leads d t w answer c bytes out file claimed doubtful after r i l =
    subst (λ a. Leads (library_answer d (length bytes) a) d out (Some t) file claimed doubtful after) r (i, l)

-- ---- a record, by what the code answers of it

module _ (a : Option Asked) (bytes : List ℕ) (e : asks a bytes ≡ request_of bytes) where
  pub asked-start : (F R : ℕ) → a ≡ Some (Start F R) → request_of bytes ≡ starts F R
  asked-start F R h = sym e ∙ rw h

  pub asked-piece : (c : ℕ) → a ≡ Some (Piece c) → (7 ≤ length bytes) × (length (drop 7 bytes) ≤ 16384) × (request_of bytes ≡ piece c (drop 7 bytes))
  asked-piece c h =
      let q : request_of bytes ≡ piece c (drop 1 (body_of bytes)) = sym e ∙ rw h in
      let w = piece-within bytes c (drop 1 (body_of bytes)) q in
      (w.0, rw w.2 at w.1, q ∙ ap (piece c) w.2)

  pub asked-malformed : a ≡ None → request_of bytes ≡ malformed
  asked-malformed h = sym e ∙ rw h

-- ---- the turn that it leads to

module _ (d : ReplayState) where
  pub turn-piece : (c : ℕ) (p : List ℕ) (b : Bool) → d.progress.started ≡ b → library_turn d (piece c p) ≡ cond b (library_answer d (length p) (receive_of (world_in d) c p)) unread
  unfolding library_turn
  turn-piece c p b s = ap (λ x. cond x (library_answer d (length p) (receive_of (world_in d) c p)) unread) s

  pub turn-malformed : library_turn d malformed ≡ unread
  unfolding library_turn
  turn-malformed = refl

  pub leads-as : (t u : Turn ReplayState) (r : Option Turned) (out file claimed doubtful after : List ℕ) → t ≡ u
      → Leads u d out r file claimed doubtful after → Leads t d out r file claimed doubtful after
  leads-as t u r out file claimed doubtful after q l = rw q l
