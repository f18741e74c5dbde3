-- `apply::apply_header`.
use Prim.Native.Nat.{◌+◌}
use mathlib.Core.Path.{◌≡◌, sym, ap, ◌∙◌}
use borrow.Author.Rules.{rules}
use Rattle.std.specs.Prelude.{Result, Ok, Err}
use Rattle.answers.specs.Refusal.{number}
use Rattle.answers.specs.declared.refusal.Refusal.{Refusal}
use Rattle.transfer.specs.declared.state.Transfer.{Transfer}
use Rattle.transfer.specs.Channel.{put_count}
use Rattle.transfer.specs.Transfer.{used_of}
use Rattle.transfer.specs.Header.{request_of}
use Rattle.channels.specs.ChannelState.{write_back}
use Rattle.channels.specs.OtherChannels.{CountsOthers}
use Rattle.channels.proofs.WriteBack.{write-back-asked}
use Rattle.headers.specs.declared.judge.Request.{Request}
use Rattle.headers.specs.declared.judge.Request.TheVariants.{Counts, Claims, Nothing}
use Rattle.headers.specs.Request.{to_header_request}
use Rattle.headers.proofs.ApplyHeader.{range-asked, apply-fault, apply-count, apply-nothing, apply-claim}
use Rattle.headers.proofs.apply.apply_header.Goals as goal
use Rattle.headers.proofs.apply.apply_header.Goals.{After-judge_header}

-- the request that the code has, by the numbers that it has
asks : (c : After-judge_header) (q : Result Request Refusal) → c.judge_header.result ≡ q → let x = c.args in to_header_request q ≡ request_of x.o.len x.x.count (x.o.used + 1) x.head.now
asks c q e = ap to_header_request (sym e) ∙ c.judge_header.ensures

-- it is what the header asks for, in a transfer of which x is a channel
asks-for : (c : After-judge_header) (q : Result Request Refusal) → c.judge_header.result ≡ q → (t : Transfer) → let x = c.args in CountsOthers t x.c x.o → x.x.state ≡ 1
    → to_header_request q ≡ request_of (write_back t x.c x.x).len (write_back t x.c x.x).count (used_of (write_back t x.c x.x)) x.head.now
asks-for c q e t a i = let x = c.args in asks c q e ∙ write-back-asked t x.c x.o a x.x x.head.now i

pub claim_or_fault-requires : goal.claim_or_fault-requires
claim_or_fault-requires c =
    let x = c.args in
    let q = c.in-Ok-Claims in
    let is : c.judge_header.result ≡ Ok (Claims q.start q.end q.doubt) = search rules in
    (range-asked x.o.len x.x.count (x.o.used + 1) x.head.now q.start q.end q.doubt (asks (goal.at.claim_or_fault-requires c).After-judge_header (Ok (Claims q.start q.end q.doubt)) is)).0

pub returns-in-Err : goal.returns-in-Err
returns-in-Err c i o t file a n f =
    let x = c.args in
    let k = c.in-Err.fault in
    c.faulty.ensures t file x.claimed.now x.doubtful.now a.has
    ∙ apply-fault (write_back t x.c x.x) file x.claimed.now x.doubtful.now x.c x.head.now (number k) (asks-for (goal.at.returns-in-Err c).After-judge_header (Err k) c.in-Err.is t a i)

pub returns-in-Ok-Counts : goal.returns-in-Ok-Counts
unfolding put_count write_back
returns-in-Ok-Counts c i o t file a n f =
    let x = c.args in
    let m = c.in-Ok-Counts.count in
    let is : c.judge_header.result ≡ Ok (Counts m) = search rules in
    apply-count (write_back t x.c x.x) file x.claimed.now x.doubtful.now x.c x.head.now _ _ c.has-last.ensures m (asks-for (goal.at.returns-in-Ok-Counts c).After-judge_header (Ok (Counts m)) is t a i)
    (c.expect_payload.ensures t x.c file x.claimed.now x.doubtful.now a.has)

pub returns-in-Ok-Nothing : goal.returns-in-Ok-Nothing
returns-in-Ok-Nothing c i o t file a n f =
    let x = c.args in
    let is : c.judge_header.result ≡ Ok Nothing = search rules in
    apply-nothing (write_back t x.c x.x) file x.claimed.now x.doubtful.now x.c x.head.now _ _ c.has-last.ensures (asks-for (goal.at.returns-in-Ok-Nothing c).After-judge_header (Ok Nothing) is t a i)
    (c.expect_payload-in-Ok-Nothing.ensures t x.c file x.claimed.now x.doubtful.now a.has)

pub returns-in-Ok-Claims : goal.returns-in-Ok-Claims
returns-in-Ok-Claims c i o t file a n f =
    let x = c.args in
    let q = c.in-Ok-Claims in
    let is : c.judge_header.result ≡ Ok (Claims q.start q.end q.doubt) = search rules in
    apply-claim (write_back t x.c x.x) file x.claimed.now x.doubtful.now x.c x.head.now _ _ c.has-last.ensures q.start q.end q.doubt (asks-for (goal.at.returns-in-Ok-Claims c).After-judge_header (Ok (Claims q.start q.end q.doubt)) is t a i)
    (c.claim_or_fault.ensures o t file a.has n f)
