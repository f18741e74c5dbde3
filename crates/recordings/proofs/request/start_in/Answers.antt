-- `request::start_in`.
use mathlib.Core.Path.{◌≡◌, sym, ◌∙◌}
use native.Mathlib.Omega.{arith}
use Rattle.nights.specs.Request.{file_length_in, pairs_in}
use Rattle.nights.proofs.Requests.{file_length-read, pairs-read, start_in-length, start_in-file, start_in-pairs, start_in-right}
use Rattle.recordings.proofs.request.start_in.Goals as goal
use Rattle.recordings.proofs.request.start_in.Goals.{After-read-len, After-read-pairs}

-- what the two calls read
file_is : (c : After-read-len) → c.read-len.result ≡ file_length_in c.args.body.now
file_is c = c.read-len.ensures ∙ file_length-read c.args.body.now

pairs-are : (c : After-read-pairs) → c.read-pairs.result ≡ pairs_in c.args.body.now
pairs-are c = c.read-pairs.ensures ∙ pairs-read c.args.body.now

pub returns-then-body-ne-START_LENGTH : goal.returns-then-body-ne-START_LENGTH
returns-then-body-ne-START_LENGTH c = sym (start_in-length c.args.body.now c.if-body-ne-START_LENGTH.true)

pub returns-then-len-gt-FILE_LIMIT : goal.returns-then-len-gt-FILE_LIMIT
returns-then-len-gt-FILE_LIMIT c =
    sym (start_in-file c.args.body.now (omega (arith, c.if-len-gt-FILE_LIMIT.true, file_is (goal.at.returns-then-len-gt-FILE_LIMIT c).After-read-len)))

pub returns-then-pairs-gt-PAIR_LIMIT : goal.returns-then-pairs-gt-PAIR_LIMIT
returns-then-pairs-gt-PAIR_LIMIT c =
    sym (start_in-pairs c.args.body.now (omega (arith, c.if-pairs-gt-PAIR_LIMIT.true, pairs-are (goal.at.returns-then-pairs-gt-PAIR_LIMIT c).After-read-pairs)))

pub returns : goal.returns
returns c =
    rw (file_is (goal.at.returns c).After-read-len, pairs-are (goal.at.returns c).After-read-pairs)
    (sym (start_in-right c.args.body.now c.if-body-ne-START_LENGTH.false (omega (arith, c.if-len-gt-FILE_LIMIT.false, file_is (goal.at.returns c).After-read-len)) (omega (arith, c.if-pairs-gt-PAIR_LIMIT.false, pairs-are (goal.at.returns c).After-read-pairs))))
