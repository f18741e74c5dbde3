-- What the requests of the code mean.
use Rattle.std.specs.Prelude.{Result, Ok, Err}
use Rattle.answers.specs.Refusal.{number}
use Rattle.answers.specs.declared.refusal.Refusal.{Refusal}
use Rattle.transfer.specs.Header.{HeaderRequest, counts, claims, nothing, faulty}
use Rattle.headers.specs.declared.judge.Request.{Request}
use Rattle.headers.specs.declared.judge.Request.TheVariants.{Counts, Claims, Nothing}

abbrev pub to_header_request : Result Request Refusal → HeaderRequest
to_header_request (Ok (Counts n)) = counts n
to_header_request (Ok (Claims s e doubt)) = claims s e doubt
to_header_request (Ok Nothing) = nothing
to_header_request (Err r) = faulty (number r)
