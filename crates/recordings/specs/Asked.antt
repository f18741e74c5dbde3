-- What the code says that a record asks for. Of a piece it says the channel only: the bytes are still in the record.
use Rattle.std.specs.Prelude.{ℕ, Option, Some, None, List, drop}
use Rattle.frames.specs.Frame.{body_of}
use Rattle.recordings.specs.declared.request.Asked.{Asked}
use Rattle.recordings.specs.declared.request.Asked.TheVariants.{Start, Piece}
use Rattle.nights.specs.Request.{Request, starts, piece, malformed}

-- of a body
abbrev pub asks_body : Option Asked → List ℕ → Request
asks_body (Some (Start F R)) body = starts F R
asks_body (Some (Piece c)) body = piece c (drop 1 body)
asks_body None body = malformed

-- of a record
abbrev pub asks : Option Asked → List ℕ → Request
asks a bytes = asks_body a (body_of bytes)
