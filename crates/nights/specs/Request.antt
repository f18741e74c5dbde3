-- What a record of a recording asks for (document 02, Item 4). A record is given whole, with its frame.
use Rattle.std.specs.Prelude.{ℕ, cond, ◌&&◌, List, [], ◌∷◌, leb, ltb, eqb, length, take, drop}
use Rattle.octets.specs.Digits.{from_little_endian}
use Rattle.frames.specs.Frame.{frame_length, kind_of, body_of}

abbrev pub file_limit : ℕ
file_limit = 32768

abbrev pub pair_limit : ℕ
pair_limit = 256

abbrev pub piece_limit : ℕ
piece_limit = 16384

-- the most that the length field of a well-formed record says: kind, channel and the longest piece
abbrev pub record_limit : ℕ
record_limit = 16387

pub data Request : Type 0 where
  -- a transfer of so many file bytes and pairs
  starts : ℕ → ℕ → Request
  -- the bytes on a channel
  piece : ℕ → List ℕ → Request
  malformed : Request

-- ---- kind 16: file length and pair count, eight bytes each

abbrev pub start_length : ℕ
start_length = 16

unfoldable pub file_length_in : List ℕ → ℕ
file_length_in body = from_little_endian 256 (take 8 body)

unfoldable pub pairs_in : List ℕ → ℕ
pairs_in body = from_little_endian 256 (take 8 (drop 8 body))

unfoldable pub start_in : List ℕ → Request
start_in body =
    cond (eqb (length body) start_length && (leb (file_length_in body) file_limit && leb (pairs_in body) pair_limit)) (starts (file_length_in body) (pairs_in body)) malformed

-- ---- kind 17: one channel byte, then the bytes

unfoldable pub piece_in : List ℕ → Request
piece_in [] = malformed
piece_in (c ∷ bytes) = cond (leb (length bytes) piece_limit) (piece c bytes) malformed

-- ---- a record

-- of any other kind it is malformed, and so is one too short for a kind
unfoldable pub request_of : List ℕ → Request
request_of bytes =
    cond (ltb (length bytes) frame_length) malformed
    (cond (eqb (kind_of bytes) 16) (start_in (body_of bytes))
    (cond (eqb (kind_of bytes) 17) (piece_in (body_of bytes)) malformed))
