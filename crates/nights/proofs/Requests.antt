-- What a record asks for: by its kind and its body, and within which limits.
use Prim.Native.Nat.{ℕ, ◌-◌, ◌≤◌, ◌<◌}
use mathlib.Core.Path.{◌≡◌, refl}
use mathlib.Core.Bool.{and-false}
use mathlib.Core.List.{List, [], ◌∷◌}
use native.Mathlib.Omega.{arith}
use native.Mathlib.Decide.{ℕ_discrete, dec_le}
use borrow.Author.Tests.{lt-ltb, le-ltb, le-leb, lt-leb, ne_eqb}
use lib.Dec.{leb, eqb}
use lib.ListN.{length, get_or, take, drop, length-drop}
use lib.Seq.{take_all, take-take, drop-drop}
use Rattle.octets.specs.Digits.{from_little_endian}
use Rattle.frames.specs.Frame.{frame_length, kind_of, body_of}
use Rattle.nights.specs.Request.{Request, starts, piece, malformed, file_limit, pair_limit, piece_limit, start_length, file_length_in, pairs_in, start_in, piece_in, request_of}

-- ---- a start

-- its numbers as they are read, eight bytes at most
pub file_length-read : (body : List ℕ) → from_little_endian 256 (take 8 (take 8 body)) ≡ file_length_in body
unfolding file_length_in
file_length-read body = rw (take-take 8 8 body (omega arith))

pub pairs-read : (body : List ℕ) → from_little_endian 256 (take 8 (take 8 (drop 8 body))) ≡ pairs_in body
unfolding pairs_in
pairs-read body = rw (take-take 8 8 (drop 8 body) (omega arith))

module _ (body : List ℕ) where
  pub start_in-length : (length body ≡ start_length → ⊥) → start_in body ≡ malformed
  unfolding start_in
  start_in-length h = rw (ne_eqb (length body) start_length h)

  pub start_in-file : file_limit < file_length_in body → start_in body ≡ malformed
  unfolding start_in
  start_in-file h = rw (lt-leb (file_length_in body) file_limit h, and-false (eqb (length body) start_length))

  pub start_in-pairs : pair_limit < pairs_in body → start_in body ≡ malformed
  unfolding start_in
  start_in-pairs h =
      rw (lt-leb (pairs_in body) pair_limit h, and-false (leb (file_length_in body) file_limit), and-false (eqb (length body) start_length))

  pub start_in-right : length body ≡ start_length → file_length_in body ≤ file_limit → pairs_in body ≤ pair_limit → start_in body ≡ starts (file_length_in body) (pairs_in body)
  unfolding start_in
  start_in-right e f p = rw (e, le-leb (file_length_in body) file_limit f, le-leb (pairs_in body) pair_limit p)

-- ---- a piece

pub piece_in-none : (body : List ℕ) → length body ≡ 0 → piece_in body ≡ malformed
unfolding piece_in
piece_in-none [] e = refl
piece_in-none (c ∷ bytes) e = absurd (omega arith)

pub piece_in-long : (body : List ℕ) → piece_limit < length body - 1 → piece_in body ≡ malformed
unfolding piece_in
piece_in-long [] h = refl
piece_in-long (c ∷ bytes) h = rw (lt-leb (length bytes) piece_limit (omega arith))

pub piece_in-right : (body : List ℕ) → 0 < length body → length body - 1 ≤ piece_limit → piece_in body ≡ piece (get_or body 0 0) (drop 1 body)
unfolding piece_in
piece_in-right [] h l = absurd (omega arith)
piece_in-right (c ∷ bytes) h l = rw (le-leb (length bytes) piece_limit (omega arith))

-- ---- a record

-- all that is after the frame
pub body-part : (bytes : List ℕ) → take (length bytes - frame_length) (body_of bytes) ≡ body_of bytes
body-part bytes = take_all (length bytes - frame_length) (body_of bytes) (omega (arith, length-drop frame_length bytes))

module _ (bytes : List ℕ) where
  pub request-short : length bytes < frame_length → request_of bytes ≡ malformed
  unfolding request_of
  request-short h = rw (lt-ltb (length bytes) frame_length h)

  module _ (h : frame_length ≤ length bytes) where
    pub request-start : kind_of bytes ≡ 16 → request_of bytes ≡ start_in (body_of bytes)
    unfolding request_of
    request-start e = rw (le-ltb (length bytes) frame_length h, e)

    pub request-piece : kind_of bytes ≡ 17 → request_of bytes ≡ piece_in (body_of bytes)
    unfolding request_of
    request-piece e = rw (le-ltb (length bytes) frame_length h, e)

    pub request-other : (kind_of bytes ≡ 16 → ⊥) → (kind_of bytes ≡ 17 → ⊥) → request_of bytes ≡ malformed
    unfolding request_of
    request-other n m = rw (le-ltb (length bytes) frame_length h, ne_eqb (kind_of bytes) 16 n, ne_eqb (kind_of bytes) 17 m)

-- ---- within which limits

-- numbers and pieces are no larger than they may be
abbrev pub Within : Request → Type 0
Within (starts F R) = (F ≤ file_limit) × (R ≤ pair_limit)
Within (piece c p) = length p ≤ piece_limit
Within malformed = Unit {0}

-- a piece is all that is after frame and channel
abbrev IsRest : List ℕ → Request → Type 0
IsRest bytes (starts F R) = Unit {0}
IsRest bytes (piece c p) = (7 ≤ length bytes) × (p ≡ drop 7 bytes)
IsRest bytes malformed = Unit {0}

start-within : (bytes body : List ℕ) → Within (start_in body) × IsRest bytes (start_in body)
start-within bytes body = go (ℕ_discrete (length body) start_length) (dec_le (file_length_in body) file_limit) (dec_le (pairs_in body) pair_limit)
  where
    go : Dec (length body ≡ start_length) → Dec (file_length_in body ≤ file_limit) → Dec (pairs_in body ≤ pair_limit) → Within (start_in body) × IsRest bytes (start_in body)
    go (yes e) (yes f) (yes p) = rw (start_in-right body e f p) ((f, p), tt)
    go (no e) f p = rw (start_in-length body e) (tt, tt)
    go (yes e) (no f) p = rw (start_in-file body (omega arith)) (tt, tt)
    go (yes e) (yes f) (no p) = rw (start_in-pairs body (omega arith)) (tt, tt)

piece-bounds : (bytes : List ℕ) → frame_length ≤ length bytes → Within (piece_in (body_of bytes)) × IsRest bytes (piece_in (body_of bytes))
piece-bounds bytes h = go (dec_le (length body) 0) (dec_le (length body - 1) piece_limit)
  where
    body : List ℕ
    body = body_of bytes

    go : Dec (length body ≤ 0) → Dec (length body - 1 ≤ piece_limit) → Within (piece_in body) × IsRest bytes (piece_in body)
    go (yes e) l = rw (piece_in-none body (omega arith)) (tt, tt)
    go (no e) (yes l) = rw (piece_in-right body (omega arith) l) (omega (arith, length-drop 1 body), (omega (arith, length-drop 6 bytes), drop-drop 1 6 bytes))
    go (no e) (no l) = rw (piece_in-long body (omega arith)) (tt, tt)

request-bounds : (bytes : List ℕ) → Within (request_of bytes) × IsRest bytes (request_of bytes)
request-bounds bytes = go (dec_le frame_length (length bytes)) (ℕ_discrete (kind_of bytes) 16) (ℕ_discrete (kind_of bytes) 17)
  where
    go : Dec (frame_length ≤ length bytes) → Dec (kind_of bytes ≡ 16) → Dec (kind_of bytes ≡ 17) → Within (request_of bytes) × IsRest bytes (request_of bytes)
    go (no h) s p = rw (request-short bytes (omega arith)) (tt, tt)
    go (yes h) (yes s) p = rw (request-start bytes h s) (start-within bytes (body_of bytes))
    go (yes h) (no s) (yes p) = rw (request-piece bytes h p) (piece-bounds bytes h)
    go (yes h) (no s) (no p) = rw (request-other bytes h s p) (tt, tt)

pub request-within : (bytes : List ℕ) → Within (request_of bytes)
request-within bytes = (request-bounds bytes).0

pub starts-within : (bytes : List ℕ) (F R : ℕ) → request_of bytes ≡ starts F R → (F ≤ 32768) × (R ≤ 256)
starts-within bytes F R e = rw e at (request-within bytes)

pub piece-within : (bytes : List ℕ) (c : ℕ) (p : List ℕ) → request_of bytes ≡ piece c p → (7 ≤ length bytes) × (length p ≤ 16384) × (p ≡ drop 7 bytes)
piece-within bytes c p e =
    let l : Within (piece c p) = rw e at (request-within bytes) in
    let r : IsRest bytes (piece c p) = rw e at (request-bounds bytes).1 in
    (r.0, l, r.1)
