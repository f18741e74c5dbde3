-- A channel's bytes cut into blocks (document 01, "The tally"; document 02, Item 3).
use Rattle.std.specs.Prelude.{ℕ, zero, suc, ◌+◌, Bool, false, cond, ◌&&◌, ◌||◌, List, [], ◌∷◌, ◌++◌, leb, ltb, eqb, length, take, drop}
use Rattle.std.proofs.lemmas.List.Edits.{sets}
use Rattle.ledger.specs.Pairs.{Pairs, join}
use Rattle.eblock.specs.Header.{header_length, third_of}
use Rattle.transfer.specs.Transfer.{sum}
use Rattle.transfer.specs.Header.{is_eodc, ends_channel, is_doubtful, payload_length}

-- 17 header bytes, and the payload bytes that have come
pub record Block : Type 0 where
  pub head : List ℕ
  pub body : List ℕ

abbrev pub block : List ℕ → List ℕ → Block
block h p = record { head = h; body = p }

-- payload byte i, counted from 0, has the place offset + i
abbrev pub place_of : Block → ℕ
place_of x = third_of x.head

abbrev pub size_of : Block → ℕ
size_of x = payload_length x.head

unfoldable pub is_whole : Block → Bool
is_whole x = leb (size_of x) (length x.body)

-- the bytes of blocks, one after the other
unfoldable pub block_bytes : List Block → List ℕ
block_bytes [] = []
block_bytes (x ∷ xs) = x.head ++ (x.body ++ block_bytes xs)

-- ---- cutting

-- the blocks of a channel's bytes, the last perhaps not whole. The first argument bounds their number, and that of the bytes is enough.
unfoldable pub cut_by : ℕ → List ℕ → List Block
cut_by zero bs = []
cut_by (suc k) bs =
    let following = cut_by k (drop (payload_length (take header_length bs)) (drop header_length bs)) in
    cond (ltb (length bs) header_length) []
    (block (take header_length bs) (take (payload_length (take header_length bs)) (drop header_length bs)) ∷ following)

-- the header that is begun after them
unfoldable pub partial_header_by : ℕ → List ℕ → List ℕ
partial_header_by zero bs = bs
partial_header_by (suc k) bs =
    let following = partial_header_by k (drop (payload_length (take header_length bs)) (drop header_length bs)) in
    cond (ltb (length bs) header_length) bs following

abbrev pub cut : List ℕ → List Block
cut bs = cut_by (length bs) bs

abbrev pub partial_header : List ℕ → List ℕ
partial_header bs = partial_header_by (length bs) bs

-- ---- of a list of accepted blocks

-- the counts that they give
unfoldable pub counts_in : List Block → List ℕ
counts_in [] = []
counts_in (x ∷ xs) = cond (is_eodc x.head) (third_of x.head ∷ counts_in xs) (counts_in xs)

-- their claims joined to what was claimed before; an empty payload claims nothing
unfoldable pub add_claim : Block → Pairs → Pairs
add_claim x ps = cond (eqb (size_of x) 0) ps (join (place_of x) (place_of x + size_of x) ps)

unfoldable pub claims_in : List Block → Pairs → Pairs
claims_in [] ps = ps
claims_in (x ∷ xs) ps = add_claim x (claims_in xs ps)

-- those of them that have bit 32
unfoldable pub doubtful_in : List Block → List Block
doubtful_in [] = []
doubtful_in (x ∷ xs) = cond (is_doubtful x.head) (x ∷ doubtful_in xs) (doubtful_in xs)

-- a block with bit 8 that is whole ends its channel
unfoldable pub is_complete_end : Block → Bool
is_complete_end x = ends_channel x.head && is_whole x

unfoldable pub has_ended : List Block → Bool
has_ended [] = false
has_ended (x ∷ xs) = is_complete_end x || has_ended xs

-- their payload bytes put into a file, each at its place, and how many there are
unfoldable pub with_payloads : List Block → List ℕ → List ℕ
with_payloads [] file = file
with_payloads (x ∷ xs) file = sets (with_payloads xs file) (place_of x) x.body

abbrev pub bytes_in : List Block → ℕ
bytes_in xs = sum (λ (x : Block). length x.body) xs
