-- A header judged at its 17th byte (document 01, "One transfer"; document 02, Item 3), in two stages: by the transfer alone, then by the ledgers.
use Rattle.std.specs.Prelude.{ℕ, ◌+◌, Bool, cond, ◌&&◌, ◌||◌, List, ltb, eqb}
use Rattle.ledger.specs.Pairs.{Pairs, size, join, overlaps}
use Rattle.eblock.specs.Descriptor.{has, eodc, suspected, end_of_data, fault_of}
use Rattle.eblock.specs.Header.{count_limit, descriptor_of, second_of, third_of}

abbrev pub is_eodc : List ℕ → Bool
is_eodc h = has eodc (descriptor_of h)

-- the channel ends after this block
abbrev pub ends_channel : List ℕ → Bool
ends_channel h = has end_of_data (descriptor_of h)

-- the payload is doubtful: bit 32
abbrev pub is_doubtful : List ℕ → Bool
is_doubtful h = has suspected (descriptor_of h)

-- how many payload bytes follow
unfoldable pub payload_length : List ℕ → ℕ
payload_length h = cond (is_eodc h) 0 (second_of h)

-- what a header asks for: a count, a range to be claimed, doubtful or not, or neither; or the number of its fault
pub data HeaderRequest : Type 0 where
  counts : ℕ → HeaderRequest
  claims : ℕ → ℕ → Bool → HeaderRequest
  nothing : HeaderRequest
  faulty : ℕ → HeaderRequest

-- 11, 12, 13; for a count 14, then 15; for a payload 16. `known` is 0 where no count is known.
unfoldable pub request_of : ℕ → ℕ → ℕ → List ℕ → HeaderRequest
request_of F known used h =
    let n = third_of h in
    let offset = third_of h in
    let len = second_of h in
    cond (ltb 0 (fault_of (descriptor_of h))) (faulty (fault_of (descriptor_of h)))
    (cond (is_eodc h)
    (cond (ltb 0 known) (faulty 14) (cond (eqb n 0 || (ltb count_limit n || ltb n used)) (faulty 15) (counts n)))
    (cond (eqb len 0) nothing (cond (ltb F (offset + len)) (faulty 16) (claims offset (offset + len) (is_doubtful h)))))

-- with the range these pairs would be more than R
unfoldable pub lacks_pairs : ℕ → ℕ → ℕ → Pairs → Bool
lacks_pairs R s e ps = ltb R (size (join s e ps))

-- 17 where the range shares a byte with a claimed one, 18 where the claimed ledger or, for a doubtful range, the doubtful one would need more than
-- R pairs, 0 where it is claimed
unfoldable pub claim_fault : ℕ → Pairs → Pairs → ℕ → ℕ → Bool → ℕ
claim_fault R ps ds s e doubt = cond (overlaps s e ps) 17 (cond (lacks_pairs R s e ps || (doubt && lacks_pairs R s e ds)) 18 0)
