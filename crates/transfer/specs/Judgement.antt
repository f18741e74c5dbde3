-- A header's judgement as propositions (document 01, "One transfer"; document 02, Item 3): a case for each fault and for each thing that an accepted header asks for,
-- with its exact condition in whole numbers. The conditions carry the order; every header has one case, and no other than the answer's.
use Rattle.std.specs.Prelude.{ℕ, ◌+◌, ◌≤◌, ◌<◌, max, ◌≡◌, ◌⊎◌, Bool, true, false, List, [], ◌∷◌, map}
use Rattle.ledger.specs.Pairs.{Pairs, none, pair, size, in_range, contains, ObeyFrom}
use Rattle.eblock.specs.Descriptor.{fault_of}
use Rattle.eblock.specs.Header.{descriptor_of, second_of, third_of}
use Rattle.transfer.specs.Header.{is_eodc, ends_channel, is_doubtful, payload_length, HeaderRequest, counts, claims, nothing, faulty, request_of, claim_fault}

-- by the transfer alone: F bytes of file, the known count or 0, and the channels used
pub data HeaderAsks (F known used : ℕ) (h : List ℕ) : HeaderRequest → Type 0 where
  -- 11, 12, 13
  by_descriptor : 0 < fault_of (descriptor_of h) → HeaderAsks F known used h (faulty (fault_of (descriptor_of h)))
  -- a second count
  by_14 : fault_of (descriptor_of h) ≡ 0 → is_eodc h ≡ true → 0 < known → HeaderAsks F known used h (faulty 14)
  -- a count that is 0, above 64, or less than the channels used
  by_15 : fault_of (descriptor_of h) ≡ 0 → is_eodc h ≡ true → known ≡ 0 → ((third_of h ≡ 0) ⊎ ((64 < third_of h) ⊎ (third_of h < used))) → HeaderAsks F known used h (faulty 15)
  for_count : fault_of (descriptor_of h) ≡ 0 → is_eodc h ≡ true → known ≡ 0 → 0 < third_of h → third_of h ≤ 64 → used ≤ third_of h
      → HeaderAsks F known used h (counts (third_of h))
  -- an empty payload, wherever it lies
  for_nothing : fault_of (descriptor_of h) ≡ 0 → is_eodc h ≡ false → second_of h ≡ 0 → HeaderAsks F known used h nothing
  -- a payload that ends past F
  by_16 : fault_of (descriptor_of h) ≡ 0 → is_eodc h ≡ false → 0 < second_of h → F < third_of h + second_of h → HeaderAsks F known used h (faulty 16)
  for_claim : fault_of (descriptor_of h) ≡ 0 → is_eodc h ≡ false → 0 < second_of h → third_of h + second_of h ≤ F
      → HeaderAsks F known used h (claims (third_of h) (third_of h + second_of h) (is_doubtful h))

-- m is the one list of pairs by the ledger rule that holds the places of ps and those from s up to e
pub record Union (s e : ℕ) (ps m : Pairs) : Type 0 where
  pub ruled : ObeyFrom 0 m
  pub places : (p : ℕ) → contains p m ≡ max (in_range s e p) (contains p ps)

-- a ledger of R pairs, of which ps are used, with the range: it would need more, or they are enough
abbrev pub Lacks : ℕ → ℕ → ℕ → Pairs → Type 0
Lacks R s e ps = (m : Pairs) × Union s e ps m × (R < size m)

abbrev pub Suffices : ℕ → ℕ → ℕ → Pairs → Type 0
Suffices R s e ps = (m : Pairs) × Union s e ps m × (size m ≤ R)

-- no place of the range is claimed
abbrev pub Unclaimed : ℕ → ℕ → Pairs → Type 0
Unclaimed s e ps = (p : ℕ) → s ≤ p → p < e → contains p ps ≡ 0

-- by the ledgers, each of R pairs: ps are claimed, ds are doubtful, and so is the range or not
pub data ClaimJudged (R : ℕ) (ps ds : Pairs) (s e : ℕ) (doubt : Bool) : ℕ → Type 0 where
  -- a place of the range is claimed, whatever the pairs that are lacking
  by_17 : (p : ℕ) → s ≤ p → p < e → contains p ps ≡ 1 → ClaimJudged R ps ds s e doubt 17
  -- none is, and a ledger has too few pairs: the claimed one or, for a doubtful range, the doubtful one
  by_18 : Unclaimed s e ps → Lacks R s e ps ⊎ ((doubt ≡ true) × Lacks R s e ds) → ClaimJudged R ps ds s e doubt 18
  -- none is, and R pairs are enough, in both ledgers for a doubtful range
  is_claimed : Unclaimed s e ps → Suffices R s e ps → (doubt ≡ true → Suffices R s e ds) → ClaimJudged R ps ds s e doubt 0

-- the accepted descriptors
abbrev pub accepted_descriptors : List ℕ
accepted_descriptors = 0 ∷ 8 ∷ 12 ∷ 32 ∷ 40 ∷ 44 ∷ 64 ∷ 72 ∷ 76 ∷ []

pub record Judgement : Type 0 where
  pub asked_is : (F known used : ℕ) (h : List ℕ) → HeaderAsks F known used h (request_of F known used h)
  pub asked_only : (F known used : ℕ) (h : List ℕ) (a : HeaderRequest) → HeaderAsks F known used h a → a ≡ request_of F known used h
  pub claim_is : (R : ℕ) (ps ds : Pairs) (s e : ℕ) (doubt : Bool) → s < e → ObeyFrom 0 ps → ObeyFrom 0 ds → ClaimJudged R ps ds s e doubt (claim_fault R ps ds s e doubt)
  pub claim_only : (R : ℕ) (ps ds : Pairs) (s e : ℕ) (doubt : Bool) (k : ℕ) → s < e → ObeyFrom 0 ps → ObeyFrom 0 ds → ClaimJudged R ps ds s e doubt k
      → k ≡ claim_fault R ps ds s e doubt
  -- 17 where both are due: one pair, bytes 0 to 9 claimed and byte 0 doubtful, byte 5 asked for with bit 32
  pub both_due : (claim_fault 1 (pair 0 10 none) (pair 0 1 none) 5 6 true ≡ 17) × Lacks 1 5 6 (pair 0 1 none)
  -- 18 by the doubtful ledger alone, and no fault of the same range without bit 32: bytes 0 and 1 claimed, byte 0 doubtful, byte 2 asked for
  pub doubtful_lacks : (claim_fault 1 (pair 0 2 none) (pair 0 1 none) 2 3 true ≡ 18) × (claim_fault 1 (pair 0 2 none) (pair 0 1 none) 2 3 false ≡ 0)
  -- of the nine accepted descriptors, those that end their channel, those that give a count, and those whose payload is doubtful
  pub ends_by_descriptor : (r : List ℕ) → map (λ d. ends_channel (d ∷ r)) accepted_descriptors ≡ false ∷ true ∷ true ∷ false ∷ true ∷ true ∷ false ∷ true ∷ true ∷ []
  pub eodc_by_descriptor : (r : List ℕ) → map (λ d. is_eodc (d ∷ r)) accepted_descriptors ≡ false ∷ false ∷ false ∷ false ∷ false ∷ false ∷ true ∷ true ∷ true ∷ []
  pub doubtful_by_descriptor : (r : List ℕ) → map (λ d. is_doubtful (d ∷ r)) accepted_descriptors ≡ false ∷ false ∷ false ∷ true ∷ true ∷ true ∷ false ∷ false ∷ false ∷ []
  -- how many payload bytes follow: none after a count, else as many as the second field says
  pub eodc_length : (h : List ℕ) → is_eodc h ≡ true → payload_length h ≡ 0
  pub data_length : (h : List ℕ) → is_eodc h ≡ false → payload_length h ≡ second_of h
