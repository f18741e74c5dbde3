-- Where a walk over pairs stands.
use Rattle.std.specs.Prelude.{ℕ, cond, ltb}
use Rattle.ledger.specs.Pairs.{Pairs, none, pair}

-- the pairs from the first on that does not end below e
unfoldable pub reaching : ℕ → Pairs → Pairs
reaching e none = none
reaching e (pair a b ps) =
    let following = reaching e ps in
    cond (ltb b e) following (pair a b ps)
