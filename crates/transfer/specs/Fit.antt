-- FIT (document 01's word; document 02, Item 3): whether transfer, file and ledgers belong together.
use Rattle.std.specs.Prelude.{ℕ, zero, suc, ◌+◌, ◌*◌, Bool, true, false, cond, ◌&&◌, ◌||◌, List, [], ◌∷◌, leb, ltb, eqb, length, take, drop}
use Rattle.ledger.specs.Pairs.{Pairs, inside, all_inside, ends_at_most}
use Rattle.ledger.specs.Ledger.{all_zero, obeys, pairs_of}
use Rattle.eblock.specs.Header.{count_limit}
use Rattle.transfer.specs.declared.state.Channel.{Channel}
use Rattle.transfer.specs.declared.state.Transfer.{Transfer}
use Rattle.transfer.specs.Channel.{channel_count, held_limit}
use Rattle.transfer.specs.Transfer.{World, used_of}

-- the most pairs of a ledger
abbrev pub pair_limit : ℕ
pair_limit = 4096

-- ---- one channel, with its 16 held bytes

-- nothing is in use
unfoldable pub empty_fits : Channel → List ℕ → Bool
empty_fits k held = eqb k.held 0 && (all_zero held && (eqb k.next 0 && eqb k.left 0))

-- a header holds at most 16 bytes; what it doesn't use is 0
unfoldable pub header_fits : Channel → List ℕ → Bool
header_fits k held = leb k.held held_limit && (all_zero (drop k.held held) && (eqb k.next 0 && eqb k.left 0))

-- a payload has a byte left or more, and these lie inside one claimed range; what it doesn't use is 0
unfoldable pub payload_fits : Pairs → Channel → List ℕ → Bool
payload_fits ps k held = eqb k.held 0 && (all_zero held && (ltb 0 k.left && inside k.next (k.next + k.left) ps))

unfoldable pub channel_fits : Pairs → ℕ → Channel → List ℕ → Bool
channel_fits ps zero k held = empty_fits k held
channel_fits ps (suc zero) k held = header_fits k held
channel_fits ps (suc (suc zero)) k held = payload_fits ps k held
channel_fits ps (suc (suc (suc zero))) k held = payload_fits ps k held
channel_fits ps (suc (suc (suc (suc zero)))) k held = empty_fits k held
channel_fits ps (suc (suc (suc (suc (suc s))))) k held = false

unfoldable pub channels_fit : Pairs → List Channel → List ℕ → Bool
channels_fit ps [] heads = true
channels_fit ps (k ∷ ks) heads = channel_fits ps k.state k (take held_limit heads) && channels_fit ps ks (drop held_limit heads)

-- ---- no two rests share a byte

unfoldable pub apart : Channel → Channel → Bool
apart j k = (eqb j.left 0 || eqb k.left 0) || (leb (j.next + j.left) k.next || leb (k.next + k.left) j.next)

unfoldable pub apart_from : Channel → List Channel → Bool
apart_from j [] = true
apart_from j (k ∷ ks) = apart j k && apart_from j ks

unfoldable pub rests_apart : List Channel → Bool
rests_apart [] = true
rests_apart (k ∷ ks) = apart_from k ks && rests_apart ks

-- ---- count and fault

unfoldable pub count_fits : Transfer → Bool
count_fits t = eqb t.count 0 || (leb t.count count_limit && leb (used_of t) t.count)

unfoldable pub fault_fits : Transfer → Bool
fault_fits t = cond (eqb t.fault 0) (eqb t.on 0) (leb 11 t.fault && (leb t.fault 19 && ltb t.on channel_count))

-- ---- the whole

-- the transfer and the claimed ledger
unfoldable pub claimed_fits : Transfer → List ℕ → Bool
claimed_fits t claimed =
    leb t.pairs pair_limit
    && (eqb (length claimed) (2 * t.pairs)
    && (obeys claimed
    && (ends_at_most t.len (pairs_of claimed)
    && (eqb (length t.channels) channel_count
    && (eqb (length t.heads) (held_limit * channel_count)
    && (channels_fit (pairs_of claimed) t.channels t.heads
    && (rests_apart t.channels
    && (count_fits t
    && fault_fits t))))))))

-- the doubtful ledger beside it: as long, by the ledger rule, and with no range that a claimed one does not enclose
unfoldable pub doubtful_fits : ℕ → List ℕ → List ℕ → Bool
doubtful_fits R claimed doubtful = eqb (length doubtful) (2 * R) && (obeys doubtful && all_inside (pairs_of doubtful) (pairs_of claimed))

-- all but the file's length: what the screen line tests
unfoldable pub fits_without_file : Transfer → List ℕ → List ℕ → Bool
fits_without_file t claimed doubtful = claimed_fits t claimed && doubtful_fits t.pairs claimed doubtful

unfoldable pub fits : World → Bool
fits w = eqb (length w.lent.file) w.t.len && fits_without_file w.t w.lent.claimed w.lent.doubtful
