-- FIT: the world of a tally fits, wherever the invariant holds.
use Prim.Native.Nat.{ℕ, suc, ◌*◌, ◌≤◌}
use mathlib.Core.Path.{◌≡◌, refl, sym, ap, ◌∙◌}
use mathlib.Core.Logic.{inl, inr}
use mathlib.Core.Bool.{Bool, true}
use mathlib.Core.List.{List, [], ◌∷◌, map}
use native.Mathlib.Omega.{arith}
use lib.ListN.{length, get_or, drop, length-map, get_or-append}
use lib.Seq.{get_or-drop}
use Rattle.ledger.specs.Pairs.{Pairs, none, contains, ObeyFrom}
use Rattle.ledger.specs.Ledger.{obeys}
use Rattle.ledger.proofs.LedgerLayout.{length-laid_out, rule-laid_out}
use Rattle.transfer.specs.Channel.{held_limit, State, held_bytes, encode_state}
use Rattle.transfer.specs.Transfer.{sum}
use Rattle.transfer.specs.Receive.{is_non_empty}
use Rattle.transfer.specs.Fit.{pair_limit, fits}
use Rattle.transfer.specs.Block.{Block, doubtful_in}
use Rattle.transfer.specs.Tally.{Tally, Stream, taken, accepted, blocks_of, counts_of, known_count, claimed, doubted, used_in, stream_at}
use Rattle.transfer.specs.StateFrom.{state_from}
use Rattle.transfer.specs.Fitting.{CountSays, FaultSays}
use Rattle.transfer.proofs.ChannelReadBack.{length-held_bytes}
use Rattle.transfer.proofs.BlockClaims.{sum-append, hit_by, cover, claims-ruled, claims-holds}
use Rattle.transfer.proofs.BlockDoubts.{doubts-ruled, sum-doubtful-le}
use Rattle.transfer.proofs.BlockPayloads.{length-with_payloads}
use Rattle.transfer.proofs.ChannelBytes.{Kind, untouched, heading, filling, finished, kind, kind-rest}
use Rattle.transfer.proofs.TallyStreams.{AllProper, proper-at}
use Rattle.transfer.proofs.TallyTransfer.{row_of, heads_of, transfer_of, world_of, length-heads_of, heads-drop, row_at, used-is}
use Rattle.transfer.proofs.TallyInvariant.{Count, unknown, announced, Fault, no_fault, fault_of_is, Invariant}
use Rattle.transfer.proofs.TallyHeader.{pairs-are, doubts-are}
use Rattle.transfer.proofs.FitChannelKinds.{waits}
use Rattle.transfer.proofs.FitByChannel.{Together}
use Rattle.transfer.proofs.FitStates.{Steady, steady-stands, steady-stage, steady-zero}
use Rattle.transfer.proofs.FitTests.{together-fits}

holds-none : (p : ℕ) → contains p none ≡ 0
unfolding contains
holds-none p = refl

kind-steady : (x : State) (xs : List Block) (u : Bool) → Kind x xs u → Steady x
kind-steady x xs u (untouched e f g) = rw e tt
kind-steady x xs u (heading r e d h g) = rw e h
kind-steady x xs u (filling done h p e f d q g) = rw e (omega arith)
kind-steady x xs u (finished done h p e f d q z g) = rw e tt

-- the bytes left are claimed by the blocks
rests-covered : (p : ℕ) (ss : List Stream) → AllProper ss → sum (waits p) (map row_of ss) ≤ cover p (blocks_of ss)
unfolding sum blocks_of row_of encode_state
rests-covered p [] a = omega arith
rests-covered p (s ∷ ss) a =
    omega (arith, kind-rest (state_from s) (accepted s) (is_non_empty (taken s)) p (kind s a.0), rests-covered p ss a.1, sum-append (hit_by p) (accepted s) (blocks_of ss))

module _ (F R : ℕ) (before : Pairs) (file : List ℕ) (t : Tally) (c₀ : ObeyFrom 0 before) (l : length file ≡ F) (r : R ≤ pair_limit) (i : Invariant F R before t) where
  all-ruled : ObeyFrom 0 (claimed before t.streams)
  all-ruled = claims-ruled (blocks_of t.streams) before c₀

  pub together-always : Together (world_of F R before file t)
  unfolding world_of transfer_of obeys
  together-always =
      record {
        file = length-with_payloads (blocks_of t.streams) file ∙ l;
        entries = length-laid_out R (claimed before t.streams);
        pairs = r;
        rule = rule-laid_out R 0 (claimed before t.streams) all-ruled;
        ends = rw (pairs-are F R before file c₀ t i) i.ends;
        doubtful_entries = length-laid_out R (doubted t.streams);
        doubtful_rule = rule-laid_out R 0 (doubted t.streams) (doubts-ruled (blocks_of t.streams));
        doubts = λ p. rw (pairs-are F R before file c₀ t i, doubts-are F R before file c₀ t i)
            (omega (arith, claims-holds p (blocks_of t.streams) before c₀, claims-holds p (doubtful_in (blocks_of t.streams)) none tt, sum-doubtful-le (hit_by p) (blocks_of t.streams), holds-none p));
        channels = length-map t.streams row_of ∙ i.number;
        heads = omega (arith, length-heads_of t.streams i.proper, i.number);
        stages = λ c h. rw (row_at t.streams c) (unfold row_of in steady-stage (state_from (stream_at t c)) (steady c));
        bytes_zero = λ c j h u v.
            let x = state_from (stream_at t c) in
            sym (get_or-drop (held_limit * c) (heads_of t.streams) j 0) ∙ ap (λ m. get_or m j 0) (heads-drop t.streams c i.proper (omega (arith, i.number)))
            ∙ get_or-append (held_bytes x) (heads_of (drop (suc c) t.streams)) 0 j (omega (arith, length-held_bytes x (steady-stands x (steady c)))) ∙ steady-zero x j (unfold row_of encode_state in rw (row_at t.streams c) at u) v;
        rests = λ p. rw (pairs-are F R before file c₀ t i) (omega (arith, rests-covered p t.streams i.proper, claims-holds p (blocks_of t.streams) before c₀, i.apart p));
        count = count-says i.count;
        fault = fault-says i.fault;
      }
    where
      steady : (c : ℕ) → Steady (state_from (stream_at t c))
      steady c = kind-steady (state_from (stream_at t c)) (accepted (stream_at t c)) (is_non_empty (taken (stream_at t c))) (kind (stream_at t c) (proper-at t.streams c i.proper))

      count-says : Count (counts_of t.streams) (used_in t.streams) → CountSays (transfer_of F R t)
      count-says (unknown x) = inl (ap (λ m. get_or m 0 0) x)
      count-says (announced n x x₀ x₁ x₂) =
          let k : known_count t.streams ≡ n = ap (λ m. get_or m 0 0) x in
          inr (omega arith, omega arith, omega (arith, used-is F R t i.proper))

      fault-says : Fault t.fault t.on → FaultSays (transfer_of F R t)
      fault-says (no_fault x y) = inl (x, y)
      fault-says (fault_of_is x y z) = inr (x, y, z)

pub fits-always : (F R : ℕ) (before : Pairs) (file : List ℕ) (t : Tally) → ObeyFrom 0 before → length file ≡ F → R ≤ pair_limit → Invariant F R before t → fits (world_of F R before file t) ≡ true
fits-always F R before file t c l r i = together-fits (world_of F R before file t) (together-always F R before file t c l r i)
