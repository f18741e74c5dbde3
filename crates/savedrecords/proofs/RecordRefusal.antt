-- The number by which a record is refused, case by case, and what is known of one that is not.
use Prim.Native.Nat.{ℕ, ◌%◌, ◌≤◌, ◌<◌}
use mathlib.Core.Path.{◌≡◌, refl, ◌∙◌}
use mathlib.Core.Bool.{Bool, true, false, cond, ◌&&◌, not, and-eq-true_iff}
use mathlib.Core.List.{List}
use native.Mathlib.Omega.{arith}
use borrow.Author.Tests.{le-leb, lt-leb, leb-true, eq-eqb, ne_eqb, eqb-true}
use lib.Dec.{leb, eqb}
use lib.ListN.{length}
use Rattle.answers.proofs.WrittenBy.{first_some, first-none, first-zero}
use Rattle.frames.specs.Frame.{body_of}
use Rattle.ledger.specs.Pairs.{ObeyFrom, obey_from}
use Rattle.ledger.proofs.PairsObey.{obey_from-ruled}
use Rattle.savedrecords.specs.Kind.{head_length}
use Rattle.savedrecords.specs.Record.{pair_length, pair_part, saved_pairs, frame_refusal, body_wrong, record_refusal}
use Rattle.savedrecords.specs.declared.kind.Kind.{Kind}

module _ (kind : Kind) (bytes : List ℕ) where
  pub refusal-frame : 0 < frame_refusal kind.number bytes → record_refusal kind bytes ≡ frame_refusal kind.number bytes
  unfolding record_refusal
  refusal-frame h = first_some (frame_refusal kind.number bytes) _ h

  module _ (frame : frame_refusal kind.number bytes ≡ 0) where
    only-body : record_refusal kind bytes ≡ cond (body_wrong kind bytes) 63 0
    unfolding record_refusal
    only-body = first-none (frame_refusal kind.number bytes) _ frame

    pub refusal-head : length (body_of bytes) < head_length kind → record_refusal kind bytes ≡ 63
    unfolding body_wrong
    refusal-head h = only-body ∙ rw (lt-leb (head_length kind) (length (body_of bytes)) h)

    module _ (head : head_length kind ≤ length (body_of bytes)) where
      pub refusal-parts : (length (pair_part kind bytes) % pair_length ≡ 0 → ⊥) → record_refusal kind bytes ≡ 63
      unfolding body_wrong
      refusal-parts n = only-body ∙ rw (le-leb (head_length kind) (length (body_of bytes)) head, ne_eqb (length (pair_part kind bytes) % pair_length) 0 n)

      module _ (parts : length (pair_part kind bytes) % pair_length ≡ 0) where
        pub refusal-order : obey_from 0 (saved_pairs kind bytes) ≡ false → record_refusal kind bytes ≡ 63
        unfolding body_wrong
        refusal-order e =
            only-body ∙ rw (le-leb (head_length kind) (length (body_of bytes)) head, eq-eqb (length (pair_part kind bytes) % pair_length) 0 parts, e)

        pub refusal-none : obey_from 0 (saved_pairs kind bytes) ≡ true → record_refusal kind bytes ≡ 0
        unfolding body_wrong
        refusal-none e =
            only-body ∙ rw (le-leb (head_length kind) (length (body_of bytes)) head, eq-eqb (length (pair_part kind bytes) % pair_length) 0 parts, e)

wrong-not : (t : Bool) (k : ℕ) → cond (not t) 63 0 ≡ k → k ≡ 0 → t ≡ true
wrong-not true k e z = refl
wrong-not false k e z = absurd (omega arith)

-- what is known of a record that is not refused
pub record Sound (kind : Kind) (bytes : List ℕ) : Type 0 where
  pub frame : frame_refusal kind.number bytes ≡ 0
  pub head : head_length kind ≤ length (body_of bytes)
  pub parts : length (pair_part kind bytes) % pair_length ≡ 0
  pub ruled : ObeyFrom 0 (saved_pairs kind bytes)

pub refusal-sound : (kind : Kind) (bytes : List ℕ) → record_refusal kind bytes ≡ 0 → Sound kind bytes
unfolding record_refusal body_wrong
refusal-sound kind bytes z =
    let n = length (pair_part kind bytes) % pair_length in
    let f = first-zero (frame_refusal kind.number bytes) (cond (body_wrong kind bytes) 63 0) z in
    let a = (and-eq-true_iff (leb (head_length kind) (length (body_of bytes))) (eqb n 0 && obey_from 0 (saved_pairs kind bytes))).0 (wrong-not _ 0 f.1 refl) in
    let b = (and-eq-true_iff (eqb n 0) (obey_from 0 (saved_pairs kind bytes))).0 a.1 in
    record {
      frame = f.0;
      head = leb-true (head_length kind) (length (body_of bytes)) a.0;
      parts = eqb-true n 0 b.0;
      ruled = obey_from-ruled 0 (saved_pairs kind bytes) b.1;
    }
