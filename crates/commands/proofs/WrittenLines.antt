-- No argument is longer than 2,041 bytes, and each verb has its lines: `WrittenLines` holds.
use Prim.Native.Nat.{ℕ, ◌+◌, ◌-◌, ◌≤◌, ◌<◌}
use mathlib.Core.Path.{◌≡◌, refl, sym, ap, ◌∙◌}
use mathlib.Core.Logic.{⊎_elim, inl, ◌≢◌}
use mathlib.Core.List.{List, [], ◌++◌, append-nil}
use native.Mathlib.Omega.{arith}
use lib.ListN.{length, replicate, length-append, length-replicate, length-map}
use Rattle.commands.specs.Line.{upper}
use Rattle.commands.specs.Accepted.{IsVerb, TakesNoArgument, CommandLine}
use Rattle.commands.specs.Refused.{RefusedBy, by_35_missing}
use Rattle.commands.specs.WrittenLines.{name_of, line_of, bare_line, Argument, WrittenLines}
use Rattle.commands.proofs.VerbTable.{four-letters, own-letters, own-capitals, no-argument-dec}
use Rattle.commands.proofs.Printable.{printable-at, letters-printable}
use Rattle.commands.proofs.LineParts.{cr_lf}

verb-length : (word : List ℕ) (v : ℕ) → IsVerb word v → length word ≡ 4
verb-length word v n = sym (length-map word upper) ∙ ap length n.upper_case ∙ four-letters (v - 1) (omega (arith, n.one_to_twelve))

-- a verb in capitals
named : (v : ℕ) → 0 < v → v ≤ 12 → IsVerb (name_of v) v
named v l h = record { letters = own-letters (v - 1) (omega arith); one_to_twelve = (l, h); upper_case = own-capitals (v - 1) (omega arith) }

line-length : (word argument : List ℕ) (v spaces : ℕ) → IsVerb word v → length (word ++ (replicate spaces 32 ++ (argument ++ cr_lf))) ≡ 6 + spaces + length argument
line-length word argument v spaces n = simp (length-append, length-replicate) (omega (arith, verb-length word v n))

longest : (line word argument : List ℕ) (v spaces : ℕ) → CommandLine line word argument v spaces → length argument ≤ 2041
longest line word argument v spaces k = go (no-argument-dec v)
  where
    go : Dec (TakesNoArgument v) → length argument ≤ 2041
    go (yes b) = omega (arith, ap length (k.no_argument b).1)
    go (no b) = omega (arith, k.short, ap length k.whole, line-length word argument v spaces k.verb_is, (k.with_argument b).0)

module _ (v : ℕ) (l : 0 < v) (h : v ≤ 12) (pasv : v ≢ 2) (spas : v ≢ 7) where
  with-one : (argument : List ℕ) → Argument argument → CommandLine (line_of v argument) (name_of v) argument v 1
  with-one argument a =
      record {
        whole = refl;
        short = omega (arith, a.few, line-length (name_of v) argument v 1 (named v l h));
        printable = a.printable;
        verb_is = named v l h;
        no_argument = λ b. absurd (⊎_elim pasv spas b);
        with_argument = λ b. (omega arith, a.some);
        first = a.first;
      }

  missing : RefusedBy (bare_line v) 35
  missing =
      let n = named v l h in
      by_35_missing (name_of v) (name_of v) v 0 (omega (arith, line-length (name_of v) [] v 0 n)) refl (printable-at (name_of v) (letters-printable (name_of v) n.letters))
      (record { whole = sym (append-nil (name_of v)); verb_is = n; followed = inl refl }) (⊎_elim pasv spas)

without : (v : ℕ) → TakesNoArgument v → CommandLine (bare_line v) (name_of v) [] v 0
without v b =
    let n = ⊎_elim (λ e. named v (omega arith) (omega arith)) (λ e. named v (omega arith) (omega arith)) b in
    record {
      whole = refl;
      short = omega (arith, line-length (name_of v) [] v 0 n);
      printable = λ i h. absurd (omega arith);
      verb_is = n;
      no_argument = λ c. (refl, refl);
      with_argument = λ c. absurd (c b);
      first = λ e. omega arith;
    }

pub written-lines : WrittenLines
written-lines =
    record {
      longest_argument = longest;
      with_argument = λ v argument l h pasv spas. with-one v l h pasv spas argument;
      missing_argument = missing;
      without_argument = without;
    }
