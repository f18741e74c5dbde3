-- Which row a line leads to, by what is read of it.
use Prim.Native.Nat.{ℕ, ◌≤◌, ◌<◌}
use mathlib.Core.Path.{◌≡◌, sym, ap, ◌∙◌}
use mathlib.Core.Bool.{true, false}
use mathlib.Core.List.{List}
use borrow.Author.Tests.{lt-ltb}
use lib.ListN.{length}
use Rattle.std.specs.Prelude.{Ok}
use Rattle.answers.specs.Refusal.{number_in}
use Rattle.commands.specs.Line.{read_of, argument_of, said, number_of, verb}
use Rattle.commands.specs.declared.line.Command.{Command}
use Rattle.commands.proofs.LineAnswers.{line-answers}
use Rattle.commands.proofs.Accepted.{accepted-lines}
use Rattle.commands.proofs.WrittenLines.{written-lines}
use Rattle.console.specs.declared.state.Console.{Console}
use Rattle.console.specs.Rows.{while_running, refused_row, command_row, line_row}

-- ---- the answer of the line's reader

module _ (l : List ℕ) where
  module _ (e : number_in (read_of l) ≡ 0) where
    has-verb : 0 < verb (read_of l)
    has-verb = (accepted-lines.accepted_is l e).2.verb_is.one_to_twelve.0

    pub argument-short : length (argument_of (read_of l) l) ≤ 2041
    argument-short = let a = accepted-lines.accepted_is l e in written-lines.longest_argument l a.0 _ _ a.1 a.2

  pub command-reads : (c : Command) → said (Ok c) ≡ read_of l → (number_in (read_of l) ≡ 0) × (verb (read_of l) ≡ number_of c.verb)
  command-reads c e =
      let a = line-answers.command (number_of c.verb) c.from c.to in
      (ap number_in (sym e) ∙ a.0, ap verb (sym e) ∙ a.1)

-- ---- the row

module _ (s : Console) (l : List ℕ) where
  pub row-refused : 0 < number_in (read_of l) → line_row s l ≡ refused_row (number_in (read_of l))
  row-refused h = rw (lt-ltb 0 (number_in (read_of l)) h)

  module _ (e : number_in (read_of l) ≡ 0) where
    pub row-running : s.running ≡ true → line_row s l ≡ while_running
    row-running r = rw (e, r)

    pub row-command : s.running ≡ false → line_row s l ≡ command_row s (verb (read_of l)) (argument_of (read_of l) l)
    row-command r = rw (e, r)
