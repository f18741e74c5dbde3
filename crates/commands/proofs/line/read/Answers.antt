-- `line::read`.
use mathlib.Core.Path.{◌≡◌, sym, ◌∙◌}
use mathlib.Core.Bool.{true}
use Rattle.texts.specs.Text.{is_printable}
use Rattle.texts.proofs.Texts.{leading-short, leading-whole}
use Rattle.commands.specs.Line.{text_of, ends_in_cr_lf}
use Rattle.commands.proofs.Lines.{reads-31, reads-32, reads-33, reads-text}
use Rattle.commands.proofs.LineParts.{suffix-ends}
use Rattle.commands.proofs.line.read.Goals as goal
use Rattle.commands.proofs.line.read.Goals.{In-Some}

ends : (c : In-Some) → ends_in_cr_lf c.args.line.now ≡ true
ends c = sym (suffix-ends c.args.line.now) ∙ c.in-Some.ensures.cases.0

text_is : (c : In-Some) → c.in-Some.text.now ≡ text_of c.args.line.now
text_is c = c.in-Some.ensures.cases.1

pub returns-then-line-gt-LINE_LIMIT : goal.returns-then-line-gt-LINE_LIMIT
returns-then-line-gt-LINE_LIMIT c = sym (reads-31 c.args.line.now c.if-line-gt-LINE_LIMIT.true)

pub returns-in_default : goal.returns-in_default
returns-in_default c = sym (reads-32 c.args.line.now c.if-line-gt-LINE_LIMIT.false (sym (suffix-ends c.args.line.now) ∙ c.in_default.ensures.cases))

pub returns-then-leading-text : goal.returns-then-leading-text
returns-then-leading-text c =
    let line = c.args.line.now in
    let s = (goal.at.returns-then-leading-text c).In-Some in
    sym (reads-33 line c.if-line-gt-LINE_LIMIT.false (ends s) (leading-short is_printable (text_of line) (rw (c.leading.ensures, text_is s) at c.if-leading-text.true)))

pub returns : goal.returns
returns c =
    let line = c.args.line.now in
    let s = (goal.at.returns c).In-Some in
    let p = leading-whole is_printable (text_of line) (rw (c.leading.ensures, text_is s) at c.if-leading-text.false) in
    c.read_text.ensures ∙ rw (text_is s) (sym (reads-text line c.if-line-gt-LINE_LIMIT.false (ends s) p))
