-- Every row of the table is met by some sequence from the beginning.
use mathlib.Core.Path.{◌≡◌, refl, ap, ◌∙◌}
use mathlib.Core.Logic.{inl, inr}
use mathlib.Core.List.{[]}
use native.Mathlib.Omega.{arith}
use Rattle.verdicts.specs.declared.verdict.Verdict.TheVariants.{Guess}
use Rattle.console.specs.declared.state.Console.{Console}
use Rattle.console.specs.Console.{Event}
use Rattle.console.specs.Rows.{MODE, PASV, PORT, REST, RETR, STOR, SPAS, SPOR, SBUF, Row, mode_e, mode_other, too_early, pasv, spas, port, port_refused, spor, spor_refused, stor, stor_refused, retr, retr_refused, rest, rest_refused, sbuf_opts, line_refused, argument_refused, while_running, end_result, end_suspect, end_broken, end_guess, end_of_none, row_of}
use Rattle.console.specs.Sessions.{Reached, Met}
use Rattle.console.proofs.Table.{sentences}
use Rattle.console.proofs.Reached.{at-beginning, mode-e-asked, is-listening, is-connecting, is-storing}
use Rattle.commands.specs.WrittenLines.{bare_line}
use Rattle.console.proofs.ExampleLines.{visible, takes_argument, is_argument, bare-command, command-of, capital-e, capital-s, letter-x, host-port, two-host-ports, one-range, s-is-not-e, is-host-port, is-list, two-are-not-one, x-is-no-list, range-is-well-formed, x-is-malformed, empty-refused, bare-mode-refused}

met_by : {s : Console} {r : Row} → Reached s → (e : Event) → row_of s e ≡ r → Met r
met_by k e h = record { events = k.events; next = e; has_row = ap (λ t. row_of t e) k.comes_to ∙ h }

pub met : (r : Row) → Met r
unfolding visible is_argument takes_argument
met mode_e = met_by at-beginning _ (sentences.mode_e_gets_200 _ _ _ (refl, command-of MODE capital-e refl refl) (inl refl)).0
met mode_other = met_by at-beginning _ (sentences.other_mode_gets_504 _ _ _ (refl, command-of MODE capital-s refl refl) s-is-not-e).0
met too_early = met_by at-beginning _ (sentences.too_early_gets_503 _ _ _ SPAS (refl, bare-command SPAS (inr refl)) (inl refl) refl).0
met pasv = met_by at-beginning _ (sentences.pasv_gets_227 _ _ _ (refl, bare-command PASV (inl refl))).0
met spas = met_by mode-e-asked _ (sentences.spas_gets_229 _ _ _ (refl, bare-command SPAS (inr refl)) refl).0
met port = met_by at-beginning _ (sentences.port_gets_200 _ _ _ (refl, command-of PORT host-port refl refl) is-host-port).0
met port_refused = met_by at-beginning _ (sentences.port_gets_501 _ _ _ (refl, command-of PORT two-host-ports refl refl) two-are-not-one).0
met spor = met_by mode-e-asked _ (sentences.spor_gets_200 _ _ _ (refl, command-of SPOR host-port refl refl) refl is-list).0
met spor_refused = met_by mode-e-asked _ (sentences.spor_gets_501 _ _ _ (refl, command-of SPOR letter-x refl refl) refl x-is-no-list).0
met stor = met_by is-listening _ (sentences.stor_gets_150 _ _ _ STOR (refl, command-of STOR letter-x refl refl) (inl refl) refl refl).0
met stor_refused = met_by at-beginning _ (sentences.stor_gets_503 _ _ _ STOR (refl, command-of STOR letter-x refl refl) (inl refl) (inl refl)).0
met retr = met_by is-connecting _ (sentences.retr_gets_150 _ _ _ RETR (refl, command-of RETR letter-x refl refl) (inl refl) refl refl).0
met retr_refused = met_by at-beginning _ (sentences.retr_gets_503 _ _ _ RETR (refl, command-of RETR letter-x refl refl) (inl refl) (inl refl)).0
met rest = met_by at-beginning _ (sentences.rest_gets_350 _ _ _ (refl, command-of REST one-range refl refl) range-is-well-formed).0
met rest_refused = met_by at-beginning _ (sentences.rest_gets_501 _ _ _ (refl, command-of REST letter-x refl refl) x-is-malformed).0
met sbuf_opts = met_by at-beginning _ (sentences.sbuf_opts_get_200 _ _ _ SBUF (refl, command-of SBUF letter-x refl refl) (inl refl)).0
met line_refused = met_by at-beginning _ (sentences.refused_line_gets_500 _ [] 32 empty-refused (omega arith)).0
met argument_refused = met_by at-beginning _ (sentences.refused_argument_gets_501 _ (bare_line MODE) bare-mode-refused).0
met while_running = met_by is-storing _ (sentences.running_gets_503 _ (bare_line PASV) [] PASV refl (bare-command PASV (inl refl))).0
met end_result = met_by is-storing _ (sentences.result_gets_226 _ refl).0
met end_suspect = met_by is-storing _ (sentences.suspect_gets_226 _ refl).0
met end_broken = met_by is-storing _ (sentences.broken_gets_426 _ refl).0
met end_guess = met_by is-storing _ (sentences.guess_gets_0 _ refl).0
met end_of_none = met_by at-beginning _ (sentences.end_of_none_gets_0 _ Guess refl).0
