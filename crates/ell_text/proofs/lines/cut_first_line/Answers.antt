-- The first line ends at the first line feed, or else with the text.
use Rattle.std.proofs.Common.{◌+◌, ◌-◌, ◌∷◌, length, drop, ap, sym, ◌∙◌, arith}
use Rattle.std.proofs.lemmas.List.{take_all, length-drop}
use Rattle.ell_text.specs.Lines.{lines}
use Rattle.ell_text.proofs.lemmas.FirstLines.{first_line_none, first_line_some}
use Rattle.ell_text.proofs.lines.cut_first_line.Goals as goal

pub returns-in-Some-clause-cut : goal.returns-in-Some-clause-cut
returns-in-Some-clause-cut c =
    let text = c.args.text.now in
    let i = c.in-Some.at in
    let found = c.in-Some.ensures in
    let rest = take_all (length text - (i + 1)) (drop (i + 1) text) (omega (arith, length-drop (i + 1) text)) in
    first_line_some text i found.0.high found.1 (λ k below. found.0.before k (omega arith) below)
    ∙ ap (λ line. line ∷ lines (drop (i + 1) text)) (sym c.without_carriage_return.ensures)
    ∙ ap (λ behind. c.without_carriage_return.result.now ∷ lines behind) (sym rest)

pub returns-in-None-clause-cut : goal.returns-in-None-clause-cut
returns-in-None-clause-cut c = first_line_none c.args.text.now c.requires (λ k below. c.in-None.ensures k (omega arith) below)
