-- The first line feed that is found there ends the first half.
use Rattle.std.proofs.Common.{◌≡◌, ◌+◌, ◌-◌, ◌<◌, ◌++◌, get_or, length, drop, sym, ap₂, ◌∙◌, arith}
use Rattle.std.proofs.lemmas.Bool.{eqb-true}
use Rattle.std.proofs.lemmas.List.{get_or-drop, get_or-take, length-drop}
use Rattle.ell_text.specs.Lines.{lines}
use Rattle.ell_text.proofs.lemmas.Halves.{lines_of_halves}
use Rattle.ell_text.proofs.lines.cut_behind_line.Goals as goal

pub returns-in-Some : goal.returns-in-Some
returns-in-Some c =
    let text = c.args.text.now in
    let place = c.args.place in
    let at = c.in-Some.at in
    let found = c.in-Some.ensures in
    let below : at < length text - place = omega (arith, found.0.high, length-drop place text) in
    let here : get_or text (place + at) 0 ≡ 10 =
    sym (get_or-drop place text at 0) ∙ sym (get_or-take (length text - place) (drop place text) at 0 below) ∙ eqb-true _ 10 found.1 in
    lines_of_halves text (place + at) (omega (arith, below)) here
    ∙ ap₂ (λ front back. lines front ++ lines back) (sym c.split_at.ensures.front) (sym c.split_at.ensures.back)
