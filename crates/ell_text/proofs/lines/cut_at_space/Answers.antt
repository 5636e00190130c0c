-- The first piece ends at the first space.
use Rattle.std.proofs.Common.{◌+◌, ◌-◌, ◌∷◌, length, take, drop, ap, sym, ◌∙◌, arith}
use Rattle.std.proofs.lemmas.List.{take_all, length-drop}
use Rattle.std.specs.List.{slice_split}
use Rattle.ell_text.specs.Lines.{is_space}
use Rattle.ell_text.proofs.lemmas.Pieces.{cut_some, cut_none}
use Rattle.ell_text.proofs.lines.cut_at_space.Goals as goal

pub returns-in-Some : goal.returns-in-Some
returns-in-Some c =
    let xs = c.args.line.now in
    let i = c.in-Some.at in
    let rest = take_all (length xs - (i + 1)) (drop (i + 1) xs) (omega (arith, length-drop (i + 1) xs)) in
    cut_some xs i (sym c.first_space.ensures ∙ c.in-Some.is) ∙ ap (λ part. take i xs ∷ slice_split is_space part) (sym rest)

pub returns-in-None : goal.returns-in-None
returns-in-None c = cut_none c.args.line.now (sym c.first_space.ensures ∙ c.in-None.is)
