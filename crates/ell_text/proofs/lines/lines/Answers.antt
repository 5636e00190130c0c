-- bstr's lines are those of the text.
use Rattle.std.proofs.Common.{sym, ◌∙◌}
use Rattle.ell_text.proofs.lemmas.CutLines.{lines_lem}
use Rattle.ell_text.proofs.lines.lines.Goals as goal

pub returns-clause-value : goal.returns-clause-value
returns-clause-value c = c.lines.ensures.value ∙ sym (lines_lem c.args.text.now)
