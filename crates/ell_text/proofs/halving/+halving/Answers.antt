-- The lines of a text are those of its two parts.
use Rattle.std.proofs.Common.{rules, ◌≡◌, ◌++◌, [], sym, subst}
use Rattle.ell_text.specs.Lines.{lines}
use Rattle.ell_text.specs.Operations.{Follow}
use Rattle.ell_text.proofs.lemmas.ReadingOn.{follow_both}
use Rattle.ell_text.proofs.halving.+halving.Goals as goal

pub returns-clause-follow : goal.returns-clause-follow
returns-clause-follow g t c =
    let version = c.args.version in
    let before = c.args.before.now in
    let front = lines c.cut_behind_line.result.0.now in
    let back = lines c.cut_behind_line.result.1.now in
    let first : Follow version before front c.in_ok-ops.ops.items = search rules in
    let second : Follow version [] back c.in_ok-second.field-0.items = search rules in
    let items : c.extend_from_slice.new.self.items ≡ c.in_ok-ops.ops.items ++ c.in_ok-second.field-0.items = search rules in
    subst (λ text. Follow version before text c.extend_from_slice.new.self.items) (sym c.cut_behind_line.ensures)
    (subst (Follow version before (front ++ back)) (sym items) (follow_both version before front back _ _ first second))
