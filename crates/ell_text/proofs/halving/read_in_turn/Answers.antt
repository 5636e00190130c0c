-- Each turn reads the first line of the rest, and appends the operation that it says.
use Rattle.std.proofs.Common.{[], sym, subst, ◌∙◌}
use Rattle.std.proofs.lemmas.List.{append-nil}
use Rattle.ell_text.specs.Lines.{lines}
use Rattle.ell_text.specs.Operations.{Follow, ReadAsOperation, SayOperations, nothing}
use Rattle.ell_text.proofs.lemmas.FirstLines.{nothing_left}
use Rattle.ell_text.proofs.lemmas.ReadingOn.{follow_more}
use Rattle.ell_text.proofs.halving.read_in_turn.Goals as goal

pub lines-preserved : goal.lines-preserved
lines-preserved g c =
    let version = c.args.version in
    let before = c.args.before.now in
    let first = c.read_first_line-read.ensures.line in
    let old = c.lines.ops.items in
    let new = c.append.new.ops.items in
    let read = subst (λ found. ReadAsOperation found old new) (sym first.read_so) c.in_ok-append.ensures.read in
    record {
      follow = λ later say.
          let more = follow_more version old new first.line (lines c.read_first_line-read.result.1.now) later read say in
          subst (Follow version before (lines c.args.text.now)) (sym more.2)
          (c.lines.invariant.follow more.0 (subst (λ text. SayOperations version text more.0) (sym first.cut) more.1));
      fits = c.in_ok-append.ensures.fits;
    }

pub returns-clause-follow : goal.returns-clause-follow
returns-clause-follow g c =
    let version = c.args.version in
    let none = nothing_left c.lines.rest.now (sym c.is_empty.ensures ∙ c.lines-test.false) in
    subst (Follow version c.args.before.now (lines c.args.text.now)) (append-nil c.lines.ops.items)
    (c.lines.invariant.follow [] (subst (λ text. SayOperations version text []) (sym none) nothing))
