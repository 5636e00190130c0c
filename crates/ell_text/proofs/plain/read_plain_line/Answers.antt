-- The pieces, put together, are the line.
use Rattle.std.proofs.Common.{rules}
use Rattle.ell_ops.specs.Meaning.{greatest_key}
use Rattle.ell_text.specs.Line.{HasKindInFront, IsValueInFront, has_value}
use Rattle.ell_text.specs.Lines.{IsBehindLineEnd}
use Rattle.ell_text.specs.Number.{IsNumberInFront}
use Rattle.ell_text.proofs.lemmas.FirstLines.{plain_line}
use Rattle.ell_text.proofs.plain.read_plain_line.Goals as goal

pub returns-clause-line : goal.returns-clause-line
returns-clause-line c =
    let front : HasKindInFront c.args.section c.args.text.now c.in_ok-kind.kind c.in_ok-kind.behind.now = search rules in
    let number : IsNumberInFront greatest_key c.in_ok-kind.behind.now c.in_ok-key.key c.in_ok-key.behind.now = search rules in
    let valued : IsValueInFront (has_value c.args.version c.in_ok-kind.kind) c.in_ok-key.behind.now c.in_ok-value.value c.in_ok-value.behind.now = search rules in
    let ends : IsBehindLineEnd c.in_ok-value.behind.now c.in_ok-rest.rest.now = search rules in
    rw c.on.ensures.value (plain_line c.args.version c.args.section c.args.text.now c.in_ok-kind.behind.now c.in_ok-key.behind.now c.in_ok-value.behind.now
    c.in_ok-rest.rest.now c.in_ok-kind.kind c.in_ok-key.key c.in_ok-value.value front number valued ends)
