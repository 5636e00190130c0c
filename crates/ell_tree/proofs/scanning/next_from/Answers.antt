use Rattle.std.proofs.Common.{◌+◌, arith}
use Rattle.ell_ops.specs.Meaning.{greatest_key}
use Rattle.ell_tree.proofs.lemmas.Scans.{next_beyond, next_none, next_pair}
use Rattle.ell_tree.proofs.scanning.next_from.Goals as goal

pub returns-then-scanned-eq0-clause-found : goal.returns-then-scanned-eq0-clause-found
returns-then-scanned-eq0-clause-found g c =
    let s = c.scan-scanned in
    next_none s.new.pass.view c.args.from (greatest_key + 1) s.result.count s.result.next s.new.room s.ensures.found s.ensures.next c.if-scanned-eq0.true

pub returns-clause-found : goal.returns-clause-found
returns-clause-found g c =
    let s = c.scan-scanned in
    next_pair s.new.pass.view c.args.from _ s.result.count s.new.room _ s.ensures.found s.ensures.ordered s.auto.room (omega arith)

pub returns-clause-places : goal.returns-clause-places
returns-clause-places g c =
    let s = c.scan-scanned in
    λ real. s.ensures.places (next_beyond c.args.from _ s.result.count s.new.room s.ensures.ordered s.auto.room (omega arith))
