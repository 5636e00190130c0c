-- Each turn reads the first line of the rest, and the last turn has read them all.
use Rattle.std.proofs.Common.{rules, ◌≡◌, ◌+◌, refl, sym, ap, ◌∙◌, arith}
use Rattle.std.proofs.lemmas.Result.{err_from_is_err_and}
use Rattle.ell_text.specs.Bulk.{bulk_value, fault_of, with_read}
use Rattle.ell_text.proofs.lemmas.FirstLines.{nothing_left}
use Rattle.ell_text.proofs.lemmas.Operations.{read_more, read_fault, read_stops, read_all_of}
use Rattle.ell_text.proofs.lemmas.ReadingOn.{read_here, read_on}
use Rattle.ell_text.proofs.bulk.read_bulk.Goals as goal

pub lines-preserved : goal.lines-preserved
lines-preserved g c =
    let before = bulk_value c.lines.bulk in
    let first = c.read_first_line-read.ensures.line in
    let done = c.in_ok-append_read.ensures in
    let read = read_here before _ _ first.line c.read_first_line-read.result.0 c.version.ensures c.section-section.ensures first.read_so in
    let stays : bulk_value c.read_on.new.self ≡ bulk_value c.append_read.new.self = search rules in
    record {
      read = read_more _ _ first.line c.lines.number before (rw first.cut at c.lines.invariant.read) (c.lines.number + 1) _ refl
          (ap (fault_of (c.lines.number + 1) before) read ∙ done.sound) (stays ∙ done.ok ∙ sym (ap (with_read before) read));
      fits = c.read_on.ensures.fits;
      counted = omega (arith, c.lines.invariant.counted, first.shorter);
    }

pub returns-then-read_on-clause-ok : goal.returns-then-read_on-clause-ok
returns-then-read_on-clause-ok g c =
    let before = bulk_value c.lines.bulk in
    let first = c.read_first_line-read.ensures.line in
    let done = c.in_ok-append_read.ensures in
    let read = read_here before _ _ first.line c.read_first_line-read.result.0 c.version.ensures c.section-section.ensures first.read_so in
    let known = read_more _ _ first.line c.lines.number before (rw first.cut at c.lines.invariant.read) (c.lines.number + 1) _ refl
    (ap (fault_of (c.lines.number + 1) before) read ∙ done.sound) (done.ok ∙ sym (ap (with_read before) read)) in
    read_on _ _ (c.lines.number + 1) (bulk_value c.append_read.new.self) (bulk_value c.read_on.new.self) known
    (c.read_on.ensures.behind c.if-read_on.true) (c.read_on.ensures.read c.if-read_on.true)

pub returns-in_err-append_read-clause-fault : goal.returns-in_err-append_read-clause-fault
returns-in_err-append_read-clause-fault g c =
    let before = bulk_value c.lines.bulk in
    let first = c.read_first_line-read.ensures.line in
    let failed = c.in_err-append_read.ensures in
    let read = read_here before _ _ first.line c.read_first_line-read.result.0 c.version.ensures c.section-section.ensures first.read_so in
    let error = err_from_is_err_and c.from_residual.result c.from_residual.ensures.1 in
    rw (error.1, error.2) (λ other. read_fault _ _ first.line c.lines.number before (rw first.cut at c.lines.invariant.read) _
    (ap (fault_of (c.lines.number + 1) before) read ∙ failed.fault other))

pub returns-in_err-append_read-clause-no_memory : goal.returns-in_err-append_read-clause-no_memory
returns-in_err-append_read-clause-no_memory g c =
    let before = bulk_value c.lines.bulk in
    let first = c.read_first_line-read.ensures.line in
    let failed = c.in_err-append_read.ensures in
    let read = read_here before _ _ first.line c.read_first_line-read.result.0 c.version.ensures c.section-section.ensures first.read_so in
    let error = err_from_is_err_and c.from_residual.result c.from_residual.ensures.1 in
    rw (error.1, error.2) (λ is. read_stops _ _ first.line c.lines.number before (rw first.cut at c.lines.invariant.read)
    (ap (fault_of (c.lines.number + 1) before) read ∙ failed.no_memory_sound is)
    (rw read (failed.no_memory is)))

pub returns-clause-ok : goal.returns-clause-ok
returns-clause-ok g c =
    read_all_of _ _ (bulk_value c.lines.bulk) (rw (nothing_left c.lines.rest.now (sym c.is_empty.ensures ∙ c.lines-test.false)) at c.lines.invariant.read)
