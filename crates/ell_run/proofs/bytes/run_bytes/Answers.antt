use Rattle.std.proofs.Common.{rules}
use Rattle.std.proofs.lemmas.Result.{err_from_is_err_and}
use Rattle.ell_text.specs.Bulk.{bulk_value}
use Rattle.ell_run.proofs.lemmas.Told.{answered, cut_short, reported}
use Rattle.ell_run.proofs.bytes.run_bytes.Goals as goal

pub returns-clause-ok : goal.returns-clause-ok
returns-clause-ok g c =
    answered c.in_ok-bytes.bytes.items (bulk_value c.in_ok-bulk.bulk) (search rules) _ _ _ c.in_ok-outcome.outcome.replies.items c.in_ok-outcome.outcome.pairs.items
    c.in_ok-bytes.ensures.bytes (search rules) (search rules) (search rules)

pub returns-clause-late : goal.returns-clause-late
returns-clause-late g c =
    reported c.in_ok-bytes.bytes.items (bulk_value c.in_ok-bulk.bulk) (search rules) c.args.settings _ c.in_ok-outcome.outcome.late
    c.in_ok-bytes.ensures.bytes (search rules)

pub returns-in_err-write_answer-clause-fault : goal.returns-in_err-write_answer-clause-fault
returns-in_err-write_answer-clause-fault g c =
    let p = err_from_is_err_and c.from_residual-in_err-write_answer.result c.from_residual-in_err-write_answer.ensures.1 in
    rw (p.1, p.2) (cut_short c.in_ok-bytes.bytes.items (bulk_value c.in_ok-bulk.bulk) (search rules) _ _ _ c.in_ok-outcome.outcome.replies.items c.in_ok-outcome.outcome.pairs.items
    c.in_err-write_answer.field-0.0 c.in_ok-bytes.ensures.bytes (search rules) (search rules) (search rules) (search rules))
