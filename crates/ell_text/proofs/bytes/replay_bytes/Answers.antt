use Rattle.std.proofs.Common.{rules}
use Rattle.std.proofs.lemmas.Result.{err_from_is_err_and}
use Rattle.ell_text.proofs.lemmas.Replayed.{cut_trace, is_replay, no_start, whole_trace}
use Rattle.ell_text.specs.replays.Script.{script_value}
use Rattle.ell_text.proofs.bytes.replay_bytes.Goals as goal

pub returns-in_err-world-clause-fault : goal.returns-in_err-world-clause-fault
returns-in_err-world-clause-fault g c =
    let p = err_from_is_err_and c.from_residual-in_err-world.result c.from_residual-in_err-world.ensures.1 in
    rw (p.1, p.2) (no_start _ _ _ c.in_ok-bytes.bytes.items (script_value c.in_ok-script.script) c.in_err-world.field-0.0 c.in_ok-bytes.ensures.bytes (search rules) (search rules) (search rules))

pub returns-in_err-write_trace-clause-fault : goal.returns-in_err-write_trace-clause-fault
returns-in_err-write_trace-clause-fault g c =
    let p = err_from_is_err_and c.from_residual-in_err-write_trace.result c.from_residual-in_err-write_trace.ensures.1 in
    let value = script_value c.in_ok-script.script in
    let replayed = is_replay value _ _ _ _ _ _ c.in_ok-world.ensures.opening c.deref-2.ensures.value c.in_ok-shown.ensures.run c.deref-3.ensures.value c.in_ok-keys.ensures in
    rw (p.1, p.2) (cut_trace _ _ _ c.in_ok-bytes.bytes.items value c.in_ok-shown.shown.items c.in_ok-keys.keys.items c.in_err-write_trace.field-0.0
    c.in_ok-bytes.ensures.bytes (search rules) replayed (search rules) (search rules))

pub returns-clause-ok : goal.returns-clause-ok
returns-clause-ok g c =
    let value = script_value c.in_ok-script.script in
    let replayed = is_replay value _ _ _ _ _ _ c.in_ok-world.ensures.opening c.deref-2.ensures.value c.in_ok-shown.ensures.run c.deref-3.ensures.value c.in_ok-keys.ensures in
    whole_trace _ _ _ c.in_ok-bytes.bytes.items value c.in_ok-shown.shown.items c.in_ok-keys.keys.items c.in_ok-bytes.ensures.bytes (search rules) replayed (search rules)

pub returns-in_err-shown-clause-fault : goal.returns-in_err-shown-clause-fault
returns-in_err-shown-clause-fault g c =
    let p = err_from_is_err_and c.from_residual-in_err-shown.result c.from_residual-in_err-shown.ensures.1 in
    rw (p.1, p.2) (search rules)
