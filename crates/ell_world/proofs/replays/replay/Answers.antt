use Rattle.std.proofs.Common.{◌+◌, ◌∷◌, [], ◌++◌, take, get_or, Result, Ok, Err, OnErr, refl, ap, sym, subst, ◌∙◌, arith}
use Rattle.std.proofs.lemmas.List.{take_more, take_all}
use Rattle.ell_ops.specs.declared.op.Op.TheVariants.{Find}
use Rattle.ell_core.specs.declared.event.Act.TheVariants.{Begin}
use Rattle.ell_core.specs.declared.event.Event.{Event}
use Rattle.ell_core.specs.acts.Runs.{Run, Passes}
use Rattle.ell_world.specs.World.{WorldValue, machine_of}
use Rattle.ell_core.proofs.lemmas.runs.Runs.{run_more}
use Rattle.ell_core.proofs.lemmas.runs.Lawful.{wins_ordered}
use Rattle.ell_world.proofs.replays.replay.Goals as goal

on_err : {T E P : Type 0} (r : Result T E) → P → OnErr r P
on_err (Ok x) h = tt
on_err (Err e) h = h

pub loop-event-init : goal.loop-event-init
loop-event-init g c = (rw c.new-shown.ensures.items refl, refl)

pub returns-in_err-reserve-clause-passes : goal.returns-in_err-reserve-clause-passes
returns-in_err-reserve-clause-passes g c = on_err c.from_residual.result (record {
  events = c.loop-event.event-index;
  left = c.loop-event-test.true;
  shown = c.loop-event.shown.items;
  run = c.loop-event.invariant.0;
})

pub returns-in_err-answer-clause-passes : goal.returns-in_err-answer-clause-passes
returns-in_err-answer-clause-passes g c = on_err c.from_residual-in_err-answer.result
    (subst (λ (world : WorldValue). Passes (machine_of c.args.world.now) c.args.events.now (machine_of world))
    (sym c.in_err-answer.ensures.unchanged)
    (record {
      events = c.loop-event.event-index;
      left = c.loop-event-test.true;
      shown = c.loop-event.shown.items;
      run = c.loop-event.invariant.0;
    }))

pub loop-event-preserved : goal.loop-event-preserved
loop-event-preserved g c =
    let events = c.args.events.now in
    let i = c.loop-event.event-index in
    let other : Event = record { worker = 0; act = Begin (Find 0) } in
    let event = get_or events i other in
    let first = machine_of c.args.world.now in
    let after = machine_of c.show.new.world in
    let more = run_more first (take i events) c.loop-event.shown.items (machine_of c.loop-event.world) after event
    c.in_ok-answer.answer c.loop-event.invariant.0 c.in_ok-answer.ensures.shows in (
      subst (λ xs. Run first (take (i + 1) events) xs after)
          (sym (c.in_ok-push.ensures.items ∙ ap (λ xs. xs ++ c.in_ok-answer.answer ∷ []) c.in_ok-reserve.ensures.items))
          (subst (λ es. Run first es (c.loop-event.shown.items ++ c.in_ok-answer.answer ∷ []) after)
          (sym (take_more events i other c.loop-event-test.true)) more),
      c.show.ensures.cards ∙ c.loop-event.invariant.1,
    )

pub returns-clause-run : goal.returns-clause-run
returns-clause-run g c =
    subst (λ es. Run (machine_of c.args.world.now) es c.loop-event.shown.items (machine_of c.loop-event.world))
    (take_all c.loop-event.event-index c.args.events.now (omega arith)) c.loop-event.invariant.0

pub returns-clause-order : goal.returns-clause-order
returns-clause-order g c is =
    wins_ordered (machine_of c.args.world.now) c.args.events.now c.loop-event.shown.items (machine_of c.loop-event.world) is
