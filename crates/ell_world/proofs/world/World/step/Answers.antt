use Rattle.std.proofs.Common.{arith, ◌≤◌, Result, Ok, Err, OnErr, set, subst, refl, ◌∙◌}
use Rattle.std.proofs.lemmas.Result.{IfOk-weaker, MatchResult-weaker}
use Rattle.ell_core.specs.acts.Events.{Steps}
use Rattle.ell_world.specs.World.{WorldValue, machine_of, StepRefused}
use Rattle.ell_world.proofs.lemmas.Turns.{world_at, item_there, count_is, ready, fits_turn, step_done, step_refused, value_same}
use Rattle.ell_world.proofs.world.World.step.Goals as goal

-- what follows from two facts that hold after an error
on_err_both : {T E A B C : Type 0} (r : Result T E) → (A → B → C) → OnErr r A → OnErr r B → OnErr r C
on_err_both (Ok x) f a b = tt
on_err_both (Err e) f a b = f a b

pub returns-in_default-clause-refused : goal.returns-in_default-clause-refused
returns-in_default-clause-refused g c =
    let inside = c.self.inside in
    let count = count_is inside.memory inside.workers.items in
    let all : (machine_of (world_at inside.memory inside.workers.items)).count ≤ c.args.event.worker =
    grind (arith, inside.workers.ok.0, c.in_default.ensures.variant, c.in_default.is) in
    subst (λ (value : WorldValue). (machine_of value).count ≤ c.args.event.worker) c.self.view_is all

pub turn-requires : goal.turn-requires
turn-requires g c =
    let old = c.in-Some.worker.now in
    let there = item_there c.self.inside.workers c.args.event.worker old (c.in-Some.ensures.variant.0 refl) c.in-Some.ensures.value in
    ready c.self.inside.memory c.self.inside.memory c.self.inside.workers.items c.args.event old old there (record { size = refl; cards = refl }) c.self.invariant

pub invariant_of-self-2 : goal.invariant_of-self-2
invariant_of-self-2 g c =
    let old = c.in-Some.worker.now in
    let there = item_there c.self.inside.workers c.args.event.worker old (c.in-Some.ensures.variant.0 refl) c.in-Some.ensures.value in
    fits_turn c.self.inside.memory c.turn.new.memory c.self.inside.workers.items c.args.event old c.turn.new.worker there c.turn.ensures.same
    c.turn.result c.self.invariant c.turn.ensures.done c.turn.ensures.unchanged c.turn.ensures.words

pub returns-clause-done : goal.returns-clause-done
returns-clause-done g c =
    let old = c.in-Some.worker.now in
    let there = item_there c.self.inside.workers c.args.event.worker old (c.in-Some.ensures.variant.0 refl) c.in-Some.ensures.value in
    IfOk-weaker c.turn.result _ _ (λ said h. subst
    (λ (value : WorldValue). Steps (machine_of value) c.args.event said
    (machine_of (world_at c.turn.new.memory (set c.self.inside.workers.items c.args.event.worker c.turn.new.worker)))) c.self.view_is
    (step_done c.self.inside.memory c.turn.new.memory c.self.inside.workers.items c.args.event old c.turn.new.worker there c.turn.ensures.same said h))
    c.turn.ensures.done

pub returns-clause-refused : goal.returns-clause-refused
returns-clause-refused g c =
    let old = c.in-Some.worker.now in
    let there = item_there c.self.inside.workers c.args.event.worker old (c.in-Some.ensures.variant.0 refl) c.in-Some.ensures.value in
    MatchResult-weaker c.turn.result c.turn.ensures.refused (λ said h. h) (λ fault h. subst
    (λ (value : WorldValue). StepRefused (machine_of value) c.args.event fault) c.self.view_is
    (step_refused c.self.inside.memory c.turn.new.memory c.self.inside.workers.items c.args.event old c.turn.new.worker there c.turn.ensures.same fault h))

pub returns-clause-unchanged : goal.returns-clause-unchanged
returns-clause-unchanged g c =
    let old = c.in-Some.worker.now in
    let there = item_there c.self.inside.workers c.args.event.worker old (c.in-Some.ensures.variant.0 refl) c.in-Some.ensures.value in
    on_err_both c.turn.result (λ view words. value_same c.self.inside.memory c.turn.new.memory c.self.inside.workers.items c.args.event old
    c.turn.new.worker there c.turn.ensures.same view words ∙ c.self.view_is) c.turn.ensures.unchanged c.turn.ensures.words
