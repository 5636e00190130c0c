use Rattle.std.proofs.Common.{ap, ◌∙◌, inl, List}
use Rattle.ell_core.specs.declared.fact.Fact.{Fact}
use Rattle.ell_core.specs.state.Machine.{WorkerView}
use Rattle.ell_core.specs.acts.Exchanges.{knowing}
use Rattle.ell_core.specs.state.Facts.{Knowledge, learned_any}
use Rattle.ell_world.specs.Inside.{view_of, worker_in}
use Rattle.ell_world.proofs.lemmas.Knowledge.{known_of-updates, known_of-added, facts_undone}
use Rattle.ell_world.proofs.worker.Worker.learn_both.Goals as goal

pub returns-in-Ok-clause-learned : goal.returns-in-Ok-clause-learned
returns-in-Ok-clause-learned g c =
    c.in-Ok.ensures.learned
    ∙ ap (λ (known : Knowledge). knowing (worker_in c.args.self.now) (learned_any known c.args.other))
    (known_of-updates c.args.self.now.facts.keys c.insert.new.self.keys c.args.fact c.in_ok-added.ensures.updates.0)

pub returns-then-added-clause-lacks : goal.returns-then-added-clause-lacks
returns-then-added-clause-lacks g c =
    inl (known_of-added c.args.self.now.facts.keys c.args.fact c.in_ok-added.added c.in_ok-added.ensures.added c.if-added.true)

pub returns-then-added-clause-unchanged : goal.returns-then-added-clause-unchanged
returns-then-added-clause-unchanged g c =
    let old = c.args.self.now in
    let kept = c.in-Err.ensures.unchanged in
    let lacks = known_of-added old.facts.keys c.args.fact c.in_ok-added.added c.in_ok-added.ensures.added c.if-added.true in
    ap (λ (v : WorkerView). record v { knows = c.remove.new.self.keys }) kept
    ∙ ap (λ (facts : List Fact). record (view_of old) { knows = facts })
    (facts_undone old.facts.keys c.learn_any.new.self.facts.keys c.remove.new.self.keys c.args.fact lacks
    (ap (λ (v : WorkerView). v.knows) kept ∙ c.in_ok-added.ensures.keys) c.remove.ensures.keys)
