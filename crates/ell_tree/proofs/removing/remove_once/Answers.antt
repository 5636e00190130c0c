use Rattle.std.proofs.Common.{◌≡◌, ◌+◌, Some, true, false, is_some, ap, ◌∙◌, refl, subst, rules, arith}
use Rattle.ell_ops.specs.declared.op.Op.TheVariants.{Delete}
use Rattle.ell_ops.specs.declared.reply.Reply.TheVariants.{Yes}
use Rattle.ell_ops.specs.Meaning.{yes_if}
use Rattle.ell_runs.proofs.lemmas.runs.Tries.{more_tries}
use Rattle.ell_cards.proofs.lemmas.views.Steps.{own_trans}
use Rattle.ell_tree.specs.Ends.{AnswersAs, TakesValue, is_value}
use Rattle.ell_tree.specs.Searches.{there_at}
use Rattle.ell_tree.specs.declared.trying.Tried.TheVariants.{Hindered, Spent}
use Rattle.ell_tree.proofs.lemmas.Computing.{untouched_still}
use Rattle.ell_tree.proofs.lemmas.Hindrances.{halts_hindered, one_hindered}
use Rattle.ell_tree.proofs.lemmas.Keeping.{share_trans}
use Rattle.ell_tree.proofs.lemmas.LettingGo.{lets_none_go}
use Rattle.ell_tree.proofs.lemmas.Milestones.{milestones_one, milestones_same}
use Rattle.ell_tree.proofs.lemmas.Owning.{answers_begun, keeps_answers, takes_before}
use Rattle.ell_tree.proofs.lemmas.Removing.{at_that, halts_given_up, not_at}
use Rattle.ell_tree.proofs.lemmas.Trying.{searched, ends_after}
use Rattle.ell_runs.specs.Seeing.{SeesEnd}
use Rattle.ell_tree.proofs.lemmas.Sights.{sees_call, sees_none}
use Rattle.ell_tree.proofs.removing.remove_once.Goals as goal

pub delete_at-requires-clause-searched : goal.delete_at-requires-clause-searched
delete_at-requires-clause-searched g c =
    let s = c.search-place in
    searched c.args.steps.table.now.plan (Delete c.args.key) s.result c.begin.new.pass s.new.pass _ s.ensures.keeps_but_search c.begin.ensures.begins.root s.ensures.ends

-- no card is in hand, or the pass may let it go
pub leave-requires-clause-retired : goal.leave-requires-clause-retired
leave-requires-clause-retired g c =
    lets_none_go c.args.steps.table.now.plan c.search-place.new.pass (c.search-place.ensures.keeps_but_search.card ∙ c.begin.ensures.begins.root.no_card)

pub leave-requires-in-Spent-clause-retired : goal.leave-requires-in-Spent-clause-retired
leave-requires-in-Spent-clause-retired g c = c.in-Spent.ensures.ends.2

pub leave-requires-in-Hindered-clause-retired : goal.leave-requires-in-Hindered-clause-retired
leave-requires-in-Hindered-clause-retired g c = c.in-Hindered.ensures.ends.3

-- another value was there, or none: the delete was given up
pub returns-then-not-is_value-clause-removes : goal.returns-then-not-is_value-clause-removes
returns-then-not-is_value-clause-removes g c =
    let a = c.args.pass.now in
    let begins = c.begin.ensures.begins in
    let s = c.search-place in
    let keeps = s.ensures.keeps_but_search.keeps in
    let new = c.leave.new.pass in
    let gives_up = c.leave.ensures.gives_up (Delete c.args.key) (keeps.view.operation ∙ begins.root.busy) in
    let other : is_value c.args.was (there_at s.result c.args.key) ≡ false = search rules in (
      untouched_still a new (own_trans a s.new.pass new (own_trans a c.begin.new.pass s.new.pass begins.own keeps.own) gives_up.own)
          (gives_up.ledger ∙ (keeps.view.ledger ∙ begins.ledger))
          (share_trans a.view s.new.pass.view new.view (share_trans a.view c.begin.new.pass.view s.new.pass.view begins.share keeps.view.share) gives_up.share) gives_up.idle gives_up.unpinned
          (sees_none (Delete c.args.key) a.sight c.begin.new.pass.sight new.sight c.begin.ensures.sees (gives_up.sight ∙ keeps.sight)),
      not_at c.args.steps.table.now.plan a s.new.pass s.result c.args.key c.args.was (keeps.view.ledger ∙ begins.ledger) s.ensures.ends other,
    )

pub returns-then-not-is_value-clause-steps : goal.returns-then-not-is_value-clause-steps
returns-then-not-is_value-clause-steps g c =
    let keeps = c.search-place.ensures.keeps_but_search.keeps in
    let gives_up = c.leave.ensures.gives_up (Delete c.args.key) (keeps.view.operation ∙ c.begin.ensures.begins.root.busy) in
    let start = c.begin.ensures.begins.took in
    record {
      steps = omega (arith, start.steps, keeps.took.steps, gives_up.took.steps);
      made = λ plain. omega (arith, start.made, keeps.took.made, gives_up.took.made);
    }

pub returns-then-not-is_value-clause-counted : goal.returns-then-not-is_value-clause-counted
returns-then-not-is_value-clause-counted g c =
    let keeps = c.search-place.ensures.keeps_but_search.keeps in
    let gives_up = c.leave.ensures.gives_up (Delete c.args.key) (keeps.view.operation ∙ c.begin.ensures.begins.root.busy) in
    let one = one_hindered c.search-place.new.pass.view in
    record {
      least = omega (arith, one.0, gives_up.hindered, keeps.view.hindered, c.begin.ensures.begins.hindered);
      most = omega (arith, one.1, gives_up.hindered, keeps.view.hindered, c.begin.ensures.begins.hindered);
    }

pub returns-then-not-is_value-clause-cards : goal.returns-then-not-is_value-clause-cards
returns-then-not-is_value-clause-cards g c = λ plain.
    let kept = c.search-place.ensures.keeps_but_search in
    let gives_up = c.leave.ensures.gives_up (Delete c.args.key) (kept.keeps.view.operation ∙ c.begin.ensures.begins.root.busy) in
    let one = one_hindered c.search-place.new.pass.view in
    let none = gives_up.taken ∙ (kept.taken ∙ c.begin.ensures.begins.taken) in
    record {
      most = record { least = omega (arith, none); most = omega (arith, none) };
      each = omega (arith, none, one.0, gives_up.hindered, kept.keeps.view.hindered, c.begin.ensures.begins.hindered);
      unchanged = λ owns same. none;
    }

-- the key was deleted with the value of the leaf where the search ended
pub returns-in-Answered-clause-removes : goal.returns-in-Answered-clause-removes
returns-in-Answered-clause-removes g c =
    let t = c.args.steps.table.now in
    let key = c.args.key in
    let op = Delete key in
    let a = c.args.pass.now in
    let begins = c.begin.ensures.begins in
    let b = c.begin.new.pass in
    let s = c.search-place in
    let keeps = s.ensures.keeps_but_search.keeps in
    let d = c.delete_at.new.pass in
    let that : is_value c.args.was (there_at s.result key) ≡ true = search rules in
    let had : c.in-Answered.field-0 ≡ Some c.args.was = c.in-Answered.ensures.value ∙ ap Some (at_that s.result key c.args.was that).1 in
    let yes : AnswersAs SeesEnd t op Yes s.new.pass d = subst (λ o. AnswersAs SeesEnd t op (yes_if (is_some o)) s.new.pass d) had c.in-Answered.ensures.ends.0 in
    let took : TakesValue t key s.new.pass d (Some c.args.was) × SeesEnd op Yes (Some c.args.was) s.new.pass.sight d.sight =
    subst (λ o. TakesValue t key s.new.pass d o × SeesEnd op (yes_if (is_some o)) o s.new.pass.sight d.sight) had c.in-Answered.ensures.took in (
      answers_begun t op Yes a b b d begins.own begins.ledger begins.share c.begin.ensures.sees refl (keeps_answers t op Yes b s.new.pass d _ keeps yes),
      takes_before t key (Some c.args.was) a s.new.pass d (keeps.view.ledger ∙ begins.ledger) took.0,
      sees_call op Yes (Some c.args.was) a.sight b.sight s.new.pass.sight d.sight c.begin.ensures.sees keeps.sight took.1,
    )

-- no card was left, or something was in the way: so it was
pub returns-in-Spent-clause-removes : goal.returns-in-Spent-clause-removes
returns-in-Spent-clause-removes g c =
    let t = c.args.steps.table.now in
    let op = Delete c.args.key in
    let b = c.begin.new.pass in
    let s = c.search-place in
    let d = c.delete_at.new.pass in
    let ended = ends_after b s.new.pass d _ s.ensures.keeps_but_search t op Spent c.in-Spent.ensures.ends in
    let gives_up = c.leave-in-Spent.ensures.gives_up op ended.0.stops.busy in
    (halts_given_up t op c.args.pass.now b d c.leave-in-Spent.new.pass _ c.begin.ensures.begins c.begin.ensures.sees ended.0 gives_up, λ empty. gives_up.next ∙ ended.1 empty)

pub returns-in-Hindered-clause-removes : goal.returns-in-Hindered-clause-removes
returns-in-Hindered-clause-removes g c =
    let t = c.args.steps.table.now in
    let op = Delete c.args.key in
    let b = c.begin.new.pass in
    let s = c.search-place in
    let d = c.delete_at.new.pass in
    let ended = ends_after b s.new.pass d _ s.ensures.keeps_but_search t op Hindered c.in-Hindered.ensures.ends in
    let gives_up = c.leave-in-Hindered.ensures.gives_up op ended.0.stops.busy in
    (halts_given_up t op c.args.pass.now b d c.leave-in-Hindered.new.pass _ c.begin.ensures.begins c.begin.ensures.sees ended.0 gives_up, tt)

-- and that is others' doing
pub returns-in-Hindered-clause-others : goal.returns-in-Hindered-clause-others
returns-in-Hindered-clause-others g c = λ not_done.
    let t = c.args.steps.table.now in
    let op = Delete c.args.key in
    let a = c.args.pass.now in
    let b = c.begin.new.pass in
    let begins = c.begin.ensures.begins in
    let s = c.search-place in
    let d = c.delete_at.new.pass in
    let new = c.leave-in-Hindered.new.pass in
    let ended = ends_after b s.new.pass d _ s.ensures.keeps_but_search t op Hindered c.in-Hindered.ensures.ends in
    let gives_up = c.leave-in-Hindered.ensures.gives_up op ended.0.stops.busy in
    let counts = halts_hindered op b d ended.0 ended.1 in
    let each : new.view.hindered ≡ a.view.hindered + 1 =
    omega (arith, gives_up.hindered, counts, c.delete_at.ensures.hindered, s.ensures.keeps_but_search.keeps.view.hindered, begins.hindered) in
    let one = milestones_one t.plan.last_card a.view b.view d.view begins.before begins.least (λ f h. ended.0.meets.knows f (begins.knows f h)) ended.2 in
    let same = milestones_same t.plan.last_card d.view new.view gives_up.facts gives_up.least in
    record {
      each = each;
      milestones = omega (arith, one, same);
      by_others = more_tries t.plan a.view.hindered new.view 1 each;
    }

pub returns-in-Spent-clause-steps : goal.returns-in-Spent-clause-steps
returns-in-Spent-clause-steps g c =
    let keeps = c.search-place.ensures.keeps_but_search.keeps in
    let gives_up = c.leave-in-Spent.ensures.gives_up (Delete c.args.key) c.in-Spent.ensures.ends.0.stops.busy in
    let start = c.begin.ensures.begins.took in
    record {
      steps = omega (arith, start.steps, keeps.took.steps, c.delete_at.ensures.steps, gives_up.took.steps);
      made = λ plain. let rest = c.delete_at.ensures.made plain in omega (arith, start.made, keeps.took.made, rest, gives_up.took.made);
    }

pub returns-in-Hindered-clause-steps : goal.returns-in-Hindered-clause-steps
returns-in-Hindered-clause-steps g c =
    let keeps = c.search-place.ensures.keeps_but_search.keeps in
    let gives_up = c.leave-in-Hindered.ensures.gives_up (Delete c.args.key) c.in-Hindered.ensures.ends.0.stops.busy in
    let start = c.begin.ensures.begins.took in
    record {
      steps = omega (arith, start.steps, keeps.took.steps, c.delete_at.ensures.steps, gives_up.took.steps);
      made = λ plain. let rest = c.delete_at.ensures.made plain in omega (arith, start.made, keeps.took.made, rest, gives_up.took.made);
    }

pub returns-in-Spent-clause-counted : goal.returns-in-Spent-clause-counted
returns-in-Spent-clause-counted g c =
    let keeps = c.search-place.ensures.keeps_but_search.keeps in
    let gives_up = c.leave-in-Spent.ensures.gives_up (Delete c.args.key) c.in-Spent.ensures.ends.0.stops.busy in
    let one = one_hindered c.delete_at.new.pass.view in
    record {
      least = omega (arith, one.0, gives_up.hindered, c.delete_at.ensures.hindered, keeps.view.hindered, c.begin.ensures.begins.hindered);
      most = omega (arith, one.1, gives_up.hindered, c.delete_at.ensures.hindered, keeps.view.hindered, c.begin.ensures.begins.hindered);
    }

pub returns-in-Hindered-clause-counted : goal.returns-in-Hindered-clause-counted
returns-in-Hindered-clause-counted g c =
    let keeps = c.search-place.ensures.keeps_but_search.keeps in
    let gives_up = c.leave-in-Hindered.ensures.gives_up (Delete c.args.key) c.in-Hindered.ensures.ends.0.stops.busy in
    let one = one_hindered c.delete_at.new.pass.view in
    record {
      least = omega (arith, one.0, gives_up.hindered, c.delete_at.ensures.hindered, keeps.view.hindered, c.begin.ensures.begins.hindered);
      most = omega (arith, one.1, gives_up.hindered, c.delete_at.ensures.hindered, keeps.view.hindered, c.begin.ensures.begins.hindered);
    }

pub returns-in-Spent-clause-cards : goal.returns-in-Spent-clause-cards
returns-in-Spent-clause-cards g c = λ plain.
    let kept = c.search-place.ensures.keeps_but_search in
    let gives_up = c.leave-in-Spent.ensures.gives_up (Delete c.args.key) c.in-Spent.ensures.ends.0.stops.busy in
    let one = one_hindered c.delete_at.new.pass.view in
    let none = gives_up.taken ∙ (c.in-Spent.ensures.taken plain ∙ (kept.taken ∙ c.begin.ensures.begins.taken)) in
    record {
      most = record { least = omega (arith, none); most = omega (arith, none) };
      each = omega (arith, none, one.0, gives_up.hindered, c.delete_at.ensures.hindered, kept.keeps.view.hindered, c.begin.ensures.begins.hindered);
      unchanged = λ owns same. none;
    }

pub returns-in-Hindered-clause-cards : goal.returns-in-Hindered-clause-cards
returns-in-Hindered-clause-cards g c = λ plain.
    let op = Delete c.args.key in
    let b = c.begin.new.pass in
    let s = c.search-place in
    let d = c.delete_at.new.pass in
    let kept = s.ensures.keeps_but_search in
    let ended = ends_after b s.new.pass d _ kept c.args.steps.table.now op Hindered c.in-Hindered.ensures.ends in
    let gives_up = c.leave-in-Hindered.ensures.gives_up op ended.0.stops.busy in
    let counts = halts_hindered op b d ended.0 ended.1 in
    let few = c.in-Hindered.ensures.taken plain in
    let none = kept.taken ∙ c.begin.ensures.begins.taken in
    record {
      most = record { least = omega (arith, gives_up.taken, few.least, none); most = omega (arith, gives_up.taken, few.most, none) };
      each = omega (arith, gives_up.taken, few.most, none, gives_up.hindered, counts, c.delete_at.ensures.hindered, kept.keeps.view.hindered, c.begin.ensures.begins.hindered);
      unchanged = λ owns same. absurd cc;
    }
