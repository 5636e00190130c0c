use Rattle.std.proofs.Common.{◌∙◌, arith, refl, subst}
use Rattle.ell_ops.specs.declared.op.Op.TheVariants.{Find}
use Rattle.ell_tree.proofs.lemmas.LettingGo.{lets_none_go}
use Rattle.ell_tree.proofs.lemmas.Meeting.{meets_none, meets_trans}
use Rattle.ell_tree.proofs.lemmas.Halting.{seek_meets, said_meets}
use Rattle.ell_tree.specs.Ends.{Answers}
use Rattle.ell_tree.proofs.lemmas.Owning.{answers_begun, keeps_answers}
use Rattle.ell_tree.proofs.lemmas.Milestones.{milestones_more, milestones_same}
use Rattle.ell_tree.proofs.operations.find.Goals as goal

-- a find has no card in hand
pub answer-requires-clause-retired : goal.answer-requires-clause-retired
answer-requires-clause-retired g c =
    lets_none_go c.args.steps.table.now.plan c.search-place.new.pass (c.search-place.ensures.keeps_but_search.card ∙ c.begin.ensures.begins.root.no_card)

pub returns-clause-answers : goal.returns-clause-answers
returns-clause-answers g c =
    let begins = c.begin.ensures.begins in
    let answers = c.answer.ensures.answers (Find c.args.key) (c.search-place.ensures.keeps_but_search.keeps.view.operation ∙ begins.root.busy) in
    subst (λ r. Answers c.args.steps.table.now (Find c.args.key) r c.args.pass.now c.answer.new.pass) c.found.ensures
    (answers_begun c.args.steps.table.now (Find c.args.key) _ c.args.pass.now c.begin.new.pass c.begin.new.pass c.answer.new.pass begins.own begins.ledger begins.share c.begin.ensures.sees refl
    (keeps_answers c.args.steps.table.now (Find c.args.key) _ c.begin.new.pass c.search-place.new.pass c.answer.new.pass _ c.search-place.ensures.keeps_but_search.keeps answers))

-- an operation that begins, searches and is answered meets nothing; what was known stays known, and nothing was given out
pub returns-clause-quiet : goal.returns-clause-quiet
returns-clause-quiet g c =
    let cards = c.args.steps.table.now.plan.last_card in
    let a = c.args.pass.now in
    let begun = c.begin.ensures.begins in
    let keeps_but_search = c.search-place.ensures.keeps_but_search in
    let b = c.begin.new.pass in
    let s = c.search-place.new.pass in
    let said = c.answer.new.pass in
    let more = milestones_more cards a.view s.view (λ f h. keeps_but_search.keeps.view.knows f (begun.knows f h)) (omega (arith, begun.least, keeps_but_search.keeps.view.least)) in
    let same = milestones_same cards s.view said.view c.answer.ensures.facts c.answer.ensures.least in
    record {
      calm = c.answer.ensures.hindrances ∙ (keeps_but_search.hindrances ∙ begun.hindrances);
      meets = meets_trans a.view s.view said.view
          (meets_trans a.view b.view s.view (meets_none a.view b.view begun.hindrances begun.knows) (seek_meets b s _ keeps_but_search))
          (said_meets s.view said.view c.answer.ensures.hindrances c.answer.ensures.facts);
      hindered = c.answer.ensures.hindered ∙ (keeps_but_search.keeps.view.hindered ∙ begun.hindered);
      milestones = omega (arith, more, same);
    }
