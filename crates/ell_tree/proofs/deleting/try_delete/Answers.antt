use Rattle.std.proofs.Common.{None, ◌∙◌, rules}
use Rattle.ell_ops.specs.declared.op.Op.TheVariants.{Delete}
use Rattle.ell_ops.specs.declared.reply.Reply.TheVariants.{No}
use Rattle.ell_tree.proofs.lemmas.Sights.{ends_from}
use Rattle.ell_tree.proofs.lemmas.LettingGo.{lets_none_go}
use Rattle.ell_tree.proofs.lemmas.Owning.{keeps_answers, had_none}
use Rattle.ell_tree.proofs.lemmas.Meeting.{meets_trans}
use Rattle.ell_tree.proofs.lemmas.Halting.{seek_meets, said_meets}
use Rattle.ell_tree.proofs.lemmas.Trying.{searched, ends_after, took_after, takes_after}
use Rattle.ell_tree.proofs.deleting.try_delete.Goals as goal

pub delete_at-requires-clause-searched : goal.delete_at-requires-clause-searched
delete_at-requires-clause-searched g c =
    let s = c.search-place in
    searched c.args.steps.table.now.plan (Delete c.args.key) s.result c.args.pass.now s.new.pass _ s.ensures.keeps_but_search c.requires.root s.ensures.ends

-- no card is in hand yet
pub answer-requires-clause-retired : goal.answer-requires-clause-retired
answer-requires-clause-retired g c =
    lets_none_go c.args.steps.table.now.plan c.search-place.new.pass (c.search-place.ensures.keeps_but_search.card ∙ c.requires.root.no_card)

-- the key was not there
pub returns-then-place-key-clause-ends : goal.returns-then-place-key-clause-ends
returns-then-place-key-clause-ends g c =
    let a = c.args.pass.now in
    let s = c.search-place in
    let said = c.answer in
    let answers = said.ensures.answers (Delete c.args.key) (s.ensures.keeps_but_search.keeps.view.operation ∙ c.requires.root.busy) in (
      keeps_answers c.args.steps.table.now (Delete c.args.key) _ a s.new.pass said.new.pass _ s.ensures.keeps_but_search.keeps answers,
      meets_trans a.view s.new.pass.view said.new.pass.view (seek_meets a s.new.pass _ s.ensures.keeps_but_search)
          (said_meets s.new.pass.view said.new.pass.view said.ensures.hindrances said.ensures.facts),
      said.ensures.room,
    )

-- nothing was there to take
pub returns-then-place-key-clause-took : goal.returns-then-place-key-clause-took
returns-then-place-key-clause-took g c =
    let s = c.search-place in (
      record {
        mine = had_none c.args.steps.table.now.plan c.args.pass.now s.new.pass s.ensures.keeps_but_search.keeps.view.ledger s.result c.args.key s.ensures.ends (search rules);
        took = tt;
      },
      ends_from (Delete c.args.key) No None c.args.pass.now.sight s.new.pass.sight c.answer.new.pass.sight s.ensures.keeps_but_search.keeps.sight
          (c.answer.ensures.ended (Delete c.args.key) (s.ensures.keeps_but_search.keeps.view.operation ∙ c.requires.root.busy)),
    )

-- and otherwise what came after the search is what came of the try
pub returns-clause-ends : goal.returns-clause-ends
returns-clause-ends g c =
    let s = c.search-place in
    ends_after c.args.pass.now s.new.pass c.delete_at.new.pass _ s.ensures.keeps_but_search c.args.steps.table.now (Delete c.args.key) c.delete_at.result c.delete_at.ensures.ends

pub returns-clause-took : goal.returns-clause-took
returns-clause-took g c =
    let s = c.search-place in
    took_after c.args.pass.now s.new.pass c.delete_at.new.pass _ s.ensures.keeps_but_search c.args.steps.table.now c.args.key c.delete_at.result c.delete_at.ensures.took

pub returns-clause-taken : goal.returns-clause-taken
returns-clause-taken g c = λ plain.
    let s = c.search-place in
    takes_after c.args.pass.now s.new.pass c.delete_at.new.pass _ s.ensures.keeps_but_search (Delete c.args.key) c.delete_at.result (c.delete_at.ensures.taken plain)
