use Rattle.std.proofs.Common.{◌+◌, false, refl, sym, ap, subst}
use Rattle.ell_ops.specs.Meaning.{greatest_key}
use Rattle.ell_word.specs.Link.{linked}
use Rattle.ell_cards.specs.Models.{PassModel}
use Rattle.ell_runs.specs.declared.view.View.{View}
use Rattle.ell_tree.specs.Cursors.{MayGoOnFrom}
use Rattle.ell_tree.proofs.lemmas.Cursors.{begins_look, begin_kept, first_kept}
use Rattle.ell_tree.proofs.lemmas.Links.{node_same}
use Rattle.ell_tree.proofs.cursor.Cursor.begin.Goals as goal

pub returns-clause-begins : goal.returns-clause-begins
returns-clause-begins g c =
    begins_look c.args.steps.table.now.plan.slots c.args.pass.now c.look-child.new.pass c.count.new.self (linked c.look-child.result) c.look-child.ensures.step c.look-child.ensures.looks c.count.ensures

pub returns-clause-kept : goal.returns-clause-kept
returns-clause-kept g c =
    let l = c.look-child in
    let cards = c.args.steps.table.now.plan.last_card in
    begin_kept cards c.count.new.self.view _ _ refl refl refl refl
    (subst (λ (v : View). MayGoOnFrom cards v (record { node = l.result.node; low = 0; high = greatest_key + 1; whole = false })) (sym (ap (λ (m : PassModel). m.view) c.count.ensures))
    (first_kept c.args.steps.table.now.plan.slots cards c.args.pass.now l.new.pass (linked l.result) l.result.node (node_same l.result l.ensures.word)
    l.ensures.step l.ensures.below l.ensures.there))
