use Rattle.std.proofs.Common.{ap, arith, ◌∙◌}
use Rattle.ell_core.specs.declared.exchange.Exchange.TheVariants as exchange
use Rattle.ell_core.specs.declared.fact.Fact.TheVariants.{DFlagged}
use Rattle.ell_runs.specs.declared.view.View.{View}
use Rattle.ell_cards.specs.Models.{one_more}
use Rattle.ell_cards.proofs.lemmas.words.Outcomes.{flagged_so}
use Rattle.ell_runs.proofs.lemmas.words.Updates.{card_again}
use Rattle.ell_cards.proofs.steps.TableSteps.dflag.Goals as goal

pub pack-expected-requires : goal.pack-expected-requires
pack-expected-requires g c =
    let may = c.requires.may in
    let low = (c.names.ensures.named.grandparent may.leaf may.parent _ may.stands may.behind may.above).word in
    let room = c.names.ensures.room in
    let same = card_again c.args.from in
    omega arith

pub update_address-word-requires : goal.update_address-word-requires
update_address-word-requires g c =
    let may = c.requires.may in
    let low = c.names.ensures.placed.grandparent may.leaf may.parent _ may.stands may.behind may.above in
    omega arith

pub returns-clause-step : goal.returns-clause-step
returns-clause-step g c =
    let old = c.args.pass.now in
    c.flag-found.ensures.step
    ∙ ap (λ (v : View). record old { view = v; steps = one_more old.steps })
    (flagged_so exchange.DFlag c.args.card (DFlagged c.args.card) c.args.grandparent c.args.from old.view _ c.flag-found.result _ c.pack-expected.ensures c.update_outcome.ensures)
