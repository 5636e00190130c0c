use Rattle.std.proofs.Common.{ap, arith, ◌∙◌}
use Rattle.ell_core.specs.declared.exchange.Exchange.TheVariants as exchange
use Rattle.ell_core.specs.declared.fact.Fact.TheVariants.{IFlagged}
use Rattle.ell_runs.specs.declared.view.View.{View}
use Rattle.ell_cards.specs.Models.{one_more}
use Rattle.ell_cards.proofs.lemmas.words.Outcomes.{flagged_so}
use Rattle.ell_runs.proofs.lemmas.words.Updates.{card_again}
use Rattle.ell_cards.proofs.steps.TableSteps.iflag.Goals as goal

pub pack-expected-requires : goal.pack-expected-requires
pack-expected-requires g c =
    let may = c.requires.may in
    let low = (c.names.ensures.named.parent may.leaf _ may.stands may.behind).word in
    let room = c.names.ensures.room in
    let same = card_again c.args.from in
    omega arith

pub update_address-word-requires : goal.update_address-word-requires
update_address-word-requires g c =
    let may = c.requires.may in
    let low = c.names.ensures.placed.parent may.leaf _ may.stands may.behind in
    omega arith

pub returns-clause-step : goal.returns-clause-step
returns-clause-step g c =
    let old = c.args.pass.now in
    c.flag-found.ensures.step
    ∙ ap (λ (v : View). record old { view = v; steps = one_more old.steps })
    (flagged_so exchange.IFlag c.args.card (IFlagged c.args.card) c.args.parent c.args.from old.view _ c.flag-found.result _ c.pack-expected.ensures c.update_outcome.ensures)
