use Rattle.std.proofs.Common.{refl}
use Rattle.ell_core.specs.declared.fact.Fact.TheVariants.{DFlagged}
use Rattle.ell_core.specs.declared.exchange.Exchange.TheVariants as exchange
use Rattle.ell_tree.proofs.lemmas.Flagging.{may_dflag, flag_goes, flag_takes, flag_ends}
use Rattle.ell_tree.proofs.deleting.flag_delete.Goals as goal

pub dflag-requires-clause-may : goal.dflag-requires-clause-may
dflag-requires-clause-may g c =
    may_dflag c.args.pass.now c.fill_delete.new.pass _ c.args.card c.requires.card.0 c.args.place c.args.above c.requires.above c.requires.card.1 c.fill_delete.ensures.fills

pub returns : goal.returns
returns g c =
    let f = c.fill_delete in
    let above = c.args.above in
    record {
      keeps = flag_goes exchange.DFlag DFlagged c.args.card above.node above.update c.args.pass.now f.new.pass c.dflag.new.pass _ c.dflag.result f.ensures.fills c.dflag.ensures.step;
      taken = flag_takes exchange.DFlag DFlagged c.args.card above.node above.update c.args.pass.now f.new.pass c.dflag.new.pass _ c.dflag.result f.ensures.fills c.dflag.ensures.step refl;
      flags = flag_ends exchange.DFlag DFlagged c.args.card above.node above.update c.args.pass.now f.new.pass c.dflag.new.pass _ c.dflag.result f.ensures.fills c.dflag.ensures.step
          c.args.steps.table.now.plan.last_card c.requires.card.1.may.holds c.requires.node c.dflag.ensures.card;
    }
