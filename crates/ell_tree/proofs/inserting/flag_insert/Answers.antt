use Rattle.std.proofs.Common.{refl}
use Rattle.ell_core.specs.declared.fact.Fact.TheVariants.{IFlagged}
use Rattle.ell_core.specs.declared.exchange.Exchange.TheVariants as exchange
use Rattle.ell_tree.proofs.lemmas.Flagging.{may_iflag, flag_goes, flag_takes, flag_ends}
use Rattle.ell_tree.proofs.inserting.flag_insert.Goals as goal
use Rattle.ell_runs.specs.Plans.{new_node}

pub iflag-requires-clause-may : goal.iflag-requires-clause-may
iflag-requires-clause-may g c = may_iflag c.args.pass.now c.fill_insert.new.pass _ c.args.card (new_node c.args.steps.table.now.plan c.args.node_key) c.args.what c.args.place c.requires.card c.fill_insert.ensures.fills

pub returns : goal.returns
returns g c =
    let f = c.fill_insert in
    let parent = c.args.place.parent in
    record {
      keeps = flag_goes exchange.IFlag IFlagged c.args.card parent.node parent.update c.args.pass.now f.new.pass c.iflag.new.pass _ c.iflag.result f.ensures.fills c.iflag.ensures.step;
      taken = flag_takes exchange.IFlag IFlagged c.args.card parent.node parent.update c.args.pass.now f.new.pass c.iflag.new.pass _ c.iflag.result f.ensures.fills c.iflag.ensures.step refl;
      flags = flag_ends exchange.IFlag IFlagged c.args.card parent.node parent.update c.args.pass.now f.new.pass c.iflag.new.pass _ c.iflag.result f.ensures.fills c.iflag.ensures.step
          c.args.steps.table.now.plan.last_card c.requires.card.card.may.holds c.requires.node c.iflag.ensures.card;
    }
