use Rattle.ell_cards.proofs.lemmas.views.Steps.{info_told, info_met, info_deep}
use Rattle.ell_tree.proofs.lemmas.Reading.{info_walks}
use Rattle.ell_tree.proofs.steps.read_info.Goals as goal

pub returns : goal.returns
returns g c = record {
  keeps_all = info_walks c.args.pass.now c.info.new.pass c.args.card c.args.field c.info.result c.info.ensures.step;
  told = info_told c.args.pass.now c.info.new.pass c.args.card c.args.field c.info.result c.info.ensures.step;
  met = info_met c.args.pass.now c.info.new.pass c.args.card c.args.field c.info.result c.info.ensures.step;
  node = c.info.ensures.node;
  shallow = c.info.ensures.shallow;
  deeper = info_deep c.args.pass.now c.info.new.pass c.args.card c.args.field c.info.result c.info.ensures.step;
}
