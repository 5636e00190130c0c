use Rattle.ell_layout.specs.declared.field.Field.TheVariants as field
use Rattle.ell_cards.proofs.steps.TableSteps.ichild.Goals as goal

-- what the card told of its leaf is a link
pub exchange_child-requires-clause-link : goal.exchange_child-requires-clause-link
exchange_child-requires-clause-link g c = record {
  node = c.names.ensures.short.info c.args.card field.L c.args.leaf.node c.requires.may.leaf;
  tag = c.names.ensures.tags c.args.card c.args.leaf.tag c.requires.may.expects;
}
