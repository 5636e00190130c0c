use Rattle.std.proofs.Common.{true, false, inl, inr}
use Rattle.ell_layout.specs.declared.field.Field.TheVariants as field
use Rattle.ell_cards.proofs.steps.TableSteps.dchild.Goals as goal

-- what the card told of its parent is a link
pub exchange_child-requires-clause-link : goal.exchange_child-requires-clause-link
exchange_child-requires-clause-link g c = record {
  node = c.names.ensures.short.info c.args.card field.P c.args.parent.node c.requires.may.parent;
  tag = c.names.ensures.tags c.args.card c.args.parent.tag c.requires.may.expects;
}

-- and the sibling is a node of 38 bits
pub exchange_child-requires-clause-fits : goal.exchange_child-requires-clause-fits
exchange_child-requires-clause-fits g c none = elim c.requires.may.sibling [
  | inl told ↦ c.names.ensures.short.frozen c.args.card true c.args.sibling told.0
  | inr told ↦ c.names.ensures.short.frozen c.args.card false c.args.sibling told.1
]
