-- The laws are lemmas on the way down to a card, and on how long it is.
use Rattle.ell_layout.proofs.lemmas.Branches.{tree_is_shallow}
use Rattle.ell_layout.proofs.lemmas.Depths.{depths_rise, depths_are_few, greatest_depth_is_small}
use Rattle.ell_layout.proofs.laws.balanced_trees_are_shallow.Goals as goal

pub returns : goal.returns
returns c = record { shallow = tree_is_shallow; deeper = depths_rise; few = depths_are_few; small = greatest_depth_is_small }
