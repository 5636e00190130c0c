-- A tree has at most one real key more than internal nodes.
use Rattle.ell_core.proofs.lemmas.tree.FewKeys.{HoldsKeys-from_room}
use Rattle.ell_core.proofs.laws.definitions.room_holds_keys.Goals as goal

pub returns : goal.returns
returns c = HoldsKeys-from_room
