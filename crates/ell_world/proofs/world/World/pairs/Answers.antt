-- The tree of a world is lawful, its nodes are those of the table, and so both lists have room.
use Rattle.std.proofs.Common.{ℕ, ◌+◌, ◌≤◌, arith, ap, subst, sym, ◌∙◌}
use Rattle.std.specs.Prelude.{vec_capacity}
use Rattle.ell_world.specs.declared.world.World.TheInside.{Inside}
use Rattle.ell_core.specs.tree.Tree.{Reached, IsLawful, ListsTreePairs}
use Rattle.ell_core.specs.tree.Room.{HasRoom}
use Rattle.ell_world.specs.Fits.{IsTableNode}
use Rattle.ell_world.specs.Inside.{words_in}
use Rattle.ell_world.specs.World.{WorldValue, machine_of}
use Rattle.ell_world.specs.WorldInside.{value_in, InsideFits}
use Rattle.ell_core.proofs.lemmas.tree.FewKeys.{HoldsKeys-from_room}
use Rattle.ell_core.proofs.lemmas.following.Sound.{sound}
use Rattle.ell_world.proofs.lemmas.Turns.{words_are, cards_are}
use Rattle.ell_world.proofs.world.World.pairs.Goals as goal

-- the tree is lawful
lawful : {A : Type 0} (world : Inside A) → InsideFits world → IsLawful (words_in world.memory)
lawful world fits =
    subst IsLawful (sym (words_are world.memory world.workers.items))
    (sound (machine_of (value_in world)) fits.lawful.stages fits.lawful.invariant).tree

-- a reached node is one of the table
node : {A : Type 0} (world : Inside A) → InsideFits world → (x : ℕ) → Reached (words_in world.memory) x → IsTableNode world.memory.last_card x
node world fits x reached =
    let value = value_in world in
    let names = (sound (machine_of value) fits.lawful.stages fits.lawful.invariant).names in
    let there = subst (λ w. Reached w x) (words_are world.memory world.workers.items) reached in
    let below = names.nodes x there in
    let limit = fits.lawful.invariant.limit in
    let cards = cards_are world.memory world.workers.items in
    (omega arith, names.numbers x there)

-- two places more than the number of cards are room
room : {A : Type 0} (world : Inside A) (places : ℕ) → InsideFits world → world.memory.last_card + 2 ≤ places → HasRoom (words_in world.memory) places
room world places fits enough x reached = let inside = (node world fits x reached).0 in omega arith

pub pairs_of_tree-requires-clause-lawful : goal.pairs_of_tree-requires-clause-lawful
pairs_of_tree-requires-clause-lawful g c = lawful c.self.inside c.self.invariant

pub pairs_of_tree-requires-clause-readable : goal.pairs_of_tree-requires-clause-readable
pairs_of_tree-requires-clause-readable g c x reached =
    (record { size = c.self.invariant.size; limit = c.self.invariant.limit }, node c.self.inside c.self.invariant x reached)

pub pairs_of_tree-requires-clause-room : goal.pairs_of_tree-requires-clause-room
pairs_of_tree-requires-clause-room g c =
    room c.self.inside (vec_capacity c.in_ok-waiting.waiting) c.self.invariant (omega (arith, c.in_ok-waiting.ensures.capacity))

pub pairs_of_tree-requires-clause-pairs_room : goal.pairs_of_tree-requires-clause-pairs_room
pairs_of_tree-requires-clause-pairs_room g c =
    HoldsKeys-from_room (words_in c.self.inside.memory) (vec_capacity c.in_ok-pairs.pairs) (lawful c.self.inside c.self.invariant)
    (room c.self.inside (vec_capacity c.in_ok-pairs.pairs) c.self.invariant (omega (arith, c.in_ok-pairs.ensures.capacity)))

pub returns : goal.returns
returns g c =
    subst (λ w. ListsTreePairs w c.pairs_of_tree.result.items)
    (words_are c.self.inside.memory c.self.inside.workers.items ∙ ap (λ (value : WorldValue). (machine_of value).words) c.self.view_is)
    c.pairs_of_tree.ensures
