use Rattle.std.proofs.Common.{◌≡◌, ℕ, ◌<◌, ◌≤◌, Some, arith}
use Rattle.ell_word.specs.declared.link.Link.{Link}
use Rattle.ell_word.specs.Link.{IsLink, greatest_tag, linked, link_in, node_bound, tag_unit}
use Rattle.ell_word.proofs.Numbers.{link_back, node_back}
use Rattle.ell_cards.specs.Apart.{NamesLowBits}
use Rattle.ell_runs.specs.Views.{StandsAt}
use Rattle.ell_runs.specs.declared.view.View.{View}
use Rattle.ell_tree.specs.declared.searching.Place.{Place}
use Rattle.ell_tree.specs.Searches.{node_with, seen}

-- what the number of a link says is the link
pub link_same : (l : Link) → l.node < node_bound → link_in (linked l) ≡ l
link_same l small = link_back l.node l.tag small

-- a link that has a word of 64 bits has a node that the number of a link can say
pub word_node : (l : Link) → IsLink l → l.node < node_bound
word_node l small = let node = small.node in omega (arith, node)

-- so the node of a link that was read is what its number says
pub node_same : (l : Link) → IsLink l → (link_in (linked l)).node ≡ l.node
node_same l small = node_back l.node l.tag (word_node l small)

-- the node where a search stands, with a tag that was read, has a word of 64 bits
pub place_link : (place : Place) (tag : ℕ) (v : View) → StandsAt v place.node → tag ≤ greatest_tag → NamesLowBits v → IsLink (node_with place tag)
place_link place tag v stands low short = record { node = short.node place.node stands; tag = low }

-- the node above it is in 38 bits
pub parent_low : (place : Place) (v : View) → v.worker.search.parent ≡ Some (seen place.parent) → NamesLowBits v → place.parent.node < tag_unit
parent_low place v behind short = short.parent (seen place.parent) behind
