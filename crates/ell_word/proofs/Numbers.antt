use Rattle.std.proofs.Common.{◌≡◌, ℕ, ◌<◌, arith}
use Rattle.ell_word.specs.Link.{linked, link_in, tag_unit, node_bound}

-- Linking what a number says gives the number again.
pub linked_again : (v : ℕ) → linked (link_in v) ≡ v
linked_again v = omega arith

-- The node that a number says is below the bound.
pub node_is_bound : (v : ℕ) → (link_in v).node < node_bound
node_is_bound v = omega arith

-- The number of a link says its node.
pub node_back : (node tag : ℕ) → node < node_bound → (link_in (linked (record { node = node; tag = tag }))).node ≡ node
node_back node tag small = omega (arith, small)

-- The number of a link says its tag.
pub tag_back : (node tag : ℕ) → node < node_bound → (link_in (linked (record { node = node; tag = tag }))).tag ≡ tag
tag_back node tag small = omega (arith, small)

-- The number of a link says that link.
pub link_back : (node tag : ℕ) → node < node_bound → link_in (linked (record { node = node; tag = tag })) ≡ record { node = node; tag = tag }
link_back node tag small =
    let same_node = node_back node tag small in
    let same_tag = tag_back node tag small in
    λ t. record { node = same_node t; tag = same_tag t }

-- Links of the same number have the same node and tag.
pub same_links : (node tag other another : ℕ) → node < node_bound → other < node_bound
    → linked (record { node = node; tag = tag }) ≡ linked (record { node = other; tag = another }) → (node ≡ other) × (tag ≡ another)
same_links node tag other another small less e = (omega (arith, small, less, e), omega (arith, small, less, e))

-- A number in 38 bits says itself as the node.
pub bare_says_node : (v : ℕ) → v < tag_unit → (link_in v).node ≡ v
bare_says_node v small = omega (arith, small)

-- It says tag 0.
pub bare_says_tag : (v : ℕ) → v < tag_unit → (link_in v).tag ≡ 0
bare_says_tag v small = omega (arith, small)
