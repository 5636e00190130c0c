use Rattle.std.specs.Prelude.{ℕ, ◌+◌, ◌*◌, ◌/◌, ◌%◌, ◌-◌, ◌<◌, ◌≤◌}
use Rattle.ell_word.specs.Node.{generation_size}
use Rattle.ell_word.specs.declared.link.Link.{Link}

-- a child word has the node in its low 38 bits, and the tag above
abbrev pub tag_unit : ℕ
tag_unit = 274877906944

-- the greatest tag: it has 26 bits
abbrev pub greatest_tag : ℕ
greatest_tag = generation_size - 1

-- a link that has a word of 64 bits
pub record IsLink (link : Link) : Type 0 where
  pub node : link.node < tag_unit
  pub tag : link.tag ≤ greatest_tag

-- the numbers of nodes, and words, are below 2^64
abbrev pub node_bound : ℕ
node_bound = 18446744073709551616

-- The number of a link, for any tag and any node below the bound. Its low 64 bits are a child word, with the low 38 bits
-- of the node and the low 26 bits of the tag. The other 26 bits of the node stand above these, and the other bits of the
-- tag at the top.
abbrev pub linked : Link → ℕ
linked link = link.node % tag_unit + tag_unit * (link.tag % generation_size)
    + node_bound * (link.node / tag_unit + generation_size * (link.tag / generation_size))

-- the link that a number says
abbrev pub link_in : ℕ → Link
link_in word = record {
  node = word % tag_unit + tag_unit * (word / node_bound % generation_size);
  tag = word / tag_unit % generation_size + generation_size * (word / (node_bound * generation_size));
}
