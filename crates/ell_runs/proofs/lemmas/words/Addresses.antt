use Rattle.std.proofs.Common.{ℕ, ◌%◌}
use Rattle.ell_word.specs.Node.{card}
use Rattle.ell_layout.specs.declared.field.Field.TheVariants as field
use Rattle.ell_layout.specs.Layout.{address}
use Rattle.ell_layout.specs.Words.{key_field, value_field}

-- the address of the update word of a node
abbrev pub update_address : ℕ → ℕ
update_address x = address (card x) field.Update

-- the address of the key of a node
abbrev pub key_address : ℕ → ℕ
key_address x = address (card x) (key_field (x % 4))

-- the address of the value of a leaf
abbrev pub value_address : ℕ → ℕ
value_address x = address (card x) (value_field (x % 4))
