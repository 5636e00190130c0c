use Rattle.std.specs.Prelude.{◌≡◌, ℕ, ◌-◌, ◌^◌, ◌≤◌, Bool, true, false, not, Option, Some, None, is_some, List, [], ◌∷◌}
use Rattle.ell_ops.specs.declared.op.Op.{Op}
use Rattle.ell_ops.specs.declared.op.Op.TheVariants.{Find, Insert, Delete, Swap}
use Rattle.ell_ops.specs.declared.reply.Reply.{Reply}
use Rattle.ell_ops.specs.declared.reply.Reply.TheVariants.{No, Yes, Found}
use Rattle.ell_ops.specs.Contents.{Contents, with_pair, without, with_swap}

-- the greatest key: the two numbers above it that 64 bits hold mark the ends of the tree
abbrev pub greatest_key : ℕ
greatest_key = 2 ^ 64 - 3

-- the most workers that there may be
abbrev pub most_workers : ℕ
most_workers = 64

-- the key that an operation is on
abbrev pub key_of : Op → ℕ
key_of (Find key) = key
key_of (Insert key value) = key
key_of (Delete key) = key
key_of (Swap key was value) = key

-- the operation's key is one that may be there
abbrev pub Fits : Op → Type 0
Fits op = key_of op ≤ greatest_key

-- yes exactly where it holds
abbrev pub yes_if : Bool → Reply
yes_if true = Yes
yes_if false = No

-- a value that was found, or no
abbrev pub found : Option ℕ → Reply
found (Some value) = Found value
found None = No

-- the reply of an operation where this is there
abbrev pub reply_of : Op → Contents → Reply
reply_of (Find key) there = found (there key)
reply_of (Insert key value) there = yes_if (not (is_some (there key)))
reply_of (Delete key) there = yes_if (is_some (there key))
reply_of (Swap key was value) there = found (there key)

-- what an operation leaves: an insert of a key that is there leaves its value
abbrev pub after : Op → Contents → Contents
after (Find key) there = there
after (Insert key value) there = with_pair there key value
after (Delete key) there = without there key
after (Swap key was value) there = with_swap there key was value

-- the operation adds a key that is not there
abbrev pub AddsKey : Op → Contents → Type 0
AddsKey (Find key) there = ⊥
AddsKey (Insert key value) there = there key ≡ None
AddsKey (Delete key) there = ⊥
AddsKey (Swap key was value) there = ⊥

-- the reply of each operation of a list, in order, where this is there at first
abbrev pub replies : Contents → List Op → List Reply
replies there [] = []
replies there (op ∷ ops) = reply_of op there ∷ replies (after op there) ops

-- what the list leaves
abbrev pub final : Contents → List Op → Contents
final there [] = there
final there (op ∷ ops) = final (after op there) ops
