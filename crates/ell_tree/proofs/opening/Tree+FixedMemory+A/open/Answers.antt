use Rattle.std.proofs.Common.{◌≡◌, ℕ, All, List, false, true, sym}
use Rattle.std.proofs.lemmas.Bool.{false≢true}
use Rattle.std.specs.Map.{keys_of}
use Rattle.ell_ops.specs.KeySet.{set_of}
use Rattle.ell_cards.specs.declared.kind.TreeKind.{TreeKind}
use Rattle.ell_cards.specs.declared.kind.TreeKind.TheVariants.{Owned, Shared, Flat, Reusing}
use Rattle.ell_cards.specs.Kinds.{MayStartWith, shares_others}
use Rattle.ell_tree.proofs.lemmas.PassParts.{first_pass}
use Rattle.ell_tree.proofs.opening.Tree+FixedMemory+A.open.Goals as goal

-- start keys are among the keys where the others are not shared
given_among : (kind : TreeKind) (keys : List ℕ) (start : List ℕ) → MayStartWith kind keys start → shares_others kind ≡ false
    → All (λ k. set_of keys k ≡ true) start
given_among Owned keys start given closed = given
given_among Shared keys start given closed = absurd (false≢true (sym closed))
given_among Flat keys start given closed = absurd (false≢true (sym closed))
given_among (Reusing passes) keys start given closed = absurd (false≢true (sym closed))

pub returns-clause-pass : goal.returns-clause-pass
returns-clause-pass g c =
    first_pass _ (c.in_ok-table.table, c.in_ok-table.pass)
    (given_among c.args.kind c.args.keys.now (keys_of c.args.start.now) c.requires.given) c.in_ok-table.ensures.opened
