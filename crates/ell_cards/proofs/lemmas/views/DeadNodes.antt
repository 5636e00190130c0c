use Rattle.std.proofs.Common.{◌≡◌, ℕ, zero, suc, ◌%◌, ◌||◌, Bool, true, false, inl, inr, ◌⊎◌, subst, arith}
use Rattle.std.proofs.lemmas.Bool.{false≢true}
use Rattle.std.proofs.lemmas.Bool.Decides.{nat_tests}
use Rattle.ell_word.specs.Node.{card}
use Rattle.ell_cards.specs.declared.card_nodes.CardNodes.{CardNodes}
use Rattle.ell_cards.specs.CardNodes.{has_node, node_alone, nodes_of_both}
use Rattle.ell_cards.specs.RetiringInSlots.{AllOfCard}

-- a node alone is the one at its place
alone : (place i : ℕ) → has_node (node_alone place) i ≡ true → place ≡ i
alone place zero is = grind (arith, nat_tests)
alone place (suc zero) is = grind (arith, nat_tests)
alone place (suc (suc zero)) is = grind (arith, nat_tests)
alone place (suc (suc (suc i))) is = absurd (false≢true is)

pub so_alone : (P : ℕ → Type 0) (x : ℕ) → P x → AllOfCard P (card x) (node_alone (x % 4))
so_alone P x so i is =
    let at = alone (x % 4) i is in
    subst P (omega arith) so

-- what is one of both is one of either
pub of_either : (b b' : Bool) → (b || b') ≡ true → (b ≡ true) ⊎ (b' ≡ true)
of_either true b' is = inl is
of_either false b' is = inr is

pub both : (nodes others : CardNodes) (i : ℕ) → has_node (nodes_of_both nodes others) i ≡ true → (has_node nodes i ≡ true) ⊎ (has_node others i ≡ true)
both nodes others zero is = of_either nodes.internal others.internal is
both nodes others (suc zero) is = of_either nodes.left others.left is
both nodes others (suc (suc zero)) is = of_either nodes.right others.right is
both nodes others (suc (suc (suc i))) is = absurd (false≢true is)
