use Rattle.std.specs.Prelude.{◌≡◌, ◌↔◌, ℕ, zero, suc, ◌⊎◌, ◌==◌, ◌||◌, ◌&&◌, ◌-◌, ◌/◌, ◌%◌, if◌then◌else◌, not, Bool, true, false}
use Rattle.ell_cards.specs.declared.card_nodes.CardNodes.{CardNodes}
use Rattle.ell_cards.specs.SlotWords.{is_retired, generation_in}

-- whether a node of the card is one of these, by its place among the three
abbrev pub has_node : CardNodes → ℕ → Bool
has_node nodes zero = nodes.internal
has_node nodes (suc zero) = nodes.left
has_node nodes (suc (suc zero)) = nodes.right
has_node nodes (suc (suc (suc i))) = false

-- all three, none, one alone, and those of two
abbrev pub all_nodes : CardNodes
all_nodes = record { internal = true; left = true; right = true }

abbrev pub no_nodes : CardNodes
no_nodes = record { internal = false; left = false; right = false }

abbrev pub node_alone : ℕ → CardNodes
node_alone place = record { internal = place == 0; left = place == 1; right = place == 2 }

abbrev pub nodes_of_both : CardNodes → CardNodes → CardNodes
nodes_of_both nodes others = record {
  internal = nodes.internal || others.internal;
  left = nodes.left || others.left;
  right = nodes.right || others.right;
}

-- whether all of these are retired by the word of the card's slot
abbrev pub all_are_retired : CardNodes → ℕ → Bool
all_are_retired nodes word =
    (not nodes.internal || is_retired word 0) && (not nodes.left || is_retired word 1)
    && (not nodes.right || is_retired word 2)

-- the word of a slot by which its card's internal node is retired too, or its left leaf, or its right one, if that is
-- asked for
abbrev pub retiring_first : Bool → ℕ → ℕ
retiring_first too n = if too && n % 2 == 1 then n - 1 else n

abbrev pub retiring_second : Bool → ℕ → ℕ
retiring_second too n = if too && n / 2 % 2 == 1 then n - 2 else n

abbrev pub retiring_third : Bool → ℕ → ℕ
retiring_third too n = if too && n / 4 % 2 == 1 then n - 4 else n

-- by another word of the slot they are retired too, and it is of the same generation
pub record RetiresToo (nodes : CardNodes) (word retired : ℕ) : Type 0 where
  pub generation : generation_in retired ≡ generation_in word
  pub each : (i : ℕ) → (is_retired retired i ≡ true) ↔ ((is_retired word i ≡ true) ⊎ (has_node nodes i ≡ true))
