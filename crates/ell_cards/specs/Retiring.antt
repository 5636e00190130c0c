-- What a pass retires of the nodes that its card in hand made dead.
use Rattle.std.specs.Prelude.{ℕ, ◌+◌, ◌==◌, ◌||◌, not, if◌then◌else◌, Bool, false}
use Rattle.ell_cards.specs.declared.card_nodes.CardNodes.{CardNodes}
use Rattle.ell_cards.specs.declared.retiring.Whose.{Whose}
use Rattle.ell_cards.specs.declared.retiring.Whose.TheVariants.{TakenOut, Own}
use Rattle.ell_cards.specs.declared.view.Retired.{Retired}
use Rattle.ell_cards.specs.CardNodes.{all_are_retired, no_nodes, nodes_of_both}
use Rattle.ell_cards.specs.SlotWords.{is_retired, generation_in, generation_of}

-- a pass that has retired nothing for its card in hand
abbrev pub none_retired : Retired
none_retired = record { parent = false; leaf = false; own = no_nodes }

-- What a pass has retired for its card in hand, once it has retired these nodes of one card too: nodes that the card in
-- hand has taken out, of which the internal one is the parent and another one the leaf; or nodes of that card itself.
abbrev pub with_retired : Whose → CardNodes → Retired → Retired
with_retired TakenOut nodes r =
    record r { parent = r.parent || nodes.internal; leaf = r.leaf || (nodes.left || nodes.right) }
with_retired Own nodes r = record r { own = nodes_of_both r.own nodes }

-- Whether by the word of a card's slot none of these nodes of the card is left to be retired: they are all retired by
-- the word, as they are where it sets the slot free; or it is of another generation than the card, which is the one in
-- hand.
abbrev pub is_done : Whose → ℕ → CardNodes → ℕ → Bool
is_done TakenOut c nodes word = all_are_retired nodes word
is_done Own c nodes word = all_are_retired nodes word || not (generation_in word == generation_of c)

-- a pass has read such a word, or another one
abbrev pub retires_if : Bool → Whose → CardNodes → Retired → Retired
retires_if done whose nodes r = if done then with_retired whose nodes r else r

-- how many of the three nodes are retired by a word
abbrev pub one_if : Bool → ℕ
one_if notes = if notes then 1 else 0

abbrev pub how_many_retired : ℕ → ℕ
how_many_retired n = one_if (is_retired n 0) + one_if (is_retired n 1) + one_if (is_retired n 2)
