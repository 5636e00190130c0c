-- Nodes whose cards lie in their slots, by names, are told apart by what words hold of their names.
use Rattle.std.proofs.Common.{◌≡◌, ℕ, ◌%◌, sym, ap, ◌∙◌, arith}
use Rattle.ell_word.specs.Node.{card}
use Rattle.ell_runs.specs.Named.{IsNaming, named_node}
use Rattle.ell_runs.proofs.lemmas.named.NamedWords.{card_named, place_named}
use Rattle.ell_cards.specs.Apart.{cut_node}
use Rattle.ell_cards.specs.NamedRefinement.{LiesBy}
use Rattle.ell_cards.specs.SlotWords.{slot_of}
use Rattle.ell_cards.proofs.lemmas.shown.CutWords.{node_slot, node_place}

module _ (name : ℕ → ℕ) (naming : IsNaming name) where
  -- what a word holds of a node's name tells the slot of its card, and its announcement there
  cut_slot : (x : ℕ) → slot_of (card (cut_node (named_node name x))) ≡ slot_of (name (card x))
  cut_slot x = node_slot (named_node name x) ∙ ap slot_of (card_named name naming x)

  cut_place : (x : ℕ) → cut_node (named_node name x) % 4 ≡ x % 4
  cut_place x = node_place (named_node name x) ∙ place_named name naming x

  -- and each card lies alone in its slot
  pub lying_apart_by : (last : ℕ) (lie : ℕ → ℕ) (x y : ℕ) → LiesBy last name lie (card x) → LiesBy last name lie (card y)
      → cut_node (named_node name x) ≡ cut_node (named_node name y) → x ≡ y
  lying_apart_by last lie x y at at' same =
      let slots : slot_of (name (card x)) ≡ slot_of (name (card y)) = sym (cut_slot x) ∙ (ap (λ z. slot_of (card z)) same ∙ cut_slot y) in
      let cards : card x ≡ card y = sym at.1 ∙ (ap lie slots ∙ at'.1) in
      let announcements : x % 4 ≡ y % 4 = sym (cut_place x) ∙ (ap (λ z. z % 4) same ∙ cut_place y) in
      omega (arith, cards, announcements)
