use Rattle.std.proofs.Common.{◌≡◌, Bool, true, false, if◌then◌else◌, ℕ, refl, ◌∙◌}
use Rattle.ell_runs.specs.declared.view.Slots.{Slots}
use Rattle.ell_runs.specs.declared.view.View.{View}
use Rattle.ell_cards.specs.declared.card_nodes.CardNodes.{CardNodes}
use Rattle.ell_cards.specs.declared.retiring.Whose.TheVariants.{Own}
use Rattle.ell_cards.specs.declared.view.Retired.{Retired}
use Rattle.ell_cards.specs.LettingGo.{CutIsRetired}
use Rattle.ell_cards.specs.RetiringInSlots.{retires_in}
use Rattle.ell_cards.specs.Retiring.{with_retired}
use Rattle.ell_cards.specs.SlotWords.{has_slot_in}

-- what is retired of nodes that a card took out stays retired once some of its own are
parent_stays : (has : Bool) (nodes : CardNodes) (r : Retired) → (if has then with_retired Own nodes r else r).parent ≡ r.parent
parent_stays true nodes r = refl
parent_stays false nodes r = refl

leaf_stays : (has : Bool) (nodes : CardNodes) (r : Retired) → (if has then with_retired Own nodes r else r).leaf ≡ r.leaf
leaf_stays true nodes r = refl
leaf_stays false nodes r = refl

pub cut_stays : (s : Slots) (v : View) (r : Retired) (c : ℕ) (nodes : CardNodes) → CutIsRetired s v r c → CutIsRetired s v (retires_in s Own c nodes r) c
cut_stays s v r c nodes h = record {
  parent = h.parent;
  leaf = h.leaf;
  above = h.above;
  below = h.below;
  parent_retired = λ slot. parent_stays (has_slot_in s.last c) nodes r ∙ h.parent_retired slot;
  leaf_retired = λ node slot. leaf_stays (has_slot_in s.last c) nodes r ∙ h.leaf_retired node slot;
}
