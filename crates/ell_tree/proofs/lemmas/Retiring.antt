use Rattle.std.proofs.Common.{◌≡◌, ℕ, Some, sym, ◌∙◌, subst, max, min}
use Rattle.ell_ops.specs.declared.op.Op.{Op}
use Rattle.ell_core.specs.declared.fact.Fact.TheVariants as fact
use Rattle.ell_core.specs.declared.put.Put.{Put}
use Rattle.ell_core.specs.acts.Searching.{put_of}
use Rattle.ell_layout.specs.Words.{IsLeaf}
use Rattle.ell_runs.specs.declared.view.View.{View}
use Rattle.ell_runs.specs.Holding.{HasFlagged}
use Rattle.ell_runs.specs.Views.{Does, Knows}
use Rattle.ell_cards.specs.declared.view.Retired.{Retired}
use Rattle.ell_cards.specs.Ended.{HasPut}
use Rattle.ell_cards.specs.Models.{PassModel}
use Rattle.ell_cards.specs.RetiringInSlots.{RetiresOnly}
use Rattle.ell_cards.proofs.lemmas.views.Steps.{own_same, own_trans}
use Rattle.ell_tree.specs.declared.searching.Place.{Place}
use Rattle.ell_tree.specs.Helps.{IsInsert}
use Rattle.ell_tree.specs.Keeping.{Keeps, KeepsAll, KeepsAllButMet, LosesNothing}
use Rattle.ell_tree.specs.Searches.{node_with}

-- what a pass kept it has kept once it has retired nodes
keeps_retired : (a m : PassModel) (retired : Retired) (n : ℕ) → Keeps a m n → Keeps a (record m { memory = record (m.memory) { retired = retired } }) n
keeps_retired a m retired n h = record { own = own_trans a m _ h.own (own_same m); sight = h.sight; slot = h.slot; view = h.view; took = record { steps = h.took.steps; made = h.took.made } }

pub keeps_all_retired : (a m m' : PassModel) (n : ℕ) → KeepsAll a m n → RetiresOnly m m' → KeepsAll a m' n
keeps_all_retired a m m' n h same = subst (λ x. KeepsAll a x n) (sym same) (record {
  keeps = keeps_retired a m _ n h.keeps;
  taken = h.taken;
  card = h.card;
  flagged = h.flagged;
  search = h.search;
  hindrances = h.hindrances;
})

pub keeps_but_met_retired : (a m m' : PassModel) (n : ℕ) → KeepsAllButMet a m n → RetiresOnly m m' → KeepsAllButMet a m' n
keeps_but_met_retired a m m' n h same = subst (λ x. KeepsAllButMet a x n) (sym same) (record {
  keeps = keeps_retired a m _ n h.keeps;
  taken = h.taken;
  card = h.card;
  flagged = h.flagged;
  search = h.search;
})

-- what was known of the card of an insert or a swap when its flag stood is known once it is over
pub has_put : (f m : View) (c : ℕ) (op : Op) (what : Put) (place : Place) → put_of op ≡ Some what → LosesNothing f m → Does f op → HasFlagged m c → Knows m (fact.IOver c)
    → IsInsert f c place.parent.node (node_with place place.parent.tag) (max what.key place.key) (min what.key place.key)
    → (place.key ≡ what.key → IsLeaf place.node) → HasPut what place.node place.key m c
has_put f m c op what place puts k busy hand over is outer = record {
  op = op;
  puts = puts;
  busy = k.operation ∙ busy;
  hand = hand;
  over = over;
  below = k.told _ is.leaf;
  left_key = k.told _ is.left_key;
  right_key = k.told _ is.right_key;
  outer = outer;
}
