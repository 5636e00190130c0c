-- A card is asked for where a search ended, and taken, or not.
use Rattle.std.proofs.Common.{◌≡◌, ℕ, true, None, List, [], ◌∷◌, sym, ◌∙◌, ap, subst, arith}
use Rattle.ell_ops.specs.declared.op.Op.{Op}
use Rattle.ell_word.specs.declared.update.State.TheVariants as state
use Rattle.ell_core.specs.declared.fact.Fact.{Fact}
use Rattle.ell_core.specs.declared.view.Search.{Search}
use Rattle.ell_core.specs.state.Facts.{known_of}
use Rattle.ell_runs.specs.declared.call.NewNode.{NewNode}
use Rattle.ell_runs.specs.declared.view.Hindrance.TheVariants.{Claim}
use Rattle.ell_runs.specs.declared.view.Told.TheVariants.{Met}
use Rattle.ell_runs.specs.declared.view.View.{View}
use Rattle.ell_runs.specs.Changes.{expected_tag, filling_of}
use Rattle.ell_runs.specs.Guards.{Wants}
use Rattle.ell_runs.specs.Plans.{TablePlan, flat_from}
use Rattle.ell_runs.specs.Views.{Does, earlier, latest}
use Rattle.ell_runs.proofs.lemmas.words.Updates.{clean_word}
use Rattle.ell_cards.specs.Claiming.{AsksForCard, LosesCard, MayAskForCard, TakesCard, TakesNone}
use Rattle.ell_cards.specs.Models.{PassModel}
use Rattle.ell_tree.specs.declared.searching.Place.{Place}
use Rattle.ell_tree.specs.CardsTaken.{TakesNoCard, TakesOneCard, claims_in}
use Rattle.ell_tree.specs.Hindrances.{Meets}
use Rattle.ell_tree.specs.Keeping.{IsInnerMet}
use Rattle.ell_tree.specs.Milestones.{GivesOut}
use Rattle.ell_tree.specs.Searches.{IsAt, seen}
use Rattle.ell_tree.specs.Tries.{HasCard}

-- where a search ended at a clean parent, a card may be asked for
pub may_ask : (plan : TablePlan) (v : View) (op : Op) (place : Place) (node_key : ℕ) → Does v op → IsAt v place → place.parent.update.state ≡ state.Clean
    → Wants (flat_from plan) v op place.parent.node place.node place.key node_key → MayAskForCard plan v node_key
may_ask plan v op place node_key busy at calm wants = record {
  op = op;
  below = place.node;
  key = place.key;
  parent = seen place.parent;
  busy = busy;
  stands = ap (λ (r : Search). r.node) at.search;
  told = at.told;
  behind = ap (λ (r : Search). r.parent) at.search;
  calm = clean_word place.parent.update.state place.parent.update.card calm;
  wants = wants;
}

module _ (plan : TablePlan) (node : NewNode) (n : ℕ) (a t : PassModel) (asks : AsksForCard plan node n a t) where
  -- a node that was met then is met still
  pub asks_inner : (cards x : ℕ) → IsInnerMet cards a.view x → IsInnerMet cards t.view x
  asks_inner cards x h = record { met = asks.view.told (Met x) h.met; inner = h.inner; there = h.there }

  -- the card that was taken is that of the operation, where its search ended
  pub has_card : (c : ℕ) → TakesCard plan node c a t → (op : Op) (place : Place) → Does a.view op → IsAt a.view place
      → HasCard op place (expected_tag a.view) (filling_of c node a.view) t.view c
  has_card c h op place busy at =
      let search = asks.view.search ∙ at.search in
      record {
        busy = asks.view.operation ∙ busy;
        may = h.may;
        stands = ap (λ (r : Search). r.node) search;
        behind = ap (λ (r : Search). r.parent) search;
        above = ap (λ (r : Search). r.grandparent) search;
        says = h.planned;
        empty = h.stores;
        told = λ e has. h.told e (earlier e _ _ has);
        expects = h.told _ (latest _ _);
      }

  -- where another pass took the card first, that was in the way, and is over
  pub lost_meets : LosesCard plan.last_card a.view t.view → Meets a.view t.view
  lost_meets h = record {
    met = Claim h.card ∷ [];
    list = h.hindrances;
    over = (tt, tt);
    knows = λ f known. subst (λ (fs : List Fact). known_of fs f ≡ true) (sym asks.view.knows) known;
  }

-- the card was given out then, whoever took it
pub taken_given : (plan : TablePlan) (node : NewNode) (c : ℕ) (a t : PassModel) → TakesCard plan node c a t → GivesOut plan.last_card a.view t.view
taken_given plan node c a t h = record { card = c; first = h.first; last = h.last; before = h.before; after = omega (arith, h.after) }

pub lost_given : (last : ℕ) (v w : View) → LosesCard last v w → GivesOut last v w
lost_given last v w h = record { card = h.card; first = h.first; last = h.room; before = h.before; after = omega (arith, h.after) }

-- and it is the one card that was taken, or none was
pub takes_one : (plan : TablePlan) (node : NewNode) (c : ℕ) (a t : PassModel) → TakesCard plan node c a t → plan.slots ≡ None → TakesOneCard a t
takes_one plan node c a t h empty = ap claims_in (h.one empty)

pub takes_no : (plan : TablePlan) (a t : PassModel) → TakesNone plan a t → plan.slots ≡ None → TakesNoCard a t
takes_no plan a t h empty = ap claims_in (h.none empty)
