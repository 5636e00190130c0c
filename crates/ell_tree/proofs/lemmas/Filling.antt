use Rattle.std.proofs.Common.{◌≡◌, ℕ, Option, Some, List, refl, sym, ◌∙◌, ap, subst, max, min}
use Rattle.ell_ops.specs.declared.op.Op.{Op}
use Rattle.ell_ops.specs.declared.op.Op.TheVariants.{Find, Insert, Delete, Swap}
use Rattle.ell_word.specs.declared.update.State.TheVariants as state
use Rattle.ell_word.specs.Word.{packed}
use Rattle.ell_core.specs.declared.fact.Fact.TheVariants as fact
use Rattle.ell_layout.specs.declared.field.Field.{Field}
use Rattle.ell_layout.specs.declared.field.Field.TheVariants as field
use Rattle.ell_core.specs.declared.view.Search.{Search}
use Rattle.ell_core.specs.declared.view.Seen.{Seen}
use Rattle.ell_core.specs.declared.put.Put.{Put}
use Rattle.ell_core.specs.acts.Searching.{put_of}
use Rattle.ell_runs.proofs.lemmas.stepping.Claiming.{put_filling}
use Rattle.ell_layout.specs.Words.{IsLeaf}
use Rattle.ell_layout.specs.Cards as layout
use Rattle.ell_layout.specs.Cards.{delete_filling}
use Rattle.ell_runs.specs.declared.view.Told.TheVariants.{Met, Info}
use Rattle.ell_runs.specs.declared.view.View.{View}
use Rattle.ell_runs.specs.Views.{latest, earlier, Does, IsTold, Knows}
use Rattle.ell_runs.specs.Changes.{expected_tag, tag_of_claim, value_told, filling_for, filling_of}
use Rattle.ell_runs.specs.Guards.{Wants}
use Rattle.ell_runs.proofs.lemmas.words.Updates.{clean_word}
use Rattle.ell_runs.proofs.lemmas.views.SeenNodes.{filling_at}
use Rattle.ell_runs.specs.Plans.{TablePlan}
use Rattle.ell_cards.specs.Claiming.{AsksForCard, TakesCard}
use Rattle.ell_cards.specs.Models.{PassModel}
use Rattle.ell_tree.specs.declared.searching.Passed.{Passed}
use Rattle.ell_tree.specs.declared.searching.Place.{Place}
use Rattle.ell_tree.specs.Keeping.{LosesNothing, IsInnerMet}
use Rattle.ell_tree.specs.Searches.{seen, seen_any, node_with, IsAt}
use Rattle.ell_tree.specs.Helps.{IsInsert, IsParent}
use Rattle.ell_tree.specs.Tries.{HasCard}
use Rattle.ell_tree.proofs.lemmas.Claiming.{has_card}
use Rattle.ell_tree.proofs.lemmas.Keeping.{inner_kept}
use Rattle.ell_runs.specs.declared.call.NewNode.{NewNode}

-- what fills a card, by a search that stands at a place
filling_there : (c : ℕ) (node : NewNode) (op : Op) (v : View) (place : Place) → Does v op → IsAt v place
    → filling_of c node v ≡ filling_for c node (Some op) (Some place.node) (Some (seen place.parent)) (seen_any place.grandparent) place.key (value_told v.told)
filling_there c node op v place busy at = filling_at v op c node place.node place.key (seen place.parent) (seen_any place.grandparent) busy
    (ap (λ (s : Search). s.node) at.search) at.told (ap (λ (s : Search). s.parent) at.search) (ap (λ (s : Search). s.grandparent) at.search)

-- for an insert or a swap
put_fills : (c : ℕ) (node : NewNode) (op : Op) (what : Put) (v : View) (place : Place) → put_of op ≡ Some what → Does v op → IsAt v place
    → filling_of c node v ≡ layout.put_filling node.flat c what.key what.value node.key place.parent.node place.node place.key place.value
put_fills c node op what v place is busy at =
    filling_there c node op v place busy at
    ∙ (sym (put_filling op what is c node place.node (seen place.parent) (seen_any place.grandparent) place.key (value_told v.told))
    ∙ ap (layout.put_filling node.flat c what.key what.value node.key place.parent.node place.node place.key) at.value)

-- the tag that a card expects, by a search that stands at a place
tag_there : (op : Op) (v : View) (place : Place) → Does v op → IsAt v place
    → expected_tag v ≡ tag_of_claim (Some op) (Some (seen place.parent)) (seen_any place.grandparent)
tag_there op v place busy at = ap (λ o. tag_of_claim o v.worker.search.parent v.worker.search.grandparent) busy
    ∙ ap (λ (s : Search). tag_of_claim (Some op) s.parent s.grandparent) at.search

-- for an insert or a swap it is the parent's
put_tag : (op : Op) (what : Put) → put_of op ≡ Some what → (parent : Seen) (above : Option Seen) → tag_of_claim (Some op) (Some parent) above ≡ parent.tag
put_tag (Find k) what is parent above = absurd cc
put_tag (Insert k value) what is parent above = refl
put_tag (Delete k) what is parent above = absurd cc
put_tag (Swap k was value) what is parent above = refl

-- so that is the card that was taken
pub put_card : (plan : TablePlan) (node : NewNode) (n : ℕ) (a t : PassModel) → AsksForCard plan node n a t → (c : ℕ) → TakesCard plan node c a t → (op : Op) (what : Put) (place : Place)
    → put_of op ≡ Some what → Does a.view op → IsAt a.view place
    → HasCard op place place.parent.tag (layout.put_filling node.flat c what.key what.value node.key place.parent.node place.node place.key place.value) t.view c
put_card plan node n a t asks c taken op what place is busy at =
    subst (λ tag. HasCard op place tag (layout.put_filling node.flat c what.key what.value node.key place.parent.node place.node place.key place.value) t.view c)
    (tag_there op a.view place busy at ∙ put_tag op what is (seen place.parent) (seen_any place.grandparent))
    (subst (λ (es : List (Field × ℕ)). HasCard op place (expected_tag a.view) es t.view c) (put_fills c node op what a.view place is busy at)
    (has_card plan node n a t asks c taken op place busy at))

-- for a delete it is the grandparent's
pub delete_card : (plan : TablePlan) (node : NewNode) (n : ℕ) (a t : PassModel) → AsksForCard plan node n a t → (c : ℕ) → TakesCard plan node c a t → (k : ℕ) (place : Place) (above : Passed)
    → place.grandparent ≡ Some above → Does a.view (Delete k) → IsAt a.view place
    → HasCard (Delete k) place above.tag (delete_filling above.node place.parent.node place.node (packed place.parent.update)) t.view c
delete_card plan node n a t asks c taken k place above is busy at =
    subst (λ tag. HasCard (Delete k) place tag (delete_filling above.node place.parent.node place.node (packed place.parent.update)) t.view c)
    (tag_there (Delete k) a.view place busy at ∙ ap (λ (o : Option Passed). tag_of_claim (Some (Delete k)) (Some (seen place.parent)) (seen_any o)) is)
    (subst (λ (es : List (Field × ℕ)). HasCard (Delete k) place (expected_tag a.view) es t.view c)
    (filling_there c node (Delete k) a.view place busy at
    ∙ ap (λ (o : Option Passed). filling_for c node (Some (Delete k)) (Some place.node) (Some (seen place.parent)) (seen_any o) place.key (value_told a.view.told)) is)
    (has_card plan node n a t asks c taken (Delete k) place busy at))

-- a delete wants a card at a leaf of its key whose grandparent was read clean
pub delete_wants : (from node_key : ℕ) (v : View) (k : ℕ) (place : Place) (above : Passed) → IsAt v place → IsLeaf place.node → place.key ≡ k → place.grandparent ≡ Some above
    → above.update.state ≡ state.Clean → Wants from v (Delete k) place.parent.node place.node place.key node_key
delete_wants from node_key v k place above at outer same is calm = record {
  outer = outer;
  same = same;
  above = seen above;
  grandparent = ap (λ (s : Search). s.grandparent) at.search ∙ ap seen_any is;
  calm = clean_word above.update.state above.update.card calm;
}

module _ (t f : View) (c : ℕ) (place : Place) (loses : LosesNothing t f) where
  -- what the card of an insert or a swap tells is told still after its flag
  pub is_insert : (node : NewNode) (op : Op) (what : Put)
      → HasCard op place place.parent.tag (layout.put_filling node.flat c what.key what.value node.key place.parent.node place.node place.key place.value) t c
      → Knows f (fact.IFlagged c) → IsTold t (Met place.parent.node)
      → IsInsert f c place.parent.node (node_with place place.parent.tag) (max what.key place.key) (min what.key place.key)
  is_insert node op what h knows met = record {
    knows = knows;
    met = loses.told (Met place.parent.node) met;
    parent = loses.told _ (h.told (Info c field.P place.parent.node) (latest _ _));
    leaf = loses.told _ (h.told (Info c field.L place.node) (earlier _ _ _ (latest _ _)));
    expects = loses.told _ h.expects;
    right_key = loses.told _ (h.told (Info c field.RightLeafKey (max what.key place.key)) (earlier _ _ _ (earlier _ _ _ (earlier _ _ _ (earlier _ _ _ (latest _ _))))));
    left_key = loses.told _ (h.told (Info c field.LeftLeafKey (min what.key place.key)) (earlier _ _ _ (earlier _ _ _ (earlier _ _ _ (latest _ _)))));
  }

  -- and so is what a delete's tells
  module _ (k : ℕ) (above : Passed)
      (h : HasCard (Delete k) place above.tag (delete_filling above.node place.parent.node place.node (packed place.parent.update)) t c) where
    pub told_grandparent : IsTold f (Info c field.Gp above.node)
    told_grandparent = loses.told _ (h.told _ (latest _ _))

    pub told_parent : (cards : ℕ) → IsInnerMet cards t place.parent.node → IsParent cards f c place.parent.node
    told_parent cards node = record { told = loses.told _ (h.told _ (earlier _ _ _ (latest _ _))); node = inner_kept cards t f place.parent.node loses node }

    pub told_leaf : IsTold f (Info c field.L place.node)
    told_leaf = loses.told _ (h.told _ (earlier _ _ _ (earlier _ _ _ (latest _ _))))

    pub told_was : IsTold f (Info c field.Was (packed place.parent.update))
    told_was = loses.told _ (h.told _ (earlier _ _ _ (earlier _ _ _ (earlier _ _ _ (latest _ _)))))
