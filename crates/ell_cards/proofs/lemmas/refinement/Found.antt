-- The node to which a child word leads lies in its slot, if the word is of a node that a ready pass has met.
use Rattle.std.proofs.Common.{◌≡◌, ℕ, ◌%◌, inl, inr, Bool, true, false, Some, None, ◌∷◌, refl, sym, ap, ◌∙◌, subst, arith}
use mathlib.Core.Option.{some}
use lib.ListN.{get_elem?}
use Rattle.ell_word.specs.declared.link.Link.{Link}
use Rattle.ell_word.specs.Node.{IsInternal, IsNode, card}
use Rattle.ell_layout.specs.Words.{has_block}
use Rattle.ell_core.specs.history.Invariant.{Invariant}
use Rattle.ell_core.specs.history.Stages.{Stages, Born}
use Rattle.ell_core.specs.state.Machine.{Machine}
use Rattle.ell_cards.specs.declared.view.Known.{Known}
use Rattle.ell_runs.specs.declared.view.Slots.{Slots}
use Rattle.ell_runs.specs.declared.view.Told.TheVariants.{Met}
use Rattle.ell_runs.specs.declared.view.View.{View}
use Rattle.ell_cards.specs.Ages.{IsOut, is_dead, is_discarded, is_beyond, AreDead, ForgotWhen}
use Rattle.ell_cards.specs.Apart.{cut_node, IsToldApart}
use Rattle.ell_runs.specs.Laws.{machine_of_table}
use Rattle.ell_runs.specs.Machines.{HasMachine}
use Rattle.ell_runs.specs.Plans.{TablePlan, flat_from}
use Rattle.ell_runs.specs.Views.{IsTold}
use Rattle.ell_cards.specs.Epochs.{WholeState}
use Rattle.ell_runs.specs.Starts.{IsReached}
use Rattle.ell_runs.specs.States.{TableState}
use Rattle.ell_cards.specs.Refinement.{HasWon, Refines, LiesThere}
use Rattle.ell_cards.specs.RefinementLaws.{child_now}
use Rattle.ell_runs.specs.Turns.{Makes}
use Rattle.ell_grace.proofs.lemmas.dead.Runs.{uses_begin}
use Rattle.ell_runs.proofs.lemmas.runs.Alive.{used, was, not_dead}
use Rattle.ell_cards.proofs.lemmas.refinement.Discarded.{discarded_not_won, discarded_in_run}
use Rattle.ell_runs.proofs.lemmas.runs.Reaching.{reached_kept}
use Rattle.ell_runs.proofs.lemmas.runs.Touching.{Still, still_from, root_since}
use Rattle.ell_runs.proofs.lemmas.stepping.Looks.{child_born, child_read}
use Rattle.ell_cards.proofs.lemmas.refinement.Apart.{few_uncut, lying_apart, lying_block, met_lies, met_uncut, plain_few}
use Rattle.ell_cards.proofs.lemmas.refinement.Touched.{IsReady, claimed_within}
use Rattle.ell_cards.proofs.lemmas.refinement.Winning.{born_won}

-- under an internal node that a pass has met that is the child that the machine has, and its card has won its flag
module _ (plan : TablePlan) (s : TableState) (r : HasMachine plan s) (seat : ℕ) (v : View) (here : get_elem? s.views seat ≡ some v)
    (x : ℕ) (right : Bool) (inner : IsInternal x) (met : IsTold v (Met x)) where
  born : Born r.stages x
  born = (r.views seat v here).entries (Met x) met

  child_is : child_now s x right ≡ r.words.child x right
  child_is = ap (λ (l : Link). l.node) (child_read plan s r seat v here x right inner born)

  pub child_has_won : HasWon r.stages (card (child_now s x right))
  child_has_won =
      let y = r.words.child x right in
      subst (λ z. HasWon r.stages (card z)) (sym child_is) (born_won (r.stages (card y)) (y % 4) (child_born plan s r seat v here x right inner born))

-- what is not true is false
not_true : (b : Bool) → (b ≡ true → ⊥) → b ≡ false
not_true false none = refl
not_true true none = absurd (none refl)

-- where not all nodes of a card were out, the card was not dead
alive_where : (plan : TablePlan) (s : TableState) (dead : ℕ → Bool) (h : AreDead plan s dead) (y : ℕ) → IsNode y
    → ¬ IsOut plan s h.machine h.uses y → dead (card y) ≡ false
alive_where plan s dead h y node kept = not_true (dead (card y)) (λ is.
    kept (subst (IsOut plan s h.machine h.uses) (omega (arith, node)) (h.each (card y) (y % 4) (omega (arith, node)) is)))

-- where a pass forgot when cards were dead, a child now of an internal node that it has met since is of none of them
module _ (plan : TablePlan) (seat : ℕ) (dead : ℕ → Bool) (tree : TableState) (h : ForgotWhen plan tree seat dead)
    (v : View) (there : get_elem? tree.views seat ≡ some v) (x : ℕ) (right : Bool) (inner : IsInternal x) (met : IsTold v (Met x)) where
  abbrev m : Machine
  m = machine_of_table plan h.from h.were.machine

  abbrev stage : Stages
  stage = h.were.uses.outs.stages

  abbrev first : Invariant m stage
  first = h.were.uses.outs.invariant

  abbrev y : ℕ
  y = child_now tree x right

  still : Still plan m stage first (used m stage) (was m stage) (not_dead m stage first) seat tree
  still =
      let start = uses_begin m h.were.uses in
      still_from plan m stage first (used m stage) (was m stage) (not_dead m stage first) h.from h.reached seat h.call h.begun h.made h.anew
      h.were.machine start.0 start.1 h.turns tree h.run

  child_was : was m stage (child_now tree x right)
  child_was =
      let told = still.told v there (Met x) met in
      subst (was m stage) (sym (child_is plan tree still.machine seat v there x right inner met))
      ((not_dead m stage first).child (machine_of_table plan tree still.machine) still.from still.kept x inner told.0 told.1 right)

  kept_discarded : ¬ IsOut plan h.from h.were.machine h.were.uses y
  kept_discarded (is_dead is) = child_was.0 is
  kept_discarded (is_discarded is) =
      let on = (discarded_in_run plan h.from h.were.machine (card y) is (Makes seat h.call ∷ h.turns) tree (h.begun, h.made, h.run)).0 in
      discarded_not_won plan tree on.0 (card y) on.1 (child_has_won plan tree on.0 seat v there x right inner met)
  kept_discarded (is_beyond is) = (let low = claimed_within plan tree still.machine (card y) (child_has_won plan tree still.machine seat v there x right inner met).0 in omega arith)

  pub child_was_alive : dead (card (child_now tree x right)) ≡ false
  child_was_alive = alive_where plan h.from dead h.were y child_was.1 kept_discarded

-- nor is a child of the root that is in the tree now dead now
module _ (plan : TablePlan) (tree : TableState) (dead : ℕ → Bool) (h : AreDead plan tree dead) (seat : ℕ) (v : View)
    (there : get_elem? tree.views seat ≡ some v) (right : Bool) (met : IsTold v (Met 0)) where
  abbrev as_it_is : Machine
  as_it_is = machine_of_table plan tree h.machine

  abbrev stages : Stages
  stages = h.uses.outs.stages

  abbrev sound : Invariant (machine_of_table plan tree h.machine) h.uses.outs.stages
  sound = h.uses.outs.invariant

  child_is_kept : was as_it_is stages (child_now tree 0 right)
  child_is_kept =
      let start = uses_begin as_it_is h.uses in
      let root = root_since plan as_it_is stages sound (used as_it_is stages) (was as_it_is stages) (not_dead as_it_is stages sound) as_it_is start.0 start.1 in
      subst (was as_it_is stages) (sym (child_is plan tree h.machine seat v there 0 right refl met))
      ((not_dead as_it_is stages sound).child as_it_is start.0 start.1 0 refl root.0 root.1 right)

  not_out : ¬ IsOut plan tree h.machine h.uses (child_now tree 0 right)
  not_out (is_dead is) = child_is_kept.0 is
  not_out (is_discarded is) = discarded_not_won plan tree h.machine (card (child_now tree 0 right)) is (child_has_won plan tree h.machine seat v there 0 right refl met)
  not_out (is_beyond is) =
      let low = claimed_within plan tree h.machine (card (child_now tree 0 right)) (child_has_won plan tree h.machine seat v there 0 right refl met).0 in
      omega arith

  pub root_child_alive : dead (card (child_now tree 0 right)) ≡ false
  root_child_alive = alive_where plan tree dead h (child_now tree 0 right) child_is_kept.1 not_out

-- so it lies in its slot, where memory refines the tree and the pass is ready
module _ (plan : TablePlan) (s : Slots) (tree : TableState) (t : WholeState) (r : HasMachine plan tree) (lie : ℕ → ℕ) (dead : ℕ → Bool) (was_dead : ℕ → ℕ → Bool)
    (refines : Refines s tree t r.stages lie dead was_dead) (now : AreDead plan tree dead) (id : ℕ) (k : Known) (here : get_elem? t.views id ≡ some k)
    (there : get_elem? tree.views id ≡ some k.tree) (ready : IsReady plan tree id k was_dead)
    (x : ℕ) (right : Bool) (inner : IsInternal x) (met : IsTold k.tree (Met x)) where
  abbrev found : ℕ
  found = child_now tree x right

  found_won : HasWon r.stages (card (child_now tree x right))
  found_won = child_has_won plan tree r id k.tree there x right inner met

  pub child_lies : LiesThere s lie (card (child_now tree x right))
  child_lies = elim ready [
    | inl rest ↦
        let root : x ≡ 0 = rest.forgot (Met x) met in
        let alive = root_child_alive plan tree dead now id k.tree there right (subst (λ z. IsTold k.tree (Met z)) root met) in
        refines.alive (card found) found_won (ap (λ z. dead (card (child_now tree z right))) root ∙ alive)
    | inr p ↦ refines.lives id p.0 p.1 (card found) k here p.2 p.3 found_won (child_was_alive plan id (was_dead p.0) tree p.4 k.tree there x right inner met)
  ]

  -- and the pass tells it from each other node that it has met, by what a child word holds of it
  pub child_apart : plan.slots ≡ Some s → IsReached plan tree → IsToldApart plan k.tree (child_now tree x right)
  child_apart placed reached = record {
    met = λ z met'. lying_apart s lie found z child_lies (met_lies plan s tree t r lie dead was_dead refines id k here there ready z met');
    block = lying_block plan s placed reached.starts.may found (refines.fits (card found) found_won);
  }

-- In a table whose cards do not come back it is not cut.
pub child_apart_plain : (plan : TablePlan) → plan.slots ≡ None → (s : TableState) → IsReached plan s → (id : ℕ) (v : View) → get_elem? s.views id ≡ some v
    → (x : ℕ) (right : Bool) → IsInternal x → IsTold v (Met x) → IsToldApart plan v (child_now s x right)
child_apart_plain plan none s reached id v here x right inner met = record {
  met = λ z met' same. sym uncut ∙ (same ∙ met_uncut plan none s reached id v here z met');
  block = ap (has_block (flat_from plan)) uncut;
}
  where
    r : HasMachine plan s
    r = reached_kept plan s reached

    uncut : cut_node (child_now s x right) ≡ child_now s x right
    uncut =
        let below = (r.invariant.words.cards (card (child_now s x right))).claimed.0 (child_has_won plan s r id v here x right inner met).0 in
        let limit = r.invariant.limit in
        let most = plain_few plan none reached.starts.may in
        few_uncut (child_now s x right) (omega arith)
