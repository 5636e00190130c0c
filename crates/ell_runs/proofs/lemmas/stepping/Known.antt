use Rattle.std.proofs.Common.{◌≡◌, ◌%◌, ◌⊎◌, ℕ, ◌<◌, Bool, true, false, get_or, sym, ap, ◌∙◌, inl, inr, subst}
use mathlib.Core.Option.{some}
use lib.ListN.{get_elem?}
use Rattle.ell_word.specs.Node.{card, IsInternal}
use Rattle.ell_core.specs.declared.fact.Fact.TheVariants.{IFlagged, IChanged, DFlagged, Marked, Unmarkable, Cut}
use Rattle.ell_layout.specs.declared.field.Field.TheVariants as field
use Rattle.ell_layout.specs.Words.{child_field, table_word}
use Rattle.ell_core.specs.history.Stages.{Born, is_insert, is_delete, waits}
use Rattle.ell_core.specs.history.Invariant.{InsertCard, DeleteCard}
use Rattle.ell_core.proofs.lemmas.stages.Order.{insert_won-insert, delete_won-delete, marked-delete, marked-won, changed-insert, insert-claimed, delete-claimed, cut-delete, unmarkable-delete}
use Rattle.ell_layout.proofs.lemmas.Writes.{update_at_node, child_word_at_node}
use Rattle.ell_runs.specs.Plans.{TablePlan}
use Rattle.ell_runs.specs.declared.view.View.{View}
use Rattle.ell_runs.specs.Views.{Knows, KnowsDelete, KnowsCard}
use Rattle.ell_runs.specs.Calls.{child_address}
use Rattle.ell_runs.specs.States.{TableState}
use Rattle.ell_runs.specs.Machines.{HasMachine}
use Rattle.ell_core.proofs.lemmas.stages.Waiting.{born-settled, insert_won-settled, delete_won-settled}
use Rattle.ell_runs.proofs.lemmas.seats.Seats.{mine_sound}
use Rattle.ell_word.specs.Link.{linked}
use Rattle.ell_runs.proofs.lemmas.words.Addresses.{update_address}

module _ (plan : TablePlan) (s : TableState) (r : HasMachine plan s) (id : ℕ) (v : View) (here : get_elem? s.views id ≡ some v) where
  -- a card known flagged by an insert
  pub insert_flagged : (c : ℕ) → Knows v (IFlagged c) → InsertCard r.words r.stages c
  insert_flagged c k = (r.invariant.words.cards c).insert (insert_won-insert (r.stages c) ((mine_sound plan s r id v here).facts (IFlagged c) k))

  -- or changed by one
  pub insert_changed : (c : ℕ) → Knows v (IChanged c) → InsertCard r.words r.stages c
  insert_changed c k = (r.invariant.words.cards c).insert (changed-insert (r.stages c) ((mine_sound plan s r id v here).facts (IChanged c) k))

  -- a card known flagged or marked by a delete
  pub is_known_delete : (c : ℕ) → KnowsDelete v c → is_delete (r.stages c) ≡ true
  is_known_delete c (inl k) = delete_won-delete (r.stages c) ((mine_sound plan s r id v here).facts (DFlagged c) k)
  is_known_delete c (inr k) = marked-delete (r.stages c) ((mine_sound plan s r id v here).facts (Marked c) k)

  pub known_delete : (c : ℕ) → KnowsDelete v c → DeleteCard r.words r.stages c
  known_delete c k = (r.invariant.words.cards c).delete (is_known_delete c k)

  -- cut, or unmarkable
  pub delete_cut : (c : ℕ) → Knows v (Cut c) → DeleteCard r.words r.stages c
  delete_cut c k = (r.invariant.words.cards c).delete (cut-delete (r.stages c) ((mine_sound plan s r id v here).facts (Cut c) k))

  pub delete_unmarkable : (c : ℕ) → Knows v (Unmarkable c) → DeleteCard r.words r.stages c
  delete_unmarkable c k = (r.invariant.words.cards c).delete (unmarkable-delete (r.stages c) ((mine_sound plan s r id v here).facts (Unmarkable c) k))

  -- a card known flagged or marked is an insert's or a delete's, claimed, and does not wait
  known_kind : (c : ℕ) → KnowsCard v c → (is_insert (r.stages c) ≡ true) ⊎ (is_delete (r.stages c) ≡ true)
  known_kind c (inl k) = inl (insert_won-insert (r.stages c) ((mine_sound plan s r id v here).facts (IFlagged c) k))
  known_kind c (inr k) = inr (is_known_delete c k)

  pub known_card : (c : ℕ) → KnowsCard v c → InsertCard r.words r.stages c ⊎ DeleteCard r.words r.stages c
  known_card c k = elim (known_kind c k) [ inl i ↦ inl ((r.invariant.words.cards c).insert i) | inr d ↦ inr ((r.invariant.words.cards c).delete d) ]

  pub known_claimed : (c : ℕ) → KnowsCard v c → c < r.words.next
  known_claimed c k = (r.invariant.words.cards c).claimed.0
      (elim (known_kind c k) [ inl i ↦ insert-claimed (r.stages c) i | inr d ↦ delete-claimed (r.stages c) d ])

  pub known_settled : (c : ℕ) → KnowsCard v c → waits (r.stages c) ≡ false
  known_settled c (inl k) = insert_won-settled (r.stages c) ((mine_sound plan s r id v here).facts (IFlagged c) k)
  known_settled c (inr (inl k)) = delete_won-settled (r.stages c) ((mine_sound plan s r id v here).facts (DFlagged c) k)
  known_settled c (inr (inr k)) = delete_won-settled (r.stages c) (marked-won (r.stages c) ((mine_sound plan s r id v here).facts (Marked c) k))

  -- the update word of a node x that is y, as the list has it
  pub update_found : (x y : ℕ) → x ≡ y → IsInternal x → Born r.stages x → r.words.update x ≡ get_or s.words (update_address y) 0
  update_found x y same inner born = update_at_node r.words x inner ∙ (ap (λ z. table_word r.words (card z) field.Update) same
      ∙ sym (r.settled (card y) field.Update (born-settled (r.stages (card y)) (y % 4) (subst (Born r.stages) same born))))

  -- a child word of it
  pub child_found : (x y : ℕ) (right : Bool) → x ≡ y → IsInternal x → Born r.stages x
      → linked (record { node = r.words.child x right; tag = r.words.tag x right }) ≡ get_or s.words (child_address y right) 0
  child_found x y right same inner born = sym (child_word_at_node r.words x right inner) ∙ (ap (λ z. table_word r.words (card z) (child_field right)) same
      ∙ sym (r.settled (card y) (child_field right) (born-settled (r.stages (card y)) (y % 4) (subst (Born r.stages) same born))))
