use Rattle.std.proofs.Common.{◌≡◌, ℕ, if◌then◌else◌, true, false, Some, None, inl, inr, eq-eqb, refl, sym, ap, ◌∙◌, subst, arith}
use Rattle.std.specs.Prelude.{unwrap_or}
use Rattle.std.proofs.lemmas.Bool.{cases_eq, ne_eqb}
use Rattle.std.proofs.lemmas.Option.{same_Some}
use Rattle.ell_ops.specs.declared.op.Op.{Op}
use Rattle.ell_ops.specs.declared.op.Op.TheVariants.{Find, Insert, Delete, Swap}
use Rattle.ell_ops.specs.declared.reply.Reply.TheVariants.{Found}
use Rattle.ell_ops.specs.Meaning.{key_of, found}
use Rattle.ell_core.specs.declared.put.Put.{Put}
use Rattle.ell_core.specs.acts.Searching.{put_of, TakesPut, leaf_answer}
use Rattle.ell_core.specs.statements.Effects.{reply_of_change}
use Rattle.ell_core.proofs.lemmas.keeping.Puts.{added, replacing}
use Rattle.ell_runs.specs.declared.view.View.{View}
use Rattle.ell_runs.specs.declared.view.Told.TheVariants.{Value}
use Rattle.ell_runs.specs.Plans.{TablePlan, flat_from}
use Rattle.ell_runs.specs.Views.{IsTold}
use Rattle.ell_runs.specs.Guards.{Wants}
use Rattle.ell_tree.specs.declared.searching.Place.{Place}
use Rattle.ell_tree.specs.Ends.{changes_by, reply_by}
use Rattle.ell_core.specs.tree.Flat.{IsNodeKey}
use Rattle.ell_layout.specs.Words.{IsLeaf}
use Rattle.ell_tree.specs.Searches.{EndsAt, there_at}
use Rattle.ell_tree.specs.Tries.{told_of_put, put_reply}

-- an insert or a swap, that puts this, and a place where its search ended
module _ (place : Place) where
  -- it wants a card at a place that it may take
  insert_wants : (plan : TablePlan) (k value node_key : ℕ) (v : View) → EndsAt plan v (Insert k value) place → TakesPut (added k value) place.key place.value
      → IsNodeKey (flat_from plan) k place.key node_key → Wants (flat_from plan) v (Insert k value) place.parent.node place.node place.key node_key
  insert_wants plan k value node_key v ends takes named = record {
    leaf = λ outer. (takes, (place.value, ends.at.leaf outer));
    edge = λ inner. ends.edge inner;
    fits = λ has. ends.fits has;
    named = named;
  }

  swap_wants : (plan : TablePlan) (k was value node_key : ℕ) (v : View) → EndsAt plan v (Swap k was value) place → TakesPut (replacing k was value) place.key place.value
      → IsNodeKey (flat_from plan) k place.key node_key → Wants (flat_from plan) v (Swap k was value) place.parent.node place.node place.key node_key
  swap_wants plan k was value node_key v ends takes named =
      let outer = ends.outer takes.0 in record {
        outer = outer;
        same = takes.0;
        value = subst (λ n. IsTold v (Value place.node n)) takes.1 (ends.at.leaf outer);
        named = (let is = named.greater (inr (sym takes.0)) in let same = takes.0 in omega arith);
      }

  pub put_wants : (plan : TablePlan) (op : Op) (what : Put) → put_of op ≡ Some what → (node_key : ℕ) (v : View) → EndsAt plan v op place → TakesPut what place.key place.value
      → IsNodeKey (flat_from plan) what.key place.key node_key → Wants (flat_from plan) v op place.parent.node place.node place.key node_key
  put_wants plan (Find k) what is node_key v ends takes named = absurd cc
  put_wants plan (Insert k value) what is node_key v ends takes named =
      let same = sym (same_Some (added k value) what is) in
      insert_wants plan k value node_key v ends (subst (λ (t : Put). TakesPut t place.key place.value) same takes)
      (subst (λ (t : Put). IsNodeKey (flat_from plan) t.key place.key node_key) same named)
  put_wants plan (Delete k) what is node_key v ends takes named = absurd cc
  put_wants plan (Swap k was value) what is node_key v ends takes named =
      let same = sym (same_Some (replacing k was value) what is) in
      swap_wants plan k was value node_key v ends (subst (λ (t : Put). TakesPut t place.key place.value) same takes)
      (subst (λ (t : Put). IsNodeKey (flat_from plan) t.key place.key node_key) same named)

  -- one that it may not take is a leaf
  pub refused_outer : (plan : TablePlan) (op : Op) (what : Put) → put_of op ≡ Some what → (v : View) → EndsAt plan v op place → ¬ TakesPut what place.key place.value
      → IsLeaf place.node
  refused_outer plan (Find k) what is v ends not = absurd cc
  refused_outer plan (Insert k value) what is v ends not = elim (cases_eq place.key k) [
    | inl same ↦ ends.outer same
    | inr apart ↦ absurd (not (subst (λ (t : Put). TakesPut t place.key place.value) (same_Some (added k value) what is) apart))
  ]
  refused_outer plan (Delete k) what is v ends not = absurd cc
  refused_outer plan (Swap k was value) what is v ends not = λ inner. ends.edge inner

  -- where it may not take it, this is its answer, which changes nothing
  pub record IsRefused (op : Op) (what : Put) : Type 0 where
    pub says : leaf_answer op (there_at place (key_of op)) ≡ Some (found (told_of_put what place))
    pub reply : found (told_of_put what place) ≡ reply_by op (told_of_put what place)
    pub changes : changes_by op (told_of_put what place) ≡ false

  insert_refused : (k value : ℕ) → ¬ TakesPut (added k value) place.key place.value → IsRefused (Insert k value) (added k value)
  insert_refused k value not = elim (cases_eq place.key k) [
    | inl same ↦ record {
      says = ap (λ t. leaf_answer (Insert k value) (if t then Some place.value else None)) (eq-eqb place.key k same);
      reply = refl;
      changes = refl;
    }
    | inr apart ↦ absurd (not apart)
  ]

  swap_refused : (k was value : ℕ) → ¬ TakesPut (replacing k was value) place.key place.value → IsRefused (Swap k was value) (replacing k was value)
  swap_refused k was value not = elim (cases_eq place.key k) [
    | inl same ↦
        let there : there_at place k ≡ Some place.value = ap (λ t. if t then Some place.value else None) (eq-eqb place.key k same) in
        let other = ne_eqb place.value was (λ e. not (same, e)) in record {
          says = ap (leaf_answer (Swap k was value)) there
              ∙ (ap (λ t. if t then None else Some (Found place.value)) other ∙ ap (λ o. Some (found o)) (sym there));
          reply = refl;
          changes = ap (λ o. changes_by (Swap k was value) o) there ∙ other;
        }
    | inr apart ↦
        let there : there_at place k ≡ None = ap (λ t. if t then Some place.value else None) (ne_eqb place.key k apart) in record {
          says = ap (leaf_answer (Swap k was value)) there ∙ ap (λ o. Some (found o)) (sym there);
          reply = refl;
          changes = ap (λ o. changes_by (Swap k was value) o) there;
        }
  ]

  pub put_refused : (op : Op) (what : Put) → put_of op ≡ Some what → ¬ TakesPut what place.key place.value → IsRefused op what
  put_refused (Find k) what is not = absurd cc
  put_refused (Insert k value) what is not =
      let same = same_Some (added k value) what is in
      subst (IsRefused (Insert k value)) same (insert_refused k value (subst (λ (t : Put). ¬ TakesPut t place.key place.value) (sym same) not))
  put_refused (Delete k) what is not = absurd cc
  put_refused (Swap k was value) what is not =
      let same = same_Some (replacing k was value) what is in
      subst (IsRefused (Swap k was value)) same (swap_refused k was value (subst (λ (t : Put). ¬ TakesPut t place.key place.value) (sym same) not))

-- once its card is over, this is its answer, by which it has changed the map
pub record IsDone (op : Op) (what : Put) : Type 0 where
  pub says : put_reply what.was ≡ reply_of_change op
  pub reply : put_reply what.was ≡ reply_by op (Some (unwrap_or what.was what.value))
  pub changes : changes_by op (Some (unwrap_or what.was what.value)) ≡ true

pub put_done : (op : Op) (what : Put) → put_of op ≡ Some what → IsDone op what
put_done (Find k) what is = absurd cc
put_done (Insert k value) what is =
    subst (IsDone (Insert k value)) (same_Some (added k value) what is) (record { says = refl; reply = refl; changes = refl })
put_done (Delete k) what is = absurd cc
put_done (Swap k was value) what is =
    subst (IsDone (Swap k was value)) (same_Some (replacing k was value) what is)
    (record { says = refl; reply = refl; changes = eq-eqb was was refl })
