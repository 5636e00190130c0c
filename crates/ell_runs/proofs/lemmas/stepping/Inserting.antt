use Rattle.std.proofs.Common.{inl, inr, ◌⊎◌, if◌then◌else◌, eq-eqb, ◌≡◌, ◌%◌, ◌==◌, ℕ, Bool, nat_le, refl, sym, ap, ◌∙◌, subst, ◌<◌, ◌≤◌, true, false, arith}
use Rattle.ell_core.proofs.lemmas.keeping.insert_child.IChild.{brought_side}
use mathlib.Core.Option.{some}
use lib.ListN.{get_elem?}
use Rattle.ell_word.specs.Node.{card, left_leaf, right_leaf, greatest_number}
use Rattle.ell_core.specs.declared.exchange.Exchange.TheVariants as exchange
use Rattle.ell_core.specs.declared.event.Act.TheVariants as act
use Rattle.ell_core.specs.declared.fact.Fact.TheVariants.{IChanged, IOver, IFlagged}
use Rattle.ell_layout.specs.declared.field.Field.TheVariants as field
use Rattle.ell_layout.specs.Words.{child_field}
use Rattle.ell_core.specs.state.Machine.{worker_of}
use Rattle.ell_layout.specs.Cards.{iflag, exchange_side, brought, brought_by}
use Rattle.ell_core.specs.acts.Exchanges.{won_or_lost, exchanged_child, finds_link, expected}
use Rattle.ell_core.specs.history.Stages.{Born, Stages}
use Rattle.ell_core.proofs.lemmas.words.Sides.{insert_key-side}
use Rattle.ell_core.specs.history.Invariant.{InsertCard, IsCopy, insert_side}
use Rattle.ell_layout.specs.Words.{Words}
use Rattle.ell_layout.specs.Cards.{is_right}
use Rattle.ell_runs.specs.Plans.{TablePlan}
use Rattle.ell_runs.specs.declared.call.Call.TheVariants as call
use Rattle.ell_runs.specs.declared.view.View.{View}
use Rattle.ell_runs.specs.Changes.{with_fact}
use Rattle.ell_runs.specs.Guards.{MayIChild, KnowsPlace}
use Rattle.ell_runs.specs.States.{TableState}
use Rattle.ell_runs.specs.Machines.{HasMachine}
use Rattle.ell_runs.specs.Laws.{IsEvent}
use Rattle.ell_core.proofs.lemmas.stages.Waiting.{born-settled}
use Rattle.ell_runs.proofs.lemmas.seats.Frames.{is_event}
use Rattle.ell_runs.proofs.lemmas.stepping.Exchanges.{in_list, told_is, told_key, found_at, teaches, child_exchanged, child_says, unflags, told_tag}
use Rattle.ell_runs.proofs.lemmas.stepping.Known.{insert_flagged, insert_changed, child_found}
use Rattle.ell_word.specs.Link.{linked, node_bound}
use Rattle.ell_word.specs.declared.link.Link.{Link}
use Rattle.ell_runs.specs.Calls.{next_link}
use Rattle.ell_runs.proofs.lemmas.stepping.Looks.{born_small, child_born}
use Rattle.ell_runs.proofs.lemmas.seats.Seats.{mine_sound}
use Rattle.ell_core.proofs.lemmas.stages.Order.{insert-claimed, insert_won-insert}

-- a node that a card of the table brings is small
brought_small : (c last : ℕ) (replaces : Bool) → c ≤ last → last ≤ greatest_number → brought_by c replaces < node_bound
brought_small c last true low room = omega arith
brought_small c last false low room = omega arith

-- the key of the right leaf of an insert's card lies on the side of the parent on which its node goes
pub right_side : (w : Words) (stage : Stages) (c : ℕ) → InsertCard w stage c → is_right w (w.p c) (w.key (right_leaf c)) ≡ insert_side w c
right_side w stage c said = by said.copy
  where
    by : IsCopy w c (left_leaf c) ⊎ IsCopy w c (right_leaf c) → is_right w (w.p c) (w.key (right_leaf c)) ≡ insert_side w c
    by (inl left) = subst (λ k. is_right w (w.p c) k ≡ insert_side w c)
        (ap (λ b. if b then w.key (right_leaf c) else w.key (left_leaf c)) (eq-eqb (w.key (left_leaf c)) (w.key (w.l c)) left.key)) (insert_key-side w stage c said)
    by (inr right) = ap (is_right w (w.p c)) right.key ∙ (sym said.side ∙ insert_key-side w stage c said)

module _ (plan : TablePlan) (s : TableState) (r : HasMachine plan s) (id : ℕ) (v : View) (here : get_elem? s.views id ≡ some v) where
  -- ichild
  pub keeps_ichild : (c p : ℕ) (l : Link) (replaces right : Bool) → MayIChild v c p l replaces right → IsEvent plan s r id v (call.IChild c p l replaces right)
  keeps_ichild c p l replaces right may =
      let w = r.words in
      let a = act.IChild c in
      let g = child_field right in
      let n = found_at plan s r id v here (card p) g in
      let said = insert_flagged plan s r id v here c may.knows in
      let p_is : w.p c ≡ p = told_is plan s r id v here c field.P p may.parent in
      let l_is : w.l c ≡ l.node = told_is plan s r id v here c field.L l.node may.leaf in
      let tag_is : w.expects c ≡ l.tag = told_tag plan s r id v here c l.tag may.expects in
      let link_is : l ≡ expected w c (w.l c) = λ t. record { node = sym l_is t; tag = sym tag_is t } in
      let left_is : w.key (left_leaf c) ≡ may.left_key = told_is plan s r id v here c field.LeftLeafKey may.left_key may.told_left in
      let right_is : w.key (right_leaf c) ≡ may.right_key = told_is plan s r id v here c field.RightLeafKey may.right_key may.told_right in
      let q = brought_by c replaces in
      let brought_is : brought w c ≡ q = ap (brought_by c) ((λ t. left_is t == right_is t) ∙ sym may.brings) in
      let side : exchange_side w (w.p c) q ≡ right =
      ap (exchange_side w (w.p c)) (sym brought_is) ∙ (brought_side w r.stages c said ∙ (sym (right_side w r.stages c said) ∙ (ap (λ k. nat_le k (w.key (right_leaf c))) (ap w.key p_is ∙ told_key plan s r id v here p may.parent_key may.told_parent)
      ∙ (ap (nat_le may.parent_key) right_is ∙ sym may.side)))) in
      let is = child_found plan s r id v here (w.p c) p right p_is said.parent.inner said.parent.born in
      let child_small = born_small plan s r id v here (w.child (w.p c) right) (child_born plan s r id v here (w.p c) right said.parent.inner said.parent.born) in
      let leaf_small : l.node < node_bound = subst (λ y. y < node_bound) l_is (born_small plan s r id v here (w.l c) said.lower) in
      let claimed = (r.invariant.words.cards c).claimed.0 (insert-claimed (r.stages c) (insert_won-insert (r.stages c) ((mine_sound plan s r id v here).facts (IFlagged c) may.knows))) in
      let new_small : q < node_bound = brought_small c plan.last_card replaces (let room = r.invariant.limit in omega arith) r.limit in
      let exchanged = child_exchanged w (w.p c) p l q n right p_is said.parent.inner side is child_small leaf_small new_small in
      let born = subst (Born r.stages) p_is said.parent.born in
      is_event plan s r id v here (call.IChild c p l replaces right) a _ _
      (teaches plan s r id v here a (card p) g (linked l) (linked (next_link l q)) (IChanged c) exchange.IChild c
      (in_list plan s r id v here p g born) (born-settled (r.stages (card p)) (p % 4) born)
      (λ e. (cc)) (λ e. (cc)) (λ e. refl) (λ e. refl) (record {
        owned = λ h. h;
        row = record {
          may = may.knows;
          says = child_says w (w.p c) p l q n right p_is said.parent.inner side is child_small leaf_small new_small
              ∙ λ t. won_or_lost (finds_link w (w.p c) (link_is t) (sym brought_is t));
          gives = λ t. record {
            words = (exchanged ∙ λ i. exchanged_child w (w.p c) (link_is i) (sym brought_is i)) t;
            worker = worker_of (with_fact (IChanged c) v).worker;
          };
        };
        room = λ h. h;
      }))
      refl refl tt

  -- iunflag
  pub keeps_iunflag : (c p : ℕ) → KnowsPlace v (IChanged c) c field.P p → IsEvent plan s r id v (call.IUnflag c p)
  keeps_iunflag c p may =
      is_event plan s r id v here (call.IUnflag c p) (act.IUnflag c) _ _
      (unflags plan s r id v here (act.IUnflag c) c (r.words.p c) p (iflag c) (IOver c) exchange.IUnflag
      (told_is plan s r id v here c field.P p may.place) (insert_changed plan s r id v here c may.knows).parent
      (λ e. (cc)) (λ e. (cc)) (λ e. refl) (λ e. refl)
      (λ says gives. record { owned = λ h. h; row = record { may = may.knows; says = says; gives = gives }; room = λ h. h }))
      refl refl tt
