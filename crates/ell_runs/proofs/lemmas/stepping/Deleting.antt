use Rattle.std.proofs.Common.{◌≡◌, ◌%◌, ◌==◌, ℕ, Bool, true, false, [], ◌∷◌, if◌then◌else◌, nat_le, refl, sym, ap, ◌∙◌, subst, inl, inr, eq-eqb, ne_eqb, ◌<◌}
use mathlib.Core.Option.{some}
use lib.ListN.{get_elem?}
use Rattle.ell_word.specs.Node.{card}
use Rattle.ell_word.specs.Word.{unpacked}
use Rattle.ell_core.specs.declared.exchange.Exchange.TheVariants as exchange
use Rattle.ell_core.specs.declared.event.Act.TheVariants as act
use Rattle.ell_core.specs.declared.event.Stepped.TheVariants.{Won}
use Rattle.ell_core.specs.declared.fact.Fact.TheVariants.{DFlagged, Marked, Unmarkable, Cut, DOver, Backed}
use Rattle.ell_layout.specs.declared.field.Field.TheVariants as field
use Rattle.ell_layout.specs.Words.{child_field, table_written}
use Rattle.ell_core.specs.state.Facts.{known_of, learned, learned_any, told_by}
use Rattle.ell_core.specs.state.Machine.{Worker, worker_of}
use Rattle.ell_layout.specs.Cards.{dflag, marked, exchange_side, sibling}
use Rattle.ell_core.specs.acts.Exchanges.{won_or_lost, exchanged_child, knowing, mark_teaches, finds_link, expected}
use Rattle.ell_core.specs.acts.Events.{Happens}
use Rattle.ell_core.specs.history.Stages.{Born}
use Rattle.ell_core.specs.statements.StepLaws.{IsReadable}
use Rattle.ell_runs.specs.Plans.{TablePlan}
use Rattle.ell_runs.specs.declared.call.Call.TheVariants as call
use Rattle.ell_runs.specs.declared.view.Told.{Told}
use Rattle.ell_runs.specs.declared.view.Told.TheVariants.{Key, Frozen}
use Rattle.ell_runs.specs.declared.view.View.{View}
use Rattle.ell_runs.specs.Views.{IsTold}
use Rattle.ell_runs.specs.Changes.{with_fact, if_won, exchanged, after_mark, unmarking, is_mark_of}
use Rattle.ell_runs.specs.Guards.{MayMark, MayDChild, KnowsPlace, IsSibling}
use Rattle.ell_runs.specs.States.{TableState}
use Rattle.ell_runs.specs.Machines.{EntryHolds, HasMachine}
use Rattle.ell_runs.specs.Laws.{IsEvent}
use Rattle.ell_runs.proofs.lemmas.words.Updates.{is_mark}
use Rattle.ell_core.proofs.lemmas.stages.Waiting.{born-settled}
use Rattle.ell_runs.proofs.lemmas.views.Entries.{places_more}
use Rattle.ell_runs.proofs.lemmas.seats.Entries.{facts_known}
use Rattle.ell_runs.proofs.lemmas.views.Facts.{knows_more, facts_by_more}
use Rattle.ell_runs.proofs.lemmas.seats.Seats.{mine, becomes, mine_is, relies, stands_born}
use Rattle.ell_runs.proofs.lemmas.seats.Frames.{Onward, is_event}
use Rattle.ell_runs.proofs.lemmas.stepping.Looks.{found_entries, names_card, born_small, child_born}
use Rattle.ell_runs.proofs.lemmas.stepping.Exchanges.{in_list, told_is, told_key, flags_never, found_at, exchanged_words, learning_on, exchange_leads, teaches, update_exchanged, update_says, child_exchanged, child_says, unflags, told_tag}
use Rattle.ell_runs.proofs.lemmas.stepping.Known.{known_delete, delete_cut, delete_unmarkable, update_found, child_found}
use Rattle.ell_word.specs.Link.{linked, node_bound}
use Rattle.ell_word.specs.declared.link.Link.{Link}
use Rattle.ell_core.specs.history.Invariant.{DeleteCard}
use Rattle.ell_core.proofs.lemmas.words.Sides.{sibling_cases}
use Rattle.ell_runs.specs.Calls.{next_link}

-- what a mark teaches, as the view has it
marking_worker : (v : View) (c x n : ℕ) (b : Bool)
    → worker_of (after_mark b c x (unpacked n) v).worker ≡ knowing (worker_of v.worker) (mark_teaches (known_of v.worker.knows) c b n)
marking_worker v c x n true = refl
marking_worker v c x n false = by (is_mark_of c (unpacked n).state (unpacked n).card) (is_mark c n)
  where
    by : (m : Bool) → m ≡ (n == marked c)
        → worker_of (if m then with_fact (Marked c) v else unmarking c x (unpacked n) v).worker
        ≡ knowing (worker_of v.worker) (if n == marked c then learned (known_of v.worker.knows) (Marked c)
        else learned_any (learned (known_of v.worker.knows) (Unmarkable c)) (told_by n))
    by true e = ap (λ b. knowing (worker_of v.worker) (if b then learned (known_of v.worker.knows) (Marked c)
        else learned_any (learned (known_of v.worker.knows) (Unmarkable c)) (told_by n))) e
    by false e = ap (knowing (worker_of v.worker)) (facts_known (unpacked n).state (unpacked n).card (Unmarkable c ∷ v.worker.knows))
        ∙ ap (λ b. knowing (worker_of v.worker) (if b then learned (known_of v.worker.knows) (Marked c)
        else learned_any (learned (known_of v.worker.knows) (Unmarkable c)) (told_by n))) e

module _ (plan : TablePlan) (s : TableState) (r : HasMachine plan s) (id : ℕ) (v : View) (here : get_elem? s.views id ≡ some v) where
  -- what is so of a pass after a mark
  mark_on : (c x n : ℕ) (b : Bool) → Onward r.words r.stages v (exchanged (if_won b exchange.Mark c) n (after_mark b c x (unpacked n) v))
  mark_on c x n true = learning_on plan s r id v here (Marked c) (if_won true exchange.Mark c) n
  mark_on c x n false = by (is_mark_of c (unpacked n).state (unpacked n).card)
    where
      by : (m : Bool) → Onward r.words r.stages v (exchanged [] n (if m then with_fact (Marked c) v else unmarking c x (unpacked n) v))
      by true = learning_on plan s r id v here (Marked c) [] n
      by false = record {
        here = λ y key at told. places_more x (unpacked n).state (unpacked n).card v.told (Key y key) ((r.views id v here).here y key at told);
        hand = λ d has un. (has, un, refl, refl);
        owns = λ k h. h;
        list = refl;
        read = λ m at. at;
        least = refl;
        before = (r.views id v here).knew;
        knew = λ f k. facts_by_more (unpacked n).state (unpacked n).card (Unmarkable c ∷ v.worker.knows) f
            (knows_more (Unmarkable c) f v.worker.knows ((r.views id v here).knew f k));
        walk = λ op y busy at. (stands_born plan s r id v here y at, (r.views id v here).walk op y busy at);
      }

  -- what it was told
  mark_entries : (c x n : ℕ) → IsReadable r.words r.stages x → r.words.update x ≡ n → (b : Bool) (e : Told)
      → IsTold (after_mark b c x (unpacked n) v) e → EntryHolds r.words r.stages e
  mark_entries c x n reads is true = (r.views id v here).entries
  mark_entries c x n reads is false = by (is_mark_of c (unpacked n).state (unpacked n).card)
    where
      by : (m : Bool) (e : Told) → IsTold (if m then with_fact (Marked c) v else unmarking c x (unpacked n) v) e → EntryHolds r.words r.stages e
      by true = (r.views id v here).entries
      by false = found_entries plan s r id v here x n v.told reads is (r.views id v here).entries

  -- mark
  pub keeps_mark : (c p was : ℕ) → MayMark v c p was → IsEvent plan s r id v (call.Mark c p was)
  keeps_mark c p was may =
      let w = r.words in
      let a = act.Mark c in
      let u = worker_of v.worker in
      let n = found_at plan s r id v here (card p) field.Update in
      let said = known_delete plan s r id v here c (inl may.0.knows) in
      let p_is : w.p c ≡ p = told_is plan s r id v here c field.P p may.0.place in
      let was_is : w.was c ≡ was = told_is plan s r id v here c field.Was was may.1 in
      let born = subst (Born r.stages) p_is said.parent.born in
      let is = update_found plan s r id v here (w.p c) p p_is said.parent.inner said.parent.born in
      let reads : IsReadable w r.stages p = subst (IsReadable w r.stages) p_is
      ((relies plan s r id v here).delete (DFlagged c) (ap (λ (z : Worker). z.knows (DFlagged c)) (mine_is plan s r id v here) ∙ may.0.knows) refl).parent in
      let is_p : w.update p ≡ n = ap w.update (sym p_is) ∙ is in
      let happens : Happens plan.last_card a (mine plan s r id v here) (won_or_lost (n == was))
      (becomes plan s r id v here (exchanged_words plan s r id v here (card p) field.Update (marked c) (n == was))
      (after_mark (n == was) c p (unpacked n) v)) = record {
        owned = λ h. h;
        row = record {
          may = may.0.knows;
          says = ap (λ z. won_or_lost (n == z)) (sym was_is) ∙ update_says w (w.p c) p (w.was c) (marked c) n p_is said.parent.inner is;
          gives = λ t. record {
            words = (ap (λ z. exchanged_words plan s r id v here (card p) field.Update (marked c) (n == z)) (sym was_is)
                ∙ update_exchanged w (w.p c) p (w.was c) (marked c) n p_is said.parent.inner is) t;
            worker = (marking_worker v c p n (n == was) ∙ (ap (λ z. knowing u (mark_teaches u.knows c (n == z) n)) (sym was_is)
                ∙ ap (λ m. knowing u (mark_teaches u.knows c (m == w.was c) m)) (sym is))) t;
          };
        };
        room = λ h. h;
      } in
      is_event plan s r id v here (call.Mark c p was) a _ _
      (exchange_leads plan s r id v here a (card p) field.Update was (marked c) (λ b. exchanged (if_won b exchange.Mark c) n (after_mark b c p (unpacked n) v))
      (in_list plan s r id v here p field.Update born) (born-settled (r.stages (card p)) (p % 4) born) happens
      (λ stages led d f wait still. absurd (flags_never plan s r id v here a Won (table_written w (card p) field.Update (marked c))
      (exchanged (if_won true exchange.Mark c) n (after_mark true c p (unpacked n) v)) stages led exchange.Mark c (λ e. (cc)) (λ e. (cc)) (λ d. refl) d wait still))
      (λ d. refl) (mark_entries c p n reads is_p) (mark_on c p n))
      refl refl (names_card plan s r id v here p n reads is_p)

  -- the sibling of the leaf, as it was told
  pub sibling_told : (c p l y : ℕ) → r.words.p c ≡ p → r.words.l c ≡ l → IsSibling v c l y → sibling r.words c ≡ y
  sibling_told c p l y p_is l_is (inl a) =
      let right_is : r.words.child (r.words.p c) true ≡ y = ((r.views id v here).entries (Frozen c true y) a.0).2 in
      ap (λ (b : Bool). if b then r.words.child (r.words.p c) false else r.words.child (r.words.p c) true)
      (ne_eqb (r.words.child (r.words.p c) true) (r.words.l c) (λ q. a.1 (sym right_is ∙ (q ∙ l_is)))) ∙ right_is
  sibling_told c p l y p_is l_is (inr b) =
      let right_is : r.words.child (r.words.p c) true ≡ l = ((r.views id v here).entries (Frozen c true l) b.0).2 in
      ap (λ (b : Bool). if b then r.words.child (r.words.p c) false else r.words.child (r.words.p c) true)
      (eq-eqb (r.words.child (r.words.p c) true) (r.words.l c) (right_is ∙ sym l_is)) ∙ ((r.views id v here).entries (Frozen c false y) b.1).2

  -- its number is small
  sibling_small : (c : ℕ) → DeleteCard r.words r.stages c → sibling r.words c < node_bound
  sibling_small c said =
      let child = λ (right : Bool). born_small plan s r id v here (r.words.child (r.words.p c) right)
      (child_born plan s r id v here (r.words.p c) right said.parent.inner said.parent.born) in
      elim (sibling_cases r.words c) [
        | inl e ↦ subst (λ z. z < node_bound) (sym e) (child false)
        | inr e ↦ subst (λ z. z < node_bound) (sym e) (child true)
      ]

  -- dchild
  pub keeps_dchild : (c gp : ℕ) (p : Link) (y : ℕ) (right : Bool) → MayDChild v c gp p y right → IsEvent plan s r id v (call.DChild c gp p y right)
  keeps_dchild c gp p y right may =
      let w = r.words in
      let a = act.DChild c in
      let g = child_field right in
      let n = found_at plan s r id v here (card gp) g in
      let said = known_delete plan s r id v here c (inr may.knows) in
      let gp_is : w.gp c ≡ gp = told_is plan s r id v here c field.Gp gp may.grandparent in
      let p_is : w.p c ≡ p.node = told_is plan s r id v here c field.P p.node may.parent in
      let tag_is : w.expects c ≡ p.tag = told_tag plan s r id v here c p.tag may.expects in
      let link_is : p ≡ expected w c (w.p c) = λ t. record { node = sym p_is t; tag = sym tag_is t } in
      let l_is : w.l c ≡ may.leaf = told_is plan s r id v here c field.L may.leaf may.below in
      let y_is : sibling w c ≡ y = sibling_told c p.node may.leaf y p_is l_is may.sibling in
      let side : exchange_side w (w.gp c) y ≡ right =
      ap (λ k. nat_le k (w.key y)) (ap w.key gp_is ∙ told_key plan s r id v here gp may.grandparent_key may.told_grandparent)
      ∙ (ap (nat_le may.grandparent_key) (told_key plan s r id v here y may.sibling_key may.told_sibling) ∙ sym may.side) in
      let born = subst (Born r.stages) gp_is said.grandparent.born in
      let inner = said.grandparent.inner in
      let is = child_found plan s r id v here (w.gp c) gp right gp_is inner said.grandparent.born in
      let child_small = born_small plan s r id v here (w.child (w.gp c) right) (child_born plan s r id v here (w.gp c) right inner said.grandparent.born) in
      let parent_small : p.node < node_bound = subst (λ z. z < node_bound) p_is (born_small plan s r id v here (w.p c) said.parent.born) in
      let new_small : y < node_bound = subst (λ z. z < node_bound) y_is (sibling_small c said) in
      let exchanged = child_exchanged w (w.gp c) gp p y n right gp_is inner side is child_small parent_small new_small in
      is_event plan s r id v here (call.DChild c gp p y right) a _ _
      (teaches plan s r id v here a (card gp) g (linked p) (linked (next_link p y)) (Cut c) exchange.DChild c
      (in_list plan s r id v here gp g born) (born-settled (r.stages (card gp)) (gp % 4) born)
      (λ e. (cc)) (λ e. (cc)) (λ e. refl) (λ e. refl) (record {
        owned = λ h. h;
        row = record {
          may = may.knows;
          says = child_says w (w.gp c) gp p y n right gp_is inner side is child_small parent_small new_small
              ∙ λ t. won_or_lost (finds_link w (w.gp c) (link_is t) (sym y_is t));
          gives = λ t. record {
            words = (exchanged ∙ λ i. exchanged_child w (w.gp c) (link_is i) (sym y_is i)) t;
            worker = worker_of (with_fact (Cut c) v).worker;
          };
        };
        room = λ h. h;
      }))
      refl refl tt

  -- dunflag
  pub keeps_dunflag : (c gp : ℕ) → KnowsPlace v (Cut c) c field.Gp gp → IsEvent plan s r id v (call.DUnflag c gp)
  keeps_dunflag c gp may =
      is_event plan s r id v here (call.DUnflag c gp) (act.DUnflag c) _ _
      (unflags plan s r id v here (act.DUnflag c) c (r.words.gp c) gp (dflag c) (DOver c) exchange.DUnflag
      (told_is plan s r id v here c field.Gp gp may.place) (delete_cut plan s r id v here c may.knows).grandparent
      (λ e. (cc)) (λ e. (cc)) (λ e. refl) (λ e. refl)
      (λ says gives. record { owned = λ h. h; row = record { may = may.knows; does = record { says = says; gives = gives } }; room = λ h. h }))
      refl refl tt

  -- backtrack
  pub keeps_backtrack : (c gp : ℕ) → KnowsPlace v (Unmarkable c) c field.Gp gp → IsEvent plan s r id v (call.Backtrack c gp)
  keeps_backtrack c gp may =
      is_event plan s r id v here (call.Backtrack c gp) (act.Backtrack c) _ _
      (unflags plan s r id v here (act.Backtrack c) c (r.words.gp c) gp (dflag c) (Backed c) exchange.Backtrack
      (told_is plan s r id v here c field.Gp gp may.place) (delete_unmarkable plan s r id v here c may.knows).grandparent
      (λ e. (cc)) (λ e. (cc)) (λ e. refl) (λ e. refl)
      (λ says gives. record { owned = λ h. h; row = record { may = may.knows; does = record { says = says; gives = gives } }; room = λ h. h }))
      refl refl tt
