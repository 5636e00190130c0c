use Rattle.std.proofs.Common.{◌≡◌, ℕ, ◌≤◌, ◌⊎◌, inl, inr, Bool, true, false, sym, ap, ◌∙◌, subst}
use Rattle.std.proofs.lemmas.Bool.{cases_Bool, false≢true}
use Rattle.ell_core.specs.declared.event.Event.{Event}
use Rattle.ell_core.specs.declared.event.Stepped.{Stepped}
use Rattle.ell_layout.specs.Cards.{keeps_below}
use Rattle.ell_core.specs.state.Machine.{Machine}
use Rattle.ell_core.specs.acts.Events.{Steps}
use Rattle.ell_core.specs.acts.Wins.{wins_by}
use Rattle.ell_core.specs.history.Stages.{Stages, is_delete, insert_won, is_changed, delete_won, is_marked, waits}
use Rattle.ell_core.specs.history.Invariant.{Invariant}
use Rattle.ell_core.specs.history.Later.{SameInfo, WordsLater, StagesLater, Follows}
use Rattle.ell_core.specs.statements.Since.{has_ended}
use Rattle.ell_grace.specs.Gone.{IsGone, OutsAreSound}
use Rattle.ell_grace.specs.Cards.{CardsSince}
use Rattle.ell_core.proofs.lemmas.stages.Order.{insert-claimed, delete-claimed, insert_won-insert, delete_won-delete, marked-delete, waits_or_changed}
use Rattle.ell_core.proofs.lemmas.stages.Below.{keeps_later}
use Rattle.ell_core.proofs.lemmas.stages.Sums.{sum_by}
use Rattle.ell_core.proofs.lemmas.runs.Chains.{words_later, stages_later}
use Rattle.ell_grace.proofs.lemmas.outs.Events.{outs_go_on}
use Rattle.ell_grace.proofs.lemmas.since.Later.{gone_later}
use Rattle.ell_grace.proofs.lemmas.since.Places.{insert_parent, insert_waiting, insert_leaf, delete_nodes, marked_nodes}
use Rattle.ell_grace.proofs.lemmas.since.Much.{one, much, few_won, ended_much, changed_much, insert_was, delete_was, marked_was}

-- what the cards name that have not ended is not gone
pub cards_begin : (m : Machine) (stage : Stages) → Invariant m stage → OutsAreSound m.words stage
    → CardsSince m.words stage m.words stage
cards_begin m stage invariant outs = record {
  insert = λ c won un. insert_parent m.words stage invariant.words outs c won un;
  lower = λ c won un is. elim is [
    | inl goes ↦ insert_leaf m.words stage invariant.words outs c won un goes
    | inr waits ↦ elim (waits_or_changed (stage c) won) [
      | inl at ↦ insert_waiting m.words stage invariant.words outs c at
      | inr changed ↦ absurd (false≢true (sym waits ∙ changed))
    ]
  ];
  delete = λ c won un. delete_nodes m.words stage invariant.words outs c won un;
  marked = λ c mark un. marked_nodes m.words stage invariant.words outs c mark un;
}

-- and what the cards name that had not ended then was not gone then, after each event
module _ (m : Machine) (stage : Stages) (old : Machine) (before : Stages) (e : Event) (said : Stepped) (new : Machine)
    (first : Invariant m stage) (invariant : Invariant old before) (outs : OutsAreSound old.words before)
    (words : WordsLater m.words old.words) (later : StagesLater stage before) (h : Steps old e said new)
    (follows : Follows old before e.act e.worker said new) (since : CardsSince m.words stage old.words before) where
  abbrev after : Stages
  after = follows.stages

  outs_then : OutsAreSound new.words after
  outs_then = outs_go_on old before e said new invariant h follows outs

  -- what is not gone now was not gone then
  back : (x : ℕ) → ¬ IsGone new.words after x → ¬ IsGone m.words stage x
  back x stays gone = stays (gone_later m stage first new.words after
      (words_later m.words old.words new.words words follows.words) (stages_later stage before after later follows.later) x gone)

  few : (c : ℕ) → sum_by one (wins_by e.act (old.worker e.worker).card said c) ≤ 1
  few c = few_won e.act (old.worker e.worker).card said c

  -- a card that had won its flag goes where it went
  insert_info : (c : ℕ) → insert_won (before c) ≡ true → SameInfo old.words new.words c
  insert_info c won = follows.words.info c ((invariant.words.cards c).claimed.0 (insert-claimed (before c) (insert_won-insert (before c) won)))

  delete_info : (c : ℕ) → is_delete (before c) ≡ true → SameInfo old.words new.words c
  delete_info c is = follows.words.info c ((invariant.words.cards c).claimed.0 (delete-claimed (before c) is))

  insert_on : (c : ℕ) → insert_won (after c) ≡ true → has_ended (stage c) ≡ false → ¬ IsGone m.words stage (new.words.p c)
  insert_on c won un = elim (cases_Bool (has_ended (after c))) [
    | inl ended ↦
        let was = insert_was before after c _ (follows.wins c) (few c) follows.later (ended_much (after c) ended) won in
        subst (λ n. ¬ IsGone m.words stage n) (sym (insert_info c was).p) (since.insert c was un)
    | inr going ↦ back (new.words.p c) (insert_parent new.words after follows.invariant.words outs_then c won going)
  ]

  -- the node where an insert goes
  lower_had : (c : ℕ) → insert_won (after c) ≡ true → 2 ≤ much (after c) → has_ended (stage c) ≡ false
      → (keeps_below new.words c ≡ false) ⊎ (is_changed (stage c) ≡ false) → ¬ IsGone m.words stage (new.words.l c)
  lower_had c won two un is =
      let was = insert_was before after c _ (follows.wins c) (few c) follows.later two won in
      let info = insert_info c was in
      subst (λ n. ¬ IsGone m.words stage n) (sym info.l)
      (since.lower c was un (elim is [
        | inl goes ↦ inl (sym (keeps_later old.words new.words follows.words c ((invariant.words.cards c).claimed.0 (insert-claimed (before c) (insert_won-insert (before c) was)))) ∙ goes)
        | inr waits ↦ inr waits
      ]))

  lower_on : (c : ℕ) → insert_won (after c) ≡ true → has_ended (stage c) ≡ false
      → (keeps_below new.words c ≡ false) ⊎ (is_changed (stage c) ≡ false) → ¬ IsGone m.words stage (new.words.l c)
  lower_on c won un is = elim (waits_or_changed (after c) won) [
    | inl at ↦ back (new.words.l c) (insert_waiting new.words after follows.invariant.words outs_then c at)
    | inr changed ↦ lower_had c won (changed_much (after c) changed) un is
  ]

  delete_on : (c : ℕ) → delete_won (after c) ≡ true → has_ended (stage c) ≡ false
      → (¬ IsGone m.words stage (new.words.gp c)) × (¬ IsGone m.words stage (new.words.p c))
  delete_on c won un = elim (cases_Bool (has_ended (after c))) [
    | inl ended ↦
        let was = delete_was before after c _ (follows.wins c) (few c) follows.later (ended_much (after c) ended) won in
        let had = since.delete c was un in
        let info = delete_info c (delete_won-delete (before c) was) in
        (subst (λ n. ¬ IsGone m.words stage n) (sym info.gp) had.0, subst (λ n. ¬ IsGone m.words stage n) (sym info.p) had.1)
    | inr going ↦ (let both = delete_nodes new.words after follows.invariant.words outs_then c won going in (back _ both.0, back _ both.1))
  ]

  marked_on : (c : ℕ) → is_marked (after c) ≡ true → has_ended (stage c) ≡ false
      → (¬ IsGone m.words stage (new.words.l c)) × ((right : Bool) → ¬ IsGone m.words stage (new.words.child (new.words.p c) right))
  marked_on c mark un = elim (cases_Bool (has_ended (after c))) [
    | inl ended ↦
        let was = marked_was before after c _ (follows.wins c) (few c) follows.later ended mark in
        let had = since.marked c was un in
        let info = delete_info c (marked-delete (before c) was) in
        let frozen = follows.words.frozen (old.words.p c) c ((invariant.words.deletes c).marked was).mark in (
          subst (λ n. ¬ IsGone m.words stage n) (sym info.l) had.0,
          λ right. subst (λ n. ¬ IsGone m.words stage n) (sym (ap (λ x. new.words.child x right) info.p ∙ frozen.child right)) (had.1 right),
        )
    | inr going ↦
        let both = marked_nodes new.words after follows.invariant.words outs_then c mark going in
        (back _ both.0, λ right. back _ (both.1 right))
  ]

  pub cards_go_on : CardsSince m.words stage new.words after
  cards_go_on = record { insert = insert_on; lower = lower_on; delete = delete_on; marked = marked_on }
