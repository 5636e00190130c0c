use Rattle.std.proofs.Common.{ℕ, inl, inr, subst}
use Rattle.std.proofs.lemmas.Bool.{cases_Bool}
use Rattle.ell_core.specs.declared.event.Event.{Event}
use Rattle.ell_core.specs.declared.event.Stepped.{Stepped}
use Rattle.ell_core.specs.state.Machine.{Machine}
use Rattle.ell_core.specs.acts.Events.{Steps}
use Rattle.ell_core.specs.history.Stages.{Stages}
use Rattle.ell_core.specs.history.Invariant.{Invariant}
use Rattle.ell_core.specs.history.Later.{Follows}
use Rattle.ell_core.specs.statements.Since.{has_ended}
use Rattle.ell_grace.specs.Gone.{IsGone, HasOuts}
use Rattle.ell_grace.specs.Since.{ComesFrom, StatesComeFromThemselves, EventsLeadOn, ChildrenWereNotGone}
use Rattle.ell_core.proofs.lemmas.words.Later.{words_same}
use Rattle.ell_core.proofs.lemmas.stages.Advances.{stages_same}
use Rattle.ell_core.proofs.lemmas.runs.Chains.{words_later, stages_later}
use Rattle.ell_core.proofs.lemmas.keeping.AllEvents.{steps_follow}
use Rattle.ell_core.proofs.lemmas.following.Walks.{marked_or_not}
use Rattle.ell_core.proofs.lemmas.tree.Paths.{Reached-child}
use Rattle.ell_grace.proofs.lemmas.outs.Events.{outs_go_on}
use Rattle.ell_grace.proofs.lemmas.outs.Taken.{calm_reached}
use Rattle.ell_grace.proofs.lemmas.since.Later.{gone_later}
use Rattle.ell_grace.proofs.lemmas.since.Places.{reached_stays}
use Rattle.ell_grace.proofs.lemmas.since.Facts.{marked_fresh}
use Rattle.ell_grace.proofs.lemmas.since.Cards.{cards_begin, cards_go_on}

-- a state comes from itself
abbrev pub itself : (m : Machine) (has : HasOuts m) → ComesFrom m has.stages m
itself m has = record {
  stages = has.stages;
  invariant = has.invariant;
  outs = has.outs;
  words = words_same m.words;
  later = stages_same has.stages;
  cards = cards_begin m has.stages has.invariant has.outs;
}

pub states_come_from_themselves : StatesComeFromThemselves
states_come_from_themselves = itself

-- an event leads on, with the stages that follow
abbrev pub led_on : (m : Machine) (stage : Stages) → Invariant m stage → (old : Machine) (from : ComesFrom m stage old)
    → (e : Event) (said : Stepped) (new : Machine) → Steps old e said new → Follows old from.stages e.act e.worker said new → ComesFrom m stage new
led_on m stage first old from e said new steps follows = record {
  stages = follows.stages;
  invariant = follows.invariant;
  outs = outs_go_on old from.stages e said new from.invariant steps follows from.outs;
  words = words_later m.words old.words new.words from.words follows.words;
  later = stages_later stage from.stages follows.stages from.later follows.later;
  cards = cards_go_on m stage old from.stages e said new first from.invariant from.outs from.words from.later steps follows from.cards;
}

pub events_lead_on : EventsLeadOn
events_lead_on m stage first old from e said new steps =
    let follows = steps_follow old from.stages e said new from.invariant steps in
    (led_on m stage first old from e said new steps follows, follows.later)

-- what is in the tree now was not gone
pub reached_was_not_gone : (m : Machine) (stage : Stages) → Invariant m stage → (now : Machine) (from : ComesFrom m stage now) → (x : ℕ)
    → ¬ IsGone now.words from.stages x → ¬ IsGone m.words stage x
reached_was_not_gone m stage first now from x stays gone =
    stays (gone_later m stage first now.words from.stages from.words from.later x gone)

pub children_were_not_gone : ChildrenWereNotGone
children_were_not_gone m stage first now from x inner born stays right = elim (marked_or_not (now.words.update x)) [
  | inl at ↦
      let mark = (from.invariant.words.updates x inner born).marked at.0 at.1 in
      elim (cases_Bool (has_ended (stage at.0))) [
        | inl ended ↦ absurd (marked_fresh m stage now from.stages first from.invariant from.words from.later x at.0 stays mark.0 mark.1 ended)
        | inr going ↦
            subst (λ y. ¬ IsGone m.words stage (now.words.child y right)) mark.1 ((from.cards.marked at.0 mark.0 going).1 right)
      ]
  | inr calm ↦
      let reached = calm_reached now.words from.stages from.invariant.words x inner born calm in
      reached_was_not_gone m stage first now from (now.words.child x right)
      (reached_stays now.words from.stages from.invariant.words from.outs (now.words.child x right) (Reached-child now.words x right reached inner))
]
