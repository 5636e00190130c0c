use Rattle.ell_word.specs.Node.{IsInternal}
use Rattle.ell_core.specs.declared.event.Event.{Event}
use Rattle.ell_core.specs.declared.event.Stepped.{Stepped}
use Rattle.ell_core.specs.state.Machine.{Machine}
use Rattle.ell_core.specs.acts.Events.{Steps}
use Rattle.ell_core.specs.history.Stages.{Stages, Born}
use Rattle.ell_core.specs.history.Invariant.{Invariant}
use Rattle.ell_core.specs.history.Later.{WordsLater, StagesLater}
use Rattle.std.specs.Prelude.{ℕ, Bool}
use Rattle.ell_grace.specs.Gone.{IsGone, HasOuts, OutsAreSound}
use Rattle.ell_grace.specs.Cards.{CardsSince}

-- a state that comes from another of the same run, in which the cards had come so far, and what the cards name by now that
-- had not ended there
pub record ComesFrom (m : Machine) (stage : Stages) (now : Machine) : Type 0 where
  pub stages : Stages
  pub invariant : Invariant now stages
  pub outs : OutsAreSound now.words stages
  pub words : WordsLater m.words now.words
  pub later : StagesLater stage stages
  pub cards : CardsSince m.words stage now.words stages

-- a state comes from itself
abbrev pub StatesComeFromThemselves : Type 0
StatesComeFromThemselves = (m : Machine) (has : HasOuts m) → ComesFrom m has.stages m

-- each event leads on, and the cards go on
abbrev pub EventsLeadOn : Type 0
EventsLeadOn = (m : Machine) (stage : Stages) → Invariant m stage → (old : Machine) (from : ComesFrom m stage old)
    → (e : Event) (said : Stepped) (new : Machine) → Steps old e said new
    → (to : ComesFrom m stage new) × StagesLater from.stages to.stages

-- a child of an internal node that was not gone was not gone, whatever child it has by now
abbrev pub ChildrenWereNotGone : Type 0
ChildrenWereNotGone = (m : Machine) (stage : Stages) → Invariant m stage → (now : Machine) (from : ComesFrom m stage now)
    → (x : ℕ) → IsInternal x → Born from.stages x → ¬ IsGone m.words stage x
    → (right : Bool) → ¬ IsGone m.words stage (now.words.child x right)
