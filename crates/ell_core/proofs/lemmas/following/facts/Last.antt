use Rattle.std.proofs.Common.{ℕ, sym, subst}
use Rattle.ell_core.specs.declared.event.Act.{Act}
use Rattle.ell_core.specs.declared.event.Event.{Event}
use Rattle.ell_core.specs.declared.event.Stepped.{Stepped}
use Rattle.ell_core.specs.state.Machine.{Machine, Scene, scene, with_scene}
use Rattle.ell_core.specs.acts.Events.{Happens, Steps}
use Rattle.ell_core.specs.history.Stages.{Stages}
use Rattle.ell_core.specs.history.Invariant.{Invariant}
use Rattle.ell_core.specs.history.Later.{Follows}
use Rattle.ell_core.specs.statements.Effects.{FactsLast}
use Rattle.ell_core.proofs.lemmas.following.facts.MarksKept.{marks_step}
use Rattle.ell_core.proofs.lemmas.following.facts.HoldsLater.{holds_later}

-- every fact that holds before an act holds after it
facts_last : (m : Machine) (stage : Stages) (a : Act) (i : ℕ) (said : Stepped) (becomes : Scene) → Invariant m stage
    → Happens m.last_card a (scene m i) said becomes → Follows m stage a i said (with_scene m i becomes) → FactsLast m.words becomes.words
facts_last m stage a i said becomes before happens f =
    holds_later m.words becomes.words stage f.stages before.words f.invariant.words f.words f.later
    (marks_step a (scene m i) said becomes happens.row) before.kinds

-- every fact that holds before an event holds after it
pub steps_last : (m : Machine) (stage : Stages) (e : Event) (said : Stepped) (after : Machine) → Invariant m stage
    → Steps m e said after → Follows m stage e.act e.worker said after → FactsLast m.words after.words
steps_last m stage e said after before h f =
    subst (λ (n : Machine). FactsLast m.words n.words) (sym h.gives)
    (facts_last m stage e.act e.worker said h.becomes before h.happens (subst (Follows m stage e.act e.worker said) h.gives f))
