use Rattle.std.proofs.Common.{◌≡◌, ℕ, Bool, true, false, ◌==◌, if◌then◌else◌, Option, Some, None, Result, Ok, Err, IfErr, OnErr, refl, sym, ap, ◌∙◌, subst}
use Rattle.ell_core.specs.declared.event.Act.{Act}
use Rattle.ell_core.specs.declared.event.Stepped.{Stepped}
use Rattle.ell_core.specs.declared.event.CoreFault.{CoreFault}
use Rattle.ell_core.specs.declared.event.CoreFault.TheVariants.{NoMemory}
use Rattle.ell_core.specs.declared.fact.Fact.{Fact}
use Rattle.ell_core.specs.declared.view.Seen.{Seen}
use Rattle.ell_core.specs.state.Facts.{Knowledge, learned_any, told_by}
use Rattle.ell_core.specs.state.Machine.{Worker, Scene}
use Rattle.ell_core.specs.acts.Exchanges.{flagged_worker, flag_tells, flags}
use Rattle.ell_core.specs.acts.Events.{WantsMemory, TurnRefused}
use Rattle.ell_core.proofs.lemmas.words.Learned.{learned_knows}
use Rattle.ell_world.specs.Inside.{LacksAny}

-- a lacking fact, if there is one, is learned
pub any_is_learned : (known : Knowledge) (new : Option Fact) → LacksAny known new
    → (fact : Fact) × (known fact ≡ false) × (learned_any known new fact ≡ true)
any_is_learned known None h = absurd h
any_is_learned known (Some new) h = (new, h, learned_knows known new)

-- a turn that fails for want of memory is refused so
pub refused_for_memory : (cards : ℕ) (a : Act) (s : Scene) (L : Type 0) (r : Result Stepped CoreFault)
    → IfErr r (λ fault. fault ≡ NoMemory) → OnErr r L → (L → WantsMemory cards a s) → IfErr r (TurnRefused cards a s)
refused_for_memory cards a s L (Ok said) h l wants = tt
refused_for_memory cards a s L (Err fault) h l wants = subst (TurnRefused cards a s) (sym h) (wants l)

-- a worker after its own flag exchange knows what the exchange tells
flagged_knows : (v : Worker) (won : Bool) (fact : Fact) (found : ℕ)
    → (flagged_worker v won fact found).knows ≡ learned_any v.knows (if won then Some fact else told_by found)
flagged_knows v true fact found = refl
flagged_knows v false fact found = refl

-- a fact that a flag exchange tells and the worker lacks is learned by it
pub flag_is_learned : (s : Scene) (seen : Seen) (new : ℕ) (own : Fact) → LacksAny s.worker.knows (flag_tells seen s.words own)
    → (fact : Fact) × (s.worker.knows fact ≡ false) × ((flags s seen new own).worker.knows fact ≡ true)
flag_is_learned s seen new own lacks =
    let new_fact = any_is_learned s.worker.knows (flag_tells seen s.words own) lacks in
    let found = s.words.update seen.node in
    (new_fact.0, new_fact.1, ap (λ known. known new_fact.0) (flagged_knows s.worker (found == seen.word) own found) ∙ new_fact.2)
