use Rattle.ell_core.specs.declared.event.Act.{Act}
use Rattle.ell_core.specs.declared.event.Act.TheVariants as act
use Rattle.ell_core.specs.declared.event.Event.{Event}
use Rattle.ell_core.specs.declared.event.Stepped.{Stepped}
use Rattle.std.proofs.Common.{sym, subst}
use Rattle.ell_core.specs.state.Machine.{Machine}
use Rattle.ell_core.specs.acts.Events.{Steps}
use Rattle.ell_core.specs.history.Stages.{Stages}
use Rattle.ell_core.specs.history.Invariant.{Invariant, HasInvariant}
use Rattle.ell_core.specs.history.Later.{Follows}
use Rattle.ell_core.proofs.lemmas.keeping.search.Begin.{keeps_begin, keeps_again, keeps_leave}
use Rattle.ell_core.proofs.lemmas.keeping.search.Upd.{keeps_upd}
use Rattle.ell_core.proofs.lemmas.keeping.claim.Claim.{keeps_claim}
use Rattle.ell_core.proofs.lemmas.keeping.insert_child.IChild.{keeps_ichild}
use Rattle.ell_core.proofs.lemmas.keeping.updates.IUnflag.{keeps_iunflag}
use Rattle.ell_core.proofs.lemmas.keeping.delete_child.DChild.{keeps_dchild}
use Rattle.ell_core.proofs.lemmas.keeping.search.Down.{keeps_down}
use Rattle.ell_core.proofs.lemmas.keeping.updates.IFlag.{keeps_iflag}
use Rattle.ell_core.proofs.lemmas.keeping.updates.DFlag.{keeps_dflag}
use Rattle.ell_core.proofs.lemmas.keeping.updates.Mark.{keeps_mark}
use Rattle.ell_core.proofs.lemmas.keeping.updates.DUnflag.{keeps_dunflag, keeps_backtrack}
use Rattle.ell_core.proofs.lemmas.keeping.search.Answer.{keeps_answer}
use Rattle.ell_core.proofs.lemmas.keeping.KeepsInvariant.{KeepsInvariant}

-- an act, whichever it is
keeps : (a : Act) → KeepsInvariant a
keeps (act.Begin op) = keeps_begin op
keeps act.Upd = keeps_upd
keeps act.Down = keeps_down
keeps act.Claim = keeps_claim
keeps act.IFlag = keeps_iflag
keeps act.DFlag = keeps_dflag
keeps (act.IChild c) = keeps_ichild c
keeps (act.IUnflag c) = keeps_iunflag c
keeps (act.Mark c) = keeps_mark c
keeps (act.DChild c) = keeps_dchild c
keeps (act.DUnflag c) = keeps_dunflag c
keeps (act.Backtrack c) = keeps_backtrack c
keeps act.Again = keeps_again
keeps act.Leave = keeps_leave
keeps act.Answer = keeps_answer

-- an event of the machine
pub steps_follow : (m : Machine) (stage : Stages) (e : Event) (said : Stepped) (m' : Machine) → Invariant m stage → Steps m e said m'
    → Follows m stage e.act e.worker said m'
steps_follow m stage e said m' invariant h =
    subst (Follows m stage e.act e.worker said) (sym h.gives) (keeps e.act m stage e.worker said h.becomes h.there invariant h.happens)

-- so it leads from a state that the invariant holds of to one that it holds of
pub steps_lawful : (m : Machine) (e : Event) (said : Stepped) (m' : Machine) → HasInvariant m → Steps m e said m' → HasInvariant m'
steps_lawful m e said m' has h =
    let after = steps_follow m has.stages e said m' has.invariant h in
    record { stages = after.stages; invariant = after.invariant }
