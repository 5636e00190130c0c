use Rattle.std.proofs.Common.{ℕ, inl, inr, refl, sym, ap, subst}
use Rattle.ell_core.specs.declared.event.Act.{Act}
use Rattle.ell_core.specs.declared.event.Act.TheVariants as act
use Rattle.ell_core.specs.declared.event.Event.{Event}
use Rattle.ell_core.specs.declared.event.Stepped.{Stepped}
use Rattle.ell_core.specs.declared.fact.Fact.TheVariants.{Marked}
use Rattle.ell_core.specs.state.Machine.{Machine, Scene, scene, with_scene}
use Rattle.ell_core.specs.acts.Events.{Row, Steps}
use Rattle.ell_core.specs.acts.Wins.{wins_by}
use Rattle.ell_core.specs.history.Stages.{Stages}
use Rattle.ell_core.specs.history.Invariant.{Invariant}
use Rattle.ell_core.specs.history.Later.{Follows}
use Rattle.ell_grace.specs.Gone.{OutsAreSound}
use Rattle.ell_core.proofs.lemmas.stages.Order.{marked_cases}
use Rattle.ell_core.proofs.lemmas.stages.Sums.{child_changes, sum_by, none_won}
use Rattle.ell_core.proofs.lemmas.keeping.delete_child.DChild.{dchild-lost}
use Rattle.ell_core.proofs.lemmas.keeping.insert_child.IChild.{waits_or_made, lost_changed}
use Rattle.ell_grace.proofs.lemmas.outs.Newly.{quiet_outs}
use Rattle.ell_grace.proofs.lemmas.outs.Inserts.{ichild_outs}
use Rattle.ell_grace.proofs.lemmas.outs.Deletes.{dchild_outs}

-- the outs after any act
outs_by : (m : Machine) (stage : Stages) (i : ℕ) (a : Act) (said : Stepped) (becomes : Scene) → Invariant m stage → Row a (scene m i) said becomes
    → (follows : Follows m stage a i said (with_scene m i becomes)) → OutsAreSound m.words stage → OutsAreSound becomes.words follows.stages
outs_by m stage i (act.IChild c) said becomes invariant row follows outs = elim (waits_or_made m stage i invariant c row.may) [
  | inl flagged ↦ ichild_outs m stage i c said becomes invariant row follows outs flagged
  | inr changed ↦ quiet_outs m stage i (act.IChild c) said becomes invariant row follows outs
      (λ d. ap (λ (t : Stepped). sum_by child_changes (wins_by (act.IChild c) (m.worker i).card t d)) (lost_changed m stage i invariant c changed said becomes row).0)
]
outs_by m stage i (act.DChild c) said becomes invariant row follows outs = elim (marked_cases (stage c) ((invariant.workers.each i).facts (Marked c) row.may)) [
  | inl now ↦ dchild_outs m stage i c said becomes invariant row follows outs now
  | inr cut ↦ quiet_outs m stage i (act.DChild c) said becomes invariant row follows outs
      (λ d. ap (λ (t : Stepped). sum_by child_changes (wins_by (act.DChild c) (m.worker i).card t d)) (dchild-lost c (scene m i) stage said becomes invariant.words cut row).0)
]
outs_by m stage i (act.Begin op) said becomes invariant row follows outs =
    quiet_outs m stage i (act.Begin op) said becomes invariant row follows outs (λ d. none_won child_changes (act.Begin op) (m.worker i).card said d refl)
outs_by m stage i act.Upd said becomes invariant row follows outs =
    quiet_outs m stage i act.Upd said becomes invariant row follows outs (λ d. none_won child_changes act.Upd (m.worker i).card said d refl)
outs_by m stage i act.Down said becomes invariant row follows outs =
    quiet_outs m stage i act.Down said becomes invariant row follows outs (λ d. none_won child_changes act.Down (m.worker i).card said d refl)
outs_by m stage i act.Claim said becomes invariant row follows outs =
    quiet_outs m stage i act.Claim said becomes invariant row follows outs (λ d. none_won child_changes act.Claim (m.worker i).card said d refl)
outs_by m stage i act.IFlag said becomes invariant row follows outs =
    quiet_outs m stage i act.IFlag said becomes invariant row follows outs (λ d. none_won child_changes act.IFlag (m.worker i).card said d refl)
outs_by m stage i act.DFlag said becomes invariant row follows outs =
    quiet_outs m stage i act.DFlag said becomes invariant row follows outs (λ d. none_won child_changes act.DFlag (m.worker i).card said d refl)
outs_by m stage i (act.IUnflag c) said becomes invariant row follows outs =
    quiet_outs m stage i (act.IUnflag c) said becomes invariant row follows outs (λ d. none_won child_changes (act.IUnflag c) (m.worker i).card said d refl)
outs_by m stage i (act.Mark c) said becomes invariant row follows outs =
    quiet_outs m stage i (act.Mark c) said becomes invariant row follows outs (λ d. none_won child_changes (act.Mark c) (m.worker i).card said d refl)
outs_by m stage i (act.DUnflag c) said becomes invariant row follows outs =
    quiet_outs m stage i (act.DUnflag c) said becomes invariant row follows outs (λ d. none_won child_changes (act.DUnflag c) (m.worker i).card said d refl)
outs_by m stage i (act.Backtrack c) said becomes invariant row follows outs =
    quiet_outs m stage i (act.Backtrack c) said becomes invariant row follows outs (λ d. none_won child_changes (act.Backtrack c) (m.worker i).card said d refl)
outs_by m stage i act.Again said becomes invariant row follows outs =
    quiet_outs m stage i act.Again said becomes invariant row follows outs (λ d. none_won child_changes act.Again (m.worker i).card said d refl)
outs_by m stage i act.Leave said becomes invariant row follows outs =
    quiet_outs m stage i act.Leave said becomes invariant row follows outs (λ d. none_won child_changes act.Leave (m.worker i).card said d refl)
outs_by m stage i act.Answer said becomes invariant row follows outs =
    quiet_outs m stage i act.Answer said becomes invariant row follows outs (λ d. none_won child_changes act.Answer (m.worker i).card said d refl)

-- so every event keeps it so
pub outs_go_on : (m : Machine) (stage : Stages) (e : Event) (said : Stepped) (m' : Machine) → Invariant m stage → Steps m e said m'
    → (follows : Follows m stage e.act e.worker said m') → OutsAreSound m.words stage → OutsAreSound m'.words follows.stages
outs_go_on m stage e said m' invariant h follows outs =
    subst (λ (t : Machine). (f : Follows m stage e.act e.worker said t) → OutsAreSound t.words f.stages) (sym h.gives)
    (λ f. outs_by m stage e.worker e.act said h.becomes invariant h.happens.row f outs) follows
