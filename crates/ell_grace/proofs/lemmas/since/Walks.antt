use Rattle.std.proofs.Common.{ℕ, inl, inr, sym, subst}
use Rattle.ell_core.specs.declared.event.Event.{Event}
use Rattle.ell_core.specs.declared.event.Stepped.{Stepped}
use Rattle.ell_core.specs.state.Machine.{Machine}
use Rattle.ell_core.specs.acts.Events.{Steps}
use Rattle.ell_core.specs.tree.Tree.{OnWalk, Reached}
use Rattle.ell_core.specs.history.Stages.{Stages, Born}
use Rattle.ell_core.specs.history.Invariant.{Invariant}
use Rattle.ell_core.specs.history.Later.{WordsLater, StagesLater, Follows}
use Rattle.ell_grace.specs.Gone.{OutsAreSound}
use Rattle.ell_grace.specs.Operations.{AvoidsGone}
use Rattle.ell_core.proofs.lemmas.keeping.AllEvents.{steps_follow}
use Rattle.ell_core.proofs.lemmas.runs.Chains.{words_later, stages_later}
use Rattle.ell_core.proofs.lemmas.following.Walks.{walk_back, moved_by}
use Rattle.ell_grace.proofs.lemmas.outs.Events.{outs_go_on}
use Rattle.ell_grace.proofs.lemmas.since.Later.{gone_later}
use Rattle.ell_grace.proofs.lemmas.since.Places.{reached_stays}

module _ (m : Machine) (stage : Stages) (old : Machine) (before : Stages) (e : Event) (said : Stepped) (new : Machine)
    (first : Invariant m stage) (invariant : Invariant old before) (outs : OutsAreSound old.words before)
    (words : WordsLater m.words old.words) (later : StagesLater stage before) (h : Steps old e said new) where
  -- a walk goes on by what is in the tree
  pub walk_goes_on : (key x : ℕ) → Born before x → AvoidsGone m.words stage old.words key x → AvoidsGone m.words stage new.words key x
  walk_goes_on key x born avoids y gone on =
      let follows = steps_follow old before e said new invariant h in
      let happened = subst (Follows old before e.act e.worker said) h.gives follows in
      let outs' = outs_go_on old before e said new invariant h follows outs in
      elim (walk_back old.words h.becomes.words before invariant.words happened.words
      (moved_by old before e.worker said h.becomes invariant e.act h.happens.row happened) key born
      (subst (λ (t : Machine). OnWalk t.words key x y) h.gives on)) [
        | inl was ↦ avoids y gone was
        | inr there ↦ reached_stays new.words follows.stages follows.invariant.words outs' y
            (subst (λ (t : Machine). Reached t.words y) (sym h.gives) there)
            (gone_later m stage first new.words follows.stages (words_later m.words old.words new.words words follows.words)
            (stages_later stage before follows.stages later follows.later) y gone)
      ]
