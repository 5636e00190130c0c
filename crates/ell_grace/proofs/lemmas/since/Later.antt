use Rattle.std.proofs.Common.{ℕ, inl, inr, ◌∙◌}
use Rattle.ell_core.specs.declared.fact.Fact.TheVariants as fact
use Rattle.ell_layout.specs.Words.{Words}
use Rattle.ell_core.specs.state.Machine.{Machine}
use Rattle.ell_core.specs.history.Stages.{Stages}
use Rattle.ell_core.specs.history.Invariant.{Invariant}
use Rattle.ell_core.specs.history.Later.{WordsLater, StagesLater}
use Rattle.ell_grace.specs.Gone.{TakesOut, IsGone}
use Rattle.ell_core.proofs.lemmas.stages.Order.{insert-claimed, delete-claimed, changed-insert, cut-delete}
use Rattle.ell_core.proofs.lemmas.stages.Below.{keeps_later}
use Rattle.ell_core.proofs.lemmas.stages.Ended.{ends_last}

-- what was gone is gone later
module _ (m : Machine) (stage : Stages) (first : Invariant m stage) (now : Words) (after : Stages) (words : WordsLater m.words now)
    (later : StagesLater stage after) where
  pub takes_later : (c x : ℕ) → TakesOut m.words stage c x → TakesOut now after c x
  takes_later c x (inl h) =
      let low = (first.words.cards c).claimed.0 (insert-claimed (stage c) (changed-insert (stage c) h.0)) in
      inl (later.told (fact.IChanged c) c h.0, keeps_later m.words now words c low ∙ h.1, (words.info c low).l ∙ h.2)
  takes_later c x (inr h) =
      let low = (first.words.cards c).claimed.0 (delete-claimed (stage c) (cut-delete (stage c) h.0)) in
      inr (later.told (fact.Cut c) c h.0, elim h.1 [ inl p ↦ inl ((words.info c low).p ∙ p) | inr l ↦ inr ((words.info c low).l ∙ l) ])

  pub gone_later : (x : ℕ) → IsGone m.words stage x → IsGone now after x
  gone_later x gone = record {
    taker = gone.taker;
    ended = ends_last stage after later gone.taker gone.ended;
    takes = takes_later gone.taker x gone.takes;
  }
