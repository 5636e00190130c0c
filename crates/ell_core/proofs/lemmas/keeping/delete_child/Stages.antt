use Rattle.std.proofs.Common.{◌≡◌, ℕ, refl, sym, ap, ◌∙◌, subst}
use Rattle.ell_layout.specs.Words.{put}
use Rattle.ell_core.specs.history.Stages.{Stages, Stage, DMarked, DCut}
use Rattle.ell_core.specs.history.Later.{StagesLater}
use Rattle.ell_core.proofs.lemmas.stages.Advances.{dchild_later, StageLater, stages_put}
use Rattle.ell_layout.proofs.lemmas.Writes.{put_cases}

-- the stages after the exchange
abbrev pub cut_stages : Stages → ℕ → Stages
cut_stages stage c = put stage c DCut

-- they are later
pub cut_stages_later : (stage : Stages) (c : ℕ) → stage c ≡ DMarked → StagesLater stage (cut_stages stage c)
cut_stages_later stage c at = stages_put stage c DCut (subst (λ s. StageLater s DCut) (sym at) dchild_later)

-- what does not tell the two stages apart says of each card what it said
pub stage_kept : (stage : Stages) (c : ℕ) → stage c ≡ DMarked → {A : Type 0} (f : Stage → A) → f DCut ≡ f DMarked → (d : ℕ)
    → f (cut_stages stage c d) ≡ f (stage d)
stage_kept stage c now f kept d =
    put_cases (λ s. f s ≡ f (stage d)) stage c DCut d (λ e. kept ∙ ap f (sym (ap stage e ∙ now))) (λ n. refl)
