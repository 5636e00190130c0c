use Rattle.std.proofs.Common.{ℕ, ◌≡◌, inl, inr, [], ◌∷◌, refl}
use Rattle.ell_core.specs.declared.exchange.Exchange.TheVariants as exchange
use Rattle.ell_core.specs.history.Stages.{Stage, Unclaimed, Opening, IClaimed, IFlagged, IChanged, IOver, RChanged, ROver, DClaimed, DFlagged, DUnmarkable, DMarked, DCut, DOver, DBacked}
use Rattle.ell_core.specs.history.Later.{wins_of}
use Rattle.ell_core.specs.acts.Wins.{insert_order, cut_order, InOrder}
use Rattle.ell_core.proofs.lemmas.opening.Invariant.{start_stages, each_stage}

-- the wins of a card up to each stage are in order
pub stage_wins : (s : Stage) → InOrder (wins_of s)
stage_wins Unclaimed = inl (record { rest = insert_order; together = refl })
stage_wins Opening = inl (record { rest = insert_order; together = refl })
stage_wins IClaimed = inl (record { rest = insert_order; together = refl })
stage_wins IFlagged = inl (record { rest = exchange.IChild ∷ exchange.IUnflag ∷ []; together = refl })
stage_wins IChanged = inl (record { rest = exchange.IUnflag ∷ []; together = refl })
stage_wins IOver = inl (record { rest = []; together = refl })
stage_wins RChanged = inl (record { rest = exchange.IUnflag ∷ []; together = refl })
stage_wins ROver = inl (record { rest = []; together = refl })
stage_wins DClaimed = inr (inl (record { rest = cut_order; together = refl }))
stage_wins DFlagged = inr (inl (record { rest = exchange.Mark ∷ exchange.DChild ∷ exchange.DUnflag ∷ []; together = refl }))
stage_wins DUnmarkable = inr (inr (record { rest = exchange.Backtrack ∷ []; together = refl }))
stage_wins DMarked = inr (inl (record { rest = exchange.DChild ∷ exchange.DUnflag ∷ []; together = refl }))
stage_wins DCut = inr (inl (record { rest = exchange.DUnflag ∷ []; together = refl }))
stage_wins DOver = inr (inl (record { rest = []; together = refl }))
stage_wins DBacked = inr (inr (record { rest = []; together = refl }))

-- nothing was won at the opening
pub opening_wins : (end c : ℕ) → wins_of (start_stages end c) ≡ []
opening_wins end c = each_stage (λ s. wins_of s ≡ []) end c refl refl
