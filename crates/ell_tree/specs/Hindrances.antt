use Rattle.std.specs.Prelude.{◌≡◌, ◌++◌, List, [], ◌∷◌, ℕ, Some}
use Rattle.ell_ops.specs.declared.op.Op.{Op}
use Rattle.ell_word.specs.declared.update.State.{State}
use Rattle.ell_word.specs.declared.update.State.TheVariants as state
use Rattle.ell_core.specs.declared.fact.Fact.{Fact}
use Rattle.ell_core.specs.declared.fact.Fact.TheVariants as fact
use Rattle.ell_runs.specs.declared.view.Hindrance.{Hindrance}
use Rattle.ell_runs.specs.declared.view.Hindrance.TheVariants.{Claim, Found}
use Rattle.ell_runs.specs.declared.view.View.{View}
use Rattle.ell_runs.specs.Views.{Knows}
use Rattle.ell_runs.specs.Changes.{in_the_way}
use Rattle.ell_runs.specs.Dead.{KnowsDeleteEnded}

-- what a flag or a mark of a card says is under way is known to have ended
abbrev pub IsEnded : View → State → ℕ → Type 0
IsEnded v state.IFlag c = Knows v (fact.IOver c)
IsEnded v state.DFlag c = KnowsDeleteEnded v c
IsEnded v state.Mark c = Knows v (fact.DOver c)
IsEnded v state.Clean c = Unit {0}

-- what was in the way is over: a claim was lost for good, and what an update says was under way is known to have ended
abbrev pub IsOver : View → Hindrance → Type 0
IsOver v (Claim c) = Unit {0}
IsOver v (Found u) = IsEnded v u.state u.card

-- all of these are over
abbrev pub AreOver : View → List Hindrance → Type 0
AreOver v [] = Unit {0}
AreOver v (h ∷ hs) = IsOver v h × AreOver v hs

-- what a pass knows is known still
abbrev pub StillKnows : View → View → Type 0
StillKnows v w = (f : Fact) → Knows v f → Knows w f

-- between two views these came to be in the way, the last first, and all are over at the second
pub record Meets (v w : View) : Type 0 where
  pub met : List Hindrance
  pub list : w.hindrances ≡ met ++ v.hindrances
  pub over : AreOver w met
  pub knows : StillKnows v w

-- all are over as soon as this delete is known to have ended
pub record MeetsUpTo (c : ℕ) (v w : View) : Type 0 where
  pub met : List Hindrance
  pub list : w.hindrances ≡ met ++ v.hindrances
  pub over : (x : View) → StillKnows w x → KnowsDeleteEnded x c → AreOver x met
  pub knows : StillKnows v w

-- what a search has read in the way of an operation, where it stands
abbrev pub way_of : Op → View → List Hindrance
way_of op v = in_the_way (Some op) v.worker.search.node v.worker.search.parent v.worker.search.grandparent
