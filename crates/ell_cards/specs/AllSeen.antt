use Rattle.std.specs.Prelude.{◌≡◌, ◌≢◌, ℕ, List, []}
use mathlib.Core.Option.{some}
use lib.ListN.{get_elem?}
use Rattle.ell_runs.specs.declared.view.Act.{Act}
use Rattle.ell_runs.specs.declared.view.Event.{Event}
use Rattle.ell_cards.specs.declared.view.Known.{Known}
use Rattle.ell_runs.specs.Histories.{IsCall}
use Rattle.ell_runs.specs.Views.{Has}
use Rattle.ell_runs.specs.Plans.{TablePlan}
use Rattle.ell_runs.specs.Seeing.{AreApart, HasSeen, IsSpentIn}

-- what each pass of a table has seen is so
abbrev pub AllHaveSeen : List Event → List Known → Type 0
AllHaveSeen history views = (seat : ℕ) (k : Known) → get_elem? views seat ≡ some k → HasSeen history seat k.sight

-- a pass of the table answered a call
pub record IsMadeBy (views : List Known) (a : Act) : Type 0 where
  pub seat : ℕ
  pub knows : Known
  pub there : get_elem? views seat ≡ some knows
  pub has : Has knows.sight.mine a

-- each call of the history is one that a pass answered
abbrev pub AreMade : List Event → List Known → Type 0
AreMade history views = (a : Act) → IsCall history a.begin a.end a.op a.said a.took → IsMadeBy views a

-- each call that a pass of a table answered stands once in the lists of all of them
pub record AreAllApart (views : List Known) : Type 0 where
  pub each : (seat : ℕ) (k : Known) → get_elem? views seat ≡ some k → AreApart k.sight.mine
  pub others : (i j : ℕ) (k l : Known) → get_elem? views i ≡ some k → get_elem? views j ≡ some l → i ≢ j
      → (a b : Act) → Has k.sight.mine a → Has l.sight.mine b → a.begin ≢ b.begin

-- a pass that has nothing left of a table that shares its keys has no calls
abbrev pub AreSilent : TablePlan → List Known → Type 0
AreSilent plan views =
    (seat : ℕ) (k : Known) → get_elem? views seat ≡ some k → IsSpentIn plan k.tree → k.sight.mine ≡ []
