use Rattle.std.specs.Prelude.{◌≡◌, ℕ, ◌+◌, ◌-◌, ◌*◌, ◌<◌, ◌≤◌, if◌then◌else◌, Option, Some, None, Result, Ok, Err, List, ◌∷◌, length}
use Rattle.ell_word.specs.declared.link.Link.{Link}
use Rattle.ell_word.specs.declared.update.Update.{Update}
use Rattle.ell_core.specs.declared.fact.Fact.TheVariants as fact
use Rattle.ell_layout.specs.declared.field.Field.TheVariants as field
use Rattle.ell_runs.specs.declared.view.Told.TheVariants.{Info, Expects, Key, Met}
use Rattle.ell_runs.specs.declared.view.Hindrance.{Hindrance}
use Rattle.ell_runs.specs.declared.view.Hindrance.TheVariants.{Found}
use Rattle.ell_runs.specs.declared.view.View.{View}
use Rattle.ell_runs.specs.Plans.{TablePlan}
use Rattle.ell_cards.specs.Models.{PassModel}
use Rattle.ell_runs.specs.Views.{IsTold, Knows}
use Rattle.ell_runs.specs.Changes.{is_mark_of, is_this}
use Rattle.ell_runs.specs.Guards.{IsSibling}
use Rattle.ell_tree.specs.declared.steps.KeyedNode.{KeyedNode}
use Rattle.ell_tree.specs.declared.helping.DeleteFlag.{DeleteFlag}
use Rattle.ell_tree.specs.declared.helping.Ending.{Ending}
use Rattle.ell_tree.specs.declared.helping.Ending.TheVariants.{Done, Backed, Behind}
use Rattle.ell_tree.specs.Hindrances.{Meets, MeetsUpTo}
use Rattle.ell_tree.specs.Keeping.{KeepsAllButMet, IsInnerMet, IsSeenAt}
use Rattle.ell_runs.specs.Depths.{deepest, depth_of}

-- the flag of an insert is known, and where its card goes
pub record IsInsert (v : View) (c p : ℕ) (l : Link) (k j : ℕ) : Type 0 where
  pub knows : Knows v (fact.IFlagged c)
  pub met : IsTold v (Met p)
  pub parent : IsTold v (Info c field.P p)
  pub leaf : IsTold v (Info c field.L l.node)
  pub expects : IsTold v (Expects c l.tag)
  pub right_key : IsTold v (Info c field.RightLeafKey k)
  pub left_key : IsTold v (Info c field.LeftLeafKey j)

-- the flag of a delete is known, and stands at its grandparent
pub record IsFlag (last : ℕ) (v : View) (flag : DeleteFlag) : Type 0 where
  pub knows : Knows v (fact.DFlagged flag.card)
  pub told : IsTold v (Info flag.card field.Gp flag.grandparent)
  pub node : IsInnerMet last v flag.grandparent

-- the parent of a card is told
pub record IsParent (last : ℕ) (v : View) (c p : ℕ) : Type 0 where
  pub told : IsTold v (Info c field.P p)
  pub node : IsInnerMet last v p

-- the mark of a delete is known, and where its card goes
pub record KnowsMark (v : View) (c gp p : ℕ) : Type 0 where
  pub knows : Knows v (fact.Marked c)
  pub met : IsTold v (Met gp)
  pub grandparent : IsTold v (Info c field.Gp gp)
  pub parent : IsTold v (Info c field.P p)

-- the sibling of the leaf of a card that has marked its parent, and the sibling's key
pub record HasSibling (v : View) (c : ℕ) (sibling : KeyedNode) : Type 0 where
  pub leaf : ℕ
  pub told_leaf : IsTold v (Info c field.L leaf)
  pub other : IsSibling v c leaf sibling.node
  pub key : IsTold v (Key sibling.node sibling.key)

-- what a mark found in its place, if it does not stand
abbrev pub found_instead : ℕ → Result (Unit {0}) Update → Option Update
found_instead c (Ok won) = None
found_instead c (Err found) = if is_mark_of c found.state found.card then None else Some found

-- what was in the way once a mark of a card was made: the update that was found instead, if the card is the one in hand
abbrev pub met_by_mark : ℕ → Option Update → View → List Hindrance
met_by_mark c None v = v.hindrances
met_by_mark c (Some found) v = if is_this v.worker.card c then Found found ∷ v.hindrances else v.hindrances

-- the mark of a card was lost to another update at its parent
pub record IsLost (last c p : ℕ) (found : Update) (w : View) : Type 0 where
  pub knows : Knows w (fact.Unmarkable c)
  pub seen : IsSeenAt last w p found

-- the flag of a delete that lost its mark was taken away, a hindrance where its card is in hand
pub record IsBacked (c : ℕ) (v w : View) : Type 0 where
  pub knows : Knows w (fact.Backed c)
  pub hindered : v.worker.card ≡ Some c → length v.hindrances + 1 ≤ length w.hindrances

-- how a delete ends whose flag was won, and in how many steps
abbrev pub DeleteEnds : ℕ → ℕ → ℕ → PassModel → PassModel → Ending → Type 0
DeleteEnds last c p old new Done = KeepsAllButMet old new 8 × Meets old.view new.view × Knows new.view (fact.DOver c)
DeleteEnds last c p old new Backed = KeepsAllButMet old new 10 × Meets old.view new.view × IsBacked c old.view new.view
DeleteEnds last c p old new (Behind flag) =
    KeepsAllButMet old new 2 × MeetsUpTo flag.card old.view new.view × IsBacked c old.view new.view
    × IsFlag last new.view flag × (flag.grandparent ≡ p)

-- one delete is helped to its end, which leads to another's flag that is deeper, or there is no more to do
abbrev pub HelpEnds : TablePlan → DeleteFlag → PassModel → PassModel → Ending → Type 0
HelpEnds plan flag old new Done =
    KeepsAllButMet old new 12 × Meets old.view new.view × (depth_of old.view flag.grandparent + 1 ≤ deepest plan)
    × Knows new.view (fact.DOver flag.card)
HelpEnds plan flag old new Backed =
    KeepsAllButMet old new 12 × Meets old.view new.view × (depth_of old.view flag.grandparent + 1 ≤ deepest plan)
    × Knows new.view (fact.Backed flag.card)
HelpEnds plan flag old new (Behind next) =
    KeepsAllButMet old new 4 × MeetsUpTo next.card old.view new.view × IsFlag plan.last_card new.view next
    × (depth_of old.view flag.grandparent + 1 ≤ deepest plan) × (depth_of old.view flag.grandparent < depth_of new.view next.grandparent)
    × Knows new.view (fact.Backed flag.card)

-- the most steps of a chain of helps that begins with a delete's flag at a node of this depth
abbrev pub chain_steps : ℕ → ℕ → ℕ
chain_steps most depth = 4 * (most - depth) + 8

-- the most steps of a help
abbrev pub help_steps : ℕ → ℕ
help_steps most = 4 * most + 8
