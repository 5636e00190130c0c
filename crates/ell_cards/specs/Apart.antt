-- That a pass tells the nodes which it names apart by what child words hold of their numbers.
use Rattle.std.specs.Prelude.{◌≡◌, ℕ, ◌%◌, ◌<◌, Bool, Some}
use Rattle.ell_word.specs.Link.{tag_unit}
use Rattle.ell_layout.specs.declared.field.Field.{Field}
use Rattle.ell_layout.specs.declared.field.Field.TheVariants.{Gp, P, L}
use Rattle.ell_layout.specs.Words.{has_block}
use Rattle.ell_core.specs.declared.view.Seen.{Seen}
use Rattle.ell_runs.specs.declared.view.Told.TheVariants.{Met, Info, Frozen}
use Rattle.ell_runs.specs.declared.view.View.{View}
use Rattle.ell_runs.specs.Plans.{TablePlan, flat_from}
use Rattle.ell_runs.specs.Views.{IsTold, StandsAt}
use Rattle.ell_runs.specs.Met.{LeafIsChild, NamesMet}

-- what a child word holds of a node's number: its low 38 bits
abbrev pub cut_node : ℕ → ℕ
cut_node x = x % tag_unit

-- a word of a card that is a node is a number of 38 bits
abbrev pub InfoIsLow : Field → ℕ → Type 0
InfoIsLow Gp x = x < tag_unit
InfoIsLow P x = x < tag_unit
InfoIsLow L x = x < tag_unit
InfoIsLow _ x = Unit {0}

-- the nodes that a pass names, by what words hold of them, are numbers of 38 bits
pub record NamesLowBits (v : View) : Type 0 where
  pub met : (x : ℕ) → IsTold v (Met x) → x < tag_unit
  pub node : (x : ℕ) → StandsAt v x → x < tag_unit
  pub parent : (seen : Seen) → v.worker.search.parent ≡ Some seen → seen.node < tag_unit
  pub grandparent : (seen : Seen) → v.worker.search.grandparent ≡ Some seen → seen.node < tag_unit
  pub info : (c : ℕ) (f : Field) (x : ℕ) → IsTold v (Info c f x) → InfoIsLow f x
  pub frozen : (c : ℕ) (right : Bool) (x : ℕ) → IsTold v (Frozen c right x) → x < tag_unit

-- A pass tells nodes that it has met apart by what words hold of their numbers, and knows by that which of them have
-- blocks; and it names no others but leaves of cards.
pub record IsApart (plan : TablePlan) (v : View) : Type 0 where
  pub met : (x y : ℕ) → IsTold v (Met x) → IsTold v (Met y) → cut_node x ≡ cut_node y → x ≡ y
  pub blocks : (x : ℕ) → IsTold v (Met x) → has_block (flat_from plan) (cut_node x) ≡ has_block (flat_from plan) x
  pub names : NamesMet v
  pub leaf : LeafIsChild v

-- By what child words hold of their numbers, a pass would tell this node, which it need not know, from each other that it
-- has met, and would know whether it has a block.
pub record IsToldApart (plan : TablePlan) (v : View) (y : ℕ) : Type 0 where
  pub met : (x : ℕ) → IsTold v (Met x) → cut_node y ≡ cut_node x → y ≡ x
  pub block : has_block (flat_from plan) (cut_node y) ≡ has_block (flat_from plan) y
