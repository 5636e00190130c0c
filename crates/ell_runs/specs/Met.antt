use Rattle.std.specs.Prelude.{◌≡◌, ℕ, ◌⊎◌, true, false, Some}
use Rattle.ell_layout.specs.declared.field.Field.{Field}
use Rattle.ell_layout.specs.declared.field.Field.TheVariants.{Gp, P, L}
use Rattle.ell_core.specs.declared.fact.Fact.TheVariants.{Marked}
use Rattle.ell_core.specs.declared.view.Seen.{Seen}
use Rattle.ell_runs.specs.declared.glance.Glance.{Glance}
use Rattle.ell_runs.specs.declared.view.Told.{Told}
use Rattle.ell_runs.specs.declared.view.Told.TheVariants.{Met, Depth, Key, Value, Info, Expects, Frozen}
use Rattle.ell_runs.specs.declared.view.View.{View}
use Rattle.ell_runs.specs.Views.{Has, IsTold, Knows, StandsAt}

-- where a card goes, by one of its words, is a node that the pass has met
abbrev pub InfoIsMet : View → Field → ℕ → Type 0
InfoIsMet v Gp x = IsTold v (Met x)
InfoIsMet v P x = IsTold v (Met x)
InfoIsMet v _ x = Unit {0}

-- the node that an entry names is one that the pass has met, unless it is the leaf of a card
abbrev pub EntryIsMet : View → Told → Type 0
EntryIsMet v (Met x) = Unit {0}
EntryIsMet v (Depth x d) = IsTold v (Met x)
EntryIsMet v (Key x key) = IsTold v (Met x)
EntryIsMet v (Value x value) = IsTold v (Met x)
EntryIsMet v (Info c f x) = InfoIsMet v f x
EntryIsMet v (Expects c tag) = Unit {0}
EntryIsMet v (Frozen c right x) = IsTold v (Met x)

-- The nodes that a pass names it has met: the root, those of its search, those that it was told of, and those to which
-- its look has come; and the leaf of its card in hand.
pub record NamesMet (v : View) : Type 0 where
  pub root : IsTold v (Met 0)
  pub node : (x : ℕ) → StandsAt v x → IsTold v (Met x)
  pub parent : (seen : Seen) → v.worker.search.parent ≡ Some seen → IsTold v (Met seen.node)
  pub grandparent : (seen : Seen) → v.worker.search.grandparent ≡ Some seen → IsTold v (Met seen.node)
  pub entries : (e : Told) → IsTold v e → EntryIsMet v e
  pub glances : (glance : Glance) → Has v.glances glance → IsTold v (Met glance.node)
  pub leaf : (c x : ℕ) → v.worker.card ≡ Some c → IsTold v (Info c L x) → IsTold v (Met x)

-- the leaf of a card that is known marked is one of the children that the card's parent has for good
abbrev pub LeafIsChild : View → Type 0
LeafIsChild v = (c l x y : ℕ) → Knows v (Marked c) → IsTold v (Info c L l) → IsTold v (Frozen c true x)
    → IsTold v (Frozen c false y) → (l ≡ x) ⊎ (l ≡ y)
