use Rattle.std.specs.Prelude.{◌≡◌, ℕ, ◌+◌, ◌<◌, ◌≤◌, ◌⊎◌, false, Option, Some, None, length, slice_index_or}
use Rattle.ell_ops.specs.Meaning.{greatest_key}
use Rattle.ell_word.specs.Node.{IsInternal}
use Rattle.ell_layout.specs.Words.{IsLeaf}
use Rattle.ell_runs.specs.declared.glance.Glance.{Glance}
use Rattle.ell_runs.specs.declared.view.Told.{Told}
use Rattle.ell_runs.specs.declared.view.Told.TheVariants.{Met, Key}
use Rattle.ell_runs.specs.declared.view.View.{View}
use Rattle.ell_runs.specs.LookPlaces.{SawLookBegin, SeesMoreInLook}
use Rattle.ell_runs.specs.Looking.{TellsBetween, ReadsItsOwn}
use Rattle.ell_runs.specs.Views.{HasCome, Has, InTable, IsTold}
use Rattle.ell_cards.specs.Models.{PassModel}
use Rattle.ell_tree.specs.declared.cursor.About.{About}
use Rattle.ell_tree.specs.declared.cursor.Cursor.{Cursor}
use Rattle.ell_tree.specs.Looks.{OnlyLooks}
use Rattle.ell_tree.specs.Scans.{HaveFound, IsAbout, value_there}
use Rattle.ell_runs.specs.Depths.{depth_of}

-- a pass was told of an inner node beside the root that has this key
pub record IsNodeKey (last : ℕ) (v : View) (key : ℕ) : Type 0 where
  pub node : ℕ
  pub inner : IsInternal node
  pub there : InTable last node
  pub below : 0 < node
  pub told : IsTold v (Key node key)

-- where a stretch begins: at the key of such a node, or at the first key; and where it ends: at one, or after the last
-- real key
abbrev pub IsLower : ℕ → View → ℕ → Type 0
IsLower last v low = (low ≡ 0) ⊎ IsNodeKey last v low

abbrev pub IsUpper : ℕ → View → ℕ → Type 0
IsUpper last v high = (high ≡ greatest_key + 1) ⊎ IsNodeKey last v high

-- from a node that a look has come to it may go on
pub record MayGoOnFrom (last : ℕ) (v : View) (g : Glance) : Type 0 where
  pub come : HasCome v g.node g.low g.high
  pub met : IsTold v (Met g.node)
  pub there : InTable last g.node
  pub below : 0 < g.node
  pub deep : 0 < depth_of v g.node
  pub lower : IsLower last v g.low
  pub upper : IsUpper last v g.high
  pub real : g.high ≤ greatest_key + 1
  pub apart : g.whole ≡ false

-- a node that a cursor keeps, by its place
abbrev pub kept_at : Cursor → ℕ → Glance
kept_at c i = slice_index_or c.kept i (record { node = 0; low = 0; high = 0; whole = false })

-- so it may from where a cursor began, to which all real keys come, and from each node that it keeps
pub record AreKept (last : ℕ) (v : View) (c : Cursor) : Type 0 where
  pub many : length c.kept ≡ 32
  pub first : MayGoOnFrom last v c.first
  pub least : c.first.low ≡ 0
  pub most : c.first.high ≡ greatest_key + 1
  pub each : (i : ℕ) → i < 32 → MayGoOnFrom last v (kept_at c i)

-- a glance is one of a cursor's
abbrev pub IsAmong : Cursor → Glance → Type 0
IsAmong c g = (g ≡ c.first) ⊎ ((i : ℕ) × (i < 32) × (g ≡ kept_at c i))

-- a look goes on: it only looks, and what it was told and has come to stays so, and has seen more of the history
pub record KeepsLooking (old new : PassModel) (n : ℕ) : Type 0 where
  pub only : OnlyLooks old new n
  pub told : (e : Told) → IsTold old.view e → IsTold new.view e
  pub glances : (g : Glance) → Has old.view.glances g → Has new.view.glances g
  pub looks : new.view.looks ≡ old.view.looks
  pub sees : SeesMoreInLook old.sight new.sight

-- a look begins, and the pass sees where in the history
pub record BeginsALook (old new : PassModel) : Type 0 where
  pub only : OnlyLooks old new 1
  pub one : new.view.looks ≡ old.view.looks + 1
  pub saw : SawLookBegin old.sight new.sight

-- what was told of a leaf says this about the keys by which a look has come there
pub record TellsOfLeaf (from : ℕ) (v : View) (leaf : ℕ) (about : About) : Type 0 where
  pub key : ℕ
  pub outer : IsLeaf leaf
  pub told : IsTold v (Key leaf key)
  pub tells : TellsBetween from v leaf key about.low about.high about.found

-- the pair that was found, if one was, has a key of the stretch
abbrev pub IsWithin : ℕ → ℕ → Option (ℕ × ℕ) → Type 0
IsWithin low high None = Unit {0}
IsWithin low high (Some pair) = (low ≤ pair.0) × (pair.0 < high)

-- what a look has found about a key, of each key of the stretch by itself
pub record FindsAbout (last : ℕ) (v : View) (key : ℕ) (about : About) : Type 0 where
  pub within : IsAbout key about
  pub found : HaveFound v about.low about.high (value_there about.found)
  pub pair : IsWithin about.low about.high about.found
  pub lower : IsLower last v about.low
  pub upper : IsUpper last v about.high
  pub own : ReadsItsOwn v
