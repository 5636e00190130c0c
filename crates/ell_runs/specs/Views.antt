use Rattle.std.specs.Prelude.{◌≡◌, ◌≢◌, ℕ, ◌⊎◌, ◌+◌, ◌<◌, ◌≤◌, ◌*◌, ◌==◌, ◌||◌, ◌/◌, nat_le, if◌then◌else◌, Bool, true, Some, None, List, [], ◌∷◌}
use Rattle.ell_ops.specs.declared.op.Op.{Op}
use Rattle.ell_word.specs.declared.update.State.{State}
use Rattle.ell_word.specs.declared.update.State.TheVariants as state
use Rattle.ell_core.specs.declared.fact.Fact.{Fact}
use Rattle.ell_core.specs.declared.fact.Fact.TheVariants.{IFlagged, DFlagged, Marked, IOver, DOver, Backed}
use Rattle.ell_layout.specs.declared.field.Field.{Field}
use Rattle.ell_layout.specs.Layout.{place}
use Rattle.ell_core.specs.state.Facts.{known_of}
use Rattle.ell_runs.specs.declared.glance.Glance.{Glance}
use Rattle.ell_runs.specs.declared.view.Told.{Told}
use Rattle.ell_runs.specs.declared.view.View.{View}

-- the whole share of a table, which its first pass has
abbrev pub whole_share : ℕ
whole_share = 4611686018427387904

-- the part of a share that a split gives away: of a great one little, so that one pass may part often; else half
abbrev pub given_share : ℕ → ℕ
given_share n = if nat_le 4294967296 n then n / 65536 else n / 2

-- a pass may be parted: where some keys are shared, each part gets a share
abbrev pub MayPart : View → Type 0
MayPart v = v.worker.shared ≢ None → 2 ≤ v.share

-- of a list, the last first, one is this
pub data Has {A : Type 0} : List A → A → Type 0 where
  latest : (e : A) (es : List A) → Has (e ∷ es) e
  earlier : (e d : A) (es : List A) → Has es e → Has (d ∷ es) e

-- the pass was told this
abbrev pub IsTold : View → Told → Type 0
IsTold v e = Has v.told e

-- the look that a pass began last has come to a node by the keys from low on and below high: by these, or by more
pub record HasCome (v : View) (node low high : ℕ) : Type 0 where
  pub glance : Glance
  pub among : Has v.glances glance
  pub there : glance.node ≡ node
  pub from : glance.low ≤ low
  pub upto : high ≤ glance.high

-- and by all of them as one
pub record HasComeWhole (v : View) (node low high : ℕ) : Type 0 where
  pub come : HasCome v node low high
  pub whole : come.glance.whole ≡ true

-- the pass knows a fact
abbrev pub Knows : View → Fact → Type 0
Knows v fact = known_of v.worker.knows fact ≡ true

-- the pass knew a fact when its search began
abbrev pub KnewBefore : View → Fact → Type 0
KnewBefore v fact = known_of v.knew_before fact ≡ true

-- by these facts what a card was for has come to its end: the flag of its insert or delete was taken away
abbrev pub EndedBy : List Fact → ℕ → Type 0
EndedBy facts c =
    (known_of facts (IOver c) ≡ true) ⊎ ((known_of facts (DOver c) ≡ true) ⊎ (known_of facts (Backed c) ≡ true))

-- whether facts tell that
abbrev pub knows_end : List Fact → ℕ → Bool
knows_end facts c = known_of facts (IOver c) || (known_of facts (DOver c) || known_of facts (Backed c))

-- an update that is not clean is of a card beside card 0, whose end the pass did not know when its search began
abbrev pub EndWasUnknown : View → State → ℕ → Type 0
EndWasUnknown v s c = s ≢ state.Clean → (0 < c) × (¬ EndedBy v.knew_before c)

-- the pass knows the flag or the mark of a delete's card
abbrev pub KnowsDelete : View → ℕ → Type 0
KnowsDelete v c = Knows v (DFlagged c) ⊎ Knows v (Marked c)

-- the pass knows the flag or the mark of a card
abbrev pub KnowsCard : View → ℕ → Type 0
KnowsCard v c = Knows v (IFlagged c) ⊎ (Knows v (DFlagged c) ⊎ Knows v (Marked c))

-- the pass has this operation in hand
abbrev pub Does : View → Op → Type 0
Does v op = v.worker.operation ≡ Some op

-- the pass stands at a node
abbrev pub StandsAt : View → ℕ → Type 0
StandsAt v x = v.worker.search.node ≡ Some x

-- the pass has nothing in hand
abbrev pub IsFree : View → Type 0
IsFree v = v.worker.operation ≡ None

-- a node of a table with this last card
abbrev pub InTable : ℕ → ℕ → Type 0
InTable last x = x ≤ 4 * last + 2

-- the word that a list of stores, the last first, leaves in a field that had 0
abbrev pub stored_at : List (Field × ℕ) → Field → ℕ
stored_at [] f = 0
stored_at (e ∷ es) f = if place e.0 == place f then e.1 else stored_at es f

-- a pass has the share that it had
pub record SameShare (old new : View) : Type 0 where
  pub share : new.share ≡ old.share
  pub ownable : new.worker.shared ≡ old.worker.shared
