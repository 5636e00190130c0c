use Rattle.std.specs.Prelude.{◌≡◌, ℕ, Bool, true}
use Rattle.ell_core.specs.declared.event.Event.{Event}
use Rattle.ell_core.specs.declared.event.Stepped.{Stepped}
use Rattle.ell_layout.specs.Words.{Words}
use Rattle.ell_core.specs.state.Machine.{Machine}
use Rattle.ell_core.specs.acts.Events.{Steps}
use Rattle.ell_core.specs.tree.Tree.{OnWalk}
use Rattle.ell_core.specs.history.Stages.{Stages, Born, is_cut}
use Rattle.ell_core.specs.history.Invariant.{Invariant}

-- each card of a set has made its cut
abbrev pub HaveCut : Stages → (ℕ → Bool) → Type 0
HaveCut stage cards = (c : ℕ) → cards c ≡ true → is_cut (stage c) ≡ true

-- the walk for a key from a node comes by no parent that a card of a set has cut out
abbrev pub Avoids : Words → (ℕ → Bool) → ℕ → ℕ → Type 0
Avoids w cards key x = (c : ℕ) → cards c ≡ true → ¬ OnWalk w key x (w.p c)

-- so is every walk from the root
abbrev pub RootsAvoid : Type 0
RootsAvoid = (m : Machine) (stage : Stages) (cards : ℕ → Bool) (key : ℕ) → Invariant m stage → HaveCut stage cards
    → Avoids m.words cards key 0

-- and a walk that comes by none of them comes by none after any event: what is new on a walk is in the tree
abbrev pub EventsKeepAvoiding : Type 0
EventsKeepAvoiding =
    (m : Machine) (stage : Stages) (e : Event) (said : Stepped) (m' : Machine) → Invariant m stage → Steps m e said m'
    → (cards : ℕ → Bool) → HaveCut stage cards → (key x : ℕ) → Born stage x → Avoids m.words cards key x
    → Avoids m'.words cards key x
