-- Passes that know of no card but those below a number: the cards that have names so far.
use Rattle.std.specs.Prelude.{ℕ, ◌<◌, IfSome}
use Rattle.std.specs.List.{AllByRecursion}
use Rattle.ell_word.specs.Link.{link_in}
use Rattle.ell_word.specs.Node.{card}
use Rattle.ell_layout.specs.declared.field.Field.{Field}
use Rattle.ell_layout.specs.declared.field.Field.TheVariants as field
use Rattle.ell_core.specs.declared.exchange.Exchange.{Exchange}
use Rattle.ell_core.specs.declared.view.Seen.{Seen}
use Rattle.ell_core.specs.declared.view.Search.{Search}
use Rattle.ell_core.specs.state.Machine.{WorkerView}
use Rattle.ell_core.specs.state.Facts.{card_of_fact}
use Rattle.ell_runs.specs.declared.call.Call.{Call}
use Rattle.ell_runs.specs.declared.call.Call.TheVariants as call
use Rattle.ell_runs.specs.declared.glance.Glance.{Glance}
use Rattle.ell_runs.specs.declared.view.Answered.{Answered}
use Rattle.ell_runs.specs.declared.view.Hindrance.{Hindrance}
use Rattle.ell_runs.specs.declared.view.Hindrance.TheVariants.{Claim, Found}
use Rattle.ell_runs.specs.declared.view.Told.{Told}
use Rattle.ell_runs.specs.declared.view.Told.TheVariants.{Met, Depth, Key, Value, Info, Expects, Frozen}
use Rattle.ell_runs.specs.declared.view.View.{View}

-- a node, or an update word, is of a card below a number
abbrev pub NodeBelow : ℕ → ℕ → Type 0
NodeBelow n x = card x < n

-- so are a node that a search has seen, and the update word that it read there
abbrev pub SeenBelow : ℕ → Seen → Type 0
SeenBelow n seen = NodeBelow n seen.node × NodeBelow n seen.word

-- what a pass was told that a field of a card says
abbrev pub InfoBelow : ℕ → Field → ℕ → Type 0
InfoBelow n field.Gp x = NodeBelow n x
InfoBelow n field.P x = NodeBelow n x
InfoBelow n field.L x = NodeBelow n x
InfoBelow n field.Was x = NodeBelow n x
InfoBelow n field.Left x = NodeBelow n x
InfoBelow n field.Right x = NodeBelow n x
InfoBelow n field.Update x = NodeBelow n x
InfoBelow n f x = Unit {0}

-- what a pass was told
abbrev pub ToldBelow : ℕ → Told → Type 0
ToldBelow n (Met x) = NodeBelow n x
ToldBelow n (Depth x depth) = NodeBelow n x
ToldBelow n (Key x key) = NodeBelow n x
ToldBelow n (Value x value) = NodeBelow n x
ToldBelow n (Info c f x) = (c < n) × InfoBelow n f x
ToldBelow n (Expects c tag) = c < n
ToldBelow n (Frozen c right x) = (c < n) × NodeBelow n x

-- a word for a field of a card
abbrev pub WordBelow : ℕ → Field → ℕ → Type 0
WordBelow n field.Gp x = NodeBelow n x
WordBelow n field.P x = NodeBelow n x
WordBelow n field.L x = NodeBelow n (link_in x).node
WordBelow n field.Was x = NodeBelow n x
WordBelow n field.Left x = NodeBelow n (link_in x).node
WordBelow n field.Right x = NodeBelow n (link_in x).node
WordBelow n field.Update x = NodeBelow n x
WordBelow n f x = Unit {0}

-- what was in the way of an operation
abbrev pub HindranceBelow : ℕ → Hindrance → Type 0
HindranceBelow n (Claim c) = c < n
HindranceBelow n (Found u) = u.card < n

-- each node and word that a search has seen is of a card below a number
pub record SearchBelow (n : ℕ) (search : Search) : Type 0 where
  pub node : IfSome search.node (NodeBelow n)
  pub read : IfSome search.read (NodeBelow n)
  pub parent : IfSome search.parent (SeenBelow n)
  pub grandparent : IfSome search.grandparent (SeenBelow n)

-- so is each card of which the machine's worker knows
pub record WorkerBelow (n : ℕ) (worker : WorkerView) : Type 0 where
  pub search : SearchBelow n worker.search
  pub hand : IfSome worker.card (λ c. c < n)
  pub knows : AllByRecursion (λ f. card_of_fact f < n) worker.knows

-- and each card of which a pass knows
pub record NumbersBelow (n : ℕ) (v : View) : Type 0 where
  pub worker : WorkerBelow n v.worker
  pub told : AllByRecursion (ToldBelow n) v.told
  pub planned : AllByRecursion (λ (e : Field × ℕ). WordBelow n e.0 e.1) v.planned
  pub stores : AllByRecursion (λ (e : Field × ℕ). WordBelow n e.0 e.1) v.stores
  pub won : AllByRecursion (λ (e : Exchange × ℕ). e.1 < n) v.won
  pub answered : IfSome v.answered (λ (a : Answered). IfSome a.card (λ c. c < n))
  pub knew : AllByRecursion (λ f. card_of_fact f < n) v.knew_before
  pub hindrances : AllByRecursion (HindranceBelow n) v.hindrances
  pub met : AllByRecursion (HindranceBelow n) v.met
  pub glances : AllByRecursion (λ (g : Glance). NodeBelow n g.node) v.glances

-- A call finds a word of cards below a number, and a link that it expects leads to one. A claim does not, for what it
-- finds is the number of a card that has no name.
abbrev pub FindsBelow : ℕ → Call → ℕ → Type 0
FindsBelow count (call.Upd x) n = NodeBelow count n
FindsBelow count (call.Down x right) n = NodeBelow count (link_in n).node
FindsBelow count (call.Info c f) n = WordBelow count f n
FindsBelow count (call.FrozenChild c p right) n = NodeBelow count (link_in n).node
FindsBelow count call.Look n = NodeBelow count (link_in n).node
FindsBelow count (call.LookDown from to right) n = NodeBelow count (link_in n).node
FindsBelow count (call.Claim c node) n = ⊥
FindsBelow count (call.IFlag c p from) n = NodeBelow count n
FindsBelow count (call.DFlag c gp from) n = NodeBelow count n
FindsBelow count (call.Mark c p was) n = NodeBelow count n
FindsBelow count (call.IChild c p l replaces right) n = NodeBelow count l.node × NodeBelow count (link_in n).node
FindsBelow count (call.DChild c gp p s right) n = NodeBelow count p.node × NodeBelow count (link_in n).node
FindsBelow count c n = Unit {0}

-- so are the cards and nodes that a call names
abbrev pub NamesBelow : ℕ → Call → Type 0
NamesBelow n (call.Upd x) = NodeBelow n x
NamesBelow n (call.KeyOf x) = NodeBelow n x
NamesBelow n (call.ValueOf x) = NodeBelow n x
NamesBelow n (call.Info c f) = c < n
NamesBelow n (call.Down x right) = NodeBelow n x
NamesBelow n (call.FrozenChild c p right) = c < n
NamesBelow n (call.Claim c node) = c < n
NamesBelow n (call.Fill c f value) = WordBelow n f value
NamesBelow n (call.IFlag c p from) = (c < n) × NodeBelow n p
NamesBelow n (call.IChild c p l replaces right) = c < n
NamesBelow n (call.IUnflag c p) = c < n
NamesBelow n (call.DFlag c gp from) = (c < n) × NodeBelow n gp
NamesBelow n (call.Mark c p was) = (c < n) × NodeBelow n p
NamesBelow n (call.DChild c gp p s right) = c < n
NamesBelow n (call.DUnflag c gp) = c < n
NamesBelow n (call.Backtrack c gp) = c < n
NamesBelow n c = Unit {0}
