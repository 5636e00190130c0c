-- That dead nodes are retired in the words of slots.
use Rattle.std.specs.Prelude.{◌≡◌, ◌≢◌, ℕ, ◌+◌, ◌*◌, ◌%◌, ◌<◌, if◌then◌else◌, true, false, Some}
use Rattle.ell_word.specs.Node.{card}
use Rattle.ell_cards.specs.declared.card_nodes.CardNodes.{CardNodes}
use Rattle.ell_cards.specs.declared.retiring.Whose.{Whose}
use Rattle.ell_cards.specs.declared.retiring.Whose.TheVariants.{TakenOut, Own}
use Rattle.ell_cards.specs.declared.view.Known.{Known}
use Rattle.ell_cards.specs.declared.view.Retired.{Retired}
use Rattle.ell_runs.specs.declared.view.Slots.{Slots}
use Rattle.ell_runs.specs.declared.view.Told.TheVariants.{Met}
use Rattle.ell_runs.specs.declared.view.View.{View}
use Rattle.ell_cards.specs.Ages.{KnowsDeadNode}
use Rattle.ell_cards.specs.CardNodes.{has_node}
use Rattle.ell_runs.specs.Dead.{HasTakenOut, KnowsNeverComes}
use Rattle.ell_cards.specs.Models.{PassModel}
use Rattle.ell_runs.specs.Views.{IsTold}
use Rattle.ell_cards.specs.Retiring.{how_many_retired, is_done, with_retired}
use Rattle.ell_cards.specs.Shown.{shown}
use Rattle.ell_cards.specs.SlotWords.{card_by, has_slot_in, slot_of, generation_in, generation_of}

-- this is so of each of these nodes of a card
abbrev pub AllOfCard : (ℕ → Type 0) → ℕ → CardNodes → Type 0
AllOfCard P c nodes = (i : ℕ) → has_node nodes i ≡ true → P (4 * c + i)

-- by what a pass knows, each of these nodes of a card is dead; or never comes into the tree; or its card in hand has
-- taken each of them out
abbrev pub KnowsDeadNodes : View → ℕ → CardNodes → Type 0
KnowsDeadNodes v = AllOfCard (KnowsDeadNode v)

abbrev pub NeverCome : View → ℕ → CardNodes → Type 0
NeverCome v c = AllOfCard (KnowsNeverComes v c) c

abbrev pub AreTakenOut : View → ℕ → CardNodes → Type 0
AreTakenOut v = AllOfCard (HasTakenOut v)

-- a pass may retire these nodes of a card: its card in hand has taken them out, or it is that card, and they never come
abbrev pub MayRetire : View → Whose → ℕ → CardNodes → Type 0
MayRetire v TakenOut c nodes = AreTakenOut v c nodes
MayRetire v Own c nodes = NeverCome v c nodes × (v.worker.card ≡ Some c)

-- By the word of its slot, a card whose nodes a pass is to retire lies there: it is that of a node which the pass has
-- met; or it has this number, and the word is of its generation.
abbrev pub LiesThereStill : View → Whose → ℕ → ℕ → Type 0
LiesThereStill v TakenOut c word = (x : ℕ) × IsTold v (Met x) × (card x ≡ card_by (slot_of c) word)
LiesThereStill v Own c word = generation_in word ≡ generation_of c

-- so a pass may retire these nodes of the card in that word
pub record MayRetireIn (v : View) (whose : Whose) (c : ℕ) (nodes : CardNodes) (word : ℕ) : Type 0 where
  pub used : word % 8 ≢ 0
  pub there : LiesThereStill v whose c word
  pub dead : KnowsDeadNodes v (card_by (slot_of c) word) nodes

-- and it has read that word in the card's slot
pub record HasReadToRetire (k : Known) (whose : Whose) (c : ℕ) (nodes : CardNodes) (word : ℕ) : Type 0 where
  pub retires : MayRetire (shown k.tree) whose c nodes
  pub read : k.participant.read ≡ Some (record { slot = slot_of c; word = word })
  pub may : MayRetireIn k.tree whose c nodes word

-- A pass that was to exchange that word has found another one: if some of the nodes are left by it, the pass may retire
-- them there, and more of the three are retired by it than by the first one.
abbrev pub MayRetireNext : View → Whose → ℕ → CardNodes → ℕ → ℕ → Type 0
MayRetireNext v whose c nodes word found =
    found ≢ word → is_done whose c nodes found ≡ false
    → MayRetireIn v whose c nodes found × (how_many_retired word < how_many_retired found)

-- what a pass has retired for its card in hand after it has retired these nodes of a card, if that has a slot
abbrev pub retires_in : Slots → Whose → ℕ → CardNodes → Retired → Retired
retires_in s whose c nodes r = if has_slot_in s.last c then with_retired whose nodes r else r

-- all that contracts see of a pass is as it was, but what it has retired for its card in hand
abbrev pub RetiresOnly : PassModel → PassModel → Type 0
RetiresOnly old new = new ≡ record old { memory = record (old.memory) { retired = new.memory.retired } }
