-- How the memory of a tree that grows has what the tree has, by names of cards.
use Rattle.std.specs.Prelude.{◌≡◌, ◌≢◌, ◌⊎◌, ℕ, ◌≤◌, Bool, true, false, Option, Some, None, List, slice_index}
use Rattle.ell_layout.specs.declared.field.Field.{Field}
use Rattle.ell_layout.specs.declared.field.Field.TheVariants as field
use Rattle.ell_layout.specs.Layout.{address}
use Rattle.ell_core.specs.history.Stages.{Stages}
use Rattle.ell_runs.specs.Named.{named_word}
use Rattle.ell_runs.specs.Names.{top_name}
use Rattle.ell_runs.specs.Sayings.{says}
use Rattle.ell_runs.specs.Views.{stored_at}
use Rattle.ell_cards.specs.Shown.{cut_field}
use Rattle.ell_cards.specs.SlotWords.{slot_of}
use Rattle.ell_cards.specs.Refinement.{HasWon}

-- a slot that a pass has in hand: the name of the card to come, and what was stored there, the last first
pub record Hand : Type 0 where
  pub name : ℕ
  pub stores : List (Field × ℕ)

-- a card lies in the slot of its name, where these lie in the slots
abbrev pub LiesBy : ℕ → (ℕ → ℕ) → (ℕ → ℕ) → ℕ → Type 0
LiesBy last name lie c = (slot_of (name c) ≤ last) × (lie (slot_of (name c)) ≡ c)

-- what memory has of a word of the tree
abbrev pub in_memory : (ℕ → ℕ) → Field → ℕ → ℕ
in_memory name f n = cut_field f (named_word name f n)

-- what lies in a slot where no card does that has won its flag: a number that no card has
abbrev pub nobody : ℕ
nobody = top_name

-- What memory has of its tree, by names, in slots up to a last one. In each slot lies a card that has won its flag, or
-- nobody; and of the card that lies there memory has what it says, by names. The card of the root lies in slot 0; so
-- does each card in its slot that has won its flag and is not dead, and for each announcement that is pinned each that
-- was not dead when it was pinned. In a slot that a pass has in hand lies no card; its words are what the pass has
-- stored, and no other pass has that slot in hand.
pub record RefinesBy (last : ℕ) (name : ℕ → ℕ) (tree memory : List ℕ) (hand : ℕ → Option Hand) (stage : Stages)
    (lie : ℕ → ℕ) (dead : ℕ → Bool) (pinned : ℕ → Type 0) (was_dead : ℕ → ℕ → Bool) : Type 0 where
  pub flat : slice_index memory 1 ≡ slice_index tree 1
  pub root : lie 0 ≡ 0
  pub each : (slot : ℕ) → slot ≤ last → HasWon stage (lie slot) ⊎ (lie slot ≡ nobody)
  pub own : (slot : ℕ) → slot ≤ last → HasWon stage (lie slot) → slot_of (name (lie slot)) ≡ slot
  pub at : (slot : ℕ) (f : Field) → slot ≤ last → HasWon stage (lie slot) → says (stage (lie slot)) f ≡ true
      → slice_index memory (address slot f) ≡ in_memory name f (slice_index tree (address (lie slot) f))
  pub alive : (c : ℕ) → HasWon stage c → dead c ≡ false → LiesBy last name lie c
  pub lives : (q c : ℕ) → pinned q → HasWon stage c → was_dead q c ≡ false → LiesBy last name lie c
  pub fits : (c : ℕ) → HasWon stage c → slot_of (name c) ≤ last
  pub held : (seat : ℕ) (h : Hand) → hand seat ≡ Some h
      → (slot_of h.name ≤ last) × (¬ HasWon stage (lie (slot_of h.name)))
  pub filled : (seat : ℕ) (h : Hand) (f : Field) (x : ℕ) → hand seat ≡ Some h → stored_at h.stores f ≡ x
      → x ≢ 0 → slice_index memory (address (slot_of h.name) f) ≡ cut_field f x
  pub single : (seat other : ℕ) (h g : Hand) → hand seat ≡ Some h → hand other ≡ Some g
      → slot_of h.name ≡ slot_of g.name → seat ≡ other

-- A pass takes a slot in which nobody lies, or a card that is dead, and was dead when each announcement was pinned: the
-- slot is in its hand from now on, for a card of a new name, and no word of cards changes.
pub record SlotIsTaken (last : ℕ) (memory memory' : List ℕ) (hand : ℕ → Option Hand) (stage : Stages) (lie : ℕ → ℕ)
    (dead : ℕ → Bool) (pinned : ℕ → Type 0) (was_dead : ℕ → ℕ → Bool) (id new : ℕ) : Type 0 where
  pub inside : slot_of new ≤ last
  pub empty : hand id ≡ None
  pub free : (seat : ℕ) (h : Hand) → hand seat ≡ Some h → slot_of h.name ≢ slot_of new
  pub none : ¬ HasWon stage nobody
  pub gone : HasWon stage (lie (slot_of new)) → dead (lie (slot_of new)) ≡ true
  pub was_gone : (q : ℕ) → pinned q → HasWon stage (lie (slot_of new)) → was_dead q (lie (slot_of new)) ≡ true
  pub start : HasWon stage 0
  pub root : dead 0 ≡ false
  pub flat : slice_index memory' 1 ≡ slice_index memory 1
  pub stays : (slot : ℕ) (f : Field) → slot ≤ last
      → slice_index memory' (address slot f) ≡ slice_index memory (address slot f)

-- A pass stores a word in the slot that it has in hand.
pub record HandIsFilled (last : ℕ) (memory memory' : List ℕ) (hand : ℕ → Option Hand) (id : ℕ) (h : Hand) (g : Field)
    (x : ℕ) : Type 0 where
  pub has : hand id ≡ Some h
  pub flat : slice_index memory' 1 ≡ slice_index memory 1
  pub stores : slice_index memory' (address (slot_of h.name) g) ≡ cut_field g x
  pub stays : (slot : ℕ) (f : Field) → slot ≤ last → address slot f ≢ address (slot_of h.name) g
      → slice_index memory' (address slot f) ≡ slice_index memory (address slot f)

-- What the turns of a flag leave of cards that had won their flags: each has the name that it had, and what it says is,
-- by names, what it was; it has won its flag still, and says no more than it did.
pub record OthersStay (name name' : ℕ → ℕ) (tree : List ℕ) (stage stage' : Stages) : Type 0 where
  pub names : (d : ℕ) → HasWon stage d → name' d ≡ name d
  pub words : (d : ℕ) (f : Field) → HasWon stage d → says (stage d) f ≡ true
      → named_word name' f (slice_index tree (address d f)) ≡ named_word name f (slice_index tree (address d f))
  pub later : (d : ℕ) → HasWon stage d → HasWon stage' d
  pub kinds : (d : ℕ) (f : Field) → HasWon stage d → says (stage' d) f ≡ true → says (stage d) f ≡ true

-- The turns of a flag that is won, as words see them. The next card of the machine, which has had no name, gets that of
-- the hand, says what was planned, and has won its flag; no other card has that had not. The update word of a node
-- becomes its flag, in the tree and in memory, and no other word of cards changes.
pub record FlagIsWon (last : ℕ) (name name' : ℕ → ℕ) (tree tree' memory memory' : List ℕ) (stage stage' : Stages)
    (lie : ℕ → ℕ) (c p left : ℕ) (h : Hand) (planned : Field → ℕ) : Type 0 where
  pub flat : slice_index tree' 1 ≡ slice_index tree 1
  pub flat' : slice_index memory' 1 ≡ slice_index memory 1
  pub start : HasWon stage 0
  pub fresh : ¬ HasWon stage c
  pub room : c ≢ nobody
  pub named : name' c ≡ h.name
  pub others : OthersStay name name' tree stage stage'
  pub has : HasWon stage p
  pub lies : LiesBy last name lie p
  pub mine : (f : Field) → says (stage' c) f ≡ true → slice_index tree' (address c f) ≡ planned f
  pub stays : (d : ℕ) (f : Field) → HasWon stage d → address d f ≢ address p field.Update
      → slice_index tree' (address d f) ≡ slice_index tree (address d f)
  pub flags : slice_index tree' (address p field.Update) ≡ left
  pub flags' : slice_index memory' (address (slot_of (name p)) field.Update) ≡ in_memory name' field.Update left
  pub stays' : (slot : ℕ) (f : Field) → slot ≤ last → address slot f ≢ address (slot_of (name p)) field.Update
      → slice_index memory' (address slot f) ≡ slice_index memory (address slot f)
  pub wins : (d : ℕ) → HasWon stage' d → d ≢ c → HasWon stage d
  pub now : HasWon stage' c
  pub whole : (f : Field) → says (stage' c) f ≡ true
      → slice_index memory (address (slot_of h.name) f) ≡ in_memory name' f (planned f)

-- The turns of a flag that is lost, as words see them. The next card of the machine is discarded, with the name of the
-- hand: no card has won its flag that had not. No word of a card that has won its flag changes, nor any in memory; and
-- the pass has the slot in hand still, for a card of another name.
pub record FlagIsLost (last : ℕ) (name name' : ℕ → ℕ) (tree tree' memory memory' : List ℕ) (stage stage' : Stages)
    (h : Hand) (new : ℕ) : Type 0 where
  pub flat : slice_index tree' 1 ≡ slice_index tree 1
  pub flat' : slice_index memory' 1 ≡ slice_index memory 1
  pub same : slot_of new ≡ slot_of h.name
  pub others : OthersStay name name' tree stage stage'
  pub stays : (d : ℕ) (f : Field) → HasWon stage d
      → slice_index tree' (address d f) ≡ slice_index tree (address d f)
  pub stays' : (slot : ℕ) (f : Field) → slot ≤ last
      → slice_index memory' (address slot f) ≡ slice_index memory (address slot f)
  pub wins : (d : ℕ) → HasWon stage' d → HasWon stage d
