use Rattle.std.specs.Prelude.{◌≡◌, ◌≢◌, ℕ, ◌<◌, ◌≤◌, ◌⊎◌, Bool, true, false, Some, List, [], ◌∷◌, ◌++◌, length, slice_index, slice_set, ◌+◌, ◌==◌}
use Rattle.std.specs.List.{IsDistinct, AllByRecursion}
use mathlib.Core.Option.{some}
use mathlib.Core.Option.{Option as Maybe}
use lib.ListN.{get_elem?}
use Rattle.atomic_table.specs.Table.{opening}
use Rattle.ell_layout.specs.Start.{words_at_start}
use Rattle.ell_layout.specs.Words.{put, words_of}
use Rattle.ell_layout.specs.Layout.{table_size}
use Rattle.ell_word.specs.Link.{link_in}
use Rattle.ell_word.specs.Node.{IsInternal, card, greatest_card, generation_size}
use Rattle.ell_core.specs.history.Stages.{Stages}
use Rattle.ell_runs.specs.declared.call.Call.{Call}
use Rattle.ell_runs.specs.declared.call.Call.TheVariants as call
use Rattle.ell_cards.specs.declared.view.Known.{Known}
use Rattle.ell_cards.specs.declared.view.Participant.{Participant}
use Rattle.ell_runs.specs.declared.view.Slots.{Slots}
use Rattle.ell_runs.specs.declared.view.Told.TheVariants.{Met}
use Rattle.ell_cards.specs.Ages.{AgesAreSound}
use Rattle.ell_runs.specs.Changes.{left_view, right_view}
use Rattle.ell_cards.specs.Apart.{IsApart, IsToldApart}
use Rattle.ell_runs.specs.Calls.{May, child_address, atomic_of, left_by}
use Rattle.ell_cards.specs.Addresses.{place_of}
use Rattle.ell_runs.specs.Plans.{TablePlan}
use Rattle.ell_runs.specs.Views.{IsFree, IsTold, MayPart}
use Rattle.ell_cards.specs.EpochLaws.{IsPinned}
use Rattle.ell_cards.specs.Epochs.{WholeState, slot_word, slots_size, AreOpeningWords, after_give, after_taking, given_participant}
use Rattle.ell_runs.specs.Touching.{IsAtRest}
use Rattle.ell_cards.specs.Shown.{IsWord, cut_by, IsNear}
use Rattle.ell_runs.specs.Sights.{given_sight}
use Rattle.ell_cards.specs.SlotWords.{has_slot_in, slot_of, generation_of, taken_word}
use Rattle.ell_runs.specs.Starts.{MayStart, IsReached}
use Rattle.ell_runs.specs.States.{TableState}
use Rattle.ell_runs.specs.Holding.{HoldsWaiting}
use Rattle.ell_cards.specs.Refinement.{LiesThere, Refines, MayInMemory}
use Rattle.ell_runs.specs.Touching.{Touched, AtNode, OfCard, AtRoot, touched_by}
use Rattle.ell_runs.specs.Turns.{found_by, view_after, state_after, state_split, state_joined}
use Rattle.ell_cards.specs.Whole.{IsWhole, trees_of, first_known, joined_known, spent_known}

-- the card whose word a call touches; the claim word is taken for one of card 0
abbrev pub card_touched : Touched → ℕ
card_touched (AtNode x) = card x
card_touched (OfCard c) = c
card_touched AtRoot = 0

-- a call finds in memory what is cut of what it finds in the tree; a store finds nothing that matters
abbrev pub FindsRefined : List ℕ → TableState → Call → Type 0
FindsRefined words tree (call.Fill c f value) = Unit {0}
FindsRefined words tree c = slice_index words (place_of c) ≡ cut_by c (found_by tree c)

-- the word that a call touches is one of the slots, and the card to which it belongs lies in its slot
pub record TouchesRefined (s : Slots) (lie : ℕ → ℕ) (words : List ℕ) (tree : TableState) (c : Call) : Type 0 where
  pub inside : place_of c < table_size s.last
  pub lies : LiesThere s lie (card_touched (touched_by c))
  pub finds : FindsRefined words tree c

-- the memory after a step call of the pass in a seat: at the call's place is what is cut of what the call leaves in
-- the tree
abbrev pub memory_after : TableState → WholeState → List (Maybe (Unit {0})) → ℕ → Known → Call → WholeState
memory_after tree t homes id k c = record {
  words = slice_set t.words (place_of c) (cut_by c (left_by (atomic_of c) (found_by tree c)));
  homes = homes;
  views = slice_set t.views id (record k { tree = view_after tree k.tree c });
}

-- memory refines the tree by the stages of the tree's machine, by which cards lie in slots, and what is dead there
pub record RefinesByAges (plan : TablePlan) (s : Slots) (tree : TableState) (t : WholeState) (lie : ℕ → ℕ)
    (dead : ℕ → Bool) (was_dead : ℕ → ℕ → Bool) : Type 0 where
  pub ages : AgesAreSound plan s tree t lie dead was_dead
  pub refines : Refines s tree t ages.now.machine.stages lie dead was_dead

-- A step call that a pass may make by what it knows, and by the slot that it has taken, touches a word that has what
-- the tree has, and memory refines the tree after it, whatever the homes are.
abbrev pub CallsKeepRefinement : Type 0
CallsKeepRefinement = (plan : TablePlan) (s : Slots) (tree : TableState) (t : WholeState) (lie : ℕ → ℕ)
    (dead : ℕ → Bool) (was_dead : ℕ → ℕ → Bool) → IsReached plan tree → s.last < generation_size
    → table_size s.last ≤ length t.words
    → RefinesByAges plan s tree t lie dead was_dead
    → (id : ℕ) (k : Known) → get_elem? t.views id ≡ some k → get_elem? tree.views id ≡ some k.tree
    → IsAtRest k.tree ⊎ IsPinned t id k → (c : Call) → May plan c k.tree
    → MayInMemory s k.participant.slot k.participant.retired k.tree c
    → TouchesRefined s lie t.words tree c
    × ((homes : List (Maybe (Unit {0})))
    → RefinesByAges plan s (state_after tree id k.tree c) (memory_after tree t homes id k c) lie dead was_dead)

-- the parts of a pass that is split, of which the right one gets the other announcement
abbrev pub left_known : List ℕ → Known → Known
left_known keys k = record k { tree = left_view keys k.tree; participant = after_give k.participant }

abbrev pub right_known : List ℕ → Known → Known
right_known keys k =
    record { tree = right_view keys k.tree; participant = given_participant k.participant; sight = given_sight k.sight }

-- A split of a pass with nothing in hand keeps the refinement, and so does a join of two.
abbrev pub SplitsKeepRefinement : Type 0
SplitsKeepRefinement = (plan : TablePlan) (s : Slots) (tree : TableState) (t : WholeState) (lie : ℕ → ℕ)
    (dead : ℕ → Bool) (was_dead : ℕ → ℕ → Bool) → s.last < generation_size
    → RefinesByAges plan s tree t lie dead was_dead
    → (id : ℕ) (k : Known) → get_elem? t.views id ≡ some k → get_elem? tree.views id ≡ some k.tree
    → (keys : List ℕ) → IsFree k.tree → MayPart k.tree
    → RefinesByAges plan s (state_split tree id k.tree keys)
    (record {
      words = t.words;
      homes = t.homes;
      views = slice_set t.views id (left_known keys k) ++ right_known keys k ∷ [];
    })
    lie dead was_dead

abbrev pub JoinsKeepRefinement : Type 0
JoinsKeepRefinement = (plan : TablePlan) (s : Slots) (tree : TableState) (t : WholeState) (lie : ℕ → ℕ)
    (dead : ℕ → Bool) (was_dead : ℕ → ℕ → Bool) → s.last < generation_size
    → RefinesByAges plan s tree t lie dead was_dead
    → (id other : ℕ) (k l : Known) → get_elem? t.views id ≡ some k → get_elem? t.views other ≡ some l
    → get_elem? tree.views id ≡ some k.tree → get_elem? tree.views other ≡ some l.tree
    → id ≢ other → IsFree k.tree → IsFree l.tree
    → RefinesByAges plan s (state_joined tree id other k.tree l.tree)
    (record {
      words = t.words;
      homes = t.homes;
      views = slice_set (slice_set t.views id (joined_known k l)) other spent_known;
    })
    lie dead was_dead

-- the memory of a table whose cards come back, as it opens with these words, refines a tree that turns may start from
pub record OpensRefining (plan : TablePlan) (s : Slots) (words : List ℕ) : Type 0 where
  pub tree : TableState
  pub reached : IsReached plan tree
  pub views : trees_of (first_known plan ∷ []) ≡ tree.views
  pub lie : ℕ → ℕ
  pub dead : ℕ → Bool
  pub was_dead : ℕ → ℕ → Bool
  pub refines : RefinesByAges plan s tree (opening words [] (first_known plan)) lie dead was_dead

abbrev pub OpeningsRefine : Type 0
OpeningsRefine = (plan : TablePlan) (s : Slots) (cards words : List ℕ) → plan.slots ≡ Some s → MayStart plan
    → length cards ≡ table_size s.last → words_of cards ≡ words_at_start plan.flat plan.start
    → ((i : ℕ) → IsWord (slice_index cards i)) → AreOpeningWords s (length plan.start) cards words
    → OpensRefining plan s words

-- A step of a pass on the words of epochs leaves the words of cards as they are. The pass has for its card in hand the
-- slot that it had, and nothing that was dead lives. If it is pinned by that, what was dead then is what was dead
-- before the step at least.
pub record GoesBeside (s : Slots) (t : WholeState) (id : ℕ) (k : Known) (p : Participant) (words : List ℕ)
    (dead dead' : ℕ → Bool) (was_dead was_dead' : ℕ → ℕ → Bool) : Type 0 where
  pub taken : p.slot ≡ k.participant.slot
  pub cards : (i : ℕ) → i < table_size s.last → slice_index words i ≡ slice_index t.words i
  pub less : (c : ℕ) → dead' c ≡ false → dead c ≡ false
  pub mine : (q a : ℕ) → p.announcement ≡ Some q → p.announced ≡ Some a
      → ((k.participant.announcement ≡ Some q) × (k.participant.announced ≡ Some a)
      × ((c : ℕ) → was_dead' q c ≡ false → was_dead q c ≡ false))
      ⊎ ((c : ℕ) → was_dead' q c ≡ false → dead c ≡ false)
  pub others : (seat q a : ℕ) (u : Known) → seat ≢ id → get_elem? t.views seat ≡ some u
      → u.participant.announcement ≡ Some q
      → u.participant.announced ≡ Some a → (c : ℕ) → was_dead' q c ≡ false → was_dead q c ≡ false

-- such a step keeps the refinement
abbrev pub EpochsKeepRefinement : Type 0
EpochsKeepRefinement =
    (s : Slots) (tree : TableState) (t : WholeState) (stage : Stages) (lie : ℕ → ℕ) (dead dead' : ℕ → Bool)
    (was_dead was_dead' : ℕ → ℕ → Bool) → Refines s tree t stage lie dead was_dead
    → (id : ℕ) (k : Known) → get_elem? t.views id ≡ some k
    → (p : Participant) (words : List ℕ) → GoesBeside s t id k p words dead dead' was_dead was_dead'
    → Refines s tree
    (record { words = words; homes = t.homes; views = slice_set t.views id (record k { participant = p }) })
    stage lie dead' was_dead'

-- the memory where a pass has taken the slot of its card in hand
abbrev pub memory_taken : Slots → WholeState → ℕ → Known → ℕ → WholeState
memory_taken s t id k c = record {
  words = slice_set t.words (slot_word s (slot_of c)) (taken_word (generation_of c));
  homes = t.homes;
  views = slice_set t.views id (record k { participant = after_taking c k.participant });
}

-- A pass takes the slot of its card in hand, which is not flagged, where a card lies that is dead, and was dead for
-- each pass that is pinned: that keeps the refinement too.
abbrev pub TakesKeepRefinement : Type 0
TakesKeepRefinement = (plan : TablePlan) (s : Slots) (tree : TableState) (t : WholeState) (lie : ℕ → ℕ)
    (dead : ℕ → Bool) (was_dead : ℕ → ℕ → Bool) → s.last < generation_size → length t.words ≡ slots_size s
    → RefinesByAges plan s tree t lie dead was_dead → trees_of t.views ≡ tree.views
    → (id : ℕ) (k : Known) → get_elem? t.views id ≡ some k → (c : ℕ) → HoldsWaiting k.tree c → has_slot_in s.last c ≡ true
    → dead (lie (slot_of c)) ≡ true
    → ((seat q a : ℕ) (u : Known) → get_elem? t.views seat ≡ some u → u.participant.announcement ≡ Some q
    → u.participant.announced ≡ Some a
    → was_dead q (lie (slot_of c)) ≡ true)
    → RefinesByAges plan s tree (memory_taken s t id k c) (put lie (slot_of c) c) dead was_dead

-- the node to which a child word of the tree leads now
abbrev pub child_now : TableState → ℕ → Bool → ℕ
child_now s x right = (link_in (slice_index s.words (child_address x right))).node

-- Wherever the steps of its passes have led a table, each pass tells the nodes that it has met apart by what child words
-- hold of their numbers.
abbrev pub PassesTellApart : Type 0
PassesTellApart = (plan : TablePlan) (t : WholeState) → IsWhole plan t → (id : ℕ) (k : Known) → get_elem? t.views id ≡ some k
    → IsApart plan k.tree

-- So it would with the node to which a child word leads in the tree now, if the word is of an internal node that the pass
-- has met.
abbrev pub ChildrenAreApart : Type 0
ChildrenAreApart = (plan : TablePlan) (t : WholeState) (h : IsWhole plan t) (id : ℕ) (k : Known) → get_elem? t.views id ≡ some k
    → (x : ℕ) → IsInternal x → IsTold k.tree (Met x) → (right : Bool) → IsToldApart plan k.tree (child_now h.tree x right)

-- Cards that all lie in their slots, none of them twice in a list, are at most as many as there are slots.
abbrev pub CardsInSlotsAreFew : Type 0
CardsInSlotsAreFew = (s : Slots) (lie : ℕ → ℕ) (cards : List ℕ) → IsDistinct (λ c d. c == d) cards
    → AllByRecursion (LiesThere s lie) cards → length cards ≤ s.last + 1

-- the link that a child exchange expects is near the word that it found
abbrev pub ExpectsNear : Call → ℕ → Type 0
ExpectsNear (call.IChild c p l replaces right) n = IsNear l n
ExpectsNear (call.DChild c gp p y right) n = IsNear p n
ExpectsNear _ n = Unit {0}

-- So it is of each child exchange that a pinned pass may make: the cards that have changed that word since the pass
-- forgot what it was told lie in their slots, and so they are few.
abbrev pub ExchangesAreNear : Type 0
ExchangesAreNear = (plan : TablePlan) (s : Slots) (tree : TableState) (t : WholeState) (lie : ℕ → ℕ)
    (dead : ℕ → Bool) (was_dead : ℕ → ℕ → Bool) → RefinesByAges plan s tree t lie dead was_dead → IsReached plan tree
    → s.last ≤ greatest_card
    → (id : ℕ) (k : Known) → get_elem? t.views id ≡ some k → get_elem? tree.views id ≡ some k.tree → IsPinned t id k
    → (c : Call) → May plan c k.tree → ExpectsNear c (found_by tree c)
