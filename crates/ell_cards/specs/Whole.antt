use Rattle.std.specs.Prelude.{◌≡◌, ℕ, Option, Some, None, List, length, map, slice_index, []}
use mathlib.Core.Option.{some}
use lib.ListN.{get_elem?}
use Rattle.ell_layout.specs.declared.field.Field.{Field}
use Rattle.ell_layout.specs.Layout.{address}
use Rattle.ell_layout.specs.Cards.{stored}
use Rattle.ell_cards.specs.declared.view.Known.{Known}
use Rattle.ell_runs.specs.declared.view.Slots.{Slots}
use Rattle.ell_runs.specs.declared.view.View.{View}
use Rattle.ell_runs.specs.Plans.{TablePlan}
use Rattle.ell_runs.specs.Changes.{first_of, joined_view, spent_view}
use Rattle.ell_cards.specs.Epochs.{WholeState, slots_size, no_participant, first_participant, joined_participant}
use Rattle.ell_cards.specs.Ages.{HasEpochs}
use Rattle.ell_cards.specs.Leaks.{NothingLeaks}
use Rattle.ell_cards.specs.Shown.{shown_word, FieldIsWhole, StoresAreWhole}
use Rattle.ell_runs.specs.Histories.{history_of}
use Rattle.ell_cards.specs.AllSeen.{AllHaveSeen, AreAllApart, AreMade, AreSilent}
use Rattle.ell_runs.specs.Sights.{no_sight, joined_sight}
use Rattle.ell_runs.specs.Starts.{IsReached}
use Rattle.ell_runs.specs.States.{TableState}

-- what the passes of a table know of its tree
abbrev pub trees_of : List Known → List View
trees_of views = map (λ k. k.tree) views

-- the first pass of a table
abbrev pub first_known : TablePlan → Known
first_known plan = record { tree = first_of plan; participant = first_participant plan; sight = no_sight }

-- two passes as one, and what is left of the other
abbrev pub joined_known : Known → Known → Known
joined_known k l =
    record {
      tree = joined_view k.tree l.tree;
      participant = joined_participant k.participant l.participant;
      sight = joined_sight k.sight l.sight;
    }

abbrev pub spent_known : Known
spent_known = record { tree = spent_view; participant = no_participant; sight = no_sight }

-- what a tree has in a field of a card that is no node and no child word a word of 64 bits holds
abbrev pub FieldsAreWhole : List ℕ → Type 0
FieldsAreWhole words = (c : ℕ) (f : Field) → FieldIsWhole f (slice_index words (address c f))

-- The words of a table whose cards do not come back are those of a state that turns have led to. A table whose cards
-- come back has words for its slots, and what they have to do with its tree is said with its epochs.
abbrev pub WordsAre : Option Slots → List ℕ → List ℕ → Type 0
WordsAre None words tree = words ≡ tree
WordsAre (Some s) words tree = (length words ≡ slots_size s) × FieldsAreWhole tree

-- its epochs are sound, and its memory refines its tree, if cards come back; and no slot stays in use for nothing
abbrev pub EpochsAre : (plan : TablePlan) → Option Slots → TableState → WholeState → Type 0
EpochsAre plan None tree t = Unit {0}
EpochsAre plan (Some s) tree t = (h : HasEpochs plan s tree t)
    × NothingLeaks s t tree.views h.ages.now.machine.words h.ages.now.machine.stages h.lie

-- where cards do not come back nothing that is planned is cut
abbrev pub PlansFit : Option Slots → View → Type 0
PlansFit None v = (f : Field) → shown_word f (stored v.planned f 0) ≡ stored v.planned f 0
PlansFit (Some s) v = Unit {0}

-- what each pass has stored of its card in hand is what is planned, if it is that once it is cut
abbrev pub AllStoresAreWhole : Option Slots → TableState → Type 0
AllStoresAreWhole slots tree =
    (seat : ℕ) (v : View) → get_elem? tree.views seat ≡ some v → StoresAreWhole v × PlansFit slots v

-- The rule of a table: turns of its passes have led its tree where it is; each pass has seen a beginning of their
-- history, whose calls are those that passes answered; what each of them stored is whole; and its epochs are sound, by
-- which its memory refines that tree.
pub record IsWhole (plan : TablePlan) (t : WholeState) : Type 0 where
  pub tree : TableState
  pub reached : IsReached plan tree
  pub seen : AllHaveSeen (history_of reached.turns) t.views
  pub made : AreMade (history_of reached.turns) t.views
  pub silent : AreSilent plan t.views
  pub apart : AreAllApart t.views
  pub views : trees_of t.views ≡ tree.views
  pub homes : t.homes ≡ []
  pub words : WordsAre plan.slots t.words tree.words
  pub stores : AllStoresAreWhole plan.slots tree
  pub epochs : EpochsAre plan plan.slots tree t
