-- A step call keeps memory a refinement of its tree.
use Rattle.std.proofs.Common.{◌⊎◌, ℕ, Bool, List, set, inl, inr, refl, ◌≡◌, ◌<◌, ◌≤◌, length}
use Rattle.ell_word.specs.Node.{generation_size}
use mathlib.Core.Option.{Option as Maybe, some}
use Rattle.ell_cards.specs.declared.view.Known.{Known}
use Rattle.ell_runs.specs.declared.view.Slots.{Slots}
use Rattle.ell_cards.specs.Ages.{AgesAreSound}
use Rattle.ell_runs.specs.Calls.{atomic_of, left_by, May}
use Rattle.ell_cards.specs.Addresses.{place_of}
use Rattle.ell_runs.specs.Plans.{TablePlan}
use Rattle.ell_cards.specs.EpochLaws.{IsPinned}
use Rattle.ell_cards.specs.Epochs.{WholeState}
use Rattle.ell_runs.specs.Touching.{IsAtRest}
use Rattle.ell_cards.specs.Shown.{cut_by}
use Rattle.ell_runs.specs.States.{TableState}
use Rattle.ell_cards.specs.Refinement.{Refines, MayInMemory}
use Rattle.ell_cards.specs.RefinementLaws.{TouchesRefined, memory_after, CallsKeepRefinement, RefinesByAges}
use Rattle.ell_runs.specs.Turns.{Makes, found_by, state_after}
use Rattle.ell_runs.proofs.lemmas.runs.TurnsOfRuns.{steps_stay_inside}
use Rattle.ell_cards.proofs.lemmas.whole.Ages.{AgesOn, ages_after_call}
use Rattle.ell_cards.proofs.lemmas.whole.Trees.{slots_stay}
use Rattle.ell_cards.proofs.lemmas.refinement.Winning.{won_by_call, says_before, flag_kind}
use Rattle.ell_cards.proofs.lemmas.refinement.Touched.{IsReady, claim_is_word, touched_refines}
use Rattle.ell_cards.proofs.lemmas.refinement.Calls.{refinement_after_call}
use Rattle.ell_runs.specs.Starts.{IsReached}
use Rattle.ell_layout.specs.Layout.{table_size}
use Rattle.ell_runs.specs.declared.call.Call.{Call}
use lib.ListN.{get_elem?}

-- a pass that is pinned, or at rest, is ready
ready_by : (plan : TablePlan) (s : Slots) (tree : TableState) (t : WholeState) (lie : ℕ → ℕ) (dead : ℕ → Bool) (was_dead : ℕ → ℕ → Bool) → AgesAreSound plan s tree t lie dead was_dead
    → (id : ℕ) (k : Known) → IsAtRest k.tree ⊎ IsPinned t id k → IsReady plan tree id k was_dead
ready_by plan s tree t lie dead was_dead h id k (inl rest) = inl rest
ready_by plan s tree t lie dead was_dead h id k (inr p) = elim (h.since id p.announcement p.epoch k p.there p.has p.announces) [
  | inl rest ↦ inl rest
  | inr forgot ↦ inr (p.announcement, p.epoch, p.has, p.announces, forgot)
]

-- what a call does to memory: it touches a word that has what the tree has, and memory refines the tree after it, by
-- the ages after the call
module _ (plan : TablePlan) (s : Slots) (tree : TableState) (t : WholeState) (lie : ℕ → ℕ) (dead : ℕ → Bool) (was_dead : ℕ → ℕ → Bool) (reached : IsReached plan tree) (low : s.last < generation_size)
    (room : table_size s.last ≤ length t.words) (h : RefinesByAges plan s tree t lie dead was_dead) (id : ℕ) (k : Known) (here : get_elem? t.views id ≡ some k)
    (there : get_elem? tree.views id ≡ some k.tree) (ready : IsAtRest k.tree ⊎ IsPinned t id k) (c : Call) (may : May plan c k.tree) (mem : MayInMemory s k.participant.slot k.participant.retired k.tree c) where
  abbrev after : TableState
  after = state_after tree id k.tree c

  pub touch : TouchesRefined s lie t.words tree c
  touch = touched_refines plan s tree t h.ages.now.machine lie dead was_dead h.refines id k here there (ready_by plan s tree t lie dead was_dead h.ages id k ready) c may mem

  abbrev n : ℕ
  n = cut_by c (left_by (atomic_of c) (found_by tree c))

  pub goes : (homes : List (Maybe (Unit {0}))) → AgesOn plan s tree t lie dead was_dead h.ages (Makes id c) after (memory_after tree t homes id k c)
  goes homes = ages_after_call plan s tree reached t id k here there lie dead was_dead c may (set t.words (place_of c) n) homes
      (slots_stay t id k here k.tree s (place_of c) n touch.inside) h.ages

  pub refines : (homes : List (Maybe (Unit {0}))) → Refines s after (memory_after tree t homes id k c) (goes homes).ages.now.machine.stages lie dead was_dead
  refines homes = let now = (goes homes).ages.now.machine in
      refinement_after_call plan s low tree t h.ages.now.machine.stages now.stages lie dead was_dead h.refines id k here c may mem touch room
      (steps_stay_inside plan tree h.ages.now.machine id k.tree c there may) (claim_is_word plan after now)
      (won_by_call plan tree h.ages.now.machine id k.tree there now.stages (goes homes).later c may (goes homes).wins)
      (says_before h.ages.now.machine.stages now.stages (goes homes).later)
      (flag_kind plan tree h.ages.now.machine id k.tree there now.stages (goes homes).later c may) n refl homes

pub calls_keep_refinement : CallsKeepRefinement
calls_keep_refinement plan s tree t lie dead was_dead reached low room h id k here there ready c may mem = (
  touch plan s tree t lie dead was_dead reached low room h id k here there ready c may mem,
  λ homes. record {
    ages = (goes plan s tree t lie dead was_dead reached low room h id k here there ready c may mem homes).ages;
    refines = refines plan s tree t lie dead was_dead reached low room h id k here there ready c may mem homes;
  },
)
