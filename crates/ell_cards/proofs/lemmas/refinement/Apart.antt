-- A pass that is ready tells nodes that it has met apart by what child words hold of their numbers.
use Rattle.std.proofs.Common.{◌≡◌, ◌≢◌, ℕ, ◌+◌, ◌%◌, ◌<◌, ◌≤◌, ◌&&◌, nat_lt, nat_le, if◌then◌else◌, Bool, true, false, Some, None, length, inl, inr, sym, ap, ◌∙◌, subst, arith, ◌||◌, not, ◌==◌}
use Rattle.std.proofs.lemmas.Bool.{cases_eq}
use Rattle.std.proofs.lemmas.Bool.Decides.{nat_tests}
use mathlib.Core.Option.{some}
use lib.ListN.{get_elem?}
use Rattle.ell_word.specs.Node.{card, greatest_card, generation_size}
use Rattle.ell_layout.specs.Words.{has_block}
use Rattle.ell_runs.specs.declared.call.Call.TheVariants as call
use Rattle.ell_cards.specs.declared.view.Known.{Known}
use Rattle.ell_runs.specs.declared.view.Slots.{Slots}
use Rattle.ell_runs.specs.declared.view.Told.TheVariants.{Met}
use Rattle.ell_runs.specs.declared.view.View.{View}
use Rattle.ell_cards.specs.Apart.{cut_node, IsApart}
use Rattle.ell_runs.specs.Machines.{HasMachine}
use Rattle.ell_runs.specs.Plans.{TablePlan, flat_from}
use Rattle.ell_runs.specs.Views.{IsTold}
use Rattle.ell_cards.specs.Epochs.{WholeState}
use Rattle.ell_cards.specs.SlotWords.{has_slot_in, slot_of, generation_of, generations_told_apart}
use Rattle.ell_runs.specs.Starts.{IsReached, MayStart, SlotsFit}
use Rattle.ell_runs.specs.States.{TableState}
use Rattle.ell_cards.specs.Refinement.{HasWon, Refines, LiesThere}
use Rattle.ell_runs.proofs.lemmas.runs.Named.{passes_name_met}
use Rattle.ell_runs.proofs.lemmas.runs.Reaching.{reached_kept}
use Rattle.ell_runs.proofs.lemmas.seats.Named.{kept_named}
use Rattle.ell_cards.proofs.lemmas.refinement.Touched.{IsReady, touched_lies, touched_won}
use Rattle.ell_cards.proofs.lemmas.words.Slotted.{generation_apart}

-- of two nodes that are cut to the same the cards have one slot, and the nodes one place there
same_slot : (x y : ℕ) → cut_node x ≡ cut_node y → slot_of (card x) ≡ slot_of (card y)
same_slot x y same = omega arith

same_place : (x y : ℕ) → cut_node x ≡ cut_node y → x % 4 ≡ y % 4
same_place x y same = omega arith

-- so where both cards lie in their slots, they are one node
pub lying_apart : (s : Slots) (lie : ℕ → ℕ) (x y : ℕ) → LiesThere s lie (card x) → LiesThere s lie (card y) → cut_node x ≡ cut_node y → x ≡ y
lying_apart s lie x y lies lies' same =
    let one : card x ≡ card y = sym lies.1 ∙ (ap lie (same_slot x y same) ∙ lies'.1) in
    let place = same_place x y same in
    omega arith

-- a node of a card up to the last one that has words in a table whose cards do not come back is not cut
pub few_uncut : (x : ℕ) → card x ≤ greatest_card → cut_node x ≡ x
few_uncut x few = omega arith

-- what is cut of a node tells whether it has a block, if its card has a slot
first_uncut : (x : ℕ) → generation_of (card x) ≡ 0 → cut_node x ≡ x
first_uncut x first = omega arith

later_cut : (x : ℕ) → generation_of (card x) % generations_told_apart ≢ 0 → generation_size ≤ card (cut_node x)
later_cut x later = omega arith

same_low : (x : ℕ) → cut_node x % 4 ≡ x % 4
same_low x = omega arith

both_past : (from a b : ℕ) → from ≤ a → from ≤ b → nat_le from a ≡ nat_le from b
both_past from a b low low' = grind (arith, nat_tests)

block_told : (last from x : ℕ) → last < generation_size → from ≤ last + 1 → has_slot_in last (card x) ≡ true → has_block from (cut_node x) ≡ has_block from x
unfolding has_block
block_told last from x low most has = elim (cases_eq (generation_of (card x) % generations_told_apart) 0) [
  | inl first ↦ ap (has_block from) (first_uncut x (generation_apart last (card x) has first))
  | inr later ↦
      let cut = later_cut x later in
      let past = both_past from (card (cut_node x)) (card x) (omega arith) (omega arith) in
      λ t. nat_lt 0 from && (past t || not (same_low x t == 0))
]

-- the first card that is not of a flat opening tree has a slot, or is the one behind the last one
flat_low : (plan : TablePlan) (s : Slots) → length plan.start ≤ s.last → flat_from plan ≤ s.last + 1
flat_low plan s few = by plan.flat
  where
    by : (b : Bool) → (if b then length plan.start + 1 else 0) ≤ s.last + 1
    by true = omega arith
    by false = omega arith

-- so what is cut of a node whose card has a slot tells whether it has a block in such a table
pub lying_block : (plan : TablePlan) (s : Slots) → plan.slots ≡ Some s → MayStart plan → (x : ℕ) → has_slot_in s.last (card x) ≡ true
    → has_block (flat_from plan) (cut_node x) ≡ has_block (flat_from plan) x
lying_block plan s placed may x has =
    let fit = subst (SlotsFit plan) placed may.slots in
    block_told s.last (flat_from plan) x (let most = fit.low in omega arith) (flat_low plan s fit.start) has

-- where memory refines the tree, whichever node a ready pass has met lies in its slot
module _ (plan : TablePlan) (s : Slots) (tree : TableState) (t : WholeState) (r : HasMachine plan tree) (lie : ℕ → ℕ) (dead : ℕ → Bool) (was_dead : ℕ → ℕ → Bool)
    (refines : Refines s tree t r.stages lie dead was_dead) where
  pub met_lies : (id : ℕ) (k : Known) → get_elem? t.views id ≡ some k → get_elem? tree.views id ≡ some k.tree → IsReady plan tree id k was_dead
      → (x : ℕ) → IsTold k.tree (Met x) → LiesThere s lie (card x)
  met_lies id k here there ready x met = touched_lies plan s tree t r lie dead was_dead refines id k here there ready (call.KeyOf x) met tt

  met_won : (id : ℕ) (v : View) → get_elem? tree.views id ≡ some v → (x : ℕ) → IsTold v (Met x) → HasWon r.stages (card x)
  met_won id v there x met = (touched_won plan tree r id v there (call.KeyOf x) met).0

  -- so it tells them apart
  pub tells_apart : plan.slots ≡ Some s → IsReached plan tree → (id : ℕ) (k : Known) → get_elem? t.views id ≡ some k → get_elem? tree.views id ≡ some k.tree
      → IsReady plan tree id k was_dead → IsApart plan k.tree
  tells_apart placed reached id k here there ready =
      let names = passes_name_met plan tree reached id k.tree there in record {
        met = λ x y met met'. lying_apart s lie x y (met_lies id k here there ready x met) (met_lies id k here there ready y met');
        blocks = λ x met. lying_block plan s placed reached.starts.may x (refines.fits (card x) (met_won id k.tree there x met));
        names = names.0;
        leaf = names.1;
      }

-- a table whose cards do not come back has no more cards than there may be words for
pub plain_few : (plan : TablePlan) → plan.slots ≡ None → MayStart plan → plan.last_card ≤ greatest_card
plain_few plan none may = subst (SlotsFit plan) none may.slots

-- In such a table nothing is cut, so every pass tells nodes apart.
pub met_uncut : (plan : TablePlan) → plan.slots ≡ None → (s : TableState) → IsReached plan s → (id : ℕ) (v : View) → get_elem? s.views id ≡ some v
    → (x : ℕ) → IsTold v (Met x) → cut_node x ≡ x
met_uncut plan none s reached id v here x met =
    let low = (kept_named plan s (reached_kept plan s reached) id v here).entries (Met x) met in
    let most = plain_few plan none reached.starts.may in
    few_uncut x (omega arith)

pub tells_apart_plain : (plan : TablePlan) → plan.slots ≡ None → (s : TableState) → IsReached plan s → (id : ℕ) (v : View) → get_elem? s.views id ≡ some v
    → IsApart plan v
tells_apart_plain plan none s reached id v here =
    let uncut = met_uncut plan none s reached id v here in
    let names = passes_name_met plan s reached id v here in record {
      met = λ x y met met' same. sym (uncut x met) ∙ (same ∙ uncut y met');
      blocks = λ x met. ap (has_block (flat_from plan)) (uncut x met);
      names = names.0;
      leaf = names.1;
    }
