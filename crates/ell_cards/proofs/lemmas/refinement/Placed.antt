-- All that a pass names lies in slots, where each card that has won its flag does.
use Rattle.std.proofs.Common.{◌≡◌, ℕ, ◌≤◌, ap, ◌∙◌, subst, ◌%◌}
use mathlib.Core.Option.{some}
use lib.ListN.{get_elem?}
use Rattle.ell_word.specs.Node.{card}
use Rattle.ell_core.specs.history.Stages.{Born}
use Rattle.ell_core.specs.state.Machine.{Worker}
use Rattle.ell_layout.specs.declared.field.Field.TheVariants as field
use Rattle.ell_runs.specs.declared.view.Told.{Told}
use Rattle.ell_runs.specs.declared.view.Told.TheVariants.{Met, Info}
use Rattle.ell_runs.specs.declared.view.View.{View}
use Rattle.ell_runs.specs.Machines.{EntryHolds, HasMachine}
use Rattle.ell_runs.specs.Plans.{TablePlan}
use Rattle.ell_cards.specs.InSlots.{EntryIsPlaced, IsPlaced}
use Rattle.ell_cards.specs.SlotWords.{slot_of}
use Rattle.ell_runs.specs.States.{TableState}
use Rattle.ell_cards.specs.Refinement.{HasWon}
use Rattle.ell_runs.proofs.lemmas.seats.Seats.{mine_is, relies, stands_born}
use Rattle.ell_cards.proofs.lemmas.refinement.Touched.{known}
use Rattle.ell_cards.proofs.lemmas.refinement.Winning.{born_won}

module _ (plan : TablePlan) (s : TableState) (r : HasMachine plan s) (id : ℕ) (v : View) (here : get_elem? s.views id ≡ some v) (last : ℕ)
    (fits : (c : ℕ) → HasWon r.stages c → slot_of c ≤ last) where
  born_placed : (x : ℕ) → Born r.stages x → slot_of (card x) ≤ last
  born_placed x born = fits (card x) (born_won (r.stages (card x)) (x % 4) born)

  entry_placed : (e : Told) → EntryHolds r.words r.stages e → EntryIsPlaced last e
  entry_placed (Met x) h = born_placed x h
  entry_placed (Info c field.Gp x) h = subst (λ y. slot_of (card y) ≤ last) h.2 (born_placed (r.words.gp c) ((relies plan s r id v here).goes c h.0).grandparent.born)
  entry_placed (Info c field.P x) h = subst (λ y. slot_of (card y) ≤ last) h.2 (born_placed (r.words.p c) ((relies plan s r id v here).goes c h.0).parent.born)
  entry_placed _ h = tt

  pub placed_to : IsPlaced last v
  placed_to =
      let same = mine_is plan s r id v here in
      let rely = relies plan s r id v here in record {
        node = λ x at. born_placed x (stands_born plan s r id v here x at);
        parent = λ x seen at behind. born_placed seen.node
            (rely.parent x seen (ap (λ (u : Worker). u.search.node) same ∙ at) (ap (λ (u : Worker). u.search.parent) same ∙ behind)).node.born;
        grandparent = λ x seen above at behind up. born_placed above.node
            (rely.grandparent x seen above (ap (λ (u : Worker). u.search.node) same ∙ at) (ap (λ (u : Worker). u.search.parent) same ∙ behind)
            (ap (λ (u : Worker). u.search.grandparent) same ∙ up)).node.born;
        facts = λ c knows. fits c (known plan s r id v here c knows);
        entries = λ e told. entry_placed e ((r.views id v here).entries e told);
      }
