use Rattle.std.proofs.Common.{◌≡◌, ◌%◌, ◌<◌, ℕ, Bool, List, sym, ◌∙◌, arith}
use Rattle.ell_core.specs.history.Later.{StagesLater}
use Rattle.ell_word.specs.Node.{IsInternal, card}
use Rattle.ell_word.specs.Word.{unpacked}
use Rattle.ell_word.specs.declared.update.State.TheVariants as state
use Rattle.ell_core.specs.declared.exchange.Exchange.{Exchange}
use Rattle.ell_core.specs.tree.Tree.{Reached}
use Rattle.ell_core.specs.history.Stages.{Born}
use Rattle.ell_core.proofs.lemmas.following.Sound.{word_by_state}
use Rattle.ell_core.proofs.lemmas.stages.Order.{born-claimed}
use Rattle.ell_runs.specs.Plans.{TablePlan}
use Rattle.ell_runs.specs.States.{TableState}
use Rattle.ell_runs.specs.Machines.{HasMachine}
use Rattle.ell_runs.specs.Laws.{machine_of_table}
use Rattle.ell_runs.specs.TurnEffects.{own_words, run_wins}
use Rattle.ell_runs.specs.OwnWords.{NodeGoesOn}
use Rattle.ell_runs.proofs.lemmas.seats.Statements.{NodesByMachine}
use Rattle.ell_runs.proofs.lemmas.own_words.OwnTree.{key_same, child_same, tag_same, update_same, reached_born}
use Rattle.ell_runs.proofs.lemmas.own_words.OwnWords.{same_card}
use Rattle.ell_runs.proofs.lemmas.runs.GoingOn.{Went, run_goes}

-- two states with machines, the second one's gone on from the first one's, and a node that was reached in the first
module _ (plan : TablePlan) (s : TableState) (r : HasMachine plan s) (s' : TableState) (k : HasMachine plan s') (won : ℕ → List Exchange)
    (went : Went r.words r.stages won (machine_of_table plan s' k)) (stages : StagesLater r.stages k.stages) (x : ℕ) (reached : Reached (own_words s) x) where
  -- it came into the tree
  born : Born r.stages x
  born = reached_born r.words (own_words s) r.stages r.invariant.words (same_card plan s r) x reached

  later : Born k.stages x
  later = stages.born x born

  -- so the table's own words there are the machine's
  key_then : (own_words s).key x ≡ r.words.key x
  key_then = key_same r.words (own_words s) r.stages r.invariant.words (same_card plan s r) x born

  key_now : (own_words s').key x ≡ k.words.key x
  key_now = key_same k.words (own_words s') k.stages k.invariant.words (same_card plan s' k) x later

  child_then : IsInternal x → (right : Bool) → (own_words s).child x right ≡ r.words.child x right
  child_then inner right = child_same r.words (own_words s) r.stages r.invariant.words (same_card plan s r) x right inner born

  child_now : IsInternal x → (right : Bool) → (own_words s').child x right ≡ k.words.child x right
  child_now inner right = child_same k.words (own_words s') k.stages k.invariant.words (same_card plan s' k) x right inner later

  tag_then : IsInternal x → (right : Bool) → (own_words s).tag x right ≡ r.words.tag x right
  tag_then inner right = tag_same r.words (own_words s) r.stages r.invariant.words (same_card plan s r) x right inner born

  tag_now : IsInternal x → (right : Bool) → (own_words s').tag x right ≡ k.words.tag x right
  tag_now inner right = tag_same k.words (own_words s') k.stages k.invariant.words (same_card plan s' k) x right inner later

  update_then : IsInternal x → (own_words s).update x ≡ r.words.update x
  update_then inner = update_same r.words (own_words s) r.stages r.invariant.words (same_card plan s r) x inner born

  update_now : IsInternal x → (own_words s').update x ≡ k.words.update x
  update_now inner = update_same k.words (own_words s') k.stages k.invariant.words (same_card plan s' k) x inner later

  -- its card was claimed
  below : card x < r.words.next
  below = (r.invariant.words.cards (card x)).claimed.0 (born-claimed (r.stages (card x)) (x % 4) born)

  -- and go on as those do
  node_goes_on : NodeGoesOn (own_words s) (own_words s') x
  node_goes_on = record {
    key = key_now ∙ (went.words.key x below ∙ sym key_then);
    tags = λ inner right.
        let before = tag_then inner right in
        let after = tag_now inner right in
        let rises = went.words.tag x right in
        omega arith;
    children = λ inner right same.
        child_now inner right
        ∙ (went.words.child x right below (sym (tag_now inner right) ∙ (same ∙ tag_then inner right)) ∙ sym (child_then inner right));
    update = λ inner.
        let before = update_then inner in
        let after = update_now inner in
        let rises = went.words.update x in
        omega arith;
    frozen = λ inner mark.
        let still = went.words.frozen x (unpacked ((own_words s).update x)).card
        (sym (update_then inner) ∙ word_by_state ((own_words s).update x) state.Mark mark) in
        record {
          update = update_now inner ∙ (still.update ∙ sym (update_then inner));
          child = λ right. child_now inner right ∙ (still.child right ∙ sym (child_then inner right));
          tag = λ right. tag_now inner right ∙ (still.tag right ∙ sym (tag_then inner right));
        };
  }

-- by what a run makes of the machine
pub table_nodes_go_on : NodesByMachine
table_nodes_go_on plan s r turns s' run x reached =
    let goes = run_goes plan s r r.stages r.invariant turns s' run in
    node_goes_on plan s r s' goes.0 (run_wins plan s turns s' run) goes.1 goes.2 x reached
