-- A card of which a pass knows a node dead has won its flag.
use Rattle.std.proofs.Common.{◌≡◌, ℕ, ◌%◌, true, inl, inr, sym, subst, arith}
use mathlib.Core.Option.{some}
use lib.ListN.{get_elem?}
use Rattle.ell_word.specs.Node.{card}
use Rattle.ell_layout.specs.declared.field.Field.TheVariants as field
use Rattle.ell_core.specs.declared.fact.Fact.TheVariants as fact
use Rattle.ell_core.specs.history.Stages.{Stage, Born, delete_over, is_backed}
use Rattle.ell_core.proofs.lemmas.stages.Order.{insert_over-changed, changed-insert, over-delete}
use Rattle.ell_runs.specs.declared.view.View.{View}
use Rattle.ell_runs.specs.Dead.{KnowsDead}
use Rattle.ell_runs.specs.Machines.{HasMachine}
use Rattle.ell_runs.specs.Plans.{TablePlan}
use Rattle.ell_runs.specs.States.{TableState}
use Rattle.ell_cards.specs.Refinement.{HasWon}
use Rattle.ell_runs.specs.Touching.{KnowsTakenOut}
use Rattle.ell_runs.proofs.lemmas.seats.Seats.{mine_sound}
use Rattle.ell_runs.proofs.lemmas.stepping.Exchanges.{told_is}
use Rattle.ell_cards.proofs.lemmas.refinement.Winning.{IsWonStage, born_won, changed_is_won}

over_won : (s : Stage) → delete_over s ≡ true → IsWonStage s
over_won s h = (grind arith, grind arith)

backed_won : (s : Stage) → is_backed s ≡ true → IsWonStage s
backed_won s h = (grind arith, grind arith)

module _ (plan : TablePlan) (s : TableState) (seat : ℕ) (v : View) (there : get_elem? s.views seat ≡ some v) (r : HasMachine plan s) where
  -- what is the leaf or the parent of a card that is over came into the tree
  taken_won : (c x : ℕ) → KnowsTakenOut v c x → HasWon r.stages (card x)
  taken_won c x (inl put) =
      let over = (mine_sound plan s r seat v there).facts (fact.IOver c) put.0 in
      let is = told_is plan s r seat v there c field.L x put.2 in
      let kind = changed-insert (r.stages c) (insert_over-changed (r.stages c) over) in
      born_won (r.stages (card x)) (x % 4) (subst (Born r.stages) is ((r.invariant.words.cards c).insert kind).lower)
  taken_won c x (inr (over, inl parent)) =
      let at = (mine_sound plan s r seat v there).facts (fact.DOver c) over in
      let is = told_is plan s r seat v there c field.P x parent in
      born_won (r.stages (card x)) (x % 4) (subst (Born r.stages) is ((r.invariant.words.cards c).delete (over-delete (r.stages c) at)).parent.born)
  taken_won c x (inr (over, inr leaf)) =
      let at = (mine_sound plan s r seat v there).facts (fact.DOver c) over in
      let is = told_is plan s r seat v there c field.L x leaf in
      born_won (r.stages (card x)) (x % 4) (subst (Born r.stages) is ((r.invariant.words.cards c).delete (over-delete (r.stages c) at)).leaf.born)

  pub known_dead_won : (c x : ℕ) → KnowsDead v c x → HasWon r.stages (card x)
  known_dead_won c x (inl taken) = taken_won c x taken
  known_dead_won c x (inr (on, inl (inl over))) =
      subst (HasWon r.stages) (sym on) (over_won (r.stages c) ((mine_sound plan s r seat v there).facts (fact.DOver c) over))
  known_dead_won c x (inr (on, inl (inr backed))) =
      subst (HasWon r.stages) (sym on) (backed_won (r.stages c) ((mine_sound plan s r seat v there).facts (fact.Backed c) backed))
  known_dead_won c x (inr (on, inr (over, why))) =
      subst (HasWon r.stages) (sym on) (changed_is_won (r.stages c) (insert_over-changed (r.stages c) ((mine_sound plan s r seat v there).facts (fact.IOver c) over)))
