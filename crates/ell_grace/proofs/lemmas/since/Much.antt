use Rattle.std.proofs.Common.{◌≡◌, ℕ, ◌≤◌, ◌+◌, ◌==◌, if◌then◌else◌, ◌⊎◌, inl, inr, Bool, true, false, Option, Some, None, List, [], ◌∷◌, ◌++◌, ap, arith}
use Rattle.ell_core.specs.declared.exchange.Exchange.{Exchange}
use Rattle.ell_core.specs.declared.exchange.Exchange.TheVariants as exchange
use Rattle.ell_core.specs.declared.event.Act.{Act}
use Rattle.ell_core.specs.declared.event.Act.TheVariants as act
use Rattle.ell_core.specs.declared.event.Stepped.{Stepped}
use Rattle.ell_core.specs.declared.event.Stepped.TheVariants.{Won}
use Rattle.ell_core.specs.acts.Wins.{win_for, win_by, wins_by}
use Rattle.ell_core.specs.history.Stages.{Stage, Stages, insert_won, is_changed, insert_over, delete_won, is_marked, is_cut}
use Rattle.ell_core.specs.history.Later.{StagesLater, wins_of}
use Rattle.ell_core.specs.statements.Since.{has_ended}
use Rattle.ell_core.proofs.lemmas.stages.Order.{insert_won-insert, delete_won-delete, cut-marked, marked-delete, insert_over-insert, one_kind}
use Rattle.ell_core.proofs.lemmas.stages.Flags.{was_flagged, flagged_cases}
use Rattle.ell_core.proofs.lemmas.stages.Sums.{sum_by, sum_append}

-- how much a card has won
abbrev pub one : Exchange → ℕ
one k = 1

abbrev pub much : Stage → ℕ
much s = sum_by one (wins_of s)

win_few : (o : Option ℕ) (k : Exchange) (c : ℕ) → sum_by one (win_for o k c) ≤ 1
win_few None k c = omega arith
win_few (Some d) k c = by (c == d)
  where
    by : (b : Bool) → sum_by one (if b then k ∷ [] else []) ≤ 1
    by true = omega arith
    by false = omega arith

act_few : (a : Act) (hand : Option ℕ) (c : ℕ) → sum_by one (win_by a hand c) ≤ 1
act_few act.IFlag hand c = win_few hand exchange.IFlag c
act_few act.DFlag hand c = win_few hand exchange.DFlag c
act_few (act.IChild d) hand c = win_few (Some d) exchange.IChild c
act_few (act.IUnflag d) hand c = win_few (Some d) exchange.IUnflag c
act_few (act.Mark d) hand c = win_few (Some d) exchange.Mark c
act_few (act.DChild d) hand c = win_few (Some d) exchange.DChild c
act_few (act.DUnflag d) hand c = win_few (Some d) exchange.DUnflag c
act_few (act.Backtrack d) hand c = win_few (Some d) exchange.Backtrack c
act_few _ hand c = omega arith

-- an act wins one thing at most
pub few_won : (a : Act) (hand : Option ℕ) (said : Stepped) (c : ℕ) → sum_by one (wins_by a hand said c) ≤ 1
few_won a hand Won c = act_few a hand c
few_won a hand _ c = omega arith

-- a card that has ended has won this much, and one that has won this much has come so far
pub ended_much : (s : Stage) → has_ended s ≡ true → 2 ≤ much s
ended_much s h = grind arith

-- one that has exchanged its child has won two things
pub changed_much : (s : Stage) → is_changed s ≡ true → 2 ≤ much s
changed_much s h = grind arith

marked_much : (s : Stage) → has_ended s ≡ true → is_marked s ≡ true → 4 ≤ much s
marked_much s h g = grind arith

much_flagged : (s : Stage) → 1 ≤ much s → was_flagged s ≡ true
much_flagged s h = grind arith

much_over : (s : Stage) → 3 ≤ much s → (insert_over s ≡ true) ⊎ (is_cut s ≡ true)
much_over s h = grind arith

module _ (before after : Stages) (c : ℕ) (won : List Exchange) (grows : wins_of (after c) ≡ wins_of (before c) ++ won)
    (few : sum_by one won ≤ 1) (later : StagesLater before after) where
  pub had_much : much (after c) ≤ much (before c) + 1
  had_much = let parts = sum_append one (wins_of (before c)) won in let same = ap (sum_by one) grows in omega arith

  -- what has won two things had won its flag
  was_won : 2 ≤ much (after c) → (insert_won (before c) ≡ true) ⊎ (delete_won (before c) ≡ true)
  was_won two = flagged_cases (before c) (much_flagged (before c) (let b = had_much in omega arith))

  -- so what is so of it now was so
  pub insert_was : 2 ≤ much (after c) → insert_won (after c) ≡ true → insert_won (before c) ≡ true
  insert_was two now = elim (was_won two) [
    | inl i ↦ i
    | inr d ↦ absurd (one_kind (after c) (insert_won-insert (after c) now) (later.delete c (delete_won-delete (before c) d)))
  ]

  pub delete_was : 2 ≤ much (after c) → delete_won (after c) ≡ true → delete_won (before c) ≡ true
  delete_was two now = elim (was_won two) [
    | inl i ↦ absurd (one_kind (after c) (later.insert c (insert_won-insert (before c) i)) (delete_won-delete (after c) now))
    | inr d ↦ d
  ]

  -- and a marked card that has ended was marked
  pub marked_was : has_ended (after c) ≡ true → is_marked (after c) ≡ true → is_marked (before c) ≡ true
  marked_was ended now = elim (much_over (before c) (let a = marked_much (after c) ended now in let b = had_much in omega arith)) [
    | inl i ↦ absurd (one_kind (after c) (later.insert c (insert_over-insert (before c) i)) (marked-delete (after c) now))
    | inr cut ↦ cut-marked (before c) cut
  ]
