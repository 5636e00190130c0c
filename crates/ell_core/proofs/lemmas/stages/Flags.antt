use Rattle.std.proofs.Common.{◌≡◌, ℕ, ◌⊎◌, ◌||◌, Bool, true, false, arith}
use Rattle.ell_core.specs.history.Stages.{Stage, is_claimed, is_start, is_node_born, is_changed, insert_won, insert_open, delete_won, delete_open, delete_waits, is_marked, is_cut, is_backed}
use Rattle.ell_core.specs.statements.Since.{has_ended}

-- whether the flag of a card was won
abbrev pub was_flagged : Stage → Bool
was_flagged s = insert_won s || delete_won s

pub flagged_cases : (s : Stage) → was_flagged s ≡ true → (insert_won s ≡ true) ⊎ (delete_won s ≡ true)
flagged_cases s h = grind arith

pub insert-flagged : (s : Stage) → insert_won s ≡ true → was_flagged s ≡ true
insert-flagged s h = grind arith

pub delete-flagged : (s : Stage) → delete_won s ≡ true → was_flagged s ≡ true
delete-flagged s h = grind arith

pub flagged-claimed : (s : Stage) → was_flagged s ≡ true → is_claimed s ≡ true
flagged-claimed s h = grind arith

pub unflagged_insert : (s : Stage) → was_flagged s ≡ false → insert_won s ≡ false
unflagged_insert s h = grind arith

pub unflagged_delete : (s : Stage) → was_flagged s ≡ false → delete_won s ≡ false
unflagged_delete s h = grind arith

-- whether it stands
abbrev pub is_open : Stage → Bool
is_open s = insert_open s || delete_open s

pub open_cases : (s : Stage) → is_open s ≡ true → (insert_open s ≡ true) ⊎ (delete_open s ≡ true)
open_cases s h = grind arith

pub open-claimed : (s : Stage) → is_open s ≡ true → is_claimed s ≡ true
open-claimed s h = grind arith

-- it stands until the card has done its work, or was taken back
pub insert_stands : (s : Stage) → insert_won s ≡ true → (is_open s ≡ true) ⊎ (is_changed s ≡ true)
insert_stands s h = grind arith

pub delete_stands : (s : Stage) → delete_won s ≡ true → (is_open s ≡ true) ⊎ ((is_backed s ≡ true) ⊎ (is_cut s ≡ true))
delete_stands s h = grind arith

pub marked_stands : (s : Stage) → is_marked s ≡ true → (is_open s ≡ true) ⊎ (is_cut s ≡ true)
marked_stands s h = grind arith

-- and until the card has ended
pub insert-unended : (s : Stage) → insert_won s ≡ true → has_ended s ≡ false → insert_open s ≡ true
insert-unended s h n = grind arith

pub delete-unended : (s : Stage) → delete_won s ≡ true → has_ended s ≡ false → delete_open s ≡ true
delete-unended s h n = grind arith

-- a delete that was not taken back waits for its child exchange, or has made it
pub unbacked_cases : (s : Stage) → delete_won s ≡ true → is_backed s ≡ false → (delete_waits s ≡ true) ⊎ (is_cut s ≡ true)
unbacked_cases s h n = grind arith

pub cut_not_backed : (s : Stage) → is_cut s ≡ true → is_backed s ≡ true → ⊥
cut_not_backed s h n = grind arith

-- one that was has won its flag
pub backed-won : (s : Stage) → is_backed s ≡ true → delete_won s ≡ true
backed-won s h = grind arith

-- a card whose nodes came into the tree is of the opening tree, or has changed
pub born_cases : (s : Stage) (place : ℕ) → is_node_born s place ≡ true → (is_start s ≡ true) ⊎ (is_changed s ≡ true)
born_cases s place h = grind arith
