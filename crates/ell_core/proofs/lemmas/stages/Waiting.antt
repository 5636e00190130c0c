use Rattle.std.proofs.Common.{◌≡◌, ◌≤◌, ℕ, ◌⊎◌, true, false, List, [], ◌∷◌, ◌++◌, arith, refl}
use Rattle.ell_core.specs.declared.exchange.Exchange.{Exchange}
use Rattle.ell_core.specs.declared.exchange.Exchange.TheVariants as exchange
use Rattle.ell_core.specs.history.Stages.{Stage, is_start, is_insert, is_delete, is_born, is_node_born, is_claimed, insert_won, delete_won, waits}
use Rattle.ell_core.specs.history.Later.{wins_of}

-- an insert's card that has not won its flag waits
pub insert-waits : (s : Stage) → is_insert s ≡ true → insert_won s ≡ false → waits s ≡ true
insert-waits s a b = grind arith

-- so does a delete's
pub delete-waits : (s : Stage) → is_delete s ≡ true → delete_won s ≡ false → waits s ≡ true
delete-waits s a b = grind arith

-- an insert's card that has won it does not
pub insert_won-settled : (s : Stage) → insert_won s ≡ true → waits s ≡ false
insert_won-settled s a = grind arith

-- nor does a delete's
pub delete_won-settled : (s : Stage) → delete_won s ≡ true → waits s ≡ false
delete_won-settled s a = grind arith

-- nor does a card whose nodes came into the tree
pub born-settled : (s : Stage) (place : ℕ) → is_node_born s place ≡ true → waits s ≡ false
born-settled s place a = grind arith

-- nor does one that was not claimed
pub unclaimed-settled : (s : Stage) → is_claimed s ≡ false → waits s ≡ false
unclaimed-settled s a = grind arith

-- a card that waits was claimed
pub waits-claimed : (s : Stage) → waits s ≡ true → is_claimed s ≡ true
waits-claimed s a = grind arith

-- it is none of the opening tree's
pub waits-no_start : (s : Stage) → waits s ≡ true → is_start s ≡ false
waits-no_start s a = grind arith

-- one of those came into the tree
pub start-born : (s : Stage) (place : ℕ) → place ≤ 2 → is_start s ≡ true → is_node_born s place ≡ true
start-born s place low a = grind arith

-- a card that was not claimed is none of them
pub unclaimed-no_start : (s : Stage) → is_claimed s ≡ false → is_start s ≡ false
unclaimed-no_start s a = grind arith

-- its nodes did not come into the tree
pub waits-unborn : (s : Stage) → waits s ≡ true → is_born s ≡ false
waits-unborn s a = grind arith

-- it is an insert's or a delete's
pub waits-kind : (s : Stage) → waits s ≡ true → (is_insert s ≡ true) ⊎ (is_delete s ≡ true)
waits-kind s a = grind arith

-- and has won nothing
pub waits-wins : (s : Stage) → waits s ≡ true → wins_of s ≡ []
waits-wins s a = grind arith

-- nor has one that was not claimed
pub unclaimed-wins : (s : Stage) → is_claimed s ≡ false → wins_of s ≡ []
unclaimed-wins s a = grind arith

-- an insert's or a delete's card that has won nothing waits
pub kind-waits : (s : Stage) → (is_insert s ≡ true) ⊎ (is_delete s ≡ true) → wins_of s ≡ [] → waits s ≡ true
kind-waits s a b = grind arith

-- the first win is a flag
pub first_win : (s : Stage) (k : Exchange) → wins_of s ≡ k ∷ [] → (k ≡ exchange.IFlag) ⊎ (k ≡ exchange.DFlag)
first_win s k a = grind arith

-- of lists that together have nothing, the first has nothing
pub none_before : (first rest : List Exchange) → first ++ rest ≡ [] → first ≡ []
none_before [] rest h = refl
none_before (k ∷ first) rest h = absurd (cc)
