use Rattle.std.proofs.Common.{◌≡◌, ◌≢◌, ◌≤◌, ℕ, ◌%◌, ◌==◌, ◌||◌, ◌&&◌, nat_le, ◌⊎◌, true, false, None, inl, inr, refl, sym, arith}
use Rattle.std.proofs.lemmas.Bool.{false≢true}
use Rattle.ell_ops.specs.declared.op.Op.{Op}
use Rattle.ell_ops.specs.declared.op.Op.TheVariants.{Find, Insert, Delete, Swap}
use Rattle.ell_word.specs.Node.{card, IsNode}
use Rattle.ell_core.specs.history.Stages.{Stage, Stages, Born, Unclaimed, Opening, IClaimed, IFlagged, IChanged, IOver, RChanged, ROver, DClaimed, DFlagged, DUnmarkable, DMarked, DCut, DOver, DBacked, is_claimed, is_insert, is_delete, is_born, is_node_born, insert_won, insert_open, insert_waits, is_changed, insert_over, delete_won, delete_open, delete_waits, is_markable, is_unmarkable, is_marked, is_cut, delete_past, delete_over, is_backed, made_by_stage}

-- an insert whose flag stands has won it
pub insert_open-won : (s : Stage) → insert_open s ≡ true → insert_won s ≡ true
insert_open-won s h = grind arith

-- a card whose insert's flag stands is an insert's
pub insert_open-insert : (s : Stage) → insert_open s ≡ true → is_insert s ≡ true
insert_open-insert s h = grind arith

-- an insert that waits for its child exchange has its flag standing
pub insert_waits-open : (s : Stage) → insert_waits s ≡ true → insert_open s ≡ true
insert_waits-open s h = grind arith

-- and is an insert's card
pub insert_waits-insert : (s : Stage) → insert_waits s ≡ true → is_insert s ≡ true
insert_waits-insert s h = grind arith

-- a card whose insert's flag was won is an insert's
pub insert_won-insert : (s : Stage) → insert_won s ≡ true → is_insert s ≡ true
insert_won-insert s h = grind arith

-- an insert that is over has made its child exchange
pub insert_over-changed : (s : Stage) → insert_over s ≡ true → is_changed s ≡ true
insert_over-changed s h = grind arith

-- and is an insert's card
pub insert_over-insert : (s : Stage) → insert_over s ≡ true → is_insert s ≡ true
insert_over-insert s h = grind arith

-- an insert that made its child exchange has won its flag
pub changed-won : (s : Stage) → is_changed s ≡ true → insert_won s ≡ true
changed-won s h = grind arith

-- and is an insert's card
pub changed-insert : (s : Stage) → is_changed s ≡ true → is_insert s ≡ true
changed-insert s h = grind arith

-- a delete whose flag stands has won it
pub delete_open-won : (s : Stage) → delete_open s ≡ true → delete_won s ≡ true
delete_open-won s h = grind arith

-- a card whose delete's flag stands is a delete's
pub delete_open-delete : (s : Stage) → delete_open s ≡ true → is_delete s ≡ true
delete_open-delete s h = grind arith

-- a delete that waits for its child exchange has its flag standing
pub delete_waits-open : (s : Stage) → delete_waits s ≡ true → delete_open s ≡ true
delete_waits-open s h = grind arith

-- and is a delete's card
pub delete_waits-delete : (s : Stage) → delete_waits s ≡ true → is_delete s ≡ true
delete_waits-delete s h = grind arith

-- a card whose delete's flag was won is a delete's
pub delete_won-delete : (s : Stage) → delete_won s ≡ true → is_delete s ≡ true
delete_won-delete s h = grind arith

-- a card whose delete's flag was taken away again is a delete's
pub delete_past-delete : (s : Stage) → delete_past s ≡ true → is_delete s ≡ true
delete_past-delete s h = grind arith

-- a card that may still be marked is a delete's
pub markable-delete : (s : Stage) → is_markable s ≡ true → is_delete s ≡ true
markable-delete s h = grind arith

-- a card that can't be marked any more is a delete's
pub unmarkable-delete : (s : Stage) → is_unmarkable s ≡ true → is_delete s ≡ true
unmarkable-delete s h = grind arith

-- and has won its flag
pub marked-won : (s : Stage) → is_marked s ≡ true → delete_won s ≡ true
marked-won s h = grind arith

-- a card that was marked is a delete's
pub marked-delete : (s : Stage) → is_marked s ≡ true → is_delete s ≡ true
marked-delete s h = grind arith

-- and has marked
pub cut-marked : (s : Stage) → is_cut s ≡ true → is_marked s ≡ true
cut-marked s h = grind arith

-- a card that has cut is a delete's
pub cut-delete : (s : Stage) → is_cut s ≡ true → is_delete s ≡ true
cut-delete s h = grind arith

-- a card whose delete is over has marked
pub over-marked : (s : Stage) → delete_over s ≡ true → is_marked s ≡ true
over-marked s h = grind arith

-- and is a delete's
pub over-delete : (s : Stage) → delete_over s ≡ true → is_delete s ≡ true
over-delete s h = grind arith

-- a card that went back is a delete's
pub backed-delete : (s : Stage) → is_backed s ≡ true → is_delete s ≡ true
backed-delete s h = grind arith

-- an insert's card was claimed
pub insert-claimed : (s : Stage) → is_insert s ≡ true → is_claimed s ≡ true
insert-claimed s h = grind arith

-- a delete's card was claimed
pub delete-claimed : (s : Stage) → is_delete s ≡ true → is_claimed s ≡ true
delete-claimed s h = grind arith

-- a delete's card has no nodes that came into the tree
pub delete-unborn : (s : Stage) → is_delete s ≡ true → is_born s ≡ false
delete-unborn s h = grind arith

-- a card whose nodes came into the tree was claimed
pub born-claimed : (s : Stage) (place : ℕ) → is_node_born s place ≡ true → is_claimed s ≡ true
born-claimed s place h = grind arith

-- what came into the tree is a node
pub born-node : (s : Stage) (place : ℕ) → is_node_born s place ≡ true → place ≤ 2
born-node s place h = grind arith

pub born_is_node : (stage : Stages) (x : ℕ) → Born stage x → IsNode x
born_is_node stage x born = let low = born-node (stage (card x)) (x % 4) born in λ none. omega arith

-- a card's internal node came into the tree with all its nodes
pub inner-born : (s : Stage) (place : ℕ) → place ≡ 0 → is_node_born s place ≡ true → is_born s ≡ true
inner-born s place zero h = grind arith

-- and each of its nodes with them
pub all-born : (s : Stage) (place : ℕ) → place ≤ 2 → is_born s ≡ true → is_node_born s place ≡ true
all-born s place low h = grind arith

-- the nodes of a changed card that came into the tree, by whether all did
pub changed_nodes : (s : Stage) (place : ℕ) → is_changed s ≡ true → is_node_born s place ≡ ((is_born s && nat_le place 2) || (place == 2))
changed_nodes s place h = grind arith

-- the nodes of a card that was not claimed did not come into the tree
pub unclaimed-unborn : (s : Stage) → is_claimed s ≡ false → is_born s ≡ false
unclaimed-unborn s h = grind arith

-- a delete's card has no insert's flag
pub delete_not_insert_open : (s : Stage) → is_delete s ≡ true → insert_open s ≡ true → ⊥
delete_not_insert_open s h g = grind arith

-- a delete's card is not the opening tree's
pub delete_not_opening : (s : Stage) → is_delete s ≡ true → s ≢ Opening
delete_not_opening s h e = grind arith

-- an insert's card whose flag was not won was just claimed
pub insert_claimed : (s : Stage) → is_insert s ≡ true → insert_won s ≡ false → s ≡ IClaimed
insert_claimed IClaimed kind unwon = refl
insert_claimed IFlagged kind unwon = absurd (false≢true (sym unwon))
insert_claimed _ kind unwon = absurd (grind arith)

-- a delete's card whose flag was not won was just claimed
pub delete_claimed : (s : Stage) → is_delete s ≡ true → delete_won s ≡ false → s ≡ DClaimed
delete_claimed DClaimed kind unwon = refl
delete_claimed _ kind unwon = absurd (grind arith)

-- an insert that won its flag waits for its child exchange, or has made it
pub waits_or_changed : (s : Stage) → insert_won s ≡ true → (s ≡ IFlagged) ⊎ (is_changed s ≡ true)
waits_or_changed s h = grind arith

-- a changed insert has its flag or is over
pub changed_cases : (s : Stage) → is_changed s ≡ true → ((s ≡ IChanged) ⊎ (s ≡ RChanged)) ⊎ ((s ≡ IOver) ⊎ (s ≡ ROver))
changed_cases IChanged h = inl (inl refl)
changed_cases IOver h = inr (inl refl)
changed_cases RChanged h = inl (inr refl)
changed_cases ROver h = inr (inr refl)
changed_cases _ h = absurd (false≢true h)

-- a delete whose flag was won may be marked, or can't be any more, or was
pub won_cases : (s : Stage) → delete_won s ≡ true → (s ≡ DFlagged) ⊎ ((is_unmarkable s ≡ true) ⊎ (is_marked s ≡ true))
won_cases s h = grind arith

-- a delete that can't be marked was not
pub unmarkable_not_marked : (s : Stage) → is_unmarkable s ≡ true → is_marked s ≡ true → ⊥
unmarkable_not_marked s h g = grind arith

-- a flagged delete was not marked
pub flagged_not_marked : (s : Stage) → s ≡ DFlagged → is_marked s ≡ true → ⊥
flagged_not_marked s h g = grind arith

-- a card that was marked has cut or not yet
pub marked_cases : (s : Stage) → is_marked s ≡ true → (s ≡ DMarked) ⊎ (is_cut s ≡ true)
marked_cases DMarked h = inl refl
marked_cases DCut h = inr refl
marked_cases DOver h = inr refl
marked_cases _ h = absurd (false≢true h)

-- a delete that has cut has its flag or is over
pub cut_cases : (s : Stage) → is_cut s ≡ true → (s ≡ DCut) ⊎ (s ≡ DOver)
cut_cases DCut h = inl refl
cut_cases DOver h = inr refl
cut_cases _ h = absurd (false≢true h)

-- a delete that can't be marked has its flag or was taken back
pub unmarkable_cases : (s : Stage) → is_unmarkable s ≡ true → (s ≡ DUnmarkable) ⊎ (s ≡ DBacked)
unmarkable_cases DUnmarkable h = inl refl
unmarkable_cases DBacked h = inr refl
unmarkable_cases _ h = absurd (false≢true h)

-- no card is both an insert's and a delete's
pub one_kind : (s : Stage) → is_insert s ≡ true → is_delete s ≡ true → ⊥
one_kind s insert delete = grind arith

-- a stage that is not one of a claimed card
pub unclaimed_stage : (s : Stage) → is_claimed s ≢ true → s ≡ Unclaimed
unclaimed_stage Unclaimed n = refl
unclaimed_stage _ n = absurd (n refl)

-- a stage whose flag was won is no insert's without its flag
pub insert_not_won : (s : Stage) → is_insert s ≡ true → insert_won s ≡ false → (insert_won s ≡ true) ⊎ (delete_won s ≡ true) → ⊥
insert_not_won s kind free won = grind arith

-- nor a delete's
pub delete_not_won : (s : Stage) → is_delete s ≡ true → delete_won s ≡ false → (insert_won s ≡ true) ⊎ (delete_won s ≡ true) → ⊥
delete_not_won s kind free won = grind arith

-- a delete whose flag was taken back has made nothing of its key, and no flag of it stands
pub backed_made : (op : Op) (s : Stage) → is_backed s ≡ true → made_by_stage op s ≡ None
backed_made (Find k) s h = refl
backed_made (Insert k value) s h = grind arith
backed_made (Delete k) s h = grind arith
backed_made (Swap k was value) s h = grind arith

pub backed_insert : (s : Stage) → is_backed s ≡ true → insert_open s ≡ false
backed_insert s h = grind arith

pub backed_delete : (s : Stage) → is_backed s ≡ true → delete_open s ≡ false
backed_delete s h = grind arith
