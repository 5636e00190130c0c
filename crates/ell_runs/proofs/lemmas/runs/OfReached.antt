use Rattle.ell_runs.specs.OwnWords.{OwnWordsAreSound, StepsStayInside, TablePairsChangeAtWins, TableChangesAreOperations, TableAnswersAreTheMaps, LedgersTellTheTree, TreeKeysAreOwned, TableNodesGoOn}
use Rattle.ell_runs.proofs.lemmas.own_words.OwnWords as by_words
use Rattle.ell_runs.proofs.lemmas.own_words.OwnKeys as by_keys
use Rattle.ell_runs.proofs.lemmas.own_words.ChangesOf as by_changes
use Rattle.ell_runs.proofs.lemmas.own_words.OwnLedgers as by_ledgers
use Rattle.ell_runs.proofs.lemmas.runs.TurnsOfRuns as by_turns
use Rattle.ell_runs.proofs.lemmas.runs.NodesOfRuns as by_nodes
use Rattle.ell_runs.proofs.lemmas.runs.Reaching.{reached_kept}
use Rattle.ell_runs.proofs.lemmas.runs.Sharing.{shared_is}
use Rattle.std.proofs.Common.{ℕ, Bool, true, false, ◌≡◌, refl}
use lib.ListN.{get_elem?}
use Rattle.ell_runs.specs.States.{seat_worker}

pub own_words_are_sound : OwnWordsAreSound
own_words_are_sound plan s h = by_words.own_words_are_sound plan s (reached_kept plan s h)

pub steps_stay_inside : StepsStayInside
steps_stay_inside plan s h = by_turns.steps_stay_inside plan s (reached_kept plan s h)

pub table_pairs_change_at_wins : TablePairsChangeAtWins
table_pairs_change_at_wins plan s h = by_keys.table_pairs_change_at_wins plan s (reached_kept plan s h)

pub table_changes_are_operations : TableChangesAreOperations
table_changes_are_operations plan s h = by_changes.table_changes_are_operations plan s (reached_kept plan s h)

pub table_answers_are_the_maps : TableAnswersAreTheMaps
table_answers_are_the_maps plan s h = by_ledgers.table_answers_are_the_maps plan s (reached_kept plan s h)

pub ledgers_tell_the_tree : LedgersTellTheTree
ledgers_tell_the_tree plan s h = by_ledgers.ledgers_tell_the_tree plan s (reached_kept plan s h)

pub tree_keys_are_owned : TreeKeysAreOwned
tree_keys_are_owned plan s h key there apart =
    by_ledgers.tree_keys_are_owned plan s (reached_kept plan s h) key (λ i. unshared i ((seat_worker (get_elem? s.views i)).shared key) refl) there
  where
    unshared : (i : ℕ) (b : Bool) → (seat_worker (get_elem? s.views i)).shared key ≡ b → b ≡ false
    unshared i true e = absurd (apart (shared_is plan s h i key e))
    unshared i false e = refl

pub table_nodes_go_on : TableNodesGoOn
table_nodes_go_on plan s h = by_nodes.table_nodes_go_on plan s (reached_kept plan s h)
