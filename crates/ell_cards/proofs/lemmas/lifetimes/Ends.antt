use Rattle.std.proofs.Common.{◌≡◌, ◌≢◌, ℕ, None, refl, sym, subst, arith, inl, inr}
use Rattle.std.specs.Prelude.{Contains}
use Rattle.std.specs.List.{All}
use mathlib.Core.Option.{Option, some, none}
use lib.ListN.{get_elem?}
use Rattle.ell_word.specs.Node.{IsInternal}
use Rattle.ell_core.specs.state.Machine.{Worker, Machine, ledger_of}
use Rattle.ell_core.specs.state.Handovers.{WorkerIsIdle}
use Rattle.ell_core.specs.acts.Searching.{IsClean}
use Rattle.ell_core.specs.tree.Tree.{Reached}
use Rattle.ell_core.specs.soundness.Sound.{WorkerOwns}
use Rattle.ell_core.specs.statements.StepLaws.{OwnsAll}
use Rattle.ell_core.proofs.lemmas.following.Sound.{reached_born}
use Rattle.ell_core.proofs.lemmas.following.Reliance.{owner_finds_clean}
use Rattle.ell_runs.specs.declared.view.View.{View}
use Rattle.ell_runs.specs.Views.{IsFree}
use Rattle.ell_runs.specs.States.{TableState, seat_worker, seated}
use Rattle.ell_runs.specs.Plans.{TablePlan}
use Rattle.ell_runs.specs.Machines.{HasMachine}
use Rattle.ell_runs.specs.Starts.{IsReached}
use Rattle.ell_runs.proofs.lemmas.runs.Sharing.{IsAlone, only_sharer, tree_key_is}
use Rattle.ell_cards.specs.Closed.{ShowsMap}
use Rattle.ell_runs.proofs.lemmas.seats.Seats.{mine_is, mine_sound}
use Rattle.ell_runs.specs.TurnEffects.{own_words}
use Rattle.ell_runs.proofs.lemmas.own_words.OwnTree.{update_same, reached_same}
use Rattle.ell_runs.proofs.lemmas.own_words.OwnWords.{same_next, same_card, own_words_are_sound}
use Rattle.ell_runs.proofs.lemmas.own_words.OwnLedgers.{ledgers_tell_the_tree}

module _ (plan : TablePlan) (s : TableState) (h : IsReached plan s) (r : HasMachine plan s) (id : ℕ) (v : View)
    (here : get_elem? s.views id ≡ some v) (alone : IsAlone s id) (free : IsFree v) (all : All (λ k. ledger_of v.worker.ledger k ≢ None) plan.keys) where
  abbrev machine : Machine
  machine = seated r.words s.views plan.last_card

  -- the list has at a reached internal node the update word that the machine has
  same_update : (x : ℕ) → Reached r.words x → IsInternal x → (own_words s).update x ≡ r.words.update x
  same_update x reached inner =
      let sound = r.invariant.words in
      update_same r.words (own_words s) r.stages sound (same_card plan s r) x inner (reached_born r.words r.stages sound x reached)

  -- the pass owns each key of the table
  owns_each : (k : ℕ) → Contains plan.keys k → ledger_of v.worker.ledger k ≢ None
  owns_each k at = subst (λ x. ledger_of v.worker.ledger x ≢ None) at.2 (all at.0 k at.1)

  -- each key that any seat owns is one of the table
  owned_listed : (j k : ℕ) → WorkerOwns (machine.worker j) k → Contains plan.keys k
  owned_listed j k owns = by (get_elem? s.views j) refl owns
    where
      by : (o : Option View) → get_elem? s.views j ≡ o → WorkerOwns (seat_worker o) k → Contains plan.keys k
      by none e own = absurd (own refl)
      by (some u) e own = r.owned j k u e own

  -- so the pass owns every key that any seat owns
  owns_all : OwnsAll machine id
  owns_all = record {
    all = λ j k may. elim may [
      | inl owns ↦ inr (subst (λ (u : Worker). WorkerOwns u k) (sym (mine_is plan s r id v here)) (owns_each k (owned_listed j k owns)))
      | inr shared ↦ inl (only_sharer s id alone j k shared)
    ];
    free = subst WorkerIsIdle (sym (mine_is plan s r id v here)) ((mine_sound plan s r id v here).free free);
  }

  -- what is reached in the list is reached in the machine
  reached_back : (x : ℕ) → Reached (own_words s) x → Reached r.words x
  reached_back x h = (reached_same r.words (own_words s) r.stages r.invariant.words (same_card plan s r) x).1 h

  -- the tree of the list
  pub shows : ShowsMap plan v.worker.ledger (record { words = s.words; last_card = plan.last_card })
  shows =
      let is = own_words_are_sound plan s r in record {
        size = r.size;
        tree = is.tree;
        nodes = λ x h. let low = is.names.nodes x h in let next = same_next plan s r in let room = r.invariant.limit in omega arith;
        numbers = is.names.numbers;
        clean = λ x h inner. subst IsClean (sym (same_update x (reached_back x h) inner))
            (owner_finds_clean machine r.stages id r.invariant owns_all x (reached_back x h) inner);
        owned = λ k there. tree_key_is plan s h k (λ unshared. let by = is.ledgers.owned k there unshared in owned_listed by.worker k by.owns);
        listed = λ k owns. r.owned id k v here owns;
        present = λ k value at. ledgers_tell_the_tree plan s r id v here free k value (owns_each k at);
      }
