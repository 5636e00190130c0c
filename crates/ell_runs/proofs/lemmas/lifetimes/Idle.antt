use Rattle.std.proofs.Common.{◌≡◌, ℕ, ◌+◌, ◌≤◌, List, Some, None, subst, arith}
use Rattle.ell_core.specs.declared.fact.Fact.{Fact}
use Rattle.ell_layout.specs.Words.{Words}
use Rattle.ell_core.specs.state.Facts.{card_of_fact}
use Rattle.ell_core.specs.history.Stages.{Stages}
use Rattle.ell_core.specs.history.Invariant.{WordsAreSound}
use Rattle.ell_core.proofs.lemmas.stages.LaterKeys.{root_born}
use Rattle.ell_core.proofs.lemmas.outcomes.Decide.{some_not_none}
use Rattle.ell_runs.specs.declared.view.Told.{Told}
use Rattle.ell_runs.specs.declared.view.Told.TheVariants.{Met}
use Rattle.ell_runs.specs.declared.view.View.{View}
use Rattle.ell_runs.specs.Views.{Has, latest, earlier, Knows, KnewBefore}
use Rattle.ell_runs.specs.Changes.{forgotten}
use Rattle.ell_runs.specs.Naming.{EntryIsNamed, IsNamed}
use Rattle.ell_runs.specs.Machines.{EntryHolds, ViewHolds}

-- a pass that has forgotten what it was told has met the root alone
pub root_alone : (P : Told → Type 0) → P (Met 0) → (e : Told) → Has forgotten e → P e
root_alone P root e (latest _ _) = root
root_alone P root e (earlier _ _ _ h) = elim h [ ]

-- which is in the tree
pub forgotten_holds : (w : Words) (stage : Stages) → WordsAreSound w stage → (e : Told) → Has forgotten e → EntryHolds w stage e
forgotten_holds w stage sound = root_alone (EntryHolds w stage) (root_born w stage sound)

-- all that a pass with nothing in hand knows holds
pub rest_holds : (words : List ℕ) (w : Words) (stage : Stages) → WordsAreSound w stage → (v : View) → v.told ≡ forgotten
    → v.worker.card ≡ None → v.here ≡ None → v.worker.search.node ≡ None → ((n : ℕ) → v.next ≡ Some n → n ≤ w.next) → v.next_at_least ≤ w.next
    → ((f : Fact) → KnewBefore v f → Knows v f) → ViewHolds words w stage v
rest_holds words w stage sound v told card here nowhere read least knew = record {
  entries = λ e has. forgotten_holds w stage sound e (subst (λ es. Has es e) told has);
  here = λ x key at is. absurd (some_not_none is here);
  hand = λ c has un. absurd (some_not_none has card);
  read = read;
  least = least;
  knew = knew;
  walk = λ op x busy at. absurd (some_not_none at nowhere);
}

-- where its facts are in a table, all that it names is
pub rest_named : (cards : ℕ) (v : View) → v.told ≡ forgotten → ((f : Fact) → Knows v f → card_of_fact f ≤ cards)
    → v.worker.search.node ≡ None → v.worker.card ≡ None → v.next_at_least ≤ cards + 1 → IsNamed cards v
rest_named cards v told facts node card next = record {
  node = λ x at. absurd (some_not_none at node);
  parent = λ x seen at behind. absurd (some_not_none at node);
  grandparent = λ x seen above at behind up. absurd (some_not_none at node);
  hand = λ c has. absurd (some_not_none has card);
  facts = facts;
  entries = λ e has. root_alone (EntryIsNamed cards) (omega arith) e (subst (λ es. Has es e) told has);
  next = next;
}
