use Rattle.std.specs.Prelude.{◌≡◌, ℕ, ◌<◌, ◌≤◌, Bool, true, false, List, length, slice_index, Some, Contains}
use mathlib.Core.Option.{some}
use lib.ListN.{get_elem?}
use Rattle.ell_ops.specs.declared.op.Op.{Op}
use Rattle.ell_ops.specs.Meaning.{key_of}
use Rattle.ell_core.specs.declared.fact.Fact.TheVariants.{DOver}
use Rattle.ell_core.specs.declared.fact.Fact.{Fact}
use Rattle.ell_layout.specs.declared.field.Field.{Field}
use Rattle.ell_layout.specs.Layout.{listed, table_size}
use Rattle.ell_layout.specs.Words.{Words, word, table_word}
use Rattle.ell_core.specs.state.Facts.{known_of}
use Rattle.ell_core.specs.state.Machine.{worker_of}
use Rattle.ell_layout.specs.Cards.{marked, stored}
use Rattle.ell_core.specs.soundness.Sound.{WorkerOwns}
use Rattle.ell_core.specs.history.Invariant.{Invariant}
use Rattle.ell_core.specs.history.Stages.{Stages, Born, waits}
use Rattle.ell_core.specs.statements.Told.{is_fixed}
use Rattle.ell_core.specs.statements.Walks.{Avoids}
use Rattle.ell_runs.specs.Plans.{TablePlan, flat_from}
use Rattle.ell_runs.specs.declared.view.Told.TheVariants.{Met, Depth, Key, Value, Info, Frozen, Expects}
use Rattle.ell_runs.specs.declared.view.Told.{Told}
use Rattle.ell_runs.specs.declared.view.View.{View}
use Rattle.ell_runs.specs.Depths.{level}
use Rattle.ell_runs.specs.Views.{IsTold, Knows, KnewBefore, stored_at}
use Rattle.ell_runs.specs.States.{TableState, seated}
use Rattle.ell_word.specs.Node.{greatest_number}

-- what was told holds of the machine's words: a node that was met came into the tree, and a depth that was told of it
-- is at most its level; a key, a value, or what a fixed field of a claimed card says, with the tag that the card
-- expects, is what was told; and so is a child of a parent that stays marked
abbrev pub EntryHolds : Words → Stages → Told → Type 0
EntryHolds w stage (Met x) = Born stage x
EntryHolds w stage (Depth x d) = Born stage x × (d ≤ level w x)
EntryHolds w stage (Key x key) = Born stage x × (w.key x ≡ key)
EntryHolds w stage (Value x value) = Born stage x × (w.value x ≡ value)
EntryHolds w stage (Info c f x) = (c < w.next) × (is_fixed f ≡ true) × (word w c f ≡ x)
EntryHolds w stage (Expects c tag) = (c < w.next) × (w.expects c ≡ tag)
EntryHolds w stage (Frozen c right x) =
    (c < w.next) × (w.update (w.p c) ≡ marked c) × (w.child (w.p c) right ≡ x) × Born stage x

-- the card in hand that is not flagged: in the machine it says what it is to say; in the table, what was stored of it.
-- So of a card that is to say P 3 and L 4, and of which P was stored, the machine has both, and the table has P 3 and a
-- 0 for L
pub record CardInHandHolds (words : List ℕ) (w : Words) (planned stores : List (Field × ℕ)) (c : ℕ) : Type 0 where
  pub machine : (f : Field) → table_word w c f ≡ stored planned f 0
  pub table : (f : Field) → listed words c f ≡ stored_at stores f

-- the deletes that a pass knew over when its search began
abbrev pub over_before : View → ℕ → Bool
over_before v c = known_of v.knew_before (DOver c)

-- what a pass knows beside the worker that it is: the claim word is no less than its reading and than its claims tell;
-- what it knew when its search began it knows; and the walk on which it stands comes by no parent that a delete had cut
-- out which it knew over then. So while it walks with card 5 known over from the beginning, no walk of its key from its
-- node comes by P(5)
pub record ViewHolds (words : List ℕ) (w : Words) (stage : Stages) (v : View) : Type 0 where
  pub entries : (e : Told) → IsTold v e → EntryHolds w stage e
  pub here : (x key : ℕ) → v.worker.search.node ≡ Some x → v.here ≡ Some key → IsTold v (Key x key)
  pub hand : (c : ℕ) → v.worker.card ≡ Some c → v.worker.flagged ≡ false → CardInHandHolds words w v.planned v.stores c
  pub read : (n : ℕ) → v.next ≡ Some n → n ≤ w.next
  pub least : v.next_at_least ≤ w.next
  pub knew : (f : Fact) → KnewBefore v f → Knows v f
  pub walk : (op : Op) (x : ℕ) → v.worker.operation ≡ Some op → v.worker.search.node ≡ Some x
      → Avoids w (over_before v) (key_of op) x

-- a state of a table with these keys and this last card has a machine that the invariant holds of: its workers are the
-- passes; the table has its claim word, and its words at every card that does not wait for its flag; what passes know
-- holds; and every key that a pass owns is one of the table's, and so is each that it knows may have an owner. So while
-- a pass fills card 3, the machine has card 3 whole and the table what was stored of it, and at every other card that
-- won its flag the two are alike
pub record HasMachine (plan : TablePlan) (s : TableState) : Type 0 where
  pub words : Words
  pub stages : Stages
  pub invariant : Invariant (seated words s.views plan.last_card) stages
  pub limit : plan.last_card ≤ greatest_number
  pub size : length s.words ≡ table_size plan.last_card
  pub next : slice_index s.words 0 ≡ words.next
  pub flat : slice_index s.words 1 ≡ words.flat_from
  pub shape : words.flat_from ≡ flat_from plan
  pub settled : (c : ℕ) (f : Field) → waits (stages c) ≡ false → listed s.words c f ≡ table_word words c f
  pub views : (j : ℕ) (v : View) → get_elem? s.views j ≡ some v → ViewHolds s.words words stages v
  pub owned : (j k : ℕ) (v : View) → get_elem? s.views j ≡ some v → WorkerOwns (worker_of v.worker) k
      → Contains plan.keys k
  pub listed : (j : ℕ) (v : View) (list : List ℕ) → get_elem? s.views j ≡ some v → v.worker.shared ≡ Some list
      → list ≡ plan.keys
