use Rattle.std.specs.Prelude.{◌≡◌, ℕ, ◌+◌, ◌<◌, ◌≤◌, ◌==◌, ◌&&◌, if◌then◌else◌, Bool, false, zero, suc, nat_lt, Some, None, List, length, slice_get, map}
use Rattle.std.specs.List.{list_any}
use Rattle.ell_ops.specs.Contents.{contents_of}
use Rattle.ell_core.specs.declared.event.CoreFault.{CoreFault}
use Rattle.ell_core.specs.declared.event.CoreFault.TheVariants.{NoSuchWorker, OwnedTwice, NoMemory}
use Rattle.ell_core.specs.state.Machine.{Ledger, Machine, idle, entry_of, Worker, nobody, ledger_of}
use Rattle.ell_core.specs.declared.view.Entry.{Entry}
use Rattle.ell_layout.specs.Start.{words_at_start}

-- whether an entry, a worker and a key, gives the key to the worker
abbrev pub gives : ℕ → ℕ → ℕ × ℕ → Bool
gives i key entry = (entry.0 == i) && (entry.1 == key)

-- what start keys make of a key
abbrev pub start_entry : List (ℕ × ℕ) → ℕ → Entry
start_entry start key = entry_of (contents_of start key)

-- the ledger of worker i at the start: its keys are those that the entries give it, and the start keys among them are
-- present
abbrev pub opening_ledger : List (ℕ × ℕ) → List (ℕ × ℕ) → ℕ → Ledger
opening_ledger owned start i = λ key. if list_any (gives i key) owned then Some (start_entry start key) else None

-- what a state opens with: so many workers, the keys that they own, by entries of a worker and a key, the start keys
-- with their values, so many cards beside those of the start keys' tree, the shared keys, and whether the tree is flat
pub record Setup : Type 0 where
  pub count : ℕ
  pub owned : List (ℕ × ℕ)
  pub start : List (ℕ × ℕ)
  pub cards : ℕ
  pub shared : ℕ → Bool
  pub flat : Bool

-- the last card, where so many cards follow those of the start keys' tree
abbrev pub last_card : List (ℕ × ℕ) → ℕ → ℕ
last_card start cards = cards + length start

-- the shared keys, as worker i of so many has them
abbrev pub shares : ℕ → (ℕ → Bool) → ℕ → ℕ → Bool
shares count shared i = λ key. shared key && nat_lt i count

-- the opening state
unfoldable pub opening : Setup → Machine
opening setup = record {
  words = words_at_start setup.flat setup.start;
  count = setup.count;
  last_card = last_card setup.start setup.cards;
  worker = λ i. idle (opening_ledger setup.owned setup.start i) (shares setup.count setup.shared i) (λ _. false);
}

-- whether a key is given to some worker
abbrev pub is_given : List (ℕ × ℕ) → ℕ → Bool
is_given owned key = list_any (λ entry. entry.1 == key) owned

-- the entry at a place names a worker that is not there
pub record IsStranger (count : ℕ) (owned : List (ℕ × ℕ)) (at : ℕ) : Type 0 where
  pub entry : ℕ × ℕ
  pub stands : slice_get owned at ≡ Some entry
  pub strange : count ≤ entry.0

-- the entry at a place names a key that an earlier entry names
pub record IsRepeat (owned : List (ℕ × ℕ)) (at : ℕ) : Type 0 where
  pub entry : ℕ × ℕ
  pub stands : slice_get owned at ≡ Some entry
  pub earlier : ℕ
  pub other : ℕ × ℕ
  pub before : earlier < at
  pub stood : slice_get owned earlier ≡ Some other
  pub same : other.1 ≡ entry.1

-- no entry before a place is faulty
abbrev pub FaultlessBefore : ℕ → List (ℕ × ℕ) → ℕ → Type 0
FaultlessBefore count owned at = (i : ℕ) → i < at → (¬ IsStranger count owned i) × (¬ IsRepeat owned i)

-- no entry is faulty
abbrev pub Faultless : ℕ → List (ℕ × ℕ) → Type 0
Faultless count owned = (i : ℕ) → (¬ IsStranger count owned i) × (¬ IsRepeat owned i)

-- the first faulty entry names a worker that is not there
pub record StrangerFirst (count : ℕ) (owned : List (ℕ × ℕ)) : Type 0 where
  pub at : ℕ
  pub before : FaultlessBefore count owned at
  pub here : IsStranger count owned at

-- the first faulty entry names a worker that is there, and a key that an earlier entry names
pub record RepeatFirst (count : ℕ) (owned : List (ℕ × ℕ)) : Type 0 where
  pub at : ℕ
  pub before : FaultlessBefore count owned at
  pub no_stranger : ¬ IsStranger count owned at
  pub here : IsRepeat owned at

-- an opening is refused
abbrev pub OpeningRefused : ℕ → List (ℕ × ℕ) → CoreFault → Type 0
OpeningRefused count owned NoSuchWorker = StrangerFirst count owned
OpeningRefused count owned OwnedTwice = RepeatFirst count owned
OpeningRefused count owned NoMemory = Unit {0}
OpeningRefused count owned _ = ⊥

-- worker 0, and nobody else
abbrev pub first_alone : Worker → ℕ → Worker
first_alone v zero = v
first_alone v (suc i) = nobody

-- these keys, of which the start keys are present and the others absent
abbrev pub keys_at_start : List ℕ → List (ℕ × ℕ) → List (ℕ × Entry)
keys_at_start keys start = map (λ k. (k, start_entry start k)) keys

-- the state at the start of one worker that owns these keys, of which the start keys are present, with so many cards to
-- claim, in a tree that is flat or not
abbrev pub opening_of_one : List ℕ → List (ℕ × ℕ) → ℕ → (ℕ → Bool) → Bool → Machine
opening_of_one keys start cards shared flat = record {
  words = words_at_start flat start;
  worker = first_alone (idle (ledger_of (keys_at_start keys start)) shared (λ _. false));
  count = 1;
  last_card = last_card start cards;
}
