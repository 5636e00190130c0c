use Rattle.std.specs.Prelude.{ℕ, ◌==◌, if◌then◌else◌, true, false, Some, None, ◌*◌}
use Rattle.ell_ops.specs.declared.op.Op.TheVariants.{Find}
use Rattle.ell_word.specs.Node.{left_leaf, right_leaf}
use Rattle.ell_core.specs.declared.fact.Fact.TheVariants.{IFlagged}
use Rattle.ell_layout.specs.Words.{Words, put}
use Rattle.ell_core.specs.state.Facts.{learned}
use Rattle.ell_core.specs.state.Machine.{Ledger, Worker, Machine, idle, nobody, no_search}
use Rattle.ell_layout.specs.Start.{opening_words}
use Rattle.ell_core.specs.soundness.Sound.{LedgersAreSound, WalksAreSound, StrangersAreNobody, IsSound}
use Rattle.ell_core.specs.soundness.SmallTrees.{five, five_filled}
use Rattle.ell_core.specs.declared.view.Entry.{Entry}
use Rattle.ell_core.specs.declared.view.Entry.TheVariants.{Present, Absent}

-- the ledger of one key, present or absent
abbrev pub one_key : ℕ → Entry → Ledger
one_key key entry = λ k. if k == key then Some entry else None

-- a worker that owns one key and has nothing in hand
abbrev pub owner : ℕ → Entry → Worker
owner key entry = idle (one_key key entry) (λ _. false) (λ _. false)

-- a worker that owns two keys, both present with ten times the key for their value, and has nothing in hand
abbrev pub owner_of_two : ℕ → ℕ → Worker
owner_of_two key other =
    idle (put (one_key key (Present (10 * key))) other (Some (Present (10 * other)))) (λ _. false) (λ _. false)

-- the worker with a card in hand that won its flag
abbrev pub holding : ℕ → Worker → Worker
holding c v = record v { card = Some c; flagged = true }

-- the worker with a find in hand whose search stands at a node
abbrev pub searching : ℕ → ℕ → Worker → Worker
searching key x v = record v { operation = Some (Find key); search = record no_search { node = Some x } }

-- a state of these words with one worker, worker 0, and four cards
abbrev pub with_one : Words → Worker → Machine
with_one w v = record { words = w; worker = put (λ _. nobody) 0 v; count = 1; last_card = 4 }

-- a state is unsound by its ledgers
abbrev pub BreaksLedgers : Machine → Type 0
BreaksLedgers m = (¬ LedgersAreSound m) × (¬ IsSound m)

-- one owner: a key with two owners
abbrev pub key_owned_twice : Machine
key_owned_twice = record {
  words = opening_words;
  worker = put (put (λ _. nobody) 0 (owner 5 Absent)) 1 (owner 5 Absent);
  count = 2;
  last_card = 4;
}

-- owned: a key of the tree that nobody owns
abbrev pub key_without_owner : Machine
key_without_owner = with_one five (owner 7 Absent)

-- present, left to right: a key of the tree that its owner's ledger has absent
abbrev pub key_missing_in_ledger : Machine
key_missing_in_ledger = with_one five (owner 5 Absent)

-- present, right to left: a key that is present in the ledger alone, with the tree as it was opened
abbrev pub key_kept_in_ledger : Machine
key_kept_in_ledger = with_one opening_words (owner 5 (Present 50))

-- present, left to right: a key of the tree that its owner's ledger has present with another value
abbrev pub key_with_other_value : Machine
key_with_other_value = with_one five (owner 5 (Present 51))

-- a state is unsound by its searches
abbrev pub BreaksSearches : Machine → Type 0
BreaksSearches m = (¬ WalksAreSound m) × (¬ IsSound m)

-- finds, left to right: a search that stands at a new leaf of its key that did not come into the tree, the key absent
abbrev pub key_found_too_early : Machine
key_found_too_early = with_one five_filled (searching 5 (left_leaf 1) (owner 5 Absent))

-- finds, right to left: a search that still stands at the leaf that was there before its key came, the key present
abbrev pub key_not_found : Machine
key_not_found = with_one five (searching 5 (left_leaf 0) (owner 5 (Present 50)))

-- joins: a search for key 5 that stands at the right leaf, where no walk for 5 comes by
abbrev pub search_astray : Machine
search_astray = with_one opening_words (searching 5 (right_leaf 0) (owner 5 Absent))

-- a state is unsound by who is past the last worker
abbrev pub BreaksStrangers : Machine → Type 0
BreaksStrangers m = (¬ StrangersAreNobody m) × (¬ IsSound m)

-- the tree with key 5, which its one worker owns, and this one past it
abbrev pub with_stranger : Worker → Machine
with_stranger v = let m = with_one five (owner 5 (Present 50)) in record m { worker = put m.worker 1 v }

-- strangers: a key that is owned where there is no worker
abbrev pub key_of_stranger : Machine
key_of_stranger = with_stranger (owner 7 Absent)

-- strangers: an operation in hand
abbrev pub busy_stranger : Machine
busy_stranger = with_stranger (record nobody { operation = Some (Find 5) })

-- strangers: a fact that holds is known
abbrev pub knowing_stranger : Machine
knowing_stranger = with_stranger (record nobody { knows = learned nobody.knows (IFlagged 1) })
