use Rattle.std.specs.Prelude.{◌≡◌, ◌≢◌, ℕ, ◌<◌, ◌≤◌, ◌↔◌, ◌⊎◌, List, Some, None, slice_get, take}
use Rattle.ell_ops.specs.declared.op.Op.{Op}
use Rattle.ell_ops.specs.declared.op.Op.TheVariants.{Find, Insert, Delete, Swap}
use Rattle.ell_ops.specs.declared.reply.Reply.{Reply}
use Rattle.ell_ops.specs.declared.reply.Reply.TheVariants.{No, Yes, Found}
use Rattle.ell_ops.specs.Contents.{Contents}
use Rattle.ell_ops.specs.Meaning.{replies, final}

-- no insert of the key stands from position low up to position high
abbrev pub NoInsert : List Op → ℕ → ℕ → ℕ → Type 0
NoInsert ops key low high = (j value : ℕ) → low ≤ j → j < high → slice_get ops j ≢ Some (Insert key value)

-- nor a delete of it
abbrev pub NoDelete : List Op → ℕ → ℕ → ℕ → Type 0
NoDelete ops key low high = (j : ℕ) → low ≤ j → j < high → slice_get ops j ≢ Some (Delete key)

-- nor a swap of it from this value to another
abbrev pub NoSwapAway : List Op → ℕ → ℕ → ℕ → ℕ → Type 0
NoSwapAway ops key value low high =
    (j other : ℕ) → low ≤ j → j < high → other ≢ value → slice_get ops j ≢ Some (Swap key value other)

-- the key's value stays from position low up to position high: there the key is not deleted, nor swapped from this
-- value to another
pub record ValueStays (ops : List Op) (key value low high : ℕ) : Type 0 where
  pub no_delete : NoDelete ops key low high
  pub no_swap : NoSwapAway ops key value low high

-- some delete of the key stands before position i, with no insert of it between
pub record IsDeleted (ops : List Op) (key i : ℕ) : Type 0 where
  pub at : ℕ
  pub before : at < i
  pub delete : slice_get ops at ≡ Some (Delete key)
  pub stays : NoInsert ops key at i

-- the key was not there at first, and no insert of it stands before position i
pub record IsMissing (there : Contents) (ops : List Op) (key i : ℕ) : Type 0 where
  pub lacked : there key ≡ None
  pub stays : NoInsert ops key 0 i

-- the key is absent before position i
abbrev pub IsAbsent : Contents → List Op → ℕ → ℕ → Type 0
IsAbsent there ops key i = IsDeleted ops key i ⊎ IsMissing there ops key i

-- some insert of the key with this value stands before position i where the key was absent, and from it up to i the
-- value stays
pub record IsInserted (there : Contents) (ops : List Op) (key i value : ℕ) : Type 0 where
  pub at : ℕ
  pub before : at < i
  pub insert : slice_get ops at ≡ Some (Insert key value)
  pub absent : IsAbsent there ops key at
  pub stays : ValueStays ops key value at i

-- the key was there at first with this value, and up to position i the value stays
pub record IsKept (there : Contents) (ops : List Op) (key i value : ℕ) : Type 0 where
  pub had : there key ≡ Some value
  pub stays : ValueStays ops key value 0 i

-- the key is present with this value before position i
pub data HasValue (there : Contents) (ops : List Op) (key : ℕ) : ℕ → ℕ → Type 0 where
  at_first : {i value : ℕ} → IsKept there ops key i value → HasValue there ops key i value
  by_insert : {i value : ℕ} → IsInserted there ops key i value → HasValue there ops key i value
  -- some swap of the key, from the value that it had there to this one, stands before i, and from it up to i the value
  -- stays
  by_swap : {i value : ℕ} (at was : ℕ) → at < i → slice_get ops at ≡ Some (Swap key was value)
      → HasValue there ops key at was → ValueStays ops key value at i → HasValue there ops key i value

-- the key is present before position i
abbrev pub IsPresent : Contents → List Op → ℕ → ℕ → Type 0
IsPresent there ops key i = (value : ℕ) × HasValue there ops key i value

-- the reply tells the key's value before position i, or that the key is absent
abbrev pub TellsValue : Contents → List Op → ℕ → ℕ → Reply → Type 0
TellsValue there ops key i reply =
    ((value : ℕ) → (reply ≡ Found value) ↔ HasValue there ops key i value) × ((reply ≡ No) ↔ IsAbsent there ops key i)

-- the reply of an operation by its key before its position: of a find or a swap the value, if the key is present; of an
-- insert yes exactly where it is absent; of a delete yes exactly where it is present
abbrev pub GoesByPresence : Contents → List Op → ℕ → Op → Reply → Type 0
GoesByPresence there ops i (Find key) reply = TellsValue there ops key i reply
GoesByPresence there ops i (Insert key value) reply =
    ((reply ≡ Yes) ↔ IsAbsent there ops key i) × ((reply ≡ No) ↔ IsPresent there ops key i)
GoesByPresence there ops i (Delete key) reply =
    ((reply ≡ Yes) ↔ IsPresent there ops key i) × ((reply ≡ No) ↔ IsAbsent there ops key i)
GoesByPresence there ops i (Swap key was value) reply = TellsValue there ops key i reply

-- before each position, and at the end, there are the keys that are present, with their values
abbrev pub FoldHasPresentKeys : Type 0
FoldHasPresentKeys = (there : Contents) (ops : List Op) (key i : ℕ)
    → ((value : ℕ) → (final there (take i ops) key ≡ Some value) ↔ HasValue there ops key i value)
    × ((final there (take i ops) key ≡ None) ↔ IsAbsent there ops key i)

-- each operation's reply goes by its key before it
abbrev pub RepliesGoByPresence : Type 0
RepliesGoByPresence = (there : Contents) (ops : List Op) (i : ℕ) (op : Op) → slice_get ops i ≡ Some op
    → (reply : Reply) × (slice_get (replies there ops) i ≡ Some reply) × GoesByPresence there ops i op reply
