use Rattle.std.specs.Prelude.{ℕ, ◌+◌, ◌*◌, ◌/◌, nat_lt, max, min, Bool, true, false, not, List, take, count_by, sum_by, if◌then◌else◌}
use Rattle.std.specs.List.{enumerate_from}
use Rattle.ell_ops.specs.declared.op.Op.{Op}
use Rattle.ell_ops.specs.declared.op.Op.TheVariants.{Find, Insert, Delete, Swap}
use Rattle.ell_ops.specs.Contents.{Contents, contents_of, keys_in}
use Rattle.ell_ops.specs.Meaning.{final, key_of}
use Rattle.ell_order.specs.Orders.{is_reordered, ops_in}
use Rattle.ell_order.specs.Rounds.{AreInRounds}
use Rattle.ell_parts.specs.PartedOps.{PartedOps, keys_of_part}
use Rattle.ell_word.specs.Node.{most_cards}

-- whether an operation may take a card: an insert, a delete or a swap, one at each try at most
abbrev pub is_change : Op → Bool
is_change (Find key) = false
is_change (Insert key value) = true
is_change (Delete key) = true
is_change (Swap key was value) = true

-- the tries of an operation in which it may take a card: where one worker alone is busy, nothing is in the way of its
-- first
abbrev pub tries_needed : ℕ → ℕ → ℕ
tries_needed busy tries = if nat_lt busy 2 then 1 else tries

-- the most cards that operations can take
abbrev pub most_taken : List Op → ℕ → ℕ → ℕ
most_taken ops busy tries = count_by is_change ops * tries_needed busy tries

-- whether an operation may change the map, by whether its key is there
abbrev pub may_change : Op → Bool → Bool
may_change (Find key) there = false
may_change (Insert key value) there = not there
may_change (Delete key) there = there
may_change (Swap key was value) there = there

-- whether the key is there after an operation on it
abbrev pub there_after : Op → Bool → Bool
there_after (Find key) there = there
there_after (Insert key value) there = true
there_after (Delete key) there = false
there_after (Swap key was value) there = there

-- whether an operation may change the map that others leave
abbrev pub may_change_behind : Contents → List (ℕ × Op) → Op → Bool
may_change_behind start items op = may_change op (keys_in (final start (ops_in items)) (key_of op))

-- how many operations of a part may change the map, each behind those before it
abbrev pub changes_in : Contents → List (ℕ × Op) → ℕ
changes_in start part =
    count_by (λ place. may_change_behind start (take place.0 part) place.1.1) (enumerate_from 0 part)

-- how many keys a part has: one for each operation on a key that none before it is on
abbrev pub key_count : List (ℕ × Op) → ℕ
key_count part =
    count_by (λ place. not (keys_of_part (take place.0 part) (key_of place.1.1))) (enumerate_from 0 part)

-- both numbers of a part
abbrev pub counts_in : Contents → List (ℕ × Op) → ℕ × ℕ
counts_in start part = (changes_in start part, key_count part)

-- how many operations may change the map: of a list that is not reordered, all but its finds
abbrev pub most_changes : List (ℕ × ℕ) → List Op → PartedOps → ℕ
most_changes start ops parting =
    if is_reordered ops then sum_by (changes_in (contents_of start)) parting.parts else count_by is_change ops

-- how many keys a list is known to have: one that is not reordered, none
abbrev pub known_keys : List Op → PartedOps → ℕ
known_keys ops parting = if is_reordered ops then sum_by key_count parting.parts else 0

-- the cards for tries that are lost: one for every 8 changes, or, on k keys, for every k / 256 if that is more
abbrev pub lost : ℕ → ℕ → ℕ
lost changes keys = changes / max 8 (keys / 256)

-- the cards of a run for which no number of them is given: one for each operation that may change the map, those for
-- tries that are lost, and 64, as far as there may be so many
abbrev pub cards_by_default : List (ℕ × ℕ) → List Op → PartedOps → ℕ
cards_by_default start ops parting =
    let changes = most_changes start ops parting in
    min most_cards (changes + lost changes (known_keys ops parting) + 64)

-- a part is in rounds, whichever keys are left
abbrev pub HasRounds : List (ℕ × Op) → Type 0
HasRounds part = (left : List ℕ) × AreInRounds left (λ item. key_of item.1) part
