use Rattle.std.specs.Prelude.{◌≡◌, ◌≤◌, true, ℕ, [], List, length, map, max, min, None, Some}
use Rattle.std.specs.Arc.{arc_value}
use Rattle.std.specs.List.{All}
use Rattle.std.specs.List.Sorted.{IsStrictlyIncreasing}
use Rattle.std.specs.Map.{keys_of}
use Rattle.ell_ops.specs.Meaning.{greatest_key}
use Rattle.ell_core.specs.state.Opening.{last_card}
use Rattle.ell_runs.specs.Depths.{deepest}
use Rattle.ell_tree.specs.Node.{greatest_number, most_start}
use Rattle.ell_cards.specs.Models.{IsCardCount}
use Rattle.ell_runs.specs.Views.{MayPart}
use Rattle.ell_runs.specs.Sights.{given_sight, no_sight}
use Rattle.ell_runs.specs.Starts.{most_announcements}
use Rattle.ell_tree.specs.Ledgers.{TreeModel}
use Rattle.ell_tree.specs.PassParts.{IsFirst, IsLeftPart, IsRightPart}
use Rattle.ell_tree.specs.declared.scanning.Pair.{Pair}
use Rattle.elltree.specs.declared.handle.Handle.{Handle}
use Rattle.elltree.specs.declared.refusal.Refusal.{Refusal}
use Rattle.elltree.specs.declared.refusal.Refusal.TheVariants.{BadCards, BadKey, BadStart, NoMemory, TooManyHandles}

-- a handle's tree
abbrev pub tree_of : Handle → TreeModel
tree_of h = arc_value h.tree

-- the number of the last card of a handle's tree
abbrev pub last_card_of : Handle → ℕ
last_card_of h = (arc_value h.tree).plan.last_card

-- the most internal nodes above an internal node of a handle's tree
abbrev pub deepest_of : Handle → ℕ
deepest_of h = deepest (arc_value h.tree).plan

-- pairs of a host as the tree has them
abbrev pub as_pairs : List Pair → List (ℕ × ℕ)
as_pairs pairs = map (λ pair. (pair.key, pair.value)) pairs

-- a handle has seen nothing of the history of its tree
abbrev pub HasSeenNothing : Handle → Type 0
HasSeenNothing h = h.pass.sight ≡ no_sight

-- a handle is the first of a new flat tree in which every key is shared, with these start keys, and so many cards
-- besides; it has the whole share of the tree
pub record IsOpened (start : List (ℕ × ℕ)) (cards : ℕ) (h : Handle) : Type 0 where
  pub plan : (tree_of h).plan
      ≡ record { keys = []; start = start; last_card = last_card start cards; shared = true; flat = true; slots = None }
  pub first : IsFirst (tree_of h) h.pass
  pub sees : HasSeenNothing h

-- the number of handles that a tree is opened for where so many are asked for: the nearest that there may be
abbrev pub handles_for : ℕ → ℕ
handles_for asked = max 1 (min asked most_announcements)

-- a handle is the first of such a tree whose cards come back: it has slots for the start keys, for so many cards
-- besides and for one more, announcements for so many handles, and a card for each number that there is
pub record IsOpenedReusing (start : List (ℕ × ℕ)) (cards handles : ℕ) (h : Handle) : Type 0 where
  pub plan : (tree_of h).plan ≡ record {
    keys = [];
    start = start;
    last_card = greatest_number;
    shared = true;
    flat = true;
    slots = Some (record { last = last_card start cards; announcements = handles });
  }
  pub first : IsFirst (tree_of h) h.pass
  pub sees : HasSeenNothing h

-- a tree may begin with these start keys
pub record IsStart (start : List (ℕ × ℕ)) : Type 0 where
  pub ascending : IsStrictlyIncreasing (keys_of start)
  pub few : length start ≤ most_start

-- start keys are keys
abbrev pub AreKeys : List (ℕ × ℕ) → Type 0
AreKeys start = All (λ e. e.0 ≤ greatest_key) start

-- a tree may be opened with these start keys and so many cards
pub record MayOpen (start : List (ℕ × ℕ)) (cards : ℕ) : Type 0 where
  pub begins : IsStart start
  pub keys : AreKeys start
  pub count : IsCardCount cards

-- when a tree is refused, and why
abbrev pub RefusesTree : List (ℕ × ℕ) → ℕ → Refusal → Type 0
RefusesTree start cards BadStart = ¬ IsStart start
RefusesTree start cards BadKey = IsStart start × (¬ AreKeys start)
RefusesTree start cards BadCards = IsStart start × (AreKeys start × (¬ IsCardCount cards))
RefusesTree start cards NoMemory = MayOpen start cards
RefusesTree start cards _ = ⊥

-- there is another handle of a handle's tree: the handle goes on as it was but for its share, of which the other has a
-- piece; the other one has seen of the tree's history what the handle has, and has no calls
pub record HasAnother (whole kept other : Handle) : Type 0 where
  pub goes_on : IsLeftPart [] whole.pass kept.pass
  pub piece : IsRightPart [] whole.pass other.pass
  pub sees : (kept.pass.sight ≡ whole.pass.sight) × (other.pass.sight ≡ given_sight whole.pass.sight)
  pub tree : kept.tree ≡ whole.tree
  pub same : arc_value other.tree ≡ arc_value whole.tree

-- each card of a handle's tree has words of its own, so that no card comes back
abbrev pub IsPlain : Handle → Type 0
IsPlain h = (tree_of h).plan.slots ≡ None

-- a handle has the least share of its tree, and so makes no more handles
abbrev pub IsLeast : Handle → Type 0
IsLeast h = ¬ MayPart h.pass.view

-- a handle makes no other one: its share is the least one; or, where cards come back, its tree may have no place for
-- one more
abbrev pub MakesNone : Handle → Type 0
MakesNone h = IsPlain h → IsLeast h

-- when there is no other handle of a handle's tree, and why
abbrev pub AnotherRefuses : Handle → Refusal → Type 0
AnotherRefuses h TooManyHandles = MakesNone h
AnotherRefuses h NoMemory = ¬ IsLeast h
AnotherRefuses h _ = ⊥
