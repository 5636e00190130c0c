use Rattle.std.proofs.Common.{◌≡◌, ◌≢◌, ℕ, zero, suc, ◌<◌, ◌≤◌, ◌==◌, cond, eqb-true, Bool, true, false, Some, None, List, [], ◌∷◌, Contains, length, get_or, refl, sym, ◌∙◌, ap, ap₂, subst, arith, ◌*◌, inl, if◌then◌else◌, ◌⊎◌, ◌+◌, inr, ◌%◌, ◌/◌}
use Rattle.std.specs.List.{All}
use Rattle.std.specs.List.Sorted.{IsStrictlyIncreasing}
use Rattle.std.specs.Cmp.{nat_eq_equiv}
use Rattle.std.proofs.lemmas.Bool.Decides.{Decides-eqb}
use Rattle.std.proofs.lemmas.List.Elements.{All-nil, All-cons, All-contains}
use Rattle.std.proofs.lemmas.List.Kept.{AllPairs-from_increasing}
use Rattle.std.proofs.lemmas.Map.Made.{IsDistinct-from_AllPairs, length-le_from_is_member}
use Rattle.std.proofs.lemmas.Map.Views.{list_any-from_Contains}
use Rattle.ell_layout.specs.Words.{words_of, IsLeaf}
use Rattle.ell_core.specs.tree.Tree.{IsTreeKey, ListsTreePairs}
use Rattle.ell_core.specs.tree.Room.{HoldsKeys}
use Rattle.ell_core.proofs.lemmas.tree.Pairs.{Contains-from_list_any}
use Rattle.ell_cards.specs.Models.{PassModel}
use Rattle.ell_runs.specs.Changing.{HasMap}
use Rattle.ell_runs.proofs.lemmas.runs.LinearizingStates.{one_map}
use Rattle.ell_runs.specs.Changes.{ledger_keys}
use Rattle.std.specs.Map.{keys_of as pair_keys, values_of}
use Rattle.ell_ops.specs.Contents.{contents_of}
use Rattle.ell_ops.specs.KeySet.{set_of}
use Rattle.ell_ops.proofs.lemmas.Pairs.{contents_at}
use Rattle.ell_core.specs.declared.view.Entry.TheVariants.{Present}
use Rattle.ell_core.proofs.lemmas.tree.Pairs.{Contains-first, Contains-later}
use Rattle.ell_cards.specs.Closed.{ClosedModel, EndsHistory, HistoryEnds, TableEnds}
use Rattle.ell_runs.proofs.lemmas.words.Keys.{owned_among}
use Rattle.ell_tree.specs.Ledgers.{TreeModel, ledger, present_in}
use Rattle.ell_tree.specs.Closing.{ClosesTo}
use Rattle.ell_tree.proofs.lemmas.PassParts.{there_same}
use Rattle.std.proofs.lemmas.Bool.{cases_eq, false≢true}
use Rattle.ell_word.specs.Node.{card, IsNode}
use Rattle.ell_runs.specs.Starts.{IsSharedIn}

-- ascending keys that are all among others are no more than those
no_longer : (keys others : List ℕ) → IsStrictlyIncreasing keys → ((k : ℕ) → Contains keys k → Contains others k) → length keys ≤ length others
no_longer keys others ascending among =
    length-le_from_is_member nat_eq_equiv keys others
    (IsDistinct-from_AllPairs Decides-eqb keys
    (λ i j d before below same. let less = AllPairs-from_increasing keys ascending i j d before below in omega arith))
    (λ k h. list_any-from_Contains nat_eq_equiv k others (among k (Contains-from_list_any keys k h)))

-- the key and the value at a place of some pairs
pair_at : (pairs : List (ℕ × ℕ)) (i : ℕ) (d : ℕ × ℕ) → i < length pairs
    → (get_or (pair_keys pairs) i 0 ≡ (get_or pairs i d).0) × (get_or (values_of pairs) i 0 ≡ (get_or pairs i d).1)
pair_at [] i d low = absurd (omega arith)
pair_at (e ∷ pairs) zero d low = (refl, refl)
pair_at (e ∷ pairs) (suc i) d low = pair_at pairs i d (omega arith)

-- a pair of ascending ones is its key's contents, and what a key contains is a pair
listed : (pairs : List (ℕ × ℕ)) (k v : ℕ) → IsStrictlyIncreasing (pair_keys pairs) → Contains pairs (k, v) → contents_of pairs k ≡ Some v
listed pairs k v ascending has =
    let at = pair_at pairs has.0 (k, v) has.1 in
    let key = at.0 ∙ ap (λ (e : ℕ × ℕ). e.0) has.2 in
    ap (contents_of pairs) (sym key) ∙ contents_at pairs has.0 ascending has.1 ∙ ap Some (at.1 ∙ ap (λ (e : ℕ × ℕ). e.1) has.2)

contained : (pairs : List (ℕ × ℕ)) (k v : ℕ) → contents_of pairs k ≡ Some v → Contains pairs (k, v)
contained [] k v is = absurd cc
contained (e ∷ es) k v is = by (k == e.0) refl is (contained es k v)
  where
    by : (t : Bool) → (k == e.0) ≡ t → cond t (Some e.1) (contents_of es k) ≡ Some v
        → (contents_of es k ≡ Some v → Contains es (k, v)) → Contains (e ∷ es) (k, v)
    by true same value rest =
        let val : e.1 ≡ v = cc in
        subst (Contains (e ∷ es)) (ap₂ (λ a b. (a, b)) (sym (eqb-true k e.0 same)) val) (Contains-first e es)
    by false other value rest = Contains-later e es (k, v) (rest value)

-- what is so of the key of each pair is so of all the keys
all_keys : (P : ℕ → Type 0) (pairs : List (ℕ × ℕ)) → ((k v : ℕ) → Contains pairs (k, v) → P k) → All P (pair_keys pairs)
all_keys P [] each = All-nil P
all_keys P (e ∷ es) each = All-cons P e.0 (pair_keys es) (each e.0 e.1 (Contains-first e es)) (all_keys P es (λ k v h. each k v (Contains-later e es (k, v) h)))

-- the keys of the leaves of the cards up to one
leaf_keys : (ℕ → ℕ) → ℕ → List ℕ
leaf_keys key zero = key 1 ∷ key 2 ∷ []
leaf_keys key (suc n) = key (4 * suc n + 1) ∷ key (4 * suc n + 2) ∷ leaf_keys key n

leaf_keys_length : (key : ℕ → ℕ) (n : ℕ) → length (leaf_keys key n) ≡ 2 * n + 2
unfolding leaf_keys
leaf_keys_length key zero = refl
leaf_keys_length key (suc n) = let h = leaf_keys_length key n in omega arith

-- each leaf of such a card has its key among them
has_leaf : (key : ℕ → ℕ) (n c : ℕ) → c ≤ n → Contains (leaf_keys key n) (key (4 * c + 1)) × Contains (leaf_keys key n) (key (4 * c + 2))
unfolding leaf_keys
has_leaf key zero c low = let same : c ≡ 0 = omega arith in
    subst (λ x. Contains (leaf_keys key zero) (key (4 * x + 1)) × Contains (leaf_keys key zero) (key (4 * x + 2))) (sym same)
    (Contains-first (key 1) (key 2 ∷ []), Contains-later (key 1) (key 2 ∷ []) (key 2) (Contains-first (key 2) []))
has_leaf key (suc n) c low =
    let first = key (4 * suc n + 1) in
    let second = key (4 * suc n + 2) in
    let less = leaf_keys key n in
    elim (cases_eq c (suc n)) [
      | inl same ↦ subst (λ x. Contains (leaf_keys key (suc n)) (key (4 * x + 1)) × Contains (leaf_keys key (suc n)) (key (4 * x + 2))) (sym same)
          (Contains-first first (second ∷ less), Contains-later first (second ∷ less) second (Contains-first second less))
      | inr apart ↦ let h = has_leaf key n c (omega arith) in (
        Contains-later first (second ∷ less) (key (4 * c + 1)) (Contains-later second less (key (4 * c + 1)) h.0),
        Contains-later first (second ∷ less) (key (4 * c + 2)) (Contains-later second less (key (4 * c + 2)) h.1),
      )
    ]

-- so has each leaf of a card up to that one
at_leaf : (key : ℕ → ℕ) (n x : ℕ) → card x ≤ n → IsNode x → IsLeaf x → Contains (leaf_keys key n) (key x)
at_leaf key n x low node outer = elim (cases_eq (x % 4) 1) [
  | inl one ↦ subst (λ y. Contains (leaf_keys key n) (key y)) (omega arith) (has_leaf key n (x / 4) low).0
  | inr other ↦ subst (λ y. Contains (leaf_keys key n) (key y)) (omega (arith, node, outer)) (has_leaf key n (x / 4) low).1
]

-- room for the pairs, as it was asked for
pub room_for : (b : Bool) (last closed owned keys most room : ℕ) → most ≡ (if b then 2 * last + 2 else owned) → closed ≡ last → owned ≡ keys → most ≤ room
    → (if b then 2 * closed + 2 else keys) ≤ room
room_for true last closed owned keys most room is same count enough = omega arith
room_for false last closed owned keys most room is same count enough = omega arith

module _ (t : TreeModel) (p : PassModel) (closed : ClosedModel) (ends : TableEnds t.plan p.view closed) (all : All (λ k. ledger p k ≢ None) t.plan.keys) where
  -- a key of the tree, where none is shared, is of the plan
  tree_key : t.plan.shared ≡ false → (k : ℕ) → IsTreeKey (words_of closed.words) k → Contains t.plan.keys k
  tree_key none k there = elim (ends.shows.owned k there) [
    | inl own ↦ own
    | inr shared ↦ absurd (false≢true (sym none ∙ shared.mode))
  ]

  -- as many places as the pass has keys are enough for those of the tree, where none is shared, and two of each card always
  pub holds_keys : (places : ℕ) → (if t.plan.shared then 2 * closed.last_card + 2 else length (ledger_keys p.view.worker.ledger)) ≤ places
      → HoldsKeys (words_of closed.words) places
  holds_keys places room keys lists = by t.plan.shared refl room
    where
      by : (b : Bool) → t.plan.shared ≡ b → (if b then 2 * closed.last_card + 2 else length (ledger_keys p.view.worker.ledger)) ≤ places → length keys ≤ places
      by true mode room =
          let w = words_of closed.words in
          let size = leaf_keys_length w.key closed.last_card in
          let few = no_longer keys (leaf_keys w.key closed.last_card) lists.ascending
          (λ k has. let there = ((lists.each k).0 has).1 in
          subst (Contains (leaf_keys w.key closed.last_card)) there.has (at_leaf w.key closed.last_card there.leaf (ends.shows.nodes there.leaf there.reached) (ends.shows.numbers there.leaf there.reached) there.outer)) in
          omega arith
      by false mode room =
          let few = no_longer keys (ledger_keys p.view.worker.ledger) lists.ascending
          (λ k has. Contains-from_list_any (ledger_keys p.view.worker.ledger) k
          (owned_among p.view.worker.ledger k (All-contains (λ x. ledger p x ≢ None) t.plan.keys k all (tree_key mode k ((lists.each k).0 has))))) in
          omega arith

  -- a key that the pass owns is one of the plan's
  planned : (k : ℕ) → ledger p k ≢ None → Contains t.plan.keys k
  planned k owns = ends.shows.listed k owns

  module _ (pairs : List (ℕ × ℕ)) (lists : ListsTreePairs (words_of closed.words) pairs) where
    -- a key of the plan that a list of the tree's pairs has is present with that value, and a present key is in the list
    listed_present : (k v : ℕ) → Contains t.plan.keys k → contents_of pairs k ≡ Some v → ledger p k ≡ Some (Present v)
    listed_present k v own is = (ends.shows.present k v own).0 ((lists.each k v).0 (contained pairs k v is))

    present_listed : (k v : ℕ) → ledger p k ≡ Some (Present v) → contents_of pairs k ≡ Some v
    present_listed k v here =
        listed pairs k v lists.ascending ((lists.each k v).1 ((ends.shows.present k v (planned k (λ none. cc (here, none)))).1 here))

    of_plan : (k : ℕ) → Contains t.plan.keys k → contents_of pairs k ≡ present_in p k
    of_plan k own = sym (there_same (ledger p k) (contents_of pairs k) (λ v. (present_listed k v, listed_present k v own)))

    all_present : t.plan.shared ≡ false → (k : ℕ) → contents_of pairs k ≡ present_in p k
    all_present none k = sym (there_same (ledger p k) (contents_of pairs k)
        (λ v. (present_listed k v, λ is. listed_present k v (tree_key none k (v, (lists.each k v).0 (contained pairs k v is))) is)))

    -- the list is the map that the tree is
    is_list : HasMap (words_of closed.words) (contents_of pairs)
    is_list k v = (λ there. listed pairs k v lists.ascending ((lists.each k v).1 there), λ is. (lists.each k v).0 (contained pairs k v is))

    -- the map that the history leaves is the list
    pub of_history : HistoryEnds t.plan p closed → EndsHistory t.plan p (contents_of pairs)
    of_history h = subst (EndsHistory t.plan p) (one_map (words_of closed.words) h.left (contents_of pairs) h.is is_list) h.ends

    pub closes : closed.last_card ≡ t.plan.last_card → ClosesTo t p pairs
    closes cards = record {
      ascending = lists.ascending;
      present = λ k among. of_plan k (Contains-from_list_any t.plan.keys k among);
      among = all_keys (λ k. (set_of t.plan.keys k ≡ true) ⊎ IsSharedIn t.plan k) pairs (λ k v h.
          elim (ends.shows.owned k (v, (lists.each k v).0 h)) [
            | inl own ↦ inl (list_any-from_Contains nat_eq_equiv k t.plan.keys own)
            | inr shared ↦ inr shared
          ]);
      all = λ none. record { ascending = lists.ascending; each = λ i k. all_present none k i };
      closed = closed;
      cards = cards;
      ran = ends.ran;
      tree = lists;
    }
