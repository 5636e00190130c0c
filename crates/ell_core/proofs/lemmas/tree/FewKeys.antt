use Rattle.std.proofs.Common.{◌≡◌, ◌≢◌, ℕ, zero, suc, ◌+◌, ◌-◌, ◌%◌, ◌≤◌, ◌==◌, if◌then◌else◌, ⊎_elim, true, false, List, [], ◌∷◌, ◌++◌, Contains, AllPairs, length, length-append, arith, refl, ap, sym, subst, ◌∙◌}
use Rattle.std.proofs.lemmas.Bool.{cond-true, cond-false, eq-eqb, ne_eqb}
use Rattle.std.proofs.lemmas.Bool.Decides.{Decides-eqb}
use Rattle.std.proofs.lemmas.List.Kept.{AllPairs-from_increasing}
use Rattle.std.proofs.lemmas.Map.Entries.{length-keys_of}
use Rattle.std.proofs.lemmas.Map.Made.{IsDistinct-from_AllPairs, length-le_from_is_member}
use Rattle.std.proofs.lemmas.Map.Views.{list_any-from_Contains}
use Rattle.std.specs.Cmp.{nat_eq_equiv}
use Rattle.std.specs.Map.{keys_of}
use Rattle.ell_word.specs.Node.{IsInternal, internal, card}
use Rattle.ell_layout.specs.Words.{Words, IsLeaf}
use Rattle.ell_core.specs.tree.Tree.{IsLawful, ListsKeys}
use Rattle.ell_core.specs.tree.Room.{HasRoom, HoldsKeys}
use Rattle.ell_core.proofs.lemmas.tree.Pairs.{Contains-none, Contains-first, Contains-later, Contains-cons_cases, Contains-from_list_any, AllPairs-none, AllPairs-cons, length-le_from_apart}
use Rattle.ell_core.proofs.lemmas.tree.Paths.{internal_or_leaf, Below-refl}
use Rattle.ell_core.proofs.lemmas.tree.Nodes.{nodes_below, nodes_below-none, nodes_below-leaf, nodes_below-inner, nodes_below-only, nodes_below-apart, fuel_for, ranks_inside}
use Rattle.ell_core.proofs.lemmas.tree.RealPairs.{inner, real, infinite, kind_of, real_pairs, real_pairs-none, real_pairs-inner, real_pairs-real, real_pairs-infinite, real_pairs-append, ListsTreePairs-all, ListsKeys-of_pairs}

-- the cards of the internal nodes among nodes
unfoldable pub inner_cards : List ℕ → List ℕ
inner_cards [] = []
inner_cards (x ∷ xs) = if x % 4 == 0 then card x ∷ inner_cards xs else inner_cards xs

-- no node has no card
pub inner_cards-none : inner_cards [] ≡ []
unfolding inner_cards
inner_cards-none = refl

-- an internal node adds its card
pub inner_cards-inner : (x : ℕ) (xs : List ℕ) → IsInternal x → inner_cards (x ∷ xs) ≡ card x ∷ inner_cards xs
unfolding inner_cards
inner_cards-inner x xs h = cond-true (x % 4 == 0) (card x ∷ inner_cards xs) (inner_cards xs) (eq-eqb (x % 4) 0 h)

-- a leaf adds none
pub inner_cards-leaf : (x : ℕ) (xs : List ℕ) → IsLeaf x → inner_cards (x ∷ xs) ≡ inner_cards xs
unfolding inner_cards
inner_cards-leaf x xs h = cond-false (x % 4 == 0) (card x ∷ inner_cards xs) (inner_cards xs) (ne_eqb (x % 4) 0 h)

-- the internal node of each of the cards is among the nodes
inner_cards-only : (xs : List ℕ) (c : ℕ) → Contains (inner_cards xs) c → Contains xs (internal c)
inner_cards-only [] c h = absurd (Contains-none c (subst (λ cs. Contains cs c) inner_cards-none h))
inner_cards-only (x ∷ xs) c h = ⊎_elim
    (λ e. ⊎_elim
    (λ here. let same : x ≡ internal c = omega arith in subst (Contains (x ∷ xs)) same (Contains-first x xs))
    (λ later. Contains-later x xs (internal c) (inner_cards-only xs c later))
    (Contains-cons_cases (card x) (inner_cards xs) c (subst (λ cs. Contains cs c) (inner_cards-inner x xs e) h)))
    (λ outer. Contains-later x xs (internal c) (inner_cards-only xs c (subst (λ cs. Contains cs c) (inner_cards-leaf x xs outer) h)))
    (internal_or_leaf x)

-- there are as many cards of joined nodes as of both together
pub inner_cards-length : (xs ys : List ℕ) → length (inner_cards (xs ++ ys)) ≡ length (inner_cards xs) + length (inner_cards ys)
inner_cards-length [] ys = let none = ap length inner_cards-none in omega arith
inner_cards-length (x ∷ xs) ys =
    let rest = inner_cards-length xs ys in
    ⊎_elim
    (λ e. let one = ap length (inner_cards-inner x (xs ++ ys) e) in let other = ap length (inner_cards-inner x xs e) in omega arith)
    (λ outer. let one = ap length (inner_cards-leaf x (xs ++ ys) outer) in let other = ap length (inner_cards-leaf x xs outer) in omega arith)
    (internal_or_leaf x)

-- the first of numbers of which no two are equal is not among the others
pub first_apart : (x : ℕ) (xs : List ℕ) (y : ℕ) → AllPairs (λ a b. a ≢ b) (x ∷ xs) → Contains xs y → x ≢ y
first_apart x xs y apart h e = apart 0 (suc h.0) y (omega arith) (omega (arith, h.1)) (e ∙ sym h.2)

-- nodes of which no two are equal have cards of which no two are
inner_cards-apart : (xs : List ℕ) → AllPairs (λ a b. a ≢ b) xs → AllPairs (λ a b. a ≢ b) (inner_cards xs)
inner_cards-apart [] apart = subst (AllPairs (λ a b. a ≢ b)) (sym inner_cards-none) (AllPairs-none (λ a b. a ≢ b))
inner_cards-apart (x ∷ xs) apart =
    let rest = inner_cards-apart xs (λ i j d before below. apart (suc i) (suc j) d (omega arith) (omega arith)) in
    ⊎_elim
    (λ e. subst (AllPairs (λ a b. a ≢ b)) (sym (inner_cards-inner x xs e))
    (AllPairs-cons (λ a b. a ≢ b) (card x) (inner_cards xs)
    (λ c h same. first_apart x xs (internal c) apart (inner_cards-only xs c h) (omega arith)) rest))
    (λ outer. subst (AllPairs (λ a b. a ≢ b)) (sym (inner_cards-leaf x xs outer)) rest)
    (internal_or_leaf x)

-- below a node there is at most one real key more than there are internal nodes
few_keys : (w : Words) (fuel x : ℕ) → length (real_pairs w (nodes_below w fuel x)) ≤ length (inner_cards (nodes_below w fuel x)) + 1
few_keys w zero x =
    let none = ap (λ nodes. length (real_pairs w nodes)) (nodes_below-none w x) in
    let no_pair = ap length (real_pairs-none w) in
    omega arith
few_keys w (suc fuel) x = elim (kind_of w x) [
  | inner e ↦
      let lefts = nodes_below w fuel (w.child x false) in
      let rights = nodes_below w fuel (w.child x true) in
      let on_left = few_keys w fuel (w.child x false) in
      let on_right = few_keys w fuel (w.child x true) in
      let pairs = ap (λ nodes. length (real_pairs w nodes)) (nodes_below-inner w fuel x e) in
      let cards = ap (λ nodes. length (inner_cards nodes)) (nodes_below-inner w fuel x e) in
      let same_pairs = ap length (real_pairs-inner w x (lefts ++ rights) e ∙ real_pairs-append w lefts rights) in
      let both = length-append (real_pairs w lefts) (real_pairs w rights) in
      let one_card = ap length (inner_cards-inner x (lefts ++ rights) e) in
      let both_cards = inner_cards-length lefts rights in
      omega arith
  | real outer low ↦
      let pairs = ap (λ nodes. length (real_pairs w nodes)) (nodes_below-leaf w fuel x outer) in
      let one = ap length (real_pairs-real w x [] outer low) in
      let none = ap length (real_pairs-none w) in
      omega arith
  | infinite outer above ↦
      let pairs = ap (λ nodes. length (real_pairs w nodes)) (nodes_below-leaf w fuel x outer) in
      let same = ap length (real_pairs-infinite w x [] outer above) in
      let none = ap length (real_pairs-none w) in
      omega arith
]

-- a list of the keys of a tree is no longer than another one
pub no_longer : (w : Words) (keys others : List ℕ) → ListsKeys w keys → ListsKeys w others → length keys ≤ length others
no_longer w keys others first second =
    length-le_from_is_member nat_eq_equiv keys others
    (IsDistinct-from_AllPairs Decides-eqb keys
    (λ i j d before below same. let less = AllPairs-from_increasing keys first.ascending i j d before below in omega arith))
    (λ key h. list_any-from_Contains nat_eq_equiv key others
    ((second.each key).1 ((first.each key).0 (Contains-from_list_any keys key h))))

-- as many places as are enough for the nodes that wait are enough for the keys
pub HoldsKeys-from_room : (w : Words) (places : ℕ) → IsLawful w → HasRoom w places → HoldsKeys w places
HoldsKeys-from_room w places lawful room keys listed =
    let inside = ranks_inside w places room in
    let fuel = fuel_for w places in
    let nodes = nodes_below w fuel 0 in
    let pairs = real_pairs w nodes in
    let all = no_longer w keys (keys_of pairs) listed (ListsKeys-of_pairs w pairs (ListsTreePairs-all w fuel lawful inside)) in
    let same = length-keys_of pairs in
    let few = few_keys w fuel 0 in
    let cards : length (inner_cards nodes) ≤ places - 1 =
    length-le_from_apart (inner_cards nodes) (places - 1)
    (inner_cards-apart nodes (nodes_below-apart w fuel lawful inside fuel 0 (Below-refl w 0)))
    (λ c h. let most = room (internal c) (nodes_below-only w fuel 0 (internal c) (inner_cards-only nodes c h)) in omega arith) in
    let some = room 0 (Below-refl w 0) in
    omega arith
