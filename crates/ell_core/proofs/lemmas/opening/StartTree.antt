use Rattle.std.proofs.Common.{◌≡◌, ℕ, zero, suc, ◌+◌, ◌<◌, ◌≤◌, ◌⊎◌, inl, inr, Bool, true, false, if◌then◌else◌, nat_le, refl, sym, ap, ◌∙◌, subst, arith}
use Rattle.std.proofs.lemmas.Bool.{cases_lt, cases_eq, eq-eqb, ne_eqb, le-leb, lt-leb}
use Rattle.ell_word.specs.Node.{IsInternal, IsNode, card, internal, left_leaf, right_leaf}
use Rattle.ell_layout.specs.declared.branch.Branch.{Branch}
use Rattle.ell_layout.specs.Branches.{left_branch, right_branch, descend, branch_of, depth_of, left_child, right_child}
use Rattle.ell_trie.specs.Ranges.{low_of, high_of, Spans, root, goes, FindsLeaf, at_leaf, below, IsOrdered, IsSpanned}
use Rattle.ell_layout.proofs.lemmas.Branches.{branch_card, branch_holds, branch_left, branch_right, branch_within, cards_within, above}
use Rattle.ell_layout.proofs.lemmas.Depths.{depths_rise}

-- a card has the node of a branch: its key is that of the first leaf on its right; and of each leaf holds what is to
pub record HasBranch (leaf key : ℕ → ℕ) (child : ℕ → Bool → ℕ) (holds : ℕ → ℕ → Type 0) (c : ℕ) (b : Branch) : Type 0 where
  pub node_key : key (internal c) ≡ leaf (b.first + b.left)
  pub left : child (internal c) false ≡ left_child b
  pub right : child (internal c) true ≡ right_child b
  pub left_key : b.left ≡ 1 → key (left_leaf c) ≡ leaf b.first
  pub right_key : b.right ≡ 1 → key (right_leaf c) ≡ leaf (b.first + b.left)
  pub left_holds : b.left ≡ 1 → holds b.first (left_leaf c)
  pub right_holds : b.right ≡ 1 → holds (b.first + b.left) (right_leaf c)

module _ (leaves : ℕ) (some : 0 < leaves) (leaf key : ℕ → ℕ) (child : ℕ → Bool → ℕ) (holds : ℕ → ℕ → Type 0) (top : ℕ)
    (rising : (i j : ℕ) → i < j → j ≤ leaves → leaf i < leaf j) (low_top : (i : ℕ) → i ≤ leaves → leaf i < top)
    (has : (c : ℕ) → c < leaves → HasBranch leaf key child holds c (branch_of leaves c)) where
  -- the leaves of a branch lie between two keys
  Between : Branch → ℕ → ℕ → Type 0
  Between b low high = (i : ℕ) → b.first ≤ i → i < b.first + (b.left + b.right) → (low ≤ leaf i) × (leaf i < high)

  -- an internal node of the tree, between its keys
  record Inner (x low high : ℕ) : Type 0 where
    number : ℕ
    inside : number < leaves
    is : x ≡ internal number
    between : Between (branch_of leaves number) low high

  -- a leaf of the tree, between its keys
  record Outer (x low high : ℕ) : Type 0 where
    outer : ¬ IsInternal x
    node : IsNode x
    on : card x < leaves
    at : ℕ
    inside : at ≤ leaves
    is : key x ≡ leaf at
    least : low ≤ leaf at
    most : leaf at < high

  abbrev Place : ℕ → ℕ → ℕ → Type 0
  Place x low high = Inner x low high ⊎ Outer x low high

  -- the left child of a node
  left_place : (c low high : ℕ) → c < leaves → Between (branch_of leaves c) low high
      → Place (child (internal c) false) low (key (internal c))
  unfolding Between
  left_place c low high inside between =
      let b = branch_of leaves c in
      let is : b.card ≡ c = branch_card leaves some c inside in
      let h = branch_holds leaves some c inside in
      let l = h.some_left in
      let r = h.some_right in
      let fits = branch_within leaves some c inside in
      let w = has c inside in
      elim (cases_eq b.left 1) [
        | inl one ↦
            let to : child (internal c) false ≡ left_leaf b.card = w.left ∙ ap (λ t. if t then left_leaf b.card else internal (b.card + 1)) (eq-eqb b.left 1 one) in
            let own : key (left_leaf c) ≡ leaf b.first = w.left_key one in
            let less = rising b.first (b.first + b.left) (omega arith) (omega arith) in
            let at = between b.first (omega arith) (omega arith) in
            inr (record {
              outer = λ e. omega arith;
              node = λ e. omega arith;
              on = omega arith;
              at = b.first;
              inside = omega arith;
              is = ap key (to ∙ ap left_leaf is) ∙ own;
              least = at.0;
              most = subst (λ n. leaf b.first < n) (sym w.node_key) less;
            })
        | inr more ↦
            let to : child (internal c) false ≡ internal (b.card + 1) = w.left ∙ ap (λ t. if t then left_leaf b.card else internal (b.card + 1)) (ne_eqb b.left 1 more) in
            let next : branch_of leaves (c + 1) ≡ left_branch b = branch_left leaves some c inside (omega arith) in
            inl (record {
              number = c + 1;
              inside = (let v = cards_within leaves some c inside in omega arith);
              is = to ∙ ap (λ n. internal (n + 1)) is;
              between = subst (λ n. Between n low (key (internal c))) (sym next)
                  (λ i from to. ((between i from (omega arith)).0, (let less = rising i (b.first + b.left) (omega arith) (omega arith) in let k = w.node_key in omega arith)));
            })
      ]

  -- the right child of a node
  right_place : (c low high : ℕ) → c < leaves → Between (branch_of leaves c) low high
      → Place (child (internal c) true) (key (internal c)) high
  unfolding Between
  right_place c low high inside between =
      let b = branch_of leaves c in
      let is : b.card ≡ c = branch_card leaves some c inside in
      let h = branch_holds leaves some c inside in
      let l = h.some_left in
      let r = h.some_right in
      let fits = branch_within leaves some c inside in
      let w = has c inside in
      elim (cases_eq b.right 1) [
        | inl one ↦
            let to : child (internal c) true ≡ right_leaf b.card = w.right ∙ ap (λ t. if t then right_leaf b.card else internal (b.card + b.left)) (eq-eqb b.right 1 one) in
            let own : key (right_leaf c) ≡ leaf (b.first + b.left) = w.right_key one in
            let at = between (b.first + b.left) (omega arith) (omega arith) in
            let k = w.node_key in
            inr (record {
              outer = λ e. omega arith;
              node = λ e. omega arith;
              on = omega arith;
              at = b.first + b.left;
              inside = omega arith;
              is = ap key (to ∙ ap right_leaf is) ∙ own;
              least = omega arith;
              most = at.1;
            })
        | inr more ↦
            let to : child (internal c) true ≡ internal (b.card + b.left) = w.right ∙ ap (λ t. if t then right_leaf b.card else internal (b.card + b.left)) (ne_eqb b.right 1 more) in
            let next : branch_of leaves (c + b.left) ≡ right_branch b = branch_right leaves some c inside (omega arith) in
            inl (record {
              number = c + b.left;
              inside = (let v = cards_within leaves some c inside in omega arith);
              is = to ∙ ap (λ n. internal (n + b.left)) is;
              between = subst (λ n. Between n (key (internal c)) high) (sym next) (λ i from to. (least i from (omega arith), (between i (omega arith) (omega arith)).1));
            })
      ]
    where
      least : (i : ℕ) → (branch_of leaves c).first + (branch_of leaves c).left ≤ i → i ≤ leaves → key (internal c) ≤ leaf i
      least i from to = let k = (has c inside).node_key in elim (cases_eq ((branch_of leaves c).first + (branch_of leaves c).left) i) [
        | inl e ↦ (let same = ap leaf e in omega arith)
        | inr n ↦ (let less = rising ((branch_of leaves c).first + (branch_of leaves c).left) i (omega arith) to in omega arith)
      ]

  -- the child of a node on a side
  child_place : (right : Bool) (c low high : ℕ) → c < leaves → Between (branch_of leaves c) low high
      → Place (child (internal c) right) (low_of right low (key (internal c))) (high_of right high (key (internal c)))
  child_place true c low high inside between = right_place c low high inside between
  child_place false c low high inside between = left_place c low high inside between

  -- the child of an internal node of the tree
  inner_child : (right : Bool) (x low high y a b : ℕ) → Inner x low high → y ≡ child x right → a ≡ low_of right low (key x) → b ≡ high_of right high (key x)
      → Place y a b
  inner_child right x low high y a b at e f g =
      subst (λ n. Place n a b) (sym (e ∙ ap (λ n. child n right) at.is))
      (subst (λ n. Place (child (internal at.number) right) n b) (sym (f ∙ ap (λ n. low_of right low (key n)) at.is))
      (subst (λ n. Place (child (internal at.number) right) (low_of right low (key (internal at.number))) n) (sym (g ∙ ap (λ n. high_of right high (key n)) at.is))
      (child_place right at.number low high at.inside at.between)))

  -- the root is one
  root_between : Between (branch_of leaves 0) 0 top
  unfolding Between descend
  root_between i from to = (omega arith, low_top i (omega arith))

  -- each reached node is in its place
  places : {x low high : ℕ} → Spans key child top x low high → Place x low high
  places {x = x} {low = low} {high = high} (root e f g) = inl (record {
    number = 0;
    inside = some;
    is = e;
    between = subst (λ n. Between (branch_of leaves 0) n high) (sym f) (subst (λ n. Between (branch_of leaves 0) 0 n) (sym g) root_between);
  })
  places (goes right spans inner e f g) = elim (places spans) [
    | inl at ↦ inner_child right _ _ _ _ _ _ at e f g
    | inr at ↦ absurd (at.outer inner)
  ]

  -- a node in its place has its key among its keys
  place_within : (x low high : ℕ) → Place x low high → (low ≤ key x) × (key x < high)
  unfolding Between
  place_within x low high (inl at) =
      let b = branch_of leaves at.number in
      let h = branch_holds leaves some at.number at.inside in
      let l = h.some_left in
      let r = h.some_right in
      let own : key x ≡ leaf (b.first + b.left) = ap key at.is ∙ (has at.number at.inside).node_key in
      let i = at.between (b.first + b.left) (omega arith) (omega arith) in
      (omega arith, omega arith)
  place_within x low high (inr at) = let i = at.is in let l = at.least in let m = at.most in (omega arith, omega arith)

  -- an internal one has a lesser leaf on its left
  place_proper : (x low high : ℕ) → IsInternal x → Place x low high → low < key x
  unfolding Between
  place_proper x low high inner (inl at) =
      let b = branch_of leaves at.number in
      let h = branch_holds leaves some at.number at.inside in
      let l = h.some_left in
      let r = h.some_right in
      let fits = branch_within leaves some at.number at.inside in
      let own : key x ≡ leaf (b.first + b.left) = ap key at.is ∙ (has at.number at.inside).node_key in
      let i = at.between b.first (omega arith) (omega arith) in
      let less = rising b.first (b.first + b.left) (omega arith) (omega arith) in
      omega arith
  place_proper x low high inner (inr at) = absurd (at.outer inner)

  -- children have greater numbers
  left_more : (c : ℕ) → c < leaves → internal c < child (internal c) false
  left_more c inside =
      let b = branch_of leaves c in
      let is : b.card ≡ c = branch_card leaves some c inside in
      let w = (has c inside).left in
      elim (cases_eq b.left 1) [
        | inl one ↦ (let e : left_child b ≡ left_leaf b.card = ap (λ t. if t then left_leaf b.card else internal (b.card + 1)) (eq-eqb b.left 1 one) in omega arith)
        | inr more ↦ (let e : left_child b ≡ internal (b.card + 1) = ap (λ t. if t then left_leaf b.card else internal (b.card + 1)) (ne_eqb b.left 1 more) in omega arith)
      ]

  right_more : (c : ℕ) → c < leaves → internal c < child (internal c) true
  right_more c inside =
      let b = branch_of leaves c in
      let is : b.card ≡ c = branch_card leaves some c inside in
      let some_left = (branch_holds leaves some c inside).some_left in
      let w = (has c inside).right in
      elim (cases_eq b.right 1) [
        | inl one ↦ (let e : right_child b ≡ right_leaf b.card = ap (λ t. if t then right_leaf b.card else internal (b.card + b.left)) (eq-eqb b.right 1 one) in omega arith)
        | inr more ↦ (let e : right_child b ≡ internal (b.card + b.left) = ap (λ t. if t then right_leaf b.card else internal (b.card + b.left)) (ne_eqb b.right 1 more) in omega arith)
      ]

  pub child_more : (right : Bool) (c : ℕ) → c < leaves → internal c < child (internal c) right
  child_more true c inside = right_more c inside
  child_more false c inside = left_more c inside

  -- children that are internal nodes are deeper
  left_deeper : (c : ℕ) → c < leaves → IsInternal (child (internal c) false) → depth_of leaves c < depth_of leaves (card (child (internal c) false))
  left_deeper c inside inner =
      let b = branch_of leaves c in
      let is : b.card ≡ c = branch_card leaves some c inside in
      let some_left = (branch_holds leaves some c inside).some_left in
      let w = (has c inside).left in
      elim (cases_eq b.left 1) [
        | inl one ↦ (let e : left_child b ≡ left_leaf b.card = ap (λ t. if t then left_leaf b.card else internal (b.card + 1)) (eq-eqb b.left 1 one) in absurd (omega arith))
        | inr more ↦
            let e : left_child b ≡ internal (b.card + 1) = ap (λ t. if t then left_leaf b.card else internal (b.card + 1)) (ne_eqb b.left 1 more) in
            let on : card (child (internal c) false) ≡ c + 1 = omega arith in
            let same = ap (depth_of leaves) on in
            let one_more = (depths_rise leaves c inside).left (omega arith) in
            omega arith
      ]

  right_deeper : (c : ℕ) → c < leaves → IsInternal (child (internal c) true) → depth_of leaves c < depth_of leaves (card (child (internal c) true))
  right_deeper c inside inner =
      let b = branch_of leaves c in
      let is : b.card ≡ c = branch_card leaves some c inside in
      let some_right = (branch_holds leaves some c inside).some_right in
      let w = (has c inside).right in
      elim (cases_eq b.right 1) [
        | inl one ↦ (let e : right_child b ≡ right_leaf b.card = ap (λ t. if t then right_leaf b.card else internal (b.card + b.left)) (eq-eqb b.right 1 one) in absurd (omega arith))
        | inr more ↦
            let e : right_child b ≡ internal (b.card + b.left) = ap (λ t. if t then right_leaf b.card else internal (b.card + b.left)) (ne_eqb b.right 1 more) in
            let on : card (child (internal c) true) ≡ c + b.left = omega arith in
            let same = ap (depth_of leaves) on in
            let one_more = (depths_rise leaves c inside).right (omega arith) in
            omega arith
      ]

  pub child_deeper : (right : Bool) (c : ℕ) → c < leaves → IsInternal (child (internal c) right)
      → depth_of leaves c < depth_of leaves (card (child (internal c) right))
  child_deeper true c inside inner = right_deeper c inside inner
  child_deeper false c inside inner = left_deeper c inside inner

  -- so children have greater ranks, if the ranks of the cards' nodes rise
  place_rising : (rank : ℕ → ℕ) → ((right : Bool) (c : ℕ) → c < leaves → rank (internal c) < rank (child (internal c) right))
      → (x low high : ℕ) (right : Bool) → IsInternal x → Place x low high → rank x < rank (child x right)
  place_rising rank rises x low high right inner (inl at) = subst (λ n. rank n < rank (child n right)) (sym at.is) (rises right at.number at.inside)
  place_rising rank rises x low high right inner (inr at) = absurd (at.outer inner)

  -- and the tree is in order
  pub tree_ordered : (rank : ℕ → ℕ) → ((right : Bool) (c : ℕ) → c < leaves → rank (internal c) < rank (child (internal c) right))
      → IsOrdered key child top rank
  tree_ordered rank rises = record {
    within = λ x low high spans. place_within x low high (places spans);
    proper = λ x low high spans inner. place_proper x low high inner (places spans);
    rising = λ x low high right spans inner. place_rising rank rises x low high right inner (places spans);
  }

  -- the child of an internal node that is reached is reached, on either side
  child_reached : (x : ℕ) (right : Bool) → IsInternal x → IsSpanned key child top x → IsSpanned key child top (child x right)
  child_reached x right inner at = record {
    low = low_of right at.low (key x);
    high = high_of right at.high (key x);
    spans = goes right at.spans inner refl refl refl;
  }

  left_reached : (d : ℕ) → d < leaves → 1 < (branch_of leaves d).left → child (internal d) false ≡ internal (d + 1)
  left_reached d inside more =
      let b = branch_of leaves d in
      (has d inside).left ∙ (ap (λ t. if t then left_leaf b.card else internal (b.card + 1)) (ne_eqb b.left 1 (omega arith))
      ∙ ap (λ n. internal (n + 1)) (branch_card leaves some d inside))

  right_reached : (d : ℕ) → d < leaves → 1 < (branch_of leaves d).right → child (internal d) true ≡ internal (d + (branch_of leaves d).left)
  right_reached d inside more =
      let b = branch_of leaves d in
      (has d inside).right ∙ (ap (λ t. if t then right_leaf b.card else internal (b.card + b.left)) (ne_eqb b.right 1 (omega arith))
      ∙ ap (λ n. internal (n + b.left)) (branch_card leaves some d inside))

  card_reached_by : (n c : ℕ) → c ≤ n → c < leaves → IsSpanned key child top (internal c)
  card_reached_by zero c less inside =
      let e : 0 ≡ c = omega arith in subst (λ d. IsSpanned key child top (internal d)) e (record { low = 0; high = top; spans = root refl refl refl })
  card_reached_by (suc n) c less inside = elim (cases_eq c 0) [
    | inl e ↦ subst (λ d. IsSpanned key child top (internal d)) (sym e) (record { low = 0; high = top; spans = root refl refl refl })
    | inr more ↦
        let a = above leaves some c inside (omega arith) in
        let before = a.less in
        let up = card_reached_by n a.card (omega arith) (omega arith) in
        elim a.side [
          | inl l ↦ subst (IsSpanned key child top) (left_reached a.card (omega arith) l.1 ∙ ap internal (sym l.0)) (child_reached (internal a.card) false (omega arith) up)
          | inr r ↦ subst (IsSpanned key child top) (right_reached a.card (omega arith) r.1 ∙ ap internal (sym r.0)) (child_reached (internal a.card) true (omega arith) up)
        ]
  ]

  pub card_reached : (c : ℕ) → c < leaves → IsSpanned key child top (internal c)
  card_reached c inside = card_reached_by c c (omega arith) inside

  -- the walk for a key that ends at a leaf of that key finds a key of the leaves
  pub record IsLeafKey (k : ℕ) : Type 0 where
    pub at : ℕ
    pub inside : at ≤ leaves
    pub is : leaf at ≡ k

  meets_leaf_key : {that : ℕ → Type 0} (k x low high : ℕ) → FindsLeaf key child that k x → Place x low high → IsLeafKey k
  meets_leaf_key k x low high (at_leaf outer e _) (inl at) = absurd (let is = at.is in outer (omega arith))
  meets_leaf_key k x low high (at_leaf outer e _) (inr at) = record { at = at.at; inside = at.inside; is = sym at.is ∙ e }
  meets_leaf_key k x low high (below {x = _} {y = y} inner e rest) (inr at) = absurd (at.outer inner)
  meets_leaf_key k x low high (below {x = _} {y = y} inner e rest) (inl at) =
      let right : Bool = nat_le (key x) k in
      meets_leaf_key k y (low_of right low (key x)) (high_of right high (key x)) rest
      (inner_child right x low high y (low_of right low (key x)) (high_of right high (key x)) at e refl refl)

  -- the side of a key of the leaves at a node
  goes_left : (c i : ℕ) → c < leaves → i < (branch_of leaves c).first + (branch_of leaves c).left → nat_le (key (internal c)) (leaf i) ≡ false
  goes_left c i inside less =
      let h = branch_holds leaves some c inside in
      let r = h.some_right in
      let fits = branch_within leaves some c inside in
      let own = (has c inside).node_key in
      let before = rising i ((branch_of leaves c).first + (branch_of leaves c).left) less (omega arith) in
      lt-leb (key (internal c)) (leaf i) (omega arith)

  goes_right : (c i : ℕ) → c < leaves → (branch_of leaves c).first + (branch_of leaves c).left ≤ i → i ≤ leaves → nat_le (key (internal c)) (leaf i) ≡ true
  goes_right c i inside past last = le-leb (key (internal c)) (leaf i) least
    where
      least : key (internal c) ≤ leaf i
      least = let k = (has c inside).node_key in elim (cases_eq ((branch_of leaves c).first + (branch_of leaves c).left) i) [
        | inl e ↦ (let same = ap leaf e in omega arith)
        | inr n ↦ (let less = rising ((branch_of leaves c).first + (branch_of leaves c).left) i (omega arith) last in omega arith)
      ]

  -- the walk goes on to a child
  walks : {that : ℕ → Type 0} (c : ℕ) (right : Bool) (k : ℕ) → nat_le (key (internal c)) k ≡ right → FindsLeaf key child that k (child (internal c) right)
      → FindsLeaf key child that k (internal c)
  walks c right k side rest = below (omega arith) (sym (ap (child (internal c)) side)) rest

  -- the walk for a key of the leaves of a branch finds it
  finds : (n c i : ℕ) → leaves ≤ c + n → c < leaves → (branch_of leaves c).first ≤ i
      → i < (branch_of leaves c).first + ((branch_of leaves c).left + (branch_of leaves c).right) → FindsLeaf key child (holds i) (leaf i) (internal c)
  finds zero c i enough inside from to = absurd (omega arith)
  finds (suc n) c i enough inside from to =
      let b = branch_of leaves c in
      let is : b.card ≡ c = branch_card leaves some c inside in
      let h = branch_holds leaves some c inside in
      let some_left = h.some_left in
      let some_right = h.some_right in
      let fits = branch_within leaves some c inside in
      let cards = cards_within leaves some c inside in
      let w = has c inside in
      elim (cases_lt i (b.first + b.left)) [
        | inl less ↦ walks c false (leaf i) (goes_left c i inside less) (elim (cases_eq b.left 1) [
          | inl one ↦
              let link : child (internal c) false ≡ left_leaf c = w.left ∙ (ap (λ t. if t then left_leaf b.card else internal (b.card + 1)) (eq-eqb b.left 1 one) ∙ ap left_leaf is) in
              let first : b.first ≡ i = omega arith in
              at_leaf (λ e. omega arith) (ap key link ∙ (w.left_key one ∙ ap leaf first))
              (subst (holds i) (sym link) (subst (λ n. holds n (left_leaf c)) first (w.left_holds one)))
          | inr more ↦
              let next : branch_of leaves (c + 1) ≡ left_branch b = branch_left leaves some c inside (omega arith) in
              let first : (branch_of leaves (c + 1)).first ≡ b.first = ap (λ (t : Branch). t.first) next in
              let left = ap (λ (t : Branch). t.left) next in
              let right = ap (λ (t : Branch). t.right) next in
              subst (FindsLeaf key child (holds i) (leaf i)) (sym (left_reached c inside (omega arith)))
              (finds n (c + 1) i (omega arith) (omega arith) (omega arith) (omega arith))
        ])
        | inr past ↦ walks c true (leaf i) (goes_right c i inside past (omega arith)) (elim (cases_eq b.right 1) [
          | inl one ↦
              let link : child (internal c) true ≡ right_leaf c = w.right ∙ (ap (λ t. if t then right_leaf b.card else internal (b.card + b.left)) (eq-eqb b.right 1 one) ∙ ap right_leaf is) in
              let first : b.first + b.left ≡ i = omega arith in
              at_leaf (λ e. omega arith) (ap key link ∙ (w.right_key one ∙ ap leaf first))
              (subst (holds i) (sym link) (subst (λ n. holds n (right_leaf c)) first (w.right_holds one)))
          | inr more ↦
              let next : branch_of leaves (c + b.left) ≡ right_branch b = branch_right leaves some c inside (omega arith) in
              let first : (branch_of leaves (c + b.left)).first ≡ b.first + b.left = ap (λ (t : Branch). t.first) next in
              let left = ap (λ (t : Branch). t.left) next in
              let right = ap (λ (t : Branch). t.right) next in
              subst (FindsLeaf key child (holds i) (leaf i)) (sym (right_reached c inside (omega arith)))
              (finds n (c + b.left) i (omega arith) (omega arith) (omega arith) (omega arith))
        ])
      ]

  -- so the walk from the root finds the keys of all leaves, and no other
  pub finds_leaf : (i : ℕ) → i ≤ leaves → FindsLeaf key child (holds i) (leaf i) 0
  unfolding descend
  finds_leaf i inside = finds leaves 0 i (omega arith) some (omega arith) (omega arith)

  pub finds_leaves_only : {that : ℕ → Type 0} (k : ℕ) → FindsLeaf key child that k 0 → IsLeafKey k
  finds_leaves_only k found = meets_leaf_key k 0 0 top found (places (root refl refl refl))

  -- each reached node is on a card of the tree
  reached_on : (x low high : ℕ) → Place x low high → card x < leaves
  reached_on x low high (inl at) = let is = at.is in let inside = at.inside in omega arith
  reached_on x low high (inr at) = at.on

  pub child_on : (c : ℕ) (right : Bool) → c < leaves → card (child (internal c) right) < leaves
  child_on c right inside =
      let at = child_reached (internal c) right (omega arith) (card_reached c inside) in
      reached_on (child (internal c) right) at.low at.high (places at.spans)

  -- and its number is that of a node
  reached_node : (x low high : ℕ) → Place x low high → IsNode x
  reached_node x low high (inl at) = let is = at.is in λ e. omega arith
  reached_node x low high (inr at) = at.node

  pub child_node : (c : ℕ) (right : Bool) → c < leaves → IsNode (child (internal c) right)
  child_node c right inside =
      let at = child_reached (internal c) right (omega arith) (card_reached c inside) in
      reached_node (child (internal c) right) at.low at.high (places at.spans)

  -- a child's key is on its side of its parent's
  pub left_less : (c : ℕ) → c < leaves → key (child (internal c) false) < key (internal c)
  left_less c inside =
      let at = card_reached c inside in
      (place_within (child (internal c) false) at.low (key (internal c)) (places (goes false at.spans (omega arith) refl refl refl))).1

  pub right_least : (c : ℕ) → c < leaves → key (internal c) ≤ key (child (internal c) true)
  right_least c inside =
      let at = card_reached c inside in
      (place_within (child (internal c) true) (key (internal c)) at.high (places (goes true at.spans (omega arith) refl refl refl))).0
