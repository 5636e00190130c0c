use Rattle.std.proofs.Common.{◌≡◌, ◌≢◌, ℕ, ◌%◌, ◌<◌, ◌≤◌, ◌==◌, ◌&&◌, ◌⊎◌, ◌↔◌, if◌then◌else◌, Bool, true, false, not, nat_le, nat_lt, inl, inr, refl, sym, ap, ◌∙◌, subst, arith}
use Rattle.std.proofs.lemmas.Bool.{cases_eq, cases_Bool, false≢true, eq-eqb, ne_eqb, leb-true, ltb-true, le-leb, lt-ltb}
use Rattle.std.proofs.lemmas.Bool.Decides.{nat_tests}
use Rattle.ell_word.specs.Node.{IsInternal, IsNode, card, internal, left_leaf, right_leaf}
use Rattle.ell_layout.specs.Words.{Words, IsLeaf, is_flat}
use Rattle.ell_layout.specs.Cards.{is_replace_card, stays_below}
use Rattle.ell_trie.specs.Ranges.{goes, IsOrdered, low_of, high_of}
use Rattle.ell_core.specs.tree.Rank.{rank}
use Rattle.ell_core.specs.history.Stages.{Stages, IFlagged, IChanged, is_node_born, Born}
use Rattle.ell_core.specs.history.Invariant.{top, IsIn, LeadsTo, LeadsToValue, insert_key, insert_value, insert_side, InsertCard, Unborn, ChildrenAreSound, WordsAreSound}
use Rattle.ell_layout.proofs.lemmas.Writes.{put_same, put_other}
use Rattle.ell_core.proofs.lemmas.stages.Order.{all-born}
use Rattle.ell_core.proofs.lemmas.tree.Reached.{leads_any, one_value}
use Rattle.ell_core.proofs.lemmas.words.Sides.{node_key-between, node_key-above}
use Rattle.ell_core.proofs.lemmas.keeping.insert_child.Card.{Brings, NewInner, ichild_words, ichild_stages, its_card, its_nodes, its_relinks, parent_in, not_born}

-- a card brings its internal node, and adds its key, which the tree lacked
pub record Adds (w : Words) (stage : Stages) (c : ℕ) : Type 0 where
  pub brings : Brings w stage c (internal c) IChanged
  pub absent : ¬ LeadsTo w (insert_key w c) 0

-- numbers in order that are not one
strictly : (a b : ℕ) → a ≤ b → (a == b) ≡ false → a < b
strictly a b least two = grind (arith, nat_tests)

-- the lesser and the greater leaf key of a card: one is the old key, the other the card's own
leaf_keys : (a b old k : ℕ) → a < b → (a ≡ old) ⊎ (b ≡ old) → k ≡ (if a == old then b else a)
    → ((a ≡ old) × (b ≡ k)) ⊎ ((a ≡ k) × (b ≡ old))
leaf_keys a b old k less copy own = elim (cases_eq a old) [
  | inl e ↦ inl (e, grind (arith, nat_tests))
  | inr n ↦ inr (grind (arith, nat_tests), grind (arith, nat_tests))
]

-- the card's leaf keys are two
module _ (w : Words) (stage : Stages) (sound : WordsAreSound w stage) (c : ℕ) (flagged : stage c ≡ IFlagged) (two : is_replace_card w c ≡ false) where
  abbrev card_said : InsertCard w stage c
  card_said = its_card w stage sound c flagged

  abbrev nodes_said : Unborn w c
  nodes_said = its_nodes w stage sound c flagged

  abbrev node_words : Words
  node_words = ichild_words w c (internal c)

  -- they are in order
  pub its_order : w.key (left_leaf c) < w.key (right_leaf c)
  its_order = strictly (w.key (left_leaf c)) (w.key (right_leaf c)) card_said.ordered two

  -- which leaf key is whose
  pub its_keys : ((w.key (left_leaf c) ≡ w.key (w.l c)) × (w.key (right_leaf c) ≡ insert_key w c))
      ⊎ ((w.key (left_leaf c) ≡ insert_key w c) × (w.key (right_leaf c) ≡ w.key (w.l c)))
  its_keys =
      leaf_keys (w.key (left_leaf c)) (w.key (right_leaf c)) (w.key (w.l c)) (insert_key w c)
      its_order (elim card_said.copy [ inl left ↦ inl left.key | inr right ↦ inr right.key ]) refl

  -- its own key is not that of the node where it goes
  pub key_differs : w.key (w.l c) ≢ insert_key w c
  key_differs e = let less = its_order in elim its_keys [ inl h ↦ omega arith | inr h ↦ omega arith ]

  -- whether the node where the card goes is a child of the card's node
  abbrev pub stays : Bool
  stays = stays_below (is_flat w) (w.l c)

  -- what stands in place of a leaf of the card: the leaf, or the node where the card goes, if that stays and has the leaf's key
  pub stands_for : (own : ℕ) (there : Bool) → ((if stays && there then w.l c else own) ≡ own)
      ⊎ (((if stays && there then w.l c else own) ≡ w.l c) × (stays ≡ true) × (there ≡ true))
  stands_for own true = elim (cases_Bool stays) [
    | inl e ↦ inr (ap (λ b. if b && true then w.l c else own) e, e, refl)
    | inr n ↦ inl (ap (λ b. if b && true then w.l c else own) n)
  ]
  stands_for own false = elim (cases_Bool stays) [
    | inl e ↦ inl (ap (λ b. if b && false then w.l c else own) e)
    | inr n ↦ inl (ap (λ b. if b && false then w.l c else own) n)
  ]

  left_same : nat_le (w.key (w.l c)) (insert_key w c) ≡ true → w.key (w.l c) ≡ w.key (left_leaf c)
  left_same test =
      let least = leb-true (w.key (w.l c)) (insert_key w c) test in let less = its_order in
      elim its_keys [ inl h ↦ sym h.0 | inr h ↦ absurd (omega arith) ]

  right_same : nat_lt (insert_key w c) (w.key (w.l c)) ≡ true → w.key (w.l c) ≡ w.key (right_leaf c)
  right_same test =
      let more = ltb-true (insert_key w c) (w.key (w.l c)) test in let less = its_order in
      elim its_keys [ inl h ↦ absurd (omega arith) | inr h ↦ sym h.1 ]

  -- the leaf on a side
  abbrev pub leaf_on : Bool → ℕ
  leaf_on right = if right then right_leaf c else left_leaf c

  -- the child on a side: the card's leaf, or the node where the card goes, if that stays, which has its key
  pub child_is : (right : Bool) → (w.child (internal c) right ≡ leaf_on right)
      ⊎ ((w.child (internal c) right ≡ w.l c) × (stays ≡ true) × (w.key (w.l c) ≡ w.key (leaf_on right)))
  child_is false = elim (stands_for (left_leaf c) (nat_le (w.key (w.l c)) (insert_key w c))) [
    | inl e ↦ inl (nodes_said.children false ∙ e)
    | inr h ↦ inr (nodes_said.children false ∙ h.0, h.1, left_same h.2)
  ]
  child_is true = elim (stands_for (right_leaf c) (nat_lt (insert_key w c) (w.key (w.l c)))) [
    | inl e ↦ inl (nodes_said.children true ∙ e)
    | inr h ↦ inr (nodes_said.children true ∙ h.0, h.1, right_same h.2)
  ]

  -- above a node that stays the child that has its key is that node
  below_there : (own : ℕ) (there : Bool) → stays ≡ true → there ≡ true → (if stays && there then w.l c else own) ≡ w.l c
  below_there own there kept e = λ t. if kept t && e t then w.l c else own

  pub below_child : stays ≡ true → (half : Bool) → w.key (leaf_on half) ≡ insert_key w c → w.key (leaf_on (not half)) ≡ w.key (w.l c)
      → w.child (internal c) (not half) ≡ w.l c
  below_child kept true own old = nodes_said.children false ∙ below_there (left_leaf c) (nat_le (w.key (w.l c)) (insert_key w c)) kept
      (le-leb (w.key (w.l c)) (insert_key w c) (let less = its_order in omega arith))
  below_child kept false own old = nodes_said.children true ∙ below_there (right_leaf c) (nat_lt (insert_key w c) (w.key (w.l c))) kept
      (lt-ltb (insert_key w c) (w.key (w.l c)) (let less = its_order in omega arith))

  -- it has the leaf's key
  pub child_key : (right : Bool) → w.key (w.child (internal c) right) ≡ w.key (leaf_on right)
  child_key right = elim (child_is right) [ inl e ↦ ap w.key e | inr h ↦ ap w.key h.0 ∙ h.2 ]

  -- so it has the key of the node where the card goes, or the card's own
  pub new_keys : (right : Bool) → (w.key (w.child (internal c) right) ≡ w.key (w.l c)) ⊎ (w.key (w.child (internal c) right) ≡ insert_key w c)
  new_keys false = elim its_keys [ inl h ↦ inl (child_key false ∙ h.0) | inr h ↦ inr (child_key false ∙ h.0) ]
  new_keys true = elim its_keys [ inl h ↦ inr (child_key true ∙ h.1) | inr h ↦ inl (child_key true ∙ h.1) ]

  -- above a node that does not stay the children are leaves of the card
  pub own_child : stays ≡ false → (right : Bool) → w.child (internal c) right ≡ leaf_on right
  own_child none right = elim (child_is right) [ inl e ↦ e | inr h ↦ absurd (false≢true (sym none ∙ h.1)) ]

  -- a leaf that has the old leaf's key has its value
  pub copied_value : stays ≡ false → IsLeaf (w.l c) → (right : Bool) → w.key (w.child (internal c) right) ≡ w.key (w.l c)
      → w.value (w.child (internal c) right) ≡ w.value (w.l c)
  copied_value none outer false same = ap w.value (own_child none false) ∙ elim card_said.copy [
    | inl copy ↦ copy.value outer
    | inr copy ↦ (let less = its_order in let at = child_key false in let has = copy.key in absurd (omega arith))
  ]
  copied_value none outer true same = ap w.value (own_child none true) ∙ elim card_said.copy [
    | inl copy ↦ (let less = its_order in let at = child_key true in let has = copy.key in absurd (omega arith))
    | inr copy ↦ copy.value outer
  ]

  -- and one that has the card's key is the card's leaf, and has the card's value
  pub own_leaf : (right : Bool) → w.key (w.child (internal c) right) ≡ insert_key w c → w.child (internal c) right ≡ leaf_on right
  own_leaf right same = elim (child_is right) [
    | inl e ↦ e
    | inr h ↦ absurd (key_differs (sym (ap w.key h.0) ∙ same))
  ]

  pub own_value : (right : Bool) → w.key (w.child (internal c) right) ≡ insert_key w c → w.value (w.child (internal c) right) ≡ insert_value w c
  own_value false same = ap w.value (own_leaf false same) ∙ sym (ap (λ t. if t then w.value (right_leaf c) else w.value (left_leaf c))
      (ne_eqb (w.key (left_leaf c)) (w.key (w.l c)) (λ e. key_differs (sym e ∙ (sym (child_key false) ∙ same)))))
  own_value true same = ap w.value (own_leaf true same) ∙ sym (ap (λ t. if t then w.value (right_leaf c) else w.value (left_leaf c)) (elim its_keys [
    | inl h ↦ eq-eqb (w.key (left_leaf c)) (w.key (w.l c)) h.0
    | inr h ↦ (let at = child_key true in let n = key_differs in absurd (n (sym h.1 ∙ (sym at ∙ same))))
  ]))

  -- the stages afterwards
  abbrev pub node_stages : Stages
  node_stages = ichild_stages stage c IChanged

  -- all nodes of the card came into the tree
  pub born_here : (x : ℕ) → IsNode x → card x ≡ c → Born node_stages x
  born_here x node e = ap (λ n. is_node_born (node_stages n) (x % 4)) e
      ∙ (ap (λ s. is_node_born s (x % 4)) (put_same stage c IChanged) ∙ all-born IChanged (x % 4) (omega (arith, node)) refl)

  -- what came into the tree before is there still
  pub born_still : (x : ℕ) → Born stage x → Born node_stages x
  born_still x born = ap (λ s. is_node_born s (x % 4)) (put_other stage c IChanged (card x) (λ e. not_born w stage sound c flagged x e born)) ∙ born

  -- and nothing else came, but the card's nodes
  pub born_back : (x : ℕ) → Born node_stages x → (card x ≡ c) ⊎ Born stage x
  born_back x born = elim (cases_eq (card x) c) [
    | inl e ↦ inl e
    | inr n ↦ inr (ap (λ s. is_node_born s (x % 4)) (sym (put_other stage c IChanged (card x) n)) ∙ born)
  ]

  child_born : (right : Bool) → Born node_stages (w.child (internal c) right)
  child_born right = elim (child_is right) [
    | inl e ↦ subst (Born node_stages) (sym e) (leaf_born right)
    | inr h ↦ subst (Born node_stages) (sym h.0) (born_still (w.l c) card_said.lower)
  ]
    where
      leaf_born : (right : Bool) → Born node_stages (leaf_on right)
      leaf_born false = born_here (left_leaf c) (omega arith) (omega arith)
      leaf_born true = born_here (right_leaf c) (omega arith) (omega arith)

  -- the exchange leaves the children of the card's node
  pub new_kept : (right : Bool) → node_words.child (internal c) right ≡ w.child (internal c) right
  new_kept right = elim ((its_relinks w stage sound c flagged (internal c)).others (internal c) right) [
    | inl h ↦ absurd (not_born w stage sound c flagged (w.p c) (omega (arith, h.0)) card_said.parent.born)
    | inr h ↦ h
  ]

  -- where the tree is in order afterwards, and internal nodes of it stay there, the card's node is sound in it
  module _ (ordered : IsOrdered w.key node_words.child top (rank w)) (inside : (x : ℕ) → IsInternal x → IsIn w x → IsIn node_words x)
      (rising : (right : Bool) → rank w (internal c) < rank w (w.child (internal c) right)) where
    node_in : IsIn node_words (internal c)
    node_in =
        let place = inside (w.p c) card_said.parent.inner (parent_in w stage sound c flagged) in
        record {
          low = low_of (insert_side w c) place.low (w.key (w.p c));
          high = high_of (insert_side w c) place.high (w.key (w.p c));
          spans = goes (insert_side w c) place.spans card_said.parent.inner (sym (its_relinks w stage sound c flagged (internal c)).there) refl refl;
        }

    children_here : ChildrenAreSound node_words node_stages (internal c)
    children_here =
        let between = node_key-between card_said.node_key card_said.ordered in
        let above = node_key-above card_said.node_key its_order in
        let low = ap w.key (new_kept false) ∙ child_key false in
        let high = ap w.key (new_kept true) ∙ child_key true in
        record {
          born = λ right. subst (Born node_stages) (sym (new_kept right)) (child_born right);
          rising = λ right. subst (λ x. rank w (internal c) < rank w x) (sym (new_kept right)) (rising right);
          left_less = omega arith;
          right_more = omega arith;
        }

    pub its_inner : (x : ℕ) → IsInternal x → card x ≡ c → is_node_born IChanged (x % 4) ≡ true → NewInner w node_words node_stages x
    its_inner x inner e born = let same : internal c ≡ x = omega arith in
        subst (NewInner w node_words node_stages) same (record { children = children_here; calm = nodes_said.calm; there = node_in })

  -- the keys of the tree afterwards are those before and the card's
  module _ (adds : Adds w stage c) where
    abbrev its : Brings w stage c (internal c) IChanged
    its = adds.brings

    -- the card's key leads to the card's value alone
    gained_only : (value : ℕ) → LeadsToValue node_words (insert_key w c) value 0 → value ≡ insert_value w c
    gained_only value leads = one_value node_words (insert_key w c) value (insert_value w c) leads its.gained

    pub pairs_after : (k v : ℕ) → LeadsToValue node_words k v 0 ↔ (LeadsToValue w k v 0 ⊎ ((k ≡ insert_key w c) × (v ≡ insert_value w c)))
    pairs_after k v = elim (cases_eq k (insert_key w c)) [
      | inl e ↦ (
        λ h. inr (e, gained_only v (subst (λ z. LeadsToValue node_words z v 0) e h)),
        λ h. elim h [
          | inl g ↦ absurd (adds.absent (leads_any w (insert_key w c) v 0 (subst (λ z. LeadsToValue w z v 0) e g)))
          | inr f ↦ subst (λ z. LeadsToValue node_words z v 0) (sym e) (subst (λ u. LeadsToValue node_words (insert_key w c) u 0) (sym f.1) its.gained)
        ],
      )
      | inr n ↦ (λ h. inl (its.before k v 0 n h), λ h. elim h [ inl g ↦ its.still k v 0 n g | inr e ↦ absurd (n e.0) ])
    ]
