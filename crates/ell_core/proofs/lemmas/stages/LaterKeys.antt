use Rattle.std.proofs.Common.{◌≡◌, ℕ, ◌%◌, ◌<◌, nat_le, nat_lt, Bool, true, false, subst, Option, Some, None, refl, sym, ap, ◌∙◌, arith, ◌==◌, if◌then◌else◌}
use Rattle.ell_word.specs.Node.{card, internal, left_leaf, right_leaf, IsNode}
use Rattle.ell_layout.specs.Words.{Words}
use Rattle.ell_layout.specs.Cards.{is_right, left_of_card, right_of_card}
use Rattle.ell_core.specs.tree.Flat.{IsInBlock}
use Rattle.ell_core.specs.tree.Rank.{rank}
use Rattle.ell_core.specs.history.Stages.{Stages, Opening, is_insert, is_delete, is_node_born, Born}
use Rattle.ell_core.specs.history.Invariant.{insert_key, insert_value, delete_key, insert_side, delete_side, leaf_side, filled_child, InsertCard, DeleteCard, IsPutting, WordsAreSound}
use Rattle.ell_core.specs.history.Later.{WordsLater, SameInfo}
use Rattle.ell_core.proofs.lemmas.tree.Blocks.{in_block-same}
use Rattle.ell_core.proofs.lemmas.tree.Ranks.{rank_same}
use Rattle.ell_core.proofs.lemmas.words.Sides.{key_of_three}
use Rattle.ell_core.proofs.lemmas.stages.Order.{all-born, born-claimed, insert-claimed, delete-claimed}

module _ (w : Words) (stage : Stages) (sound : WordsAreSound w stage) where
  -- a node that came into the tree stands on a claimed card
  pub born_below : (x : ℕ) → Born stage x → card x < w.next
  born_below x born = (sound.cards (card x)).claimed.0 (born-claimed (stage (card x)) (x % 4) born)

  -- so did each node of card 0
  pub start_there : (x : ℕ) → IsNode x → card x ≡ 0 → Born stage x
  start_there x node e = ap (λ n. is_node_born (stage n) (x % 4)) e ∙ (ap (λ s. is_node_born s (x % 4)) sound.opening ∙ all-born Opening (x % 4) (omega (arith, node)) refl)

  -- node 0 came into the tree
  pub root_born : Born stage 0
  root_born = ap (λ s. is_node_born s (0 % 4)) sound.opening

-- later words than sound ones
module _ (old new : Words) (stage : Stages) (sound : WordsAreSound old stage) (words : WordsLater old new) where
  -- the key of a node that came into the tree, which a card still names, is as it was
  pub key_later : (x y : ℕ) → y ≡ x → Born stage x → new.key y ≡ old.key x
  key_later x y e born = ap new.key e ∙ words.key x (born_below old stage sound x born)

  -- so is its value
  pub value_later : (x y : ℕ) → y ≡ x → Born stage x → new.value y ≡ old.value x
  value_later x y e born = ap new.value e ∙ words.value x (born_below old stage sound x born)

  -- a key is on the side of such a node on which it was
  pub side_later : (x y k l : ℕ) → y ≡ x → l ≡ k → Born stage x → is_right new y l ≡ is_right old x k
  side_later x y k l e f born = λ t. nat_le (key_later x y e born t) (f t)

  -- so is its rank
  pub rank_later : (x y : ℕ) → y ≡ x → Born stage x → rank new y ≡ rank old x
  rank_later x y e born = rank_same old new x y e words.flat (key_later x y e born)

  -- a key is in its block as it was
  pub block_later : (x y k l : ℕ) → y ≡ x → l ≡ k → Born stage x → IsInBlock old x k → IsInBlock new y l
  block_later x y k l e f born there =
      subst (IsInBlock new y) (sym f) (subst (λ n. IsInBlock new n k) (sym e) (in_block-same old new x k words.flat (key_later x x refl born) there))

  pub block_before : (x y k l : ℕ) → y ≡ x → l ≡ k → Born stage x → IsInBlock new y l → IsInBlock old x k
  block_before x y k l e f born there =
      in_block-same new old x k (sym words.flat) (sym (key_later x x refl born)) (subst (λ n. IsInBlock new n k) e (subst (IsInBlock new y) f there))

  module _ (c : ℕ) (inserts : is_insert (stage c) ≡ true) where
    insert_below : c < old.next
    insert_below = (sound.cards c).claimed.0 (insert-claimed (stage c) inserts)

    insert_said : InsertCard old stage c
    insert_said = (sound.cards c).insert inserts

    -- an insert's card goes where it went
    pub insert_info : SameInfo old new c
    insert_info = words.info c insert_below

    -- its nodes have their keys
    pub insert_node_key : (x : ℕ) → card x ≡ c → new.key x ≡ old.key x
    insert_node_key x e = words.key x (let below = insert_below in omega arith)

    -- and their values
    pub insert_node_value : (x : ℕ) → card x ≡ c → new.value x ≡ old.value x
    insert_node_value x e = words.value x (let below = insert_below in omega arith)

    -- so have parent and leaf
    pub insert_parent_key : new.key (new.p c) ≡ old.key (old.p c)
    insert_parent_key = key_later (old.p c) (new.p c) insert_info.p insert_said.parent.born

    pub insert_leaf_key : new.key (new.l c) ≡ old.key (old.l c)
    insert_leaf_key = key_later (old.l c) (new.l c) insert_info.l insert_said.lower

    pub insert_leaf_value : new.value (new.l c) ≡ old.value (old.l c)
    insert_leaf_value = value_later (old.l c) (new.l c) insert_info.l insert_said.lower

    -- so its own key is as it was, with its value, and its side of the parent
    pub insert_key_later : insert_key new c ≡ insert_key old c
    insert_key_later =
        let left = insert_node_key (left_leaf c) (omega arith) in
        let right = insert_node_key (right_leaf c) (omega arith) in
        λ t. key_of_three (left t) (right t) (insert_leaf_key t)

    pub insert_value_later : insert_value new c ≡ insert_value old c
    insert_value_later =
        let left = insert_node_key (left_leaf c) (omega arith) in
        let left_value = insert_node_value (left_leaf c) (omega arith) in
        let right_value = insert_node_value (right_leaf c) (omega arith) in
        λ t. if left t == insert_leaf_key t then right_value t else left_value t

    -- the children of its node are to be those that were
    pub filled_child_later : (right : Bool) → filled_child new c right ≡ filled_child old c right
    filled_child_later false = λ t. left_of_card (nat_lt 0 (words.flat t)) c (insert_key_later t) (insert_info.l t) (insert_leaf_key t)
    filled_child_later true = λ t. right_of_card (nat_lt 0 (words.flat t)) c (insert_key_later t) (insert_info.l t) (insert_leaf_key t)

    -- it adds its key still, or replaces a leaf of its key and of that value
    pub putting_later : (was : Option ℕ) → IsPutting old c was → IsPutting new c was
    putting_later None is = (
        let left = insert_node_key (left_leaf c) (omega arith) in
        let right = insert_node_key (right_leaf c) (omega arith) in
        omega arith)
    putting_later (Some was) is = (
      insert_node_key (left_leaf c) (omega arith) ∙ (is.0 ∙ sym (insert_node_key (right_leaf c) (omega arith))),
      insert_leaf_value ∙ is.1,
    )

    pub insert_side_later : insert_side new c ≡ insert_side old c
    insert_side_later = side_later (old.p c) (new.p c) (old.key (internal c)) (new.key (internal c)) insert_info.p
        (insert_node_key (internal c) (omega arith)) insert_said.parent.born

    -- the child word there is that of the same node on the same side
    pub insert_child_later : new.child (new.p c) (insert_side new c) ≡ new.child (old.p c) (insert_side old c)
    insert_child_later = λ t. new.child (insert_info.p t) (insert_side_later t)

    pub insert_tag_later : new.tag (new.p c) (insert_side new c) ≡ new.tag (old.p c) (insert_side old c)
    insert_tag_later = λ t. new.tag (insert_info.p t) (insert_side_later t)

  module _ (c : ℕ) (deletes : is_delete (stage c) ≡ true) where
    delete_said : DeleteCard old stage c
    delete_said = (sound.cards c).delete deletes

    -- a delete's card goes where it went
    pub delete_info : SameInfo old new c
    delete_info = words.info c ((sound.cards c).claimed.0 (delete-claimed (stage c) deletes))

    -- its key is as it was, and its sides of grandparent and parent
    pub delete_key_later : delete_key new c ≡ delete_key old c
    delete_key_later = key_later (old.l c) (new.l c) delete_info.l delete_said.leaf.born

    pub delete_side_later : delete_side new c ≡ delete_side old c
    delete_side_later = side_later (old.gp c) (new.gp c) (delete_key old c) (delete_key new c) delete_info.gp
        delete_key_later delete_said.grandparent.born

    pub leaf_side_later : leaf_side new c ≡ leaf_side old c
    leaf_side_later = side_later (old.p c) (new.p c) (delete_key old c) (delete_key new c) delete_info.p
        delete_key_later delete_said.parent.born

    -- the child words there are those of the same nodes on the same sides
    pub top_child_later : new.child (new.gp c) (delete_side new c) ≡ new.child (old.gp c) (delete_side old c)
    top_child_later = λ t. new.child (delete_info.gp t) (delete_side_later t)

    pub top_tag_later : new.tag (new.gp c) (delete_side new c) ≡ new.tag (old.gp c) (delete_side old c)
    top_tag_later = λ t. new.tag (delete_info.gp t) (delete_side_later t)

    pub leaf_child_later : new.child (new.p c) (leaf_side new c) ≡ new.child (old.p c) (leaf_side old c)
    leaf_child_later = λ t. new.child (delete_info.p t) (leaf_side_later t)
