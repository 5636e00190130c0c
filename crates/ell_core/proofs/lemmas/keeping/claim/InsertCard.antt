use Rattle.std.proofs.Common.{◌≡◌, ◌≢◌, ℕ, ◌%◌, ◌≤◌, ◌⊎◌, ◌==◌, ◌&&◌, nat_le, nat_lt, if◌then◌else◌, min, max, Bool, true, false, Option, Some, None, inl, inr, refl, sym, ap, ◌∙◌, subst, arith}
use Rattle.std.proofs.lemmas.Bool.{false≢true, cases_Bool, cases_eq, cases_lt, eq-eqb, ne_eqb, lt-ltb, le-ltb}
use Rattle.std.proofs.lemmas.Bool.Decides.{nat_tests}
use Rattle.ell_ops.specs.Meaning.{greatest_key}
use Rattle.ell_word.specs.Node.{IsInternal, internal, left_leaf, right_leaf}
use Rattle.ell_block.specs.Blocks.{IsBranchOf, InBlockOf}
use Rattle.ell_layout.specs.declared.field.Field.TheVariants.{Gp, Was}
use Rattle.ell_core.specs.declared.put.Put.{Put}
use Rattle.ell_core.specs.declared.view.Seen.{Seen}
use Rattle.ell_layout.specs.Words.{Words, put, IsLeaf, is_flat}
use Rattle.ell_core.specs.state.Machine.{Worker}
use Rattle.ell_layout.specs.Cards.{is_right, tag_for, claimed, is_replace_card, stays_below, left_of_card, right_of_card, put_filling, value_below}
use Rattle.ell_core.specs.tree.Flat.{IsInBlock, IsNodeKey}
use Rattle.ell_core.specs.acts.Searching.{IsClean, HasPlace, GivesPlace}
use Rattle.ell_core.specs.history.Stages.{Stages, IClaimed, is_claimed, is_insert, is_delete, insert_won, Born}
use Rattle.ell_core.specs.history.Invariant.{insert_key, insert_value, insert_side, filled_child, IsInnerBorn, InsertCard, CardIsSound, WordsAreSound, SeenIsSound, StandIsSound, InsertInHand, IsPutting}
use Rattle.ell_core.specs.history.Later.{WordsLater}
use Rattle.ell_layout.proofs.lemmas.Writes.{put_same}
use Rattle.ell_trie.proofs.lemmas.Paths.{is_branch}
use Rattle.ell_core.proofs.lemmas.tree.Blocks.{flat_by, plain_by, block_past, lacks_by, lacks_inner}
use Rattle.ell_core.proofs.lemmas.words.Sides.{key_of_three, node_key-between, node_key-same}
use Rattle.ell_core.proofs.lemmas.stages.LaterKeys.{rank_later, block_later, block_before}
use Rattle.ell_core.proofs.lemmas.outcomes.Decide.{some_not_none}
use Rattle.ell_core.proofs.lemmas.keeping.claim.Filling.{claimed_claims, claimed_put, IsFilledPut}
use Rattle.ell_core.proofs.lemmas.keeping.claim.Frames.{earlier_word, earlier_node, Claiming, blank, born_kept, key_kept, value_kept, tag_kept, claim_words}

-- of the lesser and the greater of two keys, the one that is not the leaf's is the other one
own_of_two : (k leaf : ℕ) → key_of_three (min k leaf) (max k leaf) leaf ≡ k
own_of_two k leaf = elim (cases_eq (min k leaf) leaf) [
  | inl e ↦ grind (arith, nat_tests)
  | inr n ↦ grind (arith, nat_tests)
]

-- one of them is the leaf's, and on its side is the leaf's value
copy_of_two : (k value leaf leaf_value : ℕ)
    → ((min k leaf ≡ leaf) × ((if nat_lt k leaf then value else leaf_value) ≡ leaf_value))
    ⊎ ((max k leaf ≡ leaf) × ((if nat_lt k leaf then leaf_value else value) ≡ leaf_value))
copy_of_two k value leaf leaf_value = elim (cases_lt k leaf) [
  | inl less ↦ inr (omega arith, ap (λ t. if t then leaf_value else value) (lt-ltb k leaf less))
  | inr past ↦ inl (omega arith, ap (λ t. if t then value else leaf_value) (le-ltb k leaf past))
]

-- and its value is the one on its side
value_of_two : (k value leaf leaf_value : ℕ)
    → (if min k leaf == leaf then (if nat_lt k leaf then leaf_value else value) else (if nat_lt k leaf then value else leaf_value)) ≡ value
value_of_two k value leaf leaf_value = elim (cases_lt k leaf) [
  | inl less ↦
      ap (λ t. if t then (if nat_lt k leaf then leaf_value else value) else (if nat_lt k leaf then value else leaf_value))
      (ne_eqb (min k leaf) leaf (λ e. omega arith))
      ∙ ap (λ t. if t then value else leaf_value) (lt-ltb k leaf less)
  | inr past ↦
      ap (λ t. if t then (if nat_lt k leaf then leaf_value else value) else (if nat_lt k leaf then value else leaf_value))
      (eq-eqb (min k leaf) leaf (omega arith))
      ∙ ap (λ t. if t then leaf_value else value) (le-ltb k leaf past)
]

-- where two keys are on one side of a node's key, so is what is between them
side_of_between : (middle k below r : ℕ) → min k below ≤ r → r ≤ max k below → nat_le middle below ≡ nat_le middle k → nat_le middle r ≡ nat_le middle k
side_of_between middle k below r low high e = grind (arith, nat_tests)

-- the key of a node over two keys is that over the lesser and the greater one
node_key_in_order : (from a b r : ℕ) → IsNodeKey from a b r → IsNodeKey from (min a b) (max a b) r
node_key_in_order from a b r is = record {
  greater = λ either. is.greater (elim either [
    | inl plain ↦ inl plain
    | inr same ↦ inr (omega arith)
  ]) ∙ omega arith;
  branch = λ some two. subst (λ n. IsBranchOf n (max (min a b) (max a b)) r) {x = min a b} (omega arith)
      (subst (λ n. IsBranchOf (min a b) n r) {x = max a b} (omega arith) (is.branch some (λ e. two (omega arith))));
}

-- the left child of the node of a card is node 0 only if that is below it
left_none : (flat : Bool) (c k below below_key : ℕ) → left_of_card flat c k below below_key ≡ 0 → below ≡ 0
left_none flat c k below below_key none = elim (cases_Bool (stays_below flat below && nat_le below_key k)) [
  | inl e ↦ sym (ap (λ b. if b then below else left_leaf c) e) ∙ none
  | inr e ↦ (let own = ap (λ b. if b then below else left_leaf c) e in absurd (omega arith))
]

-- a worker stands at a node below a parent that it saw, and there is place for what it puts
pub record InsertSeen (w : Words) (stage : Stages) (v : Worker) (what : Put) (below node_key : ℕ) (parent : Seen) : Type 0 where
  pub words : WordsAreSound w stage
  pub stand : StandIsSound w stage v what.key below
  pub seen : SeenIsSound w stage what.key parent below
  pub real : what.key ≤ greatest_key
  pub takes : GivesPlace w what below
  pub fits : what.was ≡ None → IsInBlock w parent.node what.key
  pub named : IsNodeKey w.flat_from what.key (w.key below) node_key

module _ (w : Words) (stage : Stages) (v : Worker) (what : Put) (below node_key : ℕ) (parent : Seen)
    (h : InsertSeen w stage v what below node_key parent) where
  abbrev k : ℕ
  k = what.key

  -- the words and the stages after the claim
  abbrev after : Words
  after = claimed w parent.tag (put_filling (is_flat w) w.next k what.value node_key parent.node below (w.key below) (value_below w below))

  abbrev stages : Stages
  stages = put stage w.next IClaimed

  claiming : Claiming w after stage IClaimed
  claiming = record {
    words = h.words;
    claims = claimed_claims w parent.tag (put_filling (is_flat w) w.next k what.value node_key parent.node below (w.key below) (value_below w below));
    fresh = inl refl;
  }

  later : WordsLater w after
  later = claim_words w after stage IClaimed claiming

  -- the card's stage, its fields, and the keys where it goes
  at_stage : stages w.next ≡ IClaimed
  at_stage = put_same stage w.next IClaimed

  filled : IsFilledPut after (is_flat w) w.next parent.tag k what.value node_key parent.node below (w.key below) (value_below w below)
  filled = claimed_put w (is_flat w) parent.tag k what.value node_key parent.node below (w.key below) (value_below w below)

  below_key : after.key (after.l w.next) ≡ w.key below
  below_key = ap after.key filled.l ∙ key_kept w after stage IClaimed claiming below h.stand.born

  leaf_value : after.value (after.l w.next) ≡ w.value below
  leaf_value = ap after.value filled.l ∙ value_kept w after stage IClaimed claiming below h.stand.born

  parent_key : after.key (after.p w.next) ≡ w.key parent.node
  parent_key = ap after.key filled.p ∙ key_kept w after stage IClaimed claiming parent.node h.seen.node.born

  own_key : insert_key after w.next ≡ k
  own_key = (λ t. key_of_three (filled.left_key t) (filled.right_key t) (below_key t)) ∙ own_of_two k (w.key below)

  own_value : insert_value after w.next ≡ what.value
  own_value = (λ t. if filled.left_key t == below_key t then filled.right_value t else filled.left_value t)
      ∙ value_of_two k what.value (w.key below) (value_below w below)

  -- the key of its node, over its two leaf keys, and its side of the parent
  in_order : IsNodeKey w.flat_from (min k (w.key below)) (max k (w.key below)) node_key
  in_order = node_key_in_order w.flat_from k (w.key below) node_key h.named

  side_is : insert_side after w.next ≡ is_right w parent.node k
  side_is = let between = node_key-between in_order (omega arith) in
      (λ t. nat_le (parent_key t) (filled.key t)) ∙ side_of_between (w.key parent.node) k (w.key below) node_key between.0 between.1 h.seen.side

  tag_is : after.tag (after.p w.next) (insert_side after w.next) ≡ tag_for w k parent.node
  tag_is = (λ t. after.tag (filled.p t) (side_is t))
      ∙ tag_kept w after stage IClaimed claiming parent.node (is_right w parent.node k) h.seen.node.born

  -- what has a value to replace stands at a leaf of its key and that value
  replaces : (was : ℕ) → what.was ≡ Some was → (w.key below ≡ k) × (w.value below ≡ was)
  replaces was e = subst (λ o. HasPlace k o (w.key below) (w.value below)) e
      (h.takes.leaf (λ i. some_not_none e (h.takes.edge i).0))

  -- an internal node below has a block, and its key is in it
  block_there : IsInternal below → InBlockOf (w.key below) (w.key below)
  block_there i = let has = lacks_by w below k (h.takes.edge i).1 in
      is_branch (h.words.tree.trie (flat_by w.flat_from below has)) below i h.stand.born (plain_by w.flat_from below has)

  -- what has none puts another key than that of the node below
  adds : what.was ≡ None → k ≢ w.key below
  adds e same = elim (cases_eq (below % 4) 0) [
    | inl i ↦ lacks_inner w below k i (h.takes.edge i).1 (subst (InBlockOf (w.key below)) (sym same) (block_there i))
    | inr o ↦ subst (λ o. HasPlace k o (w.key below) (w.value below)) e (h.takes.leaf o) (sym same)
  ]

  -- the card adds its key, or replaces the leaf
  putting : (was : Option ℕ) → what.was ≡ was → IsPutting after w.next was
  putting None e = let two = adds e in let a = filled.left_key in let b = filled.right_key in omega arith
  putting (Some was) e = let had = replaces was e in (
    let a = filled.left_key in let b = filled.right_key in let same = had.0 in omega arith,
    leaf_value ∙ had.1,
  )

  -- if it does not replace a leaf, there was no value to replace
  new_by : (was : Option ℕ) → what.was ≡ was → is_replace_card after w.next ≡ false → what.was ≡ None
  new_by None e two = e
  new_by (Some was) e two = let one = eq-eqb (after.key (left_leaf w.next)) (after.key (right_leaf w.next)) (putting (Some was) e).0 in
      absurd (false≢true (sym two ∙ one))

  -- the value of a leaf below
  value_there : IsLeaf (after.l w.next) → value_below w below ≡ after.value (after.l w.next)
  value_there o = ap (λ b. if b then 0 else w.value below) (ne_eqb (below % 4) 0 (subst IsLeaf filled.l o)) ∙ sym leaf_value

  -- node 0 is not below
  not_root : below ≢ 0
  not_root e = let lacks = (h.takes.edge (ap (λ n. n % 4) e)).1 in
      let has = lacks_by w below k lacks in
      let some = flat_by w.flat_from below has in
      let past = block_past w.flat_from below (ap (λ n. n % 4) e) has in
      omega arith

  insert_card : InsertCard after stages w.next
  insert_card = record {
    gp = (blank w after stage IClaimed claiming).words Gp;
    was = (blank w after stage IClaimed claiming).words Was;
    parent = subst (IsInnerBorn stages) (sym filled.p) (record {
      inner = h.seen.node.inner;
      born = born_kept w after stage IClaimed claiming parent.node h.seen.node.born;
    });
    lower = subst (Born stages) (sym filled.l) (born_kept w after stage IClaimed claiming below h.stand.born);
    above = let a = h.seen.less in
        let p = rank_later w after stage h.words later parent.node (after.p w.next) filled.p h.seen.node.born in
        let l = rank_later w after stage h.words later below (after.l w.next) filled.l h.stand.born in omega arith;
    before = let a = earlier_node w stage h.words below h.stand.born in let l = filled.l in omega arith;
    edge = λ inner there. (h.takes.edge (subst IsInternal filled.l inner)).1
        (block_before w after stage h.words later below (after.l w.next) k (insert_key after w.next) filled.l own_key h.stand.born there);
    fits = λ two. block_later w after stage h.words later parent.node (after.p w.next) k (insert_key after w.next) filled.p own_key h.seen.node.born
        (h.fits (new_by what.was refl two));
    ordered = let a = filled.left_key in let b = filled.right_key in omega arith;
    node_key = node_key-same later.flat filled.left_key filled.right_key filled.key in_order;
    copy = elim (copy_of_two k what.value (w.key below) (value_below w below)) [
      | inl e ↦ inl (record { key = filled.left_key ∙ (e.0 ∙ sym below_key); value = λ o. filled.left_value ∙ (e.1 ∙ value_there o) })
      | inr e ↦ inr (record { key = filled.right_key ∙ (e.0 ∙ sym below_key); value = λ o. filled.right_value ∙ (e.1 ∙ value_there o) })
    ];
    real = subst (λ n. n ≤ greatest_key) (sym own_key) h.real;
    side = (λ t. nat_le (parent_key t) (own_key t)) ∙ (sym h.seen.side ∙ (λ t. nat_le (sym parent_key t) (sym below_key t)));
    left_child = λ e. not_root (left_none (is_flat w) w.next k below (w.key below) (sym filled.left ∙ e));
    expected = let a = h.seen.at_least in let e = filled.expects in
        let less = h.words.tags parent.node (is_right w parent.node k) in omega arith;
    at_least = let a = h.seen.at_least in let e = filled.expects in let t = tag_is in omega arith;
  }

  -- the children of its node are those to be
  children_filled : (right : Bool) → after.child (internal w.next) right ≡ filled_child after w.next right
  children_filled false = filled.left ∙ sym (λ t. left_of_card (nat_lt 0 (later.flat t)) w.next (own_key t) (filled.l t) (below_key t))
  children_filled true = filled.right ∙ sym (λ t. right_of_card (nat_lt 0 (later.flat t)) w.next (own_key t) (filled.l t) (below_key t))

  -- the claimed card of an insert is sound
  pub insert_claimed : CardIsSound after stages w.next
  insert_claimed = record {
    claimed = (λ e. omega arith, λ less. ap is_claimed at_stage);
    insert = λ e. insert_card;
    delete = λ e. absurd (false≢true (ap is_delete (sym at_stage) ∙ e));
    unborn = λ e no_birth. record { children = children_filled; calm = filled.update };
    blank = λ e. absurd (false≢true (sym e ∙ ap is_claimed at_stage));
  }

  -- the claimer, that still stands there, has it in hand
  pub insert_in_hand : (u : Worker) → u.search.node ≡ Some below → u.search.parent ≡ Some parent → IsClean parent.word
      → InsertInHand after stages u what w.next
  insert_in_hand u stands behind calm = record {
    parent = parent;
    claimed = (ap is_insert at_stage, ap insert_won at_stage);
    stands = stands ∙ ap Some (sym filled.l);
    behind = behind;
    node = sym filled.p;
    calm = calm;
    earlier = earlier_word w stage h.words parent.node parent.word h.seen.node h.seen.word;
    tagged = sym filled.expects;
    own = own_key;
    own_value = own_value;
    kind = putting what.was refl;
  }
