use Rattle.std.proofs.Common.{◌≡◌, ◌≢◌, ℕ, ◌%◌, ◌<◌, ◌==◌, ◌⊎◌, ◌↔◌, if◌then◌else◌, true, not, inl, inr, refl, sym, ap, ◌∙◌, subst, arith}
use Rattle.std.proofs.lemmas.Bool.{cases_eq}
use Rattle.std.proofs.lemmas.Bool.Decides.{nat_tests}
use Rattle.ell_word.specs.Node.{IsInternal, card, left_leaf, right_leaf}
use Rattle.ell_layout.specs.Words.{Words, IsLeaf}
use Rattle.ell_layout.specs.Cards.{is_replace_card}
use Rattle.ell_core.specs.history.Stages.{Stages, IFlagged, RChanged, is_node_born, Born}
use Rattle.ell_core.specs.history.Invariant.{top, IsIn, IsOut, LeadsToValue, IsOnCourse, insert_key, insert_value, insert_side, InsertCard, WordsAreSound}
use Rattle.ell_core.proofs.lemmas.tree.Reached.{one_value}
use Rattle.ell_trie.proofs.lemmas.order.Replaces.{Replaces, Spans-still, IsOrdered-replace, Meets-replaced, Meets-unreplaced, Meets-old, Meets-new, OnCourse-replace, stays_out}
use Rattle.ell_core.proofs.lemmas.keeping.insert_child.Card.{Brings, ichild_words, ichild_stages, its_card, its_child, its_relinks, parent_in, closed, not_born, new_block, out_kept}
use Rattle.ell_layout.proofs.lemmas.Writes.{put_same, put_other}
use Rattle.ell_trie.specs.Swaps.{LeafSwap, BornLeaf}
use Rattle.ell_trie.specs.Tries.{IsTrie}
use Rattle.ell_trie.specs.Courses.{ordinary}
use Rattle.ell_trie.proofs.lemmas.Courses.{course_lifts}
use Rattle.ell_trie.proofs.lemmas.Paths.{same_born}
use Rattle.ell_trie.proofs.lemmas.Swaps.{trie_swap}
use Rattle.ell_core.specs.tree.Flat.{opening_from}
use Rattle.ell_core.proofs.lemmas.tree.Blocks.{plain_by}
use Rattle.ell_core.proofs.lemmas.tree.Ranks.{rank_plain, leaf_deepest}
use Rattle.ell_core.proofs.lemmas.words.Sides.{max_is}
use Rattle.ell_core.proofs.lemmas.stages.Edges.{replaces_leaf}
use Rattle.ell_core.specs.tree.Rank.{rank}

-- numbers that a test finds to be one
one_of : (a b : ℕ) → (a == b) ≡ true → a ≡ b
one_of a b same = grind (arith, nat_tests)

-- where both leaves have the old leaf's key, the card's own key is that one, and its value the right leaf's
own_of_three : (left right old a b : ℕ) → left ≡ right → (left ≡ old) ⊎ (right ≡ old)
    → ((if left == old then right else left) ≡ old) × ((if left == old then b else a) ≡ b)
own_of_three left right old a b same one = (grind (arith, nat_tests), grind (arith, nat_tests))

-- of a card that replaces a leaf the right leaf came into the tree, and no internal node
place_two : (n : ℕ) → n ≡ 2 → is_node_born RChanged n ≡ true
place_two n e = grind (arith, nat_tests)

no_inner : (n : ℕ) → n ≡ 0 → is_node_born RChanged n ≡ true → ⊥
no_inner n e h = grind (arith, nat_tests)

right_card : (c : ℕ) → card (right_leaf c) ≡ c
right_card c = omega arith

-- the card's leaf keys are one: it replaces a leaf of that key by its right leaf
module _ (w : Words) (stage : Stages) (sound : WordsAreSound w stage) (c : ℕ) (flagged : stage c ≡ IFlagged) (one : is_replace_card w c ≡ true) where
  abbrev card_said : InsertCard w stage c
  card_said = its_card w stage sound c flagged

  abbrev leaf_words : Words
  leaf_words = ichild_words w c (right_leaf c)

  abbrev leaf_stages : Stages
  leaf_stages = ichild_stages stage c RChanged

  same_keys : w.key (left_leaf c) ≡ w.key (right_leaf c)
  same_keys = one_of (w.key (left_leaf c)) (w.key (right_leaf c)) one

  owns : (insert_key w c ≡ w.key (w.l c)) × (insert_value w c ≡ w.value (right_leaf c))
  owns = own_of_three (w.key (left_leaf c)) (w.key (right_leaf c)) (w.key (w.l c)) (w.value (left_leaf c)) (w.value (right_leaf c)) same_keys
      (elim card_said.copy [ inl left ↦ inl left.key | inr right ↦ inr right.key ])

  -- its key is the old leaf's, and the new leaf's
  pub key_is : insert_key w c ≡ w.key (w.l c)
  key_is = owns.0

  new_key : w.key (right_leaf c) ≡ w.key (w.l c)
  new_key = elim card_said.copy [ inl left ↦ sym same_keys ∙ left.key | inr right ↦ right.key ]

  -- it goes to a leaf
  outer : IsLeaf (w.l c)
  outer = replaces_leaf w stage sound c card_said same_keys

  -- ranks rise to the new leaf
  rises_to : rank w (w.p c) < rank w (right_leaf c)
  rises_to = elim (cases_eq w.flat_from 0) [
    | inl plain ↦ (
        let above = card_said.above in let before = card_said.before in
        let a = rank_plain w plain (w.l c) in let b = rank_plain w plain (right_leaf c) in omega arith)
    | inr some ↦ leaf_deepest w (w.p c) (right_leaf c) (omega arith) card_said.parent.inner (λ h. omega arith)
  ]

  -- what the exchange does to the tree
  its_shape : Replaces (rank w) w.key w.child leaf_words.child (w.p c) (insert_side w c) (w.l c) (right_leaf c)
  its_shape = record {
    relinks = its_relinks w stage sound c flagged (right_leaf c);
    was = its_child w stage sound c flagged;
    leaf = outer;
    node = λ h. omega arith;
    rises = rises_to;
    same = new_key;
  }

  not_new : (x : ℕ) → Born stage x → x ≢ right_leaf c
  not_new x born e = not_born w stage sound c flagged x (omega arith) born

  out_after : (x : ℕ) → Born stage x → IsOut w x → IsOut leaf_words x
  out_after x born out =
      let there = parent_in w stage sound c flagged in
      stays_out w.key w.child leaf_words.child top (w.p c) (insert_side w c) (w.l c) (right_leaf c) its_shape
      sound.tree.ordered there.low there.high there.spans card_said.parent.inner
      (Born stage) (closed w stage sound c flagged) not_new card_said.lower x born out

  course_after : (k x : ℕ) → Born stage x → IsOnCourse w k x → IsOnCourse leaf_words k x
  course_after k x born course =
      let there = parent_in w stage sound c flagged in
      course_lifts (opening_from w.flat_from) w.key w.child leaf_words.child top (closed w stage sound c flagged)
      (λ j y b h. ordinary (OnCourse-replace w.key w.child leaf_words.child top (w.p c) (insert_side w c) (w.l c) (right_leaf c) its_shape
      sound.tree.ordered there.low there.high there.spans card_said.parent.inner
      (Born stage) (closed w stage sound c flagged) not_new card_said.lower j b h))
      out_after (out_kept w stage sound c flagged (right_leaf c)) k born course

  -- a flat tree is a trie still
  its_swap : 0 < w.flat_from
      → LeafSwap (Born stage) (opening_from w.flat_from) w.key w.child leaf_words.child top (w.p c) (insert_side w c) (w.l c) (right_leaf c)
  its_swap some = record {
    relinks = its_relinks w stage sound c flagged (right_leaf c);
    was = its_child w stage sound c flagged;
    from = card_said.parent.inner;
    there = parent_in w stage sound c flagged;
    leaf = outer;
    outer = λ h. omega arith;
    same = new_key;
    plain = plain_by w.flat_from (right_leaf c) (new_block w stage sound c flagged some (right_leaf c) (omega arith));
    fresh = not_born w stage sound c flagged (right_leaf c) (omega arith);
  }

  trie_after : 0 < w.flat_from → IsTrie (Born leaf_stages) (opening_from w.flat_from) w.key leaf_words.child
  trie_after some = same_born before later (trie_swap (sound.tree.trie some) (its_swap some))
    where
      before : (x : ℕ) → IsInternal x → Born leaf_stages x → BornLeaf (Born stage) (right_leaf c) x
      before x inner born = elim (cases_eq (card x) c) [
        | inl e ↦ absurd (no_inner (x % 4) inner (ap (λ s. is_node_born s (x % 4)) (sym (put_same stage c RChanged)) ∙ (ap (λ n. is_node_born (leaf_stages n) (x % 4)) (sym e) ∙ born)))
        | inr n ↦ inl (ap (λ s. is_node_born s (x % 4)) (sym (put_other stage c RChanged (card x) n)) ∙ born)
      ]

      later : (x : ℕ) → BornLeaf (Born stage) (right_leaf c) x → Born leaf_stages x
      later x (inl born) = ap (λ s. is_node_born s (x % 4)) (put_other stage c RChanged (card x) (λ e. not_born w stage sound c flagged x e born)) ∙ born
      later x (inr e) = subst (Born leaf_stages) (sym e)
          (ap (λ n. is_node_born (leaf_stages n) (right_leaf c % 4)) (right_card c) ∙ (ap (λ s. is_node_born s (right_leaf c % 4)) (put_same stage c RChanged) ∙ place_two (right_leaf c % 4) (omega arith)))

  in_after : (x : ℕ) → IsInternal x → IsIn w x → IsIn leaf_words x
  in_after x inner place = elim (Spans-still w.key w.child leaf_words.child top (w.p c) (insert_side w c) (w.l c) (right_leaf c) its_shape place.spans) [
    | inl e ↦ absurd (outer (subst IsInternal e inner))
    | inr spans ↦ record { low = place.low; high = place.high; spans = spans }
  ]

  leads_still : (k value x : ℕ) → k ≢ insert_key w c → LeadsToValue w k value x → LeadsToValue leaf_words k value x
  leads_still k value x other leads =
      Meets-replaced w.key w.child leaf_words.child top (w.p c) (insert_side w c) (w.l c) (right_leaf c) its_shape k (λ e. other (e ∙ sym key_is)) leads

  led_before : (k value x : ℕ) → k ≢ insert_key w c → LeadsToValue leaf_words k value x → LeadsToValue w k value x
  led_before k value x other leads =
      Meets-unreplaced w.key w.child leaf_words.child top (w.p c) (insert_side w c) (w.l c) (right_leaf c) its_shape k (λ e. other (e ∙ sym key_is)) leads

  key_gained : LeadsToValue leaf_words (insert_key w c) (insert_value w c) 0
  key_gained =
      let there = parent_in w stage sound c flagged in
      subst (λ k. LeadsToValue leaf_words k (insert_value w c) 0) (sym key_is)
      (Meets-new w.key w.child leaf_words.child top (w.p c) (insert_side w c) (w.l c) (right_leaf c) its_shape
      sound.tree.ordered there.low there.high there.spans card_said.parent.inner (sym owns.1))

  -- the key was in the tree, with the old leaf's value
  pub key_had : LeadsToValue w (insert_key w c) (w.value (w.l c)) 0
  key_had =
      let there = parent_in w stage sound c flagged in
      subst (λ k. LeadsToValue w k (w.value (w.l c)) 0) (sym key_is)
      (Meets-old w.key w.child leaf_words.child top (w.p c) (insert_side w c) (w.l c) (right_leaf c) its_shape
      sound.tree.ordered there.low there.high there.spans card_said.parent.inner refl)

  -- the card brings its right leaf
  pub brings_leaf : Brings w stage c (right_leaf c) RChanged
  brings_leaf = let before = card_said.before in record {
    fresh = inr refl;
    above = omega arith;
    rises = its_shape.rises;
    on_card = omega arith;
    born = place_two (right_leaf c % 4) (omega arith);
    key = sym (card_said.node_key.greater (inr same_keys) ∙ max_is (w.key (left_leaf c)) (w.key (right_leaf c)) card_said.ordered);
    kind = ap not (sym one);
    inner = λ x inner e born. absurd (no_inner (x % 4) inner born);
    ordered = IsOrdered-replace w.key w.child leaf_words.child top (w.p c) (insert_side w c) (w.l c) (right_leaf c) its_shape sound.tree.ordered;
    trie = trie_after;
    course = course_after;
    out = out_after;
    inside = in_after;
    still = leads_still;
    before = led_before;
    gained = key_gained;
  }

  -- the pairs of the tree afterwards are those of other keys, and the card's
  pub pairs_replaced : (k v : ℕ) → LeadsToValue leaf_words k v 0
      ↔ ((LeadsToValue w k v 0 × (k ≢ insert_key w c)) ⊎ ((k ≡ insert_key w c) × (v ≡ insert_value w c)))
  pairs_replaced k v = elim (cases_eq k (insert_key w c)) [
    | inl e ↦ (
      λ h. inr (e, one_value leaf_words (insert_key w c) v (insert_value w c) (subst (λ z. LeadsToValue leaf_words z v 0) e h) key_gained),
      λ h. elim h [
        | inl g ↦ absurd (g.1 e)
        | inr f ↦ subst (λ z. LeadsToValue leaf_words z v 0) (sym e) (subst (λ u. LeadsToValue leaf_words (insert_key w c) u 0) (sym f.1) key_gained)
      ],
    )
    | inr n ↦ (λ h. inl (led_before k v 0 n h, n), λ h. elim h [ inl g ↦ leads_still k v 0 n g.0 | inr e ↦ absurd (n e.0) ])
  ]
