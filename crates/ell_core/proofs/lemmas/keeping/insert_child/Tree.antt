use Rattle.std.proofs.Common.{◌≡◌, ◌≢◌, ℕ, ◌%◌, ◌<◌, ◌≤◌, ◌↔◌, ◌||◌, Bool, true, false, not, nat_le, nat_lt, inl, inr, ◌⊎◌, refl, sym, ap, ◌∙◌, subst, arith}
use Rattle.std.proofs.lemmas.Bool.{ne_eqb}
use Rattle.std.proofs.lemmas.Bool.Decides.{nat_tests}
use Rattle.ell_word.specs.Node.{IsInternal, internal, left_leaf, right_leaf}
use Rattle.ell_layout.specs.Words.{Words, IsLeaf, is_flat}
use Rattle.ell_layout.specs.Cards.{is_replace_card, stays_below}
use Rattle.ell_trie.specs.Ranges.{Spans, IsOrdered}
use Rattle.ell_core.specs.history.Stages.{Stages, IFlagged, IChanged, Born}
use Rattle.ell_core.specs.history.Invariant.{top, IsIn, IsOut, LeadsTo, LeadsToValue, IsOnCourse, insert_key, insert_value, insert_side, InsertCard, WordsAreSound}
use Rattle.ell_core.proofs.lemmas.stages.Order.{all-born}
use Rattle.ell_trie.proofs.lemmas.order.Inserts.{Inserts, Spans-stays, IsOrdered-insert, Meets-inserted, Meets-before, Meets-new, absent_before}
use Rattle.ell_trie.proofs.lemmas.order.Courses.{OnCourse-insert, stays_out}
use Rattle.ell_core.proofs.lemmas.keeping.insert_child.Card.{ichild_words, its_card, its_child, its_relinks, parent_in, key_range, leaf_range, closed, not_born, out_kept}
use Rattle.ell_core.proofs.lemmas.keeping.insert_child.Nodes.{Adds, its_order, its_keys, key_differs, own_child, new_keys, its_inner, copied_value, own_value}
use Rattle.ell_core.proofs.lemmas.tree.Blocks.{no_block-plain}
use Rattle.ell_core.proofs.lemmas.tree.Ranks.{rank_plain}
use Rattle.ell_core.proofs.lemmas.words.Sides.{max_is}
use Rattle.ell_trie.specs.Courses.{ordinary}
use Rattle.ell_trie.proofs.lemmas.Courses.{course_lifts}
use Rattle.ell_core.specs.tree.Flat.{opening_from}
use Rattle.ell_core.specs.tree.Rank.{rank}

-- the walk for one of two keys goes to the leaf of that key
to_its_leaf : (key_at : Bool → ℕ) (a b middle z : ℕ) → key_at false ≡ a → key_at true ≡ b → middle ≡ b → a < b
    → (z ≡ a) ⊎ (z ≡ b) → (right : Bool) → nat_le middle z ≡ right → key_at right ≡ z
to_its_leaf key_at a b middle z on_left on_right greater less one true test =
    let o : middle ≤ z = grind (arith, nat_tests) in omega arith
to_its_leaf key_at a b middle z on_left on_right greater less one false test =
    let o : z < middle = grind (arith, nat_tests) in omega arith

-- a tree that is not flat, and a card whose leaf keys are two: it adds a key
module _ (w : Words) (stage : Stages) (sound : WordsAreSound w stage) (c : ℕ) (flagged : stage c ≡ IFlagged) (two : is_replace_card w c ≡ false)
    (plain : w.flat_from ≡ 0) where
  abbrev card_said : InsertCard w stage c
  card_said = its_card w stage sound c flagged

  abbrev node_words : Words
  node_words = ichild_words w c (internal c)

  -- it goes to a leaf
  outer : IsLeaf (w.l c)
  outer inner = card_said.edge inner (no_block-plain w (w.l c) (insert_key w c) plain)

  -- ranks are numbers
  number_rises : (x y : ℕ) → x < y → rank w x < rank w y
  number_rises x y less = let a = rank_plain w plain x in let b = rank_plain w plain y in omega arith

  -- which does not stay
  none_stays : stays_below (is_flat w) (w.l c) ≡ false
  none_stays = λ t. nat_lt 0 (plain t) || ne_eqb (w.l c % 4) 0 outer t

  -- the children of the new node are the card's leaves
  left_is : w.child (internal c) false ≡ left_leaf c
  left_is = own_child w stage sound c flagged two none_stays false

  right_is : w.child (internal c) true ≡ right_leaf c
  right_is = own_child w stage sound c flagged two none_stays true

  new_child : (right : Bool) → (w.child (internal c) right ≡ left_leaf c) ⊎ (w.child (internal c) right ≡ right_leaf c)
  new_child false = inl left_is
  new_child true = inr right_is

  -- the node has the greater key
  node_key_is : w.key (internal c) ≡ w.key (right_leaf c)
  node_key_is = card_said.node_key.greater (inl plain) ∙ max_is (w.key (left_leaf c)) (w.key (right_leaf c)) card_said.ordered

  -- the walk for such a key goes to the leaf of that key
  goes_to : (z : ℕ) → (z ≡ w.key (left_leaf c)) ⊎ (z ≡ w.key (right_leaf c))
      → w.key (w.child (internal c) (nat_le (w.key (internal c)) z)) ≡ z
  goes_to z one =
      to_its_leaf (λ right. w.key (w.child (internal c) right)) (w.key (left_leaf c)) (w.key (right_leaf c))
      (w.key (internal c)) z (ap w.key left_is) (ap w.key right_is)
      node_key_is (its_order w stage sound c flagged two) one (nat_le (w.key (internal c)) z) refl

  keys_are : ((w.key (left_leaf c) ≡ w.key (w.l c)) × (w.key (right_leaf c) ≡ insert_key w c))
      ⊎ ((w.key (left_leaf c) ≡ insert_key w c) × (w.key (right_leaf c) ≡ w.key (w.l c)))
  keys_are = its_keys w stage sound c flagged two

  -- what the exchange does to the tree
  its_shape :
      Inserts (rank w) w.key w.child node_words.child top (w.p c) (insert_side w c) (w.l c) (internal c) (insert_key w c)
  its_shape =
      let a = ap w.key left_is in
      let b = ap w.key right_is in
      let less = its_order w stage sound c flagged two in
      let greater = node_key_is in
      let above = card_said.above in
      let before = card_said.before in
      let up = number_rises (w.l c) (internal c) before in
      record {
        relinks = its_relinks w stage sound c flagged (internal c);
        was = its_child w stage sound c flagged;
        leaf = outer;
        node = omega arith;
        leaves = λ right. elim (new_child right) [ inl e ↦ (λ h. omega arith) | inr e ↦ (λ h. omega arith) ];
        apart = λ h. let same = ap (rank w) h in omega arith;
        rises = omega arith;
        above = λ right. number_rises (internal c) (w.child (internal c) right) (elim (new_child right) [ inl e ↦ omega arith | inr e ↦ omega arith ]);
        left_low = omega arith;
        right_high = b ∙ sym greater;
        old_key = goes_to (w.key (w.l c)) (elim keys_are [ inl h ↦ inl (sym h.0) | inr h ↦ inr (sym h.1) ]);
        new_key = goes_to (insert_key w c) (elim keys_are [ inl h ↦ inr (sym h.1) | inr h ↦ inl (sym h.0) ]);
        only = new_keys w stage sound c flagged two;
        leads = leaf_range w stage sound c flagged;
      }

  -- the tree is in order afterwards
  ordered_after : IsOrdered w.key node_words.child top (rank w)
  ordered_after =
      IsOrdered-insert w.key w.child node_words.child top (w.p c) (insert_side w c) (w.l c) (internal c)
      (insert_key w c) its_shape sound.tree.ordered

  not_node : (x : ℕ) → Born stage x → x ≢ internal c
  not_node x born e = not_born w stage sound c flagged x (omega arith) born

  not_leaf : (x : ℕ) (right : Bool) → Born stage x → x ≢ w.child (internal c) right
  not_leaf x right born e = elim (new_child right) [
    | inl h ↦ not_born w stage sound c flagged x (omega arith) born
    | inr h ↦ not_born w stage sound c flagged x (omega arith) born
  ]

  -- a node that was cut out stays so
  out_after : (x : ℕ) → Born stage x → IsOut w x → IsOut node_words x
  out_after x born out =
      let there = (parent_in w stage sound c flagged) in
      stays_out w.key w.child top sound.tree.ordered node_words.child (w.p c) (insert_side w c) (w.l c)
      (internal c) (insert_key w c) its_shape there.low there.high there.spans card_said.parent.inner
      (Born stage) (closed w stage sound c flagged) not_node not_leaf card_said.lower x born out

  -- a node on course for a key stays so
  course_after : (k : ℕ) (x : ℕ) → Born stage x → IsOnCourse w k x → IsOnCourse node_words k x
  course_after k x born course =
      let there = (parent_in w stage sound c flagged) in
      course_lifts (opening_from w.flat_from) w.key w.child node_words.child top (closed w stage sound c flagged)
      (λ j y b h. ordinary (OnCourse-insert w.key w.child top sound.tree.ordered node_words.child (w.p c) (insert_side w c) (w.l c)
      (internal c) (insert_key w c) its_shape there.low there.high there.spans card_said.parent.inner
      (Born stage) (closed w stage sound c flagged) not_node not_leaf card_said.lower j b h))
      out_after (out_kept w stage sound c flagged (internal c)) k born course

  spans_still : {x low high : ℕ} → Spans w.key w.child top x low high
      → (x ≡ w.l c) ⊎ Spans w.key node_words.child top x low high
  spans_still spans =
      Spans-stays w.key w.child node_words.child top (w.p c) (insert_side w c) (w.l c) (internal c)
      (insert_key w c) its_shape spans

  -- an internal node of the tree stays there
  in_after : (x : ℕ) → IsInternal x → IsIn w x → IsIn node_words x
  in_after x inner place = elim (spans_still place.spans) [
    | inl e ↦ absurd (outer (subst IsInternal e inner))
    | inr spans ↦ record { low = place.low; high = place.high; spans = spans }
  ]

  copies : (value : ℕ) (right : Bool) → w.key (w.child (internal c) right) ≡ w.key (w.l c)
      → (w.value (w.child (internal c) right) ≡ value) ↔ (w.value (w.l c) ≡ value)
  copies value right same =
      let copy = copied_value w stage sound c flagged two none_stays outer right same in (λ e. sym copy ∙ e, λ e. copy ∙ e)

  -- every other key is met as before, with its value
  leads_still : (k value x : ℕ) → k ≢ insert_key w c → LeadsToValue w k value x → LeadsToValue node_words k value x
  leads_still k value x other leads =
      Meets-inserted w.key w.child node_words.child top (w.p c) (insert_side w c) (w.l c) (internal c)
      (insert_key w c) its_shape (copies value) k other leads

  -- and no further one
  led_before : (k value x : ℕ) → k ≢ insert_key w c → LeadsToValue node_words k value x → LeadsToValue w k value x
  led_before k value x other leads =
      Meets-before w.key w.child node_words.child top (w.p c) (insert_side w c) (w.l c) (internal c)
      (insert_key w c) its_shape (copies value) k other leads

  -- the card's key is in the tree afterwards, with the card's value
  key_gained : LeadsToValue node_words (insert_key w c) (insert_value w c) 0
  key_gained =
      let there = (parent_in w stage sound c flagged) in
      let range = key_range w stage sound c flagged there.low there.high there.spans in
      Meets-new w.key w.child node_words.child top (w.p c) (insert_side w c) (w.l c) (internal c)
      (insert_key w c) its_shape sound.tree.ordered there.low there.high there.spans card_said.parent.inner range.0 range.1
      (own_value w stage sound c flagged two (nat_le (w.key (internal c)) (insert_key w c)) its_shape.new_key)

  -- and was not before
  key_absent : ¬ LeadsTo w (insert_key w c) 0
  key_absent =
      let there = (parent_in w stage sound c flagged) in
      let range = key_range w stage sound c flagged there.low there.high there.spans in
      absent_before w.key w.child node_words.child top (w.p c) (insert_side w c) (w.l c) (internal c)
      (insert_key w c) its_shape sound.tree.ordered there.low there.high there.spans card_said.parent.inner
      range.0 range.1 (key_differs w stage sound c flagged two)

  -- the card adds its key, and brings its internal node
  pub adds_plain : Adds w stage c
  adds_plain = record {
    brings = record {
      fresh = inl refl;
      above = card_said.before;
      rises = its_shape.rises;
      on_card = omega arith;
      born = all-born IChanged (internal c % 4) (omega arith) refl;
      key = refl;
      kind = ap not (sym two);
      inner = its_inner w stage sound c flagged two ordered_after in_after (λ right. its_shape.above right);
      ordered = ordered_after;
      trie = λ some. absurd (omega arith);
      course = course_after;
      out = out_after;
      inside = in_after;
      still = leads_still;
      before = led_before;
      gained = key_gained;
    };
    absent = key_absent;
  }
