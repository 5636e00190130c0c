use Rattle.std.proofs.Common.{◌≡◌, ℕ, ◌%◌, ◌==◌, ◌||◌, ◌<◌, ◌^◌, min, Bool, true, false, not, inl, inr, refl, sym, ap, ◌∙◌, subst, arith}
use Rattle.std.proofs.lemmas.Bool.{lt-ltb}
use Rattle.ell_word.specs.Node.{IsInternal, IsNode, card, internal, left_leaf, right_leaf}
use Rattle.ell_block.specs.Blocks.{IsBranchOf, InBlockOf}
use Rattle.ell_layout.specs.Words.{Words, has_block}
use Rattle.ell_layout.specs.Cards.{is_replace_card}
use Rattle.ell_trie.specs.Ranges.{root, goes, IsOrdered}
use Rattle.ell_trie.specs.Halves.{IsBranchBeside}
use Rattle.ell_trie.specs.Tries.{Opening, IsTrie}
use Rattle.ell_trie.specs.Links.{InsertAbove, BornWith, InsertKeeps}
use Rattle.ell_trie.proofs.lemmas.Paths.{rank_rises, same_born}
use Rattle.ell_trie.proofs.lemmas.links.Laws.{its_link, link_keeps}
use Rattle.ell_trie.proofs.lemmas.links.Ranges.{reached_after}
use Rattle.ell_core.specs.tree.Flat.{opening_from}
use Rattle.ell_core.specs.tree.Rank.{rank}
use Rattle.ell_core.specs.history.Stages.{Stages, IFlagged, IChanged, insert_waits, Born}
use Rattle.ell_core.specs.history.Invariant.{top, IsIn, insert_key, insert_value, insert_side, InsertCard, WordsAreSound}
use Rattle.ell_core.proofs.lemmas.stages.Order.{all-born}
use Rattle.ell_core.proofs.lemmas.tree.Blocks.{plain_by, block_by, leaf_block, lacks_by, lacks_inner}
use Rattle.ell_core.proofs.lemmas.tree.Paths.{internal_or_leaf}
use Rattle.ell_core.proofs.lemmas.tree.Ranks.{rank_flat, ordered_flat}
use Rattle.ell_core.proofs.lemmas.tree.Reached.{leads_some, Spans-reached, key_below}
use Rattle.ell_core.proofs.lemmas.words.Sides.{node_key-between, min_is, max_is}
use Rattle.ell_core.proofs.lemmas.keeping.insert_child.Card.{ichild_words, its_card, its_child, its_relinks, parent_in, key_side, key_in_block, new_block, not_born}
use Rattle.ell_core.proofs.lemmas.keeping.insert_child.Nodes.{Adds, its_order, its_keys, below_child, child_key, own_leaf, own_value, born_back, born_here, born_still, new_kept, its_inner, leaf_on, node_stages}

-- a flat tree, and a card whose leaf keys are two: it adds a key
module _ (w : Words) (stage : Stages) (sound : WordsAreSound w stage) (c : ℕ) (flagged : stage c ≡ IFlagged) (two : is_replace_card w c ≡ false)
    (some : 0 < w.flat_from) where
  abbrev card_said : InsertCard w stage c
  card_said = its_card w stage sound c flagged

  abbrev node_words : Words
  node_words = ichild_words w c (internal c)

  abbrev o : Opening
  o = opening_from w.flat_from

  trie : IsTrie (Born stage) o w.key w.child
  trie = sound.tree.trie some

  -- the card's node is not of the opening tree
  new_plain : (x : ℕ) → card x ≡ c → o.holds x ≡ false
  new_plain x e = plain_by w.flat_from x (new_block w stage sound c flagged some x e)

  -- its key is the branch of the two leaf keys
  branch_is : IsBranchOf (w.key (left_leaf c)) (w.key (right_leaf c)) (w.key (internal c))
  branch_is =
      let less = its_order w stage sound c flagged two in
      let least = min_is (w.key (left_leaf c)) (w.key (right_leaf c)) card_said.ordered in
      let most = max_is (w.key (left_leaf c)) (w.key (right_leaf c)) card_said.ordered in
      subst (λ n. IsBranchOf n (w.key (right_leaf c)) (w.key (internal c))) least
      (subst (λ n. IsBranchOf (min (w.key (left_leaf c)) (w.key (right_leaf c))) n (w.key (internal c))) most
      (card_said.node_key.branch some (λ e. omega arith)))

  -- the half of its block in which the card's own key is; in the other one is the key of the node where it goes
  record Halves (half : Bool) : Type 0 where
    pub own : w.key (leaf_on w stage sound c flagged two half) ≡ insert_key w c
    pub old : w.key (leaf_on w stage sound c flagged two (not half)) ≡ w.key (w.l c)
    pub parts : IsBranchBeside half (w.key (w.l c)) (insert_key w c) (w.key (internal c))

  its_half : (half : Bool) × Halves half
  its_half = elim (its_keys w stage sound c flagged two) [
    | inl h ↦ (
      true,
      record {
        own = h.1;
        old = h.0;
        parts = subst (λ n. IsBranchOf n (insert_key w c) (w.key (internal c))) h.0
            (subst (λ n. IsBranchOf (w.key (left_leaf c)) n (w.key (internal c))) h.1 branch_is);
      },
    )
    | inr h ↦ (
      false,
      record {
        own = h.0;
        old = h.1;
        parts = subst (λ n. IsBranchOf n (w.key (w.l c)) (w.key (internal c))) h.0
            (subst (λ n. IsBranchOf (w.key (left_leaf c)) n (w.key (internal c))) h.1 branch_is);
      },
    )
  ]

  -- the key of the node where the card goes is below that of all keys
  old_small : w.key (w.l c) < top
  old_small =
      let there = parent_in w stage sound c flagged in
      let reached = Spans-reached w (goes (insert_side w c) there.spans card_said.parent.inner (sym (its_child w stage sound c flagged)) refl refl) in
      (key_below w sound.tree.ordered 0 0 top reached.path (w.l c) (root refl refl refl) reached.leads).1

  new_small : w.key (internal c) < 2 ^ 64
  new_small =
      let between = node_key-between card_said.node_key card_said.ordered in
      let old = old_small in
      let real = card_said.real in
      elim (its_keys w stage sound c flagged two) [ inl h ↦ omega arith | inr h ↦ omega arith ]

  -- the parent is on course for the card's key, which is in its block
  parent_block : o.holds (w.p c) ≡ false → InBlockOf (w.key (w.p c)) (insert_key w c)
  parent_block plain = (key_in_block w stage sound c flagged).inner card_said.parent.inner (block_by w.flat_from (w.p c) plain)

  module _ (half : Bool) (h : Halves half) where
    abbrev new_leaf : ℕ
    new_leaf = w.child (internal c) half

    new_key : w.key new_leaf ≡ insert_key w c
    new_key = child_key w stage sound c flagged two half ∙ h.own

    leaf_is : new_leaf ≡ leaf_on w stage sound c flagged two half
    leaf_is = own_leaf w stage sound c flagged two half new_key

    -- a leaf of the card is no internal node, and is on the card
    leaf_outer : (right : Bool) → ¬ IsInternal (leaf_on w stage sound c flagged two right)
    leaf_outer false = λ i. omega arith
    leaf_outer true = λ i. omega arith

    leaf_card : (right : Bool) → card (leaf_on w stage sound c flagged two right) ≡ c
    leaf_card false = omega arith
    leaf_card true = omega arith

    leaf_node : (right : Bool) → IsNode (leaf_on w stage sound c flagged two right)
    leaf_node false = omega arith
    leaf_node true = omega arith

    -- what the exchange keeps, of whichever kind it is, is what is asked of it
    module _ {BornAfter : ℕ → Type 0}
        (keeps : (value : ℕ) → InsertKeeps (Born stage) BornAfter (λ leaf. w.value leaf ≡ value) o w.key w.child node_words.child top new_leaf (insert_key w c))
        (before : (x : ℕ) → IsInternal x → Born (node_stages w stage sound c flagged two) x → BornAfter x)
        (later : (x : ℕ) → BornAfter x → Born (node_stages w stage sound c flagged two) x)
        (inside : (x : ℕ) → IsInternal x → IsIn w x → IsIn node_words x) where
      trie_now : IsTrie (Born (node_stages w stage sound c flagged two)) o w.key node_words.child
      trie_now = same_born before later (keeps 0).trie

      order_now : IsOrdered w.key node_words.child top (rank w)
      order_now = ordered_flat w node_words.child top some trie_now (keeps 0).ordered.1

      -- ranks rise to the card's node, and from there
      rises_to : rank w (w.p c) < rank w (internal c)
      rises_to =
          let up = rank_rises trie_now (w.p c) (insert_side w c) card_said.parent.inner (born_still w stage sound c flagged two (w.p c) card_said.parent.born) in
          let to = ap (rank w) (its_relinks w stage sound c flagged (internal c)).there in
          let a = rank_flat w some (w.p c) in
          let b = rank_flat w some (node_words.child (w.p c) (insert_side w c)) in
          omega arith

      rises_from : (right : Bool) → rank w (internal c) < rank w (w.child (internal c) right)
      rises_from right =
          let up = rank_rises trie_now (internal c) right (omega arith) (born_here w stage sound c flagged two (internal c) (omega arith) (omega arith)) in
          let to = ap (rank w) (new_kept w stage sound c flagged two right) in
          let a = rank_flat w some (internal c) in
          let b = rank_flat w some (node_words.child (internal c) right) in
          omega arith

      adds_by : Adds w stage c
      adds_by = record {
        brings = record {
          fresh = inl refl;
          above = card_said.before;
          rises = rises_to;
          on_card = omega arith;
          born = all-born IChanged (internal c % 4) (omega arith) refl;
          key = refl;
          kind = ap not (sym two);
          inner = its_inner w stage sound c flagged two order_now inside rises_from;
          ordered = order_now;
          trie = λ more. trie_now;
          course = λ k x born course. (keeps 0).course k x born course;
          out = (keeps 0).out;
          inside = inside;
          still = λ k value x n leads. ((keeps value).others k n x).0 leads;
          before = λ k value x n leads. ((keeps value).others k n x).1 leads;
          gained = (keeps (insert_value w c)).present (own_value w stage sound c flagged two half new_key);
        };
        absent = λ leads. (let there = leads_some w (insert_key w c) leads in (keeps there.0).absent there.1);
      }

    -- the node where the card goes stays, and is the other child
    below_is : w.child (internal c) (not half) ≡ w.l c
    below_is = below_child w stage sound c flagged two (λ t. lt-ltb 0 w.flat_from some t || w.l c % 4 == 0) half h.own h.old

    -- it is not of the opening tree
    old_block : has_block w.flat_from (w.l c) ≡ true
    old_block = elim (internal_or_leaf (w.l c)) [
      | inl inner ↦ lacks_by w (w.l c) (insert_key w c) (card_said.edge inner)
      | inr outer ↦ leaf_block w.flat_from (w.l c) some outer
    ]

    at_edge : InsertAbove (Born stage) o w.key w.child node_words.child top (w.p c) (insert_side w c) (w.l c) (internal c) half new_leaf (insert_key w c)
    at_edge = record {
      shape = record {
        relinks = its_relinks w stage sound c flagged (internal c);
        was = its_child w stage sound c flagged;
        from = card_said.parent.inner;
        node = omega arith;
        outer = λ i. leaf_outer half (subst IsInternal leaf_is i);
        beside = refl;
        below = below_is;
        has = new_key;
        small = new_small;
        old_plain = plain_by w.flat_from (w.l c) old_block;
        new_plain = new_plain (internal c) (omega arith);
        leaf_plain = new_plain new_leaf (ap card leaf_is ∙ leaf_card half);
        fresh = not_born w stage sound c flagged (internal c) (omega arith);
        fresh_leaf = not_born w stage sound c flagged new_leaf (ap card leaf_is ∙ leaf_card half);
      };
      there = parent_in w stage sound c flagged;
      course = (sound.inserts c).course (ap insert_waits flagged);
      inside = parent_block;
      toward = key_side w stage sound c flagged;
      lacks = λ inner. lacks_inner w (w.l c) (insert_key w c) inner (card_said.edge inner);
      parts = h.parts;
    }

    before_edge : (x : ℕ) → IsInternal x → Born (node_stages w stage sound c flagged two) x → BornWith (Born stage) (internal c) new_leaf x
    before_edge x inside born = elim (born_back w stage sound c flagged two x born) [
      | inl e ↦ inr (inl (omega arith))
      | inr old ↦ inl old
    ]

    later_edge : (x : ℕ) → BornWith (Born stage) (internal c) new_leaf x → Born (node_stages w stage sound c flagged two) x
    later_edge x (inl born) = born_still w stage sound c flagged two x born
    later_edge x (inr (inl e)) = born_here w stage sound c flagged two x (omega arith) (omega arith)
    later_edge x (inr (inr e)) = subst (Born (node_stages w stage sound c flagged two)) (sym (e ∙ leaf_is))
        (born_here w stage sound c flagged two (leaf_on w stage sound c flagged two half) (leaf_node half) (leaf_card half))

    adds_edge : Adds w stage c
    adds_edge =
        let link = its_link trie sound.tree.ordered at_edge in
        adds_by (λ value. link_keeps trie sound.tree.ordered link) before_edge later_edge (λ x i there. reached_after trie link x there)

  -- the card adds its key, and brings its internal node
  pub adds_flat : Adds w stage c
  adds_flat = adds_edge its_half.0 its_half.1
