use Rattle.std.proofs.Common.{◌≡◌, ◌≢◌, ℕ, ◌%◌, ◌<◌, ◌≤◌, Bool, true, false, nat_le, inl, inr, ◌⊎◌, refl, sym, ap, ◌∙◌, subst, arith}
use Rattle.std.proofs.lemmas.Bool.{cases_eq, false≢true, leb-false, leb-true}
use Rattle.std.proofs.lemmas.Bool.Decides.{nat_tests}
use Rattle.ell_word.specs.Node.{IsInternal, card, internal, right_leaf, infinity1, infinity2}
use Rattle.ell_layout.specs.Words.{Words}
use Rattle.ell_layout.specs.Cards.{marked, clean}
use Rattle.ell_core.specs.history.Stages.{Stage, Stages, IFlagged, IChanged, RChanged, is_claimed, is_born, is_node_born, insert_open, delete_open, is_marked, Born}
use Rattle.ell_core.specs.history.Invariant.{IsIn, insert_key, insert_side, ChildrenAreSound, UpdateIsSound, TreeIsSound, WordsAreSound}
use Rattle.ell_core.proofs.lemmas.tree.Reached.{leads_any, leads_some}
use Rattle.ell_layout.proofs.lemmas.Writes.{put_same, put_other}
use Rattle.ell_core.proofs.lemmas.keeping.insert_child.Card.{Brings, just_changed, ichild_words, ichild_stages, its_card, its_child, its_relinks, its_tag}
use Rattle.ell_core.proofs.lemmas.keeping.insert_child.Cards.{as_before, still, stages_after, card_after, insert_after, delete_after}
use Rattle.ell_core.specs.tree.Rank.{rank}
use Rattle.ell_core.proofs.lemmas.words.Later.{tags_below}
use Rattle.ell_core.proofs.lemmas.stages.Kinds.{starts_later}

-- a key and one that is at least the node's are not on the same side if the key is less
not_same_side : (at k old : ℕ) → k < at → old ≡ at → nat_le at k ≡ nat_le at old → ⊥
not_same_side at k old less same h = grind (arith, nat_tests)

module _ (w : Words) (stage : Stages) (sound : WordsAreSound w stage) (c : ℕ) (flagged : stage c ≡ IFlagged)
    (q : ℕ) (now : Stage) (b : Brings w stage c q now) where
  abbrev after : Words
  after = ichild_words w c q

  abbrev stages : Stages
  stages = ichild_stages stage c now

  both : (P : Stage → Type 0) → P IChanged → P RChanged → P now
  both P insert replace = just_changed P now b.fresh insert replace

  new_there : (x : ℕ) (right : Bool) → (x ≡ w.p c) × (right ≡ insert_side w c)
      → after.child x right ≡ q
  new_there x right h =
      ap (λ n. after.child n right) h.0
      ∙ (ap (after.child (w.p c)) h.1 ∙ (its_relinks w stage sound c flagged q).there)

  -- the node came into the tree
  born_here : Born stages q
  born_here = ap (λ n. is_node_born (stages n) (q % 4)) b.on_card ∙ (ap (λ s. is_node_born s (q % 4)) (put_same stage c now) ∙ b.born)

  -- none but the card's did
  born_back : (x : ℕ) → Born stages x → ((card x ≡ c) × (is_node_born now (x % 4) ≡ true)) ⊎ Born stage x
  born_back x born = elim (cases_eq (card x) c) [
    | inl e ↦ inl (e, ap (λ s. is_node_born s (x % 4)) (sym (put_same stage c now)) ∙ (ap (λ n. is_node_born (stages n) (x % 4)) (sym e) ∙ born))
    | inr n ↦ inr (ap (λ s. is_node_born s (x % 4)) (sym (put_other stage c now (card x) n)) ∙ born)
  ]

  born_child : (x : ℕ) (right : Bool) → IsInternal x → Born stage x
      → Born stages (after.child x right)
  born_child x right inner born = elim ((its_relinks w stage sound c flagged q).others x right) [
    | inl h ↦ subst (Born stages) (sym (new_there x right h)) born_here
    | inr e ↦ subst (Born stages) (sym e)
        ((stages_after w stage sound c flagged q now b).born (w.child x right) ((sound.children x inner born).born right))
  ]

  left_after : (x : ℕ) → IsInternal x → Born stage x → w.key (after.child x false) < w.key x
  left_after x inner born = elim ((its_relinks w stage sound c flagged q).others x false) [
    | inl h ↦ (let less = leb-false (w.key (w.p c)) (w.key (internal c)) (sym h.1) in
        let a = ap w.key (new_there x false h) ∙ b.key in
        let at = ap w.key h.0 in
        omega arith)
    | inr e ↦ (let less = (sound.children x inner born).left_less in let a = ap w.key e in omega arith)
  ]

  right_after : (x : ℕ) → IsInternal x → Born stage x → w.key x ≤ w.key (after.child x true)
  right_after x inner born = elim ((its_relinks w stage sound c flagged q).others x true) [
    | inl h ↦ (let more = leb-true (w.key (w.p c)) (w.key (internal c)) (sym h.1) in
        let a = ap w.key (new_there x true h) ∙ b.key in
        let at = ap w.key h.0 in
        omega arith)
    | inr e ↦ (let more = (sound.children x inner born).right_more in let a = ap w.key e in omega arith)
  ]

  rising_after : (x : ℕ) → IsInternal x → Born stage x → (right : Bool) → rank w x < rank w (after.child x right)
  rising_after x inner born right = elim ((its_relinks w stage sound c flagged q).others x right) [
    | inl h ↦ (let up = b.rises in let at = ap (rank w) h.0 in let to = ap (rank w) (new_there x right h) in omega arith)
    | inr e ↦ (let less = (sound.children x inner born).rising right in let to = ap (rank w) e in omega arith)
  ]

  -- the children of each node are sound afterwards
  pub children_after : (x : ℕ) → IsInternal x → Born stages x
      → ChildrenAreSound after stages x
  children_after x inner born = elim (born_back x born) [
    | inl e ↦ (b.inner x inner e.0 e.1).children
    | inr old ↦ record {
      born = λ right. born_child x right inner old;
      rising = rising_after x inner old;
      left_less = left_after x inner old;
      right_more = right_after x inner old;
    }
  ]

  update_here : (x : ℕ) → w.update x ≡ clean 0 → UpdateIsSound after stages x
  update_here x calm =
      let here = (sound.cards c).claimed.0 (ap is_claimed flagged) in
      record {
        named = omega arith;
        iflagged = λ d h. absurd (omega arith);
        dflagged = λ d h. absurd (omega arith);
        marked = λ d h. absurd (omega arith);
      }

  update_kept : (x : ℕ) → UpdateIsSound w stage x → UpdateIsSound after stages x
  update_kept x a = record {
    named = a.named;
    iflagged = λ d h. (let g = a.iflagged d h in (as_before w stage sound c flagged q now b insert_open (both (λ s. insert_open s ≡ true) refl refl) d ∙ g.0, g.1));
    dflagged = λ d h. (let g = a.dflagged d h in (still w stage sound c flagged q now b delete_open false≢true d g.0, g.1));
    marked = λ d h. (let g = a.marked d h in (still w stage sound c flagged q now b is_marked false≢true d g.0, g.1));
  }

  -- the update word of each node is sound afterwards
  pub update_after : (x : ℕ) → IsInternal x → Born stages x
      → UpdateIsSound after stages x
  update_after x inner born = elim (born_back x born) [
    | inl e ↦ update_here x (b.inner x inner e.0 e.1).calm
    | inr old ↦ update_kept x (sound.updates x inner old)
  ]

  -- the root's right child is no leaf that an insert replaces
  not_root : (0 ≡ w.p c) × (true ≡ insert_side w c) → ⊥
  not_root h =
      let its = its_card w stage sound c flagged in
      let real = its.real in
      let a : w.l c ≡ right_leaf 0 =
      sym (its_child w stage sound c flagged)
      ∙ (ap (w.child (w.p c)) (sym h.1) ∙ (ap (λ n. w.child n true) (sym h.0) ∙ sound.tree.root_right)) in
      let at : w.key (w.l c) ≡ infinity2 = ap w.key a ∙ sound.tree.right_key in
      let k : w.key (w.p c) ≡ infinity2 = ap w.key (sym h.0) ∙ sound.tree.root_key in
      not_same_side (w.key (w.p c)) (insert_key w c) (w.key (w.l c)) (omega arith) (omega arith) its.side

  there_after : (x : ℕ) → IsInternal x → Born stages x → ((d : ℕ) → w.update x ≢ marked d)
      → IsIn after x
  there_after x inner born calm = elim (born_back x born) [
    | inl e ↦ (b.inner x inner e.0 e.1).there
    | inr old ↦ b.inside x inner (sound.tree.there x inner old calm)
  ]

  -- the tree is sound afterwards
  pub tree_after : TreeIsSound after stages
  tree_after = record {
    ordered = b.ordered;
    trie = b.trie;
    root_key = sound.tree.root_key;
    root_right = elim ((its_relinks w stage sound c flagged q).others 0 true) [
      | inl h ↦ absurd (not_root h)
      | inr e ↦ e ∙ sound.tree.root_right
    ];
    right_key = sound.tree.right_key;
    last =
        let real = (its_card w stage sound c flagged).real in
        let there = leads_some w infinity1 sound.tree.last in
        leads_any after infinity1 there.0 0 (b.still infinity1 there.0 0 (λ e. omega arith) there.1);
    there = there_after;
  }

  not_opening : 0 ≢ c
  not_opening e = false≢true (sym (ap is_born flagged) ∙ (ap (λ n. is_born (stage n)) (sym e) ∙ ap is_born sound.opening))

  -- all words are sound afterwards
  pub sound_after : WordsAreSound after stages
  sound_after = record {
    opening = put_other stage c now 0 not_opening ∙ sound.opening;
    flat = λ some. starts_later w.flat_from stage stages (stages_after w stage sound c flagged q now b).start (sound.flat some);
    tags = (
        let expected = (its_card w stage sound c flagged).expected in
        let tag = its_tag w stage sound c flagged in
        let claimed = (sound.cards c).claimed.0 (ap is_claimed flagged) in
        tags_below w (w.p c) q (insert_side w c) w.next (omega arith) sound.tags);
    cards = card_after w stage sound c flagged q now b;
    inserts = insert_after w stage sound c flagged q now b;
    deletes = delete_after w stage sound c flagged q now b;
    children = children_after;
    updates = update_after;
    tree = tree_after;
  }
