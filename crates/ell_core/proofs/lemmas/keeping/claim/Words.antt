use Rattle.std.proofs.Common.{◌≡◌, ◌≢◌, ℕ, ◌<◌, ◌↔◌, Bool, true, false, inl, inr, refl, sym, ap, ◌∙◌, subst, arith}
use Rattle.std.proofs.lemmas.Bool.{cases_eq}
use Rattle.ell_word.specs.Node.{IsInternal, right_leaf, infinity1}
use Rattle.ell_word.specs.Word.{unpacked}
use Rattle.ell_layout.specs.Words.{Words, put}
use Rattle.ell_core.specs.history.Stages.{Stage, Stages, is_claimed, is_start, is_insert, is_delete, is_node_born, insert_open, delete_open, is_marked, Born, IClaimed, DClaimed, insert_won, delete_won}
use Rattle.ell_core.specs.history.Invariant.{top, CardIsSound, ChildrenAreSound, UpdateIsSound, TreeIsSound, WordsAreSound, InsertStage, DeleteStage, insert_side, delete_side}
use Rattle.ell_layout.proofs.lemmas.Writes.{put_other, put_same}
use Rattle.ell_trie.specs.Tries.{IsTrie}
use Rattle.ell_trie.proofs.lemmas.order.Frames.{IsOrdered-ranked}
use Rattle.ell_trie.proofs.lemmas.Frames.{IsTrie-same}
use Rattle.ell_trie.proofs.lemmas.Paths.{same_born}
use Rattle.ell_core.specs.tree.Flat.{opening_from}
use Rattle.ell_core.proofs.lemmas.tree.Reached.{leads_any, leads_some}
use Rattle.ell_core.proofs.lemmas.keeping.claim.Frames.{Claiming, another, kept, born_kept, born_before, key_kept, child_kept, update_kept, closed, in_kept, leads_kept, claim_words, claim_stages, claim_goes_on, just_claimed, tag_kept, tags_stay}
use Rattle.ell_core.proofs.lemmas.keeping.claim.Filling.{others_say}
use Rattle.ell_core.proofs.lemmas.keeping.going_on.Cards.{GoesOn, card_on}
use Rattle.ell_core.proofs.lemmas.keeping.going_on.Stages.{no_insert, no_delete, insert_stage_on, delete_stage_on}
use Rattle.ell_core.proofs.lemmas.stages.Order.{insert_open-insert, delete_open-delete, insert_waits-insert, delete_waits-delete}
use Rattle.ell_core.proofs.lemmas.stages.LaterKeys.{root_born, start_there, rank_later}
use Rattle.ell_core.specs.tree.Rank.{rank}

module _ (w after : Words) (stage : Stages) (new : Stage) (h : Claiming w after stage new) where
  -- the stages after the claim
  abbrev stages : Stages
  stages = put stage w.next new

  -- all goes on
  on : GoesOn w after stage stages
  on = claim_goes_on w after stage new h

  -- the claimed card's stage has no flag yet
  unwon : (f : Stage → Bool) → f IClaimed ≡ false → f DClaimed ≡ false → f (stages w.next) ≡ false
  unwon f no_insert no_delete = ap f (put_same stage w.next new) ∙ just_claimed (λ s. f s ≡ false) new h.fresh no_insert no_delete

  module _ (c : ℕ) (n : c ≢ w.next) where
    -- the stage of another card is as it was
    stage_same : stages c ≡ stage c
    stage_same = put_other stage w.next new c n

    -- so is what it says
    card_kept : CardIsSound after stages c
    card_kept = card_on w after stage stages on c (record {
      claimed = ap is_claimed stage_same;
      next = let next = h.claims.after in (λ less. omega arith, λ less. omega arith);
      insert = λ e. ap is_insert (sym stage_same) ∙ e;
      delete = λ e. ap is_delete (sym stage_same) ∙ e;
      words = λ out. others_say w after w.next h.claims.others c n;
    })

  -- what the stages of inserts say
  insert_stage_kept : (c : ℕ) → InsertStage after stages c
  insert_stage_kept c = elim (cases_eq c w.next) [
    | inl e ↦ no_insert after stages c (ap (λ n. insert_won (stages n)) e ∙ unwon insert_won refl refl)
    | inr n ↦
        let parent = λ (e : is_insert (stage c) ≡ true). ((h.words.cards c).insert e).parent.born in
        insert_stage_on w after stage stages on c (stage_same c n)
        (λ e. update_kept w after stage new h (w.p c) (parent (insert_open-insert (stage c) e)))
        (λ e. (let born = parent (insert_waits-insert (stage c) e) in record {
          child = child_kept w after stage new h (w.p c) (insert_side w c) born;
          tag = tag_kept w after stage new h (w.p c) (insert_side w c) born;
        }))
  ]

  -- what the stages of deletes say
  delete_stage_kept : (c : ℕ) → DeleteStage after stages c
  delete_stage_kept c = elim (cases_eq c w.next) [
    | inl e ↦ no_delete after stages c (ap (λ n. delete_won (stages n)) e ∙ unwon delete_won refl refl)
    | inr n ↦
        let top = λ (e : is_delete (stage c) ≡ true). ((h.words.cards c).delete e).grandparent.born in
        delete_stage_on w after stage stages on c (stage_same c n)
        (λ e. update_kept w after stage new h (w.gp c) (top (delete_open-delete (stage c) e)))
        (λ e. (let born = top (delete_waits-delete (stage c) e) in record {
          child = child_kept w after stage new h (w.gp c) (delete_side w c) born;
          tag = tag_kept w after stage new h (w.gp c) (delete_side w c) born;
        }))
  ]

  -- the rank of a node that came into the tree
  rank_kept : (x : ℕ) → Born stage x → rank after x ≡ rank w x
  rank_kept x born = rank_later w after stage h.words (claim_words w after stage new h) x x refl born

  -- the children of a node that came into the tree
  children_kept : (x : ℕ) → IsInternal x → Born stage x → ChildrenAreSound after stages x
  children_kept x inner born = let old = h.words.children x inner born in
      let key = key_kept w after stage new h x born in
      let child_key = λ (right : Bool). ap after.key (child_kept w after stage new h x right born)
      ∙ key_kept w after stage new h (w.child x right) (old.born right) in
      record {
        born = λ right. subst (Born stages) (sym (child_kept w after stage new h x right born))
            (born_kept w after stage new h (w.child x right) (old.born right));
        rising = λ right. subst (λ n. rank after x < rank after n) (sym (child_kept w after stage new h x right born)) (
            let up = old.rising right in let upper = rank_kept x born in let lower = rank_kept (w.child x right) (old.born right) in omega arith);
        left_less = let less = old.left_less in let e = child_key false in omega arith;
        right_more = let more = old.right_more in let e = child_key true in omega arith;
      }

  -- its update word
  update_word_kept : (x : ℕ) → IsInternal x → Born stage x → UpdateIsSound after stages x
  update_word_kept x inner born = let old = h.words.updates x inner born in
      let same = update_kept w after stage new h x born in
      record {
        named = subst (λ u. (unpacked u).card < after.next) (sym same) (let less = old.named in
            let next = h.claims.after in omega arith);
        iflagged = λ c e. (let g = old.iflagged c (sym same ∙ e) in (
          kept w after stage new h insert_open refl c g.0,
          h.claims.others.p c (another w after stage new h insert_open refl c g.0) ∙ g.1,
        ));
        dflagged = λ c e. (let g = old.dflagged c (sym same ∙ e) in (
          kept w after stage new h delete_open refl c g.0,
          h.claims.others.gp c (another w after stage new h delete_open refl c g.0) ∙ g.1,
        ));
        marked = λ c e. (let g = old.marked c (sym same ∙ e) in (
          kept w after stage new h is_marked refl c g.0,
          h.claims.others.p c (another w after stage new h is_marked refl c g.0) ∙ g.1,
        ));
      }

  -- the trie that a flat tree is
  trie_kept : 0 < after.flat_from → IsTrie (Born stages) (opening_from after.flat_from) after.key after.child
  trie_kept flat = subst (λ n. IsTrie (Born stages) (opening_from n) after.key after.child) (sym h.claims.flat)
      (same_born (λ x inner. born_before w after stage new h x) (born_kept w after stage new h)
      (IsTrie-same (Born stage) (opening_from w.flat_from) w.key after.key w.child after.child
      (key_kept w after stage new h) (child_kept w after stage new h) (h.words.tree.trie (let same = h.claims.flat in omega arith))))

  -- the tree
  tree_kept : TreeIsSound after stages
  tree_kept = let old = h.words.tree in let zero_born = root_born w stage h.words in record {
    ordered = IsOrdered-ranked (Born stage) w.key after.key w.child after.child top zero_born (closed w after stage new h)
        (key_kept w after stage new h) (child_kept w after stage new h) rank_kept old.ordered;
    trie = trie_kept;
    root_key = key_kept w after stage new h 0 zero_born ∙ old.root_key;
    root_right = child_kept w after stage new h 0 true zero_born ∙ old.root_right;
    right_key = key_kept w after stage new h (right_leaf 0) (start_there w stage h.words (right_leaf 0) (omega arith) refl) ∙ old.right_key;
    last = let there = leads_some w infinity1 old.last in leads_any after infinity1 there.0 0 (leads_kept w after stage new h infinity1 there.0 0 zero_born there.1);
    there = λ x inner born calm. (let was_born = born_before w after stage new h x born in
        in_kept w after stage new h x
        (old.there x inner was_born (λ c e. calm c (update_kept w after stage new h x was_born ∙ e))));
  }

  -- the tree is flat from where it was, as no start card was claimed
  flat_kept : 0 < after.flat_from → (c : ℕ) → (c < after.flat_from) ↔ (is_start (stages c) ≡ true)
  flat_kept some c =
      let same = h.claims.flat in
      let was = h.words.flat (omega arith) c in
      let start = (claim_stages w after stage new h).start c in
      (λ less. start ∙ was.0 (omega arith), λ is. (let less = was.1 (sym start ∙ is) in omega arith))

  -- all words after a claim are sound, if the claimed card is
  pub words_kept : CardIsSound after stages w.next → WordsAreSound after stages
  words_kept own = record {
    opening = put_other stage w.next new 0 (another w after stage new h (λ s. is_node_born s 0) refl 0 (root_born w stage h.words))
        ∙ h.words.opening;
    flat = flat_kept;
    tags = λ x right. (let same = tags_stay w after stage new h x right in let below = h.words.tags x right in
        let next = h.claims.after in omega arith);
    cards = λ c. elim (cases_eq c w.next) [
      | inl e ↦ subst (CardIsSound after stages) (sym e) own
      | inr n ↦ card_kept c n
    ];
    inserts = insert_stage_kept;
    deletes = delete_stage_kept;
    children = λ x inner born. children_kept x inner (born_before w after stage new h x born);
    updates = λ x inner born. update_word_kept x inner (born_before w after stage new h x born);
    tree = tree_kept;
  }
