use Rattle.std.proofs.Common.{◌≡◌, ℕ, ◌≤◌, Some, inr, refl, sym, ap, ◌∙◌, subst, arith}
use Rattle.std.proofs.lemmas.Bool.{false≢true}
use Rattle.ell_ops.specs.Meaning.{greatest_key}
use Rattle.ell_layout.specs.declared.field.Field.TheVariants.{Left, Right}
use Rattle.ell_core.specs.declared.view.Seen.{Seen}
use Rattle.ell_layout.specs.Words.{Words, put, IsLeaf}
use Rattle.ell_core.specs.state.Machine.{Worker}
use Rattle.ell_layout.specs.Cards.{claimed, delete_filling, is_right}
use Rattle.ell_core.specs.acts.Searching.{IsClean}
use Rattle.ell_core.specs.history.Stages.{Stages, DClaimed, is_claimed, is_insert, is_delete, delete_won, Born}
use Rattle.ell_core.specs.history.Invariant.{delete_key, IsInnerBorn, IsLeafBorn, DeleteCard, CardIsSound, WordsAreSound, SeenIsSound, StandIsSound, DeleteInHand}
use Rattle.ell_layout.proofs.lemmas.Writes.{put_same}
use Rattle.ell_core.proofs.lemmas.keeping.claim.Filling.{claimed_claims, claimed_delete, IsFilledDelete}
use Rattle.ell_core.proofs.lemmas.keeping.claim.Frames.{earlier_word, earlier_node, Claiming, blank, born_kept, key_kept, claim_words}
use Rattle.ell_core.proofs.lemmas.stages.LaterKeys.{rank_later}
use Rattle.ell_core.specs.tree.Rank.{rank}

-- a worker stands at a leaf of its key below a parent and a grandparent that it saw
pub record DeleteSeen (w : Words) (stage : Stages) (v : Worker) (k leaf : ℕ) (parent grandparent : Seen) : Type 0 where
  pub words : WordsAreSound w stage
  pub stand : StandIsSound w stage v k leaf
  pub outer : IsLeaf leaf
  pub seen : SeenIsSound w stage k parent leaf
  pub above : SeenIsSound w stage k grandparent parent.node
  pub calm : IsClean parent.word
  pub present : w.key leaf ≡ k
  pub real : k ≤ greatest_key

module _ (w : Words) (stage : Stages) (v : Worker) (k leaf : ℕ) (parent grandparent : Seen)
    (h : DeleteSeen w stage v k leaf parent grandparent) where
  -- the words and the stages after the claim
  abbrev after : Words
  after = claimed w grandparent.tag (delete_filling grandparent.node parent.node leaf parent.word)

  abbrev stages : Stages
  stages = put stage w.next DClaimed

  claiming : Claiming w after stage DClaimed
  claiming = record {
    words = h.words;
    claims = claimed_claims w grandparent.tag (delete_filling grandparent.node parent.node leaf parent.word);
    fresh = inr refl;
  }

  -- the card's stage, its fields, and its key
  at_stage : stages w.next ≡ DClaimed
  at_stage = put_same stage w.next DClaimed

  filled : IsFilledDelete after w.next grandparent.tag grandparent.node parent.node leaf parent.word
  filled = claimed_delete w grandparent.tag grandparent.node parent.node leaf parent.word

  own_key : delete_key after w.next ≡ k
  own_key = ap after.key filled.l_is ∙ (key_kept w after stage DClaimed claiming leaf h.stand.born ∙ h.present)

  -- the ranks of the nodes where it cuts are what they were
  rank_is : (x y : ℕ) → y ≡ x → Born stage x → rank after y ≡ rank w x
  rank_is = rank_later w after stage h.words (claim_words w after stage DClaimed claiming)

  delete_card : DeleteCard after stages w.next
  delete_card = record {
    grandparent = subst (IsInnerBorn stages) (sym filled.gp_is) (record {
      inner = h.above.node.inner;
      born = born_kept w after stage DClaimed claiming grandparent.node h.above.node.born;
    });
    parent = subst (IsInnerBorn stages) (sym filled.p_is) (record {
      inner = h.seen.node.inner;
      born = born_kept w after stage DClaimed claiming parent.node h.seen.node.born;
    });
    leaf = subst (IsLeafBorn stages) (sym filled.l_is) (record {
      outer = h.outer;
      born = born_kept w after stage DClaimed claiming leaf h.stand.born;
    });
    first = let a = h.above.less in let g = rank_is grandparent.node (after.gp w.next) filled.gp_is h.above.node.born in
        let p = rank_is parent.node (after.p w.next) filled.p_is h.seen.node.born in omega arith;
    above = let a = h.seen.less in let p = rank_is parent.node (after.p w.next) filled.p_is h.seen.node.born in
        let l = rank_is leaf (after.l w.next) filled.l_is h.stand.born in omega arith;
    before = let a = earlier_node w stage h.words leaf h.stand.born in let l = filled.l_is in omega arith;
    real = subst (λ n. n ≤ greatest_key) (sym own_key) h.real;
    calm = subst IsClean (sym filled.was_is) h.calm;
    earlier = let a = earlier_word w stage h.words parent.node parent.word h.seen.node h.seen.word in
        let e = filled.was_is in omega arith;
    expected = let a = h.above.at_least in let e = filled.expects_is in
        let below = h.words.tags grandparent.node (is_right w grandparent.node k) in omega arith;
    no_left_child = (blank w after stage DClaimed claiming).words Left;
    no_right_child = (blank w after stage DClaimed claiming).words Right;
  }

  -- the claimed card of a delete is sound
  pub delete_claimed : CardIsSound after stages w.next
  delete_claimed = record {
    claimed = (λ e. omega arith, λ less. ap is_claimed at_stage);
    insert = λ e. absurd (false≢true (ap is_insert (sym at_stage) ∙ e));
    delete = λ e. delete_card;
    unborn = λ e no_birth. absurd (false≢true (ap is_insert (sym at_stage) ∙ e));
    blank = λ e. absurd (false≢true (sym e ∙ ap is_claimed at_stage));
  }

  -- the claimer, that still stands there, has it in hand
  pub delete_in_hand : (u : Worker) → u.search.node ≡ Some leaf → u.search.parent ≡ Some parent
      → u.search.grandparent ≡ Some grandparent
      → IsClean grandparent.word → DeleteInHand after stages u k w.next
  delete_in_hand u stands behind above calm = record {
    parent = parent;
    grandparent = grandparent;
    claimed = (ap is_delete at_stage, ap delete_won at_stage);
    stands = stands ∙ ap Some (sym filled.l_is);
    behind = behind;
    node = sym filled.p_is;
    was = sym filled.was_is;
    above = above;
    top_node = sym filled.gp_is;
    calm = calm;
    earlier = earlier_word w stage h.words grandparent.node grandparent.word h.above.node h.above.word;
    tagged = sym filled.expects_is;
    own = own_key;
  }
