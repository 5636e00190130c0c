use Rattle.std.proofs.Common.{◌≡◌, ℕ, ◌%◌, ◌<◌, ◌≤◌, ◌==◌, ◌↔◌, nat_le, Bool, true, false, inl, inr, refl, sym, ◌∙◌, subst, arith}
use Rattle.std.proofs.lemmas.Bool.{false≢true}
use Rattle.ell_ops.specs.Meaning.{greatest_key}
use Rattle.ell_word.specs.Node.{IsInternal, card, internal, left_leaf, right_leaf}
use Rattle.ell_layout.specs.declared.field.Field.TheVariants.{Left, Right, Update}
use Rattle.ell_layout.specs.Words.{Words, IsLeaf}
use Rattle.ell_core.specs.acts.Searching.{IsClean}
use Rattle.ell_core.specs.history.Stages.{Stages, is_claimed, is_insert, is_delete, is_born, Born}
use Rattle.ell_core.specs.history.Invariant.{IsOut, IsOnCourse, insert_key, insert_side, filled_child, IsInnerBorn, IsLeafBorn, InsertCard, DeleteCard, Unborn, CardIsSound, WordsAreSound}
use Rattle.ell_core.specs.history.Later.{SaysTheSame, WordsLater, StagesLater}
use Rattle.ell_core.proofs.lemmas.stages.Order.{unclaimed-unborn, delete-unborn, inner-born, all-born}
use Rattle.ell_core.proofs.lemmas.stages.LaterKeys.{insert_info, insert_node_key, insert_parent_key, insert_leaf_key, insert_node_value, insert_leaf_value, insert_key_later, delete_info, delete_key_later, insert_tag_later, rank_later, block_later, block_before, filled_child_later}
use Rattle.ell_core.proofs.lemmas.words.Later.{SameLink}
use Rattle.ell_core.proofs.lemmas.words.Sides.{node_key-same}

-- a node has an update word that it had, and the child words that it had
pub record IsCalm (old new : Words) (x word : ℕ) : Type 0 where
  pub stood : old.update x ≡ word
  pub link : (right : Bool) → SameLink old new x right

-- what each event makes of sound words: the words and stages are later; a node that came into the tree, with a clean update word
-- that is not past the one that it had, is as it was; and on course or out of the tree stays what was
pub record GoesOn (old new : Words) (stage stages : Stages) : Type 0 where
  pub sound : WordsAreSound old stage
  pub words : WordsLater old new
  pub later : StagesLater stage stages
  pub calm : (x word : ℕ) → Born stage x → IsClean word → word ≤ old.update x → new.update x ≡ word → IsCalm old new x word
  pub course : (k x : ℕ) → Born stage x → IsOnCourse old k x → IsOnCourse new k x
  pub out : (x : ℕ) → Born stage x → IsOut old x → IsOut new x

-- what an event leaves of a card: it is claimed as it was, of the kind that it was, and if its nodes did not come into the tree,
-- it says what it said
pub record StaysCard (old new : Words) (stage stages : Stages) (c : ℕ) : Type 0 where
  pub claimed : is_claimed (stages c) ≡ is_claimed (stage c)
  pub next : (c < new.next) ↔ (c < old.next)
  pub insert : is_insert (stages c) ≡ true → is_insert (stage c) ≡ true
  pub delete : is_delete (stages c) ≡ true → is_delete (stage c) ≡ true
  pub words : is_born (stage c) ≡ false → SaysTheSame old new c

module _ (old new : Words) (stage stages : Stages) (h : GoesOn old new stage stages) where
  -- an internal node that came into the tree, which a card still names
  pub inner_on : (x y : ℕ) → y ≡ x → IsInnerBorn stage x → IsInnerBorn stages y
  inner_on x y e at = subst (IsInnerBorn stages) (sym e) (record { inner = at.inner; born = h.later.born x at.born })

  -- so with a leaf
  pub leaf_on : (x y : ℕ) → y ≡ x → IsLeafBorn stage x → IsLeafBorn stages y
  leaf_on x y e at = subst (IsLeafBorn stages) (sym e) (record { outer = at.outer; born = h.later.born x at.born })

  -- what did not come into the tree had not
  unborn_before : (c : ℕ) → is_born (stages c) ≡ false → is_born (stage c) ≡ false
  unborn_before c out = by (is_born (stage c)) refl
    where
      born_on : is_born (stage c) ≡ true → is_born (stages c) ≡ true
      born_on e = let same : card (internal c) ≡ c = omega arith in
          subst (λ n. is_born (stages n) ≡ true) same
          (inner-born (stages (card (internal c))) (internal c % 4) (omega arith)
          (h.later.born (internal c) (all-born (stage (card (internal c))) (internal c % 4) (omega arith) (subst (λ n. is_born (stage n) ≡ true) (sym same) e))))

      by : (b : Bool) → is_born (stage c) ≡ b → b ≡ false
      by true e = absurd (false≢true (sym out ∙ born_on e))
      by false e = refl

  module _ (c : ℕ) (inserts : is_insert (stage c) ≡ true) where
    insert_said : InsertCard old stage c
    insert_said = (h.sound.cards c).insert inserts

    -- an insert's card says what it said
    pub insert_card_on : InsertCard new stages c
    insert_card_on =
        let same = insert_info old new stage h.sound h.words c inserts in
        let left_key = insert_node_key old new stage h.sound h.words c inserts (left_leaf c) (omega arith) in
        let right_key = insert_node_key old new stage h.sound h.words c inserts (right_leaf c) (omega arith) in
        let node_key = insert_node_key old new stage h.sound h.words c inserts (internal c) (omega arith) in
        let leaf_key = insert_leaf_key old new stage h.sound h.words c inserts in
        let left_value = insert_node_value old new stage h.sound h.words c inserts (left_leaf c) (omega arith) in
        let right_value = insert_node_value old new stage h.sound h.words c inserts (right_leaf c) (omega arith) in
        let leaf_value = insert_leaf_value old new stage h.sound h.words c inserts in
        let parent_key = insert_parent_key old new stage h.sound h.words c inserts in
        let own_key = insert_key_later old new stage h.sound h.words c inserts in
        let said = insert_said in
        record {
          gp = same.gp ∙ said.gp;
          was = same.was ∙ said.was;
          parent = inner_on (old.p c) (new.p c) same.p said.parent;
          lower = subst (Born stages) (sym same.l) (h.later.born (old.l c) said.lower);
          above = let a = said.above in
              let p = rank_later old new stage h.sound h.words (old.p c) (new.p c) same.p said.parent.born in
              let l = rank_later old new stage h.sound h.words (old.l c) (new.l c) same.l said.lower in omega arith;
          before = let a = said.before in let l = same.l in omega arith;
          edge = λ inner there. said.edge (subst IsInternal same.l inner)
              (block_before old new stage h.sound h.words (old.l c) (new.l c) (insert_key old c) (insert_key new c) same.l own_key said.lower there);
          fits = λ two. block_later old new stage h.sound h.words (old.p c) (new.p c) (insert_key old c) (insert_key new c) same.p own_key said.parent.born
              (said.fits ((λ t. sym left_key t == sym right_key t) ∙ two));
          ordered = let a = said.ordered in omega arith;
          node_key = node_key-same h.words.flat left_key right_key node_key said.node_key;
          copy = elim said.copy [
            | inl e ↦ inl (record { key = left_key ∙ (e.key ∙ sym leaf_key); value = λ outer. left_value ∙ (e.value (subst IsLeaf same.l outer) ∙ sym leaf_value) })
            | inr e ↦ inr (record { key = right_key ∙ (e.key ∙ sym leaf_key); value = λ outer. right_value ∙ (e.value (subst IsLeaf same.l outer) ∙ sym leaf_value) })
          ];
          real = subst (λ k. k ≤ greatest_key) (sym own_key) said.real;
          side = (λ t. nat_le (parent_key t) (own_key t)) ∙ (said.side ∙ (λ t. nat_le (sym parent_key t) (sym leaf_key t)));
          left_child = h.words.some (internal c) false said.left_child;
          expected = let a = said.expected in let e = same.expects in omega arith;
          at_least = let a = said.at_least in let e = same.expects in let up = h.words.tag (old.p c) (insert_side old c) in
              let tag = insert_tag_later old new stage h.sound h.words c inserts in omega arith;
        }

    -- the children of its node are those to be
    children_on : SaysTheSame old new c → Unborn old c → (right : Bool) → new.child (internal c) right ≡ filled_child new c right
    children_on same nodes false = same.words Left ∙ (nodes.children false ∙ sym (filled_child_later old new stage h.sound h.words c inserts false))
    children_on same nodes true = same.words Right ∙ (nodes.children true ∙ sym (filled_child_later old new stage h.sound h.words c inserts true))

  module _ (c : ℕ) (deletes : is_delete (stage c) ≡ true) where
    delete_said : DeleteCard old stage c
    delete_said = (h.sound.cards c).delete deletes

    -- a delete's card says what it said, if it has no children still
    pub delete_card_on : new.child (internal c) false ≡ old.child (internal c) false → new.child (internal c) true ≡ old.child (internal c) true
        → DeleteCard new stages c
    delete_card_on left right =
        let same = delete_info old new stage h.sound h.words c deletes in
        let said = delete_said in
        record {
          grandparent = inner_on (old.gp c) (new.gp c) same.gp said.grandparent;
          parent = inner_on (old.p c) (new.p c) same.p said.parent;
          leaf = leaf_on (old.l c) (new.l c) same.l said.leaf;
          first = let a = said.first in
              let g = rank_later old new stage h.sound h.words (old.gp c) (new.gp c) same.gp said.grandparent.born in
              let p = rank_later old new stage h.sound h.words (old.p c) (new.p c) same.p said.parent.born in omega arith;
          above = let a = said.above in
              let p = rank_later old new stage h.sound h.words (old.p c) (new.p c) same.p said.parent.born in
              let l = rank_later old new stage h.sound h.words (old.l c) (new.l c) same.l said.leaf.born in omega arith;
          before = let a = said.before in let l = same.l in omega arith;
          real = subst (λ k. k ≤ greatest_key) (sym (delete_key_later old new stage h.sound h.words c deletes)) said.real;
          calm = subst IsClean (sym same.was) said.calm;
          earlier = let a = said.earlier in let e = same.was in omega arith;
          expected = let a = said.expected in let e = same.expects in omega arith;
          no_left_child = left ∙ said.no_left_child;
          no_right_child = right ∙ said.no_right_child;
        }

  -- a card says what it said
  pub card_on : (c : ℕ) → StaysCard old new stage stages c → CardIsSound new stages c
  card_on c s = let was = h.sound.cards c in record {
    claimed = (λ e. s.next.1 (was.claimed.0 (sym s.claimed ∙ e)), λ e. s.claimed ∙ was.claimed.1 (s.next.0 e));
    insert = λ e. insert_card_on c (s.insert e);
    delete = λ e. (let same = s.words (delete-unborn (stage c) (s.delete e)) in delete_card_on c (s.delete e) (same.words Left) (same.words Right));
    unborn = λ e g. (let out = unborn_before c g in let nodes = was.unborn (s.insert e) out in record {
      children = children_on c (s.insert e) (s.words out) nodes;
      calm = (s.words out).words Update ∙ nodes.calm;
    });
    blank = λ e. (let free = sym s.claimed ∙ e in let same = s.words (unclaimed-unborn (stage c) free) in record {
      words = λ field. same.words field ∙ (was.blank free).words field;
      expects = same.expects ∙ (was.blank free).expects;
      tags = λ right. same.tags right ∙ (was.blank free).tags right;
    });
  }
