use Rattle.std.proofs.Common.{◌≡◌, ℕ, ◌==◌, if◌then◌else◌, Bool, true, false, not, inl, inr, sym, ap, ◌∙◌, subst, arith}
use Rattle.ell_word.specs.Node.{left_leaf, right_leaf}
use Rattle.ell_layout.specs.Words.{Words}
use Rattle.ell_layout.specs.Cards.{exchange_side, sibling}
use Rattle.ell_core.specs.history.Stages.{Stages, is_born, is_delete, insert_won, insert_open, insert_over, insert_waits, is_changed, delete_won, delete_open, delete_past, delete_waits, is_markable, is_unmarkable, is_marked, is_cut, Born}
use Rattle.ell_core.specs.history.Invariant.{IsOut, IsOnCourse, insert_key, insert_side, delete_side, leaf_side, DeleteCard, InsertStage, Markable, IsMarked, IsCut, DeleteStage}
use Rattle.ell_core.specs.history.Later.{SameInfo}
use Rattle.ell_core.proofs.lemmas.words.Sides.{sibling_cases}
use Rattle.ell_core.proofs.lemmas.stages.Order.{insert_open-insert, insert_over-insert, insert_waits-insert, changed-insert, delete_open-delete, delete_past-delete, delete_waits-delete, markable-delete, unmarkable-delete, marked-delete, cut-delete}
use Rattle.ell_core.proofs.lemmas.stages.LaterKeys.{insert_info, insert_node_key, insert_key_later, insert_child_later, delete_info, delete_side_later, top_child_later, leaf_child_later, key_later, side_later, insert_tag_later, top_tag_later}
use Rattle.ell_core.proofs.lemmas.keeping.going_on.Cards.{GoesOn}
use Rattle.ell_core.proofs.lemmas.words.Later.{SameLink}

-- the stage of a card without an insert's won flag says nothing of an insert
pub no_insert : (w : Words) (stage : Stages) (c : ℕ) → insert_won (stage c) ≡ false → InsertStage w stage c
no_insert w stage c h = record {
  flag = λ g. absurd (grind arith);
  over = λ g. absurd (grind arith);
  waits = λ g. absurd (grind arith);
  tagged = λ g. absurd (grind arith);
  course = λ g. absurd (grind arith);
  changed = λ g. absurd (grind arith);
  brings = λ g. absurd (grind arith);
}

-- the stage of a card without a delete's won flag says nothing of a delete
pub no_delete : (w : Words) (stage : Stages) (c : ℕ) → delete_won (stage c) ≡ false → DeleteStage w stage c
no_delete w stage c h = record {
  flag = λ g. absurd (grind arith);
  past = λ g. absurd (grind arith);
  waits = λ g. absurd (grind arith);
  tagged = λ g. absurd (grind arith);
  markable = λ g. absurd (grind arith);
  unmarkable = λ g. absurd (grind arith);
  marked = λ g. absurd (grind arith);
  cut = λ g. absurd (grind arith);
}

-- what an insert's stage says, with the same stage of the card
pub insert_stage_same : (w : Words) (old new : Stages) (c : ℕ) → old c ≡ new c → InsertStage w old c → InsertStage w new c
insert_stage_same w old new c e k = record {
  flag = λ h. k.flag (ap insert_open e ∙ h);
  over = λ h. k.over (ap insert_over e ∙ h);
  waits = λ h. k.waits (ap insert_waits e ∙ h);
  tagged = λ h. k.tagged (ap insert_waits e ∙ h);
  course = λ h. k.course (ap insert_waits e ∙ h);
  changed = λ h. k.changed (ap is_changed e ∙ h);
  brings = λ h. ap is_born (sym e) ∙ k.brings (ap is_changed e ∙ h);
}

-- what a delete's stage says, with the same stage of the card
pub delete_stage_same : (w : Words) (old new : Stages) (c : ℕ) → old c ≡ new c → DeleteStage w old c → DeleteStage w new c
delete_stage_same w old new c e k = record {
  flag = λ h. k.flag (ap delete_open e ∙ h);
  past = λ h. k.past (ap delete_past e ∙ h);
  waits = λ h. k.waits (ap delete_waits e ∙ h);
  tagged = λ h. k.tagged (ap delete_waits e ∙ h);
  markable = λ h. k.markable (ap is_markable e ∙ h);
  unmarkable = λ h. k.unmarkable (ap is_unmarkable e ∙ h);
  marked = λ h. k.marked (ap is_marked e ∙ h);
  cut = λ h. k.cut (ap is_cut e ∙ h);
}

module _ (old new : Words) (stage stages : Stages) (h : GoesOn old new stage stages) where
  -- what an insert's stage says goes on with the stage, if the flag stands where it stood and the child that it waits for is there
  pub insert_stage_on : (c : ℕ) → stages c ≡ stage c
      → (insert_open (stage c) ≡ true → new.update (old.p c) ≡ old.update (old.p c))
      → (insert_waits (stage c) ≡ true → SameLink old new (old.p c) (insert_side old c))
      → InsertStage new stages c
  insert_stage_on c at flag waits =
      let was = h.sound.inserts c in
      let info = insert_info old new stage h.sound h.words c in
      let kind = insert_waits-insert (stage c) in
      record {
        flag = λ e. (let g = ap insert_open (sym at) ∙ e in
            ap new.update (info (insert_open-insert (stage c) g)).p ∙ (flag g ∙ was.flag g));
        over = λ e. (let g = ap insert_over (sym at) ∙ e in let less = was.over g in let up = h.words.update (old.p c) in
            let same = ap new.update (info (insert_over-insert (stage c) g)).p in omega arith);
        waits = λ e. (let g = ap insert_waits (sym at) ∙ e in
            insert_child_later old new stage h.sound h.words c (kind g) ∙ ((waits g).child ∙ (was.waits g ∙ sym (info (kind g)).l)));
        tagged = λ e. (let g = ap insert_waits (sym at) ∙ e in
            insert_tag_later old new stage h.sound h.words c (kind g) ∙ ((waits g).tag ∙ (was.tagged g ∙ sym (info (kind g)).expects)));
        course = λ e. (let g = ap insert_waits (sym at) ∙ e in
            let on = h.course (insert_key old c) (old.p c) ((h.sound.cards c).insert (kind g)).parent.born (was.course g) in
            subst (λ k. IsOnCourse new k (new.p c)) (sym (insert_key_later old new stage h.sound h.words c (kind g)))
            (subst (IsOnCourse new (insert_key old c)) (sym (info (kind g)).p) on));
        changed = λ e. (let g = ap is_changed (sym at) ∙ e in let kind = changed-insert (stage c) g in
            let less = was.changed g in let up = h.words.tag (old.p c) (insert_side old c) in
            let same = insert_tag_later old new stage h.sound h.words c kind in let e = (info kind).expects in omega arith);
        brings = λ e. (let g = ap is_changed (sym at) ∙ e in let kind = changed-insert (stage c) g in
            let left = insert_node_key old new stage h.sound h.words c kind (left_leaf c) (omega arith) in
            let right = insert_node_key old new stage h.sound h.words c kind (right_leaf c) (omega arith) in
            ap is_born at ∙ (was.brings g ∙ (λ t. not (sym left t == sym right t))));
      }

  module _ (c : ℕ) (deletes : is_delete (stage c) ≡ true) where
    same : SameInfo old new c
    same = delete_info old new stage h.sound h.words c deletes

    said : DeleteCard old stage c
    said = (h.sound.cards c).delete deletes

    -- a parent that may be marked goes on so
    pub markable_on : Markable old c → Markable new c
    markable_on was =
        let parent = ap new.update same.p in
        record {
          at_least = let a = was.at_least in let b = same.was in let up = h.words.update (old.p c) in omega arith;
          still = λ e.
              let calm = h.calm (old.p c) (old.was c) said.parent.born said.calm was.at_least (sym parent ∙ (e ∙ same.was)) in
              leaf_child_later old new stage h.sound h.words c deletes ∙ ((calm.link (leaf_side old c)).child ∙ (was.still calm.stood ∙ sym same.l));
        }

    -- a marked parent stays as it was
    pub marked_on : IsMarked old c → IsMarked new c
    marked_on was =
        let frozen = h.words.frozen (old.p c) c was.mark in
        record {
          mark = ap new.update same.p ∙ (frozen.update ∙ was.mark);
          leaf = leaf_child_later old new stage h.sound h.words c deletes ∙ (frozen.child (leaf_side old c) ∙ (was.leaf ∙ sym same.l));
          side = sibling_side_on ∙ (was.side ∙ sym (delete_side_later old new stage h.sound h.words c deletes));
        }
      where
        child_on : (right : Bool) → new.child (new.p c) right ≡ old.child (old.p c) right
        child_on right = ap (λ x. new.child x right) same.p
            ∙ (h.words.frozen (old.p c) c was.mark).child right

        sibling_on : sibling new c ≡ sibling old c
        sibling_on = λ t. if child_on true t == same.l t then child_on false t else child_on true t

        sibling_born : Born stage (sibling old c)
        sibling_born = let born = (h.sound.children (old.p c) said.parent.inner said.parent.born).born in
            elim (sibling_cases old c) [
              | inl e ↦ subst (Born stage) (sym e) (born false)
              | inr e ↦ subst (Born stage) (sym e) (born true)
            ]

        sibling_side_on : exchange_side new (new.gp c) (sibling new c) ≡ exchange_side old (old.gp c) (sibling old c)
        sibling_side_on = side_later old new stage h.sound h.words (old.gp c) (new.gp c)
            (old.key (sibling old c)) (new.key (sibling new c)) same.gp
            (key_later old new stage h.sound h.words (sibling old c) (sibling new c) sibling_on sibling_born)
            said.grandparent.born

    -- a delete that has cut has cut for good
    pub cut_on : IsCut old c → IsCut new c
    cut_on was = record {
      past = let a = was.past in let e = same.expects in let up = h.words.tag (old.gp c) (delete_side old c) in
          let tag = top_tag_later old new stage h.sound h.words c deletes in omega arith;
      out = subst (IsOut new) (sym same.p) (h.out (old.p c) said.parent.born was.out);
    }

  -- what a delete's stage says goes on with the stage, if the flag stands where it stood and the child that it waits for is there
  pub delete_stage_on : (c : ℕ) → stages c ≡ stage c
      → (delete_open (stage c) ≡ true → new.update (old.gp c) ≡ old.update (old.gp c))
      → (delete_waits (stage c) ≡ true → SameLink old new (old.gp c) (delete_side old c))
      → DeleteStage new stages c
  delete_stage_on c at flag waits =
      let was = h.sound.deletes c in
      let info = delete_info old new stage h.sound h.words c in
      record {
        flag = λ e. (let g = ap delete_open (sym at) ∙ e in
            ap new.update (info (delete_open-delete (stage c) g)).gp ∙ (flag g ∙ was.flag g));
        past = λ e. (let g = ap delete_past (sym at) ∙ e in let less = was.past g in let up = h.words.update (old.gp c) in
            let same = ap new.update (info (delete_past-delete (stage c) g)).gp in omega arith);
        waits = λ e. (let g = ap delete_waits (sym at) ∙ e in let kind = delete_waits-delete (stage c) g in
            top_child_later old new stage h.sound h.words c kind ∙ ((waits g).child ∙ (was.waits g ∙ sym (info kind).p)));
        tagged = λ e. (let g = ap delete_waits (sym at) ∙ e in let kind = delete_waits-delete (stage c) g in
            top_tag_later old new stage h.sound h.words c kind ∙ ((waits g).tag ∙ (was.tagged g ∙ sym (info kind).expects)));
        markable = λ e. (let g = ap is_markable (sym at) ∙ e in markable_on c (markable-delete (stage c) g) (was.markable g));
        unmarkable = λ e. (let g = ap is_unmarkable (sym at) ∙ e in let same = info (unmarkable-delete (stage c) g) in
            let less = was.unmarkable g in let a = same.was in let b = ap new.update same.p in
            let up = h.words.update (old.p c) in omega arith);
        marked = λ e. (let g = ap is_marked (sym at) ∙ e in marked_on c (marked-delete (stage c) g) (was.marked g));
        cut = λ e. (let g = ap is_cut (sym at) ∙ e in cut_on c (cut-delete (stage c) g) (was.cut g));
      }
