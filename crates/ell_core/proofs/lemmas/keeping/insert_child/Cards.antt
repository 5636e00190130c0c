use Rattle.std.proofs.Common.{◌≡◌, ◌≢◌, ℕ, ◌%◌, Bool, true, false, inl, inr, refl, sym, ap, ◌∙◌, subst, arith}
use Rattle.std.proofs.lemmas.Bool.{cases_eq, false≢true}
use Rattle.ell_word.specs.Node.{card}
use Rattle.ell_layout.specs.Words.{Words}
use Rattle.ell_layout.specs.Cards.{iflag}
use Rattle.ell_core.specs.history.Stages.{Stage, Stages, IFlagged, IChanged, RChanged, is_claimed, is_insert, is_delete, is_born, insert_over, insert_waits, delete_won}
use Rattle.ell_core.specs.history.Invariant.{insert_side, delete_side, CardIsSound, InsertStage, DeleteStage, WordsAreSound}
use Rattle.ell_core.specs.history.Later.{SaysTheSame, WordsLater, StagesLater}
use Rattle.ell_layout.proofs.lemmas.Writes.{put_same, put_other}
use Rattle.ell_core.proofs.lemmas.stages.Order.{delete_waits-open, insert_waits-open, inner-born}
use Rattle.ell_core.proofs.lemmas.words.Later.{words_child, child_says, SameLink, link_other, tag_there}
use Rattle.ell_core.proofs.lemmas.keeping.insert_child.Card.{Brings, just_changed, ichild_words, ichild_stages, its_card, its_flag, no_mark, its_tag}
use Rattle.ell_core.proofs.lemmas.keeping.going_on.Cards.{GoesOn, card_on}
use Rattle.ell_core.proofs.lemmas.keeping.going_on.Stages.{insert_stage_same, no_delete, insert_stage_on, delete_stage_on}
use Rattle.ell_core.proofs.lemmas.stages.Advances.{ichild_later, rchild_later, StageLater, stages_put}
use Rattle.ell_core.proofs.lemmas.words.CleanWords.{clean_remainder}

module _ (w : Words) (stage : Stages) (sound : WordsAreSound w stage) (c : ℕ) (flagged : stage c ≡ IFlagged)
    (q : ℕ) (now : Stage) (b : Brings w stage c q now) where
  abbrev after : Words
  after = ichild_words w c q

  abbrev stages : Stages
  stages = ichild_stages stage c now

  -- what holds of both stages that it may be holds of its stage
  both : (P : Stage → Type 0) → P IChanged → P RChanged → P now
  both P insert replace = just_changed P now b.fresh insert replace

  -- the stages are later
  pub stages_after : StagesLater stage stages
  stages_after = stages_put stage c now (subst (λ s. StageLater s now) (sym flagged) (both (StageLater IFlagged) ichild_later rchild_later))

  -- the words are later
  pub words_after : WordsLater w after
  words_after = words_child w (w.p c) q (insert_side w c) (λ none. let above = b.above in omega arith) (no_mark w stage sound c flagged)

  -- what the exchange changes of no stage is as before
  pub as_before : (f : Stage → Bool) → f now ≡ f IFlagged → (d : ℕ) → f (stages d) ≡ f (stage d)
  as_before f same d = elim (cases_eq d c) [
    | inl e ↦ ap f (ap stages e ∙ put_same stage c now)
        ∙ (same ∙ (ap f (sym flagged) ∙ ap (λ n. f (stage n)) (sym e)))
    | inr n ↦ ap f (put_other stage c now d n)
  ]

  -- what is not so of an insert that waits stays so
  pub still : (f : Stage → Bool) → f IFlagged ≢ true → (d : ℕ) → f (stage d) ≡ true → f (stages d) ≡ true
  still f never d h = elim (cases_eq d c) [
    | inl e ↦ absurd (never (ap f (sym flagged) ∙ (ap (λ n. f (stage n)) (sym e) ∙ h)))
    | inr n ↦ ap f (put_other stage c now d n) ∙ h
  ]

  -- the child words of a node without the flag are as they were
  pub link_calm : (x : ℕ) (right : Bool) → w.update x ≢ iflag c → SameLink w after x right
  link_calm x right never =
      link_other w (w.p c) q (insert_side w c) x right (λ e. never (ap w.update e ∙ its_flag w stage sound c flagged))

  -- a card whose nodes did not come into the tree says what it said
  pub unborn_says : (d : ℕ) → is_born (stage d) ≡ false → SaysTheSame w after d
  unborn_says d unborn = child_says w (w.p c) q (insert_side w c) d (λ e.
      let parent = (its_card w stage sound c flagged).parent in
      let same : card (w.p c) ≡ d = omega arith in
      false≢true (sym unborn ∙ (ap (λ n. is_born (stage n)) (sym same) ∙ inner-born (stage (card (w.p c))) (w.p c % 4) parent.inner parent.born)))

  -- cards and workers go on
  pub ichild_goes_on : GoesOn w after stage stages
  ichild_goes_on = record {
    sound = sound;
    words = words_after;
    later = stages_after;
    calm = λ x word born calm least e. record {
      stood = e;
      link = λ right. link_calm x right (λ f. let three = clean_remainder word calm in omega arith);
    };
    course = b.course;
    out = b.out;
  }

  -- each card is sound afterwards
  pub card_after : (d : ℕ) → CardIsSound after stages d
  card_after d = card_on w after stage stages ichild_goes_on d (record {
    claimed = as_before is_claimed (both (λ s. is_claimed s ≡ true) refl refl) d;
    next = (λ less. less, λ less. less);
    insert = λ h. sym (as_before is_insert (both (λ s. is_insert s ≡ true) refl refl) d) ∙ h;
    delete = λ h. sym (as_before is_delete (both (λ s. is_delete s ≡ false) refl refl) d) ∙ h;
    words = unborn_says d;
  })

  -- the child exchange of the card was made
  changed_here : InsertStage after (λ d. now) c
  changed_here = record {
    flag = λ h. its_flag w stage sound c flagged;
    over = λ h. absurd (both (λ s. insert_over s ≡ true → ⊥) false≢true false≢true h);
    waits = λ h. absurd (both (λ s. insert_waits s ≡ true → ⊥) false≢true false≢true h);
    tagged = λ h. absurd (both (λ s. insert_waits s ≡ true → ⊥) false≢true false≢true h);
    course = λ h. absurd (both (λ s. insert_waits s ≡ true → ⊥) false≢true false≢true h);
    changed = λ h. (let there = tag_there w (w.p c) q (insert_side w c) in let was = its_tag w stage sound c flagged in omega arith);
    brings = λ h. b.kind;
  }

  -- what each insert's stage says holds afterwards
  pub insert_after : (d : ℕ) → InsertStage after stages d
  insert_after d = elim (cases_eq d c) [
    | inl e ↦ subst (InsertStage after stages) (sym e)
        (insert_stage_same after (λ n. now) stages c (sym (put_same stage c now)) changed_here)
    | inr n ↦ insert_stage_on w after stage stages ichild_goes_on d (put_other stage c now d n)
        (λ h. refl)
        (λ h. link_calm (w.p d) (insert_side w d)
        (λ e. let flag = (sound.inserts d).flag (insert_waits-open (stage d) h) in n (omega arith)))
  ]

  -- what each delete's stage says holds afterwards
  pub delete_after : (d : ℕ) → DeleteStage after stages d
  delete_after d = elim (cases_eq d c) [
    | inl e ↦ subst (DeleteStage after stages) (sym e)
        (no_delete after stages c (ap delete_won (put_same stage c now) ∙ both (λ s. delete_won s ≡ false) refl refl))
    | inr n ↦ delete_stage_on w after stage stages ichild_goes_on d (put_other stage c now d n)
        (λ h. refl)
        (λ h. link_calm (w.gp d) (delete_side w d)
        (λ e. let flag = (sound.deletes d).flag (delete_waits-open (stage d) h) in omega arith))
  ]
