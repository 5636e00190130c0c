use Rattle.std.proofs.Common.{◌≡◌, ◌≢◌, ℕ, ◌%◌, ◌≤◌, ◌⊎◌, true, false, inl, inr, refl, sym, ap, ◌∙◌, subst, arith}
use Rattle.std.proofs.lemmas.Bool.{false≢true, cases_eq}
use Rattle.ell_word.specs.Node.{card, internal}
use Rattle.ell_layout.specs.Words.{Words, put, with_update}
use Rattle.ell_layout.specs.Cards.{iflag, dflag, marked}
use Rattle.ell_core.specs.history.Stages.{Stage, Stages, Opening, is_born, insert_open, delete_open, Born}
use Rattle.ell_core.specs.history.Invariant.{IsInnerBorn, CardIsSound, InsertStage, DeleteStage, WordsAreSound}
use Rattle.ell_core.specs.history.Later.{SaysTheSame}
use Rattle.ell_layout.proofs.lemmas.Writes.{put_same, put_other, put_cases}
use Rattle.ell_core.proofs.lemmas.words.Later.{words_update, update_says}
use Rattle.ell_core.proofs.lemmas.keeping.going_on.Cards.{GoesOn, card_on}
use Rattle.ell_core.proofs.lemmas.keeping.going_on.Stages.{insert_stage_on, delete_stage_on}
use Rattle.ell_core.proofs.lemmas.stages.Advances.{SameKind, same_kind, StageLater, stages_put}
use Rattle.ell_core.proofs.lemmas.stages.Order.{inner-born}

-- an exchange that takes the update word of node x to a value that is no less, and card c to a later stage: the old word was no
-- mark, and no other card's flag; and where c has a flag that stands no longer, it stood at x
pub record UpdateExchange (w : Words) (stage : Stages) (x value c : ℕ) (new : Stage) : Type 0 where
  pub place : IsInnerBorn stage x
  pub rises : w.update x ≤ value
  pub unmarked : (d : ℕ) → w.update x ≢ marked d
  pub others : (d : ℕ) → d ≢ c → (w.update x ≢ iflag d) × (w.update x ≢ dflag d)
  pub later : StageLater (stage c) new
  pub kind : SameKind (stage c) new
  pub tree : stage c ≢ Opening
  pub insert_ends : insert_open (stage c) ≡ true → (insert_open new ≡ true) ⊎ (w.p c ≡ x)
  pub delete_ends : delete_open (stage c) ≡ true → (delete_open new ≡ true) ⊎ (w.gp c ≡ x)

module _ (w : Words) (stage : Stages) (x value c : ℕ) (new : Stage) (e : UpdateExchange w stage x value c new) where
  -- a node that came into the tree did so before
  pub born_later : (y : ℕ) → Born stage y → Born (put stage c new) y
  born_later = (stages_put stage c new e.later).born

  -- the stage of each card is of the kind that it was
  pub kind_of : (d : ℕ) → SameKind (stage d) (put stage c new d)
  kind_of d = put_cases (SameKind (stage d)) stage c new d
      (λ same. subst (λ n. SameKind (stage n) new) (sym same) e.kind)
      (λ other. same_kind (stage d))

  -- a node that came into the tree did so before
  pub born_before : (y : ℕ) → Born (put stage c new) y → Born stage y
  born_before y h = sym ((kind_of (card y)).born (y % 4)) ∙ h

  -- a word that was not that of x stays
  pub word_stays : (y word : ℕ) → w.update y ≡ word → w.update x ≢ word → put w.update x value y ≡ word
  word_stays y word h n = put_other w.update x value y (λ same. n (ap w.update (sym same) ∙ h)) ∙ h

  -- at a node whose word is not below what was read there, that word stands only if it stood before
  pub still_before : (y word : ℕ) → word ≤ w.update y → put w.update x value y ≡ word → w.update y ≡ word
  still_before y word h g = elim (cases_eq y x) [
    | inl same ↦ (
        let a = ap (put w.update x value) same ∙ put_same w.update x value in
        let b = ap w.update same in
        let up = e.rises in
        omega arith)
    | inr n ↦ sym (put_other w.update x value y n) ∙ g
  ]

  -- a card whose nodes did not come into the tree says what it said
  pub unborn_says : (d : ℕ) → is_born (stage d) ≡ false → SaysTheSame w (with_update w x value) d
  unborn_says d h = update_says w x value d elsewhere
    where
      on_card : internal d ≡ x → d ≡ card x
      on_card same = omega arith

      elsewhere : internal d ≢ x
      elsewhere same = false≢true (sym h ∙ (ap (λ n. is_born (stage n)) (on_card same) ∙ inner-born (stage (card x)) (x % 4) e.place.inner e.place.born))

  -- cards and workers go on
  pub update_goes_on : WordsAreSound w stage → GoesOn w (with_update w x value) stage (put stage c new)
  update_goes_on sound = record {
    sound = sound;
    words = words_update w x value e.rises e.unmarked;
    later = stages_put stage c new e.later;
    calm = λ y word born calm least h. record { stood = still_before y word least h; link = λ right. record { child = refl; tag = refl } };
    course = λ k y born h. h;
    out = λ y born h. h;
  }

  -- every card says what it said
  pub card_later : WordsAreSound w stage → (d : ℕ) → CardIsSound (with_update w x value) (put stage c new) d
  card_later sound d = let kind = kind_of d in
      card_on w (with_update w x value) stage (put stage c new) (update_goes_on sound) d (record {
        claimed = kind.claimed;
        next = (λ less. less, λ less. less);
        insert = λ h. sym kind.insert ∙ h;
        delete = λ h. sym kind.delete ∙ h;
        words = unborn_says d;
      })

  -- another card's stage says of its insert what it said
  pub insert_later : WordsAreSound w stage → (d : ℕ) → d ≢ c → InsertStage (with_update w x value) (put stage c new) d
  insert_later sound d n = insert_stage_on w (with_update w x value) stage (put stage c new) (update_goes_on sound) d
      (put_other stage c new d n)
      (λ h. word_stays (w.p d) (w.update (w.p d)) refl (λ g. (e.others d n).0 (g ∙ (sound.inserts d).flag h))) (λ h. record { child = refl; tag = refl })

  -- another card's stage says of its delete what it said
  pub delete_later : WordsAreSound w stage → (d : ℕ) → d ≢ c → DeleteStage (with_update w x value) (put stage c new) d
  delete_later sound d n = delete_stage_on w (with_update w x value) stage (put stage c new) (update_goes_on sound) d
      (put_other stage c new d n)
      (λ h. word_stays (w.gp d) (w.update (w.gp d)) refl (λ g. (e.others d n).1 (g ∙ (sound.deletes d).flag h))) (λ h. record { child = refl; tag = refl })
