use Rattle.std.proofs.Common.{◌≡◌, ◌≢◌, ℕ, ◌<◌, ◌≤◌, ◌==◌, nat_le, if◌then◌else◌, Bool, true, false, not, Option, Some, None, refl, ap, ◌∙◌, arith}
use Rattle.ell_ops.specs.declared.op.Op.{Op}
use Rattle.ell_ops.specs.declared.op.Op.TheVariants.{Swap}
use Rattle.ell_word.specs.Node.{left_leaf, right_leaf}
use Rattle.ell_core.specs.statements.Effects.{op_brought, op_of_card}
use Rattle.ell_ops.specs.Meaning.{key_of}
use Rattle.ell_word.specs.declared.update.State.{State}
use Rattle.ell_word.specs.declared.update.State.TheVariants as state
use Rattle.ell_core.specs.declared.fact.Fact.{Fact}
use Rattle.ell_core.specs.declared.fact.Fact.TheVariants as fact
use Rattle.ell_layout.specs.declared.field.Field.TheVariants as field
use Rattle.ell_layout.specs.Words.{Words, IsLeaf}
use Rattle.ell_core.specs.state.Machine.{Worker}
use Rattle.ell_layout.specs.Cards.{iflag, dflag, marked, is_delete_card, is_replace_card, card_key, card_value, card_tag}
use Rattle.ell_core.specs.state.Facts.{card_of_fact}
use Rattle.ell_core.specs.soundness.Holds.{IFlagHolds, IChangeHolds, DFlagHolds, MarkHolds, UnmarkableHolds, CutHolds, Holds, is_changed_in, is_cut_in, entry_made, made_in, with_made, effective_of, effective}
use Rattle.ell_core.specs.soundness.Sound.{flags_at}
use Rattle.ell_core.specs.history.Stages.{Stage, Stages, allows, waits, is_claimed}
use Rattle.ell_core.specs.history.Invariant.{WordsAreSound}
use Rattle.ell_core.specs.history.Later.{SaysTheSame}
use Rattle.ell_core.specs.statements.StepLaws.{IsReadable, GoesInTree}
use Rattle.ell_runs.proofs.lemmas.own_words.OwnTree.{key_same, value_same, tag_same, update_same}

-- a card of which a fact may be known does not wait
pub allowed_settled : (f : Fact) (s : Stage) → allows f s ≡ true → waits s ≡ false
allowed_settled f s h = grind arith

-- and was claimed
pub allowed_claimed : (f : Fact) (s : Stage) → allows f s ≡ true → is_claimed s ≡ true
allowed_claimed f s h = grind arith

-- sound words w, and others, t, that say the same at each card that does not wait; a card of these that goes in the tree
module _ (w t : Words) (stage : Stages) (sound : WordsAreSound w stage) (same : (c : ℕ) → waits (stage c) ≡ false → SaysTheSame w t c)
    (c : ℕ) (calm : waits (stage c) ≡ false) (goes : GoesInTree w stage c) where
  here : SaysTheSame w t c
  here = same c calm

  -- its kind and its key
  is_delete_same : is_delete_card t c ≡ is_delete_card w c
  is_delete_same = ap (λ n. n == 0) (here.words field.Left)

  leaf_key_same : t.key (t.l c) ≡ w.key (w.l c)
  leaf_key_same = ap t.key (here.words field.L) ∙ key_same w t stage sound same (w.l c) goes.leaf

  pub card_key_same : card_key t c ≡ card_key w c
  card_key_same = λ i. if is_delete_same i then leaf_key_same i
      else (if here.words field.LeftLeafKey i == leaf_key_same i then here.words field.RightLeafKey i else here.words field.LeftLeafKey i)

  -- its value, where it goes to a leaf
  pub leaf_value_same : IsLeaf (w.l c) → t.value (t.l c) ≡ w.value (w.l c)
  leaf_value_same outer = ap t.value (here.words field.L) ∙ value_same w t stage sound same (w.l c) outer goes.leaf

  pub card_value_same : (is_delete_card w c ≡ true → IsLeaf (w.l c)) → card_value t c ≡ card_value w c
  card_value_same outer = (λ i. if is_delete_same i then t.value (t.l c)
      else (if here.words field.LeftLeafKey i == leaf_key_same i then here.words field.RightValue i else here.words field.LeftValue i)) ∙ by (is_delete_card w c) refl
    where
      by : (b : Bool) → is_delete_card w c ≡ b
          → (if b then t.value (t.l c) else (if w.key (left_leaf c) == w.key (w.l c) then w.value (right_leaf c) else w.value (left_leaf c)))
          ≡ (if b then w.value (w.l c) else (if w.key (left_leaf c) == w.key (w.l c) then w.value (right_leaf c) else w.value (left_leaf c)))
      by true is = leaf_value_same (outer is)
      by false is = refl

  -- the operation that it is for, if it is an insert's
  pub card_op_same : (is_delete_card w c ≡ true → IsLeaf (w.l c)) → (is_replace_card w c ≡ true → IsLeaf (w.l c)) → op_of_card t c ≡ op_of_card w c
  card_op_same outer replaces =
      (λ i. op_brought (here.words field.LeftLeafKey i == here.words field.RightLeafKey i) (card_key_same i) (t.value (t.l c)) (card_value_same outer i))
      ∙ by (is_replace_card w c) refl
    where
      by : (b : Bool) → is_replace_card w c ≡ b → op_brought b (card_key w c) (t.value (t.l c)) (card_value w c) ≡ op_brought b (card_key w c) (w.value (w.l c)) (card_value w c)
      by true is = ap (λ was. Swap (card_key w c) was (card_value w c)) (leaf_value_same (replaces is))
      by false is = refl

  -- the update word at a node where it goes
  update_there : (x y : ℕ) → x ≡ y → IsReadable w stage y → t.update x ≡ w.update y
  update_there x y is reads = ap t.update is ∙ update_same w t stage sound same y reads.inner reads.born

  parent_update : t.update (t.p c) ≡ w.update (w.p c)
  parent_update = update_there (t.p c) (w.p c) (here.words field.P) goes.parent

  grandparent_update : t.update (t.gp c) ≡ w.update (w.gp c)
  grandparent_update = update_there (t.gp c) (w.gp c) (here.words field.Gp) goes.grandparent

  -- the tag of the child there on the side of its key
  tag_there : (x y : ℕ) → x ≡ y → IsReadable w stage y → card_tag t c x ≡ card_tag w c y
  tag_there x y is reads =
      ap (card_tag t c) is
      ∙ ((λ i. t.tag y (nat_le (key_same w t stage sound same y reads.born i) (card_key_same i)))
      ∙ tag_same w t stage sound same y (nat_le (w.key y) (card_key w c)) reads.inner reads.born)

  parent_tag : card_tag t c (t.p c) ≡ card_tag w c (w.p c)
  parent_tag = tag_there (t.p c) (w.p c) (here.words field.P) goes.parent

  grandparent_tag : card_tag t c (t.gp c) ≡ card_tag w c (w.gp c)
  grandparent_tag = tag_there (t.gp c) (w.gp c) (here.words field.Gp) goes.grandparent

  -- what it has made
  changed_same : is_changed_in t c ≡ is_changed_in w c
  changed_same = λ i. not (parent_tag i == here.expects i)

  cut_same : is_cut_in t c ≡ is_cut_in w c
  cut_same = λ i. if parent_update i == marked c then not (grandparent_tag i == here.expects i) else false

  pub made_same : (op : Op) → made_in t op c ≡ made_in w op c
  made_same op = λ i. entry_made op (changed_same i) (cut_same i)

  -- where it flags and marks
  pub place_same : (s : State) → flags_at t s c ≡ flags_at w s c
  place_same state.DFlag = here.words field.Gp
  place_same state.IFlag = here.words field.P
  place_same state.Mark = here.words field.P
  place_same state.Clean = here.words field.P

  -- what facts say of it
  iflag_holds : IFlagHolds t c ≡ IFlagHolds w c
  iflag_holds = λ i. (is_delete_same i ≡ false) × (iflag c ≤ parent_update i)

  ichange_holds : IChangeHolds t c ≡ IChangeHolds w c
  ichange_holds = λ i. iflag_holds i × (parent_tag i ≢ here.expects i)

  iover_holds : Holds t (fact.IOver c) ≡ Holds w (fact.IOver c)
  iover_holds = λ i. ichange_holds i × (iflag c < parent_update i)

  dflag_holds : DFlagHolds t c ≡ DFlagHolds w c
  dflag_holds = λ i. (is_delete_same i ≡ true) × (dflag c ≤ grandparent_update i)

  mark_holds : MarkHolds t c ≡ MarkHolds w c
  mark_holds = λ i. dflag_holds i × (parent_update i ≡ marked c)

  unmarkable_holds : UnmarkableHolds t c ≡ UnmarkableHolds w c
  unmarkable_holds = λ i. dflag_holds i × (here.words field.Was i < parent_update i) × (parent_update i ≢ marked c)

  cut_holds : CutHolds t c ≡ CutHolds w c
  cut_holds = λ i. mark_holds i × (grandparent_tag i ≢ here.expects i)

  dover_holds : Holds t (fact.DOver c) ≡ Holds w (fact.DOver c)
  dover_holds = λ i. cut_holds i × (dflag c < grandparent_update i)

  backed_holds : Holds t (fact.Backed c) ≡ Holds w (fact.Backed c)
  backed_holds = λ i. unmarkable_holds i × (dflag c < grandparent_update i)

-- what any fact says of its card
pub fact_same : (w t : Words) (stage : Stages) (sound : WordsAreSound w stage) (same : (c : ℕ) → waits (stage c) ≡ false → SaysTheSame w t c)
    (f : Fact) → waits (stage (card_of_fact f)) ≡ false → GoesInTree w stage (card_of_fact f) → Holds t f ≡ Holds w f
fact_same w t stage sound same (fact.IFlagged c) calm goes = iflag_holds w t stage sound same c calm goes
fact_same w t stage sound same (fact.IChanged c) calm goes = ichange_holds w t stage sound same c calm goes
fact_same w t stage sound same (fact.IOver c) calm goes = iover_holds w t stage sound same c calm goes
fact_same w t stage sound same (fact.DFlagged c) calm goes = dflag_holds w t stage sound same c calm goes
fact_same w t stage sound same (fact.Marked c) calm goes = mark_holds w t stage sound same c calm goes
fact_same w t stage sound same (fact.Unmarkable c) calm goes = unmarkable_holds w t stage sound same c calm goes
fact_same w t stage sound same (fact.Cut c) calm goes = cut_holds w t stage sound same c calm goes
fact_same w t stage sound same (fact.DOver c) calm goes = dover_holds w t stage sound same c calm goes
fact_same w t stage sound same (fact.Backed c) calm goes = backed_holds w t stage sound same c calm goes

-- the effective ledger by what the card in hand has made, where that is flagged
pub effective_same : (w t : Words) (v : Worker) → ((op : Op) (c : ℕ) → v.card ≡ Some c → v.flagged ≡ true → made_in t op c ≡ made_in w op c) → effective t v ≡ effective w v
effective_same w t v same = by v.operation v.card v.flagged same
  where
    by : (o : Option Op) (card : Option ℕ) (flagged : Bool) → ((op : Op) (c : ℕ) → card ≡ Some c → flagged ≡ true → made_in t op c ≡ made_in w op c)
        → effective_of t v.ledger o card flagged ≡ effective_of w v.ledger o card flagged
    by (Some op) (Some c) true h = ap (with_made v.ledger (key_of op)) (h op c refl refl)
    by (Some op) (Some c) false h = refl
    by (Some op) None flagged h = refl
    by None card flagged h = refl
