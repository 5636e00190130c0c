use Rattle.std.proofs.Common.{◌≡◌, ◌≢◌, ℕ, ◌<◌, if◌then◌else◌, inl, inr, Bool, true, false, Some, refl, sym, ap, ◌∙◌, subst, eqb-true, arith}
use Rattle.std.proofs.lemmas.Bool.{cases_eq}
use Rattle.ell_word.specs.Node.{internal, left_leaf, right_leaf}
use Rattle.ell_core.specs.declared.exchange.Exchange.TheVariants as exchange
use Rattle.ell_core.specs.declared.event.Act.TheVariants as act
use Rattle.ell_core.specs.declared.event.Stepped.{Stepped}
use Rattle.ell_layout.specs.Words.{Words, IsLeaf}
use Rattle.ell_layout.specs.Cards.{iflag, dflag, marked, is_replace_card, brought, keeps_below}
use Rattle.ell_core.specs.state.Machine.{Machine, Scene, scene, with_scene}
use Rattle.ell_core.specs.acts.Events.{Row}
use Rattle.ell_core.specs.acts.Wins.{win_for, wins_by}
use Rattle.ell_core.specs.tree.Tree.{Reached}
use Rattle.ell_core.specs.history.Stages.{Stages, IFlagged as StageIFlagged, is_insert, is_cut}
use Rattle.ell_core.specs.history.Invariant.{insert_side, WordsAreSound, Invariant}
use Rattle.ell_core.specs.history.Later.{StagesLater, Follows}
use Rattle.ell_grace.specs.Gone.{TakesOut, OutsAreSound}
use Rattle.ell_core.proofs.lemmas.words.Later.{child_there, child_elsewhere}
use Rattle.ell_core.proofs.lemmas.tree.Paths.{Reached-child}
use Rattle.ell_core.proofs.lemmas.tree.Reached.{Spans-reached}
use Rattle.ell_core.proofs.lemmas.tree.Lawful.{one_leaf}
use Rattle.ell_core.proofs.lemmas.stages.Below.{goes-leaf, keeps-stays, keeps_later}
use Rattle.ell_core.proofs.lemmas.stages.Order.{cut-delete, cut-marked, insert-claimed, one_kind}
use Rattle.ell_core.proofs.lemmas.keeping.insert_child.Nodes.{own_child, leaf_on}
use Rattle.ell_core.proofs.lemmas.keeping.insert_child.Card.{ichild_words, its_card, its_flag, its_child, no_mark, parent_in, not_born}
use Rattle.ell_core.proofs.lemmas.keeping.insert_child.IChild.{won_waiting}
use Rattle.ell_grace.proofs.lemmas.outs.Taken.{acted, takes-acted, acted_claimed, calm_reached}
use Rattle.ell_grace.proofs.lemmas.outs.Newly.{outs_from, sibling_on, only, had_acted}

-- a won child exchange of an insert's card
module _ (w : Words) (stage : Stages) (sound : WordsAreSound w stage) (c : ℕ) (flagged : stage c ≡ StageIFlagged)
    (stages : Stages) (sound' : WordsAreSound (ichild_words w c (brought w c)) stages) (later : StagesLater stage stages) where
  abbrev after : Words
  after = ichild_words w c (brought w c)

  -- the leaf was in the tree
  ichild_had : Reached w (w.l c)
  ichild_had =
      let said_card = its_card w stage sound c flagged in
      subst (Reached w) (its_child w stage sound c flagged)
      (Reached-child w (w.p c) (insert_side w c) (Spans-reached w (parent_in w stage sound c flagged).spans) said_card.parent.inner)

  -- the parent is, and so is the node that came in
  brought_reached : Reached after (brought w c)
  brought_reached =
      let said_card = its_card w stage sound c flagged in
      subst (Reached after) (child_there w (w.p c) (brought w c) (insert_side w c))
      (Reached-child after (w.p c) (insert_side w c)
      (calm_reached after stages sound' (w.p c) said_card.parent.inner (later.born (w.p c) said_card.parent.born) (no_mark w stage sound c flagged))
      said_card.parent.inner)

  -- the card's node has the children that it had
  kid : (right : Bool) → after.child (internal c) right ≡ w.child (internal c) right
  kid right = elim (child_elsewhere w (w.p c) (brought w c) (insert_side w c) (internal c) right) [
    | inl e ↦ absurd (not_born w stage sound c flagged (w.p c) (omega (arith, e.0)) (its_card w stage sound c flagged).parent.born)
    | inr e ↦ e
  ]

  -- where the node above which it goes does not stay
  module _ (goes : keeps_below w c ≡ false) where
    lower : IsLeaf (w.l c)
    lower = goes-leaf w stage sound c (its_card w stage sound c flagged) goes

    -- two leaves of one key
    clash : (y : ℕ) → Reached after (w.l c) → Reached after y → IsLeaf y → internal c < y → w.key y ≡ w.key (w.l c) → ⊥
    clash y there reached outer above same =
        let said_card = its_card w stage sound c flagged in
        let e = one_leaf after sound'.tree.ordered (w.l c) y there reached lower outer (sym same) in
        let b = said_card.before in
        omega arith

    -- a child of the card's node is reached with it
    own_reached : (two : is_replace_card w c ≡ false) (right : Bool) → Reached after (internal c)
        → Reached after (leaf_on w stage sound c flagged two right)
    own_reached two right reached =
        subst (Reached after) (kid right ∙ own_child w stage sound c flagged two (sym (keeps-stays w c two) ∙ goes) right)
        (Reached-child after (internal c) right reached (omega arith))

    -- the leaf is not in the tree any more
    leaf_out : ¬ Reached after (w.l c)
    leaf_out there = by (is_replace_card w c) refl brought_reached
      where
        by : (b : Bool) → is_replace_card w c ≡ b → Reached after (if b then right_leaf c else internal c) → ⊥
        by true one reached =
            let said_card = its_card w stage sound c flagged in
            let same = eqb-true (w.key (left_leaf c)) (w.key (right_leaf c)) one in
            clash (right_leaf c) there reached (λ h. omega arith) (omega arith) (elim said_card.copy [
              | inl left ↦ sym same ∙ left.key
              | inr right ↦ right.key
            ])
        by false two reached = elim (its_card w stage sound c flagged).copy [
          | inl left ↦ clash (left_leaf c) there (own_reached two false reached) (λ h. omega arith) (omega arith) left.key
          | inr right ↦ clash (right_leaf c) there (own_reached two true reached) (λ h. omega arith) (omega arith) right.key
        ]

-- the outs after a won child exchange of an insert's card
module _ (m : Machine) (stage : Stages) (i : ℕ) (c : ℕ) (said : Stepped) (becomes : Scene) (invariant : Invariant m stage)
    (row : Row (act.IChild c) (scene m i) said becomes) (follows : Follows m stage (act.IChild c) i said (with_scene m i becomes))
    (outs : OutsAreSound m.words stage) (flagged : stage c ≡ StageIFlagged) where
  i_words : becomes.words ≡ ichild_words m.words c (brought m.words c)
  i_words = ap (λ (s : Scene). s.words) (won_waiting m stage i invariant c flagged said becomes row).1

  i_wins : (d : ℕ) → wins_by (act.IChild c) (m.worker i).card said d ≡ win_for (Some c) exchange.IChild d
  i_wins d = ap (λ (t : Stepped). wins_by (act.IChild c) (m.worker i).card t d) (won_waiting m stage i invariant c flagged said becomes row).0

  i_only : (d : ℕ) → acted (stage d) ≡ 0 → 0 < acted (follows.stages d) → d ≡ c
  i_only = only m stage i (act.IChild c) said becomes invariant row follows outs c exchange.IChild i_wins

  i_insert : is_insert (follows.stages c) ≡ true
  i_insert = follows.later.insert c (ap is_insert flagged)

  i_low : c < m.words.next
  i_low = (invariant.words.cards c).claimed.0 (insert-claimed (stage c) (ap is_insert flagged))

  i_sound : WordsAreSound (ichild_words m.words c (brought m.words c)) follows.stages
  i_sound = subst (λ (n : Words). WordsAreSound n follows.stages) i_words follows.invariant.words

  -- the leaf is what it has taken
  pub i_leaf : (d x : ℕ) → d ≡ c → TakesOut becomes.words follows.stages d x → (m.words.l c ≡ x) × (keeps_below m.words c ≡ false)
  i_leaf d x e (inl h) = (
    sym (follows.words.info c i_low).l ∙ (ap becomes.words.l (sym e) ∙ h.2),
    sym (keeps_later m.words becomes.words follows.words c i_low) ∙ (ap (keeps_below becomes.words) (sym e) ∙ h.1),
  )
  i_leaf d x e (inr h) = absurd (one_kind (follows.stages c) i_insert (cut-delete (follows.stages c) (subst (λ n. is_cut (follows.stages n) ≡ true) e h.0)))

  -- a node with another word has its children
  i_kids : (x : ℕ) → m.words.update x ≢ iflag c → (right : Bool) → becomes.words.child x right ≡ m.words.child x right
  i_kids x other right =
      ap (λ (n : Words). n.child x right) i_words ∙ elim (child_elsewhere m.words (m.words.p c) (brought m.words c) (insert_side m.words c) x right) [
        | inl e ↦ absurd (other (ap m.words.update e.0 ∙ its_flag m.words stage invariant.words c flagged))
        | inr e ↦ e
      ]

  -- and update words are as they were
  i_update : (x : ℕ) → becomes.words.update x ≡ m.words.update x
  i_update x = ap (λ (n : Words). n.update x) i_words

  pub ichild_outs : OutsAreSound becomes.words follows.stages
  ichild_outs = outs_from m stage i (act.IChild c) said becomes invariant row follows outs (record {
    reached = λ d x zero takes.
        subst (Reached m.words) (i_leaf d x (i_only d zero (takes-acted becomes.words follows.stages d x takes)) takes).0
        (ichild_had m.words stage invariant.words c flagged follows.stages i_sound follows.later);
    out = λ d x zero takes there.
        let it = i_leaf d x (i_only d zero (takes-acted becomes.words follows.stages d x takes)) takes in
        leaf_out m.words stage invariant.words c flagged follows.stages i_sound follows.later it.1
        (subst (λ (n : Words). Reached n (m.words.l c)) i_words (subst (Reached becomes.words) (sym it.0) there));
    one = λ d d' zero some zero' some'. i_only d zero some ∙ sym (i_only d' zero' some');
    sibling = λ d cut still. elim (cases_eq d c) [
      | inl e ↦ absurd (one_kind (follows.stages c) i_insert (cut-delete (follows.stages c) (subst (λ n. is_cut (follows.stages n) ≡ true) e cut)))
      | inr n ↦
          let some = had_acted m stage i (act.IChild c) said becomes invariant row follows outs c exchange.IChild i_wins d n cut in
          let info = follows.words.info d (acted_claimed m.words stage invariant.words d some) in
          let does = follows.invariant.words.deletes d in
          let flag = sym (i_update (becomes.words.gp d)) ∙ does.flag still in
          let mark = sym (i_update (becomes.words.p d)) ∙ (does.marked (cut-marked (follows.stages d) cut)).mark in
          let flag_here : m.words.update (m.words.gp d) ≡ dflag d = ap m.words.update (sym info.gp) ∙ flag in
          let mark_here : m.words.update (m.words.p d) ≡ marked d = ap m.words.update (sym info.p) ∙ mark in
          sibling_on m stage i (act.IChild c) said becomes invariant row follows outs d some cut still
          (i_kids (m.words.gp d) (λ e. omega arith)) (i_kids (m.words.p d) (λ e. omega arith))
    ];
  })
