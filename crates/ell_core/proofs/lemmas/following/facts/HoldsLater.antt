use Rattle.std.proofs.Common.{◌≡◌, ◌≢◌, ℕ, ◌%◌, ◌<◌, ◌≤◌, ◌⊎◌, inl, inr, true, false, sym, ap, ◌∙◌, arith, nat_le}
use Rattle.std.proofs.lemmas.Bool.{false≢true, cases_Bool, eqb-true}
use Rattle.ell_word.specs.Node.{internal, left_leaf, right_leaf, card}
use Rattle.ell_core.specs.declared.fact.Fact.{Fact}
use Rattle.ell_core.specs.declared.fact.Fact.TheVariants as fact
use Rattle.ell_layout.specs.Words.{Words}
use Rattle.ell_core.specs.state.Facts.{card_of_fact}
use Rattle.ell_layout.specs.Cards.{iflag, dflag, is_right, is_delete_card, card_key, card_tag}
use Rattle.ell_core.specs.soundness.Holds.{IFlagHolds, IChangeHolds, DFlagHolds, MarkHolds, UnmarkableHolds, CutHolds, Holds}
use Rattle.ell_core.specs.history.Stages.{Stages, is_start, is_node_born, is_insert, is_delete, is_cut, delete_waits}
use Rattle.ell_core.specs.history.Invariant.{insert_side, delete_side, WordsAreSound, KindsAreSound}
use Rattle.ell_core.specs.history.Later.{WordsLater, StagesLater}
use Rattle.ell_core.proofs.lemmas.runs.Chains.{MarksLater}
use Rattle.ell_core.proofs.lemmas.words.Sides.{key_of_three, card_key-insert, card_key-delete, insert_key-side}
use Rattle.ell_core.proofs.lemmas.following.facts.Claimed.{is_delete-by_child, not_delete-by_child, fact_claimed}
use Rattle.ell_core.proofs.lemmas.stages.LaterKeys.{born_below, top_tag_later}
use Rattle.ell_core.proofs.lemmas.stages.Order.{marked_cases}
use Rattle.ell_core.proofs.lemmas.stages.Waiting.{start-born}
use Rattle.ell_core.proofs.lemmas.tree.Ranks.{rank_root}
use Rattle.ell_core.specs.tree.Rank.{rank}

-- a card that counts as an insert's has a left child
left_child : (w : Words) (c : ℕ) → is_delete_card w c ≡ false → w.child (internal c) false ≢ 0
left_child w c h e = false≢true (sym h ∙ is_delete-by_child w c e)

-- of what kind a claimed card is that counts as an insert's
counts_as_insert : (w : Words) (stage : Stages) (c : ℕ) → WordsAreSound w stage → KindsAreSound w stage → c < w.next → is_delete_card w c ≡ false
    → (is_start (stage c) ≡ true) ⊎ (is_insert (stage c) ≡ true)
counts_as_insert w stage c sound kinds below h = elim (cases_Bool (is_start (stage c))) [
  | inl e ↦ inl e
  | inr n ↦ elim (kinds.kinds c below n) [
    | inl insert ↦ inr insert
    | inr delete ↦ absurd (left_child w c h ((sound.cards c).delete delete).no_left_child)
  ]
]

-- a claimed card that counts as a delete's is one
counts_as_delete : (w : Words) (stage : Stages) (c : ℕ) → WordsAreSound w stage → KindsAreSound w stage → c < w.next → is_delete_card w c ≡ true
    → is_delete (stage c) ≡ true
counts_as_delete w stage c sound kinds below h = elim (cases_Bool (is_start (stage c))) [
  | inl e ↦ absurd (let at : card (internal c) ≡ c = omega arith in
      let born = ap (λ n. is_node_born (stage n) (internal c % 4)) at ∙ start-born (stage c) (internal c % 4) (omega arith) e in
      let up = (sound.children (internal c) (omega arith) born).rising false in
      let none = ap (rank w) (eqb-true (w.child (internal c) false) 0 h) in
      let least = rank_root w in
      omega arith)
  | inr n ↦ elim (kinds.kinds c below n) [
    | inl insert ↦ absurd (((sound.cards c).insert insert).left_child (eqb-true (w.child (internal c) false) 0 h))
    | inr delete ↦ delete
  ]
]

-- two words of the machine, the second later
module _ (old new : Words) (stage stages : Stages) (before : WordsAreSound old stage) (after : WordsAreSound new stages)
    (words : WordsLater old new) (later : StagesLater stage stages) (marks : MarksLater old new) (kinds : KindsAreSound old stage) where
  -- an update word that a card names rose
  update_later : (x y : ℕ) → y ≡ x → old.update x ≤ new.update y
  update_later x y e = let rises = words.update x in let same = ap new.update e in omega arith

  iflag_later : (c : ℕ) → c < old.next → IFlagHolds old c → IFlagHolds new c
  iflag_later c below h = (
    not_delete-by_child new c (words.some (internal c) false (left_child old c h.0)),
    (let rises = update_later (old.p c) (new.p c) (words.info c below).p in let flag = h.1 in omega arith),
  )

  dflag_later : (c : ℕ) → c < old.next → DFlagHolds old c → DFlagHolds new c
  dflag_later c below h = (
    is_delete-by_child new c ((after.cards c).delete (later.delete c (counts_as_delete old stage c before kinds below h.0))).no_left_child,
    (let rises = update_later (old.gp c) (new.gp c) (words.info c below).gp in let flag = h.1 in omega arith),
  )

  -- the mark stands on
  mark_later : (c : ℕ) → c < old.next → MarkHolds old c → MarkHolds new c
  mark_later c below h = (
    dflag_later c below h.0,
    ap new.update (words.info c below).p ∙ ((words.frozen (old.p c) c h.1).update ∙ h.1),
  )

  -- the mark can't be set any more
  unmarkable_later : (c : ℕ) → c < old.next → UnmarkableHolds old c → UnmarkableHolds new c
  unmarkable_later c below h = (
    dflag_later c below h.0,
    (let rises = update_later (old.p c) (new.p c) (words.info c below).p in let same = (words.info c below).was in let past = h.1 in omega arith),
    (λ mark. elim (marks (old.p c) c below (sym (ap new.update (words.info c below).p) ∙ mark)) [
      | inl stood ↦ h.2 stood
      | inr less ↦ (let past = h.1 in omega arith)
    ]),
  )

  -- the tag at the parent of a card that counts as an insert's, and goes to nodes of claimed cards, on the card's side, later
  -- and before
  side_tag : (c : ℕ) → c < old.next → card (old.p c) < old.next → card (old.l c) < old.next → is_delete_card old c ≡ false
      → is_delete_card new c ≡ false → card_tag new c (new.p c) ≡ new.tag (old.p c) (is_right old (old.p c) (card_key old c))
  side_tag c below parent leaf no_delete still =
      let info = words.info c below in
      let left = words.key (left_leaf c) (omega arith) in
      let right = words.key (right_leaf c) (omega arith) in
      let at_leaf = ap new.key info.l ∙ words.key (old.l c) leaf in
      let at_parent = ap new.key info.p ∙ words.key (old.p c) parent in
      let key : card_key new c ≡ card_key old c =
      card_key-insert new c still ∙ ((λ t. key_of_three (left t) (right t) (at_leaf t)) ∙ sym (card_key-insert old c no_delete)) in
      λ t. new.tag (info.p t) (nat_le (at_parent t) (key t))

  -- the tags that such a card expects are those of cards before it, so that once its tag was greater it stays so
  made_change : (c : ℕ) → c < old.next → card (old.p c) < old.next → card (old.l c) < old.next → IChangeHolds old c
      → old.expects c ≤ card_tag old c (old.p c) → card_tag new c (new.p c) ≢ new.expects c
  made_change c below parent leaf h least e =
      let now = side_tag c below parent leaf h.0.0 (iflag_later c below h.0).0 in
      let rises = words.tag (old.p c) (is_right old (old.p c) (card_key old c)) in
      let same = (words.info c below).expects in
      let apart = h.1 in
      omega arith

  -- a card of the opening tree says that it goes to node 0, and expects tag 0
  start_change : (c : ℕ) → is_start (stage c) ≡ true → c < old.next → IChangeHolds old c → card_tag new c (new.p c) ≢ new.expects c
  start_change c is below h =
      let nowhere = kinds.start c is in
      let parent = nowhere.parent in
      let leaf = nowhere.leaf in
      let expects = nowhere.expects in
      let some = kinds.some in
      made_change c below (omega arith) (omega arith) h (omega arith)

  -- an insert's child exchange was made once and for all
  insert_change : (c : ℕ) → c < old.next → is_insert (stage c) ≡ true → IChangeHolds old c → card_tag new c (new.p c) ≢ new.expects c
  insert_change c below insert h =
      let said = (before.cards c).insert insert in
      let least = said.at_least in
      let tag : card_tag old c (old.p c) ≡ old.tag (old.p c) (insert_side old c) =
      ap (old.tag (old.p c)) (ap (is_right old (old.p c)) (card_key-insert old c h.0.0) ∙ insert_key-side old stage c said) in
      made_change c below (born_below old stage before (old.p c) said.parent.born) (born_below old stage before (old.l c) said.lower) h (omega arith)

  ichange_later : (c : ℕ) → c < old.next → IChangeHolds old c → IChangeHolds new c
  ichange_later c below h = (
    iflag_later c below h.0,
    elim (counts_as_insert old stage c before kinds below h.0.0) [
      | inl start ↦ start_change c start below h
      | inr insert ↦ insert_change c below insert h
    ],
  )

  -- the tag at a delete's grandparent on the card's side, later and before
  delete_tag_later : (c : ℕ) → is_delete (stage c) ≡ true → is_delete_card new c ≡ true
      → card_tag new c (new.gp c) ≡ new.tag (old.gp c) (delete_side old c)
  delete_tag_later c delete some =
      ap (λ k. new.tag (new.gp c) (is_right new (new.gp c) k)) (card_key-delete new c some)
      ∙ top_tag_later old new stage before words c delete

  -- a delete that is marked, and whose grandparent's child word has not the tag that it expects, has cut
  has_cut : (c : ℕ) → is_delete (stage c) ≡ true → CutHolds old c → is_cut (stage c) ≡ true
  has_cut c delete h =
      let parent = ((before.cards c).delete delete).parent in
      let marked = ((before.updates (old.p c) parent.inner parent.born).marked c h.0.1).0 in
      elim (marked_cases (stage c) marked) [
        | inl waits ↦ absurd (h.1 (ap (old.tag (old.gp c)) (ap (is_right old (old.gp c)) (card_key-delete old c h.0.0.0)) ∙ (before.deletes c).tagged (ap delete_waits waits)))
        | inr cut ↦ cut
      ]

  -- a delete's child exchange was made once and for all
  cut_later : (c : ℕ) → c < old.next → CutHolds old c → CutHolds new c
  cut_later c below h = (mark_later c below h.0, cut)
    where
      delete : is_delete (stage c) ≡ true
      delete = counts_as_delete old stage c before kinds below h.0.0.0

      cut : card_tag new c (new.gp c) ≢ new.expects c
      cut e =
          let past = ((before.deletes c).cut (has_cut c delete h)).past in
          let rises = words.tag (old.gp c) (delete_side old c) in
          let now = delete_tag_later c delete (mark_later c below h.0).0.0 in
          let expects = (words.info c below).expects in
          omega arith

  -- a flag of a delete that was taken away stays so
  past_later : (c : ℕ) → c < old.next → dflag c < old.update (old.gp c) → dflag c < new.update (new.gp c)
  past_later c below past = let rises = update_later (old.gp c) (new.gp c) (words.info c below).gp in omega arith

  -- and that of an insert
  over_later : (c : ℕ) → c < old.next → iflag c < old.update (old.p c) → iflag c < new.update (new.p c)
  over_later c below past = let rises = update_later (old.p c) (new.p c) (words.info c below).p in omega arith

  -- a fact of a claimed card that holds, holds later
  claimed_later : (f : Fact) → card_of_fact f < old.next → Holds old f → Holds new f
  claimed_later (fact.IFlagged c) below h = iflag_later c below h
  claimed_later (fact.IChanged c) below h = ichange_later c below h
  claimed_later (fact.IOver c) below h = (ichange_later c below h.0, over_later c below h.1)
  claimed_later (fact.DFlagged c) below h = dflag_later c below h
  claimed_later (fact.Marked c) below h = mark_later c below h
  claimed_later (fact.Unmarkable c) below h = unmarkable_later c below h
  claimed_later (fact.Cut c) below h = cut_later c below h
  claimed_later (fact.DOver c) below h = (cut_later c below h.0, past_later c below h.1)
  claimed_later (fact.Backed c) below h = (unmarkable_later c below h.0, past_later c below h.1)

  -- a fact that holds, holds later
  pub holds_later : (f : Fact) → Holds old f → Holds new f
  holds_later f h = claimed_later f (fact_claimed old stage before f h) h
