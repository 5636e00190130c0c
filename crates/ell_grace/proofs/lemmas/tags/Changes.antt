use Rattle.std.proofs.Common.{◌≡◌, ℕ, ◌+◌, ◌<◌, ◌==◌, ◌⊎◌, if◌then◌else◌, inl, inr, Bool, true, false, Some, List, [], ◌∷◌, refl, sym, ap, ◌∙◌, subst, eq-eqb, arith}
use Rattle.std.proofs.lemmas.Bool.{cases_eq}
use Rattle.ell_word.specs.Node.{internal}
use Rattle.ell_core.specs.declared.exchange.Exchange.{Exchange}
use Rattle.ell_core.specs.declared.exchange.Exchange.TheVariants as exchange
use Rattle.ell_core.specs.declared.event.Act.{Act}
use Rattle.ell_core.specs.declared.event.Act.TheVariants as act
use Rattle.ell_core.specs.declared.event.Event.{Event}
use Rattle.ell_core.specs.declared.event.Stepped.{Stepped}
use Rattle.ell_core.specs.declared.fact.Fact.TheVariants.{Marked}
use Rattle.ell_layout.specs.declared.field.Field.{Field}
use Rattle.ell_layout.specs.Words.{Words, with_update, is_flat}
use Rattle.ell_layout.specs.Cards.{iflag, dflag, claimed, put_filling, value_below, delete_filling, brought, sibling}
use Rattle.ell_core.specs.state.Machine.{Machine, Scene, scene, with_scene}
use Rattle.ell_core.specs.acts.Exchanges.{exchanged_update}
use Rattle.ell_core.specs.acts.Events.{Row, Steps}
use Rattle.ell_core.specs.acts.Wins.{win_for, wins_by}
use Rattle.ell_core.specs.history.Stages.{Stages, IClaimed, IFlagged, DMarked, is_insert, is_delete, is_changed, is_cut}
use Rattle.ell_core.specs.history.Invariant.{insert_side, delete_side, Invariant}
use Rattle.ell_core.specs.history.Later.{Follows, wins_of}
use Rattle.ell_grace.specs.Tags.{HasChanged}
use Rattle.ell_core.proofs.lemmas.words.Later.{tag_there, tag_elsewhere}
use Rattle.ell_core.proofs.lemmas.stages.Order.{changed-insert, cut-delete, one_kind, marked_cases}
use Rattle.ell_core.proofs.lemmas.stages.Sums.{child_changes, sum_by, sum_append, sum-changed}
use Rattle.ell_core.proofs.lemmas.keeping.claim.Filling.{claimed_claims}
use Rattle.ell_core.proofs.lemmas.keeping.claim.Frames.{Claiming, blank}
use Rattle.ell_core.proofs.lemmas.keeping.insert_child.Card.{ichild_words, its_flag}
use Rattle.ell_core.proofs.lemmas.keeping.insert_child.IChild.{waits_or_made, won_waiting, lost_changed}
use Rattle.ell_core.proofs.lemmas.keeping.delete_child.DChild.{dchild-won, dchild-lost}
use Rattle.ell_core.proofs.lemmas.keeping.delete_child.Tree.{cut_words, cuts_at}
use Rattle.ell_core.proofs.lemmas.following.TreeKeys.{KeepsLinks}

-- a card has just changed a child word: it waited for that, with its flag at the node, and the tag is the next one
pub record JustChanged (old : Words) (before : Stages) (new : Words) (after : Stages) (x : ℕ) (right : Bool) : Type 0 where
  pub card : ℕ
  pub waited : ((before card ≡ IFlagged) × (old.update x ≡ iflag card)) ⊎ ((before card ≡ DMarked) × (old.update x ≡ dflag card))
  pub changed : HasChanged new after x right card
  pub next : new.tag x right ≡ old.tag x right + 1

-- an exchange of an update word leaves the tags
update_tags : (w : Words) (x expected new : ℕ) → (exchanged_update w x expected new).tag ≡ w.tag
update_tags w x expected new = by_test (w.update x == expected)
  where
    by_test : (won : Bool) → (if won then with_update w x new else w).tag ≡ w.tag
    by_test true = refl
    by_test false = refl

-- so does an act that neither claims a card nor exchanges a child
row_tags : (a : Act) → KeepsLinks a → (s : Scene) (said : Stepped) (after : Scene) → Row a s said after → after.words.tag ≡ s.words.tag
row_tags (act.Begin op) h s said after r = ap (λ (z : Scene). z.words.tag) r.gives
row_tags act.Upd h s said after r = ap (λ (z : Scene). z.words.tag) r.gives
row_tags act.Down h s said after r = ap (λ (z : Scene). z.words.tag) r.gives
row_tags act.Claim h s said after r = absurd h
row_tags act.IFlag h s said after r = ap (λ (z : Scene). z.words.tag) r.gives ∙ update_tags s.words _ _ _
row_tags act.DFlag h s said after r = ap (λ (z : Scene). z.words.tag) r.gives ∙ update_tags s.words _ _ _
row_tags (act.IChild c) h s said after r = absurd h
row_tags (act.IUnflag c) h s said after r = ap (λ (z : Scene). z.words.tag) r.gives ∙ update_tags s.words _ _ _
row_tags (act.Mark c) h s said after r = ap (λ (z : Scene). z.words.tag) r.gives ∙ update_tags s.words _ _ _
row_tags (act.DChild c) h s said after r = absurd h
row_tags (act.DUnflag c) h s said after r = ap (λ (z : Scene). z.words.tag) r.does.gives ∙ update_tags s.words _ _ _
row_tags (act.Backtrack c) h s said after r = ap (λ (z : Scene). z.words.tag) r.does.gives ∙ update_tags s.words _ _ _
row_tags act.Again h s said after r = ap (λ (z : Scene). z.words.tag) r.gives
row_tags act.Leave h s said after r = ap (λ (z : Scene). z.words.tag) r.gives
row_tags act.Answer h s said after r = ap (λ (z : Scene). z.words.tag) r.gives

-- a card that has won a child exchange has one more
won_one : (k : Exchange) (c : ℕ) → child_changes k ≡ 1 → sum_by child_changes (win_for (Some c) k c) ≡ 1
won_one k c is = ap (λ (b : Bool). sum_by child_changes (if b then k ∷ [] else [])) (eq-eqb c c refl) ∙ (let one : child_changes k + 0 ≡ 1 = omega arith in one)

module _ (m : Machine) (stage : Stages) (i : ℕ) (said : Stepped) (becomes : Scene) (invariant : Invariant m stage) where
  -- a claim leaves the tags: those of the card's node were 0, and are
  claim_tags : (tag : ℕ) (filling : List (Field × ℕ)) (x : ℕ) (right : Bool) → (claimed m.words tag filling).tag x right ≡ m.words.tag x right
  claim_tags tag filling x right =
      let after = claimed m.words tag filling in
      let claims = claimed_claims m.words tag filling in
      let claiming : Claiming m.words after stage IClaimed = record { words = invariant.words; claims = claims; fresh = inl refl } in
      elim (cases_eq x (internal m.words.next)) [
        | inl here ↦
            let none = (blank m.words after stage IClaimed claiming).tags in
            ap (λ n. after.tag n right) here ∙ (claims.tags none right ∙ sym (ap (λ n. m.words.tag n right) here ∙ none right))
        | inr other ↦ claims.others.tag x right other
      ]

  -- a card of either kind has changed, once it has won its child exchange
  module _ (a : Act) (follows : Follows m stage a i said (with_scene m i becomes)) (c : ℕ) (k : Exchange) (is : child_changes k ≡ 1)
      (wins : wins_by a (m.worker i).card said c ≡ win_for (Some c) k c) where
    some_won : 0 < sum_by child_changes (wins_of (follows.stages c))
    some_won =
        let grows = ap (sum_by child_changes) (follows.wins c) in
        let parts = sum_append child_changes (wins_of (stage c)) (wins_by a (m.worker i).card said c) in
        let won = ap (sum_by child_changes) wins in
        let one = won_one k c is in
        omega arith

    insert_changed : is_insert (stage c) ≡ true → is_changed (follows.stages c) ≡ true
    insert_changed kind = elim (sum-changed (follows.stages c) some_won) [
      | inl changed ↦ changed
      | inr cut ↦ absurd (one_kind (follows.stages c) (follows.later.insert c kind) (cut-delete (follows.stages c) cut))
    ]

    delete_cut : is_delete (stage c) ≡ true → is_cut (follows.stages c) ≡ true
    delete_cut kind = elim (sum-changed (follows.stages c) some_won) [
      | inl changed ↦ absurd (one_kind (follows.stages c) (changed-insert (follows.stages c) changed) (follows.later.delete c kind))
      | inr cut ↦ cut
    ]

  -- the tag of a child word is as it was, or a card has just changed that word
  abbrev TagSteps : Stages → Type 0
  TagSteps after = (x : ℕ) (right : Bool) → (becomes.words.tag x right ≡ m.words.tag x right) ⊎ JustChanged m.words stage becomes.words after x right

  -- where the words are these, which differ by a child
  insert_steps : (c : ℕ) → stage c ≡ IFlagged → Row (act.IChild c) (scene m i) said becomes
      → (follows : Follows m stage (act.IChild c) i said (with_scene m i becomes)) → TagSteps follows.stages
  insert_steps c flagged row follows x right =
      let won = won_waiting m stage i invariant c flagged said becomes row in
      let after = ichild_words m.words c (brought m.words c) in
      let words : becomes.words ≡ after = ap (λ (s : Scene). s.words) won.1 in
      let made = insert_changed (act.IChild c) follows c exchange.IChild refl (ap (λ (t : Stepped). wins_by (act.IChild c) (m.worker i).card t c) won.0) (ap is_insert flagged) in
      subst (λ (w : Words). (w.tag x right ≡ m.words.tag x right) ⊎ JustChanged m.words stage w follows.stages x right) (sym words)
      (elim (tag_elsewhere m.words (m.words.p c) (brought m.words c) (insert_side m.words c) x right) [
        | inl e ↦ inr (record {
          card = c;
          waited = inl (flagged, ap m.words.update e.0 ∙ its_flag m.words stage invariant.words c flagged);
          changed = inl (made, sym e.0, sym e.1);
          next = ap (λ n. after.tag n right) e.0 ∙ (ap (after.tag (m.words.p c)) e.1 ∙ (tag_there m.words (m.words.p c) (brought m.words c) (insert_side m.words c)
              ∙ sym (ap (λ n. n + 1) (ap (λ n. m.words.tag n right) e.0 ∙ ap (m.words.tag (m.words.p c)) e.1))));
        })
        | inr e ↦ inl e
      ])

  delete_steps : (c : ℕ) → stage c ≡ DMarked → Row (act.DChild c) (scene m i) said becomes
      → (follows : Follows m stage (act.DChild c) i said (with_scene m i becomes)) → TagSteps follows.stages
  delete_steps c now row follows x right =
      let at = cuts_at m.words stage invariant.words c now in
      let won = dchild-won c (scene m i) stage said becomes at row in
      let after = cut_words m.words c in
      let words : becomes.words ≡ after = ap (λ (s : Scene). s.words) won.1 in
      let made = delete_cut (act.DChild c) follows c exchange.DChild refl (ap (λ (t : Stepped). wins_by (act.DChild c) (m.worker i).card t c) won.0) (ap is_delete now) in
      subst (λ (w : Words). (w.tag x right ≡ m.words.tag x right) ⊎ JustChanged m.words stage w follows.stages x right) (sym words)
      (elim (tag_elsewhere m.words (m.words.gp c) (sibling m.words c) (delete_side m.words c) x right) [
        | inl e ↦ inr (record {
          card = c;
          waited = inr (now, ap m.words.update e.0 ∙ at.flag);
          changed = inr (made, sym e.0, sym e.1);
          next = ap (λ n. after.tag n right) e.0 ∙ (ap (after.tag (m.words.gp c)) e.1 ∙ (tag_there m.words (m.words.gp c) (sibling m.words c) (delete_side m.words c)
              ∙ sym (ap (λ n. n + 1) (ap (λ n. m.words.tag n right) e.0 ∙ ap (m.words.tag (m.words.gp c)) e.1))));
        })
        | inr e ↦ inl e
      ])

  -- the same of an act that leaves the tags
  quiet_steps : (a : Act) → KeepsLinks a → Row a (scene m i) said becomes → (after : Stages) → TagSteps after
  quiet_steps a keeps row after x right = inl (ap (λ f. f x right) (row_tags a keeps (scene m i) said becomes row))

  -- so it is of each act
  tags_by : (a : Act) → Row a (scene m i) said becomes → (follows : Follows m stage a i said (with_scene m i becomes)) → TagSteps follows.stages
  tags_by (act.IChild c) row follows = elim (waits_or_made m stage i invariant c row.may) [
    | inl flagged ↦ insert_steps c flagged row follows
    | inr changed ↦ λ x right. inl (ap (λ (s : Scene). s.words.tag x right) (lost_changed m stage i invariant c changed said becomes row).1)
  ]
  tags_by (act.DChild c) row follows = elim (marked_cases (stage c) ((invariant.workers.each i).facts (Marked c) row.may)) [
    | inl now ↦ delete_steps c now row follows
    | inr cut ↦ λ x right. inl (ap (λ (s : Scene). s.words.tag x right) (dchild-lost c (scene m i) stage said becomes invariant.words cut row).1)
  ]
  tags_by act.Claim (inl row) follows = λ x right. inl (ap (λ (s : Scene). s.words.tag x right) row.gives
      ∙ claim_tags row.parent.tag
      (put_filling (is_flat m.words) m.words.next row.what.key row.what.value row.node_key row.parent.node row.below (m.words.key row.below) (value_below m.words row.below)) x right)
  tags_by act.Claim (inr row) follows = λ x right. inl (ap (λ (s : Scene). s.words.tag x right) row.gives
      ∙ claim_tags row.grandparent.tag (delete_filling row.grandparent.node row.parent.node row.leaf row.parent.word) x right)
  tags_by (act.Begin op) row follows = quiet_steps (act.Begin op) tt row follows.stages
  tags_by act.Upd row follows = quiet_steps act.Upd tt row follows.stages
  tags_by act.Down row follows = quiet_steps act.Down tt row follows.stages
  tags_by act.IFlag row follows = quiet_steps act.IFlag tt row follows.stages
  tags_by act.DFlag row follows = quiet_steps act.DFlag tt row follows.stages
  tags_by (act.IUnflag c) row follows = quiet_steps (act.IUnflag c) tt row follows.stages
  tags_by (act.Mark c) row follows = quiet_steps (act.Mark c) tt row follows.stages
  tags_by (act.DUnflag c) row follows = quiet_steps (act.DUnflag c) tt row follows.stages
  tags_by (act.Backtrack c) row follows = quiet_steps (act.Backtrack c) tt row follows.stages
  tags_by act.Again row follows = quiet_steps act.Again tt row follows.stages
  tags_by act.Leave row follows = quiet_steps act.Leave tt row follows.stages
  tags_by act.Answer row follows = quiet_steps act.Answer tt row follows.stages

-- and of each event
pub tags_step : (m : Machine) (stage : Stages) (e : Event) (said : Stepped) (m' : Machine) → Invariant m stage → Steps m e said m'
    → (follows : Follows m stage e.act e.worker said m') → (x : ℕ) (right : Bool)
    → (m'.words.tag x right ≡ m.words.tag x right) ⊎ JustChanged m.words stage m'.words follows.stages x right
tags_step m stage e said m' invariant h follows =
    subst (λ (t : Machine). (f : Follows m stage e.act e.worker said t) → (x : ℕ) (right : Bool)
    → (t.words.tag x right ≡ m.words.tag x right) ⊎ JustChanged m.words stage t.words f.stages x right) (sym h.gives)
    (λ f. tags_by m stage e.worker said h.becomes invariant e.act h.happens.row f) follows
