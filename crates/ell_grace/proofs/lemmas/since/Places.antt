use Rattle.std.proofs.Common.{◌≡◌, ℕ, ◌==◌, if◌then◌else◌, ◌⊎◌, inl, inr, Bool, true, false, refl, sym, ap, ◌∙◌, subst, arith}
use Rattle.std.proofs.lemmas.Bool.{cases_eq, false≢true, false_from_ne_true, eq-eqb, ne_eqb}
use Rattle.ell_layout.specs.Words.{Words}
use Rattle.ell_layout.specs.Cards.{keeps_below, sibling}
use Rattle.ell_core.specs.tree.Tree.{Reached}
use Rattle.ell_core.specs.history.Stages.{IFlagged, Stages, insert_won, delete_won, is_marked, waits}
use Rattle.ell_core.specs.history.Invariant.{delete_side, leaf_side, insert_side, WordsAreSound}
use Rattle.ell_core.specs.statements.Since.{has_ended}
use Rattle.ell_grace.specs.Gone.{TakesOut, IsGone, OutsAreSound}
use Rattle.ell_core.proofs.lemmas.tree.Paths.{Reached-child}
use Rattle.ell_core.proofs.lemmas.stages.Order.{insert_won-insert, delete_won-delete, cut-delete, marked-won, waits_or_changed, marked_cases}
use Rattle.ell_core.proofs.lemmas.stages.Flags.{insert-unended, delete-unended, unbacked_cases}
use Rattle.ell_core.proofs.lemmas.stages.Ended.{backed-ended}
use Rattle.ell_core.proofs.lemmas.keeping.delete_child.Tree.{cuts_at}
use Rattle.ell_core.proofs.lemmas.keeping.insert_child.Card.{its_child}
use Rattle.ell_grace.proofs.lemmas.outs.Taken.{calm_reached}
use Rattle.ell_grace.proofs.lemmas.outs.Deletes.{leaf_had, parent_had}

-- the children of a node, of which one is a leaf, are this leaf and the sibling
kid_is : (kids : Bool → ℕ) (side : Bool) (leaf : ℕ) → kids side ≡ leaf → (right : Bool)
    → (kids right ≡ leaf) ⊎ (kids right ≡ (if kids true == leaf then kids false else kids true))
kid_is kids true leaf h true = inl h
kid_is kids true leaf h false = inr (sym (ap (λ (b : Bool). if b then kids false else kids true) (eq-eqb (kids true) leaf h)))
kid_is kids false leaf h false = inl h
kid_is kids false leaf h true = elim (cases_eq (kids true) leaf) [
  | inl e ↦ inl e
  | inr n ↦ inr (sym (ap (λ (b : Bool). if b then kids false else kids true) (ne_eqb (kids true) leaf n)))
]

module _ (w : Words) (stage : Stages) (sound : WordsAreSound w stage) (outs : OutsAreSound w stage) where
  -- what is in the tree is not gone
  pub reached_stays : (x : ℕ) → Reached w x → ¬ IsGone w stage x
  reached_stays x reached gone = outs.out gone.taker x gone.takes reached

  -- nor is what a card has taken out that has not ended
  own_stays : (c x : ℕ) → TakesOut w stage c x → has_ended (stage c) ≡ false → ¬ IsGone w stage x
  own_stays c x takes un gone =
      let same = outs.once c gone.taker x takes gone.takes in
      false≢true (sym un ∙ (ap (λ n. has_ended (stage n)) same ∙ gone.ended))

  -- the parent of an insert that has won its flag and has not ended is in the tree
  parent_reached : (c : ℕ) → insert_won (stage c) ≡ true → has_ended (stage c) ≡ false → Reached w (w.p c)
  parent_reached c won un =
      let card = (sound.cards c).insert (insert_won-insert (stage c) won) in
      let flag = (sound.inserts c).flag (insert-unended (stage c) won un) in
      calm_reached w stage sound (w.p c) card.parent.inner card.parent.born (λ d e. omega arith)

  -- so it is not gone
  pub insert_parent : (c : ℕ) → insert_won (stage c) ≡ true → has_ended (stage c) ≡ false → ¬ IsGone w stage (w.p c)
  insert_parent c won un = reached_stays (w.p c) (parent_reached c won un)

  -- nor is the node where it goes, while its child exchange was not made
  pub insert_waiting : (c : ℕ) → stage c ≡ IFlagged → ¬ IsGone w stage (w.l c)
  insert_waiting c at =
      let won = ap insert_won at in
      let card = (sound.cards c).insert (insert_won-insert (stage c) won) in
      reached_stays (w.l c) (subst (Reached w) (its_child w stage sound c at)
      (Reached-child w (w.p c) (insert_side w c) (parent_reached c won (ap has_ended at)) card.parent.inner))

  -- and if that does not stay, then also later
  pub insert_leaf : (c : ℕ) → insert_won (stage c) ≡ true → has_ended (stage c) ≡ false → keeps_below w c ≡ false → ¬ IsGone w stage (w.l c)
  insert_leaf c won un goes = elim (waits_or_changed (stage c) won) [
    | inl at ↦ insert_waiting c at
    | inr changed ↦ own_stays c (w.l c) (inl (changed, goes, refl)) un
  ]

  -- the grandparent of a delete that has won its flag and has not ended is in the tree
  above_reached : (c : ℕ) → delete_won (stage c) ≡ true → has_ended (stage c) ≡ false → Reached w (w.gp c)
  above_reached c won un =
      let card = (sound.cards c).delete (delete_won-delete (stage c) won) in
      let flag = (sound.deletes c).flag (delete-unended (stage c) won un) in
      calm_reached w stage sound (w.gp c) card.grandparent.inner card.grandparent.born (λ d e. omega arith)

  -- so it is not gone, nor is the parent
  pub delete_nodes : (c : ℕ) → delete_won (stage c) ≡ true → has_ended (stage c) ≡ false → (¬ IsGone w stage (w.gp c)) × (¬ IsGone w stage (w.p c))
  delete_nodes c won un =
      let card = (sound.cards c).delete (delete_won-delete (stage c) won) in
      let above = above_reached c won un in (
        reached_stays (w.gp c) above,
        elim (unbacked_cases (stage c) won (false_from_ne_true _ (λ backed. false≢true (sym un ∙ backed-ended (stage c) backed)))) [
          | inl waits ↦ reached_stays (w.p c) (subst (Reached w) ((sound.deletes c).waits waits) (Reached-child w (w.gp c) (delete_side w c) above card.grandparent.inner))
          | inr cut ↦ own_stays c (w.p c) (inr (cut, inl refl)) un
        ],
      )

  -- nor, once it was marked, are its leaf and the children of the parent
  pub marked_nodes : (c : ℕ) → is_marked (stage c) ≡ true → has_ended (stage c) ≡ false
      → (¬ IsGone w stage (w.l c)) × ((right : Bool) → ¬ IsGone w stage (w.child (w.p c) right))
  marked_nodes c mark un = elim (marked_cases (stage c) mark) [
    | inl now ↦
        let at = cuts_at w stage sound c now in (
          reached_stays (w.l c) (leaf_had w stage sound c at),
          λ right. reached_stays (w.child (w.p c) right) (Reached-child w (w.p c) right (parent_had w stage sound c at) at.parent.inner),
        )
    | inr cut ↦
        let card = (sound.cards c).delete (cut-delete (stage c) cut) in
        let won = marked-won (stage c) mark in
        let leaf = own_stays c (w.l c) (inr (cut, inr refl)) un in
        let other = reached_stays (sibling w c) (subst (Reached w) (outs.sibling c cut (delete-unended (stage c) won un))
        (Reached-child w (w.gp c) (delete_side w c) (above_reached c won un) card.grandparent.inner)) in (
          leaf,
          λ right. elim (kid_is (w.child (w.p c)) (leaf_side w c) (w.l c) ((sound.deletes c).marked mark).leaf right) [
            | inl e ↦ subst (λ n. ¬ IsGone w stage n) (sym e) leaf
            | inr e ↦ subst (λ n. ¬ IsGone w stage n) (sym e) other
          ],
        )
  ]
