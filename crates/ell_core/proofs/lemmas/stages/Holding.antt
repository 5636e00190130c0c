use Rattle.std.proofs.Common.{◌≡◌, ℕ, ◌<◌, ◌≤◌, ◌==◌, ◌⊎◌, if◌then◌else◌, Bool, true, false, not, Option, Some, None, inl, inr, refl, sym, ap, ◌∙◌, subst, arith}
use Rattle.std.proofs.lemmas.Bool.{false≢true, cond-true, cond-false, eq-eqb, ne_eqb, cases_eq}
use Rattle.std.proofs.lemmas.Bool.Decides.{nat_tests}
use Rattle.ell_ops.specs.declared.op.Op.{Op}
use Rattle.ell_ops.specs.declared.op.Op.TheVariants.{Find, Insert, Delete, Swap}
use Rattle.ell_ops.specs.Meaning.{key_of}
use Rattle.ell_word.specs.Node.{internal}
use Rattle.ell_core.specs.declared.fact.Fact.{Fact}
use Rattle.ell_core.specs.declared.fact.Fact.TheVariants as fact
use Rattle.ell_layout.specs.Words.{Words}
use Rattle.ell_core.specs.state.Facts.{card_of_fact}
use Rattle.ell_core.specs.state.Machine.{Ledger, Worker}
use Rattle.ell_layout.specs.Cards.{iflag, dflag, marked, is_right, is_delete_card, card_tag, card_key}
use Rattle.ell_core.specs.soundness.Holds.{IFlagHolds, IChangeHolds, DFlagHolds, MarkHolds, UnmarkableHolds, CutHolds, Holds, entry_made, is_changed_in, is_cut_in, made_in, with_made, effective_of, effective}
use Rattle.ell_core.specs.history.Stages.{Stage, Stages, is_insert, is_delete, insert_won, insert_open, insert_waits, is_changed, insert_over, delete_won, delete_open, delete_waits, is_unmarkable, is_marked, is_cut, delete_past, delete_over, is_backed, allows, made_by_stage, effective_at_of, effective_at}
use Rattle.ell_core.specs.history.Stages as at
use Rattle.ell_core.specs.history.Invariant.{insert_key, delete_key, insert_side, delete_side, WordsAreSound, Flagged, WorkerIsSound}
use Rattle.ell_core.proofs.lemmas.stages.Order.{changed-won, cut-marked, delete_won-delete, insert_over-changed, insert_won-insert, marked-won}
use Rattle.ell_core.proofs.lemmas.words.Sides.{insert_key-side}

insert_won-cases : (s : Stage) → insert_won s ≡ true → (insert_open s ≡ true) ⊎ (insert_over s ≡ true)
insert_won-cases at.IFlagged h = inl refl
insert_won-cases at.IChanged h = inl refl
insert_won-cases at.IOver h = inr refl
insert_won-cases at.RChanged h = inl refl
insert_won-cases at.ROver h = inr refl
insert_won-cases _ h = absurd (false≢true h)

pub delete_won-cases : (s : Stage) → delete_won s ≡ true → (delete_open s ≡ true) ⊎ (delete_past s ≡ true)
delete_won-cases at.DFlagged h = inl refl
delete_won-cases at.DUnmarkable h = inl refl
delete_won-cases at.DMarked h = inl refl
delete_won-cases at.DCut h = inl refl
delete_won-cases at.DOver h = inr refl
delete_won-cases at.DBacked h = inr refl
delete_won-cases _ h = absurd (false≢true h)

delete_over-cut : (s : Stage) → delete_over s ≡ true → (is_cut s ≡ true) × (delete_past s ≡ true)
delete_over-cut s h = (grind arith, grind arith)

unmarkable-won : (s : Stage) → is_unmarkable s ≡ true → (delete_won s ≡ true) × (is_marked s ≡ false)
unmarkable-won s h = (grind arith, grind arith)

pub backed-unmarkable : (s : Stage) → is_backed s ≡ true → (is_unmarkable s ≡ true) × (delete_past s ≡ true)
backed-unmarkable s h = (grind arith, grind arith)

-- what is over is past, and what stands is the same: either is no less
no_less : (flag update : ℕ) → (update ≡ flag) ⊎ (flag < update) → flag ≤ update
no_less flag update (inl e) = omega arith
no_less flag update (inr h) = omega arith

-- what an insert or a swap has made does not depend on cuts, nor what a delete has made on changes
made_insert : (k value : ℕ) (changed : Bool) (cut cut' : Bool) → entry_made (Insert k value) changed cut ≡ entry_made (Insert k value) changed cut'
made_insert k value true cut cut' = refl
made_insert k value false cut cut' = refl

made_swap : (k was value : ℕ) (changed : Bool) (cut cut' : Bool) → entry_made (Swap k was value) changed cut ≡ entry_made (Swap k was value) changed cut'
made_swap k was value true cut cut' = refl
made_swap k was value false cut cut' = refl

made_delete : (k : ℕ) (cut : Bool) (changed changed' : Bool) → entry_made (Delete k) changed cut ≡ entry_made (Delete k) changed' cut
made_delete k true changed changed' = refl
made_delete k false changed changed' = refl

-- an insert that won its flag has changed the child word or waits for it
changed_by_tag : (s : Stage) (tag expected : ℕ) → insert_won s ≡ true
    → (insert_waits s ≡ true → tag ≡ expected) → (is_changed s ≡ true → expected < tag) → not (tag == expected) ≡ is_changed s
changed_by_tag at.IFlagged tag expected won waits changed = let b = waits refl in grind (arith, nat_tests)
changed_by_tag at.IChanged tag expected won waits changed = let b = changed refl in grind (arith, nat_tests)
changed_by_tag at.IOver tag expected won waits changed = let b = changed refl in grind (arith, nat_tests)
changed_by_tag at.RChanged tag expected won waits changed = let b = changed refl in grind (arith, nat_tests)
changed_by_tag at.ROver tag expected won waits changed = let b = changed refl in grind (arith, nat_tests)
changed_by_tag _ tag expected won waits changed = absurd (false≢true won)

-- a delete that won its flag has cut if it is marked and does not wait
cut_by_tag : (s : Stage) (below mark tag expected : ℕ) → delete_won s ≡ true
    → (delete_waits s ≡ true → tag ≡ expected) → (is_cut s ≡ true → expected < tag)
    → (is_marked s ≡ true → below ≡ mark) → (below ≡ mark → is_marked s ≡ true)
    → (if below == mark then not (tag == expected) else false) ≡ is_cut s
cut_by_tag at.DFlagged below mark tag expected won waits cut marks marked =
    elim (cases_eq below mark) [ inl e ↦ absurd (false≢true (marked e)) | inr n ↦ grind (arith, nat_tests) ]
cut_by_tag at.DUnmarkable below mark tag expected won waits cut marks marked =
    elim (cases_eq below mark) [ inl e ↦ absurd (false≢true (marked e)) | inr n ↦ grind (arith, nat_tests) ]
cut_by_tag at.DMarked below mark tag expected won waits cut marks marked =
    let b = marks refl in let c = waits refl in grind (arith, nat_tests)
cut_by_tag at.DCut below mark tag expected won waits cut marks marked =
    let b = marks refl in let c = cut refl in grind (arith, nat_tests)
cut_by_tag at.DOver below mark tag expected won waits cut marks marked =
    let b = marks refl in let c = cut refl in grind (arith, nat_tests)
cut_by_tag at.DBacked below mark tag expected won waits cut marks marked =
    elim (cases_eq below mark) [ inl e ↦ absurd (false≢true (marked e)) | inr n ↦ grind (arith, nat_tests) ]
cut_by_tag _ below mark tag expected won waits cut marks marked = absurd (false≢true won)

-- the words are sound at these stages
module _ (w : Words) (stage : Stages) (sound : WordsAreSound w stage) where
  -- an insert's card by its words
  pub insert_kind : (c : ℕ) → is_insert (stage c) ≡ true → is_delete_card w c ≡ false
  insert_kind c h = ne_eqb (w.child (internal c) false) 0 ((sound.cards c).insert h).left_child

  -- a delete's card by its words
  pub delete_kind : (c : ℕ) → is_delete (stage c) ≡ true → is_delete_card w c ≡ true
  delete_kind c h = eq-eqb (w.child (internal c) false) 0 ((sound.cards c).delete h).no_left_child

  -- the side of a card's own key at the parent is that on which its exchange puts its node
  insert_card_side : (c : ℕ) → is_insert (stage c) ≡ true → is_right w (w.p c) (card_key w c) ≡ insert_side w c
  insert_card_side c h =
      ap (is_right w (w.p c)) (cond-false (is_delete_card w c) (delete_key w c) (insert_key w c) (insert_kind c h))
      ∙ insert_key-side w stage c ((sound.cards c).insert h)

  pub insert_card_tag : (c : ℕ) → is_insert (stage c) ≡ true → card_tag w c (w.p c) ≡ w.tag (w.p c) (insert_side w c)
  insert_card_tag c h = ap (w.tag (w.p c)) (insert_card_side c h)

  -- the same of a delete
  delete_card_side : (c : ℕ) → is_delete (stage c) ≡ true → is_right w (w.gp c) (card_key w c) ≡ delete_side w c
  delete_card_side c h =
      ap (is_right w (w.gp c)) (cond-true (is_delete_card w c) (delete_key w c) (insert_key w c) (delete_kind c h))

  pub delete_card_tag : (c : ℕ) → is_delete (stage c) ≡ true → card_tag w c (w.gp c) ≡ w.tag (w.gp c) (delete_side w c)
  delete_card_tag c h = ap (w.tag (w.gp c)) (delete_card_side c h)

  -- what each fact says, of a card whose stage allows it
  iflag_holds : (c : ℕ) → insert_won (stage c) ≡ true → IFlagHolds w c
  iflag_holds c h = (
    insert_kind c (insert_won-insert (stage c) h),
    no_less (iflag c) (w.update (w.p c)) (elim (insert_won-cases (stage c) h) [
      | inl opened ↦ inl ((sound.inserts c).flag opened)
      | inr over ↦ inr ((sound.inserts c).over over)
    ]),
  )

  ichange_holds : (c : ℕ) → is_changed (stage c) ≡ true → IChangeHolds w c
  ichange_holds c h =
      let won = changed-won (stage c) h in (
        iflag_holds c won,
        λ e.
            let past = (sound.inserts c).changed h in
            let tag = insert_card_tag c (insert_won-insert (stage c) won) in
            absurd (omega arith),
      )

  dflag_holds : (c : ℕ) → delete_won (stage c) ≡ true → DFlagHolds w c
  dflag_holds c h = (
    delete_kind c (delete_won-delete (stage c) h),
    no_less (dflag c) (w.update (w.gp c)) (elim (delete_won-cases (stage c) h) [
      | inl opened ↦ inl ((sound.deletes c).flag opened)
      | inr past ↦ inr ((sound.deletes c).past past)
    ]),
  )

  mark_holds : (c : ℕ) → is_marked (stage c) ≡ true → MarkHolds w c
  mark_holds c h = (dflag_holds c (marked-won (stage c) h), ((sound.deletes c).marked h).mark)

  -- the mark at a delete's parent is the mark of a delete that set it
  pub mark_means : (c : ℕ) → is_delete (stage c) ≡ true → w.update (w.p c) ≡ marked c → is_marked (stage c) ≡ true
  mark_means c h e =
      let parent = ((sound.cards c).delete h).parent in
      ((sound.updates (w.p c) parent.inner parent.born).marked c e).0

  unmarkable_holds : (c : ℕ) → is_unmarkable (stage c) ≡ true → UnmarkableHolds w c
  unmarkable_holds c h =
      let won = unmarkable-won (stage c) h in (
        dflag_holds c won.0,
        (sound.deletes c).unmarkable h,
        λ e. false≢true (sym won.1 ∙ mark_means c (delete_won-delete (stage c) won.0) e),
      )

  cut_holds : (c : ℕ) → is_cut (stage c) ≡ true → CutHolds w c
  cut_holds c h =
      let mark = cut-marked (stage c) h in (
        mark_holds c mark,
        λ e.
            let past = ((sound.deletes c).cut h).past in
            let tag = delete_card_tag c (delete_won-delete (stage c) (marked-won (stage c) mark)) in
            absurd (omega arith),
      )

  -- what a stage allows to be known of its card holds of the words
  pub fact_holds : (known : Fact) → allows known (stage (card_of_fact known)) ≡ true → Holds w known
  fact_holds (fact.IFlagged c) h = iflag_holds c h
  fact_holds (fact.IChanged c) h = ichange_holds c h
  fact_holds (fact.IOver c) h = (ichange_holds c (insert_over-changed (stage c) h), (sound.inserts c).over h)
  fact_holds (fact.DFlagged c) h = dflag_holds c h
  fact_holds (fact.Marked c) h = mark_holds c h
  fact_holds (fact.Unmarkable c) h = unmarkable_holds c h
  fact_holds (fact.Cut c) h = cut_holds c h
  fact_holds (fact.DOver c) h =
      let over = delete_over-cut (stage c) h in (cut_holds c over.0, (sound.deletes c).past over.1)
  fact_holds (fact.Backed c) h =
      let backed = backed-unmarkable (stage c) h in (unmarkable_holds c backed.0, (sound.deletes c).past backed.1)

  -- the words of a card that won its flag show whether its child exchange was made
  changed_in : (c : ℕ) → insert_won (stage c) ≡ true → is_changed_in w c ≡ is_changed (stage c)
  changed_in c h =
      let tag = insert_card_tag c (insert_won-insert (stage c) h) in
      let says = sound.inserts c in
      changed_by_tag (stage c) (card_tag w c (w.p c)) (w.expects c) h (λ g. tag ∙ says.tagged g) (λ g. subst (λ n. w.expects c < n) (sym tag) (says.changed g))

  -- the same of a delete
  cut_in : (c : ℕ) → delete_won (stage c) ≡ true → is_cut_in w c ≡ is_cut (stage c)
  cut_in c h =
      let kind = delete_won-delete (stage c) h in
      let tag = delete_card_tag c kind in
      let says = sound.deletes c in
      cut_by_tag (stage c) (w.update (w.p c)) (marked c) (card_tag w c (w.gp c)) (w.expects c) h
      (λ g. tag ∙ says.tagged g) (λ g. subst (λ n. w.expects c < n) (sym tag) (says.cut g).past)
      (λ g. (says.marked g).mark) (mark_means c kind)

  -- so what they show that it has made, its stage has made
  pub insert_made : (k value c : ℕ) → insert_won (stage c) ≡ true → made_in w (Insert k value) c ≡ made_by_stage (Insert k value) (stage c)
  insert_made k value c h =
      ap (λ b. entry_made (Insert k value) b (is_cut_in w c)) (changed_in c h) ∙ made_insert k value (is_changed (stage c)) (is_cut_in w c) (is_cut (stage c))

  swap_made : (k was value c : ℕ) → insert_won (stage c) ≡ true → made_in w (Swap k was value) c ≡ made_by_stage (Swap k was value) (stage c)
  swap_made k was value c h =
      ap (λ b. entry_made (Swap k was value) b (is_cut_in w c)) (changed_in c h) ∙ made_swap k was value (is_changed (stage c)) (is_cut_in w c) (is_cut (stage c))

  pub delete_made : (k c : ℕ) → delete_won (stage c) ≡ true → made_in w (Delete k) c ≡ made_by_stage (Delete k) (stage c)
  delete_made k c h =
      ap (entry_made (Delete k) (is_changed_in w c)) (cut_in c h) ∙ made_delete k (is_cut (stage c)) (is_changed_in w c) (is_changed (stage c))

  -- the same of the card that a worker has in hand, flagged
  flagged_made : (v : Worker) (op : Op) (c : ℕ) → Flagged w stage v op c → made_in w op c ≡ made_by_stage op (stage c)
  flagged_made v (Find k) c h = absurd h
  flagged_made v (Insert k value) c h = insert_made k value c h.0
  flagged_made v (Swap k was value) c h = swap_made k was value c h.0
  flagged_made v (Delete k) c h = delete_made k c h.0

  -- so the effective ledger is that of the stages, whatever is in hand
  effective_of-at : (ledger : Ledger) (operation : Option Op) (card : Option ℕ) (flagged : Bool)
      → ((op : Op) (c : ℕ) → operation ≡ Some op → card ≡ Some c → flagged ≡ true → made_in w op c ≡ made_by_stage op (stage c))
      → effective_of w ledger operation card flagged ≡ effective_at_of stage ledger operation card flagged
  effective_of-at ledger (Some op) (Some c) true h = ap (with_made ledger (key_of op)) (h op c refl refl refl)
  effective_of-at ledger (Some op) (Some c) false h = refl
  effective_of-at ledger (Some op) None flagged h = refl
  effective_of-at ledger None card flagged h = refl

  -- the effective ledger of a sound worker, by the words and by the stages
  pub effective-at : (v : Worker) → WorkerIsSound w stage v → effective w v ≡ effective_at stage v
  effective-at v worker = effective_of-at v.ledger v.operation v.card v.flagged
      (λ op c busy holds flagged. flagged_made v op c (worker.flagged op c busy holds flagged).0)
