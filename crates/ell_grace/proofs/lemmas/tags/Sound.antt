use Rattle.std.proofs.Common.{◌≡◌, ℕ, ◌≤◌, ◌+◌, ◌⊎◌, inl, inr, true, sym, ap, ◌∙◌, arith}
use Rattle.std.proofs.lemmas.Bool.{cases_Bool, false≢true}
use Rattle.ell_core.specs.declared.event.Event.{Event}
use Rattle.ell_core.specs.declared.event.Stepped.{Stepped}
use Rattle.ell_core.specs.declared.fact.Fact.TheVariants as fact
use Rattle.ell_core.specs.state.Machine.{Machine}
use Rattle.ell_core.specs.acts.Events.{Steps}
use Rattle.ell_core.specs.acts.Wins.{wins_by}
use Rattle.ell_core.specs.history.Stages.{Stage, Stages, IFlagged, DMarked, insert_open, is_changed, delete_open, delete_won, delete_waits, is_marked, is_cut, is_backed}
use Rattle.ell_core.specs.history.Invariant.{insert_side, delete_side, Invariant}
use Rattle.ell_core.specs.history.Later.{Follows}
use Rattle.ell_grace.specs.Tags.{TagsAreSound}
use Rattle.ell_core.proofs.lemmas.stages.Order.{insert_won-insert, changed-won, waits_or_changed, marked-won, marked_cases, cut-marked, marked-delete}
use Rattle.ell_core.proofs.lemmas.stages.Flags.{cut_not_backed}
use Rattle.ell_core.proofs.lemmas.stages.Ended.{changed-ended, cut-ended, insert_open-unended, delete_open-unended, ends_last}
use Rattle.ell_core.proofs.lemmas.stages.LaterKeys.{insert_info, insert_tag_later, delete_info, top_tag_later}
use Rattle.ell_core.proofs.lemmas.stages.Sums.{sum_by}
use Rattle.ell_core.proofs.lemmas.keeping.insert_child.Card.{its_tag}
use Rattle.ell_grace.proofs.lemmas.since.Much.{one, much, few_won, changed_much, had_much, insert_was, delete_was}
use Rattle.ell_grace.proofs.lemmas.tags.Changes.{tags_step}

-- how much a delete has won that has cut, and how far one has come that has won so much
cut_much : (s : Stage) → is_cut s ≡ true → 3 ≤ much s
cut_much s h = grind arith

marked_or_backed : (s : Stage) → delete_won s ≡ true → 2 ≤ much s → (is_marked s ≡ true) ⊎ (is_backed s ≡ true)
marked_or_backed s h two = grind arith

flagged_unchanged : (s : Stage) → s ≡ IFlagged → is_changed s ≡ true → ⊥
flagged_unchanged s h g = grind arith

marked_uncut : (s : Stage) → s ≡ DMarked → is_cut s ≡ true → ⊥
marked_uncut s h g = grind arith

-- each event keeps the tags sound
module _ (m : Machine) (stage : Stages) (e : Event) (said : Stepped) (m' : Machine) (invariant : Invariant m stage) (h : Steps m e said m')
    (follows : Follows m stage e.act e.worker said m') (sound : TagsAreSound m.words stage) where
  abbrev after : Stages
  after = follows.stages

  few : (c : ℕ) → sum_by one (wins_by e.act (m.worker e.worker).card said c) ≤ 1
  few c = few_won e.act (m.worker e.worker).card said c

  -- a flag that stands stood
  was_open : (c : ℕ) → is_changed (stage c) ≡ true → insert_open (after c) ≡ true → insert_open (stage c) ≡ true
  was_open c changed still = elim (cases_Bool (insert_open (stage c))) [
    | inl is ↦ is
    | inr shut ↦ absurd (false≢true (sym (insert_open-unended (after c) still) ∙ ends_last stage after follows.later c (changed-ended (stage c) changed shut)))
  ]

  was_open_cut : (c : ℕ) → is_cut (stage c) ≡ true → delete_open (after c) ≡ true → delete_open (stage c) ≡ true
  was_open_cut c cut still = elim (cases_Bool (delete_open (stage c))) [
    | inl is ↦ is
    | inr shut ↦ absurd (false≢true (sym (delete_open-unended (after c) still) ∙ ends_last stage after follows.later c (cut-ended (stage c) cut shut)))
  ]

  -- an insert that had made its child exchange has the tag that it had: nobody else changes the word under its flag
  insert_stays : (c : ℕ) → is_changed (stage c) ≡ true → insert_open (stage c) ≡ true
      → m'.words.tag (m.words.p c) (insert_side m.words c) ≡ m.words.tag (m.words.p c) (insert_side m.words c)
  insert_stays c changed still =
      let flag = (invariant.words.inserts c).flag still in
      elim (tags_step m stage e said m' invariant h follows (m.words.p c) (insert_side m.words c)) [
        | inl same ↦ same
        | inr just ↦ elim just.waited [
          | inl i ↦
              let same : just.card ≡ c = (let flag' = i.1 in omega arith) in
              absurd (flagged_unchanged (stage c) (ap stage (sym same) ∙ i.0) changed)
          | inr d ↦ absurd (let flag' = d.1 in omega arith)
        ]
      ]

  delete_stays : (c : ℕ) → is_cut (stage c) ≡ true → delete_open (stage c) ≡ true
      → m'.words.tag (m.words.gp c) (delete_side m.words c) ≡ m.words.tag (m.words.gp c) (delete_side m.words c)
  delete_stays c cut still =
      let flag = (invariant.words.deletes c).flag still in
      elim (tags_step m stage e said m' invariant h follows (m.words.gp c) (delete_side m.words c)) [
        | inl same ↦ same
        | inr just ↦ elim just.waited [
          | inl i ↦ absurd (let flag' = i.1 in omega arith)
          | inr d ↦
              let same : just.card ≡ c = (let flag' = d.1 in omega arith) in
              absurd (marked_uncut (stage c) (ap stage (sym same) ∙ d.0) cut)
        ]
      ]

  insert_sound : (c : ℕ) → is_changed (after c) ≡ true → insert_open (after c) ≡ true
      → m'.words.tag (m'.words.p c) (insert_side m'.words c) ≡ m'.words.expects c + 1
  insert_sound c changed still =
      let won = insert_was stage after c _ (follows.wins c) (few c) follows.later (changed_much (after c) changed) (changed-won (after c) changed) in
      let kind = insert_won-insert (stage c) won in
      let there = insert_tag_later m.words m'.words stage invariant.words follows.words c kind in
      let expects = (insert_info m.words m'.words stage invariant.words follows.words c kind).expects in
      elim (waits_or_changed (stage c) won) [
        | inl flagged ↦
            let tag = its_tag m.words stage invariant.words c flagged in
            let past = (follows.invariant.words.inserts c).changed changed in
            elim (tags_step m stage e said m' invariant h follows (m.words.p c) (insert_side m.words c)) [
              | inl same ↦ absurd (omega arith)
              | inr just ↦ (let next = just.next in omega arith)
            ]
        | inr had ↦
            let open_then = was_open c had still in
            let same = insert_stays c had open_then in
            let was = sound.insert c had open_then in
            omega arith
      ]

  -- a delete that has cut was marked
  was_marked : (c : ℕ) → is_cut (after c) ≡ true → is_marked (stage c) ≡ true
  was_marked c cut =
      let three = cut_much (after c) cut in
      let had = had_much stage after c _ (follows.wins c) (few c) follows.later in
      let won = delete_was stage after c _ (follows.wins c) (few c) follows.later (omega arith) (marked-won (after c) (cut-marked (after c) cut)) in
      elim (marked_or_backed (stage c) won (omega arith)) [
        | inl marked ↦ marked
        | inr backed ↦ absurd (cut_not_backed (after c) cut (follows.later.told (fact.Backed c) c backed))
      ]

  delete_sound : (c : ℕ) → is_cut (after c) ≡ true → delete_open (after c) ≡ true
      → m'.words.tag (m'.words.gp c) (delete_side m'.words c) ≡ m'.words.expects c + 1
  delete_sound c cut still =
      let marked = was_marked c cut in
      let kind = marked-delete (stage c) marked in
      let there = top_tag_later m.words m'.words stage invariant.words follows.words c kind in
      let expects = (delete_info m.words m'.words stage invariant.words follows.words c kind).expects in
      elim (marked_cases (stage c) marked) [
        | inl now ↦
            let tag = (invariant.words.deletes c).tagged (ap delete_waits now) in
            let past = ((follows.invariant.words.deletes c).cut cut).past in
            elim (tags_step m stage e said m' invariant h follows (m.words.gp c) (delete_side m.words c)) [
              | inl same ↦ absurd (omega arith)
              | inr just ↦ (let next = just.next in omega arith)
            ]
        | inr had ↦
            let open_then = was_open_cut c had still in
            let same = delete_stays c had open_then in
            let was = sound.delete c had open_then in
            omega arith
      ]

  pub tags_stay_sound : TagsAreSound m'.words after
  tags_stay_sound = record { insert = insert_sound; delete = delete_sound }
