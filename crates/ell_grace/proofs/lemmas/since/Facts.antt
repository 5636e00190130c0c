use Rattle.std.proofs.Common.{◌≡◌, ◌≢◌, ℕ, ◌||◌, ◌⊎◌, inl, inr, Bool, true, false, refl, sym, ap, ◌∙◌}
use Rattle.std.proofs.lemmas.Bool.{false_from_ne_true}
use Rattle.ell_word.specs.Node.{IsInternal}
use Rattle.ell_word.specs.Word.{packed}
use Rattle.ell_word.specs.declared.update.State.{State}
use Rattle.ell_word.specs.declared.update.State.TheVariants as state
use Rattle.ell_core.specs.declared.fact.Fact.{Fact}
use Rattle.ell_core.specs.declared.fact.Fact.TheVariants as fact
use Rattle.ell_core.specs.state.Facts.{Knowledge, card_of_fact, same_fact, learned, learned_any, told_by_state}
use Rattle.ell_core.specs.state.Machine.{Machine}
use Rattle.ell_core.specs.history.Stages.{Stages, Born, is_marked, is_cut}
use Rattle.ell_core.specs.history.Invariant.{Invariant}
use Rattle.ell_core.specs.history.Later.{WordsLater, StagesLater}
use Rattle.ell_core.specs.statements.Since.{has_ended}
use Rattle.ell_grace.specs.Gone.{IsGone}
use Rattle.ell_core.proofs.lemmas.words.SameFact.{same_fact-equal}
use Rattle.ell_core.proofs.lemmas.stages.Order.{delete-claimed, cut-delete}
use Rattle.ell_core.proofs.lemmas.stages.Ended.{ended_cases, over-cut, insert_over_not_marked, backed_not_marked, insert_open-unended, delete_open-unended, unended_before}

-- one of two tests is met
either : (a b : Bool) → (a || b) ≡ true → (a ≡ true) ⊎ (b ≡ true)
either true b h = inl refl
either false b h = inr h

-- what is known since
abbrev pub Fine : Stages → Knowledge → Knowledge → Type 0
Fine stage known knows = (f : Fact) → knows f ≡ true → (known f ≡ true) ⊎ (has_ended (stage (card_of_fact f)) ≡ false)

-- one fact more, of a card that had not ended
pub fine_with : (stage : Stages) (known knows : Knowledge) (new : Fact) → Fine stage known knows → has_ended (stage (card_of_fact new)) ≡ false
    → Fine stage known (learned knows new)
fine_with stage known knows new fine un f h = elim (either (same_fact f new) (knows f) h) [
  | inl same ↦ inr (ap (λ g. has_ended (stage (card_of_fact g))) (same_fact-equal f new same) ∙ un)
  | inr old ↦ fine f old
]

-- and the fact that an update word tells, of such a card
pub fine_state : (stage : Stages) (known knows : Knowledge) (st : State) (c : ℕ) → Fine stage known knows → (st ≢ state.Clean → has_ended (stage c) ≡ false)
    → Fine stage known (learned_any knows (told_by_state st c))
fine_state stage known knows state.IFlag c fine un = fine_with stage known knows (fact.IFlagged c) fine (un (λ e. cc))
fine_state stage known knows state.DFlag c fine un = fine_with stage known knows (fact.DFlagged c) fine (un (λ e. cc))
fine_state stage known knows state.Mark c fine un = fine_with stage known knows (fact.Marked c) fine (un (λ e. cc))
fine_state stage known knows state.Clean c fine un = fine

-- what is found at a node that was not gone
module _ (m : Machine) (stage : Stages) (old : Machine) (before : Stages) (first : Invariant m stage) (invariant : Invariant old before)
    (words : WordsLater m.words old.words) (later : StagesLater stage before) where
  -- a card had not ended by then if it has not now
  pub not_then : (c : ℕ) → has_ended (before c) ≡ false → has_ended (stage c) ≡ false
  not_then c un = unended_before stage before later c un

  -- a parent that is marked was gone if the card had ended
  pub marked_fresh : (x c : ℕ) → ¬ IsGone m.words stage x → is_marked (before c) ≡ true → old.words.p c ≡ x → has_ended (stage c) ≡ true → ⊥
  marked_fresh x c stays mark place ended =
      let cut = cut_then c mark ended in
      let low = (first.words.cards c).claimed.0 (delete-claimed (stage c) (cut-delete (stage c) cut)) in
      stays (record { taker = c; ended = ended; takes = inr (cut, inl (sym (words.info c low).p ∙ place)) })
    where
      cut_then : (d : ℕ) → is_marked (before d) ≡ true → has_ended (stage d) ≡ true → is_cut (stage d) ≡ true
      cut_then d mark ended = elim (ended_cases (stage d) ended) [
        | inl o ↦ absurd (insert_over_not_marked (before d) (later.told (fact.IOver d) d o) mark)
        | inr r ↦ elim r [
          | inl over ↦ over-cut (stage d) over
          | inr b ↦ absurd (backed_not_marked (before d) (later.told (fact.Backed d) d b) mark)
        ]
      ]

  -- the update word that stands at a node that was not gone is of no card that had ended
  pub found_fresh : (x : ℕ) → IsInternal x → Born before x → ¬ IsGone m.words stage x → (st : State) (c : ℕ)
      → old.words.update x ≡ packed (record { state = st; card = c }) → st ≢ state.Clean → has_ended (stage c) ≡ false
  found_fresh x inner born stays state.IFlag c is dirty =
      not_then c (insert_open-unended (before c) ((invariant.words.updates x inner born).iflagged c is).0)
  found_fresh x inner born stays state.DFlag c is dirty =
      not_then c (delete_open-unended (before c) ((invariant.words.updates x inner born).dflagged c is).0)
  found_fresh x inner born stays state.Mark c is dirty =
      let mark = (invariant.words.updates x inner born).marked c is in
      false_from_ne_true (has_ended (stage c)) (λ ended. marked_fresh x c stays mark.0 mark.1 ended)
  found_fresh x inner born stays state.Clean c is dirty = absurd (dirty refl)
