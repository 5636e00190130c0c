use Rattle.std.proofs.Common.{◌≡◌, ℕ, ◌||◌, inl, inr, true, List, ◌∷◌}
use Rattle.std.proofs.lemmas.Bool.{or_left, or_right, or_cases}
use Rattle.ell_word.specs.declared.update.State.{State}
use Rattle.ell_word.specs.declared.update.State.TheVariants as state
use Rattle.ell_core.specs.declared.fact.Fact.{Fact}
use Rattle.ell_core.specs.declared.fact.Fact.TheVariants as fact
use Rattle.ell_core.specs.state.Facts.{known_of, same_fact}
use Rattle.ell_core.proofs.lemmas.words.SameFact.{same_fact-itself}
use Rattle.ell_runs.specs.Views.{EndedBy, knows_end}
use Rattle.ell_runs.specs.Changes.{facts_by}

-- a fact is known once it is learnt, and the facts before it stay known
pub knows_new : (f : Fact) (fs : List Fact) → known_of (f ∷ fs) f ≡ true
knows_new f fs = or_left (same_fact f f) (known_of fs f) (same_fact-itself f)

pub knows_more : (f g : Fact) (fs : List Fact) → known_of fs g ≡ true → known_of (f ∷ fs) g ≡ true
knows_more f g fs h = or_right (same_fact g f) (known_of fs g) h

-- so they do beside what an update tells
pub facts_by_more : (s : State) (c : ℕ) (fs : List Fact) (g : Fact) → known_of fs g ≡ true → known_of (facts_by s c fs) g ≡ true
facts_by_more state.IFlag c fs g h = knows_more (fact.IFlagged c) g fs h
facts_by_more state.DFlag c fs g h = knows_more (fact.DFlagged c) g fs h
facts_by_more state.Mark c fs g h = knows_more (fact.Marked c) g fs h
facts_by_more state.Clean c fs g h = h

-- that a card has ended, as a test of the facts
pub ended_test : (facts : List Fact) (c : ℕ) → EndedBy facts c → knows_end facts c ≡ true
ended_test facts c (inl h) = or_left (known_of facts (fact.IOver c)) (known_of facts (fact.DOver c) || known_of facts (fact.Backed c)) h
ended_test facts c (inr (inl h)) =
    or_right (known_of facts (fact.IOver c)) (known_of facts (fact.DOver c) || known_of facts (fact.Backed c))
    (or_left (known_of facts (fact.DOver c)) (known_of facts (fact.Backed c)) h)
ended_test facts c (inr (inr h)) =
    or_right (known_of facts (fact.IOver c)) (known_of facts (fact.DOver c) || known_of facts (fact.Backed c))
    (or_right (known_of facts (fact.DOver c)) (known_of facts (fact.Backed c)) h)

-- and a test that is met says it
pub test_ended : (facts : List Fact) (c : ℕ) → knows_end facts c ≡ true → EndedBy facts c
test_ended facts c h = elim (or_cases _ _ h) [
  | inl over ↦ inl over
  | inr rest ↦ inr (or_cases _ _ rest)
]
