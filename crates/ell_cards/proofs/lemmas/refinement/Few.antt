use Rattle.std.proofs.Common.{◌≡◌, ℕ, ◌+◌, ◌<◌, ◌≤◌, ◌==◌, ◌||◌, inl, inr, true, false, List, [], ◌∷◌, length, map, sym, ap, ◌∙◌, subst, arith, eq-eqb, ne_eqb}
use Rattle.std.proofs.lemmas.Bool.{false≢true, cases_eq}
use Rattle.std.specs.List.{IsDistinct, AllByRecursion, list_any}
use Rattle.std.proofs.lemmas.List.{length-map}
use Rattle.std.proofs.lemmas.Map.Keys.{IsDistinct-head, IsDistinct-tail, IsDistinct-cons}
use Rattle.std.proofs.lemmas.Map.Steps.{length-le_from_distinct_below}
use Rattle.ell_runs.specs.declared.view.Slots.{Slots}
use Rattle.ell_cards.specs.SlotWords.{slot_of}
use Rattle.ell_cards.specs.Refinement.{LiesThere}

-- numbers of which no two are equal stay so by a function that tells them apart
module _ (f : ℕ → ℕ) (P : ℕ → Type 0) (tells : (c d : ℕ) → P c → P d → f c ≡ f d → c ≡ d) where
  apart_mapped : (c : ℕ) (cs : List ℕ) → P c → AllByRecursion P cs → AllByRecursion (λ d. (c == d) ≡ false) cs → AllByRecursion (λ d. (f c == d) ≡ false) (map f cs)
  apart_mapped c [] p ps apart = tt
  apart_mapped c (d ∷ ds) p ps apart =
      (ne_eqb (f c) (f d) (λ e. false≢true (sym apart.0 ∙ eq-eqb c d (tells c d p ps.0 e))), apart_mapped c ds p ps.1 apart.1)

  distinct_mapped : (cs : List ℕ) → AllByRecursion P cs → IsDistinct (λ c d. c == d) cs → IsDistinct (λ c d. c == d) (map f cs)
  distinct_mapped [] ps apart = apart
  distinct_mapped (c ∷ cs) ps apart =
      IsDistinct-cons (λ c d. c == d) (f c) (map f cs)
      (apart_mapped c cs ps.0 ps.1 (IsDistinct-head (λ c d. c == d) c cs apart))
      (distinct_mapped cs ps.1 (IsDistinct-tail (λ c d. c == d) c cs apart))

  below_mapped : (n : ℕ) (cs : List ℕ) → AllByRecursion P cs → ((c : ℕ) → P c → f c < n) → (q : ℕ) → list_any (λ d. q == d) (map f cs) ≡ true → q < n
  below_mapped n [] ps low q is = absurd (false≢true is)
  below_mapped n (c ∷ cs) ps low q is = elim (cases_eq q (f c)) [
    | inl e ↦ subst (λ x. x < n) (sym e) (low c ps.0)
    | inr other ↦ below_mapped n cs ps.1 low q (sym (ap (λ b. b || list_any (λ d. q == d) (map f cs)) (ne_eqb q (f c) other)) ∙ is)
  ]

  pub few_mapped : (n : ℕ) (cs : List ℕ) → AllByRecursion P cs → ((c : ℕ) → P c → f c < n) → IsDistinct (λ c d. c == d) cs → length cs ≤ n
  few_mapped n cs ps low apart =
      let same = length-map cs f in
      let few = length-le_from_distinct_below (map f cs) n (distinct_mapped cs ps apart) (below_mapped n cs ps low) in
      omega arith

-- different cards that all lie in their slots are at most as many as there are slots
pub few_in_slots : (s : Slots) (lie : ℕ → ℕ) (cards : List ℕ) → IsDistinct (λ c d. c == d) cards → AllByRecursion (LiesThere s lie) cards
    → length cards ≤ s.last + 1
few_in_slots s lie cards apart there =
    few_mapped slot_of (LiesThere s lie) (λ c d p q e. sym p.1 ∙ (ap lie e ∙ q.1)) (s.last + 1) cards there (λ c p. let low = p.0 in omega arith) apart
