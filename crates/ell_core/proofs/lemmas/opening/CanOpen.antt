use Rattle.std.proofs.Common.{◌≡◌, ◌≢◌, ℕ, zero, suc, ◌<◌, ◌≤◌, List, [], ◌∷◌, slice_get, get_or, ◌+◌, ◌==◌, true, length, sym, ap, ◌∙◌, subst, arith, inl, inr}
use Rattle.std.proofs.lemmas.Bool.{eqb-true, false≢true}
use Rattle.std.proofs.lemmas.List.Folds.{Any-from_list_any}
use Rattle.std.proofs.lemmas.Option.{none-some, same_Some}
use Rattle.std.specs.List.{All}
use Rattle.std.specs.Map.{keys_of}
use Rattle.ell_ops.specs.Meaning.{greatest_key}
use Rattle.ell_core.specs.state.Opening.{Setup, IsStranger, IsRepeat, opening, is_given}
use Rattle.ell_core.specs.history.Invariant.{Invariant}
use Rattle.ell_core.specs.statements.RunLaws.{CanOpen}
use Rattle.ell_core.proofs.lemmas.opening.Invariant.{start_stages, opening_invariant}
use Rattle.ell_core.specs.statements.Premises.{TwoKeysCanOpen}

module _ (count i j first second : ℕ) where
  -- the list of the two entries
  abbrev two : List (ℕ × ℕ)
  two = (i, first) ∷ (j, second) ∷ []

  -- neither entry names a stranger
  no_stranger : (at : ℕ) → i < count → j < count → ¬ IsStranger count two at
  no_stranger zero i_there j_there h = let e = ap (λ (x : ℕ × ℕ). x.0) (same_Some (i, first) h.entry h.stands) in
      let s = h.strange in omega arith
  no_stranger (suc zero) i_there j_there h = let e = ap (λ (x : ℕ × ℕ). x.0) (same_Some (j, second) h.entry h.stands) in
      let s = h.strange in omega arith
  no_stranger (suc (suc at)) i_there j_there h = none-some h.entry h.stands

  -- neither names the key of the other
  no_repeat : (at : ℕ) → first ≢ second → ¬ IsRepeat two at
  no_repeat zero apart h = let b = h.before in omega arith
  no_repeat (suc zero) apart h =
      let start : h.earlier ≡ 0 = (let b = h.before in omega arith) in
      let stood = same_Some (i, first) h.other (sym (ap (slice_get two) start) ∙ h.stood) in
      let stands = same_Some (j, second) h.entry h.stands in
      apart (ap (λ (x : ℕ × ℕ). x.1) stood ∙ (h.same ∙ sym (ap (λ (x : ℕ × ℕ). x.1) stands)))
  no_repeat (suc (suc at)) apart h = none-some h.entry h.stands

  -- both name real keys
  both_real : first ≤ greatest_key → second ≤ greatest_key → All (λ entry. entry.1 ≤ greatest_key) two
  both_real h g zero d below = h
  both_real h g (suc zero) d below = g
  both_real h g (suc (suc k)) d below = absurd (omega arith)

-- so they can open
pub two_keys_open : TwoKeysCanOpen
two_keys_open count i j first second cards flat i_there j_there apart first_real second_real = record {
  faultless = λ at. (no_stranger count i j first second at i_there j_there, no_repeat count i j first second at apart);
  real = both_real count i j first second first_real second_real;
  ascending = λ k below. absurd (omega arith);
  given = λ k d below. absurd (omega arith);
  apart = λ k shared. absurd (false≢true shared);
}

-- a key that some worker is given is a real one
given_real : (owned : List (ℕ × ℕ)) (k : ℕ) → All (λ entry. entry.1 ≤ greatest_key) owned → is_given owned k ≡ true → k ≤ greatest_key
given_real owned k real given =
    let any = Any-from_list_any (λ (entry : ℕ × ℕ). entry.1 == k) owned given in
    let same : any.1.1 ≡ k = eqb-true any.1.1 k any.4 in
    let bound : any.1.1 ≤ greatest_key = subst (λ (entry : ℕ × ℕ). entry.1 ≤ greatest_key) any.3 (real any.0 any.1 any.2) in
    omega arith

-- the start keys are real ones, since each is owned or shared
pub start_real : (setup : Setup) → CanOpen setup → All (λ k. k ≤ greatest_key) (keys_of setup.start)
start_real setup can i d below = elim (can.given i d below) [
  | inl own ↦ given_real setup.owned (get_or (keys_of setup.start) i d) can.real own
  | inr shared ↦ (can.apart (get_or (keys_of setup.start) i d) shared.1).0
]

-- what can open opens with the invariant
pub opening_has : (setup : Setup) → CanOpen setup → Invariant (opening setup) (start_stages (length setup.start + 1))
opening_has setup can = opening_invariant setup can.ascending (start_real setup can) can.faultless can.real can.given can.apart
