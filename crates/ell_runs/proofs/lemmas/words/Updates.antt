use Rattle.std.proofs.Common.{◌≡◌, ◌≢◌, ◌==◌, false, eq-eqb, ne_eqb, sym, inl, inr, ℕ, zero, suc, ◌+◌, ◌*◌, ◌/◌, ◌%◌, ◌<◌, refl, ap, ◌∙◌, arith}
use Rattle.std.proofs.lemmas.Bool.{cases_eq}
use Rattle.ell_core.specs.acts.Searching.{IsClean}
use Rattle.ell_layout.specs.Cards.{marked}
use Rattle.ell_runs.specs.Changes.{is_mark_of}
use Rattle.ell_word.specs.declared.update.State.{State}
use Rattle.ell_word.specs.declared.update.State.TheVariants.{IFlag, DFlag, Mark, Clean}
use Rattle.ell_word.specs.declared.update.Update.{Update}
use Rattle.ell_word.specs.Word.{state_number, state_of, packed, unpacked}

-- an update is the mark of a card where its word is
pub is_mark : (c n : ℕ) → is_mark_of c (unpacked n).state (unpacked n).card ≡ (n == marked c)
is_mark c n = by (n % 4) refl (omega arith)
  where
    other : (m : ℕ) → n % 4 ≡ m → m ≢ 2 → false ≡ (n == marked c)
    other m e apart = sym (ne_eqb n (marked c) (λ h. apart (omega arith)))

    by : (m : ℕ) → n % 4 ≡ m → m < 4 → is_mark_of c (state_of m) (n / 4) ≡ (n == marked c)
    by zero e small = other 0 e (omega arith)
    by (suc zero) e small = other 1 e (omega arith)
    by (suc (suc zero)) e small = elim (cases_eq (n / 4) c) [
      | inl same ↦ eq-eqb (n / 4) c same ∙ sym (eq-eqb n (marked c) (omega arith))
      | inr apart ↦ ne_eqb (n / 4) c apart ∙ sym (ne_eqb n (marked c) (λ h. apart (omega arith)))
    ]
    by (suc (suc (suc m))) e small = other (suc (suc (suc m))) e (omega arith)

-- the card of an update is that of its word
pub card_again : (u : Update) → (unpacked (packed u)).card ≡ u.card
card_again u = by u.state
  where
    by : (s : State) → (4 * u.card + state_number s) / 4 ≡ u.card
    by IFlag = omega arith
    by DFlag = omega arith
    by Mark = omega arith
    by Clean = omega arith

-- a clean update has a clean word
pub clean_word : (s : State) (c : ℕ) → s ≡ Clean → IsClean (4 * c + state_number s)
clean_word IFlag c h = cc
clean_word DFlag c h = cc
clean_word Mark c h = cc
clean_word Clean c h = let rest : (4 * c + 3) % 4 ≡ 3 = omega arith in ap state_of rest
