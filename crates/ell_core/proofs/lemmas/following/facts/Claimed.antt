use Rattle.std.proofs.Common.{◌≡◌, ◌≢◌, ℕ, ◌<◌, ◌≤◌, inl, inr, Bool, true, false, refl, sym, ◌∙◌, subst, arith}
use Rattle.std.proofs.lemmas.Bool.{false≢true, cases_lt, eq-eqb, ne_eqb}
use Rattle.ell_word.specs.Node.{internal}
use Rattle.ell_core.specs.declared.fact.Fact.{Fact}
use Rattle.ell_core.specs.declared.fact.Fact.TheVariants as fact
use Rattle.ell_layout.specs.declared.field.Field.TheVariants.{Gp, Left}
use Rattle.ell_layout.specs.Words.{Words}
use Rattle.ell_core.specs.state.Facts.{card_of_fact}
use Rattle.ell_layout.specs.Cards.{dflag, is_delete_card}
use Rattle.ell_core.specs.soundness.Holds.{IFlagHolds, DFlagHolds, Holds}
use Rattle.ell_core.specs.history.Stages.{Stages, is_claimed}
use Rattle.ell_core.specs.history.Invariant.{WordsAreSound}
use Rattle.ell_core.proofs.lemmas.stages.LaterKeys.{root_born}

-- a card without left child counts as a delete's
pub is_delete-by_child : (w : Words) (c : ℕ) → w.child (internal c) false ≡ 0 → is_delete_card w c ≡ true
is_delete-by_child w c h = eq-eqb (w.child (internal c) false) 0 h

-- a card with a left child does not
pub not_delete-by_child : (w : Words) (c : ℕ) → w.child (internal c) false ≢ 0 → is_delete_card w c ≡ false
not_delete-by_child w c h = ne_eqb (w.child (internal c) false) 0 h

module _ (w : Words) (stage : Stages) (sound : WordsAreSound w stage) where
  -- the root's update word names a claimed card, so no flag of a card that was not claimed is at most that word
  root_names : (c : ℕ) → w.next ≤ c → dflag c ≤ w.update 0 → ⊥
  root_names c past less = let named = (sound.updates 0 refl (root_born w stage sound)).named in omega arith

  -- a card at or past the claim word was not claimed
  pub not_claimed : (c : ℕ) → w.next ≤ c → is_claimed (stage c) ≡ false
  not_claimed c past = by (is_claimed (stage c)) refl
    where
      by : (b : Bool) → is_claimed (stage c) ≡ b → b ≡ false
      by true e = absurd (let below = (sound.cards c).claimed.0 e in omega arith)
      by false e = refl

  -- the fact of an insert's flag is of a claimed card
  iflag_claimed : (c : ℕ) → IFlagHolds w c → c < w.next
  iflag_claimed c h = elim (cases_lt c w.next) [
    | inl below ↦ below
    | inr past ↦ absurd (let blank = (sound.cards c).blank (not_claimed c past) in
        false≢true (sym h.0 ∙ is_delete-by_child w c (blank.words Left)))
  ]

  -- the fact of a delete's flag is of a claimed card
  dflag_claimed : (c : ℕ) → DFlagHolds w c → c < w.next
  dflag_claimed c h = elim (cases_lt c w.next) [
    | inl below ↦ below
    | inr past ↦ absurd (root_names c past (subst (λ x. dflag c ≤ w.update x) (((sound.cards c).blank (not_claimed c past)).words Gp) h.1))
  ]

  -- a fact that holds is of a claimed card
  pub fact_claimed : (f : Fact) → Holds w f → card_of_fact f < w.next
  fact_claimed (fact.IFlagged c) h = iflag_claimed c h
  fact_claimed (fact.IChanged c) h = iflag_claimed c h.0
  fact_claimed (fact.IOver c) h = iflag_claimed c h.0.0
  fact_claimed (fact.DFlagged c) h = dflag_claimed c h
  fact_claimed (fact.Marked c) h = dflag_claimed c h.0
  fact_claimed (fact.Unmarkable c) h = dflag_claimed c h.0
  fact_claimed (fact.Cut c) h = dflag_claimed c h.0.0
  fact_claimed (fact.DOver c) h = dflag_claimed c h.0.0.0
  fact_claimed (fact.Backed c) h = dflag_claimed c h.0.0
