-- Slots that passes have in hand, once one has another.
use Rattle.std.proofs.Common.{◌≡◌, ◌≢◌, ◌⊎◌, ℕ, inl, inr, Option, Some, sym, ap, ◌∙◌}
use Rattle.std.proofs.lemmas.Bool.{cases_eq}
use Rattle.std.proofs.lemmas.Option.{same_Some}
use Rattle.ell_layout.specs.Words.{put}
use Rattle.ell_layout.proofs.lemmas.Writes.{put_same, put_other}
use Rattle.ell_cards.specs.NamedRefinement.{Hand}

-- a hand is the new one, or was another pass's
pub hand_is : (hand : ℕ → Option Hand) (id : ℕ) (new : Hand) (seat : ℕ) (g : Hand) → put hand id (Some new) seat ≡ Some g
    → ((seat ≡ id) × (new ≡ g)) ⊎ ((seat ≢ id) × (hand seat ≡ Some g))
hand_is hand id new seat g is = elim (cases_eq seat id) [
  | inl e ↦ inl (e, same_Some new g (sym (ap (put hand id (Some new)) e ∙ put_same hand id (Some new)) ∙ is))
  | inr other ↦ inr (other, sym (put_other hand id (Some new) seat other) ∙ is)
]
