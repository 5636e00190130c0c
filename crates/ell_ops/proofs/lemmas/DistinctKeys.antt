use Rattle.std.proofs.Common.{◌≡◌, ℕ, Bool, List, [], ◌∷◌, ◌||◌, eqb, refl, ap, sym, subst, ◌∙◌, ⊎_elim}
use Rattle.std.proofs.Math.Bool.{or_self_left}
use Rattle.std.proofs.lemmas.Bool.{cases_eq, eq-eqb, ne_eqb, cond-true, cond-false}
use Rattle.std.proofs.lemmas.List.Filters.{dedup_is}
use Rattle.std.proofs.lemmas.List.Sorted.{list_any-IsPermutation}
use Rattle.std.proofs.lemmas.Map.Keys.{IsStrictlyIncreasing-dedup}
use Rattle.std.specs.List.{list_any, dedup, dedup_from}
use Rattle.std.specs.List.Retain.{IsFiltered, DiffersFromLast}
use Rattle.std.specs.List.Sorted.{IsPermutation, IsSorted}
use Rattle.std.specs.Ordering.{nat_cmp}
use Rattle.ell_ops.specs.KeySet.{set_of, Lists}

-- what is left out equals the last key that was kept
list_any-dedup_from : (p : ℕ → Bool) (key : ℕ) (keys : List ℕ) → list_any p (dedup_from eqb key keys) ≡ (p key || list_any p keys)
list_any-dedup_from p key [] = refl
list_any-dedup_from p key (next ∷ keys) =
    ⊎_elim
    (λ e. ap (list_any p) (cond-true (eqb next key) (dedup_from eqb key keys) (key ∷ dedup_from eqb next keys) (eq-eqb next key e))
    ∙ list_any-dedup_from p key keys ∙ sym (or_self_left (p key) (list_any p keys)) ∙ ap (λ k. p key || (p k || list_any p keys)) (sym e))
    (λ ne. ap (list_any p) (cond-false (eqb next key) (dedup_from eqb key keys) (key ∷ dedup_from eqb next keys) (ne_eqb next key ne))
    ∙ ap (λ b. p key || b) (list_any-dedup_from p next keys))
    (cases_eq next key)

list_any-dedup : (p : ℕ → Bool) (keys : List ℕ) → list_any p (dedup eqb keys) ≡ list_any p keys
list_any-dedup p [] = refl
list_any-dedup p (key ∷ keys) = list_any-dedup_from p key keys

pub distinct_keys : (keys sorted kept : List ℕ) → IsPermutation keys sorted → IsSorted nat_cmp sorted → IsFiltered (DiffersFromLast eqb) [] sorted kept →
    Lists (set_of keys) kept
distinct_keys keys sorted kept moved order filtered =
    subst (Lists (set_of keys)) (sym (dedup_is eqb sorted kept filtered))
    (record {
      ascending = IsStrictlyIncreasing-dedup sorted order;
      each = λ i q. (list_any-dedup (eqb q) sorted ∙ sym (list_any-IsPermutation (eqb q) keys sorted moved)) i;
    })
