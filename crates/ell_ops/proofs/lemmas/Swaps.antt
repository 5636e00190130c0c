use Rattle.std.proofs.Common.{◌≡◌, ◌≢◌, ◌⊎◌, ℕ, Option, Some, None, if◌then◌else◌, refl, ap, inl, inr, ⊎_elim}
use Rattle.std.proofs.lemmas.Bool.{cases_eq, eq-eqb, ne_eqb}
use Rattle.ell_ops.specs.Contents.{swapped}

-- a swap from the value that is there
pub swapped_same : (was value : ℕ) → swapped (Some was) was value ≡ Some value
swapped_same was value = ap (λ t. Some (if t then value else was)) (eq-eqb was was refl)

-- a swap from another
pub swapped_other : (o : Option ℕ) (was value : ℕ) → o ≢ Some was → swapped o was value ≡ o
swapped_other None was value other = refl
swapped_other (Some v) was value other = ap (λ t. Some (if t then value else v)) (ne_eqb v was (λ e. other (ap Some e)))

-- which of the two it is
pub cases_some : (o : Option ℕ) (was : ℕ) → (o ≡ Some was) ⊎ (o ≢ Some was)
cases_some None was = inr (λ e. absurd cc)
cases_some (Some v) was = ⊎_elim (λ e. inl (ap Some e)) (λ n. inr (λ e. let same : v ≡ was = cc in n same)) (cases_eq v was)
