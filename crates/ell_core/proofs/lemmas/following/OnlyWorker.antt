use Rattle.std.proofs.Common.{ℕ, ◌+◌, length, refl, arith, subst, inl, inr}
use Rattle.std.proofs.lemmas.Bool.{cases_eq, false≢true}
use Rattle.ell_core.specs.state.Machine.{nobody}
use Rattle.ell_core.specs.state.Opening.{opening}
use Rattle.ell_core.specs.soundness.Sound.{MayChange}
use Rattle.ell_core.specs.statements.Premises.{OneWorkerOwnsAll, IdleWorkerOwnsAll}
use Rattle.ell_core.proofs.lemmas.opening.Invariant.{start_stages}
use Rattle.ell_core.proofs.lemmas.opening.CanOpen.{opening_has}

-- nobody may change any key
nobody_may : (k : ℕ) → ¬ MayChange nobody k
nobody_may k (inl owns) = owns refl
nobody_may k (inr shared) = false≢true shared

-- a worker but the one is not there, and owns nothing
pub only_owns_all : IdleWorkerOwnsAll
only_owns_all m stage sound one free = record {
  all = λ j k owns. elim (cases_eq j 0) [
    | inl e ↦ inl e
    | inr other ↦ absurd (nobody_may k (subst (λ v. MayChange v k) (sound.workers.strangers j (omega arith)) owns))
  ];
  free = free;
}

-- so it is at an opening
pub one_owns_all : OneWorkerOwnsAll
unfolding opening
one_owns_all setup can one = only_owns_all (opening setup) (start_stages (length setup.start + 1)) (opening_has setup can) one refl
