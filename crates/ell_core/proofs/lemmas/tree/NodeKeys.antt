use Rattle.std.proofs.Common.{◌≡◌, ◌≢◌, ℕ, ◌<◌, ◌⊎◌, min, max, inl, inr, refl, sym, ◌∙◌, arith}
use Rattle.std.proofs.Math.Nat.{min-eq_left, min-eq_right, max-eq_left, max-eq_right}
use Rattle.std.proofs.lemmas.Bool.{cases_eq, cases_lt}
use Rattle.ell_block.specs.Blocks.{middle_of, IsBranchOf}
use Rattle.ell_block.proofs.lemmas.Middles.{below_power, one_branch_each}
use Rattle.ell_block.proofs.lemmas.Nesting.{two_keys_part}
use Rattle.ell_core.specs.tree.Flat.{IsNodeKey}

-- the lesser of two different numbers is below the greater one
min_below_max : (first second : ℕ) → first ≢ second → min first second < max first second
min_below_max first second apart = elim (cases_lt first second) [
  | inl less ↦ let low = min-eq_left {n = first} {m = second} (omega arith) in let high = max-eq_right {n = first} {m = second} (omega arith) in omega arith
  | inr past ↦ let low = min-eq_right {n = second} {m = first} past in let high = max-eq_left {n = first} {m = second} past in omega arith
]

-- two different keys have a branch
some_branch : (first second : ℕ) → first ≢ second → (branch : ℕ) × IsBranchOf (min first second) (max first second) branch
some_branch first second apart =
    let parted = two_keys_part (max first second) (min first second) (max first second) (min_below_max first second apart) (below_power (max first second)) in
    (middle_of parted.0, record { block = parted.0; middle = refl; parts = parted.2 })

-- a node over two keys has the greater one as its key, where the tree is not flat or the keys are the same, or else their branch
plain_or_branch : (from first second : ℕ) → ((from ≡ 0) ⊎ (first ≡ second)) ⊎ ((0 < from) × (first ≢ second))
plain_or_branch from first second = elim (cases_eq from 0) [
  | inl plain ↦ inl (inl plain)
  | inr flat ↦ elim (cases_eq first second) [ inl same ↦ inl (inr same) | inr apart ↦ inr (omega arith, apart) ]
]

-- it is not both
plain_no_branch : (from first second : ℕ) → (from ≡ 0) ⊎ (first ≡ second) → 0 < from → ¬ (first ≢ second)
plain_no_branch from first second (inl plain) some apart = omega arith
plain_no_branch from first second (inr same) some apart = apart same

-- there is a key for a node over two keys
pub some_node_key : (from first second : ℕ) → (node_key : ℕ) × IsNodeKey from first second node_key
some_node_key from first second = elim (plain_or_branch from first second) [
  | inl plain ↦ (max first second, record { greater = λ _. refl; branch = λ some apart. absurd (plain_no_branch from first second plain some apart) })
  | inr flat ↦
      let found = some_branch first second flat.1 in
      (found.0, record { greater = λ plain. absurd (plain_no_branch from first second plain flat.0 flat.1); branch = λ _ _. found.1 })
]

-- and there is no second one
pub one_node_key : (from first second node_key other : ℕ) → IsNodeKey from first second node_key → IsNodeKey from first second other → node_key ≡ other
one_node_key from first second node_key other named renamed = elim (plain_or_branch from first second) [
  | inl plain ↦ named.greater plain ∙ sym (renamed.greater plain)
  | inr flat ↦ one_branch_each (min first second) (max first second) node_key other (named.branch flat.0 flat.1) (renamed.branch flat.0 flat.1)
]
