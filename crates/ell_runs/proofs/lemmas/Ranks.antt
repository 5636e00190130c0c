use Rattle.std.proofs.Common.{◌≡◌, ℕ, zero, suc, ◌+◌, ◌-◌, ◌/◌, ◌<◌, ◌≤◌, ◌==◌, nat_lt, Bool, true, false, if◌then◌else◌, inl, inr, length, refl, ap, ◌∙◌, eq-eqb, arith}
use Rattle.std.proofs.lemmas.Bool.{cases_Bool, cases_eq, ne_eqb}
use Rattle.ell_word.specs.Node.{IsInternal, card}
use Rattle.ell_layout.specs.Words.{Words}
use Rattle.ell_core.specs.tree.Rank.{rank}
use Rattle.ell_core.proofs.lemmas.tree.Ranks.{rank_plain, rank_same, rank_flat_most}
use Rattle.ell_runs.specs.Depths.{level, most_depth, deepest}
use Rattle.ell_runs.specs.Plans.{TablePlan, flat_from}
use Rattle.ell_layout.specs.Branches.{greatest_depth, halvings_of}

-- in a tree that is not flat a node of a greater rank has a greater number
pub number_rises : (w : Words) → w.flat_from ≡ 0 → (x y : ℕ) → rank w x < rank w y → x < y
number_rises w plain x y less = let a = rank_plain w plain x in let b = rank_plain w plain y in omega arith

-- there the level of a node goes by its card, and in a flat tree it is the rank
level_plain : (w : Words) → w.flat_from ≡ 0 → (x : ℕ) → level w x ≡ most_depth (card x) x
level_plain w plain x = ap (λ b. if b then most_depth (card x) x else rank w x) (eq-eqb w.flat_from 0 plain)

level_flat : (w : Words) → 0 < w.flat_from → (x : ℕ) → level w x ≡ rank w x
level_flat w some x = ap (λ b. if b then most_depth (card x) x else rank w x) (ne_eqb w.flat_from 0 (omega arith))

-- it depends on the node's key alone, and on where the tree is flat
pub level_same : (old new : Words) (x : ℕ) → new.flat_from ≡ old.flat_from → new.key x ≡ old.key x → level new x ≡ level old x
level_same old new x flat same = λ t. if flat t == 0 then most_depth (card x) x else rank_same old new x x refl flat same t

-- what is below an internal node has a greater level
pub level_rises : (w : Words) (x y : ℕ) → IsInternal x → rank w x < rank w y → level w x + 1 ≤ level w y
level_rises w x y inner less = elim (cases_eq w.flat_from 0) [
  | inl plain ↦ (let up = number_rises w plain x y less in let a = level_plain w plain x in let b = level_plain w plain y in omega arith)
  | inr some ↦ (let a = level_flat w (omega arith) x in let b = level_flat w (omega arith) y in omega arith)
]

-- no table's internal nodes are deeper than this
halvings_few : (n leaves : ℕ) → halvings_of n leaves ≤ n
unfolding halvings_of
halvings_few zero leaves = omega arith
halvings_few (suc n) leaves = by (nat_lt 1 leaves) (halvings_few n (leaves - leaves / 2))
  where
    by : (b : Bool) → halvings_of n (leaves - leaves / 2) ≤ n → (if b then suc (halvings_of n (leaves - leaves / 2)) else 0) ≤ suc n
    by true rest = omega arith
    by false rest = omega arith

pub deepest_most : (plan : TablePlan) (last : ℕ) → plan.last_card ≤ last → length plan.start < last → deepest plan ≤ last + 64
deepest_most plan last room few = elim (cases_Bool plan.flat) [
  | inl flat ↦ (
      let most = ap (λ b. if b then greatest_depth (length plan.start + 1) + 64 else plan.last_card) flat in
      let halved = halvings_few (length plan.start + 1) (length plan.start + 1) in
      omega arith)
  | inr not_flat ↦ (let most = ap (λ b. if b then greatest_depth (length plan.start + 1) + 64 else plan.last_card) not_flat in omega arith)
]

-- the level of a node of a table
pub level_within : (plan : TablePlan) (w : Words) → w.flat_from ≡ flat_from plan → (x : ℕ) → card x ≤ plan.last_card → level w x ≤ most_depth (deepest plan) x
level_within plan w shape x low = elim (cases_Bool plan.flat) [
  | inl flat ↦ (
      let from = shape ∙ ap (λ b. if b then length plan.start + 1 else 0) flat in
      let most = ap (λ b. if b then greatest_depth (length plan.start + 1) + 64 else plan.last_card) flat in
      let greatest = ap greatest_depth from in
      let is = level_flat w (omega arith) x in
      let rank = rank_flat_most w x (omega arith) in
      omega arith)
  | inr not_flat ↦ (
      let from = shape ∙ ap (λ b. if b then length plan.start + 1 else 0) not_flat in
      let most = ap (λ b. if b then greatest_depth (length plan.start + 1) + 64 else plan.last_card) not_flat in
      let is = level_plain w from x in
      omega arith)
]
