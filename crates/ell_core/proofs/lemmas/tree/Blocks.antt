use Rattle.std.proofs.Common.{◌≡◌, ℕ, zero, suc, ◌%◌, ◌<◌, ◌≤◌, ◌⊎◌, Bool, true, false, not, inl, inr, refl, sym, ap, ◌∙◌, subst, arith}
use Rattle.std.proofs.lemmas.Bool.{cases_eq, cases_Bool, cases_lt, false≢true}
use Rattle.std.proofs.lemmas.Nat.{pow_pos}
use Rattle.std.proofs.lemmas.Bool.Decides.{nat_tests}
use Rattle.ell_word.specs.Node.{IsInternal, card}
use Rattle.ell_block.specs.Blocks.{Block, middle_of, from_of, end_of, InBlock, InBlockOf}
use Rattle.ell_block.proofs.lemmas.Middles.{one_block_each, not_in_block}
use Rattle.ell_layout.specs.Words.{Words, IsLeaf, has_block}
use Rattle.ell_trie.specs.Tries.{IsTrie}
use Rattle.ell_trie.proofs.lemmas.Paths.{key_below}
use Rattle.ell_trie.proofs.lemmas.Courses.{block_below}
use Rattle.ell_core.specs.tree.Flat.{opening_from, IsInBlock}

-- a tree in which a node has a block is flat
pub flat_by : (from x : ℕ) → has_block from x ≡ true → 0 < from
unfolding has_block
flat_by zero x h = absurd (false≢true h)
flat_by (suc n) x h = omega arith

-- the nodes of the opening tree are those without a block
pub plain_by : (from x : ℕ) → has_block from x ≡ true → (opening_from from).holds x ≡ false
plain_by from x h = ap not h

pub block_by : (from x : ℕ) → (opening_from from).holds x ≡ false → has_block from x ≡ true
block_by from x h = elim (cases_Bool (has_block from x)) [ inl e ↦ e | inr e ↦ absurd (false≢true (sym h ∙ ap not e)) ]

-- an internal node has a block exactly if its card is not of the opening tree, and each leaf has one
pub block_from : (from x : ℕ) → 0 < from → from ≤ card x → has_block from x ≡ true
unfolding has_block
block_from from x some past = grind (arith, nat_tests)

pub leaf_block : (from x : ℕ) → 0 < from → IsLeaf x → has_block from x ≡ true
unfolding has_block
leaf_block from x some outer = grind (arith, nat_tests)

pub none_before : (from x : ℕ) → IsInternal x → card x < from → has_block from x ≡ false
unfolding has_block
none_before from x inner less = grind (arith, nat_tests)

pub block_past : (from x : ℕ) → IsInternal x → has_block from x ≡ true → from ≤ card x
block_past from x inner h = elim (cases_lt (card x) from) [ inr past ↦ past | inl less ↦ absurd (false≢true (sym (none_before from x inner less) ∙ h)) ]

-- and in a tree that is not flat no node has one
pub none_plain : (x : ℕ) → has_block 0 x ≡ false
unfolding has_block
none_plain x = refl

-- where no node has a block, each key is in it
pub no_block : (w : Words) (x k : ℕ) → has_block w.flat_from x ≡ false → IsInBlock w x k
no_block w x k h = record { inner = λ i has. absurd (false≢true (sym h ∙ has)); leaf = λ o has. absurd (false≢true (sym h ∙ has)) }

pub no_block-plain : (w : Words) (x k : ℕ) → w.flat_from ≡ 0 → IsInBlock w x k
no_block-plain w x k plain = record {
  inner = λ i has. (let some = flat_by w.flat_from x has in absurd (omega arith));
  leaf = λ o has. (let some = flat_by w.flat_from x has in absurd (omega arith));
}

-- a node that is not of it lacks a key only if it has a block
pub lacks_by : (w : Words) (x k : ℕ) → ¬ IsInBlock w x k → has_block w.flat_from x ≡ true
lacks_by w x k lacks = elim (cases_Bool (has_block w.flat_from x)) [ inl e ↦ e | inr e ↦ absurd (lacks (no_block w x k e)) ]

pub lacks_inner : (w : Words) (x k : ℕ) → IsInternal x → ¬ IsInBlock w x k → ¬ InBlockOf (w.key x) k
lacks_inner w x k i lacks inside = lacks (record { inner = λ _ _. inside; leaf = λ o _. absurd (o i) })

-- by the key of a node alone
pub in_block-inner : (w : Words) (x k : ℕ) → IsInternal x → InBlockOf (w.key x) k → IsInBlock w x k
in_block-inner w x k i inside = record { inner = λ _ _. inside; leaf = λ o _. absurd (o i) }

pub in_block-leaf : (w : Words) (x k : ℕ) → IsLeaf x → w.key x ≡ k → IsInBlock w x k
in_block-leaf w x k o is = record { inner = λ i _. absurd (o i); leaf = λ _ _. is }

-- it is the same in words where the node has the same key
pub in_block-same : (old new : Words) (x k : ℕ) → new.flat_from ≡ old.flat_from → new.key x ≡ old.key x → IsInBlock old x k → IsInBlock new x k
in_block-same old new x k flat same there = record {
  inner = λ i has. subst (λ n. InBlockOf n k) (sym same) (there.inner i (subst (λ n. has_block n x ≡ true) flat has));
  leaf = λ o has. same ∙ there.leaf o (subst (λ n. has_block n x ≡ true) flat has);
}

-- whether a key is in a block
in_block_or_not : (block : Block) (k : ℕ) → InBlock block k ⊎ ¬ InBlock block k
in_block_or_not block k = elim (cases_lt k (from_of block)) [
  | inl before ↦ inr (λ h. let from = h.from in omega arith)
  | inr from ↦ elim (cases_lt k (end_of block)) [
    | inl before ↦ inl (record { from = from; before = before })
    | inr past ↦ inr (λ h. let before = h.before in omega arith)
  ]
]

-- a number that is the middle of a block is not 0
middle_some : (block : Block) → 0 < middle_of block
middle_some block = let some = pow_pos block.bit in omega arith

block_of_or_not : (number k : ℕ) → InBlockOf number k ⊎ ¬ InBlockOf number k
block_of_or_not number k = elim (cases_lt 0 number) [
  | inr none ↦ inr (λ h. none_is h none)
  | inl some ↦
      let one = one_block_each number some in
      elim (in_block_or_not one.0 k) [
        | inl inside ↦ inl (record { block = one.0; middle = one.1; inside = inside })
        | inr outside ↦ inr (λ h. not_in_block one.0 k outside (subst (λ n. InBlockOf n k) one.1 h))
      ]
]
  where
    none_is : InBlockOf number k → number ≤ 0 → ⊥
    none_is h none = let some = middle_some h.block in let is = h.middle in omega arith

pub in_block-or_not : (w : Words) (x k : ℕ) → IsInBlock w x k ⊎ ¬ IsInBlock w x k
in_block-or_not w x k = elim (cases_Bool (has_block w.flat_from x)) [
  | inr none ↦ inl (no_block w x k none)
  | inl has ↦ elim (cases_eq (x % 4) 0) [
    | inl i ↦ elim (block_of_or_not (w.key x) k) [
      | inl inside ↦ inl (in_block-inner w x k i inside)
      | inr outside ↦ inr (λ h. outside (h.inner i has))
    ]
    | inr o ↦ elim (cases_eq (w.key x) k) [
      | inl is ↦ inl (in_block-leaf w x k o is)
      | inr other ↦ inr (λ h. other (h.leaf o has))
    ]
  ]
]

-- what is below a node that has a block has one too, and lacks each key that the node's lacks
module _ {Born : ℕ → Type 0} (w : Words) (trie : IsTrie Born (opening_from w.flat_from) w.key w.child) (x : ℕ) (right : Bool) where
  pub has_below : IsInternal x → Born x → has_block w.flat_from x ≡ true → has_block w.flat_from (w.child x right) ≡ true
  has_below inner born has = block_by w.flat_from (w.child x right) (trie.plain x right inner born (plain_by w.flat_from x has))

  pub lacks_below : (k : ℕ) → IsInternal x → Born x → has_block w.flat_from x ≡ true → ¬ IsInBlock w x k → ¬ IsInBlock w (w.child x right) k
  lacks_below k inner born has lacks there = lacks (in_block-inner w x k inner (elim (cases_eq (w.child x right % 4) 0) [
    | inl i ↦ block_below trie x right k inner born (plain_by w.flat_from x has) i (there.inner i (has_below inner born has))
    | inr o ↦ subst (InBlockOf (w.key x)) (there.leaf o (has_below inner born has)) (key_below trie x right inner born (plain_by w.flat_from x has))
  ]))
