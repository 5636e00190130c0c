use Rattle.std.proofs.Common.{◌≡◌, ◌≢◌, ℕ, ◌+◌, ◌*◌, ◌/◌, ◌%◌, ◌<◌, ◌≤◌, ◌==◌, if◌then◌else◌, Bool, true, not, inl, inr, refl, sym, ap, ◌∙◌, arith}
use Rattle.std.proofs.lemmas.Bool.{cases_eq, cases_lt, eq-eqb, ne_eqb, false≢true}
use Rattle.ell_word.specs.Node.{IsInternal, card}
use Rattle.ell_layout.specs.Branches.{depth_of, greatest_depth}
use Rattle.ell_layout.specs.Words.{Words}
use Rattle.ell_layout.proofs.lemmas.Depths.{depths_are_few, depth_root}
use Rattle.ell_trie.specs.Ranges.{IsOrdered}
use Rattle.ell_trie.specs.Tries.{IsTrie}
use Rattle.ell_trie.specs.Ranks.{bit_of, rank_by, rank_of}
use Rattle.ell_trie.proofs.lemmas.Paths as paths
use Rattle.ell_core.specs.tree.Flat.{opening_from}
use Rattle.ell_core.specs.tree.Rank.{rank_in, rank}
use Rattle.ell_core.proofs.lemmas.tree.Blocks.{block_from, none_before}

-- in a tree that is not flat the rank of a node is its number
pub rank_plain : (w : Words) → w.flat_from ≡ 0 → (x : ℕ) → rank w x ≡ x
unfolding rank_in
rank_plain w plain x = ap (λ b. if b then x else rank_of (opening_from w.flat_from) w.key x) (eq-eqb w.flat_from 0 plain)

-- in a flat one it is that of a trie
pub rank_flat : (w : Words) → 0 < w.flat_from → (x : ℕ) → rank w x ≡ rank_of (opening_from w.flat_from) w.key x
unfolding rank_in
rank_flat w some x = ap (λ b. if b then x else rank_of (opening_from w.flat_from) w.key x) (ne_eqb w.flat_from 0 (omega arith))

-- it depends on the node's key alone, and on where the tree is flat
pub rank_same : (old new : Words) (x y : ℕ) → y ≡ x → new.flat_from ≡ old.flat_from → new.key y ≡ old.key x → rank new y ≡ rank old x
unfolding rank_in rank_of
rank_same old new x y is flat same = λ t. if flat t == 0 then is t else
    rank_by (opening_from (flat t)).most (is t % 4 == 0) ((opening_from (flat t)).holds (is t)) ((opening_from (flat t)).depth (is t)) (bit_of (same t))

-- two nodes of which one has the lesser rank are not one
pub ranked_apart : (w : Words) (x y : ℕ) → rank w x < rank w y → x ≢ y
ranked_apart w x y less same = let e = ap (rank w) same in omega arith

-- the depths of the nodes of the opening tree
pub depths_few : (from x : ℕ) → 0 < from → IsInternal x → (opening_from from).holds x ≡ true → depth_of from (card x) ≤ greatest_depth from
depths_few from x some inner holds = elim (cases_lt (card x) from) [
  | inl less ↦ depths_are_few from (card x) less
  | inr past ↦ absurd (false≢true (sym (ap not (block_from from x some past)) ∙ holds))
]

-- the rank of the root is 0
pub rank_root : (w : Words) → rank w 0 ≡ 0
rank_root w = elim (cases_eq w.flat_from 0) [
  | inl plain ↦ rank_plain w plain 0
  | inr some ↦ rank_flat w (omega arith) 0 ∙ (paths.rank_open (opening_from w.flat_from) w.key 0 (ap not (none_before w.flat_from 0 refl (omega arith))) refl
      ∙ depth_root w.flat_from)
]

-- in a flat tree a leaf has a greater rank than each internal node
pub leaf_deepest : (w : Words) (x y : ℕ) → 0 < w.flat_from → IsInternal x → ¬ IsInternal y → rank w x < rank w y
leaf_deepest w x y some inner outer =
    let a = rank_flat w some x in
    let b = rank_flat w some y in
    let most = paths.rank_most (opening_from w.flat_from) w.key x (depths_few w.flat_from x some) inner in
    let leaf = paths.rank_leaf (opening_from w.flat_from) w.key y outer in
    omega arith

-- and a trie with these keys is in order by it, if it is by some rank
pub ordered_flat : {Born : ℕ → Type 0} (w : Words) (child : ℕ → Bool → ℕ) (top : ℕ) {other : ℕ → ℕ} → 0 < w.flat_from
    → IsTrie Born (opening_from w.flat_from) w.key child → IsOrdered w.key child top other → IsOrdered w.key child top (rank w)
ordered_flat w child top some trie ordered = record {
  within = ordered.within;
  proper = ordered.proper;
  rising = λ x low high right spans inner.
      (let up = paths.rank_rises trie x right inner (paths.spans_born trie spans) in
      let a = rank_flat w some x in
      let b = rank_flat w some (child x right) in
      omega arith);
}

-- in a flat tree no rank is more than this, and a leaf's is one more
pub rank_flat_most : (w : Words) (x : ℕ) → 0 < w.flat_from → rank w x ≤ greatest_depth w.flat_from + 64 + (x % 4 + 3) / 4
rank_flat_most w x some = elim (cases_eq (x % 4) 0) [
  | inl inner ↦ (
      let is = rank_flat w some x in
      let most = paths.rank_most (opening_from w.flat_from) w.key x (depths_few w.flat_from x some) inner in
      omega arith)
  | inr outer ↦ (let is = rank_flat w some x in let leaf = paths.rank_leaf (opening_from w.flat_from) w.key x outer in omega arith)
]

-- a number that the ranks of nodes up to a card stay below
pub rank_bound : Words → ℕ → ℕ
rank_bound w last = 4 * last + 4 + (greatest_depth w.flat_from + 66)

pub rank_most : (w : Words) (x last : ℕ) → card x ≤ last → rank w x < rank_bound w last
unfolding rank_bound
rank_most w x last on = elim (cases_eq w.flat_from 0) [
  | inl plain ↦ (let is = rank_plain w plain x in omega arith)
  | inr some ↦ elim (cases_eq (x % 4) 0) [
    | inl inner ↦ (
        let is = rank_flat w (omega arith) x in
        let most = paths.rank_most (opening_from w.flat_from) w.key x (depths_few w.flat_from x (omega arith)) inner in
        omega arith)
    | inr outer ↦ (let is = rank_flat w (omega arith) x in let most = paths.rank_leaf (opening_from w.flat_from) w.key x outer in omega arith)
  ]
]
