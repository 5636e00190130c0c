use Rattle.std.proofs.Common.{◌≡◌, ℕ, ◌<◌, ◌≤◌, Bool, true, false, not, nat_le, inl, inr, refl, ap, subst, arith}
use Rattle.std.proofs.lemmas.Bool.Decides.{nat_tests}
use Rattle.ell_word.specs.Node.{IsInternal}
use Rattle.ell_trie.specs.Ranges.{low_of, high_of, Spans, IsOrdered}
use Rattle.ell_trie.proofs.lemmas.order.OneRange.{unique}
use Rattle.ell_trie.specs.Halves.{InsideOf}
use Rattle.ell_trie.specs.Tries.{Opening, IsTrie}
use Rattle.ell_trie.specs.Links.{Links}
use Rattle.ell_trie.proofs.lemmas.Middles.{inside_above, halves_part}
use Rattle.ell_trie.proofs.lemmas.Paths.{Under, here}
use Rattle.ell_trie.proofs.lemmas.links.Sides.{other_inside, other_half, other_side, key_side}
use Rattle.ell_trie.proofs.lemmas.links.Ranges.{LowIs, Linked, same, new_node, new_leaf, lower, spans_link, x_spans, low_there, high_there}

module _ {Born : ℕ → Type 0} {o : Opening} {key : ℕ → ℕ} {child after : ℕ → Bool → ℕ} {top p : ℕ} {s : Bool} {x q : ℕ} {t : Bool} {n k : ℕ}
    (trie : IsTrie Born o key child) (link : Links Born o key child after top p s x q t n k) {rank : ℕ → ℕ} (ordered : IsOrdered key child top rank) where
  -- the added key is in the range of the old node
  pub key_ranged : {a b : ℕ} → Spans key child top x a b → (a ≤ k) × (k < b)
  key_ranged r =
      let u = unique key child top ordered (x_spans trie link) r in let first = link.first in let last = link.last in
      (omega arith, omega arith)

  -- the new node's key is between the added one and that of the old node
  between : {a b : ℕ} → Spans key child top x a b → (a < key q) × (key q < b)
  between r =
      let w = ordered.within x _ _ r in let l = key_ranged r in
      let m = halves_part t link.key_there (other_half trie link (here refl)) in
      (omega arith, omega arith)

  leaf_within : (u : Bool) (low high : ℕ) → nat_le (key q) k ≡ u → low ≤ k → k < high → (low_of u low (key q) ≤ k) × (k < high_of u high (key q))
  leaf_within true low high side a b = (grind (arith, nat_tests), b)
  leaf_within false low high side a b = (a, grind (arith, nat_tests))

  within_linked : (z a b : ℕ) → Linked key child top x q t n z a b → (a ≤ key z) × (key z < b)
  within_linked z a b (same r) = ordered.within z a b r
  within_linked z a b (new_node e r) = let m = between r in let is = ap key e in (omega arith, omega arith)
  within_linked z a b (new_leaf {low = from} {high = until} e r f g) =
      let l = key_ranged r in let w = leaf_within t from until (key_side trie link) l.0 l.1 in
      let is = ap key e in let has = link.shape.has in (omega arith, omega arith)
  within_linked z a b (lower v r l h) =
      let w = ordered.within z _ _ r in let side = other_side trie link v in
      (low_there side l w.0, high_there side h w.1)

  lower_proper : {z a c : ℕ} → Under child x z → IsInternal z → LowIs t a c (key q) → c < key z → a < key z
  lower_proper v i (inl e) w = omega arith
  lower_proper {z = z} v i (inr e) w =
      let more = inside_above (subst (λ u. InsideOf (key z) (key q) (not u)) e.0 (other_inside trie link v i)) in let is = e.1 in omega arith

  proper_linked : (z a b : ℕ) → Linked key child top x q t n z a b → IsInternal z → a < key z
  proper_linked z a b (same r) i = ordered.proper z a b r i
  proper_linked z a b (new_node e r) i = let m = between r in let is = ap key e in omega arith
  proper_linked z a b (new_leaf e r f g) i = absurd (link.shape.outer (subst IsInternal e i))
  proper_linked z a b (lower v r l h) i = lower_proper v i l (ordered.proper z _ _ r i)

  pub within_after : (z a b : ℕ) → Spans key after top z a b → (a ≤ key z) × (key z < b)
  within_after z a b r = within_linked z a b (spans_link trie link r)

  pub proper_after : (z a b : ℕ) → Spans key after top z a b → IsInternal z → a < key z
  proper_after z a b r i = proper_linked z a b (spans_link trie link r) i
