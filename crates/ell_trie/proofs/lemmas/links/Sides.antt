use Rattle.std.proofs.Common.{◌≡◌, ◌≢◌, ℕ, ◌%◌, Bool, true, false, not, nat_le, inl, inr, sym, ap, ◌∙◌, subst, arith}
use Rattle.std.proofs.lemmas.Bool.{cases_eq}
use Rattle.ell_word.specs.Node.{IsInternal}
use Rattle.ell_trie.specs.Ranges.{FindsLeaf, at_leaf, below}
use Rattle.ell_trie.specs.Halves.{InHalfOf, InsideOf}
use Rattle.ell_trie.specs.Tries.{Opening, IsTrie}
use Rattle.ell_trie.specs.Links.{Links}
use Rattle.ell_trie.proofs.lemmas.Middles.{half_side, inside_falls}
use Rattle.ell_trie.proofs.lemmas.Paths.{here, Under, next, under_plain, under_inside, under_half, spans_born}

-- a side is not the other one
pub side_apart : (t : Bool) → not t ≢ t
side_apart true e = cc
side_apart false e = cc

-- below a leaf is that leaf alone
under_leaf : {child : ℕ → Bool → ℕ} {x z : ℕ} → ¬ IsInternal x → Under child x z → z ≡ x
under_leaf outer (here e) = e
under_leaf outer (next u v i e) = absurd (outer (subst IsInternal (under_leaf outer v) i))

module _ {Born : ℕ → Type 0} {o : Opening} {key : ℕ → ℕ} {child after : ℕ → Bool → ℕ} {top p : ℕ} {s : Bool} {x q : ℕ} {t : Bool} {n k : ℕ}
    (trie : IsTrie Born o key child) (link : Links Born o key child after top p s x q t n k) where
  pub born_p : Born p
  born_p = spans_born trie link.reached

  pub born_x : Born x
  born_x = subst Born link.shape.was (trie.closed p s link.shape.from born_p)

  -- the parent is not below the old node
  pub no_cycle : ¬ Under child x p
  no_cycle h = elim (cases_eq (x % 4) 0) [
    | inr outer ↦ outer (subst IsInternal (under_leaf outer h) link.shape.from)
    | inl i ↦
        let b = under_plain trie born_x link.shape.old_plain h in
        let inner : IsInternal (child p s) = subst IsInternal (sym link.shape.was) i in
        let inside : InsideOf (key x) (key p) s = subst (λ z. InsideOf (key z) (key p) s) link.shape.was (trie.inner p s link.shape.from born_p b.1 inner) in
        let less = inside_falls (under_inside trie born_x link.shape.old_plain inside h link.shape.from) in
        omega arith
  ]

  pub apart : p ≢ q
  apart e = link.shape.fresh (subst Born e born_p)

  -- the new node's children are as they were
  pub kept : (u : Bool) → after q u ≡ child q u
  kept u = elim (link.shape.relinks.others q u) [ inl h ↦ absurd (apart (sym h.0)) | inr h ↦ h ]

  -- what is below the old node is on the other side of the new node than the added key
  pub other_inside : {z : ℕ} → Under child x z → IsInternal z → InsideOf (key z) (key q) (not t)
  other_inside h j = elim (cases_eq (x % 4) 0) [
    | inl i ↦ under_inside trie born_x link.shape.old_plain (link.old_there i) h j
    | inr outer ↦ absurd (outer (subst IsInternal (under_leaf outer h) j))
  ]

  pub other_half : {z : ℕ} → Under child x z → InHalfOf (key q) (not t) (key z)
  other_half h = elim (cases_eq (x % 4) 0) [
    | inl i ↦ under_half trie born_x link.shape.old_plain (link.old_there i) i h
    | inr outer ↦ subst (λ v. InHalfOf (key q) (not t) (key v)) (sym (under_leaf outer h)) (link.old_leaf_there outer)
  ]

  pub other_side : {z : ℕ} → Under child x z → nat_le (key q) (key z) ≡ not t
  other_side h = half_side (other_half h)

  pub key_side : nat_le (key q) k ≡ t
  key_side = half_side link.key_there

  -- where the parent's child was the old node, and where it is the new one
  pub to_new : {z : ℕ} {u : Bool} → z ≡ p → u ≡ s → after z u ≡ q
  to_new {u = u} e f = ap (λ v. after v u) e ∙ (ap (after p) f ∙ link.shape.relinks.there)

  pub from_old : {z : ℕ} {u : Bool} → z ≡ p → u ≡ s → child z u ≡ x
  from_old {u = u} e f = ap (λ v. child v u) e ∙ (ap (child p) f ∙ link.shape.was)

  -- a key that is met below the old node is on the other side
  pub met_under : {Holds : ℕ → Type 0} (j : ℕ) {z : ℕ} → Under child x z → FindsLeaf key child Holds j z → (w : ℕ) × Under child x w × (key w ≡ j)
  met_under j {z} v (at_leaf _ e _) = (z, v, e)
  met_under j {z} v (below i e f) = met_under j (next (nat_le (key z) j) v i e) f

  pub met_side : {Holds : ℕ → Type 0} (j : ℕ) {z : ℕ} → Under child x z → FindsLeaf key child Holds j z → nat_le (key q) j ≡ not t
  met_side j v f = let w = met_under j v f in subst (λ v. nat_le (key q) v ≡ not t) w.2 (other_side w.1)
