use Rattle.std.proofs.Common.{◌≡◌, ◌≢◌, ℕ, ◌<◌, ◌≤◌, Bool, true, false, List, [], ◌∷◌, nat_le, inl, inr, refl, sym, ap, ◌∙◌, subst, arith}
use Rattle.std.proofs.lemmas.Bool.{cases_lt}
use Rattle.std.proofs.lemmas.Bool.Decides.{nat_tests}
use Rattle.ell_word.specs.Node.{IsInternal, infinity1, infinity2}
use Rattle.ell_layout.specs.Words.{Words, IsLeaf}
use Rattle.ell_layout.specs.Cards.{child_for}
use Rattle.ell_core.specs.tree.Tree.{OnWalk, here, next, Leads, Below, Reached, HasGrandparent, LeftIsLawful, IsLawful}
use Rattle.ell_trie.specs.Ranges.{low_of, high_of, Spans, root, goes, IsOrdered}
use Rattle.ell_core.specs.history.Stages.{Stages}
use Rattle.ell_core.specs.history.Invariant.{top, TreeIsSound}
use Rattle.ell_core.proofs.lemmas.tree.Paths.{Leads-from_leaf, Below-leaf, Reached-below, Reached-child}
use Rattle.ell_core.proofs.lemmas.tree.Reached.{leads_some, OnWalk-below, Meets-finds, Reached-spans, key_below}
use Rattle.ell_core.specs.tree.Rank.{rank}

-- an ordered tree
module _ (w : Words) (ordered : IsOrdered w.key w.child top (rank w)) where
  -- ranks rise along a path
  path_rises : (x low high : ℕ) (p : List Bool) (y : ℕ) → Spans w.key w.child top x low high → Leads w x p y → rank w x ≤ rank w y
  path_rises x low high [] y spans leads = let same = ap (rank w) leads in omega arith
  path_rises x low high (right ∷ p) y spans leads =
      let up = ordered.rising x low high right spans leads.0 in
      let rest = path_rises (w.child x right) (low_of right low (w.key x)) (high_of right high (w.key x)) p y
      (goes right spans leads.0 refl refl refl) leads.1 in
      omega arith

  -- a key below the left child is less than the node's
  less_on_left : (x low high : ℕ) (p : List Bool) (y : ℕ) → Spans w.key w.child top x low high → IsInternal x
      → Leads w (w.child x false) p y → w.key y < w.key x
  less_on_left x low high p y spans inner leads =
      (key_below w ordered (w.child x false) low (w.key x) p y (goes false spans inner refl refl refl) leads).1

  -- a key below the right child is no less
  more_on_right : (x low high : ℕ) (p : List Bool) (y : ℕ) → Spans w.key w.child top x low high → IsInternal x
      → Leads w (w.child x true) p y → w.key x ≤ w.key y
  more_on_right x low high p y spans inner leads =
      (key_below w ordered (w.child x true) (w.key x) high p y (goes true spans inner refl refl refl) leads).0

  -- nodes of one key are not below both children of a node
  apart : (x low high : ℕ) (p q : List Bool) (y z : ℕ) → Spans w.key w.child top x low high → IsInternal x
      → Leads w (w.child x false) p y → Leads w (w.child x true) q z → w.key y ≡ w.key z → ⊥
  apart x low high p q y z spans inner first second same =
      let a = less_on_left x low high p y spans inner first in
      let b = more_on_right x low high q z spans inner second in
      omega arith

  -- from a node one path leads to each node below it
  one_path_from : (x low high : ℕ) (p q : List Bool) (y : ℕ) → Spans w.key w.child top x low high
      → Leads w x p y → Leads w x q y → p ≡ q
  one_path_from x low high [] [] y spans first second = refl
  one_path_from x low high [] (right ∷ q) y spans first second =
      let up = ordered.rising x low high right spans second.0 in
      let rest = path_rises (w.child x right) (low_of right low (w.key x)) (high_of right high (w.key x)) q y
      (goes right spans second.0 refl refl refl) second.1 in
      let same = ap (rank w) first in
      absurd (omega arith)
  one_path_from x low high (right ∷ p) [] y spans first second =
      let up = ordered.rising x low high right spans first.0 in
      let rest = path_rises (w.child x right) (low_of right low (w.key x)) (high_of right high (w.key x)) p y
      (goes right spans first.0 refl refl refl) first.1 in
      let same = ap (rank w) second in
      absurd (omega arith)
  one_path_from x low high (false ∷ p) (true ∷ q) y spans first second =
      absurd (apart x low high p q y y spans first.0 first.1 second.1 refl)
  one_path_from x low high (true ∷ p) (false ∷ q) y spans first second =
      absurd (apart x low high q p y y spans first.0 second.1 first.1 refl)
  one_path_from x low high (false ∷ p) (false ∷ q) y spans first second =
      ap (λ r. false ∷ r) (one_path_from (w.child x false) low (w.key x) p q y
      (goes false spans first.0 refl refl refl) first.1 second.1)
  one_path_from x low high (true ∷ p) (true ∷ q) y spans first second =
      ap (λ r. true ∷ r) (one_path_from (w.child x true) (w.key x) high p q y
      (goes true spans first.0 refl refl refl) first.1 second.1)

  -- below a node at most one leaf has a key
  one_leaf_from : (x low high : ℕ) (p q : List Bool) (y z : ℕ) → Spans w.key w.child top x low high
      → Leads w x p y → Leads w x q z → IsLeaf y → IsLeaf z → w.key y ≡ w.key z → y ≡ z
  one_leaf_from x low high [] q y z spans first second outer end same =
      let leads = subst (λ n. Leads w n q z) (sym first) second in
      sym (subst (λ r. Leads w y r z) (Leads-from_leaf w y z q outer leads) leads)
  one_leaf_from x low high (right ∷ p) [] y z spans first second outer end same =
      absurd (end (subst IsInternal (sym second) first.0))
  one_leaf_from x low high (false ∷ p) (true ∷ q) y z spans first second outer end same =
      absurd (apart x low high p q y z spans first.0 first.1 second.1 same)
  one_leaf_from x low high (true ∷ p) (false ∷ q) y z spans first second outer end same =
      absurd (apart x low high q p z y spans first.0 second.1 first.1 (sym same))
  one_leaf_from x low high (false ∷ p) (false ∷ q) y z spans first second outer end same =
      one_leaf_from (w.child x false) low (w.key x) p q y z (goes false spans first.0 refl refl refl)
      first.1 second.1 outer end same
  one_leaf_from x low high (true ∷ p) (true ∷ q) y z spans first second outer end same =
      one_leaf_from (w.child x true) (w.key x) high p q y z (goes true spans first.0 refl refl refl)
      first.1 second.1 outer end same

  -- the reached leaves have keys of their own
  pub one_leaf : (x y : ℕ) → Reached w x → Reached w y → IsLeaf x → IsLeaf y → w.key x ≡ w.key y → x ≡ y
  one_leaf x y first second outer end same =
      one_leaf_from 0 0 top first.path second.path x y (root refl refl refl) first.leads second.leads outer end same

-- a path of two sides or more ends in two sides
deep_from : (w : Words) (x : ℕ) (first second : Bool) (p : List Bool) (y : ℕ) → Reached w x
    → Leads w x (first ∷ second ∷ p) y → HasGrandparent w y
deep_from w x first second [] y reached leads =
    record { grandparent = x; reached = reached; first = first; second = second; leads = leads }
deep_from w x first second (third ∷ p) y reached leads =
    deep_from w (w.child x first) second third p y (Reached-child w x first reached leads.0) leads.1

-- a leaf below a child of node 0 that is not this child has a parent and a grandparent
deep_below : (w : Words) (right : Bool) (p : List Bool) (y : ℕ) → Leads w (w.child 0 right) p y → y ≢ w.child 0 right
    → HasGrandparent w y
deep_below w right [] y leads other = absurd (other leads)
deep_below w right (second ∷ p) y leads other =
    deep_from w 0 right second p y (record { path = []; leads = refl }) (refl, leads)

-- the leaf that the walk for the lesser infinity finds is below the root's left child
left_of_root : (w : Words) {x y : ℕ} → x ≡ 0 → w.key 0 ≡ infinity2 → OnWalk w infinity1 x y → IsLeaf y
    → Below w (w.child 0 false) y
left_of_root w at_root greatest (here e) outer = absurd (outer (subst IsInternal (sym (e ∙ at_root)) refl))
left_of_root w {x = x} {y = y} at_root greatest (next inner on) outer =
    subst (λ n. Below w n y) (child_of x at_root) (OnWalk-below w infinity1 on)
  where
    less : (m : ℕ) → m ≡ infinity2 → nat_le m infinity1 ≡ false
    less m e = grind (arith, nat_tests)

    child_of : (x : ℕ) → x ≡ 0 → child_for w infinity1 x ≡ w.child 0 false
    child_of x e = ap (child_for w infinity1) e ∙ ap (w.child 0) (less (w.key 0) greatest)

-- the left part of a sound tree
left_lawful : (w : Words) (stage : Stages) → TreeIsSound w stage → LeftIsLawful w
left_lawful w stage sound =
    let last = leads_some w infinity1 sound.last in
    let found = Meets-finds w infinity1 last.0 last.1 in
    let there = left_of_root w refl sound.root_key found.on found.outer in
    let left_reached = Reached-child w 0 false (record { path = []; leads = refl }) refl in
    let last_reached = Reached-below w (w.child 0 false) found.leaf left_reached there in
    record {
      last = found.leaf;
      there = there;
      outer = found.outer;
      last_key = found.has;
      real = λ x below outer other.
          (let less = less_on_left w sound.ordered 0 0 top below.path x (root refl refl refl) refl below.leads in
          let bound = sound.root_key in
          elim (cases_lt (w.key x) infinity1) [
            | inl small ↦ omega arith
            | inr large ↦ (let same : w.key x ≡ w.key found.leaf = (let has = found.has in omega arith) in
                let reached = Reached-below w (w.child 0 false) x left_reached below in
                absurd (other (one_leaf w sound.ordered x found.leaf reached last_reached outer found.outer same)))
          ]);
      deep = λ x below outer other. deep_below w false below.path x below.leads
          (λ e. other (e ∙ sym (Below-leaf w (w.child 0 false) found.leaf (subst IsLeaf e outer) there)));
    }

-- a sound tree is lawful
pub tree_lawful : (w : Words) (stage : Stages) → TreeIsSound w stage → IsLawful w
tree_lawful w stage sound = record {
  rises = λ x right reached inner.
      (let it = Reached-spans w sound.ordered x reached in sound.ordered.rising x it.low it.high right it.spans inner);
  one_path = λ x p q first second. one_path_from w sound.ordered 0 0 top p q x (root refl refl refl) first second;
  left_less = λ x y reached inner under.
      (let it = Reached-spans w sound.ordered x reached in
      less_on_left w sound.ordered x it.low it.high under.path y it.spans inner under.leads);
  right_more = λ x y reached inner under.
      (let it = Reached-spans w sound.ordered x reached in
      more_on_right w sound.ordered x it.low it.high under.path y it.spans inner under.leads);
  root_key = sound.root_key;
  root_right = sound.root_right;
  right_key = sound.right_key;
  left = left_lawful w stage sound;
}
