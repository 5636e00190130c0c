use Rattle.std.proofs.Common.{◌≡◌, ℕ, ◌<◌, ◌≤◌, ◌↔◌, Bool, true, List, [], ◌∷◌, nat_le, refl, sym, ◌∙◌, subst, arith}
use Rattle.ell_ops.specs.Meaning.{greatest_key}
use Rattle.ell_word.specs.Node.{IsInternal}
use Rattle.ell_layout.specs.Words.{Words, IsLeaf, has_block}
use Rattle.ell_core.specs.tree.Tree.{OnWalk, here, next, Finds, Leads, Below, Reached, IsTreeKey, IsTreePair}
use Rattle.ell_trie.specs.Ranges.{low_of, high_of, Spans, root, goes, at_leaf, below, IsOrdered, OnCourse}
use Rattle.ell_trie.specs.Ranges as ranges
use Rattle.ell_core.specs.history.Invariant.{top, IsIn, IsOut, LeadsTo, LeadsToValue, IsOnCourse}
use Rattle.ell_trie.proofs.lemmas.order.Bounds.{leaf_holds, Meets-map, child_within, side_of, leaf_is_met}
use Rattle.ell_core.proofs.lemmas.tree.Paths.{Below-refl, Below-from_child, Reached-child}
use Rattle.ell_trie.specs.Tries.{IsTrie}
use Rattle.ell_trie.specs.Courses.{ordinary, passes, missed, strange}
use Rattle.ell_core.specs.tree.Flat.{opening_from, IsInBlock}
use Rattle.ell_core.specs.tree.Rank.{rank}
use Rattle.ell_core.proofs.lemmas.tree.Blocks.{flat_by, block_by, has_below, lacks_below}

-- a node that has a range is reached
pub Spans-reached : (w : Words) {x low high : ℕ} → Spans w.key w.child top x low high → Reached w x
Spans-reached w (root e _ _) = record { path = []; leads = e }
Spans-reached w (goes {x = x} right spans inner e _ _) =
    subst (Reached w) (sym e) (Reached-child w x right (Spans-reached w spans) inner)

-- a walk goes along a path
pub OnWalk-below : (w : Words) (k : ℕ) {x y : ℕ} → OnWalk w k x y → Below w x y
OnWalk-below w k {x = x} (here e) = subst (Below w x) (sym e) (Below-refl w x)
OnWalk-below w k {x = x} {y = y} (next inner on) =
    Below-from_child w x y (nat_le (w.key x) k) inner (OnWalk-below w k on)

-- a walk that ends at a leaf of a key with a value ends at one of the key
pub leads_any : (w : Words) (k value x : ℕ) → LeadsToValue w k value x → LeadsTo w k x
leads_any w k value x leads = Meets-map w.key w.child k (λ leaf e. tt) leads

-- and that leaf has a value
pub leads_some : (w : Words) (k : ℕ) {x : ℕ} → LeadsTo w k x → (value : ℕ) × LeadsToValue w k value x
leads_some w k (at_leaf {x = x} outer has _) = (w.value x, at_leaf outer has refl)
leads_some w k (below inner e rest) = let there = leads_some w k rest in (there.0, below inner e there.1)

-- a walk ends once
pub one_value : (w : Words) (k value other : ℕ) {x : ℕ} → LeadsToValue w k value x → LeadsToValue w k other x → value ≡ other
one_value w k value other (at_leaf outer has e) rest = sym e ∙ leaf_holds w.key w.child k _ outer rest
one_value w k value other (below inner e rest) (at_leaf outer _ _) = absurd (outer inner)
one_value w k value other (below inner e rest) (below _ f rest') = one_value w k value other rest (subst (LeadsToValue w k other) (f ∙ sym e) rest')

-- so a key leads on where it does with each value
pub leads_by_value : (old new : Words) (k x : ℕ) → ((value : ℕ) → LeadsToValue new k value x ↔ LeadsToValue old k value x) → LeadsTo new k x ↔ LeadsTo old k x
leads_by_value old new k x h = (
  λ l. (let there = leads_some new k l in leads_any old k there.0 x ((h there.0).0 there.1)),
  λ l. (let there = leads_some old k l in leads_any new k there.0 x ((h there.0).1 there.1)),
)

-- the walk for a key that ends at a leaf of that key finds it
pub Meets-finds : (w : Words) (k value : ℕ) {x : ℕ} → LeadsToValue w k value x → Finds w k value x
Meets-finds w k value (at_leaf {x = x} outer has is) = record { leaf = x; on = here refl; outer = outer; has = has; says = is }
Meets-finds w k value (below {x = x} inner e rest) =
    let found = Meets-finds w k value rest in
    let on = next inner (subst (λ n. OnWalk w k n found.leaf) e found.on) in
    record { leaf = found.leaf; on = on; outer = found.outer; has = found.has; says = found.says }

-- a walk that ends at a leaf of its key leads to it
pub OnWalk-meets : (w : Words) (k value : ℕ) {x y : ℕ} → OnWalk w k x y → IsLeaf y → w.key y ≡ k → w.value y ≡ value → LeadsToValue w k value x
OnWalk-meets w k value (here e) outer has is = subst (LeadsToValue w k value) e (at_leaf outer has is)
OnWalk-meets w k value (next inner on) outer has is = below inner refl (OnWalk-meets w k value on outer has is)

-- where a key is found, and where its walk ends at a leaf of that key, is the same
pub finds_iff : (w : Words) (k value x : ℕ) → Finds w k value x ↔ LeadsToValue w k value x
finds_iff w k value x = (λ found. OnWalk-meets w k value found.on found.outer found.has found.says, λ meets. Meets-finds w k value meets)

-- y is reached, with a range that lies in this one
pub record SpansIn (w : Words) (y low high : ℕ) : Type 0 where
  pub first : ℕ
  pub last : ℕ
  pub spans : Spans w.key w.child top y first last
  pub from : low ≤ first
  pub to : last ≤ high

-- an ordered tree
module _ (w : Words) (ordered : IsOrdered w.key w.child top (rank w)) where
  -- what is below a node has its range in the node's
  pub spans_below : (x low high : ℕ) (p : List Bool) (y : ℕ) → Spans w.key w.child top x low high
      → Leads w x p y → SpansIn w y low high
  spans_below x low high [] y spans leads = record {
    first = low;
    last = high;
    spans = subst (λ n. Spans w.key w.child top n low high) (sym leads) spans;
    from = omega arith;
    to = omega arith;
  }
  spans_below x low high (right ∷ p) y spans leads =
      let inside = child_within w.key w.child top ordered x low high right spans in
      let up = inside.0 in
      let down = inside.1 in
      let rest = spans_below (w.child x right) (low_of right low (w.key x)) (high_of right high (w.key x)) p y
      (goes right spans leads.0 refl refl refl) leads.1 in
      let a = rest.from in
      let b = rest.to in
      record { first = rest.first; last = rest.last; spans = rest.spans; from = omega arith; to = omega arith }

  -- a reached node has a range
  pub Reached-spans : (x : ℕ) → Reached w x → IsIn w x
  Reached-spans x reached =
      let it = spans_below 0 0 top reached.path x (root refl refl refl) reached.leads in
      record { low = it.first; high = it.last; spans = it.spans }

  -- a reached node was not cut out
  pub not_out : (x : ℕ) → Reached w x → ¬ IsOut w x
  not_out x reached out = let it = Reached-spans x reached in out it.low it.high it.spans

  -- the keys of the nodes below a node lie in its range
  pub key_below : (x low high : ℕ) (p : List Bool) (y : ℕ) → Spans w.key w.child top x low high → Leads w x p y
      → (low ≤ w.key y) × (w.key y < high)
  key_below x low high p y spans leads =
      let it = spans_below x low high p y spans leads in
      let own = ordered.within y it.first it.last it.spans in
      let a = it.from in
      let b = it.to in
      let c = own.0 in
      let d = own.1 in
      (omega arith, omega arith)

  -- the walk for a key comes by each node in whose range it lies, and from there on it is the same
  pub OnWalk-up : (k : ℕ) {x y low high : ℕ} → Spans w.key w.child top x low high → low ≤ k → k < high
      → OnWalk w k x y → OnWalk w k 0 y
  OnWalk-up k {y = y} (root e _ _) from to on = subst (λ n. OnWalk w k n y) e on
  OnWalk-up k {y = y} (goes {x = x} {low = low} {high = high} right spans inner e f g) from to on =
      let inside = child_within w.key w.child top ordered x low high right spans in
      let up = inside.0 in
      let down = inside.1 in
      let begins : low_of right low (w.key x) ≤ k = omega arith in
      let ends : k < high_of right high (w.key x) = omega arith in
      let side = side_of w.key w.child top ordered (w.key x) k low high right begins ends in
      OnWalk-up k spans (omega arith) (omega arith)
      (next inner (subst (λ n. OnWalk w k n y) (cc) on))

  -- the key of a reached leaf leads to a leaf of that key and that value
  pub leaf_leads : (x : ℕ) → Reached w x → IsLeaf x → LeadsToValue w (w.key x) (w.value x) 0
  leaf_leads x reached outer =
      leaf_is_met w.key w.child top ordered (Reached-spans x reached).spans outer refl

  -- a key of the tree leads to its leaf, and so with its value
  pub tree_pair_leads : (k value : ℕ) → IsTreePair w k value → LeadsToValue w k value 0
  tree_pair_leads k value held =
      subst (λ n. LeadsToValue w n value 0) held.has (subst (λ v. LeadsToValue w (w.key held.leaf) v 0) held.says (leaf_leads held.leaf held.reached held.outer))

  pub tree_key_leads : (k : ℕ) → IsTreeKey w k → LeadsTo w k 0
  tree_key_leads k held = leads_any w k held.0 0 (tree_pair_leads k held.0 held.1)

  -- from a node on course for a key, what is reached of the walk for it lies on the walk from node 0
  ordinary_joins : (k : ℕ) {x y : ℕ} → OnCourse w.key w.child top k x → OnWalk w k x y → Reached w y → OnWalk w k 0 y
  ordinary_joins k (ranges.here spans from to) on reached = OnWalk-up k spans from to on
  ordinary_joins k {y = y} (ranges.off inner out e rest) (here f) reached =
      absurd (not_out y reached (subst (IsOut w) (sym f) out))
  ordinary_joins k {y = y} (ranges.off inner out e rest) (next _ on) reached =
      ordinary_joins k rest (subst (λ n. OnWalk w k n y) (sym e) on) reached
  ordinary_joins k {y = y} (ranges.dead outer out) (here f) reached =
      absurd (not_out y reached (subst (IsOut w) (sym f) out))
  ordinary_joins k (ranges.dead outer out) (next inner on) reached = absurd (outer inner)

  -- in a flat tree, if the key is in the block of what is reached
  module _ {Born : ℕ → Type 0} (closed : (x : ℕ) (right : Bool) → IsInternal x → Born x → Born (w.child x right))
      (trie : 0 < w.flat_from → IsTrie Born (opening_from w.flat_from) w.key w.child) where
    lacks_walk : (k : ℕ) {x y : ℕ} → Born x → has_block w.flat_from x ≡ true → ¬ IsInBlock w x k → OnWalk w k x y → ¬ IsInBlock w y k
    lacks_walk k born has lacks (here e) there = lacks (subst (λ n. IsInBlock w n k) e there)
    lacks_walk k born has lacks (next {x = x} inner on) there =
        let it = trie (flat_by w.flat_from x has) in
        let right = nat_le (w.key x) k in
        lacks_walk k (closed x right inner born) (has_below w it x right inner born has) (lacks_below w it x right k inner born has lacks) on there

    pub joins_walk : (k : ℕ) {x y : ℕ} → Born x → IsOnCourse w k x → OnWalk w k x y → Reached w y → IsInBlock w y k → OnWalk w k 0 y
    joins_walk k born (ordinary course) on reached there = ordinary_joins k course on reached
    joins_walk k {y = y} born (passes inner out e rest) (here f) reached there =
        absurd (not_out y reached (subst (IsOut w) (sym f) out))
    joins_walk k {y = y} born (passes {x = x} inner out e rest) (next _ on) reached there =
        joins_walk k (subst Born (sym e) (closed x (nat_le (w.key x) k) inner born)) rest (subst (λ n. OnWalk w k n y) (sym e) on) reached there
    joins_walk k born (missed {x = x} inner plain lacks) on reached there =
        absurd (lacks_walk k born (block_by w.flat_from x plain) (λ h. lacks (h.inner inner (block_by w.flat_from x plain))) on there)
    joins_walk k born (strange {x = x} outer plain other) on reached there =
        absurd (lacks_walk k born (block_by w.flat_from x plain) (λ h. other (h.leaf outer (block_by w.flat_from x plain))) on there)

-- a real key that leads to a leaf is a key of the tree, with the leaf's value
pub leads_tree_pair : (w : Words) (k value : ℕ) → k ≤ greatest_key → LeadsToValue w k value 0 → IsTreePair w k value
leads_tree_pair w k value real leads =
    let found = Meets-finds w k value leads in
    record { leaf = found.leaf; reached = OnWalk-below w k found.on; outer = found.outer; has = found.has; says = found.says; real = real }
