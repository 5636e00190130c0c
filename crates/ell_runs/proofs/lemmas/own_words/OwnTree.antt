use Rattle.std.proofs.Common.{◌≡◌, ℕ, ◌%◌, ◌≤◌, ◌↔◌, nat_le, Bool, true, false, List, [], ◌∷◌, refl, sym, ap, ◌∙◌, subst, arith}
use Rattle.ell_core.proofs.lemmas.stages.LaterKeys.{start_there}
use Rattle.ell_ops.specs.Meaning.{greatest_key}
use Rattle.ell_word.specs.Node.{IsInternal, card, right_leaf}
use Rattle.ell_layout.specs.declared.field.Field.TheVariants.{Update}
use Rattle.ell_layout.specs.Words.{Words, key_field, value_field, child_field, IsLeaf}
use Rattle.ell_layout.specs.Cards.{child_for}
use Rattle.ell_core.specs.tree.Tree.{OnWalk, here, next, Finds, Leads, Below, Reached, IsTreeKey, HasGrandparent, LeftIsLawful, IsLawful}
use Rattle.ell_core.specs.history.Stages.{Stages, waits, Born}
use Rattle.ell_core.specs.history.Invariant.{WordsAreSound}
use Rattle.ell_core.specs.history.Later.{SaysTheSame}
use Rattle.ell_core.specs.statements.Effects.{SamePairs}
use Rattle.ell_core.proofs.lemmas.stages.Order.{born_is_node}
use Rattle.ell_layout.proofs.lemmas.Writes.{internal_at_node, key_at_node, value_at_leaf, child_at_node, update_at_node}
use Rattle.ell_core.proofs.lemmas.stages.Waiting.{born-settled}
use Rattle.ell_core.specs.tree.Flat.{IsInBlock}
use Rattle.ell_core.proofs.lemmas.tree.Blocks.{in_block-same}
use Rattle.ell_core.proofs.lemmas.tree.Ranks.{rank_same}

-- trees of the same keys with the same values have the same keys
pub same_keys : (old new : Words) → SamePairs old new → (k : ℕ) → IsTreeKey new k ↔ IsTreeKey old k
same_keys old new same k = (
  λ h. (h.0, (same k h.0).0 h.1),
  λ h. (h.0, (same k h.0).1 h.1),
)

-- sound words w, and others, t, that say the same at each card that does not wait
module _ (w t : Words) (stage : Stages) (sound : WordsAreSound w stage) (same : (c : ℕ) → waits (stage c) ≡ false → SaysTheSame w t c) where
  -- a node that came into the tree is as it was
  at_card : (x : ℕ) → Born stage x → SaysTheSame w t (card x)
  at_card x born = same (card x) (born-settled (stage (card x)) (x % 4) born)

  pub key_same : (x : ℕ) → Born stage x → t.key x ≡ w.key x
  key_same x born = let node = born_is_node stage x born in
      key_at_node t x node ∙ ((at_card x born).words (key_field (x % 4)) ∙ sym (key_at_node w x node))

  pub value_same : (x : ℕ) → IsLeaf x → Born stage x → t.value x ≡ w.value x
  value_same x outer born = let node = born_is_node stage x born in
      value_at_leaf t x node outer ∙ ((at_card x born).words (value_field (x % 4)) ∙ sym (value_at_leaf w x node outer))

  pub child_same : (x : ℕ) (right : Bool) → IsInternal x → Born stage x → t.child x right ≡ w.child x right
  child_same x right inner born =
      child_at_node t x right inner ∙ ((at_card x born).words (child_field right) ∙ sym (child_at_node w x right inner))

  pub tag_same : (x : ℕ) (right : Bool) → IsInternal x → Born stage x → t.tag x right ≡ w.tag x right
  tag_same x right inner born =
      ap (λ n. t.tag n right) (internal_at_node x inner) ∙ ((at_card x born).tags right ∙ sym (ap (λ n. w.tag n right) (internal_at_node x inner)))

  pub update_same : (x : ℕ) → IsInternal x → Born stage x → t.update x ≡ w.update x
  update_same x inner born = update_at_node t x inner ∙ ((at_card x born).words Update ∙ sym (update_at_node w x inner))

  -- the root came into the tree, and so do children
  pub root_born : Born stage 0
  root_born = start_there w stage sound 0 (omega arith) refl

  pub child_born : (x : ℕ) (right : Bool) → IsInternal x → Born stage x → Born stage (w.child x right)
  child_born x right inner born = (sound.children x inner born).born right

  -- the same paths lead on
  pub leads_on : (x : ℕ) → Born stage x → (p : List Bool) (y : ℕ) → Leads w x p y → Leads t x p y
  leads_on x born [] y h = h
  leads_on x born (right ∷ p) y h = (
    h.0,
    subst (λ n. Leads t n p y) (sym (child_same x right h.0 born)) (leads_on (w.child x right) (child_born x right h.0 born) p y h.1),
  )

  pub leads_back : (x : ℕ) → Born stage x → (p : List Bool) (y : ℕ) → Leads t x p y → Leads w x p y
  leads_back x born [] y h = h
  leads_back x born (right ∷ p) y h = (
    h.0,
    leads_back (w.child x right) (child_born x right h.0 born) p y (subst (λ n. Leads t n p y) (child_same x right h.0 born) h.1),
  )

  -- what they lead to came into the tree
  leads_born : (x : ℕ) → Born stage x → (p : List Bool) (y : ℕ) → Leads w x p y → Born stage y
  leads_born x born [] y h = subst (Born stage) (sym h) born
  leads_born x born (right ∷ p) y h = leads_born (w.child x right) (child_born x right h.0 born) p y h.1

  -- what is below a node
  below_on : (x : ℕ) → Born stage x → (y : ℕ) → Below w x y → Below t x y
  below_on x born y h = record { path = h.path; leads = leads_on x born h.path y h.leads }

  below_back : (x : ℕ) → Born stage x → (y : ℕ) → Below t x y → Below w x y
  below_back x born y h = record { path = h.path; leads = leads_back x born h.path y h.leads }

  below_born : (x : ℕ) → Born stage x → (y : ℕ) → Below t x y → Born stage y
  below_born x born y h = leads_born x born h.path y (leads_back x born h.path y h.leads)

  -- what is reached
  pub reached_same : (x : ℕ) → Reached w x ↔ Reached t x
  reached_same x = (below_on 0 root_born x, below_back 0 root_born x)

  pub reached_born : (x : ℕ) → Reached t x → Born stage x
  reached_born = below_born 0 root_born

  -- the same walks go on
  next_same : (k x : ℕ) → IsInternal x → Born stage x → child_for t k x ≡ child_for w k x
  next_same k x inner born = ap (λ n. t.child x (nat_le n k)) (key_same x born) ∙ child_same x (nat_le (w.key x) k) inner born

  walk_on : (k : ℕ) {x y : ℕ} → Born stage x → OnWalk w k x y → OnWalk t k x y
  walk_on k born (here e) = here e
  walk_on k {x = x} {y = y} born (next inner rest) =
      next inner (subst (λ n. OnWalk t k n y) (sym (next_same k x inner born)) (walk_on k (child_born x (nat_le (w.key x) k) inner born) rest))

  walk_back : (k : ℕ) {x y : ℕ} → Born stage x → OnWalk t k x y → OnWalk w k x y
  walk_back k born (here e) = here e
  walk_back k {x = x} {y = y} born (next inner rest) =
      let same = next_same k x inner born in
      next inner (subst (λ n. OnWalk w k n y) same
      (walk_back k (subst (Born stage) (sym same) (child_born x (nat_le (w.key x) k) inner born)) rest))

  -- to nodes that came into the tree
  walk_born : (k : ℕ) {x y : ℕ} → Born stage x → OnWalk w k x y → Born stage y
  walk_born k born (here e) = subst (Born stage) (sym e) born
  walk_born k {x = x} born (next inner rest) = walk_born k (child_born x (nat_le (w.key x) k) inner born) rest

  -- the same keys are found, with the same values
  pub finds_same : (k value x : ℕ) → Born stage x → Finds w k value x ↔ Finds t k value x
  finds_same k value x born = (
    λ h. let there = walk_born k born h.on in record {
      leaf = h.leaf;
      on = walk_on k born h.on;
      outer = h.outer;
      has = key_same h.leaf there ∙ h.has;
      says = value_same h.leaf h.outer there ∙ h.says;
    },
    λ h. let on = walk_back k born h.on in let there = walk_born k born on in record {
      leaf = h.leaf;
      on = on;
      outer = h.outer;
      has = sym (key_same h.leaf there) ∙ h.has;
      says = sym (value_same h.leaf h.outer there) ∙ h.says;
    },
  )

  -- walks join the one from the root as before
  pub joins_same : t.flat_from ≡ w.flat_from → (k x : ℕ) → Born stage x → ((y : ℕ) → OnWalk w k x y → Reached w y → IsInBlock w y k → OnWalk w k 0 y)
      → (y : ℕ) → OnWalk t k x y → Reached t y → IsInBlock t y k → OnWalk t k 0 y
  joins_same flat k x born h y on reached there =
      let was = walk_back k born on in
      walk_on k root_born (h y was (below_back 0 root_born y reached) (in_block-same t w y k (sym flat) (sym (key_same y (walk_born k born was))) there))

  -- the trees have the same keys with the same values
  pub pairs_same : SamePairs t w
  pairs_same k value = (
    λ h. let there = leads_born 0 root_born h.reached.path h.leaf h.reached.leads in record {
      leaf = h.leaf;
      reached = below_on 0 root_born h.leaf h.reached;
      outer = h.outer;
      has = key_same h.leaf there ∙ h.has;
      says = value_same h.leaf h.outer there ∙ h.says;
      real = h.real;
    },
    λ h. let there = reached_born h.leaf h.reached in record {
      leaf = h.leaf;
      reached = below_back 0 root_born h.leaf h.reached;
      outer = h.outer;
      has = sym (key_same h.leaf there) ∙ h.has;
      says = sym (value_same h.leaf h.outer there) ∙ h.says;
      real = h.real;
    },
  )

  -- what is below a child
  child_back : (x : ℕ) (right : Bool) → IsInternal x → Born stage x → (y : ℕ) → Below t (t.child x right) y
      → Below w (w.child x right) y × Born stage y
  child_back x right inner born y h =
      let there = subst (λ n. Below t n y) (child_same x right inner born) h in
      let on = child_born x right inner born in
      (below_back (w.child x right) on y there, below_born (w.child x right) on y there)

  -- a node deep below the root
  deep_on : (x : ℕ) → HasGrandparent w x → HasGrandparent t x
  deep_on x h = record {
    grandparent = h.grandparent;
    reached = below_on 0 root_born h.grandparent h.reached;
    first = h.first;
    second = h.second;
    leads = leads_on h.grandparent (leads_born 0 root_born h.reached.path h.grandparent h.reached.leads) (h.first ∷ h.second ∷ []) x h.leads;
  }

  -- the left part of a lawful tree
  left_lawful : LeftIsLawful w → LeftIsLawful t
  left_lawful h =
      let child = child_born 0 false refl root_born in
      let is = child_same 0 false refl root_born in record {
        last = h.last;
        there = subst (λ n. Below t n h.last) (sym is) (below_on (w.child 0 false) child h.last h.there);
        outer = h.outer;
        last_key = key_same h.last (leads_born (w.child 0 false) child h.there.path h.last h.there.leads) ∙ h.last_key;
        real = λ x below outer other.
            let b = child_back 0 false refl root_born x below in
            subst (λ n. n ≤ greatest_key) (sym (key_same x b.1)) (h.real x b.0 outer other);
        deep = λ x below outer other. deep_on x (h.deep x (child_back 0 false refl root_born x below).0 outer other);
      }

  -- the tree is lawful
  pub lawful_same : t.flat_from ≡ w.flat_from → IsLawful w → IsLawful t
  lawful_same flat h = record {
    rises = λ x right reached inner.
        let born = reached_born x reached in
        let up = h.rises x right (below_back 0 root_born x reached) inner in
        let here = rank_same w t x x refl flat (key_same x born) in
        let there = rank_same w t (w.child x right) (t.child x right) (child_same x right inner born) flat
        (ap t.key (child_same x right inner born) ∙ key_same (w.child x right) (child_born x right inner born)) in
        omega arith;
    one_path = λ x p q first second. h.one_path x p q (leads_back 0 root_born p x first) (leads_back 0 root_born q x second);
    left_less = λ x y reached inner below.
        let born = reached_born x reached in
        let b = child_back x false inner born y below in
        let less = h.left_less x y (below_back 0 root_born x reached) inner b.0 in
        let one = key_same x born in
        let two = key_same y b.1 in
        omega arith;
    right_more = λ x y reached inner below.
        let born = reached_born x reached in
        let b = child_back x true inner born y below in
        let more = h.right_more x y (below_back 0 root_born x reached) inner b.0 in
        let one = key_same x born in
        let two = key_same y b.1 in
        omega arith;
    root_key = key_same 0 root_born ∙ h.root_key;
    root_right = child_same 0 true refl root_born ∙ h.root_right;
    right_key = key_same (right_leaf 0) (start_there w stage sound (right_leaf 0) (omega arith) refl) ∙ h.right_key;
    left = left_lawful h.left;
  }
