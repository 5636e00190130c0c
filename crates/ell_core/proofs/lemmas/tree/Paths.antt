use Rattle.std.proofs.Common.{◌≡◌, ℕ, ◌%◌, ◌<◌, ◌≤◌, ◌⊎◌, inl, inr, Bool, true, false, List, [], ◌∷◌, ◌++◌, arith, refl, ap, subst}
use Rattle.std.proofs.lemmas.Bool.{cases_eq}
use Rattle.std.proofs.lemmas.List.{append_cancel_left}
use Rattle.ell_word.specs.Node.{IsInternal}
use Rattle.ell_layout.specs.Words.{Words, IsLeaf}
use Rattle.ell_core.specs.tree.Tree.{Leads, Below, Reached, IsLawful}
use Rattle.ell_core.specs.tree.Rank.{rank}

-- a node is internal or a leaf
pub internal_or_leaf : (x : ℕ) → IsInternal x ⊎ IsLeaf x
internal_or_leaf x = cases_eq (x % 4) 0

-- a path from x to y and one from y to z make a path from x to z
pub Leads-append : (w : Words) (x y z : ℕ) (p q : List Bool) → Leads w x p y → Leads w y q z → Leads w x (p ++ q) z
Leads-append w x y z [] q first second = subst (λ from. Leads w from q z) first second
Leads-append w x y z (right ∷ p) q first second = (first.0, Leads-append w (w.child x right) y z p q first.1 second)

-- a path from x leads to one node
pub Leads-same : (w : Words) (x y z : ℕ) (p : List Bool) → Leads w x p y → Leads w x p z → y ≡ z
Leads-same w x y z [] first second = cc
Leads-same w x y z (right ∷ p) first second = Leads-same w (w.child x right) y z p first.1 second.1

-- no path but the empty one starts at a leaf
pub Leads-from_leaf : (w : Words) (x y : ℕ) (p : List Bool) → IsLeaf x → Leads w x p y → p ≡ []
Leads-from_leaf w x y [] outer leads = refl
Leads-from_leaf w x y (right ∷ p) outer leads = absurd (outer leads.0)

-- a node is below itself
pub Below-refl : (w : Words) (x : ℕ) → Below w x x
Below-refl w x = record { path = []; leads = refl }

-- what is below a node below x is below x
pub Below-trans : (w : Words) (x y z : ℕ) → Below w x y → Below w y z → Below w x z
Below-trans w x y z first second = record {
  path = first.path ++ second.path;
  leads = Leads-append w x y z first.path second.path first.leads second.leads;
}

-- what is below a child is below the node
pub Below-from_child : (w : Words) (x y : ℕ) (right : Bool) → IsInternal x → Below w (w.child x right) y → Below w x y
Below-from_child w x y right inner below = record { path = right ∷ below.path; leads = (inner, below.leads) }

-- a child is below its node
pub Below-child : (w : Words) (x : ℕ) (right : Bool) → IsInternal x → Below w x (w.child x right)
Below-child w x right inner = Below-from_child w x (w.child x right) right inner (Below-refl w (w.child x right))

-- y is below a child of x
pub record BelowChild (w : Words) (x y : ℕ) : Type 0 where
  pub right : Bool
  pub inner : IsInternal x
  pub below : Below w (w.child x right) y

-- a node below x is x or is below a child of x
pub Below-cases : (w : Words) (x y : ℕ) → Below w x y → (y ≡ x) ⊎ BelowChild w x y
Below-cases w x y below = by_path below.path below.leads
  where
    by_path : (p : List Bool) → Leads w x p y → (y ≡ x) ⊎ BelowChild w x y
    by_path [] leads = inl leads
    by_path (right ∷ p) leads = inr (record { right = right; inner = leads.0; below = record { path = p; leads = leads.1 } })

-- only the leaf itself is below a leaf
pub Below-leaf : (w : Words) (x y : ℕ) → IsLeaf x → Below w x y → y ≡ x
Below-leaf w x y outer below = subst (λ p. Leads w x p y) (Leads-from_leaf w x y below.path outer below.leads) below.leads

-- what is below a reached node is reached
pub Reached-below : (w : Words) (x y : ℕ) → Reached w x → Below w x y → Reached w y
Reached-below w x y reached below = Below-trans w 0 x y reached below

-- a child of a reached node is reached
pub Reached-child : (w : Words) (x : ℕ) (right : Bool) → Reached w x → IsInternal x → Reached w (w.child x right)
Reached-child w x right reached inner = Reached-below w x (w.child x right) reached (Below-child w x right inner)

-- in a lawful tree no node below a reached one has a lesser rank
pub Below-le : (w : Words) → IsLawful w → (x y : ℕ) → Reached w x → Below w x y → rank w x ≤ rank w y
Below-le w lawful x y reached below = by_path x below.path reached below.leads
  where
    by_path : (x : ℕ) (p : List Bool) → Reached w x → Leads w x p y → rank w x ≤ rank w y
    by_path x [] reached leads = let same = ap (rank w) leads in omega arith
    by_path x (right ∷ p) reached leads =
        let up = lawful.rises x right reached leads.0 in
        let rest = by_path (w.child x right) p (Reached-child w x right reached leads.0) leads.1 in
        omega arith

-- in a lawful tree no node is below its child
pub Below-child-lt : (w : Words) → IsLawful w → (x y : ℕ) (right : Bool) → Reached w x → IsInternal x → Below w (w.child x right) y → rank w x < rank w y
Below-child-lt w lawful x y right reached inner below =
    let up = lawful.rises x right reached inner in
    let rest = Below-le w lawful (w.child x right) y (Reached-child w x right reached inner) below in
    omega arith

-- in a lawful tree no node is below both children of a node
pub sides_apart : (w : Words) → IsLawful w → (x y : ℕ) → Reached w x → IsInternal x → Below w (w.child x false) y → Below w (w.child x true) y → ⊥
sides_apart w lawful x y reached inner on_left on_right =
    let to_left : Leads w 0 (reached.path ++ (false ∷ on_left.path)) y =
    Leads-append w 0 x y reached.path (false ∷ on_left.path) reached.leads (inner, on_left.leads) in
    let to_right : Leads w 0 (reached.path ++ (true ∷ on_right.path)) y =
    Leads-append w 0 x y reached.path (true ∷ on_right.path) reached.leads (inner, on_right.leads) in
    let same = lawful.one_path y (reached.path ++ (false ∷ on_left.path)) (reached.path ++ (true ∷ on_right.path)) to_left to_right in
    let parted = append_cancel_left reached.path (false ∷ on_left.path) (true ∷ on_right.path) same in
    cc
