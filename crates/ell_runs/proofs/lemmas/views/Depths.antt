use Rattle.std.proofs.Common.{◌≡◌, ℕ, ◌+◌, ◌≤◌, ◌==◌, if◌then◌else◌, max, Bool, true, false, List, [], ◌∷◌, refl, sym, ap, ◌∙◌, subst, inl, inr, true≢false, ◌||◌, arith, eq-eqb, eqb-true, Option, Some, None}
use Rattle.std.proofs.Math.Nat.{le-max_left, le-max_right}
use Rattle.std.proofs.lemmas.Option.{same_Some}
use Rattle.ell_layout.specs.declared.field.Field.TheVariants as field
use Rattle.ell_runs.specs.declared.view.Told.{Told}
use Rattle.ell_runs.specs.declared.view.Told.TheVariants.{Met, Depth, Key, Value, Info, Expects, Frozen}
use Rattle.ell_runs.specs.declared.view.View.{View}
use Rattle.ell_core.specs.state.Facts.{known_of}
use Rattle.ell_core.specs.declared.fact.Fact.TheVariants.{DFlagged, Marked}
use Rattle.ell_runs.specs.Changes.{depth_there}
use Rattle.ell_runs.specs.Views.{Has, latest, earlier, IsTold, KnowsDelete}
use Rattle.ell_runs.specs.Depths.{depth_told, depth_below, depth_under, met_at, tells_grandparent_of, most_depth, depth_of, IsShallow}

-- no depth that was told of a node is more than the one that it has by all of them
pub depth_at_least : (told : List Told) (x d : ℕ) → Has told (Depth x d) → d ≤ depth_told told x
depth_at_least [] x d none = elim none [ ]
depth_at_least (_ ∷ es) x d (latest _ _) =
    subst (λ t. d ≤ (if t then max d (depth_told es x) else depth_told es x)) (sym (eq-eqb x x refl)) (le-max_left d (depth_told es x))
depth_at_least (e ∷ es) x d (earlier _ _ _ h) = by e (depth_at_least es x d h)
  where
    by : (e : Told) → d ≤ depth_told es x → d ≤ depth_told (e ∷ es) x
    by (Depth y n) rest = at (y == x)
      where
        at : (b : Bool) → d ≤ (if b then max n (depth_told es x) else depth_told es x)
        at true = (let more = le-max_right n (depth_told es x) in omega arith)
        at false = rest
    by (Met y) rest = rest
    by (Key y n) rest = rest
    by (Value y n) rest = rest
    by (Info c f n) rest = rest
    by (Expects c tag) rest = rest
    by (Frozen c right n) rest = rest

-- the greater of two numbers is no more than what both are no more than
max_within : (a b most : ℕ) → a ≤ most → b ≤ most → max a b ≤ most
max_within a b most first second = omega arith

-- and it is no more than what none of them is more than
pub depth_at_most : (told : List Told) (x most : ℕ) → ((d : ℕ) → Has told (Depth x d) → d ≤ most) → depth_told told x ≤ most
depth_at_most [] x most each = omega arith
depth_at_most (e ∷ es) x most each = by e each (depth_at_most es x most (λ d h. each d (earlier (Depth x d) e es h)))
  where
    by : (e : Told) → ((d : ℕ) → Has (e ∷ es) (Depth x d) → d ≤ most) → depth_told es x ≤ most → depth_told (e ∷ es) x ≤ most
    by (Depth y n) all rest = at (y == x) refl
      where
        at : (b : Bool) → (y == x) ≡ b → (if b then max n (depth_told es x) else depth_told es x) ≤ most
        at true same =
            max_within n (depth_told es x) most (all n (subst (λ z. Has (Depth y n ∷ es) (Depth z n)) (eqb-true y x same) (latest (Depth y n) es))) rest
        at false other = rest
    by (Met y) all rest = rest
    by (Key y n) all rest = rest
    by (Value y n) all rest = rest
    by (Info c f n) all rest = rest
    by (Expects c tag) all rest = rest
    by (Frozen c right n) all rest = rest

-- who was told more was told no lesser depth
pub depth_more : (old new : List Told) → ((e : Told) → Has old e → Has new e) → (x : ℕ) → depth_told old x ≤ depth_told new x
depth_more old new more x = depth_at_most old x (depth_told new x) (λ d h. depth_at_least new x d (more (Depth x d) h))

-- what was told is still told where a node was met
pub met_more : (depth x : ℕ) (told : List Told) (e : Told) → Has told e → Has (met_at depth x told) e
met_more depth x told e h = earlier e (Met x) (Depth x depth ∷ told) (earlier e (Depth x depth) told h)

-- and so are the node, and its depth
pub met_there : (depth x : ℕ) (told : List Told) → Has (met_at depth x told) (Met x)
met_there depth x told = latest (Met x) (Depth x depth ∷ told)

pub met_deep : (depth x : ℕ) (told : List Told) → depth ≤ depth_told (met_at depth x told) x
met_deep depth x told = depth_at_least (met_at depth x told) x depth (earlier (Depth x depth) (Met x) (Depth x depth ∷ told) (latest (Depth x depth) told))

-- a node is deeper than each that an entry tells to be above it
pub under_at_least : (such : Told → Option ℕ) (told es : List Told) (e : Told) (y : ℕ) → Has es e → such e ≡ Some y
    → depth_told told y + 1 ≤ depth_under such told es
under_at_least such told [] e y none is = elim none [ ]
under_at_least such told (_ ∷ es) e y (latest _ _) is =
    let first = ap (depth_below told) is in
    let more = le-max_left (depth_below told (such e)) (depth_under such told es) in
    omega arith
under_at_least such told (d ∷ es) e y (earlier _ _ _ h) is =
    let rest = under_at_least such told es e y h is in
    let more = le-max_right (depth_below told (such d)) (depth_under such told es) in
    omega arith

-- and no deeper than a step below them
pub under_at_most : (such : Told → Option ℕ) (told es : List Told) (most : ℕ)
    → ((e : Told) (y : ℕ) → Has es e → such e ≡ Some y → depth_told told y + 1 ≤ most) → depth_under such told es ≤ most
under_at_most such told [] most each = omega arith
under_at_most such told (d ∷ es) most each =
    max_within (depth_below told (such d)) (depth_under such told es) most (by (such d) refl)
    (under_at_most such told es most (λ e y h is. each e y (earlier e d es h) is))
  where
    by : (o : Option ℕ) → such d ≡ o → depth_below told o ≤ most
    by None is = omega arith
    by (Some y) is = each d y (latest d es) is

-- the entry that tells the grandparent of a card
pub grandparent_is : (c : ℕ) (e : Told) (gp : ℕ) → tells_grandparent_of c e ≡ Some gp → e ≡ Info c field.Gp gp
grandparent_is c (Info d field.Gp x) gp e = by (d == c) refl e
  where
    by : (b : Bool) → (d == c) ≡ b → (if b then Some x else None) ≡ Some gp → Info d field.Gp x ≡ Info c field.Gp gp
    by true same is = (let card = eqb-true d c same in let at = same_Some x gp is in cc)
    by false other is = absurd cc
grandparent_is c _ gp e = absurd cc

-- a node of which no depth was told but such as internal nodes and leaves may have
pub told_shallow : (deepest : ℕ) (v : View) (x : ℕ) → ((d : ℕ) → IsTold v (Depth x d) → d ≤ most_depth deepest x) → IsShallow deepest v x
told_shallow deepest v x each =
    let most = depth_at_most v.told x (most_depth deepest x) each in
    record { inner = λ inner. omega arith; any = omega arith }

-- who goes down from a node comes to a deeper one
pub went_deeper : (v w after : View) (x y z : ℕ) → w ≡ after → y ≡ z → after.told ≡ met_at (depth_of v x + 1) y v.told
    → depth_of v x + 1 ≤ depth_of w z
went_deeper v w after x y z view says told =
    subst (λ n. depth_of v x + 1 ≤ depth_of w n) says
    (subst (λ ts. depth_of v x + 1 ≤ depth_told ts y) (sym (ap (λ (u : View). u.told) view ∙ told)) (met_deep (depth_of v x + 1) y v.told))

-- the parent of a delete's card is deeper than the grandparent
pub parent_deeper : (v : View) (c gp : ℕ) → KnowsDelete v c → IsTold v (Info c field.Gp gp) → depth_of v gp + 1 ≤ depth_there v c field.P
parent_deeper v c gp knows told = by (known_of v.worker.knows (DFlagged c)) (known_of v.worker.knows (Marked c)) refl refl
  where
    under : depth_of v gp + 1 ≤ depth_under (tells_grandparent_of c) v.told v.told
    under = under_at_least (tells_grandparent_of c) v.told v.told (Info c field.Gp gp) gp told (ap (λ b. if b then Some gp else None) (eq-eqb c c refl))

    by : (a b : Bool) → known_of v.worker.knows (DFlagged c) ≡ a → known_of v.worker.knows (Marked c) ≡ b
        → depth_of v gp + 1 ≤ (if a || b then depth_under (tells_grandparent_of c) v.told v.told else 0)
    by true b flagged marked = under
    by false true flagged marked = under
    by false false flagged marked = elim knows [
      | inl is ↦ absurd (true≢false (sym is ∙ flagged))
      | inr is ↦ absurd (true≢false (sym is ∙ marked))
    ]
