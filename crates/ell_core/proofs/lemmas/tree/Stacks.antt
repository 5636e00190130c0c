use Rattle.std.proofs.Common.{◌≡◌, ◌≢◌, ℕ, ◌+◌, ◌-◌, ◌≤◌, Bool, true, false, List, [], ◌∷◌, ◌++◌, Contains, AllPairs, length, length-append, subst, refl, arith, ⊎_elim}
use Rattle.ell_word.specs.Node.{IsInternal, internal, card}
use Rattle.ell_layout.specs.Words.{Words}
use Rattle.ell_core.specs.tree.Tree.{Leads, Below, Reached, IsLawful}
use Rattle.ell_core.specs.tree.Room.{HasRoom}
use Rattle.ell_core.proofs.lemmas.tree.Pairs.{Contains-none, Contains-cons_cases, AllPairs-cons, AllPairs-single, length-le_from_apart}
use Rattle.ell_core.proofs.lemmas.tree.Paths.{Below-refl, Below-from_child, Reached-child, Below-child-lt, Leads-append}
use Rattle.ell_core.proofs.lemmas.tree.Ranks.{ranked_apart}

-- the cards of the nodes on a path from x
abbrev path_cards : Words → ℕ → List Bool → List ℕ
path_cards w x [] = card x ∷ []
path_cards w x (right ∷ p) = card x ∷ path_cards w (w.child x right) p

-- there is one more of them than the path has sides
path_cards-length : (w : Words) (x : ℕ) (p : List Bool) → length (path_cards w x p) ≡ length p + 1
path_cards-length w x [] = refl
path_cards-length w x (right ∷ p) = let rest = path_cards-length w (w.child x right) p in omega arith

-- where the path leads to an internal node, the internal node of each of the cards is below x
path_cards-only : (w : Words) (x y : ℕ) (p : List Bool) → Leads w x p y → IsInternal y → (c : ℕ) → Contains (path_cards w x p) c
    → Below w x (internal c)
path_cards-only w x y [] leads inner c h = ⊎_elim
    (λ here. let same : x ≡ internal c = omega arith in subst (Below w x) same (Below-refl w x))
    (λ none. absurd (Contains-none c none))
    (Contains-cons_cases (card x) [] c h)
path_cards-only w x y (right ∷ p) leads inner c h = ⊎_elim
    (λ here. let on = leads.0 in let same : x ≡ internal c = omega arith in subst (Below w x) same (Below-refl w x))
    (λ later. Below-from_child w x (internal c) right leads.0 (path_cards-only w (w.child x right) y p leads.1 inner c later))
    (Contains-cons_cases (card x) (path_cards w (w.child x right) p) c h)

-- in a lawful tree no two of them are equal, since ranks rise along the path
path_cards-apart : (w : Words) → IsLawful w → (x y : ℕ) (p : List Bool) → Reached w x → Leads w x p y → IsInternal y
    → AllPairs (λ a b. a ≢ b) (path_cards w x p)
path_cards-apart w lawful x y [] reached leads inner = AllPairs-single (λ a b. a ≢ b) (card x)
path_cards-apart w lawful x y (right ∷ p) reached leads inner =
    let child = w.child x right in
    let on = leads.0 in
    AllPairs-cons (λ a b. a ≢ b) (card x) (path_cards w child p)
    (λ c h same.
    let up = Below-child-lt w lawful x (internal c) right reached on (path_cards-only w child y p leads.1 inner c h) in
    ranked_apart w x (internal c) up (omega arith))
    (path_cards-apart w lawful child y p (Reached-child w x right reached on) leads.1 inner)

-- where there is room, a path to an internal node is short
path_short : (w : Words) (places : ℕ) → IsLawful w → HasRoom w places → (x : ℕ) (p : List Bool) → Leads w 0 p x → IsInternal x
    → length p + 2 ≤ places
path_short w places lawful room x p leads inner =
    let root = Below-refl w 0 in
    let few : length (path_cards w 0 p) ≤ places - 1 =
    length-le_from_apart (path_cards w 0 p) (places - 1) (path_cards-apart w lawful 0 x p root leads inner)
    (λ c h. let most = room (internal c) (path_cards-only w 0 x p leads inner c h) in omega arith) in
    let long = path_cards-length w 0 p in
    let some = room 0 root in
    omega arith

-- a node is low enough for place i of a stack: a path of at least i sides leads to it
pub record IsDeep (w : Words) (i x : ℕ) : Type 0 where
  pub path : List Bool
  pub leads : Leads w 0 path x
  pub far : i ≤ length path

-- the node at place i of the stack, and those after it, are low enough for their places
abbrev pub Stacked : Words → ℕ → List ℕ → Type 0
Stacked w i [] = Unit {0}
Stacked w i (x ∷ xs) = IsDeep w i x × Stacked w (i + 1) xs

-- a place by another name
same_place : {w : Words} {i j x : ℕ} → i ≡ j → IsDeep w i x → IsDeep w j x
same_place {w = w} {x = x} same deep = subst (λ n. IsDeep w n x) same deep

-- node 0 may be put on an empty stack
pub Stacked-begin : (w : Words) → Stacked w 0 (0 ∷ [])
Stacked-begin w = (record { path = []; leads = refl; far = omega arith }, tt)

-- a node that is low enough may be put on top
Stacked-push : (w : Words) (i : ℕ) (xs : List ℕ) (x : ℕ) → Stacked w i xs → IsDeep w (i + length xs) x → Stacked w i (xs ++ x ∷ [])
Stacked-push w i [] x stacked deep = (same_place (omega arith) deep, tt)
Stacked-push w i (y ∷ xs) x stacked deep = (stacked.0, Stacked-push w (i + 1) xs x stacked.1 (same_place (omega arith) deep))

-- what is left of a stack whose top was taken
pub Stacked-rest : (w : Words) (i : ℕ) (xs : List ℕ) (x : ℕ) → Stacked w i (xs ++ x ∷ []) → Stacked w i xs
Stacked-rest w i [] x stacked = tt
Stacked-rest w i (y ∷ xs) x stacked = (stacked.0, Stacked-rest w (i + 1) xs x stacked.1)

-- the top is low enough
Stacked-top : (w : Words) (i : ℕ) (xs : List ℕ) (x : ℕ) → Stacked w i (xs ++ x ∷ []) → IsDeep w (i + length xs) x
Stacked-top w i [] x stacked = same_place (omega arith) stacked.0
Stacked-top w i (y ∷ xs) x stacked = same_place (omega arith) (Stacked-top w (i + 1) xs x stacked.1)

-- a child of a node is low enough for the place after the node's
child_deep : (w : Words) (i x : ℕ) (right : Bool) → IsDeep w i x → IsInternal x → IsDeep w (i + 1) (w.child x right)
child_deep w i x right deep inner =
    let more = length-append deep.path (right ∷ []) in
    let was = deep.far in record {
      path = deep.path ++ right ∷ [];
      leads = Leads-append w 0 x (w.child x right) deep.path (right ∷ []) deep.leads (inner, refl);
      far = omega arith;
    }

-- and for the node's own
child_there : (w : Words) (i x : ℕ) (right : Bool) → IsDeep w i x → IsInternal x → IsDeep w i (w.child x right)
child_there w i x right deep inner =
    let child = child_deep w i x right deep inner in
    let was = child.far in record { path = child.path; leads = child.leads; far = omega arith }

-- both children of an internal node may be put on in its place
pub Stacked-children : (w : Words) (rest : List ℕ) (x : ℕ) → Stacked w 0 (rest ++ x ∷ []) → IsInternal x
    → Stacked w 0 ((rest ++ w.child x true ∷ []) ++ w.child x false ∷ [])
Stacked-children w rest x stacked inner =
    let top = Stacked-top w 0 rest x stacked in
    let more = length-append rest (w.child x true ∷ []) in
    Stacked-push w 0 (rest ++ w.child x true ∷ []) (w.child x false)
    (Stacked-push w 0 rest (w.child x true) (Stacked-rest w 0 rest x stacked) (child_there w (0 + length rest) x true top inner))
    (same_place (omega arith) (child_deep w (0 + length rest) x false top inner))

-- where there is room, two places are free above the nodes that are below an internal node on top
pub Stacked-length : (w : Words) (places : ℕ) → IsLawful w → HasRoom w places → (rest : List ℕ) (x : ℕ)
    → Stacked w 0 (rest ++ x ∷ []) → IsInternal x → length rest + 2 ≤ places
Stacked-length w places lawful room rest x stacked inner =
    let top = Stacked-top w 0 rest x stacked in
    let far = top.far in
    let short = path_short w places lawful room x top.path top.leads inner in
    omega arith
