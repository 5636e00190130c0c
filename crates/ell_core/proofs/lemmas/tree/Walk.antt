use Rattle.std.proofs.Common.{◌≡◌, ℕ, ◌+◌, ◌<◌, ◌≤◌, true, false, List, [], ◌∷◌, ◌++◌, All, Some, length, arith, refl, ap, ap₂, sym, subst, ◌∙◌, append_assoc, append-nil, length-append}
use Rattle.std.proofs.lemmas.List.Elements.{All-nil, All-push, All-pop}
use Rattle.std.proofs.lemmas.Map.Entries.{length-keys_of}
use Rattle.std.specs.Map.{keys_of}
use Rattle.ell_ops.specs.Meaning.{greatest_key}
use Rattle.ell_word.specs.Node.{IsInternal}
use Rattle.ell_layout.specs.Words.{Words, IsLeaf}
use Rattle.ell_core.specs.tree.Rank.{rank}
use Rattle.ell_core.specs.tree.Tree.{Reached, IsLawful, ListsTreePairs}
use Rattle.ell_core.specs.tree.Room.{HasRoom, HoldsKeys}
use Rattle.ell_core.proofs.lemmas.tree.Paths.{Below-refl, Reached-child}
use Rattle.ell_core.proofs.lemmas.tree.Nodes.{nodes_below, nodes_below-leaf, nodes_below-inner, nodes_below-more, fuel_for, ranks_inside}
use Rattle.ell_core.proofs.lemmas.tree.RealPairs.{real_pairs, real_pairs-none, real_pairs-inner, real_pairs-real, real_pairs-infinite, ListsTreePairs-all, ListsKeys-of_pairs}
use Rattle.ell_core.proofs.lemmas.tree.Stacks.{Stacked, Stacked-begin, Stacked-rest, Stacked-children, Stacked-length}

-- the nodes below those of a stack, whose last node is its top, in the order in which the walk comes to them
unfoldable pub pending : Words → ℕ → List ℕ → List ℕ
pending w n [] = []
pending w n (x ∷ waiting) = pending w n waiting ++ nodes_below w n x

-- an empty stack has no node to come
pub pending-none : (w : Words) (n : ℕ) → pending w n [] ≡ []
unfolding pending
pending-none w n = refl

-- the nodes below the top of a stack come first
pub pending-push : (w : Words) (n : ℕ) (waiting : List ℕ) (x : ℕ) → pending w n (waiting ++ x ∷ []) ≡ nodes_below w n x ++ pending w n waiting
unfolding pending
pending-push w n [] x = sym (append-nil (nodes_below w n x))
pending-push w n (y ∷ waiting) x =
    ap (λ nodes. nodes ++ nodes_below w n y) (pending-push w n waiting x)
    ∙ append_assoc (nodes_below w n x) (pending w n waiting) (nodes_below w n y)

-- a walk is right: its pairs, and those of the nodes to come, are the pairs of all nodes below node 0
pub record Walked (w : Words) (places : ℕ) (waiting : List ℕ) (pairs : List (ℕ × ℕ)) : Type 0 where
  pub reached : All (Reached w) waiting
  pub stacked : Stacked w 0 waiting
  pub listed : pairs ++ real_pairs w (pending w (fuel_for w places) waiting) ≡ real_pairs w (nodes_below w (fuel_for w places) 0)

-- a turn leaves the walk right, with fewer nodes to come
pub record Turned (w : Words) (places : ℕ) (old waiting : List ℕ) (pairs : List (ℕ × ℕ)) : Type 0 where
  pub walked : Walked w places waiting pairs
  pub less : length (pending w (fuel_for w places) waiting) < length (pending w (fuel_for w places) old)

-- a lawful tree, and so many places on the stack
module _ (w : Words) (places : ℕ) (lawful : IsLawful w) (room : HasRoom w places) where
  -- fuel enough for the tree
  abbrev fuel : ℕ
  fuel = fuel_for w places

  -- the rank of each reached node is less
  inside : (x : ℕ) → Reached w x → rank w x < fuel
  inside = ranks_inside w places room

  -- the walk begins with node 0 on its stack
  pub Walked-begin : Walked w places (0 ∷ []) []
  Walked-begin =
      let whole = pending-push w fuel [] 0 ∙ ap (λ nodes. nodes_below w fuel 0 ++ nodes) (pending-none w fuel) ∙ append-nil (nodes_below w fuel 0) in record {
        reached = All-push (Reached w) [] 0 (All-nil (Reached w)) (Below-refl w 0);
        stacked = Stacked-begin w;
        listed = ap (real_pairs w) whole;
      }

  -- the node on top is reached
  pub Walked-top : (x : ℕ) (old rest : List ℕ) (pairs : List (ℕ × ℕ)) → Walked w places old pairs → old ≡ rest ++ x ∷ [] → Reached w x
  Walked-top x old rest pairs walked taken = (All-pop (Reached w) old rest (Some x) taken walked.reached).1

  -- the nodes under it are reached
  Walked-rest : (x : ℕ) (old rest : List ℕ) (pairs : List (ℕ × ℕ)) → Walked w places old pairs → old ≡ rest ++ x ∷ [] → All (Reached w) rest
  Walked-rest x old rest pairs walked taken = (All-pop (Reached w) old rest (Some x) taken walked.reached).0

  -- a turn takes x off the stack, before the rest of the nodes below x
  turn : (x : ℕ) (old rest waiting nodes : List ℕ) (pairs more : List (ℕ × ℕ)) → Walked w places old pairs → old ≡ rest ++ x ∷ [] →
      nodes_below w fuel x ≡ x ∷ nodes → pending w fuel waiting ≡ nodes ++ pending w fuel rest →
      more ++ real_pairs w (nodes ++ pending w fuel rest) ≡ pairs ++ real_pairs w (x ∷ (nodes ++ pending w fuel rest)) →
      All (Reached w) waiting → Stacked w 0 waiting → Turned w places old waiting more
  turn x old rest waiting nodes pairs more walked on_stack top left same reached stacked =
      let taken = ap (pending w fuel) on_stack ∙ pending-push w fuel rest x ∙ ap (λ ns. ns ++ pending w fuel rest) top in
      let taken_count = ap length taken in
      let left_count = ap length left in record {
        walked = record {
          reached = reached;
          stacked = stacked;
          listed = ap (λ ns. more ++ real_pairs w ns) left ∙ same ∙ ap (λ ns. pairs ++ real_pairs w ns) (sym taken) ∙ walked.listed;
        };
        less = omega arith;
      }

  -- the turn at an internal node puts its children on the stack, the left one on top
  pub Turned-inner : (x : ℕ) (old rest : List ℕ) (pairs : List (ℕ × ℕ)) → Walked w places old pairs → old ≡ rest ++ x ∷ [] → IsInternal x →
      Turned w places old ((rest ++ w.child x true ∷ []) ++ w.child x false ∷ []) pairs
  Turned-inner x old rest pairs walked taken inner =
      let reached = Walked-top x old rest pairs walked taken in
      let lefts = nodes_below w fuel (w.child x false) in
      let rights = nodes_below w fuel (w.child x true) in
      turn x old rest ((rest ++ w.child x true ∷ []) ++ w.child x false ∷ []) (lefts ++ rights) pairs pairs walked taken
      (nodes_below-more w fuel lawful inside fuel x reached (omega arith) ∙ nodes_below-inner w fuel x inner)
      (pending-push w fuel (rest ++ w.child x true ∷ []) (w.child x false) ∙ ap (λ ns. lefts ++ ns) (pending-push w fuel rest (w.child x true))
      ∙ sym (append_assoc lefts rights (pending w fuel rest)))
      (ap (λ ps. pairs ++ ps) (sym (real_pairs-inner w x ((lefts ++ rights) ++ pending w fuel rest) inner)))
      (All-push (Reached w) (rest ++ w.child x true ∷ []) (w.child x false)
      (All-push (Reached w) rest (w.child x true) (Walked-rest x old rest pairs walked taken) (Reached-child w x true reached inner))
      (Reached-child w x false reached inner))
      (Stacked-children w rest x (subst (Stacked w 0) taken walked.stacked) inner)

  -- the turn at a leaf takes its pairs, if that is what they are
  at_leaf : (x : ℕ) (old rest : List ℕ) (pairs more : List (ℕ × ℕ)) → Walked w places old pairs → old ≡ rest ++ x ∷ [] → IsLeaf x →
      more ++ real_pairs w (pending w fuel rest) ≡ pairs ++ real_pairs w (x ∷ pending w fuel rest) → Turned w places old rest more
  at_leaf x old rest pairs more walked taken outer same =
      turn x old rest rest [] pairs more walked taken
      (nodes_below-more w fuel lawful inside fuel x (Walked-top x old rest pairs walked taken) (omega arith) ∙ nodes_below-leaf w fuel x outer) refl same
      (Walked-rest x old rest pairs walked taken) (Stacked-rest w 0 rest x (subst (Stacked w 0) taken walked.stacked))

  -- the turn at a leaf of a real key takes the key with the leaf's value
  pub Turned-real : (x key value : ℕ) (old rest : List ℕ) (pairs : List (ℕ × ℕ)) → Walked w places old pairs → old ≡ rest ++ x ∷ [] → IsLeaf x →
      key ≡ w.key x → value ≡ w.value x → key ≤ greatest_key → Turned w places old rest (pairs ++ (key, value) ∷ [])
  Turned-real x key value old rest pairs walked taken outer is says low =
      at_leaf x old rest pairs (pairs ++ (key, value) ∷ []) walked taken outer
      (append_assoc pairs ((key, value) ∷ []) (real_pairs w (pending w fuel rest)) ∙ ap₂ (λ k v. pairs ++ (k, v) ∷ real_pairs w (pending w fuel rest)) is says
      ∙ ap (λ ps. pairs ++ ps) (sym (real_pairs-real w x (pending w fuel rest) outer (omega arith))))

  -- the turn at a leaf of an infinite key takes none
  pub Turned-infinite : (x key : ℕ) (old rest : List ℕ) (pairs : List (ℕ × ℕ)) → Walked w places old pairs → old ≡ rest ++ x ∷ [] → IsLeaf x →
      key ≡ w.key x → greatest_key < key → Turned w places old rest pairs
  Turned-infinite x key old rest pairs walked taken outer is above =
      at_leaf x old rest pairs pairs walked taken outer
      (ap (λ ps. pairs ++ ps) (sym (real_pairs-infinite w x (pending w fuel rest) outer (omega arith))))

  -- where the stack is empty, the walk has the keys of the tree with their values
  pub Walked-over : (pairs : List (ℕ × ℕ)) → Walked w places [] pairs → ListsTreePairs w pairs
  Walked-over pairs walked =
      subst (ListsTreePairs w)
      (sym walked.listed ∙ ap (λ ns. pairs ++ real_pairs w ns) (pending-none w fuel) ∙ ap (λ ps. pairs ++ ps) (real_pairs-none w) ∙ append-nil pairs)
      (ListsTreePairs-all w fuel lawful inside)

  -- a walk has no more pairs than the tree has keys
  pub Walked-length : (waiting : List ℕ) (pairs : List (ℕ × ℕ)) (most : ℕ) → Walked w places waiting pairs → HoldsKeys w most → length pairs ≤ most
  Walked-length waiting pairs most walked holds =
      let nodes = nodes_below w fuel 0 in
      let all = holds (keys_of (real_pairs w nodes)) (ListsKeys-of_pairs w (real_pairs w nodes) (ListsTreePairs-all w fuel lawful inside)) in
      let same = length-keys_of (real_pairs w nodes) in
      let whole = ap length walked.listed in
      let parts = length-append pairs (real_pairs w (pending w fuel waiting)) in
      omega arith

  -- there is room for both children of a node that was on top
  pub Walked-room : (x : ℕ) (old rest : List ℕ) (pairs : List (ℕ × ℕ)) → Walked w places old pairs → old ≡ rest ++ x ∷ [] → IsInternal x →
      length rest + 2 ≤ places
  Walked-room x old rest pairs walked taken inner =
      Stacked-length w places lawful room rest x (subst (Stacked w 0) taken walked.stacked) inner
