use Rattle.std.proofs.Common.{◌≡◌, ℕ, ◌+◌, ◌-◌, ◌%◌, ◌==◌, ◌<◌, ◌≤◌, if◌then◌else◌, Bool, true, false, List, [], ◌∷◌, length, inl, inr, sym, ap, ◌∙◌, subst, arith}
use Rattle.std.proofs.lemmas.Bool.{cases_eq, cases_Bool, false≢true, eq-eqb, ne_eqb}
use Rattle.ell_word.specs.Node.{IsInternal}
use Rattle.ell_trie.specs.Ranges.{Spans, root, goes, IsOrdered}
use Rattle.ell_block.specs.Blocks.{InBlockOf}
use Rattle.ell_trie.specs.Halves.{InHalfOf, InsideOf}
use Rattle.ell_trie.specs.Ranks.{bit_of, rank_by, rank_of}
use Rattle.ell_trie.specs.Tries.{Opening, IsTrie, InnerPath, PathsAreShort, TriesAreShallow}
use Rattle.ell_trie.proofs.lemmas.Middles.{bit_is, bit_below, middle_there, half_middle, half_there, inside_falls, inside_inside, inside_half}

-- z is x or below it
pub data Under (child : ℕ → Bool → ℕ) (x : ℕ) : ℕ → Type 0 where
  here : {z : ℕ} → z ≡ x → Under child x z
  next : {z y : ℕ} (u : Bool) → Under child x z → IsInternal z → y ≡ child z u → Under child x y

module _ (o : Opening) (key : ℕ → ℕ) (x : ℕ) where
  pub rank_open : o.holds x ≡ true → IsInternal x → rank_of o key x ≡ o.depth x
  unfolding rank_of
  rank_open e i = ap (λ b. rank_by o.most (x % 4 == 0) b (o.depth x) (bit_of (key x))) e
      ∙ ap (λ b. if b then o.depth x else o.most + 65) (eq-eqb (x % 4) 0 i)

  rank_inner : o.holds x ≡ false → IsInternal x → rank_of o key x ≡ o.most + (64 - bit_of (key x))
  unfolding rank_of
  rank_inner e i = ap (λ b. rank_by o.most (x % 4 == 0) b (o.depth x) (bit_of (key x))) e
      ∙ ap (λ b. if b then o.most + (64 - bit_of (key x)) else o.most + 65) (eq-eqb (x % 4) 0 i)

  pub rank_leaf : ¬ IsInternal x → rank_of o key x ≡ o.most + 65
  unfolding rank_of
  rank_leaf i = ap (λ b. rank_by o.most b (o.holds x) (o.depth x) (bit_of (key x))) (ne_eqb (x % 4) 0 i) ∙ elim (cases_Bool (o.holds x)) [
    | inl e ↦ ap (λ b. rank_by o.most false b (o.depth x) (bit_of (key x))) e
    | inr e ↦ ap (λ b. rank_by o.most false b (o.depth x) (bit_of (key x))) e
  ]

  pub rank_most : (IsInternal x → o.holds x ≡ true → o.depth x ≤ o.most) → IsInternal x → rank_of o key x ≤ o.most + 64
  rank_most few i = elim (cases_Bool (o.holds x)) [
    | inl up ↦ (let a = rank_open up i in let most = few i up in omega arith)
    | inr e ↦ (let a = rank_inner e i in omega arith)
  ]

module _ {Born : ℕ → Type 0} {o : Opening} {key : ℕ → ℕ} {child : ℕ → Bool → ℕ} (trie : IsTrie Born o key child) where
  -- the key of an internal node that is not of the opening tree is the middle of a block
  pub is_branch : (x : ℕ) → IsInternal x → Born x → o.holds x ≡ false → InBlockOf (key x) (key x)
  is_branch x i born plain = elim (cases_eq (child x true % 4) 0) [
    | inl j ↦ (let inside = trie.inner x true i born plain j in middle_there inside.outer_block inside.outer_middle)
    | inr j ↦ half_middle (trie.leaf x true i born plain j)
  ]

  -- the key of a child is in the block of its parent
  pub key_below : (z : ℕ) (u : Bool) → IsInternal z → Born z → o.holds z ≡ false → InBlockOf (key z) (key (child z u))
  key_below z u i born plain = elim (cases_eq (child z u % 4) 0) [
    | inl j ↦ half_there (inside_half (trie.inner z u i born plain j) (is_branch (child z u) j (trie.closed z u i born) (trie.plain z u i born plain)))
    | inr j ↦ half_there (trie.leaf z u i born plain j)
  ]

  -- the bit of its block is below 64
  bit_low : (x : ℕ) → IsInternal x → Born x → o.holds x ≡ false → bit_of (key x) < 64
  bit_low x i born plain = bit_below (key x) 64 (is_branch x i born plain) (trie.small x i born plain)

  -- bits fall along paths
  path_falls : (path : List Bool) (x y : ℕ) → Born x → o.holds x ≡ false → IsInternal x → IsInternal y → InnerPath child x path y
      → length path + bit_of (key y) ≤ bit_of (key x)
  path_falls [] x y born plain i j e = let same = ap (λ n. bit_of (key n)) e in omega arith
  path_falls (t ∷ []) x y born plain i j (_, e) =
      let less = inside_falls (trie.inner x t i born plain (ap (λ n. n % 4) (sym e) ∙ j)) in
      let same = ap (λ n. bit_of (key n)) e in omega arith
  path_falls (t ∷ (u ∷ path)) x y born plain i j (_, (k, rest)) =
      let less = inside_falls (trie.inner x t i born plain k) in
      let more = path_falls (u ∷ path) (child x t) y (trie.closed x t i born) (trie.plain x t i born plain) k j (k, rest) in
      omega arith

  -- ranks rise
  rises_open : (x : ℕ) (t : Bool) → IsInternal x → Born x → o.holds (child x t) ≡ true → IsInternal (child x t)
      → rank_of o key x < rank_of o key (child x t)
  rises_open x t i born held j = elim (cases_Bool (o.holds x)) [
    | inl up ↦ (let a = rank_open o key x up i in let b = rank_open o key (child x t) held j in let less = trie.deeper x t i born held j in omega arith)
    | inr plain ↦ absurd (false≢true (sym (trie.plain x t i born plain) ∙ held))
  ]

  rises_inner : (x : ℕ) (t : Bool) → IsInternal x → Born x → o.holds (child x t) ≡ false → IsInternal (child x t)
      → rank_of o key x < rank_of o key (child x t)
  rises_inner x t i born plain j =
      let b = rank_inner o key (child x t) plain j in
      let low = bit_low (child x t) j (trie.closed x t i born) plain in
      elim (cases_Bool (o.holds x)) [
        | inl up ↦ (let a = rank_open o key x up i in let most = trie.few x i up in omega arith)
        | inr e ↦ (let a = rank_inner o key x e i in let less = inside_falls (trie.inner x t i born e j) in let mine = bit_low x i born e in omega arith)
      ]

  rises_leaf : (x : ℕ) (t : Bool) → IsInternal x → ¬ IsInternal (child x t) → rank_of o key x < rank_of o key (child x t)
  rises_leaf x t i j = let b = rank_leaf o key (child x t) j in let most = rank_most o key x (trie.few x) i in omega arith

  pub rank_rises : (x : ℕ) (t : Bool) → IsInternal x → Born x → rank_of o key x < rank_of o key (child x t)
  rank_rises x t i born = elim (cases_eq (child x t % 4) 0) [
    | inr j ↦ rises_leaf x t i j
    | inl j ↦ elim (cases_Bool (o.holds (child x t))) [
      | inl held ↦ rises_open x t i born held j
      | inr plain ↦ rises_inner x t i born plain j
    ]
  ]

  path_rises : (path : List Bool) (x y : ℕ) → Born x → InnerPath child x path y → rank_of o key x + length path ≤ rank_of o key y
  path_rises [] x y born e = let same = ap (rank_of o key) e in omega arith
  path_rises (t ∷ path) x y born (i, rest) =
      let one = rank_rises x t i born in
      let more = path_rises path (child x t) y (trie.closed x t i born) rest in omega arith

  -- nodes that are reached were born
  pub spans_born : {top x low high : ℕ} → Spans key child top x low high → Born x
  spans_born (root e f g) = subst Born (sym e) trie.start
  spans_born (goes {x = x} t r i e f g) = subst Born (sym e) (trie.closed x t i (spans_born r))

  -- a trie whose keys are in their ranges is in order by that rank
  pub in_order : {top : ℕ} → ((x low high : ℕ) → Spans key child top x low high → (low ≤ key x) × (key x < high))
      → ((x low high : ℕ) → Spans key child top x low high → IsInternal x → low < key x) → IsOrdered key child top (rank_of o key)
  in_order within proper = record { within = within; proper = proper; rising = λ x low high t r i. rank_rises x t i (spans_born r) }

  -- what is below a node that is not of the opening tree was born, and is not of it
  pub under_plain : {x z : ℕ} → Born x → o.holds x ≡ false → Under child x z → Born z × (o.holds z ≡ false)
  under_plain born plain (here e) = (subst Born (sym e) born, ap o.holds e ∙ plain)
  under_plain born plain (next {z = z} u below i e) =
      let b = under_plain born plain below in
      (subst Born (sym e) (trie.closed z u i b.0), ap o.holds e ∙ trie.plain z u i b.0 b.1)

  -- the blocks of internal nodes below a node are in the half in which that node's is
  pub under_inside : {x z outer : ℕ} {half : Bool} → Born x → o.holds x ≡ false → InsideOf (key x) outer half → Under child x z → IsInternal z
      → InsideOf (key z) outer half
  under_inside {outer = outer} {half = half} born plain inside (here e) j = subst (λ n. InsideOf (key n) outer half) (sym e) inside
  under_inside {outer = outer} {half = half} born plain inside (next {z = z} u below i e) j =
      let b = under_plain born plain below in
      let inner : IsInternal (child z u) = ap (λ n. n % 4) (sym e) ∙ j in
      subst (λ n. InsideOf (key n) outer half) (sym e) (inside_inside (trie.inner z u i b.0 b.1 inner) (under_inside born plain inside below i))

  -- and so are the keys of all nodes below it
  pub under_half : {x z outer : ℕ} {half : Bool} → Born x → o.holds x ≡ false → InsideOf (key x) outer half → IsInternal x → Under child x z
      → InHalfOf outer half (key z)
  under_half {outer = outer} {half = half} born plain inside inner (here e) =
      subst (λ n. InHalfOf outer half (key n)) (sym e) (inside_half inside (middle_there inside.inner_block inside.inner_middle))
  under_half {outer = outer} {half = half} born plain inside inner (next {z = z} u below i e) =
      let b = under_plain born plain below in
      let at_z = under_inside born plain inside below i in
      subst (λ n. InHalfOf outer half (key n)) (sym e) (inside_half at_z (key_below z u i b.0 b.1))

-- a trie is one also where other leaves count as born
pub same_born : {Born BornAfter : ℕ → Type 0} {o : Opening} {key : ℕ → ℕ} {child : ℕ → Bool → ℕ}
    → ((x : ℕ) → IsInternal x → BornAfter x → Born x) → ((x : ℕ) → Born x → BornAfter x) → IsTrie Born o key child → IsTrie BornAfter o key child
same_born before later trie = record {
  start = later 0 trie.start;
  closed = λ x t i b. later _ (trie.closed x t i (before x i b));
  plain = λ x t i b. trie.plain x t i (before x i b);
  deeper = λ x t i b. trie.deeper x t i (before x i b);
  few = trie.few;
  small = λ x i b. trie.small x i (before x i b);
  leaf = λ x t i b. trie.leaf x t i (before x i b);
  inner = λ x t i b. trie.inner x t i (before x i b);
}

pub paths_are_short : PathsAreShort
paths_are_short born o key child trie path x y upper lower is_born plain i j leads is_upper is_lower =
    let falls = path_falls trie path x y is_born plain i j leads in
    let high = bit_is (key x) upper is_upper in let low = bit_is (key y) lower is_lower in
    omega arith

-- from node 0 ranks rise to that of an internal node at most
pub inner_path_short : {Born : ℕ → Type 0} {o : Opening} {key : ℕ → ℕ} {child : ℕ → Bool → ℕ} → IsTrie Born o key child
    → (path : List Bool) (y : ℕ) → IsInternal y → InnerPath child 0 path y → length path ≤ o.most + 64
inner_path_short {o = o} {key = key} trie path y j leads =
    let all = path_rises trie path 0 y trie.start leads in let most = rank_most o key y (trie.few y) j in omega arith

pub tries_are_shallow : TriesAreShallow
tries_are_shallow born o key child trie path y j leads = inner_path_short trie path y j leads
