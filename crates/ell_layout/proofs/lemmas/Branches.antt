use Rattle.std.proofs.Common.{◌≡◌, ◌≢◌, ℕ, zero, suc, ◌+◌, ◌^◌, ◌<◌, ◌≤◌, ◌⊎◌, inl, inr, if◌then◌else◌, refl, sym, ap, ◌∙◌, subst, arith}
use Rattle.std.proofs.Math.Nat.{two-pow-succ}
use Rattle.std.proofs.lemmas.Bool.{cases_lt, cases_eq, eq-eqb, ne_eqb, lt-ltb, le-ltb}
use Rattle.ell_layout.specs.declared.branch.Branch.{Branch}
use Rattle.ell_layout.specs.Balanced.{IsBranch, BranchesAreHalves, TreeIsShallow}
use Rattle.ell_layout.specs.Branches.{left_branch, right_branch, branch_to, descend, root_branch, branch_of}

-- card c is the card of a branch or one of those below it, and the branch has leaves on both sides
pub record Holds (c : ℕ) (b : Branch) : Type 0 where
  pub above : b.card ≤ c
  pub within : c + 1 < b.card + (b.left + b.right)
  pub some_left : 0 < b.left
  pub some_right : 0 < b.right

-- on the way to a card on the left
pub to_left : (c : ℕ) (b : Branch) → c < b.card + b.left → branch_to c b ≡ left_branch b
to_left c b h = ap (λ t. if t then left_branch b else right_branch b) (lt-ltb c (b.card + b.left) h)

-- and on the right
pub to_right : (c : ℕ) (b : Branch) → b.card + b.left ≤ c → branch_to c b ≡ right_branch b
to_right c b h = ap (λ t. if t then left_branch b else right_branch b) (le-ltb c (b.card + b.left) h)

-- a card on the left is below the left branch
holds_left : (c : ℕ) (b : Branch) → Holds c b → b.card < c → c < b.card + b.left → Holds c (left_branch b)
holds_left c b h apart less = record {
  above = omega arith;
  within = omega arith;
  some_left = omega arith;
  some_right = omega arith;
}

-- a card on the right is below the right branch
holds_right : (c : ℕ) (b : Branch) → Holds c b → b.card + b.left ≤ c → Holds c (right_branch b)
holds_right c b h past = let w = h.within in record {
  above = past;
  within = omega arith;
  some_left = omega arith;
  some_right = omega arith;
}

-- what is so of the next branch on the way to a card, if it is so of the left one and of the right one where they come next
pub by_side : (P : Branch → Type 0) (c : ℕ) (b : Branch) → (c < b.card + b.left → P (left_branch b)) → (b.card + b.left ≤ c → P (right_branch b))
    → P (branch_to c b)
by_side P c b left right = elim (cases_lt c (b.card + b.left)) [
  | inl less ↦ subst P (sym (to_left c b less)) (left less)
  | inr past ↦ subst P (sym (to_right c b past)) (right past)
]

-- the next branch on the way to a card has it below, and a greater card than the one before
pub holds_next : (c : ℕ) (b : Branch) → Holds c b → b.card < c → Holds c (branch_to c b)
holds_next c b h apart = by_side (Holds c) c b (λ less. holds_left c b h apart less) (λ past. holds_right c b h past)

pub next_more : (c : ℕ) (b : Branch) → Holds c b → b.card < (branch_to c b).card
next_more c b h = by_side (λ n. b.card < n.card) c b (λ less. omega arith) (λ past. let some = h.some_left in omega arith)

-- one step down
pub down : (n c : ℕ) (b : Branch) → b.card ≢ c → descend (suc n) c b ≡ descend n c (branch_to c b)
unfolding descend
down n c b apart = ap (λ t. if t then b else descend n c (branch_to c b)) (ne_eqb b.card c apart)

-- no step where the card is there
pub there : (n c : ℕ) (b : Branch) → b.card ≡ c → descend n c b ≡ b
unfolding descend
there zero c b e = refl
there (suc n) c b e = ap (λ t. if t then b else descend n c (branch_to c b)) (eq-eqb b.card c e)

-- enough steps come to the card
record Comes (c : ℕ) (b : Branch) : Type 0 where
  is : b.card ≡ c
  holds : Holds c b

comes : (n c : ℕ) (b : Branch) → Holds c b → c ≤ b.card + n → Comes c (descend n c b)
comes zero c b h enough = let up = h.above in let e : b.card ≡ c = omega arith in
    subst (Comes c) (sym (there zero c b e)) (record { is = e; holds = h })
comes (suc n) c b h enough = elim (cases_eq b.card c) [
  | inl e ↦ subst (Comes c) (sym (there (suc n) c b e)) (record { is = e; holds = h })
  | inr apart ↦
      let up = h.above in
      let less : b.card < c = omega arith in
      let more = next_more c b h in
      subst (Comes c) (sym (down n c b apart)) (comes n c (branch_to c b) (holds_next c b h less) (omega arith))
]

-- any number of steps that is enough leads to the same branch
same_end : (n k c : ℕ) (b : Branch) → Holds c b → c ≤ b.card + n → c ≤ b.card + k → descend n c b ≡ descend k c b
same_end zero k c b h enough also = let up = h.above in let e : b.card ≡ c = omega arith in there zero c b e ∙ sym (there k c b e)
same_end (suc n) zero c b h enough also = let up = h.above in let e : b.card ≡ c = omega arith in there (suc n) c b e ∙ sym (there zero c b e)
same_end (suc n) (suc k) c b h enough also = elim (cases_eq b.card c) [
  | inl e ↦ there (suc n) c b e ∙ sym (there (suc k) c b e)
  | inr apart ↦
      let up = h.above in
      let less : b.card < c = omega arith in
      let more = next_more c b h in
      down n c b apart ∙ (same_end n k c (branch_to c b) (holds_next c b h less) (omega arith) (omega arith) ∙ sym (down k c b apart))
]

-- the way to a card below the branch of card c goes by as the way to c does
pub same_next : (c d : ℕ) (b : Branch) → Holds c b → b.card < c → Holds d (branch_to c b) → c ≤ d → branch_to d b ≡ branch_to c b
same_next c d b h apart below after = elim (cases_lt c (b.card + b.left)) [
  | inl less ↦
      let at : Holds d (left_branch b) = subst (Holds d) (to_left c b less) below in
      let w = at.within in
      to_left d b (omega arith) ∙ sym (to_left c b less)
  | inr past ↦ to_right d b (omega arith) ∙ sym (to_right c b past)
]

-- a card below the next branch is below this one
holds_up : (c d : ℕ) (b : Branch) → Holds c b → Holds d (branch_to c b) → c ≤ d → Holds d b
holds_up c d b h below after = elim (cases_lt c (b.card + b.left)) [
  | inl less ↦
      let at : Holds d (left_branch b) = subst (Holds d) (to_left c b less) below in
      let w = at.within in let up = h.above in let some = h.some_right in
      record { above = omega arith; within = omega arith; some_left = h.some_left; some_right = some }
  | inr past ↦
      let at : Holds d (right_branch b) = subst (Holds d) (to_right c b past) below in
      let w = at.within in let up = h.above in
      record { above = omega arith; within = omega arith; some_left = h.some_left; some_right = h.some_right }
]

-- a card below the branch at the end is below the branch at the start
pub holds_before : (n c d : ℕ) (b : Branch) → Holds c b → c ≤ b.card + n → Holds d (descend n c b) → c ≤ d → Holds d b
holds_before zero c d b h enough below after =
    let up = h.above in let e : b.card ≡ c = omega arith in subst (Holds d) (there zero c b e) below
holds_before (suc n) c d b h enough below after = elim (cases_eq b.card c) [
  | inl e ↦ subst (Holds d) (there (suc n) c b e) below
  | inr apart ↦
      let up = h.above in
      let less : b.card < c = omega arith in
      let more = next_more c b h in
      holds_up c d b h (holds_before n c d (branch_to c b) (holds_next c b h less) (omega arith) (subst (Holds d) (down n c b apart) below) after) after
]

-- one step on the way to a card below the branch of card c, where the rest of the way goes by that branch
passes_next : (n c d k l : ℕ) (b : Branch) → Holds c b → b.card ≢ c → c ≤ b.card + suc n → Holds d (descend (suc n) c b) → c ≤ d → d ≤ b.card + k
    → ((k : ℕ) → Holds c (branch_to c b) → c ≤ (branch_to c b).card + n → Holds d (descend n c (branch_to c b)) → d ≤ (branch_to c b).card + k
    → descend k d (branch_to c b) ≡ descend l d (descend n c (branch_to c b)))
    → descend k d b ≡ descend l d (descend (suc n) c b)
passes_next n c d zero l b h apart enough below after far rest = let up = h.above in absurd (omega arith)
passes_next n c d (suc k) l b h apart enough below after far rest =
    let up = h.above in
    let less : b.card < c = omega arith in
    let more = next_more c b h in
    let next = holds_next c b h less in
    let end : Holds d (descend n c (branch_to c b)) = subst (Holds d) (down n c b apart) below in
    let there_too = holds_before n c d (branch_to c b) next (omega arith) end after in
    down k d b (omega arith)
    ∙ (ap (descend k d) (same_next c d b h less there_too after)
    ∙ (rest k next (omega arith) end (omega arith)
    ∙ sym (ap (descend l d) (down n c b apart))))

-- the way to a card below the branch of card c goes by that branch
passes : (n c d k l : ℕ) (b : Branch) → Holds c b → c ≤ b.card + n → Holds d (descend n c b) → c ≤ d → d ≤ b.card + k → d ≤ c + l
    → descend k d b ≡ descend l d (descend n c b)
passes zero c d k l b h enough below after far near =
    let up = h.above in let e : b.card ≡ c = omega arith in
    same_end k l d b (subst (Holds d) (there zero c b e) below) far (omega arith) ∙ sym (ap (descend l d) (there zero c b e))
passes (suc n) c d k l b h enough below after far near = elim (cases_eq b.card c) [
  | inl e ↦ same_end k l d b (subst (Holds d) (there (suc n) c b e) below) far (omega arith) ∙ sym (ap (descend l d) (there (suc n) c b e))
  | inr apart ↦ passes_next n c d k l b h apart enough below after far
      (λ k next enough end far. passes n c d k l (branch_to c b) next enough end after far near)
]

-- the leaves of a branch, and its cards, end before a number
pub record BranchEnds (end : ℕ) (b : Branch) : Type 0 where
  pub leaves : b.first + (b.left + b.right) ≤ end
  pub cards : b.card + (b.left + b.right) ≤ end

-- so do those of the branches on the way down
ends_within : (end n c : ℕ) (b : Branch) → Holds c b → BranchEnds end b → BranchEnds end (descend n c b)
unfolding descend
ends_within end zero c b h ends = ends
ends_within end (suc n) c b h ends = elim (cases_eq b.card c) [
  | inl e ↦ subst (BranchEnds end) (sym (there (suc n) c b e)) ends
  | inr apart ↦
      let up = h.above in
      let less : b.card < c = omega arith in
      let some = h.some_right in
      let leaves = ends.leaves in
      let cards = ends.cards in
      subst (BranchEnds end) (sym (down n c b apart))
      (ends_within end n c (branch_to c b) (holds_next c b h less)
      (by_side (BranchEnds end) c b (λ on_left. record { leaves = omega arith; cards = omega arith }) (λ past. record { leaves = omega arith; cards = omega arith })))
]

-- the branches where the root has so many leaves on its left, of which there are some
module _ (leaves : ℕ) (some : 0 < leaves) where
  -- the root has every card below the number of leaves below it
  pub root_holds : (c : ℕ) → c < leaves → Holds c (root_branch leaves)
  root_holds c below = record { above = omega arith; within = omega arith; some_left = some; some_right = omega arith }

  -- a card's branch is of that card, and has leaves on both sides
  branch_comes : (c : ℕ) → c < leaves → Comes c (branch_of leaves c)
  branch_comes c below = comes c c (root_branch leaves) (root_holds c below) (omega arith)

  pub branch_card : (c : ℕ) → c < leaves → (branch_of leaves c).card ≡ c
  branch_card c below = (branch_comes c below).is

  pub branch_holds : (c : ℕ) → c < leaves → Holds c (branch_of leaves c)
  branch_holds c below = (branch_comes c below).holds

  -- a card below another's branch has the branch to which the way leads from there
  branch_below : (c d l : ℕ) → c < leaves → Holds d (branch_of leaves c) → c ≤ d → d ≤ c + l → branch_of leaves d ≡ descend l d (branch_of leaves c)
  branch_below c d l below holds after near =
      passes c c d d l (root_branch leaves) (root_holds c below) (omega arith) holds after (omega arith) near

  -- the branch of the card after a card's own that has more than one leaf on its left
  pub branch_left : (c : ℕ) → c < leaves → 1 < (branch_of leaves c).left → branch_of leaves (c + 1) ≡ left_branch (branch_of leaves c)
  branch_left c below more =
      let b = branch_of leaves c in
      let is : b.card ≡ c = branch_card c below in
      let h = branch_holds c below in
      let some_right = h.some_right in
      branch_below c (c + 1) 1 below (record { above = omega arith; within = omega arith; some_left = h.some_left; some_right = some_right }) (omega arith) (omega arith)
      ∙ (down 0 (c + 1) b (omega arith) ∙ (there 0 (c + 1) (branch_to (c + 1) b) (ap (λ (n : Branch). n.card) (to_left (c + 1) b (omega arith)) ∙ ap (λ n. n + 1) is)
      ∙ to_left (c + 1) b (omega arith)))

  -- and the branch on the right where it has more than one leaf there
  pub branch_right : (c : ℕ) → c < leaves → 1 < (branch_of leaves c).right → branch_of leaves (c + (branch_of leaves c).left) ≡ right_branch (branch_of leaves c)
  branch_right c below more =
      let b = branch_of leaves c in
      let is : b.card ≡ c = branch_card c below in
      let h = branch_holds c below in
      let some_left = h.some_left in
      let d = c + b.left in
      branch_below c d (suc b.left) below (record { above = omega arith; within = omega arith; some_left = some_left; some_right = h.some_right }) (omega arith) (omega arith)
      ∙ (down b.left d b (omega arith) ∙ (there b.left d (branch_to d b) (ap (λ (n : Branch). n.card) (to_right d b (omega arith)) ∙ ap (λ n. n + b.left) is)
      ∙ to_right d b (omega arith)))

  -- the leaves and the cards of a card's branch are among those of the root
  branch_ends : (c : ℕ) → c < leaves → BranchEnds (leaves + 1) (branch_of leaves c)
  branch_ends c below = ends_within (leaves + 1) c c (root_branch leaves) (root_holds c below) (record { leaves = omega arith; cards = omega arith })

  pub branch_within : (c : ℕ) → c < leaves → (branch_of leaves c).first + ((branch_of leaves c).left + (branch_of leaves c).right) ≤ leaves + 1
  branch_within c below = (branch_ends c below).leaves

  pub cards_within : (c : ℕ) → c < leaves → c + ((branch_of leaves c).left + (branch_of leaves c).right) ≤ leaves + 1
  cards_within c below = let is = branch_card c below in let ends = (branch_ends c below).cards in omega arith

  -- the card above another one
  pub record Above (c : ℕ) : Type 0 where
    pub card : ℕ
    pub less : card < c
    pub side : ((c ≡ card + 1) × (1 < (branch_of leaves card).left)) ⊎ ((c ≡ card + (branch_of leaves card).left) × (1 < (branch_of leaves card).right))

  -- there is one on the way down from any branch
  above_from : (n c : ℕ) (b : Branch) → Holds c b → b.card < c → c < leaves → c ≤ b.card + n → b ≡ branch_of leaves b.card → Above c
  above_from zero c b h less below enough is = absurd (omega arith)
  above_from (suc n) c b h less below enough is =
      let d = b.card in
      let same_left : (branch_of leaves d).left ≡ b.left = ap (λ (n : Branch). n.left) (sym is) in
      let same_right : (branch_of leaves d).right ≡ b.right = ap (λ (n : Branch). n.right) (sym is) in
      elim (cases_lt c (d + b.left)) [
        | inl on_left ↦ elim (cases_eq c (d + 1)) [
          | inl e ↦ record { card = d; less = less; side = inl (e, omega arith) }
          | inr apart ↦ above_from n c (left_branch b) (holds_left c b h less on_left) (omega arith) below (omega arith)
              (ap left_branch is ∙ sym (branch_left d (omega arith) (omega arith)))
        ]
        | inr past ↦ let w = h.within in elim (cases_eq c (d + b.left)) [
          | inl e ↦ record { card = d; less = less; side = inr (e ∙ ap (λ n. d + n) (sym same_left), omega arith) }
          | inr apart ↦ let some = h.some_left in above_from n c (right_branch b) (holds_right c b h past) (omega arith) below (omega arith)
              (ap right_branch is ∙ (sym (branch_right d (omega arith) (omega arith)) ∙ ap (λ n. branch_of leaves (d + n)) same_left))
        ]
      ]

  -- every card but the root's has one above
  pub above : (c : ℕ) → c < leaves → 0 < c → Above c
  unfolding descend
  above c below past = above_from c c (root_branch leaves) (root_holds c below) past below (omega arith) refl

  -- what the law says of it
  is_branch : (c : ℕ) → c < leaves → IsBranch leaves c (branch_of leaves c)
  is_branch c below =
      let h = branch_holds c below in
      let within = branch_within c below in
      let cards = cards_within c below in
      record {
        card = branch_card c below;
        some_left = h.some_left;
        some_right = h.some_right;
        leaves_within = omega arith;
        cards_within = omega arith;
        left = branch_left c below;
        right = branch_right c below;
      }

pub branches_are_halves : BranchesAreHalves
branches_are_halves leaves c below = is_branch leaves (omega arith) c below

-- where the leaves on each side are at most 2 ^ n, n steps come to the card
shallow : (n c : ℕ) (b : Branch) → Holds c b → b.left ≤ 2 ^ n → b.right ≤ 2 ^ n → (descend n c b).card ≡ c
unfolding descend
shallow zero c b h left right = let up = h.above in let within = h.within in omega arith
shallow (suc n) c b h left right = elim (cases_eq b.card c) [
  | inl e ↦ ap (λ (n : Branch). n.card) (there (suc n) c b e) ∙ e
  | inr apart ↦
      let up = h.above in
      let less : b.card < c = omega arith in
      let twice = two-pow-succ n in
      ap (λ (n : Branch). n.card) (down n c b apart)
      ∙ shallow n c (branch_to c b) (holds_next c b h less)
      (by_side (λ next. next.left ≤ 2 ^ n) c b (λ on_left. omega arith) (λ past. omega arith))
      (by_side (λ next. next.right ≤ 2 ^ n) c b (λ on_left. omega arith) (λ past. omega arith))
]

-- steps that come to the card lead where any number of steps leads that is enough
comes_to_end : (n k c : ℕ) (b : Branch) → Holds c b → (descend n c b).card ≡ c → c ≤ b.card + k → descend n c b ≡ descend k c b
unfolding descend
comes_to_end zero k c b h is enough = sym (there k c b is)
comes_to_end (suc n) zero c b h is enough = let up = h.above in let e : b.card ≡ c = omega arith in there (suc n) c b e
comes_to_end (suc n) (suc k) c b h is enough = elim (cases_eq b.card c) [
  | inl e ↦ there (suc n) c b e ∙ sym (there (suc k) c b e)
  | inr apart ↦
      let up = h.above in
      let less : b.card < c = omega arith in
      let more = next_more c b h in
      down n c b apart
      ∙ (comes_to_end n k c (branch_to c b) (holds_next c b h less) (sym (ap (λ (n : Branch). n.card) (down n c b apart)) ∙ is) (omega arith)
      ∙ sym (down k c b apart))
]

pub tree_is_shallow : TreeIsShallow
tree_is_shallow n leaves c below few =
    let some : 0 < leaves = omega arith in
    let holds = root_holds leaves some c below in
    let one : 1 ≤ 2 ^ n = omega arith in
    comes_to_end n c c (root_branch leaves) holds (shallow n c (root_branch leaves) holds few one) (omega arith)

-- a branch on the way from the root to a card
pub record OnWay (leaves c : ℕ) (b : Branch) : Type 0 where
  pub holds : Holds c b
  pub ends : BranchEnds (leaves + 1) b
  pub way : descend c c b ≡ branch_of leaves c

-- the root is one
pub way_starts : (leaves c : ℕ) → c < leaves → OnWay leaves c (root_branch leaves)
way_starts leaves c below = record {
  holds = root_holds leaves (omega arith) c below;
  ends = record { leaves = omega arith; cards = omega arith };
  way = refl;
}

-- so is the next one
way_on : (leaves c : ℕ) (b : Branch) → OnWay leaves c b → b.card ≢ c → BranchEnds (leaves + 1) (branch_to c b) → OnWay leaves c (branch_to c b)
way_on leaves c b h apart ends =
    let holds = h.holds in
    let up = holds.above in
    let less : b.card < c = omega arith in
    record {
      holds = holds_next c b holds less;
      ends = ends;
      way = sym (down c c b apart) ∙ (same_end (suc c) c c b holds (omega arith) (omega arith) ∙ h.way);
    }

-- on the left
pub way_left : (leaves c : ℕ) (b : Branch) → OnWay leaves c b → b.card ≢ c → c < b.card + b.left → OnWay leaves c (left_branch b)
way_left leaves c b h apart less =
    let some = h.holds.some_right in
    let leaves_end = h.ends.leaves in
    let cards_end = h.ends.cards in
    let ends : BranchEnds (leaves + 1) (left_branch b) = record { leaves = omega arith; cards = omega arith } in
    subst (OnWay leaves c) (to_left c b less) (way_on leaves c b h apart (subst (BranchEnds (leaves + 1)) (sym (to_left c b less)) ends))

-- and on the right
pub way_right : (leaves c : ℕ) (b : Branch) → OnWay leaves c b → b.card ≢ c → b.card + b.left ≤ c → OnWay leaves c (right_branch b)
way_right leaves c b h apart past =
    let leaves_end = h.ends.leaves in
    let cards_end = h.ends.cards in
    let ends : BranchEnds (leaves + 1) (right_branch b) = record { leaves = omega arith; cards = omega arith } in
    subst (OnWay leaves c) (to_right c b past) (way_on leaves c b h apart (subst (BranchEnds (leaves + 1)) (sym (to_right c b past)) ends))

-- the one of the card is where it leads
pub way_ends : (leaves c : ℕ) (b : Branch) → OnWay leaves c b → b.card ≡ c → b ≡ branch_of leaves c
way_ends leaves c b h is = sym (there c c b is) ∙ h.way
