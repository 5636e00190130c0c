use Rattle.std.proofs.Common.{◌≡◌, ◌≢◌, ℕ, zero, suc, ◌+◌, ◌-◌, ◌/◌, ◌^◌, ◌<◌, ◌≤◌, inl, inr, if◌then◌else◌, refl, sym, ap, ◌∙◌, subst, arith}
use Rattle.std.proofs.Math.Nat.{two-pow-succ}
use Rattle.std.proofs.lemmas.Bool.{cases_lt, cases_eq, eq-eqb, ne_eqb, lt-ltb, le-ltb}
use Rattle.ell_layout.specs.declared.branch.Branch.{Branch}
use Rattle.ell_layout.specs.Balanced.{DepthsRise, DepthsAreFew, GreatestDepthIsSmall}
use Rattle.ell_layout.specs.Branches.{branch_to, descend, steps_to, root_branch, branch_of, depth_of, halvings_of}
use Rattle.ell_layout.proofs.lemmas.Branches.{Holds, to_left, to_right, by_side, holds_next, next_more, down, there, same_next, holds_before, root_holds, branch_card, branch_holds}

-- no step where the card is there
stays : (n c : ℕ) (b : Branch) → b.card ≡ c → steps_to n c b ≡ 0
unfolding steps_to
stays zero c b e = refl
stays (suc n) c b e = ap (λ t. if t then 0 else suc (steps_to n c (branch_to c b))) (eq-eqb b.card c e)

-- no step of none at most
no_step : (c : ℕ) (b : Branch) → steps_to 0 c b ≡ 0
unfolding steps_to
no_step c b = refl

-- one step more than from the next branch on the way
one_more : (n c : ℕ) (b : Branch) → b.card ≢ c → steps_to (suc n) c b ≡ suc (steps_to n c (branch_to c b))
unfolding steps_to
one_more n c b apart = ap (λ t. if t then 0 else suc (steps_to n c (branch_to c b))) (ne_eqb b.card c apart)

-- one step where the next branch on the way is the card's
one_step : (n c : ℕ) (b : Branch) → b.card ≢ c → (branch_to c b).card ≡ c → steps_to (suc n) c b ≡ 1
one_step n c b apart is = one_more n c b apart ∙ ap suc (stays n c (branch_to c b) is)

-- the steps are as many whatever the limit on them, if it is enough
same_steps : (n k c : ℕ) (b : Branch) → Holds c b → c ≤ b.card + n → c ≤ b.card + k → steps_to n c b ≡ steps_to k c b
same_steps zero k c b h enough also = let up = h.above in let e : b.card ≡ c = omega arith in stays zero c b e ∙ sym (stays k c b e)
same_steps (suc n) zero c b h enough also = let up = h.above in let e : b.card ≡ c = omega arith in stays (suc n) c b e ∙ sym (stays zero c b e)
same_steps (suc n) (suc k) c b h enough also = elim (cases_eq b.card c) [
  | inl e ↦ stays (suc n) c b e ∙ sym (stays (suc k) c b e)
  | inr apart ↦
      let up = h.above in
      let less : b.card < c = omega arith in
      let more = next_more c b h in
      one_more n c b apart ∙ (ap suc (same_steps n k c (branch_to c b) (holds_next c b h less) (omega arith) (omega arith)) ∙ sym (one_more k c b apart))
]

-- the way to a card from card c's own branch is as long as both parts of it
adds_here : (n c d k l : ℕ) (b : Branch) → b.card ≡ c → Holds d (descend n c b) → d ≤ b.card + k → d ≤ c + l
    → steps_to k d b ≡ steps_to n c b + steps_to l d (descend n c b)
adds_here n c d k l b e below far near =
    let none = stays n c b e in
    let end = there n c b e in
    let same = same_steps k l d b (subst (Holds d) end below) far (omega arith) in
    let rest = ap (steps_to l d) end in
    omega arith

-- and so is the way to a card below the branch of card c, from a branch above
adds : (n c d k l : ℕ) (b : Branch) → Holds c b → c ≤ b.card + n → Holds d (descend n c b) → c ≤ d → d ≤ b.card + k → d ≤ c + l
    → steps_to k d b ≡ steps_to n c b + steps_to l d (descend n c b)
adds zero c d k l b h enough below after far near = let up = h.above in adds_here zero c d k l b (omega arith) below far near
adds (suc n) c d zero l b h enough below after far near = let up = h.above in adds_here (suc n) c d zero l b (omega arith) below far near
adds (suc n) c d (suc k) l b h enough below after far near = elim (cases_eq b.card c) [
  | inl e ↦ adds_here (suc n) c d (suc k) l b e below far near
  | inr apart ↦
      let up = h.above in
      let less : b.card < c = omega arith in
      let more = next_more c b h in
      let next = holds_next c b h less in
      let end : Holds d (descend n c (branch_to c b)) = subst (Holds d) (down n c b apart) below in
      let same = ap (steps_to k d) (same_next c d b h less (holds_before n c d (branch_to c b) next (omega arith) end after) after) in
      let rest = adds n c d k l (branch_to c b) next (omega arith) end after (omega arith) near in
      let first = one_more n c b apart in
      let whole = one_more k d b (omega arith) in
      let last = ap (steps_to l d) (down n c b apart) in
      omega arith
]

-- a card whose branch is the next one below card c's is one deeper
deeper : (leaves c d : ℕ) → c < leaves → Holds d (branch_of leaves c) → c < d → (branch_to d (branch_of leaves c)).card ≡ d
    → depth_of leaves d ≡ depth_of leaves c + 1
deeper leaves c d below holds after is =
    let some : 0 < leaves = omega arith in
    let card = branch_card leaves some c below in
    adds c c d d (suc d) (root_branch leaves) (root_holds leaves some c below) (omega arith) holds (omega arith) (omega arith) (omega arith)
    ∙ ap (λ n. depth_of leaves c + n) (one_step d d (branch_of leaves c) (omega arith) is)

pub depths_rise : DepthsRise
depths_rise leaves c below =
    let some : 0 < leaves = omega arith in
    let b = branch_of leaves c in
    let is : b.card ≡ c = branch_card leaves some c below in
    let h = branch_holds leaves some c below in
    let some_left = h.some_left in
    let some_right = h.some_right in
    record {
      left = λ more. deeper leaves c (c + 1) below (record { above = omega arith; within = omega arith; some_left = some_left; some_right = some_right })
          (omega arith) (ap (λ (n : Branch). n.card) (to_left (c + 1) b (omega arith)) ∙ ap (λ n. n + 1) is);
      right = λ more. deeper leaves c (c + b.left) below (record { above = omega arith; within = omega arith; some_left = some_left; some_right = some_right })
          (omega arith) (ap (λ (n : Branch). n.card) (to_right (c + b.left) b (omega arith)) ∙ ap (λ n. n + b.left) is);
    }

-- the root is not below any
pub depth_root : (leaves : ℕ) → depth_of leaves 0 ≡ 0
depth_root leaves = no_step 0 (root_branch leaves)

-- no halving of none at most
no_halving : (leaves : ℕ) → halvings_of 0 leaves ≡ 0
unfolding halvings_of
no_halving leaves = refl

-- nor of at most one leaf
one_left : (n leaves : ℕ) → leaves ≤ 1 → halvings_of n leaves ≡ 0
unfolding halvings_of
one_left zero leaves few = refl
one_left (suc n) leaves few = ap (λ t. if t then suc (halvings_of n (leaves - leaves / 2)) else 0) (le-ltb 1 leaves few)

-- one halving more than of half the leaves
halved_again : (n leaves : ℕ) → 1 < leaves → halvings_of (suc n) leaves ≡ suc (halvings_of n (leaves - leaves / 2))
unfolding halvings_of
halved_again n leaves more = ap (λ t. if t then suc (halvings_of n (leaves - leaves / 2)) else 0) (lt-ltb 1 leaves more)

-- where so many leaves at most are on each side, the steps to a card are at most as many as the halvings of them
few_steps : (m n c most : ℕ) (b : Branch) → Holds c b → b.left ≤ most → b.right ≤ most → most ≤ m + 1 → steps_to n c b ≤ halvings_of m most
few_steps zero n c most b h left right enough =
    let up = h.above in
    let within = h.within in
    let none = stays n c b (omega arith) in
    omega arith
few_steps (suc m) zero c most b h left right enough = let none = no_step c b in omega arith
few_steps (suc m) (suc n) c most b h left right enough = elim (cases_eq b.card c) [
  | inl e ↦ let none = stays (suc n) c b e in omega arith
  | inr apart ↦
      let up = h.above in
      let within = h.within in
      let less : b.card < c = omega arith in
      let more : 1 < most = omega arith in
      let first = one_more n c b apart in
      let halving = halved_again m most more in
      let rest = few_steps m n c (most - most / 2) (branch_to c b) (holds_next c b h less)
      (by_side (λ next. next.left ≤ most - most / 2) c b (λ on_left. omega arith) (λ past. omega arith))
      (by_side (λ next. next.right ≤ most - most / 2) c b (λ on_left. omega arith) (λ past. omega arith)) (omega arith) in
      omega arith
]

pub depths_are_few : DepthsAreFew
depths_are_few leaves c below =
    let some : 0 < leaves = omega arith in
    few_steps leaves c c leaves (root_branch leaves) (root_holds leaves some c below) (omega arith) (omega arith) (omega arith)

-- up to 2 ^ n leaves are halved at most n times
few_halvings : (m n leaves : ℕ) → leaves ≤ 2 ^ n → halvings_of m leaves ≤ n
few_halvings zero n leaves few = let none = no_halving leaves in omega arith
few_halvings (suc m) zero leaves few = let none = one_left (suc m) leaves few in omega arith
few_halvings (suc m) (suc n) leaves few = elim (cases_lt 1 leaves) [
  | inl more ↦
      let twice = two-pow-succ n in
      let halving = halved_again m leaves more in
      let rest = few_halvings m n (leaves - leaves / 2) (omega arith) in
      omega arith
  | inr one ↦ let none = one_left (suc m) leaves one in omega arith
]

pub greatest_depth_is_small : GreatestDepthIsSmall
greatest_depth_is_small n leaves few = few_halvings leaves n leaves few
