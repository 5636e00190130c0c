use Rattle.std.specs.Prelude.{◌≡◌, ℕ, ◌<◌, ◌≤◌, ◌⊎◌, Bool, true, false, nat_le}
use Rattle.ell_word.specs.Node.{IsInternal}

-- the next node on the walk for a key
abbrev pub next_node : (ℕ → ℕ) → (ℕ → Bool → ℕ) → ℕ → ℕ → ℕ
next_node key child k x = child x (nat_le (key x) k)

-- where the keys of a child begin, by where those of its parent begin and the parent's key
abbrev pub low_of : Bool → ℕ → ℕ → ℕ
low_of true low middle = middle
low_of false low middle = low

-- where the keys of a child end
abbrev pub high_of : Bool → ℕ → ℕ → ℕ
high_of true high middle = high
high_of false high middle = middle

-- node x is reached from node 0, and the keys from low on and below high are those whose walk comes by it
pub data Spans (key : ℕ → ℕ) (child : ℕ → Bool → ℕ) (top : ℕ) : ℕ → ℕ → ℕ → Type 0 where
  root : {x low high : ℕ} → x ≡ 0 → low ≡ 0 → high ≡ top → Spans key child top x low high
  goes : {x low high y a b : ℕ} (right : Bool) → Spans key child top x low high → IsInternal x → y ≡ child x right
      → a ≡ low_of right low (key x) → b ≡ high_of right high (key x) → Spans key child top y a b

-- node x is not reached from node 0
abbrev pub IsCutOut : (ℕ → ℕ) → (ℕ → Bool → ℕ) → ℕ → ℕ → Type 0
IsCutOut key child top x = (low high : ℕ) → ¬ Spans key child top x low high

-- node x is reached from node 0
pub record IsSpanned (key : ℕ → ℕ) (child : ℕ → Bool → ℕ) (top x : ℕ) : Type 0 where
  pub low : ℕ
  pub high : ℕ
  pub spans : Spans key child top x low high

-- the walk for a key from x ends at a leaf that has the key, and of which this holds
pub data FindsLeaf (key : ℕ → ℕ) (child : ℕ → Bool → ℕ) (holds : ℕ → Type 0) (k : ℕ) : ℕ → Type 0 where
  at_leaf : {x : ℕ} → ¬ IsInternal x → key x ≡ k → holds x → FindsLeaf key child holds k x
  below : {x y : ℕ} → IsInternal x → y ≡ next_node key child k x → FindsLeaf key child holds k y
      → FindsLeaf key child holds k x

-- each reached node has its key among those that lead to it, an internal one not as the first, and children have
-- greater ranks
pub record IsOrdered (key : ℕ → ℕ) (child : ℕ → Bool → ℕ) (top : ℕ) (rank : ℕ → ℕ) : Type 0 where
  pub within : (x low high : ℕ) → Spans key child top x low high → (low ≤ key x) × (key x < high)
  pub proper : (x low high : ℕ) → Spans key child top x low high → IsInternal x → low < key x
  pub rising : (x low high : ℕ) (right : Bool) → Spans key child top x low high → IsInternal x → rank x < rank (child x right)

-- the child of a node on a side is now this one, and every other child is as it was
pub record Relinked (old new : ℕ → Bool → ℕ) (node : ℕ) (side : Bool) (to : ℕ) : Type 0 where
  pub there : new node side ≡ to
  pub others : (x : ℕ) (right : Bool) → ((x ≡ node) × (right ≡ side)) ⊎ (new x right ≡ old x right)

-- x is on course for a key: it is reached and the key leads to it; or it was cut out, and so is what follows on the
-- walk for the key, up to a node of the first kind or a leaf
pub data OnCourse (key : ℕ → ℕ) (child : ℕ → Bool → ℕ) (top k : ℕ) : ℕ → Type 0 where
  here : {x low high : ℕ} → Spans key child top x low high → low ≤ k → k < high → OnCourse key child top k x
  off : {x y : ℕ} → IsInternal x → IsCutOut key child top x → y ≡ next_node key child k x → OnCourse key child top k y
      → OnCourse key child top k x
  dead : {x : ℕ} → ¬ IsInternal x → IsCutOut key child top x → OnCourse key child top k x
