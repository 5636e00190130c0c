use Rattle.std.proofs.Common.{◌≡◌, ◌≢◌, ℕ, ◌<◌, ◌==◌, ◌||◌, if◌then◌else◌, ltb, lt-ltb, ltb-true, eqb-true, eq-eqb, ne_eqb, Bool, true, false, List, [], ◌∷◌, refl, sym, ap, ◌∙◌, subst, arith, true≢false}
use Rattle.std.proofs.Math.Bool.{or_self_left}
use Rattle.std.specs.List.Sorted.{IsStrictlyIncreasing}
use Rattle.ell_ops.specs.KeySet.{Lists, set_of, union}
use Rattle.ell_ops.proofs.lemmas.Rising.{Over, Rises, over_less, rises, ascends}

-- a key put into ascending keys at its place, unless it is there
abbrev pub put_key : ℕ → List ℕ → List ℕ
put_key k [] = k ∷ []
put_key k (x ∷ xs) = if ltb k x then k ∷ x ∷ xs else if k == x then k ∷ xs else x ∷ put_key k xs

-- the keys of two ascending lists, ascending
abbrev pub keys_united : List ℕ → List ℕ → List ℕ
keys_united [] ys = ys
keys_united (x ∷ xs) ys = put_key x (keys_united xs ys)

-- not below
not_less : (a b : ℕ) → (a < b → ⊥) → ltb a b ≡ false
not_less a b n = by (ltb a b) refl
  where
    by : (t : Bool) → ltb a b ≡ t → t ≡ false
    by true e = absurd (n (ltb-true a b e))
    by false e = refl

-- which of three places a key has beside another
pub data Beside (k x : ℕ) : Type 0 where
  below : k < x → Beside k x
  same : k ≡ x → Beside k x
  above : x < k → Beside k x

pub beside : (k x : ℕ) → Beside k x
beside k x = by (ltb k x) (k == x) refl refl
  where
    by : (t u : Bool) → ltb k x ≡ t → (k == x) ≡ u → Beside k x
    by true u e f = below (ltb-true k x e)
    by false true e f = same (eqb-true k x f)
    by false false e f = above (let n : k ≢ x = λ q. true≢false (sym (eq-eqb k x q) ∙ f) in let m : k < x → ⊥ = λ q. true≢false (sym (lt-ltb k x q) ∙ e) in omega arith)

module _ {A : Type 0} (k x : ℕ) (a b c : A) where
  -- what is put there in each of them
  pub if_below : k < x → (if ltb k x then a else if k == x then b else c) ≡ a
  if_below less = ap (λ t. if t then a else if k == x then b else c) (lt-ltb k x less)

  pub if_same : k ≡ x → (if ltb k x then a else if k == x then b else c) ≡ b
  if_same e = ap (λ t. if t then a else if k == x then b else c) (not_less k x (λ less. omega arith)) ∙ ap (λ t. if t then b else c) (eq-eqb k x e)

  pub if_above : x < k → (if ltb k x then a else if k == x then b else c) ≡ c
  if_above more = ap (λ t. if t then a else if k == x then b else c) (not_less k x (λ less. omega arith))
      ∙ ap (λ t. if t then b else c) (ne_eqb k x (λ e. omega arith))

-- a number below all keys is below them with one more
over_put : (j k : ℕ) (xs : List ℕ) → j < k → Over j xs → Over j (put_key k xs)
over_put j k [] less h = (less, tt)
over_put j k (x ∷ xs) less h = elim (beside k x) [
  | below e ↦ subst (Over j) (sym (if_below k x (k ∷ x ∷ xs) (k ∷ xs) (x ∷ put_key k xs) e)) (less, h)
  | same e ↦ subst (Over j) (sym (if_same k x (k ∷ x ∷ xs) (k ∷ xs) (x ∷ put_key k xs) e)) (less, h.1)
  | above e ↦ subst (Over j) (sym (if_above k x (k ∷ x ∷ xs) (k ∷ xs) (x ∷ put_key k xs) e)) (h.0, over_put j k xs less h.1)
]

-- keys rise with one more
rises_put : (k : ℕ) (xs : List ℕ) → Rises xs → Rises (put_key k xs)
rises_put k [] h = (tt, tt)
rises_put k (x ∷ xs) h = elim (beside k x) [
  | below e ↦ subst Rises (sym (if_below k x (k ∷ x ∷ xs) (k ∷ xs) (x ∷ put_key k xs) e)) ((e, over_less k x xs e h.0), h)
  | same e ↦ subst Rises (sym (if_same k x (k ∷ x ∷ xs) (k ∷ xs) (x ∷ put_key k xs) e)) (subst (λ y. Over y xs) (sym e) h.0, h.1)
  | above e ↦ subst Rises (sym (if_above k x (k ∷ x ∷ xs) (k ∷ xs) (x ∷ put_key k xs) e)) (over_put x k xs e h.0, rises_put k xs h.1)
]

-- two lists in one rise, where the second does
rises_united : (xs ys : List ℕ) → Rises ys → Rises (keys_united xs ys)
rises_united [] ys h = h
rises_united (x ∷ xs) ys h = rises_put x (keys_united xs ys) (rises_united xs ys h)

-- a set with one key more
set_put : (k : ℕ) (xs : List ℕ) (q : ℕ) → set_of (put_key k xs) q ≡ ((q == k) || set_of xs q)
set_put k [] q = refl
set_put k (x ∷ xs) q = elim (beside k x) [
  | below e ↦ ap (λ l. set_of l q) (if_below k x (k ∷ x ∷ xs) (k ∷ xs) (x ∷ put_key k xs) e)
  | same e ↦ ap (λ l. set_of l q) (if_same k x (k ∷ x ∷ xs) (k ∷ xs) (x ∷ put_key k xs) e)
      ∙ (sym (or_self_left (q == k) (set_of xs q)) ∙ ap (λ y. (q == k) || ((q == y) || set_of xs q)) e)
  | above e ↦ ap (λ l. set_of l q) (if_above k x (k ∷ x ∷ xs) (k ∷ xs) (x ∷ put_key k xs) e)
      ∙ (ap (λ t. (q == x) || t) (set_put k xs q) ∙ swap (q == x) (q == k) (set_of xs q))
]
  where
    swap : (a b c : Bool) → (a || (b || c)) ≡ (b || (a || c))
    swap true true c = refl
    swap true false c = refl
    swap false b c = refl

-- two lists in one have the keys of either
set_united : (xs ys : List ℕ) (q : ℕ) → set_of (keys_united xs ys) q ≡ union (set_of xs) (set_of ys) q
set_united [] ys q = refl
set_united (x ∷ xs) ys q =
    set_put x (keys_united xs ys) q ∙ (ap (λ t. (q == x) || t) (set_united xs ys q) ∙ sym (or_assoc (q == x) (set_of xs q) (set_of ys q)))
  where
    or_assoc : (a b c : Bool) → ((a || b) || c) ≡ (a || (b || c))
    or_assoc true b c = refl
    or_assoc false b c = refl

-- and list them, ascending
pub lists_united : (xs ys : List ℕ) → IsStrictlyIncreasing ys → Lists (union (set_of xs) (set_of ys)) (keys_united xs ys)
lists_united xs ys h = record {
  ascending = ascends (keys_united xs ys) (rises_united xs ys (rises ys h));
  each = λ i q. set_united xs ys q i;
}
