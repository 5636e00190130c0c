use Rattle.std.proofs.Common.{◌≡◌, ℕ, ◌<◌, ◌≤◌, Bool, nat_le, sym, ap, ◌∙◌, subst, arith}
use Rattle.ell_word.specs.Node.{IsInternal}
use Rattle.ell_trie.specs.Ranges.{next_node, low_of, high_of, Spans, root, goes, IsOrdered, FindsLeaf, at_leaf, below, OnCourse, here, off, dead}

module _ (Born : ℕ → Type 0) (key key_after : ℕ → ℕ) (child after : ℕ → Bool → ℕ) (top : ℕ) (start : Born 0)
    (closed : (x : ℕ) (t : Bool) → IsInternal x → Born x → Born (child x t))
    (same_key : (x : ℕ) → Born x → key_after x ≡ key x)
    (same_child : (x : ℕ) (t : Bool) → Born x → after x t ≡ child x t) where
  -- what is reached is in the set
  pub Spans-born : {x low high : ℕ} → Spans key child top x low high → Born x
  Spans-born (root e f g) = subst Born (sym e) start
  Spans-born (goes {x = x} t r i e f g) = subst Born (sym e) (closed x t i (Spans-born r))

  -- a range stays
  pub Spans-same : {x low high : ℕ} → Spans key child top x low high → Spans key_after after top x low high
  Spans-same (root e f g) = root e f g
  Spans-same (goes {x = x} {low = low} {high = high} t r i e f g) =
      let o = Spans-born r in
      let same = sym (same_key x o) in
      goes t (Spans-same r) i (e ∙ sym (same_child x t o)) (f ∙ ap (low_of t low) same) (g ∙ ap (high_of t high) same)

  -- the next node of a walk stays
  pub next_same : (k x : ℕ) → Born x → next_node key_after after k x ≡ next_node key child k x
  next_same k x o = ap (λ v. after x (nat_le v k)) (same_key x o) ∙ same_child x (nat_le (key x) k) o

  -- a key is met as before
  pub Meets-same : {holds holds_after : ℕ → Type 0} → ((x : ℕ) → Born x → holds x → holds_after x) → (k : ℕ) {x : ℕ} → Born x
      → FindsLeaf key child holds k x → FindsLeaf key_after after holds_after k x
  Meets-same still k o (at_leaf {x = x} h e p) = at_leaf h (same_key x o ∙ e) (still x o p)
  Meets-same still k o (below {x = x} i e f) =
      below i (e ∙ sym (next_same k x o)) (Meets-same still k (subst Born (sym e) (closed x (nat_le (key x) k) i o)) f)

module _ (Born : ℕ → Type 0) (key key_after : ℕ → ℕ) (child after : ℕ → Bool → ℕ) (top : ℕ) (start : Born 0)
    (closed : (x : ℕ) (t : Bool) → IsInternal x → Born x → Born (child x t))
    (same_key : (x : ℕ) → Born x → key_after x ≡ key x)
    (same_child : (x : ℕ) (t : Bool) → Born x → after x t ≡ child x t) where
  closed_after : (x : ℕ) (t : Bool) → IsInternal x → Born x → Born (after x t)
  closed_after x t i o = subst Born (sym (same_child x t o)) (closed x t i o)

  -- a range was there before
  pub Spans-back : {x low high : ℕ} → Spans key_after after top x low high → Spans key child top x low high
  Spans-back r =
      Spans-same Born key_after key after child top start closed_after (λ x o. sym (same_key x o))
      (λ x t o. sym (same_child x t o)) r

  -- what is reached afterwards is in the set
  pub Spans-back_born : {x low high : ℕ} → Spans key_after after top x low high → Born x
  Spans-back_born r =
      Spans-born Born key_after key after child top start closed_after (λ x o. sym (same_key x o))
      (λ x t o. sym (same_child x t o)) r

  -- a key that is met afterwards was met before
  pub Meets-back : {holds holds_after : ℕ → Type 0} → ((x : ℕ) → Born x → holds_after x → holds x) → (k : ℕ) {x : ℕ} → Born x
      → FindsLeaf key_after after holds_after k x → FindsLeaf key child holds k x
  Meets-back still k o f =
      Meets-same Born key_after key after child top start closed_after (λ x o. sym (same_key x o))
      (λ x t o. sym (same_child x t o)) still k o f

  -- the tree stays in order
  pub IsOrdered-same : {rank : ℕ → ℕ} → IsOrdered key child top rank → IsOrdered key_after after top rank
  IsOrdered-same {rank = rank} h = record {
    within = λ x low high r. subst (λ v. (low ≤ v) × (v < high)) (sym (same_key x (Spans-back_born r)))
        (h.within x low high (Spans-back r));
    proper = λ x low high r i. subst (λ v. low < v) (sym (same_key x (Spans-back_born r)))
        (h.proper x low high (Spans-back r) i);
    rising = λ x low high t r i. subst (λ v. rank x < rank v) (sym (same_child x t (Spans-back_born r)))
        (h.rising x low high t (Spans-back r) i);
  }

  -- so it does by another rank that is the same for what was born
  pub IsOrdered-ranked : {rank rank_after : ℕ → ℕ} → ((x : ℕ) → Born x → rank_after x ≡ rank x) → IsOrdered key child top rank
      → IsOrdered key_after after top rank_after
  IsOrdered-ranked same h = let kept = IsOrdered-same h in record {
    within = kept.within;
    proper = kept.proper;
    rising = λ x low high t r i. (
        let born = Spans-back_born r in
        let up = kept.rising x low high t r i in
        let upper = same x born in
        let lower = same (after x t) (closed_after x t i born) in
        omega arith);
  }

  -- a node stays on course
  pub OnCourse-same : (k : ℕ) {x : ℕ} → Born x → OnCourse key child top k x → OnCourse key_after after top k x
  OnCourse-same k o (here r a b) =
      here (Spans-same Born key key_after child after top start closed same_key same_child r) a b
  OnCourse-same k o (off {x = x} i h e t) =
      let same = ap (λ v. after x (nat_le v k)) (same_key x o) ∙ same_child x (nat_le (key x) k) o in
      off i (λ low high r. h low high (Spans-back r)) (e ∙ sym same)
      (OnCourse-same k (subst Born (sym e) (closed x (nat_le (key x) k) i o)) t)
  OnCourse-same k o (dead h n) = dead h (λ low high r. n low high (Spans-back r))
