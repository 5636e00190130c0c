use Rattle.std.proofs.Common.{◌≡◌, ℕ, ◌<◌, ◌^◌, Bool, nat_le, sym, ap, ◌∙◌, subst}
use Rattle.ell_word.specs.Node.{IsInternal}
use Rattle.ell_trie.specs.Halves.{InHalfOf, InsideOf}
use Rattle.ell_trie.specs.Tries.{Opening, IsTrie}
use Rattle.ell_trie.specs.Courses.{OnTrieCourse, ordinary, passes, missed, strange}
use Rattle.ell_block.specs.Blocks.{InBlockOf}
use Rattle.ell_trie.proofs.lemmas.order.Frames.{Spans-back, OnCourse-same, next_same}

module _ (Born : ℕ → Type 0) (o : Opening) (key key_after : ℕ → ℕ) (child after : ℕ → Bool → ℕ)
    (same_key : (x : ℕ) → Born x → key_after x ≡ key x)
    (same_child : (x : ℕ) (t : Bool) → Born x → after x t ≡ child x t) where
  -- a tree with the keys and the children of a trie at what was born is a trie
  pub IsTrie-same : IsTrie Born o key child → IsTrie Born o key_after after
  IsTrie-same t = record {
    start = t.start;
    closed = λ x u i b. subst Born (sym (same_child x u b)) (t.closed x u i b);
    plain = λ x u i b off. ap o.holds (same_child x u b) ∙ t.plain x u i b off;
    deeper = λ x u i b held j. subst (λ n. o.depth x < o.depth n) (sym (same_child x u b))
        (t.deeper x u i b (ap o.holds (sym (same_child x u b)) ∙ held) (subst IsInternal (same_child x u b) j));
    few = t.few;
    small = λ x i b off. subst (λ n. n < 2 ^ 64) (sym (same_key x b)) (t.small x i b off);
    leaf = λ x u i b off j. subst (λ n. InHalfOf n u (key_after (after x u))) (sym (same_key x b))
        (subst (InHalfOf (key x) u) (sym (child_key x u i b)) (t.leaf x u i b off (λ k. j (subst IsInternal (sym (same_child x u b)) k))));
    inner = λ x u i b off j. subst (λ n. InsideOf (key_after (after x u)) n u) (sym (same_key x b))
        (subst (λ n. InsideOf n (key x) u) (sym (child_key x u i b)) (t.inner x u i b off (subst IsInternal (same_child x u b) j)));
  }
    where
      -- the key of a child is as it was
      child_key : (x : ℕ) (u : Bool) → IsInternal x → Born x → key_after (after x u) ≡ key (child x u)
      child_key x u i b = ap key_after (same_child x u b) ∙ same_key (child x u) (t.closed x u i b)

  module _ (top : ℕ) (start : Born 0) (closed : (x : ℕ) (t : Bool) → IsInternal x → Born x → Born (child x t)) where
    -- a node stays on course
    pub OnTrieCourse-same : (k : ℕ) {x : ℕ} → Born x → OnTrieCourse o key child top k x → OnTrieCourse o key_after after top k x
    OnTrieCourse-same k b (ordinary c) = ordinary (OnCourse-same Born key key_after child after top start closed same_key same_child k b c)
    OnTrieCourse-same k b (passes {x = x} i cut e rest) =
        passes i (λ low high r. cut low high (Spans-back Born key key_after child after top start closed same_key same_child r))
        (e ∙ sym (next_same Born key key_after child after top start closed same_key same_child k x b))
        (OnTrieCourse-same k (subst Born (sym e) (closed x (nat_le (key x) k) i b)) rest)
    OnTrieCourse-same k b (missed {x = x} i off lacks) = missed i off (λ h. lacks (subst (λ n. InBlockOf n k) (same_key x b) h))
    OnTrieCourse-same k b (strange {x = x} j off other) = strange j off (λ e. other (sym (same_key x b) ∙ e))
