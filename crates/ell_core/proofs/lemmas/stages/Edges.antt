use Rattle.std.proofs.Common.{◌≡◌, ℕ, inl, inr, sym, ◌∙◌, subst}
use Rattle.std.proofs.lemmas.Bool.{cases_Bool}
use Rattle.ell_word.specs.Node.{IsInternal, left_leaf, right_leaf}
use Rattle.ell_layout.specs.Words.{Words, IsLeaf, has_block}
use Rattle.ell_trie.specs.Ranges.{FindsLeaf}
use Rattle.ell_trie.proofs.lemmas.Courses.{found_in_block}
use Rattle.ell_trie.proofs.lemmas.Paths.{is_branch}
use Rattle.ell_core.specs.tree.Flat.{IsInBlock}
use Rattle.ell_core.specs.history.Stages.{Stages, Born}
use Rattle.ell_core.specs.history.Invariant.{insert_key, InsertCard, WordsAreSound}
use Rattle.ell_core.proofs.lemmas.tree.Blocks.{flat_by, plain_by, no_block, in_block-inner}
use Rattle.ell_core.proofs.lemmas.words.Sides.{insert_key-right}

-- a card whose two leaf keys are one has the key of the node where it goes
pub replaced_key : {stage : Stages} (w : Words) (c : ℕ) → InsertCard w stage c → w.key (left_leaf c) ≡ w.key (right_leaf c) → w.key (w.l c) ≡ insert_key w c
replaced_key w c card one =
    let left_is : w.key (left_leaf c) ≡ w.key (w.l c) = elim card.copy [ inl left ↦ left.key | inr right ↦ one ∙ right.key ] in
    sym (insert_key-right w c left_is ∙ (sym one ∙ left_is))

module _ (w : Words) (stage : Stages) (sound : WordsAreSound w stage) where
  -- the key of an internal node is in its block
  pub own_block : (x : ℕ) → IsInternal x → Born stage x → IsInBlock w x (w.key x)
  own_block x inner born = elim (cases_Bool (has_block w.flat_from x)) [
    | inr none ↦ no_block w x (w.key x) none
    | inl has ↦ in_block-inner w x (w.key x) inner (is_branch (sound.tree.trie (flat_by w.flat_from x has)) x inner born (plain_by w.flat_from x has))
  ]

  -- a key that is found below such a node is in its block
  pub found_block : {Holds : ℕ → Type 0} (k x : ℕ) → IsInternal x → Born stage x → FindsLeaf w.key w.child Holds k x → IsInBlock w x k
  found_block k x inner born found = elim (cases_Bool (has_block w.flat_from x)) [
    | inr none ↦ no_block w x k none
    | inl has ↦ in_block-inner w x k inner
        (found_in_block (sound.tree.trie (flat_by w.flat_from x has)) k x born (plain_by w.flat_from x has) inner found)
  ]

  -- a card whose two leaf keys are one goes to a leaf
  pub replaces_leaf : (c : ℕ) → InsertCard w stage c → w.key (left_leaf c) ≡ w.key (right_leaf c) → IsLeaf (w.l c)
  replaces_leaf c card one inner =
      card.edge inner (subst (IsInBlock w (w.l c)) (replaced_key w c card one) (own_block (w.l c) inner card.lower))
