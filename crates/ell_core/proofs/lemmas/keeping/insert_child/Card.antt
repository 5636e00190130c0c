use Rattle.std.proofs.Common.{◌≡◌, ◌≢◌, ℕ, ◌%◌, ◌<◌, ◌≤◌, Bool, true, not, inl, inr, ◌⊎◌, refl, sym, ap, ◌∙◌, subst, arith}
use Rattle.ell_word.specs.Node.{IsInternal, card, internal, left_leaf, right_leaf}
use Rattle.ell_layout.specs.Words.{Words, relinked, put}
use Rattle.ell_layout.specs.Cards.{iflag, marked, clean, is_right, is_replace_card}
use Rattle.ell_trie.specs.Ranges.{Spans, goes, IsOrdered, Relinked, low_of, high_of}
use Rattle.ell_core.specs.history.Stages.{Stage, Stages, IFlagged, IChanged, RChanged, is_start, is_insert, is_born, is_node_born, insert_open, insert_waits, Born}
use Rattle.ell_core.specs.history.Invariant.{top, IsIn, IsOut, LeadsToValue, IsOnCourse, insert_key, insert_value, insert_side, InsertCard, Unborn, ChildrenAreSound, WordsAreSound}
use Rattle.ell_core.proofs.lemmas.words.Later.{child_there, child_elsewhere}
use Rattle.ell_core.proofs.lemmas.words.Sides.{insert_key-side}
use Rattle.ell_trie.proofs.lemmas.order.Bounds.{side_within}
use Rattle.ell_trie.proofs.lemmas.order.OneRange.{unique}
use Rattle.std.proofs.lemmas.Bool.{false≢true, cases_Bool, cases_lt, eqb-true}
use Rattle.ell_block.specs.Blocks.{InBlockOf}
use Rattle.ell_layout.specs.Words.{has_block}
use Rattle.ell_trie.specs.Halves.{InHalfOf}
use Rattle.ell_trie.specs.Tries.{IsTrie}
use Rattle.ell_trie.proofs.lemmas.Middles.{half_there}
use Rattle.ell_core.specs.tree.Flat.{opening_from, IsInBlock}
use Rattle.ell_core.proofs.lemmas.tree.Blocks.{flat_by, plain_by, no_block, block_from, in_block-inner}
use Rattle.ell_core.proofs.lemmas.tree.Courses.{course_range}
use Rattle.ell_core.proofs.lemmas.stages.Edges.{replaces_leaf, replaced_key}
use Rattle.ell_core.specs.tree.Rank.{rank}

-- the words after the child exchange of an insert's card that brings node q to the parent
abbrev pub ichild_words : Words → ℕ → ℕ → Words
ichild_words w c q = relinked w (w.p c) (insert_side w c) q

-- the stages after it
abbrev pub ichild_stages : Stages → ℕ → Stage → Stages
ichild_stages stage c now = put stage c now

-- an internal node of the card that came into the tree
pub record NewInner (w after : Words) (stages : Stages) (x : ℕ) : Type 0 where
  pub children : ChildrenAreSound after stages x
  pub calm : w.update x ≡ clean 0
  pub there : IsIn after x

-- what the child exchange does to the tree: node q comes in on the parent's side of the card's key, all that came into the tree goes on, and
-- the card's key leads to the card's value, any other key where it led
pub record Brings (w : Words) (stage : Stages) (c q : ℕ) (now : Stage) : Type 0 where
  pub fresh : (now ≡ IChanged) ⊎ (now ≡ RChanged)
  pub above : w.l c < q
  pub rises : rank w (w.p c) < rank w q
  pub on_card : card q ≡ c
  pub born : is_node_born now (q % 4) ≡ true
  pub key : w.key q ≡ w.key (internal c)
  pub kind : is_born now ≡ not (is_replace_card w c)
  pub inner : (x : ℕ) → IsInternal x → card x ≡ c → is_node_born now (x % 4) ≡ true → NewInner w (ichild_words w c q) (ichild_stages stage c now) x
  pub ordered : IsOrdered w.key (ichild_words w c q).child top (rank w)
  pub trie : 0 < w.flat_from → IsTrie (Born (ichild_stages stage c now)) (opening_from w.flat_from) w.key (ichild_words w c q).child
  pub course : (k x : ℕ) → Born stage x → IsOnCourse w k x → IsOnCourse (ichild_words w c q) k x
  pub out : (x : ℕ) → Born stage x → IsOut w x → IsOut (ichild_words w c q) x
  pub inside : (x : ℕ) → IsInternal x → IsIn w x → IsIn (ichild_words w c q) x
  pub still : (k value x : ℕ) → k ≢ insert_key w c → LeadsToValue w k value x → LeadsToValue (ichild_words w c q) k value x
  pub before : (k value x : ℕ) → k ≢ insert_key w c → LeadsToValue (ichild_words w c q) k value x → LeadsToValue w k value x
  pub gained : LeadsToValue (ichild_words w c q) (insert_key w c) (insert_value w c) 0

-- the leaf keys of a card that replaces a leaf are one
pub same_by : (w : Words) (c : ℕ) → is_replace_card w c ≡ true → w.key (left_leaf c) ≡ w.key (right_leaf c)
same_by w c one = eqb-true (w.key (left_leaf c)) (w.key (right_leaf c)) one

-- what holds of both stages that a child exchange leads to holds of the one that it leads to
pub just_changed : (P : Stage → Type 0) (now : Stage) → (now ≡ IChanged) ⊎ (now ≡ RChanged) → P IChanged → P RChanged → P now
just_changed P now fresh insert replace = elim fresh [
  | inl e ↦ subst P (sym e) insert
  | inr e ↦ subst P (sym e) replace
]

module _ (w : Words) (stage : Stages) (sound : WordsAreSound w stage) (c : ℕ) (flagged : stage c ≡ IFlagged) where
  -- in a flat tree its nodes have blocks
  pub new_block : 0 < w.flat_from → (x : ℕ) → card x ≡ c → has_block w.flat_from x ≡ true
  new_block some x e = elim (cases_lt c w.flat_from) [
    | inl less ↦ absurd (false≢true (sym (ap is_start flagged) ∙ (sound.flat some c).0 less))
    | inr past ↦ block_from w.flat_from x some (omega arith)
  ]

  -- the card says where it goes
  pub its_card : InsertCard w stage c
  its_card = (sound.cards c).insert (ap is_insert flagged)

  -- its nodes are as they were filled
  pub its_nodes : Unborn w c
  its_nodes = (sound.cards c).unborn (ap is_insert flagged) (ap is_born flagged)

  -- its flag stands
  pub its_flag : w.update (w.p c) ≡ iflag c
  its_flag = (sound.inserts c).flag (ap insert_open flagged)

  -- the child is still the leaf
  pub its_child : w.child (w.p c) (insert_side w c) ≡ w.l c
  its_child = (sound.inserts c).waits (ap insert_waits flagged)

  -- with the tag that the card expects
  pub its_tag : w.tag (w.p c) (insert_side w c) ≡ w.expects c
  its_tag = (sound.inserts c).tagged (ap insert_waits flagged)

  -- its parent has no mark
  pub no_mark : (d : ℕ) → w.update (w.p c) ≢ marked d
  no_mark d h = let e = its_flag in omega arith

  -- its parent is in the tree
  pub parent_in : IsIn w (w.p c)
  parent_in = sound.tree.there (w.p c) its_card.parent.inner its_card.parent.born no_mark

  -- the card's key goes to the side where its node is put
  pub key_side : is_right w (w.p c) (insert_key w c) ≡ insert_side w c
  key_side = insert_key-side w stage c its_card

  -- the card's key is in the parent's block
  pub key_in_block : IsInBlock w (w.p c) (insert_key w c)
  key_in_block = elim (cases_Bool (is_replace_card w c)) [
    | inr two ↦ its_card.fits two
    | inl one ↦ (
        let inner = its_card.parent.inner in
        let outer = replaces_leaf w stage sound c its_card (same_by w c one) in
        elim (cases_Bool (has_block w.flat_from (w.p c))) [
          | inr none ↦ no_block w (w.p c) (insert_key w c) none
          | inl has ↦ in_block-inner w (w.p c) (insert_key w c) inner (subst (InBlockOf (w.key (w.p c))) (replaced_key w c its_card (same_by w c one))
              (half_there (subst (λ x. InHalfOf (w.key (w.p c)) (insert_side w c) (w.key x)) its_child
              ((sound.tree.trie (flat_by w.flat_from (w.p c) has)).leaf (w.p c) (insert_side w c) inner its_card.parent.born (plain_by w.flat_from (w.p c) has)
              (λ i. outer (subst IsInternal its_child i))))))
        ])
  ]

  -- the card's key lies in the range of its side of the parent
  pub key_range : (low high : ℕ) → Spans w.key w.child top (w.p c) low high
      → (low_of (insert_side w c) low (w.key (w.p c)) ≤ insert_key w c)
      × (insert_key w c < high_of (insert_side w c) high (w.key (w.p c)))
  key_range low high there =
      let course = (sound.inserts c).course (ap insert_waits flagged) in
      let range = course_range w stage sound (insert_key w c) (w.p c) low high course its_card.parent.inner key_in_block there in
      side_within w.key w.child top sound.tree.ordered (w.key (w.p c)) (insert_key w c) low high
      (insert_side w c) key_side range.0 range.1

  -- it lies in the range of the leaf
  pub leaf_range : (low high : ℕ) → Spans w.key w.child top (w.l c) low high
      → (low ≤ insert_key w c) × (insert_key w c < high)
  leaf_range low high leaf_in =
      let there = parent_in in
      let range = key_range there.low there.high there.spans in
      let same = unique w.key w.child top sound.tree.ordered leaf_in
      (goes (insert_side w c) there.spans its_card.parent.inner (sym its_child) refl refl) in
      (omega arith, omega arith)

  -- the parent's child is the node that came in, and no other child changed
  pub its_relinks : (q : ℕ) → Relinked w.child (ichild_words w c q).child (w.p c) (insert_side w c) q
  its_relinks q = record {
    there = child_there w (w.p c) q (insert_side w c);
    others = child_elsewhere w (w.p c) q (insert_side w c);
  }

  -- what was cut out has the children that it had
  pub out_kept : (q x : ℕ) (right : Bool) → IsOut w x → (ichild_words w c q).child x right ≡ w.child x right
  out_kept q x right out = elim ((its_relinks q).others x right) [
    | inl h ↦ (let there = parent_in in absurd (out there.low there.high (subst (λ n. Spans w.key w.child top n there.low there.high) (sym h.0) there.spans)))
    | inr e ↦ e
  ]

  -- the children of what came into the tree came too
  pub closed : (x : ℕ) (right : Bool) → IsInternal x → Born stage x → Born stage (w.child x right)
  closed x right inner born = (sound.children x inner born).born right

  -- none of the card's nodes came into the tree before
  pub not_born : (x : ℕ) → card x ≡ c → ¬ Born stage x
  not_born x e born = false≢true (sym (ap (λ s. is_node_born s (x % 4)) flagged) ∙ (ap (λ d. is_node_born (stage d) (x % 4)) (sym e) ∙ born))
