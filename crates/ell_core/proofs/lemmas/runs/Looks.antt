use Rattle.std.proofs.Common.{◌≡◌, ℕ, ◌≤◌, ◌⊎◌, inl, inr, refl, sym, subst, arith}
use Rattle.ell_ops.specs.Meaning.{greatest_key}
use Rattle.ell_word.specs.Node.{IsInternal}
use Rattle.ell_core.specs.declared.event.Event.{Event}
use Rattle.ell_core.specs.declared.event.Stepped.{Stepped}
use Rattle.ell_layout.specs.Words.{Words, IsLeaf}
use Rattle.ell_core.specs.state.Machine.{Machine}
use Rattle.ell_layout.specs.Cards.{is_right, child_for}
use Rattle.ell_core.specs.acts.Events.{Steps}
use Rattle.ell_core.specs.tree.Tree.{OnWalk, here, next}
use Rattle.ell_trie.specs.Ranges.{at_leaf, below}
use Rattle.ell_core.specs.history.Stages.{Stages, Born}
use Rattle.ell_core.specs.history.Invariant.{top, LeadsTo, IsOnCourse, WordsAreSound, Invariant}
use Rattle.ell_trie.proofs.lemmas.order.Bounds.{leaf_key}
use Rattle.ell_trie.proofs.lemmas.order.Courses.{OnCourse-start}
use Rattle.ell_trie.specs.Courses.{ordinary}
use Rattle.ell_core.specs.tree.Flat.{IsInBlock}
use Rattle.ell_core.specs.history.Later.{WordsLater}
use Rattle.ell_core.proofs.lemmas.tree.Courses.{course_down}
use Rattle.ell_core.proofs.lemmas.stages.LaterKeys.{root_born, block_before}
use Rattle.ell_core.proofs.lemmas.following.Looks.{OnWalk-down, courses_go_on}

-- all nodes on a walk from a node that came into the tree came too
pub walk_born : (w : Words) (stage : Stages) → WordsAreSound w stage → (key : ℕ) {x y : ℕ} → Born stage x → OnWalk w key x y → Born stage y
walk_born w stage sound key born (here e) = subst (Born stage) (sym e) born
walk_born w stage sound key born (next {x = x} inner on) =
    walk_born w stage sound key ((sound.children x inner born).born (is_right w x key)) on

-- and all nodes on a walk from one that is on course are
pub walk_course : (w : Words) (stage : Stages) → WordsAreSound w stage → (key : ℕ) {x y : ℕ} → Born stage x → IsOnCourse w key x → OnWalk w key x y
    → IsOnCourse w key y
walk_course w stage sound key born course (here e) = subst (IsOnCourse w key) (sym e) course
walk_course w stage sound key born course (next {x = x} inner on) =
    walk_course w stage sound key ((sound.children x inner born).born (is_right w x key)) (course_down w stage sound key x born course inner) on

-- the root is on course for each real key
pub root_course : (w : Words) (stage : Stages) → WordsAreSound w stage → (key : ℕ) → key ≤ greatest_key → IsOnCourse w key 0
root_course w stage sound key real = ordinary (OnCourse-start w.key w.child top sound.tree.ordered key (omega arith))

-- a walk that ends at a leaf ends at the leaf to which its key leads
pub walk_ends : (w : Words) (key : ℕ) {x leaf : ℕ} → OnWalk w key x leaf → IsLeaf leaf → LeadsTo w key x → w.key leaf ≡ key
walk_ends w key {leaf = leaf} (here e) outer leads = leaf_key w.key w.child key leaf outer (subst (LeadsTo w key) (sym e) leads)
walk_ends w key (next inner on) outer (at_leaf leaf has _) = absurd (leaf inner)
walk_ends w key (next inner on) outer (below _ e rest) = walk_ends w key on outer (subst (LeadsTo w key) e rest)

-- nodes that were met, in a state of these words: they came into the tree, are on course for the key, and the child of each on the key's
-- side is one of them, in a flat tree if the key is in the node's block
pub record AreMet (w : Words) (stage : Stages) (key : ℕ) (met : ℕ → Type 0) : Type 0 where
  pub born : (x : ℕ) → met x → Born stage x
  pub course : (x : ℕ) → met x → IsOnCourse w key x
  pub child : (x : ℕ) → met x → IsInternal x → IsInBlock w x key → met (child_for w key x)

-- the nodes on the walk from the root are met
pub walk_met : (w : Words) (stage : Stages) → WordsAreSound w stage → (key : ℕ) → key ≤ greatest_key → AreMet w stage key (OnWalk w key 0)
walk_met w stage sound key real = record {
  born = λ x on. walk_born w stage sound key (root_born w stage sound) on;
  course = λ x on. walk_course w stage sound key (root_born w stage sound) (root_course w stage sound key real) on;
  child = λ x on inner there. OnWalk-down w key inner on;
}

-- after an event those are met that were, and those on the walk then
pub event_met : (m : Machine) (stage : Stages) (e : Event) (said : Stepped) (m' : Machine) (stages : Stages) (key : ℕ) (met : ℕ → Type 0) → Invariant m stage
    → Steps m e said m' → WordsAreSound m'.words stages → WordsLater m.words m'.words → ((x : ℕ) → Born stage x → Born stages x) → key ≤ greatest_key
    → AreMet m.words stage key met → AreMet m'.words stages key (λ x. met x ⊎ OnWalk m'.words key 0 x)
event_met m stage e said m' stages key met invariant steps sound words later real were = record {
  born = λ x h. elim h [ inl was ↦ later x (were.born x was) | inr on ↦ walks.born x on ];
  course = λ x h. elim h [ inl was ↦ (goes x was).0 | inr on ↦ walks.course x on ];
  child = λ x h inner there. elim h [
    | inl was ↦ (let before = block_before m.words m'.words stage invariant.words words x x key key refl refl (were.born x was) there in
        elim ((goes x was).1 inner before) [
          | inl same ↦ inl (subst met (sym same) (were.child x was inner before))
          | inr on ↦ inr (walks.child x on inner there)
        ])
    | inr on ↦ inr (walks.child x on inner there)
  ];
} where
  walks : AreMet m'.words stages key (OnWalk m'.words key 0)
  walks = walk_met m'.words stages sound key real

  goes : (x : ℕ) → met x → IsOnCourse m'.words key x × (IsInternal x → IsInBlock m.words x key → (child_for m'.words key x ≡ child_for m.words key x) ⊎ OnWalk m'.words key 0 x)
  goes x was = courses_go_on m stage e said m' invariant steps key x (were.born x was) (were.course x was)
