use Rattle.std.proofs.Common.{ℕ, ◌<◌, ◌≤◌, subst}
use Rattle.ell_word.specs.Node.{IsInternal}
use Rattle.ell_layout.specs.Words.{Words}
use Rattle.ell_layout.specs.Cards.{child_for}
use Rattle.ell_trie.specs.Ranges.{Spans}
use Rattle.ell_trie.specs.Courses.{ordinary, passes, missed, strange}
use Rattle.ell_trie.proofs.lemmas.order.Courses.{OnCourse-down, OnCourse-range}
use Rattle.ell_trie.proofs.lemmas.Courses as trie
use Rattle.ell_core.specs.tree.Flat.{IsInBlock}
use Rattle.ell_core.specs.tree.Rank.{rank}
use Rattle.ell_core.specs.history.Stages.{Stages, Born}
use Rattle.ell_core.specs.history.Invariant.{top, IsOnCourse, WordsAreSound}
use Rattle.ell_core.proofs.lemmas.tree.Blocks.{flat_by, block_by}

module _ (w : Words) (stage : Stages) (sound : WordsAreSound w stage) where
  -- the next node on the walk for a key from one that is on course for it is on course
  pub course_down : (k x : ℕ) → Born stage x → IsOnCourse w k x → IsInternal x → IsOnCourse w k (child_for w k x)
  course_down k x born (ordinary c) inner = ordinary (OnCourse-down w.key w.child top sound.tree.ordered c inner)
  course_down k x born (passes i out e rest) inner = subst (IsOnCourse w k) e rest
  course_down k x born (missed i plain lacks) inner =
      trie.course_down (sound.tree.trie (flat_by w.flat_from x (block_by w.flat_from x plain))) {rank = rank w} sound.tree.ordered k x born inner (missed i plain lacks)
  course_down k x born (strange outer plain other) inner = absurd (outer inner)

  -- a key lies in the range of a reached internal node that is on course for it, if its block has the key
  pub course_range : (k x low high : ℕ) → IsOnCourse w k x → IsInternal x → IsInBlock w x k → Spans w.key w.child top x low high → (low ≤ k) × (k < high)
  course_range k x low high (ordinary c) inner there spans = OnCourse-range w.key w.child top sound.tree.ordered c spans
  course_range k x low high (passes i out e rest) inner there spans = absurd (out low high spans)
  course_range k x low high (missed i plain lacks) inner there spans = absurd (lacks (there.inner inner (block_by w.flat_from x plain)))
  course_range k x low high (strange outer plain other) inner there spans = absurd (outer inner)
