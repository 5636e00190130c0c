use Rattle.std.proofs.Common.{◌≡◌, ◌%◌, ℕ, ◌⊎◌, inl, inr, List, nat_le, refl, sym, ap, ◌∙◌, subst}
use Rattle.ell_word.specs.Node.{IsInternal, card}
use Rattle.ell_core.specs.declared.event.Act.{Act}
use Rattle.ell_core.specs.declared.event.Act.TheVariants as act
use Rattle.ell_core.specs.declared.event.Stepped.{Stepped}
use Rattle.ell_core.specs.declared.fact.Fact.TheVariants.{Marked}
use Rattle.ell_layout.specs.declared.field.Field.{Field}
use Rattle.ell_layout.specs.Words.{Words, is_flat}
use Rattle.ell_core.specs.state.Machine.{Machine, Scene, scene}
use Rattle.ell_layout.specs.Cards.{is_right, child_for, claimed, put_filling, value_below, delete_filling}
use Rattle.ell_core.specs.acts.Searching.{claims}
use Rattle.ell_core.specs.acts.Events.{Row}
use Rattle.ell_core.specs.tree.Tree.{OnWalk, here, next}
use Rattle.ell_trie.specs.Courses.{OnTrieCourse}
use Rattle.ell_core.specs.tree.Flat.{opening_from, IsInBlock}
use Rattle.ell_core.proofs.lemmas.stages.LaterKeys.{block_later}
use Rattle.ell_core.specs.history.Stages.{Stages, Born, IClaimed}
use Rattle.ell_core.specs.history.Invariant.{top, IsOnCourse, WordsAreSound, Invariant}
use Rattle.ell_core.specs.history.Later.{WordsLater, Follows}
use Rattle.ell_core.specs.statements.Looks.{CoursesGoOn}
use Rattle.ell_core.proofs.lemmas.tree.Reached.{joins_walk}
use Rattle.ell_core.proofs.lemmas.stages.Order.{born-claimed, marked_cases}
use Rattle.ell_core.proofs.lemmas.keeping.claim.Filling.{claimed_claims}
use Rattle.ell_core.proofs.lemmas.keeping.claim.Frames.{Claiming, course_kept}
use Rattle.ell_core.proofs.lemmas.keeping.delete_child.DChild.{dchild-won, dchild-lost}
use Rattle.ell_core.proofs.lemmas.keeping.delete_child.Tree.{cuts_at, cut_tree}
use Rattle.ell_core.proofs.lemmas.keeping.insert_child.IChild.{waits_or_made, won_waiting, lost_changed, brings}
use Rattle.ell_core.proofs.lemmas.keeping.AllEvents.{steps_follow}
use Rattle.ell_core.proofs.lemmas.following.TreeKeys.{SameLinks, KeepsLinks, row_links}
use Rattle.ell_core.proofs.lemmas.following.Walks.{Moved, moved_by}

-- a walk goes on to the child on the key's side
pub OnWalk-down : (w : Words) (key : ℕ) {x y : ℕ} → IsInternal y → OnWalk w key x y → OnWalk w key x (child_for w key y)
OnWalk-down w key {x = x} {y = y} inner (here e) = subst (λ n. OnWalk w key n (child_for w key y)) e (next inner (here refl))
OnWalk-down w key inner (next outer on) = next outer (OnWalk-down w key inner on)

-- where links are the same, courses are
links_course : (old new : Words) → SameLinks old new → (key x : ℕ) → IsOnCourse old key x → IsOnCourse new key x
links_course old new same key x on =
    subst (λ (t : Type 0). t) (λ t. OnTrieCourse (opening_from (sym same.flat t)) (sym same.key t) (sym same.child t) top key x) on

module _ (m : Machine) (stage : Stages) (i : ℕ) (said : Stepped) (becomes : Scene) (invariant : Invariant m stage) where
  -- a claim keeps courses
  course_claim : (tag : ℕ) (filling : List (Field × ℕ)) → becomes ≡ claims (scene m i) tag filling
      → (key x : ℕ) → Born stage x → IsOnCourse m.words key x → IsOnCourse becomes.words key x
  course_claim tag filling is key x born on =
      let claiming : Claiming m.words (claimed m.words tag filling) stage IClaimed =
      record { words = invariant.words; claims = claimed_claims m.words tag filling; fresh = inl refl } in
      subst (λ (s : Scene). IsOnCourse s.words key x) (sym is) (course_kept m.words (claimed m.words tag filling) stage IClaimed claiming key x born on)

  -- so does an act that keeps the links
  course_links : (a : Act) → KeepsLinks a → Row a (scene m i) said becomes → (key x : ℕ) → IsOnCourse m.words key x → IsOnCourse becomes.words key x
  course_links a keeps row key x on = links_course m.words becomes.words (row_links a keeps (scene m i) said becomes row) key x on

  -- and every other act
  pub course_by : (a : Act) → Row a (scene m i) said becomes
      → (key x : ℕ) → Born stage x → IsOnCourse m.words key x → IsOnCourse becomes.words key x
  course_by act.Claim (inl row) key x born on =
      course_claim row.parent.tag (put_filling (is_flat m.words) m.words.next row.what.key row.what.value row.node_key row.parent.node row.below (m.words.key row.below) (value_below m.words row.below)) row.gives key x born on
  course_by act.Claim (inr row) key x born on =
      course_claim row.grandparent.tag (delete_filling row.grandparent.node row.parent.node row.leaf row.parent.word) row.gives key x born on
  course_by (act.IChild c) row key x born on = elim (waits_or_made m stage i invariant c row.may) [
    | inl flagged ↦ subst (λ (s : Scene). IsOnCourse s.words key x) (sym (won_waiting m stage i invariant c flagged said becomes row).1)
        ((brings m.words stage invariant.words c flagged).course key x born on)
    | inr changed ↦ subst (λ (s : Scene). IsOnCourse s.words key x) (sym (lost_changed m stage i invariant c changed said becomes row).1) on
  ]
  course_by (act.DChild c) row key x born on = elim (marked_cases (stage c) ((invariant.workers.each i).facts (Marked c) row.may)) [
    | inl now ↦
        let at = cuts_at m.words stage invariant.words c now in
        subst (λ (s : Scene). IsOnCourse s.words key x) (sym (dchild-won c (scene m i) stage said becomes at row).1)
        ((cut_tree m.words stage invariant.words c at).course key x on)
    | inr cut ↦ subst (λ (s : Scene). IsOnCourse s.words key x) (sym (dchild-lost c (scene m i) stage said becomes invariant.words cut row).1) on
  ]
  course_by (act.Begin op) row key x born on = course_links (act.Begin op) tt row key x on
  course_by act.Upd row key x born on = course_links act.Upd tt row key x on
  course_by act.Down row key x born on = course_links act.Down tt row key x on
  course_by act.IFlag row key x born on = course_links act.IFlag tt row key x on
  course_by act.DFlag row key x born on = course_links act.DFlag tt row key x on
  course_by (act.IUnflag c) row key x born on = course_links (act.IUnflag c) tt row key x on
  course_by (act.Mark c) row key x born on = course_links (act.Mark c) tt row key x on
  course_by (act.DUnflag c) row key x born on = course_links (act.DUnflag c) tt row key x on
  course_by (act.Backtrack c) row key x born on = course_links (act.Backtrack c) tt row key x on
  course_by act.Again row key x born on = course_links act.Again tt row key x on
  course_by act.Leave row key x born on = course_links act.Leave tt row key x on
  course_by act.Answer row key x born on = course_links act.Answer tt row key x on

-- the child on the key's side is as it was, or the node is on the walk
child_or_walk : (old new : Words) (stage : Stages) → WordsAreSound old stage → WordsLater old new → (after : Stages) → WordsAreSound new after
    → (key x : ℕ) → Born stage x → Born after x → IsInBlock old x key → IsOnCourse new key x → Moved old new x (is_right old x key)
    → (child_for new key x ≡ child_for old key x) ⊎ OnWalk new key 0 x
child_or_walk old new stage sound words after sound' key x born born' there on moved = elim moved [
  | inl same ↦
      let side : is_right new x key ≡ is_right old x key =
      ap (λ n. nat_le n key) (words.key x ((sound.cards (card x)).claimed.0 (born-claimed (stage (card x)) (x % 4) born))) in
      inl (ap (new.child x) side ∙ same)
  | inr reached ↦ inr (joins_walk new sound'.tree.ordered (λ z right inner b. (sound'.children z inner b).born right) sound'.tree.trie key born' on (here refl) reached
      (block_later old new stage sound words x x key key refl refl born there))
]

-- courses go on, whatever the event is
pub courses_go_on : CoursesGoOn
courses_go_on m stage e said m' invariant h key x born on =
    let follows = steps_follow m stage e said m' invariant h in
    let happened = subst (Follows m stage e.act e.worker said) h.gives follows in
    let on' = subst (λ (t : Machine). IsOnCourse t.words key x) (sym h.gives)
    (course_by m stage e.worker said h.becomes invariant e.act h.happens.row key x born on) in (
      on',
      λ inner there. child_or_walk m.words m'.words stage invariant.words follows.words follows.stages follows.invariant.words key x born (follows.later.born x born) there on'
          (subst (λ (t : Machine). Moved m.words t.words x (is_right m.words x key)) (sym h.gives)
          (moved_by m stage e.worker said h.becomes invariant e.act h.happens.row happened x (is_right m.words x key) inner born)),
    )
