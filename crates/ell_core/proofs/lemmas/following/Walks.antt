use Rattle.std.proofs.Common.{◌≡◌, ◌%◌, ◌≢◌, ℕ, ◌/◌, if◌then◌else◌, ◌⊎◌, inl, inr, Bool, true, false, List, nat_le, refl, sym, ap, ◌∙◌, subst, arith}
use Rattle.std.proofs.lemmas.Bool.{cases_eq}
use Rattle.ell_word.specs.Node.{IsInternal, card}
use Rattle.ell_core.specs.declared.event.Act.{Act}
use Rattle.ell_core.specs.declared.event.Act.TheVariants as act
use Rattle.ell_core.specs.declared.event.Stepped.{Stepped}
use Rattle.ell_core.specs.declared.fact.Fact.TheVariants.{Cut}
use Rattle.ell_layout.specs.Words.{Words, relinked, is_flat}
use Rattle.ell_core.specs.state.Machine.{Machine, Scene, scene, with_scene}
use Rattle.ell_layout.specs.Cards.{marked, is_right, child_for, exchange_side, claimed, put_filling, value_below, delete_filling}
use Rattle.ell_layout.specs.declared.field.Field.{Field}
use Rattle.ell_core.specs.acts.Searching.{claims}
use Rattle.ell_core.specs.acts.Exchanges.{exchanged_child, finds_link}
use Rattle.ell_core.specs.acts.Events.{Row}
use Rattle.ell_core.specs.tree.Tree.{OnWalk, here, next, Reached}
use Rattle.ell_core.specs.history.Stages.{Stages, Born, IClaimed, is_cut}
use Rattle.ell_core.specs.history.Invariant.{WordsAreSound, Invariant}
use Rattle.ell_core.specs.history.Later.{WordsLater, Follows}
use Rattle.ell_core.specs.statements.Walks.{HaveCut, Avoids, RootsAvoid, EventsKeepAvoiding}
use Rattle.ell_core.proofs.lemmas.tree.Paths.{Below-refl, Reached-below}
use Rattle.ell_core.proofs.lemmas.tree.Reached.{Spans-reached, OnWalk-below, not_out}
use Rattle.ell_core.proofs.lemmas.stages.Order.{born-claimed, cut-delete, delete-claimed}
use Rattle.ell_core.proofs.lemmas.keeping.claim.Filling.{claimed_claims}
use Rattle.ell_core.proofs.lemmas.keeping.claim.Frames.{Claiming, child_kept}
use Rattle.ell_core.proofs.lemmas.keeping.AllEvents.{steps_follow}
use Rattle.ell_core.proofs.lemmas.following.TreeKeys.{KeepsLinks, row_links}
use Rattle.ell_word.specs.declared.link.Link.{Link}

-- a node that is cut out is not reached
cut_out : (w : Words) (stage : Stages) → WordsAreSound w stage → (c : ℕ) → is_cut (stage c) ≡ true → ¬ Reached w (w.p c)
cut_out w stage sound c cut reached = not_out w sound.tree.ordered (w.p c) reached ((sound.deletes c).cut cut).out

-- no walk from the root comes by a parent that was cut out
pub roots_avoid : RootsAvoid
roots_avoid m stage cards key invariant cut c has on =
    cut_out m.words stage invariant.words c (cut c has) (Reached-below m.words 0 (m.words.p c) (Below-refl m.words 0) (OnWalk-below m.words key on))

-- the child of a node is as it was, or the node is in the tree
abbrev pub Moved : Words → Words → ℕ → Bool → Type 0
Moved old new x right = (new.child x right ≡ old.child x right) ⊎ Reached new x

module _ (old new : Words) (stage : Stages) (sound : WordsAreSound old stage) (words : WordsLater old new)
    (moved : (x : ℕ) (right : Bool) → IsInternal x → Born stage x → Moved old new x right) where
  -- what is on a walk was on it before, or is in the tree
  pub walk_back : (key : ℕ) {x y : ℕ} → Born stage x → OnWalk new key x y → OnWalk old key x y ⊎ Reached new y
  walk_back key born (here e) = inl (here e)
  walk_back key {y = y} born (next {x = x} inner on) = elim (moved x (is_right new x key) inner born) [
    | inl same ↦
        let side : is_right new x key ≡ is_right old x key =
        ap (λ n. nat_le n key) (words.key x ((sound.cards (card x)).claimed.0 (born-claimed (stage (card x)) (x % 4) born))) in
        let down : child_for new key x ≡ child_for old key x = same ∙ ap (old.child x) side in
        let child_born = subst (Born stage) (sym down) ((sound.children x inner born).born (is_right old x key)) in
        elim (walk_back key child_born on) [
          | inl was ↦ inl (next inner (subst (λ n. OnWalk old key n y) down was))
          | inr there ↦ inr there
        ]
    | inr there ↦ inr (Reached-below new x y there (OnWalk-below new key (next inner on)))
  ]

-- a marked node is told from the others
pub marked_or_not : (u : ℕ) → ((c : ℕ) × (u ≡ marked c)) ⊎ ((c : ℕ) → u ≢ marked c)
marked_or_not u = elim (cases_eq u (marked (u / 4))) [
  | inl e ↦ inl (u / 4, e)
  | inr n ↦ inr (λ c e. n (omega arith))
]

-- a child exchange leaves the update words
child_update : (w : Words) (x : ℕ) (expected : Link) (new y : ℕ) → (exchanged_child w x expected new).update y ≡ w.update y
child_update w x expected new y = by (finds_link w x expected new)
  where
    by : (b : Bool) → (if b then relinked w x (exchange_side w x new) new else w).update y ≡ w.update y
    by true = refl
    by false = refl

module _ (m : Machine) (stage : Stages) (i : ℕ) (said : Stepped) (becomes : Scene) (invariant : Invariant m stage) where
  -- where update words are as they were, a child changes in the tree alone
  moved_calm : (a : Act) → Follows m stage a i said (with_scene m i becomes)
      → (x : ℕ) (right : Bool) → IsInternal x → Born stage x → becomes.words.update x ≡ m.words.update x → Moved m.words becomes.words x right
  moved_calm a follows x right inner born same = elim (marked_or_not (m.words.update x)) [
    | inl at ↦ inl ((follows.words.frozen x at.0 at.1).child right)
    | inr calm ↦
        let there = follows.invariant.words.tree.there x inner (follows.later.born x born) (λ c e. calm c (sym same ∙ e)) in
        inr (Spans-reached becomes.words there.spans)
  ]

  -- a claim changes no child of a node that came into the tree
  moved_claim : (tag : ℕ) (filling : List (Field × ℕ)) → becomes ≡ claims (scene m i) tag filling
      → (x : ℕ) (right : Bool) → Born stage x → Moved m.words becomes.words x right
  moved_claim tag filling is x right born =
      let claiming : Claiming m.words (claimed m.words tag filling) stage IClaimed =
      record { words = invariant.words; claims = claimed_claims m.words tag filling; fresh = inl refl } in
      inl (ap (λ (s : Scene). s.words.child x right) is ∙ child_kept m.words (claimed m.words tag filling) stage IClaimed claiming x right born)

  -- an act that keeps the links changes no child
  moved_links : (a : Act) → KeepsLinks a → Row a (scene m i) said becomes → (x : ℕ) (right : Bool) → Moved m.words becomes.words x right
  moved_links a keeps row x right = inl (ap (λ f. f x right) (row_links a keeps (scene m i) said becomes row).child)

  -- whatever the act is, the child of a node that came into the tree changes in the tree alone
  pub moved_by : (a : Act) → Row a (scene m i) said becomes → Follows m stage a i said (with_scene m i becomes)
      → (x : ℕ) (right : Bool) → IsInternal x → Born stage x → Moved m.words becomes.words x right
  moved_by act.Claim (inl row) follows x right inner born =
      moved_claim row.parent.tag (put_filling (is_flat m.words) m.words.next row.what.key row.what.value row.node_key row.parent.node row.below (m.words.key row.below) (value_below m.words row.below)) row.gives x right born
  moved_by act.Claim (inr row) follows x right inner born =
      moved_claim row.grandparent.tag (delete_filling row.grandparent.node row.parent.node row.leaf row.parent.word) row.gives x right born
  moved_by (act.IChild c) row follows x right inner born =
      moved_calm (act.IChild c) follows x right inner born
      (ap (λ (s : Scene). s.words.update x) row.gives ∙ child_update m.words _ _ _ x)
  moved_by (act.DChild c) row follows x right inner born =
      moved_calm (act.DChild c) follows x right inner born
      (ap (λ (s : Scene). s.words.update x) row.gives ∙ child_update m.words _ _ _ x)
  moved_by (act.Begin op) row follows x right inner born = moved_links (act.Begin op) tt row x right
  moved_by act.Upd row follows x right inner born = moved_links act.Upd tt row x right
  moved_by act.Down row follows x right inner born = moved_links act.Down tt row x right
  moved_by act.IFlag row follows x right inner born = moved_links act.IFlag tt row x right
  moved_by act.DFlag row follows x right inner born = moved_links act.DFlag tt row x right
  moved_by (act.IUnflag c) row follows x right inner born = moved_links (act.IUnflag c) tt row x right
  moved_by (act.Mark c) row follows x right inner born = moved_links (act.Mark c) tt row x right
  moved_by (act.DUnflag c) row follows x right inner born = moved_links (act.DUnflag c) tt row x right
  moved_by (act.Backtrack c) row follows x right inner born = moved_links (act.Backtrack c) tt row x right
  moved_by act.Again row follows x right inner born = moved_links act.Again tt row x right
  moved_by act.Leave row follows x right inner born = moved_links act.Leave tt row x right
  moved_by act.Answer row follows x right inner born = moved_links act.Answer tt row x right

  -- so a walk that avoids what was cut out goes on to
  avoids_on : (a : Act) → Row a (scene m i) said becomes → Follows m stage a i said (with_scene m i becomes)
      → (cards : ℕ → Bool) → HaveCut stage cards → (key x : ℕ) → Born stage x → Avoids m.words cards key x → Avoids becomes.words cards key x
  avoids_on a row follows cards cut key x born avoids c has on =
      let low = (invariant.words.cards c).claimed.0 (delete-claimed (stage c) (cut-delete (stage c) (cut c has))) in
      let same = (follows.words.info c low).p in
      elim (walk_back m.words becomes.words stage invariant.words follows.words (moved_by a row follows) key born on) [
        | inl was ↦ avoids c has (subst (OnWalk m.words key x) same was)
        | inr there ↦ cut_out becomes.words follows.stages follows.invariant.words c (follows.later.told (Cut c) c (cut c has)) there
      ]

-- every event keeps it so
pub events_keep_avoiding : EventsKeepAvoiding
events_keep_avoiding m stage e said m' invariant h cards cut key x born avoids =
    let follows = subst (Follows m stage e.act e.worker said) h.gives (steps_follow m stage e said m' invariant h) in
    subst (λ (t : Machine). Avoids t.words cards key x) (sym h.gives)
    (avoids_on m stage e.worker said h.becomes invariant e.act h.happens.row follows cards cut key x born avoids)
