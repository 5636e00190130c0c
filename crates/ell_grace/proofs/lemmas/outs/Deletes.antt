use Rattle.std.proofs.Common.{◌≡◌, ◌≢◌, ℕ, ◌<◌, ◌⊎◌, inl, inr, Bool, true, Some, refl, sym, ap, ◌∙◌, subst, arith}
use Rattle.std.proofs.lemmas.Bool.{cases_eq}
use Rattle.ell_core.specs.declared.exchange.Exchange.TheVariants as exchange
use Rattle.ell_core.specs.declared.event.Act.TheVariants as act
use Rattle.ell_core.specs.declared.event.Stepped.{Stepped}
use Rattle.ell_layout.specs.Words.{Words}
use Rattle.ell_layout.specs.Cards.{dflag, marked, sibling}
use Rattle.ell_core.specs.state.Machine.{Machine, Scene, scene, with_scene}
use Rattle.ell_core.specs.acts.Events.{Row}
use Rattle.ell_core.specs.acts.Wins.{win_for, wins_by}
use Rattle.ell_core.specs.tree.Tree.{Reached}
use Rattle.ell_core.specs.tree.Rank.{rank}
use Rattle.ell_core.specs.history.Stages.{Stages, DMarked, is_delete, is_changed}
use Rattle.ell_core.specs.history.Invariant.{delete_side, leaf_side, WordsAreSound, Invariant}
use Rattle.ell_core.specs.history.Later.{Follows}
use Rattle.ell_grace.specs.Gone.{TakesOut, OutsAreSound}
use Rattle.ell_core.proofs.lemmas.words.Later.{child_there, child_elsewhere}
use Rattle.ell_core.proofs.lemmas.tree.Paths.{Reached-child}
use Rattle.ell_core.proofs.lemmas.tree.Reached.{not_out, leads_any, leaf_leads}
use Rattle.ell_core.proofs.lemmas.stages.Order.{changed-insert, cut-marked, delete-claimed, one_kind}
use Rattle.ell_core.proofs.lemmas.keeping.delete_child.DChild.{dchild-won}
use Rattle.ell_core.proofs.lemmas.keeping.delete_child.Tree.{cut_words, CutsAt, cuts_at, CutTree, cut_tree}
use Rattle.ell_grace.proofs.lemmas.outs.Taken.{acted, takes-acted, acted_claimed, calm_reached}
use Rattle.ell_grace.proofs.lemmas.outs.Kept.{sibling_same}
use Rattle.ell_grace.proofs.lemmas.outs.Newly.{outs_from, sibling_on, only, had_acted}

-- a won child exchange of a delete's card
module _ (w : Words) (stage : Stages) (sound : WordsAreSound w stage) (c : ℕ) (at : CutsAt w stage c) where
  abbrev tree : CutTree w stage c
  tree = cut_tree w stage sound c at

  -- parent and leaf were in the tree
  pub parent_had : Reached w (w.p c)
  parent_had = subst (Reached w) at.waits (Reached-child w (w.gp c) (delete_side w c)
      (calm_reached w stage sound (w.gp c) at.grandparent.inner at.grandparent.born (λ d e. let flag = at.flag in omega arith)) at.grandparent.inner)

  pub leaf_had : Reached w (w.l c)
  leaf_had = subst (Reached w) at.leaf_there (Reached-child w (w.p c) (leaf_side w c) parent_had at.parent.inner)

  -- and are not any more
  parent_gone : ¬ Reached (cut_words w c) (w.p c)
  parent_gone there = not_out (cut_words w c) tree.ordered (w.p c) there tree.out

  leaf_gone : ¬ Reached (cut_words w c) (w.l c)
  leaf_gone there = tree.gone (leads_any (cut_words w c) (w.key (w.l c)) (w.value (w.l c)) 0 (leaf_leads (cut_words w c) tree.ordered (w.l c) there at.leaf.outer))

  -- the sibling stands in the parent's place
  cut_sibling : (cut_words w c).child (w.gp c) (delete_side w c) ≡ sibling (cut_words w c) c
  cut_sibling = child_there w (w.gp c) (sibling w c) (delete_side w c) ∙ sym (sibling_same w (cut_words w c) c refl refl
      (λ right. elim (child_elsewhere w (w.gp c) (sibling w c) (delete_side w c) (w.p c) right) [
        | inl e ↦ absurd (let a = at.first in let d = ap (rank w) e.0 in omega arith)
        | inr e ↦ e
      ]))

-- the outs after a won child exchange of a delete's card
module _ (m : Machine) (stage : Stages) (i : ℕ) (c : ℕ) (said : Stepped) (becomes : Scene) (invariant : Invariant m stage)
    (row : Row (act.DChild c) (scene m i) said becomes) (follows : Follows m stage (act.DChild c) i said (with_scene m i becomes))
    (outs : OutsAreSound m.words stage) (now : stage c ≡ DMarked) where
  abbrev d_at : CutsAt m.words stage c
  d_at = cuts_at m.words stage invariant.words c now

  d_words : becomes.words ≡ cut_words m.words c
  d_words = ap (λ (s : Scene). s.words) (dchild-won c (scene m i) stage said becomes d_at row).1

  d_wins : (d : ℕ) → wins_by (act.DChild c) (m.worker i).card said d ≡ win_for (Some c) exchange.DChild d
  d_wins d = ap (λ (t : Stepped). wins_by (act.DChild c) (m.worker i).card t d) (dchild-won c (scene m i) stage said becomes d_at row).0

  d_only : (d : ℕ) → acted (stage d) ≡ 0 → 0 < acted (follows.stages d) → d ≡ c
  d_only = only m stage i (act.DChild c) said becomes invariant row follows outs c exchange.DChild d_wins

  d_delete : is_delete (follows.stages c) ≡ true
  d_delete = follows.later.delete c (ap is_delete now)

  d_low : c < m.words.next
  d_low = (invariant.words.cards c).claimed.0 (delete-claimed (stage c) (ap is_delete now))

  -- parent and leaf are what it has taken
  pub d_nodes : (d x : ℕ) → d ≡ c → TakesOut becomes.words follows.stages d x → (m.words.p c ≡ x) ⊎ (m.words.l c ≡ x)
  d_nodes d x e (inl h) = absurd (one_kind (follows.stages c) (changed-insert (follows.stages c) (subst (λ n. is_changed (follows.stages n) ≡ true) e h.0)) d_delete)
  d_nodes d x e (inr h) = elim h.1 [
    | inl p ↦ inl (sym (follows.words.info c d_low).p ∙ (ap becomes.words.p (sym e) ∙ p))
    | inr l ↦ inr (sym (follows.words.info c d_low).l ∙ (ap becomes.words.l (sym e) ∙ l))
  ]

  d_kids : (x : ℕ) → m.words.update x ≢ dflag c → (right : Bool) → becomes.words.child x right ≡ m.words.child x right
  d_kids x other right =
      ap (λ (n : Words). n.child x right) d_words ∙ elim (child_elsewhere m.words (m.words.gp c) (sibling m.words c) (delete_side m.words c) x right) [
        | inl e ↦ absurd (other (ap m.words.update e.0 ∙ d_at.flag))
        | inr e ↦ e
      ]

  d_update : (x : ℕ) → becomes.words.update x ≡ m.words.update x
  d_update x = ap (λ (n : Words). n.update x) d_words

  d_had : (x : ℕ) → (m.words.p c ≡ x) ⊎ (m.words.l c ≡ x) → Reached m.words x
  d_had x (inl p) = subst (Reached m.words) p (parent_had m.words stage invariant.words c d_at)
  d_had x (inr l) = subst (Reached m.words) l (leaf_had m.words stage invariant.words c d_at)

  d_out : (x : ℕ) → (m.words.p c ≡ x) ⊎ (m.words.l c ≡ x) → ¬ Reached (cut_words m.words c) x
  d_out x (inl p) there = parent_gone m.words stage invariant.words c d_at (subst (Reached (cut_words m.words c)) (sym p) there)
  d_out x (inr l) there = leaf_gone m.words stage invariant.words c d_at (subst (Reached (cut_words m.words c)) (sym l) there)

  pub dchild_outs : OutsAreSound becomes.words follows.stages
  dchild_outs = outs_from m stage i (act.DChild c) said becomes invariant row follows outs (record {
    reached = λ d x zero takes. d_had x (d_nodes d x (d_only d zero (takes-acted becomes.words follows.stages d x takes)) takes);
    out = λ d x zero takes there.
        d_out x (d_nodes d x (d_only d zero (takes-acted becomes.words follows.stages d x takes)) takes)
        (subst (λ (n : Words). Reached n x) d_words there);
    one = λ d d' zero some zero' some'. d_only d zero some ∙ sym (d_only d' zero' some');
    sibling = λ d cut still. elim (cases_eq d c) [
      | inl e ↦ subst (λ n. becomes.words.child (becomes.words.gp n) (delete_side becomes.words n) ≡ sibling becomes.words n) (sym e)
          (subst (λ (n : Words). n.child (n.gp c) (delete_side n c) ≡ sibling n c) (sym d_words) (cut_sibling m.words stage invariant.words c d_at))
      | inr n ↦
          let some = had_acted m stage i (act.DChild c) said becomes invariant row follows outs c exchange.DChild d_wins d n cut in
          let info = follows.words.info d (acted_claimed m.words stage invariant.words d some) in
          let does = follows.invariant.words.deletes d in
          let flag = sym (d_update (becomes.words.gp d)) ∙ does.flag still in
          let mark = sym (d_update (becomes.words.p d)) ∙ (does.marked (cut-marked (follows.stages d) cut)).mark in
          let flag_here : m.words.update (m.words.gp d) ≡ dflag d = ap m.words.update (sym info.gp) ∙ flag in
          let mark_here : m.words.update (m.words.p d) ≡ marked d = ap m.words.update (sym info.p) ∙ mark in
          sibling_on m stage i (act.DChild c) said becomes invariant row follows outs d some cut still
          (d_kids (m.words.gp d) (λ e. n (omega arith))) (d_kids (m.words.p d) (λ e. omega arith))
    ];
  })
