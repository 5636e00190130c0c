use Rattle.std.proofs.Common.{◌≡◌, ℕ, ◌<◌, if◌then◌else◌, inl, inr, Bool, true, false, not, Some, refl, sym, ap, ◌∙◌, subst, arith}
use Rattle.std.proofs.lemmas.Bool.{false≢true}
use Rattle.ell_word.specs.Node.{IsInternal, card, internal, right_leaf}
use Rattle.ell_core.specs.declared.exchange.Exchange.TheVariants as exchange
use Rattle.ell_core.specs.declared.event.Act.{Act}
use Rattle.ell_core.specs.declared.event.Act.TheVariants as act
use Rattle.ell_core.specs.declared.event.Event.{Event}
use Rattle.ell_core.specs.declared.event.Stepped.{Stepped}
use Rattle.ell_core.specs.declared.fact.Fact.TheVariants.{Marked}
use Rattle.ell_layout.specs.Words.{Words}
use Rattle.ell_layout.specs.Cards.{is_replace_card, brought, keeps_below, sibling}
use Rattle.ell_core.specs.state.Machine.{Machine, Scene, scene, with_scene}
use Rattle.ell_core.specs.acts.Events.{Row, Steps}
use Rattle.ell_core.specs.acts.Wins.{win_for, wins_by}
use Rattle.ell_core.specs.history.Stages.{Stages, IFlagged, DMarked, Born, is_insert, is_delete, is_changed}
use Rattle.ell_core.specs.history.Invariant.{leaf_side, insert_side, delete_side, Invariant}
use Rattle.ell_core.specs.history.Later.{Follows}
use Rattle.ell_grace.specs.Gone.{OutsAreSound}
use Rattle.ell_grace.specs.Dead.{IsUnused, UsesAreSound}
use Rattle.ell_core.proofs.lemmas.words.Later.{child_there, child_elsewhere}
use Rattle.ell_core.proofs.lemmas.stages.Below.{keeps-none, keeps_later}
use Rattle.ell_core.proofs.lemmas.stages.Order.{insert-claimed, changed-insert, one_kind, marked_cases}
use Rattle.ell_core.proofs.lemmas.stages.Sums.{child_changes, sum_by, sum_same, changed-sum, none_won}
use Rattle.ell_core.proofs.lemmas.following.Children.{row_children}
use Rattle.ell_core.proofs.lemmas.keeping.insert_child.Card.{ichild_words, its_card, its_flag, its_child}
use Rattle.ell_core.proofs.lemmas.keeping.insert_child.IChild.{waits_or_made, won_waiting, lost_changed}
use Rattle.ell_core.proofs.lemmas.keeping.delete_child.DChild.{dchild-won, dchild-lost}
use Rattle.ell_core.proofs.lemmas.keeping.delete_child.Tree.{cut_words, CutsAt, cuts_at}
use Rattle.ell_grace.proofs.lemmas.outs.Taken.{takes-acted, born_low}
use Rattle.ell_grace.proofs.lemmas.outs.Newly.{only}
use Rattle.ell_grace.proofs.lemmas.outs.Inserts.{i_leaf}
use Rattle.ell_grace.proofs.lemmas.outs.Deletes.{d_nodes}
use Rattle.ell_grace.proofs.lemmas.dead.Frames.{brought_same, side_same}
use Rattle.ell_grace.proofs.lemmas.dead.Kept.{quiet_kept, ichild_kept, dchild_kept}
use Rattle.ell_grace.proofs.lemmas.dead.Used.{as_it_was, uses_from}

module _ (m : Machine) (stage : Stages) (i : ℕ) (a : Act) (said : Stepped) (becomes : Scene) (invariant : Invariant m stage)
    (row : Row a (scene m i) said becomes) (follows : Follows m stage a i said (with_scene m i becomes)) (outs : OutsAreSound m.words stage)
    (uses : UsesAreSound m.words stage) where
  -- where no child exchange is won
  quiet_uses : ((d : ℕ) → sum_by child_changes (wins_by a (m.worker i).card said d) ≡ 0) → UsesAreSound becomes.words follows.stages
  quiet_uses none = uses_from m stage i a said becomes invariant row follows outs uses (record {
    was = λ x inner born right. as_it_was m stage i a said becomes invariant row follows outs uses x inner born right
        (becomes.words.child x right) (kids x born right);
    fresh = λ c zero changed.
        let some = changed-sum (follows.stages c) changed in
        let same = sum_same child_changes (stage c) (follows.stages c) _ (follows.wins c) (none c) in
        absurd (omega arith);
    out = λ c x zero takes.
        let some = takes-acted becomes.words follows.stages c x takes in
        let same = sum_same child_changes (stage c) (follows.stages c) _ (follows.wins c) (none c) in
        absurd (omega arith);
    still = λ c had flag right. kids (m.words.p c) ((invariant.words.cards c).insert (changed-insert (stage c) had)).parent.born right;
  }) (quiet_kept m stage i a said becomes invariant row follows outs none uses.kept)
    where
      kids : (x : ℕ) → Born stage x → (right : Bool) → becomes.words.child x right ≡ m.words.child x right
      kids x born right = row_children a (scene m i) said becomes row none x right (born_low m.words stage invariant.words x born)

-- where an insert's card wins its child exchange
module _ (m : Machine) (stage : Stages) (i : ℕ) (c : ℕ) (said : Stepped) (becomes : Scene) (invariant : Invariant m stage)
    (row : Row (act.IChild c) (scene m i) said becomes) (follows : Follows m stage (act.IChild c) i said (with_scene m i becomes))
    (outs : OutsAreSound m.words stage) (uses : UsesAreSound m.words stage) (flagged : stage c ≡ IFlagged) where
  i_words : becomes.words ≡ ichild_words m.words c (brought m.words c)
  i_words = ap (λ (s : Scene). s.words) (won_waiting m stage i invariant c flagged said becomes row).1

  i_wins : (d : ℕ) → wins_by (act.IChild c) (m.worker i).card said d ≡ win_for (Some c) exchange.IChild d
  i_wins d = ap (λ (t : Stepped). wins_by (act.IChild c) (m.worker i).card t d) (won_waiting m stage i invariant c flagged said becomes row).0

  i_low : c < m.words.next
  i_low = (invariant.words.cards c).claimed.0 (insert-claimed (stage c) (ap is_insert flagged))

  -- the node that it brings is no leaf that nobody uses
  brings_used : ¬ IsUnused becomes.words follows.stages (brought m.words c)
  brings_used = by (is_replace_card m.words c) refl
    where
      by : (b : Bool) → is_replace_card m.words c ≡ b → ¬ IsUnused becomes.words follows.stages (if b then right_leaf c else internal c)
      by false two unused = unused.2 (omega arith)
      by true one unused =
          let on : card (right_leaf c) ≡ c = omega arith in
          false≢true (sym (keeps-none m.words c one) ∙ (sym (keeps_later m.words becomes.words follows.words c i_low) ∙ (ap (keeps_below becomes.words) (sym on) ∙ unused.1)))

  ichild_uses : UsesAreSound becomes.words follows.stages
  ichild_uses = uses_from m stage i (act.IChild c) said becomes invariant row follows outs uses (record {
    was = λ x inner born right. elim (child_elsewhere m.words (m.words.p c) (brought m.words c) (insert_side m.words c) x right) [
      | inl e ↦ subst (λ y. ¬ IsUnused becomes.words follows.stages y)
          (sym (ap (λ (n : Words). n.child x right) i_words ∙ (ap (λ y. (ichild_words m.words c (brought m.words c)).child y right) e.0
          ∙ (ap ((ichild_words m.words c (brought m.words c)).child (m.words.p c)) e.1 ∙ child_there m.words (m.words.p c) (brought m.words c) (insert_side m.words c)))))
          brings_used
      | inr e ↦ as_it_was m stage i (act.IChild c) said becomes invariant row follows outs uses x inner born right
          (becomes.words.child x right) (ap (λ (n : Words). n.child x right) i_words ∙ e)
    ];
    fresh = λ d zero changed.
        let same = only m stage i (act.IChild c) said becomes invariant row follows outs c exchange.IChild i_wins d zero (changed-sum (follows.stages d) changed) in
        subst (λ n. becomes.words.child (becomes.words.p n) (insert_side becomes.words n) ≡ brought becomes.words n) (sym same) made;
    out = λ d x zero takes.
        let same = only m stage i (act.IChild c) said becomes invariant row follows outs c exchange.IChild i_wins d zero
        (takes-acted becomes.words follows.stages d x takes) in
        let leaf = (i_leaf m stage i c said becomes invariant row follows outs flagged d x same takes).0 in
        let said_card = its_card m.words stage invariant.words c flagged in (
          subst (Born stage) leaf said_card.lower,
          subst (λ y. ¬ IsUnused m.words stage y) (its_child m.words stage invariant.words c flagged ∙ leaf)
              (uses.used (m.words.p c) said_card.parent.inner said_card.parent.born (insert_side m.words c)),
        );
    still = λ d had flag right.
        ap (λ (n : Words). n.child (m.words.p d) right) i_words
        ∙ elim (child_elsewhere m.words (m.words.p c) (brought m.words c) (insert_side m.words c) (m.words.p d) right) [
          | inl e ↦
              let mine = its_flag m.words stage invariant.words c flagged in
              let place = ap m.words.update e.0 in
              let same : d ≡ c = omega arith in
              absurd (false≢true (sym (ap is_changed flagged) ∙ (ap (λ n. is_changed (stage n)) (sym same) ∙ had)))
          | inr e ↦ e
        ];
  }) (ichild_kept m stage i c said becomes invariant row follows outs flagged uses.kept)
    where
      made : becomes.words.child (becomes.words.p c) (insert_side becomes.words c) ≡ brought becomes.words c
      made =
          ap (λ x. becomes.words.child x (insert_side becomes.words c)) (follows.words.info c i_low).p
          ∙ (ap (becomes.words.child (m.words.p c)) (side_same m.words stage invariant.words becomes.words follows.stages follows.invariant.words
          follows.words follows.later c i_low (its_card m.words stage invariant.words c flagged))
          ∙ (ap (λ (n : Words). n.child (m.words.p c) (insert_side m.words c)) i_words
          ∙ (child_there m.words (m.words.p c) (brought m.words c) (insert_side m.words c)
          ∙ sym (brought_same m.words stage invariant.words becomes.words follows.stages follows.invariant.words follows.words follows.later c i_low))))

-- where a delete's card wins its child exchange
module _ (m : Machine) (stage : Stages) (i : ℕ) (c : ℕ) (said : Stepped) (becomes : Scene) (invariant : Invariant m stage)
    (row : Row (act.DChild c) (scene m i) said becomes) (follows : Follows m stage (act.DChild c) i said (with_scene m i becomes))
    (outs : OutsAreSound m.words stage) (uses : UsesAreSound m.words stage) (now : stage c ≡ DMarked) where
  d_at : CutsAt m.words stage c
  d_at = cuts_at m.words stage invariant.words c now

  d_words : becomes.words ≡ cut_words m.words c
  d_words = ap (λ (s : Scene). s.words) (dchild-won c (scene m i) stage said becomes d_at row).1

  d_wins : (d : ℕ) → wins_by (act.DChild c) (m.worker i).card said d ≡ win_for (Some c) exchange.DChild d
  d_wins d = ap (λ (t : Stepped). wins_by (act.DChild c) (m.worker i).card t d) (dchild-won c (scene m i) stage said becomes d_at row).0

  dchild_uses : UsesAreSound becomes.words follows.stages
  dchild_uses = uses_from m stage i (act.DChild c) said becomes invariant row follows outs uses (record {
    was = λ x inner born right. elim (child_elsewhere m.words (m.words.gp c) (sibling m.words c) (delete_side m.words c) x right) [
      | inl e ↦ as_it_was m stage i (act.DChild c) said becomes invariant row follows outs uses (m.words.p c) d_at.parent.inner d_at.parent.born
          (not (leaf_side m.words c)) (becomes.words.child x right)
          (ap (λ (n : Words). n.child x right) d_words ∙ (ap (λ y. (cut_words m.words c).child y right) e.0
          ∙ (ap ((cut_words m.words c).child (m.words.gp c)) e.1
          ∙ (child_there m.words (m.words.gp c) (sibling m.words c) (delete_side m.words c) ∙ sym d_at.sibling_there))))
      | inr e ↦ as_it_was m stage i (act.DChild c) said becomes invariant row follows outs uses x inner born right
          (becomes.words.child x right) (ap (λ (n : Words). n.child x right) d_words ∙ e)
    ];
    fresh = λ d zero changed.
        let same = only m stage i (act.DChild c) said becomes invariant row follows outs c exchange.DChild d_wins d zero (changed-sum (follows.stages d) changed) in
        absurd (one_kind (follows.stages c) (changed-insert (follows.stages c) (subst (λ n. is_changed (follows.stages n) ≡ true) same changed))
        (follows.later.delete c (ap is_delete now)));
    out = λ d x zero takes.
        let same = only m stage i (act.DChild c) said becomes invariant row follows outs c exchange.DChild d_wins d zero
        (takes-acted becomes.words follows.stages d x takes) in
        elim (d_nodes m stage i c said becomes invariant row follows outs now d x same takes) [
          | inl p ↦ (subst (Born stage) p d_at.parent.born, λ unused. unused.2 (subst IsInternal p d_at.parent.inner))
          | inr l ↦ (
            subst (Born stage) l d_at.leaf.born,
            subst (λ y. ¬ IsUnused m.words stage y) (d_at.leaf_there ∙ l) (uses.used (m.words.p c) d_at.parent.inner d_at.parent.born (leaf_side m.words c)),
          )
        ];
    still = λ d had flag right.
        ap (λ (n : Words). n.child (m.words.p d) right) d_words
        ∙ elim (child_elsewhere m.words (m.words.gp c) (sibling m.words c) (delete_side m.words c) (m.words.p d) right) [
          | inl e ↦ (let mine = d_at.flag in let place = ap m.words.update e.0 in absurd (omega arith))
          | inr e ↦ e
        ];
  }) (dchild_kept m stage i c said becomes invariant row follows outs now uses.kept)

-- what is used after any act
uses_by : (m : Machine) (stage : Stages) (i : ℕ) (a : Act) (said : Stepped) (becomes : Scene) → Invariant m stage → Row a (scene m i) said becomes
    → (follows : Follows m stage a i said (with_scene m i becomes)) → OutsAreSound m.words stage → UsesAreSound m.words stage
    → UsesAreSound becomes.words follows.stages
uses_by m stage i (act.IChild c) said becomes invariant row follows outs uses = elim (waits_or_made m stage i invariant c row.may) [
  | inl flagged ↦ ichild_uses m stage i c said becomes invariant row follows outs uses flagged
  | inr changed ↦ quiet_uses m stage i (act.IChild c) said becomes invariant row follows outs uses
      (λ d. ap (λ (t : Stepped). sum_by child_changes (wins_by (act.IChild c) (m.worker i).card t d)) (lost_changed m stage i invariant c changed said becomes row).0)
]
uses_by m stage i (act.DChild c) said becomes invariant row follows outs uses =
    elim (marked_cases (stage c) ((invariant.workers.each i).facts (Marked c) row.may)) [
      | inl now ↦ dchild_uses m stage i c said becomes invariant row follows outs uses now
      | inr cut ↦ quiet_uses m stage i (act.DChild c) said becomes invariant row follows outs uses
          (λ d. ap (λ (t : Stepped). sum_by child_changes (wins_by (act.DChild c) (m.worker i).card t d))
          (dchild-lost c (scene m i) stage said becomes invariant.words cut row).0)
    ]
uses_by m stage i (act.Begin op) said becomes invariant row follows outs uses =
    quiet_uses m stage i (act.Begin op) said becomes invariant row follows outs uses (λ d. none_won child_changes (act.Begin op) (m.worker i).card said d refl)
uses_by m stage i (act.IUnflag c) said becomes invariant row follows outs uses =
    quiet_uses m stage i (act.IUnflag c) said becomes invariant row follows outs uses (λ d. none_won child_changes (act.IUnflag c) (m.worker i).card said d refl)
uses_by m stage i (act.Mark c) said becomes invariant row follows outs uses =
    quiet_uses m stage i (act.Mark c) said becomes invariant row follows outs uses (λ d. none_won child_changes (act.Mark c) (m.worker i).card said d refl)
uses_by m stage i (act.DUnflag c) said becomes invariant row follows outs uses =
    quiet_uses m stage i (act.DUnflag c) said becomes invariant row follows outs uses (λ d. none_won child_changes (act.DUnflag c) (m.worker i).card said d refl)
uses_by m stage i (act.Backtrack c) said becomes invariant row follows outs uses =
    quiet_uses m stage i (act.Backtrack c) said becomes invariant row follows outs uses (λ d. none_won child_changes (act.Backtrack c) (m.worker i).card said d refl)
uses_by m stage i a said becomes invariant row follows outs uses =
    quiet_uses m stage i a said becomes invariant row follows outs uses (λ d. none_won child_changes a (m.worker i).card said d refl)

-- so every event keeps it so
pub uses_go_on : (m : Machine) (stage : Stages) (e : Event) (said : Stepped) (m' : Machine) → Invariant m stage → Steps m e said m'
    → (follows : Follows m stage e.act e.worker said m') → OutsAreSound m.words stage → UsesAreSound m.words stage → UsesAreSound m'.words follows.stages
uses_go_on m stage e said m' invariant h follows outs uses =
    subst (λ (t : Machine). (f : Follows m stage e.act e.worker said t) → UsesAreSound t.words f.stages) (sym h.gives)
    (λ f. uses_by m stage e.worker e.act said h.becomes invariant h.happens.row f outs uses) follows
