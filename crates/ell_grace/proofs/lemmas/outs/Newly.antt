use Rattle.std.proofs.Common.{◌≡◌, ◌≢◌, ℕ, ◌<◌, if◌then◌else◌, inl, inr, Bool, true, Some, List, [], ◌∷◌, sym, ap, ◌∙◌, arith}
use Rattle.std.proofs.lemmas.Bool.{cases_eq, ne_eqb}
use Rattle.ell_core.specs.declared.exchange.Exchange.{Exchange}
use Rattle.ell_core.specs.declared.event.Act.{Act}
use Rattle.ell_core.specs.declared.event.Stepped.{Stepped}
use Rattle.ell_core.specs.declared.fact.Fact.TheVariants.{DOver}
use Rattle.ell_layout.specs.Words.{Words}
use Rattle.ell_layout.specs.Cards.{sibling}
use Rattle.ell_core.specs.state.Machine.{Machine, Scene, scene, with_scene}
use Rattle.ell_core.specs.acts.Events.{Row}
use Rattle.ell_core.specs.acts.Wins.{win_for, wins_by}
use Rattle.ell_core.specs.tree.Tree.{Reached}
use Rattle.ell_core.specs.history.Stages.{Stages, Born, is_changed, is_cut, delete_open}
use Rattle.ell_core.specs.history.Invariant.{delete_side, Invariant}
use Rattle.ell_core.specs.history.Later.{Follows}
use Rattle.ell_grace.specs.Gone.{TakesOut, OutsAreSound}
use Rattle.ell_core.proofs.lemmas.tree.Reached.{Spans-reached, not_out}
use Rattle.ell_core.proofs.lemmas.stages.Order.{changed-insert, cut-delete, one_kind}
use Rattle.ell_core.proofs.lemmas.stages.Below.{keeps_later}
use Rattle.ell_core.proofs.lemmas.stages.Sums.{child_changes, sum_by, cut-sum, sum-changed, sum_same}
use Rattle.ell_core.proofs.lemmas.following.Children.{row_children}
use Rattle.ell_grace.proofs.lemmas.outs.Taken.{over_or_open, over_shut, zero_or_more, acted, takes-acted, acted_claimed, taken_born, born_low}
use Rattle.ell_grace.proofs.lemmas.outs.Kept.{sibling_same, side_same, out_by}

-- what a card has taken out that had not acted before was in the tree and is not, and there is one such card at most; and the
-- siblings of deletes stand where they should
pub record Newly (old : Words) (stage : Stages) (new : Words) (stages : Stages) : Type 0 where
  pub reached : (c x : ℕ) → acted (stage c) ≡ 0 → TakesOut new stages c x → Reached old x
  pub out : (c x : ℕ) → acted (stage c) ≡ 0 → TakesOut new stages c x → ¬ Reached new x
  pub one : (c d : ℕ) → acted (stage c) ≡ 0 → 0 < acted (stages c) → acted (stage d) ≡ 0 → 0 < acted (stages d) → c ≡ d
  pub sibling : (c : ℕ) → is_cut (stages c) ≡ true → delete_open (stages c) ≡ true → new.child (new.gp c) (delete_side new c) ≡ sibling new c

module _ (m : Machine) (stage : Stages) (i : ℕ) (a : Act) (said : Stepped) (becomes : Scene) (invariant : Invariant m stage)
    (row : Row a (scene m i) said becomes) (follows : Follows m stage a i said (with_scene m i becomes)) (outs : OutsAreSound m.words stage) where
  abbrev old : Words
  old = m.words

  abbrev new : Words
  new = becomes.words

  abbrev stages : Stages
  stages = follows.stages

  abbrev won : ℕ → List Exchange
  won c = wins_by a (m.worker i).card said c

  -- what was out is out
  unreached : (x : ℕ) → Born stage x → ¬ Reached old x → ¬ Reached new x
  unreached x born none there =
      not_out new follows.invariant.words.tree.ordered x there
      (out_by m stage i said becomes invariant a row x born (λ low high spans. none (Spans-reached old spans)))

  -- a card keeps its kind
  still_insert : (c : ℕ) → is_changed (stage c) ≡ true → is_cut (stages c) ≡ true → ⊥
  still_insert c changed cut =
      one_kind (stages c) (follows.later.insert c (changed-insert (stage c) changed)) (cut-delete (stages c) cut)

  still_delete : (c : ℕ) → is_cut (stage c) ≡ true → is_changed (stages c) ≡ true → ⊥
  still_delete c cut changed =
      one_kind (stages c) (changed-insert (stages c) changed) (follows.later.delete c (cut-delete (stage c) cut))

  -- what a card that had acted has taken out, it had
  pub had_taken : (c x : ℕ) → 0 < acted (stage c) → TakesOut new stages c x → TakesOut old stage c x
  had_taken c x some takes =
      let info = follows.words.info c (acted_claimed old stage invariant.words c some) in
      elim (sum-changed (stage c) some) [
        | inl changed ↦ elim takes [
          | inl h ↦ inl (changed, sym (keeps_later old new follows.words c (acted_claimed old stage invariant.words c some)) ∙ h.1, sym info.l ∙ h.2)
          | inr h ↦ absurd (still_insert c changed h.0)
        ]
        | inr cut ↦ elim takes [
          | inl h ↦ absurd (still_delete c cut h.0)
          | inr h ↦ inr (cut, elim h.1 [ inl p ↦ inl (sym info.p ∙ p) | inr l ↦ inr (sym info.l ∙ l) ])
        ]
      ]

  -- so the outs go on
  pub outs_from : Newly old stage new stages → OutsAreSound new stages
  outs_from newly = record {
    out = λ c x takes. elim (zero_or_more (acted (stage c))) [
      | inl none ↦ newly.out c x none takes
      | inr some ↦ (let had = had_taken c x some takes in unreached x (taken_born old stage invariant.words c x had) (outs.out c x had))
    ];
    once = λ c d x first second. elim (zero_or_more (acted (stage c))) [
      | inl none ↦ elim (zero_or_more (acted (stage d))) [
        | inl neither ↦ newly.one c d none (takes-acted new stages c x first) neither (takes-acted new stages d x second)
        | inr some ↦ absurd (outs.out d x (had_taken d x some second) (newly.reached c x none first))
      ]
      | inr some ↦ elim (zero_or_more (acted (stage d))) [
        | inl none ↦ absurd (outs.out c x (had_taken c x some first) (newly.reached d x none second))
        | inr both ↦ outs.once c d x (had_taken c x some first) (had_taken d x both second)
      ]
    ];
    sibling = newly.sibling;
  }

  -- the sibling of a card that had acted is where it was, if the children of its nodes are
  pub sibling_on : (c : ℕ) → 0 < acted (stage c) → is_cut (stages c) ≡ true → delete_open (stages c) ≡ true
      → ((right : Bool) → new.child (old.gp c) right ≡ old.child (old.gp c) right)
      → ((right : Bool) → new.child (old.p c) right ≡ old.child (old.p c) right)
      → new.child (new.gp c) (delete_side new c) ≡ sibling new c
  sibling_on c some cut still above beside = elim (sum-changed (stage c) some) [
    | inl changed ↦ absurd (still_insert c changed cut)
    | inr had ↦
        let low = acted_claimed old stage invariant.words c some in
        let info = follows.words.info c low in
        let said_card = (invariant.words.cards c).delete (cut-delete (stage c) had) in
        let key_gp = follows.words.key (old.gp c) (born_low old stage invariant.words (old.gp c) said_card.grandparent.born) in
        let key_l = follows.words.key (old.l c) (born_low old stage invariant.words (old.l c) said_card.leaf.born) in
        let side = side_same old new c info.gp info.l key_gp key_l in
        ap (λ x. new.child x (delete_side new c)) info.gp ∙ (ap (new.child (old.gp c)) side
        ∙ (above (delete_side old c) ∙ (outs.sibling c had (was_open c had still) ∙ sym (sibling_same old new c info.p info.l beside))))
  ]
    where
      was_open : (d : ℕ) → is_cut (stage d) ≡ true → delete_open (stages d) ≡ true → delete_open (stage d) ≡ true
      was_open d had now = elim (over_or_open (stage d) had) [
        | inl still ↦ still
        | inr over ↦ absurd (over_shut (stages d) (follows.later.told (DOver d) d over) now)
      ]

  -- where no child exchange is won
  module _ (none : (d : ℕ) → sum_by child_changes (won d) ≡ 0) where
    quiet_sum : (c : ℕ) → acted (stages c) ≡ acted (stage c)
    quiet_sum c = sum_same child_changes (stage c) (stages c) (won c) (follows.wins c) (none c)

    not_new : (c x : ℕ) → acted (stage c) ≡ 0 → TakesOut new stages c x → ⊥
    not_new c x zero takes = let some = takes-acted new stages c x takes in let same = quiet_sum c in omega arith

    kids : (x : ℕ) → Born stage x → (right : Bool) → new.child x right ≡ old.child x right
    kids x born right = row_children a (scene m i) said becomes row none x right (born_low old stage invariant.words x born)

    pub quiet_outs : OutsAreSound new stages
    quiet_outs = outs_from (record {
      reached = λ c x zero takes. absurd (not_new c x zero takes);
      out = λ c x zero takes. absurd (not_new c x zero takes);
      one = λ c d zero some zero' some'. (let same = quiet_sum c in absurd (omega arith));
      sibling = λ c cut still.
          let some = cut-sum (stages c) cut in
          let same = quiet_sum c in
          let had : 0 < acted (stage c) = omega arith in
          let said_card = (invariant.words.cards c).delete (elim (sum-changed (stage c) had) [
            | inl changed ↦ absurd (still_insert c changed cut)
            | inr was ↦ cut-delete (stage c) was
          ]) in
          sibling_on c had cut still (kids (old.gp c) said_card.grandparent.born) (kids (old.p c) said_card.parent.born);
    })

  -- where a card wins its child exchange
  module _ (c : ℕ) (k : Exchange) (wins : (d : ℕ) → won d ≡ win_for (Some c) k d) where
    -- no other card has acted now that had not
    pub only : (d : ℕ) → acted (stage d) ≡ 0 → 0 < acted (stages d) → d ≡ c
    only d zero some = elim (cases_eq d c) [
      | inl e ↦ e
      | inr n ↦
          let none : sum_by child_changes (won d) ≡ 0 = ap (sum_by child_changes) (wins d) ∙ other d n in
          let same = sum_same child_changes (stage d) (stages d) (won d) (follows.wins d) none in
          absurd (omega arith)
    ]
      where
        other : (d : ℕ) → d ≢ c → sum_by child_changes (win_for (Some c) k d) ≡ 0
        other d n = ap (λ (b : Bool). sum_by child_changes (if b then k ∷ [] else [])) (ne_eqb d c n)

    -- another card that has cut had done so
    pub had_acted : (d : ℕ) → d ≢ c → is_cut (stages d) ≡ true → 0 < acted (stage d)
    had_acted d n cut = elim (zero_or_more (acted (stage d))) [
      | inl zero ↦ absurd (n (only d zero (cut-sum (stages d) cut)))
      | inr some ↦ some
    ]
