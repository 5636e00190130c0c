use Rattle.std.proofs.Common.{◌≡◌, ℕ, ◌%◌, ◌⊎◌, inl, inr, Bool, true, false, not, List, [], ◌∷◌, refl, sym, ap, ◌∙◌, subst, arith}
use Rattle.ell_word.specs.Node.{IsInternal, card, internal}
use Rattle.ell_layout.specs.Words.{Words}
use Rattle.ell_layout.specs.Cards.{brought_by}
use Rattle.ell_core.specs.tree.Tree.{Leads, Reached}
use Rattle.ell_core.specs.history.Stages.{Stage, Stages, Born, is_start, is_born, insert_open, is_changed}
use Rattle.ell_core.specs.history.Invariant.{insert_side, WordsAreSound}
use Rattle.ell_core.specs.statements.Since.{has_ended}
use Rattle.ell_core.proofs.lemmas.tree.Paths.{Reached-child}
use Rattle.ell_core.proofs.lemmas.stages.Order.{inner-born, changed-insert}
use Rattle.ell_core.proofs.lemmas.stages.LaterKeys.{root_born}
use Rattle.ell_grace.specs.Gone.{TakesOut, IsGone, OutsAreSound}
use Rattle.ell_grace.specs.Dead.{NeverComes, IsDead, UsesAreSound, StaysOut}
use Rattle.ell_grace.proofs.lemmas.outs.Taken.{taken_born, calm_reached}

-- a card whose internal node came into the tree is of the opening tree, or an insert's that has its flag, or has ended
born_cases : (s : Stage) → is_born s ≡ true → (is_start s ≡ true) ⊎ (((is_changed s ≡ true) × (insert_open s ≡ true)) ⊎ (has_ended s ≡ true))
born_cases s h = grind arith

not_born : (b : Bool) → true ≡ not b → b ≡ false
not_born false e = refl
not_born true e = absurd (cc)

module _ (w : Words) (stage : Stages) (sound : WordsAreSound w stage) (uses : UsesAreSound w stage) where
  -- an internal node that came into the tree is not of those that never come
  pub inner_comes : (x : ℕ) → IsInternal x → Born stage x → ¬ NeverComes w stage x
  inner_comes x inner born never = elim never.1 [ inl none ↦ none born | inr unused ↦ unused.2 inner ]

  -- nor is a child of one
  pub child_comes : (x : ℕ) → IsInternal x → Born stage x → (right : Bool) → ¬ NeverComes w stage (w.child x right)
  child_comes x inner born right never = elim never.1 [
    | inl none ↦ none ((sound.children x inner born).born right)
    | inr unused ↦ uses.used x inner born right unused
  ]

  -- nor what is in the tree
  path_comes : (x y : ℕ) (path : List Bool) → Born stage x → ¬ NeverComes w stage x → Leads w x path y → ¬ NeverComes w stage y
  path_comes x y [] born comes leads = subst (λ n. ¬ NeverComes w stage n) (sym leads) comes
  path_comes x y (right ∷ path) born comes leads =
      path_comes (w.child x right) y path ((sound.children x leads.0 born).born right) (child_comes x leads.0 born right) leads.1

  pub reached_comes : (x : ℕ) → Reached w x → ¬ NeverComes w stage x
  reached_comes x reached =
      let born = root_born w stage sound in
      path_comes 0 x reached.path born (inner_comes 0 refl born) reached.leads

  -- so what never comes stays out
  pub stays_out : (x : ℕ) → NeverComes w stage x → StaysOut w stage x
  stays_out x never = record {
    out = λ reached. reached_comes x reached never;
    apart = λ inner born. inner_comes x inner born never;
    below = λ y right inner born same. child_comes y inner born right (subst (NeverComes w stage) (sym same) never);
  }

  -- what was taken out had come
  pub taken_comes : (c x : ℕ) → TakesOut w stage c x → ¬ NeverComes w stage x
  taken_comes c x takes never = elim never.1 [
    | inl none ↦ none (taken_born w stage sound c x takes)
    | inr unused ↦ uses.taken c x takes unused
  ]

  module _ (outs : OutsAreSound w stage) where
    -- the internal node of an insert that has its flag is in the tree, once it came
    open_reached : (c : ℕ) → is_born (stage c) ≡ true → is_changed (stage c) ≡ true → insert_open (stage c) ≡ true → Reached w (internal c)
    open_reached c born changed still =
        let said_card = (sound.cards c).insert (changed-insert (stage c) changed) in
        let flag = (sound.inserts c).flag still in
        let two = not_born _ (sym born ∙ (sound.inserts c).brings changed) in
        subst (Reached w) (uses.stands c changed still ∙ ap (brought_by c) two)
        (Reached-child w (w.p c) (insert_side w c)
        (calm_reached w stage sound (w.p c) said_card.parent.inner said_card.parent.born (λ d e. omega arith)) said_card.parent.inner)

    -- a card whose internal node is gone has ended, or is of the opening tree
    gone_ended : (c : ℕ) → IsGone w stage (internal c) → (is_start (stage c) ≡ true) ⊎ (has_ended (stage c) ≡ true)
    gone_ended c gone =
        let came = taken_born w stage sound gone.taker (internal c) gone.takes in
        let on : card (internal c) ≡ c = omega arith in
        let born = subst (λ d. is_born (stage d) ≡ true) on (inner-born (stage (card (internal c))) (internal c % 4) (omega arith) came) in
        elim (born_cases (stage c) born) [
          | inl start ↦ inl start
          | inr r ↦ elim r [
            | inl still ↦ absurd (outs.out gone.taker (internal c) gone.takes (open_reached c born still.0 still.1))
            | inr ended ↦ inr ended
          ]
        ]

    pub dead_ended : (c : ℕ) → IsDead w stage (internal c) → (is_start (stage c) ≡ true) ⊎ (has_ended (stage c) ≡ true)
    dead_ended c (inl gone) = gone_ended c gone
    dead_ended c (inr never) = (let on : card (internal c) ≡ c = omega arith in inr (subst (λ d. has_ended (stage d) ≡ true) on never.0))
