use Rattle.std.proofs.Common.{◌≡◌, ◌≢◌, ℕ, Bool, true, Option, Some, None, [], length, inl, inr, refl, sym, ap, ◌∙◌, subst, arith, ⊎_elim}
use Rattle.std.proofs.lemmas.Bool.{false≢true}
use mathlib.Core.Option.{some}
use lib.ListN.{get_elem?}
use Rattle.ell_core.proofs.lemmas.outcomes.Decide.{some_not_none}
use Rattle.ell_core.proofs.lemmas.stages.Waiting.{waits-no_start}
use Rattle.ell_core.specs.history.Stages.{is_start}
use Rattle.ell_core.specs.tree.Tree.{Reached}
use Rattle.ell_grace.proofs.lemmas.dead.Runs.{never_comes_stays_out}
use Rattle.ell_layout.specs.declared.field.Field.{Field}
use Rattle.ell_layout.specs.Layout.{address}
use Rattle.ell_layout.proofs.lemmas.Listed.{same_card}
use Rattle.ell_runs.specs.declared.call.Call.{Call}
use Rattle.ell_cards.specs.declared.view.Known.{Known}
use Rattle.ell_runs.specs.declared.view.Slots.{Slots}
use Rattle.ell_cards.specs.Ages.{is_dead, is_discarded, is_beyond, AreDead, ForgotWhen, HasEpochs}
use Rattle.ell_runs.specs.Calls.{May, word_of}
use Rattle.ell_runs.specs.Laws.{machine_of_table}
use Rattle.ell_runs.specs.Plans.{TablePlan}
use Rattle.ell_cards.specs.EpochLaws.{IsSafelyFree, FreeSlotsAreUntouched}
use Rattle.ell_cards.specs.Epochs.{WholeState, slots_size}
use Rattle.ell_runs.specs.Touching.{IsAtRest}
use Rattle.ell_cards.specs.SlotWords.{slot_of}
use Rattle.ell_runs.specs.States.{TableState}
use Rattle.ell_cards.specs.Refinement.{MayInMemory}
use Rattle.ell_cards.specs.RefinementLaws.{card_touched}
use Rattle.ell_runs.specs.Touching.{Touched, AtNode, OfCard, AtRoot, touched_by, IsWordOf, IsTheRoots}
use Rattle.ell_cards.specs.Whole.{WordsAre, EpochsAre}
use Rattle.ell_runs.proofs.lemmas.runs.Touching.{calls_touch_their_words}
use Rattle.ell_runs.proofs.lemmas.runs.Rests.{rest_touches_the_root}
use Rattle.ell_cards.proofs.lemmas.whole.Slots.{taken_is_dead, taken_was_dead_for}
use Rattle.ell_cards.proofs.lemmas.whole.Trees.{tree_at}
use Rattle.ell_cards.proofs.lemmas.refinement.Touched.{IsReady, spots, no_claim, touched_lies, calls_touch_nothing_out}

-- the root is not dead
pub root_lives : (plan : TablePlan) (tree : TableState) (dead : ℕ → Bool) → AreDead plan tree dead → dead 0 ≡ true → ⊥
root_lives plan tree dead h is = elim (h.each 0 0 (omega arith) is) [
  | is_dead is ↦ elim is [
    | inl gone ↦ h.uses.outs.outs.out gone.taker 0 gone.takes root
    | inr never ↦ (never_comes_stays_out (machine_of_table plan tree h.machine) h.uses 0 never).out root
  ]
  | is_discarded is ↦ false≢true (sym (waits-no_start (h.machine.stages 0) is.waits) ∙ ap (λ st. is_start st) h.machine.invariant.words.opening)
  | is_beyond is ↦ omega arith
]
  where
    root : Reached h.machine.words 0
    root = record { path = []; leads = refl }

-- a word of card 0 is all that a pass at rest may touch, beside the claim word
rest_word : (plan : TablePlan) (k : Known) → IsAtRest k.tree → (c : Call) → May plan c k.tree → (d : ℕ) (f : Field) → word_of c ≡ address d f → d ≡ 0
rest_word plan k rest c may d f is = by (touched_by c) (calls_touch_their_words c) (rest_touches_the_root plan k.tree rest c may)
  where
    by : (x : Touched) → IsWordOf x (word_of c) → IsTheRoots x → d ≡ 0
    by (AtNode x) word root = same_card d f _ word.0 (sym is ∙ word.1) ∙ (omega arith)
    by (OfCard e) word root = absurd root
    by AtRoot (inl zero) root = absurd (omega arith)
    by AtRoot (inr word) root = same_card d f 0 word.0 (sym is ∙ word.1)

module _ (plan : TablePlan) (s : Slots) (tree : TableState) (t : WholeState) (h : HasEpochs plan s tree t) (size : length t.words ≡ slots_size s)
    (slot : ℕ) (free : IsSafelyFree s t slot) where
  own : slot_of (h.lie slot) ≡ slot
  own = h.refines.own slot free.there

  -- the card that lies there is not the root's
  not_root : h.lie slot ≢ 0
  not_root e = root_lives plan tree h.dead h.ages.now (ap h.dead (sym e) ∙ taken_is_dead s t free.pass free.knows free.sits h.lie h.dead h.began h.was_dead h.epochs size slot free.there own free.free free.safe_epoch)

  -- whoever is pinned was pinned when the card was dead, and whoever is not is at rest; and a call touches a card that
  -- lies in its slot
  untouched : (seat : ℕ) (k : Known) → get_elem? t.views seat ≡ some k → get_elem? tree.views seat ≡ some k.tree → (c : Call) → May plan c k.tree
      → MayInMemory s k.participant.slot k.participant.retired k.tree c → (d : ℕ) → slot_of d ≡ slot → (f : Field) → word_of c ≢ address d f
  untouched seat k here there c may mem d at f is = by k.participant.announced refl
    where
      -- it is that card
      touches : IsReady plan tree seat k h.was_dead → d ≡ h.lie slot
      touches ready =
          let lies = touched_lies plan s tree t h.ages.now.machine h.lie h.dead h.was_dead h.refines seat k here there ready c may mem in
          elim (spots c) [
            | inl none ↦ absurd (no_claim d f (sym is ∙ none.1))
            | inr spot ↦
                let e = same_card d f (card_touched (touched_by c)) spot.0 (sym is ∙ spot.1) in
                e ∙ (sym lies.1 ∙ (ap (λ x. h.lie (slot_of x)) (sym e) ∙ ap h.lie at))
          ]

      at_rest : IsAtRest k.tree → ⊥
      at_rest rest = not_root (sym (touches (inl rest)) ∙ rest_word plan k rest c may d f is)

      begun : (q a : ℕ) → k.participant.announcement ≡ Some q → k.participant.announced ≡ Some a → ForgotWhen plan tree seat (h.was_dead q) → h.was_dead q (h.lie slot) ≡ true → ⊥
      begun q a placed says forgot was =
          calls_touch_nothing_out plan forgot.from forgot.reached seat forgot.call forgot.begun forgot.made forgot.anew forgot.were.machine forgot.were.uses forgot.turns tree forgot.run
          k.tree there c may d f is (λ i few. forgot.were.each d i few (ap (h.was_dead q) (touches (inr (q, a, placed, says, forgot))) ∙ was))

      by : (a : Option ℕ) → k.participant.announced ≡ a → ⊥
      by None quiet = at_rest ((h.epochs.each seat k here).rests quiet)
      by (Some a) says = by_announcement k.participant.announcement refl
        where
          by_announcement : (o : Option ℕ) → k.participant.announcement ≡ o → ⊥
          by_announcement None none = some_not_none says ((h.epochs.each seat k here).none none)
          by_announcement (Some q) placed =
              ⊎_elim at_rest
              (λ forgot. begun q a placed says forgot (taken_was_dead_for s t free.pass free.knows free.sits h.lie h.dead h.began h.was_dead h.epochs size slot free.there own free.free free.safe_epoch seat q a k here placed says))
              (h.ages.since seat q a k here placed says)

pub free_slots_are_untouched : FreeSlotsAreUntouched
free_slots_are_untouched plan s t placed h slot free seat k here c may =
    let has = subst (λ o. WordsAre o t.words h.tree.words) placed h.words in
    untouched plan s h.tree t (subst (λ o. EpochsAre plan o h.tree t) placed h.epochs).0 has.0 slot free seat k here
    (ap (λ l. get_elem? l seat) (sym h.views) ∙ tree_at t.views seat k here) c may
