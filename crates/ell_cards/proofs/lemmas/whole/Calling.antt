-- A step call of the tree, which a pass makes by what is shown of what it knows, is a step of the whole table.
use Rattle.std.proofs.Common.{◌≡◌, ◌≢◌, ℕ, ◌<◌, ◌≤◌, ◌==◌, if◌then◌else◌, Bool, true, false, Option, Some, None, List, [], ◌∷◌, ◌++◌, length, get_or, set, inl, inr, ◌⊎◌, refl, sym, ap, ◌∙◌, subst, ⊎_elim, arith, length-set}
use Rattle.std.proofs.lemmas.List.{map-set}
use mathlib.Core.Option.{some}
use mathlib.Core.Option.{Option as Maybe}
use lib.ListN.{get_elem?}
use prog.Atomic.{either}
use Rattle.atomic_table.specs.Table.{Act, Allows, Valid, carried_after, keeps, homes_after, stepped}
use Rattle.atomic_table.proofs.Lists.{at_set}
use Rattle.ell_core.proofs.lemmas.outcomes.Decide.{some_not_none}
use Rattle.ell_word.specs.Link.{linked, tag_unit}
use Rattle.ell_word.specs.declared.link.Link.{Link}
use Rattle.ell_word.specs.Node.{greatest_card, greatest_number, generation_size}
use Rattle.ell_layout.specs.Layout.{address, table_size}
use Rattle.ell_layout.specs.declared.field.Field.{Field}
use Rattle.ell_layout.specs.declared.field.Field.TheVariants as field
use Rattle.ell_runs.specs.declared.call.Call.{Call}
use Rattle.ell_runs.specs.declared.call.Call.TheVariants as call
use Rattle.ell_runs.specs.declared.view.Event.{Event}
use Rattle.ell_cards.specs.declared.view.Known.{Known}
use Rattle.ell_cards.specs.declared.view.Participant.{Participant}
use Rattle.ell_cards.specs.declared.view.Retired.{Retired}
use Rattle.ell_runs.specs.declared.view.Sight.{Sight}
use Rattle.ell_runs.specs.declared.view.Slots.{Slots}
use Rattle.ell_runs.specs.declared.view.Told.TheVariants.{Info}
use Rattle.ell_runs.specs.declared.view.View.{View}
use Rattle.std.proofs.lemmas.Bool.{false≢true}
use Rattle.std.proofs.lemmas.Option.{same_Some}
use Rattle.ell_cards.specs.Ages.{HasEpochs}
use Rattle.ell_runs.specs.Discarded.{IsDiscarded}
use Rattle.ell_cards.specs.Leaks.{NothingLeaks}
use Rattle.ell_runs.specs.Calls.{Load, Store, Exchange, next_link, word_of, atomic_of, is_won, left_by, May}
use Rattle.ell_cards.specs.Addresses.{place_of}
use Rattle.ell_runs.specs.Machines.{HasMachine}
use Rattle.ell_runs.specs.Views.{Has, latest, earlier}
use Rattle.ell_cards.specs.Models.{PassModel, last_slot, last_slot_of}
use Rattle.ell_runs.specs.Plans.{TablePlan}
use Rattle.ell_runs.specs.Naming.{IsNamed}
use Rattle.ell_cards.specs.InSlots.{IsPlaced}
use Rattle.ell_cards.specs.EpochLaws.{IsPinned}
use Rattle.ell_cards.specs.Epochs.{WholeState, slots_size, after_flagging}
use Rattle.ell_runs.specs.Touching.{IsAtRest}
use Rattle.ell_cards.specs.Apart.{IsApart}
use Rattle.ell_cards.specs.Shown.{IsWord, cut_word, cut_by, shown_word, shown_words, shown, shown_call, FieldIsWhole, FillIsWhole, CanBeShown, StoresAreWhole, StoresWord}
use Rattle.ell_runs.specs.Histories.{event_of, history_of}
use Rattle.ell_cards.specs.AllSeen.{AllHaveSeen, AreMade, AreSilent}
use Rattle.ell_runs.specs.Seeing.{Marks, IsCalm}
use Rattle.ell_cards.specs.SlotWords.{slot_of}
use Rattle.ell_runs.specs.Starts.{SlotsFit}
use Rattle.ell_runs.specs.States.{TableState}
use Rattle.ell_cards.specs.Stepping.{Exchanges, IsQuiet, MayInTable, MayTell}
use Rattle.ell_cards.specs.Refinement.{HasWon, MayInMemory, Refines, FlagsCard, FlagsNone}
use Rattle.ell_cards.specs.RefinementLaws.{card_touched, ExpectsNear, FindsRefined, RefinesByAges, TouchesRefined, memory_after}
use Rattle.ell_runs.specs.Touching.{touched_by}
use Rattle.ell_runs.specs.Turns.{Makes, found_by, view_after, state_after}
use Rattle.ell_cards.specs.Whole.{FieldsAreWhole, WordsAre, EpochsAre, AllStoresAreWhole, IsWhole, PlansFit, trees_of}
use Rattle.ell_runs.proofs.lemmas.runs.Reaching.{reached_kept, call_on}
use Rattle.ell_runs.proofs.lemmas.seats.Named.{kept_named, named_more}
use Rattle.ell_cards.proofs.lemmas.seats.Placed.{named_placed}
use Rattle.ell_runs.proofs.lemmas.seats.Seats.{set_there}
use Rattle.ell_cards.proofs.lemmas.shown.CutWords.{cut_same}
use Rattle.ell_cards.proofs.lemmas.shown.ShownActs.{calls_act_alike}
use Rattle.ell_cards.proofs.lemmas.shown.ShownCalls.{guards_are_lifted}
use Rattle.ell_cards.proofs.lemmas.shown.ShownLettingGo.{lets_go_whole}
use Rattle.ell_cards.proofs.lemmas.shown.ShownStores.{stores_stay_whole}
use Rattle.ell_cards.proofs.lemmas.refinement.Keeping.{touch, goes, refines}
use Rattle.ell_cards.proofs.lemmas.refinement.Near.{expected_links_are_near}
use Rattle.ell_cards.proofs.lemmas.refinement.Placed.{placed_to}
use Rattle.ell_cards.proofs.lemmas.refinement.Touched.{spots, touched_won, claim_is_word}
use Rattle.ell_cards.proofs.lemmas.whole.Ages.{AgesOn}
use Rattle.ell_cards.proofs.lemmas.whole.Going.{set_twice}
use Rattle.ell_cards.proofs.lemmas.whole.Fields.{FillsWhole, fields_after, field_can}
use Rattle.ell_cards.proofs.lemmas.whole.LeaksOfCalls.{flag_lost, leaks_after_call}
use Rattle.ell_cards.proofs.lemmas.whole.Losing.{discarded_in_ages, lost_now}
use Rattle.ell_cards.proofs.lemmas.refinement.Apart.{tells_apart, tells_apart_plain}
use Rattle.ell_cards.proofs.lemmas.whole.Apart.{passes_tell_apart, ready_there}
use Rattle.ell_cards.proofs.lemmas.whole.Lifts.{IsFill, is_its_own, can_be_shown, told_plain, plan_fits}
use Rattle.ell_cards.proofs.lemmas.whole.Rests.{stays_at_rest}
use Rattle.ell_cards.proofs.lemmas.whole.Retired.{HadInHand, held_before, retired_on}
use Rattle.ell_cards.proofs.lemmas.whole.Seats.{lie_same}
use Rattle.ell_cards.proofs.lemmas.whole.Seeing.{history_snoc, all_on, all_set, silent_set, marks_now, marks_shown, calm_marks, marked}
use Rattle.ell_cards.proofs.lemmas.whole.Sighting.{Sighted, sighted}
use Rattle.ell_cards.proofs.lemmas.whole.Trees.{tree_at, slots_stay, tree_epochs}
use Rattle.ell_cards.proofs.lemmas.words.Slotted.{slot_inside}

-- a card that is no later than the last one that may have a slot of its own has that
own_slot : (c : ℕ) → c ≤ greatest_card → slot_of c ≡ c
own_slot c low = omega arith

-- a call sets the flag of one card
flags_one : (c : Call) (d e : ℕ) → FlagsCard c d → FlagsCard c e → d ≡ e
flags_one (call.IFlag c p from) d e is same = is ∙ sym same
flags_one (call.DFlag c gp from) d e is same = is ∙ sym same
flags_one _ d e is same = absurd is

-- What a pass notes of epochs by a step call: nothing; or the card that the call was to flag, and has not.
pub data Notes (slots : Option Slots) (c : Call) (n : ℕ) (old new : Participant) : Type 0 where
  nothing : new ≡ old → (slots ≢ None → (d : ℕ) → FlagsCard c d → is_won (atomic_of c) n ≡ true) → Notes slots c n old new
  loses : (d : ℕ) → new ≡ record old { lost = Some d } → FlagsCard c d → is_won (atomic_of c) n ≡ false → Notes slots c n old new

-- the parts of a step call of the tree
module _ (plan : TablePlan) (s : WholeState) (h : IsWhole plan s) (id : ℕ) (k : Known) (here : get_elem? s.views id ≡ some k) where
  -- the pass has its seat in the tree
  pub tree_here : get_elem? h.tree.views id ≡ some k.tree
  tree_here = ap (λ l. get_elem? l id) (sym h.views) ∙ tree_at s.views id k here

  tree_kept : HasMachine plan h.tree
  tree_kept = reached_kept plan h.tree h.reached

  -- all that it names is of the table
  tree_named : IsNamed plan.last_card k.tree
  tree_named = kept_named plan h.tree tree_kept id k.tree tree_here

  -- and it tells nodes apart
  pub apart_here : IsApart plan k.tree
  apart_here = passes_tell_apart plan s h id k here

  -- where cards do not come back there are no more cards than slots
  pub few_plain : plan.slots ≡ None → plan.last_card ≤ greatest_card
  few_plain none = subst (SlotsFit plan) none h.reached.starts.may.slots

  -- the history of the table
  abbrev past : List Event
  past = history_of h.reached.turns

  -- what the pass may know of it after a call, so that the table's rule is kept
  abbrev pub Sees : Call → Sight → Type 0
  Sees c g = Sighted plan h.tree h.reached id k.tree tree_here s.views c g

  -- as what the call lets it see
  pub marked_so : (c : Call) → May plan c k.tree → Sees c (marked c id past k.sight)
  marked_so = sighted plan h.tree h.reached id k.tree tree_here s.views k here refl h.seen h.made h.silent h.apart

  -- a call that it may make
  module _ (c : Call) (may : May plan c k.tree) (fills : FillIsWhole c k.tree) where
    -- what the pass knows after it, where it notes this of epochs, and that of the history
    abbrev noting : Participant → Sight → Known
    noting p g = record { tree = view_after h.tree k.tree c; participant = p; sight = g }

    abbrev knows : Known
    knows = noting k.participant k.sight

    next_history : history_of (h.reached.turns ++ Makes id c ∷ []) ≡ past ++ event_of (Makes id c) ∷ []
    next_history = history_snoc h.reached.turns (Makes id c)

    pub seen_after : (p : Participant) (g : Sight) → Sees c g → AllHaveSeen (history_of (h.reached.turns ++ Makes id c ∷ [])) (set s.views id (noting p g))
    seen_after p g is = subst (λ l. AllHaveSeen l (set s.views id (noting p g))) (sym next_history)
        (all_set (past ++ event_of (Makes id c) ∷ []) s.views id (noting p g) (all_on past (event_of (Makes id c) ∷ []) s.views h.seen) is.seen)

    pub made_after : (p : Participant) (g : Sight) → Sees c g → AreMade (history_of (h.reached.turns ++ Makes id c ∷ [])) (set s.views id (noting p g))
    made_after p g is = subst (λ l. AreMade l (set s.views id (noting p g))) (sym next_history) (is.made (noting p g) refl)

    pub silent_after : (p : Participant) (g : Sight) → Sees c g → AreSilent plan (set s.views id (noting p g))
    silent_after p g is = silent_set plan s.views id (noting p g) h.silent (is.silent (found_by h.tree c))

    abbrev after : TableState
    after = state_after h.tree id k.tree c

    abbrev left : ℕ
    left = left_by (atomic_of c) (found_by h.tree c)

    -- where cards do not come back nothing that it plans is cut
    plans_after : (o : Option Slots) → plan.slots ≡ o → PlansFit o k.tree → PlansFit o (view_after h.tree k.tree c)
    plans_after None none fits = plan_fits plan k.tree plan.last_card (few_plain none) tree_named refl c (found_by h.tree c) may fits
    plans_after (Some sl) placed fits = tt

    -- what each pass has stored after the step
    stores_after : AllStoresAreWhole plan.slots after
    stores_after j v at = ⊎_elim
        (λ (t : (j ≡ id) × (view_after h.tree k.tree c ≡ v)). subst (λ u. StoresAreWhole u × PlansFit plan.slots u) t.1 (
          stores_stay_whole plan c (found_by h.tree c) k.tree apart_here may fills (h.stores id k.tree tree_here).0,
          plans_after plan.slots refl (h.stores id k.tree tree_here).1,
        ))
        (λ (t : (j ≢ id) × (get_elem? h.tree.views j ≡ some v)). h.stores j v t.1)
        (at_set h.tree.views id j (view_after h.tree k.tree c) v at)

    pub views_after : (p : Participant) (g : Sight) → trees_of (set s.views id (noting p g)) ≡ after.views
    views_after p g = map-set (λ (l : Known). l.tree) s.views id (noting p g) ∙ ap (λ l. set l id (view_after h.tree k.tree c)) h.views

    -- the state after the step, by its words and its epochs
    whole_after : (p : Participant) (g : Sight) → Sees c g → (i n : ℕ) → WordsAre plan.slots (set s.words i n) after.words
        → EpochsAre plan plan.slots after (record { words = set s.words i n; homes = homes_after s.homes [] keeps; views = set s.views id (noting p g) })
        → IsWhole plan (stepped s i n id [] (noting p g) keeps)
    whole_after p g sees i n words epochs = record {
      tree = after;
      reached = call_on plan h.tree h.reached id c k.tree tree_here may;
      seen = seen_after p g sees;
      made = made_after p g sees;
      silent = silent_after p g sees;
      apart = sees.apart (noting p g) refl;
      views = views_after p g;
      homes = h.homes;
      words = words;
      stores = stores_after;
      epochs = epochs;
    }

    tree_there : get_elem? after.views id ≡ some (view_after h.tree k.tree c)
    tree_there = set_there h.tree.views id (view_after h.tree k.tree c) k.tree tree_here

    -- where cards do not come back
    module _ (none : plan.slots ≡ None) where
      -- each card has a slot of its own, so the word stands in memory where it does in the tree
      word_at : (d : Call) → May plan d k.tree → place_of d ≡ word_of d
      word_at (call.Fill e f value) may = ap (λ x. address x f) (own_slot e (let low = tree_named.hand e may.holds in let few = few_plain none in omega arith))
      word_at d may = at_won d (touched_won plan h.tree tree_kept id k.tree tree_here d may).0
        where
          at_won : (d : Call) → HasWon tree_kept.stages (card_touched (touched_by d)) → place_of d ≡ word_of d
          at_won d has =
              let below = (tree_kept.invariant.words.cards (card_touched (touched_by d))).claimed.0 has.0 in
              let limit = tree_kept.invariant.limit in
              elim (spots d) [
                | inl at ↦ at.2 ∙ sym at.1
                | inr at ↦ at.2 ∙ (ap (λ x. address x at.0) (own_slot (card_touched (touched_by d)) (let few = few_plain none in omega arith)) ∙ sym at.1)
              ]

      same_words : s.words ≡ h.tree.words
      same_words = subst (λ o. WordsAre o s.words h.tree.words) none h.words

      pub plain_found : get_or s.words (place_of c) 0 ≡ found_by h.tree c
      plain_found = (λ i. get_or (same_words i) (word_at c may i) 0)

      pub plain_whole : (p : Participant) (g : Sight) → Sees c g → IsWhole plan (stepped s (place_of c) left id [] (noting p g) keeps)
      plain_whole p g sees = whole_after p g sees (place_of c) left
          (subst (λ o. WordsAre o (set s.words (place_of c) left) after.words) (sym none) (λ i. set (same_words i) (word_at c may i) left))
          (subst (λ o. EpochsAre plan o after (record { words = set s.words (place_of c) left; homes = homes_after s.homes [] keeps; views = set s.views id (noting p g) })) (sym none) tt)

      pub plain_named : IsNamed plan.last_card (view_after h.tree k.tree c)
      plain_named = kept_named plan after (reached_kept plan after (call_on plan h.tree h.reached id c k.tree tree_here may)) id (view_after h.tree k.tree c) tree_there

      pub plain_placed : IsPlaced (last_slot plan) (view_after h.tree k.tree c)
      plain_placed = subst (λ o. IsPlaced (last_slot_of o plan.last_card) (view_after h.tree k.tree c)) (sym none)
          (named_placed plan.last_card (view_after h.tree k.tree c) plain_named)

      -- and it tells nodes apart after the call too
      pub plain_apart : IsApart plan (view_after h.tree k.tree c)
      plain_apart = tells_apart_plain plan none after (call_on plan h.tree h.reached id c k.tree tree_here may) id (view_after h.tree k.tree c) tree_there

    -- where cards come back
    module _ (sl : Slots) (placed : plan.slots ≡ Some sl) (mem : MayInMemory sl k.participant.slot k.participant.retired k.tree c) (unlost : k.participant.lost ≡ None) (whole_fill : FillsWhole c)
        (quiet : k.participant.announced ≡ None → IsQuiet c) where
      has_words : (length s.words ≡ slots_size sl) × FieldsAreWhole h.tree.words
      has_words = subst (λ o. WordsAre o s.words h.tree.words) placed h.words

      abbrev its_epochs : EpochsAre plan (Some sl) h.tree s
      its_epochs = subst (λ o. EpochsAre plan o h.tree s) placed h.epochs

      abbrev pub has : HasEpochs plan sl h.tree s
      has = (subst (λ o. EpochsAre plan o h.tree s) placed h.epochs).0

      fit : SlotsFit plan (Some sl)
      fit = subst (SlotsFit plan) placed h.reached.starts.may.slots

      abbrev by_ages : RefinesByAges plan sl h.tree s has.lie has.dead has.was_dead
      by_ages = record { ages = has.ages; refines = has.refines }

      -- the pass is at rest, or pinned
      pub ready : IsAtRest k.tree ⊎ IsPinned s id k
      ready = by k.participant.announced refl
        where
          by_announcement : (a : ℕ) → k.participant.announced ≡ Some a → (o : Option ℕ) → k.participant.announcement ≡ o → IsAtRest k.tree ⊎ IsPinned s id k
          by_announcement a says None none = absurd (some_not_none says ((has.epochs.each id k here).none none))
          by_announcement a says (Some q) at = inr (record { there = here; announcement = q; has = at; epoch = a; announces = says })

          by : (o : Option ℕ) → k.participant.announced ≡ o → IsAtRest k.tree ⊎ IsPinned s id k
          by None none = inl ((has.epochs.each id k here).rests none)
          by (Some a) says = by_announcement a says k.participant.announcement refl

      pub low_last : sl.last < generation_size
      low_last = let low = fit.low in omega arith

      pub room : table_size sl.last ≤ length s.words
      room = let all = has_words.0 in omega arith

      -- it finds what is cut of what is in the tree
      pub refines_touch : TouchesRefined sl has.lie s.words h.tree c
      refines_touch = touch plan sl h.tree s has.lie has.dead has.was_dead h.reached low_last room by_ages id k here tree_here ready c may mem

      near : ExpectsNear c (found_by h.tree c)
      near = elim ready [
        | inl rest ↦ rest_near c rest may
        | inr participant ↦ expected_links_are_near plan sl h.tree s has.lie has.dead has.was_dead by_ages h.reached fit.low id k here tree_here participant c may
      ]
        where
          rest_near : (d : Call) → IsAtRest k.tree → May plan d k.tree → ExpectsNear d (found_by h.tree d)
          rest_near (call.IChild e p l replaces right) rest may = absurd (rest.forgot (Info e field.P p) may.parent)
          rest_near (call.DChild e gp p y right) rest may = absurd (rest.forgot (Info e field.Gp gp) may.grandparent)
          rest_near _ rest may = tt

      pub refines_can : CanBeShown c (found_by h.tree c)
      refines_can = field_can h.tree (claim_is_word plan h.tree tree_kept) has_words.1 c near

      abbrev cut : ℕ
      cut = cut_by c left

      abbrev pub homes : List (Maybe (Unit {0}))
      homes = homes_after s.homes [] keeps

      pub rests : k.participant.announced ≡ None → IsAtRest (view_after h.tree k.tree c)
      rests none = stays_at_rest k.tree ((has.epochs.each id k here).rests none) plan c (found_by h.tree c) (quiet none) may

      abbrev pub refines_ages : AgesOn plan sl h.tree s has.lie has.dead has.was_dead has.ages (Makes id c) after (memory_after h.tree s homes id k c)
      refines_ages = goes plan sl h.tree s has.lie has.dead has.was_dead h.reached low_last room by_ages id k here tree_here ready c may mem homes

      pub still_refines : Refines sl after (memory_after h.tree s homes id k c) refines_ages.ages.now.machine.stages has.lie has.dead has.was_dead
      still_refines = refines plan sl h.tree s has.lie has.dead has.was_dead h.reached low_last room by_ages id k here tree_here ready c may mem homes

      -- a card that is in hand after it, whose slot the pass has taken, was in hand before it
      pub held : (seat d : ℕ) (u : Known) → get_elem? (set s.views id knows) seat ≡ some u → u.participant.slot ≡ Some d → u.tree.worker.card ≡ Some d → HadInHand s.views d u.participant.retired
      held seat d u at slot hand = ⊎_elim
          (λ (e : (seat ≡ id) × (knows ≡ u)). subst (λ (x : Known). x.participant.slot ≡ Some d → x.tree.worker.card ≡ Some d → HadInHand s.views d x.participant.retired) e.1
          (λ slot hand. record {
            seat = id;
            knows = k;
            there = here;
            slot = slot;
            hand = held_before plan h.tree c k d may (λ e is. subst (λ n. e < n) has.refines.claim (has.refines.past id e k here is)) slot hand;
            retired = refl;
          }) slot hand)
          (λ (e : (seat ≢ id) × (get_elem? s.views seat ≡ some u)). record { seat = seat; knows = u; there = e.1; slot = slot; hand = hand; retired = refl })
          (at_set s.views id seat knows u at)

      abbrev pub refines_epochs : HasEpochs plan sl after (record { words = set s.words (place_of c) cut; homes = homes; views = set s.views id knows })
      refines_epochs = record {
        lie = has.lie;
        lies = lie_same sl has.lie s.words (set s.words (place_of c) cut) (slots_stay s id k here (view_after h.tree k.tree c) sl (place_of c) cut refines_touch.inside) has.lies;
        dead = has.dead;
        began = has.began;
        was_dead = has.was_dead;
        epochs = tree_epochs s id k here (view_after h.tree k.tree c) sl (place_of c) cut homes has.lie has.dead has.began has.was_dead refines_touch.inside rests (λ d is. absurd (some_not_none is unlost)) has.epochs;
        ages = refines_ages.ages;
        refines = still_refines;
        flat = has.flat;
        retired = retired_on plan sl h.tree has.ages.now.machine has.ages.now.uses after refines_ages.ages.now.machine refines_ages.ages.now.uses refines_ages.words refines_ages.out
            s (memory_after h.tree s homes id k c) has.lie h.views (slots_stay s id k here (view_after h.tree k.tree c) sl (place_of c) cut refines_touch.inside) held has.retired;
      }

      -- by that no slot stays in use for nothing
      noted_leaks : (p : Participant) (g : Sight) → Notes plan.slots c (found_by h.tree c) k.participant p
          → NothingLeaks sl (record { words = set s.words (place_of c) cut; homes = homes; views = set s.views id (noting p g) }) after.views refines_ages.ages.now.machine.words refines_ages.ages.now.machine.stages has.lie
      noted_leaks p g notes =
          leaks_after_call plan has.flat sl h.tree s id k here tree_here c may mem unlost has.ages.now.machine has.ages.now.uses refines_ages.ages.now.machine refines_ages.words refines_ages.later refines_ages.wins has.lie
          its_epochs.1 has.retired has.refines.fits has.refines.own (set s.words (place_of c) cut) homes (slots_stay s id k here (view_after h.tree k.tree c) sl (place_of c) cut refines_touch.inside) p g (slotted notes) (lost_by notes)
        where
          slotted : Notes plan.slots c (found_by h.tree c) k.participant p → p.slot ≡ k.participant.slot
          slotted (nothing is flags) = ap (λ (x : Participant). x.slot) is
          slotted (loses d is flags unwon) = ap (λ (x : Participant). x.slot) is

          lost_by : Notes plan.slots c (found_by h.tree c) k.participant p → (d : ℕ) → FlagsCard c d → is_won (atomic_of c) (found_by h.tree c) ≡ false → p.lost ≡ Some d
          lost_by (nothing is won) d flags unwon = absurd (false≢true (sym unwon ∙ won (λ none. some_not_none placed none) d flags))
          lost_by (loses e is flags' unwon') d flags unwon = ap (λ (x : Participant). x.lost) is ∙ ap Some (flags_one c e d flags' flags)

      abbrev Epochs : List Known → Type 0
      Epochs views = EpochsAre plan (Some sl) after (record { words = set s.words (place_of c) cut; homes = homes; views = views })

      -- if it noted something, too
      noted_too : (g : Sight) (o : Option ℕ) → ((d : ℕ) → o ≡ Some d → IsDiscarded refines_ages.ages.now.machine.stages after.views d)
          → ((d : ℕ) → o ≡ Some d → (view_after h.tree k.tree c).worker.card ≡ None)
          → Notes plan.slots c (found_by h.tree c) k.participant (record k.participant { lost = o }) → Epochs (set s.views id (noting (record k.participant { lost = o }) g))
      noted_too g o discarded idle notes =
          let p : Participant = record k.participant { lost = o } in
          let twice = set_twice s.views id knows (noting p g) in
          subst Epochs twice (
            lost_now plan sl after (memory_after h.tree s homes id k c) id knows (set_there s.views id knows k here) refines_epochs o discarded idle g,
            subst (λ l. NothingLeaks sl (record { words = set s.words (place_of c) cut; homes = homes; views = l }) after.views refines_ages.ages.now.machine.words refines_ages.ages.now.machine.stages has.lie)
                (sym twice) (noted_leaks p g notes),
          )

      none_lost : (d : ℕ) → k.participant.lost ≡ Some d → ⊥
      none_lost d lost_it = some_not_none lost_it unlost

      noted_epochs : (g : Sight) (p : Participant) → Notes plan.slots c (found_by h.tree c) k.participant p → Epochs (set s.views id (noting p g))
      noted_epochs g p (nothing is flags) =
          subst (λ (q : Participant). Epochs (set s.views id (noting q g))) (sym is)
          (noted_too g k.participant.lost (λ d lost_it. absurd (none_lost d lost_it)) (λ d lost_it. absurd (none_lost d lost_it)) (nothing refl flags))
      noted_epochs g p (loses d is flags unwon) =
          subst (λ (q : Participant). Epochs (set s.views id (noting q g))) (sym is)
          (noted_too g (Some d)
          (λ e same. subst (IsDiscarded refines_ages.ages.now.machine.stages after.views) (same_Some d e same)
          (discarded_in_ages plan sl h.tree s has.lie has.dead has.was_dead has.ages id k.tree tree_here c may (memory_after h.tree s homes id k c) refines_ages d flags unwon))
          (λ e same. flag_lost c (found_by h.tree c) k.tree d flags unwon) (loses d refl flags unwon))

      pub refines_whole : (p : Participant) (g : Sight) → Sees c g → Notes plan.slots c (found_by h.tree c) k.participant p → IsWhole plan (stepped s (place_of c) cut id [] (noting p g) keeps)
      refines_whole p g sees notes = whole_after p g sees (place_of c) cut
          (subst (λ o. WordsAre o (set s.words (place_of c) cut) after.words) (sym placed) (
            length-set s.words (place_of c) cut ∙ has_words.0,
            fields_after plan h.tree k.tree c may (named_more plan.last_card greatest_number h.reached.starts.may.limit k.tree tree_named) whole_fill has_words.1,
          ))
          (subst (λ o. EpochsAre plan o after (record { words = set s.words (place_of c) cut; homes = homes; views = set s.views id (noting p g) })) (sym placed) (noted_epochs g p notes))

      pub refines_apart : IsApart plan (view_after h.tree k.tree c)
      refines_apart =
          let at : get_elem? (set s.views id knows) id ≡ some knows = set_there s.views id knows k here in
          tells_apart plan sl after (memory_after h.tree s homes id k c) refines_ages.ages.now.machine has.lie has.dead has.was_dead still_refines placed
          (call_on plan h.tree h.reached id c k.tree tree_here may) id knows at tree_there
          (ready_there plan sl after (memory_after h.tree s homes id k c) refines_epochs id knows at)

      pub refines_placed : IsPlaced (last_slot plan) (view_after h.tree k.tree c)
      refines_placed = subst (λ o. IsPlaced (last_slot_of o plan.last_card) (view_after h.tree k.tree c)) (sym placed)
          (placed_to plan after refines_ages.ages.now.machine id (view_after h.tree k.tree c) tree_there sl.last (λ e has. slot_inside sl.last e (still_refines.fits e has)))

-- what a pass has stored of its card in hand, by what is shown
was_stored : (es : List (Field × ℕ)) (f : Field) (x : ℕ) → Has (shown_words es) (f, x) → (y : ℕ) × Has es (f, y)
was_stored [] f x h = elim h [ ]
was_stored (e ∷ es) f x (latest _ _) = (e.1, latest e es)
was_stored (e ∷ es) f x (earlier _ _ _ h) = let old = was_stored es f x h in (old.0, earlier (f, old.0) e es old.1)

-- what a call that is shown asks of memory is what the call asks
asks_whole : (s : Slots) (slot : Option ℕ) (r : Retired) (v : View) (c : Call) → MayInMemory s slot r (shown v) (shown_call c) → MayInMemory s slot r v c
asks_whole s slot r v (call.Fill e f value) asks = asks
asks_whole s slot r v (call.IFlag e p from) asks = (asks.0, λ f said. was_stored v.stores f (asks.1 f said).0 (asks.1 f said).1)
asks_whole s slot r v (call.DFlag e gp from) asks = (asks.0, λ f said. was_stored v.stores f (asks.1 f said).0 (asks.1 f said).1)
asks_whole s slot r v (call.Claim e node_key) asks = asks
asks_whole s slot r v call.Again asks = lets_go_whole s slot r v asks
asks_whole s slot r v call.Leave asks = lets_go_whole s slot r v asks
asks_whole s slot r v (call.Answer said took) asks = lets_go_whole s slot r v asks
asks_whole s slot r v _ asks = tt

-- begins nothing that the call does not begin
quiet_whole : (c : Call) → IsQuiet (shown_call c) → IsQuiet c
quiet_whole (call.Begin op) quiet = quiet
quiet_whole call.Look quiet = quiet
quiet_whole _ quiet = tt

-- and stores a word where the call stores what a field holds whole
word_filled : (f : Field) (value : ℕ) → IsWord (shown_word f value) → FieldIsWhole f value
word_filled field.Gp value word = tt
word_filled field.P value word = tt
word_filled field.L value word = tt
word_filled field.Left value word = tt
word_filled field.Right value word = tt
word_filled _ value word = word

fills_whole : (c : Call) → StoresWord (shown_call c) → FillsWhole c
fills_whole (call.Fill e f value) word = word_filled f value word.0
fills_whole _ word = tt

-- what a call leaves by what it found in memory it leaves by what is there of the tree, and so is what it tells
left_refines : (words : List ℕ) (tree : TableState) (c : Call) → FindsRefined words tree c
    → left_by (atomic_of (shown_call c)) (get_or words (place_of c) 0) ≡ left_by (atomic_of (shown_call c)) (cut_by c (found_by tree c))
left_refines words tree (call.Fill e f value) finds = refl
left_refines words tree c finds = ap (left_by (atomic_of (shown_call c))) finds

told_refines : (words : List ℕ) (tree : TableState) (c : Call) (told : ℕ → View → Type 0) (w : View) → FindsRefined words tree c
    → (IsFill (shown_call c) → (n m : ℕ) → told n w → told m w) → told (cut_by c (found_by tree c)) w → told (get_or words (place_of c) 0) w
told_refines words tree (call.Fill e f value) told w finds same says = same tt (cut_by (call.Fill e f value) (found_by tree (call.Fill e f value))) (get_or words (place_of (call.Fill e f value)) 0) says
told_refines words tree c told w finds same says = subst (λ n. told n w) (sym finds) says

-- and what the pass notes by the call that is shown it notes by the call
notes_whole : (o : Option Slots) (words : List ℕ) (tree : TableState) (c : Call) → FindsRefined words tree c → CanBeShown c (found_by tree c) → (old new : Participant)
    → Notes o (shown_call c) (get_or words (place_of c) 0) old new → Notes o c (found_by tree c) old new
notes_whole o words tree (call.IFlag e p from) finds can old new (nothing is won) =
    nothing is (λ some d flags. sym can.wins ∙ (ap (is_won (atomic_of (call.IFlag e p from))) (sym finds) ∙ won some d flags))
notes_whole o words tree (call.DFlag e gp from) finds can old new (nothing is won) =
    nothing is (λ some d flags. sym can.wins ∙ (ap (is_won (atomic_of (call.DFlag e gp from))) (sym finds) ∙ won some d flags))
notes_whole o words tree (call.IFlag e p from) finds can old new (loses d is flags unwon) =
    loses d is flags (sym can.wins ∙ (ap (is_won (atomic_of (call.IFlag e p from))) (sym finds) ∙ unwon))
notes_whole o words tree (call.DFlag e gp from) finds can old new (loses d is flags unwon) =
    loses d is flags (sym can.wins ∙ (ap (is_won (atomic_of (call.DFlag e gp from))) (sym finds) ∙ unwon))
notes_whole o words tree c finds can old new (nothing is won) = nothing is (λ some d flags. absurd flags)
notes_whole o words tree _ finds can old new (loses d is flags unwon) = absurd flags

-- what a step call does to the word that it finds: it leaves what is cut of what the call leaves, and where cards do
-- not come back all of that
abbrev pub Does : (plan : TablePlan) → Call → (ℕ → ℕ) → Type 0
Does plan c f =
    (n : ℕ) → IsWord n → (f n ≡ cut_word (left_by (atomic_of c) n)) × (plan.slots ≡ None → f n ≡ left_by (atomic_of c) n)

module _ (plan : TablePlan) (k : Known) (c : Call) (f : ℕ → ℕ) (told : ℕ → View → Type 0) (notes : ℕ → Participant) (word : StoresWord c) (by_shown : May plan c (shown k.tree))
    (mem : (s : Slots) → plan.slots ≡ Some s → MayInMemory s k.participant.slot k.participant.retired (shown k.tree) c) (unlost : plan.slots ≢ None → k.participant.lost ≡ None) (does : Does plan c f)
    (quiet : plan.slots ≢ None → k.participant.announced ≡ None → IsQuiet c) (same : IsFill c → (n m : ℕ) (w : View) → told n w → told m w)
    (tells : MayTell plan c (shown k.tree) told) (noted : (n : ℕ) → IsWord n → Notes plan.slots c n k.participant (notes n)) (id : ℕ) (s : WholeState) (h : IsWhole plan s) (here : get_elem? s.views id ≡ some k) (small : IsWord (get_or s.words (place_of c) 0))
    (marks : View → Sight → Type 0) (see : Call → Sight) (sees : (d : Call) → May plan d k.tree → shown_call d ≡ c → Sees plan s h id k here d (see d))
    (marked_by : (d : Call) → May plan d k.tree → shown_call d ≡ c → IsApart plan (view_after h.tree k.tree d) → marks (view_after h.tree k.tree d) (see d)) where
  abbrev n : ℕ
  n = get_or s.words (place_of c) 0

  abbrev Goes : Type 0
  Goes = (w : Known) × (a : Act (Unit {0})) × Valid s.homes [] a × IsWhole plan (stepped s (place_of c) (f n) id [] w a)
      × (told n (shown w.tree) × (w.participant ≡ notes n) × (carried_after {S = Unit {0}} [] a ≡ []) × marks w.tree w.sight)

  there : get_elem? h.tree.views id ≡ some k.tree
  there = tree_here plan s h id k here

  stores : StoresAreWhole k.tree
  stores = (h.stores id k.tree there).0

  apart : IsApart plan k.tree
  apart = apart_here plan s h id k here

  plainly : plan.slots ≡ None → Goes
  plainly none =
      let few = few_plain plan s h id k here none in
      let named = tree_named plan s h id k here in
      let own = is_its_own plan k.tree plan.last_card few named apart stores (subst (λ o. PlansFit o k.tree) none (h.stores id k.tree there).1) c word by_shown in
      let at = plain_found plan s h id k here c own.may own.fills none in
      let found : IsWord (found_by h.tree c) = subst IsWord at small in
      let can = can_be_shown plan k.tree plan.last_card few named c (found_by h.tree c) own.same found in
      let w = view_after h.tree k.tree c in
      let now : Known = record { tree = w; participant = notes n; sight = see c } in (
        now,
        keeps,
        tt,
        subst (λ m. IsWhole plan (stepped s (place_of c) m id [] now keeps))
            (sym ((does n small).1 none ∙ ap (left_by (atomic_of c)) at)) (plain_whole plan s h id k here c own.may own.fills none (notes n) (see c) (sees c own.may own.same)),
        (
          told_plain plan k.tree plan.last_card few named c (found_by h.tree c) n told (shown w) (plain_named plan s h id k here c own.may own.fills none) found (sym at)
              (λ fill a b. same fill a b (shown w))
              (tells h.tree h.reached id k.tree there refl apart c own.same own.may can (plain_placed plan s h id k here c own.may own.fills none)
              (plain_apart plan s h id k here c own.may own.fills none)),
          refl,
          refl,
          marked_by c own.may own.same (plain_apart plan s h id k here c own.may own.fills none),
        ),
      )

  by_slots : (sl : Slots) → plan.slots ≡ Some sl → Goes
  by_slots sl placed =
      let some : plan.slots ≢ None = λ none. some_not_none placed none in
      let lift = guards_are_lifted plan c k.tree apart stores word by_shown in
      let whole = lift.origin in
      let asks = asks_whole sl k.participant.slot k.participant.retired k.tree whole (subst (MayInMemory sl k.participant.slot k.participant.retired (shown k.tree)) (sym lift.is) (mem sl placed)) in
      let fills = fills_whole whole (subst StoresWord (sym lift.is) word) in
      let calm : k.participant.announced ≡ None → IsQuiet whole = λ none. quiet_whole whole (subst IsQuiet (sym lift.is) (quiet some none)) in
      let touch = refines_touch plan s h id k here whole lift.may lift.fills sl placed asks (unlost some) fills calm in
      let can = refines_can plan s h id k here whole lift.may lift.fills sl placed asks (unlost some) fills calm in
      let acts = calls_act_alike whole (found_by h.tree whole) can in
      let place : place_of whole ≡ place_of c = sym acts.word ∙ ap place_of lift.is in
      let w = view_after h.tree k.tree whole in
      let leaves : f n ≡ cut_by whole (left_by (atomic_of whole) (found_by h.tree whole)) =
      (does n small).0
      ∙ (ap cut_word ((λ i. left_by (atomic_of (sym lift.is i)) (get_or s.words (sym place i) 0)) ∙ left_refines s.words h.tree whole touch.finds)
      ∙ acts.leaves) in
      let now : Known = record { tree = w; participant = notes n; sight = see whole } in (
        now,
        keeps,
        tt,
        subst (λ i. IsWhole plan (stepped s i (f n) id [] now keeps)) place
            (subst (λ m. IsWhole plan (stepped s (place_of whole) m id [] now keeps)) (sym leaves)
            (refines_whole plan s h id k here whole lift.may lift.fills sl placed asks (unlost some) fills calm (notes n) (see whole) (sees whole lift.may lift.is)
            (notes_whole plan.slots s.words h.tree whole touch.finds can k.participant (notes n)
            (subst (λ i. Notes plan.slots (shown_call whole) (get_or s.words i 0) k.participant (notes n)) (sym place) (subst (λ d. Notes plan.slots d n k.participant (notes n)) (sym lift.is) (noted n small)))))),
        (
          subst (λ i. told (get_or s.words i 0) (shown w)) place
              (told_refines s.words h.tree whole told (shown w) touch.finds (λ fill a b. same (subst IsFill lift.is fill) a b (shown w))
              (tells h.tree h.reached id k.tree there refl apart whole lift.is lift.may can
              (refines_placed plan s h id k here whole lift.may lift.fills sl placed asks (unlost some) fills calm)
              (refines_apart plan s h id k here whole lift.may lift.fills sl placed asks (unlost some) fills calm))),
          refl,
          refl,
          marked_by whole lift.may lift.is (refines_apart plan s h id k here whole lift.may lift.fills sl placed asks (unlost some) fills calm),
        ),
      )

  pub goes_by : (o : Option Slots) → plan.slots ≡ o → Goes
  goes_by None none = plainly none
  goes_by (Some sl) placed = by_slots sl placed

-- a step call of the tree, which a pass makes by what is shown of what it knows, is one of the table
pub tree_step_marked : (plan : TablePlan) (k : Known) (c : Call) (f : ℕ → ℕ) (told : ℕ → View → Type 0) (notes : ℕ → Participant) → StoresWord c → May plan c (shown k.tree)
    → ((s : Slots) → plan.slots ≡ Some s → MayInMemory s k.participant.slot k.participant.retired (shown k.tree) c) → (plan.slots ≢ None → k.participant.lost ≡ None) → Does plan c f
    → (plan.slots ≢ None → k.participant.announced ≡ None → IsQuiet c) → (IsFill c → (n m : ℕ) (w : View) → told n w → told m w) → MayTell plan c (shown k.tree) told
    → ((n : ℕ) → IsWord n → Notes plan.slots c n k.participant (notes n))
    → (id : ℕ) → Allows (IsWhole plan) 0 id (k, []) (place_of c) f (λ n x. told n (shown x.0.tree) × (x.0.participant ≡ notes n) × (x.1 ≡ []) × Marks c (shown k.tree) k.sight x.0.sight)
tree_step_marked plan k c f told notes word by_shown mem unlost does quiet same tells noted id s h homes here small =
    goes_by plan k c f told notes word by_shown mem unlost does quiet same tells noted id s h here small
    (λ v g. Marks c (shown k.tree) k.sight g) (λ d. marked d id (history_of h.reached.turns) k.sight)
    (λ d may is. marked_so plan s h id k here d may)
    (λ d may is apart. subst (λ e. Marks e (shown k.tree) k.sight (marked d id (history_of h.reached.turns) k.sight)) is
    (marks_shown d k.tree k.sight (marked d id (history_of h.reached.turns) k.sight) (marks_now plan h.tree h.reached id k.tree (tree_here plan s h id k here) d k.sight (h.seen id k here))))
    plan.slots refl

-- and one that neither begins an operation nor answers one leaves what the pass has seen
pub tree_step : (plan : TablePlan) (k : Known) (c : Call) (f : ℕ → ℕ) (told : ℕ → View → Type 0) (notes : ℕ → Participant) → StoresWord c → May plan c (shown k.tree)
    → ((s : Slots) → plan.slots ≡ Some s → MayInMemory s k.participant.slot k.participant.retired (shown k.tree) c) → (plan.slots ≢ None → k.participant.lost ≡ None) → Does plan c f
    → (plan.slots ≢ None → k.participant.announced ≡ None → IsQuiet c) → (IsFill c → (n m : ℕ) (w : View) → told n w → told m w) → MayTell plan c (shown k.tree) told
    → ((n : ℕ) → IsWord n → Notes plan.slots c n k.participant (notes n)) → IsCalm c
    → (id : ℕ) → Allows (IsWhole plan) 0 id (k, []) (place_of c) f (λ n x. told n (shown x.0.tree) × (x.0.participant ≡ notes n) × (x.1 ≡ []) × (x.0.sight ≡ k.sight))
tree_step plan k c f told notes word by_shown mem unlost does quiet same tells noted calm id s h homes here small =
    let x = tree_step_marked plan k c f told notes word by_shown mem unlost does quiet same tells noted id s h homes here small in
    (x.0, x.1, x.2, x.3, (x.4.0, x.4.1, x.4.2, calm_marks c calm (shown k.tree) k.sight x.0.sight x.4.3))

-- stores and exchanges do neither
pub store_calm : (c : Call) (value : ℕ) → atomic_of c ≡ Store value → IsCalm c
store_calm (call.Begin op) value is = absurd cc
store_calm (call.Answer said took) value is = absurd cc
store_calm call.Look value is = absurd cc
store_calm _ value is = tt

pub exchange_calm : (c : Call) (expected value : ℕ) → atomic_of c ≡ Exchange expected value → IsCalm c
exchange_calm (call.Begin op) expected value is = absurd cc
exchange_calm (call.Answer said took) expected value is = absurd cc
exchange_calm call.Look expected value is = absurd cc
exchange_calm _ expected value is = tt

-- what a load, a store and an exchange do
pub load_does : (plan : TablePlan) (c : Call) → atomic_of c ≡ Load → Does plan c (λ n. n)
load_does plan c is n small =
    (sym (cut_same n small) ∙ ap (λ a. cut_word (left_by a n)) (sym is), λ none. ap (λ a. left_by a n) (sym is))

pub store_does : (plan : TablePlan) (c : Call) (value : ℕ) → IsWord value → atomic_of c ≡ Store value → Does plan c (λ n. value)
store_does plan c value word is n small =
    (sym (cut_same value word) ∙ ap (λ a. cut_word (left_by a n)) (sym is), λ none. ap (λ a. left_by a n) (sym is))

pub exchange_does : (plan : TablePlan) (c : Call) (expected value : ℕ) → Exchanges plan c expected value → Does plan c (λ n. either (n == expected) value n)
exchange_does plan c expected value x n small =
    (by (n == expected) ∙ ap (λ a. cut_word (left_by a n)) (sym x.is), λ none. all (n == expected) (x.all none) ∙ ap (λ a. left_by a n) (sym x.is))
  where
    by : (b : Bool) → either b value n ≡ cut_word (if b then x.whole else n)
    by true = x.cut
    by false = sym (cut_same n small)

    all : (b : Bool) → value ≡ x.whole → either b value n ≡ (if b then x.whole else n)
    all true same = same
    all false same = refl

-- a load sets no flag, nor does a store, nor a call that is known to set none
pub load_flags : (c : Call) → atomic_of c ≡ Load → (d : ℕ) → FlagsCard c d → ⊥
load_flags (call.IFlag e p from) is d flags = cc
load_flags (call.DFlag e gp from) is d flags = cc
load_flags _ is d flags = flags

pub store_flags : (c : Call) (value : ℕ) → atomic_of c ≡ Store value → (d : ℕ) → FlagsCard c d → ⊥
store_flags (call.IFlag e p from) value is d flags = cc
store_flags (call.DFlag e gp from) value is d flags = cc
store_flags _ value is d flags = flags

pub none_flags : (c : Call) → FlagsNone c → (d : ℕ) → FlagsCard c d → ⊥
none_flags (call.IFlag e p from) none d flags = none
none_flags (call.DFlag e gp from) none d flags = none
none_flags _ none d flags = flags

-- a load stores nothing
pub load_stores : (c : Call) → atomic_of c ≡ Load → IsFill c → ⊥
load_stores (call.Fill e f value) is fill = absurd cc
load_stores _ is fill = fill

pub exchange_stores : (c : Call) (expected value : ℕ) → atomic_of c ≡ Exchange expected value → IsFill c → ⊥
exchange_stores (call.Fill e f value) expected new is fill = absurd cc
exchange_stores _ expected value is fill = fill

-- the exchange of a child word, in words of 64 bits
pub child_exchanges : (plan : TablePlan) (c : Call) (old : Link) (node expected value : ℕ) → expected ≡ linked old → value ≡ cut_word (linked (next_link old node))
    → atomic_of c ≡ Exchange (linked old) (linked (next_link old node)) → (plan.slots ≡ None → node < tag_unit) → (plan.slots ≡ None → old.tag ≤ greatest_card) → Exchanges plan c expected value
child_exchanges plan c old node expected value at cut is inside few = record {
  whole = linked (next_link old node);
  is = is ∙ ap (λ x. Exchange x (linked (next_link old node))) (sym at);
  cut = cut;
  all = λ none. (let low = few none in let small = inside none in cut ∙ cut_same (linked (next_link old node)) (omega arith));
}

-- what a pass notes where it is to set a flag
pub flag_notes : (c : Call) (d expected value n : ℕ) (old new : Participant) → atomic_of c ≡ Exchange expected value → FlagsCard c d → (o : Option Slots) → new ≡ after_flagging o (n == expected) d old → Notes o c n old new
flag_notes c d expected value n old new is flags o notes = by o (n == expected) refl notes
  where
    by : (o : Option Slots) (b : Bool) → (n == expected) ≡ b → new ≡ after_flagging o b d old → Notes o c n old new
    by None b won notes = nothing notes (λ some. absurd (some refl))
    by (Some s) true won notes = nothing notes (λ some e flags'. ap (λ a. is_won a n) is ∙ won)
    by (Some s) false unwon notes = loses d notes flags (ap (λ a. is_won a n) is ∙ unwon)

-- a card that a pass is to flag is one whose slot it has taken, if cards come back
pub flag_taken : (plan : TablePlan) (p : PassModel) (c : Call) (d : ℕ) → May plan c p.view → MayInTable plan p c → FlagsCard c d → plan.slots ≢ None → p.memory.slot ≡ Some d
flag_taken plan p c d may kept flags there = by plan.slots refl
  where
    at : (s : Slots) (c : Call) → MayInMemory s p.memory.slot p.memory.retired p.view c → FlagsCard c d → p.memory.slot ≡ Some d
    at s (call.IFlag e q from) mem flags = mem.0 ∙ ap Some (sym flags)
    at s (call.DFlag e q from) mem flags = mem.0 ∙ ap Some (sym flags)
    at s _ mem flags = absurd flags

    by : (o : Option Slots) → plan.slots ≡ o → p.memory.slot ≡ Some d
    by None none = absurd (there none)
    by (Some s) placed = at s c (kept s placed) flags
