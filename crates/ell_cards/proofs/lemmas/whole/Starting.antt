-- A table starts whole.
use Rattle.std.proofs.Common.{◌≡◌, ◌-◌, ℕ, zero, suc, Option, Some, None, List, [], ◌∷◌, length, get_or, refl, sym, ap, ◌∙◌, subst}
use Rattle.atomic_table.specs.Table.{opening}
use Rattle.ell_layout.specs.Layout.{address, table_size}
use mathlib.Core.Option.{some-injective, some-ne-none}
use Rattle.ell_layout.specs.Start.{words_at_start}
use Rattle.ell_layout.specs.Words.{words_of}
use Rattle.ell_cards.specs.declared.view.Known.{Known}
use Rattle.ell_cards.specs.declared.view.Participant.{Participant}
use Rattle.ell_runs.specs.declared.view.Slots.{Slots}
use Rattle.ell_runs.specs.declared.view.View.{View}
use Rattle.ell_runs.specs.Changes.{first_of}
use Rattle.ell_runs.specs.Plans.{TablePlan}
use Rattle.ell_cards.specs.Models.{last_slot, last_slot_of}
use Rattle.ell_cards.specs.Epochs.{AreWholeWords, participant_by}
use Rattle.ell_core.proofs.lemmas.outcomes.Decide.{some_not_none}
use Rattle.ell_runs.specs.Seeing.{HasSeen}
use Rattle.ell_cards.specs.AllSeen.{AllHaveSeen, AreSilent}
use Rattle.ell_cards.specs.Shown.{IsWord, FieldIsWhole, StoresAreWhole}
use Rattle.ell_runs.specs.Sights.{no_sight}
use Rattle.ell_runs.specs.Starts.{MayStart, SlotsFit}
use Rattle.ell_cards.specs.Whole.{first_known, WordsAre, EpochsAre, IsWhole, PlansFit}
use Rattle.ell_runs.proofs.lemmas.lifetimes.Openings.{each_first}
use Rattle.ell_runs.proofs.lemmas.runs.Reaching.{reached_first}
use Rattle.ell_cards.proofs.lemmas.shown.ShownKinds.{field_is_whole}
use Rattle.ell_cards.proofs.lemmas.shown.ShownViews.{unfilled_whole}
use Rattle.ell_cards.proofs.lemmas.refinement.Opens.{tree_opened, reached_opened, epochs_opened, leaks_opened}
use Rattle.ell_cards.proofs.lemmas.whole.Lifts.{unplanned_fits}
use Rattle.ell_cards.proofs.lemmas.whole.Opens.{with_zeros}
use Rattle.ell_cards.proofs.lemmas.whole.OwnCalls.{apart_first}
use Rattle.ell_cards.proofs.lemmas.whole.Seeing.{has_none}

-- the first pass has seen nothing, and made no call
nothing_seen : (seat : ℕ) → HasSeen [] seat no_sight
nothing_seen seat = record { part = ([], refl); began = λ b at. absurd (some_not_none at refl); looks = λ n at. absurd (some_not_none at refl); mine = λ a has. absurd (has_none a has) }

first_seen : (v : View) (p : Participant) → AllHaveSeen [] (record { tree = v; participant = p; sight = no_sight } ∷ [])
first_seen v p zero u at = subst (λ (x : Known). HasSeen [] 0 x.sight) (some-injective (record { tree = v; participant = p; sight = no_sight }) u at) (nothing_seen 0)
first_seen v p (suc j) u at = absurd (some-ne-none u (sym at))

first_silent : (plan : TablePlan) (v : View) (p : Participant) → AreSilent plan (record { tree = v; participant = p; sight = no_sight } ∷ [])
first_silent plan v p zero u at none = subst (λ (x : Known). x.sight.mine ≡ []) (some-injective (record { tree = v; participant = p; sight = no_sight }) u at) refl
first_silent plan v p (suc j) u at none = absurd (some-ne-none u (sym at))

-- a table starts so
pub whole_first : (plan : TablePlan) (may : MayStart plan) (cards words : List ℕ) → ((i : ℕ) → IsWord (get_or cards i 0)) → length cards ≡ table_size (last_slot plan) → words_of cards ≡ words_at_start plan.flat plan.start
    → AreWholeWords plan.slots (length plan.start) cards words → IsWhole plan (opening words [] (first_known plan))
whole_first plan may cards words small size are is = by plan.slots refl may.slots is
  where
    by : (o : Option Slots) → plan.slots ≡ o → SlotsFit plan o → AreWholeWords o (length plan.start) cards words → IsWhole plan (opening words [] (first_known plan))
    by None none fit same =
        let all : length cards ≡ table_size plan.last_card = size ∙ ap (λ o. table_size (last_slot_of o plan.last_card)) none in
        record {
          tree = record { words = cards; views = first_of plan ∷ [] };
          reached = reached_first plan cards may all are;
          seen = first_seen (first_of plan) (participant_by plan.slots);
          made = λ a c. absurd (some-ne-none _ (sym c.ends));
          silent = first_silent plan (first_of plan) (participant_by plan.slots);
          apart = apart_first (first_known plan) refl;
          views = refl;
          homes = refl;
          stores = each_first (first_of plan) (λ v. StoresAreWhole v × PlansFit plan.slots v) (unfilled_whole (first_of plan) refl refl, unplanned_fits plan.slots (first_of plan) refl);
          words = subst (λ o. WordsAre o words cards) (sym none) same;
          epochs = subst (λ o. EpochsAre plan o ((record { words = cards; views = first_of plan ∷ [] })) (opening words [] (first_known plan))) (sym none) tt;
        }
    by (Some s) placed fit opens =
        let all : length cards ≡ table_size s.last = size ∙ ap (λ o. table_size (last_slot_of o plan.last_card)) placed in
        let has = epochs_opened plan s cards words may fit all are small opens in
        let tree = tree_opened plan s cards words may fit all are small opens in record {
          tree = tree;
          reached = reached_opened plan s cards words may fit all are small opens;
          seen = first_seen (first_of plan) (participant_by plan.slots);
          made = λ a c. absurd (some-ne-none _ (sym c.ends));
          silent = first_silent plan (first_of plan) (participant_by plan.slots);
          apart = apart_first (first_known plan) refl;
          views = refl;
          homes = refl;
          stores = each_first (first_of plan) (λ v. StoresAreWhole v × PlansFit plan.slots v) (unfilled_whole (first_of plan) refl refl, unplanned_fits plan.slots (first_of plan) refl);
          words = subst (λ o. WordsAre o words tree.words) (sym placed) (
            opens.size,
            λ c f. subst (FieldIsWhole f) (sym (with_zeros cards (table_size plan.last_card - length cards) (address c f)))
                (field_is_whole f (get_or cards (address c f) 0) (small (address c f))),
          );
          epochs = subst (λ o. EpochsAre plan o tree (opening words [] (first_known plan))) (sym placed)
              (subst (λ o. EpochsAre plan (Some s) tree (opening words [] (record { tree = first_of plan; participant = participant_by o; sight = no_sight }))) (sym placed)
              (has, leaks_opened plan s cards words may fit all are small opens));
        }
