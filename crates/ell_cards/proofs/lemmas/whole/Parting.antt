-- Splits and joins of a table.
use Rattle.std.proofs.Common.{◌≡◌, ℕ, Option, Some, None, List, [], ◌∷◌, ◌++◌, set, inl, inr, refl, sym, ap, ap₂, ◌∙◌, subst, arith}
use Rattle.std.proofs.lemmas.List.{map-set}
use mathlib.Core.Option.{some}
use lib.ListN.{get_elem?}
use Rattle.atomic_table.specs.Table.{Splits, Joins}
use Rattle.atomic_table.proofs.Lists.{set_else}
use Rattle.ell_runs.specs.declared.view.Event.{Event}
use Rattle.ell_runs.specs.declared.view.Event.TheVariants.{Quiet}
use Rattle.ell_cards.specs.declared.view.Known.{Known}
use Rattle.ell_runs.specs.declared.view.Slots.{Slots}
use Rattle.ell_runs.specs.Plans.{TablePlan}
use Rattle.ell_runs.specs.Views.{IsFree}
use Rattle.ell_runs.specs.Changes.{left_view, right_view, joined_view, spent_view}
use Rattle.ell_cards.specs.Epochs.{after_give, given_participant}
use Rattle.ell_runs.specs.Touching.{IsAtRest}
use Rattle.ell_runs.specs.States.{TableState}
use Rattle.ell_cards.specs.RefinementLaws.{left_known, right_known}
use Rattle.ell_cards.specs.Shown.{StoresAreWhole}
use Rattle.ell_cards.specs.Stepping.{MaySplit}
use Rattle.ell_core.proofs.lemmas.outcomes.Decide.{some_not_none}
use Rattle.ell_runs.specs.Histories.{history_of}
use Rattle.ell_runs.specs.Seeing.{HasSeen}
use Rattle.ell_cards.specs.AllSeen.{AllHaveSeen, AreMade}
use Rattle.ell_runs.specs.Sights.{given_sight}
use Rattle.ell_runs.proofs.lemmas.runs.Spent.{neither}
use Rattle.ell_cards.proofs.lemmas.whole.Seeing.{silent_set, silent_snoc, has_none, has_left, has_right, has_either, made_quiet, made_set, made_snoc, made_joined, history_snoc, all_on, all_set, all_snoc, seen_on, longer_part}
use Rattle.ell_runs.specs.Starts.{SlotsFit}
use Rattle.ell_runs.specs.Turns.{TableTurns, Splits as SplitsInto, Joins as JoinsWith, state_split, state_joined}
use Rattle.ell_cards.proofs.lemmas.refinement.Handovers.{split_goes, split_held, join_goes, join_held}
use Rattle.ell_cards.proofs.lemmas.whole.Handovers.{split_epochs, join_epochs}
use Rattle.ell_cards.specs.Whole.{trees_of, joined_known, spent_known, EpochsAre, IsWhole, PlansFit}
use Rattle.ell_runs.proofs.lemmas.lifetimes.Joins.{each_joined as each_view_joined}
use Rattle.ell_runs.proofs.lemmas.lifetimes.Splits.{each_split as each_view_split}
use Rattle.ell_cards.proofs.lemmas.shown.ShownViews.{unfilled_whole}
use Rattle.ell_runs.proofs.lemmas.runs.Reaching.{reached_on}
use Rattle.ell_cards.proofs.lemmas.whole.OwnCalls.{apart_joined, apart_set, apart_snoc}
use Rattle.ell_cards.proofs.lemmas.whole.Rests.{is_at_rest}
use Rattle.ell_cards.proofs.lemmas.whole.Retired.{retired_on}
use Rattle.ell_cards.proofs.lemmas.whole.LeaksOfHandovers.{join_hands, join_holds, leaks_handed, split_hands, split_holds}
use Rattle.ell_cards.proofs.lemmas.whole.Lifts.{unplanned_fits}
use Rattle.ell_cards.proofs.lemmas.whole.Trees.{tree_at}

-- the trees of a list with one more at its end
trees_more : (views : List Known) (k : Known) → trees_of (views ++ k ∷ []) ≡ trees_of views ++ k.tree ∷ []
trees_more [] k = refl
trees_more (x ∷ xs) k = ap (λ l. x.tree ∷ l) (trees_more xs k)

-- a split of the tree is a split of the table
pub whole_splits : (plan : TablePlan) (k : Known) (keys : List ℕ) → ((q : ℕ) → k.participant.other ≡ Some q → k.participant.other_says ≡ None) → MaySplit k.tree
    → (id : ℕ) → Splits (IsWhole plan) id k (record k { tree = left_view keys k.tree; participant = after_give k.participant }) (record { tree = right_view keys k.tree; participant = given_participant k.participant; sight = given_sight k.sight })
whole_splits plan k keys quiet may id s h here =
    let l' : Known = record k { tree = left_view keys k.tree; participant = after_give k.participant } in
    let r : Known = record { tree = right_view keys k.tree; participant = given_participant k.participant; sight = given_sight k.sight } in
    let there : get_elem? h.tree.views id ≡ some k.tree = ap (λ v. get_elem? v id) (sym h.views) ∙ tree_at s.views id k here in
    let tree : TableState = record { words = h.tree.words; views = set h.tree.views id (left_view keys k.tree) ++ (right_view keys k.tree) ∷ [] } in
    let turn : TableTurns plan h.tree (SplitsInto id keys) tree = record {
      view = k.tree;
      there = there;
      free = may.free;
      may = may.may;
      gives = refl;
    } in
    let past : List Event = history_of h.reached.turns ++ Quiet ∷ [] in
    let mine : HasSeen past id k.sight = seen_on (history_of h.reached.turns) (Quiet ∷ []) id k.sight (h.seen id k here) in
    record {
      tree = tree;
      reached = reached_on plan h.tree h.reached (SplitsInto id keys) tree turn;
      seen = subst (λ l. AllHaveSeen l (set s.views id l' ++ r ∷ [])) (sym (history_snoc h.reached.turns (SplitsInto id keys)))
          (all_snoc past (set s.views id l') r (all_set past s.views id l' (all_on (history_of h.reached.turns) (Quiet ∷ []) s.views h.seen) mine)
          (λ seat. record { part = mine.part; began = λ b at. absurd (some_not_none at refl); looks = λ n at. absurd (some_not_none at refl); mine = λ a has. absurd (has_none a has) }));
      made = subst (λ v. AreMade v (set s.views id l' ++ r ∷ [])) (sym (history_snoc h.reached.turns (SplitsInto id keys)))
          (made_snoc past (set s.views id l') r (made_quiet (history_of h.reached.turns) (set s.views id l') (made_set (history_of h.reached.turns) s.views id k l' here (λ a has. has) h.made)));
      silent = silent_snoc plan (set s.views id l') r (silent_set plan s.views id l' h.silent (λ spent. h.silent id k here spent)) (λ spent. refl);
      apart = apart_snoc (set s.views id l') r (apart_set s.views id k l' here h.apart (h.apart.each id k here) (λ a has. inl has)) refl;
      views = trees_more (set s.views id l') r ∙ (ap (λ v. v ++ (right_view keys k.tree) ∷ []) (map-set (λ (x : Known). x.tree) s.views id l') ∙ ap (λ v. set v id (left_view keys k.tree) ++ (right_view keys k.tree) ∷ []) h.views);
      homes = h.homes;
      words = h.words;
      stores = each_view_split h.tree.views id k.tree there (left_view keys k.tree) (right_view keys k.tree) (λ v. StoresAreWhole v × PlansFit plan.slots v)
          (unfilled_whole (left_view keys k.tree) refl refl, unplanned_fits plan.slots (left_view keys k.tree) refl)
          (unfilled_whole (right_view keys k.tree) refl refl, unplanned_fits plan.slots (right_view keys k.tree) refl) h.stores;
      epochs = by h.tree there h.views plan.slots h.reached.starts.may.slots h.epochs;
    }
  where
    left_rests : IsAtRest (left_view keys k.tree)
    left_rests = is_at_rest (left_view keys k.tree) refl refl refl refl refl

    right_rests : IsAtRest (right_view keys k.tree)
    right_rests = is_at_rest (right_view keys k.tree) refl refl refl refl refl

    by : (tree : TableState) → get_elem? tree.views id ≡ some k.tree → trees_of s.views ≡ tree.views → (o : Option Slots) → SlotsFit plan o → EpochsAre plan o tree s
        → EpochsAre plan o (state_split tree id k.tree keys)
        (record { words = s.words; homes = s.homes; views = set s.views id (record k { tree = left_view keys k.tree; participant = after_give k.participant }) ++ record { tree = right_view keys k.tree; participant = given_participant k.participant; sight = given_sight k.sight } ∷ [] })
    by tree there same None fit epochs = tt
    by tree there same (Some sl) fit (h, was) =
        let refinement = split_goes plan sl tree s h.lie h.dead h.was_dead (let low = fit.low in omega arith) (record { ages = h.ages; refines = h.refines }) id k here there keys may.free may.may in (
          record {
            lie = h.lie;
            lies = h.lies;
            dead = h.dead;
            began = h.began;
            was_dead = h.was_dead;
            epochs = split_epochs sl s id k here h.lie h.dead h.began h.was_dead h.epochs (left_view keys k.tree) (right_view keys k.tree) left_rests right_rests quiet;
            ages = refinement.on.ages;
            refines = refinement.refines;
            flat = h.flat;
            retired = retired_on plan sl tree h.ages.now.machine h.ages.now.uses (state_split tree id k.tree keys) refinement.on.ages.now.machine refinement.on.ages.now.uses refinement.on.words refinement.on.out
                s (record { words = s.words; homes = s.homes; views = set s.views id (left_known keys k) ++ right_known keys k ∷ [] }) h.lie same (λ slot low. refl) (split_held s id k keys) h.retired;
          },
          leaks_handed plan sl tree (state_split tree id k.tree keys) s (set s.views id (left_known keys k) ++ right_known keys k ∷ []) h.ages.now.machine refinement.on.ages.now.machine refinement.on.words refinement.on.later refinement.on.wins h.lie was
              (λ c. split_holds plan tree h.ages.now.machine s id k here there may.free c keys) (λ c. split_hands plan tree h.ages.now.machine s id k here there may.free c (left_view keys k.tree) (right_view keys k.tree)) s.homes,
        )

-- a join of the tree is a join of the table
pub whole_joins : (plan : TablePlan) (k l : Known) → IsFree k.tree → IsFree l.tree → l.participant.lost ≡ None
    → (id other : ℕ) → Joins (IsWhole plan) id k other l (joined_known k l) spent_known
whole_joins plan k l free other_free unlost id other s h here aside there =
    let ours : get_elem? h.tree.views id ≡ some k.tree = ap (λ v. get_elem? v id) (sym h.views) ∙ tree_at s.views id k here in
    let theirs : get_elem? s.views other ≡ some l = sym (set_else s.views id other (joined_known k l) aside) ∙ there in
    let tree : TableState = record { words = h.tree.words; views = set (set h.tree.views id (joined_view k.tree l.tree)) other spent_view } in
    let turn : TableTurns plan h.tree (JoinsWith id other) tree = record {
      view = k.tree;
      view' = l.tree;
      there = ours;
      there' = ap (λ v. get_elem? v other) (sym h.views) ∙ tree_at s.views other l theirs;
      apart = λ e. aside (sym e);
      free = free;
      free' = other_free;
      gives = refl;
    } in
    let past : List Event = history_of h.reached.turns ++ Quiet ∷ [] in
    let mine : HasSeen past id k.sight = seen_on (history_of h.reached.turns) (Quiet ∷ []) id k.sight (h.seen id k here) in
    let its : HasSeen past other l.sight = seen_on (history_of h.reached.turns) (Quiet ∷ []) other l.sight (h.seen other l theirs) in
    record {
      tree = tree;
      reached = reached_on plan h.tree h.reached (JoinsWith id other) tree turn;
      seen = subst (λ v. AllHaveSeen v (set (set s.views id (joined_known k l)) other spent_known)) (sym (history_snoc h.reached.turns (JoinsWith id other)))
          (all_set past (set s.views id (joined_known k l)) other spent_known
          (all_set past s.views id (joined_known k l) (all_on (history_of h.reached.turns) (Quiet ∷ []) s.views h.seen)
          (record {
            part = longer_part past k.sight.seen l.sight.seen mine.part its.part;
            began = mine.began;
            looks = mine.looks;
            mine = λ a has. elim (has_either k.sight.mine l.sight.mine a has) [
              | inl one ↦ mine.mine a one
              | inr one ↦ its.mine a one
            ];
          }))
          (record { part = (past, refl); began = λ b at. absurd (some_not_none at refl); looks = λ n at. absurd (some_not_none at refl); mine = λ a has. absurd (has_none a has) }));
      made = subst (λ v. AreMade v (set (set s.views id (joined_known k l)) other spent_known)) (sym (history_snoc h.reached.turns (JoinsWith id other)))
          (made_quiet (history_of h.reached.turns) (set (set s.views id (joined_known k l)) other spent_known)
          (made_joined (history_of h.reached.turns) s.views id other k l (joined_known k l) spent_known here theirs aside (λ a has. has_left k.sight.mine l.sight.mine a has) (λ a has. has_right k.sight.mine l.sight.mine a has) h.made));
      silent = silent_set plan (set s.views id (joined_known k l)) other spent_known
          (silent_set plan s.views id (joined_known k l) h.silent (λ spent. (let both = neither k.tree.worker.shared l.tree.worker.shared spent.1 in ap₂ (λ a b. a ++ b) (h.silent id k here (spent.0, both.0)) (h.silent other l theirs (spent.0, both.1))))) (λ spent. refl);
      apart = apart_joined s.views id other k l (joined_known k l) spent_known here theirs aside refl refl h.apart;
      views = map-set (λ (x : Known). x.tree) (set s.views id (joined_known k l)) other spent_known
          ∙ (ap (λ v. set v other spent_view) (map-set (λ (x : Known). x.tree) s.views id (joined_known k l))
          ∙ ap (λ v. set (set v id (joined_view k.tree l.tree)) other spent_view) h.views);
      homes = h.homes;
      words = h.words;
      stores = each_view_joined h.tree.views id other k.tree l.tree ours turn.there' aside (joined_view k.tree l.tree) (λ v. StoresAreWhole v × PlansFit plan.slots v)
          (unfilled_whole (joined_view k.tree l.tree) refl refl, unplanned_fits plan.slots (joined_view k.tree l.tree) refl)
          (unfilled_whole spent_view refl refl, unplanned_fits plan.slots spent_view refl) h.stores;
      epochs = by h.tree ours turn.there' h.views plan.slots h.reached.starts.may.slots h.epochs theirs;
    }
  where
    by : (tree : TableState) → get_elem? tree.views id ≡ some k.tree → get_elem? tree.views other ≡ some l.tree → trees_of s.views ≡ tree.views → (o : Option Slots) → SlotsFit plan o → EpochsAre plan o tree s → get_elem? s.views other ≡ some l
        → EpochsAre plan o (state_joined tree id other k.tree l.tree)
        (record { words = s.words; homes = s.homes; views = set (set s.views id (joined_known k l)) other spent_known })
    by tree ours theirs same None fit epochs there = tt
    by tree ours theirs same (Some sl) fit (h, was) there =
        let refinement = join_goes plan sl tree s h.lie h.dead h.was_dead (let low = fit.low in omega arith) (record { ages = h.ages; refines = h.refines }) id other k l here there ours theirs
        (λ e. aside (sym e)) free other_free in (
          record {
            lie = h.lie;
            lies = h.lies;
            dead = h.dead;
            began = h.began;
            was_dead = h.was_dead;
            epochs = join_epochs sl s id other k l here there aside h.lie h.dead h.began h.was_dead h.epochs;
            ages = refinement.on.ages;
            refines = refinement.refines;
            flat = h.flat;
            retired = retired_on plan sl tree h.ages.now.machine h.ages.now.uses (state_joined tree id other k.tree l.tree) refinement.on.ages.now.machine refinement.on.ages.now.uses refinement.on.words refinement.on.out
                s (record { words = s.words; homes = s.homes; views = set (set s.views id (joined_known k l)) other spent_known }) h.lie same (λ slot low. refl) (join_held s id other k l) h.retired;
          },
          leaks_handed plan sl tree (state_joined tree id other k.tree l.tree) s (set (set s.views id (joined_known k l)) other spent_known) h.ages.now.machine refinement.on.ages.now.machine refinement.on.words refinement.on.later refinement.on.wins h.lie was
              (λ c. join_holds plan tree h.ages.now.machine s id other k l here there ours theirs (λ e. aside (sym e)) free other_free unlost c)
              (λ c. join_hands plan tree h.ages.now.machine s id other k l here there ours theirs (λ e. aside (sym e)) free other_free unlost c (joined_view k.tree l.tree) spent_view) s.homes,
        )
