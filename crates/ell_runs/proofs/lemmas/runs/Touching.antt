use Rattle.std.proofs.Common.{◌≡◌, ◌≢◌, ℕ, ◌≤◌, ◌+◌, ◌==◌, if◌then◌else◌, inl, inr, Bool, true, false, Option, Some, None, List, [], ◌∷◌, get_or, refl, sym, ap, ◌∙◌, subst, eqb-true, arith, ◌%◌, ◌&&◌, ◌||◌, not, nat_lt}
use Rattle.std.proofs.lemmas.Bool.{cases_eq, true≢false, false≢true, false_from_ne_true, eq-eqb}
use Rattle.ell_runs.proofs.lemmas.words.Lists.{set_else}
use mathlib.Core.Option.{some, some-injective}
use lib.ListN.{get_elem?}
use Rattle.ell_word.specs.Node.{IsInternal, left_leaf, right_leaf}
use Rattle.ell_word.specs.Word.{packed, unpacked}
use Rattle.ell_word.specs.Link.{link_in}
use Rattle.ell_word.specs.declared.link.Link.{Link}
use Rattle.ell_word.specs.declared.update.State.{State}
use Rattle.ell_word.specs.declared.update.State.TheVariants as state
use Rattle.ell_core.specs.declared.event.Act.{Act}
use Rattle.ell_core.specs.declared.event.Event.{Event}
use Rattle.ell_core.specs.declared.event.Stepped.{Stepped}
use Rattle.ell_core.specs.declared.fact.Fact.{Fact}
use Rattle.ell_core.specs.declared.fact.Fact.TheVariants as fact
use Rattle.ell_layout.specs.declared.field.Field.{Field}
use Rattle.ell_layout.specs.declared.field.Field.TheVariants as field
use Rattle.ell_layout.specs.Layout.{address}
use Rattle.ell_layout.specs.Words.{Words, word, key_field, child_field}
use Rattle.ell_layout.specs.Cards.{says_by}
use Rattle.ell_core.specs.state.Machine.{Machine, Worker}
use Rattle.ell_core.specs.acts.Events.{Steps}
use Rattle.ell_core.specs.history.Stages.{insert_over, delete_over, Stage, Stages, Born, is_start, is_claimed, insert_won, is_changed, delete_won, is_cut, is_unmarkable, waits, allows}
use Rattle.ell_core.specs.history.Invariant.{Invariant}
use Rattle.ell_core.specs.history.Later.{WordsLater, StagesLater, wins_of}
use Rattle.ell_core.specs.statements.Since.{has_ended}
use Rattle.ell_core.specs.statements.Told.{is_fixed}
use Rattle.ell_core.proofs.lemmas.words.Packed.{packed_again}
use Rattle.ell_core.proofs.lemmas.stages.Order.{delete_won-delete, insert_won-insert, marked-won}
use Rattle.ell_core.proofs.lemmas.stages.Ended.{unended_before}
use Rattle.ell_core.proofs.lemmas.stages.LaterKeys.{root_born}
use Rattle.ell_core.proofs.lemmas.stages.Advances.{stages_same}
use Rattle.ell_core.proofs.lemmas.stages.Sums.{sum_by}
use Rattle.ell_core.specs.state.Facts.{card_of_fact}
use Rattle.ell_core.proofs.lemmas.following.Lawful.{splits_lawful, joins_lawful}
use Rattle.ell_core.proofs.lemmas.following.waiting.Cards.{hand_waits}
use Rattle.ell_grace.specs.Gone.{TakesOut, IsGone, OutsAreSound, HasOuts}
use Rattle.ell_grace.specs.Cards.{CardsSince}
use Rattle.ell_grace.specs.Since.{ComesFrom}
use Rattle.ell_grace.proofs.lemmas.since.Facts.{found_fresh}
use Rattle.ell_grace.proofs.lemmas.since.Places.{reached_stays}
use Rattle.ell_grace.proofs.lemmas.since.Much.{one, much, changed_much}
use Rattle.ell_grace.proofs.lemmas.since.Coming.{states_come_from_themselves, events_lead_on, children_were_not_gone, reached_was_not_gone}
use Rattle.ell_runs.specs.declared.call.Call.{Call}
use Rattle.ell_runs.specs.declared.call.Call.TheVariants as call
use Rattle.ell_runs.specs.declared.view.Told.{Told}
use Rattle.ell_runs.specs.declared.view.Told.TheVariants.{Met, Depth, Key, Value, Info, Expects, Frozen}
use Rattle.ell_runs.specs.declared.view.View.{View}
use Rattle.ell_runs.specs.Plans.{TablePlan}
use Rattle.ell_runs.specs.Views.{Has, latest, earlier, IsTold, Knows, KnowsCard}
use Rattle.ell_runs.specs.Changes.{forgotten, places_by, told_info, told_filling, filling_of, depth_there, after_claim, after_flag, after_mark, is_mark_of, unmarking, with_fact, left_view, right_view, joined_view, expected_tag}
use Rattle.ell_runs.specs.Depths.{depth_told, met_at}
use Rattle.ell_runs.specs.Guards.{MayAsk}
use Rattle.ell_runs.specs.Calls.{after, May, act_of, said_of, Becomes, child_address}
use Rattle.ell_runs.specs.States.{TableState}
use Rattle.ell_runs.specs.Machines.{HasMachine}
use Rattle.ell_runs.specs.Laws.{machine_of_table}
use Rattle.ell_runs.specs.Turns.{Turn, Makes, Splits, Joins, CallIsMade, TableTurns, TableRun, found_by}
use Rattle.ell_runs.specs.Starts.{IsReached}
use Rattle.ell_runs.specs.Runs.{GoesBy}
use Rattle.ell_runs.specs.Touching.{forgets, Touched, AtNode, OfCard, AtRoot, touched_by, IsWordOf, WasThere, CallsTouchTheirWords, CallsTouchNothingGone, TablesHaveOuts, KnowsTakenOut, KnownTakenOutIsGone}
use Rattle.ell_runs.proofs.lemmas.seats.Seats.{mine_is, set_there}
use Rattle.ell_runs.proofs.lemmas.seats.Entries.{with_entry}
use Rattle.ell_runs.proofs.lemmas.seats.Staying.{known_by}
use Rattle.ell_runs.proofs.lemmas.lifetimes.Splits.{of_split}
use Rattle.ell_runs.proofs.lemmas.lifetimes.Joins.{of_join}
use Rattle.ell_runs.proofs.lemmas.stepping.Looks.{child_read}
use Rattle.ell_runs.proofs.lemmas.stepping.Known.{known_settled, known_delete}
use Rattle.ell_runs.proofs.lemmas.stepping.Exchanges.{told_is}
use Rattle.ell_runs.proofs.lemmas.runs.Met.{IsPassed, SearchIsMet, searches_are_met}
use Rattle.ell_runs.proofs.lemmas.runs.Outcomes.{listed_update}
use Rattle.ell_runs.proofs.lemmas.runs.Reaching.{reached_on}
use Rattle.ell_runs.proofs.lemmas.stepping.Asking.{says}
use Rattle.ell_runs.proofs.lemmas.runs.Starting.{starts_are_kept}
use Rattle.ell_runs.proofs.lemmas.runs.TurnsOfRuns.{turn_lawful}
use Rattle.ell_runs.proofs.lemmas.words.Addresses.{update_address}

-- the claim word, and a word of the root
claim_word : IsWordOf AtRoot 0
claim_word = inl refl

root_word : (f : Field) → IsWordOf AtRoot (address 0 f)
root_word f = inr (f, refl)

-- each call touches a word of what it is said to touch
pub calls_touch_their_words : CallsTouchTheirWords
calls_touch_their_words (call.Upd x) = (field.Update, refl)
calls_touch_their_words (call.Down x right) = (_, refl)
calls_touch_their_words (call.KeyOf x) = (_, refl)
calls_touch_their_words (call.ValueOf x) = (_, refl)
calls_touch_their_words (call.Info c f) = (f, refl)
calls_touch_their_words (call.FrozenChild c p right) = (_, refl)
calls_touch_their_words (call.LookDown from to right) = (_, refl)
calls_touch_their_words (call.Fill c f value) = (f, refl)
calls_touch_their_words (call.IFlag c p from) = (field.Update, refl)
calls_touch_their_words (call.IChild c p l replaces right) = (_, refl)
calls_touch_their_words (call.IUnflag c p) = (field.Update, refl)
calls_touch_their_words (call.DFlag c gp from) = (field.Update, refl)
calls_touch_their_words (call.Mark c p was) = (field.Update, refl)
calls_touch_their_words (call.DChild c gp p s right) = (_, refl)
calls_touch_their_words (call.DUnflag c gp) = (field.Update, refl)
calls_touch_their_words (call.Backtrack c gp) = (field.Update, refl)
calls_touch_their_words call.Next = claim_word
calls_touch_their_words (call.Claim c q) = claim_word
calls_touch_their_words call.Look = root_word (child_field false)
calls_touch_their_words call.Rest = root_word (key_field 0)
calls_touch_their_words (call.Begin op) = root_word (key_field 0)
calls_touch_their_words call.Again = root_word (key_field 0)
calls_touch_their_words call.Leave = root_word (key_field 0)
calls_touch_their_words (call.Answer said took) = root_word (key_field 0)

-- how far a card has come, by what it has won
changed-won : (s : Stage) → is_changed s ≡ true → insert_won s ≡ true
changed-won s h = grind arith

cut-won : (s : Stage) → is_cut s ≡ true → delete_won s ≡ true
cut-won s h = grind arith

unmarkable-won : (s : Stage) → is_unmarkable s ≡ true → delete_won s ≡ true
unmarkable-won s h = grind arith

waits-unended : (s : Stage) → waits s ≡ true → has_ended s ≡ false
waits-unended s h = grind arith

unclaimed-unended : (s : Stage) → is_claimed s ≡ false → has_ended s ≡ false
unclaimed-unended s h = grind arith

cut_much : (s : Stage) → is_cut s ≡ true → 3 ≤ much s
cut_much s h = grind arith

insert_won-unstarted : (s : Stage) → insert_won s ≡ true → is_start s ≡ false
insert_won-unstarted s h = grind arith

delete_won-unstarted : (s : Stage) → delete_won s ≡ true → is_start s ≡ false
delete_won-unstarted s h = grind arith

waits-unstarted : (s : Stage) → waits s ≡ true → is_start s ≡ false
waits-unstarted s h = grind arith

-- What was so of nodes at these stages of a state, by what is kept in each state that comes from it: what was so was not gone;
-- it was so of each internal node that has come into the tree by now and was not gone, and of each child that one of which it
-- was so has by now. And each event keeps what is kept, and so do words that stay as they were.
pub record NodesWere (m : Machine) (stage : Stages) (Kept : (now : Machine) → ComesFrom m stage now → Type 0) (Was : ℕ → Type 0) : Type 0 where
  pub stays : (x : ℕ) → Was x → ¬ IsGone m.words stage x
  pub inner : (now : Machine) (from : ComesFrom m stage now) → Kept now from → (x : ℕ) → IsInternal x → Born from.stages x
      → ¬ IsGone m.words stage x → Was x
  pub child : (now : Machine) (from : ComesFrom m stage now) → Kept now from → (x : ℕ) → IsInternal x → Born from.stages x
      → Was x → (right : Bool) → Was (now.words.child x right)
  pub events : (old : Machine) (from : ComesFrom m stage old) → Kept old from → (e : Event) (said : Stepped) (new : Machine) → Steps old e said new
      → (to : ComesFrom m stage new) × StagesLater from.stages to.stages × Kept new to
  pub words : (old : Machine) (from : ComesFrom m stage old) → Kept old from → (new : Machine) → new.words ≡ old.words → Invariant new from.stages
      → (to : ComesFrom m stage new) × StagesLater from.stages to.stages × Kept new to

module _ (plan : TablePlan) (m : Machine) (stage : Stages) (first : Invariant m stage) (Kept : (now : Machine) → ComesFrom m stage now → Type 0)
    (Was : ℕ → Type 0) (were : NodesWere m stage Kept Was) where
  -- what is so of an entry that a pass was told since: a node that it met is in the tree or was, and it was so of it; a card of
  -- which it learnt had not ended
  abbrev Since : Stages → Told → Type 0
  Since now (Met x) = Born now x × Was x
  Since now (Info c f x) = has_ended (stage c) ≡ false
  Since now _ = Unit {0}

  -- what a call touches was there: it was so of the node, or the card had not ended and is not of the opening tree
  abbrev pub Touches : Touched → Type 0
  Touches (AtNode x) = Was x
  Touches (OfCard c) = (has_ended (stage c) ≡ false) × (is_start (stage c) ≡ false)
  Touches AtRoot = Unit {0}

  since_on : (old new : Stages) → StagesLater old new → (e : Told) → Since old e → Since new e
  since_on old new later (Met x) h = (later.born x h.0, h.1)
  since_on old new later (Info c f x) h = h
  since_on old new later (Depth x d) h = tt
  since_on old new later (Key x key) h = tt
  since_on old new later (Value x value) h = tt
  since_on old new later (Expects c tag) h = tt
  since_on old new later (Frozen c right x) h = tt

  -- the root is in the tree
  pub root_since : (now : Machine) (from : ComesFrom m stage now) → Kept now from → Since from.stages (Met 0)
  root_since now from kept =
      let born = root_born now.words from.stages from.invariant.words in (
        born,
        were.inner now from kept 0 refl born (reached_was_not_gone m stage first now from 0
            (reached_stays now.words from.stages from.invariant.words from.outs 0 (record { path = []; leads = refl }))),
      )

  forgotten_since : (now : Machine) (from : ComesFrom m stage now) → Kept now from → (e : Told) → Has forgotten e → Since from.stages e
  forgotten_since now from kept e (latest _ _) = root_since now from kept
  forgotten_since now from kept e (earlier _ _ _ none) = elim none [ ]

  -- a node that is met
  met_since : (now : Stages) (depth x : ℕ) (told : List Told) → Since now (Met x) → ((e : Told) → Has told e → Since now e)
      → (e : Told) → Has (met_at depth x told) e → Since now e
  met_since now depth x told is old e (latest _ _) = is
  met_since now depth x told is old e (earlier _ _ _ (latest _ _)) = tt
  met_since now depth x told is old e (earlier _ _ _ (earlier _ _ _ h)) = old e h

  -- where an update's card goes
  places_since : (now : Stages) (x : ℕ) (st : State) (c : ℕ) (told : List Told) → (st ≢ state.Clean → has_ended (stage c) ≡ false)
      → ((e : Told) → Has told e → Since now e) → (e : Told) → Has (places_by x st c told) e → Since now e
  places_since now x state.IFlag c told un old e (latest _ _) = un (λ s. cc)
  places_since now x state.IFlag c told un old e (earlier _ _ _ h) = old e h
  places_since now x state.DFlag c told un old e (latest _ _) = un (λ s. cc)
  places_since now x state.DFlag c told un old e (earlier _ _ _ h) = old e h
  places_since now x state.Mark c told un old e (latest _ _) = un (λ s. cc)
  places_since now x state.Mark c told un old e (earlier _ _ _ h) = old e h
  places_since now x state.Clean c told un old e h = old e h

  -- what fills a card
  filling_since : (now : Stages) (c : ℕ) (es : List (Field × ℕ)) (told : List Told) → has_ended (stage c) ≡ false → ((e : Told) → Has told e → Since now e)
      → (e : Told) → Has (told_filling c es told) e → Since now e
  filling_since now c [] told un old e h = old e h
  filling_since now c (f ∷ fs) told un old e h = by (is_fixed f.0) e (filling_since now c fs told un old e) h
    where
      by : (b : Bool) (d : Told) → (Has (told_filling c fs told) d → Since now d)
          → Has (if b then Info c f.0 f.1 ∷ told_filling c fs told else told_filling c fs told) d → Since now d
      by true d rest (latest _ _) = un
      by true d rest (earlier _ _ _ g) = rest g
      by false d rest g = rest g

  module _ (s : TableState) (h : IsReached plan s) (r : HasMachine plan s) (id : ℕ) (v : View) (there : get_elem? s.views id ≡ some v)
      (from : ComesFrom m stage (machine_of_table plan s r)) (kept : Kept (machine_of_table plan s r) from) where
    abbrev M : Machine
    M = machine_of_table plan s r

    abbrev Fine : Told → Type 0
    Fine e = Since from.stages e

    knows_it : (f : Fact) → Knows v f → (M.worker id).knows f ≡ true
    knows_it f k = ap (λ (u : Worker). u.knows f) (mine_is plan s r id v there) ∙ k

    -- a child of an internal node, as it stands in the table
    child_fine : (x : ℕ) (right : Bool) → IsInternal x → Born r.stages x → Fine (Met x)
        → Fine (Met (link_in (get_or s.words (child_address x right) 0)).node)
    child_fine x right inner listed fine =
        subst (λ y. Fine (Met y)) (ap (λ (l : Link). l.node) (sym (child_read plan s r id v there x right inner listed))) (
          (from.invariant.words.children x inner fine.0).born right,
          were.child M from kept x inner fine.0 fine.1 right,
        )

    -- the card of an update word that was found at a node
    found_fine : (x : ℕ) → IsInternal x → Born r.stages x → Fine (Met x) → (n : ℕ) → get_or s.words (update_address x) 0 ≡ n
        → (unpacked n).state ≢ state.Clean → has_ended (stage (unpacked n).card) ≡ false
    found_fine x inner listed fine n is dirty =
        found_fresh m stage M from.stages first from.invariant from.words from.later x inner fine.0 (were.stays x fine.1) (unpacked n).state (unpacked n).card
        (sym (listed_update plan s r x inner listed) ∙ (is ∙ sym (packed_again n))) dirty

    -- a card may be known by these facts
    insert_goes : (c : ℕ) → insert_won (from.stages c) ≡ true → has_ended (stage c) ≡ false → Fine (Met (r.words.p c))
    insert_goes c won un =
        let card = (from.invariant.words.cards c).insert (insert_won-insert (from.stages c) won) in
        (card.parent.born, were.inner M from kept (r.words.p c) card.parent.inner card.parent.born (from.cards.insert c won un))

    delete_goes : (c : ℕ) → delete_won (from.stages c) ≡ true → has_ended (stage c) ≡ false → Fine (Met (r.words.gp c)) × Fine (Met (r.words.p c))
    delete_goes c won un =
        let card = (from.invariant.words.cards c).delete (delete_won-delete (from.stages c) won) in
        let stay = from.cards.delete c won un in (
          (card.grandparent.born, were.inner M from kept (r.words.gp c) card.grandparent.inner card.grandparent.born stay.0),
          (card.parent.born, were.inner M from kept (r.words.p c) card.parent.inner card.parent.born stay.1),
        )

    allowed : (f : Fact) → Knows v f → allows f (from.stages (card_of_fact f)) ≡ true
    allowed f k = (from.invariant.workers.each id).facts f (knows_it f k)

    -- where a card goes that is known flagged or marked
    parent_fine : (c : ℕ) → KnowsCard v c → has_ended (stage c) ≡ false → Fine (Met (r.words.p c))
    parent_fine c (inl k) un = insert_goes c (allowed (fact.IFlagged c) k) un
    parent_fine c (inr (inl k)) un = (delete_goes c (allowed (fact.DFlagged c) k) un).1
    parent_fine c (inr (inr k)) un = (delete_goes c (marked-won (from.stages c) (allowed (fact.Marked c) k)) un).1

    above_fine : (c : ℕ) → KnowsCard v c → has_ended (stage c) ≡ false → Fine (Met (r.words.gp c))
    above_fine c (inl k) un =
        let card = (from.invariant.words.cards c).insert (insert_won-insert (from.stages c) (allowed (fact.IFlagged c) k)) in
        subst (λ x. Fine (Met x)) (sym card.gp) (root_since M from kept)
    above_fine c (inr (inl k)) un = (delete_goes c (allowed (fact.DFlagged c) k) un).0
    above_fine c (inr (inr k)) un = (delete_goes c (marked-won (from.stages c) (allowed (fact.Marked c) k)) un).0

    module _ (old : (e : Told) → IsTold v e → Fine e) where
      met : SearchIsMet v
      met = searches_are_met plan s h id v there

      listed : (x : ℕ) → IsTold v (Met x) → Born r.stages x
      listed x told = (r.views id v there).entries (Met x) told

      -- what is told of a card's word
      info_since : (c : ℕ) (f : Field) → MayAsk v c f → has_ended (stage c) ≡ false → (n : ℕ) → n ≡ get_or s.words (address c f) 0
          → (e : Told) → Has (told_info (depth_there v c f) c f n v.told) e → Fine e
      info_since c f may un n is = by f refl
        where
          known : KnowsCard v c
          known = known_by v c f may.knows

          said : (g : Field) → f ≡ g → word r.words c g ≡ says_by g n
          said g same =
              subst (λ k. word r.words c k ≡ says_by k n) same
              (says plan s r id v there c f n known may.fixed (sym (r.settled c f (known_settled plan s r id v there c known)) ∙ sym is))

          by : (g : Field) → f ≡ g → (e : Told) → Has (told_info (depth_there v c g) c g n v.told) e → Fine e
          by field.Gp same = with_entry Fine (Info c field.Gp n) (Met n ∷ v.told) un
              (with_entry Fine (Met n) v.told (subst (λ x. Fine (Met x)) (said field.Gp same) (above_fine c known un)) old)
          by field.P same = with_entry Fine (Info c field.P n) (met_at (depth_there v c field.P) n v.told) un
              (met_since from.stages (depth_there v c field.P) n v.told (subst (λ x. Fine (Met x)) (said field.P same) (parent_fine c known un)) old)
          by field.L same = with_entry Fine (Info c field.L (link_in n).node) (Expects c (link_in n).tag ∷ v.told) un
              (with_entry Fine (Expects c (link_in n).tag) v.told tt old)
          by field.Was same = with_entry Fine (Info c field.Was n) v.told un old
          by field.Key same = with_entry Fine (Info c field.Key n) v.told un old
          by field.Left same = with_entry Fine (Info c field.Left (says_by field.Left n)) v.told un old
          by field.Right same = with_entry Fine (Info c field.Right (says_by field.Right n)) v.told un old
          by field.Update same = with_entry Fine (Info c field.Update (says_by field.Update n)) v.told un old
          by field.LeftLeafKey same = with_entry Fine (Info c field.LeftLeafKey n) v.told un old
          by field.RightLeafKey same = with_entry Fine (Info c field.RightLeafKey n) v.told un old
          by field.LeftValue same = with_entry Fine (Info c field.LeftValue n) v.told un old
          by field.RightValue same = with_entry Fine (Info c field.RightValue n) v.told un old

      -- an update word that was found at a node which the search has passed
      passed_since : (x : ℕ) → IsPassed v x → (n : ℕ) → get_or s.words (update_address x) 0 ≡ n
          → (e : Told) → Has (places_by x (unpacked n).state (unpacked n).card v.told) e → Fine e
      passed_since x passed n is =
          places_since from.stages x (unpacked n).state (unpacked n).card v.told
          (found_fine x passed.inner (listed x passed.met) (old (Met x) passed.met) n is) old

      -- a card of which the pass was told where it goes had not ended
      card_un : (c : ℕ) (f : Field) (x : ℕ) → IsTold v (Info c f x) → has_ended (stage c) ≡ false
      card_un c f x told = old (Info c f x) told

      asked_un : (c : ℕ) (f : Field) → MayAsk v c f → has_ended (stage c) ≡ false
      asked_un c f may = elim may.place.1 [
        | inl p ↦ card_un c field.P may.place.0 p
        | inr gp ↦ card_un c field.Gp may.place.0 gp
      ]

      -- the parent of a card, as it was told
      at_parent : (c p : ℕ) → IsTold v (Info c field.P p) → Fine (Met (r.words.p c)) → Fine (Met p)
      at_parent c p told = subst (λ x. Fine (Met x)) (told_is plan s r id v there c field.P p told)

      at_above : (c gp : ℕ) → IsTold v (Info c field.Gp gp) → Fine (Met (r.words.gp c)) → Fine (Met gp)
      at_above c gp told = subst (λ x. Fine (Met x)) (told_is plan s r id v there c field.Gp gp told)

      marked_parent : (c p : ℕ) → Knows v (fact.Marked c) → IsTold v (Info c field.P p) → Fine (Met p)
      marked_parent c p k told =
          at_parent c p told (delete_goes c (marked-won (from.stages c) (allowed (fact.Marked c) k)) (card_un c field.P p told)).1

      flagged_parent : (c p : ℕ) → Knows v (fact.DFlagged c) → IsTold v (Info c field.P p) → Fine (Met p)
      flagged_parent c p k told = at_parent c p told (delete_goes c (allowed (fact.DFlagged c) k) (card_un c field.P p told)).1

      -- what a call tells that forgets nothing
      told_since : (c : Call) → forgets c ≡ false → May plan c v → (e : Told) → IsTold (after c (found_by s c) v) e → Fine e
      told_since (call.Begin op) keeps may e h = absurd (true≢false keeps)
      told_since call.Again keeps may e h = absurd (true≢false keeps)
      told_since call.Leave keeps may e h = absurd (true≢false keeps)
      told_since (call.Answer said took) keeps may e h = absurd (true≢false keeps)
      told_since call.Look keeps may e h = absurd (true≢false keeps)
      told_since call.Rest keeps may e h = absurd (true≢false keeps)
      told_since (call.Upd x) keeps may e h =
          passed_since x (record { inner = may.inner; met = met.node x may.stands }) (found_by s (call.Upd x)) refl e h
      told_since (call.Down x right) keeps may e h =
          let stood = met.node x may.stands in
          met_since from.stages (depth_told v.told x + 1) (link_in (found_by s (call.Down x right))).node v.told
          (child_fine x right may.inner (listed x stood) (old (Met x) stood)) old e h
      told_since (call.LookDown at to right) keeps may e h =
          met_since from.stages (depth_told v.told at.node + 1) (link_in (found_by s (call.LookDown at to right))).node v.told
          (child_fine at.node right may.inner (listed at.node may.met) (old (Met at.node) may.met)) old e h
      told_since (call.KeyOf x) keeps may e h = with_entry Fine (Key x (found_by s (call.KeyOf x))) v.told tt old e h
      told_since (call.ValueOf x) keeps may e h = with_entry Fine (Value x (found_by s (call.ValueOf x))) v.told tt old e h
      told_since (call.Info c f) keeps may e h = info_since c f may (asked_un c f may) (found_by s (call.Info c f)) refl e h
      told_since (call.FrozenChild c p right) keeps may e h =
          let card = known_delete plan s r id v there c (inr may.knows) in
          let is = told_is plan s r id v there c field.P p may.place in
          let child = (link_in (found_by s (call.FrozenChild c p right))).node in
          with_entry Fine (Frozen c right child) (met_at (depth_told v.told p + 1) child v.told) tt
          (met_since from.stages (depth_told v.told p + 1) child v.told
          (child_fine p right (subst IsInternal is card.parent.inner) (subst (Born r.stages) is card.parent.born) (marked_parent c p may.knows may.place)) old) e h
      told_since (call.Claim c q) keeps may e h = by (found_by s (call.Claim c q) == c) refl h
        where
          by : (b : Bool) → (found_by s (call.Claim c q) == c) ≡ b → IsTold (after_claim b c q v) e → Fine e
          by true is g =
              let at = eqb-true (found_by s (call.Claim c q)) c is in
              let next = r.next in
              with_entry Fine (Expects c (expected_tag v)) (told_filling c (filling_of c q v) v.told) tt
              (filling_since from.stages c (filling_of c q v) v.told
              (unclaimed-unended (stage c) (false_from_ne_true (is_claimed (stage c)) (λ claimed.
              let low = (first.words.cards c).claimed.0 claimed in let more = from.words.next in omega arith))) old) e g
          by false is g = old e g
      told_since (call.IFlag c p at) keeps may e h = by (found_by s (call.IFlag c p at) == packed at) h
        where
          passed : IsPassed v p
          passed = subst (IsPassed v) may.node (met.parent may.parent may.behind)

          by : (b : Bool) → IsTold (after_flag b (fact.IFlagged c) p (unpacked (found_by s (call.IFlag c p at))) v) e → Fine e
          by true g = old e g
          by false g = passed_since p passed (found_by s (call.IFlag c p at)) refl e g
      told_since (call.DFlag c gp at) keeps may e h = by (found_by s (call.DFlag c gp at) == packed at) h
        where
          passed : IsPassed v gp
          passed = subst (IsPassed v) may.node (met.grandparent may.grandparent may.above)

          by : (b : Bool) → IsTold (after_flag b (fact.DFlagged c) gp (unpacked (found_by s (call.DFlag c gp at))) v) e → Fine e
          by true g = old e g
          by false g = passed_since gp passed (found_by s (call.DFlag c gp at)) refl e g
      told_since (call.Mark c p was) keeps may e h = by (found_by s (call.Mark c p was) == was) h
        where
          n : ℕ
          n = found_by s (call.Mark c p was)

          found : (e : Told) → Has (places_by p (unpacked n).state (unpacked n).card v.told) e → Fine e
          found =
              let card = known_delete plan s r id v there c (inl may.0.knows) in
              let is = told_is plan s r id v there c field.P p may.0.place in
              places_since from.stages p (unpacked n).state (unpacked n).card v.told
              (found_fine p (subst IsInternal is card.parent.inner) (subst (Born r.stages) is card.parent.born)
              (flagged_parent c p may.0.knows may.0.place) n refl) old

          by : (b : Bool) → IsTold (after_mark b c p (unpacked n) v) e → Fine e
          by true g = old e g
          by false g = on (is_mark_of c (unpacked n).state (unpacked n).card) g
            where
              on : (b : Bool) → IsTold (if b then with_fact (fact.Marked c) v else unmarking c p (unpacked n) v) e → Fine e
              on true g = old e g
              on false g = found e g
      told_since _ keeps may e h = old e h

      -- a card that is known flagged or marked is not of the opening tree
      known_unstarted : (c : ℕ) → KnowsCard v c → is_start (stage c) ≡ false
      known_unstarted c knows = sym (from.later.start c) ∙ elim knows [
        | inl k ↦ insert_won-unstarted (from.stages c) (allowed (fact.IFlagged c) k)
        | inr r ↦ elim r [
          | inl k ↦ delete_won-unstarted (from.stages c) (allowed (fact.DFlagged c) k)
          | inr k ↦ delete_won-unstarted (from.stages c) (marked-won (from.stages c) (allowed (fact.Marked c) k))
        ]
      ]

      -- what a call touches
      touches : (c : Call) → May plan c v → Touches (touched_by c)
      touches (call.Upd x) may = (old (Met x) (met.node x may.stands)).1
      touches (call.Down x right) may = (old (Met x) (met.node x may.stands)).1
      touches (call.KeyOf x) may = (old (Met x) may).1
      touches (call.ValueOf x) may = (old (Met x) may.0).1
      touches (call.Info c f) may = (asked_un c f may, known_unstarted c (known_by v c f may.knows))
      touches (call.FrozenChild c p right) may = (marked_parent c p may.knows may.place).1
      touches (call.LookDown at to right) may = (old (Met at.node) may.met).1
      touches (call.Fill c f value) may =
          let me = mine_is plan s r id v there in
          let waiting = hand_waits M.words from.stages (M.worker id) c (from.invariant.workers.each id)
          (ap (λ (u : Worker). u.card) me ∙ may.holds) (ap (λ (u : Worker). u.flagged) me ∙ may.unflagged) in (
            unended_before stage from.stages from.later c (waits-unended (from.stages c) waiting),
            sym (from.later.start c) ∙ waits-unstarted (from.stages c) waiting,
          )
      touches (call.IFlag c p at) may =
          let passed = subst (IsPassed v) may.node (met.parent may.parent may.behind) in (old (Met p) passed.met).1
      touches (call.DFlag c gp at) may =
          let passed = subst (IsPassed v) may.node (met.grandparent may.grandparent may.above) in (old (Met gp) passed.met).1
      touches (call.IChild c p l replaces right) may =
          (at_parent c p may.parent (insert_goes c (allowed (fact.IFlagged c) may.knows) (card_un c field.P p may.parent))).1
      touches (call.IUnflag c p) may =
          (at_parent c p may.place (insert_goes c (changed-won (from.stages c) (allowed (fact.IChanged c) may.knows)) (card_un c field.P p may.place))).1
      touches (call.Mark c p was) may = (flagged_parent c p may.0.knows may.0.place).1
      touches (call.DChild c gp p y right) may =
          (at_above c gp may.grandparent
          (delete_goes c (marked-won (from.stages c) (allowed (fact.Marked c) may.knows)) (card_un c field.Gp gp may.grandparent)).0).1
      touches (call.DUnflag c gp) may =
          (at_above c gp may.place (delete_goes c (cut-won (from.stages c) (allowed (fact.Cut c) may.knows)) (card_un c field.Gp gp may.place)).0).1
      touches (call.Backtrack c gp) may =
          (at_above c gp may.place (delete_goes c (unmarkable-won (from.stages c) (allowed (fact.Unmarkable c) may.knows)) (card_un c field.Gp gp may.place)).0).1
      touches _ may = tt

    -- what a call tells that forgets
    told_anew : (c : Call) → forgets c ≡ true → (e : Told) → IsTold (after c (found_by s c) v) e → Fine e
    told_anew (call.Begin op) anew e h = forgotten_since M from kept e h
    told_anew call.Again anew e h = forgotten_since M from kept e h
    told_anew call.Leave anew e h = forgotten_since M from kept e h
    told_anew (call.Answer said took) anew e h = forgotten_since M from kept e h
    told_anew call.Rest anew e h = forgotten_since M from kept e h
    told_anew call.Look anew e h =
        met_since from.stages 1 (link_in (found_by s call.Look)).node forgotten
        (child_fine 0 false refl (root_born M.words r.stages r.invariant.words) (root_since M from kept)) (forgotten_since M from kept) e h
    told_anew _ anew e h = absurd (false≢true anew)

  -- a state in a run, and what the pass in a seat was told since
  pub record Still (seat : ℕ) (s : TableState) : Type 0 where
    pub reached : IsReached plan s
    pub machine : HasMachine plan s
    pub from : ComesFrom m stage (machine_of_table plan s machine)
    pub kept : Kept (machine_of_table plan s machine) from
    pub told : (v : View) → get_elem? s.views seat ≡ some v → (e : Told) → IsTold v e → Since from.stages e

  -- a turn leads on
  pub leads_on : (s : TableState) (r : HasMachine plan s) (t : Turn) (s' : TableState) (k : HasMachine plan s')
      → GoesBy s t (machine_of_table plan s r) (machine_of_table plan s' k) → (from : ComesFrom m stage (machine_of_table plan s r))
      → Kept (machine_of_table plan s r) from
      → (to : ComesFrom m stage (machine_of_table plan s' k)) × StagesLater from.stages to.stages × Kept (machine_of_table plan s' k) to
  leads_on s r (Makes seat c) s' k goes from kept = by (act_of c (found_by s c)) goes
    where
      by : (a : Option Act) → Becomes seat a (said_of c (found_by s c)) (machine_of_table plan s r) (machine_of_table plan s' k)
          → (to : ComesFrom m stage (machine_of_table plan s' k)) × StagesLater from.stages to.stages × Kept (machine_of_table plan s' k) to
      by None same = subst (λ (n : Machine). (to : ComesFrom m stage n) × StagesLater from.stages to.stages × Kept n to) (sym same)
          (from, stages_same from.stages, kept)
      by (Some a) steps = were.events (machine_of_table plan s r) from kept (record { worker = seat; act = a }) (said_of c (found_by s c))
          (machine_of_table plan s' k) steps
  leads_on s r (Splits seat left) s' k goes from kept = were.words (machine_of_table plan s r) from kept (machine_of_table plan s' k)
      (ap (λ (n : Machine). n.words) goes.gives) (splits_lawful (machine_of_table plan s r) from.stages seat (machine_of_table plan s' k) from.invariant goes)
  leads_on s r (Joins seat other) s' k goes from kept = were.words (machine_of_table plan s r) from kept (machine_of_table plan s' k)
      (ap (λ (n : Machine). n.words) goes.gives) (joins_lawful (machine_of_table plan s r) from.stages seat other (machine_of_table plan s' k) from.invariant goes)

  -- the view of a pass after its call
  own_view : (seat : ℕ) (s : TableState) (c : Call) (s' : TableState) (made : CallIsMade plan s seat c s') (u : View) → get_elem? s'.views seat ≡ some u
      → after c (found_by s c) made.view ≡ u
  own_view seat s c s' made u there =
      let w = after c (found_by s c) made.view in
      some-injective w u (sym (set_there s.views seat w made.view made.there) ∙ (ap (λ (x : TableState). get_elem? x.views seat) (sym made.gives) ∙ there))

  -- what the pass in the seat is told by a turn
  turn_told : (seat : ℕ) (s : TableState) (at : Still seat s) (t : Turn) (s' : TableState) → TableTurns plan s t s'
      → (u : View) → get_elem? s'.views seat ≡ some u → (e : Told) → IsTold u e → Since at.from.stages e
  turn_told seat s at (Makes other c) s' turn u there = elim (cases_eq other seat) [
    | inl same ↦
        let made = subst (λ i. CallIsMade plan s i c s') same turn in
        subst (λ (w : View). (e : Told) → IsTold w e → Since at.from.stages e) (own_view seat s c s' made u there)
        (by made.view made.there made.may (forgets c) refl)
    | inr apart ↦
        at.told u (sym (set_else s.views other seat (after c (found_by s c) turn.view) (λ e. apart (sym e)))
        ∙ (ap (λ (x : TableState). get_elem? x.views seat) (sym turn.gives) ∙ there))
  ]
    where
      by : (v : View) → get_elem? s.views seat ≡ some v → May plan c v → (b : Bool) → forgets c ≡ b
          → (e : Told) → IsTold (after c (found_by s c) v) e → Since at.from.stages e
      by v here may true anew = told_anew s at.reached at.machine seat v here at.from at.kept c anew
      by v here may false keeps = told_since s at.reached at.machine seat v here at.from at.kept (at.told v here) c keeps may
  turn_told seat s at (Splits other chosen) s' turn u there =
      elim (of_split s.views other turn.view turn.there (left_view chosen turn.view) (right_view chosen turn.view) seat u
      (ap (λ (x : TableState). get_elem? x.views seat) (sym turn.gives) ∙ there)) [
        | inl l ↦ subst (λ (w : View). (e : Told) → IsTold w e → Since at.from.stages e) l (forgotten_since (machine_of_table plan s at.machine) at.from at.kept)
        | inr o ↦ elim o [
          | inl q ↦ subst (λ (w : View). (e : Told) → IsTold w e → Since at.from.stages e) q (forgotten_since (machine_of_table plan s at.machine) at.from at.kept)
          | inr was ↦ at.told u was
        ]
      ]
  turn_told seat s at (Joins one other) s' turn u there =
      elim (of_join s.views one other turn.view turn.view' turn.there turn.there' (λ e. turn.apart (sym e)) (joined_view turn.view turn.view') seat u
      (ap (λ (x : TableState). get_elem? x.views seat) (sym turn.gives) ∙ there)) [
        | inl l ↦ subst (λ (w : View). (e : Told) → IsTold w e → Since at.from.stages e) l (forgotten_since (machine_of_table plan s at.machine) at.from at.kept)
        | inr o ↦ elim o [
          | inl q ↦ subst (λ (w : View). (e : Told) → IsTold w e → Since at.from.stages e) q (forgotten_since (machine_of_table plan s at.machine) at.from at.kept)
          | inr was ↦ at.told u was
        ]
      ]

  turn_still : (seat : ℕ) (s : TableState) (at : Still seat s) (t : Turn) (s' : TableState) → TableTurns plan s t s' → Still seat s'
  turn_still seat s at t s' turn =
      let lawful = turn_lawful plan s at.machine t s' turn in
      let to = leads_on s at.machine t s' lawful.0 lawful.1.machine at.from at.kept in record {
        reached = reached_on plan s at.reached t s' turn;
        machine = lawful.0;
        from = to.0;
        kept = to.2;
        told = λ u there e told. since_on at.from.stages to.0.stages to.1 e (turn_told seat s at t s' turn u there e told);
      }

  run_still : (seat : ℕ) (s : TableState) → Still seat s → (turns : List Turn) (now : TableState) → TableRun plan s turns now → Still seat now
  run_still seat s at [] now run = subst (Still seat) (sym run) at
  run_still seat s at (t ∷ ts) now run = run_still seat run.0 (turn_still seat s at t run.0 run.1) ts now run.2

  -- where a pass forgets, it has been told since only what is so
  pub still_from : (s : TableState) → IsReached plan s → (seat : ℕ) (c : Call) (begun : TableState) → CallIsMade plan s seat c begun → forgets c ≡ true
      → (r : HasMachine plan s) (from : ComesFrom m stage (machine_of_table plan s r)) → Kept (machine_of_table plan s r) from
      → (turns : List Turn) (now : TableState) → TableRun plan begun turns now → Still seat now
  still_from s reached seat c begun made anew r from kept turns now run =
      let lawful = turn_lawful plan s r (Makes seat c) begun made in
      let to = leads_on s r (Makes seat c) begun lawful.0 lawful.1.machine from kept in
      run_still seat begun (record {
        reached = reached_on plan s reached (Makes seat c) begun made;
        machine = lawful.0;
        from = to.0;
        kept = to.2;
        told = λ u here e told. since_on from.stages to.0.stages to.1 e
            (told_anew s reached r seat made.view made.there from kept c anew e
            (subst (λ (w : View). IsTold w e) (sym (own_view seat s c begun made u here)) told));
      }) turns now run

  -- and whatever it touches from there on was there
  pub touches_on : (s : TableState) → IsReached plan s → (seat : ℕ) (c : Call) (begun : TableState) → CallIsMade plan s seat c begun → forgets c ≡ true
      → (r : HasMachine plan s) (from : ComesFrom m stage (machine_of_table plan s r)) → Kept (machine_of_table plan s r) from
      → (turns : List Turn) (now : TableState) → TableRun plan begun turns now
      → (v : View) → get_elem? now.views seat ≡ some v → (next : Call) → May plan next v → Touches (touched_by next)
  touches_on s reached seat c begun made anew r from kept turns now run v there next may =
      let at = still_from s reached seat c begun made anew r from kept turns now run in
      touches now at.reached at.machine seat v there at.from at.kept (at.told v there) next may

  -- turns lead on from where the cards have come so far
  pub run_comes : (s : TableState) (r : HasMachine plan s) (from : ComesFrom m stage (machine_of_table plan s r)) → Kept (machine_of_table plan s r) from
      → (turns : List Turn) (s' : TableState) → TableRun plan s turns s'
      → (k : HasMachine plan s') × (to : ComesFrom m stage (machine_of_table plan s' k)) × Kept (machine_of_table plan s' k) to
  run_comes s r from kept [] s' run =
      subst (λ (x : TableState). (k : HasMachine plan x) × (to : ComesFrom m stage (machine_of_table plan x k)) × Kept (machine_of_table plan x k) to) (sym run)
      (r, from, kept)
  run_comes s r from kept (t ∷ ts) s' run =
      let lawful = turn_lawful plan s r t run.0 run.1 in
      let to = leads_on s r t run.0 lawful.0 lawful.1.machine from kept in
      run_comes run.0 lawful.0 to.0 to.2 ts s' run.2

-- words that stay as they were lead on, and what holds of them holds
pub handed_over : (Holds : Words → Stages → Type 0) (m : Machine) (stage : Stages) (old : Machine) (from : ComesFrom m stage old) → Holds old.words from.stages
    → (new : Machine) → new.words ≡ old.words → Invariant new from.stages
    → (to : ComesFrom m stage new) × StagesLater from.stages to.stages × Holds new.words to.stages
handed_over Holds m stage old from holds new same invariant = (
  record {
    stages = from.stages;
    invariant = invariant;
    outs = subst (λ w. OutsAreSound w from.stages) (sym same) from.outs;
    words = subst (λ w. WordsLater m.words w) (sym same) from.words;
    later = from.later;
    cards = subst (λ w. CardsSince m.words stage w from.stages) (sym same) from.cards;
  },
  stages_same from.stages,
  subst (λ w. Holds w from.stages) (sym same) holds,
)

-- so it is of what was not gone, and nothing more is kept
abbrev nothing : (m : Machine) (stage : Stages) (now : Machine) → ComesFrom m stage now → Type 0
nothing m stage now from = Unit {0}

not_gone : (m : Machine) (stage : Stages) → Invariant m stage → NodesWere m stage (nothing m stage) (λ x. ¬ IsGone m.words stage x)
not_gone m stage first = record {
  stays = λ x stays. stays;
  inner = λ now from kept x inner born stays. stays;
  child = λ now from kept x inner born stays right. children_were_not_gone m stage first now from x inner born stays right;
  events = λ old from kept e said new steps. (let to = events_lead_on m stage first old from e said new steps in (to.0, to.1, tt));
  words = λ old from kept new same invariant. handed_over (λ w after. Unit {0}) m stage old from tt new same invariant;
}

-- where a pass forgets, whatever it touches from there on was there
pub calls_touch_nothing_gone : CallsTouchNothingGone
calls_touch_nothing_gone plan s reached seat c begun made anew r has turns now run v there next may =
    let m = machine_of_table plan s r in
    by (touched_by next) (touches_on plan m has.stages has.invariant (nothing m has.stages) (λ x. ¬ IsGone m.words has.stages x)
    (not_gone m has.stages has.invariant) s reached seat c begun made anew r (states_come_from_themselves m has) tt turns now run v there next may)
  where
    by : (t : Touched)
        → Touches plan (machine_of_table plan s r) has.stages has.invariant (nothing (machine_of_table plan s r) has.stages)
        (λ x. ¬ IsGone r.words has.stages x) (not_gone (machine_of_table plan s r) has.stages has.invariant) t
        → WasThere r.words has.stages t
    by (AtNode x) h = h
    by (OfCard c) h = h.0
    by AtRoot h = tt

-- a card that has won nothing has taken nothing out
pub none_out : (w : Words) (stage : Stages) → ((c : ℕ) → wins_of (stage c) ≡ []) → (c x : ℕ) → TakesOut w stage c x → ⊥
none_out w stage none c x takes = elim takes [
  | inl h ↦ (let more = changed_much (stage c) h.0 in let zero = ap (sum_by one) (none c) in omega arith)
  | inr h ↦ (let more = cut_much (stage c) h.0 in let zero = ap (sum_by one) (none c) in omega arith)
]

pub none_cut : (s : Stage) → wins_of s ≡ [] → is_cut s ≡ true → ⊥
none_cut s none cut = let more = cut_much s cut in let zero = ap (sum_by one) none in omega arith

-- where no card has won anything, nothing was taken out
pub nothing_out : (w : Words) (stage : Stages) → ((c : ℕ) → wins_of (stage c) ≡ []) → OutsAreSound w stage
nothing_out w stage none =
    let out = none_out w stage none in
    record {
      out = λ c x takes. absurd (out c x takes);
      once = λ c d x takes other. absurd (out c x takes);
      sibling = λ c cut still. absurd (none_cut (stage c) (none c) cut);
    }

-- so wherever turns have led a table, its machine has its outs
pub tables_have_outs : TablesHaveOuts
tables_have_outs plan s h =
    let start = starts_are_kept plan h.first h.starts in
    let r = start.kept in
    let m = machine_of_table plan h.first r in
    let has : HasOuts m = record { stages = r.stages; invariant = r.invariant; outs = nothing_out r.words r.stages start.unwon } in
    let ran = run_comes plan m r.stages r.invariant (nothing m r.stages) (λ x. ¬ IsGone m.words r.stages x) (not_gone m r.stages r.invariant)
    h.first r (states_come_from_themselves m has) tt h.turns s h.run in
    (ran.0, record { stages = ran.1.stages; invariant = ran.1.invariant; outs = ran.1.outs })

-- a card that is over has ended, and has made its child exchange
iover-ended : (s : Stage) → insert_over s ≡ true → (has_ended s ≡ true) × (is_changed s ≡ true)
iover-ended s h = (grind arith, grind arith)

dover-ended : (s : Stage) → delete_over s ≡ true → (has_ended s ≡ true) × (is_cut s ≡ true)
dover-ended s h = (grind arith, grind arith)

-- so what a pass knows to be taken out by a card, the card has taken out, and has ended
pub known_takes_out : (plan : TablePlan) (s : TableState) (seat : ℕ) (v : View) → get_elem? s.views seat ≡ some v → (c x : ℕ) → KnowsTakenOut v c x
    → (r : HasMachine plan s) (has : HasOuts (machine_of_table plan s r)) → (has_ended (has.stages c) ≡ true) × TakesOut r.words has.stages c x
known_takes_out plan s seat v there c x knows r has = elim knows [
  | inl put ↦
      let over = iover-ended (has.stages c) (allowed (fact.IOver c) put.0) in
      let leaf = told_is plan s r seat v there c field.L x put.2 in
      let left = told_is plan s r seat v there c field.LeftLeafKey put.1.key put.1.left in
      let right = told_is plan s r seat v there c field.RightLeafKey put.1.key put.1.right in
      let one = eq-eqb (r.words.key (left_leaf c)) (r.words.key (right_leaf c)) (left ∙ sym right) in
      (over.0, inl (over.1, ap (λ (b : Bool). not b && (nat_lt 0 r.words.flat_from || r.words.l c % 4 == 0)) one, leaf))
  | inr cut ↦
      let over = dover-ended (has.stages c) (allowed (fact.DOver c) cut.0) in (
        over.0,
        inr (
          over.1,
          elim cut.1 [
            | inl p ↦ inl (told_is plan s r seat v there c field.P x p)
            | inr l ↦ inr (told_is plan s r seat v there c field.L x l)
          ],
        ),
      )
]
  where
    allowed : (f : Fact) → Knows v f → allows f (has.stages (card_of_fact f)) ≡ true
    allowed f k = (has.invariant.workers.each seat).facts f (ap (λ (u : Worker). u.knows f) (mine_is plan s r seat v there) ∙ k)

-- and it is gone
pub known_taken_out_is_gone : KnownTakenOutIsGone
known_taken_out_is_gone plan s seat v there c x knows r has =
    let it = known_takes_out plan s seat v there c x knows r has in
    record { taker = c; ended = it.0; takes = it.1 }
