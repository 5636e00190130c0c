use Rattle.std.proofs.Common.{◌≡◌, ◌≢◌, ◌⊎◌, ℕ, zero, suc, ◌+◌, ◌*◌, ◌<◌, ◌≤◌, ◌==◌, ◌&&◌, if◌then◌else◌, Bool, true, false, Option, Some, None, List, [], ◌∷◌, ◌++◌, get_or, inl, inr, refl, sym, ap, ◌∙◌, subst, eq-eqb, eqb-true, arith}
use Rattle.std.proofs.lemmas.Bool.{cases_eq, cases_lt, false≢true, ne_eqb}
use mathlib.Core.Option.{some, some-injective}
use lib.ListN.{get_elem?}
use Rattle.ell_ops.specs.declared.op.Op.{Op}
use Rattle.ell_ops.specs.declared.op.Op.TheVariants.{Find, Insert, Delete, Swap}
use Rattle.ell_core.specs.declared.exchange.Exchange.{Exchange}
use Rattle.ell_core.specs.declared.exchange.Exchange.TheVariants as exchange
use Rattle.ell_word.specs.declared.update.State.{State}
use Rattle.ell_word.specs.declared.update.State.TheVariants as state
use Rattle.ell_word.specs.declared.update.Update.{Update}
use Rattle.ell_word.specs.Word.{packed, unpacked}
use Rattle.ell_core.specs.declared.fact.Fact.{Fact}
use Rattle.ell_core.specs.declared.fact.Fact.TheVariants as fact
use Rattle.ell_core.specs.declared.view.Seen.{Seen}
use Rattle.ell_core.specs.history.Invariant.{WorkerIsSound}
use Rattle.ell_layout.proofs.lemmas.Listed.{listed_next}
use Rattle.ell_core.proofs.lemmas.outcomes.Decide.{some_not_none}
use Rattle.ell_core.proofs.lemmas.keeping.claim.Taking.{hand_discarded}
use Rattle.ell_core.specs.acts.Searching.{MayStop}
use Rattle.ell_core.specs.state.Machine.{worker_of}
use Rattle.ell_runs.specs.declared.call.Call.{Call}
use Rattle.ell_runs.specs.declared.call.Call.TheVariants as call
use Rattle.ell_runs.specs.declared.call.NewNode.{NewNode}
use Rattle.ell_runs.specs.declared.view.Hindrance.{Hindrance}
use Rattle.ell_runs.specs.declared.view.Hindrance.TheVariants.{Claim, Found}
use Rattle.ell_runs.specs.declared.view.View.{View}
use Rattle.ell_runs.specs.Changes.{if_won, exchanged, after_claim, after_flag, after_mark, is_mark_of, is_this, with_fact, unmarking, unless_clean, read_in_way, first_in_way, in_the_way, way_now, update_over, is_over, was_hindered, tries_hindered}
use Rattle.ell_runs.proofs.lemmas.runs.InHand.{met_in_try}
use Rattle.std.specs.List.{list_all}
use Rattle.ell_runs.specs.Calls.{after, May}
use Rattle.ell_runs.specs.Plans.{TablePlan, flat_from}
use Rattle.ell_runs.specs.Views.{EndedBy}
use Rattle.ell_runs.specs.Contention.{how_many, given_to_others, cards_in_hand, TriesAreHinderedByOthers, AreHinderedByOthers}
use Rattle.ell_runs.specs.Meanwhile.{KeepsOn, KeepOn, BeginsHere, SearchRun, EndsMeanwhile, WordEndsMeanwhile, AreMeanwhile, AreOfOthers, ended_before, ended_since}
use Rattle.ell_runs.specs.States.{TableState, seat_worker}
use Rattle.ell_runs.specs.Starts.{Starts, IsReached}
use Rattle.ell_runs.specs.Turns.{Turn, Makes, Splits, Joins, TableTurns, TableRun, found_by, view_after}
use Rattle.ell_runs.specs.TurnEffects.{run_wins}
use Rattle.ell_runs.proofs.lemmas.views.Facts.{test_ended}
use Rattle.ell_runs.proofs.lemmas.runs.Reaching.{reached_kept, reached_on}
use Rattle.ell_runs.proofs.lemmas.runs.TurnsOfRuns.{one_more_turn, run_append}
use Rattle.ell_runs.proofs.lemmas.runs.Readings.{claim_word_rises}
use Rattle.ell_runs.proofs.lemmas.runs.OwnSeat.{Only, SeatGoesOn, turn_seat}
use Rattle.ell_runs.proofs.lemmas.runs.Hindered.{held_is}
use Rattle.ell_runs.proofs.lemmas.runs.Won.{times, won_by, turn_won, after_won, times_append, other_kind, number, run_total}
use Rattle.ell_runs.proofs.lemmas.runs.Counts.{wins_are_counted, none_at_start, claims_none, claims_one}
use Rattle.ell_runs.proofs.lemmas.runs.Hands.{hands_are_claimed, claims_same}
use Rattle.ell_runs.proofs.lemmas.runs.Abandoned.{ends, ends_in, ends_rise, no_end, some_end, IsAbandoned, hand_unended, own_abandoned, turn_abandoned, run_abandoned, ended_below}
use Rattle.ell_runs.proofs.lemmas.runs.HowMany.{one, many_shared, held_by, held_there, hands_hold}
use Rattle.ell_runs.proofs.lemmas.runs.Contended.{given, ended, is_given, was_ended, done_since, Grows, grows_same, grows_on, done_more, one_given, one_ended}
use Rattle.ell_runs.proofs.lemmas.runs.Meanwhile.{searches_read_meanwhile, searches_meet_meanwhile}

keep_more : (seat : ℕ) (turns : List Turn) (t : Turn) → KeepOn seat turns → Only KeepsOn seat t → KeepOn seat (turns ++ t ∷ [])
keep_more seat [] (Makes other c) h on = (on, tt)
keep_more seat [] (Splits other left) h on = (on, tt)
keep_more seat [] (Joins one other) h on = (on.0, on.1, tt)
keep_more seat (Makes other c ∷ ts) t h on = (h.0, keep_more seat ts t h.1 on)
keep_more seat (Splits other left ∷ ts) t h on = (h.0, keep_more seat ts t h.1 on)
keep_more seat (Joins one other ∷ ts) t h on = (h.0, h.1, keep_more seat ts t h.2 on)

keeps_first : (seat : ℕ) (t : Turn) (ts : List Turn) → KeepOn seat (t ∷ ts) → Only KeepsOn seat t × KeepOn seat ts
keeps_first seat (Makes other c) ts h = h
keeps_first seat (Splits other left) ts h = h
keeps_first seat (Joins one other) ts h = ((h.0, h.1), h.2)

-- a call claims no card below the claim word
claims_above : (s : TableState) (c : Call) (d : ℕ) → d < get_or s.words 0 0 → times exchange.Claim d (won_by c (found_by s c)) ≡ 0
claims_above s (call.Claim e q) d low = claims_one (get_or s.words 0 0 == e) e d ∙ by (get_or s.words 0 0 == e) refl
  where
    none : d ≢ e → one (d == e) ≡ 0
    none other = ap one (ne_eqb d e other)

    by : (b : Bool) → (get_or s.words 0 0 == e) ≡ b → (if b then one (d == e) else 0) ≡ 0
    by false is = refl
    by true is = elim (cases_eq d e) [
      | inl same ↦ (let at = eqb-true (get_or s.words 0 0) e is in absurd (omega arith))
      | inr other ↦ none other
    ]
claims_above s c d low = claims_none c (found_by s c) d (λ d q e. (cc))

-- so after a call it has those that it had
own_same : (s : TableState) (v : View) (c : Call) (d : ℕ) → d < get_or s.words 0 0 → times exchange.Claim d (view_after s v c).won ≡ times exchange.Claim d v.won
own_same s v c d low =
    let won = ap (times exchange.Claim d) (after_won c (found_by s c) v) in
    let parts = times_append exchange.Claim d (won_by c (found_by s c)) v.won in
    let none = claims_above s c d low in
    omega arith

-- each of a list is so
abbrev Each : (Hindrance → Type 0) → List Hindrance → Type 0
Each So [] = Unit {0}
Each So (h ∷ hs) = So h × Each So hs

each_append : (So : Hindrance → Type 0) (a b : List Hindrance) → Each So a → Each So b → Each So (a ++ b)
each_append So [] b h g = g
each_append So (x ∷ a) b h g = (h.0, each_append So a b h.1 g)

and_both : (a b : Bool) → (a && b) ≡ true → a ≡ true
and_both true b e = refl
and_both false b e = absurd (false≢true e)

-- a call by which a pass goes on with its try
abbrev GoesOn : Call → Type 0
GoesOn (call.Begin op) = ⊥
GoesOn call.Again = ⊥
GoesOn call.Leave = ⊥
GoesOn (call.Answer said took) = ⊥
GoesOn call.Rest = ⊥
GoesOn _ = Unit {0}

-- a win of another kind is no claim
no_claim : (b : Bool) (k : Exchange) (c : ℕ) (won : List (Exchange × ℕ)) (d : ℕ) → (number k == 0) ≡ false
    → times exchange.Claim d (if_won b k c ++ won) ≡ times exchange.Claim d won
no_claim b k c won d other =
    let parts = times_append exchange.Claim d (if_won b k c) won in
    let none = other_kind b k exchange.Claim c d other in
    omega arith

-- of each claim that was lost, the pass has not won it
abbrev AllUnclaimed : List (Exchange × ℕ) → List Hindrance → Type 0
AllUnclaimed won [] = Unit {0}
AllUnclaimed won (Claim c ∷ hs) = (times exchange.Claim c won ≡ 0) × AllUnclaimed won hs
AllUnclaimed won (Found u ∷ hs) = AllUnclaimed won hs

module _ (plan : TablePlan) where
  turn_grows : (s : TableState) → IsReached plan s → (seat : ℕ) (v : View) → get_elem? s.views seat ≡ some v → (t : Turn) (s' : TableState) (turn : TableTurns plan s t s')
      → (goes : SeatGoesOn KeepsOn plan s seat v t s') → Grows s v s' goes.view
  turn_grows s reached seat v there t s' turn goes = record {
    next = claim_word_rises plan s (reached_kept plan s reached) t s' turn;
    ended = λ c. let rise = ends_rise c plan s t s' turn in omega arith;
    own = λ c low. elim goes.made [
      | inl same ↦ ap (λ (u : View). times exchange.Claim c u.won) same
      | inr made ↦ ap (λ (u : View). times exchange.Claim c u.won) made.3 ∙ own_same s v made.0 c low
    ];
  }

  -- a search of the pass in a seat that goes on, in a run from a start, since a state: what it has of cards, and how often it was hindered
  record Searches (s0 : TableState) (v0 : View) (seat : ℕ) (s : TableState) (v : View) : Type 0 where
    opened : TableState
    starts : Starts plan opened
    before : List Turn
    begun : TableState
    led : TableRun plan opened before begun
    begins : BeginsHere begun seat
    meanwhile : List Turn
    run : TableRun plan begun meanwhile s
    keeps : KeepOn seat meanwhile
    first : Grows s0 v0 begun begins.view
    since : Grows begun begins.view s v
    discarded : (op : Op) → v.worker.operation ≡ Some op → (c : ℕ) → 0 < times exchange.Claim c v.won → v.worker.card ≢ Some c → (0 < ends c begun) ⊎ IsAbandoned s c
    lost : AllUnclaimed v.won v.met
    counted : v.hindered ≤ v0.hindered + done_since s0 begun begins.view.won

  -- the pass has given its operation up, or answered it, or ended a look
  record Stopped (s0 : TableState) (v0 : View) (s : TableState) (v : View) : Type 0 where
    reached : IsReached plan s
    free : v.worker.operation ≡ None
    grows : Grows s0 v0 s v
    counted : v.hindered ≤ v0.hindered + done_since s0 s v.won

  -- what was in the way is of others: a card that was given out since to another pass; or one that had not ended and, if it is over, has since, and
  -- which is not flagged in hand
  abbrev IsOfOthers : TableState → TableState → View → Hindrance → Type 0
  IsOfOthers b s v (Claim c) = (get_or b.words 0 0 ≤ c) × (c < get_or s.words 0 0) × (times exchange.Claim c v.won ≡ 0)
  IsOfOthers b s v (Found u) =
      (ends u.card b ≡ 0) × (update_over v.worker.knows u.state u.card ≡ true → 0 < ends u.card s)
      × ((c : ℕ) → v.worker.card ≡ Some c → v.worker.flagged ≡ true → u.card ≢ c)

  over_cases : (facts : List Fact) (st : State) (c : ℕ) → update_over facts st c ≡ true → (st ≡ state.Clean) ⊎ EndedBy facts c
  over_cases facts state.Clean c h = inl refl
  over_cases facts state.IFlag c h = inr (test_ended facts c h)
  over_cases facts state.DFlag c h = inr (test_ended facts c h)
  over_cases facts state.Mark c h = inr (test_ended facts c h)

  module _ (s0 : TableState) (v0 : View) (seat : ℕ) (s : TableState) (v : View) (h : Searches s0 v0 seat s v) (there : get_elem? s.views seat ≡ some v) where
    abbrev ran : SearchRun plan
    ran = record {
      opened = h.opened;
      starts = h.starts;
      before = h.before;
      begun = h.begun;
      led = h.led;
      seat = seat;
      begins = h.begins;
      meanwhile = h.meanwhile;
      now = s;
      run = h.run;
      keeps = h.keeps;
      view = v;
      there = there;
    }

    comes : IsReached plan s
    comes = record {
      first = h.opened;
      starts = h.starts;
      turns = h.before ++ h.meanwhile;
      run = run_append plan h.opened h.before h.begun h.meanwhile s h.led h.run;
    }

    -- the wins of a run, counted
    unended : (c : ℕ) → ended_before plan ran c ≡ false → ends c h.begun ≡ 0
    unended c none =
        let wins = run_wins plan h.opened h.before h.begun h.led c in
        let a = run_total exchange.IUnflag (omega arith) c plan h.opened h.before h.begun h.led in
        let b = run_total exchange.DUnflag (omega arith) c plan h.opened h.before h.begun h.led in
        let d = run_total exchange.Backtrack (omega arith) c plan h.opened h.before h.begun h.led in
        let x = none_at_start plan h.opened h.starts exchange.IUnflag c in
        let y = none_at_start plan h.opened h.starts exchange.DUnflag c in
        let z = none_at_start plan h.opened h.starts exchange.Backtrack c in
        let all = no_end wins none in
        omega arith

    ended_then : (c : ℕ) → ended_since plan ran c ≡ true → 0 < ends c s
    ended_then c has =
        let wins = run_wins plan h.begun h.meanwhile s h.run c in
        let a = run_total exchange.IUnflag (omega arith) c plan h.begun h.meanwhile s h.run in
        let b = run_total exchange.DUnflag (omega arith) c plan h.begun h.meanwhile s h.run in
        let d = run_total exchange.Backtrack (omega arith) c plan h.begun h.meanwhile s h.run in
        let all = some_end wins has in
        omega arith

    found_others : (u : Update) → EndsMeanwhile plan ran u.card → (u.state ≡ state.Clean → ended_since plan ran u.card ≡ true) → ((c : ℕ) → v.worker.card ≡ Some c → v.worker.flagged ≡ true → u.card ≢ c)
        → IsOfOthers h.begun s v (Found u)
    found_others u is calm apart = (
      unended u.card is.before,
      λ over. ended_then u.card (elim (over_cases v.worker.knows u.state u.card over) [
        | inl clean ↦ calm clean
        | inr known ↦ is.since known
      ]),
      apart,
    )

    met_others : (hs : List Hindrance) → AreMeanwhile plan ran hs → AllUnclaimed v.won hs → ((c : ℕ) → v.worker.card ≡ Some c → AreOfOthers v.next_at_least c hs)
        → Each (IsOfOthers h.begun s v) hs
    met_others [] are free apart = tt
    met_others (Claim c ∷ hs) are free apart =
        let low = are.0.0 in
        let high = are.0.1 in
        let first = listed_next h.begun.words in
        let now = listed_next s.words in
        ((omega arith, omega arith, free.0), met_others hs are.1 free.1 (λ c has. (apart c has).1))
    met_others (Found u ∷ hs) are free apart =
        (found_others u are.0.0 are.0.1 (λ c has flagged. (apart c has).0), met_others hs are.1 free (λ c has. (apart c has).1))

    first_are : (a b : List Hindrance) → AreMeanwhile plan ran (a ++ b) → AreMeanwhile plan ran a
    first_are [] b h = tt
    first_are (x ∷ a) b h = (h.0, first_are a b h.1)

    first_own : (c : ℕ) (a b : List Hindrance) → AreOfOthers v.next_at_least c (a ++ b) → AreOfOthers v.next_at_least c a
    first_own c [] b h = tt
    first_own c (Claim d ∷ a) b h = (h.0, first_own c a b h.1)
    first_own c (Found u ∷ a) b h = (h.0, first_own c a b h.1)

    own_apart : (c : ℕ) → v.worker.card ≡ Some c → AreOfOthers v.next_at_least c v.met
    own_apart c has =
        let m = searches_meet_meanwhile plan ran in
        first_own c v.met m.earlier (subst (AreOfOthers v.next_at_least c) m.tries (m.own c has))

    met_are : AreMeanwhile plan ran v.met
    met_are =
        let m = searches_meet_meanwhile plan ran in
        first_are v.met m.earlier (subst (AreMeanwhile plan ran) m.tries m.each)

    -- while an operation is in hand, a pass with its card flagged stands nowhere
    stands_unflagged : MayStop (worker_of v.worker) → (x : ℕ) → v.worker.search.node ≡ Some x → (c : ℕ) → v.worker.card ≡ Some c → v.worker.flagged ≡ true → ⊥
    stands_unflagged may x at c has flagged =
        let k = wins_are_counted plan s comes in
        let sound = subst (WorkerIsSound k.machine.words k.stages) (ap seat_worker there) (k.invariant.workers.each seat) in
        some_not_none at (sound.flagged may.op c may.busy has flagged).1

    unless_others : MayStop (worker_of v.worker) → (x : ℕ) → v.worker.search.node ≡ Some x → (st : State) (c : ℕ) → (st ≢ state.Clean → EndsMeanwhile plan ran c)
        → Each (IsOfOthers h.begun s v) (unless_clean st c)
    unless_others may x at state.Clean c is = tt
    unless_others may x at state.IFlag c is =
        (found_others (record { state = state.IFlag; card = c }) (is (λ e. cc)) (λ e. absurd (cc)) (λ d has flagged e. stands_unflagged may x at d has flagged), tt)
    unless_others may x at state.DFlag c is =
        (found_others (record { state = state.DFlag; card = c }) (is (λ e. cc)) (λ e. absurd (cc)) (λ d has flagged e. stands_unflagged may x at d has flagged), tt)
    unless_others may x at state.Mark c is =
        (found_others (record { state = state.Mark; card = c }) (is (λ e. cc)) (λ e. absurd (cc)) (λ d has flagged e. stands_unflagged may x at d has flagged), tt)

    read_others : MayStop (worker_of v.worker) → (x : ℕ) → v.worker.search.node ≡ Some x → (o : Option Seen) → ((seen : Seen) → o ≡ Some seen → WordEndsMeanwhile plan ran seen.word)
        → Each (IsOfOthers h.begun s v) (read_in_way o)
    read_others may x at None is = tt
    read_others may x at (Some seen) is = unless_others may x at (unpacked seen.word).state (unpacked seen.word).card (is seen refl)

    first_others : (a b : List Hindrance) → Each (IsOfOthers h.begun s v) a → Each (IsOfOthers h.begun s v) b → Each (IsOfOthers h.begun s v) (first_in_way a b)
    first_others [] b f g = g
    first_others (x ∷ a) b f g = f

    way_others : MayStop (worker_of v.worker) → (op : Option Op) (place : Option ℕ) (parent above : Option Seen) → v.worker.search.node ≡ place
        → ((seen : Seen) → parent ≡ Some seen → WordEndsMeanwhile plan ran seen.word)
        → ((seen : Seen) → above ≡ Some seen → WordEndsMeanwhile plan ran seen.word)
        → Each (IsOfOthers h.begun s v) (in_the_way op place parent above)
    way_others may None place parent above at p g = tt
    way_others may (Some (Find k)) place parent above at p g = tt
    way_others may (Some (Insert k value)) None parent above at p g = tt
    way_others may (Some (Insert k value)) (Some x) parent above at p g = read_others may x at parent p
    way_others may (Some (Swap k was value)) None parent above at p g = tt
    way_others may (Some (Swap k was value)) (Some x) parent above at p g = read_others may x at parent p
    way_others may (Some (Delete k)) None parent above at p g = tt
    way_others may (Some (Delete k)) (Some x) parent above at p g =
        first_others (read_in_way above) (read_in_way parent) (read_others may x at above g) (read_others may x at parent p)

    -- all that a try met, once it is given up
    try_others : MayStop (worker_of v.worker) → Each (IsOfOthers h.begun s v) (met_in_try v)
    try_others may =
        let reads = searches_read_meanwhile plan ran in
        each_append (IsOfOthers h.begun s v) (way_now v) v.met
        (way_others may v.worker.operation v.worker.search.node v.worker.search.parent v.worker.search.grandparent refl reads.parent reads.grandparent)
        (met_others v.met met_are h.lost own_apart)

    -- a card that has ended since is not the pass's own
    ended_other : MayStop (worker_of v.worker) → (c : ℕ) → ends c h.begun ≡ 0 → 0 < ends c s → ((d : ℕ) → v.worker.card ≡ Some d → v.worker.flagged ≡ true → c ≢ d)
        → times exchange.Claim c v.won ≡ 0
    ended_other may c before since apart = by (times exchange.Claim c v.won) refl
      where
        held : v.worker.card ≡ Some c → (b : Bool) → v.worker.flagged ≡ b → ⊥
        held has true e = apart c has e refl
        held has false e = let none = hand_unended plan s comes seat v there c has e in absurd (omega arith)

        mine : 0 < times exchange.Claim c v.won → (b : Bool) → is_this v.worker.card c ≡ b → ⊥
        mine own true e = held (held_is v.worker.card c e) v.worker.flagged refl
        mine own false e = elim (h.discarded may.op may.busy c own (λ has. false≢true (sym e ∙ (ap (λ o. is_this o c) has ∙ eq-eqb c c refl)))) [
          | inl was ↦ (omega arith)
          | inr left ↦ (let none = left.unended in omega arith)
        ]

        by : (n : ℕ) → times exchange.Claim c v.won ≡ n → n ≡ 0
        by zero e = refl
        by (suc n) e = absurd (mine (omega arith) (is_this v.worker.card c) refl)

    -- a try that is given up: if it was hindered, others have done something since its search began
    more_hindered : MayStop (worker_of v.worker) → (s' : TableState) (w : View) → Grows s v s' w → tries_hindered v ≤ v0.hindered + done_since s0 s' w.won
    more_hindered may s' w g = by (was_hindered v.worker.knows (met_in_try v)) refl
      where
        on : Grows h.begun h.begins.view s' w
        on = grows_on h.begun h.begins.view s v s' w h.since g

        hinders : (x : Hindrance) → IsOfOthers h.begun s v x → is_over v.worker.knows x ≡ true → done_since s0 h.begun h.begins.view.won + 1 ≤ done_since s0 s' w.won
        hinders (Claim c) is over =
            let more = g.next in
            let high = is.1 in
            one_given s0 h.begun h.begins.view s' w on c h.first.next is.0 (omega arith) (g.own c is.1 ∙ is.2)
        hinders (Found u) is over =
            let c = u.card in
            let now = is.1 over in
            let low = ended_below plan s comes c now in
            let more = g.ended c in
            let next = g.next in
            let other = ended_other may c is.0 now is.2 in
            one_ended s0 h.begun h.begins.view s' w on c (h.first.ended c) is.0 (omega arith) (omega arith) (g.own c low ∙ other)

        first_over : (facts : List Fact) (hs : List Hindrance) → was_hindered facts hs ≡ true → Each (IsOfOthers h.begun s v) hs
            → (x : Hindrance) × IsOfOthers h.begun s v x × (is_over facts x ≡ true)
        first_over facts [] e each = absurd (false≢true e)
        first_over facts (x ∷ hs) e each = (x, each.0, (and_both (is_over facts x) (list_all (is_over facts) hs) e))

        by : (b : Bool) → was_hindered v.worker.knows (met_in_try v) ≡ b → v.hindered + (if b then 1 else 0) ≤ v0.hindered + done_since s0 s' w.won
        by false e =
            let was = h.counted in
            let more = done_more s0 h.begun h.begins.view s' w on in
            omega arith
        by true e =
            let was = h.counted in
            let x = first_over v.worker.knows (met_in_try v) e (try_others may) in
            let more = hinders x.0 x.1 x.2 in
            omega arith

  -- what a call of the pass that goes on leaves of its search
  record Rests (s : TableState) (v : View) (s' : TableState) (w : View) : Type 0 where
    hindered : w.hindered ≡ v.hindered
    operation : (op : Op) → w.worker.operation ≡ Some op → v.worker.operation ≡ Some op
    discarded : (c : ℕ) → 0 < times exchange.Claim c w.won → w.worker.card ≢ Some c → ((0 < times exchange.Claim c v.won) × (v.worker.card ≢ Some c)) ⊎ IsAbandoned s' c
    lost : AllUnclaimed w.won w.met

  module _ (s0 : TableState) (v0 : View) (seat : ℕ) (s : TableState) (v : View) (h : Searches s0 v0 seat s v) (there : get_elem? s.views seat ≡ some v)
      (t : Turn) (s' : TableState) (turn : TableTurns plan s t s') (on : Only KeepsOn seat t) where
    here : IsReached plan s
    here = comes s0 v0 seat s v h there

    next_here : IsReached plan s'
    next_here = reached_on plan s here t s' turn

    rests : (w : View) → get_elem? s'.views seat ≡ some w → Grows s v s' w → Rests s v s' w → Searches s0 v0 seat s' w
    rests w at g r = record {
      opened = h.opened;
      starts = h.starts;
      before = h.before;
      begun = h.begun;
      led = h.led;
      begins = h.begins;
      meanwhile = h.meanwhile ++ t ∷ [];
      run = one_more_turn plan h.begun h.meanwhile s t s' h.run turn;
      keeps = keep_more seat h.meanwhile t h.keeps on;
      first = h.first;
      since = grows_on h.begun h.begins.view s v s' w h.since g;
      discarded = λ op busy c own no. elim (r.discarded c own no) [
        | inl was ↦ elim (h.discarded op (r.operation op busy) c was.0 was.1) [
          | inl ended ↦ inl ended
          | inr left ↦ inr (turn_abandoned plan s here c left t s' turn)
        ]
        | inr left ↦ inr left
      ];
      lost = r.lost;
      counted = subst (λ n. n ≤ v0.hindered + done_since s0 h.begun h.begins.view.won) (sym r.hindered) h.counted;
    }

    -- the claims that were lost are not the pass's after the turn
    lost_on : (won : List (Exchange × ℕ)) → ((c : ℕ) → c < get_or s.words 0 0 → times exchange.Claim c won ≡ times exchange.Claim c v.won) → AllUnclaimed won v.met
    lost_on won same = by v.met (met_are s0 v0 seat s v h there) h.lost
      where
        by : (hs : List Hindrance) → AreMeanwhile plan (ran s0 v0 seat s v h there) hs → AllUnclaimed v.won hs → AllUnclaimed won hs
        by [] are free = tt
        by (Claim c ∷ hs) are free =
            let high = are.0.1 in
            let now = listed_next s.words in
            (same c (omega arith) ∙ free.0, by hs are.1 free.1)
        by (Found u ∷ hs) are free = by hs are.1 free

    -- where the card in hand and the claims are as they were
    alike : (w : View) → Grows s v s' w → w.hindered ≡ v.hindered → w.worker.operation ≡ v.worker.operation → w.worker.card ≡ v.worker.card
        → ((c : ℕ) → times exchange.Claim c w.won ≡ times exchange.Claim c v.won) → AllUnclaimed w.won w.met → Rests s v s' w
    alike w g hindered operation card claims lost = record {
      hindered = hindered;
      operation = λ op e. sym operation ∙ e;
      discarded = λ c own no. inl (subst (λ n. 0 < n) (claims c) own, λ has. no (card ∙ has));
      lost = lost;
    }

    module _ (c : Call) (made : t ≡ Makes seat c) (at : get_elem? s'.views seat ≡ some (view_after s v c)) where
      -- a claim
      claim_rests : (d : ℕ) (q : NewNode) (b : Bool) → (found_by s (call.Claim d q) == d) ≡ b → ((y : ℕ) → ends_in y (turn_won s t) ≡ 0) → May plan (call.Claim d q) v
          → get_elem? s'.views seat ≡ some (after_claim b d q v) → Grows s v s' (after_claim b d q v) → Rests s v s' (after_claim b d q v)
      claim_rests d q true e ends_none may there_now g = record {
        hindered = refl;
        operation = λ op busy. busy;
        discarded = λ x own no.
            let other : x ≢ d = (λ same. no (ap Some (sym same))) in
            let before = subst (λ (b : Bool). 0 < (if b then 1 else 0) + times exchange.Claim x v.won → 0 < times exchange.Claim x v.won) (sym (ne_eqb x d other)) (λ m. omega arith) own in
            held x own no before (is_this v.worker.card x) refl;
        lost = lost_on (after_claim true d q v).won g.own;
      }
        where
          -- a card that is in hand is discarded
          held : (x : ℕ) → 0 < times exchange.Claim x (after_claim true d q v).won → (after_claim true d q v).worker.card ≢ Some x → 0 < times exchange.Claim x v.won
              → (b : Bool) → is_this v.worker.card x ≡ b → ((0 < times exchange.Claim x v.won) × (v.worker.card ≢ Some x)) ⊎ IsAbandoned s' x
          held x own else_where before true is =
              let has = held_is v.worker.card x is in
              let was = hand_unended plan s here seat v there x has (hand_discarded (flat_from plan) v.worker x may.0.ready has).1 in
              let rise = ends_rise x plan s t s' turn in
              let none = ends_none x in
              inr (own_abandoned plan s' next_here seat (after_claim true d q v) there_now x own else_where (omega arith))
          held x own else_where before false is = inl (before, λ has. false≢true (sym is ∙ (ap (λ o. is_this o x) has ∙ eq-eqb x x refl)))
      claim_rests d q false e ends_none may there_now g = alike (after_claim false d q v) g refl refl refl (λ x. refl)
          ((hands_are_claimed plan s here seat v there).read d may.0.below may.0.read may.0.other may.0.stands, lost_on v.won (λ x low. refl))

      -- a flag
      flag_rests : (k : Exchange) (d x : ℕ) (new : Fact) (n : ℕ) (b : Bool) (w : View) → w ≡ exchanged (if_won b k d) n (after_flag b new x (unpacked n) v)
          → get_elem? s'.views seat ≡ some w → Grows s v s' w → (number k == 0) ≡ false → ((y : ℕ) → ends_in y (turn_won s t) ≡ 0) → v.worker.flagged ≡ false → Rests s v s' w
      flag_rests k d x new n b w is there_now g other ends_none unflagged = by b is
        where
          discarded : (y : ℕ) → v.worker.card ≡ Some y → 0 < times exchange.Claim y w.won → w.worker.card ≢ Some y → IsAbandoned s' y
          discarded y has own else_where =
              let was = hand_unended plan s here seat v there y has unflagged in
              let rise = ends_rise y plan s t s' turn in
              let none = ends_none y in
              own_abandoned plan s' next_here seat w there_now y own else_where (omega arith)

          by : (b : Bool) → w ≡ exchanged (if_won b k d) n (after_flag b new x (unpacked n) v) → Rests s v s' w
          by true is = alike w g (ap (λ u. u.hindered) is) (ap (λ u. u.worker.operation) is) (ap (λ u. u.worker.card) is)
              (λ y. ap (λ u. times exchange.Claim y u.won) is ∙ no_claim true k d v.won y other)
              (subst (AllUnclaimed w.won) (sym (ap (λ (u : View). u.met) is)) (lost_on w.won g.own))
          by false is = record {
            hindered = ap (λ u. u.hindered) is;
            operation = λ op busy. sym (ap (λ u. u.worker.operation) is) ∙ busy;
            discarded = λ y own else_where. held y own else_where (is_this v.worker.card y) refl;
            lost = subst (AllUnclaimed w.won) (sym (ap (λ (u : View). u.met) is)) (lost_on w.won g.own);
          }
            where
              held : (y : ℕ) → 0 < times exchange.Claim y w.won → w.worker.card ≢ Some y → (b : Bool) → is_this v.worker.card y ≡ b
                  → ((0 < times exchange.Claim y v.won) × (v.worker.card ≢ Some y)) ⊎ IsAbandoned s' y
              held y own else_where true e = inr (discarded y (held_is v.worker.card y e) own else_where)
              held y own else_where false e = inl (
                subst (λ n. 0 < n) (ap (λ (u : View). times exchange.Claim y u.won) is) own,
                λ has. false≢true (sym e ∙ (ap (λ o. is_this o y) has ∙ eq-eqb y y refl)),
              )

      -- a mark
      mark_rests : (d x was n : ℕ) (b : Bool) → Grows s v s' (exchanged (if_won b exchange.Mark d) n (after_mark b d x (unpacked n) v))
          → Rests s v s' (exchanged (if_won b exchange.Mark d) n (after_mark b d x (unpacked n) v))
      mark_rests d x was n true g = alike _ g refl refl refl (λ y. no_claim true exchange.Mark d v.won y refl) (lost_on ((exchange.Mark, d) ∷ v.won) g.own)
      mark_rests d x was n false g = by (is_mark_of d (unpacked n).state (unpacked n).card) g
        where
          held : (b : Bool) → Grows s v s' (exchanged [] n (record (unmarking d x (unpacked n) v)
              { hindrances = if b then Found (unpacked n) ∷ v.hindrances else v.hindrances; met = if b then Found (unpacked n) ∷ v.met else v.met }))
              → Rests s v s' (exchanged [] n (record (unmarking d x (unpacked n) v)
              { hindrances = if b then Found (unpacked n) ∷ v.hindrances else v.hindrances; met = if b then Found (unpacked n) ∷ v.met else v.met }))
          held true g = alike _ g refl refl refl (λ y. refl) (lost_on v.won (λ y low. refl))
          held false g = alike _ g refl refl refl (λ y. refl) (lost_on v.won (λ y low. refl))

          by : (b : Bool) → Grows s v s' (exchanged [] n (if b then with_fact (fact.Marked d) v else unmarking d x (unpacked n) v))
              → Rests s v s' (exchanged [] n (if b then with_fact (fact.Marked d) v else unmarking d x (unpacked n) v))
          by true g = alike _ g refl refl refl (λ y. refl) (lost_on v.won (λ y low. refl))
          by false g = held (is_this v.worker.card d) g

      no_end_of : (k : Exchange) (d : ℕ) (b : Bool) → (number k == 3) ≡ false → (number k == 7) ≡ false → (number k == 8) ≡ false → turn_won s t ≡ if_won b k d
          → (y : ℕ) → ends_in y (turn_won s t) ≡ 0
      no_end_of k d b i u x is y =
          let same = ap (ends_in y) is in
          let one = other_kind b k exchange.IUnflag d y i in
          let two = other_kind b k exchange.DUnflag d y u in
          let three = other_kind b k exchange.Backtrack d y x in
          omega arith

    -- each of its calls by which it goes on with its try
    call_rests : (c : Call) → GoesOn c → t ≡ Makes seat c → May plan c v → get_elem? s'.views seat ≡ some (view_after s v c) → Grows s v s' (view_after s v c)
        → Rests s v s' (view_after s v c)
    call_rests (call.Begin op) goes made may at g = absurd goes
    call_rests call.Again goes made may at g = absurd goes
    call_rests call.Leave goes made may at g = absurd goes
    call_rests (call.Answer said took) goes made may at g = absurd goes
    call_rests call.Rest goes made may at g = absurd goes
    call_rests (call.Claim c q) goes made may at g =
        let i = call.Claim c q in
        let b = found_by s i == c in
        claim_rests i made at c q b refl (no_end_of i made at exchange.Claim c b refl refl refl (ap (turn_won s) made)) may at g
    call_rests (call.IFlag c p from) goes made may at g =
        let i = call.IFlag c p from in
        let n = found_by s i in
        flag_rests i made at exchange.IFlag c p (fact.IFlagged c) n (n == packed from) (view_after s v i) refl at g refl
        (no_end_of i made at exchange.IFlag c (n == packed from) refl refl refl (ap (turn_won s) made)) may.may.unflagged
    call_rests (call.DFlag c gp from) goes made may at g =
        let i = call.DFlag c gp from in
        let n = found_by s i in
        flag_rests i made at exchange.DFlag c gp (fact.DFlagged c) n (n == packed from) (view_after s v i) refl at g refl
        (no_end_of i made at exchange.DFlag c (n == packed from) refl refl refl (ap (turn_won s) made)) may.may.unflagged
    call_rests (call.Mark c p was) goes made may at g =
        mark_rests (call.Mark c p was) made at c p was (found_by s (call.Mark c p was)) (found_by s (call.Mark c p was) == was) g
    call_rests c goes made may at g =
        let same = claims_same c (found_by s c) v (λ d q e. (cc)) in
        alike (view_after s v c) g refl refl refl same (lost_on (view_after s v c).won (λ e low. same e))

    -- an operation that was given up, or answered, or a look that was ended
    stops : (w : View) → Grows s v s' w → w.worker.operation ≡ None → w.hindered ≤ v0.hindered + done_since s0 s' w.won → Stopped s0 v0 s' w
    stops w g free counted = record {
      reached = next_here;
      free = free;
      grows = grows_on s0 v0 h.begun h.begins.view s' w h.first (grows_on h.begun h.begins.view s v s' w h.since g);
      counted = counted;
    }

    -- a search that begins anew
    begins_anew : (w : View) → get_elem? s'.views seat ≡ some w → Grows s v s' w → w ≡ view_after s v call.Again → MayStop (worker_of v.worker) → Searches s0 v0 seat s' w
    begins_anew w at g is may = record {
      opened = h.opened;
      starts = h.starts;
      before = h.before ++ (h.meanwhile ++ t ∷ []);
      begun = s';
      led = run_append plan h.opened h.before h.begun (h.meanwhile ++ t ∷ []) s' h.led (one_more_turn plan h.begun h.meanwhile s t s' h.run turn);
      begins = record {
        view = w;
        there = at;
        root = ap (λ (u : View). u.worker.search) is;
        no_card = ap (λ (u : View). u.worker.card) is;
        unread = ap (λ (u : View). u.next) is;
        unmet = ap (λ (u : View). u.met) is;
      };
      meanwhile = [];
      run = refl;
      keeps = tt;
      first = grows_on s0 v0 h.begun h.begins.view s' w h.first (grows_on h.begun h.begins.view s v s' w h.since g);
      since = grows_same s' w;
      discarded = λ op busy c own none. by c own none (ends c s') refl;
      lost = subst (AllUnclaimed w.won) (sym (ap (λ (u : View). u.met) is)) tt;
      counted = subst (λ n. n ≤ v0.hindered + done_since s0 s' w.won) (sym (ap (λ (u : View). u.hindered) is))
          (more_hindered s0 v0 seat s v h there may s' w g);
    }
      where
        by : (c : ℕ) → 0 < times exchange.Claim c w.won → w.worker.card ≢ Some c → (n : ℕ) → ends c s' ≡ n → (0 < ends c s') ⊎ IsAbandoned s' c
        by c own none zero e = inr (own_abandoned plan s' next_here seat w at c own none e)
        by c own none (suc n) e = inl (omega arith)

    -- what a turn makes of a search
    turn_searches : Searches s0 v0 seat s' (turn_seat KeepsOn plan s seat v there t s' turn on).view
        ⊎ Stopped s0 v0 s' (turn_seat KeepsOn plan s seat v there t s' turn on).view
    turn_searches = elim goes.made [
      | inl same ↦ inl (rests w goes.there g (alike w g (ap (λ u. u.hindered) same) (ap (λ u. u.worker.operation) same) (ap (λ u. u.worker.card) same)
          (λ c. ap (λ u. times exchange.Claim c u.won) same) (subst (AllUnclaimed w.won) (sym (ap (λ (u : View). u.met) same)) (lost_on w.won g.own))))
      | inr made ↦ subst (λ u. Searches s0 v0 seat s' u ⊎ Stopped s0 v0 s' u) (sym made.3)
          (by made.0 made.1 made.2 made.4 (ap (get_elem? s'.views) refl ∙ (goes.there ∙ ap some made.3)) (subst (Grows s v s') made.3 g))
    ]
      where
        goes : SeatGoesOn KeepsOn plan s seat v t s'
        goes = turn_seat KeepsOn plan s seat v there t s' turn on

        w : View
        w = goes.view

        g : Grows s v s' w
        g = turn_grows s here seat v there t s' turn goes

        by : (c : Call) → KeepsOn c → May plan c v → t ≡ Makes seat c → get_elem? s'.views seat ≡ some (view_after s v c) → Grows s v s' (view_after s v c)
            → Searches s0 v0 seat s' (view_after s v c) ⊎ Stopped s0 v0 s' (view_after s v c)
        by (call.Begin op) keeps may made at g = absurd keeps
        by call.Again keeps may made at g = inl (begins_anew (view_after s v call.Again) at g refl may)
        by call.Leave keeps may made at g = inr (stops (view_after s v call.Leave) g refl (more_hindered s0 v0 seat s v h there may s' (view_after s v call.Leave) g))
        by (call.Answer said took) keeps may made at g =
            let w = view_after s v (call.Answer said took) in
            let more = done_more s0 h.begun h.begins.view s' w (grows_on h.begun h.begins.view s v s' w h.since g) in
            let was = h.counted in
            inr (stops w g refl (omega arith))
        by call.Rest keeps may made at g =
            let w = view_after s v call.Rest in
            let more = done_more s0 h.begun h.begins.view s' w (grows_on h.begun h.begins.view s v s' w h.since g) in
            let was = h.counted in
            inr (stops w g refl (omega arith))
        by c keeps may made at g = inl (rests (view_after s v c) at g (call_rests c tt made may at g))

  -- where the pass in a seat is in a run
  record Comes (s0 : TableState) (v0 : View) (seat : ℕ) (s : TableState) : Type 0 where
    view : View
    there : get_elem? s.views seat ≡ some view
    how : Searches s0 v0 seat s view ⊎ Stopped s0 v0 s view

  -- a pass with nothing in hand has nothing in hand after a call, and has given no try up
  call_stays : (c : Call) (n : ℕ) (v : View) → KeepsOn c → May plan c v → v.worker.operation ≡ None
      → ((after c n v).worker.operation ≡ None) × ((after c n v).hindered ≡ v.hindered)
  call_stays (call.Begin op) n v keeps may free = absurd keeps
  call_stays call.Again n v keeps may free = absurd (some_not_none may.busy free)
  call_stays call.Leave n v keeps may free = absurd (some_not_none may.busy free)
  call_stays (call.Answer said took) n v keeps may free = absurd (some_not_none may.busy free)
  call_stays call.Rest n v keeps may free = (refl, refl)
  call_stays (call.Claim c q) n v keeps may free = absurd (some_not_none may.0.busy free)
  call_stays (call.IFlag c p from) n v keeps may free = absurd (some_not_none may.busy free)
  call_stays (call.DFlag c gp from) n v keeps may free = absurd (some_not_none may.busy free)
  call_stays (call.Mark c p was) n v keeps may free = by (n == was)
    where
      lost : (b : Bool) → ((if b then with_fact (fact.Marked c) v else unmarking c p (unpacked n) v).worker.operation ≡ None)
          × ((if b then with_fact (fact.Marked c) v else unmarking c p (unpacked n) v).hindered ≡ v.hindered)
      lost true = (free, refl)
      lost false = (free, refl)

      by : (b : Bool) → ((after_mark b c p (unpacked n) v).worker.operation ≡ None) × ((after_mark b c p (unpacked n) v).hindered ≡ v.hindered)
      by true = (free, refl)
      by false = lost (is_mark_of c (unpacked n).state (unpacked n).card)
  call_stays c n v keeps may free = (free, refl)

  turn_stopped : (s0 : TableState) (v0 : View) (seat : ℕ) (s : TableState) (v : View) → Stopped s0 v0 s v → get_elem? s.views seat ≡ some v
      → (t : Turn) (s' : TableState) → TableTurns plan s t s' → Only KeepsOn seat t → Comes s0 v0 seat s'
  turn_stopped s0 v0 seat s v h there t s' turn on =
      let goes = turn_seat KeepsOn plan s seat v there t s' turn on in
      let g = turn_grows s h.reached seat v there t s' turn goes in
      let stays : (goes.view.worker.operation ≡ None) × (goes.view.hindered ≡ v.hindered) = elim goes.made [
        | inl same ↦ (ap (λ (u : View). u.worker.operation) same ∙ h.free, ap (λ (u : View). u.hindered) same)
        | inr made ↦ (let st = call_stays made.0 (found_by s made.0) v made.1 made.2 h.free in
            (ap (λ (u : View). u.worker.operation) made.3 ∙ st.0, ap (λ (u : View). u.hindered) made.3 ∙ st.1))
      ] in
      let more = done_more s0 s v s' goes.view g in
      let was = h.counted in
      let same = stays.1 in record {
        view = goes.view;
        there = goes.there;
        how = inr (record {
          reached = reached_on plan s h.reached t s' turn;
          free = stays.0;
          grows = grows_on s0 v0 s v s' goes.view h.grows g;
          counted = omega arith;
        });
      }

  turn_comes : (s0 : TableState) (v0 : View) (seat : ℕ) (s : TableState) → Comes s0 v0 seat s → (t : Turn) (s' : TableState) → TableTurns plan s t s' → Only KeepsOn seat t
      → Comes s0 v0 seat s'
  turn_comes s0 v0 seat s at t s' turn on = elim at.how [
    | inl h ↦
        let goes = turn_seat KeepsOn plan s seat at.view at.there t s' turn on in
        record { view = goes.view; there = goes.there; how = turn_searches s0 v0 seat s at.view h at.there t s' turn on }
    | inr h ↦ turn_stopped s0 v0 seat s at.view h at.there t s' turn on
  ]

  run_comes : (s0 : TableState) (v0 : View) (seat : ℕ) (s : TableState) → Comes s0 v0 seat s → (turns : List Turn) (s' : TableState) → TableRun plan s turns s' → KeepOn seat turns
      → Comes s0 v0 seat s'
  run_comes s0 v0 seat s at [] s' run on = subst (Comes s0 v0 seat) (sym run) at
  run_comes s0 v0 seat s at (t ∷ ts) s' run on =
      let keeps = keeps_first seat t ts on in
      run_comes s0 v0 seat run.0 (turn_comes s0 v0 seat s at t run.0 run.1 keeps.0) ts s' run.2 keeps.1

  -- how it comes out
  record Came (s0 : TableState) (v0 : View) (s : TableState) (v : View) : Type 0 where
    grows : Grows s0 v0 s v
    counted : v.hindered ≤ v0.hindered + done_since s0 s v.won

  came : (s0 : TableState) (v0 : View) (seat : ℕ) (s : TableState) (v : View) → Searches s0 v0 seat s v ⊎ Stopped s0 v0 s v → Came s0 v0 s v
  came s0 v0 seat s v (inl h) =
      let more = done_more s0 h.begun h.begins.view s v h.since in
      let was = h.counted in
      record { grows = grows_on s0 v0 h.begun h.begins.view s v h.first h.since; counted = omega arith }
  came s0 v0 seat s v (inr h) = record { grows = h.grows; counted = h.counted }

  module _ (q : SearchRun plan) where
    begun_reached : IsReached plan q.begun
    begun_reached = record { first = q.opened; starts = q.starts; turns = q.before; run = q.led }

    starts_there : Comes q.begun q.begins.view q.seat q.begun
    starts_there = record {
      view = q.begins.view;
      there = q.begins.there;
      how = inl (record {
        opened = q.opened;
        starts = q.starts;
        before = q.before;
        begun = q.begun;
        led = q.led;
        begins = q.begins;
        meanwhile = [];
        run = refl;
        keeps = tt;
        first = grows_same q.begun q.begins.view;
        since = grows_same q.begun q.begins.view;
        discarded = λ op busy c own none. by c own none (ends c q.begun) refl;
        lost = subst (AllUnclaimed q.begins.view.won) (sym q.begins.unmet) tt;
        counted = omega arith;
      });
    }
      where
        by : (c : ℕ) → 0 < times exchange.Claim c q.begins.view.won → q.begins.view.worker.card ≢ Some c → (n : ℕ) → ends c q.begun ≡ n
            → (0 < ends c q.begun) ⊎ IsAbandoned q.begun c
        by c own none zero e = inr (own_abandoned plan q.begun begun_reached q.seat q.begins.view q.begins.there c own none e)
        by c own none (suc n) e = inl (omega arith)

    -- a card that ended meanwhile was given out meanwhile, or in some hand at the beginning
    ended_shared : (c : ℕ) → one (ended q.begun q.now q.view.won c) ≤ one (given (get_or q.begun.words 0 0) q.view.won c) + held_by c q.begun.views
    ended_shared c = by (ended q.begun q.now q.view.won c) refl
      where
        in_hand : ends c q.begun ≡ 0 → 0 < ends c q.now → c < get_or q.begun.words 0 0 → (n : ℕ) → held_by c q.begun.views ≡ n → 1 ≤ n
        in_hand none some_now low zero e =
            let left : IsAbandoned q.begun c = record {
              claimed = low;
              free = λ j v at has. let here = held_there q.begun.views j c v at has in (omega arith);
              unended = none;
            } in
            let still = run_abandoned plan q.begun begun_reached c left q.meanwhile q.now q.run in
            let is = still.unended in
            absurd (omega arith)
        in_hand none some_now low (suc n) e = omega arith

        by : (b : Bool) → ended q.begun q.now q.view.won c ≡ b → one b ≤ one (given (get_or q.begun.words 0 0) q.view.won c) + held_by c q.begun.views
        by false e = omega arith
        by true e =
            let was = was_ended q.begun q.now q.view.won c e in
            elim (cases_lt c (get_or q.begun.words 0 0)) [
              | inl low ↦ (let held = in_hand was.before was.since low (held_by c q.begun.views) refl in omega arith)
              | inr high ↦ (let more = ap one (is_given (get_or q.begun.words 0 0) c q.view.won high was.other) in omega arith)
            ]

    few : q.view.hindered ≤ q.begins.view.hindered + (2 * given_to_others plan q + cards_in_hand q.begun.views)
    few =
        let at = run_comes q.begun q.begins.view q.seat q.begun starts_there q.meanwhile q.now q.run q.keeps in
        let same : at.view ≡ q.view = some-injective at.view q.view (sym at.there ∙ q.there) in
        let is = subst (Came q.begun q.begins.view q.now) same (came q.begun q.begins.view q.seat q.now at.view at.how) in
        let counted = is.counted in
        let shared = many_shared (get_or q.now.words 0 0) (ended q.begun q.now q.view.won) (given (get_or q.begun.words 0 0) q.view.won) (λ c. held_by c q.begun.views)
        (λ c low. ended_shared c) in
        let hands = hands_hold (get_or q.now.words 0 0) q.begun.views in
        let others : given_to_others plan q ≡ how_many (get_or q.now.words 0 0) (given (get_or q.begun.words 0 0) q.view.won) =
        (λ i. how_many (listed_next q.now.words i) (given (listed_next q.begun.words i) q.view.won)) in
        omega arith

pub tries_are_hindered_by_others : TriesAreHinderedByOthers
tries_are_hindered_by_others plan q = few plan q

-- and so it is of so many tries as a view has given up more
pub more_tries : (plan : TablePlan) (before : ℕ) (v : View) (tries : ℕ) → v.hindered ≡ before + tries
    → AreHinderedByOthers plan before v tries
more_tries plan before v tries more = record {
  few = λ r same was.
      let few = tries_are_hindered_by_others plan r in
      let is = ap (λ (u : View). u.hindered) same in
      omega arith;
}
