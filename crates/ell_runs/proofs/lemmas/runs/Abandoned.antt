use Rattle.std.proofs.Common.{◌≡◌, ◌≢◌, ◌⊎◌, ℕ, zero, suc, ◌+◌, ◌<◌, ◌≤◌, ◌==◌, ◌||◌, if◌then◌else◌, Bool, true, false, Some, List, [], ◌∷◌, get_or, set, length, inl, inr, refl, sym, ap, ◌∙◌, subst, ⊎_elim, arith}
use Rattle.std.proofs.lemmas.Bool.{cases_eq, cases_lt, false≢true}
use mathlib.Core.Option.{Option as Item, some, none, some-injective}
use lib.ListN.{get_elem?}
use Rattle.ell_runs.proofs.lemmas.words.Lists.{at_set}
use Rattle.ell_core.specs.declared.exchange.Exchange.{Exchange}
use Rattle.ell_core.specs.declared.exchange.Exchange.TheVariants as exchange
use Rattle.ell_word.specs.Link.{linked}
use Rattle.ell_word.specs.Word.{packed}
use Rattle.ell_core.specs.state.Machine.{worker_of}
use Rattle.ell_layout.specs.Cards.{iflag, dflag}
use Rattle.ell_core.specs.history.Stages.{Stage, is_claimed, insert_open, delete_open, waits}
use Rattle.ell_core.specs.history.Later.{wins_of}
use Rattle.ell_core.specs.history.Invariant.{WorkerIsSound}
use Rattle.ell_core.proofs.lemmas.following.waiting.Cards.{hand_waits}
use Rattle.ell_core.proofs.lemmas.outcomes.Decide.{some_not_none}
use Rattle.ell_runs.specs.declared.call.Call.{Call}
use Rattle.ell_runs.specs.declared.call.Call.TheVariants as call
use Rattle.ell_runs.specs.declared.view.View.{View}
use Rattle.ell_runs.specs.Changes.{if_won, left_view, right_view, joined_view}
use Rattle.ell_runs.specs.Calls.{after}
use Rattle.ell_runs.specs.Meanwhile.{is_end, has_end}
use Rattle.ell_runs.specs.States.{TableState, seat_worker}
use Rattle.ell_runs.specs.Turns.{Turn, Makes, Splits, Joins, TableTurns, TableRun, found_by}
use Rattle.ell_runs.specs.Starts.{IsReached}
use Rattle.ell_runs.proofs.lemmas.lifetimes.Splits.{each_split}
use Rattle.ell_runs.proofs.lemmas.lifetimes.Joins.{each_joined}
use Rattle.ell_runs.proofs.lemmas.runs.Reaching.{reached_kept, reached_on}
use Rattle.ell_runs.proofs.lemmas.runs.Readings.{claim_word_rises}
use Rattle.ell_runs.proofs.lemmas.runs.Won.{number, one, count, times, total, won_by, turn_won, turn_total}
use Rattle.ell_runs.proofs.lemmas.runs.Counts.{wins_are_counted, claims_are_counted}
use Rattle.ell_runs.proofs.lemmas.runs.Hands.{hands_are_claimed, one_in, two_in, call_held}
use Rattle.ell_runs.specs.Plans.{TablePlan}

-- how often the flag of a card was taken away, and how often it was set
abbrev pub ends : ℕ → TableState → ℕ
ends c s = total exchange.IUnflag c s + (total exchange.DUnflag c s + total exchange.Backtrack c s)

abbrev pub flags : ℕ → TableState → ℕ
flags c s = total exchange.IFlag c s + total exchange.DFlag c s

-- the same among wins
abbrev pub ends_among : List Exchange → ℕ
ends_among ks = count exchange.IUnflag ks + (count exchange.DUnflag ks + count exchange.Backtrack ks)

abbrev flags_among : List Exchange → ℕ
flags_among ks = count exchange.IFlag ks + count exchange.DFlag ks

-- what has ended was flagged before
ended_flagged : (st : Stage) → 0 < ends_among (wins_of st) → 0 < flags_among (wins_of st)
ended_flagged st h = grind arith

-- and claimed
ended_claimed : (st : Stage) → 0 < ends_among (wins_of st) → is_claimed st ≡ true
ended_claimed st h = grind arith

-- what was flagged and has not ended is open
flagged_open : (st : Stage) → 0 < flags_among (wins_of st) → ends_among (wins_of st) ≡ 0 → (insert_open st ≡ true) ⊎ (delete_open st ≡ true)
flagged_open st h g = grind arith

-- what waits for its flag has not ended
waits_unended : (st : Stage) → waits st ≡ true → ends_among (wins_of st) ≡ 0
waits_unended st h = grind arith

-- an end is counted
end_counts : (k : Exchange) → is_end k ≡ true → 0 < ends_among (k ∷ [])
end_counts k h = grind arith

no_end_counts : (k : Exchange) → is_end k ≡ false → ends_among (k ∷ []) ≡ 0
no_end_counts k h = grind arith

among_cons : (k : Exchange) (ks : List Exchange) → ends_among (k ∷ ks) ≡ ends_among (k ∷ []) + ends_among ks
among_cons k ks = omega arith

pub no_end : (ks : List Exchange) → has_end ks ≡ false → ends_among ks ≡ 0
no_end [] h = refl
no_end (k ∷ ks) h = by (is_end k) refl h (no_end ks)
  where
    by : (b : Bool) → is_end k ≡ b → (b || has_end ks) ≡ false → (has_end ks ≡ false → ends_among ks ≡ 0) → ends_among (k ∷ ks) ≡ 0
    by true e h rest = absurd (false≢true (sym h))
    by false e h rest = let first = no_end_counts k e in let others = rest h in let both = among_cons k ks in omega arith

pub some_end : (ks : List Exchange) → has_end ks ≡ true → 0 < ends_among ks
some_end [] h = absurd (false≢true h)
some_end (k ∷ ks) h = by (is_end k) refl h (some_end ks)
  where
    by : (b : Bool) → is_end k ≡ b → (b || has_end ks) ≡ true → (has_end ks ≡ true → 0 < ends_among ks) → 0 < ends_among (k ∷ ks)
    by true e h rest = let first = end_counts k e in let both = among_cons k ks in omega arith
    by false e h rest = let others = rest h in let both = among_cons k ks in omega arith

-- a turn wins one thing at most
abbrev wins_in_all : ℕ → List (Exchange × ℕ) → ℕ
wins_in_all c won =
    times exchange.IFlag c won + (times exchange.DFlag c won + (times exchange.IUnflag c won + (times exchange.DUnflag c won + times exchange.Backtrack c won)))

one_kind : (k : Exchange) → one (number k == 1) + (one (number k == 4) + (one (number k == 3) + (one (number k == 7) + one (number k == 8)))) ≤ 1
one_kind k = grind arith

one_win : (b : Bool) (k : Exchange) (c d : ℕ) → wins_in_all d (if_won b k c) ≤ 1
one_win false k c d = omega arith
one_win true k c d = by (d == c)
  where
    by : (b : Bool) → (if b then one (number k == 1) else 0) + 0 + ((if b then one (number k == 4) else 0) + 0
        + ((if b then one (number k == 3) else 0) + 0 + ((if b then one (number k == 7) else 0) + 0 + ((if b then one (number k == 8) else 0) + 0)))) ≤ 1
    by true = let h = one_kind k in omega arith
    by false = omega arith

call_wins_one : (c : Call) (n d : ℕ) → wins_in_all d (won_by c n) ≤ 1
call_wins_one (call.Claim c q) n d = one_win (n == c) exchange.Claim c d
call_wins_one (call.IFlag c p from) n d = one_win (n == packed from) exchange.IFlag c d
call_wins_one (call.IChild c p l replaces right) n d = one_win (n == linked l) exchange.IChild c d
call_wins_one (call.IUnflag c p) n d = one_win (n == iflag c) exchange.IUnflag c d
call_wins_one (call.DFlag c gp from) n d = one_win (n == packed from) exchange.DFlag c d
call_wins_one (call.Mark c p was) n d = one_win (n == was) exchange.Mark c d
call_wins_one (call.DChild c gp p y right) n d = one_win (n == linked p) exchange.DChild c d
call_wins_one (call.DUnflag c gp) n d = one_win (n == dflag c) exchange.DUnflag c d
call_wins_one (call.Backtrack c gp) n d = one_win (n == dflag c) exchange.Backtrack c d
call_wins_one _ n d = omega arith

turn_wins_one : (s : TableState) (t : Turn) (d : ℕ) → wins_in_all d (turn_won s t) ≤ 1
turn_wins_one s (Makes id c) d = call_wins_one c (found_by s c) d
turn_wins_one s (Splits id chosen) d = omega arith
turn_wins_one s (Joins id other) d = omega arith

-- what a turn adds to the ends and to the flags
abbrev pub ends_in : ℕ → List (Exchange × ℕ) → ℕ
ends_in c won = times exchange.IUnflag c won + (times exchange.DUnflag c won + times exchange.Backtrack c won)

pub ends_rise : (c : ℕ) (plan : TablePlan) (s : TableState) (t : Turn) (s' : TableState) → TableTurns plan s t s' → ends c s' ≡ ends c s + ends_in c (turn_won s t)
ends_rise c plan s t s' turn =
    let a = turn_total exchange.IUnflag c plan s t s' turn in
    let b = turn_total exchange.DUnflag c plan s t s' turn in
    let d = turn_total exchange.Backtrack c plan s t s' turn in
    omega arith

-- some pass has a card in hand
pub record IsHeldThere (vs : List View) (c : ℕ) : Type 0 where
  pub seat : ℕ
  pub view : View
  pub there : get_elem? vs seat ≡ some view
  pub holds : view.worker.card ≡ Some c

-- a worker that has a card in hand is a pass
pub hand_there : (vs : List View) (i c : ℕ) → (seat_worker (get_elem? vs i)).card ≡ Some c → IsHeldThere vs c
hand_there vs i c has = by (get_elem? vs i) refl has
  where
    by : (o : Item View) → get_elem? vs i ≡ o → (seat_worker o).card ≡ Some c → IsHeldThere vs c
    by none e has = absurd (some_not_none has refl)
    by (some v) e has = record { seat = i; view = v; there = e; holds = has }

-- a card that was claimed, is in no hand, and has not come to its end
pub record IsAbandoned (s : TableState) (c : ℕ) : Type 0 where
  pub claimed : c < get_or s.words 0 0
  pub free : (j : ℕ) (v : View) → get_elem? s.views j ≡ some v → v.worker.card ≢ Some c
  pub unended : ends c s ≡ 0

module _ (plan : TablePlan) where
  module _ (s : TableState) (reached : IsReached plan s) where
    -- a card that was flagged and has not ended is in a hand
    open_in_hand : (c : ℕ) → ends c s ≡ 0 → 0 < flags c s → IsHeldThere s.views c
    open_in_hand c unended flagged =
        let k = wins_are_counted plan s reached in
        let a = k.counted exchange.IFlag (omega arith) c in
        let b = k.counted exchange.DFlag (omega arith) c in
        let x = k.counted exchange.IUnflag (omega arith) c in
        let y = k.counted exchange.DUnflag (omega arith) c in
        let z = k.counted exchange.Backtrack (omega arith) c in
        let opened = flagged_open (k.stages c) (omega arith) (omega arith) in
        elim opened [
          | inl o ↦ (let h = k.invariant.workers.insert_in_hand c o in hand_there s.views h.worker c h.holds)
          | inr o ↦ (let h = k.invariant.workers.delete_in_hand c o in hand_there s.views h.worker c h.holds)
        ]

    -- one that has ended was flagged
    ended_was_flagged : (c : ℕ) → 0 < ends c s → 0 < flags c s
    ended_was_flagged c ended =
        let k = wins_are_counted plan s reached in
        let a = k.counted exchange.IFlag (omega arith) c in
        let b = k.counted exchange.DFlag (omega arith) c in
        let x = k.counted exchange.IUnflag (omega arith) c in
        let y = k.counted exchange.DUnflag (omega arith) c in
        let z = k.counted exchange.Backtrack (omega arith) c in
        let was = ended_flagged (k.stages c) (omega arith) in
        omega arith

    -- a card in hand that is not flagged has not ended
    pub hand_unended : (seat : ℕ) (v : View) → get_elem? s.views seat ≡ some v → (c : ℕ) → v.worker.card ≡ Some c → v.worker.flagged ≡ false → ends c s ≡ 0
    hand_unended seat v there c has unflagged =
        let k = wins_are_counted plan s reached in
        let sound = subst (WorkerIsSound k.machine.words k.stages) (ap seat_worker there) (k.invariant.workers.each seat) in
        let none = waits_unended (k.stages c) (hand_waits k.machine.words k.stages (worker_of v.worker) c sound has unflagged) in
        let x = k.counted exchange.IUnflag (omega arith) c in
        let y = k.counted exchange.DUnflag (omega arith) c in
        let z = k.counted exchange.Backtrack (omega arith) c in
        omega arith

    -- a card that has ended was claimed
    pub ended_below : (c : ℕ) → 0 < ends c s → c < get_or s.words 0 0
    ended_below c ended =
        let k = wins_are_counted plan s reached in
        let x = k.counted exchange.IUnflag (omega arith) c in
        let y = k.counted exchange.DUnflag (omega arith) c in
        let z = k.counted exchange.Backtrack (omega arith) c in
        let low = (k.invariant.words.cards c).claimed.0 (ended_claimed (k.stages c) (omega arith)) in
        let is = k.machine.next in
        omega arith

    -- each claim was told once at most
    pub claimed_once : (c : ℕ) → total exchange.Claim c s ≤ 1
    claimed_once c =
        let counts = claims_are_counted plan s reached in
        elim (cases_lt (length plan.start) c) [
          | inl above ↦ elim (cases_lt c (get_or s.words 0 0)) [
            | inl below ↦ (let is = counts.claimed c above below in omega arith)
            | inr high ↦ (let is = counts.high c high in omega arith)
          ]
          | inr low ↦ (let is = counts.low c low in omega arith)
        ]

    -- what some pass has claimed is below the claim word
    pub claimed_below : (seat : ℕ) (v : View) → get_elem? s.views seat ≡ some v → (c : ℕ) → 0 < times exchange.Claim c v.won → c < get_or s.words 0 0
    claimed_below seat v there c mine = elim (cases_lt c (get_or s.words 0 0)) [
      | inl below ↦ below
      | inr high ↦
          let none = (claims_are_counted plan s reached).high c high in
          let some = one_in exchange.Claim c s.views seat v there in
          absurd (omega arith)
    ]

    -- a card that a pass has claimed and has not in hand is in no hand
    pub own_abandoned : (seat : ℕ) (v : View) → get_elem? s.views seat ≡ some v → (c : ℕ) → 0 < times exchange.Claim c v.won → v.worker.card ≢ Some c
        → ends c s ≡ 0 → IsAbandoned s c
    own_abandoned seat v there c mine aside unended = record {
      claimed = claimed_below seat v there c mine;
      free = λ j w at has. elim (cases_eq j seat) [
        | inl e ↦ aside (ap (λ (u : View). u.worker.card)
            (some-injective v w (sym there ∙ (ap (get_elem? s.views) (sym e) ∙ at))) ∙ has)
        | inr n ↦
            let other = (hands_are_claimed plan s reached j w at).held c has in
            let two = two_in exchange.Claim c s.views j seat w v at there n in
            let once = claimed_once c in
            absurd (omega arith)
      ];
      unended = unended;
    }

  module _ (s : TableState) (reached : IsReached plan s) (c : ℕ) (h : IsAbandoned s c) where
    -- no pass takes it in hand again
    stays_free : (t : Turn) (s' : TableState) → TableTurns plan s t s' → (j : ℕ) (v : View) → get_elem? s'.views j ≡ some v → v.worker.card ≢ Some c
    stays_free (Makes id i) s' turn j u at = λ has.
        let w = after i (found_by s i) turn.view in
        let there : get_elem? (set s.views id w) j ≡ some u = subst (λ (x : TableState). get_elem? x.views j ≡ some u) turn.gives at in
        ⊎_elim
        (λ (t : (j ≡ id) × (w ≡ u)). elim (call_held plan i (found_by s i) turn.view turn.may c (ap (λ (x : View). x.worker.card) t.1 ∙ has)) [
          | inl was ↦ h.free id turn.view turn.there was
          | inr claims ↦
              let is : get_or s.words 0 0 ≡ c = ap (found_by s) (sym claims.0.1) ∙ claims.1 in
              let low = h.claimed in
              absurd (omega arith)
        ])
        (λ (t : (j ≢ id) × (get_elem? s.views j ≡ some u)). h.free j u t.1 has)
        (at_set s.views id j w u there)
    stays_free (Splits id chosen) s' turn j u at =
        subst (λ (x : TableState). (j : ℕ) (v : View) → get_elem? x.views j ≡ some v → v.worker.card ≢ Some c) (sym turn.gives)
        (each_split s.views id turn.view turn.there (left_view chosen turn.view) (right_view chosen turn.view) (λ v. v.worker.card ≢ Some c)
        (λ e. some_not_none e refl) (λ e. some_not_none e refl) h.free) j u at
    stays_free (Joins id other) s' turn j u at =
        subst (λ (x : TableState). (j : ℕ) (v : View) → get_elem? x.views j ≡ some v → v.worker.card ≢ Some c) (sym turn.gives)
        (each_joined s.views id other turn.view turn.view' turn.there turn.there' (λ e. turn.apart (sym e)) (joined_view turn.view turn.view')
        (λ v. v.worker.card ≢ Some c) (λ e. some_not_none e refl) (λ e. some_not_none e refl) h.free) j u at

    -- and it doesn't end by a turn
    stays_unended : (t : Turn) (s' : TableState) → TableTurns plan s t s' → IsReached plan s' → ends c s' ≡ 0
    stays_unended t s' turn on = by (ends c s') refl
      where
        by : (n : ℕ) → ends c s' ≡ n → n ≡ 0
        by zero e = refl
        by (suc n) e =
            let was = h.unended in
            let rise = ends_rise c plan s t s' turn in
            let one = turn_wins_one s t c in
            let flagged = ended_was_flagged s' on c (omega arith) in
            let i = turn_total exchange.IFlag c plan s t s' turn in
            let d = turn_total exchange.DFlag c plan s t s' turn in
            let hand = open_in_hand s reached c was (omega arith) in
            absurd (h.free hand.seat hand.view hand.there hand.holds)

  -- so it stays abandoned by every turn, and in every run
  pub turn_abandoned : (s : TableState) → IsReached plan s → (c : ℕ) → IsAbandoned s c → (t : Turn) (s' : TableState) → TableTurns plan s t s' → IsAbandoned s' c
  turn_abandoned s reached c h t s' turn = record {
    claimed = let rises = claim_word_rises plan s (reached_kept plan s reached) t s' turn in let low = h.claimed in omega arith;
    free = stays_free s reached c h t s' turn;
    unended = stays_unended s reached c h t s' turn (reached_on plan s reached t s' turn);
  }

  pub run_abandoned : (s : TableState) → IsReached plan s → (c : ℕ) → IsAbandoned s c → (turns : List Turn) (s' : TableState) → TableRun plan s turns s' → IsAbandoned s' c
  run_abandoned s reached c h [] s' run = subst (λ x. IsAbandoned x c) (sym run) h
  run_abandoned s reached c h (t ∷ ts) s' run =
      run_abandoned run.0 (reached_on plan s reached t run.0 run.1) c (turn_abandoned s reached c h t run.0 run.1) ts s' run.2
