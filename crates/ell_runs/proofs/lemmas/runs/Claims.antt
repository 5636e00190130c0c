use Rattle.ell_runs.specs.Depths.{met_at, depth_told}
use Rattle.ell_runs.proofs.lemmas.views.Depths.{met_more}
use Rattle.std.proofs.Common.{◌≡◌, ◌≢◌, ℕ, ◌+◌, ◌<◌, ◌==◌, if◌then◌else◌, Bool, true, false, List, [], ◌∷◌, ◌++◌, get_or, set, length, refl, sym, ap, ◌∙◌, subst, inl, inr, eqb-true, get_or-set_other, arith}
use Rattle.std.proofs.lemmas.Bool.{cases_eq, true≢false}
use lib.Seq.{set-get_or}
use mathlib.Core.Option.{some, some-injective}
use lib.ListN.{get_elem?}
use Rattle.ell_runs.proofs.lemmas.words.Lists.{set_else, at_longer}
use Rattle.ell_word.specs.Link.{link_in}
use Rattle.ell_word.specs.Word.{packed, unpacked}
use Rattle.ell_word.specs.declared.update.Update.{Update}
use Rattle.ell_core.specs.declared.exchange.Exchange.{Exchange}
use Rattle.ell_core.specs.declared.exchange.Exchange.TheVariants as exchange
use Rattle.ell_core.specs.declared.fact.Fact.{Fact}
use Rattle.ell_core.specs.declared.fact.Fact.TheVariants as fact
use Rattle.ell_layout.specs.Words.{Words}
use Rattle.ell_layout.proofs.lemmas.Listed.{listed_next}
use Rattle.ell_runs.specs.declared.call.Call.{Call}
use Rattle.ell_runs.specs.declared.call.Call.TheVariants as call
use Rattle.ell_runs.specs.declared.call.NewNode.{NewNode}
use Rattle.ell_runs.specs.declared.view.Told.{Told}
use Rattle.ell_runs.specs.declared.view.Told.TheVariants.{Key, Value, Frozen, Expects}
use Rattle.ell_runs.specs.declared.view.View.{View}
use Rattle.ell_runs.specs.Plans.{TablePlan, flat_from}
use Rattle.ell_runs.specs.Views.{Has, latest, earlier, IsTold}
use Rattle.ell_runs.specs.Changes.{expected_tag, told_filling, filling_of, after_claim, after_flag, after_mark, is_mark_of, with_fact, unmarking, left_view, right_view, joined_view, spent_view, depth_there}
use Rattle.ell_runs.specs.Guards.{MayClaim}
use Rattle.ell_runs.proofs.lemmas.lifetimes.Openings.{start_next}
use Rattle.ell_runs.specs.Calls.{word_of, atomic_of, left_by, after}
use Rattle.ell_runs.specs.Touching.{forgets}
use Rattle.ell_runs.specs.States.{TableState}
use Rattle.ell_runs.specs.Turns.{Turn, Makes, Splits, Joins, TableTurns, TableRun, found_by, state_after}
use Rattle.ell_runs.specs.Starts.{IsReached}
use Rattle.ell_runs.specs.Readings.{IsClaimedBySome, ClaimsAreWon}
use Rattle.ell_runs.proofs.lemmas.views.Entries.{places_more, info_more, filling_more}
use Rattle.ell_runs.proofs.lemmas.runs.Won.{won_by, after_won}
use Rattle.ell_runs.proofs.lemmas.seats.Seats.{set_there}

-- what a flag or a mark, won or lost, leaves of what was told
flag_told : (b : Bool) (new : Fact) (x : ℕ) (u : Update) (v : View) (e : Told) → IsTold v e → IsTold (after_flag b new x u v) e
flag_told true new x u v e h = h
flag_told false new x u v e h = places_more x u.state u.card v.told e h

mark_told : (b : Bool) (c x : ℕ) (u : Update) (v : View) (e : Told) → IsTold v e → IsTold (after_mark b c x u v) e
mark_told true c x u v e h = h
mark_told false c x u v e h = by (is_mark_of c u.state u.card)
  where
    by : (b : Bool) → IsTold (if b then with_fact (fact.Marked c) v else unmarking c x u v) e
    by true = h
    by false = places_more x u.state u.card v.told e h

claim_told : (b : Bool) (c : ℕ) (q : NewNode) (v : View) (e : Told) → IsTold v e → IsTold (after_claim b c q v) e
claim_told true c q v e h = earlier e (Expects c (expected_tag v)) (told_filling c (filling_of c q v) v.told) (filling_more c (filling_of c q v) v.told e h)
claim_told false c q v e h = h

-- what was told stays told by a call that forgets nothing
pub after_told : (c : Call) → forgets c ≡ false → (n : ℕ) (v : View) (e : Told) → IsTold v e → IsTold (after c n v) e
after_told (call.Begin op) keeps n v e h = absurd (true≢false keeps)
after_told call.Again keeps n v e h = absurd (true≢false keeps)
after_told call.Leave keeps n v e h = absurd (true≢false keeps)
after_told (call.Answer said took) keeps n v e h = absurd (true≢false keeps)
after_told call.Look keeps n v e h = absurd (true≢false keeps)
after_told call.Rest keeps n v e h = absurd (true≢false keeps)
after_told (call.Upd x) keeps n v e h = places_more x (unpacked n).state (unpacked n).card v.told e h
after_told (call.Down x right) keeps n v e h = met_more (depth_told v.told x + 1) (link_in n).node v.told e h
after_told (call.KeyOf x) keeps n v e h = earlier e (Key x n) v.told h
after_told (call.ValueOf x) keeps n v e h = earlier e (Value x n) v.told h
after_told (call.Info c f) keeps n v e h = info_more (depth_there v c f) c f n v.told e h
after_told (call.FrozenChild c p right) keeps n v e h =
    earlier e (Frozen c right (link_in n).node) (met_at (depth_told v.told p + 1) (link_in n).node v.told) (met_more (depth_told v.told p + 1) (link_in n).node v.told e h)
after_told (call.LookDown from key right) keeps n v e h = met_more (depth_told v.told from.node + 1) (link_in n).node v.told e h
after_told (call.Claim c q) keeps n v e h = claim_told (n == c) c q v e h
after_told (call.IFlag c p from) keeps n v e h = flag_told (n == packed from) (fact.IFlagged c) p (unpacked n) v e h
after_told (call.DFlag c gp from) keeps n v e h = flag_told (n == packed from) (fact.DFlagged c) gp (unpacked n) v e h
after_told (call.Mark c p was) keeps n v e h = mark_told (n == was) c p (unpacked n) v e h
after_told _ keeps n v e h = h

-- what one list has two have
has_left : {A : Type 0} (a b : List A) (e : A) → Has a e → Has (a ++ b) e
has_left [] b e h = elim h [ ]
has_left (d ∷ a) b e (latest _ _) = latest d (a ++ b)
has_left (d ∷ a) b e (earlier _ _ _ h) = earlier e d (a ++ b) (has_left a b e h)

has_right : {A : Type 0} (a b : List A) (e : A) → Has b e → Has (a ++ b) e
has_right [] b e h = h
has_right (d ∷ a) b e h = earlier e d (a ++ b) (has_right a b e h)

-- what was won stays won
won_on : (c : Call) (n : ℕ) (v : View) (e : Exchange × ℕ) → Has v.won e → Has (after c n v).won e
won_on c n v e h = subst (λ ws. Has ws e) (sym (after_won c n v)) (has_right (won_by c n) v.won e h)

-- the first word of a list that is not empty
pub first_set : (ws : List ℕ) (m : ℕ) → 0 < get_or ws 0 0 → get_or (set ws 0 m) 0 0 ≡ m
first_set [] m more = absurd (omega arith)
first_set (x ∷ xs) m more = refl

-- a call that is no claim leaves the claim word
pub leaves_next : (c : Call) (ws : List ℕ) → ((d : ℕ) (q : NewNode) → c ≢ call.Claim d q) → get_or (set ws (word_of c) (left_by (atomic_of c) (get_or ws (word_of c) 0))) 0 0 ≡ get_or ws 0 0
leaves_next (call.Claim c q) ws apart = absurd (apart c q refl)
leaves_next (call.Fill c f value) ws apart = get_or-set_other ws (word_of (call.Fill c f value)) 0 _ 0 (λ e. omega arith)
leaves_next (call.IFlag c p from) ws apart = get_or-set_other ws (word_of (call.IFlag c p from)) 0 _ 0 (λ e. omega arith)
leaves_next (call.IChild c p l replaces right) ws apart = get_or-set_other ws (word_of (call.IChild c p l replaces right)) 0 _ 0 (λ e. omega arith)
leaves_next (call.IUnflag c p) ws apart = get_or-set_other ws (word_of (call.IUnflag c p)) 0 _ 0 (λ e. omega arith)
leaves_next (call.DFlag c gp from) ws apart = get_or-set_other ws (word_of (call.DFlag c gp from)) 0 _ 0 (λ e. omega arith)
leaves_next (call.Mark c p was) ws apart = get_or-set_other ws (word_of (call.Mark c p was)) 0 _ 0 (λ e. omega arith)
leaves_next (call.DChild c gp p y right) ws apart = get_or-set_other ws (word_of (call.DChild c gp p y right)) 0 _ 0 (λ e. omega arith)
leaves_next (call.DUnflag c gp) ws apart = get_or-set_other ws (word_of (call.DUnflag c gp)) 0 _ 0 (λ e. omega arith)
leaves_next (call.Backtrack c gp) ws apart = get_or-set_other ws (word_of (call.Backtrack c gp)) 0 _ 0 (λ e. omega arith)
leaves_next c ws apart = ap (λ (l : List ℕ). get_or l 0 0) (set-get_or ws (word_of c) 0)

-- some card was claimed from the first on, and each claim since then was won by some pass
pub record AllClaimed (first : ℕ) (s : TableState) : Type 0 where
  pub next : first < get_or s.words 0 0
  pub won : (c : ℕ) → first < c → c < get_or s.words 0 0 → IsClaimedBySome s c

-- what some pass has won it has won where another view is in a seat that has won no less
claimed_on : (s : TableState) (words : List ℕ) (id : ℕ) (v w : View) → get_elem? s.views id ≡ some v → ((e : Exchange × ℕ) → Has v.won e → Has w.won e)
    → (c : ℕ) → IsClaimedBySome s c → IsClaimedBySome (record { words = words; views = set s.views id w }) c
claimed_on s words id v w here more c h = elim (cases_eq h.seat id) [
  | inl e ↦ record {
    seat = id;
    view = w;
    there = set_there s.views id w v here;
    claimed = more (exchange.Claim, c) (subst (λ (u : View). Has u.won (exchange.Claim, c))
        (some-injective h.view v (sym h.there ∙ (ap (get_elem? s.views) e ∙ here))) h.claimed);
  }
  | inr n ↦ record { seat = h.seat; view = h.view; there = set_else s.views id h.seat w n ∙ h.there; claimed = h.claimed }
]

module _ (plan : TablePlan) (first : ℕ) (s : TableState) (h : AllClaimed first s) where
  -- a call that is no claim
  call_claimed : (id : ℕ) (v : View) (c : Call) → get_elem? s.views id ≡ some v → ((d : ℕ) (q : NewNode) → c ≢ call.Claim d q) → AllClaimed first (state_after s id v c)
  call_claimed id v c here apart =
      let s' = state_after s id v c in
      let same = leaves_next c s.words apart in
      let more = h.next in record {
        next = omega arith;
        won = λ d low below. claimed_on s s'.words id v (after c (found_by s c) v) here (won_on c (found_by s c) v) d (h.won d low (omega arith));
      }

  -- a claim
  claim_claimed : (id : ℕ) (v : View) (c : ℕ) (q : NewNode) → get_elem? s.views id ≡ some v → MayClaim (flat_from plan) v c q → AllClaimed first (state_after s id v (call.Claim c q))
  claim_claimed id v c q here may = by (get_or s.words 0 0 == c) refl
    where
      by : (b : Bool) → (get_or s.words 0 0 == c) ≡ b
          → AllClaimed first (record { words = set s.words 0 (if b then c + 1 else get_or s.words 0 0); views = set s.views id (after_claim b c q v) })
      by false is =
          let same = ap (λ (l : List ℕ). get_or l 0 0) (set-get_or s.words 0 0) in
          let more = h.next in record {
            next = omega arith;
            won = λ d low below. claimed_on s (set s.words 0 (get_or s.words 0 0)) id v (after_claim false c q v) here (λ e h. h) d (h.won d low (omega arith));
          }
      by true is =
          let n = get_or s.words 0 0 in
          let at = eqb-true n c is in
          let more = h.next in
          let next = first_set s.words (c + 1) (omega arith) in record {
            next = omega arith;
            won = λ d low below. elim (cases_eq d c) [
              | inl e ↦ record {
                seat = id;
                view = after_claim true c q v;
                there = set_there s.views id (after_claim true c q v) v here;
                claimed = subst (λ (k : ℕ). Has (after_claim true c q v).won (exchange.Claim, k)) (sym e) (latest (exchange.Claim, c) v.won);
              }
              | inr apart ↦ claimed_on s (set s.words 0 (c + 1)) id v (after_claim true c q v) here (λ e h. earlier e (exchange.Claim, c) v.won h) d (h.won d low (omega arith))
            ];
          }

  turn_claimed : (t : Turn) (s' : TableState) → TableTurns plan s t s' → AllClaimed first s'
  turn_claimed (Makes id (call.Claim c q)) s' turn = subst (AllClaimed first) (sym turn.gives) (claim_claimed id turn.view c q turn.there turn.may.0)
  turn_claimed (Makes id c) s' turn = subst (AllClaimed first) (sym turn.gives) (call_claimed id turn.view c turn.there (λ d q e. (cc)))
  turn_claimed (Splits id chosen) s' turn =
      let v = turn.view in
      let left = left_view chosen v in
      subst (AllClaimed first) (sym turn.gives) (record {
        next = h.next;
        won = λ d low below.
            let on = claimed_on s s.words id v left turn.there (λ e x. x) d (h.won d low below) in
            record { seat = on.seat; view = on.view; there = at_longer (set s.views id left) (right_view chosen v ∷ []) on.seat on.view on.there; claimed = on.claimed };
      })
  turn_claimed (Joins id other) s' turn =
      let v = turn.view in
      let w = turn.view' in
      let both = joined_view v w in
      subst (AllClaimed first) (sym turn.gives) (record {
        next = h.next;
        won = λ d low below. joined d (claimed_on s s.words id v both turn.there (λ e x. has_left v.won w.won e x) d (h.won d low below)) (h.won d low below);
      })
    where
      joined : (d : ℕ) → IsClaimedBySome (record { words = s.words; views = set s.views id (joined_view turn.view turn.view') }) d → IsClaimedBySome s d
          → IsClaimedBySome (record { words = s.words; views = set (set s.views id (joined_view turn.view turn.view')) other spent_view }) d
      joined d on was = elim (cases_eq on.seat other) [
        | inl e ↦ record {
          seat = id;
          view = joined_view turn.view turn.view';
          there = set_else (set s.views id (joined_view turn.view turn.view')) other id spent_view turn.apart ∙ set_there s.views id (joined_view turn.view turn.view') turn.view turn.there;
          claimed = has_right turn.view.won turn.view'.won (exchange.Claim, d) (subst (λ (u : View). Has u.won (exchange.Claim, d))
              (some-injective on.view turn.view' (sym on.there ∙ (ap (get_elem? (set s.views id (joined_view turn.view turn.view'))) e
              ∙ (set_else s.views id other (joined_view turn.view turn.view') (λ same. turn.apart (sym same)) ∙ turn.there')))) on.claimed);
        }
        | inr n ↦ record {
          seat = on.seat;
          view = on.view;
          there = set_else (set s.views id (joined_view turn.view turn.view')) other on.seat spent_view n ∙ on.there;
          claimed = on.claimed;
        }
      ]

run_claimed : (plan : TablePlan) (first : ℕ) (s : TableState) (turns : List Turn) (s' : TableState) → TableRun plan s turns s' → AllClaimed first s → AllClaimed first s'
run_claimed plan first s [] s' run h = subst (AllClaimed first) (sym run) h
run_claimed plan first s (t ∷ ts) s' run h = run_claimed plan first run.0 ts s' run.2 (turn_claimed plan first s h t run.0 run.1)

pub all_claimed : (plan : TablePlan) (s : TableState) → IsReached plan s → AllClaimed (length plan.start) s
all_claimed plan s h =
    let opens : get_or h.first.words 0 0 ≡ length plan.start + 1 = sym (listed_next h.first.words) ∙ ap (λ (w : Words). w.next) h.starts.words.are ∙ start_next plan.flat plan.start in
    run_claimed plan (length plan.start) h.first h.turns s h.run (record {
      next = omega arith;
      won = λ c low below. absurd (omega arith);
    })

pub claims_are_won : ClaimsAreWon
claims_are_won plan s h = (all_claimed plan s h).won
