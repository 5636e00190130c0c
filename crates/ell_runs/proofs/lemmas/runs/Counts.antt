use Rattle.std.proofs.Common.{◌≡◌, ◌≢◌, ℕ, ◌+◌, ◌<◌, ◌≤◌, ◌==◌, if◌then◌else◌, Bool, true, false, List, [], ◌∷◌, ◌++◌, inl, inr, get_or, length, refl, sym, ap, ◌∙◌, subst, eqb-true, arith}
use Rattle.std.proofs.lemmas.Bool.{cases_eq, ne_eqb, eq-eqb}
use Rattle.ell_core.specs.declared.exchange.Exchange.{Exchange}
use Rattle.ell_core.specs.declared.exchange.Exchange.TheVariants as exchange
use Rattle.ell_word.specs.Link.{linked}
use Rattle.ell_word.specs.Word.{packed}
use Rattle.ell_layout.specs.Cards.{iflag, dflag}
use Rattle.ell_layout.specs.Words.{Words}
use Rattle.ell_core.specs.history.Stages.{Stages}
use Rattle.ell_core.specs.history.Invariant.{Invariant}
use Rattle.ell_core.specs.history.Later.{wins_of}
use Rattle.ell_layout.proofs.lemmas.Listed.{listed_next}
use Rattle.ell_runs.specs.declared.call.Call.{Call}
use Rattle.ell_runs.specs.declared.call.Call.TheVariants as call
use Rattle.ell_runs.specs.declared.call.NewNode.{NewNode}
use Rattle.ell_runs.specs.Changes.{if_won}
use Rattle.ell_runs.specs.Laws.{machine_of_table}
use Rattle.ell_runs.specs.States.{TableState}
use Rattle.ell_runs.specs.Machines.{HasMachine}
use Rattle.ell_runs.specs.Turns.{Turn, Makes, Splits, Joins, TableTurns, TableRun, found_by}
use Rattle.ell_runs.specs.TurnEffects.{run_wins}
use Rattle.ell_runs.specs.Starts.{Starts, IsReached}
use Rattle.ell_runs.proofs.lemmas.runs.GoingOn.{run_goes}
use Rattle.ell_runs.proofs.lemmas.runs.Starting.{starts_are_kept}
use Rattle.ell_runs.proofs.lemmas.runs.Claims.{first_set, leaves_next}
use Rattle.ell_runs.proofs.lemmas.runs.Won.{number, count, times, total, won_by, other_kind, turn_total, run_total}
use Rattle.ell_runs.specs.Plans.{TablePlan}
use Rattle.ell_runs.proofs.lemmas.lifetimes.Openings.{start_next}

-- nothing was won at the start
pub none_at_start : (plan : TablePlan) (s : TableState) → Starts plan s → (k : Exchange) (c : ℕ) → total k c s ≡ 0
none_at_start plan s starts k c = ap (total k c) starts.is

-- a machine of a state, with stages of its cards by which each win of a card was told once, to one pass
pub record Counts (plan : TablePlan) (s : TableState) : Type 0 where
  pub machine : HasMachine plan s
  pub stages : Stages
  pub invariant : Invariant (machine_of_table plan s machine) stages
  pub counted : (k : Exchange) → 0 < number k → (c : ℕ) → total k c s ≡ count k (wins_of (stages c))

pub wins_are_counted : (plan : TablePlan) (s : TableState) → IsReached plan s → Counts plan s
wins_are_counted plan s h =
    let k = starts_are_kept plan h.first h.starts in
    let goes = run_goes plan h.first k.kept k.kept.stages k.kept.invariant h.turns s h.run in record {
      machine = goes.0;
      stages = goes.1.stages;
      invariant = goes.1.invariant;
      counted = λ j more c.
          let runs = run_total j more c plan h.first h.turns s h.run in
          let none = none_at_start plan h.first h.starts j c in
          let first = ap (λ ws. count j (ws ++ run_wins plan h.first h.turns s h.run c)) (k.unwon c) in
          let wins = ap (count j) (goes.1.wins c) in
          omega arith;
    }

-- each claim was told once, to one pass: of the cards after the opening tree's and below the claim word
pub record ClaimsCount (first : ℕ) (s : TableState) : Type 0 where
  pub next : first < get_or s.words 0 0
  pub low : (c : ℕ) → c ≤ first → total exchange.Claim c s ≡ 0
  pub claimed : (c : ℕ) → first < c → c < get_or s.words 0 0 → total exchange.Claim c s ≡ 1
  pub high : (c : ℕ) → get_or s.words 0 0 ≤ c → total exchange.Claim c s ≡ 0

-- no other call adds a claim
pub claims_none : (c : Call) (n d : ℕ) → ((e : ℕ) (q : NewNode) → c ≢ call.Claim e q) → times exchange.Claim d (won_by c n) ≡ 0
claims_none (call.Claim c q) n d apart = absurd (apart c q refl)
claims_none (call.IFlag c p from) n d apart = other_kind (n == packed from) exchange.IFlag exchange.Claim c d refl
claims_none (call.IChild c p l replaces right) n d apart = other_kind (n == linked l) exchange.IChild exchange.Claim c d refl
claims_none (call.IUnflag c p) n d apart = other_kind (n == iflag c) exchange.IUnflag exchange.Claim c d refl
claims_none (call.DFlag c gp from) n d apart = other_kind (n == packed from) exchange.DFlag exchange.Claim c d refl
claims_none (call.Mark c p was) n d apart = other_kind (n == was) exchange.Mark exchange.Claim c d refl
claims_none (call.DChild c gp p y right) n d apart = other_kind (n == linked p) exchange.DChild exchange.Claim c d refl
claims_none (call.DUnflag c gp) n d apart = other_kind (n == dflag c) exchange.DUnflag exchange.Claim c d refl
claims_none (call.Backtrack c gp) n d apart = other_kind (n == dflag c) exchange.Backtrack exchange.Claim c d refl
claims_none _ n d apart = refl

-- a claim adds its own
pub claims_one : (b : Bool) (c d : ℕ) → times exchange.Claim d (if_won b exchange.Claim c) ≡ (if b then (if d == c then 1 else 0) else 0)
claims_one false c d = refl
claims_one true c d = by (d == c)
  where
    by : (b : Bool) → (if b then 1 else 0) + 0 ≡ (if b then 1 else 0)
    by true = refl
    by false = refl

module _ (plan : TablePlan) (first : ℕ) (s : TableState) (h : ClaimsCount first s) where
  -- where the claim word and the claims are as they were
  same_claims : (s' : TableState) → get_or s'.words 0 0 ≡ get_or s.words 0 0 → ((d : ℕ) → total exchange.Claim d s' ≡ total exchange.Claim d s) → ClaimsCount first s'
  same_claims s' next same = record {
    next = let low = h.next in omega arith;
    low = λ d low. same d ∙ h.low d low;
    claimed = λ d more below. same d ∙ h.claimed d more (omega arith);
    high = λ d high. same d ∙ h.high d (omega arith);
  }

  -- where the next card was claimed
  one_more_claim : (s' : TableState) (c : ℕ) → get_or s.words 0 0 ≡ c → get_or s'.words 0 0 ≡ c + 1
      → ((d : ℕ) → total exchange.Claim d s' ≡ total exchange.Claim d s + (if d == c then 1 else 0)) → ClaimsCount first s'
  one_more_claim s' c at next more = record {
    next = let low = h.next in omega arith;
    low = λ d low. let below = h.next in let was = h.low d low in let is = other d (λ e. omega arith) in omega arith;
    claimed = λ d above below. elim (cases_eq d c) [
      | inl e ↦ (let was = h.high d (omega arith) in let is = own d e in omega arith)
      | inr n ↦ (let was = h.claimed d above (omega arith) in let is = other d n in omega arith)
    ];
    high = λ d high. let was = h.high d (omega arith) in let is = other d (λ e. omega arith) in omega arith;
  }
    where
      other : (d : ℕ) → d ≢ c → total exchange.Claim d s' ≡ total exchange.Claim d s + 0
      other d n = more d ∙ ap (λ (b : Bool). total exchange.Claim d s + (if b then 1 else 0)) (ne_eqb d c n)

      own : (d : ℕ) → d ≡ c → total exchange.Claim d s' ≡ total exchange.Claim d s + 1
      own d e = more d ∙ ap (λ (b : Bool). total exchange.Claim d s + (if b then 1 else 0)) (eq-eqb d c e)

  claim_counts : (id c : ℕ) (q : NewNode) (s' : TableState) → TableTurns plan s (Makes id (call.Claim c q)) s' → ClaimsCount first s'
  claim_counts id c q s' turn = by (get_or s.words 0 0 == c) refl
    where
      n : ℕ
      n = get_or s.words 0 0

      some : 0 < get_or s.words 0 0
      some = let low = h.next in omega arith

      next_is : get_or s'.words 0 0 ≡ (if n == c then c + 1 else n)
      next_is = ap (λ (x : TableState). get_or x.words 0 0) turn.gives ∙ first_set s.words (if n == c then c + 1 else n) some

      added : (d : ℕ) → total exchange.Claim d s' ≡ total exchange.Claim d s + (if n == c then (if d == c then 1 else 0) else 0)
      added d = turn_total exchange.Claim d plan s (Makes id (call.Claim c q)) s' turn ∙ ap (λ m. total exchange.Claim d s + m) (claims_one (n == c) c d)

      by : (b : Bool) → (n == c) ≡ b → ClaimsCount first s'
      by false e = same_claims s' (next_is ∙ ap (λ (b : Bool). if b then c + 1 else n) e)
          (λ d. let more = added d ∙ ap (λ (b : Bool). total exchange.Claim d s + (if b then (if d == c then 1 else 0) else 0)) e in omega arith)
      by true e = one_more_claim s' c (eqb-true n c e) (next_is ∙ ap (λ (b : Bool). if b then c + 1 else n) e)
          (λ d. added d ∙ ap (λ (b : Bool). total exchange.Claim d s + (if b then (if d == c then 1 else 0) else 0)) e)

  call_counts : (id : ℕ) (c : Call) (s' : TableState) → TableTurns plan s (Makes id c) s' → ((d : ℕ) (q : NewNode) → c ≢ call.Claim d q) → ClaimsCount first s'
  call_counts id c s' turn apart = same_claims s'
      (ap (λ (x : TableState). get_or x.words 0 0) turn.gives ∙ leaves_next c s.words apart)
      (λ d. let more = turn_total exchange.Claim d plan s (Makes id c) s' turn in let none = claims_none c (found_by s c) d apart in omega arith)

  turn_counts : (t : Turn) (s' : TableState) → TableTurns plan s t s' → ClaimsCount first s'
  turn_counts (Makes id (call.Claim c q)) s' turn = claim_counts id c q s' turn
  turn_counts (Makes id c) s' turn = call_counts id c s' turn (λ d q e. (cc))
  turn_counts (Splits id chosen) s' turn = same_claims s' (ap (λ (x : TableState). get_or x.words 0 0) turn.gives)
      (λ d. let more = turn_total exchange.Claim d plan s (Splits id chosen) s' turn in omega arith)
  turn_counts (Joins id other) s' turn = same_claims s' (ap (λ (x : TableState). get_or x.words 0 0) turn.gives)
      (λ d. let more = turn_total exchange.Claim d plan s (Joins id other) s' turn in omega arith)

run_counts : (plan : TablePlan) (first : ℕ) (s : TableState) (turns : List Turn) (s' : TableState) → TableRun plan s turns s' → ClaimsCount first s → ClaimsCount first s'
run_counts plan first s [] s' run h = subst (ClaimsCount first) (sym run) h
run_counts plan first s (t ∷ ts) s' run h = run_counts plan first run.0 ts s' run.2 (turn_counts plan first s h t run.0 run.1)

pub claims_are_counted : (plan : TablePlan) (s : TableState) → IsReached plan s → ClaimsCount (length plan.start) s
claims_are_counted plan s h =
    let opens : get_or h.first.words 0 0 ≡ length plan.start + 1 = sym (listed_next h.first.words) ∙ ap (λ (w : Words). w.next) h.starts.words.are ∙ start_next plan.flat plan.start in
    run_counts plan (length plan.start) h.first h.turns s h.run (record {
      next = omega arith;
      low = λ c low. none_at_start plan h.first h.starts exchange.Claim c;
      claimed = λ c above below. absurd (omega arith);
      high = λ c high. none_at_start plan h.first h.starts exchange.Claim c;
    })
