use Rattle.std.proofs.Common.{◌≡◌, ◌≢◌, ℕ, ◌≤◌, ◌==◌, if◌then◌else◌, Bool, true, false, Option, Some, None, List, [], ◌∷◌, ◌++◌, get_or, set, refl, sym, ap, ◌∙◌, subst, ⊎_elim, true≢false, eq-eqb, arith}
use mathlib.Core.Option.{some}
use lib.ListN.{get_elem?}
use Rattle.ell_runs.proofs.lemmas.words.Lists.{at_set}
use Rattle.ell_ops.specs.declared.op.Op.{Op}
use Rattle.ell_ops.specs.declared.op.Op.TheVariants.{Insert, Delete, Swap}
use Rattle.ell_word.specs.Word.{packed, unpacked}
use Rattle.ell_word.specs.declared.update.State.{State}
use Rattle.ell_word.specs.declared.update.State.TheVariants.{Clean}
use Rattle.ell_word.specs.declared.update.Update.{Update}
use Rattle.ell_core.specs.declared.fact.Fact.{Fact}
use Rattle.ell_core.specs.declared.fact.Fact.TheVariants.{IFlagged, DFlagged, Marked}
use Rattle.ell_core.specs.declared.view.Seen.{Seen}
use Rattle.ell_runs.specs.declared.call.Call.{Call}
use Rattle.ell_runs.specs.declared.call.Call.TheVariants as call
use Rattle.ell_runs.specs.declared.call.NewNode.{NewNode}
use Rattle.ell_runs.specs.declared.view.Hindrance.{Hindrance}
use Rattle.ell_runs.specs.declared.view.Hindrance.TheVariants.{Claim, Found}
use Rattle.ell_runs.specs.declared.view.View.{View}
use Rattle.ell_runs.specs.Changes.{first_of, left_view, right_view, joined_view, later_reading, unless_clean, read_in_way, first_in_way, in_the_way, way_now, after_claim, after_flag, after_mark, is_mark_of, is_this, with_fact, unmarking}
use Rattle.ell_runs.specs.Calls.{word_of, after, May}
use Rattle.ell_runs.specs.States.{TableState}
use Rattle.ell_runs.specs.Machines.{HasMachine}
use Rattle.ell_runs.specs.Turns.{Turn, Makes, Splits, Joins, TableTurns, TableRun, found_by}
use Rattle.ell_runs.specs.Starts.{IsReached}
use Rattle.ell_runs.specs.Readings.{AreBelow, IsRead, IsPast, ReadingsArePast}
use Rattle.ell_runs.proofs.lemmas.lifetimes.Splits.{each_split}
use Rattle.ell_runs.proofs.lemmas.lifetimes.Joins.{each_joined}
use Rattle.ell_runs.proofs.lemmas.lifetimes.Openings.{each_first}
use Rattle.ell_runs.proofs.lemmas.runs.Starting.{starts_are_kept}
use Rattle.ell_runs.proofs.lemmas.runs.GoingOn.{run_goes}
use Rattle.ell_runs.proofs.lemmas.runs.TurnsOfRuns.{turn_lawful}
use Rattle.ell_runs.specs.Plans.{TablePlan}

below_rises : (n m : ℕ) (hs : List Hindrance) → n ≤ m → AreBelow n hs → AreBelow m hs
below_rises n m [] low h = tt
below_rises n m (Claim c ∷ hs) low h = let d = h.0 in ((omega arith), below_rises n m hs low h.1)
below_rises n m (Found u ∷ hs) low h = below_rises n m hs low h

below_both : (n : ℕ) (hs ks : List Hindrance) → AreBelow n hs → AreBelow n ks → AreBelow n (hs ++ ks)
below_both n [] ks a b = b
below_both n (Claim c ∷ hs) ks a b = (a.0, below_both n hs ks a.1 b)
below_both n (Found u ∷ hs) ks a b = below_both n hs ks a b

read_rises : (n m : ℕ) (o : Option ℕ) → n ≤ m → IsRead n o → IsRead m o
read_rises n m None low h = tt
read_rises n m (Some k) low h = omega arith

read_later : (n : ℕ) (o p : Option ℕ) → IsRead n o → IsRead n p → IsRead n (later_reading o p)
read_later n None p a b = b
read_later n (Some k) None a b = a
read_later n (Some k) (Some l) a b = omega arith

past_rises : (n m : ℕ) (v : View) → n ≤ m → IsPast n v → IsPast m v
past_rises n m v low h = record { next = read_rises n m v.next low h.next; claims = below_rises n m v.hindrances low h.claims }

-- what a search read in the way is no claim
clean_or_found : (n : ℕ) (state : State) (card : ℕ) → AreBelow n (unless_clean state card)
clean_or_found n Clean card = tt
clean_or_found n _ card = tt

read_no_claim : (n : ℕ) (o : Option Seen) → AreBelow n (read_in_way o)
read_no_claim n None = tt
read_no_claim n (Some seen) = clean_or_found n (unpacked seen.word).state (unpacked seen.word).card

first_no_claim : (n : ℕ) (hs ks : List Hindrance) → AreBelow n hs → AreBelow n ks → AreBelow n (first_in_way hs ks)
first_no_claim n [] ks a b = b
first_no_claim n (h ∷ hs) ks a b = a

way_no_claim : (n : ℕ) (op : Option Op) (at : Option ℕ) (parent above : Option Seen) → AreBelow n (in_the_way op at parent above)
way_no_claim n (Some (Insert k value)) (Some x) parent above = read_no_claim n parent
way_no_claim n (Some (Swap k was value)) (Some x) parent above = read_no_claim n parent
way_no_claim n (Some (Delete k)) (Some x) parent above =
    first_no_claim n (read_in_way above) (read_in_way parent) (read_no_claim n above) (read_no_claim n parent)
way_no_claim n _ _ parent above = tt

-- what was in the way, once a try is given up
abbrev after_try : View → List Hindrance
after_try v = way_now v ++ v.hindrances

past_after_try : (n : ℕ) (v : View) → IsPast n v → AreBelow n (after_try v)
past_after_try n v h =
    below_both n (in_the_way v.worker.operation v.worker.search.node v.worker.search.parent v.worker.search.grandparent) v.hindrances
    (way_no_claim n v.worker.operation v.worker.search.node v.worker.search.parent v.worker.search.grandparent) h.claims

past_flag : (n : ℕ) (b : Bool) (new : Fact) (x : ℕ) (u : Update) (v : View) → IsPast n v → IsPast n (after_flag b new x u v)
past_flag n true new x u v h = record { next = h.next; claims = h.claims }
past_flag n false new x u v h = record { next = h.next; claims = h.claims }

past_mark : (n : ℕ) (b : Bool) (c x : ℕ) (u : Update) (v : View) → IsPast n v → IsPast n (after_mark b c x u v)
past_mark n true c x u v h = record { next = h.next; claims = h.claims }
past_mark n false c x u v h = by (is_mark_of c u.state u.card) (is_this v.worker.card c)
  where
    hinders : (held : Bool) → AreBelow n (if held then Found u ∷ v.hindrances else v.hindrances)
    hinders true = h.claims
    hinders false = h.claims

    by : (marked held : Bool) → IsPast n (if marked then with_fact (Marked c) v else unmarking c x u v)
    by true held = record { next = h.next; claims = h.claims }
    by false held = record { next = h.next; claims = hinders (is_this v.worker.card c) }

-- a claim that found another word found a later one
past_claim : (n m : ℕ) (b : Bool) (c : ℕ) (q : NewNode) (v : View) → (n == c) ≡ b → n ≤ m → v.next ≡ Some c → IsPast n v → IsPast m (after_claim b c q v)
past_claim n m true c q v e low read h = record { next = read_rises n m v.next low h.next; claims = below_rises n m v.hindrances low h.claims }
past_claim n m false c q v e low read h =
    let apart : n ≢ c = λ same. true≢false (sym (subst (λ (k : ℕ). (n == k) ≡ true) same (eq-eqb n n refl)) ∙ e) in
    let room : c ≤ n = subst (IsRead n) read h.next in
    record { next = read_rises n m v.next low h.next; claims = ((omega arith), below_rises n m v.hindrances low h.claims) }

-- so it stays after a call
past_after : (plan : TablePlan) (n m : ℕ) (c : Call) (found : ℕ) (v : View) → n ≤ m → (word_of c ≡ 0 → found ≡ n) → May plan c v → IsPast n v → IsPast m (after c found v)
past_after plan n m (call.Begin op) found v low is may h = record { next = tt; claims = below_rises n m v.hindrances low h.claims }
past_after plan n m call.Again found v low is may h = record { next = tt; claims = below_rises n m (after_try v) low (past_after_try n v h) }
past_after plan n m call.Leave found v low is may h = record { next = read_rises n m v.next low h.next; claims = below_rises n m (after_try v) low (past_after_try n v h) }
past_after plan n m call.Next found v low is may h =
    let same = is refl in record { next = (omega arith); claims = below_rises n m v.hindrances low h.claims }
past_after plan n m (call.Claim c q) found v low is may h =
    subst (λ (k : ℕ). IsPast m (after_claim (k == c) c q v)) (sym (is refl)) (past_claim n m (n == c) c q v refl low may.0.read h)
past_after plan n m (call.IFlag c p from) found v low is may h =
    let later_reading = past_flag m (found == packed from) (IFlagged c) p (unpacked found) v (past_rises n m v low h) in record { next = later_reading.next; claims = later_reading.claims }
past_after plan n m (call.DFlag c gp from) found v low is may h =
    let later_reading = past_flag m (found == packed from) (DFlagged c) gp (unpacked found) v (past_rises n m v low h) in record { next = later_reading.next; claims = later_reading.claims }
past_after plan n m (call.Mark c p was) found v low is may h =
    let later_reading = past_mark m (found == was) c p (unpacked found) v (past_rises n m v low h) in record { next = later_reading.next; claims = later_reading.claims }
past_after plan n m _ found v low is may h = record { next = read_rises n m v.next low h.next; claims = below_rises n m v.hindrances low h.claims }

-- what each pass knows of the claim word is past
abbrev pub AllPast : TableState → Type 0
AllPast s = (j : ℕ) (v : View) → get_elem? s.views j ≡ some v → IsPast (get_or s.words 0 0) v

module _ (plan : TablePlan) where
  -- the claim word rises
  pub claim_word_rises : (s : TableState) → HasMachine plan s → (t : Turn) (s' : TableState) → TableTurns plan s t s' → get_or s.words 0 0 ≤ get_or s'.words 0 0
  claim_word_rises s r t s' turn =
      let goes = run_goes plan s r r.stages r.invariant (t ∷ []) s' (s', turn, refl) in
      let rises = goes.1.words.next in
      let here = r.next in
      let there = goes.0.next in
      omega arith

  turn_past : (s : TableState) → HasMachine plan s → (t : Turn) (s' : TableState) → TableTurns plan s t s' → AllPast s → AllPast s'
  turn_past s r (Makes id c) s' turn h = λ j u at.
      let n = get_or s.words 0 0 in
      let m = get_or s'.words 0 0 in
      let low = claim_word_rises s r (Makes id c) s' turn in
      let w = after c (found_by s c) turn.view in
      let there : get_elem? (set s.views id w) j ≡ some u = subst (λ (x : TableState). get_elem? x.views j ≡ some u) turn.gives at in
      ⊎_elim
      (λ (t : (j ≡ id) × (w ≡ u)). subst (IsPast m) t.1
      (past_after plan n m c (found_by s c) turn.view low (λ e. ap (λ i. get_or s.words i 0) e) turn.may (h id turn.view turn.there)))
      (λ (t : (j ≢ id) × (get_elem? s.views j ≡ some u)). past_rises n m u low (h j u t.1))
      (at_set s.views id j w u there)
  turn_past s r (Splits id chosen) s' turn h =
      let n = get_or s.words 0 0 in
      let was = h id turn.view turn.there in
      subst AllPast (sym turn.gives)
      (each_split s.views id turn.view turn.there (left_view chosen turn.view) (right_view chosen turn.view) (IsPast n)
      (record { next = tt; claims = was.claims }) (record { next = tt; claims = tt }) h)
  turn_past s r (Joins id other) s' turn h =
      let n = get_or s.words 0 0 in
      let v = turn.view in
      let w = turn.view' in
      let a = h id v turn.there in
      let b = h other w turn.there' in
      subst AllPast (sym turn.gives)
      (each_joined s.views id other v w turn.there turn.there' (λ e. turn.apart (sym e)) (joined_view v w) (IsPast n)
      (record { next = read_later n v.next w.next a.next b.next; claims = below_both n v.hindrances w.hindrances a.claims b.claims })
      (record { next = tt; claims = tt }) h)

  run_past : (s : TableState) → HasMachine plan s → (turns : List Turn) (s' : TableState) → TableRun plan s turns s' → AllPast s → AllPast s'
  run_past s r [] s' run h = subst AllPast (sym run) h
  run_past s r (t ∷ ts) s' run h =
      run_past run.0 (turn_lawful plan s r t run.0 run.1).0 ts s' run.2 (turn_past s r t run.0 run.1 h)

-- so it is wherever turns have led a table
reached_past : (plan : TablePlan) (s : TableState) → IsReached plan s → AllPast s
reached_past plan s h =
    let first = (starts_are_kept plan h.first h.starts).kept in
    run_past plan h.first first h.turns s h.run
    (subst AllPast (sym h.starts.is) (each_first (first_of plan) (IsPast (get_or h.first.words 0 0)) (record { next = tt; claims = tt })))

pub readings_are_past : ReadingsArePast
readings_are_past = reached_past
