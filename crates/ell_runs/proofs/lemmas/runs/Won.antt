use Rattle.std.proofs.Common.{◌≡◌, ℕ, zero, suc, ◌+◌, ◌<◌, ◌==◌, if◌then◌else◌, Bool, true, false, Some, List, [], ◌∷◌, ◌++◌, set, refl, sym, ap, ◌∙◌, arith}
use Rattle.std.proofs.lemmas.Bool.{ne_eqb}
use mathlib.Core.Option.{some, some-injective, some-ne-none}
use lib.ListN.{get_elem?}
use Rattle.ell_runs.proofs.lemmas.words.Lists.{set_else}
use Rattle.ell_core.specs.declared.exchange.Exchange.{Exchange}
use Rattle.ell_core.specs.declared.exchange.Exchange.TheVariants as exchange
use Rattle.ell_word.specs.Link.{linked}
use Rattle.ell_word.specs.Word.{packed, unpacked}
use Rattle.ell_core.specs.declared.fact.Fact.{Fact}
use Rattle.ell_core.specs.declared.fact.Fact.TheVariants as fact
use Rattle.ell_layout.specs.Cards.{iflag, dflag}
use Rattle.ell_core.specs.acts.Wins.{win_for}
use Rattle.ell_runs.specs.declared.call.Call.{Call}
use Rattle.ell_runs.specs.declared.call.Call.TheVariants as call
use Rattle.ell_runs.specs.declared.call.NewNode.{NewNode}
use Rattle.ell_runs.specs.declared.view.View.{View}
use Rattle.ell_word.specs.declared.update.Update.{Update}
use Rattle.ell_runs.specs.Changes.{if_won, after_claim, after_flag, after_mark, is_mark_of, with_fact, unmarking, left_view, right_view, joined_view, spent_view}
use Rattle.ell_runs.specs.Calls.{atomic_of, is_won, after}
use Rattle.ell_runs.specs.States.{TableState}
use Rattle.ell_runs.specs.Turns.{Turn, Makes, Splits, Joins, TableTurns, TableRun, found_by}
use Rattle.ell_runs.specs.TurnEffects.{win_of, turn_wins, run_wins}
use Rattle.ell_runs.specs.Plans.{TablePlan}

-- a kind by a number: 0 for a claim, and 1 to 8 for what a card wins
abbrev pub number : Exchange → ℕ
number exchange.Claim = 0
number exchange.IFlag = 1
number exchange.IChild = 2
number exchange.IUnflag = 3
number exchange.DFlag = 4
number exchange.Mark = 5
number exchange.DChild = 6
number exchange.DUnflag = 7
number exchange.Backtrack = 8

-- 1 for true
abbrev pub one : Bool → ℕ
one true = 1
one false = 0

-- how often a kind stands in a list
abbrev pub count : Exchange → List Exchange → ℕ
count k [] = 0
count k (j ∷ js) = one (number j == number k) + count k js

-- how often a kind stands there for a card
abbrev pub times : Exchange → ℕ → List (Exchange × ℕ) → ℕ
times k c [] = 0
times k c (e ∷ es) = (if c == e.1 then one (number e.0 == number k) else 0) + times k c es

-- how often among what these passes won
abbrev pub times_in : Exchange → ℕ → List View → ℕ
times_in k c [] = 0
times_in k c (v ∷ vs) = times k c v.won + times_in k c vs

abbrev pub total : Exchange → ℕ → TableState → ℕ
total k c s = times_in k c s.views

-- what a call that found this adds to what its pass won
abbrev pub won_by : Call → ℕ → List (Exchange × ℕ)
won_by (call.Claim c q) n = if_won (n == c) exchange.Claim c
won_by (call.IFlag c p from) n = if_won (n == packed from) exchange.IFlag c
won_by (call.IChild c p l replaces right) n = if_won (n == linked l) exchange.IChild c
won_by (call.IUnflag c p) n = if_won (n == iflag c) exchange.IUnflag c
won_by (call.DFlag c gp from) n = if_won (n == packed from) exchange.DFlag c
won_by (call.Mark c p was) n = if_won (n == was) exchange.Mark c
won_by (call.DChild c gp p y right) n = if_won (n == linked p) exchange.DChild c
won_by (call.DUnflag c gp) n = if_won (n == dflag c) exchange.DUnflag c
won_by (call.Backtrack c gp) n = if_won (n == dflag c) exchange.Backtrack c
won_by _ n = []

claim_won : (b : Bool) (c : ℕ) (q : NewNode) (v : View) → (after_claim b c q v).won ≡ if_won b exchange.Claim c ++ v.won
claim_won true c q v = refl
claim_won false c q v = refl

flag_won : (b : Bool) (new : Fact) (x : ℕ) (u : Update) (v : View) → (after_flag b new x u v).won ≡ v.won
flag_won true new x u v = refl
flag_won false new x u v = refl

mark_won : (b : Bool) (c x : ℕ) (u : Update) (v : View) → (after_mark b c x u v).won ≡ v.won
mark_won true c x u v = refl
mark_won false c x u v = by (is_mark_of c u.state u.card)
  where
    by : (b : Bool) → (if b then with_fact (fact.Marked c) v else unmarking c x u v).won ≡ v.won
    by true = refl
    by false = refl

pub after_won : (c : Call) (n : ℕ) (v : View) → (after c n v).won ≡ won_by c n ++ v.won
after_won (call.Claim c q) n v = claim_won (n == c) c q v
after_won (call.IFlag c p from) n v = ap (λ ws. if_won (n == packed from) exchange.IFlag c ++ ws) (flag_won (n == packed from) (fact.IFlagged c) p (unpacked n) v)
after_won (call.DFlag c gp from) n v = ap (λ ws. if_won (n == packed from) exchange.DFlag c ++ ws) (flag_won (n == packed from) (fact.DFlagged c) gp (unpacked n) v)
after_won (call.Mark c p was) n v = ap (λ ws. if_won (n == was) exchange.Mark c ++ ws) (mark_won (n == was) c p (unpacked n) v)
after_won _ n v = refl

pub times_append : (k : Exchange) (c : ℕ) (a b : List (Exchange × ℕ)) → times k c (a ++ b) ≡ times k c a + times k c b
times_append k c [] b = omega arith
times_append k c (e ∷ es) b = let h = times_append k c es b in omega arith

in_append : (k : Exchange) (c : ℕ) (a b : List View) → times_in k c (a ++ b) ≡ times_in k c a + times_in k c b
in_append k c [] b = omega arith
in_append k c (v ∷ vs) b = let h = in_append k c vs b in omega arith

pub count_append : (k : Exchange) (a b : List Exchange) → count k (a ++ b) ≡ count k a + count k b
count_append k [] b = omega arith
count_append k (j ∷ js) b = let h = count_append k js b in omega arith

-- the sum where another view is in a seat
set_total : (k : Exchange) (c : ℕ) (vs : List View) (i : ℕ) (v w : View) → get_elem? vs i ≡ some v
    → times_in k c (set vs i w) + times k c v.won ≡ times_in k c vs + times k c w.won
set_total k c [] i v w e = absurd (some-ne-none v (sym e))
set_total k c (x ∷ vs) zero v w e = let same = ap (λ (u : View). times k c u.won) (some-injective x v e) in omega arith
set_total k c (x ∷ vs) (suc i) v w e = let h = set_total k c vs i v w e in omega arith

-- what a call adds to it, whatever it is told that it found
pub call_total : (k : Exchange) (d : ℕ) (views : List View) (id : ℕ) (v : View) (c : Call) (n : ℕ) → get_elem? views id ≡ some v
    → times_in k d (set views id (after c n v)) ≡ times_in k d views + times k d (won_by c n)
call_total k d views id v c n here =
    let there = set_total k d views id v (after c n v) here in
    let new = ap (times k d) (after_won c n v) ∙ times_append k d (won_by c n) v.won in
    omega arith

-- a win of another kind is none
pub other_kind : (b : Bool) (k j : Exchange) (c d : ℕ) → (number k == number j) ≡ false → times j d (if_won b k c) ≡ 0
other_kind false k j c d is = refl
other_kind true k j c d is = by (d == c)
  where
    by : (b : Bool) → (if b then one (number k == number j) else 0) + 0 ≡ 0
    by true = ap (λ b. one b + 0) is
    by false = refl

-- what a turn adds to it
abbrev pub turn_won : TableState → Turn → List (Exchange × ℕ)
turn_won s (Makes id c) = won_by c (found_by s c)
turn_won s _ = []

pub turn_total : (k : Exchange) (d : ℕ) (plan : TablePlan) (s : TableState) (t : Turn) (s' : TableState) → TableTurns plan s t s' → total k d s' ≡ total k d s + times k d (turn_won s t)
turn_total k d plan s (Makes id c) s' turn =
    ap (λ (x : TableState). total k d x) turn.gives ∙ call_total k d s.views id turn.view c (found_by s c) turn.there
turn_total k d plan s (Splits id chosen) s' turn =
    let v = turn.view in
    let left = set_total k d s.views id v (left_view chosen v) turn.there in
    let more = in_append k d (set s.views id (left_view chosen v)) (right_view chosen v ∷ []) in
    ap (λ (x : TableState). total k d x) turn.gives ∙ omega arith
turn_total k d plan s (Joins id other) s' turn =
    let v = turn.view in
    let w = turn.view' in
    let both = joined_view v w in
    let first = set_total k d s.views id v both turn.there in
    let second = set_total k d (set s.views id both) other w spent_view (set_else s.views id other both (λ e. turn.apart (sym e)) ∙ turn.there') in
    let parts = times_append k d v.won w.won in
    ap (λ (x : TableState). total k d x) turn.gives ∙ omega arith

single : (b : Bool) (k : Exchange) (c : ℕ) (j : Exchange) (d : ℕ) → times j d (if_won b k c) ≡ count j (if b then win_for (Some c) k d else [])
single false k c j d = refl
single true k c j d = by (d == c)
  where
    by : (b : Bool) → (if b then one (number k == number j) else 0) + 0 ≡ count j (if b then k ∷ [] else [])
    by true = refl
    by false = refl

-- a claim wins nothing for its card
no_claim : (b : Bool) (k : Exchange) (c d : ℕ) → 0 < number k → times k d (if_won b exchange.Claim c) ≡ count k (if b then [] else [])
no_claim false k c d more = refl
no_claim true k c d more = by (d == c)
  where
    apart : (n : ℕ) → 0 < n → (0 == n) ≡ false
    apart n h = ne_eqb 0 n (λ e. omega arith)

    by : (b : Bool) → (if b then one (0 == number k) else 0) + 0 ≡ 0
    by true = ap (λ b. one b + 0) (apart (number k) more)
    by false = refl

call_counts : (k : Exchange) → 0 < number k → (c : Call) (d n : ℕ) → times k d (won_by c n) ≡ count k (if is_won (atomic_of c) n then win_of c d else [])
call_counts k more (call.Claim c q) d n = no_claim (n == c) k c d more
call_counts k more (call.IFlag c p from) d n = single (n == packed from) exchange.IFlag c k d
call_counts k more (call.IChild c p l replaces right) d n = single (n == linked l) exchange.IChild c k d
call_counts k more (call.IUnflag c p) d n = single (n == iflag c) exchange.IUnflag c k d
call_counts k more (call.DFlag c gp from) d n = single (n == packed from) exchange.DFlag c k d
call_counts k more (call.Mark c p was) d n = single (n == was) exchange.Mark c k d
call_counts k more (call.DChild c gp p y right) d n = single (n == linked p) exchange.DChild c k d
call_counts k more (call.DUnflag c gp) d n = single (n == dflag c) exchange.DUnflag c k d
call_counts k more (call.Backtrack c gp) d n = single (n == dflag c) exchange.Backtrack c k d
call_counts k more _ d n = refl

pub turn_counts : (k : Exchange) → 0 < number k → (s : TableState) (t : Turn) (d : ℕ) → times k d (turn_won s t) ≡ count k (turn_wins s t d)
turn_counts k more s (Makes id c) d = call_counts k more c d (found_by s c)
turn_counts k more s (Splits id chosen) d = refl
turn_counts k more s (Joins id other) d = refl

-- what a run adds to it
pub run_total : (k : Exchange) → 0 < number k → (d : ℕ) (plan : TablePlan) (s : TableState) (turns : List Turn) (s' : TableState) (run : TableRun plan s turns s')
    → total k d s' ≡ total k d s + count k (run_wins plan s turns s' run d)
run_total k more d plan s [] s' run = let same = ap (total k d) run in omega arith
run_total k more d plan s (t ∷ ts) s' run =
    let turn = turn_total k d plan s t run.0 run.1 in
    let is = turn_counts k more s t d in
    let rest = run_total k more d plan run.0 ts s' run.2 in
    let parts = count_append k (turn_wins s t d) (run_wins plan run.0 ts s' run.2 d) in
    omega arith
