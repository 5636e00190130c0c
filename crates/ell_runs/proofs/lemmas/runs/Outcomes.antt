use Rattle.std.proofs.Common.{◌≡◌, ℕ, ◌+◌, ◌<◌, ◌==◌, if◌then◌else◌, Bool, true, false, None, ◌∷◌, get_or, set, length, refl, sym, ap, ◌∙◌, subst, inl, inr, true≢false, eq-eqb, get_or-set_same, arith}
use Rattle.ell_core.proofs.lemmas.keeping.Puts.{putting_hand}
use Rattle.std.proofs.lemmas.Bool.{cases_eq, cases_lt, false≢true}
use mathlib.Core.Option.{some}
use lib.ListN.{get_elem?}
use lib.Seq.{set-get_or}
use Rattle.ell_runs.proofs.lemmas.words.Lists.{set_else}
use Rattle.ell_word.specs.Node.{IsInternal, card}
use Rattle.ell_word.specs.Word.{packed, unpacked}
use Rattle.ell_word.specs.declared.link.Link.{Link}
use Rattle.ell_word.specs.declared.update.Update.{Update}
use Rattle.ell_ops.specs.declared.op.Op.TheVariants.{Delete}
use Rattle.ell_core.specs.declared.view.Seen.{Seen}
use Rattle.ell_core.specs.declared.exchange.Exchange.{Exchange}
use Rattle.ell_core.specs.declared.exchange.Exchange.TheVariants as exchange
use Rattle.ell_core.specs.declared.fact.Fact.{Fact}
use Rattle.ell_core.specs.declared.fact.Fact.TheVariants as fact
use Rattle.ell_layout.specs.declared.field.Field.{Field}
use Rattle.ell_layout.specs.declared.field.Field.TheVariants as field
use Rattle.ell_core.specs.state.Facts.{card_of_fact}
use Rattle.ell_layout.specs.Layout.{listed}
use Rattle.ell_layout.specs.Words.{table_word}
use Rattle.ell_core.specs.state.Machine.{Worker}
use Rattle.ell_layout.specs.Cards.{iflag, dflag, marked}
use Rattle.ell_core.specs.soundness.Sound.{IsInHand}
use Rattle.ell_core.specs.history.Stages.{Stage, Stages, Born, allows, is_delete, is_marked, is_unmarkable, insert_open, delete_open, insert_won, delete_won, waits}
use Rattle.ell_core.specs.history.Invariant.{IsInnerBorn, Invariant}
use Rattle.ell_core.specs.history.Later.{wins_of}
use Rattle.ell_layout.proofs.lemmas.Listed.{words_are_listed}
use Rattle.ell_layout.proofs.lemmas.Writes.{update_at_node}
use Rattle.ell_core.proofs.lemmas.outcomes.Decide.{some_not_none}
use Rattle.ell_core.proofs.lemmas.stages.Waiting.{waits-wins, insert_won-settled, delete_won-settled}
use Rattle.ell_core.proofs.lemmas.following.waiting.Cards.{one_hand, hand_waits}
use Rattle.ell_runs.specs.declared.call.Call.{Call}
use Rattle.ell_runs.specs.declared.call.Call.TheVariants as call
use Rattle.ell_runs.specs.declared.call.NewNode.{NewNode}
use Rattle.ell_runs.specs.declared.view.Told.TheVariants.{Met, Info}
use Rattle.ell_runs.specs.declared.view.View.{View}
use Rattle.ell_runs.specs.Plans.{TablePlan}
use Rattle.ell_runs.specs.Views.{Knows}
use Rattle.ell_runs.specs.Guards.{MayFill, IsFilled}
use Rattle.ell_runs.specs.Laws.{machine_of_table}
use Rattle.ell_runs.specs.Changes.{if_won, exchanged, after_flag, with_fact, unmarking, is_mark_of, after_mark}
use Rattle.ell_runs.specs.Calls.{word_of, atomic_of, left_by, is_won, after, May}
use Rattle.ell_runs.specs.States.{TableState, seat_worker}
use Rattle.ell_runs.specs.TurnEffects.{own_words}
use Rattle.ell_runs.specs.Machines.{HasMachine}
use Rattle.ell_runs.specs.Turns.{Makes, found_by, state_after}
use Rattle.ell_runs.specs.Starts.{IsReached}
use Rattle.ell_runs.specs.Tellings.{told_of, NoOtherOutcome}
use Rattle.ell_runs.proofs.lemmas.seats.Seats.{set_there, mine_is}
use Rattle.ell_runs.proofs.lemmas.views.Facts.{knows_new, facts_by_more}
use Rattle.ell_runs.proofs.lemmas.words.Updates.{is_mark}
use Rattle.ell_runs.proofs.lemmas.own_words.OwnTree.{update_same}
use Rattle.ell_runs.proofs.lemmas.own_words.OwnWords.{same_card}
use Rattle.ell_runs.proofs.lemmas.runs.OfReached.{steps_stay_inside}
use Rattle.ell_runs.specs.Touching.{forgets}
use Rattle.ell_runs.proofs.lemmas.runs.Claims.{after_told}
use Rattle.ell_runs.proofs.lemmas.runs.Met.{some_same, IsPassed, searches_are_met}
use Rattle.ell_runs.proofs.lemmas.runs.Reaching.{reached_on, reached_kept}
use Rattle.ell_runs.proofs.lemmas.runs.Won.{number, one, count, times, total, won_by, other_kind, call_total}
use Rattle.ell_runs.proofs.lemmas.runs.Counts.{Counts, wins_are_counted, ClaimsCount, claims_are_counted}
use Rattle.ell_runs.proofs.lemmas.words.Addresses.{update_address}

-- the update word that a machine has at a node that came into the tree is the table's
pub listed_update : (plan : TablePlan) (s : TableState) (r : HasMachine plan s) (x : ℕ) → IsInternal x → Born r.stages x
    → get_or s.words (update_address x) 0 ≡ r.words.update x
listed_update plan s r x inner born =
    sym (update_at_node (own_words s) x inner ∙ words_are_listed s.words (card x) field.Update)
    ∙ update_same r.words (own_words s) r.stages r.invariant.words (same_card plan s r) x inner born

-- a win is told once
own_time : (b : Bool) (k : Exchange) (c : ℕ) → times k c (if_won b k c) ≡ one b
own_time false k c = refl
own_time true k c = ap (λ (b : Bool). (if b then one (number k == number k) else 0) + 0) (eq-eqb c c refl)
    ∙ ap (λ b. one b + 0) (eq-eqb (number k) (number k) refl)

pub one_is : (a b : Bool) → one a ≡ one b → a ≡ b
one_is true true e = refl
one_is true false e = absurd (omega arith)
one_is false true e = absurd (omega arith)
one_is false false e = refl

-- a pass that knows a fact of a card knows a win of it: it was told once
pub known_once : (plan : TablePlan) (s : TableState) → Counts plan s → (id : ℕ) (w : View) → get_elem? s.views id ≡ some w
    → (k : Exchange) → 0 < number k → (f : Fact) → ((st : Stage) → allows f st ≡ true → count k (wins_of st) ≡ 1) → Knows w f → total k (card_of_fact f) s ≡ 1
known_once plan s h id w there k more f tells knows =
    h.counted k more (card_of_fact f) ∙ tells (h.stages (card_of_fact f))
    ((h.invariant.workers.each id).facts f (ap (λ (u : Worker). u.knows f) (mine_is plan s h.machine id w there) ∙ knows))

-- two states of one claim word have the same claims
claims_alike : (first : ℕ) (s s' : TableState) → get_or s'.words 0 0 ≡ get_or s.words 0 0 → ClaimsCount first s → ClaimsCount first s' → (c : ℕ)
    → total exchange.Claim c s' ≡ total exchange.Claim c s
claims_alike first s s' same h g c = elim (cases_lt first c) [
  | inl above ↦ elim (cases_lt c (get_or s.words 0 0)) [
    | inl below ↦ g.claimed c above (omega arith) ∙ sym (h.claimed c above below)
    | inr past ↦ g.high c (omega arith) ∙ sym (h.high c past)
  ]
  | inr low ↦ g.low c low ∙ sym (h.low c low)
]

changed-once : (c : ℕ) (st : Stage) → allows (fact.IChanged c) st ≡ true → count exchange.IChild (wins_of st) ≡ 1
changed-once c st h = grind arith

over-once : (c : ℕ) (st : Stage) → allows (fact.IOver c) st ≡ true → count exchange.IUnflag (wins_of st) ≡ 1
over-once c st h = grind arith

marked-once : (c : ℕ) (st : Stage) → allows (fact.Marked c) st ≡ true → count exchange.Mark (wins_of st) ≡ 1
marked-once c st h = grind arith

cut-once : (c : ℕ) (st : Stage) → allows (fact.Cut c) st ≡ true → count exchange.DChild (wins_of st) ≡ 1
cut-once c st h = grind arith

gone-once : (c : ℕ) (st : Stage) → allows (fact.DOver c) st ≡ true → count exchange.DUnflag (wins_of st) ≡ 1
gone-once c st h = grind arith

backed-once : (c : ℕ) (st : Stage) → allows (fact.Backed c) st ≡ true → count exchange.Backtrack (wins_of st) ≡ 1
backed-once c st h = grind arith

marked-apart : (st : Stage) → is_marked st ≡ true → is_unmarkable st ≡ true → ⊥
marked-apart st h g = grind arith

marked-delete : (st : Stage) → is_marked st ≡ true → is_delete st ≡ true
marked-delete st h = grind arith

unmarkable-delete : (st : Stage) → is_unmarkable st ≡ true → is_delete st ≡ true
unmarkable-delete st h = grind arith

waits-no_insert : (st : Stage) → waits st ≡ true → insert_open st ≡ true → ⊥
waits-no_insert st h g = grind arith

waits-no_delete : (st : Stage) → waits st ≡ true → delete_open st ≡ true → ⊥
waits-no_delete st h g = grind arith

insert-opens : (st : Stage) → insert_won st ≡ true → count exchange.IUnflag (wins_of st) ≡ 0 → insert_open st ≡ true
insert-opens st h g = grind arith

delete-opens : (st : Stage) → delete_won st ≡ true → count exchange.DUnflag (wins_of st) ≡ 0 → count exchange.Backtrack (wins_of st) ≡ 0 → delete_open st ≡ true
delete-opens st h g f = grind arith

-- what a pass knows of a card holds of its stage
known_holds : (plan : TablePlan) (s : TableState) (r : HasMachine plan s) (id : ℕ) (w : View) → get_elem? s.views id ≡ some w → (f : Fact) → Knows w f
    → allows f (r.stages (card_of_fact f)) ≡ true
known_holds plan s r id w there f knows =
    (r.invariant.workers.each id).facts f (ap (λ (u : Worker). u.knows f) (mine_is plan s r id w there) ∙ knows)

-- two answers are alike that can't be apart
alike_by : (a b : Bool) → (a ≡ false → b ≡ true → ⊥) → (a ≡ true → b ≡ false → ⊥) → a ≡ b
alike_by true true h g = refl
alike_by false false h g = refl
alike_by false true h g = absurd (h refl refl)
alike_by true false h g = absurd (g refl refl)

-- an exchange that the pass in a seat may make, and its word told otherwise
module _ (plan : TablePlan) (s : TableState) (h : IsReached plan s) (id : ℕ) (v : View) (here : get_elem? s.views id ≡ some v)
    (c : Call) (may : May plan c v) (n : ℕ) (on : IsReached plan (told_of s id v c n)) where
  -- where it leads
  pub went : IsReached plan (state_after s id v c)
  went = reached_on plan s h (Makes id c) (state_after s id v c) (record { view = v; there = here; may = may; gives = refl })

  pub went_counts : Counts plan (state_after s id v c)
  went_counts = wins_are_counted plan (state_after s id v c) went

  pub told_counts : Counts plan (told_of s id v c n)
  told_counts = wins_are_counted plan (told_of s id v c n) on

  pub went_there : get_elem? (state_after s id v c).views id ≡ some (after c (found_by s c) v)
  went_there = set_there s.views id (after c (found_by s c) v) v here

  pub told_there : get_elem? (told_of s id v c n).views id ≡ some (after c n v)
  told_there = set_there s.views id (after c n v) v here

  -- its win is counted where it was told, and else not
  pub went_total : (k : Exchange) (d : ℕ) (b : Bool) → won_by c (found_by s c) ≡ if_won b k d → total k d (state_after s id v c) ≡ total k d s + one b
  went_total k d b is = call_total k d s.views id v c (found_by s c) here ∙ ap (λ m. total k d s + m) (ap (times k d) is ∙ own_time b k d)

  pub told_total : (k : Exchange) (d : ℕ) (b : Bool) → won_by c n ≡ if_won b k d → total k d (told_of s id v c n) ≡ total k d s + one b
  told_total k d b is = call_total k d s.views id v c n here ∙ ap (λ m. total k d s + m) (ap (times k d) is ∙ own_time b k d)

  -- an exchange that teaches the same fact whether it is won or lost, and can be won for the card once, is told as it went
  pub taught_alike : (k : Exchange) → 0 < number k → (f : Fact) → ((st : Stage) → allows f st ≡ true → count k (wins_of st) ≡ 1)
      → won_by c (found_by s c) ≡ if_won (is_won (atomic_of c) (found_by s c)) k (card_of_fact f) → won_by c n ≡ if_won (is_won (atomic_of c) n) k (card_of_fact f)
      → Knows (after c (found_by s c) v) f → Knows (after c n v) f → is_won (atomic_of c) n ≡ is_won (atomic_of c) (found_by s c)
  taught_alike k more f tells found told knows knew =
      let a = known_once plan (state_after s id v c) went_counts id (after c (found_by s c) v) went_there k more f tells knows in
      let b = known_once plan (told_of s id v c n) told_counts id (after c n v) told_there k more f tells knew in
      let x = went_total k (card_of_fact f) (is_won (atomic_of c) (found_by s c)) found in
      let y = told_total k (card_of_fact f) (is_won (atomic_of c) n) told in
      one_is (is_won (atomic_of c) n) (is_won (atomic_of c) (found_by s c)) (omega arith)

-- a flag that the pass in a seat may set for its card in hand at a node, and its word told otherwise
module _ (plan : TablePlan) (s : TableState) (h : IsReached plan s) (id : ℕ) (v : View) (here : get_elem? s.views id ≡ some v)
    (c : Call) (may : May plan c v) (n : ℕ) (on : IsReached plan (told_of s id v c n))
    (d : ℕ) (hand : MayFill v d) (x : ℕ) (passed : IsPassed v x) (at : word_of c ≡ update_address x) (keeps : forgets c ≡ false) where
  abbrev before : HasMachine plan s
  before = reached_kept plan s h

  abbrev T : TableState
  T = told_of s id v c n

  abbrev w : View
  w = after c n v

  there : get_elem? T.views id ≡ some w
  there = told_there plan s h id v here c may n on

  -- the card waits
  waits_there : (r : HasMachine plan s) (stages : Stages) → Invariant (machine_of_table plan s r) stages → waits (stages d) ≡ true
  waits_there r stages invariant =
      let same = mine_is plan s r id v here in
      hand_waits r.words stages (seat_worker (get_elem? s.views id)) d (invariant.workers.each id)
      (ap (λ (u : Worker). u.card) same ∙ hand.holds) (ap (λ (u : Worker). u.flagged) same ∙ hand.unflagged)

  -- so nothing was won for it
  none_won : (k : Exchange) → 0 < number k → total k d s ≡ 0
  none_won k more =
      let counts = wins_are_counted plan s h in
      counts.counted k more d ∙ ap (count k) (waits-wins (counts.stages d) (waits_there counts.machine counts.stages counts.invariant))

  -- nor told as won, but what the call says
  none_told : (b : Bool) (j k : Exchange) → 0 < number k → won_by c n ≡ if_won b j d → (number j == number k) ≡ false → total k d T ≡ 0
  none_told b j k more is apart =
      let more_by = call_total k d s.views id v c n here in
      let other = ap (times k d) is ∙ other_kind b j k d d apart in
      let none = none_won k more in
      omega arith

  -- the word that the step leaves
  abbrev left : ℕ
  left = left_by (atomic_of c) (found_by s c)

  -- the machine has it too, at a node that was met
  flag_listed : (r : HasMachine plan T) → left ≡ r.words.update x
  flag_listed r =
      let born = (r.views id w there).entries (Met x) (after_told c keeps n v (Met x) passed.met) in
      sym (get_or-set_same s.words (word_of c) left 0 (steps_stay_inside plan s h id v c here may))
      ∙ (ap (λ i. get_or T.words i 0) at ∙ listed_update plan T r x passed.inner born)

  -- where it was discarded, it is in nobody's hand
  in_no_hand : (r : HasMachine plan T) → w.worker.card ≡ None → IsInHand (machine_of_table plan T r) d → ⊥
  in_no_hand r discarded held = elim (cases_eq held.worker id) [
    | inl e ↦ some_not_none (sym (ap (λ i. (seat_worker (get_elem? T.views i)).card) e ∙ ap (λ (u : Worker). u.card) (ap seat_worker there)) ∙ held.holds) discarded
    | inr apart ↦ apart (sym (one_hand (machine_of_table plan s before) before.stages before.invariant id held.worker d
        (record { holds = ap (λ (u : Worker). u.card) (mine_is plan s before id v here) ∙ hand.holds; unflagged = ap (λ (u : Worker). u.flagged) (mine_is plan s before id v here) ∙ hand.unflagged })
        (ap (λ o. (seat_worker o).card) (sym (set_else s.views id held.worker w apart)) ∙ held.holds)))
  ]

  -- a card that is filled goes where the machine says, in the table and after it too, if the step left its word
  goes_there : (r : HasMachine plan T) (F : Field) → IsFilled v → left ≡ found_by s c → waits (r.stages d) ≡ false → table_word r.words d F ≡ table_word before.words d F
  goes_there r F filled same calm =
      let held = (before.views id v here).hand d hand.holds hand.unflagged in
      let words : T.words ≡ s.words = ap (set s.words (word_of c)) same ∙ set-get_or s.words (word_of c) 0 in
      sym (r.settled d F calm) ∙ (ap (λ ws. listed ws d F) words ∙ (held.table F ∙ (filled F ∙ sym (held.machine F))))

  -- the node came into the tree before it
  born_before : Born before.stages x
  born_before = (before.views id v here).entries (Met x) passed.met

  -- where the flag was lost and told as won, its card would have it at that node, which has it not
  flag_before : (counts : Counts plan T) (F : Field) (flag : ℕ) → IsFilled v → left ≡ found_by s c → waits (counts.machine.stages d) ≡ false
      → table_word before.words d F ≡ x → counts.machine.words.update (table_word counts.machine.words d F) ≡ flag → before.words.update x ≡ flag
  flag_before counts F flag filled same calm goes stands =
      sym (listed_update plan s before x passed.inner born_before) ∙ (sym (ap (λ i. get_or s.words i 0) at)
      ∙ (sym same ∙ (flag_listed counts.machine ∙ (ap counts.machine.words.update (sym (goes_there counts.machine F filled same calm ∙ goes)) ∙ stands))))

  -- what the pass knows after it holds of all stages that the machine may have
  knows_then : (counts : Counts plan T) (stages : Stages) → Invariant (machine_of_table plan T counts.machine) stages → (f : Fact) → Knows w f
      → allows f (stages (card_of_fact f)) ≡ true
  knows_then counts stages invariant f knows =
      (invariant.workers.each id).facts f (ap (λ (u : Worker). u.knows f) (mine_is plan T counts.machine id w there) ∙ knows)

module _ (plan : TablePlan) (s : TableState) (h : IsReached plan s) (id : ℕ) (v : View) (here : get_elem? s.views id ≡ some v) where
  abbrev Alike : Call → Type 0
  Alike c = May plan c v → (n : ℕ) → IsReached plan (told_of s id v c n) → is_won (atomic_of c) n ≡ is_won (atomic_of c) (found_by s c)

  ichild_alike : (c p : ℕ) (l : Link) (replaces right : Bool) → Alike (call.IChild c p l replaces right)
  ichild_alike c p l replaces right may n on = taught_alike plan s h id v here (call.IChild c p l replaces right) may n on exchange.IChild (omega arith)
      (fact.IChanged c) (changed-once c) refl refl (knows_new (fact.IChanged c) v.worker.knows) (knows_new (fact.IChanged c) v.worker.knows)

  iunflag_alike : (c p : ℕ) → Alike (call.IUnflag c p)
  iunflag_alike c p may n on = taught_alike plan s h id v here (call.IUnflag c p) may n on exchange.IUnflag (omega arith)
      (fact.IOver c) (over-once c) refl refl (knows_new (fact.IOver c) v.worker.knows) (knows_new (fact.IOver c) v.worker.knows)

  dchild_alike : (c gp : ℕ) (p : Link) (y : ℕ) (right : Bool) → Alike (call.DChild c gp p y right)
  dchild_alike c gp p y right may n on = taught_alike plan s h id v here (call.DChild c gp p y right) may n on exchange.DChild (omega arith)
      (fact.Cut c) (cut-once c) refl refl (knows_new (fact.Cut c) v.worker.knows) (knows_new (fact.Cut c) v.worker.knows)

  dunflag_alike : (c gp : ℕ) → Alike (call.DUnflag c gp)
  dunflag_alike c gp may n on = taught_alike plan s h id v here (call.DUnflag c gp) may n on exchange.DUnflag (omega arith)
      (fact.DOver c) (gone-once c) refl refl (knows_new (fact.DOver c) v.worker.knows) (knows_new (fact.DOver c) v.worker.knows)

  backtrack_alike : (c gp : ℕ) → Alike (call.Backtrack c gp)
  backtrack_alike c gp may n on = taught_alike plan s h id v here (call.Backtrack c gp) may n on exchange.Backtrack (omega arith)
      (fact.Backed c) (backed-once c) refl refl (knows_new (fact.Backed c) v.worker.knows) (knows_new (fact.Backed c) v.worker.knows)

  -- a claim: it is counted by the claim word
  claim_alike : (c : ℕ) (q : NewNode) → Alike (call.Claim c q)
  claim_alike c q may n on =
      let a = went_total plan s h id v here (call.Claim c q) may n on exchange.Claim c (found_by s (call.Claim c q) == c) refl in
      let b = told_total plan s h id v here (call.Claim c q) may n on exchange.Claim c (n == c) refl in
      let same = claims_alike (length plan.start) (state_after s id v (call.Claim c q)) (told_of s id v (call.Claim c q) n) refl
      (claims_are_counted plan (state_after s id v (call.Claim c q)) (went plan s h id v here (call.Claim c q) may n on))
      (claims_are_counted plan (told_of s id v (call.Claim c q) n) on) c in
      one_is (n == c) (found_by s (call.Claim c q) == c) (omega arith)

  -- a mark that is told: it is known, or the card is known unmarkable
  abbrev KnowsOf : View → ℕ → Bool → Type 0
  KnowsOf w c true = Knows w (fact.Marked c)
  KnowsOf w c false = Knows w (fact.Unmarkable c)

  mark_teaches : (c p was n : ℕ) → KnowsOf (after (call.Mark c p was) n v) c (if n == was then true else n == marked c)
  mark_teaches c p was n = by (n == was)
    where
      lost : (b : Bool) → b ≡ (n == marked c) → KnowsOf (if b then with_fact (fact.Marked c) v else unmarking c p (unpacked n) v) c b
      lost true e = knows_new (fact.Marked c) v.worker.knows
      lost false e = facts_by_more (unpacked n).state (unpacked n).card (fact.Unmarkable c ∷ v.worker.knows) (fact.Unmarkable c) (knows_new (fact.Unmarkable c) v.worker.knows)

      by : (b : Bool) → KnowsOf (exchanged (if_won b exchange.Mark c) n (after_mark b c p (unpacked n) v)) c (if b then true else n == marked c)
      by true = knows_new (fact.Marked c) v.worker.knows
      by false = subst (KnowsOf (after_mark false c p (unpacked n) v) c) (is_mark c n) (lost (is_mark_of c (unpacked n).state (unpacked n).card) (is_mark c n))

  mark_alike : (c p was : ℕ) → Alike (call.Mark c p was)
  mark_alike c p was may n on = alike_by (n == was) (found == was) (won_lost (n == marked c) refl) (lost_won (found == marked c) refl)
    where
      found : ℕ
      found = found_by s (call.Mark c p was)

      T : TableState
      T = told_of s id v (call.Mark c p was) n

      r : HasMachine plan T
      r = reached_kept plan T on

      there : get_elem? T.views id ≡ some (after (call.Mark c p was) n v)
      there = told_there plan s h id v here (call.Mark c p was) may n on

      parent : r.words.p c ≡ p
      parent = ((r.views id (after (call.Mark c p was) n v) there).entries (Info c field.P p) (after_told (call.Mark c p was) refl n v (Info c field.P p) may.0.place)).2

      -- the word at the parent
      stands : is_delete (r.stages c) ≡ true → (if found == was then marked c else found) ≡ r.words.update p
      stands deletes =
          let node = subst (IsInnerBorn r.stages) parent ((r.invariant.words.cards c).delete deletes).parent in
          sym (get_or-set_same s.words (update_address p) (if found == was then marked c else found) 0
          (steps_stay_inside plan s h id v (call.Mark c p was) here may)) ∙ listed_update plan T r p node.inner node.born

      knows_told : (b m : Bool) → (n == was) ≡ b → (n == marked c) ≡ m → KnowsOf (after (call.Mark c p was) n v) c (if b then true else m)
      knows_told b m e f = subst (λ (t : Bool × Bool). KnowsOf (after (call.Mark c p was) n v) c (if t.0 then true else t.1)) (λ i. (e i, f i)) (mark_teaches c p was n)

      knows_went : (b m : Bool) → (found == was) ≡ b → (found == marked c) ≡ m → KnowsOf (after (call.Mark c p was) found v) c (if b then true else m)
      knows_went b m e f = subst (λ (t : Bool × Bool). KnowsOf (after (call.Mark c p was) found v) c (if t.0 then true else t.1)) (λ i. (e i, f i)) (mark_teaches c p was found)

      went_once : Knows (after (call.Mark c p was) found v) (fact.Marked c) → total exchange.Mark c s + one (found == was) ≡ 1
      went_once k = sym (went_total plan s h id v here (call.Mark c p was) may n on exchange.Mark c (found == was) refl)
          ∙ known_once plan (state_after s id v (call.Mark c p was)) (went_counts plan s h id v here (call.Mark c p was) may n on) id
          (after (call.Mark c p was) found v) (went_there plan s h id v here (call.Mark c p was) may n on) exchange.Mark (omega arith) (fact.Marked c) (marked-once c) k

      told_once : Knows (after (call.Mark c p was) n v) (fact.Marked c) → total exchange.Mark c s + one (n == was) ≡ 1
      told_once k = sym (told_total plan s h id v here (call.Mark c p was) may n on exchange.Mark c (n == was) refl)
          ∙ known_once plan T (told_counts plan s h id v here (call.Mark c p was) may n on) id
          (after (call.Mark c p was) n v) there exchange.Mark (omega arith) (fact.Marked c) (marked-once c) k

      -- won, told as lost
      won_lost : (m : Bool) → (n == marked c) ≡ m → (n == was) ≡ false → (found == was) ≡ true → ⊥
      won_lost true f e g =
          let a = told_once (knows_told false true e f) in
          let b = went_once (knows_went true (found == marked c) g refl) in
          let x = ap one e in let y = ap one g in absurd (omega arith)
      won_lost false f e g =
          let un = known_holds plan T r id (after (call.Mark c p was) n v) there (fact.Unmarkable c) (knows_told false false e f) in
          let deletes = unmarkable-delete (r.stages c) un in
          let node = subst (IsInnerBorn r.stages) parent ((r.invariant.words.cards c).delete deletes).parent in
          marked-apart (r.stages c) ((r.invariant.words.updates p node.inner node.born).marked c
          (sym (stands deletes) ∙ ap (λ (b : Bool). if b then marked c else found) g)).0 un

      -- lost, told as won
      lost_won : (m : Bool) → (found == marked c) ≡ m → (n == was) ≡ true → (found == was) ≡ false → ⊥
      lost_won true f e g =
          let a = told_once (knows_told true (n == marked c) e refl) in
          let b = went_once (knows_went false true g f) in
          let x = ap one e in let y = ap one g in absurd (omega arith)
      lost_won false f e g =
          let is = known_holds plan T r id (after (call.Mark c p was) n v) there (fact.Marked c) (knows_told true (n == marked c) e refl) in
          let mark = ((r.invariant.words.deletes c).marked is).mark in
          false≢true (sym f ∙ eq-eqb found (marked c)
          (sym (ap (λ (b : Bool). if b then marked c else found) g) ∙ (stands (marked-delete (r.stages c) is) ∙ (ap r.words.update (sym parent) ∙ mark))))

  flag_discarded : (b : Bool) (new : Fact) (x : ℕ) (u : Update) → b ≡ false → (after_flag b new x u v).worker.card ≡ None
  flag_discarded true new x u e = absurd (true≢false e)
  flag_discarded false new x u e = refl

  flag_known : (b : Bool) (new : Fact) (x : ℕ) (u : Update) → b ≡ true → Knows (after_flag b new x u v) new
  flag_known true new x u e = knows_new new v.worker.knows
  flag_known false new x u e = absurd (false≢true e)

  iflag_alike : (c p : ℕ) (from : Update) → Alike (call.IFlag c p from)
  iflag_alike c p from may n on = alike_by (n == packed from) (found_by s i == packed from) won_lost lost_won
    where
      i : Call
      i = call.IFlag c p from

      passed : IsPassed v p
      passed = subst (IsPassed v) may.node ((searches_are_met plan s h id v here).parent may.parent may.behind)

      r : HasMachine plan (told_of s id v i n)
      r = reached_kept plan (told_of s id v i n) on

      won_lost : (n == packed from) ≡ false → (found_by s i == packed from) ≡ true → ⊥
      won_lost e g =
          let there = told_there plan s h id v here i may n on in
          let born = (r.views id (after i n v) there).entries (Met p) (after_told i refl n v (Met p) passed.met) in
          in_no_hand plan s h id v here i may n on c may.may p passed refl refl r (flag_discarded (n == packed from) (fact.IFlagged c) p (unpacked n) e)
          (r.invariant.workers.insert_in_hand c ((r.invariant.words.updates p passed.inner born).iflagged c
          (sym (flag_listed plan s h id v here i may n on c may.may p passed refl refl r) ∙ ap (λ (b : Bool). if b then iflag c else found_by s i) g)).0)

      -- by its search the card goes to that parent
      goes : (q : HasMachine plan s) → q.words.p c ≡ p
      goes q =
          let same = mine_is plan s q id v here in
          let says = putting_hand q.words q.stages _ may.what c may.op may.puts ((q.invariant.workers.each id).unflagged may.op c (ap (λ (u : Worker). u.operation) same ∙ may.busy)
          (ap (λ (u : Worker). u.card) same ∙ may.may.holds) (ap (λ (u : Worker). u.flagged) same ∙ may.may.unflagged)) in
          sym says.node ∙ (ap (λ (k : Seen). k.node) (some_same (sym says.behind ∙ (ap (λ (u : Worker). u.search.parent) same ∙ may.behind))) ∙ may.node)

      lost_won : (n == packed from) ≡ true → (found_by s i == packed from) ≡ false → ⊥
      lost_won e g =
          let q = reached_kept plan s h in
          let counts = told_counts plan s h id v here i may n on in
          let won : (stages : Stages) → Invariant (machine_of_table plan (told_of s id v i n) counts.machine) stages → insert_won (stages c) ≡ true =
          λ stages invariant. knows_then plan s h id v here i may n on c may.may p passed refl refl counts stages invariant
          (fact.IFlagged c) (flag_known (n == packed from) (fact.IFlagged c) p (unpacked n) e) in
          let opens = insert-opens (counts.stages c) (won counts.stages counts.invariant)
          (sym (counts.counted exchange.IUnflag (omega arith) c) ∙ none_told plan s h id v here i may n on c may.may p passed refl refl (n == packed from) exchange.IFlag exchange.IUnflag (omega arith) refl refl) in
          waits-no_insert (q.stages c) (waits_there plan s h id v here i may n on c may.may p passed refl refl q q.stages q.invariant)
          ((q.invariant.words.updates p passed.inner (born_before plan s h id v here i may n on c may.may p passed refl refl)).iflagged c
          (flag_before plan s h id v here i may n on c may.may p passed refl refl counts field.P (iflag c) may.filled
          (ap (λ (b : Bool). if b then iflag c else found_by s i) g) (insert_won-settled (counts.machine.stages c) (won counts.machine.stages counts.machine.invariant))
          (goes q) ((counts.invariant.words.inserts c).flag opens))).0

  dflag_alike : (c gp : ℕ) (from : Update) → Alike (call.DFlag c gp from)
  dflag_alike c gp from may n on = alike_by (n == packed from) (found_by s i == packed from) won_lost lost_won
    where
      i : Call
      i = call.DFlag c gp from

      passed : IsPassed v gp
      passed = subst (IsPassed v) may.node ((searches_are_met plan s h id v here).grandparent may.grandparent may.above)

      r : HasMachine plan (told_of s id v i n)
      r = reached_kept plan (told_of s id v i n) on

      won_lost : (n == packed from) ≡ false → (found_by s i == packed from) ≡ true → ⊥
      won_lost e g =
          let there = told_there plan s h id v here i may n on in
          let born = (r.views id (after i n v) there).entries (Met gp) (after_told i refl n v (Met gp) passed.met) in
          in_no_hand plan s h id v here i may n on c may.may gp passed refl refl r (flag_discarded (n == packed from) (fact.DFlagged c) gp (unpacked n) e)
          (r.invariant.workers.delete_in_hand c ((r.invariant.words.updates gp passed.inner born).dflagged c
          (sym (flag_listed plan s h id v here i may n on c may.may gp passed refl refl r) ∙ ap (λ (b : Bool). if b then dflag c else found_by s i) g)).0)

      -- by its search the card goes to that grandparent
      goes : (q : HasMachine plan s) → q.words.gp c ≡ gp
      goes q =
          let same = mine_is plan s q id v here in
          let says = (q.invariant.workers.each id).unflagged (Delete may.key) c (ap (λ (u : Worker). u.operation) same ∙ may.busy)
          (ap (λ (u : Worker). u.card) same ∙ may.may.holds) (ap (λ (u : Worker). u.flagged) same ∙ may.may.unflagged) in
          sym says.top_node ∙ (ap (λ (k : Seen). k.node) (some_same (sym says.above ∙ (ap (λ (u : Worker). u.search.grandparent) same ∙ may.above))) ∙ may.node)

      lost_won : (n == packed from) ≡ true → (found_by s i == packed from) ≡ false → ⊥
      lost_won e g =
          let q = reached_kept plan s h in
          let counts = told_counts plan s h id v here i may n on in
          let won : (stages : Stages) → Invariant (machine_of_table plan (told_of s id v i n) counts.machine) stages → delete_won (stages c) ≡ true =
          λ stages invariant. knows_then plan s h id v here i may n on c may.may gp passed refl refl counts stages invariant
          (fact.DFlagged c) (flag_known (n == packed from) (fact.DFlagged c) gp (unpacked n) e) in
          let opens = delete-opens (counts.stages c) (won counts.stages counts.invariant)
          (sym (counts.counted exchange.DUnflag (omega arith) c) ∙ none_told plan s h id v here i may n on c may.may gp passed refl refl (n == packed from) exchange.DFlag exchange.DUnflag (omega arith) refl refl)
          (sym (counts.counted exchange.Backtrack (omega arith) c) ∙ none_told plan s h id v here i may n on c may.may gp passed refl refl (n == packed from) exchange.DFlag exchange.Backtrack (omega arith) refl refl) in
          waits-no_delete (q.stages c) (waits_there plan s h id v here i may n on c may.may gp passed refl refl q q.stages q.invariant)
          ((q.invariant.words.updates gp passed.inner (born_before plan s h id v here i may n on c may.may gp passed refl refl)).dflagged c
          (flag_before plan s h id v here i may n on c may.may gp passed refl refl counts field.Gp (dflag c) may.filled
          (ap (λ (b : Bool). if b then dflag c else found_by s i) g) (delete_won-settled (counts.machine.stages c) (won counts.machine.stages counts.machine.invariant))
          (goes q) ((counts.invariant.words.deletes c).flag opens))).0

  -- no call that is no exchange is won
  pub outcomes_alike : (c : Call) → Alike c
  outcomes_alike (call.Claim c q) = claim_alike c q
  outcomes_alike (call.IFlag c p from) = iflag_alike c p from
  outcomes_alike (call.IChild c p l replaces right) = ichild_alike c p l replaces right
  outcomes_alike (call.IUnflag c p) = iunflag_alike c p
  outcomes_alike (call.DFlag c gp from) = dflag_alike c gp from
  outcomes_alike (call.Mark c p was) = mark_alike c p was
  outcomes_alike (call.DChild c gp p y right) = dchild_alike c gp p y right
  outcomes_alike (call.DUnflag c gp) = dunflag_alike c gp
  outcomes_alike (call.Backtrack c gp) = backtrack_alike c gp
  outcomes_alike _ = λ may n on. refl

pub no_other_outcome : NoOtherOutcome
no_other_outcome plan s h id v here c may n other on = other (outcomes_alike plan s h id v here c may n on)
