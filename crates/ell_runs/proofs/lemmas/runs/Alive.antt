use Rattle.std.proofs.Common.{◌≡◌, ◌≢◌, ℕ, ◌%◌, ◌==◌, if◌then◌else◌, ◌⊎◌, inl, inr, Bool, true, false, not, List, [], refl, sym, ap, ◌∙◌, subst, arith, ◌+◌, ◌&&◌, ◌||◌, nat_lt, length}
use Rattle.ell_layout.specs.Cards.{is_replace_card, keeps_below}
use Rattle.std.proofs.lemmas.Bool.{cases_eq, false≢true, eq-eqb, ne_eqb, lt-ltb, eqb-true}
use mathlib.Core.Option.{some}
use lib.ListN.{get_elem?}
use Rattle.ell_ops.specs.declared.op.Op.{Op}
use Rattle.ell_ops.specs.declared.op.Op.TheVariants.{Find, Insert, Delete, Swap}
use Rattle.ell_ops.specs.Meaning.{key_of}
use Rattle.ell_word.specs.Node.{IsNode, card, internal, left_leaf, right_leaf}
use Rattle.ell_layout.specs.declared.field.Field.{Field}
use Rattle.ell_layout.specs.declared.field.Field.TheVariants as field
use Rattle.ell_layout.specs.Layout.{address}
use Rattle.ell_layout.proofs.lemmas.Listed.{addresses_apart}
use Rattle.ell_layout.specs.Words.{Words}
use Rattle.ell_core.specs.declared.fact.Fact.{Fact}
use Rattle.ell_core.specs.declared.fact.Fact.TheVariants as fact
use Rattle.ell_core.specs.state.Facts.{card_of_fact}
use Rattle.ell_core.specs.state.Machine.{Machine, Worker, worker_of}
use Rattle.ell_core.specs.history.Stages.{Stage, Stages, is_start, is_insert, is_delete, is_born, is_node_born, is_changed, insert_over, allows}
use Rattle.ell_core.specs.history.Invariant.{insert_key, Flagged, Invariant}
use Rattle.ell_core.specs.history.Later.{wins_of}
use Rattle.ell_core.specs.statements.Since.{has_ended}
use Rattle.ell_core.proofs.lemmas.stages.Order.{born-claimed, born_is_node, over-delete, backed-delete, insert_over-changed, changed-insert, one_kind, delete_won-delete}
use Rattle.ell_core.proofs.lemmas.stages.Sums.{sum_by}
use Rattle.ell_core.proofs.lemmas.stages.Ended.{insert_over-ended, delete_over-ended, backed-ended}
use Rattle.ell_grace.specs.Gone.{TakesOut, HasOuts}
use Rattle.ell_grace.specs.Since.{ComesFrom}
use Rattle.ell_grace.specs.Dead.{NeverComes, IsDead, UsesAreSound, HasUses}
use Rattle.ell_core.proofs.lemmas.stages.LaterKeys.{root_born}
use Rattle.ell_grace.proofs.lemmas.since.Places.{reached_stays}
use Rattle.ell_grace.proofs.lemmas.since.Much.{one, changed_much}
use Rattle.ell_grace.proofs.lemmas.dead.Frames.{delete_node-unborn, never_later}
use Rattle.ell_grace.proofs.lemmas.dead.Out.{inner_comes, taken_comes, dead_ended}
use Rattle.ell_grace.proofs.lemmas.dead.Runs.{uses_begin, dead_stays_dead, events_keep_uses, children_were_not_dead}
use Rattle.ell_runs.specs.declared.call.Call.{Call}
use Rattle.ell_runs.specs.declared.view.View.{View}
use Rattle.ell_runs.specs.Plans.{TablePlan, flat_from}
use Rattle.ell_runs.specs.Views.{Knows}
use Rattle.ell_runs.specs.States.{TableState}
use Rattle.ell_runs.specs.Machines.{HasMachine}
use Rattle.ell_runs.specs.Laws.{machine_of_table}
use Rattle.ell_runs.specs.Calls.{May, word_of}
use Rattle.ell_runs.specs.Turns.{Turn, CallIsMade, TableRun}
use Rattle.ell_runs.specs.RunLaws.{StartIsKept}
use Rattle.ell_runs.specs.Starts.{IsReached}
use Rattle.ell_runs.specs.Touching.{forgets, Touched, AtNode, OfCard, AtRoot, touched_by, IsWordOf, KnowsTakenOut}
use Rattle.ell_runs.specs.Dead.{WasAlive, TablesHaveUses, TurnsKeepDead, CallsTouchNothingDead, IsDeadCard, CallsTouchNoDeadCard, KnowsDead, OneCardTells, KnowsReplaced, KnowsUnused, KnowsNeverComes, KnownNeverComes, KnownDeadIsDead}
use Rattle.ell_runs.proofs.lemmas.seats.Seats.{mine_is}
use Rattle.ell_runs.proofs.lemmas.stepping.Exchanges.{told_is}
use Rattle.ell_runs.proofs.lemmas.runs.Starting.{starts_are_kept}
use Rattle.ell_runs.proofs.lemmas.runs.Touching.{calls_touch_their_words, NodesWere, Touches, touches_on, run_comes, handed_over, none_out, known_takes_out, known_taken_out_is_gone, nothing_out}

-- what is used is sound, and what was not dead
abbrev pub used : (m : Machine) (stage : Stages) (now : Machine) → ComesFrom m stage now → Type 0
used m stage now from = UsesAreSound now.words from.stages

-- it is a node
abbrev pub was : (m : Machine) (stage : Stages) → ℕ → Type 0
was m stage x = (¬ IsDead m.words stage x) × IsNode x

pub not_dead : (m : Machine) (stage : Stages) → Invariant m stage → NodesWere m stage (used m stage) (was m stage)
not_dead m stage first = record {
  stays = λ x alive gone. alive.0 (inl gone);
  inner = λ now from kept x inner born stays. (
    λ dead. elim dead [
      | inl gone ↦ stays gone
      | inr never ↦ inner_comes now.words from.stages from.invariant.words kept x inner born
          (never_later m.words stage first.words now.words from.stages from.invariant.words from.words from.later x never)
    ],
    born_is_node from.stages x born,
  );
  child = λ now from kept x inner born alive right. (
    children_were_not_dead m stage first now from kept x inner born alive.0 right,
    born_is_node from.stages (now.words.child x right) ((from.invariant.words.children x inner born).born right),
  );
  events = λ old from kept e said new steps. events_keep_uses m stage first old from kept e said new steps;
  words = λ old from kept new same invariant. handed_over UsesAreSound m stage old from kept new same invariant;
}

-- a node is one of the three of its card
dead_node : (w : Words) (stage : Stages) (x : ℕ) → IsNode x → IsDeadCard w stage (card x) → IsDead w stage x
dead_node w stage x node dead = elim (cases_eq (x % 4) 0) [
  | inl e ↦ (let at : internal (card x) ≡ x = omega arith in subst (IsDead w stage) at dead.0)
  | inr n ↦ elim (cases_eq (x % 4) 1) [
    | inl e ↦ (let at : left_leaf (card x) ≡ x = omega arith in subst (IsDead w stage) at dead.1)
    | inr k ↦ (let at : right_leaf (card x) ≡ x = omega (arith, n, k, node) in subst (IsDead w stage) at dead.2)
  ]
]

module _ (plan : TablePlan) (s : TableState) (reached : IsReached plan s) (seat : ℕ) (c : Call) (begun : TableState)
    (made : CallIsMade plan s seat c begun) (anew : forgets c ≡ true) (r : HasMachine plan s) (has : HasUses (machine_of_table plan s r))
    (turns : List Turn) (now : TableState) (run : TableRun plan begun turns now) (v : View) (there : get_elem? now.views seat ≡ some v)
    (next : Call) (may : May plan next v) where
  abbrev m : Machine
  m = machine_of_table plan s r

  abbrev stage : Stages
  stage = has.outs.stages

  abbrev first : Invariant m stage
  first = has.outs.invariant

  -- what a call touches
  it_touches : Touches plan m stage first (used m stage) (was m stage) (not_dead m stage first) (touched_by next)
  it_touches =
      let start = uses_begin m has in
      touches_on plan m stage first (used m stage) (was m stage) (not_dead m stage first) s reached seat c begun made anew r start.0 start.1
      turns now run v there next may

  -- a card that had not ended and is not of the opening tree was not dead
  card_alive : (d : ℕ) → (has_ended (stage d) ≡ false) × (is_start (stage d) ≡ false) → ¬ IsDead r.words stage (internal d)
  card_alive d h dead = elim (dead_ended m.words stage first.words has.uses has.outs.outs d dead) [
    | inl start ↦ false≢true (sym h.1 ∙ start)
    | inr ended ↦ false≢true (sym h.0 ∙ ended)
  ]

  -- nor is the root
  root_alive : ¬ IsDead r.words stage 0
  root_alive (inl gone) = reached_stays m.words stage first.words has.outs.outs 0 (record { path = []; leads = refl }) gone
  root_alive (inr never) = inner_comes m.words stage first.words has.uses 0 refl (root_born m.words stage first.words) never

  alive : WasAlive r.words stage (touched_by next)
  alive = by (touched_by next) it_touches
    where
      by : (t : Touched) → Touches plan m stage first (used m stage) (was m stage) (not_dead m stage first) t → WasAlive r.words stage t
      by (AtNode x) h = h.0
      by (OfCard d) h = card_alive d h
      by AtRoot h = tt

  -- so it is of no card whose nodes were all dead
  untouched : (d : ℕ) (f : Field) → word_of next ≡ address d f → ¬ IsDeadCard r.words stage d
  untouched d f at dead = by (touched_by next) it_touches (calls_touch_their_words next)
    where
      by : (t : Touched) → Touches plan m stage first (used m stage) (was m stage) (not_dead m stage first) t → IsWordOf t (word_of next) → ⊥
      by (AtNode x) h w =
          let same = (addresses_apart (card x) d w.0 f (sym w.1 ∙ at)).0 in
          h.0 (dead_node r.words stage x h.1 (subst (IsDeadCard r.words stage) (sym same) dead))
      by (OfCard e) h w =
          let same = (addresses_apart e d w.0 f (sym w.1 ∙ at)).0 in
          card_alive e h (subst (λ k. IsDead r.words stage (internal k)) (sym same) dead.0)
      by AtRoot h (inl zero) = absurd (omega arith)
      by AtRoot h (inr w) =
          let same = (addresses_apart 0 d w.0 f (sym w.1 ∙ at)).0 in
          root_alive (subst (λ k. IsDead r.words stage (internal k)) (sym same) dead.0)

-- where a pass forgets, whatever it touches from there on was not dead
pub calls_touch_nothing_dead : CallsTouchNothingDead
calls_touch_nothing_dead plan s reached seat c begun made anew r has turns now run v there next may =
    alive plan s reached seat c begun made anew r has turns now run v there next may

pub calls_touch_no_dead_card : CallsTouchNoDeadCard
calls_touch_no_dead_card plan s reached seat c begun made anew r has turns now run v there next may d f at =
    untouched plan s reached seat c begun made anew r has turns now run v there next may d f at

-- a card that has won nothing has made no child exchange
pub none_changed : (s : Stage) → wins_of s ≡ [] → is_changed s ≡ true → ⊥
none_changed s none changed = let more = changed_much s changed in let zero = ap (sum_by one) none in omega arith

-- so wherever turns have led a table, what its machine uses is sound
abbrev pub start_uses : (plan : TablePlan) (s : TableState) (start : StartIsKept plan s) → HasUses (machine_of_table plan s start.kept)
start_uses plan s start =
    let r = start.kept in
    let none = none_out r.words r.stages start.unwon in record {
      outs = record { stages = r.stages; invariant = r.invariant; outs = nothing_out r.words r.stages start.unwon };
      uses = record {
        used = λ x inner born right unused. none_changed (r.stages (card (r.words.child x right))) (start.unwon (card (r.words.child x right))) unused.0;
        taken = λ c x takes unused. none c x takes;
        stands = λ c changed still. absurd (none_changed (r.stages c) (start.unwon c) changed);
        kept = λ x unstarted outer born used. absurd (false≢true (sym unstarted ∙ start.started (card x) (born-claimed (r.stages (card x)) (x % 4) born)));
      };
    }

pub tables_have_uses : TablesHaveUses
tables_have_uses plan s h =
    let start = starts_are_kept plan h.first h.starts in
    let r = start.kept in
    let m = machine_of_table plan h.first r in
    let begins = uses_begin m (start_uses plan h.first start) in
    let ran = run_comes plan m r.stages r.invariant (used m r.stages) (was m r.stages) (not_dead m r.stages r.invariant)
    h.first r begins.0 begins.1 h.turns s h.run in
    (ran.0, record { outs = record { stages = ran.1.stages; invariant = ran.1.invariant; outs = ran.1.outs }; uses = ran.2 })

-- turns lead on from there, and keep what was dead
pub turns_keep_dead : TurnsKeepDead
turns_keep_dead plan s r has turns s' run =
    let m = machine_of_table plan s r in
    let stage = has.outs.stages in
    let first = has.outs.invariant in
    let begins = uses_begin m has in
    let ran = run_comes plan m stage first (used m stage) (was m stage) (not_dead m stage first) s r begins.0 begins.1 turns s' run in (
      ran.0,
      record { outs = record { stages = ran.1.stages; invariant = ran.1.invariant; outs = ran.1.outs }; uses = ran.2 },
      λ x dead. dead_stays_dead m stage first (machine_of_table plan s' ran.0) ran.1 x dead,
    )

-- a flat tree is flat from some card on
pub flat_some : (plan : TablePlan) → plan.flat ≡ true → nat_lt 0 (flat_from plan) ≡ true
flat_some plan flat =
    subst (λ b. nat_lt 0 (if b then length plan.start + 1 else 0) ≡ true) (sym flat) (lt-ltb 0 (length plan.start + 1) (omega arith))

-- the node that a card brings which replaces a leaf is its right leaf
replace-right : (s : Stage) (place : ℕ) → is_changed s ≡ true → is_born s ≡ false → is_node_born s place ≡ true → place ≡ 2
replace-right s place changed none born = grind arith

-- of two leaf keys of which one is an old key, the one that is not the card's own is the old one
old_left : (a b old : ℕ) → (a ≡ old) ⊎ (b ≡ old) → a ≢ (if a == old then b else a) → a ≡ old
old_left a b old copy other = elim (cases_eq a old) [
  | inl e ↦ e
  | inr n ↦ absurd (other (sym (ap (λ (t : Bool). if t then b else a) (ne_eqb a old n))))
]

old_right : (a b old : ℕ) → (a ≡ old) ⊎ (b ≡ old) → b ≢ (if a == old then b else a) → b ≡ old
old_right a b old copy other = elim (cases_eq a old) [
  | inl e ↦ absurd (other (sym (ap (λ (t : Bool). if t then b else a) (eq-eqb a old e))))
  | inr n ↦ elim copy [ inl e ↦ absurd (n e) | inr e ↦ e ]
]

-- an insert's card in hand that is flagged has the operation's key
pub own_key : (w : Words) (stage : Stages) (u : Worker) (op : Op) (c : ℕ) → is_insert (stage c) ≡ true → Flagged w stage u op c → insert_key w c ≡ key_of op
own_key w stage u (Find k) c kind h = absurd h
own_key w stage u (Insert k value) c kind h = h.1
own_key w stage u (Swap k was value) c kind h = h.1
own_key w stage u (Delete k) c kind h = absurd (one_kind (stage c) kind (delete_won-delete (stage c) h.0))

-- what a pass knows, in a state with these outs
module _ (plan : TablePlan) (s : TableState) (seat : ℕ) (v : View) (there : get_elem? s.views seat ≡ some v) (r : HasMachine plan s)
    (has : HasOuts (machine_of_table plan s r)) where
  abbrev w : Words
  w = r.words

  abbrev stages : Stages
  stages = has.stages

  abbrev me : (machine_of_table plan s r).worker seat ≡ worker_of v.worker
  me = mine_is plan s r seat v there

  allowed : (f : Fact) → Knows v f → allows f (stages (card_of_fact f)) ≡ true
  allowed f k = (has.invariant.workers.each seat).facts f (ap (λ (u : Worker). u.knows f) me ∙ k)

  -- of a delete's card that has ended
  delete_never : (c x : ℕ) → card x ≡ c → is_delete (stages c) ≡ true → has_ended (stages c) ≡ true → NeverComes w stages x
  delete_never c x on kind ended = (
    subst (λ d. has_ended (stages d) ≡ true) (sym on) ended,
    inl (λ born. delete_node-unborn (stages (card x)) (x % 4) (subst (λ d. is_delete (stages d) ≡ true) (sym on) kind) born),
  )

  -- of one that replaces a leaf
  replaced_never : (c x : ℕ) → card x ≡ c → insert_over (stages c) ≡ true → KnowsReplaced v c x → NeverComes w stages x
  replaced_never c x on over knows =
      let changed = insert_over-changed (stages c) over in
      let same : w.key (left_leaf c) ≡ w.key (right_leaf c) =
      told_is plan s r seat v there c field.LeftLeafKey knows.same.key knows.same.left ∙ sym (told_is plan s r seat v there c field.RightLeafKey knows.same.key knows.same.right) in
      let none : is_born (stages c) ≡ false =
      (has.invariant.words.inserts c).brings changed ∙ ap not (eq-eqb (w.key (left_leaf c)) (w.key (right_leaf c)) same) in (
        subst (λ d. has_ended (stages d) ≡ true) (sym on) (insert_over-ended (stages c) over),
        inl (λ born.
            let place = replace-right (stages c) (x % 4) changed none (subst (λ d. is_node_born (stages d) (x % 4) ≡ true) on born) in
            knows.other (omega (arith, on))),
      )

  -- of one that goes above a node that stays
  unused_never : plan.flat ≡ true → (c x : ℕ) → card x ≡ c → insert_over (stages c) ≡ true → KnowsUnused v c x → NeverComes w stages x
  unused_never flat c x on over knows =
      let changed = insert_over-changed (stages c) over in
      let kind = changed-insert (stages c) changed in
      let said_card = (has.invariant.words.cards c).insert kind in
      let own = own_key w stages ((machine_of_table plan s r).worker seat) knows.op c kind
      ((has.invariant.workers.each seat).flagged knows.op c (ap (λ (u : Worker). u.operation) me ∙ knows.busy) (ap (λ (u : Worker). u.card) me ∙ knows.holds)
      (ap (λ (u : Worker). u.flagged) me ∙ knows.flagged)).0 in
      let copy : (w.key (left_leaf c) ≡ w.key (w.l c)) ⊎ (w.key (right_leaf c) ≡ w.key (w.l c)) =
      elim said_card.copy [ inl a ↦ inl a.key | inr b ↦ inr b.key ] in
      let key : w.key x ≡ w.key (w.l c) = elim knows.told [
        | inl t ↦
            let is = told_is plan s r seat v there c field.LeftLeafKey knows.key t.1 in
            ap w.key t.0 ∙ old_left (w.key (left_leaf c)) (w.key (right_leaf c)) (w.key (w.l c)) copy (λ e. knows.other (sym is ∙ (e ∙ own)))
        | inr t ↦
            let is = told_is plan s r seat v there c field.RightLeafKey knows.key t.1 in
            ap w.key t.0 ∙ old_right (w.key (left_leaf c)) (w.key (right_leaf c)) (w.key (w.l c)) copy (λ e. knows.other (sym is ∙ (e ∙ own)))
      ] in (
        subst (λ d. has_ended (stages d) ≡ true) (sym on) (insert_over-ended (stages c) over),
        inr (
          subst (λ d. is_changed (stages d) ≡ true) (sym on) changed,
          subst (λ d. keeps_below w d ≡ true) (sym on) (keeps_two (is_replace_card w c) refl),
          λ inner. elim knows.told [ inl t ↦ (let at = t.0 in omega arith) | inr t ↦ (let at = t.0 in omega arith) ],
          subst (λ d. w.key x ≡ w.key (w.l d)) (sym on) key,
        ),
      )
    where
      -- two leaves of one key have the operation's
      same_key : w.key (left_leaf c) ≡ w.key (right_leaf c) → insert_key w c ≡ w.key (left_leaf c)
      same_key e = elim (cases_eq (w.key (left_leaf c)) (w.key (w.l c))) [
        | inl old ↦ ap (λ (b : Bool). if b then w.key (right_leaf c) else w.key (left_leaf c)) (eq-eqb (w.key (left_leaf c)) (w.key (w.l c)) old) ∙ sym e
        | inr new ↦ ap (λ (b : Bool). if b then w.key (right_leaf c) else w.key (left_leaf c)) (ne_eqb (w.key (left_leaf c)) (w.key (w.l c)) new)
      ]

      mine : insert_key w c ≡ key_of knows.op
      mine = own_key w stages ((machine_of_table plan s r).worker seat) knows.op c (changed-insert (stages c) (insert_over-changed (stages c) over))
          ((has.invariant.workers.each seat).flagged knows.op c (ap (λ (u : Worker). u.operation) me ∙ knows.busy) (ap (λ (u : Worker). u.card) me ∙ knows.holds)
          (ap (λ (u : Worker). u.flagged) me ∙ knows.flagged)).0

      keeps_two : (b : Bool) → is_replace_card w c ≡ b → keeps_below w c ≡ true
      keeps_two true e =
          let same = eqb-true (w.key (left_leaf c)) (w.key (right_leaf c)) e in
          absurd (knows.other (elim knows.told [
            | inl t ↦ sym (told_is plan s r seat v there c field.LeftLeafKey knows.key t.1) ∙ (sym (same_key same) ∙ mine)
            | inr t ↦ sym (told_is plan s r seat v there c field.RightLeafKey knows.key t.1) ∙ (sym same ∙ (sym (same_key same) ∙ mine))
          ]))
      keeps_two false e =
          ap (λ (b : Bool). not b && (nat_lt 0 w.flat_from || w.l c % 4 == 0)) e
          ∙ ap (λ (b : Bool). b || w.l c % 4 == 0) (ap (λ n. nat_lt 0 n) r.shape ∙ flat_some plan flat)

-- so what a pass knows to come never never comes
pub known_never_comes : KnownNeverComes
known_never_comes plan flat s seat v there c x knows r has = elim knows.1 [
  | inl d ↦ elim d [
    | inl over ↦
        let at = allowed plan s seat v there r has (fact.DOver c) over in
        delete_never plan s seat v there r has c x knows.0 (over-delete (has.stages c) at) (delete_over-ended (has.stages c) at)
    | inr backed ↦
        let at = allowed plan s seat v there r has (fact.Backed c) backed in
        delete_never plan s seat v there r has c x knows.0 (backed-delete (has.stages c) at) (backed-ended (has.stages c) at)
  ]
  | inr i ↦
      let over = allowed plan s seat v there r has (fact.IOver c) i.0 in
      elim i.1 [
        | inl replaced ↦ replaced_never plan s seat v there r has c x knows.0 over replaced
        | inr unused ↦ unused_never plan s seat v there r has flat c x knows.0 over unused
      ]
]

-- and what it knows dead is dead
pub known_dead_is_dead : KnownDeadIsDead
known_dead_is_dead plan flat s seat v there c x (inl gone) r has = inl (known_taken_out_is_gone plan s seat v there c x gone r has)
known_dead_is_dead plan flat s seat v there c x (inr never) r has = inr (known_never_comes plan flat s seat v there c x never r has)

-- and of one card alone, for one card has taken out what was taken out, and that was no node that never comes
pub one_card_tells : OneCardTells
one_card_tells plan flat s reached i j v v' here there c d x knows knows' = by knows knows'
  where
    it : (r : HasMachine plan s) × HasUses (machine_of_table plan s r)
    it = tables_have_uses plan s reached

    w : Words
    w = it.0.words

    stages : Stages
    stages = it.1.outs.stages

    takes : (k : ℕ) (u : View) → get_elem? s.views k ≡ some u → (e : ℕ) → KnowsTakenOut u e x → TakesOut w stages e x
    takes k u at e h = (known_takes_out plan s k u at e x h it.0 it.1.outs).1

    never : (k : ℕ) (u : View) → get_elem? s.views k ≡ some u → (e : ℕ) → KnowsNeverComes u e x → NeverComes w stages x
    never k u at e h = known_never_comes plan flat s k u at e x h it.0 it.1.outs

    apart : (e : ℕ) → TakesOut w stages e x → ¬ NeverComes w stages x
    apart e h = taken_comes w stages it.1.outs.invariant.words it.1.uses e x h

    by : KnowsDead v c x → KnowsDead v' d x → c ≡ d
    by (inl a) (inl b) = it.1.outs.outs.once c d x (takes i v here c a) (takes j v' there d b)
    by (inl a) (inr b) = absurd (apart c (takes i v here c a) (never j v' there d b))
    by (inr a) (inl b) = absurd (apart d (takes j v' there d b) (never i v here c a))
    by (inr a) (inr b) = sym a.0 ∙ b.0
