use Rattle.std.proofs.Common.{◌≡◌, ◌%◌, ℕ, ◌+◌, ◌<◌, ◌≤◌, ◌&&◌, ◌||◌, ◌==◌, not, if◌then◌else◌, nat_le, Bool, true, false, List, [], ◌∷◌, ◌++◌, length, inl, inr, refl, sym, ap, ◌∙◌, subst, arith}
use Rattle.std.proofs.lemmas.Bool.{false≢true, false_from_ne_true, and_from, and_right, not_from_false}
use Rattle.std.proofs.lemmas.List.{append_assoc, append-nil}
use Rattle.ell_word.specs.Node.{card, left_leaf, right_leaf}
use Rattle.ell_word.specs.Word.{unpacked}
use Rattle.ell_core.specs.declared.exchange.Exchange.{Exchange}
use Rattle.ell_core.specs.declared.fact.Fact.TheVariants.{IFlagged, DFlagged, Marked}
use Rattle.ell_layout.specs.Words.{Words}
use Rattle.ell_core.specs.state.Machine.{Machine}
use Rattle.ell_core.specs.history.Stages.{Stages, Born, is_born, is_delete, is_changed, delete_waits}
use Rattle.ell_core.specs.history.Invariant.{Invariant, IsIn, delete_side}
use Rattle.ell_core.specs.history.Later.{WordsLater, StagesLater, wins_of}
use Rattle.ell_core.proofs.lemmas.stages.Order.{born-node, delete-claimed, insert-claimed, born-claimed, changed_nodes, insert_won-insert, delete_won-delete, delete_waits-delete, delete_waits-open, changed-insert, cut-delete, marked-delete, backed-delete, one_kind}
use Rattle.ell_core.proofs.lemmas.stages.Sums.{child_changes, all_flags, sum_by, sum_append, sum_same, changed-sum, sum-changed, unflagged-sum, sum-flagged, flags-once}
use Rattle.ell_core.proofs.lemmas.stages.Flags.{was_flagged, flagged_cases, insert-flagged, delete-flagged, flagged-claimed, born_cases, backed-won}
use Rattle.ell_core.proofs.lemmas.stages.Waiting.{start-born}
use Rattle.ell_core.proofs.lemmas.following.Backtracks.{Backtracks, IsTakenBack, Keeps, none_back}
use Rattle.ell_core.proofs.lemmas.following.SetSince.{IsSetSince, insert_flag, delete_flag, mark, set_since}
use Rattle.ell_runs.specs.Plans.{TablePlan}
use Rattle.ell_runs.specs.Contention.{how_many}
use Rattle.ell_runs.specs.States.{TableState}
use Rattle.ell_runs.specs.Machines.{HasMachine}
use Rattle.ell_runs.specs.Laws.{machine_of_table}
use Rattle.ell_runs.specs.Turns.{Turn, TableTurns, TableRun}
use Rattle.ell_runs.specs.TurnEffects.{turn_wins, run_wins}
use Rattle.ell_runs.specs.Stretches.{is_flag, is_change, wins, won_in}
use Rattle.ell_runs.proofs.lemmas.runs.GoingOn.{Went, went_still, went_after, Turned, turn_turns}
use Rattle.ell_runs.proofs.lemmas.runs.EarlySums.{early_sum}
use Rattle.ell_runs.proofs.lemmas.runs.HowMany.{many_where, many_most}
use Rattle.ell_runs.proofs.lemmas.runs.FlagTurns.{turn_unchanged, turn_flags}
use Rattle.ell_core.proofs.lemmas.tree.Ranks.{rank_root, ranked_apart}

-- whether a card's flag was won since
abbrev pub flag_since : Stages → Stages → ℕ → Bool
flag_since first stage c = not (was_flagged (first c)) && was_flagged (stage c)

-- what was flagged is flagged later
pub flagged_later : (stage after : Stages) → StagesLater stage after → (c : ℕ) → was_flagged (stage c) ≡ true → was_flagged (after c) ≡ true
flagged_later stage after later c h = elim (flagged_cases (stage c) h) [
  | inl i ↦ insert-flagged (after c) (later.told (IFlagged c) c i)
  | inr d ↦ delete-flagged (after c) (later.told (DFlagged c) c d)
]

-- where no exchange of a child was won, what has changed had, and what came into the tree had
pub unchanged_since : (first stage : Stages) → StagesLater first stage → (won : List Exchange) (e : ℕ) → wins_of (stage e) ≡ wins_of (first e) ++ won
    → sum_by child_changes won ≡ 0 → is_changed (stage e) ≡ true → is_changed (first e) ≡ true
unchanged_since first stage later won e grows none changed =
    let same = sum_same child_changes (first e) (stage e) won grows none in
    let some = changed-sum (stage e) changed in
    elim (sum-changed (first e) (omega arith)) [
      | inl is ↦ is
      | inr cut ↦ absurd (one_kind (stage e) (changed-insert (stage e) changed) (later.delete e (cut-delete (first e) cut)))
    ]

-- a card has set what it has set
set_later : (first : Stages) (w now : Words) (stage after : Stages) → WordsLater w now → StagesLater stage after → (e y : ℕ) → e < w.next
    → IsSetSince first w stage e y → IsSetSince first now after e y
set_later first w now stage after words later e y low (insert_flag a b at) = insert_flag a (later.told (IFlagged e) e b) ((words.info e low).p ∙ at)
set_later first w now stage after words later e y low (delete_flag a b at) = delete_flag a (later.told (DFlagged e) e b) ((words.info e low).gp ∙ at)
set_later first w now stage after words later e y low (mark a b at) = mark a (later.told (Marked e) e b) ((words.info e low).p ∙ at)

set_low : (first : Stages) (m : Machine) (stage : Stages) → Invariant m stage → (e y : ℕ) → IsSetSince first m.words stage e y → e < m.words.next
set_low first m stage inv e y (insert_flag a b at) = (inv.words.cards e).claimed.0 (insert-claimed (stage e) (insert_won-insert (stage e) b))
set_low first m stage inv e y (delete_flag a b at) = (inv.words.cards e).claimed.0 (delete-claimed (stage e) (delete_won-delete (stage e) b))
set_low first m stage inv e y (mark a b at) = (inv.words.cards e).claimed.0 (delete-claimed (stage e) (marked-delete (stage e) b))

-- in the tree of these words y is a child of a node that is reached
pub record Places (w : Words) (x y : ℕ) : Type 0 where
  pub right : Bool
  pub child : w.child x right ≡ y
  pub there : IsIn w x

moved : {w : Words} {x y a b : ℕ} → a ≡ x → b ≡ y → Places w x y → Places w a b
moved {w = w} {x = x} {b = b} e f h = subst (λ a. Places w a b) (sym e) (subst (λ b. Places w x b) (sym f) h)

unless_both : (b : Bool) (n : ℕ) → (if b then 1 else 0) + n ≡ 0 → (b ≡ false) × (n ≡ 0)
unless_both true n e = absurd (omega arith)
unless_both false n e = (refl, omega arith)

-- in a run in which no exchange of a child is won, none is won for any card
pub quiet_run : (plan : TablePlan) (s : TableState) (turns : List Turn) (s' : TableState) (run : TableRun plan s turns s') → won_in is_change plan s turns s' run ≡ 0
    → (d : ℕ) → sum_by child_changes (run_wins plan s turns s' run d) ≡ 0
quiet_run plan s [] s' run none d = refl
quiet_run plan s (t ∷ ts) s' run none d =
    let still = unless_both (wins is_change s t) (won_in is_change plan run.0 ts s' run.2) none in
    let first = turn_unchanged s t still.0 d in
    let rest = quiet_run plan run.0 ts s' run.2 still.1 d in
    let parts = sum_append child_changes (turn_wins s t d) (run_wins plan run.0 ts s' run.2 d) in
    omega arith

module _ (plan : TablePlan) (s0 : TableState) (r0 : HasMachine plan s0) (first : Stages)
    (before : Invariant (machine_of_table plan s0 r0) first) where
  abbrev pub m0 : Machine
  m0 = machine_of_table plan s0 r0

  -- where a run leads in which so far this was won, and so many flags
  pub record Amid (s : TableState) (won : ℕ → List Exchange) (flags : ℕ) : Type 0 where
    pub kept : HasMachine plan s
    pub went : Went m0.words first won (machine_of_table plan s kept)
    pub children : (x : ℕ) (right : Bool) → card x < m0.words.next → kept.words.child x right ≡ m0.words.child x right
    pub back : Backtracks first kept.words went.stages (machine_of_table plan s kept).worker
    pub set : (c : ℕ) → IsTakenBack first went.stages c → m0.words.update (kept.words.p c) ≤ kept.words.was c
        → IsSetSince first kept.words went.stages (unpacked (back.least c)).card (kept.words.p c)
    pub placed : (c : ℕ) → IsTakenBack first went.stages c → Places m0.words (kept.words.gp c) (kept.words.p c)
    pub early : (n : ℕ) → early_sum n m0.words first kept.words went.stages (length s.views) (machine_of_table plan s kept).worker
        ≤ early_sum n m0.words first m0.words first (length s0.views) m0.worker
    pub flagged : flags ≤ how_many (plan.last_card + 1) (flag_since first went.stages)

  module _ (s : TableState) (won : ℕ → List Exchange) (flags : ℕ) (at : Amid s won flags) (t : Turn) (s' : TableState) (turn : TableTurns plan s t s')
      (quiet : (d : ℕ) → sum_by child_changes (won d) ≡ 0) (quiet_turn : (d : ℕ) → sum_by child_changes (turn_wins s t d) ≡ 0) where
    abbrev m : Machine
    m = machine_of_table plan s at.kept

    abbrev stage : Stages
    stage = at.went.stages

    turned : (k : HasMachine plan s') × Turned m stage (turn_wins s t) (machine_of_table plan s' k)
    turned = let made = turn_turns plan s at.kept stage at.went.invariant t s' turn in (made.0, made.1)

    abbrev m' : Machine
    m' = machine_of_table plan s' turned.0

    abbrev stages : Stages
    stages = turned.1.went.stages

    abbrev both : ℕ → List Exchange
    both d = won d ++ turn_wins s t d

    abbrev goes : Went m0.words first both m'
    goes = went_after m0.words first won m (turn_wins s t) m' at.went turned.1.went

    quiet_both : (d : ℕ) → sum_by child_changes (both d) ≡ 0
    quiet_both d = let parts = sum_append child_changes (won d) (turn_wins s t d) in let a = quiet d in let b = quiet_turn d in omega arith

    keeps : Keeps first m.words stage m.worker at.back m'.words stages m'.worker
    keeps = turned.1.keeps first at.back

    unchanged_now : (e : ℕ) → is_changed (stages e) ≡ true → is_changed (first e) ≡ true
    unchanged_now e = unchanged_since first stages goes.later (both e) e (goes.wins e) (quiet_both e)

    low_delete : (c : ℕ) → is_delete (stage c) ≡ true → c < m.words.next
    low_delete c deletes = (at.went.invariant.words.cards c).claimed.0 (delete-claimed (stage c) deletes)

    -- what a card that was taken back before has
    set_still : (c : ℕ) → IsTakenBack first stage c → keeps.backtracks.least c ≡ at.back.least c → m0.words.update (m'.words.p c) ≤ m'.words.was c
        → IsSetSince first m'.words stages (unpacked (keeps.backtracks.least c)).card (m'.words.p c)
    set_still c taken same late =
        let info = turned.1.went.words.info c (low_delete c (backed-delete (stage c) taken.1)) in
        let was = info.was in
        let place = ap m0.words.update info.p in
        let set = at.set c taken (omega arith) in
        let e = (unpacked (at.back.least c)).card in
        let on = set_later first m.words m'.words stage stages turned.1.went.words turned.1.went.later e (m.words.p c) (set_low first m stage at.went.invariant e (m.words.p c) set) set in
        subst (λ y. IsSetSince first m'.words stages (unpacked (keeps.backtracks.least c)).card y) (sym info.p)
        (subst (λ k. IsSetSince first m'.words stages (unpacked k).card (m.words.p c)) (sym same) on)

    -- and one that is taken back now
    set_now : (c : ℕ) → IsTakenBack first stages c → keeps.backtracks.least c ≡ m'.words.update (m'.words.p c) → m0.words.update (m'.words.p c) ≤ m'.words.was c
        → IsSetSince first m'.words stages (unpacked (keeps.backtracks.least c)).card (m'.words.p c)
    set_now c taken is late =
        let says = (goes.invariant.words.cards c).delete (backed-delete (stages c) taken.1) in
        let rose = (keeps.backtracks.rose c taken).0 in
        let below = ranked_apart m'.words 0 (m'.words.p c) (let first = says.first in let least = rank_root m'.words in omega arith) in
        subst (λ k. IsSetSince first m'.words stages (unpacked k).card (m'.words.p c)) (sym is)
        (set_since m0 first before m' stages goes.invariant goes.words goes.later goes.cleans unchanged_now (m'.words.p c) (m'.words.was c)
        says.parent.inner says.parent.born (omega arith) says.calm late (omega arith))

    -- a card that had changed and has changed now had brought the same nodes
    changed_alike : (x : ℕ) → is_changed (stage (card x)) ≡ true → Born stage x → is_changed (first (card x)) ≡ true → Born first x
    changed_alike x now born had =
        let c = card x in
        let low = (before.words.cards c).claimed.0 (insert-claimed (first c) (changed-insert (first c) had)) in
        let left = at.went.words.key (left_leaf c) (omega arith) in
        let right = at.went.words.key (right_leaf c) (omega arith) in
        let alike : is_born (stage c) ≡ is_born (first c) =
        (at.went.invariant.words.inserts c).brings now ∙ ((λ t. not (left t == right t)) ∙ sym ((before.words.inserts c).brings had)) in
        changed_nodes (first c) (x % 4) had ∙ ((λ t. (sym alike t && nat_le (x % 4) 2) || (x % 4 == 2)) ∙ (sym (changed_nodes (stage c) (x % 4) now) ∙ born))

    -- what came into the tree had come into it before
    born_before : (x : ℕ) → Born stage x → Born first x
    born_before x born = elim (born_cases (stage (card x)) (x % 4) born) [
      | inl start ↦ start-born (first (card x)) (x % 4) (born-node (stage (card x)) (x % 4) born) (sym (at.went.later.start (card x)) ∙ start)
      | inr changed ↦ changed_alike x changed born (unchanged_since first stage at.went.later (won (card x)) (card x) (at.went.wins (card x)) (quiet (card x)) changed)
    ]

    placed_now : (c : ℕ) → delete_waits (stage c) ≡ true → Places m0.words (m'.words.gp c) (m'.words.p c)
    placed_now c waits =
        let deletes = delete_waits-delete (stage c) waits in
        let info = turned.1.went.words.info c (low_delete c deletes) in
        let says = (at.went.invariant.words.cards c).delete deletes in
        let side = delete_side m.words c in
        let born = born_before (m.words.gp c) says.grandparent.born in
        let low = (before.words.cards (card (m.words.gp c))).claimed.0 (born-claimed (first (card (m.words.gp c))) ((m.words.gp c) % 4) born) in
        let flag = (at.went.invariant.words.deletes c).flag (delete_waits-open (stage c) waits) in
        moved info.gp info.p (record {
          right = side;
          child = sym (at.children (m.words.gp c) side low) ∙ (at.went.invariant.words.deletes c).waits waits;
          there = before.words.tree.there (m.words.gp c) says.grandparent.inner born (λ e is.
              let same = (at.went.words.frozen (m.words.gp c) e is).update in
              omega arith);
        })

    placed_still : (c : ℕ) → IsTakenBack first stage c → Places m0.words (m'.words.gp c) (m'.words.p c)
    placed_still c taken =
        let info = turned.1.went.words.info c (low_delete c (backed-delete (stage c) taken.1)) in
        moved info.gp info.p (at.placed c taken)

    -- flags
    flag_still : (c : ℕ) → flag_since first stage c ≡ true → flag_since first stages c ≡ true
    flag_still c h = by (was_flagged (first c)) h
      where
        by : (b : Bool) → (not b && was_flagged (stage c)) ≡ true → (not b && was_flagged (stages c)) ≡ true
        by true h = h
        by false h = flagged_later stage stages turned.1.went.later c h

    flags_on : (b : Bool) → wins is_flag s t ≡ b → flags + (if b then 1 else 0) ≤ how_many (plan.last_card + 1) (flag_since first stages)
    flags_on false e =
        let more = many_where (plan.last_card + 1) (flag_since first stage) (flag_since first stages) (λ c low. flag_still c) in
        let was = at.flagged in
        omega arith
    flags_on true e =
        let flag = turn_flags s t e in
        let c = flag.card in
        let one = flag.one in
        let parts = ap (sum_by all_flags) (turned.1.went.wins c) ∙ sum_append all_flags (wins_of (stage c)) (turn_wins s t c) in
        let once = flags-once (stages c) in
        let unflagged = unflagged-sum (stage c) (omega arith) in
        let is = sum-flagged (stages c) (omega arith) in
        let low = (goes.invariant.words.cards c).claimed.0 (flagged-claimed (stages c) is) in
        let limit = goes.invariant.limit in
        let fresh = false_from_ne_true (was_flagged (first c)) (λ old. false≢true (sym unflagged ∙ flagged_later first stage at.went.later c old)) in
        let most = many_most (plan.last_card + 1) (plan.last_card + 1) (flag_since first stage) (flag_since first stages) (omega arith) (λ d less. flag_still d) c (omega arith)
        (and_from (not (was_flagged (first c))) (was_flagged (stages c)) (not_from_false (was_flagged (first c)) fresh) is)
        (λ less. and_right (not (was_flagged (first c))) (was_flagged (stage c)) unflagged) in
        let was = at.flagged in
        omega arith

    pub turn_amid : Amid s' both (flags + (if wins is_flag s t then 1 else 0))
    turn_amid = record {
      kept = turned.0;
      went = goes;
      children = λ x right low.
          let up = at.went.words.next in
          turned.1.children quiet_turn x right (omega arith) ∙ at.children x right low;
      back = keeps.backtracks;
      set = λ c taken late. elim (keeps.from c taken) [
        | inl was ↦ set_still c was.0 was.1 late
        | inr now ↦ set_now c taken now.0 late
      ];
      placed = λ c taken. elim (keeps.from c taken) [
        | inl was ↦ placed_still c was.0
        | inr now ↦ placed_now c now.1
      ];
      early = λ n. let one = turned.1.early n m0.words first at.went.words.update in let was = at.early n in omega arith;
      flagged = flags_on (wins is_flag s t) refl;
    }

  -- where the stretch begins
  pub amid_first : Amid s0 (λ d. []) 0
  amid_first = record {
    kept = r0;
    went = went_still m0 first before;
    children = λ x right low. refl;
    back = none_back first m0.words m0.worker;
    set = λ c taken late. absurd (false≢true (sym taken.0 ∙ backed-won (first c) taken.1));
    placed = λ c taken. absurd (false≢true (sym taken.0 ∙ backed-won (first c) taken.1));
    early = λ n. omega arith;
    flagged = omega arith;
  }

  -- and where it leads
  pub run_amid : (s : TableState) (won : ℕ → List Exchange) (flags : ℕ) → Amid s won flags → ((d : ℕ) → sum_by child_changes (won d) ≡ 0) → (turns : List Turn) (s' : TableState)
      → (run : TableRun plan s turns s') → won_in is_change plan s turns s' run ≡ 0
      → Amid s' (λ d. won d ++ run_wins plan s turns s' run d) (flags + won_in is_flag plan s turns s' run)
  run_amid s won flags at quiet [] s' run none =
      let same : flags ≡ flags + 0 = omega arith in
      subst (λ x. Amid x (λ d. won d ++ []) (flags + 0)) (sym run)
      (subst (Amid s (λ d. won d ++ [])) same (subst (λ (w : ℕ → List Exchange). Amid s w flags) (λ i d. sym (append-nil (won d)) i) at))
  run_amid s won flags at quiet (t ∷ ts) s' run none =
      let still = unless_both (wins is_change s t) (won_in is_change plan run.0 ts s' run.2) none in
      let quiet_turn = turn_unchanged s t still.0 in
      let one = turn_amid s won flags at t run.0 run.1 quiet quiet_turn in
      let sum : (flags + (if wins is_flag s t then 1 else 0)) + won_in is_flag plan run.0 ts s' run.2
      ≡ flags + ((if wins is_flag s t then 1 else 0) + won_in is_flag plan run.0 ts s' run.2) = omega arith in
      subst (Amid s' (λ d. won d ++ (turn_wins s t d ++ run_wins plan run.0 ts s' run.2 d))) sum
      (subst (λ (w : ℕ → List Exchange). Amid s' w ((flags + (if wins is_flag s t then 1 else 0)) + won_in is_flag plan run.0 ts s' run.2))
      (λ i d. append_assoc (won d) (turn_wins s t d) (run_wins plan run.0 ts s' run.2 d) i)
      (run_amid run.0 (λ d. won d ++ turn_wins s t d) (flags + (if wins is_flag s t then 1 else 0)) one
      (quiet_both s won flags at t run.0 run.1 quiet quiet_turn) ts s' run.2 still.1))
