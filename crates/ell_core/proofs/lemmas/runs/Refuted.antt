use Rattle.std.proofs.Common.{◌≡◌, ◌≢◌, ℕ, ◌<◌, inl, inr, true, false, Some, None, [], ◌∷◌, refl, ap, arith, ⊎_elim, subst}
use Rattle.std.proofs.lemmas.Bool.{cases_eq}
use Rattle.std.proofs.lemmas.Bool.Decides.{nat_tests}
use Rattle.ell_ops.specs.declared.op.Op.TheVariants.{Insert}
use Rattle.ell_word.specs.declared.update.State.TheVariants as state
use Rattle.ell_core.specs.declared.exchange.Exchange.TheVariants as exchange
use Rattle.ell_core.specs.declared.event.Act.TheVariants as act
use Rattle.ell_core.specs.declared.event.Shown.TheVariants as shown
use Rattle.ell_core.specs.declared.event.Stepped.TheVariants.{Moved, Won}
use Rattle.ell_core.specs.declared.fact.Fact.TheVariants.{IFlagged}
use Rattle.ell_core.specs.state.Machine.{Worker, idle}
use Rattle.ell_core.specs.state.Opening.{opening}
use Rattle.ell_layout.specs.Words.{Words, IsLeaf}
use Rattle.ell_layout.specs.Cards.{child_for}
use Rattle.ell_core.specs.tree.Tree.{Reached, OnWalk, here, next}
use Rattle.ell_word.specs.Node.{infinity2}
use Rattle.ell_core.specs.acts.Runs.{Run}
use Rattle.ell_core.specs.soundness.Sound.{WorkerOwns}
use Rattle.ell_core.specs.statements.RunLaws.{IsOpening}
use Rattle.ell_core.specs.statements.Refuted.{WordsAlwaysRise, NextCardIsFixed, FlaggedNodesAreFrozen, NothingIsLearnt, ChildExchangesComeFirst, OneLedgerForAll, InsertsAddTheNextKey, AnswersAreOfTheMapAfter, BusyOwnersFindClean, SplitsMayTeach, LooksAreOfTheLastState, LooksAreOfTheFirstState}
use Rattle.ell_core.specs.statements.Looks.{Looks, ends, loads, stays}
use Rattle.ell_core.proofs.lemmas.following.Sound.{sound}
use Rattle.ell_core.proofs.lemmas.runs.Lawful.{passed_has, pairs_change}
use Rattle.ell_core.proofs.lemmas.runs.Passed.{openings_open, follows_itself}
use Rattle.ell_core.proofs.lemmas.runs.SmallRun.{opened, begun_state, down_state, claimed_state, flagged_state, changed_state, over_state, answered_state, by, begins, reads, read_state, setup, can_open, goes_down, claims_card, flags_root, changes_child, answers, opened_passed, down_passed, claimed_passed, flagged_passed, over_passed, follows}
use Rattle.ell_core.specs.declared.view.Entry.TheVariants.{Absent}
use Rattle.ell_ops.specs.declared.reply.Reply.TheVariants.{Yes, No}

-- the opening follows itself
pub no_rise : ¬ WordsAlwaysRise
no_rise rises = let h : 3 < 3 = rises opened opened (follows_itself opened opened_passed) 0 in omega arith

-- card 1 is filled when it is claimed
pub not_fixed : ¬ NextCardIsFixed
not_fixed fixed =
    let later = follows down_state (by act.Claim) Moved claimed_state down_passed claims_card in
    let h : ◌≡◌ {A = ℕ} 1 0 = (fixed down_state claimed_state later).l in omega arith

-- the child of the flagged root is exchanged
pub not_frozen : ¬ FlaggedNodesAreFrozen
not_frozen frozen =
    let later = follows flagged_state (by (act.IChild 1)) Won changed_state flagged_passed changes_child in
    let same = frozen flagged_state changed_state later 0 (λ e. let f : state.IFlag ≡ state.Clean = e in cc) in
    let h : ◌≡◌ {A = ℕ} 4 1 = same.child false in omega arith

-- a won flag is known
pub some_learnt : ¬ NothingIsLearnt
some_learnt known =
    let later = follows claimed_state (by act.IFlag) Won flagged_state claimed_passed flags_root in
    let h : false ≡ true = known claimed_state flagged_state later 0 (IFlagged 1) refl in cc

-- worker 1 does not own key 5
pub ledgers_differ : ¬ OneLedgerForAll
ledgers_differ same =
    let h : None ≡ Some Absent = ap (λ ledger. ledger 5) (same opened (by (act.Begin (Insert 5 50))) Moved begun_state opened_passed begins 1) in cc

-- key 5 came into the tree, which is that of card 1
pub next_key_wrong : ¬ InsertsAddTheNextKey
next_key_wrong adds =
    let shows = changes_child in
    let right = pairs_change flagged_state (by (act.IChild 1)) (shown.Step Won) changed_state flagged_passed shows in
    let wrong = adds flagged_state (by (act.IChild 1)) 1 changed_state flagged_passed refl shows in
    ⊎_elim (λ had. right.absent (50, had)) (λ e. let h : 5 ≡ infinity2 = e.0 in omega arith)
    ((wrong.pairs 5 50).0 ((right.pairs 5 50).1 (inr (refl, refl))))

-- the map after an insert has its key
pub after_wrong : ¬ AnswersAreOfTheMapAfter
after_wrong after =
    let h : Yes ≡ No = after over_state (by act.Answer) (Insert 5 50) Yes answered_state over_passed refl answers in cc

-- no other worker owns a key
none_else : (j k : ℕ) → j ≢ 0 → (flagged_state.worker j).ledger k ≡ None
none_else j k other = grind (arith, nat_tests)

-- worker 0 owns all keys that any worker owns
owns_all : (j k : ℕ) → WorkerOwns (flagged_state.worker j) k → WorkerOwns (flagged_state.worker 0) k
owns_all j k owns = ⊎_elim (λ e. subst (λ i. WorkerOwns (flagged_state.worker i) k) e owns) (λ other. absurd (owns (none_else j k other))) (cases_eq j 0)

-- its own flag stands
pub busy_finds_flag : ¬ BusyOwnersFindClean
busy_finds_flag finds =
    let there : Reached flagged_state.words 0 = record { path = []; leads = refl } in
    let h : state.IFlag ≡ state.Clean = finds flagged_state 0 flagged_passed owns_all 0 there refl in cc

-- a worker without a key that knows everything
abbrev all_knowing : Worker
all_knowing = idle (λ _. None) (λ _. false) (λ _. true)

-- it knows of a flag of card 1, which is no insert's
pub no_teaching : ¬ SplitsMayTeach
no_teaching teach =
    let has = passed_has opened opened_passed in
    let after = teach opened has.stages 0 (opened.worker 0) all_knowing has.invariant (omega arith) refl refl refl (λ key. inl (refl, refl)) (λ fact known. known) in
    let facts = (sound _ has.stages after).facts in
    let h : true ≡ false = (facts 2 (IFlagged 1) refl).0 in cc

-- the events up to the flag
to_flag : Run opened (by (act.Begin (Insert 5 50)) ∷ by act.Upd ∷ by act.Down ∷ by act.Claim ∷ by act.IFlag ∷ [])
    (shown.Step Moved ∷ shown.Step Moved ∷ shown.Step Moved ∷ shown.Step Moved ∷ shown.Step Won ∷ []) flagged_state
to_flag =
    (begun_state, begins, (read_state, reads, (down_state, goes_down, (claimed_state, claims_card, (flagged_state, flags_root, refl)))))

opens : IsOpening opened
unfolding opening
opens = openings_open setup can_open

-- the first win of card 1 is its flag
pub child_not_first : ¬ ChildExchangesComeFirst
unfolding to_flag
child_not_first first =
    ⊎_elim (λ begins. let h : exchange.IFlag ∷ begins.rest ≡ exchange.IChild ∷ exchange.IFlag ∷ exchange.IUnflag ∷ [] = begins.together in cc)
    (⊎_elim (λ begins. let h : exchange.IFlag ∷ begins.rest ≡ exchange.DFlag ∷ exchange.Mark ∷ exchange.DChild ∷ exchange.DUnflag ∷ [] = begins.together in cc)
    (λ begins. let h : exchange.IFlag ∷ begins.rest ≡ exchange.DFlag ∷ exchange.Backtrack ∷ [] = begins.together in cc))
    (first opened
    (by (act.Begin (Insert 5 50)) ∷ by act.Upd ∷ by act.Down ∷ by act.Claim ∷ by act.IFlag ∷ [])
    (shown.Step Moved ∷ shown.Step Moved ∷ shown.Step Moved ∷ shown.Step Moved ∷ shown.Step Won ∷ []) flagged_state opens to_flag 1)

-- a leaf is not internal
no_inner : (x : ℕ) → IsLeaf x → {w : Words} {key y : ℕ} → OnWalk w key x y → y ≡ x
no_inner x outer (here e) = e
no_inner x outer (next inner on) = absurd (outer inner)

leaf_one : IsLeaf 1
leaf_one e = let h : ◌≡◌ {A = ℕ} 1 0 = e in omega arith

leaf_five : IsLeaf 5
leaf_five e = let h : ◌≡◌ {A = ℕ} 1 0 = e in omega arith

-- a look of key 5 that loads the root's child before the exchange ends at the old leaf
early_look : Looks 5 flagged_state (by (act.IChild 1) ∷ []) (shown.Step Won ∷ []) changed_state 0 1
early_look = loads refl (stays changes_child (ends refl refl))

-- one that loads it after the exchange ends at the new leaf
late_look : Looks 5 flagged_state (by (act.IChild 1) ∷ []) (shown.Step Won ∷ []) changed_state 0 5
late_look = stays changes_child (loads refl (loads refl (ends refl refl)))

-- the old leaf is not on the walk afterwards
not_later : (x y : ℕ) → OnWalk changed_state.words 5 x y → x ≡ 0 → y ≡ 1 → ⊥
not_later x y (here e) root leaf = omega arith
not_later x y (next inner (here e)) root leaf =
    let h : y ≡ 4 = subst (λ n. y ≡ child_for changed_state.words 5 n) root e in omega arith
not_later x y (next inner (next inner' on)) root leaf =
    let down : OnWalk changed_state.words 5 5 y =
    subst (λ n. OnWalk changed_state.words 5 (child_for changed_state.words 5 (child_for changed_state.words 5 n)) y) root on in
    let h = no_inner 5 leaf_five down in omega arith

-- the new leaf was not on it before
not_before : (x y : ℕ) → OnWalk flagged_state.words 5 x y → x ≡ 0 → y ≡ 5 → ⊥
not_before x y (here e) root leaf = omega arith
not_before x y (next inner on) root leaf =
    let down : OnWalk flagged_state.words 5 1 y = subst (λ n. OnWalk flagged_state.words 5 (child_for flagged_state.words 5 n) y) root on in
    let h = no_inner 1 leaf_one down in omega arith

pub not_of_last : ¬ LooksAreOfTheLastState
not_of_last law = not_later 0 1 (law 5 flagged_state (by (act.IChild 1) ∷ []) (shown.Step Won ∷ []) changed_state 1 flagged_passed (omega arith) early_look leaf_one) refl refl

pub not_of_first : ¬ LooksAreOfTheFirstState
not_of_first law = not_before 0 5 (law 5 flagged_state (by (act.IChild 1) ∷ []) (shown.Step Won ∷ []) changed_state 5 flagged_passed (omega arith) late_look leaf_five) refl refl
