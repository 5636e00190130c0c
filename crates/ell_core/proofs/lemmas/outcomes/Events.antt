use Rattle.std.proofs.Common.{sym, ◌∙◌, None, ◌≡◌, ℕ, ◌<◌, ◌≤◌, refl, ap, inl, inr, arith, Bool, true, false}
use Rattle.std.proofs.lemmas.Bool.{cases_lt, false≢true}
use Rattle.ell_ops.specs.Meaning.{key_of}
use Rattle.ell_core.specs.declared.event.Act.{Act}
use Rattle.ell_core.specs.declared.event.Act.TheVariants as act
use Rattle.ell_core.specs.declared.event.CoreFault.TheVariants.{NoSuchWorker, NotOwned, NotNow, NoCards, OwnedTwice, NoMemory}
use Rattle.ell_core.specs.declared.event.Event.{Event}
use Rattle.ell_core.specs.declared.event.Shown.{Shown}
use Rattle.ell_core.specs.declared.event.Shown.TheVariants as shown
use Rattle.ell_core.specs.state.Machine.{Worker, Machine, Scene, scene, with_scene}
use Rattle.ell_core.specs.acts.Events.{Row, Guard, LacksKey, LacksCard}
use Rattle.ell_core.specs.acts.Runs.{Shows}
use Rattle.ell_core.specs.statements.Laws.{Outcome, OneOutcome}
use Rattle.ell_core.proofs.lemmas.outcomes.Decide.{Decided, HasOne, HasNone, Settled, ap2, cases_option, some_not_none}
use Rattle.ell_core.proofs.lemmas.outcomes.SearchRows.{settles_begin, settles_upd, settles_down, settles_claim, settles_again, settles_leave, settles_answer}
use Rattle.ell_core.proofs.lemmas.outcomes.ExchangeRows.{settles_iflag, settles_dflag, settles_ichild, settles_iunflag, settles_mark, settles_dchild, settles_dunflag, settles_backtrack}

-- each act in each scene has exactly one answer and scene after by its row, or none
pub settles : (a : Act) (s : Scene) → Settled (Row a s)
settles (act.Begin op) s = settles_begin op s
settles act.Upd s = settles_upd s
settles act.Down s = settles_down s
settles act.Claim s = settles_claim s
settles act.IFlag s = settles_iflag s
settles act.DFlag s = settles_dflag s
settles (act.IChild c) s = settles_ichild c s
settles (act.IUnflag c) s = settles_iunflag c s
settles (act.Mark c) s = settles_mark c s
settles (act.DChild c) s = settles_dchild c s
settles (act.DUnflag c) s = settles_dunflag c s
settles (act.Backtrack c) s = settles_backtrack c s
settles act.Again s = settles_again s
settles act.Leave s = settles_leave s
settles act.Answer s = settles_answer s

-- a worker lacks the key of an act or does not
pub decides_key : (a : Act) (v : Worker) → Decided (LacksKey a v)
decides_key (act.Begin op) v = elim (cases_option (v.ledger (key_of op))) [
  | inl w ↦ inr (λ lacks. some_not_none w.1 lacks.0)
  | inr e ↦ by (v.shared (key_of op)) refl e
]
  where
    by : (b : Bool) → v.shared (key_of op) ≡ b → v.ledger (key_of op) ≡ None → Decided (LacksKey (act.Begin op) v)
    by true shared none = inr (λ lacks. false≢true (sym lacks.1 ∙ shared))
    by false shared none = inl (none, shared)
decides_key act.Upd v = inr (λ h. h)
decides_key act.Down v = inr (λ h. h)
decides_key act.Claim v = inr (λ h. h)
decides_key act.IFlag v = inr (λ h. h)
decides_key act.DFlag v = inr (λ h. h)
decides_key (act.IChild c) v = inr (λ h. h)
decides_key (act.IUnflag c) v = inr (λ h. h)
decides_key (act.Mark c) v = inr (λ h. h)
decides_key (act.DChild c) v = inr (λ h. h)
decides_key (act.DUnflag c) v = inr (λ h. h)
decides_key (act.Backtrack c) v = inr (λ h. h)
decides_key act.Again v = inr (λ h. h)
decides_key act.Leave v = inr (λ h. h)
decides_key act.Answer v = inr (λ h. h)

-- an act lacks a card or does not
pub decides_card : (a : Act) (next cards : ℕ) → Decided (LacksCard a next cards)
decides_card (act.Begin op) next cards = inr (λ h. h)
decides_card act.Upd next cards = inr (λ h. h)
decides_card act.Down next cards = inr (λ h. h)
decides_card act.Claim next cards = elim (cases_lt cards next) [ inl h ↦ inl h | inr h ↦ inr (λ l. omega arith) ]
decides_card act.IFlag next cards = inr (λ h. h)
decides_card act.DFlag next cards = inr (λ h. h)
decides_card (act.IChild c) next cards = inr (λ h. h)
decides_card (act.IUnflag c) next cards = inr (λ h. h)
decides_card (act.Mark c) next cards = inr (λ h. h)
decides_card (act.DChild c) next cards = inr (λ h. h)
decides_card (act.DUnflag c) next cards = inr (λ h. h)
decides_card (act.Backtrack c) next cards = inr (λ h. h)
decides_card act.Again next cards = inr (λ h. h)
decides_card act.Leave next cards = inr (λ h. h)
decides_card act.Answer next cards = inr (λ h. h)

-- two outcomes that show the same and leave the same are one
same_outcome : (a : Outcome) (said : Shown) (after : Machine) → a.shown ≡ said → a.after ≡ after → a ≡ record { shown = said; after = after }
same_outcome a said after e f = ap2 (λ (x : Shown) (y : Machine). let o : Outcome = record { shown = x; after = y } in o) e f

-- what an event shows and leaves is this
abbrev Is : Shown → Machine → Shown → Machine → Type 0
Is said after other later = (other ≡ said) × (later ≡ after)

-- where an event shows this and leaves that, and nothing else, it has one outcome
one_from : (m : Machine) (e : Event) (said : Shown) (after : Machine) → Shows m e said after
    → ((other : Shown) (later : Machine) → Shows m e other later → Is said after other later) → OneOutcome m e
one_from m e said after has only = record {
  outcome = record { shown = said; after = after };
  has = has;
  only = λ o h. (let x = only o.shown o.after h in same_outcome o said after x.0 x.1);
}

-- a worker that is not there: all that the event shows is that
only_absent : (m : Machine) (e : Event) → m.count ≤ e.worker → (other : Shown) (later : Machine) → Shows m e other later → Is (shown.Refused NoSuchWorker) m other later
only_absent m e out (shown.Step said) later h = absurd (omega (arith, h.there))
only_absent m e out (shown.Refused NoSuchWorker) later h = (refl, h.1)
only_absent m e out (shown.Refused NotOwned) later h = absurd (omega (arith, h.0.0))
only_absent m e out (shown.Refused NotNow) later h = absurd (omega (arith, h.0.0))
only_absent m e out (shown.Refused NoCards) later h = absurd (omega (arith, h.0.0))
only_absent m e out (shown.Refused OwnedTwice) later h = absurd h.0.1
only_absent m e out (shown.Refused NoMemory) later h = absurd h.0.1

-- a key that is not owned: all that the event shows is that
only_not_owned : (m : Machine) (e : Event) → e.worker < m.count → LacksKey e.act (m.worker e.worker) → (other : Shown) (later : Machine) → Shows m e other later
    → Is (shown.Refused NotOwned) m other later
only_not_owned m e there lacks (shown.Step said) later h = absurd (h.happens.owned lacks)
only_not_owned m e there lacks (shown.Refused NoSuchWorker) later h = absurd (omega (arith, h.0))
only_not_owned m e there lacks (shown.Refused NotOwned) later h = (refl, h.1)
only_not_owned m e there lacks (shown.Refused NotNow) later h = absurd (h.0.1.0 lacks)
only_not_owned m e there lacks (shown.Refused NoCards) later h = absurd (h.0.1.0 lacks)
only_not_owned m e there lacks (shown.Refused OwnedTwice) later h = absurd h.0.1
only_not_owned m e there lacks (shown.Refused NoMemory) later h = absurd h.0.1

-- a guard that does not hold: all that the event shows is that
only_not_now : (m : Machine) (e : Event) → e.worker < m.count → ¬ LacksKey e.act (m.worker e.worker) → HasNone (Row e.act (scene m e.worker))
    → (other : Shown) (later : Machine) → Shows m e other later → Is (shown.Refused NotNow) m other later
only_not_now m e there owned none (shown.Step said) later h = absurd (none said h.becomes h.happens.row)
only_not_now m e there owned none (shown.Refused NoSuchWorker) later h = absurd (omega (arith, h.0))
only_not_now m e there owned none (shown.Refused NotOwned) later h = absurd (owned h.0.1)
only_not_now m e there owned none (shown.Refused NotNow) later h = (refl, h.1)
only_not_now m e there owned none (shown.Refused NoCards) later h = absurd (none h.0.1.1.said h.0.1.1.after h.0.1.1.row)
only_not_now m e there owned none (shown.Refused OwnedTwice) later h = absurd h.0.1
only_not_now m e there owned none (shown.Refused NoMemory) later h = absurd h.0.1

-- no card is left: all that the event shows is that
only_no_cards : (m : Machine) (e : Event) → e.worker < m.count → ¬ LacksKey e.act (m.worker e.worker) → Guard e.act (scene m e.worker)
    → LacksCard e.act m.words.next m.last_card → (other : Shown) (later : Machine) → Shows m e other later → Is (shown.Refused NoCards) m other later
only_no_cards m e there owned guard lacks (shown.Step said) later h = absurd (h.happens.room lacks)
only_no_cards m e there owned guard lacks (shown.Refused NoSuchWorker) later h = absurd (omega (arith, h.0))
only_no_cards m e there owned guard lacks (shown.Refused NotOwned) later h = absurd (owned h.0.1)
only_no_cards m e there owned guard lacks (shown.Refused NotNow) later h = absurd (h.0.1.1 guard)
only_no_cards m e there owned guard lacks (shown.Refused NoCards) later h = (refl, h.1)
only_no_cards m e there owned guard lacks (shown.Refused OwnedTwice) later h = absurd h.0.1
only_no_cards m e there owned guard lacks (shown.Refused NoMemory) later h = absurd h.0.1

-- the act is answered: all that the event shows and leaves is that
only_answered : (m : Machine) (e : Event) → e.worker < m.count → ¬ LacksKey e.act (m.worker e.worker) → (one : HasOne (Row e.act (scene m e.worker)))
    → ¬ LacksCard e.act m.words.next m.last_card → (other : Shown) (later : Machine) → Shows m e other later
    → Is (shown.Step one.said) (with_scene m e.worker one.after) other later
only_answered m e there owned one room (shown.Step said) later h =
    let x = one.only said h.becomes h.happens.row in (ap shown.Step x.0, h.gives ∙ ap (with_scene m e.worker) x.1)
only_answered m e there owned one room (shown.Refused NoSuchWorker) later h = absurd (omega (arith, h.0))
only_answered m e there owned one room (shown.Refused NotOwned) later h = absurd (owned h.0.1)
only_answered m e there owned one room (shown.Refused NotNow) later h = absurd (h.0.1.1 (record { said = one.said; after = one.after; row = one.row }))
only_answered m e there owned one room (shown.Refused NoCards) later h = absurd (room h.0.1.2)
only_answered m e there owned one room (shown.Refused OwnedTwice) later h = absurd h.0.1
only_answered m e there owned one room (shown.Refused NoMemory) later h = absurd h.0.1

-- an event whose guard holds has one outcome
one_guarded : (m : Machine) (e : Event) → e.worker < m.count → ¬ LacksKey e.act (m.worker e.worker) → HasOne (Row e.act (scene m e.worker)) → OneOutcome m e
one_guarded m e there owned one =
    let guard : Guard e.act (scene m e.worker) = record { said = one.said; after = one.after; row = one.row } in
    elim (decides_card e.act m.words.next m.last_card) [
      | inl lacks ↦ one_from m e (shown.Refused NoCards) m ((there, (owned, guard, lacks)), refl) (only_no_cards m e there owned guard lacks)
      | inr room ↦ one_from m e (shown.Step one.said) (with_scene m e.worker one.after)
          (record { there = there; becomes = one.after; happens = record { owned = owned; row = one.row; room = room }; gives = refl })
          (only_answered m e there owned one room)
    ]

-- an event of a worker that is there has one outcome
one_there : (m : Machine) (e : Event) → e.worker < m.count → OneOutcome m e
one_there m e there = elim (decides_key e.act (m.worker e.worker)) [
  | inl lacks ↦ one_from m e (shown.Refused NotOwned) m ((there, lacks), refl) (only_not_owned m e there lacks)
  | inr owned ↦ elim (settles e.act (scene m e.worker)) [
    | inl one ↦ one_guarded m e there owned one
    | inr none ↦ one_from m e (shown.Refused NotNow) m ((there, (owned, λ g. none g.said g.after g.row)), refl) (only_not_now m e there owned none)
  ]
]

-- each state and each event have one outcome
pub one_outcome : (m : Machine) (e : Event) → OneOutcome m e
one_outcome m e = elim (cases_lt e.worker m.count) [
  | inl there ↦ one_there m e there
  | inr out ↦ one_from m e (shown.Refused NoSuchWorker) m (out, refl) (only_absent m e out)
]
