use Rattle.std.proofs.Common.{◌≡◌, ℕ, zero, suc, Option, Some, List, [], ◌∷◌, inl, inr, refl, sym, ap, ◌∙◌, subst, arith}
use Rattle.std.proofs.lemmas.Bool.{cases_lt}
use mathlib.Core.Option.{some, some-injective, some-ne-none}
use lib.ListN.{get_elem?}
use Rattle.ell_runs.proofs.lemmas.words.Lists.{at_map}
use Rattle.ell_ops.specs.declared.op.Op.{Op}
use Rattle.ell_ops.specs.declared.reply.Reply.{Reply}
use Rattle.ell_ops.specs.Contents.{contents_of}
use Rattle.ell_runs.specs.declared.call.Call.TheVariants as call
use Rattle.ell_runs.specs.declared.view.View.{View}
use Rattle.ell_runs.specs.Plans.{TablePlan}
use Rattle.ell_runs.specs.Views.{IsFree}
use Rattle.ell_runs.specs.States.{TableState}
use Rattle.ell_runs.specs.Starts.{Starts}
use Rattle.ell_runs.specs.Turns.{Turn, Makes, TableRun}
use Rattle.ell_runs.specs.Linearizing.{IsAnswered, AnswersEndCalls, Item, HasItem, IsLinearized, KeepsOnBetween}
use Rattle.ell_runs.specs.declared.view.Event.{Event}
use Rattle.ell_runs.specs.declared.view.Event.TheVariants.{Begins, Ends, Looks}
use Rattle.ell_runs.specs.Histories.{IsCall, IsLinearizable, event_of, history_of, HistoriesAreLinearizable}
use Rattle.ell_runs.proofs.lemmas.seats.Seats.{inside}
use Rattle.ell_runs.proofs.lemmas.runs.Linearizing.{linearized}
use Rattle.ell_runs.proofs.lemmas.runs.Pending.{in_hand}
use Rattle.ell_runs.proofs.lemmas.runs.Took.{has_taken, taken_stands}

-- what is in a list of events is of a turn
record OfTurn (turns : List Turn) (k : ℕ) (e : Event) : Type 0 where
  turn : Turn
  at : get_elem? turns k ≡ some turn
  is : event_of turn ≡ e

of_turn : (turns : List Turn) (k : ℕ) (e : Event) → get_elem? (history_of turns) k ≡ some e → OfTurn turns k e
of_turn [] k e at = absurd (some-ne-none e (sym at))
of_turn (t ∷ ts) zero e at = record { turn = t; at = refl; is = some-injective (event_of t) e at }
of_turn (t ∷ ts) (suc k) e at = (let rest = of_turn ts k e at in record { turn = rest.turn; at = rest.at; is = rest.is })

-- a begin and an end are those of a turn
begin_is : (t : Turn) (seat : ℕ) (op : Op) → event_of t ≡ Begins seat op → t ≡ Makes seat (call.Begin op)
begin_is (Makes other (call.Begin o)) seat op e = cc
begin_is (Makes other (call.Answer said took)) seat op e = absurd cc
begin_is _ seat op e = absurd cc

end_is : (t : Turn) (seat : ℕ) (said : Reply) (took : Option ℕ) → event_of t ≡ Ends seat said took → t ≡ Makes seat (call.Answer said took)
end_is (Makes other (call.Answer r taken)) seat said took e = cc
end_is (Makes other (call.Begin o)) seat said took e = absurd cc
end_is _ seat said took e = absurd cc

look_is : (t : Turn) (seat : ℕ) → event_of t ≡ Looks seat → t ≡ Makes seat call.Look
look_is (Makes other call.Look) seat e = cc
look_is (Makes other (call.Begin o)) seat e = absurd cc
look_is (Makes other (call.Answer r took)) seat e = absurd cc
look_is _ seat e = absurd cc

pub look_at : (turns : List Turn) (k seat : ℕ) → get_elem? (history_of turns) k ≡ some (Looks seat) → get_elem? turns k ≡ some (Makes seat call.Look)
look_at turns k seat at = (let t = of_turn turns k (Looks seat) at in t.at ∙ ap (λ (u : Turn). some u) (look_is t.turn seat t.is))

pub begin_at : (turns : List Turn) (k seat : ℕ) (op : Op) → get_elem? (history_of turns) k ≡ some (Begins seat op) → get_elem? turns k ≡ some (Makes seat (call.Begin op))
begin_at turns k seat op at = (let t = of_turn turns k (Begins seat op) at in t.at ∙ ap (λ (u : Turn). some u) (begin_is t.turn seat op t.is))

pub end_at : (turns : List Turn) (k seat : ℕ) (said : Reply) (took : Option ℕ) → get_elem? (history_of turns) k ≡ some (Ends seat said took) → get_elem? turns k ≡ some (Makes seat (call.Answer said took))
end_at turns k seat said took at = (let t = of_turn turns k (Ends seat said took) at in t.at ∙ ap (λ (u : Turn). some u) (end_is t.turn seat said took t.is))

-- the call of a run is one of its history
pub call_of : (turns : List Turn) (begin end : ℕ) (op : Op) (said : Reply) (h : IsAnswered turns begin end op said) → IsCall (history_of turns) begin end op said h.took
call_of turns begin end op said h = record {
  seat = h.seat;
  begins = at_map event_of turns begin (Makes h.seat (call.Begin op)) h.begins;
  later = h.later;
  none = λ k o low high at. (h.on k (Makes h.seat (call.Begin o)) low high (begin_at turns k h.seat o at)).0 refl;
  ends = at_map event_of turns end (Makes h.seat (call.Answer said h.took)) h.answers;
}

answer_seat : (seat other : ℕ) (said o : Reply) (took taken : Option ℕ) → Makes seat (call.Answer said took) ≡ Makes other (call.Answer o taken) → seat ≡ other
answer_seat seat other said o took taken e = cc

-- a call of the history goes on until it is answered
pub goes_on : (turns : List Turn) → AnswersEndCalls turns → (begin end : ℕ) (op : Op) (said : Reply) (took : Option ℕ) (h : IsCall (history_of turns) begin end op said took)
    → KeepsOnBetween h.seat turns begin end
goes_on turns answers begin end op said took h =
    let ends = end_at turns end h.seat said took h.ends in
    let its = answers h.seat end said took ends in
    let e = its.ended in
    let seat = answer_seat e.seat h.seat said said e.took took (some-injective (Makes e.seat (call.Answer said e.took)) (Makes h.seat (call.Answer said took)) (sym e.answers ∙ ends)) in
    let began = subst (λ x. get_elem? turns its.begin ≡ some (Makes x (call.Begin its.op))) seat e.begins in
    let place : its.begin ≡ begin = elim (cases_lt begin its.begin) [
      | inl low ↦ absurd (h.none its.begin its.op low e.later (at_map event_of turns its.begin (Makes h.seat (call.Begin its.op)) began))
      | inr most ↦ elim (cases_lt its.begin begin) [
        | inl low ↦ absurd ((e.on begin (Makes h.seat (call.Begin op)) low h.later (begin_at turns begin h.seat op h.begins)).0 (sym seat))
        | inr least ↦ omega arith
      ]
    ] in
    subst (λ x. KeepsOnBetween x turns begin end) seat (subst (λ n. KeepsOnBetween e.seat turns n end) place e.on)

-- and the other way round
abbrev pub answered_of : (turns : List Turn) → AnswersEndCalls turns → (begin end : ℕ) (op : Op) (said : Reply) (took : Option ℕ) → IsCall (history_of turns) begin end op said took
    → IsAnswered turns begin end op said
answered_of turns answers begin end op said took h = record {
  seat = h.seat;
  begins = begin_at turns begin h.seat op h.begins;
  later = h.later;
  on = goes_on turns answers begin end op said took h;
  took = took;
  answers = end_at turns end h.seat said took h.ends;
}

module _ (plan : TablePlan) (opened : TableState) (starts : Starts plan opened) (turns : List Turn) (s' : TableState) (run : TableRun plan opened turns s') where
  -- the sequence of the run's calls
  abbrev pub lin : IsLinearized plan opened turns s'
  lin = linearized plan opened starts turns s' run

  -- is that of its history
  abbrev pub linear_of : IsLinearizable (contents_of plan.start) (history_of turns)
  linear_of = record {
    order = lin.order;
    ended = λ begin end op said took h. lin.calls.ended begin end op said (answered_of turns lin.answers begin end op said took h);
    other = λ item there. elim (lin.calls.other item there) [
      | inl made ↦ inl (made.0, made.1.took, call_of turns item.begin made.0 item.op item.reply made.1)
      | inr pending ↦ inr (record {
        seat = pending.changes.by.work.seat;
        begins = at_map event_of turns item.begin (Makes pending.changes.by.work.seat (call.Begin item.op)) pending.changes.begins;
        none = λ end o said took h. pending.unended end o said (answered_of turns lin.answers item.begin end o said took h);
      })
    ];
    once = lin.calls.once;
    keeps = λ i j x y at at' end took h less. lin.keeps i j x y at at' end (answered_of turns lin.answers x.begin end x.op x.reply took h) less;
    replies = lin.replies;
    takes = λ i x at end value h.
        let answered = answered_of turns lin.answers x.begin end x.op x.reply (Some value) h in
        taken_stands plan opened starts turns s' run x.begin x.op value (has_taken plan opened starts turns s' run x.begin end x.op x.reply answered value refl) i x.reply at;
  }

  -- it has only calls that have ended, where nobody has anything in hand
  pub ended_only : ((j : ℕ) (u : View) → get_elem? s'.views j ≡ some u → IsFree u) → (x : Item) → HasItem lin.order x → (end : ℕ) × IsAnswered turns x.begin end x.op x.reply
  ended_only free x there = elim (lin.calls.other x there) [
    | inl ended ↦ ended
    | inr pending ↦ absurd (in_hand plan opened starts turns s' run x.begin pending.change x.op pending.changes pending.unended
        (inside turns pending.change pending.changes.by.turn pending.changes.by.is.at) free)
  ]

-- the history of each run from a start is linearizable
pub histories_are_linearizable : HistoriesAreLinearizable
histories_are_linearizable plan opened starts turns s' run =
    record { linear = linear_of plan opened starts turns s' run; leaves = (lin plan opened starts turns s' run).leaves }
