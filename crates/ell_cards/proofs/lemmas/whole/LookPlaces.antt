-- Where looks stand in the history that a pass has seen.
use Rattle.std.proofs.Common.{◌≡◌, ℕ, zero, suc, ◌≤◌, Option, Some, None, List, [], ◌∷◌, length, take, drop, inl, inr, refl, sym, ap, ◌∙◌, subst, arith}
use Rattle.std.proofs.lemmas.Bool.{cases_lt}
use mathlib.Core.Option.{some, some-injective, some-ne-none}
use lib.ListN.{get_elem?}
use Rattle.ell_layout.specs.Words.{Words}
use Rattle.ell_ops.specs.Contents.{Contents, contents_of}
use Rattle.ell_runs.specs.declared.call.Call.{Call}
use Rattle.ell_runs.specs.declared.call.Call.TheVariants as call
use Rattle.ell_runs.specs.declared.view.Event.{Event}
use Rattle.ell_runs.specs.declared.view.Sight.{Sight}
use Rattle.ell_runs.specs.declared.view.View.{View}
use Rattle.ell_cards.specs.Apart.{IsApart}
use Rattle.ell_runs.specs.Changing.{HasMap}
use Rattle.ell_runs.specs.Histories.{history_of}
use Rattle.ell_runs.specs.LookPlaces.{FindsHavePlaces, HasPlaceIn, IsOnlyThere}
use Rattle.ell_runs.specs.Looking.{BeginsNothing, FoundInRun, HasBetween, HasThere, LooksOn}
use Rattle.ell_runs.specs.Plans.{TablePlan}
use Rattle.ell_runs.specs.Seeing.{HasSeen}
use Rattle.ell_cards.specs.Shown.{shown}
use Rattle.ell_runs.specs.Starts.{IsReached}
use Rattle.ell_runs.specs.States.{TableState}
use Rattle.ell_runs.specs.Turns.{Turn, Makes, Splits, Joins, TableRun}
use Rattle.ell_runs.proofs.lemmas.runs.AsMap.{map_has}
use Rattle.ell_cards.proofs.lemmas.shown.InRuns.{looks_are_of_one_state, stretches_are_of_one_state}
use Rattle.ell_runs.proofs.lemmas.runs.Histories.{answered_of, linear_of, look_at}
use Rattle.ell_runs.proofs.lemmas.runs.Linearizing.{linearized, sequence}
use Rattle.ell_runs.proofs.lemmas.runs.Placing.{look_stands}

-- where a look goes on, the pass begins no other
look_turn : (other seat : ℕ) (c : Call) → Makes other c ≡ Makes seat call.Look → (other ≡ seat) × (c ≡ call.Look)
look_turn other seat c e = (cc, cc)

none_on : (seat n : ℕ) (ts : List Turn) → LooksOn seat ts → get_elem? ts n ≡ some (Makes seat call.Look) → ⊥
none_on seat n [] on at = absurd (some-ne-none (Makes seat call.Look) (sym at))
none_on seat zero (Makes other c ∷ ts) on at =
    let same = look_turn other seat c (some-injective (Makes other c) (Makes seat call.Look) at) in
    subst BeginsNothing same.1 (on.0 same.0)
none_on seat zero (Splits other left ∷ ts) on at =
    absurd (let same = some-injective (Splits other left) (Makes seat call.Look) at in cc)
none_on seat zero (Joins one other ∷ ts) on at =
    absurd (let same = some-injective (Joins one other) (Makes seat call.Look) at in cc)
none_on seat (suc n) (Makes other c ∷ ts) on at = none_on seat n ts on.1 at
none_on seat (suc n) (Splits other left ∷ ts) on at = none_on seat n ts on.1 at
none_on seat (suc n) (Joins one other ∷ ts) on at = none_on seat n ts on.2 at

none_behind : (seat m n : ℕ) (ts : List Turn) → LooksOn seat (drop m ts) → m ≤ n → get_elem? ts n ≡ some (Makes seat call.Look) → ⊥
none_behind seat zero n ts on less at = none_on seat n ts on at
none_behind seat (suc m) n [] on less at = absurd (some-ne-none (Makes seat call.Look) (sym at))
none_behind seat (suc m) zero (t ∷ ts) on less at = absurd (omega arith)
none_behind seat (suc m) (suc n) (t ∷ ts) on less at = none_behind seat m n ts on (omega arith) at

all_turns : (turns : List Turn) → take (length turns) turns ≡ turns
all_turns [] = refl
all_turns (t ∷ ts) = ap (λ l. t ∷ l) (all_turns ts)

-- what was found of a stretch of keys is so of their map
only_there : (w : Words) (map : Contents) → HasMap w map → (low high : ℕ) (there : Option (ℕ × ℕ)) → HasBetween low high there w → IsOnlyThere low high there map
unfolding HasThere HasBetween
only_there w map are low high None so = λ key from upto. map_has w map are key None (so key from upto)
only_there w map are low high (Some pair) so = (
  map_has w map are pair.0 (Some pair.1) so.2,
  λ key from upto other. map_has w map are key None (so.3 key from upto other),
)

-- what a pass finds, wherever turns have led
module _ (plan : TablePlan) (s : TableState) (h : IsReached plan s) (id : ℕ) (v : View) (here : get_elem? s.views id ≡ some v) (apart : IsApart plan v) (g : Sight) (is : HasSeen (history_of h.turns) id g) where
  abbrev past : List Event
  past = history_of h.turns

  abbrev its_turns : List Turn
  its_turns = take (length h.turns) h.turns

  run_all : TableRun plan h.first its_turns s
  run_all = subst (λ ts. TableRun plan h.first ts s) (sym (all_turns h.turns)) h.run

  -- the pass has begun no look since it began the one that it noted
  no_earlier : (what : Words → Type 0) (found : FoundInRun plan h.first its_turns s id what) (began : ℕ) → g.looked ≡ Some began → began ≤ found.began.first
  no_earlier what found began noted = elim (cases_lt found.began.first began) [
    | inl late ↦
        let at = look_at h.turns began id (is.looks began noted) in
        absurd (none_behind id (suc found.began.first) began its_turns found.began.on (omega arith)
        (ap (λ l. get_elem? l began) (all_turns h.turns) ∙ at))
    | inr most ↦ most
  ]

  -- so what it has found since has its place
  has_place : (what : Words → Type 0) (says : Contents → Type 0) → ((w : Words) (map : Contents) → HasMap w map → what w → says map) → FoundInRun plan h.first its_turns s id what
      → (began : ℕ) → g.looked ≡ Some began → HasPlaceIn (contents_of plan.start) past (sequence plan h.first h.starts h.turns s h.run) began says
  has_place what says tells found began noted =
      let least = no_earlier what found began noted in
      let answers = (linearized plan h.first h.starts h.turns s h.run).answers in
      let all : length h.turns ≤ length h.turns = omega arith in
      let at = look_stands plan h.first h.starts h.turns s h.run (length h.turns) what (record { inside = all; seat = id; state = s; found = found }) in
      record {
        place = at.place;
        so = subst says at.leaves (tells at.words at.map at.are at.so);
        after = λ i x there end took ended first. at.after i x there end (answered_of h.turns answers x.begin end x.op x.reply took ended) (omega arith);
      }

  pub finds_have_places : FindsHavePlaces plan (shown v) (record g { seen = past })
  finds_have_places = record {
    linear = linear_of plan h.first h.starts h.turns s h.run;
    keys = λ began noted key there found.
        has_place (HasThere key there) (λ map. map key ≡ there) (λ w map are so. map_has w map are key there so)
        (looks_are_of_one_state plan (shown v) key there found h.first h.starts its_turns s run_all id v refl apart here) began noted;
    stretches = λ began noted low high there found.
        has_place (HasBetween low high there) (IsOnlyThere low high there) (λ w map are so. only_there w map are low high there so)
        (stretches_are_of_one_state plan (shown v) low high there found h.first h.starts its_turns s run_all id v refl apart here) began noted;
  }
