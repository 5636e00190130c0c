-- A load of a look by which a pass sees all of its table's history, and where in it what the look has found stands.
use Rattle.std.proofs.Common.{◌≡◌, ◌≢◌, ℕ, ◌<◌, Some, None, List, [], ◌∷◌, refl, sym, ap, ◌∙◌, subst}
use mathlib.Core.Option.{some}
use lib.ListN.{get_elem?}
use Rattle.atomic_table.specs.Table.{Allows}
use Rattle.ell_runs.specs.declared.call.Call.{Call}
use Rattle.ell_runs.specs.declared.call.Call.TheVariants as call
use Rattle.ell_cards.specs.declared.pass.Standing.{Standing}
use Rattle.ell_cards.specs.declared.share.Share.{Share}
use Rattle.ell_runs.specs.declared.view.Event.{Event}
use Rattle.ell_cards.specs.declared.view.Known.{Known}
use Rattle.ell_runs.specs.declared.view.Sight.{Sight}
use Rattle.ell_runs.specs.declared.view.Slots.{Slots}
use Rattle.ell_runs.specs.declared.view.View.{View}
use Rattle.ell_cards.specs.Apart.{IsApart}
use Rattle.ell_runs.specs.Calls.{Load, May, atomic_of}
use Rattle.ell_cards.specs.Addresses.{place_of}
use Rattle.ell_runs.specs.Histories.{event_of, history_of}
use Rattle.ell_cards.specs.Inside.{PassFits, StandingFits}
use Rattle.ell_runs.specs.LookPlaces.{FindsHavePlaces, SeesMoreInLook}
use Rattle.ell_cards.specs.Models.{PassModel, TableModel}
use Rattle.ell_runs.specs.Plans.{TablePlan}
use Rattle.ell_cards.specs.Epochs.{WholeState, whole_size}
use Rattle.ell_runs.specs.Seeing.{HasSeen, IsCalm}
use Rattle.ell_cards.specs.Shown.{shown, shown_call}
use Rattle.ell_runs.specs.Starts.{SlotsFit}
use Rattle.ell_cards.specs.Stepping.{IsQuiet, MayInTable, MayTell}
use Rattle.ell_cards.specs.Refinement.{MayInMemory}
use Rattle.ell_runs.specs.Turns.{Makes, state_after, view_after}
use Rattle.ell_cards.specs.Whole.{IsWhole}
use Rattle.ell_runs.proofs.lemmas.runs.Reaching.{call_on}
use Rattle.ell_cards.proofs.lemmas.seats.Opened.{asks_there, owed_by}
use Rattle.ell_runs.proofs.lemmas.seats.Seats.{set_there}
use Rattle.ell_cards.proofs.lemmas.whole.Calling.{goes_by, load_does, load_flags, load_stores, tree_here}
use Rattle.ell_cards.proofs.lemmas.whole.Calling.Notes.{nothing}
use Rattle.ell_cards.proofs.lemmas.whole.Lifts.{plain_shown, stores_word}
use Rattle.ell_cards.proofs.lemmas.whole.LookPlaces.{finds_have_places}
use Rattle.ell_cards.proofs.lemmas.whole.Seeing.{history_snoc, part_on}
use Rattle.ell_cards.proofs.lemmas.whole.Sighting.{sees_all, sighted_all}

-- what the pass knows then
abbrev pub TellsPlaces : TablePlan → View → Sight → Sight → Type 0
TellsPlaces plan v old new = SeesMoreInLook old new × FindsHavePlaces plan v new

-- a call that begins and answers nothing as it is shown does so
calm_whole : (c : Call) → IsCalm (shown_call c) → IsCalm c
calm_whole (call.Begin op) calm = calm
calm_whole (call.Answer said took) calm = calm
calm_whole call.Look calm = calm
calm_whole _ calm = tt

module _ (plan : TablePlan) (k : Known) (s : WholeState) (h : IsWhole plan s) (id : ℕ) (here : get_elem? s.views id ≡ some k) where
  abbrev past : List Event
  past = history_of h.reached.turns

  abbrev all_by : Call → Sight
  all_by = sees_all plan h.tree h.reached id k.tree (tree_here plan s h id k here) s.views k here refl h.seen h.made h.silent h.apart

  told_places : (d : Call) → May plan d k.tree → IsCalm d → IsApart plan (view_after h.tree k.tree d) → TellsPlaces plan (shown (view_after h.tree k.tree d)) k.sight (all_by d)
  told_places d may calm apart =
      let there = tree_here plan s h id k here in
      let v = view_after h.tree k.tree d in
      let snoc = history_snoc h.reached.turns (Makes id d) in
      let sees = sighted_all plan h.tree h.reached id k.tree there s.views k here refl h.seen h.made h.silent h.apart d calm in
      let told = finds_have_places plan (state_after h.tree id k.tree d) (call_on plan h.tree h.reached id d k.tree there may) id v (set_there h.tree.views id v k.tree there) apart (all_by d)
      (subst (λ (l : List Event). HasSeen l id (all_by d)) (sym snoc) sees.seen) in (
        record { more = record { more = part_on k.sight.seen past (event_of (Makes id d) ∷ []) (h.seen id k here).part; mine = refl }; begun = refl; looked = refl },
        subst (λ (l : List Event). FindsHavePlaces plan (shown v) (record k.sight { seen = l })) snoc told,
      )

-- so the rule allows it
look_goes : (plan : TablePlan) (k : Known) (c : Call) (told : ℕ → View → Type 0) → May plan c (shown k.tree) → ((s : Slots) → plan.slots ≡ Some s → MayInMemory s k.participant.slot k.participant.retired (shown k.tree) c)
    → (plan.slots ≢ None → k.participant.lost ≡ None) → atomic_of c ≡ Load → IsQuiet c → IsCalm c → MayTell plan c (shown k.tree) told
    → (id : ℕ) → Allows (IsWhole plan) 0 id (k, []) (place_of c) (λ n. n) (λ n x. told n (shown x.0.tree) × (x.0.participant ≡ k.participant) × (x.1 ≡ []) × TellsPlaces plan (shown x.0.tree) k.sight x.0.sight)
look_goes plan k c told may asks unlost load quiet calm tells id s h homes here small =
    goes_by plan k c (λ n. n) told (λ n. k.participant) (stores_word c Load load tt (plain_shown c (load_stores c load))) may asks unlost (load_does plan c load) (λ some none. quiet) (λ fill. absurd (load_stores c load fill)) tells
    (λ n word. nothing refl (λ some d flags. absurd (load_flags c load d flags))) id s h here small (λ v g. TellsPlaces plan (shown v) k.sight g)
    (all_by plan k s h id here)
    (λ d may is. sighted_all plan h.tree h.reached id k.tree (tree_here plan s h id k here) s.views k here refl h.seen h.made h.silent h.apart d (calm_whole d (subst IsCalm (sym is) calm)))
    (λ d may is apart. told_places plan k s h id here d may (calm_whole d (subst IsCalm (sym is) calm)) apart) plan.slots refl

-- what the load owes, by what its caller says of the table and the pass
module _ (t u : TableModel) (p q : PassModel) (same_table : t ≡ u) (same_pass : p ≡ q) (own : q.table ≡ u.id) (size : t.id.words ≡ whole_size t.plan) (fit : SlotsFit t.plan t.plan.slots) where
  pub owed_looked : (k : Known) → shown k.tree ≡ p.view → (seat : ℕ) → k.participant.slot ≡ p.memory.slot → k.participant.retired ≡ p.memory.retired → (held : List (ℕ × Unit {0})) (keys : List ℕ) (share : Share) (standing : Standing) (word : ℕ)
      (told : ℕ → View → Type 0) (c : Call) → t.id.slots ≡ 0 → held ≡ [] → PassFits keys share p.table.words p.view → StandingFits standing p.table.words k.participant
      → word ≡ place_of c → May u.plan c q.view → MayInTable u.plan q c → atomic_of c ≡ Load → IsQuiet c → IsCalm c → MayTell u.plan c q.view told
      → (p.table ≡ t.id) × (word < t.id.words)
      × Allows (IsWhole t.plan) t.id.slots seat (k, held) word (λ n. n) (λ n x. told n (shown x.0.tree) × (x.0.participant ≡ k.participant) × (x.1 ≡ held) × TellsPlaces u.plan (shown x.0.tree) k.sight x.0.sight)
  owed_looked k shows seat slotted retires held keys share standing word told c none empty fits placed at may kept load quiet calm tells =
      let is : q.view ≡ shown k.tree = ap (λ (m : PassModel). m.view) (sym same_pass) ∙ sym shows in
      owed_by t u p q same_table same_pass own size fit k seat slotted held keys share standing word (λ n. n)
      (λ n x l. told n (shown x.0.tree) × (x.0.participant ≡ k.participant) × (x.1 ≡ l) × TellsPlaces u.plan (shown x.0.tree) k.sight x.0.sight) c none empty fits placed at may kept
      (look_goes u.plan k c told (subst (May u.plan c) is may) (asks_there t u p q same_table same_pass own size fit k shows slotted retires c kept) (λ some. placed.lost) load quiet calm (subst (λ v. MayTell u.plan c v told) is tells))
