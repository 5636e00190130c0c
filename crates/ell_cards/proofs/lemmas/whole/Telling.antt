-- A load by which a pass sees all of its table's history.
use Rattle.std.proofs.Common.{◌≡◌, ◌≢◌, ℕ, ◌<◌, None, List, [], ◌∷◌, ◌++◌, set, refl, sym, ap, ◌∙◌, subst, arith}
use mathlib.Core.Option.{some}
use lib.ListN.{get_elem?}
use Rattle.atomic_table.specs.Table.{Allows}
use Rattle.ell_runs.specs.declared.call.Call.{Call}
use Rattle.ell_runs.specs.declared.call.Call.TheVariants as call
use Rattle.ell_runs.specs.declared.view.Event.{Event}
use Rattle.ell_runs.specs.declared.view.Event.TheVariants.{Quiet}
use Rattle.ell_cards.specs.declared.view.Known.{Known}
use Rattle.ell_runs.specs.declared.view.Sight.{Sight}
use Rattle.ell_runs.specs.declared.view.View.{View}
use Rattle.ell_runs.specs.Calls.{May, after}
use Rattle.ell_runs.specs.Histories.{history_of}
use Rattle.ell_cards.specs.Models.{PassModel, TableModel}
use Rattle.ell_runs.specs.Plans.{TablePlan}
use Rattle.ell_cards.specs.Epochs.{WholeState, whole_size}
use Rattle.ell_runs.specs.Seeing.{HasSeenAll, HasSeenMore, IsCalm}
use Rattle.ell_cards.specs.Shown.{shown, shown_call}
use Rattle.ell_runs.specs.Starts.{SlotsFit}
use Rattle.ell_cards.specs.Stepping.{MayTell}
use Rattle.ell_runs.specs.Turns.{Makes, state_after, view_after}
use Rattle.ell_cards.specs.Closed.{EndsHistory, HistoryEnds}
use Rattle.ell_runs.specs.Linearizing.{ops_of}
use Rattle.ell_ops.specs.Contents.{contents_of}
use Rattle.ell_ops.specs.Meaning.{final}
use Rattle.ell_cards.specs.Whole.{IsWhole}
use Rattle.ell_runs.proofs.lemmas.runs.Reaching.{call_on}
use Rattle.ell_cards.proofs.lemmas.seats.Opened.{allowed, of_table}
use Rattle.ell_runs.proofs.lemmas.seats.Seats.{set_there}
use Rattle.ell_cards.proofs.lemmas.whole.Calling.{goes_by, load_does, made_after, seen_after, silent_after, tree_here, views_after}
use Rattle.ell_cards.proofs.lemmas.whole.Calling.Notes.{nothing}
use Rattle.ell_cards.proofs.lemmas.whole.Standings.{size_some}
use Rattle.ell_cards.proofs.lemmas.whole.Seeing.{history_snoc, part_on, seen_all}
use Rattle.ell_cards.proofs.lemmas.whole.Sighting.{sees_all, sighted_all}

-- what the pass knows then
abbrev pub TellsAll : TablePlan → View → Sight → Sight → Type 0
TellsAll plan v old new = HasSeenMore old new × HasSeenAll plan v new × (new.begun ≡ old.begun)

module _ (plan : TablePlan) (k : Known) (s : WholeState) (h : IsWhole plan s) (id : ℕ) (here : get_elem? s.views id ≡ some k) where
  abbrev past : List Event
  past = history_of h.reached.turns

  -- by a load of the claim word
  told_by_next : TellsAll plan (shown k.tree) k.sight (record k.sight { seen = past ++ Quiet ∷ [] })
  told_by_next =
      let c = call.Next in
      let there = tree_here plan s h id k here in
      let sees = sighted_all plan h.tree h.reached id k.tree there s.views k here refl h.seen h.made h.silent h.apart c tt in
      let g : Sight = record k.sight { seen = past ++ Quiet ∷ [] } in
      let now : Known = record { tree = view_after h.tree k.tree c; participant = k.participant; sight = g } in
      let told = seen_all plan (state_after h.tree id k.tree c) (call_on plan h.tree h.reached id c k.tree there tt) (set s.views id now) (views_after plan s h id k here c tt tt k.participant g)
      (seen_after plan s h id k here c tt tt k.participant g sees) (made_after plan s h id k here c tt tt k.participant g sees) (silent_after plan s h id k here c tt tt k.participant g sees)
      (sees.apart now refl) id now (set_there s.views id now k here) in
      let full = subst (λ (l : List Event). HasSeenAll plan now.tree (record k.sight { seen = l })) (history_snoc h.reached.turns (Makes id c)) told.all in (
        record { more = part_on k.sight.seen past (Quiet ∷ []) (h.seen id k here).part; mine = refl },
        record { linear = full.linear; calls = full.calls; apart = full.apart; all = full.all },
        refl,
      )

  told_all : (d : Call) → May plan d k.tree → shown_call d ≡ call.Next → TellsAll plan (shown k.tree) k.sight (sees_all plan h.tree h.reached id k.tree (tree_here plan s h id k here) s.views k here refl h.seen h.made h.silent h.apart d)
  told_all call.Next may is = told_by_next
  told_all _ may is = absurd cc

  pub next_calm : (d : Call) → shown_call d ≡ call.Next → IsCalm d
  next_calm call.Next is = tt
  next_calm _ is = absurd cc

-- so the rule allows it
next_goes : (plan : TablePlan) (k : Known) (told : ℕ → View → Type 0) → (plan.slots ≢ None → k.participant.lost ≡ None) → MayTell plan call.Next (shown k.tree) told
    → (id : ℕ) → Allows (IsWhole plan) 0 id (k, []) 0 (λ n. n) (λ n x. told n (shown x.0.tree) × (x.0.participant ≡ k.participant) × (x.1 ≡ []) × TellsAll plan (shown k.tree) k.sight x.0.sight)
next_goes plan k told unlost tells id s h homes here small =
    let there = tree_here plan s h id k here in
    goes_by plan k call.Next (λ n. n) told (λ n. k.participant) tt tt (λ t some. tt) unlost (load_does plan call.Next refl) (λ some none. tt) (λ fill. absurd fill) tells
    (λ n word. nothing refl (λ some d flags. absurd flags)) id s h here small (λ v g. TellsAll plan (shown k.tree) k.sight g)
    (sees_all plan h.tree h.reached id k.tree there s.views k here refl h.seen h.made h.silent h.apart)
    (λ d may is. sighted_all plan h.tree h.reached id k.tree there s.views k here refl h.seen h.made h.silent h.apart d (next_calm plan k s h id here d is))
    (λ d may is apart. told_all plan k s h id here d may is) plan.slots refl

-- what the load owes, by what its caller says of the table and the pass
module _ (t u : TableModel) (p q : PassModel) (same_table : t ≡ u) (same_pass : p ≡ q) (own : q.table ≡ u.id) (size : t.id.words ≡ whole_size t.plan) (fit : SlotsFit t.plan t.plan.slots) where
  pub next_owed : (k : Known) → shown k.tree ≡ p.view → (seat : ℕ) (held : List (ℕ × Unit {0})) (told : ℕ → View → Type 0)
      → k.participant.lost ≡ None → t.id.slots ≡ 0 → held ≡ [] → MayTell u.plan call.Next q.view told
      → (p.table ≡ t.id) × (0 < t.id.words)
      × Allows (IsWhole t.plan) t.id.slots seat (k, held) 0 (λ n. n) (λ n x. told n (shown x.0.tree) × (x.0.participant ≡ k.participant) × (x.1 ≡ held) × TellsAll u.plan (shown k.tree) k.sight x.0.sight)
  next_owed k shows seat held told unlost none empty tells =
      let is : q.view ≡ shown k.tree = sym (shows ∙ ap (λ (m : PassModel). m.view) same_pass) in
      let goes = next_goes u.plan k told (λ some. unlost) (subst (λ v. MayTell u.plan call.Next v told) is tells) in
      let step = subst (λ (m : TableModel). (id : ℕ) → Allows (IsWhole m.plan) 0 id (k, []) 0 (λ n. n) (λ n x. told n (shown x.0.tree) × (x.0.participant ≡ k.participant) × (x.1 ≡ []) × TellsAll u.plan (shown k.tree) k.sight x.0.sight))
      (sym same_table) goes in
      let some = size_some t.plan in (
        of_table t u p q same_table same_pass own size fit,
        omega arith,
        allowed t.plan t.id.slots seat (k, held) 0 (λ n. n) (λ n x l. told n (shown x.0.tree) × (x.0.participant ≡ k.participant) × (x.1 ≡ l) × TellsAll u.plan (shown k.tree) k.sight x.0.sight) none empty step,
      )

-- what is told of the pass before it is so of the pass after it
pub all_after : (plan : TablePlan) (v w : View) (g : Sight) (n : ℕ) → w ≡ after call.Next n v → HasSeenAll plan v g → HasSeenAll plan w g
all_after plan v w g n is h = subst (λ (u : View). HasSeenAll plan u g) (sym is) (record { linear = h.linear; calls = h.calls; apart = h.apart; all = h.all })

-- what a pass knows of the history of a table that it closes
pub history_ends : (plan : TablePlan) (s : WholeState) (h : IsWhole plan s) (id : ℕ) (k : Known) → get_elem? s.views id ≡ some k → (p : PassModel) → p.view ≡ shown k.tree → p.sight ≡ k.sight
    → (cards : ℕ) → HistoryEnds plan p (record { words = h.tree.words; last_card = cards })
history_ends plan s h id k here p view sight cards =
    let told = seen_all plan h.tree h.reached s.views h.views h.seen h.made h.silent h.apart id k here in
    let past = history_of h.reached.turns in
    let ends : EndsHistory plan (record p { view = shown k.tree; sight = k.sight }) (final (contents_of plan.start) (ops_of told.all.linear.order)) = record {
      seen = past;
      more = (h.seen id k here).part;
      all = record { linear = told.all.linear; calls = told.all.calls; apart = told.all.apart; all = told.all.all };
      leaves = refl;
    } in
    record {
      left = final (contents_of plan.start) (ops_of told.all.linear.order);
      is = told.leaves;
      ends = subst (λ (q : PassModel). EndsHistory plan q (final (contents_of plan.start) (ops_of told.all.linear.order))) (λ i. record p { view = sym view i; sight = sym sight i }) ends;
    }
