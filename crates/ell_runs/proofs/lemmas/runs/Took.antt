use Rattle.std.proofs.Common.{◌≡◌, ℕ, suc, if◌then◌else◌, Option, Some, None, IfSome, List, [], ◌∷◌, length, take, inl, inr, sym, ap, ◌∙◌, subst, arith, eq-eqb}
use Rattle.std.proofs.lemmas.Option.{same_Some}
use mathlib.Core.Option.{some}
use lib.ListN.{get_elem?}
use Rattle.ell_ops.specs.declared.op.Op.{Op}
use Rattle.ell_ops.specs.declared.op.Op.TheVariants.{Delete}
use Rattle.ell_ops.specs.declared.reply.Reply.{Reply}
use Rattle.ell_ops.specs.declared.reply.Reply.TheVariants.{Yes}
use Rattle.ell_ops.specs.Contents.{Contents, contents_of}
use Rattle.ell_ops.specs.Meaning.{key_of, final}
use Rattle.ell_core.specs.acts.Searching.{leaf_answer}
use Rattle.ell_core.specs.declared.exchange.Exchange.TheVariants as exchange
use Rattle.ell_layout.specs.Cards.{card_value}
use Rattle.ell_core.proofs.lemmas.outcomes.Decide.{some_not_none}
use Rattle.ell_runs.specs.declared.view.View.{View}
use Rattle.ell_runs.specs.Plans.{TablePlan}
use Rattle.ell_runs.specs.Views.{Does}
use Rattle.ell_runs.specs.States.{TableState}
use Rattle.ell_runs.specs.Starts.{Starts}
use Rattle.ell_runs.specs.Turns.{Turn, TableRun}
use Rattle.ell_runs.specs.TurnEffects.{own_words, turn_wins}
use Rattle.ell_runs.specs.Changing.{FindsItsValue}
use Rattle.ell_runs.specs.Linearizing.{IsAnswered, ChangesAt, Item, ops_of, StandsIn}
use Rattle.ell_runs.specs.Guards.{TakesBy}
use Rattle.ell_runs.proofs.lemmas.runs.Points.{called_does}
use Rattle.ell_runs.proofs.lemmas.runs.TurnsOfRuns.{turn_lawful}
use Rattle.ell_runs.proofs.lemmas.runs.Taking.{told_is_value}
use Rattle.ell_runs.proofs.lemmas.runs.LinearizingLists.{right_map, in_at, placed_at}
use Rattle.ell_runs.proofs.lemmas.runs.Linearizing.{all_calls, sequence, every_change, every_reading, same_change, crossed}
use Rattle.ell_runs.proofs.lemmas.runs.LinearizingPoints.{same_begin, called, called_took, Changed, after_turns, kept, map_after, is_map, first_map, made, slice, run_slice, changed_of, change_before, settled_at, point_at}

module _ (plan : TablePlan) (opened : TableState) (starts : Starts plan opened) (turns : List Turn) (s' : TableState) (run : TableRun plan opened turns s') where
  abbrev state : ℕ → TableState
  state = after_turns plan opened starts turns s' run

  -- a call has taken this value: it changes the tree in a turn before which the tree has its key with the value
  pub record HasTaken (i : ℕ) (op : Op) (value : ℕ) : Type 0 where
    pub change : ℕ
    pub changes : ChangesAt plan opened turns i change op
    pub had : map_after plan opened starts turns s' run change (key_of op) ≡ Some value

  -- a delete that changes the tree has this card in hand, whose value is what its pass is told of the leaf later
  by_change : (i q p : ℕ) (key : ℕ) (h : IsAnswered turns i p (Delete key) Yes) (g : ChangesAt plan opened turns i q (Delete key)) (v : View) → get_elem? (state p).views h.seat ≡ some v
      → Does v (Delete key) → (value : ℕ) → TakesBy v (Delete key) Yes value → HasTaken i (Delete key) value
  by_change i q p key h g v there does value told =
      let seat : g.by.work.seat ≡ h.seat = (same_begin turns i g.by.work.seat h.seat (Delete key) (Delete key) g.begins h.begins).0 in
      let c = subst (λ x. Changed plan opened starts turns s' run x i q (Delete key)) seat (changed_of plan opened starts turns s' run i q (Delete key) g) in
      let before = change_before plan opened starts turns s' run i q p (Delete key) (Delete key) Yes h c in
      let card : c.card ≡ told.card = elim (settled_at plan opened starts turns s' run h.seat i q (Delete key) c p before h.on v there) [
        | inl free ↦ absurd (some_not_none does free)
        | inr held ↦ same_Some c.card told.card (sym held.holds ∙ told.holds)
      ] in
      let now = made plan opened starts turns s' run q c.turn c.at in
      let lawful = turn_lawful plan (state q) (kept plan opened starts turns s' run q) c.turn (state (suc q)) now in
      let mine : c.changes.card ≡ told.card = sym c.same ∙ card in
      let wins : turn_wins (state q) c.turn told.card ≡ exchange.DChild ∷ [] =
      c.changes.own told.card ∙ ap (λ b. if b then exchange.DChild ∷ [] else []) (eq-eqb told.card c.changes.card (sym mine)) in
      let same = told_is_value plan (state q) (kept plan opened starts turns s' run q) c.turn (state (suc q)) now told.card wins (slice plan opened starts turns s' run q p) (state p)
      (run_slice plan opened starts turns s' run q p (omega arith)) h.seat v there told.leaf value told.at_leaf told.at_value in
      let finds : FindsItsValue (Delete key) c.changes.card (own_words (state q)) = c.changes.finds (state (suc q)) lawful.1.tree in
      record {
        change = q;
        changes = g;
        had = (is_map plan opened starts turns s' run q key (card_value (own_words (state q)) c.changes.card)).0 finds ∙ ap Some (ap (card_value (own_words (state q))) mine ∙ same);
      }

  -- one that answers at a leaf does not say yes
  no_leaf_yes : (key : ℕ) (there : Option ℕ) → leaf_answer (Delete key) there ≡ Some Yes → ⊥
  no_leaf_yes key None e = cc
  no_leaf_yes key (Some value) e = cc

  -- what a call takes that ends in a turn
  abbrev TakesAt : ℕ → ℕ → View → ℕ → Op → Reply → Type 0
  TakesAt i p v value op said =
      (h : IsAnswered turns i p op said) → get_elem? (state p).views h.seat ≡ some v → Does v op → TakesBy v op said value → HasTaken i op value

  takes_at : (i p : ℕ) (op : Op) (said : Reply) (v : View) (value : ℕ) → TakesBy v op said value → TakesAt i p v value op said
  takes_at i p op said v value t =
      subst (λ r. TakesAt i p v value op r) (sym t.says) (subst (λ o. TakesAt i p v value o Yes) (sym t.deletes) (base t.key))
    where
      base : (key : ℕ) → TakesAt i p v value (Delete key) Yes
      base key h there does t = elim (point_at plan opened starts turns s' run i p (Delete key) Yes h) [
        | inl leaf ↦ absurd (no_leaf_yes key leaf.0.there leaf.0.says)
        | inr card ↦ by_change i card.1.change p key h card.1.changes v there does value t
      ]

  -- a call takes what the pass that answers it was told of its card's leaf
  pub has_taken : (i p : ℕ) (op : Op) (said : Reply) (h : IsAnswered turns i p op said) (value : ℕ) → h.took ≡ Some value → HasTaken i op value
  has_taken i p op said h value took =
      let call = called plan opened starts turns s' run i p op said h in
      let may = call.answers.may in
      let v = call.answers.view in
      let is = called_does plan (state i) (kept plan opened starts turns s' run i) h.seat op (state (suc i)) (slice plan opened starts turns s' run (suc i) p) (state p) said call in
      let t : TakesBy v may.op said value = subst (λ o. IfSome o (TakesBy v may.op said)) (called_took plan opened starts turns s' run i p op said h ∙ took) may.takes in
      takes_at i p op said v value (subst (λ o. TakesBy v o said value) is t) h call.answers.there (may.busy ∙ ap Some is) (subst (λ o. TakesBy v o said value) is t)

  abbrev order : List Item
  order = sequence plan opened starts turns s' run

  -- where such a call stands in the sequence of the run, one thread has its key with the value
  pub taken_stands : (i : ℕ) (op : Op) (value : ℕ) → HasTaken i op value → (k : ℕ) (said : Reply) → StandsIn order k (record { begin = i; op = op; reply = said })
      → final (contents_of plan.start) (ops_of (take k order)) (key_of op) ≡ Some value
  taken_stands i op value t k said there =
      let calls = all_calls plan opened starts turns s' run in
      let x = placed_at calls.list k (record { begin = i; op = op; reply = said }) there in
      let begin : x.placed.item.begin ≡ i = ap (λ (n : Item). n.begin) x.is in
      let at : x.placed.at ≡ t.change = elim (calls.all x.placed (in_at calls.list k x.placed x.there)) [
        | inl j ↦
            let h = (every_reading plan opened starts turns s' run).each x.placed j in
            absurd (crossed plan opened starts turns s' run x.placed.item.begin i h.0 t.change x.placed.item.op op x.placed.item.reply h.2.answered h.2.leaf t.changes begin)
        | inr j ↦
            let h = (every_change plan opened starts turns s' run).each x.placed j in
            same_change plan opened starts turns s' run x.placed.item.begin i x.placed.at t.change x.placed.item.op op h.1.changes t.changes begin
      ] in
      let map_at = map_after plan opened starts turns s' run in
      let map = right_map map_at (length turns) 0 calls.list calls.right k x.placed x.there in
      ap (λ (m : Contents). final m (ops_of (take k order)) (key_of op)) (sym (first_map plan opened starts turns s' run))
      ∙ (ap (λ (m : Contents). m (key_of op)) (sym map) ∙ (ap (λ n. map_at n (key_of op)) at ∙ t.had))
