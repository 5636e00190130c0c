use Rattle.ell_runs.specs.Starts.{Starts}
use Rattle.ell_runs.specs.Taking.{TookInRun}
use Rattle.std.proofs.Common.{◌≡◌, ℕ, ◌==◌, if◌then◌else◌, Some, None, IfSome, is_some, List, ◌∷◌, [], drop, inl, inr, refl, sym, ap, ◌∙◌, subst, Option}
use Rattle.std.proofs.lemmas.Bool.{eq-eqb}
use Rattle.std.proofs.lemmas.Option.{same_Some}
use mathlib.Core.Option.{some}
use lib.ListN.{get_elem?}
use Rattle.ell_ops.specs.Contents.{Contents, contents_of}
use Rattle.ell_ops.specs.declared.op.Op.TheVariants.{Delete}
use Rattle.ell_ops.specs.declared.reply.Reply.TheVariants.{Yes, No}
use Rattle.ell_ops.specs.Meaning.{final, reply_of, yes_if}
use Rattle.ell_core.specs.declared.exchange.Exchange.TheVariants as exchange
use Rattle.ell_layout.specs.declared.field.Field.TheVariants as field
use Rattle.ell_layout.specs.Cards.{card_value}
use Rattle.ell_core.proofs.lemmas.stages.Order.{delete_won-delete}
use Rattle.ell_core.proofs.lemmas.stages.LaterKeys.{value_later}
use Rattle.ell_core.proofs.lemmas.words.Sides.{card_value-delete}
use Rattle.ell_runs.specs.Plans.{TablePlan}
use Rattle.ell_runs.specs.declared.view.Told.TheVariants.{Info, Value}
use Rattle.ell_runs.specs.declared.view.View.{View}
use Rattle.ell_runs.specs.Views.{IsTold}
use Rattle.ell_runs.specs.States.{TableState}
use Rattle.ell_runs.specs.Machines.{HasMachine}
use Rattle.ell_runs.specs.Turns.{Turn, TableTurns, TableRun}
use Rattle.ell_runs.specs.TurnEffects.{own_words, turn_wins}
use Rattle.ell_runs.specs.Changing.{run_effects}
use Rattle.ell_ops.specs.declared.op.Op.{Op}
use Rattle.ell_runs.specs.Guards.{TakesBy}
use Rattle.ell_runs.proofs.lemmas.own_words.OwnWords.{own_taken_value}
use Rattle.ell_runs.proofs.lemmas.runs.GoingOn.{run_goes}
use Rattle.ell_runs.proofs.lemmas.runs.Points.{dchild_flagged, dchild_claimed}
use Rattle.ell_runs.proofs.lemmas.runs.Starting.{starts_are_kept}
use Rattle.ell_runs.proofs.lemmas.runs.AsMap.{trees_are_of_one_thread, run_kept}
use Rattle.ell_runs.proofs.lemmas.runs.Answering.{answers_with_card}

-- the value that goes with a delete's card before its child exchange is the one that a pass is told of the card's leaf later
pub told_is_value : (plan : TablePlan) (s : TableState) (r : HasMachine plan s) (t : Turn) (next : TableState) → TableTurns plan s t next → (c : ℕ)
    → turn_wins s t c ≡ exchange.DChild ∷ [] → (turns : List Turn) (s' : TableState) → TableRun plan s turns s' → (seat : ℕ) (v : View) → get_elem? s'.views seat ≡ some v
    → (leaf value : ℕ) → IsTold v (Info c field.L leaf) → IsTold v (Value leaf value) → card_value (own_words s) c ≡ value
told_is_value plan s r t next now c wins turns s' run seat v there leaf value told_leaf told_value =
    let won = dchild_flagged plan s r t next now c wins in
    let deletes = delete_won-delete (r.stages c) won in
    let said = (r.invariant.words.cards c).delete deletes in
    let goes = run_goes plan s r r.stages r.invariant turns s' run in
    let entries = (goes.0.views seat v there).entries in
    let at_leaf = entries (Info c field.L leaf) told_leaf in
    let at_value = entries (Value leaf value) told_value in
    let same = value_later r.words goes.0.words r.stages r.invariant.words goes.1.words (r.words.l c) leaf
    (sym at_leaf.2 ∙ (goes.1.words.info c (dchild_claimed plan s r c won)).l) said.leaf.born in
    own_taken_value plan s r c won ∙ (card_value-delete r.words c (eq-eqb _ 0 said.no_left_child) ∙ (sym same ∙ at_value.1))

-- a delete that says yes does not leave a map
says_no : (there : Contents) (key : ℕ) → Yes ≡ reply_of (Delete key) there → (if key == key then None else there key) ≡ there key → ⊥
says_no there key says leaves =
    let none : there key ≡ None = sym leaves ∙ ap (λ b. if b then None else there key) (eq-eqb key key refl) in
    let e : Yes ≡ No = says ∙ ap (λ o. yes_if (is_some o)) none in cc

-- a delete that was answered yes took what its pass says it took
pub delete_took : (plan : TablePlan) (w : View) (key : ℕ) (card : Option ℕ) (value : ℕ)
    → w.answered ≡ Some (record { op = Delete key; said = Yes; card = card; took = Some value }) → (s : TableState) → Starts plan s
    → (turns : List Turn) (s' : TableState) → TableRun plan s turns s' → (seat : ℕ) → get_elem? s'.views seat ≡ some w
    → TookInRun plan s turns s' seat key value
delete_took plan w key card value last s starts turns s' run seat there =
    let a = answers_with_card plan w (Delete key) Yes card (Some value) last s starts turns s' run seat there in
    let did = a.0 in
    let p = did.point in
    let had = final (contents_of plan.start) (run_effects plan s p.all p.state p.led) in
    let map = trees_are_of_one_thread plan s starts p.all p.state p.led in
    let kept = run_kept plan s (starts_are_kept plan s starts).kept p.all p.state p.led in
    let answering = did.called.answers.view in
    record {
      call = did;
      had = elim p.goes [
        | inl leaves ↦ absurd (says_no had key p.says (leaves had map key))
        | inr next ↦
            let holds = next.hand.holds answering did.called.answers.there in
            let may = did.called.answers.may in
            let is : may.op ≡ Delete key = same_Some may.op (Delete key) (sym may.busy ∙ a.1) in
            let t : TakesBy answering (Delete key) Yes value =
            subst (λ (o : Op). TakesBy answering o Yes value) is (subst (λ o. IfSome o (TakesBy answering may.op Yes)) a.3 may.takes) in
            let card_is : next.card ≡ t.card = same_Some next.card t.card (sym holds.0 ∙ t.holds) in
            (map key (card_value (own_words p.state) next.card)).0 next.finds
            ∙ ap (λ n. Some n) (told_is_value plan p.state kept next.turn next.next next.now next.card next.own
            (drop p.first did.during) did.at p.after seat answering did.called.answers.there t.leaf value
            (subst (λ d. IsTold answering (Info d field.L t.leaf)) (sym card_is) t.at_leaf) t.at_value)
      ];
    }
