-- What a call tells of the word that it found it tells of what is shown of it too.
use Rattle.std.proofs.Common.{◌≡◌, ◌≢◌, ℕ, zero, suc, ◌+◌, ◌≤◌, ◌<◌, Option, Some, None, refl, sym, ap, ◌∙◌, subst, arith}
use Rattle.std.specs.Option.{option_map}
use Rattle.ell_ops.specs.declared.reply.Reply.{Reply}
use Rattle.ell_word.specs.Word.{unpacked}
use Rattle.ell_word.specs.Link.{link_in}
use Rattle.ell_layout.specs.declared.field.Field.{Field}
use Rattle.ell_layout.specs.declared.field.Field.TheVariants as field
use Rattle.ell_core.specs.declared.view.Seen.{Seen}
use Rattle.ell_core.specs.state.Machine.{ledger_of, worker_of}
use Rattle.ell_core.specs.statements.Effects.{AnswersAsMap}
use Rattle.ell_runs.specs.declared.call.Call.TheVariants as call
use Rattle.ell_runs.specs.declared.view.Told.TheVariants.{Met}
use Rattle.ell_runs.specs.declared.view.View.{View}
use Rattle.ell_cards.specs.Apart.{cut_node, IsApart}
use Rattle.ell_runs.specs.Changes.{forgotten}
use Rattle.ell_runs.specs.Depths.{depth_told}
use Rattle.ell_runs.specs.Plans.{TablePlan, flat_from}
use Rattle.ell_runs.specs.Views.{InTable, IsTold, StandsAt, EndWasUnknown}
use Rattle.ell_runs.specs.Calls.{after, TellsKey, TellsNode, TellsLedgerValue}
use Rattle.ell_cards.specs.Shown.{cut_word, cut_field, shown_seen, shown, TellingsAreShown}
use Rattle.ell_cards.proofs.lemmas.shown.CutWords.{node_within, cut_node_in, cut_same, cut_within}
use Rattle.ell_cards.proofs.lemmas.shown.ShownGuards.{was_stood, outer_whole, inner_whole, inner_cut}
use Rattle.ell_runs.proofs.lemmas.views.Depths.{met_there}

some_shown : (o : Option Seen) → o ≢ None → option_map shown_seen o ≢ None
some_shown None is e = absurd (is refl)
some_shown (Some seen) is e = absurd cc

-- a child that a word says is one of the table once it is cut
in_table : (last n : ℕ) → InTable last (link_in n).node → InTable last (link_in (cut_word n)).node
in_table last n low = subst (InTable last) (sym (cut_node_in n)) (let less = node_within (link_in n).node in omega (arith, low, less))

module _ (plan : TablePlan) (v : View) (apart : IsApart plan v) where
  -- a pass stands at a node that it has met if it does by what is shown
  stands_whole : (x : ℕ) → IsTold v (Met x) → StandsAt (shown v) (cut_node x) → StandsAt v x
  stands_whole x met stands =
      let at = was_stood v.worker.search.node (cut_node x) stands in
      at.has ∙ ap Some (apart.met at.whole x (apart.names.node at.whole at.has) met at.is)

  key_shown : (x key : ℕ) → IsTold v (Met x) → TellsKey (flat_from plan) v x key → TellsKey (flat_from plan) (shown v) (cut_node x) key
  key_shown x key met tells = record {
    present = λ op busy at outer owns. tells.present op busy (stands_whole x met at) (outer_whole x (cut_node x) refl outer) owns;
    deep = λ op busy at outer same. some_shown v.worker.search.grandparent (tells.deep op busy (stands_whole x met at) (outer_whole x (cut_node x) refl outer) same);
    edge = λ op busy at inner block. tells.edge op busy (stands_whole x met at) (inner_whole x (cut_node x) refl inner) (sym (apart.blocks x met) ∙ block);
    own = λ inner block. tells.own (inner_whole x (cut_node x) refl inner) (sym (apart.blocks x met) ∙ block);
  }

  value_shown : (x value : ℕ) → IsTold v (Met x) → TellsLedgerValue v x value → TellsLedgerValue (shown v) (cut_node x) value
  value_shown x value met tells = λ op busy at told owns. tells op busy (stands_whole x met at) told owns

node_shown : (last : ℕ) (f : Field) (n : ℕ) → TellsNode last f n → TellsNode last f (cut_field f n)
node_shown last field.Gp n tells = ((let low = tells.0 in let less = node_within n in omega arith), inner_cut n tells.1)
node_shown last field.P n tells = ((let low = tells.0 in let less = node_within n in omega arith), inner_cut n tells.1)
node_shown last field.L n tells = in_table last n tells
node_shown last _ n tells = tt

answer_shown : (v : View) (said : Reply) (took : Option ℕ) (n : ℕ)
    → AnswersAsMap (worker_of v.worker) (ledger_of (after (call.Answer said took) n v).worker.ledger) said
    → AnswersAsMap (worker_of (shown v).worker) (ledger_of (after (call.Answer said took) (cut_word n) (shown v)).worker.ledger) said
answer_shown v said took n h = record {
  op = h.op;
  busy = h.busy;
  may = h.may;
  says = h.says;
  map = h.map;
  stays = h.stays;
  owned = h.owned;
}

child_shown : (plan : TablePlan) (w : View) → IsApart plan w → (last n : ℕ) → IsTold w (Met (link_in n).node) → (0 < (link_in n).node) × InTable last (link_in n).node
    → (0 < (link_in (cut_word n)).node) × InTable last (link_in (cut_word n)).node
child_shown plan w apart last n met tells = (
  subst (λ x. 0 < x) (sym (cut_node_in n)) (positive (cut_node (link_in n).node) refl),
  in_table last n tells.1,
)
  where
    positive : (m : ℕ) → cut_node (link_in n).node ≡ m → 0 < m
    positive zero e = (let root = apart.met 0 (link_in n).node apart.names.root met (sym e) in let more = tells.0 in absurd (omega (arith, root, more)))
    positive (suc m) e = omega arith

card_shown : (last n : ℕ) → (unpacked n).card ≤ last → (unpacked (cut_word n)).card ≤ last
card_shown last n tells = (let less = cut_within n in omega arith)

pub tellings_are_shown : TellingsAreShown
tellings_are_shown plan (call.Answer said took) n v apart may whole later tells = (answer_shown v said took n tells.0, tells.1)
tellings_are_shown plan call.Leave n v apart may whole later tells = tells
tellings_are_shown plan (call.Upd x) n v apart may whole later tells =
    subst (λ m. ((unpacked m).card ≤ plan.last_card) × EndWasUnknown v (unpacked m).state (unpacked m).card) (sym (cut_same n whole)) tells
tellings_are_shown plan (call.Down x right) n v apart may whole later tells = in_table plan.last_card n tells
tellings_are_shown plan call.Next n v apart may whole later tells =
    subst (λ m. (1 ≤ m) × (m ≤ plan.last_card + 1) × (v.next_at_least ≤ m)) (sym (cut_same n whole)) tells
tellings_are_shown plan (call.KeyOf x) n v apart may whole later tells =
    subst (TellsKey (flat_from plan) (shown v) (cut_node x)) (sym (cut_same n whole)) (key_shown plan v apart x n may tells)
tellings_are_shown plan (call.ValueOf x) n v apart may whole later tells =
    subst (TellsLedgerValue (shown v) (cut_node x)) (sym (cut_same n whole)) (value_shown plan v apart x n may.0 tells)
tellings_are_shown plan (call.Info c f) n v apart may whole later tells = node_shown plan.last_card f n tells
tellings_are_shown plan (call.FrozenChild c p right) n v apart may whole later tells = in_table plan.last_card n tells
tellings_are_shown plan call.Look n v apart may whole later tells =
    child_shown plan (after call.Look n v) later plan.last_card n (met_there 1 (link_in n).node forgotten) tells
tellings_are_shown plan (call.LookDown from to right) n v apart may whole later tells =
    child_shown plan (after (call.LookDown from to right) n v) later plan.last_card n (met_there (depth_told v.told from.node + 1) (link_in n).node v.told) tells
tellings_are_shown plan (call.IFlag c p from) n v apart may whole later tells = card_shown plan.last_card n tells
tellings_are_shown plan (call.DFlag c gp from) n v apart may whole later tells = card_shown plan.last_card n tells
tellings_are_shown plan (call.Mark c p was) n v apart may whole later tells = card_shown plan.last_card n tells
tellings_are_shown plan _ n v apart may whole later tells = tt
