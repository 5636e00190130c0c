-- What a call tells of the word that it found it tells by names too, where the cards of that word have low names.
use Rattle.std.proofs.Common.{◌≡◌, ◌≢◌, ℕ, zero, suc, ◌≤◌, ◌<◌, Option, Some, None, List, map, inl, inr, refl, sym, ap, ◌∙◌, subst, arith}
use Rattle.std.specs.Option.{option_map}
use Rattle.ell_ops.specs.declared.reply.Reply.{Reply}
use Rattle.ell_word.specs.declared.link.Link.{Link}
use Rattle.ell_word.specs.declared.update.State.{State}
use Rattle.ell_word.specs.declared.update.Update.{Update}
use Rattle.ell_word.specs.Link.{link_in}
use Rattle.ell_word.specs.Node.{card}
use Rattle.ell_word.specs.Word.{unpacked}
use Rattle.ell_layout.specs.declared.field.Field.{Field}
use Rattle.ell_layout.specs.declared.field.Field.TheVariants as field
use Rattle.ell_core.specs.declared.fact.Fact.{Fact}
use Rattle.ell_core.specs.declared.fact.Fact.TheVariants as fact
use Rattle.ell_core.specs.declared.view.Seen.{Seen}
use Rattle.ell_core.specs.state.Machine.{ledger_of, worker_of}
use Rattle.ell_core.specs.statements.Effects.{AnswersAsMap}
use Rattle.ell_runs.specs.declared.call.Call.{Call}
use Rattle.ell_runs.specs.declared.call.Call.TheVariants as call
use Rattle.ell_runs.specs.declared.view.View.{View}
use Rattle.ell_runs.specs.Calls.{Tells, TellsKey, TellsLedgerValue, TellsNode, after}
use Rattle.ell_runs.specs.Named.{IsNaming, FitsLink, LinksFit, GoesByName, WordFitsLink, named_node, named_child, named_seen, named_fact, named_word, named_call, named_by, named}
use Rattle.ell_runs.specs.NamedBelow.{FindsBelow, NodeBelow, WordBelow}
use Rattle.ell_runs.specs.NamedTakings.{BlocksAreNamed}
use Rattle.ell_runs.specs.Names.{top_name}
use Rattle.ell_runs.specs.Plans.{TablePlan, flat_from}
use Rattle.ell_runs.specs.Views.{EndWasUnknown, EndedBy, InTable, StandsAt}
use Rattle.ell_runs.proofs.lemmas.named.NamedHindrances.{known_named}
use Rattle.ell_runs.proofs.lemmas.named.NamedOrigins.{was_some, inner_whole, inner_by_name, outer_whole}
use Rattle.ell_runs.proofs.lemmas.named.NamedWords.{same_named, root_named, unpacked_named, link_named, card_named}

module _ (name : ℕ → ℕ) (naming : IsNaming name) (count : ℕ) (low : (c : ℕ) → c < count → name c < top_name) where
  -- the name of a node fits a link, if its card has one
  fits : (x : ℕ) → NodeBelow count x → FitsLink name x
  fits x below = (let less = low (card x) below in omega (arith, less))

  -- so does what a word of a card leads to
  word_fits : (f : Field) (n : ℕ) → WordBelow count f n → WordFitsLink name f n
  word_fits field.L n below = fits (link_in n).node below
  word_fits field.Left n below = fits (link_in n).node below
  word_fits field.Right n below = fits (link_in n).node below
  word_fits field.Gp n below = tt
  word_fits field.P n below = tt
  word_fits field.Was n below = tt
  word_fits field.Key n below = tt
  word_fits field.Update n below = tt
  word_fits field.LeftLeafKey n below = tt
  word_fits field.RightLeafKey n below = tt
  word_fits field.LeftValue n below = tt
  word_fits field.RightValue n below = tt

  -- so a call goes by names, if the cards of what it finds and expects have names
  links_fit : count ≤ top_name → (l : Link) (n : ℕ) → NodeBelow count l.node × NodeBelow count (link_in n).node → LinksFit name l n
  links_fit few l n below = record {
    low = (let less = below.0 in omega (arith, less, few));
    expected = fits l.node below.0;
    found = fits (link_in n).node below.1;
  }

  pub goes_by_name : count ≤ top_name → (c : Call) (n : ℕ) → FindsBelow count c n → GoesByName name c n
  goes_by_name few (call.Begin op) n below = tt
  goes_by_name few call.Again n below = tt
  goes_by_name few call.Leave n below = tt
  goes_by_name few (call.Answer said took) n below = tt
  goes_by_name few (call.Upd x) n below = tt
  goes_by_name few (call.Down x right) n below = fits (link_in n).node below
  goes_by_name few call.Next n below = tt
  goes_by_name few (call.KeyOf x) n below = tt
  goes_by_name few (call.ValueOf x) n below = tt
  goes_by_name few (call.Info c f) n below = word_fits f n below
  goes_by_name few (call.FrozenChild c p right) n below = fits (link_in n).node below
  goes_by_name few call.Look n below = fits (link_in n).node below
  goes_by_name few (call.LookDown from to right) n below = fits (link_in n).node below
  goes_by_name few call.Rest n below = tt
  goes_by_name few (call.Claim c node) n below = below
  goes_by_name few (call.Fill c f value) n below = tt
  goes_by_name few (call.IFlag c p from) n below = tt
  goes_by_name few (call.IChild c p l replaces right) n below = links_fit few l n below
  goes_by_name few (call.IUnflag c p) n below = tt
  goes_by_name few (call.DFlag c gp from) n below = tt
  goes_by_name few (call.Mark c p was) n below = tt
  goes_by_name few (call.DChild c gp p s right) n below = links_fit few p n below
  goes_by_name few (call.DUnflag c gp) n below = tt
  goes_by_name few (call.Backtrack c gp) n below = tt

  -- an option that has something has something by names
  some_named : (o : Option Seen) → o ≢ None → option_map (named_seen name) o ≢ None
  some_named None is e = absurd (is refl)
  some_named (Some seen) is e = absurd cc

  -- a pass stands at a node if it does by name
  stands_whole : (v : View) (x : ℕ) → StandsAt (named name v) (named_node name x) → StandsAt v x
  stands_whole v x stands =
      let at = was_some (named_node name) v.worker.search.node (named_node name x) stands in
      at.has ∙ ap Some (same_named name naming at.whole x at.is)

  -- the end of a card that was known was known by its name
  ended_whole : (facts : List Fact) (c : ℕ) → EndedBy (map (named_fact name) facts) (name c) → EndedBy facts c
  ended_whole facts c h = elim h [
    | inl over ↦ inl (sym (known_named name naming facts (fact.IOver c)) ∙ over)
    | inr rest ↦ elim rest [
      | inl over ↦ inr (inl (sym (known_named name naming facts (fact.DOver c)) ∙ over))
      | inr back ↦ inr (inr (sym (known_named name naming facts (fact.Backed c)) ∙ back))
    ]
  ]

  -- so an end that was not known was not by names
  unknown_named : (v : View) (s : State) (c : ℕ) → EndWasUnknown v s c → EndWasUnknown (named name v) s (name c)
  unknown_named v s c tells set =
      let old = tells set in
      (positive (name c) refl old.0, λ ended. old.1 (ended_whole v.knew_before c ended))
    where
      positive : (m : ℕ) → name c ≡ m → 0 < c → 0 < m
      positive zero e more = (let root = naming.apart c 0 (e ∙ sym naming.root) in absurd (omega (arith, root, more)))
      positive (suc m) e more = omega arith

  -- key_of and value_of
  key_named : (from : ℕ) → BlocksAreNamed from name → (v : View) (x key : ℕ) → TellsKey from v x key → TellsKey from (named name v) (named_node name x) key
  key_named from blocks v x key tells = record {
    present = λ op busy at outer owns. tells.present op busy (stands_whole v x at) (outer_whole name naming x (named_node name x) refl outer) owns;
    deep = λ op busy at outer same.
        some_named v.worker.search.grandparent (tells.deep op busy (stands_whole v x at) (outer_whole name naming x (named_node name x) refl outer) same);
    edge = λ op busy at inner block.
        tells.edge op busy (stands_whole v x at) (inner_whole name naming x (named_node name x) refl inner) (sym (blocks x) ∙ block);
    own = λ inner block. tells.own (inner_whole name naming x (named_node name x) refl inner) (sym (blocks x) ∙ block);
  }

  value_named : (v : View) (x value : ℕ) → TellsLedgerValue v x value → TellsLedgerValue (named name v) (named_node name x) value
  value_named v x value tells = λ op busy at told owns. tells op busy (stands_whole v x at) told owns

  -- answer
  answer_named : (v : View) (said : Reply) (took : Option ℕ) (n : ℕ)
      → AnswersAsMap (worker_of v.worker) (ledger_of (after (call.Answer said took) n v).worker.ledger) said
      → AnswersAsMap (worker_of (named name v).worker) (ledger_of (after (call.Answer said took) n (named name v)).worker.ledger) said
  answer_named v said took n h = record {
    op = h.op;
    busy = h.busy;
    may = h.may;
    says = h.says;
    map = h.map;
    stays = h.stays;
    owned = h.owned;
  }

  module _ (last : ℕ) (room : top_name ≤ last) where
    -- a node, the node of a child word, and the card of an update word are of the table by names
    node_in : (x : ℕ) → NodeBelow count x → InTable last (named_node name x)
    node_in x below = (let less = low (card x) below in omega (arith, less, room))

    child_in : (n : ℕ) → NodeBelow count (link_in n).node → InTable last (link_in (named_child name n)).node
    child_in n below =
        subst (λ (l : Link). InTable last l.node) (sym (link_named name naming n (fits (link_in n).node below))) (node_in (link_in n).node below)

    card_in : (n : ℕ) → NodeBelow count n → (unpacked (named_node name n)).card ≤ last
    card_in n below = subst (λ c. c ≤ last) (sym (card_named name naming n)) (let less = low (card n) below in omega (arith, less, room))

    -- and a child below the root is not the root
    child_above : (n : ℕ) → NodeBelow count (link_in n).node → (0 < (link_in n).node) × InTable last (link_in n).node
        → (0 < (link_in (named_child name n)).node) × InTable last (link_in (named_child name n)).node
    child_above n below tells = (
      subst (λ (l : Link). 0 < l.node) (sym (link_named name naming n (fits (link_in n).node below))) (positive (named_node name (link_in n).node) refl),
      child_in n below,
    )
      where
        positive : (m : ℕ) → named_node name (link_in n).node ≡ m → 0 < m
        positive zero e =
            let root = same_named name naming (link_in n).node 0 (e ∙ sym (root_named name naming)) in
            let more = tells.0 in absurd (omega (arith, root, more))
        positive (suc m) e = omega arith

    -- info
    info_named : (f : Field) (n : ℕ) → WordBelow count f n → TellsNode last f n → TellsNode last f (named_word name f n)
    info_named field.Gp n below tells = (node_in n below, inner_by_name name naming n (named_node name n) refl tells.1)
    info_named field.P n below tells = (node_in n below, inner_by_name name naming n (named_node name n) refl tells.1)
    info_named field.L n below tells = child_in n below
    info_named _ n below tells = tt

-- so it is of each call
pub tellings_are_named : (name : ℕ → ℕ) → IsNaming name → (count : ℕ) → ((c : ℕ) → c < count → name c < top_name) → (plan : TablePlan)
    → top_name ≤ plan.last_card → BlocksAreNamed (flat_from plan) name → (c : Call) (n : ℕ) (v : View) → FindsBelow count c n → Tells plan c v n
    → Tells plan (named_call name c) (named name v) (named_by name c n)
tellings_are_named name naming count low plan room blocks (call.Answer said took) n v below tells =
    (answer_named name naming count low v said took n tells.0, tells.1)
tellings_are_named name naming count low plan room blocks call.Leave n v below tells = tells
tellings_are_named name naming count low plan room blocks (call.Upd x) n v below tells = (
  card_in name naming count low plan.last_card room n below,
  subst (λ (u : Update). EndWasUnknown (named name v) u.state u.card) (sym (unpacked_named name naming n))
      (unknown_named name naming count low v (unpacked n).state (unpacked n).card tells.1),
)
tellings_are_named name naming count low plan room blocks (call.Down x right) n v below tells = child_in name naming count low plan.last_card room n below
tellings_are_named name naming count low plan room blocks call.Next n v below tells = tells
tellings_are_named name naming count low plan room blocks (call.KeyOf x) n v below tells = key_named name naming count low (flat_from plan) blocks v x n tells
tellings_are_named name naming count low plan room blocks (call.ValueOf x) n v below tells = value_named name naming count low v x n tells
tellings_are_named name naming count low plan room blocks (call.Info c f) n v below tells = info_named name naming count low plan.last_card room f n below tells
tellings_are_named name naming count low plan room blocks (call.FrozenChild c p right) n v below tells = child_in name naming count low plan.last_card room n below
tellings_are_named name naming count low plan room blocks call.Look n v below tells = child_above name naming count low plan.last_card room n below tells
tellings_are_named name naming count low plan room blocks (call.LookDown from to right) n v below tells =
    child_above name naming count low plan.last_card room n below tells
tellings_are_named name naming count low plan room blocks (call.IFlag c p from) n v below tells = card_in name naming count low plan.last_card room n below
tellings_are_named name naming count low plan room blocks (call.DFlag c gp from) n v below tells = card_in name naming count low plan.last_card room n below
tellings_are_named name naming count low plan room blocks (call.Mark c p was) n v below tells = card_in name naming count low plan.last_card room n below
tellings_are_named name naming count low plan room blocks _ n v below tells = tt
