use Rattle.std.specs.Prelude.{◌≡◌, ◌≢◌, ℕ, ◌+◌, ◌<◌, ◌≤◌, ◌==◌, ◌%◌, if◌then◌else◌, Bool, true, false, Option, Some, None, is_some, unwrap_or, [], ◌∷◌}
use Rattle.ell_ops.specs.declared.op.Op.{Op}
use Rattle.ell_ops.specs.Meaning.{key_of, greatest_key}
use Rattle.ell_core.specs.declared.exchange.Exchange.TheVariants as exchange
use Rattle.ell_block.specs.Blocks.{InBlockOf}
use Rattle.ell_word.specs.Node.{IsInternal, card}
use Rattle.ell_word.specs.Word.{packed, unpacked}
use Rattle.ell_core.specs.declared.event.Act.{Act}
use Rattle.ell_core.specs.declared.event.Act.TheVariants as act
use Rattle.ell_core.specs.declared.event.Stepped.{Stepped}
use Rattle.ell_core.specs.declared.event.Stepped.TheVariants.{Moved, Answered}
use Rattle.ell_core.specs.declared.fact.Fact.TheVariants as fact
use Rattle.ell_layout.specs.declared.field.Field.{Field}
use Rattle.ell_layout.specs.declared.field.Field.TheVariants as field
use Rattle.ell_layout.specs.Layout.{address}
use Rattle.ell_layout.specs.Words.{key_field, value_field, child_field, IsLeaf, has_block}
use Rattle.ell_core.specs.state.Machine.{Machine, ledger_of, worker_of}
use Rattle.ell_layout.specs.Cards.{iflag, dflag, marked, clean, brought_by}
use Rattle.ell_core.specs.acts.Searching.{MayStop, gone_down}
use Rattle.ell_core.specs.acts.Exchanges.{won_or_lost}
use Rattle.ell_core.specs.acts.Events.{Steps}
use Rattle.ell_core.specs.statements.Effects.{AnswersAsMap, contents_in}
use Rattle.ell_runs.specs.declared.call.Call.{Call}
use Rattle.ell_runs.specs.declared.call.Call.TheVariants as call
use Rattle.ell_runs.specs.declared.view.Told.TheVariants.{Met, Key, Value, Frozen}
use Rattle.ell_runs.specs.declared.view.View.{View}
use Rattle.ell_runs.specs.Changes.{counted, forgotten, with_fact, if_won, exchanged, after_begin, after_again, after_leave, after_rest, after_answer, after_upd, after_claim, after_flag, after_mark, is_this, told_info, depth_there, after_fill}
use Rattle.ell_runs.specs.Plans.{TablePlan, flat_from}
use Rattle.ell_runs.specs.Views.{IsTold, IsFree, Does, StandsAt, InTable, EndWasUnknown}
use Rattle.ell_runs.specs.Guards.{MayBegin, MayAnswer, MayRead, MayGoDown, MayAsk, KnowsPlace, MayLookDown, MayClaim, MayFill, MayIFlag, MayDFlag, MayIChild, MayMark, MayDChild}
use Rattle.ell_runs.specs.Depths.{met_at, depth_told}
use Rattle.ell_word.specs.declared.link.Link.{Link}
use Rattle.ell_word.specs.Link.{linked, link_in}
use Rattle.ell_core.specs.declared.view.Seen.{Seen}

-- the address of a child of a node
abbrev pub child_address : ℕ → Bool → ℕ
child_address x right = address (card x) (child_field right)

-- where a call acts: on the claim word, or on this field of the root's card, of a node's card, or of a card
pub data Where : Type 0 where
  OnClaim : Where
  OnRoot : Field → Where
  OnNode : ℕ → Field → Where
  OnCard : ℕ → Field → Where

-- where each call acts: one that only notes something acts on the key of the root, which never changes
abbrev pub where_of : Call → Where
where_of (call.Upd x) = OnNode x field.Update
where_of (call.Down x right) = OnNode x (child_field right)
where_of call.Next = OnClaim
where_of (call.KeyOf x) = OnNode x (key_field (x % 4))
where_of (call.ValueOf x) = OnNode x (value_field (x % 4))
where_of (call.Info c f) = OnCard c f
where_of (call.FrozenChild c p right) = OnNode p (child_field right)
where_of call.Look = OnRoot (child_field false)
where_of (call.LookDown from to right) = OnNode from.node (child_field right)
where_of (call.Claim c node) = OnClaim
where_of (call.Fill c f value) = OnCard c f
where_of (call.IFlag c p from) = OnNode p field.Update
where_of (call.IChild c p l replaces right) = OnNode p (child_field right)
where_of (call.IUnflag c p) = OnNode p field.Update
where_of (call.DFlag c gp from) = OnNode gp field.Update
where_of (call.Mark c p was) = OnNode p field.Update
where_of (call.DChild c gp p s right) = OnNode gp (child_field right)
where_of (call.DUnflag c gp) = OnNode gp field.Update
where_of (call.Backtrack c gp) = OnNode gp field.Update
where_of _ = OnRoot (key_field 0)

-- the word there, in a tree that has words for each card
abbrev pub word_at : Where → ℕ
word_at OnClaim = 0
word_at (OnRoot f) = address 0 f
word_at (OnNode x f) = address (card x) f
word_at (OnCard c f) = address c f

-- the word that a call touches
abbrev pub word_of : Call → ℕ
word_of c = word_at (where_of c)

-- what an atomic step does to its word: it loads it, stores a value, or exchanges an expected value for another
pub data Atomic : Type 0 where
  Load : Atomic
  Store : ℕ → Atomic
  Exchange : ℕ → ℕ → Atomic

-- the child word that follows one: another node, and the next tag
abbrev pub next_link : Link → ℕ → Link
next_link old node = record { node = node; tag = old.tag + 1 }

-- what a call does to its word
abbrev pub atomic_of : Call → Atomic
atomic_of (call.Claim c node) = Exchange c (c + 1)
atomic_of (call.Fill c f value) = Store value
atomic_of (call.IFlag c p from) = Exchange (packed from) (iflag c)
atomic_of (call.IChild c p l replaces right) = Exchange (linked l) (linked (next_link l (brought_by c replaces)))
atomic_of (call.IUnflag c p) = Exchange (iflag c) (clean c)
atomic_of (call.DFlag c gp from) = Exchange (packed from) (dflag c)
atomic_of (call.Mark c p was) = Exchange was (marked c)
atomic_of (call.DChild c gp p s right) = Exchange (linked p) (linked (next_link p s))
atomic_of (call.DUnflag c gp) = Exchange (dflag c) (clean c)
atomic_of (call.Backtrack c gp) = Exchange (dflag c) (clean c)
atomic_of _ = Load

-- the word after an atomic step that found this
abbrev pub left_by : Atomic → ℕ → ℕ
left_by Load found = found
left_by (Store value) found = value
left_by (Exchange expected value) found = if found == expected then value else found

-- whether an atomic step that found this is a won exchange
abbrev pub is_won : Atomic → ℕ → Bool
is_won (Exchange expected value) found = found == expected
is_won _ found = false

-- what a search has seen of a node where it stands, once it has read this child word there
abbrev pub seen_below : View → ℕ → ℕ → Seen
seen_below v x n = record { node = x; word = unwrap_or v.worker.search.read 0; tag = (link_in n).tag }

-- what a pass knows after a call that found this word; a node that it was told it has met
abbrev pub after : Call → ℕ → View → View
after (call.Begin op) n v = after_begin (Some op) v
after call.Again n v = after_again v
after call.Leave n v = after_leave v
after (call.Answer said took) n v = after_answer said took v
after (call.Upd x) n v = after_upd x (unpacked n) v
after (call.Down x right) n v = counted (record v {
  worker = record (v.worker) {
    search = gone_down v.worker.search (seen_below v x n) (link_in n).node;
  };
  told = met_at (depth_told v.told x + 1) (link_in n).node v.told;
  here = None;
})
after call.Next n v = record v { next = Some n; made = v.made + 1 }
after (call.KeyOf x) n v =
    counted (record v { told = Key x n ∷ v.told; here = if is_this v.worker.search.node x then Some n else v.here })
after (call.ValueOf x) n v = record v { told = Value x n ∷ v.told; made = v.made + 1 }
after (call.Info c f) n v = record v { told = told_info (depth_there v c f) c f n v.told; made = v.made + 1 }
after (call.FrozenChild c p right) n v =
    record v {
      told = Frozen c right (link_in n).node ∷ met_at (depth_told v.told p + 1) (link_in n).node v.told;
      made = v.made + 1;
    }
after call.Look n v = counted (record v {
  told = met_at 1 (link_in n).node forgotten;
  glances = record { node = (link_in n).node; low = 0; high = greatest_key + 1; whole = true } ∷ [];
  looks = v.looks + 1;
})
after (call.LookDown from to right) n v = counted (record v {
  told = met_at (depth_told v.told from.node + 1) (link_in n).node v.told;
  glances = record { node = (link_in n).node; low = to.low; high = to.high; whole = to.whole } ∷ v.glances;
})
after call.Rest n v = after_rest v
after (call.Claim c node) n v = after_claim (n == c) c node v
after (call.Fill c f value) n v = after_fill f value v
after (call.IFlag c p from) n v =
    exchanged (if_won (n == packed from) exchange.IFlag c) n
    (after_flag (n == packed from) (fact.IFlagged c) p (unpacked n) v)
after (call.IChild c p l replaces right) n v =
    exchanged (if_won (n == linked l) exchange.IChild c) n (with_fact (fact.IChanged c) v)
after (call.IUnflag c p) n v = exchanged (if_won (n == iflag c) exchange.IUnflag c) n (with_fact (fact.IOver c) v)
after (call.DFlag c gp from) n v =
    exchanged (if_won (n == packed from) exchange.DFlag c) n
    (after_flag (n == packed from) (fact.DFlagged c) gp (unpacked n) v)
after (call.Mark c p was) n v =
    exchanged (if_won (n == was) exchange.Mark c) n (after_mark (n == was) c p (unpacked n) v)
after (call.DChild c gp p s right) n v =
    exchanged (if_won (n == linked p) exchange.DChild c) n (with_fact (fact.Cut c) v)
after (call.DUnflag c gp) n v = exchanged (if_won (n == dflag c) exchange.DUnflag c) n (with_fact (fact.DOver c) v)
after (call.Backtrack c gp) n v = exchanged (if_won (n == dflag c) exchange.Backtrack c) n (with_fact (fact.Backed c) v)

-- what a call asks of what the pass knows
abbrev pub May : TablePlan → Call → View → Type 0
May plan (call.Begin op) v = MayBegin v op
May plan call.Again v = MayStop (worker_of v.worker)
May plan call.Leave v = MayStop (worker_of v.worker)
May plan (call.Answer said took) v = MayAnswer v said took
May plan (call.Upd x) v = MayRead v x
May plan (call.Down x right) v = MayGoDown v x right
May plan call.Next v = Unit {0}
May plan (call.KeyOf x) v = IsTold v (Met x)
May plan (call.ValueOf x) v = IsTold v (Met x) × IsLeaf x
May plan (call.Info c f) v = MayAsk v c f
May plan (call.FrozenChild c p right) v = KnowsPlace v (fact.Marked c) c field.P p
May plan call.Look v = IsFree v
May plan (call.LookDown from to right) v = MayLookDown (flat_from plan) v from to right
May plan call.Rest v = IsFree v
May plan (call.Claim c node) v = MayClaim (flat_from plan) v c node × (c ≤ plan.last_card)
May plan (call.Fill c f value) v = MayFill v c
May plan (call.IFlag c p from) v = MayIFlag v c p from
May plan (call.IChild c p l replaces right) v = MayIChild v c p l replaces right
May plan (call.IUnflag c p) v = KnowsPlace v (fact.IChanged c) c field.P p
May plan (call.DFlag c gp from) v = MayDFlag v c gp from
May plan (call.Mark c p was) v = MayMark v c p was
May plan (call.DChild c gp p s right) v = MayDChild v c gp p s right
May plan (call.DUnflag c gp) v = KnowsPlace v (fact.Cut c) c field.Gp gp
May plan (call.Backtrack c gp) v = KnowsPlace v (fact.Unmarkable c) c field.Gp gp

-- the act of the machine that a call which found this word is, or none
abbrev pub act_of : Call → ℕ → Option Act
act_of (call.Begin op) n = Some (act.Begin op)
act_of call.Again n = Some act.Again
act_of call.Leave n = Some act.Leave
act_of (call.Answer said took) n = Some act.Answer
act_of (call.Upd x) n = Some act.Upd
act_of (call.Down x right) n = Some act.Down
act_of (call.Claim c node) n = if n == c then Some act.Claim else None
act_of (call.IFlag c p from) n = Some act.IFlag
act_of (call.IChild c p l replaces right) n = Some (act.IChild c)
act_of (call.IUnflag c p) n = Some (act.IUnflag c)
act_of (call.DFlag c gp from) n = Some act.DFlag
act_of (call.Mark c p was) n = Some (act.Mark c)
act_of (call.DChild c gp p s right) n = Some (act.DChild c)
act_of (call.DUnflag c gp) n = Some (act.DUnflag c)
act_of (call.Backtrack c gp) n = Some (act.Backtrack c)
act_of _ n = None

-- what the machine answers to an atomic step that found this: an exchange is won or lost, anything else moves
abbrev pub said_by : Atomic → ℕ → Stepped
said_by (Exchange expected value) n = won_or_lost (n == expected)
said_by _ n = Moved

-- what the machine answers to the act of a call
abbrev pub said_of : Call → ℕ → Stepped
said_of (call.Answer said took) n = Answered said
said_of (call.Claim c node) n = Moved
said_of c n = said_by (atomic_of c) n

-- an act of a worker leads from a machine to another with this answer; no act leaves the machine
abbrev pub Becomes : ℕ → Option Act → Stepped → Machine → Machine → Type 0
Becomes i (Some a) said m m' = Steps m (record { worker = i; act = a }) said m'
Becomes i None said m m' = m' ≡ m

-- the key of a leaf where the pass stands is the operation's exactly where its ledger has that present, if it has the
-- key, and then the leaf has a grandparent; where the pass stands at an internal node whose block lacks the operation's
-- key, its ledger has that absent, if it has the key. The key of an internal node is in its block, if it has one
pub record TellsKey (from : ℕ) (v : View) (x key : ℕ) : Type 0 where
  pub present : (op : Op) → Does v op → StandsAt v x → IsLeaf x → ledger_of v.worker.ledger (key_of op) ≢ None
      → is_some (contents_in (ledger_of v.worker.ledger) (key_of op)) ≡ (key == key_of op)
  pub deep : (op : Op) → Does v op → StandsAt v x → IsLeaf x → key ≡ key_of op → v.worker.search.grandparent ≢ None
  pub edge : (op : Op) → Does v op → StandsAt v x → IsInternal x → has_block from x ≡ true → ¬ InBlockOf key (key_of op)
      → ledger_of v.worker.ledger (key_of op) ≢ None → contents_in (ledger_of v.worker.ledger) (key_of op) ≡ None
  pub own : IsInternal x → has_block from x ≡ true → InBlockOf key key

-- the value of a leaf where the pass stands, whose key it was told to be the operation's, is that of its ledger, if it
-- has the key
abbrev pub TellsLedgerValue : View → ℕ → ℕ → Type 0
TellsLedgerValue v x value =
    (op : Op) → Does v op → StandsAt v x → v.here ≡ Some (key_of op) → ledger_of v.worker.ledger (key_of op) ≢ None
    → contents_in (ledger_of v.worker.ledger) (key_of op) ≡ Some value

-- a word of a card that names a node names one of the table; grandparent and parent are internal
abbrev pub TellsNode : ℕ → Field → ℕ → Type 0
TellsNode last field.Gp x = InTable last x × IsInternal x
TellsNode last field.P x = InTable last x × IsInternal x
TellsNode last field.L x = InTable last (link_in x).node
TellsNode last _ x = Unit {0}

-- what a call tells of the word that it found
abbrev pub Tells : TablePlan → Call → View → ℕ → Type 0
Tells plan (call.Answer said took) v n =
    AnswersAsMap (worker_of v.worker) (ledger_of (after (call.Answer said took) n v).worker.ledger) said
    × (v.next_at_least ≤ plan.last_card + 1)
Tells plan call.Leave v n = v.next_at_least ≤ plan.last_card + 1
Tells plan (call.Upd x) v n = ((unpacked n).card ≤ plan.last_card) × EndWasUnknown v (unpacked n).state (unpacked n).card
Tells plan (call.Down x right) v n = InTable plan.last_card (link_in n).node
Tells plan call.Next v n = (1 ≤ n) × (n ≤ plan.last_card + 1) × (v.next_at_least ≤ n)
Tells plan (call.KeyOf x) v n = TellsKey (flat_from plan) v x n
Tells plan (call.ValueOf x) v n = TellsLedgerValue v x n
Tells plan (call.Info c f) v n = TellsNode plan.last_card f n
Tells plan (call.FrozenChild c p right) v n = InTable plan.last_card (link_in n).node
Tells plan call.Look v n = (0 < (link_in n).node) × InTable plan.last_card (link_in n).node
Tells plan (call.LookDown from to right) v n = (0 < (link_in n).node) × InTable plan.last_card (link_in n).node
Tells plan (call.IFlag c p from) v n = (unpacked n).card ≤ plan.last_card
Tells plan (call.DFlag c gp from) v n = (unpacked n).card ≤ plan.last_card
Tells plan (call.Mark c p was) v n = (unpacked n).card ≤ plan.last_card
Tells plan _ v n = Unit {0}
