use Rattle.std.specs.Option.{option_or}
use Rattle.std.specs.List.{list_all}
use Rattle.ell_core.specs.state.Facts.{known_of}
use Rattle.std.specs.Prelude.{◌||◌, filter, map, not, option_map, ℕ, ◌+◌, ◌==◌, ◌++◌, if◌then◌else◌, Bool, true, false, Option, Some, None, List, [], ◌∷◌, unwrap_or, nat_lt, max, Result, Ok, Err, ◌-◌, ◌%◌, ◌^◌}
use Rattle.ell_ops.specs.KeySet.{set_of}
use Rattle.ell_ops.specs.declared.op.Op.{Op}
use Rattle.ell_ops.specs.declared.op.Op.TheVariants.{Insert, Delete, Swap}
use Rattle.ell_core.specs.declared.exchange.Exchange.{Exchange}
use Rattle.ell_core.specs.declared.exchange.Exchange.TheVariants as exchange
use Rattle.ell_word.specs.declared.update.Update.{Update}
use Rattle.ell_word.specs.declared.update.State.{State}
use Rattle.ell_word.specs.declared.update.State.TheVariants as state
use Rattle.ell_word.specs.Word.{packed, unpacked}
use Rattle.ell_core.specs.declared.fact.Fact.{Fact}
use Rattle.ell_core.specs.declared.fact.Fact.TheVariants as fact
use Rattle.ell_layout.specs.declared.field.Field.{Field}
use Rattle.ell_layout.specs.declared.field.Field.TheVariants.{Gp, P, L}
use Rattle.ell_core.specs.declared.view.Seen.{Seen}
use Rattle.ell_layout.specs.Cards.{put_filling, delete_filling, tagged_for, says_by}
use Rattle.ell_core.specs.state.Machine.{WorkerView, idle}
use Rattle.ell_core.specs.acts.Searching.{with_read, begun, ended, with_card}
use Rattle.ell_core.specs.acts.Exchanges.{knowing, off_the_tree}
use Rattle.ell_core.specs.state.Opening.{keys_at_start}
use Rattle.ell_core.specs.statements.Told.{is_fixed}
use Rattle.ell_runs.specs.declared.view.Told.{Told}
use Rattle.ell_runs.specs.declared.view.Told.TheVariants.{Met, Value, Info, Expects}
use Rattle.ell_runs.specs.declared.view.Hindrance.{Hindrance}
use Rattle.ell_runs.specs.declared.view.Hindrance.TheVariants.{Claim, Found}
use Rattle.ell_runs.specs.declared.view.View.{View}
use Rattle.ell_runs.specs.Depths.{met_at, depth_under, tells_grandparent_of}
use Rattle.ell_runs.specs.Plans.{TablePlan}
use Rattle.ell_runs.specs.Views.{knows_end, whole_share, given_share}
use Rattle.ell_core.specs.declared.view.Entry.{Entry}
use Rattle.ell_core.specs.declared.view.Entry.TheVariants.{Present, Absent}
use Rattle.ell_ops.specs.declared.reply.Reply.{Reply}
use Rattle.ell_ops.specs.declared.reply.Reply.TheVariants.{Yes, Found}
use Rattle.ell_runs.specs.declared.view.Answered.{Answered}
use Rattle.ell_word.specs.Link.{link_in}
use Rattle.ell_runs.specs.declared.call.NewNode.{NewNode}

-- the facts with the one that an update tells: a flag or a mark that of its card, a clean update none
abbrev pub facts_by : State → ℕ → List Fact → List Fact
facts_by state.IFlag c facts = fact.IFlagged c ∷ facts
facts_by state.DFlag c facts = fact.DFlagged c ∷ facts
facts_by state.Mark c facts = fact.Marked c ∷ facts
facts_by state.Clean c facts = facts

-- what was told with what a flag or a mark at a node tells: where its card goes
abbrev pub places_by : ℕ → State → ℕ → List Told → List Told
places_by x state.IFlag c told = Info c P x ∷ told
places_by x state.DFlag c told = Info c Gp x ∷ told
places_by x state.Mark c told = Info c P x ∷ told
places_by x state.Clean c told = told

-- an update, unless it is clean
abbrev pub unless_clean : State → ℕ → List Hindrance
unless_clean state.Clean c = []
unless_clean s c = Found (record { state = s; card = c }) ∷ []

-- the update that a search read at a node, unless it is clean
abbrev pub read_in_way : Option Seen → List Hindrance
read_in_way None = []
read_in_way (Some seen) = unless_clean (unpacked seen.word).state (unpacked seen.word).card

-- the first of these, or else of those
abbrev pub first_in_way : List Hindrance → List Hindrance → List Hindrance
first_in_way [] those = those
first_in_way (h ∷ hs) those = h ∷ hs

-- what a search has read in the way of an operation: at its parent, or, for a delete, first at its grandparent
abbrev pub in_the_way : Option Op → Option ℕ → Option Seen → Option Seen → List Hindrance
in_the_way (Some (Insert k value)) (Some x) parent above = read_in_way parent
in_the_way (Some (Swap k was value)) (Some x) parent above = read_in_way parent
in_the_way (Some (Delete k)) (Some x) parent above = first_in_way (read_in_way above) (read_in_way parent)
in_the_way _ _ parent above = []

-- what the search of a pass has read in the way, where it stands
abbrev pub way_now : View → List Hindrance
way_now v = in_the_way v.worker.operation v.worker.search.node v.worker.search.parent v.worker.search.grandparent

-- whether what an update says is over: a clean one says nothing, and of any other facts tell the end of its card
abbrev pub update_over : List Fact → State → ℕ → Bool
update_over facts state.Clean c = true
update_over facts s c = knows_end facts c

-- whether what was in the way is over, by facts: a lost claim always is
abbrev pub is_over : List Fact → Hindrance → Bool
is_over facts (Claim c) = true
is_over facts (Found u) = update_over facts u.state u.card

-- whether something was in the way, and all of it is over
abbrev pub was_hindered : List Fact → List Hindrance → Bool
was_hindered facts [] = false
was_hindered facts (h ∷ hs) = list_all (is_over facts) (h ∷ hs)

-- how many tries something hindered that was over by then, once a try is given up
abbrev pub tries_hindered : View → ℕ
tries_hindered v = v.hindered + (if was_hindered v.worker.knows (way_now v ++ v.met) then 1 else 0)

-- the pass has made one step call more
abbrev pub counted : View → View
counted v = record v { made = v.made + 1 }

-- this came to be in the way of a try
abbrev pub hindered_by : Hindrance → View → View
hindered_by h v = record v { hindrances = h ∷ v.hindrances; met = h ∷ v.met }

-- a try has ended: what its search read in the way was a hindrance, and the try counts if what was in its way is over
abbrev pub after_try : View → View
after_try v = record v { hindrances = way_now v ++ v.hindrances; hindered = tries_hindered v }

-- the pass has found an update at a node
abbrev pub with_found : ℕ → Update → View → View
with_found x u v = record v {
  worker = knowing v.worker (facts_by u.state u.card v.worker.knows);
  told = places_by x u.state u.card v.told;
}

-- the pass has learnt a fact
abbrev pub with_fact : Fact → View → View
with_fact new v = record v { worker = knowing v.worker (new ∷ v.worker.knows) }

-- an exchange of a kind for a card, if it was won
abbrev pub if_won : Bool → Exchange → ℕ → List (Exchange × ℕ)
if_won true k c = (k, c) ∷ []
if_won false k c = []

-- an exchange found this word, and won this
abbrev pub exchanged : List (Exchange × ℕ) → ℕ → View → View
exchanged wins n v = record v { found = Some n; won = wins ++ v.won; made = v.made + 1 }

-- what an exchange of an update word that found this answers
abbrev pub update_outcome : ℕ → ℕ → Result (Unit {0}) Update
update_outcome expected found = if found == expected then Ok tt else Err (unpacked found)

-- the update that an exchange found, by its answer: the expected one where it was won
abbrev pub found_update : Update → Result (Unit {0}) Update → Update
found_update expected (Ok won) = expected
found_update expected (Err found) = found

-- the word that an exchange found, by its answer
abbrev pub found_word : ℕ → Result (Unit {0}) Update → ℕ
found_word expected (Ok won) = expected
found_word expected (Err found) = packed found

-- all that was told is forgotten, but that the root is met
abbrev pub forgotten : List Told
forgotten = Met 0 ∷ []

-- nothing is in hand, the ledger is this one, and all that was told is forgotten, and where a look has come to
abbrev pub at_rest : List (ℕ × Entry) → View → View
at_rest ledger v = record v {
  worker = record (ended v.worker) { ledger = ledger };
  told = forgotten;
  glances = [];
  here = None;
  planned = [];
  stores = [];
  met = [];
}

-- nothing is left of the last operation, answered or given up
abbrev pub afresh : List (ℕ × Entry) → View → View
afresh ledger v = record (at_rest ledger v) { next = None; answered = None; given_up = None }

-- begin: nothing is left of what was before, this operation is in hand, and the search stands at the root
abbrev pub after_begin : Option Op → View → View
after_begin op v =
    counted (record (afresh v.worker.ledger v) { worker = begun op v.worker; knew_before = v.worker.knows })

-- again: the try is given up, and the operation begins anew
abbrev pub after_again : View → View
after_again v = after_begin v.worker.operation (after_try v)

-- leave: the last try has ended, nothing is in hand any more, and the operation was given up
abbrev pub after_leave : View → View
after_leave v = counted (record (at_rest v.worker.ledger (after_try v)) { given_up = v.worker.operation })

-- rest: a look is over: what it told is forgotten, and it has come nowhere any more
abbrev pub after_rest : View → View
after_rest v = counted (record (at_rest v.worker.ledger v) { glances = [] })

-- the ledger where a key's entry is this one now
abbrev pub with_entry : ℕ → Entry → List (ℕ × Entry) → List (ℕ × Entry)
with_entry k entry ledger = map (λ e. (e.0, if k == e.0 then entry else e.1)) ledger

-- the ledger after an operation was answered so
abbrev pub answered_ledger : Option Op → Reply → List (ℕ × Entry) → List (ℕ × Entry)
answered_ledger (Some (Insert k value)) Yes ledger = with_entry k (Present value) ledger
answered_ledger (Some (Delete k)) Yes ledger = with_entry k Absent ledger
answered_ledger (Some (Swap k was value)) (Found there) ledger =
    if there == was then with_entry k (Present value) ledger else ledger
answered_ledger _ _ ledger = ledger

-- the operation that was in hand, with what is answered to it, the card that was in hand for it, and what it took
abbrev pub answered_so : Option Op → Option ℕ → Reply → Option ℕ → Option Answered
answered_so op card said took = option_map (λ o. record { op = o; said = said; card = card; took = took }) op

-- answer: nothing is in hand any more, the ledger goes by the answer, and the pass has it for its last
abbrev pub after_answer : Reply → Option ℕ → View → View
after_answer said took v = counted (record (at_rest (answered_ledger v.worker.operation said v.worker.ledger) v) {
  answered = answered_so v.worker.operation v.worker.card said took;
})

-- upd: this update was read at the node where the pass stands
abbrev pub after_upd : ℕ → Update → View → View
after_upd x u v = counted (record (with_found x u v) {
  worker = record ((with_found x u v).worker) { search = with_read v.worker.search (packed u) };
})

-- whether there is one, and it is this
abbrev pub is_this : Option ℕ → ℕ → Bool
is_this None x = false
is_this (Some y) x = y == x

-- whether facts tell that a card is a delete's
abbrev pub knows_delete : List Fact → ℕ → Bool
knows_delete facts c = known_of facts (fact.DFlagged c) || known_of facts (fact.Marked c)

-- the depth of a card's node, as far as a pass knows what is above it: a delete's parent is below its grandparent
abbrev pub depth_there : View → ℕ → Field → ℕ
depth_there v c P = if knows_delete v.worker.knows c then depth_under (tells_grandparent_of c) v.told v.told else 0
depth_there v c _ = 0

-- what was told with a word of a card: its grandparent is met, and its parent, which has this depth; the leaf's word
-- has the tag that the card expects
abbrev pub told_info : ℕ → ℕ → Field → ℕ → List Told → List Told
told_info depth c Gp x told = Info c Gp x ∷ Met x ∷ told
told_info depth c P x told = Info c P x ∷ met_at depth x told
told_info depth c L x told = Info c L (link_in x).node ∷ Expects c (link_in x).tag ∷ told
told_info depth c f x told = Info c f (says_by f x) ∷ told

-- the value that was told of a leaf the last time, or 0
abbrev pub told_value : List Told → ℕ → ℕ
told_value [] x = 0
told_value (Value y value ∷ told) x = if y == x then value else told_value told x
told_value (_ ∷ told) x = told_value told x

-- the value that was told of a leaf the last time; an internal node has none
abbrev pub value_told : List Told → ℕ → ℕ
value_told told x = if x % 4 == 0 then 0 else told_value told x

-- what fills a card whose node gets this key, by the operation, the search, the key of the node where it stands and the
-- values of leaves
abbrev pub filling_for : ℕ → NewNode → Option Op → Option ℕ → Option Seen → Option Seen → ℕ → (ℕ → ℕ) → List (Field × ℕ)
filling_for c node (Some (Insert k value)) (Some below) (Some parent) above key value_of =
    put_filling node.flat c k value node.key parent.node below key (value_of below)
filling_for c node (Some (Swap k was value)) (Some below) (Some parent) above key value_of =
    put_filling node.flat c k value node.key parent.node below key (value_of below)
filling_for c node (Some (Delete k)) (Some leaf) (Some parent) (Some above) key value_of =
    delete_filling above.node parent.node leaf parent.word
filling_for c node _ _ _ _ key value_of = []

-- what fills card c, by what the pass knows
abbrev pub filling_of : ℕ → NewNode → View → List (Field × ℕ)
filling_of c node v =
    filling_for c node v.worker.operation v.worker.search.node v.worker.search.parent v.worker.search.grandparent
    (unwrap_or v.here 0) (value_told v.told)

-- the tag that a card is to expect: that of the child word which is to be exchanged, as the search read it
abbrev pub tag_of_claim : Option Op → Option Seen → Option Seen → ℕ
tag_of_claim (Some (Delete k)) parent (Some above) = above.tag
tag_of_claim _ (Some parent) above = parent.tag
tag_of_claim _ None above = 0

-- the same, by what the pass knows
abbrev pub expected_tag : View → ℕ
expected_tag v = tag_of_claim v.worker.operation v.worker.search.parent v.worker.search.grandparent

-- the words of a table for what fills a card: the leaf's has the tag that the card expects
abbrev pub tagged : ℕ → List (Field × ℕ) → List (Field × ℕ)
tagged tag filling = map (λ e. (e.0, tagged_for e.0 tag e.1)) filling

-- what was told with what fills a card, as far as it never changes
abbrev pub told_filling : ℕ → List (Field × ℕ) → List Told → List Told
told_filling c [] told = told
told_filling c (e ∷ es) told =
    if is_fixed e.0 then Info c e.0 e.1 ∷ told_filling c es told else told_filling c es told

-- claim: the card is in hand, in place of one that is discarded, and its words are told; or it was lost, a hindrance
abbrev pub after_claim : Bool → ℕ → NewNode → View → View
after_claim true c node v = counted (record v {
  worker = with_card c v.worker;
  told = Expects c (expected_tag v) ∷ told_filling c (filling_of c node v) v.told;
  planned = tagged (expected_tag v) (filling_of c node v);
  stores = [];
  won = (exchange.Claim, c) ∷ v.won;
  next_at_least = c + 1;
})
after_claim false c node v = counted (hindered_by (Claim c) (record v { next_at_least = c + 1 }))

-- fill: a word of the card in hand was stored
abbrev pub after_fill : Field → ℕ → View → View
after_fill f x v = record v { stores = (f, x) ∷ v.stores; made = v.made + 1 }

-- one step more for each of these stores
abbrev pub steps_with : List (Field × ℕ) → ℕ → ℕ
steps_with [] n = n
steps_with (e ∷ es) n = steps_with es n + 1

-- the view where these words of the card in hand were stored, the last first, in a step each
abbrev pub with_stores : List (Field × ℕ) → View → View
with_stores stores v = record v { stores = stores; made = steps_with stores v.made }

-- iflag and dflag: the card in hand is flagged; or another update was found at the node, and the card is discarded
abbrev pub after_flag : Bool → Fact → ℕ → Update → View → View
after_flag true new x u v =
    record v { worker = off_the_tree v.worker.card true (with_fact new v).worker; here = None }
after_flag false new x u v = record (hindered_by (Found u) (with_found x u v)) {
  worker = off_the_tree None false (with_found x u v).worker;
  here = None;
}

-- whether an update is the mark of a card
abbrev pub is_mark_of : ℕ → State → ℕ → Bool
is_mark_of c state.Mark d = d == c
is_mark_of c _ d = false

-- a lost mark: by the update found at its parent the card is unmarkable, which is a hindrance if it is the card in hand
abbrev pub unmarking : ℕ → ℕ → Update → View → View
unmarking c x u v = record (with_found x u (with_fact (fact.Unmarkable c) v)) {
  hindrances = if is_this v.worker.card c then Found u ∷ v.hindrances else v.hindrances;
  met = if is_this v.worker.card c then Found u ∷ v.met else v.met;
}

-- mark: the mark stands, set by this pass or found there; or another update was found
abbrev pub after_mark : Bool → ℕ → ℕ → Update → View → View
after_mark true c x u v = with_fact (fact.Marked c) v
after_mark false c x u v = if is_mark_of c u.state u.card then with_fact (fact.Marked c) v else unmarking c x u v

-- the keys of a ledger, in its order
abbrev pub ledger_keys : List (ℕ × Entry) → List ℕ
ledger_keys [] = []
ledger_keys (e ∷ es) = e.0 ∷ ledger_keys es

-- a pass with nothing in hand, with this share and worker, which has met the root alone
abbrev pub idle_view : ℕ → WorkerView → View
idle_view share worker = record {
  worker = worker;
  share = share;
  told = forgotten;
  knew_before = [];
  here = None;
  next = None;
  next_at_least = 0;
  planned = [];
  stores = [];
  found = None;
  glances = [];
  won = [];
  answered = None;
  given_up = None;
  hindrances = [];
  met = [];
  hindered = 0;
  looks = 0;
  made = 0;
}

-- the keys that may have an owner, if every other key is shared
abbrev pub ownable_if : Bool → List ℕ → Option (List ℕ)
ownable_if shared keys = if shared then Some keys else None

-- the first pass of a table: it owns the keys of its plan, the start keys present with their values, the others absent
abbrev pub first_of : TablePlan → View
first_of plan =
    idle_view whole_share (idle (keys_at_start plan.keys plan.start) (ownable_if plan.shared plan.keys) [])

-- what is left of a pass that was joined to another: it has no share
abbrev pub spent_view : View
spent_view = idle_view 0 (idle [] None [])

-- split, the left part: it gets these keys, and keeps all that the pass knew, won and counted; the split is its step
abbrev pub left_view : List ℕ → View → View
left_view keys v = counted (record (afresh (filter (λ e. set_of keys e.0) v.worker.ledger) v) {
  found = None;
  share = v.share - given_share v.share;
})

-- split, the right part: it gets the other keys and a part of the share, and facts too
abbrev pub right_view : List ℕ → View → View
right_view keys v = record (idle_view (given_share v.share)
    (at_rest (filter (λ e. not (set_of keys e.0)) v.worker.ledger) v).worker) {
      knew_before = v.knew_before;
      next_at_least = v.next_at_least;
    }

-- an entry put into an ascending ledger at its place, or in place of that of its key
abbrev pub put_entry : ℕ × Entry → List (ℕ × Entry) → List (ℕ × Entry)
put_entry e [] = e ∷ []
put_entry e (d ∷ ds) = if nat_lt e.0 d.0 then e ∷ d ∷ ds else if e.0 == d.0 then e ∷ ds else d ∷ put_entry e ds

-- two ascending ledgers in one
abbrev pub united_ledgers : List (ℕ × Entry) → List (ℕ × Entry) → List (ℕ × Entry)
united_ledgers [] ds = ds
united_ledgers (e ∷ es) ds = put_entry e (united_ledgers es ds)

-- the later of two readings of the claim word, which only grows
abbrev pub later_reading : Option ℕ → Option ℕ → Option ℕ
later_reading None m = m
later_reading (Some n) None = Some n
later_reading (Some n) (Some m) = Some (max n m)

-- join: one pass with the keys, shares and counts of two, all that both knew and won, and the later reading of next
abbrev pub joined_view : View → View → View
joined_view v w = record (idle_view ((v.share + w.share) % 2 ^ 64)
    (idle (united_ledgers v.worker.ledger w.worker.ledger) (option_or v.worker.shared w.worker.shared)
    (v.worker.knows ++ w.worker.knows))) {
      won = v.won ++ w.won;
      hindrances = v.hindrances ++ w.hindrances;
      next = later_reading v.next w.next;
      next_at_least = max v.next_at_least w.next_at_least;
      hindered = v.hindered + w.hindered;
      looks = v.looks + w.looks;
      made = v.made + w.made + 1;
    }
