-- What is shown of the knowledge of a pass where words are numbers of 64 bits. A child word has a node and a tag, and
-- both may outgrow the word: then the word has their low bits alone. So a pass that read such words knows what it
-- would know had it read whole ones, except that each node and each tag is cut.
use Rattle.std.specs.Prelude.{◌≡◌, ◌↔◌, ℕ, ◌+◌, ◌<◌, ◌≤◌, ◌%◌, ◌^◌, Bool, true, option_map, map, List, []}
use Rattle.ell_word.specs.declared.link.Link.{Link}
use Rattle.ell_word.specs.Link.{link_in, node_bound, greatest_tag}
use Rattle.ell_layout.specs.declared.field.Field.{Field}
use Rattle.ell_layout.specs.declared.field.Field.TheVariants as field
use Rattle.ell_layout.specs.Cards.{stored}
use Rattle.ell_core.specs.declared.view.Seen.{Seen}
use Rattle.ell_core.specs.declared.view.Search.{Search}
use Rattle.ell_core.specs.state.Machine.{WorkerView}
use Rattle.ell_runs.specs.declared.call.Call.{Call}
use Rattle.ell_runs.specs.declared.call.Call.TheVariants as call
use Rattle.ell_runs.specs.declared.call.NewNode.{NewNode}
use Rattle.ell_runs.specs.declared.glance.Glance.{Glance}
use Rattle.ell_runs.specs.declared.view.Told.{Told}
use Rattle.ell_runs.specs.declared.view.Told.TheVariants.{Met, Depth, Key, Value, Info, Expects, Frozen}
use Rattle.ell_runs.specs.declared.view.View.{View}
use Rattle.ell_cards.specs.Apart.{cut_node, IsApart}
use Rattle.ell_runs.specs.Plans.{TablePlan}
use Rattle.ell_runs.specs.Views.{stored_at}
use Rattle.ell_runs.specs.Changes.{after_claim, first_of, spent_view, left_view, right_view, joined_view}
use Rattle.ell_runs.specs.Calls.{May, Tells, after, atomic_of, left_by, is_won, act_of, said_of}
use Rattle.ell_cards.specs.Addresses.{place_of}
use Rattle.ell_runs.specs.Touching.{IsAtRest}

-- a number that a word holds whole
abbrev pub IsWord : ℕ → Type 0
IsWord n = n < 2 ^ 64

-- what a word holds of a number
abbrev pub cut_word : ℕ → ℕ
cut_word n = n % 2 ^ 64

-- what a word holds of what a field of a card has: of a node its low bits, and of all else 64 bits
abbrev pub cut_field : Field → ℕ → ℕ
cut_field field.Gp n = cut_node n
cut_field field.P n = cut_node n
cut_field f n = cut_word n

-- what a child word holds of a tag
abbrev pub cut_tag : ℕ → ℕ
cut_tag tag = tag % (greatest_tag + 1)

abbrev pub shown_link : Link → Link
shown_link l = record { node = cut_node l.node; tag = cut_tag l.tag }

-- a node that a search has seen, and one to which a look has come
abbrev pub shown_seen : Seen → Seen
shown_seen seen = record seen { node = cut_node seen.node; tag = cut_tag seen.tag }

abbrev pub shown_glance : Glance → Glance
shown_glance glance = record glance { node = cut_node glance.node }

abbrev pub shown_search : Search → Search
shown_search search = record search {
  node = option_map cut_node search.node;
  parent = option_map shown_seen search.parent;
  grandparent = option_map shown_seen search.grandparent;
}

abbrev pub shown_worker : WorkerView → WorkerView
shown_worker worker = record worker { search = shown_search worker.search }

-- what a pass was told that a field of a card says
abbrev pub shown_info : Field → ℕ → ℕ
shown_info field.Gp x = cut_node x
shown_info field.P x = cut_node x
shown_info field.L x = cut_node x
shown_info field.Left x = cut_node x
shown_info field.Right x = cut_node x
shown_info f x = x

-- what a pass was told: of nodes and of a tag
abbrev pub shown_told : Told → Told
shown_told (Met x) = Met (cut_node x)
shown_told (Depth x depth) = Depth (cut_node x) depth
shown_told (Key x key) = Key (cut_node x) key
shown_told (Value x value) = Value (cut_node x) value
shown_told (Info c f x) = Info c f (shown_info f x)
shown_told (Expects c tag) = Expects c (cut_tag tag)
shown_told (Frozen c right x) = Frozen c right (cut_node x)

-- a word for a field of a card, which is a node, a child word with a tag, or a number that a word holds
abbrev pub shown_word : Field → ℕ → ℕ
shown_word field.Gp word = cut_node word
shown_word field.P word = cut_node word
shown_word field.L word = cut_word word
shown_word field.Left word = cut_word word
shown_word field.Right word = cut_word word
shown_word f word = word

abbrev pub shown_words : List (Field × ℕ) → List (Field × ℕ)
shown_words words = map (λ e. (e.0, shown_word e.0 e.1)) words

-- what a pass knows
abbrev pub shown : View → View
shown v = record v {
  worker = shown_worker v.worker;
  told = map shown_told v.told;
  planned = shown_words v.planned;
  stores = shown_words v.stores;
  found = option_map cut_word v.found;
  glances = map shown_glance v.glances;
}

-- a step call, with the nodes, the links and the words that it has
abbrev pub shown_call : Call → Call
shown_call (call.Upd x) = call.Upd (cut_node x)
shown_call (call.Down x right) = call.Down (cut_node x) right
shown_call (call.KeyOf x) = call.KeyOf (cut_node x)
shown_call (call.ValueOf x) = call.ValueOf (cut_node x)
shown_call (call.FrozenChild c p right) = call.FrozenChild c (cut_node p) right
shown_call (call.LookDown from to right) = call.LookDown (shown_glance from) to right
shown_call (call.Fill c f value) = call.Fill c f (shown_word f value)
shown_call (call.IFlag c p from) = call.IFlag c (cut_node p) from
shown_call (call.IChild c p l replaces right) = call.IChild c (cut_node p) (shown_link l) replaces right
shown_call (call.IUnflag c p) = call.IUnflag c (cut_node p)
shown_call (call.DFlag c gp from) = call.DFlag c (cut_node gp) from
shown_call (call.Mark c p was) = call.Mark c (cut_node p) was
shown_call (call.DChild c gp p s right) = call.DChild c (cut_node gp) (shown_link p) (cut_node s) right
shown_call (call.DUnflag c gp) = call.DUnflag c (cut_node gp)
shown_call (call.Backtrack c gp) = call.Backtrack c (cut_node gp)
shown_call c = c

-- what memory has of the number that a call finds, and of the one that it leaves
abbrev pub cut_by : Call → ℕ → ℕ
cut_by (call.Info c f) n = cut_field f n
cut_by (call.Fill c f value) n = cut_field f n
cut_by c n = cut_word n

-- a word of a card that may be a node or a child word, or else is a number that a word holds
abbrev pub FieldIsWhole : Field → ℕ → Type 0
FieldIsWhole field.Gp n = Unit {0}
FieldIsWhole field.P n = Unit {0}
FieldIsWhole field.L n = Unit {0}
FieldIsWhole field.Left n = Unit {0}
FieldIsWhole field.Right n = Unit {0}
FieldIsWhole f n = IsWord n

-- a call that reads a word other than a child word has found one that a word holds
abbrev pub ReadsWhole : Call → ℕ → Type 0
ReadsWhole (call.Upd x) n = IsWord n
ReadsWhole call.Next n = IsWord n
ReadsWhole (call.KeyOf x) n = IsWord n
ReadsWhole (call.ValueOf x) n = IsWord n
ReadsWhole (call.Info c f) n = FieldIsWhole f n
ReadsWhole (call.IFlag c p from) n = IsWord n
ReadsWhole (call.DFlag c gp from) n = IsWord n
ReadsWhole (call.Mark c p was) n = IsWord n
ReadsWhole _ n = Unit {0}

-- a call that found a word can be shown: it wins its exchange where words are cut exactly if it does where they are
-- whole, and what it reads is whole, except for nodes and tags
pub record CanBeShown (c : Call) (n : ℕ) : Type 0 where
  pub wins : is_won (atomic_of (shown_call c)) (cut_by c n) ≡ is_won (atomic_of c) n
  pub whole : ReadsWhole c n

-- a call that has neither a link nor a word to store
abbrev pub HasNoLink : Call → Type 0
HasNoLink (call.Fill c f value) = ⊥
HasNoLink (call.IChild c p l node right) = ⊥
HasNoLink (call.DChild c gp p s right) = ⊥
HasNoLink _ = Unit {0}

-- A number says a link that is near one: its tag is no less than that one's, and greater by less than there are tags
-- that words tell apart; and if it has that tag, it is that link.
pub record IsNear (l : Link) (n : ℕ) : Type 0 where
  pub low : l.node < node_bound
  pub least : l.tag ≤ (link_in n).tag
  pub most : (link_in n).tag ≤ l.tag + greatest_tag
  pub same : (link_in n).tag ≡ l.tag → (link_in n).node ≡ l.node

-- a call without a link can be shown where it found a word; a store can always; and an exchange of a child word can
-- where the link that it expects is near the word that it found
pub record CallsCanBeShown : Type 0 where
  pub word : (c : Call) (n : ℕ) → HasNoLink c → IsWord n → CanBeShown c n
  pub fill : (c : ℕ) (f : Field) (value n : ℕ) → CanBeShown (call.Fill c f value) n
  pub ichild : (c p : ℕ) (l : Link) (replaces right : Bool) (n : ℕ) → IsNear l n
      → CanBeShown (call.IChild c p l replaces right) n
  pub dchild : (c gp : ℕ) (p : Link) (s : ℕ) (right : Bool) (n : ℕ) → IsNear p n
      → CanBeShown (call.DChild c gp p s right) n

-- what was stored in a field of the card in hand is what is planned, if it is that once both are cut
abbrev pub StoresAreWhole : View → Type 0
StoresAreWhole v =
    (f : Field) → shown_word f (stored_at v.stores f) ≡ shown_word f (stored v.planned f 0)
    → stored_at v.stores f ≡ stored v.planned f 0

-- so it is of a value for a field, and of the one that a call stores
abbrev pub IsWholeFor : Field → ℕ → View → Type 0
IsWholeFor f value v = shown_word f value ≡ shown_word f (stored v.planned f 0) → value ≡ stored v.planned f 0

abbrev pub FillIsWhole : Call → View → Type 0
FillIsWhole (call.Fill c f value) v = IsWholeFor f value v
FillIsWhole _ v = Unit {0}

-- what a call has to store is a word, and a node's low bits if it is to be a node
abbrev pub StoresWord : Call → Type 0
StoresWord (call.Fill c f value) = IsWord value × (shown_word f value ≡ value)
StoresWord _ = Unit {0}

-- a call that may be made by what is shown of what a pass knows is what is shown of a call that may be made by that
-- itself
pub record IsLifted (plan : TablePlan) (c : Call) (v : View) : Type 0 where
  pub origin : Call
  pub is : shown_call origin ≡ c
  pub may : May plan origin v
  pub fills : FillIsWhole origin v

-- a call that claims no card
abbrev pub IsNoClaim : Call → Type 0
IsNoClaim (call.Claim c node) = ⊥
IsNoClaim c = Unit {0}

-- what is shown of what a pass knows that tells nodes apart, after a call that it may make, is what it knows after the
-- call that is shown
abbrev pub StepsAreShown : Type 0
StepsAreShown = (plan : TablePlan) (c : Call) (n : ℕ) (v : View) → IsNoClaim c → IsApart plan v → May plan c v
    → CanBeShown c n → shown (after c n v) ≡ after (shown_call c) (cut_by c n) (shown v)

-- what is planned, as words of 64 bits hold it
abbrev pub cut_planned : View → View
cut_planned v = record v { planned = shown_words v.planned }

-- so it is after a claim that is won, with what is planned cut: for that has the whole numbers of the card's own nodes
abbrev pub ClaimsAreShown : Type 0
ClaimsAreShown = (plan : TablePlan) (c : ℕ) (node : NewNode) (v : View) → IsApart plan v
    → shown (after_claim true c node v) ≡ cut_planned (after_claim true c node (shown v))

-- each call that is shown, and may be made by what is shown, is lifted
abbrev pub GuardsAreLifted : Type 0
GuardsAreLifted = (plan : TablePlan) (c : Call) (v : View) → IsApart plan v → StoresAreWhole v → StoresWord c
    → May plan c (shown v) → IsLifted plan c v

-- what was stored stays what is planned, if it is that once it is cut
abbrev pub StoresStayWhole : Type 0
StoresStayWhole = (plan : TablePlan) (c : Call) (n : ℕ) (v : View) → IsApart plan v → May plan c v → FillIsWhole c v
    → StoresAreWhole v → StoresAreWhole (after c n v)

-- what a call tells of the word that it found it tells of what is shown of it too
abbrev pub TellingsAreShown : Type 0
TellingsAreShown = (plan : TablePlan) (c : Call) (n : ℕ) (v : View) → IsApart plan v → May plan c v → ReadsWhole c n
    → IsApart plan (after c n v) → Tells plan c v n → Tells plan (shown_call c) (shown v) (cut_by c n)

-- a call that is shown touches the word of memory that the call touches, and leaves there what is cut to the same; and
-- it is the same act of the machine, with the same answer
pub record ActsAlike (c : Call) (n : ℕ) : Type 0 where
  pub word : place_of (shown_call c) ≡ place_of c
  pub leaves : cut_word (left_by (atomic_of (shown_call c)) (cut_by c n)) ≡ cut_by c (left_by (atomic_of c) n)
  pub act : act_of (shown_call c) (cut_by c n) ≡ act_of c n
  pub said : said_of (shown_call c) (cut_by c n) ≡ said_of c n

abbrev pub CallsActAlike : Type 0
CallsActAlike = (c : Call) (n : ℕ) → CanBeShown c n → ActsAlike c n

-- the first pass of a table is shown as it is, and so is what is left of one that was joined to another; what is
-- shown of the parts of a pass, and of two that are one, are the parts of what is shown, and what two that are
-- shown make as one; a pass with no card in hand has stored what is planned, which is nothing; and a pass that tells
-- nodes apart is at rest exactly if it is by what is shown
pub record HandoversAreShown : Type 0 where
  pub first : (plan : TablePlan) → shown (first_of plan) ≡ first_of plan
  pub spent : shown spent_view ≡ spent_view
  pub left : (keys : List ℕ) (v : View) → shown (left_view keys v) ≡ left_view keys (shown v)
  pub right : (keys : List ℕ) (v : View) → shown (right_view keys v) ≡ right_view keys (shown v)
  pub joined : (v w : View) → shown (joined_view v w) ≡ joined_view (shown v) (shown w)
  pub unfilled : (v : View) → v.planned ≡ [] → v.stores ≡ [] → StoresAreWhole v
  pub rests : (plan : TablePlan) (v : View) → IsApart plan v → IsAtRest v ↔ IsAtRest (shown v)
