-- What a pass knows, by names of cards. In a tree that grows, slots of memory are used again: a word of memory names a
-- card by its slot and by the generation of it there, while the machine numbers cards in the order of their flags. A
-- naming takes the number of each card to its name. What memory tells a pass is what the machine tells it, with each
-- number replaced by the name.
use Rattle.std.specs.Prelude.{◌≡◌, ℕ, ◌+◌, ◌*◌, ◌%◌, ◌<◌, None, List, map, option_map}
use Rattle.ell_word.specs.declared.link.Link.{Link}
use Rattle.ell_word.specs.Link.{linked, link_in, node_bound}
use Rattle.ell_word.specs.Node.{card}
use Rattle.ell_word.specs.declared.update.Update.{Update}
use Rattle.ell_layout.specs.declared.field.Field.{Field}
use Rattle.ell_layout.specs.declared.field.Field.TheVariants as field
use Rattle.ell_core.specs.declared.exchange.Exchange.{Exchange}
use Rattle.ell_core.specs.declared.fact.Fact.{Fact}
use Rattle.ell_core.specs.declared.fact.Fact.TheVariants as fact
use Rattle.ell_core.specs.declared.view.Seen.{Seen}
use Rattle.ell_core.specs.declared.view.Search.{Search}
use Rattle.ell_core.specs.state.Machine.{WorkerView}
use Rattle.ell_runs.specs.declared.call.Call.{Call}
use Rattle.ell_runs.specs.declared.call.Call.TheVariants as call
use Rattle.ell_runs.specs.declared.glance.Glance.{Glance}
use Rattle.ell_runs.specs.declared.view.Answered.{Answered}
use Rattle.ell_runs.specs.declared.view.Hindrance.{Hindrance}
use Rattle.ell_runs.specs.declared.view.Hindrance.TheVariants.{Claim, Found}
use Rattle.ell_runs.specs.declared.view.Told.{Told}
use Rattle.ell_runs.specs.declared.view.Told.TheVariants.{Met, Depth, Key, Value, Info, Expects, Frozen}
use Rattle.ell_runs.specs.declared.view.View.{View}

-- a naming: each card has a name of its own, and the card of the root its number
pub record IsNaming (name : ℕ → ℕ) : Type 0 where
  pub root : name 0 ≡ 0
  pub apart : (c d : ℕ) → name c ≡ name d → c ≡ d

-- a node by the name of its card; and so is an update word, which has the card above two bits too
abbrev pub named_node : (ℕ → ℕ) → ℕ → ℕ
named_node name x = 4 * name (card x) + x % 4

-- an update by the name of its card
abbrev pub named_update : (ℕ → ℕ) → Update → Update
named_update name u = record u { card = name u.card }

-- a link to a node by the name of its card, with the tag as it is
abbrev pub named_link : (ℕ → ℕ) → Link → Link
named_link name l = record l { node = named_node name l.node }

-- the number of a link, by the name of the card to whose node it leads
abbrev pub named_child : (ℕ → ℕ) → ℕ → ℕ
named_child name n = linked (named_link name (link_in n))

-- a node by the name of its card is one that a link holds
abbrev pub FitsLink : (ℕ → ℕ) → ℕ → Type 0
FitsLink name x = named_node name x < node_bound

-- a node that a search has seen, and the update word that it read there
abbrev pub named_seen : (ℕ → ℕ) → Seen → Seen
named_seen name seen = record seen { node = named_node name seen.node; word = named_node name seen.word }

-- a search, by names
abbrev pub named_search : (ℕ → ℕ) → Search → Search
named_search name search = record {
  node = option_map (named_node name) search.node;
  read = option_map (named_node name) search.read;
  parent = option_map (named_seen name) search.parent;
  grandparent = option_map (named_seen name) search.grandparent;
}

-- a fact, by the name of its card
abbrev pub named_fact : (ℕ → ℕ) → Fact → Fact
named_fact name (fact.IFlagged c) = fact.IFlagged (name c)
named_fact name (fact.IChanged c) = fact.IChanged (name c)
named_fact name (fact.IOver c) = fact.IOver (name c)
named_fact name (fact.DFlagged c) = fact.DFlagged (name c)
named_fact name (fact.Marked c) = fact.Marked (name c)
named_fact name (fact.Unmarkable c) = fact.Unmarkable (name c)
named_fact name (fact.Cut c) = fact.Cut (name c)
named_fact name (fact.DOver c) = fact.DOver (name c)
named_fact name (fact.Backed c) = fact.Backed (name c)

-- the machine's worker, by names
abbrev pub named_worker : (ℕ → ℕ) → WorkerView → WorkerView
named_worker name worker = record worker {
  search = named_search name worker.search;
  card = option_map name worker.card;
  knows = map (named_fact name) worker.knows;
}

-- what a pass was told that a field of a card says
abbrev pub named_info : (ℕ → ℕ) → Field → ℕ → ℕ
named_info name field.Gp x = named_node name x
named_info name field.P x = named_node name x
named_info name field.L x = named_node name x
named_info name field.Was x = named_node name x
named_info name field.Left x = named_node name x
named_info name field.Right x = named_node name x
named_info name field.Update x = named_node name x
named_info name f x = x

-- what a pass was told
abbrev pub named_told : (ℕ → ℕ) → Told → Told
named_told name (Met x) = Met (named_node name x)
named_told name (Depth x depth) = Depth (named_node name x) depth
named_told name (Key x key) = Key (named_node name x) key
named_told name (Value x value) = Value (named_node name x) value
named_told name (Info c f x) = Info (name c) f (named_info name f x)
named_told name (Expects c tag) = Expects (name c) tag
named_told name (Frozen c right x) = Frozen (name c) right (named_node name x)

-- a word for a field of a card
abbrev pub named_word : (ℕ → ℕ) → Field → ℕ → ℕ
named_word name field.Gp n = named_node name n
named_word name field.P n = named_node name n
named_word name field.L n = named_child name n
named_word name field.Was n = named_node name n
named_word name field.Left n = named_child name n
named_word name field.Right n = named_child name n
named_word name field.Update n = named_node name n
named_word name f n = n

-- words for fields of a card
abbrev pub named_words : (ℕ → ℕ) → List (Field × ℕ) → List (Field × ℕ)
named_words name words = map (λ e. (e.0, named_word name e.0 e.1)) words

-- what was in the way of an operation
abbrev pub named_hindrance : (ℕ → ℕ) → Hindrance → Hindrance
named_hindrance name (Claim c) = Claim (name c)
named_hindrance name (Found u) = Found (named_update name u)

-- an exchange that was won, by its kind and the name of its card
abbrev pub named_win : (ℕ → ℕ) → Exchange × ℕ → Exchange × ℕ
named_win name e = (e.0, name e.1)

-- an operation that was answered
abbrev pub named_answered : (ℕ → ℕ) → Answered → Answered
named_answered name a = record a { card = option_map name a.card }

-- a node to which a look has come
abbrev pub named_glance : (ℕ → ℕ) → Glance → Glance
named_glance name glance = record glance { node = named_node name glance.node }

-- What a pass knows, by names. A pass reads no claim word of memory, and of an exchange it learns what the facts
-- tell, and not the word that it found: so these two are not told. How many numbers were given at least stays a
-- number.
abbrev pub named : (ℕ → ℕ) → View → View
named name v = record v {
  worker = named_worker name v.worker;
  told = map (named_told name) v.told;
  next = None;
  planned = named_words name v.planned;
  stores = named_words name v.stores;
  found = None;
  won = map (named_win name) v.won;
  answered = option_map (named_answered name) v.answered;
  knew_before = map (named_fact name) v.knew_before;
  hindrances = map (named_hindrance name) v.hindrances;
  met = map (named_hindrance name) v.met;
  glances = map (named_glance name) v.glances;
}

-- the same view without the two words that are not told by names
abbrev pub unread : View → View
unread v = record v { next = None; found = None }

-- a step call, by names
abbrev pub named_call : (ℕ → ℕ) → Call → Call
named_call name (call.Upd x) = call.Upd (named_node name x)
named_call name (call.Down x right) = call.Down (named_node name x) right
named_call name (call.KeyOf x) = call.KeyOf (named_node name x)
named_call name (call.ValueOf x) = call.ValueOf (named_node name x)
named_call name (call.Info c f) = call.Info (name c) f
named_call name (call.FrozenChild c p right) = call.FrozenChild (name c) (named_node name p) right
named_call name (call.LookDown from to right) = call.LookDown (named_glance name from) to right
named_call name (call.Claim c node) = call.Claim (name c) node
named_call name (call.Fill c f value) = call.Fill (name c) f (named_word name f value)
named_call name (call.IFlag c p from) = call.IFlag (name c) (named_node name p) (named_update name from)
named_call name (call.IChild c p l replaces right) =
    call.IChild (name c) (named_node name p) (named_link name l) replaces right
named_call name (call.IUnflag c p) = call.IUnflag (name c) (named_node name p)
named_call name (call.DFlag c gp from) = call.DFlag (name c) (named_node name gp) (named_update name from)
named_call name (call.Mark c p was) = call.Mark (name c) (named_node name p) (named_node name was)
named_call name (call.DChild c gp p s right) =
    call.DChild (name c) (named_node name gp) (named_link name p) (named_node name s) right
named_call name (call.DUnflag c gp) = call.DUnflag (name c) (named_node name gp)
named_call name (call.Backtrack c gp) = call.Backtrack (name c) (named_node name gp)
named_call name c = c

-- what a word by names has of the number that a call finds
abbrev pub named_by : (ℕ → ℕ) → Call → ℕ → ℕ
named_by name (call.Upd x) n = named_node name n
named_by name (call.Down x right) n = named_child name n
named_by name (call.Info c f) n = named_word name f n
named_by name (call.FrozenChild c p right) n = named_child name n
named_by name call.Look n = named_child name n
named_by name (call.LookDown from to right) n = named_child name n
named_by name (call.Fill c f value) n = named_word name f n
named_by name (call.IFlag c p from) n = named_node name n
named_by name (call.IChild c p l replaces right) n = named_child name n
named_by name (call.IUnflag c p) n = named_node name n
named_by name (call.DFlag c gp from) n = named_node name n
named_by name (call.Mark c p was) n = named_node name n
named_by name (call.DChild c gp p s right) n = named_child name n
named_by name (call.DUnflag c gp) n = named_node name n
named_by name (call.Backtrack c gp) n = named_node name n
named_by name c n = n

-- a word for a field of a card that is a link leads to a node whose name fits one
abbrev pub WordFitsLink : (ℕ → ℕ) → Field → ℕ → Type 0
WordFitsLink name field.L n = FitsLink name (link_in n).node
WordFitsLink name field.Left n = FitsLink name (link_in n).node
WordFitsLink name field.Right n = FitsLink name (link_in n).node
WordFitsLink name f n = Unit {0}

-- so does a link that a call expects, and the number that it finds there
pub record LinksFit (name : ℕ → ℕ) (l : Link) (n : ℕ) : Type 0 where
  pub low : l.node < node_bound
  pub expected : FitsLink name l.node
  pub found : FitsLink name (link_in n).node

-- A call that found this goes by names: each link that it finds or expects leads to a node whose name fits a link. A
-- claim does not, for that gives out the next number.
abbrev pub GoesByName : (ℕ → ℕ) → Call → ℕ → Type 0
GoesByName name (call.Down x right) n = FitsLink name (link_in n).node
GoesByName name (call.Info c f) n = WordFitsLink name f n
GoesByName name (call.FrozenChild c p right) n = FitsLink name (link_in n).node
GoesByName name call.Look n = FitsLink name (link_in n).node
GoesByName name (call.LookDown from to right) n = FitsLink name (link_in n).node
GoesByName name (call.Claim c node) n = ⊥
GoesByName name (call.IChild c p l replaces right) n = LinksFit name l n
GoesByName name (call.DChild c gp p s right) n = LinksFit name p n
GoesByName name c n = Unit {0}
