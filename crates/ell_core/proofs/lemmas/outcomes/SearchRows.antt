use Rattle.std.proofs.Common.{◌≡◌, ℕ, ◌%◌, Bool, true, false, Option, Some, None, refl, sym, ap, ◌∙◌, subst, inl, inr, arith, ◌⊎◌}
use Rattle.std.proofs.lemmas.Bool.{cases_eq, cases_lt, cases_Bool, false≢true}
use Rattle.ell_ops.specs.declared.op.Op.{Op}
use Rattle.ell_ops.specs.declared.op.Op.TheVariants.{Delete}
use Rattle.ell_ops.specs.Meaning.{key_of}
use Rattle.ell_core.specs.declared.event.Stepped.{Stepped}
use Rattle.ell_core.specs.declared.event.Stepped.TheVariants.{Moved, Answered}
use Rattle.ell_core.specs.declared.fact.Fact.TheVariants.{Backed}
use Rattle.ell_core.specs.declared.put.Put.{Put}
use Rattle.ell_core.specs.declared.view.Seen.{Seen}
use Rattle.ell_layout.specs.Cards.{child_for, put_filling, value_below, delete_filling, tag_for}
use Rattle.ell_core.specs.state.Facts.{learned_any, told_by}
use Rattle.ell_core.specs.state.Machine.{Worker, Scene}
use Rattle.ell_core.specs.acts.Searching.{put_of, GivesPlace, IsClean, Begin, Upd, Down, AtCleanLeaf, AtCleanNode, MayTake, ClaimPut, ClaimDelete, MayStop, Again, Leave, value_at, leaf_answer, card_answer, AnswersAtLeaf, AnswersByCard, HasAnswer, Answer, begun, ended, with_read, gone_down, claims, ledger_after}
use Rattle.ell_layout.specs.Words.{Words, IsLeaf, is_flat}
use Rattle.ell_core.specs.tree.Flat.{IsInBlock, IsNodeKey}
use Rattle.ell_core.proofs.lemmas.outcomes.Decide.{Decided, HasOne, Settled, ap2, subst2, settles_either, cases_option, cases_put, decides_takes, cases_delete, decides_clean, decides_internal, same_value, some_not_none, same_seen}
use Rattle.ell_core.proofs.lemmas.tree.Blocks.{in_block-or_not}
use Rattle.ell_core.proofs.lemmas.tree.NodeKeys.{some_node_key, one_node_key}
use Rattle.ell_ops.specs.declared.reply.Reply.{Reply}

-- begin has one outcome or none
pub settles_begin : (op : Op) (s : Scene) → Settled (Begin op s)
settles_begin op s = elim (cases_option s.worker.operation) [
  | inl w ↦ inr (λ said after r. some_not_none w.1 r.free)
  | inr e ↦ inl (record {
    said = Moved;
    after = record s { worker = begun (Some op) s.worker };
    row = record { free = e; says = refl; gives = refl };
    only = λ other later r. (r.says, r.gives);
  })
]

-- the scene after a read at a node
abbrev read_at : Scene → ℕ → Scene
read_at s node = record s {
  worker = record (s.worker) {
    search = with_read s.worker.search (s.words.update node);
    knows = learned_any s.worker.knows (told_by (s.words.update node));
  };
}

-- upd at a node that is unread has one outcome or none
settles_upd_at : (s : Scene) (node : ℕ) → s.worker.search.node ≡ Some node → s.worker.search.read ≡ None → Settled (Upd s)
settles_upd_at s node stands unread = elim (decides_internal node) [
  | inl i ↦ inl (record {
    said = Moved;
    after = read_at s node;
    row = record { node = node; stands = stands; internal = i; unread = unread; says = refl; gives = refl };
    only = λ other later r. (r.says, r.gives ∙ ap (read_at s) (same_value r.stands stands));
  })
  | inr n ↦ inr (λ said after r. n (ap (λ x. x % 4) (same_value stands r.stands) ∙ r.internal))
]

-- upd has one outcome or none
pub settles_upd : (s : Scene) → Settled (Upd s)
settles_upd s = elim (cases_option s.worker.search.node) [
  | inr e ↦ inr (λ said after r. some_not_none r.stands e)
  | inl w ↦ elim (cases_option s.worker.search.read) [
    | inl u ↦ inr (λ said after r. some_not_none u.1 r.unread)
    | inr e ↦ settles_upd_at s w.0 w.1 e
  ]
]

-- the scene after a way down
abbrev down_from : Scene → Op → Seen → Scene
down_from s op seen = record s {
  worker = record (s.worker) { search = gone_down s.worker.search seen (child_for s.words (key_of op) seen.node) };
}

-- down from a node that is read has one outcome or none
settles_down_at : (s : Scene) (op : Op) (node word : ℕ) → s.worker.operation ≡ Some op → s.worker.search.node ≡ Some node → s.worker.search.read ≡ Some word → s.worker.card ≡ None → Settled (Down s)
settles_down_at s op node word busy stands read no_card = elim (decides_internal node) [
  | inl i ↦ inl (record {
    said = Moved;
    after = down_from s op seen;
    row = record { op = op; seen = seen; busy = busy; stands = stands; internal = i; read = read; no_card = no_card; tagged = refl; says = refl; gives = refl };
    only = λ other later r. (
      r.says,
      (let same_op = same_value r.busy busy in let same_node = same_value r.stands stands in
          r.gives ∙ ap2 (down_from s) same_op (same_seen r.seen seen same_node (same_value r.read read)
          (r.tagged ∙ (λ t. tag_for s.words (key_of (same_op t)) (same_node t))))),
    );
  })
  | inr n ↦ inr (λ said after r. n (ap (λ x. x % 4) (same_value stands r.stands) ∙ r.internal))
]
  where
    seen : Seen
    seen = record { node = node; word = word; tag = tag_for s.words (key_of op) node }

-- down has one outcome or none
pub settles_down : (s : Scene) → Settled (Down s)
settles_down s = elim (cases_option s.worker.operation) [
  | inr e ↦ inr (λ said after r. some_not_none r.busy e)
  | inl o ↦ elim (cases_option s.worker.search.node) [
    | inr e ↦ inr (λ said after r. some_not_none r.stands e)
    | inl n ↦ elim (cases_option s.worker.search.read) [
      | inr e ↦ inr (λ said after r. some_not_none r.read e)
      | inl u ↦ elim (cases_option s.worker.card) [
        | inl c ↦ inr (λ said after r. some_not_none c.1 r.no_card)
        | inr e ↦ settles_down_at s o.0 n.0 u.0 o.1 n.1 u.1 e
      ]
    ]
  ]
]

-- a worker with this card and this flag may take a card or not
may_take_with : (from : ℕ) (v : Worker) (c : ℕ) → v.card ≡ Some c → (flagged : Bool) → v.flagged ≡ flagged → Decided (MayTake from v)
may_take_with from v c holds true is = inr (λ may. elim may [
  | inl none ↦ some_not_none holds none
  | inr aside ↦ false≢true (sym aside.1 ∙ is)
])
may_take_with from v c holds false is = elim (cases_lt 0 from) [
  | inl flat ↦ inl (inr (flat, is))
  | inr plain ↦ inr (λ may. elim may [
    | inl none ↦ some_not_none holds none
    | inr aside ↦ (let flat = aside.0 in omega arith)
  ])
]

-- a worker may take a card or not
decides_ready : (from : ℕ) (v : Worker) → Decided (MayTake from v)
decides_ready from v = elim (cases_option v.card) [
  | inr none ↦ inl (inl none)
  | inl c ↦ may_take_with from v c.0 c.1 v.flagged refl
]

-- a worker at a clean node is there in one way
record CleanNode (v : Worker) : Type 0 where
  node : ℕ
  parent : Seen
  at : AtCleanNode v node parent
  only : (x : ℕ) (y : Seen) → AtCleanNode v x y → (x ≡ node) × (y ≡ parent)

-- a worker at a node that came from another is at a clean node or not
clean_node_at : (v : Worker) (node : ℕ) (parent : Seen) → v.search.node ≡ Some node → v.search.parent ≡ Some parent
    → CleanNode v ⊎ ((x : ℕ) (y : Seen) → ¬ AtCleanNode v x y)
clean_node_at v node parent stands behind = elim (decides_clean parent.word) [
  | inr n ↦ inr (λ x y a. n (subst (λ (z : Seen). IsClean z.word) (same_value a.behind behind) a.calm))
  | inl calm ↦ inl (record {
    node = node;
    parent = parent;
    at = record { stands = stands; behind = behind; calm = calm };
    only = λ x y a. (same_value a.stands stands, same_value a.behind behind);
  })
]

-- a worker is at a clean node, in one way, or is not
clean_node : (v : Worker) → CleanNode v ⊎ ((x : ℕ) (y : Seen) → ¬ AtCleanNode v x y)
clean_node v = elim (cases_option v.search.node) [
  | inr e ↦ inr (λ x y a. some_not_none a.stands e)
  | inl n ↦ elim (cases_option v.search.parent) [
    | inr e ↦ inr (λ x y a. some_not_none a.behind e)
    | inl p ↦ clean_node_at v n.0 p.0 n.1 p.1
  ]
]

-- a worker at a clean leaf is at a clean node
at_node : (v : Worker) (leaf : ℕ) (parent : Seen) → AtCleanLeaf v leaf parent → AtCleanNode v leaf parent
at_node v leaf parent a = record { stands = a.stands; behind = a.behind; calm = a.calm }

-- a worker at a clean leaf is there in one way
record CleanLeaf (v : Worker) : Type 0 where
  leaf : ℕ
  parent : Seen
  at : AtCleanLeaf v leaf parent
  only : (x : ℕ) (y : Seen) → AtCleanLeaf v x y → (x ≡ leaf) × (y ≡ parent)

-- a worker is at a clean leaf, in one way, or is not
clean_leaf : (v : Worker) → CleanLeaf v ⊎ ((x : ℕ) (y : Seen) → ¬ AtCleanLeaf v x y)
clean_leaf v = elim (clean_node v) [
  | inr n ↦ inr (λ x y a. n x y (at_node v x y a))
  | inl c ↦ elim (decides_internal c.node) [
    | inl i ↦ inr (λ x y a. a.outer (ap (λ z. z % 4) (c.only x y (at_node v x y a)).0 ∙ i))
    | inr outer ↦ inl (record {
      leaf = c.node;
      parent = c.parent;
      at = record { stands = c.at.stands; outer = outer; behind = c.at.behind; calm = c.at.calm };
      only = λ x y a. c.only x y (at_node v x y a);
    })
  ]
]

-- two deletes in hand are of one key
same_delete : {o : Option Op} {x y : ℕ} → o ≡ Some (Delete x) → o ≡ Some (Delete y) → x ≡ y
same_delete e f = cc

-- the scene after a claim for an insert or a swap
abbrev put_claimed : Scene → Put → ℕ → ℕ → Seen → Scene
put_claimed s what node_key below parent = claims s parent.tag
    (put_filling (is_flat s.words) s.words.next what.key what.value node_key parent.node below (s.words.key below) (value_below s.words below))

-- it is one scene for one put, node key, node and parent
same_claimed : (s : Scene) {what then : Put} {node_key other below x : ℕ} {parent y : Seen} → what ≡ then → node_key ≡ other → below ≡ x → parent ≡ y
    → put_claimed s what node_key below parent ≡ put_claimed s then other x y
same_claimed s e f g h = λ t. put_claimed s (e t) (f t) (g t) (h t)

-- two claims of one operation put the same
same_put : {o : Option Op} {op other : Op} {what then : Put} → o ≡ Some op → o ≡ Some other → put_of op ≡ Some what → put_of other ≡ Some then
    → what ≡ then
same_put e f g h = same_value g (ap put_of (same_value e f) ∙ h)

-- a node gives place to what is put, or not
decides_gives : (w : Words) (what : Put) (x : ℕ) → Decided (GivesPlace w what x)
decides_gives w what x = elim (decides_internal x) [
  | inr outer ↦ elim (decides_takes what (w.key x) (w.value x)) [
    | inl takes ↦ inl (record { leaf = λ _. takes; edge = λ i. absurd (outer i) })
    | inr n ↦ inr (λ g. n (g.leaf outer))
  ]
  | inl i ↦ elim (cases_option what.was) [
    | inl w ↦ inr (λ g. some_not_none w.1 (g.edge i).0)
    | inr none ↦ elim (in_block-or_not w x what.key) [
      | inl inside ↦ inr (λ g. (g.edge i).1 inside)
      | inr lacks ↦ inl (record { leaf = λ outer. absurd (outer i); edge = λ _. (none, lacks) })
    ]
  ]
]

-- what an insert puts is in the block of a node, or not; a swap may be anywhere
decides_fits : (w : Words) (what : Put) (x : ℕ) → Decided (what.was ≡ None → IsInBlock w x what.key)
decides_fits w what x = elim (cases_option what.was) [
  | inl w ↦ inl (λ none. absurd (some_not_none w.1 none))
  | inr none ↦ elim (in_block-or_not w x what.key) [ inl inside ↦ inl (λ _. inside) | inr lacks ↦ inr (λ h. lacks (h none)) ]
]

-- a claim puts this, and is made at this node and its parent
abbrev SaysPut : (s : Scene) → Put → CleanNode s.worker → Put → ℕ → Seen → Type 0
SaysPut s what a then below parent = (then ≡ what) × (below ≡ a.node) × (parent ≡ a.parent)

-- each claim of one operation puts one thing at one place
says_put : (s : Scene) (op : Op) (what : Put) (a : CleanNode s.worker) → s.worker.operation ≡ Some op → put_of op ≡ Some what
    → (said : Stepped) (after : Scene) (r : ClaimPut s said after) → SaysPut s what a r.what r.below r.parent
says_put s op what a busy puts said after r =
    let only = a.only r.below r.parent r.at in (same_put r.busy busy r.puts puts, only.0, only.1)

-- a key of a node over two is one over two that are the same
named_at : (w : Words) {k then x y node_key : ℕ} → k ≡ then → x ≡ y → IsNodeKey w.flat_from k (w.key x) node_key → IsNodeKey w.flat_from then (w.key y) node_key
named_at w {node_key = node_key} e f = subst2 (λ k x. IsNodeKey w.flat_from k (w.key x) node_key) e f

-- a claim of an operation that puts something, at a node that gives place below one that it fits, has one outcome
settles_put_at : (s : Scene) (op : Op) (what : Put) (a : CleanNode s.worker) → s.worker.operation ≡ Some op → put_of op ≡ Some what
    → MayTake s.words.flat_from s.worker → GivesPlace s.words what a.node → (what.was ≡ None → IsInBlock s.words a.parent.node what.key) → HasOne (ClaimPut s)
settles_put_at s op what a busy puts ready takes fits =
    let some = some_node_key s.words.flat_from what.key (s.words.key a.node) in record {
      said = Moved;
      after = put_claimed s what some.0 a.node a.parent;
      row = record { op = op; what = what; below = a.node; parent = a.parent; node_key = some.0; busy = busy; puts = puts; ready = ready; at = a.at; takes = takes; fits = fits; named = some.1; says = refl; gives = refl };
      only = λ other later r. (
          let same = says_put s op what a busy puts other later r in
          let named = named_at s.words (ap (λ (t : Put). t.key) same.0) same.1 r.named in
          let one = one_node_key s.words.flat_from what.key (s.words.key a.node) r.node_key some.0 named some.1 in
          (r.says, r.gives ∙ same_claimed s same.0 one same.1 same.2));
    }

-- a claim of an operation that puts something, at a clean node, has one outcome or none
settles_put : (s : Scene) (op : Op) (what : Put) (a : CleanNode s.worker) → s.worker.operation ≡ Some op → put_of op ≡ Some what
    → MayTake s.words.flat_from s.worker → Settled (ClaimPut s)
settles_put s op what a busy puts ready = elim (decides_gives s.words what a.node) [
  | inr n ↦ inr (λ said after r. (let same = says_put s op what a busy puts said after r in
      n (subst2 (GivesPlace s.words) same.0 same.1 r.takes)))
  | inl takes ↦ elim (decides_fits s.words what a.parent.node) [
    | inr n ↦ inr (λ said after r. (let same = says_put s op what a busy puts said after r in
        n (subst2 (λ (t : Put) (y : Seen). t.was ≡ None → IsInBlock s.words y.node t.key) same.0 same.2 r.fits)))
    | inl fits ↦ inl (settles_put_at s op what a busy puts ready takes fits)
  ]
]

-- a claim for an insert or a swap has one outcome or none
settles_claim_put : (s : Scene) → Settled (ClaimPut s)
settles_claim_put s = elim (cases_option s.worker.operation) [
  | inr e ↦ inr (λ said after r. some_not_none r.busy e)
  | inl o ↦ elim (cases_put o.0) [
    | inr n ↦ inr (λ said after r. some_not_none r.puts (ap put_of (same_value r.busy o.1) ∙ n))
    | inl t ↦ elim (clean_node s.worker) [
      | inr n ↦ inr (λ said after r. n r.below r.parent r.at)
      | inl a ↦ elim (decides_ready s.words.flat_from s.worker) [
        | inr n ↦ inr (λ said after r. n r.ready)
        | inl ready ↦ settles_put s o.0 t.0 a o.1 t.1 ready
      ]
    ]
  ]
]

-- the scene after a claim for a delete
abbrev delete_claimed : Scene → Seen → ℕ → Seen → Scene
delete_claimed s grandparent leaf parent = claims s grandparent.tag (delete_filling grandparent.node parent.node leaf parent.word)

-- a claim for a delete at a leaf of its key has one outcome or none
settles_claim_delete_at : (s : Scene) (key : ℕ) (a : CleanLeaf s.worker) (grandparent : Seen) → s.worker.operation ≡ Some (Delete key) → MayTake s.words.flat_from s.worker
    → s.words.key a.leaf ≡ key → s.worker.search.grandparent ≡ Some grandparent → Settled (ClaimDelete s)
settles_claim_delete_at s key a grandparent deletes ready present above = elim (decides_clean grandparent.word) [
  | inr n ↦ inr (λ said after r. n (subst (λ (z : Seen). IsClean z.word) (same_value r.above above) r.calm))
  | inl calm ↦ inl (record {
    said = Moved;
    after = delete_claimed s grandparent a.leaf a.parent;
    row = record { key = key; leaf = a.leaf; parent = a.parent; grandparent = grandparent; deletes = deletes; ready = ready; at = a.at; present = present; above = above; calm = calm; says = refl; gives = refl };
    only = λ other later r. (let only = a.only r.leaf r.parent r.at in (
      r.says,
      r.gives ∙ (ap (λ x. delete_claimed s x r.leaf r.parent) (same_value r.above above) ∙ ap2 (delete_claimed s grandparent) only.0 only.1),
    ));
  })
]

-- a claim for a delete has one outcome or none
settles_claim_delete : (s : Scene) → Settled (ClaimDelete s)
settles_claim_delete s = elim (cases_delete s.worker.operation) [
  | inr n ↦ inr (λ said after r. n r.key r.deletes)
  | inl o ↦ elim (clean_leaf s.worker) [
    | inr n ↦ inr (λ said after r. n r.leaf r.parent r.at)
    | inl a ↦ elim (cases_eq (s.words.key a.leaf) o.0) [
      | inr n ↦ inr (λ said after r. n (ap s.words.key (sym (a.only r.leaf r.parent r.at).0) ∙ (r.present ∙ same_delete r.deletes o.1)))
      | inl present ↦ elim (cases_option s.worker.search.grandparent) [
        | inr e ↦ inr (λ said after r. some_not_none r.above e)
        | inl g ↦ elim (decides_ready s.words.flat_from s.worker) [
          | inr n ↦ inr (λ said after r. n r.ready)
          | inl ready ↦ settles_claim_delete_at s o.0 a g.0 o.1 ready present g.1
        ]
      ]
    ]
  ]
]

-- an operation that puts something is no delete
put_not_delete : {o : Option Op} {op : Op} {what : Put} {y : ℕ} → o ≡ Some op → put_of op ≡ Some what → ¬ (o ≡ Some (Delete y))
put_not_delete {y = y} e g f = some_not_none g (ap put_of (same_value {y = Delete y} e f))

-- claim has one outcome or none
pub settles_claim : (s : Scene) → Settled (λ said after. ClaimPut s said after ⊎ ClaimDelete s said after)
settles_claim s = settles_either (settles_claim_put s) (settles_claim_delete s) (λ said other after later r q. put_not_delete r.busy r.puts q.deletes)

-- a worker with this operation and this card, which is flagged, may stop or not
may_stop_flagged : (v : Worker) (op : Op) (c : ℕ) → v.operation ≡ Some op → v.card ≡ Some c → v.flagged ≡ true → Decided (MayStop v)
may_stop_flagged v op c busy holds flagged = elim (cases_Bool (v.knows (Backed c))) [
  | inl e ↦ inl (record { op = op; busy = busy; backed = λ d h f. ap (λ x. v.knows (Backed x)) (same_value h holds) ∙ e })
  | inr e ↦ inr (λ m. false≢true (sym e ∙ m.backed c holds flagged))
]

-- a worker with this operation may stop or not
may_stop_busy : (v : Worker) (op : Op) → v.operation ≡ Some op → Decided (MayStop v)
may_stop_busy v op busy = elim (cases_option v.card) [
  | inr e ↦ inl (record { op = op; busy = busy; backed = λ d h f. absurd (some_not_none h e) })
  | inl c ↦ elim (cases_Bool v.flagged) [
    | inl f ↦ may_stop_flagged v op c.0 busy c.1 f
    | inr n ↦ inl (record { op = op; busy = busy; backed = λ d h f. absurd (false≢true (sym n ∙ f)) })
  ]
]

-- a worker may stop or not
decides_stop : (v : Worker) → Decided (MayStop v)
decides_stop v = elim (cases_option v.operation) [
  | inr e ↦ inr (λ m. some_not_none m.busy e)
  | inl o ↦ may_stop_busy v o.0 o.1
]

-- again has one outcome or none
pub settles_again : (s : Scene) → Settled (Again s)
settles_again s = elim (decides_stop s.worker) [
  | inr n ↦ inr (λ said after r. n r.may)
  | inl may ↦ inl (record {
    said = Moved;
    after = record s { worker = begun s.worker.operation s.worker };
    row = record { may = may; says = refl; gives = refl };
    only = λ other later r. (r.says, r.gives);
  })
]

-- leave has one outcome or none
pub settles_leave : (s : Scene) → Settled (Leave s)
settles_leave s = elim (decides_stop s.worker) [
  | inr n ↦ inr (λ said after r. n r.may)
  | inl may ↦ inl (record {
    said = Moved;
    after = record s { worker = ended s.worker };
    row = record { may = may; says = refl; gives = refl };
    only = λ other later r. (r.says, r.gives);
  })
]

-- a set of answers has exactly one
record OneReply (P : Reply → Type 0) : Type 0 where
  reply : Reply
  has : P reply
  only : (other : Reply) → P other → other ≡ reply

-- exactly one answer or none
abbrev Replies : (Reply → Type 0) → Type 0
Replies P = OneReply P ⊎ ((reply : Reply) → ¬ P reply)

-- at a leaf where the search stands there is one answer or none
leaf_reply_at : (s : Scene) (op : Op) (leaf : ℕ) → s.worker.search.node ≡ Some leaf → IsLeaf leaf → Replies (AnswersAtLeaf s op)
leaf_reply_at s op leaf stands outer = elim (cases_option (leaf_answer op (value_at s.words leaf (key_of op)))) [
  | inl a ↦ inl (record {
    reply = a.0;
    has = record { leaf = leaf; stands = stands; outer = outer; answers = a.1 };
    only = λ other r. same_value r.answers (ap (λ x. leaf_answer op (value_at s.words x (key_of op))) (same_value r.stands stands) ∙ a.1);
  })
  | inr e ↦ inr (λ reply r. some_not_none r.answers (ap (λ x. leaf_answer op (value_at s.words x (key_of op))) (same_value r.stands stands) ∙ e))
]

-- where a worker stands there is one answer or none
leaf_reply : (s : Scene) (op : Op) → Replies (AnswersAtLeaf s op)
leaf_reply s op = elim (cases_option s.worker.search.node) [
  | inr e ↦ inr (λ reply r. some_not_none r.stands e)
  | inl n ↦ elim (decides_internal n.0) [
    | inl i ↦ inr (λ reply r. r.outer (ap (λ x. x % 4) (same_value r.stands n.1) ∙ i))
    | inr outer ↦ leaf_reply_at s op n.0 n.1 outer
  ]
]

-- by a flagged card there is one answer or none
card_reply_at : (s : Scene) (op : Op) (c : ℕ) → s.worker.card ≡ Some c → s.worker.flagged ≡ true → Replies (AnswersByCard s op)
card_reply_at s op c holds flagged = elim (cases_option (card_answer op c s.worker.knows)) [
  | inl a ↦ inl (record {
    reply = a.0;
    has = record { card = c; holds = holds; flagged = flagged; answers = a.1 };
    only = λ other r. same_value r.answers (ap (λ x. card_answer op x s.worker.knows) (same_value r.holds holds) ∙ a.1);
  })
  | inr e ↦ inr (λ reply r. some_not_none r.answers (ap (λ x. card_answer op x s.worker.knows) (same_value r.holds holds) ∙ e))
]

-- by the card in hand there is one answer or none
card_reply : (s : Scene) (op : Op) → Replies (AnswersByCard s op)
card_reply s op = elim (cases_option s.worker.card) [
  | inr e ↦ inr (λ reply r. some_not_none r.holds e)
  | inl c ↦ elim (cases_Bool s.worker.flagged) [
    | inl f ↦ card_reply_at s op c.0 c.1 f
    | inr n ↦ inr (λ reply r. false≢true (sym n ∙ r.flagged))
  ]
]

-- an operation has one answer or none: the one at a leaf goes before
reply_of_both : (s : Scene) (op : Op) → Replies (AnswersAtLeaf s op) → Replies (AnswersByCard s op) → Replies (HasAnswer s op)
reply_of_both s op (inl a) d = inl (record {
  reply = a.reply;
  has = inl a.has;
  only = λ other x. elim x [ inl y ↦ a.only other y | inr z ↦ absurd (z.1 a.reply a.has) ];
})
reply_of_both s op (inr n) (inl d) = inl (record {
  reply = d.reply;
  has = inr (d.has, n);
  only = λ other x. elim x [ inl y ↦ absurd (n other y) | inr z ↦ d.only other z.0 ];
})
reply_of_both s op (inr n) (inr m) = inr (λ reply x. elim x [ inl y ↦ n reply y | inr z ↦ m reply z.0 ])

-- the scene after an answer
abbrev answered : Scene → Op → Reply → Scene
answered s op reply = record s { worker = record (ended s.worker) { ledger = ledger_after op reply s.worker.ledger } }

-- an operation in hand is answered in one way or not
settles_answer_of : (s : Scene) (op : Op) → s.worker.operation ≡ Some op → Replies (HasAnswer s op) → Settled (Answer s)
settles_answer_of s op busy (inl a) = inl (record {
  said = Answered a.reply;
  after = answered s op a.reply;
  row = record { op = op; reply = a.reply; busy = busy; answers = a.has; says = refl; gives = refl };
  only = λ other later r. (let same = same_value r.busy busy in
      let one = a.only r.reply (subst (λ (x : Op). HasAnswer s x r.reply) same r.answers) in
      (r.says ∙ ap Answered one, r.gives ∙ ap2 (answered s) same one));
})
settles_answer_of s op busy (inr n) = inr (λ said after r. n r.reply (subst (λ (x : Op). HasAnswer s x r.reply) (same_value r.busy busy) r.answers))

-- answer has one outcome or none
pub settles_answer : (s : Scene) → Settled (Answer s)
settles_answer s = elim (cases_option s.worker.operation) [
  | inr e ↦ inr (λ said after r. some_not_none r.busy e)
  | inl o ↦ settles_answer_of s o.0 o.1 (reply_of_both s o.0 (leaf_reply s o.0) (card_reply s o.0))
]
