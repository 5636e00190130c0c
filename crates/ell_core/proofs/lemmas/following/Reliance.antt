use Rattle.std.proofs.Common.{◌≡◌, ◌%◌, ◌≢◌, ℕ, ◌<◌, ◌≤◌, Bool, true, false, Some, inl, inr, refl, sym, ap, ◌∙◌, subst, arith}
use Rattle.std.proofs.lemmas.Bool.{cases_Bool, false≢true}
use Rattle.ell_ops.specs.declared.op.Op.{Op}
use Rattle.ell_ops.specs.declared.op.Op.TheVariants.{Find, Insert, Delete, Swap}
use Rattle.ell_ops.specs.Meaning.{key_of}
use Rattle.ell_word.specs.Node.{IsInternal, card}
use Rattle.ell_word.specs.Word.{unpacked}
use Rattle.ell_word.specs.declared.update.State.{State}
use Rattle.ell_word.specs.declared.update.State.TheVariants as state
use Rattle.ell_core.specs.declared.fact.Fact.{Fact}
use Rattle.ell_core.specs.declared.fact.Fact.TheVariants as fact
use Rattle.ell_core.specs.declared.event.Stepped.{Stepped}
use Rattle.ell_core.specs.declared.view.Seen.{Seen}
use Rattle.ell_layout.specs.Words.{Words}
use Rattle.ell_core.specs.state.Facts.{card_of_fact}
use Rattle.ell_core.specs.state.Machine.{Worker, Machine, Scene, scene}
use Rattle.ell_layout.specs.Cards.{is_right}
use Rattle.ell_core.specs.acts.Searching.{Down}
use Rattle.ell_core.specs.soundness.Sound.{flags_at}
use Rattle.ell_core.specs.history.Stages.{Stage, Stages, Born, is_claimed, is_start, is_insert, is_delete, is_marked, allows}
use Rattle.ell_core.specs.history.Invariant.{WordsAreSound, SeenIsSound, StandIsSound, KindsAreSound, Unflagged, WorkerIsSound, Invariant}
use Rattle.ell_core.specs.statements.StepLaws.{NamesItsCard, IsReadable, IsInserting, IsDeepening, GoesInTree, HasSeen, StandsBelow, is_of_insert, is_of_marked, StepsMayRely, OwnerFindsClean}
use Rattle.ell_core.proofs.lemmas.following.Owners.{all_clean, leaf_key_tells}
use Rattle.ell_core.proofs.lemmas.stages.LaterKeys.{root_born}
use Rattle.ell_core.proofs.lemmas.following.waiting.Cards.{busy, hand_claimed}
use Rattle.ell_core.proofs.lemmas.following.Sound.{word_by_state}
use Rattle.ell_core.proofs.lemmas.outcomes.Decide.{cases_option, some_not_none}
use Rattle.ell_core.proofs.lemmas.stages.Order.{born-claimed, insert-claimed, delete-claimed, delete_won-delete, insert_won-insert, changed-insert, insert_over-insert, marked-delete, unmarkable-delete, cut-delete, cut-marked, over-delete, over-marked, backed-delete}
use Rattle.ell_core.specs.tree.Rank.{rank}

module _ (w : Words) (stage : Stages) (sound : WordsAreSound w stage) where
  -- a flag or mark stands where its card set it
  flag_place : (x : ℕ) → IsInternal x → Born stage x → (s : State) → (unpacked (w.update x)).state ≡ s → s ≢ state.Clean
      → flags_at w s (unpacked (w.update x)).card ≡ x
  flag_place x inner born state.IFlag e dirty =
      ((sound.updates x inner born).iflagged (unpacked (w.update x)).card (word_by_state (w.update x) state.IFlag e)).1
  flag_place x inner born state.DFlag e dirty =
      ((sound.updates x inner born).dflagged (unpacked (w.update x)).card (word_by_state (w.update x) state.DFlag e)).1
  flag_place x inner born state.Mark e dirty =
      ((sound.updates x inner born).marked (unpacked (w.update x)).card (word_by_state (w.update x) state.Mark e)).1
  flag_place x inner born state.Clean e dirty = absurd (dirty (λ i. state.Clean))

  -- the update word of an internal node that came into the tree names its card
  names_card : (x : ℕ) → IsInternal x → Born stage x → NamesItsCard w x
  names_card x inner born = record {
    claimed = (sound.updates x inner born).named;
    place = flag_place x inner born (unpacked (w.update x)).state (λ i. (unpacked (w.update x)).state);
  }

  -- such a node may be read
  may_read : (x : ℕ) → IsInternal x → Born stage x → IsReadable w stage x
  may_read x inner born = let children = sound.children x inner born in record {
    inner = inner;
    born = born;
    children = λ right. (children.born right, children.rising right);
    names = names_card x inner born;
  }

  -- where an insert's card goes
  inserting : (c : ℕ) → is_insert (stage c) ≡ true → IsInserting w stage c
  inserting c inserts = let said = (sound.cards c).insert inserts in record {
    above = said.above;
    parent = may_read (w.p c) said.parent.inner said.parent.born;
    leaf = said.lower;
  }

  -- where a delete's card goes
  deepening : (c : ℕ) → is_delete (stage c) ≡ true → IsDeepening w stage c
  deepening c deletes = let said = (sound.cards c).delete deletes in record {
    first = said.first;
    second = said.above;
    grandparent = may_read (w.gp c) said.grandparent.inner said.grandparent.born;
    parent = may_read (w.p c) said.parent.inner said.parent.born;
    leaf = said.leaf.born;
  }

-- a card of which a fact of an insert may be known is an insert's
insert_told : (f : Fact) (s : Stage) → is_of_insert f ≡ true → allows f s ≡ true → is_insert s ≡ true
insert_told (fact.IFlagged c) s is h = insert_won-insert s h
insert_told (fact.IChanged c) s is h = changed-insert s h
insert_told (fact.IOver c) s is h = insert_over-insert s h
insert_told _ s is h = absurd (false≢true is)

-- one of which another fact may be known is a delete's
delete_told : (f : Fact) (s : Stage) → is_of_insert f ≡ false → allows f s ≡ true → is_delete s ≡ true
delete_told (fact.DFlagged c) s is h = delete_won-delete s h
delete_told (fact.Marked c) s is h = marked-delete s h
delete_told (fact.Unmarkable c) s is h = unmarkable-delete s h
delete_told (fact.Cut c) s is h = cut-delete s h
delete_told (fact.DOver c) s is h = over-delete s h
delete_told (fact.Backed c) s is h = backed-delete s h
delete_told _ s is h = absurd (false≢true (sym is))

-- one that is known marked, or what follows a mark, is marked
marked_told : (f : Fact) (s : Stage) → is_of_marked f ≡ true → allows f s ≡ true → is_marked s ≡ true
marked_told (fact.Marked c) s is h = h
marked_told (fact.Cut c) s is h = cut-marked s h
marked_told (fact.DOver c) s is h = over-marked s h
marked_told _ s is h = absurd (false≢true is)

-- one of which anything may be known is claimed
told_claimed : (f : Fact) (s : Stage) → allows f s ≡ true → is_claimed s ≡ true
told_claimed f s h = by (is_of_insert f) refl
  where
    by : (b : Bool) → is_of_insert f ≡ b → is_claimed s ≡ true
    by true e = insert-claimed s (insert_told f s e h)
    by false e = delete-claimed s (delete_told f s e h)

-- an earlier update word of a node names no later card than its present one
earlier_names : (w : Words) (stage : Stages) → WordsAreSound w stage → (x word : ℕ) → IsInternal x → Born stage x → word ≤ w.update x
    → (unpacked word).card < w.next
earlier_names w stage sound x word inner born least = let named = (sound.updates x inner born).named in omega arith

-- a worker that stands somewhere has an operation in hand, and stands there soundly
standing : (m : Machine) (stage : Stages) (i x : ℕ) → Invariant m stage → (m.worker i).search.node ≡ Some x
    → (op : Op) × StandIsSound m.words stage (m.worker i) (key_of op) x
standing m stage i x invariant at = elim (cases_option (m.worker i).operation) [
  | inl op ↦ (op.0, (invariant.workers.each i).stands op.0 x op.1 at)
  | inr e ↦ absurd (some_not_none at (ap (λ (u : Worker). u.search.node) ((invariant.workers.each i).free e)))
]

-- a node that came into the tree is on a claimed card
in_table : (m : Machine) (stage : Stages) → Invariant m stage → (x : ℕ) → Born stage x → card x < m.words.next
in_table m stage invariant x born = ((invariant.words.cards (card x)).claimed).0 (born-claimed (stage (card x)) (x % 4) born)

-- a down leads from a node to one of the table of greater rank
goes_down : (m : Machine) (stage : Stages) (i : ℕ) (said : Stepped) (after : Scene) (x y : ℕ) → Invariant m stage → Down (scene m i) said after
    → (m.worker i).search.node ≡ Some x → after.worker.search.node ≡ Some y → (rank m.words x < rank m.words y) × (card y ≤ m.last_card)
goes_down m stage i said after x y invariant row at to =
    let w = m.words in
    let right = is_right w row.seen.node (key_of row.op) in
    let from : row.seen.node ≡ x = (let a = row.stands in let e : Some row.seen.node ≡ Some x = sym a ∙ at in cc) in
    let child : w.child row.seen.node right ≡ y =
    (let e : Some (w.child row.seen.node right) ≡ Some y = sym (ap (λ (s : Scene). s.worker.search.node) row.gives) ∙ to in cc) in
    let children = invariant.words.children row.seen.node row.internal (standing m stage i row.seen.node invariant row.stands).1.born in
    let rising = children.rising right in
    let below = in_table m stage invariant (w.child row.seen.node right) (children.born right) in
    let room = invariant.limit in
    let same = ap card child in
    let above = ap (rank m.words) from in
    let under = ap (rank m.words) child in
    (omega arith, omega arith)

-- a node that a search has seen
has_seen : (w : Words) (stage : Stages) (k : ℕ) (seen : Seen) (x : ℕ) → WordsAreSound w stage → SeenIsSound w stage k seen x
    → HasSeen w stage seen x
has_seen w stage k seen x sound h = record {
  node = may_read w stage sound seen.node h.node.inner h.node.born;
  less = h.less;
  names = earlier_names w stage sound seen.node seen.word h.node.inner h.node.born h.word;
  tag = let least = h.at_least in let below = sound.tags seen.node (is_right w seen.node k) in omega arith;
}

-- where the cards go that go nowhere else: the root
goes_nowhere : (w : Words) (stage : Stages) (c : ℕ) → WordsAreSound w stage → w.gp c ≡ 0 → w.p c ≡ 0 → w.l c ≡ 0 → GoesInTree w stage c
goes_nowhere w stage c sound gp p l =
    let root = may_read w stage sound 0 refl (root_born w stage sound) in record {
      grandparent = subst (IsReadable w stage) (sym gp) root;
      parent = subst (IsReadable w stage) (sym p) root;
      leaf = subst (Born stage) (sym l) (root_born w stage sound);
    }

-- where a claimed card goes
goes_in_tree : (w : Words) (stage : Stages) → WordsAreSound w stage → KindsAreSound w stage → (c : ℕ) → c < w.next → GoesInTree w stage c
goes_in_tree w stage sound kinds c below = elim (cases_Bool (is_start (stage c))) [
  | inl e ↦ (let at = kinds.start c e in goes_nowhere w stage c sound at.gp at.parent at.leaf)
  | inr n ↦ elim (kinds.kinds c below n) [
    | inl insert ↦ (let at = inserting w stage sound c insert in record {
      grandparent = subst (IsReadable w stage) (sym ((sound.cards c).insert insert).gp) (may_read w stage sound 0 refl (root_born w stage sound));
      parent = at.parent;
      leaf = at.leaf;
    })
    | inr delete ↦ (let at = deepening w stage sound c delete in record {
      grandparent = at.grandparent;
      parent = at.parent;
      leaf = at.leaf;
    })
  ]
]

-- a worker with a card in hand that is not flagged stands where the card goes
below_parent : (w : Words) (stage : Stages) (v : Worker) (op : Op) (c : ℕ) → Unflagged w stage v op c → StandsBelow v
below_parent w stage v (Find k) c h = absurd h
below_parent w stage v (Insert k value) c h = record { node = w.l c; stands = h.stands; parent = h.parent; behind = h.behind }
below_parent w stage v (Swap k was value) c h = record { node = w.l c; stands = h.stands; parent = h.parent; behind = h.behind }
below_parent w stage v (Delete k) c h = record { node = w.l c; stands = h.stands; parent = h.parent; behind = h.behind }

stands_below : (w : Words) (stage : Stages) (v : Worker) (c : ℕ) → WorkerIsSound w stage v → v.card ≡ Some c → v.flagged ≡ false
    → StandsBelow v
stands_below w stage v c sound holds unflagged =
    let op = busy w stage v c sound holds in below_parent w stage v op.0 c (sound.unflagged op.0 c op.1 holds unflagged)

-- what a step may rely on
pub may_rely : StepsMayRely
may_rely m stage i invariant = record {
  stands = λ x at. (standing m stage i x invariant at).1.born;
  reads = λ x at inner. may_read m.words stage invariant.words x inner (standing m stage i x invariant at).1.born;
  has_read = λ x word at inner read.
      let stood = (standing m stage i x invariant at).1 in
      earlier_names m.words stage invariant.words x word inner stood.born (stood.read word read);
  down = λ said after x y row at to. goes_down m stage i said after x y invariant row at to;
  parent = λ x seen at behind.
      has_seen m.words stage (key_of (standing m stage i x invariant at).0) seen x invariant.words
      ((standing m stage i x invariant at).1.parent seen behind).0;
  grandparent = λ x seen above at behind before.
      has_seen m.words stage (key_of (standing m stage i x invariant at).0) above seen.node invariant.words
      ((standing m stage i x invariant at).1.grandparent seen above behind before);
  deep = λ op x busy at outer own.
      let v = invariant.workers.each i in
      let real = v.real (key_of op) (v.owned op busy) in
      (v.stands op x busy at).deep outer (omega arith);
  insert = λ f knows is. inserting m.words stage invariant.words (card_of_fact f)
      (insert_told f (stage (card_of_fact f)) is ((invariant.workers.each i).facts f knows));
  delete = λ f knows is. deepening m.words stage invariant.words (card_of_fact f)
      (delete_told f (stage (card_of_fact f)) is ((invariant.workers.each i).facts f knows));
  marked = λ f knows is. ((invariant.words.deletes (card_of_fact f)).marked
      (marked_told f (stage (card_of_fact f)) is ((invariant.workers.each i).facts f knows))).mark;
  leaf_key = λ op x busy owns at outer. leaf_key_tells m stage invariant i op x busy at outer owns;
  claimed = in_table m stage invariant;
  known = λ f knows. (invariant.words.cards (card_of_fact f)).claimed.0
      (told_claimed f (stage (card_of_fact f)) ((invariant.workers.each i).facts f knows));
  hand = λ c holds. (invariant.words.cards c).claimed.0 (hand_claimed m.words stage (m.worker i) c (invariant.workers.each i) holds);
  unflagged = λ c holds un. stands_below m.words stage (m.worker i) c (invariant.workers.each i) holds un;
  owned = λ op busy. (invariant.workers.each i).owned op busy;
  goes = goes_in_tree m.words stage invariant.words invariant.kinds;
  some = invariant.kinds.some;
  room = invariant.limit;
}

-- where a worker owns every key and has nothing in hand, every reached update word is clean
pub owner_finds_clean : OwnerFindsClean
owner_finds_clean m stage i invariant owns x reached inner = all_clean m stage invariant i owns.all owns.free x reached inner
