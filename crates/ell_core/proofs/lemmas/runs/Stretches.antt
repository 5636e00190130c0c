use Rattle.std.proofs.Common.{◌≡◌, ◌%◌, ℕ, suc, min, max, true, false, ◌+◌, ◌<◌, ◌≤◌, ◌⊎◌, inl, inr, Bool, nat_le, List, [], ◌∷◌, ◌++◌, length, take, drop, refl, sym, ap, ◌∙◌, subst, arith}
use Rattle.std.proofs.lemmas.Bool.{cases_lt, cases_Bool, false≢true, le-leb, lt-leb}
use Rattle.std.proofs.lemmas.Bool.Decides.{nat_tests}
use Rattle.std.proofs.lemmas.List.{append_assoc, append-nil}
use Rattle.std.proofs.Math.Seq.{take-append_seam, drop-append_seam}
use Rattle.ell_ops.specs.Meaning.{greatest_key}
use Rattle.ell_word.specs.Node.{IsInternal, card}
use Rattle.ell_core.specs.declared.event.Event.{Event}
use Rattle.ell_core.specs.declared.event.Shown.{Shown}
use Rattle.ell_core.specs.declared.event.Shown.TheVariants as shown
use Rattle.ell_block.specs.Blocks.{half_from, half_end}
use Rattle.ell_layout.specs.Words.{Words, has_block}
use Rattle.ell_trie.specs.Halves.{InHalfOf}
use Rattle.ell_trie.specs.Ranges.{at_leaf, below}
use Rattle.ell_trie.proofs.lemmas.Middles.{side_half}
use Rattle.ell_core.specs.state.Machine.{Machine}
use Rattle.ell_layout.specs.Cards.{is_right, child_for}
use Rattle.ell_core.specs.acts.Runs.{Shows, Run}
use Rattle.ell_core.specs.tree.Tree.{IsTreePair, IsTreeKey, OnWalk, here, next}
use Rattle.ell_core.specs.tree.Flat.{IsInBlock}
use Rattle.ell_core.specs.history.Stages.{Stages, Born}
use Rattle.ell_core.specs.history.Invariant.{LeadsTo, WordsAreSound, Invariant}
use Rattle.ell_core.specs.statements.Looks.{Looks, ends, loads, IsAmid, LooksAreOfOneState}
use Rattle.ell_core.specs.statements.Looks.{stays as look_stays}
use Rattle.ell_core.specs.statements.Readers.{AllCome, from_of, upto_of, Narrows, Comes, begins, stays, goes, StretchesAreOfOneState, EdgesAreOfOneState}
use Rattle.ell_core.proofs.lemmas.tree.Blocks.{flat_by, lacks_by, lacks_below, in_block-leaf, in_block-or_not}
use Rattle.ell_core.proofs.lemmas.stages.Edges.{found_block}
use Rattle.ell_core.proofs.lemmas.tree.Reached.{OnWalk-below, tree_key_leads}
use Rattle.ell_core.proofs.lemmas.stages.Order.{born-claimed}
use Rattle.ell_core.proofs.lemmas.stages.LaterKeys.{root_born, born_below, key_later, block_later, block_before}
use Rattle.ell_core.proofs.lemmas.following.Lawful.{events_lawful}
use Rattle.ell_core.proofs.lemmas.following.Stretches.{AllOnCourse, AllInBlock, stretch_goes_on, all_come_down, goes_there, narrowed_real}
use Rattle.ell_core.proofs.lemmas.runs.Runs.{ran, run_append}
use Rattle.ell_core.proofs.lemmas.runs.Lawful.{passed_has}
use Rattle.ell_core.proofs.lemmas.runs.Looks.{walk_born, root_course, walk_course, walk_ends}

-- a run comes by a state: its events and answers up to there, and those after it
record PassesBy (m : Machine) (events : List Event) (answers : List Shown) (m' state : Machine) : Type 0 where
  before : List Event
  after : List Event
  said : List Shown
  rest : List Shown
  events_are : events ≡ before ++ after
  answers_are : answers ≡ said ++ rest
  first : Run m before said state
  last : Run state after rest m'

-- in a state since which a run went on all keys of a stretch came by a node, whose child was then as it is at the end
record CameSince (m : Machine) (events : List Event) (answers : List Shown) (m' : Machine) (x low high : ℕ) (right : Bool) : Type 0 where
  state : Machine
  by : PassesBy m events answers m' state
  come : AllCome state.words x low high
  child : m'.words.child x right ≡ state.words.child x right

came_later : (m : Machine) (e : Event) (said : Shown) (between : Machine) (events : List Event) (answers : List Shown) (m' : Machine) (x low high : ℕ) (right : Bool)
    → Shows m e said between → CameSince between events answers m' x low high right → CameSince m (e ∷ events) (said ∷ answers) m' x low high right
came_later m e said between events answers m' x low high right shows c = record {
  state = c.state;
  by = record {
    before = e ∷ c.by.before;
    after = c.by.after;
    said = said ∷ c.by.said;
    rest = c.by.rest;
    events_are = ap (λ es. e ∷ es) c.by.events_are;
    answers_are = ap (λ xs. said ∷ xs) c.by.answers_are;
    first = (between, shows, c.by.first);
    last = c.by.last;
  };
  come = c.come;
  child = c.child;
}

came_now : (m : Machine) (e : Event) (said : Shown) (between : Machine) (events : List Event) (answers : List Shown) (m' : Machine) (x low high : ℕ) (right : Bool)
    → Shows m e said between → Run between events answers m' → AllCome between.words x low high → m'.words.child x right ≡ between.words.child x right
    → CameSince m (e ∷ events) (said ∷ answers) m' x low high right
came_now m e said between events answers m' x low high right shows run come same = record {
  state = between;
  by = record {
    before = e ∷ [];
    after = events;
    said = said ∷ [];
    rest = answers;
    events_are = refl;
    answers_are = refl;
    first = (between, shows, refl);
    last = run;
  };
  come = come;
  child = same;
}

-- over a run the child of a node that is on course for all keys of a stretch, which are in its block, is as it was, or since some state in
-- which all of them came by the node
same_or_since : (x low high key : ℕ) (right : Bool) → IsInternal x → low ≤ key → key < high → (m : Machine) (stage : Stages) → Invariant m stage → Born stage x
    → AllOnCourse m.words x low high → AllInBlock m.words x low high → is_right m.words x key ≡ right → (events : List Event) (answers : List Shown) (m' : Machine) → Run m events answers m'
    → (m'.words.child x right ≡ m.words.child x right) ⊎ CameSince m events answers m' x low high right
same_or_since x low high key right inner a b m stage holds born course blocks side [] [] m' run = inl (ap (λ (n : Machine). n.words.child x right) run)
same_or_since x low high key right inner a b m stage holds born course blocks side [] (said ∷ answers) m' run = absurd run
same_or_since x low high key right inner a b m stage holds born course blocks side (e ∷ events) [] m' run = absurd run
same_or_since x low high key right inner a b m stage holds born course blocks side (e ∷ events) (shown.Step said ∷ answers) m' run =
    let between = run.0 in
    let f = (events_lawful m stage e said between holds run.1).follows in
    let on = stretch_goes_on m stage e said between f.stages holds run.1 f.invariant.words f.words x low high key right inner born (f.later.born x born) course blocks a b side in
    let still : AllInBlock between.words x low high = λ k l u. block_later m.words between.words stage holds.words f.words x x k k refl refl born (blocks k l u) in
    elim (same_or_since x low high key right inner a b between f.stages f.invariant (f.later.born x born) on.course still on.side events answers m' run.2) [
      | inl same ↦ elim on.child [
        | inl was ↦ inl (same ∙ was)
        | inr come ↦ inr (came_now m e (shown.Step said) between events answers m' x low high right run.1 run.2 come same)
      ]
      | inr since ↦ inr (came_later m e (shown.Step said) between events answers m' x low high right run.1 since)
    ]
same_or_since x low high key right inner a b m stage holds born course blocks side (e ∷ events) (shown.Refused fault ∷ answers) m' run =
    let same = run.1.1 in
    elim (same_or_since x low high key right inner a b run.0 stage (subst (λ n. Invariant n stage) (sym same) holds) born
    (subst (λ (n : Machine). AllOnCourse n.words x low high) (sym same) course) (subst (λ (n : Machine). AllInBlock n.words x low high) (sym same) blocks) (ap (λ (n : Machine). is_right n.words x key) same ∙ side) events answers m' run.2) [
      | inl is ↦ inl (is ∙ ap (λ (n : Machine). n.words.child x right) same)
      | inr since ↦ inr (came_later m e (shown.Refused fault) run.0 events answers m' x low high right run.1 since)
    ]

-- a state of a run, in which all keys of a stretch come by a node
record CameBy (m : Machine) (events : List Event) (answers : List Shown) (m' : Machine) (x low high : ℕ) : Type 0 where
  state : Machine
  by : PassesBy m events answers m' state
  come : AllCome state.words x low high
  real : high ≤ greatest_key + 1

module _ (m : Machine) (stage : Stages) (holds : Invariant m stage) where
  came_first : (events : List Event) (answers : List Shown) (m' : Machine) (x low high : ℕ) → Run m events answers m' → x ≡ 0 → high ≡ greatest_key + 1
      → CameBy m events answers m' x low high
  came_first events answers m' x low high run root all = record {
    state = m;
    by = record { before = []; after = events; said = []; rest = answers; events_are = refl; answers_are = refl; first = refl; last = run };
    come = λ k a b. here root;
    real = omega (arith, all);
  }

  -- a run that goes on comes by the same state
  by_more : (events more both : List Event) (answers others all : List Shown) (between m' state : Machine) → PassesBy m events answers between state
      → Run between more others m' → both ≡ events ++ more → all ≡ answers ++ others → PassesBy m both all m' state
  by_more events more both answers others all between m' state p run es xs = record {
    before = p.before;
    after = p.after ++ more;
    said = p.said;
    rest = p.rest ++ others;
    events_are = es ∙ (ap (λ l. l ++ more) p.events_are ∙ append_assoc p.before p.after more);
    answers_are = xs ∙ (ap (λ l. l ++ others) p.answers_are ∙ append_assoc p.said p.rest others);
    first = p.first;
    last = run_append state p.after p.rest between more others m' p.last run;
  }

  -- and so does one that comes by it after a state by which it comes
  by_later : (events : List Event) (answers : List Shown) (m' mid state : Machine) (p : PassesBy m events answers m' mid) → PassesBy mid p.after p.rest m' state
      → PassesBy m events answers m' state
  by_later events answers m' mid state p q = record {
    before = p.before ++ q.before;
    after = q.after;
    said = p.said ++ q.said;
    rest = q.rest;
    events_are = p.events_are ∙ (ap (λ l. p.before ++ l) q.events_are ∙ sym (append_assoc p.before q.before q.after));
    answers_are = p.answers_are ∙ (ap (λ l. p.said ++ l) q.answers_are ∙ sym (append_assoc p.said q.said q.rest));
    first = run_append m p.before p.said mid q.before q.said state p.first q.first;
    last = q.last;
  }

  -- the child of a node by which all keys of a stretch came, as it is at the end: so did those of its side by it
  child_came : (events : List Event) (answers : List Shown) (m' : Machine) (x low high : ℕ) (right : Bool) (from upto : ℕ) → IsInternal x
      → Narrows m'.words x right low high from upto → CameBy m events answers m' x low high → CameBy m events answers m' (m'.words.child x right) from upto
  child_came events answers m' x low high right from upto inner narrows c = elim (cases_lt from upto) [
    | inr none ↦ record { state = c.state; by = c.by; come = λ k a b. absurd (omega (arith, none, a, b)); real = narrowed_real m'.words x right low high from upto inner narrows (greatest_key + 1) c.real }
    | inl some ↦
        let w = c.state.words in
        let there = goes_there m'.words x right low high from upto inner narrows in
        let one = there from (omega arith) some in
        let before = ran m stage _ _ c.state holds c.by.first in
        let after = ran c.state before.stages _ _ m' before.invariant c.by.last in
        let sound = before.invariant.words in
        let born = walk_born w before.stages sound from (root_born w before.stages sound) (c.come from one.from one.upto) in
        let came : AllCome w x from upto = λ k a b. let at = there k a b in c.come k at.from at.upto in
        let same : m'.words.key x ≡ w.key x = key_later w m'.words before.stages sound after.words x x refl born in
        let side : (k : ℕ) → from ≤ k → k < upto → is_right w x k ≡ right = λ k a b. ap (λ n. nat_le n k) (sym same) ∙ (there k a b).side in
        let blocks : AllInBlock w x from upto = λ k a b. block_before w m'.words before.stages sound after.words x x k k refl refl born (there k a b).block in
        let course : AllOnCourse w x from upto = λ k a b. let r = c.real in let at = there k a b in let l = at.upto in
        walk_course w before.stages sound k (root_born w before.stages sound) (root_course w before.stages sound k (omega arith)) (came k a b) in
        let down : (v : Words) → AllCome v x from upto → v.key x ≡ m'.words.key x → m'.words.child x right ≡ v.child x right → AllCome v (m'.words.child x right) from upto =
        λ v come key child. subst (λ y. AllCome v y from upto) (sym child)
        (all_come_down v x from upto right inner (λ k a b. ap (λ n. nat_le n k) key ∙ (there k a b).side) come) in
        let real = narrowed_real m'.words x right low high from upto inner narrows (greatest_key + 1) c.real in
        elim (same_or_since x from upto from right inner (omega arith) some c.state before.stages before.invariant born course blocks (side from (omega arith) some)
        c.by.after c.by.rest m' c.by.last) [
          | inl still ↦ record { state = c.state; by = c.by; come = down w came (sym same) still; real = real }
          | inr since ↦
              let mid = ran c.state before.stages _ _ since.state before.invariant since.by.first in
              let kept = key_later w since.state.words before.stages sound mid.words x x refl born in
              record {
                state = since.state;
                by = by_later events answers m' c.state since.state c.by since.by;
                come = down since.state.words since.come (kept ∙ sym same) since.child;
                real = real;
              }
        ]
  ]

  -- so all keys of the stretch of a node to which a reader has come came by it in a state of the run
  came_by : {events : List Event} {answers : List Shown} {m' : Machine} {x low high : ℕ} → Comes m events answers m' x low high → CameBy m events answers m' x low high
  came_by {events = events} {answers = answers} {m' = m'} {x = x} {low = low} {high = high} (begins run root least all) =
      came_first events answers m' x low high run root all
  came_by {m' = m'} (stays {events = events} {both = both} {answers = answers} {all = all} {between = between} more others comes run es xs) =
      let c = came_by comes in
      record { state = c.state; by = by_more events more both answers others all between m' c.state c.by run es xs; come = c.come; real = c.real }
  came_by (goes {events = events} {answers = answers} {m' = m'} {x = x} {low = low} {high = high} {from = from} {upto = upto} right comes inner child narrows) =
      subst (λ n. CameBy m events answers m' n from upto) (sym child) (child_came events answers m' x low high right from upto inner narrows (came_by comes))

run_lengths : (m : Machine) (es : List Event) (xs : List Shown) (m' : Machine) → Run m es xs m' → length es ≡ length xs
run_lengths m [] [] m' run = refl
run_lengths m [] (x ∷ xs) m' run = absurd run
run_lengths m (e ∷ es) [] m' run = absurd run
run_lengths m (e ∷ es) (x ∷ xs) m' run = ap (λ n. suc n) (run_lengths run.0 es xs m' run.2)

-- a state by which a run comes is amid it
amid_by : (m : Machine) (events : List Event) (answers : List Shown) (m' state : Machine) → PassesBy m events answers m' state → IsAmid m events answers m' state
amid_by m events answers m' state by =
    let n = length by.before in
    let same : n ≡ length by.said = run_lengths m by.before by.said state by.first in
    let es : take n events ≡ by.before = ap (take n) by.events_are ∙ take-append_seam by.before by.after in
    let xs : take n answers ≡ by.said = ap (λ k. take k answers) same ∙ (ap (take (length by.said)) by.answers_are ∙ take-append_seam by.said by.rest) in
    let es' : drop n events ≡ by.after = ap (drop n) by.events_are ∙ drop-append_seam by.before by.after in
    let xs' : drop n answers ≡ by.rest = ap (λ k. drop k answers) same ∙ (ap (drop (length by.said)) by.answers_are ∙ drop-append_seam by.said by.rest) in
    record {
      first = n;
      before = subst (λ l. Run m l (take n answers) state) (sym es) (subst (λ l. Run m by.before l state) (sym xs) by.first);
      after = subst (λ l. Run state l (drop n answers) m') (sym es') (subst (λ l. Run state by.after l m') (sym xs') by.last);
    }

-- what a reader finds of a stretch is of one state
pub stretches_of_one_state : StretchesAreOfOneState
stretches_of_one_state m events answers m' leaf low high passed comes outer =
    let has = passed_has m passed in
    let was = came_by m has.stages has.invariant comes in
    let w = was.state.words in
    let before = ran m has.stages _ _ was.state has.invariant was.by.first in
    let after = ran was.state before.stages _ _ m' before.invariant was.by.last in
    let sound = before.invariant.words in
    let below : (k : ℕ) → low ≤ k → k < high → card leaf < w.next =
    λ k a b. (sound.cards (card leaf)).claimed.0 (born-claimed (before.stages (card leaf)) (leaf % 4) (walk_born w before.stages sound k (root_born w before.stages sound) (was.come k a b))) in
    record {
      state = was.state;
      amid = amid_by m events answers m' was.state was.by;
      on = was.come;
      present = λ a b. record {
        leaf = leaf;
        reached = OnWalk-below w (m'.words.key leaf) (was.come (m'.words.key leaf) a b);
        outer = outer;
        has = sym (after.words.key leaf (below (m'.words.key leaf) a b));
        says = sym (after.words.value leaf (below (m'.words.key leaf) a b));
        real = let r = was.real in omega arith;
      };
      absent = λ k a b n there. n (after.words.key leaf (below k a b) ∙ walk_ends w k (was.come k a b) outer (tree_key_leads w sound.tree.ordered k there));
      real = was.real;
      claimed = λ some. let rise = after.words.next in let less = below low (omega arith) some in omega arith;
    }

-- where the walk for a key comes by a node, the key leads from there where it leads
walk_leads : (w : Words) (key : ℕ) {x y : ℕ} → OnWalk w key x y → LeadsTo w key x → LeadsTo w key y
walk_leads w key (here e) leads = subst (LeadsTo w key) (sym e) leads
walk_leads w key (next inner on) (at_leaf outer _ _) = absurd (outer inner)
walk_leads w key (next inner on) (below _ e rest) = walk_leads w key on (subst (LeadsTo w key) e rest)

-- a key of the tree that comes by an internal node is in its block
tree_block : (w : Words) (stage : Stages) → WordsAreSound w stage → (x k : ℕ) → IsInternal x → OnWalk w k 0 x → IsTreeKey w k → IsInBlock w x k
tree_block w stage sound x k inner on there =
    found_block w stage sound k x inner (walk_born w stage sound k (root_born w stage sound) on) (walk_leads w k on (tree_key_leads w sound.tree.ordered k there))

-- so of the keys of a stretch that the block of a node lacks the tree had none
pub edges_of_one_state : EdgesAreOfOneState
edges_of_one_state m events answers m' x low high passed comes inner =
    let has = passed_has m passed in
    let was = came_by m has.stages has.invariant comes in
    let before = ran m has.stages _ _ was.state has.invariant was.by.first in
    let after = ran was.state before.stages _ _ m' before.invariant was.by.last in
    let sound = before.invariant.words in
    record {
      state = was.state;
      amid = amid_by m events answers m' was.state was.by;
      absent = λ k a b lacks there. (
          let on = was.come k a b in
          let born = walk_born was.state.words before.stages sound k (root_born was.state.words before.stages sound) on in
          lacks (block_later was.state.words m'.words before.stages sound after.words x x k k refl refl born
          (tree_block was.state.words before.stages sound x k inner on there)));
    }

-- a reader who looks for a key has come to a node by a stretch in which the key lies
record LookComes (key : ℕ) (m : Machine) (events : List Event) (answers : List Shown) (m' : Machine) (y : ℕ) : Type 0 where
  low : ℕ
  high : ℕ
  from : low ≤ key
  upto : key < high
  comes : Comes m events answers m' y low high

-- or to a node whose block lacks the key, which the tree lacked in one state
record LookMisses (key : ℕ) (m : Machine) (events : List Event) (answers : List Shown) (m' : Machine) (y : ℕ) : Type 0 where
  state : Machine
  by : PassesBy m events answers m' state
  absent : ¬ IsTreeKey state.words key
  stages : Stages
  invariant : Invariant m' stages
  born : Born stages y
  lacks : ¬ IsInBlock m'.words y key

abbrev LookStands : ℕ → Machine → List Event → List Shown → Machine → ℕ → Type 0
LookStands key m events answers m' y = LookComes key m events answers m' y ⊎ LookMisses key m events answers m' y

pub key_from : (n low key : ℕ) → low ≤ key → from_of (nat_le n key) low n ≤ key
key_from n low key a = elim (cases_lt key n) [
  | inl less ↦ subst (λ s. from_of s low n ≤ key) (sym (lt-leb n key less)) a
  | inr most ↦ subst (λ s. from_of s low n ≤ key) (sym (le-leb n key most)) (grind (arith, nat_tests))
]

pub key_upto : (n high key : ℕ) → key < high → key < upto_of (nat_le n key) high n
key_upto n high key b = elim (cases_lt key n) [
  | inl less ↦ subst (λ s. key < upto_of s high n) (sym (lt-leb n key less)) (grind (arith, nat_tests))
  | inr most ↦ subst (λ s. key < upto_of s high n) (sym (le-leb n key most)) b
]

-- a stretch with a key in a node's block narrows to one with the key
record NarrowsWith (w : Words) (x low high key : ℕ) : Type 0 where
  first : ℕ
  last : ℕ
  narrows : Narrows w x (is_right w x key) low high first last
  from : first ≤ key
  upto : key < last

narrows_plain : (w : Words) (x low high key : ℕ) → has_block w.flat_from x ≡ false → low ≤ key → key < high → NarrowsWith w x low high key
narrows_plain w x low high key none a b = record {
  first = from_of (is_right w x key) low (w.key x);
  last = upto_of (is_right w x key) high (w.key x);
  narrows = record { plain = λ e. (refl, refl); flat = λ has. absurd (false≢true (sym none ∙ has)) };
  from = key_from (w.key x) low key a;
  upto = key_upto (w.key x) high key b;
}

narrows_flat : (w : Words) (x low high key : ℕ) → has_block w.flat_from x ≡ true → InHalfOf (w.key x) (is_right w x key) key → low ≤ key → key < high
    → NarrowsWith w x low high key
narrows_flat w x low high key has half a b = let first = half.inside.from in let last = half.inside.before in record {
  first = max low (half_from half.block (is_right w x key));
  last = min high (half_end half.block (is_right w x key));
  narrows = record {
    plain = λ none. absurd (false≢true (sym none ∙ has));
    flat = λ e. record { block = half.block; middle = half.middle; first = refl; last = refl };
  };
  from = grind (arith, nat_tests);
  upto = grind (arith, nat_tests);
}

narrows_with : (w : Words) (x low high key : ℕ) → IsInternal x → IsInBlock w x key → low ≤ key → key < high → NarrowsWith w x low high key
narrows_with w x low high key inner there a b = elim (cases_Bool (has_block w.flat_from x)) [
  | inl has ↦ narrows_flat w x low high key has (side_half (there.inner inner has) refl) a b
  | inr none ↦ narrows_plain w x low high key none a b
]

-- the child of such a node is one too
below_missed : (key : ℕ) (m : Machine) (events : List Event) (answers : List Shown) (m' : Machine) (x : ℕ) → IsInternal x → LookMisses key m events answers m' x
    → LookMisses key m events answers m' (child_for m'.words key x)
below_missed key m events answers m' x inner u =
    let has = lacks_by m'.words x key u.lacks in
    let sound = u.invariant.words in
    let trie = sound.tree.trie (flat_by m'.words.flat_from x has) in record {
      state = u.state;
      by = u.by;
      absent = u.absent;
      stages = u.stages;
      invariant = u.invariant;
      born = (sound.children x inner u.born).born (is_right m'.words x key);
      lacks = lacks_below m'.words trie x (is_right m'.words x key) key inner u.born has u.lacks;
    }

module _ (m : Machine) (stage : Stages) (holds : Invariant m stage) (key : ℕ) where
  -- what a load makes of it
  loaded : (before : List Event) (said : List Shown) (now : Machine) (x : ℕ) → Run m before said now → IsInternal x → LookStands key m before said now x
      → LookStands key m before said now (child_for now.words key x)
  loaded before said now x run inner (inl c) = elim (in_block-or_not now.words x key) [
    | inl there ↦
        let n = narrows_with now.words x c.low c.high key inner there c.from c.upto in
        inl (record { low = n.first; high = n.last; from = n.from; upto = n.upto; comes = goes (is_right now.words x key) c.comes inner refl n.narrows })
    | inr lacks ↦
        let was = came_by m stage holds c.comes in
        let first = ran m stage _ _ was.state holds was.by.first in
        let after = ran was.state first.stages _ _ now first.invariant was.by.last in
        let sound = first.invariant.words in
        let on = was.come key c.from c.upto in
        let born = after.later.born x (walk_born was.state.words first.stages sound key (root_born was.state.words first.stages sound) on) in
        inr (below_missed key m before said now x inner (record {
          state = was.state;
          by = was.by;
          absent = λ there. lacks (block_later was.state.words now.words first.stages sound after.words x x key key refl refl
              (walk_born was.state.words first.stages sound key (root_born was.state.words first.stages sound) on)
              (tree_block was.state.words first.stages sound x key inner on there));
          stages = after.stages;
          invariant = after.invariant;
          born = born;
          lacks = lacks;
        }))
  ]
  loaded before said now x run inner (inr u) = inr (below_missed key m before said now x inner u)

  -- and an event
  passed : (before : List Event) (said : List Shown) (now : Machine) (x : ℕ) (e : Event) (show : Shown) (between : Machine) → Run m before said now
      → Shows now e show between → LookStands key m before said now x → LookStands key m (before ++ e ∷ []) (said ++ show ∷ []) between x
  passed before said now x e show between run shows (inl c) = inl (record {
    low = c.low;
    high = c.high;
    from = c.from;
    upto = c.upto;
    comes = stays (e ∷ []) (show ∷ []) c.comes (between, shows, refl) refl refl;
  })
  passed before said now x e show between run shows (inr u) =
      let after = ran now u.stages (e ∷ []) (show ∷ []) between u.invariant (between, shows, refl) in
      inr (record {
        state = u.state;
        by = by_more m stage holds before (e ∷ []) (before ++ e ∷ []) said (show ∷ []) (said ++ show ∷ []) now between u.state u.by (between, shows, refl) refl refl;
        absent = u.absent;
        stages = after.stages;
        invariant = after.invariant;
        born = after.later.born x u.born;
        lacks = λ there. u.lacks (block_before now.words between.words u.stages u.invariant.words after.words x x key key refl refl u.born there);
      })

  look_stands : (before : List Event) (said : List Shown) {now m' : Machine} {events : List Event} {answers : List Shown} {x y : ℕ}
      → Looks key now events answers m' x y → Run m before said now → LookStands key m before said now x
      → LookStands key m (before ++ events) (said ++ answers) m' y
  look_stands before said {now = now} {m' = m'} {x = x} {y = y} (ends same e) run stands =
      subst (λ es. LookStands key m es (said ++ []) m' y) (sym (append-nil before)) (subst (λ xs. LookStands key m before xs m' y) (sym (append-nil said))
      (subst (LookStands key m before said m') (sym e) (subst (λ n. LookStands key m before said n x) (sym same) stands)))
  look_stands before said {now = now} {x = x} (loads inner look) run stands =
      look_stands before said look run (loaded before said now x run inner stands)
  look_stands before said {now = now} {m' = m'} {x = x} {y = y} (look_stays {between = between} {e = e} {said = show} {events = events} {answers = answers} shows look) run stands =
      let rest = look_stands (before ++ e ∷ []) (said ++ show ∷ []) look (run_append m before said now (e ∷ []) (show ∷ []) between run (between, shows, refl))
      (passed before said now x e show between run shows stands) in
      subst (λ es. LookStands key m es (said ++ show ∷ answers) m' y) (append_assoc before (e ∷ []) events)
      (subst (λ xs. LookStands key m ((before ++ e ∷ []) ++ events) xs m' y) (append_assoc said (show ∷ []) answers) rest)

-- so what it finds is of one state too
pub looks_of_one_state : LooksAreOfOneState
looks_of_one_state key m events answers m' leaf passed real look outer =
    let has = passed_has m passed in
    let start : LookStands key m [] [] m 0 =
    inl (record { low = 0; high = greatest_key + 1; from = omega arith; upto = omega arith; comes = begins refl refl refl refl }) in
    elim (look_stands m has.stages has.invariant key [] [] look refl start) [
      | inl at ↦ (let was = stretches_of_one_state m events answers m' leaf at.low at.high passed at.comes outer in record {
        state = was.state;
        amid = was.amid;
        on = λ there. was.on key at.from at.upto;
        present = λ e. subst (λ k. IsTreePair was.state.words k (m'.words.value leaf)) e
            (was.present (let f = at.from in omega arith) (let u = at.upto in omega arith));
        absent = was.absent key at.from at.upto;
        claimed = was.claimed (let f = at.from in let u = at.upto in omega arith);
      })
      | inr at ↦ record {
        state = at.state;
        amid = amid_by m events answers m' at.state at.by;
        on = λ there. absurd (at.lacks there);
        present = λ e. absurd (at.lacks (in_block-leaf m'.words leaf key outer e));
        absent = λ e. at.absent;
        claimed = born_below m'.words at.stages at.invariant.words leaf at.born;
      }
    ]
