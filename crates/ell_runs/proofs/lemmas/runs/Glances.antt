use Rattle.std.proofs.Common.{◌≡◌, ◌%◌, ℕ, ◌<◌, ◌≤◌, ◌==◌, if◌then◌else◌, Bool, true, false, nat_le, Option, Some, None, List, [], ◌∷◌, ◌++◌, ◌+◌, length, take, drop, inl, inr, ◌⊎◌, refl, sym, ap, ◌∙◌, subst, arith}
use Rattle.std.proofs.lemmas.Bool.{cases_Bool, cases_lt, lt-leb}
use Rattle.std.proofs.lemmas.List.{append_assoc, append-nil}
use Rattle.std.proofs.Math.Seq.{take-append_seam, drop-append_seam}
use mathlib.Core.Option.{some, some-injective}
use lib.ListN.{get_elem?}
use Rattle.ell_ops.specs.Meaning.{greatest_key}
use Rattle.ell_word.specs.declared.link.Link.{Link}
use Rattle.ell_word.specs.Link.{link_in}
use Rattle.ell_word.specs.Node.{IsInternal, card}
use Rattle.ell_word.specs.Word.{packed, unpacked}
use Rattle.ell_word.specs.declared.update.Update.{Update}
use Rattle.ell_core.specs.declared.event.Act.{Act}
use Rattle.ell_core.specs.declared.event.Stepped.{Stepped}
use Rattle.ell_core.specs.declared.fact.Fact.{Fact}
use Rattle.ell_core.specs.declared.fact.Fact.TheVariants as fact
use Rattle.ell_layout.specs.Words.{Words, IsLeaf, has_block}
use Rattle.ell_core.specs.state.Machine.{Machine}
use Rattle.ell_layout.specs.Cards.{is_right}
use Rattle.ell_core.specs.tree.Tree.{IsTreeKey, OnWalk, here, next}
use Rattle.ell_core.specs.history.Stages.{Stages, Born}
use Rattle.ell_core.specs.history.Invariant.{Invariant, WordsAreSound}
use Rattle.ell_core.specs.history.Later.{StagesLater}
use Rattle.ell_core.specs.statements.Readers.{AllCome, from_of, upto_of}
use Rattle.ell_core.proofs.lemmas.outcomes.Decide.{some_not_none}
use Rattle.ell_block.specs.Blocks.{InBlockOf}
use Rattle.ell_block.proofs.lemmas.Nesting.{half_inside}
use Rattle.ell_core.specs.tree.Flat.{IsInBlock}
use Rattle.ell_core.proofs.lemmas.tree.Blocks.{no_block, in_block-inner, in_block-leaf, in_block-or_not}
use Rattle.ell_core.proofs.lemmas.tree.Reached.{OnWalk-below, tree_key_leads}
use Rattle.ell_core.proofs.lemmas.stages.Order.{born-claimed}
use Rattle.ell_core.proofs.lemmas.stages.LaterKeys.{root_born, block_later, block_before}
use Rattle.ell_core.proofs.lemmas.following.Lawful.{events_lawful}
use Rattle.ell_core.proofs.lemmas.following.Stretches.{AllOnCourse, AllInBlock, StretchGoesOn, stretch_goes_on, all_come_down, from_above, upto_below, goes_side, upto_real}
use Rattle.ell_core.proofs.lemmas.runs.Looks.{walk_born, root_course, walk_course, walk_ends}
use Rattle.ell_runs.specs.Plans.{TablePlan, flat_from}
use Rattle.ell_runs.specs.declared.call.Call.{Call}
use Rattle.ell_runs.specs.declared.call.Call.TheVariants as call
use Rattle.ell_runs.specs.declared.call.NewNode.{NewNode}
use Rattle.ell_runs.specs.declared.glance.Glance.{Glance}
use Rattle.ell_runs.specs.declared.glance.Stretch.{Stretch}
use Rattle.ell_runs.specs.declared.view.Told.TheVariants.{Key, Value}
use Rattle.ell_runs.specs.declared.view.View.{View}
use Rattle.ell_runs.specs.Changes.{after_claim, after_flag, after_mark, is_mark_of, with_fact, unmarking}
use Rattle.ell_runs.specs.Views.{IsTold, IsFree, Has, HasCome, HasComeWhole, latest, earlier}
use Rattle.ell_runs.specs.Guards.{IsInHalf, MayLookDown}
use Rattle.ell_runs.specs.Calls.{act_of, said_of, Becomes, May}
use Rattle.ell_runs.specs.States.{TableState}
use Rattle.ell_runs.specs.Machines.{HasMachine}
use Rattle.ell_runs.specs.Laws.{machine_of_table}
use Rattle.ell_runs.specs.TurnEffects.{own_words}
use Rattle.ell_runs.specs.Turns.{Turn, Makes, Splits, Joins, CallIsMade, TableTurns, TableRun, found_by, view_after}
use Rattle.ell_runs.specs.Looking.{IsAmid, HasBetween, TellsBetween, HasFoundBetween, WasSo, BeginsNothing, LooksOn}
use Rattle.ell_runs.proofs.lemmas.own_words.OwnTree.{same_keys}
use Rattle.ell_runs.proofs.lemmas.own_words.OwnWords.{own_pairs}
use Rattle.ell_runs.proofs.lemmas.seats.Seats.{set_there}
use Rattle.ell_runs.proofs.lemmas.runs.OwnSeat.{Only, turn_seat, turn_free, first_looks}
use Rattle.ell_runs.proofs.lemmas.stepping.Looks.{child_read}
use Rattle.ell_runs.proofs.lemmas.runs.TurnsOfRuns.{one_more_turn, run_append, turn_lawful}
use Rattle.ell_runs.proofs.lemmas.runs.GoingOn.{run_goes}
use Rattle.ell_runs.proofs.lemmas.runs.Walked.{child_lacks, key_in_block}

-- a state of a run, with its machine, and the turns before and after it
pub record Amid (plan : TablePlan) (s0 : TableState) (turns : List Turn) (s : TableState) : Type 0 where
  pub before : List Turn
  pub after : List Turn
  pub are : turns ≡ before ++ after
  pub state : TableState
  pub kept : HasMachine plan state
  pub first : TableRun plan s0 before state
  pub last : TableRun plan state after s

-- so it is of the run with a turn more at its end, or at its start; and a state of a later part of it
abbrev amid_more : (plan : TablePlan) (s0 : TableState) (turns : List Turn) (s : TableState) (t : Turn) (s' : TableState) → TableTurns plan s t s'
    → Amid plan s0 turns s → Amid plan s0 (turns ++ t ∷ []) s'
amid_more plan s0 turns s t s' turn at = record {
  before = at.before;
  after = at.after ++ t ∷ [];
  are = ap (λ us. us ++ t ∷ []) at.are ∙ append_assoc at.before at.after (t ∷ []);
  state = at.state;
  kept = at.kept;
  first = at.first;
  last = one_more_turn plan at.state at.after s t s' at.last turn;
}

abbrev amid_later : (plan : TablePlan) (s : TableState) (t : Turn) (between : TableState) (ts : List Turn) (s' : TableState) → TableTurns plan s t between
    → Amid plan between ts s' → Amid plan s (t ∷ ts) s'
amid_later plan s t between ts s' turn at = record {
  before = t ∷ at.before;
  after = at.after;
  are = ap (λ us. t ∷ us) at.are;
  state = at.state;
  kept = at.kept;
  first = (between, turn, at.first);
  last = at.last;
}

abbrev amid_within : (plan : TablePlan) (s0 : TableState) (turns : List Turn) (s : TableState) (at : Amid plan s0 turns s) → Amid plan at.state at.after s
    → Amid plan s0 turns s
amid_within plan s0 turns s at later = record {
  before = at.before ++ later.before;
  after = later.after;
  are = at.are ∙ (ap (λ us. at.before ++ us) later.are ∙ sym (append_assoc at.before later.before later.after));
  state = later.state;
  kept = later.kept;
  first = run_append plan s0 at.before at.state later.before later.state at.first later.first;
  last = later.last;
}

is_amid : (plan : TablePlan) (s0 : TableState) (turns : List Turn) (s : TableState) (at : Amid plan s0 turns s) → IsAmid plan s0 turns s at.state
is_amid plan s0 turns s at =
    let n = length at.before in
    let first : take n turns ≡ at.before = ap (take n) at.are ∙ take-append_seam at.before at.after in
    let last : drop n turns ≡ at.after = ap (drop n) at.are ∙ drop-append_seam at.before at.after in
    record {
      first = n;
      before = subst (λ us. TableRun plan s0 us at.state) (sym first) at.first;
      after = subst (λ us. TableRun plan at.state us s) (sym last) at.last;
    }

-- a claim, a flag and a mark leave a look where it is
pub claim_look : (b : Bool) (c : ℕ) (q : NewNode) (v : View) → (after_claim b c q v).glances ≡ v.glances
claim_look true c q v = refl
claim_look false c q v = refl

pub flag_look : (b : Bool) (new : Fact) (x : ℕ) (u : Update) (v : View) → (after_flag b new x u v).glances ≡ v.glances
flag_look true new x u v = refl
flag_look false new x u v = refl

pub mark_look : (b : Bool) (c x : ℕ) (u : Update) (v : View) → (after_mark b c x u v).glances ≡ v.glances
mark_look true c x u v = refl
mark_look false c x u v = by (is_mark_of c u.state u.card)
  where
    by : (b : Bool) → (if b then with_fact (fact.Marked c) v else unmarking c x u v).glances ≡ v.glances
    by true = refl
    by false = refl

-- a node, whose child on the side of a key is followed, with the keys that come to it, which are in its block
module _ (x low high key : ℕ) (right : Bool) (inner : IsInternal x) (a : low ≤ key) (b : key < high) where
  abbrev GoesOn : Words → Words → Type 0
  GoesOn old new = StretchGoesOn old new x low high key right × AllInBlock new x low high

  child_still : (old new : Words) → new ≡ old → AllOnCourse old x low high → AllInBlock old x low high → is_right old x key ≡ right → GoesOn old new
  child_still old new is course blocks side =
      subst (λ w. GoesOn old w) (sym is) (record { course = course; side = side; child = inl refl }, blocks)

  -- over an act, or none
  becomes_child : (m : Machine) (stage : Stages) (i : ℕ) (o : Option Act) (said : Stepped) (m' : Machine) (stages : Stages) → Invariant m stage
      → Becomes i o said m m' → WordsAreSound m'.words stages → Born stage x → Born stages x → AllOnCourse m.words x low high → AllInBlock m.words x low high
      → is_right m.words x key ≡ right → GoesOn m.words m'.words
  becomes_child m stage i None said m' stages holds is sound born born' course blocks side =
      child_still m.words m'.words (ap (λ (n : Machine). n.words) is) course blocks side
  becomes_child m stage i (Some act) said m' stages holds steps sound born born' course blocks side =
      let words = (events_lawful m stage (record { worker = i; act = act }) said m' holds steps).follows.words in (
        stretch_goes_on m stage (record { worker = i; act = act }) said m' stages holds steps sound words x low high key right inner born born' course blocks a b side,
        λ k l u. block_later m.words m'.words stage holds.words words x x k k refl refl born (blocks k l u),
      )

  module _ (plan : TablePlan) where
    -- over a turn
    turn_child : (s : TableState) (r : HasMachine plan s) (t : Turn) (s' : TableState) → TableTurns plan s t s' → Born r.stages x
        → AllOnCourse r.words x low high → AllInBlock r.words x low high → is_right r.words x key ≡ right
        → (r' : HasMachine plan s') × StagesLater r.stages r'.stages × GoesOn r.words r'.words
    turn_child s r (Makes other c) s' h born course blocks side =
        let turn = turn_lawful plan s r (Makes other c) s' h in (
          turn.0,
          turn.1.later,
          becomes_child (machine_of_table plan s r) r.stages other (act_of c (found_by s c)) (said_of c (found_by s c))
              (machine_of_table plan s' turn.0) turn.0.stages r.invariant turn.1.machine turn.0.invariant.words born (turn.1.later.born x born) course blocks side,
        )
    turn_child s r (Splits other left) s' h born course blocks side =
        let turn = turn_lawful plan s r (Splits other left) s' h in
        let split = turn.1.machine in
        (turn.0, turn.1.later, child_still r.words turn.0.words (ap (λ (n : Machine). n.words) split.gives) course blocks side)
    turn_child s r (Joins one other) s' h born course blocks side =
        let turn = turn_lawful plan s r (Joins one other) s' h in
        let join = turn.1.machine in
        (turn.0, turn.1.later, child_still r.words turn.0.words (ap (λ (n : Machine). n.words) join.gives) course blocks side)

    -- in a state of a run all keys of the stretch came by the node, whose child was then as it is in the end
    record CameSince (s : TableState) (turns : List Turn) (s' : TableState) (end : HasMachine plan s') : Type 0 where
      at : Amid plan s turns s'
      come : AllCome at.kept.words x low high
      child : end.words.child x right ≡ at.kept.words.child x right

    later_since : (s : TableState) (t : Turn) (between : TableState) (ts : List Turn) (s' : TableState) (end : HasMachine plan s') → TableTurns plan s t between
        → CameSince between ts s' end → CameSince s (t ∷ ts) s' end
    later_since s t between ts s' end turn c = record {
      at = amid_later plan s t between ts s' turn c.at;
      come = c.come;
      child = c.child;
    }

    -- over a run the child is as it was, or since such a state
    same_or_since : (s : TableState) (r : HasMachine plan s) → Born r.stages x → AllOnCourse r.words x low high → AllInBlock r.words x low high → is_right r.words x key ≡ right
        → (turns : List Turn) (s' : TableState) → TableRun plan s turns s'
        → (end : HasMachine plan s') × ((end.words.child x right ≡ r.words.child x right) ⊎ CameSince s turns s' end)
    same_or_since s r born course blocks side [] s' run =
        subst (λ n. (end : HasMachine plan n) × ((end.words.child x right ≡ r.words.child x right) ⊎ CameSince s [] n end)) (sym run) (r, inl refl)
    same_or_since s r born course blocks side (t ∷ ts) s' run =
        let turn = turn_child s r t run.0 run.1 born course blocks side in
        let rest = same_or_since run.0 turn.0 (turn.1.born x born) turn.2.0.course turn.2.1 turn.2.0.side ts s' run.2 in (
          rest.0,
          elim rest.1 [
            | inl same ↦ elim turn.2.0.child [
              | inl was ↦ inl (same ∙ was)
              | inr come ↦ inr (record {
                at = record { before = t ∷ []; after = ts; are = refl; state = run.0; kept = turn.0; first = (run.0, run.1, refl); last = run.2 };
                come = come;
                child = same;
              })
            ]
            | inr since ↦ inr (later_since s t run.0 ts s' rest.0 run.1 since)
          ],
        )

module _ (plan : TablePlan) where
  -- in a state of a run all keys of a stretch came by a node
  pub record Came (s0 : TableState) (turns : List Turn) (s : TableState) (x low high : ℕ) : Type 0 where
    pub at : Amid plan s0 turns s
    pub come : AllCome at.kept.words x low high
    pub real : high ≤ greatest_key + 1

  came_more : (s0 : TableState) (turns : List Turn) (s : TableState) (t : Turn) (s' : TableState) (x low high : ℕ) → TableTurns plan s t s'
      → Came s0 turns s x low high → Came s0 (turns ++ t ∷ []) s' x low high
  came_more s0 turns s t s' x low high turn c = record {
    at = amid_more plan s0 turns s t s' turn c.at;
    come = c.come;
    real = c.real;
  }

  -- so did those of a part of it
  came_part : (s0 : TableState) (turns : List Turn) (s : TableState) (x low high from upto : ℕ) → low ≤ from → upto ≤ high → Came s0 turns s x low high
      → Came s0 turns s x from upto
  came_part s0 turns s x low high from upto a b c = record {
    at = c.at;
    come = λ k l u. c.come k (omega arith) (omega arith);
    real = let r = c.real in omega arith;
  }

  -- or the stretch is one key, which the tree lacked in such a state, and the node's block lacks in the last one
  pub record Strayed (s0 : TableState) (turns : List Turn) (s : TableState) (x low high : ℕ) : Type 0 where
    pub at : Amid plan s0 turns s
    pub absent : ¬ IsTreeKey at.kept.words low
    pub one : high ≤ low + 1
    pub real : high ≤ greatest_key + 1
    pub end : HasMachine plan s
    pub born : Born end.stages x
    pub lacks : ¬ IsInBlock end.words x low

  abbrev pub Comes : TableState → List Turn → TableState → ℕ → ℕ → ℕ → Type 0
  Comes s0 turns s x low high = Came s0 turns s x low high ⊎ Strayed s0 turns s x low high

  -- what is so of a node to which a look has come: each of its keys came there or strayed, and all of them came in one
  -- state, if they came as one
  pub record Glanced (s0 : TableState) (turns : List Turn) (s : TableState) (g : Glance) : Type 0 where
    pub each : (j : ℕ) → g.low ≤ j → j < g.high → Comes s0 turns s g.node j (j + 1)
    pub whole : g.whole ≡ true → Came s0 turns s g.node g.low g.high

  strayed_more : (s0 : TableState) (turns : List Turn) (s : TableState) (t : Turn) (s' : TableState) (x low high : ℕ) → TableTurns plan s t s'
      → Strayed s0 turns s x low high → Strayed s0 (turns ++ t ∷ []) s' x low high
  strayed_more s0 turns s t s' x low high turn c =
      let goes = run_goes plan s c.end c.end.stages c.end.invariant (t ∷ []) s' (s', turn, refl) in
      record {
        at = amid_more plan s0 turns s t s' turn c.at;
        absent = c.absent;
        one = c.one;
        real = c.real;
        end = goes.0;
        born = goes.2.born x c.born;
        lacks = λ there. c.lacks (block_before c.end.words goes.0.words c.end.stages c.end.invariant.words goes.1.words x x low low refl refl c.born there);
      }

  comes_more : (s0 : TableState) (turns : List Turn) (s : TableState) (t : Turn) (s' : TableState) (x low high : ℕ) → TableTurns plan s t s'
      → Comes s0 turns s x low high → Comes s0 (turns ++ t ∷ []) s' x low high
  comes_more s0 turns s t s' x low high turn (inl c) = inl (came_more s0 turns s t s' x low high turn c)
  comes_more s0 turns s t s' x low high turn (inr c) = inr (strayed_more s0 turns s t s' x low high turn c)

  glanced_more : (s0 : TableState) (turns : List Turn) (s : TableState) (t : Turn) (s' : TableState) (g : Glance) → TableTurns plan s t s'
      → Glanced s0 turns s g → Glanced s0 (turns ++ t ∷ []) s' g
  glanced_more s0 turns s t s' g turn c = record {
    each = λ j l u. comes_more s0 turns s t s' g.node j (j + 1) turn (c.each j l u);
    whole = λ is. came_more s0 turns s t s' g.node g.low g.high turn (c.whole is);
  }

  -- by no key a look comes to each node
  none_came : (s0 : TableState) (turns : List Turn) (s : TableState) (x y low high from upto : ℕ) → upto ≤ from → upto ≤ greatest_key + 1 → Came s0 turns s x low high
      → Came s0 turns s y from upto
  none_came s0 turns s x y low high from upto none real c = record {
    at = c.at;
    come = λ k l u. absurd (omega (arith, none, l, u));
    real = real;
  }

  module _ (seat : ℕ) (s : TableState) (v : View) (there : get_elem? s.views seat ≡ some v) (x k : ℕ) (told : IsTold v (Key x k)) where
    -- the key of a node is as it is told later
    key_there : (state : TableState) (kept : HasMachine plan state) (turns : List Turn) → TableRun plan state turns s → Born kept.stages x → kept.words.key x ≡ k
    key_there state kept turns run born =
        let goes = run_goes plan state kept kept.stages kept.invariant turns s run in
        sym (goes.1.words.key x ((kept.invariant.words.cards (card x)).claimed.0 (born-claimed (kept.stages (card x)) (x % 4) born)))
        ∙ ((goes.0.views seat v there).entries (Key x k) told).1

    -- who strayed strays on
    strayed_down : (s0 : TableState) (turns : List Turn) (low high : ℕ) (right : Bool) (n : ℕ) → IsInternal x → ((end : HasMachine plan s) → Born end.stages x → end.words.child x right ≡ n)
        → Strayed s0 turns s x low high → Strayed s0 turns s n low high
    strayed_down s0 turns low high right n inner listed c =
        let sound = c.end.invariant.words in
        let is = listed c.end c.born in
        record {
          at = c.at;
          absent = c.absent;
          one = c.one;
          real = c.real;
          end = c.end;
          born = subst (Born c.end.stages) is ((sound.children x inner c.born).born right);
          lacks = subst (λ y. ¬ IsInBlock c.end.words y low) is (child_lacks c.end.words c.end.stages sound x low right inner c.born c.lacks);
        }

    -- a stretch by which a look came to the node, on a side of it, and in its block
    came_down : (s0 : TableState) (turns : List Turn) (low high : ℕ) (right : Bool) (n : ℕ) → IsInternal x → ((end : HasMachine plan s) → Born end.stages x → end.words.child x right ≡ n)
        → low < high → ((j : ℕ) → low ≤ j → j < high → nat_le k j ≡ right) → (c : Came s0 turns s x low high) → AllInBlock c.at.kept.words x low high → Came s0 turns s n low high
    came_down s0 turns low high right n inner listed less sides c blocks =
        let w = c.at.kept.words in
        let sound = c.at.kept.invariant.words in
        let born = walk_born w c.at.kept.stages sound low (root_born w c.at.kept.stages sound) (c.come low (omega arith) less) in
        let has = key_there c.at.state c.at.kept c.at.after c.at.last born in
        let side : (j : ℕ) → low ≤ j → j < high → is_right w x j ≡ right = λ j l u. ap (λ m. nat_le m j) has ∙ sides j l u in
        let course : AllOnCourse w x low high = λ i l u. let r = c.real in walk_course w c.at.kept.stages sound i (root_born w c.at.kept.stages sound) (root_course w c.at.kept.stages sound i (omega arith)) (c.come i l u) in
        let down : (y : Words) → AllCome y x low high → y.key x ≡ k → n ≡ y.child x right → AllCome y n low high =
        λ y come key child. subst (λ z. AllCome y z low high) (sym child)
        (all_come_down y x low high right inner (λ j l u. ap (λ m. nat_le m j) key ∙ sides j l u) come) in
        let since = same_or_since x low high low right inner (omega arith) less plan c.at.state c.at.kept born course blocks (side low (omega arith) less) c.at.after s c.at.last in
        let is = sym (listed since.0 ((since.0.views seat v there).entries (Key x k) told).0) in
        elim since.1 [
          | inl same ↦ record {
            at = c.at;
            come = down w c.come has (is ∙ same);
            real = c.real;
          }
          | inr later ↦
              let u = later.at.kept.words in
              let sound' = later.at.kept.invariant.words in
              let born' = walk_born u later.at.kept.stages sound' low (root_born u later.at.kept.stages sound') (later.come low (omega arith) less) in
              record {
                at = amid_within plan s0 turns s c.at later.at;
                come = down u later.come (key_there later.at.state later.at.kept later.at.after later.at.last born') (is ∙ later.child);
                real = c.real;
              }
        ]

    -- one key that the node's block lacks, by which a look came to it: the tree lacked it then
    strays : (s0 : TableState) (turns : List Turn) (low high : ℕ) → IsInternal x → low < high → high ≤ low + 1 → (c : Came s0 turns s x low high) → ¬ IsInBlock c.at.kept.words x low
        → Strayed s0 turns s x low high
    strays s0 turns low high inner less one c lacks =
        let w = c.at.kept.words in
        let sound = c.at.kept.invariant.words in
        let on = c.come low (omega arith) less in
        let born = walk_born w c.at.kept.stages sound low (root_born w c.at.kept.stages sound) on in
        let goes = run_goes plan c.at.state c.at.kept c.at.kept.stages c.at.kept.invariant c.at.after s c.at.last in
        record {
          at = c.at;
          absent = λ tree. lacks (key_in_block w c.at.kept.stages sound x low inner on tree);
          one = one;
          real = c.real;
          end = goes.0;
          born = goes.2.born x born;
          lacks = λ in_block. lacks (block_before w goes.0.words c.at.kept.stages sound goes.1.words x x low low refl refl born in_block);
        }

    -- keys that are in a half of the node's block are in its block
    half_there : (w : Words) (right : Bool) (to : Stretch) → IsInternal x → w.key x ≡ k → IsInHalf k right to → AllInBlock w x to.low to.high
    half_there w right to inner has half j l u =
        let from = half.from in
        let upto = half.upto in
        in_block-inner w x j inner (record { block = half.block; middle = has ∙ half.middle; inside = half_inside half.block right j (record { from = omega arith; before = omega arith }) })

    -- one key by which a look came to the node comes to the child on its side
    key_down : (s0 : TableState) (turns : List Turn) (j : ℕ) (right : Bool) (n : ℕ) → IsInternal x → ((end : HasMachine plan s) → Born end.stages x → end.words.child x right ≡ n)
        → nat_le k j ≡ right → Comes s0 turns s x j (j + 1) → Comes s0 turns s n j (j + 1)
    key_down s0 turns j right n inner listed side (inr c) = inr (strayed_down s0 turns j (j + 1) right n inner listed c)
    key_down s0 turns j right n inner listed side (inl c) = elim (in_block-or_not c.at.kept.words x j) [
      | inl there ↦ inl (came_down s0 turns j (j + 1) right n inner listed (omega arith)
          (λ i l u. let same : j ≡ i = omega arith in subst (λ m. nat_le k m ≡ right) same side) c
          (λ i l u. let same : j ≡ i = omega arith in subst (IsInBlock c.at.kept.words x) same there))
      | inr lacks ↦ inr (strayed_down s0 turns j (j + 1) right n inner listed (strays s0 turns j (j + 1) inner (omega arith) (omega arith) c lacks))
    ]

    module _ (low high : ℕ) (right : Bool) (to : Stretch) (first : from_of right low k ≤ to.low) (last : to.high ≤ upto_of right high k) where
      -- keys that go on by a side are on it, and are some by which the look came
      goes_on : (j : ℕ) → to.low ≤ j → j < to.high → (low ≤ j) × (j < high) × (nat_le k j ≡ right)
      goes_on j l u =
          let a : from_of right low k ≤ j = omega arith in
          let b : j < upto_of right high k = omega arith in
          (from_above right low k j a, upto_below right high k j b, goes_side right low high k j a b)

      -- all by which it came as one, of the half of the node's block on that side, if it has one, come to the child as one
      whole_down : (s0 : TableState) (turns : List Turn) (n : ℕ) → IsInternal x → ((end : HasMachine plan s) → Born end.stages x → end.words.child x right ≡ n)
          → (has_block (flat_from plan) x ≡ true → IsInHalf k right to) → Came s0 turns s x low high → Came s0 turns s n to.low to.high
      whole_down s0 turns n inner listed half c = elim (cases_lt to.low to.high) [
        | inr none ↦ none_came s0 turns s x n low high to.low to.high none
            (let most = upto_real right high k (greatest_key + 1) c.real in omega arith) c
        | inl less ↦
            let low_on = goes_on to.low (omega arith) less in
            let most = upto_real right high k high (omega arith) in
            let b = came_part s0 turns s x low high to.low to.high low_on.0 (omega arith) c in
            let w = b.at.kept.words in
            let born = walk_born w b.at.kept.stages b.at.kept.invariant.words to.low (root_born w b.at.kept.stages b.at.kept.invariant.words) (b.come to.low (omega arith) less) in
            came_down s0 turns to.low to.high right n inner listed less (λ j l u. (goes_on j l u).2) b
            (elim (cases_Bool (has_block w.flat_from x)) [
              | inr none ↦ (λ j l u. no_block w x j none)
              | inl has ↦ half_there w right to inner (key_there b.at.state b.at.kept b.at.after b.at.last born) (half (ap (λ m. has_block m x) (sym b.at.kept.shape) ∙ has))
            ])
      ]

module _ (plan : TablePlan) (seat : ℕ) where
  -- the pass in the seat has nothing in hand, and each of its glances is of a state since this one
  record Looks (s0 : TableState) (turns : List Turn) (s : TableState) : Type 0 where
    view : View
    there : get_elem? s.views seat ≡ some view
    free : IsFree view
    came : (g : Glance) → Has view.glances g → Glanced plan s0 turns s g

  module _ (s0 : TableState) (turns : List Turn) (s : TableState) (at : Looks s0 turns s) where
    -- so are they after a call, of a state that is not later than it
    abbrev AllCame : View → Type 0
    AllCame v = (g : Glance) → Has v.glances g → Glanced plan s0 turns s g

    came_still : {gs : List Glance} → gs ≡ at.view.glances → (g : Glance) → Has gs g → Glanced plan s0 turns s g
    came_still same g has = at.came g (subst (λ gs. Has gs g) same has)

    came_as_one : (x low high : ℕ) → HasComeWhole at.view x low high → Came plan s0 turns s x low high
    came_as_one x low high c =
        let glance = c.come.glance in
        came_part plan s0 turns s x glance.low glance.high low high c.come.from c.come.upto
        (subst (λ y. Came plan s0 turns s y glance.low glance.high) c.come.there ((at.came glance c.come.among).whole c.whole))

    goes_down : (from : Glance) (to : Stretch) (right : Bool) → MayLookDown (flat_from plan) at.view from to right → AllCame (view_after s at.view (call.LookDown from to right))
    goes_down from to right may g (latest _ _) =
        let c = may.come in
        let was = at.came c.glance c.among in
        let n = (link_in (found_by s (call.LookDown from to right))).node in
        let listed : (end : HasMachine plan s) → Born end.stages from.node → end.words.child from.node right ≡ n =
        λ end born. sym (ap (λ (k : Link). k.node) (child_read plan s end seat at.view at.there from.node right may.inner born)) in
        let least = from_above right from.low may.key in
        record {
          each = λ j l u.
              let on = goes_on plan seat s at.view at.there from.node may.key may.told from.low from.high right to may.goes.low may.goes.high j l u in
              let a = c.from in
              let b = c.upto in
              key_down plan seat s at.view at.there from.node may.key may.told s0 turns j right n may.inner listed on.2
              (subst (λ x. Comes plan s0 turns s x j (j + 1)) c.there (was.each j (let e = on.0 in omega arith) (let e = on.1 in omega arith)));
          whole = λ is.
              let whole = may.goes.whole is in
              whole_down plan seat s at.view at.there from.node may.key may.told from.low from.high right to may.goes.low may.goes.high s0 turns n may.inner listed whole.1
              (came_as_one from.node from.low from.high (may.as_one whole.0));
        }
    goes_down from to right may g (earlier _ _ _ has) = at.came g has

    call_came : (c : Call) → BeginsNothing c → May plan c at.view → AllCame (view_after s at.view c)
    call_came call.Look keeps may = absurd keeps
    call_came call.Rest keeps may = absurd keeps
    call_came (call.LookDown from to right) keeps may = goes_down from to right may
    call_came (call.Claim c q) keeps may = came_still (claim_look (found_by s (call.Claim c q) == c) c q at.view)
    call_came (call.IFlag c p from) keeps may =
        came_still (flag_look (found_by s (call.IFlag c p from) == packed from) (fact.IFlagged c) p (unpacked (found_by s (call.IFlag c p from))) at.view)
    call_came (call.DFlag c gp from) keeps may =
        came_still (flag_look (found_by s (call.DFlag c gp from) == packed from) (fact.DFlagged c) gp (unpacked (found_by s (call.DFlag c gp from))) at.view)
    call_came (call.Mark c p was) keeps may =
        came_still (mark_look (found_by s (call.Mark c p was) == was) c p (unpacked (found_by s (call.Mark c p was))) at.view)
    call_came (call.Begin op) keeps may = absurd keeps
    call_came call.Again keeps may = absurd (some_not_none may.busy at.free)
    call_came call.Leave keeps may = absurd (some_not_none may.busy at.free)
    call_came (call.Answer said took) keeps may = absurd (some_not_none may.busy at.free)
    call_came (call.Upd x) keeps may = at.came
    call_came (call.Down x right) keeps may = at.came
    call_came call.Next keeps may = at.came
    call_came (call.KeyOf x) keeps may = at.came
    call_came (call.ValueOf x) keeps may = at.came
    call_came (call.Info c f) keeps may = at.came
    call_came (call.FrozenChild c p right) keeps may = at.came
    call_came (call.Fill c f value) keeps may = at.came
    call_came (call.IChild c p l replaces right) keeps may = at.came
    call_came (call.IUnflag c p) keeps may = at.came
    call_came (call.DChild c gp p y right) keeps may = at.came
    call_came (call.DUnflag c gp) keeps may = at.came
    call_came (call.Backtrack c gp) keeps may = at.came

    turn_looks : (t : Turn) (s' : TableState) → TableTurns plan s t s' → Only BeginsNothing seat t → Looks s0 (turns ++ t ∷ []) s'
    turn_looks t s' h on =
        let goes = turn_seat BeginsNothing plan s seat at.view at.there t s' h on in
        let came : AllCame goes.view = elim goes.made [
          | inl same ↦ came_still (ap (λ (u : View). u.glances) same)
          | inr c ↦ subst AllCame (sym c.3) (call_came c.0 c.1 c.2)
        ] in
        record {
          view = goes.view;
          there = goes.there;
          free = (turn_free plan s seat at.view t s' goes at.free).free;
          came = λ g has. glanced_more plan s0 turns s t s' g h (came g has);
        }

  run_looks : (s0 : TableState) (turns : List Turn) (s : TableState) → Looks s0 turns s → (more : List Turn) (s' : TableState) → TableRun plan s more s' → LooksOn seat more
      → Looks s0 (turns ++ more) s'
  run_looks s0 turns s at [] s' run on =
      subst (λ us. Looks s0 us s') (sym (append-nil turns)) (subst (Looks s0 turns) (sym run) at)
  run_looks s0 turns s at (t ∷ ts) s' run on =
      let looks = first_looks seat t ts on in
      subst (λ us. Looks s0 us s') (append_assoc turns (t ∷ []) ts)
      (run_looks s0 (turns ++ t ∷ []) run.0 (turn_looks s0 turns s at t run.0 run.1 looks.0) ts s' run.2 looks.1)

  -- a key that is no greater than another is left of a node whose key is greater than that one
  left_of_top : (k most key : ℕ) → k ≡ most + 2 → key ≤ most → false ≡ nat_le k key
  left_of_top k most key e real = sym (lt-leb k key (omega arith))

  -- a look that begins has come to its node by all real keys
  look_begins : (s : TableState) → HasMachine plan s → (s1 : TableState) → CallIsMade plan s seat call.Look s1 → Looks s1 [] s1
  look_begins s r s1 h =
      let turn = turn_lawful plan s r (Makes seat call.Look) s1 h in
      let kept = turn.0 in
      let n = (link_in (found_by s call.Look)).node in
      let sound = r.invariant.words in
      let now : get_elem? s1.views seat ≡ some (view_after s h.view call.Look) =
      ap (λ (t : TableState). get_elem? t.views seat) h.gives ∙ set_there s.views seat (view_after s h.view call.Look) h.view h.there in
      let same : kept.words ≡ r.words = ap (λ (m : Machine). m.words) turn.1.machine in
      let is : r.words.child 0 false ≡ n =
      sym (ap (λ (k : Link). k.node) (child_read plan s r seat h.view h.there 0 false refl (root_born r.words r.stages sound))) in
      let come : AllCome kept.words n 0 (greatest_key + 1) = λ k low less.
      subst (λ (w : Words). OnWalk w k 0 n) (sym same)
      (next refl (here (sym (ap (r.words.child 0) (sym (left_of_top (r.words.key 0) greatest_key k sound.tree.root_key (omega arith))) ∙ is)))) in
      record {
        view = view_after s h.view call.Look;
        there = now;
        free = h.may;
        came = λ g has. first g has kept come;
      }
    where
      first : (g : Glance) → Has (record { node = (link_in (found_by s call.Look)).node; low = 0; high = greatest_key + 1; whole = true } ∷ []) g → (kept : HasMachine plan s1)
          → AllCome kept.words (link_in (found_by s call.Look)).node 0 (greatest_key + 1) → Glanced plan s1 [] s1 g
      first g (latest _ _) kept come =
          let n = (link_in (found_by s call.Look)).node in
          let came : Came plan s1 [] s1 n 0 (greatest_key + 1) =
          record {
            at = record { before = []; after = []; are = refl; state = s1; kept = kept; first = refl; last = refl };
            come = come;
            real = omega arith;
          } in
          record {
            each = λ j l u. inl (came_part plan s1 [] s1 n 0 (greatest_key + 1) j (j + 1) l (omega arith) came);
            whole = λ is. came;
          }
      first g (earlier _ _ _ has) kept come = absurd (nowhere g has)
        where
          nowhere : (g : Glance) → Has [] g → ⊥
          nowhere g has = elim has [ ]

module _ (plan : TablePlan) (s0 : TableState) (turns : List Turn) (s : TableState) (seat : ℕ) (v : View) (there : get_elem? s.views seat ≡ some v) where
  -- what was found at a node by all keys of a stretch
  came_there : (node node_key low high : ℕ) (what : Option (ℕ × ℕ)) → IsTold v (Key node node_key) → TellsBetween (flat_from plan) v node node_key low high what
      → Came plan s0 turns s node low high → WasSo plan s0 turns s (HasBetween low high what)
  unfolding HasBetween
  came_there node node_key low high what told tell c =
      record { state = c.at.state; amid = is_amid plan s0 turns s c.at; so = by what tell }
    where
      w : Words
      w = c.at.kept.words

      born : (k : ℕ) → low ≤ k → k < high → Born c.at.kept.stages node
      born k a b = walk_born w c.at.kept.stages c.at.kept.invariant.words k (root_born w c.at.kept.stages c.at.kept.invariant.words) (c.come k a b)

      has : (k : ℕ) → low ≤ k → k < high → w.key node ≡ node_key
      has k a b = key_there plan seat s v there node node_key told c.at.state c.at.kept c.at.after c.at.last (born k a b)

      tree : (k : ℕ) → IsTreeKey (own_words c.at.state) k → IsTreeKey w k
      tree k = (same_keys (own_words c.at.state) w (own_pairs plan c.at.state c.at.kept) k).1

      -- a key of the stretch that the tree has is that of the leaf
      only : IsLeaf node → (k : ℕ) → low ≤ k → k < high → IsTreeKey (own_words c.at.state) k → node_key ≡ k
      only outer k a b in_tree = sym (has k a b) ∙ walk_ends w k (c.come k a b) outer (tree_key_leads w c.at.kept.invariant.words.tree.ordered k (tree k in_tree))

      -- and one in the block of an internal node
      inside : IsInternal node → has_block (flat_from plan) node ≡ true → (k : ℕ) → low ≤ k → k < high → IsTreeKey (own_words c.at.state) k → InBlockOf node_key k
      inside inner has_it k a b in_tree =
          subst (λ n. InBlockOf n k) (has k a b)
          ((key_in_block w c.at.kept.stages c.at.kept.invariant.words node k inner (c.come k a b) (tree k in_tree)).inner inner
          (ap (λ m. has_block m node) c.at.kept.shape ∙ has_it))

      value_there : (value : ℕ) → IsTold v (Value node value) → Born c.at.kept.stages node → w.value node ≡ value
      value_there value says born' =
          let goes = run_goes plan c.at.state c.at.kept c.at.kept.stages c.at.kept.invariant c.at.after s c.at.last in
          sym (goes.1.words.value node ((c.at.kept.invariant.words.cards (card node)).claimed.0 (born-claimed (c.at.kept.stages (card node)) (node % 4) born')))
          ∙ ((goes.0.views seat v there).entries (Value node value) says).1

      by : (o : Option (ℕ × ℕ)) → TellsBetween (flat_from plan) v node node_key low high o → HasBetween low high o (own_words c.at.state)
      by None tells = λ k a b in_tree. elim tells [
        | inl leaf ↦ (let is = only leaf.0 k a b in_tree in elim leaf.1 [ inl less ↦ absurd (omega arith) | inr more ↦ absurd (omega arith) ])
        | inr edge ↦ edge.2 k a b (inside edge.0 edge.1 k a b in_tree)
      ]
      by (Some pair) tells = (
        tells.2,
        tells.3,
        (own_pairs plan c.at.state c.at.kept pair.0 pair.1).0 (record {
          leaf = node;
          reached = OnWalk-below w pair.0 (c.come pair.0 tells.2 tells.3);
          outer = tells.0;
          has = has pair.0 tells.2 tells.3 ∙ tells.1;
          says = value_there pair.1 tells.4 (born pair.0 tells.2 tells.3);
          real = let r = c.real in let u = tells.3 in omega arith;
        }),
        λ k a b other in_tree. other (sym tells.1 ∙ only tells.0 k a b in_tree),
      )

  -- and at one by a key that strayed
  strayed_there : (node node_key low high : ℕ) (what : Option (ℕ × ℕ)) → IsTold v (Key node node_key) → TellsBetween (flat_from plan) v node node_key low high what
      → Strayed plan s0 turns s node low high → WasSo plan s0 turns s (HasBetween low high what)
  unfolding HasBetween
  strayed_there node node_key low high what told tell c =
      record { state = c.at.state; amid = is_amid plan s0 turns s c.at; so = by what tell }
    where
      by : (o : Option (ℕ × ℕ)) → TellsBetween (flat_from plan) v node node_key low high o → HasBetween low high o (own_words c.at.state)
      by None tells = λ k a b in_tree.
          let o = c.one in
          let same : k ≡ low = omega arith in
          c.absent (subst (IsTreeKey c.at.kept.words) same ((same_keys (own_words c.at.state) c.at.kept.words (own_pairs plan c.at.state c.at.kept) k).1 in_tree))
      by (Some pair) tells =
          let o = c.one in
          let a = tells.2 in
          let b = tells.3 in
          let same : pair.0 ≡ low = omega arith in
          absurd (c.lacks (in_block-leaf c.end.words node low tells.0
          (((c.end.views seat v there).entries (Key node node_key) told).1 ∙ (tells.1 ∙ same))))

  found_there : (node node_key low high : ℕ) (what : Option (ℕ × ℕ)) → IsTold v (Key node node_key) → TellsBetween (flat_from plan) v node node_key low high what
      → Comes plan s0 turns s node low high → WasSo plan s0 turns s (HasBetween low high what)
  found_there node node_key low high what told tells (inl c) = came_there node node_key low high what told tells c
  found_there node node_key low high what told tells (inr c) = strayed_there node node_key low high what told tells c

-- a look since it began, where it has come to
looked : (plan : TablePlan) (v : View) (s : TableState) → HasMachine plan s → (seat : ℕ) (s1 : TableState) → CallIsMade plan s seat call.Look s1 → (turns : List Turn) (s' : TableState)
    → TableRun plan s1 turns s' → LooksOn seat turns → get_elem? s'.views seat ≡ some v → (g : Glance) → Has v.glances g → Glanced plan s1 turns s' g
looked plan v s r seat s1 call turns s' run on there g has =
    let looks = run_looks plan seat s1 [] s1 (look_begins plan seat s r s1 call) turns s' run on in
    let same : looks.view ≡ v = some-injective looks.view v (sym looks.there ∙ there) in
    looks.came g (subst (λ (u : View). Has u.glances g) (sym same) has)

-- so what a look finds of a stretch was so in one state since it began
pub stretches_of_one_state : (plan : TablePlan) (v : View) (low high : ℕ) (there : Option (ℕ × ℕ)) → HasFoundBetween (flat_from plan) v low high there
    → (s : TableState) → HasMachine plan s → (seat : ℕ) (s1 : TableState) → CallIsMade plan s seat call.Look s1 → (turns : List Turn) (s' : TableState)
    → TableRun plan s1 turns s' → LooksOn seat turns → get_elem? s'.views seat ≡ some v → WasSo plan s1 turns s' (HasBetween low high there)
stretches_of_one_state plan v low high what found s r seat s1 call turns s' run on there =
    let c = found.comes.come in
    let came = looked plan v s r seat s1 call turns s' run on there c.glance c.among in
    came_there plan s1 turns s' seat v there found.node found.node_key low high what found.told found.tells
    (came_part plan s1 turns s' found.node c.glance.low c.glance.high low high c.from c.upto
    (subst (λ x. Came plan s1 turns s' x c.glance.low c.glance.high) c.there (came.whole found.comes.whole)))

-- and what it finds of one key
pub keys_of_one_state : (plan : TablePlan) (v : View) (key node node_key : ℕ) (there : Option (ℕ × ℕ)) → HasCome v node key (key + 1) → IsTold v (Key node node_key)
    → TellsBetween (flat_from plan) v node node_key key (key + 1) there
    → (s : TableState) → HasMachine plan s → (seat : ℕ) (s1 : TableState) → CallIsMade plan s seat call.Look s1 → (turns : List Turn) (s' : TableState)
    → TableRun plan s1 turns s' → LooksOn seat turns → get_elem? s'.views seat ≡ some v → WasSo plan s1 turns s' (HasBetween key (key + 1) there)
keys_of_one_state plan v key node node_key what c told tells s r seat s1 call turns s' run on there =
    let came = looked plan v s r seat s1 call turns s' run on there c.glance c.among in
    let low = c.from in
    let high = c.upto in
    found_there plan s1 turns s' seat v there node node_key key (key + 1) what told tells
    (subst (λ x. Comes plan s1 turns s' x key (key + 1)) c.there (came.each key low (omega arith)))
