use Rattle.std.proofs.Common.{Bool, ◌≡◌, ℕ, suc, ◌≤◌, Option, Some, None, List, ◌∷◌, inl, inr, ◌⊎◌, refl, sym, ap, subst}
use Rattle.ell_ops.specs.Meaning.{greatest_key}
use Rattle.ell_core.specs.declared.event.Act.{Act}
use Rattle.ell_core.specs.declared.event.Stepped.{Stepped}
use Rattle.ell_core.specs.state.Machine.{Machine}
use Rattle.ell_word.specs.Node.{IsInternal}
use Rattle.ell_core.specs.tree.Flat.{IsInBlock}
use Rattle.ell_core.specs.tree.Tree.{OnWalk, here, next, IsTreeKey}
use Rattle.ell_core.specs.history.Stages.{Stages, Born}
use Rattle.ell_core.specs.history.Later.{WordsLater}
use Rattle.ell_layout.specs.Words.{IsLeaf, Words}
use Rattle.ell_layout.specs.Cards.{is_right}
use Rattle.ell_core.proofs.lemmas.words.Later.{words_same}
use Rattle.ell_core.specs.history.Invariant.{Invariant, WordsAreSound}
use Rattle.ell_core.proofs.lemmas.tree.Blocks.{flat_by, in_block-leaf, in_block-or_not, lacks_by, lacks_below}
use Rattle.ell_core.proofs.lemmas.tree.Reached.{Meets-finds, tree_pair_leads}
use Rattle.ell_core.proofs.lemmas.stages.LaterKeys.{root_born}
use Rattle.ell_core.proofs.lemmas.following.Lawful.{events_lawful, splits_lawful, joins_lawful}
use Rattle.ell_core.proofs.lemmas.runs.Looks.{AreMet, walk_born, walk_met, event_met}
use Rattle.ell_runs.specs.Plans.{TablePlan}
use Rattle.ell_runs.specs.Calls.{act_of, said_of, Becomes}
use Rattle.ell_runs.specs.States.{TableState}
use Rattle.ell_runs.specs.Machines.{HasMachine}
use Rattle.ell_runs.specs.Laws.{machine_of_table}
use Rattle.ell_runs.specs.Turns.{Turn, Makes, Splits, Joins, TableTurns, TableRun, found_by}
use Rattle.ell_runs.specs.Looking.{IsAmid}
use Rattle.ell_runs.proofs.lemmas.runs.TurnsOfRuns.{turn_lawful}

-- where a machine goes on, by an act or by none, and the nodes that were met with it
pub record GoneOn (key : ℕ) (met : ℕ → Type 0) (w : Words) (stage : Stages) (m' : Machine) : Type 0 where
  pub stages : Stages
  pub holds : Invariant m' stages
  pub words : WordsLater w m'.words
  pub born : (x : ℕ) → Born stage x → Born stages x
  pub are : AreMet m'.words stages key (λ x. met x ⊎ OnWalk m'.words key 0 x)

-- the nodes that were met and those on the walk, where no word changed
still_met : (key : ℕ) → key ≤ greatest_key → (met : ℕ → Type 0) (m : Machine) (stage : Stages) (m' : Machine) → Invariant m' stage → m'.words ≡ m.words
    → AreMet m.words stage key met → GoneOn key met m.words stage m'
still_met key real met m stage m' holds same are =
    let were = subst (λ w. AreMet w stage key met) (sym same) are in
    let walks = walk_met m'.words stage holds.words key real in
    record {
      stages = stage;
      holds = holds;
      words = subst (λ w. WordsLater m.words w) (sym same) (words_same m.words);
      born = λ x born. born;
      are = record {
        born = λ x h. elim h [ inl was ↦ were.born x was | inr on ↦ walks.born x on ];
        course = λ x h. elim h [ inl was ↦ were.course x was | inr on ↦ walks.course x on ];
        child = λ x h inner there. elim h [ inl was ↦ inl (were.child x was inner there) | inr on ↦ inr (walks.child x on inner there) ];
      };
    }

becomes_met : (key : ℕ) → key ≤ greatest_key → (met : ℕ → Type 0) (m : Machine) (stage : Stages) (i : ℕ) (o : Option Act) (said : Stepped) (m' : Machine) → Invariant m stage
    → Becomes i o said m m' → AreMet m.words stage key met → GoneOn key met m.words stage m'
becomes_met key real met m stage i None said m' holds is are =
    still_met key real met m stage m' (subst (λ (n : Machine). Invariant n stage) (sym is) holds) (ap (λ (n : Machine). n.words) is) are
becomes_met key real met m stage i (Some a) said m' holds steps are =
    let follows = (events_lawful m stage (record { worker = i; act = a }) said m' holds steps).follows in record {
      stages = follows.stages;
      holds = follows.invariant;
      words = follows.words;
      born = follows.later.born;
      are = event_met m stage (record { worker = i; act = a }) said m' follows.stages key met holds steps follows.invariant.words follows.words follows.later.born real are;
    }

-- the machine after a turn, with the nodes that were met
pub gone_by : (plan : TablePlan) (key : ℕ) → key ≤ greatest_key → (s : TableState) (met : ℕ → Type 0) (was : HasMachine plan s) (stages : Stages)
    → Invariant (machine_of_table plan s was) stages → AreMet was.words stages key met → (t : Turn) (s' : TableState) → TableTurns plan s t s' → (kept : HasMachine plan s') × GoneOn key met was.words stages (machine_of_table plan s' kept)
gone_by plan key real s met was stage inv are (Makes other c) s' h =
    let turn = turn_lawful plan s was (Makes other c) s' h in (
      turn.0,
      becomes_met key real met (machine_of_table plan s was) stage other (act_of c (found_by s c)) (said_of c (found_by s c))
          (machine_of_table plan s' turn.0) inv turn.1.machine are,
    )
gone_by plan key real s met was stage inv are (Splits other left) s' h =
    let turn = turn_lawful plan s was (Splits other left) s' h in
    let m = machine_of_table plan s was in
    let m' = machine_of_table plan s' turn.0 in
    let split = turn.1.machine in
    (turn.0, still_met key real met m stage m' (splits_lawful m stage other m' inv split) (ap (λ (n : Machine). n.words) split.gives) are)
gone_by plan key real s met was stage inv are (Joins one other) s' h =
    let turn = turn_lawful plan s was (Joins one other) s' h in
    let m = machine_of_table plan s was in
    let m' = machine_of_table plan s' turn.0 in
    let join = turn.1.machine in
    (turn.0, still_met key real met m stage m' (joins_lawful m stage one other m' inv join) (ap (λ (n : Machine). n.words) join.gives) are)

module _ (plan : TablePlan) (seat key : ℕ) (real : key ≤ greatest_key) where
  -- in a state of a run the walk for the key comes by a node
  pub record WasOn (s : TableState) (turns : List Turn) (s' : TableState) (x : ℕ) : Type 0 where
    pub state : TableState
    pub amid : IsAmid plan s turns s' state
    pub kept : HasMachine plan state
    pub on : OnWalk kept.words key 0 x

  pub was_first : (s : TableState) (turns : List Turn) (s' : TableState) (x : ℕ) → TableRun plan s turns s' → (kept : HasMachine plan s) → OnWalk kept.words key 0 x
      → WasOn s turns s' x
  was_first s turns s' x run kept on = record { state = s; amid = record { first = 0; before = refl; after = run }; kept = kept; on = on }

  pub was_later : (s between : TableState) (t : Turn) (turns : List Turn) (s' : TableState) (x : ℕ) → TableTurns plan s t between → WasOn between turns s' x
      → WasOn s (t ∷ turns) s' x
  was_later s between t turns s' x turn was = record {
    state = was.state;
    amid = record { first = suc was.amid.first; before = (between, turn, was.amid.before); after = was.amid.after };
    kept = was.kept;
    on = was.on;
  }

-- what is below a node whose block lacks a key lacks it too
pub child_lacks : (w : Words) (stage : Stages) → WordsAreSound w stage → (x key : ℕ) (right : Bool) → IsInternal x → Born stage x → ¬ IsInBlock w x key
    → ¬ IsInBlock w (w.child x right) key
child_lacks w stage sound x key right inner born lacks =
    let has = lacks_by w x key lacks in
    lacks_below w (sound.tree.trie (flat_by w.flat_from x has)) x right key inner born has lacks

-- and so does all that a walk for the key comes to from there
walk_lacks : (w : Words) (stage : Stages) → WordsAreSound w stage → (key : ℕ) {x y : ℕ} → Born stage x → ¬ IsInBlock w x key → OnWalk w key x y → ¬ IsInBlock w y key
walk_lacks w stage sound key born lacks (here e) = subst (λ n. ¬ IsInBlock w n key) (sym e) lacks
walk_lacks w stage sound key born lacks (next {x = x} inner on) =
    walk_lacks w stage sound key ((sound.children x inner born).born (is_right w x key)) (child_lacks w stage sound x key (is_right w x key) inner born lacks) on

-- a walk to a leaf goes on to it from each node on the walk
rest_of : (w : Words) (key : ℕ) {from x leaf : ℕ} → OnWalk w key from x → OnWalk w key from leaf → IsLeaf leaf → OnWalk w key x leaf
rest_of w key {leaf = leaf} (here e) all outer = subst (λ n. OnWalk w key n leaf) (sym e) all
rest_of w key (next inner on) (here e) outer = absurd (outer (subst IsInternal (sym e) inner))
rest_of w key (next inner on) (next _ all) outer = rest_of w key on all outer

-- if a walk comes by an internal node, and the tree has the key, that is in the node's block
pub key_in_block : (w : Words) (stage : Stages) → WordsAreSound w stage → (x key : ℕ) → IsInternal x → OnWalk w key 0 x → IsTreeKey w key → IsInBlock w x key
key_in_block w stage sound x key inner on there = elim (in_block-or_not w x key) [
  | inl inside ↦ inside
  | inr lacks ↦
      let found = Meets-finds w key there.0 (tree_pair_leads w sound.tree.ordered key there.0 there.1) in
      let born = walk_born w stage sound key (root_born w stage sound) on in
      absurd (walk_lacks w stage sound key born lacks (rest_of w key on found.on found.outer) (in_block-leaf w found.leaf key found.outer found.has))
]
