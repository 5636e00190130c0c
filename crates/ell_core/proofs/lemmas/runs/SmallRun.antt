use Rattle.std.proofs.Common.{◌≡◌, ℕ, ◌<◌, inl, inr, true, false, Some, None, List, [], ◌∷◌, refl, arith}
use Rattle.ell_ops.specs.declared.op.Op.TheVariants.{Insert}
use Rattle.ell_core.specs.declared.event.Act.{Act}
use Rattle.ell_core.specs.declared.event.Act.TheVariants as act
use Rattle.ell_core.specs.declared.event.Event.{Event}
use Rattle.ell_core.specs.declared.event.Shown.TheVariants as shown
use Rattle.ell_core.specs.declared.event.Stepped.{Stepped}
use Rattle.ell_core.specs.declared.event.Stepped.TheVariants.{Moved, Won, Answered}
use Rattle.ell_core.specs.declared.fact.Fact.TheVariants.{IFlagged, IChanged, IOver}
use Rattle.ell_core.specs.declared.view.Seen.{Seen}
use Rattle.ell_layout.specs.Words.{relinked, with_update, IsLeaf}
use Rattle.ell_core.specs.state.Facts.{learned}
use Rattle.ell_core.specs.state.Machine.{Machine, Scene, idle, scene, with_scene}
use Rattle.ell_layout.specs.Cards.{iflag, clean, insert_filling}
use Rattle.ell_core.specs.state.Opening.{Setup, opening, opening_ledger}
use Rattle.ell_layout.specs.Start.{opening_words}
use Rattle.ell_word.specs.Node.{infinity1}
use Rattle.ell_core.specs.acts.Searching.{begun, ended, claims, ledger_after}
use Rattle.ell_core.specs.acts.Exchanges.{knowing}
use Rattle.ell_core.specs.acts.Events.{Row, LacksKey, LacksCard, Steps}
use Rattle.ell_core.specs.statements.RunLaws.{CanOpen, IsPassed, Follow}
use Rattle.ell_core.proofs.lemmas.opening.CanOpen.{two_keys_open}
use Rattle.ell_core.proofs.lemmas.tree.Blocks.{no_block-plain}
use Rattle.ell_core.proofs.lemmas.runs.Passed.{openings_passed, passed_on, follows_itself, followed_on}
use Rattle.ell_core.specs.declared.view.Entry.TheVariants.{Absent}
use Rattle.ell_ops.specs.declared.reply.Reply.TheVariants.{Yes}

-- worker 0 owns keys 5 and 7, worker 1 none
abbrev pub owned : List (ℕ × ℕ)
owned = (0, 5) ∷ (0, 7) ∷ []

-- the opening of two workers, with no start keys
abbrev pub setup : Setup
setup = record { count = 2; owned = owned; start = []; cards = 4; shared = λ _. false; flat = false }

abbrev pub opened : Machine
opened = record { words = opening_words; count = 2; last_card = 4; worker = λ i. idle (opening_ledger owned [] i) (λ _. false) (λ _. false) }

-- worker 0 takes an insert of 5 in hand
abbrev pub begun_scene : Scene
begun_scene = record (scene opened 0) { worker = begun (Some (Insert 5 50)) (opened.worker 0) }

-- it reads the root's update word
abbrev pub read_scene : Scene
read_scene = record begun_scene {
  worker = record (begun_scene.worker) { search = record { node = Some 0; read = Some 3; parent = None; grandparent = None } };
}

-- what it saw of the root
abbrev pub seen_root : Seen
seen_root = record { node = 0; word = 3; tag = 0 }

-- it goes down to the left leaf
abbrev pub down_scene : Scene
down_scene = record read_scene {
  worker = record (read_scene.worker) { search = record { node = Some 1; read = None; parent = Some seen_root; grandparent = None } };
}

-- it claims card 1
abbrev pub claimed_scene : Scene
claimed_scene = claims down_scene 0 (insert_filling 1 5 50 0 1 infinity1 0)

-- it flags the root
abbrev pub flagged_scene : Scene
flagged_scene = record {
  words = with_update claimed_scene.words 0 (iflag 1);
  worker = record (claimed_scene.worker) {
    search = record { node = None; read = None; parent = Some seen_root; grandparent = None };
    flagged = true;
    knows = learned claimed_scene.worker.knows (IFlagged 1);
  };
}

-- it exchanges the root's left child
abbrev pub changed_scene : Scene
changed_scene = record {
  words = relinked flagged_scene.words 0 false 4;
  worker = knowing flagged_scene.worker (learned flagged_scene.worker.knows (IChanged 1));
}

-- it takes the flag away
abbrev pub over_scene : Scene
over_scene = record {
  words = with_update changed_scene.words 0 (clean 1);
  worker = knowing changed_scene.worker (learned changed_scene.worker.knows (IOver 1));
}

-- it answers yes
abbrev pub answered_scene : Scene
answered_scene = record over_scene {
  worker = record (ended over_scene.worker) { ledger = ledger_after (Insert 5 50) Yes over_scene.worker.ledger };
}

-- the state with this scene of worker 0
abbrev pub at : Machine → Scene → Machine
at m s = with_scene m 0 s

abbrev pub begun_state : Machine
begun_state = at opened begun_scene

abbrev pub read_state : Machine
read_state = at begun_state read_scene

abbrev pub down_state : Machine
down_state = at read_state down_scene

abbrev pub claimed_state : Machine
claimed_state = at down_state claimed_scene

abbrev pub flagged_state : Machine
flagged_state = at claimed_state flagged_scene

abbrev pub changed_state : Machine
changed_state = at flagged_state changed_scene

abbrev pub over_state : Machine
over_state = at changed_state over_scene

abbrev pub answered_state : Machine
answered_state = at over_state answered_scene

-- an act of worker 0
abbrev pub by : Act → Event
by a = record { worker = 0; act = a }

-- worker 0 makes a step
step : (m : Machine) (a : Act) (said : Stepped) (after : Scene) → 0 < m.count → ¬ LacksKey a (m.worker 0)
    → Row a (scene m 0) said after → ¬ LacksCard a m.words.next m.last_card → Steps m (by a) said (at m after)
step m a said after there has row room =
    record { there = there; becomes = after; happens = record { owned = has; row = row; room = room }; gives = refl }

two : 0 < 2
two = omega arith

pub begins : Steps opened (by (act.Begin (Insert 5 50))) Moved begun_state
begins = step opened (act.Begin (Insert 5 50)) Moved begun_scene two (λ e. let f : Some Absent ≡ None = e.0 in cc)
    (record { free = refl; says = refl; gives = refl }) (λ h. h)

pub reads : Steps begun_state (by act.Upd) Moved read_state
reads = step begun_state act.Upd Moved read_scene two (λ h. h)
    (record { node = 0; stands = refl; internal = refl; unread = refl; says = refl; gives = refl }) (λ h. h)

pub goes_down : Steps read_state (by act.Down) Moved down_state
goes_down = step read_state act.Down Moved down_scene two (λ h. h)
    (record { op = Insert 5 50; seen = seen_root; busy = refl; stands = refl; internal = refl; read = refl; no_card = refl; tagged = refl; says = refl; gives = refl }) (λ h. h)

one_leaf : IsLeaf 1
one_leaf e = omega arith

pub claims_card : Steps down_state (by act.Claim) Moved claimed_state
claims_card = step down_state act.Claim Moved claimed_scene two (λ h. h)
    (inl (record {
      op = Insert 5 50;
      what = record { key = 5; value = 50; was = None };
      below = 1;
      parent = seen_root;
      node_key = infinity1;
      busy = refl;
      puts = refl;
      ready = inl refl;
      at = record { stands = refl; behind = refl; calm = refl };
      takes = record {
        leaf = λ outer e. let h : infinity1 ≡ 5 = e in omega arith;
        edge = λ inner. absurd (one_leaf inner);
      };
      fits = λ none. no_block-plain opening_words 0 5 refl;
      named = record { greater = λ plain. refl; branch = λ flat apart. absurd (omega arith) };
      says = refl;
      gives = refl;
    }))
    (λ h. omega arith)

pub flags_root : Steps claimed_state (by act.IFlag) Won flagged_state
flags_root = step claimed_state act.IFlag Won flagged_scene two (λ h. h)
    (record { op = Insert 5 50; what = record { key = 5; value = 50; was = None }; card = 1; parent = seen_root; busy = refl; puts = refl; holds = refl; unflagged = refl; behind = refl; says = refl; gives = refl })
    (λ h. h)

pub changes_child : Steps flagged_state (by (act.IChild 1)) Won changed_state
changes_child = step flagged_state (act.IChild 1) Won changed_scene two (λ h. h) (record { may = refl; says = refl; gives = refl }) (λ h. h)

pub takes_flag : Steps changed_state (by (act.IUnflag 1)) Won over_state
takes_flag = step changed_state (act.IUnflag 1) Won over_scene two (λ h. h) (record { may = refl; says = refl; gives = refl }) (λ h. h)

pub answers : Steps over_state (by act.Answer) (Answered Yes) answered_state
answers = step over_state act.Answer (Answered Yes) answered_scene two (λ h. h)
    (record {
      op = Insert 5 50;
      reply = Yes;
      busy = refl;
      answers = inr (record { card = 1; holds = refl; flagged = refl; answers = refl }, λ reply leaf. let h : None ≡ Some leaf.leaf = leaf.stands in cc);
      says = refl;
      gives = refl;
    })
    (λ h. h)

-- the entries can open
pub can_open : CanOpen setup
can_open = two_keys_open 2 0 0 5 7 4 false two two (λ e. omega arith) (omega arith) (omega arith)

-- the states of the run are passed
pub opened_passed : IsPassed opened
unfolding opening
opened_passed = openings_passed setup can_open

pub down_passed : IsPassed down_state
down_passed =
    passed_on read_state (by act.Down) (shown.Step Moved) down_state
    (passed_on begun_state (by act.Upd) (shown.Step Moved) read_state
    (passed_on opened (by (act.Begin (Insert 5 50))) (shown.Step Moved) begun_state opened_passed begins) reads)
    goes_down

pub claimed_passed : IsPassed claimed_state
claimed_passed = passed_on down_state (by act.Claim) (shown.Step Moved) claimed_state down_passed claims_card

pub flagged_passed : IsPassed flagged_state
flagged_passed = passed_on claimed_state (by act.IFlag) (shown.Step Won) flagged_state claimed_passed flags_root

pub over_passed : IsPassed over_state
over_passed =
    passed_on changed_state (by (act.IUnflag 1)) (shown.Step Won) over_state
    (passed_on flagged_state (by (act.IChild 1)) (shown.Step Won) changed_state flagged_passed changes_child) takes_flag

-- what a step leads to comes later
pub follows : (m : Machine) (e : Event) (said : Stepped) (after : Machine) → IsPassed m → Steps m e said after → Follow m after
follows m e said after passed steps = followed_on m m e (shown.Step said) after (follows_itself m passed) steps
