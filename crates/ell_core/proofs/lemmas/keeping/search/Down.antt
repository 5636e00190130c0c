use Rattle.std.proofs.Common.{◌≡◌, ◌≢◌, ℕ, ◌+◌, ◌≤◌, Bool, true, false, nat_le, Some, None, inl, inr, refl, sym, ap, ◌∙◌, subst, arith}
use Rattle.std.proofs.lemmas.Bool.{cases_eq, le-leb, lt-leb}
use Rattle.ell_ops.specs.declared.op.Op.{Op}
use Rattle.ell_ops.specs.Meaning.{greatest_key, key_of}
use Rattle.ell_word.specs.Node.{IsInternal, infinity1}
use Rattle.ell_core.specs.declared.event.Act.TheVariants as act
use Rattle.ell_core.specs.declared.view.Seen.{Seen}
use Rattle.ell_layout.specs.Words.{Words, IsLeaf}
use Rattle.ell_core.specs.state.Machine.{Worker, Machine, with_scene}
use Rattle.ell_layout.specs.Cards.{is_right, child_for, tag_for}
use Rattle.ell_core.specs.acts.Searching.{gone_down}
use Rattle.ell_trie.specs.Ranges.{below}
use Rattle.ell_core.specs.history.Stages.{Stages}
use Rattle.ell_core.specs.history.Invariant.{top, IsOnCourse, ChildrenAreSound, TreeIsSound, WordsAreSound, SeenIsSound, StandIsSound, WorkerIsSound, Invariant}
use Rattle.ell_core.specs.history.Later.{Follows}
use Rattle.ell_core.specs.acts.Wins.{wins_by}
use Rattle.ell_core.proofs.lemmas.outcomes.Decide.{same_value, some_not_none}
use Rattle.ell_trie.proofs.lemmas.order.Bounds.{below_of, leaf_key}
use Rattle.ell_core.proofs.lemmas.tree.Courses.{course_down}
use Rattle.ell_core.proofs.lemmas.keeping.OneWorker.{TakesOn, follows_worker, takes_on_same}
use Rattle.ell_core.proofs.lemmas.keeping.KeepsInvariant.{KeepsInvariant}

-- the child on a side has its key on that side
side_kept : (w : Words) (stage : Stages) (x : ℕ) (right : Bool) → ChildrenAreSound w stage x
    → is_right w x (w.key (w.child x right)) ≡ right
side_kept w stage x true h = le-leb (w.key x) (w.key (w.child x true)) h.right_more
side_kept w stage x false h = lt-leb (w.key x) (w.key (w.child x false)) h.left_less

-- the walk for a real key goes left at the root, as the walk for the lesser infinity does
left_at_root : (root k g : ℕ) → root ≡ g + 2 → k ≤ g → nat_le root k ≡ nat_le root (g + 1)
left_at_root root k g e real = lt-leb root k (omega arith) ∙ sym (lt-leb root (g + 1) (omega arith))

-- a leaf right below the root, on the walk for a real key, has the lesser infinity
leaf_below_root : (w : Words) (stage : Stages) (k : ℕ) → TreeIsSound w stage → k ≤ greatest_key → IsLeaf (child_for w k 0)
    → w.key (child_for w k 0) ≡ infinity1
leaf_below_root w stage k h real outer =
    let side = left_at_root (w.key 0) k greatest_key h.root_key real in
    leaf_key w.key w.child infinity1 (child_for w k 0) outer
    (below_of w.key w.child top h.ordered {k = infinity1} {x = 0} refl (ap (w.child 0) side) h.last)

-- a worker that has gone down from a node
abbrev pub down : Words → Worker → Op → Seen → Worker
down w v op seen = record v { search = gone_down v.search seen (child_for w (key_of op) seen.node) }

module _ (w : Words) (stage : Stages) (words : WordsAreSound w stage) (v : Worker) (op : Op) (seen : Seen)
    (sound : WorkerIsSound w stage v) (busy : v.operation ≡ Some op) (at : v.search.node ≡ Some seen.node)
    (inner : IsInternal seen.node) (read : v.search.read ≡ Some seen.word) (no_card : v.card ≡ None)
    (tagged : seen.tag ≡ tag_for w (key_of op) seen.node) where
  -- the key, and the child on its side
  abbrev k : ℕ
  k = key_of op

  abbrev child : ℕ
  child = child_for w k seen.node

  stood : StandIsSound w stage v k seen.node
  stood = sound.stands op seen.node busy at

  children : ChildrenAreSound w stage seen.node
  children = words.children seen.node inner stood.born

  -- what it saw of the node that it left
  seen_down : SeenIsSound w stage k seen child
  seen_down = record {
    node = record { inner = inner; born = stood.born };
    less = children.rising (is_right w seen.node k);
    word = stood.read seen.word read;
    side = side_kept w stage seen.node (is_right w seen.node k) children;
    at_least = omega arith;
    still = λ calm same. refl;
    tagged = λ calm same. sym tagged;
  }

  -- it has a grandparent where it stands at a leaf of a real key
  deep_down : IsLeaf child → w.key child ≤ greatest_key → v.search.parent ≢ None
  deep_down outer real = elim (cases_eq seen.node 0) [
    | inr other ↦ stood.has_parent other
    | inl root ↦ absurd (let e = leaf_below_root w stage k words.tree (sound.real k (sound.owned op busy))
        (subst (λ n. IsLeaf (child_for w k n)) root outer) in
        let f = ap (λ n. w.key (child_for w k n)) root in omega arith)
  ]

  -- it stands where it may
  stands_down : StandIsSound w stage (down w v op seen) k child
  stands_down = record {
    born = children.born (is_right w seen.node k);
    read = λ word e. absurd (some_not_none e refl);
    leads = λ owns value. (
      λ l. (stood.leads owns value).0 (below inner refl l),
      λ e. below_of w.key w.child top words.tree.ordered inner refl ((stood.leads owns value).1 e),
    );
    course = course_down w stage words k seen.node stood.born stood.course inner;
    parent = λ other e. subst (λ s. SeenIsSound w stage k s child × IsOnCourse w k s.node) (same_value refl e)
        (seen_down, stood.course);
    grandparent = λ other above e f. subst (λ s. SeenIsSound w stage k above s.node) (same_value refl e)
        (stood.parent above f).0;
    has_parent = λ n e. some_not_none refl e;
    has_grandparent = λ other e n. stood.has_parent (λ f. n (ap (λ (s : Seen). s.node) (sym (same_value refl e)) ∙ f));
    deep = deep_down;
  }

  -- it is sound
  sound_down : WorkerIsSound w stage (down w v op seen)
  sound_down = record {
    facts = sound.facts;
    real = sound.real;
    free = λ e. absurd (some_not_none busy e);
    owned = sound.owned;
    stands = λ other x e there. subst (λ o. StandIsSound w stage (down w v op seen) (key_of o) x) (same_value busy e)
        (subst (StandIsSound w stage (down w v op seen) k) (same_value refl there) stands_down);
    unflagged = λ other c e holds f. absurd (some_not_none holds no_card);
    flagged = λ other c e holds f. absurd (some_not_none at (sound.flagged other c e holds f).1);
  }

-- a worker may go down
takes_on_down : (m : Machine) (stage : Stages) (i : ℕ) (op : Op) (seen : Seen) → Invariant m stage
    → (m.worker i).operation ≡ Some op → (m.worker i).search.node ≡ Some seen.node → IsInternal seen.node
    → (m.worker i).search.read ≡ Some seen.word → (m.worker i).card ≡ None → seen.tag ≡ tag_for m.words (key_of op) seen.node
    → TakesOn m stage i (down m.words (m.worker i) op seen)
takes_on_down m stage i op seen sound busy at inner read no_card tagged = takes_on_same m stage i (down m.words (m.worker i) op seen)
    (sound_down m.words stage sound.words (m.worker i) op seen (sound.workers.each i) busy at inner read no_card tagged) refl refl refl refl refl

-- down keeps the invariant
pub keeps_down : KeepsInvariant act.Down
keeps_down m stage i said becomes there sound happens =
    let r = happens.row in
    subst (λ s. Follows m stage act.Down i said (with_scene m i s)) (sym r.gives)
    (follows_worker m stage act.Down i said _ there sound
    (λ c. ap (λ s. wins_by act.Down (m.worker i).card s c) r.says)
    (takes_on_down m stage i r.op r.seen sound r.busy r.stands r.internal r.read r.no_card r.tagged))
