use Rattle.std.proofs.Common.{◌≡◌, ℕ, ◌↔◌, false, Some, refl, sym, ap, ◌∙◌, arith}
use Rattle.ell_ops.specs.declared.op.Op.{Op}
use Rattle.ell_ops.specs.Meaning.{key_of}
use Rattle.ell_core.specs.declared.view.Seen.{Seen}
use Rattle.ell_layout.specs.Words.{Words}
use Rattle.ell_core.specs.state.Facts.{card_of_fact}
use Rattle.ell_core.specs.state.Machine.{Worker}
use Rattle.ell_layout.specs.Cards.{is_right, child_for, tag_for}
use Rattle.ell_core.specs.soundness.Sound.{WorkerOwns}
use Rattle.ell_core.specs.history.Stages.{Stages, Born}
use Rattle.ell_core.specs.history.Invariant.{LeadsToValue, SeenIsSound, StandIsSound, Unflagged, WorkerIsSound}
use Rattle.ell_core.proofs.lemmas.stages.LaterKeys.{insert_info, insert_key_later, insert_value_later, putting_later, delete_info, delete_key_later, key_later, side_later, rank_later}
use Rattle.ell_core.proofs.lemmas.keeping.going_on.Cards.{GoesOn, inner_on}
use Rattle.ell_core.proofs.lemmas.keeping.going_on.InHand.{SameGoal, same_place, unflagged_same, flagged_same}

module _ (old new : Words) (stage stages : Stages) (h : GoesOn old new stage stages) where
  -- what a search has seen of a node stays sound
  pub seen_on : (k x : ℕ) (seen : Seen) → Born stage x → SeenIsSound old stage k seen x → SeenIsSound new stages k seen x
  seen_on k x seen born was =
      let own = side_later old new stage h.sound h.words seen.node seen.node k k refl refl was.node.born in
      let side = side_later old new stage h.sound h.words seen.node seen.node (old.key x) (new.key x) refl
      (key_later old new stage h.sound h.words x x refl born) was.node.born in
      let child : child_for new k seen.node ≡ new.child seen.node (is_right old seen.node k) = ap (new.child seen.node) own in
      let tag : tag_for new k seen.node ≡ new.tag seen.node (is_right old seen.node k) = ap (new.tag seen.node) own in
      record {
        node = inner_on old new stage stages h seen.node seen.node refl was.node;
        less = let a = was.less in
            let n = rank_later old new stage h.sound h.words seen.node seen.node refl was.node.born in
            let l = rank_later old new stage h.sound h.words x x refl born in omega arith;
        word = let a = was.word in let up = h.words.update seen.node in omega arith;
        side = side ∙ (was.side ∙ sym own);
        at_least = let a = was.at_least in let up = h.words.tag seen.node (is_right old seen.node k) in omega arith;
        still = λ calm e.
            let same = h.calm seen.node seen.word was.node.born calm was.word e in
            child ∙ ((same.link (is_right old seen.node k)).child ∙ was.still calm same.stood);
        tagged = λ calm e.
            let same = h.calm seen.node seen.word was.node.born calm was.word e in
            tag ∙ ((same.link (is_right old seen.node k)).tag ∙ was.tagged calm same.stood);
      }

  -- a worker stands as it stood, if the walk for a key of its own leads where it led
  pub stand_on : (v : Worker) (k x : ℕ) → (WorkerOwns v k → (value : ℕ) → LeadsToValue new k value x ↔ LeadsToValue old k value x) → StandIsSound old stage v k x
      → StandIsSound new stages v k x
  stand_on v k x leads was = record {
    born = h.later.born x was.born;
    read = λ word e. (let a = was.read word e in let up = h.words.update x in omega arith);
    leads = λ owns value. (λ l. (was.leads owns value).0 ((leads owns value).0 l), λ e. (leads owns value).1 ((was.leads owns value).1 e));
    course = h.course k x was.born was.course;
    parent = λ seen e. (let a = was.parent seen e in
        (seen_on k x seen was.born a.0, h.course k seen.node a.0.node.born a.1));
    grandparent = λ seen above e f. seen_on k seen.node above (was.parent seen e).0.node.born (was.grandparent seen above e f);
    has_parent = was.has_parent;
    has_grandparent = was.has_grandparent;
    deep = λ outer real. was.deep outer (let key = key_later old new stage h.sound h.words x x refl was.born in omega arith);
  }

  -- a card goes where it went, for the key and the value that it had
  pub goal_on : (c : ℕ) → SameGoal old new stage c
  goal_on c = record {
    insert = λ e. (
      insert_info old new stage h.sound h.words c e,
      insert_key_later old new stage h.sound h.words c e,
      insert_value_later old new stage h.sound h.words c e,
    );
    delete = λ e. (delete_info old new stage h.sound h.words c e, delete_key_later old new stage h.sound h.words c e);
    kind = λ e. putting_later old new stage h.sound h.words c e;
  }

  -- a worker stays sound, if the walk for a key of its own leads where it led, and the card that it has in hand without its flag keeps
  -- its stage
  pub worker_on : (v : Worker)
      → ((op : Op) (x : ℕ) → v.operation ≡ Some op → v.search.node ≡ Some x → Born stage x → WorkerOwns v (key_of op)
      → (value : ℕ) → LeadsToValue new (key_of op) value x ↔ LeadsToValue old (key_of op) value x)
      → ((op : Op) (c : ℕ) → v.operation ≡ Some op → v.card ≡ Some c → v.flagged ≡ false → Unflagged old stage v op c
      → stages c ≡ stage c)
      → WorkerIsSound old stage v → WorkerIsSound new stages v
  worker_on v leads keeps was = record {
    facts = λ fact knows. h.later.told fact (card_of_fact fact) (was.facts fact knows);
    real = was.real;
    free = was.free;
    owned = was.owned;
    stands = λ op x busy at. (let stood = was.stands op x busy at in
        stand_on v (key_of op) x (leads op x busy at stood.born) stood);
    unflagged = λ op c busy holds e. (let a = was.unflagged op c busy holds e in
        unflagged_same old new stage stages v v op c (keeps op c busy holds e a) (goal_on c) (same_place v.search) a);
    flagged = λ op c busy holds e. (let a = was.flagged op c busy holds e in
        (flagged_same old new stage stages v v op c h.later (goal_on c) refl a.0, a.1));
  }
