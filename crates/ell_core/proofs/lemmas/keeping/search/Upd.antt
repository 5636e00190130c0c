use Rattle.std.proofs.Common.{◌≡◌, ◌≢◌, ℕ, Some, None, inl, inr, refl, sym, ap, subst, arith}
use Rattle.ell_ops.specs.Meaning.{key_of}
use Rattle.ell_word.specs.Node.{IsInternal}
use Rattle.ell_core.specs.declared.event.Act.TheVariants as act
use Rattle.ell_layout.specs.Words.{Words}
use Rattle.ell_core.specs.state.Facts.{Knowledge, learned_any, told_by}
use Rattle.ell_core.specs.state.Machine.{Worker, Machine, with_scene}
use Rattle.ell_core.specs.acts.Searching.{with_read}
use Rattle.ell_core.specs.history.Stages.{Stages, Born}
use Rattle.ell_core.specs.history.Invariant.{StandIsSound, WorkerIsSound, Invariant}
use Rattle.ell_core.specs.history.Later.{Follows}
use Rattle.ell_core.specs.acts.Wins.{wins_by}
use Rattle.ell_core.proofs.lemmas.outcomes.Decide.{cases_option, same_value, some_not_none}
use Rattle.ell_core.proofs.lemmas.keeping.Learning.{KnowsAllowed, learns_word}
use Rattle.ell_core.proofs.lemmas.keeping.going_on.InHand.{SamePlace, same_goal, unflagged_same, flagged_same, stands_same}
use Rattle.ell_core.proofs.lemmas.keeping.OneWorker.{TakesOn, follows_worker, takes_on_same}
use Rattle.ell_core.proofs.lemmas.stages.Advances.{stages_same}
use Rattle.ell_core.proofs.lemmas.keeping.KeepsInvariant.{KeepsInvariant}

-- a worker that has read an update word, with other knowledge
abbrev pub reading : Worker → ℕ → Knowledge → Worker
reading v word known = record v { search = with_read v.search word; knows = known }

module _ (w : Words) (stage : Stages) (v : Worker) (node : ℕ) (known : Knowledge) (sound : WorkerIsSound w stage v)
    (at : v.search.node ≡ Some node) where
  -- the worker after it read the update word of its node
  abbrev reads : Worker
  reads = reading v (w.update node) known

  -- a worker that stands at a node has an operation
  pub standing_busy : v.operation ≢ None
  standing_busy e = some_not_none at (ap (λ (u : Worker). u.search.node) (sound.free e))

  place : SamePlace v.search reads.search
  place = record { node = refl; parent = refl; grandparent = refl }

  -- it stands as it stood, and the word that it read is the node's
  stands_reading : (k x : ℕ) → v.search.node ≡ Some x → StandIsSound w stage v k x → StandIsSound w stage reads k x
  stands_reading k x same h = stands_same w stage v reads k x place refl
      (λ word e. (let a = same_value refl e in let b = ap w.update (same_value at same) in omega arith)) h

  -- it is sound with knowledge that is allowed
  pub sound_reading : KnowsAllowed stage known → WorkerIsSound w stage reads
  sound_reading allowed = record {
    facts = allowed;
    real = sound.real;
    free = λ e. absurd (standing_busy e);
    owned = sound.owned;
    stands = λ op x busy same. stands_reading (key_of op) x same (sound.stands op x busy same);
    unflagged = λ op c busy holds f. unflagged_same w w stage stage v reads op c refl (same_goal w stage c) place
        (sound.unflagged op c busy holds f);
    flagged = λ op c busy holds f. (let was = sound.flagged op c busy holds f in
        (flagged_same w w stage stage v reads op c (stages_same stage) (same_goal w stage c) refl was.0, was.1));
  }

  -- the node where it stands came into the tree
  pub standing_born : Born stage node
  standing_born = elim (cases_option v.operation) [
    | inl op ↦ (sound.stands op.0 node op.1 at).born
    | inr e ↦ absurd (standing_busy e)
  ]

-- what a worker knows once it has read the update word of a node
abbrev pub told_to : Machine → ℕ → ℕ → Knowledge
told_to m i node = learned_any (m.worker i).knows (told_by (m.words.update node))

-- a worker may read the update word of the internal node where it stands
pub takes_on_reading : (m : Machine) (stage : Stages) (i node : ℕ) → Invariant m stage → (m.worker i).search.node ≡ Some node
    → IsInternal node
    → TakesOn m stage i (reading (m.worker i) (m.words.update node) (told_to m i node))
takes_on_reading m stage i node sound at inner =
    let each = sound.workers.each i in
    let born = standing_born m.words stage (m.worker i) node (m.worker i).knows each at in
    let allowed = learns_word m.words stage (m.worker i).knows node (sound.words.updates node inner born) each.facts in
    takes_on_same m stage i (reading (m.worker i) (m.words.update node) (told_to m i node))
    (sound_reading m.words stage (m.worker i) node (told_to m i node) each at allowed) refl refl refl refl refl

-- upd keeps the invariant
pub keeps_upd : KeepsInvariant act.Upd
keeps_upd m stage i said becomes there sound happens =
    let r = happens.row in
    subst (λ s. Follows m stage act.Upd i said (with_scene m i s)) (sym r.gives)
    (follows_worker m stage act.Upd i said _ there sound
    (λ c. ap (λ s. wins_by act.Upd (m.worker i).card s c) r.says)
    (takes_on_reading m stage i r.node sound r.stands r.internal))
