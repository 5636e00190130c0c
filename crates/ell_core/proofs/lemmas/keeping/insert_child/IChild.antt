use Rattle.std.proofs.Common.{◌≡◌, ◌≢◌, ℕ, ◌<◌, if◌then◌else◌, Bool, true, false, [], ◌∷◌, ◌++◌, inl, inr, ◌⊎◌, ◌↔◌, refl, sym, ap, ◌∙◌, subst, arith}
use Rattle.std.proofs.lemmas.Bool.{cases_eq}
use Rattle.ell_word.specs.Node.{internal, left_leaf, right_leaf}
use Rattle.ell_core.specs.declared.exchange.Exchange.TheVariants as exchange
use Rattle.ell_core.specs.declared.event.Act.TheVariants as act
use Rattle.ell_core.specs.declared.event.Stepped.{Stepped}
use Rattle.ell_core.specs.declared.event.Stepped.TheVariants.{Won, Lost}
use Rattle.ell_core.specs.declared.fact.Fact.TheVariants as fact
use Rattle.ell_layout.specs.Words.{Words, relinked}
use Rattle.ell_layout.specs.Cards.{is_right, exchange_side, is_replace_card, brought}
use Rattle.ell_core.specs.state.Facts.{Knowledge, learned}
use Rattle.ell_core.specs.state.Machine.{Machine, Scene, scene, with_scene}
use Rattle.ell_core.specs.acts.Exchanges.{knowing, IChild, expected}
use Rattle.ell_core.specs.history.Stages.{Stage, Stages, IFlagged, IChanged, RChanged, is_insert, is_changed}
use Rattle.ell_core.specs.history.Invariant.{LeadsTo, LeadsToValue, insert_key, insert_value, insert_side, InsertCard, WordsAreSound, Invariant}
use Rattle.ell_core.specs.history.Later.{Follows, wins_of}
use Rattle.ell_layout.proofs.lemmas.Writes.{put_same}
use Rattle.ell_core.proofs.lemmas.stages.Order.{waits_or_changed, changed-insert}
use Rattle.ell_core.proofs.lemmas.keeping.Learning.{KnowsAllowed, learns_fact, takes_on_knowing, follows_knowing}
use Rattle.ell_core.proofs.lemmas.keeping.OneWorker.{keeps_worker}
use Rattle.ell_core.proofs.lemmas.keeping.insert_child.Card.{Brings, just_changed, same_by, ichild_words, ichild_stages, its_child, its_tag}
use Rattle.ell_core.proofs.lemmas.keeping.insert_child.Nodes.{Adds, pairs_after}
use Rattle.ell_core.proofs.lemmas.keeping.insert_child.Tree.{adds_plain}
use Rattle.ell_core.proofs.lemmas.keeping.insert_child.Flat.{adds_flat}
use Rattle.ell_core.proofs.lemmas.words.Sides.{max_is}
use Rattle.ell_core.proofs.lemmas.keeping.insert_child.Leaf.{brings_leaf, pairs_replaced, key_had}
use Rattle.ell_core.proofs.lemmas.keeping.insert_child.Cards.{stages_after, words_after, unborn_says}
use Rattle.ell_core.proofs.lemmas.keeping.insert_child.Words.{sound_after}
use Rattle.ell_core.proofs.lemmas.keeping.insert_child.Workers.{ichild_machine, workers_after}
use Rattle.ell_core.proofs.lemmas.stages.Kinds.{kinds_later}
use Rattle.ell_core.proofs.lemmas.keeping.SameOutcome.{follows_as}
use Rattle.ell_core.proofs.lemmas.words.Exchanged.{child_found, child_missed}
use Rattle.ell_core.proofs.lemmas.stages.Advances.{wins_put}
use Rattle.ell_core.proofs.lemmas.keeping.KeepsInvariant.{KeepsInvariant}

-- what the worker knows after the child exchange
abbrev knows_after : Machine → ℕ → ℕ → Knowledge
knows_after m i c = learned (m.worker i).knows (fact.IChanged c)

-- the scene after a child exchange that is won
abbrev scene_won : Machine → ℕ → ℕ → Scene
scene_won m i c = record { words = ichild_words m.words c (brought m.words c); worker = knowing (m.worker i) (knows_after m i c) }

-- the scene after one that is lost
abbrev scene_lost : Machine → ℕ → ℕ → Scene
scene_lost m i c = record { words = m.words; worker = knowing (m.worker i) (knows_after m i c) }

-- the stage after one that is won
abbrev pub brought_stage : Words → ℕ → Stage
brought_stage w c = if is_replace_card w c then RChanged else IChanged

-- the side on which the node comes in is that of the card's key
pub brought_side : (w : Words) (stage : Stages) (c : ℕ) → InsertCard w stage c → exchange_side w (w.p c) (brought w c) ≡ insert_side w c
brought_side w stage c said = ap (is_right w (w.p c)) (by (is_replace_card w c) refl)
  where
    by : (b : Bool) → is_replace_card w c ≡ b → w.key (if b then right_leaf c else internal c) ≡ w.key (internal c)
    by true one = sym (said.node_key.greater (inr (same_by w c one)) ∙ max_is (w.key (left_leaf c)) (w.key (right_leaf c)) said.ordered)
    by false two = refl

-- a card of two leaf keys adds its key
adds : (w : Words) (stage : Stages) (sound : WordsAreSound w stage) (c : ℕ) (flagged : stage c ≡ IFlagged) → is_replace_card w c ≡ false → Adds w stage c
adds w stage sound c flagged two = elim (cases_eq w.flat_from 0) [
  | inl plain ↦ adds_plain w stage sound c flagged two plain
  | inr some ↦ adds_flat w stage sound c flagged two (omega arith)
]

-- the card brings its right leaf where it replaces a leaf, else its internal node
pub brings : (w : Words) (stage : Stages) (sound : WordsAreSound w stage) (c : ℕ) (flagged : stage c ≡ IFlagged)
    → Brings w stage c (brought w c) (brought_stage w c)
brings w stage sound c flagged = by (is_replace_card w c) refl
  where
    by : (b : Bool) → is_replace_card w c ≡ b → Brings w stage c (if b then right_leaf c else internal c) (if b then RChanged else IChanged)
    by true one = brings_leaf w stage sound c flagged one
    by false two = (adds w stage sound c flagged two).brings

module _ (m : Machine) (stage : Stages) (i : ℕ) (sound : Invariant m stage) (c : ℕ) where
  -- the scene after a child exchange, by its words
  abbrev scene_with : Words → Scene
  scene_with words = record { words = words; worker = knowing (m.worker i) (knows_after m i c) }

  -- the card waits for its child exchange, or has made it
  pub waits_or_made : (m.worker i).knows (fact.IFlagged c) ≡ true → (stage c ≡ IFlagged) ⊎ (is_changed (stage c) ≡ true)
  waits_or_made knows = waits_or_changed (stage c) ((sound.workers.each i).facts (fact.IFlagged c) knows)

  -- where the card waits, the exchange is won
  pub won_waiting : stage c ≡ IFlagged → (said : Stepped) (becomes : Scene) → IChild c (scene m i) said becomes
      → (said ≡ Won) × (becomes ≡ scene_won m i c)
  won_waiting flagged said becomes row =
      let side = brought_side m.words stage c ((sound.words.cards c).insert (ap is_insert flagged)) in
      let found = child_found m.words (m.words.p c) (expected m.words c (m.words.l c)) (brought m.words c)
      (ap (m.words.tag (m.words.p c)) side ∙ its_tag m.words stage sound.words c flagged)
      (ap (m.words.child (m.words.p c)) side ∙ its_child m.words stage sound.words c flagged) in
      (row.says ∙ found.0, row.gives ∙ ap scene_with (found.1 ∙ ap (λ s. relinked m.words (m.words.p c) s (brought m.words c)) side))

  -- where it was made, the exchange is lost
  pub lost_changed : is_changed (stage c) ≡ true → (said : Stepped) (becomes : Scene) → IChild c (scene m i) said becomes
      → (said ≡ Lost) × (becomes ≡ scene_lost m i c)
  lost_changed changed said becomes row =
      let past = (sound.words.inserts c).changed changed in
      let side = ap (m.words.tag (m.words.p c)) (brought_side m.words stage c ((sound.words.cards c).insert (changed-insert (stage c) changed))) in
      let missed = child_missed m.words (m.words.p c) (expected m.words c (m.words.l c)) (brought m.words c) (λ e. omega arith) in
      (row.says ∙ missed.0, row.gives ∙ ap scene_with missed.1)

  follows_lost : i < m.count → is_changed (stage c) ≡ true
      → Follows m stage (act.IChild c) i Lost (with_scene m i (scene_lost m i c))
  follows_lost there changed = follows_knowing m stage (act.IChild c) i Lost (knows_after m i c) there sound (λ d. refl)
      (learns_fact stage (m.worker i).knows (fact.IChanged c) (sound.workers.each i).facts changed)

  module _ (flagged : stage c ≡ IFlagged) where
    abbrev its : Brings m.words stage c (brought m.words c) (brought_stage m.words c)
    its = brings m.words stage sound.words c flagged

    abbrev new_stages : Stages
    new_stages = ichild_stages stage c (brought_stage m.words c)

    abbrev new_machine : Machine
    new_machine = ichild_machine m c (brought m.words c)

    invariant_made : Invariant new_machine new_stages
    invariant_made = record {
      words = sound_after m.words stage sound.words c flagged (brought m.words c) (brought_stage m.words c) its;
      workers = workers_after m stage sound c flagged (brought m.words c) (brought_stage m.words c) its;
      limit = sound.limit;
      kinds = kinds_later m.words (ichild_words m.words c (brought m.words c)) stage new_stages
          (words_after m.words stage sound.words c flagged (brought m.words c) (brought_stage m.words c) its)
          (stages_after m.words stage sound.words c flagged (brought m.words c) (brought_stage m.words c) its) (inl refl) sound.kinds;
    }

    invariant_won : i < m.count → Invariant (with_scene m i (scene_won m i c)) new_stages
    invariant_won there =
        let made = invariant_made in
        let allowed : KnowsAllowed new_stages (knows_after m i c) =
        learns_fact new_stages (m.worker i).knows (fact.IChanged c) (made.workers.each i).facts
        (ap is_changed (put_same stage c (brought_stage m.words c)) ∙ just_changed (λ s. is_changed s ≡ true) (brought_stage m.words c) its.fresh refl refl) in
        keeps_worker new_machine new_stages i (knowing (m.worker i) (knows_after m i c)) there made
        (takes_on_knowing new_machine new_stages i (knows_after m i c) made allowed)

    follows_won : i < m.count → Follows m stage (act.IChild c) i Won (with_scene m i (scene_won m i c))
    follows_won there = record {
      stages = new_stages;
      invariant = invariant_won there;
      words = words_after m.words stage sound.words c flagged (brought m.words c) (brought_stage m.words c) its;
      later = stages_after m.words stage sound.words c flagged (brought m.words c) (brought_stage m.words c) its;
      unborn = λ d below out. unborn_says m.words stage sound.words c flagged (brought m.words c) (brought_stage m.words c) its d out;
      wins = wins_put stage c (brought_stage m.words c) exchange.IChild
          (just_changed (λ s. wins_of s ≡ wins_of IFlagged ++ exchange.IChild ∷ []) (brought_stage m.words c) its.fresh refl refl
          ∙ ap (λ s. wins_of s ++ exchange.IChild ∷ []) (sym flagged));
    }

-- the child exchange of an insert keeps the invariant
pub keeps_ichild : (c : ℕ) → KeepsInvariant (act.IChild c)
keeps_ichild c m stage i said becomes there sound happens = elim (waits_or_made m stage i sound c happens.row.may) [
  | inl flagged ↦ (let row = won_waiting m stage i sound c flagged said becomes happens.row in
      follows_as m stage (act.IChild c) i said Won becomes (scene_won m i c) row.0 row.1 (follows_won m stage i sound c flagged there))
  | inr changed ↦ (let row = lost_changed m stage i sound c changed said becomes happens.row in
      follows_as m stage (act.IChild c) i said Lost becomes (scene_lost m i c) row.0 row.1 (follows_lost m stage i sound c there changed))
]

-- the child exchange is won where the card waits for it
pub ichild_won-waits : (m : Machine) (stage : Stages) (i c : ℕ) (becomes : Scene) → Invariant m stage
    → IChild c (scene m i) Won becomes → stage c ≡ IFlagged
ichild_won-waits m stage i c becomes sound row = elim (waits_or_made m stage i sound c row.may) [
  | inl flagged ↦ flagged
  | inr changed ↦ (let clash : Won ≡ Lost = (lost_changed m stage i sound c changed Won becomes row).0 in absurd (cc))
]

-- what a child exchange that is won does to the keys of the tree: the card's key was absent, and comes to them with its value
pub record GainsKey (old new : Words) (k value : ℕ) : Type 0 where
  pub absent : ¬ LeadsTo old k 0
  pub pairs : (j v : ℕ) → LeadsToValue new j v 0 ↔ (LeadsToValue old j v 0 ⊎ ((j ≡ k) × (v ≡ value)))

-- or it was there with a value, and has another one
pub record ReplacesKey (old new : Words) (k was value : ℕ) : Type 0 where
  pub had : LeadsToValue old k was 0
  pub pairs : (j v : ℕ) → LeadsToValue new j v 0 ↔ ((LeadsToValue old j v 0 × (j ≢ k)) ⊎ ((j ≡ k) × (v ≡ value)))

-- what it does, by the card's kind
abbrev pub BringsKey : Bool → Words → Words → ℕ → ℕ → ℕ → Type 0
BringsKey true old new k was value = ReplacesKey old new k was value
BringsKey false old new k was value = GainsKey old new k value

-- where the card waits, the child exchange does so
pub ichild_brings : (w : Words) (stage : Stages) (sound : WordsAreSound w stage) (c : ℕ) → stage c ≡ IFlagged
    → BringsKey (is_replace_card w c) w (ichild_words w c (brought w c)) (insert_key w c) (w.value (w.l c)) (insert_value w c)
ichild_brings w stage sound c flagged = by (is_replace_card w c) refl
  where
    by : (b : Bool) → is_replace_card w c ≡ b
        → BringsKey b w (ichild_words w c (if b then right_leaf c else internal c)) (insert_key w c) (w.value (w.l c)) (insert_value w c)
    by true one = record { had = key_had w stage sound c flagged one; pairs = pairs_replaced w stage sound c flagged one }
    by false two = (let its = adds w stage sound c flagged two in record { absent = its.absent; pairs = pairs_after w stage sound c flagged two its })

-- so does each one that is won
pub ichild_won-brings : (m : Machine) (stage : Stages) (i c : ℕ) (becomes : Scene) → Invariant m stage → IChild c (scene m i) Won becomes
    → BringsKey (is_replace_card m.words c) m.words becomes.words (insert_key m.words c) (m.words.value (m.words.l c)) (insert_value m.words c)
ichild_won-brings m stage i c becomes sound row =
    let flagged = ichild_won-waits m stage i c becomes sound row in
    let gives = (won_waiting m stage i sound c flagged Won becomes row).1 in
    subst (λ s. BringsKey (is_replace_card m.words c) m.words s.words (insert_key m.words c) (m.words.value (m.words.l c)) (insert_value m.words c)) (sym gives)
    (ichild_brings m.words stage sound.words c flagged)

-- one that is lost changes no word
pub ichild_lost-same : (m : Machine) (stage : Stages) (i c : ℕ) (becomes : Scene) → Invariant m stage
    → IChild c (scene m i) Lost becomes → becomes.words ≡ m.words
ichild_lost-same m stage i c becomes sound row = elim (waits_or_made m stage i sound c row.may) [
  | inl flagged ↦ (let clash : Lost ≡ Won = (won_waiting m stage i sound c flagged Lost becomes row).0 in absurd (cc))
  | inr changed ↦ ap (λ s. s.words) (lost_changed m stage i sound c changed Lost becomes row).1
]
