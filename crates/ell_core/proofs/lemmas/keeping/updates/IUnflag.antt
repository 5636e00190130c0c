use Rattle.std.proofs.Common.{◌≡◌, ◌≢◌, ℕ, ◌<◌, ◌⊎◌, true, false, [], ◌∷◌, ◌++◌, inl, inr, refl, sym, ap, ◌∙◌, subst, arith}
use Rattle.std.proofs.lemmas.Bool.{false≢true}
use Rattle.ell_core.specs.declared.exchange.Exchange.TheVariants as exchange
use Rattle.ell_core.specs.declared.event.Act.TheVariants as act
use Rattle.ell_core.specs.declared.event.Stepped.{Stepped}
use Rattle.ell_core.specs.declared.event.Stepped.TheVariants.{Won, Lost}
use Rattle.ell_core.specs.declared.fact.Fact.TheVariants as fact
use Rattle.ell_layout.specs.Words.{Words, put, with_update}
use Rattle.ell_core.specs.state.Facts.{Knowledge, learned}
use Rattle.ell_core.specs.state.Machine.{Machine, Scene, scene, with_scene}
use Rattle.ell_layout.specs.Cards.{iflag, clean}
use Rattle.ell_core.specs.acts.Exchanges.{IUnflag, knowing}
use Rattle.ell_core.specs.history.Stages.{Stage, Stages, is_born, Opening, IChanged, IOver, RChanged, ROver, insert_open, insert_over, insert_waits, delete_open, delete_won, is_changed}
use Rattle.ell_core.specs.history.Invariant.{InsertStage, Invariant}
use Rattle.ell_core.specs.history.Later.{Follows, wins_of}
use Rattle.ell_layout.proofs.lemmas.Writes.{put_same}
use Rattle.ell_core.proofs.lemmas.stages.Order.{changed_cases, changed-insert, changed-won, insert-claimed}
use Rattle.ell_core.proofs.lemmas.keeping.Learning.{learns_fact, follows_knowing}
use Rattle.ell_core.proofs.lemmas.keeping.updates.Cards.{UpdateExchange}
use Rattle.ell_core.proofs.lemmas.keeping.updates.Words.{NewWord}
use Rattle.ell_core.proofs.lemmas.keeping.updates.Follows.{follows_exchange, clean_is_sound, learns_after}
use Rattle.ell_core.proofs.lemmas.keeping.SameOutcome.{follows_as}
use Rattle.ell_core.proofs.lemmas.keeping.going_on.Stages.{no_delete}
use Rattle.ell_core.proofs.lemmas.words.Exchanged.{update_found, update_missed}
use Rattle.ell_core.proofs.lemmas.stages.Advances.{iunflag_later, iunflag_kind, runflag_later, runflag_kind, StageLater, wins_put, SameKind}
use Rattle.ell_core.proofs.lemmas.keeping.KeepsInvariant.{KeepsInvariant}

-- a changed insert and its stage when it is over, of one kind
pub record Unflags (from to : Stage) : Type 0 where
  pub changed : is_changed from ≡ true
  pub stands : insert_open from ≡ true
  pub none : delete_open from ≡ false
  pub unstarted : from ≢ Opening
  pub later : StageLater from to
  pub same : SameKind from to
  pub over : insert_over to ≡ true
  pub gone : insert_open to ≡ false
  pub waits : insert_waits to ≡ false
  pub no_delete : (delete_open to ≡ false) × (delete_won to ≡ false)
  pub born : is_born to ≡ is_born from
  pub wins : wins_of to ≡ wins_of from ++ exchange.IUnflag ∷ []

adds : Unflags IChanged IOver
adds = record { changed = refl; stands = refl; none = refl; unstarted = λ e. (cc); later = iunflag_later; same = iunflag_kind; over = refl; gone = refl; waits = refl; no_delete = (refl, refl); born = refl; wins = refl }

replaces : Unflags RChanged ROver
replaces = record { changed = refl; stands = refl; none = refl; unstarted = λ e. (cc); later = runflag_later; same = runflag_kind; over = refl; gone = refl; waits = refl; no_delete = (refl, refl); born = refl; wins = refl }

module _ (m : Machine) (stage : Stages) (i c : ℕ) (there : i < m.count) (sound : Invariant m stage)
    (may : (m.worker i).knows (fact.IChanged c) ≡ true) where
  -- what the worker knows after it
  abbrev known : Knowledge
  known = learned (m.worker i).knows (fact.IOver c)

  -- the scene after it, by its words
  abbrev scene_with : Words → Scene
  scene_with w = record { words = w; worker = knowing (m.worker i) known }

  -- the card's stage: its flag stands or is past
  stages_at : ((stage c ≡ IChanged) ⊎ (stage c ≡ RChanged)) ⊎ ((stage c ≡ IOver) ⊎ (stage c ≡ ROver))
  stages_at = changed_cases (stage c) ((sound.workers.each i).facts (fact.IChanged c) may)

  module _ (from to : Stage) (step : Unflags from to) (at : stage c ≡ from) where
    -- the flag is exchanged to clean
    exchanged : UpdateExchange m.words stage (m.words.p c) (clean c) c to
    exchanged = let flag = (sound.words.inserts c).flag (ap insert_open at ∙ step.stands) in record {
      place = ((sound.words.cards c).insert (changed-insert (stage c) (ap is_changed at ∙ step.changed))).parent;
      rises = omega arith;
      unmarked = λ d h. absurd (omega arith);
      others = λ d n. (λ h. n (omega arith), λ h. omega arith);
      later = subst (λ s. StageLater s to) (sym at) step.later;
      kind = subst (λ s. SameKind s to) (sym at) step.same;
      tree = λ h. absurd (step.unstarted (sym at ∙ h));
      insert_ends = λ h. inr refl;
      delete_ends = λ h. absurd (false≢true (sym step.none ∙ (ap delete_open (sym at) ∙ h)));
    }

    -- the insert is over
    over_stage : InsertStage (with_update m.words (m.words.p c) (clean c)) (λ d. to) c
    over_stage = let now = put_same m.words.update (m.words.p c) (clean c) in record {
      flag = λ h. absurd (false≢true (sym step.gone ∙ h));
      over = λ h. omega arith;
      waits = λ h. absurd (false≢true (sym step.waits ∙ h));
      tagged = λ h. absurd (false≢true (sym step.waits ∙ h));
      course = λ h. absurd (false≢true (sym step.waits ∙ h));
      changed = λ h. (sound.words.inserts c).changed (ap is_changed at ∙ step.changed);
      brings = λ h. step.born ∙ (ap is_born (sym at) ∙ (sound.words.inserts c).brings (ap is_changed at ∙ step.changed));
    }

    -- the clean word is sound at the parent
    new_word : NewWord m.words stage (m.words.p c) (clean c) c to
    new_word = record {
      insert = over_stage;
      delete = no_delete (with_update m.words (m.words.p c) (clean c)) (λ d. to) c step.no_delete.1;
      update = clean_is_sound m.words (put stage c to) (m.words.p c) c
          ((sound.words.cards c).claimed.0 (insert-claimed (stage c) (changed-insert (stage c) (ap is_changed at ∙ step.changed))));
    }

    -- a won iunflag
    wins : Follows m stage (act.IUnflag c) i Won (with_scene m i (scene_with (with_update m.words (m.words.p c) (clean c))))
    wins = follows_exchange m stage i (m.words.p c) (clean c) c to known exchanged
        (inl (changed-won (stage c) (ap is_changed at ∙ step.changed)))
        (record { insert = λ h. absurd (false≢true (sym step.gone ∙ h)); delete = λ h. absurd (false≢true (sym step.no_delete.0 ∙ h)) })
        (learns_after m.words stage (m.words.p c) (clean c) c to (m.worker i).knows (fact.IOver c) exchanged
        (sound.workers.each i).facts refl step.over)
        sound (act.IUnflag c) Won there new_word
        (wins_put stage c to exchange.IUnflag (step.wins ∙ ap (λ s. wins_of s ++ exchange.IUnflag ∷ []) (sym at)))

  module _ (at : insert_over (stage c) ≡ true) where
    -- a lost iunflag
    loses : Follows m stage (act.IUnflag c) i Lost (with_scene m i (scene_with m.words))
    loses = follows_knowing m stage (act.IUnflag c) i Lost known there sound (λ d. refl)
        (learns_fact stage (m.worker i).knows (fact.IOver c) (sound.workers.each i).facts at)

  -- the flag stands exactly where the insert is not over
  flag_cases : (((from : Stage) × (to : Stage) × Unflags from to × (stage c ≡ from)) × (m.words.update (m.words.p c) ≡ iflag c))
      ⊎ ((insert_over (stage c) ≡ true) × (m.words.update (m.words.p c) ≢ iflag c))
  flag_cases = elim stages_at [
    | inl (inl at) ↦ inl ((IChanged, IOver, adds, at), (sound.words.inserts c).flag (ap insert_open at))
    | inl (inr at) ↦ inl ((RChanged, ROver, replaces, at), (sound.words.inserts c).flag (ap insert_open at))
    | inr (inl at) ↦ inr (ap insert_over at, λ h. (let past = (sound.words.inserts c).over (ap insert_over at) in omega arith))
    | inr (inr at) ↦ inr (ap insert_over at, λ h. (let past = (sound.words.inserts c).over (ap insert_over at) in omega arith))
  ]

  -- iunflag, by its row
  follows : (said : Stepped) (becomes : Scene) → IUnflag c (scene m i) said becomes
      → Follows m stage (act.IUnflag c) i said (with_scene m i becomes)
  follows said becomes row = elim flag_cases [
    | inl e ↦ follows_as m stage (act.IUnflag c) i said Won becomes _
        (row.says ∙ (update_found m.words (m.words.p c) (iflag c) (clean c) e.1).0)
        (row.gives ∙ ap scene_with (update_found m.words (m.words.p c) (iflag c) (clean c) e.1).1)
        (wins e.0.0 e.0.1 e.0.2 e.0.3)
    | inr e ↦ follows_as m stage (act.IUnflag c) i said Lost becomes _
        (row.says ∙ (update_missed m.words (m.words.p c) (iflag c) (clean c) e.1).0)
        (row.gives ∙ ap scene_with (update_missed m.words (m.words.p c) (iflag c) (clean c) e.1).1)
        (loses e.0)
  ]

-- iunflag keeps the invariant
pub keeps_iunflag : (c : ℕ) → KeepsInvariant (act.IUnflag c)
keeps_iunflag c m stage i said becomes there sound happens =
    follows m stage i c there sound happens.row.may said becomes happens.row
