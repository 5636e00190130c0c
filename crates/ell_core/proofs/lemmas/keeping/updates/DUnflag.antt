use Rattle.std.proofs.Common.{◌≡◌, ◌≢◌, ℕ, ◌<◌, true, false, [], ◌++◌, inr, refl, ap, ◌∙◌, arith, ◌∷◌, inl, sym, subst}
use Rattle.ell_core.specs.declared.event.Act.{Act}
use Rattle.ell_core.specs.declared.event.Stepped.{Stepped}
use Rattle.ell_core.specs.declared.event.Stepped.TheVariants.{Won, Lost}
use Rattle.ell_core.specs.declared.fact.Fact.{Fact}
use Rattle.ell_layout.specs.Words.{Words, put, with_update}
use Rattle.ell_core.specs.state.Facts.{Knowledge, learned, card_of_fact}
use Rattle.ell_core.specs.state.Machine.{Machine, Scene, scene, with_scene}
use Rattle.ell_layout.specs.Cards.{dflag, clean}
use Rattle.ell_core.specs.acts.Exchanges.{DUnflags, knowing, DUnflag, Backtrack}
use Rattle.ell_core.specs.history.Stages.{Stage, Stages, delete_open, allows, DUnmarkable, DCut, DOver, DBacked, is_marked, is_cut, is_unmarkable, delete_past, delete_over, is_backed, insert_won}
use Rattle.ell_core.specs.history.Invariant.{DeleteStage, Invariant}
use Rattle.ell_core.specs.history.Later.{Follows, wins_of}
use Rattle.ell_core.specs.acts.Wins.{wins_by}
use Rattle.ell_core.proofs.lemmas.stages.Order.{delete_not_insert_open, delete_not_opening, delete-claimed, delete_open-delete, delete_open-won, cut_cases, unmarkable_cases}
use Rattle.ell_core.proofs.lemmas.keeping.Learning.{learns_fact, follows_knowing}
use Rattle.ell_core.proofs.lemmas.keeping.updates.Cards.{UpdateExchange}
use Rattle.ell_core.proofs.lemmas.keeping.updates.Words.{NewWord}
use Rattle.ell_core.proofs.lemmas.keeping.updates.Follows.{OpensNone, follows_exchange, clean_is_sound, learns_after}
use Rattle.ell_core.proofs.lemmas.keeping.SameOutcome.{follows_as}
use Rattle.std.proofs.lemmas.Bool.{false≢true}
use Rattle.ell_core.specs.declared.exchange.Exchange.TheVariants as exchange
use Rattle.ell_core.specs.declared.event.Act.TheVariants as act
use Rattle.ell_core.specs.declared.fact.Fact.TheVariants as fact
use Rattle.ell_layout.proofs.lemmas.Writes.{put_same, put_other}
use Rattle.ell_core.proofs.lemmas.keeping.going_on.Stages.{no_insert}
use Rattle.ell_core.proofs.lemmas.words.Exchanged.{update_found, update_missed}
use Rattle.ell_core.proofs.lemmas.stages.Advances.{dunflag_kind, backtrack_kind, StageLater, wins_put, dunflag_later, backtrack_later, SameKind}
use Rattle.ell_core.specs.tree.Rank.{rank}
use Rattle.ell_core.proofs.lemmas.keeping.KeepsInvariant.{KeepsInvariant}

-- the unflag of a card with a flag that stands leads to this stage, at which a fact may be known
pub record Unflags (old new : Stage) (fact : Fact) (c : ℕ) : Type 0 where
  pub later : StageLater old new
  pub kind : SameKind old new
  pub stands : delete_open old ≡ true
  pub no_insert : insert_won new ≡ false
  pub opens : OpensNone old new
  pub of_card : card_of_fact fact ≡ c
  pub allowed : allows fact new ≡ true

module _ (m : Machine) (stage : Stages) (i c : ℕ) (there : i < m.count) (sound : Invariant m stage)
    (new : Stage) (fact : Fact) where
  -- what the worker knows after an unflag
  abbrev known : Knowledge
  known = learned (m.worker i).knows fact

  -- the scene after an unflag, by its words
  abbrev scene_with : Words → Scene
  scene_with w = record { words = w; worker = knowing (m.worker i) known }

  -- the words after a won unflag
  abbrev unflagged : Words
  unflagged = with_update m.words (m.words.gp c) (clean c)

  module _ (u : Unflags (stage c) new fact c) where
    -- the flag is exchanged to clean
    exchanged : UpdateExchange m.words stage (m.words.gp c) (clean c) c new
    exchanged =
        let flag = (sound.words.deletes c).flag u.stands in
        let kind = delete_open-delete (stage c) u.stands in
        record {
          place = ((sound.words.cards c).delete kind).grandparent;
          rises = omega arith;
          unmarked = λ d h. absurd (omega arith);
          others = λ d n. (λ h. omega arith, λ h. n (omega arith));
          later = u.later;
          kind = u.kind;
          tree = delete_not_opening (stage c) kind;
          insert_ends = λ h. absurd (delete_not_insert_open (stage c) kind h);
          delete_ends = λ h. inr refl;
        }

    -- the clean word is sound at the grandparent
    new_word : DeleteStage unflagged (λ d. new) c → NewWord m.words stage (m.words.gp c) (clean c) c new
    new_word after = record {
      insert = no_insert unflagged (λ d. new) c u.no_insert;
      delete = after;
      update = clean_is_sound m.words (put stage c new) (m.words.gp c) c
          ((sound.words.cards c).claimed.0 (delete-claimed (stage c) (delete_open-delete (stage c) u.stands)));
    }

    -- the word of the parent stays
    pub parent_stays : m.words.p c ≢ m.words.gp c
    parent_stays h = let first = ((sound.words.cards c).delete (delete_open-delete (stage c) u.stands)).first in let same = ap (rank m.words) h in omega arith

    -- a won unflag
    wins : (a : Act) → DeleteStage unflagged (λ d. new) c
        → ((d : ℕ) → wins_of (put stage c new d) ≡ wins_of (stage d) ++ wins_by a (m.worker i).card Won d)
        → Follows m stage a i Won (with_scene m i (scene_with unflagged))
    wins a after more = follows_exchange m stage i (m.words.gp c) (clean c) c new known exchanged
        (inr (delete_open-won (stage c) u.stands)) u.opens
        (learns_after m.words stage (m.words.gp c) (clean c) c new (m.worker i).knows fact exchanged
        (sound.workers.each i).facts u.of_card u.allowed)
        sound a Won there (new_word after) more

    -- an unflag by its row, where the flag stands
    pub unflag_wins : (a : Act) (said : Stepped) (becomes : Scene) → DUnflags c fact (scene m i) said becomes
        → DeleteStage unflagged (λ d. new) c
        → ((d : ℕ) → wins_of (put stage c new d) ≡ wins_of (stage d) ++ wins_by a (m.worker i).card Won d)
        → Follows m stage a i said (with_scene m i becomes)
    unflag_wins a said becomes row after more =
        let found = update_found m.words (m.words.gp c) (dflag c) (clean c) ((sound.words.deletes c).flag u.stands) in
        follows_as m stage a i said Won becomes (scene_with unflagged) (row.says ∙ found.0) (row.gives ∙ ap scene_with found.1)
        (wins a after more)

  -- a lost unflag
  loses : (a : Act) → allows fact (stage (card_of_fact fact)) ≡ true → ((d : ℕ) → wins_by a (m.worker i).card Lost d ≡ [])
      → Follows m stage a i Lost (with_scene m i (scene_with m.words))
  loses a allowed none = follows_knowing m stage a i Lost known there sound none
      (learns_fact stage (m.worker i).knows fact (sound.workers.each i).facts allowed)

  -- an unflag by its row, where the flag is past
  pub unflag_loses : (a : Act) (said : Stepped) (becomes : Scene) → DUnflags c fact (scene m i) said becomes
      → dflag c < m.words.update (m.words.gp c) → allows fact (stage (card_of_fact fact)) ≡ true
      → ((d : ℕ) → wins_by a (m.worker i).card Lost d ≡ []) → Follows m stage a i said (with_scene m i becomes)
  unflag_loses a said becomes row past allowed none =
      let missed = update_missed m.words (m.words.gp c) (dflag c) (clean c) (λ e. omega arith) in
      follows_as m stage a i said Lost becomes (scene_with m.words) (row.says ∙ missed.0) (row.gives ∙ ap scene_with missed.1)
      (loses a allowed none)

-- the unflag of a delete that has cut
unflags_cut : (c : ℕ) → Unflags DCut DOver (fact.DOver c) c
unflags_cut c = record {
  later = dunflag_later;
  kind = dunflag_kind;
  stands = refl;
  no_insert = refl;
  opens = record { insert = λ h. absurd (false≢true h); delete = λ h. absurd (false≢true h) };
  of_card = refl;
  allowed = refl;
}

-- the unflag of a delete that can't be marked
unflags_unmarkable : (c : ℕ) → Unflags DUnmarkable DBacked (fact.Backed c) c
unflags_unmarkable c = record {
  later = backtrack_later;
  kind = backtrack_kind;
  stands = refl;
  no_insert = refl;
  opens = record { insert = λ h. absurd (false≢true h); delete = λ h. absurd (false≢true h) };
  of_card = refl;
  allowed = refl;
}

-- what the stage says of a delete that has cut, once its flag is clean
over_stage : (w : Words) (stage : Stages) (c : ℕ) → stage c ≡ DCut → w.p c ≢ w.gp c → DeleteStage w stage c
    → DeleteStage (with_update w (w.gp c) (clean c)) (λ d. DOver) c
over_stage w stage c at apart k = let now = put_same w.update (w.gp c) (clean c) in record {
  flag = λ h. absurd (false≢true h);
  past = λ h. omega arith;
  waits = λ h. absurd (false≢true h);
  tagged = λ h. absurd (false≢true h);
  markable = λ h. absurd (false≢true h);
  unmarkable = λ h. absurd (false≢true h);
  marked = λ h. (let old = k.marked (ap is_marked at) in
      record { mark = put_other w.update (w.gp c) (clean c) (w.p c) apart ∙ old.mark; leaf = old.leaf; side = old.side });
  cut = λ h. (let old = k.cut (ap is_cut at) in record { past = old.past; out = old.out });
}

-- what the stage says of a delete that can't be marked, once its flag is clean
backed_stage : (w : Words) (stage : Stages) (c : ℕ) → stage c ≡ DUnmarkable → w.p c ≢ w.gp c → DeleteStage w stage c
    → DeleteStage (with_update w (w.gp c) (clean c)) (λ d. DBacked) c
backed_stage w stage c at apart k = let now = put_same w.update (w.gp c) (clean c) in record {
  flag = λ h. absurd (false≢true h);
  past = λ h. omega arith;
  waits = λ h. absurd (false≢true h);
  tagged = λ h. absurd (false≢true h);
  markable = λ h. absurd (false≢true h);
  unmarkable = λ h. (
      let old = k.unmarkable (ap is_unmarkable at) in
      let same = put_other w.update (w.gp c) (clean c) (w.p c) apart in
      omega arith);
  marked = λ h. absurd (false≢true h);
  cut = λ h. absurd (false≢true h);
}

module _ (m : Machine) (stage : Stages) (i c : ℕ) (there : i < m.count) (sound : Invariant m stage) where
  -- a dunflag of a delete that has cut
  wins_over : (said : Stepped) (becomes : Scene) → DUnflag c (scene m i) said becomes → stage c ≡ DCut
      → Follows m stage (act.DUnflag c) i said (with_scene m i becomes)
  wins_over said becomes row at =
      let u = subst (λ s. Unflags s DOver (fact.DOver c) c) (sym at) (unflags_cut c) in
      let apart = parent_stays m stage i c there sound DOver (fact.DOver c) u in
      unflag_wins m stage i c there sound DOver (fact.DOver c) u (act.DUnflag c) said becomes row.does
      (over_stage m.words stage c at apart (sound.words.deletes c))
      (wins_put stage c DOver exchange.DUnflag (ap (λ s. wins_of s ++ exchange.DUnflag ∷ []) (sym at)))

  -- dunflag, by its row
  follows_dunflag : (said : Stepped) (becomes : Scene) → DUnflag c (scene m i) said becomes
      → Follows m stage (act.DUnflag c) i said (with_scene m i becomes)
  follows_dunflag said becomes row = elim (cut_cases (stage c) ((sound.workers.each i).facts (fact.Cut c) row.may)) [
    | inl at ↦ wins_over said becomes row at
    | inr at ↦ unflag_loses m stage i c there sound DOver (fact.DOver c) (act.DUnflag c) said becomes row.does
        ((sound.words.deletes c).past (ap delete_past at)) (ap delete_over at) (λ d. refl)
  ]

  -- a backtrack of a delete that can't be marked any more
  wins_backed : (said : Stepped) (becomes : Scene) → Backtrack c (scene m i) said becomes → stage c ≡ DUnmarkable
      → Follows m stage (act.Backtrack c) i said (with_scene m i becomes)
  wins_backed said becomes row at =
      let u = subst (λ s. Unflags s DBacked (fact.Backed c) c) (sym at) (unflags_unmarkable c) in
      let apart = parent_stays m stage i c there sound DBacked (fact.Backed c) u in
      unflag_wins m stage i c there sound DBacked (fact.Backed c) u (act.Backtrack c) said becomes row.does
      (backed_stage m.words stage c at apart (sound.words.deletes c))
      (wins_put stage c DBacked exchange.Backtrack (ap (λ s. wins_of s ++ exchange.Backtrack ∷ []) (sym at)))

  -- backtrack, by its row
  follows_backtrack : (said : Stepped) (becomes : Scene) → Backtrack c (scene m i) said becomes
      → Follows m stage (act.Backtrack c) i said (with_scene m i becomes)
  follows_backtrack said becomes row = let now = (sound.workers.each i).facts (fact.Unmarkable c) row.may in elim (unmarkable_cases (stage c) now) [
    | inl at ↦ wins_backed said becomes row at
    | inr at ↦ unflag_loses m stage i c there sound DBacked (fact.Backed c) (act.Backtrack c) said becomes row.does
        ((sound.words.deletes c).past (ap delete_past at)) (ap is_backed at) (λ d. refl)
  ]

-- dunflag keeps the invariant
pub keeps_dunflag : (c : ℕ) → KeepsInvariant (act.DUnflag c)
keeps_dunflag c m stage i said becomes there sound happens = follows_dunflag m stage i c there sound said becomes happens.row

-- backtrack keeps the invariant
pub keeps_backtrack : (c : ℕ) → KeepsInvariant (act.Backtrack c)
keeps_backtrack c m stage i said becomes there sound happens =
    follows_backtrack m stage i c there sound said becomes happens.row
