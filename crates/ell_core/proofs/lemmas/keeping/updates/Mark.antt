use Rattle.std.proofs.Common.{◌≡◌, ◌≢◌, ℕ, ◌<◌, true, [], ◌∷◌, ◌++◌, inl, inr, refl, sym, ap, ◌∙◌, subst, arith, if◌then◌else◌, false}
use Rattle.std.proofs.lemmas.Bool.{false≢true, cases_eq, eq-eqb, ne_eqb}
use Rattle.ell_core.specs.declared.exchange.Exchange.TheVariants as exchange
use Rattle.ell_core.specs.declared.event.Act.TheVariants as act
use Rattle.ell_core.specs.declared.event.Stepped.TheVariants.{Won, Lost}
use Rattle.ell_core.specs.declared.fact.Fact.TheVariants as fact
use Rattle.ell_layout.specs.Words.{Words, put, with_update}
use Rattle.ell_core.specs.state.Facts.{Knowledge, learned, learned_any, told_by, card_of_fact}
use Rattle.ell_core.specs.state.Machine.{Machine, Scene, with_scene, scene}
use Rattle.ell_layout.specs.Cards.{dflag, marked}
use Rattle.ell_core.specs.acts.Exchanges.{knowing, Mark, mark_teaches, won_or_lost}
use Rattle.ell_core.specs.history.Stages.{Stage, Stages, Opening, DFlagged, DUnmarkable, DMarked, is_claimed, is_delete, delete_open, delete_waits, delete_won, is_markable, is_marked, is_unmarkable}
use Rattle.ell_core.specs.history.Invariant.{DeleteCard, Markable, DeleteStage, Invariant, UpdateIsSound}
use Rattle.ell_core.specs.history.Later.{Follows, wins_of}
use Rattle.ell_layout.proofs.lemmas.Writes.{put_same, put_other}
use Rattle.ell_core.proofs.lemmas.stages.Order.{delete_not_insert_open, delete_won-delete, flagged_not_marked, unmarkable_not_marked, won_cases}
use Rattle.ell_core.proofs.lemmas.keeping.Learning.{KnowsAllowed, learns_any, told_allowed, learns_fact, learns_word, follows_knowing}
use Rattle.ell_core.proofs.lemmas.keeping.updates.Cards.{UpdateExchange}
use Rattle.ell_core.proofs.lemmas.keeping.updates.Follows.{OpensNone, follows_exchange, learns_after}
use Rattle.ell_core.proofs.lemmas.keeping.updates.MarkedNode.{dflag_is_sound, mark_is_sound, with_update_there, sibling_side}
use Rattle.ell_core.specs.declared.event.Act.TheVariants as act
use Rattle.ell_core.specs.declared.event.Stepped.{Stepped}
use Rattle.ell_core.specs.declared.fact.Fact.TheVariants as fact
use Rattle.ell_core.proofs.lemmas.keeping.SameOutcome.{follows_as}
use Rattle.ell_core.proofs.lemmas.keeping.going_on.Stages.{no_insert}
use Rattle.ell_core.proofs.lemmas.words.Exchanged.{update_found, update_missed}
use Rattle.ell_core.proofs.lemmas.stages.Advances.{mark_kind, unmarkable_kind, StageLater, wins_put, wins_kept, mark_later, unmarkable_later, SameKind, stages_put}
use Rattle.ell_core.proofs.lemmas.words.CleanWords.{clean_remainder}
use Rattle.ell_core.specs.tree.Rank.{rank}
use Rattle.ell_core.proofs.lemmas.keeping.KeepsInvariant.{KeepsInvariant}

-- from a flagged delete no flag is set that did not stand
opens_none : (new : Stage) → is_delete new ≡ true → OpensNone DFlagged new
opens_none new h = record { insert = λ g. absurd (delete_not_insert_open new h g); delete = λ g. refl }

module _ (m : Machine) (stage : Stages) (i c : ℕ) (there : i < m.count) (sound : Invariant m stage)
    (at : stage c ≡ DFlagged) where
  -- the card
  card : DeleteCard m.words stage c
  card = (sound.words.cards c).delete (ap is_delete at)

  -- it is claimed
  claimed : c < m.words.next
  claimed = (sound.words.cards c).claimed.0 (ap is_claimed at)

  -- its parent may be marked
  markable : Markable m.words c
  markable = (sound.words.deletes c).markable (ap is_markable at)

  -- the parent is not the grandparent
  apart : m.words.gp c ≢ m.words.p c
  apart h = let first = card.first in let same = ap (rank m.words) h in omega arith

  -- it is not the opening tree's
  not_opening : stage c ≢ Opening
  not_opening h = let clash : DFlagged ≡ Opening = sym at ∙ h in cc

  module _ (read : m.words.update (m.words.p c) ≡ m.words.was c) where
    -- the parent's word is exchanged to the mark
    marks : UpdateExchange m.words stage (m.words.p c) (marked c) c DMarked
    marks = let calm = clean_remainder (m.words.was c) card.calm in let earlier = card.earlier in record {
      place = card.parent;
      rises = omega arith;
      unmarked = λ d h. absurd (omega arith);
      others = λ d n. (λ h. omega arith, λ h. omega arith);
      later = subst (λ s. StageLater s DMarked) (sym at) mark_later;
      kind = subst (λ s. SameKind s DMarked) (sym at) mark_kind;
      tree = not_opening;
      insert_ends = λ h. absurd (delete_not_insert_open (stage c) (ap is_delete at) h);
      delete_ends = λ h. inl refl;
    }

    -- what the stage says of the marked delete
    marked_stage : DeleteStage (with_update m.words (m.words.p c) (marked c)) (λ d. DMarked) c
    marked_stage = let k = sound.words.deletes c in record {
      flag = λ h. put_other m.words.update (m.words.p c) (marked c) (m.words.gp c) apart ∙ k.flag (ap delete_open at);
      past = λ h. absurd (false≢true h);
      waits = λ h. k.waits (ap delete_waits at);
      tagged = λ h. k.tagged (ap delete_waits at);
      markable = λ h. absurd (false≢true h);
      unmarkable = λ h. absurd (false≢true h);
      marked = λ h. record {
        mark = put_same m.words.update (m.words.p c) (marked c);
        leaf = markable.still read;
        side = sibling_side m.words stage sound.words c (ap delete_open at) (ap delete_waits at);
      };
      cut = λ h. absurd (false≢true h);
    }

    -- a won mark
    pub wins_mark : Follows m stage (act.Mark c) i Won (with_scene m i (record {
      words = with_update m.words (m.words.p c) (marked c);
      worker = knowing (m.worker i) (learned (m.worker i).knows (fact.Marked c));
    }))
    wins_mark = follows_exchange m stage i (m.words.p c) (marked c) c DMarked (learned (m.worker i).knows (fact.Marked c)) marks
        (inr (ap delete_won at)) (subst (λ s. OpensNone s DMarked) (sym at) (opens_none DMarked refl))
        (learns_after m.words stage (m.words.p c) (marked c) c DMarked (m.worker i).knows (fact.Marked c) marks
        (sound.workers.each i).facts refl refl)
        sound (act.Mark c) Won there
        (record {
          insert = no_insert (with_update m.words (m.words.p c) (marked c)) (λ d. DMarked) c refl;
          delete = marked_stage;
          update = let now = ap is_marked (put_same stage c DMarked) in
              mark_is_sound m.words (put stage c DMarked) (m.words.p c) c claimed now refl;
        })
        (wins_put stage c DMarked exchange.Mark (ap (λ s. wins_of s ++ exchange.Mark ∷ []) (sym at)))

  module _ (changed : m.words.update (m.words.p c) ≢ m.words.was c) where
    -- the grandparent's flag stays
    stays : UpdateExchange m.words stage (m.words.gp c) (dflag c) c DUnmarkable
    stays = let flag = (sound.words.deletes c).flag (ap delete_open at) in record {
      place = card.grandparent;
      rises = omega arith;
      unmarked = λ d h. absurd (omega arith);
      others = λ d n. (λ h. omega arith, λ h. n (omega arith));
      later = subst (λ s. StageLater s DUnmarkable) (sym at) unmarkable_later;
      kind = subst (λ s. SameKind s DUnmarkable) (sym at) unmarkable_kind;
      tree = not_opening;
      insert_ends = λ h. absurd (delete_not_insert_open (stage c) (ap is_delete at) h);
      delete_ends = λ h. inl refl;
    }

    -- what the stage says of the delete that can't be marked
    unmarkable_stage : DeleteStage (with_update m.words (m.words.gp c) (dflag c)) (λ d. DUnmarkable) c
    unmarkable_stage = let k = sound.words.deletes c in record {
      flag = λ h. put_same m.words.update (m.words.gp c) (dflag c);
      past = λ h. absurd (false≢true h);
      waits = λ h. k.waits (ap delete_waits at);
      tagged = λ h. k.tagged (ap delete_waits at);
      markable = λ h. absurd (false≢true h);
      unmarkable = λ h. (
          let same = put_other m.words.update (m.words.gp c) (dflag c) (m.words.p c) (λ e. apart (sym e)) in
          let at_least = markable.at_least in
          omega arith);
      marked = λ h. absurd (false≢true h);
      cut = λ h. absurd (false≢true h);
    }

    -- what the worker knows then
    abbrev pub knows : Knowledge
    knows = learned_any (learned (m.worker i).knows (fact.Unmarkable c)) (told_by (m.words.update (m.words.p c)))

    -- the scene then, by its words
    abbrev pub scene_with : Words → Scene
    scene_with w = record { words = w; worker = knowing (m.worker i) knows }

    -- it may know it
    knows_allowed : KnowsAllowed (put stage c DUnmarkable) knows
    knows_allowed = learns_any (put stage c DUnmarkable) (learned (m.worker i).knows (fact.Unmarkable c))
        (told_by (m.words.update (m.words.p c)))
        (learns_after m.words stage (m.words.gp c) (dflag c) c DUnmarkable (m.worker i).knows (fact.Unmarkable c) stays
        (sound.workers.each i).facts refl refl)
        (λ tells e. (stages_put stage c DUnmarkable stays.later).told tells (card_of_fact tells)
        (told_allowed m.words stage (m.words.p c) tells
        (sound.words.updates (m.words.p c) card.parent.inner card.parent.born) e))

    -- a mark that is lost to another word, with the flag where it is
    loses_put : Follows m stage (act.Mark c) i Lost (with_scene m i (scene_with (with_update m.words (m.words.gp c) (dflag c))))
    loses_put = follows_exchange m stage i (m.words.gp c) (dflag c) c DUnmarkable knows stays
        (inr (ap delete_won at)) (subst (λ s. OpensNone s DUnmarkable) (sym at) (opens_none DUnmarkable refl)) knows_allowed
        sound (act.Mark c) Lost there
        (record {
          insert = no_insert (with_update m.words (m.words.gp c) (dflag c)) (λ d. DUnmarkable) c refl;
          delete = unmarkable_stage;
          update = let now = ap delete_open (put_same stage c DUnmarkable) in
              dflag_is_sound m.words (put stage c DUnmarkable) (m.words.gp c) c claimed now refl;
        })
        (wins_kept stage c DUnmarkable (ap wins_of (sym at)))

    -- a mark that is lost to another word
    pub loses_mark : Follows m stage (act.Mark c) i Lost (with_scene m i (scene_with m.words))
    loses_mark =
        let there_already = with_update_there m.words (m.words.gp c) (dflag c) ((sound.words.deletes c).flag (ap delete_open at)) in
        subst (λ w. Follows m stage (act.Mark c) i Lost (with_scene m i (scene_with w))) (sym there_already) loses_put

-- a lost mark that finds the card's mark teaches that it stands
teaches_mark : (known : Knowledge) (c found : ℕ) → found ≡ marked c
    → mark_teaches known c false found ≡ learned known (fact.Marked c)
teaches_mark known c found h = ap
    (λ test. if test then learned known (fact.Marked c) else learned_any (learned known (fact.Unmarkable c)) (told_by found))
    (eq-eqb found (marked c) h)

-- a lost mark that finds another word teaches that the mark can't be set any more, and what the word tells
teaches_other : (known : Knowledge) (c found : ℕ) → found ≢ marked c
    → mark_teaches known c false found ≡ learned_any (learned known (fact.Unmarkable c)) (told_by found)
teaches_other known c found h = ap
    (λ test. if test then learned known (fact.Marked c) else learned_any (learned known (fact.Unmarkable c)) (told_by found))
    (ne_eqb found (marked c) h)

module _ (m : Machine) (stage : Stages) (i c : ℕ) (there : i < m.count) (sound : Invariant m stage)
    (may : (m.worker i).knows (fact.DFlagged c) ≡ true) where
  -- the word that the exchange finds
  abbrev found : ℕ
  found = m.words.update (m.words.p c)

  -- what the worker knows
  abbrev known : Knowledge
  known = (m.worker i).knows

  -- its flag was won
  won : delete_won (stage c) ≡ true
  won = (sound.workers.each i).facts (fact.DFlagged c) may

  -- the card, as one of a delete
  told_card : DeleteCard m.words stage c
  told_card = (sound.words.cards c).delete (delete_won-delete (stage c) won)

  -- the parent's word is sound
  parent_word : UpdateIsSound m.words stage (m.words.p c)
  parent_word = sound.words.updates (m.words.p c) told_card.parent.inner told_card.parent.born

  -- a mark by its row, where it is won
  row_wins : (said : Stepped) (becomes : Scene) → Mark c (scene m i) said becomes → stage c ≡ DFlagged
      → found ≡ m.words.was c
      → Follows m stage (act.Mark c) i said (with_scene m i becomes)
  row_wins said becomes row at e = follows_as m stage (act.Mark c) i said Won becomes
      (record {
        words = with_update m.words (m.words.p c) (marked c);
        worker = knowing (m.worker i) (learned known (fact.Marked c));
      })
      (row.says ∙ ap won_or_lost (eq-eqb found (m.words.was c) e))
      (row.gives ∙ (λ t. record {
        words = (update_found m.words (m.words.p c) (m.words.was c) (marked c) e).1 t;
        worker = knowing (m.worker i) (mark_teaches known c (eq-eqb found (m.words.was c) e t) found);
      }))
      (wins_mark m stage i c there sound at e)

  -- a mark by its row, where it is lost and teaches this
  row_loses : (said : Stepped) (becomes : Scene) (teaches : Knowledge) → Mark c (scene m i) said becomes
      → found ≢ m.words.was c
      → mark_teaches known c false found ≡ teaches
      → Follows m stage (act.Mark c) i Lost (with_scene m i (record { words = m.words; worker = knowing (m.worker i) teaches }))
      → Follows m stage (act.Mark c) i said (with_scene m i becomes)
  row_loses said becomes teaches row n e h = follows_as m stage (act.Mark c) i said Lost becomes
      (record { words = m.words; worker = knowing (m.worker i) teaches })
      (row.says ∙ ap won_or_lost (ne_eqb found (m.words.was c) n))
      (row.gives ∙ ((λ t. record {
        words = (update_missed m.words (m.words.p c) (m.words.was c) (marked c) n).1 t;
        worker = knowing (m.worker i) (mark_teaches known c (ne_eqb found (m.words.was c) n t) found);
      }) ∙ ap (λ k. record { words = m.words; worker = knowing (m.worker i) k }) e)) h

  -- the card's mark is there only if it was marked
  not_marked : (is_marked (stage c) ≡ true → ⊥) → found ≢ marked c
  not_marked n h = n (parent_word.marked c h).0

  -- a mark of a delete that is flagged
  flagged : (said : Stepped) (becomes : Scene) → Mark c (scene m i) said becomes → stage c ≡ DFlagged
      → Follows m stage (act.Mark c) i said (with_scene m i becomes)
  flagged said becomes row at = elim (cases_eq found (m.words.was c)) [
    | inl e ↦ row_wins said becomes row at e
    | inr n ↦ row_loses said becomes (learned_any (learned known (fact.Unmarkable c)) (told_by found)) row n
        (teaches_other known c found (not_marked (flagged_not_marked (stage c) at)))
        (loses_mark m stage i c there sound at n)
  ]

  -- a mark of a delete that can't be marked any more
  unmarkable : (said : Stepped) (becomes : Scene) → Mark c (scene m i) said becomes → is_unmarkable (stage c) ≡ true
      → Follows m stage (act.Mark c) i said (with_scene m i becomes)
  unmarkable said becomes row h =
      let past = (sound.words.deletes c).unmarkable h in
      let teaches = learned_any (learned known (fact.Unmarkable c)) (told_by found) in
      row_loses said becomes teaches row (λ e. omega arith)
      (teaches_other known c found (not_marked (unmarkable_not_marked (stage c) h)))
      (follows_knowing m stage (act.Mark c) i Lost teaches there sound (λ d. refl)
      (learns_word m.words stage (learned known (fact.Unmarkable c)) (m.words.p c) parent_word
      (learns_fact stage known (fact.Unmarkable c) (sound.workers.each i).facts h)))

  -- a mark of a delete that is marked
  marks_again : (said : Stepped) (becomes : Scene) → Mark c (scene m i) said becomes → is_marked (stage c) ≡ true
      → Follows m stage (act.Mark c) i said (with_scene m i becomes)
  marks_again said becomes row h =
      let stands = ((sound.words.deletes c).marked h).mark in
      let earlier = told_card.earlier in
      row_loses said becomes (learned known (fact.Marked c)) row (λ e. omega arith) (teaches_mark known c found stands)
      (follows_knowing m stage (act.Mark c) i Lost (learned known (fact.Marked c)) there sound (λ d. refl)
      (learns_fact stage known (fact.Marked c) (sound.workers.each i).facts h))

  -- mark, by its row
  follows_mark : (said : Stepped) (becomes : Scene) → Mark c (scene m i) said becomes
      → Follows m stage (act.Mark c) i said (with_scene m i becomes)
  follows_mark said becomes row = elim (won_cases (stage c) won) [
    | inl at ↦ flagged said becomes row at
    | inr rest ↦ elim rest [ inl h ↦ unmarkable said becomes row h | inr h ↦ marks_again said becomes row h ]
  ]

-- mark keeps the invariant
pub keeps_mark : (c : ℕ) → KeepsInvariant (act.Mark c)
keeps_mark c m stage i said becomes there sound happens =
    follows_mark m stage i c there sound happens.row.may said becomes happens.row
