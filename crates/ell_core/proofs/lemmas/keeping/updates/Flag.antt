use Rattle.std.proofs.Common.{◌≡◌, ◌≢◌, ℕ, ◌<◌, true, false, [], ◌∷◌, ◌++◌, Some, None, inr, refl, sym, ap, ◌∙◌, subst}
use Rattle.std.proofs.lemmas.Bool.{false≢true, eq-eqb, ne_eqb}
use Rattle.ell_ops.specs.declared.op.Op.{Op}
use Rattle.ell_ops.specs.Meaning.{key_of}
use Rattle.ell_core.specs.declared.exchange.Exchange.{Exchange}
use Rattle.ell_core.specs.declared.event.Act.{Act}
use Rattle.ell_core.specs.declared.event.Stepped.TheVariants.{Won, Lost}
use Rattle.ell_core.specs.declared.fact.Fact.{Fact}
use Rattle.ell_core.specs.declared.view.Seen.{Seen}
use Rattle.ell_layout.specs.Words.{put, with_update}
use Rattle.ell_core.specs.state.Facts.{card_of_fact}
use Rattle.ell_core.specs.state.Machine.{Worker, Machine, Scene, with_scene}
use Rattle.ell_core.specs.acts.Exchanges.{flagged_worker, flags}
use Rattle.ell_core.specs.soundness.Holds.{with_made}
use Rattle.ell_core.specs.history.Stages.{Stage, Stages, made_by_stage, effective_at, allows}
use Rattle.ell_core.specs.history.Invariant.{IsInnerBorn, Unflagged, Flagged, WorkerIsSound, Invariant}
use Rattle.ell_core.specs.history.Later.{Follows, wins_of}
use Rattle.ell_core.specs.acts.Wins.{wins_by, win_for}
use Rattle.ell_layout.proofs.lemmas.Writes.{put_same}
use Rattle.ell_core.proofs.lemmas.words.Later.{words_update}
use Rattle.ell_core.proofs.lemmas.keeping.Learning.{learns_word}
use Rattle.ell_core.proofs.lemmas.keeping.OneWorker.{TakesOn, follows_worker}
use Rattle.ell_core.proofs.lemmas.keeping.updates.Cards.{UpdateExchange, unborn_says}
use Rattle.ell_core.proofs.lemmas.keeping.updates.Words.{NewWord}
use Rattle.ell_core.proofs.lemmas.keeping.updates.Invariant.{exchanged, NewWorker, keeps_exchange}
use Rattle.ell_core.proofs.lemmas.keeping.updates.Follows.{learns_after}
use Rattle.ell_core.proofs.lemmas.stages.Counts.{counts_unmade, counts_made}
use Rattle.ell_core.proofs.lemmas.keeping.going_on.InHand.{OtherInHand}
use Rattle.ell_core.proofs.lemmas.words.Exchanged.{update_found, update_missed}
use Rattle.ell_core.proofs.lemmas.stages.Advances.{stages_put, wins_put}

-- a flag that is won is written, and the worker has its card flagged
pub flags_won : (s : Scene) (seen : Seen) (new : ℕ) (fact : Fact) → s.words.update seen.node ≡ seen.word
    → flags s seen new fact ≡ record {
      words = with_update s.words seen.node new;
      worker = flagged_worker s.worker true fact (s.words.update seen.node);
    }
flags_won s seen new fact won = λ t. record {
  words = (update_found s.words seen.node seen.word new won).1 t;
  worker = flagged_worker s.worker (eq-eqb (s.words.update seen.node) seen.word won t) fact (s.words.update seen.node);
}

-- a flag that is lost changes no word, and the worker gives its card up
pub flags_lost : (s : Scene) (seen : Seen) (new : ℕ) (fact : Fact) → s.words.update seen.node ≢ seen.word
    → flags s seen new fact ≡ record {
      words = s.words;
      worker = flagged_worker s.worker false fact (s.words.update seen.node);
    }
flags_lost s seen new fact lost = λ t. record {
  words = (update_missed s.words seen.node seen.word new lost).1 t;
  worker = flagged_worker s.worker (ne_eqb (s.words.update seen.node) seen.word lost t) fact (s.words.update seen.node);
}

-- worker i has card c in hand for an operation, without its flag
pub record HoldsCard (m : Machine) (i c : ℕ) (op : Op) : Type 0 where
  pub busy : (m.worker i).operation ≡ Some op
  pub holds : (m.worker i).card ≡ Some c
  pub unflagged : (m.worker i).flagged ≡ false

module _ (m : Machine) (stage : Stages) (i c : ℕ) (op : Op) (sound : Invariant m stage) (h : HoldsCard m i c op) where
  -- what its search saw
  pub hand_of : Unflagged m.words stage (m.worker i) op c
  hand_of = (sound.workers.each i).unflagged op c h.busy h.holds h.unflagged

  -- no other worker has the card in hand
  pub held_alone : (j : ℕ) → j ≢ i → OtherInHand (m.worker j) c
  held_alone j apart other d busy holds unflagged same =
      apart (sound.workers.one_hand j i c (holds ∙ ap (λ n. Some n) same) h.holds)

  -- it has no flagged card in hand
  not_flagged : (m.worker i).flagged ≡ true → ⊥
  not_flagged e = false≢true (sym h.unflagged ∙ e)

  -- worker i's effective ledger is its ledger
  pub unflagged_ledger : effective_at stage (m.worker i) ≡ (m.worker i).ledger
  unflagged_ledger = counts_unmade stage (m.worker i) (λ o d b e f. absurd (not_flagged f))

  module _ (fact : Fact) (x : ℕ) (place : IsInnerBorn stage x) where
    -- the worker where it lost the flag
    abbrev loser : Worker
    loser = flagged_worker (m.worker i) false fact (m.words.update x)

    loser_sound : WorkerIsSound m.words stage loser
    loser_sound = let old = sound.workers.each i in record {
      facts = learns_word m.words stage (m.worker i).knows x (sound.words.updates x place.inner place.born) old.facts;
      real = old.real;
      free = λ e. (let clash : Some op ≡ None = sym h.busy ∙ e in absurd cc);
      owned = old.owned;
      stands = λ o y busy at. absurd cc;
      unflagged = λ o d busy holds e. absurd cc;
      flagged = λ o d busy holds e. absurd cc;
    }

    loser_takes : TakesOn m stage i loser
    loser_takes = record {
      own = loser_sound;
      owns = λ k. (λ o. o, λ o. o);
      shares = refl;
      hands = λ d e. absurd cc;
      counts = λ k o. ap (λ f. f k) (counts_unmade stage loser (λ o d b e f. absurd (false≢true f)) ∙ sym unflagged_ledger);
      inserts = λ d e had. absurd (not_flagged had.flagged);
      deletes = λ d e had. absurd (not_flagged had.flagged);
    }

    -- a lost flag keeps the invariant
    pub flag_loses : (a : Act) → i < m.count → ((d : ℕ) → wins_by a (m.worker i).card Lost d ≡ [])
        → Follows m stage a i Lost (with_scene m i (record { words = m.words; worker = loser }))
    flag_loses a there none = follows_worker m stage a i Lost loser there sound none loser_takes

  module _ (fact : Fact) (x value found : ℕ) (new : Stage) (e : UpdateExchange m.words stage x value c new)
      (names : card_of_fact fact ≡ c) (told : allows fact new ≡ true) (unmade : made_by_stage op new ≡ None)
      (flag : Flagged (with_update m.words x value) (put stage c new)
      (flagged_worker (m.worker i) true fact found) op c) where
    -- the worker where it won the flag
    abbrev winner : Worker
    winner = flagged_worker (m.worker i) true fact found

    winner_sound : WorkerIsSound (with_update m.words x value) (put stage c new) winner
    winner_sound = let old = sound.workers.each i in record {
      facts = learns_after m.words stage x value c new (m.worker i).knows fact e old.facts names told;
      real = old.real;
      free = λ idle. (let clash : Some op ≡ None = sym h.busy ∙ idle in absurd cc);
      owned = old.owned;
      stands = λ o y busy at. absurd cc;
      unflagged = λ o d busy holds no_flag. absurd cc;
      flagged = λ o d busy holds no_flag. (
          let same_op : Some op ≡ Some o = sym h.busy ∙ busy in
          let same_card : Some c ≡ Some d = sym h.holds ∙ holds in
          let this : op ≡ o = cc in
          let here : c ≡ d = cc in (
            subst (λ n. Flagged (with_update m.words x value) (put stage c new) winner o n) here
                (subst (λ p. Flagged (with_update m.words x value) (put stage c new) winner p c) this flag),
            refl,
          ));
    }

    -- its card has made nothing of its key
    winner_ledger : effective_at (put stage c new) winner ≡ (m.worker i).ledger
    winner_ledger = counts_made (put stage c new) winner op c h.busy h.holds refl
        ∙ ap (with_made (m.worker i).ledger (key_of op)) (ap (made_by_stage op) (put_same stage c new) ∙ unmade)

    new_worker : NewWorker m stage i x value c new winner
    new_worker = record {
      sound = winner_sound;
      ledger = refl;
      shares = refl;
      hands = λ d e. e;
      effective = λ k. ap (λ f. f k) (winner_ledger ∙ sym unflagged_ledger);
      hand = λ d holds flagged. absurd (not_flagged flagged);
      insert_hand = λ stands. inr (h.holds, refl);
      delete_hand = λ stands. inr (h.holds, refl);
      others = held_alone;
    }

    -- a won flag keeps the invariant
    pub flag_wins : (a : Act) (kind : Exchange) → i < m.count → NewWord m.words stage x value c new
        → wins_of new ≡ wins_of (stage c) ++ kind ∷ []
        → ((d : ℕ) → wins_by a (m.worker i).card Won d ≡ win_for (m.worker i).card kind d)
        → Follows m stage a i Won (exchanged m i x value winner)
    flag_wins a kind there word wins by = record {
      stages = put stage c new;
      invariant = keeps_exchange m stage i x value c new winner e new_worker there word sound;
      words = words_update m.words x value e.rises e.unmarked;
      later = stages_put stage c new e.later;
      unborn = λ d below out. unborn_says m.words stage x value c new e d out;
      wins = λ d. wins_put stage c new kind wins d
          ∙ ap (λ more. wins_of (stage d) ++ more) (ap (λ hand. win_for hand kind d) (sym h.holds) ∙ sym (by d));
    }
