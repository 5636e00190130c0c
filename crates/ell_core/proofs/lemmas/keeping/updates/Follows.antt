use Rattle.std.proofs.Common.{◌≡◌, ℕ, ◌<◌, ◌⊎◌, ◌++◌, true, inl, refl, sym, ap, ◌∙◌, subst, arith}
use Rattle.ell_core.specs.declared.event.Act.{Act}
use Rattle.ell_core.specs.declared.event.Stepped.{Stepped}
use Rattle.ell_core.specs.declared.fact.Fact.{Fact}
use Rattle.ell_layout.specs.Words.{Words, put, with_update}
use Rattle.ell_core.specs.state.Facts.{Knowledge, learned, card_of_fact}
use Rattle.ell_core.specs.state.Machine.{Machine}
use Rattle.ell_layout.specs.Cards.{clean}
use Rattle.ell_core.specs.acts.Exchanges.{knowing}
use Rattle.ell_core.specs.history.Stages.{Stage, Stages, allows, insert_won, delete_won, insert_open, delete_open}
use Rattle.ell_core.specs.history.Invariant.{UpdateIsSound, Invariant}
use Rattle.ell_core.specs.history.Later.{Follows, wins_of}
use Rattle.ell_core.specs.acts.Wins.{wins_by}
use Rattle.ell_layout.proofs.lemmas.Writes.{put_same}
use Rattle.ell_core.proofs.lemmas.words.Later.{words_update}
use Rattle.ell_core.proofs.lemmas.keeping.Learning.{KnowsAllowed, learns_fact, sound_knowing}
use Rattle.ell_core.proofs.lemmas.keeping.updates.Cards.{UpdateExchange, unborn_says}
use Rattle.ell_core.proofs.lemmas.keeping.updates.Words.{NewWord}
use Rattle.ell_core.proofs.lemmas.keeping.updates.Workers.{worker_later, counts_later}
use Rattle.ell_core.proofs.lemmas.keeping.updates.Invariant.{exchanged, NewWorker, keeps_exchange}
use Rattle.ell_core.proofs.lemmas.keeping.going_on.InHand.{OtherInHand, won_elsewhere}
use Rattle.ell_core.proofs.lemmas.stages.Advances.{stages_put}

-- a clean word of a claimed card is sound at every node
pub clean_is_sound : (w : Words) (stage : Stages) (x c : ℕ) → c < w.next → UpdateIsSound (with_update w x (clean c)) stage x
clean_is_sound w stage x c claimed = let now = put_same w.update x (clean c) in record {
  named = omega arith;
  iflagged = λ d h. absurd (omega arith);
  dflagged = λ d h. absurd (omega arith);
  marked = λ d h. absurd (omega arith);
}

-- what a worker of an exchange may know after: what it knew, and a fact that the card's new stage allows
pub learns_after : (w : Words) (stage : Stages) (x value c : ℕ) (new : Stage) (known : Knowledge) (fact : Fact)
    → UpdateExchange w stage x value c new
    → KnowsAllowed stage known → card_of_fact fact ≡ c → allows fact new ≡ true
    → KnowsAllowed (put stage c new) (learned known fact)
learns_after w stage x value c new known fact e k at allowed =
    learns_fact (put stage c new) known fact
    (λ f knows. (stages_put stage c new e.later).told f (card_of_fact f) (k f knows))
    (subst (λ s. allows fact s ≡ true) (sym (ap (put stage c new) at ∙ put_same stage c new)) allowed)

-- a stage at which no flag stands that did not stand before
pub record OpensNone (old new : Stage) : Type 0 where
  pub insert : insert_open new ≡ true → insert_open old ≡ true
  pub delete : delete_open new ≡ true → delete_open old ≡ true

module _ (m : Machine) (stage : Stages) (i x value c : ℕ) (new : Stage) (known : Knowledge)
    (e : UpdateExchange m.words stage x value c new) (won : (insert_won (stage c) ≡ true) ⊎ (delete_won (stage c) ≡ true))
    (opens : OpensNone (stage c) new)
    (allowed : KnowsAllowed (put stage c new) known) (sound : Invariant m stage) where
  -- the worker that learned is sound, with all that it had in hand
  learned_worker : NewWorker m stage i x value c new (knowing (m.worker i) known)
  learned_worker = record {
    sound = sound_knowing (with_update m.words x value) (put stage c new) (m.worker i) known
        (worker_later m.words stage x value c new e sound.words (m.worker i) (elsewhere i) (sound.workers.each i)) allowed;
    ledger = refl;
    shares = refl;
    hands = λ d e. e;
    effective = λ k. counts_later m.words stage x value c new e (m.worker i) k;
    hand = λ d h g. (h, g);
    insert_hand = λ h. inl (opens.insert h);
    delete_hand = λ h. inl (opens.delete h);
    others = λ j n. elsewhere j;
  }
    where
      elsewhere : (j : ℕ) → OtherInHand (m.worker j) c
      elsewhere j = won_elsewhere m.words stage (m.worker j) c (sound.workers.each j) won

  -- an exchange that teaches its worker something, and wins for the card what its new stage has more, leads to a state of the
  -- invariant
  pub follows_exchange : (a : Act) (said : Stepped) → i < m.count → NewWord m.words stage x value c new
      → ((d : ℕ) → wins_of (put stage c new d) ≡ wins_of (stage d) ++ wins_by a (m.worker i).card said d)
      → Follows m stage a i said (exchanged m i x value (knowing (m.worker i) known))
  follows_exchange a said there now wins = record {
    stages = put stage c new;
    invariant = keeps_exchange m stage i x value c new (knowing (m.worker i) known) e learned_worker there now sound;
    words = words_update m.words x value e.rises e.unmarked;
    later = stages_put stage c new e.later;
    unborn = λ d below out. unborn_says m.words stage x value c new e d out;
    wins = wins;
  }
