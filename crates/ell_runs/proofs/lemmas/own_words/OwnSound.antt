use Rattle.std.proofs.Common.{◌≡◌, ◌≢◌, ℕ, ◌<◌, true, false, Some, sym, ap, ◌∙◌, subst, arith}
use Rattle.ell_ops.specs.Meaning.{key_of}
use Rattle.ell_word.specs.Word.{unpacked}
use Rattle.ell_word.specs.declared.update.State.TheVariants as state
use Rattle.ell_layout.specs.Words.{Words}
use Rattle.ell_core.specs.state.Facts.{card_of_fact}
use Rattle.ell_core.specs.state.Machine.{Machine}
use Rattle.ell_core.specs.soundness.Holds.{effective}
use Rattle.ell_core.specs.soundness.Sound.{LedgersAreSound, WalksAreSound, FactsAreSound, NamesAreSound, IsInHand, flags_at, FlagsAreSound, IsSound}
use Rattle.ell_core.specs.history.Stages.{Stages, waits}
use Rattle.ell_core.specs.history.Invariant.{Invariant}
use Rattle.ell_core.specs.history.Later.{SaysTheSame}
use Rattle.ell_core.specs.statements.StepLaws.{GoesInTree}
use Rattle.ell_core.proofs.lemmas.following.Reliance.{may_rely}
use Rattle.ell_core.proofs.lemmas.following.Sound.{sound}
use Rattle.ell_core.proofs.lemmas.following.waiting.Cards.{flagged_made, hand_claimed}
use Rattle.ell_runs.proofs.lemmas.own_words.OwnTree.{update_same, reached_same, reached_born, finds_same, joins_same, same_keys, pairs_same, lawful_same}
use Rattle.ell_runs.proofs.lemmas.own_words.OwnCards.{allowed_settled, allowed_claimed, made_same, place_same, fact_same, effective_same}

-- a machine that the invariant holds of, and other words that say the same at each card that does not wait
module _ (m : Machine) (t : Words) (stage : Stages) (holds : Invariant m stage) (next : t.next ≡ m.words.next) (flat : t.flat_from ≡ m.words.flat_from)
    (same : (c : ℕ) → waits (stage c) ≡ false → SaysTheSame m.words t c) where
  -- the same machine with those words
  abbrev own : Machine
  own = record m { words = t }

  was : IsSound m
  was = sound m stage holds

  -- where a claimed card goes
  goes : (c : ℕ) → c < m.words.next → GoesInTree m.words stage c
  goes = (may_rely m stage 0 holds).goes

  -- a card in hand, flagged
  held_settled : (i c : ℕ) → (m.worker i).card ≡ Some c → (m.worker i).flagged ≡ true → waits (stage c) ≡ false
  held_settled i c has flagged = flagged_made m.words stage (m.worker i) c (holds.workers.each i) has flagged

  held_goes : (i c : ℕ) → (m.worker i).card ≡ Some c → GoesInTree m.words stage c
  held_goes i c has = goes c ((holds.words.cards c).claimed.0 (hand_claimed m.words stage (m.worker i) c (holds.workers.each i) has))

  -- part by part
  own_effective : (i : ℕ) → effective t (m.worker i) ≡ effective m.words (m.worker i)
  own_effective i = effective_same m.words t (m.worker i)
      (λ op c has flagged. made_same m.words t stage holds.words same c (held_settled i c has flagged) (held_goes i c has) op)

  own_ledgers : LedgersAreSound own
  own_ledgers = record {
    one_owner = was.ledgers.one_owner;
    apart = was.ledgers.apart;
    owned = λ key held none. let by = was.ledgers.owned key ((same_keys t m.words (pairs_same m.words t stage holds.words same) key).1 held) none in
        record { worker = by.worker; owns = by.owns };
    present = λ i key value owns.
        let tree = pairs_same m.words t stage holds.words same key value in
        let says = was.ledgers.present i key value owns in
        let ledger = ap (λ l. l key) (own_effective i) in
        (λ held. ledger ∙ says.0 (tree.1 held), λ is. tree.0 (says.1 (sym ledger ∙ is)));
  }

  own_walks : WalksAreSound own
  own_walks i op x busy stands =
      let born = ((holds.workers.each i).stands op x busy stands).born in
      let walk = was.walks i op x busy stands in record {
        finds = λ owns value.
            let finds = finds_same m.words t stage holds.words same (key_of op) value x born in
            (λ h. (walk.finds owns value).0 (finds.1 h), λ h. finds.0 ((walk.finds owns value).1 h));
        joins = joins_same m.words t stage holds.words same flat (key_of op) x born walk.joins;
      }

  own_facts : FactsAreSound own
  own_facts i fact knows =
      let allowed = (holds.workers.each i).facts fact knows in
      let c = card_of_fact fact in
      subst (λ (a : Type 0). a)
      (sym (fact_same m.words t stage holds.words same fact (allowed_settled fact (stage c) allowed)
      (goes c ((holds.words.cards c).claimed.0 (allowed_claimed fact (stage c) allowed)))))
      (was.facts i fact knows)

  own_names : NamesAreSound t
  own_names = record {
    nodes = λ x reached. let below = was.names.nodes x ((reached_same m.words t stage holds.words same x).1 reached) in omega arith;
    numbers = λ x reached. was.names.numbers x ((reached_same m.words t stage holds.words same x).1 reached);
    updates = λ x reached inner.
        let below = was.names.updates x ((reached_same m.words t stage holds.words same x).1 reached) inner in
        let is = ap (λ n. (unpacked n).card) (update_same m.words t stage holds.words same x inner (reached_born m.words t stage holds.words same x reached)) in
        omega arith;
  }

  -- a flag or a mark that this word is at a node
  abbrev Flags : ℕ → ℕ → Type 0
  Flags x n = IsInHand own (unpacked n).card × (flags_at t (unpacked n).state (unpacked n).card ≡ x)

  own_flags : FlagsAreSound own
  own_flags x reached inner dirty =
      let is = update_same m.words t stage holds.words same x inner (reached_born m.words t stage holds.words same x reached) in
      let flag = was.flags x ((reached_same m.words t stage holds.words same x).1 reached) inner
      (subst (λ n. (unpacked n).state ≢ state.Clean) is dirty) in
      let hand = flag.in_hand in
      let c = (unpacked (m.words.update x)).card in
      let place = place_same m.words t stage holds.words same c (held_settled hand.worker c hand.holds hand.flagged)
      (held_goes hand.worker c hand.holds) (unpacked (m.words.update x)).state in
      let both = subst (Flags x) (sym is) (record { worker = hand.worker; holds = hand.holds; flagged = hand.flagged }, place ∙ flag.place) in
      record { in_hand = both.0; place = both.1 }

  pub own_sound : IsSound own
  own_sound = record {
    tree = lawful_same m.words t stage holds.words same flat was.tree;
    ledgers = own_ledgers;
    walks = own_walks;
    facts = own_facts;
    names = own_names;
    flags = own_flags;
    strangers = was.strangers;
  }
