use Rattle.std.proofs.Common.{◌≡◌, ℕ, ◌%◌, ◌<◌, ◌==◌, true, [], ◌∷◌, ◌++◌, Some, inl, inr, refl, sym, ap, ◌∙◌, subst, arith}
use Rattle.std.proofs.lemmas.Bool.{false≢true, cases_eq, eq-eqb, ne_eqb}
use Rattle.ell_ops.specs.declared.op.Op.TheVariants.{Delete}
use Rattle.ell_core.specs.declared.exchange.Exchange.TheVariants as exchange
use Rattle.ell_core.specs.declared.event.Act.TheVariants as act
use Rattle.ell_core.specs.declared.event.Stepped.{Stepped}
use Rattle.ell_core.specs.declared.event.Stepped.TheVariants.{Won, Lost}
use Rattle.ell_core.specs.declared.fact.Fact.TheVariants as fact
use Rattle.ell_core.specs.declared.view.Seen.{Seen}
use Rattle.ell_layout.specs.Words.{Words, put, with_update}
use Rattle.ell_core.specs.state.Machine.{Machine, Scene, scene, with_scene}
use Rattle.ell_layout.specs.Cards.{dflag, is_right}
use Rattle.ell_core.specs.acts.Searching.{IsClean}
use Rattle.ell_core.specs.acts.Exchanges.{won_or_lost, flags, flagged_worker}
use Rattle.ell_trie.specs.Ranges.{at_leaf}
use Rattle.ell_core.specs.history.Stages.{Stages, Opening, DClaimed, DFlagged, is_claimed, delete_won, insert_open, delete_open}
use Rattle.ell_core.specs.history.Invariant.{delete_side, DeleteCard, DeleteStage, Markable, UpdateIsSound, SeenIsSound, StandIsSound, DeleteInHand, Invariant}
use Rattle.ell_core.specs.history.Later.{Follows, wins_of}
use Rattle.ell_layout.proofs.lemmas.Writes.{put_same, put_other}
use Rattle.ell_core.proofs.lemmas.stages.Order.{delete_claimed}
use Rattle.ell_core.proofs.lemmas.keeping.updates.Cards.{UpdateExchange}
use Rattle.ell_core.proofs.lemmas.keeping.updates.Words.{NewWord}
use Rattle.ell_core.proofs.lemmas.keeping.SameOutcome.{follows_as}
use Rattle.ell_core.proofs.lemmas.keeping.updates.Flag.{flags_won, flags_lost, HoldsCard, hand_of, flag_loses, flag_wins}
use Rattle.ell_core.proofs.lemmas.keeping.going_on.Stages.{no_insert}
use Rattle.ell_core.proofs.lemmas.stages.Advances.{dflag_later, dflag_kind, StageLater, SameKind}
use Rattle.ell_core.proofs.lemmas.words.CleanWords.{clean_remainder}
use Rattle.ell_core.specs.declared.view.Entry.TheVariants.{Present}
use Rattle.ell_core.specs.soundness.Sound.{WorkerOwns}
use Rattle.ell_core.specs.tree.Rank.{rank}
use Rattle.ell_core.proofs.lemmas.keeping.KeepsInvariant.{KeepsInvariant}

module _ (m : Machine) (stage : Stages) (i k c : ℕ) (grandparent : Seen) (there : i < m.count) (sound : Invariant m stage)
    (h : HoldsCard m i c (Delete k)) (above : (m.worker i).search.grandparent ≡ Some grandparent) where
  -- what the worker's search saw on its way to the leaf
  hand : DeleteInHand m.words stage (m.worker i) k c
  hand = hand_of m stage i c (Delete k) sound h

  same_grandparent : hand.grandparent ≡ grandparent
  same_grandparent = let same : Some hand.grandparent ≡ Some grandparent = sym hand.above ∙ above in cc

  said : DeleteCard m.words stage c
  said = (sound.words.cards c).delete hand.claimed.0

  at : stage c ≡ DClaimed
  at = delete_claimed (stage c) hand.claimed.0 hand.claimed.1

  node : grandparent.node ≡ m.words.gp c
  node = ap (λ seen. seen.node) (sym same_grandparent) ∙ hand.top_node

  stand : StandIsSound m.words stage (m.worker i) k (m.words.l c)
  stand = (sound.workers.each i).stands (Delete k) (m.words.l c) h.busy hand.stands

  seen : SeenIsSound m.words stage k hand.parent (m.words.l c)
  seen = (stand.parent hand.parent hand.behind).0

  seen_above : SeenIsSound m.words stage k grandparent hand.parent.node
  seen_above = stand.grandparent hand.parent grandparent hand.behind above

  -- a key of its own was present, since the leaf where it stands has it
  present : WorkerOwns (m.worker i) k → (value : ℕ) × ((m.worker i).ledger k ≡ Some (Present value))
  present owns = let value = m.words.value (m.words.l c) in (value, (stand.leads owns value).0 (at_leaf said.leaf.outer hand.own refl))

  module _ (won : m.words.update grandparent.node ≡ grandparent.word) where
    -- the words after the flag
    abbrev after : Words
    after = with_update m.words grandparent.node (dflag c)

    -- the grandparent's word was clean, and is the card's flag
    word_remainder : m.words.update grandparent.node % 4 ≡ 3
    word_remainder = let calm = clean_remainder hand.grandparent.word hand.calm in
        let same = ap (λ s. s.word) same_grandparent in omega arith

    exchanged : UpdateExchange m.words stage grandparent.node (dflag c) c DFlagged
    exchanged = let three = word_remainder in record {
      place = seen_above.node;
      rises = let less = hand.earlier in let same = ap (λ s. s.word) same_grandparent in omega arith;
      unmarked = λ d e. omega arith;
      others = λ d n. (λ e. omega arith, λ e. omega arith);
      later = subst (λ s. StageLater s DFlagged) (sym at) dflag_later;
      kind = subst (λ s. SameKind s DFlagged) (sym at) dflag_kind;
      tree = λ opening. (let clash : DClaimed ≡ Opening = sym at ∙ opening in cc);
      insert_ends = λ e. absurd (false≢true (sym (ap insert_open at) ∙ e));
      delete_ends = λ e. inl refl;
    }

    -- the parent is still the grandparent's child
    child_is_parent : m.words.child (m.words.gp c) (delete_side m.words c) ≡ m.words.p c
    child_is_parent =
        let calm = subst (λ s. IsClean s.word) same_grandparent hand.calm in
        (λ t. m.words.child (sym node t) (is_right m.words (sym node t) (hand.own t)))
        ∙ (seen_above.still calm won ∙ hand.node)

    -- with the tag that the card expects
    tag_is_expected : m.words.tag (m.words.gp c) (delete_side m.words c) ≡ m.words.expects c
    tag_is_expected =
        let calm = subst (λ s. IsClean s.word) same_grandparent hand.calm in
        (λ t. m.words.tag (sym node t) (is_right m.words (sym node t) (hand.own t)))
        ∙ (seen_above.tagged calm won ∙ (ap (λ s. s.tag) (sym same_grandparent) ∙ hand.tagged))

    -- the parent's word is as it was
    parent_same : after.update (m.words.p c) ≡ m.words.update (m.words.p c)
    parent_same = put_other m.words.update grandparent.node (dflag c) (m.words.p c) (λ e. let less = said.first in
        let same = ap (rank m.words) node in let other = ap (rank m.words) e in omega arith)

    markable : Markable after c
    markable = record {
      at_least = let read = seen.word in let was = hand.was in let same = parent_same in
          let e = ap m.words.update hand.node in omega arith;
      still = λ e. (
          let calm = subst IsClean (sym hand.was) said.calm in
          let stands = ap m.words.update hand.node ∙ (sym parent_same ∙ (e ∙ sym hand.was)) in
          (λ t. m.words.child (sym hand.node t) (is_right m.words (sym hand.node t) (hand.own t))) ∙ seen.still calm stands);
    }

    flagged_stage : DeleteStage after (λ d. DFlagged) c
    flagged_stage = record {
      flag = λ e. ap (put m.words.update grandparent.node (dflag c)) (sym node)
          ∙ put_same m.words.update grandparent.node (dflag c);
      past = λ e. absurd (false≢true e);
      waits = λ e. child_is_parent;
      tagged = λ e. tag_is_expected;
      markable = λ e. markable;
      unmarkable = λ e. absurd (false≢true e);
      marked = λ e. absurd (false≢true e);
      cut = λ e. absurd (false≢true e);
    }

    flag_is_sound : UpdateIsSound after (put stage c DFlagged) grandparent.node
    flag_is_sound = let now = put_same m.words.update grandparent.node (dflag c) in
        let claimed = (sound.words.cards c).claimed.0 (ap is_claimed at) in record {
          named = omega arith;
          iflagged = λ d e. absurd (omega arith);
          dflagged = λ d e. (let same : c ≡ d = omega arith in
              subst (λ n. (delete_open (put stage c DFlagged n) ≡ true) × (m.words.gp n ≡ grandparent.node)) same
              (ap delete_open (put_same stage c DFlagged), sym node));
          marked = λ d e. absurd (omega arith);
        }

    new_word : NewWord m.words stage grandparent.node (dflag c) c DFlagged
    new_word = record { insert = no_insert after (λ d. DFlagged) c refl; delete = flagged_stage; update = flag_is_sound }

    -- a won dflag
    wins : Follows m stage act.DFlag i Won (with_scene m i (record {
      words = after;
      worker = flagged_worker (m.worker i) true (fact.DFlagged c) (m.words.update grandparent.node);
    }))
    wins = flag_wins m stage i c (Delete k) sound h (fact.DFlagged c) grandparent.node (dflag c)
        (m.words.update grandparent.node) DFlagged exchanged
        refl refl refl (ap delete_won (put_same stage c DFlagged), hand.own, present) act.DFlag exchange.DFlag there new_word
        (ap (λ s. wins_of s ++ exchange.DFlag ∷ []) (sym at)) (λ d. refl)

  -- dflag, by its row
  follows : (said : Stepped) (becomes : Scene) → said ≡ won_or_lost (m.words.update grandparent.node == grandparent.word)
      → becomes ≡ flags (scene m i) grandparent (dflag c) (fact.DFlagged c)
      → Follows m stage act.DFlag i said (with_scene m i becomes)
  follows said becomes says gives = elim (cases_eq (m.words.update grandparent.node) grandparent.word) [
    | inl won ↦ follows_as m stage act.DFlag i said Won becomes _ (says ∙ ap won_or_lost (eq-eqb _ _ won))
        (gives ∙ flags_won (scene m i) grandparent (dflag c) (fact.DFlagged c) won) (wins won)
    | inr lost ↦ follows_as m stage act.DFlag i said Lost becomes _ (says ∙ ap won_or_lost (ne_eqb _ _ lost))
        (gives ∙ flags_lost (scene m i) grandparent (dflag c) (fact.DFlagged c) lost)
        (flag_loses m stage i c (Delete k) sound h (fact.DFlagged c) grandparent.node seen_above.node act.DFlag there
        (λ d. refl))
  ]

-- dflag keeps the invariant
pub keeps_dflag : KeepsInvariant act.DFlag
keeps_dflag m stage i said becomes there sound happens = let row = happens.row in
    follows m stage i row.key row.card row.grandparent there sound
    (record { busy = row.deletes; holds = row.holds; unflagged = row.unflagged }) row.above said becomes row.says row.gives
