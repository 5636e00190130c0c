use Rattle.std.proofs.Common.{◌≡◌, ◌≢◌, ℕ, ◌%◌, ◌<◌, ◌==◌, ◌⊎◌, true, [], ◌∷◌, ◌++◌, Option, Some, None, inl, inr, refl, sym, ap, ◌∙◌, subst, arith}
use Rattle.std.proofs.lemmas.Bool.{false≢true, cases_eq, eq-eqb, ne_eqb}
use Rattle.std.proofs.lemmas.Bool.Decides.{nat_tests}
use Rattle.ell_ops.specs.declared.op.Op.{Op}
use Rattle.ell_ops.specs.declared.op.Op.TheVariants.{Find, Insert, Delete, Swap}
use Rattle.ell_trie.specs.Ranges.{at_leaf}
use Rattle.ell_word.specs.Node.{left_leaf, right_leaf}
use Rattle.ell_core.specs.declared.exchange.Exchange.TheVariants as exchange
use Rattle.ell_core.specs.declared.event.Act.TheVariants as act
use Rattle.ell_core.specs.declared.event.Stepped.{Stepped}
use Rattle.ell_core.specs.declared.event.Stepped.TheVariants.{Won, Lost}
use Rattle.ell_core.specs.declared.fact.Fact.TheVariants as fact
use Rattle.ell_core.specs.declared.put.Put.{Put}
use Rattle.ell_core.specs.declared.view.Seen.{Seen}
use Rattle.ell_layout.specs.Words.{put, with_update}
use Rattle.ell_core.specs.state.Machine.{Machine, Scene, scene, with_scene, entry_of}
use Rattle.ell_layout.specs.Cards.{iflag, is_right}
use Rattle.ell_core.specs.acts.Searching.{IsClean, put_of}
use Rattle.ell_core.specs.acts.Exchanges.{won_or_lost, flags, flagged_worker}
use Rattle.ell_core.specs.tree.Flat.{IsInBlock}
use Rattle.ell_core.proofs.lemmas.tree.Paths.{internal_or_leaf}
use Rattle.ell_core.proofs.lemmas.stages.Edges.{found_block, replaces_leaf}
use Rattle.ell_core.specs.history.Stages.{Stages, Opening, IClaimed, IFlagged, is_claimed, insert_won, insert_open, delete_open, made_by_stage}
use Rattle.ell_core.specs.history.Invariant.{IsOnCourse, insert_key, insert_side, InsertCard, InsertStage, UpdateIsSound, SeenIsSound, StandIsSound, InsertInHand, IsPutting, Invariant}
use Rattle.ell_core.specs.history.Later.{Follows, wins_of}
use Rattle.ell_layout.proofs.lemmas.Writes.{put_same}
use Rattle.ell_core.proofs.lemmas.stages.Order.{insert_claimed}
use Rattle.ell_core.proofs.lemmas.keeping.updates.Cards.{UpdateExchange}
use Rattle.ell_core.proofs.lemmas.keeping.updates.Words.{NewWord}
use Rattle.ell_core.proofs.lemmas.keeping.Puts.{put_key, putting_hand, putting_flag}
use Rattle.ell_core.proofs.lemmas.keeping.SameOutcome.{follows_as}
use Rattle.ell_core.proofs.lemmas.keeping.updates.Flag.{flags_won, flags_lost, HoldsCard, hand_of, flag_loses, flag_wins}
use Rattle.ell_trie.proofs.lemmas.order.Bounds.{leaf_key}
use Rattle.ell_core.proofs.lemmas.words.Sides.{insert_key-side, key_of_three}
use Rattle.ell_core.proofs.lemmas.keeping.going_on.Stages.{no_delete}
use Rattle.ell_core.proofs.lemmas.stages.Advances.{iflag_later, iflag_kind, StageLater, SameKind}
use Rattle.ell_core.proofs.lemmas.words.CleanWords.{clean_remainder}
use Rattle.ell_core.specs.declared.view.Entry.{Entry}
use Rattle.ell_core.specs.declared.view.Entry.TheVariants.{Present, Absent}
use Rattle.ell_core.specs.soundness.Sound.{WorkerOwns}
use Rattle.ell_core.proofs.lemmas.keeping.KeepsInvariant.{KeepsInvariant}

-- of two keys that rise, the one that is not the leaf's is another one
other_of_two : (left right leaf : ℕ) → left < right → key_of_three left right leaf ≢ leaf
other_of_two left right leaf less = elim (cases_eq left leaf) [
  | inl same ↦ (λ e. let pick : key_of_three left right leaf ≡ right = grind (arith, nat_tests) in omega arith)
  | inr n ↦ (λ e. let pick : key_of_three left right leaf ≡ left = grind (arith, nat_tests) in n (sym pick ∙ e))
]

-- an entry that is there and is not present is absent
absent_entry : (entry : Option Entry) → entry ≢ None → ((value : ℕ) → entry ≢ Some (Present value)) → entry ≡ Some Absent
absent_entry None there unmade = absurd (there refl)
absent_entry (Some (Present value)) there unmade = absurd (unmade value refl)
absent_entry (Some Absent) there unmade = refl

-- an operation whose card has only its flag has made nothing
not_made : (op : Op) → made_by_stage op IFlagged ≡ None
not_made (Find k) = refl
not_made (Insert k value) = refl
not_made (Delete k) = refl
not_made (Swap k was value) = refl

-- of two keys that are one, which is the leaf's, so is the one that is picked
one_of_one : (left right leaf : ℕ) → left ≡ right → (left ≡ leaf) ⊎ (right ≡ leaf) → key_of_three left right leaf ≡ leaf
one_of_one left right leaf same one = grind (arith, nat_tests)

module _ (m : Machine) (stage : Stages) (i : ℕ) (op : Op) (what : Put) (puts : put_of op ≡ Some what) (c : ℕ) (parent : Seen)
    (there : i < m.count) (sound : Invariant m stage) (h : HoldsCard m i c op) (behind : (m.worker i).search.parent ≡ Some parent) where
  abbrev k : ℕ
  k = what.key

  -- what the worker's search saw on its way to the leaf
  hand : InsertInHand m.words stage (m.worker i) what c
  hand = putting_hand m.words stage (m.worker i) what c op puts (hand_of m stage i c op sound h)

  same_parent : hand.parent ≡ parent
  same_parent = let same : Some hand.parent ≡ Some parent = sym hand.behind ∙ behind in cc

  said : InsertCard m.words stage c
  said = (sound.words.cards c).insert hand.claimed.0

  at : stage c ≡ IClaimed
  at = insert_claimed (stage c) hand.claimed.0 hand.claimed.1

  node : parent.node ≡ m.words.p c
  node = ap (λ seen. seen.node) (sym same_parent) ∙ hand.node

  stand : StandIsSound m.words stage (m.worker i) k (m.words.l c)
  stand = subst (λ key. StandIsSound m.words stage (m.worker i) key (m.words.l c)) (put_key op what puts)
      ((sound.workers.each i).stands op (m.words.l c) h.busy hand.stands)

  seen : SeenIsSound m.words stage k parent (m.words.l c)
  seen = (stand.parent parent behind).0

  course : IsOnCourse m.words (insert_key m.words c) (m.words.p c)
  course = subst (λ n. IsOnCourse m.words n (m.words.p c)) (sym hand.own)
      (subst (IsOnCourse m.words k) node (stand.parent parent behind).1)

  -- a key of its own was absent, since the leaf where it stands has another one, or it was present with the leaf's value
  entry_is : (old : Option ℕ) → IsPutting m.words c old → WorkerOwns (m.worker i) k → (m.worker i).ledger k ≡ Some (entry_of old)
  entry_is None less owns = absent_entry ((m.worker i).ledger k) owns (λ v e. elim (internal_or_leaf (m.words.l c)) [
    | inl inner ↦ said.edge inner (subst (IsInBlock m.words (m.words.l c)) (sym hand.own)
        (found_block m.words stage sound.words k (m.words.l c) inner said.lower ((stand.leads owns v).1 e)))
    | inr outer ↦ other_of_two (m.words.key (left_leaf c)) (m.words.key (right_leaf c)) (m.words.key (m.words.l c)) less
        (hand.own ∙ sym (leaf_key m.words.key m.words.child k (m.words.l c) outer ((stand.leads owns v).1 e)))
  ])
  entry_is (Some v) one owns =
      let key = one_of_one (m.words.key (left_leaf c)) (m.words.key (right_leaf c)) (m.words.key (m.words.l c)) one.0
      (elim said.copy [ inl left ↦ inl left.key | inr right ↦ inr right.key ]) in
      (stand.leads owns v).0 (at_leaf (replaces_leaf m.words stage sound.words c said one.0) (sym key ∙ hand.own) one.1)

  module _ (won : m.words.update parent.node ≡ parent.word) where
    -- the parent's word was clean, and is the card's flag
    word_remainder : m.words.update parent.node % 4 ≡ 3
    word_remainder = let calm = clean_remainder hand.parent.word hand.calm in let same = ap (λ s. s.word) same_parent in
        omega arith

    exchanged : UpdateExchange m.words stage parent.node (iflag c) c IFlagged
    exchanged = let three = word_remainder in record {
      place = seen.node;
      rises = let less = hand.earlier in let same = ap (λ s. s.word) same_parent in omega arith;
      unmarked = λ d e. omega arith;
      others = λ d n. (λ e. omega arith, λ e. omega arith);
      later = subst (λ s. StageLater s IFlagged) (sym at) iflag_later;
      kind = subst (λ s. SameKind s IFlagged) (sym at) iflag_kind;
      tree = λ opening. (let clash : IClaimed ≡ Opening = sym at ∙ opening in cc);
      insert_ends = λ e. inl refl;
      delete_ends = λ e. absurd (false≢true (sym (ap delete_open at) ∙ e));
    }

    -- the leaf is still the parent's child
    child_is_leaf : m.words.child (m.words.p c) (insert_side m.words c) ≡ m.words.l c
    child_is_leaf =
        let side = sym (insert_key-side m.words stage c said) ∙ (λ t. is_right m.words (sym node t) (hand.own t)) in
        let calm = subst (λ s. IsClean s.word) same_parent hand.calm in
        (λ t. m.words.child (sym node t) (side t)) ∙ seen.still calm won

    -- with the tag that the card expects
    tag_is_expected : m.words.tag (m.words.p c) (insert_side m.words c) ≡ m.words.expects c
    tag_is_expected =
        let side = sym (insert_key-side m.words stage c said) ∙ (λ t. is_right m.words (sym node t) (hand.own t)) in
        let calm = subst (λ s. IsClean s.word) same_parent hand.calm in
        (λ t. m.words.tag (sym node t) (side t)) ∙ (seen.tagged calm won ∙ (ap (λ s. s.tag) (sym same_parent) ∙ hand.tagged))

    flagged_stage : InsertStage (with_update m.words parent.node (iflag c)) (λ d. IFlagged) c
    flagged_stage = record {
      flag = λ e. ap (put m.words.update parent.node (iflag c)) (sym node) ∙ put_same m.words.update parent.node (iflag c);
      over = λ e. absurd (false≢true e);
      waits = λ e. child_is_leaf;
      tagged = λ e. tag_is_expected;
      course = λ e. course;
      changed = λ e. absurd (false≢true e);
      brings = λ e. absurd (false≢true e);
    }

    flag_is_sound : UpdateIsSound (with_update m.words parent.node (iflag c)) (put stage c IFlagged) parent.node
    flag_is_sound = let now = put_same m.words.update parent.node (iflag c) in
        let claimed = (sound.words.cards c).claimed.0 (ap is_claimed at) in record {
          named = omega arith;
          iflagged = λ d e. (let same : c ≡ d = omega arith in
              subst (λ n. (insert_open (put stage c IFlagged n) ≡ true) × (m.words.p n ≡ parent.node)) same
              (ap insert_open (put_same stage c IFlagged), sym node));
          dflagged = λ d e. absurd (omega arith);
          marked = λ d e. absurd (omega arith);
        }

    new_word : NewWord m.words stage parent.node (iflag c) c IFlagged
    new_word = record {
      insert = flagged_stage;
      delete = no_delete (with_update m.words parent.node (iflag c)) (λ d. IFlagged) c refl;
      update = flag_is_sound;
    }

    -- a won iflag
    wins : Follows m stage act.IFlag i Won (with_scene m i (record {
      words = with_update m.words parent.node (iflag c);
      worker = flagged_worker (m.worker i) true (fact.IFlagged c) (m.words.update parent.node);
    }))
    wins = flag_wins m stage i c op sound h (fact.IFlagged c) parent.node (iflag c)
        (m.words.update parent.node) IFlagged exchanged
        refl refl (not_made op) (putting_flag (with_update m.words parent.node (iflag c)) (put stage c IFlagged) (m.worker i) what c op puts
        (ap insert_won (put_same stage c IFlagged), hand.own, hand.own_value, entry_is what.was hand.kind, hand.kind)) act.IFlag exchange.IFlag there new_word
        (ap (λ s. wins_of s ++ exchange.IFlag ∷ []) (sym at)) (λ d. refl)

  -- iflag, by its row
  follows : (said : Stepped) (becomes : Scene) → said ≡ won_or_lost (m.words.update parent.node == parent.word)
      → becomes ≡ flags (scene m i) parent (iflag c) (fact.IFlagged c)
      → Follows m stage act.IFlag i said (with_scene m i becomes)
  follows said becomes says gives = elim (cases_eq (m.words.update parent.node) parent.word) [
    | inl won ↦ follows_as m stage act.IFlag i said Won becomes _ (says ∙ ap won_or_lost (eq-eqb _ _ won))
        (gives ∙ flags_won (scene m i) parent (iflag c) (fact.IFlagged c) won) (wins won)
    | inr lost ↦ follows_as m stage act.IFlag i said Lost becomes _ (says ∙ ap won_or_lost (ne_eqb _ _ lost))
        (gives ∙ flags_lost (scene m i) parent (iflag c) (fact.IFlagged c) lost)
        (flag_loses m stage i c op sound h (fact.IFlagged c) parent.node seen.node act.IFlag there (λ d. refl))
  ]

-- iflag keeps the invariant
pub keeps_iflag : KeepsInvariant act.IFlag
keeps_iflag m stage i said becomes there sound happens = let row = happens.row in
    follows m stage i row.op row.what row.puts row.card row.parent there sound
    (record { busy = row.busy; holds = row.holds; unflagged = row.unflagged }) row.behind said becomes row.says row.gives
