use Rattle.std.proofs.Common.{◌≡◌, ◌≢◌, ℕ, zero, suc, ◌%◌, ◌<◌, Bool, true, List, [], ◌∷◌, inl, inr, refl, sym, ap, ◌∙◌, subst, arith}
use Rattle.ell_ops.specs.Meaning.{key_of}
use Rattle.ell_word.specs.Node.{IsInternal, card}
use Rattle.ell_word.specs.Word.{state_number, state_of, packed, unpacked}
use Rattle.ell_word.specs.declared.update.State.{State}
use Rattle.ell_word.specs.declared.update.State.TheVariants as state
use Rattle.ell_layout.specs.Words.{Words}
use Rattle.ell_core.specs.state.Machine.{Machine}
use Rattle.ell_core.specs.tree.Tree.{Leads, Reached}
use Rattle.ell_core.specs.soundness.Sound.{LedgersAreSound, WalksAreSound, FactsAreSound, NamesAreSound, flags_at, FlagIsSound, FlagsAreSound, IsSound}
use Rattle.ell_core.specs.history.Stages.{Stages, is_node_born, is_marked, delete_open, Born}
use Rattle.ell_core.specs.history.Invariant.{IsOut, WordsAreSound, Invariant}
use Rattle.ell_core.proofs.lemmas.tree.Reached.{not_out, finds_iff, joins_walk, tree_key_leads, tree_pair_leads, leads_tree_pair}
use Rattle.ell_core.proofs.lemmas.tree.Lawful.{tree_lawful}
use Rattle.ell_core.proofs.lemmas.stages.Holding.{fact_holds, effective-at}
use Rattle.ell_core.proofs.lemmas.stages.Order.{born_is_node, born-claimed, marked_cases}

-- the words are sound at these stages
module _ (w : Words) (stage : Stages) (sound : WordsAreSound w stage) where
  -- a reached node came into the tree
  pub reached_born : (x : ℕ) → Reached w x → Born stage x
  reached_born x reached = by_path 0 reached.path root reached.leads
    where
      root : Born stage 0
      root = ap (λ s. is_node_born s (0 % 4)) sound.opening

      by_path : (y : ℕ) (p : List Bool) → Born stage y → Leads w y p x → Born stage x
      by_path y [] born leads = subst (Born stage) (sym leads) born
      by_path y (right ∷ p) born leads = by_path (w.child y right) p ((sound.children y leads.0 born).born right) leads.1

  -- the names of nodes and cards are of claimed cards
  names_sound : NamesAreSound w
  names_sound = record {
    nodes = λ x reached. (sound.cards (card x)).claimed.0 (born-claimed (stage (card x)) (x % 4) (reached_born x reached));
    numbers = λ x reached. born_is_node stage x (reached_born x reached);
    updates = λ x reached inner. (sound.updates x inner (reached_born x reached)).named;
  }

  -- a mark at a reached node is that of a delete whose flag stands
  marked-open : (x c : ℕ) → Reached w x → w.p c ≡ x → is_marked (stage c) ≡ true → delete_open (stage c) ≡ true
  marked-open x c reached at mark = elim (marked_cases (stage c) mark) [
    | inl now ↦ ap delete_open now
    | inr cut ↦ absurd (not_out w sound.tree.ordered x reached (subst (IsOut w) at ((sound.deletes c).cut cut).out))
  ]

-- the number of a state
number_of-state_of : (n : ℕ) → n < 4 → state_number (state_of n) ≡ n
number_of-state_of zero h = refl
number_of-state_of (suc zero) h = refl
number_of-state_of (suc (suc zero)) h = refl
number_of-state_of (suc (suc (suc n))) h = omega arith

-- a word by its state and card
pub word_by_state : (word : ℕ) (s : State) → (unpacked word).state ≡ s
    → word ≡ packed (record { state = s; card = (unpacked word).card })
word_by_state word s h =
    let a = number_of-state_of (word % 4) (omega arith) in
    let b = ap state_number h in
    omega arith

-- the invariant holds of the state
module _ (m : Machine) (stage : Stages) (sound : Invariant m stage) where
  -- the parts of the sound state
  walks_sound : WalksAreSound m
  walks_sound i op x busy stands =
      let it = (sound.workers.each i).stands op x busy stands in
      record {
        finds = λ owns value. (let same = finds_iff m.words (key_of op) value x in
            let leads = it.leads owns value in
            (λ h. leads.0 (same.0 h), λ h. same.1 (leads.1 h)));
        joins = λ y on reached there. joins_walk m.words sound.words.tree.ordered (λ z right inner born. (sound.words.children z inner born).born right)
            sound.words.tree.trie (key_of op) it.born it.course on reached there;
      }

  facts_sound : FactsAreSound m
  facts_sound i fact known = fact_holds m.words stage sound.words fact ((sound.workers.each i).facts fact known)

  ledgers_sound : LedgersAreSound m
  ledgers_sound =
      let ordered = sound.words.tree.ordered in
      record {
        one_owner = sound.workers.one_owner;
        apart = sound.workers.apart;
        owned = λ k held. sound.workers.owned k held.1.real (tree_key_leads m.words ordered k held);
        present = λ i k value owns.
            (let says = sound.workers.present i k value owns in
            let same = ap (λ f. f k) (effective-at m.words stage sound.words (m.worker i) (sound.workers.each i)) in (
              λ held. same ∙ says.0 (tree_pair_leads m.words ordered k value held),
              λ h. leads_tree_pair m.words k value ((sound.workers.each i).real k (inl owns)) (says.1 (sym same ∙ h)),
            ));
      }

  -- a flag or mark of each state
  pub flag_sound : (x : ℕ) (s : State) → Reached m.words x → IsInternal x
      → (unpacked (m.words.update x)).state ≡ s → s ≢ state.Clean → FlagIsSound m x
  flag_sound x state.IFlag reached inner h dirty =
      let c = (unpacked (m.words.update x)).card in
      let born = reached_born m.words stage sound.words x reached in
      let says = (sound.words.updates x inner born).iflagged c (word_by_state (m.words.update x) state.IFlag h) in
      record { in_hand = sound.workers.insert_in_hand c says.0; place = ap (λ s. flags_at m.words s c) h ∙ says.1 }
  flag_sound x state.DFlag reached inner h dirty =
      let c = (unpacked (m.words.update x)).card in
      let born = reached_born m.words stage sound.words x reached in
      let says = (sound.words.updates x inner born).dflagged c (word_by_state (m.words.update x) state.DFlag h) in
      record { in_hand = sound.workers.delete_in_hand c says.0; place = ap (λ s. flags_at m.words s c) h ∙ says.1 }
  flag_sound x state.Mark reached inner h dirty =
      let c = (unpacked (m.words.update x)).card in
      let born = reached_born m.words stage sound.words x reached in
      let says = (sound.words.updates x inner born).marked c (word_by_state (m.words.update x) state.Mark h) in
      record {
        in_hand = sound.workers.delete_in_hand c (marked-open m.words stage sound.words x c reached says.1 says.0);
        place = ap (λ s. flags_at m.words s c) h ∙ says.1;
      }
  flag_sound x state.Clean reached inner h dirty = absurd (dirty refl)

  flags_sound : FlagsAreSound m
  flags_sound x reached inner dirty = flag_sound x (unpacked (m.words.update x)).state reached inner refl dirty

-- a state that the invariant holds of is sound
pub sound : (m : Machine) (stage : Stages) → Invariant m stage → IsSound m
sound m stage holds = record {
  tree = tree_lawful m.words stage holds.words.tree;
  ledgers = ledgers_sound m stage holds;
  walks = walks_sound m stage holds;
  facts = facts_sound m stage holds;
  names = names_sound m.words stage holds.words;
  flags = flags_sound m stage holds;
  strangers = holds.workers.strangers;
}
