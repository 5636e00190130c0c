-- A pass retires dead nodes of a card in the word of the card's slot: nodes that its card in hand has taken out, or
-- nodes of that card that never come.
use Rattle.std.proofs.Common.{◌≡◌, ◌≢◌, ℕ, ◌+◌, ◌*◌, ◌%◌, ◌<◌, ◌≤◌, ◌==◌, ◌||◌, Bool, true, false, Some, List, length, get_or, set, inl, inr, ◌⊎◌, refl, sym, ap, ◌∙◌, subst, arith, eq-eqb, ne_eqb, get_or-set_same}
use Rattle.ell_core.proofs.lemmas.stages.Below.{goes-leaf}
use Rattle.std.proofs.lemmas.Bool.{cases_eq}
use Rattle.std.proofs.lemmas.Option.{same_Some}
use mathlib.Core.Option.{some}
use lib.ListN.{get_elem?}
use prog.Atomic.{either}
use Rattle.ell_word.specs.Node.{card, generation_size}
use Rattle.ell_layout.specs.declared.field.Field.TheVariants as field
use Rattle.ell_layout.specs.Words.{Words}
use Rattle.ell_core.specs.history.Invariant.{DeleteCard}
use Rattle.ell_core.specs.history.Stages.{Stages, is_cut}
use Rattle.ell_core.proofs.lemmas.stages.Order.{cut-delete, changed-insert}
use Rattle.ell_grace.specs.Gone.{TakesOut}
use Rattle.ell_cards.specs.declared.card_nodes.CardNodes.{CardNodes}
use Rattle.ell_cards.specs.declared.retiring.Whose.{Whose}
use Rattle.ell_cards.specs.declared.retiring.Whose.TheVariants.{TakenOut, Own}
use Rattle.ell_cards.specs.declared.view.Known.{Known}
use Rattle.ell_cards.specs.declared.view.Participant.{Participant}
use Rattle.ell_runs.specs.declared.view.Slots.{Slots}
use Rattle.ell_cards.specs.Ages.{IsOut, RetiresThere, IsRetiredThere, AreRetired, HasEpochs, KnowsDeadNode, MayGetRetireEpoch}
use Rattle.ell_cards.specs.CardNodes.{RetiresToo, has_node}
use Rattle.ell_runs.specs.Dead.{HasTakenOut}
use Rattle.ell_runs.specs.Plans.{TablePlan}
use Rattle.ell_cards.specs.RetiringInSlots.{KnowsDeadNodes, LiesThereStill, MayRetireIn, MayRetireNext, MayRetire}
use Rattle.ell_cards.specs.EpochLaws.{IsRetiredInSlot, RetiredNodesStayRetired}
use Rattle.ell_cards.specs.Whole.{EpochsAre}
use Rattle.ell_cards.specs.Epochs.{WholeState, slot_word, slots_size, after_retiring, after_retiring_read}
use Rattle.ell_cards.specs.Retiring.{is_done, retires_if, with_retired}
use Rattle.ell_cards.specs.Shown.{shown}
use Rattle.ell_cards.specs.SlotWords.{card_by, slot_of, generation_of, generation_in, free_word, is_retired}
use Rattle.ell_runs.specs.Starts.{IsReached}
use Rattle.ell_runs.specs.States.{TableState}
use Rattle.ell_cards.specs.Stepping.{MayGoOn}
use Rattle.ell_runs.proofs.lemmas.runs.Named.{passes_name_met}
use Rattle.ell_runs.proofs.lemmas.runs.Touching.{known_takes_out}
use Rattle.ell_cards.proofs.lemmas.shown.ShownDead.{WasTakenOut, nodes_never_come, place_whole, taken_out_whole}
use Rattle.ell_runs.proofs.lemmas.stepping.Exchanges.{told_is}
use Rattle.ell_cards.proofs.lemmas.refinement.Apart.{met_lies}
use Rattle.ell_cards.proofs.lemmas.whole.Trees.{tree_at}
use Rattle.ell_cards.proofs.lemmas.views.DeadNodes.{both, of_either}
use Rattle.ell_cards.proofs.lemmas.whole.Ages.{retired_as, retired_at}
use Rattle.ell_cards.proofs.lemmas.whole.Apart.{ready_there}
use Rattle.ell_cards.proofs.lemmas.whole.Freeing.{HasRetired, dead_by, frees_now, lies_by, low_slot, retired_by_then, retires_now, reads_now, taken_lies}
use Rattle.ell_cards.proofs.lemmas.whole.Going.{GoesTo, turned_to, goes_on_there}
use Rattle.ell_cards.proofs.lemmas.words.RetiredBits.{all_some, done_by, few_retired, few_nodes, left_some, left_generation, left_used, retires_more}

-- a node that the card in hand has taken out is that one's parent, if it is an internal node, or else its leaf
module _ (plan : TablePlan) (s : Slots) (tree : TableState) (t : WholeState) (id : ℕ) (k : Known) (here : get_elem? t.views id ≡ some k)
    (there : get_elem? tree.views id ≡ some k.tree) (h : HasEpochs plan s tree t) (size : length t.words ≡ slots_size s) (reached : IsReached plan tree) where
  abbrev OutThere : List ℕ → ℕ → Type 0
  OutThere words x = IsOut plan tree h.ages.now.machine h.ages.now.uses x × IsRetiredThere s words h.lie x

  taken : (x : ℕ) → HasTakenOut (shown k.tree) x → WasTakenOut k.tree x
  taken x is = taken_out_whole k.tree (passes_name_met plan tree reached id k.tree there).0 x is

  module _ (c : ℕ) (hand : k.tree.worker.card ≡ Some c) (x : ℕ) (was : WasTakenOut k.tree x) where
    abbrev w : Words
    w = h.ages.now.machine.words

    abbrev stage : Stages
    stage = h.ages.now.uses.outs.stages

    taker_is : was.taker ≡ c
    taker_is = same_Some was.taker c (sym was.holds ∙ hand)

    takes : TakesOut w stage c was.whole
    takes = subst (λ d. TakesOut w stage d was.whole) taker_is
        (known_takes_out plan tree id k.tree there was.taker was.whole was.knows h.ages.now.machine h.ages.now.uses.outs).1

    cuts : is_cut (stage c) ≡ true → DeleteCard w stage c
    cuts is = (h.ages.now.uses.outs.invariant.words.cards c).delete (cut-delete (stage c) is)

    pub taken_parent : x % 4 ≡ 0 → w.p c ≡ was.whole
    taken_parent inner = by takes
      where
        internal : was.whole % 4 ≡ 0
        internal = sym (place_whole was.whole x was.is) ∙ inner

        by : TakesOut w stage c was.whole → w.p c ≡ was.whole
        by (inl put) = absurd (goes-leaf w stage h.ages.now.uses.outs.invariant.words c
            ((h.ages.now.uses.outs.invariant.words.cards c).insert (changed-insert (stage c) put.0)) put.1 (ap (λ y. y % 4) put.2 ∙ internal))
        by (inr (cut, inl p)) = p
        by (inr (cut, inr l)) = absurd ((cuts cut).leaf.outer (ap (λ y. y % 4) l ∙ internal))

    pub taken_leaf : x % 4 ≢ 0 → w.l c ≡ was.whole
    taken_leaf outer = by takes
      where
        by : TakesOut w stage c was.whole → w.l c ≡ was.whole
        by (inl put) = put.2
        by (inr (cut, inl p)) = absurd (outer (place_whole was.whole x was.is ∙ (sym (ap (λ y. y % 4) p) ∙ (cuts cut).parent.inner)))
        by (inr (cut, inr l)) = l

  abbrev keeps_retired : List ℕ → Type 0
  keeps_retired words = (x : ℕ) → IsOut plan tree h.ages.now.machine h.ages.now.uses x → IsRetiredThere s t.words h.lie x → IsRetiredThere s words h.lie x

  -- by these words of slots, each of these nodes of a card is retired; if they were taken out, whichever card has that
  -- slot
  abbrev ShowsAll : Whose → ℕ → CardNodes → List ℕ → Type 0
  ShowsAll whose c nodes words = (d i : ℕ) → has_node nodes i ≡ true → slot_of d ≡ slot_of c → (whose ≡ Own → d ≡ c) → RetiresThere s words h.lie d i

  -- what was retired is so
  retired_still : (words : List ℕ) → keeps_retired words → (d : ℕ) → k.participant.slot ≡ Some d → k.tree.worker.card ≡ Some d
      → AreRetired h.ages.now.machine.words d k.participant.retired (OutThere words)
  retired_still words keeps d at hand = let was = h.retired id d k here at hand in record {
    parent = λ is. (let o = was.parent is in (o.0, keeps _ o.0 o.1));
    leaf = λ is. (let o = was.leaf is in (o.0, keeps _ o.0 o.1));
    own = λ i is. (let o = was.own i is in (o.0, keeps _ o.0 o.1));
  }

  -- a node that was taken out is retired
  taken_retired : (c : ℕ) (nodes : CardNodes) (words : List ℕ) → ShowsAll TakenOut c nodes words → (i : ℕ) → has_node nodes i ≡ true → (was : WasTakenOut k.tree (4 * c + i))
      → OutThere words was.whole
  taken_retired c nodes words shows i has was =
      let few = few_nodes nodes i has in
      let place : was.whole % 4 ≡ i = sym (place_whole was.whole (4 * c + i) was.is) ∙ omega (arith, few) in
      let lies : slot_of (card was.whole) ≡ slot_of c = low_slot plan s tree t id k here there h size reached was.whole (4 * c + i) was.is ∙ ap slot_of (card_at c i few) in (
        dead_by plan s tree t id k here there h size reached was.whole (was.taker, inl was.knows),
        subst (RetiresThere s words h.lie (card was.whole)) (sym place) (shows (card was.whole) i has lies (λ no. absurd cc)),
      )
    where
      card_at : (c i : ℕ) → i < 3 → card (4 * c + i) ≡ c
      card_at c i few = omega (arith, few)

  -- so they are retired
  retired_now : (whose : Whose) (c : ℕ) (nodes : CardNodes) → MayRetire (shown k.tree) whose c nodes → (words : List ℕ) → keeps_retired words → ShowsAll whose c nodes words
      → HasRetired plan s tree t id k here there h size reached words (with_retired whose nodes k.participant.retired)
  retired_now TakenOut c nodes may words keeps shows d at hand =
      let old = retired_still words keeps d at hand in record {
        parent = λ is. elim (of_either k.participant.retired.parent nodes.internal is) [
          | inl was ↦ old.parent was
          | inr new ↦
              let it = taken (4 * c + 0) (may 0 new) in
              subst (OutThere words) (sym (taken_parent d hand (4 * c + 0) it (omega arith))) (taken_retired c nodes words shows 0 new it)
        ];
        leaf = λ is. elim (of_either k.participant.retired.leaf (nodes.left || nodes.right) is) [
          | inl was ↦ old.leaf was
          | inr new ↦ elim (of_either nodes.left nodes.right new) [
            | inl left ↦
                let it = taken (4 * c + 1) (may 1 left) in
                subst (OutThere words) (sym (taken_leaf d hand (4 * c + 1) it (λ e. omega arith))) (taken_retired c nodes words shows 1 left it)
            | inr right ↦
                let it = taken (4 * c + 2) (may 2 right) in
                subst (OutThere words) (sym (taken_leaf d hand (4 * c + 2) it (λ e. omega arith))) (taken_retired c nodes words shows 2 right it)
          ]
        ];
        own = old.own;
      }
  retired_now Own c nodes may words keeps shows d at hand =
      let old = retired_still words keeps d at hand in
      let same : c ≡ d = same_Some c d (sym may.1 ∙ hand) in record {
        parent = old.parent;
        leaf = old.leaf;
        own = λ i is. elim (both k.participant.retired.own nodes i is) [
          | inl was ↦ old.own i was
          | inr new ↦ subst (λ e. OutThere words (4 * e + i)) same (
            dead_by plan s tree t id k here there h size reached (4 * c + i) (nodes_never_come k.tree c nodes may.0 i new),
            retired_at plan s words h.lie c i (few_nodes nodes i new) (shows c i new refl (λ no. refl)),
          )
        ];
      }

  -- the word of the card's slot as it is now
  abbrev word_now : ℕ → ℕ
  word_now c = get_or t.words (slot_word s (slot_of c)) 0

  -- in use, it is of the card that lies there
  lies_now : (c : ℕ) → slot_of c ≤ s.last → word_now c % 8 ≢ 0 → h.lie (slot_of c) ≡ card_by (slot_of c) (word_now c)
  lies_now c inside used = h.lies (slot_of c) inside used

  -- if by that word none of the nodes is left, they are retired there
  shows_done : (whose : Whose) (c : ℕ) (nodes : CardNodes) → slot_of c ≤ s.last → is_done whose c nodes (word_now c) ≡ true → ShowsAll whose c nodes t.words
  shows_done whose c nodes inside done d i has at own low lies used = elim (done_by whose c nodes (word_now c) done) [
    | inl all ↦ subst (λ n. is_retired n i ≡ true) (sym stands) (all_some nodes (word_now c) i all has)
    | inr other ↦
        let mine : d ≡ c = own other.0 in
        let lie : h.lie (slot_of c) ≡ c = ap h.lie (sym at) ∙ (lies ∙ mine) in
        let is = lies_now c inside (λ full. used (ap (λ n. n % 8) stands ∙ full)) in
        absurd (other.1 (generation_by c (word_now c) (sym is ∙ lie)))
  ]
    where
      stands : get_or t.words (slot_word s (slot_of d)) 0 ≡ word_now c
      stands = ap (λ y. get_or t.words (slot_word s y) 0) at

      generation_by : (c n : ℕ) → card_by (slot_of c) n ≡ c → generation_in n ≡ generation_of c
      generation_by c n is = omega (arith, is)

  -- if some are left, the pass may retire them
  may_retire_in : (whose : Whose) (c : ℕ) (nodes : CardNodes) → plan.slots ≡ Some s → slot_of c ≤ s.last → MayRetire (shown k.tree) whose c nodes
      → is_done whose c nodes (word_now c) ≡ false → MayRetireIn k.tree whose c nodes (word_now c)
  may_retire_in TakenOut c nodes placed inside may left =
      let used = left_used TakenOut c nodes (word_now c) left in
      let one = left_some TakenOut c nodes (word_now c) left in
      let few = few_nodes nodes one.0 one.1 in
      let it = taken (4 * c + one.0) (may one.0 one.1) in
      let at : slot_of (card it.whole) ≡ slot_of c = low_slot plan s tree t id k here there h size reached it.whole (4 * c + one.0) it.is ∙ slot_there c one.0 few in
      let lies = met_lies plan s tree t h.ages.now.machine h.lie h.dead h.was_dead h.refines id k here there (ready_there plan s tree t h id k here) it.whole it.met in record {
        used = used;
        there = (it.whole, it.met, sym lies.1 ∙ (ap h.lie at ∙ lies_now c inside used));
        dead = λ i has.
            let low = few_nodes nodes i has in
            subst (KnowsDeadNode k.tree) (at_place c i low (card_by (slot_of c) (word_now c)))
            (taken_lies plan s tree t id k here there h size reached placed (slot_of c) inside used (4 * c + i) (slot_there c i low) (may i has));
      }
    where
      slot_there : (c i : ℕ) → i < 3 → slot_of (card (4 * c + i)) ≡ slot_of c
      slot_there c i few = omega (arith, few)

      at_place : (c i : ℕ) → i < 3 → (d : ℕ) → 4 * d + (4 * c + i) % 4 ≡ 4 * d + i
      at_place c i few d = omega (arith, few)
  may_retire_in Own c nodes placed inside may left =
      let generation = left_generation c nodes (word_now c) left in record {
        used = left_used Own c nodes (word_now c) left;
        there = generation;
        dead = subst (λ d. KnowsDeadNodes k.tree d nodes) (sym (lies_by c (slot_of c) (word_now c) refl generation)) (nodes_never_come k.tree c nodes may.0);
      }

  -- by a word that stands there instead of one that was read more is retired than by that, if some are left by it
  generation_there : (whose : Whose) (c n : ℕ) → slot_of c ≤ s.last → word_now c % 8 ≢ 0 → LiesThereStill k.tree whose c n → LiesThereStill k.tree whose c (word_now c)
      → h.lie (slot_of c) ≡ card_by (slot_of c) n
  generation_there TakenOut c n inside used was now =
      let lies = met_lies plan s tree t h.ages.now.machine h.lie h.dead h.was_dead h.refines id k here there (ready_there plan s tree t h id k here) was.0 was.1 in
      let at : slot_of (card was.0) ≡ slot_of c = ap slot_of was.2 ∙ at_home c n in
      sym (ap h.lie at) ∙ (lies.1 ∙ was.2)
    where
      at_home : (c n : ℕ) → slot_of (card_by (slot_of c) n) ≡ slot_of c
      at_home c n = omega arith
  generation_there Own c n inside used was now = lies_now c inside used ∙ ap (λ u. generation_size * u + slot_of c) (now ∙ sym was)

  retires_next : (whose : Whose) (c : ℕ) (nodes : CardNodes) → plan.slots ≡ Some s → slot_of c ≤ s.last → MayRetire (shown k.tree) whose c nodes
      → (n : ℕ) → k.participant.read ≡ Some (record { slot = slot_of c; word = n }) → MayRetireIn k.tree whose c nodes n → MayRetireNext k.tree whose c nodes n (word_now c)
  retires_next whose c nodes placed inside may n read may_now other left =
      let next = may_retire_in whose c nodes placed inside may left in
      let lies = generation_there whose c n inside next.used may_now.there next.there in
      let same : card_by (slot_of c) (word_now c) ≡ card_by (slot_of c) n = sym (lies_now c inside next.used) ∙ lies in (
        next,
        retires_more n (word_now c) (generation_same (slot_of c) (word_now c) n same) (λ i was. kept i was lies next.used) other,
      )
    where
      generation_same : (slot n m : ℕ) → card_by slot n ≡ card_by slot m → generation_in n ≡ generation_in m
      generation_same slot n m is = omega (arith, is)

      kept : (i : ℕ) → is_retired n i ≡ true → h.lie (slot_of c) ≡ card_by (slot_of c) n → word_now c % 8 ≢ 0 → is_retired (word_now c) i ≡ true
      kept i was lies used =
          let there = retired_as plan s t.words h.lie (card_by (slot_of c) n) i (few_retired n i was) (h.ages.read id k (record { slot = slot_of c; word = n }) here read may_now.used i was).1 in
          let at : slot_of (card_by (slot_of c) n) ≡ slot_of c = sym (ap slot_of lies) ∙ h.refines.own (slot_of c) inside in
          subst (λ y. is_retired (get_or t.words (slot_word s y) 0) i ≡ true) at
          (there (subst (λ y. y ≤ s.last) (sym at) inside) (ap h.lie at ∙ lies) (subst (λ y. get_or t.words (slot_word s y) 0 % 8 ≢ 0) (sym at) used))

  -- the pass reads the word
  pub retires_read : (whose : Whose) (c : ℕ) (nodes : CardNodes) → slot_of c ≤ s.last → MayRetire (shown k.tree) whose c nodes
      → GoesTo plan s tree t h (turned_to t id k (after_retiring_read whose c nodes (word_now c) k.participant) (slot_word s (slot_of c)) (word_now c))
  retires_read whose c nodes inside may =
      reads_now plan s tree t id k here there h size reached (slot_of c) inside (retires_if (is_done whose c nodes (word_now c)) whose nodes k.participant.retired)
      (by (is_done whose c nodes (word_now c)) refl)
    where
      by : (b : Bool) → is_done whose c nodes (word_now c) ≡ b → HasRetired plan s tree t id k here there h size reached t.words (retires_if b whose nodes k.participant.retired)
      by true done = retired_now whose c nodes may t.words (λ x out is. is) (shows_done whose c nodes inside done)
      by false left = λ d at hand. h.retired id d k here at hand

  -- and exchanges it for one by which they are retired too
  pub retires_them : (whose : Whose) (c : ℕ) (nodes : CardNodes) (n m : ℕ) → slot_of c ≤ s.last → MayRetire (shown k.tree) whose c nodes → MayRetireIn k.tree whose c nodes n
      → RetiresToo nodes n m → m % 8 ≢ 0 → word_now c ≡ n
      → GoesTo plan s tree t h (turned_to t id k (record (k.participant) { retired = with_retired whose nodes k.participant.retired }) (slot_word s (slot_of c)) m)
  retires_them whose c nodes n m inside may may_now too left is =
      retires_now plan s tree t id k here there h size reached (slot_of c) n m (with_retired whose nodes k.participant.retired) inside is too.generation may_now.used left
      (λ i was. (too.each i).1 (inl was)) (λ i is_so. elim ((too.each i).0 is_so) [ inl was ↦ inl was | inr new ↦ inr (may_now.dead i new) ])
      (retired_now whose c nodes may W keeps (λ d i has at own low lies used.
      subst (λ x. is_retired x i ≡ true) (sym (stands d at)) ((too.each i).1 (inr has))))
    where
      W : List ℕ
      W = set t.words (slot_word s (slot_of c)) m

      keeps : keeps_retired W
      keeps x out was = retired_by_then plan s tree t id k here there h size reached (slot_of c) m inside (λ full. may_now.used (ap (λ x. x % 8) (sym is) ∙ full))
          (λ some i is_so. (too.each i).1 (inl (subst (λ x. is_retired x i ≡ true) is is_so))) x was

      stands : (d : ℕ) → slot_of d ≡ slot_of c → get_or W (slot_word s (slot_of d)) 0 ≡ m
      stands d at = ap (λ y. get_or W (slot_word s y) 0) at ∙ get_or-set_same t.words (slot_word s (slot_of c)) m 0 (omega arith)

  -- or it sets the slot free, as they are the last
  pub retires_last : (whose : Whose) (c : ℕ) (nodes : CardNodes) (n epoch : ℕ) → slot_of c ≤ s.last → MayRetire (shown k.tree) whose c nodes → n % 8 ≢ 0
      → k.participant.retire_epoch ≡ Some (record { card = card_by (slot_of c) n; epoch = epoch }) → word_now c ≡ n
      → GoesTo plan s tree t h (turned_to t id k (record (k.participant) { retired = with_retired whose nodes k.participant.retired }) (slot_word s (slot_of c)) (free_word epoch))
  retires_last whose c nodes n epoch inside may used retire_epoch is =
      frees_now plan s tree t id k here there h size reached (slot_of c) epoch (with_retired whose nodes k.participant.retired) inside n is used retire_epoch
      (retired_now whose c nodes may W keeps (λ d i has at own low lies used. absurd (used (ap (λ n. n % 8) (stands d at) ∙ omega arith))))
    where
      W : List ℕ
      W = set t.words (slot_word s (slot_of c)) (free_word epoch)

      keeps : keeps_retired W
      keeps x out was = retired_by_then plan s tree t id k here there h size reached (slot_of c) (free_word epoch) inside (λ full. used (ap (λ x. x % 8) (sym is) ∙ full))
          (λ some. absurd (some (omega arith))) x was

      stands : (d : ℕ) → slot_of d ≡ slot_of c → get_or W (slot_word s (slot_of d)) 0 ≡ free_word epoch
      stands d at = ap (λ y. get_or W (slot_word s y) 0) at ∙ get_or-set_same t.words (slot_word s (slot_of c)) (free_word epoch) 0 (omega arith)

-- these steps are steps of the table
module _ (plan : TablePlan) (s : Slots) (placed : plan.slots ≡ Some s) (whose : Whose) (c : ℕ) (nodes : CardNodes) (inside : slot_of c ≤ s.last) (k : Known)
    (may : MayRetire (shown k.tree) whose c nodes) where
  abbrev at : ℕ
  at = slot_word s (slot_of c)

  -- a pass reads the word of the card's slot
  pub reads_to_retire : MayGoOn plan k (slot_word s (slot_of c)) (λ n. n) (λ n p. (p ≡ after_retiring_read whose c nodes n k.participant)
      × (is_done whose c nodes n ≡ false → MayRetireIn k.tree whose c nodes n))
  reads_to_retire =
      goes_on_there plan s placed k at (λ n. n) (λ n p. (p ≡ after_retiring_read whose c nodes n k.participant) × (is_done whose c nodes n ≡ false → MayRetireIn k.tree whose c nodes n))
      (λ t. after_retiring_read whose c nodes (get_or t.words at 0) k.participant)
      (λ tree t id reached here there h size. (
        retires_read plan s tree t id k here there h size reached whose c nodes inside may,
        (refl, may_retire_in plan s tree t id k here there h size reached whose c nodes placed inside may),
      ))

  -- what the pass knows after an exchange
  abbrev Tells : ℕ → ℕ → Participant → Type 0
  Tells n found p = (p ≡ after_retiring (found == n) whose c nodes found k.participant) × MayRetireNext k.tree whose c nodes n found

  exchanges : (n m : ℕ) → k.participant.read ≡ Some (record { slot = slot_of c; word = n }) → MayRetireIn k.tree whose c nodes n
      → ((tree : TableState) (t : WholeState) (id : ℕ) → IsReached plan tree → get_elem? t.views id ≡ some k → get_elem? tree.views id ≡ some k.tree → (h : HasEpochs plan s tree t) → length t.words ≡ slots_size s
      → get_or t.words at 0 ≡ n → GoesTo plan s tree t h (turned_to t id k (record (k.participant) { retired = with_retired whose nodes k.participant.retired }) at m))
      → MayGoOn plan k at (λ x. either (x == n) m x) (Tells n)
  exchanges n m read may_now wins =
      goes_on_there plan s placed k at (λ x. either (x == n) m x) (Tells n) (λ t. after_retiring (get_or t.words at 0 == n) whose c nodes (get_or t.words at 0) k.participant)
      (λ tree t id reached here there h size. (
        by tree t id reached here there h size (cases_eq (get_or t.words at 0) n),
        (refl, retires_next plan s tree t id k here there h size reached whose c nodes placed inside may n read may_now),
      ))
    where
      after : (tree : TableState) (t : WholeState) → HasEpochs plan s tree t → (id : ℕ) → Bool → Type 0
      after tree t h id b = GoesTo plan s tree t h (turned_to t id k (after_retiring b whose c nodes (get_or t.words at 0) k.participant) at (either b m (get_or t.words at 0)))

      by : (tree : TableState) (t : WholeState) (id : ℕ) → IsReached plan tree → get_elem? t.views id ≡ some k → get_elem? tree.views id ≡ some k.tree → (h : HasEpochs plan s tree t) → length t.words ≡ slots_size s
          → (get_or t.words at 0 ≡ n) ⊎ (get_or t.words at 0 ≢ n) → after tree t h id (get_or t.words at 0 == n)
      by tree t id reached here there h size (inl is) = subst (after tree t h id) (sym (eq-eqb (get_or t.words at 0) n is)) (wins tree t id reached here there h size is)
      by tree t id reached here there h size (inr other) =
          subst (after tree t h id) (sym (ne_eqb (get_or t.words at 0) n other)) (retires_read plan s tree t id k here there h size reached whose c nodes inside may)

  -- it exchanges that word for one by which the nodes are retired too
  pub retires_nodes : (n m : ℕ) → k.participant.read ≡ Some (record { slot = slot_of c; word = n }) → MayRetireIn k.tree whose c nodes n → RetiresToo nodes n m → m % 8 ≢ 0
      → MayGoOn plan k at (λ x. either (x == n) m x) (Tells n)
  retires_nodes n m read may_now too left =
      exchanges n m read may_now (λ tree t id reached here there h size is. retires_them plan s tree t id k here there h size reached whose c nodes n m inside may may_now too left is)

  -- or that sets the slot free
  pub frees_slot : (n epoch : ℕ) → k.participant.read ≡ Some (record { slot = slot_of c; word = n }) → MayRetireIn k.tree whose c nodes n
      → k.participant.retire_epoch ≡ Some (record { card = card_by (slot_of c) n; epoch = epoch })
      → MayGoOn plan k at (λ x. either (x == n) (free_word epoch) x) (Tells n)
  frees_slot n epoch read may_now retire_epoch =
      exchanges n (free_word epoch) read may_now (λ tree t id reached here there h size is. retires_last plan s tree t id k here there h size reached whose c nodes n epoch inside may may_now.used retire_epoch is)

-- all three nodes of the card in a slot are retired by the word that a pass has read there, or known to be dead
pub may_get_retire_epoch : (k : Known) (whose : Whose) (c : ℕ) (nodes : CardNodes) (n slot : ℕ) → slot ≡ slot_of c → k.participant.read ≡ Some (record { slot = slot_of c; word = n })
    → MayRetireIn k.tree whose c nodes n → ((i : ℕ) → i < 3 → (is_retired n i ≡ true) ⊎ (has_node nodes i ≡ true)) → MayGetRetireEpoch k (card_by slot n)
may_get_retire_epoch k whose c nodes n slot at read may_now last = subst (λ y. MayGetRetireEpoch k (card_by y n)) (sym at) (inl record {
  read = record { slot = slot_of c; word = n };
  has = read;
  used = may_now.used;
  lies = refl;
  each = λ i few. by i (last i few);
})
  where
    by : (i : ℕ) → (is_retired n i ≡ true) ⊎ (has_node nodes i ≡ true) → (is_retired n i ≡ true) ⊎ KnowsDeadNode k.tree (4 * card_by (slot_of c) n + i)
    by i (inl was) = inl was
    by i (inr new) = inr (may_now.dead i new)

-- what a pass has retired for its card in hand is retired in the words of slots
pub retired_nodes_stay_retired : RetiredNodesStayRetired
retired_nodes_stay_retired plan s t placed h seat c k here slot hand = record {
  parent = λ x told is. so x (subst OutThere (told_is plan h.tree has.ages.now.machine seat k.tree there c field.P x told) (it.parent is));
  leaf = λ x told is. so x (subst OutThere (told_is plan h.tree has.ages.now.machine seat k.tree there c field.L x told) (it.leaf is));
  own = λ i is. so (4 * c + i) (it.own i is);
}
  where
    has : HasEpochs plan s h.tree t
    has = (subst (λ o. EpochsAre plan o h.tree t) placed h.epochs).0

    there : get_elem? h.tree.views seat ≡ some k.tree
    there = ap (λ l. get_elem? l seat) (sym h.views) ∙ tree_at t.views seat k here

    OutThere : ℕ → Type 0
    OutThere x = IsOut plan h.tree has.ages.now.machine has.ages.now.uses x × IsRetiredThere s t.words has.lie x

    it : AreRetired has.ages.now.machine.words c k.participant.retired OutThere
    it = has.retired seat c k here slot hand

    so : (x : ℕ) → OutThere x → IsRetiredInSlot s t x
    so x is low used lies = is.1 low (has.lies (slot_of (card x)) low used ∙ lies) used
