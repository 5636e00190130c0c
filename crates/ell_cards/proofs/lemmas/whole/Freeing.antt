use Rattle.std.proofs.Common.{◌≡◌, ◌≢◌, ℕ, ◌+◌, ◌*◌, ◌%◌, ◌<◌, ◌≤◌, true, false, Some, List, length, get_or, set, inl, inr, ◌⊎◌, refl, sym, ap, ◌∙◌, subst, arith, get_or-set_same, get_or-set_other}
use Rattle.std.proofs.lemmas.Bool.{cases_eq, false≢true}
use Rattle.std.proofs.lemmas.Option.{same_Some}
use mathlib.Core.Option.{some}
use lib.ListN.{get_elem?}
use Rattle.ell_layout.specs.Words.{put}
use Rattle.ell_layout.proofs.lemmas.Writes.{put_same, put_other}
use Rattle.ell_word.specs.Node.{card}
use Rattle.ell_cards.specs.declared.view.Known.{Known}
use Rattle.ell_cards.specs.declared.view.Participant.{Participant}
use Rattle.ell_cards.specs.declared.view.Retired.{Retired}
use Rattle.ell_cards.specs.declared.view.SlotRead.{SlotRead}
use Rattle.ell_runs.specs.declared.view.Slots.{Slots}
use Rattle.ell_cards.specs.Ages.{IsOut, is_dead, is_discarded, RetiresThere, IsRetiredThere, AreRetired, HasEpochs, KnowsDeadNode, KnowsDeadCard, MayGetRetireEpoch}
use Rattle.ell_runs.specs.Discarded.{IsDiscarded}
use Rattle.ell_cards.specs.Apart.{cut_node}
use Rattle.ell_runs.specs.Dead.{HasTakenOut}
use Rattle.ell_runs.specs.Plans.{TablePlan}
use Rattle.ell_cards.specs.Epochs.{WholeState, epoch_word, slot_word, slots_size, last_epoch, LieInSlots, pending_by, after_read, after_retire_epoch, EpochsAreSound}
use Rattle.ell_cards.specs.declared.view.Participant.{Participant}
use Rattle.ell_cards.specs.Shown.{shown}
use Rattle.ell_cards.specs.SlotWords.{card_by, slot_of, generation_of, generation_in, free_word, is_retired}
use Rattle.ell_runs.specs.Starts.{IsReached}
use Rattle.ell_runs.specs.States.{TableState}
use Rattle.ell_cards.specs.Stepping.{MayGoOn}
use Rattle.ell_runs.proofs.lemmas.runs.Alive.{known_dead_is_dead}
use Rattle.ell_runs.proofs.lemmas.runs.Named.{passes_name_met}
use Rattle.ell_cards.proofs.lemmas.shown.ShownDead.{place_whole, taken_out_whole}
use Rattle.ell_cards.proofs.lemmas.refinement.Apart.{met_lies}
use Rattle.ell_cards.proofs.lemmas.whole.Ages.{ages_of_participant, retired_at, retired_same}
use Rattle.ell_cards.proofs.lemmas.whole.Apart.{ready_there}
use Rattle.ell_cards.specs.Refinement.{HasWon}
use Rattle.ell_cards.proofs.lemmas.refinement.KnownWon.{known_dead_won}
use Rattle.ell_cards.proofs.lemmas.refinement.Epochs.{refinement_of_participant}
use Rattle.ell_cards.proofs.lemmas.whole.Leaks.{holds_so, leaks_same, leaks_turned}
use Rattle.ell_cards.proofs.lemmas.whole.Going.{GoesTo, turned_to, behind, same_retired, same_again, goes_on_there}
use Rattle.ell_cards.proofs.lemmas.whole.Retired.{retired_are, retired_of_participant, retired_so}
use Rattle.ell_cards.proofs.lemmas.whole.Steps.{word_again}
use Rattle.ell_cards.proofs.lemmas.whole.Seats.{participant_was, lie_same}
use Rattle.ell_cards.proofs.lemmas.whole.Slots.{slot_read, card_with_retire_epoch, slot_retired, slot_freed, lie_retired, lie_freed}
use Rattle.ell_cards.proofs.lemmas.words.RetiredBits.{few_retired}
use Rattle.ell_cards.proofs.lemmas.words.Slotted.{slot_inside}

-- a card lies in its slot by each word of its generation
pub lies_by : (c slot n : ℕ) → slot ≡ slot_of c → generation_in n ≡ generation_of c → card_by slot n ≡ c
lies_by c slot n at generation = omega arith

-- the steps of a pass on the words of slots, as those of a whole table
module _ (plan : TablePlan) (s : Slots) (tree : TableState) (t : WholeState) (id : ℕ) (k : Known) (here : get_elem? t.views id ≡ some k)
    (there : get_elem? tree.views id ≡ some k.tree) (h : HasEpochs plan s tree t) (size : length t.words ≡ slots_size s) (reached : IsReached plan tree) where
  abbrev OutNow : ℕ → Type 0
  OutNow x = IsOut plan tree h.ages.now.machine h.ages.now.uses x

  abbrev OutThere : List ℕ → ℕ → Type 0
  OutThere words x = OutNow x × IsRetiredThere s words h.lie x

  -- of what the pass has retired for its card, this is so
  abbrev pub HasRetired : List ℕ → Retired → Type 0
  HasRetired words retired = (c : ℕ) → k.participant.slot ≡ Some c → k.tree.worker.card ≡ Some c → AreRetired h.ages.now.machine.words c retired (OutThere words)

  -- what the pass knows to be dead is out
  pub dead_by : (x : ℕ) → KnowsDeadNode k.tree x → OutNow x
  dead_by x knows = is_dead (known_dead_is_dead plan h.flat tree id k.tree there knows.0 x knows.1 h.ages.now.machine h.ages.now.uses.outs)

  -- a card of which the pass knows a node dead has won its flag
  known_won : (c i : ℕ) → i < 3 → KnowsDeadNode k.tree (4 * c + i) → HasWon h.ages.now.machine.stages c
  known_won c i few knows =
      subst (HasWon h.ages.now.machine.stages) (omega (arith, few)) (known_dead_won plan tree id k.tree there h.ages.now.machine knows.0 (4 * c + i) knows.1)

  -- a node's low bits say in which slot its card lies
  pub low_slot : (y x : ℕ) → cut_node y ≡ x → slot_of (card y) ≡ slot_of (card x)
  low_slot y x is = omega arith

  -- a node that the card in hand has taken out, of which the pass knows the low bits, is one of the card that lies in its slot
  pub taken_lies : plan.slots ≡ Some s → (slot : ℕ) → slot ≤ s.last → get_or t.words (slot_word s slot) 0 % 8 ≢ 0 → (x : ℕ) → slot_of (card x) ≡ slot
      → HasTakenOut (shown k.tree) x → KnowsDeadNode k.tree (4 * card_by slot (get_or t.words (slot_word s slot) 0) + x % 4)
  taken_lies placed slot inside used x at taken =
      let was = taken_out_whole k.tree (passes_name_met plan tree reached id k.tree there).0 x taken in
      let lies = met_lies plan s tree t h.ages.now.machine h.lie h.dead h.was_dead h.refines id k here there (ready_there plan s tree t h id k here) was.whole was.met in
      let one : slot_of (card was.whole) ≡ slot = low_slot was.whole x was.is ∙ at in
      let found : card was.whole ≡ card_by slot (get_or t.words (slot_word s slot) 0) = sym lies.1 ∙ (ap h.lie one ∙ h.lies slot inside used) in
      let place = place_whole was.whole x was.is in
      subst (KnowsDeadNode k.tree) (omega (arith, found, place)) (was.taker, inl was.knows)

  -- what is retired is retired where the words of slots are the same
  same_slots : (words : List ℕ) → ((slot : ℕ) → get_or words (slot_word s slot) 0 ≡ get_or t.words (slot_word s slot) 0) → (x : ℕ) → IsRetiredThere s t.words h.lie x → IsRetiredThere s words h.lie x
  same_slots words same x is = retired_same plan s t.words words h.lie (λ slot low. same slot) x is

  retired_then : (words : List ℕ) → ((x : ℕ) → OutNow x → IsRetiredThere s t.words h.lie x → IsRetiredThere s words h.lie x) → (retired : Retired) → HasRetired t.words retired → HasRetired words retired
  retired_then words keeps retired mine c slot hand =
      retired_are h.ages.now.machine.words h.ages.now.machine.words c retired (OutThere t.words) (OutThere words) refl refl (λ x is. (is.0, keeps x is.0 is.1)) (mine c slot hand)

  -- it reads the word of a slot, and may have retired more
  pub reads_now : (slot : ℕ) → slot ≤ s.last → (retired : Retired) → HasRetired t.words retired
      → GoesTo plan s tree t h (turned_to t id k (record (after_read slot (get_or t.words (slot_word s slot) 0) k.participant) { retired = retired }) (slot_word s slot) (get_or t.words (slot_word s slot) 0))
  reads_now slot inside retired mine =
      let n = get_or t.words (slot_word s slot) 0 in record {
        epochs = record {
          lie = h.lie;
          lies = lie_same s h.lie t.words (set t.words (slot_word s slot) n) (λ other low. same_again plan s tree t id k here h size (slot_word s slot) (omega arith) other) h.lies;
          dead = h.dead;
          began = h.began;
          was_dead = h.was_dead;
          epochs = slot_read s t id k here h.lie h.dead h.began h.was_dead h.epochs size slot inside retired;
          ages = ages_of_participant plan s tree t id k here (record k { participant = record (after_read slot n k.participant) { retired = retired } }) refl (set t.words (slot_word s slot) n) h.lie h.lie h.dead h.dead h.was_dead h.was_dead h.ages
              h.ages.now.each h.ages.still (λ q a at an. h.ages.since id q a k here at an) (λ j q a u other at placed an. refl)
              (same_retired plan s tree t id k here h (set t.words (slot_word s slot) n) (same_again plan s tree t id k here h size (slot_word s slot) (omega arith)))
              (λ x out is. same_slots (set t.words (slot_word s slot) n) same x is)
              (λ r has used i is. subst (λ (x : SlotRead). x.word % 8 ≢ 0 → is_retired x.word i ≡ true → OutThere (set t.words (slot_word s slot) n) (4 * card_by x.slot x.word + i)) (same_Some _ r has) (reads i) used is)
              (λ c has. h.ages.lost id c k here has);
          refines = refinement_of_participant s tree t h.ages.now.machine.stages h.lie h.dead h.dead h.was_dead h.was_dead h.refines id k here k.sight (record (after_read slot n k.participant) { retired = retired }) refl (set t.words (slot_word s slot) n)
              (λ j low. word_again t.words (slot_word s slot) (omega arith) j)
              (λ c lives. lives) (λ q a at an. inl (at, an, λ c lives. lives)) (λ seat q a u other at placed an c lives. lives) t.homes;
          flat = h.flat;
          retired = retired_of_participant plan s tree h.ages.now.machine h.ages.now.uses t id k here k.sight (record (after_read slot n k.participant) { retired = retired }) (set t.words (slot_word s slot) n) h.lie h.lie
              (λ x out is. same_slots (set t.words (slot_word s slot) n) same x is)
              (retired_then (set t.words (slot_word s slot) n) (λ x out is. same_slots (set t.words (slot_word s slot) n) same x is) retired mine) h.retired;
        };
        leaks = λ was. leaks_same s t tree.views h.ages.now.machine.words h.ages.now.machine.stages h.lie was id k here (record (after_read slot n k.participant) { retired = retired }) (set t.words (slot_word s slot) n)
            (λ other low used. holds_so k (record (after_read slot n k.participant) { retired = retired }) refl refl (h.lie other)) same;
      }
    where
      now : ℕ
      now = get_or t.words (slot_word s slot) 0

      same : (other : ℕ) → get_or (set t.words (slot_word s slot) now) (slot_word s other) 0 ≡ get_or t.words (slot_word s other) 0
      same = same_again plan s tree t id k here h size (slot_word s slot) (omega arith)

      -- what is retired by the word is retired there
      is_retired_now : (i : ℕ) → is_retired now i ≡ true → RetiresThere s t.words h.lie (h.lie slot) i
      is_retired_now i is low lies used = subst (λ x. is_retired (get_or t.words (slot_word s x) 0) i ≡ true) (sym (h.refines.own slot inside)) is

      reads : (i : ℕ) → now % 8 ≢ 0 → is_retired now i ≡ true → OutThere (set t.words (slot_word s slot) now) (4 * card_by slot now + i)
      reads i used is = subst (λ c. OutThere (set t.words (slot_word s slot) now) (4 * c + i)) (h.lies slot inside used) (
        h.ages.retired_out slot i inside is,
        same_slots (set t.words (slot_word s slot) now) same (4 * h.lie slot + i) (retired_at plan s t.words h.lie (h.lie slot) i (few_retired now i is) (is_retired_now i is)),
      )

  -- it reads the epoch for a card whose nodes it knows dead, or which it discarded
  pub gets_retire_epoch_now : (c : ℕ) → MayGetRetireEpoch k c
      → GoesTo plan s tree t h (turned_to t id k (after_retire_epoch c (get_or t.words (epoch_word s) 0) k.participant) (epoch_word s) (get_or t.words (epoch_word s) 0))
  gets_retire_epoch_now c may =
      let n = get_or t.words (epoch_word s) 0 in record {
        epochs = record {
          lie = h.lie;
          lies = lie_same s h.lie t.words (set t.words (epoch_word s) n) (λ other low. same_again plan s tree t id k here h size (epoch_word s) (omega arith) other) h.lies;
          dead = put h.dead c true;
          began = h.began;
          was_dead = h.was_dead;
          epochs = card_with_retire_epoch s t id k here h.lie h.dead h.began h.was_dead h.epochs size c;
          ages = ages_of_participant plan s tree t id k here (record k { participant = after_retire_epoch c n k.participant }) refl (set t.words (epoch_word s) n) h.lie h.lie h.dead (put h.dead c true) h.was_dead h.was_dead h.ages
              each (λ q d was. still d (h.ages.still q d was)) (λ q a at an. h.ages.since id q a k here at an) (λ j q a u other at placed an. refl)
              (same_retired plan s tree t id k here h (set t.words (epoch_word s) n) (same_again plan s tree t id k here h size (epoch_word s) (omega arith)))
              (λ x out is. same_slots (set t.words (epoch_word s) n) same x is)
              (λ r has used i is. (let old = h.ages.read id k r here has used i is in (old.0, same_slots (set t.words (epoch_word s) n) same _ old.1)))
              (λ d has. h.ages.lost id d k here has);
          refines = refinement_of_participant s tree t h.ages.now.machine.stages h.lie h.dead (put h.dead c true) h.was_dead h.was_dead h.refines id k here k.sight (after_retire_epoch c n k.participant) refl (set t.words (epoch_word s) n)
              (λ j low. word_again t.words (epoch_word s) (omega arith) j)
              less (λ q a at an. inl (at, an, λ d lives. lives)) (λ seat q a u other at placed an d lives. lives) t.homes;
          flat = h.flat;
          retired = retired_so plan s tree h.ages.now.machine h.ages.now.uses t id k here k.sight (after_retire_epoch c n k.participant) refl refl (set t.words (epoch_word s) n) h.lie h.lie
              (λ x out is. same_slots (set t.words (epoch_word s) n) same x is) h.retired;
        };
        leaks = λ was. leaks_same s t tree.views h.ages.now.machine.words h.ages.now.machine.stages h.lie was id k here (after_retire_epoch c n k.participant) (set t.words (epoch_word s) n)
            (λ other low used. holds_so k (after_retire_epoch c n k.participant) refl refl (h.lie other)) same;
      }
    where
      same : (other : ℕ) → get_or (set t.words (epoch_word s) (get_or t.words (epoch_word s) 0)) (slot_word s other) 0 ≡ get_or t.words (slot_word s other) 0
      same = same_again plan s tree t id k here h size (epoch_word s) (omega arith)

      less : (d : ℕ) → put h.dead c true d ≡ false → h.dead d ≡ false
      less d lives = elim (cases_eq d c) [
        | inl e ↦ absurd (false≢true (sym lives ∙ (ap (put h.dead c true) e ∙ put_same h.dead c true)))
        | inr n ↦ sym (put_other h.dead c true d n) ∙ lives
      ]

      known : KnowsDeadCard k c → (i : ℕ) → i < 3 → OutNow (4 * c + i)
      known knows i low = elim (knows.each i low) [
        | inl is_so ↦ subst (λ d. OutNow (4 * d + i)) knows.lies (h.ages.read id k knows.read here knows.has knows.used i is_so).0
        | inr node ↦ dead_by (4 * c + i) node
      ]

      mine : (i : ℕ) → i < 3 → OutNow (4 * c + i)
      mine i low = elim may [
        | inl knows ↦ known knows i low
        | inr lost ↦ is_discarded (subst (IsDiscarded h.ages.now.machine.stages tree.views) (omega arith) (h.ages.lost id c k here lost))
      ]

      each : (d i : ℕ) → i < 3 → put h.dead c true d ≡ true → OutNow (4 * d + i)
      each d i low is = elim (cases_eq d c) [
        | inl e ↦ subst (λ x. OutNow (4 * x + i)) (sym e) (mine i low)
        | inr n ↦ h.ages.now.each d i low (sym (put_other h.dead c true d n) ∙ is)
      ]

      still : (d : ℕ) → h.dead d ≡ true → put h.dead c true d ≡ true
      still d is = elim (cases_eq d c) [
        | inl e ↦ ap (put h.dead c true) e ∙ put_same h.dead c true
        | inr n ↦ put_other h.dead c true d n ∙ is
      ]

  -- what is retired is retired where the word of a slot becomes another one, by which it is so too, or which sets the
  -- slot free
  pub retired_by_then : (slot n : ℕ) → slot ≤ s.last → get_or t.words (slot_word s slot) 0 % 8 ≢ 0 → (n % 8 ≢ 0 → (i : ℕ) → is_retired (get_or t.words (slot_word s slot) 0) i ≡ true → is_retired n i ≡ true)
      → (x : ℕ) → IsRetiredThere s t.words h.lie x → IsRetiredThere s (set t.words (slot_word s slot) n) h.lie x
  retired_by_then slot n inside was keeps x is low lies used = elim (cases_eq (slot_of (card x)) slot) [
    | inl e ↦
        let here : get_or (set t.words (slot_word s slot) n) (slot_word s (slot_of (card x))) 0 ≡ n =
        ap (λ y. get_or (set t.words (slot_word s slot) n) (slot_word s y) 0) e ∙ get_or-set_same t.words (slot_word s slot) n 0 (omega arith) in
        let there : get_or t.words (slot_word s (slot_of (card x))) 0 ≡ get_or t.words (slot_word s slot) 0 = ap (λ y. get_or t.words (slot_word s y) 0) e in
        let old : is_retired (get_or t.words (slot_word s slot) 0) (x % 4) ≡ true =
        subst (λ m. is_retired m (x % 4) ≡ true) there (is low lies (λ full. was (ap (λ m. m % 8) (sym there) ∙ full))) in
        subst (λ m. is_retired m (x % 4) ≡ true) (sym here) (keeps (λ full. used (ap (λ m. m % 8) here ∙ full)) (x % 4) old)
    | inr apart ↦
        let stays = get_or-set_other t.words (slot_word s slot) (slot_word s (slot_of (card x))) n 0 (λ e. apart (omega arith)) in
        subst (λ m. is_retired m (x % 4) ≡ true) (sym stays) (is low lies (λ full. used (ap (λ m. m % 8) stays ∙ full)))
  ]

  -- A slot's word becomes another one, by which the same cards lie in slots, and what is retired by it is dead. By it
  -- all is retired that was so by the other one, or it sets the slot free.
  turns_now : (slot n : ℕ) (retired : Retired) → slot ≤ s.last → get_or t.words (slot_word s slot) 0 % 8 ≢ 0 → (n % 8 ≢ 0 → (i : ℕ) → is_retired (get_or t.words (slot_word s slot) 0) i ≡ true → is_retired n i ≡ true)
      → HasRetired (set t.words (slot_word s slot) n) retired → LieInSlots s (set t.words (slot_word s slot) n) h.lie
      → EpochsAreSound s (turned_to t id k (record (k.participant) { retired = retired }) (slot_word s slot) n) h.lie h.dead h.began h.was_dead
      → ((i : ℕ) → is_retired n i ≡ true → OutNow (4 * h.lie slot + i))
      → (n % 8 ≢ 0 → (i : ℕ) → is_retired n i ≡ true → (is_retired (get_or t.words (slot_word s slot) 0) i ≡ true) ⊎ HasWon h.ages.now.machine.stages (h.lie slot))
      → GoesTo plan s tree t h (turned_to t id k (record (k.participant) { retired = retired }) (slot_word s slot) n)
  turns_now slot n retired inside was keeps mine lies sound notes won = record {
    epochs = record {
      lie = h.lie;
      lies = lies;
      dead = h.dead;
      began = h.began;
      was_dead = h.was_dead;
      epochs = sound;
      ages = ages_of_participant plan s tree t id k here (record k { participant = record (k.participant) { retired = retired } }) refl (set t.words (slot_word s slot) n) h.lie h.lie h.dead h.dead h.was_dead h.was_dead h.ages
          h.ages.now.each h.ages.still (λ q a at an. h.ages.since id q a k here at an) (λ j q a u other at placed an. refl)
          retired_out
          (λ x out is. retired_by_then slot n inside was keeps x is)
          (λ r has used i is. (let old = h.ages.read id k r here has used i is in (old.0, retired_by_then slot n inside was keeps _ old.1)))
          (λ c has. h.ages.lost id c k here has);
      refines = refinement_of_participant s tree t h.ages.now.machine.stages h.lie h.dead h.dead h.was_dead h.was_dead h.refines id k here k.sight (record (k.participant) { retired = retired }) refl (set t.words (slot_word s slot) n)
          (behind plan s tree t id k here h (slot_word s slot) n (omega arith)) (λ c lives. lives)
          (λ q a at an. inl (at, an, λ c lives. lives)) (λ seat q a u other at placed an c lives. lives) t.homes;
      flat = h.flat;
      retired = retired_of_participant plan s tree h.ages.now.machine h.ages.now.uses t id k here k.sight (record (k.participant) { retired = retired }) (set t.words (slot_word s slot) n) h.lie h.lie
          (λ x out is. retired_by_then slot n inside was keeps x is) mine h.retired;
    };
    leaks = λ leaks. leaks_turned s t tree.views h.ages.now.machine.words h.ages.now.machine.stages h.lie leaks id k here (record (k.participant) { retired = retired }) slot n inside (omega arith)
        (λ other low used. holds_so k (record (k.participant) { retired = retired }) refl refl (h.lie other)) (λ some. was) won keeps;
  }
    where
      retired_out : (other i : ℕ) → other ≤ s.last → is_retired (get_or (set t.words (slot_word s slot) n) (slot_word s other) 0) i ≡ true → OutNow (4 * h.lie other + i)
      retired_out other i low is = elim (cases_eq other slot) [
        | inl e ↦
            let here : get_or (set t.words (slot_word s slot) n) (slot_word s other) 0 ≡ n =
            ap (λ x. get_or (set t.words (slot_word s slot) n) (slot_word s x) 0) e ∙ get_or-set_same t.words (slot_word s slot) n 0 (omega arith) in
            subst (λ x. OutNow (4 * h.lie x + i)) (sym e) (notes i (subst (λ m. is_retired m i ≡ true) here is))
        | inr apart ↦
            let stays = get_or-set_other t.words (slot_word s slot) (slot_word s other) n 0 (λ e. apart (omega arith)) in
            h.ages.retired_out other i low (subst (λ m. is_retired m i ≡ true) stays is)
      ]

  -- more nodes of the card that lies in a slot are retired
  pub retires_now : (slot n m : ℕ) (retired : Retired) → slot ≤ s.last → get_or t.words (slot_word s slot) 0 ≡ n → generation_in m ≡ generation_in n → n % 8 ≢ 0 → m % 8 ≢ 0
      → ((i : ℕ) → is_retired n i ≡ true → is_retired m i ≡ true)
      → ((i : ℕ) → is_retired m i ≡ true → (is_retired n i ≡ true) ⊎ KnowsDeadNode k.tree (4 * card_by slot n + i))
      → HasRetired (set t.words (slot_word s slot) m) retired
      → GoesTo plan s tree t h (turned_to t id k (record (k.participant) { retired = retired }) (slot_word s slot) m)
  retires_now slot n m retired inside is generation some_bit some_bit' more knows mine =
      turns_now slot m retired inside used (λ some i was. more i (subst (λ x. is_retired x i ≡ true) is was)) mine (lie_retired s h.lie t.words h.lies slot (omega arith) m used (generation ∙ ap generation_in (sym is)))
      (slot_retired s t id k here h.lie h.dead h.began h.was_dead h.epochs size slot inside retired m used some_bit')
      (λ i is_so. elim (knows i is_so) [
        | inl was ↦ h.ages.retired_out slot i inside (subst (λ x. is_retired x i ≡ true) (sym is) was)
        | inr dead ↦ subst (λ c. OutNow (4 * c + i)) (sym lies_there) (dead_by (4 * card_by slot n + i) dead)
      ])
      (λ some i is_so. elim (knows i is_so) [
        | inl was ↦ inl (subst (λ x. is_retired x i ≡ true) (sym is) was)
        | inr dead ↦ inr (subst (HasWon h.ages.now.machine.stages) (sym lies_there) (known_won (card_by slot n) i (few_retired m i is_so) dead))
      ])
    where
      used : get_or t.words (slot_word s slot) 0 % 8 ≢ 0
      used e = some_bit (ap (λ x. x % 8) (sym is) ∙ e)

      lies_there : h.lie slot ≡ card_by slot n
      lies_there = h.lies slot inside used ∙ ap (card_by slot) is

  -- or the slot is set free, if all nodes of the card are dead
  pub frees_now : (slot epoch : ℕ) (retired : Retired) → slot ≤ s.last → (n : ℕ) → get_or t.words (slot_word s slot) 0 ≡ n → n % 8 ≢ 0
      → k.participant.retire_epoch ≡ Some (record { card = card_by slot n; epoch = epoch })
      → HasRetired (set t.words (slot_word s slot) (free_word epoch)) retired
      → GoesTo plan s tree t h (turned_to t id k (record (k.participant) { retired = retired }) (slot_word s slot) (free_word epoch))
  frees_now slot epoch retired inside n is some_bit has mine =
      turns_now slot (free_word epoch) retired inside (λ e. some_bit (ap (λ x. x % 8) (sym is) ∙ e)) (λ some. absurd (some (omega arith))) mine (lie_freed s h.lie t.words h.lies slot (omega arith) epoch)
      (slot_freed s t id k here h.lie h.dead h.began h.was_dead h.epochs size slot inside retired epoch (h.refines.own slot inside) retire_epoch)
      (λ i is_so. h.ages.now.each (h.lie slot) i (few_retired (free_word epoch) i is_so) dead)
      (λ some. absurd (some (omega arith)))
    where
      lies_there : h.lie slot ≡ card_by slot n
      lies_there = h.lies slot inside (λ e. some_bit (ap (λ x. x % 8) (sym is) ∙ e)) ∙ ap (card_by slot) is

      retire_epoch : k.participant.retire_epoch ≡ Some (record { card = h.lie slot; epoch = epoch })
      retire_epoch = has ∙ ap (λ c. Some (record { card = c; epoch = epoch })) (sym lies_there)

      dead : h.dead (h.lie slot) ≡ true
      dead = (h.epochs.sound.pending id (h.lie slot) epoch (ap (λ (p : Participant). pending_by p.retire_epoch) (participant_was t.views id k here k) ∙ ap pending_by retire_epoch)).gone

-- these steps are steps of the table
module _ (plan : TablePlan) (s : Slots) (placed : plan.slots ≡ Some s) (slot : ℕ) (inside : slot ≤ s.last) where
  -- a pass reads the word of a slot
  pub reads_slot : (k : Known) → MayGoOn plan k (slot_word s slot) (λ n. n) (λ n p. p ≡ after_read slot n k.participant)
  reads_slot k =
      goes_on_there plan s placed k (slot_word s slot) (λ n. n) (λ n p. p ≡ after_read slot n k.participant) (λ t. after_read slot (get_or t.words (slot_word s slot) 0) k.participant)
      (λ tree t id reached here there h size. (
        reads_now plan s tree t id k here there h size reached slot inside k.participant.retired (λ c at hand. h.retired id c k here at hand),
        refl,
      ))

  -- whatever slot a word is of
  pub reads_any : (k : Known) (word : ℕ) → word ≡ slot_word s slot
      → MayGoOn plan k word (λ n. n) (λ n p. (o : Slots) (r : ℕ) → plan.slots ≡ Some o → word ≡ slot_word o r → p ≡ after_read r n k.participant)
  reads_any k word is id t h homes here small =
      let may = subst (λ i. MayGoOn plan k i (λ n. n) (λ n p. p ≡ after_read slot n k.participant)) (sym is) (reads_slot k) in
      let x = may id t h homes here small in
      (x.0, x.1, x.2, x.3, (λ o r slots at. x.4.0 ∙ ap (λ y. after_read y (get_or t.words word 0) k.participant) (one o r slots at), x.4.1, x.4.2, x.4.3))
    where
      one : (o : Slots) (r : ℕ) → plan.slots ≡ Some o → word ≡ slot_word o r → slot ≡ r
      one o r slots at =
          let same : o ≡ s = same_Some o s (sym slots ∙ placed) in
          let word : slot_word o r ≡ slot_word s r = ap (λ x. slot_word x r) same in
          omega arith

-- a pass reads the epoch for a card whose nodes it knows dead, or which it discarded
pub gets_retire_epoch_of_card : (plan : TablePlan) (s : Slots) → plan.slots ≡ Some s → (k : Known) (c : ℕ) → MayGetRetireEpoch k c
    → MayGoOn plan k (epoch_word s) (λ n. n) (λ n p. (p ≡ after_retire_epoch c n k.participant) × (n ≤ last_epoch) × ((d : ℕ) → k.participant.slot ≡ Some d → slot_of d ≤ s.last))
gets_retire_epoch_of_card plan s placed k c may =
    goes_on_there plan s placed k (epoch_word s) (λ n. n) (λ n p. (p ≡ after_retire_epoch c n k.participant) × (n ≤ last_epoch) × ((d : ℕ) → k.participant.slot ≡ Some d → slot_of d ≤ s.last))
    (λ t. after_retire_epoch c (get_or t.words (epoch_word s) 0) k.participant)
    (λ tree t id reached here there h size. (
      gets_retire_epoch_now plan s tree t id k here there h size reached c may,
      (
        refl,
        h.epochs.low,
        λ d at. slot_inside s.last d (h.refines.slotted id d k here at),
      ),
    ))
