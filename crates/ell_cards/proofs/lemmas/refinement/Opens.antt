-- The memory of a table whose cards come back refines its tree as it opens.
use Rattle.std.proofs.Common.{◌≡◌, ◌≢◌, ◌+◌, ◌*◌, ◌-◌, ◌%◌, ◌^◌, ◌<◌, ◌≤◌, ℕ, zero, suc, if◌then◌else◌, nat_lt, Bool, true, false, Some, None, List, [], ◌∷◌, ◌++◌, replicate, length, get_or, inl, inr, refl, sym, ap, ◌∙◌, subst, arith, ltb-false}
use Rattle.std.proofs.lemmas.List.{length-append}
use Rattle.ell_word.specs.Node.{card, generation_size}
use mathlib.Core.Option.{some, some-injective, some-ne-none}
use lib.ListN.{get_elem?}
use Rattle.atomic_table.specs.Table.{opening}
use Rattle.ell_layout.specs.Layout.{address, table_size}
use Rattle.ell_layout.specs.declared.field.Field.{Field}
use Rattle.ell_layout.specs.declared.field.Field.TheVariants as field
use Rattle.ell_layout.specs.Start.{start_field, words_at_start}
use Rattle.ell_layout.specs.Words.{Words, words_of}
use Rattle.ell_layout.proofs.lemmas.Listed.{listed_next, address_in_table, said_in_list}
use Rattle.ell_core.proofs.lemmas.outcomes.Decide.{some_not_none}
use Rattle.ell_cards.specs.declared.view.Known.{Known}
use Rattle.ell_runs.specs.declared.view.Slots.{Slots}
use Rattle.ell_cards.specs.Ages.{AgesAreSound, HasEpochs}
use Rattle.ell_runs.specs.Changes.{first_of}
use Rattle.ell_runs.specs.Machines.{HasMachine}
use Rattle.ell_runs.specs.Plans.{TablePlan}
use Rattle.ell_cards.specs.Epochs.{WholeState, AreOpeningWords, participant_by, slot_word}
use Rattle.ell_runs.specs.Touching.{IsAtRest}
use Rattle.ell_cards.specs.Apart.{cut_node}
use Rattle.ell_cards.specs.Shown.{IsWord, cut_field, cut_word}
use Rattle.ell_runs.specs.Sights.{no_sight}
use Rattle.ell_cards.specs.SlotWords.{slot_of, card_by, free_word, has_slot_in, is_retired, taken_word}
use Rattle.ell_runs.specs.Starts.{MayStart, SlotsFit, IsReached}
use Rattle.ell_runs.specs.RunLaws.{StartIsKept}
use Rattle.ell_cards.specs.Leaks.{Kills, NothingLeaks}
use Rattle.ell_runs.specs.States.{TableState}
use Rattle.ell_cards.specs.Refinement.{LiesThere, HasWon, IsKept, won, stored, Refines}
use Rattle.ell_cards.specs.RefinementLaws.{RefinesByAges, OpeningsRefine}
use Rattle.ell_runs.proofs.lemmas.lifetimes.Openings.{start_next}
use Rattle.ell_runs.proofs.lemmas.runs.Reaching.{reached_first, starts_first}
use Rattle.ell_cards.proofs.lemmas.shown.CutWords.{cut_same}
use Rattle.ell_runs.proofs.lemmas.runs.Starting.{starts_are_kept}
use Rattle.ell_runs.proofs.lemmas.runs.Touching.{none_out}
use Rattle.ell_cards.proofs.lemmas.refinement.Winning.{ended_long, start_won}
use Rattle.ell_cards.proofs.lemmas.words.RetiredBits.{none_is_retired}
use Rattle.ell_cards.proofs.lemmas.whole.Opens.{zeros_many, with_zeros, words_same, lies_opened, out_opened, lies_as_given, lies_at_home, lies_or_free, first_ages, first_epochs}
use Rattle.ell_cards.proofs.lemmas.whole.Rests.{is_at_rest}
use Rattle.ell_cards.proofs.lemmas.words.Slotted.{has_slot_by}

-- as a table opens, no card says a grandparent or a parent
abbrev NoInfo : Field → ℕ → Type 0
NoInfo field.Gp n = n ≡ 0
NoInfo field.P n = n ≡ 0
NoInfo _ n = Unit {0}

-- a word that memory holds whole is what a field has there, if it is no node
held_whole : (f : Field) (m n : ℕ) → m < 2 ^ 64 → m ≡ n → NoInfo f n → m ≡ cut_field f n
held_whole field.Gp m n small same none = same ∙ (none ∙ sym (ap cut_node none))
held_whole field.P m n small same none = same ∙ (none ∙ sym (ap cut_node none))
held_whole _ m n small same none = sym (cut_same m small) ∙ ap cut_word same

no_field : (start : List (ℕ × ℕ)) (c : ℕ) → (start_field start c field.Gp ≡ 0) × (start_field start c field.P ≡ 0)
no_field start zero = (refl, refl)
no_field start (suc c) = by (nat_lt c (length start))
  where
    nothing : ℕ
    nothing = 0

    by : (b : Bool) → ((if b then nothing else 0) ≡ nothing) × ((if b then nothing else 0) ≡ nothing)
    by true = (refl, refl)
    by false = (refl, refl)

-- so it is of the words of a table as it opens
pub no_info : (flat : Bool) (start : List (ℕ × ℕ)) (words : List ℕ) → words_of words ≡ words_at_start flat start
    → (c : ℕ) (f : Field) → NoInfo f (get_or words (address c f) 0)
no_info flat start words are c field.Gp = by flat are
  where
    by : (flat : Bool) → words_of words ≡ words_at_start flat start → get_or words (address c field.Gp) 0 ≡ 0
    by true are = sym (said_in_list words c field.Gp) ∙ (ap (λ (w : Words). w.gp c) are ∙ (no_field start c).0)
    by false are = sym (said_in_list words c field.Gp) ∙ (ap (λ (w : Words). w.gp c) are ∙ (no_field start c).0)
no_info flat start words are c field.P = by flat are
  where
    by : (flat : Bool) → words_of words ≡ words_at_start flat start → get_or words (address c field.P) 0 ≡ 0
    by true are = sym (said_in_list words c field.P) ∙ (ap (λ (w : Words). w.p c) are ∙ (no_field start c).1)
    by false are = sym (said_in_list words c field.P) ∙ (ap (λ (w : Words). w.p c) are ∙ (no_field start c).1)
no_info flat start words are c _ = tt

pub alone_there : (first : Known) (P : Known → Type 0) → P first → (j : ℕ) (u : Known) → get_elem? (first ∷ []) j ≡ some u → P u
alone_there first P h zero u at = subst P (some-injective first u at) h
alone_there first P h (suc j) u at = absurd (some-ne-none u (sym at))

-- memory that has the tree's words in slots, whose words are 0, where each card that was claimed has a slot
module _ (plan : TablePlan) (s : Slots) (low : s.last < generation_size) (tree : TableState) (r : HasMachine plan tree) (words : List ℕ)
    (same : (i : ℕ) → i < table_size s.last → get_or words i 0 ≡ get_or tree.words i 0) (small : (i : ℕ) → i < table_size s.last → get_or words i 0 < 2 ^ 64)
    (given : ℕ) (few : get_or tree.words 0 0 ≡ given + 1) (room : given ≤ s.last) (none_said : (c : ℕ) (f : Field) → NoInfo f (get_or tree.words (address c f) 0))
    (first : Known) (none : first.tree.worker.card ≡ None) (unslotted : first.participant.slot ≡ None) (dead : ℕ → Bool) (was_dead : ℕ → ℕ → Bool) where
  alone : (P : ℕ → Known → Type 0) → P 0 first → (j : ℕ) (u : Known) → get_elem? (first ∷ []) j ≡ some u → P j u
  alone P h zero u at = subst (P 0) (some-injective first u at) h
  alone P h (suc j) u at = absurd (some-ne-none u (sym at))

  lies : (c : ℕ) → HasWon r.stages c → LiesThere s (lies_opened given) c
  lies c has =
      let below = (r.invariant.words.cards c).claimed.0 has.0 in
      let next = r.next in
      let inside : c ≤ given = omega arith in
      let slot : slot_of c ≡ c = omega arith in
      (omega arith, ap (lies_opened given) slot ∙ lies_as_given given c inside)

  fits : (c : ℕ) → HasWon r.stages c → has_slot_in s.last c ≡ true
  fits c has =
      let below = (r.invariant.words.cards c).claimed.0 has.0 in
      let next = r.next in
      has_slot_by s.last c (lies c has).0 (λ none. omega arith)

  -- a card of which memory keeps a word is one of the start keys
  kept_was_given : (c : ℕ) (f : Field) → IsKept r.stages (first ∷ []) c f → c ≤ given
  kept_was_given c f (won has says) = (let below = (r.invariant.words.cards c).claimed.0 has.0 in let next = r.next in omega arith)
  kept_was_given c f (stored seat u at waits has) = absurd (some_not_none waits.0 (alone (λ j x. x.tree.worker.card ≡ None) none seat u at))

  pub refines_as_it_opens : Refines s tree (opening words [] first) r.stages (lies_opened given) dead was_dead
  refines_as_it_opens = record {
    claim = same 0 (omega arith);
    flat = same 1 (omega arith);
    root = lies_as_given given 0 (omega arith);
    own = λ slot inside. lies_at_home given slot (omega arith);
    at = λ slot f inside kept.
        let there = (address_in_table s.last slot f inside).1 in
        subst (λ c. get_or words (address slot f) 0 ≡ cut_field f (get_or tree.words (address c f) 0))
        (sym (lies_as_given given slot (let low_card = kept_was_given (lies_opened given slot) f kept in let home = lies_at_home given slot (omega arith) in omega arith)))
        (
        held_whole f (get_or words (address slot f) 0) (get_or tree.words (address slot f) 0) (small (address slot f) there) (same (address slot f) there)
        (none_said slot f));
    alive = λ c has lives. lies c has;
    lives = λ seat q a c u at placed an has alive. lies c has;
    fits = fits;
    hand = λ seat c u at slot. absurd (some_not_none slot (alone (λ j x. x.participant.slot ≡ None) unslotted seat u at));
    slotted = λ seat c u at slot. absurd (some_not_none slot (alone (λ j x. x.participant.slot ≡ None) unslotted seat u at));
    past = λ seat c u at slot. absurd (some_not_none slot (alone (λ j x. x.participant.slot ≡ None) unslotted seat u at));
    stores = λ seat c f u at waits has. absurd (some_not_none waits.0 (alone (λ j x. x.tree.worker.card ≡ None) none seat u at));
  }

-- so it is as a table opens with these words of cards
module _ (plan : TablePlan) (s : Slots) (cards all : List ℕ) (may : MayStart plan) (fit : SlotsFit plan (Some s)) (size : length cards ≡ table_size s.last)
    (are : words_of cards ≡ words_at_start plan.flat plan.start) (small : (i : ℕ) → IsWord (get_or cards i 0)) (h : AreOpeningWords s (length plan.start) cards all) where
  abbrev long : ℕ
  long = table_size plan.last_card - length cards

  abbrev pub tree_opened : TableState
  tree_opened = record { words = (cards ++ replicate long 0); views = first_of plan ∷ [] }

  abbrev pub opened : WholeState
  opened = opening all [] (record { tree = first_of plan; participant = participant_by (Some s); sight = no_sight })

  pub long_opened : length (cards ++ replicate long 0) ≡ table_size plan.last_card
  long_opened =
      let last = fit.numbers in
      let most = fit.low in
      length-append cards (replicate long 0) ∙ (let many = zeros_many long in omega arith)

  pub words_opened : words_of (cards ++ replicate long 0) ≡ words_at_start plan.flat plan.start
  words_opened = words_same (cards ++ replicate long 0) cards (with_zeros cards long) ∙ are

  abbrev pub reached_opened : IsReached plan tree_opened
  reached_opened = reached_first plan (cards ++ replicate long 0) may long_opened words_opened

  pub rest : IsAtRest (first_of plan)
  rest = is_at_rest (first_of plan) refl refl refl refl refl

  pub starts : StartIsKept plan tree_opened
  starts = starts_are_kept plan tree_opened (starts_first plan (cards ++ replicate long 0) may long_opened words_opened)

  abbrev ages : AgesAreSound plan s tree_opened opened (lies_opened (length plan.start)) out_opened (λ q x. false)
  ages = first_ages plan s tree_opened starts (length plan.start) cards all size h rest fit.some may.limit

  -- the claim word is behind the cards of the start keys
  pub next : get_or (cards ++ replicate long 0) 0 0 ≡ length plan.start + 1
  next =
      sym (listed_next (cards ++ replicate long 0))
      ∙ (ap (λ (w : Words). w.next) (words_same (cards ++ replicate long 0) cards (with_zeros cards long) ∙ are) ∙ start_next plan.flat plan.start)

  abbrev pub epochs_opened : HasEpochs plan s tree_opened opened
  epochs_opened = record {
    lie = lies_opened (length plan.start);
    lies = λ slot inside. subst (λ n. n % 8 ≢ 0 → lies_opened (length plan.start) slot ≡ card_by slot n) (sym (h.slots slot inside))
        (lies_or_free (length plan.start) slot);
    dead = out_opened;
    began = λ q. 0;
    was_dead = λ q x. false;
    epochs = first_epochs s (length plan.start) cards all size h (first_of plan) rest fit.some;
    ages = ages;
    refines = refines_as_it_opens plan s (let most = fit.low in omega arith) tree_opened ages.now.machine all
        (λ i inside. h.cards_first i inside ∙ sym (with_zeros cards long i))
        (λ i inside. subst (λ n. n < 2 ^ 64) (sym (h.cards_first i inside)) (small i))
        (length plan.start) next fit.start
        (no_info plan.flat plan.start (cards ++ replicate long 0) (words_same (cards ++ replicate long 0) cards (with_zeros cards long) ∙ are))
        (record { tree = first_of plan; participant = participant_by (Some s); sight = no_sight }) refl refl out_opened (λ q x. false);
    flat = fit.flat;
    retired = λ seat c u at slot hand. absurd (some_not_none hand (alone_there (record { tree = first_of plan; participant = participant_by (Some s); sight = no_sight }) (λ (x : Known). x.tree.worker.card ≡ None) refl seat u at));
  }

  -- its slots in use have cards of start keys, and nothing is dead
  pub leaks_opened : NothingLeaks s opened tree_opened.views starts.kept.words starts.kept.stages (lies_opened (length plan.start))
  leaks_opened = record {
    used = λ slot low used. inl (given_won slot low used);
    bits = λ slot i low used is. absurd (none_is_retired 0 i (subst (λ n. is_retired n i ≡ true) (opens_with slot low used) is));
    owed = λ slot i c low used few is kills. absurd (none_killed c (4 * lies_opened (length plan.start) slot + i) kills);
  }
    where
      none_killed : (c x : ℕ) → Kills starts.kept.words starts.kept.stages c x → ⊥
      none_killed c x (inl takes) = none_out starts.kept.words starts.kept.stages starts.unwon c x takes
      none_killed c x (inr (on, never)) = let long = ended_long (starts.kept.stages (card x)) never.0 in let none = ap length (starts.unwon (card x)) in omega arith

      opens_with : (slot : ℕ) → slot ≤ s.last → get_or all (slot_word s slot) 0 % 8 ≢ 0 → get_or all (slot_word s slot) 0 ≡ taken_word 0
      opens_with slot low used = by (nat_lt (length plan.start) slot) (h.slots slot low)
        where
          by : (b : Bool) → get_or all (slot_word s slot) 0 ≡ (if b then free_word 0 else taken_word 0) → get_or all (slot_word s slot) 0 ≡ taken_word 0
          by true is = absurd (used (ap (λ n. n % 8) is))
          by false is = is

      is_given : (slot : ℕ) → slot ≤ s.last → get_or all (slot_word s slot) 0 % 8 ≢ 0 → slot ≤ length plan.start
      is_given slot low used = by (nat_lt (length plan.start) slot) refl (h.slots slot low)
        where
          by : (b : Bool) → nat_lt (length plan.start) slot ≡ b → get_or all (slot_word s slot) 0 ≡ (if b then free_word 0 else taken_word 0) → slot ≤ length plan.start
          by true e is = absurd (used (ap (λ n. n % 8) is))
          by false e is = ltb-false (length plan.start) slot e

      given_won : (slot : ℕ) → slot ≤ s.last → get_or all (slot_word s slot) 0 % 8 ≢ 0 → HasWon starts.kept.stages (lies_opened (length plan.start) slot)
      given_won slot low used =
          let few = is_given slot low used in
          let first = starts.kept.next in
          let there = next in
          let claimed = (starts.kept.invariant.words.cards slot).claimed.1 (omega arith) in
          subst (HasWon starts.kept.stages) (sym (lies_as_given (length plan.start) slot few)) (start_won (starts.kept.stages slot) (starts.started slot claimed))

pub openings_refine : OpeningsRefine
openings_refine plan s cards all placed may size are small h =
    let fit = subst (SlotsFit plan) placed may.slots in
    let has = epochs_opened plan s cards all may fit size are small h in record {
      tree = tree_opened plan s cards all may fit size are small h;
      reached = reached_opened plan s cards all may fit size are small h;
      views = refl;
      lie = has.lie;
      dead = has.dead;
      was_dead = has.was_dead;
      refines = subst (λ o. RefinesByAges plan s (tree_opened plan s cards all may fit size are small h) (opening all [] (record { tree = first_of plan; participant = participant_by o; sight = no_sight })) has.lie has.dead has.was_dead)
          (sym placed) (record { ages = has.ages; refines = has.refines });
    }
