-- How many slots are in live at most.
use Rattle.std.proofs.Common.{if◌then◌else◌, ◌≡◌, ◌≢◌, ℕ, zero, suc, ◌+◌, ◌*◌, ◌%◌, ◌<◌, ◌≤◌, ◌==◌, ◌⊎◌, inl, inr, Bool, true, false, Option, Some, None, List, [], ◌∷◌, ◌++◌, Contains, length, length-append, map, get_or, refl, sym, ap, ◌∙◌, subst, arith}
use Rattle.std.proofs.lemmas.Bool.{cases_Bool, cases_eq, false≢true}
use Rattle.std.proofs.lemmas.List.{length-map}
use Rattle.std.proofs.lemmas.List.Elements.{Contains-append_left, Contains-append_right}
use Rattle.std.proofs.lemmas.Map.Made.{length-le_from_is_member}
use Rattle.std.proofs.lemmas.Map.Views.{list_any-from_Contains}
use Rattle.std.proofs.lemmas.Option.{same_Some}
use Rattle.std.specs.Cmp.{nat_eq_equiv}
use Rattle.std.specs.List.{IsDistinct, AllByRecursion}
use mathlib.Core.Option.{some, none, some-injective, some-ne-none}
use mathlib.Core.Option.{Option as Maybe}
use lib.ListN.{get_elem?}
use Rattle.ell_word.specs.Node.{card}
use Rattle.ell_core.specs.state.Machine.{Machine}
use Rattle.ell_layout.specs.Words.{Words}
use Rattle.ell_core.specs.history.Stages.{Stage, Stages, Born, is_start, waits, insert_open, delete_open, is_node_born}
use Rattle.ell_core.specs.statements.Since.{has_ended}
use Rattle.ell_core.specs.tree.Room.{HasRoom}
use Rattle.ell_core.specs.tree.Tree.{Reached, IsLawful, ListsTreePairs}
use Rattle.ell_core.proofs.lemmas.outcomes.Decide.{some_not_none}
use Rattle.ell_core.proofs.lemmas.tree.FewNodes.{tree_nodes, few_nodes, has_node}
use Rattle.ell_core.proofs.lemmas.tree.Lawful.{tree_lawful}
use Rattle.ell_core.proofs.lemmas.tree.Paths.{Below-refl}
use Rattle.ell_core.proofs.lemmas.tree.Pairs.{Contains-first, Contains-later, Contains-cons_cases, Contains-from_list_any}
use Rattle.ell_grace.specs.Dead.{IsInOrOut, NeverComes}
use Rattle.ell_grace.specs.Gone.{TakesOut}
use Rattle.ell_grace.proofs.lemmas.dead.Came.{what_came_is_in_or_out}
use Rattle.ell_grace.proofs.lemmas.outs.Taken.{born_low}
use Rattle.ell_cards.specs.declared.view.Known.{Known}
use Rattle.ell_runs.specs.declared.view.Slots.{Slots}
use Rattle.ell_runs.specs.declared.view.View.{View}
use Rattle.ell_cards.specs.Ages.{HasEpochs}
use Rattle.ell_cards.specs.Leaks.{Holds, IsHeld, IsInFlaggedHand, NothingLeaks}
use Rattle.ell_cards.specs.Leaks.Holds.{waiting, lost}
use Rattle.ell_runs.specs.Laws.{machine_of_table}
use Rattle.ell_runs.specs.Machines.{HasMachine}
use Rattle.ell_runs.specs.Plans.{TablePlan}
use Rattle.ell_cards.specs.EpochLaws.{IsInUse, IsBusy, SlotsInUseAreFew}
use Rattle.ell_cards.specs.Epochs.{WholeState, slot_word}
use Rattle.ell_cards.specs.SlotWords.{is_retired, slot_of}
use Rattle.ell_runs.specs.States.{TableState}
use Rattle.ell_cards.specs.Refinement.{HasWon}
use Rattle.ell_runs.specs.TurnEffects.{own_words}
use Rattle.ell_cards.specs.Whole.{trees_of, EpochsAre}
use Rattle.ell_runs.proofs.lemmas.own_words.OwnTree.{reached_born}
use Rattle.ell_runs.proofs.lemmas.own_words.OwnWords.{own_pairs}
use Rattle.ell_cards.proofs.lemmas.refinement.Winning.{IsWonStage}
use Rattle.ell_cards.proofs.lemmas.whole.LeaksOfCalls.{in_hand}
use Rattle.ell_cards.proofs.lemmas.words.RetiredBits.{low_bits}

-- the numbers from 1 to this one
upto : ℕ → List ℕ
upto zero = []
upto (suc n) = suc n ∷ upto n

length_upto : (n : ℕ) → length (upto n) ≡ n
unfolding upto
length_upto zero = refl
length_upto (suc n) = ap suc (length_upto n)

has_upto : (n c : ℕ) → 0 < c → c ≤ n → Contains (upto n) c
unfolding upto
has_upto zero c more low = absurd (omega arith)
has_upto (suc n) c more low = elim (cases_eq c (suc n)) [
  | inl e ↦ subst (Contains (suc n ∷ upto n)) (sym e) (Contains-first (suc n) (upto n))
  | inr other ↦ Contains-later (suc n) (upto n) c (has_upto n c more (omega arith))
]

-- what a function makes of a list has what it makes of each
has_mapped : (f : ℕ → ℕ) (l : List ℕ) (x : ℕ) → Contains l x → Contains (map f l) (f x)
has_mapped f [] x h = absurd (Contains-nothing x h)
  where
    Contains-nothing : (x : ℕ) → Contains [] x → ⊥
    Contains-nothing x h = absurd (omega (arith, h.1))
has_mapped f (y ∷ l) x h = elim (Contains-cons_cases y l x h) [
  | inl e ↦ subst (λ z. Contains (f y ∷ map f l) (f z)) e (Contains-first (f y) (map f l))
  | inr more ↦ Contains-later (f y) (map f l) (f x) (has_mapped f l x more)
]

-- the cards for which a pass keeps slots in live: that in its hand, and those of the parent and the leaf that this took
-- out; or the one whose flag it has lost
module _ (w : Words) where
  of_card : Option ℕ → Option ℕ → List ℕ
  of_card (Some c) other = c ∷ card (w.p c) ∷ card (w.l c) ∷ []
  of_card None (Some c) = c ∷ []
  of_card None None = []

  of_seat : Maybe Known → List ℕ
  of_seat none = []
  of_seat (some k) = of_card k.tree.worker.card k.participant.lost

  few_of_card : (o other : Option ℕ) → length (of_card o other) ≤ 3
  unfolding of_card
  few_of_card (Some c) other = omega arith
  few_of_card None (Some c) = omega arith
  few_of_card None None = omega arith

  few_of_seat : (o : Maybe Known) → length (of_seat o) ≤ 3
  unfolding of_seat
  few_of_seat none = omega arith
  few_of_seat (some k) = few_of_card k.tree.worker.card k.participant.lost

  of_seats : List Known → List ℕ → List ℕ
  of_seats views [] = []
  of_seats views (j ∷ js) = of_seat (get_elem? views j) ++ of_seats views js

  few_of_seats : (views : List Known) (busy : List ℕ) → length (of_seats views busy) ≤ 3 * length busy
  unfolding of_seats
  few_of_seats views [] = omega arith
  few_of_seats views (j ∷ js) =
      let first = few_of_seat (get_elem? views j) in
      let rest = few_of_seats views js in
      let sum = length-append (of_seat (get_elem? views j)) (of_seats views js) in
      omega arith

  has_of_seats : (views : List Known) (busy : List ℕ) (j c : ℕ) → Contains busy j → Contains (of_seat (get_elem? views j)) c → Contains (of_seats views busy) c
  unfolding of_seats
  has_of_seats views [] j c h has = absurd (omega (arith, h.1))
  has_of_seats views (i ∷ is) j c h has = elim (Contains-cons_cases i is j h) [
    | inl e ↦ Contains-append_left (of_seat (get_elem? views i)) (of_seats views is) c (subst (λ x. Contains (of_seat (get_elem? views x)) c) (sym e) has)
    | inr more ↦ Contains-append_right (of_seat (get_elem? views i)) (of_seats views is) c (has_of_seats views is j c more has)
  ]

  has_hand : (k : Known) (c : ℕ) → k.tree.worker.card ≡ Some c → of_seat (some k) ≡ c ∷ card (w.p c) ∷ card (w.l c) ∷ []
  unfolding of_seat of_card
  has_hand k c hand = ap (λ o. of_card o k.participant.lost) hand

  has_lost : (k : Known) (c : ℕ) → k.tree.worker.card ≡ None → k.participant.lost ≡ Some c → of_seat (some k) ≡ c ∷ []
  unfolding of_seat of_card
  has_lost k c empty at = ap (λ o. of_card o k.participant.lost) empty ∙ ap (of_card None) at

-- a card that has won its flag, is not of the opening tree and has not ended has its flag
won_open : (s : Stage) → IsWonStage s → is_start s ≡ false → has_ended s ≡ false → (insert_open s ≡ true) ⊎ (delete_open s ≡ true)
won_open s (claimed, settled) unstarted un = grind arith

-- a word that sets no slot free leaves a node unretired
pub some_unretired : (n : ℕ) → n % 8 ≢ 0 → (i : ℕ) × (i < 3) × (is_retired n i ≡ false)
some_unretired n used = elim (cases_Bool (is_retired n 0)) [
  | inr e ↦ (0, omega arith, e)
  | inl a ↦ elim (cases_Bool (is_retired n 1)) [
    | inr e ↦ (1, omega arith, e)
    | inl b ↦ elim (cases_Bool (is_retired n 2)) [
      | inr e ↦ (2, omega arith, e)
      | inl c ↦ absurd (used (let low = low_bits n in let all = full (is_retired n 0) (is_retired n 1) (is_retired n 2) a b c in omega arith))
    ]
  ]
]
  where
    full : (x y z : Bool) → x ≡ true → y ≡ true → z ≡ true → (if x then 1 else 0) + 2 * (if y then 1 else 0) + 4 * (if z then 1 else 0) ≡ 7
    full x y z a b c = ap (λ t. (if t then 1 else 0) + 2 * (if y then 1 else 0) + 4 * (if z then 1 else 0)) a
        ∙ (ap (λ t. 1 + 2 * (if t then 1 else 0) + 4 * (if z then 1 else 0)) b ∙ ap (λ t. 1 + 2 * 1 + 4 * (if t then 1 else 0)) c)

-- whose tree a pass has in a seat
tree_from : (views : List Known) (i : ℕ) (v : View) → get_elem? (trees_of views) i ≡ some v → (k : Known) × (get_elem? views i ≡ some k) × (k.tree ≡ v)
tree_from [] i v e = absurd (some-ne-none v (sym e))
tree_from (x ∷ xs) zero v e = (x, refl, some-injective x.tree v e)
tree_from (x ∷ xs) (suc i) v e = tree_from xs i v e

-- What nodes there are of cards that are in the tree, that passes have in hand, or that are of the opening tree.
module _ (plan : TablePlan) (s : Slots) (tree : TableState) (t : WholeState) (flat : plan.flat ≡ true) (same : trees_of t.views ≡ tree.views) (h : HasEpochs plan s tree t)
    (leaks : NothingLeaks s t tree.views h.ages.now.machine.words h.ages.now.machine.stages h.lie)
    (idle : (seat c : ℕ) (k : Known) → get_elem? t.views seat ≡ some k → k.participant.lost ≡ Some c → k.tree.worker.card ≡ None) (busy : List ℕ)
    (listed : (seat : ℕ) (k : Known) → get_elem? t.views seat ≡ some k → IsBusy k → Contains busy seat) where
  abbrev r : HasMachine plan tree
  r = h.ages.now.machine

  abbrev m : Machine
  m = machine_of_table plan tree r

  abbrev w : Words
  w = r.words

  abbrev stage : Stages
  stage = r.stages

  lawful : IsLawful w
  lawful = tree_lawful w stage r.invariant.words.tree

  came : (x : ℕ) → Reached w x → Born stage x
  came x reached = reached_born w w stage r.invariant.words (λ c calm. record { words = λ f. refl; expects = refl; tags = λ right. refl }) x reached

  room : HasRoom w (w.next + 1)
  room x reached = let low = born_low w stage r.invariant.words x (came x reached) in omega arith

  abbrev nodes : List ℕ
  nodes = tree_nodes w (w.next + 1) lawful room

  abbrev cards_of_nodes : List ℕ
  cards_of_nodes = map card nodes

  abbrev hands : List ℕ
  hands = of_seats w t.views busy

  -- the cards whose slots are in live
  abbrev all_cards : List ℕ
  all_cards = upto (length plan.start) ++ (cards_of_nodes ++ hands)

  abbrev Listed : ℕ → Type 0
  Listed c = Contains all_cards c

  of_start : (c : ℕ) → is_start (stage c) ≡ true → 0 < c → Listed c
  of_start c start more =
      let from : w.flat_from ≡ length plan.start + 1 = r.shape ∙ ap (λ (b : Bool). if b then length plan.start + 1 else 0) flat in
      let low = (r.invariant.words.flat (omega arith) c).1 start in
      Contains-append_left (upto (length plan.start)) (cards_of_nodes ++ hands) c (has_upto (length plan.start) c more (omega arith))

  of_node : (x : ℕ) → Reached w x → Listed (card x)
  of_node x reached =
      Contains-append_right (upto (length plan.start)) (cards_of_nodes ++ hands) (card x)
      (Contains-append_left cards_of_nodes hands (card x) (has_mapped card nodes x (has_node w (w.next + 1) lawful room x reached)))

  of_hand : (seat : ℕ) (k : Known) (c : ℕ) → get_elem? t.views seat ≡ some k → IsBusy k → Contains (of_seat w (some k)) c → Listed c
  of_hand seat k c there works has =
      Contains-append_right (upto (length plan.start)) (cards_of_nodes ++ hands) c
      (Contains-append_right cards_of_nodes hands c
      (has_of_seats w t.views busy seat c (listed seat k there works) (subst (λ o. Contains (of_seat w o) c) (sym there) has)))

  -- a pass has a card in hand, so that, and those of the parent and the leaf where it goes, are listed
  held_card : (seat : ℕ) (k : Known) (c d : ℕ) → get_elem? t.views seat ≡ some k → k.tree.worker.card ≡ Some d → Contains (d ∷ card (w.p d) ∷ card (w.l d) ∷ []) c → Listed c
  held_card seat k c d there holds has =
      of_hand seat k c there (inl (λ none. some_not_none holds none)) (subst (λ l. Contains l c) (sym (has_hand w k d holds)) has)

  held : (c : ℕ) → IsHeld t.views c → Listed c
  held c is = by is.holds
    where
      by : Holds is.knows c → Listed c
      by (waiting at waits) = held_card is.seat is.knows c c is.there waits.0 (Contains-first c (card (w.p c) ∷ card (w.l c) ∷ []))
      by (lost at) =
          of_hand is.seat is.knows c is.there (inr (λ none. some_not_none at none))
          (subst (λ l. Contains l c) (sym (has_lost w is.knows c (idle is.seat c is.knows is.there at) at)) (Contains-first c []))

  in_flagged : (c d : ℕ) → IsInFlaggedHand tree.views d → Contains (d ∷ card (w.p d) ∷ card (w.l d) ∷ []) c → Listed c
  in_flagged c d hand has =
      let knows = tree_from t.views hand.seat hand.view (ap (λ views. get_elem? views hand.seat) same ∙ hand.there) in
      held_card hand.seat knows.0 c d knows.1 (ap (λ (v : View). v.worker.card) knows.2 ∙ hand.has.holds) has

  own : (c : ℕ) → IsInFlaggedHand tree.views c → Listed c
  own c hand = in_flagged c c hand (Contains-first c (card (w.p c) ∷ card (w.l c) ∷ []))

  -- the card of a node that a card in hand has taken out
  taken : (d x : ℕ) → TakesOut w stage d x → IsInFlaggedHand tree.views d → Listed (card x)
  taken d x (inl put) hand =
      in_flagged (card x) d hand (subst (λ y. Contains (d ∷ card (w.p d) ∷ card (w.l d) ∷ []) (card y)) put.2
      (Contains-later d (card (w.p d) ∷ card (w.l d) ∷ []) (card (w.l d)) (Contains-later (card (w.p d)) (card (w.l d) ∷ []) (card (w.l d)) (Contains-first (card (w.l d)) []))))
  taken d x (inr cut) hand = in_flagged (card x) d hand (elim cut.1 [
    | inl p ↦ subst (λ y. Contains (d ∷ card (w.p d) ∷ card (w.l d) ∷ []) (card y)) p
        (Contains-later d (card (w.p d) ∷ card (w.l d) ∷ []) (card (w.p d)) (Contains-first (card (w.p d)) (card (w.l d) ∷ [])))
    | inr l ↦ subst (λ y. Contains (d ∷ card (w.p d) ∷ card (w.l d) ∷ []) (card y)) l
        (Contains-later d (card (w.p d) ∷ card (w.l d) ∷ []) (card (w.l d)) (Contains-later (card (w.p d)) (card (w.l d) ∷ []) (card (w.l d)) (Contains-first (card (w.l d)) [])))
  ])

  -- the card of a slot in live is listed
  module _ (slot : ℕ) (inside : slot ≤ s.last) (used : get_or t.words (slot_word s slot) 0 % 8 ≢ 0) where
    abbrev c : ℕ
    c = h.lie slot

    -- one that has ended, of which a node is not retired
    ended_card : is_start (stage c) ≡ false → has_ended (stage c) ≡ true → (i : ℕ) → i < 3 → is_retired (get_or t.words (slot_word s slot) 0) i ≡ false → Listed c
    ended_card unstarted ended i few unretired = by (is_node_born (stage (card x)) (x % 4)) refl
      where
        x : ℕ
        x = 4 * c + i

        at : card x ≡ c
        at = omega (arith, few)

        never : NeverComes w stage x → Listed c
        never is = own c (leaks.owed slot i c inside used few unretired (inr (at, is)))

        over : has_ended (stage (card x)) ≡ true
        over = ap (λ d. has_ended (stage d)) at ∙ ended

        in_or_out : IsInOrOut w stage x → Listed c
        in_or_out (inl reached) = subst Listed at (of_node x reached)
        in_or_out (inr (inl out)) = subst Listed at (taken out.0 x out.1 (leaks.owed slot i out.0 inside used few unretired (inl out.1)))
        in_or_out (inr (inr unused)) = never (over, inr unused)

        by : (b : Bool) → is_node_born (stage (card x)) (x % 4) ≡ b → Listed c
        by false unborn = never (over, inl (λ born. false≢true (sym unborn ∙ born)))
        by true born = in_or_out
            (subst (λ n. is_start (n (card x)) ≡ false → Born n x → IsInOrOut w n x) h.ages.now.same
            (what_came_is_in_or_out m h.ages.now.uses x) (ap (λ d. is_start (stage d)) at ∙ unstarted) born)

    -- one that has won its flag
    won_card : HasWon stage c → Listed c
    won_card won = elim (cases_eq c 0) [
      | inl root ↦ subst Listed (sym root) (of_node 0 (Below-refl w 0))
      | inr other ↦ elim (cases_Bool (is_start (stage c))) [
        | inl start ↦ of_start c start (omega arith)
        | inr unstarted ↦ elim (cases_Bool (has_ended (stage c))) [
          | inl ended ↦ (let node = some_unretired (get_or t.words (slot_word s slot) 0) used in ended_card unstarted ended node.0 node.1 node.2)
          | inr goes_on ↦ own c (elim (won_open (stage c) won unstarted goes_on) [
            | inl puts ↦ in_hand plan tree r c (r.invariant.workers.insert_in_hand c puts)
            | inr cuts ↦ in_hand plan tree r c (r.invariant.workers.delete_in_hand c cuts)
          ])
        ]
      ]
    ]

    slot_listed : Listed c
    slot_listed = elim (leaks.used slot inside used) [ inl won ↦ won_card won | inr is ↦ held c is ]

  -- so slots in live are those of listed cards
  slots_listed : (slot : ℕ) → IsInUse s t slot → Contains (map slot_of all_cards) slot
  slots_listed slot live = subst (Contains (map slot_of all_cards)) (h.refines.own slot live.0) (has_mapped slot_of all_cards (h.lie slot) (slot_listed slot live.0 live.1))

  pub few_slots : (pairs : List (ℕ × ℕ)) → ListsTreePairs (own_words tree) pairs → (slots : List ℕ) → IsDistinct (λ a b. a == b) slots → AllByRecursion (IsInUse s t) slots
      → length slots ≤ length plan.start + (2 * length pairs + 3) + 3 * length busy
  few_slots pairs lists slots distinct live =
      let short = length-le_from_is_member nat_eq_equiv slots (map slot_of all_cards) distinct
      (λ x has. list_any-from_Contains nat_eq_equiv x (map slot_of all_cards) (slots_listed x (all_in_use slots live x (Contains-from_list_any slots x has)))) in
      let mapped = length-map all_cards slot_of in
      let parts = length-append (upto (length plan.start)) (cards_of_nodes ++ hands) in
      let more = length-append cards_of_nodes hands in
      let starts = length_upto (length plan.start) in
      let cards = length-map nodes card in
      let few = few_nodes w (w.next + 1) lawful room pairs own_lists in
      let held = few_of_seats w t.views busy in
      omega arith
    where
      all_in_use : (l : List ℕ) → AllByRecursion (IsInUse s t) l → (x : ℕ) → Contains l x → IsInUse s t x
      all_in_use [] all x has = absurd (omega (arith, has.1))
      all_in_use (y ∷ l) all x has = elim (Contains-cons_cases y l x has) [
        | inl e ↦ subst (IsInUse s t) e all.0
        | inr more ↦ all_in_use l all.1 x more
      ]

      own_lists : ListsTreePairs w pairs
      own_lists = record {
        ascending = lists.ascending;
        each = λ k value. (
          λ has. (own_pairs plan tree r k value).1 ((lists.each k value).0 has),
          λ is. (lists.each k value).1 ((own_pairs plan tree r k value).0 is),
        );
      }

-- So it is wherever steps have led a table whose cards come back, in which each pass that is busy is listed.
pub slots_in_use_are_few : SlotsInUseAreFew
slots_in_use_are_few plan s t at flat h pairs lists busy listed slots distinct live = by plan.slots at h.epochs
  where
    by : (o : Option Slots) → o ≡ Some s → EpochsAre plan o h.tree t → length slots ≤ length plan.start + (2 * length pairs + 3) + 3 * length busy
    by None wrong epochs = absurd (some_not_none wrong refl)
    by (Some a) is epochs =
        let it : EpochsAre plan (Some s) h.tree t = subst (λ (x : Slots). EpochsAre plan (Some x) h.tree t) (same_Some a s is) epochs in
        few_slots plan s h.tree t flat h.views it.0 it.1 (λ seat c k there. (it.0.epochs.each seat k there).idle c) busy listed pairs lists slots distinct live
