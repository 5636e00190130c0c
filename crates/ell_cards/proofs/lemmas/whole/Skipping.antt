-- A row of claims, in which each card but the last one is discarded, is one step of the whole table.
use Rattle.std.proofs.Common.{None, Option, ◌≢◌, ◌≡◌, ℕ, zero, suc, ◌+◌, ◌-◌, ◌^◌, ◌<◌, ◌≤◌, ◌==◌, if◌then◌else◌, Bool, true, false, Some, List, [], length, get_or, set, refl, sym, ap, ◌∙◌, subst, arith, eq-eqb, eqb-true, get_or-set_same}
use mathlib.Core.Option.{some}
use lib.ListN.{get_elem?}
use prog.Atomic.{either}
use Rattle.atomic_table.specs.Table.{Allows, Act, Valid, carried_after, keeps, stepped}
use Rattle.ell_runs.specs.declared.call.Call.TheVariants as call
use Rattle.ell_runs.specs.declared.call.NewNode.{NewNode}
use Rattle.ell_cards.specs.declared.view.Known.{Known}
use Rattle.ell_runs.specs.declared.view.Slots.{Slots}
use Rattle.ell_runs.specs.declared.view.View.{View}
use Rattle.ell_cards.specs.Ages.{HasEpochs}
use Rattle.ell_runs.specs.Holding.{HoldsWaiting}
use Rattle.std.proofs.lemmas.Bool.{false≢true}
use Rattle.std.proofs.lemmas.Option.{same_Some}
use Rattle.ell_core.proofs.lemmas.outcomes.Decide.{some_not_none}
use Rattle.ell_runs.specs.Calls.{after, May}
use Rattle.ell_runs.specs.Changes.{ledger_keys, after_claim}
use Rattle.ell_runs.specs.Guards.{MayClaim}
use Rattle.ell_runs.specs.Plans.{TablePlan, flat_from}
use Rattle.ell_cards.specs.Models.{TableModel, PassModel, last_slot_of}
use Rattle.ell_cards.specs.InSlots.{IsPlaced}
use Rattle.ell_cards.specs.Epochs.{whole_size, WholeState}
use Rattle.ell_cards.specs.Apart.{IsApart}
use Rattle.ell_cards.specs.Shown.{IsWord, cut_word, cut_planned, shown}
use Rattle.ell_cards.specs.Skipping.{after_one, after_row, after_claimed_row, IsFresh, IsRow, MayStepOn}
use Rattle.ell_runs.specs.Starts.{SlotsFit}
use Rattle.ell_cards.specs.Stepping.{IsInside, KeepsPass, MayInTable, MayTell}
use Rattle.ell_runs.specs.Views.{SameShare}
use Rattle.ell_runs.specs.Turns.{found_by, state_after, view_after}
use Rattle.ell_cards.specs.Whole.{WordsAre, EpochsAre, IsWhole}
use Rattle.ell_runs.proofs.lemmas.runs.Reaching.{reached_kept, call_on}
use Rattle.ell_runs.proofs.lemmas.seats.Named.{kept_named}
use Rattle.ell_cards.proofs.lemmas.seats.Opened.{allowed, of_table}
use Rattle.ell_runs.proofs.lemmas.seats.Seats.{set_there}
use Rattle.ell_cards.proofs.lemmas.shown.CutWords.{cut_same}
use Rattle.ell_cards.proofs.lemmas.shown.ShownChanges.{claims_are_shown}
use Rattle.ell_cards.proofs.lemmas.shown.ShownGuards.{claim_whole}
use Rattle.ell_cards.proofs.lemmas.shown.ShownViews.{named_shown, placed_shown}
use Rattle.ell_cards.proofs.lemmas.refinement.Placed.{placed_to}
use Rattle.ell_cards.proofs.lemmas.views.Rows.{one_claims_on, row_keys, row_share}
use Rattle.ell_cards.proofs.lemmas.whole.Calling.{exchange_does, tree_here, marked_so, refines_whole, tree_step}
use Rattle.ell_cards.proofs.lemmas.whole.Calling.Notes.{nothing}
use Rattle.ell_cards.proofs.lemmas.whole.Apart.{passes_tell_apart}
use Rattle.ell_cards.proofs.lemmas.whole.Going.{set_twice}
use Rattle.ell_cards.proofs.lemmas.whole.Standings.{size_some}
use Rattle.ell_cards.proofs.lemmas.words.Slotted.{slot_inside}

-- an exchange of the claim word that found this, and takes all numbers from a first card to a last one if it is won,
-- leaves of a pass what it is to know, and that names what is in its table; and the last card is a fresh one
abbrev pub RowTells : TablePlan → ℕ → ℕ → NewNode → PassModel → ℕ → View → Type 0
RowTells plan first last node p n w =
    (w ≡ after_claimed_row (n == first) first last node p.view) × IsInside plan w
    × IsFresh plan p.memory.slot (n == first) last

-- a flat tree is flat from some card on
pub from_some : (plan : TablePlan) → plan.flat ≡ true → 0 < flat_from plan
from_some plan flat = subst (λ b. 0 < (if b then length plan.start + 1 else 0)) (sym flat) (omega arith)

-- where the last card was claimed, and the claim word read, the next one may be claimed
pub claims_on : (plan : TablePlan) → plan.flat ≡ true → (c : ℕ) (node : NewNode) (v : View) → c + 1 ≤ plan.last_card → May plan (call.Claim c node) v
    → May plan (call.Claim (c + 1) node) (after_one c node v)
claims_on plan flat c node v room may = (one_claims_on (flat_from plan) (from_some plan flat) c node v may.0, room)

-- a pass has taken no slot for a card in hand that it may discard
abbrev pub Discards : Known → Type 0
Discards k = (d : ℕ) → HoldsWaiting k.tree d → k.participant.slot ≢ Some d

-- the card for which it took a slot last comes before this one
abbrev pub SlotIsBefore : Known → ℕ → Type 0
SlotIsBefore k c = (d : ℕ) → k.participant.slot ≡ Some d → d < c

-- the card that was claimed has no slot yet
discarded_now : (c : ℕ) (node : NewNode) (k : Known) → SlotIsBefore k c → Discards (record k { tree = after_one c node k.tree })
discarded_now c node k before d waits at =
    let same = same_Some c d waits.0 in
    let low = before d at in
    absurd (by same low)
  where
    by : c ≡ d → d < c → ⊥
    by e low = omega (arith, e, low)

-- the table where a pass knows something else of the tree, and the claim word is another one
abbrev pub claimed_to : WholeState → ℕ → Known → View → ℕ → WholeState
claimed_to t id k v n = record { words = set t.words 0 n; homes = t.homes; views = set t.views id (record k { tree = v }) }

module _ (plan : TablePlan) (s : Slots) (placed : plan.slots ≡ Some s) where
  -- such a table has a claim word
  pub has_words : (t : WholeState) → IsWhole plan t → 0 < length t.words
  has_words t h = let all = (subst (λ o. WordsAre o t.words h.tree.words) placed h.words).0 in omega arith

  has_epochs : (t : WholeState) (h : IsWhole plan t) → HasEpochs plan s h.tree t
  has_epochs t h = (subst (λ o. EpochsAre plan o h.tree t) placed h.epochs).0

  -- a pass of the table names what is in the table
  pub whole_inside : (t : WholeState) → IsWhole plan t → (id : ℕ) (k : Known) → get_elem? t.views id ≡ some k → IsInside plan k.tree
  whole_inside t h id k here =
      let there = tree_here plan t h id k here in
      let epochs = has_epochs t h in (
        kept_named plan h.tree (reached_kept plan h.tree h.reached) id k.tree there,
        subst (λ o. IsPlaced (last_slot_of o plan.last_card) k.tree) (sym placed)
            (placed_to plan h.tree epochs.ages.now.machine id k.tree there s.last (λ c has. slot_inside s.last c (epochs.refines.fits c has))),
      )

  -- and tells nodes apart
  pub whole_apart : (t : WholeState) → IsWhole plan t → (id : ℕ) (k : Known) → get_elem? t.views id ≡ some k → IsApart plan k.tree
  whole_apart t h id k here = passes_tell_apart plan t h id k here

  module _ (t : WholeState) (h : IsWhole plan t) (id : ℕ) (k : Known) (here : get_elem? t.views id ≡ some k) (unlost : k.participant.lost ≡ None) where
    -- the claim word of the tree is that of the table
    found : found_by h.tree call.Next ≡ get_or t.words 0 0
    found = sym (has_epochs t h).refines.claim

    -- after a claim
    claimed : (c : ℕ) (node : NewNode) → May plan (call.Claim c node) k.tree → Discards k → (won : Bool) → (get_or t.words 0 0 == c) ≡ won
        → IsWhole plan (claimed_to t id k (after_claim won c node k.tree) (cut_word (if won then c + 1 else get_or t.words 0 0)))
    claimed c node may discarded won is =
        subst (λ b. IsWhole plan (claimed_to t id k (after_claim b c node k.tree) (cut_word (if b then c + 1 else get_or t.words 0 0)))) is
        (subst (λ n. IsWhole plan (claimed_to t id k (after_claim (n == c) c node k.tree) (cut_word (if n == c then c + 1 else n)))) found
        (refines_whole plan t h id k here (call.Claim c node) may tt s placed discarded unlost tt (λ none. tt) k.participant k.sight (marked_so plan t h id k here (call.Claim c node) may) (nothing refl (λ some d flags. absurd flags))))

    pub claim_won : (c : ℕ) (node : NewNode) → May plan (call.Claim c node) k.tree → Discards k → get_or t.words 0 0 ≡ c
        → IsWhole plan (claimed_to t id k (after_claim true c node k.tree) (c + 1))
    claim_won c node may discarded is =
        let low = may.1 in
        let limit = h.reached.starts.may.limit in
        subst (λ n. IsWhole plan (claimed_to t id k (after_claim true c node k.tree) n)) (cut_same (c + 1) (omega arith))
        (claimed c node may discarded true (eq-eqb (get_or t.words 0 0) c is))

    pub claim_lost : (c : ℕ) (node : NewNode) → May plan (call.Claim c node) k.tree → Discards k → (get_or t.words 0 0 == c) ≡ false → IsWord (get_or t.words 0 0)
        → IsWhole plan (claimed_to t id k (after_claim false c node k.tree) (get_or t.words 0 0))
    claim_lost c node may discarded is word =
        subst (λ n. IsWhole plan (claimed_to t id k (after_claim false c node k.tree) n)) (cut_same (get_or t.words 0 0) word)
        (claimed c node may discarded false is)

    -- after the claim word was read
    pub read_next : (n : ℕ) → get_or t.words 0 0 ≡ n → IsWord n → IsWhole plan (claimed_to t id k (after call.Next n k.tree) n)
    read_next n is word =
        subst (λ m. IsWhole plan (claimed_to t id k (after call.Next n k.tree) m)) (cut_same n word)
        (subst (λ m. IsWhole plan (claimed_to t id k (after call.Next m k.tree) (cut_word m))) (found ∙ is)
        (refines_whole plan t h id k here call.Next tt tt s placed tt unlost tt (λ none. tt) k.participant k.sight (marked_so plan t h id k here call.Next tt) (nothing refl (λ some d flags. absurd flags))))

  -- what was written before at the claim word and in the seat is gone
  written_again : (t : WholeState) (id : ℕ) (k : Known) (w v : View) (a n : ℕ) → claimed_to (claimed_to t id k w a) id (record k { tree = w }) v n ≡ claimed_to t id k v n
  written_again t id k w v a n = λ i. record {
    words = set_twice t.words 0 a n i;
    homes = t.homes;
    views = set_twice t.views id (record k { tree = w }) (record k { tree = v }) i;
  }

  module _ (flat : plan.flat ≡ true) where
    -- after a claim that was won, and the claim word read
    pub one_on : (c : ℕ) (node : NewNode) (t : WholeState) (h : IsWhole plan t) (id : ℕ) (k : Known) → get_elem? t.views id ≡ some k → k.participant.lost ≡ None → Discards k
        → May plan (call.Claim c node) k.tree → get_or t.words 0 0 ≡ c → IsWhole plan (claimed_to t id k (after_one c node k.tree) (c + 1))
    one_on c node t h id k here unlost discarded may is =
        let low = may.1 in
        let limit = h.reached.starts.may.limit in
        let now : Known = record k { tree = after_claim true c node k.tree } in
        subst (IsWhole plan) (written_again t id k now.tree (after_one c node k.tree) (c + 1) (c + 1))
        (read_next (claimed_to t id k (after_claim true c node k.tree) (c + 1)) (claim_won t h id k here unlost c node may discarded is) id now
        (set_there t.views id now k here) unlost (c + 1) (get_or-set_same t.words 0 (c + 1) 0 (has_words t h)) (omega arith))

    -- a row of claims
    pub row_whole : (n c : ℕ) (node : NewNode) (t : WholeState) (h : IsWhole plan t) (id : ℕ) (k : Known) → get_elem? t.views id ≡ some k → k.participant.lost ≡ None → Discards k → SlotIsBefore k c
        → May plan (call.Claim c node) k.tree → get_or t.words 0 0 ≡ c → c + n ≤ plan.last_card
        → IsWhole plan (claimed_to t id k (after_row n c node k.tree) (c + n + 1))
    row_whole zero c node t h id k here unlost discarded before may is room =
        subst (λ m. IsWhole plan (claimed_to t id k (after_claim true c node k.tree) m)) (omega arith) (claim_won t h id k here unlost c node may discarded is)
    row_whole (suc n) c node t h id k here unlost discarded before may is room =
        let now : Known = record k { tree = after_one c node k.tree } in
        let v = after_row n (c + 1) node (after_one c node k.tree) in
        subst (λ m. IsWhole plan (claimed_to t id k v m)) (omega arith)
        (subst (IsWhole plan) (written_again t id k now.tree v (c + 1) (c + 1 + n + 1))
        (row_whole n (c + 1) node (claimed_to t id k (after_one c node k.tree) (c + 1)) (one_on c node t h id k here unlost discarded may is) id now
        (set_there t.views id now k here) unlost (discarded_now c node k before) (λ d at. (let low = before d at in omega arith)) (claims_on plan flat c node k.tree (omega arith) may)
        (get_or-set_same t.words 0 (c + 1) 0 (has_words t h)) (omega arith)))

-- what was planned before a row of claims is gone after it
planned_anew : (n c : ℕ) (node : NewNode) (v : View) → after_row n c node (cut_planned v) ≡ after_row n c node v
planned_anew zero c node v = refl
planned_anew (suc n) c node v = refl

-- what is shown of what a pass knows after a row of claims
module _ (plan : TablePlan) (s : Slots) (placed : plan.slots ≡ Some s) (flat : plan.flat ≡ true) where
  row_shown : (n c : ℕ) (node : NewNode) (t : WholeState) (h : IsWhole plan t) (id : ℕ) (k : Known) → get_elem? t.views id ≡ some k → k.participant.lost ≡ None → Discards k → SlotIsBefore k c
      → May plan (call.Claim c node) k.tree → get_or t.words 0 0 ≡ c → c + n ≤ plan.last_card
      → shown (after_row n c node k.tree) ≡ cut_planned (after_row n c node (shown k.tree))
  row_shown zero c node t h id k here unlost discarded before may is room = claims_are_shown plan c node k.tree (whole_apart plan s placed t h id k here)
  row_shown (suc n) c node t h id k here unlost discarded before may is room =
      let now : Known = record k { tree = after_one c node k.tree } in
      let first : shown (after_one c node k.tree) ≡ cut_planned (after_one c node (shown k.tree)) =
      ap (after call.Next (c + 1)) (claims_are_shown plan c node k.tree (whole_apart plan s placed t h id k here)) in
      row_shown n (c + 1) node (claimed_to t id k (after_one c node k.tree) (c + 1)) (one_on plan s placed flat c node t h id k here unlost discarded may is) id now
      (set_there t.views id now k here) unlost (discarded_now c node k before) (λ d at. (let low = before d at in omega arith)) (claims_on plan flat c node k.tree (omega arith) may)
      (get_or-set_same t.words 0 (c + 1) 0 (has_words plan s placed t h)) (omega arith)
      ∙ ap cut_planned (ap (after_row n (c + 1) node) first ∙ planned_anew n (c + 1) node (after_one c node (shown k.tree)))

-- a pass takes all numbers from its next one to a last one, or loses the claim
module _ (plan : TablePlan) (s : Slots) (placed : plan.slots ≡ Some s) (flat : plan.flat ≡ true) (p : PassModel) (first last : ℕ) (node : NewNode) (order : first ≤ last) (room : last ≤ plan.last_card) (may : MayClaim (flat_from plan) p.view first node)
    (discards : (d : ℕ) → HoldsWaiting p.view d → p.memory.slot ≢ Some d) where
  abbrev v : View
  v = p.view

  module _ (k : Known) (is : shown k.tree ≡ p.view) (slotted : k.participant.slot ≡ p.memory.slot) (unlost : k.participant.lost ≡ None) (id : ℕ) (t : WholeState) (h : IsWhole plan t) (here : get_elem? t.views id ≡ some k) (small : IsWord (get_or t.words 0 0)) where
    abbrev n : ℕ
    n = get_or t.words 0 0

    abbrev Goes : Bool → Type 0
    Goes b = (w : Known) × (a : Act (Unit {0})) × Valid t.homes [] a × IsWhole plan (stepped t 0 (either b (last + 1) n) id [] w a)
        × (((shown w.tree ≡ after_claimed_row b first last node v) × IsInside plan (shown w.tree) × IsFresh plan p.memory.slot b last) × (w.participant ≡ k.participant) × (carried_after {S = Unit {0}} [] a ≡ []) × (w.sight ≡ k.sight))

    by_tree : May plan (call.Claim first node) k.tree
    by_tree = (claim_whole plan k.tree (whole_apart plan s placed t h id k here) first node (subst (λ u. MayClaim (flat_from plan) u first node) (sym is) may), omega arith)

    discarded : Discards k
    discarded d waits at = discards d (ap (λ (u : View). u.worker.card) (sym is) ∙ waits.0, ap (λ (u : View). u.worker.flagged) (sym is) ∙ waits.1) (sym slotted ∙ at)

    before : n ≡ first → SlotIsBefore k first
    before won d at = subst (λ m. d < m) won ((has_epochs plan s placed t h).refines.past id d k here at)

    goes : (b : Bool) (w : View) → IsWhole plan (claimed_to t id k w (either b (last + 1) n)) → shown w ≡ after_claimed_row b first last node v → IsFresh plan p.memory.slot b last → Goes b
    goes b w whole shows fresh =
        let now : Known = record k { tree = w } in
        let names = whole_inside plan s placed (claimed_to t id k w (either b (last + 1) n)) whole id now (set_there t.views id now k here) in
        (now, keeps, tt, whole, ((shows, (named_shown plan.last_card w names.0, placed_shown _ w names.1), fresh), refl, refl, refl))

    by : (b : Bool) → (n == first) ≡ b → Goes b
    by true won =
        goes true (after_row (last - first) first node k.tree)
        (subst (λ m. IsWhole plan (claimed_to t id k (after_row (last - first) first node k.tree) m)) (omega arith)
        (row_whole plan s placed flat (last - first) first node t h id k here unlost discarded (before (eqb-true n first won)) by_tree (eqb-true n first won) (omega arith)))
        (row_shown plan s placed flat (last - first) first node t h id k here unlost discarded (before (eqb-true n first won)) by_tree (eqb-true n first won) (omega arith)
        ∙ ap (λ u. cut_planned (after_row (last - first) first node u)) is)
        (λ there yes at. (let low = before (eqb-true n first won) last (slotted ∙ at) in omega arith))
    by false lost =
        goes false (after_claim false first node k.tree) (claim_lost plan s placed t h id k here unlost first node by_tree discarded lost small)
        (ap (after_claim false first node) is) (λ there yes. absurd (false≢true yes))

  row_goes : MayStepOn plan p 0 (λ n. either (n == first) (last + 1) n) (RowTells plan first last node p)
  row_goes k is slotted unlost id t h homes here small = by k is slotted unlost id t h here small (get_or t.words 0 0 == first) refl

-- the number before the one behind the last
pub one_back : (last : ℕ) → last + 1 - 1 ≡ last
one_back last = omega arith

-- the pass has the keys and the share that it had, and names what is in the table
pub row_keeps_pass : (plan : TablePlan) (p : PassModel) (first last : ℕ) (node : NewNode) → KeepsPass plan p.view (RowTells plan first last node p)
row_keeps_pass plan p first last node n w h = by (n == first) h.0
  where
    v : View
    v = p.view

    by : (b : Bool) → w ≡ after_claimed_row b first last node v → (ledger_keys w.worker.ledger ≡ ledger_keys v.worker.ledger) × SameShare v w × IsInside plan w
    by true is = (
      ap (λ (u : View). ledger_keys u.worker.ledger) is ∙ row_keys (last - first) first node v,
      subst (SameShare v) (sym is) (row_share (last - first) first node v),
      h.1,
    )
    by false is =
        (ap (λ (u : View). ledger_keys u.worker.ledger) is, subst (SameShare v) (sym is) (record { share = refl; ownable = refl }), h.1)

-- a claim of one card tells what such a row does
claim_tells : (plan : TablePlan) (c : ℕ) (node : NewNode) (v : View) → MayTell plan (call.Claim c node) v (λ n w. (w ≡ after_claimed_row (n == c) c c node v) × IsInside plan w)
claim_tells plan c node v s h id w here is apart (call.Claim d key) same may can placed later =
    let card : d ≡ c = cc in
    let same_node : key ≡ node = cc in
    let n = found_by s (call.Claim d key) in
    let now = view_after s w (call.Claim d key) in
    let there = set_there s.views id now w here in
    let names = kept_named plan (state_after s id w (call.Claim d key)) (reached_kept plan (state_after s id w (call.Claim d key)) (call_on plan s h id (call.Claim d key) w here may)) id now there in (
      (won (n == d) (cut_word n == d) can.wins ∙ ((λ i. after_claimed_row (cut_word n == card i) (card i) (card i) (same_node i) (shown w)) ∙ ap (after_claimed_row (cut_word n == c) c c node) is)),
      (named_shown plan.last_card now names, placed_shown _ now placed),
    )
  where
    none : d - d ≡ 0
    none = omega arith

    by : (b : Bool) → shown (after_claim b d key w) ≡ after_claimed_row b d d key (shown w)
    by true = claims_are_shown plan d key w apart ∙ ap (λ k. cut_planned (after_row k d key (shown w))) (sym none)
    by false = refl

    won : (whole cut : Bool) → cut ≡ whole → shown (after_claim whole d key w) ≡ after_claimed_row cut d d key (shown w)
    won whole cut same = by whole ∙ ap (λ b. after_claimed_row b d d key (shown w)) (sym same)
claim_tells plan c node v s h id w here is apart _ same may can placed later = absurd cc

-- so a claim is a step that the rule allows
claim_goes : (plan : TablePlan) (p : PassModel) (c : ℕ) (node : NewNode) → May plan (call.Claim c node) p.view → c + 1 < 2 ^ 64 → MayInTable plan p (call.Claim c node)
    → MayStepOn plan p 0 (λ n. either (n == c) (c + 1) n) (RowTells plan c c node p)
claim_goes plan p c node may low discards k is slotted unlost id t h homes here small =
    let x = tree_step plan k (call.Claim c node) (λ n. either (n == c) (c + 1) n) (λ n w. (w ≡ after_claimed_row (n == c) c c node p.view) × IsInside plan w) (λ n. k.participant) tt
    (subst (May plan (call.Claim c node)) (sym is) may)
    (λ s placed d waits at. discards s placed d (ap (λ (u : View). u.worker.card) (sym is) ∙ waits.0, ap (λ (u : View). u.worker.flagged) (sym is) ∙ waits.1) (sym slotted ∙ at)) (λ there. unlost)
    (exchange_does plan (call.Claim c node) c (c + 1) (record { whole = c + 1; is = refl; cut = sym (cut_same (c + 1) low); all = λ none. refl }))
    (λ there none. tt) (λ fill. absurd fill)
    (subst (λ v. MayTell plan (call.Claim c node) v (λ n w. (w ≡ after_claimed_row (n == c) c c node p.view) × IsInside plan w)) (sym is) (claim_tells plan c node p.view))
    (λ n word. nothing refl (λ some d flags. absurd flags)) tt id t h homes here small in
    (x.0, x.1, x.2, x.3, ((x.4.0.0, x.4.0.1, fresh), x.4.1, x.4.2, x.4.3))
  where
    by : (o : Option Slots) → plan.slots ≡ o → (get_or t.words 0 0 == c) ≡ true → o ≢ None → p.memory.slot ≢ Some c
    by None none won there at = there refl
    by (Some s) placed won there at =
        let past = (has_epochs plan s placed t h).refines.past id c k here (slotted ∙ at) in
        let same = eqb-true (get_or t.words 0 0) c won in
        low_not past same
      where
        low_not : c < get_or t.words 0 0 → get_or t.words 0 0 ≡ c → ⊥
        low_not past same = omega (arith, past, same)

    fresh : IsFresh plan p.memory.slot (get_or t.words 0 0 == c) c
    fresh there won at = by plan.slots refl won there at

-- so is a row of them, whether cards come back or not
pub row_goes_any : (plan : TablePlan) → (plan.slots ≢ None → plan.flat ≡ true) → (p : PassModel) (first last : ℕ) (node : NewNode) → IsRow plan first last → first + 1 < 2 ^ 64
    → MayClaim (flat_from plan) p.view first node → MayInTable plan p (call.Claim first node)
    → MayStepOn plan p 0 (λ n. either (n == first) (last + 1) n) (RowTells plan first last node p)
row_goes_any plan flat p first last node row low may discards = by plan.slots refl
  where
    by : (o : Option Slots) → plan.slots ≡ o → MayStepOn plan p 0 (λ n. either (n == first) (last + 1) n) (RowTells plan first last node p)
    by None none =
        subst (λ m. MayStepOn plan p 0 (λ n. either (n == first) (m + 1) n) (RowTells plan first m node p)) (sym (row.one none))
        (claim_goes plan p first node (may, omega (arith, row.order, row.room)) low discards)
    by (Some s) placed = row_goes plan s placed (flat (λ none. some_not_none placed none)) p first last node row.order row.room may (discards s placed)

-- what a step on the claim word owes that the rule allows, by what its caller says of the table and the pass
module _ (t u : TableModel) (p q : PassModel) (same_table : t ≡ u) (same_pass : p ≡ q) (own : q.table ≡ u.id) (size : t.id.words ≡ whole_size t.plan) (fit : SlotsFit t.plan t.plan.slots) where
  pub claim_owed : (k : Known) → shown k.tree ≡ p.view → (seat : ℕ) (held : List (ℕ × Unit {0})) (f : ℕ → ℕ) (told : ℕ → View → Type 0)
      → k.participant.slot ≡ p.memory.slot → k.participant.lost ≡ None → t.id.slots ≡ 0 → held ≡ [] → MayStepOn u.plan q 0 f told
      → (p.table ≡ t.id) × (0 < t.id.words)
      × Allows (IsWhole t.plan) t.id.slots seat (k, held) 0 f (λ n x. told n (shown x.0.tree) × (x.0.participant ≡ k.participant) × (x.1 ≡ held) × (x.0.sight ≡ k.sight))
  claim_owed k shows seat held f told slotted unlost none empty rule =
      let step = subst (λ (m : TableModel). MayStepOn m.plan q 0 f told) (sym same_table) rule k
      (shows ∙ ap (λ (m : PassModel). m.view) same_pass) (slotted ∙ ap (λ (m : PassModel). m.memory.slot) same_pass) unlost in
      let some = size_some t.plan in (
        of_table t u p q same_table same_pass own size fit,
        omega arith,
        allowed t.plan t.id.slots seat (k, held) 0 f (λ n x l. told n (shown x.0.tree) × (x.0.participant ≡ k.participant) × (x.1 ≡ l) × (x.0.sight ≡ k.sight)) none empty step,
      )
