-- No slot stays in use for nothing where passes are split or joined.
use Rattle.std.proofs.Common.{◌≡◌, ◌≢◌, ℕ, zero, suc, ◌+◌, ◌*◌, ◌%◌, ◌<◌, ◌≤◌, Bool, true, false, None, List, [], ◌∷◌, ◌++◌, get_or, set, inl, inr, refl, sym, ap, ◌∙◌, subst}
use Rattle.std.proofs.lemmas.Bool.{cases_eq}
use mathlib.Core.Option.{some, some-injective, some-ne-none}
use mathlib.Core.Option.{Option as Maybe}
use lib.ListN.{get_elem?}
use Rattle.atomic_table.proofs.Lists.{set_else}
use Rattle.ell_word.specs.Node.{card}
use Rattle.ell_core.specs.declared.exchange.Exchange.{Exchange}
use Rattle.ell_core.specs.declared.exchange.Exchange.TheVariants as exchange
use Rattle.ell_core.specs.history.Stages.{Stage, Unclaimed, Opening, IClaimed, IFlagged, IChanged, IOver, RChanged, ROver, DClaimed, DFlagged, DUnmarkable, DMarked, DCut, DOver, DBacked, is_claimed, is_insert}
use Rattle.ell_core.specs.history.Later.{WordsLater, StagesLater, wins_of}
use Rattle.ell_core.specs.statements.Since.{has_ended}
use Rattle.ell_core.proofs.lemmas.outcomes.Decide.{some_not_none}
use Rattle.ell_cards.specs.declared.view.Known.{Known}
use Rattle.ell_runs.specs.declared.view.Slots.{Slots}
use Rattle.ell_runs.specs.declared.view.View.{View}
use Rattle.ell_runs.specs.Holding.{HasFlagged, HoldsWaiting}
use Rattle.ell_cards.specs.Leaks.{Holds, IsHeld, IsInFlaggedHand, Kills, NothingLeaks}
use Rattle.ell_cards.specs.Leaks.Holds.{waiting, lost}
use Rattle.ell_runs.specs.Machines.{HasMachine}
use Rattle.ell_runs.specs.Plans.{TablePlan}
use Rattle.ell_runs.specs.Views.{IsFree}
use Rattle.ell_cards.specs.Epochs.{WholeState, slot_word}
use Rattle.ell_cards.specs.SlotWords.{is_retired}
use Rattle.ell_runs.specs.States.{TableState}
use Rattle.ell_cards.specs.RefinementLaws.{left_known, right_known}
use Rattle.ell_cards.specs.Whole.{joined_known, spent_known}
use Rattle.ell_cards.proofs.lemmas.refinement.Winning.{born_won}
use Rattle.ell_cards.proofs.lemmas.whole.LeaksOfCalls.{free_no_card, killed_before, killer_in_hand, won_later}
use Rattle.ell_runs.proofs.lemmas.seats.Seats.{set_there}

-- whether one of these exchanges ends what a card is for
ends : List Exchange → Bool
ends [] = false
ends (exchange.IUnflag ∷ es) = true
ends (exchange.DUnflag ∷ es) = true
ends (exchange.Backtrack ∷ es) = true
ends (_ ∷ es) = ends es

-- a card has ended by what it has won
ended_ends : (s : Stage) → has_ended s ≡ ends (wins_of s)
unfolding ends
ended_ends Unclaimed = refl
ended_ends Opening = refl
ended_ends IClaimed = refl
ended_ends IFlagged = refl
ended_ends IChanged = refl
ended_ends IOver = refl
ended_ends RChanged = refl
ended_ends ROver = refl
ended_ends DClaimed = refl
ended_ends DFlagged = refl
ended_ends DUnmarkable = refl
ended_ends DMarked = refl
ended_ends DCut = refl
ended_ends DOver = refl
ended_ends DBacked = refl

none_more : {A : Type 0} (l : List A) → l ++ [] ≡ l
none_more [] = refl
none_more (x ∷ xs) = ap (λ l. x ∷ l) (none_more xs)

-- where nothing was won, each pass holds the slots that it held, and each flagged card is in some hand still
module _ (plan : TablePlan) (sl : Slots) (tree tree' : TableState) (t : WholeState) (views : List Known) (m : HasMachine plan tree) (m' : HasMachine plan tree') (words : WordsLater m.words m'.words)
    (later : StagesLater m.stages m'.stages) (wins : (d : ℕ) → wins_of (m'.stages d) ≡ wins_of (m.stages d) ++ []) (lie : ℕ → ℕ) (was : NothingLeaks sl t tree.views m.words m.stages lie)
    (held : (c : ℕ) → IsHeld t.views c → IsHeld views c) (hands : (c : ℕ) → IsInFlaggedHand tree.views c → IsInFlaggedHand tree'.views c) where
  ended_same : (d : ℕ) → has_ended (m'.stages d) ≡ true → has_ended (m.stages d) ≡ true
  ended_same d is = ended_ends (m.stages d) ∙ (ap ends (sym (wins d ∙ none_more (wins_of (m.stages d)))) ∙ (sym (ended_ends (m'.stages d)) ∙ is))

  claimed : (d : ℕ) → is_claimed (m.stages d) ≡ true → d < m.words.next
  claimed d is = (m.invariant.words.cards d).claimed.0 is

  lower : (d : ℕ) → is_insert (m.stages d) ≡ true → card (m.words.l d) < m.words.next
  lower d kind = claimed (card (m.words.l d)) (born_won (m.stages (card (m.words.l d))) (m.words.l d % 4) ((m.invariant.words.cards d).insert kind).lower).0

  pub leaks_handed : (homes : List (Maybe (Unit {0}))) → NothingLeaks sl (record { words = t.words; homes = homes; views = views }) tree'.views m'.words m'.stages lie
  leaks_handed homes = record {
    used = λ slot low used. elim (was.used slot low used) [
      | inl won ↦ inl (won_later m.stages m'.stages later (lie slot) won)
      | inr h ↦ inr (held (lie slot) h)
    ];
    bits = λ slot i low used is. won_later m.stages m'.stages later (lie slot) (was.bits slot i low used is);
    owed = λ slot i d low used few is kills. by slot i d low used few is kills (has_ended (m'.stages d)) refl;
  }
    where
      by : (slot i d : ℕ) → slot ≤ sl.last → get_or t.words (slot_word sl slot) 0 % 8 ≢ 0 → i < 3 → is_retired (get_or t.words (slot_word sl slot) 0) i ≡ false → Kills m'.words m'.stages d (4 * lie slot + i) → (b : Bool) → has_ended (m'.stages d) ≡ b
          → IsInFlaggedHand tree'.views d
      by slot i d low used few is kills false un = killer_in_hand plan tree' m' d (4 * lie slot + i) un kills
      by slot i d low used few is kills true ended =
          hands d (was.owed slot i d low used few is
          (killed_before m.words m'.words m.stages m'.stages words later d claimed (lower d) (ended_same d ended) (4 * lie slot + i) kills))

-- what was at a place of a list is there where one more came to its end
more_there : {A : Type 0} (l : List A) (j : ℕ) (a b : A) → get_elem? l j ≡ some a → get_elem? (l ++ b ∷ []) j ≡ some a
more_there [] j a b e = absurd (some-ne-none a (sym e))
more_there (x ∷ xs) zero a b e = e
more_there (x ∷ xs) (suc j) a b e = more_there xs j a b e

-- a pass that is split or joined has nothing in hand
module _ (plan : TablePlan) (tree : TableState) (m : HasMachine plan tree) (t : WholeState) (id : ℕ) (k : Known) (here : get_elem? t.views id ≡ some k) (there : get_elem? tree.views id ≡ some k.tree)
    (free : IsFree k.tree) (c : ℕ) where
  -- it waits for no flag
  no_waiting : HoldsWaiting k.tree c → ⊥
  no_waiting h = free_no_card plan tree m id k.tree there c free h.0

  no_flagged : HasFlagged k.tree c → ⊥
  no_flagged h = free_no_card plan tree m id k.tree there c free h.holds

  -- the left part holds what the pass held
  pub split_holds : (keys : List ℕ) → IsHeld t.views c → IsHeld (set t.views id (left_known keys k) ++ right_known keys k ∷ []) c
  split_holds keys h = elim (cases_eq h.seat id) [
    | inl e ↦
        let same : k ≡ h.knows = some-injective k h.knows (sym here ∙ (ap (get_elem? t.views) (sym e) ∙ h.there)) in
        record {
          seat = id;
          knows = left_known keys k;
          there = more_there (set t.views id (left_known keys k)) id (left_known keys k) (right_known keys k) (set_there t.views id (left_known keys k) k here);
          holds = by (subst (λ (x : Known). Holds x c) (sym same) h.holds);
        }
    | inr apart ↦ record {
      seat = h.seat;
      knows = h.knows;
      there = more_there (set t.views id (left_known keys k)) h.seat h.knows (right_known keys k) (set_else t.views id h.seat (left_known keys k) apart ∙ h.there);
      holds = h.holds;
    }
  ]
    where
      by : Holds k c → Holds (left_known keys k) c
      by (waiting at waits) = absurd (no_waiting waits)
      by (lost at) = lost at

  -- each other pass has its hand
  pub split_hands : (left right : View) → IsInFlaggedHand tree.views c → IsInFlaggedHand (set tree.views id left ++ right ∷ []) c
  split_hands left right h = elim (cases_eq h.seat id) [
    | inl e ↦
        let same : k.tree ≡ h.view = some-injective k.tree h.view (sym there ∙ (ap (get_elem? tree.views) (sym e) ∙ h.there)) in
        absurd (no_flagged (subst (λ (x : View). HasFlagged x c) (sym same) h.has))
    | inr apart ↦ record {
      seat = h.seat;
      view = h.view;
      there = more_there (set tree.views id left) h.seat h.view right (set_else tree.views id h.seat left apart ∙ h.there);
      has = h.has;
    }
  ]

module _ (plan : TablePlan) (tree : TableState) (m : HasMachine plan tree) (t : WholeState) (id other : ℕ) (k l : Known) (here : get_elem? t.views id ≡ some k) (here' : get_elem? t.views other ≡ some l)
    (there : get_elem? tree.views id ≡ some k.tree) (there' : get_elem? tree.views other ≡ some l.tree) (apart : id ≢ other) (free : IsFree k.tree) (free' : IsFree l.tree) (unlost : l.participant.lost ≡ None) (c : ℕ) where
  pub join_holds : IsHeld t.views c → IsHeld (set (set t.views id (joined_known k l)) other spent_known) c
  join_holds h = elim (cases_eq h.seat other) [
    | inl e ↦
        let same : l ≡ h.knows = some-injective l h.knows (sym here' ∙ (ap (get_elem? t.views) (sym e) ∙ h.there)) in
        absurd (theirs (subst (λ (x : Known). Holds x c) (sym same) h.holds))
    | inr not_other ↦ elim (cases_eq h.seat id) [
      | inl e ↦
          let same : k ≡ h.knows = some-injective k h.knows (sym here ∙ (ap (get_elem? t.views) (sym e) ∙ h.there)) in
          record {
            seat = id;
            knows = joined_known k l;
            there = set_else (set t.views id (joined_known k l)) other id spent_known apart ∙ set_there t.views id (joined_known k l) k here;
            holds = ours (subst (λ (x : Known). Holds x c) (sym same) h.holds);
          }
      | inr not_id ↦ record {
        seat = h.seat;
        knows = h.knows;
        there = set_else (set t.views id (joined_known k l)) other h.seat spent_known not_other ∙ (set_else t.views id h.seat (joined_known k l) not_id ∙ h.there);
        holds = h.holds;
      }
    ]
  ]
    where
      theirs : Holds l c → ⊥
      theirs (waiting at waits) = free_no_card plan tree m other l.tree there' c free' waits.0
      theirs (lost at) = some_not_none at unlost

      ours : Holds k c → Holds (joined_known k l) c
      ours (waiting at waits) = absurd (free_no_card plan tree m id k.tree there c free waits.0)
      ours (lost at) = lost at

  pub join_hands : (both spent : View) → IsInFlaggedHand tree.views c → IsInFlaggedHand (set (set tree.views id both) other spent) c
  join_hands both spent h = elim (cases_eq h.seat other) [
    | inl e ↦
        let same : l.tree ≡ h.view = some-injective l.tree h.view (sym there' ∙ (ap (get_elem? tree.views) (sym e) ∙ h.there)) in
        absurd (free_no_card plan tree m other l.tree there' c free' (subst (λ (x : View). HasFlagged x c) (sym same) h.has).holds)
    | inr not_other ↦ elim (cases_eq h.seat id) [
      | inl e ↦
          let same : k.tree ≡ h.view = some-injective k.tree h.view (sym there ∙ (ap (get_elem? tree.views) (sym e) ∙ h.there)) in
          absurd (free_no_card plan tree m id k.tree there c free (subst (λ (x : View). HasFlagged x c) (sym same) h.has).holds)
      | inr not_id ↦ record {
        seat = h.seat;
        view = h.view;
        there = set_else (set tree.views id both) other h.seat spent not_other ∙ (set_else tree.views id h.seat both not_id ∙ h.there);
        has = h.has;
      }
    ]
  ]
