-- What passes have retired for their cards stays retired, whoever makes a step.
use Rattle.std.proofs.Common.{◌≡◌, ◌≢◌, ℕ, ◌+◌, ◌*◌, ◌<◌, ◌≤◌, Some, List, get_or, set, inl, inr, refl, sym, ap, ◌∙◌, subst, ⊎_elim, arith}
use mathlib.Core.Option.{some}
use lib.ListN.{get_elem?}
use Rattle.atomic_table.proofs.Lists.{at_set}
use Rattle.ell_layout.specs.Words.{Words}
use Rattle.ell_core.specs.history.Later.{WordsLater}
use Rattle.ell_core.specs.state.Machine.{Worker}
use Rattle.ell_core.proofs.lemmas.following.waiting.Cards.{hand_claimed}
use Rattle.ell_grace.specs.Dead.{HasUses}
use Rattle.ell_runs.specs.declared.call.Call.{Call}
use Rattle.ell_cards.specs.declared.view.Known.{Known}
use Rattle.ell_cards.specs.declared.view.Participant.{Participant}
use Rattle.ell_cards.specs.declared.view.Retired.{Retired}
use Rattle.ell_runs.specs.declared.view.Sight.{Sight}
use Rattle.ell_runs.specs.declared.view.Slots.{Slots}
use Rattle.ell_cards.specs.Ages.{IsOut, IsRetiredThere, AreRetired, RetiredStaysRetired}
use Rattle.ell_runs.specs.Calls.{May}
use Rattle.ell_runs.specs.Laws.{machine_of_table}
use Rattle.ell_runs.specs.Machines.{HasMachine}
use Rattle.ell_runs.specs.Plans.{TablePlan}
use Rattle.ell_cards.specs.Epochs.{WholeState, slot_word}
use Rattle.ell_runs.specs.States.{TableState}
use Rattle.ell_runs.specs.Turns.{found_by, view_after}
use Rattle.ell_cards.specs.Whole.{trees_of}
use Rattle.ell_runs.proofs.lemmas.runs.Hands.{call_held}
use Rattle.ell_runs.proofs.lemmas.seats.Seats.{mine_is}
use Rattle.ell_cards.proofs.lemmas.whole.Ages.{retired_same}
use Rattle.ell_cards.proofs.lemmas.whole.Trees.{tree_at}

-- what is so of what was retired is so of it later, by later words
pub retired_are : (w w' : Words) (c : ℕ) (retired : Retired) (P Q : ℕ → Type 0) → w'.p c ≡ w.p c → w'.l c ≡ w.l c → ((x : ℕ) → P x → Q x)
    → AreRetired w c retired P → AreRetired w' c retired Q
retired_are w w' c retired P Q parent leaf so h = record {
  parent = λ is. subst Q (sym parent) (so (w.p c) (h.parent is));
  leaf = λ is. subst Q (sym leaf) (so (w.l c) (h.leaf is));
  own = λ i is. so (4 * c + i) (h.own i is);
}

-- some pass had a card in hand, whose slot it had taken, and had retired this for it
pub record HadInHand (views : List Known) (c : ℕ) (had : Retired) : Type 0 where
  pub seat : ℕ
  pub knows : Known
  pub there : get_elem? views seat ≡ some knows
  pub slot : knows.participant.slot ≡ Some c
  pub hand : knows.tree.worker.card ≡ Some c
  pub retired : knows.participant.retired ≡ had

module _ (plan : TablePlan) (s : Slots) (tree : TableState) (machine : HasMachine plan tree) (uses : HasUses (machine_of_table plan tree machine)) where
  abbrev OutThere : List ℕ → (ℕ → ℕ) → ℕ → Type 0
  OutThere words lie x = IsOut plan tree machine uses x × IsRetiredThere s words lie x

  -- where a pass knows something else of epochs, and what was retired is retired
  pub retired_of_participant : (t : WholeState) (id : ℕ) (k : Known) → get_elem? t.views id ≡ some k → (g : Sight) (p : Participant) (words : List ℕ) (lie lie' : ℕ → ℕ)
      → ((x : ℕ) → IsOut plan tree machine uses x → IsRetiredThere s t.words lie x → IsRetiredThere s words lie' x)
      → ((c : ℕ) → p.slot ≡ Some c → k.tree.worker.card ≡ Some c → AreRetired machine.words c p.retired (OutThere words lie'))
      → RetiredStaysRetired plan s tree t machine uses lie
      → RetiredStaysRetired plan s tree (record { words = words; homes = t.homes; views = set t.views id (record k { participant = p; sight = g }) }) machine uses lie'
  retired_of_participant t id k here g p words lie lie' keeps mine h seat c u at slot hand = ⊎_elim
      (λ (e : (seat ≡ id) × (now ≡ u)).
      subst (λ (x : Known). x.participant.slot ≡ Some c → x.tree.worker.card ≡ Some c → AreRetired machine.words c x.participant.retired (OutThere words lie')) e.1 (mine c) slot hand)
      (λ (e : (seat ≢ id) × (get_elem? t.views seat ≡ some u)).
      retired_are machine.words machine.words c u.participant.retired (OutThere t.words lie) (OutThere words lie') refl refl (λ x is. (is.0, keeps x is.0 is.1)) (h seat c u e.1 slot hand))
      (at_set t.views id seat now u at)
    where
      now : Known
      now = record k { participant = p; sight = g }

  -- where the pass has retired no more, and has the slot that it had
  pub retired_so : (t : WholeState) (id : ℕ) (k : Known) → get_elem? t.views id ≡ some k → (g : Sight) (p : Participant) → p.slot ≡ k.participant.slot → p.retired ≡ k.participant.retired
      → (words : List ℕ) (lie lie' : ℕ → ℕ)
      → ((x : ℕ) → IsOut plan tree machine uses x → IsRetiredThere s t.words lie x → IsRetiredThere s words lie' x)
      → RetiredStaysRetired plan s tree t machine uses lie
      → RetiredStaysRetired plan s tree (record { words = words; homes = t.homes; views = set t.views id (record k { participant = p; sight = g }) }) machine uses lie'
  retired_so t id k here g p slot same words lie lie' keeps h =
      retired_of_participant t id k here g p words lie lie' keeps
      (λ c has hand. subst (λ r. AreRetired machine.words c r (OutThere words lie')) (sym same)
      (retired_are machine.words machine.words c k.participant.retired (OutThere t.words lie) (OutThere words lie') refl refl (λ x is. (is.0, keeps x is.0 is.1)) (h id c k here (sym slot ∙ has) hand))) h

  -- a card in hand was claimed
  claimed_hand : (t : WholeState) → trees_of t.views ≡ tree.views → (seat c : ℕ) (k : Known) → get_elem? t.views seat ≡ some k → k.tree.worker.card ≡ Some c → c < machine.words.next
  claimed_hand t same seat c k at hand =
      let there : get_elem? tree.views seat ≡ some k.tree = ap (λ l. get_elem? l seat) (sym same) ∙ tree_at t.views seat k at in
      (machine.invariant.words.cards c).claimed.0
      (hand_claimed machine.words machine.stages ((machine_of_table plan tree machine).worker seat) c (machine.invariant.workers.each seat)
      (ap (λ (u : Worker). u.card) (mine_is plan tree machine seat k.tree there) ∙ hand))

  -- where the tree has gone on, by whose hand each card was in before
  module _ (tree' : TableState) (next : HasMachine plan tree') (used : HasUses (machine_of_table plan tree' next)) (later : WordsLater machine.words next.words)
      (out_still : (x : ℕ) → IsOut plan tree machine uses x → IsOut plan tree' next used x) where
    abbrev OutNext : List ℕ → (ℕ → ℕ) → ℕ → Type 0
    OutNext words lie x = IsOut plan tree' next used x × IsRetiredThere s words lie x

    pub retired_on : (t t' : WholeState) (lie : ℕ → ℕ) → trees_of t.views ≡ tree.views
        → ((slot : ℕ) → slot ≤ s.last → get_or t'.words (slot_word s slot) 0 ≡ get_or t.words (slot_word s slot) 0)
        → ((seat c : ℕ) (u : Known) → get_elem? t'.views seat ≡ some u → u.participant.slot ≡ Some c → u.tree.worker.card ≡ Some c
        → HadInHand t.views c u.participant.retired)
        → RetiredStaysRetired plan s tree t machine uses lie → RetiredStaysRetired plan s tree' t' next used lie
    retired_on t t' lie views same was h seat c u at slot hand =
        let b = was seat c u at slot hand in
        let info = later.info c (claimed_hand t views b.seat c b.knows b.there b.hand) in
        subst (λ r. AreRetired next.words c r (OutNext t'.words lie)) b.retired
        (retired_are machine.words next.words c b.knows.participant.retired (OutThere t.words lie) (OutNext t'.words lie) info.p info.l
        (λ x is. (out_still x is.0, retired_same plan s t.words t'.words lie same x is.1)) (h b.seat c b.knows b.there b.slot b.hand))

-- a card in hand after a call whose slot the pass had taken was in hand before it: a card that is claimed has none yet
pub held_before : (plan : TablePlan) (tree : TableState) (c : Call) (k : Known) (d : ℕ) → May plan c k.tree → ((e : ℕ) → k.participant.slot ≡ Some e → e < get_or tree.words 0 0)
    → k.participant.slot ≡ Some d → (view_after tree k.tree c).worker.card ≡ Some d → k.tree.worker.card ≡ Some d
held_before plan tree c k d may past slot hand = elim (call_held plan c (found_by tree c) k.tree may d hand) [
  | inl was ↦ was
  | inr claim ↦
      let is : found_by tree c ≡ get_or tree.words 0 0 = ap (found_by tree) claim.0.1 in
      let low = past d slot in
      absurd (by is claim.1 low)
]
  where
    by : found_by tree c ≡ get_or tree.words 0 0 → found_by tree c ≡ d → d < get_or tree.words 0 0 → ⊥
    by a b low = omega (arith, a, b, low)
