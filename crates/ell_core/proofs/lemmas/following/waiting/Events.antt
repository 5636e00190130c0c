use Rattle.std.proofs.Common.{◌≡◌, ◌≢◌, ℕ, ◌+◌, ◌<◌, ◌==◌, if◌then◌else◌, ◌⊎◌, inl, inr, Bool, true, false, Option, Some, None, [], ◌∷◌, ◌++◌, refl, sym, ap, ◌∙◌, subst, arith}
use Rattle.std.proofs.lemmas.Bool.{cases_eq, cases_lt, false≢true, eq-eqb, ne_eqb}
use Rattle.ell_core.specs.declared.exchange.Exchange.{Exchange}
use Rattle.ell_core.specs.declared.exchange.Exchange.TheVariants as exchange
use Rattle.ell_core.specs.declared.event.Act.{Act}
use Rattle.ell_core.specs.declared.event.Act.TheVariants as act
use Rattle.ell_core.specs.declared.event.Event.{Event}
use Rattle.ell_core.specs.declared.event.Stepped.{Stepped}
use Rattle.ell_core.specs.declared.event.Stepped.TheVariants.{Won}
use Rattle.ell_layout.specs.Words.{Words, with_update, relinked}
use Rattle.ell_core.specs.state.Machine.{Machine, Scene, scene}
use Rattle.ell_core.specs.acts.Exchanges.{exchanged_update, exchanged_child, finds_link}
use Rattle.ell_layout.specs.Cards.{exchange_side}
use Rattle.ell_core.specs.acts.Events.{Row, Steps}
use Rattle.ell_core.specs.history.Stages.{Stage, Stages, is_insert, is_delete, waits}
use Rattle.ell_core.specs.history.Invariant.{Invariant}
use Rattle.ell_core.specs.history.Later.{Follows, wins_of}
use Rattle.ell_core.specs.acts.Wins.{win_for, win_by, wins_by}
use Rattle.ell_core.specs.statements.Waiting.{WinsFlag, EventsLeaveWaiting}
use Rattle.ell_core.proofs.lemmas.stages.Kinds.{HasKind, kind_later}
use Rattle.ell_core.proofs.lemmas.stages.Waiting.{waits-claimed, waits-no_start, unclaimed-no_start, waits-unborn, waits-kind, waits-wins, kind-waits, first_win, unclaimed-wins, none_before}
use Rattle.ell_core.proofs.lemmas.following.facts.Claimed.{not_claimed}
use Rattle.ell_core.proofs.lemmas.following.waiting.Cards.{claimed_waits}
use Rattle.ell_word.specs.declared.link.Link.{Link}

-- an exchange of an update word leaves the claim word
update_next : (w : Words) (x expected new : ℕ) → (exchanged_update w x expected new).next ≡ w.next
update_next w x expected new = by (w.update x == expected)
  where
    by : (b : Bool) → (if b then with_update w x new else w).next ≡ w.next
    by true = refl
    by false = refl

-- so does an exchange of a child
child_next : (w : Words) (x : ℕ) (expected : Link) (new : ℕ) → (exchanged_child w x expected new).next ≡ w.next
child_next w x expected new = by (finds_link w x expected new)
  where
    by : (b : Bool) → (if b then relinked w x (exchange_side w x new) new else w).next ≡ w.next
    by true = refl
    by false = refl

-- a claim takes the next card
claim_next : (s : Scene) (said : Stepped) (after : Scene) → Row act.Claim s said after → after.words.next ≡ s.words.next + 1
claim_next s said after (inl row) = ap (λ (t : Scene). t.words.next) row.gives
claim_next s said after (inr row) = ap (λ (t : Scene). t.words.next) row.gives

-- no other act moves the claim word
next_by_act : (a : Act) (s : Scene) (said : Stepped) (after : Scene) → Row a s said after
    → (after.words.next ≡ s.words.next) ⊎ ((a ≡ act.Claim) × (after.words.next ≡ s.words.next + 1))
next_by_act (act.Begin op) s said after row = inl (ap (λ (t : Scene). t.words.next) row.gives)
next_by_act act.Upd s said after row = inl (ap (λ (t : Scene). t.words.next) row.gives)
next_by_act act.Down s said after row = inl (ap (λ (t : Scene). t.words.next) row.gives)
next_by_act act.Claim s said after row = inr (refl, claim_next s said after row)
next_by_act act.IFlag s said after row = inl (ap (λ (t : Scene). t.words.next) row.gives ∙ update_next s.words _ _ _)
next_by_act act.DFlag s said after row = inl (ap (λ (t : Scene). t.words.next) row.gives ∙ update_next s.words _ _ _)
next_by_act (act.IChild c) s said after row = inl (ap (λ (t : Scene). t.words.next) row.gives ∙ child_next s.words _ _ _)
next_by_act (act.IUnflag c) s said after row = inl (ap (λ (t : Scene). t.words.next) row.gives ∙ update_next s.words _ _ _)
next_by_act (act.Mark c) s said after row = inl (ap (λ (t : Scene). t.words.next) row.gives ∙ update_next s.words _ _ _)
next_by_act (act.DChild c) s said after row = inl (ap (λ (t : Scene). t.words.next) row.gives ∙ child_next s.words _ _ _)
next_by_act (act.DUnflag c) s said after row = inl (ap (λ (t : Scene). t.words.next) row.does.gives ∙ update_next s.words _ _ _)
next_by_act (act.Backtrack c) s said after row = inl (ap (λ (t : Scene). t.words.next) row.does.gives ∙ update_next s.words _ _ _)
next_by_act act.Again s said after row = inl (ap (λ (t : Scene). t.words.next) row.gives)
next_by_act act.Leave s said after row = inl (ap (λ (t : Scene). t.words.next) row.gives)
next_by_act act.Answer s said after row = inl (ap (λ (t : Scene). t.words.next) row.gives)

-- a stage of an insert's or a delete's card that does not wait
pub record IsPast (s : Stage) : Type 0 where
  pub kind : (is_insert s ≡ true) ⊎ (is_delete s ≡ true)
  pub past : waits s ≡ false

-- at such a stage something was won
past_won : (s : Stage) → IsPast s → wins_of s ≢ []
past_won s h none = false≢true (sym h.past ∙ kind-waits s h.kind none)

-- what is won for a card in hand is won for that card
in_hand : (hand : Option ℕ) (k : Exchange) (c : ℕ) (s : Stage) → IsPast s → wins_of s ≡ win_for hand k c → hand ≡ Some c
in_hand None k c s h e = absurd (past_won s h e)
in_hand (Some d) k c s h e = elim (cases_eq c d) [
  | inl same ↦ ap Some (sym same)
  | inr n ↦ absurd (past_won s h (e ∙ ap (λ b. if b then k ∷ [] else []) (ne_eqb c d n)))
]

-- the first win is no other than a flag
no_first : (d c : ℕ) (k : Exchange) (s : Stage) → IsPast s → k ≢ exchange.IFlag → k ≢ exchange.DFlag → wins_of s ≡ win_for (Some d) k c → ⊥
no_first d c k s h no_iflag no_dflag e = elim (cases_eq c d) [
  | inl same ↦ elim (first_win s k (e ∙ ap (λ b. if b then k ∷ [] else []) (eq-eqb c d same))) [
    | inl i ↦ no_iflag i
    | inr f ↦ no_dflag f
  ]
  | inr n ↦ past_won s h (e ∙ ap (λ b. if b then k ∷ [] else []) (ne_eqb c d n))
]

-- an act whose first win for a card this is has flagged it
flagged_by : (a : Act) (hand : Option ℕ) (c : ℕ) (s : Stage) → IsPast s → wins_of s ≡ win_by a hand c
    → (hand ≡ Some c) × ((a ≡ act.IFlag) ⊎ (a ≡ act.DFlag))
flagged_by act.IFlag hand c s h e = (in_hand hand exchange.IFlag c s h e, inl refl)
flagged_by act.DFlag hand c s h e = (in_hand hand exchange.DFlag c s h e, inr refl)
flagged_by (act.IChild d) hand c s h e = absurd (no_first d c exchange.IChild s h (λ q. (cc)) (λ q. (cc)) e)
flagged_by (act.IUnflag d) hand c s h e = absurd (no_first d c exchange.IUnflag s h (λ q. (cc)) (λ q. (cc)) e)
flagged_by (act.Mark d) hand c s h e = absurd (no_first d c exchange.Mark s h (λ q. (cc)) (λ q. (cc)) e)
flagged_by (act.DChild d) hand c s h e = absurd (no_first d c exchange.DChild s h (λ q. (cc)) (λ q. (cc)) e)
flagged_by (act.DUnflag d) hand c s h e = absurd (no_first d c exchange.DUnflag s h (λ q. (cc)) (λ q. (cc)) e)
flagged_by (act.Backtrack d) hand c s h e = absurd (no_first d c exchange.Backtrack s h (λ q. (cc)) (λ q. (cc)) e)
flagged_by _ hand c s h e = absurd (past_won s h e)

-- so has an answered one, and it was won
flagged_as : (a : Act) (hand : Option ℕ) (said : Stepped) (c : ℕ) (s : Stage) → IsPast s → wins_of s ≡ wins_by a hand said c
    → (said ≡ Won) × ((hand ≡ Some c) × ((a ≡ act.IFlag) ⊎ (a ≡ act.DFlag)))
flagged_as a hand Won c s h e = (refl, flagged_by a hand c s h e)
flagged_as a hand _ c s h e = absurd (past_won s h e)

-- a claim wins nothing
claim_no_win : (hand : Option ℕ) (said : Stepped) (c : ℕ) → wins_by act.Claim hand said c ≡ []
claim_no_win hand Won c = refl
claim_no_win hand _ c = refl

module _ (m : Machine) (stage : Stages) (e : Event) (said : Stepped) (m' : Machine) (invariant : Invariant m stage) (h : Steps m e said m')
    (follows : Follows m stage e.act e.worker said m') where
  -- what an event wins for a card that waits is all that the card has won after it
  won_first : (c : ℕ) → waits (stage c) ≡ true → wins_of (follows.stages c) ≡ wins_by e.act (m.worker e.worker).card said c
  won_first c wait = follows.wins c ∙ ap (λ first. first ++ wins_by e.act (m.worker e.worker).card said c) (waits-wins (stage c) wait)

  -- the card stays of its kind
  kind_stays : (c : ℕ) → waits (stage c) ≡ true → HasKind follows.stages c
  kind_stays c wait = kind_later stage follows.stages c follows.later (waits-kind (stage c) wait)

  -- it leaves off waiting by its flag
  ends_by_flag : (c : ℕ) → waits (stage c) ≡ true → waits (follows.stages c) ≡ false → WinsFlag m e said c
  ends_by_flag c wait past =
      let at = flagged_as e.act (m.worker e.worker).card said c (follows.stages c)
      (record { kind = kind_stays c wait; past = past }) (won_first c wait) in
      record { won = at.0; holds = at.1.0; flags = at.1.1 }

  -- a card that was claimed before does not begin to wait
  claimed_stays : (c : ℕ) → c < m.words.next → waits (follows.stages c) ≡ true → waits (stage c) ≡ true
  claimed_stays c below wait = claimed_waits m stage invariant c below (sym (follows.later.start c) ∙ waits-no_start (follows.stages c) wait)
      (none_before (wins_of (stage c)) (wins_by e.act (m.worker e.worker).card said c)
      (sym (follows.wins c) ∙ waits-wins (follows.stages c) wait))

  -- none but the next card does
  begins_by_claim : (c : ℕ) → waits (stage c) ≡ false → waits (follows.stages c) ≡ true → (e.act ≡ act.Claim) × (c ≡ m.words.next)
  begins_by_claim c calm wait = elim (cases_lt c m.words.next) [
    | inl below ↦ absurd (false≢true (sym calm ∙ claimed_stays c below wait))
    | inr past ↦
        let claimed = (follows.invariant.words.cards c).claimed.0 (waits-claimed (follows.stages c) wait) in
        let same = ap (λ (n : Machine). n.words.next) h.gives in
        elim (next_by_act e.act (scene m e.worker) said h.becomes h.happens.row) [
          | inl still ↦ absurd (omega arith)
          | inr by ↦ (by.0, (let more = by.1 in omega arith))
        ]
  ]

  -- and that one by every claim
  claim_begins : e.act ≡ act.Claim → waits (follows.stages m.words.next) ≡ true
  claim_begins is =
      let row = subst (λ a. Row a (scene m e.worker) said h.becomes) is h.happens.row in
      let more = claim_next (scene m e.worker) said h.becomes row in
      let same = ap (λ (n : Machine). n.words.next) h.gives in
      let some = invariant.kinds.some in
      claimed_waits m' follows.stages follows.invariant m.words.next (omega arith)
      (follows.later.start m.words.next ∙ unclaimed-no_start (stage m.words.next) (not_claimed m.words stage invariant.words m.words.next (omega arith)))
      (follows.wins m.words.next ∙ none)
    where
      none : wins_of (stage m.words.next) ++ wins_by e.act (m.worker e.worker).card said m.words.next ≡ []
      none = ap (λ first. first ++ wins_by e.act (m.worker e.worker).card said m.words.next) unwon
          ∙ (ap (λ a. wins_by a (m.worker e.worker).card said m.words.next) is ∙ claim_no_win (m.worker e.worker).card said m.words.next)
        where
          unwon : wins_of (stage m.words.next) ≡ []
          unwon = unclaimed-wins (stage m.words.next) (not_claimed m.words stage invariant.words m.words.next (omega arith))

-- what an event does to the cards that wait
pub events_leave_waiting : EventsLeaveWaiting
events_leave_waiting m stage e said m' invariant h follows = record {
  words = λ c wait. follows.unborn c ((invariant.words.cards c).claimed.0 (waits-claimed (stage c) wait)) (waits-unborn (stage c) wait);
  stays = λ c wait none. kind-waits (follows.stages c) (kind_stays m stage e said m' invariant h follows c wait)
      (won_first m stage e said m' invariant h follows c wait ∙ none);
  ends = ends_by_flag m stage e said m' invariant h follows;
  begins = begins_by_claim m stage e said m' invariant h follows;
  claims = claim_begins m stage e said m' invariant h follows;
}
