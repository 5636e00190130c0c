use Rattle.std.proofs.Common.{◌≡◌, ℕ, zero, suc, ◌+◌, ◌*◌, ◌/◌, ◌%◌, ◌||◌, ◌⊎◌, Bool, true, false, Option, Some, None, inl, inr, refl, sym, ap, subst, arith, ◌<◌, []}
use Rattle.ell_word.specs.Word.{state_of}
use Rattle.ell_core.specs.declared.fact.Fact.{Fact}
use Rattle.ell_core.specs.declared.fact.Fact.TheVariants as fact
use Rattle.ell_layout.specs.Words.{Words}
use Rattle.ell_core.specs.state.Facts.{Knowledge, card_of_fact, same_fact, learned, learned_any, told_by, told_by_state}
use Rattle.ell_core.specs.history.Stages.{Stages, allows}
use Rattle.ell_core.specs.history.Invariant.{UpdateIsSound, WorkerIsSound, Invariant}
use Rattle.ell_core.proofs.lemmas.stages.Order.{delete_open-won, insert_open-won}
use Rattle.ell_core.specs.declared.event.Act.{Act}
use Rattle.ell_core.specs.declared.event.Stepped.{Stepped}
use Rattle.ell_core.specs.state.Machine.{Worker, Machine, with_scene}
use Rattle.ell_core.specs.acts.Exchanges.{knowing}
use Rattle.ell_core.specs.history.Later.{Follows}
use Rattle.ell_core.specs.acts.Wins.{wins_by}
use Rattle.ell_core.proofs.lemmas.keeping.OneWorker.{TakesOn, follows_worker, takes_on_same}
use Rattle.ell_core.proofs.lemmas.keeping.going_on.InHand.{same_place, same_goal, unflagged_same, flagged_same, stands_same}
use Rattle.ell_core.proofs.lemmas.stages.Advances.{stages_same}
use Rattle.ell_core.proofs.lemmas.words.SameFact.{same_fact-equal}

-- what is known of each card is allowed by its stage
abbrev pub KnowsAllowed : Stages → Knowledge → Type 0
KnowsAllowed stage known = (fact : Fact) → known fact ≡ true → allows fact (stage (card_of_fact fact)) ≡ true

-- one of two tests is met
either : (a b : Bool) → (a || b) ≡ true → (a ≡ true) ⊎ (b ≡ true)
either true b h = inl refl
either false b h = inr h

-- an allowed fact may be learned
pub learns_fact : (stage : Stages) (known : Knowledge) (new : Fact) → KnowsAllowed stage known
    → allows new (stage (card_of_fact new)) ≡ true → KnowsAllowed stage (learned known new)
learns_fact stage known new h allowed fact knows = elim (either (same_fact fact new) (known fact) knows) [
  | inl same ↦ subst (λ f. allows f (stage (card_of_fact f)) ≡ true) (sym (same_fact-equal fact new same)) allowed
  | inr old ↦ h fact old
]

-- what is allowed may be learned, if there is anything
pub learns_any : (stage : Stages) (known : Knowledge) (new : Option Fact) → KnowsAllowed stage known
    → ((fact : Fact) → new ≡ Some fact → allows fact (stage (card_of_fact fact)) ≡ true)
    → KnowsAllowed stage (learned_any known new)
learns_any stage known None h allowed = h
learns_any stage known (Some new) h allowed = learns_fact stage known new h (allowed new refl)

-- the fact that an option has is this one
some_fact : (P : Fact → Type 0) (new tells : Fact) → Some new ≡ Some tells → P new → P tells
some_fact P new tells e h = subst P (let same : new ≡ tells = cc in same) h

-- what an update word of a state and a card tells is allowed
told_at : (w : Words) (stage : Stages) (x n c : ℕ) (tells : Fact) → UpdateIsSound w stage x → w.update x ≡ 4 * c + n
    → told_by_state (state_of n) c ≡ Some tells → allows tells (stage (card_of_fact tells)) ≡ true
told_at w stage x zero c tells sound e is =
    some_fact (λ f. allows f (stage (card_of_fact f)) ≡ true) (fact.IFlagged c) tells is
    (insert_open-won (stage c) (sound.iflagged c (omega arith)).0)
told_at w stage x (suc zero) c tells sound e is =
    some_fact (λ f. allows f (stage (card_of_fact f)) ≡ true) (fact.DFlagged c) tells is
    (delete_open-won (stage c) (sound.dflagged c (omega arith)).0)
told_at w stage x (suc (suc zero)) c tells sound e is =
    some_fact (λ f. allows f (stage (card_of_fact f)) ≡ true) (fact.Marked c) tells is (sound.marked c (omega arith)).0
told_at w stage x (suc (suc (suc n))) c tells sound e is = absurd (cc)

-- what the update word of a node tells is allowed
pub told_allowed : (w : Words) (stage : Stages) (x : ℕ) (fact : Fact) → UpdateIsSound w stage x
    → told_by (w.update x) ≡ Some fact → allows fact (stage (card_of_fact fact)) ≡ true
told_allowed w stage x fact sound tells = told_at w stage x (w.update x % 4) (w.update x / 4) fact sound (omega arith) tells

-- a worker may learn what the update word of a node tells
pub learns_word : (w : Words) (stage : Stages) (known : Knowledge) (x : ℕ) → UpdateIsSound w stage x
    → KnowsAllowed stage known → KnowsAllowed stage (learned_any known (told_by (w.update x)))
learns_word w stage known x sound h =
    learns_any stage known (told_by (w.update x)) h (λ fact tells. told_allowed w stage x fact sound tells)

-- a sound worker is sound with other knowledge that is allowed
pub sound_knowing : (w : Words) (stage : Stages) (v : Worker) (known : Knowledge) → WorkerIsSound w stage v
    → KnowsAllowed stage known → WorkerIsSound w stage (knowing v known)
sound_knowing w stage v known h allowed = record {
  facts = allowed;
  real = h.real;
  free = λ e. ap (λ u. knowing u known) (h.free e);
  owned = h.owned;
  stands = λ op x busy at. (let stood = h.stands op x busy at in
      stands_same w stage v (knowing v known) _ x (same_place v.search) refl stood.read stood);
  unflagged = λ op c busy holds f.
      unflagged_same w w stage stage v (knowing v known) op c refl (same_goal w stage c) (same_place v.search)
      (h.unflagged op c busy holds f);
  flagged = λ op c busy holds f. (let was = h.flagged op c busy holds f in
      (flagged_same w w stage stage v (knowing v known) op c (stages_same stage) (same_goal w stage c) refl was.0, was.1));
}

-- a worker may take on more knowledge
pub takes_on_knowing : (m : Machine) (stage : Stages) (i : ℕ) (known : Knowledge) → Invariant m stage
    → KnowsAllowed stage known → TakesOn m stage i (knowing (m.worker i) known)
takes_on_knowing m stage i known sound allowed = takes_on_same m stage i (knowing (m.worker i) known)
    (sound_knowing m.words stage (m.worker i) known (sound.workers.each i) allowed) refl refl refl refl refl

-- an act that only teaches its worker something, and wins nothing, leads to a state of the invariant
pub follows_knowing : (m : Machine) (stage : Stages) (a : Act) (i : ℕ) (said : Stepped) (known : Knowledge) → i < m.count
    → Invariant m stage → ((c : ℕ) → wins_by a (m.worker i).card said c ≡ []) → KnowsAllowed stage known
    → Follows m stage a i said (with_scene m i (record { words = m.words; worker = knowing (m.worker i) known }))
follows_knowing m stage a i said known there sound none allowed =
    follows_worker m stage a i said (knowing (m.worker i) known) there sound none
    (takes_on_knowing m stage i known sound allowed)
