use Rattle.std.proofs.Math.Nat.{mul-le-mul_right}
use Rattle.std.proofs.Common.{◌≡◌, ◌≢◌, ℕ, zero, suc, ◌+◌, ◌-◌, ◌*◌, ◌<◌, ◌≤◌, if◌then◌else◌, inl, inr, Bool, true, false, List, refl, sym, ap, ◌∙◌, subst, arith, [], ◌∷◌, ◌++◌}
use Rattle.std.proofs.lemmas.Bool.{false≢true, or_left, or_right, cases_eq, or_cases}
use Rattle.ell_word.specs.declared.update.State.{State}
use Rattle.ell_word.specs.declared.update.State.TheVariants as state
use Rattle.ell_core.specs.declared.fact.Fact.{Fact}
use Rattle.ell_core.specs.declared.fact.Fact.TheVariants as fact
use Rattle.ell_core.specs.state.Facts.{known_of, same_fact}
use Rattle.ell_runs.specs.declared.view.View.{View}
use Rattle.ell_runs.specs.Plans.{TablePlan}
use Rattle.ell_cards.specs.Models.{PassModel}
use Rattle.ell_runs.specs.Views.{EndedBy, EndWasUnknown, Knows, knows_end}
use Rattle.ell_runs.proofs.lemmas.views.Facts.{ended_test, test_ended}
use Rattle.ell_tree.specs.Counts.{IsAmortized, TookIn}
use Rattle.ell_tree.specs.Ends.{try_steps_in}
use Rattle.ell_tree.specs.Hindrances.{IsEnded}
use Rattle.ell_tree.specs.Milestones.{GivesOut, SeesMilestone, ends_known, milestones_known}

-- what was known stays known
ended_still : (f g : List Fact) → ((x : Fact) → known_of f x ≡ true → known_of g x ≡ true) → (c : ℕ) → EndedBy f c → EndedBy g c
ended_still f g k c (inl h) = inl (k (fact.IOver c) h)
ended_still f g k c (inr (inl h)) = inr (inl (k (fact.DOver c) h))
ended_still f g k c (inr (inr h)) = inr (inr (k (fact.Backed c) h))

test_still : (f g : List Fact) → ((x : Fact) → known_of f x ≡ true → known_of g x ≡ true) → (c : ℕ) → knows_end f c ≡ true → knows_end g c ≡ true
test_still f g k c h = ended_test g c (ended_still f g k c (test_ended f c h))

-- no more cards have ended than there are
pub ends_most : (n : ℕ) (f : List Fact) → ends_known n f ≤ n
ends_most zero f = omega arith
ends_most (suc n) f = by (knows_end f (suc n)) (ends_most n f)
  where
    by : (b : Bool) → ends_known n f ≤ n → (if b then 1 else 0) + ends_known n f ≤ suc n
    by true h = omega arith
    by false h = omega arith

-- where what was known stays known, no fewer have
pub ends_more : (n : ℕ) (f g : List Fact) → ((c : ℕ) → knows_end f c ≡ true → knows_end g c ≡ true) → ends_known n f ≤ ends_known n g
ends_more zero f g k = omega arith
ends_more (suc n) f g k = by (knows_end f (suc n)) (knows_end g (suc n)) (k (suc n)) (ends_more n f g k)
  where
    by : (a b : Bool) → (a ≡ true → b ≡ true) → ends_known n f ≤ ends_known n g
        → (if a then 1 else 0) + ends_known n f ≤ (if b then 1 else 0) + ends_known n g
    by true true i h = omega arith
    by true false i h = absurd (false≢true (i refl))
    by false true i h = omega arith
    by false false i h = omega arith

-- and where one has that had not, more
pub ends_one : (n : ℕ) (f g : List Fact) → ((c : ℕ) → knows_end f c ≡ true → knows_end g c ≡ true)
    → (c : ℕ) → 0 < c → c ≤ n → knows_end f c ≢ true → knows_end g c ≡ true → ends_known n f + 1 ≤ ends_known n g
ends_one zero f g k c first last before after = absurd (omega arith)
ends_one (suc n) f g k c first last before after = elim (cases_eq c (suc n)) [
  | inl e ↦ here (knows_end f (suc n)) (knows_end g (suc n)) (λ h. before (ap (knows_end f) e ∙ h)) (sym (ap (knows_end g) e) ∙ after) (ends_more n f g k)
  | inr m ↦ below (knows_end f (suc n)) (knows_end g (suc n)) (k (suc n)) (ends_one n f g k c first (omega arith) before after)
]
  where
    here : (a b : Bool) → (a ≡ true → ⊥) → b ≡ true → ends_known n f ≤ ends_known n g
        → ((if a then 1 else 0) + ends_known n f) + 1 ≤ (if b then 1 else 0) + ends_known n g
    here true b n y h = absurd (n refl)
    here false true n y h = omega arith
    here false false n y h = absurd (false≢true y)

    below : (a b : Bool) → (a ≡ true → b ≡ true) → ends_known n f + 1 ≤ ends_known n g
        → ((if a then 1 else 0) + ends_known n f) + 1 ≤ (if b then 1 else 0) + ends_known n g
    below true true i h = omega arith
    below true false i h = absurd (false≢true (i refl))
    below false true i h = omega arith
    below false false i h = omega arith

-- a pass that saw a move since it began its search, with what it knew then, knows of one more
pub milestones_one : (cards : ℕ) (u v w : View) → v.knew_before ≡ u.worker.knows → v.next_at_least ≡ u.next_at_least
    → ((f : Fact) → Knows u f → Knows w f) → SeesMilestone cards v w → milestones_known cards u + 1 ≤ milestones_known cards w
milestones_one cards u v w before least k (inl g) =
    let more = ends_more cards u.worker.knows w.worker.knows (test_still u.worker.knows w.worker.knows k) in
    omega (arith, more, least, g.first, g.before, g.after)
milestones_one cards u v w before least k (inr e) =
    let more = ends_one cards u.worker.knows w.worker.knows (test_still u.worker.knows w.worker.knows k) e.card e.first e.last
    (λ h. e.before (subst (λ (fs : List Fact). EndedBy fs e.card) (sym before) (test_ended u.worker.knows e.card h)))
    (ended_test w.worker.knows e.card e.after) in
    omega (arith, more, least, e.least)

-- what a help ended is over
pub help_ended : (w : View) (s : State) (c : ℕ) → s ≢ state.Clean → IsEnded w s c → EndedBy w.worker.knows c
help_ended w state.IFlag c n h = inl h
help_ended w state.DFlag c n h = inr h
help_ended w state.Mark c n h = inr (inl h)
help_ended w state.Clean c n h = absurd (n refl)

-- an update that was read in the way was helped to its end
pub sees_end : (cards : ℕ) (v s w : View) (st : State) (c : ℕ) → s.knew_before ≡ v.knew_before → EndWasUnknown s st c → c ≤ cards → st ≢ state.Clean → IsEnded w st c
    → v.next_at_least ≤ w.next_at_least → SeesMilestone cards v w
sees_end cards v s w st c before unknown last stands ended least =
    let is = unknown stands in
    inr (record {
      card = c;
      first = is.0;
      last = last;
      before = subst (λ (fs : List Fact). ¬ EndedBy fs c) before is.1;
      after = help_ended w st c stands ended;
      least = least;
    })

-- a card that was given out on the way
pub gives_out : (cards : ℕ) (v s t w : View) → v.next_at_least ≤ s.next_at_least → GivesOut cards s t → t.next_at_least ≤ w.next_at_least → SeesMilestone cards v w
gives_out cards v s t w low g same = inl (record {
  card = g.card;
  first = g.first;
  last = g.last;
  before = omega (arith, low, g.before);
  after = omega (arith, same, g.after);
})

-- steps that forget nothing leave the milestones known
pub milestones_still : (cards : ℕ) (u v : View) → ((f : Fact) → Knows u f → Knows v f) → v.next_at_least ≡ u.next_at_least → milestones_known cards u ≤ milestones_known cards v
milestones_still cards u v k least =
    let more = ends_more cards u.worker.knows v.worker.knows (test_still u.worker.knows v.worker.knows k) in omega (arith, more, least)

pub milestones_more : (cards : ℕ) (u v : View) → ((f : Fact) → Knows u f → Knows v f) → u.next_at_least ≤ v.next_at_least → milestones_known cards u ≤ milestones_known cards v
milestones_more cards u v k least =
    let more = ends_more cards u.worker.knows v.worker.knows (test_still u.worker.knows v.worker.knows k) in omega (arith, more, least)

-- after a pass has given its operation up, they are the same
pub milestones_same : (cards : ℕ) (u v : View) → v.worker.knows ≡ u.worker.knows → v.next_at_least ≡ u.next_at_least → milestones_known cards v ≡ milestones_known cards u
milestones_same cards u v facts least = λ t. ends_known cards (facts t) + (least t - 1)

-- there are no more milestones than two of each card
pub milestones_most : (cards : ℕ) (v : View) → v.next_at_least ≤ cards + 1 → milestones_known cards v ≤ 2 * cards
milestones_most cards v room = let most = ends_most cards v.worker.knows in omega (arith, most, room)

-- so many rounds of so many steps at most, each of which but the last saw a move
amortized_steps : (a b r start after most : ℕ) → a + r ≤ b → after ≤ start + ((r + 1) * most + 1) → after + a * most ≤ start + (b + 1) * most + 1
amortized_steps a b r start after most on steps =
    let all = mul-le-mul_right {m = a + r + 1} {n = b + 1} most (omega (arith, on)) in
    omega (arith, steps, all)

pub amortized : (plan : TablePlan) (r : ℕ) (old new : PassModel) → milestones_known plan.last_card old.view + r ≤ milestones_known plan.last_card new.view
    → TookIn plan old new ((r + 1) * try_steps_in plan + 1) → IsAmortized plan old new
amortized plan r old new on took =
    let a = milestones_known plan.last_card old.view in
    let b = milestones_known plan.last_card new.view in
    record {
      steps = amortized_steps a b r old.steps new.steps (try_steps_in plan) on took.steps;
      made = λ plain. amortized_steps a b r old.view.made new.view.made (try_steps_in plan) on (took.made plain);
    }

-- a pass that knows nothing
ends_none : (n : ℕ) → ends_known n [] ≡ 0
ends_none zero = refl
ends_none (suc n) = let none = ends_none n in omega (arith, none)

pub milestones_none : (cards : ℕ) → ends_known cards [] + (0 - 1) ≡ 0
milestones_none cards = let none = ends_none cards in omega (arith, none)

-- what one of two lists of facts has, both together have
pub known_left : (a b : List Fact) (f : Fact) → known_of a f ≡ true → known_of (a ++ b) f ≡ true
known_left [] b f h = absurd (false≢true h)
known_left (x ∷ a) b f h = elim (or_cases (same_fact f x) (known_of a f) h) [
  | inl e ↦ or_left (same_fact f x) (known_of (a ++ b) f) e
  | inr g ↦ or_right (same_fact f x) (known_of (a ++ b) f) (known_left a b f g)
]

pub known_right : (a b : List Fact) (f : Fact) → known_of b f ≡ true → known_of (a ++ b) f ≡ true
known_right [] b f h = h
known_right (x ∷ a) b f h = or_right (same_fact f x) (known_of (a ++ b) f) (known_right a b f h)
