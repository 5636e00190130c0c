use Rattle.std.proofs.Common.{◌≡◌, ℕ, ◌≤◌, if◌then◌else◌, Bool, true, false, Some, None, Result, Ok, Err, List, [], ◌∷◌, ◌++◌, IfSome, IfErr, refl, sym, ap, subst, is_ok, arith}
use Rattle.ell_word.specs.declared.update.Update.{Update}
use Rattle.ell_word.specs.Word.{unpacked}
use Rattle.ell_core.specs.declared.exchange.Exchange.TheVariants as exchange
use Rattle.ell_core.specs.declared.fact.Fact.TheVariants as fact
use Rattle.ell_runs.specs.declared.view.Told.TheVariants.{Met}
use Rattle.ell_runs.specs.declared.view.Hindrance.{Hindrance}
use Rattle.ell_runs.specs.declared.view.Hindrance.TheVariants.{Found}
use Rattle.ell_runs.specs.declared.view.View.{View}
use Rattle.ell_cards.specs.Models.{PassModel, Steps}
use Rattle.ell_runs.specs.Views.{Knows}
use Rattle.ell_runs.specs.Changes.{with_fact, if_won, exchanged, found_word, found_update, is_mark_of, is_this, unmarking, after_mark}
use Rattle.ell_runs.proofs.lemmas.views.Facts.{knows_new, knows_more, facts_by_more}
use Rattle.ell_runs.proofs.lemmas.views.Entries.{places_more}
use Rattle.ell_cards.proofs.lemmas.views.Steps.{view_after}
use Rattle.ell_tree.specs.Keeping.{LosesNothing, KeepsAllButMet, IsInnerMet}
use Rattle.ell_tree.specs.Helps.{IsLost, found_instead, met_by_mark}
use Rattle.ell_tree.proofs.lemmas.Keeping.{keeps_but_met_step, learning_keeps, place_told}

-- the view after a mark that was answered so
abbrev marking : ℕ → ℕ → ℕ → Result (Unit {0}) Update → View → View
marking c p was r v = exchanged (if_won (is_ok r) exchange.Mark c) (found_word was r) (after_mark (is_ok r) c p (found_update (unpacked was) r) v)

-- what a lost mark found is of the try in hand, if it is in the way
if_found : (b : Bool) (h : Hindrance) (old met hs : List Hindrance) → old ≡ met ++ hs → (if b then h ∷ old else old) ≡ (if b then h ∷ met else met) ++ hs
if_found true h old met hs e = ap (λ ks. h ∷ ks) e
if_found false h old met hs e = e

unmarking_keeps : (n c p : ℕ) (u : Update) (v : View) → LosesNothing v (exchanged [] n (unmarking c p u v))
unmarking_keeps n c p u v = record {
  ledger = refl;
  operation = refl;
  share = record { share = refl; ownable = refl };
  knows = λ g h. facts_by_more u.state u.card (fact.Unmarkable c ∷ v.worker.knows) g (knows_more (fact.Unmarkable c) g v.worker.knows h);
  told = places_more p u.state u.card v.told;
  before = refl;
  least = omega arith;
  hindered = refl;
  earlier = λ hs e. if_found (is_this v.worker.card c) (Found u) v.hindrances v.met hs e;
}

module _ (n c p : ℕ) (u : Update) (old new : PassModel) where
  -- the mark was found to stand, or another update
  abbrev either : Bool → View
  either b = exchanged [] n (if b then with_fact (fact.Marked c) old.view else unmarking c p u old.view)

  either_works : (b : Bool) → Steps old new (either b) → KeepsAllButMet old new 1
  either_works true s = keeps_but_met_step old new (either true) s (learning_keeps [] n (fact.Marked c) old.view) refl refl refl refl refl
  either_works false s = keeps_but_met_step old new (either false) s (unmarking_keeps n c p u old.view) refl refl refl refl refl

  either_met : (b : Bool) → Steps old new (either b) → new.view.hindrances ≡ met_by_mark c (if b then None else Some u) old.view
  either_met true s = ap (λ (w : View). w.hindrances) (view_after old new (either true) s)
  either_met false s = ap (λ (w : View). w.hindrances) (view_after old new (either false) s)

  either_marked : (b : Bool) → Steps old new (either b) → (if b then None else Some u) ≡ None → Knows new.view (fact.Marked c)
  either_marked true s e = subst (λ (w : View). Knows w (fact.Marked c)) (sym (view_after old new (either true) s)) (knows_new (fact.Marked c) old.view.worker.knows)
  either_marked false s e = cc

  either_lost : (cards : ℕ) (b : Bool) → Steps old new (either b) → IsInnerMet cards old.view p → u.card ≤ cards
      → IfSome (if b then None else Some u) (λ x. IsLost cards c p x new.view)
  either_lost cards true s node named = tt
  either_lost cards false s node named = subst (λ (w : View). IsLost cards c p u w) (sym (view_after old new (either false) s)) (record {
    knows = facts_by_more u.state u.card (fact.Unmarkable c ∷ old.view.worker.knows) (fact.Unmarkable c) (knows_new (fact.Unmarkable c) old.view.worker.knows);
    seen = record {
      node = record { met = places_more p u.state u.card old.view.told (Met p) node.met; inner = node.inner; there = node.there };
      named = named;
      place = place_told p u.state u.card (with_fact (fact.Unmarkable c) old.view) (either false) refl refl;
    };
  })

module _ (c p was : ℕ) (old new : PassModel) where
  pub mark_works : (r : Result (Unit {0}) Update) → Steps old new (marking c p was r old.view) → KeepsAllButMet old new 1
  mark_works (Ok won) s = keeps_but_met_step old new (marking c p was (Ok won) old.view) s (learning_keeps (if_won true exchange.Mark c) was (fact.Marked c) old.view) refl refl refl refl refl
  mark_works (Err u) s = either_works (found_word was (Err u)) c p u old new (is_mark_of c u.state u.card) s

  pub mark_met : (r : Result (Unit {0}) Update) → Steps old new (marking c p was r old.view)
      → new.view.hindrances ≡ met_by_mark c (found_instead c r) old.view
  mark_met (Ok won) s = ap (λ (w : View). w.hindrances) (view_after old new (marking c p was (Ok won) old.view) s)
  mark_met (Err u) s = either_met (found_word was (Err u)) c p u old new (is_mark_of c u.state u.card) s

  pub mark_marked : (r : Result (Unit {0}) Update) → Steps old new (marking c p was r old.view) → found_instead c r ≡ None → Knows new.view (fact.Marked c)
  mark_marked (Ok won) s e = subst (λ (w : View). Knows w (fact.Marked c)) (sym (view_after old new (marking c p was (Ok won) old.view) s)) (knows_new (fact.Marked c) old.view.worker.knows)
  mark_marked (Err u) s e = either_marked (found_word was (Err u)) c p u old new (is_mark_of c u.state u.card) s e

  pub mark_lost : (cards : ℕ) (r : Result (Unit {0}) Update) → Steps old new (marking c p was r old.view) → IsInnerMet cards old.view p
      → IfErr r (λ u. u.card ≤ cards) → IfSome (found_instead c r) (λ u. IsLost cards c p u new.view)
  mark_lost cards (Ok won) s node named = tt
  mark_lost cards (Err u) s node named = either_lost (found_word was (Err u)) c p u old new cards (is_mark_of c u.state u.card) s node named
