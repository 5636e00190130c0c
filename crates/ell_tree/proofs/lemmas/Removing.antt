use Rattle.std.proofs.Common.{◌≡◌, ◌≢◌, ℕ, ◌==◌, if◌then◌else◌, Bool, true, false, Option, Some, None, Ok, List, [], length, ◌⊎◌, inl, inr, refl, sym, ap, ◌∙◌, eq-eqb, eqb-true}
use Rattle.std.proofs.lemmas.Bool.{false≢true}
use Rattle.ell_ops.specs.declared.op.Op.{Op}
use Rattle.ell_ops.specs.declared.op.Op.TheVariants.{Delete}
use Rattle.ell_ops.specs.declared.reply.Reply.TheVariants.{Yes}
use Rattle.ell_cards.proofs.lemmas.shown.InRuns.{given_up_last_changes_nothing}
use Rattle.ell_cards.proofs.lemmas.views.Steps.{own_trans}
use Rattle.ell_runs.specs.declared.view.Act.{Act}
use Rattle.ell_runs.specs.Plans.{TablePlan}
use Rattle.ell_cards.specs.Models.{PassModel}
use Rattle.ell_runs.specs.Seeing.{SeesBegin}
use Rattle.ell_tree.specs.declared.searching.Place.{Place}
use Rattle.ell_tree.specs.Called.{SeesTake}
use Rattle.ell_tree.specs.Computing.{IsUntouched, RemovesIf}
use Rattle.ell_tree.specs.Ends.{Answers, GivenUp, TakesValue, is_value}
use Rattle.ell_tree.specs.Ledgers.{Owns, TreeModel, present_in}
use Rattle.ell_tree.specs.Searches.{EndsAt, there_at}
use Rattle.ell_tree.specs.Tries.{Begins, Halts, GivesUp}
use Rattle.ell_tree.proofs.lemmas.Computing.{concludes}
use Rattle.ell_tree.proofs.lemmas.Keeping.{share_trans}
use Rattle.ell_tree.proofs.lemmas.Owning.{has_there, would_before}
use Rattle.ell_tree.proofs.lemmas.Sights.{sees_last, sees_none}

-- a key was found with this value, or not
pub is_that : (was : ℕ) (o : Option ℕ) → is_value was o ≡ true → o ≡ Some was
is_that was None e = absurd (false≢true e)
is_that was (Some v) e = ap Some (eqb-true v was e)

pub is_other : (was : ℕ) (o : Option ℕ) → is_value was o ≡ false → o ≢ Some was
is_other was o e same = false≢true (sym e ∙ (ap (is_value was) same ∙ eq-eqb was was refl))

-- a key was found with a value, or otherwise
pub that_or_other : (was : ℕ) (o : Option ℕ) → (o ≡ Some was) ⊎ (o ≢ Some was)
that_or_other was o = by (is_value was o) refl
  where
    by : (t : Bool) → is_value was o ≡ t → (o ≡ Some was) ⊎ (o ≢ Some was)
    by true e = inl (is_that was o e)
    by false e = inr (is_other was o e)

-- so was it where a search ended
pub at_that : (place : Place) (key was : ℕ) → is_value was (there_at place key) ≡ true → (place.key ≡ key) × (place.value ≡ was)
at_that place key was e = by (place.key == key) refl e
  where
    by : (t : Bool) → (place.key == key) ≡ t → is_value was (if t then Some place.value else None) ≡ true → (place.key ≡ key) × (place.value ≡ was)
    by true k h = (eqb-true place.key key k, eqb-true place.value was h)
    by false k h = absurd (false≢true h)

-- and if it was not, a pass that owns the key has another value there, or none
pub not_at : (plan : TablePlan) (p q : PassModel) (place : Place) (key was : ℕ) → q.view.worker.ledger ≡ p.view.worker.ledger → EndsAt plan q.view (Delete key) place
    → is_value was (there_at place key) ≡ false → Owns p key → present_in p key ≢ Some was
not_at plan p q place key was same ends e owns = λ had.
    is_other was (there_at place key) e (sym (has_there plan p q same place (Delete key) ends owns) ∙ had)

-- an operation that begins, halts at its only try, and is given up
pub halts_given_up : (t : TreeModel) (op : Op) (p q r s : PassModel) (n : ℕ) → Begins op [] n p q → SeesBegin op p.sight q.sight → Halts op q r → GivesUp op r s → GivenUp t op p s
halts_given_up t op p q r s n begins sees halts gives_up = record {
  own = own_trans p r s (own_trans p q r begins.own halts.own) gives_up.own;
  ledger = gives_up.ledger ∙ (halts.ledger ∙ begins.ledger);
  answered = ap (λ (l : List Act). length l) (sees_none op p.sight q.sight s.sight sees (gives_up.sight ∙ halts.sight)).mine;
  share = share_trans p.view r.view s.view (share_trans p.view q.view r.view begins.share halts.share) gives_up.share;
  would = would_before op p q begins.ledger halts.would;
  nothing = given_up_last_changes_nothing t.plan s.view op gives_up.given_up;
  idle = gives_up.idle;
  unpinned = gives_up.unpinned;
  no_card = gives_up.no_card;
  sees = sees_none op p.sight q.sight s.sight sees (gives_up.sight ∙ halts.sight);
}

-- what a delete took is what the key had before others that have changed nothing
pub takes_later : (t : TreeModel) (key : ℕ) (taken : Option ℕ) (p q r : PassModel) → IsUntouched p q → TakesValue t key q r taken → TakesValue t key p r taken
takes_later t key taken p q r g h = record { mine = λ owns. h.mine ((g.owned key).1 owns) ∙ g.map key; took = h.took }

-- a delete after others that have changed nothing removes what a call was to remove
pub removes : (t : TreeModel) (key was : ℕ) (there : Option ℕ) (p q r : PassModel) → there ≡ Some was → IsUntouched p q → Answers t (Delete key) Yes q r → TakesValue t key q r (Some was)
    → SeesTake key q r (Ok (Some was)) → RemovesIf t key was p r there
removes t key was there p q r that g h took sees = record {
  removed = λ same. record {
    removes = concludes t (Delete key) Yes p q r g h;
    took = takes_later t key (Some was) p q r g took;
    sees = sees_last (Delete key) Yes (Some was) p.sight q.sight r.sight g.sees sees;
  };
  left = λ other. absurd (other that);
}
