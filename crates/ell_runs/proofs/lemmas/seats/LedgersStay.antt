use Rattle.std.proofs.Common.{◌≡◌, ℕ, if◌then◌else◌, Bool, true, false, refl}
use Rattle.ell_word.specs.declared.update.Update.{Update}
use Rattle.ell_core.specs.declared.fact.Fact.{Fact}
use Rattle.ell_core.specs.declared.fact.Fact.TheVariants.{Marked}
use Rattle.ell_runs.specs.declared.view.View.{View}
use Rattle.ell_runs.specs.Changes.{after_claim, after_flag, after_mark, is_mark_of, with_fact, unmarking}
use Rattle.ell_runs.specs.declared.call.NewNode.{NewNode}

-- a claim, a flag and a mark leave the ledger
pub claim_ledger : (b : Bool) (c : ℕ) (q : NewNode) (v : View) → (after_claim b c q v).worker.ledger ≡ v.worker.ledger
claim_ledger true c q v = refl
claim_ledger false c q v = refl

pub flag_ledger : (b : Bool) (new : Fact) (x : ℕ) (u : Update) (v : View) → (after_flag b new x u v).worker.ledger ≡ v.worker.ledger
flag_ledger true new x u v = refl
flag_ledger false new x u v = refl

pub mark_ledger : (b : Bool) (c x : ℕ) (u : Update) (v : View) → (after_mark b c x u v).worker.ledger ≡ v.worker.ledger
mark_ledger true c x u v = refl
mark_ledger false c x u v = by (is_mark_of c u.state u.card)
  where
    by : (b : Bool) → (if b then with_fact (Marked c) v else unmarking c x u v).worker.ledger ≡ v.worker.ledger
    by true = refl
    by false = refl

-- a claim, a flag and a mark leave the keys that may have an owner
pub claim_list : (b : Bool) (c : ℕ) (q : NewNode) (v : View) → (after_claim b c q v).worker.shared ≡ v.worker.shared
claim_list true c q v = refl
claim_list false c q v = refl

pub flag_list : (b : Bool) (new : Fact) (x : ℕ) (u : Update) (v : View) → (after_flag b new x u v).worker.shared ≡ v.worker.shared
flag_list true new x u v = refl
flag_list false new x u v = refl

pub mark_list : (b : Bool) (c x : ℕ) (u : Update) (v : View) → (after_mark b c x u v).worker.shared ≡ v.worker.shared
mark_list true c x u v = refl
mark_list false c x u v = by (is_mark_of c u.state u.card)
  where
    by : (b : Bool) → (if b then with_fact (Marked c) v else unmarking c x u v).worker.shared ≡ v.worker.shared
    by true = refl
    by false = refl
