use Rattle.std.proofs.Common.{◌≡◌, ℕ, ◌≤◌, All, None, List, [], ◌∷◌, ◌++◌, Result, Ok, Err, IfErr, length, get_or, arith, refl, sym, subst, ◌∙◌}
use Rattle.std.specs.Result.{IsErrAnd}
use Rattle.std.proofs.lemmas.Bool.{cond-true}
use Rattle.std.proofs.lemmas.List.{append-nil}
use Rattle.ell_ops.specs.KeySet.{Lists, set_of}
use Rattle.ell_ops.specs.Meaning.{key_of}
use Rattle.ell_parts.specs.PartedOps.{PartedOps, IsLawful, keys_of_ops}
use Rattle.ell_runs.specs.Plans.{TablePlan}
use Rattle.ell_tree.specs.Ledgers.{PassModel, TreeModel, Owns, IsIdle, ledger}
use Rattle.ell_tree.specs.PassParts.{IsLeftPart, IsRightPart, IsUnion}
use Rattle.ell_run.specs.Pieces.{all_workers}
use Rattle.ell_run.specs.Work.{AreHalves, AreReady, IsWorked, IsWorkedWithin}
use Rattle.ell_run.specs.WorkFault.{StopsWork}
use Rattle.ell_run.specs.declared.faults.WorkFault.{WorkFault}
use Rattle.ell_run.specs.declared.faults.WorkFault.TheVariants.{NoMemory, TooManyPasses}
use Rattle.ell_run.proofs.lemmas.Halves.{worked_both}
use Rattle.ell_run.proofs.lemmas.NotDone.{none_not_done}
use Rattle.ell_run.proofs.lemmas.Keys.{all_keys}
use Rattle.ell_run.proofs.lemmas.Opened.{all_ready, finds_key, owns_ops}
use Rattle.ell_ops.specs.declared.reply.Reply.{Reply}

-- no workers have worked with a pass that was left as it is
rest_worked : (plan : TablePlan) (tries : ℕ) (parting : PartedOps) (rest : PassModel) → IsIdle rest → IsWorked plan tries parting [] rest rest []
rest_worked plan tries parting rest idle = record {
  table = refl;
  idle = idle;
  told = tt;
  map = refl;
  owned = λ key. (λ own. own, λ own. own);
  answers = omega arith;
  not_done = none_not_done plan tries 0 rest rest refl (omega arith);
}

-- nor have they made a step
pub none_worked : (plan : TablePlan) (tries : ℕ) (parting : PartedOps) (workers : List ℕ) (pass : PassModel) → length workers ≤ 0 → IsIdle pass
    → IsWorkedWithin plan tries parting workers pass pass []
none_worked plan tries parting [] pass none idle = record {
  worked = rest_worked plan tries parting pass idle;
  within = record { bounded = omega arith; total = λ plain. omega arith };
  label = refl;
}
none_worked plan tries parting (w ∷ ws) pass none idle = absurd (omega (arith, none))

-- workers that began with a part of a pass stop as those do that began with the pass
pub stops_of : {A : Type 0} (plan : TablePlan) (pass some : PassModel) (r : Result A WorkFault) → some.view.worker.shared ≡ pass.view.worker.shared
    → IfErr r (StopsWork plan some) → IfErr r (StopsWork plan pass)
stops_of plan pass some (Ok done) same stops = stops
stops_of plan pass some (Err TooManyPasses) same stops = λ plain none. stops plain (same ∙ none)
stops_of plan pass some (Err NoMemory) same stops = tt

-- what is so of a fault is so of an answer that is it
pub err_is : {A : Type 0} (r : Result A WorkFault) (fault : WorkFault) → IsErrAnd r (λ e. e ≡ fault) → (So : WorkFault → Type 0) → So fault → IfErr r So
err_is (Ok done) fault is So h = absurd is
err_is (Err why) fault is So h = subst So (sym is) h

module _ (parting : PartedOps) (keys : List ℕ) (pass left right : PassModel) (listed : Lists (keys_of_ops parting.ops) keys) (owned : All (λ key. Owns pass key) keys)
    (on_left : IsLeftPart keys pass left) where
  -- the left part of a pass, with the keys of the operations, owns these
  pub owns_left : All (λ op. Owns left (key_of op)) parting.ops
  owns_left =
      owns_ops left parting.ops keys listed
      (λ j d below none.
      let key = get_or keys j d in
      owned j d below (sym (on_left.ledger key ∙ cond-true (set_of keys key) (ledger pass key) None (finds_key keys j d below)) ∙ none))

  -- workers who have worked with it alone have worked as with the whole pass
  pub worked_apart : (tree : TreeModel) (plan : TablePlan) (tries : ℕ) (first both : PassModel) (pieces : List (List (ℕ × Reply))) → IsLawful parting → pass.table ≡ tree.id → IsIdle pass →
      IsRightPart keys pass right → IsWorked plan tries parting (all_workers parting) left first pieces → IsUnion first right both →
      IsWorked plan tries parting (all_workers parting) pass both pieces
  worked_apart tree plan tries first both pieces lawful own idle on_right did union =
      let workers = all_workers parting in
      let ready : AreReady tree parting (workers ++ []) pass =
      subst (λ row. AreReady tree parting row pass) (sym (append-nil workers)) (all_ready tree parting pass lawful own idle (owns_ops pass parting.ops keys listed owned)) in
      let halves : AreHalves parting workers pass left right =
      record { keys = keys; listed = subst (λ set. Lists set keys) (sym (all_keys parting lawful)) listed; on_left = on_left; on_right = on_right } in
      subst (λ row. IsWorked plan tries parting row pass both pieces) (append-nil workers)
      (subst (IsWorked plan tries parting (workers ++ []) pass both) (append-nil pieces)
      (worked_both tree parting workers [] pass left right ready halves plan tries first right both pieces [] did
      (rest_worked plan tries parting right on_right.idle) union))
