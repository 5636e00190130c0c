use Rattle.std.proofs.Common.{◌≡◌, ◌≢◌, ℕ, None, sym, ◌∙◌, subst, rules, Option, Some, refl, ap, length, List, IfSome, arith}
use Rattle.std.proofs.lemmas.Option.{same_Some}
use Rattle.ell_ops.specs.declared.op.Op.{Op}
use Rattle.ell_ops.specs.Meaning.{key_of, reply_of, after}
use Rattle.ell_core.specs.state.Machine.{ledger_of}
use Rattle.ell_tree.specs.Ledgers.{present_in, Owns, ledger}
use Rattle.ell_tree.proofs.lemmas.Called.{of_taken}
use Rattle.ell_tree.proofs.steps.answer.Goals as goal
use Rattle.ell_cards.proofs.lemmas.shown.InRuns.{answers_have_their_points}
use Rattle.ell_runs.specs.Changes.{answered_so}
use Rattle.ell_runs.specs.Guards.{TakesBy}
use Rattle.ell_runs.specs.Seeing.{SeesEnd}
use Rattle.ell_runs.specs.declared.view.Act.{Act}
use Rattle.ell_cards.specs.Models.{PassModel}

-- what is not there is none
none_of : {A : Type 0} (o : Option A) → ¬ (o ≢ None) → o ≡ None
none_of None other = refl
none_of (Some x) other = absurd (other (λ none. cc none))

-- the answer to an operation on an own key is the map's
pub returns-clause-answers : goal.returns-clause-answers
returns-clause-answers g c op busy =
    let a = c.answer.ensures.reply in
    let old = c.args.pass.now in
    let new = c.answer.new.pass in
    let is : a.op ≡ op = same_Some a.op op (sym a.busy ∙ busy) in
    let may = c.requires.may in
    let does : may.op ≡ op = same_Some may.op op (sym may.busy ∙ busy) in
    let takes = subst (λ (o : Op). IfSome c.args.took (TakesBy old.view o c.args.said)) does may.takes in
    let ends = c.answer.ensures.ends op busy in
    record {
      own = search rules;
      says = subst (λ (o : Op). Owns old (key_of o) → c.args.said ≡ reply_of o (present_in old)) is a.says;
      map = subst (λ (o : Op). Owns old (key_of o) → (key : ℕ) → present_in new key ≡ after o (present_in old) key) is a.map;
      stays = subst (λ (o : Op). ¬ Owns old (key_of o) → ledger new ≡ ledger old) is (λ other. a.stays (none_of (ledger_of old.view.worker.ledger (key_of a.op)) other));
      point = answers_have_their_points c.args.steps.table.now.plan new.view op c.args.said old.view.worker.card c.args.took
          (ap (λ (p : PassModel). p.view.answered) c.answer.ensures.step ∙ ap (λ o. answered_so o old.view.worker.card c.args.said c.args.took) busy);
      share = search rules;
      owned = λ key. (λ has none. has ((a.owned key).1 none), λ has none. has ((a.owned key).0 none));
      answered = let more = ap (λ (l : List Act). length l) ends.mine in omega arith;
      idle = search rules;
      unpinned = search rules;
      sees = of_taken old.view op c.args.said c.args.took (λ took. SeesEnd op c.args.said took old.sight new.sight) takes ends;
    }
