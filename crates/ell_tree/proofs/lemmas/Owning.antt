use Rattle.std.proofs.Common.{◌≡◌, ◌≢◌, ℕ, if◌then◌else◌, Option, Some, None, List, length, not, is_some, sym, ap, ◌∙◌, subst, eq-eqb, ◌+◌}
use Rattle.std.proofs.lemmas.Bool.{ne_eqb}
use Rattle.ell_ops.specs.declared.op.Op.{Op}
use Rattle.ell_ops.specs.declared.op.Op.TheVariants.{Find, Insert, Delete, Swap}
use Rattle.ell_ops.specs.declared.reply.Reply.{Reply}
use Rattle.ell_ops.specs.declared.reply.Reply.TheVariants.{Yes, Found}
use Rattle.ell_ops.specs.Meaning.{key_of, reply_of, after, yes_if, found}
use Rattle.ell_core.specs.declared.view.Entry.{Entry}
use Rattle.ell_core.specs.state.Machine.{ledger_of}
use Rattle.ell_core.specs.statements.Effects.{contents_in, reply_of_change}
use Rattle.std.proofs.lemmas.Option.{same_Some}
use Rattle.ell_core.specs.declared.put.Put.{Put}
use Rattle.ell_core.specs.acts.Searching.{put_of, TakesPut}
use Rattle.ell_core.proofs.lemmas.keeping.Puts.{added, replacing}
use Rattle.ell_runs.specs.Plans.{TablePlan}
use Rattle.ell_runs.specs.declared.call.NewNode.{NewNode}
use Rattle.ell_cards.specs.Claiming.{AsksForCard}
use Rattle.ell_cards.specs.Models.{KeepsItsOwn, PassModel, ledger}
use Rattle.ell_runs.specs.Seeing.{SeesBegin, SeesCall, SeesEnd}
use Rattle.ell_runs.specs.Views.{SameShare}
use Rattle.ell_runs.specs.declared.view.Act.{Act}
use Rattle.ell_runs.specs.declared.view.Sight.{Sight}
use Rattle.ell_tree.specs.declared.searching.Place.{Place}
use Rattle.ell_tree.specs.declared.trying.Tried.TheVariants.{Answered}
use Rattle.ell_tree.specs.Called.{ByItsTake}
use Rattle.ell_tree.specs.Ends.{Answers, AnswersAs, TakesIfDelete, TakesValue}
use Rattle.ell_tree.specs.Tries.{TryTakesValue}
use Rattle.ell_tree.specs.Keeping.{Keeps}
use Rattle.ell_tree.specs.Ledgers.{Owns, TreeModel, present_in}
use Rattle.ell_tree.specs.Searches.{EndsAt, there_at}
use Rattle.ell_cards.proofs.lemmas.views.Steps.{own_trans}
use Rattle.ell_tree.proofs.lemmas.Called.{by_take}
use Rattle.ell_tree.proofs.lemmas.Keeping.{share_trans}
use Rattle.ell_tree.proofs.lemmas.Sights.{ends_from, sees_call}

-- a key is owned still where the ledger is as it was
pub still_owned : (k : ℕ) (p q : PassModel) → q.view.worker.ledger ≡ p.view.worker.ledger → Owns p k → Owns q k
still_owned k p q same owns none = owns (sym (ap (λ (l : List (ℕ × Entry)). ledger_of l k) same) ∙ none)

-- what would have been changed would have been before, where the ledger was the same
pub would_before : (op : Op) (p q : PassModel) → q.view.worker.ledger ≡ p.view.worker.ledger → (Owns q (key_of op) → reply_of op (present_in q) ≡ reply_of_change op)
    → Owns p (key_of op) → reply_of op (present_in p) ≡ reply_of_change op
would_before op p q same would owns =
    sym (ap (λ (l : List (ℕ × Entry)). reply_of op (contents_in (ledger_of l))) same) ∙ would (still_owned (key_of op) p q same owns)

-- an answer after steps that changed neither ledger nor count is one from before them
pub answers_before : (Sees Sees' : Op → Reply → Option ℕ → Sight → Sight → Type 0) (t : TreeModel) (op : Op) (said : Reply) (p q r : PassModel) → KeepsItsOwn p q
    → q.view.worker.ledger ≡ p.view.worker.ledger → q.sight.mine ≡ p.sight.mine → SameShare p.view q.view → ByItsTake op (λ took. Sees' op said took p.sight r.sight)
    → AnswersAs Sees t op said q r → AnswersAs Sees' t op said p r
answers_before Sees Sees' t op said p q r own same count share sees h =
    let back : ledger q ≡ ledger p = ap ledger_of same in
    let there : present_in q ≡ present_in p = ap contents_in back in
    record {
      own = own_trans p q r own h.own;
      says = λ owns. h.says (still_owned (key_of op) p q same owns) ∙ ap (reply_of op) there;
      map = λ owns key. h.map (still_owned (key_of op) p q same owns) key ∙ ap (λ m. after op m key) there;
      stays = λ other. h.stays (λ owns. other (still_owned (key_of op) q p (sym same) owns)) ∙ back;
      point = h.point;
      owned = λ key. (λ owns. still_owned key q p (sym same) ((h.owned key).0 owns), λ owns. (h.owned key).1 (still_owned key p q same owns));
      answered = h.answered ∙ ap (λ (l : List Act). length l + 1) count;
      share = share_trans p.view q.view r.view share h.share;
      idle = h.idle;
      unpinned = h.unpinned;
      sees = sees;
    }

-- so is the value that a change added or took
pub takes_before : (t : TreeModel) (key : ℕ) (taken : Option ℕ) (p q r : PassModel) → q.view.worker.ledger ≡ p.view.worker.ledger → TakesValue t key q r taken
    → TakesValue t key p r taken
takes_before t key taken p q r same h = record {
  mine = λ owns. h.mine (still_owned key p q same owns) ∙ ap (λ (l : List (ℕ × Entry)). contents_in (ledger_of l) key) same;
  took = h.took;
}

pub takes_before_it : (t : TreeModel) (op : Op) (had : Option ℕ) (p b q r : PassModel) → q.view.worker.ledger ≡ p.view.worker.ledger → SeesBegin op p.sight b.sight → q.sight ≡ b.sight
    → TryTakesValue t op q r (Answered had) → TakesIfDelete t op p r had
takes_before_it t (Find key) had p b q r same begins sight h = tt
takes_before_it t (Insert key value) had p b q r same begins sight h = tt
takes_before_it t (Delete key) had p b q r same begins sight h =
    (takes_before t key had p q r same h.0, sees_call (Delete key) (yes_if (is_some had)) had p.sight b.sight q.sight r.sight begins sight h.1)
takes_before_it t (Swap key was value) had p b q r same begins sight h = tt

ends_before : (op : Op) (said : Reply) (p q r : PassModel) → q.sight ≡ p.sight → ByItsTake op (λ took. SeesEnd op said took q.sight r.sight) → ByItsTake op (λ took. SeesEnd op said took p.sight r.sight)
ends_before op said p q r same h =
    by_take op (λ took. SeesEnd op said took q.sight r.sight) (λ took. SeesEnd op said took p.sight r.sight) (λ took. ends_from op said took p.sight q.sight r.sight same) h

pub keeps_answers : (t : TreeModel) (op : Op) (said : Reply) (p q r : PassModel) (n : ℕ) → Keeps p q n → AnswersAs SeesEnd t op said q r → AnswersAs SeesEnd t op said p r
keeps_answers t op said p q r n keeps h =
    answers_before SeesEnd SeesEnd t op said p q r keeps.own keeps.view.ledger (ap (λ (g : Sight). g.mine) keeps.sight) keeps.view.share (ends_before op said p q r keeps.sight h.sees) h

pub asks_answers : (t : TreeModel) (op : Op) (said : Reply) (p q r : PassModel) (node : NewNode) (n : ℕ) → AsksForCard t.plan node n p q → AnswersAs SeesEnd t op said q r → AnswersAs SeesEnd t op said p r
asks_answers t op said p q r node n keeps h =
    answers_before SeesEnd SeesEnd t op said p q r keeps.own keeps.view.ledger (ap (λ (g : Sight). g.mine) keeps.sight) keeps.view.share (ends_before op said p q r keeps.sight h.sees) h

-- a try that was answered, of an operation that the pass began before
pub answers_begun : (t : TreeModel) (op : Op) (said : Reply) (p b q r : PassModel) → KeepsItsOwn p q → q.view.worker.ledger ≡ p.view.worker.ledger → SameShare p.view q.view → SeesBegin op p.sight b.sight → q.sight ≡ b.sight
    → AnswersAs SeesEnd t op said q r → Answers t op said p r
answers_begun t op said p b q r own same share begins sight h =
    answers_before SeesEnd SeesCall t op said p q r own same (ap (λ (g : Sight). g.mine) sight ∙ begins.mine) share
    (by_take op (λ took. SeesEnd op said took q.sight r.sight) (λ took. SeesCall op said took p.sight r.sight) (λ took. sees_call op said took p.sight b.sight q.sight r.sight begins sight) h.sees) h

-- an insert whose search ended at another key would add its own; a swap whose search ended at its key and its first value would swap it; a delete
-- whose search ended at its key would take it away
module _ (plan : TablePlan) (p q : PassModel) (same : q.view.worker.ledger ≡ p.view.worker.ledger) (place : Place) where
  pub has_there : (op : Op) → EndsAt plan q.view op place → Owns p (key_of op) → present_in p (key_of op) ≡ there_at place (key_of op)
  has_there op ends owns =
      sym (ap (λ (l : List (ℕ × Entry)). contents_in (ledger_of l) (key_of op)) same) ∙ ends.there (still_owned (key_of op) p q same owns)

  would_insert : (key value : ℕ) → EndsAt plan q.view (Insert key value) place → place.key ≢ key → Owns p key
      → reply_of (Insert key value) (present_in p) ≡ Yes
  would_insert key value ends other owns =
      ap (λ o. yes_if (not (is_some o))) (has_there (Insert key value) ends owns ∙ ap (λ b. if b then Some place.value else None) (ne_eqb place.key key other))

  would_swap : (key was value : ℕ) → EndsAt plan q.view (Swap key was value) place → place.key ≡ key → place.value ≡ was → Owns p key
      → reply_of (Swap key was value) (present_in p) ≡ Found was
  would_swap key was value ends own same_value owns =
      ap found (has_there (Swap key was value) ends owns
      ∙ (ap (λ b. if b then Some place.value else None) (eq-eqb place.key key own) ∙ ap Some same_value))

  pub would_put : (op : Op) (what : Put) → put_of op ≡ Some what → EndsAt plan q.view op place → TakesPut what place.key place.value → Owns p (key_of op)
      → reply_of op (present_in p) ≡ reply_of_change op
  would_put (Find key) what is ends takes owns = absurd cc
  would_put (Insert key value) what is ends takes owns =
      would_insert key value ends (subst (λ (t : Put). TakesPut t place.key place.value) (sym (same_Some (added key value) what is)) takes) owns
  would_put (Delete key) what is ends takes owns = absurd cc
  would_put (Swap key was value) what is ends takes owns =
      let at = subst (λ (t : Put). TakesPut t place.key place.value) (sym (same_Some (replacing key was value) what is)) takes in
      would_swap key was value ends at.0 at.1 owns

  -- what it took was there, and nothing was where its search ended at another key
  pub had_value : (key : ℕ) → EndsAt plan q.view (Delete key) place → place.key ≡ key → Owns p key → Some place.value ≡ present_in p key
  had_value key ends own owns = sym (has_there (Delete key) ends owns ∙ ap (λ b. if b then Some place.value else None) (eq-eqb place.key key own))

  pub had_none : (key : ℕ) → EndsAt plan q.view (Delete key) place → place.key ≢ key → Owns p key → None ≡ present_in p key
  had_none key ends other owns = sym (has_there (Delete key) ends owns ∙ ap (λ b. if b then Some place.value else None) (ne_eqb place.key key other))

  pub would_delete : (key : ℕ) → EndsAt plan q.view (Delete key) place → place.key ≡ key → Owns p key → reply_of (Delete key) (present_in p) ≡ Yes
  would_delete key ends own owns =
      ap (λ o. yes_if (is_some o)) (has_there (Delete key) ends owns ∙ ap (λ b. if b then Some place.value else None) (eq-eqb place.key key own))
