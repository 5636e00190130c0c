use Rattle.std.proofs.Common.{◌≡◌, ◌≢◌, eq-eqb, subst, sym, ℕ, zero, suc, ◌+◌, ◌≤◌, ◌++◌, if◌then◌else◌, Bool, true, false, Option, Some, None, List, [], ◌∷◌, Ok, refl, ◌∙◌, ap, arith, Result}
use Rattle.ell_ops.specs.declared.op.Op.{Op}
use Rattle.ell_ops.specs.declared.op.Op.TheVariants.{Find, Insert, Delete, Swap}
use Rattle.ell_tree.specs.Tries.{IsChange}
use Rattle.std.proofs.lemmas.Bool.{false≢true}
use Rattle.ell_ops.specs.Meaning.{key_of, reply_of}
use Rattle.ell_core.specs.declared.exchange.Exchange.{Exchange}
use Rattle.ell_core.specs.declared.view.Entry.{Entry}
use Rattle.ell_core.specs.state.Machine.{ledger_of}
use Rattle.ell_core.specs.statements.Effects.{contents_in, reply_of_change}
use Rattle.ell_runs.specs.Seeing.{SeesEnd}
use Rattle.ell_cards.specs.Models.{PassModel}
use Rattle.ell_runs.specs.Changes.{if_won}
use Rattle.ell_tree.specs.declared.operations.NotDone.{NotDone}
use Rattle.ell_tree.specs.declared.trying.Tried.TheVariants.{Answered}
use Rattle.ell_tree.specs.CardsTaken.{claims_in, TakesNoCard, TakesAtMost, TakesCards, TakesOneIf, TryTakes}
use Rattle.ell_runs.specs.Contention.{is_claim}
use Rattle.ell_tree.specs.Ends.{AnswersAs, changes_by, reply_by}
use Rattle.ell_tree.specs.Ledgers.{Owns, TreeModel, present_in}
use Rattle.ell_tree.proofs.lemmas.Owning.{still_owned}

-- one claim more, or none
one_more : (b : Bool) (m n : ℕ) → (if b then m + n + 1 else m + n) ≡ (if b then m + 1 else m) + n
one_more true m n = omega arith
one_more false m n = refl

-- the claims among two lists of exchanges
pub claims_append : (es ds : List (Exchange × ℕ)) → claims_in (es ++ ds) ≡ claims_in es + claims_in ds
claims_append [] ds = omega arith
claims_append (e ∷ es) ds =
    ap (λ n. if is_claim e.0 then n + 1 else n) (claims_append es ds) ∙ one_more (is_claim e.0) (claims_in es) (claims_in ds)

-- an exchange of another kind is no claim, won or lost
pub no_claims : (won : Bool) (k : Exchange) (c : ℕ) (es : List (Exchange × ℕ)) → is_claim k ≡ false → claims_in (if_won won k c ++ es) ≡ claims_in es
no_claims true k c es other = ap (λ (b : Bool). if b then claims_in es + 1 else claims_in es) other
no_claims false k c es other = refl

-- an answer that changes nothing is not that of a change
reply_unchanged : (op : Op) (had : Option ℕ) → IsChange op → changes_by op had ≡ false → reply_by op had ≢ reply_of_change op
reply_unchanged (Find k) had is none e = is
reply_unchanged (Insert k value) (Some v) is none e = absurd cc
reply_unchanged (Insert k value) None is none e = absurd cc
reply_unchanged (Delete k) (Some v) is none e = absurd cc
reply_unchanged (Delete k) None is none e = absurd cc
reply_unchanged (Swap k was value) (Some there) is none e = let same : there ≡ was = cc in false≢true (sym none ∙ eq-eqb there was same)
reply_unchanged (Swap k was value) None is none e = absurd cc

-- a try that changes nothing of an own key is the first one
pub answers_first : (t : TreeModel) (op : Op) (had : Option ℕ) (round : ℕ) (first begun after : PassModel) → IsChange op
    → AnswersAs SeesEnd t op (reply_by op had) begun after → begun.view.worker.ledger ≡ first.view.worker.ledger
    → (1 ≤ round → Owns first (key_of op) → reply_of op (present_in first) ≡ reply_of_change op)
    → Owns first (key_of op) → changes_by op had ≡ false → round ≡ 0
answers_first t op had zero first begun after is answers ledger would owns none = refl
answers_first t op had (suc r) first begun after is answers ledger would owns none =
    let says = answers.says (still_owned (key_of op) first begun ledger owns) in
    absurd (reply_unchanged op had is none
    (says ∙ (ap (λ (l : List (ℕ × Entry)). reply_of op (contents_in (ledger_of l))) ledger ∙ would (omega arith) owns)))

-- the cards of an operation that was answered at this try
one_at_most : (changed : Bool) (begun after : PassModel) → TakesOneIf changed begun after → TakesAtMost 1 begun after
one_at_most true begun after h = record { least = omega (arith, h); most = omega (arith, h) }
one_at_most false begun after h = record { least = omega (arith, h); most = omega (arith, h) }

pub answered_most : (op : Op) (had : Option ℕ) (begun after : PassModel) → TryTakes op begun after (Answered had) → TakesAtMost 1 begun after
answered_most op had begun after h = one_at_most (changes_by op had) begun after h

cards_if : (changed : Bool) (round : ℕ) (first before begun after : PassModel) → TakesAtMost round first before → TakesNoCard before begun
    → TakesOneIf changed begun after → after.view.hindered ≡ first.view.hindered + round → TakesCards {E = NotDone} first after (Ok changed)
cards_if true round first before begun after many same one hindered =
    record { one = omega (arith, many.least, same, one); more = omega (arith, many.most, same, one, hindered) }
cards_if false round first before begun after many same none hindered = omega (arith, many.most, same, none, hindered)

pub answered_cards : (op : Op) (had : Option ℕ) (round : ℕ) (first before begun after : PassModel) → TakesAtMost round first before
    → TakesNoCard before begun → TryTakes op begun after (Answered had) → after.view.hindered ≡ first.view.hindered + round
    → TakesCards {E = NotDone} first after (Ok (changes_by op had))
answered_cards op had round first before begun after many same one hindered =
    cards_if (changes_by op had) round first before begun after many same one hindered

pub taken_none : (op : Op) (had : Option ℕ) (begun after : PassModel) → TryTakes op begun after (Answered had) → changes_by op had ≡ false
    → TakesNoCard begun after
taken_none op had begun after h none = subst (λ b. TakesOneIf b begun after) none h

pub same_Ok : (said : Bool) → ◌≡◌ {A = Result Bool NotDone} (Ok said) (Ok false) → said ≡ false
same_Ok true e = absurd cc
same_Ok false e = refl

pub unchanged_cards : (round : ℕ) (first before begun after : PassModel) → TakesAtMost round first before → TakesNoCard before begun → TakesNoCard begun after
    → round ≡ 0 → TakesNoCard first after
unchanged_cards round first before begun after many same none start = omega (arith, many.least, many.most, same, none, start)
