use Rattle.std.proofs.Common.{◌≡◌, ℕ, ◌+◌, ◌*◌, ◌<◌, ◌≤◌, Option, None, Some, List, [], ◌∷◌, ◌++◌, inl, inr, ⊎_elim, length, max, arith, ap, sym, subst, ◌∙◌}
use Rattle.std.specs.List.{insert}
use Rattle.std.proofs.Math.Nat.{mul-add, mul-one, mul-zero, zero-add}
use Rattle.std.proofs.lemmas.List.{length-append}
use Rattle.ell_parts.specs.PartedOps.{PartedOps, part}
use Rattle.ell_runs.specs.Plans.{TablePlan}
use Rattle.ell_tree.specs.PassParts.{later_reading}
use Rattle.ell_tree.specs.declared.operations.NotDone.{NotDone}
use Rattle.ell_tree.specs.declared.operations.NotDone.TheVariants.{Busy, Spent}
use Rattle.ell_tree.specs.Ends.{NotDoneFor}
use Rattle.ell_tree.specs.Hindrances.{Meets}
use Rattle.ell_tree.specs.Ledgers.{PassModel, hindrances}
use Rattle.ell_run.specs.Pieces.{ArePieces, all_not_done, one_not_done}
use Rattle.ell_run.specs.Work.{AreNotDone, HasNoCards}
use Rattle.ell_ops.specs.declared.reply.Reply.{Reply}
use Rattle.ell_ops.specs.Contents.{Contents}

-- what was in a pass's way stays told
pub hindrances_grow : (before after : PassModel) → Meets before.view after.view → hindrances before ≤ hindrances after
hindrances_grow before after m =
    let longer = ap length m.list in
    omega (arith, length-append m.met before.view.hindrances)

-- all were done
pub none_not_done : (plan : TablePlan) (tries count : ℕ) (before after : PassModel) → count ≡ 0 → hindrances before ≤ hindrances after →
    AreNotDone plan tries count before after
none_not_done plan tries count before after none grows =
    inr (subst (λ n. hindrances before + tries * n ≤ hindrances after) (sym none) (omega (arith, mul-zero tries)))

-- one was not done, after others
pub once_not_done : (plan : TablePlan) (tries count : ℕ) (before mid after : PassModel) (why : NotDone) → count ≡ 1 → hindrances before ≤ hindrances mid →
    NotDoneFor plan tries mid after why → AreNotDone plan tries count before after
once_not_done plan tries count before mid after Busy one grows h =
    inr (subst (λ n. hindrances before + tries * n ≤ hindrances after) (sym one) (omega (arith, mul-one tries)))
once_not_done plan tries count before mid after Spent one grows h =
    inl (λ plain. record { next = plan.last_card + 1; read = h plain; past = omega arith })

later_left : (cards n : ℕ) (other : Option ℕ) (both : PassModel) → cards < n → both.view.next ≡ later_reading (Some n) other → HasNoCards cards both
later_left cards n None both past e = record { next = n; read = e; past = past }
later_left cards n (Some m) both past e = record { next = max n m; read = e; past = omega arith }

later_right : (cards n : ℕ) (other : Option ℕ) (both : PassModel) → cards < n → both.view.next ≡ later_reading other (Some n) → HasNoCards cards both
later_right cards n None both past e = record { next = n; read = e; past = past }
later_right cards n (Some m) both past e = record { next = max m n; read = e; past = omega arith }

-- why operations of two passes were not done is told by the one that both come together in
pub both_not_done : (plan : TablePlan) (tries a b : ℕ) (pass left right first second both : PassModel) → hindrances left ≡ hindrances pass → hindrances right ≡ 0 →
    hindrances both ≡ hindrances first + hindrances second → both.view.next ≡ later_reading first.view.next second.view.next →
    AreNotDone plan tries a left first → AreNotDone plan tries b right second → AreNotDone plan tries (a + b) pass both
both_not_done plan tries a b pass left right first second both kept anew sum next on_left on_right =
    ⊎_elim
    (λ spent. inl (λ plain. let none = spent plain in
    later_left plan.last_card none.next second.view.next both none.past (next ∙ ap (λ n. later_reading n second.view.next) none.read)))
    (λ few. ⊎_elim
    (λ spent. inl (λ plain. let none = spent plain in
    later_right plan.last_card none.next first.view.next both none.past (next ∙ ap (later_reading first.view.next) none.read)))
    (λ more. inr (omega (arith, mul-add tries a b)))
    on_right)
    on_left

-- how many are not done of two rows of workers
pub all_not_done-append : (s : Contents) (parting : PartedOps) (low high : List ℕ) (ps qs : List (List (ℕ × Reply))) → ArePieces s parting low ps →
    all_not_done parting (low ++ high) (ps ++ qs) ≡ all_not_done parting low ps + all_not_done parting high qs
all_not_done-append s parting [] high [] qs h = sym (zero-add (all_not_done parting high qs))
all_not_done-append s parting [] high (p ∷ ps) qs h = absurd h
all_not_done-append s parting (worker ∷ low) high [] qs h = absurd h
all_not_done-append s parting (worker ∷ low) high (p ∷ ps) qs h =
    let rest = all_not_done-append s parting low high ps qs h.1 in
    omega arith

-- an empty piece of an empty part more
pub all_not_done-insert : (s : Contents) (parting : PartedOps) (xs ys : List ℕ) (worker : ℕ) (ps : List (List (ℕ × Reply))) → part parting worker ≡ [] →
    ArePieces s parting (xs ++ ys) ps →
    all_not_done parting (xs ++ worker ∷ ys) (insert ps (length xs) []) ≡ all_not_done parting (xs ++ ys) ps
all_not_done-insert s parting [] ys worker ps none h =
    ap (λ items. one_not_done items [] + all_not_done parting ys ps) none ∙ zero-add (all_not_done parting ys ps)
all_not_done-insert s parting (x ∷ xs) ys worker [] none h = absurd h
all_not_done-insert s parting (x ∷ xs) ys worker (p ∷ ps) none h =
    ap (λ n. one_not_done (part parting x) p + n) (all_not_done-insert s parting xs ys worker ps none h.1)
