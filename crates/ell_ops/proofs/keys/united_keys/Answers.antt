use Rattle.std.proofs.Common.{◌≡◌, ◌∙◌, Vec, ℕ, sym, subst}
use Rattle.std.proofs.lemmas.Result.{IfOk-weaker}
use Rattle.ell_ops.specs.ByKey.{united_by}
use Rattle.ell_ops.specs.KeySet.{Lists, set_of, union}
use Rattle.ell_ops.proofs.lemmas.ByKey.{increasing_keys, keys_are_united}
use Rattle.ell_ops.proofs.lemmas.Merges.{lists_united}
use Rattle.ell_ops.proofs.keys.united_keys.Goals as goal

pub united-requires : goal.united-requires
united-requires g c = record { left = increasing_keys c.args.left.now c.requires.left; right = increasing_keys c.args.right.now c.requires.right }

pub returns : goal.returns
returns g c =
    let left = c.args.left.now in
    let right = c.args.right.now in
    IfOk-weaker c.united.result _ _
    (λ (both : Vec ℕ g.row.A.Denot) (is : both.items ≡ united_by (λ k. k) left right).
    subst (Lists (union (set_of left) (set_of right))) (sym (is ∙ keys_are_united left right)) (lists_united left right c.requires.right))
    c.united.ensures
