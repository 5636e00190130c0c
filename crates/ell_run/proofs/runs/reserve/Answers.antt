use Rattle.std.proofs.Common.{All, ap, sym, subst, ◌≤◌, ◌≡◌, true, ◌∙◌}
use Rattle.std.specs.Map.{keys_of as keys_in}
use Rattle.ell_ops.specs.KeySet.{set_of}
use Rattle.ell_ops.specs.Meaning.{greatest_key}
use Rattle.ell_run.proofs.lemmas.Opened.{all_united, first_given, owns_used}
use Rattle.ell_run.proofs.runs.reserve.Goals as goal

pub reserve_from-requires-clause-real : goal.reserve_from-requires-clause-real
reserve_from-requires-clause-real g c =
    subst (All (λ key. key ≤ greatest_key)) (sym c.deref.ensures.value)
    (all_united (keys_in c.args.start.now) c.args.used.now c.in_ok-keys.keys.items c.in_ok-keys.ensures (λ key. key ≤ greatest_key) c.requires.start.real
    c.requires.used_real)

pub reserve_from-requires-clause-given : goal.reserve_from-requires-clause-given
reserve_from-requires-clause-given g c =
    subst (λ keys. All (λ key. set_of keys key ≡ true) (keys_in c.args.start.now)) (sym c.deref.ensures.value)
    (first_given (keys_in c.args.start.now) c.args.used.now c.in_ok-keys.keys.items c.in_ok-keys.ensures)

pub returns-in-Ok-clause-owned : goal.returns-in-Ok-clause-owned
returns-in-Ok-clause-owned g c =
    let made = c.in-Ok.made in
    owns_used c.args.start.now c.args.used.now c.in_ok-keys.keys.items made.0 made.1 c.in_ok-keys.ensures
    (ap (λ plan. plan.keys) c.in-Ok.ensures.tree ∙ c.deref.ensures.value) c.in-Ok.ensures.pass

pub returns-in-Ok-clause-tree : goal.returns-in-Ok-clause-tree
returns-in-Ok-clause-tree g c = record {
  begins = ap (λ plan. plan.start) c.in-Ok.ensures.tree;
  unshared = ap (λ plan. plan.shared) c.in-Ok.ensures.tree;
  plain = ap (λ plan. plan.slots) c.in-Ok.ensures.tree;
}
