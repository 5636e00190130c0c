use Rattle.std.proofs.Common.{◌≡◌, Some, is_some, sym, ap, ◌∙◌}
use Rattle.std.proofs.lemmas.Map.Steps.{set_value_same}
use Rattle.std.specs.BTreeMap.{is_at}
use Rattle.std.specs.Ordering.{nat_cmp}
use Rattle.ell_ops.specs.Contents.{contents_of}
use Rattle.ell_ops.proofs.lemmas.Pairs.{get-contents_of, contents_of-swapped, contents_of-unswapped}
use Rattle.ell_ops.proofs.one_thread.swap.Goals as goal

-- what was written, key by key
pub returns-then-found-was-clause-after : goal.returns-then-found-was-clause-after
returns-then-found-was-clause-after g c =
    let old = c.args.map.now.entries in
    let had : contents_of old c.args.key ≡ Some c.in-Some.there.now = sym (c.in-Some.ensures.value ∙ get-contents_of old c.args.key) in
    let updates = (c.get_mut.follows.holds c.args.value).3 (ap is_some (sym c.in-Some.ensures.value)) in
    contents_of-swapped old (c.get_mut.follows.lender c.args.value).entries c.args.key c.args.was c.args.value (had ∙ ap Some c.if-found-was.true) updates.0

-- what was read goes back
pub returns-else-found-was-clause-after : goal.returns-else-found-was-clause-after
returns-else-found-was-clause-after g c =
    let old = c.args.map.now.entries in
    let found = c.in-Some.there.now in
    let had : contents_of old c.args.key ≡ Some found = sym (c.in-Some.ensures.value ∙ get-contents_of old c.args.key) in
    let same = (c.get_mut.follows.holds found).0 ∙ set_value_same (is_at (nat_cmp c.args.key)) old found (sym c.in-Some.ensures.value) in
    ap contents_of same ∙ contents_of-unswapped old c.args.key c.args.was c.args.value (λ e. let clash : found ≡ c.args.was = cc in c.if-found-was.false clash)
