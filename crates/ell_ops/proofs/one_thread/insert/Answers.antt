use Rattle.std.proofs.Common.{◌≡◌, ℕ, Option, Some, None, is_some, false, refl, sym, ◌∙◌, ap}
use Rattle.ell_ops.specs.Contents.{contents_of}
use Rattle.ell_ops.proofs.lemmas.Pairs.{get-contents_of, contents_of-insert}
use Rattle.ell_ops.proofs.one_thread.insert.Goals as goal

none_of : (o : Option ℕ) → is_some o ≡ false → o ≡ None
none_of None e = refl
none_of (Some v) e = absurd cc

pub returns-clause-after : goal.returns-clause-after
returns-clause-after g c =
    let old = c.args.map.now.entries in
    let absent = none_of (contents_of old c.args.key)
    (ap is_some (sym (get-contents_of old c.args.key)) ∙ (sym c.contains_key.ensures ∙ c.if-contains_key.false)) in
    contents_of-insert old c.insert.new.self.entries c.args.key c.args.value absent c.in_ok-insert.ensures.updates.0
