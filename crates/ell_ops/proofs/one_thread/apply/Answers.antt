use Rattle.std.proofs.Common.{◌≡◌, is_some, ap, sym, ◌∙◌}
use Rattle.ell_ops.specs.Contents.{contents_of}
use Rattle.ell_ops.specs.Meaning.{found, yes_if, reply_of, after}
use Rattle.ell_ops.proofs.lemmas.Pairs.{get-contents_of, contents_of-remove}
use Rattle.ell_ops.proofs.one_thread.apply.Goals as goal

pub returns-in-Find-clause-reply : goal.returns-in-Find-clause-reply
returns-in-Find-clause-reply g c =
    let had : c.copied.result ≡ contents_of c.args.map.now.entries c.in-Find.key =
    c.copied.ensures ∙ (c.get.ensures.value ∙ get-contents_of c.args.map.now.entries c.in-Find.key) in
    c.found.ensures ∙ ap found had ∙ ap (λ op. reply_of op (contents_of c.args.map.now.entries)) (sym c.in-Find.is)

pub returns-in-Delete-clause-reply : goal.returns-in-Delete-clause-reply
returns-in-Delete-clause-reply g c =
    let had : c.is_some.result ≡ is_some (contents_of c.args.map.now.entries c.in-Delete.key) =
    c.is_some.ensures ∙ ap is_some (c.remove.ensures.value ∙ get-contents_of c.args.map.now.entries c.in-Delete.key) in
    c.yes_if.ensures ∙ ap yes_if had ∙ ap (λ op. reply_of op (contents_of c.args.map.now.entries)) (sym c.in-Delete.is)

pub returns-in-Delete-clause-after : goal.returns-in-Delete-clause-after
returns-in-Delete-clause-after g c =
    contents_of-remove c.args.map.now.entries c.remove.new.self.entries c.in-Delete.key c.remove.ensures.updates.0
    ∙ ap (λ op. after op (contents_of c.args.map.now.entries)) (sym c.in-Delete.is)
