use Rattle.std.proofs.Common.{◌≡◌, ℕ, IsTrue, true, List, sym, ap, ◌∙◌, subst}
use Rattle.ell_cards.specs.Models.{PassModel}
use Rattle.std.specs.List.Sorted.{IsStrictlyIncreasing}
use Rattle.ell_ops.specs.KeySet.{set_of}
use Rattle.ell_runs.specs.Changes.{ledger_keys}
use Rattle.ell_core.proofs.lemmas.opening.KeyLists.{search_finds}
use Rattle.ell_runs.proofs.lemmas.words.Keys.{among_owned, owned_among}
use Rattle.ell_cards.proofs.pass.Pass.owns.Goals as goal

pub returns : goal.returns
returns g c =
    let ledger = c.args.self.now.view.worker.ledger in
    let fits = c.self.invariant.fits in
    let same = c.deref.ensures.value ∙ fits.owned ∙ ap (λ (m : PassModel). ledger_keys m.view.worker.ledger) c.self.view_is in
    let found = search_finds c.deref.result.now c.args.key c.binary_search.result
    (subst IsStrictlyIncreasing (sym c.deref.ensures.value) fits.ascending) c.binary_search.ensures.position in (
      (λ yes. among_owned ledger c.args.key (subst (λ (ks : List ℕ). set_of ks c.args.key ≡ true) same (found.0 (subst IsTrue c.is_ok.ensures.value yes)))),
      (λ owns. subst IsTrue (sym c.is_ok.ensures.value)
          (found.1 (subst (λ (ks : List ℕ). set_of ks c.args.key ≡ true) (sym same) (owned_among ledger c.args.key owns)))),
    )
