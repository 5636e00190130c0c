use Rattle.std.proofs.Common.{◌≡◌, ℕ, ◌+◌, false, length, slice_get, sym, subst}
use Rattle.ell_layout.specs.Words.{words_of}
use Rattle.ell_core.specs.state.Machine.{idle, worker_or_nobody}
use Rattle.ell_core.specs.state.Opening.{Setup, opening, last_card, opening_ledger, shares}
use Rattle.ell_layout.specs.Start.{words_at_start}
use Rattle.ell_core.specs.history.Invariant.{HasInvariant}
use Rattle.ell_world.specs.World.{WorldValue, machine_of}
use Rattle.ell_core.proofs.lemmas.opening.Invariant.{start_stages}
use Rattle.ell_core.proofs.lemmas.opening.CanOpen.{opening_has}
use Rattle.ell_core.specs.statements.RunLaws.{CanOpen}

-- a world with the words and workers of an opening is that opening
pub machine_of-opening : (w : WorldValue) (setup : Setup) → words_of w.words ≡ words_at_start setup.flat setup.start →
    length w.workers ≡ setup.count → w.last_card ≡ last_card setup.start setup.cards →
    ((i : ℕ) → worker_or_nobody (slice_get w.workers i) ≡ idle (opening_ledger setup.owned setup.start i) (shares setup.count setup.shared i) (λ _. false)) → machine_of w ≡ opening setup
unfolding machine_of opening
machine_of-opening w setup words many size workers = λ t. record {
  words = words t;
  worker = λ i. workers i t;
  count = many t;
  last_card = size t;
}

-- where its list of owned keys can be opened
pub opening_lawful : (w : WorldValue) (setup : Setup) → words_of w.words ≡ words_at_start setup.flat setup.start →
    length w.workers ≡ setup.count → w.last_card ≡ last_card setup.start setup.cards →
    ((i : ℕ) → worker_or_nobody (slice_get w.workers i) ≡ idle (opening_ledger setup.owned setup.start i) (shares setup.count setup.shared i) (λ _. false)) →
    CanOpen setup → HasInvariant (machine_of w)
opening_lawful w setup words many size workers can =
    subst HasInvariant (sym (machine_of-opening w setup words many size workers))
    (record { stages = start_stages (length setup.start + 1); invariant = opening_has setup can })
