use Rattle.std.proofs.Common.{◌≡◌, ℕ, false, List, get_or, set, refl, ap, inl, inr, arith}
use lib.Seq.{set-get_or}
use Rattle.ell_word.specs.Word.{packed, unpacked}
use Rattle.ell_core.proofs.lemmas.outcomes.Decide.{cases_option, some_not_none}
use Rattle.ell_runs.specs.declared.call.Call.TheVariants as call
use Rattle.ell_runs.specs.declared.view.Told.TheVariants.{Met}
use Rattle.ell_runs.specs.Changes.{after_claim, after_upd}
use Rattle.ell_runs.proofs.lemmas.views.Afters.{after_next}
use Rattle.ell_runs.specs.Tellings.{told_of, NoGreaterNext, NoUntriedClaimLost, NoGreaterUpdate}
use Rattle.ell_runs.proofs.lemmas.views.Entries.{places_more}
use Rattle.ell_core.proofs.lemmas.words.Packed.{packed_again}
use Rattle.ell_runs.proofs.lemmas.seats.Seats.{set_there, mine_sound}
use Rattle.ell_runs.proofs.lemmas.runs.Reaching.{reached_kept}
use Rattle.ell_runs.proofs.lemmas.runs.Readings.{readings_are_past}
use Rattle.ell_runs.proofs.lemmas.runs.Met.{searches_are_met}
use Rattle.ell_runs.proofs.lemmas.runs.Outcomes.{listed_update}
use Rattle.ell_runs.proofs.lemmas.words.Addresses.{update_address}

-- a word that a step leaves as it is
still : (words : List ℕ) (i : ℕ) → get_or (set words i (get_or words i 0)) i 0 ≡ get_or words i 0
still words i = ap (λ (ws : List ℕ). get_or ws i 0) (set-get_or words i 0)

pub no_greater_next : NoGreaterNext
no_greater_next plan s h id v here n greater on =
    let past = readings_are_past plan _ on id (after_next n v) (set_there s.views id (after_next n v) v here) in
    let low = past.next in
    let same = still s.words 0 in
    omega arith

pub no_untried_claim_lost : NoUntriedClaimLost
no_untried_claim_lost plan s h id v here node_key on =
    let w = after_claim false (get_or s.words 0 0) node_key v in
    let past = readings_are_past plan _ on id w (set_there s.views id w v here) in
    let low = past.claims.0 in
    omega arith

-- what a search has read at a node where it stands is past
pub no_greater_update : NoGreaterUpdate
no_greater_update plan s h id v here x may n greater on =
    let u = unpacked n in
    let w = after_upd x u v in
    let s' = told_of s id v (call.Upd x) n in
    let r = reached_kept plan s' on in
    let there = set_there s.views id w v here in
    let sound = mine_sound plan s' r id w there in
    let met = (searches_are_met plan s h id v here).node x may.stands in
    let born = (r.views id w there).entries (Met x) (places_more x u.state u.card v.told (Met x) met) in
    let same = listed_update plan s' r x may.inner born in
    let was = still s.words (update_address x) in
    elim (cases_option v.worker.operation) [
      | inl op ↦ (let low = (sound.stands op.0 x op.1 may.stands).read (packed u) refl in let is = packed_again n in omega arith)
      | inr e ↦ absurd (some_not_none may.stands (ap (λ k. k.search.node) (sound.free e)))
    ]
