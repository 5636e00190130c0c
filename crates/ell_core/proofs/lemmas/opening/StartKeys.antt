use Rattle.std.proofs.Common.{◌≡◌, ℕ, ◌+◌, ◌<◌, ◌≤◌, Bool, Some, List, length, get_or, sym, subst, arith, ◌↔◌}
use Rattle.std.specs.List.{All}
use Rattle.std.specs.Map.{keys_of}
use Rattle.ell_ops.specs.Contents.{contents_of}
use Rattle.ell_ops.specs.Meaning.{greatest_key}
use Rattle.ell_ops.proofs.lemmas.Pairs.{place_in}
use Rattle.ell_core.specs.state.Opening.{opening}
use Rattle.ell_layout.specs.Start.{words_at_start}
use Rattle.ell_core.specs.statements.Start.{OpeningsHaveTheirStartKeys}
use Rattle.ell_core.proofs.lemmas.tree.Reached.{tree_pair_leads, leads_tree_pair}
use Rattle.ell_core.proofs.lemmas.opening.Owners.{ledger_there}
use Rattle.ell_core.proofs.lemmas.opening.StartWords.{start_from}
use Rattle.ell_core.proofs.lemmas.opening.Invariant.{flat_start, flat_is, start_words_are, found_start, start_found, start_owned, from_sound}
use Rattle.ell_layout.proofs.lemmas.Start.{keys_length}
use Rattle.ell_core.proofs.lemmas.opening.CanOpen.{start_real}
use Rattle.std.specs.List.Sorted.{IsStrictlyIncreasing}
use Rattle.ell_core.specs.tree.Tree.{IsTreePair}

-- the tree at the start has the start keys, with their values, and no others
module _ (start : List (ℕ × ℕ)) (ascending : IsStrictlyIncreasing (keys_of start)) (real : All (λ k. k ≤ greatest_key) (keys_of start)) where
  real_key : (k value : ℕ) → contents_of start k ≡ Some value → k ≤ greatest_key
  real_key k value is =
      let place = place_in start k value is in
      let below = place.below in
      let n = keys_length start in
      let bound : get_or (keys_of start) place.at 0 ≤ greatest_key = real place.at 0 (omega arith) in
      let at = place.key_is in
      omega arith

  from_pairs : (from : ℕ) → (0 < from → from ≡ length start + 1) → (k value : ℕ)
      → IsTreePair (start_from start from) k value ↔ (contents_of start k ≡ Some value)
  from_pairs from flat k value =
      let ordered = (from_sound start ascending real from flat).tree.ordered in (
        λ held. found_start start ascending real k value held.real (tree_pair_leads (start_from start from) ordered k value held),
        λ is. leads_tree_pair (start_from start from) k value (real_key k value is) (start_found start ascending real k value is),
      )

  -- so it is whether the tree is flat or not
  pub start_pairs : (flat : Bool) (k value : ℕ) → IsTreePair (words_at_start flat start) k value ↔ (contents_of start k ≡ Some value)
  start_pairs flat k value = subst (λ w. IsTreePair w k value ↔ (contents_of start k ≡ Some value)) (sym (start_words_are flat start))
      (from_pairs (flat_start flat (length start + 1)) (flat_is flat (length start + 1)) k value)

-- an opening has its start keys
pub openings_have_start_keys : OpeningsHaveTheirStartKeys
unfolding opening
openings_have_start_keys setup can = record {
  tree = start_pairs setup.start can.ascending (start_real setup can) setup.flat;
  owned = λ k value is not_shared.
      let at = start_owned setup can.ascending (start_real setup can) can.faultless can.real can.given can.apart k value is (λ _. not_shared) in
      record { worker = at.worker; owns = at.owns };
  ledgers = λ i k owns. ledger_there setup.owned setup.start i k owns;
}
