use Rattle.ell_cards.proofs.lemmas.refinement.Keeping.{calls_keep_refinement}
use Rattle.ell_cards.proofs.lemmas.refinement.Near.{expected_links_are_near}
use Rattle.ell_cards.proofs.lemmas.refinement.Handovers.{splits_keep_refinement, joins_keep_refinement}
use Rattle.ell_cards.proofs.lemmas.refinement.Opens.{openings_refine}
use Rattle.ell_cards.proofs.lemmas.refinement.Epochs.{epochs_keep_refinement}
use Rattle.ell_cards.proofs.lemmas.refinement.TakingSlots.{takes_keep_refinement}
use Rattle.ell_cards.proofs.lemmas.refinement.Few.{few_in_slots}
use Rattle.ell_cards.proofs.lemmas.whole.Apart.{passes_tell_apart, children_are_apart}
use Rattle.ell_cards.proofs.laws.refinement_is_kept.Goals as goal

pub returns : goal.returns
returns c = record {
  calls = calls_keep_refinement;
  splits = splits_keep_refinement;
  joins = joins_keep_refinement;
  epochs = epochs_keep_refinement;
  takes = takes_keep_refinement;
  opens = openings_refine;
  few = few_in_slots;
  near = expected_links_are_near;
  apart = passes_tell_apart;
  children = children_are_apart;
}
