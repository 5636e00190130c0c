-- What is shown of a pass is of what it knows, of which the laws of runs speak.
use Rattle.ell_cards.proofs.lemmas.shown.InRuns as shown
use Rattle.ell_cards.proofs.laws.shown_is_so_in_runs.Goals as goal

pub returns : goal.returns
returns c = record {
  looks = shown.looks_are_of_one_state;
  stretches = shown.stretches_are_of_one_state;
  answered = shown.answers_have_their_points;
  taken = shown.deletes_take_what_they_tell;
  given_up = shown.given_up_last_changes_nothing;
}
