use Rattle.ell_runs.proofs.lemmas.runs.GivingUp.{given_up_last}
use Rattle.ell_runs.proofs.lemmas.runs.Taking.{delete_took}
use Rattle.ell_cards.specs.InRuns.{GivenUpLastChangesNothing}
use Rattle.ell_cards.specs.InRuns.{DeletesTakeWhatTheyTell}
use Rattle.std.proofs.Common.{sym, ap, ◌∙◌, subst}
use Rattle.ell_runs.specs.declared.view.View.{View}
use Rattle.ell_runs.specs.Looking.{HasFound, HasFoundBetween}
use Rattle.ell_cards.specs.InRuns.{LooksAreOfOneState, StretchesAreOfOneState}
use Rattle.ell_cards.proofs.lemmas.shown.ShownViews.{found_whole, found_between_whole}
use Rattle.ell_runs.specs.Plans.{flat_from}
use Rattle.ell_runs.proofs.lemmas.runs.Beginnings.{look_there, stretch_there}
use Rattle.ell_cards.specs.InRuns.{AnswersHaveTheirPoints}
use Rattle.ell_runs.proofs.lemmas.runs.Answering.{answers_with_card}

-- what a look has found of a stretch of keys, and of a key
pub stretches_are_of_one_state : StretchesAreOfOneState
stretches_are_of_one_state plan v low high said found s starts turns s' run seat w is apart there =
    stretch_there plan w low high said
    (found_between_whole plan w apart low high said (subst (λ u. HasFoundBetween (flat_from plan) u low high said) (sym is) found))
    s starts turns s' run seat there

pub looks_are_of_one_state : LooksAreOfOneState
looks_are_of_one_state plan v key said found s starts turns s' run seat w is apart there =
    look_there plan w key said (found_whole plan w apart key said (subst (λ u. HasFound u key said) (sym is) found)) s starts turns s' run seat there

-- what a pass was answered last, what its delete took, and what it gave up
pub answers_have_their_points : AnswersHaveTheirPoints
answers_have_their_points plan v op said card took last s starts turns s' run seat w is there =
    (answers_with_card plan w op said card took (ap (λ (u : View). u.answered) is ∙ last) s starts turns s' run seat there).0

pub deletes_take_what_they_tell : DeletesTakeWhatTheyTell
deletes_take_what_they_tell plan v key card value last s starts turns s' run seat w is there =
    delete_took plan w key card value (ap (λ (u : View). u.answered) is ∙ last) s starts turns s' run seat there

pub given_up_last_changes_nothing : GivenUpLastChangesNothing
given_up_last_changes_nothing plan v op last s starts turns s' run seat w is there =
    given_up_last plan w op (ap (λ (u : View). u.given_up) is ∙ last) s starts turns s' run seat there
