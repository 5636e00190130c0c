-- Each state breaks its clause.
use Rattle.ell_core.proofs.lemmas.following.small_states.Flags.{left_broken, another_broken, not_won_broken, iflag_broken, dflag_broken, mark_broken}
use Rattle.ell_core.proofs.laws.unsound.no_flag_is_left_standing.Goals as goal

pub returns : goal.returns
returns c = record {
  in_hand = left_broken;
  holds = another_broken;
  flagged = not_won_broken;
  iflag_place = iflag_broken;
  dflag_place = dflag_broken;
  mark_place = mark_broken;
}
