use Rattle.std.proofs.Common.{◌≤◌}
use Rattle.one_winner.proofs.main.Given as goal

abbrev pub invariant-loop-round : goal.invariant-loop-round
invariant-loop-round g l = record {
  one_winner : l.tally.one_winner ≤ l.round;
  winner_found : l.tally.winner_found ≤ l.round;
  told_found : l.tally.told_found ≤ l.round;
  first_won : l.tally.first_won ≤ l.round;
  found_early : l.tally.found_early ≤ l.round;
  flag_found : l.tally.flag_found ≤ l.round;
  flag_alone : l.tally.flag_alone ≤ l.round;
}
