use Rattle.ell_grace.proofs.lemmas.dead.Came.{what_came_is_in_or_out}
use Rattle.ell_grace.proofs.lemmas.dead.Runs.{every_state_has_uses, uses_begin, events_keep_uses, dead_stays_dead, dead_cards_have_ended, never_comes_stays_out, taken_out_had_come, children_were_not_dead}
use Rattle.ell_grace.proofs.laws.dead_nodes_stay_dead.Goals as goal

pub returns : goal.returns
returns c = record {
  uses = every_state_has_uses;
  begins = uses_begin;
  keeps = events_keep_uses;
  stays = dead_stays_dead;
  ended = dead_cards_have_ended;
  out = never_comes_stays_out;
  once = taken_out_had_come;
  children = children_were_not_dead;
  came = what_came_is_in_or_out;
}
