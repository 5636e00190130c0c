-- Call by call: what a pass is told since was there then.
use Rattle.ell_runs.proofs.lemmas.runs.Touching.{calls_touch_their_words, tables_have_outs, calls_touch_nothing_gone, known_taken_out_is_gone}
use Rattle.ell_runs.proofs.lemmas.runs.Alive.{tables_have_uses, turns_keep_dead, calls_touch_nothing_dead, calls_touch_no_dead_card, known_never_comes, known_dead_is_dead, one_card_tells}
use Rattle.ell_runs.proofs.lemmas.runs.Named.{passes_name_met}
use Rattle.ell_runs.proofs.lemmas.runs.SmallRun.{look_begins_when_gone, dead_is_known}
use Rattle.ell_runs.proofs.lemmas.runs.Rests.{rest_touches_the_root}
use Rattle.ell_runs.proofs.laws.calls_touch_nothing_gone.Goals as goal

pub returns : goal.returns
returns c = record {
  words = calls_touch_their_words;
  outs = tables_have_outs;
  touches = calls_touch_nothing_gone;
  premise = look_begins_when_gone;
  gone = known_taken_out_is_gone;
  rest = rest_touches_the_root;
  uses = tables_have_uses;
  stays = turns_keep_dead;
  alive = calls_touch_nothing_dead;
  cards = calls_touch_no_dead_card;
  never = known_never_comes;
  dead = known_dead_is_dead;
  once = one_card_tells;
  known = dead_is_known;
  named = passes_name_met;
}
