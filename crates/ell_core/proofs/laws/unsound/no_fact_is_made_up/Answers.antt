-- In each state each of these facts fails.
use Rattle.ell_core.proofs.lemmas.following.small_states.Facts.{insert_card_broken, insert_flag_broken, insert_child_broken, insert_over_broken, delete_card_broken, marked_card_broken, delete_flag_broken, passed_flag_broken, passed_broken, mark_broken, delete_child_broken, delete_over_broken, backed_broken}
use Rattle.ell_core.proofs.laws.unsound.no_fact_is_made_up.Goals as goal

pub returns : goal.returns
returns c = record {
  insert_card = insert_card_broken;
  insert_flag = insert_flag_broken;
  insert_child = insert_child_broken;
  insert_over = insert_over_broken;
  delete_card = delete_card_broken;
  marked_card = marked_card_broken;
  delete_flag = delete_flag_broken;
  passed_flag = passed_flag_broken;
  passed = passed_broken;
  mark = mark_broken;
  delete_child = delete_child_broken;
  delete_over = delete_over_broken;
  backed = backed_broken;
}
