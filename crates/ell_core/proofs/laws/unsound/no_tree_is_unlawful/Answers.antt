-- Each state breaks its rule.
use Rattle.ell_core.proofs.lemmas.following.small_states.Trees.{rises_broken, path_broken, left_broken, right_broken, root_key_broken, root_right_broken, right_key_broken, last_broken, outer_broken, real_broken, deep_broken}
use Rattle.ell_core.proofs.laws.unsound.no_tree_is_unlawful.Goals as goal

pub returns : goal.returns
returns c = record {
  rises = rises_broken;
  one_path = path_broken;
  left_less = left_broken;
  right_more = right_broken;
  root_key = root_key_broken;
  root_right = root_right_broken;
  right_key = right_key_broken;
  left_last = last_broken;
  left_outer = outer_broken;
  left_real = real_broken;
  left_deep = deep_broken;
}
