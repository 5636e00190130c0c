use Rattle.ell_tree.proofs.lemmas.OneThread as of_stories
use Rattle.ell_tree.proofs.laws.stories_are_of_one_thread.Goals as goal

pub returns : goal.returns
returns c = of_stories.stories_are_of_one_thread
