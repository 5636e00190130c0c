-- A search stands where its key's walk has been since it began, and a card in hand was claimed since.
use Rattle.ell_runs.proofs.lemmas.runs.Points.{calls_have_their_point, calls_have_their_own_cards}
use Rattle.ell_runs.proofs.lemmas.runs.AsMap.{calls_answer_as_a_map, trees_are_maps, trees_are_of_one_thread, calls_reply_as_one_thread}
use Rattle.ell_runs.proofs.laws.calls_have_their_point.Goals as goal

pub returns : goal.returns
returns c = record { point = calls_have_their_point; map = calls_answer_as_a_map; apart = calls_have_their_own_cards; maps = trees_are_maps; thread = trees_are_of_one_thread; replies = calls_reply_as_one_thread }
