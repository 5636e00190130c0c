-- Lemmas on lists, words and nodes.
use Rattle.ell_layout.proofs.lemmas.Seen.{lists_are_written, words_are_written, nodes_are_on_cards}
use Rattle.ell_layout.proofs.laws.writes_are_seen.Goals as goal

pub returns : goal.returns
returns c = record { lists = lists_are_written; words = words_are_written; nodes = nodes_are_on_cards }
