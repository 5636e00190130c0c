use Rattle.ell_cards.proofs.lemmas.whole.Seeing.{seen_all, seen_in_line, seen_linear}
use Rattle.ell_runs.specs.Histories.{history_of}
use Rattle.ell_cards.proofs.laws.seen_is_history.Goals as goal

pub returns : goal.returns
returns c = record {
  linear = λ plan t h seat k at. seen_linear plan h.tree h.reached seat k.sight (h.seen seat k at);
  line = λ plan t h i j k l at there. seen_in_line (history_of h.reached.turns) k.sight.seen l.sight.seen (h.seen i k at).part (h.seen j l there).part;
  all = λ plan t h seat k at. (seen_all plan h.tree h.reached t.views h.views h.seen h.made h.silent h.apart seat k at).all;
}
