-- So far no line has a fault, and the draft is that of the lines before this one.
use Rattle.std.specs.Iterator.Adapters.{enumerate_source, enumerate_count}
use Rattle.ell_text.specs.replays.Draft.{DraftFits, draft_value}
use Rattle.ell_text.specs.Lines.{lines}
use Rattle.ell_text.proofs.lemmas.Scripts.{IsDraftedTo}
use Rattle.ell_text.proofs.replay.read_replay.Given as goal

abbrev pub invariant-loop-index : goal.invariant-loop-index
invariant-loop-index g l = record {
  drafted : IsDraftedTo (lines l.fn.bytes) (enumerate_source l.index-iterator) (enumerate_count l.index-iterator) (draft_value l.draft);
  fits : DraftFits (draft_value l.draft);
}
