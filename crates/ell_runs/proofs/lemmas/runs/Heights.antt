use Rattle.std.proofs.Common.{◌∙◌, ℕ, ◌%◌, ◌+◌, ◌≤◌, Bool, List, [], ◌∷◌, length, ap, arith}
use Rattle.ell_word.specs.Node.{card}
use Rattle.ell_layout.specs.Words.{Words}
use Rattle.ell_core.specs.tree.Tree.{Leads, Reached, IsLawful}
use Rattle.ell_core.proofs.lemmas.stages.Order.{born-claimed}
use Rattle.ell_core.proofs.lemmas.tree.Paths.{Below-refl, Reached-child}
use Rattle.ell_runs.specs.Depths.{level}
use Rattle.ell_runs.specs.Machines.{HasMachine}
use Rattle.ell_runs.specs.TurnEffects.{own_words}
use Rattle.ell_runs.specs.Stretches.{TablesHaveHeights}
use Rattle.ell_runs.proofs.lemmas.own_words.OwnTree.{reached_born}
use Rattle.ell_runs.proofs.lemmas.own_words.OwnWords.{same_card, same_flat, own_words_are_sound}
use Rattle.ell_runs.proofs.lemmas.runs.Reaching.{reached_kept}
use Rattle.ell_runs.proofs.lemmas.Ranks.{level_rises, level_within}

-- with each step of a path the level rises
steps_rise : (w : Words) → IsLawful w → (x : ℕ) (path : List Bool) (y : ℕ) → Reached w x → Leads w x path y → level w x + length path ≤ level w y
steps_rise w lawful x [] y reached leads = let same = ap (level w) leads in omega arith
steps_rise w lawful x (right ∷ path) y reached leads =
    let up = level_rises w x (w.child x right) leads.0 (lawful.rises x right reached leads.0) in
    let rest = steps_rise w lawful (w.child x right) path y (Reached-child w x right reached leads.0) leads.1 in
    omega arith

pub tables_have_heights : TablesHaveHeights
tables_have_heights plan s reached path x leads inner =
    let w = own_words s in
    let rise = steps_rise w (own_words_are_sound plan s r).tree 0 path x (Below-refl w 0) leads in
    let born = reached_born r.words w r.stages r.invariant.words (same_card plan s r) x (record { path = path; leads = leads }) in
    let low = (r.invariant.words.cards (card x)).claimed.0 (born-claimed (r.stages (card x)) (x % 4) born) in
    let limit = r.invariant.limit in
    let most = level_within plan w (same_flat plan s r ∙ r.shape) x (omega arith) in
    omega arith
  where
    r : HasMachine plan s
    r = reached_kept plan s reached
