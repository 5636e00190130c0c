use Rattle.std.proofs.Common.{◌≡◌, ◌≤◌, ◌++◌, ℕ, List, length, drop, append-nil, sym, ap, ◌∙◌, arith}
use Rattle.std.proofs.lemmas.List.{drop_all}
use Rattle.ell_runs.proofs.lemmas.lifetimes.Parts.{without, ascending_parts}
use Rattle.ell_cards.proofs.lifetime.parted.Goals as goal

-- what is left at the end of the walk is nothing
at_end : (keys rest left some : List ℕ) (i : ℕ) → length keys ≤ i → rest ++ without (drop i keys) left ≡ without keys some → rest ≡ without keys some
at_end keys rest left some i past h = sym (append-nil rest) ∙ (ap (λ l. rest ++ without l left) (sym (drop_all i keys past)) ∙ h)

pub overflow_sub-keys : goal.overflow_sub-keys
overflow_sub-keys g c =
    let count = (ascending_parts c.args.keys.now c.args.some.now c.requires.ascending c.requires.some_ascending c.requires.among).count in
    omega arith

pub returns-clause-rest : goal.returns-clause-rest
returns-clause-rest g c =
    at_end c.args.keys.now c.loop-key.rest.items c.loop-key.left.now c.args.some.now c.loop-key.key-index c.loop-key-test.false c.loop-key.invariant
    ∙ (ascending_parts c.args.keys.now c.args.some.now c.requires.ascending c.requires.some_ascending c.requires.among).stay
