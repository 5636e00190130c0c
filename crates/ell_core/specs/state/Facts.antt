use Rattle.std.specs.Prelude.{ℕ, ◌==◌, ◌||◌, Bool, false, Option, Some, None, List}
use Rattle.std.specs.List.{list_any}
use Rattle.ell_word.specs.declared.update.State.{State}
use Rattle.ell_word.specs.declared.update.State.TheVariants as state
use Rattle.ell_word.specs.Word.{unpacked}
use Rattle.ell_core.specs.declared.fact.Fact.{Fact}
use Rattle.ell_core.specs.declared.fact.Fact.TheVariants.{IFlagged, IChanged, IOver, DFlagged, Marked, Unmarkable, Cut, DOver, Backed}

-- which facts a worker knows
abbrev pub Knowledge : Type 0
Knowledge = Fact → Bool

-- the card that a fact names
abbrev pub card_of_fact : Fact → ℕ
card_of_fact (IFlagged c) = c
card_of_fact (IChanged c) = c
card_of_fact (IOver c) = c
card_of_fact (DFlagged c) = c
card_of_fact (Marked c) = c
card_of_fact (Unmarkable c) = c
card_of_fact (Cut c) = c
card_of_fact (DOver c) = c
card_of_fact (Backed c) = c

-- whether two facts are one
abbrev pub same_fact : Fact → Fact → Bool
same_fact (IFlagged c) (IFlagged d) = c == d
same_fact (IChanged c) (IChanged d) = c == d
same_fact (IOver c) (IOver d) = c == d
same_fact (DFlagged c) (DFlagged d) = c == d
same_fact (Marked c) (Marked d) = c == d
same_fact (Unmarkable c) (Unmarkable d) = c == d
same_fact (Cut c) (Cut d) = c == d
same_fact (DOver c) (DOver d) = c == d
same_fact (Backed c) (Backed d) = c == d
same_fact _ _ = false

-- the knowledge that a list of facts is
abbrev pub known_of : List Fact → Knowledge
known_of facts = λ fact. list_any (same_fact fact) facts

-- the knowledge with one fact more
abbrev pub learned : Knowledge → Fact → Knowledge
learned known new = λ fact. same_fact fact new || known fact

-- the knowledge with the fact, if there is one
abbrev pub learned_any : Knowledge → Option Fact → Knowledge
learned_any known None = known
learned_any known (Some new) = learned known new

-- the fact that a flag or a mark of a card tells
abbrev pub told_by_state : State → ℕ → Option Fact
told_by_state state.IFlag c = Some (IFlagged c)
told_by_state state.DFlag c = Some (DFlagged c)
told_by_state state.Mark c = Some (Marked c)
told_by_state state.Clean c = None

-- the fact that an update word tells whoever reads or finds it
abbrev pub told_by : ℕ → Option Fact
told_by update = told_by_state (unpacked update).state (unpacked update).card
