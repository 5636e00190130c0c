use Rattle.std.proofs.Common.{◌≡◌, ℕ, ◌==◌, inl, inr, Bool, true, false, refl, sym, ap, ◌∙◌, subst, arith}
use Rattle.ell_core.specs.declared.event.Act.{Act}
use Rattle.ell_core.specs.declared.event.Act.TheVariants as act
use Rattle.ell_core.specs.declared.event.Stepped.{Stepped}
use Rattle.ell_core.specs.declared.event.Stepped.TheVariants.{Moved, Answered}
use Rattle.ell_core.specs.declared.fact.Fact.{Fact}
use Rattle.ell_core.specs.declared.fact.Fact.TheVariants.{IFlagged, DFlagged, Marked}
use Rattle.ell_core.specs.state.Facts.{Knowledge, told_by}
use Rattle.ell_core.specs.state.Machine.{Ledger, Worker, Scene}
use Rattle.ell_core.specs.acts.Searching.{Answer}
use Rattle.ell_core.specs.acts.Exchanges.{won_or_lost, flagged_worker, mark_teaches}
use Rattle.ell_core.specs.acts.Events.{Row}
use Rattle.ell_core.specs.statements.Effects.{AnswersAsMap}
use Rattle.ell_core.proofs.lemmas.words.Learned.{learned_keeps, learned_any_keeps}

-- what a mark teaches adds to what was known
mark_keeps : (known : Knowledge) (c : ℕ) (won : Bool) (found : ℕ) (fact : Fact) → known fact ≡ true → mark_teaches known c won found fact ≡ true
mark_keeps known c true found fact h = learned_keeps known (Marked c) fact h
mark_keeps known c false found fact h = grind (arith, learned_keeps, learned_any_keeps)

-- a worker after its flag exchange knows what it knew, and has its ledger
flag_keeps : (v : Worker) (won : Bool) (new : Fact) (found : ℕ) (fact : Fact) → v.knows fact ≡ true → (flagged_worker v won new found).knows fact ≡ true
flag_keeps v true new found fact h = learned_keeps v.knows new fact h
flag_keeps v false new found fact h = learned_any_keeps v.knows (told_by found) fact h

flag_ledger : (v : Worker) (won : Bool) (new : Fact) (found : ℕ) → (flagged_worker v won new found).ledger ≡ v.ledger
flag_ledger v true new found = refl
flag_ledger v false new found = refl

-- a scene after which the worker knows no less
abbrev KnowsMore : Scene → Scene → Type 0
KnowsMore s after = (fact : Fact) → s.worker.knows fact ≡ true → after.worker.knows fact ≡ true

-- it is so of a scene that is said to be this one
by_scene : (s after this : Scene) → after ≡ this → KnowsMore s this → KnowsMore s after
by_scene s after this is h = subst (KnowsMore s) (sym is) h

-- no event makes its worker know less
pub row_knows : (a : Act) (s : Scene) (said : Stepped) (after : Scene) → Row a s said after → KnowsMore s after
row_knows (act.Begin op) s said after r = by_scene s after _ r.gives (λ fact h. h)
row_knows act.Upd s said after r = by_scene s after _ r.gives (λ fact h. learned_any_keeps s.worker.knows (told_by (s.words.update r.node)) fact h)
row_knows act.Down s said after r = by_scene s after _ r.gives (λ fact h. h)
row_knows act.Claim s said after (inl r) = by_scene s after _ r.gives (λ fact h. h)
row_knows act.Claim s said after (inr r) = by_scene s after _ r.gives (λ fact h. h)
row_knows act.IFlag s said after r = by_scene s after _ r.gives (λ fact h. flag_keeps s.worker (s.words.update r.parent.node == r.parent.word) (IFlagged r.card) (s.words.update r.parent.node) fact h)
row_knows act.DFlag s said after r =
    by_scene s after _ r.gives (λ fact h. flag_keeps s.worker (s.words.update r.grandparent.node == r.grandparent.word) (DFlagged r.card) (s.words.update r.grandparent.node) fact h)
row_knows (act.IChild c) s said after r = by_scene s after _ r.gives (λ fact h. learned_keeps s.worker.knows _ fact h)
row_knows (act.IUnflag c) s said after r = by_scene s after _ r.gives (λ fact h. learned_keeps s.worker.knows _ fact h)
row_knows (act.Mark c) s said after r = by_scene s after _ r.gives (λ fact h. mark_keeps s.worker.knows c (s.words.update (s.words.p c) == s.words.was c) (s.words.update (s.words.p c)) fact h)
row_knows (act.DChild c) s said after r = by_scene s after _ r.gives (λ fact h. learned_keeps s.worker.knows _ fact h)
row_knows (act.DUnflag c) s said after r = by_scene s after _ r.does.gives (λ fact h. learned_keeps s.worker.knows _ fact h)
row_knows (act.Backtrack c) s said after r = by_scene s after _ r.does.gives (λ fact h. learned_keeps s.worker.knows _ fact h)
row_knows act.Again s said after r = by_scene s after _ r.gives (λ fact h. h)
row_knows act.Leave s said after r = by_scene s after _ r.gives (λ fact h. h)
row_knows act.Answer s said after r = by_scene s after _ r.gives (λ fact h. h)

-- what a row does to the ledger of its worker, by its answer
abbrev pub LedgerChanges : Scene → Stepped → Scene → Type 0
LedgerChanges s (Answered reply) after = AnswersAsMap s.worker after.worker.ledger reply
LedgerChanges s _ after = after.worker.ledger ≡ s.worker.ledger

-- a row that answers no operation leaves the ledger
moved : (s after : Scene) (said : Stepped) → said ≡ Moved → after.worker.ledger ≡ s.worker.ledger → LedgerChanges s said after
moved s after said is h = subst (λ (x : Stepped). LedgerChanges s x after) (sym is) h

exchanged : (s after : Scene) (said : Stepped) (won : Bool) → said ≡ won_or_lost won → after.worker.ledger ≡ s.worker.ledger → LedgerChanges s said after
exchanged s after said true is h = subst (λ (x : Stepped). LedgerChanges s x after) (sym is) h
exchanged s after said false is h = subst (λ (x : Stepped). LedgerChanges s x after) (sym is) h

-- the ledger of a scene
ledger_in : Scene → Ledger
ledger_in s = s.worker.ledger

-- the ledger of a row's worker, where an answer does to it what it should
pub row_ledger : (a : Act) (s : Scene) (said : Stepped) (after : Scene)
    → ((x : Stepped) (t : Scene) → Answer s x t → LedgerChanges s x t) → Row a s said after → LedgerChanges s said after
unfolding ledger_in
row_ledger (act.Begin op) s said after answers r = moved s after said r.says (ap ledger_in r.gives)
row_ledger act.Upd s said after answers r = moved s after said r.says (ap ledger_in r.gives)
row_ledger act.Down s said after answers r = moved s after said r.says (ap ledger_in r.gives)
row_ledger act.Claim s said after answers (inl r) = moved s after said r.says (ap ledger_in r.gives)
row_ledger act.Claim s said after answers (inr r) = moved s after said r.says (ap ledger_in r.gives)
row_ledger act.IFlag s said after answers r =
    exchanged s after said (s.words.update r.parent.node == r.parent.word) r.says (ap ledger_in r.gives ∙ flag_ledger s.worker (s.words.update r.parent.node == r.parent.word) (IFlagged r.card) (s.words.update r.parent.node))
row_ledger act.DFlag s said after answers r =
    exchanged s after said (s.words.update r.grandparent.node == r.grandparent.word) r.says (ap ledger_in r.gives ∙ flag_ledger s.worker (s.words.update r.grandparent.node == r.grandparent.word) (DFlagged r.card) (s.words.update r.grandparent.node))
row_ledger (act.IChild c) s said after answers r = exchanged s after said _ r.says (ap ledger_in r.gives)
row_ledger (act.IUnflag c) s said after answers r = exchanged s after said _ r.says (ap ledger_in r.gives)
row_ledger (act.Mark c) s said after answers r = exchanged s after said _ r.says (ap ledger_in r.gives)
row_ledger (act.DChild c) s said after answers r = exchanged s after said _ r.says (ap ledger_in r.gives)
row_ledger (act.DUnflag c) s said after answers r = exchanged s after said _ r.does.says (ap ledger_in r.does.gives)
row_ledger (act.Backtrack c) s said after answers r = exchanged s after said _ r.does.says (ap ledger_in r.does.gives)
row_ledger act.Again s said after answers r = moved s after said r.says (ap ledger_in r.gives)
row_ledger act.Leave s said after answers r = moved s after said r.says (ap ledger_in r.gives)
row_ledger act.Answer s said after answers r = answers said after r
