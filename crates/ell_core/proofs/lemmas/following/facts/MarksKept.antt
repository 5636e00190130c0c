use Rattle.std.proofs.Common.{◌≡◌, ℕ, ◌≤◌, ◌==◌, ◌⊎◌, inl, inr, sym, ap, ◌∙◌, subst, arith}
use Rattle.std.proofs.lemmas.Bool.{cases_eq, cond_both, eqb-true}
use Rattle.ell_word.specs.Node.{internal}
use Rattle.ell_core.specs.declared.event.Act.{Act}
use Rattle.ell_core.specs.declared.event.Act.TheVariants as act
use Rattle.ell_core.specs.declared.event.Stepped.{Stepped}
use Rattle.ell_layout.specs.Words.{Words, put, with_update, relinked}
use Rattle.ell_core.specs.state.Machine.{Scene}
use Rattle.ell_layout.specs.Cards.{brought, iflag, dflag, marked, clean, exchange_side}
use Rattle.ell_core.specs.acts.Exchanges.{exchanged_update, exchanged_child, finds_link, expected}
use Rattle.ell_core.specs.acts.Events.{Row}
use Rattle.ell_layout.proofs.lemmas.Writes.{put_same, put_other}
use Rattle.ell_core.proofs.lemmas.runs.Chains.{MarksLater, marks_same}
use Rattle.ell_word.specs.declared.link.Link.{Link}

-- marks are later where an update word changed that was at most what a search read, if a mark was set
marks_put : (w : Words) (x value : ℕ) → ((c : ℕ) → value ≡ marked c → w.update x ≤ w.was c) → (y c : ℕ)
    → put w.update x value y ≡ marked c → (w.update y ≡ marked c) ⊎ (w.update y ≤ w.was c)
marks_put w x value over y c mark = elim (cases_eq y x) [
  | inl e ↦ inr (let at = sym (put_same w.update x value) ∙ (ap (put w.update x value) (sym e) ∙ mark) in
      let less = over c at in
      let same = ap w.update e in
      omega arith)
  | inr n ↦ inl (sym (put_other w.update x value y n) ∙ mark)
]

-- an exchange of an update word sets a mark only over what a search read
marks_exchange : (w : Words) (x expected value : ℕ) → ((c : ℕ) → value ≡ marked c → expected ≤ w.was c)
    → MarksLater w (exchanged_update w x expected value)
marks_exchange w x expected value over =
    cond_both (w.update x == expected) (with_update w x value) w (MarksLater w)
    (λ e y c below mark. marks_put w x value (λ d at. let found = eqb-true (w.update x) expected e in let less = over d at in omega arith) y c mark)
    (λ _. marks_same w)

-- an exchange of a child sets no mark
marks_child : (w : Words) (x : ℕ) (expected : Link) (value : ℕ) → MarksLater w (exchanged_child w x expected value)
marks_child w x expected value =
    cond_both (finds_link w x expected value) (relinked w x (exchange_side w x value) value) w (MarksLater w)
    (λ _ y c below mark. inl mark) (λ _. marks_same w)

-- marks are later in a scene that an event gives
marks_to : (w : Words) (after given : Scene) → after ≡ given → MarksLater w given.words → MarksLater w after.words
marks_to w after given is h = subst (λ (z : Scene). MarksLater w z.words) (sym is) h

-- each event sets a mark only over what a search read
pub marks_step : (a : Act) (s : Scene) (said : Stepped) (after : Scene) → Row a s said after → MarksLater s.words after.words
marks_step (act.Begin op) s said after row = marks_to s.words after _ row.gives (marks_same s.words)
marks_step act.Upd s said after row = marks_to s.words after _ row.gives (marks_same s.words)
marks_step act.Down s said after row = marks_to s.words after _ row.gives (marks_same s.words)
marks_step act.Claim s said after (inl row) = marks_to s.words after _ row.gives
    (λ y c below mark. marks_put s.words (internal s.words.next) (clean 0) (λ d e. absurd (omega arith)) y c mark)
marks_step act.Claim s said after (inr row) = marks_to s.words after _ row.gives (λ y c below mark. inl mark)
marks_step act.IFlag s said after row = marks_to s.words after _ row.gives
    (marks_exchange s.words row.parent.node row.parent.word (iflag row.card) (λ d e. absurd (omega arith)))
marks_step act.DFlag s said after row = marks_to s.words after _ row.gives
    (marks_exchange s.words row.grandparent.node row.grandparent.word (dflag row.card) (λ d e. absurd (omega arith)))
marks_step (act.IChild c) s said after row = marks_to s.words after _ row.gives
    (marks_child s.words (s.words.p c) (expected s.words c (s.words.l c)) (brought s.words c))
marks_step (act.IUnflag c) s said after row = marks_to s.words after _ row.gives
    (marks_exchange s.words (s.words.p c) (iflag c) (clean c) (λ d e. absurd (omega arith)))
marks_step (act.Mark c) s said after row = marks_to s.words after _ row.gives
    (marks_exchange s.words (s.words.p c) (s.words.was c) (marked c)
    (λ d e. let same : c ≡ d = omega arith in let words = ap s.words.was same in omega arith))
marks_step (act.DChild c) s said after row = marks_to s.words after _ row.gives
    (marks_child s.words (s.words.gp c) (expected s.words c (s.words.p c)) _)
marks_step (act.DUnflag c) s said after row = marks_to s.words after _ row.does.gives
    (marks_exchange s.words (s.words.gp c) (dflag c) (clean c) (λ d e. absurd (omega arith)))
marks_step (act.Backtrack c) s said after row = marks_to s.words after _ row.does.gives
    (marks_exchange s.words (s.words.gp c) (dflag c) (clean c) (λ d e. absurd (omega arith)))
marks_step act.Again s said after row = marks_to s.words after _ row.gives (marks_same s.words)
marks_step act.Leave s said after row = marks_to s.words after _ row.gives (marks_same s.words)
marks_step act.Answer s said after row = marks_to s.words after _ row.gives (marks_same s.words)
