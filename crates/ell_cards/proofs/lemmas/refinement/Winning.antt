-- Which cards have won their flag after a call: those that had, and the one whose flag the call wins.
use Rattle.std.proofs.Common.{◌≤◌, ◌≡◌, ◌⊎◌, ℕ, ◌+◌, ◌<◌, ◌==◌, if◌then◌else◌, inl, inr, Bool, true, false, Some, List, [], ◌∷◌, ◌++◌, length, refl, sym, ap, ◌∙◌, subst, arith, eqb-true}
use Rattle.std.proofs.lemmas.List.{length-append}
use Rattle.ell_ops.specs.declared.op.Op.{Op}
use Rattle.ell_ops.specs.declared.op.Op.TheVariants.{Find, Insert, Delete, Swap}
use mathlib.Core.Option.{some}
use lib.ListN.{get_elem?}
use Rattle.ell_core.specs.acts.Searching.{put_of}
use Rattle.ell_core.specs.acts.Wins.{win_for}
use Rattle.ell_core.proofs.lemmas.outcomes.Decide.{some_not_none}
use Rattle.ell_core.specs.declared.exchange.Exchange.{Exchange}
use Rattle.ell_core.specs.declared.exchange.Exchange.TheVariants as exchange
use Rattle.ell_core.specs.declared.fact.Fact.TheVariants as fact
use Rattle.ell_core.specs.history.Later.{StagesLater, wins_of}
use Rattle.ell_core.specs.history.Stages.{Stage, Stages, is_claimed, waits, is_start, is_insert, is_delete, insert_won, delete_won, is_changed, is_marked, is_cut, is_unmarkable, is_node_born}
use Rattle.ell_layout.specs.declared.field.Field.{Field}
use Rattle.ell_runs.specs.declared.call.Call.{Call}
use Rattle.ell_runs.specs.declared.call.Call.TheVariants as call
use Rattle.ell_runs.specs.declared.view.View.{View}
use Rattle.ell_core.specs.statements.Since.{has_ended}
use Rattle.ell_runs.specs.Calls.{May, atomic_of, is_won}
use Rattle.ell_runs.specs.Machines.{HasMachine}
use Rattle.ell_runs.specs.Plans.{TablePlan}
use Rattle.ell_runs.specs.Views.{Does}
use Rattle.ell_runs.specs.Sayings.{says, put_says, delete_says}
use Rattle.ell_runs.specs.States.{TableState}
use Rattle.ell_cards.specs.Refinement.{HasWon, FlagsCard}
use Rattle.ell_runs.specs.TurnEffects.{turn_wins}
use Rattle.ell_runs.specs.Turns.{Makes, found_by}
use Rattle.ell_runs.proofs.lemmas.seats.Seats.{mine_sound}

-- by its stage a card has won its flag, or is of the opening tree
abbrev pub IsWonStage : Stage → Type 0
IsWonStage s = (is_claimed s ≡ true) × (waits s ≡ false)

-- that is so where it is of the opening tree or has won something, and nowhere else
won_some : (s : Stage) → IsWonStage s → (is_start s ≡ true) ⊎ (0 < length (wins_of s))
won_some s (claimed, settled) = grind arith

-- a card that has ended has won two exchanges at least
pub ended_long : (s : Stage) → has_ended s ≡ true → 2 ≤ length (wins_of s)
ended_long s h = grind arith

pub start_won : (s : Stage) → is_start s ≡ true → IsWonStage s
start_won s h = (grind arith, grind arith)

some_won : (s : Stage) → 0 < length (wins_of s) → IsWonStage s
some_won s h = (grind arith, grind arith)

-- so it is of a card that is this far
pub born_won : (s : Stage) (place : ℕ) → is_node_born s place ≡ true → IsWonStage s
born_won s place h = (grind arith, grind arith)

-- and that one is no delete's
pub born_is_put : (s : Stage) (place : ℕ) → is_node_born s place ≡ true → is_delete s ≡ false
born_is_put s place h = grind arith

pub start_is_put : (s : Stage) → is_start s ≡ true → is_delete s ≡ false
start_is_put s h = grind arith

pub insert_is_put : (s : Stage) → is_insert s ≡ true → is_delete s ≡ false
insert_is_put s h = grind arith

-- a card that has won its flag is of the opening tree, an insert's or a delete's
won_kinds : (s : Stage) → IsWonStage s → (is_start s ≡ true) ⊎ ((is_insert s ≡ true) ⊎ (is_delete s ≡ true))
won_kinds s (claimed, settled) = grind arith

-- so it keeps its kind
pub kind_stays : (old new : Stages) → StagesLater old new → (d : ℕ) → HasWon old d → is_delete (new d) ≡ is_delete (old d)
kind_stays old new later d won = elim (won_kinds (old d) won) [
  | inl start ↦ start_is_put (new d) (later.start d ∙ start) ∙ sym (start_is_put (old d) start)
  | inr (inl insert) ↦ insert_is_put (new d) (later.insert d insert) ∙ sym (insert_is_put (old d) insert)
  | inr (inr delete) ↦ later.delete d delete ∙ sym delete
]

-- what a card says goes by its kind
pub says_by : (b : Bool) (s : Stage) → is_delete s ≡ b → (f : Field) → says s f ≡ (if b then delete_says f else put_says f)
says_by b s is f = ap (λ x. if x then delete_says f else put_says f) is

-- and says no more than it did
pub says_before : (old new : Stages) → StagesLater old new → (d : ℕ) (f : Field) → HasWon old d → says (new d) f ≡ true → says (old d) f ≡ true
says_before old new later d f won said = ap (λ b. if b then delete_says f else put_says f) (sym (kind_stays old new later d won)) ∙ said

pub insert_is_won : (s : Stage) → insert_won s ≡ true → IsWonStage s
insert_is_won s h = (grind arith, grind arith)

pub changed_is_won : (s : Stage) → is_changed s ≡ true → IsWonStage s
changed_is_won s h = (grind arith, grind arith)

pub delete_is_won : (s : Stage) → delete_won s ≡ true → IsWonStage s
delete_is_won s h = (grind arith, grind arith)

pub marked_is_won : (s : Stage) → is_marked s ≡ true → IsWonStage s
marked_is_won s h = (grind arith, grind arith)

pub cut_is_won : (s : Stage) → is_cut s ≡ true → IsWonStage s
cut_is_won s h = (grind arith, grind arith)

pub unmarkable_is_won : (s : Stage) → is_unmarkable s ≡ true → IsWonStage s
unmarkable_is_won s h = (grind arith, grind arith)

-- a card that wins nothing has won its flag if it had
pub won_before : (old new : Stages) → StagesLater old new → (d : ℕ) → wins_of (new d) ≡ wins_of (old d) ++ [] → HasWon new d → HasWon old d
won_before old new later d wins won = elim (won_some (new d) won) [
  | inl start ↦ start_won (old d) (sym (later.start d) ∙ start)
  | inr more ↦
      let same : length (wins_of (new d)) ≡ length (wins_of (old d)) + 0 = ap length wins ∙ length-append (wins_of (old d)) [] in
      some_won (old d) (omega arith)
]

-- what is won for a card is nothing for another one
for_card : (b : Bool) (k : Exchange) (c d : ℕ) → ((if b then win_for (Some c) k d else []) ≡ []) ⊎ (d ≡ c)
for_card false k c d = inl refl
for_card true k c d = by (d == c) refl
  where
    by : (b : Bool) → (d == c) ≡ b → ((if b then k ∷ [] else []) ≡ []) ⊎ (d ≡ c)
    by true e = inr (eqb-true d c e)
    by false e = inl refl

none_for : (b : Bool) (none : List Exchange) → (if b then none else none) ≡ none
none_for true none = refl
none_for false none = refl

-- what the card says that a call flags
abbrev pub flag_says : Call → Field → Bool
flag_says (call.IFlag c p from) f = put_says f
flag_says c f = delete_says f

module _ (plan : TablePlan) (s : TableState) (r : HasMachine plan s) (id : ℕ) (v : View) (here : get_elem? s.views id ≡ some v) where
  -- whatever a call wins for a card that is no flag, that card has won its flag
  pub gains : (c : Call) → May plan c v → (d : ℕ) → (turn_wins s (Makes id c) d ≡ []) ⊎ (HasWon r.stages d ⊎ FlagsCard c d)
  gains (call.IFlag c p from) may d = elim (for_card (is_won (atomic_of (call.IFlag c p from)) (found_by s (call.IFlag c p from))) exchange.IFlag c d) [ inl e ↦ inl e | inr e ↦ inr (inr e) ]
  gains (call.DFlag c gp from) may d = elim (for_card (is_won (atomic_of (call.DFlag c gp from)) (found_by s (call.DFlag c gp from))) exchange.DFlag c d) [ inl e ↦ inl e | inr e ↦ inr (inr e) ]
  gains (call.IChild c p l replaces right) may d = elim (for_card (is_won (atomic_of (call.IChild c p l replaces right)) (found_by s (call.IChild c p l replaces right))) exchange.IChild c d) [
    | inl e ↦ inl e
    | inr e ↦ inr (inl (subst (HasWon r.stages) (sym e) (insert_is_won (r.stages c) ((mine_sound plan s r id v here).facts (fact.IFlagged c) may.knows))))
  ]
  gains (call.IUnflag c p) may d = elim (for_card (is_won (atomic_of (call.IUnflag c p)) (found_by s (call.IUnflag c p))) exchange.IUnflag c d) [
    | inl e ↦ inl e
    | inr e ↦ inr (inl (subst (HasWon r.stages) (sym e) (changed_is_won (r.stages c) ((mine_sound plan s r id v here).facts (fact.IChanged c) may.knows))))
  ]
  gains (call.Mark c p was) may d = elim (for_card (is_won (atomic_of (call.Mark c p was)) (found_by s (call.Mark c p was))) exchange.Mark c d) [
    | inl e ↦ inl e
    | inr e ↦ inr (inl (subst (HasWon r.stages) (sym e) (delete_is_won (r.stages c) ((mine_sound plan s r id v here).facts (fact.DFlagged c) may.0.knows))))
  ]
  gains (call.DChild c gp p y right) may d = elim (for_card (is_won (atomic_of (call.DChild c gp p y right)) (found_by s (call.DChild c gp p y right))) exchange.DChild c d) [
    | inl e ↦ inl e
    | inr e ↦ inr (inl (subst (HasWon r.stages) (sym e) (marked_is_won (r.stages c) ((mine_sound plan s r id v here).facts (fact.Marked c) may.knows))))
  ]
  gains (call.DUnflag c gp) may d = elim (for_card (is_won (atomic_of (call.DUnflag c gp)) (found_by s (call.DUnflag c gp))) exchange.DUnflag c d) [
    | inl e ↦ inl e
    | inr e ↦ inr (inl (subst (HasWon r.stages) (sym e) (cut_is_won (r.stages c) ((mine_sound plan s r id v here).facts (fact.Cut c) may.knows))))
  ]
  gains (call.Backtrack c gp) may d = elim (for_card (is_won (atomic_of (call.Backtrack c gp)) (found_by s (call.Backtrack c gp))) exchange.Backtrack c d) [
    | inl e ↦ inl e
    | inr e ↦ inr (inl (subst (HasWon r.stages) (sym e) (unmarkable_is_won (r.stages c) ((mine_sound plan s r id v here).facts (fact.Unmarkable c) may.knows))))
  ]
  gains (call.Claim c q) may d = inl (none_for (is_won (atomic_of (call.Claim c q)) (found_by s (call.Claim c q))) [])
  gains _ may d = inl refl

  -- a card that a call flags says what the call asks to be stored of it
  pub flag_kind : (new : Stages) → StagesLater r.stages new → (c : Call) → May plan c v → (d : ℕ) (f : Field) → FlagsCard c d → says (new d) f ≡ true → flag_says c f ≡ true
  flag_kind new later (call.IFlag c p from) may d f is said = by may.op may.busy may.puts
    where
      puts : is_insert (r.stages c) ≡ true → put_says f ≡ true
      puts insert = sym (says_by false (new c) (insert_is_put (new c) (later.insert c insert)) f) ∙ subst (λ e. says (new e) f ≡ true) is said

      by : (op : Op) → Does v op → put_of op ≡ Some may.what → put_says f ≡ true
      by (Insert k value) busy is = puts ((mine_sound plan s r id v here).unflagged (Insert k value) c busy may.may.holds may.may.unflagged).claimed.0
      by (Swap k was value) busy is = puts ((mine_sound plan s r id v here).unflagged (Swap k was value) c busy may.may.holds may.may.unflagged).claimed.0
      by (Find k) busy none = absurd (some_not_none none refl)
      by (Delete k) busy none = absurd (some_not_none none refl)
  flag_kind new later (call.DFlag c gp from) may d f is said =
      let delete = ((mine_sound plan s r id v here).unflagged (Delete may.key) c may.busy may.may.holds may.may.unflagged).claimed.0 in
      sym (says_by true (new c) (later.delete c delete) f) ∙ subst (λ e. says (new e) f ≡ true) is said
  flag_kind new later _ may d f is said = absurd is

  -- so who has won its flag after a call had won it before, or the call wins it
  pub won_by_call : (new : Stages) → StagesLater r.stages new → (c : Call) → May plan c v
      → ((d : ℕ) → wins_of (new d) ≡ wins_of (r.stages d) ++ turn_wins s (Makes id c) d) → (d : ℕ) → HasWon new d → HasWon r.stages d ⊎ FlagsCard c d
  won_by_call new later c may wins d won = elim (gains c may d) [
    | inl none ↦ inl (won_before r.stages new later d (wins d ∙ ap (λ ks. wins_of (r.stages d) ++ ks) none) won)
    | inr more ↦ more
  ]
