use Rattle.std.proofs.Common.{◌≡◌, ℕ, ◌<◌, ◌⊎◌, ◌==◌, if◌then◌else◌, Bool, true, false, Some, [], ◌∷◌, inl, inr, refl, sym, ap, ◌∙◌, subst, arith, eqb-true}
use Rattle.ell_ops.specs.declared.op.Op.{Op}
use Rattle.ell_ops.specs.declared.op.Op.TheVariants.{Delete}
use Rattle.ell_core.specs.declared.exchange.Exchange.TheVariants as exchange
use Rattle.ell_layout.specs.Words.{Words}
use Rattle.ell_layout.specs.Cards.{card_key, card_value, is_replace_card}
use Rattle.ell_core.specs.statements.Effects.{MakesChange, op_brought, op_of_card}
use Rattle.ell_core.proofs.lemmas.stages.Sums.{child_changes, sum_by, win_sum}
use Rattle.ell_runs.specs.declared.call.Call.{Call}
use Rattle.ell_runs.specs.declared.call.Call.TheVariants as call
use Rattle.ell_runs.specs.Calls.{atomic_of, is_won}
use Rattle.ell_runs.specs.States.{TableState}
use Rattle.ell_runs.specs.Turns.{Turn, Makes, Splits, Joins, found_by}
use Rattle.ell_runs.specs.TurnEffects.{own_words, PairsChangeBy, IsAtWork, ChangeIsOf, PairsGoBy, IsWonFor, win_of, turn_wins}
use Rattle.ell_runs.specs.Meanwhile.{KeepsOn, KeepOn}
use Rattle.ell_runs.specs.Changing.{change_of, FindsItsValue, effect_of, turn_effect}

-- an insert's card changes the tree by its ichild
brought_change : (b : Bool) (key was value : ℕ) → change_of (op_brought b key was value) ≡ exchange.IChild ∷ []
brought_change true key was value = refl
brought_change false key was value = refl

card_change : (w : Words) (c : ℕ) → change_of (op_of_card w c) ≡ exchange.IChild ∷ []
card_change w c = brought_change (is_replace_card w c) (card_key w c) (w.value (w.l c)) (card_value w c)

-- and it is none that takes its value away
brought_finds : (b : Bool) (key was value c : ℕ) (w : Words) → FindsItsValue (op_brought b key was value) c w
brought_finds true key was value c w = tt
brought_finds false key was value c w = tt

-- a call changes the tree by one operation or not at all
effect_cases : (y : Call) (b : Bool) (w : Words) → (effect_of y b w ≡ []) ⊎ ((op : Op) × (effect_of y b w ≡ op ∷ []))
effect_cases (call.IChild d p l replaces right) true w = inr (op_of_card w d, refl)
effect_cases (call.DChild d gp p y right) true w = inr (Delete (card_key w d), refl)
effect_cases _ b w = inl refl

pub turn_cases : (s : TableState) (t : Turn) → (turn_effect s t ≡ []) ⊎ ((op : Op) × (turn_effect s t ≡ op ∷ []))
turn_cases s (Makes seat y) = effect_cases y (is_won (atomic_of y) (found_by s y)) (own_words s)
turn_cases s (Splits seat left) = inl refl
turn_cases s (Joins seat other) = inl refl

-- a call that does not wins no exchange of a child
effect_none : (y : Call) (b : Bool) (w : Words) (c : ℕ) → effect_of y b w ≡ [] → sum_by child_changes (if b then win_of y c else []) ≡ 0
effect_none y false w c e = refl
effect_none (call.IChild d p l replaces right) true w c e = absurd cc
effect_none (call.DChild d gp p y right) true w c e = absurd cc
effect_none (call.IFlag d p from) true w c e = win_sum child_changes (Some d) exchange.IFlag c refl
effect_none (call.IUnflag d p) true w c e = win_sum child_changes (Some d) exchange.IUnflag c refl
effect_none (call.DFlag d gp from) true w c e = win_sum child_changes (Some d) exchange.DFlag c refl
effect_none (call.Mark d p was) true w c e = win_sum child_changes (Some d) exchange.Mark c refl
effect_none (call.DUnflag d gp) true w c e = win_sum child_changes (Some d) exchange.DUnflag c refl
effect_none (call.Backtrack d gp) true w c e = win_sum child_changes (Some d) exchange.Backtrack c refl
effect_none _ true w c e = refl

pub turn_none : (s : TableState) (t : Turn) (c : ℕ) → turn_effect s t ≡ [] → sum_by child_changes (turn_wins s t c) ≡ 0
turn_none s (Makes seat y) c e = effect_none y (is_won (atomic_of y) (found_by s y)) (own_words s) c e
turn_none s (Splits seat left) c e = refl
turn_none s (Joins seat other) c e = refl

-- a call by which the tree changes: its card alone wins, which some pass has in hand for that operation
record CallChanges (s : TableState) (y : Call) (b : Bool) (op : Op) : Type 0 where
  card : ℕ
  own : (c : ℕ) → (if b then win_of y c else []) ≡ (if c == card then change_of op else [])
  work : ChangeIsOf y b s → IsAtWork s card op
  makes : (new : Words) → PairsChangeBy y b (own_words s) new → MakesChange op (own_words s) new
  finds : (new : Words) → PairsChangeBy y b (own_words s) new → FindsItsValue op card (own_words s)
  one : sum_by child_changes (change_of op) ≡ 1
  keeps : KeepsOn y

one_op : (a b : Op) → a ∷ [] ≡ b ∷ [] → a ≡ b
one_op a b e = cc

call_changes : (s : TableState) (y : Call) (b : Bool) (op : Op) → effect_of y b (own_words s) ≡ op ∷ [] → CallChanges s y b op
call_changes s (call.IChild d p l replaces right) true op e =
    subst (CallChanges s (call.IChild d p l replaces right) true) (one_op (op_of_card (own_words s) d) op e)
    (record {
      card = d;
      own = λ c. ap (λ ks. if c == d then ks else []) (sym (card_change (own_words s) d));
      work = λ h. h;
      makes = λ new h. h;
      finds = λ new h. brought_finds (is_replace_card (own_words s) d) (card_key (own_words s) d) ((own_words s).value ((own_words s).l d)) (card_value (own_words s) d) d (own_words s);
      one = ap (sum_by child_changes) (card_change (own_words s) d);
      keeps = tt;
    })
call_changes s (call.DChild d gp p y right) true op e =
    subst (CallChanges s (call.DChild d gp p y right) true) (one_op (Delete (card_key (own_words s) d)) op e)
    (record { card = d; own = λ c. refl; work = λ h. h; makes = λ new h. (card_value (own_words s) d, h); finds = λ new h. h.present; one = refl; keeps = tt })
call_changes s _ b op e = absurd cc

-- the same of a turn
pub record TurnChanges (s : TableState) (t : Turn) (op : Op) : Type 0 where
  pub card : ℕ
  pub own : (c : ℕ) → turn_wins s t c ≡ (if c == card then change_of op else [])
  pub work : IsWonFor s t → IsAtWork s card op
  pub makes : (s' : TableState) → PairsGoBy s t s' → MakesChange op (own_words s) (own_words s')
  pub finds : (s' : TableState) → PairsGoBy s t s' → FindsItsValue op card (own_words s)
  pub one : sum_by child_changes (change_of op) ≡ 1
  pub keeps : (seat : ℕ) → KeepOn seat (t ∷ [])

pub turn_changes : (s : TableState) (t : Turn) (op : Op) → turn_effect s t ≡ op ∷ [] → TurnChanges s t op
turn_changes s (Makes seat y) op e =
    let h = call_changes s y (is_won (atomic_of y) (found_by s y)) op e in
    record { card = h.card; own = h.own; work = h.work; makes = λ s'. h.makes (own_words s'); finds = λ s'. h.finds (own_words s'); one = h.one; keeps = λ other. (λ same. h.keeps, tt) }
turn_changes s (Splits seat left) op e = absurd cc
turn_changes s (Joins seat other) op e = absurd cc

-- no other card wins by it
pub same_card : (s : TableState) (t : Turn) (op : Op) (h : TurnChanges s t op) (c : ℕ) → 0 < sum_by child_changes (turn_wins s t c) → c ≡ h.card
same_card s t op h c won = by (c == h.card) refl
  where
    by : (b : Bool) → (c == h.card) ≡ b → c ≡ h.card
    by true is = eqb-true c h.card is
    by false is =
        let none : sum_by child_changes (turn_wins s t c) ≡ 0 =
        ap (sum_by child_changes) (h.own c) ∙ ap (λ b. sum_by child_changes (if b then change_of op else [])) is in
        absurd (omega arith)
