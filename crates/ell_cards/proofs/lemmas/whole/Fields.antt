-- What a tree has in fields that are no child words stays what words of 64 bits hold, and so a call can be shown there.
use Rattle.std.proofs.Common.{◌≡◌, ℕ, zero, suc, ◌≤◌, ◌%◌, if◌then◌else◌, Bool, true, false, List, [], ◌∷◌, get_or, set, inl, inr, ◌⊎◌, refl, sym, ap, ◌∙◌, subst, arith}
use Rattle.ell_word.specs.Node.{card, greatest_number}
use Rattle.ell_word.specs.Word.{packed}
use Rattle.ell_word.specs.declared.update.State.{State}
use Rattle.ell_word.specs.declared.update.State.TheVariants as state
use Rattle.ell_layout.specs.declared.field.Field.{Field}
use Rattle.ell_layout.specs.declared.field.Field.TheVariants as field
use Rattle.ell_layout.specs.Layout.{address}
use Rattle.ell_layout.specs.Words.{key_field, value_field, child_field}
use Rattle.ell_layout.proofs.lemmas.Listed.{addresses_apart}
use Rattle.ell_core.specs.declared.fact.Fact.TheVariants as fact
use Rattle.ell_runs.specs.declared.call.Call.{Call}
use Rattle.ell_runs.specs.declared.call.Call.TheVariants as call
use Rattle.ell_runs.specs.declared.view.View.{View}
use Rattle.ell_runs.specs.Calls.{May, word_of, atomic_of, left_by}
use Rattle.ell_runs.specs.Plans.{TablePlan}
use Rattle.ell_runs.specs.Naming.{IsNamed}
use Rattle.ell_cards.specs.Shown.{IsWord, FieldIsWhole, CanBeShown}
use Rattle.ell_runs.specs.States.{TableState}
use Rattle.ell_cards.specs.RefinementLaws.{ExpectsNear}
use Rattle.ell_runs.specs.Turns.{found_by}
use Rattle.ell_cards.specs.Whole.{FieldsAreWhole}
use Rattle.ell_cards.proofs.lemmas.shown.CutWords.{compares_alike}
use Rattle.ell_cards.proofs.lemmas.shown.ShownKinds.{calls_can_be_shown}

-- a number in a list where one was put is that one, there, or what it was
read_set : (l : List ℕ) (i n j : ℕ) → ((j ≡ i) × (get_or (set l i n) j 0 ≡ n)) ⊎ (get_or (set l i n) j 0 ≡ get_or l j 0)
read_set [] i n j = inr refl
read_set (x ∷ xs) zero n zero = inl (refl, refl)
read_set (x ∷ xs) zero n (suc j) = inr refl
read_set (x ∷ xs) (suc i) n zero = inr refl
read_set (x ∷ xs) (suc i) n (suc j) = elim (read_set xs i n j) [
  | inl e ↦ inl (ap suc e.0, e.1)
  | inr e ↦ inr e
]

-- a word is put in a field, or elsewhere
put_field : (words : List ℕ) → FieldsAreWhole words → (c : ℕ) (f : Field) (n : ℕ) → FieldIsWhole f n → FieldsAreWhole (set words (address c f) n)
put_field words whole c f n is d g = elim (read_set words (address c f) n (address d g)) [
  | inl e ↦
      let same = addresses_apart d c g f e.0 in
      subst (FieldIsWhole g) (sym e.1) (subst (λ h. FieldIsWhole h n) (sym same.1) is)
  | inr e ↦ subst (FieldIsWhole g) (sym e) (whole d g)
]

put_first : (words : List ℕ) → FieldsAreWhole words → (n : ℕ) → FieldsAreWhole (set words 0 n)
put_first words whole n d g = elim (read_set words 0 n (address d g)) [
  | inl e ↦ (let at = e.0 in absurd (omega arith))
  | inr e ↦ subst (FieldIsWhole g) (sym e) (whole d g)
]

put_again : (words : List ℕ) → FieldsAreWhole words → (i : ℕ) → FieldsAreWhole (set words i (get_or words i 0))
put_again words whole i d g = elim (read_set words i (get_or words i 0) (address d g)) [
  | inl e ↦ subst (FieldIsWhole g) (sym (e.1 ∙ ap (λ j. get_or words j 0) (sym e.0))) (whole d g)
  | inr e ↦ subst (FieldIsWhole g) (sym e) (whole d g)
]

-- a child word
child_whole : (right : Bool) (n : ℕ) → FieldIsWhole (child_field right) n
child_whole true n = tt
child_whole false n = tt

-- a key and a value
key_whole : (k n : ℕ) → FieldIsWhole (key_field k) n → IsWord n
key_whole zero n h = h
key_whole (suc zero) n h = h
key_whole (suc (suc k)) n h = h

value_whole : (k n : ℕ) → FieldIsWhole (value_field k) n → IsWord n
value_whole zero n h = h
value_whole (suc zero) n h = h
value_whole (suc (suc k)) n h = h

-- an update word of a card that has a number
update_word : (s : State) (c : ℕ) → c ≤ greatest_number → IsWord (packed (record { state = s; card = c }))
update_word state.Clean c low = omega arith
update_word state.IFlag c low = omega arith
update_word state.DFlag c low = omega arith
update_word state.Mark c low = omega arith

-- what a call fills in a field is whole
abbrev pub FillsWhole : Call → Type 0
FillsWhole (call.Fill c f value) = FieldIsWhole f value
FillsWhole _ = Unit {0}

-- what an exchange leaves is a word where it finds one
left_word : (won : Bool) (value n : ℕ) → IsWord value → IsWord n → IsWord (if won then value else n)
left_word true value n new old = new
left_word false value n new old = old

pub fields_after : (plan : TablePlan) (tree : TableState) (v : View) (c : Call) → May plan c v → IsNamed greatest_number v → FillsWhole c → FieldsAreWhole tree.words
    → FieldsAreWhole (set tree.words (word_of c) (left_by (atomic_of c) (found_by tree c)))
fields_after plan tree v (call.Claim c q) may named fills whole = put_first tree.words whole _
fields_after plan tree v (call.Fill c f value) may named fills whole = put_field tree.words whole c f value fills
fields_after plan tree v (call.IFlag c p from) may named fills whole =
    put_field tree.words whole (card p) field.Update _ (left_word _ _ _ (update_word state.IFlag c (named.hand c may.may.holds)) (whole (card p) field.Update))
fields_after plan tree v (call.DFlag c gp from) may named fills whole =
    put_field tree.words whole (card gp) field.Update _ (left_word _ _ _ (update_word state.DFlag c (named.hand c may.may.holds)) (whole (card gp) field.Update))
fields_after plan tree v (call.Mark c p was) may named fills whole =
    put_field tree.words whole (card p) field.Update _ (left_word _ _ _ (update_word state.Mark c (named.facts (fact.DFlagged c) may.0.knows)) (whole (card p) field.Update))
fields_after plan tree v (call.IUnflag c p) may named fills whole =
    put_field tree.words whole (card p) field.Update _ (left_word _ _ _ (update_word state.Clean c (named.facts (fact.IChanged c) may.knows)) (whole (card p) field.Update))
fields_after plan tree v (call.DUnflag c gp) may named fills whole =
    put_field tree.words whole (card gp) field.Update _ (left_word _ _ _ (update_word state.Clean c (named.facts (fact.Cut c) may.knows)) (whole (card gp) field.Update))
fields_after plan tree v (call.Backtrack c gp) may named fills whole =
    put_field tree.words whole (card gp) field.Update _ (left_word _ _ _ (update_word state.Clean c (named.facts (fact.Unmarkable c) may.knows)) (whole (card gp) field.Update))
fields_after plan tree v (call.IChild c p l replaces right) may named fills whole = put_field tree.words whole (card p) (child_field right) _ (child_whole right _)
fields_after plan tree v (call.DChild c gp p y right) may named fills whole = put_field tree.words whole (card gp) (child_field right) _ (child_whole right _)
fields_after plan tree v c may named fills whole = put_again tree.words whole (word_of c)

-- a call that finds such words can be shown, if the link that it expects is near
pub field_can : (tree : TableState) → IsWord (get_or tree.words 0 0) → FieldsAreWhole tree.words → (c : Call) → ExpectsNear c (found_by tree c)
    → CanBeShown c (found_by tree c)
field_can tree claim whole call.Next near = record { wins = refl; whole = claim }
field_can tree claim whole (call.Claim c q) near = record { wins = compares_alike _ c claim; whole = tt }
field_can tree claim whole (call.Upd x) near = record { wins = refl; whole = whole (card x) field.Update }
field_can tree claim whole (call.KeyOf x) near = record { wins = refl; whole = key_whole (x % 4) _ (whole (card x) (key_field (x % 4))) }
field_can tree claim whole (call.ValueOf x) near = record { wins = refl; whole = value_whole (x % 4) _ (whole (card x) (value_field (x % 4))) }
field_can tree claim whole (call.Info c f) near = record { wins = refl; whole = whole c f }
field_can tree claim whole (call.IFlag c p from) near = calls_can_be_shown.word (call.IFlag c p from) _ tt (whole (card p) field.Update)
field_can tree claim whole (call.IUnflag c p) near = calls_can_be_shown.word (call.IUnflag c p) _ tt (whole (card p) field.Update)
field_can tree claim whole (call.DFlag c gp from) near = calls_can_be_shown.word (call.DFlag c gp from) _ tt (whole (card gp) field.Update)
field_can tree claim whole (call.Mark c p was) near = calls_can_be_shown.word (call.Mark c p was) _ tt (whole (card p) field.Update)
field_can tree claim whole (call.DUnflag c gp) near = calls_can_be_shown.word (call.DUnflag c gp) _ tt (whole (card gp) field.Update)
field_can tree claim whole (call.Backtrack c gp) near = calls_can_be_shown.word (call.Backtrack c gp) _ tt (whole (card gp) field.Update)
field_can tree claim whole (call.IChild c p l replaces right) near = calls_can_be_shown.ichild c p l replaces right _ near
field_can tree claim whole (call.DChild c gp p y right) near = calls_can_be_shown.dchild c gp p y right _ near
field_can tree claim whole (call.Fill c f value) near = calls_can_be_shown.fill c f value _
field_can tree claim whole _ near = record { wins = refl; whole = tt }
