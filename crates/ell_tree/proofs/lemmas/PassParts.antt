use Rattle.std.proofs.Common.{◌≡◌, ◌≢◌, ◌↔◌, ℕ, max, if◌then◌else◌, Bool, true, false, Option, Some, None, Result, Ok, Err, IfOk, List, refl, sym, ◌∙◌, ap, subst, inl, inr, length-append, arith}
use Rattle.std.specs.List.{All}
use Rattle.std.specs.Map.{keys_of}
use Rattle.ell_ops.specs.KeySet.{set_of}
use Rattle.ell_core.specs.state.Machine.{ledger_of}
use Rattle.ell_tree.proofs.lemmas.Milestones.{milestones_more, milestones_none, known_left, known_right}
use Rattle.ell_runs.specs.Plans.{TablePlan}
use Rattle.ell_cards.specs.Models.{PassModel, TableModel, Steps, StepsOut, no_memory, one_more}
use Rattle.ell_runs.specs.Changes.{first_of, left_view, right_view, united_ledgers, joined_view}
use Rattle.ell_runs.proofs.lemmas.lifetimes.Parts.{part_on, part_off}
use Rattle.ell_core.specs.state.Machine.{entry_of}
use Rattle.ell_runs.specs.Sights.{joined_sight, no_sight}
use Rattle.ell_cards.specs.Models.{OpensBy}
use Rattle.ell_runs.proofs.lemmas.words.Keys.{ledger_at_start, present_at_start}
use Rattle.ell_runs.proofs.lemmas.lifetimes.Parts.{parts_on, parts_off}
use Rattle.ell_runs.proofs.lemmas.lifetimes.Unions.{ledger_united}
use Rattle.ell_tree.proofs.lemmas.CardsTaken.{claims_append}
use Rattle.ell_cards.proofs.lemmas.views.Steps.{own_same}
use Rattle.ell_tree.specs.PassParts.{IsFirst, IsLeftPart, IsRightPart, IsUnion}
use Rattle.ell_core.specs.declared.view.Entry.{Entry}
use Rattle.ell_core.specs.declared.view.Entry.TheVariants.{Present, Absent}
use Rattle.ell_core.specs.statements.Effects.{value_in}
use Rattle.ell_core.specs.state.Opening.{keys_at_start}
use Rattle.ell_ops.specs.Contents.{contents_of}
use Rattle.ell_core.specs.state.Opening.{start_entry}
use Rattle.ell_core.specs.statements.Premises.{entry_or}

-- what holds of a result by what held of it
pub if_ok : {T E : Type 0} (P Q : T → Type 0) (r : Result T E) → ((x : T) → P x → Q x) → IfOk r P → IfOk r Q
if_ok P Q (Ok x) more h = more x h
if_ok P Q (Err e) more h = tt

-- an entry has the value that there is, if each says so of each value
pub there_same : (e : Option Entry) (o : Option ℕ) → ((v : ℕ) → (e ≡ Some (Present v)) ↔ (o ≡ Some v)) → value_in e ≡ o
there_same (Some (Present v)) o h = sym ((h v).0 refl)
there_same (Some Absent) None h = refl
there_same (Some Absent) (Some v) h = let is = (h v).1 refl in absurd cc
there_same None None h = refl
there_same None (Some v) h = let is = (h v).1 refl in absurd cc

-- the value in the entry of a start key is that of the key
start_value_is : (o : Option ℕ) → value_in (Some (entry_of o)) ≡ o
start_value_is (Some value) = refl
start_value_is None = refl

-- a first pass has all keys, the start keys present with their values
pub first_pass : (plan : TablePlan) (made : TableModel × PassModel) → (plan.shared ≡ false → All (λ k. set_of plan.keys k ≡ true) (keys_of plan.start))
    → OpensBy plan made → IsFirst made.0 made.1
first_pass plan made given opens = subst (IsFirst made.0) (sym opens.pass) (subst (λ p. IsFirst (record { id = made.0.id; plan = p }) (record { table = made.0.id; view = first_of plan; steps = 0; label = 0; memory = no_memory; sight = no_sight })) (sym opens.table) (record {
  own = refl;
  ledger = λ k. ledger_at_start plan.keys plan.start k;
  each = λ k among. ap value_in (ledger_at_start plan.keys plan.start k ∙ ap (λ b. if b then Some (start_entry plan.start k) else None) among)
      ∙ start_value_is (contents_of plan.start k);
  present = λ closed t k. there_same (ledger_of (keys_at_start plan.keys plan.start) k) (contents_of plan.start k)
      (present_at_start plan.keys plan.start (given closed) k) t;
  share = refl;
  ownable = refl;
  answers = refl;
  hindrances = refl;
  hindered = refl;
  taken = refl;
  steps = refl;
  made = refl;
  label = refl;
  safe_epoch = refl;
  milestones = λ cards. milestones_none cards;
  idle = refl;
  unpinned = refl;
  sight = refl;
}))

-- the parts of a ledger
left_ledger : (keys : List ℕ) (l : List (ℕ × Entry)) (k : ℕ) → ledger_of (part_on keys l) k ≡ (if set_of keys k then ledger_of l k else None)
left_ledger keys l k = by (set_of keys k) refl
  where
    by : (b : Bool) → set_of keys k ≡ b → ledger_of (part_on keys l) k ≡ (if b then ledger_of l k else None)
    by true e = (parts_on keys l k e).0
    by false e = (parts_off keys l k e).0

right_ledger : (keys : List ℕ) (l : List (ℕ × Entry)) (k : ℕ) → ledger_of (part_off keys l) k ≡ (if set_of keys k then None else ledger_of l k)
right_ledger keys l k = by (set_of keys k) refl
  where
    by : (b : Bool) → set_of keys k ≡ b → ledger_of (part_off keys l) k ≡ (if b then None else ledger_of l k)
    by true e = (parts_on keys l k e).1
    by false e = (parts_off keys l k e).1

pub left_part : (keys : List ℕ) (p part : PassModel) → Steps p part (left_view keys p.view) → IsLeftPart keys p part
left_part keys p part s = subst (IsLeftPart keys p) (sym s) (record {
  own = own_same p;
  ledger = left_ledger keys p.view.worker.ledger;
  answers = refl;
  hindrances = refl;
  hindered = refl;
  taken = refl;
  steps = refl;
  made = refl;
  safe_epoch = refl;
  milestones = λ cards. refl;
  share = refl;
  ownable = refl;
  idle = refl;
  pinned = refl;
  sight = refl;
})

pub right_part : (keys : List ℕ) (p part : PassModel) → StepsOut p part (right_view keys p.view) → IsRightPart keys p part
right_part keys p part s = subst (IsRightPart keys p) (sym s) (record {
  own = own_same p;
  ledger = right_ledger keys p.view.worker.ledger;
  answers = refl;
  hindrances = refl;
  hindered = refl;
  taken = refl;
  steps = refl;
  made = refl;
  safe_epoch = refl;
  milestones = λ cards. refl;
  share = refl;
  ownable = refl;
  idle = refl;
  unpinned = refl;
  sight = refl;
})

-- two ledgers in one
first_or_else : (a b : Option Entry) → a ≢ None → entry_or a b ≡ a
first_or_else (Some x) b some = refl
first_or_else None b some = absurd (some refl)

both_ledger : (l m : List (ℕ × Entry)) (k : ℕ) → ledger_of (united_ledgers l m) k ≡ entry_or (ledger_of l k) (ledger_of m k)
both_ledger l m k = elim (ledger_united l m k) [
  | inl h ↦ h.0 ∙ sym (first_or_else (ledger_of l k) (ledger_of m k) h.1)
  | inr h ↦ h.1 ∙ sym (ap (λ a. entry_or a (ledger_of m k)) h.0)
]

pub union : (left right both : PassModel)
    → both ≡ record left { view = joined_view left.view right.view; steps = one_more (max left.steps right.steps); sight = joined_sight left.sight right.sight }
    → IsUnion left right both
union left right both e = subst (IsUnion left right) (sym e) (record {
  own = own_same left;
  ledger = both_ledger left.view.worker.ledger right.view.worker.ledger;
  answers = length-append left.sight.mine right.sight.mine;
  hindrances = length-append left.view.hindrances right.view.hindrances;
  hindered = refl;
  taken = claims_append left.view.won right.view.won;
  next = refl;
  steps = refl;
  made = refl;
  safe_epoch = refl;
  milestones = λ cards. (
    milestones_more cards left.view (joined_view left.view right.view) (λ f h. known_left left.view.worker.knows right.view.worker.knows f h) (omega arith),
    milestones_more cards right.view (joined_view left.view right.view) (λ f h. known_right left.view.worker.knows right.view.worker.knows f h) (omega arith),
  );
  share = refl;
  ownable = refl;
  idle = refl;
  pinned = refl;
  sight = refl;
})
