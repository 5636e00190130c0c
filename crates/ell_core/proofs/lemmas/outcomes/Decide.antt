use Rattle.std.proofs.Common.{◌≡◌, ℕ, ◌%◌, Option, Some, None, refl, ap, ◌∙◌, subst, inl, inr, ◌⊎◌}
use Rattle.std.proofs.lemmas.Bool.{cases_eq}
use Rattle.ell_ops.specs.declared.op.Op.{Op}
use Rattle.ell_ops.specs.declared.op.Op.TheVariants.{Find, Insert, Delete, Swap}
use Rattle.ell_word.specs.declared.update.State.{State}
use Rattle.ell_word.specs.declared.update.State.TheVariants as state
use Rattle.ell_word.specs.Node.{IsInternal}
use Rattle.ell_word.specs.Word.{unpacked}
use Rattle.ell_core.specs.declared.event.Stepped.{Stepped}
use Rattle.ell_core.specs.declared.view.Seen.{Seen}
use Rattle.ell_core.specs.state.Machine.{Scene}
use Rattle.ell_core.specs.declared.put.Put.{Put}
use Rattle.ell_core.specs.acts.Searching.{put_of, HasPlace, TakesPut, IsClean}

-- a statement holds or is refuted
abbrev pub Decided : Type 0 → Type 0
Decided P = P ⊎ (¬ P)

-- a relation has exactly one answer and scene after
pub record HasOne (R : Stepped → Scene → Type 0) : Type 0 where
  pub said : Stepped
  pub after : Scene
  pub row : R said after
  pub only : (other : Stepped) (later : Scene) → R other later → (other ≡ said) × (later ≡ after)

-- a relation has no answer and scene after
abbrev pub HasNone : (Stepped → Scene → Type 0) → Type 0
HasNone R = (said : Stepped) (after : Scene) → ¬ R said after

-- a relation has exactly one answer and scene after, or none
abbrev pub Settled : (Stepped → Scene → Type 0) → Type 0
Settled R = HasOne R ⊎ HasNone R

-- an equation in a first and one in a second argument
pub ap2 : {A B C : Type 0} (f : A → B → C) {a b : A} {c d : B} → a ≡ b → c ≡ d → f a c ≡ f b d
ap2 f {b = b} {c = c} e g = ap (λ x. f x c) e ∙ ap (f b) g

-- a statement of two things holds of two that are the same
pub subst2 : {A B : Type 0} (P : A → B → Type 0) {a b : A} {c d : B} → a ≡ b → c ≡ d → P a c → P b d
subst2 P {b = b} {c = c} e g h = subst (P b) g (subst (λ x. P x c) e h)

-- two relations that do not both have an answer are settled together
pub settles_either : {R Q : Stepped → Scene → Type 0} → Settled R → Settled Q → ((said other : Stepped) (after later : Scene) → R said after → ¬ Q other later)
    → Settled (λ said after. R said after ⊎ Q said after)
settles_either (inl r) q apart = inl (record {
  said = r.said;
  after = r.after;
  row = inl r.row;
  only = λ other later x. elim x [ inl y ↦ r.only other later y | inr z ↦ absurd (apart r.said other r.after later r.row z) ];
})
settles_either (inr r) (inl q) apart = inl (record {
  said = q.said;
  after = q.after;
  row = inr q.row;
  only = λ other later x. elim x [ inl y ↦ absurd (r other later y) | inr z ↦ q.only other later z ];
})
settles_either (inr r) (inr q) apart = inr (λ said after x. elim x [ inl y ↦ r said after y | inr z ↦ q said after z ])

-- an option has a value or none
pub cases_option : {A : Type 0} (o : Option A) → ((x : A) × (o ≡ Some x)) ⊎ (o ≡ None)
cases_option None = inr refl
cases_option (Some x) = inl (x, refl)

-- an option is a delete in hand, or is none of any key
pub cases_delete : (o : Option Op) → ((key : ℕ) × (o ≡ Some (Delete key))) ⊎ ((key : ℕ) → ¬ (o ≡ Some (Delete key)))
cases_delete None = inr (λ key e. (cc))
cases_delete (Some (Find k)) = inr (λ key e. (cc))
cases_delete (Some (Insert k value)) = inr (λ key e. (cc))
cases_delete (Some (Delete k)) = inl (k, refl)
cases_delete (Some (Swap k was value)) = inr (λ key e. (cc))

-- an operation puts something, or not
pub cases_put : (op : Op) → ((what : Put) × (put_of op ≡ Some what)) ⊎ (put_of op ≡ None)
cases_put (Find k) = inr refl
cases_put (Insert k value) = inl (_, refl)
cases_put (Delete k) = inr refl
cases_put (Swap k was value) = inl (_, refl)

-- at a leaf there is place for a key, or not
decides_place : (key : ℕ) (was : Option ℕ) (leaf_key leaf_value : ℕ) → Decided (HasPlace key was leaf_key leaf_value)
decides_place key None leaf_key leaf_value = elim (cases_eq leaf_key key) [ inl e ↦ inr (λ n. n e) | inr n ↦ inl n ]
decides_place key (Some was) leaf_key leaf_value = elim (cases_eq leaf_key key) [
  | inl e ↦ elim (cases_eq leaf_value was) [ inl f ↦ inl (e, f) | inr n ↦ inr (λ h. n h.1) ]
  | inr n ↦ inr (λ h. n h.0)
]

pub decides_takes : (what : Put) (leaf_key leaf_value : ℕ) → Decided (TakesPut what leaf_key leaf_value)
decides_takes what leaf_key leaf_value = decides_place what.key what.was leaf_key leaf_value

-- an update state is clean or is not
pub decides_state : (s : State) → Decided (s ≡ state.Clean)
decides_state state.IFlag = inr (λ e. (cc))
decides_state state.DFlag = inr (λ e. (cc))
decides_state state.Mark = inr (λ e. (cc))
decides_state state.Clean = inl refl

-- an update word is clean or is not
pub decides_clean : (update : ℕ) → Decided (IsClean update)
decides_clean update = decides_state (unpacked update).state

-- a node is internal or is not
pub decides_internal : (node : ℕ) → Decided (IsInternal node)
decides_internal node = cases_eq (node % 4) 0

-- two options with one name have one value
pub same_value : {A : Type 0} {o : Option A} {x y : A} → o ≡ Some x → o ≡ Some y → x ≡ y
same_value e f = cc

-- an option that has a value is not none
pub some_not_none : {A : Type 0} {o : Option A} {x : A} → o ≡ Some x → ¬ (o ≡ None)
some_not_none e f = cc

-- what was seen of a node is known by its three numbers
pub same_seen : (a b : Seen) → a.node ≡ b.node → a.word ≡ b.word → a.tag ≡ b.tag → a ≡ b
same_seen a b e f g = λ t. record { node = e t; word = f t; tag = g t }
