use Rattle.std.proofs.Common.{◌≡◌, ℕ, Bool, true, List, Some, take, length, refl, ap, sym, ◌∙◌}
use Rattle.std.specs.Prelude.{slice_get, ◌==◌}
use Rattle.std.proofs.lemmas.Bool.{eq-eqb}
use Rattle.ell_ops.specs.declared.op.Op.{Op}
use Rattle.ell_ops.specs.Meaning.{key_of}
use Rattle.ell_order.specs.Orders.{on_key, ops_in}
use Rattle.ell_order.proofs.lemmas.OnKey.{on_key as ops_on_key}
use Rattle.ell_order.proofs.lemmas.Numbered.{filter_at, filter_of_map, passes_at}

-- the operations on a key of numbered ones
pub on_key_in : (key : ℕ) (items : List (ℕ × Op)) → ops_in (on_key key items) ≡ ops_on_key key (ops_in items)
on_key_in key items = sym (filter_of_map (λ op. key_of op == key) (λ (item : ℕ × Op). item.1) items)

-- an item of a list, in another that has the same items of its key
pub record Moved (before after : List (ℕ × Op)) (j i : ℕ) (op : Op) : Type 0 where
  pub place : ℕ
  pub there : slice_get before place ≡ Some (i, op)
  pub prior : on_key (key_of op) (take j after) ≡ on_key (key_of op) (take place before)

pub moved : (before after : List (ℕ × Op)) (j i : ℕ) (op : Op) → on_key (key_of op) after ≡ on_key (key_of op) before → slice_get after j ≡ Some (i, op) →
    Moved before after j i op
moved before after j i op same e =
    let key = key_of op in
    let test : ℕ × Op → Bool = λ item. key_of item.1 == key in
    let own : test (i, op) ≡ true = eq-eqb (key_of op) key refl in
    let here = filter_at test after j (i, op) e own in
    let n = length (on_key key (take j after)) in
    let kept : slice_get (on_key key before) n ≡ Some (i, op) = ap (λ l. slice_get l n) (sym same) ∙ here.0 in
    let origin = passes_at test before n (i, op) kept in
    let front = filter_at test before origin.place (i, op) origin.there own in
    record {
      place = origin.place;
      there = origin.there;
      prior = sym here.1 ∙ ap (take n) same ∙ ap (λ k. take k (on_key key before)) origin.before ∙ front.1;
    }
