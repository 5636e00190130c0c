use Rattle.std.proofs.Common.{◌≡◌, ℕ, ◌+◌, ◌<◌, ◌≤◌, cond, List, Option, Some, None, unwrap_or, length, get_or, arith, refl, ap, sym, subst, ◌∙◌, ⊎_elim}
use Rattle.std.proofs.lemmas.Bool.{cases_eq, cases_lt, eq-eqb, ne_eqb, cond-true, cond-false}
use Rattle.std.proofs.lemmas.Option.{slice_get-get_or}
use Rattle.std.specs.BTreeMap.{is_at}
use Rattle.std.specs.Ordering.{nat_cmp}
use Rattle.std.specs.Prelude.{slice_get}
use Rattle.ell_ops.specs.declared.op.Op.{Op}
use Rattle.ell_ops.specs.Meaning.{key_of}
use Rattle.ell_ops.proofs.lemmas.Sets.{is_at-nat}
use Rattle.ell_parts.specs.Faults.{SameKey, AreTogether, IsFirstSplit}

-- the position has the key
pub record HasKey (ops : List Op) (i key : ℕ) : Type 0 where
  pub op : Op
  pub stands : slice_get ops i ≡ Some op
  pub of_key : key_of op ≡ key

-- the position is the first with the key
pub record IsFirst (ops : List Op) (key first : ℕ) : Type 0 where
  pub has : HasKey ops first key
  pub earliest : (j : ℕ) → j < first → HasKey ops j key → ⊥

-- the map has the first position of each key that stands before position at
pub record AreFirsts (ops : List Op) (at : ℕ) (firsts : ℕ → Option ℕ) : Type 0 where
  pub none : (key : ℕ) → firsts key ≡ None → (j : ℕ) → j < at → HasKey ops j key → ⊥
  pub some : (key first : ℕ) → firsts key ≡ Some first → (first < at) × IsFirst ops key first

-- the operation at a position gives it its key
has_key_at : (ops : List Op) (i key : ℕ) (d : Op) → i < length ops → key ≡ key_of (get_or ops i d) → HasKey ops i key
has_key_at ops i key d below of_op = record { op = get_or ops i d; stands = slice_get-get_or ops i d below; of_key = sym of_op }

same_key : (ops : List Op) (i j key : ℕ) → HasKey ops i key → HasKey ops j key → SameKey ops i j
same_key ops i j key a b = (a.op, b.op, a.stands, b.stands, a.of_key ∙ sym b.of_key)

-- what has the key of a position that has a key, has that key
has_key_from_same : (ops : List Op) (i j key : ℕ) → SameKey ops i j → HasKey ops j key → HasKey ops i key
has_key_from_same ops i j key same h =
    let one : same.1 ≡ h.op = let e : Some same.1 ≡ Some h.op = sym same.3 ∙ h.stands in cc in
    record { op = same.0; stands = same.2; of_key = same.4 ∙ ap key_of one ∙ h.of_key }

-- two keys of one position are one
one_key : (ops : List Op) (i j a b : ℕ) → i ≡ j → HasKey ops i a → HasKey ops j b → a ≡ b
one_key ops i j a b here h k =
    let same : h.op ≡ k.op = let e : Some h.op ≡ Some k.op = sym h.stands ∙ ap (slice_get ops) here ∙ k.stands in cc in
    sym h.of_key ∙ ap key_of same ∙ k.of_key

-- what the map has for the key of position at, or else at itself, is the key's first position
first_known : (ops : List Op) (at key first : ℕ) (firsts : ℕ → Option ℕ) → AreFirsts ops at firsts → HasKey ops at key → first ≡ unwrap_or (firsts key) at →
    (first ≤ at) × IsFirst ops key first
first_known ops at key first firsts known has is =
    elim (firsts key) as (λ found. firsts key ≡ found → first ≡ unwrap_or found at → (first ≤ at) × IsFirst ops key first) [
      | None ↦ λ absent here. (omega arith, subst (IsFirst ops key) (sym here) (record { has = has; earliest = known.none key absent }))
      | Some earlier ↦ λ found here. let h = known.some key earlier found in (omega (arith, h.0), subst (IsFirst ops key) (sym here) h.1)
    ] refl is

-- the same at the operation of position at, which has the key
pub first_known_at : (ops : List Op) (at key first : ℕ) (d : Op) (firsts : ℕ → Option ℕ) → AreFirsts ops at firsts → at < length ops → key ≡ key_of (get_or ops at d) →
    first ≡ unwrap_or (firsts key) at → HasKey ops at key × (first ≤ at) × IsFirst ops key first
first_known_at ops at key first d firsts known below of_op is =
    let has = has_key_at ops at key d below of_op in
    let h = first_known ops at key first firsts known has is in
    (has, h.0, h.1)

-- the map with the first position of the key of position at
pub AreFirsts-entry : (ops : List Op) (at key first : ℕ) (old new : ℕ → Option ℕ) → AreFirsts ops at old → HasKey ops at key → first ≡ unwrap_or (old key) at →
    ((q : ℕ) → new q ≡ cond (is_at (nat_cmp key) q) (Some first) (old q)) → AreFirsts ops (at + 1) new
AreFirsts-entry ops at key first old new known has is updates = record {
  none = λ q e j below with_q. ⊎_elim
      (λ one. let clash : None ≡ Some first = sym e ∙ new_at q one in cc)
      (λ other. ⊎_elim
      (λ here. other (sym (one_key ops j at q key here with_q has)))
      (λ elsewhere. known.none q (sym (new_off q other) ∙ e) j (omega arith) with_q)
      (cases_eq j at))
      (cases_eq key q);
  some = λ q f e. ⊎_elim
      (λ one. let same : first ≡ f = let both : Some first ≡ Some f = sym (new_at q one) ∙ e in cc in
      let h = first_known ops at key first old known has is in
      (omega (arith, h.0), subst (λ k. IsFirst ops k f) one (subst (IsFirst ops key) same h.1)))
      (λ other. let h = known.some q f (sym (new_off q other) ∙ e) in (omega (arith, h.0), h.1))
      (cases_eq key q);
} where
  new_at : (q : ℕ) → key ≡ q → new q ≡ Some first
  new_at q one = updates q ∙ cond-true (is_at (nat_cmp key) q) (Some first) (old q) (is_at-nat key q ∙ eq-eqb key q one)

  new_off : (q : ℕ) → (key ≡ q → ⊥) → new q ≡ old q
  new_off q other = updates q ∙ cond-false (is_at (nat_cmp key) q) (Some first) (old q) (is_at-nat key q ∙ ne_eqb key q other)

-- one more position, whose key has the same owner at its first position
pub together_more : (ops : List Op) (owners : List ℕ) (at key first : ℕ) → AreTogether ops owners at → IsFirst ops key first → HasKey ops at key →
    get_or owners first 0 ≡ get_or owners at 0 → AreTogether ops owners (at + 1)
together_more ops owners at key first together is_first has same j k below end of_one =
    ⊎_elim
    (λ last. let earlier_has_key : HasKey ops j key = has_key_from_same ops j k key of_one (subst (λ i. HasKey ops i key) (sym last) has) in
    ⊎_elim
    (λ early. absurd (is_first.earliest j early earlier_has_key))
    (λ late. ⊎_elim
    (λ e. ap (λ i. get_or owners i 0) e ∙ same ∙ ap (λ i. get_or owners i 0) (sym last))
    (λ ne. sym (together first j (omega arith) (omega arith) (same_key ops first j key is_first.has earlier_has_key)) ∙ same ∙ ap (λ i. get_or owners i 0) (sym last))
    (cases_eq j first))
    (cases_lt j first))
    (λ inner. together j k below (omega arith) of_one)
    (cases_eq k at)

-- or another one
pub first_split : (ops : List Op) (owners : List ℕ) (at key first : ℕ) → AreTogether ops owners at → (first ≤ at) × IsFirst ops key first → HasKey ops at key →
    (get_or owners first 0 ≡ get_or owners at 0 → ⊥) → IsFirstSplit ops owners first at
first_split ops owners at key first together known has apart = record {
  before = ⊎_elim (λ e. absurd (apart (ap (λ i. get_or owners i 0) e))) (λ ne. omega (arith, known.0)) (cases_eq first at);
  same = same_key ops first at key known.1.has has;
  apart = apart;
  earliest = λ i below same. known.1.earliest i below (has_key_from_same ops i at key same has);
  least = together;
}
