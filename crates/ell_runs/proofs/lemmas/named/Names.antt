-- Names that cards get one after the other are a naming of all numbers, and a new one changes none.
use Rattle.std.proofs.Common.{◌≡◌, ◌≢◌, ℕ, ◌+◌, ◌<◌, if◌then◌else◌, nat_lt, inl, inr, Bool, true, false, sym, ap, ◌∙◌, subst, refl, arith}
use Rattle.std.proofs.lemmas.Bool.{cases_eq, lt-ltb, ltb-true}
use Rattle.ell_layout.specs.Words.{put}
use Rattle.ell_layout.proofs.lemmas.Writes.{put_same, put_other}
use Rattle.ell_runs.specs.Named.{IsNaming}
use Rattle.ell_runs.specs.Names.{AreNames, name_of, top_name}

module _ (count : ℕ) (given : ℕ → ℕ) where
  -- a card that has a name goes by it
  has_name : (c : ℕ) → nat_lt c count ≡ true → name_of count given c ≡ given c
  has_name c is = ap (λ b. if b then given c else top_name + c) is

  -- and one that has none by its number above all names
  has_none : (c : ℕ) → nat_lt c count ≡ false → name_of count given c ≡ top_name + c
  has_none c is = ap (λ b. if b then given c else top_name + c) is

  -- so what goes by less than all these numbers is a card that has a name
  pub low_has_name : (c : ℕ) → name_of count given c < top_name → c < count
  low_has_name c low = by (nat_lt c count) refl
    where
      by : (b : Bool) → nat_lt c count ≡ b → c < count
      by true is = ltb-true c count is
      by false is = absurd (let e = has_none c is in omega (arith, e, low))

  module _ (new : ℕ) where
    -- the next card gets a name
    abbrev more : ℕ → ℕ
    more = put given count new

    -- that is its name, and all others have theirs
    new_has : more count ≡ new
    new_has = put_same given count new

    others_have : (c : ℕ) → c < count → more c ≡ given c
    others_have c below = put_other given count new c (λ e. omega (arith, e, below))

    -- it goes by that
    pub new_name : name_of (count + 1) more count ≡ new
    new_name = ap (λ b. if b then more count else top_name + count) (lt-ltb count (count + 1) (omega arith)) ∙ new_has

    -- and each card that had a name goes by what it went by
    pub names_stay : (c : ℕ) → c < count → name_of (count + 1) more c ≡ name_of count given c
    names_stay c below =
        ap (λ b. if b then more c else top_name + c) (lt-ltb c (count + 1) (omega (arith, below)))
        ∙ (others_have c below ∙ sym (has_name c (lt-ltb c count below)))

  module _ (are : AreNames count given) where
    -- each card goes by a number of its own
    apart_by : (c d : ℕ) (a b : Bool) → nat_lt c count ≡ a → nat_lt d count ≡ b → name_of count given c ≡ name_of count given d → c ≡ d
    apart_by c d true true is is' same =
        are.apart c d (ltb-true c count is) (ltb-true d count is') (sym (has_name c is) ∙ (same ∙ has_name d is'))
    apart_by c d true false is is' same =
        let low = are.low c (ltb-true c count is) in
        let e : given c ≡ top_name + d = sym (has_name c is) ∙ (same ∙ has_none d is') in
        absurd (omega arith)
    apart_by c d false true is is' same =
        let low = are.low d (ltb-true d count is') in
        let e : top_name + c ≡ given d = sym (has_none c is) ∙ (same ∙ has_name d is') in
        absurd (omega arith)
    apart_by c d false false is is' same =
        let e : top_name + c ≡ top_name + d = sym (has_none c is) ∙ (same ∙ has_none d is') in
        omega arith

    -- so this is a naming
    pub names_are_a_naming : IsNaming (name_of count given)
    names_are_a_naming = record {
      root = has_name 0 (lt-ltb 0 count are.some) ∙ are.root;
      apart = λ c d same. apart_by c d (nat_lt c count) (nat_lt d count) refl refl same;
    }

    -- the next card gets a name that no card has
    module _ (new : ℕ) (small : new < top_name) (fresh : (c : ℕ) → c < count → given c ≢ new) where
      -- a card that has a name now is the new one, or had one
      still : (c : ℕ) → c < count + 1 → c ≢ count → c < count
      still c below other = omega (arith, below, other)

      -- so all these are names
      pub names_grow : AreNames (count + 1) (put given count new)
      names_grow = record {
        some = omega arith;
        root = others_have new 0 are.some ∙ are.root;
        low = λ c below. elim (cases_eq c count) [
          | inl e ↦ subst (λ x. x < top_name) (sym (ap (more new) e ∙ new_has new)) small
          | inr other ↦ (let inside = still c below other in subst (λ x. x < top_name) (sym (others_have new c inside)) (are.low c inside))
        ];
        apart = λ c d below below' same. elim (cases_eq c count) [
          | inl e ↦ elim (cases_eq d count) [
            | inl e' ↦ e ∙ sym e'
            | inr other ↦
                let inside = still d below' other in absurd (fresh d inside (sym (others_have new d inside) ∙ (sym same ∙ (ap (more new) e ∙ new_has new))))
          ]
          | inr other ↦
              let inside = still c below other in
              elim (cases_eq d count) [
                | inl e' ↦ absurd (fresh c inside (sym (others_have new c inside) ∙ (same ∙ (ap (more new) e' ∙ new_has new))))
                | inr other' ↦
                    let inside' = still d below' other' in
                    are.apart c d inside inside' (sym (others_have new c inside) ∙ (same ∙ others_have new d inside'))
              ]
        ];
      }
