use Rattle.std.proofs.Common.{◌≡◌, ◌∙◌, ◌⊎◌, ◌||◌, Bool, List, Some, None, [], ◌∷◌, inl, inr, refl, sym, ap, ap₂, subst, true, false}
use Rattle.std.specs.Prelude.{if◌then◌else◌, find, slice_get, option_map, option_and_then}
use Rattle.std.specs.Str.{bytes_eq}
use Rattle.clap.specs.Walk.{Row, Rule, Text}
use Rattle.clap.specs.Walk.{first_of, has_row, one_of, reading_by, row_text}
use Rattle.clap.specs.Values.{read_as}
use Rattle.clap.specs.Takes.{value_passes}
use Rattle.ell_command.proofs.lemmas.parser.Fits.{AllFit, FirstPasses, Fits, IsOneOf}

abbrev pub Either : Bool → Type 0 → Type 0 → Type 0
Either true A B = A
Either false A B = B

-- the rule is one of those that pass the test
abbrev pub IsPassing : (Rule → Bool) → List Rule → Rule → Type 0
IsPassing p [] a = ⊥
IsPassing p (x ∷ xs) a = Either (p x) ((a ≡ x) ⊎ IsPassing p xs a) (IsPassing p xs a)

pub passing : (p : Rule → Bool) (c : List Rule) (a : Rule) → IsOneOf c a → p a ≡ true → IsPassing p c a
passing p [] a of is = absurd of
passing p (x ∷ xs) a (inl same) is =
    subst (λ b. Either b ((a ≡ x) ⊎ IsPassing p xs a) (IsPassing p xs a)) (sym (subst (λ (y : Rule). p y ≡ true) same is)) (inl same)
passing p (x ∷ xs) a (inr of) is = go (p x) (passing p xs a of is)
  where
    go : (b : Bool) → IsPassing p xs a → Either b ((a ≡ x) ⊎ IsPassing p xs a) (IsPassing p xs a)
    go true below = inr below
    go false below = below

-- the option of this rule has a value, which passes
abbrev pub IsGiven : Text → List Row → Rule → Type 0
IsGiven id rows a = (text : Text) × (first_of id rows ≡ Some text) × (one_of id rows ≡ Some (read_as (reading_by a) text)) × (value_passes a text ≡ true)

module _ (c : List Rule) (id : Text) (a : Rule) (only : (x : Rule) → IsOneOf c x → bytes_eq x.id id ≡ true → x ≡ a) where
  row_gives : (rows : List Row) (r : Row) → find (λ (x : Row). bytes_eq x.id id) rows ≡ Some r → bytes_eq r.id id ≡ true → Fits c r → IsGiven id rows a
  row_gives rows r found named fits = go r.values refl fits.4
    where
      is : fits.0 ≡ a
      is = only fits.0 fits.1 (subst (λ t. bytes_eq t id ≡ true) fits.2 named)

      go : (values : List Text) → r.values ≡ values → FirstPasses fits.0 values → IsGiven id rows a
      go [] same passes = absurd passes
      go (v ∷ vs) same passes = (
        v,
        ap (option_and_then (λ (x : Row). slice_get x.values 0)) found ∙ ap (λ values. slice_get values 0) same,
        ap (option_and_then row_text) found ∙ ap₂ (λ how values. option_map (read_as how) (slice_get values 0)) (fits.3 ∙ ap reading_by is) same,
        subst (λ (x : Rule). value_passes x v ≡ true) is passes,
      )

  row_found : (rows : List Row) → AllFit c rows → has_row id rows ≡ true → (r : Row) × (find (λ (x : Row). bytes_eq x.id id) rows ≡ Some r) × (bytes_eq r.id id ≡ true) × Fits c r
  row_found [] fit has = absurd (cc)
  row_found (r ∷ rs) fit has = go (bytes_eq r.id id) refl has (row_found rs fit.1)
    where
      go : (b : Bool) → bytes_eq r.id id ≡ b → (b || has_row id rs) ≡ true
          → (has_row id rs ≡ true → (x : Row) × (find (λ (y : Row). bytes_eq y.id id) rs ≡ Some x) × (bytes_eq x.id id ≡ true) × Fits c x)
          → (x : Row) × ((if b then Some r else find (λ (y : Row). bytes_eq y.id id) rs) ≡ Some x) × (bytes_eq x.id id ≡ true) × Fits c x
      go true named has below = (r, refl, named, fit.0)
      go false named has below = below has

  pub option_given : (rows : List Row) → AllFit c rows → has_row id rows ≡ true → IsGiven id rows a
  option_given rows fit has =
      let found = row_found rows fit has in
      row_gives rows found.0 found.1 found.2 found.3

  no_row : (rows : List Row) → has_row id rows ≡ false → find (λ (x : Row). bytes_eq x.id id) rows ≡ None
  no_row [] none = refl
  no_row (r ∷ rs) none = go (bytes_eq r.id id) none (no_row rs)
    where
      go : (b : Bool) → (b || has_row id rs) ≡ false → (has_row id rs ≡ false → find (λ (y : Row). bytes_eq y.id id) rs ≡ None) → (if b then Some r else find (λ (y : Row). bytes_eq y.id id) rs) ≡ None
      go true none below = absurd (cc)
      go false none below = below none

  pub option_maybe : (rows : List Row) → AllFit c rows → (one_of id rows ≡ None) ⊎ IsGiven id rows a
  option_maybe rows fit = go (has_row id rows) refl
    where
      go : (b : Bool) → has_row id rows ≡ b → (one_of id rows ≡ None) ⊎ IsGiven id rows a
      go true has = inr (option_given rows fit has)
      go false none = inl (ap (option_and_then row_text) (no_row rows none))
