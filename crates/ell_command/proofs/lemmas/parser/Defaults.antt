use Rattle.std.proofs.Common.{◌≡◌, ◌||◌, ◌++◌, Bool, List, [], ◌∷◌, inl, inr, refl, subst, true, false}
use Rattle.std.specs.Prelude.{if◌then◌else◌, fold}
use Rattle.std.specs.Str.{bytes_eq}
use Rattle.std.proofs.lemmas.Slice.Eq.{bytes_eq-Decides}
use Rattle.clap.specs.Walk.{Row, Rule, Text}
use Rattle.clap.specs.Walk.{at_row, default_rows, has_row, more_values, reading_by, with_default, with_values}
use Rattle.clap.specs.declared.builder.value_parser.Reading.{Reading}
use Rattle.clap.specs.declared.parser.matches.ValueSource.{ValueSource}
use Rattle.clap.specs.declared.parser.matches.ValueSource.TheVariants.{DefaultValue}
use Rattle.ell_command.proofs.lemmas.parser.Fits.{IsNonEmpty, IsOneOf}

same_id : (id : Text) → bytes_eq id id ≡ true
same_id id = (bytes_eq-Decides id id).1 refl

or_true : (a b : Bool) → b ≡ true → (a || b) ≡ true
or_true true b is = refl
or_true false b is = is

or_keeps : (a b after : Bool) → (a || b) ≡ true → (b ≡ true → after ≡ true) → (a || after) ≡ true
or_keeps true b after is more = refl
or_keeps false b after is more = more is

row_stays : (id other : Text) (s : ValueSource) (values : List Text) (missing rows : List Row) → has_row id rows ≡ true → has_row id (at_row other (more_values s values) missing rows) ≡ true
row_stays id other s values missing [] has = absurd (cc)
row_stays id other s values missing (r ∷ rs) has = go (bytes_eq r.id other) (row_stays id other s values missing rs)
  where
    go : (b : Bool) → (has_row id rs ≡ true → has_row id (at_row other (more_values s values) missing rs) ≡ true)
        → has_row id (if b then more_values s values r ++ rs else r ∷ at_row other (more_values s values) missing rs) ≡ true
    go true below = has
    go false below = or_keeps (bytes_eq r.id id) (has_row id rs) _ has below

row_made : (id : Text) (how : Reading) (s : ValueSource) (values : List Text) (rows : List Row) → has_row id (with_values id how s values rows) ≡ true
row_made id how s values [] = rw (same_id id) refl
row_made id how s values (r ∷ rs) = go (bytes_eq r.id id) refl (row_made id how s values rs)
  where
    go : (b : Bool) → bytes_eq r.id id ≡ b → has_row id (with_values id how s values rs) ≡ true → has_row id (if b then more_values s values r ++ rs else r ∷ with_values id how s values rs) ≡ true
    go true is below = rw is refl
    go false is below = or_true (bytes_eq r.id id) _ below

values_stay : (id other : Text) (how : Reading) (values : List Text) (rows : List Row) → has_row id rows ≡ true → has_row id (default_rows other how values rows) ≡ true
values_stay id other how [] rows has = has
values_stay id other how (v ∷ vs) rows has = row_stays id other DefaultValue (v ∷ vs) _ rows has

default_stays : (id : Text) (a : Rule) (rows : List Row) → has_row id rows ≡ true → has_row id (with_default rows a) ≡ true
default_stays id a rows has = go (has_row a.id rows)
  where
    go : (b : Bool) → has_row id (if b then rows else default_rows a.id (reading_by a) a.defaults rows) ≡ true
    go true = has
    go false = values_stay id a.id (reading_by a) a.defaults rows has

defaults_stay : (id : Text) (xs : List Rule) (rows : List Row) → has_row id rows ≡ true → has_row id (fold with_default rows xs) ≡ true
defaults_stay id [] rows has = has
defaults_stay id (a ∷ xs) rows has = defaults_stay id xs (with_default rows a) (default_stays id a rows has)

values_made : (id : Text) (how : Reading) (values : List Text) (rows : List Row) → IsNonEmpty values → has_row id (default_rows id how values rows) ≡ true
values_made id how [] rows some = absurd some
values_made id how (v ∷ vs) rows some = row_made id how DefaultValue (v ∷ vs) rows

default_made : (a : Rule) (rows : List Row) → IsNonEmpty a.defaults → has_row a.id (with_default rows a) ≡ true
default_made a rows some = go (has_row a.id rows) refl
  where
    go : (b : Bool) → has_row a.id rows ≡ b → has_row a.id (if b then rows else default_rows a.id (reading_by a) a.defaults rows) ≡ true
    go true is = is
    go false is = values_made a.id (reading_by a) a.defaults rows some

pub defaults_made : (xs : List Rule) (rows : List Row) (a : Rule) → IsOneOf xs a → IsNonEmpty a.defaults → has_row a.id (fold with_default rows xs) ≡ true
defaults_made [] rows a of some = absurd of
defaults_made (x ∷ xs) rows a (inl is) some =
    defaults_stay a.id xs (with_default rows x) (subst (λ (y : Rule). has_row a.id (with_default rows y) ≡ true) is (default_made a rows some))
defaults_made (x ∷ xs) rows a (inr of) some = defaults_made xs (with_default rows x) a of some
