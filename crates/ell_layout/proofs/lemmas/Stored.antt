use Rattle.std.proofs.Common.{◌≡◌, ◌≢◌, ℕ, ◌+◌, ◌==◌, if◌then◌else◌, eq-eqb, ne_eqb, List, [], ◌∷◌, refl, sym, ap, ◌∙◌, inl, inr, arith}
use Rattle.std.proofs.lemmas.Bool.{cases_eq}
use Rattle.ell_layout.specs.declared.field.Field.{Field}
use Rattle.ell_layout.specs.declared.field.Field.TheVariants.{Gp}
use Rattle.ell_layout.specs.Layout.{place}
use Rattle.ell_layout.specs.Words.{Words, word, put, written}
use Rattle.ell_layout.specs.Cards.{filled, claimed, stored}
use Rattle.ell_layout.proofs.lemmas.Writes.{written_here, written_elsewhere}
use Rattle.ell_layout.proofs.lemmas.Listed.{apart, same_place-field, same_but_next}

-- a test of equal numbers
pub if_same : (a b x y : ℕ) → a ≡ b → (if a == b then x else y) ≡ x
if_same a b x y e = ap (λ t. if t then x else y) (eq-eqb a b e)

-- a test of others
pub if_other : (a b x y : ℕ) → a ≢ b → (if a == b then x else y) ≡ y
if_other a b x y n = ap (λ t. if t then x else y) (ne_eqb a b n)

-- a field of the card that was written
pub written_there : (w : Words) (c : ℕ) (other : Field) (value : ℕ) (field : Field)
    → word (written w c other value) c field ≡ (if place other == place field then value else word w c field)
written_there w c other value field = elim (cases_eq (place other) (place field)) [
  | inl e ↦ ap (word (written w c other value) c) (sym (same_place-field other field e))
      ∙ (written_here w c other value ∙ sym (if_same (place other) (place field) value (word w c field) e))
  | inr n ↦ written_elsewhere w c field c other value (λ e. n (omega arith))
      ∙ sym (if_other (place other) (place field) value (word w c field) n)
]

-- after a filling each field of the card has what was written to it last, or what it had
pub filled_stored : (w : Words) (c : ℕ) (es : List (Field × ℕ)) (field : Field)
    → word (filled w c es) c field ≡ stored es field (word w c field)
filled_stored w c [] field = refl
filled_stored w c (e ∷ es) field = filled_stored (written w c e.0 e.1) c es field ∙ ap (stored es field) (written_there w c e.0 e.1 field)

-- each other card's words are as they were
pub filled_elsewhere : (w : Words) (d : ℕ) (es : List (Field × ℕ)) (c : ℕ) (field : Field) → c ≢ d
    → word (filled w d es) c field ≡ word w c field
filled_elsewhere w d [] c field n = refl
filled_elsewhere w d (e ∷ es) c field n =
    filled_elsewhere (written w d e.0 e.1) d es c field n ∙ written_elsewhere w c field d e.0 e.1 (apart c field d e.0 n)

-- other tags that the cards expect leave what the fields say
pub same_but_expects : (w : Words) (expects : ℕ → ℕ) (c : ℕ) (field : Field) → word w c field ≡ word (record w { expects = expects }) c field
same_but_expects w expects c Gp = refl
same_but_expects w expects c _ = refl

-- so it is after a claim, where the card's words were 0
pub claimed_stored : (w : Words) (tag : ℕ) (filling : List (Field × ℕ)) (field : Field) → word w w.next field ≡ 0
    → word (claimed w tag filling) w.next field ≡ stored filling field 0
claimed_stored w tag filling field blank =
    sym (same_but_next (record (filled w w.next filling) { expects = put w.expects w.next tag }) (w.next + 1) w.next field)
    ∙ (sym (same_but_expects (filled w w.next filling) (put w.expects w.next tag) w.next field)
    ∙ (filled_stored w w.next filling field ∙ ap (stored filling field) blank))
