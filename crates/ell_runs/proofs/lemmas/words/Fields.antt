use Rattle.std.proofs.Common.{◌≡◌, ◌≢◌, ℕ, ◌<◌, ◌==◌, if◌then◌else◌, eq-eqb, ne_eqb, true, false, List, length, get_or, set, sym, ap, ◌∙◌, arith, inl, inr, get_or-set_same, get_or-set_other}
use Rattle.std.proofs.lemmas.Bool.{cases_eq}
use Rattle.ell_layout.specs.declared.field.Field.{Field}
use Rattle.ell_layout.specs.declared.field.Field.TheVariants.{Gp, P, L, Was, Key, Left, Right, Update, LeftLeafKey, RightLeafKey, LeftValue, RightValue}
use Rattle.ell_layout.specs.Layout.{address, place, listed}
use Rattle.ell_word.specs.Node.{card, IsInternal}
use Rattle.ell_layout.specs.Words.{Words, table_word, table_written, with_update}
use Rattle.ell_layout.proofs.lemmas.Writes.{internal_at_node}
use Rattle.ell_layout.proofs.lemmas.Listed.{same_place-field}
use Rattle.ell_word.specs.Link.{linked}
use Rattle.ell_core.specs.history.Later.{SaysTheSame}
use Rattle.ell_core.specs.history.Invariant.{Blank}

if_same : (a b x y : ℕ) → a ≡ b → (if a == b then x else y) ≡ x
if_same a b x y e = ap (λ t. if t then x else y) (eq-eqb a b e)

if_other : (a b x y : ℕ) → a ≢ b → (if a == b then x else y) ≡ y
if_other a b x y n = ap (λ t. if t then x else y) (ne_eqb a b n)

module _ (words : List ℕ) (d : ℕ) (g : Field) (x : ℕ) where
  -- what is read after a write elsewhere
  pub listed_else : (c : ℕ) (f : Field) → address c f ≢ address d g → listed (set words (address d g) x) c f ≡ listed words c f
  listed_else c f n = get_or-set_other words (address d g) (address c f) x 0 n

  -- the claim word stays
  pub listed_next : get_or (set words (address d g) x) 0 0 ≡ get_or words 0 0
  listed_next = get_or-set_other words (address d g) 0 x 0 (omega arith)

  -- and so does the word that says from where on the tree is flat
  pub listed_flat : get_or (set words (address d g) x) 1 0 ≡ get_or words 1 0
  listed_flat = get_or-set_other words (address d g) 1 x 0 (omega arith)

  -- a field of the same card
  pub listed_there : (f : Field) → address d g < length words
      → listed (set words (address d g) x) d f ≡ (if place g == place f then x else listed words d f)
  listed_there f fits = elim (cases_eq (place g) (place f)) [
    | inl e ↦ ap (λ (h : Field). listed (set words (address d g) x) d h) (sym (same_place-field g f e))
        ∙ (get_or-set_same words (address d g) x 0 fits ∙ sym (if_same (place g) (place f) x (listed words d f) e))
    | inr n ↦ listed_else d f (λ e. n (omega arith)) ∙ sym (if_other (place g) (place f) x (listed words d f) n)
  ]

-- a write to the update word of an internal node, as one to its card
pub write_update_at_node : (w : Words) (x value : ℕ) → IsInternal x → table_written w (card x) Update value ≡ with_update w x value
write_update_at_node w x value inner = ap (λ n. with_update w n value) (sym (internal_at_node x inner))

-- a card that says what it said has the words in a table that it had
pub table_says : (old new : Words) (c : ℕ) → SaysTheSame old new c → (f : Field) → table_word new c f ≡ table_word old c f
table_says old new c same L = λ t. linked (record { node = same.words L t; tag = same.expects t })
table_says old new c same Left = λ t. linked (record { node = same.words Left t; tag = same.tags false t })
table_says old new c same Right = λ t. linked (record { node = same.words Right t; tag = same.tags true t })
table_says old new c same Gp = same.words Gp
table_says old new c same P = same.words P
table_says old new c same Was = same.words Was
table_says old new c same Key = same.words Key
table_says old new c same Update = same.words Update
table_says old new c same LeftLeafKey = same.words LeftLeafKey
table_says old new c same RightLeafKey = same.words RightLeafKey
table_says old new c same LeftValue = same.words LeftValue
table_says old new c same RightValue = same.words RightValue

-- a card that was not claimed has zeros in a table
pub table_blank : (w : Words) (c : ℕ) → Blank w c → (f : Field) → table_word w c f ≡ 0
table_blank w c blank L = λ t. linked (record { node = blank.words L t; tag = blank.expects t })
table_blank w c blank Left = λ t. linked (record { node = blank.words Left t; tag = blank.tags false t })
table_blank w c blank Right = λ t. linked (record { node = blank.words Right t; tag = blank.tags true t })
table_blank w c blank Gp = blank.words Gp
table_blank w c blank P = blank.words P
table_blank w c blank Was = blank.words Was
table_blank w c blank Key = blank.words Key
table_blank w c blank Update = blank.words Update
table_blank w c blank LeftLeafKey = blank.words LeftLeafKey
table_blank w c blank RightLeafKey = blank.words RightLeafKey
table_blank w c blank LeftValue = blank.words LeftValue
table_blank w c blank RightValue = blank.words RightValue
