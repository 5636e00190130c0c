-- The words of a slot in hand, by what was stored there: memory has what the card is to say, by names, once it has a 0 where a 0 was stored.
use Rattle.std.proofs.Common.{◌≡◌, ◌≢◌, ℕ, ◌==◌, if◌then◌else◌, inl, inr, Bool, true, false, List, [], ◌∷◌, get_or, refl, sym, ap, ◌∙◌, arith, eqb-true}
use Rattle.std.proofs.lemmas.Bool.{cases_eq}
use Rattle.ell_layout.specs.declared.field.Field.{Field}
use Rattle.ell_layout.specs.declared.field.Field.TheVariants as field
use Rattle.ell_layout.specs.Layout.{address, place}
use Rattle.ell_layout.proofs.lemmas.Listed.{addresses_apart}
use Rattle.ell_word.specs.Link.{linked}
use Rattle.ell_runs.specs.Named.{IsNaming, named_child, named_node, named_word, named_words}
use Rattle.ell_runs.specs.Views.{stored_at}
use Rattle.ell_cards.specs.NamedRefinement.{Hand, in_memory}
use Rattle.ell_cards.specs.Shown.{cut_field}
use Rattle.ell_cards.specs.SlotWords.{slot_of}

-- fields in one place are the same
same_place : (f g : Field) → place f ≡ place g → f ≡ g
same_place f g same = (addresses_apart 0 0 f g (omega (arith, same))).1

module _ (name : ℕ → ℕ) (naming : IsNaming name) where
  -- a word that is 0 is 0 by names
  node_zero : named_node name 0 ≡ 0
  node_zero = (let root = naming.root in omega (arith, root))

  child_zero : named_child name 0 ≡ 0
  child_zero = ap (λ x. linked (record { node = x; tag = 0 })) node_zero

  word_zero : (f : Field) → named_word name f 0 ≡ 0
  word_zero field.Gp = node_zero
  word_zero field.P = node_zero
  word_zero field.L = child_zero
  word_zero field.Was = node_zero
  word_zero field.Left = child_zero
  word_zero field.Right = child_zero
  word_zero field.Update = node_zero
  word_zero field.Key = refl
  word_zero field.LeftLeafKey = refl
  word_zero field.RightLeafKey = refl
  word_zero field.LeftValue = refl
  word_zero field.RightValue = refl

  -- what was stored by names is what was stored, by names
  pub stored_named : (stores : List (Field × ℕ)) (f : Field) → stored_at (named_words name stores) f ≡ named_word name f (stored_at stores f)
  stored_named [] f = sym (word_zero f)
  stored_named (e ∷ es) f = by (place e.0 == place f) refl (stored_named es f)
    where
      by : (b : Bool) → (place e.0 == place f) ≡ b → stored_at (named_words name es) f ≡ named_word name f (stored_at es f)
          → (if b then named_word name e.0 e.1 else stored_at (named_words name es) f) ≡ named_word name f (if b then e.1 else stored_at es f)
      by true is rest = λ t. named_word name (same_place e.0 f (eqb-true (place e.0) (place f) is) t) e.1
      by false is rest = rest

  -- so memory has it, by names
  pub hand_is_whole : (memory : List ℕ) (h : Hand) (stores : List (Field × ℕ)) → h.stores ≡ named_words name stores → (said : Field → Bool)
      → ((f : Field) (x : ℕ) → stored_at h.stores f ≡ x → x ≢ 0 → get_or memory (address (slot_of h.name) f) 0 ≡ cut_field f x)
      → ((f : Field) → said f ≡ true → stored_at h.stores f ≡ 0 → get_or memory (address (slot_of h.name) f) 0 ≡ cut_field f 0)
      → (f : Field) → said f ≡ true → get_or memory (address (slot_of h.name) f) 0 ≡ in_memory name f (stored_at stores f)
  hand_is_whole memory h stores same said filled zeros f says = there ∙ ap (cut_field f) (ap (λ es. stored_at es f) same ∙ stored_named stores f)
    where
      there : get_or memory (address (slot_of h.name) f) 0 ≡ cut_field f (stored_at h.stores f)
      there = elim (cases_eq (stored_at h.stores f) 0) [
        | inl e ↦ zeros f says e ∙ ap (cut_field f) (sym e)
        | inr some ↦ filled f (stored_at h.stores f) refl some
      ]
