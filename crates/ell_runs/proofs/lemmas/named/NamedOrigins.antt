-- What is known by names comes from what is known: entries that were told, facts, and what a search has seen.
use Rattle.std.proofs.Common.{◌≡◌, ℕ, ◌%◌, map, Bool, Option, Some, None, List, [], ◌∷◌, refl, sym, ap, ◌∙◌, subst}
use Rattle.std.specs.Option.{option_map}
use Rattle.std.proofs.lemmas.Option.{same_Some}
use Rattle.ell_word.specs.Node.{IsInternal}
use Rattle.ell_word.specs.Word.{unpacked}
use Rattle.ell_word.specs.declared.update.Update.{Update}
use Rattle.ell_layout.specs.declared.field.Field.{Field}
use Rattle.ell_layout.specs.Words.{IsLeaf}
use Rattle.ell_core.specs.declared.fact.Fact.{Fact}
use Rattle.ell_core.specs.acts.Searching.{IsClean}
use Rattle.ell_runs.specs.declared.view.Told.{Told}
use Rattle.ell_runs.specs.declared.view.Told.TheVariants.{Met, Depth, Key, Value, Info, Expects, Frozen}
use Rattle.ell_runs.specs.declared.view.View.{View}
use Rattle.ell_runs.specs.Views.{Has, latest, earlier, IsTold, Knows}
use Rattle.ell_runs.specs.Named.{IsNaming, named_node, named_fact, named_info, named_told, named}
use Rattle.ell_runs.proofs.lemmas.named.NamedHindrances.{known_named}
use Rattle.ell_runs.proofs.lemmas.named.NamedWords.{same_named, place_named, unpacked_named}

-- an entry of a list of names is that of an entry of the list
pub record WasThere {A : Type 0} (f : A → A) (l : List A) (e : A) : Type 0 where
  pub whole : A
  pub has : Has l whole
  pub is : f whole ≡ e

pub was_there : {A : Type 0} (f : A → A) (l : List A) (e : A) → Has (map f l) e → WasThere f l e
was_there f [] e none = elim none [ ]
was_there f (d ∷ es) _ (latest _ _) = record { whole = d; has = latest d es; is = refl }
was_there f (d ∷ es) e (earlier _ _ _ h) =
    let old = was_there f es e h in record { whole = old.whole; has = earlier old.whole d es old.has; is = old.is }

-- so is what an option has
pub record WasSome {A : Type 0} (f : A → A) (o : Option A) (x : A) : Type 0 where
  pub whole : A
  pub has : o ≡ Some whole
  pub is : f whole ≡ x

pub was_some : {A : Type 0} (f : A → A) (o : Option A) (x : A) → option_map f o ≡ Some x → WasSome f o x
was_some f None x e = absurd cc
was_some f (Some whole) x e = record { whole = whole; has = refl; is = same_Some (f whole) x e }

-- and an option that has nothing has nothing by names
pub was_none : {A : Type 0} (f : A → A) (o : Option A) → option_map f o ≡ None → o ≡ None
was_none f None e = refl
was_none f (Some x) e = absurd cc

module _ (name : ℕ → ℕ) (naming : IsNaming name) where
  -- what is known by a name is known
  pub knows_whole : (v : View) (f : Fact) → Knows (named name v) (named_fact name f) → Knows v f
  knows_whole v f h = sym (known_named name naming v.worker.knows f) ∙ h

  -- a node is a leaf, or internal, as it is by name
  pub inner_whole : (x y : ℕ) → named_node name x ≡ y → IsInternal y → IsInternal x
  inner_whole x y is inner = sym (place_named name naming x) ∙ (ap (λ z. z % 4) is ∙ inner)

  pub inner_by_name : (x y : ℕ) → named_node name x ≡ y → IsInternal x → IsInternal y
  inner_by_name x y is inner = sym (ap (λ z. z % 4) is) ∙ (place_named name naming x ∙ inner)

  pub outer_whole : (x y : ℕ) → named_node name x ≡ y → IsLeaf y → IsLeaf x
  outer_whole x y is outer inner = outer (inner_by_name x y is inner)

  pub outer_by_name : (x y : ℕ) → named_node name x ≡ y → IsLeaf x → IsLeaf y
  outer_by_name x y is outer inner = outer (inner_whole x y is inner)

  -- a word is clean if it is by name
  pub clean_whole : (n m : ℕ) → named_node name n ≡ m → IsClean m → IsClean n
  clean_whole n m is calm = sym (ap (λ (u : Update). u.state) (unpacked_named name naming n)) ∙ (ap (λ k. (unpacked k).state) is ∙ calm)

  module _ (v : View) where
    -- a node that was met by name
    pub record WasMet (x : ℕ) : Type 0 where
      pub whole : ℕ
      pub has : IsTold v (Met whole)
      pub is : named_node name whole ≡ x

    pub was_met : (x : ℕ) → IsTold (named name v) (Met x) → WasMet x
    was_met x h = (let old = was_there (named_told name) v.told (Met x) h in by old.whole old.has old.is)
      where
        by : (d : Told) → IsTold v d → named_told name d ≡ Met x → WasMet x
        by (Met y) has is = record { whole = y; has = has; is = cc }
        by (Key y n) has is = absurd cc
        by (Depth y n) has is = absurd cc
        by (Value y n) has is = absurd cc
        by (Info c f y) has is = absurd cc
        by (Expects c tag) has is = absurd cc
        by (Frozen c right y) has is = absurd cc

    -- a key that was told of a node by its name was told of the node
    pub key_told : (x y key : ℕ) → named_node name x ≡ y → IsTold (named name v) (Key y key) → IsTold v (Key x key)
    key_told x y key at h = (let old = was_there (named_told name) v.told (Key y key) h in by old.whole old.has old.is)
      where
        by : (d : Told) → IsTold v d → named_told name d ≡ Key y key → IsTold v (Key x key)
        by (Key z n) has is =
            let node : named_node name z ≡ y = cc in
            let same : n ≡ key = cc in
            subst (IsTold v) (λ t. Key (same_named name naming z x (node ∙ sym at) t) (same t)) has
        by (Met z) has is = absurd cc
        by (Depth z n) has is = absurd cc
        by (Value z n) has is = absurd cc
        by (Info c f z) has is = absurd cc
        by (Expects c tag) has is = absurd cc
        by (Frozen c right z) has is = absurd cc

    -- so was a value
    pub value_told : (x y value : ℕ) → named_node name x ≡ y → IsTold (named name v) (Value y value) → IsTold v (Value x value)
    value_told x y value at h = (let old = was_there (named_told name) v.told (Value y value) h in by old.whole old.has old.is)
      where
        by : (d : Told) → IsTold v d → named_told name d ≡ Value y value → IsTold v (Value x value)
        by (Value z n) has is =
            let node : named_node name z ≡ y = cc in
            let same : n ≡ value = cc in
            subst (IsTold v) (λ t. Value (same_named name naming z x (node ∙ sym at) t) (same t)) has
        by (Met z) has is = absurd cc
        by (Depth z n) has is = absurd cc
        by (Key z n) has is = absurd cc
        by (Info c f z) has is = absurd cc
        by (Expects c tag) has is = absurd cc
        by (Frozen c right z) has is = absurd cc

    -- what was told by name of a field of a card
    pub record WasInfo (d : ℕ) (f : Field) (y : ℕ) : Type 0 where
      pub card : ℕ
      pub whole : ℕ
      pub has : IsTold v (Info card f whole)
      pub named : name card ≡ d
      pub is : named_info name f whole ≡ y

    pub was_info : (d : ℕ) (f : Field) (y : ℕ) → IsTold (named name v) (Info d f y) → WasInfo d f y
    was_info d f y h = (let old = was_there (named_told name) v.told (Info d f y) h in by old.whole old.has old.is)
      where
        by : (e : Told) → IsTold v e → named_told name e ≡ Info d f y → WasInfo d f y
        by (Info c g x) has is =
            let card : name c ≡ d = cc in
            let field : g ≡ f = cc in
            let says : named_info name g x ≡ y = cc in
            record {
              card = c;
              whole = x;
              has = subst (λ i. IsTold v (Info c i x)) field has;
              named = card;
              is = ap (λ i. named_info name i x) (sym field) ∙ says;
            }
        by (Met x) has is = absurd cc
        by (Depth x n) has is = absurd cc
        by (Key x n) has is = absurd cc
        by (Value x n) has is = absurd cc
        by (Expects c tag) has is = absurd cc
        by (Frozen c right x) has is = absurd cc

    -- and of a card of which the name is known
    pub record WasSaid (c : ℕ) (f : Field) (y : ℕ) : Type 0 where
      pub whole : ℕ
      pub has : IsTold v (Info c f whole)
      pub is : named_info name f whole ≡ y

    pub was_said : (c : ℕ) (f : Field) (y : ℕ) → IsTold (named name v) (Info (name c) f y) → WasSaid c f y
    was_said c f y h =
        let old = was_info (name c) f y h in
        record { whole = old.whole; has = subst (λ d. IsTold v (Info d f old.whole)) (naming.apart old.card c old.named) old.has; is = old.is }

    -- the tag that a card expects
    pub expects_told : (c tag : ℕ) → IsTold (named name v) (Expects (name c) tag) → IsTold v (Expects c tag)
    expects_told c tag h = (let old = was_there (named_told name) v.told (Expects (name c) tag) h in by old.whole old.has old.is)
      where
        by : (d : Told) → IsTold v d → named_told name d ≡ Expects (name c) tag → IsTold v (Expects c tag)
        by (Expects d n) has is =
            let card : name d ≡ name c = cc in
            let same : n ≡ tag = cc in
            subst (IsTold v) (λ t. Expects (naming.apart d c card t) (same t)) has
        by (Met x) has is = absurd cc
        by (Depth x n) has is = absurd cc
        by (Key x n) has is = absurd cc
        by (Value x n) has is = absurd cc
        by (Info d f x) has is = absurd cc
        by (Frozen d right x) has is = absurd cc

    -- a child of the parent that a card marked
    pub record WasFrozen (c : ℕ) (right : Bool) (y : ℕ) : Type 0 where
      pub whole : ℕ
      pub has : IsTold v (Frozen c right whole)
      pub is : named_node name whole ≡ y

    pub was_frozen : (c : ℕ) (right : Bool) (y : ℕ) → IsTold (named name v) (Frozen (name c) right y) → WasFrozen c right y
    was_frozen c right y h = (let old = was_there (named_told name) v.told (Frozen (name c) right y) h in by old.whole old.has old.is)
      where
        by : (d : Told) → IsTold v d → named_told name d ≡ Frozen (name c) right y → WasFrozen c right y
        by (Frozen d side x) has is =
            let card : name d ≡ name c = cc in
            let same : side ≡ right = cc in
            record { whole = x; has = subst (IsTold v) (λ t. Frozen (naming.apart d c card t) (same t) x) has; is = cc }
        by (Met x) has is = absurd cc
        by (Depth x n) has is = absurd cc
        by (Key x n) has is = absurd cc
        by (Value x n) has is = absurd cc
        by (Info d f x) has is = absurd cc
        by (Expects d tag) has is = absurd cc
