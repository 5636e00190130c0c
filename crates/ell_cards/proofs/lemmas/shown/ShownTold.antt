-- What is shown of what a pass was told: the same, but for nodes and tags.
use Rattle.std.proofs.Common.{◌≡◌, ℕ, ◌+◌, ◌%◌, ◌==◌, if◌then◌else◌, max, map, Bool, true, false, Option, Some, None, List, [], ◌∷◌, refl, sym, ap, ◌∙◌, subst}
use Rattle.std.specs.Option.{option_map}
use Rattle.ell_layout.specs.declared.field.Field.{Field}
use Rattle.ell_layout.specs.declared.field.Field.TheVariants as field
use Rattle.ell_runs.specs.declared.view.Told.{Told}
use Rattle.ell_runs.specs.declared.view.Told.TheVariants.{Met, Depth, Key, Value, Info, Expects, Frozen}
use Rattle.ell_cards.specs.Apart.{cut_node}
use Rattle.ell_runs.specs.Views.{Has, latest, earlier}
use Rattle.ell_runs.specs.Depths.{depth_told, depth_below, depth_under, tells_grandparent_of}
use Rattle.ell_runs.specs.Changes.{told_value, value_told}
use Rattle.ell_cards.specs.Shown.{cut_tag, shown_info, shown_told}
use Rattle.ell_cards.proofs.lemmas.shown.CutWords.{node_place, same_cut}

-- what has an entry has it when each entry is shown
pub shown_has : (told : List Told) (e : Told) → Has told e → Has (map shown_told told) (shown_told e)
shown_has [] e none = elim none [ ]
shown_has (_ ∷ es) e (latest _ _) = latest (shown_told e) (map shown_told es)
shown_has (d ∷ es) e (earlier _ _ _ h) = earlier (shown_told e) (shown_told d) (map shown_told es) (shown_has es e h)

-- an entry that is shown is shown of one that was told
pub record WasTold (told : List Told) (e : Told) : Type 0 where
  pub entry : Told
  pub has : Has told entry
  pub is : shown_told entry ≡ e

pub was_told : (told : List Told) (e : Told) → Has (map shown_told told) e → WasTold told e
was_told [] e none = elim none [ ]
was_told (d ∷ es) _ (latest _ _) = record { entry = d; has = latest d es; is = refl }
was_told (d ∷ es) e (earlier _ _ _ h) =
    let old = was_told es e h in record { entry = old.entry; has = earlier old.entry d es old.has; is = old.is }

-- an entry of a node is shown of one of a node that is cut to it
pub record WasOf (told : List Told) (entry : ℕ → Told) (cut : ℕ → ℕ) (x : ℕ) : Type 0 where
  pub whole : ℕ
  pub has : Has told (entry whole)
  pub is : cut whole ≡ x

module _ (told : List Told) where
  pub was_met : (x : ℕ) → Has (map shown_told told) (Met x) → WasOf told Met cut_node x
  was_met x h = by (was_told told (Met x) h).entry (was_told told (Met x) h).has (was_told told (Met x) h).is
    where
      by : (d : Told) → Has told d → shown_told d ≡ Met x → WasOf told Met cut_node x
      by (Met y) has is = (let e : cut_node y ≡ x = cc in record { whole = y; has = has; is = e })
      by (Depth y n) has is = absurd cc
      by (Key y n) has is = absurd cc
      by (Value y n) has is = absurd cc
      by (Info c f y) has is = absurd cc
      by (Expects c tag) has is = absurd cc
      by (Frozen c right y) has is = absurd cc

  pub was_depth : (x d : ℕ) → Has (map shown_told told) (Depth x d) → WasOf told (λ y. Depth y d) cut_node x
  was_depth x d h = by (was_told told (Depth x d) h).entry (was_told told (Depth x d) h).has (was_told told (Depth x d) h).is
    where
      by : (e : Told) → Has told e → shown_told e ≡ Depth x d → WasOf told (λ y. Depth y d) cut_node x
      by (Depth y n) has is =
          let e : cut_node y ≡ x = cc in
          let same : n ≡ d = cc in
          record { whole = y; has = subst (λ m. Has told (Depth y m)) same has; is = e }
      by (Met y) has is = absurd cc
      by (Key y n) has is = absurd cc
      by (Value y n) has is = absurd cc
      by (Info c f y) has is = absurd cc
      by (Expects c tag) has is = absurd cc
      by (Frozen c right y) has is = absurd cc

  pub was_key : (x key : ℕ) → Has (map shown_told told) (Key x key) → WasOf told (λ y. Key y key) cut_node x
  was_key x key h = by (was_told told (Key x key) h).entry (was_told told (Key x key) h).has (was_told told (Key x key) h).is
    where
      by : (d : Told) → Has told d → shown_told d ≡ Key x key → WasOf told (λ y. Key y key) cut_node x
      by (Key y n) has is =
          let e : cut_node y ≡ x = cc in
          let same : n ≡ key = cc in
          record { whole = y; has = subst (λ m. Has told (Key y m)) same has; is = e }
      by (Met y) has is = absurd cc
      by (Depth y n) has is = absurd cc
      by (Value y n) has is = absurd cc
      by (Info c f y) has is = absurd cc
      by (Expects c tag) has is = absurd cc
      by (Frozen c right y) has is = absurd cc

  pub was_value : (x value : ℕ) → Has (map shown_told told) (Value x value) → WasOf told (λ y. Value y value) cut_node x
  was_value x value h = by (was_told told (Value x value) h).entry (was_told told (Value x value) h).has (was_told told (Value x value) h).is
    where
      by : (d : Told) → Has told d → shown_told d ≡ Value x value → WasOf told (λ y. Value y value) cut_node x
      by (Value y n) has is =
          let e : cut_node y ≡ x = cc in
          let same : n ≡ value = cc in
          record { whole = y; has = subst (λ m. Has told (Value y m)) same has; is = e }
      by (Met y) has is = absurd cc
      by (Depth y n) has is = absurd cc
      by (Key y n) has is = absurd cc
      by (Info c f y) has is = absurd cc
      by (Expects c tag) has is = absurd cc
      by (Frozen c right y) has is = absurd cc

  pub was_info : (c : ℕ) (f : Field) (x : ℕ) → Has (map shown_told told) (Info c f x) → WasOf told (Info c f) (shown_info f) x
  was_info c f x h = by (was_told told (Info c f x) h).entry (was_told told (Info c f x) h).has (was_told told (Info c f x) h).is
    where
      by : (d : Told) → Has told d → shown_told d ≡ Info c f x → WasOf told (Info c f) (shown_info f) x
      by (Info d g y) has is =
          let card : d ≡ c = cc in
          let same : g ≡ f = cc in
          let e : shown_info g y ≡ x = cc in
          record { whole = y; has = subst (Has told) (λ t. Info (card t) (same t) y) has; is = sym (ap (λ i. shown_info i y) same) ∙ e }
      by (Met y) has is = absurd cc
      by (Depth y n) has is = absurd cc
      by (Key y n) has is = absurd cc
      by (Value y n) has is = absurd cc
      by (Expects d tag) has is = absurd cc
      by (Frozen d right y) has is = absurd cc

  pub was_expected : (c tag : ℕ) → Has (map shown_told told) (Expects c tag) → WasOf told (Expects c) cut_tag tag
  was_expected c tag h = by (was_told told (Expects c tag) h).entry (was_told told (Expects c tag) h).has (was_told told (Expects c tag) h).is
    where
      by : (d : Told) → Has told d → shown_told d ≡ Expects c tag → WasOf told (Expects c) cut_tag tag
      by (Expects d whole) has is =
          let card : d ≡ c = cc in
          let tags : cut_tag whole ≡ tag = cc in
          record { whole = whole; has = subst (λ x. Has told (Expects x whole)) card has; is = tags }
      by (Met y) has is = absurd cc
      by (Depth y n) has is = absurd cc
      by (Key y n) has is = absurd cc
      by (Value y n) has is = absurd cc
      by (Info d f y) has is = absurd cc
      by (Frozen d right y) has is = absurd cc

  pub was_frozen : (c : ℕ) (right : Bool) (x : ℕ) → Has (map shown_told told) (Frozen c right x) → WasOf told (Frozen c right) cut_node x
  was_frozen c right x h = by (was_told told (Frozen c right x) h).entry (was_told told (Frozen c right x) h).has (was_told told (Frozen c right x) h).is
    where
      by : (d : Told) → Has told d → shown_told d ≡ Frozen c right x → WasOf told (Frozen c right) cut_node x
      by (Frozen d side y) has is =
          let card : d ≡ c = cc in
          let same : side ≡ right = cc in
          let e : cut_node y ≡ x = cc in
          record { whole = y; has = subst (Has told) (λ t. Frozen (card t) (same t) y) has; is = e }
      by (Met y) has is = absurd cc
      by (Depth y n) has is = absurd cc
      by (Key y n) has is = absurd cc
      by (Value y n) has is = absurd cc
      by (Info d f y) has is = absurd cc
      by (Expects d tag) has is = absurd cc

-- depths that were told of a node are shown as they are, where none was told of another node that is cut to the same
pub depth_shown : (told : List Told) (x : ℕ) → ((y d : ℕ) → Has told (Depth y d) → cut_node y ≡ cut_node x → y ≡ x)
    → depth_told (map shown_told told) (cut_node x) ≡ depth_told told x
depth_shown [] x apart = refl
depth_shown (Depth y d ∷ told) x apart =
    let rest = depth_shown told x (λ z n has. apart z n (earlier (Depth z n) (Depth y d) told has)) in
    λ t. if same_cut y x (apart y d (latest (Depth y d) told)) t then max d (rest t) else rest t
depth_shown (Met y ∷ told) x apart = depth_shown told x (λ z n has. apart z n (earlier (Depth z n) (Met y) told has))
depth_shown (Key y k ∷ told) x apart = depth_shown told x (λ z n has. apart z n (earlier (Depth z n) (Key y k) told has))
depth_shown (Value y k ∷ told) x apart = depth_shown told x (λ z n has. apart z n (earlier (Depth z n) (Value y k) told has))
depth_shown (Info c f y ∷ told) x apart = depth_shown told x (λ z n has. apart z n (earlier (Depth z n) (Info c f y) told has))
depth_shown (Expects c tag ∷ told) x apart = depth_shown told x (λ z n has. apart z n (earlier (Depth z n) (Expects c tag) told has))
depth_shown (Frozen c right y ∷ told) x apart = depth_shown told x (λ z n has. apart z n (earlier (Depth z n) (Frozen c right y) told has))

below_shown : (told : List Told) (o : Option ℕ) → ((above : ℕ) → o ≡ Some above → (y d : ℕ) → Has told (Depth y d) → cut_node y ≡ cut_node above → y ≡ above)
    → depth_below (map shown_told told) (option_map cut_node o) ≡ depth_below told o
below_shown told None apart = refl
below_shown told (Some above) apart = ap (λ n. n + 1) (depth_shown told above (apart above refl))

-- the grandparent that an entry tells of a card is shown of the one that the entry tells
tells_above : (c : ℕ) (e : Told) → tells_grandparent_of c (shown_told e) ≡ option_map cut_node (tells_grandparent_of c e)
tells_above c (Info d field.Gp x) = by (d == c)
  where
    by : (b : Bool) → (if b then Some (cut_node x) else None) ≡ option_map cut_node (if b then Some x else None)
    by true = refl
    by false = refl
tells_above c (Info d field.P x) = refl
tells_above c (Info d field.L x) = refl
tells_above c (Info d field.Left x) = refl
tells_above c (Info d field.Right x) = refl
tells_above c (Info d field.Was x) = refl
tells_above c (Info d field.Key x) = refl
tells_above c (Info d field.Update x) = refl
tells_above c (Info d field.LeftLeafKey x) = refl
tells_above c (Info d field.RightLeafKey x) = refl
tells_above c (Info d field.LeftValue x) = refl
tells_above c (Info d field.RightValue x) = refl
tells_above c (Met x) = refl
tells_above c (Depth x n) = refl
tells_above c (Key x n) = refl
tells_above c (Value x n) = refl
tells_above c (Expects d tag) = refl
tells_above c (Frozen d right x) = refl

pub under_shown : (c : ℕ) (told es : List Told)
    → ((e : Told) → Has es e → (above : ℕ) → tells_grandparent_of c e ≡ Some above → (y d : ℕ) → Has told (Depth y d) → cut_node y ≡ cut_node above → y ≡ above)
    → depth_under (tells_grandparent_of c) (map shown_told told) (map shown_told es) ≡ depth_under (tells_grandparent_of c) told es
under_shown c told [] apart = refl
under_shown c told (e ∷ es) apart =
    let rest = under_shown c told es (λ d has. apart d (earlier d e es has)) in
    λ t. max (first t) (rest t)
  where
    first : depth_below (map shown_told told) (tells_grandparent_of c (shown_told e)) ≡ depth_below told (tells_grandparent_of c e)
    first = ap (depth_below (map shown_told told)) (tells_above c e) ∙ below_shown told (tells_grandparent_of c e) (apart e (latest e es))

-- the value of a leaf
told_value_shown : (told : List Told) (x : ℕ) → ((y value : ℕ) → Has told (Value y value) → cut_node y ≡ cut_node x → y ≡ x)
    → told_value (map shown_told told) (cut_node x) ≡ told_value told x
told_value_shown [] x apart = refl
told_value_shown (Value y value ∷ told) x apart =
    λ t. if same_cut y x (apart y value (latest (Value y value) told)) t then value
    else told_value_shown told x (λ z n has. apart z n (earlier (Value z n) (Value y value) told has)) t
told_value_shown (Met y ∷ told) x apart = told_value_shown told x (λ z n has. apart z n (earlier (Value z n) (Met y) told has))
told_value_shown (Depth y d ∷ told) x apart = told_value_shown told x (λ z n has. apart z n (earlier (Value z n) (Depth y d) told has))
told_value_shown (Key y k ∷ told) x apart = told_value_shown told x (λ z n has. apart z n (earlier (Value z n) (Key y k) told has))
told_value_shown (Info c f y ∷ told) x apart = told_value_shown told x (λ z n has. apart z n (earlier (Value z n) (Info c f y) told has))
told_value_shown (Expects c tag ∷ told) x apart = told_value_shown told x (λ z n has. apart z n (earlier (Value z n) (Expects c tag) told has))
told_value_shown (Frozen c right y ∷ told) x apart = told_value_shown told x (λ z n has. apart z n (earlier (Value z n) (Frozen c right y) told has))

pub value_shown : (told : List Told) (x : ℕ) → ((y value : ℕ) → Has told (Value y value) → cut_node y ≡ cut_node x → y ≡ x)
    → value_told (map shown_told told) (cut_node x) ≡ value_told told x
value_shown told x apart =
    (λ t. if node_place x t == 0 then 0 else told_value (map shown_told told) (cut_node x))
    ∙ ap (λ n. if x % 4 == 0 then 0 else n) (told_value_shown told x apart)
