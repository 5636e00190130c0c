-- What is known by names once a card is claimed is what is known once it is taken by its name.
use Rattle.std.proofs.Common.{◌≡◌, ℕ, ◌+◌, ◌*◌, ◌/◌, ◌%◌, ◌<◌, ◌==◌, ◌&&◌, ◌||◌, if◌then◌else◌, map, nat_le, nat_lt, max, min, Bool, true, false, Option, Some, None, List, [], ◌∷◌, refl, sym, ap, ◌∙◌, arith, unwrap_or}
use Rattle.std.specs.Option.{option_map}
use Rattle.ell_ops.specs.declared.op.Op.{Op}
use Rattle.ell_ops.specs.declared.op.Op.TheVariants.{Find, Insert, Delete, Swap}
use Rattle.ell_word.specs.Node.{left_leaf, right_leaf}
use Rattle.ell_word.specs.Link.{linked, node_bound}
use Rattle.ell_layout.specs.declared.field.Field.{Field}
use Rattle.ell_layout.specs.declared.field.Field.TheVariants as field
use Rattle.ell_layout.specs.Cards.{clean, left_of_card, right_of_card, put_filling, stays_below, tagged_for}
use Rattle.ell_core.specs.declared.view.Seen.{Seen}
use Rattle.ell_core.specs.statements.Told.{is_fixed}
use Rattle.ell_runs.specs.declared.view.Told.{Told}
use Rattle.ell_runs.specs.declared.view.Told.TheVariants.{Met, Depth, Key, Value, Info, Expects, Frozen}
use Rattle.ell_runs.specs.declared.view.View.{View}
use Rattle.ell_runs.specs.Changes.{after_claim, expected_tag, filling_for, filling_of, tag_of_claim, tagged, told_filling, told_value, value_told}
use Rattle.ell_runs.specs.Named.{IsNaming, FitsLink, named_node, named_link, named_info, named_word, named_words, named_seen, named_told, named, unread}
use Rattle.ell_runs.specs.NamedTakings.{numbered}
use Rattle.ell_runs.specs.declared.call.NewNode.{NewNode}
use Rattle.ell_word.proofs.Numbers.{link_back}
use Rattle.ell_runs.proofs.lemmas.named.NamedWords.{nodes_alike, place_named}

-- what is to fill a card, by names
abbrev pub named_filling : (ℕ → ℕ) → List (Field × ℕ) → List (Field × ℕ)
named_filling name filling = map (λ e. (e.0, named_info name e.0 e.1)) filling

-- a node that a field of a card is to lead to is one that a link holds, by its number and by its name
abbrev pub NodeFitsLink : (ℕ → ℕ) → Field → ℕ → Type 0
NodeFitsLink name field.L x = (x < node_bound) × FitsLink name x
NodeFitsLink name field.Left x = (x < node_bound) × FitsLink name x
NodeFitsLink name field.Right x = (x < node_bound) × FitsLink name x
NodeFitsLink name f x = Unit {0}

-- so is each one to which what fills a card leads
abbrev pub FillingFits : (ℕ → ℕ) → List (Field × ℕ) → Type 0
FillingFits name [] = Unit {0}
FillingFits name (e ∷ es) = NodeFitsLink name e.0 e.1 × FillingFits name es

module _ (name : ℕ → ℕ) (naming : IsNaming name) where
  -- a word for a field of a card
  word_named : (f : Field) (tag x : ℕ) → NodeFitsLink name f x → named_word name f (tagged_for f tag x) ≡ tagged_for f tag (named_info name f x)
  word_named field.L tag x fits = ap (λ l. linked (named_link name l)) (link_back x tag fits.0)
  word_named field.Left tag x fits = ap (λ l. linked (named_link name l)) (link_back x 0 fits.0)
  word_named field.Right tag x fits = ap (λ l. linked (named_link name l)) (link_back x 0 fits.0)
  word_named field.Gp tag x fits = refl
  word_named field.P tag x fits = refl
  word_named field.Was tag x fits = refl
  word_named field.Key tag x fits = refl
  word_named field.Update tag x fits = refl
  word_named field.LeftLeafKey tag x fits = refl
  word_named field.RightLeafKey tag x fits = refl
  word_named field.LeftValue tag x fits = refl
  word_named field.RightValue tag x fits = refl

  -- words for what fills a card
  words_named : (tag : ℕ) (es : List (Field × ℕ)) → FillingFits name es → named_words name (tagged tag es) ≡ tagged tag (named_filling name es)
  words_named tag [] fits = refl
  words_named tag (e ∷ es) fits = λ t. (e.0, word_named e.0 tag e.1 fits.0 t) ∷ words_named tag es fits.1 t

  -- the card's own leaves
  left_leaf_named : (c : ℕ) → named_node name (left_leaf c) ≡ left_leaf (name c)
  left_leaf_named c = λ t. 4 * name (card_is t) + place_is t
    where
      card_is : (4 * c + 1) / 4 ≡ c
      card_is = omega arith

      place_is : (4 * c + 1) % 4 ≡ 1
      place_is = omega arith

  right_leaf_named : (c : ℕ) → named_node name (right_leaf c) ≡ right_leaf (name c)
  right_leaf_named c = λ t. 4 * name (card_is t) + place_is t
    where
      card_is : (4 * c + 2) / 4 ≡ c
      card_is = omega arith

      place_is : (4 * c + 2) % 4 ≡ 2
      place_is = omega arith

  -- the children of the card's node
  choice_named : (b : Bool) (x y y' : ℕ) → named_node name y ≡ y' → named_node name (if b then x else y) ≡ (if b then named_node name x else y')
  choice_named true x y y' same = refl
  choice_named false x y y' same = same

  stays_named : (flat : Bool) (below : ℕ) → stays_below flat (named_node name below) ≡ stays_below flat below
  stays_named flat below = ap (λ p. flat || p == 0) (place_named name naming below)

  left_named : (flat : Bool) (c k below key : ℕ) → named_node name (left_of_card flat c k below key) ≡ left_of_card flat (name c) k (named_node name below) key
  left_named flat c k below key =
      choice_named (stays_below flat below && nat_le key k) below (left_leaf c) (left_leaf (name c)) (left_leaf_named c)
      ∙ ap (λ b. if b && nat_le key k then named_node name below else left_leaf (name c)) (sym (stays_named flat below))

  right_named : (flat : Bool) (c k below key : ℕ) → named_node name (right_of_card flat c k below key) ≡ right_of_card flat (name c) k (named_node name below) key
  right_named flat c k below key =
      choice_named (stays_below flat below && nat_lt k key) below (right_leaf c) (right_leaf (name c)) (right_leaf_named c)
      ∙ ap (λ b. if b && nat_lt k key then named_node name below else right_leaf (name c)) (sym (stays_named flat below))

  -- the update word of the card's node
  clean_named : named_node name (clean 0) ≡ clean 0
  clean_named = (let root = naming.root in omega (arith, root))

  -- what fills the card of an insert or a swap
  put_named : (flat : Bool) (c k value node_key parent below key there there' : ℕ) → there ≡ there'
      → named_filling name (put_filling flat c k value node_key parent below key there)
      ≡ put_filling flat (name c) k value node_key (named_node name parent) (named_node name below) key there'
  put_named flat c k value node_key parent below key there there' same = λ t.
      (field.P, named_node name parent) ∷ (field.L, named_node name below) ∷ (field.Key, node_key) ∷ (field.Left, left_named flat c k below key t)
      ∷ (field.Right, right_named flat c k below key t) ∷ (field.Update, clean_named t)
      ∷ (field.LeftLeafKey, min k key) ∷ (field.RightLeafKey, max k key)
      ∷ (field.LeftValue, (if nat_lt k key then value else same t)) ∷ (field.RightValue, (if nat_lt k key then same t else value)) ∷ []

  -- what fills a card
  filling_named : (c : ℕ) (node : NewNode) (op : Option Op) (at : Option ℕ) (parent above : Option Seen) (key : ℕ) (value_of value_of' : ℕ → ℕ)
      → ((x : ℕ) → value_of x ≡ value_of' (named_node name x))
      → named_filling name (filling_for c node op at parent above key value_of)
      ≡ filling_for (name c) node op (option_map (named_node name) at) (option_map (named_seen name) parent) (option_map (named_seen name) above) key value_of'
  filling_named c node (Some (Insert k value)) (Some below) (Some parent) above key value_of value_of' same =
      put_named node.flat c k value node.key parent.node below key (value_of below) (value_of' (named_node name below)) (same below)
  filling_named c node (Some (Swap k was value)) (Some below) (Some parent) above key value_of value_of' same =
      put_named node.flat c k value node.key parent.node below key (value_of below) (value_of' (named_node name below)) (same below)
  filling_named c node (Some (Delete k)) (Some leaf) (Some parent) (Some above) key value_of value_of' same = refl
  filling_named c node (Some (Delete k)) (Some leaf) (Some parent) None key value_of value_of' same = refl
  filling_named c node (Some (Delete k)) (Some leaf) None above key value_of value_of' same = refl
  filling_named c node (Some (Delete k)) None parent above key value_of value_of' same = refl
  filling_named c node (Some (Insert k value)) (Some below) None above key value_of value_of' same = refl
  filling_named c node (Some (Insert k value)) None parent above key value_of value_of' same = refl
  filling_named c node (Some (Swap k was value)) (Some below) None above key value_of value_of' same = refl
  filling_named c node (Some (Swap k was value)) None parent above key value_of value_of' same = refl
  filling_named c node (Some (Find k)) at parent above key value_of value_of' same = refl
  filling_named c node None at parent above key value_of value_of' same = refl

  -- the value that was told of a leaf
  value_named : (told : List Told) (x : ℕ) → told_value (map (named_told name) told) (named_node name x) ≡ told_value told x
  value_named [] x = refl
  value_named (Value y n ∷ told) x = λ t. if nodes_alike name naming y x t then n else value_named told x t
  value_named (Met y ∷ told) x = value_named told x
  value_named (Key y n ∷ told) x = value_named told x
  value_named (Depth y n ∷ told) x = value_named told x
  value_named (Info c f y ∷ told) x = value_named told x
  value_named (Expects c tag ∷ told) x = value_named told x
  value_named (Frozen c right y ∷ told) x = value_named told x

  values_named : (told : List Told) (x : ℕ) → value_told told x ≡ value_told (map (named_told name) told) (named_node name x)
  values_named told x = λ t. if sym (place_named name naming x) t == 0 then 0 else sym (value_named told x) t

  -- what is told of a card that is taken
  told_filling_named : (c : ℕ) (es : List (Field × ℕ)) (told : List Told)
      → map (named_told name) (told_filling c es told) ≡ told_filling (name c) (named_filling name es) (map (named_told name) told)
  told_filling_named c [] told = refl
  told_filling_named c (e ∷ es) told =
      by (is_fixed e.0) ∙ ap (λ ts. if is_fixed e.0 then Info (name c) e.0 (named_info name e.0 e.1) ∷ ts else ts) (told_filling_named c es told)
    where
      by : (b : Bool) → map (named_told name) (if b then Info c e.0 e.1 ∷ told_filling c es told else told_filling c es told)
          ≡ (if b then Info (name c) e.0 (named_info name e.0 e.1) ∷ map (named_told name) (told_filling c es told) else map (named_told name) (told_filling c es told))
      by true = refl
      by false = refl

  -- the tag that a card is to expect
  tag_named : (op : Option Op) (parent above : Option Seen)
      → tag_of_claim op (option_map (named_seen name) parent) (option_map (named_seen name) above) ≡ tag_of_claim op parent above
  tag_named (Some (Delete k)) parent (Some above) = refl
  tag_named (Some (Delete k)) (Some parent) None = refl
  tag_named (Some (Delete k)) None None = refl
  tag_named (Some (Insert k value)) (Some parent) above = refl
  tag_named (Some (Insert k value)) None above = refl
  tag_named (Some (Swap k was value)) (Some parent) above = refl
  tag_named (Some (Swap k was value)) None above = refl
  tag_named (Some (Find k)) (Some parent) above = refl
  tag_named (Some (Find k)) None above = refl
  tag_named None (Some parent) above = refl
  tag_named None None above = refl

  -- what fills a card, by what the pass knows
  card_filling_named : (c : ℕ) (node : NewNode) (v : View) → named_filling name (filling_of c node v) ≡ filling_of (name c) node (named name v)
  card_filling_named c node v =
      filling_named c node v.worker.operation v.worker.search.node v.worker.search.parent v.worker.search.grandparent (unwrap_or v.here 0)
      (value_told v.told) (value_told (named name v).told) (values_named v.told)

  -- a card is claimed: by its number, or by its name, and then its number becomes known
  pub claim_named : (c : ℕ) (node : NewNode) (v : View) → FillingFits name (filling_of c node v)
      → named name (after_claim true c node v) ≡ numbered c (unread (after_claim true (name c) node (named name v)))
  claim_named c node v fits =
      (λ t. claimed_by (sym tag t) (told_filling_named c (filling_of c node v) v.told t) (words_named (expected_tag v) (filling_of c node v) fits t))
      ∙ (λ t. claimed_by (expected_tag (named name v)) (told_filling (name c) (card_filling_named c node v t) (named name v).told)
      (tagged (sym tag t) (card_filling_named c node v t)))
    where
      tag : expected_tag (named name v) ≡ expected_tag v
      tag = tag_named v.worker.operation v.worker.search.parent v.worker.search.grandparent

      claimed_by : ℕ → List Told → List (Field × ℕ) → View
      claimed_by tag told planned =
          record (numbered c (unread (after_claim true (name c) node (named name v)))) { told = Expects (name c) tag ∷ told; planned = planned }
