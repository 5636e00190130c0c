-- What is shown of the words that a card in hand has, or is to have.
use Rattle.std.proofs.Common.{◌≡◌, ℕ, ◌==◌, ◌&&◌, nat_le, nat_lt, min, max, if◌then◌else◌, map, Bool, true, false, Option, Some, None, List, [], ◌∷◌, refl, sym, ap, ◌∙◌, eqb-true, unwrap_or, ◌||◌}
use Rattle.std.specs.Option.{option_map}
use Rattle.ell_ops.specs.declared.op.Op.{Op}
use Rattle.ell_ops.specs.declared.op.Op.TheVariants.{Find, Insert, Delete, Swap}
use Rattle.ell_word.specs.Link.{linked}
use Rattle.ell_word.specs.Node.{left_leaf, right_leaf}
use Rattle.ell_layout.specs.declared.field.Field.{Field}
use Rattle.ell_layout.specs.declared.field.Field.TheVariants as field
use Rattle.ell_layout.specs.Layout.{place}
use Rattle.ell_layout.specs.Cards.{clean, stored, tagged_for, left_of_card, right_of_card, put_filling, delete_filling, stays_below}
use Rattle.ell_layout.proofs.lemmas.Listed.{same_place-field}
use Rattle.ell_core.specs.declared.view.Seen.{Seen}
use Rattle.ell_core.specs.statements.Told.{is_fixed}
use Rattle.ell_runs.specs.declared.view.Told.{Told}
use Rattle.ell_runs.specs.declared.view.Told.TheVariants.{Value, Info}
use Rattle.ell_runs.specs.declared.view.View.{View}
use Rattle.ell_cards.specs.Apart.{cut_node, IsApart}
use Rattle.ell_runs.specs.Plans.{TablePlan}
use Rattle.ell_runs.specs.Views.{stored_at}
use Rattle.ell_runs.specs.Changes.{filling_for, filling_of, tagged, tag_of_claim, expected_tag, told_filling, value_told}
use Rattle.ell_cards.specs.Shown.{cut_tag, shown_info, shown_seen, shown_told, shown_word, shown_words, shown}
use Rattle.ell_cards.proofs.lemmas.shown.CutWords.{cut_linked, node_again, node_place, tag_again}
use Rattle.ell_cards.proofs.lemmas.shown.ShownTold.{value_shown}
use Rattle.ell_runs.specs.declared.call.NewNode.{NewNode}

-- no word is shown as no word
nothing_shown : (f : Field) → 0 ≡ shown_word f 0
nothing_shown field.Gp = refl
nothing_shown field.P = refl
nothing_shown field.L = refl
nothing_shown field.Left = refl
nothing_shown field.Right = refl
nothing_shown _ = refl

-- a word that is shown for a field is shown so for the field of its place
placed : (f g : Field) (x other : ℕ) (b : Bool) → (place f == place g) ≡ b
    → (if b then shown_word f x else shown_word g other) ≡ shown_word g (if b then x else other)
placed f g x other true same = ap (λ h. shown_word h x) (same_place-field f g (eqb-true (place f) (place g) same))
placed f g x other false same = refl

-- what was stored in a field, and what is to be stored there
pub stored_at_shown : (stores : List (Field × ℕ)) (f : Field) → stored_at (shown_words stores) f ≡ shown_word f (stored_at stores f)
stored_at_shown [] f = nothing_shown f
stored_at_shown (e ∷ es) f =
    ap (λ x. if place e.0 == place f then shown_word e.0 e.1 else x) (stored_at_shown es f)
    ∙ placed e.0 f e.1 (stored_at es f) (place e.0 == place f) refl

planned_for : (words : List (Field × ℕ)) (f : Field) (old : ℕ) → stored (shown_words words) f (shown_word f old) ≡ shown_word f (stored words f old)
planned_for [] f old = refl
planned_for (e ∷ es) f old =
    ap (stored (shown_words es) f) (placed e.0 f e.1 old (place e.0 == place f) refl)
    ∙ planned_for es f (if place e.0 == place f then e.1 else old)

pub planned_shown : (words : List (Field × ℕ)) (f : Field) → stored (shown_words words) f 0 ≡ shown_word f (stored words f 0)
planned_shown words f = ap (stored (shown_words words) f) (nothing_shown f) ∙ planned_for words f 0

-- the words of what fills a card are shown alike where what fills it has the same nodes once they are cut
tagged_alike : (f : Field) (tag tag' x y : ℕ) → cut_tag tag ≡ cut_tag tag' → shown_info f x ≡ shown_info f y
    → shown_word f (tagged_for f tag x) ≡ shown_word f (tagged_for f tag' y)
tagged_alike field.L tag tag' x y tags same =
    cut_linked x tag ∙ ((λ t. linked (record { node = same t; tag = tags t })) ∙ sym (cut_linked y tag'))
tagged_alike field.Left tag tag' x y tags same =
    cut_linked x 0 ∙ ((λ t. linked (record { node = same t; tag = 0 })) ∙ sym (cut_linked y 0))
tagged_alike field.Right tag tag' x y tags same =
    cut_linked x 0 ∙ ((λ t. linked (record { node = same t; tag = 0 })) ∙ sym (cut_linked y 0))
tagged_alike field.Gp tag tag' x y tags same = same
tagged_alike field.P tag tag' x y tags same = same
tagged_alike field.Was tag tag' x y tags same = same
tagged_alike field.Key tag tag' x y tags same = same
tagged_alike field.Update tag tag' x y tags same = same
tagged_alike field.LeftLeafKey tag tag' x y tags same = same
tagged_alike field.RightLeafKey tag tag' x y tags same = same
tagged_alike field.LeftValue tag tag' x y tags same = same
tagged_alike field.RightValue tag tag' x y tags same = same

-- what fills a card, with its nodes cut
abbrev pub shown_filling : List (Field × ℕ) → List (Field × ℕ)
shown_filling es = map (λ e. (e.0, shown_info e.0 e.1)) es

-- the children of a card's node are cut to the same, whether the node below it was cut or not
left_alike : (flat : Bool) (c k below key : ℕ) → cut_node (left_of_card flat c k below key) ≡ cut_node (left_of_card flat c k (cut_node below) key)
left_alike flat c k below key = by (stays_below flat below && nat_le key k) ∙ ap (λ p. cut_node (if (flat || p == 0) && nat_le key k then cut_node below else left_leaf c)) (sym (node_place below))
  where
    by : (b : Bool) → cut_node (if b then below else left_leaf c) ≡ cut_node (if b then cut_node below else left_leaf c)
    by true = sym (node_again below)
    by false = refl

right_alike : (flat : Bool) (c k below key : ℕ) → cut_node (right_of_card flat c k below key) ≡ cut_node (right_of_card flat c k (cut_node below) key)
right_alike flat c k below key = by (stays_below flat below && nat_lt k key) ∙ ap (λ p. cut_node (if (flat || p == 0) && nat_lt k key then cut_node below else right_leaf c)) (sym (node_place below))
  where
    by : (b : Bool) → cut_node (if b then below else right_leaf c) ≡ cut_node (if b then cut_node below else right_leaf c)
    by true = sym (node_again below)
    by false = refl

-- so the words of an insert's card are shown alike, and those of a delete's
put_alike : (flat : Bool) (c k value node_key parent below key there there' tag : ℕ) → there ≡ there'
    → shown_words (tagged tag (put_filling flat c k value node_key parent below key there))
    ≡ shown_words (tagged (cut_tag tag) (put_filling flat c k value node_key (cut_node parent) (cut_node below) key there'))
put_alike flat c k value node_key parent below key there there' tag same = λ t.
    (field.P, sym (node_again parent) t) ∷ (field.L, leaf t) ∷ (field.Key, node_key) ∷ (field.Left, left t) ∷ (field.Right, right t) ∷ (field.Update, clean 0)
    ∷ (field.LeftLeafKey, min k key) ∷ (field.RightLeafKey, max k key)
    ∷ (field.LeftValue, (if nat_lt k key then value else same t)) ∷ (field.RightValue, (if nat_lt k key then same t else value)) ∷ []
  where
    leaf : shown_word field.L (tagged_for field.L tag below) ≡ shown_word field.L (tagged_for field.L (cut_tag tag) (cut_node below))
    leaf = tagged_alike field.L tag (cut_tag tag) below (cut_node below) (sym (tag_again tag)) (sym (node_again below))

    left : shown_word field.Left (tagged_for field.Left tag (left_of_card flat c k below key)) ≡ shown_word field.Left (tagged_for field.Left (cut_tag tag) (left_of_card flat c k (cut_node below) key))
    left = tagged_alike field.Left tag (cut_tag tag) (left_of_card flat c k below key) (left_of_card flat c k (cut_node below) key) (sym (tag_again tag)) (left_alike flat c k below key)

    right : shown_word field.Right (tagged_for field.Right tag (right_of_card flat c k below key)) ≡ shown_word field.Right (tagged_for field.Right (cut_tag tag) (right_of_card flat c k (cut_node below) key))
    right = tagged_alike field.Right tag (cut_tag tag) (right_of_card flat c k below key) (right_of_card flat c k (cut_node below) key) (sym (tag_again tag)) (right_alike flat c k below key)

delete_alike : (above parent leaf was tag : ℕ) → shown_words (tagged tag (delete_filling above parent leaf was))
    ≡ shown_words (tagged (cut_tag tag) (delete_filling (cut_node above) (cut_node parent) (cut_node leaf) was))
delete_alike above parent leaf was tag = λ t.
    (field.Gp, sym (node_again above) t) ∷ (field.P, sym (node_again parent) t)
    ∷ (field.L, tagged_alike field.L tag (cut_tag tag) leaf (cut_node leaf) (sym (tag_again tag)) (sym (node_again leaf)) t) ∷ (field.Was, was) ∷ []

-- what a claim plans
planned_alike : (c : ℕ) (node : NewNode) (op : Option Op) (lower : Option ℕ) (parent above : Option Seen) (key tag : ℕ) (value_of value_of' : ℕ → ℕ)
    → ((x : ℕ) → lower ≡ Some x → value_of x ≡ value_of' (cut_node x))
    → shown_words (tagged tag (filling_for c node op lower parent above key value_of))
    ≡ shown_words (tagged (cut_tag tag) (filling_for c node op (option_map cut_node lower) (option_map shown_seen parent) (option_map shown_seen above) key value_of'))
planned_alike c node (Some (Insert k value)) (Some below) (Some parent) above key tag value_of value_of' same =
    put_alike node.flat c k value node.key parent.node below key (value_of below) (value_of' (cut_node below)) tag (same below refl)
planned_alike c node (Some (Swap k was value)) (Some below) (Some parent) above key tag value_of value_of' same =
    put_alike node.flat c k value node.key parent.node below key (value_of below) (value_of' (cut_node below)) tag (same below refl)
planned_alike c node (Some (Delete k)) (Some leaf) (Some parent) (Some above) key tag value_of value_of' same =
    delete_alike above.node parent.node leaf parent.word tag
planned_alike c node (Some (Delete k)) (Some leaf) (Some parent) None key tag value_of value_of' same = refl
planned_alike c node (Some (Delete k)) (Some leaf) None above key tag value_of value_of' same = refl
planned_alike c node (Some (Delete k)) None parent above key tag value_of value_of' same = refl
planned_alike c node (Some (Insert k value)) (Some below) None above key tag value_of value_of' same = refl
planned_alike c node (Some (Insert k value)) None parent above key tag value_of value_of' same = refl
planned_alike c node (Some (Swap k was value)) (Some below) None above key tag value_of value_of' same = refl
planned_alike c node (Some (Swap k was value)) None parent above key tag value_of value_of' same = refl
planned_alike c node (Some (Find k)) lower parent above key tag value_of value_of' same = refl
planned_alike c node None lower parent above key tag value_of value_of' same = refl

-- and the tag that a card is to expect is cut
tag_cut : (op : Option Op) (parent above : Option Seen)
    → tag_of_claim op (option_map shown_seen parent) (option_map shown_seen above) ≡ cut_tag (tag_of_claim op parent above)
tag_cut (Some (Delete k)) parent (Some above) = refl
tag_cut _ (Some parent) above = refl
tag_cut _ None above = refl

pub tag_shown : (v : View) → expected_tag (shown v) ≡ cut_tag (expected_tag v)
tag_shown v = tag_cut v.worker.operation v.worker.search.parent v.worker.search.grandparent

-- the value that was told of the leaf where a pass stands
pub value_here : (plan : TablePlan) (v : View) → IsApart plan v → (x : ℕ) → v.worker.search.node ≡ Some x → value_told v.told x ≡ value_told (shown v).told (cut_node x)
value_here plan v apart x at =
    sym (value_shown v.told x (λ y value has same. apart.met y x (apart.names.entries (Value y value) has) (apart.names.node x at) same))

pub planned_shown_alike : (plan : TablePlan) (c : ℕ) (node : NewNode) (v : View) → IsApart plan v
    → shown_words (tagged (expected_tag v) (filling_of c node v)) ≡ shown_words (tagged (expected_tag (shown v)) (filling_of c node (shown v)))
planned_shown_alike plan c node v apart =
    planned_alike c node v.worker.operation v.worker.search.node v.worker.search.parent v.worker.search.grandparent (unwrap_or v.here 0) (expected_tag v)
    (value_told v.told) (value_told (shown v).told) (value_here plan v apart)
    ∙ ap (λ tag. shown_words (tagged tag (filling_of c node (shown v)))) (sym (tag_shown v))

-- what is told of a card when it is claimed
pub told_filling_shown : (c : ℕ) (es : List (Field × ℕ)) (told : List Told)
    → map shown_told (told_filling c es told) ≡ told_filling c (shown_filling es) (map shown_told told)
told_filling_shown c [] told = refl
told_filling_shown c (e ∷ es) told =
    by (is_fixed e.0) ∙ ap (λ ts. if is_fixed e.0 then Info c e.0 (shown_info e.0 e.1) ∷ ts else ts) (told_filling_shown c es told)
  where
    by : (b : Bool) → map shown_told (if b then Info c e.0 e.1 ∷ told_filling c es told else told_filling c es told)
        ≡ (if b then Info c e.0 (shown_info e.0 e.1) ∷ map shown_told (told_filling c es told) else map shown_told (told_filling c es told))
    by true = refl
    by false = refl

-- that is so of the fields that never change: in them no card's own node stands
told_put : (flat : Bool) (c k value node_key parent below key there there' : ℕ) (told : List Told) → there ≡ there'
    → told_filling c (shown_filling (put_filling flat c k value node_key parent below key there)) told
    ≡ told_filling c (put_filling flat c k value node_key (cut_node parent) (cut_node below) key there') told
told_put flat c k value node_key parent below key there there' told same =
    ap (λ x. told_filling c (put_filling flat c k value node_key (cut_node parent) (cut_node below) key x) told) same

told_alike : (c : ℕ) (node : NewNode) (op : Option Op) (lower : Option ℕ) (parent above : Option Seen) (key : ℕ) (value_of value_of' : ℕ → ℕ) (told : List Told)
    → ((x : ℕ) → lower ≡ Some x → value_of x ≡ value_of' (cut_node x))
    → told_filling c (shown_filling (filling_for c node op lower parent above key value_of)) told
    ≡ told_filling c (filling_for c node op (option_map cut_node lower) (option_map shown_seen parent) (option_map shown_seen above) key value_of') told
told_alike c node (Some (Insert k value)) (Some below) (Some parent) above key value_of value_of' told same =
    told_put node.flat c k value node.key parent.node below key (value_of below) (value_of' (cut_node below)) told (same below refl)
told_alike c node (Some (Swap k was value)) (Some below) (Some parent) above key value_of value_of' told same =
    told_put node.flat c k value node.key parent.node below key (value_of below) (value_of' (cut_node below)) told (same below refl)
told_alike c node (Some (Delete k)) (Some leaf) (Some parent) (Some above) key value_of value_of' told same = refl
told_alike c node (Some (Delete k)) (Some leaf) (Some parent) None key value_of value_of' told same = refl
told_alike c node (Some (Delete k)) (Some leaf) None above key value_of value_of' told same = refl
told_alike c node (Some (Delete k)) None parent above key value_of value_of' told same = refl
told_alike c node (Some (Insert k value)) (Some below) None above key value_of value_of' told same = refl
told_alike c node (Some (Insert k value)) None parent above key value_of value_of' told same = refl
told_alike c node (Some (Swap k was value)) (Some below) None above key value_of value_of' told same = refl
told_alike c node (Some (Swap k was value)) None parent above key value_of value_of' told same = refl
told_alike c node (Some (Find k)) lower parent above key value_of value_of' told same = refl
told_alike c node None lower parent above key value_of value_of' told same = refl

pub told_of_claim : (plan : TablePlan) (c : ℕ) (node : NewNode) (v : View) → IsApart plan v
    → map shown_told (told_filling c (filling_of c node v) v.told) ≡ told_filling c (filling_of c node (shown v)) (shown v).told
told_of_claim plan c node v apart =
    told_filling_shown c (filling_of c node v) v.told
    ∙ told_alike c node v.worker.operation v.worker.search.node v.worker.search.parent v.worker.search.grandparent (unwrap_or v.here 0)
    (value_told v.told) (value_told (shown v).told) (map shown_told v.told) (value_here plan v apart)
