use Rattle.std.proofs.Common.{◌≡◌, ℕ, ◌+◌, ◌<◌, ◌%◌, ◌^◌, if◌then◌else◌, nat_lt, min, max, Bool, true, true≢false, List, [], ◌∷◌, Some, refl, sym, ◌∙◌, ap, subst, arith}
use Rattle.ell_layout.specs.declared.field.Field.{Field}
use Rattle.ell_layout.specs.declared.field.Field.TheVariants as field
use Rattle.ell_word.specs.declared.link.Link.{Link}
use Rattle.ell_word.specs.Link.{IsLink, linked, tag_unit}
use Rattle.ell_layout.specs.Cards.{clean, stored, put_filling, left_of_card, right_of_card, delete_filling}
use Rattle.ell_runs.specs.declared.view.View.{View}
use Rattle.ell_cards.specs.Models.{KeepsItsOwn, PassModel, Steps}
use Rattle.ell_runs.specs.Views.{Has, latest, earlier, stored_at}
use Rattle.ell_runs.specs.Sayings.{put_says, delete_says}
use Rattle.ell_cards.specs.Shown.{shown_words}
use Rattle.ell_cards.specs.Stepping.{IsWholeIn}
use Rattle.ell_runs.specs.Changes.{after_fill, tagged, with_stores}
use Rattle.ell_cards.proofs.lemmas.views.Steps.{own_same, own_step, own_trans, view_after}
use Rattle.ell_tree.specs.Counts.{Took}
use Rattle.ell_tree.specs.Tries.{Fills}
use Rattle.ell_tree.proofs.lemmas.Counts.{took_none, took_one, took_trans}

-- these words of the card in hand were stored in so many steps, and nothing else was done
pub record Stores (old new : PassModel) (stores : List (Field × ℕ)) (n : ℕ) : Type 0 where
  pub own : KeepsItsOwn old new
  pub sight : new.sight ≡ old.sight
  pub slot : new.memory.slot ≡ old.memory.slot
  pub took : Took old new n
  pub view : new.view ≡ with_stores stores old.view

-- none at first
pub stores_none : (a : PassModel) → a.view.stores ≡ [] → Stores a a [] 0
stores_none a empty = record {
  own = own_same a;
  sight = refl;
  slot = refl;
  took = took_none a 0;
  view = ap (λ es. record (a.view) { stores = es }) empty;
}

-- and one more with each step
pub stores_more : (a b d : PassModel) (stores : List (Field × ℕ)) (n : ℕ) (f : Field) (x : ℕ) → Stores a b stores n → Steps b d (after_fill f x b.view)
    → Stores a d ((f, x) ∷ stores) (n + 1)
stores_more a b d stores n f x h s = record {
  own = own_trans a b d h.own (own_step b d s);
  sight = ap (λ (p : PassModel). p.sight) s ∙ h.sight;
  slot = ap (λ (p : PassModel). p.memory.slot) s ∙ h.slot;
  took = took_trans a b d n 1 (n + 1) h.took (subst (λ (p : PassModel). Took b p 1) (sym s) (took_one b (after_fill f x b.view) refl)) (omega arith);
  view = view_after b d (after_fill f x b.view) s ∙ ap (after_fill f x) h.view;
}

-- what was stored of a card of which each field that is said was
stores_whole : (a b : PassModel) (c n : ℕ) (stores : List (Field × ℕ)) (said : Field → Bool) → a.memory.slot ≡ Some c → Stores a b stores n
    → ((f : Field) → said f ≡ true → (x : ℕ) × Has stores (f, x)) → IsWholeIn b c said
stores_whole a b c n stores said slot h each =
    (h.slot ∙ slot, λ f is. subst (λ (es : List (Field × ℕ)). (x : ℕ) × Has es (f, x)) (sym (ap (λ (v : View). v.stores) h.view)) (each f is))

-- what is stored of an insert's card
abbrev pub insert_words : ℕ → ℕ → ℕ → ℕ → ℕ → ℕ → ℕ → ℕ → ℕ → ℕ → List (Field × ℕ)
insert_words parent below node_key lesser greater left right update left_value right_value =
    (field.RightValue, right_value) ∷ (field.LeftValue, left_value) ∷ (field.RightLeafKey, greater) ∷ (field.LeftLeafKey, lesser)
    ∷ (field.Update, update) ∷ (field.Right, right) ∷ (field.Left, left) ∷ (field.Key, node_key) ∷ (field.L, below) ∷ (field.P, parent) ∷ []

-- a node in 38 bits is its own low bits
pub low_node : (x : ℕ) → x < tag_unit → x % tag_unit ≡ x
low_node x small = omega (arith, small)

-- the number of a link that has a word is that word
pub whole_word : (l : Link) → IsLink l → linked l % 2 ^ 64 ≡ linked l
whole_word l small = let node = small.node in let tag = small.tag in omega (arith, node, tag)

-- what a child word holds of a node with tag 0
abbrev pub bare : ℕ → ℕ
bare node = linked (record { node = node; tag = 0 }) % 2 ^ 64

-- it is what the card is to say
stored_of_insert : (flat : Bool) (c k value node_key parent below tag below_key below_value : ℕ) → parent < tag_unit → IsLink (record { node = below; tag = tag }) → (f : Field)
    → stored_at (insert_words parent (linked (record { node = below; tag = tag })) node_key (min k below_key) (max k below_key) (bare (left_of_card flat c k below below_key))
    (bare (right_of_card flat c k below below_key)) (clean 0) (if nat_lt k below_key then value else below_value) (if nat_lt k below_key then below_value else value)) f
    ≡ stored (shown_words (tagged tag (put_filling flat c k value node_key parent below below_key below_value))) f 0
stored_of_insert flat c k value node_key parent below tag below_key below_value small link field.Gp = refl
stored_of_insert flat c k value node_key parent below tag below_key below_value small link field.P = sym (low_node parent small)
stored_of_insert flat c k value node_key parent below tag below_key below_value small link field.L = sym (whole_word (record { node = below; tag = tag }) link)
stored_of_insert flat c k value node_key parent below tag below_key below_value small link field.Was = refl
stored_of_insert flat c k value node_key parent below tag below_key below_value small link field.Key = refl
stored_of_insert flat c k value node_key parent below tag below_key below_value small link field.Left = refl
stored_of_insert flat c k value node_key parent below tag below_key below_value small link field.Right = refl
stored_of_insert flat c k value node_key parent below tag below_key below_value small link field.Update = refl
stored_of_insert flat c k value node_key parent below tag below_key below_value small link field.LeftLeafKey = refl
stored_of_insert flat c k value node_key parent below tag below_key below_value small link field.RightLeafKey = refl
stored_of_insert flat c k value node_key parent below tag below_key below_value small link field.LeftValue = refl
stored_of_insert flat c k value node_key parent below tag below_key below_value small link field.RightValue = refl

-- a card of which all that it is to say was stored is filled
fills : (a b : PassModel) (n : ℕ) (stores says : List (Field × ℕ)) → Stores a b stores n → a.view.planned ≡ says
    → ((f : Field) → stored_at stores f ≡ stored says f 0) → Fills a b n
fills a b n stores says h planned same =
    let filled = ap (λ (v : View). v.stores) h.view in
    let filling = ap (λ (v : View). v.planned) h.view ∙ planned in record {
      own = h.own;
      sight = h.sight;
      slot = h.slot;
      took = h.took;
      view = h.view ∙ ap (λ es. with_stores es a.view) (sym filled);
      filled = λ f. ap (λ es. stored_at es f) filled ∙ (same f ∙ ap (λ es. stored es f 0) (sym filling));
    }

-- all that an insert's card says is among it
said_of_insert : (parent word node_key lesser greater left right update left_value right_value : ℕ) (f : Field) → put_says f ≡ true
    → (x : ℕ) × Has (insert_words parent word node_key lesser greater left right update left_value right_value) (f, x)
said_of_insert parent word node_key lesser greater left right update left_value right_value field.Gp is = absurd (true≢false (sym is))
said_of_insert parent word node_key lesser greater left right update left_value right_value field.Was is = absurd (true≢false (sym is))
said_of_insert parent word node_key lesser greater left right update left_value right_value field.RightValue is = (right_value, latest _ _)
said_of_insert parent word node_key lesser greater left right update left_value right_value field.LeftValue is = (left_value, earlier _ _ _ (latest _ _))
said_of_insert parent word node_key lesser greater left right update left_value right_value field.RightLeafKey is = (greater, earlier _ _ _ (earlier _ _ _ (latest _ _)))
said_of_insert parent word node_key lesser greater left right update left_value right_value field.LeftLeafKey is = (lesser, earlier _ _ _ (earlier _ _ _ (earlier _ _ _ (latest _ _))))
said_of_insert parent word node_key lesser greater left right update left_value right_value field.Update is = (update, earlier _ _ _ (earlier _ _ _ (earlier _ _ _ (earlier _ _ _ (latest _ _)))))
said_of_insert parent word node_key lesser greater left right update left_value right_value field.Right is = (right, earlier _ _ _ (earlier _ _ _ (earlier _ _ _ (earlier _ _ _ (earlier _ _ _ (latest _ _))))))
said_of_insert parent word node_key lesser greater left right update left_value right_value field.Left is = (left, earlier _ _ _ (earlier _ _ _ (earlier _ _ _ (earlier _ _ _ (earlier _ _ _ (earlier _ _ _ (latest _ _)))))))
said_of_insert parent word node_key lesser greater left right update left_value right_value field.Key is = (node_key, earlier _ _ _ (earlier _ _ _ (earlier _ _ _ (earlier _ _ _ (earlier _ _ _ (earlier _ _ _ (earlier _ _ _ (latest _ _))))))))
said_of_insert parent word node_key lesser greater left right update left_value right_value field.L is = (word, earlier _ _ _ (earlier _ _ _ (earlier _ _ _ (earlier _ _ _ (earlier _ _ _ (earlier _ _ _ (earlier _ _ _ (earlier _ _ _ (latest _ _)))))))))
said_of_insert parent word node_key lesser greater left right update left_value right_value field.P is = (parent, earlier _ _ _ (earlier _ _ _ (earlier _ _ _ (earlier _ _ _ (earlier _ _ _ (earlier _ _ _ (earlier _ _ _ (earlier _ _ _ (earlier _ _ _ (latest _ _))))))))))

-- an insert's card is filled by ten stores
module _ (a b : PassModel) (parent word node_key lesser greater left right update left_value right_value : ℕ)
    (h : Stores a b (insert_words parent word node_key lesser greater left right update left_value right_value) 10) where
  pub fills_insert : (flat : Bool) (c k value below tag below_key below_value : ℕ) → parent < tag_unit → IsLink (record { node = below; tag = tag })
      → a.view.planned ≡ shown_words (tagged tag (put_filling flat c k value node_key parent below below_key below_value))
      → word ≡ linked (record { node = below; tag = tag })
      → lesser ≡ min k below_key → greater ≡ max k below_key → left ≡ bare (left_of_card flat c k below below_key) → right ≡ bare (right_of_card flat c k below below_key) → update ≡ clean 0
      → left_value ≡ (if nat_lt k below_key then value else below_value) → right_value ≡ (if nat_lt k below_key then below_value else value)
      → Fills a b 10
  fills_insert flat c k value below tag below_key below_value small link says w low high l r u lv rv =
      fills a b 10 _ (shown_words (tagged tag (put_filling flat c k value node_key parent below below_key below_value))) h says
      (λ f. (λ t. stored_at (insert_words parent (w t) node_key (low t) (high t) (l t) (r t) (u t) (lv t) (rv t)) f)
      ∙ stored_of_insert flat c k value node_key parent below tag below_key below_value small link f)

  -- and then it is whole
  pub whole_insert : (c : ℕ) → a.memory.slot ≡ Some c → IsWholeIn b c put_says
  whole_insert c slot = stores_whole a b c 10 _ put_says slot h (said_of_insert parent word node_key lesser greater left right update left_value right_value)

-- what is stored of a delete's card is what it is to say
abbrev pub delete_words : ℕ → ℕ → ℕ → ℕ → List (Field × ℕ)
delete_words grandparent parent leaf was = (field.Was, was) ∷ (field.L, leaf) ∷ (field.P, parent) ∷ (field.Gp, grandparent) ∷ []

stored_of_delete : (grandparent parent leaf tag was : ℕ) → grandparent < tag_unit → parent < tag_unit → IsLink (record { node = leaf; tag = tag }) → (f : Field)
    → stored_at (delete_words grandparent parent (linked (record { node = leaf; tag = tag })) was) f
    ≡ stored (shown_words (tagged tag (delete_filling grandparent parent leaf was))) f 0
stored_of_delete grandparent parent leaf tag was high small link field.Gp = sym (low_node grandparent high)
stored_of_delete grandparent parent leaf tag was high small link field.P = sym (low_node parent small)
stored_of_delete grandparent parent leaf tag was high small link field.L = sym (whole_word (record { node = leaf; tag = tag }) link)
stored_of_delete grandparent parent leaf tag was high small link field.Was = refl
stored_of_delete grandparent parent leaf tag was high small link field.Key = refl
stored_of_delete grandparent parent leaf tag was high small link field.Left = refl
stored_of_delete grandparent parent leaf tag was high small link field.Right = refl
stored_of_delete grandparent parent leaf tag was high small link field.Update = refl
stored_of_delete grandparent parent leaf tag was high small link field.LeftLeafKey = refl
stored_of_delete grandparent parent leaf tag was high small link field.RightLeafKey = refl
stored_of_delete grandparent parent leaf tag was high small link field.LeftValue = refl
stored_of_delete grandparent parent leaf tag was high small link field.RightValue = refl

-- all that a delete's card says is among it
said_of_delete : (grandparent parent leaf was : ℕ) (f : Field) → delete_says f ≡ true → (x : ℕ) × Has (delete_words grandparent parent leaf was) (f, x)
said_of_delete grandparent parent leaf was field.Was is = (was, latest _ _)
said_of_delete grandparent parent leaf was field.L is = (leaf, earlier _ _ _ (latest _ _))
said_of_delete grandparent parent leaf was field.P is = (parent, earlier _ _ _ (earlier _ _ _ (latest _ _)))
said_of_delete grandparent parent leaf was field.Gp is = (grandparent, earlier _ _ _ (earlier _ _ _ (earlier _ _ _ (latest _ _))))
said_of_delete grandparent parent leaf was field.Key is = absurd (true≢false (sym is))
said_of_delete grandparent parent leaf was field.Left is = absurd (true≢false (sym is))
said_of_delete grandparent parent leaf was field.Right is = absurd (true≢false (sym is))
said_of_delete grandparent parent leaf was field.Update is = absurd (true≢false (sym is))
said_of_delete grandparent parent leaf was field.LeftLeafKey is = absurd (true≢false (sym is))
said_of_delete grandparent parent leaf was field.RightLeafKey is = absurd (true≢false (sym is))
said_of_delete grandparent parent leaf was field.LeftValue is = absurd (true≢false (sym is))
said_of_delete grandparent parent leaf was field.RightValue is = absurd (true≢false (sym is))

-- it is filled by four stores
module _ (a b : PassModel) (grandparent parent word was : ℕ) (h : Stores a b (delete_words grandparent parent word was) 4) where
  pub fills_delete : (leaf tag read : ℕ) → grandparent < tag_unit → parent < tag_unit → IsLink (record { node = leaf; tag = tag })
      → a.view.planned ≡ shown_words (tagged tag (delete_filling grandparent parent leaf read))
      → word ≡ linked (record { node = leaf; tag = tag }) → was ≡ read → Fills a b 4
  fills_delete leaf tag read high small link says w r =
      fills a b 4 _ (shown_words (tagged tag (delete_filling grandparent parent leaf read))) h says
      (λ f. (λ t. stored_at (delete_words grandparent parent (w t) (r t)) f) ∙ stored_of_delete grandparent parent leaf tag read high small link f)

  -- and then it is whole
  pub whole_delete : (c : ℕ) → a.memory.slot ≡ Some c → IsWholeIn b c delete_says
  whole_delete c slot = stores_whole a b c 4 _ delete_says slot h (said_of_delete grandparent parent word was)
