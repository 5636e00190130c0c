use Rattle.std.proofs.Common.{◌≡◌, ◌≢◌, ℕ, ◌+◌, Bool, true, false, List, [], ◌∷◌, min, max, nat_lt, if◌then◌else◌, refl, ap, ◌∙◌, arith}
use Rattle.ell_word.specs.Node.{card, internal, left_leaf, right_leaf}
use Rattle.ell_layout.specs.declared.field.Field.{Field}
use Rattle.ell_layout.specs.declared.field.Field.TheVariants.{Gp, P, L, Was, Key, Left, Right, Update, LeftLeafKey, RightLeafKey, LeftValue, RightValue}
use Rattle.ell_layout.specs.Words.{Words, put, put_side, written, word}
use Rattle.ell_layout.specs.Cards.{filled, claimed, clean, left_of_card, right_of_card, put_filling, delete_filling}
use Rattle.ell_core.specs.history.Later.{SaysTheSame}
use Rattle.ell_layout.proofs.lemmas.Writes.{put_same, put_other}
use Rattle.ell_layout.proofs.lemmas.NewWords.{filled_flat}

-- words that differ at most at the words of card c
pub record SameElsewhere (old new : Words) (c : ℕ) : Type 0 where
  pub gp : (d : ℕ) → d ≢ c → new.gp d ≡ old.gp d
  pub p : (d : ℕ) → d ≢ c → new.p d ≡ old.p d
  pub l : (d : ℕ) → d ≢ c → new.l d ≡ old.l d
  pub expects : (d : ℕ) → d ≢ c → new.expects d ≡ old.expects d
  pub was : (d : ℕ) → d ≢ c → new.was d ≡ old.was d
  pub key : (x : ℕ) → card x ≢ c → new.key x ≡ old.key x
  pub value : (x : ℕ) → card x ≢ c → new.value x ≡ old.value x
  pub child : (x : ℕ) (right : Bool) → x ≢ internal c → new.child x right ≡ old.child x right
  pub tag : (x : ℕ) (right : Bool) → x ≢ internal c → new.tag x right ≡ old.tag x right
  pub update : (x : ℕ) → x ≢ internal c → new.update x ≡ old.update x

module _ (w : Words) (c : ℕ) where
  -- a write leaves the grandparents of the other cards
  other_gp : (field : Field) (v d : ℕ) → d ≢ c → (written w c field v).gp d ≡ w.gp d
  other_gp Gp v d n = put_other w.gp c v d n
  other_gp _ v d n = refl

  -- their parents
  other_p : (field : Field) (v d : ℕ) → d ≢ c → (written w c field v).p d ≡ w.p d
  other_p P v d n = put_other w.p c v d n
  other_p _ v d n = refl

  -- their leaves
  other_l : (field : Field) (v d : ℕ) → d ≢ c → (written w c field v).l d ≡ w.l d
  other_l L v d n = put_other w.l c v d n
  other_l _ v d n = refl

  -- the words that they read
  other_was : (field : Field) (v d : ℕ) → d ≢ c → (written w c field v).was d ≡ w.was d
  other_was Was v d n = put_other w.was c v d n
  other_was _ v d n = refl

  -- the keys of their nodes
  other_key : (field : Field) (v x : ℕ) → card x ≢ c → (written w c field v).key x ≡ w.key x
  other_key Key v x n = put_other w.key (internal c) v x (λ e. n (omega arith))
  other_key LeftLeafKey v x n = put_other w.key (left_leaf c) v x (λ e. n (omega arith))
  other_key RightLeafKey v x n = put_other w.key (right_leaf c) v x (λ e. n (omega arith))
  other_key _ v x n = refl

  -- and their values
  other_value : (field : Field) (v x : ℕ) → card x ≢ c → (written w c field v).value x ≡ w.value x
  other_value LeftValue v x n = put_other w.value (left_leaf c) v x (λ e. n (omega arith))
  other_value RightValue v x n = put_other w.value (right_leaf c) v x (λ e. n (omega arith))
  other_value _ v x n = refl

  -- the children of other nodes
  other_child : (field : Field) (v x : ℕ) (right : Bool) → x ≢ internal c
      → (written w c field v).child x right ≡ w.child x right
  other_child Left v x right n = ap (λ f. f right)
      (put_other w.child (internal c) (put_side (w.child (internal c)) false v) x n)
  other_child Right v x right n = ap (λ f. f right)
      (put_other w.child (internal c) (put_side (w.child (internal c)) true v) x n)
  other_child _ v x right n = refl

  -- their tags
  other_tag : (field : Field) (v x : ℕ) (right : Bool) → x ≢ internal c
      → (written w c field v).tag x right ≡ w.tag x right
  other_tag Left v x right n = ap (λ f. f right)
      (put_other w.tag (internal c) (put_side (w.tag (internal c)) false 0) x n)
  other_tag Right v x right n = ap (λ f. f right)
      (put_other w.tag (internal c) (put_side (w.tag (internal c)) true 0) x n)
  other_tag _ v x right n = refl

  -- tags of the card's own node stay 0
  own_tag : (field : Field) (v : ℕ) → ((right : Bool) → w.tag (internal c) right ≡ 0)
      → (right : Bool) → (written w c field v).tag (internal c) right ≡ 0
  own_tag Left v none true = ap (λ f. f true) (put_same w.tag (internal c) (put_side (w.tag (internal c)) false 0)) ∙ none true
  own_tag Left v none false = ap (λ f. f false) (put_same w.tag (internal c) (put_side (w.tag (internal c)) false 0))
  own_tag Right v none true = ap (λ f. f true) (put_same w.tag (internal c) (put_side (w.tag (internal c)) true 0))
  own_tag Right v none false = ap (λ f. f false) (put_same w.tag (internal c) (put_side (w.tag (internal c)) true 0)) ∙ none false
  own_tag _ v none right = none right

  -- a write leaves the tags that cards expect
  same_expects : (field : Field) (v : ℕ) → (written w c field v).expects ≡ w.expects
  same_expects Left v = refl
  same_expects Right v = refl
  same_expects _ v = refl

  -- the update words of other nodes
  other_update : (field : Field) (v x : ℕ) → x ≢ internal c → (written w c field v).update x ≡ w.update x
  other_update Update v x n = put_other w.update (internal c) v x n
  other_update _ v x n = refl

-- a filling of a card leaves the words of the others
filled_others : (w : Words) (c : ℕ) (filling : List (Field × ℕ)) → SameElsewhere w (filled w c filling) c
filled_others w c [] = record {
  gp = λ d n. refl;
  p = λ d n. refl;
  l = λ d n. refl;
  expects = λ d n. refl;
  was = λ d n. refl;
  key = λ x n. refl;
  value = λ x n. refl;
  child = λ x right n. refl;
  tag = λ x right n. refl;
  update = λ x n. refl;
}
filled_others w c (e ∷ es) = let h = filled_others (written w c e.0 e.1) c es in record {
  gp = λ d n. h.gp d n ∙ other_gp w c e.0 e.1 d n;
  p = λ d n. h.p d n ∙ other_p w c e.0 e.1 d n;
  l = λ d n. h.l d n ∙ other_l w c e.0 e.1 d n;
  expects = λ d n. h.expects d n ∙ ap (λ f. f d) (same_expects w c e.0 e.1);
  was = λ d n. h.was d n ∙ other_was w c e.0 e.1 d n;
  key = λ x n. h.key x n ∙ other_key w c e.0 e.1 x n;
  value = λ x n. h.value x n ∙ other_value w c e.0 e.1 x n;
  child = λ x right n. h.child x right n ∙ other_child w c e.0 e.1 x right n;
  tag = λ x right n. h.tag x right n ∙ other_tag w c e.0 e.1 x right n;
  update = λ x n. h.update x n ∙ other_update w c e.0 e.1 x n;
}

-- tags of the card's own node stay 0
pub filled_tags : (w : Words) (c : ℕ) (filling : List (Field × ℕ)) → ((right : Bool) → w.tag (internal c) right ≡ 0)
    → (right : Bool) → (filled w c filling).tag (internal c) right ≡ 0
filled_tags w c [] none = none
filled_tags w c (e ∷ es) none = filled_tags (written w c e.0 e.1) c es (own_tag w c e.0 e.1 none)

-- each other card has the words that it had
others_words : (old new : Words) (c : ℕ) → SameElsewhere old new c → (d : ℕ) → d ≢ c → (field : Field) → word new d field ≡ word old d field
others_words old new c h d n Gp = h.gp d n
others_words old new c h d n P = h.p d n
others_words old new c h d n L = h.l d n
others_words old new c h d n Was = h.was d n
others_words old new c h d n Key = h.key (internal d) (λ e. n (omega arith))
others_words old new c h d n Left = h.child (internal d) false (λ e. n (omega arith))
others_words old new c h d n Right = h.child (internal d) true (λ e. n (omega arith))
others_words old new c h d n Update = h.update (internal d) (λ e. n (omega arith))
others_words old new c h d n LeftLeafKey = h.key (left_leaf d) (λ e. n (omega arith))
others_words old new c h d n RightLeafKey = h.key (right_leaf d) (λ e. n (omega arith))
others_words old new c h d n LeftValue = h.value (left_leaf d) (λ e. n (omega arith))
others_words old new c h d n RightValue = h.value (right_leaf d) (λ e. n (omega arith))

-- so it says what it said
pub others_say : (old new : Words) (c : ℕ) → SameElsewhere old new c → (d : ℕ) → d ≢ c → SaysTheSame old new d
others_say old new c h d n = record {
  words = others_words old new c h d n;
  expects = h.expects d n;
  tags = λ right. h.tag (internal d) right (λ e. n (omega arith));
}

-- the words after a claim of card c: it was the next one and is not any more, what is not on it is as it was, and tags of
-- its node that were 0 are 0; the tree is flat as it was
pub record Claims (old new : Words) (c : ℕ) : Type 0 where
  pub flat : new.flat_from ≡ old.flat_from
  pub before : old.next ≡ c
  pub after : new.next ≡ c + 1
  pub others : SameElsewhere old new c
  pub tags : ((right : Bool) → old.tag (internal c) right ≡ 0) → (right : Bool) → new.tag (internal c) right ≡ 0

-- a claim claims the next card
pub claimed_claims : (w : Words) (tag : ℕ) (filling : List (Field × ℕ)) → Claims w (claimed w tag filling) w.next
claimed_claims w tag filling = let h = filled_others w w.next filling in record {
  flat = filled_flat w w.next filling;
  before = refl;
  after = refl;
  others = record {
    gp = h.gp;
    p = h.p;
    l = h.l;
    expects = λ d n. put_other w.expects w.next tag d n;
    was = h.was;
    key = h.key;
    value = h.value;
    child = h.child;
    tag = h.tag;
    update = h.update;
  };
  tags = filled_tags w w.next filling;
}

-- what a card's words are after it was filled to put key k with its value above a node, where it expects a tag
pub record IsFilledPut (w : Words) (flat : Bool) (c tag k value node_key parent below below_key below_value : ℕ) : Type 0 where
  pub expects : w.expects c ≡ tag
  pub p : w.p c ≡ parent
  pub l : w.l c ≡ below
  pub key : w.key (internal c) ≡ node_key
  pub left_key : w.key (left_leaf c) ≡ min k below_key
  pub right_key : w.key (right_leaf c) ≡ max k below_key
  pub left_value : w.value (left_leaf c) ≡ (if nat_lt k below_key then value else below_value)
  pub right_value : w.value (right_leaf c) ≡ (if nat_lt k below_key then below_value else value)
  pub left : w.child (internal c) false ≡ left_of_card flat c k below below_key
  pub right : w.child (internal c) true ≡ right_of_card flat c k below below_key
  pub update : w.update (internal c) ≡ clean 0

-- keys put at the three nodes of a card
three_keys : (key : ℕ → ℕ) (c a b d : ℕ) (new : ℕ → ℕ)
    → new ≡ put (put (put key (internal c) a) (left_leaf c) b) (right_leaf c) d
    → (new (internal c) ≡ a) × (new (left_leaf c) ≡ b) × (new (right_leaf c) ≡ d)
three_keys key c a b d new e =
    let one = put key (internal c) a in
    let two = put one (left_leaf c) b in (
      ap (λ f. f (internal c)) e ∙ (put_other two (right_leaf c) d (internal c) (omega arith)
          ∙ (put_other one (left_leaf c) b (internal c) (omega arith) ∙ put_same key (internal c) a)),
      ap (λ f. f (left_leaf c)) e
          ∙ (put_other two (right_leaf c) d (left_leaf c) (omega arith) ∙ put_same one (left_leaf c) b),
      ap (λ f. f (right_leaf c)) e ∙ put_same two (right_leaf c) d,
    )

-- values put at the two leaves of a card
two_values : (value : ℕ → ℕ) (c a b : ℕ) (new : ℕ → ℕ) → new ≡ put (put value (left_leaf c) a) (right_leaf c) b
    → (new (left_leaf c) ≡ a) × (new (right_leaf c) ≡ b)
two_values value c a b new e =
    let one = put value (left_leaf c) a in (
      ap (λ f. f (left_leaf c)) e ∙ (put_other one (right_leaf c) b (left_leaf c) (omega arith) ∙ put_same value (left_leaf c) a),
      ap (λ f. f (right_leaf c)) e ∙ put_same one (right_leaf c) b,
    )

-- children put at both sides of a node
two_children : (child : ℕ → Bool → ℕ) (x a b : ℕ) (new : ℕ → Bool → ℕ)
    → new ≡ put (put child x (put_side (child x) false a)) x (put_side (put child x (put_side (child x) false a) x) true b)
    → (new x false ≡ a) × (new x true ≡ b)
two_children child x a b new e =
    let one = put child x (put_side (child x) false a) in
    let last = ap (λ f. f x) e ∙ put_same one x (put_side (one x) true b) in
    (ap (λ f. f false) last ∙ ap (λ f. f false) (put_same child x (put_side (child x) false a)), ap (λ f. f true) last)

-- a claim to put a key fills the next card for it
pub claimed_put : (w : Words) (flat : Bool) (tag k value node_key parent below below_key below_value : ℕ)
    → IsFilledPut (claimed w tag (put_filling flat w.next k value node_key parent below below_key below_value)) flat w.next
    tag k value node_key parent below below_key below_value
claimed_put w flat tag k value node_key parent below below_key below_value =
    let filling = put_filling flat w.next k value node_key parent below below_key below_value in
    let keys = three_keys w.key w.next node_key (min k below_key) (max k below_key) (claimed w tag filling).key refl in
    let values = two_values w.value w.next (if nat_lt k below_key then value else below_value) (if nat_lt k below_key then below_value else value)
    (claimed w tag filling).value refl in
    let children = two_children w.child (internal w.next) (left_of_card flat w.next k below below_key) (right_of_card flat w.next k below below_key)
    (claimed w tag filling).child refl in
    record {
      expects = put_same w.expects w.next tag;
      p = put_same w.p w.next parent;
      l = put_same w.l w.next below;
      key = keys.0;
      left_key = keys.1;
      right_key = keys.2;
      left_value = values.0;
      right_value = values.1;
      left = children.0;
      right = children.1;
      update = put_same w.update (internal w.next) (clean 0);
    }

-- what a card's words are after it was filled for a delete, where it expects a tag
pub record IsFilledDelete (w : Words) (c tag gp p l was : ℕ) : Type 0 where
  pub expects_is : w.expects c ≡ tag
  pub gp_is : w.gp c ≡ gp
  pub p_is : w.p c ≡ p
  pub l_is : w.l c ≡ l
  pub was_is : w.was c ≡ was

-- a claim for a delete fills the next card for it
pub claimed_delete : (w : Words) (tag gp p l was : ℕ) → IsFilledDelete (claimed w tag (delete_filling gp p l was)) w.next tag gp p l was
claimed_delete w tag gp p l was = record {
  expects_is = put_same w.expects w.next tag;
  gp_is = put_same w.gp w.next gp;
  p_is = put_same w.p w.next p;
  l_is = put_same w.l w.next l;
  was_is = put_same w.was w.next was;
}
