use Rattle.std.proofs.Common.{◌≡◌, ◌≢◌, ℕ, ◌≤◌, ◌⊎◌, Bool, true, false, inl, inr, refl, sym, ap, ◌∙◌, arith, ◌+◌, subst, ◌<◌}
use Rattle.std.proofs.lemmas.Bool.{cases_eq}
use Rattle.std.proofs.lemmas.Bool.Decides.{nat_tests}
use Rattle.ell_word.specs.Node.{internal}
use Rattle.ell_layout.specs.declared.field.Field.TheVariants.{Left, Right, Update}
use Rattle.ell_layout.specs.Words.{Words, put, put_side, with_update, relinked, word}
use Rattle.ell_layout.specs.Cards.{marked}
use Rattle.ell_core.specs.history.Later.{SaysTheSame, WordsLater}
use Rattle.ell_layout.proofs.lemmas.Writes.{put_same, put_other, put_side_same}
use Rattle.ell_layout.specs.declared.field.Field.{Field}

-- words that did not change are later
pub words_same : (w : Words) → WordsLater w w
words_same w = record {
  flat = refl;
  next = omega arith;
  tag = λ x right. omega arith;
  child = λ x right below same. refl;
  some = λ x right there. there;
  update = λ x. omega arith;
  info = λ c h. record { gp = refl; p = refl; l = refl; expects = refl; was = refl };
  key = λ x h. refl;
  value = λ x h. refl;
  frozen = λ x c h. record { update = refl; child = λ right. refl; tag = λ right. refl };
}

-- an update word with a greater one in its place is no less, at every node
pub update_rises : (w : Words) (x value : ℕ) → w.update x ≤ value → (y : ℕ) → w.update y ≤ put w.update x value y
update_rises w x value h y = elim (cases_eq y x) [
  | inl e ↦ (let a = ap (put w.update x value) e ∙ put_same w.update x value in let b = ap w.update e in omega arith)
  | inr n ↦ (let a = put_other w.update x value y n in omega arith)
]

-- the words are later with a greater update word in place of one that is no mark
pub words_update : (w : Words) (x value : ℕ) → w.update x ≤ value → ((c : ℕ) → w.update x ≢ marked c) → WordsLater w (with_update w x value)
words_update w x value rises calm = record {
  flat = refl;
  next = omega arith;
  tag = λ y right. omega arith;
  child = λ y right below same. refl;
  some = λ y right there. there;
  update = update_rises w x value rises;
  info = λ c h. record { gp = refl; p = refl; l = refl; expects = refl; was = refl };
  key = λ y h. refl;
  value = λ y h. refl;
  frozen = λ y c h. record { update = put_other w.update x value y (λ e. calm c (ap w.update (sym e) ∙ h)); child = λ right. refl; tag = λ right. refl };
}

-- what a function has of a node on a side, with another value there
side_there : (f : ℕ → Bool → ℕ) (x value : ℕ) (side : Bool) → put f x (put_side (f x) side value) x side ≡ value
side_there f x value side = ap (λ g. g side) (put_same f x (put_side (f x) side value)) ∙ put_side_same (f x) side value

-- everywhere else it has what it had
side_elsewhere : (f : ℕ → Bool → ℕ) (x value : ℕ) (side : Bool) (y : ℕ) (right : Bool)
    → ((y ≡ x) × (right ≡ side)) ⊎ (put f x (put_side (f x) side value) y right ≡ f y right)
side_elsewhere f x value true y true = grind (arith, nat_tests)
side_elsewhere f x value true y false = grind (arith, nat_tests)
side_elsewhere f x value false y true = grind (arith, nat_tests)
side_elsewhere f x value false y false = grind (arith, nat_tests)

-- so it has at another node
side_other : (f : ℕ → Bool → ℕ) (x value : ℕ) (side : Bool) (y : ℕ) (right : Bool) → y ≢ x
    → put f x (put_side (f x) side value) y right ≡ f y right
side_other f x value side y right n = ap (λ g. g right) (put_other f x (put_side (f x) side value) y n)

-- a child that was exchanged is the new one
pub child_there : (w : Words) (x value : ℕ) (side : Bool) → (relinked w x side value).child x side ≡ value
child_there w x value side = side_there w.child x value side

-- its tag is greater by one
pub tag_there : (w : Words) (x value : ℕ) (side : Bool) → (relinked w x side value).tag x side ≡ w.tag x side + 1
tag_there w x value side = side_there w.tag x (w.tag x side + 1) side

-- a child word is as it was
pub record SameLink (old new : Words) (x : ℕ) (right : Bool) : Type 0 where
  pub child : new.child x right ≡ old.child x right
  pub tag : new.tag x right ≡ old.tag x right

-- every other child is as it was
pub child_elsewhere : (w : Words) (x value : ℕ) (side : Bool) (y : ℕ) (right : Bool)
    → ((y ≡ x) × (right ≡ side)) ⊎ ((relinked w x side value).child y right ≡ w.child y right)
child_elsewhere w x value side y right = side_elsewhere w.child x value side y right

-- so is its tag
pub tag_elsewhere : (w : Words) (x value : ℕ) (side : Bool) (y : ℕ) (right : Bool)
    → ((y ≡ x) × (right ≡ side)) ⊎ ((relinked w x side value).tag y right ≡ w.tag y right)
tag_elsewhere w x value side y right = side_elsewhere w.tag x (w.tag x side + 1) side y right

-- at another node both are
pub link_other : (w : Words) (x value : ℕ) (side : Bool) (y : ℕ) (right : Bool) → y ≢ x → SameLink w (relinked w x side value) y right
link_other w x value side y right n = record {
  child = side_other w.child x value side y right n;
  tag = side_other w.tag x (w.tag x side + 1) side y right n;
}

-- no tag falls, and that of the child that was exchanged is not what it was
pub tag_rises : (w : Words) (x value : ℕ) (side : Bool) (y : ℕ) (right : Bool) → w.tag y right ≤ (relinked w x side value).tag y right
tag_rises w x value side y right = elim (tag_elsewhere w x value side y right) [
  | inl e ↦ subst (λ n. w.tag n right ≤ (relinked w x side value).tag n right) (sym e.0)
      (subst (λ r. w.tag x r ≤ (relinked w x side value).tag x r) (sym e.1) (let there = tag_there w x value side in omega arith))
  | inr e ↦ omega arith
]

-- a child whose tag is as it was is as it was
same_tag-child : (w : Words) (x value : ℕ) (side : Bool) (y : ℕ) (right : Bool)
    → (relinked w x side value).tag y right ≡ w.tag y right → (relinked w x side value).child y right ≡ w.child y right
same_tag-child w x value side y right same = elim (child_elsewhere w x value side y right) [
  | inl e ↦ absurd (
      let here = ap (λ n. (relinked w x side value).tag n right) e.0 ∙ ap ((relinked w x side value).tag x) e.1 in
      let was = ap (λ n. w.tag n right) e.0 ∙ ap (w.tag x) e.1 in
      let there = tag_there w x value side in
      omega arith)
  | inr e ↦ e
]

-- so each tag is below a number that all were below, if that of the child that was exchanged was by more than one
pub tags_below : (w : Words) (x value : ℕ) (side : Bool) (limit : ℕ) → w.tag x side + 1 < limit
    → ((y : ℕ) (right : Bool) → w.tag y right < limit) → (y : ℕ) (right : Bool) → (relinked w x side value).tag y right < limit
tags_below w x value side limit more all y right = elim (tag_elsewhere w x value side y right) [
  | inl e ↦ (
      let here = ap (λ n. (relinked w x side value).tag n right) e.0 ∙ ap ((relinked w x side value).tag x) e.1 in
      let there = tag_there w x value side in
      omega arith)
  | inr e ↦ (let below = all y right in omega arith)
]

-- what an update word says of a card whose node it is not of
update_words : (w : Words) (x value c : ℕ) → internal c ≢ x → (field : Field) → word (with_update w x value) c field ≡ word w c field
update_words w x value c n Update = put_other w.update x value (internal c) n
update_words w x value c n _ = refl

-- a card says what it said where the update word of another node is another one
pub update_says : (w : Words) (x value c : ℕ) → internal c ≢ x → SaysTheSame w (with_update w x value) c
update_says w x value c n = record { words = update_words w x value c n; expects = refl; tags = λ right. refl }

child_words : (w : Words) (x value : ℕ) (side : Bool) (c : ℕ) → internal c ≢ x → (field : Field)
    → word (relinked w x side value) c field ≡ word w c field
child_words w x value side c n Left = side_other w.child x value side (internal c) false n
child_words w x value side c n Right = side_other w.child x value side (internal c) true n
child_words w x value side c n _ = refl

-- so it does where a child of another node is another one
pub child_says : (w : Words) (x value : ℕ) (side : Bool) (c : ℕ) → internal c ≢ x → SaysTheSame w (relinked w x side value) c
child_says w x value side c n = record {
  words = child_words w x value side c n;
  expects = refl;
  tags = λ right. (link_other w x value side (internal c) right n).tag;
}

-- the words are later with another child, which is not 0, in place of one of a node that has no mark
pub words_child : (w : Words) (x value : ℕ) (side : Bool) → value ≢ 0 → ((c : ℕ) → w.update x ≢ marked c)
    → WordsLater w (relinked w x side value)
words_child w x value side real calm = record {
  flat = refl;
  next = omega arith;
  tag = tag_rises w x value side;
  child = λ y right below same. same_tag-child w x value side y right same;
  some = λ y right there. elim (child_elsewhere w x value side y right) [
    | inl e ↦ (λ none. real (sym (child_there w x value side)
        ∙ (ap ((relinked w x side value).child x) (sym e.1) ∙ (ap (λ n. (relinked w x side value).child n right) (sym e.0) ∙ none))))
    | inr e ↦ (λ none. there (sym e ∙ none))
  ];
  update = λ y. omega arith;
  info = λ c h. record { gp = refl; p = refl; l = refl; expects = refl; was = refl };
  key = λ y h. refl;
  value = λ y h. refl;
  frozen = λ y c h. (let apart : y ≢ x = (λ e. calm c (ap w.update (sym e) ∙ h)) in record {
    update = refl;
    child = λ right. (link_other w x value side y right apart).child;
    tag = λ right. (link_other w x value side y right apart).tag;
  });
}
