use Rattle.std.proofs.Common.{◌≡◌, ◌≢◌, ℕ, ◌%◌, ◌<◌, ◌≤◌, ◌⊎◌, Bool, true, false, [], ◌++◌, inl, inr, refl, sym, ap, ◌∙◌, subst, arith}
use Rattle.std.proofs.lemmas.Bool.{false≢true, cases_eq}
use Rattle.ell_word.specs.Node.{IsInternal, card, internal}
use Rattle.ell_core.specs.declared.fact.Fact.{Fact}
use Rattle.ell_layout.specs.declared.field.Field.TheVariants.{Left, Right, Update}
use Rattle.ell_layout.specs.Words.{Words, put}
use Rattle.ell_layout.specs.Cards.{iflag, marked}
use Rattle.ell_core.specs.history.Stages.{Stage, Stages, Unclaimed, IClaimed, DClaimed, is_claimed, is_start, is_node_born, allows, Born}
use Rattle.ell_core.specs.history.Invariant.{top, IsIn, IsOut, LeadsToValue, IsOnCourse, Blank, IsInnerBorn, WordsAreSound}
use Rattle.ell_core.specs.history.Later.{SameNode, WordsLater, StagesLater, wins_of}
use Rattle.ell_layout.proofs.lemmas.Writes.{put_other, put_cases}
use Rattle.ell_core.proofs.lemmas.stages.Order.{unclaimed_stage}
use Rattle.ell_trie.specs.Courses.{OnTrieCourse}
use Rattle.ell_trie.proofs.lemmas.order.Frames.{Spans-same, Spans-back, Meets-same, Meets-back}
use Rattle.ell_trie.proofs.lemmas.Frames.{OnTrieCourse-same}
use Rattle.ell_core.specs.tree.Flat.{opening_from}
use Rattle.ell_core.proofs.lemmas.keeping.going_on.Cards.{GoesOn}
use Rattle.ell_core.proofs.lemmas.keeping.claim.Filling.{Claims}
use Rattle.ell_core.proofs.lemmas.stages.LaterKeys.{born_below, root_born}
use Rattle.ell_core.proofs.lemmas.stages.Advances.{StageLater, stages_put, wins_kept}

-- the stage of a card that was just claimed
abbrev pub IsJustClaimed : Stage → Type 0
IsJustClaimed new = (new ≡ IClaimed) ⊎ (new ≡ DClaimed)

-- what holds of both stages of a card that was just claimed holds of its stage
pub just_claimed : (P : Stage → Type 0) (new : Stage) → IsJustClaimed new → P IClaimed → P DClaimed → P new
just_claimed P new fresh insert delete = elim fresh [
  | inl e ↦ subst P (sym e) insert
  | inr e ↦ subst P (sym e) delete
]

-- no fact is known of a card that was not claimed
pub untold : (fact : Fact) → allows fact Unclaimed ≡ false
untold fact = grind arith

-- an update word of a node that came into the tree is below the flags of the next card, and so is what was read there before
pub earlier_word : (w : Words) (stage : Stages) → WordsAreSound w stage → (x word : ℕ) → IsInnerBorn stage x
    → word ≤ w.update x → word < iflag w.next
earlier_word w stage sound x word at least = let named = (sound.updates x at.inner at.born).named in omega arith

-- the number of a node that came into the tree is below that of the next card's node
pub earlier_node : (w : Words) (stage : Stages) → WordsAreSound w stage → (x : ℕ) → Born stage x → x < internal w.next
earlier_node w stage sound x born = let less = born_below w stage sound x born in omega arith

-- the next card is claimed, and its stage is that of a card that was just claimed
pub record Claiming (w after : Words) (stage : Stages) (new : Stage) : Type 0 where
  pub words : WordsAreSound w stage
  pub claims : Claims w after w.next
  pub fresh : IsJustClaimed new

module _ (w after : Words) (stage : Stages) (new : Stage) (h : Claiming w after stage new) where
  -- the next card was not claimed
  pub unclaimed : stage w.next ≡ Unclaimed
  unclaimed = unclaimed_stage (stage w.next) (λ e. let below = (h.words.cards w.next).claimed.0 e in omega arith)

  -- a card with a stage past the claim is another one
  pub another : (f : Stage → Bool) → f Unclaimed ≡ false → (d : ℕ) → f (stage d) ≡ true → d ≢ w.next
  another f never d said e = false≢true (sym never ∙ (ap f (sym unclaimed) ∙ (ap (λ n. f (stage n)) (sym e) ∙ said)))

  -- its words were 0
  pub blank : Blank w w.next
  blank = (h.words.cards w.next).blank (ap is_claimed unclaimed)

  -- so it had no children at its node
  blank_child : (right : Bool) → w.child (internal w.next) right ≡ 0
  blank_child true = blank.words Right
  blank_child false = blank.words Left

  -- what was said of a card's stage is said of it after the claim, if it is not said of an unclaimed one
  pub kept : (f : Stage → Bool) → f Unclaimed ≡ false → (d : ℕ) → f (stage d) ≡ true → f (put stage w.next new d) ≡ true
  kept f never d said = subst (λ s. f s ≡ true) (sym (put_other stage w.next new d (another f never d said))) said

  -- what is said of a card's stage after the claim was said of it before, if it is not said of one that was just claimed
  pub before : (f : Stage → Bool) → f IClaimed ≡ false → f DClaimed ≡ false → (d : ℕ) → f (put stage w.next new d) ≡ true
      → f (stage d) ≡ true
  before f no_insert no_delete d = put_cases (λ s. f s ≡ true → f (stage d) ≡ true) stage w.next new d
      (λ e said. absurd (false≢true (sym (just_claimed (λ s. f s ≡ false) new h.fresh no_insert no_delete) ∙ said)))
      (λ n said. said)

  -- a node that came into the tree is not on the card
  pub born_another : (x : ℕ) → Born stage x → card x ≢ w.next
  born_another x born = another (λ s. is_node_born s (x % 4)) refl (card x) born

  -- it came into the tree still
  pub born_kept : (x : ℕ) → Born stage x → Born (put stage w.next new) x
  born_kept x born = kept (λ s. is_node_born s (x % 4)) refl (card x) born

  -- no other did by the claim
  pub born_before : (x : ℕ) → Born (put stage w.next new) x → Born stage x
  born_before x born = before (λ s. is_node_born s (x % 4)) refl refl (card x) born

  -- so its key is as it was
  pub key_kept : (x : ℕ) → Born stage x → after.key x ≡ w.key x
  key_kept x born = h.claims.others.key x (born_another x born)

  -- and its value
  pub value_kept : (x : ℕ) → Born stage x → after.value x ≡ w.value x
  value_kept x born = h.claims.others.value x (born_another x born)

  -- so are its children
  pub child_kept : (x : ℕ) (right : Bool) → Born stage x → after.child x right ≡ w.child x right
  child_kept x right born = let n = born_another x born in h.claims.others.child x right (λ e. n (omega arith))

  -- so are their tags
  pub tag_kept : (x : ℕ) (right : Bool) → Born stage x → after.tag x right ≡ w.tag x right
  tag_kept x right born = let n = born_another x born in h.claims.others.tag x right (λ e. n (omega arith))

  -- so is its update word
  pub update_kept : (x : ℕ) → Born stage x → after.update x ≡ w.update x
  update_kept x born = let n = born_another x born in h.claims.others.update x (λ e. n (omega arith))

  -- node 0 came into the tree
  start : Born stage 0
  start = root_born w stage h.words

  -- so did the children of what came into it
  pub closed : (x : ℕ) (right : Bool) → IsInternal x → Born stage x → Born stage (w.child x right)
  closed x right inner born = (h.words.children x inner born).born right

  -- what is in the tree stays there
  pub in_kept : (x : ℕ) → IsIn w x → IsIn after x
  in_kept x g = record {
    low = g.low;
    high = g.high;
    spans = Spans-same (Born stage) w.key after.key w.child after.child top start closed key_kept child_kept g.spans;
  }

  -- what is out of it stays out
  pub out_kept : (x : ℕ) → IsOut w x → IsOut after x
  out_kept x g = λ low high s. g low high
      (Spans-back (Born stage) w.key after.key w.child after.child top start closed key_kept child_kept s)

  -- walks lead where they led
  pub leads_kept : (k value x : ℕ) → Born stage x → LeadsToValue w k value x → LeadsToValue after k value x
  leads_kept k value x born g = Meets-same
      (Born stage) w.key after.key w.child after.child top start closed key_kept child_kept (λ y o e. value_kept y o ∙ e) k born g

  -- and to nothing more
  pub leads_before : (k value x : ℕ) → Born stage x → LeadsToValue after k value x → LeadsToValue w k value x
  leads_before k value x born g = Meets-back
      (Born stage) w.key after.key w.child after.child top start closed key_kept child_kept (λ y o e. sym (value_kept y o) ∙ e) k born g

  -- what is on course stays so
  pub course_kept : (k x : ℕ) → Born stage x → IsOnCourse w k x → IsOnCourse after k x
  course_kept k x born g = subst (λ n. OnTrieCourse (opening_from n) after.key after.child top k x) (sym h.claims.flat)
      (OnTrieCourse-same (Born stage) (opening_from w.flat_from) w.key after.key w.child after.child key_kept child_kept top start closed k born g)

  -- the stages are later ones
  pub claim_stages : StagesLater stage (put stage w.next new)
  claim_stages = stages_put stage w.next new (subst (λ s. StageLater s new) (sym unclaimed) (record {
    start = just_claimed (λ s. is_start s ≡ false) new h.fresh refl refl;
    insert = λ said. absurd (false≢true said);
    delete = λ said. absurd (false≢true said);
    born = λ place said. absurd (false≢true said);
    told = λ fact said. absurd (false≢true (sym (untold fact) ∙ said));
  }))

  -- and nothing is won
  pub claim_wins : (d : ℕ) → wins_of (put stage w.next new d) ≡ wins_of (stage d) ++ []
  claim_wins = wins_kept stage w.next new
      (just_claimed (λ s. wins_of s ≡ wins_of (stage w.next)) new h.fresh
      (ap wins_of (sym unclaimed)) (ap wins_of (sym unclaimed)))

  -- at the node of the card the tags are 0, and elsewhere they stay
  pub tags_stay : (x : ℕ) (right : Bool) → after.tag x right ≡ w.tag x right
  tags_stay x right = elim (cases_eq x (internal w.next)) [
    | inl e ↦ (
        let was = blank.tags right in
        let now = h.claims.tags blank.tags right in
        let at = ap (λ n. w.tag n right) e in
        let there = ap (λ n. after.tag n right) e in
        omega arith)
    | inr n ↦ h.claims.others.tag x right n
  ]

  -- a child that was there still is
  child_some : (x : ℕ) (right : Bool) → w.child x right ≢ 0 → after.child x right ≢ 0
  child_some x right there = elim (cases_eq x (internal w.next)) [
    | inl e ↦ absurd (there (ap (λ n. w.child n right) e ∙ blank_child right))
    | inr n ↦ (λ none. there (sym (h.claims.others.child x right n) ∙ none))
  ]

  -- so with the update words
  pub update_rises : (x : ℕ) → w.update x ≤ after.update x
  update_rises x = elim (cases_eq x (internal w.next)) [
    | inl e ↦ (let zero_update = blank.words Update in let at = ap w.update e in omega arith)
    | inr n ↦ (let same = h.claims.others.update x n in omega arith)
  ]

  -- a marked node stays as it is
  frozen_kept : (x c : ℕ) → w.update x ≡ marked c → SameNode w after x
  frozen_kept x c e = record { update = h.claims.others.update x n; child = λ right. h.claims.others.child x right n; tag = λ right. h.claims.others.tag x right n } where
    n : x ≢ internal w.next
    n same = let zero_update = blank.words Update in let at = ap w.update same in omega arith

  -- the words are later ones
  pub claim_words : WordsLater w after
  claim_words = record {
    flat = h.claims.flat;
    next = let g = h.claims.after in omega arith;
    tag = λ x right. (let same = tags_stay x right in omega arith);
    child = λ x right below same. h.claims.others.child x right (λ e. omega arith);
    some = child_some;
    update = update_rises;
    info = λ c less. (let n : c ≢ w.next = λ e. omega arith in
        record {
          gp = h.claims.others.gp c n;
          p = h.claims.others.p c n;
          l = h.claims.others.l c n;
          expects = h.claims.others.expects c n;
          was = h.claims.others.was c n;
        });
    key = λ x less. h.claims.others.key x (λ e. omega arith);
    value = λ x less. h.claims.others.value x (λ e. omega arith);
    frozen = frozen_kept;
  }

  -- so all goes on
  pub claim_goes_on : GoesOn w after stage (put stage w.next new)
  claim_goes_on = record {
    sound = h.words;
    words = claim_words;
    later = claim_stages;
    calm = λ x word born calm least e. record { stood = sym (update_kept x born) ∙ e; link = λ right. record { child = child_kept x right born; tag = tag_kept x right born } };
    course = course_kept;
    out = λ x born. out_kept x;
  }
