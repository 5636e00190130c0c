use Rattle.std.proofs.Common.{eqb-true, ◌≡◌, ℕ, ◌<◌, ◌≤◌, ◌⊎◌, Bool, true, false, refl, sym, ◌∙◌, inl, inr, ◌%◌, ◌&&◌, if◌then◌else◌, nat_le, nat_lt, subst, arith}
use mathlib.Core.Option.{some}
use lib.ListN.{get_elem?}
use Rattle.ell_word.specs.Node.{card, internal, left_leaf, right_leaf}
use Rattle.ell_word.specs.Link.{node_bound}
use Rattle.ell_word.specs.Word.{unpacked}
use Rattle.ell_layout.specs.Cards.{card_key, card_value, is_delete_card, is_replace_card, stays_below}
use Rattle.ell_layout.specs.declared.field.Field.{Field}
use Rattle.ell_layout.specs.declared.field.Field.TheVariants as field
use Rattle.ell_layout.specs.Words.{Words, IsLeaf, word, table_word, is_flat}
use Rattle.ell_core.specs.history.Invariant.{insert_key, filled_child}
use Rattle.ell_core.proofs.lemmas.stages.Edges.{replaces_leaf}
use Rattle.ell_core.specs.soundness.Sound.{IsSound}
use Rattle.ell_core.specs.history.Stages.{Stage, Born, is_claimed, is_start, is_insert, is_delete, is_born, is_node_born, waits, delete_won}
use Rattle.ell_core.specs.history.Later.{SaysTheSame}
use Rattle.ell_core.specs.statements.StepLaws.{GoesInTree}
use Rattle.ell_core.specs.statements.Effects.{SamePairs, op_of_card}
use Rattle.ell_layout.proofs.lemmas.Listed.{words_are_listed, listed_next, listed_flat, listed_small}
use Rattle.ell_word.proofs.Numbers.{same_links}
use Rattle.ell_core.proofs.lemmas.following.Reliance.{may_rely}
use Rattle.ell_core.proofs.lemmas.following.Sound.{sound}
use Rattle.ell_core.proofs.lemmas.following.waiting.Cards.{flagged_made}
use Rattle.ell_core.proofs.lemmas.stages.Order.{delete_won-delete, insert-claimed, delete-claimed, all-born}
use Rattle.ell_core.proofs.lemmas.stages.Waiting.{born-settled, start-born, delete_won-settled}
use Rattle.ell_core.proofs.lemmas.stages.LaterKeys.{born_below}
use Rattle.ell_runs.specs.Plans.{TablePlan}
use Rattle.ell_runs.specs.declared.view.View.{View}
use Rattle.ell_runs.specs.Views.{KnowsCard}
use Rattle.ell_runs.specs.States.{TableState, seated}
use Rattle.ell_runs.specs.Machines.{HasMachine}
use Rattle.ell_runs.specs.TurnEffects.{own_words, own_machine}
use Rattle.ell_runs.specs.Laws.{MachineIsSound, WordsAreOwn, MachineHasOwnWords}
use Rattle.ell_runs.proofs.lemmas.seats.Statements.{SoundByMachine}
use Rattle.ell_runs.proofs.lemmas.stepping.Known.{known_card, known_settled, known_claimed}
use Rattle.ell_runs.proofs.lemmas.seats.Seats.{mine_sound}
use Rattle.ell_runs.proofs.lemmas.own_words.OwnTree.{reached_same, reached_born, pairs_same}
use Rattle.ell_runs.proofs.lemmas.own_words.OwnCards.{card_key_same, card_op_same, card_value_same}
use Rattle.ell_runs.proofs.lemmas.own_words.OwnSound.{own_sound}

-- a card was not claimed, or is one of the opening tree's, an insert's or a delete's
stage_kinds : (s : Stage) → (is_claimed s ≡ false) ⊎ ((is_start s ≡ true) ⊎ ((is_insert s ≡ true) ⊎ (is_delete s ≡ true)))
stage_kinds s = grind arith

-- one of two numbers, of which the second is no greater than a limit
one_of_two : (test : Bool) (first second limit : ℕ) → second ≤ limit → ((if test then first else second) ≤ limit) ⊎ ((if test then first else second) ≡ first)
one_of_two true first second limit low = inr refl
one_of_two false first second limit low = inl low

module _ (plan : TablePlan) (s : TableState) (r : HasMachine plan s) where
  -- the claim word, and each card that does not wait
  pub same_next : (own_words s).next ≡ r.words.next
  same_next = listed_next s.words ∙ r.next

  -- and the word that says from where on the tree is flat
  pub same_flat : (own_words s).flat_from ≡ r.words.flat_from
  same_flat = listed_flat s.words ∙ r.flat

  -- the number of a node that came into the tree is below the bound
  node_is_small : (x : ℕ) → Born r.stages x → x < node_bound
  node_is_small x born =
      let below = born_below r.words r.stages r.invariant.words x born in let most = r.invariant.limit in let limit = r.limit in omega arith

  -- so does each node of a claimed card
  own_is_small : (c x : ℕ) → is_claimed (r.stages c) ≡ true → x ≤ right_leaf c → x < node_bound
  own_is_small c x claimed low =
      let below = (r.invariant.words.cards c).claimed.0 claimed in let most = r.invariant.limit in let limit = r.limit in omega arith

  -- so do the children of a card's node that came into the tree
  born_child_is_small : (c : ℕ) (right : Bool) → is_node_born (r.stages c) 0 ≡ true → r.words.child (internal c) right < node_bound
  born_child_is_small c right born =
      let same : card (internal c) ≡ c = omega arith in
      let inner : internal c % 4 ≡ 0 = omega arith in
      let there : Born r.stages (internal c) = (λ t. is_node_born (r.stages (same t)) (inner t)) ∙ born in
      node_is_small (r.words.child (internal c) right) ((r.invariant.words.children (internal c) inner there).born right)

  -- what stands below the node of a card as it is filled: a node of the card, or the node where it goes
  filled_cases : (w : Words) (c : ℕ) (right : Bool) → (filled_child w c right ≤ right_leaf c) ⊎ (filled_child w c right ≡ w.l c)
  filled_cases w c false = one_of_two (stays_below (is_flat w) (w.l c) && nat_le (w.key (w.l c)) (insert_key w c)) (w.l c) (left_leaf c) (right_leaf c) (omega arith)
  filled_cases w c true = one_of_two (stays_below (is_flat w) (w.l c) && nat_lt (insert_key w c) (w.key (w.l c))) (w.l c) (right_leaf c) (right_leaf c) (omega arith)

  -- what a card says is below the bound
  module _ (c : ℕ) where
    -- where it was not claimed, it says 0
    blank_is_small : is_claimed (r.stages c) ≡ false → (x : ℕ) → x ≡ 0 → x < node_bound
    blank_is_small unclaimed x is = omega (arith, is)

    -- the children of an insert's card came into the tree, or are its own leaves
    insert_child_is_small : is_insert (r.stages c) ≡ true → (right : Bool) → r.words.child (internal c) right < node_bound
    insert_child_is_small inserts right = by (is_born (r.stages c)) refl right
      where
        by : (b : Bool) → is_born (r.stages c) ≡ b → (right : Bool) → r.words.child (internal c) right < node_bound
        by true born right = born_child_is_small c right (all-born (r.stages c) 0 (omega arith) born)
        by false unborn right = elim (filled_cases r.words c right) [
          | inl own ↦ (let is = ((r.invariant.words.cards c).unborn inserts unborn).children right in
              own_is_small c (r.words.child (internal c) right) (insert-claimed (r.stages c) inserts) (omega (arith, is, own)))
          | inr below ↦ subst (λ x. x < node_bound) (sym (((r.invariant.words.cards c).unborn inserts unborn).children right ∙ below))
              (node_is_small (r.words.l c) ((r.invariant.words.cards c).insert inserts).lower)
        ]

    -- the leaf where it goes
    goes_small : r.words.l c < node_bound
    goes_small = elim (stage_kinds (r.stages c)) [
      | inl unclaimed ↦ blank_is_small unclaimed (r.words.l c) (((r.invariant.words.cards c).blank unclaimed).words field.L)
      | inr (inl start) ↦ (let is = (r.invariant.kinds.start c start).leaf in omega (arith, is))
      | inr (inr (inl inserts)) ↦ node_is_small (r.words.l c) ((r.invariant.words.cards c).insert inserts).lower
      | inr (inr (inr deletes)) ↦ node_is_small (r.words.l c) ((r.invariant.words.cards c).delete deletes).leaf.born
    ]

    -- the children of its node
    child_is_small : (right : Bool) → r.words.child (internal c) right < node_bound
    child_is_small right = elim (stage_kinds (r.stages c)) [
      | inl unclaimed ↦ by_blank right unclaimed
      | inr (inl start) ↦ born_child_is_small c right (start-born (r.stages c) 0 (omega arith) start)
      | inr (inr (inl inserts)) ↦ insert_child_is_small inserts right
      | inr (inr (inr deletes)) ↦ by_delete right deletes
    ]
      where
        by_blank : (right : Bool) → is_claimed (r.stages c) ≡ false → r.words.child (internal c) right < node_bound
        by_blank true unclaimed = blank_is_small unclaimed (r.words.child (internal c) true) (((r.invariant.words.cards c).blank unclaimed).words field.Right)
        by_blank false unclaimed = blank_is_small unclaimed (r.words.child (internal c) false) (((r.invariant.words.cards c).blank unclaimed).words field.Left)

        by_delete : (right : Bool) → is_delete (r.stages c) ≡ true → r.words.child (internal c) right < node_bound
        by_delete true deletes = let is = ((r.invariant.words.cards c).delete deletes).no_right_child in omega (arith, is)
        by_delete false deletes = let is = ((r.invariant.words.cards c).delete deletes).no_left_child in omega (arith, is)

  -- a card that does not wait has the table's own words
  module _ (c : ℕ) (calm : waits (r.stages c) ≡ false) where
    -- a table has the same words there
    table_there : (field : Field) → table_word (own_words s) c field ≡ table_word r.words c field
    table_there field = words_are_listed s.words c field ∙ r.settled c field calm

    -- the same leaf and the tag that is expected
    link_there : (r.words.l c ≡ (own_words s).l c) × (r.words.expects c ≡ (own_words s).expects c)
    link_there = same_links (r.words.l c) (r.words.expects c) ((own_words s).l c) ((own_words s).expects c) (goes_small c)
        ((listed_small s.words).l c) (sym (table_there field.L))

    -- the same child on a side, and its tag
    child_there : (right : Bool)
        → (r.words.child (internal c) right ≡ (own_words s).child (internal c) right) × (r.words.tag (internal c) right ≡ (own_words s).tag (internal c) right)
    child_there true =
        same_links (r.words.child (internal c) true) (r.words.tag (internal c) true) ((own_words s).child (internal c) true) ((own_words s).tag (internal c) true)
        (child_is_small c true) ((listed_small s.words).child (internal c) true) (sym (table_there field.Right))
    child_there false =
        same_links (r.words.child (internal c) false) (r.words.tag (internal c) false) ((own_words s).child (internal c) false) ((own_words s).tag (internal c) false)
        (child_is_small c false) ((listed_small s.words).child (internal c) false) (sym (table_there field.Left))

    -- and all that its fields say
    word_there : (field : Field) → word r.words c field ≡ word (own_words s) c field
    word_there field.L = link_there.0
    word_there field.Left = (child_there false).0
    word_there field.Right = (child_there true).0
    word_there field = sym (table_there field)

  settled_card : (c : ℕ) → waits (r.stages c) ≡ false → SaysTheSame (own_words s) r.words c
  settled_card c calm = record { words = word_there c calm; expects = (link_there c calm).1; tags = λ right. (child_there c calm right).1 }

  pub same_card : (c : ℕ) → waits (r.stages c) ≡ false → SaysTheSame r.words (own_words s) c
  same_card c calm = let h = settled_card c calm in
      record { words = λ field. sym (h.words field); expects = sym h.expects; tags = λ right. sym (h.tags right) }

  -- the table's own words are a sound state
  sound_state : IsSound (own_machine plan.last_card s)
  sound_state = own_sound (seated r.words s.views plan.last_card) (own_words s) r.stages r.invariant same_next same_flat same_card

  -- the trees have the same keys with the same values
  pub own_pairs : SamePairs (own_words s) r.words
  own_pairs = pairs_same r.words (own_words s) r.stages r.invariant.words same_card

  -- a card that a pass knows: where it goes, its key and its value
  module _ (id c : ℕ) (v : View) (here : get_elem? s.views id ≡ some v) (knows : KnowsCard v c) where
    known_goes : GoesInTree r.words r.stages c
    known_goes = (may_rely (seated r.words s.views plan.last_card) r.stages id r.invariant).goes c (known_claimed plan s r id v here c knows)

    -- a delete's card goes to a leaf, and so does an insert's that replaces it
    delete_leaf : is_delete_card r.words c ≡ true → IsLeaf (r.words.l c)
    delete_leaf deletes = elim (known_card plan s r id v here c knows) [
      | inl i ↦ absurd (i.left_child (eqb-true (r.words.child (internal c) false) 0 deletes))
      | inr d ↦ d.leaf.outer
    ]

    replaced_leaf : is_replace_card r.words c ≡ true → IsLeaf (r.words.l c)
    replaced_leaf replaces = elim (known_card plan s r id v here c knows) [
      | inl i ↦ replaces_leaf r.words r.stages r.invariant.words c i (eqb-true (r.words.key (left_leaf c)) (r.words.key (right_leaf c)) replaces)
      | inr d ↦ d.leaf.outer
    ]

    pub own_card_key : card_key (own_words s) c ≡ card_key r.words c
    own_card_key = card_key_same r.words (own_words s) r.stages r.invariant.words same_card c
        (known_settled plan s r id v here c knows) known_goes

    pub own_card_value : card_value (own_words s) c ≡ card_value r.words c
    own_card_value = card_value_same r.words (own_words s) r.stages r.invariant.words same_card c
        (known_settled plan s r id v here c knows) known_goes delete_leaf

    -- and the operation that an insert's card is for
    pub own_card_op : op_of_card (own_words s) c ≡ op_of_card r.words c
    own_card_op = card_op_same r.words (own_words s) r.stages r.invariant.words same_card c
        (known_settled plan s r id v here c knows) known_goes delete_leaf replaced_leaf

  -- the value of a card that a delete flagged
  pub own_taken_value : (c : ℕ) → delete_won (r.stages c) ≡ true → card_value (own_words s) c ≡ card_value r.words c
  own_taken_value c won =
      let deletes = delete_won-delete (r.stages c) won in
      let sound = r.invariant.words.cards c in
      card_value_same r.words (own_words s) r.stages r.invariant.words same_card c (delete_won-settled (r.stages c) won)
      ((may_rely (seated r.words s.views plan.last_card) r.stages 0 r.invariant).goes c (sound.claimed.0 (delete-claimed (r.stages c) deletes))) (λ is. (sound.delete deletes).leaf.outer)

  -- where the words are the table's own
  words_own : WordsAreOwn plan s r
  words_own = record {
    next = sym same_next;
    settled = settled_card;
    reached = reached_same r.words (own_words s) r.stages r.invariant.words same_card;
    nodes = λ x reached. settled_card (card x)
        (born-settled (r.stages (card x)) (x % 4) (reached_born r.words (own_words s) r.stages r.invariant.words same_card x reached));
    flags = λ x reached inner dirty.
        let hand = (sound_state.flags x reached inner dirty).in_hand in
        let c = (unpacked ((own_words s).update x)).card in
        settled_card c (flagged_made r.words r.stages ((own_machine plan.last_card s).worker hand.worker) c (r.invariant.workers.each hand.worker) hand.holds hand.flagged);
    known = λ i c v here knows. settled_card c (known_settled plan s r i v here c knows);
    held = λ i c v here h.
        settled_card c (flagged_made r.words r.stages _ c (mine_sound plan s r i v here) h.holds h.flagged);
    tree = own_pairs;
  }

pub own_words_are_sound : SoundByMachine
own_words_are_sound = sound_state

pub machine_is_sound : MachineIsSound
machine_is_sound plan s r = sound (seated r.words s.views plan.last_card) r.stages r.invariant

pub machine_has_own_words : MachineHasOwnWords
machine_has_own_words = words_own
