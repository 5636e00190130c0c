-- The words of cards that have won their flags name cards whose numbers were given: so by names they stay as they are where the next card gets its
-- name, if the turns that lead there change no stage back.
use Rattle.std.proofs.Common.{◌≡◌, ◌⊎◌, ℕ, ◌+◌, ◌*◌, ◌%◌, ◌/◌, ◌<◌, ◌&&◌, if◌then◌else◌, nat_le, nat_lt, inl, inr, Bool, true, false, refl, sym, ap, ◌∙◌, subst, arith}
use Rattle.ell_word.specs.Link.{linked, link_in, node_bound}
use Rattle.ell_word.specs.declared.link.Link.{Link}
use Rattle.ell_word.specs.Node.{card, internal, left_leaf, right_leaf}
use Rattle.ell_word.proofs.Numbers.{link_back}
use Rattle.ell_layout.specs.declared.field.Field.{Field}
use Rattle.ell_layout.specs.declared.field.Field.TheVariants as field
use Rattle.ell_layout.specs.Cards.{stays_below}
use Rattle.ell_layout.specs.Layout.{listed}
use Rattle.ell_layout.specs.Words.{is_flat, table_word}
use Rattle.ell_core.specs.history.Invariant.{Unborn, insert_key}
use Rattle.ell_core.specs.history.Later.{StagesLater}
use Rattle.ell_core.specs.history.Stages.{Stage, Stages, Born, is_born, is_claimed, is_delete, is_insert, is_node_born, is_start}
use Rattle.ell_core.proofs.lemmas.stages.Order.{born-claimed}
use Rattle.ell_core.proofs.lemmas.stages.Waiting.{start-born}
use Rattle.ell_runs.specs.Machines.{HasMachine}
use Rattle.ell_runs.specs.Named.{named_child, named_node, named_word}
use Rattle.ell_runs.specs.NamedBelow.{NodeBelow, WordBelow}
use Rattle.ell_runs.specs.Plans.{TablePlan}
use Rattle.ell_runs.specs.Sayings.{says}
use Rattle.ell_runs.specs.States.{TableState}
use Rattle.ell_cards.specs.NamedRefinement.{OthersStay}
use Rattle.ell_cards.specs.Refinement.{HasWon}
use Rattle.ell_cards.proofs.lemmas.refinement.Winning.{IsWonStage, says_before}
use Rattle.ell_cards.proofs.lemmas.whole.LeaksOfCalls.{won_later}
use Rattle.std.proofs.lemmas.Bool.{true≢false}

-- a card with all its nodes in the tree has its internal node there
born-inner : (s : Stage) → is_born s ≡ true → is_node_born s 0 ≡ true
born-inner s h = grind arith

-- a card that has won its flag and is no delete's is of the opening tree, or an insert's
put_kinds : (s : Stage) → IsWonStage s → is_delete s ≡ false → (is_start s ≡ true) ⊎ (is_insert s ≡ true)
put_kinds s (claimed, settled) other = grind arith

module _ (n : ℕ) (name name' : ℕ → ℕ) (same : (c : ℕ) → c < n → name' c ≡ name c) where
  -- nodes and links go by what they went by, where cards do
  node_stays : (x : ℕ) → NodeBelow n x → named_node name' x ≡ named_node name x
  node_stays x low = λ t. 4 * same (card x) low t + x % 4

  child_stays : (x : ℕ) → NodeBelow n (link_in x).node → named_child name' x ≡ named_child name x
  child_stays x low = λ t. linked (record { node = node_stays (link_in x).node low t; tag = (link_in x).tag })

  -- so do words of cards
  pub word_stays : (f : Field) (x : ℕ) → WordBelow n f x → named_word name' f x ≡ named_word name f x
  word_stays field.Gp x low = node_stays x low
  word_stays field.P x low = node_stays x low
  word_stays field.L x low = child_stays x low
  word_stays field.Was x low = node_stays x low
  word_stays field.Left x low = child_stays x low
  word_stays field.Right x low = child_stays x low
  word_stays field.Update x low = node_stays x low
  word_stays field.Key x low = refl
  word_stays field.LeftLeafKey x low = refl
  word_stays field.RightLeafKey x low = refl
  word_stays field.LeftValue x low = refl
  word_stays field.RightValue x low = refl

module _ (plan : TablePlan) (s : TableState) (r : HasMachine plan s) where
  -- a card that was claimed is below the claim word
  claimed_below : (c : ℕ) → is_claimed (r.stages c) ≡ true → c < r.words.next
  claimed_below c is = (r.invariant.words.cards c).claimed.0 is

  -- so is a node that came into the tree
  born_below : (x : ℕ) → Born r.stages x → NodeBelow r.words.next x
  born_below x born = claimed_below (card x) (born-claimed (r.stages (card x)) (x % 4) born)

  -- and so is the node of a link to such a one
  link_below : (x tag : ℕ) → NodeBelow r.words.next x → NodeBelow r.words.next (link_in (linked (record { node = x; tag = tag }))).node
  link_below x tag low = subst (λ (l : Link). NodeBelow r.words.next l.node) (sym (link_back x tag small)) low
    where
      small : x < node_bound
      small = (let room = r.invariant.limit in let most = r.limit in omega (arith, low, room, most))

  -- the node 0
  root_below : (x : ℕ) → x ≡ 0 → NodeBelow r.words.next x
  root_below x zero = (let some = r.invariant.kinds.some in omega (arith, zero, some))

  -- the internal node of a card
  inner_born : (d : ℕ) → is_node_born (r.stages d) 0 ≡ true → Born r.stages (internal d)
  inner_born d born = (λ t. is_node_born (r.stages (card_is t)) (place_is t)) ∙ born
    where
      card_is : (4 * d) / 4 ≡ d
      card_is = omega arith

      place_is : (4 * d) % 4 ≡ 0
      place_is = omega arith

  -- its children and its update word, where it came into the tree
  born_child : (d : ℕ) (right : Bool) → is_node_born (r.stages d) 0 ≡ true → NodeBelow r.words.next (r.words.child (internal d) right)
  born_child d right born =
      let at = inner_born d born in
      born_below (r.words.child (internal d) right) ((r.invariant.words.children (internal d) (omega arith) at).born right)

  born_update : (d : ℕ) → is_node_born (r.stages d) 0 ≡ true → NodeBelow r.words.next (r.words.update (internal d))
  born_update d born = (r.invariant.words.updates (internal d) (omega arith) (inner_born d born)).named

  -- the card's own leaf, or the node above which it goes
  either_below : (b : Bool) (x y : ℕ) → NodeBelow r.words.next x → NodeBelow r.words.next y → NodeBelow r.words.next (if b then x else y)
  either_below true x y low low' = low
  either_below false x y low low' = low'

  left_below : (d : ℕ) → d < r.words.next → NodeBelow r.words.next (left_leaf d)
  left_below d low = omega (arith, low)

  right_below : (d : ℕ) → d < r.words.next → NodeBelow r.words.next (right_leaf d)
  right_below d low = omega (arith, low)

  -- and where it did not
  unborn_child : (d : ℕ) (right : Bool) → d < r.words.next → Unborn r.words d → NodeBelow r.words.next (r.words.l d)
      → NodeBelow r.words.next (r.words.child (internal d) right)
  unborn_child d false low unborn lower =
      subst (NodeBelow r.words.next) (sym (unborn.children false))
      (either_below (stays_below (is_flat r.words) (r.words.l d) && nat_le (r.words.key (r.words.l d)) (insert_key r.words d)) (r.words.l d) (left_leaf d) lower (left_below d low))
  unborn_child d true low unborn lower =
      subst (NodeBelow r.words.next) (sym (unborn.children true))
      (either_below (stays_below (is_flat r.words) (r.words.l d) && nat_lt (insert_key r.words d) (r.words.key (r.words.l d))) (r.words.l d) (right_leaf d) lower (right_below d low))

  unborn_update : (d : ℕ) → Unborn r.words d → NodeBelow r.words.next (r.words.update (internal d))
  unborn_update d unborn = (let some = r.invariant.kinds.some in let calm = unborn.calm in omega (arith, some, calm))

  -- what a card says that goes into the tree, or came with it
  record PutBelow (d : ℕ) : Type 0 where
    parent : NodeBelow r.words.next (r.words.p d)
    lower : NodeBelow r.words.next (r.words.l d)
    child : (right : Bool) → NodeBelow r.words.next (r.words.child (internal d) right)
    update : NodeBelow r.words.next (r.words.update (internal d))

  start_below : (d : ℕ) → is_start (r.stages d) ≡ true → PutBelow d
  start_below d start = (let nowhere = r.invariant.kinds.start d start in record {
    parent = root_below (r.words.p d) nowhere.parent;
    lower = root_below (r.words.l d) nowhere.leaf;
    child = λ right. born_child d right (start-born (r.stages d) 0 (omega arith) start);
    update = born_update d (start-born (r.stages d) 0 (omega arith) start);
  })

  insert_below : (d : ℕ) → d < r.words.next → is_insert (r.stages d) ≡ true → PutBelow d
  insert_below d low insert = by (is_born (r.stages d)) refl
    where
      at : NodeBelow r.words.next (r.words.l d)
      at = born_below (r.words.l d) ((r.invariant.words.cards d).insert insert).lower

      above : NodeBelow r.words.next (r.words.p d)
      above = born_below (r.words.p d) ((r.invariant.words.cards d).insert insert).parent.born

      by : (b : Bool) → is_born (r.stages d) ≡ b → PutBelow d
      by true is = record {
        parent = above;
        lower = at;
        child = λ right. born_child d right (born-inner (r.stages d) is);
        update = born_update d (born-inner (r.stages d) is);
      }
      by false is = (let unborn = (r.invariant.words.cards d).unborn insert is in record {
        parent = above;
        lower = at;
        child = λ right. unborn_child d right low unborn at;
        update = unborn_update d unborn;
      })

  -- so each of its words
  put_word : (d : ℕ) (f : Field) → is_delete (r.stages d) ≡ false → says (r.stages d) f ≡ true → PutBelow d → WordBelow r.words.next f (table_word r.words d f)
  put_word d field.Gp other said put = absurd (true≢false (sym said ∙ ap (λ b. if b then true else false) other))
  put_word d field.P other said put = put.parent
  put_word d field.L other said put = link_below (r.words.l d) (r.words.expects d) put.lower
  put_word d field.Was other said put = absurd (true≢false (sym said ∙ ap (λ b. if b then true else false) other))
  put_word d field.Key other said put = tt
  put_word d field.Left other said put = link_below (r.words.child (internal d) false) (r.words.tag (internal d) false) (put.child false)
  put_word d field.Right other said put = link_below (r.words.child (internal d) true) (r.words.tag (internal d) true) (put.child true)
  put_word d field.Update other said put = put.update
  put_word d field.LeftLeafKey other said put = tt
  put_word d field.RightLeafKey other said put = tt
  put_word d field.LeftValue other said put = tt
  put_word d field.RightValue other said put = tt

  -- and each that a delete's card says
  cut_word : (d : ℕ) (f : Field) → d < r.words.next → is_delete (r.stages d) ≡ true → says (r.stages d) f ≡ true
      → WordBelow r.words.next f (table_word r.words d f)
  cut_word d field.Gp low delete said = born_below (r.words.gp d) ((r.invariant.words.cards d).delete delete).grandparent.born
  cut_word d field.P low delete said = born_below (r.words.p d) ((r.invariant.words.cards d).delete delete).parent.born
  cut_word d field.L low delete said =
      link_below (r.words.l d) (r.words.expects d) (born_below (r.words.l d) ((r.invariant.words.cards d).delete delete).leaf.born)
  cut_word d field.Was low delete said = (let less = ((r.invariant.words.cards d).delete delete).earlier in omega (arith, less, low))
  cut_word d field.Left low delete said = absurd (true≢false (sym said ∙ ap (λ b. if b then false else true) delete))
  cut_word d field.Right low delete said = absurd (true≢false (sym said ∙ ap (λ b. if b then false else true) delete))
  cut_word d field.Update low delete said = absurd (true≢false (sym said ∙ ap (λ b. if b then false else true) delete))
  cut_word d field.Key low delete said = tt
  cut_word d field.LeftLeafKey low delete said = tt
  cut_word d field.RightLeafKey low delete said = tt
  cut_word d field.LeftValue low delete said = tt
  cut_word d field.RightValue low delete said = tt

  -- a card that has won its flag is below the claim word, and so are the cards that its words name
  pub won_below : (d : ℕ) → HasWon r.stages d → d < r.words.next
  won_below d won = claimed_below d won.0

  pub words_below : (d : ℕ) (f : Field) → HasWon r.stages d → says (r.stages d) f ≡ true → WordBelow r.words.next f (listed s.words d f)
  words_below d f won said = subst (WordBelow r.words.next f) (sym (r.settled d f won.1)) (by (is_delete (r.stages d)) refl)
    where
      low : d < r.words.next
      low = won_below d won

      put : is_delete (r.stages d) ≡ false → PutBelow d
      put other = elim (put_kinds (r.stages d) won other) [
        | inl start ↦ start_below d start
        | inr insert ↦ insert_below d low insert
      ]

      by : (b : Bool) → is_delete (r.stages d) ≡ b → WordBelow r.words.next f (table_word r.words d f)
      by true is = cut_word d f low is said
      by false is = put_word d f is said (put is)

  -- so cards that had won their flags stay where names stay below the claim word, and the stages are later ones
  pub others_stay : (name name' : ℕ → ℕ) → ((d : ℕ) → d < r.words.next → name' d ≡ name d) → (stage' : Stages) → StagesLater r.stages stage'
      → OthersStay name name' s.words r.stages stage'
  others_stay name name' same stage' later = record {
    names = λ d won. same d (won_below d won);
    words = λ d f won said. word_stays r.words.next name name' same f (listed s.words d f) (words_below d f won said);
    later = λ d won. won_later r.stages stage' later d won;
    kinds = λ d f won said. says_before r.stages stage' later d f won said;
  }
