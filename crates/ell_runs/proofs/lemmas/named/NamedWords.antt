-- Words by names of cards: what they say, and how they compare.
use Rattle.std.proofs.Common.{◌≢◌, ◌⊎◌, ◌≤◌, ◌&&◌, ◌||◌, nat_le, nat_lt, not, inl, inr, ◌≡◌, ℕ, ◌+◌, ◌*◌, ◌/◌, ◌%◌, ◌<◌, ◌==◌, Bool, true, false, Option, Some, None, refl, sym, ap, ◌∙◌, arith, eqb-true, eq-eqb, true≢false, unwrap_or}
use Rattle.std.specs.Option.{option_map}
use Rattle.std.proofs.lemmas.Bool.{cases_eq, le-leb}
use Rattle.ell_word.specs.declared.update.State.{State}
use Rattle.ell_word.specs.declared.update.State.TheVariants as state
use Rattle.ell_word.specs.declared.update.Update.{Update}
use Rattle.ell_word.specs.Word.{packed, unpacked, state_of, state_number}
use Rattle.ell_word.specs.declared.link.Link.{Link}
use Rattle.ell_word.specs.Link.{linked, link_in}
use Rattle.ell_layout.specs.Words.{has_block}
use Rattle.ell_runs.specs.NamedTakings.{BlocksAreNamed}
use Rattle.ell_runs.specs.Named.{IsNaming, named_node, named_update, named_link, named_child, FitsLink, LinksFit}
use Rattle.ell_word.specs.Node.{card}
use Rattle.ell_word.proofs.Numbers.{link_back, linked_again}

-- two numbers compare as what a function makes of them, where that tells them apart
compare_alike : (f : ℕ → ℕ) (a b : ℕ) → (f a ≡ f b → a ≡ b) → (f a == f b) ≡ (a == b)
compare_alike f a b apart = by (a == b) refl
  where
    by : (r : Bool) → (a == b) ≡ r → (f a == f b) ≡ r
    by true same = eq-eqb (f a) (f b) (ap f (eqb-true a b same))
    by false other = cases (f a == f b) refl
      where
        cases : (r : Bool) → (f a == f b) ≡ r → r ≡ false
        cases false is = refl
        cases true is = absurd (true≢false (sym (eq-eqb a b (apart (eqb-true (f a) (f b) is))) ∙ other))

module _ (name : ℕ → ℕ) (naming : IsNaming name) where
  -- nodes that have the same name are the same, and so are update words
  pub same_named : (x y : ℕ) → named_node name x ≡ named_node name y → x ≡ y
  same_named x y same =
      let cards : name (card x) ≡ name (card y) = omega (arith, same) in
      let card = naming.apart (card x) (card y) cards in
      let place : x % 4 ≡ y % 4 = omega (arith, same) in
      omega (arith, card, place)

  -- nodes compare as they do by names
  pub nodes_alike : (x y : ℕ) → (named_node name x == named_node name y) ≡ (x == y)
  nodes_alike x y = compare_alike (named_node name) x y (same_named x y)

  -- cards compare as they do by names
  pub cards_alike : (c d : ℕ) → (name c == name d) ≡ (c == d)
  cards_alike c d = compare_alike name c d (naming.apart c d)

  -- the root is the root by name
  pub root_named : named_node name 0 ≡ 0
  root_named = (let root = naming.root in omega (arith, root))

  -- a node by name stands at the same place of its card
  pub place_named : (x : ℕ) → named_node name x % 4 ≡ x % 4
  place_named x = omega arith

  -- and on the card of that name
  pub card_named : (x : ℕ) → card (named_node name x) ≡ name (card x)
  card_named x = omega arith

  -- an update word by name says the update by name
  pub unpacked_named : (n : ℕ) → unpacked (named_node name n) ≡ named_update name (unpacked n)
  unpacked_named n = λ t. record { state = state_of (place_named n t); card = card_named n t }

  -- the word of an update, by name, is that of the update by name
  pub packed_named : (u : Update) → named_node name (packed u) ≡ packed (named_update name u)
  packed_named u = by (state_number u.state) (small u.state)
    where
      small : (s : State) → state_number s < 4
      small state.IFlag = omega arith
      small state.DFlag = omega arith
      small state.Mark = omega arith
      small state.Clean = omega arith

      by : (n : ℕ) → n < 4 → named_node name (4 * u.card + n) ≡ 4 * name u.card + n
      by n low =
          let card : (4 * u.card + n) / 4 ≡ u.card = omega (arith, low) in
          let place : (4 * u.card + n) % 4 ≡ n = omega (arith, low) in
          λ t. 4 * name (card t) + place t

  -- a word that was read, or 0
  pub read_named : (o : Option ℕ) → named_node name (unwrap_or o 0) ≡ unwrap_or (option_map (named_node name) o) 0
  read_named None = root_named
  read_named (Some n) = refl

  -- a word compares with that of an update as it does by names
  pub updates_alike : (n : ℕ) (u : Update) → (named_node name n == packed (named_update name u)) ≡ (n == packed u)
  updates_alike n u = ap (λ m. named_node name n == m) (sym (packed_named u)) ∙ nodes_alike n (packed u)

  -- a child word by name says the link by name
  pub link_named : (n : ℕ) → FitsLink name (link_in n).node → link_in (named_child name n) ≡ named_link name (link_in n)
  link_named n fits = link_back (named_node name (link_in n).node) (link_in n).tag fits

  -- a child word compares with that of a link as it does by names
  pub links_alike : (n : ℕ) (l : Link) → LinksFit name l n → (named_child name n == linked (named_link name l)) ≡ (n == linked l)
  links_alike n l fit = by (n == linked l) refl
    where
      by : (r : Bool) → (n == linked l) ≡ r → (named_child name n == linked (named_link name l)) ≡ r
      by true same =
          let is : n ≡ linked l = eqb-true n (linked l) same in
          let says : link_in n ≡ l = ap link_in is ∙ link_back l.node l.tag fit.low in
          eq-eqb (named_child name n) (linked (named_link name l)) (ap (λ k. linked (named_link name k)) says)
      by false other = cases (named_child name n == linked (named_link name l)) refl
        where
          same_link : named_child name n ≡ linked (named_link name l) → n ≡ linked l
          same_link is =
              let links : named_link name (link_in n) ≡ named_link name l =
              sym (link_named n fit.found) ∙ (ap link_in is ∙ link_back (named_node name l.node) l.tag fit.expected) in
              let node = same_named (link_in n).node l.node (ap (λ (k : Link). k.node) links) in
              let tag : (link_in n).tag ≡ l.tag = ap (λ (k : Link). k.tag) links in
              sym (linked_again n) ∙ (λ t. linked (record { node = node t; tag = tag t }))

          cases : (r : Bool) → (named_child name n == linked (named_link name l)) ≡ r → r ≡ false
          cases false is = refl
          cases true is =
              absurd (true≢false (sym (eq-eqb n (linked l) (same_link (eqb-true (named_child name n) (linked (named_link name l)) is))) ∙ other))

  -- in a tree that opens empty the root alone has no block, and so names tell which nodes have one
  pub blocks_are_named : (from : ℕ) → from ≤ 1 → BlocksAreNamed from name
  unfolding has_block
  blocks_are_named from empty x = λ t. nat_lt 0 from && (cards t || not (place_named x t == 0))
    where
      cards : nat_le from (card (named_node name x)) ≡ nat_le from (card x)
      cards = ap (nat_le from) (card_named x) ∙ by (cases_eq (card x) 0)
        where
          by : (card x ≡ 0) ⊎ (card x ≢ 0) → nat_le from (name (card x)) ≡ nat_le from (card x)
          by (inl root) = ap (nat_le from) (ap name root ∙ (naming.root ∙ sym root))
          by (inr other) =
              let named : name (card x) ≢ 0 = λ e. other (naming.apart (card x) 0 (e ∙ sym naming.root)) in
              le-leb from (name (card x)) (omega (arith, empty, named)) ∙ sym (le-leb from (card x) (omega (arith, empty, other)))
