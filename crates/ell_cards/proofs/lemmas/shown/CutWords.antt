-- Words that are cut to 64 bits: the nodes and links that they say, and how they compare.
use Rattle.std.proofs.Common.{◌≡◌, ℕ, ◌%◌, ◌<◌, ◌≤◌, ◌==◌, Bool, true, false, refl, sym, ap, ◌∙◌, arith, eqb-true, eq-eqb, true≢false}
use Rattle.ell_word.specs.declared.link.Link.{Link}
use Rattle.ell_word.specs.Node.{card}
use Rattle.ell_word.specs.Link.{linked, link_in, tag_unit}
use Rattle.ell_cards.specs.Apart.{cut_node}
use Rattle.ell_cards.specs.SlotWords.{slot_of}
use Rattle.ell_cards.specs.Shown.{IsNear, IsWord, cut_word, cut_tag, shown_link}

-- a node that was cut stays, is no greater, and is at the same place of its card
pub node_again : (x : ℕ) → cut_node (cut_node x) ≡ cut_node x
node_again x = omega arith

pub node_within : (x : ℕ) → cut_node x ≤ x
node_within x = omega arith

pub node_place : (x : ℕ) → cut_node x % 4 ≡ x % 4
node_place x = omega arith

pub node_slot : (x : ℕ) → slot_of (card (cut_node x)) ≡ slot_of (card x)
node_slot x = omega arith

pub node_is_word : (x : ℕ) → cut_word (cut_node x) ≡ cut_node x
node_is_word x = omega arith

pub node_small : (x : ℕ) → x < tag_unit → cut_node x ≡ x
node_small x small = omega arith

-- two nodes are cut to the same exactly if they are the same, where that is so of them
pub same_cut : (y x : ℕ) → (cut_node y ≡ cut_node x → y ≡ x) → (cut_node y == cut_node x) ≡ (y == x)
same_cut y x apart = by (y == x) refl
  where
    by : (b : Bool) → (y == x) ≡ b → (cut_node y == cut_node x) ≡ b
    by true same = eq-eqb (cut_node y) (cut_node x) (ap cut_node (eqb-true y x same))
    by false other = cases (cut_node y == cut_node x) refl
      where
        cases : (b : Bool) → (cut_node y == cut_node x) ≡ b → b ≡ false
        cases false is = refl
        cases true is = absurd (true≢false (sym (eq-eqb y x (apart (eqb-true (cut_node y) (cut_node x) is))) ∙ other))

-- the node and the tag that a child word says are cut
pub cut_node_in : (n : ℕ) → (link_in (cut_word n)).node ≡ cut_node (link_in n).node
cut_node_in n = omega arith

pub cut_tag_in : (n : ℕ) → (link_in (cut_word n)).tag ≡ cut_tag (link_in n).tag
cut_tag_in n = omega arith

-- the word of a link is cut to that of the link with its node and its tag cut
pub cut_linked : (node tag : ℕ) → cut_word (linked (record { node = node; tag = tag })) ≡ linked (record { node = cut_node node; tag = cut_tag tag })
cut_linked node tag = omega arith

-- a number that a word holds stays, and each one that was cut is such a number
pub cut_same : (n : ℕ) → IsWord n → cut_word n ≡ n
cut_same n small = omega (arith, small)

pub cut_within : (n : ℕ) → cut_word n ≤ n
cut_within n = omega arith

-- and it compares as it is
pub compares_alike : (n expected : ℕ) → IsWord n → (cut_word n == expected) ≡ (n == expected)
compares_alike n expected small = ap (λ m. m == expected) (cut_same n small)

pub cut_again : (n : ℕ) → cut_word (cut_word n) ≡ cut_word n
cut_again n = omega arith

-- a tag is cut to no greater one, and a tag that was cut stays
pub tag_again : (tag : ℕ) → cut_tag (cut_tag tag) ≡ cut_tag tag
tag_again tag = omega arith

pub tag_within : (tag : ℕ) → cut_tag tag ≤ tag
tag_within tag = omega arith

pub number_again : (n : ℕ) → linked (link_in n) ≡ n
number_again n = omega arith

-- a child word compares as it is with a link that is near it
pub links_alike : (n : ℕ) (l : Link) → IsNear l n → (cut_word n == linked (shown_link l)) ≡ (n == linked l)
links_alike n l near = by (n == linked l) refl
  where
    by : (b : Bool) → (n == linked l) ≡ b → (cut_word n == linked (shown_link l)) ≡ b
    by true same = eq-eqb (cut_word n) (linked (shown_link l)) (ap cut_word (eqb-true n (linked l) same) ∙ cut_linked l.node l.tag)
    by false other = cases (cut_word n == linked (shown_link l)) refl
      where
        -- the same words have the same tag, as that is so near, and so the same node
        same_link : cut_word n ≡ linked (shown_link l) → n ≡ linked l
        same_link cut =
            let tags : cut_tag (link_in n).tag ≡ cut_tag l.tag = sym (cut_tag_in n) ∙ (ap (λ m. (link_in m).tag) cut ∙ omega arith) in
            let least = near.least in
            let most = near.most in
            let tag : (link_in n).tag ≡ l.tag = omega (arith, tags, least, most) in
            let node = near.same tag in
            sym (number_again n) ∙ (λ t. linked (record { node = node t; tag = tag t }))

        cases : (b : Bool) → (cut_word n == linked (shown_link l)) ≡ b → b ≡ false
        cases false is = refl
        cases true is = absurd (true≢false (sym (eq-eqb n (linked l) (same_link (eqb-true (cut_word n) (linked (shown_link l)) is))) ∙ other))
