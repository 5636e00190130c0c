use Rattle.std.proofs.Common.{◌≡◌, ◌≢◌, ℕ, ◌==◌, if◌then◌else◌, ap, ◌&&◌, ap₂, true, false}
use Rattle.std.proofs.lemmas.Bool.{eq-eqb, ne_eqb}
use Rattle.ell_core.specs.declared.event.Stepped.TheVariants.{Won, Lost}
use Rattle.ell_layout.specs.Words.{Words, with_update, relinked}
use Rattle.ell_layout.specs.Cards.{exchange_side}
use Rattle.ell_core.specs.acts.Exchanges.{won_or_lost, found_child, exchanged_update, exchanged_child, found_tag, finds_link}
use Rattle.ell_word.specs.declared.link.Link.{Link}

-- an exchange of an update word that is found is won, and puts the new one there
pub update_found : (w : Words) (node expected new : ℕ) → w.update node ≡ expected
    → (won_or_lost (w.update node == expected) ≡ Won) × (exchanged_update w node expected new ≡ with_update w node new)
update_found w node expected new h = let test = eq-eqb (w.update node) expected h in
    (ap won_or_lost test, ap (λ b. if b then with_update w node new else w) test)

-- one that is not found is lost, and changes nothing
pub update_missed : (w : Words) (node expected new : ℕ) → w.update node ≢ expected
    → (won_or_lost (w.update node == expected) ≡ Lost) × (exchanged_update w node expected new ≡ w)
update_missed w node expected new h = let test = ne_eqb (w.update node) expected h in
    (ap won_or_lost test, ap (λ b. if b then with_update w node new else w) test)

-- so with an exchange of a child word that is found
pub child_found : (w : Words) (node : ℕ) (expected : Link) (new : ℕ) → found_tag w node new ≡ expected.tag
    → found_child w node new ≡ expected.node
    → (won_or_lost (finds_link w node expected new) ≡ Won)
    × (exchanged_child w node expected new ≡ relinked w node (exchange_side w node new) new)
child_found w node expected new tag child =
    let test : finds_link w node expected new ≡ true =
    ap₂ (λ a b. a && b) (eq-eqb (found_tag w node new) expected.tag tag) (eq-eqb (found_child w node new) expected.node child) in
    (ap won_or_lost test, ap (λ b. if b then relinked w node (exchange_side w node new) new else w) test)

-- and of one with another tag
pub child_missed : (w : Words) (node : ℕ) (expected : Link) (new : ℕ) → found_tag w node new ≢ expected.tag
    → (won_or_lost (finds_link w node expected new) ≡ Lost) × (exchanged_child w node expected new ≡ w)
child_missed w node expected new tag =
    let test : finds_link w node expected new ≡ false =
    ap (λ a. a && (found_child w node new == expected.node)) (ne_eqb (found_tag w node new) expected.tag tag) in
    (ap won_or_lost test, ap (λ b. if b then relinked w node (exchange_side w node new) new else w) test)
