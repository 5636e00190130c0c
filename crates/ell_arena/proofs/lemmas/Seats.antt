-- Words that are lent to a seat, of which the one at an address stands first, or not first.
use Rattle.std.proofs.Common.{◌≡◌, ◌≢◌, ℕ, suc, List, ◌∷◌, set, refl, ap, ◌∙◌, eq-eqb, ne_eqb}
use lib.ListN.{get_elem?}
use prog.Atomic.{either}
use Rattle.ell_arena.specs.Seats.{place_of, HasContent, after_put}

pub place_of_first : (a y : ℕ) (lent : List (ℕ × ℕ)) → place_of ((a, y) ∷ lent) a ≡ 0
place_of_first a y lent = ap (λ b. either b 0 (suc (place_of lent a))) (eq-eqb a a refl)

pub place_of_later : (a b y : ℕ) (lent : List (ℕ × ℕ)) → b ≢ a → place_of ((b, y) ∷ lent) a ≡ suc (place_of lent a)
place_of_later a b y lent apart = ap (λ c. either c 0 (suc (place_of lent a))) (ne_eqb b a apart)

pub has_content_first : (a y : ℕ) (lent : List (ℕ × ℕ)) → HasContent ((a, y) ∷ lent) a y
has_content_first a y lent = ap (λ (i : ℕ). get_elem? ((a, y) ∷ lent) i) (place_of_first a y lent)

pub has_content_later : (a b y z : ℕ) (lent : List (ℕ × ℕ)) → b ≢ a → HasContent lent a z → HasContent ((b, y) ∷ lent) a z
has_content_later a b y z lent apart has = ap (λ (i : ℕ). get_elem? ((b, y) ∷ lent) i) (place_of_later a b y lent apart) ∙ has

pub after_put_first : (a y n : ℕ) (lent : List (ℕ × ℕ)) → after_put ((a, y) ∷ lent) a n ≡ (a, suc n) ∷ lent
after_put_first a y n lent = ap (λ (i : ℕ). set ((a, y) ∷ lent) i (a, suc n)) (place_of_first a y lent)

pub after_put_later : (a b y n : ℕ) (lent : List (ℕ × ℕ)) → b ≢ a → after_put ((b, y) ∷ lent) a n ≡ (b, y) ∷ after_put lent a n
after_put_later a b y n lent apart = ap (λ (i : ℕ). set ((b, y) ∷ lent) i (a, suc n)) (place_of_later a b y lent apart)
