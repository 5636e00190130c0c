use Rattle.std.proofs.Common.{◌≡◌, ℕ, zero, suc, List, [], ◌∷◌, get_or, slice_index, sym, ap, ◌∙◌}
use mathlib.Core.Option.{some, some-injective, some-ne-none}
use lib.ListN.{get_elem?}
use Rattle.std.specs.Slots.{slots_items}
use Rattle.ell_layout.specs.Words.{word, words_of}
use Rattle.ell_layout.specs.Cards.{says_by}
use Rattle.ell_layout.proofs.lemmas.Listed.{said_in_list}
use Rattle.ell_cards.specs.Closed.{ClosedModel}
use Rattle.ell_cards.proofs.closed.Closed.word.Goals as goal

-- what stands at a place is what is read there
read_there : (l : List ℕ) (i x : ℕ) → get_elem? l i ≡ some x → get_or l i 0 ≡ x
read_there [] i x e = absurd (some-ne-none x (sym e))
read_there (y ∷ ys) zero x e = some-injective _ _ e
read_there (y ∷ ys) (suc i) x e = read_there ys i x e

pub returns : goal.returns
returns g c =
    let words = slots_items c.self.inside.closed.words in
    let stands = sym (read_there words c.address.result c.word.result c.word.ensures) ∙ ap (slice_index words) c.address.ensures in
    c.says.ensures
    ∙ (ap (says_by c.args.field) stands
    ∙ (sym (said_in_list words c.args.card c.args.field)
    ∙ ap (λ (m : ClosedModel). word (words_of m.words) c.args.card c.args.field) c.self.view_is))
