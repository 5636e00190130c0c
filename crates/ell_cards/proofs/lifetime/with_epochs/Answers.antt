use Rattle.std.proofs.Common.{◌≡◌, ◌≤◌, IfSome, length, get_or, ap, ◌∙◌, subst}
use Rattle.ell_layout.specs.Layout.{table_size}
use Rattle.ell_word.specs.Node.{greatest_card}
use Rattle.ell_cards.proofs.lemmas.whole.Opens.{opens_used}
use Rattle.ell_cards.proofs.lifetime.with_epochs.Goals as goal

pub returns : goal.returns
returns g c =
    let fit = subst (λ o. IfSome o (λ s. (c.args.given ≤ s.last) × (s.last ≤ greatest_card) × (s.announcements ≤ greatest_card) × (length c.args.words.items ≡ table_size s.last))) c.in-Some.is c.requires.fit in
    opens_used c.args.slots c.in-Some.slots c.args.given c.in_ok-words.words.len c.args.words.items c.in_ok-words.words.items c.use_slots.new.words c.in-Some.is fit.3 c.in_ok-words.ensures
    c.in_ok-words.words.ok.0 c.use_slots.ensures.size c.use_slots.ensures.used
    (λ i apart. c.use_slots.ensures.same i apart ∙ ap (λ l. get_or l i 0) c.as_mut_slice.ensures.value)
