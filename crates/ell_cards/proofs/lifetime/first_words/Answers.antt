use Rattle.std.proofs.Common.{ℕ, List, length, get_or, ap, ◌∙◌, subst}
use Rattle.ell_cards.specs.Shown.{IsWord}
use Rattle.ell_layout.specs.Layout.{table_size}
use Rattle.ell_runs.specs.Plans.{TablePlan}
use Rattle.ell_cards.specs.Models.{last_slot}
use Rattle.ell_cards.proofs.lemmas.whole.Opens.{whole_by, whole_length}
use Rattle.ell_cards.proofs.lemmas.whole.Starting.{whole_first}
use Rattle.ell_cards.proofs.lifetime.first_words.Goals as goal

pub returns-clause-whole : goal.returns-clause-whole
returns-clause-whole g c =
    let cards = c.in_ok-cards.cards.items in
    whole_first c.args.plan.now c.requires.may cards c.in_ok-words.words.items (subst (λ (l : List ℕ). (i : ℕ) → IsWord (get_or l i 0)) c.as_slice.ensures.value c.are_words.ensures)
    (c.in_ok-cards.ensures.size ∙ (ap table_size c.last_slot-last.ensures ∙ ap (λ (p : TablePlan). table_size (last_slot p)) c.plan.view_is))
    c.in_ok-cards.ensures.are
    (whole_by c.plan.inside.slots c.args.plan.now.slots c.start_count.result (length c.args.plan.now.start) cards c.in_ok-words.words.items c.in_ok-words.ensures (ap (λ (p : TablePlan). p.slots) c.plan.view_is) c.start_count.ensures)

pub returns-clause-size : goal.returns-clause-size
returns-clause-size g c =
    let cards = c.in_ok-cards.cards.items in
    whole_length c.args.plan.now c.requires.may cards c.in_ok-words.words.items
    (c.in_ok-cards.ensures.size ∙ (ap table_size c.last_slot-last.ensures ∙ ap (λ (p : TablePlan). table_size (last_slot p)) c.plan.view_is))
    (whole_by c.plan.inside.slots c.args.plan.now.slots c.start_count.result (length c.args.plan.now.start) cards c.in_ok-words.words.items c.in_ok-words.ensures (ap (λ (p : TablePlan). p.slots) c.plan.view_is) c.start_count.ensures)
