use Rattle.std.proofs.Common.{if◌then◌else◌, is_some, ap, ◌∙◌, sym, subst, arith}
use Rattle.atomic_table.specs.Table.{Me}
use Rattle.ell_cards.specs.declared.view.Known.{Known}
use Rattle.ell_cards.specs.Models.{PassModel}
use Rattle.ell_runs.specs.Views.{IsFree}
use Rattle.ell_cards.specs.Inside.{PassFits}
use Rattle.ell_runs.specs.Changes.{joined_view}
use Rattle.ell_cards.specs.Shown.{shown}
use Rattle.ell_cards.specs.Epochs.{after_give}
use Rattle.ell_cards.proofs.lemmas.lifetimes.Fits.{joined_fits}
use Rattle.ell_cards.proofs.lemmas.seats.Opened.{of_table, own_size}
use Rattle.ell_cards.proofs.lemmas.whole.Parting.{whole_joins}
use Rattle.ell_cards.proofs.lemmas.whole.Standings.{joined_standing_fits, size_some}
use Rattle.ell_cards.proofs.table.CardTable.join.Goals as goal

pub join_seat-requires : goal.join_seat-requires
join_seat-requires g c =
    let key = g.M.Memory.key c.self.inside.table in
    let k = c.left.inside.seat.me.0 in
    let l = c.right.inside.seat.me.0 in
    let size = c.self.invariant.words in
    let fit = c.self.invariant.fit in
    let enough = size_some key in (
      of_table _ _ _ _ c.self.view_is c.left.view_is c.requires.left size fit,
      of_table _ _ _ _ c.self.view_is c.right.view_is c.requires.right size fit,
      c.right.invariant.bare,
      omega arith,
      whole_joins key k l (subst (λ (p : PassModel). IsFree p.view) (sym c.left.view_is) c.requires.left_free)
          (subst (λ (p : PassModel). IsFree p.view) (sym c.right.view_is) c.requires.right_free) c.right.invariant.stands.lost
          c.left.inside.seat.id c.right.inside.seat.id,
    )

pub invariant_of-result : goal.invariant_of-result
invariant_of-result g c =
    let size = c.self.invariant.words in
    let fit = c.self.invariant.fit in
    let now = c.join_seat.ensures in
    let back = c.give_back.ensures in
    let left_words = ap (λ i. i.words) (back.leaves.table ∙ now.0) in
    let right_words = own_size _ _ _ _ c.self.view_is c.left.view_is c.requires.left size fit
    ∙ sym (own_size _ _ _ _ c.self.view_is c.right.view_is c.requires.right size fit) in
    let tree = ap shown (back.leaves.tree ∙ ap (λ (m : Me (Unit {0}) Known). m.0.tree) now.2) in record {
      fits = subst (PassFits c.in-Ok.keys.items c.joined.result c.give_back.new.seat.table_id.words) (sym tree)
          (subst (λ s. PassFits c.in-Ok.keys.items s c.give_back.new.seat.table_id.words (joined_view (shown c.left.inside.seat.me.0.tree) (shown c.right.inside.seat.me.0.tree))) (sym c.joined.ensures)
          (joined_fits _ _ _ _ _ _ _ _ _ _ _ _ c.left.invariant.fits c.right.invariant.fits left_words (left_words ∙ right_words)
          c.as_slice.ensures.value c.as_slice-2.ensures.value c.in-Ok.ensures));
      bare = back.leaves.empty;
      stands = joined_standing_fits _ _ _ c.right.inside.standing.announcement c.left.inside.seat.me.0.participant c.right.inside.seat.me.0.participant _ left_words c.right.invariant.stands.announcement
          (back.given ∙ ap (λ (m : Me (Unit {0}) Known). if is_some c.right.inside.standing.announcement then after_give m.0.participant else m.0.participant) now.2) c.left.invariant.stands;
    }
