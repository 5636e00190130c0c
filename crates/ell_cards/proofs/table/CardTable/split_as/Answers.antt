use Rattle.std.proofs.Common.{◌≢◌, ◌-◌, not, is_some, None, ap, ◌∙◌, sym, subst, arith}
use Rattle.std.proofs.lemmas.Bool.{false≢true}
use Rattle.atomic_table.specs.Table.{Me}
use Rattle.ell_cards.specs.declared.view.Known.{Known}
use Rattle.ell_cards.specs.Inside.{HasShare, PassFits, StandingFits}
use Rattle.ell_cards.specs.Models.{PassModel, TableModel}
use Rattle.ell_runs.specs.Views.{given_share}
use Rattle.ell_cards.specs.Epochs.{whole_size}
use Rattle.ell_runs.specs.Changes.{left_view, right_view}
use Rattle.ell_cards.specs.Shown.{shown}
use Rattle.ell_cards.specs.Stepping.{MayHave, MaySplit}
use Rattle.ell_cards.proofs.lemmas.seats.Opened.{of_table, own_size, part_fits}
use Rattle.ell_cards.proofs.lemmas.whole.Parting.{whole_splits}
use Rattle.ell_cards.proofs.lemmas.whole.Standings.{none_is, found_is, left_standing_fits, right_standing_fits, size_some}
use Rattle.ell_cards.proofs.table.CardTable.split_as.Goals as goal
use Rattle.ell_cards.proofs.table.CardTable.split_as.Goals.{else-is_some-via-then-is_some+else-is_none, else-is_some-via-else-is_some}

pub split_seat-other-requires : goal.split_seat-other-requires
split_seat-other-requires g c =
    let seat = c.find_announcement-announcement.new.seat in
    let is = c.find_announcement-announcement.ensures in
    let key = g.M.Memory.key c.self.inside.table in
    let found = found_is _ _ _ _ c.pass.invariant.stands.other is.taken is.lost in
    let same = ap shown is.leaves.tree ∙ ap (λ (m : PassModel). m.view) c.pass.view_is in
    let may = subst MaySplit (sym same) c.requires.may in
    let size = c.self.invariant.words in
    let enough = size_some key in (
      is.leaves.table ∙ of_table _ _ _ _ c.self.view_is c.pass.view_is c.requires.own c.self.invariant.words c.self.invariant.fit,
      omega arith,
      whole_splits key seat.me.0 g.J.SplitBy.keys found.quiet (record { free = may.free; may = may.may }) seat.id,
    )

pub invariant_of-left : goal.invariant_of-left
invariant_of-left g c =
    let is = c.find_announcement-announcement.ensures in
    let now = c.split_seat-other.ensures in
    let tree = c.find_announcement-announcement.new.seat.me.0.tree in
    let same = ap shown is.leaves.tree ∙ ap (λ (m : PassModel). m.view) c.pass.view_is in
    let words = ap (λ i. i.words) (now.0 ∙ is.leaves.table) in
    let found = found_is _ _ _ _ c.pass.invariant.stands.other is.taken is.lost in
    let shares = c.requires.shares c.pass.inside.share (subst (λ (p : PassModel). HasShare c.pass.inside.share p.view) c.pass.view_is c.pass.invariant.fits.share) in record {
      fits = subst (λ (m : Me (Unit {0}) Known). PassFits c.args.left.items c.parted.result.0 c.split_seat-other.new.seat.table_id.words (shown m.0.tree)) (sym now.2)
          (part_fits _ _ _ _ c.self.view_is c.pass.view_is c.requires.own c.self.invariant.words c.self.invariant.fit c.pass.inside.keys.items c.args.left.items c.pass.inside.share _ _
          (shown (left_view g.J.SplitBy.keys tree)) c.pass.invariant.fits words
          (subst (λ s. HasShare s (shown (left_view g.J.SplitBy.keys tree))) (sym c.parted.ensures.left) (subst (λ v. HasShare (record { units = c.pass.inside.share.units - given_share c.pass.inside.share.units; counts = c.pass.inside.share.counts }) (left_view g.J.SplitBy.keys v)) (sym same) shares.0))
          (subst (λ v. MayHave c.args.pass.view c.args.left.items (left_view g.J.SplitBy.keys v)) (sym same) c.requires.left));
      bare = ap (λ (m : Me (Unit {0}) Known). m.1) now.2 ∙ is.leaves.empty;
      stands = subst (λ (m : Me (Unit {0}) Known). StandingFits c.parted-apart.new.self c.split_seat-other.new.seat.table_id.words m.0.participant) (sym now.2)
          (left_standing_fits _ _ _ _ _ _ _ _ words found c.parted-apart.ensures.own c.pass.invariant.stands);
    }

pub invariant_of-right : goal.invariant_of-right
invariant_of-right g c =
    let is = c.find_announcement-announcement.ensures in
    let now = c.split_seat-other.ensures in
    let tree = c.find_announcement-announcement.new.seat.me.0.tree in
    let same = ap shown is.leaves.tree ∙ ap (λ (m : PassModel). m.view) c.pass.view_is in
    let words = ap (λ i. i.words) (now.3 ∙ is.leaves.table) in
    let found = found_is _ _ _ _ c.pass.invariant.stands.other is.taken is.lost in
    let plan = c.args.self.now.plan in
    let size = words ∙ (own_size _ _ _ _ c.self.view_is c.pass.view_is c.requires.own c.self.invariant.words c.self.invariant.fit
    ∙ ap (λ (m : TableModel). whole_size m.plan) c.self.view_is) in
    let each : plan.slots ≢ None → c.find_announcement-announcement.result ≢ None = λ placed none. elim c.else-is_some.branch [
      | else-is_some-via-then-is_some+else-is_none w ↦ false≢true (sym (ap is_some none) ∙ (w.is_none.ensures ∙ ap not w.if-is_none.false))
      | else-is_some-via-else-is_some w ↦ placed (sym (c.self.invariant.slots ∙ ap (λ (m : TableModel). m.plan.slots) c.self.view_is) ∙ none_is c.self.inside.slots (sym c.is_some.ensures ∙ w.if-is_some.false))
    ] in
    let shares = c.requires.shares c.pass.inside.share (subst (λ (p : PassModel). HasShare c.pass.inside.share p.view) c.pass.view_is c.pass.invariant.fits.share) in record {
      fits = subst (λ (m : Me (Unit {0}) Known). PassFits c.args.right.items c.parted.result.1 c.split_seat-other.result.table_id.words (shown m.0.tree)) (sym now.4)
          (part_fits _ _ _ _ c.self.view_is c.pass.view_is c.requires.own c.self.invariant.words c.self.invariant.fit c.pass.inside.keys.items c.args.right.items c.pass.inside.share _ _
          (shown (right_view g.J.SplitBy.keys tree)) c.pass.invariant.fits words
          (subst (λ s. HasShare s (shown (right_view g.J.SplitBy.keys tree))) (sym c.parted.ensures.right) (subst (λ v. HasShare (record { units = given_share c.pass.inside.share.units; counts = c.pass.inside.share.counts }) (right_view g.J.SplitBy.keys v)) (sym same) shares.1))
          (subst (λ v. MayHave c.args.pass.view c.args.right.items (right_view g.J.SplitBy.keys v)) (sym same) c.requires.right));
      bare = ap (λ (m : Me (Unit {0}) Known). m.1) now.4;
      stands = subst (λ (m : Me (Unit {0}) Known). StandingFits c.parted-apart.result c.split_seat-other.result.table_id.words m.0.participant) (sym now.4)
          (right_standing_fits _ plan.slots plan.last_card _ _ _ _ size found each c.parted-apart.ensures.given);
    }
