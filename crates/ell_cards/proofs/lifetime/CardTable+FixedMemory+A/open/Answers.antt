use Rattle.std.proofs.Common.{◌≡◌, ◌+◌, ◌≤◌, ◌∙◌, None, false, ap, sym, subst, arith}
use Rattle.ell_word.specs.Node.{greatest_card, greatest_number}
use Rattle.ell_runs.specs.Depths.{deepest}
use Rattle.ell_runs.proofs.lemmas.Ranks.{deepest_most}
use Rattle.atomic_table.specs.Table.{Me}
use Rattle.ell_cards.specs.declared.pass.Standing.{Standing}
use Rattle.ell_cards.specs.declared.share.Share.{Share}
use Rattle.ell_cards.specs.declared.view.Known.{Known}
use Rattle.ell_runs.specs.Plans.{TablePlan, flat_from}
use Rattle.ell_runs.specs.Views.{whole_share}
use Rattle.ell_runs.specs.Changes.{first_of}
use Rattle.ell_cards.specs.Inside.{PassFits, StandingFits}
use Rattle.ell_cards.specs.Epochs.{first_participant, participant_by, whole_size}
use Rattle.ell_cards.specs.Shown.{shown}
use Rattle.ell_runs.specs.Starts.{SlotsFit}
use Rattle.ell_cards.proofs.lemmas.lifetimes.Fits.{first_fits}
use Rattle.ell_cards.proofs.lemmas.whole.Standings.{first_standing_fits, size_some}
use Rattle.ell_cards.proofs.lifetime.CardTable+FixedMemory+A.open.Goals as goal

pub invariant_of-pass : goal.invariant_of-pass
invariant_of-pass g c =
    let keys = c.plan.inside.keys.items in
    let share : Share = record { units = whole_share; counts = c.plan.inside.shared } in
    let words = c.in_ok-table.seat.table_id.words in
    let table = c.in_ok-table.ensures.0 in
    let knows = table.knows in
    let size = ap (λ i. i.words) table.own ∙ table.words in
    let enough = size_some c.args.plan in
    let stands = c.first.ensures ∙ ap (λ (p : TablePlan). record { announcement = (participant_by p.slots).announcement; announces = false; found = 0; safe_epoch = 0; numbers = 0 }) c.plan.view_is in record {
      fits = subst (λ (m : Me (Unit {0}) Known). PassFits keys share words (shown m.0.tree)) (sym knows)
          (subst (λ (p : TablePlan). PassFits p.keys (record { units = whole_share; counts = p.shared }) words (first_of c.args.plan)) (sym c.plan.view_is)
          (first_fits c.args.plan words (omega arith) c.requires.may.ascending));
      bare = ap (λ (m : Me (Unit {0}) Known). m.1) knows;
      stands = subst (λ (m : Me (Unit {0}) Known). StandingFits c.first.result words m.0.participant) (sym knows)
          (subst (λ (s : Standing). StandingFits s words (first_participant c.args.plan)) (sym stands) (first_standing_fits c.args.plan.slots c.args.plan.last_card words size));
    }

pub invariant_of-table : goal.invariant_of-table
invariant_of-table g c =
    let table = c.in_ok-table.ensures.0 in
    let key = c.in_ok-table.ensures.1 in
    let last = ap (λ (p : TablePlan). p.last_card) key in record {
      words = table.words ∙ ap whole_size (sym key);
      bare = table.slots;
      limit = omega (arith, c.requires.cards, last);
      last_card = ap (λ (p : TablePlan). p.last_card) c.plan.view_is ∙ sym last;
      shared = ap (λ (p : TablePlan). p.shared) c.plan.view_is ∙ sym (ap (λ (p : TablePlan). p.shared) key);
      first_block = c.first_block-first_block.ensures ∙ ap flat_from (sym key);
      depth = (let most = deepest_most c.args.plan greatest_number c.requires.cards (let few = c.requires.few in omega arith) in let same = ap deepest key in omega arith);
      slots = ap (λ (p : TablePlan). p.slots) c.plan.view_is ∙ sym (ap (λ (p : TablePlan). p.slots) key);
      fit = subst (λ (p : TablePlan). SlotsFit p p.slots) (sym key) c.requires.may.slots;
      plain_depth = subst (λ (p : TablePlan). p.slots ≡ None → deepest p ≤ greatest_card + 64) (sym key)
          (λ none. deepest_most c.args.plan greatest_card (subst (SlotsFit c.args.plan) none c.requires.may.slots) c.requires.few);
    }
