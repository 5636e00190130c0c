use Rattle.std.proofs.Common.{◌+◌, ◌≡◌, ◌≢◌, Some, length, refl, ap, ◌∙◌, rules, arith}
use Rattle.ell_ops.specs.declared.op.Op.TheVariants.{Delete}
use Rattle.ell_ops.specs.declared.reply.Reply.TheVariants.{Yes}
use Rattle.ell_word.specs.declared.update.State.TheVariants.{Clean}
use Rattle.ell_core.specs.declared.view.Search.{Search}
use Rattle.ell_runs.specs.Depths.{deepest}
use Rattle.ell_cards.specs.Models.{PassModel}
use Rattle.ell_runs.specs.Plans.{flat_from}
use Rattle.ell_runs.specs.Views.{Does}
use Rattle.ell_cards.proofs.lemmas.shown.InRuns.{deletes_take_what_they_tell}
use Rattle.ell_tree.specs.CardsTaken.{cards_taken, TakesNoCard}
use Rattle.ell_tree.specs.Helps.{help_steps}
use Rattle.ell_tree.specs.Hindrances.{Meets, way_of}
use Rattle.ell_tree.specs.Keeping.{KeepsAllButMet}
use Rattle.ell_tree.specs.Searches.{seen_any, below}
use Rattle.ell_runs.specs.Changes.{answered_so}
use Rattle.ell_runs.specs.Guards.{TakesBy}
use Rattle.ell_tree.proofs.lemmas.Sights.{ends_from}
use Rattle.ell_tree.proofs.lemmas.Keeping.{share_trans}
use Rattle.ell_tree.proofs.lemmas.Claiming.{asks_inner, lost_given, lost_meets, may_ask, taken_given, takes_no, takes_one}
use Rattle.ell_tree.proofs.lemmas.LettingGo.{lets_none_go}
use Rattle.ell_tree.proofs.lemmas.Owning.{keeps_answers, asks_answers, had_value, would_delete}
use Rattle.ell_tree.proofs.lemmas.Meeting.{meets_trans, meets_more, above_way, parent_way, nowhere_way, way_over, way_free, no_way}
use Rattle.ell_tree.proofs.lemmas.Halting.{keeps_meets, said_meets, flag_lost}
use Rattle.ell_tree.proofs.lemmas.Filling.{delete_card, delete_wants, told_grandparent, told_leaf, told_parent, told_was}
use Rattle.ell_tree.proofs.lemmas.Milestones.{sees_end, gives_out}
use Rattle.ell_tree.proofs.lemmas.Retiring.{keeps_but_met_retired}
use Rattle.ell_tree.proofs.lemmas.Searches.{unknown_above, named_above, passed_above, searched_in_try}
use Rattle.ell_tree.proofs.deleting.delete_at.Goals as goal

pub take_card-requires-clause-stands : goal.take_card-requires-clause-stands
take_card-requires-clause-stands g c =
    let calm : c.in-Some.above.update.state ≡ Clean = search rules in
    let free : c.args.place.parent.update.state ≡ Clean = search rules in
    let ends = c.requires.searched.ends in
    may_ask c.args.steps.table.now.plan c.args.pass.now.view (Delete c.args.key) c.args.place 0 c.requires.searched.busy ends.at free
    (delete_wants (flat_from c.args.steps.table.now.plan) 0 c.args.pass.now.view c.args.key c.args.place c.in-Some.above ends.at (ends.outer c.requires.key) c.requires.key c.in-Some.is calm)

pub flag_delete-requires-clause-tag : goal.flag_delete-requires-clause-tag
flag_delete-requires-clause-tag g c =
    (passed_above c.args.steps.table.now.plan.last_card c.args.pass.now.view c.args.place.grandparent c.in-Some.above c.in-Some.is c.requires.searched.ends.passed_above).tag

pub flag_delete-requires-clause-card : goal.flag_delete-requires-clause-card
flag_delete-requires-clause-card g c =
    let a = c.args.pass.now in (
      c.args.key,
      delete_card _ _ _ _ _ c.take_card.ensures.asks _ c.in-Card.ensures.claimed c.args.key c.args.place c.in-Some.above c.in-Some.is c.requires.searched.busy
          c.requires.searched.ends.at,
    )

pub finish_own-requires-clause-grandparent : goal.finish_own-requires-clause-grandparent
finish_own-requires-clause-grandparent g c =
    let a = c.args.pass.now in
    let card = delete_card _ _ _ _ _ c.take_card.ensures.asks _ c.in-Card.ensures.claimed c.args.key c.args.place c.in-Some.above c.in-Some.is c.requires.searched.busy
    c.requires.searched.ends.at in
    told_grandparent c.take_card.new.pass.view c.flag_delete.new.pass.view c.in-Card.card c.args.place c.flag_delete.ensures.keeps.view c.args.key c.in-Some.above card

pub finish_own-requires-clause-parent : goal.finish_own-requires-clause-parent
finish_own-requires-clause-parent g c =
    let a = c.args.pass.now in
    let cards = c.args.steps.table.now.plan.last_card in
    let card = delete_card _ _ _ _ _ c.take_card.ensures.asks _ c.in-Card.ensures.claimed c.args.key c.args.place c.in-Some.above c.in-Some.is c.requires.searched.busy
    c.requires.searched.ends.at in
    told_parent c.take_card.new.pass.view c.flag_delete.new.pass.view c.in-Card.card c.args.place c.flag_delete.ensures.keeps.view c.args.key c.in-Some.above card cards
    (asks_inner _ _ _ _ _ c.take_card.ensures.asks cards c.args.place.parent.node c.requires.searched.ends.passed.seen.node)

pub finish_own-requires-clause-read : goal.finish_own-requires-clause-read
finish_own-requires-clause-read g c =
    let a = c.args.pass.now in
    let card = delete_card _ _ _ _ _ c.take_card.ensures.asks _ c.in-Card.ensures.claimed c.args.key c.args.place c.in-Some.above c.in-Some.is c.requires.searched.busy
    c.requires.searched.ends.at in
    told_was c.take_card.new.pass.view c.flag_delete.new.pass.view c.in-Card.card c.args.place c.flag_delete.ensures.keeps.view c.args.key c.in-Some.above card

-- what its card told of the parent, an internal node, and of the leaf is known once it is over
pub retire_deleted-requires-clause-cut : goal.retire_deleted-requires-clause-cut
retire_deleted-requires-clause-cut g c =
    let a = c.args.pass.now in
    let t = c.take_card.new.pass in
    let f = c.flag_delete.new.pass in
    let place = c.args.place in
    let hand = c.in-Card.card in
    let kept = c.finish_own.ensures.keeps_but_met in
    let flags = c.in_default-flag_delete.ensures.flags in
    let keeps = c.flag_delete.ensures.keeps.view in
    let above = c.in-Some.above in
    let cards = c.args.steps.table.now.plan.last_card in
    let card = delete_card _ _ _ _ _ c.take_card.ensures.asks _ c.in-Card.ensures.claimed c.args.key place above c.in-Some.is c.requires.searched.busy
    c.requires.searched.ends.at in
    let parent = told_parent t.view f.view hand place keeps c.args.key above card cards
    (asks_inner _ _ _ _ _ c.take_card.ensures.asks cards place.parent.node c.requires.searched.ends.passed.seen.node) in record {
      hand = record { holds = kept.card ∙ flags.card; flagged = kept.flagged ∙ flags.flagged };
      over = search rules;
      above = kept.keeps.view.told _ parent.told;
      below = kept.keeps.view.told _ (told_leaf t.view f.view hand place keeps c.args.key above card);
      inner = c.requires.searched.ends.passed.seen.node.inner;
      outer = c.requires.searched.ends.outer c.requires.key;
    }

-- once it is over, it is answered, with the value of the card's leaf
pub answer-requires-clause-may : goal.answer-requires-clause-may
answer-requires-clause-may g c =
    let a = c.args.pass.now in
    let ends = c.requires.searched.ends in
    let t = c.take_card.new.pass in
    let f = c.flag_delete.new.pass in
    let place = c.args.place in
    let card = c.in-Card.card in
    let leaf = told_leaf t.view f.view card place c.flag_delete.ensures.keeps.view c.args.key c.in-Some.above
    (delete_card _ _ _ _ _ c.take_card.ensures.asks _ c.in-Card.ensures.claimed c.args.key place c.in-Some.above c.in-Some.is c.requires.searched.busy ends.at) in
    let value = c.flag_delete.ensures.keeps.view.told _ (c.take_card.ensures.asks.view.told _ (ends.at.leaf (ends.outer c.requires.key))) in
    let on = c.finish_own.ensures.keeps_but_met.keeps.view.told in
    let takes : TakesBy c.finish_own.new.pass.view (Delete c.args.key) Yes place.value = record {
      key = c.args.key;
      card = card;
      leaf = place.node;
      deletes = refl;
      says = refl;
      holds = c.finish_own.ensures.keeps_but_met.card ∙ c.in_default-flag_delete.ensures.flags.card;
      at_leaf = on _ leaf;
      at_value = on _ value;
    } in
    rw c.retire_deleted.ensures.same
    (search (rules, takes))

-- a flag or a mark stood at the grandparent
pub returns-then-ne-clause-ends : goal.returns-then-ne-clause-ends
returns-then-ne-clause-ends g c =
    let a = c.args.pass.now in
    let ends = c.requires.searched.ends in
    let cards = c.args.steps.table.now.plan.last_card in
    let place = c.args.place in
    let above = c.in-Some.above in
    let new = c.help.new.pass in
    let met = c.help.ensures.keeps_but_met in
    let stands : above.update.state ≢ Clean = search rules in
    let meets = c.help.ensures.meets in
    let way = way_over new.view above.update.state above.update.card (way_of (Delete c.args.key) new.view)
    (above_way c.args.key place.node place.parent above new.view
    (met.search ∙ (ends.at.search ∙ ap (λ o. below place.node place.parent (seen_any o)) c.in-Some.is)) stands)
    stands c.help.ensures.ended in
    let more = meets_more a.view new.view meets in (
      record {
        own = search rules;
        sight = search rules;
        ledger = search rules;
        share = met.keeps.view.share;
        meets = meets;
        in_try = met.keeps.view.earlier a.view.hindrances (searched_in_try c.args.steps.table.now.plan (Delete c.args.key) place a.view c.requires.searched);
        way = way.0;
        would = would_delete c.args.steps.table.now.plan a a refl place c.args.key ends c.requires.key;
        stops = search rules;
      },
      omega (arith, way.1, more),
      sees_end cards a.view a.view new.view above.update.state above.update.card refl
          (unknown_above a.view place.grandparent above c.in-Some.is ends.unknown_above)
          (named_above cards a.view place.grandparent above c.in-Some.is ends.passed_above) stands c.help.ensures.ended met.keeps.view.least,
      lets_none_go c.args.steps.table.now.plan new (met.card ∙ c.requires.searched.no_card),
    )

-- or at the parent
pub returns-then-ne-2-clause-ends : goal.returns-then-ne-2-clause-ends
returns-then-ne-2-clause-ends g c =
    let a = c.args.pass.now in
    let ends = c.requires.searched.ends in
    let cards = c.args.steps.table.now.plan.last_card in
    let place = c.args.place in
    let above = c.in-Some.above in
    let update = place.parent.update in
    let help = c.help-then-ne-2 in
    let new = help.new.pass in
    let met = help.ensures.keeps_but_met in
    let calm : above.update.state ≡ Clean = search rules in
    let stands : update.state ≢ Clean = search rules in
    let meets = help.ensures.meets in
    let way = way_over new.view update.state update.card (way_of (Delete c.args.key) new.view)
    (parent_way c.args.key place.node place.parent above new.view
    (met.search ∙ (ends.at.search ∙ ap (λ o. below place.node place.parent (seen_any o)) c.in-Some.is)) calm)
    stands help.ensures.ended in
    let more = meets_more a.view new.view meets in (
      record {
        own = search rules;
        sight = search rules;
        ledger = search rules;
        share = met.keeps.view.share;
        meets = meets;
        in_try = met.keeps.view.earlier a.view.hindrances (searched_in_try c.args.steps.table.now.plan (Delete c.args.key) place a.view c.requires.searched);
        way = way.0;
        would = would_delete c.args.steps.table.now.plan a a refl place c.args.key ends c.requires.key;
        stops = search rules;
      },
      omega (arith, way.1, more),
      sees_end cards a.view a.view new.view update.state update.card refl ends.unknown ends.passed.seen.named stands help.ensures.ended met.keeps.view.least,
      lets_none_go c.args.steps.table.now.plan new (met.card ∙ c.requires.searched.no_card),
    )

-- no card was left
pub returns-in-NoneLeft-clause-ends : goal.returns-in-NoneLeft-clause-ends
returns-in-NoneLeft-clause-ends g c =
    let a = c.args.pass.now in
    let ends = c.requires.searched.ends in
    let cards = c.args.steps.table.now.plan.last_card in
    let place = c.args.place in
    let above = c.in-Some.above in
    let update = place.parent.update in
    let new = c.take_card.new.pass in
    let claims = c.in-NoneLeft.ensures.claimed in
    let calm : above.update.state ≡ Clean = search rules in
    let free : update.state ≡ Clean = search rules in
    let way = way_free new.view update.state update.card (way_of (Delete c.args.key) new.view)
    (parent_way c.args.key place.node place.parent above new.view
    (c.take_card.ensures.asks.view.search ∙ (ends.at.search ∙ ap (λ o. below place.node place.parent (seen_any o)) c.in-Some.is)) calm) free in (
      record {
        own = search rules;
        sight = search rules;
        ledger = search rules;
        share = c.take_card.ensures.asks.view.share;
        meets = said_meets a.view new.view claims.1 c.take_card.ensures.asks.view.knows;
        in_try = c.take_card.ensures.asks.view.earlier a.view.hindrances (searched_in_try c.args.steps.table.now.plan (Delete c.args.key) place a.view c.requires.searched);
        way = way;
        would = would_delete c.args.steps.table.now.plan a a refl place c.args.key ends c.requires.key;
        stops = search rules;
      },
      claims.2,
      claims.0.go,
    )

-- another pass took the card
pub returns-in-Lost-clause-ends : goal.returns-in-Lost-clause-ends
returns-in-Lost-clause-ends g c =
    let a = c.args.pass.now in
    let ends = c.requires.searched.ends in
    let cards = c.args.steps.table.now.plan.last_card in
    let place = c.args.place in
    let above = c.in-Some.above in
    let update = place.parent.update in
    let new = c.take_card.new.pass in
    let claims = c.in-Lost.ensures.claimed in
    let calm : above.update.state ≡ Clean = search rules in
    let free : update.state ≡ Clean = search rules in
    let way = way_free new.view update.state update.card (way_of (Delete c.args.key) new.view)
    (parent_way c.args.key place.node place.parent above new.view
    (c.take_card.ensures.asks.view.search ∙ (ends.at.search ∙ ap (λ o. below place.node place.parent (seen_any o)) c.in-Some.is)) calm) free in (
      record {
        own = search rules;
        sight = search rules;
        ledger = search rules;
        share = c.take_card.ensures.asks.view.share;
        meets = lost_meets _ _ _ _ _ c.take_card.ensures.asks claims.1;
        in_try = c.take_card.ensures.asks.view.earlier a.view.hindrances (searched_in_try c.args.steps.table.now.plan (Delete c.args.key) place a.view c.requires.searched);
        way = way;
        would = would_delete c.args.steps.table.now.plan a a refl place c.args.key ends c.requires.key;
        stops = search rules;
      },
      omega (arith, ap length claims.1.hindrances),
      gives_out cards a.view a.view new.view new.view (omega arith) (lost_given _ _ _ claims.1) (omega arith),
      claims.0.go,
    )

-- the flag was lost
pub returns-in-Err-clause-ends : goal.returns-in-Err-clause-ends
returns-in-Err-clause-ends g c =
    let a = c.args.pass.now in
    let ends = c.requires.searched.ends in
    let cards = c.args.steps.table.now.plan.last_card in
    let t = c.take_card.new.pass in
    let f = c.flag_delete.new.pass in
    let help = c.help-in-Err in
    let new = help.new.pass in
    let flags = c.in-Err.ensures.flags in
    let taken = said_meets a.view t.view c.in-Card.ensures.claimed.hindrances c.take_card.ensures.asks.view.knows in
    let lost = flag_lost cards c.in-Some.above.node c.in-Err.found t.view f.view new.view flags c.flag_delete.ensures.keeps.view.knows
    help.ensures.meets help.ensures.ended in
    let way = no_way new.view (way_of (Delete c.args.key) new.view)
    (nowhere_way (Delete c.args.key) new.view (ap (λ (r : Search). r.node) help.ensures.keeps_but_met.search ∙ flags.nowhere)) in
    let in_try = help.ensures.keeps_but_met.keeps.view.earlier a.view.hindrances (c.flag_delete.ensures.keeps.view.earlier a.view.hindrances
    (c.take_card.ensures.asks.view.earlier a.view.hindrances (searched_in_try c.args.steps.table.now.plan (Delete c.args.key) c.args.place a.view c.requires.searched))) in
    let more = meets_more a.view t.view taken in (
      record {
        own = search rules;
        sight = search rules;
        ledger = search rules;
        share = share_trans a.view f.view new.view (share_trans a.view t.view f.view c.take_card.ensures.asks.view.share c.flag_delete.ensures.keeps.view.share)
            help.ensures.keeps_but_met.keeps.view.share;
        meets = meets_trans a.view t.view new.view taken lost.0;
        in_try = in_try;
        way = way;
        would = would_delete c.args.steps.table.now.plan a a refl c.args.place c.args.key ends c.requires.key;
        stops = search rules;
      },
      omega (arith, lost.1, more),
      gives_out cards a.view a.view t.view new.view (omega arith) (taken_given _ _ _ _ _ c.in-Card.ensures.claimed)
          (omega (arith, c.flag_delete.ensures.keeps.view.least, help.ensures.keeps_but_met.keeps.view.least)),
      lets_none_go c.args.steps.table.now.plan new (help.ensures.keeps_but_met.card ∙ flags.no_card),
    )

-- the key was taken away
pub returns-clause-ends : goal.returns-clause-ends
returns-clause-ends g c =
    let a = c.args.pass.now in
    let t = c.take_card.new.pass in
    let f = c.flag_delete.new.pass in
    let m = c.retire_deleted.new.pass in
    let met : KeepsAllButMet f m (help_steps (deepest c.args.steps.table.now.plan) + 2) = keeps_but_met_retired f c.finish_own.new.pass m (help_steps (deepest c.args.steps.table.now.plan) + 2) c.finish_own.ensures.keeps_but_met c.retire_deleted.ensures.same in
    let said = c.answer in
    let op = Delete c.args.key in
    let taken = said_meets a.view t.view c.in-Card.ensures.claimed.hindrances c.take_card.ensures.asks.view.knows in
    let flagged = meets_trans a.view t.view f.view taken (keeps_meets t f _ c.flag_delete.ensures.keeps c.in_default-flag_delete.ensures.flags.hindrances) in
    let meets : Meets f.view m.view = rw c.retire_deleted.ensures.same c.finish_own.ensures.meets in
    let finished = meets_trans a.view f.view m.view flagged meets in
    let answers = said.ensures.answers op (search rules) in (
      asks_answers c.args.steps.table.now op _ a t said.new.pass _ _ c.take_card.ensures.asks
          (keeps_answers c.args.steps.table.now op _ t f said.new.pass _ c.flag_delete.ensures.keeps
          (keeps_answers c.args.steps.table.now op _ f m said.new.pass _ met.keeps answers)),
      meets_trans a.view m.view said.new.pass.view finished (said_meets m.view said.new.pass.view said.ensures.hindrances said.ensures.facts),
      said.ensures.room,
    )

-- the value of the leaf of the card was taken
pub returns-clause-took : goal.returns-clause-took
returns-clause-took g c =
    let a = c.args.pass.now in
    let ends = c.requires.searched.ends in
    let t = c.take_card.new.pass in
    let f = c.flag_delete.new.pass in
    let m = c.retire_deleted.new.pass in
    let met : KeepsAllButMet f m (help_steps (deepest c.args.steps.table.now.plan) + 2) = keeps_but_met_retired f c.finish_own.new.pass m (help_steps (deepest c.args.steps.table.now.plan) + 2) c.finish_own.ensures.keeps_but_met c.retire_deleted.ensures.same in
    let said = c.answer in
    let new = said.new.pass in
    let place = c.args.place in
    let card = c.in-Card.card in
    let busy : Does m.view (Delete c.args.key) = search rules in
    let hand : m.view.worker.card ≡ Some card = met.card ∙ c.in_default-flag_delete.ensures.flags.card in
    let op = Delete c.args.key in
    let said_so : new.view.answered ≡ Some (record { op = op; said = Yes; card = Some card; took = Some place.value }) =
    said.ensures.last ∙ (ap (λ o. answered_so o m.view.worker.card Yes (Some place.value)) busy ∙ ap (λ o. answered_so (Some op) o Yes (Some place.value)) hand) in (
      record {
        mine = had_value c.args.steps.table.now.plan a a refl place c.args.key ends c.requires.key;
        took = deletes_take_what_they_tell c.args.steps.table.now.plan new.view c.args.key (Some card) place.value said_so;
      },
      ends_from op Yes (Some place.value) a.sight m.sight new.sight (met.keeps.sight ∙ (c.flag_delete.ensures.keeps.sight ∙ c.take_card.ensures.asks.sight)) (said.ensures.ended op busy),
    )

-- the cards of each
pub returns-then-ne-clause-taken : goal.returns-then-ne-clause-taken
returns-then-ne-clause-taken g c = λ plain.
    let taken = c.help.ensures.keeps_but_met.taken in
    record { least = omega (arith, taken); most = omega (arith, taken) }

pub returns-then-ne-2-clause-taken : goal.returns-then-ne-2-clause-taken
returns-then-ne-2-clause-taken g c = λ plain.
    let taken = c.help-then-ne-2.ensures.keeps_but_met.taken in
    record { least = omega (arith, taken); most = omega (arith, taken) }

pub returns-in-Lost-clause-taken : goal.returns-in-Lost-clause-taken
returns-in-Lost-clause-taken g c = λ plain.
    let taken = takes_no _ _ _ c.in-Lost.ensures.claimed.0 plain in
    record { least = omega (arith, taken); most = omega (arith, taken) }

pub returns-in-Err-clause-taken : goal.returns-in-Err-clause-taken
returns-in-Err-clause-taken g c = λ plain.
    let one = takes_one _ _ _ _ _ c.in-Card.ensures.claimed plain in
    let taken : cards_taken c.help-in-Err.new.pass ≡ cards_taken c.args.pass.now + 1 =
    omega (arith, c.help-in-Err.ensures.keeps_but_met.taken, c.flag_delete.ensures.taken, one) in
    record { least = omega (arith, taken); most = omega (arith, taken) }

pub returns-clause-taken : goal.returns-clause-taken
returns-clause-taken g c = λ plain.
    let said : TakesNoCard c.finish_own.new.pass c.answer.new.pass =
    c.answer.ensures.taken ∙ ap (λ (p : PassModel). cards_taken p) c.retire_deleted.ensures.same in
    let one = takes_one _ _ _ _ _ c.in-Card.ensures.claimed plain in
    omega (arith, said, c.finish_own.ensures.keeps_but_met.taken, c.flag_delete.ensures.taken, one)
