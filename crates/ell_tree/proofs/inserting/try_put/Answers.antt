use Rattle.std.proofs.Common.{◌+◌, ◌≡◌, ◌≢◌, Some, length, sym, ap, ◌∙◌, subst, rules, arith}
use Rattle.ell_word.specs.declared.update.State.TheVariants.{Clean}
use Rattle.ell_core.specs.declared.view.Search.{Search}
use Rattle.ell_runs.specs.declared.view.Told.TheVariants.{Met}
use Rattle.std.proofs.lemmas.Bool.{false≢true}
use Rattle.ell_ops.specs.Meaning.{found}
use Rattle.ell_core.proofs.lemmas.keeping.Puts.{put_key}
use Rattle.ell_cards.specs.Models.{PassModel}
use Rattle.ell_runs.specs.Plans.{new_node}
use Rattle.ell_tree.specs.CardsTaken.{cards_taken, TakesNoCard, TakesOneCard, TakesOneIf}
use Rattle.ell_tree.specs.Ends.{AnswersAs, changes_by, reply_by}
use Rattle.ell_tree.specs.Hindrances.{way_of}
use Rattle.ell_tree.specs.Keeping.{KeepsAll}
use Rattle.ell_tree.proofs.lemmas.Searches.{may_answer}
use Rattle.ell_tree.proofs.lemmas.Filling.{put_card, is_insert}
use Rattle.ell_tree.proofs.lemmas.Keeping.{share_trans}
use Rattle.ell_tree.proofs.lemmas.Claiming.{lost_given, lost_meets, may_ask, taken_given, takes_no, takes_one}
use Rattle.ell_tree.proofs.lemmas.LettingGo.{lets_none_go}
use Rattle.ell_tree.proofs.lemmas.Owning.{keeps_answers, asks_answers, would_put}
use Rattle.ell_tree.proofs.lemmas.Meeting.{meets_trans, meets_more, put_way, nowhere_way, way_over, way_free, no_way}
use Rattle.ell_tree.proofs.lemmas.Halting.{keeps_meets, seek_meets, walk_meets, said_meets, flag_lost}
use Rattle.ell_tree.proofs.lemmas.Hindrances.{root_in_try}
use Rattle.ell_tree.proofs.lemmas.Putting.{put_wants, put_refused, put_done, refused_outer}
use Rattle.ell_tree.proofs.lemmas.Retiring.{has_put, keeps_all_retired}
use Rattle.ell_tree.proofs.lemmas.Milestones.{sees_end, gives_out}
use Rattle.ell_runs.specs.Seeing.{SeesEnd}
use Rattle.ell_tree.proofs.inserting.try_put.Goals as goal

pub take_card-requires-clause-stands : goal.take_card-requires-clause-stands
take_card-requires-clause-stands g c =
    let s = c.search-place in
    let calm : s.result.parent.update.state ≡ Clean = search rules in
    may_ask c.args.steps.table.now.plan s.new.pass.view c.args.op s.result c.node_key-node_key.result (s.ensures.keeps_but_search.keeps.view.operation ∙ c.requires.root.busy) s.ensures.ends.at calm
    (put_wants s.result c.args.steps.table.now.plan c.args.op c.args.what c.requires.puts c.node_key-node_key.result s.new.pass.view s.ensures.ends (search rules) c.node_key-node_key.ensures)

pub answer-requires-clause-may : goal.answer-requires-clause-may
answer-requires-clause-may g c =
    let s = c.search-place in
    let refused = put_refused s.result c.args.op c.args.what c.requires.puts
    (λ takes. false≢true (sym c.if-not-may_replace.true ∙ c.may_replace.ensures.1 takes)) in
    may_answer s.new.pass.view c.args.op s.result c.found.result (s.ensures.keeps_but_search.keeps.view.operation ∙ c.requires.root.busy)
    (refused_outer s.result c.args.steps.table.now.plan c.args.op c.args.what c.requires.puts s.new.pass.view s.ensures.ends
    (λ takes. false≢true (sym c.if-not-may_replace.true ∙ c.may_replace.ensures.1 takes))) s.ensures.ends.at
    (refused.says ∙ ap Some (sym (c.found.ensures ∙ ap found c.told_of_put-found.ensures)))

-- no card is in hand yet
pub answer-requires-clause-retired : goal.answer-requires-clause-retired
answer-requires-clause-retired g c =
    lets_none_go c.args.steps.table.now.plan c.search-place.new.pass (c.search-place.ensures.keeps_but_search.card ∙ c.requires.root.no_card)

pub flag_insert-requires-clause-tag : goal.flag_insert-requires-clause-tag
flag_insert-requires-clause-tag g c = c.search-place.ensures.ends.passed.tag

pub flag_insert-requires-clause-card : goal.flag_insert-requires-clause-card
flag_insert-requires-clause-card g c =
    let s = c.search-place in record {
      op = c.args.op;
      puts = c.requires.puts;
      card = put_card _ _ _ _ _ c.take_card.ensures.asks _ c.in-Card.ensures.claimed c.args.op c.args.what s.result c.requires.puts
          (s.ensures.keeps_but_search.keeps.view.operation ∙ c.requires.root.busy) s.ensures.ends.at;
    }

pub finish_insert-requires-clause-insert : goal.finish_insert-requires-clause-insert
finish_insert-requires-clause-insert g c =
    let s = c.search-place in
    let place = s.result in
    let ends = s.ensures.ends in
    let card = put_card _ _ _ _ _ c.take_card.ensures.asks _ c.in-Card.ensures.claimed c.args.op c.args.what place c.requires.puts
    (s.ensures.keeps_but_search.keeps.view.operation ∙ c.requires.root.busy) ends.at in
    rw c.max-right_key.ensures
    rw c.min-left_key.ensures
    rw c.node_with-below.ensures
    (is_insert c.take_card.new.pass.view c.flag_insert.new.pass.view c.in-Card.card place c.flag_insert.ensures.keeps.view (new_node c.args.steps.table.now.plan c.node_key-node_key.result) c.args.op c.args.what card
    c.in-Ok.ensures.flags.knows (c.take_card.ensures.asks.view.told (Met place.parent.node) ends.passed.seen.node.met))

-- what its card told is known once it is over
pub retire_put-requires-clause-put : goal.retire_put-requires-clause-put
retire_put-requires-clause-put g c =
    let s = c.search-place in
    let place = s.result in
    let ends = s.ensures.ends in
    let t = c.take_card.new.pass in
    let f = c.flag_insert.new.pass in
    let m = c.finish_insert.new.pass in
    let kept = c.finish_insert.ensures.keeps_all in
    let busy = s.ensures.keeps_but_search.keeps.view.operation ∙ c.requires.root.busy in
    let key = put_key c.args.op c.args.what c.requires.puts in
    let card = put_card _ _ _ _ _ c.take_card.ensures.asks _ c.in-Card.ensures.claimed c.args.op c.args.what place c.requires.puts busy ends.at in
    let insert = is_insert t.view f.view c.in-Card.card place c.flag_insert.ensures.keeps.view (new_node c.args.steps.table.now.plan c.node_key-node_key.result) c.args.op c.args.what card
    c.in-Ok.ensures.flags.knows (c.take_card.ensures.asks.view.told (Met place.parent.node) ends.passed.seen.node.met) in
    has_put f.view m.view c.in-Card.card c.args.op c.args.what place c.requires.puts kept.keeps.view
    (c.flag_insert.ensures.keeps.view.operation ∙ (c.take_card.ensures.asks.view.operation ∙ busy))
    (record { holds = kept.card ∙ c.in-Ok.ensures.flags.card; flagged = kept.flagged ∙ c.in-Ok.ensures.flags.flagged }) c.finish_insert.ensures.over insert (λ same. ends.outer (same ∙ sym key))

-- once it is over, it is answered
pub answer-requires-in-Ok-clause-may : goal.answer-requires-in-Ok-clause-may
answer-requires-in-Ok-clause-may g c =
    rw c.retire_put.ensures.same
    (search rules)

-- there was no place for it
pub returns-then-not-may_replace-clause-ends : goal.returns-then-not-may_replace-clause-ends
returns-then-not-may_replace-clause-ends g c =
    let a = c.args.pass.now in
    let s = c.search-place in
    let said = c.answer in
    let refused = put_refused s.result c.args.op c.args.what c.requires.puts
    (λ takes. false≢true (sym c.if-not-may_replace.true ∙ c.may_replace.ensures.1 takes)) in
    let reply : c.found.result ≡ reply_by c.args.op c.told_of_put-found.result =
    c.found.ensures ∙ (ap found c.told_of_put-found.ensures ∙ (refused.reply ∙ ap (reply_by c.args.op) (sym c.told_of_put-found.ensures))) in
    let answers = said.ensures.answers c.args.op (s.ensures.keeps_but_search.keeps.view.operation ∙ c.requires.root.busy) in (
      subst (λ r. AnswersAs SeesEnd c.args.steps.table.now c.args.op r a said.new.pass) reply
          (keeps_answers c.args.steps.table.now c.args.op _ a s.new.pass said.new.pass _ s.ensures.keeps_but_search.keeps answers),
      meets_trans a.view s.new.pass.view said.new.pass.view (seek_meets a s.new.pass _ s.ensures.keeps_but_search)
          (said_meets s.new.pass.view said.new.pass.view said.ensures.hindrances said.ensures.facts),
      said.ensures.room,
    )

pub returns-then-not-may_replace-clause-taken : goal.returns-then-not-may_replace-clause-taken
returns-then-not-may_replace-clause-taken g c = λ plain.
    let refused = put_refused c.search-place.result c.args.op c.args.what c.requires.puts
    (λ takes. false≢true (sym c.if-not-may_replace.true ∙ c.may_replace.ensures.1 takes)) in
    subst (λ b. TakesOneIf b c.args.pass.now c.answer.new.pass) (sym (ap (changes_by c.args.op) c.told_of_put-found.ensures ∙ refused.changes))
    (c.answer.ensures.taken ∙ c.search-place.ensures.keeps_but_search.taken)

-- a flag or a mark stood at the parent
pub returns-then-ne-clause-ends : goal.returns-then-ne-clause-ends
returns-then-ne-clause-ends g c =
    let a = c.args.pass.now in
    let s = c.search-place in
    let place = s.result in
    let update = place.parent.update in
    let new = c.help.new.pass in
    let stands : update.state ≢ Clean = search rules in
    let meets = meets_trans a.view s.new.pass.view new.view (seek_meets a s.new.pass _ s.ensures.keeps_but_search) c.help.ensures.meets in
    let way = way_over new.view update.state update.card (way_of c.args.op new.view)
    (put_way c.args.op c.args.what c.requires.puts place.node place.parent place.grandparent new.view (c.help.ensures.keeps_but_met.search ∙ s.ensures.ends.at.search)) stands
    c.help.ensures.ended in
    let more = meets_more a.view new.view meets in (
      record {
        own = search rules;
        sight = search rules;
        ledger = search rules;
        share = share_trans a.view s.new.pass.view new.view s.ensures.keeps_but_search.keeps.view.share c.help.ensures.keeps_but_met.keeps.view.share;
        meets = meets;
        in_try = c.help.ensures.keeps_but_met.keeps.view.earlier a.view.hindrances (s.ensures.keeps_but_search.keeps.view.earlier a.view.hindrances (root_in_try c.args.op a.view c.requires.root));
        way = way.0;
        would = would_put c.args.steps.table.now.plan a s.new.pass s.ensures.keeps_but_search.keeps.view.ledger s.result c.args.op c.args.what c.requires.puts s.ensures.ends (search rules);
        stops = search rules;
      },
      omega (arith, way.1, more),
      sees_end c.args.steps.table.now.plan.last_card a.view s.new.pass.view new.view update.state update.card s.ensures.keeps_but_search.keeps.view.before s.ensures.ends.unknown
          s.ensures.ends.passed.seen.named stands c.help.ensures.ended
          (omega (arith, s.ensures.keeps_but_search.keeps.view.least, c.help.ensures.keeps_but_met.keeps.view.least)),
      lets_none_go c.args.steps.table.now.plan new (c.help.ensures.keeps_but_met.card ∙ (s.ensures.keeps_but_search.card ∙ c.requires.root.no_card)),
    )

-- no card was left
pub returns-in-NoneLeft-clause-ends : goal.returns-in-NoneLeft-clause-ends
returns-in-NoneLeft-clause-ends g c =
    let a = c.args.pass.now in
    let s = c.search-place in
    let place = s.result in
    let update = place.parent.update in
    let new = c.take_card.new.pass in
    let claims = c.in-NoneLeft.ensures.claimed in
    let calm : update.state ≡ Clean = search rules in
    let meets = meets_trans a.view s.new.pass.view new.view (seek_meets a s.new.pass _ s.ensures.keeps_but_search)
    (said_meets s.new.pass.view new.view claims.1 c.take_card.ensures.asks.view.knows) in
    let way = way_free new.view update.state update.card (way_of c.args.op new.view)
    (put_way c.args.op c.args.what c.requires.puts place.node place.parent place.grandparent new.view (c.take_card.ensures.asks.view.search ∙ s.ensures.ends.at.search)) calm in (
      record {
        own = search rules;
        sight = search rules;
        ledger = search rules;
        share = share_trans a.view s.new.pass.view new.view s.ensures.keeps_but_search.keeps.view.share c.take_card.ensures.asks.view.share;
        meets = meets;
        in_try = c.take_card.ensures.asks.view.earlier a.view.hindrances (s.ensures.keeps_but_search.keeps.view.earlier a.view.hindrances (root_in_try c.args.op a.view c.requires.root));
        way = way;
        would = would_put c.args.steps.table.now.plan a s.new.pass s.ensures.keeps_but_search.keeps.view.ledger s.result c.args.op c.args.what c.requires.puts s.ensures.ends (search rules);
        stops = search rules;
      },
      claims.2,
      claims.0.go,
    )

-- another pass took the card
pub returns-in-Lost-clause-ends : goal.returns-in-Lost-clause-ends
returns-in-Lost-clause-ends g c =
    let a = c.args.pass.now in
    let s = c.search-place in
    let place = s.result in
    let update = place.parent.update in
    let new = c.take_card.new.pass in
    let claims = c.in-Lost.ensures.claimed in
    let calm : update.state ≡ Clean = search rules in
    let meets = meets_trans a.view s.new.pass.view new.view (seek_meets a s.new.pass _ s.ensures.keeps_but_search) (lost_meets _ _ _ _ _ c.take_card.ensures.asks claims.1) in
    let way = way_free new.view update.state update.card (way_of c.args.op new.view)
    (put_way c.args.op c.args.what c.requires.puts place.node place.parent place.grandparent new.view (c.take_card.ensures.asks.view.search ∙ s.ensures.ends.at.search)) calm in
    let quiet = ap length s.ensures.keeps_but_search.hindrances in (
      record {
        own = search rules;
        sight = search rules;
        ledger = search rules;
        share = share_trans a.view s.new.pass.view new.view s.ensures.keeps_but_search.keeps.view.share c.take_card.ensures.asks.view.share;
        meets = meets;
        in_try = c.take_card.ensures.asks.view.earlier a.view.hindrances (s.ensures.keeps_but_search.keeps.view.earlier a.view.hindrances (root_in_try c.args.op a.view c.requires.root));
        way = way;
        would = would_put c.args.steps.table.now.plan a s.new.pass s.ensures.keeps_but_search.keeps.view.ledger s.result c.args.op c.args.what c.requires.puts s.ensures.ends (search rules);
        stops = search rules;
      },
      omega (arith, quiet, ap length claims.1.hindrances),
      gives_out c.args.steps.table.now.plan.last_card a.view s.new.pass.view new.view new.view s.ensures.keeps_but_search.keeps.view.least (lost_given _ _ _ claims.1) (omega arith),
      claims.0.go,
    )

-- it was put
pub returns-in-Ok-clause-ends : goal.returns-in-Ok-clause-ends
returns-in-Ok-clause-ends g c =
    let a = c.args.pass.now in
    let s = c.search-place in
    let t = c.take_card.new.pass in
    let f = c.flag_insert.new.pass in
    let m = c.retire_put.new.pass in
    let kept : KeepsAll f m 3 = keeps_all_retired f c.finish_insert.new.pass m 3 c.finish_insert.ensures.keeps_all c.retire_put.ensures.same in
    let said = c.answer-in-Ok in
    let taken = meets_trans a.view s.new.pass.view t.view (seek_meets a s.new.pass _ s.ensures.keeps_but_search)
    (said_meets s.new.pass.view t.view c.in-Card.ensures.claimed.hindrances c.take_card.ensures.asks.view.knows) in
    let flagged = meets_trans a.view t.view f.view taken (keeps_meets t f _ c.flag_insert.ensures.keeps c.in-Ok.ensures.flags.hindrances) in
    let finished = meets_trans a.view f.view m.view flagged (walk_meets f m 3 kept) in
    let done = put_done c.args.op c.args.what c.requires.puts in
    let reply : c.reply_once_done.result ≡ reply_by c.args.op (Some c.unwrap_or.result) =
    c.reply_once_done.ensures ∙ (done.reply ∙ ap (λ v. reply_by c.args.op (Some v)) (sym (search rules))) in
    let answers = said.ensures.answers c.args.op (search rules) in (
      subst (λ r. AnswersAs SeesEnd c.args.steps.table.now c.args.op r a said.new.pass) reply
          (keeps_answers c.args.steps.table.now c.args.op _ a s.new.pass said.new.pass _ s.ensures.keeps_but_search.keeps
          (asks_answers c.args.steps.table.now c.args.op _ s.new.pass t said.new.pass _ _ c.take_card.ensures.asks
          (keeps_answers c.args.steps.table.now c.args.op _ t f said.new.pass _ c.flag_insert.ensures.keeps
          (keeps_answers c.args.steps.table.now c.args.op _ f m said.new.pass _ kept.keeps answers)))),
      meets_trans a.view m.view said.new.pass.view finished (said_meets m.view said.new.pass.view said.ensures.hindrances said.ensures.facts),
      said.ensures.room,
    )

-- the flag was lost
pub returns-in-Err-clause-ends : goal.returns-in-Err-clause-ends
returns-in-Err-clause-ends g c =
    let a = c.args.pass.now in
    let s = c.search-place in
    let t = c.take_card.new.pass in
    let f = c.flag_insert.new.pass in
    let help = c.help-in-Err in
    let new = help.new.pass in
    let flags = c.in-Err.ensures.flags in
    let taken = meets_trans a.view s.new.pass.view t.view (seek_meets a s.new.pass _ s.ensures.keeps_but_search)
    (said_meets s.new.pass.view t.view c.in-Card.ensures.claimed.hindrances c.take_card.ensures.asks.view.knows) in
    let lost = flag_lost c.args.steps.table.now.plan.last_card s.result.parent.node c.in-Err.found t.view f.view new.view flags c.flag_insert.ensures.keeps.view.knows
    help.ensures.meets help.ensures.ended in
    let meets = meets_trans a.view t.view new.view taken lost.0 in
    let way = no_way new.view (way_of c.args.op new.view)
    (nowhere_way c.args.op new.view (ap (λ (r : Search). r.node) help.ensures.keeps_but_met.search ∙ flags.nowhere)) in
    let searched = s.ensures.keeps_but_search.keeps.view.earlier a.view.hindrances (root_in_try c.args.op a.view c.requires.root) in
    let in_try = help.ensures.keeps_but_met.keeps.view.earlier a.view.hindrances (c.flag_insert.ensures.keeps.view.earlier a.view.hindrances
    (c.take_card.ensures.asks.view.earlier a.view.hindrances searched)) in
    let more = meets_more a.view t.view taken in (
      record {
        own = search rules;
        sight = search rules;
        ledger = search rules;
        share = share_trans a.view f.view new.view (share_trans a.view t.view f.view (share_trans a.view s.new.pass.view t.view s.ensures.keeps_but_search.keeps.view.share
            c.take_card.ensures.asks.view.share) c.flag_insert.ensures.keeps.view.share) help.ensures.keeps_but_met.keeps.view.share;
        meets = meets;
        in_try = in_try;
        way = way;
        would = would_put c.args.steps.table.now.plan a s.new.pass s.ensures.keeps_but_search.keeps.view.ledger s.result c.args.op c.args.what c.requires.puts s.ensures.ends (search rules);
        stops = search rules;
      },
      omega (arith, lost.1, more),
      gives_out c.args.steps.table.now.plan.last_card a.view s.new.pass.view t.view new.view s.ensures.keeps_but_search.keeps.view.least (taken_given _ _ _ _ _ c.in-Card.ensures.claimed)
          (omega (arith, c.flag_insert.ensures.keeps.view.least, help.ensures.keeps_but_met.keeps.view.least)),
      lets_none_go c.args.steps.table.now.plan new (help.ensures.keeps_but_met.card ∙ flags.no_card),
    )

-- the cards of each
pub returns-then-ne-clause-taken : goal.returns-then-ne-clause-taken
returns-then-ne-clause-taken g c = λ plain.
    let taken = c.help.ensures.keeps_but_met.taken ∙ c.search-place.ensures.keeps_but_search.taken in
    record { least = omega (arith, taken); most = omega (arith, taken) }

pub returns-in-Lost-clause-taken : goal.returns-in-Lost-clause-taken
returns-in-Lost-clause-taken g c = λ plain.
    let taken = takes_no _ _ _ c.in-Lost.ensures.claimed.0 plain ∙ c.search-place.ensures.keeps_but_search.taken in
    record { least = omega (arith, taken); most = omega (arith, taken) }

pub returns-in-Ok-clause-taken : goal.returns-in-Ok-clause-taken
returns-in-Ok-clause-taken g c = λ plain.
    let said : TakesNoCard c.finish_insert.new.pass c.answer-in-Ok.new.pass =
    c.answer-in-Ok.ensures.taken ∙ ap (λ (p : PassModel). cards_taken p) c.retire_put.ensures.same in
    let one = takes_one _ _ _ _ _ c.in-Card.ensures.claimed plain in
    let taken : TakesOneCard c.args.pass.now c.answer-in-Ok.new.pass =
    omega (arith, said, c.finish_insert.ensures.keeps_all.taken, c.flag_insert.ensures.taken, one, c.search-place.ensures.keeps_but_search.taken) in
    let done = put_done c.args.op c.args.what c.requires.puts in
    subst (λ b. TakesOneIf b c.args.pass.now c.answer-in-Ok.new.pass)
    (sym (ap (λ v. changes_by c.args.op (Some v)) (search rules) ∙ done.changes)) taken

pub returns-in-Err-clause-taken : goal.returns-in-Err-clause-taken
returns-in-Err-clause-taken g c = λ plain.
    let one = takes_one _ _ _ _ _ c.in-Card.ensures.claimed plain in
    let taken : cards_taken c.help-in-Err.new.pass ≡ cards_taken c.args.pass.now + 1 =
    omega (arith, c.help-in-Err.ensures.keeps_but_met.taken, c.flag_insert.ensures.taken, one, c.search-place.ensures.keeps_but_search.taken) in
    record { least = omega (arith, taken); most = omega (arith, taken) }
