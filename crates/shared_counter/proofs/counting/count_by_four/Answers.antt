use Rattle.std.proofs.Common.{rules, ◌≡◌, ◌*◌, Option, ℕ, Some, sum, refl, sym, subst}
use Rattle.std.specs.Option.{IsSome}
use Rattle.shared_counter.proofs.lemmas.Totals.{concludes}
use Rattle.shared_counter.proofs.counting.count_by_four.Goals as goal

-- the find has found the sum
pub unwrap-requires : goal.unwrap-requires
unwrap-requires g c =
    let h = concludes c.args.tree.now c.args.rounds (c.args.rounds * sum c.args.addends) c.in_ok-pass.pass c.story.new.pass c.find-value.new.pass
    c.story-2.new.pass c.find-value.result c.stories_are_of_one_thread.ensures c.requires.counter c.in_ok-pass.ensures.added c.in_ok-pass.ensures.whole
    (record { all = c.story.ensures.all; more = c.story.ensures.more; table = c.story.ensures.own.table; worker = c.story.ensures.worker; share = c.story.ensures.share })
    c.find-value.ensures.answers
    (record { all = c.story-2.ensures.all; more = c.story-2.ensures.more; table = c.story-2.ensures.own.table; worker = c.story-2.ensures.worker; share = c.story-2.ensures.share }) in
    subst (λ (o : Option ℕ). IsSome o) (sym h.total) refl

pub returns-clause-sum : goal.returns-clause-sum
returns-clause-sum g c =
    let h = concludes c.args.tree.now c.args.rounds (c.args.rounds * sum c.args.addends) c.in_ok-pass.pass c.story.new.pass c.find-value.new.pass
    c.story-2.new.pass c.find-value.result c.stories_are_of_one_thread.ensures c.requires.counter c.in_ok-pass.ensures.added c.in_ok-pass.ensures.whole
    (record { all = c.story.ensures.all; more = c.story.ensures.more; table = c.story.ensures.own.table; worker = c.story.ensures.worker; share = c.story.ensures.share })
    c.find-value.ensures.answers
    (record { all = c.story-2.ensures.all; more = c.story-2.ensures.more; table = c.story-2.ensures.own.table; worker = c.story-2.ensures.worker; share = c.story-2.ensures.share }) in
    let now : c.find-value.result ≡ Some c.unwrap.result = search rules in
    let total = h.total in
    cc

pub returns-clause-added : goal.returns-clause-added
returns-clause-added g c =
    let h = concludes c.args.tree.now c.args.rounds (c.args.rounds * sum c.args.addends) c.in_ok-pass.pass c.story.new.pass c.find-value.new.pass
    c.story-2.new.pass c.find-value.result c.stories_are_of_one_thread.ensures c.requires.counter c.in_ok-pass.ensures.added c.in_ok-pass.ensures.whole
    (record { all = c.story.ensures.all; more = c.story.ensures.more; table = c.story.ensures.own.table; worker = c.story.ensures.worker; share = c.story.ensures.share })
    c.find-value.ensures.answers
    (record { all = c.story-2.ensures.all; more = c.story-2.ensures.more; table = c.story-2.ensures.own.table; worker = c.story-2.ensures.worker; share = c.story-2.ensures.share }) in
    h.added

pub returns-clause-whole : goal.returns-clause-whole
returns-clause-whole g c =
    let h = concludes c.args.tree.now c.args.rounds (c.args.rounds * sum c.args.addends) c.in_ok-pass.pass c.story.new.pass c.find-value.new.pass
    c.story-2.new.pass c.find-value.result c.stories_are_of_one_thread.ensures c.requires.counter c.in_ok-pass.ensures.added c.in_ok-pass.ensures.whole
    (record { all = c.story.ensures.all; more = c.story.ensures.more; table = c.story.ensures.own.table; worker = c.story.ensures.worker; share = c.story.ensures.share })
    c.find-value.ensures.answers
    (record { all = c.story-2.ensures.all; more = c.story-2.ensures.more; table = c.story-2.ensures.own.table; worker = c.story-2.ensures.worker; share = c.story-2.ensures.share }) in
    h.whole
