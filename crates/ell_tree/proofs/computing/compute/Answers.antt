use Rattle.std.proofs.Common.{rules, ◌≡◌, ◌≢◌, ◌*◌, ◌+◌, None, inl, refl, sym, ap, ◌<◌, ◌∙◌, arith}
use Rattle.ell_ops.specs.declared.op.Op.TheVariants.{Find}
use Rattle.ell_ops.specs.Meaning.{found}
use Rattle.ell_core.specs.statements.Effects.{reply_of_change}
use Rattle.ell_runs.proofs.lemmas.runs.Tries.{more_tries}
use Rattle.ell_tree.specs.Called.{put_by, tries_in}
use Rattle.ell_tree.specs.Computing.{IsUntouched, ReadsValue, round_steps_in}
use Rattle.ell_tree.specs.Ends.{GivenUp, NoneIsLeft, find_steps}
use Rattle.ell_tree.specs.Ledgers.{Owns, present_in}
use Rattle.ell_tree.specs.Promises.{IsOthersDoing}
use Rattle.ell_tree.specs.CardsTaken.{TakesByHindered}
use Rattle.ell_core.proofs.lemmas.outcomes.Decide.{some_not_none}
use Rattle.ell_tree.proofs.lemmas.Computing.{untouched_by, untouched_given_up, untouched_self, untouched_trans, concludes, find_leaves, found_not_yes, reads_own, reads_after, reads_last, given_up_at_last, may_still, put_on}
use Rattle.ell_tree.proofs.lemmas.Counts.{took_in, took_in_within, took_in_trans}
use Rattle.ell_tree.proofs.lemmas.Milestones.{milestones_most}
use Rattle.ell_tree.proofs.lemmas.Rounds.{rounds_within, one_round_more, spends_none, by_rounds, not_some}
use Rattle.ell_tree.proofs.computing.compute.Goals as goal
use Rattle.ell_tree.proofs.computing.compute.Goals.{in-Ok-Lost, in-Err-Busy}
use Rattle.ell_runs.specs.Depths.{deepest}

pub loop-round-init : goal.loop-round-init
loop-round-init g c =
    let t = c.args.steps.table.now in
    let key = c.args.key in
    let old = c.args.pass.now in
    let new = c.find-was.new.pass in
    let was = c.find-was.result in
    let finds = c.find-was.ensures in
    let left = untouched_by t (Find key) (found was) old new (find_leaves key old) (found_not_yes was) finds.answers in
    let reads : ReadsValue t key was old new =
    inl (concludes t (Find key) (found was) old old new (untouched_self old c.requires.may.idle) finds.answers) in
    record {
      same = (refl, refl, refl, refl);
      may = may_still t key old new left c.requires.may;
      untouched = left;
      reads = λ none. reads;
      makes = search rules;
      own = reads_own t key was old new reads;
      last = λ some. absurd (omega arith);
      took = took_in_within t.plan old new (find_steps (deepest t.plan)) _ (took_in t.plan old new (find_steps (deepest t.plan)) finds.steps) (omega arith);
      counted = record { least = omega (arith, finds.quiet.hindered); most = omega (arith, finds.quiet.hindered) };
      hindered = λ owns. omega (arith, finds.quiet.hindered);
      milestones = λ owns. omega (arith, finds.quiet.milestones);
      tried = λ owns some. absurd (omega arith);
      made = let same = ap tries_in finds.answers.sees.mine in omega (arith, same, finds.quiet.hindered);
      cards = λ plain. record { least = omega (arith, finds.cards); most = omega (arith, finds.cards) };
      few = λ plain. omega (arith, finds.cards, finds.quiet.hindered);
    }

-- another pass had changed the key, which is not the pass's own: what is there now was read
pub loop-round-preserved : goal.loop-round-preserved
loop-round-preserved g c = elim c.match-replace.branch [
  | in-Ok-Lost w ↦
      let t = c.args.steps.table.now in
      let key = c.args.key in
      let cards = t.plan.last_card in
      let old = c.args.pass.now in
      let l = c.loop-round in
      let i = l.invariant in
      let new = c.replace.new.pass in
      let there = c.match-replace.was in
      let lost : IsUntouched l.pass new × ReadsValue t key there l.pass new × (Owns l.pass key → present_in l.pass key ≢ l.was)
      × (tries_in l.pass.sight.mine < tries_in new.sight.mine) = rw w.was-is (search rules) in
      let reads = reads_after t key there old l.pass new i.untouched lost.1 in
      let kept = untouched_trans old l.pass new i.untouched lost.0 in
      let apart : ¬ Owns old key = λ owns. lost.2 ((i.untouched.owned key).1 owns) (i.untouched.map key ∙ i.own owns) in
      let spends = c.replace.ensures.cards in
      let counts = c.replace.ensures.counted in
      let each : t.plan.slots ≡ None → TakesByHindered l.pass new = λ plain. (let one = (spends plain).each in search (rules, one)) in
      record {
        same = (refl, refl, refl, refl);
        may = may_still t key old new kept c.requires.may;
        untouched = kept;
        reads = λ none. reads;
        makes = rw (w.was-is, w.made-is) w.make-made-in-Ok-Lost.ensures;
        own = λ owns. absurd (apart owns);
        last = λ some made. reads_last t key there old new reads;
        took = took_in_trans t.plan old l.pass new (find_steps (deepest t.plan) + l._round * round_steps_in t.plan) (round_steps_in t.plan) _ i.took c.replace.ensures.steps
            (one_round_more (find_steps (deepest t.plan)) (round_steps_in t.plan) l._round);
        counted = record { least = omega (arith, counts.least, i.counted.least); most = omega (arith, counts.most, i.counted.most) };
        hindered = λ owns. absurd (apart owns);
        milestones = λ owns. absurd (apart owns);
        tried = λ owns. absurd (apart owns);
        made = omega (arith, lost.3, counts.least, i.made);
        cards = λ plain. let some = (spends plain).most in let all = i.cards plain in
            record { least = omega (arith, some.least, all.least); most = omega (arith, some.most, all.most) };
        few = λ plain. let one = each plain in let all = i.few plain in omega (arith, one, all);
      }
  | in-Err-Busy w ↦
      let t = c.args.steps.table.now in
      let key = c.args.key in
      let cards = t.plan.last_card in
      let old = c.args.pass.now in
      let l = c.loop-round in
      let i = l.invariant in
      let new = c.replace.new.pass in
      let op = put_by key c.in-Some.value l.was in
      let given_up : GivenUp t op l.pass new = search rules in
      let others : IsOthersDoing t 1 l.pass new = c.replace.ensures.others (search rules) in
      let kept = untouched_trans old l.pass new i.untouched (untouched_given_up t op l.pass new given_up) in
      let some : c.match-replace.made ≢ None = λ none. some_not_none w.made-is none in
      let spends = c.replace.ensures.cards in
      let counts = c.replace.ensures.counted in
      let each : t.plan.slots ≡ None → TakesByHindered l.pass new = λ plain. (let one = (spends plain).each in search (rules, one)) in
      record {
        same = (refl, refl, refl, refl);
        may = may_still t key old new kept c.requires.may;
        untouched = kept;
        reads = λ none. absurd (some none);
        makes = rw (w.was-is, w.made-is, ← c.in-Some.is) i.makes;
        own = λ owns. i.own owns ∙ sym w.was-is;
        last = λ more made. given_up_at_last t key c.in-Some.value l.was l.pass new given_up;
        took = took_in_trans t.plan old l.pass new (find_steps (deepest t.plan) + l._round * round_steps_in t.plan) (round_steps_in t.plan) _ i.took c.replace.ensures.steps
            (one_round_more (find_steps (deepest t.plan)) (round_steps_in t.plan) l._round);
        counted = record { least = omega (arith, counts.least, i.counted.least); most = omega (arith, counts.most, i.counted.most) };
        hindered = λ owns. omega (arith, others.each, i.hindered owns);
        milestones = λ owns. omega (arith, others.milestones, i.milestones owns);
        tried = λ owns more. some;
        made = let same = ap tries_in given_up.sees.mine in omega (arith, same, others.each, i.made);
        cards = λ plain. let some = (spends plain).most in let all = i.cards plain in
            record { least = omega (arith, some.least, all.least); most = omega (arith, some.most, all.most) };
        few = λ plain. let one = each plain in let all = i.few plain in omega (arith, one, all);
      }
]

-- it is there now
pub returns-in-Ok-Done-clause-computes : goal.returns-in-Ok-Done-clause-computes
returns-in-Ok-Done-clause-computes g c =
    let l = c.loop-round in
    let op = put_by c.args.key c.in-Some.value l.was in
    concludes c.args.steps.table.now op (reply_of_change op) c.args.pass.now l.pass c.replace.new.pass l.invariant.untouched (search rules)

pub returns-in-Ok-Done-clause-steps : goal.returns-in-Ok-Done-clause-steps
returns-in-Ok-Done-clause-steps g c =
    let l = c.loop-round in
    let plan = c.args.steps.table.now.plan in
    took_in_trans plan c.args.pass.now l.pass c.replace.new.pass (find_steps (deepest plan) + l._round * round_steps_in plan) (round_steps_in plan) _ l.invariant.took
    c.replace.ensures.steps (rounds_within (find_steps (deepest plan)) (round_steps_in plan) l._round c.args.tries c.loop-round-test.true)

-- what was found last is to stay as it is
pub returns-in_default-clause-cards : goal.returns-in_default-clause-cards
returns-in_default-clause-cards g c = λ plain.
    let i = c.loop-round.invariant in
    spends_none c.args.key c.args.tries c.loop-round._round c.args.pass.now c.loop-round.pass c.loop-round.made (i.cards plain) (i.few plain)
    (omega (arith, c.loop-round-test.true)) (search rules) (λ owns. by_rounds c.loop-round._round (i.tried owns) (search rules))

pub returns-clause-cards : goal.returns-clause-cards
returns-clause-cards g c = λ plain.
    let i = c.loop-round.invariant in
    let none : c.loop-round.made ≡ None = not_some c.loop-round.made (sym c.is_some.ensures ∙ c.if-is_some.false) in
    spends_none c.args.key c.args.tries c.loop-round._round c.args.pass.now c.loop-round.pass c.loop-round.made (i.cards plain) (i.few plain)
    (omega (arith, c.loop-round.auto._round-end)) none (λ owns. by_rounds c.loop-round._round (i.tried owns) none)

-- all tries were hindered
pub returns-then-is_some-clause-others : goal.returns-then-is_some-clause-others
returns-then-is_some-clause-others g c = λ owns not_done.
    let t = c.args.steps.table.now in
    let l = c.loop-round in
    let all : l._round ≡ c.args.tries = omega (arith, c.loop-round-test.false, l.auto._round-end) in
    let each : l.pass.view.hindered ≡ c.args.pass.now.view.hindered + c.args.tries = omega (arith, all, l.invariant.hindered owns) in
    record {
      each = each;
      milestones = omega (arith, all, l.invariant.milestones owns);
      by_others = more_tries t.plan c.args.pass.now.view.hindered l.pass.view c.args.tries each;
    }

pub returns-then-is_some-clause-enough : goal.returns-then-is_some-clause-enough
returns-then-is_some-clause-enough g c = λ owns many not_done.
    let l = c.loop-round in
    let cards = c.args.steps.table.now.plan.last_card in
    let all : l._round ≡ c.args.tries = omega (arith, c.loop-round-test.false, l.auto._round-end) in
    let most = milestones_most cards l.pass.view c.claims_stay_inside.ensures in
    omega (arith, many, most, all, l.invariant.milestones owns)

pub returns-then-is_some-clause-tried : goal.returns-then-is_some-clause-tried
returns-then-is_some-clause-tried g c = λ not_done.
    let l = c.loop-round in
    let all : l._round ≡ c.args.tries = omega (arith, c.loop-round-test.false, l.auto._round-end) in
    omega (arith, all, l.invariant.made)

-- no card was left
pub returns-in-Err-Spent-clause-not_done : goal.returns-in-Err-Spent-clause-not_done
returns-in-Err-Spent-clause-not_done g c =
    let t = c.args.steps.table.now in
    let key = c.args.key in
    let l = c.loop-round in
    let new = c.replace.new.pass in
    let op = put_by key c.in-Some.value l.was in
    let given_up : GivenUp t op l.pass new × NoneIsLeft t.plan new = search rules in
    record {
      untouched = untouched_trans c.args.pass.now l.pass new l.invariant.untouched (untouched_given_up t op l.pass new given_up.0);
      last = record { op = op; on = put_on key c.in-Some.value l.was; nothing = inl given_up.0.nothing };
      why = given_up.1;
    }
