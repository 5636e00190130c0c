use Rattle.std.proofs.Common.{rules, ◌≡◌, ◌≢◌, ◌*◌, ◌+◌, None, Some, Ok, inl, refl, sym, ◌∙◌, arith}
use Rattle.ell_ops.specs.declared.op.Op.TheVariants.{Delete, Find}
use Rattle.ell_ops.specs.declared.reply.Reply.TheVariants.{Yes}
use Rattle.ell_ops.specs.Meaning.{found}
use Rattle.ell_runs.proofs.lemmas.runs.Tries.{more_tries}
use Rattle.ell_tree.specs.Called.{SeesTake}
use Rattle.ell_tree.specs.Computing.{Concludes, IsUntouched, round_steps_in}
use Rattle.ell_tree.specs.Ends.{Answers, GivenUp, NoneIsLeft, TakesValue, find_steps}
use Rattle.ell_tree.specs.Ledgers.{Owns, present_in}
use Rattle.ell_tree.specs.Promises.{IsOthersDoing}
use Rattle.ell_tree.specs.CardsTaken.{TakesByHindered}
use Rattle.ell_tree.proofs.lemmas.Computing.{untouched_by, untouched_given_up, untouched_self, untouched_trans, concludes, concludes_after, find_leaves, found_last, found_not_yes, found_own, may_still}
use Rattle.ell_tree.proofs.lemmas.Counts.{took_in, took_in_within, took_in_trans}
use Rattle.ell_tree.proofs.lemmas.Milestones.{milestones_most}
use Rattle.ell_tree.proofs.lemmas.Removing.{is_that, removes}
use Rattle.ell_tree.proofs.lemmas.Rounds.{one_round_more}
use Rattle.ell_tree.proofs.removing.remove_if.Goals as goal
use Rattle.ell_tree.proofs.removing.remove_if.Goals.{in-Ok-Lost, in-Err-Busy}
use Rattle.ell_runs.specs.Depths.{deepest}

pub loop-round-init : goal.loop-round-init
loop-round-init g c =
    let t = c.args.steps.table.now in
    let key = c.args.key in
    let old = c.args.pass.now in
    let new = c.find-there.new.pass in
    let there = c.find-there.result in
    let finds = c.find-there.ensures in
    let left = untouched_by t (Find key) (found there) old new (find_leaves key old) (found_not_yes there) finds.answers in
    let reads = concludes t (Find key) (found there) old old new (untouched_self old c.requires.may.idle) finds.answers in
    record {
      same = (refl, refl, refl, refl);
      may = may_still t key old new left c.requires.may;
      untouched = left;
      reads = λ other. reads;
      own = found_own t key there old new reads;
      last = λ some. absurd (omega arith);
      took = took_in_within t.plan old new (find_steps (deepest t.plan)) _ (took_in t.plan old new (find_steps (deepest t.plan)) finds.steps) (omega arith);
      counted = record { least = omega (arith, finds.quiet.hindered); most = omega (arith, finds.quiet.hindered) };
      hindered = λ owns. omega (arith, finds.quiet.hindered);
      milestones = λ owns. omega (arith, finds.quiet.milestones);
      tried = λ owns some. absurd (omega arith);
      made = omega (arith, finds.answers.answered, finds.quiet.hindered);
      cards = λ plain. record { least = omega (arith, finds.cards); most = omega (arith, finds.cards) };
      few = λ plain. omega (arith, finds.cards, finds.quiet.hindered);
    }

-- another pass had changed the key, which is not the pass's own: what is there now was read
pub loop-round-preserved : goal.loop-round-preserved
loop-round-preserved g c = elim c.match-remove_or_read.branch [
  | in-Ok-Lost w ↦
      let t = c.args.steps.table.now in
      let key = c.args.key in
      let cards = t.plan.last_card in
      let old = c.args.pass.now in
      let l = c.loop-round in
      let i = l.invariant in
      let new = c.remove_or_read.new.pass in
      let there = c.match-remove_or_read.there in
      let that : l.there ≡ Some c.args.was = is_that c.args.was l.there (search rules) in
      let lost : IsUntouched l.pass new × Concludes t (Find key) (found there) l.pass new × (Owns l.pass key → present_in l.pass key ≢ Some c.args.was) = rw w.there-is (search rules) in
      let reads = concludes_after t (Find key) (found there) old l.pass new i.untouched lost.1 in
      let kept = untouched_trans old l.pass new i.untouched lost.0 in
      let apart : ¬ Owns old key = λ owns. lost.2 ((i.untouched.owned key).1 owns) (i.untouched.map key ∙ (i.own owns ∙ that)) in
      let spends = c.remove_or_read.ensures.cards in
      let counts = c.remove_or_read.ensures.counted in
      let each : t.plan.slots ≡ None → TakesByHindered l.pass new = λ plain. (let one = (spends plain).each in search (rules, one)) in
      record {
        same = (refl, refl, refl, refl);
        may = may_still t key old new kept c.requires.may;
        untouched = kept;
        reads = λ other. reads;
        own = λ owns. absurd (apart owns);
        last = λ some is. found_last t key there old new reads;
        took = took_in_trans t.plan old l.pass new (find_steps (deepest t.plan) + l._round * round_steps_in t.plan) (round_steps_in t.plan) _ i.took c.remove_or_read.ensures.steps
            (one_round_more (find_steps (deepest t.plan)) (round_steps_in t.plan) l._round);
        counted = record { least = omega (arith, counts.least, i.counted.least); most = omega (arith, counts.most, i.counted.most) };
        hindered = λ owns. absurd (apart owns);
        milestones = λ owns. absurd (apart owns);
        tried = λ owns. absurd (apart owns);
        made = omega (arith, lost.1.answered, counts.least, i.made);
        cards = λ plain. let some = (spends plain).most in let all = i.cards plain in
            record { least = omega (arith, some.least, all.least); most = omega (arith, some.most, all.most) };
        few = λ plain. let one = each plain in let all = i.few plain in omega (arith, one, all);
      }
  | in-Err-Busy w ↦
      let t = c.args.steps.table.now in
      let key = c.args.key in
      let cards = t.plan.last_card in
      let old = c.args.pass.now in
      let l = c.loop-round in
      let i = l.invariant in
      let new = c.remove_or_read.new.pass in
      let that : l.there ≡ Some c.args.was = is_that c.args.was l.there (search rules) in
      let still : c.match-remove_or_read.there ≡ Some c.args.was = w.there-is ∙ that in
      let given_up : GivenUp t (Delete key) l.pass new = search rules in
      let others : IsOthersDoing t 1 l.pass new = c.remove_or_read.ensures.others (search rules) in
      let kept = untouched_trans old l.pass new i.untouched (untouched_given_up t (Delete key) l.pass new given_up) in
      let spends = c.remove_or_read.ensures.cards in
      let counts = c.remove_or_read.ensures.counted in
      let each : t.plan.slots ≡ None → TakesByHindered l.pass new = λ plain. (let one = (spends plain).each in search (rules, one)) in
      record {
        same = (refl, refl, refl, refl);
        may = may_still t key old new kept c.requires.may;
        untouched = kept;
        reads = λ other. absurd (other still);
        own = λ owns. i.own owns ∙ sym w.there-is;
        last = λ more is. record { op = Delete key; on = refl; nothing = inl given_up.nothing };
        took = took_in_trans t.plan old l.pass new (find_steps (deepest t.plan) + l._round * round_steps_in t.plan) (round_steps_in t.plan) _ i.took c.remove_or_read.ensures.steps
            (one_round_more (find_steps (deepest t.plan)) (round_steps_in t.plan) l._round);
        counted = record { least = omega (arith, counts.least, i.counted.least); most = omega (arith, counts.most, i.counted.most) };
        hindered = λ owns. omega (arith, others.each, i.hindered owns);
        milestones = λ owns. omega (arith, others.milestones, i.milestones owns);
        tried = λ owns more. still;
        made = omega (arith, given_up.answered, others.each, i.made);
        cards = λ plain. let some = (spends plain).most in let all = i.cards plain in
            record { least = omega (arith, some.least, all.least); most = omega (arith, some.most, all.most) };
        few = λ plain. let one = each plain in let all = i.few plain in omega (arith, one, all);
      }
]

-- the key had this value, and is removed
pub returns-in-Ok-Done-clause-removes : goal.returns-in-Ok-Done-clause-removes
returns-in-Ok-Done-clause-removes g c =
    let t = c.args.steps.table.now in
    let key = c.args.key in
    let was = c.args.was in
    let l = c.loop-round in
    let new = c.remove_or_read.new.pass in
    let that : l.there ≡ Some was = is_that was l.there (search rules) in
    let done : Answers t (Delete key) Yes l.pass new × TakesValue t key l.pass new (Some was) × SeesTake key l.pass new (Ok (Some was)) = search rules in
    removes t key was l.there c.args.pass.now l.pass new that l.invariant.untouched done.0 done.1 done.2

-- no card was left
pub returns-in-Err-Spent-clause-not_done : goal.returns-in-Err-Spent-clause-not_done
returns-in-Err-Spent-clause-not_done g c =
    let t = c.args.steps.table.now in
    let op = Delete c.args.key in
    let l = c.loop-round in
    let new = c.remove_or_read.new.pass in
    let given_up : GivenUp t op l.pass new × NoneIsLeft t.plan new = search rules in
    record {
      untouched = untouched_trans c.args.pass.now l.pass new l.invariant.untouched (untouched_given_up t op l.pass new given_up.0);
      last = record { op = op; on = refl; nothing = inl given_up.0.nothing };
      why = given_up.1;
    }

-- all tries were hindered
pub returns-then-is_value-clause-others : goal.returns-then-is_value-clause-others
returns-then-is_value-clause-others g c = λ owns not_done.
    let t = c.args.steps.table.now in
    let l = c.loop-round in
    let all : l._round ≡ c.args.tries = omega (arith, c.loop-round-test.false, l.auto._round-end) in
    let each : l.pass.view.hindered ≡ c.args.pass.now.view.hindered + c.args.tries = omega (arith, all, l.invariant.hindered owns) in
    record {
      each = each;
      milestones = omega (arith, all, l.invariant.milestones owns);
      by_others = more_tries t.plan c.args.pass.now.view.hindered l.pass.view c.args.tries each;
    }

pub returns-then-is_value-clause-enough : goal.returns-then-is_value-clause-enough
returns-then-is_value-clause-enough g c = λ owns many not_done.
    let l = c.loop-round in
    let cards = c.args.steps.table.now.plan.last_card in
    let all : l._round ≡ c.args.tries = omega (arith, c.loop-round-test.false, l.auto._round-end) in
    let most = milestones_most cards l.pass.view c.claims_stay_inside.ensures in
    omega (arith, many, most, all, l.invariant.milestones owns)
