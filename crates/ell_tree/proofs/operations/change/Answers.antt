use Rattle.std.proofs.Common.{◌≡◌, ◌+◌, ◌*◌, ◌∙◌, List, sym, subst, ap, length, arith, rules, eq-eqb, eqb-true}
use Rattle.ell_runs.proofs.lemmas.runs.Tries.{more_tries}
use Rattle.ell_cards.proofs.lemmas.shown.InRuns.{given_up_last_changes_nothing}
use Rattle.ell_cards.proofs.lemmas.views.Steps.{own_trans}
use Rattle.ell_runs.specs.declared.view.Act.{Act}
use Rattle.ell_runs.specs.Seeing.{SeesBegin}
use Rattle.ell_tree.specs.Ends.{changes_by, try_steps_in}
use Rattle.ell_tree.specs.Hindrances.{way_of}
use Rattle.ell_tree.proofs.lemmas.Counts.{took_in, took_in_within, took_in_trans, rounds_first, rounds_later, round_steps, rounds_steps}
use Rattle.ell_tree.proofs.lemmas.Halting.{begun_meets, begun_count}
use Rattle.ell_tree.proofs.lemmas.Hindrances.{root_hindered, one_hindered, halts_hindered}
use Rattle.ell_tree.proofs.lemmas.Meeting.{meets_trans}
use Rattle.ell_tree.proofs.lemmas.Milestones.{milestones_one, milestones_still, milestones_same, milestones_most, milestones_more, amortized}
use Rattle.ell_tree.proofs.lemmas.CardsTaken.{answers_first, answered_most, answered_cards, unchanged_cards, taken_none, same_Ok}
use Rattle.ell_tree.proofs.lemmas.Keeping.{share_trans}
use Rattle.ell_tree.proofs.lemmas.LettingGo.{lets_none_go}
use Rattle.ell_tree.proofs.lemmas.Owning.{answers_begun, would_before, takes_before_it}
use Rattle.ell_tree.proofs.lemmas.Sights.{sees_none}
use Rattle.ell_tree.proofs.operations.change.Goals as goal

pub try_once-requires-clause-root : goal.try_once-requires-clause-root
try_once-requires-clause-root g c =
    let l = c.loop-round in
    let i = l.invariant in
    (c.restart.ensures.begins c.args.op i.stops.busy (λ none. i.root (eqb-true l.round 0 none))).root

pub loop-round-preserved : goal.loop-round-preserved
loop-round-preserved g c =
    let l = c.loop-round in
    let i = l.invariant in
    let op = c.args.op in
    let begins = c.restart.ensures.begins op i.stops.busy (λ none. i.root (eqb-true l.round 0 none)) in
    let most = try_steps_in c.args.steps.table.now.plan in
    let few = round_steps c.args.steps.table.now.plan l.round most c.args.pass.now l.pass c.restart.new.pass c.try_once.new.pass i.rounds
    begins.took (λ none. c.restart.ensures.first (eq-eqb l.round 0 none)) c.try_once.ensures.steps c.try_once.ensures.made in
    let halts = c.in-Hindered.ensures.ends.0 in
    let hindered = c.in-Hindered.ensures.ends.1 in
    let begun = begun_meets (way_of op l.pass.view) c.args.pass.now.view l.pass.view c.restart.new.pass.view i.meets i.way begins.hindrances begins.knows in
    record {
      same = i.same;
      own = own_trans c.args.pass.now c.restart.new.pass c.try_once.new.pass (own_trans c.args.pass.now l.pass c.restart.new.pass i.own begins.own) halts.own;
      sight = subst (SeesBegin op c.args.pass.now.sight) (sym (halts.sight ∙ c.restart.ensures.sight)) i.sight;
      ledger = halts.ledger ∙ (begins.ledger ∙ i.ledger);
      share = share_trans c.args.pass.now.view c.restart.new.pass.view c.try_once.new.pass.view
          (share_trans c.args.pass.now.view l.pass.view c.restart.new.pass.view i.share begins.share) halts.share;
      stops = halts.stops;
      retired = c.in-Hindered.ensures.ends.3;
      root = λ none. absurd (omega (arith, none));
      would = λ some. would_before op c.args.pass.now c.restart.new.pass (begins.ledger ∙ i.ledger) halts.would;
      meets = meets_trans c.args.pass.now.view c.restart.new.pass.view c.try_once.new.pass.view begun halts.meets;
      way = halts.way;
      hindrances = let n = begun_count (way_of op l.pass.view) l.pass.view c.restart.new.pass.view begins.hindrances in
          omega (arith, hindered, n, i.hindrances);
      hindered = let counts = halts_hindered op c.restart.new.pass c.try_once.new.pass halts hindered in
          omega (arith, counts, c.try_once.ensures.hindered, begins.hindered, i.hindered);
      milestones = let one = milestones_one c.args.steps.table.now.plan.last_card l.pass.view c.restart.new.pass.view c.try_once.new.pass.view begins.before begins.least
          (λ f h. halts.meets.knows f (begins.knows f h)) c.in-Hindered.ensures.ends.2 in
          omega (arith, one, i.milestones);
      taken = λ plain. let few = i.taken plain in let one = c.in-Hindered.ensures.taken plain in
          record { least = omega (arith, one.least, begins.taken, few.least); most = omega (arith, one.most, begins.taken, few.most) };
      rounds = rounds_later c.args.steps.table.now.plan l.round most c.args.pass.now c.try_once.new.pass few;
    }

pub loop-round-init : goal.loop-round-init
loop-round-init g c =
    let cards = c.args.steps.table.now.plan.last_card in
    let start = c.begin.ensures.begins in
    let still = milestones_still cards c.args.pass.now.view c.begin.new.pass.view start.knows start.least in
    record {
      same = search rules;
      own = search rules;
      sight = c.begin.ensures.sees;
      ledger = search rules;
      share = start.share;
      stops = search rules;
      retired = lets_none_go c.args.steps.table.now.plan c.begin.new.pass start.root.no_card;
      root = λ none. start.root;
      would = λ some. absurd (omega (arith, some));
      meets = search rules;
      way = search rules;
      hindrances = search rules;
      hindered = let none = root_hindered c.args.op c.begin.new.pass.view start.root in omega (arith, none, start.hindered);
      milestones = omega (arith, still);
      taken = λ plain. record { least = omega (arith, start.taken); most = omega (arith, start.taken) };
      rounds = rounds_first c.args.steps.table.now.plan (try_steps_in c.args.steps.table.now.plan) c.args.pass.now c.begin.new.pass start.took;
    }

pub returns-in-Answered-clause-steps : goal.returns-in-Answered-clause-steps
returns-in-Answered-clause-steps g c =
    let l = c.loop-round in
    let i = l.invariant in
    let start = c.args.pass.now in
    let tried = c.try_once.new.pass in
    let begins = c.restart.ensures.begins c.args.op i.stops.busy (λ none. i.root (eqb-true l.round 0 none)) in
    let cards = c.args.steps.table.now.plan.last_card in
    let most = try_steps_in c.args.steps.table.now.plan in
    let few = round_steps c.args.steps.table.now.plan l.round most start l.pass c.restart.new.pass tried i.rounds
    begins.took (λ none. c.restart.ensures.first (eq-eqb l.round 0 none)) c.try_once.ensures.steps c.try_once.ensures.made in
    let all = rounds_steps l.round c.args.tries most c.loop-round-test.true in
    let on = milestones_more cards l.pass.view tried.view
    (λ f h. c.in-Answered.ensures.ends.1.knows f (begins.knows f h)) (omega (arith, begins.least, c.try_once.ensures.least)) in
    record {
      most = took_in_within c.args.steps.table.now.plan start tried ((l.round + 1) * most) (c.args.tries * most + 1) few (omega (arith, all));
      amortized = amortized c.args.steps.table.now.plan l.round start tried (omega (arith, on, i.milestones))
          (took_in_within c.args.steps.table.now.plan start tried ((l.round + 1) * most) ((l.round + 1) * most + 1) few (omega arith));
      counted = record {
        least = omega (arith, c.try_once.ensures.hindered, begins.hindered, i.hindered);
        most = omega (arith, c.try_once.ensures.hindered, begins.hindered, i.hindered, c.loop-round-test.true);
      };
    }

pub returns-in-Spent-clause-steps : goal.returns-in-Spent-clause-steps
returns-in-Spent-clause-steps g c =
    let l = c.loop-round in
    let i = l.invariant in
    let op = c.args.op in
    let start = c.args.pass.now in
    let tried = c.try_once.new.pass in
    let left = c.leave.new.pass in
    let begins = c.restart.ensures.begins op i.stops.busy (λ none. i.root (eqb-true l.round 0 none)) in
    let cards = c.args.steps.table.now.plan.last_card in
    let most = try_steps_in c.args.steps.table.now.plan in
    let few = round_steps c.args.steps.table.now.plan l.round most start l.pass c.restart.new.pass tried i.rounds
    begins.took (λ none. c.restart.ensures.first (eq-eqb l.round 0 none)) c.try_once.ensures.steps c.try_once.ensures.made in
    let all = rounds_steps l.round c.args.tries most c.loop-round-test.true in
    let halts = c.in-Spent.ensures.ends.0 in
    let gives_up = c.leave.ensures.gives_up op halts.stops.busy in
    let on = milestones_more cards l.pass.view tried.view
    (λ f h. halts.meets.knows f (begins.knows f h)) (omega (arith, begins.least, c.try_once.ensures.least)) in
    let same = milestones_same cards tried.view left.view gives_up.facts gives_up.least in
    let one = one_hindered tried.view in
    record {
      most = took_in_trans c.args.steps.table.now.plan start tried left ((l.round + 1) * most) 1 (c.args.tries * most + 1) few (took_in c.args.steps.table.now.plan tried left 1 gives_up.took) (omega (arith, all));
      amortized = amortized c.args.steps.table.now.plan l.round start left (omega (arith, on, same, i.milestones))
          (took_in_trans c.args.steps.table.now.plan start tried left ((l.round + 1) * most) 1 ((l.round + 1) * most + 1) few (took_in c.args.steps.table.now.plan tried left 1 gives_up.took) (omega arith));
      counted = record {
        least = omega (arith, one.0, gives_up.hindered, c.try_once.ensures.hindered, begins.hindered, i.hindered);
        most = omega (arith, one.1, gives_up.hindered, c.try_once.ensures.hindered, begins.hindered, i.hindered, c.loop-round-test.true);
      };
    }

pub returns-clause-steps : goal.returns-clause-steps
returns-clause-steps g c =
    let l = c.loop-round in
    let i = l.invariant in
    let start = c.args.pass.now in
    let left = c.leave-2.new.pass in
    let cards = c.args.steps.table.now.plan.last_card in
    let most = try_steps_in c.args.steps.table.now.plan in
    let few = i.rounds.later (omega (arith, c.requires.tries, c.loop-round-test.false, l.auto.round-end)) in
    let all : l.round ≡ c.args.tries = omega (arith, c.loop-round-test.false, l.auto.round-end) in
    let rounds = ap (λ n. n * most) all in
    let gives_up = c.leave-2.ensures.gives_up c.args.op i.stops.busy in
    let same = milestones_same cards l.pass.view left.view gives_up.facts gives_up.least in
    record {
      most = took_in_trans c.args.steps.table.now.plan start l.pass left (l.round * most) 1 (c.args.tries * most + 1) few (took_in c.args.steps.table.now.plan l.pass left 1 gives_up.took) (omega (arith, rounds));
      amortized = amortized c.args.steps.table.now.plan l.round start left (omega (arith, same, i.milestones))
          (took_in_trans c.args.steps.table.now.plan start l.pass left (l.round * most) 1 ((l.round + 1) * most + 1) few (took_in c.args.steps.table.now.plan l.pass left 1 gives_up.took) (omega arith));
      counted = record { least = omega (arith, gives_up.hindered, i.hindered); most = omega (arith, gives_up.hindered, all, i.hindered) };
    }

pub returns-clause-others : goal.returns-clause-others
returns-clause-others g c = λ not_done.
    let t = c.args.steps.table.now in
    let l = c.loop-round in
    let left = c.leave-2.new.pass.view in
    let gives_up = c.leave-2.ensures.gives_up c.args.op l.invariant.stops.busy in
    let same = milestones_same t.plan.last_card l.pass.view left gives_up.facts gives_up.least in
    let all : l.round ≡ c.args.tries = omega (arith, c.loop-round-test.false, l.auto.round-end) in
    let each : left.hindered ≡ c.args.pass.now.view.hindered + c.args.tries = omega (arith, gives_up.hindered, all, l.invariant.hindered) in
    record {
      each = each;
      milestones = omega (arith, same, all, l.invariant.milestones);
      by_others = more_tries t.plan c.args.pass.now.view.hindered left c.args.tries each;
    }

pub returns-clause-enough : goal.returns-clause-enough
returns-clause-enough g c = λ many not_done.
    let l = c.loop-round in
    let cards = c.args.steps.table.now.plan.last_card in
    let most = milestones_most cards l.pass.view c.leave-2.ensures.least in
    let all : l.round ≡ c.args.tries = omega (arith, c.loop-round-test.false, l.auto.round-end) in
    omega (arith, many, most, all, l.invariant.milestones)

pub returns-in-Answered-clause-ends : goal.returns-in-Answered-clause-ends
returns-in-Answered-clause-ends g c =
    let a = c.args.pass.now.view in
    let l = c.loop-round in
    let i = l.invariant in
    let begins = c.restart.ensures.begins c.args.op i.stops.busy (λ none. i.root (eqb-true l.round 0 none)) in
    let begun = begun_meets (way_of c.args.op l.pass.view) a l.pass.view c.restart.new.pass.view i.meets i.way begins.hindrances begins.knows in (
      answers_begun c.args.steps.table.now c.args.op _ c.args.pass.now l.pass c.restart.new.pass c.try_once.new.pass (own_trans c.args.pass.now l.pass c.restart.new.pass i.own begins.own)
          (begins.ledger ∙ i.ledger) (share_trans a l.pass.view c.restart.new.pass.view i.share begins.share) i.sight c.restart.ensures.sight c.in-Answered.ensures.ends.0,
      meets_trans a c.restart.new.pass.view c.try_once.new.pass.view begun c.in-Answered.ensures.ends.1,
    )

pub returns-in-Spent-clause-ends : goal.returns-in-Spent-clause-ends
returns-in-Spent-clause-ends g c =
    let a = c.args.pass.now.view in
    let l = c.loop-round in
    let i = l.invariant in
    let op = c.args.op in
    let begins = c.restart.ensures.begins op i.stops.busy (λ none. i.root (eqb-true l.round 0 none)) in
    let halts = c.in-Spent.ensures.ends.0 in
    let tried = c.try_once.new.pass.view in
    let gives_up = c.leave.ensures.gives_up op halts.stops.busy in
    let begun = begun_meets (way_of op l.pass.view) a l.pass.view c.restart.new.pass.view i.meets i.way begins.hindrances begins.knows in
    let met = meets_trans a c.restart.new.pass.view tried begun halts.meets in
    let kept = share_trans a l.pass.view c.restart.new.pass.view i.share begins.share in
    let sees = sees_none op c.args.pass.now.sight l.pass.sight c.leave.new.pass.sight i.sight (gives_up.sight ∙ (halts.sight ∙ c.restart.ensures.sight)) in (
      record {
        own = search rules;
        ledger = search rules;
        answered = ap (λ (l : List Act). length l) sees.mine;
        share = share_trans a tried c.leave.new.pass.view (share_trans a c.restart.new.pass.view tried kept halts.share) gives_up.share;
        would = would_before op c.args.pass.now c.restart.new.pass (begins.ledger ∙ i.ledger) halts.would;
        nothing = given_up_last_changes_nothing c.args.steps.table.now.plan c.leave.new.pass.view op gives_up.given_up;
        idle = gives_up.idle;
        unpinned = gives_up.unpinned;
        no_card = gives_up.no_card;
        sees = sees;
      },
      λ empty. gives_up.next ∙ c.in-Spent.ensures.ends.1 empty,
      begun_meets (way_of op tried) a tried c.leave.new.pass.view met halts.way gives_up.hindrances gives_up.knows,
    )

pub returns-clause-ends : goal.returns-clause-ends
returns-clause-ends g c =
    let a = c.args.pass.now.view in
    let l = c.loop-round in
    let i = l.invariant in
    let op = c.args.op in
    let gives_up = c.leave-2.ensures.gives_up op i.stops.busy in
    let all : l.round ≡ c.args.tries = omega (arith, c.loop-round-test.false, l.auto.round-end) in
    let sees = sees_none op c.args.pass.now.sight l.pass.sight c.leave-2.new.pass.sight i.sight gives_up.sight in
    let n = begun_count (way_of op l.pass.view) l.pass.view c.leave-2.new.pass.view gives_up.hindrances in (
      record {
        own = search rules;
        ledger = search rules;
        answered = ap (λ (l : List Act). length l) sees.mine;
        share = share_trans a l.pass.view c.leave-2.new.pass.view i.share gives_up.share;
        would = i.would (omega (arith, all, c.requires.tries));
        nothing = given_up_last_changes_nothing c.args.steps.table.now.plan c.leave-2.new.pass.view op gives_up.given_up;
        idle = gives_up.idle;
        unpinned = gives_up.unpinned;
        no_card = gives_up.no_card;
        sees = sees;
      },
      omega (arith, all, n, i.hindrances),
      begun_meets (way_of op l.pass.view) a l.pass.view c.leave-2.new.pass.view i.meets i.way gives_up.hindrances gives_up.knows,
    )

-- the value that it took
pub returns-in-Answered-clause-takes : goal.returns-in-Answered-clause-takes
returns-in-Answered-clause-takes g c =
    let l = c.loop-round in
    let i = l.invariant in
    let begins = c.restart.ensures.begins c.args.op i.stops.busy (λ none. i.root (eqb-true l.round 0 none)) in
    takes_before_it c.args.steps.table.now c.args.op c.in-Answered.had c.args.pass.now l.pass c.restart.new.pass c.try_once.new.pass (begins.ledger ∙ i.ledger) i.sight c.restart.ensures.sight
    c.in-Answered.ensures.takes

pub returns-in-Answered-clause-cards : goal.returns-in-Answered-clause-cards
returns-in-Answered-clause-cards g c = λ plain.
    let l = c.loop-round in
    let i = l.invariant in
    let op = c.args.op in
    let had = c.in-Answered.had in
    let begun = c.restart.new.pass in
    let after = c.try_once.new.pass in
    let begins = c.restart.ensures.begins op i.stops.busy (λ none. i.root (eqb-true l.round 0 none)) in
    let few = i.taken plain in
    let takes = c.in-Answered.ensures.taken plain in
    let one = answered_most op had begun after takes in
    record {
      most = record {
        least = omega (arith, one.least, begins.taken, few.least);
        most = omega (arith, one.most, begins.taken, few.most, c.loop-round-test.true);
      };
      each = answered_cards op had l.round c.args.pass.now l.pass begun after few begins.taken takes
          (omega (arith, c.try_once.ensures.hindered, begins.hindered, i.hindered));
      unchanged = λ owns none. unchanged_cards l.round c.args.pass.now l.pass begun after few begins.taken
          (taken_none op had begun after takes (same_Ok (changes_by op had) none))
          (answers_first c.args.steps.table.now op had l.round c.args.pass.now begun after c.requires.change c.in-Answered.ensures.ends.0 (begins.ledger ∙ i.ledger)
          i.would owns (same_Ok (changes_by op had) none));
    }

pub returns-in-Spent-clause-cards : goal.returns-in-Spent-clause-cards
returns-in-Spent-clause-cards g c = λ plain.
    let l = c.loop-round in
    let i = l.invariant in
    let begins = c.restart.ensures.begins c.args.op i.stops.busy (λ none. i.root (eqb-true l.round 0 none)) in
    let gives_up = c.leave.ensures.gives_up c.args.op c.in-Spent.ensures.ends.0.stops.busy in
    let one = one_hindered c.try_once.new.pass.view in
    let few = i.taken plain in
    let none = c.in-Spent.ensures.taken plain in
    record {
      most = record {
        least = omega (arith, gives_up.taken, none, begins.taken, few.least);
        most = omega (arith, gives_up.taken, none, begins.taken, few.most, c.loop-round-test.true);
      };
      each = omega (arith, gives_up.taken, none, begins.taken, few.most, one.0, gives_up.hindered, c.try_once.ensures.hindered, begins.hindered, i.hindered);
      unchanged = λ owns not_done. absurd cc;
    }

pub returns-clause-cards : goal.returns-clause-cards
returns-clause-cards g c = λ plain.
    let l = c.loop-round in
    let i = l.invariant in
    let gives_up = c.leave-2.ensures.gives_up c.args.op i.stops.busy in
    let all : l.round ≡ c.args.tries = omega (arith, c.loop-round-test.false, l.auto.round-end) in
    let few = i.taken plain in
    record {
      most = record { least = omega (arith, gives_up.taken, few.least); most = omega (arith, gives_up.taken, few.most, all) };
      each = omega (arith, gives_up.taken, few.most, gives_up.hindered, i.hindered);
      unchanged = λ owns not_done. absurd cc;
    }
