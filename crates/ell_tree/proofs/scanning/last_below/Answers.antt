use Rattle.std.proofs.Common.{arith, rules}
use Rattle.ell_tree.proofs.lemmas.Scans.{descends_pair, descends_past, none_there, one_down, other_absent}
use Rattle.ell_tree.proofs.lemmas.LookPlaces.{saw_on}
use Rattle.ell_tree.proofs.lemmas.Stretching.{stretches_steps}
use Rattle.ell_tree.proofs.scanning.last_below.Goals as goal
use Rattle.ell_tree.proofs.scanning.last_below.Goals.{in_default-via-in-None-1, in_default-via-in-Some+else-key-below}

pub returns-in-loop-below-clause-found : goal.returns-in-loop-below-clause-found
returns-in-loop-below-clause-found g c =
    let l = c.loop-below in
    let about = c.about-about in
    descends_pair c.args.steps.table.now.plan c.args.pass.now l.pass about.new.pass l.below c.args.upto l.invariant.descends about.result
    c.loop-below-test.true about.ensures.found about.ensures.fixed about.ensures.on (c.in-Some.key, c.in-Some.value) c.in-Some.is c.if-key-below.true

pub returns-in-loop-below-clause-only : goal.returns-in-loop-below-clause-only
returns-in-loop-below-clause-only g c =
    let l = c.loop-below in
    let about = c.about-about in
    let plan = c.args.steps.table.now.plan in
    stretches_steps plan _ _ c.args.pass.now about.new.pass
    (one_down plan c.args.pass.now l.pass about.new.pass l.below c.args.upto l.invariant.descends about.result c.loop-below-test.true about.ensures.found
    about.ensures.fixed about.ensures.on)

pub loop-below-preserved : goal.loop-below-preserved
loop-below-preserved g c =
    let l = c.loop-below in
    let about = c.about-about in
    record {
      descends = descends_past c.args.steps.table.now.plan c.args.pass.now l.pass about.new.pass l.below c.args.upto l.invariant.descends about.result
          c.loop-below-test.true about.ensures.found about.ensures.fixed about.ensures.on
          (λ key low. elim c.in_default.branch [
            | in_default-via-in-None-1 w ↦ none_there about.result.found key (search rules)
            | in_default-via-in-Some+else-key-below w ↦ other_absent about.result.found (w.in-Some.key, w.in-Some.value) key w.in-Some.is
                (λ same. let above = w.if-key-below.false in absurd (omega arith))
          ]);
      kept = about.ensures.kept;
      places = λ some. about.ensures.places;
    }

pub returns-clause-only : goal.returns-clause-only
returns-clause-only g c =
    stretches_steps c.args.steps.table.now.plan _ _ c.args.pass.now c.loop-below.pass c.loop-below.invariant.descends.stretches

pub returns-in-loop-below-clause-saw : goal.returns-in-loop-below-clause-saw
returns-in-loop-below-clause-saw g c =
    let l = c.loop-below in
    saw_on c.args.pass.now.sight l.pass.sight c.about-about.new.pass.sight l.invariant.descends.stretches.saw c.about-about.ensures.on.sees

pub returns-clause-saw : goal.returns-clause-saw
returns-clause-saw g c = c.loop-below.invariant.descends.stretches.saw
