use Rattle.std.proofs.Common.{arith, rules}
use Rattle.ell_tree.proofs.lemmas.Scans.{none_there, other_absent, scans_pair, scans_past}
use Rattle.ell_tree.proofs.lemmas.Stretching.{stretches_steps}
use Rattle.ell_tree.proofs.scanning.scan.Goals as goal
use Rattle.ell_tree.proofs.scanning.scan.Goals.{in_default-via-in-None-1, in_default-via-in-Some+else-at-key, in_default-via-in-Some+then-at-key+else-key-upto}

pub loop-at-preserved-then-key-upto : goal.loop-at-preserved-then-key-upto
loop-at-preserved-then-key-upto g c =
    let l = c.loop-at in
    let about = c.about-about in
    record {
      scans = scans_pair c.args.steps.table.now.plan c.args.pass.now l.pass about.new.pass c.args.from l.at c.args.upto l.count c.args.room.now l.room
          l.invariant.scans about.result c.loop-at-test.true c.requires.real about.ensures.found about.ensures.fixed about.ensures.on
          (record { key = c.in-Some.key; value = c.in-Some.value }) c.in-Some.is c.if-at-key.true c.if-key-upto.true c.if-count-room.true;
      kept = about.ensures.kept;
      places = λ some. about.ensures.places;
    }

pub loop-at-preserved : goal.loop-at-preserved
loop-at-preserved g c =
    let l = c.loop-at in
    let about = c.about-about in
    record {
      scans = scans_past c.args.steps.table.now.plan c.args.pass.now l.pass about.new.pass c.args.from l.at c.args.upto l.count c.args.room.now l.room
          l.invariant.scans about.result c.loop-at-test.true c.requires.real about.ensures.found about.ensures.fixed about.ensures.on
          (λ key after less. elim c.in_default.branch [
            | in_default-via-in-None-1 w ↦ none_there about.result.found key (search rules)
            | in_default-via-in-Some+else-at-key w ↦ other_absent about.result.found (w.in-Some.key, w.in-Some.value) key w.in-Some.is
                (λ same. let before = w.if-at-key.false in absurd (omega arith))
            | in_default-via-in-Some+then-at-key+else-key-upto w ↦ other_absent about.result.found (w.in-Some.key, w.in-Some.value) key w.in-Some.is
                (λ same. let past = w.if-key-upto.false in absurd (omega arith))
          ]);
      kept = about.ensures.kept;
      places = λ some. about.ensures.places;
    }

pub returns-then-at-upto-clause-only : goal.returns-then-at-upto-clause-only
returns-then-at-upto-clause-only g c =
    stretches_steps c.args.steps.table.now.plan _ _ c.args.pass.now c.loop-at.pass c.loop-at.invariant.scans.stretches

pub returns-else-at-upto-clause-only : goal.returns-else-at-upto-clause-only
returns-else-at-upto-clause-only g c =
    stretches_steps c.args.steps.table.now.plan _ _ c.args.pass.now c.loop-at.pass c.loop-at.invariant.scans.stretches

pub returns-then-at-upto-clause-saw : goal.returns-then-at-upto-clause-saw
returns-then-at-upto-clause-saw g c = c.loop-at.invariant.scans.stretches.saw

pub returns-else-at-upto-clause-saw : goal.returns-else-at-upto-clause-saw
returns-else-at-upto-clause-saw g c = c.loop-at.invariant.scans.stretches.saw
