use Rattle.std.proofs.Common.{◌≡◌, ℕ, ◌*◌, ◌<◌, ◌++◌, ◌+◌, ◌∷◌, ◌∙◌, [], List, length, get_or, arith, ap, subst, rules}
use Rattle.std.proofs.Math.Nat.{mul-le-mul_right}
use Rattle.std.proofs.lemmas.List.{length-append}
use Rattle.ell_parts.specs.Ranges.{AreStarts}
use Rattle.ell_parts.proofs.lemmas.Ranges.{ranges_hold, start_fits, starts_all, starts_more}
use Rattle.ell_parts.proofs.owners.range_starts.Goals as goal
use Rattle.ell_parts.proofs.owners.range_starts.Goals.{else-loop-worker-test, then-loop-worker-test+then-start-keys}

pub overflow_mul-start : goal.overflow_mul-start
overflow_mul-start g c =
    let fits = start_fits (length c.args.keys.now) c.args.workers c.loop-worker.worker c.div_ceil-share.result c.requires.some c.requires.few (omega arith) c.div_ceil-share.ensures c.loop-worker-test.true in
    omega (arith, fits)

pub loop-worker-preserved : goal.loop-worker-preserved
loop-worker-preserved g c =
    let keys = c.args.keys.now in
    let before = c.loop-worker.starts.items in
    let more = starts_more keys before c.div_ceil-share.result c.loop-worker.worker c.loop-worker.invariant.within c.loop-worker.invariant.each c.loop-worker.invariant.count (omega arith) in
    let items : c.push.new.self.items ≡ before ++ get_or keys (c.loop-worker.worker * c.div_ceil-share.result) 0 ∷ [] = search rules in
    record {
      within = λ m inside. (more m (subst (λ (l : List ℕ). m < length l) items inside)).0;
      each = λ m inside. ap (λ (l : List ℕ). get_or l m 0) items ∙ (more m (subst (λ (l : List ℕ). m < length l) items inside)).1;
      count =
          let longer = length-append before (get_or keys (c.loop-worker.worker * c.div_ceil-share.result) 0 ∷ []) in
          let one = c.loop-worker.invariant.count in
          ap (λ (l : List ℕ). length l + 1) items ∙ omega arith;
    }

pub returns-clause-starts : goal.returns-clause-starts
returns-clause-starts g c =
    let keys = c.args.keys.now in
    let past : length keys < c.loop-worker.worker * c.div_ceil-share.result + 1 =
    elim c.loop-worker-test.branch [
      | else-loop-worker-test w ↦
          let hold = ranges_hold (length keys) c.args.workers c.div_ceil-share.result c.requires.some c.div_ceil-share.ensures in
          let more = mul-le-mul_right c.div_ceil-share.result w.loop-worker-test.false in
          omega arith
      | then-loop-worker-test+then-start-keys w ↦ omega arith
    ] in
    subst (λ share. AreStarts keys share c.loop-worker.starts.items) c.div_ceil-share.ensures
    (starts_all keys c.loop-worker.starts.items c.div_ceil-share.result c.loop-worker.worker c.loop-worker.invariant.within c.loop-worker.invariant.each c.loop-worker.invariant.count (omega arith))
