use Rattle.std.proofs.Common.{◌≡◌, ◌+◌, ◌<◌, length, get_or, nat_cmp, arith, refl, ap, sym, subst, ◌∙◌, length-set}
use Rattle.std.proofs.lemmas.Bool.{not-true, not-false}
use Rattle.std.proofs.lemmas.List.{length_push, take_all}
use Rattle.std.specs.BTreeMap.{is_at}
use Rattle.std.specs.List.{list_any}
use Rattle.ell_world.specs.Inside.{worker_in, worker_at}
use Rattle.ell_world.proofs.lemmas.Faults.{HasKeys-more, FaultlessBefore-more, Faultless-all, stranger_first, repeat_first}
use Rattle.ell_world.proofs.lemmas.Workers.{worker_at-push, HaveLedgers, owning, HaveLedgers-more}
use Rattle.ell_world.proofs.world.owning_workers.Goals as goal
use Rattle.ell_core.specs.state.Machine.{entry_of}
use Rattle.ell_core.specs.state.Opening.{start_entry}

pub loop-init : goal.loop-init
loop-init g c =
    let none = c.in_ok-workers.ensures.items in
    record { count = ap length none; new = λ i. ap (λ workers. worker_at workers i) none }

pub loop-preserved : goal.loop-preserved
loop-preserved g c =
    let pushed = c.in_ok-push.ensures.items in
    let workers = c.loop.workers.items in
    let new = c.new.result in
    let count = c.loop.invariant.count in
    record {
      count = ap length pushed ∙ length_push workers new ∙ ap (λ n. n + 1) count;
      new = λ i. ap (λ vs. worker_at vs i) pushed ∙ worker_at-push workers new i c.new.ensures c.loop.invariant.new;
    }

pub loop-worker-init : goal.loop-worker-init
loop-worker-init g c =
    let count = c.loop.invariant.count in
    let all = c.loop.auto.counter-end in
    record {
      count = omega arith;
      ledgers = c.loop.invariant.new;
      taken = λ q. ap (λ keys. list_any (is_at (nat_cmp q)) keys) c.new-taken.ensures.empty;
      faultless = λ i below. absurd (omega arith);
    }

pub returns-in_default-clause-refused : goal.returns-in_default-clause-refused
returns-in_default-clause-refused g c =
    let h = c.loop-worker.invariant in
    let past = c.in_default.ensures.item.3 in
    stranger_first c.args.count c.args.owned.now c.loop-worker.worker-index h.faultless c.loop-worker-test.true (omega arith)

pub returns-then-not-branch-clause-refused : goal.returns-then-not-branch-clause-refused
returns-then-not-branch-clause-refused g c =
    let h = c.loop-worker.invariant in
    let there = c.in-Some.ensures.variant.0 refl in
    let ok = c.loop-worker.workers.ok in
    repeat_first c.args.count c.args.owned.now c.loop-worker.taken.keys c.loop-worker.worker-index h.faultless h.taken c.loop-worker-test.true
    (omega arith) (not-false _ (sym c.in_ok-insert.ensures.added ∙ c.if-not-branch.true))

pub loop-worker-preserved : goal.loop-worker-preserved
loop-worker-preserved g c =
    let owned = c.args.owned.now in
    let n = c.loop-worker.worker-index in
    let within = c.loop-worker-test.true in
    let h = c.loop-worker.invariant in
    let workers = c.loop-worker.workers.items in
    let entry = get_or owned n (0, 0) in
    let there = c.in-Some.ensures.variant.0 refl in
    let ok = c.loop-worker.workers.ok in
    let below : entry.0 < length workers = omega arith in
    let present : c.of.result ≡ start_entry c.args.start.now entry.1 = c.of.ensures ∙ ap entry_of c.value_of.ensures in
    record {
      count = length-set workers entry.0 c.own.new.self ∙ h.count;
      ledgers = HaveLedgers-more workers c.args.start.now owned n c.in-Some.owner.now c.own.new.self within h.ledgers below c.in-Some.ensures.value
          (c.in_ok-own.ensures ∙ ap (owning (worker_in c.in-Some.owner.now) entry.1) present);
      taken = HasKeys-more c.loop-worker.taken.keys c.insert.new.self.keys owned n within h.taken c.in_ok-insert.ensures.updates.0;
      faultless =
          FaultlessBefore-more c.args.count owned c.loop-worker.taken.keys n h.faultless h.taken within (omega arith)
          (not-true _ (sym c.in_ok-insert.ensures.added ∙ c.if-not-branch.false));
    }

pub returns-clause-count : goal.returns-clause-count
returns-clause-count g c = c.loop-worker.workers.ok.0 ∙ c.loop-worker.invariant.count

pub returns-clause-ledgers : goal.returns-clause-ledgers
returns-clause-ledgers g c =
    subst (HaveLedgers c.loop-worker.workers.items c.args.start.now) (take_all c.loop-worker.worker-index c.args.owned.now c.loop-worker-test.false)
    c.loop-worker.invariant.ledgers

pub returns-clause-faultless : goal.returns-clause-faultless
returns-clause-faultless g c =
    Faultless-all c.args.count c.args.owned.now c.loop-worker.worker-index c.loop-worker-test.false c.loop-worker.invariant.faultless
