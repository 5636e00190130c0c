use Rattle.std.proofs.Common.{◌≡◌, ℕ, ◌+◌, ◌<◌, inl, true, false, Some, None, refl, subst, arith}
use Rattle.ell_ops.specs.declared.op.Op.TheVariants.{Find}
use Rattle.ell_core.specs.declared.event.Act.TheVariants as act
use Rattle.ell_core.specs.declared.event.Shown.TheVariants as shown
use Rattle.ell_core.specs.declared.event.Stepped.TheVariants.{Moved, Answered}
use Rattle.ell_core.specs.declared.fact.Fact.TheVariants.{IOver}
use Rattle.ell_core.specs.declared.view.Entry.TheVariants.{Absent}
use Rattle.ell_ops.specs.declared.reply.Reply.TheVariants.{Yes}
use Rattle.ell_layout.specs.Words.{put}
use Rattle.ell_core.specs.state.Machine.{Machine, Scene, scene}
use Rattle.ell_core.specs.acts.Searching.{begun}
use Rattle.ell_core.specs.acts.Events.{Steps}
use Rattle.ell_core.specs.statements.RunLaws.{IsPassed}
use Rattle.ell_core.proofs.lemmas.stages.Ended.{insert_over-ended}
use Rattle.ell_core.proofs.lemmas.stages.Order.{insert_over-changed}
use Rattle.ell_core.proofs.lemmas.runs.Passed.{passed_on}
use Rattle.ell_core.proofs.lemmas.runs.SmallRun.{over_state, answered_state, at, by, answers, over_passed}
use Rattle.ell_core.proofs.lemmas.outcomes.Decide.{some_not_none}
use Rattle.ell_grace.specs.epochs.Grace.{Grace, least_with, advances, dies, begins, gets_retire_epoch, frees, scans, looks, settles}
use Rattle.ell_grace.specs.Premises.{BeginsWhenGone, IsLedTo, start, more, TakesWhenBusy}

-- after the small run, in which card 1 took leaf 1 out of the tree, its worker takes a find in hand
abbrev next_scene : Scene
next_scene = record (scene answered_state 0) { worker = begun (Some (Find 7)) (answered_state.worker 0) }

abbrev next_state : Machine
next_state = at answered_state next_scene

begins_anew : Steps answered_state (by (act.Begin (Find 7))) Moved next_state
begins_anew = record {
  there = omega arith;
  becomes = next_scene;
  happens = record {
    owned = λ e. let f : Some Absent ≡ None = e.0 in cc;
    row = record { free = refl; says = refl; gives = refl };
    room = λ h. h;
  };
  gives = refl;
}

next_passed : IsPassed next_state
next_passed =
    passed_on answered_state (by (act.Begin (Find 7))) (shown.Step Moved) next_state
    (passed_on over_state (by act.Answer) (shown.Step (Answered Yes)) answered_state over_passed answers) begins_anew

-- so it begins when leaf 1 is gone
pub begins_when_gone : BeginsWhenGone
begins_when_gone = record {
  state = next_state;
  passed = next_passed;
  worker = 0;
  begins = refl;
  node = 1;
  gone = λ has.
      let over = (has.invariant.workers.each 0).facts (IOver 1) refl in
      record { taker = 1; ended = insert_over-ended (has.stages 1) over; takes = inl (insert_over-changed (has.stages 1) over, refl, refl) };
}

-- nothing has begun
abbrev nothing : Grace
nothing = record {
  epoch = 0;
  gone = λ c. false;
  word = λ j. None;
  began = λ j. 0;
  was_gone = λ j c. false;
  pending = λ i. None;
  least = λ i. 0;
  seen = λ i j. false;
  safe_epoch = λ i. 0;
  free = λ c. None;
}

nothing_begun : IsLedTo 1 nothing
nothing_begun = start {w = nothing} (record {
  word = λ j. refl;
  pending = λ i. refl;
  least = λ i. refl;
  seen = λ i j. refl;
  safe_epoch = λ i. refl;
  free = λ c r is. absurd (some_not_none is refl);
})

-- card 5 is gone
abbrev dead : Grace
dead = record nothing { gone = put nothing.gone 5 true }

-- pass 0 loads a retire epoch for it
abbrev with_retire_epoch : Grace
with_retire_epoch = record dead { pending = put dead.pending 0 (Some (5, dead.epoch)) }

-- and sets it free
abbrev freed : Grace
freed = record with_retire_epoch { free = put with_retire_epoch.free 5 (Some 0) }

-- the epoch advances
abbrev later : Grace
later = record freed { epoch = freed.epoch + 1 }

-- pass 0 begins a scan
abbrev scanning : Grace
scanning = record later { least = put later.least 0 later.epoch; seen = put later.seen 0 (λ j. false) }

-- it looks at its own announcement, which is the only one
abbrev looked : Grace
looked = record scanning {
  least = put scanning.least 0 (least_with (scanning.least 0) (scanning.word 0));
  seen = put scanning.seen 0 (put (scanning.seen 0) 0 true);
}

-- so it has a safe epoch
abbrev settled : Grace
settled = record looked { safe_epoch = put looked.safe_epoch 0 (looked.least 0) }

-- and it begins an operation
abbrev busy : Grace
busy = record settled {
  word = put settled.word 0 (Some 1);
  began = put settled.began 0 settled.epoch;
  was_gone = put settled.was_gone 0 settled.gone;
}

all_seen : (j : ℕ) → j < 1 → looked.seen 0 j ≡ true
all_seen j low = let none : 0 ≡ j = omega arith in subst (λ n. looked.seen 0 n ≡ true) none refl

led_to_busy : IsLedTo 1 busy
led_to_busy =
    more (more (more (more (more (more (more (more nothing_begun
    (dies {w' = dead} 5 refl))
    (gets_retire_epoch {w' = with_retire_epoch} 0 5 refl refl))
    (frees {w' = freed} 0 5 0 refl refl))
    (advances {w' = later} refl))
    (scans {w' = scanning} 0 refl))
    (looks {w' = looked} 0 0 refl))
    (settles {w' = settled} 0 all_seen refl))
    (begins {w' = busy} 0 1 (omega arith) (omega arith) refl)

-- then it may take the slot of card 5
pub takes_when_busy : TakesWhenBusy 1
takes_when_busy = record {
  state = busy;
  led = led_to_busy;
  taker = 0;
  card = 5;
  retire_epoch = 0;
  free = refl;
  safe_epoch = omega arith;
  pass = 0;
  word = 1;
  busy = refl;
}
