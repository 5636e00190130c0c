use Rattle.std.proofs.Common.{◌≡◌, false, refl, ◌+◌, length, List, [], ◌∷◌, inl, inr, sym, ap, ◌∙◌, subst, arith}
use Rattle.std.proofs.lemmas.Bool.{false≢true}
use Rattle.ell_core.specs.declared.event.Event.{Event}
use Rattle.ell_core.specs.declared.event.Shown.{Shown}
use Rattle.ell_core.specs.declared.event.Shown.TheVariants as shown
use Rattle.ell_layout.specs.Words.{Words}
use Rattle.ell_core.specs.state.Machine.{Machine}
use Rattle.ell_core.specs.state.Opening.{Setup, opening}
use Rattle.ell_core.specs.acts.Runs.{Run}
use Rattle.ell_core.specs.history.Stages.{Stages, is_changed, delete_waits, is_cut}
use Rattle.ell_core.specs.history.Invariant.{insert_side, delete_side, Invariant}
use Rattle.ell_grace.specs.Since.{ComesFrom}
use Rattle.ell_grace.specs.Tags.{TagsAreSound, HasTags, EveryStateHasTags, TagsSince, TagsFrom, TagsLag, TagsBegin, TagsLeadOn, TagsRiseByCards, TagsLagLittle}
use Rattle.ell_core.proofs.lemmas.stages.Order.{insert_won-insert, marked-won, marked_cases}
use Rattle.ell_core.proofs.lemmas.opening.Invariant.{start_stages, each_stage}
use Rattle.ell_core.proofs.lemmas.opening.CanOpen.{opening_has}
use Rattle.ell_core.proofs.lemmas.keeping.AllEvents.{steps_follow}
use Rattle.ell_grace.proofs.lemmas.Runs.{opening_outs}
use Rattle.ell_grace.proofs.lemmas.since.Coming.{itself, led_on}
use Rattle.ell_grace.proofs.lemmas.tags.Sound.{tags_stay_sound}
use Rattle.ell_grace.proofs.lemmas.tags.Since.{tags_since_now, tags_since_on}

pub tags_begin : TagsBegin
tags_begin m has = (itself m has.outs, record { sound = has.tags; since = tags_since_now m has.outs.stages has.outs.invariant has.tags })

pub tags_lead_on : TagsLeadOn
tags_lead_on m stage first old from tags e said new steps =
    let follows = steps_follow old from.stages e said new from.invariant steps in (
      led_on m stage first old from e said new steps follows,
      follows.later,
      record {
        sound = tags_stay_sound old from.stages e said new from.invariant steps follows tags.sound;
        since = tags_since_on m stage old from.stages e said new from.invariant from.words from.later steps follows tags.since;
      },
    )

-- so do all events of a run
tags_run : (m : Machine) (stage : Stages) → Invariant m stage → (old : Machine) (from : ComesFrom m stage old) → TagsFrom m stage old from
    → (events : List Event) (answers : List Shown) (now : Machine) → Run old events answers now
    → (to : ComesFrom m stage now) × TagsFrom m stage now to
tags_run m stage first old from tags [] [] now run = subst (λ (n : Machine). (to : ComesFrom m stage n) × TagsFrom m stage n to) (sym run) (from, tags)
tags_run m stage first old from tags (e ∷ es) (shown.Step said ∷ xs) now run =
    let led = tags_lead_on m stage first old from tags e said run.0 run.1 in
    tags_run m stage first run.0 led.0 led.2 es xs now run.2
tags_run m stage first old from tags (e ∷ es) (shown.Refused fault ∷ xs) now run =
    tags_run m stage first old from tags es xs now (subst (λ n. Run n es xs now) run.1.1 run.2)
tags_run m stage first old from tags [] (x ∷ xs) now run = absurd run
tags_run m stage first old from tags (e ∷ es) [] now run = absurd run

pub tags_rise_by_cards : TagsRiseByCards
tags_rise_by_cards m has events answers now run =
    let begun = tags_begin m has in
    tags_run m has.outs.stages has.outs.invariant m begun.0 begun.1 events answers now run

-- no card of an opening has made a child exchange
opening_tags : (setup : Setup) → TagsAreSound (opening setup).words (start_stages (length setup.start + 1))
opening_tags setup = record {
  insert = λ c changed still. absurd (false≢true (sym (each_stage (λ s. is_changed s ≡ false) (length setup.start + 1) c refl refl) ∙ changed));
  delete = λ c cut still. absurd (false≢true (sym (each_stage (λ s. is_cut s ≡ false) (length setup.start + 1) c refl refl) ∙ cut));
}

pub every_state_has_tags : EveryStateHasTags
every_state_has_tags m passed =
    let has : HasTags (opening passed.setup) = record {
      outs = record {
        stages = start_stages (length passed.setup.start + 1);
        invariant = opening_has passed.setup passed.can;
        outs = opening_outs passed.setup;
      };
      tags = opening_tags passed.setup;
    } in
    let ran = tags_rise_by_cards (opening passed.setup) has passed.schedule passed.answers m passed.run in
    record {
      outs = record { stages = ran.0.stages; invariant = ran.0.invariant; outs = ran.0.outs };
      tags = ran.1.sound;
    }

-- the tag is no less than the one that a card expects by the card itself, and the rest follows from how it has risen
pub tags_lag : (w : Words) (stage : Stages) (now : Machine) (after : Stages) → Invariant now after → TagsSince w stage now.words after
    → TagsLag stage now.words after
tags_lag w stage now after invariant since = record {
  insert = λ c won un.
      let risen = since.risen (now.words.p c) (insert_side now.words c) in
      let by = risen.risen in
      let least = since.insert c won un in
      record {
        cards = risen.cards;
        changed = risen.changed;
        low = ((invariant.words.cards c).insert (insert_won-insert (after c) won)).at_least;
        high = omega arith;
      };
  delete = λ c mark un.
      let risen = since.risen (now.words.gp c) (delete_side now.words c) in
      let by = risen.risen in
      let least = since.delete c (marked-won (after c) mark) un in
      record {
        cards = risen.cards;
        changed = risen.changed;
        low = elim (marked_cases (after c) mark) [
          | inl at ↦ (let tag = (invariant.words.deletes c).tagged (ap delete_waits at) in omega arith)
          | inr cut ↦ (let past = ((invariant.words.deletes c).cut cut).past in omega arith)
        ];
        high = omega arith;
      };
}

pub tags_lag_little : TagsLagLittle
tags_lag_little m stage now from tags = tags_lag m.words stage now from.stages from.invariant tags.since
