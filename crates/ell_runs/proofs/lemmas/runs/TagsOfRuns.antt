use Rattle.std.proofs.Common.{◌≡◌, ℕ, nat_le, Bool, true, false, Option, Some, None, List, [], ◌∷◌, ◌++◌, get_or, inl, inr, refl, sym, ap, ◌∙◌, subst, arith}
use Rattle.std.proofs.lemmas.List.{append_assoc}
use mathlib.Core.Option.{some}
use lib.ListN.{get_elem?}
use Rattle.ell_word.specs.Link.{link_in}
use Rattle.ell_word.specs.declared.link.Link.{Link}
use Rattle.ell_core.specs.acts.Events.{Steps}
use Rattle.ell_core.specs.acts.Wins.{wins_by}
use Rattle.ell_core.specs.declared.event.Act.{Act}
use Rattle.ell_core.specs.declared.event.Event.{Event}
use Rattle.ell_core.specs.declared.event.Stepped.{Stepped}
use Rattle.ell_core.specs.declared.exchange.Exchange.{Exchange}
use Rattle.ell_core.specs.declared.fact.Fact.{Fact}
use Rattle.ell_core.specs.declared.fact.Fact.TheVariants as fact
use Rattle.ell_layout.specs.declared.field.Field.TheVariants as field
use Rattle.ell_layout.specs.Cards.{sibling}
use Rattle.ell_core.specs.state.Machine.{Machine, Worker}
use Rattle.ell_core.specs.state.Facts.{card_of_fact}
use Rattle.ell_core.specs.history.Stages.{Stages, allows, insert_waits, delete_waits}
use Rattle.ell_core.specs.history.Invariant.{insert_side, delete_side, Invariant}
use Rattle.ell_core.specs.history.Later.{WordsLater, StagesLater, wins_of}
use Rattle.ell_core.specs.statements.Since.{has_ended}
use Rattle.ell_core.proofs.lemmas.keeping.AllEvents.{steps_follow}
use Rattle.ell_core.proofs.lemmas.stages.Order.{marked_cases, waits_or_changed}
use Rattle.ell_core.proofs.lemmas.stages.Advances.{stages_same, wins_same}
use Rattle.ell_core.proofs.lemmas.runs.Chains.{stages_later}
use Rattle.ell_core.proofs.lemmas.following.Lawful.{splits_lawful, joins_lawful}
use Rattle.ell_grace.specs.Cards.{CardsSince}
use Rattle.ell_grace.specs.Gone.{OutsAreSound}
use Rattle.ell_grace.specs.Since.{ComesFrom}
use Rattle.ell_grace.specs.Tags.{TagsAreSound, HasTags, TagsSince, TagsFrom, IsLittleMore}
use Rattle.ell_grace.proofs.lemmas.since.Coming.{itself, led_on}
use Rattle.ell_grace.proofs.lemmas.tags.Coming.{every_state_has_tags, tags_lag_little}
use Rattle.ell_grace.proofs.lemmas.tags.Since.{tags_since_now, tags_since_on}
use Rattle.ell_grace.proofs.lemmas.tags.Sound.{tags_stay_sound}
use Rattle.ell_runs.specs.declared.call.Call.{Call}
use Rattle.ell_runs.specs.declared.call.Call.TheVariants as call
use Rattle.ell_runs.specs.declared.view.View.{View}
use Rattle.ell_runs.specs.Plans.{TablePlan}
use Rattle.ell_runs.specs.Views.{Knows}
use Rattle.ell_runs.specs.Guards.{MayAsk, MayIChild, MayDChild}
use Rattle.ell_runs.specs.Calls.{act_of, said_of, Becomes, child_address}
use Rattle.ell_runs.specs.States.{TableState}
use Rattle.ell_runs.specs.Machines.{HasMachine}
use Rattle.ell_runs.specs.Laws.{machine_of_table, act_wins}
use Rattle.ell_runs.specs.TurnEffects.{turn_wins, run_wins}
use Rattle.ell_runs.specs.Turns.{Turn, Makes, Splits, Joins, CallIsMade, TableTurns, TableRun, found_by}
use Rattle.ell_runs.specs.Starts.{IsReached}
use Rattle.ell_runs.specs.Runs.{GoesBy}
use Rattle.ell_runs.specs.Touching.{forgets}
use Rattle.ell_runs.proofs.lemmas.seats.Seats.{mine_is}
use Rattle.ell_runs.proofs.lemmas.stepping.Known.{insert_flagged, known_delete}
use Rattle.ell_runs.proofs.lemmas.stepping.Looks.{child_read}
use Rattle.ell_runs.proofs.lemmas.stepping.Exchanges.{told_is, told_key, told_tag}
use Rattle.ell_runs.proofs.lemmas.stepping.Inserting.{right_side}
use Rattle.ell_runs.proofs.lemmas.stepping.Deleting.{sibling_told}
use Rattle.ell_runs.proofs.lemmas.runs.Starting.{starts_are_kept}
use Rattle.ell_runs.proofs.lemmas.runs.TurnsOfRuns.{won_alike, turn_lawful}
use Rattle.ell_runs.proofs.lemmas.runs.Touching.{calls_touch_nothing_gone}

-- a later state that comes from an earlier one, with its tags, with how far cards have come that had come so far, and with what
-- they have won since
pub record TagsGoOn (m : Machine) (stage before : Stages) (won : ℕ → List Exchange) (now : Machine) : Type 0 where
  pub to : ComesFrom m stage now
  pub later : StagesLater before to.stages
  pub tags : TagsFrom m stage now to
  pub wins : (d : ℕ) → wins_of (to.stages d) ≡ wins_of (before d) ++ won d

module _ (plan : TablePlan) (m : Machine) (stage : Stages) (first : Invariant m stage) where
  -- words that stay as they were go on, and nothing is won
  pub words_stay : (old new : Machine) (from : ComesFrom m stage old) → TagsFrom m stage old from → new.words ≡ old.words → Invariant new from.stages
      → TagsGoOn m stage from.stages (λ d. []) new
  words_stay old new from tags same invariant = record {
    to = record {
      stages = from.stages;
      invariant = invariant;
      outs = subst (λ w. OutsAreSound w from.stages) (sym same) from.outs;
      words = subst (λ w. WordsLater m.words w) (sym same) from.words;
      later = from.later;
      cards = subst (λ w. CardsSince m.words stage w from.stages) (sym same) from.cards;
    };
    later = stages_same from.stages;
    tags = record {
      sound = subst (λ w. TagsAreSound w from.stages) (sym same) tags.sound;
      since = subst (λ w. TagsSince m.words stage w from.stages) (sym same) tags.since;
    };
    wins = λ d. wins_same (from.stages d);
  }

  -- an event goes on
  event_tags : (old : Machine) (from : ComesFrom m stage old) → TagsFrom m stage old from → (e : Event) (said : Stepped) (new : Machine) → Steps old e said new
      → TagsGoOn m stage from.stages (wins_by e.act (old.worker e.worker).card said) new
  event_tags old from tags e said new steps =
      let follows = steps_follow old from.stages e said new from.invariant steps in record {
        to = led_on m stage first old from e said new steps follows;
        later = follows.later;
        tags = record {
          sound = tags_stay_sound old from.stages e said new from.invariant steps follows tags.sound;
          since = tags_since_on m stage old from.stages e said new from.invariant from.words from.later steps follows tags.since;
        };
        wins = follows.wins;
      }

  -- so does a turn
  pub turn_tags : (s : TableState) (r : HasMachine plan s) (t : Turn) (s' : TableState) (k : HasMachine plan s') → TableTurns plan s t s'
      → GoesBy s t (machine_of_table plan s r) (machine_of_table plan s' k) → (from : ComesFrom m stage (machine_of_table plan s r))
      → TagsFrom m stage (machine_of_table plan s r) from → TagsGoOn m stage from.stages (turn_wins s t) (machine_of_table plan s' k)
  turn_tags s r (Makes seat c) s' k turn goes from tags =
      let on = by (act_of c (found_by s c)) goes in record {
        to = on.to;
        later = on.later;
        tags = on.tags;
        wins = λ d. on.wins d ∙ ap (λ ks. wins_of (from.stages d) ++ ks) (won_alike plan c (found_by s c) turn.view turn.may d);
      }
    where
      hand : ((machine_of_table plan s r).worker seat).card ≡ turn.view.worker.card
      hand = ap (λ (u : Worker). u.card) (mine_is plan s r seat turn.view turn.there)

      by : (a : Option Act) → Becomes seat a (said_of c (found_by s c)) (machine_of_table plan s r) (machine_of_table plan s' k)
          → TagsGoOn m stage from.stages (λ d. act_wins a turn.view.worker.card (said_of c (found_by s c)) d) (machine_of_table plan s' k)
      by None same = words_stay (machine_of_table plan s r) (machine_of_table plan s' k) from tags (ap (λ (n : Machine). n.words) same)
          (subst (λ (n : Machine). Invariant n from.stages) (sym same) from.invariant)
      by (Some a) steps =
          let on = event_tags (machine_of_table plan s r) from tags (record { worker = seat; act = a }) (said_of c (found_by s c)) (machine_of_table plan s' k) steps in record {
            to = on.to;
            later = on.later;
            tags = on.tags;
            wins = λ d. on.wins d ∙ ap (λ (o : Option ℕ). wins_of (from.stages d) ++ wins_by a o (said_of c (found_by s c)) d) hand;
          }
  turn_tags s r (Splits seat left) s' k turn goes from tags = words_stay (machine_of_table plan s r) (machine_of_table plan s' k) from tags
      (ap (λ (n : Machine). n.words) goes.gives) (splits_lawful (machine_of_table plan s r) from.stages seat (machine_of_table plan s' k) from.invariant goes)
  turn_tags s r (Joins seat other) s' k turn goes from tags = words_stay (machine_of_table plan s r) (machine_of_table plan s' k) from tags
      (ap (λ (n : Machine). n.words) goes.gives) (joins_lawful (machine_of_table plan s r) from.stages seat other (machine_of_table plan s' k) from.invariant goes)

  -- and so does a run
  pub run_tags : (s : TableState) (r : HasMachine plan s) (from : ComesFrom m stage (machine_of_table plan s r)) → TagsFrom m stage (machine_of_table plan s r) from
      → (turns : List Turn) (s' : TableState) (run : TableRun plan s turns s')
      → (k : HasMachine plan s') × TagsGoOn m stage from.stages (run_wins plan s turns s' run) (machine_of_table plan s' k)
  run_tags s r from tags [] s' run =
      subst (λ (x : TableState). (k : HasMachine plan x) × TagsGoOn m stage from.stages (λ d. []) (machine_of_table plan x k)) (sym run)
      (r, record { to = from; later = stages_same from.stages; tags = tags; wins = λ d. wins_same (from.stages d) })
  run_tags s r from tags (t ∷ ts) s' run =
      let lawful = turn_lawful plan s r t run.0 run.1 in
      let turn = turn_tags s r t run.0 lawful.0 run.1 lawful.1.machine from tags in
      let rest = run_tags run.0 lawful.0 turn.to turn.tags ts s' run.2 in (
        rest.0,
        record {
          to = rest.1.to;
          later = stages_later from.stages turn.to.stages rest.1.to.stages turn.later rest.1.later;
          tags = rest.1.tags;
          wins = λ d. rest.1.wins d ∙ (ap (λ ks. ks ++ run_wins plan run.0 ts s' run.2 d) (turn.wins d)
              ∙ append_assoc (wins_of (from.stages d)) (turn_wins s t d) (run_wins plan run.0 ts s' run.2 d));
        },
      )

-- a state comes from itself, with its tags
tags_first : (m : Machine) (has : HasTags m) → TagsFrom m has.outs.stages m (itself m has.outs)
tags_first m has = record { sound = has.tags; since = tags_since_now m has.outs.stages has.outs.invariant has.tags }

-- wherever turns have led a table, its machine has its tags
pub tables_have_tags : (plan : TablePlan) (s : TableState) → IsReached plan s → (r : HasMachine plan s) × HasTags (machine_of_table plan s r)
tables_have_tags plan s h =
    let start = starts_are_kept plan h.first h.starts in
    let m = machine_of_table plan h.first start.kept in
    let has = every_state_has_tags m
    (record { setup = start.opening.setup; can = start.opening.can; schedule = []; answers = []; run = start.opening.opens }) in
    let ran = run_tags plan m has.outs.stages has.outs.invariant h.first start.kept (itself m has.outs) (tags_first m has) h.turns s h.run in
    let to = ran.1.to in
    (ran.0, record { outs = record { stages = to.stages; invariant = to.invariant; outs = to.outs }; tags = ran.1.tags.sound })

-- the child word in the table's place is the machine's; its tag is a little more than this one, or it is this one, and then its
-- node is this one too
pub record IsNear (plan : TablePlan) (stage : Stages) (now : TableState) (k : HasMachine plan now) (after : Stages) (x : ℕ) (right : Bool) (expects node : ℕ)
    : Type 0 where
  pub is : link_in (get_or now.words (child_address x right) 0) ≡ record { node = k.words.child x right; tag = k.words.tag x right }
  pub near : IsLittleMore stage k.words after x right expects
  pub same : k.words.tag x right ≡ expects → k.words.child x right ≡ node

-- a state that comes from an earlier one, in which each child exchange that the pass in the seat may make expects a tag near the
-- one that it finds, and in which cards have won this since
pub record ExchangesAreNear (plan : TablePlan) (m : Machine) (has : HasTags m) (seat : ℕ) (now : TableState) (won : ℕ → List Exchange) : Type 0 where
  pub machine : HasMachine plan now
  pub from : ComesFrom m has.outs.stages (machine_of_table plan now machine)
  pub tags : TagsFrom m has.outs.stages (machine_of_table plan now machine) from
  pub wins : (d : ℕ) → wins_of (from.stages d) ≡ wins_of (has.outs.stages d) ++ won d
  pub insert : (v : View) → get_elem? now.views seat ≡ some v → (c p : ℕ) (l : Link) (replaces right : Bool) → MayIChild v c p l replaces right
      → IsNear plan has.outs.stages now machine from.stages p right l.tag l.node
  pub delete : (v : View) → get_elem? now.views seat ≡ some v → (c gp : ℕ) (p : Link) (y : ℕ) (right : Bool) → MayDChild v c gp p y right
      → IsNear plan has.outs.stages now machine from.stages gp right p.tag p.node

-- what is near at a place that is known by another name is near there
near_at : (plan : TablePlan) (stage : Stages) (now : TableState) (k : HasMachine plan now) (after : Stages) (x y : ℕ) (right side : Bool) (expects tag node other : ℕ)
    → x ≡ y → side ≡ right → expects ≡ tag → node ≡ other → IsNear plan stage now k after x side expects node → IsNear plan stage now k after y right tag other
near_at plan stage now k after x y right side expects tag node other place same word below near =
    subst (λ n. IsNear plan stage now k after n right tag other) place
    (subst (λ b. IsNear plan stage now k after x b tag other) same
    (subst (λ n. IsNear plan stage now k after x side n other) word
    (subst (λ n. IsNear plan stage now k after x side expects n) below near)))

-- From where a pass makes a call by which it forgets, on through any turns of any passes.
module _ (plan : TablePlan) (s : TableState) (reached : IsReached plan s) (seat : ℕ) (begins : Call) (begun : TableState)
    (made : CallIsMade plan s seat begins begun) (anew : forgets begins ≡ true) (r : HasMachine plan s) (has : HasTags (machine_of_table plan s r))
    (turns : List Turn) (now : TableState) (run : TableRun plan begun turns now) where
  -- the machine then
  abbrev m : Machine
  m = machine_of_table plan s r

  -- a card that the pass knows had not ended
  unended : (v : View) → get_elem? now.views seat ≡ some v → (c : ℕ) → MayAsk v c field.P → has_ended (has.outs.stages c) ≡ false
  unended v there c may = calls_touch_nothing_gone plan s reached seat begins begun made anew r has.outs turns now run v there (call.Info c field.P) may

  allowed : (k : HasMachine plan now) (to : ComesFrom m has.outs.stages (machine_of_table plan now k)) (v : View) → get_elem? now.views seat ≡ some v
      → (f : Fact) → Knows v f → allows f (to.stages (card_of_fact f)) ≡ true
  allowed k to v there f knows = (to.invariant.workers.each seat).facts f (ap (λ (u : Worker). u.knows f) (mine_is plan now k seat v there) ∙ knows)

  insert_near : (k : HasMachine plan now) (to : ComesFrom m has.outs.stages (machine_of_table plan now k)) → TagsFrom m has.outs.stages (machine_of_table plan now k) to
      → (v : View) → get_elem? now.views seat ≡ some v → (c p : ℕ) (l : Link) (replaces right : Bool) → MayIChild v c p l replaces right
      → IsNear plan has.outs.stages now k to.stages p right l.tag l.node
  insert_near k to tags v there c p l replaces right may =
      let w = k.words in
      let said = insert_flagged plan now k seat v there c may.knows in
      let p_is : w.p c ≡ p = told_is plan now k seat v there c field.P p may.parent in
      let side : insert_side w c ≡ right =
      sym (right_side w k.stages c said) ∙ ((λ t. nat_le ((ap w.key p_is ∙ told_key plan now k seat v there p may.parent_key may.told_parent) t)
      (told_is plan now k seat v there c field.RightLeafKey may.right_key may.told_right t)) ∙ sym may.side) in
      let un = unended v there c (record { knows = inl (may.knows, refl); place = (p, inl may.parent); fixed = refl }) in
      let l_is : w.l c ≡ l.node = told_is plan now k seat v there c field.L l.node may.leaf in
      near_at plan has.outs.stages now k to.stages (w.p c) p right (insert_side w c) (w.expects c) l.tag (w.l c) l.node p_is side
      (told_tag plan now k seat v there c l.tag may.expects) l_is (record {
        is = child_read plan now k seat v there (w.p c) (insert_side w c) said.parent.inner said.parent.born;
        near = (tags_lag_little m has.outs.stages (machine_of_table plan now k) to tags).insert c (allowed k to v there (fact.IFlagged c) may.knows) un;
        same = λ tag. elim (waits_or_changed (to.stages c) (allowed k to v there (fact.IFlagged c) may.knows)) [
          | inl waits ↦ (to.invariant.words.inserts c).waits (ap insert_waits waits)
          | inr changed ↦ (let past = (to.invariant.words.inserts c).changed changed in absurd (omega (arith, past, tag)))
        ];
      })

  delete_near : (k : HasMachine plan now) (to : ComesFrom m has.outs.stages (machine_of_table plan now k)) → TagsFrom m has.outs.stages (machine_of_table plan now k) to
      → (v : View) → get_elem? now.views seat ≡ some v → (c gp : ℕ) (p : Link) (y : ℕ) (right : Bool) → MayDChild v c gp p y right
      → IsNear plan has.outs.stages now k to.stages gp right p.tag p.node
  delete_near k to tags v there c gp p y right may =
      let w = k.words in
      let said = known_delete plan now k seat v there c (inr may.knows) in
      let gp_is : w.gp c ≡ gp = told_is plan now k seat v there c field.Gp gp may.grandparent in
      let p_is : w.p c ≡ p.node = told_is plan now k seat v there c field.P p.node may.parent in
      let l_is : w.l c ≡ may.leaf = told_is plan now k seat v there c field.L may.leaf may.below in
      let y_is : sibling w c ≡ y = sibling_told plan now k seat v there c p.node may.leaf y p_is l_is may.sibling in
      let mark = allowed k to v there (fact.Marked c) may.knows in
      let side : delete_side w c ≡ right =
      sym ((to.invariant.words.deletes c).marked mark).side ∙ ((λ t. nat_le ((ap w.key gp_is ∙ told_key plan now k seat v there gp may.grandparent_key may.told_grandparent) t)
      ((ap w.key y_is ∙ told_key plan now k seat v there y may.sibling_key may.told_sibling) t)) ∙ sym may.side) in
      let un = unended v there c (record { knows = inr (inr may.knows, refl); place = (gp, inr may.grandparent); fixed = refl }) in
      near_at plan has.outs.stages now k to.stages (w.gp c) gp right (delete_side w c) (w.expects c) p.tag (w.p c) p.node gp_is side
      (told_tag plan now k seat v there c p.tag may.expects) p_is (record {
        is = child_read plan now k seat v there (w.gp c) (delete_side w c) said.grandparent.inner said.grandparent.born;
        near = (tags_lag_little m has.outs.stages (machine_of_table plan now k) to tags).delete c mark un;
        same = λ tag. elim (marked_cases (to.stages c) mark) [
          | inl waits ↦ (to.invariant.words.deletes c).waits (ap delete_waits waits)
          | inr cut ↦ (let past = ((to.invariant.words.deletes c).cut cut).past in absurd (omega (arith, past, tag)))
        ];
      })

  -- each child exchange that it may make expects a tag near the one that it finds
  pub exchanges_are_near : ExchangesAreNear plan m has seat now (run_wins plan s (Makes seat begins ∷ turns) now (begun, made, run))
  exchanges_are_near =
      let ran = run_tags plan m has.outs.stages has.outs.invariant s r (itself m has.outs) (tags_first m has) (Makes seat begins ∷ turns) now (begun, made, run) in
      record {
        machine = ran.0;
        from = ran.1.to;
        tags = ran.1.tags;
        wins = ran.1.wins;
        insert = insert_near ran.0 ran.1.to ran.1.tags;
        delete = delete_near ran.0 ran.1.to ran.1.tags;
      }
