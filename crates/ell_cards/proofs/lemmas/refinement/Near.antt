-- Where a pass is pinned, the child exchanges that it may make expect links that are near those in the tree: each card
-- that has changed the word since the pass forgot what it was told was not dead then, has won its flag by now, and lies
-- in its slot.
use Rattle.std.proofs.Common.{◌≡◌, ◌⊎◌, ℕ, ◌+◌, ◌<◌, ◌≤◌, Bool, true, false, List, [], ◌∷◌, ◌++◌, get_or, length, inl, inr, refl, sym, ap, ◌∙◌, subst, arith}
use Rattle.std.proofs.lemmas.List.Elements.{All-head, All-tail}
use Rattle.std.specs.List.{All, AllByRecursion}
use Rattle.ell_word.specs.Node.{greatest_card}
use mathlib.Core.Option.{some}
use lib.ListN.{get_elem?}
use Rattle.ell_word.specs.Link.{link_in, node_bound, greatest_tag}
use Rattle.ell_word.specs.declared.link.Link.{Link}
use Rattle.ell_layout.specs.declared.field.Field.TheVariants as field
use Rattle.ell_core.specs.declared.exchange.Exchange.{Exchange}
use Rattle.ell_core.specs.declared.exchange.Exchange.TheVariants as exchange
use Rattle.ell_core.specs.declared.fact.Fact.TheVariants as fact
use Rattle.ell_core.specs.history.Later.{wins_of}
use Rattle.ell_core.specs.history.Stages.{Stage, Stages, Born, is_start, is_claimed, is_changed, is_cut}
use Rattle.ell_core.specs.statements.Since.{has_ended}
use Rattle.ell_core.proofs.lemmas.stages.LaterKeys.{born_below}
use Rattle.ell_grace.specs.Dead.{IsDead}
use Rattle.ell_grace.specs.Tags.{HasTags, HasChanged}
use Rattle.ell_grace.proofs.lemmas.dead.Out.{dead_ended}
use Rattle.ell_runs.specs.declared.call.Call.{Call}
use Rattle.ell_runs.specs.declared.call.Call.TheVariants as call
use Rattle.ell_cards.specs.declared.view.Known.{Known}
use Rattle.ell_runs.specs.declared.view.Slots.{Slots}
use Rattle.ell_runs.specs.declared.view.Told.TheVariants.{Info}
use Rattle.ell_cards.specs.Ages.{is_dead, is_discarded, is_beyond, ForgotWhen}
use Rattle.ell_runs.specs.Discarded.{IsDiscarded}
use Rattle.ell_runs.specs.Calls.{May, child_address}
use Rattle.ell_runs.specs.Guards.{MayIChild, MayDChild}
use Rattle.ell_runs.specs.Laws.{machine_of_table}
use Rattle.ell_runs.specs.Machines.{HasMachine}
use Rattle.ell_runs.specs.Plans.{TablePlan}
use Rattle.ell_cards.specs.EpochLaws.{IsPinned}
use Rattle.ell_cards.specs.Epochs.{WholeState}
use Rattle.ell_runs.specs.Touching.{IsAtRest}
use Rattle.ell_cards.specs.Shown.{IsNear}
use Rattle.ell_runs.specs.States.{TableState}
use Rattle.ell_cards.specs.Refinement.{LiesThere, HasWon}
use Rattle.ell_cards.specs.RefinementLaws.{RefinesByAges, ExpectsNear, ExchangesAreNear}
use Rattle.ell_runs.specs.TurnEffects.{run_wins}
use Rattle.ell_runs.specs.Turns.{Makes, found_by}
use Rattle.ell_cards.proofs.lemmas.refinement.Discarded.{discarded_in_run}
use Rattle.ell_runs.proofs.lemmas.runs.GoingOn.{run_goes}
use Rattle.ell_runs.proofs.lemmas.runs.TagsOfRuns.{tables_have_tags, exchanges_are_near}
use Rattle.ell_runs.proofs.lemmas.runs.TagsOfRuns.{IsNear as IsNearSince}
use Rattle.ell_runs.proofs.lemmas.runs.TagsOfRuns.{ExchangesAreNear as AreNearSince}
use Rattle.ell_runs.proofs.lemmas.runs.Won.{count, count_append}
use Rattle.ell_runs.proofs.lemmas.seats.Seats.{mine_sound}
use Rattle.ell_runs.proofs.lemmas.stepping.Exchanges.{told_is}
use Rattle.ell_runs.proofs.lemmas.stepping.Known.{insert_flagged, known_delete}
use Rattle.ell_cards.proofs.lemmas.refinement.Few.{few_in_slots}
use Rattle.ell_cards.proofs.lemmas.refinement.Known.{changes_are_known, cuts_are_known}
use Rattle.ell_cards.proofs.lemmas.refinement.Winning.{changed_is_won, cut_is_won}

-- how many child exchanges and backtracks are in a list
abbrev changes : List Exchange → ℕ
changes ws = count exchange.IChild ws + (count exchange.DChild ws + count exchange.Backtrack ws)

changes_append : (a b : List Exchange) → changes (a ++ b) ≡ changes a + changes b
changes_append a b =
    let i = count_append exchange.IChild a b in
    let d = count_append exchange.DChild a b in
    let k = count_append exchange.Backtrack a b in
    omega arith

-- a card wins one of them at most, one that has ended has won it, and one of the opening tree wins none
changes_once : (s : Stage) → changes (wins_of s) ≤ 1
changes_once s = grind arith

ended_changed : (s : Stage) → has_ended s ≡ true → changes (wins_of s) ≡ 1
ended_changed s h = grind arith

start_unchanged : (s : Stage) → is_start s ≡ true → changes (wins_of s) ≡ 0
start_unchanged s h = grind arith

-- one that has won one was claimed
changed_claimed : (s : Stage) → 0 < changes (wins_of s) → is_claimed s ≡ true
changed_claimed s h = grind arith

-- by its stage it has won its child exchange
changed_won : (s : Stage) → is_changed s ≡ true → count exchange.IChild (wins_of s) ≡ 1
changed_won s h = grind arith

unchanged_won : (s : Stage) → is_changed s ≡ false → count exchange.IChild (wins_of s) ≡ 0
unchanged_won s h = grind arith

cut_won : (s : Stage) → is_cut s ≡ true → count exchange.DChild (wins_of s) ≡ 1
cut_won s h = grind arith

uncut_won : (s : Stage) → is_cut s ≡ false → count exchange.DChild (wins_of s) ≡ 0
uncut_won s h = grind arith

-- from where a pass forgot what it was told
module _ (plan : TablePlan) (tree : TableState) (seat : ℕ) (dead : ℕ → Bool) (h : ForgotWhen plan tree seat dead) where
  -- what a card has won since
  abbrev won : ℕ → List Exchange
  won c = run_wins plan h.from (Makes seat h.call ∷ h.turns) tree (h.begun, h.made, h.run) c

  -- a card that has won a child exchange since was not dead then, nor discarded
  was_alive : (c : ℕ) → 0 < changes (won c) → dead c ≡ false
  was_alive c more = by (dead c) refl
    where
      stage : Stages
      stage = h.were.uses.outs.stages

      ends : (is_start (stage c) ≡ true) ⊎ (has_ended (stage c) ≡ true) → ⊥
      ends (inl start) =
          let goes = (run_goes plan h.from h.were.machine stage h.were.uses.outs.invariant (Makes seat h.call ∷ h.turns) tree (h.begun, h.made, h.run)).1 in
          let wins = ap changes (goes.wins c) ∙ changes_append (wins_of (stage c)) (won c) in
          let none = start_unchanged (goes.stages c) (goes.later.start c ∙ start) in
          omega arith
      ends (inr ended) =
          let goes = (run_goes plan h.from h.were.machine stage h.were.uses.outs.invariant (Makes seat h.call ∷ h.turns) tree (h.begun, h.made, h.run)).1 in
          let wins = ap changes (goes.wins c) ∙ changes_append (wins_of (stage c)) (won c) in
          let one = ended_changed (stage c) ended in
          let most = changes_once (goes.stages c) in
          omega arith

      by : (b : Bool) → dead c ≡ b → b ≡ false
      by false e = refl
      by true e = elim (h.were.each c 0 (omega arith) e) [
        | is_dead is ↦ absurd (ends (dead_ended h.were.machine.words stage h.were.uses.outs.invariant.words h.were.uses.uses h.were.uses.outs.outs c
            (subst (IsDead h.were.machine.words stage) (omega arith) is)))
        | is_discarded is ↦
            let none = ap changes (discarded_in_run plan h.from h.were.machine c (subst (IsDiscarded h.were.machine.stages h.from.views) (omega arith) is)
            (Makes seat h.call ∷ h.turns) tree (h.begun, h.made, h.run)).1 in
            absurd (omega arith)
        | is_beyond is ↦
            let goes = (run_goes plan h.from h.were.machine stage h.were.uses.outs.invariant (Makes seat h.call ∷ h.turns) tree (h.begun, h.made, h.run)).1 in
            let wins = ap changes (goes.wins c) ∙ changes_append (wins_of (stage c)) (won c) in
            let below = (goes.invariant.words.cards c).claimed.0 (changed_claimed (goes.stages c) (omega arith)) in
            let limit = goes.invariant.limit in
            absurd (omega arith)
      ]

-- where the pass is pinned
module _ (plan : TablePlan) (s : Slots) (tree : TableState) (t : WholeState) (lie : ℕ → ℕ) (dead : ℕ → Bool) (was_dead : ℕ → ℕ → Bool)
    (refines : RefinesByAges plan s tree t lie dead was_dead) (low : s.last ≤ greatest_card) (id : ℕ) (k : Known) (here : get_elem? t.views id ≡ some k)
    (there : get_elem? tree.views id ≡ some k.tree) (pinned : IsPinned t id k) (h : ForgotWhen plan tree id (was_dead pinned.announcement)) where
  -- the state where the pass forgot, and what has come since
  abbrev start : (r : HasMachine plan h.from) × HasTags (machine_of_table plan h.from r)
  start = tables_have_tags plan h.from h.reached

  abbrev before : Stages
  before = start.1.outs.stages

  abbrev since : ℕ → List Exchange
  since c = won plan tree id (was_dead pinned.announcement) h c

  near : AreNearSince plan (machine_of_table plan h.from start.0) start.1 id tree since
  near = exchanges_are_near plan h.from h.reached id h.call h.begun h.made h.anew start.0 start.1 h.turns tree h.run

  abbrev now : HasMachine plan tree
  now = refines.ages.now.machine

  -- a card that has won its flag, and a child exchange since, lies in its slot
  lies_won : (c : ℕ) → HasWon now.stages c → 0 < changes (since c) → LiesThere s lie c
  lies_won c has more = refines.refines.lives id pinned.announcement pinned.epoch c k here pinned.has pinned.announces has
      (was_alive plan tree id (was_dead pinned.announcement) h c more)

  -- so does one that has made its child exchange by now, and had not made it then
  lies : (x : ℕ) (right : Bool) (c : ℕ) → (is_changed (before c) ≡ false) × (is_cut (before c) ≡ false) → HasChanged near.machine.words near.from.stages x right c
      → LiesThere s lie c
  lies x right c unmade (inl made) =
      let wins = ap (count exchange.IChild) (near.wins c) ∙ count_append exchange.IChild (wins_of (before c)) (since c) in
      let one = changed_won (near.from.stages c) made.0 in
      let none = unchanged_won (before c) unmade.0 in
      let more : 0 < count exchange.IChild (since c) = omega arith in
      let known = changes_are_known plan c h.from (Makes id h.call ∷ h.turns) tree (h.begun, h.made, h.run) more in
      lies_won c (changed_is_won (now.stages c) ((mine_sound plan tree now known.seat known.view known.there).facts (fact.IChanged c) known.knows)) (omega arith)
  lies x right c unmade (inr made) =
      let wins = ap (count exchange.DChild) (near.wins c) ∙ count_append exchange.DChild (wins_of (before c)) (since c) in
      let one = cut_won (near.from.stages c) made.0 in
      let none = uncut_won (before c) unmade.1 in
      let more : 0 < count exchange.DChild (since c) = omega arith in
      let known = cuts_are_known plan c h.from (Makes id h.call ∷ h.turns) tree (h.begun, h.made, h.run) more in
      lies_won c (cut_is_won (now.stages c) ((mine_sound plan tree now known.seat known.view known.there).facts (fact.Cut c) known.knows)) (omega arith)

  all_lie : (x : ℕ) (right : Bool) (cards : List ℕ) → All (λ c. (is_changed (before c) ≡ false) × (is_cut (before c) ≡ false)) cards
      → All (HasChanged near.machine.words near.from.stages x right) cards → AllByRecursion (LiesThere s lie) cards
  all_lie x right [] unmade made = tt
  all_lie x right (c ∷ cs) unmade made = (
    lies x right c (All-head (λ d. (is_changed (before d) ≡ false) × (is_cut (before d) ≡ false)) c cs unmade)
        (All-head (HasChanged near.machine.words near.from.stages x right) c cs made),
    all_lie x right cs (All-tail (λ d. (is_changed (before d) ≡ false) × (is_cut (before d) ≡ false)) c cs unmade)
        (All-tail (HasChanged near.machine.words near.from.stages x right) c cs made),
  )

  -- a link is near a child word if its tag is
  link_near : (x : ℕ) (right : Bool) (l : Link) → IsNearSince plan before tree near.machine near.from.stages x right l.tag l.node → l.node < node_bound
      → IsNear l (get_or tree.words (child_address x right) 0)
  link_near x right l by inside = record {
    low = inside;
    least = subst (λ n. l.tag ≤ n) (sym tag) by.near.low;
    most = subst (λ n. n ≤ l.tag + greatest_tag) (sym tag) most;
    same = λ is. node ∙ by.same (sym tag ∙ is);
  }
    where
      node : (link_in (get_or tree.words (child_address x right) 0)).node ≡ near.machine.words.child x right
      node = ap (λ (j : Link). j.node) by.is

      tag : (link_in (get_or tree.words (child_address x right) 0)).tag ≡ near.machine.words.tag x right
      tag = ap (λ (j : Link). j.tag) by.is

      few : length by.near.cards ≤ s.last + 1
      few = few_in_slots s lie by.near.cards by.near.changed.apart (all_lie x right by.near.cards by.near.changed.unmade by.near.changed.made)

      most : near.machine.words.tag x right ≤ l.tag + greatest_tag
      most = let high = by.near.high in let fits = few in omega arith

  -- the number of a link has room for a node that came into the tree
  has_room : (x : ℕ) → Born near.machine.stages x → x < node_bound
  has_room x born =
      let below = born_below near.machine.words near.machine.stages near.machine.invariant.words x born in
      let next = near.machine.invariant.limit in
      let last = near.machine.limit in
      omega arith

  insert_near : (c p : ℕ) (l : Link) (replaces right : Bool) → MayIChild k.tree c p l replaces right → IsNear l (get_or tree.words (child_address p right) 0)
  insert_near c p l replaces right may =
      let said = insert_flagged plan tree near.machine id k.tree there c may.knows in
      link_near p right l (near.insert k.tree there c p l replaces right may)
      (subst (λ n. n < node_bound) (told_is plan tree near.machine id k.tree there c field.L l.node may.leaf)
      (has_room (near.machine.words.l c) said.lower))

  delete_near : (c gp : ℕ) (p : Link) (y : ℕ) (right : Bool) → MayDChild k.tree c gp p y right → IsNear p (get_or tree.words (child_address gp right) 0)
  delete_near c gp p y right may =
      let said = known_delete plan tree near.machine id k.tree there c (inr may.knows) in
      link_near gp right p (near.delete k.tree there c gp p y right may)
      (subst (λ n. n < node_bound) (told_is plan tree near.machine id k.tree there c field.P p.node may.parent)
      (has_room (near.machine.words.p c) said.parent.born))

pub expected_links_are_near : ExchangesAreNear
expected_links_are_near plan s tree t lie dead was_dead refines reached low id k here there pinned made may =
    by (refines.ages.since id pinned.announcement pinned.epoch k pinned.there pinned.has pinned.announces) made may
  where
    by : IsAtRest k.tree ⊎ ForgotWhen plan tree id (was_dead pinned.announcement) → (c : Call) → May plan c k.tree → ExpectsNear c (found_by tree c)
    by (inl rest) (call.IChild c p l replaces right) may = absurd (rest.forgot (Info c field.P p) may.parent)
    by (inl rest) (call.DChild c gp p y right) may = absurd (rest.forgot (Info c field.Gp gp) may.grandparent)
    by (inr forgot) (call.IChild c p l replaces right) may = insert_near plan s tree t lie dead was_dead refines low id k here there pinned forgot c p l replaces right may
    by (inr forgot) (call.DChild c gp p y right) may = delete_near plan s tree t lie dead was_dead refines low id k here there pinned forgot c gp p y right may
    by _ _ may = tt
