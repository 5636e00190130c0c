use Rattle.std.proofs.Common.{◌+◌, arith, ◌≡◌, ℕ, ◌<◌, Bool, false, get_or, refl, subst, ap, sym}
use mathlib.Core.Option.{some}
use lib.ListN.{get_elem?}
use Rattle.ell_word.specs.Node.{IsInternal}
use Rattle.ell_core.specs.history.Stages.{Born}
use Rattle.ell_core.proofs.lemmas.stages.LaterKeys.{root_born}
use Rattle.ell_core.specs.declared.view.Search.{Search}
use Rattle.ell_core.proofs.lemmas.outcomes.Decide.{some_not_none}
use Rattle.ell_runs.specs.Plans.{TablePlan, flat_from}
use Rattle.ell_runs.specs.declared.call.Call.TheVariants as call
use Rattle.ell_runs.specs.declared.view.Told.TheVariants.{Met, Key}
use Rattle.ell_runs.specs.declared.glance.Glance.{Glance}
use Rattle.ell_runs.specs.declared.glance.Stretch.{Stretch}
use Rattle.ell_runs.specs.declared.view.View.{View}
use Rattle.ell_runs.specs.Views.{IsFree}
use Rattle.ell_runs.proofs.lemmas.views.Afters.{after_look, after_look_down}
use Rattle.ell_runs.specs.Changes.{forgotten, after_rest}
use Rattle.ell_runs.specs.Guards.{MayLookDown}
use Rattle.ell_runs.specs.Calls.{child_address}
use Rattle.ell_runs.specs.States.{TableState}
use Rattle.ell_runs.specs.Machines.{HasMachine}
use Rattle.ell_runs.specs.Laws.{IsEvent}
use Rattle.ell_runs.proofs.lemmas.seats.Entries.{below_holds}
use Rattle.ell_runs.proofs.lemmas.seats.Frames.{kept_told, is_no_event}
use Rattle.ell_runs.proofs.lemmas.lifetimes.Idle.{forgotten_holds, rest_holds}
use Rattle.ell_runs.proofs.lemmas.seats.Seats.{rests_nowhere, rests_ended}
use Rattle.ell_runs.proofs.lemmas.stepping.Looks.{born_in_table, child_read}
use Rattle.ell_runs.specs.Depths.{depth_told}
use Rattle.ell_core.specs.tree.Rank.{rank}
use Rattle.ell_core.proofs.lemmas.tree.Ranks.{rank_root, ranked_apart}
use Rattle.ell_runs.proofs.lemmas.views.Depths.{met_more}
use Rattle.ell_word.specs.Link.{link_in}
use Rattle.ell_word.specs.declared.link.Link.{Link}
use Rattle.ell_runs.proofs.lemmas.words.Addresses.{key_address}

module _ (plan : TablePlan) (s : TableState) (r : HasMachine plan s) (id : ℕ) (v : View) (here : get_elem? s.views id ≡ some v) where
  -- the child of an internal node that came into the tree, as it stands in the table
  child_there : (x : ℕ) (right : Bool) → IsInternal x → Born r.stages x
      → Born r.stages (link_in (get_or s.words (child_address x right) 0)).node × (rank r.words x < rank r.words (link_in (get_or s.words (child_address x right) 0)).node)
  child_there x right inner born =
      let children = r.invariant.words.children x inner born in
      subst (λ n. Born r.stages n × (rank r.words x < rank r.words n)) (ap (λ (l : Link). l.node) (sym (child_read plan s r id v here x right inner born)))
      (children.born right, children.rising right)

  -- look
  pub keeps_look : IsFree v → IsEvent plan s r id v call.Look
  keeps_look may =
      let n = get_or s.words (child_address 0 false) 0 in
      let h = r.views id v here in
      let child = child_there 0 false refl (root_born r.words r.stages r.invariant.words) in
      is_no_event plan s r id v here call.Look
      (kept_told plan s r id v here (after_look n v) refl (record {
        entries = below_holds r.words r.stages 0 (link_in n).node forgotten child.0 refl child.1
            (forgotten_holds r.words r.stages r.invariant.words);
        here = λ y k at told. absurd (some_not_none at (ap (λ (k : Search). k.node) (rests_nowhere plan s r id v here may)));
        hand = h.hand;
        read = h.read;
        least = h.least;
        knew = h.knew;
        walk = h.walk;
      }) (child_address 0 false))
      refl refl ((let other = ranked_apart r.words 0 (link_in n).node (let deeper = child.1 in let root = rank_root r.words in omega arith) in omega arith), born_in_table plan s r id v here (link_in n).node child.0)

  -- look_down
  pub keeps_look_down : (from : Glance) (to : Stretch) (right : Bool) → MayLookDown (flat_from plan) v from to right → IsEvent plan s r id v (call.LookDown from to right)
  keeps_look_down from to right may =
      let n = get_or s.words (child_address from.node right) 0 in
      let h = r.views id v here in
      let child = child_there from.node right may.inner (h.entries (Met from.node) may.met) in
      is_no_event plan s r id v here (call.LookDown from to right)
      (kept_told plan s r id v here (after_look_down from to right n v) refl (record {
        entries = below_holds r.words r.stages from.node (link_in n).node v.told child.0 may.inner child.1 h.entries;
        here = λ y k at told. met_more (depth_told v.told from.node + 1) (link_in n).node v.told (Key y k) (h.here y k at told);
        hand = h.hand;
        read = h.read;
        least = h.least;
        knew = h.knew;
        walk = h.walk;
      }) (child_address from.node right))
      refl refl ((let other = ranked_apart r.words 0 (link_in n).node (let deeper = child.1 in let root = rank_root r.words in omega arith) in omega arith), born_in_table plan s r id v here (link_in n).node child.0)

  -- rest
  pub keeps_rest : IsFree v → IsEvent plan s r id v call.Rest
  keeps_rest may =
      let h = r.views id v here in
      let same = rests_ended plan s r id v here may in
      is_no_event plan s r id v here call.Rest
      (kept_told plan s r id v here (after_rest v) same
      (rest_holds s.words r.words r.stages r.invariant.words (after_rest v) refl refl refl refl h.read h.least h.knew) (key_address 0))
      same refl tt
