use Rattle.std.proofs.Common.{◌≡◌, ◌==◌, ℕ, ◌<◌, if◌then◌else◌, true, false, length, set, Some, refl, sym, ap, ◌∙◌, subst, arith, length-set, true≢false}
use mathlib.Core.Option.{some}
use lib.ListN.{get_elem?}
use Rattle.ell_layout.specs.declared.field.Field.{Field}
use Rattle.ell_layout.specs.Layout.{place, address, listed}
use Rattle.ell_core.specs.state.Machine.{Worker, worker_of}
use Rattle.ell_core.specs.history.Stages.{waits}
use Rattle.ell_core.specs.statements.Waiting.{IsUnflagged}
use Rattle.ell_layout.proofs.lemmas.Listed.{address_inside, apart}
use Rattle.ell_core.proofs.lemmas.stages.Waiting.{waits-claimed}
use Rattle.ell_core.proofs.lemmas.following.waiting.Cards.{hand_waits, one_hand}
use Rattle.ell_runs.specs.Plans.{TablePlan}
use Rattle.ell_runs.specs.Changes.{after_fill}
use Rattle.ell_runs.specs.declared.call.Call.TheVariants as call
use Rattle.ell_runs.specs.declared.view.View.{View}
use Rattle.ell_runs.specs.Views.{stored_at}
use Rattle.ell_runs.specs.Guards.{MayFill}
use Rattle.ell_runs.specs.States.{TableState, seat_worker}
use Rattle.ell_runs.specs.Machines.{HasMachine}
use Rattle.ell_runs.specs.Laws.{IsEvent}
use Rattle.ell_runs.proofs.lemmas.words.Fields.{listed_else, listed_next, listed_flat, listed_there}
use Rattle.ell_runs.proofs.lemmas.seats.Seats.{machine, mine_is, mine_sound}
use Rattle.ell_runs.proofs.lemmas.seats.Frames.{kept_note, is_no_event}

module _ (plan : TablePlan) (s : TableState) (r : HasMachine plan s) (id : ℕ) (v : View) (here : get_elem? s.views id ≡ some v) where
  -- fill
  pub keeps_fill : (c : ℕ) (f : Field) (x : ℕ) → MayFill v c → IsEvent plan s r id v (call.Fill c f x)
  keeps_fill c f x may =
      let list = set s.words (address c f) x in
      let after = after_fill f x v in
      let h = r.views id v here in
      let below = (r.invariant.words.cards c).claimed.0 (waits-claimed (r.stages c) wait) in
      let room = r.invariant.limit in
      let fits : address c f < length s.words = address_inside s.words plan.last_card c f r.size (omega arith) in
      is_no_event plan s r id v here (call.Fill c f x)
      (kept_note plan s r id v here after list refl (length-set s.words (address c f) x) (listed_next s.words c f x) (listed_flat s.words c f x)
      (λ d g calm. listed_else s.words c f x d g (apart d g c f (λ e. true≢false (sym wait ∙ (ap (λ n. waits (r.stages n)) (sym e) ∙ calm)))))
      (record {
        entries = h.entries;
        here = h.here;
        read = h.read;
        least = h.least;
        knew = h.knew;
        walk = h.walk;
        hand = λ d has un. let q : c ≡ d = (let a = may.holds in cc) in
            let held = h.hand d has un in record {
              machine = held.machine;
              table = λ g. subst (λ z. listed list z g ≡ stored_at after.stores g) q
                  (listed_there s.words c f x g fits ∙ ap (λ y. if place f == place g then x else y) ((h.hand c may.holds may.unflagged).table g));
            };
      })
      (λ j u n e. let o = r.views j u e in record {
        entries = o.entries;
        here = o.here;
        read = o.read;
        least = o.least;
        knew = o.knew;
        walk = o.walk;
        hand = λ d has un. let held = o.hand d has un in record {
          machine = held.machine;
          table = λ g. listed_else s.words c f x d g (apart d g c f (λ q. n (other j u e d has un q))) ∙ held.table g;
        };
      }))
      refl refl tt
    where
      wait : waits (r.stages c) ≡ true
      wait = hand_waits r.words r.stages (worker_of v.worker) c (mine_sound plan s r id v here) may.holds may.unflagged

      -- another pass that has the card in hand is this one
      other : (j : ℕ) (u : View) → get_elem? s.views j ≡ some u → (d : ℕ) → u.worker.card ≡ Some d → u.worker.flagged ≡ false → d ≡ c → j ≡ id
      other j u e d has un q =
          let at = ap seat_worker e in
          let mine : IsUnflagged (machine plan s r id v here) id c = record {
            holds = ap (λ (z : Worker). z.card) (mine_is plan s r id v here) ∙ may.holds;
            unflagged = ap (λ (z : Worker). z.flagged) (mine_is plan s r id v here) ∙ may.unflagged;
          } in
          sym (one_hand (machine plan s r id v here) r.stages r.invariant id j c mine
          (ap (λ (z : Worker). z.card) at ∙ (has ∙ ap Some q)))
