use Rattle.std.proofs.Common.{◌≡◌, ◌≢◌, ℕ, ◌<◌, true, false, List, [], ◌++◌, length, get_or, set, refl, sym, ap, ◌∙◌, subst, inl, inr, ⊎_elim, length-set, true≢false, arith}
use Rattle.ell_core.proofs.lemmas.stages.Advances.{stages_same}
use Rattle.std.specs.Prelude.{Some, None}
use Rattle.std.proofs.lemmas.Bool.{cases_eq}
use Rattle.std.proofs.lemmas.List.{append-nil}
use mathlib.Core.Option.{some}
use lib.ListN.{get_elem?}
use lib.Seq.{set-get_or}
use Rattle.ell_runs.proofs.lemmas.words.Lists.{at_set, set_else}
use Rattle.ell_core.specs.declared.exchange.Exchange.{Exchange}
use Rattle.ell_core.specs.declared.event.Act as core
use Rattle.ell_core.specs.declared.event.Stepped.{Stepped}
use Rattle.ell_layout.specs.declared.field.Field.{Field}
use Rattle.ell_layout.specs.Layout.{listed, address}
use Rattle.ell_layout.specs.Words.{Words, table_word, table_written}
use Rattle.ell_core.specs.state.Machine.{Machine, worker_of}
use Rattle.ell_layout.specs.Cards.{stored}
use Rattle.ell_core.specs.acts.Events.{Happens, Steps}
use Rattle.ell_core.specs.soundness.Sound.{WorkerOwns}
use Rattle.ell_core.specs.history.Stages.{Stages, Born, waits}
use Rattle.ell_core.specs.history.Invariant.{Invariant}
use Rattle.ell_core.specs.acts.Wins.{wins_by}
use Rattle.ell_layout.proofs.lemmas.Writes.{table_written_elsewhere, table_written_next}
use Rattle.ell_layout.proofs.lemmas.Listed.{apart, same_after_same_write}
use Rattle.ell_ops.specs.declared.op.Op.{Op}
use Rattle.ell_ops.specs.Meaning.{key_of}
use Rattle.ell_core.specs.declared.fact.Fact.{Fact}
use Rattle.ell_core.specs.declared.fact.Fact.TheVariants.{DOver}
use Rattle.ell_core.specs.statements.Walks.{Avoids}
use Rattle.ell_runs.specs.Plans.{TablePlan}
use Rattle.ell_runs.specs.declared.call.Call.{Call}
use Rattle.ell_runs.specs.declared.view.Told.{Told}
use Rattle.ell_runs.specs.declared.view.Told.TheVariants.{Key}
use Rattle.ell_runs.specs.declared.view.View.{View}
use Rattle.ell_runs.specs.Views.{IsTold, Knows, KnewBefore, stored_at}
use Rattle.ell_runs.specs.States.{TableState, seat_worker, seated}
use Rattle.ell_runs.specs.Machines.{EntryHolds, over_before, ViewHolds, HasMachine}
use Rattle.ell_runs.specs.Calls.{word_of, atomic_of, left_by, act_of, said_of, Becomes, Tells}
use Rattle.ell_runs.specs.Turns.{found_by, view_after}
use Rattle.ell_core.specs.history.Later.{wins_of}
use Rattle.ell_runs.specs.Laws.{act_wins, IsEvent}
use Rattle.ell_core.proofs.lemmas.stages.Waiting.{waits-kind, waits-wins, kind-waits}
use Rattle.ell_core.proofs.lemmas.following.waiting.Cards.{hand_waits}
use Rattle.ell_runs.proofs.lemmas.words.Fields.{listed_else, listed_next, listed_flat}
use Rattle.ell_runs.proofs.lemmas.seats.Seats.{IsKept, Leads, Moves, leads, kept_event, entries_on, walk_on, machine, mine, becomes, mine_sound, set_there}
use Rattle.ell_core.proofs.lemmas.stages.Ended.{over-cut}
use Rattle.ell_core.proofs.lemmas.outcomes.Decide.{some_not_none}

-- what is so of a view beside its entries after an event, whatever the words: its key is told, a card that it has in hand
-- unflagged it had so before, with the same to say and stored, and it owns no key more, and knows the same keys that may have an owner
pub record Onward (w : Words) (stage : Stages) (v after : View) : Type 0 where
  pub here : (x key : ℕ) → after.worker.search.node ≡ Some x → after.here ≡ Some key → IsTold after (Key x key)
  pub hand : (c : ℕ) → after.worker.card ≡ Some c → after.worker.flagged ≡ false
      → (v.worker.card ≡ Some c) × (v.worker.flagged ≡ false) × (after.planned ≡ v.planned) × (after.stores ≡ v.stores)
  pub owns : (k : ℕ) → WorkerOwns (worker_of after.worker) k → WorkerOwns (worker_of v.worker) k
  pub list : after.worker.shared ≡ v.worker.shared
  pub read : (n : ℕ) → after.next ≡ Some n → v.next ≡ Some n
  pub least : after.next_at_least ≡ v.next_at_least
  pub before : (f : Fact) → KnewBefore after f → Knows v f
  pub knew : (f : Fact) → KnewBefore after f → Knows after f
  pub walk : (op : Op) (x : ℕ) → after.worker.operation ≡ Some op → after.worker.search.node ≡ Some x
      → Born stage x × Avoids w (over_before after) (key_of op) x

module _ (plan : TablePlan) (s : TableState) (r : HasMachine plan s) (id : ℕ) (v : View) (here : get_elem? s.views id ≡ some v) where
  -- a state that an event leads to has a machine
  pub record IsReached (list : List ℕ) (new : Words) (after : View) (a : core.Act) (said : Stepped) : Type 0 where
    pub kept : IsKept plan (record { words = list; views = set s.views id after }) new r.stages (wins_by a v.worker.card said)
    pub steps : Steps (machine plan s r id v here) (record { worker = id; act = a }) said (seated new (set s.views id after) plan.last_card)

  -- a card that waits goes on to, where the event wins nothing for it
  pub waits_on : (a : core.Act) (said : Stepped) (new : Words) (after : View) (stages : Stages)
      → Leads plan s r id v here a said new after stages
      → (c : ℕ) → wins_by a v.worker.card said c ≡ [] → waits (r.stages c) ≡ true → waits (stages c) ≡ true
  waits_on a said new after stages led c none wait = kind-waits (stages c)
      (elim (waits-kind (r.stages c) wait) [ inl e ↦ inl (led.later.insert c e) | inr e ↦ inr (led.later.delete c e) ])
      (led.wins c
      ∙ (ap (λ (ks : List Exchange). ks ++ wins_by a v.worker.card said c) (waits-wins (r.stages c) wait) ∙ none))

  -- the view after an event
  pub view_on : (a : core.Act) (said : Stepped) (new : Words) (after : View) (list : List ℕ) (stages : Stages)
      → Leads plan s r id v here a said new after stages → Moves plan s r id v here list new stages
      → ((e : Told) → IsTold after e → EntryHolds new stages e) → Onward r.words r.stages v after
      → ViewHolds list new stages after
  view_on a said new after list stages led moves entries on = record {
    entries = entries;
    here = on.here;
    read = λ n at. (let more = led.words.next in let low = (r.views id v here).read n (on.read n at) in omega arith);
    least = (let more = led.words.next in let low = (r.views id v here).least in let same = on.least in omega arith);
    knew = on.knew;
    walk = λ op x busy at.
        let on_it = on.walk op x busy at in
        walk_on plan s r id v here a said new after stages led after
        (λ c has. over-cut (r.stages c) ((mine_sound plan s r id v here).facts (DOver c) (on.before (DOver c) has)))
        (key_of op) x on_it.0 on_it.1;
    hand = λ c has un.
        let was = on.hand c has un in
        let wait = hand_waits r.words r.stages (worker_of v.worker) c (mine_sound plan s r id v here) was.0 was.1 in
        let held = (r.views id v here).hand c was.0 was.1 in record {
          machine = λ f. (moves.apart c f wait).1 ∙ (held.machine f ∙ ap (λ es. stored es f 0) (sym was.2));
          table = λ f. (moves.apart c f wait).0 ∙ (held.table f ∙ ap (λ es. stored_at es f) (sym was.3));
        };
  }

  -- the words where an event changes none and wins nothing
  pub moves_none : (a : core.Act) (said : Stepped) (after : View) (stages : Stages)
      → Leads plan s r id v here a said r.words after stages
      → ((c : ℕ) → wins_by a v.worker.card said c ≡ []) → Moves plan s r id v here s.words r.words stages
  moves_none a said after stages led none = record {
    size = refl;
    next = r.next;
    flat = refl;
    same = λ c f calm still e. e;
    flags = λ c f wait calm. absurd (true≢false (sym (waits_on a said r.words after stages led c (none c) wait) ∙ calm));
    apart = λ c f wait. (refl, refl);
  }

  -- the words where an event writes a field of a card that does not wait
  pub moves_write : (d : ℕ) (g : Field) (x : ℕ) (stages : Stages) → address d g < length s.words → waits (r.stages d) ≡ false
      → ((c : ℕ) (f : Field) → waits (r.stages c) ≡ true → waits (stages c) ≡ false → listed s.words c f ≡ table_word r.words c f)
      → Moves plan s r id v here (set s.words (address d g) x) (table_written r.words d g x) stages
  moves_write d g x stages fits calm flags = record {
    size = length-set s.words (address d g) x;
    next = listed_next s.words d g x ∙ (r.next ∙ sym (table_written_next r.words d g x));
    flat = listed_flat s.words d g x;
    same = λ c f one two e. same_after_same_write s.words r.words c f d g x fits e;
    flags = λ c f wait still. let n = other c wait in
        listed_else s.words d g x c f (apart c f d g n)
        ∙ (flags c f wait still ∙ sym (table_written_elsewhere r.words c f d g x (apart c f d g n)));
    apart = λ c f wait. let n = other c wait in
        (listed_else s.words d g x c f (apart c f d g n), table_written_elsewhere r.words c f d g x (apart c f d g n));
  }
    where
      other : (c : ℕ) → waits (r.stages c) ≡ true → c ≢ d
      other c wait e = true≢false (sym wait ∙ (ap (λ n. waits (r.stages n)) e ∙ calm))

  -- the machine after an event that changes no word and wins nothing
  pub looks : (a : core.Act) (said : Stepped) (after : View)
      → (h : Happens plan.last_card a (mine plan s r id v here) said (becomes plan s r id v here r.words after))
      → ((c : ℕ) → wins_by a v.worker.card said c ≡ [])
      → ((e : Told) → IsTold after e → EntryHolds r.words r.stages e)
      → Onward r.words r.stages v after
      → (i : ℕ) → IsReached (set s.words i (get_or s.words i 0)) r.words after a said
  looks a said after h none entries on i =
      let l = leads plan s r id v here a said r.words after h in
      let moves = moves_none a said after l.0 l.1 none in record {
        kept = subst (λ ws. IsKept plan (record { words = ws; views = set s.views id after }) r.words r.stages (wins_by a v.worker.card said))
            (sym (set-get_or s.words i 0))
            (kept_event plan s r id v here a said r.words after s.words l.0 l.1 moves
            (view_on a said r.words after s.words l.0 l.1 moves
            (λ e told. entries_on plan s r id v here a said r.words after l.0 l.1 e (entries e told)) on) on.owns on.list);
        steps = l.1.steps;
      }

  -- the machine is the same where a pass learns something beside its worker
  pub same_machine : (after : View) → after.worker ≡ v.worker → machine plan s r id v here ≡ seated r.words (set s.views id after) plan.last_card
  same_machine after same = λ t. record {
    words = r.words;
    worker = λ j. at j t;
    count = sym (length-set s.views id after) t;
    last_card = plan.last_card;
  }
    where
      at : (j : ℕ) → seat_worker (get_elem? s.views j) ≡ seat_worker (get_elem? (set s.views id after) j)
      at j = elim (cases_eq j id) [
        | inl e ↦ ap (λ n. seat_worker (get_elem? s.views n)) e ∙ (ap seat_worker here ∙ (ap worker_of (sym same)
            ∙ sym (ap (λ n. seat_worker (get_elem? (set s.views id after) n)) e ∙ ap seat_worker (set_there s.views id after v here))))
        | inr n ↦ ap seat_worker (sym (set_else s.views id j after n))
      ]

  -- a state that a call leads to which is no event has the machine that was, with all cards at their stages
  pub record IsNoted (list : List ℕ) (after : View) : Type 0 where
    pub kept : IsKept plan (record { words = list; views = set s.views id after }) r.words r.stages (λ c. [])
    pub still : kept.kept.stages ≡ r.stages

  -- the machine where a pass alone learns something, and the list changes at a card that waits or not at all
  pub kept_note : (after : View) (list : List ℕ) → after.worker ≡ v.worker → length list ≡ length s.words
      → get_or list 0 0 ≡ get_or s.words 0 0 → get_or list 1 0 ≡ get_or s.words 1 0
      → ((c : ℕ) (f : Field) → waits (r.stages c) ≡ false → listed list c f ≡ listed s.words c f)
      → ViewHolds list r.words r.stages after
      → ((j : ℕ) (u : View) → j ≢ id → get_elem? s.views j ≡ some u → ViewHolds list r.words r.stages u)
      → IsNoted list after
  kept_note after list same size next flat calm own others = record { kept = noted; still = refl }
    where
      noted : IsKept plan (record { words = list; views = set s.views id after }) r.words r.stages (λ c. [])
      noted = record {
        kept = record {
          words = r.words;
          stages = r.stages;
          invariant = subst (λ (m : Machine). Invariant m r.stages) (same_machine after same) r.invariant;
          limit = r.limit;
          size = size ∙ r.size;
          next = next ∙ r.next;
          flat = flat ∙ r.flat;
          shape = r.shape;
          settled = λ c f still. calm c f still ∙ r.settled c f still;
          views = λ j u e. ⊎_elim
              (λ (t : (j ≡ id) × (after ≡ u)). subst (ViewHolds list r.words r.stages) t.1 own)
              (λ (t : (j ≢ id) × (get_elem? s.views j ≡ some u)). others j u t.0 t.1)
              (at_set s.views id j after u e);
          owned = λ j k u e has. ⊎_elim
              (λ (t : (j ≡ id) × (after ≡ u)). r.owned id k v here
              (subst (λ z. WorkerOwns (worker_of z) k) same (subst (λ (z : View). WorkerOwns (worker_of z.worker) k) (sym t.1) has)))
              (λ (t : (j ≢ id) × (get_elem? s.views j ≡ some u)). r.owned j k u t.1 has)
              (at_set s.views id j after u e);
          listed = λ j u l e is. ⊎_elim
              (λ (t : (j ≡ id) × (after ≡ u)). r.listed id v l here (ap (λ z. z.shared) (sym same) ∙ (ap (λ (z : View). z.worker.shared) t.1 ∙ is)))
              (λ (t : (j ≢ id) × (get_elem? s.views j ≡ some u)). r.listed j u l t.1 is)
              (at_set s.views id j after u e);
        };
        words = refl;
        later = stages_same r.stages;
        wins = λ c. sym (append-nil (wins_of (r.stages c)));
      }

  -- the same where the list does not change
  pub kept_told : (after : View) → after.worker ≡ v.worker → ViewHolds s.words r.words r.stages after
      → (i : ℕ) → IsNoted (set s.words i (get_or s.words i 0)) after
  kept_told after same own i =
      subst (λ ws. IsNoted ws after) (sym (set-get_or s.words i 0))
      (kept_note after s.words same refl refl refl (λ c f still. refl) own (λ j u n e. r.views j u e))

  -- a step call that is an event
  pub is_event : (c : Call) (a : core.Act) (said : Stepped) (new : Words)
      → IsReached (set s.words (word_of c) (left_by (atomic_of c) (found_by s c))) new (view_after s v c) a said
      → act_of c (found_by s c) ≡ Some a → said_of c (found_by s c) ≡ said → Tells plan c v (found_by s c) → IsEvent plan s r id v c
  is_event c a said new at acts says tells = record {
    kept = at.kept.kept;
    later = at.kept.later;
    event = subst (λ w. Becomes id (act_of c (found_by s c)) (said_of c (found_by s c)) (machine plan s r id v here)
        (seated w (set s.views id (view_after s v c)) plan.last_card)) (sym at.kept.words)
        (subst (λ b. Becomes id (act_of c (found_by s c)) b (machine plan s r id v here) (seated new (set s.views id (view_after s v c)) plan.last_card)) (sym says)
        (subst (λ o. Becomes id o said (machine plan s r id v here) (seated new (set s.views id (view_after s v c)) plan.last_card)) (sym acts) at.steps));
    wins = λ d. at.kept.wins d ∙ λ t. wins_of (r.stages d) ++ act_wins (sym acts t) v.worker.card (sym says t) d;
    still = λ none. absurd (some_not_none acts none);
    tells = tells;
  }

  -- a step call that leaves the machine
  pub is_no_event : (c : Call)
      → IsNoted (set s.words (word_of c) (left_by (atomic_of c) (found_by s c))) (view_after s v c) → (view_after s v c).worker ≡ v.worker
      → act_of c (found_by s c) ≡ None → Tells plan c v (found_by s c) → IsEvent plan s r id v c
  is_no_event c at same none tells = record {
    kept = at.kept.kept;
    later = at.kept.later;
    event = subst (λ o. Becomes id o (said_of c (found_by s c)) (machine plan s r id v here)
        (seated at.kept.kept.words (set s.views id (view_after s v c)) plan.last_card)) (sym none)
        (sym (same_machine (view_after s v c) same ∙ ap (λ w. seated w (set s.views id (view_after s v c)) plan.last_card) (sym at.kept.words)));
    still = λ nothing. at.still;
    wins = λ d. at.kept.wins d ∙ λ t. wins_of (r.stages d) ++ act_wins (sym none t) v.worker.card (said_of c (found_by s c)) d;
    tells = tells;
  }
