use Rattle.std.proofs.Common.{◌≡◌, ◌≢◌, ℕ, zero, suc, ◌<◌, Bool, true, false, List, [], ◌∷◌, ◌++◌, length, get_or, set, refl, sym, ap, ◌∙◌, subst, inl, inr, ⊎_elim, arith, length-set}
use Rattle.std.specs.Prelude.{Some}
use Rattle.std.proofs.lemmas.Bool.{cases_eq}
use mathlib.Core.Option.{some, some-ne-none}
use lib.ListN.{get_elem?}
use Rattle.ell_runs.proofs.lemmas.words.Lists.{at_set, set_else}
use Rattle.ell_word.specs.Node.{card}
use Rattle.ell_core.specs.declared.event.Act.{Act}
use Rattle.ell_core.specs.declared.event.Event.{Event}
use Rattle.ell_core.specs.declared.event.Stepped.{Stepped}
use Rattle.ell_core.specs.declared.exchange.Exchange.{Exchange}
use Rattle.ell_layout.specs.declared.field.Field.{Field}
use Rattle.ell_layout.specs.Layout.{listed}
use Rattle.ell_layout.specs.Words.{Words, table_word, put}
use Rattle.ell_core.specs.state.Machine.{Worker, Machine, Scene, scene, with_scene, worker_of, no_search}
use Rattle.ell_core.specs.acts.Searching.{ended}
use Rattle.ell_core.specs.acts.Events.{Happens, Steps}
use Rattle.ell_core.specs.soundness.Sound.{WorkerOwns}
use Rattle.ell_core.specs.history.Stages.{Stages, Born, waits}
use Rattle.ell_core.specs.history.Invariant.{Invariant, WorkerIsSound}
use Rattle.ell_core.specs.history.Later.{WordsLater, StagesLater, wins_of}
use Rattle.ell_core.specs.acts.Wins.{wins_by}
use Rattle.ell_core.specs.statements.StepLaws.{Reliance}
use Rattle.ell_layout.proofs.lemmas.Writes.{put_same, put_other}
use Rattle.ell_core.proofs.lemmas.following.Lawful.{events_lawful}
use Rattle.ell_core.proofs.lemmas.following.Reliance.{may_rely}
use Rattle.ell_runs.specs.Plans.{TablePlan}
use Rattle.ell_runs.specs.Views.{IsFree}
use Rattle.ell_runs.specs.declared.view.Told.{Told}
use Rattle.ell_ops.specs.Meaning.{key_of}
use Rattle.ell_core.specs.declared.fact.Fact.{Fact}
use Rattle.ell_core.specs.declared.fact.Fact.TheVariants.{DOver}
use Rattle.ell_core.specs.statements.Walks.{HaveCut, Avoids}
use Rattle.ell_core.proofs.lemmas.following.Walks.{events_keep_avoiding}
use Rattle.ell_runs.specs.declared.view.View.{View}
use Rattle.ell_core.proofs.lemmas.stages.Ended.{over-cut}
use Rattle.ell_runs.specs.Views.{Knows, KnewBefore}
use Rattle.ell_runs.specs.States.{TableState, seat_worker, seated}
use Rattle.ell_runs.specs.Machines.{EntryHolds, over_before, ViewHolds, HasMachine}
use Rattle.ell_core.proofs.lemmas.following.waiting.Cards.{hand_waits}
use Rattle.ell_runs.proofs.lemmas.seats.Entries.{entry_lasts}

-- a place of a list is below its length
pub inside : {A : Type 0} (l : List A) (i : ℕ) (a : A) → get_elem? l i ≡ some a → i < length l
inside [] i a e = absurd (some-ne-none a (sym e))
inside (x ∷ xs) zero a e = omega arith
inside (x ∷ xs) (suc i) a e = let h = inside xs i a e in omega arith

-- what was put at a place is there
pub set_there : {A : Type 0} (l : List A) (i : ℕ) (a b : A) → get_elem? l i ≡ some b → get_elem? (set l i a) i ≡ some a
set_there [] i a b e = absurd (some-ne-none b (sym e))
set_there (x ∷ xs) zero a b e = refl
set_there (x ∷ xs) (suc i) a b e = set_there xs i a b e

module _ (views : List View) (id : ℕ) (v : View) (here : get_elem? views id ≡ some v) (after : View) where
  -- the workers where a seat has another view
  pub seated_put : (i : ℕ)
      → put (λ j. seat_worker (get_elem? views j)) id (worker_of after.worker) i ≡ seat_worker (get_elem? (set views id after) i)
  seated_put i = elim (cases_eq i id) [
    | inl e ↦ ap (put (λ j. seat_worker (get_elem? views j)) id (worker_of after.worker)) e
        ∙ (put_same (λ j. seat_worker (get_elem? views j)) id (worker_of after.worker)
        ∙ sym (ap (λ j. seat_worker (get_elem? (set views id after) j)) e ∙ ap seat_worker (set_there views id after v here)))
    | inr n ↦ put_other (λ j. seat_worker (get_elem? views j)) id (worker_of after.worker) i n
        ∙ ap seat_worker (sym (set_else views id i after n))
  ]

  -- the machine after an event of a seat is that of the views where it has its new one
  pub seated_event : (w new : Words) (cards : ℕ)
      → with_scene (seated w views cards) id (record { words = new; worker = worker_of after.worker }) ≡ seated new (set views id after) cards
  seated_event w new cards = λ t. record {
    words = new;
    worker = λ i. seated_put i t;
    count = sym (length-set views id after) t;
    last_card = cards;
  }

-- a state has a machine, of these words, and each card has won this since these stages
pub record IsKept (plan : TablePlan) (s : TableState) (w : Words) (stage : Stages) (won : ℕ → List Exchange) : Type 0 where
  pub kept : HasMachine plan s
  pub words : kept.words ≡ w
  pub later : StagesLater stage kept.stages
  pub wins : (c : ℕ) → wins_of (kept.stages c) ≡ wins_of (stage c) ++ won c

module _ (plan : TablePlan) (s : TableState) (r : HasMachine plan s) (id : ℕ) (v : View) (here : get_elem? s.views id ≡ some v) where
  -- the machine
  abbrev pub machine : Machine
  machine = seated r.words s.views plan.last_card

  -- the worker of the seat
  pub mine_is : machine.worker id ≡ worker_of v.worker
  mine_is = ap seat_worker here

  -- that worker is sound
  pub mine_sound : WorkerIsSound r.words r.stages (worker_of v.worker)
  mine_sound = subst (WorkerIsSound r.words r.stages) mine_is (r.invariant.workers.each id)

  -- where no operation is in hand, the search stands nowhere
  pub rests_nowhere : IsFree v → v.worker.search ≡ no_search
  rests_nowhere free = ap (λ (u : Worker). u.search) (mine_sound.free free)

  -- so its worker is the one with nothing in hand
  pub rests_ended : IsFree v → ended v.worker ≡ v.worker
  rests_ended free =
      let idle = mine_sound.free free in
      λ t. record (v.worker) {
        operation = sym free t;
        search = sym (rests_nowhere free) t;
        card = sym (ap (λ (u : Worker). u.card) idle) t;
        flagged = sym (ap (λ (u : Worker). u.flagged) idle) t;
      }

  -- what the seat may rely on
  pub relies : Reliance machine r.stages id
  relies = may_rely machine r.stages id r.invariant

  -- where the pass stands came into the tree
  pub stands_born : (x : ℕ) → v.worker.search.node ≡ Some x → Born r.stages x
  stands_born x at = relies.stands x (ap (λ (u : Worker). u.search.node) mine_is ∙ at)

  -- the seat's scene, and the one after an event
  abbrev pub mine : Scene
  mine = record { words = r.words; worker = worker_of v.worker }

  abbrev pub becomes : Words → View → Scene
  becomes new after = record { words = new; worker = worker_of after.worker }

  -- where an event leads
  pub record Leads (a : Act) (said : Stepped) (new : Words) (after : View) (stages : Stages) : Type 0 where
    pub steps : Steps machine (record { worker = id; act = a }) said (seated new (set s.views id after) plan.last_card)
    pub invariant : Invariant (seated new (set s.views id after) plan.last_card) stages
    pub words : WordsLater r.words new
    pub later : StagesLater r.stages stages
    pub wins : (c : ℕ) → wins_of (stages c) ≡ wins_of (r.stages c) ++ wins_by a v.worker.card said c

  -- an event of the seat leads on
  pub leads : (a : Act) (said : Stepped) (new : Words) (after : View) → Happens plan.last_card a mine said (becomes new after)
      → (stages : Stages) × Leads a said new after stages
  leads a said new after h =
      let e : Event = record { worker = id; act = a } in
      let next = with_scene machine id (becomes new after) in
      let h' : Happens plan.last_card a (scene machine id) said (becomes new after) =
      subst (λ (u : Worker). Happens plan.last_card a (record { words = r.words; worker = u }) said (becomes new after)) (sym mine_is) h in
      let steps : Steps machine e said next = record { there = inside s.views id v here; becomes = becomes new after; happens = h'; gives = refl } in
      let follows = (events_lawful machine r.stages e said next r.invariant steps).follows in
      let same = seated_event s.views id v here after r.words new plan.last_card in (
        follows.stages,
        record {
          steps = subst (λ (n : Machine). Steps machine e said n) same steps;
          invariant = subst (λ (n : Machine). Invariant n follows.stages) same follows.invariant;
          words = follows.words;
          later = follows.later;
          wins = λ c. follows.wins c ∙ ap (λ (u : Worker). wins_of (r.stages c) ++ wins_by a u.card said c) mine_is;
        },
      )

  -- what an event does to the words of the list beside those of the machine
  pub record Moves (list : List ℕ) (new : Words) (stages : Stages) : Type 0 where
    pub size : length list ≡ length s.words
    pub next : get_or list 0 0 ≡ new.next
    pub flat : get_or list 1 0 ≡ get_or s.words 1 0
    pub same : (c : ℕ) (f : Field) → waits (r.stages c) ≡ false → waits (stages c) ≡ false → listed s.words c f ≡ table_word r.words c f
        → listed list c f ≡ table_word new c f
    pub flags : (c : ℕ) (f : Field) → waits (r.stages c) ≡ true → waits (stages c) ≡ false → listed list c f ≡ table_word new c f
    pub apart : (c : ℕ) (f : Field) → waits (r.stages c) ≡ true
        → (listed list c f ≡ listed s.words c f) × (table_word new c f ≡ table_word r.words c f)

  -- a node that came into the tree is on a claimed card
  pub born_claimed : (x : ℕ) → Born r.stages x → card x < r.words.next
  born_claimed x born = relies.claimed x born

  -- what was told lasts over an event
  pub entries_on : (a : Act) (said : Stepped) (new : Words) (after : View) (stages : Stages) → Leads a said new after stages
      → (e : Told) → EntryHolds r.words r.stages e → EntryHolds new stages e
  entries_on a said new after stages led e h =
      entry_lasts r.words new r.stages stages e led.words led.later born_claimed h

  -- the deletes that a pass knew over have made their cut
  pub over_cut : (u : View) → WorkerIsSound r.words r.stages (worker_of u.worker) → ((f : Fact) → KnewBefore u f → Knows u f) → HaveCut r.stages (over_before u)
  over_cut u sound knew c has = over-cut (r.stages c) (sound.facts (DOver c) (knew (DOver c) has))

  -- where any pass stands came into the tree
  pub relied_born : (j : ℕ) (u : View) → get_elem? s.views j ≡ some u → (x : ℕ) → u.worker.search.node ≡ Some x → Born r.stages x
  relied_born j u e x at =
      (may_rely machine r.stages j r.invariant).stands x (ap (λ (z : Worker). z.search.node) (ap seat_worker e) ∙ at)

  -- a walk that comes by nothing that they cut out comes by nothing of it after an event
  pub walk_on : (a : Act) (said : Stepped) (new : Words) (after : View) (stages : Stages) → Leads a said new after stages
      → (u : View) → HaveCut r.stages (over_before u) → (key x : ℕ) → Born r.stages x → Avoids r.words (over_before u) key x → Avoids new (over_before u) key x
  walk_on a said new after stages led u cut key x born avoids =
      events_keep_avoiding machine r.stages (record { worker = id; act = a }) said (seated new (set s.views id after) plan.last_card) r.invariant led.steps
      (over_before u) cut key x born avoids

  -- the machine after an event
  pub kept_event : (a : Act) (said : Stepped) (new : Words) (after : View) (list : List ℕ) (stages : Stages)
      → Leads a said new after stages → Moves list new stages → ViewHolds list new stages after
      → ((k : ℕ) → WorkerOwns (worker_of after.worker) k → WorkerOwns (worker_of v.worker) k)
      → after.worker.shared ≡ v.worker.shared
      → IsKept plan (record { words = list; views = set s.views id after }) new r.stages (wins_by a v.worker.card said)
  kept_event a said new after list stages led moves own owns same_list = record {
    kept = record {
      words = new;
      stages = stages;
      invariant = led.invariant;
      limit = r.limit;
      size = moves.size ∙ r.size;
      next = moves.next;
      flat = moves.flat ∙ (r.flat ∙ sym led.words.flat);
      shape = led.words.flat ∙ r.shape;
      settled = λ c f calm. by c f calm (waits (r.stages c)) refl;
      views = λ j u e. ⊎_elim
          (λ (t : (j ≡ id) × (after ≡ u)). subst (ViewHolds list new stages) t.1 own)
          (λ (t : (j ≢ id) × (get_elem? s.views j ≡ some u)). other j u t.1)
          (at_set s.views id j after u e);
      owned = λ j k u e has. ⊎_elim
          (λ (t : (j ≡ id) × (after ≡ u)).
          r.owned id k v here (owns k (subst (λ (z : View). WorkerOwns (worker_of z.worker) k) (sym t.1) has)))
          (λ (t : (j ≢ id) × (get_elem? s.views j ≡ some u)). r.owned j k u t.1 has)
          (at_set s.views id j after u e);
      listed = λ j u l e is. ⊎_elim
          (λ (t : (j ≡ id) × (after ≡ u)). r.listed id v l here (sym same_list ∙ (ap (λ (z : View). z.worker.shared) t.1 ∙ is)))
          (λ (t : (j ≢ id) × (get_elem? s.views j ≡ some u)). r.listed j u l t.1 is)
          (at_set s.views id j after u e);
    };
    words = refl;
    later = led.later;
    wins = led.wins;
  }
    where
      by : (c : ℕ) (f : Field) → waits (stages c) ≡ false → (b : Bool) → waits (r.stages c) ≡ b → listed list c f ≡ table_word new c f
      by c f calm true e = moves.flags c f e calm
      by c f calm false e = moves.same c f e calm (r.settled c f e)

      other : (j : ℕ) (u : View) → get_elem? s.views j ≡ some u → ViewHolds list new stages u
      other j u e =
          let h = r.views j u e in record {
            entries = λ d told. entries_on a said new after stages led d (h.entries d told);
            here = h.here;
            read = λ n at. (let more = led.words.next in let low = h.read n at in omega arith);
            least = (let more = led.words.next in let low = h.least in omega arith);
            knew = h.knew;
            walk = λ op x busy at. walk_on a said new after stages led u
                (over_cut u (subst (λ (z : Worker). WorkerIsSound r.words r.stages z) (ap seat_worker e) (r.invariant.workers.each j)) h.knew)
                (key_of op) x
                (relied_born j u e x at) (h.walk op x busy at);
            hand = λ c has un.
                let sound = subst (λ (z : Worker). WorkerIsSound r.words r.stages z) (ap seat_worker e) (r.invariant.workers.each j) in
                let wait = hand_waits r.words r.stages (worker_of u.worker) c sound has un in
                let held = h.hand c has un in record {
                  machine = λ f. (moves.apart c f wait).1 ∙ held.machine f;
                  table = λ f. (moves.apart c f wait).0 ∙ held.table f;
                };
          }
