use Rattle.std.proofs.Common.{◌≡◌, ℕ, zero, suc, ◌<◌, List, [], ◌∷◌, Some, Result, Ok, Err, IfOk, OnErr, length, set, map, get_or, Vec, vec_len, refl, sym, ap, ◌∙◌, subst, inl, inr, length-set, arith}
use Rattle.std.specs.Prelude.{slice_get}
use Rattle.std.proofs.lemmas.Bool.{cases_eq}
use Rattle.std.proofs.lemmas.Option.{slice_get_read, slice_get_within}
use Rattle.std.proofs.lemmas.List.{map-set, length-map}
use Rattle.ell_ops.proofs.lemmas.Places.{slice_get-set_same, slice_get-set_other}
use Rattle.ell_layout.proofs.lemmas.Writes.{put_same, put_other}
use Rattle.ell_core.specs.declared.event.Event.{Event}
use Rattle.ell_core.specs.declared.event.Stepped.{Stepped}
use Rattle.ell_core.specs.declared.event.CoreFault.{CoreFault}
use Rattle.ell_core.specs.declared.event.CoreFault.TheVariants.{NoSuchWorker, NotOwned, NotNow, NoCards, OwnedTwice, NoMemory}
use Rattle.ell_world.specs.declared.memory.Memory.{Memory}
use Rattle.ell_world.specs.declared.worker.Worker.{Worker}
use Rattle.ell_layout.specs.Words.{Words, put}
use Rattle.ell_core.specs.state.Machine as machine
use Rattle.ell_core.specs.state.Machine.{Machine, Scene, scene, with_scene}
use Rattle.ell_core.specs.acts.Events.{Happens, Steps, TurnRefused}
use Rattle.ell_layout.specs.Layout.{table_size}
use Rattle.ell_world.specs.Fits.{SceneFits}
use Rattle.ell_world.specs.Inside.{words_in, worker_in, worker_at, view_of, scene_in, SameSize, IsReady, Answered, RefusedAt}
use Rattle.ell_world.specs.World.{WorldValue, machine_of, WorldFits, StepRefused}
use Rattle.ell_world.proofs.lemmas.Ready.{scene_fits}
use Rattle.ell_core.proofs.lemmas.keeping.AllEvents.{steps_follow, steps_lawful}

-- the value of a world with these words and workers
abbrev pub world_at : {A : Type 0} → Memory A → List (Worker A) → WorldValue
world_at memory workers = record { words = memory.words.items; workers = map view_of workers; last_card = memory.last_card }

-- setting an item to itself changes nothing
set_same : {A : Type 0} (xs : List A) (i : ℕ) (v : A) → slice_get xs i ≡ Some v → set xs i v ≡ xs
set_same [] i v h = refl
set_same (x ∷ xs) zero v h = let e : x ≡ v = cc in ap (λ y. y ∷ xs) (sym e)
set_same (x ∷ xs) (suc i) v h = ap (λ ys. x ∷ ys) (set_same xs i v h)

map_get : {A B : Type 0} (f : A → B) (xs : List A) (i : ℕ) (v : A) → slice_get xs i ≡ Some v → slice_get (map f xs) i ≡ Some (f v)
map_get f [] i v h = absurd (cc)
map_get f (x ∷ xs) zero v h = let e : x ≡ v = cc in ap (λ y. Some (f y)) e
map_get f (x ∷ xs) (suc i) v h = map_get f xs i v h

-- what `get_mut` lends stands at its place of the list
pub item_there : {A : Type 0} (workers : Vec (Worker A) A) (i : ℕ) (v : Worker A) → i < vec_len workers → v ≡ get_or workers.items i v
    → slice_get workers.items i ≡ Some v
item_there workers i v within is = slice_get_read workers.items (vec_len workers) i v workers.ok.0 within is

-- the machine's worker at a place of the list
pub worker_there : {A : Type 0} (workers : List (Worker A)) (i : ℕ) (v : Worker A) → slice_get workers i ≡ Some v → worker_at workers i ≡ worker_in v
worker_there workers i v h = ap machine.worker_or_nobody (map_get view_of workers i v h)

-- the machine's workers after one of the list was set
workers_set : {A : Type 0} (workers : List (Worker A)) (i : ℕ) (v : Worker A) → i < length workers → (j : ℕ)
    → worker_at (set workers i v) j ≡ put (worker_at workers) i (worker_in v) j
workers_set workers i v here j =
    let within : i < length (map view_of workers) = let e = length-map workers view_of in omega arith in
    ap (λ views. machine.worker_or_nobody (slice_get views j)) (map-set view_of workers i v) ∙ elim (cases_eq j i) [
      | inl same ↦
          ap (λ k. machine.worker_or_nobody (slice_get (set (map view_of workers) i (view_of v)) k)) same
          ∙ (ap machine.worker_or_nobody (slice_get-set_same (map view_of workers) i (view_of v) within)
          ∙ sym (ap (put (worker_at workers) i (worker_in v)) same ∙ put_same (worker_at workers) i (worker_in v)))
      | inr other ↦
          ap machine.worker_or_nobody (slice_get-set_other (map view_of workers) i j (view_of v) other)
          ∙ sym (put_other (worker_at workers) i (worker_in v) j other)
    ]

-- what an event of worker i sees is the words and that worker
pub scene_there : {A : Type 0} (memory : Memory A) (workers : List (Worker A)) (i : ℕ) (v : Worker A) → slice_get workers i ≡ Some v
    → scene_in memory v ≡ scene (machine_of (world_at memory workers)) i
unfolding machine_of
scene_there memory workers i v h = ap (λ (w : machine.Worker). record { words = words_in memory; worker = w }) (sym (worker_there workers i v h))

-- the machine after the words and one worker have changed
pub machine_after : {A : Type 0} (memory memory' : Memory A) (workers : List (Worker A)) (i : ℕ) (v' : Worker A) → i < length workers
    → memory'.last_card ≡ memory.last_card
    → machine_of (world_at memory' (set workers i v')) ≡ with_scene (machine_of (world_at memory workers)) i (scene_in memory' v')
unfolding machine_of
machine_after memory memory' workers i v' here cards = λ t. record {
  words = words_in memory';
  worker = λ j. workers_set workers i v' here j t;
  count = (ap length (map-set view_of workers i v') ∙ length-set (map view_of workers) i (view_of v')) t;
  last_card = cards t;
}

-- there are as many workers as the list has
pub count_is : {A : Type 0} (memory : Memory A) (workers : List (Worker A)) → (machine_of (world_at memory workers)).count ≡ length workers
unfolding machine_of
count_is memory workers = length-map workers view_of

-- the machine's words are those of the list
pub words_are : {A : Type 0} (memory : Memory A) (workers : List (Worker A)) → words_in memory ≡ (machine_of (world_at memory workers)).words
unfolding machine_of
words_are memory workers = refl

pub cards_are : {A : Type 0} (memory : Memory A) (workers : List (Worker A)) → (machine_of (world_at memory workers)).last_card ≡ memory.last_card
unfolding machine_of
cards_are memory workers = refl

module _ {A : Type 0} (memory memory' : Memory A) (workers : List (Worker A)) (e : Event) (v v' : Worker A)
    (there : slice_get workers e.worker ≡ Some v) (same : SameSize memory memory') where
  here : e.worker < length workers
  here = slice_get_within workers e.worker v there

  -- the worker is one of the machine's
  is_there : e.worker < (machine_of (world_at memory workers)).count
  is_there = let count = count_is memory workers in let within = here in omega arith

  -- a turn that was answered is a step of the machine
  pub step_done : (said : Stepped) → Answered e.act memory v memory' v' said
      → Steps (machine_of (world_at memory workers)) e said (machine_of (world_at memory' (set workers e.worker v')))
  step_done said h = record {
    there = is_there;
    becomes = scene_in memory' v';
    happens = subst (λ cards. Happens cards e.act (scene (machine_of (world_at memory workers)) e.worker) said (scene_in memory' v'))
        (sym (cards_are memory workers))
        (subst (λ s. Happens memory.last_card e.act s said (scene_in memory' v')) (scene_there memory workers e.worker v there) h);
    gives = machine_after memory memory' workers e.worker v' here same.cards;
  }

  refused_there : (fault : CoreFault) → RefusedAt e.act memory v fault
      → TurnRefused (machine_of (world_at memory workers)).last_card e.act (scene (machine_of (world_at memory workers)) e.worker) fault
  refused_there fault h =
      subst (λ cards. TurnRefused cards e.act (scene (machine_of (world_at memory workers)) e.worker) fault) (sym (cards_are memory workers))
      (subst (λ s. TurnRefused memory.last_card e.act s fault) (scene_there memory workers e.worker v there) h)

  -- a turn that was refused is a step that is refused
  pub step_refused : (fault : CoreFault) → RefusedAt e.act memory v fault → StepRefused (machine_of (world_at memory workers)) e fault
  step_refused NoSuchWorker h = absurd h
  step_refused NotOwned h = (is_there, refused_there NotOwned h)
  step_refused NotNow h = (is_there, refused_there NotNow h)
  step_refused NoCards h = (is_there, refused_there NoCards h)
  step_refused OwnedTwice h = (is_there, refused_there OwnedTwice h)
  step_refused NoMemory h = (is_there, refused_there NoMemory h)

  -- where the words and the worker's view are as they were, so is the world
  pub value_same : view_of v' ≡ view_of v → memory' ≡ memory → world_at memory' (set workers e.worker v') ≡ world_at memory workers
  value_same view words = λ t. record {
    words = (words t).words.items;
    last_card = (words t).last_card;
    workers = (map-set view_of workers e.worker v' ∙ (ap (set (map view_of workers) e.worker) view
        ∙ set_same (map view_of workers) e.worker (view_of v) (map_get view_of workers e.worker v there))) t;
  }

  -- the worker can take its turn
  pub ready : WorldFits (world_at memory workers) → IsReady memory v
  ready fits = record {
    sized = record { size = fits.size; limit = fits.limit };
    plain = fits.plain;
    fits = subst (λ cards. SceneFits cards (scene_in memory v)) (cards_are memory workers)
        (subst (SceneFits (machine_of (world_at memory workers)).last_card) (sym (scene_there memory workers e.worker v there))
        (scene_fits (machine_of (world_at memory workers)) fits.lawful.stages e.worker fits.lawful.invariant));
  }

  -- an answered turn leaves from where on the tree is flat
  flat_kept : (said : Stepped) → WorldFits (world_at memory workers) → Answered e.act memory v memory' v' said
      → (words_in memory').flat_from ≡ (words_in memory).flat_from
  flat_kept said fits h =
      let old = machine_of (world_at memory workers) in
      let new = machine_of (world_at memory' (set workers e.worker v')) in
      ap (λ (w : Words). w.flat_from) (words_are memory' (set workers e.worker v'))
      ∙ ((steps_follow old fits.lawful.stages e said new fits.lawful.invariant (step_done said h)).words.flat
      ∙ ap (λ (w : Words). w.flat_from) (sym (words_are memory workers)))

  -- after an answered turn the world fits
  fits_done : (said : Stepped) → WorldFits (world_at memory workers) → Answered e.act memory v memory' v' said
      → WorldFits (world_at memory' (set workers e.worker v'))
  fits_done said fits h =
      let more = same.cards in let size = same.size in let was = fits.size in let limit = fits.limit in record {
        size = size ∙ (was ∙ ap table_size (sym more));
        limit = omega arith;
        plain = flat_kept said fits h ∙ fits.plain;
        lawful = steps_lawful (machine_of (world_at memory workers)) e said (machine_of (world_at memory' (set workers e.worker v'))) fits.lawful (step_done said h);
      }

  -- after a turn, answered or refused, the world fits
  pub fits_turn : (r : Result Stepped CoreFault) → WorldFits (world_at memory workers) → IfOk r (Answered e.act memory v memory' v')
      → OnErr r (view_of v' ≡ view_of v) → OnErr r (memory' ≡ memory) → WorldFits (world_at memory' (set workers e.worker v'))
  fits_turn (Ok said) fits done view words = fits_done said fits done
  fits_turn (Err fault) fits done view words = subst WorldFits (sym (value_same view words)) fits
