use Rattle.std.proofs.Common.{◌≡◌, ◌↔◌, ℕ, ◌<◌, ◌≤◌, ◌⊎◌, inl, inr, ⊎_elim, ◌||◌, Bool, true, false, cond, All, None, Some, List, eqb, length, get_or, map, arith, refl, ap, sym, ◌∙◌}
use Rattle.std.specs.List.{Contains}
use Rattle.std.specs.List.Sorted.{IsStrictlyIncreasing}
use Rattle.std.specs.Map.{keys_of as keys_in}
use Rattle.std.proofs.lemmas.Bool.{eq-eqb, eqb-true, cond-true, or_right}
use Rattle.std.proofs.lemmas.List.{get_or-map, length-map}
use Rattle.std.proofs.lemmas.List.Elements.{All-contains}
use Rattle.std.proofs.lemmas.List.Folds.{list_any_at}
use Rattle.std.proofs.lemmas.List.Kept.{IsStrictlyIncreasing-filter}
use Rattle.std.proofs.lemmas.Map.Views.{Contains-from_any}
use Rattle.std.proofs.lemmas.Option.{slice_get-get_or}
use Rattle.ell_ops.specs.declared.op.Op.{Op}
use Rattle.ell_ops.specs.declared.op.Op.TheVariants.{Find}
use Rattle.ell_ops.specs.KeySet.{Lists, set_of, union}
use Rattle.ell_ops.specs.Meaning.{Fits, greatest_key, key_of}
use Rattle.ell_parts.specs.PartedOps.{PartedOps, IsLawful, keys_of_ops, part}
use Rattle.ell_tree.specs.Ledgers.{PassModel, TreeModel, Owns, IsIdle, ledger, Entry}
use Rattle.ell_tree.specs.PassParts.{IsFirst, ownable_if, start_entry}
use Rattle.ell_run.specs.Pieces.{all_workers, busy}
use Rattle.ell_run.specs.Work.{AreReady}
use Rattle.ell_run.specs.WorkFault.{StopsWork}
use Rattle.ell_run.specs.declared.faults.WorkFault.{WorkFault}
use Rattle.ell_run.specs.declared.faults.WorkFault.TheVariants.{TooManyPasses, NoMemory}
use Rattle.ell_run.proofs.lemmas.Busy.{all_ascend, all_known, busy_known, is_busy}
use Rattle.ell_run.proofs.lemmas.ByParts.{in_part}
use Rattle.ell_run.proofs.lemmas.Rows.{all_at}

-- workers can set to work with a pass that owns all keys of the operations
ready_with : (tree : TreeModel) (parting : PartedOps) (workers : List ℕ) (pass : PassModel) → IsLawful parting →
    All (λ worker. worker < parting.workers) workers → IsStrictlyIncreasing workers → pass.table ≡ tree.id → IsIdle pass →
    All (λ op. Owns pass (key_of op)) parting.ops → AreReady tree parting workers pass
ready_with tree parting workers pass lawful known ascending own idle owned = record {
  lawful = lawful;
  known = known;
  ascending = ascending;
  own = own;
  idle = idle;
  owned = λ j d below k e within.
      let worker = get_or workers j d in
      let item = get_or (part parting worker) k e in
      let here = in_part parting lawful worker k item.0 item.1 (slice_get-get_or (part parting worker) k e within) in
      all_at (λ op. Owns pass (key_of op)) parting.ops item.0 item.1 owned here.there;
}

-- the busy ones can
pub busy_ready : (tree : TreeModel) (parting : PartedOps) (pass : PassModel) → IsLawful parting → pass.table ≡ tree.id → IsIdle pass →
    All (λ op. Owns pass (key_of op)) parting.ops → AreReady tree parting (busy parting) pass
busy_ready tree parting pass lawful =
    ready_with tree parting (busy parting) pass lawful (busy_known parting)
    (IsStrictlyIncreasing-filter (is_busy parting) (all_workers parting) (all_ascend parting))

-- and so can all
pub all_ready : (tree : TreeModel) (parting : PartedOps) (pass : PassModel) → IsLawful parting → pass.table ≡ tree.id → IsIdle pass →
    All (λ op. Owns pass (key_of op)) parting.ops → AreReady tree parting (all_workers parting) pass
all_ready tree parting pass lawful = ready_with tree parting (all_workers parting) pass lawful (all_known parting) (all_ascend parting)

-- a key that the test finds in a list, and one of a list, which it finds
pub contains_key : (keys : List ℕ) (key : ℕ) → set_of keys key ≡ true → Contains keys key
contains_key keys key some = Contains-from_any {eq = eqb} eqb-true key keys some

pub finds_key : (keys : List ℕ) (j d : ℕ) → j < length keys → set_of keys (get_or keys j d) ≡ true
finds_key keys j d below = list_any_at (λ other. eqb (get_or keys j d) other) keys j d below (eq-eqb (get_or keys j d) (get_or keys j d) refl)

-- the distinct keys of operations fit where the operations do
pub keys_fit : (ops : List Op) (keys : List ℕ) → Lists (keys_of_ops ops) keys → All Fits ops → All (λ key. key ≤ greatest_key) keys
keys_fit ops keys listed fit j d below =
    let key = get_or keys j d in
    let at = contains_key (map key_of ops) key (ap (λ s. s key) (sym listed.each) ∙ finds_key keys j d below) in
    let within : at.0 < length ops = (let l = at.1 in omega (arith, length-map ops key_of)) in
    let here : key_of (get_or ops at.0 (Find 0)) ≡ key = sym (get_or-map key_of ops at.0 (Find 0) key within) ∙ at.2 in
    let bound = fit at.0 (Find 0) within in
    omega arith

-- a pass that owns the keys of operations
pub owns_ops : (pass : PassModel) (ops : List Op) (keys : List ℕ) → Lists (keys_of_ops ops) keys → All (λ key. Owns pass key) keys → All (λ op. Owns pass (key_of op)) ops
owns_ops pass ops keys listed owned j d below =
    let key = key_of (get_or ops j d) in
    let here : get_or (map key_of ops) j 0 ≡ key = get_or-map key_of ops j d 0 below in
    let among : set_of keys key ≡ true =
    ap (λ s. s key) listed.each
    ∙ list_any_at (λ other. eqb key other) (map key_of ops) j 0 (omega (arith, length-map ops key_of)) (eq-eqb key (get_or (map key_of ops) j 0) (sym here)) in
    All-contains (λ key. Owns pass key) keys key owned (contains_key keys key among)

either : (a b : Bool) → (a || b) ≡ true → (a ≡ true) ⊎ (b ≡ true)
either true b e = inl refl
either false b e = inr e

module _ (xs ys keys : List ℕ) (united : Lists (union (set_of xs) (set_of ys)) keys) where
  -- what holds of the keys of two lists holds of all in both
  pub all_united : (P : ℕ → Type 0) → All P xs → All P ys → All P keys
  all_united P first second j d below =
      let key = get_or keys j d in
      ⊎_elim
      (λ here. All-contains P xs key first (contains_key xs key here))
      (λ there. All-contains P ys key second (contains_key ys key there))
      (either (set_of xs key) (set_of ys key) (ap (λ s. s key) (sym united.each) ∙ finds_key keys j d below))

  -- among which those of each list are
  first_among : (key : ℕ) → set_of xs key ≡ true → set_of keys key ≡ true
  first_among key here = ap (λ s. s key) united.each ∙ ap (λ t. t || set_of ys key) here

  second_among : (key : ℕ) → set_of ys key ≡ true → set_of keys key ≡ true
  second_among key there = ap (λ s. s key) united.each ∙ or_right (set_of xs key) (set_of ys key) there

  pub first_given : All (λ key. set_of keys key ≡ true) xs
  first_given j d below = first_among (get_or xs j d) (finds_key xs j d below)

-- a pass that owns some keys, with these of them present
module _ (keys : List ℕ) (entry : ℕ → Entry) (pass : PassModel) (fresh : (key : ℕ) → ledger pass key ≡ cond (set_of keys key) (Some (entry key)) None) where
  owns_among : (key : ℕ) → set_of keys key ≡ true → Owns pass key
  owns_among key among none =
      let here : ledger pass key ≡ Some (entry key) = fresh key ∙ cond-true (set_of keys key) (Some (entry key)) None among in
      let no : ⊥ = cc in no

  -- it owns those of a list that are among them
  pub owns_those : (some : List ℕ) → ((key : ℕ) → set_of some key ≡ true → set_of keys key ≡ true) → All (λ key. Owns pass key) some
  owns_those some among j d below = owns_among (get_or some j d) (among (get_or some j d) (finds_key some j d below))

  -- and a pass that owns the same keys owns them all
  pub owns_all : (last : PassModel) → ((key : ℕ) → Owns last key ↔ Owns pass key) → All (λ key. Owns last key) keys
  owns_all last same j d below = (same (get_or keys j d)).1 (owns_among (get_or keys j d) (finds_key keys j d below))

-- the first pass of a tree that has the keys of some pairs and those of a list, and begins with the pairs, owns those of the list
pub owns_used : (start : List (ℕ × ℕ)) (used keys : List ℕ) (tree : TreeModel) (pass : PassModel) →
    Lists (union (set_of (keys_in start)) (set_of used)) keys → tree.plan.keys ≡ keys →
    IsFirst tree pass → All (λ key. Owns pass key) used
owns_used start used keys tree pass united same first =
    owns_those tree.plan.keys (start_entry tree.plan.start) pass first.ledger used
    (λ key there. ap (λ keys. set_of keys key) same ∙ second_among (keys_in start) used keys united key there)

-- where no key is shared, want of memory alone stops workers
pub unshared_stops : (tree : TreeModel) (pass : PassModel) (fault : WorkFault) → IsFirst tree pass → tree.plan.shared ≡ false → tree.plan.slots ≡ None
    → StopsWork tree.plan pass fault → fault ≡ NoMemory
unshared_stops tree pass TooManyPasses first unshared plain stops = absurd (stops plain (first.ownable ∙ ap (λ shared. ownable_if shared tree.plan.keys) unshared))
unshared_stops tree pass NoMemory first unshared plain stops = refl
