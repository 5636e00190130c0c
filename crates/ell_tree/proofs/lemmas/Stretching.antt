use Rattle.std.proofs.Common.{◌≡◌, ◌==◌, ℕ, zero, suc, ◌+◌, ◌*◌, ◌/◌, ◌-◌, ◌<◌, ◌≤◌, ◌&&◌, ◌||◌, ◌⊎◌, inl, inr, if◌then◌else◌, Bool, true, false, List, [], ◌∷◌, refl, sym, ap, ◌∙◌, subst, arith, eq-eqb, eqb-true}
use Rattle.std.proofs.Math.Nat.{mul-le-mul_right}
use Rattle.std.proofs.lemmas.Bool.{false≢true, or_left, or_right, or_cases}
use Rattle.ell_runs.specs.declared.view.Told.{Told}
use Rattle.ell_runs.specs.declared.view.Told.TheVariants.{Met, Depth, Key, Value, Info, Expects, Frozen}
use Rattle.ell_runs.specs.Contention.{how_many}
use Rattle.ell_runs.specs.Looking.{KeysAreFixed}
use Rattle.ell_runs.specs.Plans.{TablePlan}
use Rattle.ell_runs.specs.Views.{Has, latest, earlier}
use Rattle.ell_cards.specs.Models.{PassModel}
use Rattle.ell_runs.proofs.lemmas.runs.HowMany.{many_most, many_where}
use Rattle.ell_runs.specs.LookPlaces.{SawLookBegin}
use Rattle.ell_tree.proofs.lemmas.LookPlaces.{saw_on}
use Rattle.ell_tree.specs.Cursors.{IsNodeKey, KeepsLooking}
use Rattle.ell_tree.specs.Looks.{OnlyLooks, stretch_steps}
use Rattle.ell_tree.specs.Scans.{scan_steps}
use Rattle.ell_tree.proofs.lemmas.Looks.{only_none_yet, only_trans}
use Rattle.ell_runs.specs.Depths.{deepest}

-- where both of two tests pass, each does
both : (a b : Bool) → (a && b) ≡ true → (a ≡ true) × (b ≡ true)
both true b h = (refl, h)
both false b h = absurd (false≢true h)

-- and the other way round
joined : (a b : Bool) → a ≡ true → b ≡ true → (a && b) ≡ true
joined true b first second = second
joined false b first second = absurd (false≢true first)

-- whether this tells a key of a node that passes a test
abbrev tells_key : (ℕ → Bool) → ℕ → Told → Bool
tells_key test node (Key x key) = x == node && test key
tells_key test node _ = false

-- and whether one of these does
abbrev pub told_key : (ℕ → Bool) → ℕ → List Told → Bool
told_key test node [] = false
told_key test node (e ∷ es) = tells_key test node e || told_key test node es

-- where one does, there is such a key
told_there : (test : ℕ → Bool) (node : ℕ) (es : List Told) → told_key test node es ≡ true → (key : ℕ) × Has es (Key node key) × (test key ≡ true)
told_there test node [] h = absurd (false≢true h)
told_there test node (e ∷ es) h = elim (or_cases (tells_key test node e) (told_key test node es) h) [
  | inl here ↦ first e here
  | inr there ↦ (let t = told_there test node es there in (t.0, earlier (Key node t.0) e es t.1, t.2))
]
  where
    first : (e : Told) → tells_key test node e ≡ true → (key : ℕ) × Has (e ∷ es) (Key node key) × (test key ≡ true)
    first (Key x key) here =
        let is = both (x == node) (test key) here in
        let same : x ≡ node = eqb-true x node is.0 in
        (key, subst (λ y. Has (Key x key ∷ es) (Key y key)) same (latest (Key x key) es), is.1)
    first (Met x) here = absurd (false≢true here)
    first (Depth x d) here = absurd (false≢true here)
    first (Value x value) here = absurd (false≢true here)
    first (Info c f x) here = absurd (false≢true here)
    first (Expects c tag) here = absurd (false≢true here)
    first (Frozen c right x) here = absurd (false≢true here)

-- and the other way round
told_so : (test : ℕ → Bool) (node key : ℕ) (es : List Told) → Has es (Key node key) → test key ≡ true → told_key test node es ≡ true
told_so test node key _ (latest _ es) passes =
    or_left (node == node && test key) (told_key test node es) (joined (node == node) (test key) (eq-eqb node node refl) passes)
told_so test node key _ (earlier _ d es h) passes = or_right (tells_key test node d) (told_key test node es) (told_so test node key es h passes)

-- of how many cards these tell a key of the inner node that passes a test
abbrev pub keys_told : ℕ → (ℕ → Bool) → List Told → ℕ
keys_told cards test told = how_many cards (λ c. told_key test (4 * (c + 1)) told)

-- of no more than there are
how_many_most : (n : ℕ) (so : ℕ → Bool) → how_many n so ≤ n
how_many_most zero so = omega arith
how_many_most (suc n) so = by (so n) (how_many_most n so)
  where
    by : (b : Bool) → how_many n so ≤ n → (if b then 1 else 0) + how_many n so ≤ suc n
    by true h = omega arith
    by false h = omega arith

-- where more is told, and more passes, they are no fewer
keys_still : (cards : ℕ) (old new : PassModel) (was is : ℕ → Bool) → ((e : Told) → Has old.view.told e → Has new.view.told e)
    → ((key : ℕ) → was key ≡ true → is key ≡ true) → keys_told cards was old.view.told ≤ keys_told cards is new.view.told
keys_still cards old new was is more passes =
    many_where cards (λ c. told_key was (4 * (c + 1)) old.view.told) (λ c. told_key is (4 * (c + 1)) new.view.told) (λ c low told.
    let t = told_there was (4 * (c + 1)) old.view.told told in
    told_so is (4 * (c + 1)) t.0 new.view.told (more (Key (4 * (c + 1)) t.0) t.1) (passes t.0 t.2))

-- and where there is a key of an inner node that passes only now, they are more
keys_more : (cards : ℕ) (old new : PassModel) (was is : ℕ → Bool) → ((e : Told) → Has old.view.told e → Has new.view.told e)
    → ((key : ℕ) → was key ≡ true → is key ≡ true) → KeysAreFixed new.view
    → (key : ℕ) → IsNodeKey cards new.view key → was key ≡ false → is key ≡ true
    → keys_told cards was old.view.told + 1 ≤ keys_told cards is new.view.told
keys_more cards old new was is more passes fixed key at before after =
    many_most cards cards (λ c. told_key was (4 * (c + 1)) old.view.told) (λ c. told_key is (4 * (c + 1)) new.view.told) (omega arith)
    (λ c low told. let t = told_there was (4 * (c + 1)) old.view.told told in
    told_so is (4 * (c + 1)) t.0 new.view.told (more (Key (4 * (c + 1)) t.0) t.1) (passes t.0 t.2))
    card low (told_so is (4 * (card + 1)) key new.view.told told after)
    (λ less. none (told_key was (4 * (card + 1)) old.view.told) refl)
  where
    card : ℕ
    card = at.node / 4 - 1

    node_is : at.node ≡ 4 * (card + 1)
    node_is = let inner = at.inner in let below = at.below in omega arith

    low : card < cards
    low = let inner = at.inner in let below = at.below in let there = at.there in omega arith

    told : Has new.view.told (Key (4 * (card + 1)) key)
    told = subst (λ x. Has new.view.told (Key x key)) node_is at.told

    none : (b : Bool) → told_key was (4 * (card + 1)) old.view.told ≡ b → told_key was (4 * (card + 1)) old.view.told ≡ false
    none false e = e
    none true e =
        let t = told_there was (4 * (card + 1)) old.view.told e in
        let same : t.0 ≡ key = fixed (4 * (card + 1)) t.0 key (more (Key (4 * (card + 1)) t.0) t.1) told in
        absurd (false≢true (sym before ∙ (ap was (sym same) ∙ t.2)))

-- a look has gone on through some stretches of keys: through no more than there are cards of which it was told a key that passes a test, or,
-- where it does not go on any more, through one more
pub record Stretches (plan : TablePlan) (test : ℕ → Bool) (More : Type 0) (old now : PassModel) : Type 0 where
  pub count : ℕ
  pub only : OnlyLooks old now (count * stretch_steps (deepest plan) + 1)
  pub saw : SawLookBegin old.sight now.sight
  pub few : count ≤ keys_told plan.last_card test now.view.told + 1
  pub fewer : More → count ≤ keys_told plan.last_card test now.view.told

-- then through one more, which ends at the key of an inner node that passes only now, or the look goes on no more
pub stretches_more : (plan : TablePlan) (was is : ℕ → Bool) (More Then : Type 0) (old now new : PassModel) → Stretches plan was More old now → More
    → KeepsLooking now new (stretch_steps (deepest plan)) → ((key : ℕ) → was key ≡ true → is key ≡ true) → KeysAreFixed new.view
    → (key : ℕ) → (¬ Then) ⊎ IsNodeKey plan.last_card new.view key → was key ≡ false → is key ≡ true → Stretches plan is Then old new
stretches_more plan was is More Then old now new s more on passes fixed key ends before after = record {
  count = s.count + 1;
  only = only_trans old now new (s.count * stretch_steps (deepest plan) + 1) (stretch_steps (deepest plan)) ((s.count + 1) * stretch_steps (deepest plan) + 1) s.only on.only
      (omega arith);
  saw = saw_on old.sight now.sight new.sight s.saw on.sees;
  few = (let still = s.fewer more in let least = keys_still plan.last_card now new was is on.told passes in omega arith);
  fewer = λ keeps. elim ends [
    | inl none ↦ absurd (none keeps)
    | inr at ↦
        let still = s.fewer more in
        let one = keys_more plan.last_card now new was is on.told passes fixed key at before after in
        omega arith
  ];
}

-- all in all it takes no more steps than a scan may
pub stretches_steps : (plan : TablePlan) (test : ℕ → Bool) (More : Type 0) (old now : PassModel) → Stretches plan test More old now
    → OnlyLooks old now (scan_steps plan)
stretches_steps plan test More old now s =
    let most = how_many_most plan.last_card (λ c. told_key test (4 * (c + 1)) now.view.told) in
    let few = s.few in
    let count : s.count ≤ plan.last_card + 1 = omega arith in
    let all = mul-le-mul_right (stretch_steps (deepest plan)) count in
    only_trans old now now (s.count * stretch_steps (deepest plan) + 1) 0 (scan_steps plan) s.only (only_none_yet now) (omega (arith, all))
