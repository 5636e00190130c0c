use Rattle.std.proofs.Common.{◌≡◌, ℕ, ◌+◌, ◌≤◌, List, All, ◌⊎◌, inl, inr, length, true, subst, sym, arith, ◌<◌}
use Rattle.std.proofs.lemmas.Bool.{cases_Bool}
use Rattle.std.specs.List.Sorted.{IsStrictlyIncreasing}
use Rattle.std.specs.Map.{keys_of}
use Rattle.ell_ops.specs.KeySet.{set_of}
use Rattle.ell_ops.specs.Meaning.{greatest_key}
use Rattle.ell_word.specs.Node.{greatest_card, greatest_number}
use Rattle.ell_cards.specs.declared.kind.TreeKind.{TreeKind}
use Rattle.ell_cards.specs.declared.kind.TreeKind.TheVariants.{Owned, Shared, Flat, Reusing}
use Rattle.ell_cards.specs.Kinds.{HasRoomForPasses, MayStartWith, is_flat, last_number, shares_others, slots_of}
use Rattle.ell_runs.specs.Plans.{TablePlan}
use Rattle.ell_runs.specs.Starts.{MayStart, SlotsFit, IsSharedIn}
use Rattle.ell_cards.proofs.lifetime.CardTable+FixedMemory+A.reserve.Goals as goal

-- a real key has an owner or is shared, where a plan shares the others
owned_or_shared : (plan : TablePlan) (k : ℕ) → plan.shared ≡ true → k ≤ greatest_key → (set_of plan.keys k ≡ true) ⊎ IsSharedIn plan k
owned_or_shared plan k shares real = elim (cases_Bool (set_of plan.keys k)) [
  | inl owned ↦ inl owned
  | inr other ↦ inr (record { mode = shares; real = real; other = other })
]

given_there : (plan : TablePlan) (kind : TreeKind) (start : List ℕ) → plan.shared ≡ shares_others kind → MayStartWith kind plan.keys start
    → All (λ k. (set_of plan.keys k ≡ true) ⊎ IsSharedIn plan k) start
given_there plan Owned start shares may = λ i d below. inl (may i d below)
given_there plan Shared start shares may = λ i d below. owned_or_shared plan _ shares (may i d below)
given_there plan Flat start shares may = λ i d below. owned_or_shared plan _ shares (may i d below)
given_there plan (Reusing passes) start shares may = λ i d below. owned_or_shared plan _ shares (may i d below)

-- the last number of a kind of tree is one, and enough for the start keys
numbers_fit : (kind : TreeKind) (room start : ℕ) → start ≤ room → room ≤ greatest_card → (start ≤ last_number kind room) × (last_number kind room ≤ greatest_number)
numbers_fit Owned room start few most = (few, omega arith)
numbers_fit Shared room start few most = (few, omega arith)
numbers_fit Flat room start few most = (few, omega arith)
numbers_fit (Reusing passes) room start few most = (omega arith, omega arith)

-- and its slots and announcements fit a plan that has them
announcements_fit : (kind : TreeKind) (plan : TablePlan) (room : ℕ) → plan.last_card ≡ last_number kind room → plan.flat ≡ is_flat kind
    → HasRoomForPasses kind → length plan.start ≤ room → room ≤ greatest_card → SlotsFit plan (slots_of kind room)
announcements_fit Owned plan room number flat passes few most = omega (arith, number)
announcements_fit Shared plan room number flat passes few most = omega (arith, number)
announcements_fit Flat plan room number flat passes few most = omega (arith, number)
announcements_fit (Reusing n) plan room number flat passes enough most = record {
  some = passes.0;
  few = passes.1;
  numbers = number;
  start = enough;
  low = most;
  flat = flat;
}

-- so a tree of this kind may open with copies of its keys and start pairs
may_start : (kind : TreeKind) (plan : TablePlan) (keys : List ℕ) (start : List (ℕ × ℕ)) (room : ℕ) → plan.keys ≡ keys → plan.start ≡ start
    → plan.last_card ≡ last_number kind room → plan.shared ≡ shares_others kind → plan.flat ≡ is_flat kind → plan.slots ≡ slots_of kind room
    → IsStrictlyIncreasing keys → All (λ k. k ≤ greatest_key) keys → IsStrictlyIncreasing (keys_of start) → MayStartWith kind keys (keys_of start)
    → HasRoomForPasses kind → length start ≤ room → length start < greatest_card → room ≤ greatest_card → MayStart plan
may_start kind plan keys start room copied started number shares flat slots ascending real start_ascending given passes few least most =
    let here = subst (λ pairs. MayStartWith kind plan.keys (keys_of pairs)) (sym started)
    (subst (λ ks. MayStartWith kind ks (keys_of start)) (sym copied) given) in
    let fit = numbers_fit kind room (length start) few most in record {
      ascending = subst IsStrictlyIncreasing (sym copied) ascending;
      real = subst (All (λ k. k ≤ greatest_key)) (sym copied) real;
      start_ascending = subst (λ pairs. IsStrictlyIncreasing (keys_of pairs)) (sym started) start_ascending;
      given = given_there plan kind (keys_of plan.start) shares here;
      room = subst (λ pairs. length pairs ≤ plan.last_card) (sym started) (subst (λ n. length start ≤ n) (sym number) fit.0);
      few = subst (λ pairs. length pairs < greatest_card) (sym started) least;
      limit = subst (λ n. n ≤ greatest_number) (sym number) fit.1;
      slots = subst (SlotsFit plan) (sym slots)
          (announcements_fit kind plan room number flat passes (subst (λ pairs. length pairs ≤ room) (sym started) few) most);
    }

pub open-requires-clause-may : goal.open-requires-clause-may
open-requires-clause-may g c =
    let asked = c.requires in
    may_start c.args.kind _ c.args.keys.now c.args.start.now (c.args.cards + length c.args.start.now) c.in_ok-copied.ensures c.in_ok-copied-2.ensures
    c.last_number.ensures c.shares_others.ensures c.is_flat.ensures c.slots.ensures asked.ascending asked.real asked.start_ascending asked.given
    asked.passes (omega arith) (omega arith) (omega arith)
