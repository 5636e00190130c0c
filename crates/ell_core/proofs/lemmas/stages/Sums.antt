use Rattle.std.proofs.Common.{◌≡◌, ℕ, ◌+◌, ◌<◌, ◌≤◌, ◌==◌, ◌⊎◌, if◌then◌else◌, Bool, true, false, Option, Some, None, List, [], ◌∷◌, ◌++◌, refl, ap, arith}
use Rattle.ell_core.specs.declared.exchange.Exchange.{Exchange}
use Rattle.ell_core.specs.declared.exchange.Exchange.TheVariants as exchange
use Rattle.ell_core.specs.declared.event.Act.{Act}
use Rattle.ell_core.specs.declared.event.Act.TheVariants as act
use Rattle.ell_core.specs.declared.event.Stepped.{Stepped}
use Rattle.ell_core.specs.declared.event.Stepped.TheVariants.{Won}
use Rattle.ell_core.specs.acts.Wins.{win_for, win_by, wins_by}
use Rattle.ell_core.specs.history.Stages.{Stage, is_backed, delete_won, is_changed, is_cut}
use Rattle.ell_core.specs.history.Later.{wins_of}
use Rattle.ell_core.proofs.lemmas.stages.Flags.{was_flagged}

-- 1 for a flag that a delete takes back, for its flag, and for an exchange of a child; 0 for what else a card wins
abbrev pub backs : Exchange → ℕ
backs exchange.Backtrack = 1
backs _ = 0

abbrev pub delete_flags : Exchange → ℕ
delete_flags exchange.DFlag = 1
delete_flags _ = 0

abbrev pub child_changes : Exchange → ℕ
child_changes exchange.IChild = 1
child_changes exchange.DChild = 1
child_changes _ = 0

abbrev pub all_flags : Exchange → ℕ
all_flags exchange.IFlag = 1
all_flags exchange.DFlag = 1
all_flags _ = 0

-- the sum over what was won
abbrev pub sum_by : (Exchange → ℕ) → List Exchange → ℕ
sum_by f [] = 0
sum_by f (k ∷ ks) = f k + sum_by f ks

pub sum_append : (f : Exchange → ℕ) (a b : List Exchange) → sum_by f (a ++ b) ≡ sum_by f a + sum_by f b
sum_append f [] b = omega arith
sum_append f (k ∷ ks) b = let h = sum_append f ks b in omega arith

-- what an act adds to it at most
abbrev pub kind_sum : (Exchange → ℕ) → Act → ℕ
kind_sum f act.IFlag = f exchange.IFlag
kind_sum f act.DFlag = f exchange.DFlag
kind_sum f (act.IChild c) = f exchange.IChild
kind_sum f (act.IUnflag c) = f exchange.IUnflag
kind_sum f (act.Mark c) = f exchange.Mark
kind_sum f (act.DChild c) = f exchange.DChild
kind_sum f (act.DUnflag c) = f exchange.DUnflag
kind_sum f (act.Backtrack c) = f exchange.Backtrack
kind_sum f _ = 0

pub win_sum : (f : Exchange → ℕ) (o : Option ℕ) (k : Exchange) (c : ℕ) → f k ≡ 0 → sum_by f (win_for o k c) ≡ 0
win_sum f None k c none = refl
win_sum f (Some d) k c none = by (c == d)
  where
    by : (b : Bool) → sum_by f (if b then k ∷ [] else []) ≡ 0
    by true = omega arith
    by false = refl

acts_sum : (f : Exchange → ℕ) (a : Act) (hand : Option ℕ) (c : ℕ) → kind_sum f a ≡ 0 → sum_by f (win_by a hand c) ≡ 0
acts_sum f act.IFlag hand c none = win_sum f hand exchange.IFlag c none
acts_sum f act.DFlag hand c none = win_sum f hand exchange.DFlag c none
acts_sum f (act.IChild d) hand c none = win_sum f (Some d) exchange.IChild c none
acts_sum f (act.IUnflag d) hand c none = win_sum f (Some d) exchange.IUnflag c none
acts_sum f (act.Mark d) hand c none = win_sum f (Some d) exchange.Mark c none
acts_sum f (act.DChild d) hand c none = win_sum f (Some d) exchange.DChild c none
acts_sum f (act.DUnflag d) hand c none = win_sum f (Some d) exchange.DUnflag c none
acts_sum f (act.Backtrack d) hand c none = win_sum f (Some d) exchange.Backtrack c none
acts_sum f _ hand c none = refl

-- an act that can't win such a thing adds nothing
pub none_won : (f : Exchange → ℕ) (a : Act) (hand : Option ℕ) (said : Stepped) (c : ℕ) → kind_sum f a ≡ 0 → sum_by f (wins_by a hand said c) ≡ 0
none_won f a hand Won c none = acts_sum f a hand c none
none_won f a hand _ c none = refl

-- a card that was taken back has won that, and so on
pub backed-sum : (s : Stage) → is_backed s ≡ true → 0 < sum_by backs (wins_of s)
backed-sum s h = grind arith

pub sum-backed : (s : Stage) → 0 < sum_by backs (wins_of s) → is_backed s ≡ true
sum-backed s h = grind arith

pub won-sum : (s : Stage) → delete_won s ≡ true → 0 < sum_by delete_flags (wins_of s)
won-sum s h = grind arith

pub sum-won : (s : Stage) → 0 < sum_by delete_flags (wins_of s) → delete_won s ≡ true
sum-won s h = grind arith

pub changed-sum : (s : Stage) → is_changed s ≡ true → 0 < sum_by child_changes (wins_of s)
changed-sum s h = grind arith

pub cut-sum : (s : Stage) → is_cut s ≡ true → 0 < sum_by child_changes (wins_of s)
cut-sum s h = grind arith

pub sum-changed : (s : Stage) → 0 < sum_by child_changes (wins_of s) → (is_changed s ≡ true) ⊎ (is_cut s ≡ true)
sum-changed s h = grind arith

pub unflagged-sum : (s : Stage) → sum_by all_flags (wins_of s) ≡ 0 → was_flagged s ≡ false
unflagged-sum s h = grind arith

pub sum-flagged : (s : Stage) → 0 < sum_by all_flags (wins_of s) → was_flagged s ≡ true
sum-flagged s h = grind arith

pub flags-once : (s : Stage) → sum_by all_flags (wins_of s) ≤ 1
flags-once s = grind arith

-- where nothing of the kind was won, the sum is as it was
pub sum_same : (f : Exchange → ℕ) (before after : Stage) (won : List Exchange) → wins_of after ≡ wins_of before ++ won → sum_by f won ≡ 0
    → sum_by f (wins_of after) ≡ sum_by f (wins_of before)
sum_same f before after won grows none =
    let parts = sum_append f (wins_of before) won in
    let same = ap (sum_by f) grows in
    omega arith
