-- The words may be shared, and a seat may go to another thread.
use Rattle.std.proofs.Common.{ℕ, zero, suc, ◌+◌, ◌*◌, List, [], ◌∷◌}
use mathlib.Core.Option.{Option, none, some}
use base.Stored.{Gv}
use base.Fml.{Lft}
use base.Shift.{Keyless}
use types.Keyed.{entry_keyless}
use denote.RawPtr.{Ptr, block_of, count_of}
use Rattle.std.proofs.Crossing.{frees}
use Rattle.atomic_table.specs.Seated.{halved}
use Rattle.atomic_table.proofs.Sent.{roster_keyless}
use Rattle.ell_arena.specs.Words.{State, Me}
use Rattle.ell_arena.specs.Ownership.{WordsId, age, content, held, tracked, home, shelf, carried, owed, mine, inner, rights, words_own, words_share}

content_keyless : (b e y : ℕ) → Keyless (content b e y)
content_keyless b e zero = tt
content_keyless b e (suc n) = tt

module _ (κ : Lft) (p : Ptr) (ω : ℕ) where
  held_keyless : (k : ℕ) → Keyless (held κ p ω k)
  held_keyless k = λ y. (content_keyless (block_of p) (k * 8 + count_of p) y, entry_keyless halved ω k _)

  tracked_keyless : (k y : ℕ) → Keyless (tracked κ p ω k y)
  tracked_keyless k y = (entry_keyless halved ω k _, held_keyless k)

  home_keyless : (k : ℕ) (h : Option ℕ) → Keyless (home κ p ω k h)
  home_keyless k none = tt
  home_keyless k (some y) = tracked_keyless k y

  shelf_keyless : (k : ℕ) (hs : List (Option ℕ)) → Keyless (shelf κ p ω k hs)
  shelf_keyless k [] = tt
  shelf_keyless k (h ∷ hs) = (home_keyless k h, shelf_keyless (suc k) hs)

  carried_keyless : (n : ℕ) (cs : List (ℕ × ℕ)) → Keyless (carried κ p ω n cs)
  carried_keyless n [] = tt
  carried_keyless n (x ∷ xs) = ((λ _. tt), (tracked_keyless x.0 x.1, carried_keyless n xs))

  owed_keyless : (k n : ℕ) → Keyless (owed κ p ω k n)
  owed_keyless k zero = tt
  owed_keyless k (suc n) = (held_keyless k, owed_keyless (suc k) n)

module _ {V : Type 0} (c : V → Gv) (z : WordsId) where
  pub seat_keyless : (id : ℕ) (m : Me V) → Keyless (mine c z id m)
  seat_keyless id m = (entry_keyless halved z.views_name id _, carried_keyless (age z) z.base z.words_name z.count m.1)

  module _ (holds : State V → Type 0) where
    inner_keyless : Keyless (inner c z holds)
    inner_keyless = λ s. (shelf_keyless (age z) z.base z.words_name 0 s.homes, (roster_keyless c z.views_name 0 s.views, λ _. tt))

    pub owns_keyless : Keyless (words_own c z holds)
    unfolding Rattle.ell_arena.specs.Ownership.seal
    owns_keyless = (tt, (((λ _. tt), inner_keyless), (owed_keyless (age z) z.base z.words_name 0 z.count, λ heap. frees.frees heap _ z.base)))

    pub shares_keyless : (ν : Lft) → Keyless (words_share c z holds ν)
    unfolding Rattle.ell_arena.specs.Ownership.seal
    shares_keyless ν = ((λ _. tt), ((λ _. tt), inner_keyless))
