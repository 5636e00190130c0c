-- Who owns what. The words themselves own the right to end their lifetime and to free the block. What threads share
-- is an invariant, lent for that lifetime, with all views and all words that are at home. A seat owns its own view,
-- and the words that are lent to it. Each word is a borrow of its own for the same lifetime: so at its end all come
-- back, whatever a seat that was dropped had. What a word's content is stands under one ghost name: a quarter of that
-- entry is with the memory, and the rest with whoever has the borrow.
use Rattle.std.specs.Prelude.{◌≡◌, ℕ, zero, suc, ◌+◌, ◌*◌, ◌^◌, ◌<◌, List, [], ◌∷◌, length}
use mathlib.Core.Option.{Option, none, some}
use base.Fraction.{full_share}
use base.Share.{quarter, three_quarters}
use base.Stored.{Gv, Coded, coded×, coded_ℕ, coded_via}
use base.Fml.{Lft, Share, Fml, ftrue, fsep, fex, fbor, flent, flft, fshr_bor, finv, froom}
use mir.Syntax.{w64, ty_int}
use denote.Builtin.{u64}
use denote.RawPtr.{Ptr, block_of, count_of, InBlock, coded_ptr}
use Rattle.atomic_table.specs.Seated.{word, fact, seen, roster}
use Rattle.ell_arena.specs.Blocks.{block_ty, right_to_free}
use Rattle.ell_arena.specs.Words.{State, Me}

-- which words these are: how many, where they lie, and what no other words share with them: the names of the entries
-- for views and for contents, and their lifetime
pub record WordsId : Type 0 where
  pub count : ℕ
  pub base : Ptr
  pub views_name : ℕ
  pub words_name : ℕ
  pub atom : ℕ

-- that such a value can be kept in ghost state
abbrev pub words_id_coded : Coded WordsId
words_id_coded = coded_via (coded× coded_ℕ (coded× coded_ptr (coded× coded_ℕ (coded× coded_ℕ coded_ℕ))))
    (λ (z : WordsId). (z.count, (z.base, (z.views_name, (z.words_name, z.atom)))))
    (λ x y e i. record {
      count = (e i).0;
      base = (e i).1.0;
      views_name = (e i).1.1.0;
      words_name = (e i).1.1.1.0;
      atom = (e i).1.1.1.1;
    })

-- the lifetime of the words
abbrev pub age : WordsId → Lft
age z = z.atom ∷ []

-- the memory of a word at a place, by its content: room that nobody has written, or a number
abbrev pub content : ℕ → ℕ → ℕ → Fml
content b e zero = froom (ty_int w64) b e
content b e (suc n) = word b e n

-- a part of the entry that says the content of the word k
abbrev pub told : ℕ → ℕ → Share → ℕ → Fml
told ω k q y = seen coded_ℕ.code ω k q y

module _ (κ : Lft) (p : Ptr) (ω : ℕ) where
  -- what the borrow of the word k holds, where its content is y
  abbrev pub holding : ℕ → ℕ → Fml
  holding k y = fsep (content (block_of p) (k * 8 + count_of p) y) (told ω k quarter y)

  -- the same, whatever its content is
  abbrev pub held : ℕ → Fml
  held k = fex ℕ (holding k)

  -- the right to the word k, whose content is y
  abbrev pub tracked : ℕ → ℕ → Fml
  tracked k y = fsep (told ω k three_quarters y) (fbor κ (held k))

  -- what is at home at the address k
  abbrev pub home : ℕ → Option ℕ → Fml
  home k none = ftrue
  home k (some y) = tracked k y

  -- all that is at home, from the address k on
  abbrev pub shelf : ℕ → List (Option ℕ) → Fml
  shelf k [] = ftrue
  shelf k (h ∷ hs) = fsep (home k h) (shelf (suc k) hs)

  -- the words that are lent to a seat, each below the number of words
  abbrev pub carried : ℕ → List (ℕ × ℕ) → Fml
  carried count [] = ftrue
  carried count (x ∷ xs) = fsep (fact (x.0 < count)) (fsep (tracked x.0 x.1) (carried count xs))

  -- the rights to have n words back at the end of the lifetime, from the word k on
  abbrev pub owed : ℕ → ℕ → Fml
  owed k zero = ftrue
  owed k (suc n) = fsep (flent κ (held k)) (owed (suc k) n)

-- the words lie in a block that is small enough for its bytes to have addresses
abbrev pub Placed : WordsId → Type 0
Placed z = InBlock z.base × (z.count * 8 < 2 ^ 63)

module _ {V : Type 0} (c : V → Gv) (z : WordsId) where
  -- what the seat of a number owns
  abbrev pub mine : ℕ → Me V → Fml
  mine id m = fsep (seen c z.views_name id three_quarters m.0) (carried (age z) z.base z.words_name z.count m.1)

  module _ (holds : State V → Type 0) where
    -- the rule, of as many words as there are
    abbrev pub Good : State V → Type 0
    Good s = holds s × (length s.homes ≡ z.count)

    -- what the invariant has in a state
    abbrev pub standing : State V → Fml
    standing s = fsep (shelf (age z) z.base z.words_name 0 s.homes)
        (fsep (roster c z.views_name 0 s.views) (fact (Good s)))

    -- the same, whatever the state is
    abbrev pub inner : Fml
    inner = fex (State V) standing

    -- what threads share, and can have as often as they like
    abbrev pub common : Fml
    common = fsep (fact (Placed z)) (finv (fbor (age z) inner))

    -- what the owner has for the end: all words again, and the right to free their block
    abbrev pub rights : Fml
    rights = fsep (owed (age z) z.base z.words_name 0 z.count) (right_to_free (block_ty u64 z.count) z.base)

-- that the words last while they are borrowed
abbrev pub lasts : WordsId → Lft → Fml
lasts z κ = fshr_bor κ (λ q. flft (age z) q)

-- a formula of x that keeps x in sight, where `search` can match it
unfoldable pub seal : (X : Type 1) → X → (X → Fml) → Fml
seal X x F = F x

module _ {V : Type 0} (c : V → Gv) (z : WordsId) (holds : State V → Type 0) where
  -- what the words own
  abbrev pub words_own : Fml
  words_own = seal (State V → Type 0) holds
      (λ h. fsep (flft (age z) full_share) (fsep (common c z h) (rights c z h)))

  -- what a shared reference to them has
  abbrev pub words_share : Lft → Fml
  words_share κ = seal (State V → Type 0) holds (λ h. fsep (lasts z κ) (common c z h))
