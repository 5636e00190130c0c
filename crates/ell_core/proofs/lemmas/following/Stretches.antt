use Rattle.std.proofs.Common.{◌≡◌, ◌%◌, ℕ, ◌<◌, ◌≤◌, ◌⊎◌, min, max, inl, inr, Bool, true, false, nat_le, refl, sym, ap, ◌∙◌, subst, arith}
use Rattle.std.proofs.lemmas.Bool.Decides.{nat_tests}
use Rattle.std.proofs.Math.Nat.{min-le_left, min-le_right, le-max_left, le-max_right}
use Rattle.std.proofs.lemmas.Bool.{cases_Bool}
use Rattle.ell_word.specs.Node.{IsInternal, card}
use Rattle.ell_core.specs.declared.event.Event.{Event}
use Rattle.ell_core.specs.declared.event.Stepped.{Stepped}
use Rattle.ell_block.specs.Blocks.{Block, half_from, half_end, InHalf}
use Rattle.ell_layout.specs.Words.{Words, has_block}
use Rattle.ell_trie.specs.Halves.{InHalfOf}
use Rattle.ell_trie.proofs.lemmas.Middles.{half_side, half_there}
use Rattle.ell_core.specs.tree.Flat.{IsInBlock}
use Rattle.ell_core.proofs.lemmas.tree.Blocks.{no_block, in_block-inner}
use Rattle.ell_core.proofs.lemmas.stages.LaterKeys.{block_later}
use Rattle.ell_core.specs.state.Machine.{Machine}
use Rattle.ell_layout.specs.Cards.{is_right}
use Rattle.ell_core.specs.acts.Events.{Steps}
use Rattle.ell_core.specs.tree.Tree.{OnWalk, here}
use Rattle.ell_core.specs.history.Stages.{Stages, Born}
use Rattle.ell_core.specs.history.Invariant.{IsOnCourse, WordsAreSound, Invariant}
use Rattle.ell_core.specs.history.Later.{WordsLater}
use Rattle.ell_core.specs.statements.Readers.{AllCome, from_of, upto_of, Narrows}
use Rattle.ell_core.proofs.lemmas.tree.Reached.{OnWalk-below, joins_walk}
use Rattle.ell_core.proofs.lemmas.stages.Order.{born-claimed}
use Rattle.ell_core.proofs.lemmas.following.Looks.{OnWalk-down, courses_go_on}

-- the keys that go to a child are among those that come to its node, and are on its side
pub from_above : (right : Bool) (low n k : ℕ) → from_of right low n ≤ k → low ≤ k
from_above true low n k h = grind (arith, nat_tests)
from_above false low n k h = h

pub upto_below : (right : Bool) (high n k : ℕ) → k < upto_of right high n → k < high
upto_below true high n k h = h
upto_below false high n k h = let l = min-le_left high n in omega arith

pub goes_side : (right : Bool) (low high n k : ℕ) → from_of right low n ≤ k → k < upto_of right high n → nat_le n k ≡ right
goes_side true low high n k a b = grind (arith, nat_tests)
goes_side false low high n k a b = let r = min-le_right high n in grind (arith, nat_tests)

pub upto_real : (right : Bool) (high n most : ℕ) → high ≤ most → upto_of right high n ≤ most
upto_real true high n most h = h
upto_real false high n most h = let l = min-le_left high n in omega arith

-- what is so of the keys of a stretch that go to a child: they are among those that come to its node, on its side and in its block
pub record GoesThere (w : Words) (x : ℕ) (right : Bool) (low high k : ℕ) : Type 0 where
  pub from : low ≤ k
  pub upto : k < high
  pub side : is_right w x k ≡ right
  pub block : IsInBlock w x k

-- in a half of a block
half_tells : (block : Block) (right : Bool) (low high k : ℕ) → max low (half_from block right) ≤ k → k < min high (half_end block right)
    → (low ≤ k) × (k < high) × InHalf block right k
half_tells block right low high k a b =
    let first = le-max_left low (half_from block right) in
    let start = le-max_right low (half_from block right) in
    let last = min-le_left high (half_end block right) in
    let end = min-le_right high (half_end block right) in
    (omega arith, omega arith, record { from = omega arith; before = omega arith })

module _ (w : Words) (x : ℕ) (right : Bool) (low high from upto : ℕ) (inner : IsInternal x) (narrows : Narrows w x right low high from upto) where
  plain_tells : has_block w.flat_from x ≡ false → (k : ℕ) → from ≤ k → k < upto → GoesThere w x right low high k
  plain_tells none k a b =
      let is = narrows.plain none in
      let first : from_of right low (w.key x) ≤ k = omega (arith, is.0) in
      let last : k < upto_of right high (w.key x) = omega (arith, is.1) in
      record {
        from = from_above right low (w.key x) k first;
        upto = upto_below right high (w.key x) k last;
        side = goes_side right low high (w.key x) k first last;
        block = no_block w x k none;
      }

  flat_tells : has_block w.flat_from x ≡ true → (k : ℕ) → from ≤ k → k < upto → GoesThere w x right low high k
  flat_tells has k a b =
      let is = narrows.flat has in
      let tells = half_tells is.block right low high k (omega (arith, is.first)) (omega (arith, is.last)) in
      let half : InHalfOf (w.key x) right k = record { block = is.block; middle = is.middle; inside = tells.2 } in
      record { from = tells.0; upto = tells.1; side = half_side half; block = in_block-inner w x k inner (half_there half) }

  pub goes_there : (k : ℕ) → from ≤ k → k < upto → GoesThere w x right low high k
  goes_there k a b = elim (cases_Bool (has_block w.flat_from x)) [ inl has ↦ flat_tells has k a b | inr none ↦ plain_tells none k a b ]

  pub narrowed_real : (most : ℕ) → high ≤ most → upto ≤ most
  narrowed_real most real = elim (cases_Bool (has_block w.flat_from x)) [
    | inl has ↦ (let is = narrows.flat has in let last = min-le_left high (half_end is.block right) in omega (arith, is.last))
    | inr none ↦ (let is = narrows.plain none in let last = upto_real right high (w.key x) most real in omega (arith, is.1))
  ]

-- what comes to a node goes to its child
pub all_come_down : (w : Words) (x low high : ℕ) (right : Bool) → IsInternal x → ((k : ℕ) → low ≤ k → k < high → is_right w x k ≡ right) → AllCome w x low high
    → AllCome w (w.child x right) low high
all_come_down w x low high right inner side come k a b =
    subst (λ s. OnWalk w k 0 (w.child x s)) (side k a b) (OnWalk-down w k inner (come k a b))

-- a node is on course for all keys of a stretch
abbrev pub AllOnCourse : Words → ℕ → ℕ → ℕ → Type 0
AllOnCourse w x low high = (key : ℕ) → low ≤ key → key < high → IsOnCourse w key x

-- after an event a node that was on course for all keys of a stretch is so still, and its child on the side of one of them is as it was, or all of
-- them come by the node now
pub record StretchGoesOn (old new : Words) (x low high key : ℕ) (right : Bool) : Type 0 where
  pub course : AllOnCourse new x low high
  pub side : is_right new x key ≡ right
  pub child : (new.child x right ≡ old.child x right) ⊎ AllCome new x low high

-- all keys of a stretch are in the block of a node
abbrev pub AllInBlock : Words → ℕ → ℕ → ℕ → Type 0
AllInBlock w x low high = (key : ℕ) → low ≤ key → key < high → IsInBlock w x key

pub stretch_goes_on : (m : Machine) (stage : Stages) (e : Event) (said : Stepped) (m' : Machine) (stages : Stages) → Invariant m stage → Steps m e said m'
    → WordsAreSound m'.words stages → WordsLater m.words m'.words → (x low high key : ℕ) (right : Bool) → IsInternal x → Born stage x → Born stages x
    → AllOnCourse m.words x low high → AllInBlock m.words x low high → low ≤ key → key < high → is_right m.words x key ≡ right → StretchGoesOn m.words m'.words x low high key right
stretch_goes_on m stage e said m' stages invariant steps sound words x low high key right inner born born' course blocks from upto side = record {
  course = goes;
  side = still;
  child = elim ((courses_go_on m stage e said m' invariant steps key x born (course key from upto)).1 inner (blocks key from upto)) [
    | inl same ↦ inl (ap (m'.words.child x) (sym still) ∙ (same ∙ ap (m.words.child x) side))
    | inr on ↦ inr (λ k a b. joins_walk m'.words sound.tree.ordered (λ z t i h. (sound.children z i h).born t) sound.tree.trie k born' (goes k a b) (here refl)
        (OnWalk-below m'.words key on) (block_later m.words m'.words stage invariant.words words x x k k refl refl born (blocks k a b)))
  ];
}
  where
    goes : AllOnCourse m'.words x low high
    goes k a b = (courses_go_on m stage e said m' invariant steps k x born (course k a b)).0

    still : is_right m'.words x key ≡ right
    still = ap (λ n. nat_le n key) (words.key x ((invariant.words.cards (card x)).claimed.0 (born-claimed (stage (card x)) (x % 4) born))) ∙ side
