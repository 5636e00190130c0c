-- What a pass was answered that has seen all of a tree's history is as of one thread.
use Rattle.std.proofs.Common.{◌≡◌, ◌≢◌, ℕ, zero, suc, Option, take, ◌⊎◌, inl, inr, List, [], ◌∷◌, refl, sym, ap, ap₂, ◌∙◌, subst, arith}
use Rattle.std.specs.List.{All}
use Rattle.std.specs.List.Sorted.{IsPermutation}
use Rattle.std.proofs.lemmas.List.Elements.{All-cons, All-head, All-nil, All-tail}
use Rattle.std.proofs.lemmas.List.Sorted.{All-permutation, IsPermutation-cons, IsPermutation-middle, IsPermutation-refl, IsPermutation-sym, IsPermutation-trans}
use mathlib.Core.Option.{some, some-injective, some-ne-none}
use lib.ListN.{get_elem?}
use Rattle.ell_ops.specs.declared.op.Op.{Op}
use Rattle.ell_ops.specs.declared.reply.Reply.{Reply}
use Rattle.ell_ops.specs.Contents.{contents_of}
use Rattle.ell_ops.specs.Meaning.{final, key_of, replies}
use Rattle.ell_runs.specs.Histories.{IsCall}
use Rattle.ell_runs.specs.declared.view.Act.{Act}
use Rattle.ell_runs.specs.Linearizing.{Item, StandsIn, ops_of, replies_of}
use Rattle.ell_runs.specs.Views.{Has, latest, earlier}
use Rattle.ell_runs.specs.Seeing.{AreApart}
use Rattle.ell_tree.specs.OneThread.{StoriesAreOfOneThread, ops_by, said_by}

-- what is so of the first and of each other one is so of each
pub of_each : {A : Type 0} (P : A → Type 0) (x : A) (xs : List A) → P x → ((y : A) → Has xs y → P y) → (y : A) → Has (x ∷ xs) y → P y
of_each P x xs first rest y (latest _ _) = first
of_each P x xs first rest y (earlier _ _ _ h) = rest y h

-- a list has what stands in it
pub at_has : {A : Type 0} (xs : List A) (j : ℕ) (x : A) → get_elem? xs j ≡ some x → Has xs x
at_has [] j x e = absurd (some-ne-none x (sym e))
at_has (y ∷ ys) zero x e = subst (Has (y ∷ ys)) (some-injective y x e) (latest y ys)
at_has (y ∷ ys) (suc j) x e = earlier x y ys (at_has ys j x e)

pub has_at : {A : Type 0} (xs : List A) (x : A) → Has xs x → (j : ℕ) × (get_elem? xs j ≡ some x)
has_at [] x h = elim h [ ]
has_at (y ∷ ys) x (latest _ _) = (0, refl)
has_at (y ∷ ys) x (earlier _ _ _ h) = (let there = has_at ys x h in (suc there.0, there.1))

-- what is so of each element of a list, by its places
all_each : {A : Type 0} (P : A → Type 0) (xs : List A) → ((x : A) → Has xs x → P x) → All P xs
all_each P [] each = All-nil P
all_each P (x ∷ xs) each = All-cons P x xs (each x (latest x xs)) (all_each P xs (λ y h. each y (earlier y x xs h)))

all_has : {A : Type 0} (P : A → Type 0) (xs : List A) → All P xs → (x : A) → Has xs x → P x
all_has P [] all x h = elim h [ ]
all_has P (y ∷ ys) all x h = of_each P y ys (All-head P y ys all) (all_has P ys (All-tail P y ys all)) x h

-- a list in another order has the same elements
pub has_permuted : {A : Type 0} (xs ys : List A) → IsPermutation xs ys → (x : A) → Has xs x → Has ys x
has_permuted xs ys same =
    all_has (Has ys) xs (All-permutation (Has ys) ys xs (IsPermutation-sym xs ys same) (all_each (Has ys) ys (λ x h. h)))

-- a list without one of its calls
record Without (ys : List Act) (x : Act) : Type 0 where
  rest : List Act
  is : IsPermutation (x ∷ rest) ys
  others : (y : Act) → Has ys y → (y ≡ x) ⊎ Has rest y
  back : (y : Act) → Has rest y → Has ys y
  apart : AreApart ys → AreApart rest
  other : AreApart ys → (y : Act) → Has rest y → y.begin ≢ x.begin

without : (ys : List Act) (x : Act) → Has ys x → Without ys x
without [] x h = elim h [ ]
without (y ∷ ys) x (latest _ _) = record {
  rest = ys;
  is = IsPermutation-refl (x ∷ ys);
  others = of_each (λ z. (z ≡ x) ⊎ Has ys z) x ys (inl refl) (λ z h. inr h);
  back = λ z h. earlier z x ys h;
  apart = λ apart. apart.1;
  other = λ apart. apart.0;
}
without (y ∷ ys) x (earlier _ _ _ h) =
    let w = without ys x h in
    let one : (z : Act) → (z ≡ x) ⊎ Has w.rest z → (z ≡ x) ⊎ Has (y ∷ w.rest) z =
    λ z is. elim is [ inl same ↦ inl same | inr there ↦ inr (earlier z y w.rest there) ] in
    record {
      rest = y ∷ w.rest;
      is = IsPermutation-trans _ _ _ (IsPermutation-middle (x ∷ []) y w.rest) (IsPermutation-cons y _ _ w.is);
      others = of_each (λ z. (z ≡ x) ⊎ Has (y ∷ w.rest) z) y ys (inr (latest y w.rest)) (λ z its. one z (w.others z its));
      back = of_each (Has (y ∷ ys)) y w.rest (latest y ys) (λ z its. earlier z y ys (w.back z its));
      apart = λ apart. (λ z its. apart.0 z (w.back z its), w.apart apart.1);
      other = λ apart. of_each (λ z. z.begin ≡ x.begin → ⊥) y w.rest (λ same. apart.0 x h (sym same)) (w.other apart.1);
    }

-- two lists with the same calls, each once
permuted : (xs ys : List Act) → AreApart xs → AreApart ys → ((a : Act) → Has xs a → Has ys a) → ((a : Act) → Has ys a → Has xs a) → IsPermutation xs ys
permuted [] [] one others to from = IsPermutation-refl []
permuted [] (y ∷ ys) one others to from = absurd (elim (from y (latest y ys)) [ ])
permuted (x ∷ xs) ys one others to from =
    let w = without ys x (to x (latest x xs)) in
    let there : (a : Act) → Has xs a → (a ≡ x) ⊎ Has w.rest a → Has w.rest a =
    λ a h is. elim is [ inl same ↦ absurd (one.0 a h (ap (λ (b : Act). b.begin) same)) | inr its ↦ its ] in
    let here : (a : Act) → Has (x ∷ xs) a → Has w.rest a → Has xs a =
    of_each (λ a. Has w.rest a → Has xs a) x xs (λ its. absurd (w.other others x its refl)) (λ a h its. h) in
    IsPermutation-trans _ _ _
    (IsPermutation-cons x _ _ (permuted xs w.rest one.1 (w.apart others) (λ a h. there a h (w.others a (to a (earlier a x xs h)))) (λ a its. here a (from a (w.back a its)) its)))
    w.is

-- calls as items
abbrev item_of : Act → Item
item_of a = record { begin = a.begin; op = a.op; reply = a.said }

abbrev items : List Act → List Item
items [] = []
items (a ∷ acts) = item_of a ∷ items acts

at_items : (acts : List Act) (j : ℕ) (a : Act) → get_elem? acts j ≡ some a → StandsIn (items acts) j (item_of a)
at_items [] j a e = absurd (some-ne-none a (sym e))
at_items (b ∷ acts) zero a e = ap (λ (c : Act). some (item_of c)) (some-injective b a e)
at_items (b ∷ acts) (suc j) a e = at_items acts j a e

of_items : (acts : List Act) (x : Item) → Has (items acts) x → (a : Act) × Has acts a × (item_of a ≡ x)
of_items [] x h = elim h [ ]
of_items (b ∷ acts) x (latest _ _) = (b, latest b acts, refl)
of_items (b ∷ acts) x (earlier _ _ _ h) = (let one = of_items acts x h in (one.0, earlier one.0 b acts one.1, one.2))

ops_same : (acts : List Act) → ops_by acts ≡ ops_of (items acts)
ops_same [] = refl
ops_same (a ∷ acts) = ap (λ (l : List Op). a.op ∷ l) (ops_same acts)

ops_before : (acts : List Act) (k : ℕ) → ops_by (take k acts) ≡ ops_of (take k (items acts))
ops_before acts zero = refl
ops_before [] (suc k) = refl
ops_before (a ∷ acts) (suc k) = ap (λ (l : List Op). a.op ∷ l) (ops_before acts k)

said_same : (acts : List Act) → said_by acts ≡ replies_of (items acts)
said_same [] = refl
said_same (a ∷ acts) = ap (λ (l : List Reply). a.said ∷ l) (said_same acts)

-- items that are those of a pass's calls
record AreOf (mine : List Act) (xs : List Item) : Type 0 where
  acts : List Act
  are : items acts ≡ xs
  has : (a : Act) → Has acts a → Has mine a

are_of : (mine : List Act) (xs : List Item) → ((x : Item) → Has xs x → (a : Act) × Has mine a × (item_of a ≡ x)) → AreOf mine xs
are_of mine [] each = record { acts = []; are = refl; has = λ a h. elim h [ ] }
are_of mine (x ∷ xs) each =
    let one = each x (latest x xs) in
    let rest = are_of mine xs (λ y h. each y (earlier y x xs h)) in
    record {
      acts = one.0 ∷ rest.acts;
      are = ap₂ (λ (y : Item) (l : List Item). y ∷ l) one.2 rest.are;
      has = of_each (Has mine) one.0 rest.acts one.1 rest.has;
    }

-- calls that stand at one place where they begin together are apart
apart_of : (acts : List Act) → ((i j : ℕ) (a b : Act) → get_elem? acts i ≡ some a → get_elem? acts j ≡ some b → a.begin ≡ b.begin → i ≡ j) → AreApart acts
apart_of [] once = tt
apart_of (a ∷ acts) once = (
  λ b h same. (let there = has_at acts b h in let none = once 0 (suc there.0) a b refl there.1 (sym same) in omega arith),
  apart_of acts (λ i j b d at there same. (let e = once (suc i) (suc j) b d at there same in omega arith)),
)

-- of calls that are apart, two that begin together are one
one_call : (acts : List Act) → AreApart acts → (a b : Act) → Has acts a → Has acts b → a.begin ≡ b.begin → a ≡ b
one_call [] apart a b h k same = elim h [ ]
one_call (x ∷ xs) apart a b h k same =
    of_each (λ y. y.begin ≡ b.begin → y ≡ b) x xs
    (λ e. of_each (λ z. x.begin ≡ z.begin → x ≡ z) x xs (λ _. refl) (λ z its f. absurd (apart.0 z its (sym f))) b k e)
    (λ y its e. of_each (λ z. y.begin ≡ z.begin → y ≡ z) x xs (λ f. absurd (apart.0 y its f)) (λ z there f. one_call xs apart.1 y z its there f) b k e)
    a h same

pub stories_are_of_one_thread : StoriesAreOfOneThread
stories_are_of_one_thread plan v g story shared whole free =
    let lin = story.linear in
    let each : (x : Item) → Has lin.order x → (a : Act) × Has g.mine a × (item_of a ≡ x) =
    λ x h. (let made = story.all shared whole free x (has_at lin.order x h) in (_, made.2, refl)) in
    let all = are_of g.mine lin.order each in
    let at : (j : ℕ) (a : Act) → get_elem? all.acts j ≡ some a → StandsIn lin.order j (item_of a) =
    λ j a e. subst (λ (l : List Item). StandsIn l j (item_of a)) all.are (at_items all.acts j a e) in
    let back : (a : Act) → Has g.mine a → Has all.acts a =
    λ a has. (let there = lin.ended a.begin a.end a.op a.said a.took (story.calls a has) in
    let one = of_items all.acts (item_of a) (subst (λ (l : List Item). Has l (item_of a)) (sym all.are) (at_has lin.order there.0 (item_of a) there.1)) in
    subst (Has all.acts) (one_call g.mine story.apart one.0 a (all.has one.0 one.1) has (ap (λ (x : Item). x.begin) one.2)) one.1) in
    let apart = apart_of all.acts (λ i j a b e f same. lin.once i j (item_of a) (item_of b) (at i a e) (at j b f) same) in
    record {
      order = all.acts;
      same = permuted g.mine all.acts story.apart apart back all.has;
      says = said_same all.acts ∙ (ap replies_of all.are ∙ (lin.replies ∙ ap (replies (contents_of plan.start)) (sym (ops_same all.acts ∙ ap ops_of all.are))));
      keeps = λ i j a b e f less.
          lin.keeps i j (item_of a) (item_of b) (at i a e) (at j b f) a.end a.took (story.calls a (all.has a (at_has all.acts i a e))) less;
      takes = λ i a value e took.
          let call = story.calls a (all.has a (at_has all.acts i a e)) in
          ap (λ ops. final (contents_of plan.start) ops (key_of a.op)) (ops_before all.acts i ∙ ap (λ (l : List Item). ops_of (take i l)) all.are)
          ∙ lin.takes i (item_of a) (at i a e) a.end value (subst (λ (o : Option ℕ). IsCall g.seen a.begin a.end a.op a.said o) took call);
    }
