use Rattle.std.proofs.Common.{◌≡◌, ◌≢◌, ℕ, ◌+◌, ◌-◌, ◌/◌, ◌%◌, ◌^◌, nat_le, ◌<◌, ◌≤◌, ◌⊎◌, inl, inr, if◌then◌else◌, Bool, true, false, Option, Some, None, IfSome, List, [], ◌∷◌, refl, sym, ap, ap₂, ◌∙◌, subst, arith}
use Rattle.std.proofs.Math.Nat.{add-mod-mod}
use Rattle.std.proofs.lemmas.Bool.{cases_lt, false≢true}
use mathlib.Core.Option.{some, some-injective}
use lib.ListN.{get_elem?}
use Rattle.std.proofs.lemmas.List.Sorted.{IsPermutation-sym}
use Rattle.ell_tree.specs.Op.{Op}
use Rattle.ell_tree.specs.Op.TheVariants.{Find, Insert}
use Rattle.ell_tree.specs.Reply.{Reply}
use Rattle.ell_tree.specs.Reply.TheVariants.{No, Yes, Found}
use Rattle.ell_tree.specs.Contents.{nothing}
use Rattle.ell_tree.specs.Meaning.{yes_if, found}
use Rattle.ell_tree.specs.Act.{Act}
use Rattle.ell_tree.specs.Views.{Has, earlier, given_share, latest, whole_share}
use Rattle.ell_tree.specs.OneThread.{IsOfOneThread}
use Rattle.ell_tree.specs.Seeing.{AreApart}
use Rattle.ell_tree.proofs.lemmas.OneThread.{at_has, has_at, has_permuted, of_each}
use Rattle.one_winner.proofs.lemmas.FirstInsert.{AreCalm, At, HasFirst, IsCalm, has_first}

-- the call that was added to a list
abbrev pub the_act : {a : Act} {l m : List Act} → l ≡ a ∷ m → Act
the_act {a} e = a

-- a call is of this operation, and was answered so
pub record Is (o : Op) (r : Reply) (a : Act) : Type 0 where
  pub op : a.op ≡ o
  pub said : a.said ≡ r

-- what a message takes of a share comes back with it
given_fits : (n : ℕ) → given_share n ≤ n
given_fits n = of (nat_le 4294967296 n)
  where
    of : (b : Bool) → (if b then n / 65536 else n / 2) ≤ n
    of true = omega arith
    of false = omega arith

pub share_told : (a b first message knows second both : ℕ) → first ≡ a - given_share a → message ≡ given_share a → knows ≡ (b + message) % 2 ^ 64
    → second ≡ knows → both ≡ (first + second) % 2 ^ 64 → (a + b) % 2 ^ 64 ≡ whole_share → both ≡ whole_share
share_told a b first message knows second both keeps gives joins finds all whole =
    let fits = given_fits a in
    let sum : a - given_share a + (b + given_share a) ≡ a + b = omega arith in
    all ∙ (ap₂ (λ (m n : ℕ). (m + n) % 2 ^ 64) keeps (finds ∙ (joins ∙ ap (λ n. (b + n) % 2 ^ 64) gives))
    ∙ (add-mod-mod (a - given_share a) (b + given_share a) (2 ^ 64) ∙ (ap (λ n. n % 2 ^ 64) sum ∙ whole)))

-- what is so of three calls is so of each
of_three : (P : Act → Type 0) (a b c : Act) → P a → P b → P c → (x : Act) → Has (a ∷ b ∷ c ∷ []) x → P x
of_three P a b c p q r = of_each P a _ p (of_each P b _ q (of_each P c _ r (λ x h. elim h [ ])))

-- answers
yes_true : (b : Bool) → yes_if b ≡ Yes → b ≡ true
yes_true true e = refl
yes_true false e = absurd cc

no_false : (b : Bool) → yes_if b ≡ No → b ≡ false
no_false true e = absurd cc
no_false false e = refl

found_some : (o : Option ℕ) (v : ℕ) → found o ≡ Found v → o ≡ Some v
found_some None v e = absurd cc
found_some (Some w) v e = let same : w ≡ v = cc in ap Some same

value_of : Op → ℕ
value_of (Insert key value) = value
value_of _ = 0

same_value : (key v w : ℕ) (op : Op) → op ≡ Insert key v → op ≡ Insert key w → v ≡ w
unfolding value_of
same_value key v w op e f = ap value_of (sym e ∙ f)

key_in : Op → ℕ
key_in (Insert key value) = key
key_in _ = 0

same_key : (k l v w : ℕ) → Insert k v ≡ Insert l w → k ≡ l
unfolding key_in
same_key k l v w e = ap key_in e

-- a call stands before the first insert of a key, or it is that, or it stands behind it
place_of : (order : List Act) (key : ℕ) (its : HasFirst key order) (j : ℕ) (x : Act) → At order j x → (j < its.place) ⊎ ((x ≡ its.first) ⊎ (its.place < j))
place_of order key its j x at = elim (cases_lt j its.place) [
  | inl before ↦ inl before
  | inr late ↦ elim (cases_lt its.place j) [
    | inl behind ↦ inr (inr behind)
    | inr early ↦ (let same : j ≡ its.place = omega arith in inr (inl (some-injective x its.first (sym at ∙ (ap (λ n. get_elem? order n) same ∙ its.at)))))
  ]
]

-- another insert says no
says_no : (order : List Act) (key : ℕ) (its : HasFirst key order) (v : ℕ) (x : Act) → Has order x → x ≢ its.first → x.op ≡ Insert key v → x.said ≡ No
says_no order key its v x has other op =
    let there = has_at order x has in
    elim (place_of order key its there.0 x there.1) [
      | inl before ↦ absurd (its.none there.0 v x before there.1 op)
      | inr rest ↦ elim rest [ inl same ↦ absurd (other same) | inr behind ↦ (its.behind there.0 x behind there.1).0 v op ]
    ]

-- a find finds nothing before the first insert, and its value behind it
finds : (order : List Act) (key : ℕ) (its : HasFirst key order) (j : ℕ) (x : Act) → At order j x → x.op ≡ Find key
    → (x.said ≡ No) ⊎ ((its.place < j) × (x.said ≡ Found its.value))
finds order key its j x at op = elim (place_of order key its j x at) [
  | inl before ↦ inl (its.before j x before at op)
  | inr rest ↦ elim rest [
    | inl same ↦ (let clash : Find key ≡ Insert key its.value = sym op ∙ (ap (λ (a : Act). a.op) same ∙ its.op) in absurd cc)
    | inr behind ↦ inr (behind, (its.behind j x behind at).1 op)
  ]
]

-- and it finds its value if it began once that insert had ended
finds_later : (mine : List Act) (h : IsOfOneThread nothing mine) (key : ℕ) (its : HasFirst key h.order) (x : Act) (there : Option ℕ) → Has h.order x
    → Is (Find key) (found there) x → its.first.end < x.begin → there ≡ Some its.value
finds_later mine h key its x there has is late =
    let at = has_at h.order x has in
    let behind = h.keeps its.place at.0 its.first x its.at at.1 late in
    found_some there its.value (sym is.said ∙ (its.behind at.0 x behind at.1).1 is.op)

-- a find is no insert
not_find : (key k v : ℕ) (x y : Act) → x.op ≡ Find key → y.op ≡ Insert k v → x ≡ y → ⊥
not_find key k v x y op other same = let clash : Find key ≡ Insert k v = sym op ∙ (ap (λ (a : Act). a.op) same ∙ other) in cc

-- one of the two was told that it added the key, and its value is found
pub record HasWinner (first second : ℕ) (one other : Bool) (there : Option ℕ) : Type 0 where
  pub differ : one ≢ other
  pub its : there ≡ Some (if one then first else second)

wins : (first second : ℕ) (one other : Bool) (there : Option ℕ) → one ≡ true → other ≡ false → there ≡ Some first → HasWinner first second one other there
wins first second one other there so not_so is = record {
  differ = λ same. false≢true (sym not_so ∙ (sym same ∙ so));
  its = is ∙ ap (λ b. Some (if b then first else second)) (sym so);
}

loses : (first second : ℕ) (one other : Bool) (there : Option ℕ) → one ≡ false → other ≡ true → there ≡ Some second → HasWinner first second one other there
loses first second one other there not_so so is = record {
  differ = λ same. false≢true (sym not_so ∙ (same ∙ so));
  its = is ∙ ap (λ b. Some (if b then first else second)) (sym not_so);
}

pub has_winner : (key first second : ℕ) (one other : Bool) (there : Option ℕ) (a b f : Act) → IsOfOneThread nothing (f ∷ a ∷ b ∷ [])
    → AreApart (f ∷ a ∷ b ∷ []) → Is (Insert key first) (yes_if one) a → Is (Insert key second) (yes_if other) b → Is (Find key) (found there) f
    → a.end < f.begin → b.end < f.begin → HasWinner first second one other there
has_winner key first second one other there a b f h apart is_a is_b is_f late later =
    let mine = f ∷ a ∷ b ∷ [] in
    let to = has_permuted mine h.order h.same in
    let back = has_permuted h.order mine (IsPermutation-sym mine h.order h.same) in
    let has_f = to f (latest f _) in
    let has_a = to a (earlier a f _ (latest a _)) in
    let has_b = to b (earlier b f _ (earlier b a _ (latest b _))) in
    let calm : AreCalm h.order = λ x has. of_three (λ y. IsCalm y.op) f a b (subst IsCalm (sym is_f.op) tt) (subst IsCalm (sym is_a.op) tt) (subst IsCalm (sym is_b.op) tt) x (back x has) in
    let its = has_first key nothing h.order refl calm h.says a first has_a is_a.op in
    let two : a ≢ b = λ same. apart.1.0 b (latest b []) (ap (λ (x : Act). x.begin) (sym same)) in
    of_three (λ x. x ≡ its.first → HasWinner first second one other there) f a b
    (λ same. absurd (not_find key key its.value f its.first is_f.op its.op same))
    (λ same.
    let so = yes_true one (sym is_a.said ∙ (ap (λ (x : Act). x.said) same ∙ its.yes)) in
    let not_so = no_false other (sym is_b.said ∙ says_no h.order key its second b has_b (λ e. two (same ∙ sym e)) is_b.op) in
    let value = same_value key its.value first a.op (ap (λ (x : Act). x.op) same ∙ its.op) is_a.op in
    let found_it = finds_later mine h key its f there has_f is_f (subst (λ (x : Act). x.end < f.begin) same late) in
    wins first second one other there so not_so (found_it ∙ ap Some value))
    (λ same.
    let so = yes_true other (sym is_b.said ∙ (ap (λ (x : Act). x.said) same ∙ its.yes)) in
    let not_so = no_false one (sym is_a.said ∙ says_no h.order key its first a has_a (λ e. two (e ∙ sym same)) is_a.op) in
    let value = same_value key its.value second b.op (ap (λ (x : Act). x.op) same ∙ its.op) is_b.op in
    let found_it = finds_later mine h key its f there has_f is_f (subst (λ (x : Act). x.end < f.begin) same later) in
    loses first second one other there not_so so (found_it ∙ ap Some value))
    its.first (back its.first (at_has h.order its.place its.first its.at)) refl

-- with the message the value is found, and without it the value or nothing; and the key was added
pub record HasTold (value : ℕ) (added : Bool) (early late : Option ℕ) : Type 0 where
  pub before : IfSome early (λ v. v ≡ value)
  pub after : late ≡ Some value
  pub yes : added ≡ true

either : (early : Option ℕ) (value : ℕ) → (found early ≡ No) ⊎ (found early ≡ Found value) → IfSome early (λ v. v ≡ value)
either None value h = tt
either (Some v) value (inl none) = absurd cc
either (Some v) value (inr it) = cc

pub has_told : (key value : ℕ) (added : Bool) (early late : Option ℕ) (a l e : Act) → IsOfOneThread nothing (a ∷ l ∷ e ∷ [])
    → Is (Insert key value) (yes_if added) a → Is (Find key) (found late) l → Is (Find key) (found early) e → a.end < l.begin
    → HasTold value added early late
has_told key value added early late a l e h is_a is_l is_e after =
    let mine = a ∷ l ∷ e ∷ [] in
    let to = has_permuted mine h.order h.same in
    let back = has_permuted h.order mine (IsPermutation-sym mine h.order h.same) in
    let calm : AreCalm h.order = λ x has. of_three (λ y. IsCalm y.op) a l e (subst IsCalm (sym is_a.op) tt) (subst IsCalm (sym is_l.op) tt) (subst IsCalm (sym is_e.op) tt) x (back x has) in
    let its = has_first key nothing h.order refl calm h.says a value (to a (latest a _)) is_a.op in
    let same : a ≡ its.first = of_three (λ x. x ≡ its.first → a ≡ its.first) a l e (λ same. same)
    (λ same. absurd (not_find key key its.value l its.first is_l.op its.op same)) (λ same. absurd (not_find key key its.value e its.first is_e.op its.op same))
    its.first (back its.first (at_has h.order its.place its.first its.at)) refl in
    let is_value = same_value key its.value value a.op (ap (λ (x : Act). x.op) same ∙ its.op) is_a.op in
    let sought = has_at h.order e (to e (earlier e a _ (earlier e l _ (latest e _)))) in
    let found_it = finds_later mine h key its l late (to l (earlier l a _ (latest l _))) is_l (subst (λ (x : Act). x.end < l.begin) same after) in
    record {
      before = either early value (elim (finds h.order key its sought.0 e sought.1 is_e.op) [
        | inl none ↦ inl (sym is_e.said ∙ none)
        | inr it ↦ inr (sym is_e.said ∙ (it.1 ∙ ap Found is_value))
      ]);
      after = found_it ∙ ap Some is_value;
      yes = yes_true added (sym is_a.said ∙ (ap (λ (x : Act). x.said) same ∙ its.yes));
    }

-- who finds the flag finds the key's value; and both were added
pub record HasFlagged (value : ℕ) (added raised : Bool) (seen there : Option ℕ) : Type 0 where
  pub so : IfSome seen (λ _. there ≡ Some value)
  pub yes : (added ≡ true) × (raised ≡ true)

on_seen : (value : ℕ) (seen there : Option ℕ) → ((v : ℕ) → found seen ≡ Found v → there ≡ Some value) → IfSome seen (λ _. there ≡ Some value)
on_seen value None there its = tt
on_seen value (Some v) there its = its v refl

pub has_flagged : (key flag value : ℕ) (added raised : Bool) (seen there : Option ℕ) (a b f l : Act) → key ≢ flag → IsOfOneThread nothing (l ∷ f ∷ b ∷ a ∷ [])
    → Is (Insert key value) (yes_if added) a → Is (Insert flag value) (yes_if raised) b → Is (Find flag) (found seen) f → Is (Find key) (found there) l
    → a.end < b.begin → f.end < l.begin → HasFlagged value added raised seen there
has_flagged key flag value added raised seen there a b f l apart h is_a is_b is_f is_l first second =
    let mine = l ∷ f ∷ b ∷ a ∷ [] in
    let to = has_permuted mine h.order h.same in
    let back = has_permuted h.order mine (IsPermutation-sym mine h.order h.same) in
    let each : (P : Act → Type 0) → P l → P f → P b → P a → (x : Act) → Has h.order x → P x =
    λ P p q r s x has. of_each P l _ p (of_three P f b a q r s) x (back x has) in
    let calm : AreCalm h.order = each (λ y. IsCalm y.op) (subst IsCalm (sym is_l.op) tt) (subst IsCalm (sym is_f.op) tt) (subst IsCalm (sym is_b.op) tt) (subst IsCalm (sym is_a.op) tt) in
    let its = has_first key nothing h.order refl calm h.says a value (to a (earlier a l _ (earlier a f _ (earlier a b _ (latest a _))))) is_a.op in
    let flags = has_first flag nothing h.order refl calm h.says b value (to b (earlier b l _ (earlier b f _ (latest b _)))) is_b.op in
    let same : a ≡ its.first = each (λ x. x ≡ its.first → a ≡ its.first)
    (λ e. absurd (not_find key key its.value l its.first is_l.op its.op e)) (λ e. absurd (not_find flag key its.value f its.first is_f.op its.op e))
    (λ e. absurd (apart (sym (same_key flag key value its.value (sym is_b.op ∙ (ap (λ (x : Act). x.op) e ∙ its.op)))))) (λ e. e)
    its.first (at_has h.order its.place its.first its.at) refl in
    let same_flag : b ≡ flags.first = each (λ x. x ≡ flags.first → b ≡ flags.first)
    (λ e. absurd (not_find key flag flags.value l flags.first is_l.op flags.op e)) (λ e. absurd (not_find flag flag flags.value f flags.first is_f.op flags.op e)) (λ e. e)
    (λ e. absurd (apart (same_key key flag value flags.value (sym is_a.op ∙ (ap (λ (x : Act). x.op) e ∙ flags.op)))))
    flags.first (at_has h.order flags.place flags.first flags.at) refl in
    let is_value = same_value key its.value value a.op (ap (λ (x : Act). x.op) same ∙ its.op) is_a.op in
    let looks = has_at h.order f (to f (earlier f l _ (latest f _))) in
    let sought = has_at h.order l (to l (latest l _)) in
    let writes = h.keeps its.place flags.place its.first flags.first its.at flags.at (subst (λ (x : Act). x.end < flags.first.begin) same (subst (λ (x : Act). a.end < x.begin) same_flag first)) in
    let reads = h.keeps looks.0 sought.0 f l looks.1 sought.1 second in
    record {
      so = on_seen value seen there (λ v is. elim (finds h.order flag flags looks.0 f looks.1 is_f.op) [
        | inl none ↦ (let clash : No ≡ Found v = sym none ∙ (is_f.said ∙ is) in absurd cc)
        | inr it ↦ (let up = it.0 in let behind : its.place < sought.0 = omega arith in
            found_some there value (sym is_l.said ∙ ((its.behind sought.0 l behind sought.1).1 is_l.op ∙ ap Found is_value)))
      ]);
      yes = (
        yes_true added (sym is_a.said ∙ (ap (λ (x : Act). x.said) same ∙ its.yes)),
        yes_true raised (sym is_b.said ∙ (ap (λ (x : Act). x.said) same_flag ∙ flags.yes)),
      );
    }
