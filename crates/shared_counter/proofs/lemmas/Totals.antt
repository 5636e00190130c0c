use Rattle.std.proofs.Common.{◌≡◌, ℕ, suc, ◌+◌, ◌-◌, ◌%◌, ◌^◌, ◌<◌, ◌≤◌, ◌==◌, ◌⊎◌, inl, inr, if◌then◌else◌, Bool, true, false, nat_lt, Option, Some, None, is_some, unwrap_or, List, [], ◌∷◌, length, refl, sym, ap, ap₂, ◌∙◌, subst, arith, add-zero, add-one, lit<, eqb-true, eq-eqb}
use mathlib.Core.Option.{some}
use lib.ListN.{get_elem?}
use Rattle.std.specs.List.{AllPass, sum_by}
use Rattle.std.proofs.Math.Nat.{mod-add-mod, add-mod-mod, add-mod_right, mod-eq_of_lt, mod-lt}
use Rattle.std.proofs.lemmas.Bool.{false≢true, ltb-true, ne_eqb}
use Rattle.std.proofs.lemmas.List.Elements.{All-cons, All-head, All-tail}
use Rattle.std.proofs.lemmas.List.Sorted.{All-permutation, IsPermutation-sym, sum_by-IsPermutation}
use Rattle.std.proofs.lemmas.List.Sums.{sum_by-cons}
use Rattle.ell_tree.specs.Op.{Op}
use Rattle.ell_tree.specs.Op.TheVariants.{Delete, Find, Insert, Swap}
use Rattle.ell_tree.specs.Reply.{Reply}
use Rattle.ell_tree.specs.Reply.TheVariants.{No, Yes, Found}
use Rattle.ell_tree.specs.Contents.{Contents, contents_of, swapped}
use Rattle.ell_tree.specs.Meaning.{reply_of, after, replies, yes_if, found}
use Rattle.ell_tree.specs.Act.{Act}
use Rattle.ell_tree.specs.Ends.{Answers}
use Rattle.ell_tree.specs.Ledgers.{TreeModel}
use Rattle.ell_tree.specs.Views.{Has, IsFree, latest, whole_share}
use Rattle.ell_tree.specs.Models.{PassModel}
use Rattle.ell_tree.specs.OneThread.{IsOfOneThread, StoriesAreOfOneThread, ops_by, said_by}
use Rattle.ell_tree.specs.Seeing.{HasSeenAll, HasSeenMore}
use Rattle.ell_tree.proofs.lemmas.OneThread.{at_has, has_permuted, of_each}
use Rattle.ell_tree.proofs.lemmas.Sights.{ends_inside}
use Rattle.shared_counter.specs.declared.adding.TheConstants.{COUNTER}
use Rattle.shared_counter.specs.Adding.{HasAdded, IsCounter, added_by, adds, only_swaps, start_of}
use Rattle.shared_counter.proofs.lemmas.Additions.{added, calm, the_act}

-- the difference of two values of 64 bits leads from one to the other
swap_sum : (w v was value : ℕ) → v ≡ was → was < w → value < w → (v + (value + w - was) % w) % w ≡ value
swap_sum w v was value same few fits =
    let whole : v + (value + w - was) ≡ value + w = omega arith in
    add-mod-mod v (value + w - was) w ∙ (ap (λ n. n % w) whole ∙ (add-mod_right value w ∙ mod-eq_of_lt fits))

-- where the counter has a value, what adds nothing leaves it so
left_so : (v n : ℕ) (o : Option ℕ) → o ≡ Some v → v < 2 ^ 64 → n ≡ 0 → o ≡ Some ((v + n) % 2 ^ 64)
left_so v n o here few none = here ∙ ap Some (sym (ap (λ m. (v + m) % 2 ^ 64) none ∙ (ap (λ m. m % 2 ^ 64) (add-zero v) ∙ mod-eq_of_lt few)))

-- what a swap of the counter adds, by whether it finds its first value
by_swap : (v was value : ℕ) (b : Bool) → (v == was) ≡ b → v < 2 ^ 64 → (if b then nat_lt value (2 ^ 64) else true) ≡ true
    → Some (if b then value else v) ≡ Some ((v + (if b then (value + 2 ^ 64 - was) % 2 ^ 64 else 0)) % 2 ^ 64)
by_swap v was value true e few only =
    let same = eqb-true v was e in
    ap Some (sym (swap_sum (2 ^ 64) v was value same (subst (λ (n : ℕ). n < 2 ^ 64) same few) (ltb-true value (2 ^ 64) only)))
by_swap v was value false e few only = left_so v 0 (Some v) refl few refl

abbrev nothing_if : Bool → ℕ
nothing_if b = if b then 0 else 0

nothing : (b : Bool) → nothing_if b ≡ 0
nothing true = refl
nothing false = refl

-- one call adds to the counter what it has added
step : (v : ℕ) (op : Op) (said : Reply) (c : Contents) → c COUNTER ≡ Some v → v < 2 ^ 64 → said ≡ reply_of op c → only_swaps op said ≡ true
    → after op c COUNTER ≡ Some ((v + adds op said) % 2 ^ 64)
step v (Find k) said c here few is only = left_so v 0 (c COUNTER) here few refl
step v (Insert k value) said c here few is only = of (COUNTER == k)
  where
    of : (b : Bool) → (if b then Some (unwrap_or (c COUNTER) value) else c COUNTER) ≡ Some ((v + 0) % 2 ^ 64)
    of true = ap (λ o. Some (unwrap_or o value)) here ∙ left_so v 0 (Some v) refl few refl
    of false = left_so v 0 (c COUNTER) here few refl
step v (Delete k) said c here few is only = of (COUNTER == k) refl
  where
    of : (b : Bool) → (COUNTER == k) ≡ b → (if b then None else c COUNTER) ≡ Some ((v + 0) % 2 ^ 64)
    of true e =
        let yes : said ≡ Yes = is ∙ ap (λ o. yes_if (is_some o)) (ap c (sym (eqb-true COUNTER k e)) ∙ here) in
        absurd (false≢true (ap (only_swaps (Delete k)) (sym yes) ∙ only))
    of false e = left_so v 0 (c COUNTER) here few refl
step v (Swap k was value) said c here few is only = of (COUNTER == k) refl
  where
    of : (b : Bool) → (COUNTER == k) ≡ b → (if b then swapped (c COUNTER) was value else c COUNTER) ≡ Some ((v + adds (Swap k was value) said) % 2 ^ 64)
    of true e =
        let same = eqb-true COUNTER k e in
        let it : said ≡ Found v = is ∙ ap found (ap c (sym same) ∙ here) in
        let finds : (if v == was then nat_lt value (2 ^ 64) else true) ≡ true = ap (only_swaps (Swap k was value)) (sym it) ∙ only in
        let adds_it : adds (Swap k was value) said ≡ (if v == was then (value + 2 ^ 64 - was) % 2 ^ 64 else 0) =
        ap (adds (Swap k was value)) it ∙ ap (λ t. if v == was then (if t then (value + 2 ^ 64 - was) % 2 ^ 64 else 0) else 0) (eq-eqb k COUNTER (sym same)) in
        ap (λ o. swapped o was value) here ∙ (by_swap v was value (v == was) refl few finds ∙ ap (λ n. Some ((v + n) % 2 ^ 64)) (sym adds_it))
    of false e =
        let off : (k == COUNTER) ≡ false = ne_eqb k COUNTER (λ same. false≢true (sym e ∙ eq-eqb COUNTER k (sym same))) in
        left_so v (adds (Swap k was value) said) (c COUNTER) here few (none said off)
      where
        none : (said : Reply) → (k == COUNTER) ≡ false → adds (Swap k was value) said ≡ 0
        none Yes off = refl
        none No off = refl
        none (Found there) off = ap (λ t. if there == was then (if t then (value + 2 ^ 64 - was) % 2 ^ 64 else 0) else 0) off ∙ nothing (there == was)

-- a find of the counter that stands last in an order finds what it had first and what was added
reads : (v : ℕ) (c : Contents) (order : List Act) (f : Act) (there : Option ℕ) → c COUNTER ≡ Some v → v < 2 ^ 64
    → said_by order ≡ replies c (ops_by order) → AllPass calm order → f.op ≡ Find COUNTER → f.said ≡ found there → Has order f
    → ((i j : ℕ) (a : Act) → get_elem? order i ≡ some a → get_elem? order j ≡ some f → (a ≡ f) ⊎ (i < j))
    → found there ≡ Found ((v + sum_by added order) % 2 ^ 64)
reads v c [] f there here few says only op said has last = elim has [ ]
reads v c (x ∷ []) f there here few says only op said has last =
    let same : x ≡ f = of_each (λ a. x ≡ a) x [] refl (λ a h. elim h [ ]) f has in
    let is : x.said ≡ reply_of x.op c = cc in
    let its_op : x.op ≡ Find COUNTER = ap (λ (a : Act). a.op) same ∙ op in
    let its_said : x.said ≡ found there = ap (λ (a : Act). a.said) same ∙ said in
    let none : added x ≡ 0 = ap₂ adds its_op its_said in
    let split = sum_by-cons added x [] in
    let all : sum_by added (x ∷ []) ≡ 0 = omega arith in
    sym its_said ∙ (is ∙ (ap (λ o. reply_of o c) its_op ∙ (ap found here ∙ ap found (left_so v (sum_by added (x ∷ [])) (Some v) refl few all))))
reads v c (x ∷ y ∷ ys) f there here few says only op said has last =
    let is : x.said ≡ reply_of x.op c = cc in
    let rest : said_by (y ∷ ys) ≡ replies (after x.op c) (ops_by (y ∷ ys)) = cc in
    let now = (v + added x) % 2 ^ 64 in
    let later : Has (y ∷ ys) f = of_each (λ a. a ≡ f → Has (y ∷ ys) f) x (y ∷ ys)
    (λ same. elim (last 1 0 y refl (ap (λ (a : Act). some a) same)) [ inl it ↦ subst (Has (y ∷ ys)) it (latest y ys) | inr less ↦ absurd (omega arith) ])
    (λ a h same. subst (Has (y ∷ ys)) same h) f has refl in
    let h = reads now (after x.op c) (y ∷ ys) f there (step v x.op x.said c here few is (All-head (λ a. calm a ≡ true) x (y ∷ ys) only)) (mod-lt (v + added x) (lit< tt))
    rest (All-tail (λ a. calm a ≡ true) x (y ∷ ys) only) op said later
    (λ i j a at there. elim (last (suc i) (suc j) a at there) [ inl same ↦ inl same | inr less ↦ inr (omega arith) ]) in
    let split = sum_by-cons added x (y ∷ ys) in
    let all : v + added x + sum_by added (y ∷ ys) ≡ v + sum_by added (x ∷ y ∷ ys) = omega arith in
    h ∙ ap Found (mod-add-mod (v + added x) (2 ^ 64) (sum_by added (y ∷ ys)) ∙ ap (λ n. n % 2 ^ 64) all)

found_is : (there : Option ℕ) (value : ℕ) → found there ≡ Found value → there ≡ Some value
found_is None value e = absurd cc
found_is (Some v) value e = let same : v ≡ value = cc in ap Some same

-- a find that began once all other calls had ended finds what the counter had first and what they added
finds_total : (first : ℕ) (start : Contents) (ended : ℕ) (calls mine : List Act) (f : Act) (there : Option ℕ) → start COUNTER ≡ Some first
    → first < 2 ^ 64 → AllPass calm calls → ((a : Act) → Has calls a → a.end < ended) → ended ≤ f.begin → f.op ≡ Find COUNTER → f.said ≡ found there
    → mine ≡ f ∷ calls → IsOfOneThread start mine → there ≡ Some ((first + sum_by added calls) % 2 ^ 64)
finds_total first start ended calls mine f there here few only before late op said are thread =
    let h = subst (IsOfOneThread start) are thread in
    let quiet : calm f ≡ true = ap₂ only_swaps op said in
    let none : added f ≡ 0 = ap₂ adds op said in
    let all : AllPass calm h.order = All-permutation (λ a. calm a ≡ true) (f ∷ calls) h.order h.same (All-cons (λ a. calm a ≡ true) f calls quiet only) in
    let back = has_permuted h.order (f ∷ calls) (IsPermutation-sym (f ∷ calls) h.order h.same) in
    let last : (i j : ℕ) (a : Act) → get_elem? h.order i ≡ some a → get_elem? h.order j ≡ some f → (a ≡ f) ⊎ (i < j) =
    λ i j a at its. of_each (λ b. get_elem? h.order i ≡ some b → (b ≡ f) ⊎ (i < j)) f calls (λ _. inl refl)
    (λ b has e. inr (h.keeps i j b f e its (let over = before b has in omega arith))) a (back a (at_has h.order i a at)) at in
    let it = reads first start h.order f there here few h.says all op said (has_permuted (f ∷ calls) h.order h.same f (latest f calls)) last in
    let sum = sum_by-IsPermutation added (f ∷ calls) h.order h.same in
    let split = sum_by-cons added f calls in
    let same : sum_by added h.order ≡ sum_by added calls = omega arith in
    found_is there ((first + sum_by added calls) % 2 ^ 64) (it ∙ ap (λ n. Found ((first + n) % 2 ^ 64)) same)

-- what a pass knows of its tree's history once it has read it
pub record Knows (t : TreeModel) (old new : PassModel) : Type 0 where
  pub all : HasSeenAll t.plan new.view new.sight
  pub more : HasSeenMore old.sight new.sight
  pub table : new.table ≡ old.table
  pub worker : new.view.worker ≡ old.view.worker
  pub share : new.view.share ≡ old.view.share

-- the joined pass finds the sum, and has added what it had
pub record Concludes (t : TreeModel) (calls amount : ℕ) (there : Option ℕ) (p : PassModel) : Type 0 where
  pub total : there ≡ Some ((start_of t + amount) % 2 ^ 64)
  pub added : HasAdded t calls amount p
  pub whole : p.view.share ≡ whole_share

pub concludes : (t : TreeModel) (calls amount : ℕ) (p q r s : PassModel) (there : Option ℕ) → StoriesAreOfOneThread → IsCounter t → HasAdded t calls amount p
    → p.view.share ≡ whole_share → Knows t p q → Answers t (Find COUNTER) (found there) q r → Knows t r s → Concludes t calls amount there s
concludes t calls amount p q r s there law k h whole before finds after =
    let f = the_act finds.sees.mine in
    let mine : s.sight.mine ≡ f ∷ p.sight.mine = after.more.mine ∙ (finds.sees.mine ∙ ap (λ (l : List Act). f ∷ l) before.more.mine) in
    let share = after.share ∙ (finds.share.share ∙ (before.share ∙ whole)) in
    let free : IsFree s.view = ap (λ w. w.operation) after.worker ∙ finds.idle in
    let thread = law t.plan s.view s.sight after.all k.shared share free in
    let ended : (a : Act) → Has p.sight.mine a → a.end < length q.sight.seen =
    λ a has. ends_inside q.sight.seen a.begin a.end a.op a.said a.took (before.all.calls a (subst (λ (l : List Act). Has l a) (sym before.more.mine) has)) in
    let total = finds_total (start_of t) (contents_of t.plan.start) (length q.sight.seen) p.sight.mine s.sight.mine f there k.there k.fits h.only ended
    finds.sees.after refl refl mine thread in
    let none : added f ≡ 0 = refl in
    let split = sum_by-cons added f p.sight.mine in
    let sum : added_by s ≡ sum_by added (f ∷ p.sight.mine) = ap (sum_by added) mine in
    let so_far = h.added in
    let long : length s.sight.mine ≡ length p.sight.mine + 1 = ap length mine ∙ sym (add-one _) in
    let many = h.many in
    record {
      whole = share;
      total = total ∙ ap (λ n. Some ((start_of t + n) % 2 ^ 64)) h.added;
      added = record {
        idle = (after.table ∙ (finds.own.table ∙ (before.table ∙ h.idle.0)), free);
        ownable = ap (λ w. w.shared) after.worker ∙ (finds.share.ownable ∙ (ap (λ w. w.shared) before.worker ∙ h.ownable));
        many = omega arith;
        added = omega arith;
        only = subst (AllPass calm) (sym mine) (All-cons (λ a. calm a ≡ true) f p.sight.mine refl h.only);
      };
    }
