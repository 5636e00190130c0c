use Rattle.std.proofs.Common.{◌≡◌, ◌≢◌, ℕ, ◌+◌, ◌-◌, ◌%◌, ◌^◌, ◌<◌, ◌≤◌, ◌==◌, ◌⊎◌, inl, inr, ◌&&◌, if◌then◌else◌, Bool, true, false, nat_lt, Option, Some, List, [], ◌∷◌, ◌++◌, length, refl, sym, ap, ap₂, ◌∙◌, subst, arith, lit<, add-one, eqb-true, eq-eqb}
use Rattle.std.specs.List.{AllPass, sum_by}
use Rattle.std.specs.Option.{option_or}
use Rattle.std.proofs.Math.Nat.{add-mod_right, mod-eq_of_lt, mod-lt}
use Rattle.std.proofs.lemmas.Bool.{le-leb, lt-ltb, cases_lt}
use Rattle.std.proofs.lemmas.List.{length-append}
use Rattle.std.proofs.lemmas.List.Elements.{All-append, All-cons, All-nil}
use Rattle.std.proofs.lemmas.List.Sums.{sum_by-append, sum_by-cons}
use Rattle.ell_tree.specs.Op.{Op}
use Rattle.ell_tree.specs.Op.TheVariants.{Delete, Find, Insert, Swap}
use Rattle.ell_tree.specs.Reply.{Reply}
use Rattle.ell_tree.specs.Reply.TheVariants.{No, Yes, Found}
use Rattle.ell_tree.specs.Meaning.{greatest_key}
use Rattle.ell_tree.specs.Machine.{shared_of}
use Rattle.ell_tree.specs.Effects.{reply_of_change}
use Rattle.ell_tree.specs.Act.{Act}
use Rattle.ell_tree.specs.Sight.{Sight}
use Rattle.ell_tree.specs.Views.{Has, earlier, latest}
use Rattle.ell_tree.specs.Models.{PassModel}
use Rattle.ell_tree.specs.Computing.{IsSum, UpdatesValue}
use Rattle.ell_tree.specs.Ledgers.{TreeModel}
use Rattle.ell_tree.specs.PassParts.{IsUnion}
use Rattle.ell_tree.specs.Promises.{MayDo}
use Rattle.shared_counter.specs.declared.adding.TheConstants.{COUNTER}
use Rattle.shared_counter.specs.Adding.{HasAdded, added_by, adds, only_swaps}

-- what a call adds, and whether it is a swap at most
abbrev pub added : Act → ℕ
added a = adds a.op a.said

abbrev pub calm : Act → Bool
calm a = only_swaps a.op a.said

-- the call that was added to a list
abbrev pub the_act : {a : Act} {l m : List Act} → l ≡ a ∷ m → Act
the_act {a} e = a

-- what is no change's answer adds nothing, and changes nothing else
leaves : (op : Op) (said : Reply) → said ≢ reply_of_change op → (adds op said ≡ 0) × (only_swaps op said ≡ true)
leaves (Find key) said h = (refl, refl)
leaves (Insert key value) Yes h = absurd (h refl)
leaves (Insert key value) No h = (refl, refl)
leaves (Insert key value) (Found there) h = (refl, refl)
leaves (Delete key) Yes h = absurd (h refl)
leaves (Delete key) No h = (refl, refl)
leaves (Delete key) (Found there) h = (refl, refl)
leaves (Swap key was value) Yes h = (refl, refl)
leaves (Swap key was value) No h = (refl, refl)
leaves (Swap key was value) (Found there) h = of (there == was) refl
  where
    of : (b : Bool) → (there == was) ≡ b
        → ((if b then (if key == COUNTER then (value + 2 ^ 64 - was) % 2 ^ 64 else 0) else 0) ≡ 0) × ((if b then nat_lt value (2 ^ 64) else true) ≡ true)
    of true e = absurd (h (ap Found (eqb-true there was e)))
    of false e = (refl, refl)

all_leave : (calls : List Act) → ((a : Act) → Has calls a → a.said ≢ reply_of_change a.op) → (sum_by added calls ≡ 0) × AllPass calm calls
all_leave [] each = (refl, All-nil (λ a. calm a ≡ true))
all_leave (a ∷ calls) each =
    let first = leaves a.op a.said (each a (latest a calls)) in
    let rest = all_leave calls (λ b h. each b (earlier b a calls h)) in
    let split = sum_by-cons added a calls in
    let none = first.0 in
    let others = rest.0 in
    (omega arith, All-cons (λ b. calm b ≡ true) a calls first.1 rest.1)

-- the values of an addition differ by its addend
sum_differs : (w was addend value : ℕ) → was < w → addend < w → value ≡ (was + addend) % w → (value + w - was) % w ≡ addend
sum_differs w was addend value few fits is = of (cases_lt (was + addend) w)
  where
    of : ((was + addend < w) ⊎ (w ≤ was + addend)) → (value + w - was) % w ≡ addend
    of (inl less) =
        let it : value ≡ was + addend = is ∙ mod-eq_of_lt less in
        let rest : value + w - was ≡ addend + w = omega arith in
        ap (λ n. n % w) rest ∙ (add-mod_right addend w ∙ mod-eq_of_lt fits)
    of (inr more) =
        let over : was + addend - w < w = omega arith in
        let whole : was + addend - w + w ≡ was + addend = omega arith in
        let it : value ≡ was + addend - w = is ∙ (ap (λ n. n % w) (sym whole) ∙ (add-mod_right (was + addend - w) w ∙ mod-eq_of_lt over)) in
        let rest : value + w - was ≡ addend = omega arith in
        ap (λ n. n % w) rest ∙ mod-eq_of_lt fits

-- what a swap of the counter from a value to its sum with an addend adds, and that it is a swap
swap_adds : (was addend value : ℕ) → was < 2 ^ 64 → addend < 2 ^ 64 → IsSum addend was value → adds (Swap COUNTER was value) (Found was) ≡ addend
swap_adds was addend value few fits is =
    ap₂ (λ (b t : Bool). if b then (if t then (value + 2 ^ 64 - was) % 2 ^ 64 else 0) else 0) (eq-eqb was was refl) (eq-eqb COUNTER COUNTER refl)
    ∙ sum_differs (2 ^ 64) was addend value few fits is

swap_calm : (was addend value : ℕ) → IsSum addend was value → only_swaps (Swap COUNTER was value) (Found was) ≡ true
swap_calm was addend value is =
    let fits : value < 2 ^ 64 = subst (λ (n : ℕ). n < 2 ^ 64) (sym is) (mod-lt (was + addend) (lit< tt)) in
    ap (λ b. if b then nat_lt value (2 ^ 64) else true) (eq-eqb was was refl) ∙ lt-ltb value (2 ^ 64) fits

-- an addition has added its addend
pub added_once : (t : TreeModel) (calls amount was addend : ℕ) (old new : PassModel) → was < 2 ^ 64 → addend < 2 ^ 64
    → UpdatesValue t COUNTER (IsSum addend) old new (Some was) → HasAdded t calls amount old → HasAdded t (calls + 1) (amount + addend) new
added_once t calls amount was addend old new few fits u h =
    let done = u.2 in
    let before = done.sees.before in
    let idle_calls = all_leave before.calls (λ a has. (before.each a has).2) in
    let a = the_act done.sees.last.mine in
    let mine : new.sight.mine ≡ a ∷ (before.calls ++ old.sight.mine) = done.sees.last.mine ∙ ap (λ (l : List Act). a ∷ l) before.mine in
    let sum : added_by new ≡ sum_by added (a ∷ (before.calls ++ old.sight.mine)) = ap (sum_by added) mine in
    let one : added a ≡ addend = swap_adds was addend u.0 few fits u.1 in
    let first = sum_by-cons added a (before.calls ++ old.sight.mine) in
    let rest = sum_by-append added before.calls old.sight.mine in
    let none = idle_calls.0 in
    let so_far = h.added in
    let long : length new.sight.mine ≡ length (before.calls ++ old.sight.mine) + 1 = ap length mine ∙ sym (add-one _) in
    let longer = length-append before.calls old.sight.mine in
    let many = h.many in
    record {
      idle = (done.own.table ∙ h.idle.0, done.idle);
      ownable = done.share.ownable ∙ h.ownable;
      many = omega arith;
      added = omega arith;
      only = subst (AllPass calm) (sym mine) (All-cons (λ b. calm b ≡ true) a _ (swap_calm was addend u.0 u.1)
          (All-append (λ b. calm b ≡ true) before.calls old.sight.mine idle_calls.1 h.only));
    }

same_or : (o p : Option (List ℕ)) → o ≡ Some [] → p ≡ Some [] → option_or o p ≡ Some []
same_or o p one other = ap₂ option_or one other

-- two passes as one have added what both have
pub added_both : (t : TreeModel) (calls a b : ℕ) (left right both : PassModel) → HasAdded t calls a left → HasAdded t calls b right
    → IsUnion left right both → HasAdded t calls (a + b) both
added_both t calls a b left right both h k u =
    let mine : both.sight.mine ≡ left.sight.mine ++ right.sight.mine = ap (λ (g : Sight). g.mine) u.sight in
    let sum = ap (sum_by added) mine ∙ sum_by-append added left.sight.mine right.sight.mine in
    let long = ap length mine in
    let longer = length-append left.sight.mine right.sight.mine in
    let many = h.many in
    let one = h.added in
    let other = k.added in
    record {
      idle = (u.own.table ∙ h.idle.0, u.idle);
      ownable = u.ownable ∙ same_or left.view.worker.shared right.view.worker.shared h.ownable k.ownable;
      many = omega arith;
      added = omega arith;
      only = subst (AllPass calm) (sym mine) (All-append (λ a. calm a ≡ true) left.sight.mine right.sight.mine h.only k.only);
    }
