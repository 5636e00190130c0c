use Rattle.std.proofs.Common.{◌≡◌, ℕ, ◌-◌, ◌^◌, ◌<◌, if◌then◌else◌, true, Some, None, unwrap_or, List, [], refl, sym, ap, ap₂, ◌∙◌, subst, arith, eq-eqb}
use Rattle.std.specs.List.{AllPass, sum_by}
use Rattle.std.proofs.lemmas.List.Elements.{All-nil}
use Rattle.ell_tree.specs.Act.{Act}
use Rattle.ell_tree.specs.Changes.{ownable_if}
use Rattle.ell_tree.specs.Contents.{contents_of}
use Rattle.ell_tree.specs.Ledgers.{IsIdlePassOf, TreeModel}
use Rattle.ell_tree.specs.Models.{PassModel}
use Rattle.ell_tree.specs.Views.{given_share, whole_share}
use Rattle.ell_tree.specs.PassParts.{IsFirst, IsLeftPart, IsRightPart}
use Rattle.ell_tree.specs.Sight.{Sight}
use Rattle.shared_counter.specs.declared.adding.TheConstants.{COUNTER}
use Rattle.shared_counter.specs.Adding.{AreNew, HasAdded, IsCounter, StartsWith, joined_share, start_of}
use Rattle.shared_counter.proofs.lemmas.Additions.{added, calm}

-- the tree has the counter
pub is_counter : (value : ℕ) (t : TreeModel) → StartsWith value t → value < 2 ^ 64 → IsCounter t × (start_of t ≡ value)
is_counter value t s few =
    let here : contents_of t.plan.start COUNTER ≡ Some value =
    ap (λ (pairs : List (ℕ × ℕ)). contents_of pairs COUNTER) s.start ∙ ap (λ b. if b then Some value else None) (eq-eqb COUNTER COUNTER refl) in
    let is : start_of t ≡ value = ap (λ o. unwrap_or o 0) here in
    (record { there = here ∙ ap Some (sym is); fits = subst (λ (n : ℕ). n < 2 ^ 64) (sym is) few; shared = s.shared }, is)

-- a pass has made no call
abbrev IsFresh : TreeModel → PassModel → Type 0
IsFresh t p = IsIdlePassOf t p × (p.view.worker.shared ≡ Some []) × (p.sight.mine ≡ [])

fresh_left : (t : TreeModel) (p part : PassModel) → IsFresh t p → IsLeftPart [] p part → IsFresh t part
fresh_left t p part f l = ((l.own.table ∙ f.0.0, l.idle), l.ownable ∙ f.1, ap (λ (g : Sight). g.mine) l.sight ∙ f.2)

fresh_right : (t : TreeModel) (p part : PassModel) → IsFresh t p → IsRightPart [] p part → IsFresh t part
fresh_right t p part f r = ((r.own.table ∙ f.0.0, r.idle), r.ownable ∙ f.1, ap (λ (g : Sight). g.mine) r.sight)

none_added : (t : TreeModel) (p : PassModel) → IsFresh t p → HasAdded t 0 0 p
none_added t p f = record {
  idle = f.0;
  ownable = f.1;
  many = omega arith;
  added = ap (sum_by added) f.2;
  only = subst (AllPass calm) (sym f.2) (All-nil (λ (a : Act). calm a ≡ true));
}

-- four parts have the whole share
shares : (p l r a b c d : ℕ) → p ≡ whole_share → l ≡ p - given_share p → r ≡ given_share p → a ≡ l - given_share l → b ≡ given_share l
    → c ≡ r - given_share r → d ≡ given_share r → joined_share (joined_share a b) (joined_share c d) ≡ whole_share
shares p l r a b c d is left right one two three four =
    let kept : ℕ → ℕ = λ n. n - given_share n in
    let l_is = left ∙ ap kept is in
    let r_is = right ∙ ap given_share is in
    ap₂ joined_share (ap₂ joined_share (one ∙ ap kept l_is) (two ∙ ap given_share l_is)) (ap₂ joined_share (three ∙ ap kept r_is) (four ∙ ap given_share r_is))

pub are_new : (value : ℕ) (t : TreeModel) (p l r a b c d : PassModel) → StartsWith value t → IsFirst t p → IsLeftPart [] p l → IsRightPart [] p r
    → IsLeftPart [] l a → IsRightPart [] l b → IsLeftPart [] r c → IsRightPart [] r d → AreNew t ((a, b), (c, d))
are_new value t p l r a b c d s f left right one two three four =
    let first : IsFresh t p = ((f.own, f.idle), f.ownable ∙ ap₂ ownable_if s.shared s.keys, ap (λ (g : Sight). g.mine) f.sight) in
    let on_left = fresh_left t p l first left in
    let on_right = fresh_right t p r first right in
    record {
      first = none_added t a (fresh_left t l a on_left one);
      second = none_added t b (fresh_right t l b on_left two);
      third = none_added t c (fresh_left t r c on_right three);
      fourth = none_added t d (fresh_right t r d on_right four);
      whole = shares p.view.share l.view.share r.view.share a.view.share b.view.share c.view.share d.view.share
          f.share left.share right.share one.share two.share three.share four.share;
    }
