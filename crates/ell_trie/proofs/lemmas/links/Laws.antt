use Rattle.std.proofs.Common.{◌≡◌, ℕ, ◌%◌, Bool, false, inl, inr, sym, subst}
use Rattle.std.proofs.lemmas.Bool.{cases_eq}
use Rattle.ell_word.specs.Node.{IsInternal}
use Rattle.ell_trie.specs.Ranges.{IsOrdered}
use Rattle.ell_trie.proofs.lemmas.order.Bounds.{side_within}
use Rattle.ell_trie.specs.Halves.{InHalfOf, InsideOf}
use Rattle.ell_trie.specs.Ranks.{rank_of}
use Rattle.ell_trie.specs.Tries.{Opening, IsTrie}
use Rattle.ell_trie.specs.Links.{Links, InsertAbove, BornWith, InsertKeeps, LinksKeep, InsertsKeep}
use Rattle.ell_trie.proofs.lemmas.Middles.{side_half, inside_middle, branch_halves, branch_inside, apart_inside}
use Rattle.ell_trie.proofs.lemmas.Paths.{is_branch, spans_born, in_order}
use Rattle.ell_trie.proofs.lemmas.Courses.{courses_tell}
use Rattle.ell_trie.proofs.lemmas.links.Ranges.{reached_after, out_after}
use Rattle.ell_trie.proofs.lemmas.links.Order.{within_after, proper_after}
use Rattle.ell_trie.proofs.lemmas.links.Finds.{met_after, met_before, absent_before, present_after}
use Rattle.ell_trie.proofs.lemmas.links.Tries.{trie_after}
use Rattle.ell_trie.proofs.lemmas.links.Courses.{course_after}

-- the tree is in order afterwards
pub order_after : {Born : ℕ → Type 0} {o : Opening} {key : ℕ → ℕ} {child after : ℕ → Bool → ℕ} {top p : ℕ} {s : Bool} {x q : ℕ} {t : Bool} {n k : ℕ}
    (trie : IsTrie Born o key child) (link : Links Born o key child after top p s x q t n k) {rank : ℕ → ℕ} → IsOrdered key child top rank
    → IsOrdered key after top (rank_of o key)
order_after trie link ordered = in_order (trie_after trie link) (within_after trie link ordered) (proper_after trie link ordered)

-- a link keeps what inserts keep
pub link_keeps : {Born Holds : ℕ → Type 0} {o : Opening} {key : ℕ → ℕ} {child after : ℕ → Bool → ℕ} {top p : ℕ} {s : Bool} {x q : ℕ} {t : Bool} {n k : ℕ}
    (trie : IsTrie Born o key child) {rank : ℕ → ℕ} (ordered : IsOrdered key child top rank) (link : Links Born o key child after top p s x q t n k)
    → InsertKeeps Born (BornWith Born q n) Holds o key child after top n k
link_keeps {o = o} {key = key} trie ordered link =
    let now = order_after trie link ordered in record {
      trie = trie_after trie link;
      ordered = (rank_of o key, now);
      others = λ j ne z. (met_after trie link j ne, met_before trie link j ne);
      absent = absent_before trie link ordered;
      present = present_after trie link now;
      course = λ j z b c. course_after trie link j b c;
      out = out_after trie link;
    }

pub links_keep : LinksKeep
links_keep born holds o key child after top p s x q t n k trie ordered link =
    record { keeps = link_keeps trie ordered.1 link; reached = reached_after trie link }

-- an insert is a link
module _ {Born : ℕ → Type 0} {o : Opening} {key : ℕ → ℕ} {child after : ℕ → Bool → ℕ} {top p : ℕ} {s : Bool} {x q : ℕ} {t : Bool} {n k : ℕ}
    (trie : IsTrie Born o key child) {rank : ℕ → ℕ} (ordered : IsOrdered key child top rank)
    (at : InsertAbove Born o key child after top p s x q t n k) where
  born_p : Born p
  born_p = spans_born trie at.there.spans

  born_x : Born x
  born_x = subst Born at.shape.was (trie.closed p s at.shape.from born_p)

  x_half : o.holds p ≡ false → InHalfOf (key p) s (key x)
  x_half plain = elim (cases_eq (x % 4) 0) [
    | inl i ↦ inside_middle (subst (λ v. InsideOf (key v) (key p) s) at.shape.was
        (trie.inner p s at.shape.from born_p plain (subst IsInternal (sym at.shape.was) i)))
    | inr outer ↦ subst (λ v. InHalfOf (key p) s (key v)) at.shape.was
        (trie.leaf p s at.shape.from born_p plain (λ i. outer (subst IsInternal at.shape.was i)))
  ]

  pub its_link : Links Born o key child after top p s x q t n k
  its_link =
      let range = courses_tell o key child top k p at.there.low at.there.high (rank, ordered) at.course at.shape.from at.inside at.there.spans in
      let sided = side_within key child top ordered (key p) k at.there.low at.there.high s at.toward range.0 range.1 in
      let halves = branch_halves t at.parts in
      record {
        shape = at.shape;
        low = at.there.low;
        high = at.there.high;
        reached = at.there.spans;
        first = sided.0;
        last = sided.1;
        key_there = halves.0;
        old_there = λ i. apart_inside (is_branch trie x i born_x at.shape.old_plain) (at.lacks i) halves.0 halves.1;
        old_leaf_there = λ outer. halves.1;
        fits = λ plain. branch_inside t at.parts (x_half plain) (side_half (at.inside plain) at.toward);
      }

pub inserts_keep : InsertsKeep
inserts_keep born holds o key child after top p s x q t n k trie ordered at =
    links_keep born holds o key child after top p s x q t n k trie ordered (its_link trie ordered.1 at)
