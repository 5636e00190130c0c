use Rattle.std.proofs.Common.{◌≡◌, ℕ, ◌↔◌, Bool, true, inl, inr, refl, sym, subst, nat_le, arith}
use Rattle.ell_word.specs.Node.{IsInternal}
use Rattle.ell_trie.specs.Ranges.{root, FindsLeaf, at_leaf, below, here}
use Rattle.ell_trie.proofs.lemmas.order.Bounds.{below_of}
use Rattle.ell_trie.specs.Courses.{OnTrieCourse, ordinary}
use Rattle.ell_trie.specs.Truths.{StaysTrue}
use Rattle.ell_trie.specs.Readers.{TreeState, Fixed, IsGood, TreeStep, insert_above, leaf_swap, cut, none, Has, ComesTo, begins, changes, goes_on, LooksFindWhatWas}
use Rattle.ell_trie.proofs.lemmas.Courses.{course_down}
use Rattle.ell_trie.proofs.lemmas.Cuts.{cuts_keep}
use Rattle.ell_trie.proofs.lemmas.links.Courses.{course_after}
use Rattle.ell_trie.proofs.lemmas.links.Laws.{its_link}
use Rattle.ell_trie.proofs.lemmas.Swaps.{course_swap}
use Rattle.ell_trie.proofs.lemmas.Truths.{link_true, swaps_stay_true, cuts_stay_true}

module _ (f : Fixed) (seen : TreeState → Bool) (asked : ℕ → Bool) (k : ℕ) where
  -- the walk from a node, and what it does not change
  abbrev Finds : TreeState → ℕ → Type 0
  Finds s x = FindsLeaf f.key s.child (Has f asked) k x

  abbrev Course : TreeState → ℕ → Type 0
  Course s x = OnTrieCourse f.opening f.key s.child f.top k x

  abbrev Same : TreeState → TreeState → ℕ → Type 0
  Same s s' x = StaysTrue f.key s.child s'.child (Has f asked) k x

  -- what a reader who stands at a node may rely on
  pub record Stands (s : TreeState) (x : ℕ) : Type 0 where
    pub good : IsGood f s
    pub born : s.born x ≡ true
    pub course : Course s x
    pub state : TreeState
    pub among : seen state ≡ true
    pub so : Finds s x ↔ Finds state 0

  later : (s s' : TreeState) (x : ℕ) → Stands s x → seen s' ≡ true → Same s s' x → (state : TreeState) × (seen state ≡ true) × (Finds s' x ↔ Finds state 0)
  later s s' x h now (inl same) = (h.state, h.among, (λ g. h.so.0 (same.1 g), λ g. same.0 (h.so.1 g)))
  later s s' x h now (inr there) = (s', now, there)

  changed : (s s' : TreeState) (x : ℕ) → Stands s x → TreeStep f s s' → Course s' x × Same s s' x
  changed s s' x h (leaf_swap p side l c at) = (
    course_swap h.good.trie at h.good.ordered.1 k h.born h.course,
    swaps_stay_true s.born (λ z. asked (f.value z)) f.opening f.key s.child s'.child f.top p side l c h.good.trie h.good.ordered at k x h.born h.course,
  )
  changed s s' x h (insert_above p side y q t n j at) =
      let link = its_link h.good.trie h.good.ordered.1 at in
      (course_after h.good.trie link k h.born h.course, link_true h.good.trie h.good.ordered.1 link k h.born h.course)
  changed s s' x h (cut g side p t l w at in_tree) =
      let keeps = cuts_keep s.born (λ z. asked (f.value z)) f.opening f.key s.child s'.child f.top g side p t l w h.good.trie h.good.ordered at in_tree in (
        keeps.course k x h.course,
        cuts_stay_true s.born (λ z. asked (f.value z)) f.opening f.key s.child s'.child f.top g side p t l w h.good.trie h.good.ordered at in_tree k x h.born h.course,
      )
  changed s s' x h (none e) = (
    subst (λ c. OnTrieCourse f.opening f.key c f.top k x) (sym e) h.course,
    inl (λ g. subst (λ c. FindsLeaf f.key c (Has f asked) k x) (sym e) g, λ g. subst (λ c. FindsLeaf f.key c (Has f asked) k x) e g),
  )

  stands : {s : TreeState} {x : ℕ} → ComesTo f seen k s x → Stands s x
  stands (begins {state = s} {x = x} e low good among) = record {
    good = good;
    born = subst (λ v. s.born v ≡ true) (sym e) good.trie.start;
    course = ordinary (here (root e refl refl) (omega arith) low);
    state = s;
    among = among;
    so = subst (λ v. Finds s v ↔ Finds s 0) (sym e) (λ g. g, λ g. g);
  }
  stands (changes {old = s} {new = s'} {x = x} before step grows good among) =
      let h = stands before in
      let c = changed s s' x h step in
      let l = later s s' x h among c.1 in
      record { good = good; born = grows x h.born; course = c.0; state = l.0; among = l.1; so = l.2 }
  stands (goes_on {state = s} {x = x} {y = y} before inner e) =
      let h = stands before in
      record {
        good = h.good;
        born = subst (λ v. s.born v ≡ true) (sym e) (h.good.trie.closed x (nat_le (f.key x) k) inner h.born);
        course = subst (Course s) (sym e) (course_down h.good.trie h.good.ordered.1 k x h.born inner h.course);
        state = h.state;
        among = h.among;
        so = (λ g. h.so.0 (below inner e g), λ g. below_of f.key s.child f.top h.good.ordered.1 inner e (h.so.1 g));
      }

  leaf_tells : (s : TreeState) (z : ℕ) → ¬ IsInternal z → Finds s z → (f.key z ≡ k) × Has f asked z
  leaf_tells s z outer (at_leaf _ e that) = (e, that)
  leaf_tells s z outer (below i _ _) = absurd (outer i)

pub looks_find_what_was : LooksFindWhatWas
looks_find_what_was f seen asked k s z comes outer =
    let h = stands f seen asked k comes in
    record {
      state = h.state;
      among = h.among;
      so = (λ g. h.so.0 (at_leaf outer g.0 g.1), λ g. leaf_tells f seen asked k s z outer (h.so.1 g));
    }
