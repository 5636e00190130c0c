-- Each leaf that is used is a child of an internal node that is not taken out, or was taken out.
use Rattle.std.proofs.Common.{◌≡◌, ◌≢◌, ℕ, ◌%◌, ◌<◌, ◌≤◌, ◌==◌, ◌||◌, ◌&&◌, ◌++◌, nat_le, List, [], ◌∷◌, eq-eqb, if◌then◌else◌, ◌⊎◌, inl, inr, Bool, true, false, not, Some, refl, sym, ap, ◌∙◌, subst, arith, eqb-true}
use Rattle.std.proofs.lemmas.Bool.{cases_eq, cases_Bool}
use Rattle.std.proofs.lemmas.Bool.Decides.{nat_tests}
use Rattle.ell_word.specs.Node.{IsInternal, card, internal, left_leaf, right_leaf}
use Rattle.ell_core.specs.declared.exchange.Exchange.{Exchange}
use Rattle.ell_core.specs.declared.exchange.Exchange.TheVariants as exchange
use Rattle.ell_core.specs.declared.event.Act.{Act}
use Rattle.ell_core.specs.declared.event.Act.TheVariants as act
use Rattle.ell_core.specs.declared.event.Stepped.{Stepped}
use Rattle.ell_layout.specs.Words.{Words, IsLeaf, is_flat}
use Rattle.ell_layout.specs.Cards.{is_replace_card, keeps_below, stays_below, brought, sibling}
use Rattle.ell_core.specs.state.Machine.{Machine, Scene, scene, with_scene}
use Rattle.ell_core.specs.acts.Events.{Row}
use Rattle.ell_core.specs.acts.Wins.{win_for, wins_by}
use Rattle.ell_core.specs.tree.Rank.{rank}
use Rattle.ell_core.specs.history.Stages.{Stage, Stages, IFlagged, DMarked, Born, is_start, is_insert, is_delete, is_born, is_node_born, is_changed, is_cut}
use Rattle.ell_core.specs.history.Invariant.{leaf_side, insert_side, delete_side, Invariant}
use Rattle.ell_core.specs.history.Later.{Follows, wins_of}
use Rattle.ell_grace.specs.Gone.{TakesOut, OutsAreSound}
use Rattle.ell_grace.specs.Dead.{IsUnused, IsChildStill, LeavesAreKept}
use Rattle.ell_core.proofs.lemmas.words.Later.{child_there, child_elsewhere}
use Rattle.ell_core.proofs.lemmas.tree.Reached.{Spans-reached}
use Rattle.ell_core.proofs.lemmas.stages.Order.{insert-claimed, delete-claimed, changed-insert, cut-delete, one_kind, all-born, changed_nodes}
use Rattle.ell_core.proofs.lemmas.stages.Sums.{child_changes, sum_append, sum_by, sum_same, changed-sum, sum-changed}
use Rattle.ell_core.proofs.lemmas.following.Children.{row_children}
use Rattle.ell_core.proofs.lemmas.stages.Below.{goes-leaf, keeps-two, keeps-stays, keeps_later}
use Rattle.ell_core.proofs.lemmas.keeping.insert_child.Nodes.{leaf_on, child_is, its_keys, below_child}
use Rattle.ell_core.proofs.lemmas.keeping.insert_child.Card.{ichild_words, its_card, its_child, parent_in, not_born}
use Rattle.ell_core.proofs.lemmas.keeping.insert_child.IChild.{won_waiting}
use Rattle.ell_core.proofs.lemmas.keeping.delete_child.DChild.{dchild-won}
use Rattle.ell_core.proofs.lemmas.keeping.delete_child.Tree.{cut_words, CutsAt, cuts_at}
use Rattle.ell_grace.proofs.lemmas.outs.Taken.{zero_or_more, acted, takes-acted, taken_born, calm_reached, born_low}
use Rattle.ell_grace.proofs.lemmas.outs.Newly.{had_taken, only}
use Rattle.ell_grace.proofs.lemmas.outs.Inserts.{i_leaf}
use Rattle.ell_grace.proofs.lemmas.outs.Deletes.{d_nodes}
use Rattle.ell_grace.proofs.lemmas.since.Later.{takes_later}
use Rattle.ell_grace.proofs.lemmas.dead.Frames.{node_born_same, replace_same, unused_on}

-- a node that a card brought which is not of the opening tree: the card has made its child exchange
pub brought-changed : (s : Stage) (place : ℕ) → is_start s ≡ false → is_node_born s place ≡ true → is_changed s ≡ true
brought-changed s place unstarted h = grind arith

-- one side is the other, or its opposite
same_or_not : (a b : Bool) → (a ≡ b) ⊎ (a ≡ not b)
same_or_not true true = inl refl
same_or_not true false = inr refl
same_or_not false true = inr refl
same_or_not false false = inl refl

-- of a card that replaces a leaf the right leaf comes, and of others all nodes do
one_comes : (place : ℕ) (b : Bool) → b ≡ false → ((b && nat_le place 2) || (place == 2)) ≡ true → place ≡ 2
one_comes place b few h = eqb-true place 2 (sym (ap (λ c. (c && nat_le place 2) || (place == 2)) few) ∙ h)

all_come : (place : ℕ) (b : Bool) → ((b && nat_le place 2) || (place == 2)) ≡ true → place ≤ 2
all_come place b h = grind (arith, nat_tests)

-- a card that has won a child exchange has acted
acts : (s t : Stage) (won : List Exchange) (k : Exchange) → wins_of t ≡ wins_of s ++ won → won ≡ k ∷ [] → sum_by child_changes (k ∷ []) ≡ 1 → 0 < acted t
acts s t won k grows is one =
    let parts = sum_append child_changes (wins_of s) won in
    let sum = ap (sum_by child_changes) grows in
    let last = ap (sum_by child_changes) is in
    omega arith

won_one : (c : ℕ) (k : Exchange) → win_for (Some c) k c ≡ k ∷ []
won_one c k = ap (λ (b : Bool). if b then k ∷ [] else []) (eq-eqb c c refl)

-- What an act does to leaves that are used: each that was a child still is one, or is taken out; and so is each that
-- comes.
pub record NewlyKept (old : Words) (stage : Stages) (new : Words) (stages : Stages) : Type 0 where
  pub moves : (x : ℕ) → IsLeaf x → IsChildStill old stage x → IsChildStill new stages x ⊎ ((c : ℕ) × TakesOut new stages c x)
  pub comes : (x : ℕ) → IsLeaf x → Born stages x → ¬ IsUnused new stages x → acted (stage (card x)) ≡ 0 → is_changed (stages (card x)) ≡ true
      → IsChildStill new stages x ⊎ ((c : ℕ) × TakesOut new stages c x)

module _ (m : Machine) (stage : Stages) (i : ℕ) (a : Act) (said : Stepped) (becomes : Scene) (invariant : Invariant m stage)
    (row : Row a (scene m i) said becomes) (follows : Follows m stage a i said (with_scene m i becomes)) (outs : OutsAreSound m.words stage) where
  abbrev old : Words
  old = m.words

  abbrev new : Words
  new = becomes.words

  abbrev stages : Stages
  stages = follows.stages

  -- so leaves are kept
  pub kept_from : NewlyKept old stage new stages → LeavesAreKept old stage → LeavesAreKept new stages
  kept_from newly kept x unstarted outer born used = elim (zero_or_more (acted (stage (card x)))) [
    | inl zero ↦ newly.comes x outer born used zero (brought-changed (stages (card x)) (x % 4) unstarted born)
    | inr some ↦ elim (kept x (sym (follows.later.start (card x)) ∙ unstarted) outer (had some)
        (λ unused. used (unused_on old stage invariant.words new stages follows.invariant.words follows.words follows.later x unused))) [
          | inl still ↦ newly.moves x outer still
          | inr taken ↦ inr (taken.0, takes_later m stage invariant new stages follows.words follows.later taken.0 x taken.1)
        ]
  ]
    where
      had : 0 < acted (stage (card x)) → Born stage x
      had some = elim (sum-changed (stage (card x)) some) [
        | inl changed ↦ sym (node_born_same old stage invariant.words new stages follows.invariant.words follows.words follows.later (card x) (x % 4) changed) ∙ born
        | inr cuts ↦ absurd (one_kind (stages (card x)) (changed-insert (stages (card x)) (brought-changed (stages (card x)) (x % 4) unstarted born))
            (follows.later.delete (card x) (cut-delete (stage (card x)) cuts)))
      ]

  -- a child stays one where it is, if its parent is not taken out
  pub stays_child : (x : ℕ) (h : IsChildStill old stage x) → new.child h.parent h.right ≡ old.child h.parent h.right
      → ((c : ℕ) → acted (stage c) ≡ 0 → ¬ TakesOut new stages c h.parent) → IsChildStill new stages x
  stays_child x h same out = record {
    parent = h.parent;
    inner = h.inner;
    born = follows.later.born h.parent h.born;
    still = λ c takes. elim (zero_or_more (acted (stage c))) [
      | inl zero ↦ out c zero takes
      | inr some ↦ h.still c (had_taken m stage i a said becomes invariant row follows outs c h.parent some takes)
    ];
    right = h.right;
    child = same ∙ h.child;
  }

  -- where no child exchange is won
  pub quiet_kept : ((d : ℕ) → sum_by child_changes (wins_by a (m.worker i).card said d) ≡ 0) → LeavesAreKept old stage → LeavesAreKept new stages
  quiet_kept none = kept_from (record {
    moves = λ x outer h. inl (stays_child x h (row_children a (scene m i) said becomes row none h.parent h.right (born_low old stage invariant.words h.parent h.born))
        (λ c zero takes. (let some = takes-acted new stages c h.parent takes in let same = sum_same child_changes (stage c) (stages c) _ (follows.wins c) (none c) in omega arith)));
    comes = λ x outer born used zero changed.
        let some = changed-sum (stages (card x)) changed in
        let same = sum_same child_changes (stage (card x)) (stages (card x)) _ (follows.wins (card x)) (none (card x)) in
        absurd (omega arith);
  })

-- where an insert's card wins its child exchange
module _ (m : Machine) (stage : Stages) (i : ℕ) (c : ℕ) (said : Stepped) (becomes : Scene) (invariant : Invariant m stage)
    (row : Row (act.IChild c) (scene m i) said becomes) (follows : Follows m stage (act.IChild c) i said (with_scene m i becomes))
    (outs : OutsAreSound m.words stage) (flagged : stage c ≡ IFlagged) where
  i_words : becomes.words ≡ ichild_words m.words c (brought m.words c)
  i_words = ap (λ (s : Scene). s.words) (won_waiting m stage i invariant c flagged said becomes row).1

  i_wins : (d : ℕ) → wins_by (act.IChild c) (m.worker i).card said d ≡ win_for (Some c) exchange.IChild d
  i_wins d = ap (λ (t : Stepped). wins_by (act.IChild c) (m.worker i).card t d) (won_waiting m stage i invariant c flagged said becomes row).0

  i_low : c < m.words.next
  i_low = (invariant.words.cards c).claimed.0 (insert-claimed (stage c) (ap is_insert flagged))

  i_only : (d : ℕ) → acted (stage d) ≡ 0 → 0 < acted (follows.stages d) → d ≡ c
  i_only = only m stage i (act.IChild c) said becomes invariant row follows outs c exchange.IChild i_wins

  -- no internal node is taken out by that
  i_keeps : (y : ℕ) → IsInternal y → (d : ℕ) → acted (stage d) ≡ 0 → ¬ TakesOut becomes.words follows.stages d y
  i_keeps y inner d zero takes =
      let it = i_leaf m stage i c said becomes invariant row follows outs flagged d y (i_only d zero (takes-acted becomes.words follows.stages d y takes)) takes in
      goes-leaf m.words stage invariant.words c (its_card m.words stage invariant.words c flagged) it.1 (subst IsInternal (sym it.0) inner)

  -- the parent of the card was in the tree
  parent_stays : (d : ℕ) → ¬ TakesOut m.words stage d (m.words.p c)
  parent_stays d takes = outs.out d (m.words.p c) takes (Spans-reached m.words (parent_in m.words stage invariant.words c flagged).spans)

  -- the card's node has the children that it had
  its_kid : (right : Bool) → becomes.words.child (internal c) right ≡ m.words.child (internal c) right
  its_kid right = ap (λ (n : Words). n.child (internal c) right) i_words ∙ elim (child_elsewhere m.words (m.words.p c) (brought m.words c) (insert_side m.words c) (internal c) right) [
    | inl e ↦ absurd (not_born m.words stage invariant.words c flagged (m.words.p c) (omega (arith, e.0)) (its_card m.words stage invariant.words c flagged).parent.born)
    | inr e ↦ e
  ]

  -- a leaf of the card that comes and is used stands under its parent, if it replaces a leaf, or under its own node
  own_leaf_kept : (x : ℕ) → card x ≡ c → IsLeaf x → Born follows.stages x → ¬ IsUnused becomes.words follows.stages x → is_changed (follows.stages c) ≡ true
      → IsChildStill becomes.words follows.stages x
  own_leaf_kept x on outer born used changed = by (is_replace_card m.words c) refl
    where
      made : is_born (follows.stages c) ≡ not (is_replace_card becomes.words c)
      made = (follows.invariant.words.inserts c).brings changed

      same : is_replace_card becomes.words c ≡ is_replace_card m.words c
      same = replace_same m.words stage invariant.words becomes.words follows.stages follows.invariant.words follows.words follows.later c i_low

      comes : ((is_born (follows.stages c) && nat_le (x % 4) 2) || (x % 4 == 2)) ≡ true
      comes = sym (changed_nodes (follows.stages c) (x % 4) changed) ∙ subst (λ n. is_node_born (follows.stages n) (x % 4) ≡ true) on born

      by_replacing : is_replace_card m.words c ≡ true → IsChildStill becomes.words follows.stages x
      by_replacing one =
          let place = one_comes (x % 4) (is_born (follows.stages c)) (made ∙ ap not (same ∙ one)) comes in
          let is_right : right_leaf c ≡ x = at x c on place in
          record {
            parent = m.words.p c;
            inner = (its_card m.words stage invariant.words c flagged).parent.inner;
            born = follows.later.born (m.words.p c) (its_card m.words stage invariant.words c flagged).parent.born;
            still = λ d takes. elim (zero_or_more (acted (stage d))) [
              | inl zero ↦ i_keeps (m.words.p c) (its_card m.words stage invariant.words c flagged).parent.inner d zero takes
              | inr some ↦ parent_stays d (had_taken m stage i (act.IChild c) said becomes invariant row follows outs d (m.words.p c) some takes)
            ];
            right = insert_side m.words c;
            child = ap (λ (n : Words). n.child (m.words.p c) (insert_side m.words c)) i_words
                ∙ (child_there m.words (m.words.p c) (brought m.words c) (insert_side m.words c)
                ∙ (ap (λ (b : Bool). if b then right_leaf c else internal c) one ∙ is_right));
          }
        where
          at : (x c : ℕ) → card x ≡ c → x % 4 ≡ 2 → right_leaf c ≡ x
          at x c on place = omega (arith, on, place)

      -- it is the one on a side
      on_side : (two : is_replace_card m.words c ≡ false) (right : Bool) → leaf_on m.words stage invariant.words c flagged two right ≡ x → IsChildStill becomes.words follows.stages x
      on_side two right is = elim (child_is m.words stage invariant.words c flagged two right) [
        | inl e ↦ record {
          parent = internal c;
          inner = omega arith;
          born = all-born (follows.stages (card (internal c))) (internal c % 4) (omega arith) (subst (λ n. is_born (follows.stages n) ≡ true) (omega arith) (made ∙ ap not (same ∙ two)));
          still = λ d takes. elim (zero_or_more (acted (stage d))) [
            | inl zero ↦ i_keeps (internal c) (omega arith) d zero takes
            | inr some ↦ not_born m.words stage invariant.words c flagged (internal c) (omega arith)
                (taken_born m.words stage invariant.words d (internal c) (had_taken m stage i (act.IChild c) said becomes invariant row follows outs d (internal c) some takes))
          ];
          right = right;
          child = its_kid right ∙ (e ∙ is);
        }
        | inr h ↦ absurd (used (unused h.1 h.2))
      ]
        where
          -- else it has the key of the node above which the card goes
          unused : stays_below (is_flat m.words) (m.words.l c) ≡ true → m.words.key (m.words.l c) ≡ m.words.key (leaf_on m.words stage invariant.words c flagged two right) → IsUnused becomes.words follows.stages x
          unused kept key =
              let goes = follows.words.info c i_low in
              let lower = (its_card m.words stage invariant.words c flagged).lower in
              let low_x : card x < m.words.next = subst (λ n. n < m.words.next) (sym on) i_low in (
                subst (λ n. is_changed (follows.stages n) ≡ true) (sym on) changed,
                ap (keeps_below becomes.words) on ∙ (keeps_later m.words becomes.words follows.words c i_low ∙ (keeps-stays m.words c two ∙ kept)),
                outer,
                follows.words.key x low_x ∙ (ap m.words.key (sym is) ∙ (sym key ∙ (sym (follows.words.key (m.words.l c) (born_low m.words stage invariant.words (m.words.l c) lower))
                    ∙ ap becomes.words.key (sym (ap becomes.words.l on ∙ goes.l))))),
              )

      by_adding : is_replace_card m.words c ≡ false → IsChildStill becomes.words follows.stages x
      by_adding two = elim (side_of x c on outer (all_come (x % 4) (is_born (follows.stages c)) comes)) [
        | inl left ↦ on_side two false left
        | inr right ↦ on_side two true right
      ]
        where
          side_of : (x c : ℕ) → card x ≡ c → IsLeaf x → x % 4 ≤ 2 → (left_leaf c ≡ x) ⊎ (right_leaf c ≡ x)
          side_of x c on outer few = elim (cases_eq (x % 4) 2) [
            | inl e ↦ inr (omega (arith, on, e))
            | inr n ↦ elim (cases_eq (x % 4) 0) [
              | inl zero ↦ absurd (outer zero)
              | inr some ↦ inl (omega (arith, on, few))
            ]
          ]

      by : (b : Bool) → is_replace_card m.words c ≡ b → IsChildStill becomes.words follows.stages x
      by true one = by_replacing one
      by false two = by_adding two

  changed_now : is_changed (follows.stages c) ≡ true
  changed_now = elim (sum-changed (follows.stages c) (acts (stage c) (follows.stages c) _ exchange.IChild (follows.wins c) (i_wins c ∙ won_one c exchange.IChild) refl)) [
    | inl changed ↦ changed
    | inr cuts ↦ absurd (one_kind (follows.stages c) (follows.later.insert c (ap is_insert flagged)) (cut-delete (follows.stages c) cuts))
  ]

  its_own_born : is_replace_card m.words c ≡ false → Born follows.stages (internal c)
  its_own_born two = all-born (follows.stages (card (internal c))) (internal c % 4) (omega arith) (subst (λ n. is_born (follows.stages n) ≡ true) (omega arith)
      ((follows.invariant.words.inserts c).brings changed_now
      ∙ ap not (replace_same m.words stage invariant.words becomes.words follows.stages follows.invariant.words follows.words follows.later c i_low ∙ two)))

  -- the node above which it goes stands below the card's own node, if it stays
  stays_lower : keeps_below m.words c ≡ true → IsChildStill becomes.words follows.stages (m.words.l c)
  stays_lower keeps = elim (its_keys m.words stage invariant.words c flagged two) [
    | inl h ↦ at false (below_child m.words stage invariant.words c flagged two kept true h.1 h.0)
    | inr h ↦ at true (below_child m.words stage invariant.words c flagged two kept false h.0 h.1)
  ]
    where
      two : is_replace_card m.words c ≡ false
      two = keeps-two m.words c keeps

      kept : stays_below (is_flat m.words) (m.words.l c) ≡ true
      kept = sym (keeps-stays m.words c two) ∙ keeps

      at : (right : Bool) → m.words.child (internal c) right ≡ m.words.l c → IsChildStill becomes.words follows.stages (m.words.l c)
      at right is = record {
        parent = internal c;
        inner = omega arith;
        born = its_own_born two;
        still = λ d takes. elim (zero_or_more (acted (stage d))) [
          | inl zero ↦ i_keeps (internal c) (omega arith) d zero takes
          | inr some ↦ not_born m.words stage invariant.words c flagged (internal c) (omega arith)
              (taken_born m.words stage invariant.words d (internal c) (had_taken m stage i (act.IChild c) said becomes invariant row follows outs d (internal c) some takes))
        ];
        right = right;
        child = its_kid right ∙ is;
      }

  pub ichild_kept : LeavesAreKept m.words stage → LeavesAreKept becomes.words follows.stages
  ichild_kept = kept_from m stage i (act.IChild c) said becomes invariant row follows outs (record {
    moves = λ x outer h. elim (child_elsewhere m.words (m.words.p c) (brought m.words c) (insert_side m.words c) h.parent h.right) [
      | inl e ↦
          let at : m.words.l c ≡ x = sym (its_child m.words stage invariant.words c flagged)
          ∙ (ap (m.words.child (m.words.p c)) (sym e.1) ∙ (ap (λ y. m.words.child y h.right) (sym e.0) ∙ h.child)) in
          elim (cases_Bool (keeps_below m.words c)) [
            | inr goes ↦ inr (c, inl (changed_now, keeps_later m.words becomes.words follows.words c i_low ∙ goes, (follows.words.info c i_low).l ∙ at))
            | inl keeps ↦ inl (subst (IsChildStill becomes.words follows.stages) at (stays_lower keeps))
          ]
      | inr e ↦ inl (stays_child m stage i (act.IChild c) said becomes invariant row follows outs x h (ap (λ (n : Words). n.child h.parent h.right) i_words ∙ e)
          (λ d zero. i_keeps h.parent h.inner d zero))
    ];
    comes = λ x outer born used zero changed.
        let on = i_only (card x) zero (changed-sum (follows.stages (card x)) changed) in
        inl (own_leaf_kept x on outer born used (subst (λ n. is_changed (follows.stages n) ≡ true) on changed));
  })

-- where a delete's card wins its child exchange
module _ (m : Machine) (stage : Stages) (i : ℕ) (c : ℕ) (said : Stepped) (becomes : Scene) (invariant : Invariant m stage)
    (row : Row (act.DChild c) (scene m i) said becomes) (follows : Follows m stage (act.DChild c) i said (with_scene m i becomes))
    (outs : OutsAreSound m.words stage) (now : stage c ≡ DMarked) where
  d_at : CutsAt m.words stage c
  d_at = cuts_at m.words stage invariant.words c now

  d_words : becomes.words ≡ cut_words m.words c
  d_words = ap (λ (s : Scene). s.words) (dchild-won c (scene m i) stage said becomes d_at row).1

  d_wins : (d : ℕ) → wins_by (act.DChild c) (m.worker i).card said d ≡ win_for (Some c) exchange.DChild d
  d_wins d = ap (λ (t : Stepped). wins_by (act.DChild c) (m.worker i).card t d) (dchild-won c (scene m i) stage said becomes d_at row).0

  d_only : (d : ℕ) → acted (stage d) ≡ 0 → 0 < acted (follows.stages d) → d ≡ c
  d_only = only m stage i (act.DChild c) said becomes invariant row follows outs c exchange.DChild d_wins

  -- no internal node but the parent is taken out by that
  d_keeps : (y : ℕ) → IsInternal y → m.words.p c ≢ y → (d : ℕ) → acted (stage d) ≡ 0 → ¬ TakesOut becomes.words follows.stages d y
  d_keeps y inner other d zero takes = elim (d_nodes m stage i c said becomes invariant row follows outs now d y (d_only d zero (takes-acted becomes.words follows.stages d y takes)) takes) [
    | inl p ↦ other p
    | inr l ↦ d_at.leaf.outer (subst IsInternal (sym l) inner)
  ]

  -- the grandparent is in the tree
  above_stays : (d : ℕ) → ¬ TakesOut m.words stage d (m.words.gp c)
  above_stays d takes = outs.out d (m.words.gp c) takes (calm_reached m.words stage invariant.words (m.words.gp c) d_at.grandparent.inner d_at.grandparent.born
      (λ e at. let flag = d_at.flag in omega arith))

  cut_now : is_cut (follows.stages c) ≡ true
  cut_now = elim (sum-changed (follows.stages c) (acts (stage c) (follows.stages c) _ exchange.DChild (follows.wins c) (d_wins c ∙ won_one c exchange.DChild) refl)) [
    | inl changed ↦ absurd (one_kind (follows.stages c) (changed-insert (follows.stages c) changed) (follows.later.delete c (ap is_delete now)))
    | inr cuts ↦ cuts
  ]

  d_low : c < m.words.next
  d_low = (invariant.words.cards c).claimed.0 (delete-claimed (stage c) (ap is_delete now))

  -- the sibling stands under the grandparent
  sibling_kept : IsChildStill becomes.words follows.stages (sibling m.words c)
  sibling_kept = record {
    parent = m.words.gp c;
    inner = d_at.grandparent.inner;
    born = follows.later.born (m.words.gp c) d_at.grandparent.born;
    still = λ d takes. elim (zero_or_more (acted (stage d))) [
      | inl zero ↦ d_keeps (m.words.gp c) d_at.grandparent.inner (λ e. (let a = d_at.first in let r = ap (rank m.words) e in omega arith)) d zero takes
      | inr some ↦ above_stays d (had_taken m stage i (act.DChild c) said becomes invariant row follows outs d (m.words.gp c) some takes)
    ];
    right = delete_side m.words c;
    child = ap (λ (n : Words). n.child (m.words.gp c) (delete_side m.words c)) d_words ∙ child_there m.words (m.words.gp c) (sibling m.words c) (delete_side m.words c);
  }

  -- a child of the parent is the leaf, which is taken out, or the sibling
  under_parent : (x : ℕ) (right : Bool) → m.words.child (m.words.p c) right ≡ x → IsChildStill becomes.words follows.stages x ⊎ ((d : ℕ) × TakesOut becomes.words follows.stages d x)
  under_parent x right child = elim (same_or_not right (leaf_side m.words c)) [
    | inl e ↦ inr (c, inr (cut_now, inr ((follows.words.info c d_low).l ∙ (sym d_at.leaf_there ∙ (ap (m.words.child (m.words.p c)) (sym e) ∙ child)))))
    | inr e ↦ inl (subst (IsChildStill becomes.words follows.stages) (sym d_at.sibling_there ∙ (ap (m.words.child (m.words.p c)) (sym e) ∙ child)) sibling_kept)
  ]

  pub dchild_kept : LeavesAreKept m.words stage → LeavesAreKept becomes.words follows.stages
  dchild_kept = kept_from m stage i (act.DChild c) said becomes invariant row follows outs (record {
    moves = λ x outer h. elim (cases_eq h.parent (m.words.p c)) [
      | inl e ↦ under_parent x h.right (ap (λ y. m.words.child y h.right) (sym e) ∙ h.child)
      | inr n ↦ elim (child_elsewhere m.words (m.words.gp c) (sibling m.words c) (delete_side m.words c) h.parent h.right) [
        | inl e ↦ absurd (outer (subst IsInternal (sym d_at.waits ∙ (ap (m.words.child (m.words.gp c)) (sym e.1) ∙ (ap (λ y. m.words.child y h.right) (sym e.0) ∙ h.child))) d_at.parent.inner))
        | inr e ↦ inl (stays_child m stage i (act.DChild c) said becomes invariant row follows outs x h (ap (λ (n : Words). n.child h.parent h.right) d_words ∙ e)
            (λ d zero. d_keeps h.parent h.inner (λ is. n (sym is)) d zero))
      ]
    ];
    comes = λ x outer born used zero changed.
        let on = d_only (card x) zero (changed-sum (follows.stages (card x)) changed) in
        absurd (one_kind (follows.stages c) (changed-insert (follows.stages c) (subst (λ n. is_changed (follows.stages n) ≡ true) on changed))
        (follows.later.delete c (ap is_delete now)));
  })
