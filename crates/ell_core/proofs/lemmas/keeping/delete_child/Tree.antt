use Rattle.std.proofs.Common.{◌≡◌, ◌≢◌, ℕ, inl, inr, ◌==◌, if◌then◌else◌, ◌<◌, ◌≤◌, ◌↔◌, Bool, true, false, not, refl, sym, ap, ◌∙◌, subst, arith}
use Rattle.std.proofs.Math.Bool.{not-not}
use Rattle.std.proofs.lemmas.Bool.Decides.{nat_tests}
use Rattle.ell_ops.specs.Meaning.{greatest_key}
use Rattle.ell_word.specs.Node.{IsInternal}
use Rattle.ell_layout.specs.Words.{Words, relinked}
use Rattle.ell_layout.specs.Cards.{dflag, marked, exchange_side, sibling}
use Rattle.ell_trie.specs.Ranges.{IsOrdered, goes}
use Rattle.ell_core.specs.history.Stages.{Stages, DMarked, is_delete, is_marked, delete_open, delete_waits, Born}
use Rattle.ell_core.specs.history.Invariant.{top, IsIn, IsOut, LeadsTo, LeadsToValue, IsOnCourse, delete_key, delete_side, leaf_side, IsInnerBorn, IsLeafBorn, WordsAreSound}
use Rattle.ell_core.proofs.lemmas.words.Later.{child_there, child_elsewhere}
use Rattle.ell_trie.proofs.lemmas.order.Bounds.{leaf_is_met}
use Rattle.ell_trie.proofs.lemmas.order.Removes.{Removes, stays, was_p, was_l, Spans-left, Spans-remove, IsOrdered-remove, Meets-removed, Meets-kept, gone, met_before}
use Rattle.ell_trie.specs.Tries.{IsTrie}
use Rattle.ell_trie.proofs.lemmas.Cuts.{trie_cut, course_cut}
use Rattle.ell_core.specs.tree.Flat.{opening_from}
use Rattle.ell_core.specs.tree.Rank.{rank}
use Rattle.ell_core.proofs.lemmas.words.Sides.{delete_value}

-- the words after the delete of card c has cut: its sibling stands at the grandparent in the parent's place
abbrev pub cut_words : Words → ℕ → Words
cut_words w c = relinked w (w.gp c) (delete_side w c) (sibling w c)

-- where the delete of a marked card cuts: its flag and mark stand, the parent is the grandparent's child, and leaf and
-- sibling are the parent's
pub record CutsAt (w : Words) (stage : Stages) (c : ℕ) : Type 0 where
  pub grandparent : IsInnerBorn stage (w.gp c)
  pub parent : IsInnerBorn stage (w.p c)
  pub leaf : IsLeafBorn stage (w.l c)
  pub flag : w.update (w.gp c) ≡ dflag c
  pub mark : w.update (w.p c) ≡ marked c
  pub waits : w.child (w.gp c) (delete_side w c) ≡ w.p c
  pub tagged : w.tag (w.gp c) (delete_side w c) ≡ w.expects c
  pub expected : w.expects c < c
  pub leaf_there : w.child (w.p c) (leaf_side w c) ≡ w.l c
  pub sibling_there : w.child (w.p c) (not (leaf_side w c)) ≡ sibling w c
  pub side : exchange_side w (w.gp c) (sibling w c) ≡ delete_side w c
  pub first : rank w (w.gp c) < rank w (w.p c)
  pub above : rank w (w.p c) < rank w (sibling w c)
  pub real : delete_key w c ≤ greatest_key

-- the child that is not the leaf is the one on the other side
other_child : (children : Bool → ℕ) (side : Bool) (leaf : ℕ) → children false ≢ children true → children side ≡ leaf
    → children (not side) ≡ (if children true == leaf then children false else children true)
other_child children true leaf apart h = grind (arith, nat_tests)
other_child children false leaf apart h = grind (arith, nat_tests)

-- children with keys on both sides of a number are two
two_children : (key : ℕ → ℕ) (left right middle : ℕ) → key left < middle → middle ≤ key right → left ≢ right
two_children key left right middle less more same = let e = ap key same in omega arith

-- a card that is marked and has not cut yet cuts there
pub cuts_at : (w : Words) (stage : Stages) → WordsAreSound w stage → (c : ℕ) → stage c ≡ DMarked → CutsAt w stage c
cuts_at w stage sound c at =
    let card = (sound.cards c).delete (ap is_delete at) in
    let does = sound.deletes c in
    let mark = does.marked (ap is_marked at) in
    let children = sound.children (w.p c) card.parent.inner card.parent.born in
    let apart = two_children w.key (w.child (w.p c) false) (w.child (w.p c) true) (w.key (w.p c))
    children.left_less children.right_more in
    let other = other_child (w.child (w.p c)) (leaf_side w c) (w.l c) apart mark.leaf in
    record {
      grandparent = card.grandparent;
      parent = card.parent;
      leaf = card.leaf;
      flag = does.flag (ap delete_open at);
      mark = mark.mark;
      waits = does.waits (ap delete_waits at);
      tagged = does.tagged (ap delete_waits at);
      expected = card.expected;
      leaf_there = mark.leaf;
      sibling_there = other;
      side = mark.side;
      first = card.first;
      above = subst (λ n. rank w (w.p c) < rank w n) other (children.rising (not (leaf_side w c)));
      real = card.real;
    }

-- what the exchange of the grandparent's child does to the tree: it stays in order, all that was in it but parent and leaf
-- stays, the parent goes, courses stay, and the delete's key is gone alone
pub record CutTree (w : Words) (stage : Stages) (c : ℕ) : Type 0 where
  pub ordered : IsOrdered w.key (cut_words w c).child top (rank w)
  pub trie : 0 < w.flat_from → IsTrie (Born stage) (opening_from w.flat_from) w.key (cut_words w c).child
  pub stays : (x : ℕ) → IsInternal x → x ≢ w.p c → IsIn w x → IsIn (cut_words w c) x
  pub out : IsOut (cut_words w c) (w.p c)
  pub still_out : (x : ℕ) → IsOut w x → IsOut (cut_words w c) x
  pub course : (k x : ℕ) → IsOnCourse w k x → IsOnCourse (cut_words w c) k x
  pub leads : (k value x : ℕ) → k ≢ delete_key w c → LeadsToValue (cut_words w c) k value x ↔ LeadsToValue w k value x
  pub gone : ¬ LeadsTo (cut_words w c) (delete_key w c) 0
  pub there : LeadsToValue w (delete_key w c) (delete_value w c) 0

module _ (w : Words) (stage : Stages) (c : ℕ) (at : CutsAt w stage c) (ordered : IsOrdered w.key w.child top (rank w))
    (trie : 0 < w.flat_from → IsTrie (Born stage) (opening_from w.flat_from) w.key w.child) where
  -- the children after the exchange
  abbrev after : ℕ → Bool → ℕ
  after = (cut_words w c).child

  -- the side of the sibling at the parent
  abbrev other : Bool
  other = not (leaf_side w c)

  -- the exchange cuts the parent and its leaf out
  cuts_out : Removes w.key w.child after top (w.gp c) (delete_side w c) (w.p c) other (w.l c) (sibling w c)
  cuts_out = record {
    relinks = record {
      there = child_there w (w.gp c) (sibling w c) (delete_side w c);
      others = child_elsewhere w (w.gp c) (sibling w c) (delete_side w c);
    };
    parent = at.waits;
    node = at.grandparent.inner;
    inner = at.parent.inner;
    leaf = at.leaf.outer;
    leaf_there = ap (w.child (w.p c)) (not-not (leaf_side w c)) ∙ at.leaf_there;
    other = at.sibling_there;
  }

  -- the tree stays in order
  ordered_after : IsOrdered w.key after top (rank w)
  ordered_after =
      IsOrdered-remove w.key w.child after top (w.gp c) (delete_side w c) (w.p c) other (w.l c) (sibling w c)
      cuts_out ordered

  -- the leaf is the parent's child still
  leaf_after : after (w.p c) (leaf_side w c) ≡ w.l c
  leaf_after = elim (child_elsewhere w (w.gp c) (sibling w c) (delete_side w c) (w.p c) (leaf_side w c)) [
    | inl e ↦ absurd (let a = ap (rank w) e.0 in let b = at.first in omega arith)
    | inr e ↦ e ∙ at.leaf_there
  ]

  -- what was not in the tree is not in it
  out_after : (x : ℕ) → IsOut w x → IsOut (cut_words w c) x
  out_after x h low high r =
      let before = Spans-remove w.key w.child after top (w.gp c) (delete_side w c) (w.p c) other (w.l c) (sibling w c)
      cuts_out ordered r in
      h before.a before.b before.reached

  -- what was in the tree still is, but for parent and leaf
  stays_after : (x : ℕ) → IsInternal x → x ≢ w.p c → IsIn w x → IsIn (cut_words w c) x
  stays_after x inner no_parent h =
      elim (Spans-left w.key w.child after top (w.gp c) (delete_side w c) (w.p c) other (w.l c) (sibling w c)
      cuts_out ordered h.spans) [
        | stays v ↦ record { low = v.a; high = v.b; spans = v.reached }
        | was_p e v ↦ absurd (no_parent e)
        | was_l e ↦ absurd (at.leaf.outer (subst IsInternal e inner))
      ]

  -- where the grandparent is in the tree
  module _ (alive : IsIn w (w.gp c)) where
    -- the leaf's key leads nowhere
    gone_after : ¬ LeadsTo (cut_words w c) (delete_key w c) 0
    gone_after = gone w.key w.child after top (w.gp c) (delete_side w c) (w.p c) other (w.l c) (sibling w c)
        cuts_out ordered alive.low alive.high alive.spans

    -- it did lead to the leaf, which has the value
    there_before : LeadsToValue w (delete_key w c) (delete_value w c) 0
    there_before = met_before w.key w.child after top (w.gp c) (delete_side w c) (w.p c) other (w.l c) (sibling w c)
        cuts_out ordered alive.low alive.high alive.spans refl

    -- the parent is out, for below it is the leaf
    out_of_tree : IsOut (cut_words w c) (w.p c)
    out_of_tree low high r = gone_after (leaf_is_met w.key after top ordered_after
        (goes (leaf_side w c) r at.parent.inner (sym leaf_after) refl refl) at.leaf.outer tt)

    -- what was on course stays so
    course_after : (k x : ℕ) → IsOnCourse w k x → IsOnCourse (cut_words w c) k x
    course_after k x h =
        course_cut (opening_from w.flat_from) w.key w.child after top (w.gp c) (delete_side w c) (w.p c) other (w.l c) (sibling w c)
        cuts_out ordered alive.low alive.high alive.spans k h

    -- a flat tree is a trie still
    trie_after : 0 < w.flat_from → IsTrie (Born stage) (opening_from w.flat_from) w.key after
    trie_after some = trie_cut (trie some) (record {
      relinks = cuts_out.relinks;
      was = cuts_out.parent;
      node = cuts_out.node;
      inner = cuts_out.inner;
      outer = cuts_out.leaf;
      leaf_there = cuts_out.leaf_there;
      sibling_there = cuts_out.other;
    }) at.grandparent.born

    -- every other key leads where it led
    leads_after : (k value x : ℕ) → k ≢ delete_key w c → LeadsToValue (cut_words w c) k value x ↔ LeadsToValue w k value x
    leads_after k value x apart = (
      λ h. Meets-kept w.key w.child after top (w.gp c) (delete_side w c) (w.p c) other (w.l c) (sibling w c)
          cuts_out ordered alive.low alive.high alive.spans k apart h,
      λ h. Meets-removed w.key w.child after top (w.gp c) (delete_side w c) (w.p c) other (w.l c) (sibling w c)
          cuts_out ordered k apart h,
    )

    -- so the exchange does what it owes
    cut_tree_of : CutTree w stage c
    cut_tree_of = record {
      ordered = ordered_after;
      trie = trie_after;
      stays = stays_after;
      out = out_of_tree;
      still_out = out_after;
      course = course_after;
      leads = leads_after;
      gone = gone_after;
      there = there_before;
    }

-- the child exchange of a marked card does to the tree what it owes
pub cut_tree : (w : Words) (stage : Stages) → WordsAreSound w stage → (c : ℕ) → CutsAt w stage c → CutTree w stage c
cut_tree w stage sound c at = cut_tree_of w stage c at sound.tree.ordered sound.tree.trie
    (sound.tree.there (w.gp c) at.grandparent.inner at.grandparent.born (λ d e. let flag = at.flag in omega arith))
