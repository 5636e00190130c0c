use Rattle.std.proofs.Common.{◌≡◌, ℕ, false, nat_lt, Some, None, max, inl, inr, ⊎_elim, refl, sym, ap, ◌∙◌, arith}
use Rattle.ell_ops.specs.declared.op.Op.{Op}
use Rattle.ell_core.specs.declared.event.Act.TheVariants as act
use Rattle.ell_core.specs.declared.event.Stepped.{Stepped}
use Rattle.ell_core.specs.declared.event.Stepped.TheVariants.{Moved}
use Rattle.ell_core.specs.declared.put.Put.{Put}
use Rattle.ell_core.specs.declared.view.Seen.{Seen}
use Rattle.ell_layout.specs.Words.{Words, IsLeaf, is_flat}
use Rattle.ell_layout.specs.Cards.{insert_filling, put_filling, value_below}
use Rattle.ell_layout.proofs.lemmas.Puts.{put_filling-leaf, value_below-leaf}
use Rattle.ell_core.specs.state.Machine.{Scene, Worker}
use Rattle.ell_core.specs.acts.Searching.{AtCleanLeaf, AtCleanNode, MayTake, TakesPut, GivesPlace, ClaimPut, claims, put_of}
use Rattle.ell_core.specs.acts.Events.{Guard}
use Rattle.ell_core.proofs.lemmas.tree.Blocks.{no_block-plain}
use Rattle.ell_world.specs.Claims.{ClaimsAt}

-- a leaf with such a place gives it
gives_place : (w : Words) (what : Put) (leaf : ℕ) → IsLeaf leaf → TakesPut what (w.key leaf) (w.value leaf) → GivesPlace w what leaf
gives_place w what leaf outer takes = record { leaf = λ _. takes; edge = λ inner. absurd (outer inner) }

-- in a tree that is not flat a node that gives place is a leaf
pub place_is_leaf : (w : Words) (what : Put) (x : ℕ) → w.flat_from ≡ 0 → GivesPlace w what x → IsLeaf x
place_is_leaf w what x plain takes inner = (takes.edge inner).1 (no_block-plain w x what.key plain)

-- a worker at a node that is a leaf is at that leaf
at_leaf : (v : Worker) (x : ℕ) (parent : Seen) → AtCleanNode v x parent → IsLeaf x → AtCleanLeaf v x parent
at_leaf v x parent at outer =
    record { stands = at.stands; outer = outer; behind = at.behind; calm = at.calm }

-- the fields of a put's card at a leaf
put_fields : (w : Words) → w.flat_from ≡ 0 → (c k value parent leaf : ℕ) → IsLeaf leaf
    → put_filling (is_flat w) c k value (max k (w.key leaf)) parent leaf (w.key leaf) (value_below w leaf)
    ≡ insert_filling c k value parent leaf (w.key leaf) (w.value leaf)
put_fields w plain c k value parent leaf outer =
    ap (λ flat. put_filling flat c k value (max k (w.key leaf)) parent leaf (w.key leaf) (value_below w leaf)) (ap (λ n. nat_lt 0 n) plain)
    ∙ ap (put_filling false c k value (max k (w.key leaf)) parent leaf (w.key leaf)) (value_below-leaf w leaf outer)
    ∙ put_filling-leaf c k value parent leaf (w.key leaf) (w.value leaf) outer

module _ (s : Scene) (plain : s.words.flat_from ≡ 0) where
  -- in a tree that is not flat a put claims at a leaf with a place for it
  pub claims_at_leaf : (op : Op) (what : Put) (leaf : ℕ) (parent : Seen) (after : Scene) → s.worker.operation ≡ Some op
      → put_of op ≡ Some what → ClaimsAt s.worker leaf parent → TakesPut what (s.words.key leaf) (s.words.value leaf)
      → after ≡ claims s parent.tag
      (insert_filling s.words.next what.key what.value parent.node leaf (s.words.key leaf) (s.words.value leaf))
      → ClaimPut s Moved after
  claims_at_leaf op what leaf parent after busy puts at takes gives = record {
    op = op;
    what = what;
    below = leaf;
    parent = parent;
    node_key = max what.key (s.words.key leaf);
    busy = busy;
    puts = puts;
    ready = inl at.no_card;
    at = record { stands = at.at.stands; behind = at.at.behind; calm = at.at.calm };
    takes = gives_place s.words what leaf at.at.outer takes;
    fits = λ _. no_block-plain s.words parent.node what.key plain;
    named = record { greater = λ _. refl; branch = λ some _. absurd (omega (arith, plain)) };
    says = refl;
    gives = gives
        ∙ ap (claims s parent.tag) (sym (put_fields s.words plain s.words.next what.key what.value parent.node leaf at.at.outer));
  }

  -- who may take a card there has none in hand
  none_in_hand : MayTake s.words.flat_from s.worker → s.worker.card ≡ None
  none_in_hand (inl none) = none
  none_in_hand (inr aside) = let flat = aside.0 in absurd (omega (arith, plain))

  -- and there alone
  pub put_at_leaf : (said : Stepped) (after : Scene) (h : ClaimPut s said after) → ClaimsAt s.worker h.below h.parent
  put_at_leaf said after h = record {
    at = at_leaf s.worker h.below h.parent h.at (place_is_leaf s.words h.what h.below plain h.takes);
    no_card = none_in_hand h.ready;
  }

  -- so no card is claimed elsewhere
  pub no_claim : ((leaf : ℕ) (parent : Seen) → ¬ ClaimsAt s.worker leaf parent) → ¬ Guard act.Claim s
  no_claim nowhere guard = ⊎_elim
      (λ h. nowhere h.below h.parent (put_at_leaf guard.said guard.after h))
      (λ h. nowhere h.leaf h.parent (record { at = h.at; no_card = none_in_hand h.ready }))
      guard.row
