-- Nodes that never come, or that the card in hand has taken out, by what is shown of what a pass knows.
use Rattle.std.proofs.Common.{◌≡◌, ℕ, ◌+◌, ◌*◌, ◌%◌, inl, inr, subst, Some, arith}
use Rattle.ell_layout.specs.declared.field.Field.TheVariants as field
use Rattle.ell_cards.specs.declared.card_nodes.CardNodes.{CardNodes}
use Rattle.ell_runs.specs.declared.view.Told.TheVariants.{Info, Met}
use Rattle.ell_runs.specs.declared.view.View.{View}
use Rattle.ell_cards.specs.Apart.{cut_node}
use Rattle.ell_runs.specs.Met.{NamesMet}
use Rattle.ell_cards.specs.RetiringInSlots.{KnowsDeadNodes, NeverCome}
use Rattle.ell_runs.specs.Dead.{HasTakenOut, KnowsReplaced, KnowsUnused, KnowsNeverComes}
use Rattle.ell_runs.specs.Views.{IsTold}
use Rattle.ell_cards.specs.Shown.{shown}
use Rattle.ell_runs.specs.Touching.{KnowsOneKey, KnowsTakenOut}
use Rattle.ell_cards.proofs.lemmas.shown.ShownTold.{was_info}

-- a node's low bits say at which place of its card it stands
pub place_whole : (y x : ℕ) → cut_node y ≡ x → x % 4 ≡ y % 4
place_whole y x is = omega arith

module _ (v : View) where
  one_key_whole : (c : ℕ) → KnowsOneKey (shown v) c → KnowsOneKey v c
  one_key_whole c h =
      let left = was_info v.told c field.LeftLeafKey h.key h.left in
      let right = was_info v.told c field.RightLeafKey h.key h.right in record {
        key = h.key;
        left = subst (λ k. IsTold v (Info c field.LeftLeafKey k)) left.is left.has;
        right = subst (λ k. IsTold v (Info c field.RightLeafKey k)) right.is right.has;
      }

  replaced_whole : (c x : ℕ) → KnowsReplaced (shown v) c x → KnowsReplaced v c x
  replaced_whole c x h = record { same = one_key_whole c h.same; other = h.other }

  unused_whole : (c x : ℕ) → KnowsUnused (shown v) c x → KnowsUnused v c x
  unused_whole c x h =
      record {
        op = h.op;
        key = h.key;
        busy = h.busy;
        holds = h.holds;
        flagged = h.flagged;
        told = elim h.told [
          | inl left ↦ inl (left.0, (let was = was_info v.told c field.LeftLeafKey h.key left.1 in subst (λ k. IsTold v (Info c field.LeftLeafKey k)) was.is was.has))
          | inr right ↦ inr (right.0, (let was = was_info v.told c field.RightLeafKey h.key right.1 in subst (λ k. IsTold v (Info c field.RightLeafKey k)) was.is was.has))
        ];
        other = h.other;
      }

  -- what never comes by what is shown never comes by what is known
  never_comes_whole : (c x : ℕ) → KnowsNeverComes (shown v) c x → KnowsNeverComes v c x
  never_comes_whole c x h = (
    h.0,
    elim h.1 [
      | inl ended ↦ inl ended
      | inr over ↦ inr (
        over.0,
        elim over.1 [
          | inl replaced ↦ inl (replaced_whole c x replaced)
          | inr unused ↦ inr (unused_whole c x unused)
        ],
      )
    ],
  )

  pub nodes_never_come : (c : ℕ) (nodes : CardNodes) → NeverCome (shown v) c nodes → KnowsDeadNodes v c nodes
  nodes_never_come c nodes never i is = (c, inr (never_comes_whole c (4 * c + i) (never i is)))

-- a node that the card in hand has taken out, and that was met, of which these are the low bits
pub record WasTakenOut (v : View) (x : ℕ) : Type 0 where
  pub whole : ℕ
  pub is : cut_node whole ≡ x
  pub met : IsTold v (Met whole)
  pub taker : ℕ
  pub holds : v.worker.card ≡ Some taker
  pub knows : KnowsTakenOut v taker whole

pub taken_out_whole : (v : View) → NamesMet v → (x : ℕ) → HasTakenOut (shown v) x → WasTakenOut v x
taken_out_whole v names x (c, holds, inl h) =
    let was = was_info v.told c field.L x h.2 in record {
      whole = was.whole;
      is = was.is;
      met = names.leaf c was.whole holds was.has;
      taker = c;
      holds = holds;
      knows = inl (h.0, one_key_whole v c h.1, was.has);
    }
taken_out_whole v names x (c, holds, inr (over, inl told)) =
    let was = was_info v.told c field.P x told in record {
      whole = was.whole;
      is = was.is;
      met = names.entries (Info c field.P was.whole) was.has;
      taker = c;
      holds = holds;
      knows = inr (over, inl was.has);
    }
taken_out_whole v names x (c, holds, inr (over, inr told)) =
    let was = was_info v.told c field.L x told in record {
      whole = was.whole;
      is = was.is;
      met = names.leaf c was.whole holds was.has;
      taker = c;
      holds = holds;
      knows = inr (over, inr was.has);
    }
