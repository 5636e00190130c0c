-- What a call asks of what is known by names is so of what is known: answers, looks, and the taking of cards.
use Rattle.std.proofs.Common.{◌≡◌, ℕ, ◌≤◌, Bool, Option, Some, None, IfSome, refl, sym, ap, ◌∙◌, subst, inl, inr}
use Rattle.ell_ops.specs.declared.op.Op.{Op}
use Rattle.ell_ops.specs.declared.op.Op.TheVariants.{Find, Insert, Delete, Swap}
use Rattle.ell_ops.specs.declared.reply.Reply.{Reply}
use Rattle.ell_layout.specs.declared.field.Field.{Field}
use Rattle.ell_layout.specs.declared.field.Field.TheVariants as field
use Rattle.ell_layout.specs.Words.{has_block}
use Rattle.ell_core.specs.declared.fact.Fact.TheVariants as fact
use Rattle.ell_core.specs.declared.view.Seen.{Seen}
use Rattle.ell_core.specs.acts.Searching.{MayStop}
use Rattle.ell_core.specs.state.Machine.{worker_of}
use Rattle.ell_runs.specs.declared.call.Call.TheVariants as call
use Rattle.ell_runs.specs.declared.call.NewNode.{NewNode}
use Rattle.ell_runs.specs.declared.glance.Glance.{Glance}
use Rattle.ell_runs.specs.declared.glance.Stretch.{Stretch}
use Rattle.ell_runs.specs.declared.view.Told.TheVariants.{Met, Info}
use Rattle.ell_runs.specs.declared.view.View.{View}
use Rattle.ell_runs.specs.Views.{HasCome, HasComeWhole, IsTold, Knows, KnowsDelete}
use Rattle.ell_runs.specs.Guards.{CardIsOver, KnowsAnswerByCard, KnowsAnswerAtLeaf, KnowsSaying, KnowsWhere, MayAnswer, MayAsk, MayClaim, MayLookDown, TakesBy, TellsOf, Wants}
use Rattle.ell_runs.specs.Calls.{after}
use Rattle.ell_runs.specs.Named.{IsNaming, named_node, named_seen, named_glance, named}
use Rattle.ell_runs.specs.NamedTakings.{MayTakeCard, BlocksAreNamed}
use Rattle.ell_runs.proofs.lemmas.named.NamedOrigins.{was_there, was_some, was_none, knows_whole, inner_whole, inner_by_name, outer_whole, outer_by_name, clean_whole, was_met, key_told, value_told, was_said}
use Rattle.ell_runs.proofs.lemmas.named.NamedWords.{same_named}

module _ (name : ℕ → ℕ) (naming : IsNaming name) (v : View) where
  -- again and leave: the flag of the card in hand, if it is set, is known to be taken away
  pub stop_whole : MayStop (worker_of (named name v).worker) → MayStop (worker_of v.worker)
  stop_whole may = record {
    op = may.op;
    busy = may.busy;
    backed = λ c holds flagged. knows_whole name naming v (fact.Backed c) (may.backed (name c) (ap_some c holds) flagged);
  }
    where
      ap_some : (c : ℕ) → v.worker.card ≡ Some c → (named name v).worker.card ≡ Some (name c)
      ap_some c holds = by v.worker.card holds
        where
          by : (o : Option ℕ) → o ≡ Some c → (named name (record v { worker = record (v.worker) { card = o } })).worker.card ≡ Some (name c)
          by None e = absurd cc
          by (Some d) e = (let same : d ≡ c = cc in ap (λ x. Some (name x)) same)

  -- answer, at a leaf
  tells_whole : (leaf y key k : ℕ) (there : Option ℕ) → named_node name leaf ≡ y → TellsOf (named name v) y key k there → TellsOf v leaf key k there
  tells_whole leaf y key k None is h = h
  tells_whole leaf y key k (Some value) is h = (h.0, value_told name naming v leaf y value is h.1)

  leaf_whole : (op : Op) (said : Reply) → KnowsAnswerAtLeaf (named name v) op said → KnowsAnswerAtLeaf v op said
  leaf_whole op said h =
      let at = was_some (named_node name) v.worker.search.node h.leaf h.stands in record {
        leaf = at.whole;
        key = h.key;
        there = h.there;
        stands = at.has;
        outer = outer_whole name naming at.whole h.leaf at.is h.outer;
        told = h.told;
        tells = tells_whole at.whole h.leaf h.key _ h.there at.is h.tells;
        says = h.says;
      }

  -- or by the card in hand
  over_whole : (op : Op) (c d : ℕ) → name c ≡ d → CardIsOver (named name v) op d → CardIsOver v op c
  over_whole (Find k) c d is h = h
  over_whole (Insert k value) c d is h = knows_whole name naming v (fact.IOver c) (subst (λ e. Knows (named name v) (fact.IOver e)) (sym is) h)
  over_whole (Delete k) c d is h = knows_whole name naming v (fact.DOver c) (subst (λ e. Knows (named name v) (fact.DOver e)) (sym is) h)
  over_whole (Swap k was value) c d is h = knows_whole name naming v (fact.IOver c) (subst (λ e. Knows (named name v) (fact.IOver e)) (sym is) h)

  card_whole : (op : Op) (said : Reply) → KnowsAnswerByCard (named name v) op said → KnowsAnswerByCard v op said
  card_whole op said h =
      let held = was_some name v.worker.card h.card h.holds in record {
        card = held.whole;
        holds = held.has;
        flagged = h.flagged;
        over = over_whole op held.whole h.card held.is h.over;
        says = h.says;
      }

  takes_whole : (op : Op) (said : Reply) (value : ℕ) → TakesBy (named name v) op said value → TakesBy v op said value
  takes_whole op said value t =
      let held = was_some name v.worker.card t.card t.holds in
      let leaf = was_said name naming v held.whole field.L t.leaf (subst (λ d. IsTold (named name v) (Info d field.L t.leaf)) (sym held.is) t.at_leaf) in record {
        key = t.key;
        card = held.whole;
        leaf = leaf.whole;
        deletes = t.deletes;
        says = t.says;
        holds = held.has;
        at_leaf = leaf.has;
        at_value = value_told name naming v leaf.whole t.leaf value leaf.is t.at_value;
      }

  taken_whole : (op : Op) (said : Reply) (took : Option ℕ) → IfSome took (TakesBy (named name v) op said) → IfSome took (TakesBy v op said)
  taken_whole op said None h = h
  taken_whole op said (Some value) h = takes_whole op said value h

  pub answer_whole : (said : Reply) (took : Option ℕ) → MayAnswer (named name v) said took → MayAnswer v said took
  answer_whole said took may = record {
    op = may.op;
    busy = may.busy;
    answers = elim may.answers [ inl h ↦ inl (leaf_whole may.op said h) | inr h ↦ inr (card_whole may.op said h) ];
    takes = taken_whole may.op said took may.takes;
  }

  -- info: a card that was told to go somewhere
  saying_whole : (c : ℕ) (f : Field) → KnowsSaying (named name v) (name c) f → KnowsSaying v c f
  saying_whole c f h = elim h [
    | inl put ↦ inl (knows_whole name naming v (fact.IFlagged c) put.0, put.1)
    | inr delete ↦ inr (deletes delete.0, delete.1)
  ]
    where
      deletes : KnowsDelete (named name v) (name c) → KnowsDelete v c
      deletes h = elim h [
        | inl flagged ↦ inl (knows_whole name naming v (fact.DFlagged c) flagged)
        | inr marked ↦ inr (knows_whole name naming v (fact.Marked c) marked)
      ]

  pub ask_whole : (c d : ℕ) (f : Field) → name c ≡ d → KnowsWhere v c → MayAsk (named name v) d f → MayAsk v c f
  ask_whole c d f is place may = record {
    knows = saying_whole c f (subst (λ e. KnowsSaying (named name v) e f) (sym is) may.knows);
    place = place;
    fixed = may.fixed;
  }

  -- look_down, where names tell which nodes have blocks
  come_whole : (x y low high : ℕ) → named_node name x ≡ y → HasCome (named name v) y low high → HasCome v x low high
  come_whole x y low high is h =
      let old = was_there (named_glance name) v.glances h.glance h.among in record {
        glance = old.whole;
        among = old.has;
        there = same_named name naming old.whole.node x (ap (λ (g : Glance). g.node) old.is ∙ (h.there ∙ sym is));
        from = subst (λ (g : Glance). g.low ≤ low) (sym old.is) h.from;
        upto = subst (λ (g : Glance). high ≤ g.high) (sym old.is) h.upto;
      }

  come_all_whole : (x y low high : ℕ) → named_node name x ≡ y → HasComeWhole (named name v) y low high → HasComeWhole v x low high
  unfolding come_whole
  come_all_whole x y low high is h =
      let old = was_there (named_glance name) v.glances h.come.glance h.come.among in
      record { come = come_whole x y low high is h.come; whole = ap (λ (g : Glance). g.whole) old.is ∙ h.whole }

  module _ (from : ℕ) (blocks : BlocksAreNamed from name) where
    pub look_down_whole : (x : ℕ) (glance : Glance) (keys : Stretch) (right : Bool) → named_node name x ≡ glance.node
        → MayLookDown from (named name v) glance keys right → MayLookDown from v (record glance { node = x }) keys right
    look_down_whole x glance keys right is may = record {
      come = come_whole x glance.node glance.low glance.high is may.come;
      as_one = λ whole. come_all_whole x glance.node glance.low glance.high is (may.as_one whole);
      met = (let old = was_met name naming v glance.node may.met in subst (λ y. IsTold v (Met y)) (same_named name naming old.whole x (old.is ∙ sym is)) old.has);
      inner = inner_whole name naming x glance.node is may.inner;
      key = may.key;
      told = key_told name naming v x glance.node may.key is may.told;
      goes = record {
        low = may.goes.low;
        high = may.goes.high;
        whole = λ whole. (
          (may.goes.whole whole).0,
          λ block. (may.goes.whole whole).1 (ap (has_block from) (sym is) ∙ (blocks x ∙ block)),
        );
      };
    }

    -- what the taking of a card wants
    block_whole : (x y : ℕ) → named_node name x ≡ y → has_block from y ≡ has_block from x
    block_whole x y is = ap (has_block from) (sym is) ∙ blocks x

    wants_whole : (op : Op) (parent parent' x x' key node_key : ℕ) → named_node name parent ≡ parent' → named_node name x ≡ x'
        → Wants from (named name v) op parent' x' key node_key → Wants from v op parent x key node_key
    wants_whole (Find k) parent parent' x x' key node_key p is h = h
    wants_whole (Insert k value) parent parent' x x' key node_key p is h = record {
      leaf = λ outer.
          let old = h.leaf (outer_by_name name naming x x' is outer) in
          (old.0, (old.1.0, value_told name naming v x x' old.1.0 is old.1.1));
      edge = λ inner.
          let old = h.edge (inner_by_name name naming x x' is inner) in
          (sym (block_whole x x' is) ∙ old.0, old.1);
      fits = λ block.
          let old = h.fits (block_whole parent parent' p ∙ block) in
          (old.0, key_told name naming v parent parent' old.0 p old.1, old.2);
      named = h.named;
    }
    wants_whole (Swap k was value) parent parent' x x' key node_key p is h = record {
      outer = outer_whole name naming x x' is h.outer;
      same = h.same;
      value = value_told name naming v x x' was is h.value;
      named = h.named;
    }
    wants_whole (Delete k) parent parent' x x' key node_key p is h =
        let above = was_some (named_seen name) v.worker.search.grandparent h.above h.grandparent in record {
          outer = outer_whole name naming x x' is h.outer;
          same = h.same;
          above = above.whole;
          grandparent = above.has;
          calm = clean_whole name naming above.whole.word h.above.word (ap (λ (s : Seen). s.word) above.is) h.calm;
        }

    -- a card that may be taken by what is known by names may be taken
    pub take_whole : (node : NewNode) → MayTakeCard from (named name v) node → MayTakeCard from v node
    take_whole node may =
        let at = was_some (named_node name) v.worker.search.node may.below may.stands in
        let above = was_some (named_seen name) v.worker.search.parent may.parent may.behind in record {
          op = may.op;
          below = at.whole;
          key = may.key;
          parent = above.whole;
          empty = was_none name v.worker.card may.empty;
          busy = may.busy;
          stands = at.has;
          told = may.told;
          behind = above.has;
          calm = clean_whole name naming above.whole.word may.parent.word (ap (λ (s : Seen). s.word) above.is) may.calm;
          wants = wants_whole may.op above.whole.node may.parent.node at.whole may.below may.key node.key (ap (λ (s : Seen). s.node) above.is) at.is may.wants;
          shape = may.shape;
        }

-- so the pass may claim whatever card is the next one, once it has read the claim word of the tree
pub claim_may : (from : ℕ) (v : View) (c : ℕ) (node : NewNode) → MayTakeCard from v node → MayClaim from (after call.Next c v) c node
claim_may from v c node may = record {
  op = may.op;
  below = may.below;
  key = may.key;
  parent = may.parent;
  read = refl;
  other = λ e. none_is (sym may.empty ∙ e);
  ready = inl may.empty;
  busy = may.busy;
  stands = may.stands;
  told = may.told;
  behind = may.behind;
  calm = may.calm;
  wants = wants may.op may.wants;
  shape = may.shape;
}
  where
    none_is : None ≡ Some c → ⊥
    none_is e = absurd cc

    wants : (op : Op) → Wants from v op may.parent.node may.below may.key node.key → Wants from (after call.Next c v) op may.parent.node may.below may.key node.key
    wants (Find k) h = h
    wants (Insert k value) h = record { leaf = h.leaf; edge = h.edge; fits = h.fits; named = h.named }
    wants (Swap k was value) h = record { outer = h.outer; same = h.same; value = h.value; named = h.named }
    wants (Delete k) h = record { outer = h.outer; same = h.same; above = h.above; grandparent = h.grandparent; calm = h.calm }
