-- Each call that may be made by what is shown of what a pass knows is lifted.
use Rattle.std.proofs.Common.{◌≡◌, ℕ, Bool, true, false, refl, sym, ap, ◌∙◌, subst, inl, inr}
use Rattle.ell_word.specs.declared.update.Update.{Update}
use Rattle.ell_word.specs.declared.link.Link.{Link}
use Rattle.ell_layout.specs.declared.field.Field.{Field}
use Rattle.ell_layout.specs.declared.field.Field.TheVariants as field
use Rattle.ell_core.specs.declared.view.Seen.{Seen}
use Rattle.ell_core.specs.declared.fact.Fact.{Fact}
use Rattle.ell_core.specs.declared.fact.Fact.TheVariants as fact
use Rattle.ell_runs.specs.declared.call.Call.{Call}
use Rattle.ell_runs.specs.declared.call.Call.TheVariants as call
use Rattle.ell_runs.specs.declared.view.Told.TheVariants.{Met, Info, Frozen}
use Rattle.ell_runs.specs.declared.view.View.{View}
use Rattle.ell_cards.specs.Apart.{cut_node, IsApart}
use Rattle.ell_runs.specs.Plans.{TablePlan}
use Rattle.ell_runs.specs.Views.{IsTold, Knows}
use Rattle.ell_runs.specs.Guards.{MayFill, MayIFlag, MayDFlag, MayIChild, KnowsPlace, IsSibling, MayDChild}
use Rattle.ell_cards.specs.Shown.{shown, StoresAreWhole, StoresWord, IsLifted, GuardsAreLifted}
use Rattle.ell_cards.proofs.lemmas.shown.ShownTold.{was_met, was_info, was_expected, was_frozen}
use Rattle.ell_cards.proofs.lemmas.shown.ShownGuards.{was_seen, was_stood, outer_whole, inner_whole, met_key, answer_whole, where_whole, look_down_whole, claim_whole, was_stored, filled_whole}

fill_whole : (v : View) (c : ℕ) → MayFill (shown v) c → MayFill v c
fill_whole v c may = record { holds = may.holds; unflagged = may.unflagged }

module _ (plan : TablePlan) (v : View) (apart : IsApart plan v) where
  -- a node that a card's parent or grandparent is was met
  where_met : (c : ℕ) (x : ℕ) → IsTold v (Info c field.P x) → IsTold v (Met x)
  where_met c x told = apart.names.entries (Info c field.P x) told

  above_met : (c : ℕ) (x : ℕ) → IsTold v (Info c field.Gp x) → IsTold v (Met x)
  above_met c x told = apart.names.entries (Info c field.Gp x) told

  iflag_lifted : (c p : ℕ) (from : Update) → StoresAreWhole v → MayIFlag (shown v) c p from → IsLifted plan (call.IFlag c p from) v
  iflag_lifted c p from stores may =
      let above = was_seen v.worker.search.parent may.parent may.behind in
      let at = was_stood v.worker.search.node may.leaf may.stands in record {
        origin = call.IFlag c above.whole.node from;
        is = ap (λ x. call.IFlag c x from) (ap (λ (s : Seen). s.node) above.is ∙ may.node);
        may = record {
          op = may.op;
          what = may.what;
          leaf = at.whole;
          busy = may.busy;
          puts = may.puts;
          may = fill_whole v c may.may;
          parent = above.whole;
          stands = at.has;
          behind = above.has;
          node = refl;
          read = ap (λ (s : Seen). s.word) above.is ∙ may.read;
          filled = filled_whole v stores may.filled;
        };
        fills = tt;
      }

  dflag_lifted : (c gp : ℕ) (from : Update) → StoresAreWhole v → MayDFlag (shown v) c gp from → IsLifted plan (call.DFlag c gp from) v
  dflag_lifted c gp from stores may =
      let above = was_seen v.worker.search.parent may.parent may.behind in
      let top = was_seen v.worker.search.grandparent may.grandparent may.above in
      let at = was_stood v.worker.search.node may.leaf may.stands in record {
        origin = call.DFlag c top.whole.node from;
        is = ap (λ x. call.DFlag c x from) (ap (λ (s : Seen). s.node) top.is ∙ may.node);
        may = record {
          key = may.key;
          leaf = at.whole;
          parent = above.whole;
          grandparent = top.whole;
          busy = may.busy;
          may = fill_whole v c may.may;
          stands = at.has;
          behind = above.has;
          above = top.has;
          node = refl;
          read = ap (λ (s : Seen). s.word) top.is ∙ may.read;
          filled = filled_whole v stores may.filled;
        };
        fills = tt;
      }

  -- the leaf and the parent of a card have the tag that the card expects, which is told whole
  ichild_lifted : (c p : ℕ) (l : Link) (replaces right : Bool) → MayIChild (shown v) c p l replaces right
      → IsLifted plan (call.IChild c p l replaces right) v
  ichild_lifted c p l replaces right may =
      let expects = was_expected v.told c l.tag may.expects in
      let parent = was_info v.told c field.P p may.parent in
      let leaf = was_info v.told c field.L l.node may.leaf in
      let left = was_info v.told c field.LeftLeafKey may.left_key may.told_left in
      let right_leaf = was_info v.told c field.RightLeafKey may.right_key may.told_right in record {
        origin = call.IChild c parent.whole (record { node = leaf.whole; tag = expects.whole }) replaces right;
        is = λ t. call.IChild c (parent.is t) (record { node = leaf.is t; tag = expects.is t }) replaces right;
        may = record {
          parent_key = may.parent_key;
          right_key = may.right_key;
          left_key = may.left_key;
          knows = may.knows;
          parent = parent.has;
          leaf = leaf.has;
          expects = expects.has;
          told_parent = met_key plan v apart parent.whole p may.parent_key parent.is (where_met c parent.whole parent.has) may.told_parent;
          told_right = subst (λ k. IsTold v (Info c field.RightLeafKey k)) right_leaf.is right_leaf.has;
          told_left = subst (λ k. IsTold v (Info c field.LeftLeafKey k)) left.is left.has;
          brings = may.brings;
          side = may.side;
        };
        fills = tt;
      }

  -- the sibling of a leaf, of which both were told
  pub record WasSibling (c l s : ℕ) : Type 0 where
    pub leaf : ℕ
    pub node : ℕ
    pub told : IsTold v (Info c field.L leaf)
    pub met : IsTold v (Met node)
    pub is : cut_node node ≡ s
    pub sibling : IsSibling v c leaf node

  sibling_whole : (c l s : ℕ) → Knows v (fact.Marked c) → IsTold (shown v) (Info c field.L l) → IsSibling (shown v) c l s → WasSibling c l s
  sibling_whole c l s knows below h = elim h [
    | inl right ↦
        let leaf = was_info v.told c field.L l below in
        let node = was_frozen v.told c true s right.0 in record {
          leaf = leaf.whole;
          node = node.whole;
          told = leaf.has;
          met = apart.names.entries (Frozen c true node.whole) node.has;
          is = node.is;
          sibling = inl (node.has, λ same. right.1 (sym node.is ∙ (ap cut_node same ∙ leaf.is)));
        }
    | inr both ↦ other both.0 both.1
  ]
    where
      other : IsTold (shown v) (Frozen c true l) → IsTold (shown v) (Frozen c false s) → WasSibling c l s
      other right left =
          let leaf = was_info v.told c field.L l below in
          let x = was_frozen v.told c true l right in
          let y = was_frozen v.told c false s left in
          let met_x = apart.names.entries (Frozen c true x.whole) x.has in
          let met_y = apart.names.entries (Frozen c false y.whole) y.has in
          let same : leaf.whole ≡ x.whole = elim (apart.leaf c leaf.whole x.whole y.whole knows leaf.has x.has y.has) [
            | inl e ↦ e
            | inr e ↦ e ∙ apart.met y.whole x.whole met_y met_x (ap cut_node (sym e) ∙ (leaf.is ∙ sym x.is))
          ] in record {
            leaf = leaf.whole;
            node = y.whole;
            told = leaf.has;
            met = met_y;
            is = y.is;
            sibling = inr (subst (λ z. IsTold v (Frozen c true z)) (sym same) x.has, y.has);
          }

  dchild_lifted : (c gp : ℕ) (p : Link) (s : ℕ) (right : Bool) → MayDChild (shown v) c gp p s right
      → IsLifted plan (call.DChild c gp p s right) v
  dchild_lifted c gp p s right may =
      let expects = was_expected v.told c p.tag may.expects in
      let top = was_info v.told c field.Gp gp may.grandparent in
      let parent = was_info v.told c field.P p.node may.parent in
      let old = sibling_whole c may.leaf s may.knows may.below may.sibling in record {
        origin = call.DChild c top.whole (record { node = parent.whole; tag = expects.whole }) old.node right;
        is = λ t. call.DChild c (top.is t) (record { node = parent.is t; tag = expects.is t }) (old.is t) right;
        may = record {
          leaf = old.leaf;
          grandparent_key = may.grandparent_key;
          sibling_key = may.sibling_key;
          knows = may.knows;
          grandparent = top.has;
          parent = parent.has;
          expects = expects.has;
          below = old.told;
          sibling = old.sibling;
          told_grandparent = met_key plan v apart top.whole gp may.grandparent_key top.is (above_met c top.whole top.has) may.told_grandparent;
          told_sibling = met_key plan v apart old.node s may.sibling_key old.is old.met may.told_sibling;
          side = may.side;
        };
        fills = tt;
      }

  fill_lifted : (c : ℕ) (f : Field) (value : ℕ) → StoresWord (call.Fill c f value) → MayFill (shown v) c → IsLifted plan (call.Fill c f value) v
  fill_lifted c f value word may =
      let old = was_stored f value v word.1 in
      record { origin = call.Fill c f old.whole; is = ap (call.Fill c f) old.is; may = fill_whole v c may; fills = old.fills }

  -- a call at the parent or the grandparent of a card of which a fact is known
  place_lifted : (known : Fact) (c x : ℕ) (made : ℕ → Call) → ((y : ℕ) → cut_node y ≡ x → KnowsPlace v known c field.P y → IsLifted plan (made x) v)
      → KnowsPlace (shown v) known c field.P x → IsLifted plan (made x) v
  place_lifted known c x made lift may =
      let old = was_info v.told c field.P x may.place in lift old.whole old.is (record { knows = may.knows; place = old.has })

  above_lifted : (known : Fact) (c x : ℕ) (made : ℕ → Call) → ((y : ℕ) → cut_node y ≡ x → KnowsPlace v known c field.Gp y → IsLifted plan (made x) v)
      → KnowsPlace (shown v) known c field.Gp x → IsLifted plan (made x) v
  above_lifted known c x made lift may =
      let old = was_info v.told c field.Gp x may.place in lift old.whole old.is (record { knows = may.knows; place = old.has })

pub guards_are_lifted : GuardsAreLifted
guards_are_lifted plan (call.Begin op) v apart stores word may =
    record { origin = call.Begin op; is = refl; may = may; fills = tt }
guards_are_lifted plan call.Again v apart stores word may = record {
  origin = call.Again;
  is = refl;
  may = record { op = may.op; busy = may.busy; backed = may.backed };
  fills = tt;
}
guards_are_lifted plan call.Leave v apart stores word may = record {
  origin = call.Leave;
  is = refl;
  may = record { op = may.op; busy = may.busy; backed = may.backed };
  fills = tt;
}
guards_are_lifted plan (call.Answer said took) v apart stores word may =
    record { origin = call.Answer said took; is = refl; may = answer_whole plan v apart said took may; fills = tt }
guards_are_lifted plan (call.Upd x) v apart stores word may =
    let at = was_stood v.worker.search.node x may.stands in record {
      origin = call.Upd at.whole;
      is = ap (λ y. call.Upd y) at.is;
      may = record { stands = at.has; inner = inner_whole at.whole x at.is may.inner; unread = may.unread };
      fills = tt;
    }
guards_are_lifted plan (call.Down x right) v apart stores word may =
    let at = was_stood v.worker.search.node x may.stands in record {
      origin = call.Down at.whole right;
      is = ap (λ y. call.Down y right) at.is;
      may = record {
        op = may.op;
        word = may.word;
        key = may.key;
        busy = may.busy;
        stands = at.has;
        inner = inner_whole at.whole x at.is may.inner;
        read = may.read;
        told = may.told;
        side = may.side;
        no_card = may.no_card;
      };
      fills = tt;
    }
guards_are_lifted plan call.Next v apart stores word may = record { origin = call.Next; is = refl; may = may; fills = tt }
guards_are_lifted plan (call.KeyOf x) v apart stores word may =
    let old = was_met v.told x may in record { origin = call.KeyOf old.whole; is = ap (λ y. call.KeyOf y) old.is; may = old.has; fills = tt }
guards_are_lifted plan (call.ValueOf x) v apart stores word may =
    let old = was_met v.told x may.0 in
    record { origin = call.ValueOf old.whole; is = ap (λ y. call.ValueOf y) old.is; may = (old.has, outer_whole old.whole x old.is may.1); fills = tt }
guards_are_lifted plan (call.Info c f) v apart stores word may = record {
  origin = call.Info c f;
  is = refl;
  may = record { knows = may.knows; place = where_whole plan v apart c may.place; fixed = may.fixed };
  fills = tt;
}
guards_are_lifted plan (call.FrozenChild c p right) v apart stores word may = place_lifted plan v apart (fact.Marked c) c p (λ x. call.FrozenChild c x right)
    (λ y is at. record { origin = call.FrozenChild c y right; is = ap (λ x. call.FrozenChild c x right) is; may = at; fills = tt }) may
guards_are_lifted plan call.Look v apart stores word may = record { origin = call.Look; is = refl; may = may; fills = tt }
guards_are_lifted plan (call.LookDown from to right) v apart stores word may =
    let old = was_met v.told from.node may.met in record {
      origin = call.LookDown (record from { node = old.whole }) to right;
      is = ap (λ x. call.LookDown (record from { node = x }) to right) old.is;
      may = look_down_whole plan v apart old.whole from to right old.is old.has may;
      fills = tt;
    }
guards_are_lifted plan call.Rest v apart stores word may = record { origin = call.Rest; is = refl; may = may; fills = tt }
guards_are_lifted plan (call.Claim c node_key) v apart stores word may = record {
  origin = call.Claim c node_key;
  is = refl;
  may = (claim_whole plan v apart c node_key may.0, may.1);
  fills = tt;
}
guards_are_lifted plan (call.Fill c f value) v apart stores word may = fill_lifted plan v apart c f value word may
guards_are_lifted plan (call.IFlag c p from) v apart stores word may = iflag_lifted plan v apart c p from stores may
guards_are_lifted plan (call.IChild c p l replaces right) v apart stores word may = ichild_lifted plan v apart c p l replaces right may
guards_are_lifted plan (call.IUnflag c p) v apart stores word may = place_lifted plan v apart (fact.IChanged c) c p (λ x. call.IUnflag c x)
    (λ y is at. record { origin = call.IUnflag c y; is = ap (λ x. call.IUnflag c x) is; may = at; fills = tt }) may
guards_are_lifted plan (call.DFlag c gp from) v apart stores word may = dflag_lifted plan v apart c gp from stores may
guards_are_lifted plan (call.Mark c p was) v apart stores word may =
    let old = was_info v.told c field.P p may.0.place in
    let read = was_info v.told c field.Was was may.1 in record {
      origin = call.Mark c old.whole was;
      is = ap (λ x. call.Mark c x was) old.is;
      may = (record { knows = may.0.knows; place = old.has }, subst (λ n. IsTold v (Info c field.Was n)) read.is read.has);
      fills = tt;
    }
guards_are_lifted plan (call.DChild c gp p s right) v apart stores word may = dchild_lifted plan v apart c gp p s right may
guards_are_lifted plan (call.DUnflag c gp) v apart stores word may = above_lifted plan v apart (fact.Cut c) c gp (λ x. call.DUnflag c x)
    (λ y is at. record { origin = call.DUnflag c y; is = ap (λ x. call.DUnflag c x) is; may = at; fills = tt }) may
guards_are_lifted plan (call.Backtrack c gp) v apart stores word may = above_lifted plan v apart (fact.Unmarkable c) c gp (λ x. call.Backtrack c x)
    (λ y is at. record { origin = call.Backtrack c y; is = ap (λ x. call.Backtrack c x) is; may = at; fills = tt }) may
