-- A call that may be made by what is known by names is the one by names of a call that may be made.
use Rattle.std.proofs.Common.{◌≡◌, ℕ, Bool, true, false, refl, sym, ap, ◌∙◌, subst, inl, inr}
use Rattle.ell_word.specs.declared.link.Link.{Link}
use Rattle.ell_layout.specs.declared.field.Field.{Field}
use Rattle.ell_layout.specs.declared.field.Field.TheVariants as field
use Rattle.ell_core.specs.declared.fact.Fact.{Fact}
use Rattle.ell_core.specs.declared.fact.Fact.TheVariants as fact
use Rattle.ell_runs.specs.declared.call.Call.{Call}
use Rattle.ell_runs.specs.declared.call.Call.TheVariants as call
use Rattle.ell_runs.specs.declared.view.Told.TheVariants.{Info, Frozen}
use Rattle.ell_runs.specs.declared.view.View.{View}
use Rattle.ell_runs.specs.Plans.{TablePlan, flat_from}
use Rattle.ell_runs.specs.Views.{IsTold, Knows}
use Rattle.ell_runs.specs.Guards.{IsSibling, KnowsPlace, KnowsWhere, MayAsk, MayDChild, MayGoDown, MayIChild, MayMark, MayRead}
use Rattle.ell_runs.specs.Calls.{May}
use Rattle.ell_runs.specs.Named.{IsNaming, named_node, named_fact, named_info, named_call, named}
use Rattle.ell_runs.specs.NamedTakings.{IsFromNumbers, BlocksAreNamed, BuildsNoCard}
use Rattle.ell_runs.proofs.lemmas.named.NamedOrigins.{was_some, was_none, knows_whole, inner_whole, outer_whole, was_met, key_told, was_info, was_said, expects_told, was_frozen}
use Rattle.ell_runs.proofs.lemmas.named.NamedGuards.{stop_whole, answer_whole, ask_whole, look_down_whole}
use Rattle.ell_runs.proofs.lemmas.named.NamedWords.{same_named}

module _ (name : ℕ → ℕ) (naming : IsNaming name) (plan : TablePlan) (v : View) where
  -- a call on a card that has a name, where that one is as it is for the card of each number
  from_card : (made : ℕ → Call) (Asks : ℕ → Type 0) → ((c : ℕ) → Asks (name c) → IsFromNumbers name plan (made (name c)) v)
      → (c d : ℕ) → name c ≡ d → Asks d → IsFromNumbers name plan (made d) v
  from_card made Asks lift c d is asks = subst (λ e. IsFromNumbers name plan (made e) v) is (lift c (subst Asks (sym is) asks))

  -- upd and down
  upd_from : (x : ℕ) → MayRead (named name v) x → IsFromNumbers name plan (call.Upd x) v
  upd_from x may =
      let at = was_some (named_node name) v.worker.search.node x may.stands in record {
        origin = call.Upd at.whole;
        is = ap (λ y. call.Upd y) at.is;
        may = record {
          stands = at.has;
          inner = inner_whole name naming at.whole x at.is may.inner;
          unread = was_none (named_node name) v.worker.search.read may.unread;
        };
      }

  down_from : (x : ℕ) (right : Bool) → MayGoDown (named name v) x right → IsFromNumbers name plan (call.Down x right) v
  down_from x right may =
      let at = was_some (named_node name) v.worker.search.node x may.stands in
      let read = was_some (named_node name) v.worker.search.read may.word may.read in record {
        origin = call.Down at.whole right;
        is = ap (λ y. call.Down y right) at.is;
        may = record {
          op = may.op;
          word = read.whole;
          key = may.key;
          busy = may.busy;
          stands = at.has;
          inner = inner_whole name naming at.whole x at.is may.inner;
          read = read.has;
          told = may.told;
          side = may.side;
          no_card = was_none name v.worker.card may.no_card;
        };
      }

  -- info
  info_from : (d : ℕ) (f : Field) → MayAsk (named name v) d f → IsFromNumbers name plan (call.Info d f) v
  info_from d f may = elim may.place.1 [
    | inl told ↦
        let old = was_info name naming v d field.P may.place.0 told in
        by old.card old.named (old.whole, inl old.has)
    | inr told ↦
        let old = was_info name naming v d field.Gp may.place.0 told in
        by old.card old.named (old.whole, inr old.has)
  ]
    where
      by : (c : ℕ) → name c ≡ d → KnowsWhere v c → IsFromNumbers name plan (call.Info d f) v
      by c is place =
          record { origin = call.Info c f; is = ap (λ e. call.Info e f) is; may = ask_whole name naming v c d f is place may }

  -- a call at the parent or the grandparent of a card of which a fact is known: frozen_child, iunflag, dunflag and backtrack
  place_from : (known : ℕ → Fact) → ((c : ℕ) → named_fact name (known c) ≡ known (name c)) → (f : Field)
      → ((x : ℕ) → named_info name f x ≡ named_node name x) → (made : ℕ → ℕ → Call)
      → ((c x : ℕ) → named_call name (made c x) ≡ made (name c) (named_node name x))
      → ((c x : ℕ) → KnowsPlace v (known c) c f x → May plan (made c x) v) → (d x : ℕ)
      → KnowsPlace (named name v) (known d) d f x → IsFromNumbers name plan (made d x) v
  place_from known learnt f node made makes allows d x may =
      let old = was_info name naming v d f x may.place in record {
        origin = made old.card old.whole;
        is = makes old.card old.whole ∙ (λ t. made (old.named t) ((sym (node old.whole) ∙ old.is) t));
        may = allows old.card old.whole (record {
          knows = knows_whole name naming v (known old.card) (subst (λ g. Knows (named name v) g) (sym (learnt old.card ∙ ap known old.named)) may.knows);
          place = old.has;
        });
      }

  -- mark
  mark_from : (c p was : ℕ) → MayMark (named name v) (name c) p was → IsFromNumbers name plan (call.Mark (name c) p was) v
  mark_from c p was may =
      let parent = was_said name naming v c field.P p may.0.place in
      let read = was_said name naming v c field.Was was may.1 in record {
        origin = call.Mark c parent.whole read.whole;
        is = λ t. call.Mark (name c) (parent.is t) (read.is t);
        may = (record { knows = knows_whole name naming v (fact.DFlagged c) may.0.knows; place = parent.has }, read.has);
      }

  -- ichild
  ichild_from : (c p : ℕ) (l : Link) (replaces right : Bool) → MayIChild (named name v) (name c) p l replaces right
      → IsFromNumbers name plan (call.IChild (name c) p l replaces right) v
  ichild_from c p l replaces right may =
      let parent = was_said name naming v c field.P p may.parent in
      let leaf = was_said name naming v c field.L l.node may.leaf in
      let left = was_said name naming v c field.LeftLeafKey may.left_key may.told_left in
      let right_leaf = was_said name naming v c field.RightLeafKey may.right_key may.told_right in record {
        origin = call.IChild c parent.whole (record { node = leaf.whole; tag = l.tag }) replaces right;
        is = λ t. call.IChild (name c) (parent.is t) (record { node = leaf.is t; tag = l.tag }) replaces right;
        may = record {
          parent_key = may.parent_key;
          right_key = may.right_key;
          left_key = may.left_key;
          knows = knows_whole name naming v (fact.IFlagged c) may.knows;
          parent = parent.has;
          leaf = leaf.has;
          expects = expects_told name naming v c l.tag may.expects;
          told_parent = key_told name naming v parent.whole p may.parent_key parent.is may.told_parent;
          told_right = subst (λ k. IsTold v (Info c field.RightLeafKey k)) right_leaf.is right_leaf.has;
          told_left = subst (λ k. IsTold v (Info c field.LeftLeafKey k)) left.is left.has;
          brings = may.brings;
          side = may.side;
        };
      }

  -- dchild: the sibling of a leaf
  pub record WasSibling (c leaf s : ℕ) : Type 0 where
    pub whole : ℕ
    pub is : named_node name whole ≡ s
    pub sibling : IsSibling v c leaf whole

  sibling_whole : (c leaf l s : ℕ) → named_node name leaf ≡ l → IsSibling (named name v) (name c) l s → WasSibling c leaf s
  sibling_whole c leaf l s is h = elim h [
    | inl right ↦
        let node = was_frozen name naming v c true s right.0 in record {
          whole = node.whole;
          is = node.is;
          sibling = inl (node.has, λ same. right.1 (sym node.is ∙ (ap (named_node name) same ∙ is)));
        }
    | inr both ↦
        let right = was_frozen name naming v c true l both.0 in
        let left = was_frozen name naming v c false s both.1 in
        let same = same_named name naming right.whole leaf (right.is ∙ sym is) in record {
          whole = left.whole;
          is = left.is;
          sibling = inr (subst (λ z. IsTold v (Frozen c true z)) same right.has, left.has);
        }
  ]

  dchild_from : (c gp : ℕ) (p : Link) (s : ℕ) (right : Bool) → MayDChild (named name v) (name c) gp p s right
      → IsFromNumbers name plan (call.DChild (name c) gp p s right) v
  dchild_from c gp p s right may =
      let top = was_said name naming v c field.Gp gp may.grandparent in
      let parent = was_said name naming v c field.P p.node may.parent in
      let leaf = was_said name naming v c field.L may.leaf may.below in
      let node = sibling_whole c leaf.whole may.leaf s leaf.is may.sibling in record {
        origin = call.DChild c top.whole (record { node = parent.whole; tag = p.tag }) node.whole right;
        is = λ t. call.DChild (name c) (top.is t) (record { node = parent.is t; tag = p.tag }) (node.is t) right;
        may = record {
          leaf = leaf.whole;
          grandparent_key = may.grandparent_key;
          sibling_key = may.sibling_key;
          knows = knows_whole name naming v (fact.Marked c) may.knows;
          grandparent = top.has;
          parent = parent.has;
          expects = expects_told name naming v c p.tag may.expects;
          below = leaf.has;
          sibling = node.sibling;
          told_grandparent = key_told name naming v top.whole gp may.grandparent_key top.is may.told_grandparent;
          told_sibling = key_told name naming v node.whole s may.sibling_key node.is may.told_sibling;
          side = may.side;
        };
      }

-- each call that builds no card
pub calls_are_from_numbers : (name : ℕ → ℕ) → IsNaming name → (plan : TablePlan) → BlocksAreNamed (flat_from plan) name → (c : Call) (v : View)
    → BuildsNoCard c → May plan c (named name v) → IsFromNumbers name plan c v
calls_are_from_numbers name naming plan blocks (call.Begin op) v builds may = record { origin = call.Begin op; is = refl; may = may }
calls_are_from_numbers name naming plan blocks call.Again v builds may = record { origin = call.Again; is = refl; may = stop_whole name naming v may }
calls_are_from_numbers name naming plan blocks call.Leave v builds may = record { origin = call.Leave; is = refl; may = stop_whole name naming v may }
calls_are_from_numbers name naming plan blocks (call.Answer said took) v builds may =
    record { origin = call.Answer said took; is = refl; may = answer_whole name naming v said took may }
calls_are_from_numbers name naming plan blocks (call.Upd x) v builds may = upd_from name naming plan v x may
calls_are_from_numbers name naming plan blocks (call.Down x right) v builds may = down_from name naming plan v x right may
calls_are_from_numbers name naming plan blocks call.Next v builds may = record { origin = call.Next; is = refl; may = tt }
calls_are_from_numbers name naming plan blocks (call.KeyOf x) v builds may =
    let old = was_met name naming v x may in record { origin = call.KeyOf old.whole; is = ap (λ y. call.KeyOf y) old.is; may = old.has }
calls_are_from_numbers name naming plan blocks (call.ValueOf x) v builds may =
    let old = was_met name naming v x may.0 in
    record { origin = call.ValueOf old.whole; is = ap (λ y. call.ValueOf y) old.is; may = (old.has, outer_whole name naming old.whole x old.is may.1) }
calls_are_from_numbers name naming plan blocks (call.Info c f) v builds may = info_from name naming plan v c f may
calls_are_from_numbers name naming plan blocks (call.FrozenChild c p right) v builds may =
    place_from name naming plan v fact.Marked (λ d. refl) field.P (λ x. refl) (λ d x. call.FrozenChild d x right) (λ d x. refl) (λ d x at. at) c p may
calls_are_from_numbers name naming plan blocks call.Look v builds may = record { origin = call.Look; is = refl; may = may }
calls_are_from_numbers name naming plan blocks (call.LookDown from to right) v builds may =
    let old = was_met name naming v from.node may.met in record {
      origin = call.LookDown (record from { node = old.whole }) to right;
      is = ap (λ x. call.LookDown (record from { node = x }) to right) old.is;
      may = look_down_whole name naming v (flat_from plan) blocks old.whole from to right old.is may;
    }
calls_are_from_numbers name naming plan blocks call.Rest v builds may = record { origin = call.Rest; is = refl; may = may }
calls_are_from_numbers name naming plan blocks (call.Claim c node) v builds may = absurd builds
calls_are_from_numbers name naming plan blocks (call.Fill c f value) v builds may = absurd builds
calls_are_from_numbers name naming plan blocks (call.IFlag c p from) v builds may = absurd builds
calls_are_from_numbers name naming plan blocks (call.IChild c p l replaces right) v builds may =
    let parent = was_info name naming v c field.P p may.parent in
    from_card name naming plan v (λ d. call.IChild d p l replaces right) (λ d. MayIChild (named name v) d p l replaces right)
    (λ d asks. ichild_from name naming plan v d p l replaces right asks) parent.card c parent.named may
calls_are_from_numbers name naming plan blocks (call.IUnflag c p) v builds may =
    place_from name naming plan v fact.IChanged (λ d. refl) field.P (λ x. refl) (λ d x. call.IUnflag d x) (λ d x. refl) (λ d x at. at) c p may
calls_are_from_numbers name naming plan blocks (call.DFlag c gp from) v builds may = absurd builds
calls_are_from_numbers name naming plan blocks (call.Mark c p was) v builds may =
    let parent = was_info name naming v c field.P p may.0.place in
    from_card name naming plan v (λ d. call.Mark d p was) (λ d. MayMark (named name v) d p was) (λ d asks. mark_from name naming plan v d p was asks)
    parent.card c parent.named may
calls_are_from_numbers name naming plan blocks (call.DChild c gp p s right) v builds may =
    let parent = was_info name naming v c field.P p.node may.parent in
    from_card name naming plan v (λ d. call.DChild d gp p s right) (λ d. MayDChild (named name v) d gp p s right)
    (λ d asks. dchild_from name naming plan v d gp p s right asks) parent.card c parent.named may
calls_are_from_numbers name naming plan blocks (call.DUnflag c gp) v builds may =
    place_from name naming plan v fact.Cut (λ d. refl) field.Gp (λ x. refl) (λ d x. call.DUnflag d x) (λ d x. refl) (λ d x at. at) c gp may
calls_are_from_numbers name naming plan blocks (call.Backtrack c gp) v builds may =
    place_from name naming plan v fact.Unmarkable (λ d. refl) field.Gp (λ x. refl) (λ d x. call.Backtrack d x) (λ d x. refl) (λ d x at. at) c gp may
