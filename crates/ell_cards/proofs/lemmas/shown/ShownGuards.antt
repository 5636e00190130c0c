-- A call that may be made by what is shown of what a pass knows is what is shown of one that may be made by that itself.
use Rattle.std.proofs.Common.{◌≡◌, ℕ, ◌≤◌, ◌%◌, ◌==◌, map, Bool, true, false, Option, Some, None, IfSome, List, [], ◌∷◌, refl, sym, ap, ◌∙◌, subst, inl, inr, eqb-true, eq-eqb, true≢false}
use Rattle.std.specs.Option.{option_map}
use Rattle.std.proofs.lemmas.Option.{same_Some}
use Rattle.ell_ops.specs.declared.op.Op.{Op}
use Rattle.ell_ops.specs.declared.op.Op.TheVariants.{Find, Insert, Delete, Swap}
use Rattle.ell_ops.specs.declared.reply.Reply.{Reply}
use Rattle.ell_word.specs.Node.{IsInternal}
use Rattle.ell_layout.specs.declared.field.Field.{Field}
use Rattle.ell_layout.specs.declared.field.Field.TheVariants as field
use Rattle.ell_layout.specs.Cards.{stored}
use Rattle.ell_layout.specs.Words.{IsLeaf, has_block}
use Rattle.ell_core.specs.declared.view.Seen.{Seen}
use Rattle.ell_core.specs.acts.Searching.{IsClean}
use Rattle.ell_runs.specs.declared.glance.Glance.{Glance}
use Rattle.ell_runs.specs.declared.glance.Stretch.{Stretch}
use Rattle.ell_runs.specs.declared.view.Told.TheVariants.{Met, Key, Value}
use Rattle.ell_runs.specs.declared.view.View.{View}
use Rattle.ell_cards.specs.Apart.{cut_node, IsApart}
use Rattle.ell_runs.specs.Plans.{TablePlan, flat_from}
use Rattle.ell_runs.specs.Views.{Has, latest, earlier, IsTold, HasCome, HasComeWhole}
use Rattle.ell_runs.specs.Guards.{TellsOf, CardIsOver, MayAnswer, TakesBy, KnowsWhere, MayLookDown, Wants, MayClaim, IsFilled}
use Rattle.ell_cards.specs.Shown.{shown_seen, shown_glance, shown_word, shown, StoresAreWhole, IsWholeFor}
use Rattle.ell_cards.proofs.lemmas.shown.CutWords.{node_place}
use Rattle.ell_cards.proofs.lemmas.shown.ShownTold.{was_key, was_value, was_info}
use Rattle.ell_cards.proofs.lemmas.shown.ShownWords.{stored_at_shown, planned_shown}
use Rattle.ell_runs.specs.declared.call.NewNode.{NewNode}

-- a node that a search has seen is shown of one that it has seen whole
pub record WasSeen (o : Option Seen) (seen : Seen) : Type 0 where
  pub whole : Seen
  pub has : o ≡ Some whole
  pub is : shown_seen whole ≡ seen

pub was_seen : (o : Option Seen) (seen : Seen) → option_map shown_seen o ≡ Some seen → WasSeen o seen
was_seen None seen e = absurd cc
was_seen (Some whole) seen e = record { whole = whole; has = refl; is = same_Some (shown_seen whole) seen e }

-- and a node where it stands of one where it stands
pub record WasStood (o : Option ℕ) (x : ℕ) : Type 0 where
  pub whole : ℕ
  pub has : o ≡ Some whole
  pub is : cut_node whole ≡ x

pub was_stood : (o : Option ℕ) (x : ℕ) → option_map cut_node o ≡ Some x → WasStood o x
was_stood None x e = absurd cc
was_stood (Some whole) x e = record { whole = whole; has = refl; is = same_Some (cut_node whole) x e }

-- a node is a leaf, or internal, if it is that once it is cut
pub outer_whole : (x y : ℕ) → cut_node x ≡ y → IsLeaf y → IsLeaf x
outer_whole x y is outer inner = outer (sym (ap (λ z. z % 4) is) ∙ (node_place x ∙ inner))

pub inner_whole : (x y : ℕ) → cut_node x ≡ y → IsInternal y → IsInternal x
inner_whole x y is inner = sym (node_place x) ∙ (ap (λ z. z % 4) is ∙ inner)

-- it is cut to what it is
pub inner_cut : (x : ℕ) → IsInternal x → IsInternal (cut_node x)
inner_cut x inner = node_place x ∙ inner

pub outer_cut : (x : ℕ) → IsLeaf x → IsLeaf (cut_node x)
outer_cut x outer inner = outer (sym (node_place x) ∙ inner)

module _ (plan : TablePlan) (v : View) (apart : IsApart plan v) where
  -- what was told of a node that was met, by what is shown of both
  pub met_key : (x y key : ℕ) → cut_node x ≡ y → IsTold v (Met x) → IsTold (shown v) (Key y key) → IsTold v (Key x key)
  met_key x y key is met told =
      let old = was_key v.told y key told in
      subst (λ z. IsTold v (Key z key)) (apart.met old.whole x (apart.names.entries (Key old.whole key) old.has) met (old.is ∙ sym is)) old.has

  pub met_value : (x y value : ℕ) → cut_node x ≡ y → IsTold v (Met x) → IsTold (shown v) (Value y value) → IsTold v (Value x value)
  met_value x y value is met told =
      let old = was_value v.told y value told in
      subst (λ z. IsTold v (Value z value)) (apart.met old.whole x (apart.names.entries (Value old.whole value) old.has) met (old.is ∙ sym is)) old.has

  -- what was told of a leaf
  pub tells_whole : (leaf y key k : ℕ) (there : Option ℕ) → cut_node leaf ≡ y → IsTold v (Met leaf) → TellsOf (shown v) y key k there → TellsOf v leaf key k there
  tells_whole leaf y key k None is met h = h
  tells_whole leaf y key k (Some value) is met h = (h.0, met_value leaf y value is met h.1)

  -- a card that is known to be over
  over_whole : (op : Op) (c : ℕ) → CardIsOver (shown v) op c → CardIsOver v op c
  over_whole (Find k) c h = h
  over_whole (Insert k value) c h = h
  over_whole (Delete k) c h = h
  over_whole (Swap k was value) c h = h

  -- what a delete took is what was told of the leaf of its card
  takes_whole : (op : Op) (said : Reply) (value : ℕ) → TakesBy (shown v) op said value → TakesBy v op said value
  takes_whole op said value t =
      let leaf = was_info v.told t.card field.L t.leaf t.at_leaf in
      let old = was_value v.told t.leaf value t.at_value in
      let same = apart.met old.whole leaf.whole (apart.names.entries (Value old.whole value) old.has) (apart.names.leaf t.card leaf.whole t.holds leaf.has) (old.is ∙ sym leaf.is) in
      record {
        key = t.key;
        card = t.card;
        leaf = leaf.whole;
        deletes = t.deletes;
        says = t.says;
        holds = t.holds;
        at_leaf = leaf.has;
        at_value = subst (λ x. IsTold v (Value x value)) same old.has;
      }

  taken_whole : (op : Op) (said : Reply) (took : Option ℕ) → IfSome took (TakesBy (shown v) op said) → IfSome took (TakesBy v op said)
  taken_whole op said None h = h
  taken_whole op said (Some value) h = takes_whole op said value h

  pub answer_whole : (said : Reply) (took : Option ℕ) → MayAnswer (shown v) said took → MayAnswer v said took
  answer_whole said took may = record {
    op = may.op;
    busy = may.busy;
    answers = elim may.answers [
      | inl h ↦
          let at = was_stood v.worker.search.node h.leaf h.stands in
          inl (record {
            leaf = at.whole;
            key = h.key;
            there = h.there;
            stands = at.has;
            outer = outer_whole at.whole h.leaf at.is h.outer;
            told = h.told;
            tells = tells_whole at.whole h.leaf h.key _ h.there at.is (apart.names.node at.whole at.has) h.tells;
            says = h.says;
          })
      | inr h ↦ inr (record {
        card = h.card;
        holds = h.holds;
        flagged = h.flagged;
        over = over_whole may.op h.card h.over;
        says = h.says;
      })
    ];
    takes = taken_whole may.op said took may.takes;
  }

  pub where_whole : (c : ℕ) → KnowsWhere (shown v) c → KnowsWhere v c
  where_whole c h = elim h.1 [
    | inl told ↦ (let old = was_info v.told c field.P h.0 told in (old.whole, inl old.has))
    | inr told ↦ (let old = was_info v.told c field.Gp h.0 told in (old.whole, inr old.has))
  ]

  -- where a look has come to
  abbrev glance_was : (l : List Glance) (g : Glance) → Has (map shown_glance l) g → (whole : Glance) × Has l whole × (shown_glance whole ≡ g)
  glance_was [] g none = elim none [ ]
  glance_was (d ∷ l) _ (latest _ _) = (d, latest d l, refl)
  glance_was (d ∷ l) g (earlier _ _ _ h) = (let old = glance_was l g h in (old.0, earlier old.0 d l old.1, old.2))

  abbrev pub come_whole : (node y low high : ℕ) → cut_node node ≡ y → IsTold v (Met node) → HasCome (shown v) y low high → HasCome v node low high
  come_whole node y low high is met h =
      let old = glance_was v.glances h.glance h.among in record {
        glance = old.0;
        among = old.1;
        there = apart.met old.0.node node (apart.names.glances old.0 old.1) met (ap (λ (g : Glance). g.node) old.2 ∙ (h.there ∙ sym is));
        from = subst (λ (g : Glance). g.low ≤ low) (sym old.2) h.from;
        upto = subst (λ (g : Glance). high ≤ g.high) (sym old.2) h.upto;
      }

  pub come_all_whole : (node y low high : ℕ) → cut_node node ≡ y → IsTold v (Met node) → HasComeWhole (shown v) y low high → HasComeWhole v node low high
  come_all_whole node y low high is met h =
      let old = glance_was v.glances h.come.glance h.come.among in
      record { come = come_whole node y low high is met h.come; whole = ap (λ (g : Glance). g.whole) old.2 ∙ h.whole }

  -- the glance of a node that was met is shown of one
  pub look_down_whole : (x : ℕ) (glance : Glance) (keys : Stretch) (right : Bool) → cut_node x ≡ glance.node → IsTold v (Met x)
      → MayLookDown (flat_from plan) (shown v) glance keys right → MayLookDown (flat_from plan) v (record glance { node = x }) keys right
  look_down_whole x glance keys right is met may = record {
    come = come_whole x glance.node glance.low glance.high is met may.come;
    as_one = λ whole. come_all_whole x glance.node glance.low glance.high is met (may.as_one whole);
    met = met;
    inner = inner_whole x glance.node is may.inner;
    key = may.key;
    told = met_key x glance.node may.key is met may.told;
    goes = record {
      low = may.goes.low;
      high = may.goes.high;
      whole = λ whole. (
        (may.goes.whole whole).0,
        λ block. (may.goes.whole whole).1 (ap (has_block (flat_from plan)) (sym is) ∙ (apart.blocks x met ∙ block)),
      );
    };
  }

  -- what a claim wants
  wants_whole : (op : Op) (parent x key node_key : ℕ) → IsTold v (Met parent) → IsTold v (Met x)
      → Wants (flat_from plan) (shown v) op (cut_node parent) (cut_node x) key node_key → Wants (flat_from plan) v op parent x key node_key
  wants_whole (Find k) parent x key node_key above met h = h
  wants_whole (Insert k value) parent x key node_key above met h = record {
    leaf = λ outer. (let at = h.leaf (outer_cut x outer) in (at.0, (at.1.0, met_value x (cut_node x) at.1.0 refl met at.1.1)));
    edge = λ inner. (let at = h.edge (inner_cut x inner) in (sym (apart.blocks x met) ∙ at.0, at.1));
    fits = λ block. (let at = h.fits (apart.blocks parent above ∙ block) in (at.0, met_key parent (cut_node parent) at.0 refl above at.1, at.2));
    named = h.named;
  }
  wants_whole (Swap k was value) parent x key node_key above met h = record {
    outer = outer_whole x (cut_node x) refl h.outer;
    same = h.same;
    value = met_value x (cut_node x) was refl met h.value;
    named = h.named;
  }
  wants_whole (Delete k) parent x key node_key above met h =
      let up = was_seen v.worker.search.grandparent h.above h.grandparent in
      record {
        outer = outer_whole x (cut_node x) refl h.outer;
        same = h.same;
        above = up.whole;
        grandparent = up.has;
        calm = subst (λ (s : Seen). IsClean s.word) (sym up.is) h.calm;
      }

  pub claim_whole : (c : ℕ) (node : NewNode) → MayClaim (flat_from plan) (shown v) c node → MayClaim (flat_from plan) v c node
  claim_whole c node may =
      let above = was_seen v.worker.search.parent may.parent may.behind in
      let at = was_stood v.worker.search.node may.below may.stands in
      record {
        op = may.op;
        below = at.whole;
        key = may.key;
        parent = above.whole;
        read = may.read;
        ready = may.ready;
        other = may.other;
        busy = may.busy;
        stands = at.has;
        told = may.told;
        behind = above.has;
        calm = subst (λ (s : Seen). IsClean s.word) (sym above.is) may.calm;
        wants = wants_whole may.op above.whole.node at.whole may.key node.key (apart.names.parent above.whole above.has) (apart.names.node at.whole at.has)
            (subst (λ x. Wants (flat_from plan) (shown v) may.op (shown_seen above.whole).node x may.key node.key) (sym at.is)
            (subst (λ (s : Seen). Wants (flat_from plan) (shown v) may.op s.node may.below may.key node.key) (sym above.is) may.wants));
        shape = may.shape;
      }

-- a value that is stored is shown of the planned one, if it is that once that is cut, and else of itself
pub record WasStored (f : Field) (value : ℕ) (v : View) : Type 0 where
  pub whole : ℕ
  pub is : shown_word f whole ≡ value
  pub fills : IsWholeFor f whole v

-- a value that a call stores is one that a field shows
abbrev pub IsShownFor : Field → ℕ → Type 0
IsShownFor f value = shown_word f value ≡ value

pub was_stored : (f : Field) (value : ℕ) (v : View) → IsShownFor f value → WasStored f value v
was_stored f value v shows = by (shown_word f (stored v.planned f 0) == value) refl
  where
    by : (b : Bool) → (shown_word f (stored v.planned f 0) == value) ≡ b → WasStored f value v
    by true same = record {
      whole = stored v.planned f 0;
      is = eqb-true (shown_word f (stored v.planned f 0)) value same;
      fills = λ _. refl;
    }
    by false other = record {
      whole = value;
      is = shows;
      fills = λ e. absurd (true≢false (sym (eq-eqb (shown_word f (stored v.planned f 0)) value (sym e ∙ shows)) ∙ other));
    }

-- the card in hand is filled
pub filled_whole : (v : View) → StoresAreWhole v → IsFilled (shown v) → IsFilled v
filled_whole v stores filled f = stores f (sym (stored_at_shown v.stores f) ∙ (filled f ∙ planned_shown v.planned f))
