use Rattle.std.proofs.Common.{◌≡◌, ◌≢◌, ℕ, ◌<◌, ◌≤◌, ◌==◌, ◌%◌, ◌++◌, List, Bool, true, false, true≢false, inl, Option, Some, None, IfSome, if◌then◌else◌, eq-eqb, eqb-true, refl, sym, ◌∙◌, ap, subst, arith}
use Rattle.std.specs.Option.{is_some}
use Rattle.ell_ops.specs.declared.op.Op.{Op}
use Rattle.ell_ops.specs.declared.op.Op.TheVariants.{Find, Insert, Delete, Swap}
use Rattle.ell_block.specs.Blocks.{InBlockOf}
use Rattle.ell_word.specs.Node.{IsInternal}
use Rattle.std.proofs.lemmas.Bool.{ne_eqb}
use Rattle.ell_ops.specs.declared.reply.Reply.{Reply}
use Rattle.ell_ops.specs.Meaning.{key_of}
use Rattle.ell_word.specs.Link.{IsLink, linked, link_in}
use Rattle.ell_word.specs.declared.link.Link.{Link}
use Rattle.ell_word.specs.declared.update.Update.{Update}
use Rattle.ell_core.specs.declared.view.Search.{Search}
use Rattle.ell_core.specs.acts.Searching.{at_root, leaf_answer}
use Rattle.ell_core.proofs.lemmas.tree.Blocks.{block_past, flat_by}
use Rattle.ell_layout.specs.Words.{IsLeaf, has_block}
use Rattle.ell_core.specs.state.Machine.{ledger_of}
use Rattle.ell_core.specs.statements.Effects.{contents_in}
use Rattle.ell_runs.specs.declared.view.Told.TheVariants.{Met, Key}
use Rattle.ell_runs.specs.declared.view.View.{View}
use Rattle.ell_runs.specs.Plans.{TablePlan, flat_from}
use Rattle.ell_cards.specs.Models.{PassModel, Sees}
use Rattle.ell_runs.specs.Views.{latest, Does, IsTold, StandsAt, InTable, EndedBy, EndWasUnknown}
use Rattle.ell_runs.specs.Changes.{after_upd, told_value}
use Rattle.ell_runs.proofs.lemmas.views.Afters.{after_key_of, after_value_of, after_down}
use Rattle.ell_runs.specs.Guards.{MayAnswer, TellsOf}
use Rattle.ell_runs.specs.Calls.{TellsKey, TellsLedgerValue}
use Rattle.ell_runs.specs.Depths.{depth_of}
use Rattle.ell_runs.proofs.lemmas.views.Depths.{depth_more, went_deeper}
use Rattle.ell_runs.proofs.lemmas.views.Entries.{places_more}
use Rattle.ell_cards.proofs.lemmas.views.Steps.{view_seen}
use Rattle.ell_runs.proofs.lemmas.views.SeenNodes.{told_here}
use Rattle.ell_tree.specs.declared.searching.Passed.{Passed}
use Rattle.ell_tree.specs.declared.searching.Place.{Place}
use Rattle.ell_tree.specs.Keeping.{LosesNothing, KeepsAllButSearch, IsInnerMet, IsSeenAt}
use Rattle.ell_word.specs.declared.update.State.TheVariants as state
use Rattle.ell_core.specs.declared.fact.Fact.{Fact}
use Rattle.ell_tree.specs.Searches.{AtRoot, seen_any, below, KnowsPassed, EndWasUnknownAt, EndsAbove, MayPass, FitsBelow, IsAt, there_at, EndsAt, HasSearched}
use Rattle.ell_tree.specs.Counts.{HasUncounted}
use Rattle.ell_tree.proofs.lemmas.Counts.{uncounted_one, uncounted_trans}
use Rattle.ell_tree.proofs.lemmas.Links.{link_same, word_node}
use Rattle.ell_tree.proofs.lemmas.Keeping.{keeps_but_search_unseen, keeps_but_search_trans, upd_keeps, key_of_keeps, value_of_keeps, down_keeps, seen_kept, place_told}

-- a search stands at a node, below a parent and perhaps a grandparent
pub record Stands (plan : TablePlan) (w : View) (op : Op) (node : ℕ) (parent : Passed) (grandparent : Option Passed) : Type 0 where
  pub search : w.worker.search ≡ below node parent (seen_any grandparent)
  pub met : IsTold w (Met node)
  pub there : InTable plan.last_card node
  pub passed : KnowsPassed plan.last_card w parent
  pub passed_above : IfSome grandparent (λ x. KnowsPassed plan.last_card w x)
  pub fits : FitsBelow (flat_from plan) w op parent.node
  pub unknown : EndWasUnknownAt w parent
  pub unknown_above : IfSome grandparent (EndWasUnknownAt w)

-- an update is read in a step, and so are a key and a value
pub upd_seeks : (old new : PassModel) (x : ℕ) (u : Update) → Sees old new (after_upd x u old.view) → KeepsAllButSearch old new 1
upd_seeks old new x u s = keeps_but_search_unseen old new (after_upd x u old.view) s (upd_keeps x u old.view) refl refl refl refl refl

pub key_seeks : (old new : PassModel) (x key : ℕ) → Sees old new (after_key_of x key old.view) → KeepsAllButSearch old new 1
key_seeks old new x key s = keeps_but_search_unseen old new (after_key_of x key old.view) s (key_of_keeps x key old.view) refl refl refl refl refl

pub value_seeks : (old new : PassModel) (x value : ℕ) → Sees old new (after_value_of x value old.view) → KeepsAllButSearch old new 1
value_seeks old new x value s = keeps_but_search_unseen old new (after_value_of x value old.view) s (value_of_keeps x value old.view) refl refl refl refl refl

-- a search may go on below the root
pub root_passes : (from : ℕ) (op : Op) (key : ℕ) → MayPass from op 0 key
root_passes from (Insert k value) key = λ has. absurd (no_root from has)
  where
    no_root : (n : ℕ) → has_block n 0 ≡ true → ⊥
    no_root n has = let past = block_past n 0 refl has in let some = flat_by n 0 has in omega arith
root_passes from (Find k) key = tt
root_passes from (Delete k) key = tt
root_passes from (Swap k was value) key = tt

-- a node whose key was told goes by in two steps: its update, its child word
module _ (a b e : PassModel) (x : ℕ) (u : Update) (l : Link) (read : Sees a b (after_upd x u a.view)) (gone : Sees b e (after_down x (linked l) b.view)) where
  read_view : b.view ≡ after_upd x u a.view
  read_view = view_seen a b (after_upd x u a.view) read

  gone_view : e.view ≡ after_down x (linked l) (after_upd x u a.view)
  gone_view = view_seen b e (after_down x (linked l) b.view) gone ∙ ap (after_down x (linked l)) read_view

  pub descend_seeks : KeepsAllButSearch a e 2
  descend_seeks =
      keeps_but_search_trans a b e 1 1 2 (upd_seeks a b x u read)
      (keeps_but_search_unseen b e (after_down x (linked l) b.view) gone (down_keeps x (linked l) b.view) refl refl refl refl refl) (omega arith)

  pub descend_uncounted : HasUncounted a e 2
  descend_uncounted =
      uncounted_trans a b e 1 1 (uncounted_one a b (after_upd x u a.view) read refl) (uncounted_one b e (after_down x (linked l) b.view) gone refl)

  pub descend_search : IsLink l → e.view.worker.search ≡ below l.node (record { node = x; update = u; tag = l.tag }) a.view.worker.search.parent
  descend_search small = ap (λ (v : View). v.worker.search) gone_view
      ∙ ap (λ (m : Link). below m.node (record { node = x; update = u; tag = m.tag }) a.view.worker.search.parent) (link_same l (word_node l small))

  pub descend_met : IsLink l → IsTold e.view (Met l.node)
  descend_met small = subst (λ (m : Link). IsTold e.view (Met m.node)) (link_same l (word_node l small))
      (subst (λ (v : View). IsTold v (Met (link_in (linked l)).node)) (sym gone_view) (latest _ _))

  pub descend_deeper : IsLink l → depth_of a.view x < depth_of e.view l.node
  descend_deeper small =
      let first = after_upd x u a.view in
      let still = depth_more a.view.told first.told (places_more x u.state u.card a.view.told) x in
      let deep = went_deeper first e.view (after_down x (linked l) first) x (link_in (linked l)).node l.node gone_view
      (ap (λ (m : Link). m.node) (link_same l (word_node l small))) refl in
      omega arith

  pub descend_passed : (cards : ℕ) → IsLink l → IsInnerMet cards a.view x → u.card ≤ cards → KnowsPassed cards e.view (record { node = x; update = u; tag = l.tag })
  descend_passed cards small node named =
      let v = after_upd x u a.view in
      let w = after_down x (linked l) v in
      record {
        seen = subst (λ (y : View). IsSeenAt cards y x u) (sym gone_view)
            (seen_kept cards v w x u (down_keeps x (linked l) v) (record {
              node = record { met = places_more x u.state u.card a.view.told (Met x) node.met; inner = node.inner; there = node.there };
              named = named;
              place = place_told x u.state u.card a.view v refl refl;
            }));
        tag = small.tag;
      }

  pub descend_unknown : EndWasUnknown a.view u.state u.card → EndWasUnknownAt e.view (record { node = x; update = u; tag = l.tag })
  descend_unknown unknown = subst (λ (y : View). EndWasUnknownAt y (record { node = x; update = u; tag = l.tag })) (sym gone_view) unknown

  pub descend_fits : (from : ℕ) (op : Op) (key : ℕ) → IsTold a.view (Key x key) → MayPass from op x key → FitsBelow from e.view op x
  descend_fits from op key told may = by op may
    where
      by : (o : Op) → MayPass from o x key → FitsBelow from e.view o x
      by (Insert k value) inside = λ has. (key, descend_seeks.keeps.view.told (Key x key) told, inside has)
      by (Find k) inside = tt
      by (Delete k) inside = tt
      by (Swap k was value) inside = tt

-- what a search went by stays so
pub fits_kept : (from : ℕ) (a b : View) (op : Op) (x : ℕ) → LosesNothing a b → FitsBelow from a op x → FitsBelow from b op x
fits_kept from a b (Insert k value) x k' h = λ has. let told = h has in (told.0, k'.told (Key x told.0) told.1, told.2)
fits_kept from a b (Find k) x k' h = tt
fits_kept from a b (Delete k) x k' h = tt
fits_kept from a b (Swap k was value) x k' h = tt

-- what was unknown is unknown as long as the search goes on
pub unknown_kept : (a b : View) (x : Passed) → LosesNothing a b → EndWasUnknownAt a x → EndWasUnknownAt b x
unknown_kept a b x k h = subst (λ (fs : List Fact). x.update.state ≢ state.Clean → (0 < x.update.card) × (¬ EndedBy fs x.update.card)) (sym k.before) h

unknown_any_kept : (a b : View) (o : Option Passed) → LosesNothing a b → IfSome o (EndWasUnknownAt a) → IfSome o (EndWasUnknownAt b)
unknown_any_kept a b None k h = tt
unknown_any_kept a b (Some x) k h = unknown_kept a b x k h

-- what is so of the node above the parent, if there is one
pub unknown_above : (v : View) (o : Option Passed) (x : Passed) → o ≡ Some x → IfSome o (EndWasUnknownAt v) → EndWasUnknownAt v x
unknown_above v o x e h = subst (λ p. IfSome p (EndWasUnknownAt v)) e h

pub passed_above : (cards : ℕ) (v : View) (o : Option Passed) (x : Passed) → o ≡ Some x → IfSome o (λ y. KnowsPassed cards v y) → KnowsPassed cards v x
passed_above cards v o x e h = subst (λ p. IfSome p (λ y. KnowsPassed cards v y)) e h

pub named_above : (cards : ℕ) (v : View) (o : Option Passed) (x : Passed) → o ≡ Some x → IfSome o (λ y. KnowsPassed cards v y) → x.update.card ≤ cards
named_above cards v o x e h = (passed_above cards v o x e h).seen.named

-- a try that has met nothing met all that came to be in the way meanwhile
pub searched_in_try : (plan : TablePlan) (op : Op) (place : Place) (v : View) → HasSearched plan op place v → v.hindrances ≡ v.met ++ v.hindrances
searched_in_try plan op place v h = ap (λ hs. hs ++ v.hindrances) (sym h.unmet)

-- what a search passed stays so
pub passes_kept : (cards : ℕ) (a b : View) (x : Passed) → LosesNothing a b → KnowsPassed cards a x → KnowsPassed cards b x
passes_kept cards a b x k h = record { seen = seen_kept cards a b x.node x.update k h.seen; tag = h.tag }

passes_any_kept : (cards : ℕ) (a b : View) (o : Option Passed) → LosesNothing a b → IfSome o (λ x. KnowsPassed cards a x) → IfSome o (λ x. KnowsPassed cards b x)
passes_any_kept cards a b None k h = tt
passes_any_kept cards a b (Some x) k h = passes_kept cards a b x k h

-- a search that stood below a parent has that as the grandparent a node deeper
pub stands_next : (plan : TablePlan) (op : Op) (a b : View) (x child : ℕ) (parent passed : Passed) (above : Option Passed) → LosesNothing a b
    → Stands plan a op x parent above → b.worker.search ≡ below child passed a.worker.search.parent
    → IsTold b (Met child) → InTable plan.last_card child → KnowsPassed plan.last_card b passed → FitsBelow (flat_from plan) b op passed.node → EndWasUnknownAt b passed
    → Stands plan b op child passed (Some parent)
stands_next plan op a b x child parent passed above k h search met there passes fits unknown = record {
  search = search ∙ ap (λ (s : Search). below child passed s.parent) h.search;
  met = met;
  there = there;
  passed = passes;
  passed_above = passes_kept plan.last_card a b parent k h.passed;
  fits = fits;
  unknown = unknown;
  unknown_above = unknown_kept a b parent k h.unknown;
}

-- and stands there still where it has asked the node's key
pub stands_asked : (plan : TablePlan) (op : Op) (a b : PassModel) (x key : ℕ) (parent : Passed) (above : Option Passed) → Sees a b (after_key_of x key a.view)
    → Stands plan a.view op x parent above → Stands plan b.view op x parent above
stands_asked plan op a b x key parent above s h =
    let k = (key_seeks a b x key s).keeps.view in record {
      search = ap (λ (v : View). v.worker.search) (view_seen a b (after_key_of x key a.view) s) ∙ h.search;
      met = k.told (Met x) h.met;
      there = h.there;
      passed = passes_kept plan.last_card a.view b.view parent k h.passed;
      passed_above = passes_any_kept plan.last_card a.view b.view above k h.passed_above;
      fits = fits_kept (flat_from plan) a.view b.view op parent.node k h.fits;
      unknown = unknown_kept a.view b.view parent k h.unknown;
      unknown_above = unknown_any_kept a.view b.view above k h.unknown_above;
    }

-- what was told of the node where a search stands, whose key it has asked
pub record HasAsked (from : ℕ) (w : View) (x key : ℕ) : Type 0 where
  pub here : w.here ≡ Some key
  pub told : IsTold w (Key x key)
  pub tells : TellsKey from w x key

pub asked_there : (from : ℕ) (a b : PassModel) (x key : ℕ) → StandsAt a.view x → Sees a b (after_key_of x key a.view) → TellsKey from a.view x key → HasAsked from b.view x key
asked_there from a b x key stands s tells =
    subst (λ (v : View). HasAsked from v x key) (sym (view_seen a b (after_key_of x key a.view) s)) (record {
      here = told_here a.view.worker.search.node a.view.here x key stands;
      told = latest _ _;
      tells = record { present = tells.present; deep = tells.deep; edge = tells.edge; own = tells.own };
    })

-- a search begins at the root, whose key it has asked
pub root_asked : (from : ℕ) (op : Op) (a b : PassModel) (key : ℕ) → AtRoot op a.view → Sees a b (after_key_of 0 key a.view) → TellsKey from a.view 0 key
    → HasAsked from b.view 0 key × (b.view.worker.search ≡ at_root)
root_asked from op a b key root s tells = (
  asked_there from a b 0 key (ap (λ (r : Search). r.node) root.root) s tells,
  ap (λ (v : View). v.worker.search) (view_seen a b (after_key_of 0 key a.view) s) ∙ root.root,
)

-- its depth is as it was
pub asked_depth : (a b : PassModel) (x key y : ℕ) → Sees a b (after_key_of x key a.view) → depth_of b.view y ≡ depth_of a.view y
asked_depth a b x key y s = ap (λ (v : View). depth_of v y) (view_seen a b (after_key_of x key a.view) s)

-- what a ledger has of a key, if it has it where the place has the key, and with the place's value then
there_by : (o : Option ℕ) (place : Place) (k : ℕ) → is_some o ≡ (place.key == k) → (place.key ≡ k → o ≡ Some place.value) → o ≡ there_at place k
there_by o place k some same = by (place.key == k) refl
  where
    none : (p : Option ℕ) → is_some p ≡ false → p ≡ None
    none None e = refl
    none (Some x) e = absurd (true≢false e)

    by : (t : Bool) → (place.key == k) ≡ t → o ≡ (if t then Some place.value else None)
    by true e = same (eqb-true place.key k e)
    by false e = none o (some ∙ e)

-- a search that stands at a leaf, whose key it has asked, asks its value and ends there
pub search_ends : (plan : TablePlan) (a b : PassModel) (op : Op) (place : Place) → Sees a b (after_value_of place.node place.value a.view) → Does a.view op
    → IsLeaf place.node → Stands plan a.view op place.node place.parent place.grandparent → HasAsked (flat_from plan) a.view place.node place.key
    → TellsLedgerValue a.view place.node place.value → EndsAt plan b.view op place
search_ends plan a b op place s busy outer h asked says =
    let stands : StandsAt a.view place.node = ap (λ (r : Search). r.node) h.search in
    let w = after_value_of place.node place.value a.view in
    let kept = value_of_keeps place.node place.value a.view in
    subst (λ (y : View). EndsAt plan y op place) (sym (view_seen a b w s)) (record {
      at = record {
        search = h.search;
        told = asked.here;
        leaf = λ leaf. latest _ _;
        value = ap (λ t. if t then 0 else told_value w.told place.node) (ne_eqb (place.node % 4) 0 outer)
            ∙ ap (λ t. if t then place.value else told_value a.view.told place.node) (eq-eqb place.node place.node refl);
      };
      node = h.there;
      edge = λ inner. absurd (outer inner);
      outer = λ same. outer;
      passed = passes_kept plan.last_card a.view w place.parent kept h.passed;
      passed_above = passes_any_kept plan.last_card a.view w place.grandparent kept h.passed_above;
      fits = fits_kept (flat_from plan) a.view w op place.parent.node kept h.fits;
      unknown = unknown_kept a.view w place.parent kept h.unknown;
      unknown_above = unknown_any_kept a.view w place.grandparent kept h.unknown_above;
      there = λ owns. there_by (contents_in (ledger_of a.view.worker.ledger) (key_of op)) place (key_of op) (asked.tells.present op busy stands outer owns)
          (λ same. says op busy stands (asked.here ∙ ap Some same) owns);
      deep = λ same none. asked.tells.deep op busy stands outer same (ap (λ (r : Search). r.grandparent) h.search ∙ ap seen_any none);
    })

-- an insert's ends at an internal node whose block lacks its key
pub search_ends_above : (plan : TablePlan) (v : View) (op : Op) (place : Place) → place.value ≡ 0 → Does v op → IsInternal place.node
    → Stands plan v op place.node place.parent place.grandparent → HasAsked (flat_from plan) v place.node place.key → EndsAbove (flat_from plan) op place.node place.key
    → EndsAt plan v op place
search_ends_above plan v op place none busy inner h asked above = record {
  at = record {
    search = h.search;
    told = asked.here;
    leaf = λ outer. absurd (outer inner);
    value = ap (λ t. if t then 0 else told_value v.told place.node) (eq-eqb (place.node % 4) 0 inner) ∙ sym none;
  };
  node = h.there;
  edge = λ i. above;
  outer = λ same. absurd (apart same);
  passed = h.passed;
  passed_above = h.passed_above;
  fits = h.fits;
  unknown = h.unknown;
  unknown_above = h.unknown_above;
  there = λ owns. absent op above owns busy ∙ sym (ap (λ t. if t then Some place.value else None) (ne_eqb place.key (key_of op) apart));
  deep = λ same. absurd (apart same);
}
  where
    stands : StandsAt v place.node
    stands = ap (λ (r : Search). r.node) h.search

    apart_by : (o : Op) → EndsAbove (flat_from plan) o place.node place.key → place.key ≢ key_of o
    apart_by (Insert k value) e same = e.1 (subst (InBlockOf place.key) same (asked.tells.own inner e.0))
    apart_by (Find k) e same = e
    apart_by (Delete k) e same = e
    apart_by (Swap k was value) e same = e

    apart : place.key ≢ key_of op
    apart = apart_by op above

    absent : (o : Op) → EndsAbove (flat_from plan) o place.node place.key → ledger_of v.worker.ledger (key_of o) ≢ None → Does v o
        → contents_in (ledger_of v.worker.ledger) (key_of o) ≡ None
    absent (Insert k value) e owns does = asked.tells.edge (Insert k value) does stands inner e.0 e.1 owns
    absent (Find k) e owns does = absurd e
    absent (Delete k) e owns does = absurd e
    absent (Swap k was value) e owns does = absurd e

-- a place tells what its leaf has of a key
tells_of : (v : View) (place : Place) (k : ℕ) → IsLeaf place.node → IsAt v place → TellsOf v place.node place.key k (there_at place k)
tells_of v place k outer at = by (place.key == k) refl
  where
    by : (t : Bool) → (place.key == k) ≡ t → TellsOf v place.node place.key k (if t then Some place.value else None)
    by true e = (eqb-true place.key k e, at.leaf outer)
    by false e = λ same. true≢false (sym (eq-eqb place.key k same) ∙ e)

-- where a search ended at a leaf, an operation may be answered by what is there of its key
pub may_answer : (v : View) (op : Op) (place : Place) (said : Reply) → Does v op → IsLeaf place.node → IsAt v place
    → leaf_answer op (there_at place (key_of op)) ≡ Some said → MayAnswer v said None
may_answer v op place said busy outer at says = record {
  op = op;
  busy = busy;
  answers = inl (record {
    leaf = place.node;
    key = place.key;
    there = there_at place (key_of op);
    stands = ap (λ (s : Search). s.node) at.search;
    outer = outer;
    told = at.told;
    tells = tells_of v place (key_of op) outer at;
    says = says;
  });
  takes = tt;
}
