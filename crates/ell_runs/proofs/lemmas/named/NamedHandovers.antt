-- What is known by names of passes that begin, part and come together is what they know by names; and a pass rests exactly if it does by names.
use Rattle.std.proofs.Common.{◌≡◌, ℕ, map, List, [], ◌∷◌, refl, sym, ap, ◌∙◌, subst}
use Rattle.std.specs.Option.{option_map}
use Rattle.std.proofs.lemmas.List.{map-append}
use Rattle.ell_runs.specs.declared.glance.Glance.{Glance}
use Rattle.ell_runs.specs.declared.view.Told.{Told}
use Rattle.ell_runs.specs.declared.view.Told.TheVariants.{Met, Depth, Key, Value, Info, Expects, Frozen}
use Rattle.ell_runs.specs.declared.view.View.{View}
use Rattle.ell_runs.specs.Changes.{first_of, joined_view, left_view, right_view, spent_view}
use Rattle.ell_runs.specs.Named.{IsNaming, named_node, named_fact, named_glance, named_hindrance, named_told, named_win, named}
use Rattle.ell_runs.specs.Plans.{TablePlan}
use Rattle.ell_runs.specs.Touching.{IsAtRest, IsOfRoot}
use Rattle.ell_runs.specs.Views.{Has, latest, earlier}
use Rattle.ell_runs.proofs.lemmas.named.NamedOrigins.{was_there, was_none}
use Rattle.ell_runs.proofs.lemmas.named.NamedWords.{root_named, same_named}

module _ (name : ℕ → ℕ) (naming : IsNaming name) where
  -- the root is the root by name
  root : named_node name 0 ≡ 0
  root = root_named name naming

  -- the first pass of a table, and what is left of one that was joined to another
  pub first_named : (plan : TablePlan) → named name (first_of plan) ≡ first_of plan
  first_named plan = λ t. record (first_of plan) { told = Met (root t) ∷ [] }

  pub spent_named : named name spent_view ≡ spent_view
  spent_named = λ t. record spent_view { told = Met (root t) ∷ [] }

  -- the parts of a pass
  pub left_named : (keys : List ℕ) (v : View) → named name (left_view keys v) ≡ left_view keys (named name v)
  left_named keys v = λ t. record (left_view keys (named name v)) { told = Met (root t) ∷ [] }

  pub right_named : (keys : List ℕ) (v : View) → named name (right_view keys v) ≡ right_view keys (named name v)
  right_named keys v = λ t. record (right_view keys (named name v)) { told = Met (root t) ∷ [] }

  -- two passes that are one
  pub joined_named : (v w : View) → named name (joined_view v w) ≡ joined_view (named name v) (named name w)
  joined_named v w = λ t. record (joined_view (named name v) (named name w)) {
    worker = record ((joined_view (named name v) (named name w)).worker) { knows = map-append (named_fact name) v.worker.knows w.worker.knows t };
    told = Met (root t) ∷ [];
    won = map-append (named_win name) v.won w.won t;
    hindrances = map-append (named_hindrance name) v.hindrances w.hindrances t;
  }

  -- an entry names no node but the root exactly if it does by names
  of_root_named : (e : Told) → IsOfRoot e → IsOfRoot (named_told name e)
  of_root_named (Met x) is = ap (named_node name) is ∙ root
  of_root_named (Key x key) is = ap (named_node name) is ∙ root
  of_root_named (Depth x depth) is = is
  of_root_named (Value x value) is = is
  of_root_named (Info c f x) is = is
  of_root_named (Expects c tag) is = is
  of_root_named (Frozen c right x) is = is

  of_root_whole : (e : Told) → IsOfRoot (named_told name e) → IsOfRoot e
  of_root_whole (Met x) is = same_named name naming x 0 (is ∙ sym root)
  of_root_whole (Key x key) is = same_named name naming x 0 (is ∙ sym root)
  of_root_whole (Depth x depth) is = is
  of_root_whole (Value x value) is = is
  of_root_whole (Info c f x) is = is
  of_root_whole (Expects c tag) is = is
  of_root_whole (Frozen c right x) is = is

  -- what was told was told by names
  has_named : (told : List Told) (e : Told) → Has told e → Has (map (named_told name) told) (named_told name e)
  has_named [] e none = elim none [ ]
  has_named (d ∷ told) _ (latest _ _) = latest (named_told name d) (map (named_told name) told)
  has_named (d ∷ told) e (earlier _ _ _ h) =
      earlier (named_told name e) (named_told name d) (map (named_told name) told) (has_named told e h)

  -- a look has come nowhere if it has by names
  none_come : (l : List Glance) → map (named_glance name) l ≡ [] → l ≡ []
  none_come [] e = refl
  none_come (g ∷ l) e = absurd cc

  -- a pass at rest
  pub rest_named : (v : View) → IsAtRest v → IsAtRest (named name v)
  rest_named v h = record {
    free = h.free;
    nowhere = ap (option_map (named_node name)) h.nowhere;
    empty = ap (option_map name) h.empty;
    forgot = λ e told.
        let old = was_there (named_told name) v.told e told in
        subst IsOfRoot old.is (of_root_named old.whole (h.forgot old.whole old.has));
    nothing = ap (map (named_glance name)) h.nothing;
  }

  pub rest_whole : (v : View) → IsAtRest (named name v) → IsAtRest v
  rest_whole v h = record {
    free = h.free;
    nowhere = was_none (named_node name) v.worker.search.node h.nowhere;
    empty = was_none name v.worker.card h.empty;
    forgot = λ e told. of_root_whole e (h.forgot (named_told name e) (has_named v.told e told));
    nothing = none_come v.glances h.nothing;
  }
