-- Facts and hindrances by names: what is known, and what was in the way of an operation.
use Rattle.std.proofs.Common.{◌≡◌, ℕ, ◌+◌, ◌++◌, ◌||◌, ◌&&◌, if◌then◌else◌, map, Option, Some, None, List, [], ◌∷◌, refl, sym, ap, ◌∙◌}
use Rattle.std.specs.Option.{option_map}
use Rattle.std.specs.List.{list_all}
use Rattle.std.proofs.lemmas.List.{map-append}
use Rattle.ell_ops.specs.declared.op.Op.{Op}
use Rattle.ell_ops.specs.declared.op.Op.TheVariants.{Find, Insert, Delete, Swap}
use Rattle.ell_word.specs.declared.update.State.{State}
use Rattle.ell_word.specs.declared.update.State.TheVariants as state
use Rattle.ell_word.specs.declared.update.Update.{Update}
use Rattle.ell_word.specs.Word.{unpacked}
use Rattle.ell_core.specs.declared.fact.Fact.{Fact}
use Rattle.ell_core.specs.declared.fact.Fact.TheVariants as fact
use Rattle.ell_core.specs.declared.view.Seen.{Seen}
use Rattle.ell_core.specs.state.Facts.{known_of, same_fact}
use Rattle.ell_runs.specs.declared.view.Hindrance.{Hindrance}
use Rattle.ell_runs.specs.declared.view.Hindrance.TheVariants.{Claim, Found}
use Rattle.ell_runs.specs.declared.view.View.{View}
use Rattle.ell_runs.specs.Changes.{first_in_way, after_try, in_the_way, is_over, knows_delete, read_in_way, unless_clean, update_over, was_hindered, way_now}
use Rattle.ell_runs.specs.Named.{IsNaming, named_node, named_seen, named_fact, named_hindrance, named}
use Rattle.ell_runs.specs.Views.{knows_end}
use Rattle.ell_runs.proofs.lemmas.named.NamedWords.{cards_alike, unpacked_named}

module _ (name : ℕ → ℕ) (naming : IsNaming name) where
  -- facts are the same as they are by names
  same_fact_named : (f g : Fact) → same_fact (named_fact name f) (named_fact name g) ≡ same_fact f g
  same_fact_named (fact.IFlagged c) (fact.IFlagged d) = cards_alike name naming c d
  same_fact_named (fact.IChanged c) (fact.IChanged d) = cards_alike name naming c d
  same_fact_named (fact.IOver c) (fact.IOver d) = cards_alike name naming c d
  same_fact_named (fact.DFlagged c) (fact.DFlagged d) = cards_alike name naming c d
  same_fact_named (fact.Marked c) (fact.Marked d) = cards_alike name naming c d
  same_fact_named (fact.Unmarkable c) (fact.Unmarkable d) = cards_alike name naming c d
  same_fact_named (fact.Cut c) (fact.Cut d) = cards_alike name naming c d
  same_fact_named (fact.DOver c) (fact.DOver d) = cards_alike name naming c d
  same_fact_named (fact.Backed c) (fact.Backed d) = cards_alike name naming c d
  same_fact_named _ _ = refl

  -- a fact is known as it is by names
  pub known_named : (facts : List Fact) (f : Fact) → known_of (map (named_fact name) facts) (named_fact name f) ≡ known_of facts f
  known_named [] f = refl
  known_named (g ∷ facts) f = λ t. same_fact_named f g t || known_named facts f t

  -- so is the end of a card, and that it is a delete's
  ends_named : (facts : List Fact) (c : ℕ) → knows_end (map (named_fact name) facts) (name c) ≡ knows_end facts c
  ends_named facts c = λ t. known_named facts (fact.IOver c) t || (known_named facts (fact.DOver c) t || known_named facts (fact.Backed c) t)

  pub deletes_named : (facts : List Fact) (c : ℕ) → knows_delete (map (named_fact name) facts) (name c) ≡ knows_delete facts c
  deletes_named facts c = λ t. known_named facts (fact.DFlagged c) t || known_named facts (fact.Marked c) t

  -- what was in the way is over as it is by names
  update_over_named : (facts : List Fact) (s : State) (c : ℕ) → update_over (map (named_fact name) facts) s (name c) ≡ update_over facts s c
  update_over_named facts state.Clean c = refl
  update_over_named facts state.IFlag c = ends_named facts c
  update_over_named facts state.DFlag c = ends_named facts c
  update_over_named facts state.Mark c = ends_named facts c

  over_named : (facts : List Fact) (h : Hindrance) → is_over (map (named_fact name) facts) (named_hindrance name h) ≡ is_over facts h
  over_named facts (Claim c) = refl
  over_named facts (Found u) = update_over_named facts u.state u.card

  all_over_named : (facts : List Fact) (hs : List Hindrance)
      → list_all (is_over (map (named_fact name) facts)) (map (named_hindrance name) hs) ≡ list_all (is_over facts) hs
  all_over_named facts [] = refl
  all_over_named facts (h ∷ hs) = λ t. over_named facts h t && all_over_named facts hs t

  -- a try was hindered as it was by names
  hindered_named : (facts : List Fact) (hs : List Hindrance) → was_hindered (map (named_fact name) facts) (map (named_hindrance name) hs) ≡ was_hindered facts hs
  hindered_named facts [] = refl
  hindered_named facts (h ∷ hs) = all_over_named facts (h ∷ hs)

  -- what a search has read in the way, by names, it has read by names
  unless_named : (s : State) (c : ℕ) → map (named_hindrance name) (unless_clean s c) ≡ unless_clean s (name c)
  unless_named state.Clean c = refl
  unless_named state.IFlag c = refl
  unless_named state.DFlag c = refl
  unless_named state.Mark c = refl

  read_in_way_named : (o : Option Seen) → map (named_hindrance name) (read_in_way o) ≡ read_in_way (option_map (named_seen name) o)
  read_in_way_named None = refl
  read_in_way_named (Some seen) =
      unless_named (unpacked seen.word).state (unpacked seen.word).card
      ∙ ap (λ (u : Update). unless_clean u.state u.card) (sym (unpacked_named name naming seen.word))

  first_named : (hs those : List Hindrance) → map (named_hindrance name) (first_in_way hs those) ≡ first_in_way (map (named_hindrance name) hs) (map (named_hindrance name) those)
  first_named [] those = refl
  first_named (h ∷ hs) those = refl

  way_for : (op : Option Op) (node : Option ℕ) (parent above : Option Seen) → map (named_hindrance name) (in_the_way op node parent above)
      ≡ in_the_way op (option_map (named_node name) node) (option_map (named_seen name) parent) (option_map (named_seen name) above)
  way_for (Some (Insert k value)) (Some _) parent above = read_in_way_named parent
  way_for (Some (Swap k was value)) (Some _) parent above = read_in_way_named parent
  way_for (Some (Delete k)) (Some _) parent above =
      first_named (read_in_way above) (read_in_way parent) ∙ (λ t. first_in_way (read_in_way_named above t) (read_in_way_named parent t))
  way_for (Some (Insert k value)) None parent above = refl
  way_for (Some (Swap k was value)) None parent above = refl
  way_for (Some (Delete k)) None parent above = refl
  way_for (Some (Find k)) _ parent above = refl
  way_for None _ parent above = refl

  -- what a search has read in the way, by names, it has read by names
  way_named : (v : View) → map (named_hindrance name) (way_now v) ≡ way_now (named name v)
  way_named v = way_for v.worker.operation v.worker.search.node v.worker.search.parent v.worker.search.grandparent

  with_way : (v : View) (hs : List Hindrance) → map (named_hindrance name) (way_now v ++ hs) ≡ way_now (named name v) ++ map (named_hindrance name) hs
  with_way v hs = map-append (named_hindrance name) (way_now v) hs ∙ ap (λ ws. ws ++ map (named_hindrance name) hs) (way_named v)

  -- a try that is given up
  pub after_try_named : (v : View) → named name (after_try v) ≡ after_try (named name v)
  after_try_named v = λ t. record (named name v) { hindrances = with_way v v.hindrances t; hindered = v.hindered + (if was t then 1 else 0) }
    where
      was : was_hindered v.worker.knows (way_now v ++ v.met) ≡ was_hindered (map (named_fact name) v.worker.knows) (way_now (named name v) ++ map (named_hindrance name) v.met)
      was = sym (hindered_named v.worker.knows (way_now v ++ v.met)) ∙ ap (was_hindered (map (named_fact name) v.worker.knows)) (with_way v v.met)
