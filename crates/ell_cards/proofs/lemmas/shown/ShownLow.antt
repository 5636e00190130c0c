-- What is shown of what a pass knows names the low bits of nodes.
use Rattle.std.proofs.Common.{◌≡◌, ℕ, ◌<◌, Option, Some, None, option_map, refl, ap, arith}
use Rattle.std.proofs.lemmas.Option.{same_Some}
use Rattle.ell_core.proofs.lemmas.outcomes.Decide.{some_not_none}
use Rattle.ell_core.specs.declared.view.Seen.{Seen}
use Rattle.ell_word.specs.Link.{tag_unit}
use Rattle.ell_layout.specs.declared.field.Field.{Field}
use Rattle.ell_layout.specs.declared.field.Field.TheVariants as field
use Rattle.ell_runs.specs.declared.view.View.{View}
use Rattle.ell_cards.specs.Apart.{cut_node, InfoIsLow, NamesLowBits}
use Rattle.ell_cards.specs.Shown.{shown, shown_info, shown_seen}
use Rattle.ell_cards.proofs.lemmas.shown.ShownTold.{was_met, was_info, was_frozen}

cut_low : (y x : ℕ) → cut_node y ≡ x → x < tag_unit
cut_low y x is = omega arith

node_low : (o : Option ℕ) (x : ℕ) → option_map cut_node o ≡ Some x → x < tag_unit
node_low None x is = absurd (some_not_none is refl)
node_low (Some y) x is = cut_low y x (same_Some (cut_node y) x is)

seen_low : (o : Option Seen) (seen : Seen) → option_map shown_seen o ≡ Some seen → seen.node < tag_unit
seen_low None seen is = absurd (some_not_none is refl)
seen_low (Some was) seen is = cut_low was.node seen.node (ap (λ (s : Seen). s.node) (same_Some (shown_seen was) seen is))

info_low : (f : Field) (y x : ℕ) → shown_info f y ≡ x → InfoIsLow f x
info_low field.Gp y x is = cut_low y x is
info_low field.P y x is = cut_low y x is
info_low field.L y x is = cut_low y x is
info_low _ y x is = tt

pub shown_names_low : (v : View) → NamesLowBits (shown v)
shown_names_low v = record {
  met = λ x told. (let was = was_met v.told x told in cut_low was.whole x was.is);
  node = node_low v.worker.search.node;
  parent = seen_low v.worker.search.parent;
  grandparent = seen_low v.worker.search.grandparent;
  info = λ c f x told. (let was = was_info v.told c f x told in info_low f was.whole x was.is);
  frozen = λ c right x told. (let was = was_frozen v.told c right x told in cut_low was.whole x was.is);
}
