use Rattle.std.proofs.Common.{◌≡◌, ◌∙◌, Option, Some, None, inl, inr, ap, sym, codes, refl, true, false}
use Rattle.std.specs.Prelude.{IsSome, option_map, unwrap_or}
use Rattle.std.specs.Str.{bytes_eq}
use Rattle.std.proofs.lemmas.Slice.Eq.{bytes_eq-Decides}
use Rattle.clap.specs.Words.{found_of}
use Rattle.clap.proofs.WalkLemmas.{first_value-rows}
use Rattle.ell_command.proofs.request.parting_in.Goals as goal

-- a value that is mapped to one is there
some_mapped : {X Y : Type 0} (f : X → Y) (o : Option X) (y : Y) → option_map f o ≡ Some y → IsSome o
some_mapped f None y is = absurd (cc)
some_mapped f (Some x) y is = refl

pub unwrap-name-requires : goal.unwrap-name-requires
unwrap-name-requires c =
    let text = c.get_str.ensures ∙ first_value-rows (found_of c.args.options.now) (codes "parting") in
    elim c.requires.parting [
      | inl is ↦ some_mapped _ c.get_str.result _ (text ∙ is)
      | inr is ↦ some_mapped _ c.get_str.result _ (text ∙ is)
    ]

pub returns-then-eq : goal.returns-then-eq
returns-then-eq c =
    let text = sym (c.get_str.ensures ∙ first_value-rows (found_of c.args.options.now) (codes "parting")) in
    let is = (bytes_eq-Decides c.unwrap-name.result.now (codes "range")).0 (sym c.eq.ensures ∙ c.if-eq.true) in
    text ∙ (ap (option_map (λ s. s.now)) c.unwrap-name.ensures ∙ ap Some is)

pub returns-else-eq : goal.returns-else-eq
returns-else-eq c =
    let text = c.get_str.ensures ∙ first_value-rows (found_of c.args.options.now) (codes "parting") in
    let name = c.unwrap-name.result.now in
    elim c.requires.parting [
      | inl is ↦ is
      | inr is ↦
          let named : Some name ≡ Some (codes "range") = sym (ap (option_map (λ s. s.now)) c.unwrap-name.ensures) ∙ (text ∙ is) in
          let same : bytes_eq name (codes "range") ≡ true = (bytes_eq-Decides name (codes "range")).1 (ap (λ o. unwrap_or o name) named) in
          let bad : true ≡ false = sym same ∙ (sym c.eq.ensures ∙ c.if-eq.false) in
          absurd (cc)
    ]
