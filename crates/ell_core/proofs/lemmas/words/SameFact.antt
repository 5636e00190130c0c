use Rattle.std.proofs.Common.{◌≡◌, true, refl, ap}
use Rattle.std.proofs.lemmas.Bool.{false≢true, eq-eqb, eqb-true}
use Rattle.ell_core.specs.declared.fact.Fact.{Fact}
use Rattle.ell_core.specs.declared.fact.Fact.TheVariants as fact
use Rattle.ell_core.specs.state.Facts.{same_fact}

-- facts that are one are equal
pub same_fact-equal : (x y : Fact) → same_fact x y ≡ true → x ≡ y
same_fact-equal (fact.IFlagged c) (fact.IFlagged d) h = ap fact.IFlagged (eqb-true c d h)
same_fact-equal (fact.IChanged c) (fact.IChanged d) h = ap fact.IChanged (eqb-true c d h)
same_fact-equal (fact.IOver c) (fact.IOver d) h = ap fact.IOver (eqb-true c d h)
same_fact-equal (fact.DFlagged c) (fact.DFlagged d) h = ap fact.DFlagged (eqb-true c d h)
same_fact-equal (fact.Marked c) (fact.Marked d) h = ap fact.Marked (eqb-true c d h)
same_fact-equal (fact.Unmarkable c) (fact.Unmarkable d) h = ap fact.Unmarkable (eqb-true c d h)
same_fact-equal (fact.Cut c) (fact.Cut d) h = ap fact.Cut (eqb-true c d h)
same_fact-equal (fact.DOver c) (fact.DOver d) h = ap fact.DOver (eqb-true c d h)
same_fact-equal (fact.Backed c) (fact.Backed d) h = ap fact.Backed (eqb-true c d h)
same_fact-equal _ _ h = absurd (false≢true h)

-- a fact is itself
pub same_fact-itself : (x : Fact) → same_fact x x ≡ true
same_fact-itself (fact.IFlagged c) = eq-eqb c c refl
same_fact-itself (fact.IChanged c) = eq-eqb c c refl
same_fact-itself (fact.IOver c) = eq-eqb c c refl
same_fact-itself (fact.DFlagged c) = eq-eqb c c refl
same_fact-itself (fact.Marked c) = eq-eqb c c refl
same_fact-itself (fact.Unmarkable c) = eq-eqb c c refl
same_fact-itself (fact.Cut c) = eq-eqb c c refl
same_fact-itself (fact.DOver c) = eq-eqb c c refl
same_fact-itself (fact.Backed c) = eq-eqb c c refl
