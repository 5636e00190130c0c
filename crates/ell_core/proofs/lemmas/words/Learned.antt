use Rattle.std.proofs.Common.{◌≡◌, Bool, true, false, ◌||◌, Option, Some, None, refl}
use Rattle.ell_core.specs.declared.fact.Fact.{Fact}
use Rattle.ell_core.specs.state.Facts.{Knowledge, same_fact, learned, learned_any}
use Rattle.ell_core.proofs.lemmas.words.SameFact.{same_fact-itself}

true_or : (a b : Bool) → a ≡ true → (a || b) ≡ true
true_or true b h = refl
true_or false b h = absurd (cc)

or_true : (a b : Bool) → b ≡ true → (a || b) ≡ true
or_true true b h = refl
or_true false b h = h

-- what is learned is known
pub learned_knows : (known : Knowledge) (new : Fact) → learned known new new ≡ true
learned_knows known new = true_or (same_fact new new) (known new) (same_fact-itself new)

-- what was known stays known with another fact
pub learned_keeps : (known : Knowledge) (new fact : Fact) → known fact ≡ true → learned known new fact ≡ true
learned_keeps known new fact h = or_true (same_fact fact new) (known fact) h

-- and with another one, if there is one
pub learned_any_keeps : (known : Knowledge) (new : Option Fact) (fact : Fact) → known fact ≡ true → learned_any known new fact ≡ true
learned_any_keeps known None fact h = h
learned_any_keeps known (Some new) fact h = learned_keeps known new fact h
