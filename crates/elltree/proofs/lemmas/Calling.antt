use Rattle.std.proofs.Common.{◌≡◌, ℤ, Option, Some, None, IfSome, subst, sym}
use Rattle.elltree.specs.declared.handle.Handle.{Handle}
use Rattle.elltree.specs.Slots.{OfHandles, OfHandlesIfAny}
use Rattle.elltree.specs.Told.{SaysWith}

-- what is so of an answer on handles that two slots hold
pub answered : {R : Type 0} (So : R → Handle → Handle → Type 0) (said : Option R) (old new : Option Handle) (answer : R) (h g : Handle)
    → said ≡ Some answer → old ≡ Some h → new ≡ Some g → So answer h g → IfSome said (λ s. OfHandles (So s) old new)
answered {R} So said old new answer h g is was now so =
    subst (λ (s : Option R). IfSome s (λ a. OfHandles (So a) old new)) (sym is)
    (subst (λ o. OfHandles (So answer) o new) (sym was) (subst (λ n. OfHandles (So answer) (Some h) n) (sym now) so))

-- what follows from it
pub follows : (So To : Handle → Handle → Type 0) (old new : Option Handle) → OfHandles So old new → ((h g : Handle) → So h g → To h g) → OfHandlesIfAny To old new
follows So To (Some h) (Some g) so implies = implies h g so
follows So To (Some h) None so implies = absurd so
follows So To None new so implies = absurd so

-- the code tells how a call has ended, and what it has found is written
pub says_with : {A W : Type 0} (IsSo : Handle → Handle → A → Type 0) (code_of : A → ℤ) (write : A → W → W) (code : ℤ) (before after : W) (said : A) (old new : Option Handle)
    → OfHandles (λ h g. IsSo h g said) old new → code ≡ code_of said → after ≡ write said before → OfHandlesIfAny (SaysWith IsSo code_of write code before after) old new
says_with IsSo code_of write code before after answer old new did is wrote = follows (λ h g. IsSo h g answer) (SaysWith IsSo code_of write code before after) old new did
    (λ h g so. record { said = answer; so = so; tells = is; writes = wrote })
