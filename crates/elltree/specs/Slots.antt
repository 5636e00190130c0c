use Rattle.std.specs.Prelude.{Option, Some, None}
use Rattle.elltree.specs.Owned.{Inside}
use Rattle.elltree.specs.declared.handle.Handle.{Handle}

-- the handle of a slot
abbrev pub handle_of : Option Inside → Option Handle
handle_of (Some place) = place.handle
handle_of None = None

-- a slot holds a handle, of which this is so
abbrev pub OfHandle : (Handle → Type 0) → Option Handle → Type 0
OfHandle So (Some handle) = So handle
OfHandle So None = ⊥

-- a slot holds a handle as before, and this is so of it before and after
abbrev pub OfHandles : (Handle → Handle → Type 0) → Option Handle → Option Handle → Type 0
OfHandles So (Some old) (Some new) = So old new
OfHandles So (Some old) None = ⊥
OfHandles So None new = ⊥

-- that, or a slot holds nothing as before
abbrev pub OfHandlesIfAny : (Handle → Handle → Type 0) → Option Handle → Option Handle → Type 0
OfHandlesIfAny So (Some old) (Some new) = So old new
OfHandlesIfAny So (Some old) None = ⊥
OfHandlesIfAny So None (Some new) = ⊥
OfHandlesIfAny So None None = Unit {0}

-- a slot holds a handle as before, and another slot another handle; of the three this is so
abbrev pub OfThree : (Handle → Handle → Handle → Type 0) → Option Handle → Option Handle → Option Handle → Type 0
OfThree So (Some old) (Some new) (Some other) = So old new other
OfThree So (Some old) (Some new) None = ⊥
OfThree So (Some old) None other = ⊥
OfThree So None new other = ⊥
