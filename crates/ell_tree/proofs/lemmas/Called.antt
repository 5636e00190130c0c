use Rattle.std.proofs.Common.{ℕ, Option, Some, None, IfSome}
use Rattle.ell_ops.specs.declared.op.Op.{Op}
use Rattle.ell_ops.specs.declared.op.Op.TheVariants.{Find, Insert, Delete, Swap}
use Rattle.ell_ops.specs.declared.reply.Reply.{Reply}
use Rattle.ell_runs.specs.declared.view.View.{View}
use Rattle.ell_runs.specs.Guards.{TakesBy}
use Rattle.ell_tree.specs.Called.{ByItsTake}

-- what is so of what an operation took, and what follows from it
pub by_take : (op : Op) (Is Then : Option ℕ → Type 0) → ((took : Option ℕ) → Is took → Then took) → ByItsTake op Is → ByItsTake op Then
by_take (Find key) Is Then on h = on None h
by_take (Insert key value) Is Then on h = on None h
by_take (Delete key) Is Then on h = (h.0, on h.0 h.1)
by_take (Swap key was value) Is Then on h = on None h

pub its_take : (op : Op) (Is : Option ℕ → Type 0) → ByItsTake op Is → (took : Option ℕ) × Is took
its_take (Find key) Is h = (None, h)
its_take (Insert key value) Is h = (None, h)
its_take (Delete key) Is h = h
its_take (Swap key was value) Is h = (None, h)

-- no other operation takes a value than a delete
pub of_taken : (v : View) (op : Op) (said : Reply) (took : Option ℕ) (Is : Option ℕ → Type 0) → IfSome took (TakesBy v op said) → Is took → ByItsTake op Is
of_taken v (Delete key) said took Is may h = (took, h)
of_taken v (Find key) said None Is may h = h
of_taken v (Find key) said (Some value) Is may h = (let other = may.deletes in absurd cc)
of_taken v (Insert key value) said None Is may h = h
of_taken v (Insert key value) said (Some taken) Is may h = (let other = may.deletes in absurd cc)
of_taken v (Swap key was value) said None Is may h = h
of_taken v (Swap key was value) said (Some taken) Is may h = (let other = may.deletes in absurd cc)
