-- What a pass knows after a call, by the words that the call has.
use Rattle.std.proofs.Common.{ℕ, Bool, false}
use Rattle.ell_layout.specs.declared.field.Field.{Field}
use Rattle.ell_runs.specs.declared.call.Call.TheVariants as call
use Rattle.ell_runs.specs.declared.glance.Glance.{Glance}
use Rattle.ell_runs.specs.declared.glance.Stretch.{Stretch}
use Rattle.ell_runs.specs.declared.view.View.{View}
use Rattle.ell_runs.specs.Calls.{after}

abbrev pub after_next : ℕ → View → View
after_next n v = after call.Next n v

abbrev pub after_key_of : ℕ → ℕ → View → View
after_key_of x key v = after (call.KeyOf x) key v

abbrev pub after_value_of : ℕ → ℕ → View → View
after_value_of x value v = after (call.ValueOf x) value v

abbrev pub after_info : ℕ → Field → ℕ → View → View
after_info c f x v = after (call.Info c f) x v

abbrev pub after_frozen_child : ℕ → ℕ → Bool → ℕ → View → View
after_frozen_child c p right x v = after (call.FrozenChild c p right) x v

abbrev pub after_look : ℕ → View → View
after_look child v = after call.Look child v

abbrev pub after_look_down : Glance → Stretch → Bool → ℕ → View → View
after_look_down from to right child v = after (call.LookDown from to right) child v

abbrev pub after_down : ℕ → ℕ → View → View
after_down x child v = after (call.Down x false) child v
