-- What is known by names after a call is what is known after the call by names: so what memory tells of a pass needs no numbers.
use Rattle.std.proofs.Common.{◌≡◌, ℕ, Some, refl}
use Rattle.ell_word.specs.declared.update.State.TheVariants as state
use Rattle.ell_core.specs.declared.exchange.Exchange.TheVariants as exchange
use Rattle.ell_core.specs.declared.fact.Fact.TheVariants as fact
use Rattle.ell_runs.specs.declared.call.Call.{Call}
use Rattle.ell_runs.specs.declared.call.Call.TheVariants as call
use Rattle.ell_runs.specs.declared.view.View.{View}
use Rattle.ell_runs.specs.Calls.{after}
use Rattle.ell_runs.specs.Named.{IsNaming, GoesByName, named_node, named_child, named_call, named_by, named, unread}
use Rattle.ell_runs.proofs.lemmas.named.NamedWords.{links_alike, updates_alike}
use Rattle.ell_runs.proofs.lemmas.named.NamedSearches.{begin_named, again_named, leave_named, rest_named, answer_named, upd_named, down_named, key_of_named, info_named, frozen_child_named, look_named, look_down_named}
use Rattle.ell_runs.proofs.lemmas.named.NamedExchanges.{flag_named, mark_named, taught_named}

-- by names a call does to a view by names what it does to the view
pub steps_are_named : (name : ℕ → ℕ) → IsNaming name → (c : Call) (n : ℕ) (v : View) → GoesByName name c n
    → named name (after c n v) ≡ unread (after (named_call name c) (named_by name c n) (named name v))
steps_are_named name naming (call.Begin op) n v goes = begin_named name naming (Some op) v
steps_are_named name naming call.Again n v goes = again_named name naming n v
steps_are_named name naming call.Leave n v goes = leave_named name naming n v
steps_are_named name naming (call.Answer said took) n v goes = answer_named name naming said took v
steps_are_named name naming (call.Upd x) n v goes = upd_named name naming x n v
steps_are_named name naming (call.Down x right) n v goes = down_named name naming x right n v goes
steps_are_named name naming call.Next n v goes = refl
steps_are_named name naming (call.KeyOf x) n v goes = key_of_named name naming x n v
steps_are_named name naming (call.ValueOf x) n v goes = refl
steps_are_named name naming (call.Info c f) n v goes = info_named name naming c f n v goes
steps_are_named name naming (call.FrozenChild c p right) n v goes = frozen_child_named name naming c p right n v goes
steps_are_named name naming call.Look n v goes = look_named name naming n v goes
steps_are_named name naming (call.LookDown from to right) n v goes = look_down_named name naming from to right n v goes
steps_are_named name naming call.Rest n v goes = rest_named name naming v
steps_are_named name naming (call.Claim c node) n v goes = absurd goes
steps_are_named name naming (call.Fill c f value) n v goes = refl
steps_are_named name naming (call.IFlag c p from) n v goes = flag_named name naming exchange.IFlag c (fact.IFlagged c) p from n v
steps_are_named name naming (call.IChild c p l replaces right) n v goes =
    taught_named name naming exchange.IChild c (fact.IChanged c) n (named_child name n) v _ _ (links_alike name naming n l goes)
steps_are_named name naming (call.IUnflag c p) n v goes =
    taught_named name naming exchange.IUnflag c (fact.IOver c) n (named_node name n) v _ _ (updates_alike name naming n (record { state = state.IFlag; card = c }))
steps_are_named name naming (call.DFlag c gp from) n v goes = flag_named name naming exchange.DFlag c (fact.DFlagged c) gp from n v
steps_are_named name naming (call.Mark c p was) n v goes = mark_named name naming c p was n v
steps_are_named name naming (call.DChild c gp p s right) n v goes =
    taught_named name naming exchange.DChild c (fact.Cut c) n (named_child name n) v _ _ (links_alike name naming n p goes)
steps_are_named name naming (call.DUnflag c gp) n v goes =
    taught_named name naming exchange.DUnflag c (fact.DOver c) n (named_node name n) v _ _ (updates_alike name naming n (record { state = state.DFlag; card = c }))
steps_are_named name naming (call.Backtrack c gp) n v goes =
    taught_named name naming exchange.Backtrack c (fact.Backed c) n (named_node name n) v _ _ (updates_alike name naming n (record { state = state.DFlag; card = c }))
