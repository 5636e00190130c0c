-- What is shown of what a pass knows after a call is what it knows after the call that is shown.
use Rattle.std.proofs.Common.{refl}
use Rattle.ell_word.specs.Word.{packed}
use Rattle.ell_layout.specs.declared.field.Field.TheVariants as field
use Rattle.ell_core.specs.declared.exchange.Exchange.TheVariants as exchange
use Rattle.ell_core.specs.declared.fact.Fact.TheVariants as fact
use Rattle.ell_runs.specs.declared.call.Call.TheVariants as call
use Rattle.ell_runs.specs.declared.view.Told.TheVariants.{Info}
use Rattle.ell_cards.specs.Shown.{StepsAreShown}
use Rattle.ell_cards.proofs.lemmas.shown.ShownSearches.{again_shown, leave_shown, answer_shown, upd_shown, down_shown, next_shown, key_of_shown, value_of_shown, info_shown, frozen_child_shown, look_shown, look_down_shown}
use Rattle.ell_cards.proofs.lemmas.shown.ShownChanges.{taught_shown, flag_shown, mark_shown}

pub steps_are_shown : StepsAreShown
steps_are_shown plan (call.Begin op) n v plain apart may can = refl
steps_are_shown plan call.Again n v plain apart may can = again_shown v
steps_are_shown plan call.Leave n v plain apart may can = leave_shown v
steps_are_shown plan (call.Answer said took) n v plain apart may can = answer_shown said took v
steps_are_shown plan (call.Upd x) n v plain apart may can = upd_shown x n v can.whole
steps_are_shown plan (call.Down x right) n v plain apart may can = down_shown plan x right n v apart may.stands
steps_are_shown plan call.Next n v plain apart may can = next_shown n v can.whole
steps_are_shown plan (call.KeyOf x) n v plain apart may can = key_of_shown plan x n v apart may can.whole
steps_are_shown plan (call.ValueOf x) n v plain apart may can = value_of_shown x n v can.whole
steps_are_shown plan (call.Info c f) n v plain apart may can = info_shown plan c f n v apart can.whole
steps_are_shown plan (call.FrozenChild c p right) n v plain apart may can =
    frozen_child_shown plan c p right n v apart (apart.names.entries (Info c field.P p) may.place)
steps_are_shown plan call.Look n v plain apart may can = look_shown n v
steps_are_shown plan (call.LookDown from to right) n v plain apart may can = look_down_shown plan from to right n v apart may.met
steps_are_shown plan call.Rest n v plain apart may can = refl
steps_are_shown plan (call.Claim c node_key) n v plain apart may can = absurd plain
steps_are_shown plan (call.Fill c f value) n v plain apart may can = refl
steps_are_shown plan (call.IFlag c p from) n v plain apart may can = flag_shown exchange.IFlag c (fact.IFlagged c) p (packed from) n v can.whole
steps_are_shown plan (call.IChild c p l replaces right) n v plain apart may can = taught_shown exchange.IChild c (fact.IChanged c) n v _ _ can.wins
steps_are_shown plan (call.IUnflag c p) n v plain apart may can = taught_shown exchange.IUnflag c (fact.IOver c) n v _ _ can.wins
steps_are_shown plan (call.DFlag c gp from) n v plain apart may can = flag_shown exchange.DFlag c (fact.DFlagged c) gp (packed from) n v can.whole
steps_are_shown plan (call.Mark c p was) n v plain apart may can = mark_shown exchange.Mark c p was n v can.whole
steps_are_shown plan (call.DChild c gp p s right) n v plain apart may can = taught_shown exchange.DChild c (fact.Cut c) n v _ _ can.wins
steps_are_shown plan (call.DUnflag c gp) n v plain apart may can = taught_shown exchange.DUnflag c (fact.DOver c) n v _ _ can.wins
steps_are_shown plan (call.Backtrack c gp) n v plain apart may can = taught_shown exchange.Backtrack c (fact.Backed c) n v _ _ can.wins
