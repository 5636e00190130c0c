use Rattle.ell_runs.specs.declared.call.Call.TheVariants as call
use Rattle.ell_runs.specs.Laws.{StepsAreEvents}
use Rattle.ell_runs.proofs.lemmas.stepping.Begins.{keeps_begin, keeps_again, keeps_leave, keeps_answer}
use Rattle.ell_runs.proofs.lemmas.stepping.Looks.{keeps_upd, keeps_down, keeps_next, keeps_key_of, keeps_value_of}
use Rattle.ell_runs.proofs.lemmas.stepping.Asking.{keeps_info, keeps_frozen_child}
use Rattle.ell_runs.proofs.lemmas.stepping.Looking.{keeps_look, keeps_look_down, keeps_rest}
use Rattle.ell_runs.proofs.lemmas.stepping.Claiming.{keeps_claim}
use Rattle.ell_runs.proofs.lemmas.stepping.Filling.{keeps_fill}
use Rattle.ell_runs.proofs.lemmas.stepping.Flags.{keeps_iflag, keeps_dflag}
use Rattle.ell_runs.proofs.lemmas.stepping.Inserting.{keeps_ichild, keeps_iunflag}
use Rattle.ell_runs.proofs.lemmas.stepping.Deleting.{keeps_mark, keeps_dchild, keeps_dunflag, keeps_backtrack}

pub steps_are_events : StepsAreEvents
steps_are_events plan s r id v (call.Begin op) here may = keeps_begin plan s r id v here op may
steps_are_events plan s r id v call.Again here may = keeps_again plan s r id v here may
steps_are_events plan s r id v call.Leave here may = keeps_leave plan s r id v here may
steps_are_events plan s r id v (call.Answer said took) here may = keeps_answer plan s r id v here said took may
steps_are_events plan s r id v (call.Upd x) here may = keeps_upd plan s r id v here x may
steps_are_events plan s r id v (call.Down x right) here may = keeps_down plan s r id v here x right may
steps_are_events plan s r id v call.Next here may = keeps_next plan s r id v here
steps_are_events plan s r id v (call.KeyOf x) here may = keeps_key_of plan s r id v here x may
steps_are_events plan s r id v (call.ValueOf x) here may = keeps_value_of plan s r id v here x may.0 may.1
steps_are_events plan s r id v (call.Info c f) here may = keeps_info plan s r id v here c f may
steps_are_events plan s r id v (call.FrozenChild c p right) here may = keeps_frozen_child plan s r id v here c p right may
steps_are_events plan s r id v call.Look here may = keeps_look plan s r id v here may
steps_are_events plan s r id v (call.LookDown from key right) here may = keeps_look_down plan s r id v here from key right may
steps_are_events plan s r id v call.Rest here may = keeps_rest plan s r id v here may
steps_are_events plan s r id v (call.Claim c q) here may = keeps_claim plan s r id v here c q may.0 may.1
steps_are_events plan s r id v (call.Fill c f value) here may = keeps_fill plan s r id v here c f value may
steps_are_events plan s r id v (call.IFlag c p from) here may = keeps_iflag plan s r id v here c p from may
steps_are_events plan s r id v (call.IChild c p l replaces right) here may = keeps_ichild plan s r id v here c p l replaces right may
steps_are_events plan s r id v (call.IUnflag c p) here may = keeps_iunflag plan s r id v here c p may
steps_are_events plan s r id v (call.DFlag c gp from) here may = keeps_dflag plan s r id v here c gp from may
steps_are_events plan s r id v (call.Mark c p was) here may = keeps_mark plan s r id v here c p was may
steps_are_events plan s r id v (call.DChild c gp p sibling right) here may = keeps_dchild plan s r id v here c gp p sibling right may
steps_are_events plan s r id v (call.DUnflag c gp) here may = keeps_dunflag plan s r id v here c gp may
steps_are_events plan s r id v (call.Backtrack c gp) here may = keeps_backtrack plan s r id v here c gp may
