-- A call that is shown is the same act on the same word, and leaves there what is cut to the same.
use Rattle.std.proofs.Common.{◌≡◌, ℕ, ◌+◌, if◌then◌else◌, Bool, true, false, Some, None, refl, sym, ap, ◌∙◌, arith}
use Rattle.ell_word.specs.declared.link.Link.{Link}
use Rattle.ell_word.specs.Link.{linked}
use Rattle.ell_layout.specs.declared.field.Field.{Field}
use Rattle.ell_layout.specs.declared.field.Field.TheVariants as field
use Rattle.ell_layout.specs.Cards.{iflag, dflag, marked, clean, brought_by}
use Rattle.ell_layout.specs.Layout.{address}
use Rattle.ell_layout.specs.Words.{key_field, value_field, child_field}
use Rattle.ell_core.specs.declared.event.Act.TheVariants as act
use Rattle.ell_core.specs.acts.Exchanges.{won_or_lost}
use Rattle.ell_runs.specs.declared.call.Call.TheVariants as call
use Rattle.ell_cards.specs.Apart.{cut_node}
use Rattle.ell_runs.specs.Calls.{next_link}
use Rattle.ell_cards.specs.Shown.{cut_word, cut_field, cut_tag, shown_word, shown_link, CallsActAlike}
use Rattle.ell_cards.proofs.lemmas.shown.CutWords.{node_again, node_slot, node_place, node_is_word, cut_again, cut_linked}

-- a value that is stored, and the child word after an exchange
stored_alike : (f : Field) (value : ℕ) → cut_word (shown_word f value) ≡ cut_field f value
stored_alike field.Gp value = node_is_word value
stored_alike field.P value = node_is_word value
stored_alike field.L value = cut_again value
stored_alike field.Left value = cut_again value
stored_alike field.Right value = cut_again value
stored_alike field.Was value = refl
stored_alike field.Key value = refl
stored_alike field.Update value = refl
stored_alike field.LeftLeafKey value = refl
stored_alike field.RightLeafKey value = refl
stored_alike field.LeftValue value = refl
stored_alike field.RightValue value = refl

-- what was found in a field
found_alike : (f : Field) (n : ℕ) → cut_word (cut_field f n) ≡ cut_field f n
found_alike field.Gp n = node_is_word n
found_alike field.P n = node_is_word n
found_alike field.L n = cut_again n
found_alike field.Left n = cut_again n
found_alike field.Right n = cut_again n
found_alike field.Was n = cut_again n
found_alike field.Key n = cut_again n
found_alike field.Update n = cut_again n
found_alike field.LeftLeafKey n = cut_again n
found_alike field.RightLeafKey n = cut_again n
found_alike field.LeftValue n = cut_again n
found_alike field.RightValue n = cut_again n

next_alike : (l : Link) (x y : ℕ) → cut_node x ≡ cut_node y → cut_word (linked (next_link (shown_link l) x)) ≡ cut_word (linked (next_link l y))
next_alike l x y same = cut_linked x (cut_tag l.tag + 1) ∙ ((λ t. linked (record { node = same t; tag = tags t })) ∙ sym (cut_linked y (l.tag + 1)))
  where
    tags : cut_tag (cut_tag l.tag + 1) ≡ cut_tag (l.tag + 1)
    tags = omega arith

-- what an exchange leaves, won or lost
left_alike : (new old n : ℕ) (cut whole : Bool) → cut ≡ whole → cut_word new ≡ cut_word old
    → cut_word (if cut then new else cut_word n) ≡ cut_word (if whole then old else n)
left_alike new old n cut whole wins values = ap (λ b. cut_word (if b then new else cut_word n)) wins ∙ by whole
  where
    by : (b : Bool) → cut_word (if b then new else cut_word n) ≡ cut_word (if b then old else n)
    by true = values
    by false = cut_again n

pub calls_act_alike : CallsActAlike
calls_act_alike (call.Claim c node_key) n can = record {
  word = refl;
  leaves = left_alike (c + 1) (c + 1) n _ _ can.wins refl;
  act = ap (λ b. if b then Some act.Claim else None) can.wins;
  said = refl;
}
calls_act_alike (call.Fill c f value) n can = record { word = refl; leaves = stored_alike f value; act = refl; said = refl }
calls_act_alike (call.IFlag c p from) n can =
    record { word = λ t. address (node_slot p t) field.Update; leaves = left_alike (iflag c) (iflag c) n _ _ can.wins refl; act = refl; said = ap won_or_lost can.wins }
calls_act_alike (call.IChild c p l replaces right) n can = record {
  word = λ t. address (node_slot p t) (child_field right);
  leaves = left_alike _ _ n _ _ can.wins (next_alike l (brought_by c replaces) (brought_by c replaces) refl);
  act = refl;
  said = ap won_or_lost can.wins;
}
calls_act_alike (call.IUnflag c p) n can =
    record { word = λ t. address (node_slot p t) field.Update; leaves = left_alike (clean c) (clean c) n _ _ can.wins refl; act = refl; said = ap won_or_lost can.wins }
calls_act_alike (call.DFlag c gp from) n can =
    record { word = λ t. address (node_slot gp t) field.Update; leaves = left_alike (dflag c) (dflag c) n _ _ can.wins refl; act = refl; said = ap won_or_lost can.wins }
calls_act_alike (call.Mark c p was) n can =
    record { word = λ t. address (node_slot p t) field.Update; leaves = left_alike (marked c) (marked c) n _ _ can.wins refl; act = refl; said = ap won_or_lost can.wins }
calls_act_alike (call.DChild c gp p s right) n can = record {
  word = λ t. address (node_slot gp t) (child_field right);
  leaves = left_alike _ _ n _ _ can.wins (next_alike p (cut_node s) s (node_again s));
  act = refl;
  said = ap won_or_lost can.wins;
}
calls_act_alike (call.DUnflag c gp) n can =
    record { word = λ t. address (node_slot gp t) field.Update; leaves = left_alike (clean c) (clean c) n _ _ can.wins refl; act = refl; said = ap won_or_lost can.wins }
calls_act_alike (call.Backtrack c gp) n can =
    record { word = λ t. address (node_slot gp t) field.Update; leaves = left_alike (clean c) (clean c) n _ _ can.wins refl; act = refl; said = ap won_or_lost can.wins }
calls_act_alike (call.Info c f) n can = record { word = refl; leaves = found_alike f n; act = refl; said = refl }
calls_act_alike (call.Upd x) n can = record { word = λ t. address (node_slot x t) field.Update; leaves = cut_again n; act = refl; said = refl }
calls_act_alike (call.Down x right) n can = record { word = λ t. address (node_slot x t) (child_field right); leaves = cut_again n; act = refl; said = refl }
calls_act_alike (call.KeyOf x) n can = record { word = λ t. address (node_slot x t) (key_field (node_place x t)); leaves = cut_again n; act = refl; said = refl }
calls_act_alike (call.ValueOf x) n can = record { word = λ t. address (node_slot x t) (value_field (node_place x t)); leaves = cut_again n; act = refl; said = refl }
calls_act_alike (call.FrozenChild c p right) n can = record { word = λ t. address (node_slot p t) (child_field right); leaves = cut_again n; act = refl; said = refl }
calls_act_alike (call.LookDown from to right) n can = record { word = λ t. address (node_slot from.node t) (child_field right); leaves = cut_again n; act = refl; said = refl }
calls_act_alike _ n can = record { word = refl; leaves = cut_again n; act = refl; said = refl }
