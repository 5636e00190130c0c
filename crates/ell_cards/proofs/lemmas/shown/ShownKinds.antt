-- Which calls can be shown.
use Rattle.std.proofs.Common.{ℕ, refl}
use Rattle.ell_word.specs.Word.{packed}
use Rattle.ell_layout.specs.Cards.{iflag, dflag}
use Rattle.ell_layout.specs.declared.field.Field.{Field}
use Rattle.ell_layout.specs.declared.field.Field.TheVariants as field
use Rattle.ell_runs.specs.declared.call.Call.{Call}
use Rattle.ell_runs.specs.declared.call.Call.TheVariants as call
use Rattle.ell_cards.specs.Shown.{IsWord, FieldIsWhole, CanBeShown, HasNoLink, CallsCanBeShown}
use Rattle.ell_cards.proofs.lemmas.shown.CutWords.{compares_alike, links_alike}

-- a call without a link that finds a word can be shown
pub field_is_whole : (f : Field) (n : ℕ) → IsWord n → FieldIsWhole f n
field_is_whole field.Gp n word = tt
field_is_whole field.P n word = tt
field_is_whole field.L n word = tt
field_is_whole field.Left n word = tt
field_is_whole field.Right n word = tt
field_is_whole _ n word = word

word_can : (c : Call) (n : ℕ) → HasNoLink c → IsWord n → CanBeShown c n
word_can (call.Fill c f value) n plain word = absurd plain
word_can (call.IChild c p l replaces right) n plain word = absurd plain
word_can (call.DChild c gp p s right) n plain word = absurd plain
word_can (call.Upd x) n plain word = record { wins = refl; whole = word }
word_can call.Next n plain word = record { wins = refl; whole = word }
word_can (call.KeyOf x) n plain word = record { wins = refl; whole = word }
word_can (call.ValueOf x) n plain word = record { wins = refl; whole = word }
word_can (call.Info c f) n plain word = record { wins = refl; whole = field_is_whole f n word }
word_can (call.Claim c node_key) n plain word = record { wins = compares_alike n c word; whole = tt }
word_can (call.IFlag c p from) n plain word =
    record { wins = compares_alike n (packed from) word; whole = word }
word_can (call.IUnflag c p) n plain word = record { wins = compares_alike n (iflag c) word; whole = tt }
word_can (call.DFlag c gp from) n plain word =
    record { wins = compares_alike n (packed from) word; whole = word }
word_can (call.Mark c p was) n plain word = record { wins = compares_alike n was word; whole = word }
word_can (call.DUnflag c gp) n plain word = record { wins = compares_alike n (dflag c) word; whole = tt }
word_can (call.Backtrack c gp) n plain word = record { wins = compares_alike n (dflag c) word; whole = tt }
word_can _ n plain word = record { wins = refl; whole = tt }

pub calls_can_be_shown : CallsCanBeShown
calls_can_be_shown = record {
  word = word_can;
  fill = λ c f value n. record { wins = refl; whole = tt };
  ichild = λ c p l replaces right n near.
      record { wins = links_alike n l near; whole = tt };
  dchild = λ c gp p s right n near.
      record { wins = links_alike n p near; whole = tt };
}
