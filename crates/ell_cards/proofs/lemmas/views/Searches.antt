use Rattle.std.proofs.Common.{◌≡◌, ℕ, Some, None, refl, sym, ap, subst, nat_le}
use Rattle.ell_ops.specs.declared.op.Op.{Op}
use Rattle.ell_ops.specs.Meaning.{key_of}
use Rattle.ell_word.specs.declared.update.Update.{Update}
use Rattle.ell_word.specs.Node.{IsInternal}
use Rattle.ell_word.specs.Word.{packed}
use Rattle.ell_runs.specs.declared.view.View.{View}
use Rattle.ell_cards.specs.Models.{PassModel, Sees}
use Rattle.ell_runs.specs.Views.{Does, StandsAt}
use Rattle.ell_runs.specs.Changes.{after_upd}
use Rattle.ell_runs.specs.Guards.{MayGoDown}
use Rattle.ell_cards.proofs.lemmas.views.Steps.{view_seen}

-- the update word was read where the pass stands and was told the key, and it may go down
pub may_go_down : (a b : PassModel) (op : Op) (x : ℕ) (u : Update) (key k : ℕ) → Sees a b (after_upd x u a.view) → k ≡ key_of op → Does a.view op → StandsAt a.view x
    → IsInternal x → a.view.here ≡ Some key → a.view.worker.card ≡ None → MayGoDown b.view x (nat_le key k)
may_go_down a b op x u key k s same busy stands inner told no_card =
    subst (λ (w : View). MayGoDown w x (nat_le key k)) (sym (view_seen a b (after_upd x u a.view) s)) (record {
      op = op;
      word = packed u;
      key = key;
      busy = busy;
      stands = stands;
      inner = inner;
      read = refl;
      told = told;
      side = ap (nat_le key) same;
      no_card = no_card;
    })
