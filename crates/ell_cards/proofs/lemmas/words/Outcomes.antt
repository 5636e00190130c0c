use Rattle.std.proofs.Common.{◌≡◌, ℕ, ◌==◌, Bool, true, false, if◌then◌else◌, Result, Ok, Err, refl, sym, ap, ◌∙◌, subst, eqb-true}
use Rattle.std.specs.Result.{is_ok}
use Rattle.ell_core.specs.declared.exchange.Exchange.{Exchange}
use Rattle.ell_core.specs.declared.fact.Fact.{Fact}
use Rattle.ell_core.proofs.lemmas.words.Packed.{packed_again}
use Rattle.ell_word.specs.Word.{packed, unpacked}
use Rattle.ell_word.specs.declared.update.Update.{Update}
use Rattle.ell_runs.specs.declared.view.View.{View}
use Rattle.ell_runs.specs.Changes.{after_flag, exchanged, found_update, found_word, if_won, update_outcome}

-- what a pass knows after it tried to set a flag, by the word that its exchange found, and by what it was answered
pub flagged_so : (k : Exchange) (c : ℕ) (flag : Fact) (x : ℕ) (from : Update) (v : View) (expected n : ℕ) (said : Result (Unit {0}) Update) → expected ≡ packed from → said ≡ update_outcome expected n
    → exchanged (if_won (n == packed from) k c) n (after_flag (n == packed from) flag x (unpacked n) v)
    ≡ exchanged (if_won (is_ok said) k c) (found_word (packed from) said) (after_flag (is_ok said) flag x (found_update from said) v)
flagged_so k c flag x from v expected n said same answer =
    subst (λ (r : Result (Unit {0}) Update). exchanged (if_won (n == packed from) k c) n (after_flag (n == packed from) flag x (unpacked n) v)
    ≡ exchanged (if_won (is_ok r) k c) (found_word (packed from) r) (after_flag (is_ok r) flag x (found_update from r) v))
    (sym (answer ∙ ap (λ e. update_outcome e n) same)) (by (n == packed from) refl)
  where
    by : (b : Bool) → (n == packed from) ≡ b → exchanged (if_won b k c) n (after_flag b flag x (unpacked n) v)
        ≡ exchanged (if_won (is_ok (if b then Ok (tt {0}) else Err (unpacked n))) k c) (found_word (packed from) (if b then Ok (tt {0}) else Err (unpacked n)))
        (after_flag (is_ok (if b then Ok (tt {0}) else Err (unpacked n))) flag x (found_update from (if b then Ok (tt {0}) else Err (unpacked n))) v)
    by true is = ap (λ m. exchanged (if_won true k c) m (after_flag true flag x from v)) (eqb-true n (packed from) is)
    by false is = ap (λ m. exchanged (if_won false k c) m (after_flag false flag x (unpacked n) v)) (sym (packed_again n))
