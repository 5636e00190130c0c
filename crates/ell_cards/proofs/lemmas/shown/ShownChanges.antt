-- What is shown of what a pass knows after calls that claim, store and exchange.
use Rattle.std.proofs.Common.{◌≡◌, ℕ, ◌==◌, if◌then◌else◌, Bool, true, false, ◌∷◌, refl, sym, ap, ◌∙◌}
use Rattle.ell_word.specs.declared.update.Update.{Update}
use Rattle.ell_word.specs.Word.{unpacked}
use Rattle.ell_core.specs.declared.exchange.Exchange.{Exchange}
use Rattle.ell_core.specs.declared.fact.Fact.{Fact}
use Rattle.ell_core.specs.declared.fact.Fact.TheVariants as fact
use Rattle.ell_runs.specs.declared.view.Told.TheVariants.{Expects}
use Rattle.ell_runs.specs.declared.view.View.{View}
use Rattle.ell_cards.specs.Apart.{cut_node}
use Rattle.ell_runs.specs.Changes.{if_won, exchanged, with_fact, after_claim, after_flag, after_mark, is_mark_of, unmarking}
use Rattle.ell_cards.specs.Shown.{IsWord, cut_word, shown, ClaimsAreShown}
use Rattle.ell_cards.proofs.lemmas.shown.CutWords.{cut_same}
use Rattle.ell_cards.proofs.lemmas.shown.ShownWords.{planned_shown_alike, tag_shown, told_of_claim}
use Rattle.ell_cards.proofs.lemmas.shown.ShownSearches.{places_shown}

-- claim
pub claims_are_shown : ClaimsAreShown
claims_are_shown plan c node_key v apart = λ t. record (after_claim true c node_key (shown v)) {
  told = Expects c (sym (tag_shown v) t) ∷ told_of_claim plan c node_key v apart t;
  planned = planned_shown_alike plan c node_key v apart t;
}

-- an exchange that teaches the same, won or not
pub taught_shown : (k : Exchange) (c : ℕ) (new : Fact) (n : ℕ) (v : View) (cut whole : Bool) → cut ≡ whole
    → shown (exchanged (if_won whole k c) n (with_fact new v)) ≡ exchanged (if_won cut k c) (cut_word n) (with_fact new (shown v))
taught_shown k c new n v cut whole wins =
    ap (λ won. exchanged (if_won won k c) (cut_word n) (with_fact new (shown v))) (sym wins)

-- iflag and dflag
flagged_shown : (won : Bool) (new : Fact) (x : ℕ) (u : Update) (v : View)
    → shown (after_flag won new x u v) ≡ after_flag won new (cut_node x) u (shown v)
flagged_shown true new x u v = refl
flagged_shown false new x u v =
    ap (λ told. record (after_flag false new (cut_node x) u (shown v)) { told = told }) (places_shown x u.state u.card v.told)

pub flag_shown : (k : Exchange) (c : ℕ) (new : Fact) (x expected n : ℕ) (v : View) → IsWord n
    → shown (exchanged (if_won (n == expected) k c) n (after_flag (n == expected) new x (unpacked n) v))
    ≡ exchanged (if_won (cut_word n == expected) k c) (cut_word n)
    (after_flag (cut_word n == expected) new (cut_node x) (unpacked (cut_word n)) (shown v))
flag_shown k c new x expected n v whole =
    ap (exchanged (if_won (n == expected) k c) (cut_word n)) (flagged_shown (n == expected) new x (unpacked n) v)
    ∙ ap (λ m. exchanged (if_won (m == expected) k c) (cut_word n)
    (after_flag (m == expected) new (cut_node x) (unpacked m) (shown v))) (sym (cut_same n whole))

-- mark
unmarking_shown : (c x : ℕ) (u : Update) (v : View) → shown (unmarking c x u v) ≡ unmarking c (cut_node x) u (shown v)
unmarking_shown c x u v =
    ap (λ told. record (unmarking c (cut_node x) u (shown v)) { told = told }) (places_shown x u.state u.card v.told)

marked_shown : (won : Bool) (c x : ℕ) (u : Update) (v : View) → shown (after_mark won c x u v) ≡ after_mark won c (cut_node x) u (shown v)
marked_shown true c x u v = refl
marked_shown false c x u v = by (is_mark_of c u.state u.card)
  where
    by : (b : Bool) → shown (if b then with_fact (fact.Marked c) v else unmarking c x u v)
        ≡ (if b then with_fact (fact.Marked c) (shown v) else unmarking c (cut_node x) u (shown v))
    by true = refl
    by false = unmarking_shown c x u v

pub mark_shown : (k : Exchange) (c x was n : ℕ) (v : View) → IsWord n
    → shown (exchanged (if_won (n == was) k c) n (after_mark (n == was) c x (unpacked n) v))
    ≡ exchanged (if_won (cut_word n == was) k c) (cut_word n)
    (after_mark (cut_word n == was) c (cut_node x) (unpacked (cut_word n)) (shown v))
mark_shown k c x was n v whole =
    ap (exchanged (if_won (n == was) k c) (cut_word n)) (marked_shown (n == was) c x (unpacked n) v)
    ∙ ap (λ m. exchanged (if_won (m == was) k c) (cut_word n)
    (after_mark (m == was) c (cut_node x) (unpacked m) (shown v))) (sym (cut_same n whole))
