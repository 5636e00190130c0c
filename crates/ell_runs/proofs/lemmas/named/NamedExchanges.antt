-- What is known by names after an exchange is what is known after the exchange by names.
use Rattle.std.proofs.Common.{◌≡◌, ℕ, ◌+◌, ◌==◌, if◌then◌else◌, map, Bool, true, false, List, ◌∷◌, refl, sym, ap, ◌∙◌}
use Rattle.std.specs.Option.{option_map}
use Rattle.ell_word.specs.declared.update.Update.{Update}
use Rattle.ell_word.specs.Word.{packed, unpacked}
use Rattle.ell_core.specs.declared.exchange.Exchange.{Exchange}
use Rattle.ell_core.specs.declared.exchange.Exchange.TheVariants as exchange
use Rattle.ell_core.specs.declared.fact.Fact.{Fact}
use Rattle.ell_core.specs.declared.fact.Fact.TheVariants as fact
use Rattle.ell_runs.specs.declared.call.Call.TheVariants as call
use Rattle.ell_runs.specs.declared.view.Told.{Told}
use Rattle.ell_runs.specs.declared.view.View.{View}
use Rattle.ell_runs.specs.declared.view.Hindrance.TheVariants.{Found}
use Rattle.ell_runs.specs.Calls.{after}
use Rattle.ell_runs.specs.Changes.{exchanged, if_won, with_fact, with_found, after_flag, after_mark, is_mark_of, is_this, unmarking}
use Rattle.ell_runs.specs.Named.{IsNaming, named_node, named_update, named_fact, named_told, named, unread}
use Rattle.ell_runs.proofs.lemmas.named.NamedWords.{nodes_alike, unpacked_named, updates_alike}
use Rattle.ell_runs.proofs.lemmas.named.NamedTold.{facts_named, places_named, won_named, this_named, mark_of_named}

module _ (name : ℕ → ℕ) (naming : IsNaming name) where
  -- an exchange of a kind for a card that found a word
  exchanged_named : (won : Bool) (k : Exchange) (c n m : ℕ) (v w : View) → named name v ≡ w
      → named name (exchanged (if_won won k c) n v) ≡ unread (exchanged (if_won won k (name c)) m w)
  exchanged_named won k c n m v w same =
      ap (λ wins. record (named name v) { won = wins; made = v.made + 1 }) (won_named name won k c v.won)
      ∙ (λ t. unread (exchanged (if_won won k (name c)) m (same t)))

  -- the card in hand is flagged, or discarded
  flagged_named : (won : Bool) (new : Fact) (x : ℕ) (u : Update) (v : View)
      → named name (after_flag won new x u v) ≡ after_flag won (named_fact name new) (named_node name x) (named_update name u) (named name v)
  flagged_named true new x u v = refl
  flagged_named false new x u v = λ t. record (after_flag false (named_fact name new) (named_node name x) (named_update name u) (named name v)) {
    worker = record ((after_flag false (named_fact name new) (named_node name x) (named_update name u) (named name v)).worker) {
      knows = facts_named name u.state u.card v.worker.knows t;
    };
    told = places_named name x u.state u.card v.told t;
  }

  -- iflag and dflag
  pub flag_named : (k : Exchange) (c : ℕ) (new : Fact) (x : ℕ) (from : Update) (n : ℕ) (v : View)
      → named name (exchanged (if_won (n == packed from) k c) n (after_flag (n == packed from) new x (unpacked n) v))
      ≡ unread (exchanged (if_won (named_node name n == packed (named_update name from)) k (name c)) (named_node name n)
      (after_flag (named_node name n == packed (named_update name from)) (named_fact name new) (named_node name x) (unpacked (named_node name n)) (named name v)))
  flag_named k c new x from n v =
      exchanged_named (n == packed from) k c n (named_node name n) (after_flag (n == packed from) new x (unpacked n) v)
      (after_flag (n == packed from) (named_fact name new) (named_node name x) (named_update name (unpacked n)) (named name v))
      (flagged_named (n == packed from) new x (unpacked n) v)
      ∙ (λ t. unread (exchanged (if_won (sym (updates_alike name naming n from) t) k (name c)) (named_node name n)
      (after_flag (sym (updates_alike name naming n from) t) (named_fact name new) (named_node name x) (sym (unpacked_named name naming n) t) (named name v))))

  -- a lost mark
  unmarking_named : (c x : ℕ) (u : Update) (v : View)
      → named name (unmarking c x u v) ≡ unmarking (name c) (named_node name x) (named_update name u) (named name v)
  unmarking_named c x u v = by (is_this v.worker.card c) (this_named name naming v.worker.card c)
    where
      of : Bool → List Fact → List Told → View
      of this facts told = record (named name v) {
        worker = record ((named name v).worker) { knows = facts };
        told = told;
        hindrances = if this then Found (named_update name u) ∷ (named name v).hindrances else (named name v).hindrances;
        met = if this then Found (named_update name u) ∷ (named name v).met else (named name v).met;
      }

      facts : map (named_fact name) (with_found x u (with_fact (fact.Unmarkable c) v)).worker.knows
          ≡ (with_found (named_node name x) (named_update name u) (with_fact (fact.Unmarkable (name c)) (named name v))).worker.knows
      facts = facts_named name u.state u.card (fact.Unmarkable c ∷ v.worker.knows)

      told : map (named_told name) (with_found x u (with_fact (fact.Unmarkable c) v)).told
          ≡ (with_found (named_node name x) (named_update name u) (with_fact (fact.Unmarkable (name c)) (named name v))).told
      told = places_named name x u.state u.card v.told

      by : (b : Bool) → is_this (option_map name v.worker.card) (name c) ≡ b
          → named name (record (with_found x u (with_fact (fact.Unmarkable c) v)) {
            hindrances = if b then Found u ∷ v.hindrances else v.hindrances;
            met = if b then Found u ∷ v.met else v.met;
          }) ≡ unmarking (name c) (named_node name x) (named_update name u) (named name v)
      by true is = λ t. of (sym is t) (facts t) (told t)
      by false is = λ t. of (sym is t) (facts t) (told t)

  -- a mark that stands, or a lost one
  marked_named : (won : Bool) (c x : ℕ) (u : Update) (v : View)
      → named name (after_mark won c x u v) ≡ after_mark won (name c) (named_node name x) (named_update name u) (named name v)
  marked_named true c x u v = refl
  marked_named false c x u v = by (is_mark_of c u.state u.card) (mark_of_named name naming c u.state u.card)
    where
      by : (b : Bool) → is_mark_of (name c) u.state (name u.card) ≡ b
          → named name (if b then with_fact (fact.Marked c) v else unmarking c x u v)
          ≡ after_mark false (name c) (named_node name x) (named_update name u) (named name v)
      by true is = ap (λ b. if b then with_fact (fact.Marked (name c)) (named name v) else unmarking (name c) (named_node name x) (named_update name u) (named name v)) (sym is)
      by false is = unmarking_named c x u v
          ∙ ap (λ b. if b then with_fact (fact.Marked (name c)) (named name v) else unmarking (name c) (named_node name x) (named_update name u) (named name v)) (sym is)

  -- mark
  pub mark_named : (c p was n : ℕ) (v : View)
      → named name (after (call.Mark c p was) n v)
      ≡ unread (after (call.Mark (name c) (named_node name p) (named_node name was)) (named_node name n) (named name v))
  mark_named c p was n v =
      exchanged_named (n == was) exchange.Mark c n (named_node name n) (after_mark (n == was) c p (unpacked n) v)
      (after_mark (n == was) (name c) (named_node name p) (named_update name (unpacked n)) (named name v))
      (marked_named (n == was) c p (unpacked n) v)
      ∙ (λ t. unread (exchanged (if_won (sym (nodes_alike name naming n was) t) exchange.Mark (name c)) (named_node name n)
      (after_mark (sym (nodes_alike name naming n was) t) (name c) (named_node name p) (sym (unpacked_named name naming n) t) (named name v))))

  -- the exchanges that teach the same, won or not
  pub taught_named : (k : Exchange) (c : ℕ) (new : Fact) (n m : ℕ) (v : View) (won won' : Bool) → won' ≡ won
      → named name (exchanged (if_won won k c) n (with_fact new v))
      ≡ unread (exchanged (if_won won' k (name c)) m (with_fact (named_fact name new) (named name v)))
  taught_named k c new n m v won won' wins =
      exchanged_named won k c n m (with_fact new v) (with_fact (named_fact name new) (named name v)) refl
      ∙ ap (λ w. unread (exchanged (if_won w k (name c)) m (with_fact (named_fact name new) (named name v)))) (sym wins)
