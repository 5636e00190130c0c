-- The turns of a flag: the claim word is read, the next card is claimed, filled and flagged. What is known by names after them is what is known once
-- the card was taken by its name, filled and flagged: no number is needed for it.
use Rattle.std.proofs.Common.{◌≡◌, ℕ, ◌+◌, ◌==◌, Bool, true, false, List, [], ◌∷◌, refl, sym, ap, ◌∙◌}
use Rattle.ell_word.specs.declared.update.Update.{Update}
use Rattle.ell_word.specs.Word.{packed, unpacked}
use Rattle.ell_layout.specs.declared.field.Field.{Field}
use Rattle.ell_core.specs.declared.exchange.Exchange.{Exchange}
use Rattle.ell_core.specs.declared.exchange.Exchange.TheVariants as exchange
use Rattle.ell_core.specs.declared.fact.Fact.{Fact}
use Rattle.ell_core.specs.declared.fact.Fact.TheVariants as fact
use Rattle.ell_runs.specs.declared.call.Call.TheVariants as call
use Rattle.ell_runs.specs.declared.call.NewNode.{NewNode}
use Rattle.ell_runs.specs.declared.view.View.{View}
use Rattle.ell_runs.specs.Changes.{after_flag, exchanged, filling_of, if_won, steps_with}
use Rattle.ell_runs.specs.Calls.{after}
use Rattle.ell_runs.specs.Named.{IsNaming, named_node, named_update, named_words, named, unread}
use Rattle.ell_runs.specs.NamedTakings.{numbered, claimed_and_filled, taken_and_filled}
use Rattle.ell_runs.proofs.lemmas.named.NamedClaims.{FillingFits, claim_named}
use Rattle.ell_runs.proofs.lemmas.named.NamedSteps.{steps_are_named}

-- a flag neither reads nor tells the claim word, nor how many numbers were given
flag_numbered : (won : Bool) (k : Exchange) (c new : ℕ) (learnt : Fact) (x : ℕ) (u : Update) (n : ℕ) (w : View)
    → unread (exchanged (if_won won k new) n (after_flag won learnt x u (numbered c (unread w))))
    ≡ numbered c (unread (exchanged (if_won won k new) n (after_flag won learnt x u w)))
flag_numbered true k c new learnt x u n w = refl
flag_numbered false k c new learnt x u n w = refl

-- as many words are stored by names
stores_named : (name : ℕ → ℕ) (stores : List (Field × ℕ)) (n : ℕ) → steps_with (named_words name stores) n ≡ steps_with stores n
stores_named name [] n = refl
stores_named name (e ∷ es) n = ap (λ m. m + 1) (stores_named name es n)

module _ (name : ℕ → ℕ) (naming : IsNaming name) (c : ℕ) (node : NewNode) (stores : List (Field × ℕ)) (v : View)
    (fits : FillingFits name (filling_of c node v)) where
  -- a card is claimed and filled
  pub turns_named : named name (claimed_and_filled c node stores v)
      ≡ numbered c (unread (taken_and_filled (name c) node (named_words name stores) (named name v)))
  turns_named = λ t. record (claim_named name naming c node (after call.Next c v) fits t) {
    stores = named_words name stores;
    made = sym (stores_named name stores (v.made + 1 + 1)) t;
  }

  -- and it is flagged for an insert or a swap
  pub iflag_turns_named : (p : ℕ) (from : Update) (n : ℕ) → named name (after (call.IFlag c p from) n (claimed_and_filled c node stores v))
      ≡ numbered c (unread (after (call.IFlag (name c) (named_node name p) (named_update name from)) (named_node name n)
      (taken_and_filled (name c) node (named_words name stores) (named name v))))
  iflag_turns_named p from n =
      steps_are_named name naming (call.IFlag c p from) n (claimed_and_filled c node stores v) tt
      ∙ (ap (λ w. unread (after (call.IFlag (name c) (named_node name p) (named_update name from)) (named_node name n) w)) turns_named
      ∙ flag_numbered (named_node name n == packed (named_update name from)) exchange.IFlag c (name c) (fact.IFlagged (name c)) (named_node name p)
      (unpacked (named_node name n)) (named_node name n) (taken_and_filled (name c) node (named_words name stores) (named name v)))

  -- or for a delete
  pub dflag_turns_named : (gp : ℕ) (from : Update) (n : ℕ) → named name (after (call.DFlag c gp from) n (claimed_and_filled c node stores v))
      ≡ numbered c (unread (after (call.DFlag (name c) (named_node name gp) (named_update name from)) (named_node name n)
      (taken_and_filled (name c) node (named_words name stores) (named name v))))
  dflag_turns_named gp from n =
      steps_are_named name naming (call.DFlag c gp from) n (claimed_and_filled c node stores v) tt
      ∙ (ap (λ w. unread (after (call.DFlag (name c) (named_node name gp) (named_update name from)) (named_node name n) w)) turns_named
      ∙ flag_numbered (named_node name n == packed (named_update name from)) exchange.DFlag c (name c) (fact.DFlagged (name c)) (named_node name gp)
      (unpacked (named_node name n)) (named_node name n) (taken_and_filled (name c) node (named_words name stores) (named name v)))
