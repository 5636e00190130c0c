use Rattle.std.proofs.Common.{◌≡◌, ℕ, ◌+◌, ◌≤◌, true, false, Some, Result, Ok, Err, IfErr, List, ◌∷◌, refl, sym, ◌∙◌, ap, subst, is_ok, arith}
use Rattle.ell_core.specs.declared.put.Put.{Put}
use Rattle.ell_ops.specs.declared.op.Op.TheVariants.{Delete}
use Rattle.ell_core.specs.declared.exchange.Exchange.{Exchange}
use Rattle.ell_word.specs.declared.update.Update.{Update}
use Rattle.ell_word.specs.Word.{packed}
use Rattle.ell_core.specs.declared.fact.Fact.{Fact}
use Rattle.ell_layout.specs.declared.field.Field.{Field}
use Rattle.ell_layout.specs.Cards.{delete_filling}
use Rattle.ell_runs.specs.declared.view.Told.TheVariants.{Met}
use Rattle.ell_runs.specs.declared.view.Hindrance.TheVariants.{Found}
use Rattle.ell_runs.specs.declared.view.View.{View}
use Rattle.ell_cards.specs.Models.{PassModel, Steps}
use Rattle.ell_runs.specs.Changes.{after_flag, if_won, exchanged, found_word, found_update, with_stores}
use Rattle.ell_runs.specs.Guards.{MayFill, MayIFlag, MayDFlag}
use Rattle.ell_runs.proofs.lemmas.views.Facts.{knows_new, knows_more, facts_by_more}
use Rattle.ell_runs.proofs.lemmas.views.Entries.{places_more}
use Rattle.ell_cards.proofs.lemmas.views.Steps.{own_step, own_trans, view_after}
use Rattle.ell_tree.specs.declared.searching.Passed.{Passed}
use Rattle.ell_tree.specs.declared.searching.Place.{Place}
use Rattle.ell_tree.specs.CardsTaken.{claims_in, TakesNoCard}
use Rattle.ell_runs.specs.Contention.{is_claim}
use Rattle.ell_tree.specs.Counts.{Took}
use Rattle.ell_tree.specs.Keeping.{LosesNothing, Keeps, IsInnerMet}
use Rattle.ell_tree.specs.Searches.{seen, seen_any}
use Rattle.ell_tree.specs.Tries.{HasCard, HasCardToPut, Fills, Flags, IsFlagged, LosesFlag}
use Rattle.ell_tree.proofs.lemmas.Counts.{took_one, took_trans}
use Rattle.ell_tree.proofs.lemmas.Keeping.{place_told}
use Rattle.ell_tree.proofs.lemmas.CardsTaken.{no_claims}
use Rattle.ell_runs.specs.declared.call.NewNode.{NewNode}

-- a card that is filled is in hand, not flagged, as before
may_fill_still : (a b : PassModel) (n c : ℕ) → Fills a b n → MayFill a.view c → MayFill b.view c
may_fill_still a b n c fills may = record {
  holds = ap (λ (u : View). u.worker.card) fills.view ∙ may.holds;
  unflagged = ap (λ (u : View). u.worker.flagged) fills.view ∙ may.unflagged;
}

-- an insert's card that is filled may flag the parent
pub may_iflag : (a b : PassModel) (n c : ℕ) (node : NewNode) (what : Put) (place : Place) → HasCardToPut what place node a.view c → Fills a b n
    → MayIFlag b.view c place.parent.node place.parent.update
may_iflag a b n c node what place h fills = record {
  op = h.op;
  what = what;
  puts = h.puts;
  leaf = place.node;
  busy = ap (λ (u : View). u.worker.operation) fills.view ∙ h.card.busy;
  may = may_fill_still a b n c fills h.card.may;
  parent = seen place.parent;
  stands = ap (λ (u : View). u.worker.search.node) fills.view ∙ h.card.stands;
  behind = ap (λ (u : View). u.worker.search.parent) fills.view ∙ h.card.behind;
  node = refl;
  read = refl;
  filled = fills.filled;
}

-- a delete's the grandparent
pub may_dflag : (a b : PassModel) (n c k : ℕ) (place : Place) (above : Passed) → place.grandparent ≡ Some above
    → HasCard (Delete k) place above.tag (delete_filling above.node place.parent.node place.node (packed place.parent.update)) a.view c
    → Fills a b n → MayDFlag b.view c above.node above.update
may_dflag a b n c k place above is h fills = record {
  key = k;
  leaf = place.node;
  parent = seen place.parent;
  grandparent = seen above;
  busy = ap (λ (u : View). u.worker.operation) fills.view ∙ h.busy;
  may = may_fill_still a b n c fills h.may;
  stands = ap (λ (u : View). u.worker.search.node) fills.view ∙ h.stands;
  behind = ap (λ (u : View). u.worker.search.parent) fills.view ∙ h.behind;
  above = ap (λ (u : View). u.worker.search.grandparent) fills.view ∙ (h.above ∙ ap seen_any is);
  node = refl;
  read = refl;
  filled = fills.filled;
}

module _ (k : Exchange) (flag : ℕ → Fact) (c x : ℕ) (from : Update) where
  -- the view after a flag that was answered so
  abbrev flagging : Result (Unit {0}) Update → View → View
  flagging r v = exchanged (if_won (is_ok r) k c) (found_word (packed from) r) (after_flag (is_ok r) (flag c) x (found_update from r) v)

  -- it is one step
  flagging_made : (r : Result (Unit {0}) Update) (v : View) → (flagging r v).made ≡ v.made + 1
  flagging_made (Ok won) v = refl
  flagging_made (Err u) v = refl

  flagging_keeps : (stores : List (Field × ℕ)) (r : Result (Unit {0}) Update) (v : View) → LosesNothing v (flagging r (with_stores stores v))
  flagging_keeps stores (Ok won) v = record {
    ledger = refl;
    operation = refl;
    share = record { share = refl; ownable = refl };
    knows = λ g h. knows_more (flag c) g v.worker.knows h;
    told = λ e h. h;
    before = refl;
    least = omega arith;
    hindered = refl;
    earlier = λ hs e. e;
  }
  flagging_keeps stores (Err u) v = record {
    ledger = refl;
    operation = refl;
    share = record { share = refl; ownable = refl };
    knows = facts_by_more u.state u.card v.worker.knows;
    told = places_more x u.state u.card v.told;
    before = refl;
    least = omega arith;
    hindered = refl;
    earlier = λ hs e. ap (λ ks. Found u ∷ ks) e;
  }

  module _ (a b d : PassModel) (n : ℕ) (r : Result (Unit {0}) Update) (fills : Fills a b n) (step : Steps b d (flagging r b.view)) where
    flagged_view : d.view ≡ flagging r (with_stores b.view.stores a.view)
    flagged_view = view_after b d (flagging r b.view) step ∙ ap (flagging r) fills.view

    pub flag_goes : Keeps a d (n + 1)
    flag_goes = record {
      own = own_trans a b d fills.own (own_step b d step);
      sight = ap (λ (p : PassModel). p.sight) step ∙ fills.sight;
      slot = ap (λ (p : PassModel). p.memory.slot) step ∙ fills.slot;
      view = subst (LosesNothing a.view) (sym flagged_view) (flagging_keeps b.view.stores r a.view);
      took = took_trans a b d n 1 (n + 1) fills.took
          (subst (λ (p : PassModel). Took b p 1) (sym step) (took_one b (flagging r b.view) (flagging_made r b.view))) (omega arith);
    }

    -- and takes no card
    pub flag_takes : is_claim k ≡ false → TakesNoCard a d
    flag_takes other = ap (λ (v : View). claims_in v.won) flagged_view ∙ by r
      where
        by : (q : Result (Unit {0}) Update) → claims_in (flagging q (with_stores b.view.stores a.view)).won ≡ claims_in a.view.won
        by (Ok won) = no_claims true k c a.view.won other
        by (Err u) = refl

    pub flag_ends : (cards : ℕ) → a.view.worker.card ≡ Some c → IsInnerMet cards a.view x → IfErr r (λ u. u.card ≤ cards) → Flags cards flag c x a d r
    flag_ends cards holds node named = by r flagged_view named
      where
        by : (q : Result (Unit {0}) Update) → d.view ≡ flagging q (with_stores b.view.stores a.view) → IfErr q (λ u. u.card ≤ cards) → Flags cards flag c x a d q
        by (Ok won) e m = subst (IsFlagged flag c a.view) (sym e) (record {
          knows = knows_new (flag c) a.view.worker.knows;
          card = holds;
          flagged = refl;
          nowhere = refl;
          hindrances = refl;
        })
        by (Err u) e m = subst (LosesFlag cards x u a.view) (sym e) (record {
          seen = record {
            node = record { met = places_more x u.state u.card a.view.told (Met x) node.met; inner = node.inner; there = node.there };
            named = m;
            place = place_told x u.state u.card a.view (flagging (Err u) (with_stores b.view.stores a.view)) refl refl;
          };
          no_card = refl;
          nowhere = refl;
          hindrances = refl;
        })
