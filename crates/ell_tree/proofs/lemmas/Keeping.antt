use Rattle.std.proofs.Common.{◌≡◌, ℕ, ◌+◌, ◌≤◌, Bool, true, List, refl, sym, ◌∙◌, subst, arith}
use Rattle.ell_core.specs.declared.exchange.Exchange.{Exchange}
use Rattle.ell_word.specs.declared.update.Update.{Update}
use Rattle.ell_word.specs.declared.update.State.{State}
use Rattle.ell_word.specs.declared.update.State.TheVariants as state
use Rattle.ell_core.specs.declared.fact.Fact.{Fact}
use Rattle.ell_core.specs.declared.fact.Fact.TheVariants as fact
use Rattle.ell_layout.specs.declared.field.Field.{Field}
use Rattle.ell_layout.specs.declared.field.Field.TheVariants as field
use Rattle.ell_core.specs.state.Facts.{known_of}
use Rattle.ell_runs.specs.declared.view.Told.{Told}
use Rattle.ell_runs.specs.declared.view.Told.TheVariants.{Met, Info}
use Rattle.ell_runs.specs.declared.view.View.{View}
use Rattle.ell_cards.specs.Models.{PassModel, Counts, Sees, Steps, some_more}
use Rattle.ell_runs.specs.Views.{Has, latest, earlier, IsTold, Knows}
use Rattle.ell_runs.specs.Depths.{depth_of}
use Rattle.ell_word.specs.Link.{link_in}
use Rattle.ell_runs.specs.Changes.{depth_there, facts_by, places_by, with_fact, exchanged, after_upd}
use Rattle.ell_runs.proofs.lemmas.views.Afters.{after_down, after_key_of, after_value_of, after_info, after_frozen_child}
use Rattle.ell_runs.proofs.lemmas.views.Facts.{knows_new, knows_more, facts_by_more}
use Rattle.ell_runs.proofs.lemmas.views.Depths.{met_more}
use Rattle.ell_runs.proofs.lemmas.views.Entries.{places_more, info_more}
use Rattle.ell_cards.proofs.lemmas.views.Steps.{own_same, own_trans}
use Rattle.ell_runs.specs.Views.{SameShare}
use Rattle.ell_tree.proofs.lemmas.Counts.{took_none, took_one, took_unseen, took_counted, took_within, took_trans}
use Rattle.ell_tree.specs.Counts.{HasUncounted}
use Rattle.ell_tree.specs.CardsTaken.{claims_in}
use Rattle.ell_tree.specs.Keeping.{LosesNothing, Keeps, KeepsAllButSearch, KeepsAllButMet, KeepsAll, IsInnerMet, TellsPlace, IsSeenAt}

-- a share that is the same in two steps is the same
pub share_trans : (u v w : View) → SameShare u v → SameShare v w → SameShare u w
share_trans u v w a b = record { share = b.share ∙ a.share; ownable = b.ownable ∙ a.ownable }

pub loses_trans : (u v w : View) → LosesNothing u v → LosesNothing v w → LosesNothing u w
loses_trans u v w a b = record {
  ledger = b.ledger ∙ a.ledger;
  operation = b.operation ∙ a.operation;
  share = share_trans u v w a.share b.share;
  knows = λ f h. b.knows f (a.knows f h);
  told = λ e h. b.told e (a.told e h);
  before = b.before ∙ a.before;
  least = omega (arith, a.least, b.least);
  hindered = b.hindered ∙ a.hindered;
  earlier = λ hs e. b.earlier hs (a.earlier hs e);
}

pub keeps_trans : (a b c : PassModel) (m n k : ℕ) → Keeps a b m → Keeps b c n → m + n ≤ k → Keeps a c k
keeps_trans a b c m n k h h' le = record {
  own = own_trans a b c h.own h'.own;
  sight = h'.sight ∙ h.sight;
  slot = h'.slot ∙ h.slot;
  view = loses_trans a.view b.view c.view h.view h'.view;
  took = took_trans a b c m n k h.took h'.took le;
}

pub keeps_but_search_trans : (a b c : PassModel) (m n k : ℕ) → KeepsAllButSearch a b m → KeepsAllButSearch b c n → m + n ≤ k → KeepsAllButSearch a c k
keeps_but_search_trans a b c m n k h h' le = record {
  keeps = keeps_trans a b c m n k h.keeps h'.keeps le;
  taken = h'.taken ∙ h.taken;
  card = h'.card ∙ h.card;
  flagged = h'.flagged ∙ h.flagged;
  hindrances = h'.hindrances ∙ h.hindrances;
}

pub keeps_but_met_trans : (a b c : PassModel) (m n k : ℕ) → KeepsAllButMet a b m → KeepsAllButMet b c n → m + n ≤ k → KeepsAllButMet a c k
keeps_but_met_trans a b c m n k h h' le = record {
  keeps = keeps_trans a b c m n k h.keeps h'.keeps le;
  taken = h'.taken ∙ h.taken;
  card = h'.card ∙ h.card;
  flagged = h'.flagged ∙ h.flagged;
  search = h'.search ∙ h.search;
}

-- with no more than so many steps
keeps_within : (a b : PassModel) (m n : ℕ) → Keeps a b m → m ≤ n → Keeps a b n
keeps_within a b m n h le = record { own = h.own; sight = h.sight; slot = h.slot; view = h.view; took = took_within a b m n h.took le }

pub keeps_but_met_of : (a b : PassModel) (n : ℕ) → KeepsAll a b n → KeepsAllButMet a b n
keeps_but_met_of a b n h = record { keeps = h.keeps; taken = h.taken; card = h.card; flagged = h.flagged; search = h.search }

-- where it was quiet at first, and then made other steps
pub keeps_but_met_more : (a b c : PassModel) (m n k : ℕ) → KeepsAllButMet a b m → KeepsAll b c n → m + n ≤ k → KeepsAllButMet a c k
keeps_but_met_more a b c m n k h h' le = keeps_but_met_trans a b c m n k h (keeps_but_met_of b c n h') le

pub keeps_all_within : (a b : PassModel) (m n : ℕ) → KeepsAll a b m → m ≤ n → KeepsAll a b n
keeps_all_within a b m n h le = record {
  keeps = keeps_within a b m n h.keeps le;
  taken = h.taken;
  card = h.card;
  flagged = h.flagged;
  search = h.search;
  hindrances = h.hindrances;
}

pub keeps_all_none : (a : PassModel) (n : ℕ) → KeepsAll a a n
keeps_all_none a n = record {
  keeps = record {
    own = own_same a;
    sight = refl;
    slot = refl;
    view = record { ledger = refl; operation = refl; share = record { share = refl; ownable = refl }; knows = λ f h. h; told = λ e h. h; before = refl; least = omega arith; hindered = refl; earlier = λ hs e. e };
    took = took_none a n;
  };
  taken = refl;
  card = refl;
  flagged = refl;
  search = refl;
  hindrances = refl;
}

-- what was told and known stays so
pub keeps_all_told : (a b : PassModel) (n : ℕ) (e : Told) → KeepsAll a b n → IsTold a.view e → IsTold b.view e
keeps_all_told a b n e w h = w.keeps.view.told e h

pub keeps_all_knows : (a b : PassModel) (n : ℕ) (f : Fact) → KeepsAll a b n → Knows a.view f → Knows b.view f
keeps_all_knows a b n f w h = w.keeps.view.knows f h

pub inner_kept : (cards : ℕ) (v w : View) (x : ℕ) → LosesNothing v w → IsInnerMet cards v x → IsInnerMet cards w x
inner_kept cards v w x k h = record { met = k.told (Met x) h.met; inner = h.inner; there = h.there }

place_kept : (v w : View) (x : ℕ) (s : State) (c : ℕ) → LosesNothing v w → TellsPlace v x s c → TellsPlace w x s c
place_kept v w x state.IFlag c k h = (k.knows (fact.IFlagged c) h.0, k.told _ h.1)
place_kept v w x state.DFlag c k h = (k.knows (fact.DFlagged c) h.0, k.told _ h.1)
place_kept v w x state.Mark c k h = (k.knows (fact.Marked c) h.0, k.told _ h.1)
place_kept v w x state.Clean c k h = tt

pub seen_kept : (cards : ℕ) (v w : View) (x : ℕ) (u : Update) → LosesNothing v w → IsSeenAt cards v x u → IsSeenAt cards w x u
seen_kept cards v w x u k h = record {
  node = inner_kept cards v w x k h.node;
  named = h.named;
  place = place_kept v w x u.state u.card k h.place;
}

-- the place of an update's card, once the update was read or found at a node
pub place_told : (x : ℕ) (s : State) (c : ℕ) (v w : View) → w.worker.knows ≡ facts_by s c v.worker.knows → w.told ≡ places_by x s c v.told → TellsPlace w x s c
place_told x state.IFlag c v w f t = (
  subst (λ (fs : List Fact). known_of fs (fact.IFlagged c) ≡ true) (sym f) (knows_new (fact.IFlagged c) v.worker.knows),
  subst (λ (es : List Told). Has es (Info c field.P x)) (sym t) (latest _ v.told),
)
place_told x state.DFlag c v w f t = (
  subst (λ (fs : List Fact). known_of fs (fact.DFlagged c) ≡ true) (sym f) (knows_new (fact.DFlagged c) v.worker.knows),
  subst (λ (es : List Told). Has es (Info c field.Gp x)) (sym t) (latest _ v.told),
)
place_told x state.Mark c v w f t = (
  subst (λ (fs : List Fact). known_of fs (fact.Marked c) ≡ true) (sym f) (knows_new (fact.Marked c) v.worker.knows),
  subst (λ (es : List Told). Has es (Info c field.P x)) (sym t) (latest _ v.told),
)
place_told x state.Clean c v w f t = tt

-- a step that is not counted yet, to a view that keeps these
pub keeps_but_search_unseen : (old new : PassModel) (v : View) → Sees old new v → LosesNothing old.view v → v.made ≡ old.view.made + 1 → claims_in v.won ≡ claims_in old.view.won → v.worker.card ≡ old.view.worker.card
    → v.worker.flagged ≡ old.view.worker.flagged → v.hindrances ≡ old.view.hindrances → KeepsAllButSearch old new 1
keeps_but_search_unseen old new v s k made taken card flagged hindrances =
    subst (λ (m : PassModel). KeepsAllButSearch old m 1) (sym s)
    (record { keeps = record { own = own_same old; sight = refl; slot = refl; view = k; took = took_unseen old v made }; taken = taken; card = card; flagged = flagged; hindrances = hindrances })

-- a search whose steps are counted once it has ended
pub keeps_but_search_counted : (a b c : PassModel) (n k : ℕ) → KeepsAllButSearch a b n → HasUncounted a b k → Counts b c k → KeepsAllButSearch a c n
keeps_but_search_counted a b c n k h u s =
    subst (λ (m : PassModel). KeepsAllButSearch a m n) (sym s) (record {
      keeps = record { own = own_trans a b _ h.keeps.own (own_same b); sight = h.keeps.sight; slot = h.keeps.slot; view = h.keeps.view; took = took_counted a b (record b { steps = some_more k b.steps }) n k h.keeps.took u refl };
      taken = h.taken;
      card = h.card;
      flagged = h.flagged;
      hindrances = h.hindrances;
    })

pub keeps_but_met_step : (old new : PassModel) (v : View) → Steps old new v → LosesNothing old.view v → v.made ≡ old.view.made + 1 → claims_in v.won ≡ claims_in old.view.won → v.worker.card ≡ old.view.worker.card
    → v.worker.flagged ≡ old.view.worker.flagged → v.worker.search ≡ old.view.worker.search → KeepsAllButMet old new 1
keeps_but_met_step old new v s k made taken card flagged search =
    subst (λ (m : PassModel). KeepsAllButMet old m 1) (sym s)
    (record { keeps = record { own = own_same old; sight = refl; slot = refl; view = k; took = took_one old v made }; taken = taken; card = card; flagged = flagged; search = search })

pub keeps_all_step : (old new : PassModel) (v : View) → Steps old new v → LosesNothing old.view v → v.made ≡ old.view.made + 1 → claims_in v.won ≡ claims_in old.view.won → v.worker.card ≡ old.view.worker.card
    → v.worker.flagged ≡ old.view.worker.flagged → v.worker.search ≡ old.view.worker.search → v.hindrances ≡ old.view.hindrances → KeepsAll old new 1
keeps_all_step old new v s k made taken card flagged search hindrances =
    subst (λ (m : PassModel). KeepsAll old m 1) (sym s) (record {
      keeps = record { own = own_same old; sight = refl; slot = refl; view = k; took = took_one old v made };
      taken = taken;
      card = card;
      flagged = flagged;
      search = search;
      hindrances = hindrances;
    })

pub upd_keeps : (x : ℕ) (u : Update) (v : View) → LosesNothing v (after_upd x u v)
upd_keeps x u v = record {
  ledger = refl;
  operation = refl;
  share = record { share = refl; ownable = refl };
  knows = facts_by_more u.state u.card v.worker.knows;
  told = places_more x u.state u.card v.told;
  before = refl;
  least = omega arith;
  hindered = refl;
  earlier = λ hs e. e;
}

pub key_of_keeps : (x key : ℕ) (v : View) → LosesNothing v (after_key_of x key v)
key_of_keeps x key v = record { ledger = refl; operation = refl; share = record { share = refl; ownable = refl }; knows = λ f h. h; told = λ e h. earlier e _ _ h; before = refl; least = omega arith; hindered = refl; earlier = λ hs e. e }

pub value_of_keeps : (x value : ℕ) (v : View) → LosesNothing v (after_value_of x value v)
value_of_keeps x value v = record { ledger = refl; operation = refl; share = record { share = refl; ownable = refl }; knows = λ f h. h; told = λ e h. earlier e _ _ h; before = refl; least = omega arith; hindered = refl; earlier = λ hs e. e }

pub down_keeps : (x child : ℕ) (v : View) → LosesNothing v (after_down x child v)
down_keeps x child v = record { ledger = refl; operation = refl; share = record { share = refl; ownable = refl }; knows = λ f h. h; told = met_more (depth_of v x + 1) (link_in child).node v.told; before = refl; least = omega arith; hindered = refl; earlier = λ hs e. e }

pub info_keeps : (c : ℕ) (f : Field) (x : ℕ) (v : View) → LosesNothing v (after_info c f x v)
info_keeps c f x v = record { ledger = refl; operation = refl; share = record { share = refl; ownable = refl }; knows = λ g h. h; told = info_more (depth_there v c f) c f x v.told; before = refl; least = omega arith; hindered = refl; earlier = λ hs e. e }

pub frozen_keeps : (c p : ℕ) (right : Bool) (x : ℕ) (v : View) → LosesNothing v (after_frozen_child c p right x v)
frozen_keeps c p right x v = record { ledger = refl; operation = refl; share = record { share = refl; ownable = refl }; knows = λ f h. h; told = λ e h. earlier e _ _ (met_more (depth_of v p + 1) (link_in x).node v.told e h); before = refl; least = omega arith; hindered = refl; earlier = λ hs e. e }

pub learning_keeps : (wins : List (Exchange × ℕ)) (n : ℕ) (f : Fact) (v : View) → LosesNothing v (exchanged wins n (with_fact f v))
learning_keeps wins n f v = record {
  ledger = refl;
  operation = refl;
  share = record { share = refl; ownable = refl };
  knows = λ g h. knows_more f g v.worker.knows h;
  told = λ e h. h;
  before = refl;
  least = omega arith;
  hindered = refl;
  earlier = λ hs e. e;
}
