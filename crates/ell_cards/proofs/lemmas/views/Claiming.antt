-- The steps by which a pass asks for a card, and what comes of them.
use Rattle.std.proofs.Common.{◌≡◌, ◌≢◌, ℕ, ◌+◌, ◌-◌, ◌≤◌, ◌++◌, if◌then◌else◌, Bool, true, false, Some, None, List, [], ◌∷◌, inl, inr, refl, sym, ◌∙◌, ap, subst, unwrap_or, arith}
use Rattle.std.proofs.lemmas.Option.{same_Some}
use Rattle.ell_word.specs.Node.{greatest_number}
use Rattle.ell_core.specs.declared.exchange.Exchange.TheVariants as exchange
use Rattle.ell_core.proofs.lemmas.outcomes.Decide.{some_not_none}
use Rattle.ell_runs.specs.declared.call.NewNode.{NewNode}
use Rattle.ell_runs.specs.declared.view.Hindrance.{Hindrance}
use Rattle.ell_runs.specs.declared.view.Hindrance.TheVariants.{Claim}
use Rattle.ell_runs.specs.declared.view.Slots.{Slots}
use Rattle.ell_runs.specs.declared.view.Told.TheVariants.{Expects}
use Rattle.ell_runs.specs.declared.view.View.{View}
use Rattle.ell_runs.specs.Changes.{after_claim, expected_tag, filling_for, filling_of, tag_of_claim, told_filling}
use Rattle.ell_runs.specs.Guards.{MayFill}
use Rattle.ell_runs.specs.Plans.{TablePlan}
use Rattle.ell_runs.specs.Views.{Has}
use Rattle.ell_runs.proofs.lemmas.views.Afters.{after_next}
use Rattle.ell_cards.specs.Claiming.{AsksForCard, ClaimsInVain, KnowsBeside, TakesCard, told_of_claim, with_slot}
use Rattle.ell_cards.specs.Models.{LooksAround, PassModel, Steps}
use Rattle.ell_cards.specs.Retiring.{none_retired}
use Rattle.ell_cards.specs.Shown.{cut_planned}
use Rattle.ell_cards.specs.Skipping.{IsFresh, IsRow, after_claimed_row, after_row}
use Rattle.ell_cards.proofs.lemmas.views.Rows.{IsAfterRow, rows_keep}
use Rattle.ell_cards.proofs.lemmas.views.Steps.{own_trans, view_after}

-- what a pass knows is what it knows
beside_same : (node : NewNode) (v : View) → KnowsBeside node v v
beside_same node v = record {
  operation = refl;
  search = refl;
  knows = refl;
  ledger = refl;
  share = record { share = refl; ownable = refl };
  here = refl;
  found = refl;
  looks = refl;
  glances = refl;
  answered = refl;
  given_up = refl;
  before = refl;
  hindered = refl;
  earlier = λ hs e. e;
  least = omega arith;
  won = λ e h. h;
  told = λ e h. h;
  only = λ e h. inl h;
  values = refl;
}

-- where it knows nothing but cards beside, it would be told the same of a card that it claims
module _ (node : NewNode) (v w : View) (h : KnowsBeside node v w) (c : ℕ) where
  same_tag : expected_tag w ≡ expected_tag v
  same_tag = λ t. tag_of_claim (h.operation t) (h.search t).parent (h.search t).grandparent

  same_filling : filling_of c node w ≡ filling_of c node v
  same_filling = λ t.
      filling_for c node (h.operation t) (h.search t).node (h.search t).parent (h.search t).grandparent (unwrap_or (h.here t) 0) (h.values t)

  same_claim : told_of_claim c node w ≡ told_of_claim c node v
  same_claim = λ t. Expects c (same_tag t) ∷ told_filling c (same_filling t) []

-- and so it is after more
beside_trans : (node : NewNode) (u v w : View) → KnowsBeside node u v → KnowsBeside node v w → KnowsBeside node u w
beside_trans node u v w h k = record {
  operation = k.operation ∙ h.operation;
  search = k.search ∙ h.search;
  knows = k.knows ∙ h.knows;
  ledger = k.ledger ∙ h.ledger;
  share = record { share = k.share.share ∙ h.share.share; ownable = k.share.ownable ∙ h.share.ownable };
  here = k.here ∙ h.here;
  found = k.found ∙ h.found;
  looks = k.looks ∙ h.looks;
  glances = k.glances ∙ h.glances;
  answered = k.answered ∙ h.answered;
  given_up = k.given_up ∙ h.given_up;
  before = k.before ∙ h.before;
  hindered = k.hindered ∙ h.hindered;
  earlier = λ hs e. k.earlier hs (h.earlier hs e);
  least = omega (arith, h.least, k.least);
  won = λ e has. k.won e (h.won e has);
  told = λ e has. k.told e (h.told e has);
  only = λ e has. elim (k.only e has) [
    | inl old ↦ elim (h.only e old) [
      | inl older ↦ inl older
      | inr new ↦ inr (record { card = new.card; from = new.from; before = omega (arith, new.before, k.least); among = new.among })
    ]
    | inr new ↦ inr (record {
      card = new.card;
      from = omega (arith, new.from, h.least);
      before = new.before;
      among = subst (λ es. Has es e) (same_claim node u v h new.card) new.among;
    })
  ];
  values = k.values ∙ h.values;
}

-- a pass that reads the claim word knows nothing else
next_beside : (node : NewNode) (n : ℕ) (v : View) → KnowsBeside node v (after_next n v)
next_beside node n v = record {
  operation = refl;
  search = refl;
  knows = refl;
  ledger = refl;
  share = record { share = refl; ownable = refl };
  here = refl;
  found = refl;
  looks = refl;
  glances = refl;
  answered = refl;
  given_up = refl;
  before = refl;
  hindered = refl;
  earlier = λ hs e. e;
  least = omega arith;
  won = λ e h. h;
  told = λ e h. h;
  only = λ e h. inl h;
  values = refl;
}

-- a pass that loses a claim knows that beside
lost_beside : (node : NewNode) (c : ℕ) (v : View) → v.next_at_least ≤ c → KnowsBeside node v (after_claim false c node v)
lost_beside node c v low = record {
  operation = refl;
  search = refl;
  knows = refl;
  ledger = refl;
  share = record { share = refl; ownable = refl };
  here = refl;
  found = refl;
  looks = refl;
  glances = refl;
  answered = refl;
  given_up = refl;
  before = refl;
  hindered = refl;
  earlier = λ hs e. ap (λ (l : List Hindrance). Claim c ∷ l) e;
  least = omega (arith, low);
  won = λ e h. h;
  told = λ e h. h;
  only = λ e h. inl h;
  values = refl;
}

-- and so it is with one that wins a row of claims
row_beside : (first last : ℕ) (node : NewNode) (v w : View) → IsAfterRow first last node v w → v.next_at_least ≤ first → first ≤ last → KnowsBeside node v w
row_beside first last node v w r low up = record {
  operation = r.operation;
  search = r.search;
  knows = r.knows;
  ledger = r.ledger;
  share = record { share = r.share; ownable = r.shared };
  here = r.here;
  found = r.found;
  looks = r.looks;
  glances = r.glances;
  answered = r.answered;
  given_up = r.given_up;
  before = r.knew_before;
  hindered = r.hindered;
  earlier = λ hs e. r.hindrances ∙ (e ∙ ap (λ (ms : List Hindrance). ms ++ hs) (sym r.met));
  least = omega (arith, r.least, low, up);
  won = r.won;
  told = r.told;
  only = λ e has. elim (r.only e has) [
    | inl old ↦ inl old
    | inr new ↦ inr (record { card = new.card; from = omega (arith, new.from, low); before = omega (arith, new.before, r.least); among = new.among })
  ];
  values = r.values;
}

-- what a pass knows once it has claimed a row of cards
claimed_row : (first last : ℕ) (node : NewNode) (v : View) → first ≤ last → IsAfterRow first last node v (after_claimed_row true first last node v)
claimed_row first last node v order =
    subst (λ m. IsAfterRow first m node v (cut_planned (after_row (last - first) first node v))) (omega arith) (rows_keep (last - first) first node v)

-- a pass asks for a card by steps of which each is counted
asks_none : (plan : TablePlan) (node : NewNode) (p : PassModel) → AsksForCard plan node 0 p p
asks_none plan node p = record {
  own = record { table = refl; label = refl };
  sight = refl;
  inside = refl;
  view = beside_same node p.view;
  steps = omega arith;
  made = λ empty. omega arith;
}

asks_trans : (plan : TablePlan) (node : NewNode) (a b c : PassModel) (m n k : ℕ) → AsksForCard plan node m a b → AsksForCard plan node n b c → m + n ≤ k
    → AsksForCard plan node k a c
asks_trans plan node a b c m n k h h' le = record {
  own = own_trans _ _ _ h.own h'.own;
  sight = h'.sight ∙ h.sight;
  inside = h'.inside ∙ h.inside;
  view = beside_trans node a.view b.view c.view h.view h'.view;
  steps = omega (arith, h.steps, h'.steps, le);
  made = λ empty. (let few = h.made empty in let more = h'.made empty in omega (arith, few, more, le));
}

asks_step : (plan : TablePlan) (node : NewNode) (a b : PassModel) (w : View) → Steps a b w → KnowsBeside node a.view w → (plan.slots ≡ None → w.made ≤ a.view.made + 1)
    → AsksForCard plan node 1 a b
asks_step plan node a b w s beside made =
    subst (λ (p : PassModel). AsksForCard plan node 1 a p) (sym s)
    (record { own = record { table = refl; label = refl }; sight = refl; inside = refl; view = beside; steps = omega arith; made = made })

-- looks at announcements are not
asks_looked : (plan : TablePlan) (node : NewNode) (a b : PassModel) → LooksAround a b → AsksForCard plan node 0 a b
asks_looked plan node a b same =
    subst (λ (p : PassModel). AsksForCard plan node 0 a p) (sym same)
    (record { own = record { table = refl; label = refl }; sight = refl; inside = refl; view = beside_same node a.view; steps = omega arith; made = λ empty. omega arith })

-- nor is it that a slot is taken, or was in use
asks_taken : (plan : TablePlan) (node : NewNode) (a b : PassModel) (c : ℕ) (won : Bool) → b ≡ (if won then with_slot c a else a) → AsksForCard plan node 0 a b
asks_taken plan node a b c won is = subst (λ (p : PassModel). AsksForCard plan node 0 a p) (sym is) (by won)
  where
    by : (t : Bool) → AsksForCard plan node 0 a (if t then with_slot c a else a)
    by true = record { own = record { table = refl; label = refl }; sight = refl; inside = refl; view = beside_same node a.view; steps = omega arith; made = λ empty. omega arith }
    by false = asks_none plan node a

-- the claim word is read in a step, and cards are claimed in one
asks_next : (plan : TablePlan) (node : NewNode) (a b : PassModel) (n : ℕ) → Steps a b (after_next n a.view) → AsksForCard plan node 1 a b
asks_next plan node a b n s = asks_step plan node a b (after_next n a.view) s (next_beside node n a.view) (λ empty. omega arith)

asks_row : (plan : TablePlan) (node : NewNode) (first last : ℕ) → IsRow plan first last → (b d : PassModel) (won : Bool) → b.view.next_at_least ≤ first
    → Steps b d (after_claimed_row won first last node b.view) → AsksForCard plan node 1 b d
asks_row plan node first last row b d true low s =
    let r = claimed_row first last node b.view row.order in
    asks_step plan node b d (after_claimed_row true first last node b.view) s (row_beside first last node b.view (after_claimed_row true first last node b.view) r low row.order)
    (λ empty. (let one = row.one empty in let made = r.made in omega (arith, one, made)))
asks_row plan node first last row b d false low s =
    asks_step plan node b d (after_claim false first node b.view) s (lost_beside node first b.view low) (λ empty. omega arith)

-- cards that may be taken at once, where cards lie in slots
pub row_by : (plan : TablePlan) (s : Slots) → plan.slots ≡ Some s → (first last : ℕ) → first ≤ last → last ≤ plan.last_card → IsRow plan first last
row_by plan s placed first last order room = record { order = order; room = room; one = λ empty. absurd (some_not_none placed empty) }

-- A pass read the claim word, and then perhaps looked at announcements. It may claim the next card then.
module _ (plan : TablePlan) (node : NewNode) (a b e : PassModel) (first : ℕ) (read : Steps a b (after_next first a.view)) (same : LooksAround b e)
    (low : a.view.next_at_least ≤ first) where
  view_then : e.view ≡ after_next first a.view
  view_then = ap (λ (p : PassModel). p.view) same ∙ view_after a b (after_next first a.view) read

  slot_then : e.memory.slot ≡ a.memory.slot
  slot_then = ap (λ (p : PassModel). p.memory.slot) same ∙ ap (λ (p : PassModel). p.memory.slot) read

  retired_then : e.memory.retired ≡ a.memory.retired
  retired_then = ap (λ (p : PassModel). p.memory.retired) same ∙ ap (λ (p : PassModel). p.memory.retired) read

  asks_then : AsksForCard plan node 1 a e
  asks_then = asks_trans plan node a b e 1 0 1 (asks_next plan node a b first read) (asks_looked plan node b e same) (omega arith)

  -- it tried to claim all cards from that to a last one
  module _ (d : PassModel) (last : ℕ) (row : IsRow plan first last) where
    abbrev ClaimsAll : Bool → Type 0
    ClaimsAll won = Steps e d (after_claimed_row won first last node e.view)

    view_there : (won : Bool) → ClaimsAll won → d.view ≡ after_claimed_row won first last node (after_next first a.view)
    view_there won s = view_after e d (after_claimed_row won first last node e.view) s ∙ ap (after_claimed_row won first last node) view_then

    row_there : (f : PassModel) → f.view ≡ d.view → ClaimsAll true → IsAfterRow first last node (after_next first a.view) f.view
    row_there f is s =
        subst (IsAfterRow first last node (after_next first a.view)) (sym (is ∙ view_there true s)) (claimed_row first last node (after_next first a.view) row.order)

    pub asks_there : (won : Bool) → ClaimsAll won → AsksForCard plan node 2 a d
    asks_there won s =
        asks_trans plan node a e d 1 1 2 asks_then
        (asks_row plan node first last row e d won (let least = ap (λ (v : View). v.next_at_least) view_then in omega (arith, least, low)) s) (omega arith)

    -- and then perhaps looked at announcements again, and took the last one's slot, or found it in use
    pub asks_on : (won : Bool) → ClaimsAll won → (l f : PassModel) → LooksAround d l → (took : Bool) → f ≡ (if took then with_slot last l else l) → AsksForCard plan node 2 a f
    asks_on won s l f looked took is =
        asks_trans plan node a l f 2 0 2 (asks_trans plan node a d l 2 0 2 (asks_there won s) (asks_looked plan node d l looked) (omega arith))
        (asks_taken plan node l f last took is) (omega arith)

    -- if it won them, the last one is in hand
    pub holds_last : (f : PassModel) → f.view ≡ d.view → ClaimsAll true → MayFill f.view last
    holds_last f is s = let r = row_there f is s in record { holds = r.card; unflagged = r.unflagged }

    -- with its slot
    pub takes_card : 1 ≤ first → plan.last_card ≤ greatest_number → (f : PassModel) → f.view ≡ d.view → ClaimsAll true → (plan.slots ≢ None → f.memory.slot ≡ Some last)
        → (plan.slots ≢ None → f.memory.retired ≡ none_retired) → TakesCard plan node last a f
    takes_card some limit f is s took unretired =
        let r = row_there f is s in
        record {
          first = omega (arith, some, row.order);
          last = row.room;
          limit = limit;
          before = omega (arith, low, row.order);
          after = r.least;
          may = holds_last f is s;
          planned = r.planned;
          stores = r.stores;
          told = r.says;
          hindrances = r.hindrances;
          slot = took;
          unretired = unretired;
          won = r.claimed last row.order (omega arith);
          one = λ empty. ap (λ (v : View). v.won) (is ∙ view_there true s) ∙ one (row.one empty);
        }
      where
        one : last ≡ first → (after_claimed_row true first last node (after_next first a.view)).won ≡ (exchange.Claim, last) ∷ a.view.won
        one only =
            let none : last - first ≡ 0 = omega (arith, only) in
            ap (λ m. (after_row m first node (after_next first a.view)).won) none ∙ ap (λ c. (exchange.Claim, c) ∷ a.view.won) (sym only)

    -- or that was in use, and the card may be discarded
    pub claims_in_vain : plan.slots ≢ None → (f : PassModel) → f.view ≡ d.view → f.memory.slot ≡ d.memory.slot → f.memory.retired ≡ d.memory.retired → ClaimsAll true
        → IsFresh plan e.memory.slot true last → ClaimsInVain a f
    claims_in_vain places f is slot retired s fresh =
        let r = row_there f is s in
        let before = ap (λ (p : PassModel). p.memory.slot) s in
        record {
          hand = record {
            unflagged = λ c holds. r.unflagged;
            below = λ c holds. (let only = same_Some last c (sym r.card ∙ holds) in omega (arith, only, r.least));
            discarded = λ c holds took. fresh places refl (sym before ∙ (sym slot ∙ (took ∙ (sym holds ∙ r.card))));
          };
          hindrances = r.hindrances;
          slot = slot ∙ (before ∙ slot_then);
          retired = retired ∙ (ap (λ (p : PassModel). p.memory.retired) s ∙ retired_then);
        }
