-- What a pass knows after a row of claims, in which each card but the last one is discarded.
use Rattle.std.proofs.Common.{◌≢◌, ◌<◌, ◌≤◌, ◌-◌, ◌*◌, unwrap_or, ◌≡◌, ◌⊎◌, ℕ, zero, suc, ◌+◌, ◌==◌, ◌%◌, if◌then◌else◌, Bool, true, false, Some, List, [], ◌∷◌, inl, inr, refl, sym, ap, ◌∙◌, subst, arith}
use Rattle.std.proofs.lemmas.Bool.{cases_eq}
use Rattle.std.proofs.lemmas.Option.{same_Some}
use Rattle.ell_core.specs.declared.exchange.Exchange.{Exchange}
use Rattle.ell_core.specs.declared.exchange.Exchange.TheVariants as exchange
use Rattle.ell_core.specs.declared.view.Search.{Search}
use Rattle.ell_core.specs.statements.Told.{is_fixed}
use Rattle.ell_layout.specs.declared.field.Field.{Field}
use Rattle.ell_ops.specs.declared.op.Op.{Op}
use Rattle.ell_ops.specs.declared.op.Op.TheVariants.{Find, Insert, Delete, Swap}
use Rattle.ell_runs.specs.declared.call.Call.TheVariants as call
use Rattle.ell_runs.specs.declared.call.NewNode.{NewNode}
use Rattle.ell_runs.specs.declared.view.Told.{Told}
use Rattle.ell_runs.specs.declared.view.Told.TheVariants.{Key, Value, Info, Expects}
use Rattle.ell_runs.specs.declared.view.View.{View}
use Rattle.ell_runs.specs.Changes.{expected_tag, filling_for, filling_of, ledger_keys, tagged, told_filling, told_value, value_told}
use Rattle.ell_runs.specs.Calls.{after}
use Rattle.ell_runs.specs.Guards.{Wants, MayClaim}
use Rattle.ell_runs.specs.Views.{Has, latest, earlier, IsTold}
use Rattle.ell_cards.specs.Claiming.{IsToldOfClaims, told_of_claim}
use Rattle.ell_cards.specs.Skipping.{after_one, after_row}
use Rattle.ell_cards.specs.Shown.{cut_planned, shown_words}
use Rattle.ell_runs.specs.Views.{SameShare}
use Rattle.ell_runs.proofs.lemmas.views.Entries.{filling_more}

-- what was told before a claim is told after it
pub told_on : (c : ℕ) (node : NewNode) (v : View) (e : Told) → IsTold v e → IsTold (after_one c node v) e
told_on c node v e h =
    earlier e (Expects c (expected_tag v)) (told_filling c (filling_of c node v) v.told) (filling_more c (filling_of c node v) v.told e h)

-- so are the values of leaves
value_on : (c : ℕ) (es : List (Field × ℕ)) (told : List Told) (x : ℕ) → told_value (told_filling c es told) x ≡ told_value told x
value_on c [] told x = refl
value_on c (e ∷ es) told x = by (is_fixed e.0) (value_on c es told x)
  where
    by : (b : Bool) → told_value (told_filling c es told) x ≡ told_value told x
        → told_value (if b then Info c e.0 e.1 ∷ told_filling c es told else told_filling c es told) x ≡ told_value told x
    by true rest = rest
    by false rest = rest

values_on : (c : ℕ) (node : NewNode) (v : View) → value_told (after_one c node v).told ≡ value_told v.told
values_on c node v = λ t x. if x % 4 == 0 then 0 else value_on c (filling_of c node v) v.told x t

-- so what fills a card after a claim fills it before that
filling_on : (c d : ℕ) (node : NewNode) (v : View) → filling_of d node (after_one c node v) ≡ filling_of d node v
filling_on c d node v =
    ap (filling_for d node v.worker.operation v.worker.search.node v.worker.search.parent v.worker.search.grandparent
    (unwrap_or v.here 0)) (values_on c node v)

-- what is told of what fills a card
filling_has : (c : ℕ) (es : List (Field × ℕ)) (told : List Told) (e : Told) → Has (told_filling c es []) e → Has (told_filling c es told) e
filling_has c [] told e h = elim h [ ]
filling_has c (d ∷ es) told e h = by (is_fixed d.0) e (filling_has c es told e) h
  where
    by : (b : Bool) (e : Told) → (Has (told_filling c es []) e → Has (told_filling c es told) e)
        → Has (if b then Info c d.0 d.1 ∷ told_filling c es [] else told_filling c es []) e
        → Has (if b then Info c d.0 d.1 ∷ told_filling c es told else told_filling c es told) e
    by true e rest (latest _ _) = latest e (told_filling c es told)
    by true e rest (earlier _ _ _ g) = earlier e (Info c d.0 d.1) (told_filling c es told) (rest g)
    by false e rest g = rest g

filling_only : (c : ℕ) (es : List (Field × ℕ)) (told : List Told) (e : Told) → Has (told_filling c es told) e
    → Has told e ⊎ Has (told_filling c es []) e
filling_only c [] told e h = inl h
filling_only c (d ∷ es) told e h = by (is_fixed d.0) e (filling_only c es told e) h
  where
    by : (b : Bool) (e : Told) → (Has (told_filling c es told) e → Has told e ⊎ Has (told_filling c es []) e)
        → Has (if b then Info c d.0 d.1 ∷ told_filling c es told else told_filling c es told) e
        → Has told e ⊎ Has (if b then Info c d.0 d.1 ∷ told_filling c es [] else told_filling c es []) e
    by true e rest (latest _ _) = inr (latest e (told_filling c es []))
    by true e rest (earlier _ _ _ g) = elim (rest g) [
      | inl old ↦ inl old
      | inr new ↦ inr (earlier e (Info c d.0 d.1) (told_filling c es []) new)
    ]
    by false e rest g = rest g

-- a claim tells this
claim_says : (c tag : ℕ) (es : List (Field × ℕ)) (told : List Told) (e : Told) → Has (Expects c tag ∷ told_filling c es []) e
    → Has (Expects c tag ∷ told_filling c es told) e
claim_says c tag es told e (latest _ _) = latest e (told_filling c es told)
claim_says c tag es told e (earlier _ _ _ h) = earlier e (Expects c tag) (told_filling c es told) (filling_has c es told e h)

-- and nothing else
claim_only : (c tag : ℕ) (es : List (Field × ℕ)) (told : List Told) (e : Told) → Has (Expects c tag ∷ told_filling c es told) e
    → Has told e ⊎ Has (Expects c tag ∷ told_filling c es []) e
claim_only c tag es told e (latest _ _) = inr (latest e (told_filling c es []))
claim_only c tag es told e (earlier _ _ _ h) = elim (filling_only c es told e h) [
  | inl old ↦ inl old
  | inr new ↦ inr (earlier e (Expects c tag) (told_filling c es []) new)
]

-- What a pass knows after a row of claims, from a first card to a last one: that is in hand, not flagged, and nothing
-- of it is stored; it is to say what it would have been to say had it been the first, cut to 64 bits; and beside what
-- was told before, what was told is of the cards of the row, and no leaf's value. It has won a claim for each of
-- these, and has made a call between two of them. All else is as it was.
pub record IsAfterRow (first last : ℕ) (node : NewNode) (old new : View) : Type 0 where
  pub operation : new.worker.operation ≡ old.worker.operation
  pub search : new.worker.search ≡ old.worker.search
  pub knows : new.worker.knows ≡ old.worker.knows
  pub ledger : new.worker.ledger ≡ old.worker.ledger
  pub shared : new.worker.shared ≡ old.worker.shared
  pub card : new.worker.card ≡ Some last
  pub unflagged : new.worker.flagged ≡ false
  pub planned : new.planned ≡ shown_words (tagged (expected_tag old) (filling_of last node old))
  pub stores : new.stores ≡ []
  pub here : new.here ≡ old.here
  pub least : new.next_at_least ≡ last + 1
  pub found : new.found ≡ old.found
  pub share : new.share ≡ old.share
  pub looks : new.looks ≡ old.looks
  pub glances : new.glances ≡ old.glances
  pub answered : new.answered ≡ old.answered
  pub given_up : new.given_up ≡ old.given_up
  pub knew_before : new.knew_before ≡ old.knew_before
  pub hindrances : new.hindrances ≡ old.hindrances
  pub hindered : new.hindered ≡ old.hindered
  pub met : new.met ≡ old.met
  pub won : (w : Exchange × ℕ) → Has old.won w → Has new.won w
  pub claimed : (c : ℕ) → first ≤ c → c ≤ last → Has new.won (exchange.Claim, c)
  pub made : new.made ≡ old.made + 2 * (last - first) + 1
  pub told : (e : Told) → IsTold old e → IsTold new e
  pub values : value_told new.told ≡ value_told old.told
  pub says : (e : Told) → Has (told_of_claim last node old) e → IsTold new e
  pub only : (e : Told) → IsTold new e → IsTold old e ⊎ IsToldOfClaims first (last + 1) node old e

-- what a pass knows after a row of claims
pub rows_keep : (n c : ℕ) (node : NewNode) (v : View) → IsAfterRow c (c + n) node v (cut_planned (after_row n c node v))
rows_keep zero c node v = subst (λ m. IsAfterRow c m node v (cut_planned (after_row zero c node v))) (omega arith) (record {
  operation = refl;
  search = refl;
  knows = refl;
  ledger = refl;
  shared = refl;
  card = refl;
  unflagged = refl;
  planned = refl;
  stores = refl;
  here = refl;
  least = refl;
  found = refl;
  share = refl;
  looks = refl;
  glances = refl;
  answered = refl;
  given_up = refl;
  knew_before = refl;
  hindrances = refl;
  hindered = refl;
  met = refl;
  won = λ w h. earlier w (exchange.Claim, c) v.won h;
  claimed = λ d low most. subst (λ x. Has ((exchange.Claim, c) ∷ v.won) (exchange.Claim, x)) (omega arith) (latest (exchange.Claim, c) v.won);
  made = omega arith;
  told = told_on c node v;
  values = values_on c node v;
  says = claim_says c (expected_tag v) (filling_of c node v) v.told;
  only = λ e h. elim (claim_only c (expected_tag v) (filling_of c node v) v.told e h) [
    | inl old ↦ inl old
    | inr new ↦ inr (record { card = c; from = omega arith; before = omega arith; among = new })
  ];
})
rows_keep (suc n) c node v =
    let h = rows_keep n (c + 1) node (after_one c node v) in
    let same : (d : ℕ) → told_of_claim d node (after_one c node v) ≡ told_of_claim d node v =
    λ d. ap (λ es. Expects d (expected_tag v) ∷ told_filling d es []) (filling_on c d node v) in
    subst (λ m. IsAfterRow c m node v (cut_planned (after_row (suc n) c node v))) (omega arith) (record {
      operation = h.operation;
      search = h.search;
      knows = h.knows;
      ledger = h.ledger;
      shared = h.shared;
      card = h.card;
      unflagged = h.unflagged;
      planned = h.planned ∙ ap (λ es. shown_words (tagged (expected_tag v) es)) (filling_on c (c + 1 + n) node v);
      stores = h.stores;
      here = h.here;
      least = h.least;
      found = h.found;
      share = h.share;
      looks = h.looks;
      glances = h.glances;
      answered = h.answered;
      given_up = h.given_up;
      knew_before = h.knew_before;
      hindrances = h.hindrances;
      hindered = h.hindered;
      met = h.met;
      won = λ w has. h.won w (earlier w (exchange.Claim, c) v.won has);
      claimed = λ d low most. elim (cases_eq d c) [
        | inl e ↦ subst (λ x. Has (after_row n (c + 1) node (after_one c node v)).won (exchange.Claim, x)) (sym e)
            (h.won (exchange.Claim, c) (latest (exchange.Claim, c) v.won))
        | inr other ↦ h.claimed d (omega arith) most
      ];
      made = let more = h.made in omega arith;
      told = λ e was. h.told e (told_on c node v e was);
      values = h.values ∙ values_on c node v;
      says = λ e has. h.says e (subst (λ es. Has es e) (sym (same (c + 1 + n))) has);
      only = λ e has. elim (h.only e has) [
        | inl old ↦ elim (claim_only c (expected_tag v) (filling_of c node v) v.told e old) [
          | inl older ↦ inl older
          | inr new ↦ inr (record { card = c; from = omega arith; before = omega arith; among = new })
        ]
        | inr new ↦ inr (record {
          card = new.card;
          from = let low = new.from in omega arith;
          before = let low = new.before in omega (arith, low);
          among = subst (λ es. Has es e) (same new.card) new.among;
        })
      ];
    })

-- it has the keys and the share that it had
pub row_keys : (n c : ℕ) (node : NewNode) (v : View) → ledger_keys (after_row n c node v).worker.ledger ≡ ledger_keys v.worker.ledger
row_keys n c node v = ap ledger_keys (rows_keep n c node v).ledger

pub row_share : (n c : ℕ) (node : NewNode) (v : View) → SameShare v (cut_planned (after_row n c node v))
row_share n c node v = let h = rows_keep n c node v in record { share = h.share; ownable = h.shared }

-- a pass that was told what it was told before, and whose search stands where it stood, wants the same
pub wants_same : (from : ℕ) (v w : View) → ((e : Told) → IsTold v e → IsTold w e) → w.worker.search ≡ v.worker.search
    → (op : Op) (parent x key node_key : ℕ) → Wants from v op parent x key node_key → Wants from w op parent x key node_key
wants_same from v w more same (Find k) parent x key node_key h = h
wants_same from v w more same (Insert k value) parent x key node_key h = record {
  leaf = λ outer. (let at = h.leaf outer in (at.0, (at.1.0, more (Value x at.1.0) at.1.1)));
  edge = h.edge;
  fits = λ block. (let at = h.fits block in (at.0, more (Key parent at.0) at.1, at.2));
  named = h.named;
}
wants_same from v w more same (Swap k was value) parent x key node_key h = record {
  outer = h.outer;
  same = h.same;
  value = more (Value x was) h.value;
  named = h.named;
}
wants_same from v w more same (Delete k) parent x key node_key h = record {
  outer = h.outer;
  same = h.same;
  above = h.above;
  grandparent = ap (λ (s : Search). s.grandparent) same ∙ h.grandparent;
  calm = h.calm;
}

-- so in a flat tree, where it might claim the card from which it has claimed a row, it may claim the next one too, once
-- it has read that: then the last one of the row is discarded
pub row_claims_on : (from : ℕ) → 0 < from → (n c : ℕ) (node : NewNode) (next : ℕ) (v : View) → next ≢ c + n → MayClaim from v c node
    → MayClaim from (after call.Next next (after_row n c node v)) next node
row_claims_on from flat n c node next v other m =
    let h = rows_keep n c node v in
    record {
      op = m.op;
      below = m.below;
      key = m.key;
      parent = m.parent;
      read = refl;
      other = λ e. other (sym (same_Some (c + n) next (sym h.card ∙ e)));
      ready = inr (flat, h.unflagged);
      busy = h.operation ∙ m.busy;
      stands = ap (λ (s : Search). s.node) h.search ∙ m.stands;
      told = h.here ∙ m.told;
      behind = ap (λ (s : Search). s.parent) h.search ∙ m.behind;
      calm = m.calm;
      wants = wants_same from v (after call.Next next (after_row n c node v)) h.told h.search m.op m.parent.node m.below m.key node.key m.wants;
      shape = m.shape;
    }

-- so it is after one claim
pub one_claims_on : (from : ℕ) → 0 < from → (c : ℕ) (node : NewNode) (v : View) → MayClaim from v c node → MayClaim from (after_one c node v) (c + 1) node
one_claims_on from flat c node v m = row_claims_on from flat 0 c node (c + 1) v (λ e. omega arith) m
