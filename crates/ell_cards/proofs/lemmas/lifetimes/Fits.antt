use Rattle.std.proofs.Common.{◌≡◌, ℕ, Bool, true, false, ◌≤◌, not, Some, List, ◌+◌, refl, sym, ap, ◌∙◌, subst, arith, All, ◌-◌, inl, inr, get_or, ◌↔◌, ◌≢◌, None, filter, ◌||◌, Option, max, ◌%◌, ◌^◌}
use Rattle.std.specs.List.Sorted.{IsStrictlyIncreasing}
use Rattle.ell_layout.specs.Layout.{table_size}
use Rattle.ell_word.specs.Node.{greatest_number}
use Rattle.ell_runs.specs.Naming.{IsNamed}
use Rattle.ell_cards.specs.InSlots.{IsPlaced}
use Rattle.ell_core.specs.state.Machine.{ledger_of}
use Rattle.ell_core.proofs.lemmas.outcomes.Decide.{some_not_none}
use Rattle.ell_runs.specs.declared.view.View.{View}
use Rattle.ell_runs.specs.Changes.{ledger_keys, first_of, ownable_if, left_view, right_view, joined_view}
use Rattle.ell_cards.specs.Inside.{PassFits}
use Rattle.ell_runs.proofs.lemmas.words.Keys.{owned_among}
use Rattle.ell_runs.proofs.lemmas.lifetimes.Idle.{rest_named}
use Rattle.std.proofs.lemmas.Bool.{false≢true}
use Rattle.ell_ops.specs.KeySet.{set_of, Lists, union}
use Rattle.ell_runs.specs.Plans.{TablePlan}
use Rattle.ell_runs.specs.Views.{whole_share, given_share, Knows, KnowsCard}
use Rattle.ell_cards.proofs.lemmas.seats.Placed.{named_placed, rest_placed, placed_more}
use Rattle.ell_runs.proofs.lemmas.lifetimes.Openings.{keys_start}
use Rattle.std.proofs.lemmas.List.Kept.{IsStrictlyIncreasing-filter}
use Rattle.ell_cards.specs.Stepping.{MayHave, PartsShare}
use Rattle.ell_runs.proofs.lemmas.lifetimes.Parts.{keys_on, keys_off, ascending_parts}
use Rattle.ell_core.specs.declared.view.Entry.{Entry}
use Rattle.ell_core.specs.declared.fact.Fact.{Fact}
use Rattle.ell_core.specs.declared.fact.Fact.TheVariants as fact
use Rattle.std.specs.Option.{option_or}
use Rattle.ell_ops.proofs.lemmas.Merges.{keys_united, lists_united}
use Rattle.ell_ops.proofs.lemmas.Sets.{one_list}
use Rattle.ell_runs.proofs.lemmas.lifetimes.Unions.{keys_of_united}
use Rattle.ell_cards.specs.declared.share.Share.{Share}
use Rattle.ell_cards.specs.SlotWords.{slot_of}
use Rattle.ell_runs.proofs.lemmas.lifetimes.Joins.{joined_named, known_either}

-- the first pass has its keys
pub first_fits : (plan : TablePlan) (words : ℕ) → table_size 0 ≤ words → IsStrictlyIncreasing plan.keys
    → PassFits plan.keys (record { units = whole_share; counts = plan.shared }) words (first_of plan)
first_fits plan words room rising = record {
  owned = sym (keys_start plan.keys plan.start);
  ascending = rising;
  share = record { units = refl; counts = mode plan.shared };
  named = λ cards size. first_named cards;
  most = first_named greatest_number;
  inside = record { last = 0; low = omega arith; few = room; placed = named_placed 0 (first_of plan) (first_named 0) };
}
  where
    first_named : (cards : ℕ) → IsNamed cards (first_of plan)
    first_named cards = rest_named cards (first_of plan) refl (λ f k. absurd (false≢true k)) refl refl (omega arith)

    mode : (shared : Bool) → (shared ≡ true) ↔ (ownable_if shared plan.keys ≢ None)
    mode true = (λ is none. some_not_none refl none, λ some. refl)
    mode false = (λ is. absurd (false≢true is), λ some. absurd (some refl))

-- the parts have the shares that the code parts
pub parts_share : (v : View) (chosen : List ℕ) → PartsShare v (left_view chosen v) (right_view chosen v)
parts_share v chosen share has = (
  record { units = ap (λ n. n - given_share n) has.units; counts = has.counts },
  record { units = ap given_share has.units; counts = has.counts },
)

-- keys that a ledger owns are among its keys
pub owned_all : (l : List (ℕ × Entry)) (keys chosen : List ℕ) → keys ≡ ledger_keys l → All (λ k. ledger_of l k ≢ None) chosen → All (λ k. set_of keys k ≡ true) chosen
owned_all l keys chosen are all i d low =
    subst (λ (ks : List ℕ). set_of ks (get_or chosen i d) ≡ true) (sym are) (owned_among l (get_or chosen i d) (all i d low))

module _ (v : View) (keys chosen : List ℕ) (are : keys ≡ ledger_keys v.worker.ledger) (rising : IsStrictlyIncreasing keys)
    (rise : IsStrictlyIncreasing chosen) (all : All (λ k. ledger_of v.worker.ledger k ≢ None) chosen) where
  -- the left part has the keys that were chosen
  pub left_has : MayHave v chosen (left_view chosen v)
  left_has = record {
    owned = sym (keys_on chosen v.worker.ledger ∙ (ap (filter (set_of chosen)) (sym are)
        ∙ (ascending_parts keys chosen rising rise (owned_all v.worker.ledger keys chosen are all)).taken));
    ascending = rise;
    named = λ cards named. rest_named cards (left_view chosen v) refl named.facts refl refl named.next;
    placed = λ last placed. rest_placed last (left_view chosen v) refl placed.facts refl;
  }

  -- the right part has the rest
  pub right_has : (rest : List ℕ) → rest ≡ filter (λ k. not (set_of chosen k)) keys → MayHave v rest (right_view chosen v)
  right_has rest is = record {
    owned = is ∙ (ap (filter (λ k. not (set_of chosen k))) are ∙ sym (keys_off chosen v.worker.ledger));
    ascending = subst IsStrictlyIncreasing (sym is) (IsStrictlyIncreasing-filter (λ k. not (set_of chosen k)) keys rising);
    named = λ cards named. rest_named cards (right_view chosen v) refl named.facts refl refl named.next;
    placed = λ last placed. rest_placed last (right_view chosen v) refl placed.facts refl;
  }

-- two passes as one are placed where they were
joined_placed : (last : ℕ) (v w : View) → IsPlaced last v → IsPlaced last w → IsPlaced last (joined_view v w)
joined_placed last v w h g = rest_placed last (joined_view v w) refl known refl
  where
    either : (f : Fact) (c : ℕ) → (Knows v f → KnowsCard v c) → (Knows w f → KnowsCard w c) → Knows (joined_view v w) f → slot_of c ≤ last
    either f c mine yours knows = elim (known_either v.worker.knows w.worker.knows f knows) [
      | inl a ↦ h.facts c (mine a)
      | inr b ↦ g.facts c (yours b)
    ]

    known : (c : ℕ) → KnowsCard (joined_view v w) c → slot_of c ≤ last
    known c (inl k) = either (fact.IFlagged c) c (λ x. inl x) (λ x. inl x) k
    known c (inr (inl k)) = either (fact.DFlagged c) c (λ x. inr (inl x)) (λ x. inr (inl x)) k
    known c (inr (inr k)) = either (fact.Marked c) c (λ x. inr (inr x)) (λ x. inr (inr x)) k

-- the share of both counts where one of the two does
either_counts : (a b : Bool) (l m : Option (List ℕ)) → (a ≡ true) ↔ (l ≢ None) → (b ≡ true) ↔ (m ≢ None) → ((a || b) ≡ true) ↔ (option_or l m ≢ None)
either_counts a b None m h g = by a (λ is. h.0 is refl)
  where
    by : (a : Bool) → (a ≡ true → ⊥) → ((a || b) ≡ true) ↔ (m ≢ None)
    by false h = g
    by true h = absurd (h refl)
either_counts a b (Some l) m h g = (λ is none. some_not_none refl none, λ some. by a (h.1 (λ none. some_not_none refl none)))
  where
    by : (a : Bool) → a ≡ true → (a || b) ≡ true
    by true is = refl
    by false is = absurd (false≢true is)

-- and have the keys of both
pub joined_fits : (words left right : ℕ) (ours theirs one other keys : List ℕ) (mine yours : Share) (v w : View) → PassFits ours mine left v → PassFits theirs yours right w
    → words ≡ left → words ≡ right → one ≡ ours → other ≡ theirs → Lists (union (set_of one) (set_of other)) keys
    → PassFits keys (record { units = (mine.units + yours.units) % 2 ^ 64; counts = mine.counts || yours.counts }) words (joined_view v w)
joined_fits words left right ours theirs one other keys mine yours v w h g same_left same_right first second listed =
    let both = union (set_of ours) (set_of theirs) in
    let ascending : Lists both keys =
    subst (λ l. Lists (union (set_of ours) (set_of l)) keys) second (subst (λ l. Lists (union (set_of l) (set_of other)) keys) first listed) in
    let is = one_list both keys (keys_united ours theirs) ascending (lists_united ours theirs g.ascending) in record {
      owned = is ∙ ((λ t. keys_united (h.owned t) (g.owned t)) ∙ sym (keys_of_united v.worker.ledger w.worker.ledger));
      ascending = ascending.ascending;
      share = record {
        units = (λ t. (h.share.units t + g.share.units t) % 2 ^ 64);
        counts = either_counts mine.counts yours.counts v.worker.shared w.worker.shared h.share.counts g.share.counts;
      };
      named = λ cards size. joined_named cards v w (h.named cards (sym same_left ∙ size)) (g.named cards (sym same_right ∙ size));
      most = joined_named greatest_number v w h.most g.most;
      inside =
          let last = max h.inside.last g.inside.last in
          let few = h.inside.few in
          let few' = g.inside.few in record {
            last = last;
            low = let low = h.inside.low in let low' = g.inside.low in omega arith;
            few = omega arith;
            placed = joined_placed last v w (placed_more h.inside.last last (omega arith) v h.inside.placed) (placed_more g.inside.last last (omega arith) w g.inside.placed);
          };
    }
