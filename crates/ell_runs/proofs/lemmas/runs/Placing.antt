use Rattle.std.proofs.Common.{◌≡◌, ℕ, zero, suc, ◌<◌, ◌≤◌, ◌+◌, ◌-◌, ◌⊎◌, Option, List, [], ◌∷◌, length, take, drop, inl, inr, sym, ap, ◌∙◌, subst, arith}
use Rattle.std.proofs.lemmas.Bool.{cases_lt}
use Rattle.std.proofs.lemmas.List.{drop-take}
use mathlib.Core.Option.{some, some-injective, some-ne-none}
use lib.ListN.{get_elem?}
use Rattle.ell_ops.specs.Contents.{Contents, contents_of}
use Rattle.ell_ops.specs.Meaning.{after, final}
use Rattle.ell_runs.specs.declared.call.Call.TheVariants as call
use Rattle.ell_layout.specs.Words.{Words}
use Rattle.ell_runs.specs.Changing.{HasMap}
use Rattle.ell_runs.specs.Plans.{TablePlan}
use Rattle.ell_runs.specs.States.{TableState}
use Rattle.ell_runs.specs.Turns.{Turn, Makes, TableTurns, TableRun}
use Rattle.ell_runs.specs.TurnEffects.{own_words}
use Rattle.ell_runs.specs.Starts.{Starts}
use Rattle.ell_runs.specs.Looking.{HasThere}
use Rattle.ell_runs.specs.Linearizing.{IsAnswered, Item, ops_of}
use Rattle.ell_runs.specs.Placing.{HasPlace, IsLook, IsLookFor, LooksHavePlaces, began}
use Rattle.ell_runs.proofs.lemmas.runs.AsMap.{map_has}
use Rattle.ell_runs.proofs.lemmas.runs.LinearizingLists.{Placed, items_of, AreRight, low_in, in_at, placed_at}
use Rattle.ell_runs.proofs.lemmas.runs.LinearizingStates.{run_same, run_to, turn_same}
use Rattle.ell_runs.proofs.lemmas.runs.LinearizingPoints.{after_turns, made, map_after, is_map, first_map, take_fewer, state_between}
use Rattle.ell_runs.proofs.lemmas.runs.Linearizing.{all_calls, sequence, before_end, after_begin, linearized}

-- how many calls of a sequence are before a state: they leave its map
record Cut (map : ℕ → Contents) (first p : ℕ) (xs : List Placed) : Type 0 where
  count : ℕ
  leaves : map p ≡ final (map first) (ops_of (take count (items_of xs)))
  among : (i : ℕ) (x : Placed) → get_elem? xs i ≡ some x → x.at < p → i < count
  beyond : (i : ℕ) (x : Placed) → get_elem? xs i ≡ some x → p < x.at → count ≤ i

-- by whether the state is before the first of them has ended
abbrev cut_by : (map : ℕ → Contents) (last first p : ℕ) (x : Placed) (xs : List Placed) → AreRight map last first (x ∷ xs) → first ≤ p → p ≤ last → (p < x.past) ⊎ (x.past ≤ p)
    → (x.past ≤ p → Cut map x.past p xs) → Cut map first p (x ∷ xs)
cut_by map last first p x xs h low high (inl short) next =
    let near = h.1.near in
    let up = h.0.up in record {
      count = 0;
      leaves = h.0.same p low (omega arith);
      among = λ i y e less. absurd (none i y e less short near);
      beyond = λ i y e less. omega arith;
    }
  where
    none : (i : ℕ) (y : Placed) → get_elem? (x ∷ xs) i ≡ some y → y.at < p → p < x.past → x.past ≤ suc x.at → ⊥
    none zero y e less short near = let same = ap (λ (z : Placed). z.at) (some-injective x y e) in omega arith
    none (suc i) y e less short near = let up = low_in map last x.past xs h.2 y (in_at xs i y e) in omega arith
cut_by map last first p x xs h low high (inr most) next =
    let rest = next most in
    let up = h.1.up in
    let here : map x.past ≡ after x.item.op (map first) = sym h.1.goes ∙ ap (after x.item.op) (h.0.same x.at h.0.up (omega arith)) in record {
      count = suc rest.count;
      leaves = rest.leaves ∙ ap (λ (m : Contents). final m (ops_of (take rest.count (items_of xs)))) here;
      among = more rest.count rest.among;
      beyond = past rest.count rest.beyond most up;
    }
  where
    more : (n : ℕ) → ((i : ℕ) (y : Placed) → get_elem? xs i ≡ some y → y.at < p → i < n) → (i : ℕ) (y : Placed) → get_elem? (x ∷ xs) i ≡ some y → y.at < p → i < suc n
    more n rest zero y e less = omega arith
    more n rest (suc i) y e less = let h = rest i y e less in omega arith

    past : (n : ℕ) → ((i : ℕ) (y : Placed) → get_elem? xs i ≡ some y → p < y.at → n ≤ i) → x.past ≤ p → x.at ≤ x.past
        → (i : ℕ) (y : Placed) → get_elem? (x ∷ xs) i ≡ some y → p < y.at → suc n ≤ i
    past n rest most up zero y e less = let same = ap (λ (z : Placed). z.at) (some-injective x y e) in absurd (omega arith)
    past n rest most up (suc i) y e less = let h = rest i y e less in omega arith

abbrev cut : (map : ℕ → Contents) (last first p : ℕ) (xs : List Placed) → AreRight map last first xs → first ≤ p → p ≤ last → Cut map first p xs
cut map last first p [] h low high = record {
  count = 0;
  leaves = h.same p low high;
  among = λ i x e less. absurd (some-ne-none x (sym e));
  beyond = λ i x e less. absurd (some-ne-none x (sym e));
}
cut map last first p (x ∷ xs) h low high = cut_by map last first p x xs h low high (cases_lt p x.past) (λ most. cut map last x.past p xs h.2 most high)

-- before a later state there are no fewer
cut_rises : (map : ℕ → Contents) (last first p q : ℕ) (xs : List Placed) (h : AreRight map last first xs) (low : first ≤ p) (high : p ≤ last) (low' : first ≤ q) (high' : q ≤ last)
    → p ≤ q → (cut map last first p xs h low high).count ≤ (cut map last first q xs h low' high').count
cut_rises map last first p q [] h low high low' high' up = let none : 0 ≤ 0 = omega arith in none
cut_rises map last first p q (x ∷ xs) h low high low' high' up =
    by (cases_lt p x.past) (cases_lt q x.past) (λ most more. cut_rises map last x.past p q xs h.2 most high more high' up)
  where
    one : x.past ≤ p → Cut map x.past p xs
    one most = cut map last x.past p xs h.2 most high

    other : x.past ≤ q → Cut map x.past q xs
    other more = cut map last x.past q xs h.2 more high'

    by : (c : (p < x.past) ⊎ (x.past ≤ p)) (d : (q < x.past) ⊎ (x.past ≤ q)) → ((most : x.past ≤ p) (more : x.past ≤ q) → (one most).count ≤ (other more).count)
        → (cut_by map last first p x xs h low high c one).count ≤ (cut_by map last first q x xs h low' high' d other).count
    by (inl short) d rest = let least : 0 ≤ (cut_by map last first q x xs h low' high' d other).count = omega arith in least
    by (inr most) (inl short) rest = absurd (omega arith)
    by (inr most) (inr more) rest =
        let fewer = rest most more in
        let both : suc (one most).count ≤ suc (other more).count = omega arith in both

of_take : {A : Type 0} (n : ℕ) (l : List A) (k : ℕ) (a : A) → get_elem? (take n l) k ≡ some a → (k < n) × (get_elem? l k ≡ some a)
of_take zero l k a e = absurd (some-ne-none a (sym e))
of_take (suc n) [] k a e = absurd (some-ne-none a (sym e))
of_take (suc n) (x ∷ xs) zero a e = (omega arith, e)
of_take (suc n) (x ∷ xs) (suc k) a e = (let h = of_take n xs k a e in let less = h.0 in (omega arith, h.1))

module _ (plan : TablePlan) (opened : TableState) (starts : Starts plan opened) (turns : List Turn) (s' : TableState) (run : TableRun plan opened turns s') where
  abbrev state : ℕ → TableState
  state = after_turns plan opened starts turns s' run

  abbrev map_at : ℕ → Contents
  map_at = map_after plan opened starts turns s' run

  abbrev order : List Item
  order = sequence plan opened starts turns s' run

  -- the state in which it was so, after so many turns of the run
  pub record SeenAt (began ended : ℕ) (what : Words → Type 0) : Type 0 where
    pub at : ℕ
    pub low : suc began ≤ at
    pub high : at ≤ ended
    pub so : what (own_words (state at))

  pub seen_at : (ended : ℕ) (what : Words → Type 0) (look : IsLookFor plan opened turns ended what) → SeenAt look.found.began.first ended what
  seen_at ended what look =
      let b = look.found.began in
      let at = of_take ended turns b.first (Makes look.seat call.Look) b.at in
      let less = at.0 in
      let from : b.from ≡ state b.first = run_same plan opened (take b.first turns) b.from (state b.first)
      (subst (λ ts. TableRun plan opened ts b.from) (take_fewer b.first ended turns (omega arith)) b.before)
      (run_to plan opened turns s' run b.first) in
      let to : b.to ≡ state (suc b.first) = turn_same plan b.from (Makes look.seat call.Look) b.to (state (suc b.first)) b.call
      (subst (λ (x : TableState). TableTurns plan x (Makes look.seat call.Look) (state (suc b.first))) (sym from)
      (made plan opened starts turns s' run b.first (Makes look.seat call.Look) at.1)) in
      let n = ended - suc b.first in
      let whole : suc b.first + n ≡ ended = omega arith in
      let rest : drop (suc b.first) (take ended turns) ≡ take n (drop (suc b.first) turns) =
      ap (λ k. drop (suc b.first) (take k turns)) (sym whole) ∙ drop-take (suc b.first) n turns in
      let amid = look.found.so.amid in
      let led : TableRun plan (state (suc b.first)) (take amid.first (take n (drop (suc b.first) turns))) look.found.so.state =
      subst (λ (x : TableState). TableRun plan x (take amid.first (take n (drop (suc b.first) turns))) look.found.so.state) to
      (subst (λ ts. TableRun plan b.to (take amid.first ts) look.found.so.state) rest amid.before) in
      let between = state_between plan opened starts turns s' run (suc b.first) ended amid.first look.found.so.state (omega arith) led in record {
        at = between.place;
        low = between.low;
        high = between.high;
        so = subst (λ (x : TableState). what (own_words x)) between.is look.found.so.so;
      }

  pub least : (p : ℕ) → 0 ≤ p
  least p = omega arith

  pub within : (ended : ℕ) (what : Words → Type 0) (look : IsLookFor plan opened turns ended what) → (seen_at ended what look).at ≤ length turns
  within ended what look = let high = (seen_at ended what look).high in let inside = look.inside in omega arith

  -- the calls before a state
  abbrev before : (p : ℕ) → p ≤ length turns → Cut map_at 0 p (all_calls plan opened starts turns s' run).list
  before p up = cut map_at (length turns) 0 p (all_calls plan opened starts turns s' run).list (all_calls plan opened starts turns s' run).right (least p) up

  before_rises : (p q : ℕ) (up : p ≤ length turns) (up' : q ≤ length turns) → p ≤ q → (before p up).count ≤ (before q up').count
  before_rises p q up up' less =
      cut_rises map_at (length turns) 0 p q (all_calls plan opened starts turns s' run).list (all_calls plan opened starts turns s' run).right (least p) up (least q) up' less

  -- what they leave is the map of that state, and they are with each call that had ended before the look began, and none
  -- that began after it
  pub record StandsAt (began ended : ℕ) (what : Words → Type 0) : Type 0 where
    pub place : ℕ
    pub map : Contents
    pub words : Words
    pub are : HasMap words map
    pub so : what words
    pub leaves : map ≡ final (contents_of plan.start) (ops_of (take place order))
    pub after : (i : ℕ) (x : Item) → get_elem? order i ≡ some x → (end : ℕ) → IsAnswered turns x.begin end x.op x.reply → end < began → i < place
    pub before : (i : ℕ) (x : Item) → get_elem? order i ≡ some x → ended ≤ x.begin → place ≤ i

  abbrev pub look_stands : (ended : ℕ) (what : Words → Type 0) (look : IsLookFor plan opened turns ended what) → StandsAt look.found.began.first ended what
  look_stands ended what look =
      let seen = seen_at ended what look in
      let p = seen.at in
      let low = seen.low in
      let high = seen.high in
      let calls = all_calls plan opened starts turns s' run in
      let parts = before p (within ended what look) in
      record {
        place = parts.count;
        map = map_at p;
        words = own_words (state p);
        are = is_map plan opened starts turns s' run p;
        so = seen.so;
        leaves = parts.leaves ∙ ap (λ (m : Contents). final m (ops_of (take parts.count (items_of calls.list)))) (first_map plan opened starts turns s' run);
        after = λ i x there' end h first.
            let y = placed_at calls.list i x there' in
            let last = before_end plan opened starts turns s' run y.placed (in_at calls.list i y.placed y.there) end
            (subst (λ (k : Item). IsAnswered turns k.begin end k.op k.reply) (sym y.is) h) in
            parts.among i y.placed y.there (omega arith);
        before = λ i x there' later.
            let y = placed_at calls.list i x there' in
            let begins = after_begin plan opened starts turns s' run y.placed (in_at calls.list i y.placed y.there) in
            let same = ap (λ (k : Item). k.begin) y.is in
            parts.beyond i y.placed y.there (omega arith);
      }

  abbrev look_placed : (ended key : ℕ) (there : Option ℕ) (look : IsLook plan opened turns ended key there)
      → HasPlace (contents_of plan.start) turns order (began plan opened turns ended key there look) ended key there
  look_placed ended key there look =
      let at = look_stands ended (HasThere key there) look in
      record {
        place = at.place;
        says = sym (map_has at.words at.map at.are key there at.so) ∙ ap (λ (m : Contents). m key) at.leaves;
        after = at.after;
        before = at.before;
      }

-- each look of each run has a place
pub looks_have_places : LooksHavePlaces
looks_have_places plan opened starts turns s' run = record {
  calls = linearized plan opened starts turns s' run;
  looks = look_placed plan opened starts turns s' run;
  keeps = λ ended key there look ended' key' there' later first.
      let one = seen_at plan opened starts turns s' run ended (HasThere key there) look in
      let other = seen_at plan opened starts turns s' run ended' (HasThere key' there') later in
      let high = one.high in
      let low = other.low in
      before_rises plan opened starts turns s' run one.at other.at (within plan opened starts turns s' run ended (HasThere key there) look)
      (within plan opened starts turns s' run ended' (HasThere key' there') later) (omega arith);
}
