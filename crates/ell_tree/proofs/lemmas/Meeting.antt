use Rattle.std.proofs.Common.{◌≡◌, ◌≢◌, ℕ, ◌+◌, ◌*◌, ◌%◌, ◌≤◌, ◌++◌, Option, Some, None, List, [], ◌∷◌, Bool, true, false, if◌then◌else◌, ◌==◌, eq-eqb, length, refl, sym, ◌∙◌, ap, subst, inl, inr, arith, append_assoc, length-append}
use Rattle.ell_ops.specs.declared.op.Op.{Op}
use Rattle.ell_ops.specs.declared.op.Op.TheVariants.{Find, Insert, Delete, Swap}
use Rattle.ell_word.specs.declared.update.State.{State}
use Rattle.ell_word.specs.declared.update.State.TheVariants as state
use Rattle.ell_word.specs.declared.update.Update.{Update}
use Rattle.ell_word.specs.Word.{packed, unpacked, state_number, state_of}
use Rattle.ell_core.specs.declared.fact.Fact.TheVariants as fact
use Rattle.ell_core.specs.declared.put.Put.{Put}
use Rattle.ell_core.specs.declared.view.Search.{Search}
use Rattle.ell_core.specs.acts.Searching.{at_root, put_of}
use Rattle.ell_runs.specs.declared.view.Hindrance.{Hindrance}
use Rattle.ell_runs.specs.declared.view.Hindrance.TheVariants.{Claim, Found}
use Rattle.ell_runs.specs.declared.view.View.{View}
use Rattle.ell_runs.specs.Views.{Knows}
use Rattle.ell_runs.specs.Changes.{in_the_way, first_in_way, read_in_way, unless_clean, is_this}
use Rattle.ell_runs.proofs.lemmas.words.Updates.{card_again}
use Rattle.ell_tree.specs.declared.searching.Passed.{Passed}
use Rattle.ell_tree.specs.Hindrances.{IsEnded, AreOver, StillKnows, Meets, MeetsUpTo, way_of}
use Rattle.ell_tree.specs.Helps.{IsBacked, met_by_mark}
use Rattle.ell_tree.specs.Searches.{seen, seen_any, below}
use Rattle.ell_runs.specs.Dead.{KnowsDeleteEnded}

-- what is over stays so
pub delete_ended_still : (v w : View) (c : ℕ) → StillKnows v w → KnowsDeleteEnded v c → KnowsDeleteEnded w c
delete_ended_still v w c k (inl h) = inl (k (fact.DOver c) h)
delete_ended_still v w c k (inr h) = inr (k (fact.Backed c) h)

pub ended_still : (v w : View) (s : State) (c : ℕ) → StillKnows v w → IsEnded v s c → IsEnded w s c
ended_still v w state.IFlag c k h = k (fact.IOver c) h
ended_still v w state.DFlag c k h = delete_ended_still v w c k h
ended_still v w state.Mark c k h = k (fact.DOver c) h
ended_still v w state.Clean c k h = tt

pub over_still : (v w : View) (hs : List Hindrance) → StillKnows v w → AreOver v hs → AreOver w hs
over_still v w [] k h = tt
over_still v w (Claim c ∷ hs) k h = (tt, over_still v w hs k h.1)
over_still v w (Found u ∷ hs) k h = (ended_still v w u.state u.card k h.0, over_still v w hs k h.1)

pub over_together : (v : View) (hs ks : List Hindrance) → AreOver v hs → AreOver v ks → AreOver v (hs ++ ks)
over_together v [] ks h k = k
over_together v (x ∷ hs) ks h k = (h.0, over_together v hs ks h.1 k)

-- these came to be in the way, and are over
pub meets_these : (hs : List Hindrance) (v w : View) → w.hindrances ≡ hs ++ v.hindrances → AreOver w hs → StillKnows v w → Meets v w
meets_these hs v w e o k = record { met = hs; list = e; over = o; knows = k }

pub meets_none : (v w : View) → w.hindrances ≡ v.hindrances → StillKnows v w → Meets v w
meets_none v w e k = record { met = []; list = e; over = tt; knows = k }

pub meets_trans : (u v w : View) → Meets u v → Meets v w → Meets u w
meets_trans u v w a b = record {
  met = b.met ++ a.met;
  list = b.list ∙ (ap (λ hs. b.met ++ hs) a.list ∙ sym (append_assoc b.met a.met u.hindrances));
  over = over_together w b.met a.met b.over (over_still v w a.met b.knows a.over);
  knows = λ f h. b.knows f (a.knows f h);
}

-- all that waited for a delete is over with it
pub up_to_end : (c : ℕ) (u v w : View) → MeetsUpTo c u v → Meets v w → KnowsDeleteEnded w c → Meets u w
up_to_end c u v w a b e = record {
  met = b.met ++ a.met;
  list = b.list ∙ (ap (λ hs. b.met ++ hs) a.list ∙ sym (append_assoc b.met a.met u.hindrances));
  over = over_together w b.met a.met b.over (a.over w b.knows e);
  knows = λ f h. b.knows f (a.knows f h);
}

pub up_to_none : (c : ℕ) (v : View) → MeetsUpTo c v v
up_to_none c v = record { met = []; list = refl; over = λ x k e. tt; knows = λ f h. h }

pub up_to_trans : (c d : ℕ) (u v w : View) → MeetsUpTo c u v → MeetsUpTo d v w → KnowsDeleteEnded w c → MeetsUpTo d u w
up_to_trans c d u v w a b e = record {
  met = b.met ++ a.met;
  list = b.list ∙ (ap (λ hs. b.met ++ hs) a.list ∙ sym (append_assoc b.met a.met u.hindrances));
  over = λ x k f. over_together x b.met a.met (b.over x k f) (a.over x (λ g h. k g (b.knows g h)) (delete_ended_still w x c k e));
  knows = λ f h. b.knows f (a.knows f h);
}

pub meets_more : (v w : View) → Meets v w → length v.hindrances ≤ length w.hindrances
meets_more v w m = let n = ap length m.list in omega (arith, n, length-append m.met v.hindrances)

-- what is in the way of a search that stands at the root, or nowhere
pub root_way : (op : Op) (v : View) → v.worker.search ≡ at_root → way_of op v ≡ []
root_way (Find k) v e = subst (λ (s : Search). in_the_way (Some (Find k)) s.node s.parent s.grandparent ≡ []) (sym e) refl
root_way (Insert k value) v e = subst (λ (s : Search). in_the_way (Some (Insert k value)) s.node s.parent s.grandparent ≡ []) (sym e) refl
root_way (Swap k was value) v e = subst (λ (s : Search). in_the_way (Some (Swap k was value)) s.node s.parent s.grandparent ≡ []) (sym e) refl
root_way (Delete k) v e = subst (λ (s : Search). in_the_way (Some (Delete k)) s.node s.parent s.grandparent ≡ []) (sym e) refl

pub nowhere_way : (op : Op) (v : View) → v.worker.search.node ≡ None → way_of op v ≡ []
nowhere_way (Find k) v e = subst (λ (n : Option ℕ). in_the_way (Some (Find k)) n v.worker.search.parent v.worker.search.grandparent ≡ []) (sym e) refl
nowhere_way (Insert k value) v e = subst (λ (n : Option ℕ). in_the_way (Some (Insert k value)) n v.worker.search.parent v.worker.search.grandparent ≡ []) (sym e) refl
nowhere_way (Swap k was value) v e = subst (λ (n : Option ℕ). in_the_way (Some (Swap k was value)) n v.worker.search.parent v.worker.search.grandparent ≡ []) (sym e) refl
nowhere_way (Delete k) v e = subst (λ (n : Option ℕ). in_the_way (Some (Delete k)) n v.worker.search.parent v.worker.search.grandparent ≡ []) (sym e) refl

-- the state of an update is that of its word
state_again : (u : Update) → (unpacked (packed u)).state ≡ u.state
state_again u = by u.state
  where
    by : (s : State) → state_of ((4 * u.card + state_number s) % 4) ≡ s
    by state.IFlag = let rest : (4 * u.card + 0) % 4 ≡ 0 = omega arith in ap state_of rest
    by state.DFlag = let rest : (4 * u.card + 1) % 4 ≡ 1 = omega arith in ap state_of rest
    by state.Mark = let rest : (4 * u.card + 2) % 4 ≡ 2 = omega arith in ap state_of rest
    by state.Clean = let rest : (4 * u.card + 3) % 4 ≡ 3 = omega arith in ap state_of rest

-- what a search read at a node that it passed
passed_way : (x : Passed) → read_in_way (Some (seen x)) ≡ unless_clean x.update.state x.update.card
passed_way x = ap (λ s. unless_clean s (unpacked (packed x.update)).card) (state_again x.update) ∙ ap (unless_clean x.update.state) (card_again x.update)

unclean : (s : State) (c : ℕ) → s ≢ state.Clean → unless_clean s c ≡ Found (record { state = s; card = c }) ∷ []
unclean state.IFlag c n = refl
unclean state.DFlag c n = refl
unclean state.Mark c n = refl
unclean state.Clean c n = absurd (n refl)

first_unclean : (s : State) (c : ℕ) (hs : List Hindrance) → s ≢ state.Clean → first_in_way (unless_clean s c) hs ≡ unless_clean s c
first_unclean state.IFlag c hs n = refl
first_unclean state.DFlag c hs n = refl
first_unclean state.Mark c hs n = refl
first_unclean state.Clean c hs n = absurd (n refl)

clean_way : (s : State) (c : ℕ) → s ≡ state.Clean → unless_clean s c ≡ []
clean_way s c e = ap (λ t. unless_clean t c) e

-- what an insert's or a swap's search read in its way, where it stands below a parent
pub put_way : (op : Op) (what : Put) → put_of op ≡ Some what → (leaf : ℕ) (x : Passed) (above : Option Passed) (v : View)
    → v.worker.search ≡ below leaf x (seen_any above) → way_of op v ≡ unless_clean x.update.state x.update.card
put_way (Find k) what is leaf x above v e = absurd cc
put_way (Insert k value) what is leaf x above v e =
    subst (λ (s : Search). in_the_way (Some (Insert k value)) s.node s.parent s.grandparent ≡ unless_clean x.update.state x.update.card) (sym e) (passed_way x)
put_way (Delete k) what is leaf x above v e = absurd cc
put_way (Swap k was value) what is leaf x above v e =
    subst (λ (s : Search). in_the_way (Some (Swap k was value)) s.node s.parent s.grandparent ≡ unless_clean x.update.state x.update.card) (sym e) (passed_way x)

-- what a delete's search read in its way, where it stands below a grandparent and a parent
delete_way : (k leaf : ℕ) (x above : Passed) (v : View) → v.worker.search ≡ below leaf x (Some (seen above))
    → way_of (Delete k) v ≡ first_in_way (unless_clean above.update.state above.update.card) (unless_clean x.update.state x.update.card)
delete_way k leaf x above v e =
    subst
    (λ (s : Search). in_the_way (Some (Delete k)) s.node s.parent s.grandparent
    ≡ first_in_way (unless_clean above.update.state above.update.card) (unless_clean x.update.state x.update.card))
    (sym e)
    (ap (λ hs. first_in_way hs (read_in_way (Some (seen x)))) (passed_way above)
    ∙ ap (first_in_way (unless_clean above.update.state above.update.card)) (passed_way x))

pub above_way : (k leaf : ℕ) (x above : Passed) (v : View) → v.worker.search ≡ below leaf x (Some (seen above)) → above.update.state ≢ state.Clean
    → way_of (Delete k) v ≡ unless_clean above.update.state above.update.card
above_way k leaf x above v e n =
    delete_way k leaf x above v e ∙ first_unclean above.update.state above.update.card (unless_clean x.update.state x.update.card) n

pub parent_way : (k leaf : ℕ) (x above : Passed) (v : View) → v.worker.search ≡ below leaf x (Some (seen above)) → above.update.state ≡ state.Clean
    → way_of (Delete k) v ≡ unless_clean x.update.state x.update.card
parent_way k leaf x above v e n =
    delete_way k leaf x above v e
    ∙ ap (λ hs. first_in_way hs (unless_clean x.update.state x.update.card)) (clean_way above.update.state above.update.card n)

-- an update in the way is over once what it says has ended; a clean one is none
pub way_over : (w : View) (s : State) (c : ℕ) (hs : List Hindrance) → hs ≡ unless_clean s c → s ≢ state.Clean → IsEnded w s c → AreOver w hs × (1 ≤ length hs)
way_over w s c hs e n h = subst (λ ks. AreOver w ks × (1 ≤ length ks)) (sym (e ∙ unclean s c n)) ((h, tt), omega arith)

pub way_free : (w : View) (s : State) (c : ℕ) (hs : List Hindrance) → hs ≡ unless_clean s c → s ≡ state.Clean → AreOver w hs
way_free w s c hs e n = subst (AreOver w) (sym (e ∙ clean_way s c n)) tt

pub no_way : (w : View) (hs : List Hindrance) → hs ≡ [] → AreOver w hs
no_way w hs e = subst (AreOver w) (sym e) tt

-- an update that was found in place of a mark is in the way where the card is in hand
pub found_meets : (b : Bool) (u : Update) (v w : View) → w.hindrances ≡ (if b then Found u ∷ v.hindrances else v.hindrances)
    → IsEnded w u.state u.card → StillKnows v w → Meets v w
found_meets true u v w e h k = meets_these (Found u ∷ []) v w e (h, tt) k
found_meets false u v w e h k = meets_none v w e k

pub found_up_to : (b : Bool) (u : Update) (v w : View) → w.hindrances ≡ (if b then Found u ∷ v.hindrances else v.hindrances)
    → u.state ≡ state.DFlag → StillKnows v w → MeetsUpTo u.card v w
found_up_to true u v w e is k = record {
  met = Found u ∷ [];
  list = e;
  over = λ x j h. (subst (λ s. IsEnded x s u.card) (sym is) h, tt);
  knows = k;
}
found_up_to false u v w e is k = record { met = []; list = e; over = λ x j h. tt; knows = k }

pub found_count : (o : Option ℕ) (c : ℕ) (u : Update) (hs ks : List Hindrance) → ks ≡ (if is_this o c then Found u ∷ hs else hs) → o ≡ Some c
    → length hs + 1 ≤ length ks
found_count None c u hs ks e is = cc
found_count (Some d) c u hs ks e is =
    let held : (d == c) ≡ true = eq-eqb d c (cc) in
    let n = ap length (e ∙ ap (λ b. if b then Found u ∷ hs else hs) held) in
    omega (arith, n)

-- a lost mark is taken back, once what was found in its place has ended
pub lost_ends : (c : ℕ) (u : Update) (v s w : View) → s.hindrances ≡ met_by_mark c (Some u) v → w.hindrances ≡ s.hindrances → StillKnows v w
    → IsEnded w u.state u.card → Knows w (fact.Backed c) → Meets v w × IsBacked c v w
lost_ends c u v s w at e k ended backed = (
  found_meets (is_this v.worker.card c) u v w (e ∙ at) ended k,
  record { knows = backed; hindered = found_count v.worker.card c u v.hindrances w.hindrances (e ∙ at) },
)

-- or before, where that is the flag of another delete
pub lost_behind : (c : ℕ) (u : Update) (v s w : View) → s.hindrances ≡ met_by_mark c (Some u) v → w.hindrances ≡ s.hindrances → StillKnows v w
    → u.state ≡ state.DFlag → Knows w (fact.Backed c) → MeetsUpTo u.card v w × IsBacked c v w
lost_behind c u v s w at e k is backed = (
  found_up_to (is_this v.worker.card c) u v w (e ∙ at) is k,
  record { knows = backed; hindered = found_count v.worker.card c u v.hindrances w.hindrances (e ∙ at) },
)
