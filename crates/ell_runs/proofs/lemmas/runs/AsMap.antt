use Rattle.std.proofs.Common.{◌≡◌, ◌==◌, ℕ, suc, if◌then◌else◌, Bool, true, false, not, Option, Some, None, is_some, unwrap_or, List, ◌∷◌, inl, inr, refl, sym, ap, ◌∙◌, subst, drop, [], ◌++◌, take}
use Rattle.std.proofs.lemmas.Bool.{eq-eqb, cases_eq, ne_eqb}
use Rattle.ell_ops.specs.Contents.{Contents, with_pair, with_swap, swapped, without, contents_of}
use Rattle.ell_ops.specs.Meaning.{key_of, reply_of, after, yes_if, found, final}
use Rattle.ell_ops.specs.declared.op.Op.{Op}
use Rattle.ell_ops.specs.declared.op.Op.TheVariants.{Find, Insert, Delete, Swap}
use Rattle.ell_ops.specs.declared.reply.Reply.{Reply}
use Rattle.ell_ops.specs.declared.reply.Reply.TheVariants.{Found}
use Rattle.ell_layout.specs.Words.{Words}
use Rattle.ell_core.specs.acts.Searching.{leaf_answer}
use Rattle.ell_core.specs.tree.Tree.{IsTreeKey}
use Rattle.ell_core.specs.statements.Effects.{reply_of_change, AddsPair, TakesPair, ReplacesPair, SamePairs, MakesChange, op_of_card}
use Rattle.ell_core.proofs.lemmas.outcomes.Decide.{same_value, some_not_none}
use Rattle.ell_core.proofs.lemmas.following.AnswerMeaning.{key_kept, key_lacked, swap_lacked, swap_other}
use Rattle.ell_core.proofs.lemmas.keeping.search.Answer.{gives_else}
use Rattle.ell_runs.specs.Plans.{TablePlan}
use Rattle.ell_runs.specs.Looking.{HasThere}
use Rattle.ell_runs.specs.TurnEffects.{own_words, PairsChangeBy}
use Rattle.ell_runs.specs.States.{TableState}
use Rattle.ell_runs.specs.Changing.{HasMap, CallsAnswerAsAMap, IsAMap, TreesAreMaps, effect_of, turn_effect, run_effects, TreesAreOfOneThread, CallsReplyAsOneThread}
use Rattle.ell_runs.proofs.lemmas.runs.Points.{calls_have_their_point}
use Rattle.ell_runs.specs.Turns.{TableRun, Turn, Makes, Splits, Joins, TableTurns, found_by}
use Rattle.ell_layout.specs.Cards.{card_key, card_value}
use Rattle.ell_runs.specs.declared.call.Call.{Call}
use Rattle.ell_runs.specs.declared.call.Call.TheVariants as call
use Rattle.ell_runs.specs.Calls.{is_won, atomic_of}
use Rattle.ell_runs.specs.Machines.{HasMachine}
use Rattle.ell_runs.proofs.lemmas.runs.TurnsOfRuns.{turn_lawful}
use Rattle.ell_runs.proofs.lemmas.runs.Starting.{starts_are_kept, starts_have_their_keys}

-- what the tree has of a key is what its map has
pub map_has : (w : Words) (there : Contents) → HasMap w there → (key : ℕ) (o : Option ℕ) → HasThere key o w → there key ≡ o
unfolding HasThere
map_has w there map key (Some value) h = (map key value).0 h
map_has w there map key None h = by (there key) refl
  where
    by : (o : Option ℕ) → there key ≡ o → o ≡ None
    by None e = refl
    by (Some value) e = absurd (h (value, (map key value).1 e))

-- a leaf's answer is the reply on what is there, and the operation leaves it
pub leaf_reply : (op : Op) (o : Option ℕ) (said : Reply) (there : Contents) → there (key_of op) ≡ o → leaf_answer op o ≡ Some said → said ≡ reply_of op there
leaf_reply (Find k) o said there is e = sym (same_value refl e) ∙ ap found (sym is)
leaf_reply (Insert k value) (Some had) said there is e = sym (same_value refl e) ∙ ap (λ p. yes_if (not (is_some p))) (sym is)
leaf_reply (Insert k value) None said there is e = absurd (some_not_none e refl)
leaf_reply (Delete k) (Some had) said there is e = absurd (some_not_none e refl)
leaf_reply (Delete k) None said there is e = sym (same_value refl e) ∙ ap (λ p. yes_if (is_some p)) (sym is)
leaf_reply (Swap k was value) (Some had) said there is e = (gives_else (had == was) (Found had) said e).1 ∙ ap found (sym is)
leaf_reply (Swap k was value) None said there is e = sym (same_value refl e) ∙ ap found (sym is)

pub leaf_leaves : (op : Op) (o : Option ℕ) (said : Reply) (there : Contents) → there (key_of op) ≡ o → leaf_answer op o ≡ Some said → (key : ℕ) → after op there key ≡ there key
leaf_leaves (Find k) o said there is e key = refl
leaf_leaves (Insert k value) (Some had) said there is e key = sym (key_kept there k value had is key)
leaf_leaves (Insert k value) None said there is e key = absurd (some_not_none e refl)
leaf_leaves (Delete k) (Some had) said there is e key = absurd (some_not_none e refl)
leaf_leaves (Delete k) None said there is e key = sym (key_lacked there k is key)
leaf_leaves (Swap k was value) (Some had) said there is e key = sym (swap_other there k was value had is (gives_else (had == was) (Found had) said e).0 key)
leaf_leaves (Swap k was value) None said there is e key = sym (swap_lacked there k was value is key)

-- a tree that lacks a key has a map that lacks it
lacks : (w : Words) (there : Contents) → HasMap w there → (key : ℕ) → ¬ IsTreeKey w key → there key ≡ None
unfolding HasThere
lacks w there map key none = map_has w there map key None none

-- an insert of a key that is not there
added : (old new : Words) (key value : ℕ) → AddsPair old new key value → (there : Contents) → HasMap old there → HasMap new (with_pair there key value)
added old new key value adds there map q v = elim (cases_eq q key) [
  | inl same ↦
      let none : there q ≡ None = ap there same ∙ lacks old there map key adds.absent in
      let is : with_pair there key value q ≡ Some value =
      ap (λ b. if b then Some (unwrap_or (there q) value) else there q) (eq-eqb q key same) ∙ ap (λ o. Some (unwrap_or o value)) none in (
        λ h. elim ((adds.pairs q v).0 h) [
          | inl had ↦ absurd (some_not_none ((map q v).0 had) none)
          | inr new ↦ is ∙ ap (λ n. Some n) (sym new.1)
        ],
        λ e. (adds.pairs q v).1 (inr (same, sym (same_value is e))),
      )
  | inr other ↦
      let is : with_pair there key value q ≡ there q = ap (λ b. if b then Some (unwrap_or (there q) value) else there q) (ne_eqb q key other) in (
        λ h. elim ((adds.pairs q v).0 h) [
          | inl had ↦ is ∙ (map q v).0 had
          | inr new ↦ absurd (other new.0)
        ],
        λ e. (adds.pairs q v).1 (inl ((map q v).1 (sym is ∙ e))),
      )
]

-- a delete of one that is
taken : (old new : Words) (key value : ℕ) → TakesPair old new key value → (there : Contents) → HasMap old there → HasMap new (without there key)
taken old new key value takes there map q v = elim (cases_eq q key) [
  | inl same ↦
      let is : without there key q ≡ None = ap (λ b. if b then None else there q) (eq-eqb q key same) in (
        λ h. absurd (((takes.pairs q v).0 h).1 same),
        λ e. absurd (some_not_none e is),
      )
  | inr other ↦
      let is : without there key q ≡ there q = ap (λ b. if b then None else there q) (ne_eqb q key other) in (
        λ h. is ∙ (map q v).0 ((takes.pairs q v).0 h).0,
        λ e. (takes.pairs q v).1 ((map q v).1 (sym is ∙ e), other),
      )
]

-- a swap of the value that a key has
replaced : (old new : Words) (key was value : ℕ) → ReplacesPair old new key was value → (there : Contents) → HasMap old there
    → HasMap new (with_swap there key was value)
replaced old new key was value replaces there map q v = elim (cases_eq q key) [
  | inl same ↦
      let had : there q ≡ Some was = ap there same ∙ (map key was).0 replaces.present in
      let is : with_swap there key was value q ≡ Some value =
      ap (λ b. if b then swapped (there q) was value else there q) (eq-eqb q key same)
      ∙ (ap (λ o. swapped o was value) had ∙ ap (λ b. Some (if b then value else was)) (eq-eqb was was refl)) in (
        λ h. elim ((replaces.pairs q v).0 h) [
          | inl other ↦ absurd (other.1 same)
          | inr new ↦ is ∙ ap (λ n. Some n) (sym new.1)
        ],
        λ e. (replaces.pairs q v).1 (inr (same, sym (same_value is e))),
      )
  | inr other ↦
      let is : with_swap there key was value q ≡ there q = ap (λ b. if b then swapped (there q) was value else there q) (ne_eqb q key other) in (
        λ h. elim ((replaces.pairs q v).0 h) [
          | inl had ↦ is ∙ (map q v).0 had.0
          | inr new ↦ absurd (other new.0)
        ],
        λ e. (replaces.pairs q v).1 (inl ((map q v).1 (sym is ∙ e), other)),
      )
]

pub change_map : (op : Op) (old new : Words) → MakesChange op old new → (there : Contents) → HasMap old there → HasMap new (after op there)
change_map (Find k) old new h there map = absurd h
change_map (Insert k value) old new h there map = added old new k value h there map
change_map (Delete k) old new h there map = taken old new k h.0 h.1 there map
change_map (Swap k was value) old new h there map = replaced old new k was value h there map

pub change_says : (op : Op) (old new : Words) → MakesChange op old new → (there : Contents) → HasMap old there → reply_of_change op ≡ reply_of op there
change_says (Find k) old new h there map = absurd h
change_says (Insert k value) old new h there map = ap (λ p. yes_if (not (is_some p))) (sym (lacks old there map k h.absent))
change_says (Delete k) old new h there map = ap (λ p. yes_if (is_some p)) (sym ((map k h.0).0 h.1.present))
change_says (Swap k was value) old new h there map = ap found (sym ((map k was).0 h.present))

-- each call answers as a map at one point
pub calls_answer_as_a_map : CallsAnswerAsAMap
calls_answer_as_a_map plan s r seat op begun turns s' said called = elim (calls_have_their_point plan s r seat op begun turns s' said called) [
  | inl was ↦ record {
    first = was.so.amid.first;
    state = was.so.state;
    before = was.so.amid.before;
    after = was.so.amid.after;
    says = λ there map. leaf_reply op was.there said there (map_has (own_words was.so.state) there map (key_of op) was.there was.so.so) was.says;
    goes = inl (λ there map. leaf_leaves op was.there said there (map_has (own_words was.so.state) there map (key_of op) was.there was.so.so) was.says);
  }
  | inr by ↦ (let t = by.1.2 in record {
    first = t.first;
    state = t.state;
    before = t.before;
    after = subst (λ ts. TableRun plan t.state ts s') (sym t.at) (t.next, t.now, t.after);
    says = λ there map. by.0 ∙ change_says op (own_words t.state) (own_words t.next) t.changes there map;
    goes = inr (record {
      card = by.1.0;
      hand = by.1.1;
      finds = t.finds;
      turn = t.turn;
      rest = drop (suc t.first) turns;
      next = t.next;
      is = t.at;
      now = t.now;
      own = t.own;
      map = change_map op (own_words t.state) (own_words t.next) t.changes;
    });
  })
]

same_map : (old new : Words) → SamePairs old new → (there : Contents) → HasMap old there → HasMap new there
same_map old new same there map k v = (λ h. (map k v).0 ((same k v).0 h), λ e. (same k v).1 ((map k v).1 e))

-- a call leads from a map to a map
call_map : (c : Call) (b : Bool) (old new : Words) → PairsChangeBy c b old new → (there : Contents) → HasMap old there → (after : Contents) × HasMap new after
call_map (call.IChild c p l replaces right) true old new makes there map =
    (after (op_of_card old c) there, change_map (op_of_card old c) old new makes there map)
call_map (call.IChild c p l replaces right) false old new same there map = (there, same_map old new same there map)
call_map (call.DChild c gp p s right) true old new takes there map = (without there (card_key old c), taken old new (card_key old c) (card_value old c) takes there map)
call_map (call.DChild c gp p s right) false old new same there map = (there, same_map old new same there map)
call_map _ b old new same there map = (there, same_map old new same there map)

turn_map : (plan : TablePlan) (s : TableState) → HasMachine plan s → (t : Turn) (s' : TableState) → TableTurns plan s t s' → IsAMap s → IsAMap s'
turn_map plan s r (Makes seat c) s' h m =
    let more = call_map c (is_won (atomic_of c) (found_by s c)) (own_words s) (own_words s') (turn_lawful plan s r (Makes seat c) s' h).1.tree m.there m.map in
    record { there = more.0; map = more.1 }
turn_map plan s r (Splits seat left) s' h m =
    record { there = m.there; map = same_map (own_words s) (own_words s') (turn_lawful plan s r (Splits seat left) s' h).1.tree m.there m.map }
turn_map plan s r (Joins seat other) s' h m =
    record { there = m.there; map = same_map (own_words s) (own_words s') (turn_lawful plan s r (Joins seat other) s' h).1.tree m.there m.map }

run_map : (plan : TablePlan) (s : TableState) → HasMachine plan s → (turns : List Turn) (s' : TableState) → TableRun plan s turns s' → IsAMap s → IsAMap s'
run_map plan s r [] s' run m = subst IsAMap (sym run) m
run_map plan s r (t ∷ ts) s' run m =
    run_map plan run.0 (turn_lawful plan s r t run.0 run.1).0 ts s' run.2 (turn_map plan s r t run.0 run.1 m)

-- the tree is a map wherever turns lead from a start
pub trees_are_maps : TreesAreMaps
trees_are_maps plan s starts turns s' run =
    run_map plan s (starts_are_kept plan s starts).kept turns s' run
    (record { there = contents_of plan.start; map = starts_have_their_keys plan s starts })

-- a call leads from a map to that after its effect
effect_map : (c : Call) (b : Bool) (old new : Words) → PairsChangeBy c b old new → (there : Contents) → HasMap old there → HasMap new (final there (effect_of c b old))
effect_map (call.IChild c p l replaces right) true old new makes there map = change_map (op_of_card old c) old new makes there map
effect_map (call.IChild c p l replaces right) false old new same there map = same_map old new same there map
effect_map (call.DChild c gp p s right) true old new takes there map = taken old new (card_key old c) (card_value old c) takes there map
effect_map (call.DChild c gp p s right) false old new same there map = same_map old new same there map
effect_map _ b old new same there map = same_map old new same there map

pub turn_effects : (plan : TablePlan) (s : TableState) → HasMachine plan s → (t : Turn) (s' : TableState) → TableTurns plan s t s' → (there : Contents)
    → HasMap (own_words s) there → HasMap (own_words s') (final there (turn_effect s t))
turn_effects plan s r (Makes seat c) s' h there map =
    effect_map c (is_won (atomic_of c) (found_by s c)) (own_words s) (own_words s') (turn_lawful plan s r (Makes seat c) s' h).1.tree there map
turn_effects plan s r (Splits seat left) s' h there map =
    same_map (own_words s) (own_words s') (turn_lawful plan s r (Splits seat left) s' h).1.tree there map
turn_effects plan s r (Joins seat other) s' h there map =
    same_map (own_words s) (own_words s') (turn_lawful plan s r (Joins seat other) s' h).1.tree there map

final_append : (there : Contents) (a b : List Op) → final there (a ++ b) ≡ final (final there a) b
final_append there [] b = refl
final_append there (op ∷ ops) b = final_append (after op there) ops b

run_maps : (plan : TablePlan) (s : TableState) → HasMachine plan s → (turns : List Turn) (s' : TableState) (run : TableRun plan s turns s') → (there : Contents)
    → HasMap (own_words s) there → HasMap (own_words s') (final there (run_effects plan s turns s' run))
run_maps plan s r [] s' run there map = subst (λ (x : TableState). HasMap (own_words x) there) (sym run) map
run_maps plan s r (t ∷ ts) s' run there map =
    subst (HasMap (own_words s')) (sym (final_append there (turn_effect s t) (run_effects plan run.0 ts s' run.2)))
    (run_maps plan run.0 (turn_lawful plan s r t run.0 run.1).0 ts s' run.2 (final there (turn_effect s t)) (turn_effects plan s r t run.0 run.1 there map))

-- the tree is what one thread leaves
pub trees_are_of_one_thread : TreesAreOfOneThread
trees_are_of_one_thread plan s starts turns s' run =
    run_maps plan s (starts_are_kept plan s starts).kept turns s' run (contents_of plan.start) (starts_have_their_keys plan s starts)

-- two runs in a row
pub runs_on : (plan : TablePlan) (s : TableState) (a : List Turn) (between : TableState) (b : List Turn) (s' : TableState) → TableRun plan s a between → TableRun plan between b s'
    → TableRun plan s (a ++ b) s'
runs_on plan s [] between b s' first next = subst (λ (x : TableState). TableRun plan x b s') first next
runs_on plan s (t ∷ ts) between b s' first next = (first.0, first.1, runs_on plan first.0 ts between b s' first.2 next)

-- the machine goes on
pub run_kept : (plan : TablePlan) (s : TableState) → HasMachine plan s → (turns : List Turn) (s' : TableState) → TableRun plan s turns s' → HasMachine plan s'
run_kept plan s r [] s' run = subst (HasMachine plan) (sym run) r
run_kept plan s r (t ∷ ts) s' run = run_kept plan run.0 (turn_lawful plan s r t run.0 run.1).0 ts s' run.2

-- each call replies as one thread
pub calls_reply_as_one_thread : CallsReplyAsOneThread
calls_reply_as_one_thread plan opened starts earlier s run seat op begun turns s' said called =
    let last = plan.last_card in
    let kept = run_kept plan opened (starts_are_kept plan opened starts).kept earlier s run in
    let at = calls_answer_as_a_map plan s kept seat op begun turns s' said called in
    let all = earlier ++ Makes seat (call.Begin op) ∷ take at.first turns in
    let led = runs_on plan opened earlier s (Makes seat (call.Begin op) ∷ take at.first turns) at.state run (begun, called.begins, at.before) in
    record {
      first = at.first;
      state = at.state;
      before = at.before;
      after = at.after;
      all = all;
      led = led;
      says = at.says (final (contents_of plan.start) (run_effects plan opened all at.state led)) (trees_are_of_one_thread plan opened starts all at.state led);
      goes = at.goes;
    }
