use Rattle.std.proofs.Common.{ap, None, ◌≡◌, ◌≢◌, ℕ, ◌≤◌, zero, suc, true, Some, List, [], ◌∷◌, ◌++◌, ◌+◌, inl, inr, refl, sym, subst, arith, ◌∙◌, ◌⊎◌, false}
use Rattle.std.specs.List.{All}
use Rattle.std.specs.List.Sorted.{IsStrictlyIncreasing}
use Rattle.std.specs.Map.{keys_of}
use mathlib.Core.Option.{Option, some, none}
use lib.ListN.{get_elem?}
use Rattle.ell_ops.specs.KeySet.{set_of}
use Rattle.ell_ops.specs.Meaning.{greatest_key}
use Rattle.ell_ops.specs.declared.op.Op.TheVariants.{Find, Insert, Delete}
use Rattle.ell_word.specs.Link.{linked}
use Rattle.ell_word.specs.Node.{infinity1, infinity2}
use Rattle.ell_layout.specs.declared.field.Field.{Field}
use Rattle.ell_layout.specs.declared.field.Field.TheVariants as field
use Rattle.ell_layout.specs.Cards.{stored, put_filling, delete_filling}
use Rattle.ell_layout.specs.Words.{IsLeaf}
use Rattle.ell_core.proofs.lemmas.outcomes.Decide.{some_not_none}
use Rattle.ell_core.specs.declared.fact.Fact.TheVariants as fact
use Rattle.ell_core.specs.state.Machine.{Worker}
use Rattle.ell_core.specs.history.Stages.{Stage, delete_over}
use Rattle.ell_core.specs.statements.Since.{has_ended}
use Rattle.ell_core.proofs.lemmas.stages.Ended.{over-cut}
use Rattle.ell_runs.proofs.lemmas.seats.Seats.{mine_is}
use Rattle.ell_runs.proofs.lemmas.stepping.Known.{known_settled}
use Rattle.std.proofs.lemmas.Bool.{false≢true}
use Rattle.ell_core.proofs.lemmas.tree.Blocks.{none_plain}
use Rattle.ell_runs.specs.declared.call.Call.TheVariants as call
use Rattle.ell_runs.specs.declared.view.Told.{Told}
use Rattle.ell_runs.specs.declared.view.View.{View}
use Rattle.ell_runs.specs.Views.{Has, latest, earlier, IsFree, Knows, stored_at, MayPart}
use Rattle.ell_runs.specs.Changes.{first_of, spent_view, tagged}
use Rattle.ell_runs.specs.Calls.{May}
use Rattle.ell_runs.specs.States.{TableState}
use Rattle.ell_runs.specs.Starts.{Starts, StartWords, MayStart, IsSharedIn}
use Rattle.ell_runs.specs.Turns.{Turn, Makes, Splits, Joins, TableTurns, TableRun, state_after, state_split, state_joined}
use Rattle.ell_runs.specs.SmallRun.{before_the_look, LookBeginsWhenGone, DeadIsKnown, small_plan, small_run, SmallRunIsMade, parting, delete_flags, insert_claims, insert_flags, mark_is_lost, insert_ends, delete_begins_anew, delete_ends, look, ending}
use Rattle.ell_runs.proofs.lemmas.lifetimes.StartLists.{start_list_starts, small_list, small_words}
use Rattle.ell_runs.specs.Plans.{TablePlan}

-- what the pass in a seat knows
abbrev view_or : Option View → View
view_or none = spent_view
view_or (some v) = v

abbrev view_at : TableState → ℕ → View
view_at s seat = view_or (get_elem? s.views seat)

-- there is a pass in a seat
abbrev Sits : TableState → ℕ → Type 0
Sits s seat = get_elem? s.views seat ≡ some (view_at s seat)

-- what a turn asks, and the state to which it leads
abbrev TurnAsks : TablePlan → TableState → Turn → Type 0
TurnAsks plan s (Makes seat c) = Sits s seat × May plan c (view_at s seat)
TurnAsks plan s (Splits seat left) = Sits s seat × IsFree (view_at s seat) × MayPart (view_at s seat)
TurnAsks plan s (Joins seat other) = Sits s seat × Sits s other × (seat ≢ other) × IsFree (view_at s seat) × IsFree (view_at s other)

abbrev turn_leads : TableState → Turn → TableState
turn_leads s (Makes seat c) = state_after s seat (view_at s seat) c
turn_leads s (Splits seat left) = state_split s seat (view_at s seat) left
turn_leads s (Joins seat other) = state_joined s seat other (view_at s seat) (view_at s other)

turn_made : (plan : TablePlan) (s : TableState) (t : Turn) → TurnAsks plan s t → TableTurns plan s t (turn_leads s t)
turn_made plan s (Makes seat c) h = record { view = view_at s seat; there = h.0; may = h.1; gives = refl }
turn_made plan s (Splits seat left) h = record { view = view_at s seat; there = h.0; free = h.1; may = h.2; gives = refl }
turn_made plan s (Joins seat other) h =
    record { view = view_at s seat; view' = view_at s other; there = h.0; there' = h.1; apart = h.2; free = h.3; free' = h.4; gives = refl }

-- so do turns, one after the other
abbrev RunAsks : TablePlan → TableState → List Turn → Type 0
RunAsks plan s [] = Unit {0}
RunAsks plan s (t ∷ ts) = TurnAsks plan s t × RunAsks plan (turn_leads s t) ts

abbrev run_leads : TableState → List Turn → TableState
run_leads s [] = s
run_leads s (t ∷ ts) = run_leads (turn_leads s t) ts

abbrev run_made : (plan : TablePlan) (s : TableState) (ts : List Turn) → RunAsks plan s ts → TableRun plan s ts (run_leads s ts)
run_made plan s [] h = refl
run_made plan s (t ∷ ts) h = (turn_leads s t, turn_made plan s t h.0, run_made plan (turn_leads s t) ts h.1)

-- what one turn asks, and what the turns after it do
infixr 5 ◌▸◌
◌▸◌ : {A B : Type 0} → A → B → A × B
h ▸ more = (h, more)

-- and then more turns
asks_more : (plan : TablePlan) (s : TableState) (ts us : List Turn) → RunAsks plan s ts → RunAsks plan (run_leads s ts) us → RunAsks plan s (ts ++ us)
asks_more plan s [] us h more = more
asks_more plan s (t ∷ ts) us h more = (h.0, asks_more plan (turn_leads s t) ts us h.1 more)

-- a list tells what stands at a place of it
abbrev IsToldAt : ℕ → List Told → Told → Type 0
IsToldAt n [] e = ⊥
IsToldAt zero (d ∷ es) e = d ≡ e
IsToldAt (suc n) (d ∷ es) e = IsToldAt n es e

told_at : (n : ℕ) (es : List Told) (e : Told) → IsToldAt n es e → Has es e
told_at n [] e h = absurd h
told_at zero (d ∷ es) e h = subst (Has (d ∷ es)) h (latest d es)
told_at (suc n) (d ∷ es) e h = earlier e d es (told_at n es e h)

-- what is so of a card is so of the one in hand, if that is it
of_card : (P : ℕ → Type 0) (n c : ℕ) → Some n ≡ Some c → P n → P c
of_card P n c is h = let same : ◌≡◌ {A = ℕ} n c = cc in subst P same h

-- leaves
leaf_5 : IsLeaf 5
leaf_5 e = let h : ◌≡◌ {A = ℕ} 1 0 = e in omega arith

leaf_13 : IsLeaf 13
leaf_13 e = let h : ◌≡◌ {A = ℕ} 1 0 = e in omega arith

leaf_14 : IsLeaf 14
leaf_14 e = let h : ◌≡◌ {A = ℕ} 2 0 = e in omega arith

-- what is stored of a delete's card, and of the insert's, is what it is to say
filled_delete : (gp p l was tag : ℕ) (f : Field)
    → stored_at ((field.Was, was) ∷ (field.L, linked (record { node = l; tag = tag })) ∷ (field.P, p) ∷ (field.Gp, gp) ∷ []) f ≡ stored (tagged tag (delete_filling gp p l was)) f 0
filled_delete gp p l was tag field.Gp = refl
filled_delete gp p l was tag field.P = refl
filled_delete gp p l was tag field.L = refl
filled_delete gp p l was tag field.Was = refl
filled_delete gp p l was tag field.Key = refl
filled_delete gp p l was tag field.Left = refl
filled_delete gp p l was tag field.Right = refl
filled_delete gp p l was tag field.Update = refl
filled_delete gp p l was tag field.LeftLeafKey = refl
filled_delete gp p l was tag field.RightLeafKey = refl
filled_delete gp p l was tag field.LeftValue = refl
filled_delete gp p l was tag field.RightValue = refl

filled_insert : (f : Field)
    → stored_at ((field.RightValue, 70) ∷ (field.LeftValue, 50) ∷ (field.RightLeafKey, 7) ∷ (field.LeftLeafKey, 5) ∷ (field.Update, 3) ∷ (field.Right, 14)
    ∷ (field.Left, 13) ∷ (field.Key, 7) ∷ (field.L, 5) ∷ (field.P, 4) ∷ []) f ≡ stored (tagged 0 (put_filling false 3 7 70 7 4 5 5 50)) f 0
filled_insert field.Gp = refl
filled_insert field.P = refl
filled_insert field.L = refl
filled_insert field.Was = refl
filled_insert field.Key = refl
filled_insert field.Left = refl
filled_insert field.Right = refl
filled_insert field.Update = refl
filled_insert field.LeftLeafKey = refl
filled_insert field.RightLeafKey = refl
filled_insert field.LeftValue = refl
filled_insert field.RightValue = refl

-- the table as it starts
abbrev at_0 : TableState
at_0 = record {
  words = small_words;
  views = first_of small_plan ∷ [];
}

keys_rise : IsStrictlyIncreasing small_plan.keys
keys_rise zero low = omega arith
keys_rise (suc k) low = absurd (omega (arith, low))

keys_are_real : All (λ k. k ≤ greatest_key) small_plan.keys
keys_are_real zero d low = omega arith
keys_are_real (suc zero) d low = omega arith
keys_are_real (suc (suc k)) d low = absurd (omega (arith, low))

start_rises : IsStrictlyIncreasing (keys_of small_plan.start)
start_rises k low = absurd (omega (arith, low))

start_is_given : All (λ k. (set_of small_plan.keys k ≡ true) ⊎ IsSharedIn small_plan k) (keys_of small_plan.start)
start_is_given zero d low = inl refl
start_is_given (suc k) d low = absurd (omega (arith, low))

may_there : MayStart small_plan
may_there = record { ascending = keys_rise; real = keys_are_real; start_ascending = start_rises; given = start_is_given; room = omega arith; few = omega arith; limit = omega arith; slots = omega arith }

starts_there : Starts small_plan at_0
starts_there = record {
  may = may_there;
  words = subst (StartWords small_plan) small_list (start_list_starts small_plan may_there);
  is = refl;
}

-- the first pass is split: seat 0 has key 5 then, and seat 1 key 7
parting_asks : RunAsks small_plan at_0 parting
parting_asks =
    (refl, refl, λ sharing. omega arith)
    ▸ tt

abbrev at_1 : TableState
at_1 = run_leads at_0 parting

-- seat 0 begins to delete key 5: it searches, takes card 2, fills it, and flags the root
delete_flags_asks : RunAsks small_plan at_1 delete_flags
delete_flags_asks =
    (refl, (refl, inl (some_not_none refl)))
    ▸ (refl, record { stands = refl; inner = refl; unread = refl })
    ▸ (refl, told_at 0 _ _ refl)
    ▸ (refl, record { op = Delete 5; word = 3; key = infinity2; busy = refl; stands = refl; inner = refl; read = refl; told = refl; side = refl; no_card = refl })
    ▸ (refl, record { stands = refl; inner = refl; unread = refl })
    ▸ (refl, told_at 0 _ _ refl)
    ▸ (refl, record { op = Delete 5; word = 3; key = infinity1; busy = refl; stands = refl; inner = refl; read = refl; told = refl; side = refl; no_card = refl })
    ▸ (refl, told_at 0 _ _ refl)
    ▸ (refl, tt)
    ▸ (refl, (record { op = Delete 5; below = 5; key = 5; parent = record { node = 4; word = 3; tag = 0 }; read = refl; other = λ e. some_not_none e refl; ready = inl refl; busy = refl; stands = refl; told = refl; behind = refl; calm = refl; wants = record { outer = leaf_5; same = refl; above = record { node = 0; word = 3; tag = 0 }; grandparent = refl; calm = refl }; shape = refl }, omega arith))
    ▸ (refl, record { holds = refl; unflagged = refl })
    ▸ (refl, record { holds = refl; unflagged = refl })
    ▸ (refl, record { holds = refl; unflagged = refl })
    ▸ (refl, record { holds = refl; unflagged = refl })
    ▸ (refl, record { key = 5; leaf = 5; parent = record { node = 4; word = 3; tag = 0 }; busy = refl; may = record { holds = refl; unflagged = refl }; stands = refl; grandparent = record { node = 0; word = 3; tag = 0 }; behind = refl; above = refl; node = refl; read = refl; filled = filled_delete 0 4 5 3 0 })
    ▸ tt

abbrev at_2 : TableState
at_2 = run_leads at_1 delete_flags

-- seat 1 begins to insert key 7: it goes past the flag, and takes card 3
insert_claims_asks : RunAsks small_plan at_2 insert_claims
insert_claims_asks =
    (refl, (refl, inl (some_not_none refl)))
    ▸ (refl, record { stands = refl; inner = refl; unread = refl })
    ▸ (refl, told_at 1 _ _ refl)
    ▸ (refl, record { op = Insert 7 70; word = 9; key = infinity2; busy = refl; stands = refl; inner = refl; read = refl; told = refl; side = refl; no_card = refl })
    ▸ (refl, record { stands = refl; inner = refl; unread = refl })
    ▸ (refl, told_at 0 _ _ refl)
    ▸ (refl, record { op = Insert 7 70; word = 3; key = infinity1; busy = refl; stands = refl; inner = refl; read = refl; told = refl; side = refl; no_card = refl })
    ▸ (refl, told_at 0 _ _ refl)
    ▸ (refl, (told_at 1 _ _ refl, leaf_5))
    ▸ (refl, tt)
    ▸ (refl, (record { op = Insert 7 70; below = 5; key = 5; parent = record { node = 4; word = 3; tag = 0 }; read = refl; other = λ e. some_not_none e refl; ready = inl refl; busy = refl; stands = refl; told = refl; behind = refl; calm = refl; wants = record { leaf = λ outer. ((λ e. let h : ◌≡◌ {A = ℕ} 5 7 = e in omega arith), (50, told_at 0 _ _ refl)); edge = λ inner. absurd (leaf_5 inner); fits = λ has. absurd (false≢true (sym (none_plain 4) ∙ has)); named = record { greater = λ plain. refl; branch = λ some two. absurd (omega arith) } }; shape = refl }, omega arith))
    ▸ tt

abbrev at_3 : TableState
at_3 = run_leads at_2 insert_claims

-- it fills card 3, and flags the node that seat 0 is about to mark
insert_flags_asks : RunAsks small_plan at_3 insert_flags
insert_flags_asks =
    (refl, record { holds = refl; unflagged = refl })
    ▸ (refl, record { holds = refl; unflagged = refl })
    ▸ (refl, record { holds = refl; unflagged = refl })
    ▸ (refl, record { holds = refl; unflagged = refl })
    ▸ (refl, record { holds = refl; unflagged = refl })
    ▸ (refl, record { holds = refl; unflagged = refl })
    ▸ (refl, record { holds = refl; unflagged = refl })
    ▸ (refl, record { holds = refl; unflagged = refl })
    ▸ (refl, record { holds = refl; unflagged = refl })
    ▸ (refl, record { holds = refl; unflagged = refl })
    ▸ (refl, record { op = Insert 7 70; what = record { key = 7; value = 70; was = None }; leaf = 5; busy = refl; puts = refl; may = record { holds = refl; unflagged = refl }; parent = record { node = 4; word = 3; tag = 0 }; stands = refl; behind = refl; node = refl; read = refl; filled = filled_insert })
    ▸ tt

abbrev at_4 : TableState
at_4 = run_leads at_3 insert_flags

-- seat 0 loses the mark, helps the insert to its end, and takes its own flag away
mark_is_lost_asks : RunAsks small_plan at_4 mark_is_lost
mark_is_lost_asks =
    (refl, (record { knows = refl; place = told_at 2 _ _ refl }, told_at 4 _ _ refl))
    ▸ (refl, record { knows = inl (refl, refl); place = (4, inl (told_at 0 _ _ refl)); fixed = refl })
    ▸ (refl, record { knows = inl (refl, refl); place = (4, inl (told_at 2 _ _ refl)); fixed = refl })
    ▸ (refl, record { knows = inl (refl, refl); place = (4, inl (told_at 3 _ _ refl)); fixed = refl })
    ▸ (refl, record { parent_key = infinity1; right_key = 7; left_key = 5; knows = refl; parent = told_at 4 _ _ refl; leaf = told_at 2 _ _ refl; expects = told_at 3 _ _ refl; told_parent = told_at 13 _ _ refl; told_right = told_at 1 _ _ refl; told_left = told_at 0 _ _ refl; brings = refl; side = refl })
    ▸ (refl, record { knows = refl; place = told_at 4 _ _ refl })
    ▸ (refl, record { knows = refl; place = told_at 6 _ _ refl })
    ▸ tt

abbrev at_5 : TableState
at_5 = run_leads at_4 mark_is_lost

-- seat 1 finds that its insert was made, and answers
insert_ends_asks : RunAsks small_plan at_5 insert_ends
insert_ends_asks =
    (refl, record { parent_key = infinity1; right_key = 7; left_key = 5; knows = refl; parent = told_at 1 _ _ refl; leaf = told_at 2 _ _ refl; expects = told_at 0 _ _ refl; told_parent = told_at 12 _ _ refl; told_right = told_at 5 _ _ refl; told_left = told_at 4 _ _ refl; brings = refl; side = refl })
    ▸ (refl, record { knows = refl; place = told_at 1 _ _ refl })
    ▸ (refl, record { op = Insert 7 70; busy = refl; answers = inr (record { card = 3; holds = refl; flagged = refl; over = refl; says = refl }); takes = tt })
    ▸ tt

abbrev at_6 : TableState
at_6 = run_leads at_5 insert_ends

-- seat 0 tries again: it searches, and takes card 4
delete_begins_anew_asks : RunAsks small_plan at_6 delete_begins_anew
delete_begins_anew_asks =
    (refl, record { op = Delete 5; busy = refl; backed = λ c is flagged. of_card (λ d. Knows (view_at at_6 0) (fact.Backed d)) 2 c is refl })
    ▸ (refl, record { stands = refl; inner = refl; unread = refl })
    ▸ (refl, told_at 0 _ _ refl)
    ▸ (refl, record { op = Delete 5; word = 11; key = infinity2; busy = refl; stands = refl; inner = refl; read = refl; told = refl; side = refl; no_card = refl })
    ▸ (refl, record { stands = refl; inner = refl; unread = refl })
    ▸ (refl, told_at 0 _ _ refl)
    ▸ (refl, record { op = Delete 5; word = 15; key = infinity1; busy = refl; stands = refl; inner = refl; read = refl; told = refl; side = refl; no_card = refl })
    ▸ (refl, record { stands = refl; inner = refl; unread = refl })
    ▸ (refl, told_at 0 _ _ refl)
    ▸ (refl, record { op = Delete 5; word = 3; key = 7; busy = refl; stands = refl; inner = refl; read = refl; told = refl; side = refl; no_card = refl })
    ▸ (refl, told_at 0 _ _ refl)
    ▸ (refl, tt)
    ▸ (refl, (record { op = Delete 5; below = 13; key = 5; parent = record { node = 12; word = 3; tag = 0 }; read = refl; other = λ e. some_not_none e refl; ready = inl refl; busy = refl; stands = refl; told = refl; behind = refl; calm = refl; wants = record { outer = leaf_13; same = refl; above = record { node = 4; word = 15; tag = 1 }; grandparent = refl; calm = refl }; shape = refl }, omega arith))
    ▸ tt

abbrev at_7 : TableState
at_7 = run_leads at_6 delete_begins_anew

-- it flags, marks, cuts the node out, and answers
delete_ends_asks : RunAsks small_plan at_7 delete_ends
delete_ends_asks =
    (refl, record { holds = refl; unflagged = refl })
    ▸ (refl, record { holds = refl; unflagged = refl })
    ▸ (refl, record { holds = refl; unflagged = refl })
    ▸ (refl, record { holds = refl; unflagged = refl })
    ▸ (refl, record { key = 5; leaf = 13; parent = record { node = 12; word = 3; tag = 0 }; busy = refl; may = record { holds = refl; unflagged = refl }; stands = refl; grandparent = record { node = 4; word = 15; tag = 1 }; behind = refl; above = refl; node = refl; read = refl; filled = filled_delete 4 12 13 3 1 })
    ▸ (refl, (record { knows = refl; place = told_at 2 _ _ refl }, told_at 4 _ _ refl))
    ▸ (refl, record { knows = refl; place = told_at 2 _ _ refl })
    ▸ (refl, told_at 1 _ _ refl)
    ▸ (refl, record { leaf = 13; grandparent_key = infinity1; sibling_key = 7; knows = refl; grandparent = told_at 5 _ _ refl; parent = told_at 6 _ _ refl; expects = told_at 4 _ _ refl; below = told_at 7 _ _ refl; sibling = inl (told_at 1 _ _ refl, λ e. let h : ◌≡◌ {A = ℕ} 14 13 = e in omega arith); told_grandparent = told_at 15 _ _ refl; told_sibling = told_at 0 _ _ refl; side = refl })
    ▸ (refl, record { knows = refl; place = told_at 5 _ _ refl })
    ▸ (refl, record { op = Delete 5; busy = refl; answers = inr (record { card = 4; holds = refl; flagged = refl; over = refl; says = refl }); takes = tt })
    ▸ tt

abbrev at_8 : TableState
at_8 = run_leads at_7 delete_ends

-- seat 1 looks for key 7, finds its value, and ends the look
look_asks : RunAsks small_plan at_8 look
look_asks =
    (refl, refl)
    ▸ (refl, told_at 0 _ _ refl)
    ▸ (refl, record { come = record { glance = record { node = 4; low = 0; high = greatest_key + 1; whole = true }; among = latest _ _; there = refl; from = omega arith; upto = omega arith }; as_one = λ is. absurd (false≢true is); met = told_at 1 _ _ refl; inner = refl; key = infinity1; told = told_at 0 _ _ refl; goes = record { low = omega arith; high = omega arith; whole = λ is. absurd (false≢true is) } })
    ▸ (refl, told_at 0 _ _ refl)
    ▸ (refl, (told_at 1 _ _ refl, leaf_14))
    ▸ (refl, refl)
    ▸ tt

abbrev at_9 : TableState
at_9 = run_leads at_8 look

-- it gives a find up, and both passes become one
ending_asks : RunAsks small_plan at_9 ending
ending_asks =
    (refl, (refl, inl (some_not_none refl)))
    ▸ (refl, record { op = Find 7; busy = refl; backed = λ c is flagged. absurd (some_not_none is refl) })
    ▸ (refl, refl, (λ e. let h : ◌≡◌ {A = ℕ} 0 1 = e in omega arith), refl, refl)
    ▸ tt

abbrev at_10 : TableState
at_10 = run_leads at_9 ending

before_asks : RunAsks small_plan at_0 before_the_look
before_asks = asks_more small_plan at_0 parting (delete_flags ++ insert_claims ++ insert_flags ++ mark_is_lost ++ insert_ends ++ delete_begins_anew ++ delete_ends) parting_asks
    (asks_more small_plan at_1 delete_flags (insert_claims ++ insert_flags ++ mark_is_lost ++ insert_ends ++ delete_begins_anew ++ delete_ends) delete_flags_asks
    (asks_more small_plan at_2 insert_claims (insert_flags ++ mark_is_lost ++ insert_ends ++ delete_begins_anew ++ delete_ends) insert_claims_asks
    (asks_more small_plan at_3 insert_flags (mark_is_lost ++ insert_ends ++ delete_begins_anew ++ delete_ends) insert_flags_asks
    (asks_more small_plan at_4 mark_is_lost (insert_ends ++ delete_begins_anew ++ delete_ends) mark_is_lost_asks
    (asks_more small_plan at_5 insert_ends (delete_begins_anew ++ delete_ends) insert_ends_asks
    (asks_more small_plan at_6 delete_begins_anew delete_ends delete_begins_anew_asks delete_ends_asks))))))

all_asks : RunAsks small_plan at_0 small_run
all_asks = asks_more small_plan at_0 before_the_look (look ++ ending) before_asks (asks_more small_plan at_8 look ending look_asks ending_asks)

pub small_run_is_made : SmallRunIsMade
small_run_is_made = record {
  first = at_0;
  starts = starts_there;
  last = at_10;
  run = run_made small_plan at_0 small_run all_asks;
  delete_lost = refl;
  insert_made = refl;
  delete_made = refl;
  view = view_at at_10 0;
  there = refl;
  ledger = refl;
}

-- a delete that is over has ended, and has cut
over-ended : (s : Stage) → delete_over s ≡ true → has_ended s ≡ true
over-ended s h = grind arith

-- when seat 1 looks, the delete of seat 0 is over, and has taken its card's parent out
pub look_begins_when_gone : LookBeginsWhenGone
look_begins_when_gone = record {
  state = at_8;
  reached = record { first = at_0; starts = starts_there; turns = before_the_look; run = run_made small_plan at_0 before_the_look before_asks };
  begun = state_after at_8 1 (view_at at_8 1) call.Look;
  begins = record { view = view_at at_8 1; there = refl; may = refl; gives = refl };
  gone = λ r has.
      let over : delete_over (has.stages 4) ≡ true =
      (has.invariant.workers.each 0).facts (fact.DOver 4) (ap (λ (u : Worker). u.knows (fact.DOver 4)) (mine_is small_plan at_8 r 0 (view_at at_8 0) refl)) in
      let parent : r.words.p 4 ≡ 12 = sym (r.settled 4 field.P (known_settled small_plan at_8 r 0 (view_at at_8 0) refl 4 (inr (inr refl)))) in
      record { taker = 4; ended = over-ended (has.stages 4) over; takes = inr (over-cut (has.stages 4) over, inl parent) };
}

-- and knows it to be over, and so that none of its card's nodes comes into the tree
pub dead_is_known : DeadIsKnown
dead_is_known = record {
  state = at_8;
  reached = record { first = at_0; starts = starts_there; turns = before_the_look; run = run_made small_plan at_0 before_the_look before_asks };
  view = view_at at_8 0;
  there = refl;
  knows = λ x on. (on, inl (inl refl));
}
