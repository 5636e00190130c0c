use Rattle.std.proofs.Common.{◌≡◌, ◌≢◌, ℕ, suc, ◌<◌, ◌≤◌, ◌==◌, if◌then◌else◌, Bool, true, false, Option, Some, None, List, [], ◌∷◌, ◌++◌, inl, inr, ◌⊎◌, refl, sym, ap, ◌∙◌, subst, arith, take, drop, eqb-true}
use Rattle.std.proofs.lemmas.Bool.{false≢true}
use Rattle.std.proofs.lemmas.Option.{same_Some}
use mathlib.Core.Option.{some, some-injective}
use lib.ListN.{get_elem?}
use Rattle.ell_ops.specs.declared.op.Op.{Op}
use Rattle.ell_ops.specs.declared.op.Op.TheVariants.{Find, Insert, Delete, Swap}
use Rattle.ell_ops.specs.declared.reply.Reply.{Reply}
use Rattle.ell_ops.specs.Meaning.{key_of}
use Rattle.ell_core.specs.declared.exchange.Exchange.{Exchange}
use Rattle.ell_core.specs.declared.exchange.Exchange.TheVariants as exchange
use Rattle.ell_core.specs.declared.fact.Fact.TheVariants as fact
use Rattle.ell_layout.specs.Words.{Words}
use Rattle.ell_core.specs.state.Machine.{Worker}
use Rattle.ell_core.specs.declared.put.Put.{Put}
use Rattle.ell_layout.specs.Cards.{card_key, card_value, is_replace_card}
use Rattle.ell_core.specs.acts.Searching.{put_of}
use Rattle.ell_core.proofs.lemmas.keeping.Puts.{added, replacing, flag_putting, one_putter}
use Rattle.ell_core.specs.acts.Wins.{win_for}
use Rattle.ell_core.specs.history.Stages.{Stage, Stages, insert_over, delete_over, delete_won}
use Rattle.ell_core.specs.history.Stages.{IOver, ROver, DOver}
use Rattle.ell_core.specs.history.Invariant.{Flagged, Invariant}
use Rattle.ell_core.specs.history.Later.{wins_of}
use Rattle.ell_core.specs.tree.Tree.{IsTreePair}
use Rattle.ell_core.specs.statements.Effects.{reply_of_change, MakesChange, op_brought, op_of_card, TakesPair}
use Rattle.ell_core.proofs.lemmas.outcomes.Decide.{some_not_none}
use Rattle.ell_core.proofs.lemmas.following.facts.Claimed.{not_claimed}
use Rattle.ell_core.proofs.lemmas.stages.Waiting.{unclaimed-wins}
use Rattle.ell_core.proofs.lemmas.stages.Order.{insert_won-insert, delete_won-delete, delete-claimed}
use Rattle.ell_core.proofs.lemmas.stages.LaterKeys.{insert_key_later, insert_value_later, putting_later, delete_key_later}
use Rattle.ell_runs.specs.Plans.{TablePlan}
use Rattle.ell_runs.specs.declared.call.Call.{Call}
use Rattle.ell_runs.specs.declared.call.Call.TheVariants as call
use Rattle.ell_runs.specs.declared.call.Call.TheVariants.{Begin}
use Rattle.ell_runs.specs.declared.call.NewNode.{NewNode}
use Rattle.ell_core.specs.declared.fact.Fact.{Fact}
use Rattle.ell_word.specs.declared.update.Update.{Update}
use Rattle.ell_word.specs.Word.{packed, unpacked}
use Rattle.ell_core.specs.state.Facts.{card_of_fact}
use Rattle.ell_core.specs.state.Machine.{worker_of}
use Rattle.ell_core.specs.history.Stages.{allows}
use Rattle.ell_runs.specs.declared.view.View.{View}
use Rattle.ell_runs.specs.Changes.{after_claim, after_flag, after_mark, is_mark_of, with_fact, unmarking}
use Rattle.ell_runs.specs.Views.{Does, Knows}
use Rattle.ell_runs.specs.Guards.{CardIsOver, KnowsAnswerAtLeaf}
use Rattle.ell_runs.specs.Calls.{atomic_of, is_won, after}
use Rattle.ell_runs.specs.States.{TableState}
use Rattle.ell_runs.specs.Machines.{HasMachine}
use Rattle.ell_runs.specs.Laws.{machine_of_table}
use Rattle.ell_runs.specs.TurnEffects.{own_words, IsAtWork, PairsChangeBy, ChangeIsOf, win_of, turn_wins, run_wins}
use Rattle.ell_runs.specs.Turns.{Turn, Makes, Splits, Joins, CallIsMade, TableTurns, TableRun, found_by, view_after}
use Rattle.ell_runs.specs.Meanwhile.{KeepsOn, KeepOn}
use Rattle.ell_runs.specs.Changing.{IsCalled, change_of, FindsItsValue, SaysWhatWas, TakesEffect, HoldsAtEnd, CallsHaveTheirPoint, CallsHaveTheirOwnCards}
use Rattle.ell_runs.proofs.lemmas.seats.Seats.{mine_is, mine_sound, set_there}
use Rattle.ell_runs.proofs.lemmas.own_words.ChangesOf.{table_changes_are_operations}
use Rattle.ell_runs.proofs.lemmas.runs.OwnSeat.{turn_seat}
use Rattle.ell_runs.proofs.lemmas.runs.TurnsOfRuns.{turn_lawful}
use Rattle.ell_runs.proofs.lemmas.runs.GoingOn.{run_goes}
use Rattle.ell_runs.proofs.lemmas.runs.Searched.{first_keeps, still_does, leaf_answers_of_one_state}
use Rattle.ell_core.proofs.lemmas.following.waiting.Cards.{hand_claimed}

-- what the operation of an insert's card puts
brought_puts : (b : Bool) (key was value : ℕ) → (what : Put) × (put_of (op_brought b key was value) ≡ Some what)
brought_puts true key was value = (replacing key was value, refl)
brought_puts false key was value = (added key value, refl)

card_puts : (w : Words) (c : ℕ) → (what : Put) × (put_of (op_of_card w c) ≡ Some what)
card_puts w c = brought_puts (is_replace_card w c) (card_key w c) (w.value (w.l c)) (card_value w c)

-- an operation that puts something changes the tree by an ichild, and is no delete
put_change : (op : Op) (what : Put) → put_of op ≡ Some what → change_of op ≡ exchange.IChild ∷ []
put_change (Find k) what e = absurd cc
put_change (Insert k value) what e = refl
put_change (Delete k) what e = absurd cc
put_change (Swap k was value) what e = refl

put_finds : (op : Op) (what : Put) (c : ℕ) (w : Words) → put_of op ≡ Some what → FindsItsValue op c w
put_finds (Find k) what c w e = tt
put_finds (Insert k value) what c w e = tt
put_finds (Delete k) what c w e = absurd cc
put_finds (Swap k was value) what c w e = tt

-- a list has a win
data InList : Exchange → List Exchange → Type 0 where
  first : (k : Exchange) (ks : List Exchange) → InList k (k ∷ ks)
  later : (k j : Exchange) (ks : List Exchange) → InList k ks → InList k (j ∷ ks)

-- it is in one of two lists in a row
in_either : (k : Exchange) (a b : List Exchange) → InList k (a ++ b) → InList k a ⊎ InList k b
in_either k [] b h = inr h
in_either k (x ∷ a) b (first _ _) = inl (first k a)
in_either k (x ∷ a) b (later _ _ _ h) = elim (in_either k a b h) [ inl g ↦ inl (later k x a g) | inr g ↦ inr g ]

not_in_none : (k : Exchange) (ks : List Exchange) → ks ≡ [] → InList k ks → ⊥
not_in_none k ks e (first _ _) = absurd cc
not_in_none k ks e (later _ _ _ h) = absurd cc

-- a card over was changed
over_insert : (s : Stage) → insert_over s ≡ true → wins_of s ≡ exchange.IFlag ∷ exchange.IChild ∷ exchange.IUnflag ∷ []
over_insert IOver h = refl
over_insert ROver h = refl
over_insert _ h = absurd (false≢true h)

over_delete : (s : Stage) → delete_over s ≡ true → wins_of s ≡ exchange.DFlag ∷ exchange.Mark ∷ exchange.DChild ∷ exchange.DUnflag ∷ []
over_delete DOver h = refl
over_delete _ h = absurd (false≢true h)

module _ (plan : TablePlan) where
  -- a turn of a run that wins this for a card
  record Found (k : Exchange) (c : ℕ) (s : TableState) (turns : List Turn) (s' : TableState) : Type 0 where
    n : ℕ
    state : TableState
    kept : HasMachine plan state
    turn : Turn
    next : TableState
    before : TableRun plan s (take n turns) state
    now : TableTurns plan state turn next
    after : TableRun plan next (drop (suc n) turns) s'
    at : drop n turns ≡ turn ∷ drop (suc n) turns
    wins : InList k (turn_wins state turn c)

  find : (k : Exchange) (c : ℕ) (s : TableState) → HasMachine plan s → (turns : List Turn) (s' : TableState) (run : TableRun plan s turns s')
      → InList k (run_wins plan s turns s' run c) → Found k c s turns s'
  find k c s r [] s' run h = absurd (not_in_none k [] refl h)
  find k c s r (t ∷ ts) s' run h = elim (in_either k (turn_wins s t c) (run_wins plan run.0 ts s' run.2 c) h) [
    | inl here ↦ record { n = 0; state = s; kept = r; turn = t; next = run.0; before = refl; now = run.1; after = run.2; at = refl; wins = here }
    | inr there ↦ (let f = find k c run.0 (turn_lawful plan s r t run.0 run.1).0 ts s' run.2 there in record {
      n = suc f.n;
      state = f.state;
      kept = f.kept;
      turn = f.turn;
      next = f.next;
      before = (run.0, run.1, f.before);
      now = f.now;
      after = f.after;
      at = f.at;
      wins = f.wins;
    })
  ]

  -- a card in hand is this old one, or no earlier one than this
  abbrev LateHand : Option ℕ → ℕ → View → Type 0
  LateHand old low v = (c : ℕ) → v.worker.card ≡ Some c → (old ≡ Some c) ⊎ (low ≤ c)

  hand_flag : (old : Option ℕ) (low : ℕ) (b : Bool) (new : Fact) (y : ℕ) (u : Update) (v w : View) → w.worker ≡ (after_flag b new y u v).worker → LateHand old low v → LateHand old low w
  hand_flag old low true new y u v w same h c e = h c (sym (ap (λ k. k.card) same) ∙ e)
  hand_flag old low false new y u v w same h c e = absurd (some_not_none e (ap (λ k. k.card) same))

  hand_mark : (old : Option ℕ) (low : ℕ) (b : Bool) (d y : ℕ) (u : Update) (v w : View) → w.worker ≡ (after_mark b d y u v).worker → LateHand old low v → LateHand old low w
  hand_mark old low true d y u v w same h c e = h c (sym (ap (λ k. k.card) same) ∙ e)
  hand_mark old low false d y u v w same h c e = by (is_mark_of d u.state u.card) same
    where
      by : (b : Bool) → w.worker ≡ (if b then with_fact (fact.Marked d) v else unmarking d y u v).worker → (old ≡ Some c) ⊎ (low ≤ c)
      by true same = h c (sym (ap (λ k. k.card) same) ∙ e)
      by false same = h c (sym (ap (λ k. k.card) same) ∙ e)

  hand_claim : (old : Option ℕ) (low : ℕ) (b : Bool) (d : ℕ) (q : NewNode) (v : View) → (b ≡ true → low ≤ d) → LateHand old low v → LateHand old low (after_claim b d q v)
  hand_claim old low true d q v fresh h c e = inr (let most = fresh refl in let same = same_Some d c e in omega arith)
  hand_claim old low false d q v fresh h c e = h c e

  hand_by : (old : Option ℕ) (low : ℕ) (c : Call) (n : ℕ) (v : View) → KeepsOn c → low ≤ n ⊎ ((d : ℕ) (q : NewNode) → c ≢ call.Claim d q) → LateHand old low v → LateHand old low (after c n v)
  hand_by old low (call.Begin op) n v keeps fresh h = absurd keeps
  hand_by old low call.Again n v keeps fresh h = λ c e. absurd (some_not_none e refl)
  hand_by old low call.Leave n v keeps fresh h = λ c e. absurd (some_not_none e refl)
  hand_by old low (call.Answer said took) n v keeps fresh h = λ c e. absurd (some_not_none e refl)
  hand_by old low call.Rest n v keeps fresh h = λ c e. absurd (some_not_none e refl)
  hand_by old low (call.Claim d q) n v keeps fresh h = hand_claim old low (n == d) d q v
      (λ e. elim fresh [ inl least ↦ (let same = eqb-true n d e in omega arith) | inr none ↦ absurd (none d q refl) ]) h
  hand_by old low (call.IFlag d p from) n v keeps fresh h = hand_flag old low (n == packed from) (fact.IFlagged d) p (unpacked n) v (after (call.IFlag d p from) n v) refl h
  hand_by old low (call.DFlag d gp from) n v keeps fresh h = hand_flag old low (n == packed from) (fact.DFlagged d) gp (unpacked n) v (after (call.DFlag d gp from) n v) refl h
  hand_by old low (call.Mark d p was) n v keeps fresh h = hand_mark old low (n == was) d p (unpacked n) v (after (call.Mark d p was) n v) refl h
  hand_by old low _ n v keeps fresh h = h

  -- what a call that is no claim is
  claims_or_not : (c : Call) → ((d : ℕ) × (q : NewNode) × (c ≡ call.Claim d q)) ⊎ ((d : ℕ) (q : NewNode) → c ≢ call.Claim d q)
  claims_or_not (call.Claim d q) = inl (d, q, refl)
  claims_or_not (call.Begin op) = inr (λ d q e. cc)
  claims_or_not call.Again = inr (λ d q e. cc)
  claims_or_not call.Leave = inr (λ d q e. cc)
  claims_or_not (call.Answer said took) = inr (λ d q e. cc)
  claims_or_not (call.Upd x) = inr (λ d q e. cc)
  claims_or_not (call.Down x right) = inr (λ d q e. cc)
  claims_or_not call.Next = inr (λ d q e. cc)
  claims_or_not (call.KeyOf x) = inr (λ d q e. cc)
  claims_or_not (call.ValueOf x) = inr (λ d q e. cc)
  claims_or_not (call.Info c f) = inr (λ d q e. cc)
  claims_or_not (call.FrozenChild c p right) = inr (λ d q e. cc)
  claims_or_not call.Look = inr (λ d q e. cc)
  claims_or_not (call.LookDown from key right) = inr (λ d q e. cc)
  claims_or_not call.Rest = inr (λ d q e. cc)
  claims_or_not (call.Fill c f value) = inr (λ d q e. cc)
  claims_or_not (call.IFlag c p from) = inr (λ d q e. cc)
  claims_or_not (call.IChild c p l replaces right) = inr (λ d q e. cc)
  claims_or_not (call.IUnflag c p) = inr (λ d q e. cc)
  claims_or_not (call.DFlag c gp from) = inr (λ d q e. cc)
  claims_or_not (call.Mark c p was) = inr (λ d q e. cc)
  claims_or_not (call.DChild c gp p y right) = inr (λ d q e. cc)
  claims_or_not (call.DUnflag c gp) = inr (λ d q e. cc)
  claims_or_not (call.Backtrack c gp) = inr (λ d q e. cc)

  -- a pass has in hand no card that was claimed before its call
  hands : (seat : ℕ) (old : Option ℕ) (low : ℕ) (s : TableState) (r : HasMachine plan s) → low ≤ r.words.next → (v : View) → get_elem? s.views seat ≡ some v → LateHand old low v
      → (turns : List Turn) (s' : TableState) → TableRun plan s turns s' → KeepOn seat turns → (w : View) → get_elem? s'.views seat ≡ some w → LateHand old low w
  hands seat old low s r least v there h [] s' run on w there' =
      subst (LateHand old low) (some-injective v w (sym there ∙ (ap (λ (t : TableState). get_elem? t.views seat) (sym run) ∙ there'))) h
  hands seat old low s r least v there h (t ∷ ts) s' run on w there' =
      let keeps = first_keeps seat t ts on in
      let goes = turn_seat KeepsOn plan s seat v there t run.0 run.1 keeps.0 in
      let one = run_goes plan s r r.stages r.invariant (t ∷ []) run.0 (run.0, run.1, refl) in
      let rise = one.1.words.next in
      hands seat old low run.0 one.0 (omega arith) goes.view goes.there (elim goes.made [
        | inl same ↦ subst (LateHand old low) (sym same) h
        | inr c ↦ subst (LateHand old low) (sym c.3) (hand_by old low c.0 (found_by s c.0) v c.1 (fresh c.0) h)
      ]) ts s' run.2 keeps.1 w there'
    where
      fresh : (c : Call) → low ≤ found_by s c ⊎ ((d : ℕ) (q : NewNode) → c ≢ call.Claim d q)
      fresh c = elim (claims_or_not c) [
        | inl is ↦ inl (let word = r.next in subst (λ k. low ≤ found_by s k) (sym is.2) (omega arith))
        | inr none ↦ inr none
      ]

-- a win of a child exchange for a card is that of the exchange that a call names
head_of : List Exchange → Exchange → Exchange
head_of [] k = k
head_of (j ∷ js) k = j

tail_of : List Exchange → List Exchange
tail_of [] = []
tail_of (j ∷ js) = js

in_one : (k : Exchange) (l : List Exchange) → InList k l → (j : Exchange) → l ≡ j ∷ [] → k ≡ j
unfolding head_of tail_of
in_one k l (first _ ks) j e = ap (λ m. head_of m k) e
in_one k l (later _ i ks h) j e = absurd (not_in_none k ks (ap tail_of e) h)

in_win : (k j : Exchange) (d c : ℕ) → InList k (win_for (Some d) j c) → (k ≡ j) × (d ≡ c) × (win_for (Some d) j c ≡ j ∷ [])
in_win k j d c h = by (c == d) refl h
  where
    by : (b : Bool) → (c == d) ≡ b → InList k (if b then j ∷ [] else []) → (k ≡ j) × (d ≡ c) × ((if c == d then j ∷ [] else []) ≡ j ∷ [])
    by true is h = (in_one k (j ∷ []) h j refl, sym (eqb-true c d is), ap (λ b. if b then j ∷ [] else []) is)
    by false is h = absurd (not_in_none k [] refl h)

-- what the turn that wins an ichild does
record Inserts (s : TableState) (old new : Words) (c : ℕ) (wins : List Exchange) : Type 0 where
  makes : MakesChange (op_of_card old c) old new
  work : IsAtWork s c (op_of_card (own_words s) c)
  own : wins ≡ exchange.IChild ∷ []

record Deletes (s : TableState) (old new : Words) (c : ℕ) (wins : List Exchange) : Type 0 where
  takes : TakesPair old new (card_key old c) (card_value old c)
  work : IsAtWork s c (Delete (card_key (own_words s) c))
  own : wins ≡ exchange.DChild ∷ []

inserts_by : (s : TableState) (old new : Words) (c : ℕ) (y : Call) (b : Bool) → InList exchange.IChild (if b then win_of y c else [])
    → PairsChangeBy y b old new → ChangeIsOf y b s → Inserts s old new c (if b then win_of y c else [])
inserts_by s old new c y false h pairs work = absurd (not_in_none exchange.IChild [] refl h)
inserts_by s old new c (call.IChild d p l replaces right) true h pairs work =
    let w = in_win exchange.IChild exchange.IChild d c h in record {
      makes = subst (λ n. MakesChange (op_of_card old n) old new) w.1 pairs;
      work = subst (λ n. IsAtWork s n (op_of_card (own_words s) n)) w.1 work;
      own = w.2;
    }
inserts_by s old new c (call.IFlag d p from) true h pairs work = absurd (let w = in_win exchange.IChild exchange.IFlag d c h in let e : exchange.IChild ≡ exchange.IFlag = w.0 in cc)
inserts_by s old new c (call.IUnflag d p) true h pairs work = absurd (let w = in_win exchange.IChild exchange.IUnflag d c h in let e : exchange.IChild ≡ exchange.IUnflag = w.0 in cc)
inserts_by s old new c (call.DFlag d gp from) true h pairs work = absurd (let w = in_win exchange.IChild exchange.DFlag d c h in let e : exchange.IChild ≡ exchange.DFlag = w.0 in cc)
inserts_by s old new c (call.Mark d p was) true h pairs work = absurd (let w = in_win exchange.IChild exchange.Mark d c h in let e : exchange.IChild ≡ exchange.Mark = w.0 in cc)
inserts_by s old new c (call.DChild d gp p z right) true h pairs work = absurd (let w = in_win exchange.IChild exchange.DChild d c h in let e : exchange.IChild ≡ exchange.DChild = w.0 in cc)
inserts_by s old new c (call.DUnflag d gp) true h pairs work = absurd (let w = in_win exchange.IChild exchange.DUnflag d c h in let e : exchange.IChild ≡ exchange.DUnflag = w.0 in cc)
inserts_by s old new c (call.Backtrack d gp) true h pairs work = absurd (let w = in_win exchange.IChild exchange.Backtrack d c h in let e : exchange.IChild ≡ exchange.Backtrack = w.0 in cc)
inserts_by s old new c _ true h pairs work = absurd (not_in_none exchange.IChild [] refl h)

deletes_by : (s : TableState) (old new : Words) (c : ℕ) (y : Call) (b : Bool) → InList exchange.DChild (if b then win_of y c else [])
    → PairsChangeBy y b old new → ChangeIsOf y b s → Deletes s old new c (if b then win_of y c else [])
deletes_by s old new c y false h pairs work = absurd (not_in_none exchange.DChild [] refl h)
deletes_by s old new c (call.DChild d gp p z right) true h pairs work =
    let w = in_win exchange.DChild exchange.DChild d c h in record {
      takes = subst (λ n. TakesPair old new (card_key old n) (card_value old n)) w.1 pairs;
      work = subst (λ n. IsAtWork s n (Delete (card_key (own_words s) n))) w.1 work;
      own = w.2;
    }
deletes_by s old new c (call.IFlag d p from) true h pairs work = absurd (let w = in_win exchange.DChild exchange.IFlag d c h in let e : exchange.DChild ≡ exchange.IFlag = w.0 in cc)
deletes_by s old new c (call.IChild d p l replaces right) true h pairs work = absurd (let w = in_win exchange.DChild exchange.IChild d c h in let e : exchange.DChild ≡ exchange.IChild = w.0 in cc)
deletes_by s old new c (call.IUnflag d p) true h pairs work = absurd (let w = in_win exchange.DChild exchange.IUnflag d c h in let e : exchange.DChild ≡ exchange.IUnflag = w.0 in cc)
deletes_by s old new c (call.DFlag d gp from) true h pairs work = absurd (let w = in_win exchange.DChild exchange.DFlag d c h in let e : exchange.DChild ≡ exchange.DFlag = w.0 in cc)
deletes_by s old new c (call.Mark d p was) true h pairs work = absurd (let w = in_win exchange.DChild exchange.Mark d c h in let e : exchange.DChild ≡ exchange.Mark = w.0 in cc)
deletes_by s old new c (call.DUnflag d gp) true h pairs work = absurd (let w = in_win exchange.DChild exchange.DUnflag d c h in let e : exchange.DChild ≡ exchange.DUnflag = w.0 in cc)
deletes_by s old new c (call.Backtrack d gp) true h pairs work = absurd (let w = in_win exchange.DChild exchange.Backtrack d c h in let e : exchange.DChild ≡ exchange.Backtrack = w.0 in cc)
deletes_by s old new c _ true h pairs work = absurd (not_in_none exchange.DChild [] refl h)

module _ (plan : TablePlan) where
  inserts_turn : (s : TableState) → HasMachine plan s → (t : Turn) (s' : TableState) → TableTurns plan s t s' → (c : ℕ) → InList exchange.IChild (turn_wins s t c)
      → Inserts s (own_words s) (own_words s') c (turn_wins s t c)
  inserts_turn s r (Makes seat y) s' h c wins =
      inserts_by s (own_words s) (own_words s') c y (is_won (atomic_of y) (found_by s y)) wins (turn_lawful plan s r (Makes seat y) s' h).1.tree
      (table_changes_are_operations plan s r seat h.view y h.there h.may)
  inserts_turn s r (Splits seat left) s' h c wins = absurd (not_in_none exchange.IChild [] refl wins)
  inserts_turn s r (Joins seat other) s' h c wins = absurd (not_in_none exchange.IChild [] refl wins)

  deletes_turn : (s : TableState) → HasMachine plan s → (t : Turn) (s' : TableState) → TableTurns plan s t s' → (c : ℕ) → InList exchange.DChild (turn_wins s t c)
      → Deletes s (own_words s) (own_words s') c (turn_wins s t c)
  deletes_turn s r (Makes seat y) s' h c wins =
      deletes_by s (own_words s) (own_words s') c y (is_won (atomic_of y) (found_by s y)) wins (turn_lawful plan s r (Makes seat y) s' h).1.tree
      (table_changes_are_operations plan s r seat h.view y h.there h.may)
  deletes_turn s r (Splits seat left) s' h c wins = absurd (not_in_none exchange.DChild [] refl wins)
  deletes_turn s r (Joins seat other) s' h c wins = absurd (not_in_none exchange.DChild [] refl wins)

  -- a card in hand, flagged, for an operation, by a machine of the state
  flagged_in : (s : TableState) (r : HasMachine plan s) (seat : ℕ) (v : View) → get_elem? s.views seat ≡ some v → (stage : Stages)
      → Invariant (machine_of_table plan s r) stage → (op : Op) (c : ℕ) → Does v op → v.worker.card ≡ Some c → v.worker.flagged ≡ true
      → Flagged r.words stage (worker_of v.worker) op c
  flagged_in s r seat v there stage holds op c does has flagged =
      subst (λ (u : Worker). Flagged r.words stage u op c) (mine_is plan s r seat v there)
      ((holds.workers.each seat).flagged op c
      (ap (λ (u : Worker). u.operation) (mine_is plan s r seat v there) ∙ does)
      (ap (λ (u : Worker). u.card) (mine_is plan s r seat v there) ∙ has)
      (ap (λ (u : Worker). u.flagged) (mine_is plan s r seat v there) ∙ flagged)).0

  -- where a turn wins a dchild for a card, the card won its flag, and was claimed
  pub dchild_flagged : (s : TableState) (r : HasMachine plan s) (t : Turn) (s' : TableState) → TableTurns plan s t s' → (c : ℕ)
      → turn_wins s t c ≡ exchange.DChild ∷ [] → delete_won (r.stages c) ≡ true
  dchild_flagged s r t s' now c wins =
      let work = (deletes_turn s r t s' now c (subst (InList exchange.DChild) (sym wins) (first exchange.DChild []))).work in
      (flagged_in s r work.seat work.view work.there r.stages r.invariant (Delete (card_key (own_words s) c)) c work.does work.holds work.flagged).0

  pub dchild_claimed : (s : TableState) (r : HasMachine plan s) (c : ℕ) → delete_won (r.stages c) ≡ true → c < r.words.next
  dchild_claimed s r c won = (r.invariant.words.cards c).claimed.0 (delete-claimed (r.stages c) (delete_won-delete (r.stages c) won))

  knows_in : (s : TableState) (r : HasMachine plan s) (seat : ℕ) (v : View) → get_elem? s.views seat ≡ some v → (stage : Stages)
      → Invariant (machine_of_table plan s r) stage → (f : Fact) → Knows v f → allows f (stage (card_of_fact f)) ≡ true
  knows_in s r seat v there stage holds f knows =
      (holds.workers.each seat).facts f (ap (λ (u : Worker). u.knows f) (mine_is plan s r seat v there) ∙ knows)

  module _ (begun : TableState) (r : HasMachine plan begun) (turns : List Turn) (s' : TableState) (run : TableRun plan begun turns s') (seat c : ℕ)
      (late : r.words.next ≤ c) (v : View) (there : get_elem? s'.views seat ≡ some v) (has : v.worker.card ≡ Some c) (flagged : v.worker.flagged ≡ true) where
    -- nothing was won for the card before
    none_before : wins_of (r.stages c) ≡ []
    none_before = unclaimed-wins (r.stages c) (not_claimed r.words r.stages r.invariant.words c late)

    -- what was won for it in the run
    won_here : (stage : Stages) (ks : List Exchange) → wins_of (stage c) ≡ wins_of (r.stages c) ++ run_wins plan begun turns s' run c → wins_of (stage c) ≡ ks
        → run_wins plan begun turns s' run c ≡ ks
    won_here stage ks goes is = sym (goes ∙ ap (λ l. l ++ run_wins plan begun turns s' run c) none_before) ∙ is

    put_point : (op : Op) (what : Put) → put_of op ≡ Some what → Does v op → Knows v (fact.IOver c) → TakesEffect plan op c begun turns s'
    put_point op what puts does over =
        let goes = run_goes plan begun r r.stages r.invariant turns s' run in
        let end = over_insert (goes.1.stages c) (knows_in s' goes.0 seat v there goes.1.stages goes.1.invariant (fact.IOver c) over) in
        let won = won_here goes.1.stages _ (goes.1.wins c) end in
        let f = find plan exchange.IChild c begun r turns s' run
        (subst (InList exchange.IChild) (sym won) (later exchange.IChild exchange.IFlag _ (first exchange.IChild _))) in
        let does_it = inserts_turn f.state f.kept f.turn f.next f.now c f.wins in
        let rest = run_goes plan f.state f.kept f.kept.stages f.kept.invariant (f.turn ∷ drop (suc f.n) turns) s' (f.next, f.now, f.after) in
        let work = does_it.work in
        let its = card_puts (own_words f.state) c in
        let theirs = flag_putting f.kept.words f.kept.stages (worker_of work.view.worker) its.0 c (op_of_card (own_words f.state) c) its.1
        (flagged_in f.state f.kept work.seat work.view work.there f.kept.stages f.kept.invariant (op_of_card (own_words f.state) c) c work.does
        work.holds work.flagged) in
        let ours = flag_putting rest.0.words rest.1.stages (worker_of v.worker) what c op puts
        (flagged_in s' rest.0 seat v there rest.1.stages rest.1.invariant op c does has flagged) in
        let inserts = insert_won-insert (f.kept.stages c) theirs.0 in
        let key : its.0.key ≡ what.key =
        sym theirs.1 ∙ (sym (insert_key_later f.kept.words rest.0.words f.kept.stages f.kept.invariant.words rest.1.words c inserts) ∙ ours.1) in
        let value : its.0.value ≡ what.value =
        sym theirs.2 ∙ (sym (insert_value_later f.kept.words rest.0.words f.kept.stages f.kept.invariant.words rest.1.words c inserts) ∙ ours.2) in
        let same = one_putter rest.0.words c (op_of_card (own_words f.state) c) op its.0 what its.1 puts key value
        (putting_later f.kept.words rest.0.words f.kept.stages f.kept.invariant.words rest.1.words c inserts its.0.was theirs.4) ours.4 in
        record {
          first = f.n;
          state = f.state;
          turn = f.turn;
          next = f.next;
          before = f.before;
          now = f.now;
          after = f.after;
          at = f.at;
          own = does_it.own ∙ sym (put_change op what puts);
          changes = subst (λ o. MakesChange o (own_words f.state) (own_words f.next)) same does_it.makes;
          finds = put_finds op what c (own_words f.state) puts;
        }

    delete_point : (k : ℕ) → Does v (Delete k) → Knows v (fact.DOver c) → TakesEffect plan (Delete k) c begun turns s'
    delete_point k does over =
        let goes = run_goes plan begun r r.stages r.invariant turns s' run in
        let end = over_delete (goes.1.stages c) (knows_in s' goes.0 seat v there goes.1.stages goes.1.invariant (fact.DOver c) over) in
        let won = won_here goes.1.stages _ (goes.1.wins c) end in
        let f = find plan exchange.DChild c begun r turns s' run
        (subst (InList exchange.DChild) (sym won) (later exchange.DChild exchange.DFlag _ (later exchange.DChild exchange.Mark _ (first exchange.DChild _)))) in
        let does_it = deletes_turn f.state f.kept f.turn f.next f.now c f.wins in
        let rest = run_goes plan f.state f.kept f.kept.stages f.kept.invariant (f.turn ∷ drop (suc f.n) turns) s' (f.next, f.now, f.after) in
        let work = does_it.work in
        let theirs = flagged_in f.state f.kept work.seat work.view work.there f.kept.stages f.kept.invariant
        (Delete (card_key (own_words f.state) c)) c work.does work.holds work.flagged in
        let ours = flagged_in s' rest.0 seat v there rest.1.stages rest.1.invariant (Delete k) c does has flagged in
        let is_delete = delete_won-delete (f.kept.stages c) theirs.0 in
        let key : card_key (own_words f.state) c ≡ k =
        sym theirs.1 ∙ (sym (delete_key_later f.kept.words rest.0.words f.kept.stages f.kept.invariant.words rest.1.words c is_delete) ∙ ours.1) in
        record {
          first = f.n;
          state = f.state;
          turn = f.turn;
          next = f.next;
          before = f.before;
          now = f.now;
          after = f.after;
          at = f.at;
          own = does_it.own;
          changes = (card_value (own_words f.state) c, subst (λ n. TakesPair (own_words f.state) (own_words f.next) n (card_value (own_words f.state) c)) key does_it.takes);
          finds = subst (λ n. IsTreePair (own_words f.state) n (card_value (own_words f.state) c)) key does_it.takes.present;
        }

    point : (op : Op) → Does v op → CardIsOver v op c → TakesEffect plan op c begun turns s'
    point (Find k) does over = absurd over
    point (Insert k value) does over = put_point (Insert k value) (added k value) refl does over
    point (Swap k was value) does over = put_point (Swap k was value) (replacing k was value) refl does over
    point (Delete k) does over = delete_point k does over

-- where there was no old card
late_of : {low c : ℕ} → ((None ≡ Some c) ⊎ (low ≤ c)) → low ≤ c
late_of (inl e) = absurd cc
late_of (inr h) = h

-- a call answers the operation that it began
pub called_does : (plan : TablePlan) (s : TableState) → HasMachine plan s → (seat : ℕ) (op : Op) (begun : TableState) (turns : List Turn) (s' : TableState) (said : Reply)
    → (called : IsCalled plan s seat op begun turns s' said) → called.answers.may.op ≡ op
called_does plan s r seat op begun turns s' said called =
    let real = (mine_sound plan s r seat called.begins.view called.begins.there).real (key_of op) called.begins.may.1 in
    still_does plan s r seat op real begun called.begins turns s' called.run called.on called.answers.view called.answers.there called.answers.may.op called.answers.may.busy

-- each call has its point: one that answers at a leaf a state, and one that answers by its card a turn
pub point_of : (plan : TablePlan) (s : TableState) → HasMachine plan s → (seat : ℕ) (op : Op) (begun : TableState) (turns : List Turn) (s' : TableState) (said : Reply)
    → (called : IsCalled plan s seat op begun turns s' said)
    → (KnowsAnswerAtLeaf called.answers.view op said × SaysWhatWas plan op begun turns s' said)
    ⊎ ((said ≡ reply_of_change op) × ((c : ℕ) × HoldsAtEnd s' seat c × TakesEffect plan op c begun turns s'))
point_of plan s r seat op begun turns s' said called =
    let real = (mine_sound plan s r seat called.begins.view called.begins.there).real (key_of op) called.begins.may.1 in
    let v = called.answers.view in
    let there = called.answers.there in
    let may = called.answers.may in
    let is : may.op ≡ op = called_does plan s r seat op begun turns s' said called in
    let does : Does v op = may.busy ∙ ap Some is in
    let turn = turn_lawful plan s r (Makes seat (Begin op)) begun called.begins in
    elim may.answers [
      | inl leaf ↦ inl (
        subst (λ o. KnowsAnswerAtLeaf v o said) is leaf,
        leaf_answers_of_one_state plan s r seat op real begun called.begins turns s'
            called.run called.on v there does said (subst (λ o. KnowsAnswerAtLeaf v o said) is leaf),
      )
      | inr card ↦ inr (
        card.says ∙ ap reply_of_change is,
        (
          card.card,
          record { holds = λ w at. subst (λ (u : View). (u.worker.card ≡ Some card.card) × (u.worker.flagged ≡ true)) (some-injective v w (sym there ∙ at)) (card.holds, card.flagged) },
          point plan begun turn.0 turns s' called.run seat card.card
              (late_of (hands plan seat None turn.0.words.next begun turn.0 (omega arith) (view_after s called.begins.view (Begin op)) (now called.begins)
              (λ c e. absurd (some_not_none e refl)) turns s' called.run called.on v there card.card card.holds))
              v there card.holds card.flagged op does (subst (λ o. CardIsOver v o card.card) is card.over),
        ),
      )
    ]
  where
    now : CallIsMade plan s seat (Begin op) begun → get_elem? begun.views seat ≡ some (view_after s called.begins.view (Begin op))
    now h = ap (λ (t : TableState). get_elem? t.views seat) called.begins.gives ∙ set_there s.views seat (view_after s called.begins.view (Begin op)) called.begins.view called.begins.there

pub calls_have_their_point : CallsHaveTheirPoint
calls_have_their_point plan s r seat op begun turns s' said called = elim (point_of plan s r seat op begun turns s' said called) [
  | inl leaf ↦ inl leaf.1
  | inr card ↦ inr card
]

-- a card in hand was claimed
hand_below : (plan : TablePlan) (s : TableState) (r : HasMachine plan s) (seat : ℕ) (v : View) → get_elem? s.views seat ≡ some v → (c : ℕ)
    → v.worker.card ≡ Some c → c < r.words.next
hand_below plan s r seat v there c has =
    (r.invariant.words.cards c).claimed.0 (hand_claimed r.words r.stages (worker_of v.worker) c (mine_sound plan s r seat v there) has)

-- so two calls have two cards
pub calls_have_their_own_cards : CallsHaveTheirOwnCards
calls_have_their_own_cards plan s r one v there c has = record {
  beside = λ other apart turns s' run on u here w at w_has.
      elim (hands plan other u.worker.card r.words.next s r (omega arith) u here (λ d e. inl e) turns s' run on w at c w_has) [
        | inl old ↦ apart (r.invariant.workers.one_hand other one c
            (ap (λ (k : Worker). k.card) (mine_is plan s r other u here) ∙ old) (ap (λ (k : Worker). k.card) (mine_is plan s r one v there) ∙ has))
        | inr low ↦ (let below = hand_below plan s r one v there c has in omega arith)
      ];
  later = λ more s2 run other op begun turns s' said called w at w_has.
      let goes = run_goes plan s r r.stages r.invariant more s2 run in
      let turn = turn_lawful plan s2 goes.0 (Makes other (Begin op)) begun called.begins in
      let one_turn = run_goes plan s2 goes.0 goes.0.stages goes.0.invariant (Makes other (Begin op) ∷ []) begun (begun, called.begins, refl) in
      let rise = goes.1.words.next in
      let rise' = one_turn.1.words.next in
      let begun_view = view_after s2 called.begins.view (Begin op) in
      let begun_there : get_elem? begun.views other ≡ some begun_view =
      ap (λ (t : TableState). get_elem? t.views other) called.begins.gives ∙ set_there s2.views other begun_view called.begins.view called.begins.there in
      let low = late_of (hands plan other None one_turn.0.words.next begun one_turn.0 (omega arith) begun_view begun_there
      (λ d e. absurd (some_not_none e refl)) turns s' called.run called.on w at c w_has) in
      let below = hand_below plan s r one v there c has in
      omega arith;
}
