use Rattle.std.proofs.Common.{◌≡◌, ℕ, ◌==◌, if◌then◌else◌, Bool, true, false, Some, None, inl, inr, sym, subst}
use Rattle.ell_core.specs.declared.event.Act.{Act}
use Rattle.ell_core.specs.declared.event.Act.TheVariants as act
use Rattle.ell_core.specs.declared.event.Stepped.{Stepped}
use Rattle.ell_core.specs.declared.event.Stepped.TheVariants.{Moved}
use Rattle.ell_word.specs.Link.{linked}
use Rattle.ell_layout.specs.Words.{Words}
use Rattle.ell_core.specs.state.Machine.{Machine}
use Rattle.ell_layout.specs.Cards.{card_key, card_value, is_replace_card}
use Rattle.ell_core.specs.acts.Exchanges.{won_or_lost}
use Rattle.ell_core.specs.history.Stages.{Stages}
use Rattle.ell_core.specs.history.Invariant.{Invariant}
use Rattle.ell_core.specs.statements.Effects.{AddsPair, ReplacesPair, MakesChange, op_brought, op_of_card, TakesPair, SamePairs, PairsChange}
use Rattle.ell_core.proofs.lemmas.following.Lawful.{events_lawful}
use Rattle.ell_runs.specs.declared.call.Call.{Call}
use Rattle.ell_runs.specs.declared.call.Call.TheVariants as call
use Rattle.ell_runs.specs.declared.view.View.{View}
use Rattle.ell_runs.specs.Views.{KnowsCard}
use Rattle.ell_runs.specs.Calls.{atomic_of, is_won, act_of, said_of, Becomes, May}
use Rattle.ell_runs.specs.Laws.{machine_of_table}
use Rattle.ell_runs.specs.Turns.{found_by, state_after}
use Rattle.ell_runs.specs.TurnEffects.{own_words, PairsChangeBy}
use Rattle.ell_runs.proofs.lemmas.seats.Statements.{PairsByMachine}
use Rattle.ell_runs.proofs.lemmas.stepping.AllCalls.{steps_are_events}
use Rattle.ell_runs.proofs.lemmas.own_words.OwnTree.{same_keys}
use Rattle.ell_runs.proofs.lemmas.own_words.OwnWords.{own_pairs, own_card_key, own_card_value, own_card_op}
use Rattle.ell_runs.specs.Plans.{TablePlan}

-- an act of a machine, and no act
module _ (m : Machine) (stage : Stages) (holds : Invariant m stage) (i : ℕ) (m' : Machine) where
  acts : (a : Act) (said : Stepped) → Becomes i (Some a) said m m' → PairsChange a said m.words m'.words
  acts a said h = (events_lawful m stage (record { worker = i; act = a }) said m' holds h).pairs

  rests : m' ≡ m → SamePairs m.words m'.words
  rests is = subst (λ (n : Machine). SamePairs m.words n.words) (sym is) (λ k value. (λ h. h, λ h. h))

  claims : (b : Bool) → Becomes i (if b then Some act.Claim else None) Moved m m' → SamePairs m.words m'.words
  claims true h = acts act.Claim Moved h
  claims false h = rests h

  -- the keys of the tree of the machine and their values change as the call says
  machine_pairs : (c : Call) (n : ℕ) → Becomes i (act_of c n) (said_of c n) m m' → PairsChangeBy c (is_won (atomic_of c) n) m.words m'.words
  machine_pairs (call.Begin op) n h = acts (act.Begin op) Moved h
  machine_pairs call.Again n h = acts act.Again Moved h
  machine_pairs call.Leave n h = acts act.Leave Moved h
  machine_pairs (call.Answer said took) n h = acts act.Answer (said_of (call.Answer said took) n) h
  machine_pairs (call.Upd x) n h = acts act.Upd Moved h
  machine_pairs (call.Down x right) n h = acts act.Down Moved h
  machine_pairs (call.Claim c q) n h = claims (n == c) h
  machine_pairs (call.IFlag c p from) n h = acts act.IFlag (said_of (call.IFlag c p from) n) h
  machine_pairs (call.IChild c p l replaces right) n h = by (n == linked l) h
    where
      by : (b : Bool) → Becomes i (Some (act.IChild c)) (won_or_lost b) m m' → PairsChangeBy (call.IChild c p l replaces right) b m.words m'.words
      by true h = acts (act.IChild c) (won_or_lost true) h
      by false h = acts (act.IChild c) (won_or_lost false) h
  machine_pairs (call.IUnflag c p) n h = acts (act.IUnflag c) (said_of (call.IUnflag c p) n) h
  machine_pairs (call.DFlag c gp from) n h = acts act.DFlag (said_of (call.DFlag c gp from) n) h
  machine_pairs (call.Mark c p was) n h = acts (act.Mark c) (said_of (call.Mark c p was) n) h
  machine_pairs (call.DChild c gp p sibling right) n h = by (n == linked p) h
    where
      by : (b : Bool) → Becomes i (Some (act.DChild c)) (won_or_lost b) m m' → PairsChangeBy (call.DChild c gp p sibling right) b m.words m'.words
      by true h = acts (act.DChild c) (won_or_lost true) h
      by false h = acts (act.DChild c) (won_or_lost false) h
  machine_pairs (call.DUnflag c gp) n h = acts (act.DUnflag c) (said_of (call.DUnflag c gp) n) h
  machine_pairs (call.Backtrack c gp) n h = acts (act.Backtrack c) (said_of (call.Backtrack c gp) n) h
  machine_pairs _ n h = rests h

-- words before and after, and others whose trees have the same keys with the same values
module _ (w w' t t' : Words) (before : SamePairs t w) (after : SamePairs t' w') where
  own_same : SamePairs w w' → SamePairs t t'
  own_same h k v = (λ x. (before k v).0 ((h k v).0 ((after k v).1 x)), λ x. (after k v).0 ((h k v).1 ((before k v).1 x)))

  own_adds : (key value : ℕ) → AddsPair w w' key value → AddsPair t t' key value
  own_adds key value h = record {
    absent = λ x. h.absent ((same_keys t w before key).1 x);
    pairs = λ k v. (
      λ x. elim ((h.pairs k v).0 ((after k v).1 x)) [ inl o ↦ inl ((before k v).0 o) | inr e ↦ inr e ],
      λ x. elim x [ inl o ↦ (after k v).0 ((h.pairs k v).1 (inl ((before k v).1 o))) | inr e ↦ (after k v).0 ((h.pairs k v).1 (inr e)) ],
    );
  }

  own_replaces : (key was value : ℕ) → ReplacesPair w w' key was value → ReplacesPair t t' key was value
  own_replaces key was value h = record {
    present = (before key was).0 h.present;
    pairs = λ k v. (
      λ x. elim ((h.pairs k v).0 ((after k v).1 x)) [ inl o ↦ inl ((before k v).0 o.0, o.1) | inr e ↦ inr e ],
      λ x. elim x [ inl o ↦ (after k v).0 ((h.pairs k v).1 (inl ((before k v).1 o.0, o.1))) | inr e ↦ (after k v).0 ((h.pairs k v).1 (inr e)) ],
    );
  }

  own_brings : (b : Bool) (key was value : ℕ) → MakesChange (op_brought b key was value) w w' → MakesChange (op_brought b key was value) t t'
  own_brings true key was value h = own_replaces key was value h
  own_brings false key was value h = own_adds key value h

  own_takes : (key value : ℕ) → TakesPair w w' key value → TakesPair t t' key value
  own_takes key value h = record {
    present = (before key value).0 h.present;
    pairs = λ k v. (
      λ x. let o = (h.pairs k v).0 ((after k v).1 x) in ((before k v).0 o.0, o.1),
      λ x. (after k v).0 ((h.pairs k v).1 ((before k v).1 x.0, x.1)),
    );
  }

  -- so they change as the call says, where the cards that the pass knows have the same keys and values
  own_change : (c : Call) (b : Bool) (v : View) (plan : TablePlan) → May plan c v
      → ((d : ℕ) → KnowsCard v d → card_key w d ≡ card_key t d) → ((d : ℕ) → KnowsCard v d → card_value w d ≡ card_value t d)
      → ((d : ℕ) → KnowsCard v d → op_of_card w d ≡ op_of_card t d)
      → PairsChangeBy c b w w' → PairsChangeBy c b t t'
  own_change (call.IChild c p l replaces right) true v plan may key value op_is h =
      subst (λ op. MakesChange op t t') (op_is c (inl may.knows)) (own_brings (is_replace_card w c) (card_key w c) (w.value (w.l c)) (card_value w c) h)
  own_change (call.DChild c gp p sibling right) true v plan may key value op_is h =
      subst (λ k. TakesPair t t' k (card_value t c)) (key c (inr (inr may.knows)))
      (subst (TakesPair t t' (card_key w c)) (value c (inr (inr may.knows))) (own_takes (card_key w c) (card_value w c) h))
  own_change _ _ v plan may key value op_is h = own_same h

pub table_pairs_change_at_wins : PairsByMachine
table_pairs_change_at_wins plan s r id v c here may =
    let step = steps_are_events plan s r id v c here may in
    let s' = state_after s id v c in
    let change = machine_pairs (machine_of_table plan s r) r.stages r.invariant id (machine_of_table plan s' step.kept) c (found_by s c) step.event in
    own_change r.words step.kept.words (own_words s) (own_words s') (own_pairs plan s r) (own_pairs plan s' step.kept)
    c (is_won (atomic_of c) (found_by s c)) v plan may (λ d knows. sym (own_card_key plan s r id d v here knows))
    (λ d knows. sym (own_card_value plan s r id d v here knows)) (λ d knows. sym (own_card_op plan s r id d v here knows)) change
