use Rattle.std.proofs.Common.{◌≡◌, ◌≢◌, ◌⊎◌, ℕ, ◌+◌, ◌==◌, if◌then◌else◌, Bool, true, false, Some, None, List, [], ◌∷◌, set, unwrap_or, refl, sym, ap, ◌∙◌, subst, inl, inr, ⊎_elim}
use mathlib.Core.Option.{some}
use lib.ListN.{get_elem?}
use Rattle.ell_runs.proofs.lemmas.words.Lists.{at_set}
use Rattle.ell_word.specs.Link.{link_in}
use Rattle.ell_word.specs.Word.{packed, unpacked}
use Rattle.ell_word.specs.declared.update.Update.{Update}
use Rattle.ell_layout.specs.declared.field.Field.{Field}
use Rattle.ell_layout.specs.declared.field.Field.TheVariants as field
use Rattle.ell_core.specs.declared.fact.Fact.{Fact}
use Rattle.ell_core.specs.declared.fact.Fact.TheVariants as fact
use Rattle.ell_core.specs.history.Invariant.{leaf_side}
use Rattle.ell_core.proofs.lemmas.outcomes.Decide.{some_not_none}
use Rattle.ell_runs.specs.declared.call.Call.{Call}
use Rattle.ell_runs.specs.declared.call.Call.TheVariants as call
use Rattle.ell_runs.specs.declared.call.NewNode.{NewNode}
use Rattle.ell_runs.specs.declared.glance.Glance.{Glance}
use Rattle.ell_runs.specs.declared.view.Told.{Told}
use Rattle.ell_runs.specs.declared.view.Told.TheVariants.{Met, Depth, Key, Value, Info, Expects, Frozen}
use Rattle.ell_runs.specs.declared.view.View.{View}
use Rattle.ell_runs.specs.Met.{EntryIsMet, InfoIsMet, LeafIsChild}
use Rattle.ell_runs.specs.Depths.{met_at, depth_told}
use Rattle.ell_runs.specs.Plans.{TablePlan, flat_from}
use Rattle.ell_runs.specs.Views.{Has, latest, earlier, IsTold, IsFree}
use Rattle.ell_runs.specs.Changes.{forgotten, told_filling, filling_of, expected_tag, value_told, depth_there, after_claim, after_flag, after_mark, is_mark_of, with_fact, unmarking, first_of, left_view, right_view, joined_view, spent_view}
use Rattle.ell_runs.specs.Guards.{MayClaim}
use Rattle.ell_runs.specs.Calls.{after, May}
use Rattle.ell_runs.specs.States.{TableState}
use Rattle.ell_runs.specs.Machines.{HasMachine}
use Rattle.ell_runs.specs.Starts.{IsReached}
use Rattle.ell_runs.specs.Touching.{PassesNameMet}
use Rattle.ell_runs.specs.Turns.{Turn, Makes, Splits, Joins, TableTurns, TableRun, found_by}
use Rattle.ell_runs.proofs.lemmas.views.Depths.{met_more, met_there}
use Rattle.ell_runs.proofs.lemmas.views.Entries.{filling_more}
use Rattle.ell_runs.proofs.lemmas.seats.Seats.{mine_sound, rests_ended}
use Rattle.ell_runs.proofs.lemmas.lifetimes.Splits.{each_split}
use Rattle.ell_runs.proofs.lemmas.lifetimes.Joins.{each_joined}
use Rattle.ell_runs.proofs.lemmas.lifetimes.Openings.{each_first}
use Rattle.ell_runs.proofs.lemmas.stepping.Exchanges.{told_is}
use Rattle.ell_runs.proofs.lemmas.runs.Claims.{after_told}
use Rattle.ell_runs.proofs.lemmas.runs.Hands.{first_reached}
use Rattle.ell_runs.proofs.lemmas.runs.Met.{SearchIsMet, searches_are_met, some_same}
use Rattle.ell_runs.proofs.lemmas.runs.Reaching.{reached_on, reached_kept}
use Rattle.ell_runs.proofs.lemmas.views.NamedEntries.{InfoIn, EntryIn, AllIn, first_in, forgotten_in, met_in, places_in, info_in, filling_in, search_fills, wants_above, leaf_filled}

-- the leaf of a card was told, and is a node that the pass has met
record LeafIsMet (v : View) (c : ℕ) : Type 0 where
  leaf : ℕ
  told : IsTold v (Info c field.L leaf)
  met : IsTold v (Met leaf)

-- a pass has met the root; all that it was told names nodes that it has met; to those its look has come; and so is the leaf
-- of its card in hand
record ViewNames (v : View) : Type 0 where
  root : IsTold v (Met 0)
  entries : AllIn v.told
  glances : (glance : Glance) → Has v.glances glance → IsTold v (Met glance.node)
  leaf : (c : ℕ) → v.worker.card ≡ Some c → LeafIsMet v c

-- where it was told no less, its look is where it was, and it has no other card in hand
names_still : (v w : View) → ((e : Told) → IsTold v e → IsTold w e) → AllIn w.told → w.glances ≡ v.glances
    → ((c : ℕ) → w.worker.card ≡ Some c → v.worker.card ≡ Some c) → ViewNames v → ViewNames w
names_still v w more entries glances held h = record {
  root = more (Met 0) h.root;
  entries = entries;
  glances = λ g at. more (Met g.node) (h.glances g (subst (λ gs. Has gs g) glances at));
  leaf = λ c has. let l = h.leaf c (held c has) in record { leaf = l.leaf; told = more (Info c field.L l.leaf) l.told; met = more (Met l.leaf) l.met };
}

-- where it has forgotten what it was told, and has no card in hand
names_rest : (w : View) → w.told ≡ forgotten → w.glances ≡ [] → w.worker.card ≡ None → ViewNames w
names_rest w told glances card = record {
  root = subst (λ es. Has es (Met 0)) (sym told) (latest (Met 0) []);
  entries = subst AllIn (sym told) forgotten_in;
  glances = λ g at. elim (subst (λ gs. Has gs g) glances at) [ ];
  leaf = λ c has. absurd (some_not_none has card);
}

-- a look has come to one node more
glance_in : (told : List Told) (g : Glance) (gs : List Glance) → Has told (Met g.node) → ((h : Glance) → Has gs h → Has told (Met h.node))
    → (h : Glance) → Has (g ∷ gs) h → Has told (Met h.node)
glance_in told g gs new old h (latest _ _) = new
glance_in told g gs new old h (earlier _ _ _ at) = old h at

-- a flag, at a node that was met
flag_names : (b : Bool) (new : Fact) (x : ℕ) (u : Update) (v w : View) → w.worker ≡ (after_flag b new x u v).worker → w.told ≡ (after_flag b new x u v).told
    → w.glances ≡ v.glances → ((e : Told) → IsTold v e → IsTold w e) → IsTold v (Met x) → ViewNames v → ViewNames w
flag_names true new x u v w worker told glances more met h =
    names_still v w more (subst AllIn (sym told) h.entries) glances (λ c has. sym (ap (λ k. k.card) worker) ∙ has) h
flag_names false new x u v w worker told glances more met h =
    names_still v w more (subst AllIn (sym told) (places_in x u.state u.card v.told met h.entries)) glances
    (λ c has. absurd (some_not_none has (ap (λ k. k.card) worker))) h

flag_glances : (b : Bool) (new : Fact) (x : ℕ) (u : Update) (v : View) → (after_flag b new x u v).glances ≡ v.glances
flag_glances true new x u v = refl
flag_glances false new x u v = refl

-- a mark
mark_card : (b : Bool) (c x : ℕ) (u : Update) (v : View) → (after_mark b c x u v).worker.card ≡ v.worker.card
mark_card true c x u v = refl
mark_card false c x u v = by (is_mark_of c u.state u.card)
  where
    by : (b : Bool) → (if b then with_fact (fact.Marked c) v else unmarking c x u v).worker.card ≡ v.worker.card
    by true = refl
    by false = refl

mark_glances : (b : Bool) (c x : ℕ) (u : Update) (v : View) → (after_mark b c x u v).glances ≡ v.glances
mark_glances true c x u v = refl
mark_glances false c x u v = by (is_mark_of c u.state u.card)
  where
    by : (b : Bool) → (if b then with_fact (fact.Marked c) v else unmarking c x u v).glances ≡ v.glances
    by true = refl
    by false = refl

mark_in : (b : Bool) (c x : ℕ) (u : Update) (v : View) → IsTold v (Met x) → AllIn v.told → AllIn (after_mark b c x u v).told
mark_in true c x u v met h = h
mark_in false c x u v met h = by (is_mark_of c u.state u.card)
  where
    by : (b : Bool) → AllIn (if b then with_fact (fact.Marked c) v else unmarking c x u v).told
    by true = h
    by false = places_in x u.state u.card v.told met h

-- a claim
claim_names : (from : ℕ) (b : Bool) (c : ℕ) (q : NewNode) (v : View) → MayClaim from v c q → SearchIsMet v → ViewNames v → ViewNames (after_claim b c q v)
claim_names from false c q v may met h = names_still v (after_claim false c q v) (λ e at. at) h.entries refl (λ d has. has) h
claim_names from true c q v may met h =
    let w = after_claim true c q v in
    let k = v.worker.search in
    let es = filling_of c q v in
    let tag = Expects c (expected_tag v) in
    let more : (e : Told) → IsTold v e → IsTold w e = λ e at. earlier e tag (told_filling c es v.told) (filling_more c es v.told e at) in
    let fills = search_fills c q v.worker.operation k.node k.parent k.grandparent (unwrap_or v.here 0) (value_told v.told) v.told
    (λ seen e. (met.parent seen e).met) (λ seen e. (met.grandparent seen e).met) in
    let leaf = leaf_filled c q v.worker.operation k.node k.parent k.grandparent (unwrap_or v.here 0) (value_told v.told) v.told may.op may.below may.parent
    may.busy may.stands may.behind (wants_above from v may.op may.parent.node may.below may.key q.key may.wants) in record {
      root = more (Met 0) h.root;
      entries = first_in (told_filling c es v.told) tag (filling_in c es v.told fills h.entries) tt;
      glances = λ g at. more (Met g.node) (h.glances g at);
      leaf = λ d has. subst (LeafIsMet w) (some_same has)
          (record { leaf = may.below; told = earlier _ _ _ leaf; met = more (Met may.below) (met.node may.below may.stands) });
    }

-- each call keeps it
after_names : (plan : TablePlan) (c : Call) (n : ℕ) (v : View) → May plan c v → (IsFree v → v.worker.card ≡ None) → SearchIsMet v → ViewNames v
    → ViewNames (after c n v)
after_names plan (call.Begin op) n v may rests met h = names_rest (after (call.Begin op) n v) refl refl refl
after_names plan call.Again n v may rests met h = names_rest (after call.Again n v) refl refl refl
after_names plan call.Leave n v may rests met h = names_rest (after call.Leave n v) refl refl refl
after_names plan (call.Answer said took) n v may rests met h = names_rest (after (call.Answer said took) n v) refl refl refl
after_names plan call.Rest n v may rests met h = names_rest (after call.Rest n v) refl refl refl
after_names plan (call.Upd x) n v may rests met h =
    names_still v (after (call.Upd x) n v) (after_told (call.Upd x) refl n v)
    (places_in x (unpacked n).state (unpacked n).card v.told (met.node x may.stands) h.entries) refl (λ d has. has) h
after_names plan (call.Down x right) n v may rests met h =
    names_still v (after (call.Down x right) n v) (after_told (call.Down x right) refl n v)
    (met_in (depth_told v.told x + 1) (link_in n).node v.told h.entries) refl (λ d has. has) h
after_names plan (call.KeyOf x) n v may rests met h =
    names_still v (after (call.KeyOf x) n v) (after_told (call.KeyOf x) refl n v)
    (first_in v.told (Key x n) h.entries (earlier _ _ _ may)) refl (λ d has. has) h
after_names plan (call.ValueOf x) n v may rests met h =
    names_still v (after (call.ValueOf x) n v) (after_told (call.ValueOf x) refl n v)
    (first_in v.told (Value x n) h.entries (earlier _ _ _ may.0)) refl (λ d has. has) h
after_names plan (call.Info c f) n v may rests met h =
    names_still v (after (call.Info c f) n v) (after_told (call.Info c f) refl n v)
    (info_in (depth_there v c f) c f n v.told h.entries) refl (λ d has. has) h
after_names plan (call.FrozenChild c p right) n v may rests met h =
    let depth = depth_told v.told p + 1 in
    let x = (link_in n).node in
    names_still v (after (call.FrozenChild c p right) n v) (after_told (call.FrozenChild c p right) refl n v)
    (first_in (met_at depth x v.told) (Frozen c right x) (met_in depth x v.told h.entries) (earlier _ _ _ (met_there depth x v.told)))
    refl (λ d has. has) h
after_names plan call.Look n v may rests met h =
    let x = (link_in n).node in
    let w = after call.Look n v in record {
      root = met_more 1 x forgotten (Met 0) (latest (Met 0) []);
      entries = met_in 1 x forgotten forgotten_in;
      glances = glance_in w.told _ [] (met_there 1 x forgotten) (λ g at. elim at [ ]);
      leaf = λ c has. absurd (some_not_none has (rests may));
    }
after_names plan (call.LookDown from to right) n v may rests met h =
    let depth = depth_told v.told from.node + 1 in
    let x = (link_in n).node in
    let w = after (call.LookDown from to right) n v in
    let more = after_told (call.LookDown from to right) refl n v in record {
      root = more (Met 0) h.root;
      entries = met_in depth x v.told h.entries;
      glances = glance_in w.told _ v.glances (met_there depth x v.told) (λ g at. more (Met g.node) (h.glances g at));
      leaf = λ c has. let l = h.leaf c has in record { leaf = l.leaf; told = more (Info c field.L l.leaf) l.told; met = more (Met l.leaf) l.met };
    }
after_names plan (call.Claim c q) n v may rests met h = claim_names (flat_from plan) (n == c) c q v may.0 met h
after_names plan (call.IFlag c p from) n v may rests met h =
    flag_names (n == packed from) (fact.IFlagged c) p (unpacked n) v (after (call.IFlag c p from) n v) refl refl
    (flag_glances (n == packed from) (fact.IFlagged c) p (unpacked n) v) (after_told (call.IFlag c p from) refl n v)
    (subst (λ x. IsTold v (Met x)) may.node (met.parent may.parent may.behind).met) h
after_names plan (call.DFlag c gp from) n v may rests met h =
    flag_names (n == packed from) (fact.DFlagged c) gp (unpacked n) v (after (call.DFlag c gp from) n v) refl refl
    (flag_glances (n == packed from) (fact.DFlagged c) gp (unpacked n) v) (after_told (call.DFlag c gp from) refl n v)
    (subst (λ x. IsTold v (Met x)) may.node (met.grandparent may.grandparent may.above).met) h
after_names plan (call.Mark c p was) n v may rests met h =
    let b = n == was in
    let u = unpacked n in
    names_still v (after (call.Mark c p was) n v) (after_told (call.Mark c p was) refl n v)
    (mark_in b c p u v (h.entries (Info c field.P p) may.0.place) h.entries) (mark_glances b c p u v)
    (λ d has. sym (mark_card b c p u v) ∙ has) h
after_names plan c n v may rests met h = names_still v (after c n v) (after_told c refl n v) h.entries refl (λ d has. has) h

abbrev AllName : TableState → Type 0
AllName s = (j : ℕ) (v : View) → get_elem? s.views j ≡ some v → ViewNames v

turn_names : (plan : TablePlan) (s : TableState) → IsReached plan s → (t : Turn) (s' : TableState) → TableTurns plan s t s' → AllName s → AllName s'
turn_names plan s reached (Makes id c) s' turn h = λ j u at.
    let r = reached_kept plan s reached in
    let v = turn.view in
    let rests : IsFree v → v.worker.card ≡ None = λ free. sym (ap (λ k. k.card) (rests_ended plan s r id v turn.there free)) in
    let w = after c (found_by s c) v in
    let there : get_elem? (set s.views id w) j ≡ some u = subst (λ (x : TableState). get_elem? x.views j ≡ some u) turn.gives at in
    ⊎_elim
    (λ (t : (j ≡ id) × (w ≡ u)). subst ViewNames t.1
    (after_names plan c (found_by s c) v turn.may rests (searches_are_met plan s reached id v turn.there) (h id v turn.there)))
    (λ (t : (j ≢ id) × (get_elem? s.views j ≡ some u)). h j u t.1)
    (at_set s.views id j w u there)
turn_names plan s reached (Splits id chosen) s' turn h =
    let left = left_view chosen turn.view in
    let right = right_view chosen turn.view in
    subst AllName (sym turn.gives)
    (each_split s.views id turn.view turn.there left right ViewNames (names_rest left refl refl refl) (names_rest right refl refl refl) h)
turn_names plan s reached (Joins id other) s' turn h =
    let both = joined_view turn.view turn.view' in
    subst AllName (sym turn.gives)
    (each_joined s.views id other turn.view turn.view' turn.there turn.there' (λ e. turn.apart (sym e)) both ViewNames
    (names_rest both refl refl refl) (names_rest spent_view refl refl refl) h)

run_names : (plan : TablePlan) (s : TableState) → IsReached plan s → (turns : List Turn) (s' : TableState) → TableRun plan s turns s' → AllName s → AllName s'
run_names plan s reached [] s' run h = subst AllName (sym run) h
run_names plan s reached (t ∷ ts) s' run h =
    run_names plan run.0 (reached_on plan s reached t run.0 run.1) ts s' run.2 (turn_names plan s reached t run.0 run.1 h)

-- so it is of each pass, wherever turns have led a table
passes_name : (plan : TablePlan) (s : TableState) → IsReached plan s → AllName s
passes_name plan s h =
    run_names plan h.first (first_reached plan s h) h.turns s h.run
    (subst AllName (sym h.starts.is) (each_first (first_of plan) ViewNames (names_rest (first_of plan) refl refl refl)))

-- the entries of a view
info_of : (v : View) (f : Field) (x : ℕ) → InfoIn v.told f x → InfoIsMet v f x
info_of v field.Gp x h = h
info_of v field.P x h = h
info_of v f x h = tt

entry_of : (v : View) (e : Told) → EntryIn v.told e → EntryIsMet v e
entry_of v (Met x) h = tt
entry_of v (Depth x d) h = h
entry_of v (Key x key) h = h
entry_of v (Value x value) h = h
entry_of v (Info c f x) h = info_of v f x h
entry_of v (Expects c tag) h = tt
entry_of v (Frozen c right x) h = h

module _ (plan : TablePlan) (s : TableState) (r : HasMachine plan s) (id : ℕ) (v : View) (here : get_elem? s.views id ≡ some v) where
  -- a leaf that was told of the card in hand is the one that the pass has met, since the card has one leaf
  leaf_met : (c x : ℕ) → LeafIsMet v c → IsTold v (Info c field.L x) → IsTold v (Met x)
  leaf_met c x l told =
      subst (λ y. IsTold v (Met y)) (sym (told_is plan s r id v here c field.L l.leaf l.told) ∙ told_is plan s r id v here c field.L x told) l.met

  -- a marked card's leaf stays a child of the card's parent
  leaf_is_child : LeafIsChild v
  leaf_is_child c l x y marked told right left =
      let w = r.words in
      let child = ((r.invariant.words.deletes c).marked ((mine_sound plan s r id v here).facts (fact.Marked c) marked)).leaf in
      let l_is : w.l c ≡ l = told_is plan s r id v here c field.L l told in
      let right_is : w.child (w.p c) true ≡ x = ((r.views id v here).entries (Frozen c true x) right).2 in
      let left_is : w.child (w.p c) false ≡ y = ((r.views id v here).entries (Frozen c false y) left).2 in
      by (leaf_side w c) (child ∙ l_is) right_is left_is
    where
      by : (b : Bool) → r.words.child (r.words.p c) b ≡ l → r.words.child (r.words.p c) true ≡ x → r.words.child (r.words.p c) false ≡ y
          → (l ≡ x) ⊎ (l ≡ y)
      by true is right_is left_is = inl (sym is ∙ right_is)
      by false is right_is left_is = inr (sym is ∙ left_is)

pub passes_name_met : PassesNameMet
passes_name_met plan s h seat v at =
    let r = reached_kept plan s h in
    let names = passes_name plan s h seat v at in
    let met = searches_are_met plan s h seat v at in (
      record {
        root = names.root;
        node = met.node;
        parent = λ seen e. (met.parent seen e).met;
        grandparent = λ seen e. (met.grandparent seen e).met;
        entries = λ e told. entry_of v e (names.entries e told);
        glances = names.glances;
        leaf = λ c x has told. leaf_met plan s r seat v at c x (names.leaf c has) told;
      },
      leaf_is_child plan s r seat v at,
    )
