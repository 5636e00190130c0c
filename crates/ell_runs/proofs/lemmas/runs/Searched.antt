use Rattle.std.proofs.Common.{suc, ◌%◌, ◌≡◌, ℕ, ◌<◌, ◌≤◌, ◌==◌, if◌then◌else◌, Bool, true, false, nat_le, Option, Some, None, List, [], ◌∷◌, inl, inr, ◌⊎◌, refl, sym, ap, ◌∙◌, subst}
use Rattle.std.proofs.lemmas.Option.{same_Some}
use mathlib.Core.Option.{some, some-injective}
use lib.ListN.{get_elem?}
use Rattle.ell_ops.specs.declared.op.Op.{Op}
use Rattle.ell_ops.specs.declared.reply.Reply.{Reply}
use Rattle.ell_ops.specs.Meaning.{greatest_key, key_of}
use Rattle.ell_word.specs.declared.link.Link.{Link}
use Rattle.ell_word.specs.Link.{link_in}
use Rattle.ell_word.specs.Node.{IsInternal, card}
use Rattle.ell_word.specs.Word.{packed, unpacked}
use Rattle.ell_word.specs.declared.update.Update.{Update}
use Rattle.ell_core.specs.declared.fact.Fact.{Fact}
use Rattle.ell_core.specs.declared.fact.Fact.TheVariants as fact
use Rattle.ell_layout.specs.Words.{Words, IsLeaf}
use Rattle.ell_layout.specs.Cards.{child_for, is_right}
use Rattle.ell_core.specs.tree.Tree.{OnWalk, here, IsTreeKey}
use Rattle.ell_core.specs.history.Stages.{Stages, Born}
use Rattle.ell_core.specs.history.Invariant.{Invariant, WordsAreSound}
use Rattle.ell_core.proofs.lemmas.outcomes.Decide.{some_not_none}
use Rattle.ell_core.specs.tree.Flat.{IsInBlock}
use Rattle.ell_core.proofs.lemmas.tree.Blocks.{in_block-leaf, in_block-or_not}
use Rattle.ell_core.proofs.lemmas.tree.Reached.{OnWalk-below, tree_key_leads}
use Rattle.ell_core.proofs.lemmas.stages.Order.{born-claimed}
use Rattle.ell_core.proofs.lemmas.stages.LaterKeys.{root_born, block_before, block_later}
use Rattle.ell_core.proofs.lemmas.runs.Looks.{AreMet, walk_met, walk_born, walk_ends}
use Rattle.ell_runs.specs.Plans.{TablePlan}
use Rattle.ell_runs.specs.declared.call.Call.{Call}
use Rattle.ell_runs.specs.declared.call.Call.TheVariants as call
use Rattle.ell_runs.specs.declared.call.NewNode.{NewNode}
use Rattle.ell_runs.specs.declared.view.Told.{Told}
use Rattle.ell_runs.specs.declared.view.Told.TheVariants.{Value}
use Rattle.ell_runs.specs.declared.view.View.{View}
use Rattle.ell_runs.specs.Changes.{after_claim, after_flag, after_mark, is_mark_of, with_fact, unmarking}
use Rattle.ell_runs.specs.Views.{IsTold, Does, StandsAt}
use Rattle.ell_runs.specs.Guards.{MayGoDown, TellsOf, KnowsAnswerAtLeaf}
use Rattle.ell_runs.specs.Calls.{May}
use Rattle.ell_runs.specs.States.{TableState}
use Rattle.ell_runs.specs.Machines.{EntryHolds, HasMachine}
use Rattle.ell_runs.specs.Laws.{machine_of_table}
use Rattle.ell_runs.specs.TurnEffects.{own_words}
use Rattle.ell_runs.specs.Turns.{Turn, Makes, Splits, Joins, CallIsMade, TableTurns, TableRun, found_by, view_after}
use Rattle.ell_runs.specs.Looking.{HasThere, WasSo}
use Rattle.ell_runs.specs.Meanwhile.{KeepsOn, KeepOn}
use Rattle.ell_runs.specs.Changing.{SaysWhatWas}
use Rattle.ell_runs.proofs.lemmas.own_words.OwnTree.{same_keys}
use Rattle.ell_runs.proofs.lemmas.own_words.OwnWords.{own_pairs}
use Rattle.ell_runs.proofs.lemmas.seats.Seats.{set_there, relied_born}
use Rattle.ell_runs.proofs.lemmas.runs.OwnSeat.{Only, SeatGoesOn, turn_seat}
use Rattle.ell_runs.proofs.lemmas.stepping.Looks.{child_read, here_key}
use Rattle.ell_runs.proofs.lemmas.runs.TurnsOfRuns.{turn_lawful}
use Rattle.ell_runs.proofs.lemmas.runs.Walked.{child_lacks, gone_by, key_in_block, WasOn, was_first, was_later}
use Rattle.ell_runs.proofs.lemmas.runs.GoingOn.{run_goes}

-- a search for an operation stands after a call where it stood, if it is still that operation's, and stands anywhere
abbrev Stays : View → View → Type 0
Stays v w = (op : Op) (x : ℕ) → Does w op → StandsAt w x → Does v op × StandsAt v x

claim_stays : (b : Bool) (c : ℕ) (q : NewNode) (v : View) → Stays v (after_claim b c q v)
claim_stays true c q v op x does stands = (does, stands)
claim_stays false c q v op x does stands = (does, stands)

flag_stays : (b : Bool) (new : Fact) (y : ℕ) (u : Update) (v w : View) → w.worker ≡ (after_flag b new y u v).worker → Stays v w
flag_stays true new y u v w same op x does stands = absurd (some_not_none stands (ap (λ k. k.search.node) same))
flag_stays false new y u v w same op x does stands = absurd (some_not_none stands (ap (λ k. k.search.node) same))

mark_stays : (b : Bool) (c y : ℕ) (u : Update) (v w : View) → w.worker ≡ (after_mark b c y u v).worker → Stays v w
mark_stays true c y u v w same op x does stands = (sym (ap (λ k. k.operation) same) ∙ does, sym (ap (λ k. k.search.node) same) ∙ stands)
mark_stays false c y u v w same op x does stands = by (is_mark_of c u.state u.card) same
  where
    by : (b : Bool) → w.worker ≡ (if b then with_fact (fact.Marked c) v else unmarking c y u v).worker → Does v op × StandsAt v x
    by true same = (sym (ap (λ k. k.operation) same) ∙ does, sym (ap (λ k. k.search.node) same) ∙ stands)
    by false same = (sym (ap (λ k. k.operation) same) ∙ does, sym (ap (λ k. k.search.node) same) ∙ stands)

pub first_keeps : (seat : ℕ) (t : Turn) (ts : List Turn) → KeepOn seat (t ∷ ts) → Only KeepsOn seat t × KeepOn seat ts
first_keeps seat (Makes other c) ts h = h
first_keeps seat (Splits other left) ts h = h
first_keeps seat (Joins one other) ts h = ((h.0, h.1), h.2)

-- a search that has come by a node whose block lacks its key, as it came, stands at a node whose block lacks it; so the tree lacked the key
pub record Missed (w : Words) (stage : Stages) (key : ℕ) (absent : Type 0) (x : ℕ) : Type 0 where
  pub born : Born stage x
  pub lacks : ¬ IsInBlock w x key
  pub gone : absent

-- one step further down it does too
missed_down : (w : Words) (stage : Stages) → WordsAreSound w stage → (key : ℕ) (absent : Type 0) (x : ℕ) (right : Bool) → IsInternal x → Missed w stage key absent x
    → Missed w stage key absent (w.child x right)
missed_down w stage sound key absent x right inner missed = record {
  born = (sound.children x inner missed.born).born right;
  lacks = child_lacks w stage sound x key right inner missed.born missed.lacks;
  gone = missed.gone;
}

module _ (plan : TablePlan) (seat key : ℕ) (real : key ≤ greatest_key) (asked : Op) (for_key : key_of asked ≡ key) where
  -- nodes that were met, in a state that has a machine; the operation of the pass in the seat, if any, is this one, and its search stands at
  -- one of them, if anywhere, or at a node whose block lacks the key, which the tree lacked
  pub record Searches (s : TableState) (met : ℕ → Type 0) (absent : Type 0) : Type 0 where
    pub kept : HasMachine plan s
    pub stages : Stages
    pub holds : Invariant (machine_of_table plan s kept) stages
    pub are : AreMet kept.words stages key met
    pub view : View
    pub there : get_elem? s.views seat ≡ some view
    pub same : (op : Op) → Does view op → op ≡ asked
    pub miss : (x : ℕ) → met x → IsInternal x → ¬ IsInBlock kept.words x key → absent
    pub was : (op : Op) (x : ℕ) → Does view op → StandsAt view x → met x ⊎ Missed kept.words stages key absent x

  -- the same of a view after a call, or the search begins anew
  record Goes (met : ℕ → Type 0) (v : View) : Type 0 where
    same : (op : Op) → Does v op → op ≡ asked
    was : (op : Op) (x : ℕ) → Does v op → StandsAt v x → met x ⊎ (x ≡ 0)

  module _ (s : TableState) (met : ℕ → Type 0) (absent : Type 0) (at : Searches s met absent) where
    -- a node that was met, or that lacks the key
    abbrev stood : ℕ → Type 0
    stood x = met x ⊎ Missed at.kept.words at.stages key absent x

    -- below it is such a node too
    stood_down : (x : ℕ) → IsInternal x → stood x → stood (child_for at.kept.words key x)
    stood_down x inner (inr missed) = inr (missed_down at.kept.words at.stages at.holds.words key absent x (is_right at.kept.words x key) inner missed)
    stood_down x inner (inl was) = elim (in_block-or_not at.kept.words x key) [
      | inl there ↦ inl (at.are.child x was inner there)
      | inr lacks ↦ inr (missed_down at.kept.words at.stages at.holds.words key absent x (is_right at.kept.words x key) inner
          (record { born = at.are.born x was; lacks = lacks; gone = at.miss x was inner lacks }))
    ]

    stays : (v : View) → ((op : Op) → Does v op → Does at.view op) → Stays at.view v → Goes stood v
    stays v does h = record {
      same = λ op d. at.same op (does op d);
      was = λ op x d e. (let k = h op x d e in inl (at.was op x k.0 k.1));
    }

    ends : (v : View) → v.worker.operation ≡ None → Goes stood v
    ends v none = record {
      same = λ op d. absurd (some_not_none d none);
      was = λ op x d e. absurd (some_not_none d none);
    }

    goes_down : (x : ℕ) (right : Bool) → MayGoDown at.view x right → Goes stood (view_after s at.view (call.Down x right))
    goes_down x right may = record {
      same = at.same;
      was = λ op y does stands.
          let n = (link_in (found_by s (call.Down x right))).node in
          let h = at.kept.views seat at.view at.there in
          let child : n ≡ y = same_Some n y stands in
          let is_key : key_of may.op ≡ key = ap key_of (at.same may.op may.busy) ∙ for_key in
          let born = relied_born plan s at.kept seat at.view at.there seat at.view at.there x may.stands in
          let has : at.kept.words.key x ≡ may.key = here_key plan s at.kept seat at.view at.there x may.key may.stands may.told in
          let side : right ≡ nat_le (at.kept.words.key x) key = may.side ∙ (ap (λ k. nat_le may.key k) is_key ∙ ap (λ k. nat_le k key) (sym has)) in
          let is : child_for at.kept.words key x ≡ n =
          ap (at.kept.words.child x) (sym side) ∙ sym (ap (λ (k : Link). k.node) (child_read plan s at.kept seat at.view at.there x right may.inner born)) in
          inl (subst stood (is ∙ child) (stood_down x may.inner (at.was may.op x may.busy may.stands)));
    }

    anew : (v : View) → ((op : Op) → Does v op → Does at.view op) → v.worker.search.node ≡ Some 0 → Goes stood v
    anew v does root = record {
      same = λ op d. at.same op (does op d);
      was = λ op x d e. inr (same_Some x 0 (sym e ∙ root));
    }

    goes_by : (c : Call) → KeepsOn c → May plan c at.view → Goes stood (view_after s at.view c)
    goes_by (call.Begin op) keeps may = absurd keeps
    goes_by call.Again keeps may = anew _ (λ op d. d) refl
    goes_by call.Leave keeps may = ends _ refl
    goes_by (call.Answer said took) keeps may = ends _ refl
    goes_by call.Rest keeps may = ends _ refl
    goes_by (call.Down x right) keeps may = goes_down x right may
    goes_by (call.Claim c q) keeps may = by (found_by s (call.Claim c q) == c)
      where
        by : (b : Bool) → Goes stood (after_claim b c q at.view)
        by true = stays _ (λ op d. d) (claim_stays true c q at.view)
        by false = stays _ (λ op d. d) (claim_stays false c q at.view)
    goes_by (call.IFlag c p from) keeps may = flags (found_by s (call.IFlag c p from) == packed from) (fact.IFlagged c) p (unpacked (found_by s (call.IFlag c p from))) _ refl
      where
        flags : (b : Bool) (new : Fact) (y : ℕ) (u : Update) (w : View) → w.worker ≡ (after_flag b new y u at.view).worker → Goes stood w
        flags true new y u w same = stays w (λ op d. sym (ap (λ k. k.operation) same) ∙ d) (flag_stays true new y u at.view w same)
        flags false new y u w same = stays w (λ op d. sym (ap (λ k. k.operation) same) ∙ d) (flag_stays false new y u at.view w same)
    goes_by (call.DFlag c gp from) keeps may = flags (found_by s (call.DFlag c gp from) == packed from) (fact.DFlagged c) gp (unpacked (found_by s (call.DFlag c gp from))) _ refl
      where
        flags : (b : Bool) (new : Fact) (y : ℕ) (u : Update) (w : View) → w.worker ≡ (after_flag b new y u at.view).worker → Goes stood w
        flags true new y u w same = stays w (λ op d. sym (ap (λ k. k.operation) same) ∙ d) (flag_stays true new y u at.view w same)
        flags false new y u w same = stays w (λ op d. sym (ap (λ k. k.operation) same) ∙ d) (flag_stays false new y u at.view w same)
    goes_by (call.Mark c p old) keeps may = marks (found_by s (call.Mark c p old) == old) (unpacked (found_by s (call.Mark c p old))) _ refl
      where
        marks : (b : Bool) (u : Update) (w : View) → w.worker ≡ (after_mark b c p u at.view).worker → Goes stood w
        marks true u w same = stays w (λ op d. sym (ap (λ k. k.operation) same) ∙ d) (mark_stays true c p u at.view w same)
        marks false u w same = by (is_mark_of c u.state u.card) same
          where
            by : (b : Bool) → w.worker ≡ (if b then with_fact (fact.Marked c) at.view else unmarking c p u at.view).worker → Goes stood w
            by true same = stays w (λ op d. sym (ap (λ k. k.operation) same) ∙ d)
                (λ op x d e. (sym (ap (λ k. k.operation) same) ∙ d, sym (ap (λ k. k.search.node) same) ∙ e))
            by false same = stays w (λ op d. sym (ap (λ k. k.operation) same) ∙ d)
                (λ op x d e. (sym (ap (λ k. k.operation) same) ∙ d, sym (ap (λ k. k.search.node) same) ∙ e))
    goes_by call.Look keeps may = stays _ (λ op d. d) (λ op x d e. (d, e))
    goes_by (call.LookDown from k right) keeps may = stays _ (λ op d. d) (λ op x d e. (d, e))
    goes_by (call.Upd x) keeps may = stays _ (λ op d. d) (λ op x d e. (d, e))
    goes_by call.Next keeps may = stays _ (λ op d. d) (λ op x d e. (d, e))
    goes_by (call.KeyOf x) keeps may = stays _ (λ op d. d) (λ op x d e. (d, e))
    goes_by (call.ValueOf x) keeps may = stays _ (λ op d. d) (λ op x d e. (d, e))
    goes_by (call.Info c f) keeps may = stays _ (λ op d. d) (λ op x d e. (d, e))
    goes_by (call.FrozenChild c p right) keeps may = stays _ (λ op d. d) (λ op x d e. (d, e))
    goes_by (call.Fill c f value) keeps may = stays _ (λ op d. d) (λ op x d e. (d, e))
    goes_by (call.IChild c p l replaces right) keeps may = stays _ (λ op d. d) (λ op x d e. (d, e))
    goes_by (call.IUnflag c p) keeps may = stays _ (λ op d. d) (λ op x d e. (d, e))
    goes_by (call.DChild c gp p y right) keeps may = stays _ (λ op d. d) (λ op x d e. (d, e))
    goes_by (call.DUnflag c gp) keeps may = stays _ (λ op d. d) (λ op x d e. (d, e))
    goes_by (call.Backtrack c gp) keeps may = stays _ (λ op d. d) (λ op x d e. (d, e))

    -- where the search is after a turn that begins no operation of its pass
    seat_goes : (t : Turn) (s' : TableState) (goes : SeatGoesOn KeepsOn plan s seat at.view t s') → Goes stood goes.view
    seat_goes t s' goes = elim goes.made [
      | inl same ↦ subst (Goes stood) (sym same) (stays at.view (λ op d. d) (λ op x d e. (d, e)))
      | inr c ↦ subst (Goes stood) (sym c.3) (goes_by c.0 c.1 c.2)
    ]

    turn_goes : (t : Turn) (s' : TableState) → TableTurns plan s t s' → Only KeepsOn seat t
        → (kept : HasMachine plan s') × Searches s' (λ x. met x ⊎ OnWalk kept.words key 0 x) (absent ⊎ ¬ IsTreeKey (own_words s') key)
    turn_goes t s' h on =
        let gone = gone_by plan key real s met at.kept at.stages at.holds at.are t s' h in
        let goes = turn_seat KeepsOn plan s seat at.view at.there t s' h on in
        let search = seat_goes t s' goes in (
          gone.0,
          record {
            kept = gone.0;
            stages = gone.1.stages;
            holds = gone.1.holds;
            are = gone.1.are;
            miss = λ x h inner lacks. elim h [
              | inl was ↦ inl (at.miss x was inner (λ there. lacks (block_later at.kept.words gone.0.words at.stages at.holds.words gone.1.words x x key key refl refl (at.are.born x was) there)))
              | inr on ↦ inr (λ there. lacks (key_in_block gone.0.words gone.1.stages gone.1.holds.words x key inner on
                  ((same_keys (own_words s') gone.0.words (own_pairs plan s' gone.0) key).1 there)))
            ];
            view = goes.view;
            there = goes.there;
            same = search.same;
            was = λ op x does stands. elim (search.was op x does stands) [
              | inl (inl met) ↦ inl (inl met)
              | inl (inr missed) ↦ inr (record {
                born = gone.1.born x missed.born;
                lacks = λ there. missed.lacks (block_before at.kept.words gone.0.words at.stages at.holds.words gone.1.words x x key key refl refl missed.born there);
                gone = inl missed.gone;
              })
              | inr root ↦ inl (inr (here root))
            ];
          },
        )

  -- in a state of a run the tree lacked the key
  abbrev WasAbsent : TableState → List Turn → TableState → Type 0
  WasAbsent s turns s' = WasSo plan s turns s' (HasThere key None)

  absent_first : (s : TableState) (turns : List Turn) (s' : TableState) → TableRun plan s turns s' → ¬ IsTreeKey (own_words s) key → WasAbsent s turns s'
  unfolding HasThere
  absent_first s turns s' run none = record { state = s; amid = record { first = 0; before = refl; after = run }; so = none }

  absent_later : (s between : TableState) (t : Turn) (turns : List Turn) (s' : TableState) → TableTurns plan s t between → WasAbsent between turns s' → WasAbsent s (t ∷ turns) s'
  absent_later s between t turns s' turn was = record {
    state = was.state;
    amid = record { first = suc was.amid.first; before = (between, turn, was.amid.before); after = was.amid.after };
    so = was.so;
  }

  -- the block of a node lacks the key
  pub record LacksKey (s : TableState) (x : ℕ) : Type 0 where
    pub kept : HasMachine plan s
    pub lacks : ¬ IsInBlock kept.words x key

  -- where the search of the pass has come to
  pub record Comes (s : TableState) (turns : List Turn) (s' : TableState) (met : ℕ → Type 0) (absent : Type 0) (v : View) : Type 0 where
    pub same : (op : Op) → Does v op → op ≡ asked
    pub was : (op : Op) (x : ℕ) → Does v op → StandsAt v x
        → (met x ⊎ WasOn plan seat key real s turns s' x) ⊎ ((absent ⊎ WasAbsent s turns s') × LacksKey s' x)

  pub run_comes : (s : TableState) (met : ℕ → Type 0) (absent : Type 0) → Searches s met absent → (turns : List Turn) (s' : TableState) → TableRun plan s turns s' → KeepOn seat turns
      → (v : View) → get_elem? s'.views seat ≡ some v → Comes s turns s' met absent v
  run_comes s met absent at [] s' run on v there =
      let same : at.view ≡ v = some-injective at.view v (sym at.there ∙ (ap (λ (t : TableState). get_elem? t.views seat) (sym run) ∙ there)) in
      subst (Comes s [] s' met absent) same (record {
        same = at.same;
        was = λ op x d e. elim (at.was op x d e) [
          | inl met ↦ inl (inl met)
          | inr missed ↦ inr (inl missed.gone, subst (λ t. LacksKey t x) (sym run) (record { kept = at.kept; lacks = missed.lacks }))
        ];
      })
  run_comes s met absent at (t ∷ ts) s' run on v there =
      let keeps = first_keeps seat t ts on in
      let one = turn_goes s met absent at t run.0 run.1 keeps.0 in
      let rest = run_comes run.0 (λ x. met x ⊎ OnWalk one.0.words key 0 x) (absent ⊎ ¬ IsTreeKey (own_words run.0) key) one.1 ts s' run.2 keeps.1 v there in
      record {
        same = rest.same;
        was = λ op x d e. elim (rest.was op x d e) [
          | inl (inl (inl met)) ↦ inl (inl met)
          | inl (inl (inr walk)) ↦ inl (inr (was_later plan seat key real s run.0 t ts s' x run.1 (was_first plan seat key real run.0 ts s' x run.2 one.0 walk)))
          | inl (inr later) ↦ inl (inr (was_later plan seat key real s run.0 t ts s' x run.1 later))
          | inr missed ↦ inr (
            elim missed.0 [
              | inl (inl gone) ↦ inl gone
              | inl (inr none) ↦ inr (absent_later s run.0 t ts s' run.1 (absent_first run.0 ts s' run.2 none))
              | inr later ↦ inr (absent_later s run.0 t ts s' run.1 later)
            ],
            missed.1,
          )
        ];
      }

  -- a search that begins stands at the root
  pub search_begins : (s : TableState) → (r : HasMachine plan s) → (s1 : TableState) → CallIsMade plan s seat (call.Begin asked) s1
      → (kept : HasMachine plan s1) × Searches s1 (OnWalk kept.words key 0) (¬ IsTreeKey (own_words s1) key)
  search_begins s r s1 h =
      let turn = turn_lawful plan s r (Makes seat (call.Begin asked)) s1 h in
      let kept = turn.0 in
      let now : get_elem? s1.views seat ≡ some (view_after s h.view (call.Begin asked)) =
      ap (λ (t : TableState). get_elem? t.views seat) h.gives ∙ set_there s.views seat (view_after s h.view (call.Begin asked)) h.view h.there in (
        kept,
        record {
          kept = kept;
          stages = kept.stages;
          holds = kept.invariant;
          are = walk_met kept.words kept.stages kept.invariant.words key real;
          miss = λ x on inner lacks there. lacks (key_in_block kept.words kept.stages kept.invariant.words x key inner on
              ((same_keys (own_words s1) kept.words (own_pairs plan s1 kept) key).1 there));
          view = view_after s h.view (call.Begin asked);
          there = now;
          same = λ o d. sym (same_Some asked o d);
          was = λ o x d e. inl (here (sym (same_Some 0 x e)));
        },
      )

  -- what the search found at a leaf was so in one state
  pub found_there : (s : TableState) (turns : List Turn) (s' : TableState) → (v : View) → get_elem? s'.views seat ≡ some v
      → (leaf has_key : ℕ) (there : Option ℕ) → IsLeaf leaf → StandsAt v leaf → v.here ≡ Some has_key → TellsOf v leaf has_key key there
      → WasOn plan seat key real s turns s' leaf → WasSo plan s turns s' (HasThere key there)
  unfolding HasThere
  found_there s turns s' v at leaf has_key there outer stands told tells was =
      let r = was.kept in
      let sound = r.invariant.words in
      let goes = run_goes plan was.state r r.stages r.invariant _ s' was.amid.after in
      let last = goes.0 in
      let born = walk_born r.words r.stages sound key (root_born r.words r.stages sound) was.on in
      let below : card leaf < r.words.next = (sound.cards (card leaf)).claimed.0 (born-claimed (r.stages (card leaf)) (leaf % 4) born) in
      let has : r.words.key leaf ≡ has_key =
      sym (goes.1.words.key leaf below) ∙ here_key plan s' last seat v at leaf has_key stands told in
      record { state = was.state; amid = was.amid; so = by there tells has last.words last.stages (goes.1.words.value leaf below) (last.views seat v at).entries }
    where
      by : (o : Option ℕ) → TellsOf v leaf has_key key o → was.kept.words.key leaf ≡ has_key → (w : Words) (stage : Stages)
          → w.value leaf ≡ was.kept.words.value leaf → ((e : Told) → IsTold v e → EntryHolds w stage e) → HasThere key o (own_words was.state)
      by None other has w stage same entries = λ there'. absurd (other (sym has ∙ walk_ends was.kept.words key was.on outer
          (tree_key_leads was.kept.words was.kept.invariant.words.tree.ordered key ((same_keys (own_words was.state) was.kept.words (own_pairs plan was.state was.kept) key).1 there'))))
      by (Some value) tells has w stage same entries = ((own_pairs plan was.state was.kept) key value).0 (record {
        leaf = leaf;
        reached = OnWalk-below was.kept.words key was.on;
        outer = outer;
        has = has ∙ tells.0;
        says = sym same ∙ (entries (Value leaf value) tells.1).1;
        real = real;
      })

  -- a leaf whose block lacks the key has another one
  not_there : (s : TableState) (turns : List Turn) (s' : TableState) → (v : View) → get_elem? s'.views seat ≡ some v
      → (leaf has_key : ℕ) (there : Option ℕ) → IsLeaf leaf → StandsAt v leaf → v.here ≡ Some has_key → TellsOf v leaf has_key key there
      → LacksKey s' leaf → WasAbsent s turns s' → WasSo plan s turns s' (HasThere key there)
  not_there s turns s' v at leaf has_key None outer stands told tells lacks none = none
  not_there s turns s' v at leaf has_key (Some value) outer stands told tells lacks none =
      absurd (lacks.lacks (in_block-leaf lacks.kept.words leaf key outer (here_key plan s' lacks.kept seat v at leaf has_key stands told ∙ tells.0)))

-- the operation that a pass has in hand is the one that it began
pub still_does : (plan : TablePlan) (s : TableState) → HasMachine plan s → (seat : ℕ) (op : Op) → key_of op ≤ greatest_key
    → (begun : TableState) → CallIsMade plan s seat (call.Begin op) begun → (turns : List Turn) (s' : TableState) → TableRun plan begun turns s'
    → KeepOn seat turns → (v : View) → get_elem? s'.views seat ≡ some v → (o : Op) → Does v o → o ≡ op
still_does plan s r seat op real begun begins turns s' run on v there =
    let first = search_begins plan seat (key_of op) real op refl s r begun begins in
    (run_comes plan seat (key_of op) real op refl begun (OnWalk first.0.words (key_of op) 0) (¬ IsTreeKey (own_words begun) (key_of op)) first.1 turns s' run on v there).same

-- an answer at the leaf where the search has come to is that on what was so in one state of the call
pub leaf_answers_of_one_state : (plan : TablePlan) (s : TableState) → HasMachine plan s → (seat : ℕ) (op : Op) → key_of op ≤ greatest_key
    → (begun : TableState) → CallIsMade plan s seat (call.Begin op) begun → (turns : List Turn) (s' : TableState) → TableRun plan begun turns s'
    → KeepOn seat turns → (v : View) → get_elem? s'.views seat ≡ some v → Does v op → (said : Reply) → KnowsAnswerAtLeaf v op said
    → SaysWhatWas plan op begun turns s' said
leaf_answers_of_one_state plan s r seat op real begun begins turns s' run on v there does said knows =
    let key = key_of op in
    let first = search_begins plan seat key real op refl s r begun begins in
    let comes = run_comes plan seat key real op refl begun (OnWalk first.0.words key 0) (¬ IsTreeKey (own_words begun) key) first.1 turns s' run on v there in
    let found = λ (was : WasOn plan seat key real begun turns s' knows.leaf). found_there plan seat key real op refl begun turns s' v there
    knows.leaf knows.key knows.there knows.outer knows.stands knows.told knows.tells was in
    record {
      there = knows.there;
      says = knows.says;
      so = elim (comes.was op knows.leaf does knows.stands) [
        | inl (inl on) ↦ found (was_first plan seat key real begun turns s' knows.leaf run first.0 on)
        | inl (inr was) ↦ found was
        | inr missed ↦ not_there plan seat key real op refl begun turns s' v there knows.leaf knows.key knows.there knows.outer knows.stands knows.told knows.tells
            missed.1 (elim missed.0 [ inl none ↦ absent_first plan seat key real op refl begun turns s' run none | inr later ↦ later ])
      ];
    }
