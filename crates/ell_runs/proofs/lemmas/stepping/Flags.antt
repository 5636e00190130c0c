use Rattle.std.proofs.Common.{◌≡◌, ◌%◌, ◌==◌, ℕ, Bool, true, false, ◌∷◌, [], set, if◌then◌else◌, Some, None, refl, sym, ap, ◌∙◌, inl, inr, ne_eqb, true≢false, subst}
use Rattle.std.proofs.lemmas.Bool.{cases_eq}
use mathlib.Core.Option.{some}
use lib.ListN.{get_elem?}
use Rattle.ell_word.specs.Node.{card}
use Rattle.ell_word.specs.Word.{packed, unpacked}
use Rattle.ell_word.specs.declared.update.Update.{Update}
use Rattle.ell_core.specs.declared.exchange.Exchange.{Exchange}
use Rattle.ell_core.specs.declared.exchange.Exchange.TheVariants as exchange
use Rattle.ell_core.specs.declared.event.Act.{Act}
use Rattle.ell_core.specs.declared.event.Act.TheVariants as act
use Rattle.ell_core.specs.declared.event.Stepped.TheVariants.{Won, Lost}
use Rattle.ell_core.specs.declared.fact.Fact.{Fact}
use Rattle.ell_core.specs.declared.fact.Fact.TheVariants.{IFlagged, DFlagged}
use Rattle.ell_layout.specs.declared.field.Field.TheVariants as field
use Rattle.ell_core.specs.declared.view.Seen.{Seen}
use Rattle.ell_layout.specs.Words.{table_written}
use Rattle.ell_core.specs.state.Machine.{Worker, worker_of}
use Rattle.ell_layout.specs.Cards.{iflag, dflag}
use Rattle.ell_core.specs.acts.Exchanges.{won_or_lost, flagged_worker, flags, exchanged_update}
use Rattle.ell_core.specs.acts.Events.{Happens}
use Rattle.ell_core.specs.acts.Wins.{wins_by, win_for}
use Rattle.ell_core.specs.statements.StepLaws.{IsReadable}
use Rattle.ell_core.proofs.lemmas.outcomes.Decide.{some_not_none}
use Rattle.ell_runs.specs.Plans.{TablePlan}
use Rattle.ell_runs.specs.declared.call.Call.TheVariants as call
use Rattle.ell_runs.specs.declared.view.Told.{Told}
use Rattle.ell_runs.specs.declared.view.View.{View}
use Rattle.ell_runs.specs.Views.{IsTold}
use Rattle.ell_runs.specs.Changes.{after_flag, if_won, exchanged}
use Rattle.ell_runs.specs.Guards.{MayFill, IsFilled, MayIFlag, MayDFlag}
use Rattle.ell_runs.specs.States.{TableState}
use Rattle.ell_runs.specs.Machines.{EntryHolds, HasMachine}
use Rattle.ell_runs.specs.Laws.{IsEvent}
use Rattle.ell_core.proofs.lemmas.stages.Waiting.{born-settled}
use Rattle.ell_runs.proofs.lemmas.views.Facts.{knows_more, facts_by_more}
use Rattle.ell_runs.proofs.lemmas.seats.Entries.{facts_known}
use Rattle.ell_runs.proofs.lemmas.seats.Seats.{mine, becomes, mine_is, relies}
use Rattle.ell_runs.proofs.lemmas.seats.Frames.{Onward, IsReached, waits_on, is_event}
use Rattle.ell_runs.proofs.lemmas.stepping.Looks.{update_listed, found_entries, names_card}
use Rattle.ell_runs.proofs.lemmas.stepping.Exchanges.{in_list, found_at, exchanged_words, Settles, exchange_leads, update_exchanged, update_says}
use Rattle.ell_runs.proofs.lemmas.words.Addresses.{update_address}

-- the machine's worker after a flag exchange that found n
flagging_worker : (v : View) (new : Fact) (x n : ℕ) (b : Bool)
    → worker_of (after_flag b new x (unpacked n) v).worker ≡ flagged_worker (worker_of v.worker) b new n
flagging_worker v new x n true = refl
flagging_worker v new x n false = λ t. record (worker_of v.worker) {
  search = record (v.worker.search) { node = None; read = None };
  card = None;
  flagged = false;
  knows = facts_known (unpacked n).state (unpacked n).card v.worker.knows t;
}

module _ (plan : TablePlan) (s : TableState) (r : HasMachine plan s) (id : ℕ) (v : View) (here : get_elem? s.views id ≡ some v) where
  -- the view after a flag exchange at node x from a word
  abbrev flag_view : Fact → Exchange → ℕ → ℕ → Bool → View
  flag_view new k c x b = let n = found_at plan s r id v here (card x) field.Update in exchanged (if_won b k c) n (after_flag b new x (unpacked n) v)

  -- what is so of it
  flag_on : (new : Fact) (k : Exchange) (c x : ℕ) (b : Bool) → Onward r.words r.stages v (flag_view new k c x b)
  flag_on new k c x true = record {
    here = λ y key a e. absurd (some_not_none e refl);
    hand = λ d has un. absurd (true≢false un);
    owns = λ key h. h;
    list = refl;
    read = λ m at. at;
    least = refl;
    before = (r.views id v here).knew;
    knew = λ f g. knows_more new f v.worker.knows ((r.views id v here).knew f g);
    walk = λ op y busy at. absurd (some_not_none at refl);
  }
  flag_on new k c x false =
      let u = unpacked (found_at plan s r id v here (card x) field.Update) in record {
        here = λ y key a e. absurd (some_not_none e refl);
        hand = λ d has un. absurd (some_not_none has refl);
        owns = λ key h. h;
        list = refl;
        read = λ m at. at;
        least = refl;
        before = (r.views id v here).knew;
        knew = λ f g. facts_by_more u.state u.card v.worker.knows f ((r.views id v here).knew f g);
        walk = λ op y busy at. absurd (some_not_none at refl);
      }

  flag_entries : (new : Fact) (k : Exchange) (c x : ℕ) → IsReadable r.words r.stages x → (b : Bool) (e : Told) → IsTold (flag_view new k c x b) e → EntryHolds r.words r.stages e
  flag_entries new k c x reads true = (r.views id v here).entries
  flag_entries new k c x reads false = found_entries plan s r id v here x (found_at plan s r id v here (card x) field.Update) v.told reads
      (update_listed plan s r id v here x reads.inner reads.born) (r.views id v here).entries

  -- the scene after it
  flag_scene : (new : Fact) (k : Exchange) (c x update value : ℕ) (seen : Seen) → seen.node ≡ x → seen.word ≡ update → IsReadable r.words r.stages x →
      becomes plan s r id v here (exchanged_words plan s r id v here (card x) field.Update value (found_at plan s r id v here (card x) field.Update == update))
      (flag_view new k c x (found_at plan s r id v here (card x) field.Update == update))
      ≡ flags (mine plan s r id v here) seen value new
  flag_scene new k c x update value seen node word reads =
      let w = r.words in
      let n = found_at plan s r id v here (card x) field.Update in
      let is = update_listed plan s r id v here x reads.inner reads.born in λ t. record {
        words = (update_exchanged w x x update value n refl reads.inner is
            ∙ λ i. exchanged_update w (sym node i) (sym word i) value) t;
        worker = (flagging_worker v new x n (n == update) ∙ (ap (λ m. flagged_worker (worker_of v.worker) (m == update) new m) (sym is)
            ∙ λ i. flagged_worker (worker_of v.worker) (w.update (sym node i) == sym word i) new (w.update (sym node i)))) t;
      }

  -- a flag exchange of the card in hand, which is filled: a win takes that card out of waiting alone
  flag_leads : (a : Act) (x update value c : ℕ) (new : Fact) (k : Exchange) → IsReadable r.words r.stages x → MayFill v c → IsFilled v
      → ((d : ℕ) → wins_by a v.worker.card Won d ≡ win_for v.worker.card k d) → ((d : ℕ) → wins_by a v.worker.card Lost d ≡ [])
      → Happens plan.last_card a (mine plan s r id v here) (won_or_lost (found_at plan s r id v here (card x) field.Update == update))
      (becomes plan s r id v here (exchanged_words plan s r id v here (card x) field.Update value (found_at plan s r id v here (card x) field.Update == update))
      (flag_view new k c x (found_at plan s r id v here (card x) field.Update == update)))
      → IsReached plan s r id v here
      (set s.words (update_address x) (if found_at plan s r id v here (card x) field.Update == update then value else found_at plan s r id v here (card x) field.Update))
      (exchanged_words plan s r id v here (card x) field.Update value (found_at plan s r id v here (card x) field.Update == update))
      (flag_view new k c x (found_at plan s r id v here (card x) field.Update == update)) a
      (won_or_lost (found_at plan s r id v here (card x) field.Update == update))
  flag_leads a x update value c new k reads may filled wins none happens =
      exchange_leads plan s r id v here a (card x) field.Update update value (flag_view new k c x)
      (in_list plan s r id v here x field.Update reads.born) (born-settled (r.stages (card x)) (x % 4) reads.born)
      happens settles none (flag_entries new k c x reads) (flag_on new k c x)
    where
      settles : Settles plan s r id v here a (table_written r.words (card x) field.Update value) (flag_view new k c x true)
      settles stages led d f wait still = elim (cases_eq d c) [
        | inl e ↦ (let held = (r.views id v here).hand d (may.holds ∙ ap Some (sym e)) may.unflagged in
            held.table f ∙ (filled f ∙ sym (held.machine f)))
        | inr m ↦ absurd (true≢false (sym (waits_on plan s r id v here a Won (table_written r.words (card x) field.Update value) (flag_view new k c x true) stages led d
            (wins d ∙ (ap (λ o. win_for o k d) may.holds ∙ ap (λ (b : Bool). if b then k ∷ [] else []) (ne_eqb d c m))) wait) ∙ still))
      ]

  -- iflag
  pub keeps_iflag : (c p : ℕ) (from : Update) → MayIFlag v c p from → IsEvent plan s r id v (call.IFlag c p from)
  keeps_iflag c p from may =
      let n = found_at plan s r id v here (card p) field.Update in
      let same = mine_is plan s r id v here in
      let seen = may.parent in
      let reads : IsReadable r.words r.stages p = subst (IsReadable r.words r.stages) may.node
      ((relies plan s r id v here).parent may.leaf seen (ap (λ (z : Worker). z.search.node) same ∙ may.stands)
      (ap (λ (z : Worker). z.search.parent) same ∙ may.behind)).node in
      let is = update_listed plan s r id v here p reads.inner reads.born in
      is_event plan s r id v here (call.IFlag c p from) act.IFlag _ _
      (flag_leads act.IFlag p (packed from) (iflag c) c (IFlagged c) exchange.IFlag reads may.may may.filled (λ d. refl) (λ d. refl) (record {
        owned = λ h. h;
        row = record {
          op = may.op;
          what = may.what;
          card = c;
          parent = seen;
          busy = may.busy;
          puts = may.puts;
          holds = may.may.holds;
          unflagged = may.may.unflagged;
          behind = may.behind;
          says = update_says r.words p p (packed from) (iflag c) n refl reads.inner is
              ∙ λ i. won_or_lost (r.words.update (sym may.node i) == sym may.read i);
          gives = flag_scene (IFlagged c) exchange.IFlag c p (packed from) (iflag c) seen may.node may.read reads;
        };
        room = λ h. h;
      }))
      refl refl (names_card plan s r id v here p n reads is)

  -- dflag
  pub keeps_dflag : (c gp : ℕ) (from : Update) → MayDFlag v c gp from → IsEvent plan s r id v (call.DFlag c gp from)
  keeps_dflag c gp from may =
      let n = found_at plan s r id v here (card gp) field.Update in
      let same = mine_is plan s r id v here in
      let seen = may.grandparent in
      let reads : IsReadable r.words r.stages gp = subst (IsReadable r.words r.stages) may.node
      ((relies plan s r id v here).grandparent may.leaf may.parent seen (ap (λ (z : Worker). z.search.node) same ∙ may.stands)
      (ap (λ (z : Worker). z.search.parent) same ∙ may.behind) (ap (λ (z : Worker). z.search.grandparent) same ∙ may.above)).node in
      let is = update_listed plan s r id v here gp reads.inner reads.born in
      is_event plan s r id v here (call.DFlag c gp from) act.DFlag _ _
      (flag_leads act.DFlag gp (packed from) (dflag c) c (DFlagged c) exchange.DFlag reads may.may may.filled (λ d. refl) (λ d. refl) (record {
        owned = λ h. h;
        row = record {
          key = may.key;
          card = c;
          grandparent = seen;
          deletes = may.busy;
          holds = may.may.holds;
          unflagged = may.may.unflagged;
          above = may.above;
          says = update_says r.words gp gp (packed from) (dflag c) n refl reads.inner is
              ∙ λ i. won_or_lost (r.words.update (sym may.node i) == sym may.read i);
          gives = flag_scene (DFlagged c) exchange.DFlag c gp (packed from) (dflag c) seen may.node may.read reads;
        };
        room = λ h. h;
      }))
      refl refl (names_card plan s r id v here gp n reads is)
