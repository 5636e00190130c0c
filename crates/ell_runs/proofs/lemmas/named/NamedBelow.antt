-- A pass that knows of no card but those below a number knows of no other after a call that names and finds none.
use Rattle.std.proofs.Common.{◌≡◌, ℕ, ◌<◌, ◌+◌, ◌==◌, ◌++◌, if◌then◌else◌, Bool, true, false, Option, Some, None, IfSome, List, [], ◌∷◌, unwrap_or, inl, inr, sym, subst, arith}
use Rattle.std.specs.List.{AllByRecursion}
use Rattle.ell_ops.specs.declared.op.Op.{Op}
use Rattle.ell_ops.specs.declared.op.Op.TheVariants.{Find, Insert, Delete, Swap}
use Rattle.ell_ops.specs.declared.reply.Reply.{Reply}
use Rattle.ell_word.specs.declared.update.State.{State}
use Rattle.ell_word.specs.declared.update.State.TheVariants as state
use Rattle.ell_word.specs.declared.update.Update.{Update}
use Rattle.ell_word.specs.Link.{linked, link_in}
use Rattle.ell_word.specs.Word.{packed, unpacked}
use Rattle.ell_layout.specs.declared.field.Field.{Field}
use Rattle.ell_layout.specs.declared.field.Field.TheVariants as field
use Rattle.ell_layout.specs.Cards.{iflag, dflag}
use Rattle.ell_core.specs.declared.exchange.Exchange.{Exchange}
use Rattle.ell_core.specs.declared.exchange.Exchange.TheVariants as exchange
use Rattle.ell_core.specs.declared.fact.Fact.{Fact}
use Rattle.ell_core.specs.declared.fact.Fact.TheVariants as fact
use Rattle.ell_core.specs.declared.view.Entry.{Entry}
use Rattle.ell_core.specs.declared.view.Seen.{Seen}
use Rattle.ell_core.specs.state.Facts.{card_of_fact}
use Rattle.ell_core.specs.state.Machine.{WorkerView}
use Rattle.ell_runs.specs.declared.call.Call.{Call}
use Rattle.ell_runs.specs.declared.call.Call.TheVariants as call
use Rattle.ell_runs.specs.declared.glance.Glance.{Glance}
use Rattle.ell_runs.specs.declared.view.Answered.{Answered}
use Rattle.ell_runs.specs.declared.view.Hindrance.{Hindrance}
use Rattle.ell_runs.specs.declared.view.Hindrance.TheVariants.{Found}
use Rattle.ell_runs.specs.declared.view.Told.{Told}
use Rattle.ell_runs.specs.declared.view.Told.TheVariants.{Met, Info}
use Rattle.ell_runs.specs.declared.view.View.{View}
use Rattle.ell_runs.specs.Calls.{May, after}
use Rattle.ell_runs.specs.Changes.{after_answer, after_begin, after_flag, after_mark, answered_ledger, answered_so, at_rest, counted, depth_there, exchanged, facts_by, first_in_way, forgotten, after_try, if_won, in_the_way, is_mark_of, is_this, places_by, read_in_way, told_info, unless_clean, unmarking, way_now, with_fact}
use Rattle.ell_runs.specs.Plans.{TablePlan}
use Rattle.ell_runs.specs.Views.{Has, latest, earlier, IsTold}
use Rattle.ell_runs.specs.Depths.{depth_told, met_at}
use Rattle.ell_runs.specs.NamedBelow.{NodeBelow, SeenBelow, ToldBelow, WordBelow, HindranceBelow, WorkerBelow, NumbersBelow, FindsBelow, NamesBelow}
use Rattle.ell_runs.proofs.lemmas.words.Updates.{card_again}

-- what is so of each entry of two lists is so of each of both in one
pub all_in_both : {A : Type 0} (P : A → Type 0) (xs ys : List A) → AllByRecursion P xs → AllByRecursion P ys → AllByRecursion P (xs ++ ys)
all_in_both P [] ys ps qs = qs
all_in_both P (x ∷ xs) ys ps qs = (ps.0, all_in_both P xs ys ps.1 qs)

module _ (n : ℕ) (some : 0 < n) where
  -- each of these facts is of a card below the number
  abbrev FactsBelow : List Fact → Type 0
  FactsBelow facts = AllByRecursion (λ f. card_of_fact f < n) facts

  -- what an update tells of its card, and of a node
  facts_below : (s : State) (c : ℕ) (facts : List Fact) → c < n → FactsBelow facts → FactsBelow (facts_by s c facts)
  facts_below state.IFlag c facts low all = (low, all)
  facts_below state.DFlag c facts low all = (low, all)
  facts_below state.Mark c facts low all = (low, all)
  facts_below state.Clean c facts low all = all

  places_below : (x : ℕ) (s : State) (c : ℕ) (told : List Told) → NodeBelow n x → c < n → AllByRecursion (ToldBelow n) told
      → AllByRecursion (ToldBelow n) (places_by x s c told)
  places_below x state.IFlag c told at low all = ((low, at), all)
  places_below x state.DFlag c told at low all = ((low, at), all)
  places_below x state.Mark c told at low all = ((low, at), all)
  places_below x state.Clean c told at low all = all

  -- an exchange that was won
  wins_below : (won : Bool) (k : Exchange) (c : ℕ) (wins : List (Exchange × ℕ)) → c < n → AllByRecursion (λ (e : Exchange × ℕ). e.1 < n) wins
      → AllByRecursion (λ (e : Exchange × ℕ). e.1 < n) (if_won won k c ++ wins)
  wins_below true k c wins low all = (low, all)
  wins_below false k c wins low all = all

  -- the root
  pub root_below : AllByRecursion (ToldBelow n) forgotten
  root_below = (omega (arith, some), tt)

  -- a node that was met
  met_below : (depth x : ℕ) (told : List Told) → NodeBelow n x → AllByRecursion (ToldBelow n) told → AllByRecursion (ToldBelow n) (met_at depth x told)
  met_below depth x told at all = (at, (at, all))

  -- what was in the way
  unless_below : (s : State) (c : ℕ) → c < n → AllByRecursion (HindranceBelow n) (unless_clean s c)
  unless_below state.Clean c low = tt
  unless_below state.IFlag c low = (low, tt)
  unless_below state.DFlag c low = (low, tt)
  unless_below state.Mark c low = (low, tt)

  read_below : (o : Option Seen) → IfSome o (SeenBelow n) → AllByRecursion (HindranceBelow n) (read_in_way o)
  read_below None low = tt
  read_below (Some seen) low = unless_below (unpacked seen.word).state (unpacked seen.word).card low.1

  first_below : (hs those : List Hindrance) → AllByRecursion (HindranceBelow n) hs → AllByRecursion (HindranceBelow n) those
      → AllByRecursion (HindranceBelow n) (first_in_way hs those)
  first_below [] those all alls = alls
  first_below (h ∷ hs) those all alls = all

  way_for : (op : Option Op) (node : Option ℕ) (parent above : Option Seen) → IfSome parent (SeenBelow n) → IfSome above (SeenBelow n)
      → AllByRecursion (HindranceBelow n) (in_the_way op node parent above)
  way_for (Some (Insert k value)) (Some x) parent above low high = read_below parent low
  way_for (Some (Swap k was value)) (Some x) parent above low high = read_below parent low
  way_for (Some (Delete k)) (Some x) parent above low high =
      first_below (read_in_way above) (read_in_way parent) (read_below above high) (read_below parent low)
  way_for (Some (Insert k value)) None parent above low high = tt
  way_for (Some (Swap k was value)) None parent above low high = tt
  way_for (Some (Delete k)) None parent above low high = tt
  way_for (Some (Find k)) at parent above low high = tt
  way_for None at parent above low high = tt

  -- what a search has read in the way
  way_below : (v : View) → NumbersBelow n v → AllByRecursion (HindranceBelow n) (way_now v)
  way_below v low =
      way_for v.worker.operation v.worker.search.node v.worker.search.parent v.worker.search.grandparent low.worker.search.parent low.worker.search.grandparent

  -- a try that is given up
  after_try_below : (v : View) → NumbersBelow n v → NumbersBelow n (after_try v)
  after_try_below v low = record {
    worker = low.worker;
    told = low.told;
    planned = low.planned;
    stores = low.stores;
    won = low.won;
    answered = low.answered;
    knew = low.knew;
    hindrances = all_in_both (HindranceBelow n) (way_now v) v.hindrances (way_below v low) low.hindrances;
    met = low.met;
    glances = low.glances;
  }

  -- begin and again
  begin_below : (op : Option Op) (v : View) → NumbersBelow n v → NumbersBelow n (after_begin op v)
  begin_below op v low = record {
    worker = record { search = record { node = omega (arith, some); read = tt; parent = tt; grandparent = tt }; hand = tt; knows = low.worker.knows };
    told = root_below;
    planned = tt;
    stores = tt;
    won = low.won;
    answered = tt;
    knew = low.worker.knows;
    hindrances = low.hindrances;
    met = tt;
    glances = tt;
  }

  -- a pass at rest: leave, rest and answer
  rest_below : (ledger : List (ℕ × Entry)) (v : View) → NumbersBelow n v → NumbersBelow n (at_rest ledger v)
  rest_below ledger v low = record {
    worker = record { search = record { node = tt; read = tt; parent = tt; grandparent = tt }; hand = tt; knows = low.worker.knows };
    told = root_below;
    planned = tt;
    stores = tt;
    won = low.won;
    answered = low.answered;
    knew = low.knew;
    hindrances = low.hindrances;
    met = tt;
    glances = tt;
  }

  -- the operation that was answered, with its card
  answered_below : (op : Option Op) (card : Option ℕ) (said : Reply) (took : Option ℕ) → IfSome card (λ c. c < n)
      → IfSome (answered_so op card said took) (λ (a : Answered). IfSome a.card (λ c. c < n))
  answered_below None card said took low = tt
  answered_below (Some op) card said took low = low

  answer_below : (said : Reply) (took : Option ℕ) (v : View) → NumbersBelow n v → NumbersBelow n (after_answer said took v)
  answer_below said took v low =
      let rest = rest_below (answered_ledger v.worker.operation said v.worker.ledger) v low in record {
        worker = rest.worker;
        told = rest.told;
        planned = rest.planned;
        stores = rest.stores;
        won = rest.won;
        answered = answered_below v.worker.operation v.worker.card said took low.worker.hand;
        knew = rest.knew;
        hindrances = rest.hindrances;
        met = rest.met;
        glances = rest.glances;
      }

  -- leave, and rest
  leave_below : (op : Option Op) (v : View) → NumbersBelow n v → NumbersBelow n (counted (record (at_rest v.worker.ledger v) { given_up = op }))
  leave_below op v low =
      let rest = rest_below v.worker.ledger v low in record {
        worker = rest.worker;
        told = rest.told;
        planned = rest.planned;
        stores = rest.stores;
        won = rest.won;
        answered = rest.answered;
        knew = rest.knew;
        hindrances = rest.hindrances;
        met = rest.met;
        glances = rest.glances;
      }

  -- next
  next_below : (m : ℕ) (v : View) → NumbersBelow n v → NumbersBelow n (after call.Next m v)
  next_below m v low = record {
    worker = low.worker;
    told = low.told;
    planned = low.planned;
    stores = low.stores;
    won = low.won;
    answered = low.answered;
    knew = low.knew;
    hindrances = low.hindrances;
    met = low.met;
    glances = low.glances;
  }

  -- what other calls change of a view
  changed : (v : View) {worker : WorkerView} {here found : Option ℕ} {told : List Told} {stores : List (Field × ℕ)} {won : List (Exchange × ℕ)}
      {hindrances met : List Hindrance} {glances : List Glance} {looks made : ℕ} → WorkerBelow n worker → AllByRecursion (ToldBelow n) told
      → AllByRecursion (λ (e : Field × ℕ). WordBelow n e.0 e.1) stores → AllByRecursion (λ (e : Exchange × ℕ). e.1 < n) won
      → AllByRecursion (HindranceBelow n) hindrances → AllByRecursion (HindranceBelow n) met
      → AllByRecursion (λ (g : Glance). NodeBelow n g.node) glances → NumbersBelow n v → NumbersBelow n (record v {
        worker = worker;
        here = here;
        found = found;
        told = told;
        stores = stores;
        won = won;
        hindrances = hindrances;
        met = met;
        glances = glances;
        looks = looks;
        made = made;
      })
  changed v worker told stores won hindrances met glances low = record {
    worker = worker;
    told = told;
    planned = low.planned;
    stores = stores;
    won = won;
    answered = low.answered;
    knew = low.knew;
    hindrances = hindrances;
    met = met;
    glances = glances;
  }

  -- the word of an update that was read
  packed_below : (u : Update) → u.card < n → NodeBelow n (packed u)
  packed_below u low = subst (λ c. c < n) (sym (card_again u)) low

  -- upd and down
  upd_below : (x m : ℕ) (v : View) → NodeBelow n x → NodeBelow n m → NumbersBelow n v → NumbersBelow n (after (call.Upd x) m v)
  upd_below x m v at found low = changed v
      (record {
        search = record {
          node = low.worker.search.node;
          read = packed_below (unpacked m) found;
          parent = low.worker.search.parent;
          grandparent = low.worker.search.grandparent;
        };
        hand = low.worker.hand;
        knows = facts_below (unpacked m).state (unpacked m).card v.worker.knows found low.worker.knows;
      })
      (places_below x (unpacked m).state (unpacked m).card v.told at found low.told) low.stores low.won low.hindrances low.met low.glances low

  -- a word that was read, or 0
  word_read : (o : Option ℕ) → IfSome o (NodeBelow n) → NodeBelow n (unwrap_or o 0)
  word_read None low = omega (arith, some)
  word_read (Some word) low = low

  down_below : (x : ℕ) (right : Bool) (m : ℕ) (v : View) → NodeBelow n x → NodeBelow n (link_in m).node → NumbersBelow n v
      → NumbersBelow n (after (call.Down x right) m v)
  down_below x right m v at found low = changed v
      (record {
        search = record { node = found; read = tt; parent = (at, word_read v.worker.search.read low.worker.search.read); grandparent = low.worker.search.parent };
        hand = low.worker.hand;
        knows = low.worker.knows;
      })
      (met_below (depth_told v.told x + 1) (link_in m).node v.told found low.told) low.stores low.won low.hindrances low.met low.glances low

  -- more that was told
  told_below : (v : View) {here : Option ℕ} {told : List Told} {made : ℕ} → AllByRecursion (ToldBelow n) told → NumbersBelow n v
      → NumbersBelow n (record v { here = here; told = told; made = made })
  told_below v told low = changed v low.worker told low.stores low.won low.hindrances low.met low.glances low

  -- info
  info_below : (depth c : ℕ) (f : Field) (m : ℕ) (told : List Told) → c < n → WordBelow n f m → AllByRecursion (ToldBelow n) told
      → AllByRecursion (ToldBelow n) (told_info depth c f m told)
  info_below depth c field.Gp m told low found all = ((low, found), (found, all))
  info_below depth c field.P m told low found all = ((low, found), (found, (found, all)))
  info_below depth c field.L m told low found all = ((low, found), (low, all))
  info_below depth c field.Was m told low found all = ((low, found), all)
  info_below depth c field.Left m told low found all = ((low, found), all)
  info_below depth c field.Right m told low found all = ((low, found), all)
  info_below depth c field.Update m told low found all = ((low, found), all)
  info_below depth c field.Key m told low found all = ((low, tt), all)
  info_below depth c field.LeftLeafKey m told low found all = ((low, tt), all)
  info_below depth c field.RightLeafKey m told low found all = ((low, tt), all)
  info_below depth c field.LeftValue m told low found all = ((low, tt), all)
  info_below depth c field.RightValue m told low found all = ((low, tt), all)

  -- an exchange that teaches a fact
  fact_worker : (f : Fact) (v : View) → card_of_fact f < n → NumbersBelow n v → WorkerBelow n (with_fact f v).worker
  fact_worker f v new low = record { search = low.worker.search; hand = low.worker.hand; knows = (new, low.worker.knows) }

  -- so the pass knows it, won or not
  taught_below : (won : Bool) (k : Exchange) (c : ℕ) (f : Fact) (m : ℕ) (v : View) → c < n → card_of_fact f < n → NumbersBelow n v
      → NumbersBelow n (exchanged (if_won won k c) m (with_fact f v))
  taught_below won k c f m v at new low = changed v (fact_worker f v new low) low.told low.stores (wins_below won k c v.won at low.won)
      low.hindrances low.met low.glances low

  -- iflag and dflag
  flag_below : (won : Bool) (k : Exchange) (c : ℕ) (f : Fact) (x m : ℕ) (v : View) → c < n → card_of_fact f < n → NodeBelow n x → NodeBelow n m
      → NumbersBelow n v → NumbersBelow n (exchanged (if_won won k c) m (after_flag won f x (unpacked m) v))
  flag_below true k c f x m v at new node found low = changed v
      (record {
        search = record { node = tt; read = tt; parent = low.worker.search.parent; grandparent = low.worker.search.grandparent };
        hand = low.worker.hand;
        knows = (new, low.worker.knows);
      })
      low.told low.stores (at, low.won) low.hindrances low.met low.glances low
  flag_below false k c f x m v at new node found low = changed v
      (record {
        search = record { node = tt; read = tt; parent = low.worker.search.parent; grandparent = low.worker.search.grandparent };
        hand = tt;
        knows = facts_below (unpacked m).state (unpacked m).card v.worker.knows found low.worker.knows;
      })
      (places_below x (unpacked m).state (unpacked m).card v.told node found low.told) low.stores low.won (found, low.hindrances) (found, low.met)
      low.glances low

  -- mark
  found_below : (b : Bool) (u : Update) (hs : List Hindrance) → u.card < n → AllByRecursion (HindranceBelow n) hs
      → AllByRecursion (HindranceBelow n) (if b then Found u ∷ hs else hs)
  found_below true u hs low all = (low, all)
  found_below false u hs low all = all

  -- a lost mark
  lost_below : (b : Bool) (c x m : ℕ) (v : View) → c < n → NodeBelow n x → NodeBelow n m → NumbersBelow n v
      → NumbersBelow n (exchanged [] m (if b then with_fact (fact.Marked c) v else unmarking c x (unpacked m) v))
  lost_below true c x m v at node found low = taught_below false exchange.Mark c (fact.Marked c) m v at at low
  lost_below false c x m v at node found low = changed v
      (record {
        search = low.worker.search;
        hand = low.worker.hand;
        knows = facts_below (unpacked m).state (unpacked m).card (fact.Unmarkable c ∷ v.worker.knows) found (at, low.worker.knows);
      })
      (places_below x (unpacked m).state (unpacked m).card v.told node found low.told) low.stores low.won
      (found_below (is_this v.worker.card c) (unpacked m) v.hindrances found low.hindrances)
      (found_below (is_this v.worker.card c) (unpacked m) v.met found low.met) low.glances low

  mark_below : (won : Bool) (c x m : ℕ) (v : View) → c < n → NodeBelow n x → NodeBelow n m → NumbersBelow n v
      → NumbersBelow n (exchanged (if_won won exchange.Mark c) m (after_mark won c x (unpacked m) v))
  mark_below true c x m v at node found low = taught_below true exchange.Mark c (fact.Marked c) m v at at low
  mark_below false c x m v at node found low = lost_below (is_mark_of c (unpacked m).state (unpacked m).card) c x m v at node found low

  -- so no call makes known a card that is not below the number
  pub numbers_stay_below : (c : Call) (m : ℕ) (v : View) → NamesBelow n c → FindsBelow n c m → NumbersBelow n v → NumbersBelow n (after c m v)
  numbers_stay_below (call.Begin op) m v at found low = begin_below (Some op) v low
  numbers_stay_below call.Again m v at found low = begin_below v.worker.operation (after_try v) (after_try_below v low)
  numbers_stay_below call.Leave m v at found low = leave_below v.worker.operation (after_try v) (after_try_below v low)
  numbers_stay_below (call.Answer said took) m v at found low = answer_below said took v low
  numbers_stay_below (call.Upd x) m v at found low = upd_below x m v at found low
  numbers_stay_below (call.Down x right) m v at found low = down_below x right m v at found low
  numbers_stay_below call.Next m v at found low = next_below m v low
  numbers_stay_below (call.KeyOf x) m v at found low = told_below v (at, low.told) low
  numbers_stay_below (call.ValueOf x) m v at found low = told_below v (at, low.told) low
  numbers_stay_below (call.Info c f) m v at found low = told_below v (info_below (depth_there v c f) c f m v.told at found low.told) low
  numbers_stay_below (call.FrozenChild c p right) m v at found low =
      told_below v ((at, found), met_below (depth_told v.told p + 1) (link_in m).node v.told found low.told) low
  numbers_stay_below call.Look m v at found low = changed v low.worker (met_below 1 (link_in m).node forgotten found root_below) low.stores low.won
      low.hindrances low.met (found, tt) low
  numbers_stay_below (call.LookDown from to right) m v at found low = changed v low.worker
      (met_below (depth_told v.told from.node + 1) (link_in m).node v.told found low.told) low.stores low.won low.hindrances low.met (found, low.glances) low
  numbers_stay_below call.Rest m v at found low = leave_below v.given_up v low
  numbers_stay_below (call.Claim c node) m v at found low = absurd found
  numbers_stay_below (call.Fill c f value) m v at found low = changed v low.worker low.told (at, low.stores) low.won low.hindrances low.met low.glances low
  numbers_stay_below (call.IFlag c p from) m v at found low =
      flag_below (m == packed from) exchange.IFlag c (fact.IFlagged c) p m v at.0 at.0 at.1 found low
  numbers_stay_below (call.IChild c p l replaces right) m v at found low = taught_below (m == linked l) exchange.IChild c (fact.IChanged c) m v at at low
  numbers_stay_below (call.IUnflag c p) m v at found low = taught_below (m == iflag c) exchange.IUnflag c (fact.IOver c) m v at at low
  numbers_stay_below (call.DFlag c gp from) m v at found low =
      flag_below (m == packed from) exchange.DFlag c (fact.DFlagged c) gp m v at.0 at.0 at.1 found low
  numbers_stay_below (call.Mark c p was) m v at found low = mark_below (m == was) c p m v at.0 at.1 found low
  numbers_stay_below (call.DChild c gp p s right) m v at found low = taught_below (m == linked p) exchange.DChild c (fact.Cut c) m v at at low
  numbers_stay_below (call.DUnflag c gp) m v at found low = taught_below (m == dflag c) exchange.DUnflag c (fact.DOver c) m v at at low
  numbers_stay_below (call.Backtrack c gp) m v at found low = taught_below (m == dflag c) exchange.Backtrack c (fact.Backed c) m v at at low

  -- an entry of a list of which each is so is so
  all_has : {A : Type 0} (P : A → Type 0) (xs : List A) (x : A) → Has xs x → AllByRecursion P xs → P x
  all_has P [] x none all = elim none [ ]
  all_has P (y ∷ xs) _ (latest _ _) all = all.0
  all_has P (y ∷ xs) x (earlier _ _ _ h) all = all_has P xs x h all.1

  -- an entry that was told, and what an option has
  is_told : (v : View) (e : Told) → NumbersBelow n v → IsTold v e → ToldBelow n e
  is_told v e low h = all_has (ToldBelow n) v.told e h low.told

  is_some : {A : Type 0} (P : A → Type 0) (o : Option A) (x : A) → IfSome o P → o ≡ Some x → P x
  is_some P o x low e = subst (λ p. IfSome p P) e low

  -- a card that is claimed, and a word that is stored, are below the number
  abbrev pub BuildsBelow : Call → Type 0
  BuildsBelow (call.Claim c node) = c < n
  BuildsBelow (call.Fill c f value) = WordBelow n f value
  BuildsBelow c = Unit {0}

  -- and then so is whatever a call names that the pass may make
  pub may_name_below : (plan : TablePlan) (c : Call) (v : View) → May plan c v → BuildsBelow c → NumbersBelow n v → NamesBelow n c
  may_name_below plan (call.Begin op) v may own low = tt
  may_name_below plan call.Again v may own low = tt
  may_name_below plan call.Leave v may own low = tt
  may_name_below plan (call.Answer said took) v may own low = tt
  may_name_below plan (call.Upd x) v may own low = is_some (NodeBelow n) v.worker.search.node x low.worker.search.node may.stands
  may_name_below plan (call.Down x right) v may own low = is_some (NodeBelow n) v.worker.search.node x low.worker.search.node may.stands
  may_name_below plan call.Next v may own low = tt
  may_name_below plan (call.KeyOf x) v may own low = is_told v (Met x) low may
  may_name_below plan (call.ValueOf x) v may own low = is_told v (Met x) low may.0
  may_name_below plan (call.Info c f) v may own low = elim may.place.1 [
    | inl told ↦ (is_told v (Info c field.P may.place.0) low told).0
    | inr told ↦ (is_told v (Info c field.Gp may.place.0) low told).0
  ]
  may_name_below plan (call.FrozenChild c p right) v may own low = (is_told v (Info c field.P p) low may.place).0
  may_name_below plan call.Look v may own low = tt
  may_name_below plan (call.LookDown from to right) v may own low = tt
  may_name_below plan call.Rest v may own low = tt
  may_name_below plan (call.Claim c node) v may own low = own
  may_name_below plan (call.Fill c f value) v may own low = own
  may_name_below plan (call.IFlag c p from) v may own low = (
    is_some (λ d. d < n) v.worker.card c low.worker.hand may.may.holds,
    subst (NodeBelow n) may.node (is_some (SeenBelow n) v.worker.search.parent may.parent low.worker.search.parent may.behind).0,
  )
  may_name_below plan (call.IChild c p l replaces right) v may own low = (is_told v (Info c field.P p) low may.parent).0
  may_name_below plan (call.IUnflag c p) v may own low = (is_told v (Info c field.P p) low may.place).0
  may_name_below plan (call.DFlag c gp from) v may own low = (
    is_some (λ d. d < n) v.worker.card c low.worker.hand may.may.holds,
    subst (NodeBelow n) may.node (is_some (SeenBelow n) v.worker.search.grandparent may.grandparent low.worker.search.grandparent may.above).0,
  )
  may_name_below plan (call.Mark c p was) v may own low = is_told v (Info c field.P p) low may.0.place
  may_name_below plan (call.DChild c gp p s right) v may own low = (is_told v (Info c field.P p.node) low may.parent).0
  may_name_below plan (call.DUnflag c gp) v may own low = (is_told v (Info c field.Gp gp) low may.place).0
  may_name_below plan (call.Backtrack c gp) v may own low = (is_told v (Info c field.Gp gp) low may.place).0
