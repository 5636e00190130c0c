-- The turns of a flag, as words see them: the claim word is read, the next card is claimed, filled and flagged, in a row, and so the tree has changed as
-- a flag that is won says, or one that is lost.
use Rattle.std.proofs.Common.{◌≡◌, ◌≢◌, ◌⊎◌, ℕ, ◌+◌, ◌%◌, ◌≤◌, ◌<◌, ◌==◌, if◌then◌else◌, inl, inr, Bool, true, false, Some, List, [], ◌∷◌, ◌++◌, length, get_or, refl, sym, ap, ◌∙◌, subst, arith, eq-eqb, ne_eqb, get_or-set_same, get_or-set_other}
use Rattle.std.proofs.lemmas.Bool.{cases_eq, true≢false}
use mathlib.Core.Option.{some}
use lib.ListN.{get_elem?}
use Rattle.ell_word.specs.Node.{card}
use Rattle.ell_word.specs.Word.{packed}
use Rattle.ell_word.specs.declared.update.Update.{Update}
use Rattle.ell_layout.specs.declared.field.Field.{Field}
use Rattle.ell_layout.specs.declared.field.Field.TheVariants as field
use Rattle.ell_layout.specs.Cards.{iflag, dflag}
use Rattle.ell_layout.specs.Layout.{address, listed}
use Rattle.ell_layout.specs.Words.{put}
use Rattle.ell_layout.proofs.lemmas.Listed.{addresses_apart}
use Rattle.ell_core.specs.acts.Wins.{win_for}
use Rattle.ell_core.specs.declared.exchange.Exchange.{Exchange}
use Rattle.ell_core.specs.declared.exchange.Exchange.TheVariants as exchange
use Rattle.ell_core.specs.history.Later.{StagesLater, wins_of}
use Rattle.ell_core.specs.history.Stages.{Stage, is_claimed, is_start}
use Rattle.ell_core.specs.state.Machine.{Worker, worker_of}
use Rattle.ell_core.specs.statements.StepLaws.{IsReadable}
use Rattle.ell_core.proofs.lemmas.runs.Chains.{stages_later}
use Rattle.ell_core.proofs.lemmas.stages.Waiting.{unclaimed-no_start, unclaimed-wins}
use Rattle.ell_runs.specs.declared.call.Call.{Call}
use Rattle.ell_runs.specs.declared.call.Call.TheVariants as call
use Rattle.ell_runs.specs.declared.call.NewNode.{NewNode}
use Rattle.ell_runs.specs.declared.view.View.{View}
use Rattle.ell_runs.specs.Calls.{May, atomic_of, is_won, left_by, word_of}
use Rattle.ell_runs.specs.Holding.{HoldsWaiting}
use Rattle.ell_runs.specs.Machines.{HasMachine}
use Rattle.ell_runs.specs.NamedTakings.{claimed_and_filled}
use Rattle.ell_runs.specs.Names.{AreNames, name_of, top_name}
use Rattle.ell_runs.specs.Plans.{TablePlan}
use Rattle.ell_runs.specs.Sayings.{put_says, delete_says}
use Rattle.ell_runs.specs.States.{TableState, seat_worker}
use Rattle.ell_runs.specs.TurnEffects.{turn_wins, win_of}
use Rattle.ell_runs.specs.Turns.{Makes, found_by, state_after}
use Rattle.ell_runs.specs.Views.{stored_at}
use Rattle.ell_runs.proofs.lemmas.named.Names.{new_name, names_stay}
use Rattle.ell_runs.proofs.lemmas.runs.TurnsOfRuns.{steps_stay_inside}
use Rattle.ell_runs.proofs.lemmas.seats.Seats.{mine_is, relies}
use Rattle.ell_cards.specs.NamedRefinement.{FlagIsLost, FlagIsWon, Hand, LiesBy, in_memory, nobody}
use Rattle.ell_cards.specs.Refinement.{FlagsCard, HasWon}
use Rattle.ell_cards.specs.SlotWords.{slot_of}
use Rattle.ell_cards.proofs.lemmas.named.NamedKept.{others_stay}
use Rattle.ell_cards.proofs.lemmas.named.NamedLeads.{CallLeads, LeadsOn, filled, next_blank, there_filled}
use Rattle.ell_cards.proofs.lemmas.named.NamedRoom.{next_has_room}
use Rattle.ell_cards.proofs.lemmas.refinement.Winning.{IsWonStage, born_won, flag_kind, flag_says, start_won, won_by_call}

-- What the one exchange of a flag that is won does to memory: it sets the update word of the node in its slot, and no other word; and the slot in hand
-- has all that the card says, by the new names.
pub record MemoryIsFlagged (last : ℕ) (name' : ℕ → ℕ) (memory memory' : List ℕ) (slot left : ℕ) (h : Hand) (said : Field → Bool) (planned : Field → ℕ) : Type 0 where
  pub flat : get_or memory' 1 0 ≡ get_or memory 1 0
  pub flags : get_or memory' (address slot field.Update) 0 ≡ in_memory name' field.Update left
  pub stays : (other : ℕ) (f : Field) → other ≤ last → address other f ≢ address slot field.Update
      → get_or memory' (address other f) 0 ≡ get_or memory (address other f) 0
  pub whole : (f : Field) → said f ≡ true → get_or memory (address (slot_of h.name) f) 0 ≡ in_memory name' f (planned f)

-- One that is lost changes no word in memory.
pub record MemoryStays (last : ℕ) (memory memory' : List ℕ) : Type 0 where
  pub flat : get_or memory' 1 0 ≡ get_or memory 1 0
  pub stays : (other : ℕ) (f : Field) → other ≤ last → get_or memory' (address other f) 0 ≡ get_or memory (address other f) 0

-- a call is the flag of a card at a node: it exchanges a word that it expects for its flag
pub record IsFlagOf (made : Call) (c x expected left : ℕ) (k : Exchange) : Type 0 where
  pub at : word_of made ≡ address (card x) field.Update
  pub won : (n : ℕ) → is_won (atomic_of made) n ≡ (n == expected)
  pub leaves : (n : ℕ) → left_by (atomic_of made) n ≡ (if n == expected then left else n)
  pub wins : (d : ℕ) → win_of made d ≡ win_for (Some c) k d
  pub sets : FlagsCard made c
  pub only : (d : ℕ) → FlagsCard made d → d ≡ c

-- a card that has won its flag is of the opening tree, or has won something
won_more : (s : Stage) → IsWonStage s → (is_start s ≡ true) ⊎ (0 < length (wins_of s))
won_more s (claimed, settled) = grind arith

more_won : (s : Stage) → 0 < length (wins_of s) → IsWonStage s
more_won s h = (grind arith, grind arith)

-- what is won for a card
win_there : (c : ℕ) (k : Exchange) → win_for (Some c) k c ≡ k ∷ []
win_there c k = ap (λ b. if b then k ∷ [] else []) (eq-eqb c c refl)

-- The flag of a card that was not claimed before the turns that led to it, at a node whose card had won its flag.
module _ (plan : TablePlan) (s : TableState) (r : HasMachine plan s) (id c : ℕ) (m : TableState) (led : LeadsOn plan s r c m) (w : View) (here : get_elem? m.views id ≡ some w)
    (x expected left : ℕ) (k : Exchange) (made : Call) (may : May plan made w) (flag : IsFlagOf made c x expected left k) (holds : HoldsWaiting w c)
    (blank : is_claimed (r.stages c) ≡ false) (there : HasWon r.stages (card x)) (turn : CallLeads plan m led.kept id w made) where
  -- the table after it
  abbrev pub after : TableState
  after = state_after m id w made

  later : StagesLater r.stages turn.new.stages
  later = stages_later r.stages led.kept.stages turn.new.stages led.later turn.later

  -- the card had not won its flag, so it is another one than that of the node
  fresh : ¬ HasWon r.stages c
  fresh won = true≢false (sym won.0 ∙ blank)

  node_else : card x ≢ c
  node_else e = fresh (subst (HasWon r.stages) e there)

  -- the word that the flag finds is that of the tree before
  finds : found_by m made ≡ listed s.words (card x) field.Update
  finds = ap (λ i. get_or m.words i 0) flag.at ∙ led.stays (card x) field.Update node_else

  -- the words of other cards are as they were, but for that one
  stays_else : (d : ℕ) (f : Field) → HasWon r.stages d → address d f ≢ address (card x) field.Update → listed after.words d f ≡ listed s.words d f
  stays_else d f won apart =
      get_or-set_other m.words (word_of made) (address d f) (left_by (atomic_of made) (found_by m made)) 0 (λ e. apart (e ∙ flag.at))
      ∙ led.stays d f (λ e. fresh (subst (HasWon r.stages) e won))

  -- that one is what the flag leaves
  leaves_there : listed after.words (card x) field.Update ≡ left_by (atomic_of made) (found_by m made)
  leaves_there =
      ap (λ i. get_or after.words i 0) (sym flag.at)
      ∙ get_or-set_same m.words (word_of made) (left_by (atomic_of made) (found_by m made)) 0 (steps_stay_inside plan m led.kept id w made here may)

  -- the words of the card are those that were stored
  says_stored : (f : Field) → listed after.words c f ≡ stored_at w.stores f
  says_stored f =
      get_or-set_other m.words (word_of made) (address c f) (left_by (atomic_of made) (found_by m made)) 0
      (λ e. node_else (sym (addresses_apart c (card x) f field.Update (e ∙ flag.at)).0))
      ∙ ((led.kept.views id w here).hand c holds.0 holds.1).table f

  -- the tree is flat from where it was
  flat_stays : get_or after.words 1 0 ≡ get_or s.words 1 0
  flat_stays = turn.new.flat ∙ (turn.new.shape ∙ sym (r.flat ∙ r.shape))

  -- the card of the root has won its flag
  root_won : HasWon r.stages 0
  root_won = start_won (r.stages 0) (ap is_start r.invariant.words.opening)

  -- whoever has won its flag had won it, or is the card
  won_or_flagged : (d : ℕ) → HasWon turn.new.stages d → HasWon r.stages d ⊎ (d ≡ c)
  won_or_flagged d won = elim (won_by_call plan m led.kept id w here turn.new.stages turn.later made may turn.wins d won) [
    | inl had ↦ inl (led.won d had)
    | inr flags ↦ inr (flag.only d flags)
  ]

  -- what the card has won is what the flag wins for it
  card_wins : wins_of (turn.new.stages c) ≡ turn_wins m (Makes id made) c
  card_wins = turn.wins c ∙ ap (λ ks. ks ++ turn_wins m (Makes id made) c) (led.wins c ∙ unclaimed-wins (r.stages c) blank)

  turn_by : (b : Bool) → is_won (atomic_of made) (found_by m made) ≡ b → turn_wins m (Makes id made) c ≡ (if b then k ∷ [] else [])
  turn_by b is = ap (λ y. if y then win_of made c else []) is ∙ by b
    where
      by : (y : Bool) → (if y then win_of made c else []) ≡ (if y then k ∷ [] else [])
      by true = flag.wins c ∙ win_there c k
      by false = refl

  -- names go on, and the new card gets that of the hand
  module _ (last : ℕ) (name name' : ℕ → ℕ) (same : (d : ℕ) → d < r.words.next → name' d ≡ name d) (memory memory' : List ℕ) (h : Hand) where
    -- the expected word is found
    pub is_won_there : (lie : ℕ → ℕ) → LiesBy last name lie (card x) → name' c ≡ h.name → c ≢ nobody
        → listed s.words (card x) field.Update ≡ expected
        → MemoryIsFlagged last name' memory memory' (slot_of (name (card x))) left h (flag_says made) (stored_at w.stores)
        → FlagIsWon last name name' s.words after.words memory memory' r.stages turn.new.stages lie c (card x) left h (stored_at w.stores)
    is_won_there lie lies named room found does = record {
      flat = flat_stays;
      flat' = does.flat;
      start = root_won;
      fresh = fresh;
      room = room;
      named = named;
      others = others_stay plan s r name name' same turn.new.stages later;
      has = there;
      lies = lies;
      mine = λ f said. says_stored f;
      stays = stays_else;
      flags = leaves_there ∙ (flag.leaves (found_by m made) ∙ ap (λ b. if b then left else found_by m made) equal);
      flags' = does.flags;
      stays' = does.stays;
      wins = λ d won other. elim (won_or_flagged d won) [ inl had ↦ had | inr is ↦ absurd (other is) ];
      now = (
          let gains : wins_of (turn.new.stages c) ≡ k ∷ [] = card_wins ∙ turn_by true (flag.won (found_by m made) ∙ equal) in
          let long : length (wins_of (turn.new.stages c)) ≡ 1 = ap length gains in
          more_won (turn.new.stages c) (omega (arith, long))
          );
      whole = λ f said. does.whole f (flag_kind plan m led.kept id w here turn.new.stages turn.later made may c f flag.sets said);
    }
      where
        equal : (found_by m made == expected) ≡ true
        equal = eq-eqb (found_by m made) expected (finds ∙ found)

    -- another word is found
    pub is_lost_there : (anew : ℕ) → slot_of anew ≡ slot_of h.name → listed s.words (card x) field.Update ≢ expected
        → MemoryStays last memory memory' → FlagIsLost last name name' s.words after.words memory memory' r.stages turn.new.stages h anew
    is_lost_there anew slot other does = record {
      flat = flat_stays;
      flat' = does.flat;
      same = slot;
      others = others_stay plan s r name name' same turn.new.stages later;
      stays = λ d f won. elim (cases_eq (address d f) (address (card x) field.Update)) [
        | inl e ↦
            ap (λ i. get_or after.words i 0) e
            ∙ (leaves_there ∙ (flag.leaves (found_by m made) ∙ (ap (λ b. if b then left else found_by m made) unequal ∙ (finds ∙ ap (λ i. get_or s.words i 0) (sym e)))))
        | inr apart ↦ stays_else d f won apart
      ];
      stays' = does.stays;
      wins = λ d won. elim (won_or_flagged d won) [ inl had ↦ had | inr is ↦ absurd (never (subst (HasWon turn.new.stages) is won)) ];
    }
      where
        unequal : (found_by m made == expected) ≡ false
        unequal = ne_eqb (found_by m made) expected (λ e. other (sym finds ∙ e))

        -- the card that lost has won nothing
        never : ¬ HasWon turn.new.stages c
        never won = elim (won_more (turn.new.stages c) won) [
          | inl start ↦ true≢false (sym start ∙ (later.start c ∙ unclaimed-no_start (r.stages c) blank))
          | inr more ↦
              let none : wins_of (turn.new.stages c) ≡ [] = card_wins ∙ turn_by false (flag.won (found_by m made) ∙ unequal) in
              let short : length (wins_of (turn.new.stages c)) ≡ 0 = ap length none in
              absurd (omega (arith, more, short))
        ]

-- the flag of an insert or a swap is one, and so is that of a delete
iflag_is : (c p : ℕ) (from : Update) → IsFlagOf (call.IFlag c p from) c p (packed from) (iflag c) exchange.IFlag
iflag_is c p from = record { at = refl; won = λ n. refl; leaves = λ n. refl; wins = λ d. refl; sets = refl; only = λ d e. e }

dflag_is : (c gp : ℕ) (from : Update) → IsFlagOf (call.DFlag c gp from) c gp (packed from) (dflag c) exchange.DFlag
dflag_is c gp from = record { at = refl; won = λ n. refl; leaves = λ n. refl; wins = λ d. refl; sets = refl; only = λ d e. e }

-- the card of the node that they flag has won its flag
module _ (plan : TablePlan) (m : TableState) (k : HasMachine plan m) (id : ℕ) (w : View) (here : get_elem? m.views id ≡ some w) where
  same : seat_worker (get_elem? m.views id) ≡ worker_of w.worker
  same = mine_is plan m k id w here

  iflag_node : (c p : ℕ) (from : Update) → May plan (call.IFlag c p from) w → HasWon k.stages (card p)
  iflag_node c p from may =
      let seen = (relies plan m k id w here).parent may.leaf may.parent (ap (λ (u : Worker). u.search.node) same ∙ may.stands)
      (ap (λ (u : Worker). u.search.parent) same ∙ may.behind) in
      born_won (k.stages (card p)) (p % 4) (subst (IsReadable k.words k.stages) may.node seen.node).born

  dflag_node : (c gp : ℕ) (from : Update) → May plan (call.DFlag c gp from) w → HasWon k.stages (card gp)
  dflag_node c gp from may =
      let seen = (relies plan m k id w here).grandparent may.leaf may.parent may.grandparent (ap (λ (u : Worker). u.search.node) same ∙ may.stands)
      (ap (λ (u : Worker). u.search.parent) same ∙ may.behind) (ap (λ (u : Worker). u.search.grandparent) same ∙ may.above) in
      born_won (k.stages (card gp)) (gp % 4) (subst (IsReadable k.words k.stages) may.node seen.node).born

-- a name that no card has, for the next one
pub record IsNewName (count : ℕ) (given : ℕ → ℕ) (name : ℕ) : Type 0 where
  pub are : AreNames count given
  pub small : name < top_name
  pub fresh : (c : ℕ) → c < count → given c ≢ name

-- The turns of a flag, in a table that has a machine, as each has to which turns have led: the next card gets the name of the hand, whatever number it
-- has. Whatever machines the tables have to which the turns lead (LeadsOn, CallLeads; some they have), the flag is won or lost by their stages.
module _ (plan : TablePlan) (s : TableState) (r : HasMachine plan s) (id : ℕ) (v : View) (here : get_elem? s.views id ≡ some v) (node : NewNode) (stores : List (Field × ℕ))
    (led : LeadsOn plan s r (found_by s call.Next) (filled plan s r id v here node stores)) (given : ℕ → ℕ) (h : Hand) (names : IsNewName (found_by s call.Next) given h.name)
    (last : ℕ) (memory memory' : List ℕ) where
  -- the number of the next card, and names before and after it has one
  abbrev pub count : ℕ
  count = found_by s call.Next

  abbrev pub name : ℕ → ℕ
  name = name_of count given

  abbrev pub name' : ℕ → ℕ
  name' = name_of (count + 1) (put given count h.name)

  -- what the pass knows before the flag, and the table then
  abbrev pub w : View
  w = claimed_and_filled count node stores v

  abbrev pub m : TableState
  m = filled plan s r id v here node stores

  at : get_elem? m.views id ≡ some w
  at = there_filled plan s r id v here node stores

  blank : is_claimed (r.stages count) ≡ false
  blank = next_blank plan s r id v here node

  -- names of cards that have one stay, and the next one's number is that of a card
  names_on : (d : ℕ) → d < r.words.next → name' d ≡ name d
  names_on d low = names_stay count given h.name d (let is = r.next in omega (arith, low, is))

  some_card : count ≢ nobody
  some_card e = (let low = (next_has_room count given names.are h.name names.small names.fresh).0 in absurd (omega (arith, low, e)))

  -- an insert or a swap flags the parent
  module _ (p : ℕ) (from : Update) (may : May plan (call.IFlag count p from) w) (turn : CallLeads plan m led.kept id w (call.IFlag count p from)) where
    parent_won : HasWon r.stages (card p)
    parent_won = led.won (card p) (iflag_node plan m led.kept id w at count p from may)

    pub iflag_is_won : (lie : ℕ → ℕ) → LiesBy last name lie (card p) → listed s.words (card p) field.Update ≡ packed from
        → MemoryIsFlagged last name' memory memory' (slot_of (name (card p))) (iflag count) h put_says (stored_at stores)
        → FlagIsWon last name name' s.words (state_after m id w (call.IFlag count p from)).words memory memory' r.stages turn.new.stages lie count (card p) (iflag count) h (stored_at stores)
    iflag_is_won lie lies found does =
        is_won_there plan s r id count m led w at p (packed from) (iflag count) exchange.IFlag (call.IFlag count p from) may (iflag_is count p from)
        (may.may.holds, may.may.unflagged) blank parent_won turn last name name' names_on memory memory' h lie lies (new_name count given h.name) some_card found does

    pub iflag_is_lost : (anew : ℕ) → slot_of anew ≡ slot_of h.name → listed s.words (card p) field.Update ≢ packed from → MemoryStays last memory memory'
        → FlagIsLost last name name' s.words (state_after m id w (call.IFlag count p from)).words memory memory' r.stages turn.new.stages h anew
    iflag_is_lost anew slot other does =
        is_lost_there plan s r id count m led w at p (packed from) (iflag count) exchange.IFlag (call.IFlag count p from) may (iflag_is count p from)
        (may.may.holds, may.may.unflagged) blank parent_won turn last name name' names_on memory memory' h anew slot other does

  -- a delete flags the grandparent
  module _ (gp : ℕ) (from : Update) (may : May plan (call.DFlag count gp from) w) (turn : CallLeads plan m led.kept id w (call.DFlag count gp from)) where
    grandparent_won : HasWon r.stages (card gp)
    grandparent_won = led.won (card gp) (dflag_node plan m led.kept id w at count gp from may)

    pub dflag_is_won : (lie : ℕ → ℕ) → LiesBy last name lie (card gp) → listed s.words (card gp) field.Update ≡ packed from
        → MemoryIsFlagged last name' memory memory' (slot_of (name (card gp))) (dflag count) h delete_says (stored_at stores)
        → FlagIsWon last name name' s.words (state_after m id w (call.DFlag count gp from)).words memory memory' r.stages turn.new.stages lie count (card gp) (dflag count) h (stored_at stores)
    dflag_is_won lie lies found does =
        is_won_there plan s r id count m led w at gp (packed from) (dflag count) exchange.DFlag (call.DFlag count gp from) may (dflag_is count gp from)
        (may.may.holds, may.may.unflagged) blank grandparent_won turn last name name' names_on memory memory' h lie lies (new_name count given h.name) some_card found does

    pub dflag_is_lost : (anew : ℕ) → slot_of anew ≡ slot_of h.name → listed s.words (card gp) field.Update ≢ packed from → MemoryStays last memory memory'
        → FlagIsLost last name name' s.words (state_after m id w (call.DFlag count gp from)).words memory memory' r.stages turn.new.stages h anew
    dflag_is_lost anew slot other does =
        is_lost_there plan s r id count m led w at gp (packed from) (dflag count) exchange.DFlag (call.DFlag count gp from) may (dflag_is count gp from)
        (may.may.holds, may.may.unflagged) blank grandparent_won turn last name name' names_on memory memory' h anew slot other does
