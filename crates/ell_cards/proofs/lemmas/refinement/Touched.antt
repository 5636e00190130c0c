-- The word that a call touches has what the tree has: it is one of the slots, its card lies there, and memory has there
-- what is cut of what the tree has.
use Rattle.std.proofs.Common.{◌≡◌, ◌≢◌, ◌⊎◌, ℕ, zero, suc, ◌%◌, ◌^◌, ◌<◌, ◌≤◌, inl, inr, Bool, true, false, Some, List, ◌∷◌, ◌+◌, ◌*◌, get_or, refl, sym, ap, ◌∙◌, subst, arith}
use mathlib.Core.Option.{some}
use lib.ListN.{get_elem?}
use Rattle.ell_word.specs.Node.{card}
use Rattle.ell_layout.specs.declared.field.Field.{Field}
use Rattle.ell_layout.specs.declared.field.Field.TheVariants as field
use Rattle.ell_layout.specs.Layout.{address, table_size}
use Rattle.ell_layout.specs.Words.{key_field, value_field, child_field}
use Rattle.ell_layout.proofs.lemmas.Listed.{address_in_table, addresses_apart}
use Rattle.ell_core.specs.declared.fact.Fact.TheVariants as fact
use Rattle.ell_core.proofs.lemmas.stages.Order.{insert_won-insert}
use Rattle.ell_core.proofs.lemmas.following.waiting.Cards.{hand_waits}
use Rattle.ell_core.proofs.lemmas.stages.Waiting.{waits-claimed}
use Rattle.ell_core.specs.history.Stages.{Stages, Born, is_start, is_claimed, is_delete}
use Rattle.ell_core.specs.state.Machine.{Worker, worker_of}
use Rattle.ell_grace.specs.Dead.{IsDead, HasUses}
use Rattle.ell_runs.specs.declared.call.Call.{Call}
use Rattle.ell_runs.specs.declared.call.Call.TheVariants as call
use Rattle.ell_cards.specs.declared.view.Known.{Known}
use Rattle.ell_runs.specs.declared.view.Slots.{Slots}
use Rattle.ell_runs.specs.declared.view.Told.TheVariants.{Met}
use Rattle.ell_runs.specs.declared.view.View.{View}
use Rattle.ell_cards.specs.Ages.{IsOut, is_dead, is_discarded, is_beyond, ForgotWhen}
use Rattle.ell_runs.specs.Discarded.{IsDiscarded, CallsTouchNoDiscardedCard}
use Rattle.ell_runs.specs.Calls.{word_of, May}
use Rattle.ell_cards.specs.Addresses.{slot_address, place_of}
use Rattle.ell_runs.specs.Guards.{KnowsSaying}
use Rattle.ell_runs.specs.Laws.{machine_of_table}
use Rattle.ell_runs.specs.Machines.{HasMachine}
use Rattle.ell_runs.specs.Plans.{TablePlan}
use Rattle.ell_runs.specs.Views.{IsTold, KnowsCard}
use Rattle.ell_cards.specs.Epochs.{WholeState}
use Rattle.ell_runs.specs.Touching.{IsAtRest}
use Rattle.ell_runs.specs.Sayings.{says, put_says}
use Rattle.ell_cards.specs.Shown.{cut_word, cut_field, cut_by}
use Rattle.ell_cards.specs.SlotWords.{slot_of}
use Rattle.ell_runs.specs.Starts.{IsReached}
use Rattle.ell_runs.specs.States.{TableState}
use Rattle.ell_cards.specs.Refinement.{LiesThere, HasWon, Refines, MayInMemory}
use Rattle.ell_cards.specs.RefinementLaws.{card_touched, FindsRefined, TouchesRefined}
use Rattle.ell_cards.specs.Refinement.IsKept.{won}
use Rattle.ell_runs.specs.Touching.{forgets, Touched, AtNode, OfCard, AtRoot, touched_by, IsTheRoots}
use Rattle.ell_runs.specs.Turns.{Turn, Makes, CallIsMade, TableRun, found_by}
use Rattle.ell_runs.proofs.lemmas.seats.Seats.{mine_is, mine_sound, relies, stands_born}
use Rattle.ell_cards.proofs.lemmas.shown.CutWords.{cut_same}
use Rattle.ell_runs.proofs.lemmas.stepping.Exchanges.{told_is}
use Rattle.ell_runs.proofs.lemmas.stepping.Known.{insert_flagged, insert_changed, known_delete, is_known_delete, delete_cut, delete_unmarkable}
use Rattle.ell_runs.proofs.lemmas.runs.Alive.{calls_touch_no_dead_card, turns_keep_dead}
use Rattle.ell_cards.proofs.lemmas.refinement.Discarded.{discarded_not_won, discarded_in_run}
use Rattle.ell_runs.proofs.lemmas.runs.Rests.{rest_touches_the_root}
use Rattle.ell_cards.proofs.lemmas.refinement.Winning.{start_won, born_won, start_is_put, born_is_put, insert_is_put, says_by, insert_is_won, delete_is_won, marked_is_won}

-- the field that a call touches is one that a card says which is no delete's, unless it asks for a field, or stores one
abbrev pub IsField : Call → Field → Type 0
IsField (call.Info c g) f = g ≡ f
IsField (call.Fill c g value) f = Unit {0}
IsField c f = put_says f ≡ true

-- the word of a call in the tree, and in memory: the claim word, or a field of the card that it touches
abbrev pub IsSpot : Call → Type 0
IsSpot c =
    ((card_touched (touched_by c) ≡ 0) × (word_of c ≡ 0) × (place_of c ≡ 0) × ((n : ℕ) → cut_by c n ≡ cut_word n))
    ⊎ ((f : Field) × (word_of c ≡ address (card_touched (touched_by c)) f) × (place_of c ≡ slot_address (card_touched (touched_by c)) f) × IsField c f
    × ((n : ℕ) → cut_by c n ≡ cut_field f n))

-- keys, values and children are said
said_key : (k : ℕ) → put_says (key_field k) ≡ true
said_key zero = refl
said_key (suc zero) = refl
said_key (suc (suc k)) = refl

said_value : (k : ℕ) → put_says (value_field k) ≡ true
said_value zero = refl
said_value (suc zero) = refl
said_value (suc (suc k)) = refl

said_child : (right : Bool) → put_says (child_field right) ≡ true
said_child true = refl
said_child false = refl

-- and memory has 64 bits of them
cut_key : (k n : ℕ) → cut_word n ≡ cut_field (key_field k) n
cut_key zero n = refl
cut_key (suc zero) n = refl
cut_key (suc (suc k)) n = refl

cut_value : (k n : ℕ) → cut_word n ≡ cut_field (value_field k) n
cut_value zero n = refl
cut_value (suc zero) n = refl
cut_value (suc (suc k)) n = refl

cut_child : (right : Bool) (n : ℕ) → cut_word n ≡ cut_field (child_field right) n
cut_child true n = refl
cut_child false n = refl

pub spots : (c : Call) → IsSpot c
spots (call.Upd x) = inr (field.Update, refl, refl, refl, λ n. refl)
spots (call.Down x right) = inr (child_field right, refl, refl, said_child right, cut_child right)
spots (call.KeyOf x) = inr (key_field (x % 4), refl, refl, said_key (x % 4), cut_key (x % 4))
spots (call.ValueOf x) = inr (value_field (x % 4), refl, refl, said_value (x % 4), cut_value (x % 4))
spots (call.Info c f) = inr (f, refl, refl, refl, λ n. refl)
spots (call.FrozenChild c p right) = inr (child_field right, refl, refl, said_child right, cut_child right)
spots (call.LookDown from to right) = inr (child_field right, refl, refl, said_child right, cut_child right)
spots (call.Fill c f value) = inr (f, refl, refl, tt, λ n. refl)
spots (call.IFlag c p from) = inr (field.Update, refl, refl, refl, λ n. refl)
spots (call.IChild c p l replaces right) = inr (child_field right, refl, refl, said_child right, cut_child right)
spots (call.IUnflag c p) = inr (field.Update, refl, refl, refl, λ n. refl)
spots (call.DFlag c gp from) = inr (field.Update, refl, refl, refl, λ n. refl)
spots (call.Mark c p was) = inr (field.Update, refl, refl, refl, λ n. refl)
spots (call.DChild c gp p s right) = inr (child_field right, refl, refl, said_child right, cut_child right)
spots (call.DUnflag c gp) = inr (field.Update, refl, refl, refl, λ n. refl)
spots (call.Backtrack c gp) = inr (field.Update, refl, refl, refl, λ n. refl)
spots call.Next = inl (refl, refl, refl, λ n. refl)
spots (call.Claim c q) = inl (refl, refl, refl, λ n. refl)
spots call.Look = inr (child_field false, refl, refl, said_child false, cut_child false)
spots call.Rest = inr (key_field 0, refl, refl, said_key 0, cut_key 0)
spots (call.Begin op) = inr (key_field 0, refl, refl, said_key 0, cut_key 0)
spots call.Again = inr (key_field 0, refl, refl, said_key 0, cut_key 0)
spots call.Leave = inr (key_field 0, refl, refl, said_key 0, cut_key 0)
spots (call.Answer said took) = inr (key_field 0, refl, refl, said_key 0, cut_key 0)

-- no field has the address of the claim word, nor of the one behind it
pub no_claim : (c : ℕ) (f : Field) → address c f ≢ 0
no_claim c f e = absurd (omega arith)

pub no_flat : (c : ℕ) (f : Field) → address c f ≢ 1
no_flat c f e = absurd (omega arith)

-- the card that a call touches has won its flag, and is no delete's, or says the word for which the call asks; unless the
-- call fills it
abbrev pub WonUnlessFilled : Stages → Call → Type 0
WonUnlessFilled stage (call.Fill c f value) = Unit {0}
WonUnlessFilled stage (call.Info c f) = HasWon stage c × (says (stage c) f ≡ true)
WonUnlessFilled stage c = HasWon stage (card_touched (touched_by c)) × (is_delete (stage (card_touched (touched_by c))) ≡ false)

-- so it says the word that the call touches
abbrev pub SaysUnlessFilled : Stages → Call → Field → Type 0
SaysUnlessFilled stage (call.Fill c f value) g = Unit {0}
SaysUnlessFilled stage c g = says (stage (card_touched (touched_by c))) g ≡ true

says_field : (stage : Stages) (c : Call) → WonUnlessFilled stage c → (f : Field) → IsField c f → SaysUnlessFilled stage c f
says_field stage (call.Fill c g value) has f is = tt
says_field stage (call.Info c g) has f is = subst (λ x. says (stage c) x ≡ true) is has.1
says_field stage c has f is = says_by false (stage (card_touched (touched_by c))) has.1 f ∙ is

module _ (plan : TablePlan) (s : TableState) (r : HasMachine plan s) (id : ℕ) (v : View) (here : get_elem? s.views id ≡ some v) where
  -- a node that came into the tree is of such a card
  of_node : (x y : ℕ) → x ≡ y → Born r.stages x → HasWon r.stages (card y) × (is_delete (r.stages (card y)) ≡ false)
  of_node x y same born = subst (λ z. HasWon r.stages (card z) × (is_delete (r.stages (card z)) ≡ false)) same
      (born_won (r.stages (card x)) (x % 4) born, born_is_put (r.stages (card x)) (x % 4) born)

  -- a node that was met
  met : (x : ℕ) → IsTold v (Met x) → HasWon r.stages (card x) × (is_delete (r.stages (card x)) ≡ false)
  met x told = of_node x x refl ((r.views id v here).entries (Met x) told)

  -- a card that is known flagged or marked
  pub known : (c : ℕ) → KnowsCard v c → HasWon r.stages c
  known c (inl k) = insert_is_won (r.stages c) ((mine_sound plan s r id v here).facts (fact.IFlagged c) k)
  known c (inr (inl k)) = delete_is_won (r.stages c) ((mine_sound plan s r id v here).facts (fact.DFlagged c) k)
  known c (inr (inr k)) = marked_is_won (r.stages c) ((mine_sound plan s r id v here).facts (fact.Marked c) k)

  -- it says the word for which a pass that knows it may ask
  asked : (c : ℕ) (f : Field) → KnowsSaying v c f → HasWon r.stages c × (says (r.stages c) f ≡ true)
  asked c f (inl (k, said)) =
      let insert = insert_won-insert (r.stages c) ((mine_sound plan s r id v here).facts (fact.IFlagged c) k) in
      (known c (inl k), says_by false (r.stages c) (insert_is_put (r.stages c) insert) f ∙ said)
  asked c f (inr (k, said)) = (known c (inr k), says_by true (r.stages c) (is_known_delete plan s r id v here c k) f ∙ said)

  root : HasWon r.stages 0 × (is_delete (r.stages 0) ≡ false)
  root =
      let start = ap (λ st. is_start st) r.invariant.words.opening in
      (start_won (r.stages 0) start, start_is_put (r.stages 0) start)

  pub touched_won : (c : Call) → May plan c v → WonUnlessFilled r.stages c
  touched_won (call.Upd x) may = of_node x x refl (stands_born plan s r id v here x may.stands)
  touched_won (call.Down x right) may = of_node x x refl (stands_born plan s r id v here x may.stands)
  touched_won (call.KeyOf x) may = met x may
  touched_won (call.ValueOf x) may = met x may.0
  touched_won (call.Info c f) may = asked c f may.knows
  touched_won (call.FrozenChild c p right) may =
      of_node (r.words.p c) p (told_is plan s r id v here c field.P p may.place) (known_delete plan s r id v here c (inr may.knows)).parent.born
  touched_won (call.LookDown from to right) may = met from.node may.met
  touched_won (call.Fill c f value) may = tt
  touched_won (call.IFlag c p from) may =
      let same = mine_is plan s r id v here in
      of_node may.parent.node p may.node
      ((relies plan s r id v here).parent may.leaf may.parent (ap (λ (z : Worker). z.search.node) same ∙ may.stands)
      (ap (λ (z : Worker). z.search.parent) same ∙ may.behind)).node.born
  touched_won (call.DFlag c gp from) may =
      let same = mine_is plan s r id v here in
      of_node may.grandparent.node gp may.node
      ((relies plan s r id v here).grandparent may.leaf may.parent may.grandparent (ap (λ (z : Worker). z.search.node) same ∙ may.stands)
      (ap (λ (z : Worker). z.search.parent) same ∙ may.behind) (ap (λ (z : Worker). z.search.grandparent) same ∙ may.above)).node.born
  touched_won (call.IChild c p l replaces right) may =
      of_node (r.words.p c) p (told_is plan s r id v here c field.P p may.parent) (insert_flagged plan s r id v here c may.knows).parent.born
  touched_won (call.IUnflag c p) may =
      of_node (r.words.p c) p (told_is plan s r id v here c field.P p may.place) (insert_changed plan s r id v here c may.knows).parent.born
  touched_won (call.Mark c p was) may =
      of_node (r.words.p c) p (told_is plan s r id v here c field.P p may.0.place) (known_delete plan s r id v here c (inl may.0.knows)).parent.born
  touched_won (call.DChild c gp p y right) may =
      of_node (r.words.gp c) gp (told_is plan s r id v here c field.Gp gp may.grandparent) (known_delete plan s r id v here c (inr may.knows)).grandparent.born
  touched_won (call.DUnflag c gp) may =
      of_node (r.words.gp c) gp (told_is plan s r id v here c field.Gp gp may.place) (delete_cut plan s r id v here c may.knows).grandparent.born
  touched_won (call.Backtrack c gp) may =
      of_node (r.words.gp c) gp (told_is plan s r id v here c field.Gp gp may.place) (delete_unmarkable plan s r id v here c may.knows).grandparent.born
  touched_won _ may = root

-- the card that a call touches was not discarded
kept_off : (plan : TablePlan) (s : TableState) (r : HasMachine plan s) (seat : ℕ) (v : View) → get_elem? s.views seat ≡ some v → (c : Call) → May plan c v
    → (d : ℕ) → IsDiscarded r.stages s.views d → card_touched (touched_by c) ≢ d
kept_off plan s r seat v there (call.Fill c f value) may d discarded is = discarded.nobody seat v there (may.holds ∙ ap Some is)
kept_off plan s r seat v there c may d discarded is = discarded_not_won plan s r d discarded (subst (HasWon r.stages) is (touched_won plan s r seat v there c may).0)

-- no call touches a word of a card that was discarded
pub discarded_untouched : (plan : TablePlan) (s : TableState) (r : HasMachine plan s) (seat : ℕ) (v : View) → get_elem? s.views seat ≡ some v → (c : Call) → May plan c v
    → (d : ℕ) (f : Field) → word_of c ≡ address d f → ¬ IsDiscarded r.stages s.views d
discarded_untouched plan s r seat v there c may d f at discarded = elim (spots c) [
  | inl claim ↦ no_claim d f (sym at ∙ claim.1)
  | inr spot ↦ kept_off plan s r seat v there c may d discarded (addresses_apart (card_touched (touched_by c)) d spot.0 f (sym spot.1 ∙ at)).0
]

-- nor does a call after turns since then
pub calls_touch_no_discarded_card : CallsTouchNoDiscardedCard
calls_touch_no_discarded_card plan s seat c begun made r turns now run v there next may d f at discarded =
    let on = (discarded_in_run plan s r d discarded (Makes seat c ∷ turns) now (begun, made, run)).0 in
    discarded_untouched plan now on.0 seat v there next may d f at on.1

-- a card that was claimed is one of the table's
pub claimed_within : (plan : TablePlan) (s : TableState) (r : HasMachine plan s) (c : ℕ) → is_claimed (r.stages c) ≡ true → c ≤ plan.last_card
claimed_within plan s r c claimed = (let below = (r.invariant.words.cards c).claimed.0 claimed in let limit = r.invariant.limit in omega arith)

-- so is the card that a call touches
touched_within : (plan : TablePlan) (s : TableState) (r : HasMachine plan s) (seat : ℕ) (v : View) → get_elem? s.views seat ≡ some v → (c : Call) → May plan c v
    → card_touched (touched_by c) ≤ plan.last_card
touched_within plan s r seat v there (call.Fill c f value) may =
    claimed_within plan s r c (waits-claimed (r.stages c) (hand_waits r.words r.stages (worker_of v.worker) c (mine_sound plan s r seat v there) may.holds may.unflagged))
touched_within plan s r seat v there c may = claimed_within plan s r (card_touched (touched_by c)) (touched_won plan s r seat v there c may).0.0

-- so no call of a pass touches a word of a card whose nodes were all out when it forgot what it was told
pub calls_touch_nothing_out : (plan : TablePlan) (s : TableState) → IsReached plan s
    → (seat : ℕ) (c : Call) (begun : TableState) → CallIsMade plan s seat c begun → forgets c ≡ true
    → (r : HasMachine plan s) (has : HasUses (machine_of_table plan s r))
    → (turns : List Turn) (now : TableState) → TableRun plan begun turns now
    → (v : View) → get_elem? now.views seat ≡ some v → (next : Call) → May plan next v
    → (d : ℕ) (f : Field) → word_of next ≡ address d f → ((k : ℕ) → k < 3 → IsOut plan s r has (4 * d + k)) → ⊥
calls_touch_nothing_out plan s reached seat c begun made anew r has turns now run v there next may d f at out =
    by (out 0 (omega arith)) (out 1 (omega arith)) (out 2 (omega arith))
  where
    off : (k : ℕ) → card (4 * d + k) ≡ d → IsDiscarded r.stages s.views (card (4 * d + k)) → ⊥
    off k is discarded = calls_touch_no_discarded_card plan s seat c begun made r turns now run v there next may d f at (subst (IsDiscarded r.stages s.views) is discarded)

    past : (k : ℕ) → card (4 * d + k) ≡ d → plan.last_card < card (4 * d + k) → ⊥
    past k is far =
        let on = (turns_keep_dead plan s r has (Makes seat c ∷ turns) now (begun, made, run)).0 in
        elim (spots next) [
          | inl claim ↦ no_claim d f (sym at ∙ claim.1)
          | inr spot ↦
              let same = (addresses_apart (card_touched (touched_by next)) d spot.0 f (sym spot.1 ∙ at)).0 in
              let low = touched_within plan now on seat v there next may in
              absurd (omega arith)
        ]

    by : IsOut plan s r has (4 * d + 0) → IsOut plan s r has (4 * d + 1) → IsOut plan s r has (4 * d + 2) → ⊥
    by (is_discarded is) _ _ = off 0 (omega arith) is
    by (is_beyond is) _ _ = past 0 (omega arith) is
    by (is_dead a) (is_discarded is) _ = off 1 (omega arith) is
    by (is_dead a) (is_beyond is) _ = past 1 (omega arith) is
    by (is_dead a) (is_dead b) (is_discarded is) = off 2 (omega arith) is
    by (is_dead a) (is_dead b) (is_beyond is) = past 2 (omega arith) is
    by (is_dead a) (is_dead b) (is_dead e) = calls_touch_no_dead_card plan s reached seat c begun made anew r has turns now run v there next may d f at (
      subst (IsDead r.words has.outs.stages) (omega arith) a,
      b,
      e,
    )

-- the claim word of a tree is one that memory holds whole
pub claim_is_word : (plan : TablePlan) (s : TableState) → HasMachine plan s → get_or s.words 0 0 < 2 ^ 64
claim_is_word plan s r = let is = r.next in let low = r.invariant.limit in let limit = r.limit in omega (arith, is, low, limit)

-- a pass is at rest, or it is pinned, and forgot what it was told when that was dead which was so when it was pinned
abbrev pub IsReady : (plan : TablePlan) → TableState → ℕ → Known → (ℕ → ℕ → Bool) → Type 0
IsReady plan tree id k was_dead =
    IsAtRest k.tree
    ⊎ ((q : ℕ) × (a : ℕ) × (k.participant.announcement ≡ Some q) × (k.participant.announced ≡ Some a) × ForgotWhen plan tree id (was_dead q))

-- what a pass at rest touches is the root's
at_root : (x : Touched) → IsTheRoots x → card_touched x ≡ 0
at_root (AtNode x) is = omega arith
at_root (OfCard c) is = absurd is
at_root AtRoot is = refl

module _ (plan : TablePlan) (s : Slots) (tree : TableState) (t : WholeState) (r : HasMachine plan tree) (lie : ℕ → ℕ) (dead : ℕ → Bool) (was_dead : ℕ → ℕ → Bool)
    (refines : Refines s tree t r.stages lie dead was_dead) (id : ℕ) (k : Known) (here : get_elem? t.views id ≡ some k) (there : get_elem? tree.views id ≡ some k.tree)
    (ready : IsReady plan tree id k was_dead) (c : Call) (may : May plan c k.tree) where
  abbrev d : ℕ
  d = card_touched (touched_by c)

  root_lies : d ≡ 0 → LiesThere s lie d
  root_lies e = subst (LiesThere s lie) (sym e) (omega arith, refines.root)

  -- it was not dead when the pass was pinned
  was_alive : (q : ℕ) → ForgotWhen plan tree id (was_dead q) → (f : Field) → word_of c ≡ address d f → was_dead q d ≡ false
  was_alive q forgot f is = by (was_dead q d) refl
    where
      by : (b : Bool) → was_dead q d ≡ b → b ≡ false
      by false e = refl
      by true e = absurd (calls_touch_nothing_out plan forgot.from forgot.reached id forgot.call forgot.begun forgot.made forgot.anew forgot.were.machine forgot.were.uses
          forgot.turns tree forgot.run k.tree there c may d f is (λ i few. forgot.were.each d i few e))

  -- so a card that has won its flag lies there
  lies_won : HasWon r.stages d → LiesThere s lie d
  lies_won has = elim (spots c) [
    | inl claim ↦ root_lies claim.0
    | inr spot ↦ elim ready [
      | inl rest ↦ root_lies (at_root (touched_by c) (rest_touches_the_root plan k.tree rest c may))
      | inr pinned ↦ refines.lives id pinned.0 pinned.1 d k here pinned.2 pinned.3 has (was_alive pinned.0 pinned.4 spot.0 spot.1)
    ]
  ]

  -- and what it says is there
  finds_won : HasWon r.stages d → ((f : Field) → IsField c f → says (r.stages d) f ≡ true) → get_or t.words (place_of c) 0 ≡ cut_by c (found_by tree c)
  finds_won has said = elim (spots c) [
    | inl claim ↦ ap (λ i. get_or t.words i 0) claim.2 ∙ (refines.claim ∙ (sym (cut_same (get_or tree.words 0 0) (claim_is_word plan tree r))
        ∙ (ap (λ i. cut_word (get_or tree.words i 0)) (sym claim.1) ∙ sym (claim.3 (found_by tree c)))))
    | inr spot ↦
        let lies = lies_won has in
        ap (λ i. get_or t.words i 0) spot.2
        ∙ (refines.at (slot_of d) spot.0 lies.0 (won (subst (HasWon r.stages) (sym lies.1) has) (ap (λ e. says (r.stages e) spot.0) lies.1 ∙ said spot.0 spot.3))
        ∙ (ap (λ e. cut_field spot.0 (get_or tree.words (address e spot.0) 0)) lies.1
        ∙ (ap (λ i. cut_field spot.0 (get_or tree.words i 0)) (sym spot.1) ∙ sym (spot.4 (found_by tree c)))))
  ]

  inside : LiesThere s lie d → place_of c < table_size s.last
  inside lies = elim (spots c) [
    | inl claim ↦ (let at = claim.2 in omega arith)
    | inr spot ↦ subst (λ i. i < table_size s.last) (sym spot.2) (address_in_table s.last (slot_of d) spot.0 lies.0).1
  ]

pub touched_lies : (plan : TablePlan) (s : Slots) (tree : TableState) (t : WholeState) (r : HasMachine plan tree) (lie : ℕ → ℕ) (dead : ℕ → Bool) (was_dead : ℕ → ℕ → Bool)
    → Refines s tree t r.stages lie dead was_dead → (id : ℕ) (k : Known) → get_elem? t.views id ≡ some k → get_elem? tree.views id ≡ some k.tree
    → IsReady plan tree id k was_dead → (c : Call) → May plan c k.tree → MayInMemory s k.participant.slot k.participant.retired k.tree c → LiesThere s lie (card_touched (touched_by c))
touched_lies plan s tree t r lie dead was_dead refines id k here there ready (call.Fill c f value) may mem = refines.hand id c k here mem (may.holds, may.unflagged)
touched_lies plan s tree t r lie dead was_dead refines id k here there ready c may mem =
    lies_won plan s tree t r lie dead was_dead refines id k here there ready c may (touched_won plan tree r id k.tree there c may).0

touched_finds : (plan : TablePlan) (s : Slots) (tree : TableState) (t : WholeState) (r : HasMachine plan tree) (lie : ℕ → ℕ) (dead : ℕ → Bool) (was_dead : ℕ → ℕ → Bool)
    → Refines s tree t r.stages lie dead was_dead → (id : ℕ) (k : Known) → get_elem? t.views id ≡ some k → get_elem? tree.views id ≡ some k.tree
    → IsReady plan tree id k was_dead → (c : Call) → May plan c k.tree → FindsRefined t.words tree c
touched_finds plan s tree t r lie dead was_dead refines id k here there ready (call.Fill c f value) may = tt
touched_finds plan s tree t r lie dead was_dead refines id k here there ready c may =
    let has = touched_won plan tree r id k.tree there c may in
    finds_won plan s tree t r lie dead was_dead refines id k here there ready c may has.0 (says_field r.stages c has)

-- the word that a call touches has what the tree has
pub touched_refines : (plan : TablePlan) (s : Slots) (tree : TableState) (t : WholeState) (r : HasMachine plan tree) (lie : ℕ → ℕ) (dead : ℕ → Bool) (was_dead : ℕ → ℕ → Bool)
    → Refines s tree t r.stages lie dead was_dead → (id : ℕ) (k : Known) → get_elem? t.views id ≡ some k → get_elem? tree.views id ≡ some k.tree
    → IsReady plan tree id k was_dead → (c : Call) → May plan c k.tree → MayInMemory s k.participant.slot k.participant.retired k.tree c → TouchesRefined s lie t.words tree c
touched_refines plan s tree t r lie dead was_dead refines id k here there ready c may mem =
    let lies = touched_lies plan s tree t r lie dead was_dead refines id k here there ready c may mem in record {
      inside = inside plan s tree t r lie dead was_dead refines id k here there ready c may lies;
      lies = lies;
      finds = touched_finds plan s tree t r lie dead was_dead refines id k here there ready c may;
    }
