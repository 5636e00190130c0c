use Rattle.std.proofs.Common.{◌≡◌, ◌%◌, ◌≢◌, ℕ, ◌<◌, ◌==◌, if◌then◌else◌, Bool, true, false, List, [], ◌∷◌, ◌++◌, length, get_or, set, refl, sym, ap, ◌∙◌, subst, inl, inr, arith, true≢false, ◌+◌, ◌&&◌, ap₂, eq-eqb, ne_eqb, eqb-true}
use Rattle.std.specs.Prelude.{Some}
use mathlib.Core.Option.{some}
use lib.ListN.{get_elem?}
use Rattle.ell_word.specs.Node.{card, IsInternal}
use Rattle.ell_core.specs.declared.exchange.Exchange.{Exchange}
use Rattle.ell_core.specs.declared.exchange.Exchange.TheVariants as exchange
use Rattle.ell_core.specs.declared.event.Act.{Act}
use Rattle.ell_core.specs.declared.event.Stepped.{Stepped}
use Rattle.ell_core.specs.declared.event.Stepped.TheVariants.{Won, Lost}
use Rattle.ell_core.specs.declared.fact.Fact.{Fact}
use Rattle.ell_layout.specs.declared.field.Field.{Field}
use Rattle.ell_layout.specs.declared.field.Field.TheVariants as field
use Rattle.ell_layout.specs.Layout.{listed, address}
use Rattle.ell_layout.specs.Words.{Words, word, table_word, table_written, relinked, child_field}
use Rattle.ell_core.specs.state.Machine.{worker_of}
use Rattle.ell_layout.specs.Cards.{clean, exchange_side}
use Rattle.ell_core.specs.state.Facts.{learned}
use Rattle.ell_core.specs.acts.Exchanges.{won_or_lost, exchanged_update, exchanged_child, found_child, found_tag, finds_link, knowing}
use Rattle.ell_core.specs.acts.Events.{Happens}
use Rattle.ell_core.specs.history.Stages.{Stages, Born, waits}
use Rattle.ell_core.specs.history.Invariant.{IsInnerBorn}
use Rattle.ell_core.specs.acts.Wins.{wins_by, win_for}
use Rattle.ell_layout.proofs.lemmas.Listed.{address_inside}
use Rattle.ell_runs.specs.Plans.{TablePlan}
use Rattle.ell_runs.specs.declared.view.Told.{Told}
use Rattle.ell_runs.specs.declared.view.Told.TheVariants.{Info, Key, Expects}
use Rattle.ell_runs.specs.declared.view.View.{View}
use Rattle.ell_runs.specs.Views.{IsTold}
use Rattle.ell_runs.specs.Changes.{with_fact, if_won, exchanged}
use Rattle.ell_runs.specs.States.{TableState}
use Rattle.ell_runs.specs.Machines.{EntryHolds, HasMachine}
use Rattle.ell_runs.specs.Calls.{after, next_link}
use Rattle.ell_core.proofs.lemmas.stages.Waiting.{born-settled, waits-wins, first_win}
use Rattle.ell_runs.proofs.lemmas.words.Fields.{write_update_at_node}
use Rattle.ell_runs.proofs.lemmas.seats.Seats.{Leads, leads, kept_event, mine, becomes, stands_born, born_claimed, entries_on}
use Rattle.ell_runs.proofs.lemmas.seats.Frames.{Onward, IsReached, looks, waits_on, view_on, moves_write}
use Rattle.ell_runs.proofs.lemmas.views.Facts.{knows_more}
use Rattle.ell_runs.proofs.lemmas.stepping.Known.{update_found}
use Rattle.std.proofs.lemmas.Bool.{cases_eq}
use Rattle.ell_word.specs.Link.{linked, node_bound}
use Rattle.ell_word.specs.declared.link.Link.{Link}
use Rattle.ell_layout.proofs.lemmas.Writes.{child_written}
use Rattle.ell_word.proofs.Numbers.{same_links}

module _ (plan : TablePlan) (s : TableState) (r : HasMachine plan s) (id : ℕ) (v : View) (here : get_elem? s.views id ≡ some v) where
  -- a field of a node that came into the tree has an address in the table
  pub in_list : (x : ℕ) (f : Field) → Born r.stages x → address (card x) f < length s.words
  in_list x f born =
      let below = born_claimed plan s r id v here x born in
      let room = r.invariant.limit in
      address_inside s.words plan.last_card (card x) f r.size (omega arith)

  -- a word of a card that was told
  pub told_is : (c : ℕ) (f : Field) (x : ℕ) → IsTold v (Info c f x) → word r.words c f ≡ x
  told_is c f x told = ((r.views id v here).entries (Info c f x) told).2

  -- the tag that a card was told to expect
  pub told_tag : (c tag : ℕ) → IsTold v (Expects c tag) → r.words.expects c ≡ tag
  told_tag c tag told = ((r.views id v here).entries (Expects c tag) told).1

  -- the key of a node that was told
  pub told_key : (x key : ℕ) → IsTold v (Key x key) → r.words.key x ≡ key
  told_key x key told = ((r.views id v here).entries (Key x key) told).1

  -- an event that wins no flag takes no card out of waiting
  pub flags_never : (a : Act) (said : Stepped) (new : Words) (after : View) (stages : Stages) → Leads plan s r id v here a said new after stages
      → (k : Exchange) (d : ℕ) → k ≢ exchange.IFlag → k ≢ exchange.DFlag → ((c : ℕ) → wins_by a v.worker.card said c ≡ win_for (Some d) k c)
      → (c : ℕ) → waits (r.stages c) ≡ true → waits (stages c) ≡ false → ⊥
  flags_never a said new after stages led k d not_i not_d wins c wait calm = by (c == d) refl
    where
      by : (b : Bool) → (c == d) ≡ b → ⊥
      by false e = true≢false (sym (waits_on plan s r id v here a said new after stages led c
          (wins c ∙ ap (λ (b : Bool). if b then k ∷ [] else []) e) wait) ∙ calm)
      by true e = elim (first_win (stages c) k (led.wins c ∙ (ap (λ (ks : List Exchange). ks ++ wins_by a v.worker.card said c) (waits-wins (r.stages c) wait)
          ∙ (wins c ∙ ap (λ (b : Bool). if b then k ∷ [] else []) e)))) [ inl i ↦ not_i i | inr i ↦ not_d i ]

  -- the word that an exchange of a field of a card finds
  abbrev pub found_at : ℕ → Field → ℕ
  found_at d g = get_or s.words (address d g) 0

  -- the machine's words after such an exchange
  abbrev pub exchanged_words : ℕ → Field → ℕ → Bool → Words
  exchanged_words d g value won = if won then table_written r.words d g value else r.words

  -- the words that are to be in the list where a win takes a card out of waiting
  abbrev pub Settles : Act → Words → View → Type 0
  Settles a new after = (stages : Stages) → Leads plan s r id v here a Won new after stages
      → (c : ℕ) (f : Field) → waits (r.stages c) ≡ true → waits (stages c) ≡ false → listed s.words c f ≡ table_word r.words c f

  -- the machine after such an exchange
  pub exchange_leads : (a : Act) (d : ℕ) (g : Field) (expected value : ℕ) (view : Bool → View)
      → address d g < length s.words → waits (r.stages d) ≡ false
      → Happens plan.last_card a (mine plan s r id v here) (won_or_lost (found_at d g == expected))
      (becomes plan s r id v here (exchanged_words d g value (found_at d g == expected)) (view (found_at d g == expected)))
      → Settles a (table_written r.words d g value) (view true)
      → ((c : ℕ) → wins_by a v.worker.card Lost c ≡ [])
      → ((b : Bool) (e : Told) → IsTold (view b) e → EntryHolds r.words r.stages e)
      → ((b : Bool) → Onward r.words r.stages v (view b))
      → IsReached plan s r id v here (set s.words (address d g) (if found_at d g == expected then value else found_at d g))
      (exchanged_words d g value (found_at d g == expected)) (view (found_at d g == expected)) a (won_or_lost (found_at d g == expected))
  exchange_leads a d g expected value view fits calm happens settles none entries on = by (found_at d g == expected) happens
    where
      by : (b : Bool) → Happens plan.last_card a (mine plan s r id v here) (won_or_lost b) (becomes plan s r id v here (exchanged_words d g value b) (view b))
          → IsReached plan s r id v here (set s.words (address d g) (if b then value else found_at d g)) (exchanged_words d g value b) (view b) a (won_or_lost b)
      by false h = looks plan s r id v here a Lost (view false) h none (entries false) (on false) (address d g)
      by true h =
          let new = table_written r.words d g value in
          let l = leads plan s r id v here a Won new (view true) h in
          let moves = moves_write plan s r id v here d g value l.0 fits calm (settles l.0 l.1) in record {
            kept = kept_event plan s r id v here a Won new (view true) (set s.words (address d g) value) l.0 l.1 moves
                (view_on plan s r id v here a Won new (view true) (set s.words (address d g) value) l.0 l.1 moves
                (λ e told. entries_on plan s r id v here a Won new (view true) l.0 l.1 e (entries true e told)) (on true)) (on true).owns (on true).list;
            steps = l.1.steps;
          }

  -- what is so of a pass that an exchange taught a fact
  pub learning_on : (new : Fact) (wins : List (Exchange × ℕ)) (n : ℕ) → Onward r.words r.stages v (exchanged wins n (with_fact new v))
  learning_on new wins n = record {
    here = (r.views id v here).here;
    hand = λ c has un. (has, un, refl, refl);
    owns = λ k h. h;
    list = refl;
    read = λ m at. at;
    least = refl;
    before = (r.views id v here).knew;
    knew = λ f k. knows_more new f v.worker.knows ((r.views id v here).knew f k);
    walk = λ op x busy at. (stands_born plan s r id v here x at, (r.views id v here).walk op x busy at);
  }

  -- an exchange that teaches one fact, and wins no flag
  pub teaches : (a : Act) (d : ℕ) (g : Field) (expected value : ℕ) (new : Fact) (k : Exchange) (c : ℕ)
      → address d g < length s.words → waits (r.stages d) ≡ false → k ≢ exchange.IFlag → k ≢ exchange.DFlag
      → ((e : ℕ) → wins_by a v.worker.card Won e ≡ win_for (Some c) k e) → ((e : ℕ) → wins_by a v.worker.card Lost e ≡ [])
      → Happens plan.last_card a (mine plan s r id v here) (won_or_lost (found_at d g == expected))
      (becomes plan s r id v here (exchanged_words d g value (found_at d g == expected)) (with_fact new v))
      → IsReached plan s r id v here (set s.words (address d g) (if found_at d g == expected then value else found_at d g))
      (exchanged_words d g value (found_at d g == expected)) (exchanged (if_won (found_at d g == expected) k c) (found_at d g) (with_fact new v)) a (won_or_lost (found_at d g == expected))
  teaches a d g expected value new k c fits calm not_i not_d wins none happens =
      exchange_leads a d g expected value (λ b. exchanged (if_won b k c) (found_at d g) (with_fact new v)) fits calm happens
      (λ stages led e f wait still. absurd (flags_never a Won (table_written r.words d g value) (exchanged (if_won true k c) (found_at d g) (with_fact new v)) stages led k c not_i not_d wins e wait still))
      none (λ b. (r.views id v here).entries) (λ b. learning_on new (if_won b k c) (found_at d g))

module _ (w : Words) (x y expected value n : ℕ) (same : x ≡ y) (inner : IsInternal x) (is : w.update x ≡ n) where
  -- the exchange of an update word as the machine has it
  pub update_exchanged : (if n == expected then table_written w (card y) field.Update value else w) ≡ exchanged_update w x expected value
  update_exchanged = λ t. if sym is t == expected then (ap (λ z. table_written w (card z) field.Update value) (sym same) ∙ write_update_at_node w x value inner) t else w

  pub update_says : won_or_lost (n == expected) ≡ won_or_lost (w.update x == expected)
  update_says = ap (λ m. won_or_lost (m == expected)) (sym is)

module _ (w : Words) (x y : ℕ) (expected : Link) (q n : ℕ) (right : Bool) (same : x ≡ y) (inner : IsInternal x)
    (side : exchange_side w x q ≡ right) (is : linked (record { node = w.child x right; tag = w.tag x right }) ≡ n)
    (small : w.child x right < node_bound) (expected_small : expected.node < node_bound) (new_small : q < node_bound) where
  -- a child word is the expected one if child and tag are
  same_link : n ≡ linked expected → (w.child x right ≡ expected.node) × (w.tag x right ≡ expected.tag)
  same_link e = same_links (w.child x right) (w.tag x right) expected.node expected.tag small expected_small (is ∙ e)

  -- so a table finds it where the machine does
  finds_is : (n == linked expected) ≡ finds_link w x expected q
  finds_is = elim (cases_eq n (linked expected)) [
    | inl e ↦ (let both = same_link e in
        eq-eqb n (linked expected) e
        ∙ sym (ap₂ (λ a b. a && b) (eq-eqb (found_tag w x q) expected.tag (ap (w.tag x) side ∙ both.1))
        (eq-eqb (found_child w x q) expected.node (ap (w.child x) side ∙ both.0))))
    | inr m ↦ ne_eqb n (linked expected) m ∙ sym (by (found_tag w x q == expected.tag) (found_child w x q == expected.node) refl refl m)
  ]
    where
      by : (a b : Bool) → (found_tag w x q == expected.tag) ≡ a → (found_child w x q == expected.node) ≡ b → n ≢ linked expected → (a && b) ≡ false
      by false b tag child m = refl
      by true false tag child m = refl
      by true true tag child m = absurd (m (sym is ∙ λ t. linked (record {
        node = (ap (w.child x) (sym side) ∙ eqb-true (found_child w x q) expected.node child) t;
        tag = (ap (w.tag x) (sym side) ∙ eqb-true (found_tag w x q) expected.tag tag) t;
      })))

  -- the exchange of a child word as the machine has it
  pub child_exchanged : (if n == linked expected then table_written w (card y) (child_field right) (linked (next_link expected q)) else w)
      ≡ exchanged_child w x expected q
  child_exchanged = by (n == linked expected) refl ∙ ap (λ (b : Bool). if b then relinked w x (exchange_side w x q) q else w) finds_is
    where
      by : (b : Bool) → (n == linked expected) ≡ b
          → (if b then table_written w (card y) (child_field right) (linked (next_link expected q)) else w)
          ≡ (if b then relinked w x (exchange_side w x q) q else w)
      by false e = refl
      by true e =
          let tag = (same_link (eqb-true n (linked expected) e)).1 in
          ap (λ z. table_written w (card z) (child_field right) (linked (next_link expected q))) (sym same)
          ∙ (ap (λ t. table_written w (card x) (child_field right) (linked (record { node = q; tag = t + 1 }))) (sym tag)
          ∙ (child_written w x right q (w.tag x right + 1) new_small inner ∙ ap (λ (b : Bool). relinked w x b q) (sym side)))

  pub child_says : won_or_lost (n == linked expected) ≡ won_or_lost (finds_link w x expected q)
  child_says = ap won_or_lost finds_is

module _ (plan : TablePlan) (s : TableState) (r : HasMachine plan s) (id : ℕ) (v : View) (here : get_elem? s.views id ≡ some v) where
  -- an exchange of a flag of card c for a clean word, at node x, which was told to be y: it teaches one fact, and its row follows from
  -- what it says and gives
  pub unflags : (a : Act) (c x y flag : ℕ) (new : Fact) (k : Exchange) → x ≡ y → IsInnerBorn r.stages x → k ≢ exchange.IFlag → k ≢ exchange.DFlag
      → ((e : ℕ) → wins_by a v.worker.card Won e ≡ win_for (Some c) k e) → ((e : ℕ) → wins_by a v.worker.card Lost e ≡ [])
      → (won_or_lost (found_at plan s r id v here (card y) field.Update == flag) ≡ won_or_lost (r.words.update x == flag)
      → becomes plan s r id v here (exchanged_words plan s r id v here (card y) field.Update (clean c) (found_at plan s r id v here (card y) field.Update == flag)) (with_fact new v)
      ≡ record { words = exchanged_update r.words x flag (clean c); worker = knowing (worker_of v.worker) (learned (worker_of v.worker).knows new) }
      → Happens plan.last_card a (mine plan s r id v here) (won_or_lost (found_at plan s r id v here (card y) field.Update == flag))
      (becomes plan s r id v here (exchanged_words plan s r id v here (card y) field.Update (clean c) (found_at plan s r id v here (card y) field.Update == flag)) (with_fact new v)))
      → IsReached plan s r id v here
      (set s.words (address (card y) field.Update) (if found_at plan s r id v here (card y) field.Update == flag then clean c else found_at plan s r id v here (card y) field.Update))
      (exchanged_words plan s r id v here (card y) field.Update (clean c) (found_at plan s r id v here (card y) field.Update == flag))
      (exchanged (if_won (found_at plan s r id v here (card y) field.Update == flag) k c) (found_at plan s r id v here (card y) field.Update) (with_fact new v)) a (won_or_lost (found_at plan s r id v here (card y) field.Update == flag))
  unflags a c x y flag new k same node not_i not_d wins none happens =
      let n = found_at plan s r id v here (card y) field.Update in
      let born = subst (Born r.stages) same node.born in
      let is = update_found plan s r id v here x y same node.inner node.born in
      teaches plan s r id v here a (card y) field.Update flag (clean c) new k c
      (in_list plan s r id v here y field.Update born) (born-settled (r.stages (card y)) (y % 4) born) not_i not_d wins none
      (happens (update_says r.words x y flag (clean c) n same node.inner is)
      (λ t. record { words = update_exchanged r.words x y flag (clean c) n same node.inner is t; worker = worker_of (with_fact new v).worker }))
