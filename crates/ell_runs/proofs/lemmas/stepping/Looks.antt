use Rattle.std.proofs.Common.{◌≡◌, ◌≢◌, ◌↔◌, ℕ, ◌<◌, ◌≤◌, ◌==◌, ◌%◌, if◌then◌else◌, eqb-true, eq-eqb, nat_le, Bool, true, false, List, ◌∷◌, get_or, Option, Some, None, refl, sym, ap, ◌∙◌, subst, inl, inr, arith}
use Rattle.std.specs.Prelude.{is_some}
use Rattle.std.proofs.lemmas.Bool.{false≢true, cases_eq}
use Rattle.std.proofs.lemmas.Option.{same_Some}
use Rattle.ell_word.specs.declared.update.State.{State}
use Rattle.ell_word.specs.declared.update.State.TheVariants as state
use Rattle.ell_core.specs.declared.fact.Fact.TheVariants.{IOver, DOver, Backed}
use Rattle.ell_core.specs.tree.Tree.{OnWalk, next}
use Rattle.ell_core.specs.tree.Tree as on_walk
use Rattle.ell_core.specs.statements.Walks.{Avoids}
use Rattle.ell_runs.proofs.lemmas.views.Facts.{facts_by_more}
use Rattle.ell_core.specs.statements.Since.{has_ended}
use Rattle.ell_core.proofs.lemmas.stages.Ended.{insert_over-ended, delete_over-ended, backed-ended, insert_over_not_marked, backed_not_marked, insert_open-unended, delete_open-unended}
use mathlib.Core.Option.{some}
use lib.ListN.{get_elem?}
use Rattle.ell_ops.specs.declared.op.Op.{Op}
use Rattle.ell_ops.specs.Meaning.{key_of, greatest_key}
use Rattle.ell_word.specs.Node.{card, IsInternal}
use Rattle.ell_word.specs.Word.{packed, unpacked}
use Rattle.ell_core.specs.declared.event.Act.TheVariants as act
use Rattle.ell_core.specs.declared.event.Stepped.TheVariants.{Moved}
use Rattle.ell_layout.specs.declared.field.Field.TheVariants as field
use Rattle.ell_core.specs.declared.view.Seen.{Seen}
use Rattle.ell_layout.specs.Words.{key_field, value_field, child_field, IsLeaf, has_block}
use Rattle.ell_core.specs.state.Facts.{known_of, learned_any, told_by}
use Rattle.ell_core.specs.declared.view.Entry.{Entry}
use Rattle.ell_core.specs.declared.view.Entry.TheVariants.{Present, Absent}
use Rattle.ell_core.specs.state.Machine.{Worker, worker_of, ledger_of}
use Rattle.ell_layout.specs.Cards.{child_for, is_right, tag_for}
use Rattle.ell_core.specs.acts.Searching.{value_at as value_there}
use Rattle.ell_core.specs.acts.Events.{Happens}
use Rattle.ell_core.specs.history.Stages.{Stage, Opening, Born, insert_open, delete_open, is_marked}
use Rattle.ell_core.specs.statements.StepLaws.{IsReadable}
use Rattle.ell_core.specs.statements.Effects.{value_in, contents_in}
use Rattle.ell_core.proofs.lemmas.outcomes.Decide.{some_not_none}
use Rattle.ell_core.proofs.lemmas.stages.Order.{born_is_node}
use Rattle.ell_layout.proofs.lemmas.Writes.{update_at_node, key_at_node, value_at_leaf, child_word_at_node, key_in_table, value_in_table}
use Rattle.ell_word.proofs.Numbers.{link_back}
use Rattle.ell_runs.specs.Plans.{TablePlan, flat_from}
use Rattle.ell_block.specs.Blocks.{InBlockOf}
use Rattle.ell_core.proofs.lemmas.stages.Edges.{found_block, own_block}
use Rattle.ell_runs.specs.declared.call.Call.TheVariants as call
use Rattle.ell_runs.specs.declared.view.Told.{Told}
use Rattle.ell_runs.specs.declared.view.Told.TheVariants.{Met, Key, Value}
use Rattle.ell_runs.specs.declared.view.View.{View}
use Rattle.ell_runs.specs.Views.{Has, latest, earlier, IsTold, KnewBefore, Does, StandsAt, InTable, EndedBy, EndWasUnknown}
use Rattle.ell_runs.specs.Changes.{places_by, after_upd, is_this}
use Rattle.ell_runs.proofs.lemmas.views.Afters.{after_down, after_next, after_key_of, after_value_of}
use Rattle.ell_runs.proofs.lemmas.views.SeenNodes.{seen_at}
use Rattle.ell_runs.specs.Guards.{MayRead as MayUpd, MayGoDown}
use Rattle.ell_runs.specs.Calls.{TellsKey, TellsLedgerValue, child_address}
use Rattle.ell_runs.specs.States.{TableState}
use Rattle.ell_runs.specs.Machines.{EntryHolds, over_before, HasMachine}
use Rattle.ell_runs.specs.Laws.{IsEvent}
use Rattle.ell_core.proofs.lemmas.words.Packed.{packed_again}
use Rattle.ell_core.proofs.lemmas.stages.Waiting.{born-settled}
use Rattle.ell_runs.proofs.lemmas.views.Entries.{places_more}
use Rattle.ell_runs.proofs.lemmas.seats.Entries.{with_entry, below_holds, places_hold, facts_known}
use Rattle.ell_runs.proofs.lemmas.seats.Seats.{mine, becomes, mine_is, mine_sound, relies, stands_born, born_claimed}
use Rattle.ell_runs.proofs.lemmas.seats.Frames.{looks, kept_told, is_event, is_no_event}
use Rattle.ell_core.specs.tree.Rank.{rank}
use Rattle.ell_word.specs.Link.{linked, link_in, node_bound}
use Rattle.ell_word.specs.declared.link.Link.{Link}
use Rattle.ell_runs.proofs.lemmas.words.Addresses.{update_address, key_address, value_address}

-- an entry that is not present has no value
no_value : (entry : Option Entry) → ((value : ℕ) → entry ≢ Some (Present value)) → value_in entry ≡ None
no_value (Some (Present value)) h = absurd (h value refl)
no_value (Some Absent) h = refl
no_value None h = refl

-- an entry that is present just with the value of a node that has its key
same_value : (entry : Option Entry) (key k value : ℕ) → ((n : ℕ) → ((key ≡ k) × (value ≡ n)) ↔ (entry ≡ Some (Present n)))
    → value_in entry ≡ (if key == k then Some value else None)
same_value entry key k value tells = by (key == k) refl
  where
    by : (b : Bool) → (key == k) ≡ b → value_in entry ≡ (if b then Some value else None)
    by true same = ap value_in ((tells value).0 (eqb-true key k same, refl))
    by false apart = no_value entry (λ n e. false≢true (sym apart ∙ eq-eqb key k ((tells n).1 e).0))

some_if : (b : Bool) (value : ℕ) → is_some (if b then Some value else None) ≡ b
some_if true value = refl
some_if false value = refl

module _ (plan : TablePlan) (s : TableState) (r : HasMachine plan s) (id : ℕ) (v : View) (here : get_elem? s.views id ≡ some v) where
  -- a node that came into the tree has its key in the table
  pub key_listed : (x : ℕ) → Born r.stages x → r.words.key x ≡ get_or s.words (key_address x) 0
  key_listed x born = key_at_node r.words x (born_is_node r.stages x born) ∙ (key_in_table r.words (card x) (x % 4) ∙ sym (r.settled (card x) (key_field (x % 4)) (born-settled (r.stages (card x)) (x % 4) born)))

  -- a leaf its value
  pub value_listed : (x : ℕ) → IsLeaf x → Born r.stages x → r.words.value x ≡ get_or s.words (value_address x) 0
  value_listed x outer born =
      value_at_leaf r.words x (born_is_node r.stages x born) outer
      ∙ (value_in_table r.words (card x) (x % 4) ∙ sym (r.settled (card x) (value_field (x % 4)) (born-settled (r.stages (card x)) (x % 4) born)))

  -- an internal one its child words and its update word
  pub child_listed : (x : ℕ) (right : Bool) → IsInternal x → Born r.stages x
      → linked (record { node = r.words.child x right; tag = r.words.tag x right }) ≡ get_or s.words (child_address x right) 0
  child_listed x right inner born =
      sym (child_word_at_node r.words x right inner) ∙ sym (r.settled (card x) (child_field right) (born-settled (r.stages (card x)) (x % 4) born))

  pub update_listed : (x : ℕ) → IsInternal x → Born r.stages x → r.words.update x ≡ get_or s.words (update_address x) 0
  update_listed x inner born =
      update_at_node r.words x inner ∙ sym (r.settled (card x) field.Update (born-settled (r.stages (card x)) (x % 4) born))

  -- a node that came into the tree is one of the table
  pub born_in_table : (x : ℕ) → Born r.stages x → InTable plan.last_card x
  born_in_table x born = let below = born_claimed plan s r id v here x born in let room = r.invariant.limit in
      let node = born_is_node r.stages x born in omega (arith, node)

  -- so its number is small
  pub born_small : (x : ℕ) → Born r.stages x → x < node_bound
  born_small x born = let there = born_in_table x born in let room = r.limit in omega arith

  -- a child of such a node came into the tree
  pub child_born : (x : ℕ) (right : Bool) → IsInternal x → Born r.stages x → Born r.stages (r.words.child x right)
  child_born x right inner born = (r.invariant.words.children x inner born).born right

  -- a child word is read as the child and its tag
  pub child_read : (x : ℕ) (right : Bool) → IsInternal x → Born r.stages x
      → link_in (get_or s.words (child_address x right) 0) ≡ record { node = r.words.child x right; tag = r.words.tag x right }
  child_read x right inner born = ap link_in (sym (child_listed x right inner born))
      ∙ link_back (r.words.child x right) (r.words.tag x right) (born_small (r.words.child x right) (child_born x right inner born))

  -- the key of the node where the pass stands
  pub here_key : (x key : ℕ) → StandsAt v x → v.here ≡ Some key → r.words.key x ≡ key
  here_key x key at told = let h = r.views id v here in (h.entries (Key x key) (h.here x key at told)).1

  -- the ledger has the operation's key, if that is an own one, as the leaf has it where the pass stands
  leaf_contents : (op : Op) (x : ℕ) → Does v op → StandsAt v x → IsLeaf x → ledger_of v.worker.ledger (key_of op) ≢ None
      → contents_in (ledger_of v.worker.ledger) (key_of op) ≡ value_there r.words x (key_of op)
  leaf_contents op x busy stands outer owns =
      let same = mine_is plan s r id v here in
      same_value (ledger_of v.worker.ledger (key_of op)) (r.words.key x) (key_of op) (r.words.value x)
      (subst (λ (u : Worker). (n : ℕ) → ((r.words.key x ≡ key_of op) × (r.words.value x ≡ n)) ↔ (u.ledger (key_of op) ≡ Some (Present n))) same
      ((relies plan s r id v here).leaf_key op x (ap (λ (u : Worker). u.operation) same ∙ busy)
      (subst (λ (u : Worker). u.ledger (key_of op) ≢ None) (sym same) owns)
      (ap (λ (u : Worker). u.search.node) same ∙ stands) outer))

  -- an update word that was found at a node names a card of the table
  pub names_card : (x n : ℕ) → IsReadable r.words r.stages x → r.words.update x ≡ n → (unpacked n).card ≤ plan.last_card
  names_card x n reads is = subst (λ m. (unpacked m).card ≤ plan.last_card) is
      (let low = reads.names.claimed in let room = r.invariant.limit in omega arith)

  -- what was told with what an update tells at a node
  pub found_entries : (x n : ℕ) (told : List Told) → IsReadable r.words r.stages x → r.words.update x ≡ n
      → ((e : Told) → Has told e → EntryHolds r.words r.stages e)
      → (e : Told) → Has (places_by x (unpacked n).state (unpacked n).card told) e → EntryHolds r.words r.stages e
  found_entries x n told reads is old =
      subst (λ m. (e : Told) → Has (places_by x (unpacked m).state (unpacked m).card told) e → EntryHolds r.words r.stages e) is
      (places_hold r.words r.stages x (unpacked (r.words.update x)).state (unpacked (r.words.update x)).card told
      reads.names.claimed reads.names.place old)

  -- a card at a stage that card 0 never has is a later one
  not_first : (f : Stage → Bool) → f Opening ≡ false → (c : ℕ) → f (r.stages c) ≡ true → 0 < c
  not_first f never c said = elim (cases_eq c 0) [
    | inl e ↦ absurd (false≢true (sym never ∙ (ap f (sym r.invariant.words.opening) ∙ (ap (λ n. f (r.stages n)) (sym e) ∙ said))))
    | inr n ↦ omega arith
  ]

  -- a card whose end the pass knew has ended
  ended_by : (c : ℕ) → EndedBy v.knew_before c → has_ended (r.stages c) ≡ true
  ended_by c (inl k) = insert_over-ended (r.stages c) ((mine_sound plan s r id v here).facts (IOver c) ((r.views id v here).knew (IOver c) k))
  ended_by c (inr (inl k)) = delete_over-ended (r.stages c) ((mine_sound plan s r id v here).facts (DOver c) ((r.views id v here).knew (DOver c) k))
  ended_by c (inr (inr k)) = backed-ended (r.stages c) ((mine_sound plan s r id v here).facts (Backed c) ((r.views id v here).knew (Backed c) k))

  -- where the pass stands it does not stand at a parent that was cut out when its search began
  not_gone : (x c : ℕ) → StandsAt v x → r.words.p c ≡ x → ¬ KnewBefore v (DOver c)
  not_gone x c stands at has = by v.worker.operation refl
    where
      by : (o : Option Op) → v.worker.operation ≡ o → ⊥
      by None e = some_not_none stands (ap (λ (u : Worker). u.search.node) ((mine_sound plan s r id v here).free e))
      by (Some op) e = (r.views id v here).walk op x e stands c has (on_walk.here at)

  -- a card that is marked where the pass stands was not known to have ended when its search began
  mark_unknown : (x c : ℕ) → StandsAt v x → is_marked (r.stages c) ≡ true → r.words.p c ≡ x → ¬ EndedBy v.knew_before c
  mark_unknown x c stands marked at (inl k) =
      insert_over_not_marked (r.stages c) ((mine_sound plan s r id v here).facts (IOver c) ((r.views id v here).knew (IOver c) k)) marked
  mark_unknown x c stands marked at (inr (inl k)) = not_gone x c stands at k
  mark_unknown x c stands marked at (inr (inr k)) =
      backed_not_marked (r.stages c) ((mine_sound plan s r id v here).facts (Backed c) ((r.views id v here).knew (Backed c) k)) marked

  -- nor was the card of any update word that is read there, unless it is clean
  unknown_by : (x : ℕ) → StandsAt v x → IsInternal x → Born r.stages x → (st : State) (c : ℕ) → r.words.update x ≡ packed (record { state = st; card = c })
      → EndWasUnknown v st c
  unknown_by x stands inner born state.IFlag c e calm =
      let stands_open = ((r.invariant.words.updates x inner born).iflagged c e).0 in
      (not_first insert_open refl c stands_open, λ ended. false≢true (sym (insert_open-unended (r.stages c) stands_open) ∙ ended_by c ended))
  unknown_by x stands inner born state.DFlag c e calm =
      let stands_open = ((r.invariant.words.updates x inner born).dflagged c e).0 in
      (not_first delete_open refl c stands_open, λ ended. false≢true (sym (delete_open-unended (r.stages c) stands_open) ∙ ended_by c ended))
  unknown_by x stands inner born state.Mark c e calm =
      let at = (r.invariant.words.updates x inner born).marked c e in
      (not_first is_marked refl c at.0, mark_unknown x c stands at.0 at.1)
  unknown_by x stands inner born state.Clean c e calm = absurd (calm refl)

  read_unknown : (x n : ℕ) → StandsAt v x → IsInternal x → Born r.stages x → r.words.update x ≡ n → EndWasUnknown v (unpacked n).state (unpacked n).card
  read_unknown x n stands inner born is = unknown_by x stands inner born (unpacked n).state (unpacked n).card (is ∙ sym (packed_again n))

  -- upd
  pub keeps_upd : (x : ℕ) → MayUpd v x → IsEvent plan s r id v (call.Upd x)
  keeps_upd x may =
      let n = get_or s.words (update_address x) 0 in
      let after = after_upd x (unpacked n) v in
      let reads = (relies plan s r id v here).reads x (ap (λ (u : Worker). u.search.node) (mine_is plan s r id v here) ∙ may.stands) may.inner in
      let is = update_listed x may.inner reads.born in
      let happens : Happens plan.last_card act.Upd (mine plan s r id v here) Moved (becomes plan s r id v here r.words after) = record {
        owned = λ h. h;
        row = record {
          node = x;
          stands = may.stands;
          internal = may.inner;
          unread = may.unread;
          says = refl;
          gives = λ t. record {
            words = r.words;
            worker = record (worker_of v.worker) {
              search = record (v.worker.search) { read = Some ((packed_again n ∙ sym is) t) };
              knows = (facts_known (unpacked n).state (unpacked n).card v.worker.knows
                  ∙ ap (λ m. learned_any (known_of v.worker.knows) (told_by m)) (sym is)) t;
            };
          };
        };
        room = λ h. h;
      } in
      is_event plan s r id v here (call.Upd x) act.Upd Moved r.words
      (looks plan s r id v here act.Upd Moved after happens (λ c. refl)
      (found_entries x n v.told reads is (r.views id v here).entries)
      (record {
        here = λ y key at told. places_more x (unpacked n).state (unpacked n).card v.told (Key y key) ((r.views id v here).here y key at told);
        hand = λ c has un. (has, un, refl, refl);
        owns = λ k h. h;
        list = refl;
        read = λ m at. at;
        least = refl;
        before = (r.views id v here).knew;
        knew = λ f k. facts_by_more (unpacked n).state (unpacked n).card v.worker.knows f ((r.views id v here).knew f k);
        walk = λ op y busy at. (stands_born plan s r id v here y at, (r.views id v here).walk op y busy at);
      })
      (update_address x))
      refl refl (names_card x n reads is, read_unknown x n may.stands may.inner reads.born is)

  -- down
  pub keeps_down : (x : ℕ) (right : Bool) → MayGoDown v x right → IsEvent plan s r id v (call.Down x right)
  keeps_down x right may =
      let n = get_or s.words (child_address x right) 0 in
      let after = after_down x n v in
      let born = stands_born plan s r id v here x may.stands in
      let link = link_in n in
      let seen : Seen = record { node = x; word = may.word; tag = link.tag } in
      let side : right ≡ is_right r.words x (key_of may.op) =
      may.side ∙ ap (λ k. nat_le k (key_of may.op)) (sym (here_key x may.key may.stands may.told)) in
      let read = child_read x right may.inner born in
      let is : child_for r.words (key_of may.op) x ≡ link.node = ap (r.words.child x) (sym side) ∙ ap (λ (l : Link). l.node) (sym read) in
      let tag_is : link.tag ≡ tag_for r.words (key_of may.op) x = ap (λ (l : Link). l.tag) read ∙ ap (r.words.tag x) side in
      let behind : seen_at x v.worker.search.read link.tag ≡ Some seen = ap (λ o. seen_at x o link.tag) may.read in
      let children = r.invariant.words.children x may.inner born in
      let born_there : Born r.stages link.node = subst (Born r.stages) is (children.born (is_right r.words x (key_of may.op))) in
      let happens : Happens plan.last_card act.Down (mine plan s r id v here) Moved (becomes plan s r id v here r.words after) = record {
        owned = λ h. h;
        row = record {
          op = may.op;
          seen = seen;
          busy = may.busy;
          stands = may.stands;
          internal = may.inner;
          read = may.read;
          no_card = may.no_card;
          tagged = tag_is;
          says = refl;
          gives = λ t. record {
            words = r.words;
            worker = record (worker_of v.worker) {
              search = record { node = Some (sym is t); read = None; parent = behind t; grandparent = v.worker.search.parent };
            };
          };
        };
        room = λ h. h;
      } in
      is_event plan s r id v here (call.Down x right) act.Down Moved r.words
      (looks plan s r id v here act.Down Moved after happens (λ c. refl)
      (below_holds r.words r.stages x link.node v.told born_there may.inner
      (subst (λ y. rank r.words x < rank r.words y) is (children.rising (is_right r.words x (key_of may.op))))
      (r.views id v here).entries)
      (record {
        here = λ y key at told. absurd (some_not_none told refl);
        hand = λ c has un. (has, un, refl, refl);
        owns = λ k h. h;
        list = refl;
        read = λ m at. at;
        least = refl;
        before = (r.views id v here).knew;
        knew = (r.views id v here).knew;
        walk = λ op y busy at.
            let same_op : may.op ≡ op = (let first = may.busy in cc) in
            subst (λ z. Born r.stages z × Avoids r.words (over_before v) (key_of op) z) (same_Some link.node y at) (
              born_there,
              subst (λ o. Avoids r.words (over_before v) (key_of o) link.node) same_op
                  (λ c has on. (r.views id v here).walk may.op x may.busy may.stands c has
                  (next may.inner (subst (λ z. OnWalk r.words (key_of may.op) z (r.words.p c)) (sym is) on))),
            );
      })
      (child_address x right))
      refl refl (born_in_table link.node born_there)

  -- next
  pub keeps_next : IsEvent plan s r id v call.Next
  keeps_next =
      let n = get_or s.words 0 0 in
      let h = r.views id v here in
      let some_card = r.invariant.kinds.some in
      let room = r.invariant.limit in
      let is = r.next in
      is_no_event plan s r id v here call.Next
      (kept_told plan s r id v here (after_next n v) refl (record { entries = h.entries; here = h.here; hand = h.hand; read = λ m at. (let same : n ≡ m = same_Some n m at in omega arith); least = h.least; knew = h.knew; walk = h.walk }) 0)
      refl refl (omega arith, omega arith, (let low = h.least in omega arith))

  -- key_of
  pub keeps_key_of : (x : ℕ) → IsTold v (Met x) → IsEvent plan s r id v (call.KeyOf x)
  keeps_key_of x met =
      let n = get_or s.words (key_address x) 0 in
      let h = r.views id v here in
      let born = h.entries (Met x) met in
      let is = key_listed x born in
      is_no_event plan s r id v here (call.KeyOf x)
      (kept_told plan s r id v here (after_key_of x n v) refl (record {
        entries = with_entry (EntryHolds r.words r.stages) (Key x n) v.told (born, is) h.entries;
        here = λ y key at told. tells n y key at (is_this v.worker.search.node x) refl told (h.here y key at);
        hand = h.hand;
        read = h.read;
        least = h.least;
        knew = h.knew;
        walk = h.walk;
      }) (key_address x))
      refl refl (leaf n is)
    where
      tells : (n y key : ℕ) → v.worker.search.node ≡ Some y → (b : Bool) → is_this v.worker.search.node x ≡ b
          → (if b then Some n else v.here) ≡ Some key → (v.here ≡ Some key → IsTold v (Key y key)) → Has (Key x n ∷ v.told) (Key y key)
      tells n y key at true same told old =
          let eq : x ≡ y = sym (eqb-true y x (sym (ap (λ o. is_this o x) at) ∙ same)) in
          let value : n ≡ key = cc in
          subst (λ z. Has (Key x n ∷ v.told) (Key z key)) eq (subst (λ k. Has (Key x n ∷ v.told) (Key x k)) value (latest (Key x n) v.told))
      tells n y key at false same told old = earlier (Key y key) (Key x n) v.told (old told)

      leaf : (n : ℕ) → r.words.key x ≡ n → TellsKey (flat_from plan) v x n
      leaf n is = record {
        present = λ op busy stands outer owns.
            ap is_some (leaf_contents op x busy stands outer owns) ∙ (some_if (r.words.key x == key_of op) (r.words.value x) ∙ ap (λ k. k == key_of op) is);
        deep = λ op busy stands outer e.
            let sound = mine_sound plan s r id v here in
            let real = sound.real (key_of op) (sound.owned op busy) in
            (sound.stands op x busy stands).deep outer (subst (λ z. z ≤ greatest_key) (sym (is ∙ e)) real);
        edge = λ op busy stands inner has lacks owns.
            let leads = ((mine_sound plan s r id v here).stands op x busy stands).leads owns in
            no_value (ledger_of v.worker.ledger (key_of op)) (λ value present.
            lacks (subst (λ k. InBlockOf k (key_of op)) is
            ((found_block r.words r.stages r.invariant.words (key_of op) x inner ((r.views id v here).entries (Met x) met) ((leads value).1 present)).inner inner
            (ap (λ m. has_block m x) r.shape ∙ has))));
        own = λ inner has.
            subst (λ k. InBlockOf k k) is
            ((own_block r.words r.stages r.invariant.words x inner ((r.views id v here).entries (Met x) met)).inner inner (ap (λ m. has_block m x) r.shape ∙ has));
      }

  -- value_of
  pub keeps_value_of : (x : ℕ) → IsTold v (Met x) → IsLeaf x → IsEvent plan s r id v (call.ValueOf x)
  keeps_value_of x met outer =
      let n = get_or s.words (value_address x) 0 in
      let h = r.views id v here in
      let born = h.entries (Met x) met in
      let is = value_listed x outer born in
      is_no_event plan s r id v here (call.ValueOf x)
      (kept_told plan s r id v here (after_value_of x n v) refl (record {
        entries = with_entry (EntryHolds r.words r.stages) (Value x n) v.told (born, is) h.entries;
        here = λ y key at told. earlier (Key y key) (Value x n) v.told (h.here y key at told);
        hand = h.hand;
        read = h.read;
        least = h.least;
        knew = h.knew;
        walk = h.walk;
      }) (value_address x))
      refl refl (leaf n is)
    where
      leaf : (n : ℕ) → r.words.value x ≡ n → TellsLedgerValue v x n
      leaf n is op busy stands told owns = leaf_contents op x busy stands outer owns
          ∙ (ap (λ b. if b then Some (r.words.value x) else None) (eq-eqb (r.words.key x) (key_of op) (here_key x (key_of op) stands told)) ∙ ap Some is)
