use Rattle.std.proofs.Common.{◌≡◌, ◌≢◌, ◌==◌, ℕ, ◌+◌, ◌%◌, ◌<◌, ◌≤◌, if◌then◌else◌, Bool, true, false, List, [], ◌∷◌, ◌++◌, length, get_or, set, Some, None, refl, sym, ap, ◌∙◌, subst, inl, inr, arith, eqb-true, true≢false, length-set, get_or-set_same, get_or-set_other, eq-eqb, nat_lt}
use Rattle.ell_core.specs.history.Later.{StagesLater, wins_of}
use Rattle.std.specs.Prelude.{unwrap_or, Option}
use Rattle.std.proofs.lemmas.Option.{same_Some}
use Rattle.ell_core.specs.declared.put.Put.{Put}
use Rattle.ell_core.specs.declared.view.Seen.{Seen}
use Rattle.ell_core.specs.acts.Searching.{put_of, GivesPlace, MayTake}
use Rattle.ell_core.proofs.lemmas.keeping.Puts.{added, replacing}
use Rattle.ell_core.specs.statements.Told.{is_fixed}
use Rattle.ell_runs.specs.Plans.{TablePlan, flat_from}
use Rattle.ell_runs.specs.Views.{earlier}
use mathlib.Core.Option.{some}
use lib.ListN.{get_elem?}
use Rattle.ell_ops.specs.declared.op.Op.{Op}
use Rattle.ell_ops.specs.Meaning.{key_of}
use Rattle.ell_ops.specs.declared.op.Op.TheVariants.{Find, Insert, Delete, Swap}
use Rattle.ell_core.specs.declared.exchange.Exchange.{Exchange}
use Rattle.ell_core.specs.declared.exchange.Exchange.TheVariants as exchange
use Rattle.ell_core.specs.declared.event.Act.TheVariants as act
use Rattle.ell_core.specs.declared.event.Stepped.TheVariants.{Moved}
use Rattle.ell_layout.specs.declared.field.Field.{Field}
use Rattle.ell_layout.specs.declared.field.Field.TheVariants as field
use Rattle.ell_layout.specs.Layout.{address, listed}
use Rattle.ell_layout.specs.Words.{Words, IsLeaf, has_block, word, table_word, is_flat}
use Rattle.ell_core.specs.state.Machine.{Worker, worker_of}
use Rattle.ell_layout.specs.Cards as layout
use Rattle.ell_layout.specs.Cards.{delete_filling, claimed, stored, tagged_for}
use Rattle.ell_block.specs.Blocks.{InBlockOf}
use Rattle.ell_word.specs.Node.{IsInternal}
use Rattle.ell_core.specs.tree.Flat.{IsInBlock, IsNodeKey}
use Rattle.ell_core.specs.statements.StepLaws.{HasSeen}
use Rattle.ell_core.specs.acts.Events.{Row, Happens}
use Rattle.ell_core.specs.history.Stages.{Stages, is_claimed, waits}
use Rattle.ell_core.proofs.lemmas.stages.Waiting.{kind-waits, unclaimed-no_start, unclaimed-wins, unclaimed-settled, waits-claimed}
use Rattle.ell_core.proofs.lemmas.following.waiting.Cards.{claimed_cards_say}
use Rattle.ell_core.proofs.lemmas.following.facts.Claimed.{not_claimed}
use Rattle.ell_core.proofs.lemmas.outcomes.Decide.{some_not_none}
use Rattle.ell_layout.proofs.lemmas.Stored.{claimed_stored}
use Rattle.ell_layout.proofs.lemmas.Writes.{put_same}
use Rattle.ell_core.proofs.lemmas.keeping.claim.Filling.{claimed_claims, others_say}
use Rattle.ell_runs.specs.declared.call.Call.TheVariants as call
use Rattle.ell_runs.specs.declared.call.NewNode.{NewNode}
use Rattle.ell_runs.specs.declared.view.Told.{Told}
use Rattle.ell_runs.specs.declared.view.Told.TheVariants.{Key, Info, Value, Expects}
use Rattle.ell_runs.specs.declared.view.View.{View}
use Rattle.ell_runs.specs.Views.{Has}
use Rattle.ell_runs.specs.Changes.{told_value, value_told, told_filling, filling_for, filling_of, after_claim, tagged, tag_of_claim, expected_tag}
use Rattle.ell_runs.specs.Guards.{MayClaim, Wants, WantsInsert}
use Rattle.ell_runs.specs.States.{TableState, seated}
use Rattle.ell_runs.specs.Machines.{EntryHolds, HasMachine}
use Rattle.ell_runs.specs.Laws.{act_wins, IsEvent}
use Rattle.ell_runs.specs.Calls.{Becomes}
use Rattle.ell_runs.proofs.lemmas.words.Fields.{table_says, table_blank}
use Rattle.ell_runs.proofs.lemmas.views.Entries.{filling_more}
use Rattle.ell_runs.proofs.lemmas.seats.Entries.{with_entry, told_value_is}
use Rattle.ell_runs.proofs.lemmas.seats.Seats.{machine, leads, kept_event, mine, mine_is, relies, becomes, mine_sound, stands_born, over_cut, walk_on, entries_on}
use Rattle.ell_runs.proofs.lemmas.seats.Frames.{IsReached, waits_on, kept_told, same_machine}
use Rattle.ell_runs.proofs.lemmas.stepping.Looks.{here_key}

-- what holds of a card's word is told of it
fixed_holds : (w : Words) (stage : Stages) (c : ℕ) (f : Field) (x : ℕ) (told : List Told) → c < w.next → word w c f ≡ x
    → ((e : Told) → Has told e → EntryHolds w stage e) → (e : Told) → Has (if is_fixed f then Info c f x ∷ told else told) e → EntryHolds w stage e
fixed_holds w stage c field.Left x told low is old = old
fixed_holds w stage c field.Right x told low is old = old
fixed_holds w stage c field.Update x told low is old = old
fixed_holds w stage c f x told low is old = with_entry (EntryHolds w stage) (Info c f x) told (low, refl, is) old

-- a card says each entry of a list
abbrev Says : Words → ℕ → List (Field × ℕ) → Type 0
Says w c [] = Unit {0}
Says w c (e ∷ es) = (word w c e.0 ≡ e.1) × Says w c es

filling_holds : (w : Words) (stage : Stages) (c : ℕ) (es : List (Field × ℕ)) (told : List Told) → c < w.next → Says w c es
    → ((e : Told) → Has told e → EntryHolds w stage e) → (e : Told) → Has (told_filling c es told) e → EntryHolds w stage e
filling_holds w stage c [] told low says old = old
filling_holds w stage c (d ∷ es) told low says old =
    fixed_holds w stage c d.0 d.1 (told_filling c es told) low says.0 (filling_holds w stage c es told low says.1 old)

-- the view after a won claim, with this filling, where the card expects this tag
abbrev taking : ℕ → ℕ → List (Field × ℕ) → View → View
taking c tag es v = record v {
  worker = record (v.worker) { card = Some c; flagged = false };
  told = Expects c tag ∷ told_filling c es v.told;
  planned = tagged tag es;
  stores = [];
  won = (exchange.Claim, c) ∷ v.won;
  next_at_least = c + 1;
  made = v.made + 1;
}

-- what fills a card for an operation that puts something
pub put_filling : (op : Op) (what : Put) → put_of op ≡ Some what → (c : ℕ) (node : NewNode) (below : ℕ) (parent : Seen) (above : Option Seen) (key : ℕ) (value_of : ℕ → ℕ)
    → layout.put_filling node.flat c what.key what.value node.key parent.node below key (value_of below)
    ≡ filling_for c node (Some op) (Some below) (Some parent) above key value_of
put_filling (Find k) what e c node below parent above key value_of = absurd cc
put_filling (Insert k value) what e c node below parent above key value_of =
    ap (λ (t : Put). layout.put_filling node.flat c t.key t.value node.key parent.node below key (value_of below)) (sym (same_Some (added k value) what e))
put_filling (Delete k) what e c node below parent above key value_of = absurd cc
put_filling (Swap k was value) what e c node below parent above key value_of =
    ap (λ (t : Put). layout.put_filling node.flat c t.key t.value node.key parent.node below key (value_of below)) (sym (same_Some (replacing k was value) what e))

-- the value that was told of a leaf, as that is told in the machine; an internal node has none
told_below : (w : Words) (told : List Told) (x : ℕ) → (IsLeaf x → told_value told x ≡ w.value x) → value_told told x ≡ layout.value_below w x
told_below w told x outer = by (x % 4 == 0) refl
  where
    by : (b : Bool) → (x % 4 == 0) ≡ b → (if b then 0 else told_value told x) ≡ (if b then 0 else w.value x)
    by true inner = refl
    by false leaf = outer (λ e. true≢false (sym (eq-eqb (x % 4) 0 e) ∙ leaf))

-- the tag that it expects is the one that its search read at the parent
put_tag : (op : Op) (what : Put) → put_of op ≡ Some what → (parent : Seen) (above : Option Seen) → parent.tag ≡ tag_of_claim (Some op) (Some parent) above
put_tag (Find k) what e parent above = absurd cc
put_tag (Insert k value) what e parent above = refl
put_tag (Delete k) what e parent above = absurd cc
put_tag (Swap k was value) what e parent above = refl

-- a filling whose words in a table are these
abbrev IsTagged : ℕ → List (Field × ℕ) → Type 0
IsTagged tag es = (f : Field) → tagged_for f tag (stored es f 0) ≡ stored (tagged tag es) f 0

-- so are those of an insert or a swap
insert_tagged : (flat : Bool) (tag c k value node_key parent below below_key below_value : ℕ)
    → IsTagged tag (layout.put_filling flat c k value node_key parent below below_key below_value)
insert_tagged flat tag c k value node_key parent below below_key below_value field.Gp = refl
insert_tagged flat tag c k value node_key parent below below_key below_value field.P = refl
insert_tagged flat tag c k value node_key parent below below_key below_value field.L = refl
insert_tagged flat tag c k value node_key parent below below_key below_value field.Was = refl
insert_tagged flat tag c k value node_key parent below below_key below_value field.Key = refl
insert_tagged flat tag c k value node_key parent below below_key below_value field.Left = refl
insert_tagged flat tag c k value node_key parent below below_key below_value field.Right = refl
insert_tagged flat tag c k value node_key parent below below_key below_value field.Update = refl
insert_tagged flat tag c k value node_key parent below below_key below_value field.LeftLeafKey = refl
insert_tagged flat tag c k value node_key parent below below_key below_value field.RightLeafKey = refl
insert_tagged flat tag c k value node_key parent below below_key below_value field.LeftValue = refl
insert_tagged flat tag c k value node_key parent below below_key below_value field.RightValue = refl

-- and of a delete
delete_tagged : (tag gp parent leaf was : ℕ) → IsTagged tag (delete_filling gp parent leaf was)
delete_tagged tag gp parent leaf was field.Gp = refl
delete_tagged tag gp parent leaf was field.P = refl
delete_tagged tag gp parent leaf was field.L = refl
delete_tagged tag gp parent leaf was field.Was = refl
delete_tagged tag gp parent leaf was field.Key = refl
delete_tagged tag gp parent leaf was field.Left = refl
delete_tagged tag gp parent leaf was field.Right = refl
delete_tagged tag gp parent leaf was field.Update = refl
delete_tagged tag gp parent leaf was field.LeftLeafKey = refl
delete_tagged tag gp parent leaf was field.RightLeafKey = refl
delete_tagged tag gp parent leaf was field.LeftValue = refl
delete_tagged tag gp parent leaf was field.RightValue = refl

module _ (plan : TablePlan) (s : TableState) (r : HasMachine plan s) (id : ℕ) (v : View) (here : get_elem? s.views id ≡ some v) where
  -- the next card
  abbrev next : ℕ
  next = r.words.next

  -- was not claimed
  fresh : is_claimed (r.stages next) ≡ false
  fresh = not_claimed r.words r.stages r.invariant.words next (omega arith)

  other_card : (c : ℕ) → waits (r.stages c) ≡ true → c ≢ next
  other_card c wait e = true≢false (sym (waits-claimed (r.stages c) wait) ∙ (ap (λ n. is_claimed (r.stages n)) e ∙ fresh))

  -- the machine after a won claim
  takes : (tag : ℕ) (es : List (Field × ℕ)) → IsTagged tag es → next ≤ plan.last_card
      → Row act.Claim (mine plan s r id v here) Moved (becomes plan s r id v here (claimed r.words tag es) (taking next tag es v))
      → Says (claimed r.words tag es) next es
      → IsReached plan s r id v here (set s.words 0 (next + 1)) (claimed r.words tag es) (taking next tag es v) act.Claim Moved
  takes tag es is_tagged room row says =
      let new = claimed r.words tag es in
      let after = taking next tag es v in
      let list = set s.words 0 (next + 1) in
      let happens : Happens plan.last_card act.Claim (mine plan s r id v here) Moved (becomes plan s r id v here new after) = record {
        owned = λ h. h;
        row = row;
        room = λ h. omega arith;
      } in
      let l = leads plan s r id v here act.Claim Moved new after happens in
      let some_word : 0 < length s.words = (let e = r.size in omega arith) in
      let first = r.invariant.kinds.some in
      let wait_now : waits (l.0 next) ≡ true = kind-waits (l.0 next)
      (l.1.invariant.kinds.kinds next (omega arith) (l.1.later.start next ∙ unclaimed-no_start (r.stages next) fresh))
      (l.1.wins next ∙ ap (λ (ks : List Exchange). ks ++ []) (unclaimed-wins (r.stages next) fresh)) in
      let listed_same : (c : ℕ) (f : Field) → listed list c f ≡ listed s.words c f =
      λ c f. get_or-set_other s.words 0 (address c f) (next + 1) 0 (λ e. omega arith) in
      let word_same : (c : ℕ) (f : Field) → c ≢ next → table_word new c f ≡ table_word r.words c f =
      λ c f n. table_says r.words new c (others_say r.words new next (claimed_claims r.words tag es).others c n) f in
      let blank = (r.invariant.words.cards next).blank fresh in record {
        kept = kept_event plan s r id v here act.Claim Moved new after list l.0 l.1 (record {
          size = length-set s.words 0 (next + 1);
          next = get_or-set_same s.words 0 (next + 1) 0 some_word;
          flat = get_or-set_other s.words 0 1 (next + 1) 0 (omega arith);
          same = λ c f one two e. listed_same c f
              ∙ (e ∙ sym (word_same c f (λ q. true≢false (sym wait_now ∙ (ap (λ n. waits (l.0 n)) (sym q) ∙ two)))));
          flags = λ c f wait calm. absurd (true≢false (sym (waits_on plan s r id v here act.Claim Moved new after l.0 l.1 c refl wait) ∙ calm));
          apart = λ c f wait. (listed_same c f, word_same c f (other_card c wait));
        }) (record {
          entries = with_entry (EntryHolds new l.0) (Expects next tag) (told_filling next es v.told)
              (omega arith, put_same r.words.expects next tag)
              (filling_holds new l.0 next es v.told (omega arith) says
              (λ e told. entries_on plan s r id v here act.Claim Moved new after l.0 l.1 e ((r.views id v here).entries e told)));
          here = λ x key at told. earlier _ _ _ (filling_more next es v.told (Key x key) ((r.views id v here).here x key at told));
          read = λ n at. (let low = (r.views id v here).read n at in omega arith);
          least = omega arith;
          knew = (r.views id v here).knew;
          walk = λ op x busy at. walk_on plan s r id v here act.Claim Moved new after l.0 l.1 v
              (over_cut plan s r id v here v (mine_sound plan s r id v here) (r.views id v here).knew)
              (key_of op) x (stands_born plan s r id v here x at) ((r.views id v here).walk op x busy at);
          hand = λ c has un. let q : next ≡ c = cc in record {
            machine = λ f. subst (λ d. table_word new d f ≡ stored (tagged tag es) f 0) q
                (claimed_cards_say (machine plan s r id v here) r.stages tag es f r.invariant ∙ is_tagged f);
            table = λ f. subst (λ d. listed list d f ≡ 0) q
                (listed_same next f ∙ (r.settled next f (unclaimed-settled (r.stages next) fresh) ∙ table_blank r.words next blank f));
          };
        }) (λ k h. h) refl;
        steps = l.1.steps;
      }

  -- what the claimed card says in each field
  claimed_words : (tag : ℕ) (es : List (Field × ℕ)) (f : Field) → word (claimed r.words tag es) next f ≡ stored es f 0
  claimed_words tag es f = claimed_stored r.words tag es f (((r.invariant.words.cards next).blank fresh).words f)

  -- a claim with these is one with the same
  as_known : (tag other : ℕ) (es fields : List (Field × ℕ)) → tag ≡ other → es ≡ fields
      → IsReached plan s r id v here (set s.words 0 (next + 1)) (claimed r.words tag es) (taking next tag es v) act.Claim Moved
      → IsReached plan s r id v here (set s.words 0 (next + 1)) (claimed r.words other fields) (taking next other fields v) act.Claim Moved
  as_known tag other es fields e g at =
      subst (λ h. IsReached plan s r id v here (set s.words 0 (next + 1)) (claimed r.words other h) (taking next other h v) act.Claim Moved) g
      (subst (λ n. IsReached plan s r id v here (set s.words 0 (next + 1)) (claimed r.words n es) (taking next n es v) act.Claim Moved) e at)

  -- what a claim needs of the word that it found: a won one is of the next card
  claims : (c : ℕ) (node : NewNode) → MayClaim (flat_from plan) v c node → c ≤ plan.last_card → c ≡ next
      → IsReached plan s r id v here (set s.words 0 (c + 1)) (claimed r.words (expected_tag v) (filling_of next node v)) (after_claim true c node v) act.Claim Moved
  claims c node may room same =
      subst (λ d. IsReached plan s r id v here (set s.words 0 (d + 1)) (claimed r.words (expected_tag v) (filling_of next node v)) (after_claim true d node v) act.Claim Moved)
      (sym same) (by may.op may.busy may.wants)
    where
      key_is : r.words.key may.below ≡ may.key
      key_is = here_key plan s r id v here may.below may.key may.stands may.told

      behind : HasSeen r.words r.stages may.parent may.below
      behind = (relies plan s r id v here).parent may.below may.parent
          (ap (λ (u : Worker). u.search.node) (mine_is plan s r id v here) ∙ may.stands)
          (ap (λ (u : Worker). u.search.parent) (mine_is plan s r id v here) ∙ may.behind)

      -- the tree is flat in the machine as by the plan
      flat_is : node.flat ≡ is_flat r.words
      flat_is = may.shape ∙ ap (nat_lt 0) (sym r.shape)

      -- it may take a card in the machine as by the plan
      ready : MayTake r.words.flat_from (worker_of v.worker)
      ready = subst (λ n. MayTake n (worker_of v.worker)) (sym r.shape) may.ready

      puts : (op : Op) (what : Put) → put_of op ≡ Some what → v.worker.operation ≡ Some op → GivesPlace r.words what may.below
          → (what.was ≡ None → IsInBlock r.words may.parent.node what.key) → IsNodeKey r.words.flat_from what.key (r.words.key may.below) node.key
          → (IsLeaf may.below → told_value v.told may.below ≡ r.words.value may.below)
          → IsReached plan s r id v here (set s.words 0 (next + 1)) (claimed r.words (expected_tag v) (filling_of next node v)) (after_claim true next node v) act.Claim Moved
      puts op what is_put busy takes_it fits named value_is =
          let below_value = value_told v.told may.below in
          let below_is = told_below r.words v.told may.below value_is in
          let es = layout.put_filling node.flat next what.key what.value node.key may.parent.node may.below may.key below_value in
          let filled_as : es ≡ layout.put_filling (is_flat r.words) next what.key what.value node.key may.parent.node may.below (r.words.key may.below) (layout.value_below r.words may.below) =
          λ t. layout.put_filling (flat_is t) next what.key what.value node.key may.parent.node may.below (sym key_is t) (below_is t) in
          let is : es ≡ filling_of next node v =
          put_filling op what is_put next node may.below may.parent v.worker.search.grandparent may.key (value_told v.told)
          ∙ (λ t. filling_for next node (sym busy t) (sym may.stands t) (sym may.behind t) v.worker.search.grandparent (unwrap_or (sym may.told t) 0) (value_told v.told)) in
          let tag_is : may.parent.tag ≡ expected_tag v =
          put_tag op what is_put may.parent v.worker.search.grandparent
          ∙ (λ t. tag_of_claim (sym busy t) (sym may.behind t) v.worker.search.grandparent) in
          let at = claimed_words may.parent.tag es in
          as_known may.parent.tag (expected_tag v) es (filling_of next node v) tag_is is
          (takes may.parent.tag es (insert_tagged node.flat may.parent.tag next what.key what.value node.key may.parent.node may.below may.key below_value) (omega arith) (inl (record {
            op = op;
            what = what;
            below = may.below;
            parent = may.parent;
            node_key = node.key;
            busy = busy;
            puts = is_put;
            ready = ready;
            at = record { stands = may.stands; behind = may.behind; calm = may.calm };
            takes = takes_it;
            fits = fits;
            named = named;
            says = refl;
            gives = λ t. record {
              words = claimed r.words may.parent.tag (filled_as t);
              worker = record (worker_of v.worker) { card = Some next; flagged = false };
            };
          })) (
            at field.P,
            (
              at field.L,
              (
                at field.Key,
                (
                  at field.Left,
                  (
                    at field.Right,
                    (
                      at field.Update,
                      (
                        at field.LeftLeafKey,
                        (at field.RightLeafKey, (at field.LeftValue, (at field.RightValue, tt))),
                      ),
                    ),
                  ),
                ),
              ),
            ),
          ))

      -- a node has a block in the machine as the plan says
      has_it : (x : ℕ) → has_block (flat_from plan) x ≡ has_block r.words.flat_from x
      has_it x = ap (λ n. has_block n x) (sym r.shape)

      -- an insert's key is in the parent's block
      fits_there : (k key : ℕ) → WantsInsert (flat_from plan) v k may.parent.node may.below key node.key → IsInBlock r.words may.parent.node k
      fits_there k key wants = record {
        inner = λ inner has.
            let told = wants.fits (has_it may.parent.node ∙ has) in
            subst (λ n. InBlockOf n k) (sym ((r.views id v here).entries (Key may.parent.node told.0) told.1).1) told.2;
        leaf = λ outer. absurd (outer behind.node.inner);
      }

      -- and not in that of an internal node at which it ends
      lacks_there : (k : ℕ) → WantsInsert (flat_from plan) v k may.parent.node may.below may.key node.key → IsInternal may.below → ¬ IsInBlock r.words may.below k
      lacks_there k wants inner in_block =
          let edge = wants.edge inner in
          edge.1 (subst (λ n. InBlockOf n k) key_is (in_block.inner inner (sym (has_it may.below) ∙ edge.0)))

      named_so : (k : ℕ) → IsNodeKey (flat_from plan) k may.key node.key → IsNodeKey r.words.flat_from k (r.words.key may.below) node.key
      named_so k named = subst (λ n. IsNodeKey n k (r.words.key may.below) node.key) (sym r.shape) (subst (λ m. IsNodeKey (flat_from plan) k m node.key) (sym key_is) named)

      by : (op : Op) → v.worker.operation ≡ Some op → Wants (flat_from plan) v op may.parent.node may.below may.key node.key
          → IsReached plan s r id v here (set s.words 0 (next + 1)) (claimed r.words (expected_tag v) (filling_of next node v)) (after_claim true next node v) act.Claim Moved
      by (Find k) busy wants = absurd wants
      by (Insert k value) busy wants = puts (Insert k value) (added k value) refl busy
          (record { leaf = λ outer e. (wants.leaf outer).0 (sym key_is ∙ e); edge = λ inner. (refl, lacks_there k wants inner) })
          (λ none. fits_there k may.key wants) (named_so k wants.named)
          (λ outer. let told = (wants.leaf outer).1 in told_value_is r.words r.stages v.told may.below told.0 (r.views id v here).entries told.1)
      by (Swap k was value) busy wants = puts (Swap k was value) (replacing k was value) refl busy
          (record { leaf = λ outer. (key_is ∙ wants.same, ((r.views id v here).entries (Value may.below was) wants.value).1); edge = λ inner. absurd (wants.outer inner) })
          (λ none. absurd cc)
          (record { greater = λ plain. (let is = wants.named in let same = key_is ∙ wants.same in omega arith); branch = λ some two. absurd (two (sym (key_is ∙ wants.same))) })
          (λ outer. told_value_is r.words r.stages v.told may.below was (r.views id v here).entries wants.value)
      by (Delete k) busy wants =
          let above = wants.above in
          let es = delete_filling above.node may.parent.node may.below may.parent.word in
          let is : es ≡ filling_of next node v =
          λ t. filling_for next node (sym busy t) (sym may.stands t) (sym may.behind t) (sym wants.grandparent t) (unwrap_or v.here 0) (value_told v.told) in
          let tag_is : above.tag ≡ expected_tag v = λ t. tag_of_claim (sym busy t) (sym may.behind t) (sym wants.grandparent t) in
          let at = claimed_words above.tag es in
          as_known above.tag (expected_tag v) es (filling_of next node v) tag_is is
          (takes above.tag es (delete_tagged above.tag above.node may.parent.node may.below may.parent.word) (omega arith) (inr (record {
            key = k;
            leaf = may.below;
            parent = may.parent;
            grandparent = above;
            deletes = busy;
            ready = ready;
            at = record { stands = may.stands; outer = wants.outer; behind = may.behind; calm = may.calm };
            present = key_is ∙ wants.same;
            above = wants.grandparent;
            calm = wants.calm;
            says = refl;
            gives = refl;
          })) (at field.Gp, (at field.P, (at field.L, (at field.Was, tt)))))

  -- the event of a claim by whether it was won
  record ClaimAt (c : ℕ) (node : NewNode) (b : Bool) : Type 0 where
    kept : HasMachine plan (record { words = set s.words 0 (if b then c + 1 else get_or s.words 0 0); views = set s.views id (after_claim b c node v) })
    later : StagesLater r.stages kept.stages
    event : Becomes id (if b then Some act.Claim else None) Moved (machine plan s r id v here)
        (seated kept.words (set s.views id (after_claim b c node v)) plan.last_card)
    wins : (d : ℕ) → wins_of (kept.stages d) ≡ wins_of (r.stages d) ++ act_wins (if b then Some act.Claim else None) v.worker.card Moved d
    still : (if b then Some act.Claim else None) ≡ None → kept.stages ≡ r.stages

  claim_at : (c : ℕ) (node : NewNode) → MayClaim (flat_from plan) v c node → c ≤ plan.last_card → (b : Bool) → (get_or s.words 0 0 == c) ≡ b → ClaimAt c node b
  claim_at c node may room true e =
      let reached = claims c node may room (sym (eqb-true (get_or s.words 0 0) c e) ∙ r.next) in record {
        kept = reached.kept.kept;
        later = reached.kept.later;
        event = subst (λ w. Becomes id (Some act.Claim) Moved (machine plan s r id v here) (seated w (set s.views id (after_claim true c node v)) plan.last_card))
            (sym reached.kept.words) reached.steps;
        wins = reached.kept.wins;
        still = λ none. absurd (some_not_none refl none);
      }
  claim_at c node may room false e =
      let h = r.views id v here in
      let kept = kept_told plan s r id v here (after_claim false c node v) refl (record { entries = h.entries; here = h.here; hand = h.hand; read = h.read; least = (let low = h.read c may.read in let is = r.next in let other : get_or s.words 0 0 ≢ c = (λ q. true≢false (sym (eq-eqb (get_or s.words 0 0) c q) ∙ e)) in omega arith); knew = h.knew; walk = h.walk }) 0 in record {
        kept = kept.kept.kept;
        later = kept.kept.later;
        event = sym (same_machine plan s r id v here (after_claim false c node v) refl
            ∙ ap (λ w. seated w (set s.views id (after_claim false c node v)) plan.last_card) (sym kept.kept.words));
        wins = kept.kept.wins;
        still = λ none. kept.still;
      }

  -- claim
  pub keeps_claim : (c : ℕ) (node : NewNode) → MayClaim (flat_from plan) v c node → c ≤ plan.last_card → IsEvent plan s r id v (call.Claim c node)
  keeps_claim c node may room =
      let h = claim_at c node may room (get_or s.words 0 0 == c) refl in record { kept = h.kept; later = h.later; event = h.event; wins = h.wins; still = h.still; tells = tt }
