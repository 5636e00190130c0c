-- What was stored of the card in hand stays what is planned, if it is that once it is cut.
use Rattle.std.proofs.Common.{◌≡◌, ℕ, zero, suc, ◌+◌, ◌*◌, ◌<◌, ◌≤◌, ◌==◌, ◌&&◌, nat_le, nat_lt, if◌then◌else◌, Bool, true, false, Option, Some, refl, sym, ◌∙◌, subst, arith, eqb-true, unwrap_or}
use Rattle.std.proofs.lemmas.Option.{same_Some}
use Rattle.ell_ops.specs.declared.op.Op.{Op}
use Rattle.ell_ops.specs.declared.op.Op.TheVariants.{Find, Insert, Delete, Swap}
use Rattle.ell_word.specs.Link.{linked}
use Rattle.ell_word.specs.Node.{left_leaf, right_leaf}
use Rattle.ell_word.specs.declared.update.Update.{Update}
use Rattle.ell_word.specs.Word.{packed, unpacked}
use Rattle.ell_layout.specs.declared.field.Field.{Field}
use Rattle.ell_layout.specs.declared.field.Field.TheVariants as field
use Rattle.ell_layout.specs.Layout.{place}
use Rattle.ell_layout.specs.Cards.{stored, put_filling, delete_filling, stays_below}
use Rattle.ell_layout.proofs.lemmas.Listed.{same_place-field}
use Rattle.ell_core.proofs.lemmas.tree.Blocks.{flat_by, block_past}
use Rattle.ell_core.specs.declared.fact.Fact.{Fact}
use Rattle.ell_core.specs.declared.fact.Fact.TheVariants as fact
use Rattle.ell_core.specs.declared.view.Seen.{Seen}
use Rattle.ell_runs.specs.declared.call.Call.TheVariants as call
use Rattle.ell_runs.specs.declared.call.NewNode.{NewNode}
use Rattle.ell_runs.specs.declared.view.View.{View}
use Rattle.ell_runs.specs.declared.view.Told.TheVariants.{Met}
use Rattle.ell_cards.specs.Apart.{cut_node, IsApart}
use Rattle.ell_runs.specs.Plans.{TablePlan, flat_from}
use Rattle.ell_runs.specs.Views.{IsTold, stored_at}
use Rattle.ell_runs.specs.Changes.{filling_for, tagged, expected_tag, value_told, with_fact, after_claim, after_flag, after_mark, is_mark_of, unmarking}
use Rattle.ell_runs.specs.Calls.{after}
use Rattle.ell_runs.specs.Guards.{Wants, MayClaim}
use Rattle.ell_cards.specs.Shown.{cut_word, cut_tag, shown_word, StoresAreWhole, IsWholeFor, StoresStayWhole}
use Rattle.ell_cards.proofs.lemmas.shown.CutWords.{cut_linked}

-- a claim ends at no root
wanted : (from : ℕ) (v : View) (op : Op) (parent key node_key : ℕ) → ¬ Wants from v op parent 0 key node_key
wanted from v (Find k) parent key node_key h = h
wanted from v (Insert k value) parent key node_key h =
    let block = (h.edge refl).0 in
    let some = flat_by from 0 block in
    let past = block_past from 0 refl block in
    let more : 1 ≤ 0 = omega arith in
    absurd (omega arith)
wanted from v (Swap k was value) parent key node_key h = h.outer refl
wanted from v (Delete k) parent key node_key h = h.outer refl

-- a number of a field is nothing if it is nothing once it is cut, where it is the node of a card that has one, or the root
abbrev pub IsNothingSo : Field → ℕ → Type 0
IsNothingSo f n = 0 ≡ shown_word f n → 0 ≡ n

-- a node that was met is the root if it is that once it is cut
module _ (plan : TablePlan) (v : View) (apart : IsApart plan v) where
  met_root : (x : ℕ) → IsTold v (Met x) → 0 ≡ cut_node x → 0 ≡ x
  met_root x met e = apart.met 0 x apart.names.root met e

  -- the word of a link to a node that was met, and is not the root
  link_nothing : (x tag : ℕ) → IsTold v (Met x) → 0 < x → 0 ≡ cut_word (linked (record { node = x; tag = tag })) → ⊥
  link_nothing x tag met more e =
      let is : linked (record { node = cut_node x; tag = cut_tag tag }) ≡ 0 = sym (cut_linked x tag) ∙ sym e in
      let none : 0 ≡ cut_node x = omega (arith, is) in
      let root = met_root x met none in
      absurd (omega (arith, root, more))

  -- and that of a link to a leaf of a card
  leaf_nothing : (c k : ℕ) → 0 < k → k < 4 → 0 ≡ cut_word (linked (record { node = 4 * c + k; tag = 0 })) → ⊥
  leaf_nothing c k more few e =
      let is : linked (record { node = cut_node (4 * c + k); tag = 0 }) ≡ 0 = sym (cut_linked (4 * c + k) 0) ∙ sym e in
      absurd (omega (arith, is, more, few))

  -- what fills a card: in each field a number that is nothing if it is that once it is cut
  put_nothing : (flat : Bool) (c k value node_key parent below key there tag : ℕ) → IsTold v (Met parent) → IsTold v (Met below) → 0 < below → (f : Field)
      → IsNothingSo f (stored (tagged tag (put_filling flat c k value node_key parent below key there)) f 0)
  put_nothing flat c k value node_key parent below key there tag above met more field.Gp e = refl
  put_nothing flat c k value node_key parent below key there tag above met more field.P e = met_root parent above e
  put_nothing flat c k value node_key parent below key there tag above met more field.L e = absurd (link_nothing below tag met more e)
  put_nothing flat c k value node_key parent below key there tag above met more field.Left e = left (stays_below flat below && nat_le key k) e
    where
      left : (b : Bool) → 0 ≡ cut_word (linked (record { node = if b then below else left_leaf c; tag = 0 })) → 0 ≡ linked (record { node = if b then below else left_leaf c; tag = 0 })
      left true e = absurd (link_nothing below 0 met more e)
      left false e = absurd (leaf_nothing c 1 (omega arith) (omega arith) e)
  put_nothing flat c k value node_key parent below key there tag above met more field.Right e = right (stays_below flat below && nat_lt k key) e
    where
      right : (b : Bool) → 0 ≡ cut_word (linked (record { node = if b then below else right_leaf c; tag = 0 })) → 0 ≡ linked (record { node = if b then below else right_leaf c; tag = 0 })
      right true e = absurd (link_nothing below 0 met more e)
      right false e = absurd (leaf_nothing c 2 (omega arith) (omega arith) e)
  put_nothing flat c k value node_key parent below key there tag above met more field.Was e = e
  put_nothing flat c k value node_key parent below key there tag above met more field.Key e = e
  put_nothing flat c k value node_key parent below key there tag above met more field.Update e = e
  put_nothing flat c k value node_key parent below key there tag above met more field.LeftLeafKey e = e
  put_nothing flat c k value node_key parent below key there tag above met more field.RightLeafKey e = e
  put_nothing flat c k value node_key parent below key there tag above met more field.LeftValue e = e
  put_nothing flat c k value node_key parent below key there tag above met more field.RightValue e = e

  delete_nothing : (above parent leaf was tag : ℕ) → IsTold v (Met above) → IsTold v (Met parent) → IsTold v (Met leaf) → 0 < leaf → (f : Field)
      → IsNothingSo f (stored (tagged tag (delete_filling above parent leaf was)) f 0)
  delete_nothing above parent leaf was tag top behind met more field.Gp e = met_root above top e
  delete_nothing above parent leaf was tag top behind met more field.P e = met_root parent behind e
  delete_nothing above parent leaf was tag top behind met more field.L e = absurd (link_nothing leaf tag met more e)
  delete_nothing above parent leaf was tag top behind met more field.Left e = refl
  delete_nothing above parent leaf was tag top behind met more field.Right e = refl
  delete_nothing above parent leaf was tag top behind met more field.Was e = e
  delete_nothing above parent leaf was tag top behind met more field.Key e = e
  delete_nothing above parent leaf was tag top behind met more field.Update e = e
  delete_nothing above parent leaf was tag top behind met more field.LeftLeafKey e = e
  delete_nothing above parent leaf was tag top behind met more field.RightLeafKey e = e
  delete_nothing above parent leaf was tag top behind met more field.LeftValue e = e
  delete_nothing above parent leaf was tag top behind met more field.RightValue e = e

  none_nothing : (f : Field) → IsNothingSo f 0
  none_nothing f e = refl

  planned_nothing : (c : ℕ) (node : NewNode) (tag : ℕ) (op : Option Op) (lower : Option ℕ) (parent above : Option Seen) (key : ℕ) (value_of : ℕ → ℕ)
      → ((x : ℕ) → lower ≡ Some x → IsTold v (Met x) × (0 < x)) → ((seen : Seen) → parent ≡ Some seen → IsTold v (Met seen.node))
      → ((seen : Seen) → above ≡ Some seen → IsTold v (Met seen.node)) → (f : Field)
      → IsNothingSo f (stored (tagged tag (filling_for c node op lower parent above key value_of)) f 0)
  planned_nothing c node tag (Some (Insert k value)) (Some below) (Some parent) above key value_of at behind top =
      put_nothing node.flat c k value node.key parent.node below key (value_of below) tag (behind parent refl) (at below refl).0 (at below refl).1
  planned_nothing c node tag (Some (Swap k was value)) (Some below) (Some parent) above key value_of at behind top =
      put_nothing node.flat c k value node.key parent.node below key (value_of below) tag (behind parent refl) (at below refl).0 (at below refl).1
  planned_nothing c node tag (Some (Delete k)) (Some leaf) (Some parent) (Some above) key value_of at behind top =
      delete_nothing above.node parent.node leaf parent.word tag (top above refl) (behind parent refl) (at leaf refl).0 (at leaf refl).1
  planned_nothing c node tag _ _ _ _ key value_of at behind top = none_nothing

  -- claim
  claim_stays : (c : ℕ) (node : NewNode) (won : Bool) → MayClaim (flat_from plan) v c node → StoresAreWhole v → StoresAreWhole (after_claim won c node v)
  claim_stays c node true may stores f e =
      planned_nothing c node (expected_tag v) v.worker.operation v.worker.search.node v.worker.search.parent
      v.worker.search.grandparent (unwrap_or v.here 0) (value_told v.told)
      (λ x at. (apart.names.node x at, no_root x (same_Some may.below x (sym may.stands ∙ at)))) apart.names.parent apart.names.grandparent f
      (zero_shown f ∙ e)
    where
      zero_shown : (f : Field) → 0 ≡ shown_word f 0
      zero_shown field.Gp = refl
      zero_shown field.P = refl
      zero_shown field.L = refl
      zero_shown field.Left = refl
      zero_shown field.Right = refl
      zero_shown _ = refl

      no_root : (x : ℕ) → may.below ≡ x → 0 < x
      no_root zero e = absurd (wanted (flat_from plan) v may.op may.parent.node may.key node.key
          (subst (λ y. Wants (flat_from plan) v may.op may.parent.node y may.key node.key) e may.wants))
      no_root (suc x) e = omega arith
  claim_stays c node_key false may stores f e = stores f e

-- fill: one field has another number
fill_stays : (c : ℕ) (g : Field) (value n : ℕ) (v : View) → IsWholeFor g value v → StoresAreWhole v
    → StoresAreWhole (after (call.Fill c g value) n v)
fill_stays c g value n v fills stores f = by (place g == place f) refl
  where
    by : (b : Bool) → (place g == place f) ≡ b
        → shown_word f (if b then value else stored_at v.stores f) ≡ shown_word f (stored v.planned f 0) → (if b then value else stored_at v.stores f) ≡ stored v.planned f 0
    by true same e =
        let one : g ≡ f = same_place-field g f (eqb-true (place g) (place f) same) in
        subst (λ h. shown_word h value ≡ shown_word h (stored v.planned h 0) → value ≡ stored v.planned h 0) one fills e
    by false other e = stores f e

-- flags and marks
flag_stays : (won : Bool) (new : Fact) (x : ℕ) (u : Update) (v : View) → StoresAreWhole v → StoresAreWhole (after_flag won new x u v)
flag_stays true new x u v stores = stores
flag_stays false new x u v stores = stores

mark_stays : (won : Bool) (c x : ℕ) (u : Update) (v : View) → StoresAreWhole v → StoresAreWhole (after_mark won c x u v)
mark_stays true c x u v stores = stores
mark_stays false c x u v stores = by (is_mark_of c u.state u.card)
  where
    by : (b : Bool) → StoresAreWhole (if b then with_fact (fact.Marked c) v else unmarking c x u v)
    by true = stores
    by false = stores

pub stores_stay_whole : StoresStayWhole
stores_stay_whole plan (call.Begin op) n v apart may fills stores = λ f e. refl
stores_stay_whole plan call.Again n v apart may fills stores = λ f e. refl
stores_stay_whole plan call.Leave n v apart may fills stores = λ f e. refl
stores_stay_whole plan (call.Answer said took) n v apart may fills stores = λ f e. refl
stores_stay_whole plan call.Rest n v apart may fills stores = λ f e. refl
stores_stay_whole plan (call.Claim c node_key) n v apart may fills stores =
    claim_stays plan v apart c node_key (n == c) may.0 stores
stores_stay_whole plan (call.Fill c f value) n v apart may fills stores = fill_stays c f value n v fills stores
stores_stay_whole plan (call.IFlag c p from) n v apart may fills stores =
    flag_stays (n == packed from) (fact.IFlagged c) p (unpacked n) v stores
stores_stay_whole plan (call.DFlag c gp from) n v apart may fills stores =
    flag_stays (n == packed from) (fact.DFlagged c) gp (unpacked n) v stores
stores_stay_whole plan (call.Mark c p was) n v apart may fills stores = mark_stays (n == was) c p (unpacked n) v stores
stores_stay_whole plan _ n v apart may fills stores = stores
