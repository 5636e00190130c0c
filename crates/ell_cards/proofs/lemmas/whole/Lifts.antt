-- A call that a pass may make by what is shown of what it knows is one that it may make by that itself, where all that it
-- names, and the word that the call finds, are so small that nothing is cut.
use Rattle.std.proofs.Common.{◌≡◌, ℕ, ◌≤◌, ◌==◌, ◌&&◌, nat_le, nat_lt, if◌then◌else◌, Bool, true, false, Option, Some, None, [], ◌⊎◌, inl, inr, refl, sym, ap, ◌∙◌, subst, arith, unwrap_or}
use Rattle.ell_ops.specs.declared.op.Op.{Op}
use Rattle.ell_ops.specs.declared.op.Op.TheVariants.{Find, Insert, Delete, Swap}
use Rattle.ell_word.specs.Link.{linked}
use Rattle.ell_word.specs.Node.{card, left_leaf, right_leaf, greatest_card}
use Rattle.ell_word.specs.Word.{packed, unpacked}
use Rattle.ell_word.specs.declared.update.Update.{Update}
use Rattle.ell_layout.specs.declared.field.Field.{Field}
use Rattle.ell_layout.specs.declared.field.Field.TheVariants as field
use Rattle.ell_layout.specs.Cards.{stored, put_filling, delete_filling, stays_below}
use Rattle.ell_core.specs.declared.fact.Fact.{Fact}
use Rattle.ell_core.specs.declared.fact.Fact.TheVariants as fact
use Rattle.ell_core.specs.declared.view.Seen.{Seen}
use Rattle.ell_runs.specs.declared.call.Call.{Call}
use Rattle.ell_runs.specs.declared.call.Call.TheVariants as call
use Rattle.ell_runs.specs.declared.call.NewNode.{NewNode}
use Rattle.ell_runs.specs.declared.view.Told.TheVariants.{Met, Info, Frozen, Expects}
use Rattle.ell_runs.specs.declared.view.Slots.{Slots}
use Rattle.ell_runs.specs.declared.view.View.{View}
use Rattle.ell_cards.specs.Apart.{cut_node, IsApart}
use Rattle.ell_runs.specs.Changes.{after_claim, after_flag, after_mark, filling_for, expected_tag, is_mark_of, tag_of_claim, tagged, unmarking, value_told, with_fact}
use Rattle.ell_runs.specs.Guards.{MayClaim, IsSibling}
use Rattle.ell_runs.specs.Plans.{TablePlan, flat_from}
use Rattle.ell_runs.specs.Views.{latest}
use Rattle.ell_runs.specs.Naming.{IsNamed}
use Rattle.ell_runs.specs.Calls.{Atomic, Store, after, atomic_of, is_won, May}
use Rattle.ell_cards.specs.Whole.{PlansFit}
use Rattle.ell_cards.specs.Shown.{IsWord, cut_word, cut_tag, cut_by, shown_word, shown, shown_call, CanBeShown, StoresAreWhole, FillIsWhole, StoresWord, IsLifted}
use Rattle.ell_cards.proofs.lemmas.shown.CutWords.{cut_same, node_small}
use Rattle.ell_cards.proofs.lemmas.shown.ShownCalls.{guards_are_lifted}
use Rattle.ell_cards.proofs.lemmas.shown.ShownKinds.{calls_can_be_shown}

-- what an atomic step stores is a word, which a field shows
abbrev pub FillsShown : Call → Type 0
FillsShown (call.Fill x f value) = shown_word f value ≡ value
FillsShown _ = Unit {0}

abbrev pub AtomicIsWord : Atomic → Type 0
AtomicIsWord (Store value) = IsWord value
AtomicIsWord _ = Unit {0}

pub stores_word : (c : Call) (a : Atomic) → atomic_of c ≡ a → AtomicIsWord a → FillsShown c → StoresWord c
stores_word (call.Fill x f value) a is word shows = (subst AtomicIsWord (sym is) word, shows)
stores_word _ a is word shows = tt

-- a call stores a word
abbrev pub IsFill : Call → Type 0
IsFill (call.Fill e f value) = Unit {0}
IsFill _ = ⊥

-- a call that stores none has none to show
pub plain_shown : (c : Call) → (IsFill c → ⊥) → FillsShown c
plain_shown (call.Fill x f value) plain = absurd (plain tt)
plain_shown _ plain = tt

pub fill_shown : (c : Call) → IsFill c → IsFill (shown_call c)
fill_shown (call.Fill e f value) is = is
fill_shown _ is = absurd is

-- a call that is lifted to itself
pub record IsItsOwn (plan : TablePlan) (c : Call) (v : View) : Type 0 where
  pub same : shown_call c ≡ c
  pub may : May plan c v
  pub fills : FillIsWhole c v

module _ (plan : TablePlan) (v : View) (last : ℕ) (few : last ≤ greatest_card) (named : IsNamed last v) where
  -- a node that the pass names is cut to itself, and so is a tag
  stays : (x : ℕ) → card x ≤ last → cut_node x ≡ x
  stays x low = node_small x (omega (arith, low, few))

  tag_stays : (tag : ℕ) → tag ≤ last → cut_tag tag ≡ tag
  tag_stays tag low = omega (arith, low, few)

  -- so is what a call that it may make names, if that stores nothing
  sibling_named : (c leaf y : ℕ) → IsSibling v c leaf y → card y ≤ last
  sibling_named c leaf y h = elim h [
    | inl one ↦ (named.entries (Frozen c true y) one.0).1
    | inr both ↦ (named.entries (Frozen c false y) both.1).1
  ]

  own_stays : (c : Call) → (IsFill c → ⊥) → May plan c v → shown_call c ≡ c
  own_stays (call.Upd x) plain may = ap (λ y. call.Upd y) (stays x (named.node x may.stands))
  own_stays (call.Down x right) plain may = ap (λ y. call.Down y right) (stays x (named.node x may.stands))
  own_stays (call.KeyOf x) plain may = ap (λ y. call.KeyOf y) (stays x (named.entries (Met x) may))
  own_stays (call.ValueOf x) plain may = ap (λ y. call.ValueOf y) (stays x (named.entries (Met x) may.0))
  own_stays (call.FrozenChild c p right) plain may = ap (λ y. call.FrozenChild c y right) (stays p (named.entries (Info c field.P p) may.place).1)
  own_stays (call.LookDown from to right) plain may = ap (λ y. call.LookDown (record from { node = y }) to right) (stays from.node (named.entries (Met from.node) may.met))
  own_stays (call.Fill c f value) plain may = absurd (plain tt)
  own_stays (call.IFlag c p from) plain may =
      ap (λ y. call.IFlag c y from) (stays p (subst (λ y. card y ≤ last) may.node (named.parent may.leaf may.parent may.stands may.behind).node))
  own_stays (call.IChild c p l replaces right) plain may =
      let parent = stays p (named.entries (Info c field.P p) may.parent).1 in
      let node = stays l.node (named.entries (Info c field.L l.node) may.leaf).1 in
      let tag = tag_stays l.tag (named.entries (Expects c l.tag) may.expects).1 in
      λ t. call.IChild c (parent t) (record { node = node t; tag = tag t }) replaces right
  own_stays (call.IUnflag c p) plain may = ap (λ y. call.IUnflag c y) (stays p (named.entries (Info c field.P p) may.place).1)
  own_stays (call.DFlag c gp from) plain may = ap (λ y. call.DFlag c y from)
      (stays gp (subst (λ y. card y ≤ last) may.node (named.grandparent may.leaf may.parent may.grandparent may.stands may.behind may.above).node))
  own_stays (call.Mark c p was) plain may = ap (λ y. call.Mark c y was) (stays p (named.entries (Info c field.P p) may.0.place).1)
  own_stays (call.DChild c gp p y right) plain may =
      let top = stays gp (named.entries (Info c field.Gp gp) may.grandparent).1 in
      let node = stays p.node (named.entries (Info c field.P p.node) may.parent).1 in
      let tag = tag_stays p.tag (named.entries (Expects c p.tag) may.expects).1 in
      let other = stays y (sibling_named c may.leaf y may.sibling) in
      λ t. call.DChild c (top t) (record { node = node t; tag = tag t }) (other t) right
  own_stays (call.DUnflag c gp) plain may = ap (λ y. call.DUnflag c y) (stays gp (named.entries (Info c field.Gp gp) may.place).1)
  own_stays (call.Backtrack c gp) plain may = ap (λ y. call.Backtrack c y) (stays gp (named.entries (Info c field.Gp gp) may.place).1)
  own_stays _ plain may = refl

  module _ (apart : IsApart plan v) (stores : StoresAreWhole v) (planned : (f : Field) → shown_word f (stored v.planned f 0) ≡ stored v.planned f 0) where
    pub is_its_own : (c : Call) → StoresWord c → May plan c (shown v) → IsItsOwn plan c v
    is_its_own c word may = by c word may (guards_are_lifted plan c v apart stores word may)
      where
        by : (c : Call) → StoresWord c → May plan c (shown v) → IsLifted plan c v → IsItsOwn plan c v
        by (call.Fill x f value) word may lift = record {
          same = ap (call.Fill x f) word.1;
          may = record { holds = may.holds; unflagged = may.unflagged };
          fills = λ e. sym word.1 ∙ (e ∙ planned f);
        }
        by c word may lift =
            let plain : IsFill lift.origin → ⊥ = λ fill. subst IsFill lift.is (fill_shown lift.origin fill) in
            let own : lift.origin ≡ c = sym (own_stays lift.origin plain lift.may) ∙ lift.is in record {
              same = subst (λ d. shown_call d ≡ d) own (own_stays lift.origin plain lift.may);
              may = subst (λ d. May plan d v) own lift.may;
              fills = subst (λ d. FillIsWhole d v) own lift.fills;
            }

  -- so it can be shown
  pub can_be_shown : (c : Call) (n : ℕ) → shown_call c ≡ c → IsWord n → CanBeShown c n
  can_be_shown (call.IChild c p l replaces right) n same word = record { wins = λ t. is_won (atomic_of (same t)) (cut_same n word t); whole = tt }
  can_be_shown (call.DChild c gp p y right) n same word = record { wins = λ t. is_won (atomic_of (same t)) (cut_same n word t); whole = tt }
  can_be_shown (call.Fill c f value) n same word = calls_can_be_shown.fill c f value n
  can_be_shown c n same word = calls_can_be_shown.word c n tt word

  -- and what it finds is not cut, unless it stores
  pub found_stays : (c : Call) (n : ℕ) → (IsFill c → ⊥) → IsWord n → IsNamed last (after c n v) → cut_by c n ≡ n
  found_stays (call.Info c field.Gp) n plain word later = stays n (later.entries (Info c field.Gp n) (latest (Info c field.Gp n) _)).1
  found_stays (call.Info c field.P) n plain word later = stays n (later.entries (Info c field.P n) (latest (Info c field.P n) _)).1
  found_stays (call.Info c f) n plain word later = cut_same n word
  found_stays (call.Fill c f value) n plain word later = absurd (plain tt)
  found_stays c n plain word later = cut_same n word

  -- what is planned is not cut either
  link_fits : (x tag : ℕ) → card x ≤ last → tag ≤ last → cut_word (linked (record { node = x; tag = tag })) ≡ linked (record { node = x; tag = tag })
  link_fits x tag low less = cut_same (linked (record { node = x; tag = tag })) (omega (arith, low, less, few))

  put_fits : (flat : Bool) (c k value node_key parent below key there tag : ℕ) → c ≤ last → card parent ≤ last → card below ≤ last → tag ≤ last → (f : Field)
      → shown_word f (stored (tagged tag (put_filling flat c k value node_key parent below key there)) f 0) ≡ stored (tagged tag (put_filling flat c k value node_key parent below key there)) f 0
  put_fits flat c k value node_key parent below key there tag own above low less field.Gp = refl
  put_fits flat c k value node_key parent below key there tag own above low less field.P = stays parent above
  put_fits flat c k value node_key parent below key there tag own above low less field.L = link_fits below tag low less
  put_fits flat c k value node_key parent below key there tag own above low less field.Left = left (stays_below flat below && nat_le key k)
    where
      left : (b : Bool) → cut_word (linked (record { node = if b then below else left_leaf c; tag = 0 })) ≡ linked (record { node = if b then below else left_leaf c; tag = 0 })
      left true = link_fits below 0 low (omega arith)
      left false = link_fits (left_leaf c) 0 (omega (arith, own)) (omega arith)
  put_fits flat c k value node_key parent below key there tag own above low less field.Right = right (stays_below flat below && nat_lt k key)
    where
      right : (b : Bool) → cut_word (linked (record { node = if b then below else right_leaf c; tag = 0 })) ≡ linked (record { node = if b then below else right_leaf c; tag = 0 })
      right true = link_fits below 0 low (omega arith)
      right false = link_fits (right_leaf c) 0 (omega (arith, own)) (omega arith)
  put_fits flat c k value node_key parent below key there tag own above low less _ = refl

  delete_fits : (above parent leaf was tag : ℕ) → card above ≤ last → card parent ≤ last → card leaf ≤ last → tag ≤ last → (f : Field)
      → shown_word f (stored (tagged tag (delete_filling above parent leaf was)) f 0) ≡ stored (tagged tag (delete_filling above parent leaf was)) f 0
  delete_fits above parent leaf was tag top behind low less field.Gp = stays above top
  delete_fits above parent leaf was tag top behind low less field.P = stays parent behind
  delete_fits above parent leaf was tag top behind low less field.L = link_fits leaf tag low less
  delete_fits above parent leaf was tag top behind low less field.Left = refl
  delete_fits above parent leaf was tag top behind low less field.Right = refl
  delete_fits above parent leaf was tag top behind low less _ = refl

  nothing_fits : (f : Field) → shown_word f 0 ≡ 0
  nothing_fits field.Gp = refl
  nothing_fits field.P = refl
  nothing_fits field.L = refl
  nothing_fits field.Left = refl
  nothing_fits field.Right = refl
  nothing_fits _ = refl

  filling_fits : (c : ℕ) (node : NewNode) (tag : ℕ) (op : Option Op) (lower : Option ℕ) (parent above : Option Seen) (key : ℕ) (value_of : ℕ → ℕ) → c ≤ last → tag ≤ last
      → ((x : ℕ) → lower ≡ Some x → card x ≤ last) → ((x : ℕ) (seen : Seen) → lower ≡ Some x → parent ≡ Some seen → card seen.node ≤ last)
      → ((x : ℕ) (seen top : Seen) → lower ≡ Some x → parent ≡ Some seen → above ≡ Some top → card top.node ≤ last) → (f : Field)
      → shown_word f (stored (tagged tag (filling_for c node op lower parent above key value_of)) f 0) ≡ stored (tagged tag (filling_for c node op lower parent above key value_of)) f 0
  filling_fits c node tag (Some (Insert k value)) (Some below) (Some parent) above key value_of own less at behind top =
      put_fits node.flat c k value node.key parent.node below key (value_of below) tag own (behind below parent refl refl) (at below refl) less
  filling_fits c node tag (Some (Swap k was value)) (Some below) (Some parent) above key value_of own less at behind top =
      put_fits node.flat c k value node.key parent.node below key (value_of below) tag own (behind below parent refl refl) (at below refl) less
  filling_fits c node tag (Some (Delete k)) (Some leaf) (Some parent) (Some above) key value_of own less at behind top =
      delete_fits above.node parent.node leaf parent.word tag (top leaf parent above refl refl refl) (behind leaf parent refl refl) (at leaf refl) less
  filling_fits c node tag _ _ _ _ key value_of own less at behind top = nothing_fits

  -- the tag that a card is to expect is one of the table
  tag_fits : (op : Option Op) (x : ℕ) (seen : Seen) (above : Option Seen) → v.worker.search.node ≡ Some x → v.worker.search.parent ≡ Some seen
      → v.worker.search.grandparent ≡ above → tag_of_claim op (Some seen) above ≤ last
  tag_fits (Some (Delete k)) x seen (Some top) at behind up = (named.grandparent x seen top at behind up).tag
  tag_fits (Some (Delete k)) x seen None at behind up = (named.parent x seen at behind).tag
  tag_fits (Some (Insert k value)) x seen above at behind up = (named.parent x seen at behind).tag
  tag_fits (Some (Swap k was value)) x seen above at behind up = (named.parent x seen at behind).tag
  tag_fits (Some (Find k)) x seen above at behind up = (named.parent x seen at behind).tag
  tag_fits None x seen above at behind up = (named.parent x seen at behind).tag

  -- so nothing that is planned after a call is cut, if nothing was
  abbrev PlanFits : View → Type 0
  PlanFits w = (f : Field) → shown_word f (stored w.planned f 0) ≡ stored w.planned f 0

  claim_fits : (from c : ℕ) (node : NewNode) (won : Bool) → MayClaim from v c node → c ≤ last → PlanFits v → PlanFits (after_claim won c node v)
  claim_fits from c node true may own fits =
      filling_fits c node (expected_tag v) v.worker.operation v.worker.search.node v.worker.search.parent v.worker.search.grandparent (unwrap_or v.here 0)
      (value_told v.told) own
      (subst (λ o. tag_of_claim v.worker.operation o v.worker.search.grandparent ≤ last) (sym may.behind)
      (tag_fits v.worker.operation may.below may.parent v.worker.search.grandparent may.stands may.behind refl))
      (λ x at. named.node x at) (λ x seen at behind. (named.parent x seen at behind).node)
      (λ x seen top at behind up. (named.grandparent x seen top at behind up).node)
  claim_fits from c node false may own fits = fits

  flag_fits : (won : Bool) (new : Fact) (x : ℕ) (u : Update) → PlanFits v → PlanFits (after_flag won new x u v)
  flag_fits true new x u fits = fits
  flag_fits false new x u fits = fits

  mark_fits : (won : Bool) (c x : ℕ) (u : Update) → PlanFits v → PlanFits (after_mark won c x u v)
  mark_fits true c x u fits = fits
  mark_fits false c x u fits = by (is_mark_of c u.state u.card)
    where
      by : (b : Bool) → PlanFits (if b then with_fact (fact.Marked c) v else unmarking c x u v)
      by true = fits
      by false = fits

  pub plan_fits : last ≡ plan.last_card → (c : Call) (n : ℕ) → May plan c v → PlanFits v → PlanFits (after c n v)
  plan_fits all (call.Begin op) n may fits = nothing_fits
  plan_fits all call.Again n may fits = nothing_fits
  plan_fits all call.Leave n may fits = nothing_fits
  plan_fits all (call.Answer said took) n may fits = nothing_fits
  plan_fits all call.Rest n may fits = nothing_fits
  plan_fits all (call.Claim c node_key) n may fits = claim_fits (flat_from plan) c node_key (n == c) may.0 (let low = may.1 in omega (arith, low, all)) fits
  plan_fits all (call.IFlag c p from) n may fits = flag_fits (n == packed from) (fact.IFlagged c) p (unpacked n) fits
  plan_fits all (call.DFlag c gp from) n may fits = flag_fits (n == packed from) (fact.DFlagged c) gp (unpacked n) fits
  plan_fits all (call.Mark c p was) n may fits = mark_fits (n == was) c p (unpacked n) fits
  plan_fits all _ n may fits = fits

-- what is told of what memory has is told of what a call finds, where that is not cut
fill_or_not : (c : Call) → IsFill c ⊎ (IsFill c → ⊥)
fill_or_not (call.Fill e f value) = inl tt
fill_or_not _ = inr (λ none. none)

pub told_plain : (plan : TablePlan) (v : View) (last : ℕ) → last ≤ greatest_card → IsNamed last v → (c : Call) (m n : ℕ) (told : ℕ → View → Type 0) (w : View)
    → IsNamed last (after c m v) → IsWord m → m ≡ n → (IsFill c → (a b : ℕ) → told a w → told b w) → told (cut_by c m) w → told n w
told_plain plan v last few named c m n told w later word is same says = elim (fill_or_not c) [
  | inl fill ↦ same fill (cut_by c m) n says
  | inr plain ↦ subst (λ x. told x w) (found_stays plan v last few named c m plain word later ∙ is) says
]

-- nothing that is not planned is cut
empty_fits : (v : View) → v.planned ≡ [] → PlansFit None v
empty_fits v none f = subst (λ l. shown_word f (stored l f 0) ≡ stored l f 0) (sym none) (by f)
  where
    by : (f : Field) → shown_word f 0 ≡ 0
    by field.Gp = refl
    by field.P = refl
    by field.L = refl
    by field.Left = refl
    by field.Right = refl
    by _ = refl

pub unplanned_fits : (o : Option Slots) (v : View) → v.planned ≡ [] → PlansFit o v
unplanned_fits None v none = empty_fits v none
unplanned_fits (Some s) v none = tt
