use Rattle.std.proofs.Common.{◌≡◌, ◌≢◌, ℕ, ◌<◌, ◌≤◌, Option, Some, None, List, [], ap, sym, ◌∙◌, subst, arith, refl}
use Rattle.atomic_table.specs.Table.{Me, Allows}
use Rattle.ell_word.specs.Node.{greatest_card, greatest_number}
use Rattle.ell_layout.specs.Layout.{table_size}
use Rattle.ell_cards.specs.declared.pass.Standing.{Standing}
use Rattle.ell_cards.specs.declared.share.Share.{Share}
use Rattle.ell_cards.specs.declared.view.Known.{Known}
use Rattle.ell_cards.specs.declared.view.Participant.{Participant}
use Rattle.ell_cards.specs.declared.view.Retired.{Retired}
use Rattle.ell_runs.specs.declared.view.Slots.{Slots}
use Rattle.ell_runs.specs.declared.view.View.{View}
use Rattle.ell_runs.specs.Plans.{TablePlan}
use Rattle.ell_cards.specs.Models.{TableModel, PassModel, last_slot, last_slot_of}
use Rattle.ell_runs.specs.Views.{IsTold}
use Rattle.ell_cards.specs.SlotWords.{slot_of}
use Rattle.ell_cards.specs.Refinement.{MayInMemory}
use Rattle.ell_word.specs.Link.{greatest_tag}
use Rattle.ell_layout.proofs.lemmas.Listed.{address_in_table}
use Rattle.ell_runs.specs.Changes.{ledger_keys}
use Rattle.ell_runs.specs.Naming.{IsNamed}
use Rattle.ell_cards.specs.InSlots.{IsPlaced}
use Rattle.ell_cards.specs.Inside.{HasShare, HasSlotThere, PassFits, StandingFits}
use Rattle.ell_runs.specs.declared.call.Call.{Call}
use Rattle.ell_runs.specs.declared.call.Call.TheVariants as call
use Rattle.ell_runs.specs.declared.view.Told.TheVariants.{Expects}
use Rattle.ell_cards.specs.Addresses.{place_of}
use Rattle.ell_runs.specs.Calls.{May}
use Rattle.ell_cards.specs.Epochs.{size_by, whole_size}
use Rattle.ell_runs.specs.Seeing.{Marks, IsCalm}
use Rattle.ell_runs.specs.Starts.{SlotsFit}
use Rattle.ell_cards.specs.Shown.{IsWord, shown, StoresWord}
use Rattle.ell_cards.specs.Stepping.{MayInTable, IsInside, IsQuiet, MayHave, MayTell, KeepsPass}
use Rattle.ell_runs.specs.Views.{SameShare}
use Rattle.ell_cards.specs.Whole.{IsWhole}
use Rattle.ell_runs.proofs.lemmas.seats.Named.{named_more}
use Rattle.ell_cards.proofs.lemmas.seats.Placed.{placed_more, place_fits}
use Rattle.ell_cards.proofs.lemmas.shown.ShownTold.{was_expected}
use Rattle.ell_cards.proofs.lemmas.whole.Standings.{no_announcements}
use Rattle.ell_cards.proofs.lemmas.whole.Calling.{Does, Notes, tree_step_marked}
use Rattle.ell_cards.proofs.lemmas.whole.Lifts.{IsFill}
use Rattle.ell_cards.proofs.lemmas.whole.Seeing.{calm_marks}

-- what the rule of a table allows a seat that holds no slot, of a table that has none
pub allowed : (plan : TablePlan) (slots id : ℕ) (me : Me (Unit {0}) Known) (word : ℕ) (f : ℕ → ℕ) (told : ℕ → Me (Unit {0}) Known → List (ℕ × Unit {0}) → Type 0)
    → slots ≡ 0 → me.1 ≡ [] → ((seat : ℕ) → Allows (IsWhole plan) 0 seat (me.0, []) word f (λ n x. told n x []))
    → Allows (IsWhole plan) slots id me word f (λ n x. told n x me.1)
allowed plan slots id me word f told none empty may =
    subst (λ (l : List (ℕ × Unit {0})). Allows (IsWhole plan) slots id (me.0, l) word f (λ n x. told n x l)) (sym empty)
    (subst (λ (z : ℕ). Allows (IsWhole plan) z id (me.0, []) word f (λ n x. told n x [])) (sym none) (may id))

-- the size of a table whose cards do not come back tells its cards
same_cards : (words a b : ℕ) → words ≡ table_size a → words ≡ table_size b → a ≡ b
same_cards words a b x y = omega arith

-- the share that the code keeps is the same where that of the view is
same_share : (share : Share) (v w : View) → HasShare share v → SameShare v w → HasShare share w
same_share share v w has same = record {
  units = same.share ∙ has.units;
  counts = (λ counts none. has.counts.0 counts (sym same.ownable ∙ none), λ some. has.counts.1 (λ none. some (same.ownable ∙ none)));
}

module _ (plan : TablePlan) (words : ℕ) (size : words ≡ whole_size plan) (fit : SlotsFit plan plan.slots) where
  -- what is named in a table is named by the number of its words
  named_by : (o : Option Slots) → words ≡ size_by o plan.last_card → (v : View) → IsNamed plan.last_card v → (last : ℕ) → words ≡ table_size last → IsNamed last v
  named_by None is v named last e = subst (λ n. IsNamed n v) (same_cards words plan.last_card last is e) named
  named_by (Some s) is v named last e = absurd (no_announcements words last s is e)

  -- the slots have words
  slots_fit : (o : Option Slots) → words ≡ size_by o plan.last_card → SlotsFit plan o → (last_slot_of o plan.last_card ≤ greatest_card) × (table_size (last_slot_of o plan.last_card) ≤ words)
  slots_fit None is fit = (fit, omega arith)
  slots_fit (Some s) is fit = (fit.low, omega arith)

  -- a pass names what is in its table
  named_of : (o : Option Slots) → words ≡ size_by o plan.last_card → SlotsFit plan o → (v : View) → ((last : ℕ) → words ≡ table_size last → IsNamed last v) → IsNamed greatest_number v → IsNamed plan.last_card v
  named_of None is fit v named most = named plan.last_card is
  named_of (Some s) is fit v named most = subst (λ n. IsNamed n v) (sym fit.numbers) most

  pub named_in : (keys : List ℕ) (share : Share) (v : View) → PassFits keys share words v → IsNamed plan.last_card v
  named_in keys share v fits = named_of plan.slots size fit v fits.named fits.most

  -- a pass after a step is one again
  pub still_fits : (keys : List ℕ) (share : Share) (v w : View) → PassFits keys share words v → plan.last_card ≤ greatest_number
      → (ledger_keys w.worker.ledger ≡ ledger_keys v.worker.ledger) × SameShare v w × IsInside plan w → PassFits keys share words w
  still_fits keys share v w fits room keeps = record {
    owned = fits.owned ∙ sym keeps.0;
    ascending = fits.ascending;
    share = same_share share v w fits.share keeps.1;
    named = named_by plan.slots size w keeps.2.0;
    most = named_more plan.last_card greatest_number room w keeps.2.0;
    inside = let slots = slots_fit plan.slots size fit in record { last = last_slot plan; low = slots.0; few = slots.1; placed = keeps.2.1 };
  }

-- a pass that has new keys and a new share, and knows what goes with them
pub has_keys : (words : ℕ) (was keys : List ℕ) (had share : Share) (v w : View) → PassFits was had words v
    → HasShare share w → MayHave v keys w → PassFits keys share words w
has_keys words was keys had share v w fits has may = record {
  owned = may.owned;
  ascending = may.ascending;
  share = has;
  named = λ last e. may.named last (fits.named last e);
  most = may.named greatest_number fits.most;
  inside = record { last = fits.inside.last; low = fits.inside.low; few = fits.inside.few; placed = may.placed fits.inside.last fits.inside.placed };
}

-- a table as its code keeps it and as callers see it, and a pass of it so
module _ (t u : TableModel) (p q : PassModel) (same_table : t ≡ u) (same_pass : p ≡ q) (own : q.table ≡ u.id) (size : t.id.words ≡ whole_size t.plan) (fit : SlotsFit t.plan t.plan.slots) where
  pub of_table : p.table ≡ t.id
  of_table = ap (λ (m : PassModel). m.table) same_pass ∙ (own ∙ sym (ap (λ (m : TableModel). m.id) same_table))

  pub own_size : p.table.words ≡ whole_size t.plan
  own_size = ap (λ i. i.words) of_table ∙ size

  -- what the pass names, as callers see the two
  pub named_there : (keys : List ℕ) (share : Share) → PassFits keys share p.table.words p.view → IsNamed u.plan.last_card q.view
  named_there keys share fits =
      subst (λ (m : TableModel). IsNamed m.plan.last_card q.view) same_table
      (subst (λ (m : PassModel). IsNamed t.plan.last_card m.view) same_pass (named_in t.plan p.table.words own_size fit keys share p.view fits))

  -- a table whose cards do not come back has no more cards than may have words
  pub few_there : u.plan.slots ≡ None → u.plan.last_card ≤ greatest_card
  few_there = subst (λ (m : TableModel). m.plan.slots ≡ None → m.plan.last_card ≤ greatest_card) same_table (λ none. subst (SlotsFit t.plan) none fit)

  -- and what it names lies in slots that have words
  pub placed_there : (keys : List ℕ) (share : Share) → PassFits keys share p.table.words p.view → IsPlaced greatest_card q.view
  placed_there keys share fits =
      subst (λ (m : PassModel). IsPlaced greatest_card m.view) same_pass (placed_more fits.inside.last greatest_card fits.inside.low p.view fits.inside.placed)

  -- so does the card whose slot it has taken
  pub slot_there : (standing : Standing) (participant : Participant) → participant.slot ≡ p.memory.slot → StandingFits standing p.table.words participant → (c : ℕ) → q.memory.slot ≡ Some c → slot_of c ≤ greatest_card
  slot_there standing participant is fits c taken =
      let has = fits.slot c (is ∙ (ap (λ (m : PassModel). m.memory.slot) same_pass ∙ taken)) in
      let low = has.low in
      let inside = has.inside in
      omega arith

  -- each tag that it was told has a word
  pub tags_there : (tree : View) → shown tree ≡ p.view → (c tag : ℕ) → IsTold q.view (Expects c tag) → tag ≤ greatest_tag
  tags_there tree shows c tag told =
      let is : q.view ≡ shown tree = ap (λ (m : PassModel). m.view) (sym same_pass) ∙ sym shows in
      let was = was_expected tree.told c tag (subst (λ (v : View). IsTold v (Expects c tag)) is told) in
      let cut = was.is in
      omega arith

  -- a card that a call fills has a slot there
  abbrev pub FillFits : Call → Type 0
  FillFits (call.Fill e f value) = HasSlotThere p.table.words e
  FillFits _ = Unit {0}

  fill_fits : (keys : List ℕ) (share : Share) (standing : Standing) (participant : Participant) → participant.slot ≡ p.memory.slot → PassFits keys share p.table.words p.view → StandingFits standing p.table.words participant
      → (c : Call) → May u.plan c q.view → MayInTable u.plan q c → FillFits c
  fill_fits keys share standing participant is fits placed (call.Fill e f value) may kept = by u.plan.slots refl
    where
      by : (o : Option Slots) → u.plan.slots ≡ o → HasSlotThere p.table.words e
      by None none =
          let low = (named_there keys share fits).hand e may.holds in
          let few = few_there none in
          let all = own_size ∙ (λ i. size_by (ap (λ (m : TableModel). m.plan.slots) same_table i) (ap (λ (m : TableModel). m.plan.last_card) same_table i)) ∙ ap (λ o. size_by o u.plan.last_card) none in
          record { last = u.plan.last_card; low = few; few = omega arith; inside = omega arith }
      by (Some s) some = placed.slot e (is ∙ (ap (λ (m : PassModel). m.memory.slot) same_pass ∙ kept s some))
  fill_fits keys share standing participant is fits placed _ may kept = tt

  -- the word of a step call is one of the table
  inside_there : (keys : List ℕ) (share : Share) (c : Call) → PassFits keys share p.table.words p.view → May u.plan c q.view → FillFits c → place_of c < t.id.words
  inside_there keys share (call.Fill e f value) fits may has =
      let low = (address_in_table has.last (slot_of e) f has.inside).1 in
      let few = has.few in
      let same = ap (λ i. i.words) of_table in
      omega arith
  inside_there keys share c fits may has =
      let few = fits.inside.few in
      let below = place_fits fits.inside.last u.plan c q.view may tt (subst (λ (m : PassModel). IsPlaced fits.inside.last m.view) same_pass fits.inside.placed) in
      let same = ap (λ i. i.words) of_table in
      omega arith

  -- what a step call asks of the slots, of what the seat of the pass knows
  pub asks_there : (k : Known) → shown k.tree ≡ p.view → k.participant.slot ≡ p.memory.slot → k.participant.retired ≡ p.memory.retired → (c : Call) → MayInTable u.plan q c
      → (s : Slots) → u.plan.slots ≡ Some s → MayInMemory s k.participant.slot k.participant.retired (shown k.tree) c
  asks_there k shows slotted retires c kept s some =
      let is : q.view ≡ shown k.tree = ap (λ (m : PassModel). m.view) (sym same_pass) ∙ sym shows in
      let taken : q.memory.slot ≡ k.participant.slot = ap (λ (m : PassModel). m.memory.slot) (sym same_pass) ∙ sym slotted in
      let same : q.memory.retired ≡ k.participant.retired = ap (λ (m : PassModel). m.memory.retired) (sym same_pass) ∙ sym retires in
      subst (λ v. MayInMemory s k.participant.slot k.participant.retired v c) is
      (subst (λ (r : Retired). MayInMemory s k.participant.slot r q.view c) same (subst (λ o. MayInMemory s o q.memory.retired q.view c) taken (kept s some)))

  -- what a step call owes that the rule of its table allows, by what its caller says of the table and the pass
  pub owed_by : (k : Known) (seat : ℕ) → k.participant.slot ≡ p.memory.slot → (held : List (ℕ × Unit {0})) (keys : List ℕ) (share : Share) (standing : Standing) (word : ℕ) (f : ℕ → ℕ)
      (told : ℕ → Me (Unit {0}) Known → List (ℕ × Unit {0}) → Type 0) (c : Call) → t.id.slots ≡ 0 → held ≡ [] → PassFits keys share p.table.words p.view → StandingFits standing p.table.words k.participant
      → word ≡ place_of c → May u.plan c q.view → MayInTable u.plan q c → ((id : ℕ) → Allows (IsWhole u.plan) 0 id (k, []) (place_of c) f (λ n x. told n x []))
      → (p.table ≡ t.id) × (word < t.id.words) × Allows (IsWhole t.plan) t.id.slots seat (k, held) word f (λ n x. told n x held)
  owed_by k seat slotted held keys share standing word f told c none empty fits placed at may kept step =
      let rule : (id : ℕ) → Allows (IsWhole t.plan) 0 id (k, []) word f (λ n x. told n x []) =
      subst (λ (i : ℕ). (id : ℕ) → Allows (IsWhole t.plan) 0 id (k, []) i f (λ n x. told n x [])) (sym at)
      (subst (λ (m : TableModel). (id : ℕ) → Allows (IsWhole m.plan) 0 id (k, []) (place_of c) f (λ n x. told n x [])) (sym same_table) step) in (
        of_table,
        subst (λ i. i < t.id.words) (sym at) (inside_there keys share c fits may (fill_fits keys share standing k.participant slotted fits placed c may kept)),
        allowed t.plan t.id.slots seat (k, held) word f told none empty rule,
      )

  -- what one owes that may begin an operation or answer one, by a pass that is shown of what its seat knows
  pub owed_marked : (k : Known) → shown k.tree ≡ p.view → (seat : ℕ) → k.participant.slot ≡ p.memory.slot → k.participant.retired ≡ p.memory.retired → (held : List (ℕ × Unit {0})) (keys : List ℕ) (share : Share) (standing : Standing) (word : ℕ) (f : ℕ → ℕ)
      (told : ℕ → View → Type 0) (notes : ℕ → Participant) (c : Call) → t.id.slots ≡ 0 → held ≡ [] → PassFits keys share p.table.words p.view → StandingFits standing p.table.words k.participant
      → StoresWord c → word ≡ place_of c → May u.plan c q.view → MayInTable u.plan q c → Does u.plan c f
      → (u.plan.slots ≢ None → k.participant.announced ≡ None → IsQuiet c) → (IsFill c → (n m : ℕ) (w : View) → told n w → told m w) → MayTell u.plan c q.view told
      → ((n : ℕ) → IsWord n → Notes u.plan.slots c n k.participant (notes n))
      → (p.table ≡ t.id) × (word < t.id.words)
      × Allows (IsWhole t.plan) t.id.slots seat (k, held) word f (λ n x. told n (shown x.0.tree) × (x.0.participant ≡ notes n) × (x.1 ≡ held) × Marks c (shown k.tree) k.sight x.0.sight)
  owed_marked k shows seat slotted retires held keys share standing word f told notes c none empty fits placed stores at may kept does quiet same tells noted =
      let is : q.view ≡ shown k.tree = ap (λ (m : PassModel). m.view) (sym same_pass) ∙ sym shows in
      owed_by k seat slotted held keys share standing word f (λ n x l. told n (shown x.0.tree) × (x.0.participant ≡ notes n) × (x.1 ≡ l) × Marks c (shown k.tree) k.sight x.0.sight) c none empty fits placed at may kept
      (tree_step_marked u.plan k c f told notes stores (subst (May u.plan c) is may) (asks_there k shows slotted retires c kept) (λ some. placed.lost) does quiet same (subst (λ v. MayTell u.plan c v told) is tells) noted)

  -- what a step call owes that neither begins an operation nor answers one, by what its caller says of the table and the pass, which is shown of what its seat knows
  pub owed : (k : Known) → shown k.tree ≡ p.view → (seat : ℕ) → k.participant.slot ≡ p.memory.slot → k.participant.retired ≡ p.memory.retired → (held : List (ℕ × Unit {0})) (keys : List ℕ) (share : Share) (standing : Standing) (word : ℕ) (f : ℕ → ℕ)
      (told : ℕ → View → Type 0) (notes : ℕ → Participant) (c : Call) → t.id.slots ≡ 0 → held ≡ [] → PassFits keys share p.table.words p.view → StandingFits standing p.table.words k.participant
      → StoresWord c → word ≡ place_of c → May u.plan c q.view → MayInTable u.plan q c → Does u.plan c f
      → (u.plan.slots ≢ None → k.participant.announced ≡ None → IsQuiet c) → (IsFill c → (n m : ℕ) (w : View) → told n w → told m w) → MayTell u.plan c q.view told
      → ((n : ℕ) → IsWord n → Notes u.plan.slots c n k.participant (notes n)) → IsCalm c
      → (p.table ≡ t.id) × (word < t.id.words)
      × Allows (IsWhole t.plan) t.id.slots seat (k, held) word f (λ n x. told n (shown x.0.tree) × (x.0.participant ≡ notes n) × (x.1 ≡ held) × (x.0.sight ≡ k.sight))
  owed k shows seat slotted retires held keys share standing word f told notes c none empty fits placed stores at may kept does quiet same tells noted calm =
      let x = owed_marked k shows seat slotted retires held keys share standing word f told notes c none empty fits placed stores at may kept does quiet same tells noted in
      (x.0, x.1, λ s holds homes here small. (let y = x.2 s holds homes here small in (y.0, y.1, y.2, y.3, (y.4.0, y.4.1, y.4.2, calm_marks c calm (shown k.tree) k.sight y.0.sight y.4.3))))

  -- the pass after a step that told this
  pub stepped : (keys : List ℕ) (share : Share) (words n : ℕ) (w : View) (told : ℕ → View → Type 0) → t.plan.last_card ≤ greatest_number → PassFits keys share p.table.words p.view → words ≡ p.table.words
      → KeepsPass u.plan q.view told → told n w → PassFits keys share words w
  stepped keys share words n w told room fits same keeps says =
      still_fits t.plan words (same ∙ own_size) fit keys share p.view w (subst (λ i. PassFits keys share i p.view) (sym same) fits) room
      (subst (λ (m : TableModel). KeepsPass m.plan p.view told) (sym same_table)
      (subst (λ (m : PassModel). KeepsPass u.plan m.view told) (sym same_pass) keeps) n w says)

  -- a part of the pass, with keys that go with what it is to know
  pub part_fits : (was keys : List ℕ) (had share : Share) (words : ℕ) (w : View) → PassFits was had p.table.words p.view → words ≡ p.table.words
      → HasShare share w → MayHave q.view keys w → PassFits keys share words w
  part_fits was keys had share words w fits same has may =
      has_keys words was keys had share p.view w (subst (λ i. PassFits was had i p.view) (sym same) fits) has
      (subst (λ (m : PassModel). MayHave m.view keys w) (sym same_pass) may)
