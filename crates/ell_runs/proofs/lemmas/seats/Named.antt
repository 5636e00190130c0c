use Rattle.std.proofs.Common.{◌≡◌, ℕ, ◌+◌, ◌<◌, ◌≤◌, ap, ◌∙◌, subst, arith, inl, inr}
use mathlib.Core.Option.{some}
use lib.ListN.{get_elem?}
use Rattle.ell_word.specs.Node.{card}
use Rattle.ell_word.specs.Word.{unpacked}
use Rattle.ell_layout.specs.declared.field.Field.{Field}
use Rattle.ell_layout.specs.declared.field.Field.TheVariants as field
use Rattle.ell_core.specs.declared.view.Seen.{Seen}
use Rattle.ell_layout.specs.Words.{word}
use Rattle.ell_core.specs.state.Facts.{card_of_fact}
use Rattle.ell_core.specs.state.Machine.{Worker}
use Rattle.ell_core.specs.history.Stages.{Born, is_start}
use Rattle.ell_core.specs.statements.StepLaws.{HasSeen}
use Rattle.ell_runs.specs.Plans.{TablePlan}
use Rattle.ell_runs.specs.declared.view.Told.{Told}
use Rattle.ell_runs.specs.declared.view.Told.TheVariants.{Met, Depth, Key, Value, Info, Frozen, Expects}
use Rattle.ell_runs.specs.declared.view.View.{View}
use Rattle.ell_runs.specs.Naming.{InfoIsNamed, EntryIsNamed, SeenIsNamed, IsNamed}
use Rattle.ell_runs.specs.States.{TableState}
use Rattle.ell_runs.specs.Machines.{EntryHolds, HasMachine}
use Rattle.ell_runs.specs.Depths.{deepest, IsShallow}
use Rattle.ell_runs.proofs.lemmas.views.Depths.{told_shallow}
use Rattle.ell_runs.proofs.lemmas.Ranks.{level_within}
use Rattle.ell_runs.proofs.lemmas.seats.Seats.{mine_is, relies, stands_born, born_claimed}
use Rattle.std.proofs.lemmas.Bool.{cases_Bool}

module _ (plan : TablePlan) (s : TableState) (r : HasMachine plan s) (id : ℕ) (v : View) (here : get_elem? s.views id ≡ some v)
    (last : ℕ) (room : r.words.next ≤ last + 1) where
  -- a claimed card is no later than the last that may be claimed
  claimed_fits : (c : ℕ) → c < r.words.next → c ≤ last
  claimed_fits c low = omega arith

  -- so is a node that came into the tree
  born_fits : (x : ℕ) → Born r.stages x → card x ≤ last
  born_fits x born = claimed_fits (card x) (born_claimed plan s r id v here x born)

  -- a node that a search has seen
  seen_fits : (seen : Seen) (x : ℕ) → HasSeen r.words r.stages seen x → SeenIsNamed last seen
  seen_fits seen x h = record { node = born_fits seen.node h.node.born; word = claimed_fits (unpacked seen.word).card h.names; tag = claimed_fits seen.tag h.tag }

  -- a word of a claimed card that is a node
  info_fits : (c : ℕ) (f : Field) (x : ℕ) → c < r.words.next → word r.words c f ≡ x → InfoIsNamed last f x
  info_fits c field.Gp x low is = subst (λ y. card y ≤ last) is (born_fits (r.words.gp c) ((relies plan s r id v here).goes c low).grandparent.born)
  info_fits c field.P x low is = subst (λ y. card y ≤ last) is (born_fits (r.words.p c) ((relies plan s r id v here).goes c low).parent.born)
  info_fits c field.L x low is = subst (λ y. card y ≤ last) is (born_fits (r.words.l c) ((relies plan s r id v here).goes c low).leaf)
  info_fits c _ x low is = tt

  -- the tag that a claimed card expects is at most its own number
  expected_fits : (c : ℕ) → c < r.words.next → r.words.expects c ≤ c
  expected_fits c low = elim (cases_Bool (is_start (r.stages c))) [
    | inl start ↦ (let none = (r.invariant.kinds.start c start).expects in omega arith)
    | inr other ↦ elim (r.invariant.kinds.kinds c low other) [
      | inl inserts ↦ (let less = ((r.invariant.words.cards c).insert inserts).expected in omega arith)
      | inr deletes ↦ (let less = ((r.invariant.words.cards c).delete deletes).expected in omega arith)
    ]
  ]

  -- what was told
  entry_fits : (e : Told) → EntryHolds r.words r.stages e → EntryIsNamed last e
  entry_fits (Met x) h = born_fits x h
  entry_fits (Depth x d) h = born_fits x h.0
  entry_fits (Key x key) h = born_fits x h.0
  entry_fits (Value x value) h = born_fits x h.0
  entry_fits (Info c f x) h = (claimed_fits c h.0, info_fits c f x h.0 h.2)
  entry_fits (Expects c tag) h = (claimed_fits c h.0, (let low = expected_fits c h.0 in let most = claimed_fits c h.0 in let is = h.1 in omega arith))
  entry_fits (Frozen c right x) h = (claimed_fits c h.0, born_fits x h.3)

  -- all that the pass names
  pub named_to : IsNamed last v
  named_to =
      let same = mine_is plan s r id v here in
      let rely = relies plan s r id v here in record {
        node = λ x at. born_fits x (stands_born plan s r id v here x at);
        parent = λ x seen at behind. seen_fits seen x
            (rely.parent x seen (ap (λ (u : Worker). u.search.node) same ∙ at) (ap (λ (u : Worker). u.search.parent) same ∙ behind));
        grandparent = λ x seen above at behind up. seen_fits above seen.node
            (rely.grandparent x seen above (ap (λ (u : Worker). u.search.node) same ∙ at) (ap (λ (u : Worker). u.search.parent) same ∙ behind)
            (ap (λ (u : Worker). u.search.grandparent) same ∙ up));
        hand = λ c has. claimed_fits c (rely.hand c (ap (λ (u : Worker). u.card) same ∙ has));
        facts = λ f knows. claimed_fits (card_of_fact f) (rely.known f (ap (λ (u : Worker). u.knows f) same ∙ knows));
        entries = λ e told. entry_fits e ((r.views id v here).entries e told);
        next = let least = (r.views id v here).least in omega arith;
      }

-- all that it names is in the table, and no depth was told that a node of the table may not have
module _ (plan : TablePlan) (s : TableState) (r : HasMachine plan s) (id : ℕ) (v : View) (here : get_elem? s.views id ≡ some v) where
  pub kept_named : IsNamed plan.last_card v
  kept_named = named_to plan s r id v here plan.last_card r.invariant.limit

  pub kept_shallow : (x : ℕ) → IsShallow (deepest plan) v x
  kept_shallow x = told_shallow (deepest plan) v x (λ d told.
      let h = (r.views id v here).entries (Depth x d) told in
      let most = level_within plan r.words r.shape x (born_fits plan s r id v here plan.last_card r.invariant.limit x h.0) in
      let at = h.1 in
      omega arith)

-- what is named up to a card is named up to a later one
info_more : (a b : ℕ) → a ≤ b → (f : Field) (x : ℕ) → InfoIsNamed a f x → InfoIsNamed b f x
info_more a b low field.Gp x h = omega arith
info_more a b low field.P x h = omega arith
info_more a b low field.L x h = omega arith
info_more a b low _ x h = tt

entry_more : (a b : ℕ) → a ≤ b → (e : Told) → EntryIsNamed a e → EntryIsNamed b e
entry_more a b low (Met x) h = omega arith
entry_more a b low (Depth x d) h = omega arith
entry_more a b low (Key x key) h = omega arith
entry_more a b low (Value x value) h = omega arith
entry_more a b low (Info c f x) h = (let most = h.0 in omega arith, info_more a b low f x h.1)
entry_more a b low (Expects c tag) h = (let most = h.0 in omega arith, let most = h.1 in omega arith)
entry_more a b low (Frozen c right x) h = (let most = h.0 in omega arith, let most = h.1 in omega arith)

seen_more : (a b : ℕ) → a ≤ b → (seen : Seen) → SeenIsNamed a seen → SeenIsNamed b seen
seen_more a b low seen h = record {
  node = let most = h.node in omega arith;
  word = let most = h.word in omega arith;
  tag = let most = h.tag in omega arith;
}

pub named_more : (a b : ℕ) → a ≤ b → (v : View) → IsNamed a v → IsNamed b v
named_more a b low v h = record {
  node = λ x at. (let most = h.node x at in omega arith);
  parent = λ x seen at behind. seen_more a b low seen (h.parent x seen at behind);
  grandparent = λ x seen above at behind up. seen_more a b low above (h.grandparent x seen above at behind up);
  hand = λ c has. (let most = h.hand c has in omega arith);
  facts = λ f knows. (let most = h.facts f knows in omega arith);
  entries = λ e told. entry_more a b low e (h.entries e told);
  next = let most = h.next in omega arith;
}
