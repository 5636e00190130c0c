-- In a table that turns have led to, each word that a call finds is of cards whose numbers were given: all below the claim word.
use Rattle.std.proofs.Common.{◌≡◌, ℕ, Bool, true, false, get_or, refl, sym, ap, ◌∙◌, subst, inl, inr, arith}
use mathlib.Core.Option.{some}
use lib.ListN.{get_elem?}
use Rattle.ell_word.specs.Node.{IsInternal}
use Rattle.ell_word.specs.declared.link.Link.{Link}
use Rattle.ell_word.specs.Link.{link_in}
use Rattle.ell_word.proofs.Numbers.{link_back}
use Rattle.ell_layout.specs.declared.field.Field.{Field}
use Rattle.ell_layout.specs.declared.field.Field.TheVariants as field
use Rattle.ell_layout.specs.Layout.{address}
use Rattle.ell_layout.specs.Words.{table_word}
use Rattle.ell_core.specs.history.Stages.{Born}
use Rattle.ell_core.specs.state.Machine.{Worker}
use Rattle.ell_core.specs.statements.StepLaws.{IsReadable}
use Rattle.ell_runs.specs.declared.call.Call.{Call}
use Rattle.ell_runs.specs.declared.call.Call.TheVariants as call
use Rattle.ell_runs.specs.declared.view.Told.TheVariants.{Met, Info}
use Rattle.ell_runs.specs.declared.view.View.{View}
use Rattle.ell_runs.specs.Calls.{May, child_address}
use Rattle.ell_runs.proofs.lemmas.words.Addresses.{update_address}
use Rattle.ell_runs.specs.Guards.{MayAsk}
use Rattle.ell_runs.specs.Machines.{HasMachine}
use Rattle.ell_runs.specs.NamedBelow.{FindsBelow, NodeBelow, WordBelow}
use Rattle.ell_runs.specs.Plans.{TablePlan}
use Rattle.ell_runs.specs.States.{TableState}
use Rattle.ell_runs.specs.Turns.{found_by}
use Rattle.ell_runs.specs.Views.{IsTold, KnowsCard}
use Rattle.ell_runs.proofs.lemmas.seats.Seats.{mine_is, relies, stands_born, born_claimed}
use Rattle.ell_runs.proofs.lemmas.seats.Staying.{known_by}
use Rattle.ell_runs.proofs.lemmas.stepping.Known.{known_card, known_claimed, known_settled}
use Rattle.ell_runs.proofs.lemmas.stepping.Looks.{born_small, child_born, child_read, update_listed}
use Rattle.ell_core.proofs.lemmas.stages.LaterKeys.{root_born}
use Rattle.ell_core.specs.statements.Told.{is_fixed}
use Rattle.std.proofs.lemmas.Bool.{false≢true}

-- a call that claims no card
abbrev pub ClaimsNone : Call → Type 0
ClaimsNone (call.Claim c node) = ⊥
ClaimsNone c = Unit {0}

module _ (plan : TablePlan) (s : TableState) (r : HasMachine plan s) (id : ℕ) (v : View) (here : get_elem? s.views id ≡ some v) where
  -- the update word of an internal node that came into the tree
  update_finds : (x : ℕ) → IsInternal x → Born r.stages x → NodeBelow r.words.next (get_or s.words (update_address x) 0)
  update_finds x inner born =
      subst (NodeBelow r.words.next) (update_listed plan s r id v here x inner born) (r.invariant.words.updates x inner born).named

  -- and a child of it
  child_finds : (x : ℕ) (right : Bool) → IsInternal x → Born r.stages x
      → NodeBelow r.words.next (link_in (get_or s.words (child_address x right) 0)).node
  child_finds x right inner born =
      subst (λ (l : Link). NodeBelow r.words.next l.node) (sym (child_read plan s r id v here x right inner born))
      (born_claimed plan s r id v here (r.words.child x right) (child_born plan s r id v here x right inner born))

  -- where a card goes that was told
  parent_at : (c x : ℕ) → IsTold v (Info c field.P x) → IsReadable r.words r.stages x
  parent_at c x told =
      let h = (r.views id v here).entries (Info c field.P x) told in
      subst (IsReadable r.words r.stages) h.2 ((relies plan s r id v here).goes c h.0).parent

  grandparent_at : (c x : ℕ) → IsTold v (Info c field.Gp x) → IsReadable r.words r.stages x
  grandparent_at c x told =
      let h = (r.views id v here).entries (Info c field.Gp x) told in
      subst (IsReadable r.words r.stages) h.2 ((relies plan s r id v here).goes c h.0).grandparent

  -- the leaf of a card, and its parent
  leaf_below : (c x : ℕ) → IsTold v (Info c field.L x) → NodeBelow r.words.next x
  leaf_below c x told =
      let h = (r.views id v here).entries (Info c field.L x) told in
      subst (NodeBelow r.words.next) h.2 (born_claimed plan s r id v here (r.words.l c) ((relies plan s r id v here).goes c h.0).leaf)

  parent_below : (c x : ℕ) → IsTold v (Info c field.P x) → NodeBelow r.words.next x
  parent_below c x told = born_claimed plan s r id v here x (parent_at c x told).born

  -- the update word that the search of a card's operation read at the parent
  was_below : (c : ℕ) → KnowsCard v c → NodeBelow r.words.next (r.words.was c)
  was_below c knows =
      let low = known_claimed plan s r id v here c knows in elim (known_card plan s r id v here c knows) [
        | inl insert ↦ (let none = insert.was in omega (arith, none, low))
        | inr delete ↦ (let less = delete.earlier in omega (arith, less, low))
      ]

  -- a word of a card that is known flagged or marked, which never changes
  word_finds : (c : ℕ) (f : Field) (n : ℕ) → KnowsCard v c → is_fixed f ≡ true → table_word r.words c f ≡ n → WordBelow r.words.next f n
  word_finds c field.Gp n knows fixed is =
      subst (NodeBelow r.words.next) is (born_claimed plan s r id v here (r.words.gp c)
      ((relies plan s r id v here).goes c (known_claimed plan s r id v here c knows)).grandparent.born)
  word_finds c field.P n knows fixed is =
      subst (NodeBelow r.words.next) is (born_claimed plan s r id v here (r.words.p c)
      ((relies plan s r id v here).goes c (known_claimed plan s r id v here c knows)).parent.born)
  word_finds c field.L n knows fixed is =
      let born = ((relies plan s r id v here).goes c (known_claimed plan s r id v here c knows)).leaf in
      subst (λ m. NodeBelow r.words.next (link_in m).node) is
      (subst (λ (l : Link). NodeBelow r.words.next l.node) (sym (link_back (r.words.l c) (r.words.expects c) (born_small plan s r id v here (r.words.l c) born)))
      (born_claimed plan s r id v here (r.words.l c) born))
  word_finds c field.Was n knows fixed is = subst (NodeBelow r.words.next) is (was_below c knows)
  word_finds c field.Key n knows fixed is = tt
  word_finds c field.LeftLeafKey n knows fixed is = tt
  word_finds c field.RightLeafKey n knows fixed is = tt
  word_finds c field.LeftValue n knows fixed is = tt
  word_finds c field.RightValue n knows fixed is = tt
  word_finds c field.Left n knows fixed is = absurd (false≢true fixed)
  word_finds c field.Right n knows fixed is = absurd (false≢true fixed)
  word_finds c field.Update n knows fixed is = absurd (false≢true fixed)

  info_finds : (c : ℕ) (f : Field) → MayAsk v c f → WordBelow r.words.next f (get_or s.words (address c f) 0)
  info_finds c f may =
      let knows = known_by v c f may.knows in
      word_finds c f (get_or s.words (address c f) 0) knows may.fixed (sym (r.settled c f (known_settled plan s r id v here c knows)))

  -- a node that was met came into the tree
  met_born : (x : ℕ) → IsTold v (Met x) → Born r.stages x
  met_born x told = (r.views id v here).entries (Met x) told

  -- so it is of each call but a claim
  pub finds_below : (c : Call) → ClaimsNone c → May plan c v → FindsBelow r.words.next c (found_by s c)
  finds_below (call.Begin op) none may = tt
  finds_below call.Again none may = tt
  finds_below call.Leave none may = tt
  finds_below (call.Answer said took) none may = tt
  finds_below (call.Upd x) none may = update_finds x may.inner (stands_born plan s r id v here x may.stands)
  finds_below (call.Down x right) none may = child_finds x right may.inner (stands_born plan s r id v here x may.stands)
  finds_below call.Next none may = tt
  finds_below (call.KeyOf x) none may = tt
  finds_below (call.ValueOf x) none may = tt
  finds_below (call.Info c f) none may = info_finds c f may
  finds_below (call.FrozenChild c p right) none may = (let at = parent_at c p may.place in child_finds p right at.inner at.born)
  finds_below call.Look none may = child_finds 0 false refl (root_born r.words r.stages r.invariant.words)
  finds_below (call.LookDown from to right) none may = child_finds from.node right may.inner (met_born from.node may.met)
  finds_below call.Rest none may = tt
  finds_below (call.Claim c node) none may = none
  finds_below (call.Fill c f value) none may = tt
  finds_below (call.IFlag c p from) none may =
      let same = mine_is plan s r id v here in
      let seen = (relies plan s r id v here).parent may.leaf may.parent (ap (λ (u : Worker). u.search.node) same ∙ may.stands)
      (ap (λ (u : Worker). u.search.parent) same ∙ may.behind) in
      let at = subst (IsReadable r.words r.stages) may.node seen.node in
      update_finds p at.inner at.born
  finds_below (call.IChild c p l replaces right) none may =
      let at = parent_at c p may.parent in
      (leaf_below c l.node may.leaf, child_finds p right at.inner at.born)
  finds_below (call.IUnflag c p) none may = tt
  finds_below (call.DFlag c gp from) none may =
      let same = mine_is plan s r id v here in
      let seen = (relies plan s r id v here).grandparent may.leaf may.parent may.grandparent (ap (λ (u : Worker). u.search.node) same ∙ may.stands)
      (ap (λ (u : Worker). u.search.parent) same ∙ may.behind) (ap (λ (u : Worker). u.search.grandparent) same ∙ may.above) in
      let at = subst (IsReadable r.words r.stages) may.node seen.node in
      update_finds gp at.inner at.born
  finds_below (call.Mark c p was) none may = (let at = parent_at c p may.0.place in update_finds p at.inner at.born)
  finds_below (call.DChild c gp p s' right) none may =
      let at = grandparent_at c gp may.grandparent in
      (parent_below c p.node may.parent, child_finds gp right at.inner at.born)
  finds_below (call.DUnflag c gp) none may = tt
  finds_below (call.Backtrack c gp) none may = tt
