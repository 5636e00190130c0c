use Rattle.std.proofs.Common.{◌+◌, ◌≤◌, ◌||◌, if◌then◌else◌, false, ◌≡◌, ◌∷◌, ℕ, ◌<◌, Bool, true, get_or, refl, sym, ap, subst, inl, inr, arith, ◌∙◌}
use Rattle.ell_core.proofs.lemmas.stages.LaterKeys.{root_born}
use mathlib.Core.Option.{some}
use lib.ListN.{get_elem?}
use Rattle.ell_word.specs.Node.{IsInternal}
use Rattle.ell_core.specs.declared.fact.Fact.TheVariants.{Marked, DFlagged}
use Rattle.ell_layout.specs.declared.field.Field.{Field}
use Rattle.ell_layout.specs.declared.field.Field.TheVariants as field
use Rattle.ell_layout.specs.Layout.{address}
use Rattle.ell_layout.specs.Words.{word, table_word}
use Rattle.ell_core.specs.history.Stages.{Born}
use Rattle.ell_runs.specs.Plans.{TablePlan}
use Rattle.ell_runs.specs.declared.call.Call.TheVariants as call
use Rattle.ell_runs.specs.declared.view.Told.{Told}
use Rattle.ell_runs.specs.declared.view.Told.TheVariants.{Met, Key, Info, Frozen, Expects}
use Rattle.ell_runs.specs.declared.view.View.{View}
use Rattle.ell_runs.specs.Depths.{depth_told, depth_under, met_at, level, tells_grandparent_of}
use Rattle.ell_runs.specs.Views.{IsTold, Has, earlier, InTable, KnowsCard, KnowsDelete}
use Rattle.ell_runs.specs.Changes.{told_info, depth_there}
use Rattle.ell_core.specs.state.Facts.{known_of}
use Rattle.ell_runs.proofs.lemmas.seats.Staying.{known_by}
use Rattle.ell_runs.proofs.lemmas.views.Afters.{after_info, after_frozen_child}
use Rattle.ell_runs.specs.Guards.{MayAsk, KnowsPlace}
use Rattle.ell_runs.specs.Calls.{child_address, TellsNode}
use Rattle.ell_runs.specs.States.{TableState}
use Rattle.ell_runs.specs.Machines.{EntryHolds, HasMachine}
use Rattle.ell_core.specs.statements.Told.{is_fixed}
use Rattle.ell_runs.specs.Laws.{IsEvent}
use Rattle.ell_runs.proofs.lemmas.views.Entries.{info_more}
use Rattle.ell_runs.proofs.lemmas.views.Depths.{met_more, under_at_most, grandparent_is}
use Rattle.ell_runs.proofs.lemmas.seats.Entries.{with_entry, met_holds, below_holds, told_within}
use Rattle.ell_runs.proofs.lemmas.seats.Seats.{mine_sound}
use Rattle.ell_runs.proofs.lemmas.seats.Frames.{kept_told, is_no_event}
use Rattle.ell_runs.proofs.lemmas.stepping.Looks.{born_in_table, born_small, child_born}
use Rattle.ell_runs.proofs.lemmas.stepping.Exchanges.{told_is}
use Rattle.ell_runs.proofs.lemmas.stepping.Known.{known_delete, known_card, known_claimed, known_settled, child_found}
use Rattle.ell_runs.proofs.lemmas.Ranks.{level_rises}
use Rattle.ell_core.specs.tree.Rank.{rank}
use Rattle.std.proofs.lemmas.Bool.{false≢true}
use Rattle.ell_word.specs.Link.{link_in}
use Rattle.ell_word.specs.declared.link.Link.{Link}
use Rattle.ell_word.proofs.Numbers.{link_back}
use Rattle.ell_layout.specs.Cards.{says_by}

module _ (plan : TablePlan) (s : TableState) (r : HasMachine plan s) (id : ℕ) (v : View) (here : get_elem? s.views id ≡ some v) where
  -- where a known card goes came into the tree; an insert's has no grandparent, which is node 0
  gp_born : (c : ℕ) → KnowsCard v c → Born r.stages (r.words.gp c)
  gp_born c k = elim (known_card plan s r id v here c k) [
    | inl i ↦ subst (Born r.stages) (sym i.gp) (root_born r.words r.stages r.invariant.words)
    | inr d ↦ d.grandparent.born
  ]

  p_born : (c : ℕ) → KnowsCard v c → Born r.stages (r.words.p c)
  p_born c k = elim (known_card plan s r id v here c k) [ inl i ↦ i.parent.born | inr d ↦ d.parent.born ]

  l_born : (c : ℕ) → KnowsCard v c → Born r.stages (r.words.l c)
  l_born c k = elim (known_card plan s r id v here c k) [ inl i ↦ i.lower | inr d ↦ d.leaf.born ]

  -- nodes that are these have their ranks
  ranks_are : (x y x' y' : ℕ) → x ≡ x' → y ≡ y' → rank r.words x < rank r.words y → rank r.words x' < rank r.words y'
  ranks_are x y x' y' a b less = let first = ap (rank r.words) a in let second = ap (rank r.words) b in omega arith

  -- the leaf's word is read as the leaf and the tag that the card expects
  leaf_read : (c n : ℕ) → KnowsCard v c → table_word r.words c field.L ≡ n
      → link_in n ≡ record { node = r.words.l c; tag = r.words.expects c }
  leaf_read c n k is = ap link_in (sym is)
      ∙ link_back (r.words.l c) (r.words.expects c) (born_small plan s r id v here (r.words.l c) (l_born c k))

  -- what a fixed field says by the table's word
  pub says : (c : ℕ) (f : Field) (n : ℕ) → KnowsCard v c → is_fixed f ≡ true → table_word r.words c f ≡ n → word r.words c f ≡ says_by f n
  says c field.L n k fixed is = ap (λ (l : Link). l.node) (sym (leaf_read c n k is))
  says c field.Gp n k fixed is = is
  says c field.P n k fixed is = is
  says c field.Was n k fixed is = is
  says c field.Key n k fixed is = is
  says c field.LeftLeafKey n k fixed is = is
  says c field.RightLeafKey n k fixed is = is
  says c field.LeftValue n k fixed is = is
  says c field.RightValue n k fixed is = is
  says c field.Left n k fixed is = absurd (false≢true fixed)
  says c field.Right n k fixed is = absurd (false≢true fixed)
  says c field.Update n k fixed is = absurd (false≢true fixed)

  -- grandparent and parent are internal
  gp_inner : (c : ℕ) → KnowsCard v c → IsInternal (r.words.gp c)
  gp_inner c k = elim (known_card plan s r id v here c k) [ inl i ↦ subst IsInternal (sym i.gp) refl | inr d ↦ d.grandparent.inner ]

  p_inner : (c : ℕ) → KnowsCard v c → IsInternal (r.words.p c)
  p_inner c k = elim (known_card plan s r id v here c k) [ inl i ↦ i.parent.inner | inr d ↦ d.parent.inner ]

  -- a delete's parent has a greater level than its grandparent
  parent_there : (c p : ℕ) → r.words.p c ≡ p → depth_there v c field.P ≤ level r.words p
  parent_there c p is = by (known_of v.worker.knows (DFlagged c)) (known_of v.worker.knows (Marked c)) refl refl
    where
      under : KnowsDelete v c → depth_under (tells_grandparent_of c) v.told v.told ≤ level r.words p
      under knows = under_at_most (tells_grandparent_of c) v.told v.told (level r.words p) (λ e gp has tells.
          let d = known_delete plan s r id v here c knows in
          let gp_is : r.words.gp c ≡ gp = told_is plan s r id v here c field.Gp gp (subst (IsTold v) (grandparent_is c e gp tells) has) in
          let less = level_rises r.words gp p (subst IsInternal gp_is d.grandparent.inner) (ranks_are (r.words.gp c) (r.words.p c) gp p gp_is is d.first) in
          let at = told_within r.words r.stages v.told (r.views id v here).entries gp in
          omega arith)

      by : (a b : Bool) → known_of v.worker.knows (DFlagged c) ≡ a → known_of v.worker.knows (Marked c) ≡ b
          → (if a || b then depth_under (tells_grandparent_of c) v.told v.told else 0) ≤ level r.words p
      by true b flagged marked = under (inl flagged)
      by false true flagged marked = under (inr marked)
      by false false flagged marked = omega arith

  -- what is told of a card's word
  info_entries : (c : ℕ) (f : Field) (n : ℕ) → KnowsCard v c → is_fixed f ≡ true → table_word r.words c f ≡ n
      → (e : Told) → Has (told_info (depth_there v c f) c f n v.told) e → EntryHolds r.words r.stages e
  info_entries c f n k asked is = by f asked is
    where
      old : (e : Told) → Has v.told e → EntryHolds r.words r.stages e
      old = (r.views id v here).entries

      met : (x y : ℕ) → Born r.stages x → x ≡ y → (e : Told) → Has (Met y ∷ v.told) e → EntryHolds r.words r.stages e
      met x y born eq = with_entry (EntryHolds r.words r.stages) (Met y) v.told (subst (Born r.stages) eq born) old

      by : (g : Field) → is_fixed g ≡ true → table_word r.words c g ≡ n → (e : Told) → Has (told_info (depth_there v c g) c g n v.told) e → EntryHolds r.words r.stages e
      by field.Gp fixed eq = with_entry (EntryHolds r.words r.stages) (Info c field.Gp n) (Met n ∷ v.told)
          (known_claimed plan s r id v here c k, fixed, eq) (met (r.words.gp c) n (gp_born c k) eq)
      by field.P fixed eq =
          let depth = depth_there v c field.P in
          with_entry (EntryHolds r.words r.stages) (Info c field.P n) (met_at depth n v.told)
          (known_claimed plan s r id v here c k, fixed, eq)
          (met_holds r.words r.stages depth n v.told (subst (Born r.stages) eq (p_born c k)) (parent_there c n eq) old)
      by field.L fixed eq =
          let link = link_in n in
          let read = leaf_read c n k eq in
          let claimed = known_claimed plan s r id v here c k in
          with_entry (EntryHolds r.words r.stages) (Info c field.L link.node) (Expects c link.tag ∷ v.told)
          (claimed, fixed, ap (λ (l : Link). l.node) (sym read))
          (with_entry (EntryHolds r.words r.stages) (Expects c link.tag) v.told (claimed, ap (λ (l : Link). l.tag) (sym read)) old)
      by field.Was fixed eq = with_entry (EntryHolds r.words r.stages) (Info c field.Was n) v.told (known_claimed plan s r id v here c k, fixed, eq) old
      by field.Key fixed eq = with_entry (EntryHolds r.words r.stages) (Info c field.Key n) v.told (known_claimed plan s r id v here c k, fixed, eq) old
      by field.LeftLeafKey fixed eq = with_entry (EntryHolds r.words r.stages) (Info c field.LeftLeafKey n) v.told (known_claimed plan s r id v here c k, fixed, eq) old
      by field.RightLeafKey fixed eq = with_entry (EntryHolds r.words r.stages) (Info c field.RightLeafKey n) v.told (known_claimed plan s r id v here c k, fixed, eq) old
      by field.LeftValue fixed eq = with_entry (EntryHolds r.words r.stages) (Info c field.LeftValue n) v.told (known_claimed plan s r id v here c k, fixed, eq) old
      by field.RightValue fixed eq = with_entry (EntryHolds r.words r.stages) (Info c field.RightValue n) v.told (known_claimed plan s r id v here c k, fixed, eq) old
      by field.Left fixed eq = absurd (false≢true fixed)
      by field.Right fixed eq = absurd (false≢true fixed)
      by field.Update fixed eq = absurd (false≢true fixed)

  -- a word that is a node is one of the table
  tells_node : (c : ℕ) (f : Field) (n : ℕ) → KnowsCard v c → word r.words c f ≡ says_by f n → TellsNode plan.last_card f n
  tells_node c field.Gp n k is =
      (subst (InTable plan.last_card) is (born_in_table plan s r id v here (r.words.gp c) (gp_born c k)), subst IsInternal is (gp_inner c k))
  tells_node c field.P n k is =
      (subst (InTable plan.last_card) is (born_in_table plan s r id v here (r.words.p c) (p_born c k)), subst IsInternal is (p_inner c k))
  tells_node c field.L n k is = subst (InTable plan.last_card) is (born_in_table plan s r id v here (r.words.l c) (l_born c k))
  tells_node c _ n k is = tt

  -- info
  pub keeps_info : (c : ℕ) (f : Field) → MayAsk v c f → IsEvent plan s r id v (call.Info c f)
  keeps_info c f may =
      let n = get_or s.words (address c f) 0 in
      let h = r.views id v here in
      let known = known_by v c f may.knows in
      let is : table_word r.words c f ≡ n = sym (r.settled c f (known_settled plan s r id v here c known)) in
      let said = says c f n known may.fixed is in
      is_no_event plan s r id v here (call.Info c f)
      (kept_told plan s r id v here (after_info c f n v) refl (record {
        entries = info_entries c f n known may.fixed is;
        here = λ y key at told. info_more (depth_there v c f) c f n v.told (Key y key) (h.here y key at told);
        hand = h.hand;
        read = h.read;
        least = h.least;
        knew = h.knew;
        walk = h.walk;
      }) (address c f))
      refl refl (tells_node c f n known said)

  -- frozen_child
  pub keeps_frozen_child : (c p : ℕ) (right : Bool) → KnowsPlace v (Marked c) c field.P p → IsEvent plan s r id v (call.FrozenChild c p right)
  keeps_frozen_child c p right may =
      let n = get_or s.words (child_address p right) 0 in
      let h = r.views id v here in
      let w = r.words in
      let known = (mine_sound plan s r id v here).facts (Marked c) may.knows in
      let said = known_delete plan s r id v here c (inr may.knows) in
      let p_is : w.p c ≡ p = told_is plan s r id v here c field.P p may.place in
      let link = link_in n in
      let child_small = born_small plan s r id v here (w.child (w.p c) right) (child_born plan s r id v here (w.p c) right said.parent.inner said.parent.born) in
      let is : w.child (w.p c) right ≡ link.node =
      ap (λ (l : Link). l.node) (sym (ap link_in (sym (child_found plan s r id v here (w.p c) p right p_is said.parent.inner said.parent.born))
      ∙ link_back (w.child (w.p c) right) (w.tag (w.p c) right) child_small)) in
      let mark = ((r.invariant.words.deletes c).marked known).mark in
      let children = r.invariant.words.children (w.p c) said.parent.inner said.parent.born in
      let born : Born r.stages link.node = subst (Born r.stages) is (children.born right) in
      let deeper = ranks_are (w.p c) (w.child (w.p c) right) p link.node p_is is (children.rising right) in
      is_no_event plan s r id v here (call.FrozenChild c p right)
      (kept_told plan s r id v here (after_frozen_child c p right n v) refl (record {
        entries = with_entry (EntryHolds w r.stages) (Frozen c right link.node) (met_at (depth_told v.told p + 1) link.node v.told)
            (known_claimed plan s r id v here c (inr (inr may.knows)), mark, is, born)
            (below_holds w r.stages p link.node v.told born (subst IsInternal p_is said.parent.inner) deeper h.entries);
        here = λ y key at told. earlier (Key y key) (Frozen c right link.node) (met_at (depth_told v.told p + 1) link.node v.told) (met_more (depth_told v.told p + 1) link.node v.told (Key y key) (h.here y key at told));
        hand = h.hand;
        read = h.read;
        least = h.least;
        knew = h.knew;
        walk = h.walk;
      }) (child_address p right))
      refl refl (born_in_table plan s r id v here link.node born)
