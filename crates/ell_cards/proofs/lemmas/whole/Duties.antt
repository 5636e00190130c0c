-- What a pass has retired for its card in hand, before it lets that go, is all that the card made dead.
use Rattle.std.proofs.Common.{◌≡◌, ◌≢◌, ℕ, zero, suc, ◌+◌, ◌*◌, ◌%◌, ◌<◌, ◌==◌, if◌then◌else◌, Bool, true, false, not, inl, inr, refl, sym, ap, ◌∙◌, subst, arith, eq-eqb, eqb-true, ne_eqb, ◌&&◌, ◌||◌, nat_lt}
use Rattle.std.proofs.lemmas.Bool.{cases_eq, false≢true}
use mathlib.Core.Option.{some}
use lib.ListN.{get_elem?}
use Rattle.ell_ops.specs.Meaning.{key_of}
use Rattle.ell_word.specs.Node.{card, left_leaf, right_leaf}
use Rattle.ell_layout.specs.declared.field.Field.TheVariants as field
use Rattle.ell_layout.specs.Words.{Words, IsLeaf}
use Rattle.ell_layout.specs.Cards.{is_replace_card, keeps_below}
use Rattle.ell_core.specs.declared.fact.Fact.TheVariants as fact
use Rattle.ell_core.specs.history.Stages.{Stage, Stages, is_node_born, is_born, is_cut, is_insert, insert_over, delete_over, is_backed}
use Rattle.ell_core.specs.history.Invariant.{insert_key}
use Rattle.ell_core.specs.state.Machine.{Worker}
use Rattle.ell_core.proofs.lemmas.stages.Order.{changed-insert, cut-delete, one_kind, over-delete, backed-delete, insert_over-changed}
use Rattle.ell_cards.specs.declared.view.Retired.{Retired}
use Rattle.ell_runs.specs.declared.view.Slots.{Slots}
use Rattle.ell_runs.specs.declared.view.View.{View}
use Rattle.ell_cards.specs.Ages.{AreRetired}
use Rattle.ell_runs.specs.Holding.{HasFlagged}
use Rattle.ell_runs.specs.Laws.{machine_of_table}
use Rattle.ell_cards.specs.Leaks.{Kills}
use Rattle.ell_cards.specs.LettingGo.{PutIsRetired, OwnAreRetired, IsRetired}
use Rattle.ell_cards.specs.LettingGo.IsRetired.{put, cut, backed}
use Rattle.ell_runs.specs.Machines.{HasMachine}
use Rattle.ell_runs.specs.Plans.{TablePlan}
use Rattle.ell_runs.specs.Views.{Knows}
use Rattle.ell_cards.specs.SlotWords.{has_slot_in}
use Rattle.ell_runs.specs.States.{TableState}
use Rattle.ell_runs.proofs.lemmas.runs.Alive.{own_key, flat_some}
use Rattle.ell_runs.proofs.lemmas.seats.Seats.{mine_is, mine_sound}
use Rattle.ell_runs.proofs.lemmas.stepping.Exchanges.{told_is}

over_not_cut : (s : Stage) → is_cut s ≡ true → is_backed s ≡ true → ⊥
over_not_cut s h b = grind arith

-- which nodes of the card of an insert that is over came
put_born : (s : Stage) (place : ℕ) → insert_over s ≡ true → is_born s ≡ true → place < 3 → is_node_born s place ≡ true
put_born s zero over born few = grind arith
put_born s (suc zero) over born few = grind arith
put_born s (suc (suc zero)) over born few = grind arith
put_born s (suc (suc (suc i))) over born few = absurd (omega arith)

right_born : (s : Stage) → insert_over s ≡ true → is_node_born s 2 ≡ true
right_born s over = grind arith

-- an insert's key is not that of the node above which it goes, if its leaves have two keys
key_apart : (left right below : ℕ) → left ≢ right → (if left == below then right else left) ≢ below
key_apart left right below apart same = elim (cases_eq left below) [
  | inl e ↦ apart (e ∙ sym (sym (ap (λ (b : Bool). if b then right else left) (eq-eqb left below e)) ∙ same))
  | inr n ↦ n (sym (ap (λ (b : Bool). if b then right else left) (ne_eqb left below n)) ∙ same)
]

module _ (plan : TablePlan) (tree : TableState) (id : ℕ) (v : View) (there : get_elem? tree.views id ≡ some v) (m : HasMachine plan tree) (s : Slots) (r : Retired) (c : ℕ) (hand : HasFlagged v c)
    (P : ℕ → Type 0) (are : AreRetired m.words c r P) (own_slot : has_slot_in s.last c ≡ true) (flat : plan.flat ≡ true) where
  abbrev w : Words
  w = m.words

  abbrev stage : Stages
  stage = m.stages

  -- of the card of an insert or a swap
  module _ (over : insert_over (stage c) ≡ true) (p : PutIsRetired s v r c) where
    kind : is_insert (stage c) ≡ true
    kind = changed-insert (stage c) (insert_over-changed (stage c) over)

    below : w.l c ≡ p.below
    below = told_is plan tree m id v there c field.L p.below p.goes

    left : w.key (left_leaf c) ≡ p.left
    left = told_is plan tree m id v there c field.LeftLeafKey p.left p.left_key

    right : w.key (right_leaf c) ≡ p.right
    right = told_is plan tree m id v there c field.RightLeafKey p.right p.right_key

    own : insert_key w c ≡ key_of p.op
    own = own_key w stage ((machine_of_table plan tree m).worker id) p.op c kind
        ((m.invariant.workers.each id).flagged p.op c (ap (λ (u : Worker). u.operation) (mine_is plan tree m id v there) ∙ p.busy)
        (ap (λ (u : Worker). u.card) (mine_is plan tree m id v there) ∙ hand.holds) (ap (λ (u : Worker). u.flagged) (mine_is plan tree m id v there) ∙ hand.flagged)).0

    -- a card that keeps the node below has two leaf keys
    two : keeps_below w c ≡ true → p.left ≢ p.right
    two keeps same = false≢true (sym (ap (λ (b : Bool). not b && (nat_lt 0 w.flat_from || w.l c % 4 == 0)) (eq-eqb (w.key (left_leaf c)) (w.key (right_leaf c)) (left ∙ (same ∙ sym right)))) ∙ keeps)

    -- in a flat tree one that does not has one
    one : keeps_below w c ≡ false → p.left ≡ p.right
    one goes = by (is_replace_card w c) refl
      where
        by : (b : Bool) → is_replace_card w c ≡ b → p.left ≡ p.right
        by true e = sym left ∙ (eqb-true (w.key (left_leaf c)) (w.key (right_leaf c)) e ∙ right)
        by false e = absurd (false≢true (sym goes ∙ (ap (λ (b : Bool). not b && (nat_lt 0 w.flat_from || w.l c % 4 == 0)) e ∙ ap (λ (b : Bool). b || w.l c % 4 == 0) (ap (λ n. nat_lt 0 n) m.shape ∙ flat_some plan flat))))

    -- the leaf of a key that is not the operation's is not used
    not_own : (key : ℕ) → p.left ≢ p.right → key ≡ w.key (w.l c) → key ≢ key_of p.op
    not_own key apart same e =
        key_apart (w.key (left_leaf c)) (w.key (right_leaf c)) (w.key (w.l c)) (λ both. apart (sym left ∙ (both ∙ right))) (own ∙ (sym e ∙ same))

    replaced_or_born : (i : ℕ) → i < 3 → (is_node_born (stage c) i ≡ true → ⊥) → P (4 * c + i)
    replaced_or_born i few unborn = by (is_replace_card w c) refl
      where
        brings : is_born (stage c) ≡ not (is_replace_card w c)
        brings = (m.invariant.words.inserts c).brings (insert_over-changed (stage c) over)

        at : (i : ℕ) → i < 3 → (is_node_born (stage c) i ≡ true → ⊥) → (r.own.internal ≡ true) × (r.own.left ≡ true) → P (4 * c + i)
        at zero few unborn is_so = are.own 0 is_so.0
        at (suc zero) few unborn is_so = are.own 1 is_so.1
        at (suc (suc zero)) few unborn is_so = absurd (unborn (right_born (stage c) over))
        at (suc (suc (suc i))) few unborn is_so = absurd (omega arith)

        by : (b : Bool) → is_replace_card w c ≡ b → P (4 * c + i)
        by true e = at i few unborn (p.replaced (sym left ∙ (eqb-true (w.key (left_leaf c)) (w.key (right_leaf c)) e ∙ right)) own_slot)
        by false e = absurd (unborn (put_born (stage c) i over (brings ∙ ap not e) few))

    unused : (i : ℕ) → i < 3 → p.left ≢ p.right → IsLeaf (4 * c + i) → w.key (4 * c + i) ≡ w.key (w.l c) → P (4 * c + i)
    unused zero few apart outer key = absurd (outer (omega arith))
    unused (suc zero) few apart outer key =
        are.own 1 (p.unused_left apart (not_own p.left apart (sym left ∙ key)) own_slot)
    unused (suc (suc zero)) few apart outer key =
        are.own 2 (p.unused_right apart (not_own p.right apart (sym right ∙ key)) own_slot)
    unused (suc (suc (suc i))) few apart outer key = absurd (omega arith)

    put_done : (x : ℕ) → x % 4 < 3 → has_slot_in s.last (card x) ≡ true → Kills w stage c x → P x
    put_done x few slot (inl (inl (changed, goes, is))) =
        subst P is (are.leaf (p.leaf (one goes) (λ three. absurd (omega (arith, few, is, below, three))) (subst (λ y. has_slot_in s.last (card y) ≡ true) (sym is ∙ below) slot)))
    put_done x few slot (inl (inr (cuts, is))) = absurd (one_kind (stage c) kind (cut-delete (stage c) cuts))
    put_done x few slot (inr (on, (ended, inl unborn))) =
        subst P (whole x c on few) (replaced_or_born (x % 4) few (λ born. unborn (subst (λ d. is_node_born (stage d) (x % 4) ≡ true) (sym on) born)))
      where
        whole : (x c : ℕ) → card x ≡ c → x % 4 < 3 → 4 * c + x % 4 ≡ x
        whole x c on few = omega (arith, on)
    put_done x few slot (inr (on, (ended, inr (changed, keeps, outer, key)))) =
        let at = whole x c on few in
        subst P at (unused (x % 4) few (two (subst (λ d. keeps_below w d ≡ true) on keeps)) (subst IsLeaf (sym at) outer) (ap w.key at ∙ (key ∙ ap (λ d. w.key (w.l d)) on)))
      where
        whole : (x c : ℕ) → card x ≡ c → x % 4 < 3 → 4 * c + x % 4 ≡ x
        whole x c on few = omega (arith, on)

  -- of each node of the card in hand
  all_own : OwnAreRetired s r c → (x : ℕ) → x % 4 < 3 → card x ≡ c → P x
  all_own o x few on = subst P (whole x c on few) (by (x % 4) few)
    where
      whole : (x c : ℕ) → card x ≡ c → x % 4 < 3 → 4 * c + x % 4 ≡ x
      whole x c on few = omega (arith, on)

      by : (i : ℕ) → i < 3 → P (4 * c + i)
      by zero few = are.own 0 (o.internal own_slot)
      by (suc zero) few = are.own 1 (o.left own_slot)
      by (suc (suc zero)) few = are.own 2 (o.right own_slot)
      by (suc (suc (suc i))) few = absurd (omega arith)

  allowed_insert : Knows v (fact.IOver c) → insert_over (stage c) ≡ true
  allowed_insert k = (mine_sound plan tree m id v there).facts (fact.IOver c) k

  allowed_delete : Knows v (fact.DOver c) → delete_over (stage c) ≡ true
  allowed_delete k = (mine_sound plan tree m id v there).facts (fact.DOver c) k

  allowed_backed : Knows v (fact.Backed c) → is_backed (stage c) ≡ true
  allowed_backed k = (mine_sound plan tree m id v there).facts (fact.Backed c) k

  -- so it is of each node that the card made dead
  pub all_retired : IsRetired s v r c → (x : ℕ) → x % 4 < 3 → has_slot_in s.last (card x) ≡ true → Kills w stage c x → P x
  all_retired (put knows p) x few slot kills = put_done (allowed_insert knows) p x few slot kills
  all_retired (cut knows h own) x few slot (inl (inl (changed, outer, is))) = absurd (one_kind (stage c) (changed-insert (stage c) changed) (over-delete (stage c) (allowed_delete knows)))
  all_retired (cut knows h own) x few slot (inl (inr (was_cut, inl is))) =
      let parent = told_is plan tree m id v there c field.P h.parent h.above in
      subst P is (are.parent (h.parent_retired (subst (λ y. has_slot_in s.last (card y) ≡ true) (sym is ∙ parent) slot)))
  all_retired (cut knows h own) x few slot (inl (inr (was_cut, inr is))) =
      let leaf = told_is plan tree m id v there c field.L h.leaf h.below in
      subst P is (are.leaf (h.leaf_retired (λ three. absurd (omega (arith, few, is, leaf, three))) (subst (λ y. has_slot_in s.last (card y) ≡ true) (sym is ∙ leaf) slot)))
  all_retired (cut knows h own) x few slot (inr (on, never)) = all_own own x few on
  all_retired (backed knows own) x few slot (inl (inl (changed, outer, is))) = absurd (one_kind (stage c) (changed-insert (stage c) changed) (backed-delete (stage c) (allowed_backed knows)))
  all_retired (backed knows own) x few slot (inl (inr (was_cut, is))) = absurd (over_not_cut (stage c) was_cut (allowed_backed knows))
  all_retired (backed knows own) x few slot (inr (on, never)) = all_own own x few on
