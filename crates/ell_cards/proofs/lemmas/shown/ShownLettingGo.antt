-- What a pass is to have retired before it lets its card in hand go, by what is shown of what it knows.
use Rattle.std.proofs.Common.{◌≡◌, ℕ, Option, true, sym, ◌∙◌, subst, arith}
use Rattle.ell_word.specs.Node.{card}
use Rattle.ell_layout.specs.declared.field.Field.TheVariants as field
use Rattle.ell_cards.specs.declared.view.Retired.{Retired}
use Rattle.ell_runs.specs.declared.view.Slots.{Slots}
use Rattle.ell_runs.specs.declared.view.Told.TheVariants.{Info}
use Rattle.ell_runs.specs.declared.view.View.{View}
use Rattle.ell_cards.specs.Apart.{cut_node}
use Rattle.ell_cards.specs.LettingGo.{PutIsRetired, CutIsRetired, IsRetired, MayLetGo}
use Rattle.ell_cards.specs.LettingGo.IsRetired.{put, cut, backed}
use Rattle.ell_runs.specs.Views.{IsTold}
use Rattle.ell_cards.specs.Shown.{shown}
use Rattle.ell_cards.specs.SlotWords.{has_slot_in}
use Rattle.ell_cards.proofs.lemmas.shown.ShownDead.{place_whole}
use Rattle.ell_cards.proofs.lemmas.shown.ShownTold.{was_info}
use Rattle.ell_cards.proofs.lemmas.words.Slotted.{has_slot_by, slot_inside}

-- the low bits of a number that has a slot have one
pub has_slot_low : (last y x : ℕ) → cut_node y ≡ x → has_slot_in last (card y) ≡ true → has_slot_in last (card x) ≡ true
has_slot_low last y x is has =
    let low = slot_inside last (card y) has in
    has_slot_by last (card x) (omega arith) (λ none. omega arith)

module _ (s : Slots) (v : View) (r : Retired) (c : ℕ) where
  put_whole : PutIsRetired s (shown v) r c → PutIsRetired s v r c
  put_whole h =
      let goes = was_info v.told c field.L h.below h.goes in
      let left = was_info v.told c field.LeftLeafKey h.left h.left_key in
      let right = was_info v.told c field.RightLeafKey h.right h.right_key in record {
        op = h.op;
        below = goes.whole;
        left = h.left;
        right = h.right;
        busy = h.busy;
        goes = goes.has;
        left_key = subst (λ k. IsTold v (Info c field.LeftLeafKey k)) left.is left.has;
        right_key = subst (λ k. IsTold v (Info c field.RightLeafKey k)) right.is right.has;
        leaf = λ one node has. h.leaf one (λ three. node (sym (place_whole goes.whole h.below goes.is) ∙ three)) (has_slot_low s.last goes.whole h.below goes.is has);
        replaced = h.replaced;
        unused_left = h.unused_left;
        unused_right = h.unused_right;
      }

  cut_whole : CutIsRetired s (shown v) r c → CutIsRetired s v r c
  cut_whole h =
      let above = was_info v.told c field.P h.parent h.above in
      let below = was_info v.told c field.L h.leaf h.below in record {
        parent = above.whole;
        leaf = below.whole;
        above = above.has;
        below = below.has;
        parent_retired = λ has. h.parent_retired (has_slot_low s.last above.whole h.parent above.is has);
        leaf_retired = λ node has. h.leaf_retired (λ three. node (sym (place_whole below.whole h.leaf below.is) ∙ three)) (has_slot_low s.last below.whole h.leaf below.is has);
      }

  retired_whole : IsRetired s (shown v) r c → IsRetired s v r c
  retired_whole (put knows h) = put knows (put_whole h)
  retired_whole (cut knows h own) = cut knows (cut_whole h) own
  retired_whole (backed knows own) = backed knows own

pub lets_go_whole : (s : Slots) (slot : Option ℕ) (r : Retired) (v : View) → MayLetGo s slot r (shown v) → MayLetGo s slot r v
lets_go_whole s slot r v h = record {
  waiting = λ c waits. h.waiting c waits;
  taken = λ c has. h.taken c (record { holds = has.holds; flagged = has.flagged });
  retired = λ c has. retired_whole s v r c (h.retired c (record { holds = has.holds; flagged = has.flagged }));
}
