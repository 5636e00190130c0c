-- What contracts say of what a pass knows holds of what is shown of it too.
use Rattle.std.proofs.Common.{◌≡◌, ℕ, ◌≤◌, ◌+◌, map, Option, None, Some, List, [], ◌∷◌, refl, sym, ap, ◌∙◌, subst, arith, inl, inr}
use Rattle.std.specs.Option.{option_map}
use Rattle.ell_word.specs.Node.{card}
use Rattle.ell_layout.specs.declared.field.Field.{Field}
use Rattle.ell_layout.specs.declared.field.Field.TheVariants as field
use Rattle.ell_layout.specs.Cards.{stored}
use Rattle.ell_layout.specs.Words.{has_block}
use Rattle.ell_core.specs.declared.view.Seen.{Seen}
use Rattle.ell_runs.specs.declared.glance.Glance.{Glance}
use Rattle.ell_runs.specs.declared.view.Told.{Told}
use Rattle.ell_runs.specs.declared.view.Told.TheVariants.{Met, Depth, Key, Value, Info, Expects, Frozen}
use Rattle.ell_runs.specs.declared.view.View.{View}
use Rattle.ell_cards.specs.Apart.{cut_node, IsApart}
use Rattle.ell_runs.specs.Plans.{TablePlan, flat_from}
use Rattle.ell_runs.specs.Views.{IsTold, stored_at}
use Rattle.ell_runs.specs.Depths.{deepest, IsShallow}
use Rattle.ell_runs.specs.Naming.{InfoIsNamed, EntryIsNamed, SeenIsNamed, IsNamed}
use Rattle.ell_cards.specs.InSlots.{EntryIsPlaced, IsPlaced}
use Rattle.ell_cards.specs.SlotWords.{slot_of}
use Rattle.ell_runs.specs.Looking.{HasFound, HasFoundBetween, HasMissed, LacksBetween, TellsBetween, KeysAreFixed, ReadsItsOwn, MissesItsOwn}
use Rattle.ell_runs.specs.Touching.{IsOfRoot, IsAtRest}
use Rattle.ell_cards.specs.Shown.{shown_seen, shown_glance, shown_info, shown_told, shown, StoresAreWhole, HandoversAreShown}
use Rattle.ell_cards.specs.ShownTakings.{TakingsAreShown}
use Rattle.ell_cards.proofs.lemmas.shown.CutWords.{tag_within, node_within, node_slot}
use Rattle.ell_cards.proofs.lemmas.shown.ShownTold.{shown_has, was_told, was_depth, was_key}
use Rattle.ell_cards.proofs.lemmas.shown.ShownGuards.{was_seen, was_stood, outer_whole, inner_whole, met_key, met_value, tells_whole, come_whole, come_all_whole}
use Rattle.ell_cards.proofs.lemmas.shown.ShownSteps.{steps_are_shown}
use Rattle.ell_cards.proofs.lemmas.shown.ShownTellings.{tellings_are_shown}
use Rattle.ell_runs.proofs.lemmas.views.Depths.{depth_at_least, depth_at_most}

-- a card whose number is no more than one is so of a node that is cut
card_within : (last x : ℕ) → card x ≤ last → card (cut_node x) ≤ last
card_within last x low = let less = node_within x in omega (arith, low, less)

-- what a pass names
info_named : (last : ℕ) (f : Field) (x : ℕ) → InfoIsNamed last f x → InfoIsNamed last f (shown_info f x)
info_named last field.Gp x h = card_within last x h
info_named last field.P x h = card_within last x h
info_named last field.L x h = card_within last x h
info_named last _ x h = tt

entry_named : (last : ℕ) (e : Told) → EntryIsNamed last e → EntryIsNamed last (shown_told e)
entry_named last (Expects c tag) h = (h.0, (let less = tag_within tag in let most = h.1 in omega arith))
entry_named last (Met x) h = card_within last x h
entry_named last (Depth x n) h = card_within last x h
entry_named last (Key x n) h = card_within last x h
entry_named last (Value x n) h = card_within last x h
entry_named last (Info c f x) h = (h.0, info_named last f x h.1)
entry_named last (Frozen c right x) h = (h.0, card_within last x h.1)

seen_named : (last : ℕ) (seen : Seen) → SeenIsNamed last seen → SeenIsNamed last (shown_seen seen)
seen_named last seen h = record {
  node = card_within last seen.node h.node;
  word = h.word;
  tag = (let less = tag_within seen.tag in let most = h.tag in omega arith);
}

pub named_shown : (last : ℕ) (v : View) → IsNamed last v → IsNamed last (shown v)
named_shown last v h = record {
  node = λ x at. (let old = was_stood v.worker.search.node x at in subst (λ y. card y ≤ last) old.is (card_within last old.whole (h.node old.whole old.has)));
  parent = λ x seen at behind.
      (let stood = was_stood v.worker.search.node x at in
      let old = was_seen v.worker.search.parent seen behind in
      subst (SeenIsNamed last) old.is (seen_named last old.whole (h.parent stood.whole old.whole stood.has old.has)));
  grandparent = λ x seen above at behind up.
      (let stood = was_stood v.worker.search.node x at in
      let old = was_seen v.worker.search.parent seen behind in
      let top = was_seen v.worker.search.grandparent above up in
      subst (SeenIsNamed last) top.is (seen_named last top.whole (h.grandparent stood.whole old.whole top.whole stood.has old.has top.has)));
  hand = h.hand;
  facts = h.facts;
  entries = λ e told.
      (let old = was_told v.told e told in
      subst (EntryIsNamed last) old.is (entry_named last old.entry (h.entries old.entry old.has)));
  next = h.next;
}

-- and it lies in the same slots
slot_same : (last x y : ℕ) → cut_node x ≡ y → slot_of (card x) ≤ last → slot_of (card y) ≤ last
slot_same last x y is low = subst (λ s. s ≤ last) (sym (node_slot x) ∙ ap (λ z. slot_of (card z)) is) low

info_placed : (last : ℕ) (c : ℕ) (f : Field) (x : ℕ) → EntryIsPlaced last (Info c f x) → EntryIsPlaced last (Info c f (shown_info f x))
info_placed last c field.Gp x h = slot_same last x (cut_node x) refl h
info_placed last c field.P x h = slot_same last x (cut_node x) refl h
info_placed last c _ x h = tt

entry_placed : (last : ℕ) (e : Told) → EntryIsPlaced last e → EntryIsPlaced last (shown_told e)
entry_placed last (Expects c tag) h = h
entry_placed last (Met x) h = slot_same last x (cut_node x) refl h
entry_placed last (Depth x n) h = h
entry_placed last (Key x n) h = h
entry_placed last (Value x n) h = h
entry_placed last (Info c f x) h = info_placed last c f x h
entry_placed last (Frozen c right x) h = h

pub placed_shown : (last : ℕ) (v : View) → IsPlaced last v → IsPlaced last (shown v)
placed_shown last v h = record {
  node = λ x at. (let old = was_stood v.worker.search.node x at in slot_same last old.whole x old.is (h.node old.whole old.has));
  parent = λ x seen at behind.
      (let stood = was_stood v.worker.search.node x at in
      let old = was_seen v.worker.search.parent seen behind in
      slot_same last old.whole.node seen.node (ap (λ (s : Seen). s.node) old.is) (h.parent stood.whole old.whole stood.has old.has));
  grandparent = λ x seen above at behind up.
      (let stood = was_stood v.worker.search.node x at in
      let old = was_seen v.worker.search.parent seen behind in
      let top = was_seen v.worker.search.grandparent above up in
      slot_same last top.whole.node above.node (ap (λ (s : Seen). s.node) top.is) (h.grandparent stood.whole old.whole top.whole stood.has old.has top.has));
  facts = h.facts;
  entries = λ e told.
      (let old = was_told v.told e told in
      subst (EntryIsPlaced last) old.is (entry_placed last old.entry (h.entries old.entry old.has)));
}

module _ (plan : TablePlan) (v : View) (apart : IsApart plan v) where
  -- keys that were told
  pub keys_shown : KeysAreFixed v → KeysAreFixed (shown v)
  keys_shown fixed node key other first second =
      let old = was_key v.told node key first in
      fixed old.whole key other old.has (met_key plan v apart old.whole node other old.is (apart.names.entries (Key old.whole key) old.has) second)

  -- what a look has found, and what it has missed
  pub found_whole : (key : ℕ) (there : Option ℕ) → HasFound (shown v) key there → HasFound v key there
  found_whole key there h =
      let old = was_key v.told h.leaf h.leaf_key h.told in
      let met = apart.names.entries (Key old.whole h.leaf_key) old.has in record {
        leaf = old.whole;
        leaf_key = h.leaf_key;
        comes = come_whole plan v apart old.whole h.leaf key (key + 1) old.is met h.comes;
        outer = outer_whole old.whole h.leaf old.is h.outer;
        told = old.has;
        tells = tells_whole plan v apart old.whole h.leaf h.leaf_key key there old.is met h.tells;
      }

  lacks_whole : (x y key low high : ℕ) → cut_node x ≡ y → IsTold v (Met x) → LacksBetween (flat_from plan) y key low high → LacksBetween (flat_from plan) x key low high
  lacks_whole x y key low high is met h =
      (inner_whole x y is h.0, sym (apart.blocks x met) ∙ (ap (has_block (flat_from plan)) is ∙ h.1), h.2)

  between_whole : (x y key low high : ℕ) (there : Option (ℕ × ℕ)) → cut_node x ≡ y → IsTold v (Met x) → TellsBetween (flat_from plan) (shown v) y key low high there
      → TellsBetween (flat_from plan) v x key low high there
  between_whole x y key low high None is met h = elim h [
    | inl outer ↦ inl (outer_whole x y is outer.0, outer.1)
    | inr lacks ↦ inr (lacks_whole x y key low high is met lacks)
  ]
  between_whole x y key low high (Some pair) is met h = (outer_whole x y is h.0, h.1, h.2, h.3, met_value plan v apart x y pair.1 is met h.4)

  pub found_between_whole : (low high : ℕ) (there : Option (ℕ × ℕ)) → HasFoundBetween (flat_from plan) (shown v) low high there
      → HasFoundBetween (flat_from plan) v low high there
  found_between_whole low high there h =
      let old = was_key v.told h.node h.node_key h.told in
      let met = apart.names.entries (Key old.whole h.node_key) old.has in record {
        node = old.whole;
        node_key = h.node_key;
        comes = come_all_whole plan v apart old.whole h.node low high old.is met h.comes;
        told = old.has;
        tells = between_whole old.whole h.node h.node_key low high there old.is met h.tells;
      }

  pub missed_whole : (key : ℕ) → HasMissed (flat_from plan) (shown v) key → HasMissed (flat_from plan) v key
  missed_whole key h =
      let old = was_key v.told h.node h.node_key h.told in
      let met = apart.names.entries (Key old.whole h.node_key) old.has in record {
        node = old.whole;
        node_key = h.node_key;
        comes = come_whole plan v apart old.whole h.node key (key + 1) old.is met h.comes;
        told = old.has;
        lacks = lacks_whole old.whole h.node h.node_key key (key + 1) old.is met h.lacks;
      }

  pub reads_shown : ReadsItsOwn v → ReadsItsOwn (shown v)
  reads_shown own key there found = own key there (found_whole key there found)

  pub misses_shown : MissesItsOwn (flat_from plan) v → MissesItsOwn (flat_from plan) (shown v)
  misses_shown own key missed = own key (missed_whole key missed)

-- depths: one that was told of a node by what is shown was told of a node that is cut to it
pub shallow_shown : (most : ℕ) (v : View) → ((x : ℕ) → IsShallow most v x) → (x : ℕ) → IsShallow most (shown v) x
shallow_shown most v h x = record {
  inner = λ inner. depth_at_most (shown v).told x most (λ d has.
      (let old = was_depth v.told x d has in
      let low = depth_at_least v.told old.whole d old.has in
      let bound = (h old.whole).inner (inner_whole old.whole x old.is inner) in
      omega (arith, low, bound)));
  any = depth_at_most (shown v).told x (most + 1) (λ d has.
      (let old = was_depth v.told x d has in
      let low = depth_at_least v.told old.whole d old.has in
      let bound = (h old.whole).any in
      omega (arith, low, bound)));
}

-- all that a step call leaves of a pass
pub takings_are_shown : TakingsAreShown
takings_are_shown plan c v n w plain apart later may can taken = record {
  view = ap shown taken.view ∙ steps_are_shown plan c n v plain apart may can;
  tells = tellings_are_shown plan c n v apart may can.whole (subst (IsApart plan) taken.view later) taken.tells;
  own = reads_shown plan w later taken.own;
  missed = misses_shown plan w later taken.missed;
  fixed = keys_shown plan w later taken.fixed;
  keys = taken.keys;
  share = record { share = taken.share.share; ownable = taken.share.ownable };
  named = named_shown _ w taken.named;
  inside = placed_shown _ w taken.inside;
  shallow = shallow_shown (deepest plan) w taken.shallow;
}

-- what names no node but the root
root_shown : (e : Told) → IsOfRoot e → IsOfRoot (shown_told e)
root_shown (Expects c tag) h = h
root_shown (Met x) h = ap cut_node h
root_shown (Depth x n) h = h
root_shown (Key x n) h = ap cut_node h
root_shown (Value x n) h = h
root_shown (Info c f x) h = h
root_shown (Frozen c right x) h = h

root_whole : (plan : TablePlan) (v : View) → IsApart plan v → (e : Told) → IsTold v e → IsOfRoot (shown_told e) → IsOfRoot e
root_whole plan v apart (Expects c tag) told h = h
root_whole plan v apart (Met x) told h = apart.met x 0 told apart.names.root h
root_whole plan v apart (Depth x n) told h = h
root_whole plan v apart (Key x n) told h = apart.met x 0 (apart.names.entries (Key x n) told) apart.names.root h
root_whole plan v apart (Value x n) told h = h
root_whole plan v apart (Info c f x) told h = h
root_whole plan v apart (Frozen c right x) told h = h

none_stands : (o : Option ℕ) → option_map cut_node o ≡ None → o ≡ None
none_stands None e = refl
none_stands (Some x) e = absurd cc

none_come : (l : List Glance) → map shown_glance l ≡ [] → l ≡ []
none_come [] e = refl
none_come (g ∷ l) e = absurd cc

rests_shown : (v : View) → IsAtRest v → IsAtRest (shown v)
rests_shown v h = record {
  free = h.free;
  nowhere = ap (option_map cut_node) h.nowhere;
  empty = h.empty;
  forgot = λ e told. (let old = was_told v.told e told in
      subst IsOfRoot old.is (root_shown old.entry (h.forgot old.entry old.has)));
  nothing = ap (map shown_glance) h.nothing;
}

pub rests_whole : (plan : TablePlan) (v : View) → IsApart plan v → IsAtRest (shown v) → IsAtRest v
rests_whole plan v apart h = record {
  free = h.free;
  nowhere = none_stands v.worker.search.node h.nowhere;
  empty = h.empty;
  forgot = λ e told. root_whole plan v apart e told (h.forgot (shown_told e) (shown_has v.told e told));
  nothing = none_come v.glances h.nothing;
}

-- passes that are parted and joined
pub unfilled_whole : (v : View) → v.planned ≡ [] → v.stores ≡ [] → StoresAreWhole v
unfilled_whole v planned stores f same =
    ap (λ words. stored_at words f) stores ∙ ap (λ words. stored words f 0) (sym planned)

pub handovers_are_shown : HandoversAreShown
handovers_are_shown = record {
  first = λ plan. refl;
  spent = refl;
  left = λ keys v. refl;
  right = λ keys v. refl;
  joined = λ v w. refl;
  unfilled = unfilled_whole;
  rests = λ plan v apart. (rests_shown v, rests_whole plan v apart);
}
