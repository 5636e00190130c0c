-- What is shown of what a pass knows after calls that begin, end, and read.
use Rattle.std.proofs.Common.{◌≡◌, ℕ, ◌+◌, ◌++◌, if◌then◌else◌, map, Bool, true, Option, Some, None, List, [], ◌∷◌, refl, sym, ap, ◌∙◌, subst, unwrap_or}
use Rattle.std.specs.Option.{option_map}
use Rattle.ell_ops.specs.declared.op.Op.{Op}
use Rattle.ell_ops.specs.declared.op.Op.TheVariants.{Find, Insert, Delete, Swap}
use Rattle.ell_ops.specs.declared.reply.Reply.{Reply}
use Rattle.ell_ops.specs.Meaning.{greatest_key}
use Rattle.ell_word.specs.declared.update.State.{State}
use Rattle.ell_word.specs.declared.update.State.TheVariants as state
use Rattle.ell_word.specs.Word.{unpacked}
use Rattle.ell_layout.specs.declared.field.Field.{Field}
use Rattle.ell_layout.specs.declared.field.Field.TheVariants as field
use Rattle.ell_core.specs.declared.view.Seen.{Seen}
use Rattle.ell_core.specs.acts.Searching.{gone_down}
use Rattle.ell_runs.specs.declared.call.Call.TheVariants as call
use Rattle.ell_runs.specs.declared.glance.Glance.{Glance}
use Rattle.ell_runs.specs.declared.glance.Stretch.{Stretch}
use Rattle.ell_runs.specs.declared.view.Told.{Told}
use Rattle.ell_runs.specs.declared.view.Told.TheVariants.{Met, Depth, Key, Info, Expects, Frozen}
use Rattle.ell_runs.specs.declared.view.View.{View}
use Rattle.ell_cards.specs.Apart.{cut_node, IsApart}
use Rattle.ell_runs.specs.Depths.{depth_told, met_at}
use Rattle.ell_runs.specs.Plans.{TablePlan}
use Rattle.ell_runs.specs.Views.{IsTold, StandsAt}
use Rattle.ell_runs.specs.Changes.{counted, forgotten, way_now, in_the_way, read_in_way, first_in_way, was_hindered, after_try, at_rest, after_begin, after_again, after_leave, after_answer, after_upd, places_by, told_info, depth_there, knows_delete, is_this}
use Rattle.ell_runs.specs.Calls.{after}
use Rattle.ell_cards.specs.Shown.{IsWord, cut_word, cut_field, shown_seen, shown_glance, shown_told, shown, FieldIsWhole}
use Rattle.ell_cards.proofs.lemmas.shown.CutWords.{same_cut, cut_node_in, cut_tag_in, cut_same}
use Rattle.ell_cards.proofs.lemmas.shown.ShownTold.{depth_shown, under_shown}
use Rattle.ell_runs.proofs.lemmas.views.Depths.{grandparent_is}

-- what a search has read in the way is shown as it is
read_shown : (o : Option Seen) → read_in_way (option_map shown_seen o) ≡ read_in_way o
read_shown None = refl
read_shown (Some seen) = refl

way_for : (op : Option Op) (node : Option ℕ) (parent above : Option Seen)
    → in_the_way op (option_map cut_node node) (option_map shown_seen parent) (option_map shown_seen above) ≡ in_the_way op node parent above
way_for (Some (Insert k value)) (Some x) parent above = read_shown parent
way_for (Some (Swap k was value)) (Some x) parent above = read_shown parent
way_for (Some (Delete k)) (Some x) parent above = λ t. first_in_way (read_shown above t) (read_shown parent t)
way_for (Some (Insert k value)) None parent above = refl
way_for (Some (Swap k was value)) None parent above = refl
way_for (Some (Delete k)) None parent above = refl
way_for (Some (Find k)) node parent above = refl
way_for None node parent above = refl

pub way_shown : (v : View) → way_now (shown v) ≡ way_now v
way_shown v = way_for v.worker.operation v.worker.search.node v.worker.search.parent v.worker.search.grandparent

after_try_shown : (v : View) → shown (after_try v) ≡ after_try (shown v)
after_try_shown v =
    ap (λ way. record (shown v) {
      hindrances = way ++ v.hindrances;
      hindered = v.hindered + (if was_hindered v.worker.knows (way ++ v.met) then 1 else 0);
    }) (sym (way_shown v))

-- again, leave and answer
pub again_shown : (v : View) → shown (after_again v) ≡ after_again (shown v)
again_shown v = ap (after_begin v.worker.operation) (after_try_shown v)

pub leave_shown : (v : View) → shown (after_leave v) ≡ after_leave (shown v)
leave_shown v =
    ap (λ w. counted (record (at_rest v.worker.ledger w) { given_up = v.worker.operation })) (after_try_shown v)

pub answer_shown : (said : Reply) (took : Option ℕ) (v : View) → shown (after_answer said took v) ≡ after_answer said took (shown v)
answer_shown said took v = refl

-- what an update tells of a node
pub places_shown : (x : ℕ) (s : State) (c : ℕ) (told : List Told)
    → map shown_told (places_by x s c told) ≡ places_by (cut_node x) s c (map shown_told told)
places_shown x state.IFlag c told = refl
places_shown x state.DFlag c told = refl
places_shown x state.Mark c told = refl
places_shown x state.Clean c told = refl

-- depths that were told are of nodes that were met, and so they are shown as they are of a node that was met
depth_met : (plan : TablePlan) (v : View) → IsApart plan v → (x : ℕ) → IsTold v (Met x) → depth_told (shown v).told (cut_node x) ≡ depth_told v.told x
depth_met plan v apart x met = depth_shown v.told x (λ y d has same. apart.met y x (apart.names.entries (Depth y d) has) met same)

-- upd and down
pub upd_shown : (x n : ℕ) (v : View) → IsWord n → shown (after (call.Upd x) n v) ≡ after (call.Upd (cut_node x)) (cut_word n) (shown v)
upd_shown x n v whole =
    ap (λ told. record (after_upd (cut_node x) (unpacked n) (shown v)) { told = told })
    (places_shown x (unpacked n).state (unpacked n).card v.told)
    ∙ ap (λ m. after_upd (cut_node x) (unpacked m) (shown v)) (sym (cut_same n whole))

pub down_shown : (plan : TablePlan) (x : ℕ) (right : Bool) (n : ℕ) (v : View) → IsApart plan v → StandsAt v x
    → shown (after (call.Down x right) n v) ≡ after (call.Down (cut_node x) right) (cut_word n) (shown v)
down_shown plan x right n v apart stands = λ t. down_to (sym (cut_node_in n) t) (sym (cut_tag_in n) t) (sym (depth_met plan v apart x (apart.names.node x stands)) t)
  where
    down_to : ℕ → ℕ → ℕ → View
    down_to node tag depth = counted (record (shown v) {
      worker = record ((shown v).worker) {
        search = gone_down (shown v).worker.search
            (record { node = cut_node x; word = unwrap_or v.worker.search.read 0; tag = tag }) node;
      };
      told = met_at (depth + 1) node (shown v).told;
      here = None;
    })

-- next, key_of and value_of
pub next_shown : (n : ℕ) (v : View) → IsWord n → shown (after call.Next n v) ≡ after call.Next (cut_word n) (shown v)
next_shown n v whole = ap (λ m. after call.Next m (shown v)) (sym (cut_same n whole))

-- a pass stands at a node by what is shown exactly if it does
stands_alike : (plan : TablePlan) (v : View) → IsApart plan v → (x : ℕ) → IsTold v (Met x) → is_this (shown v).worker.search.node (cut_node x) ≡ is_this v.worker.search.node x
stands_alike plan v apart x met = by v.worker.search.node refl
  where
    by : (o : Option ℕ) → v.worker.search.node ≡ o → is_this (option_map cut_node o) (cut_node x) ≡ is_this o x
    by None at = refl
    by (Some y) at = same_cut y x (apart.met y x (apart.names.node y at) met)

pub key_of_shown : (plan : TablePlan) (x n : ℕ) (v : View) → IsApart plan v → IsTold v (Met x) → IsWord n
    → shown (after (call.KeyOf x) n v) ≡ after (call.KeyOf (cut_node x)) (cut_word n) (shown v)
key_of_shown plan x n v apart met whole =
    (λ t. counted (record (shown v) { told = Key (cut_node x) n ∷ (shown v).told; here = if sym (stands_alike plan v apart x met) t then Some n else v.here }))
    ∙ ap (λ m. after (call.KeyOf (cut_node x)) m (shown v)) (sym (cut_same n whole))

pub value_of_shown : (x n : ℕ) (v : View) → IsWord n
    → shown (after (call.ValueOf x) n v) ≡ after (call.ValueOf (cut_node x)) (cut_word n) (shown v)
value_of_shown x n v whole = ap (λ m. after (call.ValueOf (cut_node x)) m (shown v)) (sym (cut_same n whole))

-- info
depth_of_word : (plan : TablePlan) (v : View) → IsApart plan v → (c : ℕ) (f : Field) → depth_there (shown v) c f ≡ depth_there v c f
depth_of_word plan v apart c field.P = ap (λ d. if knows_delete v.worker.knows c then d else 0)
    (under_shown c v.told v.told
    (λ e has above tells y d told same. apart.met y above (apart.names.entries (Depth y d) told)
    (apart.names.entries (Info c field.Gp above) (subst (IsTold v) (grandparent_is c e above tells) has)) same))
depth_of_word plan v apart c _ = refl

info_told : (depth c : ℕ) (f : Field) (n : ℕ) (told : List Told) → FieldIsWhole f n
    → map shown_told (told_info depth c f n told) ≡ told_info depth c f (cut_field f n) (map shown_told told)
info_told depth c field.L n told whole =
    λ t. Info c field.L (sym (cut_node_in n) t) ∷ Expects c (sym (cut_tag_in n) t) ∷ map shown_told told
info_told depth c field.Left n told whole = λ t. Info c field.Left (sym (cut_node_in n) t) ∷ map shown_told told
info_told depth c field.Right n told whole = λ t. Info c field.Right (sym (cut_node_in n) t) ∷ map shown_told told
info_told depth c field.Gp n told whole = refl
info_told depth c field.P n told whole = refl
info_told depth c field.Was n told whole = λ t. Info c field.Was (sym (cut_same n whole) t) ∷ map shown_told told
info_told depth c field.Key n told whole = λ t. Info c field.Key (sym (cut_same n whole) t) ∷ map shown_told told
info_told depth c field.Update n told whole = λ t. Info c field.Update (sym (cut_same n whole) t) ∷ map shown_told told
info_told depth c field.LeftLeafKey n told whole = λ t. Info c field.LeftLeafKey (sym (cut_same n whole) t) ∷ map shown_told told
info_told depth c field.RightLeafKey n told whole = λ t. Info c field.RightLeafKey (sym (cut_same n whole) t) ∷ map shown_told told
info_told depth c field.LeftValue n told whole = λ t. Info c field.LeftValue (sym (cut_same n whole) t) ∷ map shown_told told
info_told depth c field.RightValue n told whole = λ t. Info c field.RightValue (sym (cut_same n whole) t) ∷ map shown_told told

pub info_shown : (plan : TablePlan) (c : ℕ) (f : Field) (n : ℕ) (v : View) → IsApart plan v → FieldIsWhole f n
    → shown (after (call.Info c f) n v) ≡ after (call.Info c f) (cut_field f n) (shown v)
info_shown plan c f n v apart whole =
    ap (λ told. record (shown v) { told = told; made = v.made + 1 })
    (info_told (depth_there v c f) c f n v.told whole
    ∙ ap (λ depth. told_info depth c f (cut_field f n) (map shown_told v.told)) (sym (depth_of_word plan v apart c f)))

-- frozen_child
pub frozen_child_shown : (plan : TablePlan) (c p : ℕ) (right : Bool) (n : ℕ) (v : View) → IsApart plan v → IsTold v (Met p)
    → shown (after (call.FrozenChild c p right) n v) ≡ after (call.FrozenChild c (cut_node p) right) (cut_word n) (shown v)
frozen_child_shown plan c p right n v apart met = λ t. told_of (sym (cut_node_in n) t) (sym (depth_met plan v apart p met) t)
  where
    told_of : ℕ → ℕ → View
    told_of node depth =
        record (shown v) { told = Frozen c right node ∷ met_at (depth + 1) node (shown v).told; made = v.made + 1 }

-- look and look_down
pub look_shown : (n : ℕ) (v : View) → shown (after call.Look n v) ≡ after call.Look (cut_word n) (shown v)
look_shown n v = ap at (sym (cut_node_in n))
  where
    at : ℕ → View
    at node = counted (record (shown v) {
      told = met_at 1 node forgotten;
      glances = record { node = node; low = 0; high = greatest_key + 1; whole = true } ∷ [];
      looks = v.looks + 1;
    })

pub look_down_shown : (plan : TablePlan) (from : Glance) (to : Stretch) (right : Bool) (n : ℕ) (v : View) → IsApart plan v → IsTold v (Met from.node)
    → shown (after (call.LookDown from to right) n v) ≡ after (call.LookDown (shown_glance from) to right) (cut_word n) (shown v)
look_down_shown plan from to right n v apart met = λ t. at (sym (cut_node_in n) t) (sym (depth_met plan v apart from.node met) t)
  where
    at : ℕ → ℕ → View
    at node depth = counted (record (shown v) {
      told = met_at (depth + 1) node (shown v).told;
      glances = record { node = node; low = to.low; high = to.high; whole = to.whole } ∷ (shown v).glances;
    })
