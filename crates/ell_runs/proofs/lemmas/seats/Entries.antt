use Rattle.std.proofs.Common.{◌≡◌, ◌≢◌, refl, ℕ, ◌≤◌, ◌+◌, ◌*◌, ◌<◌, ap, ◌==◌, if◌then◌else◌, eq-eqb, eqb-true, Bool, true, false, List, [], ◌∷◌, sym, ◌∙◌, arith, true≢false}
use Rattle.ell_word.specs.Node.{card, IsInternal}
use Rattle.ell_word.specs.declared.update.State.{State}
use Rattle.ell_word.specs.declared.update.State.TheVariants as state
use Rattle.ell_core.specs.declared.fact.Fact.{Fact}
use Rattle.ell_layout.specs.declared.field.Field.{Field}
use Rattle.ell_layout.specs.declared.field.Field.TheVariants as field
use Rattle.ell_layout.specs.Words.{Words, word}
use Rattle.ell_core.specs.state.Facts.{known_of, learned_any, told_by_state}
use Rattle.ell_core.specs.soundness.Sound.{flags_at}
use Rattle.ell_core.specs.history.Stages.{Stages, Born}
use Rattle.ell_runs.proofs.lemmas.views.Depths.{depth_at_most}
use Rattle.ell_runs.proofs.lemmas.Ranks.{level_same, level_rises}
use Rattle.ell_core.specs.tree.Rank.{rank}
use Rattle.ell_core.specs.history.Later.{WordsLater, StagesLater}
use Rattle.ell_runs.specs.declared.view.Told.{Told}
use Rattle.ell_runs.specs.declared.view.Told.TheVariants.{Met, Depth, Key, Value, Info, Frozen, Expects}
use Rattle.ell_runs.specs.Views.{Has, latest, earlier}
use Rattle.ell_runs.specs.Depths.{depth_told, met_at, level}
use Rattle.ell_runs.specs.Changes.{facts_by, places_by, told_value}
use Rattle.ell_runs.specs.Machines.{EntryHolds}
use Rattle.ell_core.specs.statements.Told.{is_fixed}

-- a fixed word of a claimed card stays
fixed_word : (old new : Words) (c : ℕ) → WordsLater old new → c < old.next → (f : Field) → is_fixed f ≡ true → word new c f ≡ word old c f
fixed_word old new c words low f fixed = by f fixed
  where
    in_card : (y : ℕ) → card y ≡ c → new.key y ≡ old.key y
    in_card y e = words.key y (omega arith)

    by : (g : Field) → is_fixed g ≡ true → word new c g ≡ word old c g
    by field.Gp e = (words.info c low).gp
    by field.P e = (words.info c low).p
    by field.L e = (words.info c low).l
    by field.Was e = (words.info c low).was
    by field.Key e = in_card (4 * c) (omega arith)
    by field.LeftLeafKey e = in_card (4 * c + 1) (omega arith)
    by field.RightLeafKey e = in_card (4 * c + 2) (omega arith)
    by field.LeftValue e = words.value (4 * c + 1) (omega arith)
    by field.RightValue e = words.value (4 * c + 2) (omega arith)
    by field.Left e = absurd (true≢false (sym e))
    by field.Right e = absurd (true≢false (sym e))
    by field.Update e = absurd (true≢false (sym e))

-- what was told lasts
pub entry_lasts : (old new : Words) (before after : Stages) (e : Told) → WordsLater old new → StagesLater before after → ((x : ℕ) → EntryHolds old before (Met x) → card x < old.next)
    → EntryHolds old before e → EntryHolds new after e
entry_lasts old new before after (Met x) words stages claimed h = stages.born x h
entry_lasts old new before after (Depth x d) words stages claimed h =
    let same = level_same old new x words.flat (words.key x (claimed x h.0)) in
    (stages.born x h.0, (let room = h.1 in omega arith))
entry_lasts old new before after (Key x key) words stages claimed h =
    (stages.born x h.0, words.key x (claimed x h.0) ∙ h.1)
entry_lasts old new before after (Value x value) words stages claimed h =
    (stages.born x h.0, words.value x (claimed x h.0) ∙ h.1)
entry_lasts old new before after (Info c f x) words stages claimed h =
    let low = h.0 in
    let more = words.next in
    (omega arith, h.1, fixed_word old new c words h.0 f h.1 ∙ h.2)
entry_lasts old new before after (Expects c tag) words stages claimed h =
    let low = h.0 in
    let more = words.next in
    (omega arith, (words.info c h.0).expects ∙ h.1)
entry_lasts old new before after (Frozen c right x) words stages claimed h =
    let low = h.0 in
    let more = words.next in
    let p = (words.info c h.0).p in
    let same = words.frozen (old.p c) c h.1 in
    (omega arith, ap new.update p ∙ (same.update ∙ h.1), ap (λ y. new.child y right) p ∙ (same.child right ∙ h.2), stages.born x h.3)

-- the value that was told of a leaf the last time is its value
pub told_value_is : (w : Words) (stage : Stages) (told : List Told) (x value : ℕ) → ((e : Told) → Has told e → EntryHolds w stage e)
    → Has told (Value x value) → told_value told x ≡ w.value x
told_value_is w stage [] x value old none = elim none [ ]
told_value_is w stage (_ ∷ es) x value old (latest _ _) =
    ap (λ t. if t then value else told_value es x) (eq-eqb x x refl) ∙ sym (old (Value x value) (latest (Value x value) es)).1
told_value_is w stage (d ∷ es) x value old (earlier _ _ _ h) = by d old (told_value_is w stage es x value (λ e g. old e (earlier e d es g)) h)
  where
    by : (d : Told) → ((e : Told) → Has (d ∷ es) e → EntryHolds w stage e) → told_value es x ≡ w.value x → told_value (d ∷ es) x ≡ w.value x
    by (Value y n) holds rest = at (y == x) refl
      where
        at : (b : Bool) → (y == x) ≡ b → (if b then n else told_value es x) ≡ w.value x
        at true same = sym (holds (Value y n) (latest (Value y n) es)).1 ∙ ap w.value (eqb-true y x same)
        at false other = rest
    by (Met y) holds rest = rest
    by (Depth y d) holds rest = rest
    by (Key y n) holds rest = rest
    by (Info c f n) holds rest = rest
    by (Expects c tag) holds rest = rest
    by (Frozen c right n) holds rest = rest

-- what is so of each entry of a list is so of each of the list with one more
pub with_entry : (P : Told → Type 0) (d : Told) (es : List Told) → P d → ((e : Told) → Has es e → P e) → (e : Told) → Has (d ∷ es) e → P e
with_entry P d es first rest e (latest _ _) = first
with_entry P d es first rest e (earlier _ _ _ h) = rest e h

-- what an update tells at a node that its card flags or marks
pub places_hold : (w : Words) (stage : Stages) (x : ℕ) (st : State) (c : ℕ) (told : List Told) → c < w.next
    → (st ≢ state.Clean → flags_at w st c ≡ x) → ((e : Told) → Has told e → EntryHolds w stage e)
    → (e : Told) → Has (places_by x st c told) e → EntryHolds w stage e
places_hold w stage x state.IFlag c told low at old = with_entry (EntryHolds w stage) (Info c field.P x) told (low, refl, at (λ e. (cc))) old
places_hold w stage x state.DFlag c told low at old = with_entry (EntryHolds w stage) (Info c field.Gp x) told (low, refl, at (λ e. (cc))) old
places_hold w stage x state.Mark c told low at old = with_entry (EntryHolds w stage) (Info c field.P x) told (low, refl, at (λ e. (cc))) old
places_hold w stage x state.Clean c told low at old = old

-- what the worker knows once an update was found
pub facts_known : (st : State) (c : ℕ) (facts : List Fact) → known_of (facts_by st c facts) ≡ learned_any (known_of facts) (told_by_state st c)
facts_known state.IFlag c facts = refl
facts_known state.DFlag c facts = refl
facts_known state.Mark c facts = refl
facts_known state.Clean c facts = refl

-- no depth that was told of a node is more than its level
pub told_within : (w : Words) (stage : Stages) (told : List Told) → ((e : Told) → Has told e → EntryHolds w stage e) → (x : ℕ)
    → depth_told told x ≤ level w x
told_within w stage told old x = depth_at_most told x (level w x) (λ d h. (old (Depth x d) h).1)

-- a node that came into the tree is met, at no more than its level
pub met_holds : (w : Words) (stage : Stages) (depth x : ℕ) (told : List Told) → Born stage x → depth ≤ level w x
    → ((e : Told) → Has told e → EntryHolds w stage e) → (e : Told) → Has (met_at depth x told) e → EntryHolds w stage e
met_holds w stage depth x told born room old =
    with_entry (EntryHolds w stage) (Met x) (Depth x depth ∷ told) born (with_entry (EntryHolds w stage) (Depth x depth) told (born, room) old)

-- so it is below an internal node of a lesser rank
pub below_holds : (w : Words) (stage : Stages) (above x : ℕ) (told : List Told) → Born stage x → IsInternal above → rank w above < rank w x
    → ((e : Told) → Has told e → EntryHolds w stage e)
    → (e : Told) → Has (met_at (depth_told told above + 1) x told) e → EntryHolds w stage e
below_holds w stage above x told born inner deeper old =
    met_holds w stage (depth_told told above + 1) x told born
    (let at = told_within w stage told old above in let rises = level_rises w above x inner deeper in omega arith) old
