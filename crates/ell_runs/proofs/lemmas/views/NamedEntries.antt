use Rattle.std.proofs.Common.{◌≡◌, ◌≢◌, ℕ, if◌then◌else◌, Option, Some, None, List, [], ◌∷◌, refl, sym, subst}
use Rattle.ell_ops.specs.declared.op.Op.{Op}
use Rattle.ell_ops.specs.declared.op.Op.TheVariants.{Find, Insert, Delete, Swap}
use Rattle.ell_word.specs.Link.{link_in}
use Rattle.ell_word.specs.declared.update.State.{State}
use Rattle.ell_word.specs.declared.update.State.TheVariants as state
use Rattle.ell_layout.specs.declared.field.Field.{Field}
use Rattle.ell_layout.specs.declared.field.Field.TheVariants as field
use Rattle.ell_core.specs.declared.view.Seen.{Seen}
use Rattle.ell_core.specs.statements.Told.{is_fixed}
use Rattle.ell_core.proofs.lemmas.outcomes.Decide.{some_not_none}
use Rattle.ell_runs.specs.declared.view.Told.{Told}
use Rattle.ell_runs.specs.declared.view.Told.TheVariants.{Met, Depth, Key, Value, Info, Expects, Frozen}
use Rattle.ell_runs.specs.declared.view.View.{View}
use Rattle.ell_runs.specs.Depths.{met_at}
use Rattle.ell_runs.specs.Views.{Has, latest, earlier}
use Rattle.ell_runs.specs.Changes.{forgotten, places_by, told_info, told_filling, filling_for}
use Rattle.ell_runs.specs.Guards.{Wants}
use Rattle.ell_runs.proofs.lemmas.views.Depths.{met_more, met_there}
use Rattle.ell_runs.proofs.lemmas.views.Entries.{filling_more}
use Rattle.ell_runs.specs.declared.call.NewNode.{NewNode}

-- where a card goes, by one of its words, is a node that by this list was met
abbrev pub InfoIn : List Told → Field → ℕ → Type 0
InfoIn told field.Gp x = Has told (Met x)
InfoIn told field.P x = Has told (Met x)
InfoIn told _ x = Unit {0}

-- so is the node that an entry names
abbrev pub EntryIn : List Told → Told → Type 0
EntryIn told (Met x) = Unit {0}
EntryIn told (Depth x d) = Has told (Met x)
EntryIn told (Key x key) = Has told (Met x)
EntryIn told (Value x value) = Has told (Met x)
EntryIn told (Info c f x) = InfoIn told f x
EntryIn told (Expects c tag) = Unit {0}
EntryIn told (Frozen c right x) = Has told (Met x)

-- each entry of a list names a node that by the list was met
abbrev pub AllIn : List Told → Type 0
AllIn told = (e : Told) → Has told e → EntryIn told e

-- which is so of a list by which no fewer were met
info_on : (old new : List Told) → ((x : ℕ) → Has old (Met x) → Has new (Met x)) → (f : Field) (x : ℕ) → InfoIn old f x → InfoIn new f x
info_on old new more field.Gp x h = more x h
info_on old new more field.P x h = more x h
info_on old new more f x h = tt

entry_on : (old new : List Told) → ((x : ℕ) → Has old (Met x) → Has new (Met x)) → (e : Told) → EntryIn old e → EntryIn new e
entry_on old new more (Met x) h = tt
entry_on old new more (Depth x d) h = more x h
entry_on old new more (Key x key) h = more x h
entry_on old new more (Value x value) h = more x h
entry_on old new more (Info c f x) h = info_on old new more f x h
entry_on old new more (Expects c tag) h = tt
entry_on old new more (Frozen c right x) h = more x h

-- one entry more
pub first_in : (told : List Told) (e : Told) → AllIn told → EntryIn (e ∷ told) e → AllIn (e ∷ told)
first_in told e h new d (latest _ _) = new
first_in told e h new d (earlier _ _ _ at) = entry_on told (e ∷ told) (λ x. earlier (Met x) e told) d (h d at)

-- the root alone
pub forgotten_in : AllIn forgotten
forgotten_in e (latest _ _) = tt
forgotten_in e (earlier _ _ _ at) = elim at [ ]

-- a node with its depth
pub met_in : (depth x : ℕ) (told : List Told) → AllIn told → AllIn (met_at depth x told)
met_in depth x told h e (latest _ _) = tt
met_in depth x told h e (earlier _ _ _ (latest _ _)) = met_there depth x told
met_in depth x told h e (earlier _ _ _ (earlier _ _ _ at)) = entry_on told (met_at depth x told) (λ y. met_more depth x told (Met y)) e (h e at)

-- what a flag or a mark tells
pub places_in : (x : ℕ) (st : State) (c : ℕ) (told : List Told) → Has told (Met x) → AllIn told → AllIn (places_by x st c told)
places_in x state.IFlag c told met h = first_in told (Info c field.P x) h (earlier _ _ _ met)
places_in x state.DFlag c told met h = first_in told (Info c field.Gp x) h (earlier _ _ _ met)
places_in x state.Mark c told met h = first_in told (Info c field.P x) h (earlier _ _ _ met)
places_in x state.Clean c told met h = h

-- a word of a card
pub info_in : (depth c : ℕ) (f : Field) (x : ℕ) (told : List Told) → AllIn told → AllIn (told_info depth c f x told)
info_in depth c field.Gp x told h = first_in (Met x ∷ told) (Info c field.Gp x) (first_in told (Met x) h tt) (earlier _ _ _ (latest _ _))
info_in depth c field.P x told h =
    first_in (met_at depth x told) (Info c field.P x) (met_in depth x told h) (earlier _ _ _ (met_there depth x told))
info_in depth c field.L x told h =
    first_in (Expects c (link_in x).tag ∷ told) (Info c field.L (link_in x).node) (first_in told (Expects c (link_in x).tag) h tt) tt
info_in depth c f x told h = first_in told _ h tt

-- what fills a card names nodes that were met, but for the leaf
abbrev pub FillingIn : List Told → List (Field × ℕ) → Type 0
FillingIn told [] = Unit {0}
FillingIn told (e ∷ es) = InfoIn told e.0 e.1 × FillingIn told es

fixed_in : (c : ℕ) (f : Field) (x : ℕ) (told : List Told) → InfoIn told f x → AllIn told → AllIn (if is_fixed f then Info c f x ∷ told else told)
fixed_in c field.Left x told so h = h
fixed_in c field.Right x told so h = h
fixed_in c field.Update x told so h = h
fixed_in c field.Gp x told so h = first_in told (Info c field.Gp x) h (earlier _ _ _ so)
fixed_in c field.P x told so h = first_in told (Info c field.P x) h (earlier _ _ _ so)
fixed_in c f x told so h = first_in told (Info c f x) h tt

pub filling_in : (c : ℕ) (es : List (Field × ℕ)) (told : List Told) → FillingIn told es → AllIn told → AllIn (told_filling c es told)
filling_in c [] told so h = h
filling_in c (d ∷ es) told so h =
    let rest = told_filling c es told in
    fixed_in c d.0 d.1 rest (info_on told rest (λ x. filling_more c es told (Met x)) d.0 d.1 so.0) (filling_in c es told so.1 h)

-- which is so where the search has met its parent and its grandparent
pub search_fills : (c : ℕ) (q : NewNode) (o : Option Op) (node : Option ℕ) (parent above : Option Seen) (key : ℕ) (value_of : ℕ → ℕ) (told : List Told)
    → ((seen : Seen) → parent ≡ Some seen → Has told (Met seen.node)) → ((seen : Seen) → above ≡ Some seen → Has told (Met seen.node))
    → FillingIn told (filling_for c q o node parent above key value_of)
search_fills c q (Some (Insert k value)) (Some x) (Some p) above key value_of told first second =
    (first p refl, (tt, (tt, (tt, (tt, (tt, (tt, (tt, (tt, (tt, tt))))))))))
search_fills c q (Some (Swap k was value)) (Some x) (Some p) above key value_of told first second =
    (first p refl, (tt, (tt, (tt, (tt, (tt, (tt, (tt, (tt, (tt, tt))))))))))
search_fills c q (Some (Delete k)) (Some x) (Some p) (Some g) key value_of told first second = (second g refl, (first p refl, (tt, (tt, tt))))
search_fills c q o stands parent above key value_of told first second = tt

-- for an operation that wants a card, with these nodes above where its search stands
abbrev pub HasAbove : Op → Option Seen → Type 0
HasAbove (Find k) above = ⊥
HasAbove (Insert k value) above = Unit {0}
HasAbove (Delete k) above = above ≢ None
HasAbove (Swap k was value) above = Unit {0}

pub wants_above : (from : ℕ) (v : View) (op : Op) (parent x key q : ℕ) → Wants from v op parent x key q → HasAbove op v.worker.search.grandparent
wants_above from v (Find k) parent x key q h = h
wants_above from v (Insert k value) parent x key q h = tt
wants_above from v (Delete k) parent x key q h = λ none. some_not_none h.grandparent none
wants_above from v (Swap k was value) parent x key q h = tt

-- the leaf of its card is where it stands
leaf_there : (c : ℕ) (q : NewNode) (op : Op) (x : ℕ) (p : Seen) (above : Option Seen) (key : ℕ) (value_of : ℕ → ℕ) (told : List Told) → HasAbove op above
    → Has (told_filling c (filling_for c q (Some op) (Some x) (Some p) above key value_of) told) (Info c field.L x)
leaf_there c q (Find k) x p above key value_of told has = absurd has
leaf_there c q (Insert k value) x p above key value_of told has = earlier _ _ _ (latest _ _)
leaf_there c q (Swap k was value) x p above key value_of told has = earlier _ _ _ (latest _ _)
leaf_there c q (Delete k) x p (Some g) key value_of told has = earlier _ _ _ (earlier _ _ _ (latest _ _))
leaf_there c q (Delete k) x p None key value_of told has = absurd (has refl)

pub leaf_filled : (c : ℕ) (q : NewNode) (o : Option Op) (node : Option ℕ) (parent above : Option Seen) (key : ℕ) (value_of : ℕ → ℕ) (told : List Told) (op : Op) (x : ℕ) (p : Seen)
    → o ≡ Some op → node ≡ Some x → parent ≡ Some p → HasAbove op above
    → Has (told_filling c (filling_for c q o node parent above key value_of) told) (Info c field.L x)
leaf_filled c q o node parent above key value_of told op x p does stands behind has =
    subst (λ a. Has (told_filling c (filling_for c q a node parent above key value_of) told) (Info c field.L x)) (sym does)
    (subst (λ a. Has (told_filling c (filling_for c q (Some op) a parent above key value_of) told) (Info c field.L x)) (sym stands)
    (subst (λ a. Has (told_filling c (filling_for c q (Some op) (Some x) a above key value_of) told) (Info c field.L x)) (sym behind)
    (leaf_there c q op x p above key value_of told has)))
