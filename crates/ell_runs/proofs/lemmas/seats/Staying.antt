use Rattle.std.proofs.Common.{◌≡◌, ◌==◌, ℕ, ◌%◌, ◌<◌, ◌≤◌, false, List, [], ◌∷◌, Option, Some, refl, ap, inl, inr, arith, Bool, if◌then◌else◌, true, subst}
use Rattle.ell_ops.specs.declared.op.Op.{Op}
use Rattle.ell_ops.specs.declared.op.Op.TheVariants.{Insert, Delete, Swap}
use Rattle.ell_word.specs.Node.{card}
use Rattle.ell_word.specs.Word.{packed, unpacked}
use Rattle.ell_core.specs.declared.fact.Fact.TheVariants.{IFlagged, DFlagged, Marked}
use Rattle.ell_layout.specs.declared.field.Field.{Field}
use Rattle.ell_layout.specs.declared.field.Field.TheVariants as field
use Rattle.ell_layout.specs.Words.{key_field, value_field, child_field}
use Rattle.ell_layout.specs.Layout.{address, table_size}
use Rattle.ell_layout.proofs.lemmas.Listed.{place_small}
use Rattle.ell_runs.specs.declared.call.Call.{Call}
use Rattle.ell_runs.specs.declared.call.Call.TheVariants as call
use Rattle.ell_runs.specs.declared.call.NewNode.{NewNode}
use Rattle.ell_runs.specs.declared.view.View.{View}
use Rattle.ell_runs.specs.declared.view.Told.TheVariants.{Met, Info}
use Rattle.ell_runs.specs.Views.{KnowsCard}
use Rattle.ell_runs.specs.Plans.{TablePlan}
use Rattle.ell_runs.specs.Changes.{ledger_keys, with_entry, answered_ledger, after_claim, after_mark, after_flag, is_mark_of, with_fact, unmarking}
use Rattle.ell_runs.specs.Calls.{word_of, after, May}
use Rattle.ell_runs.specs.Naming.{IsNamed}
use Rattle.ell_runs.specs.Views.{SameShare}
use Rattle.ell_runs.proofs.lemmas.seats.LedgersStay.{claim_ledger, flag_ledger, mark_ledger, claim_list, flag_list, mark_list}
use Rattle.ell_core.specs.declared.view.Entry.{Entry}
use Rattle.ell_core.specs.declared.view.Entry.TheVariants.{Present, Absent}
use Rattle.ell_ops.specs.declared.reply.Reply.{Reply}
use Rattle.ell_ops.specs.declared.reply.Reply.TheVariants.{Yes, Found}
use Rattle.ell_core.specs.declared.fact.Fact.{Fact}
use Rattle.ell_word.specs.declared.update.Update.{Update}
use Rattle.ell_runs.specs.Guards.{KnowsSaying}

-- settling a key leaves the keys
settled_keys : (k : ℕ) (b : Entry) (l : List (ℕ × Entry)) → ledger_keys (with_entry k b l) ≡ ledger_keys l
settled_keys k b [] = refl
settled_keys k b (e ∷ es) = ap (λ ks. e.0 ∷ ks) (settled_keys k b es)

answered_keys : (o : Option Op) (said : Reply) (l : List (ℕ × Entry)) → ledger_keys (answered_ledger o said l) ≡ ledger_keys l
answered_keys (Some (Insert k value)) Yes l = settled_keys k (Present value) l
answered_keys (Some (Delete k)) Yes l = settled_keys k Absent l
answered_keys (Some (Swap k was value)) (Found there) l = by (there == was)
  where
    by : (b : Bool) → ledger_keys (if b then with_entry k (Present value) l else l) ≡ ledger_keys l
    by true = settled_keys k (Present value) l
    by false = refl
answered_keys _ _ l = refl

-- no step call changes which keys a pass owns
pub keys_stay : (c : Call) (n : ℕ) (v : View) → ledger_keys (after c n v).worker.ledger ≡ ledger_keys v.worker.ledger
keys_stay (call.Answer said took) n v = answered_keys v.worker.operation said v.worker.ledger
keys_stay (call.Claim c q) n v = ap ledger_keys (claim_ledger (n == c) c q v)
keys_stay (call.IFlag c p from) n v = ap ledger_keys (flag_ledger (n == packed from) (IFlagged c) p (unpacked n) v)
keys_stay (call.DFlag c gp from) n v = ap ledger_keys (flag_ledger (n == packed from) (DFlagged c) gp (unpacked n) v)
keys_stay (call.Mark c p was) n v = ap ledger_keys (mark_ledger (n == was) c p (unpacked n) v)
keys_stay _ n v = refl

-- nor the keys that may have an owner, as it knows them
pub owned_stays : (c : Call) (n : ℕ) (v : View) → (after c n v).worker.shared ≡ v.worker.shared
owned_stays (call.Claim c q) n v = claim_list (n == c) c q v
owned_stays (call.IFlag c p from) n v = flag_list (n == packed from) (IFlagged c) p (unpacked n) v
owned_stays (call.DFlag c gp from) n v = flag_list (n == packed from) (DFlagged c) gp (unpacked n) v
owned_stays (call.Mark c p was) n v = mark_list (n == was) c p (unpacked n) v
owned_stays _ n v = refl

-- nor the share
share_claim : (b : Bool) (c : ℕ) (q : NewNode) (v : View) → (after_claim b c q v).share ≡ v.share
share_claim true c q v = refl
share_claim false c q v = refl

share_flag : (b : Bool) (new : Fact) (x : ℕ) (u : Update) (v : View) → (after_flag b new x u v).share ≡ v.share
share_flag true new x u v = refl
share_flag false new x u v = refl

share_mark : (b : Bool) (c x : ℕ) (u : Update) (v : View) → (after_mark b c x u v).share ≡ v.share
share_mark true c x u v = refl
share_mark false c x u v = by (is_mark_of c u.state u.card)
  where
    by : (b : Bool) → (if b then with_fact (Marked c) v else unmarking c x u v).share ≡ v.share
    by true = refl
    by false = refl

pub share_stays : (c : Call) (n : ℕ) (v : View) → (after c n v).share ≡ v.share
share_stays (call.Claim c q) n v = share_claim (n == c) c q v
share_stays (call.IFlag c p from) n v = share_flag (n == packed from) (IFlagged c) p (unpacked n) v
share_stays (call.DFlag c gp from) n v = share_flag (n == packed from) (DFlagged c) gp (unpacked n) v
share_stays (call.Mark c p was) n v = share_mark (n == was) c p (unpacked n) v
share_stays _ n v = refl

pub same_share : (c : Call) (n : ℕ) (v : View) → SameShare v (after c n v)
same_share c n v = record { share = share_stays c n v; ownable = owned_stays c n v }

-- a field of a card of the table has its address there
address_fits : (cards c : ℕ) (f : Field) → c ≤ cards → address c f < table_size cards
address_fits cards c f low = let small = place_small f in omega arith

-- a card for whose word a pass may ask is known flagged or marked
pub known_by : (v : View) (c : ℕ) (f : Field) → KnowsSaying v c f → KnowsCard v c
known_by v c f (inl insert) = inl insert.0
known_by v c f (inr delete) = inr delete.0

-- a known card is one of the table
pub known_fits : (cards : ℕ) (v : View) (c : ℕ) → IsNamed cards v → KnowsCard v c → c ≤ cards
known_fits cards v c named (inl k) = named.facts (IFlagged c) k
known_fits cards v c named (inr (inl k)) = named.facts (DFlagged c) k
known_fits cards v c named (inr (inr k)) = named.facts (Marked c) k

-- the word that a call touches is in the table
pub word_fits : (plan : TablePlan) (c : Call) (v : View) → May plan c v → (last : ℕ) → IsNamed last v → word_of c < table_size last
word_fits plan (call.Upd x) v may last named = address_fits last (card x) field.Update (named.node x may.stands)
word_fits plan (call.Down x right) v may last named = address_fits last (card x) (child_field right) (named.node x may.stands)
word_fits plan (call.KeyOf x) v may last named = address_fits last (card x) (key_field (x % 4)) (named.entries (Met x) may)
word_fits plan (call.ValueOf x) v may last named = address_fits last (card x) (value_field (x % 4)) (named.entries (Met x) may.0)
word_fits plan (call.Info c f) v may last named = address_fits last c f (known_fits last v c named (known_by v c f may.knows))
word_fits plan (call.FrozenChild c p right) v may last named = address_fits last (card p) (child_field right) (named.entries (Info c field.P p) may.place).1
word_fits plan call.Look v may last named = address_fits last 0 (child_field false) (omega arith)
word_fits plan (call.LookDown from key right) v may last named = address_fits last (card from.node) (child_field right) (named.entries (Met from.node) may.met)
word_fits plan (call.Fill c f value) v may last named = address_fits last c f (named.hand c may.holds)
word_fits plan (call.IFlag c p from) v may last named = address_fits last (card p) field.Update
    (subst (λ y. card y ≤ last) may.node (named.parent may.leaf _ may.stands may.behind).node)
word_fits plan (call.IChild c p l replaces right) v may last named = address_fits last (card p) (child_field right) (named.entries (Info c field.P p) may.parent).1
word_fits plan (call.IUnflag c p) v may last named = address_fits last (card p) field.Update (named.entries (Info c field.P p) may.place).1
word_fits plan (call.DFlag c gp from) v may last named =
    address_fits last (card gp) field.Update
    (subst (λ y. card y ≤ last) may.node (named.grandparent may.leaf may.parent _ may.stands may.behind may.above).node)
word_fits plan (call.Mark c p was) v may last named = address_fits last (card p) field.Update (named.entries (Info c field.P p) may.0.place).1
word_fits plan (call.DChild c gp p sibling right) v may last named =
    address_fits last (card gp) (child_field right) (named.entries (Info c field.Gp gp) may.grandparent).1
word_fits plan (call.DUnflag c gp) v may last named = address_fits last (card gp) field.Update (named.entries (Info c field.Gp gp) may.place).1
word_fits plan (call.Backtrack c gp) v may last named = address_fits last (card gp) field.Update (named.entries (Info c field.Gp gp) may.place).1
word_fits plan _ v may last named = omega arith
