use Rattle.std.proofs.Common.{◌≡◌, ◌≢◌, ℕ, false, cond, not, Some, None, unwrap_or, All, List, [], ◌∷◌, ◌++◌, eqb, refl, ap, ap₂, sym, ◌∙◌, ⊎_elim}
use Rattle.std.specs.Prelude.{filter, ◌==◌, is_some}
use Rattle.std.proofs.lemmas.Bool.{cases_Bool, ne_eqb, eqb-false, cond-true, cond-false}
use Rattle.std.proofs.lemmas.List.Elements.{All-head, All-tail, All-weaker, filter-append}
use Rattle.ell_ops.specs.declared.Op.{Op}
use Rattle.ell_ops.specs.declared.Op.TheVariants.{Find, Insert, Delete, Swap}
use Rattle.ell_ops.specs.Contents.{Contents, swapped}
use Rattle.ell_ops.specs.Meaning.{key_of, reply_of, after, replies, final, yes_if, found}

-- the operations on a key
abbrev pub on_key : ℕ → List Op → List Op
on_key key ops = filter (λ op. key_of op == key) ops

-- maps that agree at a key agree there after an operation
pub after_alike : (op : Op) (s t : Contents) (key : ℕ) → s key ≡ t key → after op s key ≡ after op t key
after_alike (Find k) s t key same = same
after_alike (Insert k value) s t key same = ap (λ o. cond (eqb key k) (Some (unwrap_or o value)) o) same
after_alike (Delete k) s t key same = ap (cond (eqb key k) None) same
after_alike (Swap k was value) s t key same = ap (λ o. cond (eqb key k) (swapped o was value) o) same

-- an operation on another key leaves the key as it is
after_other : (op : Op) (s : Contents) (key : ℕ) → eqb (key_of op) key ≡ false → after op s key ≡ s key
after_other (Find k) s key other = refl
after_other (Insert k value) s key other = cond-false (eqb key k) (Some (unwrap_or (s key) value)) (s key) (ne_eqb key k (λ e. eqb-false k key other (sym e)))
after_other (Delete k) s key other = cond-false (eqb key k) None (s key) (ne_eqb key k (λ e. eqb-false k key other (sym e)))
after_other (Swap k was value) s key other = cond-false (eqb key k) (swapped (s key) was value) (s key) (ne_eqb key k (λ e. eqb-false k key other (sym e)))

pub final_on_key : (ops : List Op) (s t : Contents) (key : ℕ) → s key ≡ t key → final s ops key ≡ final t (on_key key ops) key
final_on_key [] s t key same = same
final_on_key (op ∷ ops) s t key same =
    ⊎_elim
    (λ on. final_on_key ops (after op s) (after op t) key (after_alike op s t key same)
    ∙ ap (λ xs. final t xs key) (sym (cond-true (eqb (key_of op) key) (op ∷ on_key key ops) (on_key key ops) on)))
    (λ off. final_on_key ops (after op s) t key (after_other op s key off ∙ same)
    ∙ ap (λ xs. final t xs key) (sym (cond-false (eqb (key_of op) key) (op ∷ on_key key ops) (on_key key ops) off)))
    (cases_Bool (eqb (key_of op) key))

-- so lists with the same operations on a key do the same to it
pub final_alike : (xs ys : List Op) (s t : Contents) (key : ℕ) → s key ≡ t key → on_key key xs ≡ on_key key ys → final s xs key ≡ final t ys key
final_alike xs ys s t key same alike =
    final_on_key xs s t key same ∙ ap (λ zs. final t zs key) alike ∙ sym (final_on_key ys t t key refl)

-- a list in two parts
pub final-append : (xs ys : List Op) (s : Contents) → final s (xs ++ ys) ≡ final (final s xs) ys
final-append [] ys s = refl
final-append (x ∷ xs) ys s = final-append xs ys (after x s)

-- the reply to an operation goes by its key alone
pub reply_alike : (op : Op) (s t : Contents) → s (key_of op) ≡ t (key_of op) → reply_of op s ≡ reply_of op t
reply_alike (Find k) s t same = ap found same
reply_alike (Insert k value) s t same = ap (λ o. yes_if (not (is_some o))) same
reply_alike (Delete k) s t same = ap (λ o. yes_if (is_some o)) same
reply_alike (Swap k was value) s t same = ap found same

-- so maps that agree at a key agree there after a list
pub final_agree : (ops : List Op) (s t : Contents) (key : ℕ) → s key ≡ t key → final s ops key ≡ final t ops key
final_agree ops s t key same = final_alike ops ops s t key same refl

-- the replies to a list go by its keys alone
pub replies_alike : (ops : List Op) (s t : Contents) → All (λ op. s (key_of op) ≡ t (key_of op)) ops → replies s ops ≡ replies t ops
replies_alike [] s t same = refl
replies_alike (op ∷ ops) s t same =
    ap₂ ◌∷◌ (reply_alike op s t (All-head (λ o. s (key_of o) ≡ t (key_of o)) op ops same))
    (replies_alike ops (after op s) (after op t)
    (All-weaker (λ o. s (key_of o) ≡ t (key_of o)) (λ o. after op s (key_of o) ≡ after op t (key_of o)) (λ o e. after_alike op s t (key_of o) e) ops
    (All-tail (λ o. s (key_of o) ≡ t (key_of o)) op ops same)))

-- the operations on a key of two lists
pub on_key-append : (key : ℕ) (xs ys : List Op) → on_key key (xs ++ ys) ≡ on_key key xs ++ on_key key ys
on_key-append key xs ys = filter-append (λ op. eqb (key_of op) key) xs ys

-- a list without the key has nothing on it
pub none_on_key : (ops : List Op) (key : ℕ) → All (λ op. key_of op ≢ key) ops → on_key key ops ≡ []
none_on_key [] key none = refl
none_on_key (op ∷ ops) key none =
    cond-false (eqb (key_of op) key) (op ∷ on_key key ops) (on_key key ops) (ne_eqb (key_of op) key (All-head (λ o. key_of o ≢ key) op ops none))
    ∙ none_on_key ops key (All-tail (λ o. key_of o ≢ key) op ops none)
