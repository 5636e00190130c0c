use Rattle.std.proofs.Common.{◌≡◌, ◌≢◌, ◌+◌, ◌-◌, ◌<◌, ◌≤◌, ℕ, true, false, List, [], ◌∷◌, ◌++◌, length, get_or, Option, None, Some, Result, Ok, Err, OnOk, is_ok, nat_lt, refl, sym, ap, subst, ◌∙◌, arith, inr, ⊎_elim, codes}
use Rattle.std.proofs.lemmas.Bool.{cases_Bool, cases_eq, cond-true, cond-false, false≢true, ltb-true}
use Rattle.std.proofs.lemmas.List.{append-nil, get_or_append_left, get_or_at, length_push, map-append}
use Rattle.std.proofs.lemmas.List.Elements.{All-push}
use Rattle.std.proofs.lemmas.Map.Entries.{length-keys_of}
use Rattle.std.proofs.lemmas.Option.{get_or_from_slice_get, slice_get-map}
use Rattle.std.proofs.lemmas.Slice.Eq.{bytes_eq-Decides}
use Rattle.std.specs.List.{after_first, before_first}
use Rattle.std.specs.List.Sorted.{IsStrictlyIncreasing}
use Rattle.std.specs.Map.{keys_of}
use Rattle.std.specs.Option.{option_map, option_to_list}
use Rattle.std.specs.Prelude.{All, slice_get}
use Rattle.std.specs.Str.{bytes_eq}
use Rattle.ell_ops.proofs.lemmas.Places.{slice_get_below}
use Rattle.ell_ops.specs.declared.op.Op.{Op}
use Rattle.ell_ops.specs.Meaning.{Fits, greatest_key}
use Rattle.ell_text.specs.declared.line.Line.{Line}
use Rattle.ell_text.specs.declared.line.Line.TheVariants as says
use Rattle.ell_text.specs.declared.line.LineFault.{LineFault}
use Rattle.ell_text.specs.declared.line.LineFault.TheVariants.{BadOperation}
use Rattle.ell_text.specs.declared.line.LineKind.{LineKind}
use Rattle.ell_text.specs.declared.line.LineKind.TheVariants as kind
use Rattle.ell_text.specs.declared.line.Section.{Section}
use Rattle.ell_text.specs.declared.line.Section.TheVariants.{Head, Opening, Operations}
use Rattle.ell_text.specs.declared.version.Version.{Version}
use Rattle.ell_text.specs.declared.version.Version.TheVariants.{Two}
use Rattle.ell_text.specs.Bulk.{BulkFits, BulkValue, fault_of, fault_of_more, fault_of_said, last_start, next_section, operation_in, rises, section_behind, start_in, with_line, with_read}
use Rattle.ell_text.specs.Limits.{most_operations}
use Rattle.ell_text.specs.Line.{LineFits, kind_of, line_behind_name, line_from, line_kind_of, line_of, said_in, says_version, unless_skipped}
use Rattle.ell_text.specs.Lines.{is_skipped, is_space}

rises_last : (before : Option ℕ) (key last : ℕ) → rises before key ≡ true → before ≡ Some last → last < key
rises_last before key last rising is = ltb-true last key (sym (ap (λ found. rises found key) is) ∙ rising)

-- a key that is greater than the last of ascending ones goes behind them
ascending_behind : (start : List ℕ) (key : ℕ) → IsStrictlyIncreasing start → rises (slice_get start (length start - 1)) key ≡ true → IsStrictlyIncreasing (start ++ key ∷ [])
ascending_behind start key ascending rising i below = ⊎_elim
    (λ at_end.
    let inside : length start - 1 < length start = omega arith in
    let last = slice_get_below start (length start - 1) inside in
    let here : i ≡ length start - 1 = omega arith in
    let left : get_or (start ++ key ∷ []) i 0 ≡ last.0 =
    get_or_append_left start (key ∷ []) 0 i (omega arith) ∙ ap (λ n. get_or start n 0) here ∙ get_or_from_slice_get start _ last.0 0 last.1 in
    let right : get_or (start ++ key ∷ []) (i + 1) 0 ≡ key = get_or_at start key [] 0 (i + 1) (sym at_end) in
    let less : last.0 < key = rises_last _ key last.0 rising last.1 in
    rw (left, right) less)
    (λ inner.
    let long : length (start ++ key ∷ []) ≡ length start + 1 = length_push start key in
    let within : i + 1 < length start = omega arith in
    let left : get_or (start ++ key ∷ []) i 0 ≡ get_or start i 0 = get_or_append_left start (key ∷ []) 0 i (omega arith) in
    let right : get_or (start ++ key ∷ []) (i + 1) 0 ≡ get_or start (i + 1) 0 = get_or_append_left start (key ∷ []) 0 (i + 1) within in
    rw (left, right) (ascending i within))
    (cases_eq (i + 1) (length start))

keys_more : (start : List (ℕ × ℕ)) (key value : ℕ) → keys_of (start ++ (key, value) ∷ []) ≡ keys_of start ++ key ∷ []
keys_more start key value = map-append (λ pair. pair.0) start ((key, value) ∷ [])

last_key : (start : List (ℕ × ℕ)) → last_start start ≡ slice_get (keys_of start) (length (keys_of start) - 1)
last_key start = sym (slice_get-map (λ pair. pair.0) start (length start - 1)) ∙ ap (λ n. slice_get (keys_of start) (n - 1)) (sym (length-keys_of start))

ascending_push : (start : List (ℕ × ℕ)) (key value : ℕ) → IsStrictlyIncreasing (keys_of start) → rises (last_start start) key ≡ true
    → IsStrictlyIncreasing (keys_of (start ++ (key, value) ∷ []))
ascending_push start key value ascending rising =
    subst IsStrictlyIncreasing (sym (keys_more start key value))
    (ascending_behind (keys_of start) key ascending (sym (ap (λ last. rises last key) (last_key start)) ∙ rising))

-- there is room for one more
room : (number : ℕ) (b : BulkValue) → fault_of_more number b ≡ None → length b.start + length b.ops < most_operations
room number b none = ⊎_elim
    (λ less. ltb-true _ _ less)
    (λ full. let fault = sym (cond-false _ _ _ full) ∙ none in absurd cc)
    (cases_Bool (nat_lt (length b.start + length b.ops) most_operations))

-- a start key without a fault is greater than the one before it, and there is room for it
start_sound : (number key value : ℕ) (b : BulkValue) → fault_of_said number b (says.Start key value) ≡ None → (rises (last_start b.start) key ≡ true) × (fault_of_more number b ≡ None)
start_sound number key value b none = ⊎_elim
    (λ rising. (rising, sym (cond-true _ _ _ rising) ∙ none))
    (λ falling. let fault = sym (cond-false _ _ _ falling) ∙ none in absurd cc)
    (cases_Bool (rises (last_start b.start) key))

-- what fits still fits with one line more, where this has no fault
pub fits_more : (number : ℕ) (b : BulkValue) (line : Line) → BulkFits b → LineFits line → fault_of_said number b line ≡ None → BulkFits (with_line b line)
fits_more number b says.Version fits within none = record {
  version = inr refl;
  within = fits.within;
  start_keys = fits.start_keys;
  ascending = fits.ascending;
  keys = fits.keys;
}
fits_more number b (says.Start key value) fits within none =
    let sound = start_sound number key value b none in
    let space = room number b sound.1 in
    record {
      version = fits.version;
      within = omega (arith, length_push b.start (key, value));
      start_keys = subst (All (λ k. k ≤ greatest_key)) (sym (keys_more b.start key value)) (All-push (λ k. k ≤ greatest_key) (keys_of b.start) key fits.start_keys within);
      ascending = ascending_push b.start key value fits.ascending sound.0;
      keys = fits.keys;
    }
fits_more number b (says.Operation op) fits within none =
    let space = room number b none in
    record {
      version = fits.version;
      within = omega (arith, length_push b.ops op);
      start_keys = fits.start_keys;
      ascending = fits.ascending;
      keys = All-push Fits b.ops op fits.keys within;
    }

-- a fact of a value is one of each value that is there with it
pub on_ok_with : {T U E F : Type 0} {P Q : Type 0} (r : Result T E) (s : Result U F) → is_ok s ≡ is_ok r → (P → Q) → OnOk r P → OnOk s Q
on_ok_with (Ok x) (Ok y) same step fact = step fact
on_ok_with r (Err e) same step fact = tt
on_ok_with (Err e) (Ok y) same step fact = absurd cc

-- what is said in a version, with what one line adds to the start keys and to the operations
abbrev pub with_added : ℕ → BulkValue → Result (Option Line) LineFault → BulkValue
with_added version b r = record { version = version; start = b.start ++ option_to_list (start_in r); ops = b.ops ++ option_to_list (operation_in r) }

pub with_nothing : (b : BulkValue) → with_added b.version b (Ok None) ≡ b
with_nothing b = ap (λ start. record { version = b.version; start = start; ops = b.ops ++ [] }) (append-nil b.start)
    ∙ ap (λ ops. record { version = b.version; start = b.start; ops = ops }) (append-nil b.ops)

-- that is all that a line adds, if it does not say the version
pub with_pieces : (b : BulkValue) (r : Result Line LineFault) → r ≢ Ok says.Version → with_added b.version b (unless_skipped false r) ≡ with_read b (unless_skipped false r)
with_pieces b (Err fault) other = with_nothing b
with_pieces b (Ok says.Version) other = absurd (other refl)
with_pieces b (Ok (says.Start key value)) other = ap (λ ops. record { version = b.version; start = b.start ++ (key, value) ∷ []; ops = ops }) (append-nil b.ops)
with_pieces b (Ok (says.Operation op)) other = ap (λ start. record { version = b.version; start = start; ops = b.ops ++ op ∷ [] }) (append-nil b.start)

from_no_version : (known : LineKind) (key value : Result ℕ LineFault) → line_from known key value ≢ Ok says.Version
from_no_version known (Err fault) value is = cc
from_no_version known (Ok key) (Err fault) is = cc
from_no_version kind.Start (Ok key) (Ok value) is = cc
from_no_version (kind.Operation op) (Ok key) (Ok value) is = cc

-- a line with a name does not say the version
pub no_version : (version : Version) (known : Option LineKind) (rest : List ℕ) → line_behind_name version known rest ≢ Ok says.Version
no_version version None rest is = cc
no_version version (Some known) rest is = from_no_version known _ _ is

-- what a line says by its name and what stands behind it
abbrev pub by_name : Version → Section → List ℕ → Result Line LineFault
by_name version section line = line_behind_name version (line_kind_of section (before_first is_space line)) (after_first is_space line)

-- so it speaks, unless it is skipped or says the version
pub line_by_name : (version : Version) (section : Section) (line : List ℕ) → is_skipped line ≡ false → says_version section line ≡ false
    → line_of version section line ≡ unless_skipped false (by_name version section line)
line_by_name version section line spoken other =
    ap (λ skips. unless_skipped skips (said_in version section line)) spoken ∙ ap (unless_skipped false) (cond-false _ _ _ other)

-- in the opening a line says what it says elsewhere, where that is no bad name
pub name_in_opening : (version : Version) (section : Section) (line : List ℕ) → by_name version section line ≢ Err BadOperation
    → by_name version Opening line ≡ by_name version section line
name_in_opening version Head line named = refl
name_in_opening version Opening line named = refl
name_in_opening version Operations line named =
    let name = before_first is_space line in
    let rest = after_first is_space line in
    ⊎_elim
    (λ start.
    let unnamed : line_kind_of Operations name ≡ None = ap (λ n. option_map kind.Operation (kind_of n)) ((bytes_eq-Decides name (codes "start")).0 start) in
    absurd (named (ap (λ known. line_behind_name version known rest) unnamed)))
    (λ other. ap (λ known. line_behind_name version known rest) (cond-false _ _ _ other))
    (cases_Bool (bytes_eq name (codes "start")))

-- a line without a fault says something
pub says_without_fault : (number : ℕ) (b : BulkValue) (r : Result Line LineFault) → fault_of number b (unless_skipped false r) ≡ None → (line : Line) × (r ≡ Ok line)
says_without_fault number b (Ok line) none = (line, refl)
says_without_fault number b (Err fault) none = absurd cc

-- the line of the version stands at the head
pub at_head : (section : Section) (line : List ℕ) → says_version section line ≡ true → (section ≡ Head) × (line ≡ codes "version 2")
at_head Head line says = (refl, (bytes_eq-Decides line (codes "version 2")).0 says)
at_head Opening line says = absurd (false≢true says)
at_head Operations line says = absurd (false≢true says)

behind_version : (start : List (ℕ × ℕ)) (ops : List Op) → section_behind Two start ops ≢ Head
behind_version [] [] is = cc
behind_version (pair ∷ pairs) [] is = cc
behind_version [] (op ∷ ops) is = cc
behind_version (pair ∷ pairs) (op ∷ ops) is = cc

behind_start : (version : Version) (start : List (ℕ × ℕ)) (pair : ℕ × ℕ) (ops : List Op) → section_behind version (start ++ pair ∷ []) ops ≢ Head
behind_start version [] pair [] is = cc
behind_start version (first ∷ start) pair [] is = cc
behind_start version start pair (op ∷ ops) is = cc

behind_operation : (version : Version) (start : List (ℕ × ℕ)) (ops : List Op) (op : Op) → section_behind version start (ops ++ op ∷ []) ≢ Head
behind_operation version start [] op is = cc
behind_operation version start (first ∷ ops) op is = cc

-- the head ends with the first line that says something
pub past_head : (b : BulkValue) (line : Line) → next_section (with_line b line) ≢ Head
past_head b says.Version is = behind_version b.start b.ops is
past_head b (says.Start key value) is = behind_start _ b.start (key, value) b.ops is
past_head b (says.Operation op) is = behind_operation _ b.start b.ops op is
