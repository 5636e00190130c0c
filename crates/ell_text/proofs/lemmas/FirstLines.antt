use Rattle.std.proofs.Common.{◌≡◌, ℕ, ◌+◌, ◌-◌, ◌<◌, ◌≤◌, Bool, true, false, ◌==◌, All, List, [], ◌∷◌, inl, inr, get_or, nat_le, ◌++◌, length, take, drop, Some, Ok, refl, sym, ap, ap₂, ◌∙◌, arith, append_assoc, length-append}
use Rattle.std.proofs.lemmas.Bool.{cond-false, cond-true, eq-eqb, eqb-true, false_from_ne_true, leb-true, ne_eqb}
use Rattle.std.proofs.lemmas.List.{get_or_default}
use Rattle.std.proofs.lemmas.List.Elements.{All-append, All-cons}
use Rattle.std.proofs.lemmas.List.Splits.{length-slice_split, slice_split_at, slice_split_first, slice_split_none}
use Rattle.std.proofs.lemmas.List.Sums.{AllPass-from_list_all, position_or_len_is}
use Rattle.std.proofs.Math.Seq.{take-append_seam, drop-append-add, get_or-append_seam}
use Rattle.std.proofs.Math.ListN.{get_or-append}
use Rattle.std.specs.List.{after_first, before_first, list_all, position_or_len, slice_split}
use Rattle.std.specs.Str.Lines.{lines_of_parts, strip_carriage_return}
use Rattle.ell_ops.specs.Meaning.{greatest_key}
use Rattle.ell_text.specs.declared.line.LineKind.{LineKind}
use Rattle.ell_text.specs.declared.line.LineKind.TheVariants as kind
use Rattle.ell_text.specs.declared.line.OpKind.TheVariants.{Find, Insert, Delete}
use Rattle.ell_text.specs.declared.line.Section.{Section}
use Rattle.ell_text.specs.declared.line.Section.TheVariants.{Head, Opening, Operations}
use Rattle.ell_text.specs.declared.version.Version.{Version}
use Rattle.ell_text.specs.Line.{HasKindInFront, IsFirstLine, IsValueInFront, has_value, key_behind, line_behind_name, line_from, line_kind_of, line_of, line_on, name_of, or_bad_key, or_bad_value, said_in, says_version, unless_skipped, value_behind}
use Rattle.ell_text.specs.Lines.{IsBehindLineEnd, is_skipped, is_space, lines}
use Rattle.ell_text.specs.Number.{IsNumberInFront, is_number, key_in, key_spelled}
use Rattle.ell_text.proofs.lemmas.Digits.{number_at_least}
use Rattle.ell_text.proofs.lemmas.Halves.{is_line_feed}

-- one part and others
parts_more : (x : List ℕ) (parts : List (List ℕ)) → 0 < length parts → lines_of_parts (x ∷ parts) ≡ strip_carriage_return x ∷ lines_of_parts parts
parts_more x [] some = absurd (omega arith)
parts_more x (y ∷ more) some = refl

-- the first line ends at the first line feed
pub first_line_some : (bytes : List ℕ) (i : ℕ) → i < length bytes → is_line_feed (get_or bytes i 0) ≡ true
    → ((k : ℕ) → k < i → is_line_feed (get_or bytes k 0) ≡ true → ⊥) → lines bytes ≡ strip_carriage_return (take i bytes) ∷ lines (drop (i + 1) bytes)
first_line_some bytes i within here before =
    let behind = drop (i + 1) bytes in
    let place : position_or_len is_line_feed bytes ≡ i =
    position_or_len_is is_line_feed bytes i 0 (omega (arith, within)) (λ k below. false_from_ne_true _ (before k below)) (λ _. here) in
    ap lines_of_parts (slice_split_first is_line_feed bytes 0 (omega (arith, place)) ∙ ap (λ n. take n bytes ∷ slice_split is_line_feed (drop (n + 1) bytes)) place)
    ∙ parts_more (take i bytes) (slice_split is_line_feed behind) (omega (arith, length-slice_split is_line_feed behind))

-- with no line feed all is one line
pub first_line_none : (bytes : List ℕ) → 0 < length bytes → ((k : ℕ) → k < length bytes → is_line_feed (get_or bytes k 0) ≡ true → ⊥) → lines bytes ≡ bytes ∷ []
first_line_none bytes some none =
    ap lines_of_parts (slice_split_none is_line_feed bytes
    (λ k d below. ap is_line_feed (get_or_default bytes k d 0 below) ∙ false_from_ne_true _ (none k below)))
    ∙ cond-false _ _ _ (ne_eqb (length bytes) 0 (λ e. absurd (omega arith)))

-- nothing has no line
pub nothing_left : (bytes : List ℕ) → (length bytes == 0) ≡ true → lines bytes ≡ []
nothing_left [] none = refl
nothing_left (b ∷ bytes) none = absurd (omega (arith, eqb-true (length (b ∷ bytes)) 0 none))

-- no byte is below a space: no line feed, and no carriage return
abbrev IsPrinted : List ℕ → Type 0
IsPrinted bytes = All (λ b. 32 ≤ b) bytes

not_stripped : (line : List ℕ) → IsPrinted line → strip_carriage_return line ≡ line
not_stripped [] printed = refl
not_stripped (b ∷ line) printed = cond-false _ _ _ (ne_eqb (get_or (b ∷ line) (length (b ∷ line) - 1) 0) 13 (λ e. absurd (omega (arith, e, printed (length (b ∷ line) - 1) 0 (omega arith)))))

line_before_feed : (front rest : List ℕ) → All (λ b. is_line_feed b ≡ false) front → lines (front ++ 10 ∷ rest) ≡ strip_carriage_return front ∷ lines rest
line_before_feed front rest none =
    ap lines_of_parts (slice_split_at is_line_feed front 10 rest none refl)
    ∙ parts_more front (slice_split is_line_feed rest) (omega (arith, length-slice_split is_line_feed rest))

no_feed : (line : List ℕ) → IsPrinted line → All (λ b. is_line_feed b ≡ false) line
no_feed line printed k d within = ne_eqb _ 10 (λ e. absurd (omega (arith, e, printed k d within)))

-- a carriage return at the end goes
stripped : (line : List ℕ) → strip_carriage_return (line ++ 13 ∷ []) ≡ line
stripped line =
    let place : length (line ++ 13 ∷ []) - 1 ≡ length line = omega (arith, length-append line (13 ∷ [])) in
    cond-true _ _ _ (eq-eqb (get_or (line ++ 13 ∷ []) (length (line ++ 13 ∷ []) - 1) 0) 13
    (ap (λ n. get_or (line ++ 13 ∷ []) n 0) place ∙ get_or-append_seam line 13 [] 0))
    ∙ ap (λ n. take n (line ++ 13 ∷ [])) place ∙ take-append_seam line (13 ∷ [])

line_ended : (line tail rest : List ℕ) → IsPrinted line → IsBehindLineEnd tail rest → lines (line ++ tail) ≡ line ∷ lines rest
line_ended line tail rest printed (inl feed) =
    ap (λ l. lines (line ++ l)) feed ∙ line_before_feed line rest (no_feed line printed)
    ∙ ap (λ l. l ∷ lines rest) (not_stripped line printed)
line_ended line tail rest printed (inr both) =
    let front = line ++ 13 ∷ [] in
    ap (λ l. lines (line ++ l)) both ∙ ap lines (sym (append_assoc line (13 ∷ []) (10 ∷ rest)))
    ∙ line_before_feed front rest (All-append (λ b. is_line_feed b ≡ false) line (13 ∷ []) (no_feed line printed)
    (All-cons (λ b. is_line_feed b ≡ false) 13 [] refl (λ k d within. absurd (omega (arith, within)))))
    ∙ ap (λ l. l ∷ lines rest) (stripped line)

tail_shorter : (tail rest : List ℕ) → IsBehindLineEnd tail rest → length rest < length tail
tail_shorter tail rest (inl feed) = omega (arith, ap length feed)
tail_shorter tail rest (inr both) = omega (arith, ap length both)

printed_number : (bytes : List ℕ) → is_number bytes ≡ true → IsPrinted bytes
printed_number bytes spelt k d within = omega (arith, number_at_least bytes k d spelt within)

printed_behind_space : (more : List ℕ) → IsPrinted more → IsPrinted (32 ∷ more)
printed_behind_space more printed = All-cons (λ b. 32 ≤ b) 32 more (omega arith) printed

-- a number ends where the next space stands
space_behind : (bytes more : List ℕ) → is_number bytes ≡ true → position_or_len is_space (bytes ++ 32 ∷ more) ≡ length bytes
space_behind bytes more spelt =
    position_or_len_is is_space (bytes ++ 32 ∷ more) (length bytes) 0 (omega (arith, length-append bytes (32 ∷ more)))
    (λ k below. ne_eqb _ 32 (λ e. absurd (omega (arith, e, get_or-append bytes (32 ∷ more) 0 k below, number_at_least bytes k 0 spelt below))))
    (λ _. ap is_space (get_or-append_seam bytes 32 more 0))

number_before : (bytes more : List ℕ) → is_number bytes ≡ true → before_first is_space (bytes ++ 32 ∷ more) ≡ bytes
number_before bytes more spelt = ap (λ n. take n (bytes ++ 32 ∷ more)) (space_behind bytes more spelt) ∙ take-append_seam bytes (32 ∷ more)

number_after : (bytes more : List ℕ) → is_number bytes ≡ true → after_first is_space (bytes ++ 32 ∷ more) ≡ more
number_after bytes more spelt = ap (λ n. drop (n + 1) (bytes ++ 32 ∷ more)) (space_behind bytes more spelt) ∙ drop-append-add bytes (32 ∷ more) 1

-- what stands behind a name up to the line's end, and what it says
record SaysBehind (valued : Bool) (text : List ℕ) (key value : ℕ) (tail : List ℕ) : Type 0 where
  pub more : List ℕ
  pub cut : text ≡ more ++ tail
  pub printed : IsPrinted more
  pub key_said : key_behind valued more ≡ Ok key
  pub value_said : value_behind valued more ≡ Ok value

says_behind : (valued : Bool) (text behind tail : List ℕ) (key value : ℕ) → IsNumberInFront greatest_key text key behind
    → IsValueInFront valued behind value tail → SaysBehind valued text key value tail
says_behind false text behind tail key value number none = record {
  more = number.digits;
  cut = number.cut ∙ ap (λ l. number.digits ++ l) (sym none.1);
  printed = printed_number number.digits number.spelt;
  key_said = ap or_bad_key number.value;
  value_said = ap Ok (sym none.0);
}
says_behind true text behind tail key value number some =
    let second = some.2 in
    let more = number.digits ++ 32 ∷ second.digits in
    record {
      more = more;
      cut = number.cut ∙ ap (λ l. number.digits ++ l) (some.1 ∙ ap (λ l. 32 ∷ l) second.cut) ∙ sym (append_assoc number.digits (32 ∷ second.digits) tail);
      printed = All-append (λ b. 32 ≤ b) number.digits (32 ∷ second.digits) (printed_number number.digits number.spelt)
          (printed_behind_space second.digits (printed_number second.digits second.spelt));
      key_said = ap (λ bytes. or_bad_key (key_in bytes)) (number_before number.digits second.digits number.spelt) ∙ ap or_bad_key number.value;
      value_said = ap (λ bytes. or_bad_value (key_spelled bytes)) (number_after number.digits second.digits number.spelt) ∙ ap or_bad_value second.value;
    }

-- a name, a space, and more
abbrev named_line : LineKind → List ℕ → List ℕ
named_line known more = name_of known ++ 32 ∷ more

printed_text : (bytes : List ℕ) → list_all (λ b. nat_le 32 b) bytes ≡ true → IsPrinted bytes
printed_text bytes all k d within = leb-true 32 (get_or bytes k d) (AllPass-from_list_all (λ b. nat_le 32 b) bytes all k d within)

name_printed : (known : LineKind) → IsPrinted (name_of known)
name_printed kind.Start = printed_text (name_of kind.Start) refl
name_printed (kind.Operation Find) = printed_text (name_of (kind.Operation Find)) refl
name_printed (kind.Operation Insert) = printed_text (name_of (kind.Operation Insert)) refl
name_printed (kind.Operation Delete) = printed_text (name_of (kind.Operation Delete)) refl

printed_line : (known : LineKind) (more : List ℕ) → IsPrinted more → IsPrinted (named_line known more)
printed_line known more printed = All-append (λ b. 32 ≤ b) (name_of known) (32 ∷ more) (name_printed known) (printed_behind_space more printed)

not_skipped : (known : LineKind) (more : List ℕ) → is_skipped (named_line known more) ≡ false
not_skipped kind.Start more = refl
not_skipped (kind.Operation Find) more = refl
not_skipped (kind.Operation Insert) more = refl
not_skipped (kind.Operation Delete) more = refl

no_version : (section : Section) (known : LineKind) (more : List ℕ) → says_version section (named_line known more) ≡ false
no_version Head kind.Start more = refl
no_version Head (kind.Operation Find) more = refl
no_version Head (kind.Operation Insert) more = refl
no_version Head (kind.Operation Delete) more = refl
no_version Opening known more = refl
no_version Operations known more = refl

name_before : (known : LineKind) (more : List ℕ) → before_first is_space (named_line known more) ≡ name_of known
name_before kind.Start more = refl
name_before (kind.Operation Find) more = refl
name_before (kind.Operation Insert) more = refl
name_before (kind.Operation Delete) more = refl

behind_name : (known : LineKind) (more : List ℕ) → after_first is_space (named_line known more) ≡ more
behind_name kind.Start more = refl
behind_name (kind.Operation Find) more = refl
behind_name (kind.Operation Insert) more = refl
behind_name (kind.Operation Delete) more = refl

read_named : (version : Version) (section : Section) (known : LineKind) (more : List ℕ) → line_kind_of section (name_of known) ≡ Some known
    → line_of version section (named_line known more) ≡ unless_skipped false (line_behind_name version (Some known) more)
read_named version section known more named =
    let line = named_line known more in
    ap (λ skips. unless_skipped skips (said_in version section line)) (not_skipped known more)
    ∙ ap (unless_skipped false) (cond-false _ _ _ (no_version section known more)
    ∙ ap₂ (line_behind_name version) (ap (line_kind_of section) (name_before known more) ∙ named) (behind_name known more))

-- a first line that is spelt plainly
pub plain_line : (version : Version) (section : Section) (text behind after tail rest : List ℕ) (known : LineKind) (key value : ℕ)
    → HasKindInFront section text known behind → IsNumberInFront greatest_key behind key after → IsValueInFront (has_value version known) after value tail
    → IsBehindLineEnd tail rest → IsFirstLine version section text (Ok (Some (line_on known key value))) rest
plain_line version section text behind after tail rest known key value front number valued ends =
    let says = says_behind (has_value version known) behind after tail key value number valued in
    let line = named_line known says.more in
    let whole : text ≡ line ++ tail = front.cut ∙ ap (named_line known) says.cut ∙ sym (append_assoc (name_of known) (32 ∷ says.more) tail) in
    record {
      line = line;
      cut = ap lines whole ∙ line_ended line tail rest (printed_line known says.more says.printed) ends;
      read_so = read_named version section known says.more front.named
          ∙ ap (unless_skipped false) (ap₂ (line_from known) says.key_said says.value_said);
      shorter = omega (arith, ap length whole, length-append line tail, tail_shorter tail rest ends);
    }
